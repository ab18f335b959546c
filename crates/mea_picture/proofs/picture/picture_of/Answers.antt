use Rattle.mea_marks.specs.Script.{marks_of, seen}
use Rattle.mea_picture.proofs.Drawing.{is_picture}
use Rattle.mea_picture.proofs.picture.picture_of.Goals as goal

pub returns : goal.returns
returns c =
    is_picture (marks_of (seen c.args.past.now)) c.as_slice.result.now _ _ _ _ _ _ (cc (c.as_slice.ensures.value, c.in_ok-marks.ensures)) c.new-text.ensures.items
    c.in_ok-put_head.ensures c.in_ok-put_marks.ensures c.in_ok-put_text.ensures.ok
