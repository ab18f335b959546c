use Rattle.mea_picture.proofs.Drawing.{draws_more}
use Rattle.mea_picture.proofs.picture.put_marks.Goals as goal

pub loop-mark-preserved : goal.loop-mark-preserved
loop-mark-preserved c =
    draws_more c.args.marks.now c.loop-mark.mark-index _ _ c.args.text.now.items c.loop-mark.text.items c.put_group.new.text.items
    c.loop-mark-test.true c.loop-mark.invariant c.in_ok-put_group.ensures
