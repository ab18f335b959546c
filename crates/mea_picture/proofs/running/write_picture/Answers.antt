use Rattle.mea_marks.specs.Script.{seen}
use Rattle.mea_picture.proofs.Closing.{closes}
use Rattle.mea_picture.proofs.running.write_picture.Goals as goal

pub returns-in-Ok-clause-drawn : goal.returns-in-Ok-clause-drawn
returns-in-Ok-clause-drawn g c = λ before is.
    closes (seen c.args.past.now) c.in-Some.status c.write_last.result before c.as_slice.result.now _
    (rw c.as_slice.ensures.value c.in-Ok.ensures) c.in-Some.ensures.some.0 c.in-Some.ensures.some.1 (c.write_last.ensures.told before is)
