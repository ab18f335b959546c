use Rattle.std.proofs.Common.{arith}
use Rattle.mea_marks.proofs.Lines.{read_on, read_all, read_full}
use Rattle.mea_marks.proofs.reading.read_script.Goals as goal

pub loop-script-preserved : goal.loop-script-preserved
loop-script-preserved g c = record {
  few = omega (arith, c.in-Ok-true.ensures.few);
  faults = omega (arith, c.read_piece.ensures.faults);
  told = λ whole is.
      let so_far = c.loop-script.invariant.told whole is in
      let took = c.in-Ok-true.ensures.took so_far.0 so_far.1 in
      (took.next, took.left_now, read_on whole _ so_far.0 took.piece took.next _ so_far.2 took.here took.put);
}

pub returns-in-Ok-false-clause-ok : goal.returns-in-Ok-false-clause-ok
returns-in-Ok-false-clause-ok g c = λ whole is.
    let so_far = c.loop-script.invariant.told whole is in
    let took = c.in-Ok-false.ensures.took so_far.0 so_far.1 in
    read_all whole _ c.loop-script.script.items so_far.0 took.piece took.next so_far.2 took.here took.put (took.end c.in-Ok-false.field-0-test) (omega arith)

pub returns-clause-ok : goal.returns-clause-ok
returns-clause-ok g c = λ whole is.
    let so_far = c.loop-script.invariant.told whole is in
    read_full whole _ so_far.0 so_far.2 (omega arith)
