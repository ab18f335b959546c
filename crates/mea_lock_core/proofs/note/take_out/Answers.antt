use Rattle.std.proofs.Common.{◌∙◌, ap, None}
use Rattle.mea_base.specs.WaitList.{get, Updates}
use Rattle.mea_base.proofs.Waits.{length-without}
use Rattle.mea_lock_core.proofs.Kept.{noted_left}
use Rattle.mea_sem_core.proofs.Leaves.{unlinked_after}
use Rattle.mea_lock_core.proofs.note.take_out.Goals as goal

pub remove_unlinked-requires-clause-unlinked : goal.remove_unlinked-requires-clause-unlinked
remove_unlinked-requires-clause-unlinked g c = rw c.unlink.ensures (unlinked_after c.args.number c.args.waiters.now.order)

pub returns-clause-shorter : goal.returns-clause-shorter
returns-clause-shorter g c = rw (c.remove_unlinked.ensures.order, c.unlink.ensures) (length-without c.args.number c.args.waiters.now.order)

pub returns-clause-noted : goal.returns-clause-noted
returns-clause-noted g c = λ noted.
    let order = c.remove_unlinked.ensures.order ∙ ap (λ w. w.order) c.unlink.ensures in
    let updates : Updates c.args.waiters.now c.remove_unlinked.new.self c.args.number None = record {
      changed = c.remove_unlinked.ensures.updates.changed;
      others = λ m differs. c.remove_unlinked.ensures.updates.others m differs ∙ ap (λ w. get w m) c.unlink.ensures;
    } in
    noted_left c.args.waiters.now c.remove_unlinked.new.self c.args.number order updates noted
