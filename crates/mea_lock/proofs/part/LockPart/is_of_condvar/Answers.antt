use Rattle.std.proofs.Common.{None, Some, is_some, ap, sym, ◌∙◌, true, false, not}
use Rattle.std.specs.Option.{option_copied}
use Rattle.mea_lock_model.specs.Locks.{is_waiting_for}
use Rattle.mea_lock.proofs.PartEvents.{future_of}
use Rattle.mea_lock.proofs.part.LockPart.is_of_condvar.Goals as goal

pub returns-in_err-future-clause-none : goal.returns-in_err-future-clause-none
returns-in_err-future-clause-none g c = rw c.from_residual.ensures (sym (future_of c.self.inside.locks c.self.inside.futures c.self.inside.guards.things c.self.inside.next c.self.view_is c.args.f None (sym c.get.ensures ∙ ap option_copied c.in_err-future.was)))

pub returns-clause-some : goal.returns-clause-some
returns-clause-some g c =
    let seen = sym (future_of c.self.inside.locks c.self.inside.futures c.self.inside.guards.things c.self.inside.next c.self.view_is c.args.f (Some c.in_ok-future.future.now) (sym c.get.ensures ∙ ap option_copied c.in_ok-future.was)) in
    (ap is_some seen, ap (is_waiting_for false) seen ∙ ap not (sym c.is_of_condvar.ensures), ap (is_waiting_for true) seen ∙ sym c.is_of_condvar.ensures)
