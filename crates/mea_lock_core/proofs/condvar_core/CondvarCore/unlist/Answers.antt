use Rattle.mea_lock_core.proofs.Changes.{in_use, unlisted_waited, unlisted_notified, sound_of}
use Rattle.mea_lock_core.proofs.condvar_core.CondvarCore.unlist.Goals as goal

pub take_out-requires : goal.take_out-requires
take_out-requires g c = in_use c.self.inside.waiters c.self.inside.outbox c.args.number (rw (← c.self.view_is) at c.requires)

pub returns-clause-waited : goal.returns-clause-waited
returns-clause-waited g c = rw (c.is_by_one.ensures, ← c.self.view_is) (λ some. unlisted_waited c.self.inside.waiters c.take_out.new.waiters c.self.inside.outbox c.args.number c.take_out.result c.take_out.ensures.note c.take_out.ensures.updates c.take_out.ensures.order some)

pub returns-clause-notified : goal.returns-clause-notified
returns-clause-notified g c = rw (c.is_by_one.ensures, ← c.self.view_is) (λ b told. unlisted_notified c.self.inside.waiters c.take_out.new.waiters c.self.inside.outbox c.args.number c.take_out.result c.take_out.ensures.note c.take_out.ensures.updates c.take_out.ensures.order c.self.invariant.noted b told)

pub returns-clause-sound : goal.returns-clause-sound
returns-clause-sound g c = λ _. sound_of c.take_out.new.waiters c.self.inside.outbox (c.take_out.ensures.noted c.self.invariant.noted)
