use Rattle.mea_lock.proofs.Notifying.{popped}
use Rattle.mea_lock.proofs.condvar_entry.CondvarEntry.notify_one.Goals as goal

pub returns-clause-some : goal.returns-clause-some
returns-clause-some c = rw (← c.self.view_is) (popped c.self.inside.core c.notify_one.new.self c.next_wake.new.self c.in_ok-first.first c.self.inside.waits c.args.ready.now c.wake.new.self (rw (← c.self.view_is) at c.requires.quiet) c.notify_one.ensures.is c.in_ok-first.ensures.some c.wake.ensures)
