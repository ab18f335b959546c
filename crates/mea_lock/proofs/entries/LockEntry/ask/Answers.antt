use Rattle.std.proofs.Common.{◌≡◌, false, ap, sym, subst, ◌∙◌}
use Rattle.mea_lock_core.specs.RwLock.{IsSound}
use Rattle.mea_lock.specs.Entries.{KeptLock, KeptFuture}
use Rattle.mea_lock.proofs.Asking.{has_lock}
use Rattle.mea_lock.proofs.entries.LockEntry.ask.Goals as goal

pub returns-in-Ready-clause-asks : goal.returns-in-Ready-clause-asks
returns-in-Ready-clause-asks g c =
    let waits : c.args.future.now.holds ≡ false = ap (λ (x : KeptFuture). x.holds) (sym c.future.view_is) ∙ c.if-future.false in
    has_lock c.args.self.now c.args.f c.args.future.now c.args.waker c.in-Ready.field-0 c.poll.new.self c.poll.new.future c.args.ready.now c.poll.new.ready waits c.requires.writes
    (subst (λ (e : KeptLock). IsSound e.lock) c.self.view_is c.queue_len.ensures.sound) c.requires.allowed c.requires.quiet c.requires.room (rw c.in-Ready.is at c.in_ok-poll.ensures.polls)
