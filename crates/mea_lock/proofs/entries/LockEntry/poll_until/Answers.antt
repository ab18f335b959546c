use Rattle.std.proofs.Common.{rules, false, ap, ◌∙◌}
use Rattle.mea_lock.specs.Entries.{KeptFuture}
use Rattle.mea_lock.proofs.Asking.{has_it}
use Rattle.mea_lock.proofs.entries.LockEntry.poll_until.Goals as goal

pub returns-clause-polls : goal.returns-clause-polls
returns-clause-polls g c =
    let has = has_it c.in_ok-ask.field-0 c.args.self.now c.args.f c.args.future.now c.args.waker c.ask.new.self c.ask.new.future c.args.ready.now c.ask.new.ready (search rules) c.in_ok-ask.ensures.asks in (
      c.ask.new.self,
      c.ask.new.future,
      c.ask.new.ready,
      c.unlock.ensures.0,
      has,
      search rules,
      c.unlock.ensures.1,
      c.unlock.ensures.2,
      search rules,
      ap (λ (v : KeptFuture). record v { wait = g.C.LockCore.wait_of c.new_wait.result; holds = false }) (c.future.view_is ∙ has.rest),
    )
