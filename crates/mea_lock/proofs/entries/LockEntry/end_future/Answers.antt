use Rattle.std.proofs.Common.{◌≡◌, true, false, ap, sym, ◌∙◌}
use Rattle.mea_lock.specs.Entries.{KeptFuture}
use Rattle.mea_lock.proofs.entries.LockEntry.end_future.Goals as goal

pub returns-then-future : goal.returns-then-future
returns-then-future g c =
    let holds : c.args.future.holds ≡ true = ap (λ (x : KeptFuture). x.holds) (sym c.future.view_is) ∙ c.if-future.true in
    (c.unlock.ensures.0, (λ _. c.unlock.ensures.1, λ waits. absurd (cc)), c.unlock.ensures.2)

pub returns-else-future : goal.returns-else-future
returns-else-future g c =
    let waits : c.args.future.holds ≡ false = ap (λ (x : KeptFuture). x.holds) (sym c.future.view_is) ∙ c.if-future.false in
    (c.cancel.ensures.0, (λ holds. absurd (cc), λ _. c.cancel.ensures.1), c.cancel.ensures.2)
