use Rattle.std.proofs.Common.{sym, ◌∙◌}
use Rattle.mea_sem.proofs.Turns.{not_waited}
use Rattle.mea_sem.proofs.entries.SemaphoreEntry.waited.Goals as goal

pub returns-in_default-2 : goal.returns-in_default-2
returns-in_default-2 c =
    not_waited c.args.self.now.core c.is_closed.ensures.sound c.args.acquire.now (sym c.is_closed.ensures.is ∙ c.if-not-is_closed.false)
