-- what a poll of a wait came to
use Rattle.std.specs.Prelude.{⊤}
use Rattle.mea_test_support.specs.declared.polls.PollOutcome.{PollOutcome}
use Rattle.mea_test_support.specs.declared.polls.PollOutcome.TheVariants.{Ready, Pending, Refused}

-- where the wait is ready, its output is such
abbrev pub IfReady : {F O : Type 0} → PollOutcome F O → (O → Type 0) → Type 0
IfReady (Ready o) P = P o
IfReady (Pending f) P = ⊤
IfReady Refused P = ⊤

-- where the wait goes on, it is such
abbrev pub IfPending : {F O : Type 0} → PollOutcome F O → (F → Type 0) → Type 0
IfPending (Ready o) P = ⊤
IfPending (Pending f) P = P f
IfPending Refused P = ⊤
