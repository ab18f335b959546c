use Rattle.std.proofs.Common.{◌≡◌, ◌≤◌, ◌+◌, sum_by}
use Rattle.mea_counted.proofs.state.NamedState.close.Given as goal

-- the shares of the permits so far are together, with the parts that no permit had
abbrev pub invariant-loop-permit : goal.invariant-loop-permit
invariant-loop-permit g l =
    (l.all.parts ≡ l.parts) × (l.parts ≡ l.initial.parts + sum_by (λ p. p.parts) l.yielded)
    × (l.parts ≤ l.of) × (l.all.amount ≡ sum_by (λ p. p.permits) l.yielded)
