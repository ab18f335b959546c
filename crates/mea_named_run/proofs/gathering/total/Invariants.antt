use Rattle.std.proofs.Common.{◌≡◌, ◌≤◌, sum_by, take}
use Rattle.mea_named_run.proofs.gathering.total.Given as goal

-- the sizes so far, each of which is 1
abbrev pub invariant-loop-permit : goal.invariant-loop-permit
invariant-loop-permit g l = (l.total ≡ sum_by (λ p. p.permits) (take l.permit-index l.permits)) × (l.total ≤ l.permit-index)
