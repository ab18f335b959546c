use Rattle.std.proofs.Common.{◌≡◌, sum_by, vec_len}
use Rattle.mea_recorded.proofs.desk.Desk.close.Given as goal

-- the shares of the passes so far are together
abbrev pub invariant-loop-pass : goal.invariant-loop-pass
invariant-loop-pass g l = (l.all.parts ≡ sum_by (λ p. p.parts) l.yielded) × (l.all.amount ≡ sum_by (λ p. vec_len p.noted) l.yielded)
