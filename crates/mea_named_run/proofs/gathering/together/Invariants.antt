use Rattle.std.proofs.Common.{◌≡◌, filter_map}
use Rattle.mea_named_run.proofs.gathering.together.Given as goal

-- the permits so far are all those that were kept so far
abbrev pub invariant-loop-own : goal.invariant-loop-own
invariant-loop-own g l = l.permits.items ≡ filter_map (λ o. o) l.yielded
