use Rattle.std.proofs.Common.{◌≡◌, true, IfSome}
use Rattle.mea_recorded.specs.Closing.{rise_from, next_after}
use Rattle.mea_recorded.proofs.Rising.{least_after, Ends}
use Rattle.mea_recorded.proofs.closing.rising.Given as goal

-- the numbers so far rise, and the last of them is kept
abbrev pub invariant-loop-n : goal.invariant-loop-n
invariant-loop-n l = (rise_from 0 l.yielded ≡ true) × (next_after 0 l.yielded ≡ least_after l.last) × IfSome l.last (Ends l.yielded)
