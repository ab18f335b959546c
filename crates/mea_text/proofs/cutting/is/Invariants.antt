use Rattle.std.proofs.Common.{◌≡◌, ◌<◌, ℕ, get_or}
use Rattle.mea_text.proofs.cutting.is.Given as goal

-- the bytes so far are those of the word
abbrev pub invariant-loop-i : goal.invariant-loop-i
invariant-loop-i l = (k : ℕ) → k < l.i → get_or l.word k 0 ≡ get_or l.own k 0
