-- rounds of one size, counted within a round and by all arrivals
use Rattle.std.proofs.Common.{◌≡◌, ◌≢◌, inl, inr, ℕ, ◌+◌, ◌*◌, ◌/◌, ◌%◌, ◌<◌, ◌==◌, true, false, arith, ◌∙◌, add_assoc, add-one}
use Rattle.std.proofs.lemmas.Nat.{div-mul-add, mod-mul-add}
use Rattle.std.proofs.Math.Nat.{add-mod_right, mul-mod_left, suc-mul}
use Rattle.std.proofs.lemmas.Bool.{cases_eq, cases_lt}
use Rattle.std.proofs.lemmas.Bool.Decides.{nat_tests}

-- the arrivals that do not complete a round keep its number
pub round_within : (size round arrived : ℕ) → arrived < size → (round * size + arrived) / size ≡ round
round_within size round arrived within = div-mul-add round size arrived within

rest_within : (size round arrived : ℕ) → arrived + 1 < size → (round * size + arrived + 1) % size ≡ arrived + 1
rest_within size round arrived within = rw add_assoc (mod-mul-add round size (arrived + 1) within)

rest_at_end : (size round arrived : ℕ) → arrived + 1 ≡ size → (round * size + arrived + 1) % size ≡ 0
rest_at_end size round arrived end = rw add_assoc (rw end (add-mod_right (round * size) size ∙ mul-mod_left round size))

-- an arrival that completes the round is the last of it
pub last_of_round : (size round arrived : ℕ) → arrived < size → ((round * size + arrived + 1) % size == 0) ≡ true → arrived + 1 ≡ size
last_of_round size round arrived within completes = elim (cases_lt (arrived + 1) size) [
  | inl before ↦ let rest = rest_within size round arrived before in let none : (round * size + arrived + 1) % size ≡ 0 = grind (arith, nat_tests) in
      absurd (omega arith)
  | inr end ↦ omega arith
]

-- one that does not is followed by another
pub not_last_of_round : (size round arrived : ℕ) → arrived < size → ((round * size + arrived + 1) % size == 0) ≡ false → arrived + 1 < size
not_last_of_round size round arrived within waits = elim (cases_eq (arrived + 1) size) [
  | inl end ↦ let rest = rest_at_end size round arrived end in let some : (round * size + arrived + 1) % size ≢ 0 = grind (arith, nat_tests) in
      absurd (some rest)
  | inr before ↦ omega arith
]

-- the number of all arrivals at the start of the next round
pub next_round : (size round arrived : ℕ) → arrived + 1 ≡ size → (round + 1) * size + 0 ≡ round * size + arrived + 1
next_round size round arrived last = let product : (round + 1) * size ≡ round * size + size = rw add-one (suc-mul round size) in omega arith
