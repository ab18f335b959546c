-- numbers that rise, and one more
use Rattle.std.proofs.Common.{◌≡◌, ℕ, Option, Some, None, suc, ◌+◌, ◌≤◌, Bool, true, false, List, [], ◌∷◌, ◌++◌, ◌&&◌, nat_lt, rules, ap, arith}
use Rattle.mea_recorded.specs.declared.pass.Noted.{Noted}
use Rattle.mea_recorded.specs.Closing.{rise_from, next_after}

pub next_after_more : (a : ℕ) (ns : List Noted) (n : Noted) → next_after a (ns ++ n ∷ []) ≡ n.receipt.number + 1
next_after_more a [] n = omega arith
next_after_more a (m ∷ ns) n = next_after_more (suc m.receipt.number) ns n

and_step : (b c d : Bool) → (c ≡ true → d ≡ true) → (b && c) ≡ true → (b && d) ≡ true
and_step true c d f h = f h
and_step false c d f h = h

lt_true : (a b : ℕ) → a ≤ b → nat_lt a (suc b) ≡ true
lt_true a b h = search rules

pub rise_from_more : (a : ℕ) (ns : List Noted) (n : Noted) → rise_from a ns ≡ true → next_after a ns ≤ n.receipt.number → rise_from a (ns ++ n ∷ []) ≡ true
rise_from_more a [] n h l = ap (λ b. b && true) (lt_true a n.receipt.number l)
rise_from_more a (m ∷ ns) n h l =
    and_step (nat_lt a (suc m.receipt.number)) (rise_from (suc m.receipt.number) ns) (rise_from (suc m.receipt.number) (ns ++ n ∷ [])) (λ k. rise_from_more (suc m.receipt.number) ns n k l) h

-- the least number that may come after the last one
abbrev pub least_after : Option ℕ → ℕ
least_after None = 0
least_after (Some n) = n + 1

-- the last receipt has this number
abbrev pub Ends : List Noted → ℕ → Type 0
Ends ns n = (front : List Noted) × (m : Noted) × (ns ≡ front ++ m ∷ []) × (m.receipt.number ≡ n)
