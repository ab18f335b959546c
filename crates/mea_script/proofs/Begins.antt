-- what is kept of a line that goes on
use Rattle.std.proofs.Common.{◌≡◌, ℕ, zero, suc, ◌+◌, ◌-◌, ◌<◌, ◌≤◌, ◌++◌, Bool, true, false, List, [], ◌∷◌, length, take, min, nat_lt, ap, sym, ◌∙◌, arith, length-append, length-take}
use Rattle.std.proofs.lemmas.List.{take_min, take_all}
use Rattle.std.proofs.lemmas.Bool.{ltb-false}
use Rattle.std.proofs.lemmas.Bool.Decides.{nat_tests}

take_on : (n : ℕ) (xs ys : List ℕ) → take n (xs ++ ys) ≡ take n xs ++ take (n - length xs) ys
take_on zero xs ys = let e : 0 ≡ 0 - length xs = omega arith in ap (λ k. take k ys) e
take_on (suc n) [] ys = let e : suc n ≡ suc n - 0 = omega arith in ap (λ k. take k ys) e
take_on (suc n) (x ∷ xs) ys =
    let e : n - length xs ≡ suc n - suc (length xs) = omega arith in
    ap (λ zs. x ∷ zs) (take_on n xs ys ∙ ap (λ k. take n xs ++ take k ys) e)

-- the first bytes of a line that goes on
pub kept_more : (kept more line bytes : List ℕ) (room : ℕ) → kept ≡ take 96 line → room ≡ 96 - length kept
    → more ≡ kept ++ take (min (length bytes) room) bytes → more ≡ take 96 (line ++ bytes)
kept_more kept more line bytes room is left grown =
    let size : length kept ≡ min 96 (length line) = ap length is ∙ length-take 96 line in
    let turned : min (length bytes) room ≡ min room (length bytes) = omega arith in
    let same : room ≡ 96 - length line = omega arith in
    grown ∙ ap (λ k. kept ++ take k bytes) turned ∙ ap (λ ys. kept ++ ys) (take_min room bytes)
    ∙ (λ i. is i ++ take (same i) bytes) ∙ sym (take_on 96 line bytes)

-- whether it has more
long_now : (n b room : ℕ) → room ≡ 96 - min 96 n → room < b → true ≡ nat_lt 96 (n + b)
long_now n b room is more = grind (arith, nat_tests)

long_still : (n b room : ℕ) (is_long : Bool) → is_long ≡ nat_lt 96 n → room ≡ 96 - min 96 n → b ≤ room → is_long ≡ nat_lt 96 (n + b)
long_still n b room is_long was is fits = grind (arith, nat_tests)

module _ (kept line bytes : List ℕ) (room : ℕ) (is : kept ≡ take 96 line) (left : room ≡ 96 - length kept) where
  room_is : room ≡ 96 - min 96 (length line)
  room_is = let size : length kept ≡ min 96 (length line) = ap length is ∙ length-take 96 line in omega arith

  pub is_long_now : room < length bytes → true ≡ nat_lt 96 (length (line ++ bytes))
  is_long_now more = long_now (length line) (length bytes) room room_is more ∙ ap (nat_lt 96) (sym (length-append line bytes))

  pub is_long_still : (is_long : Bool) → is_long ≡ nat_lt 96 (length line) → length bytes ≤ room → is_long ≡ nat_lt 96 (length (line ++ bytes))
  is_long_still is_long was fits =
      long_still (length line) (length bytes) room is_long was room_is fits ∙ ap (nat_lt 96) (sym (length-append line bytes))

-- a line of which no more was left out is kept whole
pub kept_whole : (kept line : List ℕ) → kept ≡ take 96 line → nat_lt 96 (length line) ≡ false → kept ≡ line
kept_whole kept line is short = is ∙ take_all 96 line (ltb-false 96 (length line) short)
