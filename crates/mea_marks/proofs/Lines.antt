-- the lines of a script that is shown
use Rattle.std.proofs.Common.{◌≡◌, ℕ, ◌+◌, ◌<◌, ◌≤◌, ◌++◌, Bool, true, false, List, [], ◌∷◌, Some, None, length, take, min, nat_lt, ap, sym, ◌∙◌, refl, arith, length-take, append-nil, append_assoc}
use Rattle.std.proofs.lemmas.List.{take-take, take_min, take_all}
use Rattle.std.proofs.lemmas.Bool.Decides.{nat_tests}
use Rattle.std.proofs.Math.Seq.{take-append_seam}
use Rattle.mea_text.specs.Words.{cut}
use Rattle.mea_lines.specs.Lines.{event_of}
use Rattle.mea_script.specs.Lines.{limit, is_long, lines_in}
use Rattle.mea_script.proofs.Lines.{lines_last, lines_cut, lines_none}
use Rattle.mea_script.proofs.Unended.{lines_here, cut_joins, cut_nothing}
use Rattle.mea_marks.specs.declared.ending.Ending.{Ending}
use Rattle.mea_marks.specs.declared.ending.Ending.TheVariants.{Whole, Long}
use Rattle.mea_marks.specs.Marks.{Board, empty_board}
use Rattle.mea_marks.specs.Script.{Steps, Shown, GoesOn, EndsAt, ended, shown_from, shown_of}

-- a cut at a newline finds the first line
pub first_line : (was_cut : Bool) (rest line after : List ℕ) → Some (line, after) ≡ cut 10 rest → lines_in was_cut rest ≡ line ∷ lines_in was_cut after
first_line was_cut rest line after is =
    let parts = cut_joins rest line after is in
    ap (lines_in was_cut) parts.0 ∙ lines_here was_cut line after parts.1

-- what is shown is the same where its parts are
pub ended_alike : (b c : Board) (x y : Ending) (n m : ℕ) → b ≡ c → x ≡ y → n ≡ m → ended b x n ≡ ended c y m
ended_alike b c x y n m board ending lines = λ i. ended (board i) (ending i) (lines i)

module _ {State : Type 0} (steps : Steps State) (s t : State) (b c : Board) (n m : ℕ) (rest : List ℕ) where
  -- the next line, after which the script goes on, and one at which it ends
  module _ (line after : List ℕ) (long : Bool) (is : Some (line, after) ≡ cut 10 rest) where
    pub line_goes : GoesOn steps s t b c n (event_of line) → m ≡ n + 1
        → shown_from steps long s b n (lines_in long rest) ≡ shown_from steps long t c m (lines_in long after)
    line_goes goes counted =
        ap (shown_from steps long s b n) (first_line long rest line after is)
        ∙ goes.next (λ u d. shown_from steps long u d (n + 1) (lines_in long after))
        ∙ ap (λ k. shown_from steps long t c k (lines_in long after)) (sym counted)

    pub line_ends : (shown : Shown) → EndsAt steps s b n (event_of line) shown → shown_from steps long s b n (lines_in long rest) ≡ shown
    line_ends shown ends =
        ap (shown_from steps long s b n) (first_line long rest line after is)
        ∙ ends.last (λ u d. shown_from steps long u d (n + 1) (lines_in long after))

  -- what stands behind the last newline
  module _ (none : None ≡ cut 10 rest) where
    pub long_ends : shown_from steps true s b n (lines_in true rest) ≡ ended b Long n
    long_ends = ap (shown_from steps true s b n) (lines_cut rest (cut_nothing rest none))

    pub last_goes : 0 < length rest → GoesOn steps s t b c n (event_of rest) → m ≡ n + 1
        → shown_from steps false s b n (lines_in false rest) ≡ ended c Whole m
    last_goes some goes counted =
        ap (shown_from steps false s b n) (lines_last rest some (cut_nothing rest none))
        ∙ goes.next (λ u d. shown_from steps false u d (n + 1) [])
        ∙ ap (λ k. ended c Whole k) (sym counted)

    pub last_ends : (shown : Shown) → 0 < length rest → EndsAt steps s b n (event_of rest) shown → shown_from steps false s b n (lines_in false rest) ≡ shown
    last_ends shown some ends =
        ap (shown_from steps false s b n) (lines_last rest some (cut_nothing rest none))
        ∙ ends.last (λ u d. shown_from steps false u d (n + 1) [])

-- the script, as far as it counts
pub at_start : {State : Type 0} (steps : Steps State) (s : State) (script first : List ℕ) (b : Board) (n : ℕ) → first ≡ take (min (length script) limit) script
    → b ≡ empty_board → n ≡ 0
    → shown_of steps s script ≡ shown_from steps (is_long script) s b n (lines_in (is_long script) first)
unfolding shown_of
at_start steps s script first b n is none zero =
    let turned : min (length script) limit ≡ min limit (length script) = omega arith in
    let same : first ≡ take limit script = is ∙ ap (λ k. take k script) turned ∙ take_min limit script in
    λ i. shown_from steps (is_long script) s (sym none i) (sym zero i) (lines_in (is_long script) (sym same i))

-- whether a script is too long
pub is_too_long : (script : List ℕ) → limit < length script → is_long script ≡ true
is_too_long script more = long_as (length script) more
  where
    long_as : (n : ℕ) → limit < n → nat_lt limit n ≡ true
    long_as n h = grind (arith, nat_tests)

pub is_short : (script : List ℕ) → length script ≤ limit → is_long script ≡ false
is_short script few = short_as (length script) few
  where
    short_as : (n : ℕ) → n ≤ limit → nat_lt limit n ≡ false
    short_as n h = grind (arith, nat_tests)

-- the rest of a script, at such an end
module _ {State : Type 0} (steps : Steps State) (s t : State) (b c : Board) (n m : ℕ) (rest : List ℕ) (whole : Shown) (long : Bool)
    (told : whole ≡ shown_from steps long s b n (lines_in long rest)) where
  as_is : (v : Bool) → long ≡ v → whole ≡ shown_from steps v s b n (lines_in v rest)
  as_is v is = told ∙ ap (λ u. shown_from steps u s b n (lines_in u rest)) is

  pub shown_long : long ≡ true → None ≡ cut 10 rest → ended b Long n ≡ whole
  shown_long is none = sym (as_is true is ∙ long_ends steps s t b c n m rest none)

  pub shown_last : (on : Bool) (shown : Shown) → long ≡ false → None ≡ cut 10 rest → 0 < length rest
      → (on ≡ true → GoesOn steps s t b c n (event_of rest)) → (on ≡ true → m ≡ n + 1) → (on ≡ true → shown ≡ ended c Whole m)
      → (on ≡ false → EndsAt steps s b n (event_of rest) shown) → shown ≡ whole
  shown_last true shown is none some goes counted ends last =
      ends refl ∙ sym (as_is false is ∙ last_goes steps s t b c n m rest none some (goes refl) (counted refl))
  shown_last false shown is none some goes counted ends last = sym (as_is false is ∙ last_ends steps s t b c n m rest none shown some (last refl))

-- a script, of which one byte more than counts was read
pub shown_read : {State : Type 0} (steps : Steps State) (s : State) (script read : List ℕ) → read ≡ take (limit + 1) script
    → shown_of steps s read ≡ shown_of steps s script
unfolding shown_of
shown_read steps s script read is =
    let long : is_long read ≡ is_long script = ap is_long is ∙ long_same (length script) (length (take (limit + 1) script)) (length-take (limit + 1) script) in
    let less : limit ≤ limit + 1 = omega arith in
    let first : take limit read ≡ take limit script = ap (take limit) is ∙ take-take limit (limit + 1) script less in
    λ i. shown_from steps (long i) s empty_board 0 (lines_in (long i) (first i))
  where
    long_same : (n k : ℕ) → k ≡ min (limit + 1) n → nat_lt limit k ≡ nat_lt limit n
    long_same n k h = grind (arith, nat_tests)

-- the bytes that were read of a script
pub read_on : (whole old rest piece next new : List ℕ) → whole ≡ old ++ rest → rest ≡ piece ++ next → new ≡ old ++ piece → whole ≡ new ++ next
read_on whole old rest piece next new joined here put =
    joined ∙ ap (λ r. old ++ r) here ∙ sym (append_assoc old piece next) ∙ ap (λ k. k ++ next) (sym put)

pub read_all : (whole new old rest piece next : List ℕ) → whole ≡ old ++ rest → rest ≡ piece ++ next → new ≡ old ++ piece → (piece ≡ []) × (next ≡ [])
    → length old ≤ limit → new ≡ take (limit + 1) whole
read_all whole new old rest piece next joined here put none few =
    let kept : new ≡ old = put ∙ ap (λ p. old ++ p) none.0 ∙ append-nil old in
    let all : whole ≡ new = read_on whole old rest piece next new joined here put ∙ ap (λ r. new ++ r) none.1 ∙ append-nil new in
    let sizes : length whole ≡ length old = ap length (all ∙ kept) in
    let fits : length whole ≤ limit + 1 = omega arith in
    sym (take_all (limit + 1) whole fits ∙ all)

pub read_full : (script read rest : List ℕ) → script ≡ read ++ rest → length read ≡ limit + 1 → read ≡ take (limit + 1) script
read_full script read rest joined full = sym (ap (take (limit + 1)) joined ∙ ap (λ k. take k (read ++ rest)) (sym full) ∙ take-append_seam read rest)
