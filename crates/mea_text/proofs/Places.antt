-- the first place of a byte
use Rattle.std.proofs.Common.{◌≡◌, ℕ, ◌<◌, ◌≤◌, ◌==◌, Bool, true, false, cond, true≢false, List, length, nat_lt, Option, Some, None, IfSome, refl, ap, sym, ◌∙◌, arith}
use Rattle.std.specs.List.{position, position_or_len}
use Rattle.std.proofs.lemmas.Bool.{ltb-true}
use Rattle.std.proofs.lemmas.Bool.Decides.{nat_tests}
use Rattle.std.proofs.lemmas.List.Sums.{fails_before_first, passes_at_first}
use Rattle.memchr.specs.Find.{IsFirstByte, TakesFirst, first_of, is_byte, places}
use Rattle.memchr.proofs.lemmas.ValueLemmas.{IsFirstByte-value}

-- the first of a list that a call of `next` takes
taken : (all rest : List ℕ) (r : Option ℕ) → TakesFirst all r rest → r ≡ first_of all
unfolding first_of
taken all rest None h = sym (ap first_of h.0)
taken all rest (Some x) h = sym (ap first_of h)

past : (k n : ℕ) → nat_lt k n ≡ false → n ≤ k
past k n is = grind (arith, nat_tests)

-- the position of a byte is its first place
first_by : (b : ℕ) (bytes : List ℕ) (t : Bool) → nat_lt (position_or_len (λ x. x == b) bytes) (length bytes) ≡ t
    → IsFirstByte (is_byte b) bytes (cond t (Some (position_or_len (λ x. x == b) bytes)) None)
first_by b bytes true is =
    let within : position_or_len (λ x. x == b) bytes < length bytes = ltb-true _ _ is in (
      record {
        low = omega arith;
        high = within;
        before = λ k _ before passes. true≢false (sym passes ∙ fails_before_first (λ x. x == b) bytes k 0 before);
      },
      passes_at_first (λ x. x == b) bytes 0 within,
    )
first_by b bytes false is =
    let far : length bytes ≤ position_or_len (λ x. x == b) bytes = past _ _ is in
    λ k _ within passes. true≢false (sym passes ∙ fails_before_first (λ x. x == b) bytes k 0 (omega arith))

-- what a search takes first of all places of a byte is its position
pub taken_is_position : (b : ℕ) (bytes all rest : List ℕ) (r : Option ℕ) → all ≡ places (is_byte b) bytes → TakesFirst all r rest → r ≡ position (λ x. x == b) bytes
taken_is_position b bytes all rest r is takes =
    taken all rest r takes ∙ ap first_of is
    ∙ sym (IsFirstByte-value (is_byte b) bytes (position (λ x. x == b) bytes) (first_by b bytes (nat_lt (position_or_len (λ x. x == b) bytes) (length bytes)) refl))

within_by : (t : Bool) (k n : ℕ) → nat_lt k n ≡ t → IfSome (cond t (Some k) None) (λ at. at < n)
within_by true k n is = ltb-true k n is
within_by false k n is = tt

-- and stands within
pub position_within : (b : ℕ) (bytes : List ℕ) (r : Option ℕ) → r ≡ position (λ x. x == b) bytes → IfSome r (λ at. at < length bytes)
position_within b bytes r is = rw is (within_by (nat_lt (position_or_len (λ x. x == b) bytes) (length bytes)) (position_or_len (λ x. x == b) bytes) (length bytes) refl)
