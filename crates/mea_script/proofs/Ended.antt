-- how many lines of a script have ended
use Rattle.std.proofs.Common.{◌≡◌, inl, inr, ℕ, suc, ◌+◌, ◌≤◌, ◌==◌, true, false, cond, not, List, [], ◌∷◌, ◌++◌, length, take, drop, Some, refl, ap, sym, ◌∙◌, arith, append_assoc, length-take}
use Rattle.std.proofs.lemmas.List.{take-append-drop}
use Rattle.std.proofs.lemmas.List.Sums.{sum_by-cons, sum_by-append}
use Rattle.std.specs.Prelude.{if◌then◌else◌}
use Rattle.std.specs.List.{position_or_len}
use Rattle.mea_script.specs.declared.status.Status.{Status}
use Rattle.mea_script.specs.Lines.{IsUnended, lines_ended}
use Rattle.mea_script.specs.Runs.{IsFault, IsTakenTo, line_of}

-- a fault names no line
pub no_line : (status : Status) (n : ℕ) → IsFault status → line_of status ≡ Some n → ⊥
no_line status n (inl read) is = absurd (cc)
no_line status n (inr (inl write)) is = absurd (cc)
no_line status n (inr (inr memory)) is = absurd (cc)

pub ended_in_both : (xs ys : List ℕ) → lines_ended (xs ++ ys) ≡ lines_ended xs + lines_ended ys
ended_in_both xs ys = sum_by-append {X = ℕ} (λ b. if b == 10 then 1 else 0) xs ys

pub none_ended : (line : List ℕ) → IsUnended line → lines_ended line ≡ 0
none_ended [] h = refl
none_ended (b ∷ line) h = sum_by-cons {X = ℕ} (λ c. if c == 10 then 1 else 0) b line ∙ elim (b == 10)
    as (λ v. suc (length line) ≤ cond (not v) (1 + position_or_len (λ c. c == 10) line) 0 → (if v then 1 else 0) + lines_ended line ≡ 0) [
      | true ↦ λ e. absurd (omega arith)
      | false ↦ λ e. let rest = none_ended line (omega arith) in omega arith
    ] h

-- a line and its newline
pub one_ended : (bytes before after : List ℕ) → bytes ≡ before ++ 10 ∷ after → IsUnended before → lines_ended bytes ≡ suc (lines_ended after)
one_ended bytes before after is h =
    let both : lines_ended (before ++ 10 ∷ after) ≡ lines_ended before + lines_ended (10 ∷ after) = ended_in_both before (10 ∷ after) in
    let newline : lines_ended (10 ∷ after) ≡ 1 + lines_ended after = sum_by-cons {X = ℕ} (λ b. if b == 10 then 1 else 0) 10 after in
    ap lines_ended is ∙ omega (arith, both, newline, none_ended before h)

-- one piece more of a script of which `before` was taken
module _ (script before rest : List ℕ) (whole : script ≡ before ++ rest) (events : ℕ) (ended : lines_ended before ≡ events) (k : ℕ) where
  joined : before ++ (take k rest ++ drop k rest) ≡ script
  joined = ap (λ xs. before ++ xs) (take-append-drop k rest) ∙ sym whole

  pub taken_further : (next : ℕ) → next ≡ events + lines_ended (take k rest)
      → (now : List ℕ) × (left : List ℕ) × (left ≡ drop k rest) × (script ≡ now ++ left) × (lines_ended now ≡ next)
  taken_further next counted = (
    before ++ take k rest,
    drop k rest,
    refl,
    sym (append_assoc before (take k rest) (drop k rest) ∙ joined),
    ended_in_both before (take k rest) ∙ ap (λ n. n + lines_ended (take k rest)) ended ∙ sym counted,
  )

  pub taken_to : (n : ℕ) → k ≤ 65536 → events ≤ n → IsTakenTo n script (drop k rest)
  taken_to n small late = record {
    before = before;
    piece = take k rest;
    whole = sym joined;
    small = omega (arith, length-take {A = ℕ});
    unended = omega (arith, ended);
  }
