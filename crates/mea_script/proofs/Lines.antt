-- the lines of a text, by its first
use Rattle.std.proofs.Common.{◌≡◌, ℕ, suc, ◌+◌, ◌<◌, ◌≤◌, ◌==◌, Bool, true, false, cond, not, List, [], ◌∷◌, Some, None, length, refl, ap, sym, ◌∙◌, arith, nat_lt}
use Rattle.std.specs.List.{slice_split, onto_first, position_or_len, before_first, after_first}
use Rattle.std.proofs.lemmas.Bool.Decides.{nat_tests}
use Rattle.std.proofs.lemmas.Bool.{ltb-true, ltb-false}
use Rattle.std.proofs.lemmas.Option.{cond_some}
use Rattle.mea_text.specs.Words.{cut}
use Rattle.mea_script.specs.Lines.{last_line, lines_among, lines_in}

pub keeps_first : (was_cut : Bool) (line : List ℕ) (pieces : List (List ℕ)) → 0 < length pieces
    → lines_among was_cut (line ∷ pieces) ≡ line ∷ lines_among was_cut pieces
keeps_first was_cut line [] h = absurd (omega arith)
keeps_first was_cut line (piece ∷ pieces) h = refl

one_piece : (p : ℕ → Bool) (text : List ℕ) → length text ≤ position_or_len p text → slice_split p text ≡ text ∷ []
one_piece p [] h = refl
one_piece p (b ∷ text) h =
    elim (p b) as (λ v. suc (length text) ≤ cond (not v) (1 + position_or_len p text) 0
    → cond v ([] ∷ slice_split p text) (onto_first b (slice_split p text)) ≡ (b ∷ text) ∷ []) [
      | true ↦ λ e. absurd (omega arith)
      | false ↦ λ e. ap (onto_first b) (one_piece p text (omega arith))
    ] h

last_kept : (text : List ℕ) → 0 < length text → last_line false text ≡ text ∷ []
last_kept text some = grind (arith, nat_tests)

-- what stands after the last newline
pub lines_last : (text : List ℕ) → 0 < length text → length text ≤ position_or_len (λ b. b == 10) text → lines_in false text ≡ text ∷ []
lines_last text some h = ap (lines_among false) (one_piece (λ b. b == 10) text h) ∙ last_kept text some

pub lines_cut : (text : List ℕ) → length text ≤ position_or_len (λ b. b == 10) text → lines_in true text ≡ []
lines_cut text h = ap (lines_among true) (one_piece (λ b. b == 10) text h)

pub lines_none : (was_cut : Bool) → lines_in was_cut [] ≡ []
lines_none true = refl
lines_none false = refl

-- what a cut found
pub cut_some : (byte : ℕ) (bytes before after : List ℕ) → Some (before, after) ≡ cut byte bytes
    → (position_or_len (λ b. b == byte) bytes < length bytes) × (before ≡ before_first (λ b. b == byte) bytes) × (after ≡ after_first (λ b. b == byte) bytes)
cut_some byte bytes before after h =
    let parts = cond_some (nat_lt (position_or_len (λ b. b == byte) bytes) (length bytes))
    (before_first (λ b. b == byte) bytes, after_first (λ b. b == byte) bytes) (before, after) (sym h) in
    (ltb-true _ _ parts.0, ap (λ q. q.0) (sym parts.1), ap (λ q. q.1) (sym parts.1))

none_only : {A : Type 0} (b : Bool) (x : A) → None ≡ cond b (Some x) None → b ≡ false
none_only true x h = absurd (cc)
none_only false x h = refl

pub cut_none : (byte : ℕ) (bytes : List ℕ) → None ≡ cut byte bytes → length bytes ≤ position_or_len (λ b. b == byte) bytes
cut_none byte bytes h = ltb-false _ _ (none_only _ _ h)
