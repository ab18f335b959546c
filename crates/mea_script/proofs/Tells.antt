-- what is told of a script, by its first line
use Rattle.std.proofs.Common.{◌≡◌, ◌⊎◌, inl, inr, ℕ, suc, ◌+◌, ◌<◌, ◌≤◌, true, false, List, [], ◌∷◌, ◌++◌, length, take, nat_lt, Option, Some, refl, ap, sym, subst, ◌∙◌, arith, append-nil, append_assoc, length-append}
use Rattle.std.proofs.lemmas.List.{take_all}
use Rattle.std.proofs.Math.Seq.{take-append-add, take-append_seam}
use Rattle.std.proofs.lemmas.Bool.Decides.{nat_tests}
use Rattle.mea_script.specs.declared.status.Status.{Status}
use Rattle.mea_script.specs.Lines.{lines_in, IsUnended}
use Rattle.mea_script.specs.Player.{told_of, lines_left, GoesOn, Stops, Ends}
use Rattle.mea_script.specs.Rules.{Rules}
use Rattle.mea_script.specs.Runs.{IsFault}
use Rattle.mea_script.specs.Told.{Told, with_text, told_from}
use Rattle.mea_script.proofs.Lines.{lines_last, lines_cut}
use Rattle.mea_script.proofs.Unended.{lines_here}

shorter : (n room more : ℕ) → nat_lt (n + suc room) (n + suc more) ≡ nat_lt room more
shorter n room more = grind (arith, nat_tests)

within : (n room : ℕ) → n ≤ room → nat_lt room n ≡ false
within n room few = grind (arith, nat_tests)

beyond : (n more : ℕ) → 0 < more → nat_lt n (n + more) ≡ true
beyond n more some = grind (arith, nat_tests)

-- a line and its newline
pub told_first : {S E : Type 0} (m : Rules S E) (s : S) (n : ℕ) (line after : List ℕ) (room : ℕ) → IsUnended line
    → told_of m s n (length line + suc room) (line ++ 10 ∷ after) ≡ told_from m (nat_lt room (length after)) s n (line ∷ lines_left room after)
unfolding told_of
told_first m s n line after room h =
    let long : nat_lt (length line + suc room) (length (line ++ 10 ∷ after)) ≡ nat_lt room (length after) =
    ap (nat_lt (length line + suc room)) (length-append line (10 ∷ after)) ∙ shorter (length line) room (length after) in
    let lines : lines_in (nat_lt room (length after)) (take (length line + suc room) (line ++ 10 ∷ after)) ≡ line ∷ lines_in (nat_lt room (length after)) (take room after) =
    ap (lines_in (nat_lt room (length after))) (take-append-add line (10 ∷ after) (suc room))
    ∙ lines_here (nat_lt room (length after)) line (take room after) h in
    (λ i. told_from m (long i) s n (lines_in (long i) (take (length line + suc room) (line ++ 10 ∷ after))))
    ∙ ap (λ ls. told_from m (nat_lt room (length after)) s n ls) lines

-- what stands after the last newline
pub told_last : {S E : Type 0} (m : Rules S E) (s : S) (n : ℕ) (line : List ℕ) (room : ℕ) → IsUnended line → 0 < length line → length line ≤ room
    → told_of m s n room line ≡ told_from m false s n (line ∷ [])
unfolding told_of
told_last m s n line room h some fits =
    let long : nat_lt room (length line) ≡ false = within (length line) room fits in
    (λ i. told_from m (long i) s n (lines_in (long i) (take room line)))
    ∙ ap (λ text. told_from m false s n (lines_in false text)) (take_all room line fits)
    ∙ ap (λ ls. told_from m false s n ls) (lines_last line some h)

pub told_none : {S E : Type 0} (m : Rules S E) (s : S) (n room : ℕ) → told_of m s n room [] ≡ told_from m false s n []
unfolding told_of
told_none m s n room =
    let long : nat_lt room 0 ≡ false = within 0 room (omega arith) in
    (λ i. told_from m (long i) s n (lines_in (long i) (take room [])))
    ∙ ap (λ text. told_from m false s n (lines_in false text)) (take_all room [] (omega arith))

-- a line that is cut
pub told_cut : {S E : Type 0} (m : Rules S E) (s : S) (n : ℕ) (line bytes : List ℕ) → IsUnended line → 0 < length bytes
    → told_of m s n (length line) (line ++ bytes) ≡ told_from m true s n []
unfolding told_of
told_cut m s n line bytes h some =
    let long : nat_lt (length line) (length (line ++ bytes)) ≡ true =
    ap (nat_lt (length line)) (length-append line bytes) ∙ beyond (length line) (length bytes) some in
    (λ i. told_from m (long i) s n (lines_in (long i) (take (length line) (line ++ bytes))))
    ∙ ap (λ text. told_from m true s n (lines_in true text)) (take-append_seam line bytes)
    ∙ ap (λ ls. told_from m true s n ls) (lines_cut line h)

-- ---- what was told and written meanwhile

pub with_both : (one two : List ℕ) (told : Told) → with_text (one ++ two) told ≡ with_text one (with_text two told)
with_both one two told = ap (λ text. record { text = text; status = told.status }) (append_assoc one two told.text)

pub goes_further : (one two three : Told) (first second third : Option (List ℕ)) → GoesOn one two first second → GoesOn two three second third → GoesOn one three first third
goes_further one two three first second third g h = record {
  written = g.written ++ h.written;
  taken = λ before is. h.taken (before ++ g.written) (g.taken before is) ∙ ap (λ bytes. Some bytes) (append_assoc before g.written h.written);
  told = g.told ∙ ap (with_text g.written) h.told ∙ sym (with_both g.written h.written three);
}

pub goes_alike : (old new same : Told) (first second : Option (List ℕ)) → new ≡ same → GoesOn old new first second → GoesOn old same first second
goes_alike old new same first second is g = record { written = g.written; taken = g.taken; told = g.told ∙ ap (with_text g.written) is }

-- a script that went on and then ended
pub ends_later : (old new : Told) (status : Status) (before : List ℕ) (first second third : Option (List ℕ)) (text : List ℕ) (g : GoesOn old new first second)
    → Ends status new.text (before ++ g.written) third text → Ends status old.text before third text
ends_later old new status before first second third text g h = record {
  written = g.written ++ h.written;
  rest = h.rest;
  took = h.took ∙ ap (λ bytes. Some bytes) (append_assoc before g.written h.written);
  front = ap (λ t. t.text) g.told ∙ ap (λ bytes. g.written ++ bytes) h.front ∙ sym (append_assoc g.written h.written (text ++ h.rest));
  ended = h.ended;
}

-- and at once
pub ends_now : (status : Status) (told : Told) (text before : List ℕ) (taken : Option (List ℕ)) → Stops status told text → taken ≡ Some before
    → Ends status told.text before taken text
ends_now status told text before taken h is = record {
  written = [];
  rest = h.rest;
  took = is ∙ ap (λ bytes. Some bytes) (sym (append-nil before));
  front = h.front;
  ended = elim h.ended [ inl fault ↦ inl fault | inr ends ↦ inr ends.0 ];
}

-- how it ended
pub status_of_stop : (status : Status) (told : Told) (text : List ℕ) → Stops status told text → IsFault status ⊎ (status ≡ told.status)
status_of_stop status told text h = elim h.ended [ inl fault ↦ inl fault | inr ends ↦ inr ends.1 ]

-- a fault leaves a text that is a front of what was to be told
pub stops_at_fault : (status : Status) (text : List ℕ) (told : Told) → IsFault status → Stops status (with_text text told) text
stops_at_fault status text told fault = record { rest = told.text; front = refl; ended = inl fault }

-- what was to be told, said in another way
pub stops_alike : (status : Status) (text new : List ℕ) (one two : Told) → one ≡ two → Stops status (with_text text one) new → Stops status (with_text text two) new
stops_alike status text new one two same h = subst (λ (t : Told). Stops status (with_text text t) new) same h
