-- where the dot of a word is looked for
use Rattle.std.proofs.Common.{◌≡◌, ◌≢◌, ℕ, zero, suc, ◌+◌, ◌<◌, ◌≤◌, ◌==◌, ◌&&◌, ◌||◌, not, Bool, true, false, cond, true≢false, List, [], ◌∷◌, length, get_or, take, drop, Option, Some, None, nat_eq, inl, inr, refl, ap, sym, subst, ◌∙◌, arith, rules, length-take-le, get_or-take}
use Rattle.std.specs.Option.{option_map_or}
use Rattle.std.specs.List.{position_or_len}
use Rattle.std.specs.Str.{bytes_eq}
use Rattle.std.proofs.lemmas.Bool.{ne_eqb, lt-ltb, le-ltb, cases_lt, cases_eq, and_left, and_right, not_from_true}
use Rattle.std.proofs.lemmas.List.{get_or_past}
use Rattle.std.proofs.lemmas.List.Sums.{fails_before_first, passes_at_first}
use Rattle.mea_events.specs.declared.sem_event.SemEvent.{SemEvent}
use Rattle.mea_events.specs.declared.event.Event.{Event}
use Rattle.mea_events.specs.declared.event.Event.TheVariants.{Sem}
use Rattle.mea_text.specs.declared.numbers.Numbers.{Numbers}
use Rattle.mea_text.specs.Tables.{of_table}
use Rattle.mea_text.specs.Words.{◌>>=◌}
use Rattle.mea_text.proofs.Cuts.{lacks_byte}
use Rattle.mea_text.proofs.Tables.{if_some, same_bytes}
use Rattle.mea_lines.specs.Lines.{event_of_word, dot_of}
use Rattle.mea_lines.specs.Marks.{Table, of_family, marks, of_marks}
use Rattle.mea_lines.specs.SemLines.{semaphore_lines}
use Rattle.mea_lines.proofs.Marks.{none_where_no_event}
use Rattle.mea_lines.proofs.SemSpellings.{semaphore_dotless}

-- ---- marks, and words of semaphores

-- two letters or three, and no dot
unfoldable is_mark : List ℕ → Bool
is_mark mark = (nat_eq (length mark) 2 || nat_eq (length mark) 3) && lacks_byte 46 mark

-- each of a list is so
abbrev AreMarks : List (List ℕ × Table) → Type 0
AreMarks [] = Unit {0}
AreMarks (m ∷ ms) = (is_mark m.0 ≡ true) × AreMarks ms

among : (ms : List (List ℕ × Table)) (mark verb : List ℕ) (numbers : Numbers) (event : Event) → AreMarks ms → of_marks ms mark verb numbers ≡ Some event → is_mark mark ≡ true
among [] mark verb numbers event are is = absurd (cc)
among (m ∷ ms) mark verb numbers event are is =
    if_some (bytes_eq mark m.0) (of_family m.1 verb numbers) (of_marks ms mark verb numbers) event is
    (λ same given. subst (λ k. is_mark k ≡ true) (sym (same_bytes mark m.0 same)) are.0)
    (among ms mark verb numbers event are.1)

marks_are : AreMarks marks
unfolding marks is_mark
marks_are = search rules

no_mark : (mark verb : List ℕ) (numbers : Numbers) → is_mark mark ≡ false → of_marks marks mark verb numbers ≡ None
no_mark mark verb numbers other =
    none_where_no_event (of_marks marks mark verb numbers) (λ e is. true≢false (sym (among marks mark verb numbers e marks_are is) ∙ other))

-- the event of a semaphore
abbrev of_semaphores : List ℕ → Numbers → Option Event
of_semaphores word numbers = of_table semaphore_lines word numbers >>= (λ event. Some (Sem event))

no_semaphore : (word : List ℕ) (numbers : Numbers) → lacks_byte 46 word ≡ false → of_semaphores word numbers ≡ None
no_semaphore word numbers dot = at (of_table semaphore_lines word numbers) refl
  where
    at : (o : Option SemEvent) → of_table semaphore_lines word numbers ≡ o → (o >>= (λ event. Some (Sem event))) ≡ None
    at None is = refl
    at (Some e) is = absurd (true≢false (sym (semaphore_dotless word numbers e is) ∙ dot))

-- ---- words of other lengths, or with a dot among them, are no marks

of_other_length : (mark : List ℕ) → length mark ≢ 2 → length mark ≢ 3 → is_mark mark ≡ false
unfolding is_mark
of_other_length mark two three =
    ap (λ t. (t || nat_eq (length mark) 3) && lacks_byte 46 mark) (ne_eqb (length mark) 2 two)
    ∙ ap (λ t. t && lacks_byte 46 mark) (ne_eqb (length mark) 3 three)

with_dot : (mark : List ℕ) → lacks_byte 46 mark ≡ false → is_mark mark ≡ false
unfolding is_mark
with_dot mark dot = and_right (nat_eq (length mark) 2 || nat_eq (length mark) 3) (lacks_byte 46 mark) dot

-- where a byte is a dot, it is not lacking
dot_at : (bytes : List ℕ) (k : ℕ) → (get_or bytes k 0 == 46) ≡ true → lacks_byte 46 bytes ≡ false
dot_at [] k is = absurd (cc)
dot_at (x ∷ xs) zero is = and_left (not (x == 46)) (lacks_byte 46 xs) (not_from_true (x == 46) is)
dot_at (x ∷ xs) (suc k) is = and_right (not (x == 46)) (lacks_byte 46 xs) (dot_at xs k is)

within_of : (bytes : List ℕ) (k : ℕ) → (get_or bytes k 0 == 46) ≡ true → k < length bytes
within_of [] k is = absurd (cc)
within_of (x ∷ xs) zero is = omega arith
within_of (x ∷ xs) (suc k) is = omega (arith, within_of xs k is)

-- no dot stands past the end
pub no_dot_past : (bytes : List ℕ) (k : ℕ) → length bytes ≤ k → (get_or bytes k 0 == 46) ≡ false
no_dot_past bytes k past = ap (λ b. b == 46) (get_or_past bytes k 0 past)

-- ---- the first dot

-- where it stands, or the length
abbrev first_dot : List ℕ → ℕ
first_dot word = position_or_len (λ b. b == 46) word

-- the event, by whether there is one
abbrev by_test : Bool → List ℕ → Numbers → Option Event
by_test t word numbers =
    option_map_or (λ (parts : List ℕ × List ℕ). of_marks marks parts.0 parts.1 numbers)
    (cond t (Some (take (first_dot word) word, drop (first_dot word + 1) word)) None)
    (of_semaphores word numbers)

parted : (word : List ℕ) (numbers : Numbers) → first_dot word < length word
    → event_of_word word numbers ≡ of_marks marks (take (first_dot word) word) (drop (first_dot word + 1) word) numbers
unfolding event_of_word
parted word numbers within = ap (λ t. by_test t word numbers) (lt-ltb (first_dot word) (length word) within)

whole : (word : List ℕ) (numbers : Numbers) → length word ≤ first_dot word → event_of_word word numbers ≡ of_semaphores word numbers
unfolding event_of_word
whole word numbers past = ap (λ t. by_test t word numbers) (le-ltb (first_dot word) (length word) past)

is_there : (word : List ℕ) → first_dot word < length word → (get_or word (first_dot word) 0 == 46) ≡ true
is_there word within = passes_at_first (λ b. b == 46) word 0 within

no_further : (word : List ℕ) (k : ℕ) → (get_or word k 0 == 46) ≡ true → first_dot word ≤ k
no_further word k is = elim (cases_lt k (first_dot word)) [
  | inl before ↦ absurd (true≢false (sym is ∙ fails_before_first (λ b. b == 46) word k 0 before))
  | inr near ↦ near
]

-- a first dot that ends no mark
no_first : (word : List ℕ) (numbers : Numbers) → first_dot word < length word → first_dot word ≢ 2 → first_dot word ≢ 3 → event_of_word word numbers ≡ None
no_first word numbers within two three =
    let long : length (take (first_dot word) word) ≡ first_dot word = length-take-le (first_dot word) word (omega arith) in
    parted word numbers within
    ∙ no_mark (take (first_dot word) word) (drop (first_dot word + 1) word) numbers
    (of_other_length (take (first_dot word) word) (λ is. two (sym long ∙ is)) (λ is. three (sym long ∙ is)))

-- a dot after the first ends no mark
no_later : (word : List ℕ) (numbers : Numbers) (k : ℕ) → first_dot word < k → k < length word → of_marks marks (take k word) (drop (k + 1) word) numbers ≡ None
no_later word numbers k after within =
    let there = is_there word (omega arith) in
    no_mark (take k word) (drop (k + 1) word) numbers
    (with_dot (take k word) (dot_at (take k word) (first_dot word) (ap (λ b. b == 46) (get_or-take k word (first_dot word) 0 after) ∙ there)))

-- a dot where a mark would end, and none where a shorter mark would
after_mark : (word : List ℕ) (numbers : Numbers) (k : ℕ) → (get_or word k 0 == 46) ≡ true → (first_dot word < k → (first_dot word ≢ 2) × (first_dot word ≢ 3))
    → event_of_word word numbers ≡ of_marks marks (take k word) (drop (k + 1) word) numbers
after_mark word numbers k is other =
    let within = within_of word k is in
    let near = no_further word k is in
    elim (cases_eq (first_dot word) k) [
      | inl same ↦ parted word numbers (omega arith) ∙ ap (λ j. of_marks marks (take j word) (drop (j + 1) word) numbers) same
      | inr apart ↦ let after : first_dot word < k = omega arith in
          no_first word numbers (omega arith) (other after).0 (other after).1 ∙ sym (no_later word numbers k after within)
    ]

no_mark_there : (word : List ℕ) (numbers : Numbers) → (get_or word 2 0 == 46) ≡ false → (get_or word 3 0 == 46) ≡ false → event_of_word word numbers ≡ of_semaphores word numbers
no_mark_there word numbers two three = elim (cases_lt (first_dot word) (length word)) [
  | inl within ↦ let there = is_there word within in
      no_first word numbers within (λ is. true≢false (sym there ∙ ap (λ j. get_or word j 0 == 46) is ∙ two)) (λ is. true≢false (sym there ∙ ap (λ j. get_or word j 0 == 46) is ∙ three))
      ∙ sym (no_semaphore word numbers (dot_at word (first_dot word) there))
  | inr past ↦ whole word numbers past
]

-- the event of a word by the dot that ends its mark
pub by_dot : (word : List ℕ) (numbers : Numbers)
    → event_of_word word numbers ≡ option_map_or (λ k. of_marks marks (take k word) (drop (k + 1) word) numbers) (dot_of word) (of_semaphores word numbers)
unfolding dot_of
by_dot word numbers = at (get_or word 2 0 == 46) (get_or word 3 0 == 46) refl refl
  where
    at : (s t : Bool) → (get_or word 2 0 == 46) ≡ s → (get_or word 3 0 == 46) ≡ t
        → event_of_word word numbers ≡ option_map_or (λ k. of_marks marks (take k word) (drop (k + 1) word) numbers) (cond s (Some 2) (cond t (Some 3) None)) (of_semaphores word numbers)
    at true t two three = after_mark word numbers 2 two (λ before. (λ is. absurd (omega arith), λ is. absurd (omega arith)))
    at false true two three = after_mark word numbers 3 three (λ before.
        (λ is. true≢false (sym (is_there word (omega (arith, within_of word 3 three))) ∙ ap (λ j. get_or word j 0 == 46) is ∙ two), λ is. absurd (omega arith)))
    at false false two three = no_mark_there word numbers two three

-- a word whose mark ends there
pub by_mark : (word : List ℕ) (numbers : Numbers) (k : ℕ) → Some k ≡ dot_of word → of_marks marks (take k word) (drop (k + 1) word) numbers ≡ event_of_word word numbers
by_mark word numbers k there =
    sym (by_dot word numbers ∙ ap (λ (o : Option ℕ). option_map_or (λ j. of_marks marks (take j word) (drop (j + 1) word) numbers) o (of_semaphores word numbers)) (sym there))
