-- what a contract sees of a `WaitList`
use Rattle.std.specs.Prelude.{◌≡◌, ◌≢◌, ℕ, ◌<◌, ◌^◌, ◌==◌, List, [], ◌∷◌, ◌++◌, Option, Some, None, IsSome, is_some, Bool, not, count_by, filter, slice_index_or, slice_set, refl}
use Rattle.std.specs.List.{list_any}
use Rattle.std.specs.Coded.{Coded, code_by, coded×, coded_ℕ, coded_list, coded_option}

-- the linked numbers in their order, the value or nothing under each number from 0 on, and how many
-- more values can be pushed with no memory taken
pub record Waits (T : Type 0) : Type 0 where
  pub order : List ℕ
  pub slots : List (Option T)
  pub spare : ℕ

-- what lets a `Waits` be the value of a model
abbrev pub waits_code : {T : Type 0} → Coded T → Coded (Waits T)
waits_code {T} code =
    code_by
    (List ℕ × (List (Option T) × ℕ))
    (coded× (coded_list coded_ℕ) (coded× (coded_list (coded_option code)) coded_ℕ))
    (λ w. (w.order, (w.slots, w.spare)))
    (λ p. record { order = p.0; slots = p.1.0; spare = p.1.1 })
    (λ _. refl)

-- the numbers that are not n
abbrev pub without : ℕ → List ℕ → List ℕ
without n numbers = filter (λ m. not (m == n)) numbers

-- n is none of the numbers
abbrev pub IsAbsent : ℕ → List ℕ → Type 0
IsAbsent n [] = Unit {0}
IsAbsent n (m ∷ ms) = (m ≢ n) × IsAbsent n ms

-- no number stands twice
abbrev pub IsDistinct : List ℕ → Type 0
IsDistinct [] = Unit {0}
IsDistinct (n ∷ ns) = IsAbsent n ns × IsDistinct ns

-- m stands right before n
abbrev pub StandsBefore : ℕ → ℕ → List ℕ → Type 0
StandsBefore m n numbers = (front : List ℕ) × (back : List ℕ) × (numbers ≡ front ++ m ∷ n ∷ back)

-- n stands last
abbrev pub StandsLast : ℕ → List ℕ → Type 0
StandsLast n numbers = (front : List ℕ) × (numbers ≡ front ++ n ∷ [])

module _ {T : Type 0} where
  -- a slot before others, or none at all where none of them has a value
  abbrev pub cons_slot : Option T → List (Option T) → List (Option T)
  cons_slot None [] = []
  cons_slot None (s ∷ ss) = None ∷ s ∷ ss
  cons_slot (Some v) ss = Some v ∷ ss

  -- the slots up to the last that has a value, so that lists with the same values are equal
  abbrev pub trim : List (Option T) → List (Option T)
  trim [] = []
  trim (s ∷ ss) = cons_slot s (trim ss)

  -- each of the numbers has a value
  abbrev pub AllInUse : List (Option T) → List ℕ → Type 0
  AllInUse slots [] = Unit {0}
  AllInUse slots (n ∷ ns) = IsSome (slice_index_or slots n None) × AllInUse slots ns

  -- the value under a number
  abbrev pub get : Waits T → ℕ → Option T
  get w n = slice_index_or w.slots n None

  -- the number has a value
  abbrev pub IsInUse : Waits T → ℕ → Type 0
  IsInUse w n = IsSome (get w n)

  -- the number stands in the order
  abbrev pub is_linked : Waits T → ℕ → Bool
  is_linked w n = list_any (λ m. m == n) w.order

  -- how many numbers have a value
  abbrev pub value_count : Waits T → ℕ
  value_count w = count_by is_some w.slots

  -- the list after a write through `get_mut(n)`
  abbrev pub with_value : Waits T → ℕ → T → Waits T
  with_value w n value = record w { slots = slice_set w.slots n (Some value) }

  -- the new list has this under the number, and every other number keeps what it had
  pub record Updates (old new : Waits T) (number : ℕ) (slot : Option T) : Type 0 where
    pub changed : get new number ≡ slot
    pub others : (other : ℕ) → other ≢ number → get new other ≡ get old other

  -- what holds of every list: no number is linked twice, a linked number is in use, and the values are at
  -- most the largest number
  pub record IsSound (w : Waits T) : Type 0 where
    pub distinct : IsDistinct w.order
    pub in_use : AllInUse w.slots w.order
    pub few : value_count w < 2 ^ 64
