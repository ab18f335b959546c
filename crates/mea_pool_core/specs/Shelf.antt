-- resources on a shelf in the order in which they are lent, each with its slot, and which slots are lent
use Rattle.std.specs.Prelude.{ℕ, ◌≡◌, ◌+◌, ◌<◌, ◌==◌, zero, suc, nat_lt, Bool, true, false, cond, List, [], ◌∷◌, ◌++◌, length, map, zip, count_by, slice_index_or, slice_set, refl}
use Rattle.std.specs.Coded.{Coded, code_by, coded×, coded_ℕ, coded_bool, coded_list}

-- the idle resources, each with its slot, in the order in which they are lent, and which slots are lent
pub record Shelf (R : Type 0) : Type 0 where
  pub idle : List (ℕ × R)
  -- for each slot, whether it is lent
  pub lent : List Bool

-- what lets a `Shelf` be the value of a model
abbrev pub shelf_code : {R : Type 0} → Coded R → Coded (Shelf R)
shelf_code {R} code =
    code_by (List (ℕ × R) × List Bool) (coded× (coded_list (coded× coded_ℕ code)) (coded_list coded_bool)) (λ s. (s.idle, s.lent)) (λ p. record { idle = p.0; lent = p.1 }) (λ _. refl)

-- whether a slot is lent; one that the shelf has not is not
abbrev pub is_lent : List Bool → ℕ → Bool
is_lent lent slot = slice_index_or lent slot false

-- how many slots are lent
abbrev pub lent_count : List Bool → ℕ
lent_count lent = count_by (λ b. b) lent

-- how often a slot stands in a list
abbrev pub times : ℕ → List ℕ → ℕ
times slot slots = count_by (λ s. s == slot) slots

-- 1 where this is so, and else 0
abbrev pub one_if : Bool → ℕ
one_if b = cond b 1 0

-- each slot is on the shelf once or is lent, and there are no others
abbrev pub StandOnce : List ℕ → List Bool → Type 0
StandOnce slots lent = (slot : ℕ) → times slot slots + one_if (is_lent lent slot) ≡ one_if (nat_lt slot (length lent))

-- the slots below n, in their order
abbrev pub slots_below : ℕ → List ℕ
slots_below zero = []
slots_below (suc n) = slots_below n ++ n ∷ []

-- so many marks of slots that are not lent
abbrev pub none_lent : ℕ → List Bool
none_lent zero = []
none_lent (suc n) = none_lent n ++ false ∷ []

module _ {R : Type 0} where
  -- the slots of idle resources
  abbrev pub slots_of : List (ℕ × R) → List ℕ
  slots_of idle = map {A = ℕ × R} (λ l. l.0) idle

  -- the resources without their slots
  abbrev pub resources_of : List (ℕ × R) → List R
  resources_of idle = map {A = ℕ × R} (λ l. l.1) idle

  -- each resource of a list with its place there as its slot
  abbrev pub with_slots : List R → List (ℕ × R)
  with_slots resources = zip (slots_below (length resources)) resources

  -- the first resource of the shelf is lent
  pub record Lends (s : Shelf R) (lease : ℕ × R) (s' : Shelf R) : Type 0 where
    pub first : s.idle ≡ lease ∷ s'.idle
    pub within : lease.0 < length s.lent
    pub free : is_lent s.lent lease.0 ≡ false
    pub marked : s'.lent ≡ slice_set s.lent lease.0 true
    pub more : lent_count s'.lent ≡ lent_count s.lent + 1
