-- the walk along the queue that sums what those who wait lack
use Rattle.std.proofs.Common.{◌≡◌, ℕ, ◌+◌, ◌-◌, ◌<◌, ◌≤◌, Bool, true, false, List, [], ◌∷◌, ◌++◌, length, get_or, Option, Some, None, IsSome, IfSome, IfNone, refl, sym, ap, subst, ◌∙◌, arith, append_assoc}
use Rattle.std.proofs.lemmas.List.{append-nil}
use Rattle.std.proofs.lemmas.List.Sums.{sum_by-append, sum_by-cons}
use Rattle.mea_base.specs.WaitList.{Waits, get, StandsBefore, StandsLast}
use Rattle.mea_base.specs.Queue.{lacks}
use Rattle.mea_sem_core.specs.declared.wait_record.WaitRecord.{WaitRecord}
use Rattle.mea_sem_core.specs.declared.wait_record.WaitRecord.TheVariants.{Acquire, Debt, Granted, Cut}
use Rattle.mea_sem_core.specs.Core.{Waiter, Acquires, Owes, HasNoDebt}
use Rattle.mea_sem_core.specs.Places.{entry, entries, queue_of, is_debt, lack_of, IsQueue, IsWaiting}
use Rattle.mea_sem_core.proofs.Cuts.{first_of, rest_from, absent_front, from_split, rest_split, linked_split, next_behind, entries-append, linked_waits}

module _ {W : Type 0} where
  no_debt_append : (a b : List (Waiter W × ℕ)) → HasNoDebt a → HasNoDebt b → HasNoDebt (a ++ b)
  no_debt_append [] b x y = y
  no_debt_append ((Acquires m d w, l) ∷ a) b x y = no_debt_append a b x y
  no_debt_append ((Owes, l) ∷ a) b x y = absurd x

  no_debt_behind : (a b : List (Waiter W × ℕ)) → HasNoDebt (a ++ b) → HasNoDebt b
  no_debt_behind [] b x = x
  no_debt_behind ((Acquires m d w, l) ∷ a) b x = no_debt_behind a b x
  no_debt_behind ((Owes, l) ∷ a) b x = absurd x

  -- those in front of the next owe nothing, and lack what the rest lacks of the most
  pub record Walks (w : Waits (WaitRecord W)) (next : Option ℕ) (rest most : ℕ) : Type 0 where
    pub front : List ℕ
    pub back : List ℕ
    pub split : w.order ≡ front ++ back
    pub next_is : next ≡ first_of back
    pub no_debt : HasNoDebt (entries w.slots front)
    pub sum : rest + lacks (entries w.slots front) ≡ most

  -- the waiter that the walk has come to
  record Here (w : Waits (WaitRecord W)) (n : ℕ) (so : List ℕ) : Type 0 where
    pub behind : List ℕ
    pub split : w.order ≡ so ++ n ∷ behind

  here : (w : Waits (WaitRecord W)) (n rest most : ℕ) → (so : Walks w (Some n) rest most) → Here w n so.front
  here w n rest most so = by_back so.back so.split so.next_is
    where
      by_back : (back : List ℕ) → w.order ≡ so.front ++ back → Some n ≡ first_of back → Here w n so.front
      by_back [] split is = absurd (cc)
      by_back (k ∷ ks) split is =
          let same : k ≡ n = cc in
          record { behind = ks; split = split ∙ ap (λ j. so.front ++ j ∷ ks) same }

  walks_found : (w : Waits (WaitRecord W)) (n rest most : ℕ) → IsQueue w → Walks w (Some n) rest most → IsWaiting (get w n)
  walks_found w n rest most kept so =
      let at = here w n rest most so in
      linked_waits w.slots n w.order (rw at.split (linked_split so.front n at.behind)) kept.waiting

  some_where : (x : Option (WaitRecord W)) → IsWaiting x → IsSome x
  some_where None waits = absurd waits
  some_where (Some place) waits = refl

  -- it is in use
  pub walks_in_use : (w : Waits (WaitRecord W)) (n rest most : ℕ) → IsQueue w → Walks w (Some n) rest most → IsSome (get w n)
  walks_in_use w n rest most kept so = some_where (get w n) (walks_found w n rest most kept so)

  whole : (w : Waits (WaitRecord W)) (n : ℕ) (front behind : List ℕ) (place : WaitRecord W) → w.order ≡ front ++ n ∷ behind → get w n ≡ Some place
      → queue_of w ≡ entries w.slots front ++ entry n (Some place) ∷ entries w.slots behind
  whole w n front behind place split found =
      ap (entries w.slots) split ∙ entries-append w.slots front (n ∷ behind)
      ∙ ap (λ x. entries w.slots front ++ entry n x ∷ entries w.slots behind) found

  entry_lacks : (n : ℕ) (place : WaitRecord W) → (entry n (Some place)).1 ≡ lack_of place
  entry_lacks n (Acquire d l w) = refl
  entry_lacks n (Debt l) = refl
  entry_lacks n (Granted d) = refl
  entry_lacks n (Cut d) = refl

  lacks_split : (a b : List (Waiter W × ℕ)) (e : Waiter W × ℕ) → lacks (a ++ e ∷ b) ≡ lacks a + (e.1 + lacks b)
  lacks_split a b e = sum_by-append (λ (x : Waiter W × ℕ). x.1) a (e ∷ b) ∙ ap (λ k. lacks a + k) (sum_by-cons (λ (x : Waiter W × ℕ). x.1) e b)

  pub record Turn (w : Waits (WaitRecord W)) (next : Option ℕ) (rest most before : ℕ) : Type 0 where
    pub walks : Walks w next rest most
    pub less : length (rest_from next w.order) < before

  owes_none : (n : ℕ) (x : WaitRecord W) → IsWaiting (Some x) → is_debt x ≡ false → HasNoDebt (entry n (Some x) ∷ [])
  owes_none n (Acquire d l v) at is = tt
  owes_none n (Debt l) at is = absurd (cc)
  owes_none n (Granted d) at is = absurd at
  owes_none n (Cut d) at is = absurd at

  turn_at : (w : Waits (WaitRecord W)) (n rest most : ℕ) (next : Option ℕ) (place : WaitRecord W) (front back : List ℕ) → IsQueue w
      → w.order ≡ front ++ n ∷ back → HasNoDebt (entries w.slots front) → rest + lacks (entries w.slots front) ≡ most
      → get w n ≡ Some place → IsWaiting (Some place) → is_debt place ≡ false → lack_of place ≤ rest
      → IfSome next (λ m. StandsBefore n m w.order) → IfNone next (StandsLast n w.order)
      → Turn w next (rest - lack_of place) most (length (rest_from (Some n) w.order))
  turn_at w n rest most next place front back kept split none sum found waits owes_not fits some last =
      let distinct = rw split at kept.distinct in
      let next_is = next_behind w.order front back n next kept.distinct split some last in
      let moved : front ++ n ∷ back ≡ (front ++ n ∷ []) ++ back = sym (append_assoc front (n ∷ []) back) in
      let ahead = entries-append w.slots front (n ∷ []) ∙ ap (λ x. entries w.slots front ++ entry n x ∷ []) found in
      let here_is : rest_from (Some n) w.order ≡ n ∷ back = ap (rest_from (Some n)) split ∙ from_split front n back (absent_front front n back distinct) in
      let apart = rw moved at distinct in
      let behind : rest_from next w.order ≡ back =
      ap (λ m. rest_from m w.order) next_is ∙ ap (rest_from (first_of back)) (split ∙ moved) ∙ rest_split (front ++ n ∷ []) back apart in
      let total = lacks_split (entries w.slots front) [] (entry n (Some place)) in
      let own = entry_lacks n place in
      let shorter : length (rest_from next w.order) < length (rest_from (Some n) w.order) = omega (arith, ap length here_is, ap length behind) in
      record {
        walks = record {
          front = front ++ n ∷ [];
          back = back;
          split = split ∙ moved;
          next_is = next_is;
          no_debt = rw ahead (no_debt_append (entries w.slots front) (entry n (Some place) ∷ []) none (owes_none n place waits owes_not));
          sum = rw ahead (omega (arith, total, own, sum, fits));
        };
        less = shorter;
      }

  pub walks_turn : (w : Waits (WaitRecord W)) (n rest most : ℕ) (next : Option ℕ) (place : WaitRecord W) → IsQueue w → Walks w (Some n) rest most
      → get w n ≡ Some place → is_debt place ≡ false → lack_of place ≤ rest → IfSome next (λ m. StandsBefore n m w.order)
      → IfNone next (StandsLast n w.order) → Turn w next (rest - lack_of place) most (length (rest_from (Some n) w.order))
  walks_turn w n rest most next place kept so found owes_not fits some last =
      let at = here w n rest most so in
      let waits : IsWaiting (Some place) = subst IsWaiting found (walks_found w n rest most kept so) in
      turn_at w n rest most next place so.front at.behind kept at.split so.no_debt so.sum found waits owes_not fits some last

  -- at the end of the queue
  pub walks_end : (w : Waits (WaitRecord W)) (rest most : ℕ) → Walks w None rest most → HasNoDebt (queue_of w) × (lacks (queue_of w) ≤ most)
  walks_end w rest most so = by_back so.back so.split so.next_is
    where
      by_back : (back : List ℕ) → w.order ≡ so.front ++ back → None ≡ first_of back → HasNoDebt (queue_of w) × (lacks (queue_of w) ≤ most)
      by_back [] split is =
          let all : queue_of w ≡ entries w.slots so.front = ap (entries w.slots) (split ∙ append-nil so.front) in
          rw all (so.no_debt, omega (arith, so.sum))
      by_back (k ∷ ks) split is = absurd (cc)

  -- at one who owes, or who lacks more than is left
  pub walks_owes : (w : Waits (WaitRecord W)) (n rest most : ℕ) (place : WaitRecord W) → Walks w (Some n) rest most → get w n ≡ Some place
      → is_debt place ≡ true → HasNoDebt (queue_of w) → ⊥
  walks_owes w n rest most place so found owes none =
      let at = here w n rest most so in
      by_place place found owes
    where
      by_place : (x : WaitRecord W) → get w n ≡ Some x → is_debt x ≡ true → ⊥
      by_place (Acquire d l v) is o = absurd (cc)
      by_place (Debt l) is o =
          let at = here w n rest most so in
          no_debt_behind (entries w.slots so.front) ((Owes, l) ∷ entries w.slots at.behind) (rw (whole w n so.front at.behind (Debt l) at.split is) at none)
      by_place (Granted d) is o = absurd (cc)
      by_place (Cut d) is o = absurd (cc)

  pub walks_lacks : (w : Waits (WaitRecord W)) (n rest most : ℕ) (place : WaitRecord W) → Walks w (Some n) rest most → get w n ≡ Some place
      → rest < lack_of place → lacks (queue_of w) ≤ most → ⊥
  walks_lacks w n rest most place so found short few =
      let at = here w n rest most so in
      let all = ap lacks (whole w n so.front at.behind place at.split found) in
      let total = lacks_split (entries w.slots so.front) (entries w.slots at.behind) (entry n (Some place)) in
      let own = entry_lacks n place in
      omega (arith, all, total, own, so.sum, short, few)
