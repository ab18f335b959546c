-- what the keys of an admission have after a change, and who is next of those that wait
use Rattle.std.proofs.Common.{◌≡◌, ℕ, ◌+◌, ◌*◌, ◌<◌, ◌≤◌, ◌==◌, ◌&&◌, ◌||◌, ◌⊎◌, inl, inr, Bool, true, false, cond, List, [], ◌∷◌, ◌++◌, Option, Some, None, IsSome, unwrap_or, nat_lt, if◌then◌else◌, refl, ap, sym, subst, ◌∙◌, arith}
use Rattle.std.specs.Ordering.{nat_cmp}
use Rattle.std.specs.FinMap.{get, insert, remove, entries, find, get-entries, len-empty}
use Rattle.std.proofs.lemmas.Bool.{eqb-true, cases_lt}
use Rattle.std.proofs.lemmas.Bool.Decides.{nat_tests}
use Rattle.mea_base.specs.Totals.{total, weight}
use Rattle.mea_base.proofs.Totals.{get_inserted, get_removed, total-insert, total-remove}
use Rattle.mea_base.proofs.Maps.{value_in, nothing_there, is_there, inside}
use Rattle.mea_base.proofs.Tests.{same_test}
use Rattle.mea_share_core.specs.Share.{Share, new_share, held_of, waiting_of, IsWaiting}
use Rattle.mea_share_core.specs.Groups.{IsBefore}
use Rattle.mea_share_core.proofs.Kept.{idle_share}
use Rattle.mea_share_model.specs.Next.{Shares, Waiter, share_at, is_idle, put_share, waiting_in, waiters_of, waiters_among, waiters_in, goes_before, none_before, first_of, next_of, IsNextIn}
use Rattle.mea_by_name.proofs.Sorted.{AllIn, all_there}
use Rattle.mea_share_core.proofs.Ranks.{reads}

-- ---- a key has something else
both_true : (a b : Bool) → a && b ≡ true → (a ≡ true) × (b ≡ true)
both_true true b is = (refl, is)
both_true false b is = absurd (cc)

pub idle_new : (s : Share ℕ) → is_idle s ≡ true → s ≡ new_share
idle_new s is =
    let both = both_true (s.weight == 1) (held_of s + waiting_of s == 0) is in
    let none : held_of s + waiting_of s ≡ 0 = eqb-true (held_of s + waiting_of s) 0 both.1 in
    idle_share s (eqb-true s.weight 1 both.0) (omega (arith, none)) (omega (arith, none))

pub share_put : (m : Shares) (k : ℕ) (s : Share ℕ) (q : ℕ) → share_at (put_share m k s) q ≡ cond (k == q) s (share_at m q)
share_put m k s q = by_test (is_idle s) refl
  where
    chosen : (b : Bool) (o : Option (Share ℕ)) → unwrap_or (cond b o (get m q)) new_share ≡ cond b (unwrap_or o new_share) (share_at m q)
    chosen true o = refl
    chosen false o = refl

    by_test : (b : Bool) → is_idle s ≡ b → unwrap_or (get (if b then remove m k else insert m k s) q) new_share ≡ cond (k == q) s (share_at m q)
    by_test true idle = ap (λ o. unwrap_or o new_share) (get_removed m k q) ∙ chosen (k == q) None ∙ ap (λ t. cond (k == q) t (share_at m q)) (sym (idle_new s idle))
    by_test false idle = ap (λ o. unwrap_or o new_share) (get_inserted m k q s) ∙ chosen (k == q) (Some s)

weighs : (k : ℕ) (o : Option (Share ℕ)) → weight (λ j (s : Share ℕ). waiting_of s) k o ≡ waiting_of (unwrap_or o new_share)
weighs k None = sym (len-empty nat_cmp ℕ)
weighs k (Some s) = refl

pub waiting_put : (m : Shares) (k : ℕ) (s : Share ℕ) → waiting_in (put_share m k s) + waiting_of (share_at m k) ≡ waiting_in m + waiting_of s
waiting_put m k s = by_test (is_idle s) refl
  where
    by_test : (b : Bool) → is_idle s ≡ b → total (λ j (t : Share ℕ). waiting_of t) (if b then remove m k else insert m k s) + waiting_of (share_at m k) ≡ waiting_in m + waiting_of s
    by_test true idle =
        let none : waiting_of s ≡ 0 = ap waiting_of (idle_new s idle) ∙ len-empty nat_cmp ℕ in
        omega (arith, none, weighs k (get m k), total-remove (λ j (t : Share ℕ). waiting_of t) m k)
    by_test false idle = omega (arith, weighs k (get m k), total-insert (λ j (t : Share ℕ). waiting_of t) m k s)

pub share_waits : (m : Shares) (k : ℕ) → waiting_of (share_at m k) ≤ waiting_in m
share_waits m k = omega (arith, weighs k (get m k), total-remove (λ j (t : Share ℕ). waiting_of t) m k)

-- ---- all that wait
abbrev pub AllOf : (Waiter → Type 0) → List Waiter → Type 0
AllOf P [] = Unit {0}
AllOf P (a ∷ xs) = P a × AllOf P xs

abbrev pub Among : List Waiter → Waiter → Type 0
Among [] a = ⊥
Among (b ∷ bs) a = (b ≡ a) ⊎ Among bs a

all_append : (P : Waiter → Type 0) (xs bs : List Waiter) → AllOf P xs → AllOf P bs → AllOf P (xs ++ bs)
all_append P [] bs first second = second
all_append P (a ∷ xs) bs first second = (first.0, all_append P xs bs first.1 second)

among_left : (xs bs : List Waiter) (a : Waiter) → Among xs a → Among (xs ++ bs) a
among_left [] bs a is = absurd is
among_left (c ∷ xs) bs a (inl here) = inl here
among_left (c ∷ xs) bs a (inr later) = inr (among_left xs bs a later)

among_right : (xs bs : List Waiter) (a : Waiter) → Among bs a → Among (xs ++ bs) a
among_right [] bs a is = is
among_right (c ∷ xs) bs a is = inr (among_right xs bs a is)

pub all_at : (P : Waiter → Type 0) (xs : List Waiter) (a : Waiter) → AllOf P xs → Among xs a → P a
all_at P [] a all is = absurd is
all_at P (c ∷ xs) a all (inl here) = subst P here all.0
all_at P (c ∷ xs) a all (inr later) = all_at P xs a all.1 later

pub all_map : (P Q : Waiter → Type 0) (xs : List Waiter) → ((a : Waiter) → P a → Q a) → AllOf P xs → AllOf Q xs
all_map P Q [] gives all = tt
all_map P Q (a ∷ xs) gives all = (gives a all.0, all_map P Q xs gives all.1)

-- it waits, of a key that has that
pub record Waits (m : Shares) (a : Waiter) : Type 0 where
  pub share : get m a.key ≡ Some a.share
  pub waker : get a.share.waiting a.number ≡ Some a.waker

module _ (m : Shares) where
  of_key : (k : ℕ) (s : Share ℕ) (es : List (ℕ × ℕ)) → get m k ≡ Some s → AllIn (λ n w. get s.waiting n ≡ Some w) es → AllOf (Waits m) (waiters_of k s es)
  of_key k s [] there all = tt
  of_key k s (e ∷ es) there all = (record { share = there; waker = all.0 }, of_key k s es there all.1)

  of_all : (es : List (ℕ × Share ℕ)) → AllIn (λ k s. get m k ≡ Some s) es → AllOf (Waits m) (waiters_among es)
  of_all [] all = tt
  of_all (e ∷ es) all = all_append (Waits m) (waiters_of e.0 e.1 (entries e.1.waiting)) (waiters_among es) (of_key e.0 e.1 (entries e.1.waiting) all.0 (all_there e.1.waiting)) (of_all es all.1)

  pub all_wait : AllOf (Waits m) (waiters_in m)
  all_wait = of_all (entries m) (all_there m)

  -- and each that waits is among them
  in_key : (k : ℕ) (s : Share ℕ) (n w : ℕ) (es : List (ℕ × ℕ)) → find nat_cmp n es ≡ Some w → Among (waiters_of k s es) (record { key = k; share = s; number = n; waker = w })
  in_key k s n w [] is = absurd (cc)
  in_key k s n w (e ∷ es) is = by_test (in_key k s n w es) (e.0 == n) refl (sym (ap (λ b. cond b (Some e.1) (find nat_cmp n es)) (same_test n e.0)) ∙ is)
    where
      by_test : (find nat_cmp n es ≡ Some w → Among (waiters_of k s es) (record { key = k; share = s; number = n; waker = w })) → (b : Bool) → (e.0 == n) ≡ b → cond b (Some e.1) (find nat_cmp n es) ≡ Some w
          → (◌≡◌ {A = Waiter} (record { key = k; share = s; number = e.0; waker = e.1 }) (record { key = k; share = s; number = n; waker = w }))
          ⊎ Among (waiters_of k s es) (record { key = k; share = s; number = n; waker = w })
      by_test more true same found =
          let number : e.0 ≡ n = eqb-true e.0 n same in
          let waker : e.1 ≡ w = inside found in
          inl (λ i. record { key = k; share = s; number = number i; waker = waker i })
      by_test more false differs found = inr (more found)

  in_all : (k : ℕ) (s : Share ℕ) (a : Waiter) (es : List (ℕ × Share ℕ)) → find nat_cmp k es ≡ Some s → Among (waiters_of k s (entries s.waiting)) a → Among (waiters_among es) a
  in_all k s a [] is among = absurd (cc)
  in_all k s a (e ∷ es) is among = by_test (λ found. in_all k s a es found among) (e.0 == k) refl (sym (ap (λ b. cond b (Some e.1) (find nat_cmp k es)) (same_test k e.0)) ∙ is)
    where
      by_test : (find nat_cmp k es ≡ Some s → Among (waiters_among es) a) → (b : Bool) → (e.0 == k) ≡ b → cond b (Some e.1) (find nat_cmp k es) ≡ Some s → Among (waiters_of e.0 e.1 (entries e.1.waiting) ++ waiters_among es) a
      by_test more true same found =
          let key : e.0 ≡ k = eqb-true e.0 k same in
          let share : e.1 ≡ s = inside found in
          among_left (waiters_of e.0 e.1 (entries e.1.waiting)) (waiters_among es) a
          (subst (λ t. Among (waiters_of e.0 t (entries t.waiting)) a) (sym share) (subst (λ j. Among (waiters_of j s (entries s.waiting)) a) (sym key) among))
      by_test more false differs found = among_right (waiters_of e.0 e.1 (entries e.1.waiting)) (waiters_among es) a (more found)

  pub waiter_there : (k : ℕ) (s : Share ℕ) (n w : ℕ) → get m k ≡ Some s → get s.waiting n ≡ Some w → Among (waiters_in m) (record { key = k; share = s; number = n; waker = w })
  waiter_there k s n w there waits =
      in_all k s (record { key = k; share = s; number = n; waker = w }) (entries m) (sym (get-entries m k) ∙ there)
      (in_key k s n w (entries s.waiting) (sym (get-entries s.waiting n) ∙ waits))

-- who waits of a key waits of one that is there
pub waits_there : (m : Shares) (k n w : ℕ) → get (share_at m k).waiting n ≡ Some w → get m k ≡ Some (share_at m k)
waits_there m k n w waits = at (get m k) refl waits
  where
    at : (o : Option (Share ℕ)) → get m k ≡ o → get (unwrap_or o new_share).waiting n ≡ Some w → get m k ≡ Some (unwrap_or o new_share)
    at None is found = absurd (nothing_there ℕ n (is_there (get (new_share {W = ℕ}).waiting n) w found))
    at (Some s) is found = is

-- ---- who is next

not_before : (a b : Waiter) → goes_before a b ≡ false → IsBefore a.share a.number b.share b.number → ⊥
not_before a b is = at (reads (held_of a.share * b.share.weight) (held_of b.share * a.share.weight) a.number b.number is)
  where
    at : (held_of b.share * a.share.weight ≤ held_of a.share * b.share.weight) × (held_of a.share * b.share.weight ≡ held_of b.share * a.share.weight → b.number ≤ a.number)
        → IsBefore a.share a.number b.share b.number → ⊥
    at told (inl less) = absurd (let le = told.0 in omega (arith, le, less))
    at told (inr same) = absurd (let low = told.1 same.0 in let later = same.1 in omega (arith, low, later))

read_true : (x y i j : ℕ) → nat_lt x y || ((x == y) && nat_lt i j) ≡ true → (x < y) ⊎ ((x ≡ y) × (i < j))
read_true x y i j is = by_test (nat_lt x y) refl is
  where
    by_test : (b : Bool) → nat_lt x y ≡ b → b || ((x == y) && nat_lt i j) ≡ true → (x < y) ⊎ ((x ≡ y) × (i < j))
    by_test true low h = inl (grind (arith, nat_tests))
    by_test false high h = let both = both_true (x == y) (nat_lt i j) h in let less = both.1 in inr (eqb-true x y both.0, grind (arith, nat_tests))

before_not : (a b : Waiter) → (IsBefore a.share a.number b.share b.number → ⊥) → goes_before a b ≡ false
before_not a b not = by_test (goes_before a b) refl
  where
    by_test : (t : Bool) → goes_before a b ≡ t → goes_before a b ≡ false
    by_test true is = absurd (not (read_true (held_of a.share * b.share.weight) (held_of b.share * a.share.weight) a.number b.number is))
    by_test false is = is

all_not_before : (a : Waiter) (xs : List Waiter) → none_before a xs ≡ true → AllOf (λ b. goes_before b a ≡ false) xs
all_not_before a [] is = tt
all_not_before a (b ∷ bs) is = by_test (all_not_before a bs) (goes_before b a) refl is
  where
    by_test : (none_before a bs ≡ true → AllOf (λ b. goes_before b a ≡ false) bs) → (t : Bool) → goes_before b a ≡ t → (if t then false else none_before a bs) ≡ true → (goes_before b a ≡ false) × AllOf (λ b. goes_before b a ≡ false) bs
    by_test more true before h = absurd (cc)
    by_test more false before h = (before, more h)

pub none_of_all : (a : Waiter) (xs : List Waiter) → AllOf (λ b. goes_before b a ≡ false) xs → none_before a xs ≡ true
none_of_all a [] all = refl
none_of_all a (b ∷ bs) all = ap (λ t. if t then false else none_before a bs) all.0 ∙ none_of_all a bs all.1

first_is : (P : Waiter → Type 0) (all xs : List Waiter) (a : Waiter) → AllOf P xs → first_of all xs ≡ Some a → P a × (none_before a all ≡ true)
first_is P all [] a each is = absurd (cc)
first_is P all (b ∷ bs) a each is = by_test (first_is P all bs a each.1) (none_before b all) refl is
  where
    by_test : (first_of all bs ≡ Some a → P a × (none_before a all ≡ true)) → (t : Bool) → none_before b all ≡ t → (if t then Some b else first_of all bs) ≡ Some a → P a × (none_before a all ≡ true)
    by_test more true none h = let same : b ≡ a = inside h in (subst P same each.0, subst (λ c. none_before c all ≡ true) same none)
    by_test more false none h = more h

pub first_found : (all xs : List Waiter) (a : Waiter) → Among xs a → none_before a all ≡ true → IsSome (first_of all xs)
first_found all [] a among none = absurd among
first_found all (b ∷ bs) a among none = by_test (λ later. first_found all bs a later none) (none_before b all) refl among
  where
    by_test : (Among bs a → IsSome (first_of all bs)) → (t : Bool) → none_before b all ≡ t → (b ≡ a) ⊎ Among bs a → IsSome (if t then Some b else first_of all bs)
    by_test more true is at = refl
    by_test more false is (inl here) = absurd (let yes : none_before b all ≡ true = subst (λ c. none_before c all ≡ true) (sym here) none in cc)
    by_test more false is (inr later) = more later

pub record Next (m : Shares) (a : Waiter) : Type 0 where
  pub waits : Waits m a
  pub share : share_at m a.key ≡ a.share
  pub first : IsNextIn m a.key a.number

-- who is next waits, and none is admitted before it
pub next_is : (m : Shares) (a : Waiter) → next_of m ≡ Some a → Next m a
next_is m a is =
    let told = first_is (Waits m) (waiters_in m) (waiters_in m) a (all_wait m) is in
    let here : share_at m a.key ≡ a.share = ap (λ o. unwrap_or o new_share) told.0.share in
    record {
      waits = told.0;
      share = here;
      first = record {
        waits = subst (λ s. IsWaiting s a.number) (sym here) (is_there (get a.share.waiting a.number) a.waker told.0.waker);
        least = λ j p waiting.
            let w = value_in (get (share_at m j).waiting p) waiting in
            let among = waiter_there m j (share_at m j) p w.0 (waits_there m j p w.0 w.1) w.1 in
            subst (λ s. IsBefore (share_at m j) p s a.number → ⊥) (sym here)
            (not_before (record { key = j; share = share_at m j; number = p; waker = w.0 }) a
            (all_at (λ b. goes_before b a ≡ false) (waiters_in m) (record { key = j; share = share_at m j; number = p; waker = w.0 }) (all_not_before a (waiters_in m) told.1) among));
      };
    }

same_number : (x y n p : ℕ) → ((x < y) ⊎ ((x ≡ y) × (n < p)) → ⊥) → ((y < x) ⊎ ((y ≡ x) × (p < n)) → ⊥) → n ≡ p
same_number x y n p first second = elim (cases_lt x y) as (λ _. n ≡ p) [
  | inl low ↦ absurd (first (inl low))
  | inr high ↦ elim (cases_lt y x) as (λ _. n ≡ p) [
    | inl less ↦ absurd (second (inl less))
    | inr more ↦
        let same : x ≡ y = omega (arith, high, more) in
        elim (cases_lt n p) as (λ _. n ≡ p) [
          | inl early ↦ absurd (first (inr (same, early)))
          | inr late ↦ elim (cases_lt p n) as (λ _. n ≡ p) [
            | inl before ↦ absurd (second (inr (sym same, before)))
            | inr after ↦ omega (arith, late, after)
          ]
        ]
  ]
]

-- where none of several keys has a number twice, a waiter that none is admitted before is who is next
pub next_found : (m : Shares) (k n w : ℕ) → get (share_at m k).waiting n ≡ Some w → ((j p : ℕ) → IsWaiting (share_at m j) p → IsBefore (share_at m j) p (share_at m k) n → ⊥)
    → ((j : ℕ) → IsWaiting (share_at m j) n → j ≡ k) → next_of m ≡ Some (record { key = k; share = share_at m k; number = n; waker = w })
next_found m k n w waits least once =
    let c : Waiter = record { key = k; share = share_at m k; number = n; waker = w } in
    let among = waiter_there m k (share_at m k) n w (waits_there m k n w waits) waits in
    let none = none_of_all c (waiters_in m) (all_map (Waits m) (λ b. goes_before b c ≡ false) (waiters_in m) (λ b is. before_not b c (not_less b is)) (all_wait m)) in
    let found = value_in (next_of m) (first_found (waiters_in m) (waiters_in m) c among none) in
    let a = found.0 in
    let next = next_is m a found.1 in
    let number : n ≡ a.number = same_number (held_of (share_at m k) * (share_at m a.key).weight) (held_of (share_at m a.key) * (share_at m k).weight) n a.number
    (next.first.least k n (is_there (get (share_at m k).waiting n) w waits)) (least a.key a.number next.first.waits) in
    let key : a.key ≡ k = once a.key (subst (λ p. IsWaiting (share_at m a.key) p) (sym number) next.first.waits) in
    let share : a.share ≡ share_at m k = sym next.share ∙ ap (share_at m) key in
    let waker : a.waker ≡ w = inside (sym next.waits.waker ∙ ap (λ s. get s.waiting a.number) share ∙ ap (get (share_at m k).waiting) (sym number) ∙ waits) in
    found.1 ∙ ap (λ b. Some b) (λ i. record { key = key i; share = share i; number = sym number i; waker = waker i })
  where
    not_less : (b : Waiter) → Waits m b → IsBefore b.share b.number (share_at m k) n → ⊥
    not_less b is =
        let here : share_at m b.key ≡ b.share = ap (λ o. unwrap_or o new_share) is.share in
        subst (λ s. IsBefore s b.number (share_at m k) n → ⊥) here (least b.key b.number (subst (λ s. IsWaiting s b.number) (sym here) (is_there (get b.share.waiting b.number) b.waker is.waker)))

-- with nobody waiting nobody is next
pub nobody_next : (m : Shares) → ((k n : ℕ) → IsWaiting (share_at m k) n → ⊥) → next_of m ≡ None
nobody_next m none = at (next_of m) refl
  where
    at : (o : Option Waiter) → next_of m ≡ o → next_of m ≡ None
    at None is = is
    at (Some a) is = absurd (none a.key a.number (next_is m a is).first.waits)
