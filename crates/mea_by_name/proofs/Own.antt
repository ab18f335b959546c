-- the things of one object, and what is seen of them, after a change at one name
use Rattle.std.proofs.Common.{◌≡◌, ℕ, ◌+◌, ◌-◌, ◌≤◌, ◌<◌, ◌==◌, inl, inr, Bool, true, false, cond, length, List, [], ◌∷◌, sum_by, Option, Some, None, IsSome, is_some, refl, ap, sym, ◌∙◌, arith}
use Rattle.std.specs.Option.{option_map}
use Rattle.std.specs.Ordering.{nat_cmp}
use Rattle.std.specs.Cmp.{nat_cmp_total}
use Rattle.std.specs.FinMap.{get, insert, remove, len, entries, empty, get-retain_keys, get-empty, len-insert, len-remove, empty_of_len, len-entries, nat_cmp-IsAntisymmetric}
use Rattle.std.proofs.lemmas.Bool.{eqb-true, eq-eqb, ne_eqb, cases_lt}
use Rattle.std.proofs.lemmas.List.Sums.{sum_by-cons}
use Rattle.mea_base.specs.Totals.{total, weight}
use Rattle.mea_base.proofs.Maps.{by_put, removed_there, is_there, value_in, is_absent}
use Rattle.mea_base.proofs.NamedMaps.{same_named, get-seen}
use Rattle.mea_base.proofs.Totals.{get_inserted, get_removed, total-insert, total-remove, total-alike}
use Rattle.mea_by_name.specs.ByName.{Names, seen, count, is_of, own, AreHome}

-- ---- what is seen
pub seen-at : {X Y : Type 0} (f : X → Y) (m : Names X) (k : ℕ) (x : X) → get m k ≡ Some x → get (seen f m) k ≡ Some (f x)
seen-at f m k x is = get-seen (λ k x. f x) m k ∙ ap (option_map f) is

pub seen-none : {X Y : Type 0} (f : X → Y) (m : Names X) (k : ℕ) → get m k ≡ None → get (seen f m) k ≡ None
seen-none f m k is = get-seen (λ k x. f x) m k ∙ ap (option_map f) is

-- what is seen is of a thing that is there
pub seen-back : {X Y : Type 0} (f : X → Y) (m : Names X) (k : ℕ) (y : Y) → get (seen f m) k ≡ Some y → (x : X) × (get m k ≡ Some x) × (f x ≡ y)
seen-back {X} f m k y is = at (get m k) refl (sym (get-seen (λ k x. f x) m k) ∙ is)
  where
    at : (o : Option X) → get m k ≡ o → option_map f o ≡ Some y → (x : X) × (get m k ≡ Some x) × (f x ≡ y)
    at None was = λ h. absurd (cc)
    at (Some x) was = λ h. (x, was, (let same : f x ≡ y = cc in same))

-- of what is not there nothing is seen, and what is seen is there
pub seen-none_back : {X Y : Type 0} (f : X → Y) (m : Names X) (k : ℕ) → get (seen f m) k ≡ None → get m k ≡ None
seen-none_back f m k none = is_absent (get m k) (λ some. let it = value_in (get m k) some in absurd (let there = seen-at f m k it.0 it.1 in let no = sym none ∙ there in cc))

pub seen-some_back : {X Y : Type 0} (f : X → Y) (m : Names X) (k : ℕ) → IsSome (get (seen f m) k) → IsSome (get m k)
seen-some_back f m k some = let it = value_in (get (seen f m) k) some in let back = seen-back f m k it.0 it.1 in is_there (get m k) back.0 back.1

pub seen-insert : {X Y : Type 0} (f : X → Y) (m : Names X) (k : ℕ) (x : X) → seen f (insert m k x) ≡ insert (seen f m) k (f x)
seen-insert f m k x = same_named _ _ (λ q.
    get-seen (λ k x. f x) (insert m k x) q ∙ ap (option_map f) (get_inserted m k q x) ∙ by_test q (k == q)
    ∙ ap (cond (k == q) (Some (f x))) (sym (get-seen (λ k x. f x) m q)) ∙ sym (get_inserted (seen f m) k q (f x)))
  where
    by_test : (q : ℕ) (b : Bool) → option_map f (cond b (Some x) (get m q)) ≡ cond b (Some (f x)) (option_map f (get m q))
    by_test q true = refl
    by_test q false = refl

pub seen-remove : {X Y : Type 0} (f : X → Y) (m : Names X) (k : ℕ) → seen f (remove m k) ≡ remove (seen f m) k
seen-remove f m k = same_named _ _ (λ q.
    get-seen (λ k x. f x) (remove m k) q ∙ ap (option_map f) (get_removed m k q) ∙ by_test q (k == q)
    ∙ ap (cond (k == q) None) (sym (get-seen (λ k x. f x) m q)) ∙ sym (get_removed (seen f m) k q))
  where
    by_test : (q : ℕ) (b : Bool) → option_map f (cond b None (get m q)) ≡ cond b None (option_map f (get m q))
    by_test q true = refl
    by_test q false = refl

pub seen-empty : {X Y : Type 0} (f : X → Y) → seen f empty ≡ empty
seen-empty f = same_named _ _ (λ q. get-seen (λ k x. f x) empty q ∙ ap (option_map f) (get-empty nat_cmp q) ∙ sym (get-empty nat_cmp q))

-- what is changed but seen alike
pub seen-alike : {X Y : Type 0} (f : X → Y) (m : Names X) (k : ℕ) (x y : X) → get m k ≡ Some x → f y ≡ f x → seen f (insert m k y) ≡ seen f m
seen-alike f m k x y is alike = same_named _ _ (λ q.
    get-seen (λ k x. f x) (insert m k y) q ∙ ap (option_map f) (get_inserted m k q y) ∙ by_test q (k == q) refl ∙ sym (get-seen (λ k x. f x) m q))
  where
    by_test : (q : ℕ) (b : Bool) → (k == q) ≡ b → option_map f (cond b (Some y) (get m q)) ≡ option_map f (get m q)
    by_test q true e = ap (λ z. Some z) alike ∙ sym (ap (option_map f) (ap (get m) (sym (eqb-true k q e)) ∙ is))
    by_test q false e = refl

pub total-seen : {X Y : Type 0} (f : X → Y) (w : Y → ℕ) (m : Names X) → total (λ k y. w y) (seen f m) ≡ total (λ k x. w (f x)) m
total-seen f w m = total-alike (λ k y. w y) (λ k x. w (f x)) (seen f m) m (λ k. ap (weight (λ k y. w y) k) (get-seen (λ k x. f x) m k) ∙ by_value k (get m k))
  where
    by_value : (k : ℕ) (o : Option _) → weight (λ k y. w y) k (option_map f o) ≡ weight (λ k x. w (f x)) k o
    by_value k None = refl
    by_value k (Some x) = refl

-- what is put where it is
pub insert_same : {X : Type 0} (m : Names X) (k : ℕ) (x : X) → get m k ≡ Some x → insert m k x ≡ m
insert_same m k x is = same_named _ _ (λ q. get_inserted m k q x ∙ by_test q (k == q) refl)
  where
    by_test : (q : ℕ) (b : Bool) → (k == q) ≡ b → cond b (Some x) (get m q) ≡ get m q
    by_test q true e = sym (ap (get m) (sym (eqb-true k q e)) ∙ is)
    by_test q false e = refl

-- what was put and is gone again
pub put_gone : {X : Type 0} (m : Names X) (k : ℕ) (x : X) → remove (insert m k x) k ≡ remove m k
put_gone m k x = same_named _ _ (λ q. get_removed (insert m k x) k q ∙ ap (cond (k == q) None) (get_inserted m k q x) ∙ by_test q (k == q) ∙ sym (get_removed m k q))
  where
    by_test : (q : ℕ) (b : Bool) → cond b None (cond b (Some x) (get m q)) ≡ cond b None (get m q)
    by_test q true = refl
    by_test q false = refl

pub gone_none : {X : Type 0} (m : Names X) (k : ℕ) → get m k ≡ None → remove m k ≡ m
gone_none m k none = same_named _ _ (λ q. get_removed m k q ∙ by_test q (k == q) refl)
  where
    by_test : (q : ℕ) (b : Bool) → (k == q) ≡ b → cond b None (get m q) ≡ get m q
    by_test q true e = sym (ap (get m) (sym (eqb-true k q e)) ∙ none)
    by_test q false e = refl

-- ---- how many there are
length-ones : {X : Type 0} (es : List (ℕ × X)) → sum_by {X = ℕ × X} (λ e. 1) es ≡ length es
length-ones [] = refl
length-ones (e ∷ es) = omega (arith, length-ones es, sum_by-cons (λ e. 1) e es)

pub len-total : {X : Type 0} (m : Names X) → len m ≡ total (λ k x. 1) m
len-total m = len-entries m ∙ sym (length-ones (entries m))

pub len-seen : {X Y : Type 0} (f : X → Y) (m : Names X) → len (seen f m) ≡ len m
len-seen f m = len-total (seen f m) ∙ total-seen f (λ y. 1) m ∙ sym (len-total m)

-- those that pass a test are no more than all
pub count-least : {X : Type 0} (p : X → Bool) (m : Names X) → count p m ≤ len m
count-least {X} p m = rw len-total (at (entries m))
  where
    one : (b : Bool) → cond b 1 0 ≤ 1
    one true = omega arith
    one false = omega arith

    at : (es : List (ℕ × X)) → sum_by {X = ℕ × X} (λ e. cond (p e.1) 1 0) es ≤ sum_by {X = ℕ × X} (λ e. 1) es
    at [] = omega arith
    at (e ∷ es) = omega (arith, one (p e.1), at es, sum_by-cons {X = ℕ × X} (λ e. cond (p e.1) 1 0) e es, sum_by-cons {X = ℕ × X} (λ e. 1) e es)

module _ {X : Type 0} (m : Names X) (k : ℕ) where
  pub len-new : (x : X) → get m k ≡ None → len (insert m k x) ≡ len m + 1
  len-new x none = len-insert nat_cmp_total m k x ∙ ap (λ o. cond (is_some o) (len m) (len m + 1)) none

  pub len-over : (x y : X) → get m k ≡ Some y → len (insert m k x) ≡ len m
  len-over x y is = len-insert nat_cmp_total m k x ∙ ap (λ o. cond (is_some o) (len m) (len m + 1)) is

  pub len-gone : (y : X) → get m k ≡ Some y → len (remove m k) ≡ len m - 1
  len-gone y is = len-remove nat_cmp_total m k ∙ ap (λ o. cond (is_some o) (len m - 1) (len m)) is

  pub len-some : (y : X) → get m k ≡ Some y → 1 ≤ len m
  len-some y is = elim (cases_lt 0 (len m)) as (λ x. 1 ≤ len m) [
    | inl more ↦ omega arith
    | inr none ↦ absurd (let nothing : get m k ≡ None = ap (λ n. get n k) (empty_of_len m (omega arith)) ∙ get-empty nat_cmp k in cc)
  ]

  pub count-put : (p : X → Bool) (x : X) → count p (insert m k x) + weight (λ k x. cond (p x) 1 0) k (get m k) ≡ count p m + cond (p x) 1 0
  count-put p x = total-insert (λ k x. cond (p x) 1 0) m k x

  pub count-new : (p : X → Bool) (x : X) → get m k ≡ None → count p (insert m k x) ≡ count p m + cond (p x) 1 0
  count-new p x none =
      let here : weight (λ k x. cond (p x) 1 0) k (get m k) ≡ 0 = ap (weight (λ k x. cond (p x) 1 0) k) none in
      omega (arith, here, count-put p x)

  pub count-over : (p : X → Bool) (x y : X) → get m k ≡ Some y → p x ≡ p y → count p (insert m k x) ≡ count p m
  count-over p x y is same =
      let here : weight (λ k x. cond (p x) 1 0) k (get m k) ≡ cond (p y) 1 0 = ap (weight (λ k x. cond (p x) 1 0) k) is in
      let alike : ◌≡◌ {A = ℕ} (cond (p x) 1 0) (cond (p y) 1 0) = ap (λ b. cond b 1 0) same in
      omega (arith, here, alike, count-put p x)

  pub count-gone : (p : X → Bool) (y : X) → get m k ≡ Some y → count p (remove m k) + cond (p y) 1 0 ≡ count p m
  count-gone p y is =
      let here : weight (λ k x. cond (p x) 1 0) k (get m k) ≡ cond (p y) 1 0 = ap (weight (λ k x. cond (p x) 1 0) k) is in
      omega (arith, here, total-remove (λ k x. cond (p x) 1 0) m k)

-- ---- the things of one object
module _ {X : Type 0} (owner : X → ℕ) where
  pub get-own : (o : ℕ) (m : Names X) (q : ℕ) → get (own owner o m) q ≡ cond (is_of owner o (get m q)) (get m q) None
  get-own o m q = get-retain_keys m (λ k. is_of owner o (get m k)) q (λ x tie. ap (λ j. is_of owner o (get m j)) (sym (nat_cmp-IsAntisymmetric q x tie)))

  pub own-at : (o : ℕ) (m : Names X) (k : ℕ) (x : X) → get m k ≡ Some x → owner x ≡ o → get (own owner o m) k ≡ Some x
  own-at o m k x is mine = get-own o m k ∙ ap (λ p. cond (is_of owner o p) p None) is ∙ ap (λ b. cond b (Some x) None) (eq-eqb (owner x) o mine)

  pub own-none : (o : ℕ) (m : Names X) (k : ℕ) → get m k ≡ None → get (own owner o m) k ≡ None
  own-none o m k is = get-own o m k ∙ ap (λ p. cond (is_of owner o p) p None) is

  pub own-had : (o : ℕ) (m : Names X) (k : ℕ) (x : X) → get (own owner o m) k ≡ Some x → (get m k ≡ Some x) × (owner x ≡ o)
  own-had o m k x is = by_value (get m k) refl (sym (get-own o m k) ∙ is)
    where
      by_value : (p : Option X) → get m k ≡ p → cond (is_of owner o p) p None ≡ Some x → (get m k ≡ Some x) × (owner x ≡ o)
      by_value None was = λ h. absurd (cc)
      by_value (Some y) was = elim (owner y == o) as (λ b. (owner y == o) ≡ b → cond b (Some y) None ≡ Some x → (get m k ≡ Some x) × (owner x ≡ o)) [
        | true ↦ λ e h. let same : y ≡ x = cc in (was ∙ h, ap owner (sym same) ∙ eqb-true (owner y) o e)
        | false ↦ λ e h. absurd (cc)
      ] refl

  -- no thing of o is there where there are none
  pub own-nothing : (o : ℕ) (m : Names X) → len (own owner o m) ≡ 0 → (k : ℕ) (x : X) → get m k ≡ Some x → o ≡ owner x → ⊥
  own-nothing o m none k x is mine =
      let here = own-at o m k x is (sym mine) in
      let nothing : get (own owner o m) k ≡ None = ap (λ n. get n k) (empty_of_len (own owner o m) none) ∙ get-empty nat_cmp k in
      absurd (cc)

  pub own-empty : (o : ℕ) (m : Names X) → ((k : ℕ) (x : X) → get m k ≡ Some x → o ≡ owner x → ⊥) → own owner o m ≡ empty
  own-empty o m none = same_named _ _ (λ q. at q (get (own owner o m) q) refl ∙ sym (get-empty nat_cmp q))
    where
      at : (q : ℕ) (p : Option X) → get (own owner o m) q ≡ p → get (own owner o m) q ≡ None
      at q None is = is
      at q (Some x) is = absurd (let had = own-had o m q x is in none q x had.0 (sym had.1))

  pub own-put : (o : ℕ) (m : Names X) (k : ℕ) (x : X) → owner x ≡ o → own owner o (insert m k x) ≡ insert (own owner o m) k x
  own-put o m k x mine = same_named _ _ (λ q.
      get-own o (insert m k x) q ∙ ap (λ p. cond (is_of owner o p) p None) (get_inserted m k q x) ∙ by_test q (k == q)
      ∙ ap (cond (k == q) (Some x)) (sym (get-own o m q)) ∙ sym (get_inserted (own owner o m) k q x))
    where
      by_test : (q : ℕ) (b : Bool) → cond (is_of owner o (cond b (Some x) (get m q))) (cond b (Some x) (get m q)) None ≡ cond b (Some x) (cond (is_of owner o (get m q)) (get m q) None)
      by_test q true = ap (λ b. cond b (Some x) None) (eq-eqb (owner x) o mine)
      by_test q false = refl

  pub own-gone : (o : ℕ) (m : Names X) (k : ℕ) → own owner o (remove m k) ≡ remove (own owner o m) k
  own-gone o m k = same_named _ _ (λ q.
      get-own o (remove m k) q ∙ ap (λ p. cond (is_of owner o p) p None) (get_removed m k q) ∙ by_test q (k == q)
      ∙ ap (cond (k == q) None) (sym (get-own o m q)) ∙ sym (get_removed (own owner o m) k q))
    where
      by_test : (q : ℕ) (b : Bool) → cond (is_of owner o (cond b None (get m q))) (cond b None (get m q)) None ≡ cond b None (cond (is_of owner o (get m q)) (get m q) None)
      by_test q true = refl
      by_test q false = refl

  -- what is there, if anything, is of o
  abbrev pub IsOf : ℕ → Option X → Type 0
  IsOf o p = (x : X) → p ≡ Some x → owner x ≡ o

  -- a change of a thing of another object
  pub own-elsewhere : (o s : ℕ) (m n : Names X) (k : ℕ) (p : Option X) → ((q : ℕ) → get n q ≡ cond (k == q) p (get m q)) → IsOf s (get m k) → IsOf s p → (s ≡ o → ⊥)
      → own owner o n ≡ own owner o m
  own-elsewhere o s m n k p changed was is apart = same_named _ _ (λ q.
      get-own o n q ∙ ap (λ p. cond (is_of owner o p) p None) (changed q) ∙ by_test q (k == q) refl ∙ sym (get-own o m q))
    where
      hides : (t : Option X) → IsOf s t → cond (is_of owner o t) t None ≡ None
      hides None h = refl
      hides (Some x) h = ap (λ b. cond b (Some x) None) (ne_eqb (owner x) o (λ same. apart (sym (h x refl) ∙ same)))

      by_test : (q : ℕ) (b : Bool) → (k == q) ≡ b → cond (is_of owner o (cond b p (get m q))) (cond b p (get m q)) None ≡ cond (is_of owner o (get m q)) (get m q) None
      by_test q true e = hides p is ∙ sym (ap (λ j. cond (is_of owner o (get m j)) (get m j) None) (sym (eqb-true k q e)) ∙ hides (get m k) was)
      by_test q false e = refl

  -- what an event of number i does to the things, all of o: nothing; one is put; one is gone; one is gone, and number i
  -- comes in its place
  pub data Moves (o i : ℕ) (xs : Names X) : Names X → Type 0 where
    Stays : Moves o i xs xs
    Comes : (k : ℕ) (x : X) → k ≤ i → owner x ≡ o → IsOf o (get xs k) → Moves o i xs (insert xs k x)
    Goes : (k : ℕ) → IsOf o (get xs k) → Moves o i xs (remove xs k)
    Follows : (k : ℕ) (x : X) → owner x ≡ o → IsOf o (get xs k) → IsOf o (get (remove xs k) i) → Moves o i xs (insert (remove xs k) i x)

  -- the things of another object stay
  pub moves_elsewhere : (o i : ℕ) (xs : Names X) (ys : Names X) → Moves o i xs ys → (p : ℕ) → (o ≡ p → ⊥) → own owner p ys ≡ own owner p xs
  moves_elsewhere o i xs _ Stays p apart = refl
  moves_elsewhere o i xs _ (Comes k x small mine was) p apart =
      own-elsewhere p o xs (insert xs k x) k (Some x) (λ q. get_inserted xs k q x) was (λ y is. let same : x ≡ y = cc in ap owner (sym same) ∙ mine) apart
  moves_elsewhere o i xs _ (Goes k was) p apart = own-elsewhere p o xs (remove xs k) k None (λ q. get_removed xs k q) was (λ y is. absurd (cc)) apart
  moves_elsewhere o i xs _ (Follows k x mine was free) p apart =
      own-elsewhere p o (remove xs k) (insert (remove xs k) i x) i (Some x) (λ q. get_inserted (remove xs k) i q x) free (λ y is. let same : x ≡ y = cc in ap owner (sym same) ∙ mine) apart
      ∙ own-elsewhere p o xs (remove xs k) k None (λ q. get_removed xs k q) was (λ y is. absurd (cc)) apart

  -- each thing has its owner still, and a name below the next number
  pub moves_home : {R : Type 0} (rs rs' : Names R) (o i n : ℕ) (xs ys : Names X) → Moves o i xs ys → n ≤ i → AreHome owner rs xs n → IsSome (get rs' o)
      → ((q : ℕ) → IsSome (get rs q) → IsSome (get rs' q)) → AreHome owner rs' ys (i + 1)
  moves_home rs rs' o i n xs _ Stays later home there keep = record { at = λ k x is. (omega (arith, (home.at k x is).0), keep (owner x) (home.at k x is).1) }
  moves_home rs rs' o i n xs _ (Comes k x small mine was) later home there keep = record {
    at = by_put xs k x (λ j p. (y : X) → p ≡ Some y → (j < i + 1) × IsSome (get rs' (owner y)))
        (λ y is. let same : x ≡ y = cc in (omega arith, rw (← same, mine) there))
        (λ j apart y is. (omega (arith, (home.at j y is).0), keep (owner y) (home.at j y is).1));
  }
  moves_home rs rs' o i n xs _ (Goes k was) later home there keep = record {
    at = λ j y is. let had = removed_there xs k j y is in (omega (arith, (home.at j y had).0), keep (owner y) (home.at j y had).1);
  }
  moves_home rs rs' o i n xs _ (Follows k x mine was free) later home there keep = record {
    at = by_put (remove xs k) i x (λ j p. (y : X) → p ≡ Some y → (j < i + 1) × IsSome (get rs' (owner y)))
        (λ y is. let same : x ≡ y = cc in (omega arith, rw (← same, mine) there))
        (λ j apart y is. let had = removed_there xs k j y is in (omega (arith, (home.at j y had).0), keep (owner y) (home.at j y had).1));
  }

-- the things of one object, seen
pub own-seen : {X Y : Type 0} (owner : X → ℕ) (of : Y → ℕ) (f : X → Y) → ((x : X) → of (f x) ≡ owner x) → (o : ℕ) (m : Names X) → own of o (seen f m) ≡ seen f (own owner o m)
own-seen {X} owner of f same o m = same_named _ _ (λ q.
    get-own of o (seen f m) q ∙ ap (λ p. cond (is_of of o p) p None) (get-seen (λ k x. f x) m q) ∙ by_value (get m q)
    ∙ ap (option_map f) (sym (get-own owner o m q)) ∙ sym (get-seen (λ k x. f x) (own owner o m) q))
  where
    by_value : (p : Option X) → cond (is_of of o (option_map f p)) (option_map f p) None ≡ option_map f (cond (is_of owner o p) p None)
    by_value None = refl
    by_value (Some x) = ap (λ j. cond (j == o) (Some (f x)) None) (same x) ∙ (elim (owner x == o) as (λ b. cond b (Some (f x)) None ≡ option_map f (cond b (Some x) None)) [ true ↦ refl | false ↦ refl ])
