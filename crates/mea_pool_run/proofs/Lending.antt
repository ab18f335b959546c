-- the slots that are on the shelf and those that leases have, by name
use Rattle.std.proofs.Common.{◌≡◌, ℕ, suc, ◌+◌, ◌<◌, ◌++◌, ◌⊎◌, inl, inr, Bool, true, false, List, [], ◌∷◌, Option, Some, None, length, set, refl, ap, sym, subst, ◌∙◌, arith, length-append, length-set}
use Rattle.std.proofs.lemmas.Bool.{cases_eq}
use Rattle.std.proofs.lemmas.List.{get_or-set_same, get_or-set_other}
use Rattle.std.specs.FinMap.{get, insert, remove}
use Rattle.mea_base.proofs.Maps.{by_put, by_gone, get-there}
use Rattle.mea_by_name.specs.ByName.{Names}
use Rattle.mea_pool_core.specs.Shelf.{is_lent, lent_count, StandOnce, slots_of, slots_below, none_lent, with_slots}
use Rattle.mea_pool_core.proofs.Shelves.{first_free, once_lent, count_lent, lent_within, once_back, count_back, length_below, length_none, count_none, unmarked, once_fresh, slots_zip, length_zip}
use Rattle.mea_pool_run.specs.PoolByName.{Live, asks, awaits, leases}

-- a lease of this slot stands there
abbrev pub HasIn : Option Live → ℕ → Type 0
HasIn o slot = (value : ℕ) × (o ≡ Some (leases slot value))

abbrev pub Has : Names Live → ℕ → ℕ → Type 0
Has things slot f = HasIn (get things f) slot

-- no lease stands there
abbrev pub IsNoLease : Option Live → Type 0
IsNoLease o = (slot : ℕ) → HasIn o slot → ⊥

pub none_no_lease : IsNoLease None
none_no_lease slot h = let no : ◌≡◌ {A = Option Live} None (Some (leases slot h.0)) = h.1 in absurd (cc)

pub ask_no_lease : (b : Bool) → IsNoLease (Some (asks b))
ask_no_lease b slot h = let no : Some (asks b) ≡ Some (leases slot h.0) = h.1 in absurd (cc)

pub wait_no_lease : IsNoLease (Some awaits)
wait_no_lease slot h = let no : Some awaits ≡ Some (leases slot h.0) = h.1 in absurd (cc)

same_slot : (slot other v : ℕ) → HasIn (Some (leases slot v)) other → other ≡ slot
same_slot slot other v h = let same : Some (leases slot v) ≡ Some (leases other h.0) = h.1 in cc

-- ---- which leases there are after a change

put_to : (things : Names Live) (k slot f : ℕ) (x : Live) → (HasIn (Some x) slot → Has things slot k) → Has (insert things k x) slot f → Has things slot f
put_to things k slot f x here h = by_put things k x (λ q o. HasIn o slot → Has things slot q) here (λ q apart there. there) f h

put_from : (things : Names Live) (k slot f : ℕ) (x : Live) → (Has things slot k → HasIn (Some x) slot) → Has things slot f → Has (insert things k x) slot f
put_from things k slot f x here h = by_put things k x (λ q o. Has things slot q → HasIn o slot) here (λ q apart there. there) f h

gone_to : (things : Names Live) (k slot f : ℕ) → Has (remove things k) slot f → (k ≡ f → ⊥) × Has things slot f
gone_to things k slot f h = by_gone things k (λ q o. HasIn o slot → (k ≡ q → ⊥) × Has things slot q) (λ no. absurd (none_no_lease slot no)) (λ q apart there. (apart, there)) f h

gone_from : (things : Names Live) (k slot f : ℕ) → (k ≡ f → ⊥) → Has things slot f → Has (remove things k) slot f
gone_from things k slot f = by_gone things k (λ q o. (k ≡ q → ⊥) → Has things slot q → HasIn o slot) (λ apart. absurd (apart refl)) (λ q apart still there. there) f

-- ---- leases and the shelf go together

pub record Lends (size : ℕ) (shelf : List (ℕ × ℕ)) (things : Names Live) : Type 0 where
  pub lent : List Bool
  pub long : length lent ≡ size
  pub once : StandOnce (slots_of shelf) lent
  pub counted : length shelf + lent_count lent ≡ length lent
  pub out : (f slot : ℕ) → Has things slot f → is_lent lent slot ≡ true
  pub single : (f g slot : ℕ) → Has things slot f → Has things slot g → f ≡ g
  pub home : (slot : ℕ) → is_lent lent slot ≡ true → (f : ℕ) × Has things slot f

-- the same leases
still : (size : ℕ) (shelf : List (ℕ × ℕ)) (things things' : Names Live) → ((f slot : ℕ) → Has things' slot f → Has things slot f) → ((f slot : ℕ) → Has things slot f → Has things' slot f) → Lends size shelf things → Lends size shelf things'
still size shelf things things' to from are = record {
  lent = are.lent;
  long = are.long;
  once = are.once;
  counted = are.counted;
  out = λ f slot h. are.out f slot (to f slot h);
  single = λ f g slot h k. are.single f g slot (to f slot h) (to g slot k);
  home = λ slot is. let there = are.home slot is in (there.0, from there.0 slot there.1);
}

pub lends_put : (size : ℕ) (shelf : List (ℕ × ℕ)) (things : Names Live) (k : ℕ) (x : Live) → IsNoLease (get things k) → IsNoLease (Some x) → Lends size shelf things → Lends size shelf (insert things k x)
lends_put size shelf things k x was new are = still size shelf things (insert things k x)
    (λ f slot h. put_to things k slot f x (λ here. absurd (new slot here)) h)
    (λ f slot h. put_from things k slot f x (λ here. absurd (was slot here)) h) are

pub lends_gone : (size : ℕ) (shelf : List (ℕ × ℕ)) (things : Names Live) (k : ℕ) → IsNoLease (get things k) → Lends size shelf things → Lends size shelf (remove things k)
lends_gone size shelf things k was are = still size shelf things (remove things k)
    (λ f slot h. (gone_to things k slot f h).1)
    (λ f slot h. gone_from things k slot f (λ same. was slot (subst (λ (q : ℕ). Has things slot q) (sym same) h)) h) are

pub lends_set : (size : ℕ) (shelf : List (ℕ × ℕ)) (things : Names Live) (k slot v w : ℕ) → get things k ≡ Some (leases slot v) → Lends size shelf things → Lends size shelf (insert things k (leases slot w))
lends_set size shelf things k slot v w here are = still size shelf things (insert things k (leases slot w))
    (λ f other h. put_to things k other f (leases slot w) (λ h. (v, here ∙ ap (λ (s : ℕ). Some (leases s v)) (sym (same_slot slot other w h)))) h)
    (λ f other h. put_from things k other f (leases slot w) (λ h. (w, ap (λ (s : ℕ). Some (leases s w)) (sym (same_slot slot other v (h.0, sym here ∙ h.1))))) h) are

-- the first of the shelf goes to a lease of a new name
pub lends_got : (size : ℕ) (l : ℕ × ℕ) (rest : List (ℕ × ℕ)) (things : Names Live) (n : ℕ) → get things n ≡ None → Lends size (l ∷ rest) things → Lends size rest (insert things n (leases l.0 l.1))
lends_got size l rest things n fresh are = record {
  lent = set are.lent l.0 true;
  long = length-set are.lent l.0 true ∙ are.long;
  once = once_lent l.0 (slots_of rest) are.lent are.once;
  counted =
      let more : lent_count (set are.lent l.0 true) ≡ lent_count are.lent + 1 = count_lent l.0 are.lent free_one.0 free_one.1 in
      let long : length (set are.lent l.0 true) ≡ length are.lent = length-set are.lent l.0 true in
      let all : length (l ∷ rest) + lent_count are.lent ≡ length are.lent = are.counted in
      let one : length (l ∷ rest) ≡ suc (length rest) = refl in
      omega arith;
  out = λ f slot h. by_put things n (leases l.0 l.1) (λ q o. HasIn o slot → is_lent (set are.lent l.0 true) slot ≡ true)
      (λ here. subst (λ (s : ℕ). is_lent (set are.lent l.0 true) s ≡ true) (sym (same_slot l.0 slot l.1 here)) marked)
      (λ q apart there. get_or-set_other are.lent l.0 slot true false (λ same. unlent q (subst (λ (s : ℕ). Has things s q) same there)) ∙ are.out q slot there) f h;
  single = λ f g slot h k. by_both f g slot (put_has f slot h) (put_has g slot k);
  home = λ slot is. elim (cases_eq slot l.0) [
    | inl same ↦ (n, (l.1, get-there things n (leases l.0 l.1) ∙ ap (λ (s : ℕ). Some (leases s l.1)) (sym same)))
    | inr differs ↦ let there = are.home slot (sym (get_or-set_other are.lent l.0 slot true false differs) ∙ is) in
        (there.0, put_from things n slot there.0 (leases l.0 l.1) (λ here. absurd (none_no_lease slot (here.0, sym fresh ∙ here.1))) there.1)
  ];
}
  where
    free_one : (l.0 < length are.lent) × (is_lent are.lent l.0 ≡ false)
    free_one = first_free l.0 (slots_of rest) are.lent are.once

    marked : is_lent (set are.lent l.0 true) l.0 ≡ true
    marked = get_or-set_same are.lent l.0 true false free_one.0

    unlent : (q : ℕ) → Has things l.0 q → ⊥
    unlent q h = let both : true ≡ false = sym (are.out q l.0 h) ∙ free_one.1 in absurd (cc)

    put_has : (f slot : ℕ) → Has (insert things n (leases l.0 l.1)) slot f → ((f ≡ n) × (slot ≡ l.0)) ⊎ Has things slot f
    put_has f slot h = by_put things n (leases l.0 l.1) (λ q o. HasIn o slot → ((q ≡ n) × (slot ≡ l.0)) ⊎ Has things slot q) (λ here. inl (refl, same_slot l.0 slot l.1 here)) (λ q apart there. inr there) f h

    by_both : (f g slot : ℕ) → ((f ≡ n) × (slot ≡ l.0)) ⊎ Has things slot f → ((g ≡ n) × (slot ≡ l.0)) ⊎ Has things slot g → f ≡ g
    by_both f g slot (inl a) (inl b) = a.0 ∙ sym b.0
    by_both f g slot (inl a) (inr b) = absurd (unlent g (subst (λ (s : ℕ). Has things s g) a.1 b))
    by_both f g slot (inr a) (inl b) = absurd (unlent f (subst (λ (s : ℕ). Has things s f) b.1 a))
    by_both f g slot (inr a) (inr b) = are.single f g slot a b

-- a lease comes back, last on the shelf
pub lends_back : (size : ℕ) (shelf : List (ℕ × ℕ)) (things : Names Live) (k slot v : ℕ) → get things k ≡ Some (leases slot v) → Lends size shelf things → Lends size (shelf ++ (slot, v) ∷ []) (remove things k)
lends_back size shelf things k slot v here are = record {
  lent = set are.lent slot false;
  long = length-set are.lent slot false ∙ are.long;
  once = subst (λ (xs : List ℕ). StandOnce xs (set are.lent slot false)) (sym (slots_last shelf (slot, v))) (once_back slot (slots_of shelf) are.lent are.once is);
  counted =
      let more : length (shelf ++ (slot, v) ∷ []) ≡ length shelf + 1 = length-append shelf ((slot, v) ∷ []) in
      let fewer : lent_count (set are.lent slot false) + 1 ≡ lent_count are.lent = count_back slot are.lent within is in
      let long : length (set are.lent slot false) ≡ length are.lent = length-set are.lent slot false in
      let all : length shelf + lent_count are.lent ≡ length are.lent = are.counted in
      omega arith;
  out = λ f other h. let there = gone_to things k other f h in get_or-set_other are.lent slot other false false (λ same. there.0 (are.single k f slot (v, here) (subst (λ (s : ℕ). Has things s f) same there.1))) ∙ are.out f other there.1;
  single = λ f g other h h'. are.single f g other (gone_to things k other f h).1 (gone_to things k other g h').1;
  home = λ other lent. elim (cases_eq other slot) [
    | inl same ↦ absurd (let both : true ≡ false = sym lent ∙ ap (λ (s : ℕ). is_lent (set are.lent slot false) s) same ∙ unmarked_now in cc)
    | inr differs ↦ let there = are.home other (sym (get_or-set_other are.lent slot other false false differs) ∙ lent) in
        (there.0, gone_from things k other there.0 (λ same. differs (same_slot slot other v (there.1.0, sym here ∙ ap (λ (q : ℕ). get things q) same ∙ there.1.1))) there.1)
  ];
}
  where
    is : is_lent are.lent slot ≡ true
    is = are.out k slot (v, here)

    within : slot < length are.lent
    within = lent_within slot (slots_of shelf) are.lent are.once is

    unmarked_now : is_lent (set are.lent slot false) slot ≡ false
    unmarked_now = get_or-set_same are.lent slot false false within

    slots_last : (s : List (ℕ × ℕ)) (l : ℕ × ℕ) → slots_of (s ++ l ∷ []) ≡ slots_of s ++ l.0 ∷ []
    slots_last [] l = refl
    slots_last (e ∷ s) l = ap (λ (xs : List ℕ). e.0 ∷ xs) (slots_last s l)

-- nothing is lent at first
pub lends_none : (size : ℕ) (things : Names Live) → ((f : ℕ) → get things f ≡ None) → Lends size (with_slots (slots_below size)) things
lends_none size things none = record {
  lent = none_lent (length (slots_below size));
  long = length_none (length (slots_below size)) ∙ length_below size;
  once = subst (λ (xs : List ℕ). StandOnce xs (none_lent (length (slots_below size)))) (sym (slots_zip (slots_below (length (slots_below size))) (slots_below size) (length_below (length (slots_below size))))) (once_fresh (length (slots_below size)));
  counted = omega (arith, length_zip (slots_below (length (slots_below size))) (slots_below size) (length_below (length (slots_below size))), length_below (length (slots_below size)), length_none (length (slots_below size)), count_none (length (slots_below size)));
  out = λ f slot h. absurd (none_no_lease slot (h.0, sym (none f) ∙ h.1));
  single = λ f g slot h k. absurd (none_no_lease slot (h.0, sym (none f) ∙ h.1));
  home = λ slot is. absurd (let both : true ≡ false = sym is ∙ unmarked (length (slots_below size)) slot in cc);
}
