-- a new entry in the place of another
use Rattle.std.proofs.Common.{◌≡◌, ◌≢◌, ℕ, suc, zero, ◌+◌, ◌==◌, ◌⊎◌, inl, inr, Bool, true, false, not, cond, List, [], ◌∷◌, ◌++◌, slice_get, Option, Some, None, unwrap_or, is_some, IsSome, IfSome, refl, ap, sym, subst, ◌∙◌, arith}
use Rattle.std.proofs.lemmas.Bool.{cases_eq, eq-eqb, ne_eqb}
use Rattle.std.proofs.lemmas.Bool.Decides.{nat_tests}
use Rattle.std.specs.List.{position_or_len}
use Rattle.std.specs.Option.{option_map, option_and_then, option_or}
use Rattle.std.specs.Cmp.{IsEquivalence}
use Rattle.std.specs.Map.{lookup, keys_of}
use Rattle.slab.specs.Slab as slab
use Rattle.slab.specs.Slab.{Slab}
use Rattle.indexmap.specs.IndexMap.{insert_entry}
use Rattle.mea_once_core.specs.declared.entry.Entry.{Entry}
use Rattle.mea_once_core.specs.Cell.{Cell}
use Rattle.mea_once_core.specs.Links.{AreLinked, Shown, shown, shown_at, Changes, Renumbers, unlisted}
use Rattle.mea_once_core.specs.Table.{Table, entry_at, number_of}
use Rattle.mea_once_core.specs.Inserts.{Inserts, IsIdle, full_cell, listed_entry, last_value, value_in}
use Rattle.mea_once_core.proofs.Links.{told-last}
use Rattle.mea_once_core.proofs.Tables.{unlists, linked-dropped, same_entry}

module _ {K : Type 0} (eq : K → K → Bool) (key : K) (m n : ℕ) where
  -- a number in the place of another: the pair stands at the first place of the key, and each other pair as it did
  pub record Stands (ps qs : List (K × ℕ)) (p : ℕ) : Type 0 where
    pub owner : K
    pub was : slice_get ps p ≡ Some (owner, m)
    pub looks : (q : ℕ) → slice_get qs q ≡ cond (q == p) (Some (owner, n)) (slice_get ps q)

  pub stands : (ps : List (K × ℕ)) → lookup (eq key) ps ≡ Some m → Stands ps (insert_entry eq ps key n) (position_or_len (eq key) (keys_of ps))
  stands [] there = absurd (cc)
  stands (e ∷ ps) there = by_key (eq key e.0) refl there (stands ps)
    where
      by_key : (b : Bool) → eq key e.0 ≡ b → cond (eq key e.0) (Some e.1) (lookup (eq key) ps) ≡ Some m
          → (lookup (eq key) ps ≡ Some m → Stands ps (insert_entry eq ps key n) (position_or_len (eq key) (keys_of ps)))
          → Stands (e ∷ ps) (cond (eq key e.0) ((e.0, n) ∷ ps) (e ∷ insert_entry eq ps key n)) (cond (not (eq key e.0)) (1 + position_or_len (eq key) (keys_of ps)) 0)
      by_key true is there rest =
          subst (λ b. Stands (e ∷ ps) (cond b ((e.0, n) ∷ ps) (e ∷ insert_entry eq ps key n)) (cond (not b) (1 + position_or_len (eq key) (keys_of ps)) 0)) (sym is)
          (record {
            owner = e.0;
            was = ap (λ o. Some (e.0, unwrap_or o m)) (ap (λ b. cond b (Some e.1) (lookup (eq key) ps)) (sym is) ∙ there);
            looks = λ q. here q;
          })
        where
          here : (q : ℕ) → slice_get ((e.0, n) ∷ ps) q ≡ cond (q == 0) (Some (e.0, n)) (slice_get (e ∷ ps) q)
          here zero = refl
          here (suc q) = sym (ap (λ b. cond b (Some (e.0, n)) (slice_get ps q)) (ne_eqb (suc q) 0 (λ e. omega arith)))
      by_key false is there rest =
          let later = rest (sym (ap (λ b. cond b (Some e.1) (lookup (eq key) ps)) is) ∙ there) in
          subst (λ b. Stands (e ∷ ps) (cond b ((e.0, n) ∷ ps) (e ∷ insert_entry eq ps key n)) (cond (not b) (1 + position_or_len (eq key) (keys_of ps)) 0)) (sym is)
          (record { owner = later.owner; was = ap (slice_get (e ∷ ps)) next ∙ later.was; looks = λ q. after later q })
        where
          p : ℕ
          p = position_or_len (eq key) (keys_of ps)

          next : 1 + p ≡ suc p
          next = omega arith

          after : (later : Stands ps (insert_entry eq ps key n) p) (q : ℕ) → slice_get (e ∷ insert_entry eq ps key n) q ≡ cond (q == 1 + p) (Some (later.owner, n)) (slice_get (e ∷ ps) q)
          after later zero = sym (ap (λ b. cond b (Some (later.owner, n)) (Some e)) (ne_eqb 0 (1 + p) (λ e. omega arith)))
          after later (suc q) = later.looks q ∙ ap (λ b. cond b (Some (later.owner, n)) (slice_get ps q)) (grind (arith, nat_tests))

module _ {K V W : Type 0} where
  -- the new entry has the place, and the old one none
  pub linked-replaced : (E E1 E2 : Slab (Entry V W)) (ps qs : List (K × ℕ)) (n m p : ℕ) (k : K) (e f : Entry V W) → AreLinked E ps → slab.get E n ≡ None → e.place ≡ Some p → slab.Updates E E1 n (Some e)
      → slice_get ps p ≡ Some (k, m) → slab.Updates E1 E2 m (Some (record f { place = None })) → ((q : ℕ) → slice_get qs q ≡ cond (q == p) (Some (k, n)) (slice_get ps q)) → AreLinked E2 qs
  linked-replaced E E1 E2 ps qs n m p k e f links none at made was out looks = linked_by (links.found p k m was).0 (links.found p k m was).1 (links.found p k m was).2
    where
      linked_by : (g : Entry V W) → slab.get E m ≡ Some g → g.place ≡ Some p → AreLinked E2 qs
      linked_by g g_is g_at = record {
        found = λ q j x stood. found_by q j x (cases_eq q p) (sym (looks q) ∙ stood);
        placed = λ x q h get_x place_x. placed_by x q h get_x place_x (cases_eq x m) (cases_eq x n);
      }
        where
          apart : n ≢ m
          apart same = absurd (let there : Some g ≡ None = sym g_is ∙ ap (slab.get E) (sym same) ∙ none in cc)

          found_by : (q : ℕ) (j : K) (x : ℕ) → (q ≡ p) ⊎ (q ≡ p → ⊥) → cond (q == p) (Some (k, n)) (slice_get ps q) ≡ Some (j, x) → (h : Entry V W) × (slab.get E2 x ≡ Some h) × (h.place ≡ Some q)
          found_by q j x (inl same) stood =
              let both : Some (k, n) ≡ Some (j, x) = sym (ap (λ b. cond b (Some (k, n)) (slice_get ps q)) (eq-eqb q p same)) ∙ stood in
              let number : n ≡ x = ap (λ y. unwrap_or (option_map (λ (z : K × ℕ). z.1) y) 0) both in
              (e, ap (slab.get E2) (sym number) ∙ out.others n apart ∙ made.changed, at ∙ ap (λ i. Some i) (sym same))
          found_by q j x (inr differs) stood =
              let stays : slice_get ps q ≡ Some (j, x) = sym (ap (λ b. cond b (Some (k, n)) (slice_get ps q)) (ne_eqb q p differs)) ∙ stood in
              let old = links.found q j x stays in
              let not_n : x ≢ n = λ same. absurd (let there : Some old.0 ≡ None = sym old.1 ∙ ap (slab.get E) same ∙ none in cc) in
              let not_m : x ≢ m = λ same. absurd (
              let both : Some old.0 ≡ Some g = sym old.1 ∙ ap (slab.get E) same ∙ g_is in
              let entry : old.0 ≡ g = ap (λ y. unwrap_or y g) both in
              let places : Some q ≡ Some p = sym old.2 ∙ ap (λ (y : Entry V W). y.place) entry ∙ g_at in
              differs (ap (λ y. unwrap_or y q) places)) in
              (old.0, out.others x not_m ∙ made.others x not_n ∙ old.1, old.2)

          placed_by : (x q : ℕ) (h : Entry V W) → slab.get E2 x ≡ Some h → h.place ≡ Some q → (x ≡ m) ⊎ (x ≡ m → ⊥) → (x ≡ n) ⊎ (x ≡ n → ⊥) → (j : K) × (slice_get qs q ≡ Some (j, x))
          placed_by x q h get_x place_x (inl same) c =
              absurd (let here : Some h ≡ Some (record f { place = None }) = sym get_x ∙ ap (slab.get E2) same ∙ out.changed in
              let entry : h ≡ record f { place = None } = ap (λ y. unwrap_or y h) here in
              let places : Some q ≡ None = sym place_x ∙ ap (λ (y : Entry V W). y.place) entry in cc)
          placed_by x q h get_x place_x (inr differs) (inl same) =
              let here : Some h ≡ Some e = sym get_x ∙ ap (slab.get E2) same ∙ out.others n apart ∙ made.changed in
              let entry : h ≡ e = ap (λ y. unwrap_or y h) here in
              let places : Some q ≡ Some p = sym place_x ∙ ap (λ (y : Entry V W). y.place) entry ∙ at in
              let place : q ≡ p = ap (λ y. unwrap_or y q) places in
              (k, looks q ∙ ap (λ b. cond b (Some (k, n)) (slice_get ps q)) (eq-eqb q p place) ∙ ap (λ i. Some (k, i)) (sym same))
          placed_by x q h get_x place_x (inr differs) (inr other) =
              let stays : slab.get E x ≡ Some h = sym (out.others x differs ∙ made.others x other) ∙ get_x in
              let old = links.placed x q h stays place_x in
              let elsewhere : q ≢ p = λ same. absurd (
              let both : Some (old.0, x) ≡ Some (k, m) = sym old.1 ∙ ap (slice_get ps) same ∙ was in
              differs (ap (λ y. unwrap_or (option_map (λ (z : K × ℕ). z.1) y) 0) both)) in
              (old.0, looks q ∙ ap (λ b. cond b (Some (k, n)) (slice_get ps q)) (ne_eqb q p elsewhere) ∙ old.1)

module _ {V W : Type 0} where
  -- what callers see once the old entry has no place
  pub record Replaces (E F : Slab (Entry V W)) (n m : ℕ) (new : Shown V W) : Type 0 where
    pub entry : shown_at F.slots n ≡ Some new
    pub replaced : (s : Shown V W) → shown_at E.slots m ≡ Some s → shown_at F.slots m ≡ unlisted s
    pub others : (x : ℕ) → x ≢ n → x ≢ m → shown_at F.slots x ≡ shown_at E.slots x

  pub old-there : (E E1 : Slab (Entry V W)) (n m : ℕ) (e : Entry V W) → slab.get E n ≡ None → IsSome (slab.get E m) → slab.Updates E E1 n (Some e) → IsSome (slab.get E1 m)
  old-there E E1 n m e none there made = subst (λ (o : Option (Entry V W)). IsSome o) (sym (made.others m (λ same. absurd (let both : IsSome (slab.get E n) = subst (λ x. IsSome (slab.get E x)) same there in let out : is_some (slab.get E n) ≡ false = ap is_some none in cc)))) there

  pub replaces : (E E1 E2 E3 : Slab (Entry V W)) (n m : ℕ) (e : Entry V W) → slab.get E n ≡ None → IsSome (slab.get E m) → slab.Updates E E1 n (Some e)
      → (o : Option (Entry V W)) → slab.get E1 m ≡ o → IfSome o (λ f. slab.Updates E1 E2 m (Some (record f { place = None })))
      → (w : Option (Entry V W)) → slab.get E2 m ≡ w → IfSome w (λ f. (f.callers ≢ 0) ⊎ IsSome f.place → E3 ≡ E2) → IfSome w (λ f. f.callers ≡ 0 → f.place ≡ None → slab.Updates E2 E3 m None)
      → Replaces E E3 n m (shown e)
  replaces E E1 E2 E3 n m e none there made None is out w w_is used unused = absurd (let some : IsSome (slab.get E1 m) = old-there E E1 n m e none there made in let gone : is_some (slab.get E1 m) ≡ false = ap is_some is in cc)
  replaces E E1 E2 E3 n m e none there made (Some f) is out w w_is used unused =
      let all : Changes E1.slots E3.slots m (unlisted (shown f)) = unlists E1 E2 E3 m (shown f) (told-last E1 E2 m (Some f) is out (shown f) refl) w w_is used unused in
      let apart : m ≢ n = λ same. absurd (let both : IsSome (slab.get E n) = subst (λ x. IsSome (slab.get E x)) same there in let gone : is_some (slab.get E n) ≡ false = ap is_some none in cc) in
      record {
        entry = all.others n (λ same. apart (sym same)) ∙ ap (option_map shown) made.changed;
        replaced = λ s shows. all.changed ∙ ap unlisted (ap (λ y. unwrap_or y (shown f)) (sym (ap (option_map shown) is) ∙ ap (option_map shown) (made.others m apart) ∙ shows));
        others = λ x not_n not_m. all.others x not_m ∙ ap (option_map shown) (made.others x not_n);
      }

module _ {K V W : Type 0} (eq : K → K → Bool) where
  -- entries and numbers stay linked
  pub replaced-linked : (E E1 E2 E3 : Slab (Entry V W)) (ps qs : List (K × ℕ)) (key : K) (n m p : ℕ) (e : Entry V W) → AreLinked E ps → slab.get E n ≡ None → IsSome (slab.get E m) → e.place ≡ Some p → slab.Updates E E1 n (Some e)
      → lookup (eq key) ps ≡ Some m → p ≡ position_or_len (eq key) (keys_of ps) → qs ≡ insert_entry eq ps key n
      → (o : Option (Entry V W)) → slab.get E1 m ≡ o → IfSome o (λ f. slab.Updates E1 E2 m (Some (record f { place = None })))
      → (w : Option (Entry V W)) → slab.get E2 m ≡ w → (w ≡ None → E3 ≡ E2) → IfSome w (λ f. (f.callers ≢ 0) ⊎ IsSome f.place → E3 ≡ E2) → IfSome w (λ f. f.callers ≡ 0 → f.place ≡ None → slab.Updates E2 E3 m None)
      → AreLinked E3 qs
  replaced-linked E E1 E2 E3 ps qs key n m p e links none there at made has place grown None is out w w_is absent used unused = absurd (let some : IsSome (slab.get E1 m) = old-there E E1 n m e none there made in let gone : is_some (slab.get E1 m) ≡ false = ap is_some is in cc)
  replaced-linked E E1 E2 E3 ps qs key n m p e links none there at made has place grown (Some f) is out w w_is absent used unused =
      let stood = subst (Stands eq key m n ps (insert_entry eq ps key n)) (sym place) (stands eq key m n ps has) in
      linked-dropped E2 E3 qs m w w_is absent used unused
      (linked-replaced E E1 E2 ps qs n m p stood.owner e f links none at made stood.was out (λ q. ap (λ xs. slice_get xs q) grown ∙ stood.looks q))

module _ {K V : Type 0} (eq : K → K → Bool) where
  last-push : (ps : List (K × V)) (p : K × V) (key : K) → last_value eq (ps ++ p ∷ []) key ≡ cond (eq p.0 key) (Some p.1) (last_value eq ps key)
  last-push [] p key = refl
  last-push (q ∷ ps) p key = ap (λ o. option_or o (cond (eq q.0 key) (Some q.1) None)) (last-push ps p key) ∙ by_key (eq p.0 key)
    where
      by_key : (b : Bool) → option_or (cond b (Some p.1) (last_value eq ps key)) (cond (eq q.0 key) (Some q.1) None) ≡ cond b (Some p.1) (option_or (last_value eq ps key) (cond (eq q.0 key) (Some q.1) None))
      by_key true = refl
      by_key false = refl

module _ {K V W : Type 0} (eq : K → K → Bool) where
  pub puts-new : (t t' : Table K V W) (key : K) (c : Cell V W) (n : ℕ) → number_of eq t key ≡ None → shown_at t.slots n ≡ None → Changes t.slots t'.slots n (Some (listed_entry c)) → Renumbers eq t.pairs t'.pairs key (Some n) → Inserts eq t t' key c
  puts-new t t' key c n none fresh entries numbers = record {
    number = n;
    fresh = fresh;
    entry = entries.changed;
    replaced = λ m e has there. absurd (let both : None ≡ Some m = sym none ∙ has in cc);
    others = λ m differs other. entries.others m differs;
    numbers = numbers;
  }

  pub puts-over : (t t' : Table K V W) (key : K) (c : Cell V W) (n m : ℕ) → number_of eq t key ≡ Some m → shown_at t.slots n ≡ None → shown_at t'.slots n ≡ Some (listed_entry c)
      → ((e : Shown V W) → shown_at t.slots m ≡ Some e → shown_at t'.slots m ≡ unlisted e) → ((x : ℕ) → x ≢ n → x ≢ m → shown_at t'.slots x ≡ shown_at t.slots x)
      → Renumbers eq t.pairs t'.pairs key (Some n) → Inserts eq t t' key c
  puts-over t t' key c n m has fresh entry replaced others numbers = record {
    number = n;
    fresh = fresh;
    entry = entry;
    replaced = λ x e had there. (let same : m ≡ x = ap (λ o. unwrap_or o m) (sym has ∙ had) in subst (λ y. shown_at t.slots y ≡ Some e → shown_at t'.slots y ≡ unlisted e) same (replaced e) there);
    others = λ x differs other. others x differs (λ same. other (has ∙ ap (λ y. Some y) (sym same)));
    numbers = numbers;
  }

  -- ---- a table that is made from pairs, one by one

  -- what holds after some of them
  pub record IsMade (t : Table K V W) (ps : List (K × V)) : Type 0 where
    pub entries : (n : ℕ) (e : Shown V W) → entry_at t n ≡ Some e → IsIdle e
    pub values : (key : K) → value_in eq t key ≡ last_value eq ps key
    pub in_use : (key : K) (n : ℕ) → number_of eq t key ≡ Some n → entry_at t n ≡ None → ⊥
    pub one_key : (k l : K) (n : ℕ) → number_of eq t k ≡ Some n → number_of eq t l ≡ Some n → eq k l ≡ true

  pub made-empty : (t : Table K V W) → ((n : ℕ) → entry_at t n ≡ None) → ((key : K) → number_of eq t key ≡ None) → IsMade t []
  made-empty t none no_number = record {
    entries = λ n e there. absurd (let both : ◌≡◌ {A = Option (Shown V W)} None (Some e) = sym (none n) ∙ there in cc);
    values = λ key. ap (option_and_then (λ n. option_and_then (λ e. e.cell.value) (entry_at t n))) (no_number key);
    in_use = λ key n has gone. (let both : None ≡ Some n = sym (no_number key) ∙ has in absurd (cc));
    one_key = λ k l n has had. absurd (let both : None ≡ Some n = sym (no_number k) ∙ has in cc);
  }

  pub made-more : IsEquivalence eq → (t t' : Table K V W) (ps : List (K × V)) (key : K) (value : V) → IsMade t ps → Inserts eq t t' key (full_cell value) → IsMade t' (ps ++ (key, value) ∷ [])
  made-more laws t t' ps key value made put = record {
    entries = λ n e there. entry_by n e there (cases_eq n put.number) (number_of eq t key) refl;
    values = λ k. value_by k (eq key k) refl (number_of eq t k) refl ∙ sym (last-push eq ps (key, value) k);
    in_use = λ k n has away. used_by k n (eq key k) refl (sym (put.numbers k) ∙ has) away;
    one_key = λ k l n has had. key_by k l n (eq key k) refl (eq key l) refl (sym (put.numbers k) ∙ has) (sym (put.numbers l) ∙ had);
  }
    where
      gone : (e : Shown V W) → IsIdle e → unlisted e ≡ None
      gone e idle = ap unlisted idle.1

      entry_by : (n : ℕ) (e : Shown V W) → entry_at t' n ≡ Some e → (n ≡ put.number) ⊎ (n ≡ put.number → ⊥) → (o : Option ℕ) → number_of eq t key ≡ o → IsIdle e
      entry_by n e there (inl same) o has = (value, sym (same_entry (listed_entry (full_cell value)) e (sym put.entry ∙ ap (entry_at t') (sym same) ∙ there)))
      entry_by n e there (inr differs) None has = made.entries n e (sym (put.others n differs (λ had. absurd (let both : None ≡ Some n = sym has ∙ had in cc))) ∙ there)
      entry_by n e there (inr differs) (Some m) has = old_by (cases_eq n m)
        where
          old_by : (n ≡ m) ⊎ (n ≡ m → ⊥) → IsIdle e
          old_by (inl same) = was_by (entry_at t n) refl
            where
              was_by : (o : Option (Shown V W)) → entry_at t n ≡ o → IsIdle e
              was_by None none = absurd (made.in_use key m has (ap (entry_at t) (sym same) ∙ none))
              was_by (Some f) was = absurd (
                  let left : entry_at t' n ≡ unlisted f = put.replaced n f (has ∙ ap (λ x. Some x) (sym same)) was in
                  let both : ◌≡◌ {A = Option (Shown V W)} (Some e) None = sym there ∙ left ∙ gone f (made.entries n f was) in
                  cc)
          old_by (inr other) = made.entries n e (sym (put.others n differs (λ had. other (ap (λ o. unwrap_or o n) (sym had ∙ has)))) ∙ there)

      stays : (k : K) (n : ℕ) → eq key k ≡ false → number_of eq t k ≡ Some n → entry_at t' n ≡ entry_at t n
      stays k n apart has = put.others n (λ same. absurd (made.in_use k n has (ap (entry_at t) same ∙ put.fresh))) (λ had. absurd (let both : true ≡ false = sym (made.one_key key k n had has) ∙ apart in cc))

      value_at : Table K V W → Option ℕ → Option V
      value_at s o = option_and_then (λ n. option_and_then (λ e. e.cell.value) (entry_at s n)) o

      value_by : (k : K) (b : Bool) → eq key k ≡ b → (o : Option ℕ) → number_of eq t k ≡ o → value_in eq t' k ≡ cond (eq key k) (Some value) (last_value eq ps k)
      value_by k true same o has =
          ap (value_at t') (put.numbers k ∙ ap (λ b. cond b (Some put.number) (number_of eq t k)) same) ∙ ap (option_and_then (λ (e : Shown V W). e.cell.value)) put.entry
          ∙ sym (ap (λ b. cond b (Some value) (last_value eq ps k)) same)
      value_by k false apart None none =
          ap (value_at t') (put.numbers k ∙ ap (λ b. cond b (Some put.number) (number_of eq t k)) apart ∙ none) ∙ sym (ap (value_at t) none) ∙ made.values k
          ∙ sym (ap (λ b. cond b (Some value) (last_value eq ps k)) apart)
      value_by k false apart (Some n) has =
          ap (value_at t') (put.numbers k ∙ ap (λ b. cond b (Some put.number) (number_of eq t k)) apart ∙ has) ∙ ap (option_and_then (λ (e : Shown V W). e.cell.value)) (stays k n apart has)
          ∙ sym (ap (value_at t) has) ∙ made.values k ∙ sym (ap (λ b. cond b (Some value) (last_value eq ps k)) apart)

      used_by : (k : K) (n : ℕ) (b : Bool) → eq key k ≡ b → cond (eq key k) (Some put.number) (number_of eq t k) ≡ Some n → entry_at t' n ≡ None → ⊥
      used_by k n true same has away = (
          let number : put.number ≡ n = ap (λ o. unwrap_or o put.number) (ap (λ b. cond b (Some put.number) (number_of eq t k)) (sym same) ∙ has) in
          let both : ◌≡◌ {A = Option (Shown V W)} (Some (listed_entry (full_cell value))) None = sym put.entry ∙ ap (entry_at t') number ∙ away in
          absurd (cc))
      used_by k n false apart has away =
          let was : number_of eq t k ≡ Some n = ap (λ b. cond b (Some put.number) (number_of eq t k)) (sym apart) ∙ has in
          made.in_use k n was (sym (stays k n apart was) ∙ away)

      fresh_number : (k : K) (n : ℕ) → put.number ≡ n → number_of eq t k ≡ Some n → ⊥
      fresh_number k n same has = made.in_use k n has (ap (entry_at t) (sym same) ∙ put.fresh)

      key_by : (k l : K) (n : ℕ) (b : Bool) → eq key k ≡ b → (d : Bool) → eq key l ≡ d → cond (eq key k) (Some put.number) (number_of eq t k) ≡ Some n → cond (eq key l) (Some put.number) (number_of eq t l) ≡ Some n → eq k l ≡ true
      key_by k l n true same true alike has had = sym (laws.congr key k l same) ∙ alike
      key_by k l n true same false apart has had =
          absurd (fresh_number l n (ap (λ o. unwrap_or o put.number) (ap (λ b. cond b (Some put.number) (number_of eq t k)) (sym same) ∙ has)) (ap (λ b. cond b (Some put.number) (number_of eq t l)) (sym apart) ∙ had))
      key_by k l n false apart true same has had =
          absurd (fresh_number k n (ap (λ o. unwrap_or o put.number) (ap (λ b. cond b (Some put.number) (number_of eq t l)) (sym same) ∙ had)) (ap (λ b. cond b (Some put.number) (number_of eq t k)) (sym apart) ∙ has))
      key_by k l n false apart false other has had =
          made.one_key k l n (ap (λ b. cond b (Some put.number) (number_of eq t k)) (sym apart) ∙ has) (ap (λ b. cond b (Some put.number) (number_of eq t l)) (sym other) ∙ had)
