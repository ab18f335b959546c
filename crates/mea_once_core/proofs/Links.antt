-- an entry leaves the table
use Rattle.std.proofs.Common.{◌≡◌, ◌≢◌, ℕ, suc, zero, ◌+◌, ◌-◌, ◌<◌, ◌≤◌, ◌==◌, ◌⊎◌, inl, inr, Bool, true, false, cond, List, [], ◌∷◌, length, nat_lt, slice_get, slice_set, swap_remove, slice_index_or, Option, Some, None, unwrap_or, IsSome, IfSome, refl, ap, sym, subst, ◌∙◌, arith, ◌++◌, is_some}
use Rattle.std.proofs.lemmas.Bool.{cases_lt, cases_eq, eqb-true, eqb-false, ltb-true, eq-eqb, ne_eqb, lt-ltb}
use Rattle.std.proofs.lemmas.Bool.Decides.{nat_tests}
use Rattle.std.proofs.lemmas.Option.{slice_get-get_or, slice_get_within}
use Rattle.std.specs.Option.{option_map}
use Rattle.std.specs.Map.{lookup}
use Rattle.std.proofs.lemmas.Map.Entries.{place_from_lookup}
use Rattle.slab.specs.Slab as slab
use Rattle.slab.specs.Slab.{Slab}
use Rattle.mea_once_core.specs.declared.entry.Entry.{Entry}
use Rattle.std.specs.Borrow.{Bor}
use Rattle.std.specs.HashMap as hash
use Rattle.std.specs.HashMap.{HashMap}
use Rattle.mea_once_core.specs.Links.{AreLinked, Forgets, Shown, shown, shown_at, Changes}
use Rattle.mea_base.proofs.Places.{get-take}

module _ {X : Type 0} where
  gone : (b : Bool) → ◌≡◌ {A = Option X} None (cond b None None)
  gone true = refl
  gone false = refl

  get-set : (xs : List X) (p q : ℕ) (y : X) → p < length xs → slice_get (slice_set xs p y) q ≡ cond (q == p) (Some y) (slice_get xs q)
  get-set [] p q y within = absurd (omega arith)
  get-set (x ∷ xs) zero zero y within = refl
  get-set (x ∷ xs) zero (suc q) y within = sym (ap (λ b. cond b (Some y) (slice_get xs q)) (ne_eqb (suc q) 0 (λ e. omega arith)))
  get-set (x ∷ xs) (suc p) zero y within = sym (ap (λ b. cond b (Some y) (Some x)) (ne_eqb 0 (suc p) (λ e. omega arith)))
  get-set (x ∷ xs) (suc p) (suc q) y within = get-set xs p q y (omega arith) ∙ ap (λ b. cond b (Some y) (slice_get xs q)) (grind (arith, nat_tests))

  get-last : (xs : List X) (d : X) → 0 < length xs → slice_get xs (length xs - 1) ≡ Some (slice_index_or xs (length xs - 1) d)
  get-last xs d some = slice_get-get_or xs (length xs - 1) d (omega arith)

  pub get-swap_remove : (xs : List X) (p q : ℕ) (d : X) → p < length xs → slice_get (swap_remove xs p d) q ≡ cond (nat_lt q (length xs - 1)) (cond (q == p) (slice_get xs (length xs - 1)) (slice_get xs q)) None
  get-swap_remove xs p q d within =
      get-take (length xs - 1) (slice_set xs p (slice_index_or xs (length xs - 1) d)) q
      ∙ ap (λ o. cond (nat_lt q (length xs - 1)) o None) (get-set xs p q (slice_index_or xs (length xs - 1) d) within ∙ ap (λ o. cond (q == p) o (slice_get xs q)) (sym (get-last xs d (omega arith))))

  pub after : (xs : List X) (p q : ℕ) (y : X) (o : Option X) → o ≡ cond (nat_lt q (length xs - 1)) (cond (q == p) (slice_get xs (length xs - 1)) (slice_get xs q)) None → o ≡ Some y
      → ((q ≡ p) × (p < length xs - 1) × (slice_get xs (length xs - 1) ≡ Some y)) ⊎ ((q ≡ p → ⊥) × (q < length xs - 1) × (slice_get xs q ≡ Some y))
  after xs p q y o is some = at_low (nat_lt q (length xs - 1)) refl (q == p) refl (sym is ∙ some)
    where
      at_low : (a : Bool) → nat_lt q (length xs - 1) ≡ a → (b : Bool) → (q == p) ≡ b → cond a (cond b (slice_get xs (length xs - 1)) (slice_get xs q)) None ≡ Some y
          → ((q ≡ p) × (p < length xs - 1) × (slice_get xs (length xs - 1) ≡ Some y)) ⊎ ((q ≡ p → ⊥) × (q < length xs - 1) × (slice_get xs q ≡ Some y))
      at_low true a true b t = let same : q ≡ p = eqb-true q p b in let low = ltb-true q (length xs - 1) a in inl (same, omega arith, t)
      at_low true a false b t = inr (eqb-false q p b, ltb-true q (length xs - 1) a, t)
      at_low false a b e t = absurd (cc)

module _ {K V W : Type 0} where
  one_place : (E : Slab (Entry V W)) (ps : List (K × ℕ)) (n p q : ℕ) (e : Entry V W) → slab.get E n ≡ Some e → e.place ≡ Some p → (f : Entry V W) → slab.get E n ≡ Some f → f.place ≡ Some q → p ≡ q
  one_place E ps n p q e is at f js ft = let same : e ≡ f = (let both : Some e ≡ Some f = sym is ∙ js in cc) in let places : Some p ≡ Some q = sym at ∙ ap (λ x. x.place) same ∙ ft in cc

  -- the last one moved to the place
  pub linked-moved : (E E1 E2 : Slab (Entry V W)) (ps qs : List (K × ℕ)) (p n m : ℕ) (d : K × ℕ) (e f : Entry V W) (k : K) → AreLinked E ps → slab.get E n ≡ Some e → e.place ≡ Some p
      → slab.Updates E E1 n (Some (record e { place = None })) → slab.get E1 m ≡ Some f → slab.Updates E1 E2 m (Some (record f { place = Some p })) → qs ≡ swap_remove ps p d → slice_get qs p ≡ Some (k, m)
      → AreLinked E2 qs
  linked-moved E E1 E2 ps qs p n m d e f k links is at out there back gone_is moved =
      let home = links.placed n p e is at in
      let within : p < length ps = slice_get_within ps p (home.0, n) home.1 in
      let looks : (q : ℕ) → slice_get qs q ≡ cond (nat_lt q (length ps - 1)) (cond (q == p) (slice_get ps (length ps - 1)) (slice_get ps q)) None = λ q. ap (λ xs. slice_get xs q) gone_is ∙ get-swap_remove ps p q d within in
      linked_by looks within home (last_is (after ps p p (k, m) (slice_get qs p) (looks p) moved))
    where
      last_is : ((p ≡ p) × (p < length ps - 1) × (slice_get ps (length ps - 1) ≡ Some (k, m))) ⊎ ((p ≡ p → ⊥) × (p < length ps - 1) × (slice_get ps p ≡ Some (k, m))) → (p < length ps - 1) × (slice_get ps (length ps - 1) ≡ Some (k, m))
      last_is (inl h) = (h.1, h.2)
      last_is (inr h) = absurd (h.0 refl)

      linked_by : ((q : ℕ) → slice_get qs q ≡ cond (nat_lt q (length ps - 1)) (cond (q == p) (slice_get ps (length ps - 1)) (slice_get ps q)) None) → p < length ps → (j : K) × (slice_get ps p ≡ Some (j, n))
          → (p < length ps - 1) × (slice_get ps (length ps - 1) ≡ Some (k, m)) → AreLinked E2 qs
      linked_by looks within home last =
          let old = links.found (length ps - 1) k m last.1 in
          let apart : m ≢ n = λ same. absurd (let both : length ps - 1 ≡ p = one_place E ps m (length ps - 1) p old.0 old.1 old.2 e (ap (slab.get E) same ∙ is) at in let low = last.0 in omega arith) in
          record {
            found = λ q j x stood. found_by (q) (j) (x) last old.0 old.1 old.2 apart (after ps p q (j, x) (slice_get qs q) (looks q) stood);
            placed = λ x q g get_x place_x. placed_by x q g get_x place_x looks last old.0 old.1 old.2 apart (cases_eq x m) (cases_eq x n);
          }
        where
          found_by : (q : ℕ) (j : K) (x : ℕ) → (p < length ps - 1) × (slice_get ps (length ps - 1) ≡ Some (k, m)) → (o : Entry V W) → slab.get E m ≡ Some o → o.place ≡ Some (length ps - 1) → m ≢ n
              → ((q ≡ p) × (p < length ps - 1) × (slice_get ps (length ps - 1) ≡ Some (j, x))) ⊎ ((q ≡ p → ⊥) × (q < length ps - 1) × (slice_get ps q ≡ Some (j, x)))
              → (g : Entry V W) × (slab.get E2 x ≡ Some g) × (g.place ≡ Some q)
          found_by q j x last o o_is o_at apart (inl h) =
              let same : m ≡ x = (let both : Some (k, m) ≡ Some (j, x) = sym last.1 ∙ h.2 in ap (λ y. unwrap_or (option_map (λ (z : K × ℕ). z.1) y) 0) both) in
              (record f { place = Some p }, ap (slab.get E2) (sym same) ∙ back.changed, ap (λ i. Some i) (sym h.0))
          found_by q j x last o o_is o_at apart (inr h) =
              let old = links.found q j x h.2 in
              let not_m : x ≢ m = λ same. absurd (let both : q ≡ length ps - 1 = one_place E ps x q (length ps - 1) old.0 old.1 old.2 o (ap (slab.get E) same ∙ o_is) o_at in let low = h.1 in omega arith) in
              let not_n : x ≢ n = λ same. absurd (h.0 (one_place E ps x q p old.0 old.1 old.2 e (ap (slab.get E) same ∙ is) at)) in
              (old.0, back.others x not_m ∙ out.others x not_n ∙ old.1, old.2)

          placed_by : (x q : ℕ) (g : Entry V W) → slab.get E2 x ≡ Some g → g.place ≡ Some q → ((r : ℕ) → slice_get qs r ≡ cond (nat_lt r (length ps - 1)) (cond (r == p) (slice_get ps (length ps - 1)) (slice_get ps r)) None)
              → (p < length ps - 1) × (slice_get ps (length ps - 1) ≡ Some (k, m)) → (o : Entry V W) → slab.get E m ≡ Some o → o.place ≡ Some (length ps - 1) → m ≢ n → (x ≡ m) ⊎ (x ≡ m → ⊥) → (x ≡ n) ⊎ (x ≡ n → ⊥)
              → (j : K) × (slice_get qs q ≡ Some (j, x))
          placed_by x q g get_x place_x looks last o o_is o_at apart (inl same) c =
              let here : Some g ≡ Some (record f { place = Some p }) = sym get_x ∙ ap (slab.get E2) same ∙ back.changed in
              let entry : g ≡ record f { place = Some p } = ap (λ y. unwrap_or y g) here in
              let places : Some q ≡ Some p = sym place_x ∙ ap (λ y. y.place) entry in
              let place : q ≡ p = cc in
              (k, ap (slice_get qs) place ∙ moved ∙ ap (λ i. Some (k, i)) (sym same))
          placed_by x q g get_x place_x looks last o o_is o_at apart (inr differs) (inl same) =
              absurd (let here : Some g ≡ Some (record e { place = None }) = sym get_x ∙ back.others x differs ∙ ap (slab.get E1) same ∙ out.changed in
              let entry : g ≡ record e { place = None } = ap (λ y. unwrap_or y g) here in
              let places : Some q ≡ None = sym place_x ∙ ap (λ y. y.place) entry in cc)
          placed_by x q g get_x place_x looks last o o_is o_at apart (inr differs) (inr other) =
              let was : slab.get E x ≡ Some g = sym (back.others x differs ∙ out.others x other) ∙ get_x in
              let old = links.placed x q g was place_x in
              let within_q : q < length ps = slice_get_within ps q (old.0, x) old.1 in
              let not_p : q ≢ p = λ same. absurd (other (
              let h1 = links.placed n p e is at in
              let both : Some (old.0, x) ≡ Some (h1.0, n) = sym old.1 ∙ ap (slice_get ps) same ∙ h1.1 in ap (λ y. unwrap_or (option_map (λ (z : K × ℕ). z.1) y) 0) both)) in
              let not_last : q ≢ length ps - 1 = λ same. absurd (differs (
              let both : Some (old.0, x) ≡ Some (k, m) = sym old.1 ∙ ap (slice_get ps) same ∙ last.1 in ap (λ y. unwrap_or (option_map (λ (z : K × ℕ). z.1) y) 0) both)) in
              let low : q < length ps - 1 = omega arith in
              (old.0, looks q ∙ ap (λ b. cond b (cond (q == p) (slice_get ps (length ps - 1)) (slice_get ps q)) None) (lt-ltb q (length ps - 1) low) ∙ ap (λ b. cond b (slice_get ps (length ps - 1)) (slice_get ps q)) (ne_eqb q p not_p) ∙ old.1)

  -- the last one was taken out itself
  pub linked-last : (E E1 : Slab (Entry V W)) (ps qs : List (K × ℕ)) (p n : ℕ) (d : K × ℕ) (e : Entry V W) → AreLinked E ps → slab.get E n ≡ Some e → e.place ≡ Some p
      → slab.Updates E E1 n (Some (record e { place = None })) → qs ≡ swap_remove ps p d → slice_get qs p ≡ None → AreLinked E1 qs
  linked-last E E1 ps qs p n d e links is at out gone_is none =
      let home = links.placed n p e is at in
      let within : p < length ps = slice_get_within ps p (home.0, n) home.1 in
      let looks : (q : ℕ) → slice_get qs q ≡ cond (nat_lt q (length ps - 1)) (cond (q == p) (slice_get ps (length ps - 1)) (slice_get ps q)) None = λ q. ap (λ xs. slice_get xs q) gone_is ∙ get-swap_remove ps p q d within in
      let last : length ps ≤ p + 1 = at_end (cases_lt p (length ps - 1)) within (sym (looks p) ∙ none) in
      record {
        found = λ q j x stood. found_by q j x last (after ps p q (j, x) (slice_get qs q) (looks q) stood);
        placed = λ x q g get_x place_x. placed_by x q g get_x place_x looks within home last (cases_eq x n);
      }
    where
      at_end : (p < length ps - 1) ⊎ (length ps - 1 ≤ p) → p < length ps → cond (nat_lt p (length ps - 1)) (cond (p == p) (slice_get ps (length ps - 1)) (slice_get ps p)) None ≡ None → length ps ≤ p + 1
      at_end (inl low) within none = absurd (
          let some = get-last ps d (omega arith) in
          let shown : slice_get ps (length ps - 1) ≡ None = sym (ap (λ b. cond b (cond (p == p) (slice_get ps (length ps - 1)) (slice_get ps p)) None) (lt-ltb p (length ps - 1) low) ∙ ap (λ b. cond b (slice_get ps (length ps - 1)) (slice_get ps p)) (eq-eqb p p refl)) ∙ none in
          cc)
      at_end (inr high) within none = omega arith

      found_by : (q : ℕ) (j : K) (x : ℕ) → length ps ≤ p + 1
          → ((q ≡ p) × (p < length ps - 1) × (slice_get ps (length ps - 1) ≡ Some (j, x))) ⊎ ((q ≡ p → ⊥) × (q < length ps - 1) × (slice_get ps q ≡ Some (j, x)))
          → (g : Entry V W) × (slab.get E1 x ≡ Some g) × (g.place ≡ Some q)
      found_by q j x last (inl h) = absurd (let low = h.1 in omega arith)
      found_by q j x last (inr h) =
          let old = links.found q j x h.2 in
          let not_n : x ≢ n = λ same. absurd (h.0 (one_place E ps x q p old.0 old.1 old.2 e (ap (slab.get E) same ∙ is) at)) in
          (old.0, out.others x not_n ∙ old.1, old.2)

      placed_by : (x q : ℕ) (g : Entry V W) → slab.get E1 x ≡ Some g → g.place ≡ Some q → ((r : ℕ) → slice_get qs r ≡ cond (nat_lt r (length ps - 1)) (cond (r == p) (slice_get ps (length ps - 1)) (slice_get ps r)) None) → p < length ps
          → (j : K) × (slice_get ps p ≡ Some (j, n)) → length ps ≤ p + 1 → (x ≡ n) ⊎ (x ≡ n → ⊥) → (j : K) × (slice_get qs q ≡ Some (j, x))
      placed_by x q g get_x place_x looks within home last (inl same) =
          absurd (let here : Some g ≡ Some (record e { place = None }) = sym get_x ∙ ap (slab.get E1) same ∙ out.changed in
          let entry : g ≡ record e { place = None } = ap (λ y. unwrap_or y g) here in
          let places : Some q ≡ None = sym place_x ∙ ap (λ y. y.place) entry in cc)
      placed_by x q g get_x place_x looks within home last (inr other) =
          let was : slab.get E x ≡ Some g = sym (out.others x other) ∙ get_x in
          let old = links.placed x q g was place_x in
          let within_q : q < length ps = slice_get_within ps q (old.0, x) old.1 in
          let not_p : q ≢ p = λ same. absurd (other (
          let both : Some (old.0, x) ≡ Some (home.0, n) = sym old.1 ∙ ap (slice_get ps) same ∙ home.1 in ap (λ y. unwrap_or (option_map (λ (z : K × ℕ). z.1) y) 0) both)) in
          let low : q < length ps - 1 = omega arith in
          (old.0, looks q ∙ ap (λ b. cond b (cond (q == p) (slice_get ps (length ps - 1)) (slice_get ps q)) None) (lt-ltb q (length ps - 1) low) ∙ ap (λ b. cond b (slice_get ps (length ps - 1)) (slice_get ps q)) (ne_eqb q p not_p) ∙ old.1)

  -- the same from what the calls told
  pub unlisted-moved : (E E1 E2 : Slab (Entry V W)) (ps qs : List (K × ℕ)) (p n m : ℕ) (k : K) → AreLinked E ps
      → (o : Option (Entry V W)) → slab.get E n ≡ o → IsSome o → IfSome o (λ e. e.place ≡ Some p) → IfSome o (λ e. slab.Updates E E1 n (Some (record e { place = None })))
      → (r : Option (K × ℕ)) → r ≡ slice_get ps p → IfSome r (λ d. qs ≡ swap_remove ps p d) → slice_get qs p ≡ Some (k, m)
      → (w : Option (Entry V W)) → slab.get E1 m ≡ w → IfSome w (λ f. slab.Updates E1 E2 m (Some (record f { place = Some p }))) → AreLinked E2 qs
  unlisted-moved E E1 E2 ps qs p n m k links None is some at out r r_is gone_is moved w w_is back = absurd (cc)
  unlisted-moved E E1 E2 ps qs p n m k links (Some e) is some at out None r_is gone_is moved w w_is back = absurd (let home = links.placed n p e is at in let there = home.1 in cc)
  unlisted-moved E E1 E2 ps qs p n m k links (Some e) is some at out (Some d) r_is gone_is moved (Some f) w_is back = linked-moved E E1 E2 ps qs p n m d e f k links is at out w_is back gone_is moved
  unlisted-moved E E1 E2 ps qs p n m k links (Some e) is some at out (Some d) r_is gone_is moved None w_is back = absurd (by_last (after ps p p (k, m) (slice_get qs p) (ap (λ xs. slice_get xs p) gone_is ∙ get-swap_remove ps p p d (slice_get_within ps p d (sym r_is))) moved))
    where
      by_last : ((p ≡ p) × (p < length ps - 1) × (slice_get ps (length ps - 1) ≡ Some (k, m))) ⊎ ((p ≡ p → ⊥) × (p < length ps - 1) × (slice_get ps p ≡ Some (k, m))) → ⊥
      by_last (inr h) = h.0 refl
      by_last (inl h) =
          let old = links.found (length ps - 1) k m h.2 in
          let not_n : m ≢ n = λ same. absurd (let both : length ps - 1 ≡ p = one_place E ps m (length ps - 1) p old.0 old.1 old.2 e (ap (slab.get E) same ∙ is) at in let low = h.1 in omega arith) in
          let there : Some old.0 ≡ None = sym (out.others m not_n ∙ old.1) ∙ w_is in
          cc

  pub unlisted-last : (E E1 : Slab (Entry V W)) (ps qs : List (K × ℕ)) (p n : ℕ) → AreLinked E ps
      → (o : Option (Entry V W)) → slab.get E n ≡ o → IsSome o → IfSome o (λ e. e.place ≡ Some p) → IfSome o (λ e. slab.Updates E E1 n (Some (record e { place = None })))
      → (r : Option (K × ℕ)) → r ≡ slice_get ps p → IfSome r (λ d. qs ≡ swap_remove ps p d) → slice_get qs p ≡ None → AreLinked E1 qs
  unlisted-last E E1 ps qs p n links None is some at out r r_is gone_is none = absurd (cc)
  unlisted-last E E1 ps qs p n links (Some e) is some at out None r_is gone_is none = absurd (let home = links.placed n p e is at in let there = home.1 in cc)
  unlisted-last E E1 ps qs p n links (Some e) is some at out (Some d) r_is gone_is none = linked-last E E1 ps qs p n d e links is at out gone_is none

module _ {X : Type 0} where
  get-append : (xs : List X) (y : X) (q : ℕ) → slice_get (xs ++ y ∷ []) q ≡ cond (q == length xs) (Some y) (slice_get xs q)
  get-append [] y zero = refl
  get-append [] y (suc q) = sym (ap (λ b. cond b (Some y) None) (ne_eqb (suc q) 0 (λ e. omega arith)))
  get-append (x ∷ xs) y zero = sym (ap (λ b. cond b (Some y) (Some x)) (ne_eqb 0 (suc (length xs)) (λ e. omega arith)))
  get-append (x ∷ xs) y (suc q) = get-append xs y q ∙ ap (λ b. cond b (Some y) (slice_get xs q)) (grind (arith, nat_tests))

module _ {K V W : Type 0} where
  -- entries that are all as they were
  pub linked-same : (E F : Slab (Entry V W)) (ps : List (K × ℕ)) → ((n : ℕ) → slab.get F n ≡ slab.get E n) → AreLinked E ps → AreLinked F ps
  linked-same E F ps same links = record {
    found = λ p k n stood. let old = links.found p k n stood in (old.0, same n ∙ old.1, old.2);
    placed = λ n p e is at. links.placed n p e (sym (same n) ∙ is) at;
  }

  -- the number of a key is that of an entry
  pub keyed : (E : Slab (Entry V W)) (ps : List (K × ℕ)) (test : K → Bool) (n : ℕ) → AreLinked E ps → lookup test ps ≡ Some n → IsSome (slab.get E n)
  keyed E ps test n links found =
      let at = place_from_lookup test ps n found in
      let old = links.found at.0 at.1 n at.2 in
      ap is_some old.1

  -- a new entry at the end of the table
  pub linked-new : (E F : Slab (Entry V W)) (ps qs : List (K × ℕ)) (n : ℕ) (k : K) (e : Entry V W) → AreLinked E ps → slab.get E n ≡ None → e.place ≡ Some (length ps) → slab.Updates E F n (Some e) → qs ≡ ps ++ (k, n) ∷ [] → AreLinked F qs
  linked-new E F ps qs n k e links none at made grown = record {
    found = λ p j x stood. found_by p j x (cases_eq p (length ps)) (sym (ap (λ xs. slice_get xs p) grown ∙ get-append ps (k, n) p) ∙ stood);
    placed = λ x p f get_x place_x. placed_by x p f get_x place_x (cases_eq x n);
  }
    where
      found_by : (p : ℕ) (j : K) (x : ℕ) → (p ≡ length ps) ⊎ (p ≡ length ps → ⊥) → cond (p == length ps) (Some (k, n)) (slice_get ps p) ≡ Some (j, x) → (f : Entry V W) × (slab.get F x ≡ Some f) × (f.place ≡ Some p)
      found_by p j x (inl last) stood =
          let both : Some (k, n) ≡ Some (j, x) = sym (ap (λ b. cond b (Some (k, n)) (slice_get ps p)) (eq-eqb p (length ps) last)) ∙ stood in
          let same : n ≡ x = ap (λ y. unwrap_or (option_map (λ (z : K × ℕ). z.1) y) 0) both in
          (e, ap (slab.get F) (sym same) ∙ made.changed, at ∙ ap (λ i. Some i) (sym last))
      found_by p j x (inr before) stood =
          let was : slice_get ps p ≡ Some (j, x) = sym (ap (λ b. cond b (Some (k, n)) (slice_get ps p)) (ne_eqb p (length ps) before)) ∙ stood in
          let old = links.found p j x was in
          let other : x ≢ n = λ same. absurd (let there : Some old.0 ≡ None = sym old.1 ∙ ap (slab.get E) same ∙ none in cc) in
          (old.0, made.others x other ∙ old.1, old.2)

      placed_by : (x p : ℕ) (f : Entry V W) → slab.get F x ≡ Some f → f.place ≡ Some p → (x ≡ n) ⊎ (x ≡ n → ⊥) → (j : K) × (slice_get qs p ≡ Some (j, x))
      placed_by x p f get_x place_x (inl same) =
          let here : Some f ≡ Some e = sym get_x ∙ ap (slab.get F) same ∙ made.changed in
          let places : Some p ≡ Some (length ps) = sym place_x ∙ ap (λ y. y.place) (ap (λ y. unwrap_or y f) here) ∙ at in
          let last : p ≡ length ps = cc in
          (k, ap (λ xs. slice_get xs p) grown ∙ get-append ps (k, n) p ∙ ap (λ b. cond b (Some (k, n)) (slice_get ps p)) (eq-eqb p (length ps) last) ∙ ap (λ i. Some (k, i)) (sym same))
      placed_by x p f get_x place_x (inr other) =
          let old = links.placed x p f (sym (made.others x other) ∙ get_x) place_x in
          let within : p < length ps = slice_get_within ps p (old.0, x) old.1 in
          (old.0, ap (λ xs. slice_get xs p) grown ∙ get-append ps (k, n) p ∙ ap (λ b. cond b (Some (k, n)) (slice_get ps p)) (ne_eqb p (length ps) (λ e. omega arith)) ∙ old.1)

module _ {V W : Type 0} where
  -- what callers see of a change
  pub shown-updates : (E F : Slab (Entry V W)) (n : ℕ) (o : Option (Entry V W)) → slab.Updates E F n o → Changes E.slots F.slots n (option_map shown o)
  shown-updates E F n o u = record { changed = ap (option_map shown) u.changed; others = λ m differs. ap (option_map shown) (u.others m differs) }

  -- the entry that callers see stands there
  pub seen : (o : Option (Entry V W)) (e : Shown V W) → option_map shown o ≡ Some e → (f : Entry V W) × (o ≡ Some f) × (shown f ≡ e)
  seen None e is = absurd (cc)
  seen (Some f) e is = (f, refl, ap (λ y. unwrap_or y (shown f)) is)

  pub told-last : (E E1 : Slab (Entry V W)) (n : ℕ) (o : Option (Entry V W)) → slab.get E n ≡ o → IfSome o (λ e. slab.Updates E E1 n (Some (record e { place = None })))
      → (s : Shown V W) → option_map shown o ≡ Some s → Changes E.slots E1.slots n (Some (record s { listed = false }))
  told-last E E1 n None is out s shows = absurd (cc)
  told-last E E1 n (Some e) is out s shows =
      subst (λ (t : Shown V W). Changes E.slots E1.slots n (Some (record t { listed = false }))) (ap (λ y. unwrap_or y (shown e)) shows) (shown-updates E E1 n (Some (record e { place = None })) out)

module _ {K V W : Type 0} where
  -- where the last pair moved to the place: it is another's
  pub moved-from : (E E1 : Slab (Entry V W)) (ps qs : List (K × ℕ)) (p n m : ℕ) (d : K × ℕ) (e : Entry V W) (k : K) → AreLinked E ps → slab.get E n ≡ Some e → e.place ≡ Some p
      → slab.Updates E E1 n (Some (record e { place = None })) → qs ≡ swap_remove ps p d → slice_get qs p ≡ Some (k, m)
      → (m ≡ n → ⊥) × (o : Entry V W) × (slab.get E m ≡ Some o) × (slab.get E1 m ≡ Some o) × (o.place ≡ Some (length ps - 1))
  moved-from E E1 ps qs p n m d e k links is at out gone_is moved =
      let home = links.placed n p e is at in
      let within : p < length ps = slice_get_within ps p (home.0, n) home.1 in
      by_last (after ps p p (k, m) (slice_get qs p) (ap (λ xs. slice_get xs p) gone_is ∙ get-swap_remove ps p p d within) moved)
    where
      by_last : ((p ≡ p) × (p < length ps - 1) × (slice_get ps (length ps - 1) ≡ Some (k, m))) ⊎ ((p ≡ p → ⊥) × (p < length ps - 1) × (slice_get ps p ≡ Some (k, m))) → (m ≡ n → ⊥) × (o : Entry V W) × (slab.get E m ≡ Some o) × (slab.get E1 m ≡ Some o) × (o.place ≡ Some (length ps - 1))
      by_last (inr h) = absurd (h.0 refl)
      by_last (inl h) =
          let old = links.found (length ps - 1) k m h.2 in
          let apart : m ≢ n = λ same. absurd (let both : length ps - 1 ≡ p = one_place E ps m (length ps - 1) p old.0 old.1 old.2 e (ap (slab.get E) same ∙ is) at in let low = h.1 in omega arith) in
          (apart, old.0, old.1, out.others m apart ∙ old.1, old.2)

  pub shown-moved : (E E1 E2 : Slab (Entry V W)) (ps qs : List (K × ℕ)) (p n m : ℕ) (d : K × ℕ) (e f : Entry V W) (k : K) → AreLinked E ps → slab.get E n ≡ Some e → e.place ≡ Some p
      → slab.Updates E E1 n (Some (record e { place = None })) → slab.get E1 m ≡ Some f → slab.Updates E1 E2 m (Some (record f { place = Some p })) → qs ≡ swap_remove ps p d → slice_get qs p ≡ Some (k, m)
      → Changes E.slots E2.slots n (Some (record (shown e) { listed = false }))
  shown-moved E E1 E2 ps qs p n m d e f k links is at out there back gone_is moved = by_from (moved-from E E1 ps qs p n m d e k links is at out gone_is moved)
    where
      by_from : (m ≡ n → ⊥) × (o : Entry V W) × (slab.get E m ≡ Some o) × (slab.get E1 m ≡ Some o) × (o.place ≡ Some (length ps - 1)) → Changes E.slots E2.slots n (Some (record (shown e) { listed = false }))
      by_from from =
          let entry : from.1 ≡ f = (let both : Some from.1 ≡ Some f = sym from.3 ∙ there in ap (λ y. unwrap_or y f) both) in
          let place : f.place ≡ Some (length ps - 1) = ap (λ y. y.place) (sym entry) ∙ from.4 in
          record {
            changed = ap (option_map shown) (back.others n (λ same. from.0 (sym same)) ∙ out.changed);
            others = λ x differs. others_by x differs place (from.2 ∙ ap (λ y. Some y) entry) (cases_eq x m);
          }
        where
          listed_still : f.place ≡ Some (length ps - 1) → ◌≡◌ {A = Shown V W} (shown (record f { place = Some p })) (shown f)
          listed_still place = λ i. record { cell = f.cell; callers = f.callers; listed = ap is_some (sym place) i }

          others_by : (x : ℕ) → (x ≡ n → ⊥) → f.place ≡ Some (length ps - 1) → slab.get E m ≡ Some f → (x ≡ m) ⊎ (x ≡ m → ⊥) → shown_at E2.slots x ≡ shown_at E.slots x
          others_by x differs place was (inl same) =
              ap (λ y. option_map shown (slab.get E2 y)) same ∙ ap (option_map shown) back.changed ∙ ap (λ y. Some y) (listed_still place)
              ∙ sym (ap (λ y. option_map shown (slab.get E y)) same ∙ ap (option_map shown) was)
          others_by x differs place was (inr other) = ap (option_map shown) (back.others x other ∙ out.others x differs)

  -- the same from what the calls told
  pub told-there : (E E1 : Slab (Entry V W)) (ps qs : List (K × ℕ)) (p n m : ℕ) (k : K) → AreLinked E ps
      → (o : Option (Entry V W)) → slab.get E n ≡ o → IsSome o → IfSome o (λ e. e.place ≡ Some p) → IfSome o (λ e. slab.Updates E E1 n (Some (record e { place = None })))
      → (r : Option (K × ℕ)) → r ≡ slice_get ps p → IfSome r (λ d. qs ≡ swap_remove ps p d) → slice_get qs p ≡ Some (k, m) → IsSome (slab.get E1 m)
  told-there E E1 ps qs p n m k links None is some at out r r_is gone_is moved = absurd (cc)
  told-there E E1 ps qs p n m k links (Some e) is some at out None r_is gone_is moved = absurd (let home = links.placed n p e is at in let there = home.1 in cc)
  told-there E E1 ps qs p n m k links (Some e) is some at out (Some d) r_is gone_is moved = let from = moved-from E E1 ps qs p n m d e k links is at out gone_is moved in ap is_some from.3

  pub told-moved : (E E1 E2 : Slab (Entry V W)) (ps qs : List (K × ℕ)) (p n m : ℕ) (k : K) → AreLinked E ps
      → (o : Option (Entry V W)) → slab.get E n ≡ o → IsSome o → IfSome o (λ e. e.place ≡ Some p) → IfSome o (λ e. slab.Updates E E1 n (Some (record e { place = None })))
      → (r : Option (K × ℕ)) → r ≡ slice_get ps p → IfSome r (λ d. qs ≡ swap_remove ps p d) → slice_get qs p ≡ Some (k, m)
      → (w : Option (Entry V W)) → slab.get E1 m ≡ w → IfSome w (λ f. slab.Updates E1 E2 m (Some (record f { place = Some p })))
      → (s : Shown V W) → option_map shown o ≡ Some s → Changes E.slots E2.slots n (Some (record s { listed = false }))
  told-moved E E1 E2 ps qs p n m k links None is some at out r r_is gone_is moved w w_is back s shows = absurd (cc)
  told-moved E E1 E2 ps qs p n m k links (Some e) is some at out None r_is gone_is moved w w_is back s shows = absurd (let home = links.placed n p e is at in let there = home.1 in cc)
  told-moved E E1 E2 ps qs p n m k links (Some e) is some at out (Some d) r_is gone_is moved None w_is back s shows = absurd (let from = moved-from E E1 ps qs p n m d e k links is at out gone_is moved in let there = from.3 in cc)
  told-moved E E1 E2 ps qs p n m k links (Some e) is some at out (Some d) r_is gone_is moved (Some f) w_is back s shows =
      subst (λ (t : Shown V W). Changes E.slots E2.slots n (Some (record t { listed = false }))) (ap (λ y. unwrap_or y (shown e)) shows)
      (shown-moved E E1 E2 ps qs p n m d e f k links is at out w_is back gone_is moved)

module _ {K V S W : Type 0} where
  -- the key at the place has no number any more
  pub forgets : (eq : K → K → Bool) (E : Slab (Entry V W)) (m m' : HashMap K ℕ S) (n p : ℕ) → AreLinked E m.entries → (o : Option (Entry V W)) → slab.get E n ≡ o → IsSome o → IfSome o (λ e. e.place ≡ Some p)
      → (i : Option (Bor K × Bor ℕ)) → option_map (λ x. (x.0.now, x.1.now)) i ≡ slice_get m.entries p → IfSome i (λ x. hash.get eq m x.0.now ≡ Some x.1.now)
      → (r : Option (K × ℕ)) → r ≡ slice_get m.entries p → IfSome r (λ x. hash.Updates eq m m' x.0 None) → Forgets eq m.entries m'.entries n
  forgets eq E m m' n p links None is some at i i_is value r r_is updates = absurd (cc)
  forgets eq E m m' n p links (Some e) is some at None i_is value r r_is updates = absurd (let home = links.placed n p e is at in let there = home.1 in cc)
  forgets eq E m m' n p links (Some e) is some at (Some x) i_is value None r_is updates = absurd (let home = links.placed n p e is at in let there = home.1 in cc)
  forgets eq E m m' n p links (Some e) is some at (Some x) i_is value (Some d) r_is updates =
      let home = links.placed n p e is at in
      let here : (x.0.now, x.1.now) ≡ (home.0, n) = (let both : Some (x.0.now, x.1.now) ≡ Some (home.0, n) = i_is ∙ home.1 in ap (λ y. unwrap_or y (x.0.now, x.1.now)) both) in
      let there : d ≡ (x.0.now, x.1.now) = (let both : Some d ≡ Some (x.0.now, x.1.now) = r_is ∙ sym i_is in ap (λ y. unwrap_or y d) both) in
      let key : d.0 ≡ x.0.now = ap (λ (z : K × ℕ). z.0) there in
      (x.0.now, value ∙ ap (λ (z : K × ℕ). Some z.1) here, λ k. updates.0 k ∙ ap (λ j. cond (eq j k) None (hash.get eq m k)) key)
