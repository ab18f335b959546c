-- each send that was granted a place has had its waker woken, and enough were granted
use Rattle.std.proofs.Common.{◌≡◌, ◌≢◌, ◌⊎◌, inl, inr, ℕ, zero, suc, ◌+◌, ◌==◌, ◌++◌, Bool, true, false, cond, List, [], ◌∷◌, take, drop, Option, Some, None, length, refl, ap, sym, subst, ◌∙◌, arith, append_assoc, Contains}
use Rattle.std.specs.Prelude.{map as map_list}
use Rattle.std.specs.Ordering.{nat_cmp}
use Rattle.std.specs.Cmp.{nat_cmp_total}
use Rattle.std.specs.Prelude.{is_some}
use Rattle.std.specs.FinMap as map
use Rattle.std.proofs.lemmas.Bool.{eqb-true, eq-eqb, ne_eqb}
use Rattle.std.proofs.lemmas.List.Elements.{Contains-append_left, Contains-push}
use Rattle.mea_base.proofs.Maps.{by_put, by_gone}
use Rattle.mea_base.proofs.Totals.{get_inserted}
use Rattle.mea_sem_core.specs.Core.{Waiter, Acquires, Owes, AreApart, waiting, waker_under, wakers_of, with_demands}
use Rattle.mea_sem_core.specs.Calls.{with_waker, without_acquire}
use Rattle.mea_sem_core.specs.Ones.{AskForOne}

absent : {X : Type 0} (x : X) (o : Option X) → o ≡ None → o ≡ Some x → ⊥
absent x o none some = let no = sym none ∙ some in absurd (cc)

module _ {W : Type 0} where
  -- ---- wakers in a queue

  -- who has a waker there waits there
  waits_there : (q : List (Waiter W × ℕ)) (n : ℕ) (w : W) → waker_under q n ≡ Some w → waiting q n ≢ None
  waits_there [] n w = λ is. absurd (cc)
  waits_there ((Acquires k d v, l) ∷ q) n w = elim (k == n) as (λ b. cond b (Some v) (waker_under q n) ≡ Some w → cond b (Some (d, l)) (waiting q n) ≢ None) [
    | true ↦ λ is none. absurd (cc)
    | false ↦ λ is. waits_there q n w is
  ]
  waits_there ((Owes, l) ∷ q) n w = λ is. waits_there q n w is

  under_tail : (k d l : ℕ) (v : W) (q : List (Waiter W × ℕ)) (n : ℕ) (w : W) → waiting q k ≡ None → waker_under q n ≡ Some w → waker_under ((Acquires k d v, l) ∷ q) n ≡ Some w
  under_tail k d l v q n w none is =
      ap (λ b. cond b (Some v) (waker_under q n)) (ne_eqb k n (λ same. waits_there q n w is (ap (waiting q) (sym same) ∙ none))) ∙ is

  under_without : (q : List (Waiter W × ℕ)) (n m : ℕ) (w : W) → waker_under (without_acquire q n) m ≡ Some w → (n ≢ m) × (waker_under q m ≡ Some w)
  under_without [] n m w = λ is. absurd (cc)
  under_without ((Acquires k d v, l) ∷ q) n m w = elim (k == n)
      as (λ b. (k == n) ≡ b → waker_under (cond b (without_acquire q n) ((Acquires k d v, l) ∷ without_acquire q n)) m ≡ Some w → (n ≢ m) × (cond (k == m) (Some v) (waker_under q m) ≡ Some w)) [
        | true ↦ λ e is.
            let rest = under_without q n m w is in
            (rest.0, ap (λ b. cond b (Some v) (waker_under q m)) (ne_eqb k m (λ same. rest.0 (sym (eqb-true k n e) ∙ same))) ∙ rest.1)
        | false ↦ λ e. elim (k == m) as (λ b. (k == m) ≡ b → cond b (Some v) (waker_under (without_acquire q n) m) ≡ Some w → (n ≢ m) × (cond b (Some v) (waker_under q m) ≡ Some w)) [
          | true ↦ λ f is. (λ same. absurd (let no = sym e ∙ ap (λ j. k == j) same ∙ f in cc), is)
          | false ↦ λ f is. under_without q n m w is
        ] refl
      ] refl
  under_without ((Owes, l) ∷ q) n m w = λ is. under_without q n m w is

  under_with : (q : List (Waiter W × ℕ)) (n m : ℕ) (w v : W) → waker_under (with_waker q n w) m ≡ Some v → ((n ≡ m) × (v ≡ w)) ⊎ ((n ≢ m) × (waker_under q m ≡ Some v))
  under_with [] n m w v = λ is. absurd (cc)
  under_with ((Acquires k d u, l) ∷ q) n m w v = elim (k == m)
      as (λ b. (k == m) ≡ b → cond b (Some (cond (k == n) w u)) (waker_under (with_waker q n w) m) ≡ Some v → ((n ≡ m) × (v ≡ w)) ⊎ ((n ≢ m) × (cond b (Some u) (waker_under q m) ≡ Some v))) [
        | true ↦ λ f. elim (k == n) as (λ b. (k == n) ≡ b → Some (cond b w u) ≡ Some v → ((n ≡ m) × (v ≡ w)) ⊎ ((n ≢ m) × (Some u ≡ Some v))) [
          | true ↦ λ e is. inl (sym (eqb-true k n e) ∙ eqb-true k m f, cc)
          | false ↦ λ e is. inr (λ same. absurd (let no = sym e ∙ ap (λ j. k == j) same ∙ f in cc), is)
        ] refl
        | false ↦ λ f is. under_with q n m w v is
      ] refl
  under_with ((Owes, l) ∷ q) n m w v = λ is. under_with q n m w v is

  under_push : (q : List (Waiter W × ℕ)) (m d l k : ℕ) (w v : W) → waker_under (q ++ (Acquires m d w, l) ∷ []) k ≡ Some v → (waker_under q k ≡ Some v) ⊎ ((m ≡ k) × (v ≡ w))
  under_push [] m d l k w v = elim (m == k) as (λ b. (m == k) ≡ b → cond b (Some w) None ≡ Some v → (None ≡ Some v) ⊎ ((m ≡ k) × (v ≡ w))) [
    | true ↦ λ e is. inr (eqb-true m k e, cc)
    | false ↦ λ e is. absurd (cc)
  ] refl
  under_push ((Acquires j c u, i) ∷ q) m d l k w v = elim (j == k)
      as (λ b. cond b (Some u) (waker_under (q ++ (Acquires m d w, l) ∷ []) k) ≡ Some v → (cond b (Some u) (waker_under q k) ≡ Some v) ⊎ ((m ≡ k) × (v ≡ w))) [
        | true ↦ λ is. inl is
        | false ↦ λ is. under_push q m d l k w v is
      ]
  under_push ((Owes, i) ∷ q) m d l k w v = λ is. under_push q m d l k w v is

  -- ---- what is watched

  -- each who waits is watched with the waker that it has there, and each who was granted has had it woken since
  pub record Kept (q : List (Waiter W × ℕ)) (g : map.FinMap nat_cmp ℕ) (last : ℕ → Option W) (since : ℕ → List W) : Type 0 where
    pub waits : (n : ℕ) (w : W) → waker_under q n ≡ Some w → last n ≡ Some w
    pub granted : (n d : ℕ) → map.get g n ≡ Some d → (w : W) × (last n ≡ Some w) × Contains (since n) w

  pub heard : (q : List (Waiter W × ℕ)) (g : map.FinMap nat_cmp ℕ) (last : ℕ → Option W) (since : ℕ → List W) (ws : List W) → Kept q g last since → Kept q g last (λ n. since n ++ ws)
  heard q g last since ws k = record { waits = k.waits; granted = λ n d is. let x = k.granted n d is in (x.0, x.1, Contains-append_left (since n) ws x.0 x.2) }

  -- ---- pours

  abbrev pub firsts : ℕ → List (Waiter W × ℕ) → List (Waiter W)
  firsts k q = map_list {A = Waiter W × ℕ} (λ e. e.0) (take k q)

  abbrev pub Apart : List (Waiter W × ℕ) → map.FinMap nat_cmp ℕ → Type 0
  Apart q g = (n : ℕ) → waiting q n ≢ None → map.get g n ≡ None

  first_granted : (m d l : ℕ) (w : W) (q : List (Waiter W × ℕ)) (g : map.FinMap nat_cmp ℕ) (last : ℕ → Option W) (since : ℕ → List W) → waiting q m ≡ None
      → Kept ((Acquires m d w, l) ∷ q) g last since → Kept q (map.insert g m d) last (λ n. since n ++ w ∷ [])
  first_granted m d l w q g last since none k = record {
    waits = λ n v is. k.waits n v (under_tail m d l w q n v none is);
    granted = λ n e. by_put g m d (λ j o. o ≡ Some e → (v : W) × (last j ≡ Some v) × Contains (since j ++ w ∷ []) v)
        (λ is. (w, k.waits m w (ap (λ b. cond b (Some w) (waker_under q m)) (eq-eqb m m refl)), Contains-push (since m) w))
        (λ j other is. let x = k.granted j e is in (x.0, x.1, Contains-append_left (since j) (w ∷ []) x.0 x.2)) n;
  }

  apart_tail : (m d l : ℕ) (w : W) (q : List (Waiter W × ℕ)) (g : map.FinMap nat_cmp ℕ) → waiting q m ≡ None → Apart ((Acquires m d w, l) ∷ q) g → Apart q (map.insert g m d)
  apart_tail m d l w q g none apart n waits =
      let other : m ≢ n = λ same. waits (ap (waiting q) (sym same) ∙ none) in
      let test : (m == n) ≡ false = ne_eqb m n other in
      get_inserted g m n d ∙ ap (λ b. cond b (Some d) (map.get g n)) test
      ∙ apart n (λ no. waits (sym (ap (λ b. cond b (Some (d, l)) (waiting q n)) test) ∙ no))

  pub poured_kept : (q : List (Waiter W × ℕ)) (g : map.FinMap nat_cmp ℕ) (last : ℕ → Option W) (since : ℕ → List W) (k : ℕ) → AskForOne q → AreApart q → Apart q g → Kept q g last since
      → Kept (drop k q) (with_demands g (firsts k q)) last (λ n. since n ++ wakers_of (firsts k q))
  poured_kept [] g last since zero ones distinct apart h = heard [] g last since [] h
  poured_kept [] g last since (suc j) ones distinct apart h = heard [] g last since [] h
  poured_kept (e ∷ q) g last since zero ones distinct apart h = heard (e ∷ q) g last since [] h
  poured_kept ((Owes, l) ∷ q) g last since (suc j) ones distinct apart h = absurd ones
  poured_kept ((Acquires m d w, l) ∷ q) g last since (suc j) ones distinct apart h =
      let rest = poured_kept q (map.insert g m d) last (λ n. since n ++ w ∷ []) j ones.2 distinct.1 (apart_tail m d l w q g distinct.0 apart) (first_granted m d l w q g last since distinct.0 h) in
      record {
        waits = rest.waits;
        granted = λ n e is. let x = rest.granted n e is in (x.0, x.1, subst (λ (ws : List W). Contains ws x.0) (append_assoc (since n) (w ∷ []) (wakers_of (firsts j q))) x.2);
      }

  pub poured_len : (q : List (Waiter W × ℕ)) (g : map.FinMap nat_cmp ℕ) (k : ℕ) → AskForOne q → AreApart q → Apart q g → map.len (with_demands g (firsts k q)) ≡ map.len g + length (take k q)
  poured_len [] g zero ones distinct apart = omega arith
  poured_len [] g (suc j) ones distinct apart = omega arith
  poured_len (e ∷ q) g zero ones distinct apart = omega arith
  poured_len ((Owes, l) ∷ q) g (suc j) ones distinct apart = absurd ones
  poured_len ((Acquires m d w, l) ∷ q) g (suc j) ones distinct apart =
      let rest = poured_len q (map.insert g m d) j ones.2 distinct.1 (apart_tail m d l w q g distinct.0 apart) in
      let here : waiting ((Acquires m d w, l) ∷ q) m ≡ Some (d, l) = ap (λ b. cond b (Some (d, l)) (waiting q m)) (eq-eqb m m refl) in
      let none : map.get g m ≡ None = apart m (λ no. absurd (let bad = sym here ∙ no in cc)) in
      let more : map.len (map.insert g m d) ≡ map.len g + 1 = map.len-insert nat_cmp_total g m d ∙ ap (λ o. cond (is_some o) (map.len g) (map.len g + 1)) none in
      omega (arith, rest, more)

  -- ---- one acquire leaves

  abbrev lasting_without : (ℕ → Option W) → ℕ → ℕ → Option W
  lasting_without last k n = cond (k == n) None (last n)

  -- one that was granted
  pub grant_gone : (q : List (Waiter W × ℕ)) (g : map.FinMap nat_cmp ℕ) (last : ℕ → Option W) (since : ℕ → List W) (k d : ℕ) → Apart q g → map.get g k ≡ Some d → Kept q g last since
      → Kept q (map.remove g k) (lasting_without last k) since
  grant_gone q g last since k d apart there h = record {
    waits = λ n w is.
        let other : k ≢ n = λ same. absurd (let no = sym there ∙ ap (map.get g) same ∙ apart n (waits_there q n w is) in cc) in
        ap (λ b. cond b None (last n)) (ne_eqb k n other) ∙ h.waits n w is;
    granted = λ n e. by_gone g k (λ j o. o ≡ Some e → (w : W) × (lasting_without last k j ≡ Some w) × Contains (since j) w)
        (λ is. absurd (cc))
        (λ j other is. let x = h.granted j e is in (x.0, ap (λ b. cond b None (last j)) (ne_eqb k j other) ∙ x.1, x.2)) n;
  }

  -- one that waited
  pub waiter_gone : (q : List (Waiter W × ℕ)) (g : map.FinMap nat_cmp ℕ) (last : ℕ → Option W) (since : ℕ → List W) (k : ℕ) → Apart q g → waiting q k ≢ None → Kept q g last since
      → Kept (without_acquire q k) g (lasting_without last k) since
  waiter_gone q g last since k apart there h = record {
    waits = λ n w is. let x = under_without q k n w is in ap (λ b. cond b None (last n)) (ne_eqb k n x.0) ∙ h.waits n w x.1;
    granted = λ n e is.
        let other : k ≢ n = λ same. absurd (let no = sym (apart k there) ∙ ap (map.get g) same ∙ is in cc) in
        let x = h.granted n e is in
        (x.0, ap (λ b. cond b None (last n)) (ne_eqb k n other) ∙ x.1, x.2);
  }

  -- ---- one acquire is polled

  abbrev lasting_with : (ℕ → Option W) → ℕ → W → ℕ → Option W
  lasting_with last k w n = cond (k == n) (Some w) (last n)

  abbrev since_poll : (ℕ → List W) → ℕ → ℕ → List W
  since_poll since k n = cond (k == n) [] (since n)

  -- it is not granted, and each other who waits did so with the waker that it has
  polled_kept : (q' : List (Waiter W × ℕ)) (g : map.FinMap nat_cmp ℕ) (last : ℕ → Option W) (since : ℕ → List W) (k : ℕ) (w : W) → map.get g k ≡ None
      → ((n : ℕ) (v : W) → waker_under q' n ≡ Some v → ((k ≡ n) × (v ≡ w)) ⊎ ((k ≢ n) × (last n ≡ Some v))) → ((n d : ℕ) → map.get g n ≡ Some d → (v : W) × (last n ≡ Some v) × Contains (since n) v)
      → Kept q' g (lasting_with last k w) (since_poll since k)
  polled_kept q' g last since k w none waits granted = record {
    waits = λ n v is. elim (waits n v is) [
      | inl x ↦ ap (λ b. cond b (Some w) (last n)) (eq-eqb k n x.0) ∙ ap (λ u. Some u) (sym x.1)
      | inr x ↦ ap (λ b. cond b (Some w) (last n)) (ne_eqb k n x.0) ∙ x.1
    ];
    granted = λ n d is.
        let other : k ≢ n = λ same. absurd (let no = sym none ∙ ap (map.get g) same ∙ is in cc) in
        let x = granted n d is in
        (x.0, ap (λ b. cond b (Some w) (last n)) (ne_eqb k n other) ∙ x.1, subst (λ (b : Bool). Contains (cond b [] (since n)) x.0) (sym (ne_eqb k n other)) x.2);
  }

  pub rewaked_kept : (q : List (Waiter W × ℕ)) (g : map.FinMap nat_cmp ℕ) (last : ℕ → Option W) (since : ℕ → List W) (k : ℕ) (w : W) → map.get g k ≡ None → Kept q g last since
      → Kept (with_waker q k w) g (lasting_with (lasting_without last k) k w) (since_poll since k)
  rewaked_kept q g last since k w none h = polled_kept (with_waker q k w) g (lasting_without last k) since k w none
      (λ n v is. elim (under_with q k n w v is) [
        | inl x ↦ inl x
        | inr x ↦ inr (x.0, ap (λ b. cond b None (last n)) (ne_eqb k n x.0) ∙ h.waits n v x.1)
      ])
      (λ n d is.
      let other : k ≢ n = λ same. absurd (let no = sym none ∙ ap (map.get g) same ∙ is in cc) in
      let x = h.granted n d is in
      (x.0, ap (λ b. cond b None (last n)) (ne_eqb k n other) ∙ x.1, x.2))

  pub pushed_kept : (q : List (Waiter W × ℕ)) (g : map.FinMap nat_cmp ℕ) (last : ℕ → Option W) (since : ℕ → List W) (k d l : ℕ) (w : W) → map.get g k ≡ None → waiting q k ≡ None → Kept q g last since
      → Kept (q ++ (Acquires k d w, l) ∷ []) g (lasting_with last k w) (since_poll since k)
  pushed_kept q g last since k d l w none free h = polled_kept (q ++ (Acquires k d w, l) ∷ []) g last since k w none
      (λ n v is. elim (under_push q k d l n w v is) [
        | inl x ↦ inr (λ same. waits_there q n v x (ap (waiting q) (sym same) ∙ free), h.waits n v x)
        | inr x ↦ inl x
      ])
      h.granted
