-- one group of many changes, or goes
use Rattle.std.proofs.Common.{◌≡◌, ◌≢◌, ℕ, suc, zero, ◌+◌, ◌-◌, ◌<◌, Bool, true, false, cond, List, [], ◌∷◌, ◌++◌, length, nat_lt, slice_get, slice_set, swap_remove, slice_index_or, get_or, Option, Some, None, unwrap_or, refl, ap, sym, subst, ◌∙◌, arith}
use Rattle.std.proofs.lemmas.Option.{slice_get_within, get_or_from_slice_get}
use Rattle.std.proofs.lemmas.List.Sums.{sum_by-cons, sum_by-swap_remove, sum_by_push}
use Rattle.std.specs.List.{sum_by, IsDistinct, AllByRecursion}
use Rattle.std.specs.FinMap.{len-empty}
use Rattle.std.specs.Ordering.{nat_cmp}
use Rattle.std.proofs.lemmas.Map.Keys.{IsDistinct-head, IsDistinct-tail}
use Rattle.std.specs.Cmp.{IsEquivalence}
use Rattle.std.specs.Map.{lookup, keys_of, values_of}
use Rattle.std.proofs.lemmas.Map.Entries.{lookup_from_place}
use Rattle.indexmap.specs.IndexMap.{set_value_at}
use Rattle.mea_share_core.specs.Share.{Share, new_share, held_of, waiting_of}
use Rattle.mea_share_core.specs.Groups.{held_in, waiting_in, share_in, IsAlike, Sets, StandsAt}
use Rattle.mea_base.proofs.Places.{get-take}

-- ---- what stands at each place
module _ {X : Type 0} where
  gone : (b : Bool) → ◌≡◌ {A = Option X} None (cond b None None)
  gone true = refl
  gone false = refl

  get-set : (xs : List X) (p q : ℕ) (y : X) → q ≢ p → slice_get (slice_set xs p y) q ≡ slice_get xs q
  get-set [] p q y other = refl
  get-set (x ∷ xs) zero zero y other = absurd (other refl)
  get-set (x ∷ xs) zero (suc q) y other = refl
  get-set (x ∷ xs) (suc p) zero y other = refl
  get-set (x ∷ xs) (suc p) (suc q) y other = get-set xs p q y (λ same. other (ap suc same))

  -- the last took the place of one that went, and every other stands where it stood
  pub get-swap_remove : (xs : List X) (p q : ℕ) (d : X) → q ≢ p → slice_get (swap_remove xs p d) q ≡ cond (nat_lt q (length xs - 1)) (slice_get xs q) None
  get-swap_remove xs p q d other =
      get-take (length xs - 1) (slice_set xs p (slice_index_or xs (length xs - 1) d)) q
      ∙ ap (λ o. cond (nat_lt q (length xs - 1)) o None) (get-set xs p q (slice_index_or xs (length xs - 1) d) other)

  pub get-push : (xs : List X) (y : X) (q : ℕ) → q ≢ length xs → slice_get (xs ++ y ∷ []) q ≡ slice_get xs q
  get-push [] y zero other = absurd (other refl)
  get-push [] y (suc q) other = refl
  get-push (x ∷ xs) y zero other = refl
  get-push (x ∷ xs) y (suc q) other = get-push xs y q (λ same. other (ap suc same))

module _ {K X : Type 0} where
  pub get-put_other : (es : List (K × X)) (p q : ℕ) (w : X) → q ≢ p → slice_get (set_value_at es p w) q ≡ slice_get es q
  get-put_other [] p q w other = refl
  get-put_other (e ∷ es) zero zero w other = absurd (other refl)
  get-put_other (e ∷ es) zero (suc q) w other = refl
  get-put_other (e ∷ es) (suc p) zero w other = refl
  get-put_other (e ∷ es) (suc p) (suc q) w other = get-put_other es p q w (λ same. other (ap suc same))

  pub get-put : (es : List (K × X)) (p : ℕ) (w : X) (e : K × X) → slice_get es p ≡ Some e → slice_get (set_value_at es p w) p ≡ Some (e.0, w)
  get-put [] p w e is = absurd (cc)
  get-put (d ∷ es) zero w e is = let same : d ≡ e = cc in ap (λ x. Some (x.0, w)) same
  get-put (d ∷ es) (suc p) w e is = get-put es p w e is

  pub put-same : (es : List (K × X)) (p : ℕ) (e : K × X) (w : X) → slice_get es p ≡ Some e → w ≡ e.1 → set_value_at es p w ≡ es
  put-same [] p e w is same = refl
  put-same (d ∷ es) zero e w is same = let here : d ≡ e = cc in ap (λ x. (d.0, x) ∷ es) (same ∙ ap (λ x. x.1) (sym here))
  put-same (d ∷ es) (suc p) e w is same = ap (λ xs. d ∷ xs) (put-same es p e w is same)

  pub length-put : (es : List (K × X)) (p : ℕ) (w : X) → length (set_value_at es p w) ≡ length es
  length-put [] p w = refl
  length-put (e ∷ es) zero w = refl
  length-put (e ∷ es) (suc p) w = ap suc (length-put es p w)

  sum-put : (f : X → ℕ) (es : List (K × X)) (p : ℕ) (w : X) (e : K × X) → slice_get es p ≡ Some e
      → sum_by {X = K × X} (λ x. f x.1) (set_value_at es p w) + f e.1 ≡ sum_by {X = K × X} (λ x. f x.1) es + f w
  sum-put f [] p w e is = absurd (cc)
  sum-put f (d ∷ es) zero w e is =
      let same : d ≡ e = cc in
      let here : f d.1 ≡ f e.1 = ap (λ x. f x.1) same in
      omega (arith, here, sum_by-cons {X = K × X} (λ x. f x.1) d es, sum_by-cons {X = K × X} (λ x. f x.1) (d.0, w) es)
  sum-put f (d ∷ es) (suc p) w e is =
      omega (arith, sum-put f es p w e is, sum_by-cons {X = K × X} (λ x. f x.1) d es, sum_by-cons {X = K × X} (λ x. f x.1) d (set_value_at es p w))

  pub values-at : (es : List (K × X)) (p : ℕ) (e : K × X) (x : X) → slice_get es p ≡ Some e → slice_get (values_of es) p ≡ Some x → x ≡ e.1
  values-at [] p e x is at = absurd (cc)
  values-at (d ∷ es) zero e x is at = let same : d ≡ e = cc in let value : d.1 ≡ x = cc in sym value ∙ ap (λ y. y.1) same
  values-at (d ∷ es) (suc p) e x is at = values-at es p e x is at

-- ---- what keys have
pub new_holds : (W : Type 0) → held_of {W = W} new_share ≡ 0
new_holds W = omega (arith, len-empty nat_cmp (Unit {0}))

module _ {K : Type 0} (eq : K → K → Bool) (laws : IsEquivalence eq) where
  pub lookup_alike : {X : Type 0} (es : List (K × X)) (k j : K) → eq k j ≡ true → lookup (eq k) es ≡ lookup (eq j) es
  lookup_alike [] k j same = refl
  lookup_alike {X} (e ∷ es) k j same = ap (λ b. cond b (Some e.1) (lookup (eq k) es)) (laws.congr k j e.0 same) ∙ ap (cond (eq j e.0) (Some e.1)) (lookup_alike es k j same)

  module _ {W : Type 0} where
    pub share_alike : (es : List (K × Share W)) (k j : K) → eq k j ≡ true → share_in eq es k ≡ share_in eq es j
    share_alike es k j same = ap (λ o. unwrap_or o new_share) (lookup_alike es k j same)

    -- a key has what stands at its place
    pub share_at : (es : List (K × Share W)) (p : ℕ) (k : K) (stands : StandsAt eq es p k) → IsDistinct eq (keys_of es) → lookup (eq k) es ≡ Some stands.0.1
    share_at es p k stands unique =
        lookup_alike es k stands.0.0 stands.2 ∙ lookup_from_place laws es p stands.0.0 stands.0.1 unique stands.1

    -- the key at a place is not equal to one before it
    all_at : (P : K → Type 0) (es : List (K × Share W)) (p : ℕ) (e : K × Share W) → AllByRecursion P (keys_of es) → slice_get es p ≡ Some e → P e.0
    all_at P [] p e all is = absurd (cc)
    all_at P (d ∷ es) zero e all is = let same : d ≡ e = cc in subst (λ x. P x.0) same all.0
    all_at P (d ∷ es) (suc p) e all is = all_at P es p e all.1 is

    apart_of : (d e : K × Share W) (es : List (K × Share W)) (p : ℕ) → IsDistinct eq (keys_of (d ∷ es)) → slice_get es p ≡ Some e → eq e.0 d.0 ≡ false
    apart_of d e es p unique is =
        laws.symm e.0 d.0 ∙ all_at (λ k. eq d.0 k ≡ false) es p e (IsDistinct-head eq d.0 (keys_of es) unique) is

    lookup-put : (es : List (K × Share W)) (p : ℕ) (w : Share W) (e : K × Share W) → IsDistinct eq (keys_of es) → slice_get es p ≡ Some e → (q : K)
        → lookup (eq q) (set_value_at es p w) ≡ cond (eq e.0 q) (Some w) (lookup (eq q) es)
    lookup-put [] p w e unique is q = absurd (cc)
    lookup-put (d ∷ es) zero w e unique is q =
        let same : d ≡ e = cc in
        let turned : eq e.0 q ≡ eq q d.0 = laws.symm e.0 q ∙ ap (λ (x : K × Share W). eq q x.0) (sym same) in
        here (eq q d.0) ∙ ap (λ b. cond b (Some w) (cond (eq q d.0) (Some d.1) (lookup (eq q) es))) (sym turned)
      where
        here : (b : Bool) → cond b (Some w) (lookup (eq q) es) ≡ cond b (Some w) (cond b (Some d.1) (lookup (eq q) es))
        here true = refl
        here false = refl
    lookup-put (d ∷ es) (suc p) w e unique is q =
        ap (cond (eq q d.0) (Some d.1)) (lookup-put es p w e (IsDistinct-tail eq d.0 (keys_of es) unique) is q) ∙ by_test (eq e.0 q) refl
      where
        by_test : (b : Bool) → eq e.0 q ≡ b → cond (eq q d.0) (Some d.1) (cond b (Some w) (lookup (eq q) es)) ≡ cond b (Some w) (cond (eq q d.0) (Some d.1) (lookup (eq q) es))
        by_test true same = ap (λ b. cond b (Some d.1) (Some w)) (sym (laws.congr e.0 q d.0 same) ∙ apart_of d e es p unique is)
        by_test false differs = refl

    unwrap_cond : (b : Bool) (w : Share W) (o : Option (Share W)) → unwrap_or (cond b (Some w) o) new_share ≡ cond b w (unwrap_or o new_share)
    unwrap_cond true w o = refl
    unwrap_cond false w o = refl

    -- a group is put into the place of another
    pub sets_put : (es : List (K × Share W)) (p : ℕ) (w : Share W) (k : K) → IsDistinct eq (keys_of es) → StandsAt eq es p k → Sets eq es (set_value_at es p w) k w
    sets_put es p w k unique stands =
        let had : share_in eq es k ≡ stands.0.1 = ap (λ o. unwrap_or o new_share) (share_at es p k stands unique) in record {
          shares = λ other.
              ap (λ o. unwrap_or o new_share) (lookup-put es p w stands.0 unique stands.1 other)
              ∙ unwrap_cond (eq stands.0.0 other) w (lookup (eq other) es)
              ∙ ap (λ b. cond b w (share_in eq es other)) (sym (laws.congr k stands.0.0 other stands.2));
          held = ap (λ s. held_in (set_value_at es p w) + held_of s) had ∙ sum-put held_of es p w stands.0 stands.1;
          waiting = ap (λ s. waiting_in (set_value_at es p w) + waiting_of s) had ∙ sum-put waiting_of es p w stands.0 stands.1;
        }

    pub stands_put : (es : List (K × Share W)) (p : ℕ) (w : Share W) (k : K) → StandsAt eq es p k → StandsAt eq (set_value_at es p w) p k
    stands_put es p w k stands = ((stands.0.0, w), get-put es p w stands.0 stands.1, stands.2)

    -- a group of which nothing is left goes
    pub alike_gone : (es fs : List (K × Share W)) (p : ℕ) (e : K × Share W) → slice_get es p ≡ Some e → e.1 ≡ new_share → fs ≡ swap_remove es p e → lookup (eq e.0) es ≡ Some e.1
        → ((q : K) → lookup (eq q) fs ≡ cond (eq e.0 q) None (lookup (eq q) es)) → IsAlike eq es fs
    alike_gone es fs p e is idle moved found looks =
        let within : p < length es = slice_get_within es p e is in
        let at : get_or es p e ≡ e = get_or_from_slice_get es p e e is in
        let no_permit : held_of (get_or es p e).1 ≡ 0 = ap (λ x. held_of x.1) at ∙ ap held_of idle ∙ new_holds W in
        let nobody : waiting_of (get_or es p e).1 ≡ 0 = ap (λ x. waiting_of x.1) at ∙ ap waiting_of idle ∙ len-empty nat_cmp W in
        let sums : (f : Share W → ℕ) → sum_by {X = K × Share W} (λ x. f x.1) (swap_remove es p e) + f (get_or es p e).1 ≡ sum_by {X = K × Share W} (λ x. f x.1) es = λ f. sum_by-swap_remove {X = K × Share W} (λ x. f x.1) es p e within in
        let h = sums held_of in
        let w = sums waiting_of in
        record {
          shares = λ k. ap (λ o. unwrap_or o new_share) (looks k) ∙ by_test k (eq e.0 k) refl;
          held = ap held_in moved ∙ omega (arith, h, no_permit);
          waiting = ap waiting_in moved ∙ omega (arith, w, nobody);
        }
      where
        by_test : (k : K) (b : Bool) → eq e.0 k ≡ b → unwrap_or (cond b None (lookup (eq k) es)) new_share ≡ share_in eq es k
        by_test k true same =
            sym idle ∙ sym (ap (λ o. unwrap_or o new_share) found) ∙ share_alike es e.0 k same
        by_test k false differs = refl

    -- a group is added for a key that had none
    pub sets_added : (es fs : List (K × Share W)) (k : K) (s : Share W) → lookup (eq k) es ≡ None → fs ≡ es ++ (k, s) ∷ []
        → ((q : K) → lookup (eq q) fs ≡ cond (eq k q) (Some s) (lookup (eq q) es)) → Sets eq es fs k s
    sets_added es fs k s none added looks =
        let had : share_in eq es k ≡ new_share = ap (λ o. unwrap_or o new_share) none in
        let no_permit : held_of (share_in eq es k) ≡ 0 = ap held_of had ∙ new_holds W in
        let nobody : waiting_of (share_in eq es k) ≡ 0 = ap waiting_of had ∙ len-empty nat_cmp W in
        let h : held_in fs ≡ held_in es + held_of s = ap held_in added ∙ sum_by_push {X = K × Share W} (λ x. held_of x.1) es (k, s) in
        let w : waiting_in fs ≡ waiting_in es + waiting_of s = ap waiting_in added ∙ sum_by_push {X = K × Share W} (λ x. waiting_of x.1) es (k, s) in
        record {
          shares = λ other. ap (λ o. unwrap_or o new_share) (looks other) ∙ unwrap_cond (eq k other) s (lookup (eq other) es);
          held = omega (arith, h, no_permit);
          waiting = omega (arith, w, nobody);
        }

    -- a change and then what leaves all alike is that change
    pub sets_alike : (es fs gs : List (K × Share W)) (k : K) (s : Share W) → Sets eq es fs k s → IsAlike eq fs gs → Sets eq es gs k s
    sets_alike es fs gs k s sets same = record {
      shares = λ other. same.shares other ∙ sets.shares other;
      held = omega (arith, same.held, sets.held);
      waiting = omega (arith, same.waiting, sets.waiting);
    }

    -- of two changes of one key the second counts
    pub sets_again : (es fs gs : List (K × Share W)) (k : K) (r s : Share W) → Sets eq es fs k r → Sets eq fs gs k s → Sets eq es gs k s
    sets_again es fs gs k r s first second =
        let now : share_in eq fs k ≡ r = first.shares k ∙ ap (λ b. cond b r (share_in eq es k)) (laws.refl k) in
        let held : held_of (share_in eq fs k) ≡ held_of r = ap held_of now in
        let waiting : waiting_of (share_in eq fs k) ≡ waiting_of r = ap waiting_of now in
        record {
          shares = λ other. second.shares other ∙ ap (cond (eq k other) s) (first.shares other) ∙ both (eq k other) (share_in eq es other);
          held = omega (arith, first.held, second.held, held);
          waiting = omega (arith, first.waiting, second.waiting, waiting);
        }
      where
        both : (b : Bool) (t : Share W) → cond b s (cond b r t) ≡ cond b s t
        both true t = refl
        both false t = refl
