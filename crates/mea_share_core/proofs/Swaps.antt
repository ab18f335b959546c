-- what is lifted from a place and put there, as the calls leave it
use Rattle.std.proofs.Common.{◌≡◌, ℕ, ◌+◌, ◌<◌, ◌≤◌, inl, inr, Bool, true, cond, ◌-◌, List, [], ◌∷◌, ◌++◌, length, slice_get, swap_remove, get_or, set, Option, Some, None, unwrap_or, refl, ap, sym, subst, ◌∙◌, arith}
use Rattle.std.proofs.lemmas.List.{length-append}
use Rattle.std.proofs.lemmas.Option.{slice_get_within}
use Rattle.std.specs.Option.{option_copied_mut}
use Rattle.std.specs.Borrow.{MutBor}
use Rattle.std.proofs.lemmas.Bool.{cases_eq}
use Rattle.std.specs.List.{IsDistinct}
use Rattle.std.specs.Cmp.{IsEquivalence}
use Rattle.std.specs.Map.{lookup, keys_of, values_of}
use Rattle.indexmap.specs.IndexMap.{set_value_at}
use Rattle.std.specs.Ordering.{nat_cmp}
use Rattle.std.specs.FinMap.{get, get-empty}
use Rattle.mea_base.proofs.Maps.{nothing_there}
use Rattle.mea_share_core.specs.declared.rank.Rank.{Rank}
use Rattle.mea_share_core.specs.Share.{Share, new_share, held_of, IsWaiting, IsAdmitted}
use Rattle.mea_share_core.specs.Groups.{held_in, share_in, IsAlike, Sets, StandsAt, Ranks, AreRanked, AreRankedBut}
use Rattle.mea_share_core.proofs.Entries.{sets_put, sets_alike, alike_gone, length-put, get-put, put-same, values-at, share_at, share_alike, sets_added, new_holds}
use Rattle.mea_share_core.proofs.Ranked.{ranked_put, ranked_gone, ranked_pushed, ranked_kept}

module _ {K W : Type 0} where
  -- a group is changed in its place
  pub put_within : (es now : List (K × Share W)) (p : ℕ) (r : Share W) → es ≡ now → p < length now → p < length (set_value_at es p r)
  put_within es now p r view within = omega (arith, length-put es p r, ap length view, within)

  pub put_room : (es : List (K × Share W)) (leaves : List (Option Rank)) (p : ℕ) (r : Share W) → length es ≤ length leaves → length (set_value_at es p r) ≤ length leaves
  put_room es leaves p r room = omega (arith, length-put es p r, room)

  pub put_ranks : (es : List (K × Share W)) (leaves : List (Option Rank)) (p : ℕ) (r : Share W) → AreRanked es leaves → AreRankedBut p (set_value_at es p r) leaves
  put_ranks es leaves p r ranked = ranked_put es leaves p r (λ q other. ranked q)

  -- its rank stays
  pub rank_stays : (es now : List (K × Share W)) (leaves : List (Option Rank)) (p : ℕ) (r : Share W) (e : K × Share W) → es ≡ now → AreRanked es leaves → slice_get now p ≡ Some e
      → ((o : Option Rank) → Ranks p (Some e) o → Ranks p (Some (e.0, r)) o) → AreRanked (set_value_at es p r) leaves
  rank_stays es now leaves p r e view ranked at stays = λ q. elim (cases_eq q p) as (λ _. Ranks q (slice_get (set_value_at es p r) q) (get_or leaves q None)) [
    | inl same ↦
        subst (λ j. Ranks j (slice_get (set_value_at es p r) j) (get_or leaves j None)) (sym same)
        (subst (λ o. Ranks p o (get_or leaves p None)) (sym (get-put es p r e here)) (stays (get_or leaves p None) (subst (λ o. Ranks p o (get_or leaves p None)) here (ranked p))))
    | inr other ↦ put_ranks es leaves p r ranked q other
  ]
    where
      here : slice_get es p ≡ Some e
      here = ap (λ xs. slice_get xs p) view ∙ at

  module _ (eq : K → K → Bool) (laws : IsEquivalence eq) where
    pub swapped_out : (es now : List (K × Share W)) (p : ℕ) (out : Share W) (k : K) → es ≡ now → IsDistinct eq (keys_of es) → slice_get (values_of es) p ≡ Some out → StandsAt eq now p k
        → out ≡ share_in eq now k
    swapped_out es now p out k view unique at stands =
        let here = subst (λ xs. StandsAt eq xs p k) (sym view) stands in
        values-at es p here.0 out here.1 at ∙ sym (ap (λ o. unwrap_or o new_share) (share_at eq laws es p k here unique)) ∙ ap (λ xs. share_in eq xs k) view

    -- what is lent is what the key has
    pub lent : (es now : List (K × Share W)) (p : ℕ) (o : Option (MutBor (Share W))) (b : MutBor (Share W)) (k : K) → es ≡ now → IsDistinct eq (keys_of es) → option_copied_mut o ≡ slice_get (values_of es) p → o ≡ Some b → StandsAt eq now p k
        → b.now ≡ share_in eq now k
    lent es now p o b k view unique value is stands = swapped_out es now p b.now k view unique (sym value ∙ ap option_copied_mut is) stands

    -- and stands there
    pub stands_share : (es now : List (K × Share W)) (p : ℕ) (k : K) → es ≡ now → IsDistinct eq (keys_of es) → (stands : StandsAt eq now p k) → share_in eq now k ≡ stands.0.1
    stands_share es now p k view unique stands =
        let here = subst (λ xs. StandsAt eq xs p k) (sym view) stands in
        let same : here.0 ≡ stands.0 = at here.0 stands.0 here.1 stands.1 in
        sym (ap (λ xs. share_in eq xs k) view) ∙ ap (λ o. unwrap_or o new_share) (share_at eq laws es p k here unique) ∙ ap (λ e. e.1) same
      where
        at : (d e : K × Share W) → slice_get es p ≡ Some d → slice_get now p ≡ Some e → d ≡ e
        at d e first second = let alike = ap (λ xs. slice_get xs p) view in cc

    pub put_sets : (es now : List (K × Share W)) (p : ℕ) (r w : Share W) (k : K) → es ≡ now → r ≡ w → IsDistinct eq (keys_of es) → StandsAt eq now p k → Sets eq now (set_value_at es p r) k w
    put_sets es now p r w k view new unique stands =
        subst (λ xs. Sets eq xs (set_value_at es p r) k w) view
        (subst (λ s. Sets eq es (set_value_at es p r) k s) new (sets_put eq laws es p r k unique (subst (λ xs. StandsAt eq xs p k) (sym view) stands)))

    -- what a key holds is of what all hold
    pub share_held : (es now : List (K × Share W)) (p : ℕ) (k : K) → es ≡ now → IsDistinct eq (keys_of es) → StandsAt eq now p k → held_of (share_in eq now k) ≤ held_in now
    share_held es now p k view unique stands =
        let sets = put_sets es now p new_share new_share k view refl unique stands in
        omega (arith, sets.held, new_holds W)

    pub alike_same : (es now fs : List (K × Share W)) → es ≡ now → fs ≡ es → IsAlike eq now fs
    alike_same es now fs view is = subst (λ xs. IsAlike eq now xs) (sym (is ∙ view)) (record { shares = λ k. refl; held = refl; waiting = refl })

    -- and then its rank is set
    pub settled : (es now gs : List (K × Share W)) (p : ℕ) (r w : Share W) (k : K) → es ≡ now → r ≡ w → IsDistinct eq (keys_of es) → StandsAt eq now p k → IsAlike eq (set_value_at es p r) gs → Sets eq now gs k w
    settled es now gs p r w k view new unique stands same = sets_alike eq laws now (set_value_at es p r) gs k w (put_sets es now p r w k view new unique stands) same

    -- what is put where it is
    pub put_same : (es now : List (K × Share W)) (p : ℕ) (r : Share W) (k : K) → es ≡ now → r ≡ share_in eq now k → IsDistinct eq (keys_of es) → StandsAt eq now p k → set_value_at es p r ≡ es
    put_same es now p r k view is unique stands =
        let here = subst (λ xs. StandsAt eq xs p k) (sym view) stands in
        put-same es p here.0 r here.1 (is ∙ sym (ap (λ xs. share_in eq xs k) view) ∙ ap (λ o. unwrap_or o new_share) (share_at eq laws es p k here unique))

    -- a group of which nothing is left goes
    pub dropped : (es fs : List (K × Share W)) (leaves after : List (Option Rank)) (p : ℕ) (e d : K × Share W) → slice_get es p ≡ Some d → Some e ≡ slice_get es p → d.1 ≡ new_share
        → lookup (eq d.0) es ≡ Some d.1 → fs ≡ swap_remove es p e → ((q : K) → lookup (eq q) fs ≡ cond (eq e.0 q) None (lookup (eq q) es)) → IsAlike eq es fs
    dropped es fs leaves after p e d is at idle found moved looks =
        let same : d ≡ e = cc in
        alike_gone eq laws es fs p e (sym at) (ap (λ x. x.1) (sym same) ∙ idle) moved (subst (λ (x : K × Share W). lookup (eq x.0) es ≡ Some x.1) same found) looks

    -- what a look at a place tells
    pub seen_at : (es now : List (K × Share W)) (p : ℕ) (k j : K) (s : Share W) → es ≡ now → Some (j, s) ≡ slice_get es p → lookup (eq j) es ≡ Some s → StandsAt eq now p k → s ≡ share_in eq now k
    seen_at es now p k j s view at found stands =
        let here = subst (λ xs. StandsAt eq xs p k) (sym view) stands in
        let there : slice_get es p ≡ Some here.0 = here.1 in
        let same : here.0 ≡ (j, s) = cc in
        let alike : eq k j ≡ true = subst (λ (x : K × Share W). eq k x.0 ≡ true) same here.2 in
        sym (ap (λ o. unwrap_or o new_share) found) ∙ sym (share_alike eq laws es k j alike) ∙ ap (λ xs. share_in eq xs k) view

    pub found_at : (es now : List (K × Share W)) (p : ℕ) (k j : K) (s : Share W) → es ≡ now → slice_get es p ≡ Some (j, s) → eq k j ≡ true → StandsAt eq now p k
    found_at es now p k j s view at alike = subst (λ xs. StandsAt eq xs p k) view ((j, s), at, alike)

    -- a group is added
    pub added_sets : (es now fs : List (K × Share W)) (k : K) (s : Share W) → es ≡ now → lookup (eq k) now ≡ None → fs ≡ es ++ (k, s) ∷ []
        → ((q : K) → lookup (eq q) fs ≡ cond (eq k q) (Some s) (lookup (eq q) es)) → Sets eq now fs k s
    added_sets es now fs k s view none added looks =
        subst (λ xs. Sets eq xs fs k s) view (sets_added eq laws es fs k s (ap (lookup (eq k)) view ∙ none) added looks)

    -- of a key with no group nothing waits, was admitted or lives
    absent : (es : List (K × Share W)) (k : K) → lookup (eq k) es ≡ None → share_in eq es k ≡ new_share
    absent es k none = ap (λ o. unwrap_or o new_share) none

    pub absent_get : (es : List (K × Share W)) (k : K) (n : ℕ) → lookup (eq k) es ≡ None → get (share_in eq es k).waiting n ≡ None
    absent_get es k n none = ap (λ s. get s.waiting n) (absent es k none) ∙ get-empty nat_cmp n

    pub absent_waits : (es : List (K × Share W)) (k : K) (n : ℕ) → lookup (eq k) es ≡ None → IsWaiting (share_in eq es k) n → ⊥
    absent_waits es k n none waits = nothing_there W n (subst (λ s. IsWaiting s n) (absent es k none) waits)

    pub absent_admitted : (es : List (K × Share W)) (k : K) (n : ℕ) → lookup (eq k) es ≡ None → IsAdmitted (share_in eq es k) n → ⊥
    absent_admitted es k n none was = nothing_there (Unit {0}) n (subst (λ s. IsAdmitted s n) (absent es k none) was)

    pub absent_living : (es : List (K × Share W)) (k : K) → lookup (eq k) es ≡ None → 0 < (share_in eq es k).living → ⊥
    absent_living es k none some = absurd (let is = ap (λ s. s.living) (absent es k none) in omega (arith, is, some))

    -- a group was made and added
    pub made : (es gs : List (K × Share W)) (k : K) (r s : Share W) (f : Share W → Share W) → lookup (eq k) es ≡ None → Sets eq es gs k r → r ≡ f s → s ≡ new_share → Sets eq es gs k (f (share_in eq es k))
    made es gs k r s f none sets is new = subst (λ t. Sets eq es gs k t) (is ∙ ap f (new ∙ sym (absent es k none))) sets

    pub stands_within : (es : List (K × Share W)) (p : ℕ) (k : K) → StandsAt eq es p k → p < length es
    stands_within es p k stands = slice_get_within es p stands.0 stands.1

  pub added_len : (es fs : List (K × Share W)) (e : K × Share W) → fs ≡ es ++ e ∷ [] → length fs ≡ length es + 1
  added_len es fs e added = omega (arith, ap length added, length-append es (e ∷ []))

  pub added_ranks : (es fs : List (K × Share W)) (e : K × Share W) (leaves wider after : List (Option Rank)) (r : Option Rank) → fs ≡ es ++ e ∷ [] → AreRanked es leaves
      → ((p : ℕ) → get_or wider p None ≡ get_or leaves p None) → Ranks (length es) (slice_get fs (length es)) r → after ≡ set wider (length es) r → length es < length wider → AreRanked fs after
  added_ranks es fs e leaves wider after r added ranked kept here set_is within =
      rw (set_is, added) (ranked_pushed es wider e r (ranked_kept es leaves wider ranked kept) (subst (λ xs. Ranks (length es) (slice_get xs (length es)) r) added here) within)

  pub dropped_ranks : (es fs : List (K × Share W)) (leaves after : List (Option Rank)) (p : ℕ) (e : K × Share W) → fs ≡ swap_remove es p e → length fs + 1 ≡ length es → after ≡ set leaves (length fs) None
      → AreRankedBut p es leaves → p < length es → length es ≤ length leaves → AreRankedBut p fs after
  dropped_ranks es fs leaves after p e moved fewer set_is ranked within room =
      let last : length fs ≡ length es - 1 = omega (arith, fewer) in
      rw (moved, set_is ∙ ap (λ n. set leaves n None) last) (ranked_gone es leaves p e ranked within room)
