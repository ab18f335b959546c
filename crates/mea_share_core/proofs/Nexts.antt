-- who is next, by its rank
use Rattle.std.proofs.Common.{◌≡◌, ℕ, zero, suc, ◌*◌, ◌≤◌, inl, inr, Bool, false, List, [], ◌∷◌, length, slice_get, get_or, Option, Some, None, IsSome, IfSome, IfNone, unwrap_or, refl, ap, sym, subst, ◌∙◌, arith}
use Rattle.std.proofs.lemmas.Bool.{cases_lt}
use Rattle.std.proofs.lemmas.List.{get_or_past}
use Rattle.std.proofs.lemmas.List.Sums.{sum_by-cons}
use Rattle.std.specs.List.{IsDistinct}
use Rattle.std.specs.Cmp.{IsEquivalence}
use Rattle.std.specs.Map.{lookup, keys_of}
use Rattle.std.specs.FinMap as map
use Rattle.std.proofs.lemmas.Map.Entries.{place_from_lookup, lookup_from_place}
use Rattle.std.specs.Ordering.{nat_cmp}
use Rattle.mea_base.proofs.Maps.{nothing_there}
use Rattle.mea_share_core.specs.declared.rank.Rank.{Rank}
use Rattle.mea_share_core.specs.Rank.{is_before, NotBefore, IsNext}
use Rattle.mea_share_core.specs.Share.{Share, new_share, held_of, waiting_of, IsWaiting}
use Rattle.mea_share_core.specs.Groups.{waiting_in, IsRank, Ranks, AreRanked, share_in, IsBefore, Leads}
use Rattle.mea_share_core.proofs.Ranks.{reads}

-- past the leaves there is no rank
not_before : (leaves : List (Option Rank)) (r : Option Rank) → IsNext leaves r → (p : ℕ) → NotBefore (get_or leaves p None) r
not_before leaves r next p = elim (cases_lt p (length leaves)) as (λ _. NotBefore (get_or leaves p None) r) [
  | inl low ↦ next.first p low
  | inr high ↦ subst (λ o. NotBefore o r) (sym (get_or_past leaves p None high)) tt
]

none_before : (o : Option Rank) → NotBefore o None → o ≡ None
none_before None is = refl
none_before (Some r) is = absurd (cc)

-- a waiter is not before one whose rank its own is not before
not_earlier : {W : Type 0} (s t : Share W) (p q : ℕ) (a b : Rank) (m : ℕ) → IsRank p s a → IsRank q t b → IsWaiting s m → is_before a b ≡ false → IsBefore s m t b.sequence → ⊥
not_earlier s t p q a b m ranks leads waits is before =
    let first : a.sequence ≤ m = ranks.oldest.oldest m waits in
    let e1 : a.held * b.weight ≡ held_of s * t.weight = ap (λ n. n * b.weight) ranks.held ∙ ap (λ n. held_of s * n) leads.weight in
    let e2 : b.held * a.weight ≡ held_of t * s.weight = ap (λ n. n * a.weight) leads.held ∙ ap (λ n. held_of t * n) ranks.weight in
    let told = reads (a.held * b.weight) (b.held * a.weight) a.sequence b.sequence is in
    by_case before first e1 e2 told
  where
    by_case : IsBefore s m t b.sequence → a.sequence ≤ m → a.held * b.weight ≡ held_of s * t.weight → b.held * a.weight ≡ held_of t * s.weight
        → (b.held * a.weight ≤ a.held * b.weight) × (a.held * b.weight ≡ b.held * a.weight → b.sequence ≤ a.sequence) → ⊥
    by_case (inl less) first e1 e2 told = absurd (let le = told.0 in omega (arith, le, less, e1, e2))
    by_case (inr same) first e1 e2 told =
        let low = told.1 (e1 ∙ same.0 ∙ sym e2) in
        absurd (let later = same.1 in omega (arith, low, later, first))

module _ {K W : Type 0} where
  -- what has a rank is a group
  ranked_group : (p : ℕ) (o : Option (K × Share W)) (r : Rank) → Ranks p o (Some r) → (e : K × Share W) × (o ≡ Some e) × IsRank p e.1 r
  ranked_group p None r is = absurd (cc)
  ranked_group p (Some e) r is = (e, refl, is)

  -- a group of which someone waits has a rank
  waiting_rank : (p : ℕ) (e : K × Share W) (o : Option Rank) (m : ℕ) → IsWaiting e.1 m → Ranks p (Some e) o → (r : Rank) × (o ≡ Some r) × IsRank p e.1 r
  waiting_rank p e None m waits is = absurd (nothing_there W m (subst (λ w. IsSome (map.get w m)) is waits))
  waiting_rank p e (Some r) m waits is = (r, refl, is)

  none_waits : (es : List (K × Share W)) → ((p : ℕ) (e : K × Share W) → slice_get es p ≡ Some e → waiting_of e.1 ≡ 0) → waiting_in es ≡ 0
  none_waits [] all = refl
  none_waits (e ∷ es) all =
      let rest = none_waits es (λ p d is. all (suc p) d is) in
      let here = all zero e refl in
      omega (arith, sum_by-cons {X = K × Share W} (λ x. waiting_of x.1) e es, rest, here)

  pub nobody_next : (es : List (K × Share W)) (leaves : List (Option Rank)) → AreRanked es leaves → IsNext leaves None → waiting_in es ≡ 0
  nobody_next es leaves ranked next = none_waits es (λ p e is.
      let empty : e.1.waiting ≡ map.empty = subst (λ o. Ranks p (Some e) o) (none_before (get_or leaves p None) (not_before leaves None next p)) (subst (λ o. Ranks p o (get_or leaves p None)) is (ranked p)) in
      ap map.len empty ∙ map.len-empty nat_cmp W)

  module _ (eq : K → K → Bool) (laws : IsEquivalence eq) where
    pub leads : (es : List (K × Share W)) (leaves : List (Option Rank)) (r : Rank) → AreRanked es leaves → IsNext leaves (Some r)
        → IsDistinct eq (keys_of es) → Leads eq es r
    leads es leaves r ranked next unique =
        let place = next.there refl in
        let p = place.0 in
        let group = ranked_group p (slice_get es p) r (subst (λ o. Ranks p (slice_get es p) o) place.2 (ranked p)) in
        let e = group.0 in
        let rank : IsRank p e.1 r = group.2 in
        let has : share_in eq es e.0 ≡ e.1 = ap (λ o. unwrap_or o new_share) (lookup_from_place laws es p e.0 e.1 unique group.1) in
        record {
          key = e.0;
          stands = (e, ap (slice_get es) rank.group ∙ group.1, laws.refl e.0);
          next = record {
            waits = subst (λ s. IsWaiting s r.sequence) (sym has) rank.oldest.waits;
            least = λ other m waits. subst (λ s. ¬ (IsBefore (share_in eq es other) m s r.sequence)) (sym has) (not_less e.1 p rank other m (lookup (eq other) es) refl waits);
          };
        }
      where
        not_less : (s : Share W) (p : ℕ) → IsRank p s r → (other : K) (m : ℕ) (o : Option (Share W)) → lookup (eq other) es ≡ o → IsWaiting (unwrap_or o new_share) m
            → ¬ (IsBefore (unwrap_or o new_share) m s r.sequence)
        not_less s p rank other m None none waits = absurd (nothing_there W m waits)
        not_less s p rank other m (Some t) some waits =
            let found = place_from_lookup (eq other) es t some in
            let q = found.0 in
            let theirs = waiting_rank q (found.1, t) (get_or leaves q None) m waits (subst (λ o. Ranks q o (get_or leaves q None)) found.2 (ranked q)) in
            let not : is_before theirs.0 r ≡ false = subst (λ o. NotBefore o (Some r)) theirs.1 (not_before leaves (Some r) next q) in
            not_earlier t s q p theirs.0 r m theirs.2 rank waits not

    -- as the call leaves it
    pub led : (es now : List (K × Share W)) (leaves : List (Option Rank)) (o : Option Rank) → es ≡ now → AreRanked es leaves → IsNext leaves o → IsDistinct eq (keys_of es)
        → IfSome o (λ r. Leads eq now r)
    led es now leaves None view ranked next unique = tt
    led es now leaves (Some r) view ranked next unique = subst (λ xs. Leads eq xs r) view (leads es leaves r ranked next unique)

  pub led_none : (es now : List (K × Share W)) (leaves : List (Option Rank)) (o : Option Rank) → es ≡ now → AreRanked es leaves → IsNext leaves o → IfNone o (waiting_in now ≡ 0)
  led_none es now leaves None view ranked next = sym (ap waiting_in view) ∙ nobody_next es leaves ranked next
  led_none es now leaves (Some r) view ranked next = tt
