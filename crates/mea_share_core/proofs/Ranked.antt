-- the ranks of groups, as one of them changes
use Rattle.std.proofs.Common.{◌≡◌, ℕ, ◌-◌, ◌<◌, ◌≤◌, inl, inr, cond, List, [], ◌∷◌, ◌++◌, length, nat_lt, slice_get, swap_remove, get_or, set, Option, Some, None, IsSome, refl, sym, subst, ◌∙◌, arith}
use Rattle.std.proofs.lemmas.Bool.{cases_lt, cases_eq, lt-ltb, le-ltb}
use Rattle.std.proofs.lemmas.Option.{slice_get_past}
use Rattle.std.proofs.lemmas.List.{get_or-set_same, get_or-set_other}
use Rattle.indexmap.specs.IndexMap.{set_value_at}
use Rattle.mea_share_core.specs.declared.rank.Rank.{Rank}
use Rattle.std.specs.FinMap as map
use Rattle.mea_base.proofs.Maps.{by_put, nothing_there}
use Rattle.mea_share_core.specs.Share.{Share, held_of, IsWaiting, queued}
use Rattle.mea_share_core.specs.Groups.{Ranks, AreRanked, AreRankedBut}
use Rattle.mea_share_core.proofs.Entries.{get-swap_remove, get-push, get-put_other}

module _ {K W : Type 0} where
  -- the rank at one place is set
  pub ranked_set : (es : List (K × Share W)) (leaves : List (Option Rank)) (p : ℕ) (r : Option Rank) → AreRankedBut p es leaves → Ranks p (slice_get es p) r → p < length leaves
      → AreRanked es (set leaves p r)
  ranked_set es leaves p r ranked here within = λ q. elim (cases_eq q p) as (λ _. Ranks q (slice_get es q) (get_or (set leaves p r) q None)) [
    | inl same ↦
        subst (λ j. Ranks j (slice_get es j) (get_or (set leaves p r) j None)) (sym same)
        (subst (λ o. Ranks p (slice_get es p) o) (sym (get_or-set_same leaves p r None within)) here)
    | inr other ↦ subst (λ o. Ranks q (slice_get es q) o) (sym (get_or-set_other leaves p q r None other)) (ranked q other)
  ]

  pub ranked_put : (es : List (K × Share W)) (leaves : List (Option Rank)) (p : ℕ) (w : Share W) → AreRankedBut p es leaves → AreRankedBut p (set_value_at es p w) leaves
  ranked_put es leaves p w ranked = λ q other. subst (λ o. Ranks q o (get_or leaves q None)) (sym (get-put_other es p q w other)) (ranked q other)

  -- a rank tells of a group that holds as much, has the same weight and the same that wait
  pub same_rank : (p : ℕ) (k : K) (s t : Share W) (o : Option Rank) → held_of t ≡ held_of s → t.weight ≡ s.weight → t.waiting ≡ s.waiting → Ranks p (Some (k, s)) o → Ranks p (Some (k, t)) o
  same_rank p k s t None held weight waiting is = waiting ∙ is
  same_rank p k s t (Some r) held weight waiting is = record {
    held = is.held ∙ sym held;
    weight = is.weight ∙ sym weight;
    group = is.group;
    oldest = record {
      waits = subst (λ m. IsSome (map.get m r.sequence)) (sym waiting) is.oldest.waits;
      oldest = λ n waits. is.oldest.oldest n (subst (λ m. IsSome (map.get m n)) waiting waits);
    };
  }

  -- and of one that has another waker
  pub again_rank : (p : ℕ) (k : K) (s : Share W) (n : ℕ) (w : W) (o : Option Rank) → IsWaiting s n → Ranks p (Some (k, s)) o → Ranks p (Some (k, queued s n w)) o
  again_rank p k s n w None waits is = absurd (nothing_there W n (subst (λ m. IsSome (map.get m n)) is waits))
  again_rank p k s n w (Some r) waits is = record {
    held = is.held;
    weight = is.weight;
    group = is.group;
    oldest = record {
      waits = by_put s.waiting n w (λ j o. IsSome (map.get s.waiting j) → IsSome o) (λ some. refl) (λ j apart some. some) r.sequence is.oldest.waits;
      oldest = λ m waiting. is.oldest.oldest m (by_put s.waiting n w (λ j o. IsSome o → IsSome (map.get s.waiting j)) (λ some. waits) (λ j apart some. some) m waiting);
    };
  }

  -- a group goes, and the last takes its place
  pub ranked_gone : (es : List (K × Share W)) (leaves : List (Option Rank)) (p : ℕ) (d : K × Share W) → AreRankedBut p es leaves → p < length es → length es ≤ length leaves
      → AreRankedBut p (swap_remove es p d) (set leaves (length es - 1) None)
  ranked_gone es leaves p d ranked within room = λ q other.
      subst (λ o. Ranks q o (get_or (set leaves (length es - 1) None) q None)) (sym (get-swap_remove es p q d other))
      (elim (cases_eq q (length es - 1)) as (λ _. Ranks q (cond (nat_lt q (length es - 1)) (slice_get es q) None) (get_or (set leaves (length es - 1) None) q None)) [
        | inl last ↦
            subst (λ b. Ranks q (cond b (slice_get es q) None) (get_or (set leaves (length es - 1) None) q None)) (sym (le-ltb q (length es - 1) (omega (arith, last))))
            (subst (λ j. get_or (set leaves (length es - 1) None) j None ≡ None) (sym last) (get_or-set_same leaves (length es - 1) None None (omega (arith, within, room))))
        | inr inner ↦
            subst (λ o. Ranks q (cond (nat_lt q (length es - 1)) (slice_get es q) None) o) (sym (get_or-set_other leaves (length es - 1) q None None inner))
            (elim (cases_lt q (length es - 1)) as (λ _. Ranks q (cond (nat_lt q (length es - 1)) (slice_get es q) None) (get_or leaves q None)) [
              | inl low ↦ subst (λ b. Ranks q (cond b (slice_get es q) None) (get_or leaves q None)) (sym (lt-ltb q (length es - 1) low)) (ranked q other)
              | inr high ↦
                  subst (λ b. Ranks q (cond b (slice_get es q) None) (get_or leaves q None)) (sym (le-ltb q (length es - 1) high))
                  (subst (λ o. Ranks q o (get_or leaves q None)) (slice_get_past es q (omega (arith, high, inner))) (ranked q other))
            ])
      ])

  -- a group is added
  pub ranked_pushed : (es : List (K × Share W)) (leaves : List (Option Rank)) (e : K × Share W) (r : Option Rank) → AreRanked es leaves
      → Ranks (length es) (slice_get (es ++ e ∷ []) (length es)) r → length es < length leaves → AreRanked (es ++ e ∷ []) (set leaves (length es) r)
  ranked_pushed es leaves e r ranked here within =
      ranked_set (es ++ e ∷ []) leaves (length es) r (λ q other. subst (λ o. Ranks q o (get_or leaves q None)) (sym (get-push es e q other)) (ranked q)) here within

  pub ranked_kept : (es : List (K × Share W)) (leaves wider : List (Option Rank)) → AreRanked es leaves → ((p : ℕ) → get_or wider p None ≡ get_or leaves p None) → AreRanked es wider
  ranked_kept es leaves wider ranked kept = λ p. subst (λ o. Ranks p (slice_get es p) o) (sym (kept p)) (ranked p)
