-- of those that wait one is admitted first, as weights are above 0
use Rattle.std.proofs.Common.{◌≡◌, ℕ, ◌<◌, inl, inr, Bool, true, false, List, [], ◌∷◌, Option, Some, None, IsSome, unwrap_or, if◌then◌else◌, refl, ap, sym, subst, ◌∙◌}
use Rattle.std.specs.Ordering.{nat_cmp}
use Rattle.std.specs.FinMap.{get, len, empty, get-empty, len-empty}
use Rattle.mea_base.proofs.NamedMaps.{same_named}
use Rattle.mea_base.proofs.Totals.{total-zero}
use Rattle.mea_by_name.specs.ByName.{Names}
use Rattle.mea_share_core.specs.Share.{Share, new_share, held_of, waiting_of}
use Rattle.mea_share_core.specs.declared.rank.Rank.{Rank}
use Rattle.mea_share_core.specs.Rank.{NotBefore}
use Rattle.mea_share_core.proofs.Ranks.{not_itself, chain, not_left}
use Rattle.mea_share_model.specs.Next.{Shares, Waiter, share_at, waiting_in, waiters_in, goes_before, first_of, next_of}
use Rattle.mea_share_model.proofs.Waiting.{AllOf, Among, Waits, all_map, all_wait, none_of_all, first_found, waiter_there}

abbrev pub Weighs : Waiter → Type 0
Weighs a = 0 < a.share.weight

abbrev rank_of : (a : Waiter) → Weighs a → Rank
rank_of a some = record { held = held_of a.share; weight = a.share.weight; sequence = a.number; group = 0; positive = some }

itself : (a : Waiter) → Weighs a → goes_before a a ≡ false
itself a some = not_itself (Some (rank_of a some))

turns : (a b : Waiter) → Weighs a → Weighs b → goes_before b a ≡ true → goes_before a b ≡ false
turns a b first second is =
    subst (NotBefore (Some (rank_of a first))) (ap (λ t. if t then Some (rank_of b second) else Some (rank_of a first)) is) (not_left (Some (rank_of a first)) (Some (rank_of b second)))

chains : (a b c : Waiter) → Weighs a → Weighs b → Weighs c → goes_before a b ≡ false → goes_before b c ≡ false → goes_before a c ≡ false
chains a b c wa wb wc p q = chain (Some (rank_of a wa)) (Some (rank_of b wb)) (Some (rank_of c wc)) p q

-- none of those is admitted before this one of them
record Least (xs : List Waiter) : Type 0 where
  one : Waiter
  weighs : Weighs one
  among : Among xs one
  least : AllOf (λ b. goes_before b one ≡ false) xs

chained : (a c : Waiter) (xs : List Waiter) → Weighs a → Weighs c → goes_before c a ≡ false → AllOf Weighs xs → AllOf (λ b. goes_before b c ≡ false) xs → AllOf (λ b. goes_before b a ≡ false) xs
chained a c [] wa wc le all least = tt
chained a c (b ∷ bs) wa wc le all least = (chains b c a all.0 wc wa least.0 le, chained a c bs wa wc le all.1 least.1)

least_of : (a : Waiter) (xs : List Waiter) → Weighs a → AllOf Weighs xs → Least (a ∷ xs)
least_of a [] weighs all = record { one = a; weighs = weighs; among = inl refl; least = (itself a weighs, tt) }
least_of a (b ∷ bs) weighs all = chosen (least_of b bs all.0 all.1)
  where
    chosen : Least (b ∷ bs) → Least (a ∷ b ∷ bs)
    chosen rest = by_test (goes_before a rest.one) refl
      where
        by_test : (t : Bool) → goes_before a rest.one ≡ t → Least (a ∷ b ∷ bs)
        by_test true is = record {
          one = a;
          weighs = weighs;
          among = inl refl;
          least = (itself a weighs, chained a rest.one (b ∷ bs) weighs rest.weighs (turns rest.one a rest.weighs weighs is) all rest.least);
        }
        by_test false is = record { one = rest.one; weighs = rest.weighs; among = inr rest.among; least = (is, rest.least) }

-- with nobody first there is nobody
nobody : (xs : List Waiter) → AllOf Weighs xs → first_of xs xs ≡ None → (b : Waiter) → Among xs b → ⊥
nobody [] all none b among = among
nobody (a ∷ xs) all none b among =
    let c = least_of a xs all.0 all.1 in
    absurd (let some = first_found (a ∷ xs) (a ∷ xs) c.one c.among (none_of_all c.one (a ∷ xs) c.least) in no_one (first_of (a ∷ xs) (a ∷ xs)) some none)
  where
    no_one : (o : Option Waiter) → IsSome o → o ≡ None → ⊥
    no_one None some is = absurd (cc)
    no_one (Some c) some is = absurd (cc)

len_none : {X : Type 0} (m : Names X) → ((k : ℕ) (x : X) → get m k ≡ Some x → ⊥) → len m ≡ 0
len_none {X} m none = ap len (same_named m empty (λ q. at q (get m q) refl ∙ sym (get-empty nat_cmp q))) ∙ len-empty nat_cmp X
  where
    at : (q : ℕ) (o : Option X) → get m q ≡ o → get m q ≡ None
    at q None is = is
    at q (Some x) is = absurd (none q x is)

-- with nobody next nobody waits
pub nobody_waits : (m : Shares) → ((k : ℕ) → 0 < (share_at m k).weight) → next_of m ≡ None → waiting_in m ≡ 0
nobody_waits m weights none = total-zero (λ k (s : Share ℕ). waiting_of s) m (λ k s there. len_none s.waiting (λ n w is.
    nobody (waiters_in m) all none (record { key = k; share = s; number = n; waker = w }) (waiter_there m k s n w there is)))
  where
    all : AllOf Weighs (waiters_in m)
    all = all_map (Waits m) Weighs (waiters_in m) (λ a is. subst (λ s. 0 < s.weight) (ap (λ o. unwrap_or o new_share) is.share) (weights a.key)) (all_wait m)
