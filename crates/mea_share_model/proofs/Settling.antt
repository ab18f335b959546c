-- while anyone waits no permit is free, after any event
use Rattle.std.proofs.Common.{◌≡◌, ℕ, ◌+◌, ◌<◌, ◌≤◌, ◌==◌, inl, inr, Bool, true, false, cond, Option, Some, None, sym, subst, refl, arith}
use Rattle.std.specs.Cmp.{nat_cmp_total}
use Rattle.std.specs.FinMap.{get, insert, len, len-remove}
use Rattle.std.proofs.lemmas.Bool.{eqb-true, eqb-false}
use Rattle.mea_family.specs.Family.{Outcome, IsRun, RunOf, Starts, Goes}
use Rattle.mea_base.proofs.Maps.{by_put, removed_there, nothing_at, inside, at-empty}
use Rattle.mea_base.proofs.Totals.{total-empty}
use Rattle.mea_by_name.specs.ByName.{Names}
use Rattle.mea_share_core.specs.Share.{Share, new_share, waiting_of, taken, queued, admitting}
use Rattle.mea_share_model.specs.Next.{Shares, Waiter, share_at, put_share, next_of}
use Rattle.mea_share_model.specs.Admissions as admissions
use Rattle.mea_share_model.specs.Admissions.{Admission, ShareHall, new_admission, with_share, passed, things_of}
use Rattle.mea_share_model.specs.Meaning.{meaning_of}
use Rattle.mea_share_model.specs.ShareFamily.{shares_family}
use Rattle.mea_share_model.specs.Settled.{IsSettled, AreSettled}
use Rattle.mea_share_model.proofs.Changes.{less-least}
use Rattle.mea_share_model.proofs.Waiting.{share_put, waiting_put}
use Rattle.mea_share_model.proofs.Least.{nobody_waits}
use Rattle.mea_share_model.proofs.Doing.{Turns, Same, Unnames, Takes, Queues, Sets, IsLeft, tidied_is, Does, Rests, Makes, Leaves, Gives, does}

-- weights are above 0, and it is settled
pub record IsWell (r : Admission) : Type 0 where
  pub weights : (k : ℕ) → 0 < (share_at r.shares k).weight
  pub settled : IsSettled r

abbrev pub AreWell : Names Admission → Type 0
AreWell rs = (o : ℕ) (r : Admission) → get rs o ≡ Some r → IsWell r

-- ---- one admission
put_weights : (m : Shares) (k : ℕ) (s : Share ℕ) → ((q : ℕ) → 0 < (share_at m q).weight) → 0 < s.weight → (q : ℕ) → 0 < (share_at (put_share m k s) q).weight
put_weights m k s weights some q = subst (λ t. 0 < t.weight) (sym (share_put m k s q)) (by_test (k == q))
  where
    by_test : (b : Bool) → 0 < (cond b s (share_at m q)).weight
    by_test true = some
    by_test false = weights q

-- a key has as many that wait, or fewer
put_well : (r : Admission) (k : ℕ) (s : Share ℕ) → IsWell r → 0 < s.weight → waiting_of s ≤ waiting_of (share_at r.shares k) → IsWell (with_share r k s)
put_well r k s well some few = record { weights = put_weights r.shares k s well.weights some; settled = at well.settled }
  where
    at : IsSettled r → IsSettled (with_share r k s)
    at (inl none) = inl none
    at (inr none) = inr (omega (arith, none, waiting_put r.shares k s, few))

-- a permit is taken, with one free
taken_well : (r : Admission) (k : ℕ) → IsWell r → (r.free == 0) ≡ false → IsWell (admissions.taken_for r k)
taken_well r k well some = record { weights = put_weights r.shares k (taken (share_at r.shares k)) well.weights (well.weights k); settled = at well.settled }
  where
    at : IsSettled r → IsSettled (admissions.taken_for r k)
    at (inl none) = absurd (eqb-false r.free 0 some none)
    at (inr none) = inr (omega (arith, none, waiting_put r.shares k (taken (share_at r.shares k))))

-- one begins to wait, with none free
queued_well : (r : Admission) (k w : ℕ) → IsWell r → (r.free == 0) ≡ true → IsWell (record (with_share r k (queued (share_at r.shares k) r.next w)) { next = r.next + 1 })
queued_well r k w well none = record {
  weights = put_weights r.shares k (queued (share_at r.shares k) r.next w) well.weights (well.weights k);
  settled = inl (eqb-true r.free 0 none);
}

passed_well : (r : Admission) (o : Option Waiter) → next_of r.shares ≡ o → IsWell r → IsWell (passed r o)
passed_well r None is well = record { weights = well.weights; settled = inr (nobody_waits r.shares well.weights is) }
passed_well r (Some a) is well =
    put_well r a.key (admitting (share_at r.shares a.key) a.number) well (well.weights a.key)
    (omega (arith, len-remove nat_cmp_total (share_at r.shares a.key).waiting a.number, less-least (get (share_at r.shares a.key).waiting a.number) (len (share_at r.shares a.key).waiting)))

gives_well : (r : Admission) (k : ℕ) (s : Share ℕ) → IsWell r → 0 < s.weight → waiting_of s ≤ waiting_of (share_at r.shares k) → IsWell (passed (with_share r k s) (next_of (with_share r k s).shares))
gives_well r k s well some few = passed_well (with_share r k s) (next_of (with_share r k s).shares) refl (put_well r k s well some few)

-- ---- all
module _ (extra : ℕ) (allowed : Type 0) (may : allowed) where
  turned_well : (r r' : Admission) → Turns extra allowed r r' → IsWell r → IsWell r'
  turned_well r _ Same well = well
  turned_well r _ Unnames well = record { weights = well.weights; settled = well.settled }
  turned_well r _ (Takes k some) well = taken_well r k well some
  turned_well r _ (Queues k w none more) well = queued_well r k w well none
  turned_well r _ (Sets k s weighs few) well = put_well r k s well (weighs may (well.weights k)) few

  module _ (h : ShareHall) (i : ℕ) (all : AreWell h.admissions) where
    put_all : (o : ℕ) (r : Admission) → IsWell r → AreWell (insert h.admissions o r)
    put_all o r well q t is = by_put h.admissions o r (λ q p. p ≡ Some t → IsWell t) (λ here. subst IsWell (inside here) well) (λ q apart there. all q t there) q is

    left_all : (o : ℕ) (r : Admission) (rs : Names Admission) → IsLeft h.admissions o r rs → IsWell r → AreWell rs
    left_all o r rs (inl is) well = subst AreWell (sym is) (put_all o r well)
    left_all o r rs (inr is) well = subst AreWell (sym is) (λ q t there. all q t (removed_there h.admissions o q t there))

    made : (n : ℕ) → IsWell (new_admission n)
    made n = record {
      weights = λ k. subst (λ s. 0 < s.weight) (sym (at-empty new_share k)) (omega arith);
      settled = inr (total-empty {X = Share ℕ} (λ k s. waiting_of s));
    }

    well_after : (out : Outcome ShareHall) → Does h i extra allowed out → AreWell out.hall.admissions
    well_after _ (Rests out same silent) = subst AreWell (sym same) all
    well_after _ (Makes n) = put_all i (new_admission n) (made n)
    well_after _ (Leaves o r r' out there turns left silent) = left_all o r' out.hall.admissions left (turned_well r r' turns (all o r there))
    well_after _ (Gives xs ps o r k s there weight waits) =
        let well = all o r there in
        let r1 = passed (with_share r k s) (next_of (with_share r k s).shares) in
        left_all o r1 _ (tidied_is h.admissions o r1 (things_of (record { admissions = h.admissions; futures = xs; permits = ps }) o))
        (gives_well r k s well (let some = well.weights k in omega (arith, some, weight)) (omega (arith, waits)))

-- ---- runs
pub well_reached : (run : RunOf shares_family) → IsRun shares_family run → AreWell run.hall.admissions
well_reached _ Starts = λ o r is. absurd (nothing_at Admission o r is)
well_reached _ (Goes r i e runs later none) = well_after _ _ none r.hall i (well_reached r runs) _ (does r.hall i (meaning_of e))

pub settled_reached : (run : RunOf shares_family) → IsRun shares_family run → AreSettled run.hall
settled_reached run runs o r is = (well_reached run runs o r is).settled
