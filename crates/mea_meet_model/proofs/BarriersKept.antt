-- each action keeps what holds of barriers
use Rattle.std.proofs.Common.{◌≡◌, ℕ, ◌+◌, ◌*◌, ◌/◌, ◌<◌, ◌≤◌, false, [], Option, Some, None, IsSome, refl, ap, sym, subst, ◌∙◌, arith}
use Rattle.std.specs.FinMap.{get, insert, remove, empty}
use Rattle.std.proofs.lemmas.Bool.Decides.{nat_tests}
use Rattle.mea_base.proofs.Maps.{by_put, by_gone, inside, value_in, get-other, removed_there, nothing_at}
use Rattle.mea_base.proofs.Tests.{by_name}
use Rattle.mea_family.specs.Family.{Outcome, quietly}
use Rattle.mea_family.specs.declared.answer.Answer.TheVariants as answers
use Rattle.mea_family.proofs.Causes.{known}
use Rattle.mea_by_name.specs.ByName.{Names, AreHome}
use Rattle.mea_by_name.specs.NamedQueue.{waker_for, registering}
use Rattle.mea_by_name.proofs.Cases.{by_found, by_if}
use Rattle.mea_by_name.proofs.Own.{own-nothing}
use Rattle.mea_by_name.proofs.NamedQueues.{registering-other}
use Rattle.mea_meet_model.specs.Barriers as barriers
use Rattle.mea_meet_model.specs.Barriers.{Barriers, Barrier, BarrierWait, no_barriers, new_barrier, is_barrier, waits_of, of_wait, leads, has_completed}
use Rattle.mea_meet_model.specs.BarrierActions.{BarrierAction, Make, Begin, Poll, End, Drop, cause_at, act_at}
use Rattle.mea_meet_model.specs.Valid.{IsBarrier, HasBarriers}
use Rattle.mea_meet_model.proofs.CountsKept.{home_later, home_empty}
use Rattle.mea_family.proofs.Refusals.{not_borrowed}
use Rattle.mea_meet_model.proofs.Rounds.{same_round, the_round, has_begun}

pub barriers_empty : HasBarriers no_barriers 0
barriers_empty = record { each = λ b r is. absurd (nothing_at Barrier b r is); waits = home_empty of_wait empty 0 }

-- what is known of a barrier, under a later number, where no future came
fewer : (b : ℕ) (r : Barrier) (ws ws' : Names BarrierWait) (n m : ℕ) → IsBarrier b r ws n → n ≤ m → ((f : ℕ) (x : BarrierWait) → get ws' f ≡ Some x → get ws f ≡ Some x) → IsBarrier b r ws' m
fewer b r ws ws' n m is later old = record {
  below = let low = is.below in omega (arith, low, later);
  sized = is.sized;
  few = let low = is.few in omega (arith, low, later);
  begun = λ f x round has mine. is.begun f x round (old f x has) mine;
  named = λ f w has. let low = is.named f w has in omega (arith, low, later);
  in_round = λ f w x has lives. is.in_round f w x has (old f x lives);
}

pub barriers_later : (h : Barriers) (n m : ℕ) → HasBarriers h n → n ≤ m → HasBarriers h m
barriers_later h n m v later = record { each = λ b r is. fewer b r h.waits h.waits n m (v.each b r is) later (λ f x has. has); waits = home_later of_wait h.barriers h.waits n m v.waits later }

module _ (h : Barriers) (n i : ℕ) (v : HasBarriers h n) (later : n ≤ i) where
  abbrev Keeps : Outcome Barriers → Type 0
  Keeps o = HasBarriers o.hall (i + 1)

  still : Keeps (quietly h answers.Done)
  still = barriers_later h n (i + 1) v (omega (arith, later))

  -- a future is gone
  leaves : (f : ℕ) → HasBarriers (barriers.gone h f) (i + 1)
  leaves f = record {
    each = λ b r is. fewer b r h.waits (remove h.waits f) n (i + 1) (v.each b r is) (omega (arith, later)) (λ g x. removed_there h.waits f g x);
    waits = record { at = λ g x is. let home = v.waits.at g x (removed_there h.waits f g x is) in (omega (arith, home.0, later), home.1) };
  }

  makes : (k : ℕ) → Keeps (barriers.make h i k)
  makes k = record {
    each = by_put h.barriers i (new_barrier k) (λ b p. (r : Barrier) → p ≡ Some r → IsBarrier b r h.waits (i + 1))
        (λ r is. subst (λ r. IsBarrier i r h.waits (i + 1)) (inside is) (record {
          below = omega arith;
          sized = grind (arith, nat_tests);
          few = omega arith;
          begun = λ f x round lives mine. absurd (let home = (v.waits.at f x lives).1 in let some = value_in (get h.barriers x.barrier) home in let low = (v.each x.barrier some.0 some.1).below in omega (arith, low, mine, later));
          named = λ f w has. absurd (cc);
          in_round = λ f w x has. absurd (cc);
        }))
        (λ b apart r is. fewer b r h.waits h.waits n (i + 1) (v.each b r is) (omega (arith, later)) (λ f x has. has));
    waits = record { at = λ f x is. let home = v.waits.at f x is in (omega (arith, home.0, later), by_put h.barriers i (new_barrier k) (λ q p. IsSome (get h.barriers q) → IsSome p) (λ some. refl) (λ q apart some. some) x.barrier home.1) };
  }

  begins : (b : ℕ) → IsSome (get h.barriers b) → Keeps (barriers.begin h i b)
  begins b there = record {
    each = λ c r is. let was = v.each c r is in record {
      below = let low = was.below in omega (arith, low, later);
      sized = was.sized;
      few = let low = was.few in omega (arith, low, later);
      begun = λ f x round has mine arrived. by_put h.waits i (record { barrier = b; round = None }) (λ f p. p ≡ Some x → round * r.size ≤ r.arrivals)
          (λ new. absurd (let none = ap (λ (x : BarrierWait). x.round) (inside new) in cc)) (λ f apart had. was.begun f x round had mine arrived) f has;
      named = λ f w has. let low = was.named f w has in omega (arith, low, later);
      in_round = λ f w x has lives. was.in_round f w x has
          (sym (get-other h.waits i f (record { barrier = b; round = None }) (λ same. absurd (let low = was.named f w has in omega (arith, low, same, later)))) ∙ lives);
    };
    waits = record {
      at = by_put h.waits i (record { barrier = b; round = None }) (λ f p. (x : BarrierWait) → p ≡ Some x → (f < i + 1) × IsSome (get h.barriers x.barrier))
          (λ x is. (omega arith, subst (λ (x : BarrierWait). IsSome (get h.barriers x.barrier)) (inside is) there)) (λ f apart x is. let home = v.waits.at f x is in (omega (arith, home.0, later), home.1));
    };
  }

  drops : (b : ℕ) → waits_of h b ≡ 0 → Keeps (barriers.drop h b)
  drops b none = record {
    each = λ c r is. fewer c r h.waits h.waits n (i + 1) (v.each c r (removed_there h.barriers b c r is)) (omega (arith, later)) (λ f x has. has);
    waits = record {
      at = λ f x is. let home = v.waits.at f x is in (
        omega (arith, home.0, later),
        by_gone h.barriers b (λ q p. x.barrier ≡ q → IsSome (get h.barriers q) → IsSome p) (λ mine some. absurd (own-nothing of_wait b h.waits none f x is (sym mine))) (λ q apart mine some. some) x.barrier refl home.1,
      );
    };
  }

  -- ---- a poll of f, at its barrier
  module _ (f w : ℕ) (x : BarrierWait) (future : get h.waits f ≡ Some x) (r : Barrier) (there : get h.barriers x.barrier ≡ Some r) where
    its : IsBarrier x.barrier r h.waits n
    its = v.each x.barrier r there

    low_f : f < n
    low_f = (v.waits.at f x future).0

    -- the barrier is p now, and the futures are these, of which each was of its barrier before
    turned : (p : Barrier) (ws' : Names BarrierWait) → IsBarrier x.barrier p ws' (i + 1) → AreHome of_wait h.barriers ws' (i + 1) → ((g : ℕ) (y : BarrierWait) → (x.barrier ≡ y.barrier → ⊥) → get ws' g ≡ Some y → get h.waits g ≡ Some y)
        → ((g : ℕ) (y : BarrierWait) → get ws' g ≡ Some y → (z : BarrierWait) × (get h.waits g ≡ Some z) × (z.barrier ≡ y.barrier)) → HasBarriers (record { barriers = insert h.barriers x.barrier p; waits = ws' }) (i + 1)
    turned p ws' good home other old = record {
      each = by_put h.barriers x.barrier p (λ b q. (s : Barrier) → q ≡ Some s → IsBarrier b s ws' (i + 1)) (λ s is. subst (λ s. IsBarrier x.barrier s ws' (i + 1)) (inside is) good)
          (λ b apart s is. let was = v.each b s is in record {
            below = let low = was.below in omega (arith, low, later);
            sized = was.sized;
            few = let low = was.few in omega (arith, low, later);
            begun = λ g y round has mine arrived. was.begun g y round (other g y (λ same. apart (same ∙ mine)) has) mine arrived;
            named = λ g u has. let low = was.named g u has in omega (arith, low, later);
            in_round = λ g u y has lives.
                let z = old g y lives in
                let mine = (was.in_round g u z.0 has z.1).0 in
                was.in_round g u y has (other g y (λ same. apart (same ∙ sym z.2 ∙ mine)) lives);
          });
      waits = record { at = λ g y is. let it = home.at g y is in (it.0, by_put h.barriers x.barrier p (λ q t. IsSome (get h.barriers q) → IsSome t) (λ some. refl) (λ q apart some. some) y.barrier it.1) };
    }

    begun_still : (g : ℕ) (y : BarrierWait) (round : ℕ) → get h.waits g ≡ Some y → y.barrier ≡ x.barrier → y.round ≡ Some round → round * r.size ≤ r.arrivals + 1
    begun_still g y round is mine arrived = let few = its.begun g y round is mine arrived in omega (arith, few)

    leads_now : HasBarriers (barriers.leading h f x r).hall (i + 1)
    leads_now = turned (record r { arrivals = r.arrivals + 1; waiting = [] }) (remove h.waits f)
        (record {
          below = let low = its.below in omega (arith, low, later);
          sized = its.sized;
          few = let low = its.few in omega (arith, low, later);
          begun = λ g y round is. begun_still g y round (removed_there h.waits f g y is);
          named = λ g u has. absurd (cc);
          in_round = λ g u y has. absurd (cc);
        })
        (record { at = λ g y is. let home = v.waits.at g y (removed_there h.waits f g y is) in (omega (arith, home.0, later), home.1) })
        (λ g y apart is. removed_there h.waits f g y is) (λ g y is. (y, removed_there h.waits f g y is, refl))

    named_after : (g u : ℕ) → waker_for (registering r.waiting f w) g ≡ Some u → g < i + 1
    named_after g u has = by_name f g (λ same. let low = low_f in omega (arith, low, same, later)) (λ apart. let low = its.named g u (sym (registering-other r.waiting f w g apart) ∙ has) in omega (arith, low, later))

    joins_now : leads r ≡ false → HasBarriers (barriers.joining h f w x r).hall (i + 1)
    joins_now follows =
        let z : BarrierWait = record x { round = Some (r.arrivals / r.size) } in
        let round : (r.arrivals + 1) / r.size ≡ r.arrivals / r.size = same_round r.size r.arrivals its.sized follows in
        turned (record r { arrivals = r.arrivals + 1; waiting = registering r.waiting f w }) (insert h.waits f z)
        (record {
          below = let low = its.below in omega (arith, low, later);
          sized = its.sized;
          few = let low = its.few in omega (arith, low, later);
          begun = λ g y k is mine arrived. by_put h.waits f z (λ g p. p ≡ Some y → k * r.size ≤ r.arrivals + 1)
              (λ here. let same : r.arrivals / r.size ≡ k = inside (ap (λ (x : BarrierWait). x.round) (inside here) ∙ arrived) in
              subst (λ k. k * r.size ≤ r.arrivals + 1) same (let few = has_begun r.size r.arrivals in omega (arith, few)))
              (λ g apart had. begun_still g y k had mine arrived) g is;
          named = named_after;
          in_round = λ g u y has. by_put h.waits f z (λ j p. g ≡ j → p ≡ Some y → (y.barrier ≡ x.barrier) × (y.round ≡ Some ((r.arrivals + 1) / r.size)))
              (λ me here. (sym (ap (λ (x : BarrierWait). x.barrier) (inside here)), sym (ap (λ (x : BarrierWait). x.round) (inside here)) ∙ ap (λ k. Some k) (sym round)))
              (λ j apart me had. let was = its.in_round j u y (sym (registering-other r.waiting f w j apart) ∙ ap (waker_for (registering r.waiting f w)) (sym me) ∙ has) had in (was.0, was.1 ∙ ap (λ k. Some k) (sym round)))
              g refl;
        })
        (record {
          at = by_put h.waits f z (λ g p. (y : BarrierWait) → p ≡ Some y → (g < i + 1) × IsSome (get h.barriers y.barrier))
              (λ y is. (let low = low_f in omega (arith, low, later), subst (λ (y : BarrierWait). IsSome (get h.barriers y.barrier)) (inside is) (v.waits.at f x future).1))
              (λ g apart y is. let home = v.waits.at g y is in (omega (arith, home.0, later), home.1));
        })
        (λ g y differs. by_put h.waits f z (λ g p. p ≡ Some y → get h.waits g ≡ Some y) (λ is. absurd (differs (ap (λ (x : BarrierWait). x.barrier) (inside is)))) (λ g apart is. is) g)
        (λ g y. by_put h.waits f z (λ g p. p ≡ Some y → (z : BarrierWait) × (get h.waits g ≡ Some z) × (z.barrier ≡ y.barrier)) (λ is. (x, future, ap (λ (x : BarrierWait). x.barrier) (inside is))) (λ g apart is. (y, is, refl)) g)

    waits_on : (round : ℕ) → x.round ≡ Some round → has_completed r round ≡ false → HasBarriers (barriers.waiting_on h f w x r).hall (i + 1)
    waits_on round arrived runs =
        let this : r.arrivals / r.size ≡ round = the_round r.size round r.arrivals (its.begun f x round future refl arrived) runs in
        turned (record r { waiting = registering r.waiting f w }) h.waits
        (record {
          below = let low = its.below in omega (arith, low, later);
          sized = its.sized;
          few = let low = its.few in omega (arith, low, later);
          begun = its.begun;
          named = named_after;
          in_round = λ g u y has lives. by_name f g
              (λ same. let mine : x ≡ y = inside (sym future ∙ ap (get h.waits) same ∙ lives) in (sym (ap (λ (x : BarrierWait). x.barrier) mine), sym (ap (λ (x : BarrierWait). x.round) mine) ∙ arrived ∙ ap (λ k. Some k) (sym this)))
              (λ apart. its.in_round g u y (sym (registering-other r.waiting f w g apart) ∙ has) lives);
        })
        (home_later of_wait h.barriers h.waits n (i + 1) v.waits (omega (arith, later))) (λ g y differs is. is) (λ g y is. (y, is, refl))

    polls : (o : Option ℕ) → x.round ≡ o → Keeps (barriers.poll_at h f w x r o)
    polls None new = by_if Keeps (leads r) _ _ (λ leads. leads_now) joins_now
    polls (Some round) arrived = by_if Keeps (has_completed r round) _ _ (λ over. leaves f) (waits_on round arrived)

  pub keeps : (a : BarrierAction) → cause_at h a ≡ None → Keeps (act_at h i a)
  keeps (Make k) allowed = makes k
  keeps (Begin b) allowed = begins b (known (is_barrier h b) allowed)
  keeps (Poll f w) allowed = by_found Keeps (get h.waits f) h _ still (λ x future. by_found Keeps (get h.barriers x.barrier) h _ still (λ r there. polls f w x future r there x.round refl))
  keeps (End f) allowed = leaves f
  keeps (Drop b) allowed = drops b (not_borrowed (is_barrier h b) (waits_of h b) allowed)
