-- what each action changes: one barrier and one future at the most
use Rattle.std.proofs.Common.{◌≡◌, ℕ, true, cond, [], Option, Some, None, refl, ap, sym, ◌∙◌, arith}
use Rattle.std.specs.FinMap.{get, remove}
use Rattle.std.proofs.lemmas.Bool.{eqb-true, eq-eqb}
use Rattle.mea_base.proofs.Maps.{get-gone}
use Rattle.mea_family.specs.Family.{Outcome, quietly}
use Rattle.mea_family.specs.declared.answer.Answer.TheVariants as answers
use Rattle.mea_by_name.proofs.Cases.{by_found, by_if}
use Rattle.mea_by_name.proofs.Own.{own-nothing, gone_none}
use Rattle.mea_by_name.proofs.NamedQueues.{local_registering, local_drained}
use Rattle.mea_by_name.proofs.OneObject.{Goes, Same, Put, Made, Gone, Kept, Begun, Turned, Ended, None_is, Polled, Ends, Counted, goes_counted}
use Rattle.mea_meet_model.specs.Barriers as barriers
use Rattle.mea_meet_model.specs.Barriers.{Barriers, Barrier, BarrierWait, new_barrier, is_barrier, waits_of, queue_of, of_wait, leads, has_completed}
use Rattle.mea_meet_model.specs.BarrierActions.{BarrierAction, Make, Begin, Poll, End, Drop, cause_at, act_at, polled_at, ends_at, registers_at}
use Rattle.mea_family.proofs.Refusals.{not_borrowed}
use Rattle.mea_family.proofs.Causes.{known}

module _ (h : Barriers) (i : ℕ) (a : BarrierAction) where
  abbrev pub GoesTo : ℕ → Outcome Barriers → Type 0
  GoesTo extra o = Goes queue_of of_wait h.barriers h.waits (cause_at h a ≡ None) (polled_at a) (ends_at a) i extra o.hall.barriers o.hall.waits o.wakes

  still : ((f : ℕ) → ends_at a f ≡ true → ⊥) → (extra : ℕ) → GoesTo extra (quietly h answers.Done)
  still none extra = record { k = i; touches = None_is refl; objects = Same; futures = Kept; over = λ f is. absurd (none f is) }

  module _ (none : (f : ℕ) → ends_at a f ≡ true → ⊥) (f w : ℕ) (is : polled_at a f ≡ Some w) (x : BarrierWait) (future : get h.waits f ≡ Some x) (r : Barrier) (there : get h.barriers x.barrier ≡ Some r) where
    polls : (o : Option ℕ) → GoesTo 1 (barriers.poll_at h f w x r o)
    polls None = by_if (GoesTo 1) (leads r) _ _
        (λ leads. record { k = f; touches = Polled w is; objects = Put x.barrier r _ _ 0 there (local_drained r.waiting f) (omega arith); futures = Ended; over = λ f is. absurd (none f is) })
        (λ follows. record { k = f; touches = Polled w is; objects = Put x.barrier r _ [] 1 there (local_registering r.waiting f w) (omega arith); futures = Turned x _ future refl; over = λ f is. absurd (none f is) })
    polls (Some round) = by_if (GoesTo 1) (has_completed r round) _ _
        (λ over. record { k = f; touches = Polled w is; objects = Same; futures = Ended; over = λ f is. absurd (none f is) })
        (λ runs. record { k = f; touches = Polled w is; objects = Put x.barrier r _ [] 1 there (local_registering r.waiting f w) (omega arith); futures = Kept; over = λ f is. absurd (none f is) })

pub goes : (h : Barriers) (i : ℕ) (a : BarrierAction) → GoesTo h i a (cond (registers_at a) 1 0) (act_at h i a)
goes h i (Make n) = record { k = i; touches = None_is refl; objects = Made (new_barrier n) refl; futures = Kept; over = λ f is. absurd (cc) }
goes h i (Begin b) = record { k = i; touches = None_is refl; objects = Same; futures = Begun _ (known (is_barrier h b)); over = λ f is. absurd (cc) }
goes h i (Poll f w) = by_found (GoesTo h i (Poll f w) 1) (get h.waits f) h _ (still h i (Poll f w) (λ f is. absurd (cc)) 1) (λ x future. by_found (GoesTo h i (Poll f w) 1) (get h.barriers x.barrier) h _ (still h i (Poll f w) (λ f is. absurd (cc)) 1)
    (λ r there. polls h i (Poll f w) (λ f is. absurd (cc)) f w (ap (λ b. cond b (Some w) None) (eq-eqb f f refl)) x future r there x.round))
goes h i (End k) = record { k = k; touches = Ends (eq-eqb k k refl); objects = Same; futures = Ended; over = λ f is. ap (get (remove h.waits k)) (sym (eqb-true k f is)) ∙ get-gone h.waits k }
goes h i (Drop b) = at (get h.barriers b) refl
  where
    at : (o : Option Barrier) → get h.barriers b ≡ o → GoesTo h i (Drop b) 0 (barriers.drop h b)
    at None absent = rw (gone_none h.barriers b absent) (record { k = i; touches = None_is refl; objects = Same; futures = Kept; over = λ f is. absurd (cc) })
    at (Some r) there = record {
      k = i;
      touches = None_is refl;
      objects = Gone b r [] there (omega arith) (λ allowed f x apart is. own-nothing of_wait b h.waits (not_borrowed (is_barrier h b) (waits_of h b) allowed) f x is);
      futures = Kept;
      over = λ f is. absurd (cc);
    }

pub barriers_counted : (h : Barriers) (i : ℕ) (a : BarrierAction) → Counted queue_of h.barriers (act_at h i a).hall.barriers (act_at h i a).wakes (cond (registers_at a) 1 0)
barriers_counted h i a = goes_counted queue_of of_wait h.barriers h.waits _ _ _ i _ _ _ _ (goes h i a)
