-- who waits at barriers, and what an action makes of it
use Rattle.std.proofs.Common.{◌≡◌, ℕ, ◌+◌, ◌/◌, ◌≤◌, ◌==◌, Option, Some, None, is_some, ap, sym, subst, ◌∙◌}
use Rattle.std.specs.FinMap.{get, insert}
use Rattle.std.proofs.lemmas.Bool.{eqb-true}
use Rattle.std.proofs.lemmas.Option.{cond_some}
use Rattle.mea_base.proofs.Maps.{value_in, get-there}
use Rattle.mea_family.specs.Family.{Outcome}
use Rattle.mea_family.specs.Play.{found}
use Rattle.mea_family.specs.declared.answer.Answer.TheVariants as answers
use Rattle.mea_by_name.specs.NamedQueue.{registering}
use Rattle.mea_by_name.proofs.Cases.{by_found, by_if, found_is, if_false}
use Rattle.mea_by_name.proofs.NamedQueues.{registering-there}
use Rattle.mea_by_name.proofs.OneObject.{IsBelow, AreBelow, goes_kept, goes_made, goes_stays, placed_put, placed_is}
use Rattle.mea_meet_model.specs.Barriers as barriers
use Rattle.mea_meet_model.specs.Barriers.{Barriers, Barrier, BarrierWait, is_wait, queue_of, of_wait, leads, has_completed, placed}
use Rattle.mea_meet_model.specs.BarrierActions.{BarrierAction, Poll, cause_at, act_at, polled_at, ends_at}
use Rattle.mea_meet_model.specs.Valid.{HasBarriers}
use Rattle.mea_meet_model.proofs.BarrierActing.{goes}
use Rattle.mea_meet_model.proofs.CountWakes.{PartActs}
use Rattle.mea_meet_model.proofs.Rounds.{under_way}

module _ (h : Barriers) (n i : ℕ) (v : HasBarriers h n) (later : n ≤ i) where
  lows : IsBelow h.barriers n
  lows = record { at = λ b r is. (v.each b r is).below }

  belows : AreBelow queue_of of_wait h.waits n
  belows = record { at = λ f x is. let home = v.waits.at f x is in let there = value_in (get h.barriers x.barrier) home.1 in (home.0, (v.each x.barrier there.0 there.1).below) }

  pub barriers_act : (a : BarrierAction) → cause_at h a ≡ None → PartActs (polled_at a) (ends_at a) i (is_wait h) (is_wait (act_at h i a).hall) (placed h) (placed (act_at h i a).hall) (act_at h i a).wakes
  barriers_act a allowed = record {
    wakes = λ f w lived has quiet lasts. goes_kept queue_of of_wait h.barriers h.waits n i lows belows later _ allowed _ _ _ _ _ _ (goes h i a) f w has quiet lasts;
    stays = λ f lived quiet lasts. goes_stays queue_of of_wait h.barriers h.waits n i lows belows later _ allowed _ _ _ _ _ _ (goes h i a) f lived quiet lasts;
    over = λ f is. ap is_some ((goes h i a).over f is);
    made = λ f living. goes_made queue_of of_wait h.barriers h.waits n i lows belows later _ allowed _ _ _ _ _ _ (goes h i a) f living;
  }

-- an action that polls f is a poll of f
pub same_poll : (a : BarrierAction) (f w : ℕ) (P : BarrierAction → Type 0) → P (Poll f w) → polled_at a f ≡ Some w → P a
same_poll (Poll g v) f w P here is = let test = cond_some (g == f) v w is in subst (λ j. P (Poll j v)) (sym (eqb-true g f test.0)) (subst (λ u. P (Poll f u)) (sym test.1) here)
same_poll a f w P here is = absurd (cc)

module _ (h : Barriers) (i : ℕ) where
  -- a poll that is pending places its waker
  pub places : (f w : ℕ) → (act_at h i (Poll f w)).reply ≡ answers.Pending → placed (act_at h i (Poll f w)).hall f ≡ Some w
  places f w = by_found P (get h.waits f) h _ (λ is. absurd (cc)) (λ x future. by_found P (get h.barriers x.barrier) h _ (λ is. absurd (cc)) (λ r there. at x future r x.round))
    where
      P : Outcome Barriers → Type 0
      P o = o.reply ≡ answers.Pending → placed o.hall f ≡ Some w

      at : (x : BarrierWait) → get h.waits f ≡ Some x → (r : Barrier) (o : Option ℕ) → P (barriers.poll_at h f w x r o)
      at x future r None = by_if P (leads r) _ _ (λ leads is. absurd (cc))
          (λ follows pending. placed_put queue_of of_wait h.barriers (insert h.waits f (record x { round = Some (r.arrivals / r.size) })) f w (record x { round = Some (r.arrivals / r.size) })
          (record r { arrivals = r.arrivals + 1; waiting = registering r.waiting f w }) (get-there h.waits f (record x { round = Some (r.arrivals / r.size) })) (registering-there r.waiting f w))
      at x future r (Some round) = by_if P (has_completed r round) _ _ (λ over is. absurd (cc))
          (λ runs pending. placed_put queue_of of_wait h.barriers h.waits f w x (record r { waiting = registering r.waiting f w }) future (registering-there r.waiting f w))

  -- while a waker is placed, a poll is pending
  pub waits : (n : ℕ) → HasBarriers h n → (f w u : ℕ) → placed h f ≡ Some w → (act_at h i (Poll f u)).reply ≡ answers.Pending
  waits n v f w u has =
      let it = placed_is queue_of of_wait h.barriers h.waits f w has in
      let its = v.each it.x.barrier it.r it.object in
      let arrived = (its.in_round f w it.x it.waker it.future).1 in
      ap (λ (o : Outcome Barriers). o.reply) (found_is (get h.waits f) h (λ x. found (get h.barriers x.barrier) h (barriers.poll h f u x)) it.x it.future
      ∙ found_is (get h.barriers it.x.barrier) h (barriers.poll h f u it.x) it.r it.object
      ∙ ap (barriers.poll_at h f u it.x it.r) arrived
      ∙ if_false (has_completed it.r (it.r.arrivals / it.r.size)) _ _ (under_way it.r.size it.r.arrivals its.sized))
