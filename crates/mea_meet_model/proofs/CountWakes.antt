-- who waits at points that count, and what an action makes of it
use Rattle.std.proofs.Common.{◌≡◌, ℕ, ◌≤◌, ◌==◌, ◌++◌, ◌⊎◌, inl, inr, Bool, true, false, cond, List, Option, Some, None, is_some, refl, ap, sym, subst, ◌∙◌, arith}
use Rattle.std.specs.List.{Contains}
use Rattle.std.specs.FinMap.{get}
use Rattle.std.proofs.lemmas.Bool.{eqb-true}
use Rattle.std.proofs.lemmas.List.Elements.{Contains-append_left, Contains-append_right}
use Rattle.std.proofs.lemmas.Option.{cond_some}
use Rattle.mea_base.proofs.Maps.{is_there, value_in, get-there}
use Rattle.mea_family.specs.Family.{Outcome}
use Rattle.mea_family.specs.Play.{found}
use Rattle.mea_family.specs.declared.answer.Answer.TheVariants as answers
use Rattle.mea_by_name.specs.NamedQueue as named_queue
use Rattle.mea_by_name.specs.NamedQueue.{waker_for}
use Rattle.mea_by_name.proofs.Cases.{by_found, by_if, found_is, if_false}
use Rattle.mea_by_name.proofs.NamedQueues.{registering-there}
use Rattle.mea_by_name.proofs.OneObject.{IsBelow, AreBelow, goes_kept, goes_made, goes_stays, after_it, untouched}
use Rattle.mea_meet_model.specs.Count.{with_waker}
use Rattle.mea_meet_model.specs.Counts as counts
use Rattle.mea_meet_model.specs.Counts.{Counts, Point, End, OfSignal, OfMembers, Awaited, Signal, Members, Wait, is_wait, count_at, with_count, end_of, placed_at, placed_of, placed, of_wait}
use Rattle.mea_meet_model.specs.CountActions.{Action, Poll, act_in, polled_in, ends_in, registers_in}
use Rattle.mea_meet_model.specs.Valid.{HasCounts}
use Rattle.mea_meet_model.proofs.CountActing.{queue_at, at_end, coming, IsReached, Acts, acts, asks, goes}

-- futures of one part before and after event number i, which polls and ends these: who is neither keeps its waker, or it
-- is among those that are woken; it lives on; whom it ends does not; and only one of the event's number is new
pub record PartActs (polled : ℕ → Option ℕ) (ends : ℕ → Bool) (i : ℕ) (lives lives' : ℕ → Bool) (kept kept' : ℕ → Option ℕ) (ws : List ℕ) : Type 0 where
  pub wakes : (f w : ℕ) → lives f ≡ true → kept f ≡ Some w → polled f ≡ None → ends f ≡ false → (kept' f ≡ Some w) ⊎ Contains ws w
  pub stays : (f : ℕ) → lives f ≡ true → polled f ≡ None → ends f ≡ false → lives' f ≡ true
  pub over : (f : ℕ) → ends f ≡ true → lives' f ≡ false
  pub made : (f : ℕ) → lives' f ≡ true → (lives f ≡ true) ⊎ (f ≡ i)

-- a part that an event does not concern
pub rests : (i : ℕ) (lives : ℕ → Bool) (kept : ℕ → Option ℕ) (ws : List ℕ) → PartActs (λ f. None) (λ f. false) i lives lives kept kept ws
rests i lives kept ws = record { wakes = λ f w lived is quiet lasts. inl is; stays = λ f lived quiet lasts. lived; over = λ f is. absurd (cc); made = λ f living. inl living }

-- the waker of a future, at the end that it waits for
placed_is : (o : Option Point) (a : Awaited) (f : ℕ) → placed_at o a f ≡ waker_for (named_queue.queue_of (queue_at (end_of a)) o) f
placed_is None a f = refl
placed_is (Some r) a f = refl

of_end : (e : End) (ws vs : List ℕ) (w : ℕ) → Contains (at_end e ws vs) w → Contains (ws ++ vs) w
of_end OfSignal ws vs w is = Contains-append_left ws vs w is
of_end OfMembers ws vs w is = Contains-append_right ws vs w is

module _ (h : Counts) (n i : ℕ) (v : HasCounts h n) (later : n ≤ i) where
  lows : IsBelow h.points n
  lows = record { at = λ o r is. v.below o (is_there (get h.points o) r is) }

  belows : (e : End) → AreBelow (queue_at e) of_wait h.waits n
  belows e = record { at = λ f x is. let home = v.waits.at f x is in (home.0, v.below x.point home.1) }

  old : (f : ℕ) (x : Wait) → get h.waits f ≡ Some x → f ≡ i → ⊥
  old f x is same = absurd (let low = (v.waits.at f x is).0 in omega (arith, same, low, later))

  module _ (polled : ℕ → Option ℕ) (ends : ℕ → Bool) (most : ℕ) (o : Outcome Counts) (a : Acts h polled ends i most o) where
    keeps : (f w : ℕ) (x : Wait) → get h.waits f ≡ Some x → placed_at (get h.points x.point) x.awaits f ≡ Some w → polled f ≡ None → ends f ≡ false → (placed o.hall f ≡ Some w) ⊎ Contains o.wakes w
    keeps f w x is has quiet lasts =
        let e : End = end_of x.awaits in
        let go = goes h polled ends i most o (n, v) a (end_of x.awaits) in
        let before : named_queue.placed (queue_at (end_of x.awaits)) of_wait h.points h.waits f ≡ Some w = ap (named_queue.placed_of (queue_at (end_of x.awaits)) of_wait h.points f) is ∙ sym (placed_is (get h.points x.point) x.awaits f) ∙ has in
        let still : get o.hall.waits f ≡ Some x = after_it (queue_at (end_of x.awaits)) of_wait h.points h.waits (IsReached h) i a.k o.hall.waits (a.futures (end_of x.awaits)) f x is (old f x is)
        (untouched (queue_at (end_of x.awaits)) of_wait h.points h.waits (IsReached h) i a.k polled ends (a.touches (end_of x.awaits)) f (old f x is) quiet lasts) in
        elim (goes_kept (queue_at (end_of x.awaits)) of_wait h.points h.waits n i lows (belows (end_of x.awaits)) later (IsReached h) (n, v) polled ends (coming (end_of x.awaits) a.comes) o.hall.points o.hall.waits (at_end (end_of x.awaits) a.signal a.members) go f w before quiet lasts) [
          | inl kept ↦ inl (ap (placed_of o.hall f) still ∙ placed_is (get o.hall.points x.point) x.awaits f ∙ ap (λ p. named_queue.placed_of (queue_at (end_of x.awaits)) of_wait o.hall.points f p) (sym still) ∙ kept)
          | inr woken ↦ inr (subst (λ ws. Contains ws w) (sym a.wakes) (of_end (end_of x.awaits) a.signal a.members w woken))
        ]

    pub part_acts : PartActs polled ends i (is_wait h) (is_wait o.hall) (placed h) (placed o.hall) o.wakes
    part_acts = record {
      wakes = λ f w lived has quiet lasts. let it = value_in (get h.waits f) lived in keeps f w it.0 it.1 (sym (ap (placed_of h f) it.1) ∙ has) quiet lasts;
      stays = λ f lived quiet lasts. goes_stays (queue_at OfSignal) of_wait h.points h.waits n i lows (belows OfSignal) later (IsReached h) (n, v) polled ends (coming OfSignal a.comes) o.hall.points o.hall.waits (at_end OfSignal a.signal a.members) (goes h polled ends i most o (n, v) a OfSignal) f lived quiet lasts;
      over = λ f is. ap is_some (a.over (n, v) f is);
      made = λ f living. goes_made (queue_at OfSignal) of_wait h.points h.waits n i lows (belows OfSignal) later (IsReached h) (n, v) polled ends (coming OfSignal a.comes) o.hall.points o.hall.waits (at_end OfSignal a.signal a.members) (goes h polled ends i most o (n, v) a OfSignal) f living;
    }

  pub counts_act : (a : Action) → PartActs (polled_in a) (ends_in a) i (is_wait h) (is_wait (act_in h i a).hall) (placed h) (placed (act_in h i a).hall) (act_in h i a).wakes
  counts_act a = part_acts (polled_in a) (ends_in a) (cond (registers_in a) 1 0) (act_in h i a) (acts h (polled_in a) (ends_in a) i (cond (registers_in a) 1 0) a (asks h i a))

-- an action that polls f is a poll of f
pub same_poll : (a : Action) (f w : ℕ) (P : Action → Type 0) → P (Poll f w) → polled_in a f ≡ Some w → P a
same_poll (Poll g v) f w P here is = let test = cond_some (g == f) v w is in subst (λ j. P (Poll j v)) (sym (eqb-true g f test.0)) (subst (λ u. P (Poll f u)) (sym test.1) here)
same_poll a f w P here is = absurd (cc)

module _ (h : Counts) (i : ℕ) where
  -- a poll that is pending places its waker
  pub places : (f w : ℕ) → (act_in h i (Poll f w)).reply ≡ answers.Pending → placed (act_in h i (Poll f w)).hall f ≡ Some w
  places f w = by_found P (get h.waits f) h _ (λ is. absurd (cc)) (λ x future. by_found P (get h.points x.point) h _ (λ is. absurd (cc)) (λ r there.
      by_if P ((count_at (end_of x.awaits) r).number == 0) _ _ (λ over is. absurd (cc)) (λ goes_on pending. at x future r x.awaits refl)))
    where
      P : Outcome Counts → Type 0
      P o = o.reply ≡ answers.Pending → placed o.hall f ≡ Some w

      there_now : (r : Point) (a : Awaited) → placed_at (Some (with_count (end_of a) r (with_waker (count_at (end_of a) r) f w))) a f ≡ Some w
      there_now r (Signal b) = registering-there r.signal.waiting f w
      there_now r Members = registering-there r.members.waiting f w

      at : (x : Wait) → get h.waits f ≡ Some x → (r : Point) (a : Awaited) → x.awaits ≡ a → placed (counts.waits_on h f w x r).hall f ≡ Some w
      at x future r a to = ap (placed_of (counts.waits_on h f w x r).hall f) future ∙ ap (λ p. placed_at p x.awaits f) (get-there h.points x.point (with_count (end_of x.awaits) r (with_waker (count_at (end_of x.awaits) r) f w))) ∙ there_now r x.awaits

  -- while a waker is placed, a poll is pending
  pub waits : (n : ℕ) → HasCounts h n → (f w u : ℕ) → placed h f ≡ Some w → (act_in h i (Poll f u)).reply ≡ answers.Pending
  waits n v f w u has = at (get h.waits f) refl has
    where
      not_over : (x : Wait) (r : Point) → get h.waits f ≡ Some x → get h.points x.point ≡ Some r → waker_for (count_at (end_of x.awaits) r).waiting f ≡ Some w → (b : Bool) → ((count_at (end_of x.awaits) r).number == 0) ≡ b → b ≡ false
      not_over x r future there is false test = refl
      not_over x r future there is true test = absurd (
          let nobody = (v.each x.point r there).quiet (end_of x.awaits) (eqb-true (count_at (end_of x.awaits) r).number 0 test) in
          let no : waker_for (count_at (end_of x.awaits) r).waiting f ≡ None = ap (λ q. waker_for q f) nobody in
          cc)

      at_point : (x : Wait) → get h.waits f ≡ Some x → (p : Option Point) → get h.points x.point ≡ p → placed_at p x.awaits f ≡ Some w → (act_in h i (Poll f u)).reply ≡ answers.Pending
      at_point x future None absent is = absurd (cc)
      at_point x future (Some r) there is = ap (λ (o : Outcome Counts). o.reply)
          (found_is (get h.waits f) h (λ x. found (get h.points x.point) h (counts.poll h f u x)) x future
          ∙ found_is (get h.points x.point) h (counts.poll h f u x) r there
          ∙ if_false ((count_at (end_of x.awaits) r).number == 0) _ _ (let test = not_over x r future there is ((count_at (end_of x.awaits) r).number == 0) refl in test))

      at : (o : Option Wait) → get h.waits f ≡ o → placed_of h f o ≡ Some w → (act_in h i (Poll f u)).reply ≡ answers.Pending
      at None absent is = absurd (cc)
      at (Some x) future is = at_point x future (get h.points x.point) refl is
