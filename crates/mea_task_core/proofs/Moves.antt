-- a move leaves a sound machine sound, and less work
use Rattle.std.proofs.Common.{zero-add, ◌≡◌, ℕ, zero, suc, ◌+◌, ◌<◌, ◌≤◌, ◌==◌, ◌⊎◌, inl, inr, Bool, true, false, cond, List, [], ◌∷◌, ◌++◌, Option, Some, None, refl, ap, sym, subst, ◌∙◌, arith, slice_get, slice_set, length, if◌then◌else◌}
use Rattle.std.specs.Ordering.{nat_cmp}
use Rattle.std.specs.FinMap.{FinMap, get, remove}
use Rattle.std.proofs.lemmas.Bool.{eq-eqb, ne_eqb}
use Rattle.std.proofs.lemmas.List.Sums.{sum_by-cons, sum_by-append}
use Rattle.mea_base.proofs.Maps.{by_put, inside, get-there, get-other, get-removed_other, removed_there, get-gone}
use Rattle.mea_base.proofs.Tests.{on_true, on_false}
use Rattle.mea_family.specs.declared.answer.Answer.TheVariants as answers
use Rattle.mea_family.specs.declared.stop.Stop.{Stop}
use Rattle.mea_family.specs.Family.{is_pending}
use Rattle.mea_events.specs.declared.sem_event.SemEvent.{SemEvent}
use Rattle.mea_events.specs.declared.sem_event.SemEvent.TheVariants as events
use Rattle.mea_sem_model.specs.Hall.{Future, New, Waiting, Granted}
use Rattle.mea_sem_model.specs.Cause.{cause_of}
use Rattle.mea_sem_model.specs.Step.{Outcome}
use Rattle.mea_sem_model.proofs.Changes.{no_future_yet}
use Rattle.mea_task_core.specs.declared.step.Step.{Step}
use Rattle.mea_task_core.specs.declared.step.Step.TheVariants.{Take, Give, Yield}
use Rattle.mea_task_core.specs.declared.phase.Phase.{Phase}
use Rattle.mea_task_core.specs.declared.phase.Phase.TheVariants.{Queued, Asks, Waits, Woken, Finished, Failed}
use Rattle.mea_task_core.specs.Task.{TaskRecord, at_phase, past, over, woken_phase, is_active, future_in, next_step}
use Rattle.mea_task_core.specs.Machine.{Machine, name_of, with_task, stops, woken, played, outcome_of, asks, polled, takes, gives, yields, comes_to, begins, goes_on, move_by, move, moves, IsAtRest}
use Rattle.mea_task_core.specs.Bounds.{takes_and_yields, AddsNothing, rest_of, turns_by, turns_left, moves_by, moves_left, one_if_on, work}
use Rattle.mea_task_core.specs.Sound.{IsSound, IsSoundHall, AreLinked, Has, IsFutureOf, one_if, one_if_is, times, times_due, future_of}
use Rattle.mea_task_core.proofs.Tasks.{get-woken_still}
use Rattle.mea_task_core.proofs.Links.{Changes, one_changes, linked_due}
use Rattle.mea_task_core.proofs.Wakes.{release_links}
use Rattle.mea_task_core.proofs.Halls.{open_named, hall_goes_on, acquire_allowed, poll_allowed, GetsReady, HasToWait, poll_granted, poll_new, release_opens}
use Rattle.mea_task_core.proofs.Bounding.{Costs, work_falls, adds_nothing, bounded_after, steps_next, rests_next}

-- a machine that is sound, and has less work than before
pub record Advances (m n : Machine) : Type 0 where
  pub sound : IsSound n
  pub less : work n < work m
  pub events : n.events ≤ m.events + 1
  pub adds : AddsNothing m n

-- an equation with a phase tells what the numbers are
turns_at : (x : TaskRecord) (p : Phase) → x.phase ≡ p → turns_left x ≡ turns_by p (takes_and_yields (rest_of x))
turns_at x p is = ap (λ q. turns_by q (takes_and_yields (rest_of x))) is

moves_at : (x : TaskRecord) (p : Phase) → x.phase ≡ p → moves_left x ≡ moves_by p (length (rest_of x))
moves_at x p is = ap (λ q. moves_by q (length (rest_of x))) is

-- ---- the task t, whose turn is on
module _ (m : Machine) (t : ℕ) (x : TaskRecord) (s : IsSound m) (on : m.running ≡ Some t) (at : slice_get m.tasks t ≡ Some x) where
  due_then : (u : ℕ) → times_due m u ≡ cond (t == u) 1 0 + times u m.queue
  due_then u = ap (λ o. one_if_is o u + times u m.queue) on

  is_on : one_if_on m.running ≡ 1
  is_on = ap one_if_on on

  due_here : 1 + times t m.queue ≡ one_if (is_active x.phase)
  due_here = let here = due_then t in let counted = s.linked.counted t x at in omega (arith, here, counted, on_true (t == t) 1 (eq-eqb t t refl))

  active : one_if (is_active x.phase) ≡ 1
  active = by_test (is_active x.phase) due_here
    where
      by_test : (b : Bool) → 1 + times t m.queue ≡ one_if b → one_if b ≡ 1
      by_test true e = refl
      by_test false e = absurd (omega (arith, e))

  -- it does not stand in the run queue too
  alone : times t m.queue ≡ 0
  alone = omega (arith, active, due_here)

  -- the tasks of others are as often due
  due_others : (u : ℕ) → (t ≡ u → ⊥) → times u m.queue ≡ times_due m u
  due_others u apart = omega (arith, due_then u, on_false (t == u) 1 (ne_eqb t u apart))

  -- a machine to which it comes at these costs
  advances : (n : Machine) (ws : List ℕ) (y : TaskRecord) → Costs m n ws t x y → IsSoundHall n.hall n.events n.semaphores → AreLinked n.hall.futures n.semaphores n.tasks (times_due n) → Advances m n
  advances n ws y costs hall linked = record {
    sound = record { hall = hall; linked = linked; bounded = bounded_after m n ws t x y costs s.bounded };
    less = work_falls m n ws t x y costs;
    events = costs.events;
    adds = adds_nothing m n ws t x y costs;
  }

  -- ---- its turn goes on, or ends, after an event that wakes nobody
  module _ (o : Outcome) (y : TaskRecord) (quiet : o.wakes ≡ []) where
    queued : (u : ℕ) → times u (m.queue ++ o.wakes) ≡ times u m.queue
    queued u =
        let none : times u o.wakes ≡ 0 = ap (times u) quiet in
        omega (arith, none, sum_by-append {X = ℕ} (λ v. cond (v == u) 1 0) m.queue o.wakes)

    changed : (G : FinMap nat_cmp Future) (e : ℕ → ℕ) → Changes m.hall.futures G m.semaphores (times_due m) e t x y → AreLinked G m.semaphores (slice_set (woken m.tasks o.wakes) t y) e
    changed G e c = subst (λ ws. AreLinked G m.semaphores (slice_set (woken m.tasks ws) t y) e) (sym quiet)
        (one_changes m.hall.futures G m.semaphores m.tasks (times_due m) e t x y s.linked at c)

    there : slice_get (woken m.tasks o.wakes) t ≡ Some x
    there = subst (λ ws. slice_get (woken m.tasks ws) t ≡ Some x) (sym quiet) at

    stays_linked : Changes m.hall.futures o.hall.futures m.semaphores (times_due m) (times_due m) t x y
        → AreLinked o.hall.futures m.semaphores (slice_set (woken m.tasks o.wakes) t y) (times_due (with_task (played m o) t y))
    stays_linked c = linked_due _ m.semaphores _ (times_due m) _ (λ u. omega (arith, queued u)) (changed o.hall.futures (times_due m) c)

    ends_linked : Changes m.hall.futures o.hall.futures m.semaphores (times_due m) (λ u. times u m.queue) t x y
        → AreLinked o.hall.futures m.semaphores (slice_set (woken m.tasks o.wakes) t y) (times_due (stops (with_task (played m o) t y)))
    ends_linked c = linked_due _ m.semaphores _ (λ u. times u m.queue) _ (λ u. omega (arith, queued u)) (changed o.hall.futures (λ u. times u m.queue) c)

  -- where no future changes and the task has none after
  plain_change : (y : TaskRecord) (e : ℕ → ℕ) → ((k : ℕ) (z : Step) → slice_get y.steps k ≡ Some z → slice_get x.steps k ≡ Some z) → e t ≡ one_if (is_active y.phase) → ((u : ℕ) → (t ≡ u → ⊥) → e u ≡ times_due m u)
      → future_in x.phase ≡ None → Has m.hall.futures m.semaphores t y y.phase → future_in y.phase ≡ None
      → Changes m.hall.futures m.hall.futures m.semaphores (times_due m) e t x y
  plain_change y e steps here others none has none_then = record {
    steps = steps;
    here = here;
    others = others;
    has = has;
    still = λ f z is other. is;
    waits = λ f w z is waiting. inr (is, λ own. absurd (cc));
    own = λ f own. absurd (cc);
  }

  -- ---- it finishes, fails or yields
  module _ (queued : x.phase ≡ Queued) where
    none_now : future_in x.phase ≡ None
    none_now = ap future_in queued

    is_over : (p : Phase) → is_active p ≡ false → future_in p ≡ None → Has m.hall.futures m.semaphores t (over p) p → ((k : ℕ) → turns_by p k ≡ 0) → ((k : ℕ) → moves_by p k ≡ 0)
        → Advances m (stops (with_task m t (over p)))
    is_over p idle none has no_turns no_moves = advances _ [] _ costs s.hall
        (one_changes m.hall.futures m.hall.futures m.semaphores m.tasks (times_due m) _ t x (over p) s.linked at
        (plain_change (over p) (times_due (stops (with_task m t (over p)))) (λ k z is. absurd (cc)) (omega (arith, alone, ap one_if idle)) (λ u apart. omega (arith, due_others u apart)) none_now has none))
      where
        costs : Costs m (stops (with_task m t (over p))) [] t x (over p)
        costs = record {
          at = at;
          tasks = refl;
          semaphores = refl;
          added = refl;
          allowance = refl;
          polls = refl;
          events = omega arith;
          moves = omega (arith, no_moves 0, moves_at x Queued queued, is_on);
          turns = omega (arith, no_turns 0, turns_at x Queued queued, is_on);
        }

    pub finishes : Advances m (stops (with_task m t (over Finished)))
    finishes = is_over Finished refl refl tt (λ k. refl) (λ k. refl)

    pub fails : Advances m (stops (with_task m t (over Failed)))
    fails = is_over Failed refl refl tt (λ k. refl) (λ k. refl)

    pub yielded : next_step x ≡ Some Yield → Advances m (yields m t x)
    yielded is = advances _ [] _ costs s.hall
        (one_changes m.hall.futures m.hall.futures m.semaphores m.tasks (times_due m) _ t x (past x) s.linked at
        (plain_change (past x) (times_due (yields m t x)) (λ k z is. is) (omega (arith, alone, again t, on_true (t == t) 1 (eq-eqb t t refl)))
        (λ u apart. omega (arith, due_others u apart, again u, on_false (t == u) 1 (ne_eqb t u apart))) none_now tt refl))
      where
        again : (u : ℕ) → times u (m.queue ++ t ∷ []) ≡ times u m.queue + cond (t == u) 1 0
        again u = let more = sum_by-append {X = ℕ} (λ v. cond (v == u) 1 0) m.queue (t ∷ []) in omega (arith, more, sum_by-cons {X = ℕ} (λ v. cond (v == u) 1 0) t [])

        costs : Costs m (yields m t x) [] t x (past x)
        costs = record {
          at = at;
          tasks = refl;
          semaphores = refl;
          added = refl;
          allowance = refl;
          polls = refl;
          events = omega arith;
          moves = omega (arith, moves_at x Queued queued, is_on, steps_next x Yield is);
          turns = omega (arith, turns_at x Queued queued, is_on, rests_next x Yield is);
        }

    -- ---- it gives
    module _ (q n : ℕ) (is : next_step x ≡ Some (Give q n)) where
      abbrev released : SemEvent
      released = events.Release (name_of m q) n

      abbrev mid_due : ℕ → ℕ
      mid_due u = times_due m u + times u (outcome_of m released).wakes

      place_known : q < length m.semaphores
      place_known = s.linked.known t x.position x (Give q n) at is

      given : cause_of m.hall released ≡ None → Advances m (with_task (played m (outcome_of m released)) t (past x))
      given allowed = advances _ (outcome_of m released).wakes _ costs (hall_goes_on m.hall m.events m.semaphores released s.hall tt allowed (λ k a. release_opens m.hall m.events (name_of m q) n k a))
          (linked_due _ m.semaphores _ mid_due _ (λ u. let more = sum_by-append {X = ℕ} (λ v. cond (v == u) 1 0) m.queue (outcome_of m released).wakes in omega (arith, more))
          (one_changes _ _ m.semaphores _ mid_due mid_due t x (past x) mid there_still change))
        where
          mid : AreLinked (outcome_of m released).hall.futures m.semaphores (woken m.tasks (outcome_of m released).wakes) mid_due
          mid = release_links m.hall m.events (name_of m q) n s.hall.valid s.hall.below (open_named m.hall (name_of m q) (s.hall.each_open q place_known)) m.semaphores m.tasks (times_due m) s.linked

          there_still : slice_get (woken m.tasks (outcome_of m released).wakes) t ≡ Some x
          there_still = get-woken_still m.tasks (outcome_of m released).wakes t x at (ap woken_phase queued ∙ sym queued)

          change : Changes (outcome_of m released).hall.futures (outcome_of m released).hall.futures m.semaphores mid_due mid_due t x (past x)
          change = record {
            steps = λ k z is. is;
            here = mid.counted t x there_still ∙ ap (λ p. one_if (is_active p)) queued;
            others = λ u apart. refl;
            has = tt;
            still = λ f z there other. there;
            waits = λ f w z there waiting. inr (there, λ own. absurd (let none = none_now in cc));
            own = λ f own. absurd (cc);
          }

          costs : Costs m (with_task (played m (outcome_of m released)) t (past x)) (outcome_of m released).wakes t x (past x)
          costs = record {
            at = there_still;
            tasks = refl;
            semaphores = refl;
            added = refl;
            allowance = refl;
            polls = refl;
            events = omega arith;
            moves = omega (arith, moves_at x Queued queued, is_on, steps_next x (Give q n) is);
            turns = omega (arith, turns_at x Queued queued, is_on, rests_next x (Give q n) is);
          }

      by_cause : (c : Option Stop) → cause_of m.hall released ≡ c → Advances m (gives m t x c (outcome_of m released))
      by_cause None allowed = given allowed
      by_cause (Some stop) refused = fails

      pub gave : Advances m (gives m t x (cause_of m.hall released) (outcome_of m released))
      gave = by_cause (cause_of m.hall released) refl

    -- ---- it asks
    module _ (q n : ℕ) (is : next_step x ≡ Some (Take q n)) where
      abbrev acquires : SemEvent
      acquires = events.Acqf (name_of m q) n

      take_known : q < length m.semaphores
      take_known = s.linked.known t x.position x (Take q n) at is

      new_there : get m.hall.futures m.events ≡ None
      new_there = no_future_yet m.hall m.events s.hall.below

      ask_change : Changes m.hall.futures (outcome_of m acquires).hall.futures m.semaphores (times_due m) (times_due m) t x (at_phase x (Asks m.events))
      ask_change = record {
        steps = λ k z is. is;
        here = s.linked.counted t x at ∙ active;
        others = λ u apart. refl;
        has = record { place = q; demand = n; next = is; known = take_known; is = get-there m.hall.futures m.events (future_of (name_of m q) n New) };
        still = λ f z there other.
            get-other m.hall.futures m.events f (future_of (name_of m q) n New) (λ same. absurd (let none : get m.hall.futures f ≡ None = ap (get m.hall.futures) (sym same) ∙ new_there in cc)) ∙ there;
        waits = λ f w z there waiting. inr (by_put m.hall.futures m.events (future_of (name_of m q) n New)
            (λ k o. o ≡ Some z → (get m.hall.futures k ≡ Some z) × (future_in x.phase ≡ Some k → ⊥))
            (λ same. absurd (let none : New ≡ Waiting w = ap (λ (v : Future). v.stage) (inside same) ∙ waiting in cc))
            (λ k apart was. (was, λ own. absurd (let none = none_now in cc))) f there);
        own = λ f own. inr (ap (get m.hall.futures) (sym (inside own)) ∙ new_there);
      }

      ask_costs : Costs m (asks m t x q n) [] t x (at_phase x (Asks m.events))
      ask_costs = record {
        at = at;
        tasks = refl;
        semaphores = refl;
        added = refl;
        allowance = refl;
        polls = refl;
        events = omega arith;
        moves = omega (arith, moves_at x Queued queued, is_on);
        turns = omega (arith, turns_at x Queued queued, is_on);
      }

      pub asked : Advances m (asks m t x q n)
      asked = advances _ [] _ ask_costs (hall_goes_on m.hall m.events m.semaphores acquires s.hall tt (acquire_allowed m.hall (name_of m q) n (s.hall.each_open q take_known))
          (λ k a. record { there = a.there; is = a.is; named = a.named; is_open = a.is_open }))
          (stays_linked (outcome_of m acquires) (at_phase x (Asks m.events)) refl ask_change)

  -- ---- it polls its future
  module _ (f : ℕ) (own_future : future_in x.phase ≡ Some f) where
    abbrev polls_it : SemEvent
    polls_it = events.Poll f t

    mine : (g : ℕ) → future_in x.phase ≡ Some g → f ≡ g
    mine g own = inside (sym own_future ∙ own)

    ready_change : GetsReady m.hall f (outcome_of m polls_it)
        → Changes m.hall.futures (outcome_of m polls_it).hall.futures m.semaphores (times_due m) (times_due m) t x (past x)
    ready_change r = record {
      steps = λ k z is. is;
      here = s.linked.counted t x at ∙ active;
      others = λ u apart. refl;
      has = tt;
      still = λ g z there other. ap (λ k. get k g) r.futures ∙ get-removed_other m.hall.futures f g (λ same. other (own_future ∙ ap Some same)) ∙ there;
      waits = λ g w z there waiting.
          let left : get (remove m.hall.futures f) g ≡ Some z = sym (ap (λ k. get k g) r.futures) ∙ there in
          inr (removed_there m.hall.futures f g z left, λ own. absurd (let gone : get (remove m.hall.futures f) g ≡ None = ap (get (remove m.hall.futures f)) (sym (mine g own)) ∙ get-gone m.hall.futures f in cc));
      own = λ g own. absurd (cc);
    }

    ready : (k : ℕ) → moves_left x ≡ k → turns_left x ≡ turns_left (past x) + 0 ⊎ turns_left x ≡ turns_left (past x) + 1 → moves_left (past x) + 1 ≤ k → (y : Future) → get m.hall.futures f ≡ Some y
        → GetsReady m.hall f (outcome_of m polls_it) → Advances m (with_task (played m (outcome_of m polls_it)) t (past x))
    ready k work_is turns_are falls y there_now r = advances _ (outcome_of m polls_it).wakes _ costs (hall_goes_on m.hall m.events m.semaphores polls_it s.hall tt (poll_allowed m.hall f t y there_now) r.opens)
        (stays_linked (outcome_of m polls_it) (past x) r.wakes (ready_change r))
      where
        costs : Costs m (with_task (played m (outcome_of m polls_it)) t (past x)) (outcome_of m polls_it).wakes t x (past x)
        costs = record {
          at = there (outcome_of m polls_it) (past x) r.wakes;
          tasks = refl;
          semaphores = refl;
          added = refl;
          allowance = refl;
          polls = refl;
          events = omega arith;
          moves = omega (arith, work_is, falls, is_on);
          turns = elim turns_are [ inl same ↦ omega (arith, same, is_on) | inr more ↦ omega (arith, more, is_on) ];
        }

    by_ready : Advances m (with_task (played m (outcome_of m polls_it)) t (past x)) → (outcome_of m polls_it).reply ≡ answers.Ready → Advances m (polled m t x f (outcome_of m polls_it))
    by_ready adv reply = subst (λ b. Advances m (if b then stops (with_task (played m (outcome_of m polls_it)) t (at_phase x (Waits f))) else with_task (played m (outcome_of m polls_it)) t (past x)))
        (sym (ap is_pending reply)) adv

  -- its future was granted
  woken_polls : (f : ℕ) → x.phase ≡ Woken f → Advances m (polled m t x f (outcome_of m (events.Poll f t)))
  woken_polls f is_woken =
      let had : IsFutureOf m.hall.futures m.semaphores x f Granted = subst (λ p. Has m.hall.futures m.semaphores t x p) is_woken (s.linked.has t x at) in
      let r = poll_granted m.hall m.events f t _ had.demand had.is in
      let own = ap future_in is_woken in
      by_ready f own
      (ready f own _ (moves_at x (Woken f) is_woken) (inl (let now = turns_at x (Woken f) is_woken in let rests = rests_next x _ had.next in omega (arith, now, rests)))
      (let steps = steps_next x _ had.next in omega (arith, steps)) _ had.is r) r.reply

  -- its future is new
  asked_polls : (f : ℕ) → x.phase ≡ Asks f → Advances m (polled m t x f (outcome_of m (events.Poll f t)))
  asked_polls f is_asking = elim (poll_new m.hall m.events f t _ had.demand had.is (s.hall.each_open had.place had.known)) [
    | inl r ↦ by_ready f own
        (ready f own _ (moves_at x (Asks f) is_asking) (inr (let now = turns_at x (Asks f) is_asking in let rests = rests_next x _ had.next in omega (arith, now, rests)))
        (let steps = steps_next x _ had.next in omega (arith, steps)) _ had.is r) r.reply
    | inr r ↦ subst (λ b. Advances m (if b then stops (with_task (played m (outcome_of m (events.Poll f t))) t (at_phase x (Waits f))) else with_task (played m (outcome_of m (events.Poll f t))) t (past x)))
        (sym (ap is_pending r.reply)) (waits_now r)
  ]
    where
      had : IsFutureOf m.hall.futures m.semaphores x f New
      had = subst (λ p. Has m.hall.futures m.semaphores t x p) is_asking (s.linked.has t x at)

      own : future_in x.phase ≡ Some f
      own = ap future_in is_asking

      waits_change : HasToWait m.hall f (future_of (name_of m had.place) had.demand (Waiting t)) (outcome_of m (events.Poll f t))
          → Changes m.hall.futures (outcome_of m (events.Poll f t)).hall.futures m.semaphores (times_due m) (λ u. times u m.queue) t x (at_phase x (Waits f))
      waits_change r = record {
        steps = λ k z is. is;
        here = alone;
        others = due_others;
        has = record { place = had.place; demand = had.demand; next = had.next; known = had.known; is = ap (λ k. get k f) r.futures ∙ get-there m.hall.futures f _ };
        still = λ g z there other. ap (λ k. get k g) r.futures ∙ get-other m.hall.futures f g _ (λ same. other (own ∙ ap Some same)) ∙ there;
        waits = λ g w z there waiting. by_put m.hall.futures f (future_of (name_of m had.place) had.demand (Waiting t))
            (λ k o. o ≡ Some z → ((w ≡ t) × (Waits f ≡ Waits k)) ⊎ ((get m.hall.futures k ≡ Some z) × (future_in x.phase ≡ Some k → ⊥)))
            (λ same. let stage : Waiting t ≡ Waiting w = ap (λ (v : Future). v.stage) (inside same) ∙ waiting in inl (cc, refl))
            (λ k apart was. inr (was, λ its. apart (inside (sym own ∙ its)))) g (sym (ap (λ k. get k g) r.futures) ∙ there);
        own = λ g its. inl (own ∙ its);
      }

      waits_now : HasToWait m.hall f (future_of (name_of m had.place) had.demand (Waiting t)) (outcome_of m (events.Poll f t))
          → Advances m (stops (with_task (played m (outcome_of m (events.Poll f t))) t (at_phase x (Waits f))))
      waits_now r =
          let costs : Costs m (stops (with_task (played m (outcome_of m (events.Poll f t))) t (at_phase x (Waits f)))) (outcome_of m (events.Poll f t)).wakes t x (at_phase x (Waits f)) = record {
            at = there (outcome_of m (events.Poll f t)) (at_phase x (Waits f)) r.wakes;
            tasks = refl;
            semaphores = refl;
            added = refl;
            allowance = refl;
            polls = refl;
            events = omega arith;
            moves = (let now = moves_at x (Asks f) is_asking in let steps = steps_next x _ had.next in omega (arith, now, steps, is_on));
            turns = (let now = turns_at x (Asks f) is_asking in omega (arith, now, is_on));
          } in
          advances _ (outcome_of m (events.Poll f t)).wakes _ costs (hall_goes_on m.hall m.events m.semaphores (events.Poll f t) s.hall tt (poll_allowed m.hall f t _ had.is) r.opens)
          (ends_linked (outcome_of m (events.Poll f t)) (at_phase x (Waits f)) r.wakes (waits_change r))

  -- ---- whatever it comes to
  idle_now : (p : Phase) → x.phase ≡ p → is_active p ≡ false → ⊥
  idle_now p is idle = absurd (let one = active in let none : one_if (is_active x.phase) ≡ 0 = ap (λ q. one_if (is_active q)) is ∙ ap one_if idle in omega (arith, one, none))

  take_next : (q n : ℕ) → next_step x ≡ Some (Take q n) → (p : Phase) → x.phase ≡ p → Advances m (takes m t x q n p)
  take_next q n is Queued phase = asked phase q n is
  take_next q n is (Asks f) phase = asked_polls f phase
  take_next q n is (Waits f) phase = absurd (idle_now (Waits f) phase refl)
  take_next q n is (Woken f) phase = woken_polls f phase
  take_next q n is Finished phase = absurd (idle_now Finished phase refl)
  take_next q n is Failed phase = absurd (idle_now Failed phase refl)

  -- who has a future comes to a take
  has_take : (p : Phase) → x.phase ≡ p → (x.phase ≡ Queued) ⊎ ((q : ℕ) × (n : ℕ) × (next_step x ≡ Some (Take q n)))
  has_take Queued phase = inl phase
  has_take (Asks f) phase = let had : IsFutureOf m.hall.futures m.semaphores x f New = subst (λ p. Has m.hall.futures m.semaphores t x p) phase (s.linked.has t x at) in inr (had.place, had.demand, had.next)
  has_take (Waits f) phase = absurd (idle_now (Waits f) phase refl)
  has_take (Woken f) phase = let had : IsFutureOf m.hall.futures m.semaphores x f Granted = subst (λ p. Has m.hall.futures m.semaphores t x p) phase (s.linked.has t x at) in inr (had.place, had.demand, had.next)
  has_take Finished phase = absurd (idle_now Finished phase refl)
  has_take Failed phase = absurd (idle_now Failed phase refl)

  -- who gives has no future
  pub gives_queued : (q n : ℕ) → next_step x ≡ Some (Give q n) → x.phase ≡ Queued
  gives_queued q n is = elim (has_take x.phase refl) [ inl phase ↦ phase | inr take ↦ absurd (let other = take.2 in cc) ]

  -- who takes asks where it has no future
  pub asks_next : (q n : ℕ) → future_in x.phase ≡ None → takes m t x q n x.phase ≡ asks m t x q n
  asks_next q n none = by_phase x.phase none
    where
      by_phase : (p : Phase) → future_in p ≡ None → takes m t x q n p ≡ asks m t x q n
      by_phase Queued e = refl
      by_phase (Asks f) e = absurd (cc)
      by_phase (Waits f) e = refl
      by_phase (Woken f) e = absurd (cc)
      by_phase Finished e = refl
      by_phase Failed e = refl

  -- and polls the one that it has
  pub polls_next : (q n f : ℕ) → future_in x.phase ≡ Some f → takes m t x q n x.phase ≡ polled m t x f (outcome_of m (events.Poll f t))
  polls_next q n f has = by_phase x.phase refl has
    where
      by_phase : (p : Phase) → x.phase ≡ p → future_in p ≡ Some f → takes m t x q n p ≡ polled m t x f (outcome_of m (events.Poll f t))
      by_phase Queued is e = absurd (cc)
      by_phase (Asks g) is e = ap (λ k. polled m t x k (outcome_of m (events.Poll k t))) (inside e)
      by_phase (Waits g) is e = absurd (idle_now (Waits g) is refl)
      by_phase (Woken g) is e = ap (λ k. polled m t x k (outcome_of m (events.Poll k t))) (inside e)
      by_phase Finished is e = absurd (cc)
      by_phase Failed is e = absurd (cc)

  by_step : (o : Option Step) → next_step x ≡ o → Advances m (comes_to m t x o)
  by_step None is = elim (has_take x.phase refl) [ inl phase ↦ finishes phase | inr take ↦ absurd (let other = take.2 in cc) ]
  by_step (Some (Take q n)) is = take_next q n is x.phase refl
  by_step (Some (Give q n)) is = elim (has_take x.phase refl) [ inl phase ↦ gave phase q n is | inr take ↦ absurd (let other = take.2 in cc) ]
  by_step (Some Yield) is = elim (has_take x.phase refl) [ inl phase ↦ yielded phase is | inr take ↦ absurd (let other = take.2 in cc) ]

  pub runs_on : Advances m (comes_to m t x (next_step x))
  runs_on = by_step (next_step x) refl

-- ---- a turn begins
module _ (m : Machine) (t : ℕ) (ts : List ℕ) (s : IsSound m) (off : m.running ≡ None) (first : m.queue ≡ t ∷ ts) where
  same_due : (u : ℕ) → cond (t == u) 1 0 + times u ts ≡ times_due m u
  same_due u =
      let before : times_due m u ≡ times u (t ∷ ts) = ap (λ o. one_if_is o u + times u m.queue) off ∙ ap (λ q. 0 + times u q) first ∙ zero-add (times u (t ∷ ts)) in
      omega (arith, before, sum_by-cons {X = ℕ} (λ v. cond (v == u) 1 0) t ts)

  is_off : one_if_on m.running ≡ 0
  is_off = ap one_if_on off

  pub turn_begins : Advances m (begins m (t ∷ ts))
  turn_begins = record {
    sound = record {
      hall = s.hall;
      linked = linked_due _ m.semaphores _ (times_due m) _ same_due s.linked;
      bounded = record {
        size = s.bounded.size;
        turns = s.bounded.turns;
        room = (let b = s.bounded.room in omega (arith, b, is_off));
        low = (let b = s.bounded.low in omega (arith, b, is_off));
        few = (let b = s.bounded.few in omega (arith, b, is_off));
      };
    };
    less = omega (arith, is_off);
    events = omega arith;
    adds = record { semaphores = refl; tasks = refl; added = refl; allowance = refl };
  }

-- ---- a move
-- the task whose turn is on is there
pub running_there : (m : Machine) → IsSound m → (t : ℕ) → m.running ≡ Some t → (x : TaskRecord) × (slice_get m.tasks t ≡ Some x)
running_there m s t on = by_option (slice_get m.tasks t) refl
  where
    by_option : (o : Option TaskRecord) → slice_get m.tasks t ≡ o → (x : TaskRecord) × (slice_get m.tasks t ≡ Some x)
    by_option (Some x) is = (x, is)
    by_option None is =
        let none = s.linked.beyond t is in
        let due : times_due m t ≡ cond (t == t) 1 0 + times t m.queue = ap (λ o. one_if_is o t + times t m.queue) on in
        absurd (omega (arith, none, due, on_true (t == t) 1 (eq-eqb t t refl)))

-- a machine is at rest, or moves on
pub rest_or_advance : (m : Machine) → IsSound m → (IsAtRest m × (move m ≡ m)) ⊎ Advances m (move m)
unfolding move
rest_or_advance m s = by_running m.running refl
  where
    by_queue : (q : List ℕ) → m.running ≡ None → m.queue ≡ q → (IsAtRest m × (begins m q ≡ m)) ⊎ Advances m (begins m q)
    by_queue [] off first = inl (record { queue = first; running = off }, refl)
    by_queue (t ∷ ts) off first = inr (turn_begins m t ts s off first)

    by_running : (o : Option ℕ) → m.running ≡ o → (IsAtRest m × (move_by m o ≡ m)) ⊎ Advances m (move_by m o)
    by_running None off = by_queue m.queue off refl
    by_running (Some t) on =
        let there = running_there m s t on in
        inr (subst (λ o. Advances m (goes_on m t o)) (sym there.1) (runs_on m t there.0 s on there.1))

pub sound_move : (m : Machine) → IsSound m → IsSound (move m)
sound_move m s = elim (rest_or_advance m s) [ inl rest ↦ subst IsSound (sym rest.1) s | inr more ↦ more.sound ]

pub sound_moves : (n : ℕ) (m : Machine) → IsSound m → IsSound (moves n m)
sound_moves zero m s = s
sound_moves (suc n) m s = sound_moves n (move m) (sound_move m s)

-- a machine after moves: nothing was added, and no more events were played than there was work
pub record Spends (m n : Machine) : Type 0 where
  pub adds : AddsNothing m n
  pub events : n.events + work n ≤ m.events + work m

spends_nothing : (m : Machine) → Spends m m
spends_nothing m = record { adds = record { semaphores = refl; tasks = refl; added = refl; allowance = refl }; events = omega arith }

pub spends_move : (m : Machine) → IsSound m → Spends m (move m)
spends_move m s = elim (rest_or_advance m s) [
  | inl rest ↦ subst (Spends m) (sym rest.1) (spends_nothing m)
  | inr more ↦ record { adds = more.adds; events = (let played = more.events in let less = more.less in omega (arith, played, less)) }
]

pub spends_moves : (n : ℕ) (m : Machine) → IsSound m → Spends m (moves n m)
spends_moves zero m s = spends_nothing m
spends_moves (suc n) m s =
    let first = spends_move m s in
    let rest = spends_moves n (move m) (sound_move m s) in
    record {
      adds = record {
        semaphores = rest.adds.semaphores ∙ first.adds.semaphores;
        tasks = rest.adds.tasks ∙ first.adds.tasks;
        added = rest.adds.added ∙ first.adds.added;
        allowance = rest.adds.allowance ∙ first.adds.allowance;
      };
      events = omega (arith, rest.events, first.events);
    }

pub same_count : (m : Machine) → IsSound m → length (move m).tasks ≡ length m.tasks
same_count m s = (spends_move m s).adds.tasks
