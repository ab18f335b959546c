-- those who are granted are woken, each once
use Rattle.std.proofs.Common.{◌≡◌, ℕ, ◌+◌, ◌<◌, ◌≤◌, ◌==◌, inl, inr, true, cond, List, [], ◌∷◌, ◌++◌, Option, Some, None, refl, ap, sym, subst, ◌∙◌, arith, slice_get}
use Rattle.std.specs.List.{flat_map}
use Rattle.std.specs.Ordering.{nat_cmp}
use Rattle.std.specs.FinMap.{FinMap, get, insert}
use Rattle.std.proofs.lemmas.Bool.{eq-eqb, ne_eqb}
use Rattle.std.proofs.lemmas.List.Sums.{sum_by-cons}
use Rattle.mea_base.proofs.Maps.{by_put, inside, get-there, get-other}
use Rattle.mea_base.proofs.Tests.{on_true, on_false}
use Rattle.mea_base.specs.Queue.{granted_in}
use Rattle.mea_events.specs.declared.sem_event.SemEvent.TheVariants as events
use Rattle.mea_sem_model.specs.Hall.{Hall, Future, Waiting, Granted, Who, Waiter, Debt, names as is_named_by, granted, grant_all, stage_if, waker_of, waker_of_future, waker_of_who, queue_at}
use Rattle.mea_sem_model.specs.Step.{released_to, step}
use Rattle.mea_sem_model.specs.Valid.{IsValid, IsBelow, waits_at}
use Rattle.mea_sem_model.proofs.HallLemmas.{among}
use Rattle.mea_sem_model.proofs.Matched.{IsMatched, matched, granted_waited, is_waiting, one_at_most}
use Rattle.mea_sem_model.proofs.Granting.{waiting_stage}
use Rattle.mea_sem_model.proofs.Orderly.{orderly}
use Rattle.mea_sem_model.proofs.Events.{counted_released, named_there}
use Rattle.mea_sem_model.proofs.Pours.{mentions, count-pour, among_mentions}
use Rattle.mea_sem_model.proofs.Ranks.{among_here, among_later}
use Rattle.mea_sem_model.specs.Cause.{is_named}
use Rattle.mea_task_core.specs.declared.phase.Phase.TheVariants.{Waits, Woken}
use Rattle.mea_task_core.specs.Task.{TaskRecord, at_phase, woken_phase, is_active, future_in}
use Rattle.mea_task_core.specs.Machine.{wake_at, woken}
use Rattle.mea_task_core.specs.Sound.{AreLinked, Has, IsFutureOf, one_if, times}
use Rattle.mea_task_core.proofs.Links.{Changes, one_changes, linked_due}

-- ---- one is granted
module _ (F : FinMap nat_cmp Future) (names : List ℕ) (tasks : List TaskRecord) (d : ℕ → ℕ) (f w : ℕ) (y : Future) (l : AreLinked F names tasks d) (is : get F f ≡ Some y)
    (stage : y.stage ≡ Waiting w) where
  abbrev waiter : TaskRecord
  waiter = (l.waits f w y is stage).0

  at : slice_get tasks w ≡ Some waiter
  at = (l.waits f w y is stage).1

  phase : waiter.phase ≡ Waits f
  phase = (l.waits f w y is stage).2

  abbrev woken_one : TaskRecord
  woken_one = at_phase waiter (woken_phase waiter.phase)

  phase_then : woken_one.phase ≡ Woken f
  phase_then = ap woken_phase phase

  its : (g : ℕ) → future_in waiter.phase ≡ Some g → f ≡ g
  its g own = inside (sym (ap future_in phase) ∙ own)

  had : IsFutureOf F names waiter f (Waiting w)
  had = subst (λ p. Has F names w waiter p) phase (l.has w waiter at)

  changes : Changes F (insert F f (granted y)) names d (λ u. d u + cond (w == u) 1 0) w waiter woken_one
  changes = record {
    steps = λ k z there. there;
    here =
        let before : d w ≡ 0 = l.counted w waiter at ∙ ap (λ p. one_if (is_active p)) phase in
        let after : one_if (is_active woken_one.phase) ≡ 1 = ap (λ p. one_if (is_active p)) phase_then in
        omega (arith, before, after, on_true (w == w) 1 (eq-eqb w w refl));
    others = λ u apart. omega (arith, on_false (w == u) 1 (ne_eqb w u apart));
    has = subst (λ p. Has (insert F f (granted y)) names w woken_one p) (sym phase_then) (record {
      place = had.place;
      demand = had.demand;
      next = had.next;
      known = had.known;
      is = get-there F f (granted y) ∙ ap (λ z. Some (granted z)) (inside (sym is ∙ had.is));
    });
    still = λ g z there other. get-other F f g (granted y) (λ same. other (ap future_in phase ∙ ap Some same)) ∙ there;
    waits = λ g v z there waiting. inr (by_put F f (granted y) (λ k o. o ≡ Some z → (get F k ≡ Some z) × (future_in waiter.phase ≡ Some k → ⊥))
        (λ same. absurd (let none : Granted ≡ Waiting v = ap (λ (q : Future). q.stage) (inside same) ∙ waiting in cc))
        (λ k apart was. (was, λ own. apart (its k own))) g there);
    own = λ g own. inl (ap future_in phase ∙ sym (ap future_in phase_then) ∙ own);
  }

  pub one_woken : AreLinked (insert F f (granted y)) names (wake_at tasks w (slice_get tasks w)) (λ u. d u + cond (w == u) 1 0)
  one_woken = subst (λ o. AreLinked (insert F f (granted y)) names (wake_at tasks w o) (λ u. d u + cond (w == u) 1 0)) (sym at)
      (one_changes F (insert F f (granted y)) names tasks d (λ u. d u + cond (w == u) 1 0) w waiter woken_one l at changes)

-- ---- all are granted
-- a future of these in F as it is in E, where it waits
abbrev pub WaitsAlike : FinMap nat_cmp Future → FinMap nat_cmp Future → ℕ → Type 0
WaitsAlike E F f = (y : Future) × (w : ℕ) × (get E f ≡ Some y) × (y.stage ≡ Waiting w) × (get F f ≡ Some y)

pub all_woken : (names : List ℕ) (E : FinMap nat_cmp Future) (ws : List Who) (F : FinMap nat_cmp Future) (tasks : List TaskRecord) (d : ℕ → ℕ) → AreLinked F names tasks d
    → ((f : ℕ) → mentions ws f ≤ 1) → ((f : ℕ) → among ws f ≡ true → WaitsAlike E F f)
    → AreLinked (grant_all ws F) names (woken tasks (flat_map (waker_of_who E) ws)) (λ u. d u + times u (flat_map (waker_of_who E) ws))
all_woken names E [] F tasks d l once alike = linked_due F names tasks d _ (λ u. omega arith) l
all_woken names E (Debt ∷ ws) F tasks d l once alike =
    all_woken names E ws F tasks d l (λ f. let all = once f in omega (arith, all, sum_by-cons {X = Who} (λ w. cond (is_named_by w f) 1 0) Debt ws)) alike
all_woken names E (Waiter f ∷ ws) F tasks d l once alike =
    subst (λ vs. AreLinked (grant_all ws (stage_if Granted F f (get F f))) names (woken tasks (vs ++ flat_map (waker_of_who E) ws)) (λ u. d u + times u (vs ++ flat_map (waker_of_who E) ws)))
    (sym wakers)
    (subst (λ m. AreLinked (grant_all ws m) names (woken tasks (here.1 ∷ flat_map (waker_of_who E) ws)) (λ u. d u + times u (here.1 ∷ flat_map (waker_of_who E) ws)))
    (sym (ap (stage_if Granted F f) here.4))
    (linked_due _ names _ _ _ (λ u. omega (arith, sum_by-cons {X = ℕ} (λ v. cond (v == u) 1 0) here.1 (flat_map (waker_of_who E) ws)))
    (all_woken names E ws (insert F f (granted here.0)) (wake_at tasks here.1 (slice_get tasks here.1)) (λ u. d u + cond (here.1 == u) 1 0)
    (one_woken F names tasks d f here.1 here.0 l here.4 here.3) once_more still)))
  where
    here : WaitsAlike E F f
    here = alike f (among_here f ws)

    wakers : waker_of_future (get E f) ≡ here.1 ∷ []
    wakers = ap waker_of_future here.2 ∙ ap waker_of here.3

    once_more : (g : ℕ) → mentions ws g ≤ 1
    once_more g = let all = once g in omega (arith, all, sum_by-cons {X = Who} (λ w. cond (is_named_by w g) 1 0) (Waiter f) ws)

    -- f does not stand there again
    elsewhere : (g : ℕ) → among ws g ≡ true → f ≡ g → ⊥
    elsewhere g a same =
        let all = once g in
        let again = among_mentions ws g a in
        absurd (omega (arith, all, again, on_true (f == g) 1 (eq-eqb f g same), sum_by-cons {X = Who} (λ w. cond (is_named_by w g) 1 0) (Waiter f) ws))

    still : (g : ℕ) → among ws g ≡ true → WaitsAlike E (insert F f (granted here.0)) g
    still g a =
        let was = alike g (among_later f g ws a) in
        (was.0, was.1, was.2, was.3, get-other F f g (granted here.0) (elsewhere g a) ∙ was.4)

-- ---- a release
module _ (h : Hall) (i q n : ℕ) (v : IsValid h) (low : IsBelow h i) (named : is_named h q ≡ true) where
  abbrev counted : Hall
  counted = released_to h q n

  counted_matched : IsMatched counted
  counted_matched = (counted_released h i (matched h v) (orderly h v) low q n (named_there h q named)).matched

  abbrev who : List Who
  who = granted_in (queue_at counted q) n

  who_waits : (f : ℕ) → among who f ≡ true → WaitsAlike h.futures h.futures f
  who_waits f a = by_option (get h.futures f) refl (granted_waited counted q n counted_matched f a)
    where
      by_option : (o : Option Future) → get h.futures f ≡ o → 0 < waits_at q o → WaitsAlike h.futures h.futures f
      by_option None is some = absurd (omega (arith, some))
      by_option (Some y) is some =
          let waiting = is_waiting q y some in
          let stage = waiting_stage y.stage waiting.1 in
          (y, stage.0, is, stage.1, is)

  who_once : (f : ℕ) → mentions who f ≤ 1
  who_once f = omega (arith, count-pour (queue_at counted q) n f, counted_matched.once q f, one_at_most q (get h.futures f))

  -- tasks stay linked over a release, and those whom it wakes are due
  pub release_links : (names : List ℕ) (tasks : List TaskRecord) (d : ℕ → ℕ) → AreLinked h.futures names tasks d
      → AreLinked (step h i (events.Release q n)).hall.futures names (woken tasks (step h i (events.Release q n)).wakes) (λ u. d u + times u (step h i (events.Release q n)).wakes)
  release_links names tasks d l = all_woken names h.futures who h.futures tasks d l who_once who_waits
