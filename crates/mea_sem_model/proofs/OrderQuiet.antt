-- an event that polls nobody keeps that order
use Rattle.std.proofs.Common.{◌≡◌, ℕ, ◌<◌, ◌≤◌, ◌||◌, ◌⊎◌, inl, inr, Bool, true, false, cond, Option, Some, None, refl, ap, sym, ◌∙◌, arith, is_some, subst, unwrap_or}
use Rattle.std.specs.Option.{IsSome}
use Rattle.std.specs.FinMap.{get}
use Rattle.mea_family.specs.Family.{told, goes_on, Goes, last_waker}
use Rattle.mea_base.proofs.Maps.{inside, is_there, is_absent}
use Rattle.mea_base.proofs.Tests.{at_same, at_apart}
use Rattle.mea_events.specs.declared.sem_event.SemEvent.{SemEvent}
use Rattle.mea_events.specs.declared.sem_event.SemEvent.TheVariants as events
use Rattle.mea_sem_model.specs.Hall.{Future, FutureStage, New, Waiting, Granted, Cut, queue_at, is_closed, staged, everyone}
use Rattle.mea_sem_model.specs.Cause.{cause_of}
use Rattle.mea_sem_model.specs.Step.{step}
use Rattle.mea_sem_model.specs.Valid.{SuitsClosed}
use Rattle.mea_sem_model.specs.Runs.{ToldSemEvent, Run, IsSemRun, semaphores, waker_in}
use Rattle.mea_sem_model.specs.Order.{acquire_in, asked, first_poll, was_ready, ends, was_ended}
use Rattle.mea_sem_model.proofs.HallLemmas.{among}
use Rattle.mea_sem_model.proofs.Keeps.{below_later}
use Rattle.mea_sem_model.proofs.Tallies.{tallies}
use Rattle.mea_sem_model.proofs.Balanced as balance
use Rattle.mea_sem_model.proofs.Ranks.{crosses, ranked_alike}
use Rattle.mea_sem_model.proofs.Granting.{Granting, grants}
use Rattle.mea_sem_model.proofs.OrderKept.{rank, first_unpolled, ready_unpolled, was_refused, refused_unpolled, refused_polled, waker_unpolled, lags, HasPermits, Ordered, permits_polled, waits_here, staged_semaphore, staged_demand, not_staged}

or_right : (a b : Bool) → b ≡ true → (a || b) ≡ true
or_right true b h = refl
or_right false b h = h

-- ---- an event that polls nobody
module _ (r : Run) (i : ℕ) (e : SemEvent) (o : Ordered r) (runs : IsSemRun r) (later : r.next ≤ i) (cause : cause_of r.hall e ≡ None)
    (quiet : (f : ℕ) → waker_in e f ≡ None) where
  abbrev next : Run
  next = goes_on semaphores r i e

  abbrev t : ToldSemEvent
  t = told semaphores r i e

  kept : balance.Kept r
  kept = balance.kept r runs

  kept_next : balance.Kept next
  kept_next = balance.kept next (Goes r i e runs later cause)

  given : Granting r.hall (step r.hall i e) i e
  given = grants r.hall i kept.matched kept.orderly (below_later r.hall r.next i later kept.below) e cause quiet

  same_first : (f : ℕ) → first_poll next.trace f ≡ first_poll r.trace f
  same_first f = first_unpolled t r.trace f (quiet f)

  same_rank : (f : ℕ) → rank next.trace f ≡ rank r.trace f
  same_rank f = ap (λ p. unwrap_or p 0) (same_first f)

  was_polled : (f : ℕ) → IsSome (first_poll next.trace f) → IsSome (first_poll r.trace f)
  was_polled f some = ap is_some (sym (same_first f)) ∙ some

  -- what an older future asked for
  asked_before : (f : ℕ) → f < r.next → asked next.trace f ≡ asked r.trace f
  asked_before f less = at_apart i f (acquire_in e) (asked r.trace f) (λ same. absurd (omega (arith, less, later, same)))

  lives_low : (f : ℕ) (x : Future) → get r.hall.futures f ≡ Some x → f < r.next
  lives_low f x is = kept.below.futures f (is_there (get r.hall.futures f) x is)

  -- nobody who came to a stage is at one of these
  unstaged : (t : FutureStage) → (Granted ≡ t → ⊥) → (Cut ≡ t → ⊥) → given.stage ≡ t → ⊥
  unstaged t granted cut is = by_kind given.kind
    where
      by_kind : (given.stage ≡ Granted) ⊎ ((given.stage ≡ Cut) × (e ≡ events.Close given.of)) → ⊥
      by_kind (inl done) = granted (sym done ∙ is)
      by_kind (inr done) = cut (sym done.0 ∙ is)

  -- who waits now waited before
  waited : (f w : ℕ) (y : Future) → get next.hall.futures f ≡ Some y → y.stage ≡ Waiting w
      → (x : Future) × (get r.hall.futures f ≡ Some x) × (x.semaphore ≡ y.semaphore) × (x.stage ≡ Waiting w)
  waited f w y is waits = elim (given.each f y is) [
    | inl x ↦
        let stage : (cond (among given.who f) (staged given.stage x.0) x.0).stage ≡ Waiting w = ap (λ (z : Future). z.stage) (sym x.2) ∙ waits in
        let same = not_staged given.stage (among given.who f) x.0
        (λ done. unstaged (Waiting w) (λ no. absurd (cc)) (λ no. absurd (cc)) (sym done ∙ stage)) in (
          x.0,
          x.1,
          sym (staged_semaphore given.stage (among given.who f) x.0) ∙ ap (λ (z : Future). z.semaphore) (sym x.2),
          sym same.1 ∙ stage,
        )
    | inr new ↦ absurd (let fresh = new.1 in cc)
  ]

  quiet_polled : (f : ℕ) (y : Future) → get next.hall.futures f ≡ Some y → (y.stage ≡ New → ⊥) → IsSome (first_poll next.trace f)
  quiet_polled f y is old = ap is_some (same_first f) ∙ elim (given.each f y is) [
    | inl x ↦ by_grant x.0 x.1 (among given.who f) refl x.2
    | inr new ↦ absurd (old new.1)
  ]
    where
      by_grant : (x : Future) → get r.hall.futures f ≡ Some x → (b : Bool) → among given.who f ≡ b → y ≡ cond b (staged given.stage x) x → IsSome (first_poll r.trace f)
      by_grant x at true a same = let z = given.got f a in o.polled f z.0 z.2 (λ new. absurd (let waits = z.4 in cc))
      by_grant x at false a same = o.polled f x at (λ new. old (ap (λ (z : Future). z.stage) same ∙ new))

  quiet_gone : (f : ℕ) → IsSome (first_poll next.trace f) → get next.hall.futures f ≡ None
      → (was_ready next.trace f ≡ true) ⊎ ((was_ended next.trace f ≡ true) ⊎ (was_refused next.trace f ≡ true))
  quiet_gone f some none = by_option (get r.hall.futures f) refl
    where
      by_case : (was_ready r.trace f ≡ true) ⊎ ((was_ended r.trace f ≡ true) ⊎ (was_refused r.trace f ≡ true))
          → (was_ready next.trace f ≡ true) ⊎ ((was_ended next.trace f ≡ true) ⊎ (was_refused next.trace f ≡ true))
      by_case (inl was) = inl (ready_unpolled t r.trace f (quiet f) ∙ was)
      by_case (inr (inl was)) = inr (inl (or_right (ends e f) (was_ended r.trace f) was))
      by_case (inr (inr was)) = inr (inr (refused_unpolled t r.trace f (quiet f) ∙ was))

      by_option : (p : Option Future) → get r.hall.futures f ≡ p
          → (was_ready next.trace f ≡ true) ⊎ ((was_ended next.trace f ≡ true) ⊎ (was_refused next.trace f ≡ true))
      by_option None is = by_case (o.gone f (was_polled f some) is)
      by_option (Some x) is = inr (inl (ap (λ b. b || was_ended r.trace f) (given.ended f (is_there (get r.hall.futures f) x is) none)))

  -- who has its permits now had them before, or waited and is granted
  had_or_waited : (g s n : ℕ) → asked next.trace g ≡ Some (s, n) → HasPermits next g
      → HasPermits r g ⊎ ((among given.who g ≡ true) × (given.stage ≡ Granted) × (s ≡ given.of) × (is_closed r.hall s ≡ false) × (g < r.next))
  had_or_waited g s n asks (inl was) = inl (inl (sym (ready_unpolled t r.trace g (quiet g)) ∙ was))
  had_or_waited g s n asks (inr z) = elim (given.each g z.0 z.1) [
    | inl x ↦ by_grant x.0 x.1 (among given.who g) refl (ap (λ (u : Future). u.stage) (sym x.2) ∙ z.2)
    | inr new ↦ absurd (let fresh = new.1 in let done = z.2 in cc)
  ]
    where
      by_grant : (x : Future) → get r.hall.futures g ≡ Some x → (b : Bool) → among given.who g ≡ b → (cond b (staged given.stage x) x).stage ≡ Granted
          → HasPermits r g ⊎ ((among given.who g ≡ true) × (given.stage ≡ Granted) × (s ≡ given.of) × (is_closed r.hall s ≡ false) × (g < r.next))
      by_grant x at false a done = inl (inr (x, at, done))
      by_grant x at true a done =
          let z = given.got g a in
          let mine : ◌≡◌ {A = Option (ℕ × ℕ)} (Some (z.0.semaphore, z.0.demand)) (Some (s, n)) = sym (o.asks g z.0 z.2)
          ∙ sym (asked_before g (lives_low g z.0 z.2)) ∙ asks in
          let of : z.0.semaphore ≡ s = ap (λ (p : ℕ × ℕ). p.0) (inside mine) in
          let open_still : is_closed r.hall z.0.semaphore ≡ false = subst (SuitsClosed (is_closed r.hall z.0.semaphore)) z.4 (kept.orderly.closed g z.0 z.2) in
          inr (a, done, sym of ∙ z.3, ap (is_closed r.hall) (sym of) ∙ open_still, lives_low g z.0 z.2)

  -- who lags now lagged before; or waited, and is cut
  lagged : (f : ℕ) (y : Future) → get next.hall.futures f ≡ Some y → lags y.stage ≡ true
      → (x : Future) × (get r.hall.futures f ≡ Some x) × (x.semaphore ≡ y.semaphore) × (lags x.stage ≡ true)
      × ((given.stage ≡ Granted) → x.stage ≡ y.stage)
  lagged f y is behind = elim (given.each f y is) [
    | inl x ↦ by_stage x.0 x.1 (among given.who f) refl x.2
    | inr new ↦ absurd (let no : lags y.stage ≡ false = ap lags new.1 in cc)
  ]
    where
      by_stage : (x : Future) → get r.hall.futures f ≡ Some x → (b : Bool) → among given.who f ≡ b → y ≡ cond b (staged given.stage x) x
          → (x : Future) × (get r.hall.futures f ≡ Some x) × (x.semaphore ≡ y.semaphore) × (lags x.stage ≡ true) × ((given.stage ≡ Granted) → x.stage ≡ y.stage)
      by_stage x at false a same = (
        x,
        at,
        ap (λ (z : Future). z.semaphore) (sym same),
        ap (λ (z : Future). lags z.stage) (sym same) ∙ behind,
        λ done. ap (λ (z : Future). z.stage) (sym same),
      )
      by_stage x at true a same =
          let z = given.got f a in
          let one : z.0 ≡ x = inside (sym z.2 ∙ at) in (
            x,
            at,
            ap (λ (u : Future). u.semaphore) (sym same),
            ap (λ (u : Future). lags u.stage) (sym one) ∙ ap lags z.4,
            λ done. absurd (let no : lags y.stage ≡ false = ap (λ (u : Future). lags u.stage) same ∙ ap lags done in cc),
          )

  quiet_late : (g s n : ℕ) → asked next.trace g ≡ Some (s, n) → 0 < n → HasPermits next g → (f : ℕ) (y : Future) → get next.hall.futures f ≡ Some y
      → y.semaphore ≡ s → lags y.stage ≡ true → rank next.trace g < rank next.trace f
  quiet_late g s n asks some has f y is of behind = elim (had_or_waited g s n asks has) [
    | inl had ↦
        let less = o.late g s n (sym (asked_before g (o.names g (permits_polled r o g had))) ∙ asks) some had f before.0 before.1 (before.2
        ∙ of) before.3 in
        omega (arith, less, same_rank g, same_rank f)
    | inr now ↦ by_stage y.stage refl (before.4 now.1) now.0 now.2 now.3
  ]
    where
      before : (x : Future) × (get r.hall.futures f ≡ Some x) × (x.semaphore ≡ y.semaphore) × (lags x.stage ≡ true) × ((given.stage ≡ Granted) → x.stage ≡ y.stage)
      before = lagged f y is behind

      by_stage : (u : FutureStage) → y.stage ≡ u → before.0.stage ≡ y.stage → among given.who g ≡ true → s ≡ given.of → is_closed r.hall s ≡ false
          → rank next.trace g < rank next.trace f
      by_stage New e same a here open_still = absurd (let no : lags y.stage ≡ false = ap lags e in cc)
      by_stage Granted e same a here open_still = absurd (let no : lags y.stage ≡ false = ap lags e in cc)
      by_stage (Waiting w) e same a here open_still =
          let less : rank r.trace g < rank r.trace f = crosses (rank r.trace) given.who (everyone (queue_at next.hall given.of)) g f
          (given.order (rank r.trace) o.ranked) a
          (waits_here next.hall kept_next.matched given.of f w y is (of ∙ here) e) in
          omega (arith, less, same_rank g, same_rank f)
      by_stage Cut e same a here open_still =
          let shut : is_closed r.hall before.0.semaphore ≡ true = subst (SuitsClosed (is_closed r.hall before.0.semaphore)) (same
          ∙ e) (kept.orderly.closed f before.0 before.1) in
          absurd (let closed : is_closed r.hall s ≡ true = ap (is_closed r.hall) (sym of ∙ sym before.2) ∙ shut in cc)

  pub quiet_ordered : Ordered next
  quiet_ordered = record {
    asks = λ f y is. elim (given.each f y is) [
      | inl x ↦
          let of : y.semaphore ≡ x.0.semaphore = ap (λ (z : Future). z.semaphore) x.2 ∙ staged_semaphore given.stage (among given.who f) x.0 in
          let n : y.demand ≡ x.0.demand = ap (λ (z : Future). z.demand) x.2 ∙ staged_demand given.stage (among given.who f) x.0 in
          asked_before f (lives_low f x.0 x.1) ∙ o.asks f x.0 x.1 ∙ (λ k. Some (sym of k, sym n k))
      | inr new ↦ at_same i f (acquire_in e) (asked r.trace f) (sym new.0) ∙ new.2
    ];
    unpolled = λ f y is fresh. same_first f ∙ elim (given.each f y is) [
      | inl x ↦
          let stage : (cond (among given.who f) (staged given.stage x.0) x.0).stage ≡ New = ap (λ (z : Future). z.stage) (sym x.2) ∙ fresh in
          let same = not_staged given.stage (among given.who f) x.0 (λ done. unstaged New (λ no. absurd (cc)) (λ no. absurd (cc)) (sym done ∙ stage)) in
          o.unpolled f x.0 x.1 (sym same.1 ∙ stage)
      | inr new ↦ is_absent (first_poll r.trace f) (λ some. absurd (let low = o.names f some in let same = new.0 in omega (arith, low, same, later)))
    ];
    polled = quiet_polled;
    waker = λ f w y is waits. let x = waited f w y is waits in waker_unpolled t r.trace f (quiet f) ∙ o.waker f w x.0 x.1 x.3;
    gone = quiet_gone;
    names = λ f some. let low = o.names f (was_polled f some) in omega (arith, low, later);
    early = λ f j is. let low = o.early f j (sym (same_first f) ∙ is) in omega (arith, low, later);
    ranked = λ s. ranked_alike (rank r.trace) (rank next.trace) (everyone (queue_at next.hall s)) (λ f a. same_rank f) (given.ranked (rank r.trace) o.ranked s);
    late = quiet_late;
    late_refused = λ g s n asks some has f m apart also was.
        let old : was_refused r.trace f ≡ true = sym (refused_unpolled t r.trace f (quiet f)) ∙ was in
        let before : asked r.trace f ≡ Some (s, m) = sym (asked_before f (o.names f (refused_polled r.trace f old))) ∙ also in
        elim (had_or_waited g s n asks has) [
          | inl had ↦
              let less = o.late_refused g s n (sym (asked_before g (o.names g (permits_polled r o g had))) ∙ asks) some had f m apart before old in
              omega (arith, less, same_rank g, same_rank f)
          | inr now ↦ absurd (let shut = o.shut f s m before old in let open_still = now.3 in cc)
        ];
    shut = λ f s m asks was.
        let old : was_refused r.trace f ≡ true = sym (refused_unpolled t r.trace f (quiet f)) ∙ was in
        let low = o.names f (refused_polled r.trace f old) in
        (tallies r.hall i s (below_later r.hall r.next i later kept.below) e).closed (o.shut f s m (sym (asked_before f low) ∙ asks) old);
  }
