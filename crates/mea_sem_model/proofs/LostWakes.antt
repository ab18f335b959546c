-- what an event leaves of the futures, and of the wakers of those who wait
use Rattle.std.proofs.Common.{◌≡◌, ℕ, ◌+◌, ◌-◌, ◌<◌, ◌==◌, ◌||◌, ◌++◌, ◌⊎◌, inl, inr, Bool, true, false, cond, List, [], ◌∷◌, Option, Some, None, refl, ap, sym, subst, ◌∙◌, arith, is_some, if◌then◌else◌, nat_le}
use Rattle.std.specs.List.{flat_map, Contains}
use Rattle.std.specs.Option.{option_map}
use Rattle.std.specs.Ordering.{nat_cmp}
use Rattle.std.specs.FinMap.{FinMap, get, insert, remove}
use Rattle.std.proofs.lemmas.Bool.{eqb-true, eqb-false}
use Rattle.std.proofs.lemmas.Option.{cond_some}
use Rattle.std.proofs.lemmas.List.Elements.{Contains-append_left, Contains-append_right, Contains-push}
use Rattle.mea_family.specs.Family.{goes_on, Goes, NamesFutures}
use Rattle.mea_base.specs.Queue.{granted_in}
use Rattle.mea_family.specs.declared.answer.Answer.TheVariants as answers
use Rattle.mea_base.proofs.Maps.{inside, value_in, is_there, get-there, get-other, get-removed_other, removed_there}
use Rattle.mea_family.proofs.Causes.{known}
use Rattle.mea_events.specs.declared.sem_event.SemEvent.{SemEvent}
use Rattle.mea_events.specs.declared.sem_event.SemEvent.TheVariants as events
use Rattle.mea_sem_model.specs.Hall.{Hall, Future, Permit, FutureStage, New, Waiting, Granted, Cut, Who, Waiter, Debt, names, semaphore_at, queue_at, is_closed, free, staged, granted, waker_of, waker_of_future, waker_of_who, wakes_of, with_semaphore, everyone, closing, wakes_waiting}
use Rattle.mea_sem_model.specs.Cause.{cause_of}
use Rattle.mea_sem_model.specs.Step.{Outcome, quietly, pouring, with_future, without_future, with_permit, without_permit, taking, offers, try_of, try_and_forget, made_ready, queueing, open_poll, refusing, poll_at, poll_of, leaving, end_future, end_permit, end_of, lose_of, merge_of, split_of, released_to, step}
use Rattle.mea_sem_model.specs.Runs.{Run, IsSemRun, semaphores, waker_in, waker_at, waker_kept}
use Rattle.mea_sem_model.proofs.HallLemmas.{among, get-grant_all}
use Rattle.mea_sem_model.proofs.Closings.{get-closing}
use Rattle.mea_sem_model.proofs.Balanced as balance

-- ---- who is granted while it waits is woken
woken_one : (m : FinMap nat_cmp Future) (ws : List Who) (f w : ℕ) (x : Future) → get m f ≡ Some x → x.stage ≡ Waiting w → among ws f ≡ true
    → Contains (flat_map (waker_of_who m) ws) w
woken_one m [] f w x there waits h = absurd (cc)
woken_one m (who ∷ ws) f w x there waits h = elim (names who f)
    as (λ b. names who f ≡ b → (b || among ws f) ≡ true → Contains (waker_of_who m who ++ flat_map (waker_of_who m) ws) w) [
      | true ↦ λ e t. Contains-append_left (waker_of_who m who) (flat_map (waker_of_who m) ws) w
          (subst (λ vs. Contains vs w) (sym (waker who e)) (Contains-push [] w))
      | false ↦ λ e t. Contains-append_right (waker_of_who m who) (flat_map (waker_of_who m) ws) w (woken_one m ws f w x there waits t)
    ] refl h
  where
    waker : (v : Who) → names v f ≡ true → waker_of_who m v ≡ w ∷ []
    waker (Waiter g) e = ap (λ k. waker_of_future (get m k)) (eqb-true g f e) ∙ ap waker_of_future there ∙ ap waker_of waits
    waker Debt e = absurd (cc)

-- ---- what an event that polls nobody leaves of the futures
-- each future below i was there before, and still waits with its waker or that was woken
record Passes (h : Hall) (o : Outcome) (i : ℕ) : Type 0 where
  each : (f : ℕ) (y : Future) → f < i → get o.hall.futures f ≡ Some y
      → (x : Future) × (get h.futures f ≡ Some x) × ((w : ℕ) → x.stage ≡ Waiting w → (y.stage ≡ Waiting w) ⊎ Contains o.wakes w)

-- the futures are among those before, and nobody is woken
passes_some : (h : Hall) (o : Outcome) (i : ℕ) → ((f : ℕ) (y : Future) → f < i → get o.hall.futures f ≡ Some y → get h.futures f ≡ Some y) → Passes h o i
passes_some h o i some = record { each = λ f y less is. (y, some f y less is, λ w waits. inl waits) }

passes_same : (h : Hall) (o : Outcome) (i : ℕ) → o.hall.futures ≡ h.futures → Passes h o i
passes_same h o i same = passes_some h o i (λ f y less is. ap (λ m. get m f) (sym same) ∙ is)

passes_pour : (h g : Hall) (s n i : ℕ) → ((f : ℕ) (y : Future) → get g.futures f ≡ Some y → get h.futures f ≡ Some y) → Passes h (pouring g s n) i
passes_pour h g s n i some = record {
  each = λ f y less is.
      let ws = granted_in (queue_at g s) n in
      let at : cond (among ws f) (option_map granted (get g.futures f)) (get g.futures f) ≡ Some y = sym (get-grant_all ws g.futures f) ∙ is in
      by_grant f y (among ws f) (get g.futures f) refl refl at;
}
  where
    by_grant : (f : ℕ) (y : Future) (b : Bool) (o : Option Future) → among (granted_in (queue_at g s) n) f ≡ b → get g.futures f ≡ o
        → cond b (option_map granted o) o ≡ Some y
        → (x : Future) × (get h.futures f ≡ Some x) × ((w : ℕ) → x.stage ≡ Waiting w → (y.stage ≡ Waiting w) ⊎ Contains (wakes_of g s n) w)
    by_grant f y true None a is e = absurd (cc)
    by_grant f y false None a is e = absurd (cc)
    by_grant f y true (Some x) a is e = (x, some f x is, λ w waits. inr (woken_one g.futures (granted_in (queue_at g s) n) f w x is waits a))
    by_grant f y false (Some x) a is e = (x, some f x is, λ w waits. inl (ap (λ (z : Future). z.stage) (sym (inside e)) ∙ waits))

module _ (h : Hall) (i : ℕ) where
  ends_permit : (k : ℕ) (o : Option Permit) → Passes h (end_permit h k o) i
  ends_permit k None = passes_same h _ i refl
  ends_permit k (Some p) = passes_pour h (without_permit h k) p.semaphore p.size i (λ f y is. is)

  ends_future : (f : ℕ) (x : Future) (t : FutureStage) → Passes h (end_future h f x t) i
  ends_future f x New = passes_some h _ i (λ g y less is. removed_there h.futures f g y is)
  ends_future f x (Waiting u) = passes_pour h (leaving h f x) x.semaphore _ i (λ g y is. removed_there h.futures f g y is)
  ends_future f x Cut = passes_some h _ i (λ g y less is. removed_there h.futures f g y is)
  ends_future f x Granted = passes_pour h (without_future h f) x.semaphore x.demand i (λ g y is. removed_there h.futures f g y is)

  ends : (k : ℕ) (o : Option Future) → Passes h (end_of h k o) i
  ends k None = ends_permit k (get h.permits k)
  ends k (Some x) = ends_future k x x.stage

  loses : (p : ℕ) (o : Option Permit) → Passes h (lose_of h p o) i
  loses p None = passes_same h _ i refl
  loses p (Some x) = passes_same h _ i refl

  merges : (p q : ℕ) (o r : Option Permit) → Passes h (quietly (merge_of h p q o r) answers.Done) i
  merges p q None r = passes_same h _ i refl
  merges p q (Some x) None = passes_same h _ i refl
  merges p q (Some x) (Some y) = passes_same h _ i refl

  splits : (p n : ℕ) (o : Option Permit) → Passes h (split_of h i p n o) i
  splits p n None = passes_same h _ i refl
  splits p n (Some x) = elim (nat_le n x.size)
      as (λ b. Passes h (if b then quietly (with_permit (with_permit h p (record x { size = x.size - n })) i (record x { size = n })) answers.Held
      else quietly h answers.Lacking) i) [
        | true ↦ passes_same h _ i refl
        | false ↦ passes_same h _ i refl
      ]

  tries : (q n : ℕ) (plain : Bool) → Passes h (try_of h i q n plain) i
  tries q n plain = elim (offers h q n)
      as (λ b. Passes h (if b then quietly
      (with_permit (with_semaphore h q (taking (semaphore_at h q) n)) i (record { semaphore = q; size = n; plain = plain })) answers.Held
      else quietly h answers.Lacking) i) [
        | true ↦ passes_same h _ i refl
        | false ↦ passes_same h _ i refl
      ]

  tries_and_forgets : (q n : ℕ) → Passes h (try_and_forget h q n) i
  tries_and_forgets q n = elim (offers h q n)
      as (λ b. Passes h (if b then quietly
      (with_semaphore h q (record (semaphore_at h q) { free = free h q - n; forgotten = (semaphore_at h q).forgotten + n })) answers.Yes
      else quietly h answers.No) i) [
        | true ↦ passes_same h _ i refl
        | false ↦ passes_same h _ i refl
      ]

  closes : (q : ℕ) (b : Bool)
      → Passes h (if b then quietly h answers.Done else record { hall = closing h q; reply = answers.Done; wakes = wakes_waiting h q }) i
  closes q true = passes_same h _ i refl
  closes q false = record { each = λ f y less is. by_cut f y (among (everyone (queue_at h q)) f) (get h.futures f) refl refl (sym (get-closing h q f) ∙ is) }
    where
      by_cut : (f : ℕ) (y : Future) (b : Bool) (o : Option Future) → among (everyone (queue_at h q)) f ≡ b → get h.futures f ≡ o
          → cond b (option_map (staged Cut) o) o ≡ Some y
          → (x : Future) × (get h.futures f ≡ Some x) × ((w : ℕ) → x.stage ≡ Waiting w → (y.stage ≡ Waiting w) ⊎ Contains (wakes_waiting h q) w)
      by_cut f y true None a is e = absurd (cc)
      by_cut f y false None a is e = absurd (cc)
      by_cut f y true (Some x) a is e = (x, is, λ w waits. inr (woken_one h.futures (everyone (queue_at h q)) f w x is waits a))
      by_cut f y false (Some x) a is e = (x, is, λ w waits. inl (ap (λ (z : Future). z.stage) (sym (inside e)) ∙ waits))

  acquires : (x : Future) → Passes h (quietly (with_future h i x) answers.Made) i
  acquires x = passes_some h _ i (λ f y less is. sym (get-other h.futures i f x (λ same. absurd (omega arith))) ∙ is)

-- ---- what a poll of g with the waker v leaves of the futures
pub record Polled (h : Hall) (g v : ℕ) (o : Outcome) : Type 0 where
  pub others : (f : ℕ) → (g ≡ f → ⊥) → get o.hall.futures f ≡ get h.futures f
  pub places : o.reply ≡ answers.Pending → waker_kept (get o.hall.futures g) ≡ Some v

polled_ready : (h k : Hall) (g v : ℕ) → k.futures ≡ remove h.futures g → Polled h g v (quietly k answers.Ready)
polled_ready h k g v gone = record {
  others = λ f apart. ap (λ m. get m f) gone ∙ get-removed_other h.futures g f apart;
  places = λ pending. absurd (cc);
}

polled_refused : (h : Hall) (g v : ℕ) → Polled h g v (refusing h g)
polled_refused h g v = record { others = λ f apart. get-removed_other h.futures g f apart; places = λ pending. absurd (cc) }

polled_pending : (h k : Hall) (g v : ℕ) (x : Future) → k.futures ≡ insert h.futures g x → x.stage ≡ Waiting v → Polled h g v (quietly k answers.Pending)
polled_pending h k g v x put waiting = record {
  others = λ f apart. ap (λ m. get m f) put ∙ get-other h.futures g f x apart;
  places = λ pending. ap (λ m. waker_kept (get m g)) put ∙ ap waker_kept (get-there h.futures g x) ∙ ap waker_at waiting;
}

pub ready_futures : (h : Hall) (i f : ℕ) (x : Future) → (made_ready h i f x).futures ≡ remove h.futures f
ready_futures h i f x = elim x.forgets as (λ b.
    (if b then with_semaphore (without_future h f) x.semaphore
    (record (semaphore_at h x.semaphore) { forgotten = (semaphore_at h x.semaphore).forgotten + x.demand })
    else with_permit (without_future h f) i (record { semaphore = x.semaphore; size = x.demand; plain = x.plain })).futures ≡ remove h.futures f) [
      | true ↦ refl
      | false ↦ refl
    ]

polled_open : (h : Hall) (i g v : ℕ) (x : Future) → Polled h g v (open_poll h i g v x)
polled_open h i g v x = elim (nat_le x.demand (free h x.semaphore))
    as (λ b. Polled h g v (if b then quietly (made_ready (with_semaphore h x.semaphore (taking (semaphore_at h x.semaphore) x.demand)) i g x)
    answers.Ready else quietly (queueing h g v x) answers.Pending)) [
      | true ↦ polled_ready h _ g v (ready_futures (with_semaphore h x.semaphore (taking (semaphore_at h x.semaphore) x.demand)) i g x)
      | false ↦ polled_pending h _ g v (record x { stage = Waiting v }) refl refl
    ]

polled_first : (h : Hall) (i g v : ℕ) (x : Future) (b : Bool) → Polled h g v (if b then refusing h g else open_poll h i g v x)
polled_first h i g v x true = polled_refused h g v
polled_first h i g v x false = polled_open h i g v x

polled_at : (h : Hall) (i g v : ℕ) (x : Future) (t : FutureStage) → Polled h g v (poll_at h i g v x t)
polled_at h i g v x New = polled_first h i g v x (is_closed h x.semaphore)
polled_at h i g v x Cut = polled_refused h g v
polled_at h i g v x (Waiting u) = polled_pending h _ g v (record x { stage = Waiting v }) refl refl
polled_at h i g v x Granted = polled_ready h _ g v (ready_futures h i g x)

-- ---- each event
-- the event that polls f with the waker w
pub poll_is : (e : SemEvent) (f w : ℕ) → waker_in e f ≡ Some w → e ≡ events.Poll f w
poll_is (events.New n) f w is = absurd (cc)
poll_is (events.Free s) f w is = absurd (cc)
poll_is (events.Forget s n) f w is = absurd (cc)
poll_is (events.Forgetx s n) f w is = absurd (cc)
poll_is (events.Release s n) f w is = absurd (cc)
poll_is (events.Try s n) f w is = absurd (cc)
poll_is (events.Tryo s n) f w is = absurd (cc)
poll_is (events.Tryf s n) f w is = absurd (cc)
poll_is (events.Tryof s n) f w is = absurd (cc)
poll_is (events.Acq s n) f w is = absurd (cc)
poll_is (events.Acqo s n) f w is = absurd (cc)
poll_is (events.Acqf s n) f w is = absurd (cc)
poll_is (events.Acqof s n) f w is = absurd (cc)
poll_is (events.Poll g v) f w is =
    let same = cond_some (g == f) v w is in
    ap (λ k. events.Poll k v) (eqb-true g f same.0) ∙ ap (λ k. events.Poll f k) same.1
poll_is (events.End x) f w is = absurd (cc)
poll_is (events.Lose p) f w is = absurd (cc)
poll_is (events.Merge p q) f w is = absurd (cc)
poll_is (events.Split p n) f w is = absurd (cc)
poll_is (events.Size p) f w is = absurd (cc)
poll_is (events.Endsem s) f w is = absurd (cc)
poll_is (events.Ledger s) f w is = absurd (cc)
poll_is (events.Close s) f w is = absurd (cc)
poll_is (events.Closed s) f w is = absurd (cc)

-- a future that is polled lives
pub polls_living : (h : Hall) (e : SemEvent) → cause_of h e ≡ None → (f w : ℕ) → waker_in e f ≡ Some w → is_some (get h.futures f) ≡ true
polls_living h e cause f w polls = known _ (subst (λ d. cause_of h d ≡ None) (poll_is e f w polls) cause)

pub polled_by : (h : Hall) (i f w : ℕ) (o : Option Future) → is_some o ≡ true → Polled h f w (poll_of h i f w o)
polled_by h i f w None living = absurd (cc)
polled_by h i f w (Some x) living = polled_at h i f w x x.stage

pub places_waker : (h : Hall) (i : ℕ) (e : SemEvent) → cause_of h e ≡ None → (f w : ℕ) → waker_in e f ≡ Some w → (step h i e).reply ≡ answers.Pending
    → waker_kept (get (step h i e).hall.futures f) ≡ Some w
places_waker h i e cause f w polls =
    let living = polls_living h e cause f w polls in
    subst (λ d. (step h i d).reply ≡ answers.Pending → waker_kept (get (step h i d).hall.futures f) ≡ Some w) (sym (poll_is e f w polls))
    (polled_by h i f w (get h.futures f) living).places

-- a future whose waker is kept waits with it
waits_with : (o : Option Future) (w : ℕ) → waker_kept o ≡ Some w → (x : Future) × (o ≡ Some x) × (x.stage ≡ Waiting w)
waits_with None w kept = absurd (cc)
waits_with (Some x) w kept = (x, refl, by_stage x.stage kept)
  where
    by_stage : (t : FutureStage) → waker_at t ≡ Some w → t ≡ Waiting w
    by_stage New is = absurd (cc)
    by_stage (Waiting v) is = ap (λ (n : ℕ). Waiting n) (inside is)
    by_stage Granted is = absurd (cc)
    by_stage Cut is = absurd (cc)

pub waits_on : (h : Hall) (i : ℕ) (e : SemEvent) (f w v : ℕ) → waker_kept (get h.futures f) ≡ Some w → waker_in e f ≡ Some v → (step h i e).reply ≡ answers.Pending
waits_on h i e f w v kept polls =
    let there = waits_with (get h.futures f) w kept in
    ap (λ d. (step h i d).reply) (poll_is e f v polls) ∙ ap (λ o. (poll_of h i f v o).reply) there.1 ∙ ap (λ t. (poll_at h i f v there.0 t).reply) there.2

-- a future below i after an event was there before, and still waits with its waker, was polled or woken
pub record Leaves (h : Hall) (e : SemEvent) (i : ℕ) : Type 0 where
  pub was : (f : ℕ) → f < i → is_some (get (step h i e).hall.futures f) ≡ true → is_some (get h.futures f) ≡ true
  pub stays : (f w : ℕ) → f < i → is_some (get (step h i e).hall.futures f) ≡ true → waker_kept (get h.futures f) ≡ Some w → waker_in e f ≡ None
      → (waker_kept (get (step h i e).hall.futures f) ≡ Some w) ⊎ Contains (step h i e).wakes w

passing : (h : Hall) (e : SemEvent) (i : ℕ) → Passes h (step h i e) i → Leaves h e i
passing h e i passes = record {
  was = λ f less living.
      let y = value_in (get (step h i e).hall.futures f) living in
      let x = passes.each f y.0 less y.1 in
      is_there (get h.futures f) x.0 x.1;
  stays = λ f w less living kept polls.
      let y = value_in (get (step h i e).hall.futures f) living in
      let x = passes.each f y.0 less y.1 in
      let before = waits_with (get h.futures f) w kept in
      let same : before.0 ≡ x.0 = inside (sym before.1 ∙ x.1) in
      elim (x.2 w (ap (λ (z : Future). z.stage) (sym same) ∙ before.2)) [
        | inl waits ↦ inl (ap waker_kept y.1 ∙ ap waker_at waits)
        | inr woken ↦ inr woken
      ];
}

polling : (h : Hall) (i g v : ℕ) → is_some (get h.futures g) ≡ true → Leaves h (events.Poll g v) i
polling h i g v lived =
    let o : Outcome = step h i (events.Poll g v) in
    let gives : Polled h g v o = polled_by h i g v (get h.futures g) lived in
    record {
      was = λ f less living. elim (g == f) as (λ b. (g == f) ≡ b → is_some (get h.futures f) ≡ true) [
        | true ↦ λ e. ap (λ k. is_some (get h.futures k)) (sym (eqb-true g f e)) ∙ lived
        | false ↦ λ e. ap is_some (sym (gives.others f (eqb-false g f e))) ∙ living
      ] refl;
      stays = λ f w less living kept polls. elim (g == f)
          as (λ b. (g == f) ≡ b → cond b (Some v) None ≡ None → (waker_kept (get o.hall.futures f) ≡ Some w) ⊎ Contains o.wakes w) [
            | true ↦ λ e p. absurd (cc)
            | false ↦ λ e p. inl (ap waker_kept (gives.others f (eqb-false g f e)) ∙ kept)
          ] refl polls;
    }

module _ (h : Hall) (i : ℕ) where
  pub leaves : (e : SemEvent) → cause_of h e ≡ None → Leaves h e i
  leaves (events.New n) cause = passing h (events.New n) i (passes_same h _ i refl)
  leaves (events.Free s) cause = passing h (events.Free s) i (passes_same h _ i refl)
  leaves (events.Forget s n) cause = passing h (events.Forget s n) i (passes_same h _ i refl)
  leaves (events.Forgetx s n) cause = passing h (events.Forgetx s n) i (passes_same h _ i refl)
  leaves (events.Release s n) cause = passing h (events.Release s n) i (passes_pour h (released_to h s n) s n i (λ f y is. is))
  leaves (events.Try s n) cause = passing h (events.Try s n) i (tries h i s n true)
  leaves (events.Tryo s n) cause = passing h (events.Tryo s n) i (tries h i s n false)
  leaves (events.Tryf s n) cause = passing h (events.Tryf s n) i (tries_and_forgets h i s n)
  leaves (events.Tryof s n) cause = passing h (events.Tryof s n) i (tries_and_forgets h i s n)
  leaves (events.Acq s n) cause = passing h (events.Acq s n) i (acquires h i _)
  leaves (events.Acqo s n) cause = passing h (events.Acqo s n) i (acquires h i _)
  leaves (events.Acqf s n) cause = passing h (events.Acqf s n) i (acquires h i _)
  leaves (events.Acqof s n) cause = passing h (events.Acqof s n) i (acquires h i _)
  leaves (events.Poll g v) cause = polling h i g v (known _ cause)
  leaves (events.End x) cause = passing h (events.End x) i (ends h i x (get h.futures x))
  leaves (events.Lose p) cause = passing h (events.Lose p) i (loses h i p (get h.permits p))
  leaves (events.Merge p q) cause = passing h (events.Merge p q) i (merges h i p q (get h.permits p) (get h.permits q))
  leaves (events.Split p n) cause = passing h (events.Split p n) i (splits h i p n (get h.permits p))
  leaves (events.Size p) cause = passing h (events.Size p) i (passes_same h _ i refl)
  leaves (events.Endsem s) cause = passing h (events.Endsem s) i (passes_same h _ i refl)
  leaves (events.Ledger s) cause = passing h (events.Ledger s) i (passes_same h _ i refl)
  leaves (events.Close s) cause = passing h (events.Close s) i (closes h i s (is_closed h s))
  leaves (events.Closed s) cause = passing h (events.Closed s) i (passes_same h _ i refl)

-- ---- in the words of the laws
pub lives_below : (r : Run) → IsSemRun r → (f : ℕ) → is_some (get r.hall.futures f) ≡ true → f < r.next
lives_below r runs f living = (balance.kept r runs).below.futures f living

below_or_made : (r : Run) (i : ℕ) (e : SemEvent) → IsSemRun r → cause_of r.hall e ≡ None → (f : ℕ) → f < i + 1
    → is_some (get (step r.hall i e).hall.futures f) ≡ true → (is_some (get r.hall.futures f) ≡ true) ⊎ (f ≡ i)
below_or_made r i e runs cause f less living = elim (f == i) as (λ b. (f == i) ≡ b → (is_some (get r.hall.futures f) ≡ true) ⊎ (f ≡ i)) [
  | true ↦ λ t. inr (eqb-true f i t)
  | false ↦ λ t. inl ((leaves r.hall i e cause).was f (let apart = eqb-false f i t in omega (arith, less, apart)) living)
] refl

pub names_futures : NamesFutures semaphores
names_futures = record {
  polls = λ h e cause f w polls. polls_living h e cause f w polls;
  below = λ r runs f living. lives_below r runs f living;
  made = λ r i e runs later cause f living.
      below_or_made r i e runs cause f (lives_below (goes_on semaphores r i e) (Goes r i e runs later cause) f living) living;
}
