-- what the events on futures leave of a `SemFamily`
use Rattle.std.proofs.Common.{inl, inr, ◌≡◌, ℕ, ◌+◌, ◌-◌, ◌^◌, ◌<◌, ◌≤◌, ◌==◌, Bool, true, false, cond, [], refl, ap, sym, subst, ◌∙◌, arith, Some, None, nat_le, if◌then◌else◌}
use Rattle.std.specs.Option.{option_map}
use Rattle.std.specs.FinMap.{get, insert, remove}
use Rattle.std.proofs.lemmas.Bool.{le-leb, lt-leb}
use Rattle.mea_family.specs.declared.answer.Answer.TheVariants as answers
use Rattle.mea_base.specs.Named.{named, at, ChangesAt}
use Rattle.mea_base.specs.Totals.{weight}
use Rattle.mea_base.proofs.NamedMaps.{named_put, get-seen, kept-at, found, kept-changed}
use Rattle.mea_base.proofs.Totals.{total-remove}
use Rattle.mea_base.proofs.Tests.{at_same}
use Rattle.mea_events.specs.declared.sem_event.SemEvent.{SemEvent}
use Rattle.mea_events.specs.declared.sem_event.SemEvent.TheVariants as events
use Rattle.mea_sem_model.specs.Hall.{Hall, Semaphore, Future, FutureStage, New, Waiting, Granted, Cut, semaphore_at, queue_at, is_closed, with_semaphore, free, held, paid_to}
use Rattle.mea_sem_model.specs.Cause.{cause_of}
use Rattle.mea_sem_model.specs.Valid.{Fits}
use Rattle.mea_sem_model.specs.Step.{step, quietly, taking, with_future, queueing, first_poll, open_poll, refusing, made_ready, poll_of, acquire_of}
use Rattle.mea_sem_core.specs.declared.acquire.Acquire.{Acquire}
use Rattle.mea_sem_core.specs.declared.acquire.Acquire.TheVariants as acquires
use Rattle.mea_sem_core.specs.Acquire.{demand_of}
use Rattle.mea_sem_core.specs.Core as cores
use Rattle.mea_sem_core.specs.Calls.{Belongs, IsRefused, after_refusal}
use Rattle.mea_sem.specs.Entries.{IsReady, finished}
use Rattle.mea_sem.specs.declared.entries.SemaphoreEntry.{SemaphoreEntry}
use Rattle.mea_sem.specs.declared.entries.FutureEntry.{FutureEntry}
use Rattle.mea_sem.specs.declared.entries.PermitEntry.{PermitEntry}
use Rattle.mea_sem.specs.Store.{Store, permit_of, store_of, queue_of, semaphore_of, stage_of, IsHome, IsOpen, at_stage}
use Rattle.mea_sem.proofs.Inside.{Inside}
use Rattle.mea_sem.specs.Play.{Play}
use Rattle.mea_sem.proofs.Stages.{stage_granted, stage_cut, stage_waits}
use Rattle.mea_sem.proofs.Seen.{seen_at}
use Rattle.mea_sem.proofs.Gone.{seen_future, Leaves, leaves_new, leaves_granted}
use Rattle.mea_sem.proofs.PlaysPermits.{as_it_was}
use Rattle.mea_sem.proofs.Lives.{live-seen}
use Rattle.mea_sem.proofs.PlaysReady.{plays_ready, plays_ready_forgetting, future_counts}
use Rattle.mea_sem.proofs.Refusals.{future_known}
use Rattle.mea_sem.proofs.Keeping.{Plays}
use Rattle.mea_sem.proofs.Endings.{missing, no_entry}
use Rattle.mea_sem.proofs.Meets.{registered_in, semaphores_in, futures_in, permits_in, store_in, hall_in, IsKeptIn, MeetsSemaphore, MeetsFuture, Done, its_semaphore, later, to_kept, done, done_quietly}
use Rattle.mea_sem.proofs.Standing.{Semaphores, Futures, Permits, semaphores_of}
use Rattle.mea_sem.proofs.PlaysFutures.{plays_acquire}
use Rattle.mea_sem.proofs.PlaysEnds.{PlaysWith, plays_gone_new, plays_gone_cut}
use Rattle.mea_sem.proofs.StandingSemaphores.{small_forgotten}

-- ---- what an event without a cause finds
pub its_home : (a : Inside) (f : ℕ) {x : FutureEntry} → IsKeptIn a → at (futures_in a) f ≡ Some x → IsHome (store_in a) x
its_home a f {x} k is = k.linked.home f x (found (futures_in a) f x is)

pub semaphore_found : (a : Inside) (f : ℕ) {x : FutureEntry} → IsKeptIn a → at (futures_in a) f ≡ Some x → at (semaphores_in a) x.semaphore ≡ None → ⊥
semaphore_found a f {x} k is none =
    absurd (let there = (its_home a f k is).there in let gone : get
    (store_in a).semaphores x.semaphore ≡ None = kept-at (semaphores_in a) x.semaphore ∙ none in cc)

pub semaphore_living : (a : Inside) (f : ℕ) {x : FutureEntry} → IsKeptIn a → at (futures_in a) f ≡ Some x → at a.kept.semaphores.entries x.semaphore ≡ None → ⊥
semaphore_living a f {x} k is none = elim (missing a x.semaphore none) [
  | inl gone ↦ semaphore_found a f k is gone
  | inr e ↦ no_entry a k x.semaphore e.0 e.1 e.3 f x (found (futures_in a) f x is) refl
]

-- the permit that a future becomes
abbrev pub permit_from : FutureEntry → PermitEntry
permit_from x = record { semaphore = x.semaphore; size = demand_of x.acquire; plain = x.plain }

module _ {a : Inside} {v : Play} {i f : ℕ} {x : FutureEntry} {e : SemaphoreEntry} (m : MeetsFuture a v i f x e) where
  pub future_there : get (store_in a).futures f ≡ Some x
  future_there = found (futures_in a) f x m.is

  pub home_there : get (store_in a).semaphores x.semaphore ≡ Some e
  home_there = found (semaphores_in a) x.semaphore e m.there

  pub its_belongs : Belongs e.core x.acquire × IsOpen x.acquire
  its_belongs =
      let home = its_home a f m.meets.kept m.is in
      let both : Some e ≡ Some home.entry = sym home_there ∙ home.there in
      let same : home.entry ≡ e = cc in
      (subst (λ (d : SemaphoreEntry). Belongs d.core x.acquire) same home.belongs, home.open_still)

  pub seen_as : (z : FutureStage) → stage_of x.acquire e.core ≡ z → get (hall_in a).futures f ≡ Some (at_stage x z)
  seen_as z stage = seen_future (store_in a) a.kept.next f x e x.acquire z future_there home_there refl stage

  pub seen_now : get (hall_in a).futures f ≡ Some (at_stage x (stage_of x.acquire e.core))
  seen_now = seen_as (stage_of x.acquire e.core) refl

  -- it is closed where its core is
  seen_closed : is_closed (hall_in a) x.semaphore ≡ e.core.closed
  seen_closed = ap (λ (r : Semaphore). r.closed) (seen_at (store_in a) a.kept.next x.semaphore e m.meets.kept.linked home_there)

  -- the first poll of an open one
  open_now : (w : ℕ) (y : Future) → y.semaphore ≡ x.semaphore → e.core.closed ≡ false
      → first_poll (hall_in a) i f w y ≡ open_poll (hall_in a) i f w y
  open_now w y mine open_still = ap (λ b. if b then refusing (hall_in a) f else open_poll (hall_in a) i f w y)
      (ap (is_closed (hall_in a)) mine ∙ seen_closed ∙ open_still)

  seen_free : free (hall_in a) x.semaphore ≡ e.core.free
  seen_free = ap (λ (r : Semaphore). r.free) (seen_at (store_in a) a.kept.next x.semaphore e m.meets.kept.linked home_there)

  -- a plain future is counted
  pub future_plain : cond x.plain 1 0 ≤ e.plain
  future_plain = (future_counts (store_in a) (registered_in a) a.list.registered a.kept.next f (at_stage x (stage_of x.acquire e.core))
      e m.meets.kept seen_now home_there).0

  pub future_thing : 1 ≤ e.things
  future_thing = (future_counts (store_in a) (registered_in a) a.list.registered a.kept.next f (at_stage x (stage_of x.acquire e.core))
      e m.meets.kept seen_now home_there).1

  -- ---- what the next poll does

  -- it is ready: the step
  pub ready_new : (w d : ℕ) → x.acquire ≡ acquires.New d → (e.core.closed ≡ false) × (d ≤ e.core.free)
      → step (hall_in a) i (events.Poll f w) ≡ quietly
      (made_ready (with_semaphore (hall_in a) x.semaphore (taking (semaphore_at (hall_in a) x.semaphore) d)) i f (at_stage x New)) answers.Ready
  ready_new w d new enough =
      let y : Future = at_stage x New in
      let fits : nat_le y.demand (free (hall_in a) x.semaphore) ≡ true =
      ap (nat_le y.demand) seen_free ∙ le-leb y.demand e.core.free (let same : y.demand ≡ d = ap demand_of new in omega arith) in
      ap (poll_of (hall_in a) i f w) (seen_as New (ap (λ b. stage_of b e.core) new)) ∙ open_now w y refl enough.0
      ∙ ap (λ b. if b then quietly (made_ready (with_semaphore (hall_in a) x.semaphore (taking (semaphore_at (hall_in a) x.semaphore) y.demand))
      i f y) answers.Ready else quietly (queueing (hall_in a) f w y) answers.Pending) fits
      ∙ ap (λ n. quietly (made_ready (with_semaphore (hall_in a) x.semaphore (taking (semaphore_at (hall_in a) x.semaphore) n)) i f y) answers.Ready)
      (ap demand_of new)

  pub granted_stage : (d n : ℕ) → x.acquire ≡ acquires.Queued d n → get e.core.granted n ≡ Some d → stage_of x.acquire e.core ≡ Granted
  granted_stage d n queued granted = ap (λ b. stage_of b e.core) queued
      ∙ stage_granted e.core (m.meets.kept.linked.numbered x.semaphore e home_there) d n granted

  pub cut_stage : (d n : ℕ) → x.acquire ≡ acquires.Queued d n → get e.core.cut n ≡ Some d → stage_of x.acquire e.core ≡ Cut
  cut_stage d n queued cut = ap (λ b. stage_of b e.core) queued ∙ stage_cut e.core (m.meets.kept.linked.numbered x.semaphore e home_there) d n cut

  pub ready_granted : (w d n : ℕ) → x.acquire ≡ acquires.Queued d n → get e.core.granted n ≡ Some d
      → step (hall_in a) i (events.Poll f w) ≡ quietly (made_ready (hall_in a) i f (at_stage x Granted)) answers.Ready
  ready_granted w d n queued granted = ap (poll_of (hall_in a) i f w) (seen_as Granted (granted_stage d n queued granted))

  -- it waits: the step
  pub pending_new : (w d : ℕ) → x.acquire ≡ acquires.New d → (e.core.closed ≡ false) × (e.core.free < d)
      → step (hall_in a) i (events.Poll f w) ≡ quietly (queueing (hall_in a) f w (at_stage x New)) answers.Pending
  pending_new w d new lacks =
      let y : Future = at_stage x New in
      let fits : nat_le y.demand (free (hall_in a) x.semaphore) ≡ false =
      ap (nat_le y.demand) seen_free ∙ lt-leb y.demand e.core.free (let same : y.demand ≡ d = ap demand_of new in omega arith) in
      ap (poll_of (hall_in a) i f w) (seen_as New (ap (λ b. stage_of b e.core) new)) ∙ open_now w y refl lacks.0
      ∙ ap (λ b. if b then quietly (made_ready (with_semaphore (hall_in a) x.semaphore (taking (semaphore_at (hall_in a) x.semaphore) y.demand))
      i f y) answers.Ready else quietly (queueing (hall_in a) f w y) answers.Pending) fits

  pub waiting_as : (d n l : ℕ) → x.acquire ≡ acquires.Queued d n → cores.waiting e.core.queue n ≡ Some (d, l)
      → (u : ℕ) × (get (hall_in a).futures f ≡ Some (at_stage x (Waiting u)))
  waiting_as d n l queued waits =
      let u = stage_waits e.core (m.meets.kept.linked.numbered x.semaphore e home_there) d n l waits in
      (u.0, seen_as (Waiting u.0) (ap (λ b. stage_of b e.core) queued ∙ u.1))

  pub pending_again : (w d n l : ℕ) → x.acquire ≡ acquires.Queued d n → cores.waiting e.core.queue n ≡ Some (d, l)
      → step (hall_in a) i (events.Poll f w) ≡ quietly (with_future (hall_in a) f (at_stage x (Waiting w))) answers.Pending
  pending_again w d n l queued waits = ap (poll_of (hall_in a) i f w) (waiting_as d n l queued waits).1

  -- it is refused: the step
  pub refused_new : (w d : ℕ) → x.acquire ≡ acquires.New d → e.core.closed ≡ true → step (hall_in a) i (events.Poll f w) ≡ refusing (hall_in a) f
  refused_new w d new shut = ap (poll_of (hall_in a) i f w) (seen_as New (ap (λ b. stage_of b e.core) new))
      ∙ ap (λ b. if b then refusing (hall_in a) f else open_poll (hall_in a) i f w (at_stage x New)) (seen_closed ∙ shut)

  pub refused_cut : (w d n : ℕ) → x.acquire ≡ acquires.Queued d n → get e.core.cut n ≡ Some d → step (hall_in a) i (events.Poll f w) ≡ refusing (hall_in a) f
  refused_cut w d n queued cut = ap (poll_of (hall_in a) i f w) (seen_as Cut (cut_stage d n queued cut))

  -- ---- what a future was paid is live
  pub paid_part : (y : Future) → get (hall_in a).futures f ≡ Some y → y.semaphore ≡ x.semaphore
      → paid_to (queue_at (hall_in a) x.semaphore) f y.demand y.stage ≤ e.core.live
  paid_part y seen mine =
      let s : ℕ = x.semaphore in
      let sums = total-remove (λ g (z : Future). cond (z.semaphore == s) (paid_to (queue_at (hall_in a) s) g z.demand z.stage) 0) (hall_in a).futures f in
      let here : weight (λ g (z : Future). cond (z.semaphore == s) (paid_to (queue_at (hall_in a) s) g z.demand z.stage) 0) f
      (get (hall_in a).futures f) ≡ paid_to (queue_at (hall_in a) s) f y.demand y.stage =
      ap (weight (λ g (z : Future). cond (z.semaphore == s) (paid_to (queue_at (hall_in a) s) g z.demand z.stage) 0) f) seen
      ∙ at_same y.semaphore s (paid_to (queue_at (hall_in a) s) f y.demand y.stage) 0 mine in
      let all = live-seen (store_in a) (registered_in a) a.list.registered a.kept.next s e m.meets.kept home_there in
      omega (arith, sums, here, all)

  pub granted_live : (d n : ℕ) → x.acquire ≡ acquires.Queued d n → get e.core.granted n ≡ Some d → d ≤ e.core.live
  granted_live d n queued granted =
      let part = paid_part (at_stage x Granted) (seen_as Granted (granted_stage d n queued granted)) refl in
      let same : demand_of x.acquire ≡ d = ap demand_of queued in
      omega (arith, part, same)

  pub ready_small : IsReady e.core x.acquire → demand_of x.acquire < 2 ^ 64
  ready_small ready = by_acquire x.acquire refl ready
    where
      by_acquire : (b : Acquire) → x.acquire ≡ b → IsReady e.core b → demand_of x.acquire < 2 ^ 64
      by_acquire (acquires.New d) same r =
          let all = live-seen (store_in a) (registered_in a) a.list.registered a.kept.next x.semaphore e m.meets.kept home_there in
          let fits = m.meets.kept.valid.fits x.semaphore in
          let demand : demand_of x.acquire ≡ d = ap demand_of same in
          let part : free (hall_in a) x.semaphore ≡ e.core.free = seen_free in
          let enough = r.1 in
          omega (arith, fits, demand, part, enough)
      by_acquire (acquires.Queued d n) same r =
          let all = live-seen (store_in a) (registered_in a) a.list.registered a.kept.next x.semaphore e m.meets.kept home_there in
          let fits = m.meets.kept.valid.fits x.semaphore in
          let demand : demand_of x.acquire ≡ d = ap demand_of same in
          omega (arith, all, fits, demand, granted_live d n same r)
      by_acquire (acquires.Done d) same r = absurd r
      by_acquire (acquires.Refused d) same r = absurd r

  -- a tally has room for what it asks for
  pub tally_fits : IsReady e.core x.acquire → e.forgotten + demand_of x.acquire < 2 ^ 128
  tally_fits ready = small_forgotten (its_semaphore m) (demand_of x.acquire) (ready_small ready)

  -- a poll of it has no cause for refusal
  pub may_poll : (w : ℕ) → cause_of v.hall (events.Poll f w) ≡ None
  may_poll w = future_known a m.meets.seen f x m.is

  pub may_poll_kept : (w : ℕ) → cause_of (hall_in a) (events.Poll f w) ≡ None
  may_poll_kept w = to_kept m.meets (λ h. cause_of h (events.Poll f w) ≡ None) (may_poll w)

-- ---- a future is made
abbrev acq_event : ℕ → ℕ → Bool → Bool → SemEvent
acq_event s n true false = events.Acq s n
acq_event s n false false = events.Acqo s n
acq_event s n true true = events.Acqf s n
acq_event s n false true = events.Acqof s n

acq_fits : (s n : ℕ) (plain forgets : Bool) → Fits (acq_event s n plain forgets)
acq_fits s n true false = tt
acq_fits s n false false = tt
acq_fits s n true true = tt
acq_fits s n false true = tt

acq_cause : (h : Hall) (s n : ℕ) (plain forgets : Bool) → cause_of h (events.Acq s n) ≡ None → cause_of h (acq_event s n plain forgets) ≡ None
acq_cause h s n true false is = is
acq_cause h s n false false is = is
acq_cause h s n true true is = is
acq_cause h s n false true is = is

acq_step : (h : Hall) (i s n : ℕ) (plain forgets : Bool) → step h i (acq_event s n plain forgets) ≡ acquire_of h i s n plain forgets
acq_step h i s n true false = refl
acq_step h i s n false false = refl
acq_step h i s n true true = refl
acq_step h i s n false true = refl

pub acquire_done : {a : Inside} {v : Play} {i s : ℕ} {e : SemaphoreEntry} → MeetsSemaphore a v i s e
    → (ss' : Semaphores) (fs' : Futures) (n : ℕ) (plain forgets : Bool) (e2 : SemaphoreEntry) (x : FutureEntry)
    → cause_of v.hall (events.Acq s n) ≡ None → ChangesAt (semaphores_in a) ss' s (Some e2) → e2 ≡ record e { plain = e.plain + cond plain 1 0; things = e.things + 1 }
    → ChangesAt (futures_in a) fs' i (Some x) → x ≡ record { semaphore = s; acquire = acquires.New n; plain = plain; forgets = forgets }
    → Done v i (acquire_of v.hall i s n plain forgets) answers.Made (store_of ss' fs' (permits_in a)) (registered_in a) a.list.registered a.list.wakers
acquire_done {a} {v} {i} {s} {e} m ss' fs' n plain forgets e2 x allowed changes is put new =
    let h : Hall = hall_in a in
    let st' : Store = store_of ss' fs' (permits_in a) in
    let played = acq_step h i s n plain forgets in
    let plays = plays_acquire (store_in a) st' (registered_in a) a.list.registered a.kept.next i s n e m.meets.kept (later m.meets) m.meets.low
    (acq_event s n plain forgets) plain forgets (acq_fits s n plain forgets)
    (acq_cause h s n plain forgets (to_kept m.meets (λ g. cause_of g (events.Acq s n) ≡ None) allowed)) (ap (λ o. o.hall) played)
    (found (semaphores_in a) s e m.there) (semaphores_of (semaphores_in a) ss' s e2 _ changes is)
    (λ g. kept-changed (futures_in a) fs' i (Some x) put g ∙ ap (λ y. cond (i == g) (Some y) (get (store_in a).futures g)) new) refl in
    subst (λ o. Done v i o answers.Made st' (registered_in a) a.list.registered a.list.wakers) (acq_step v.hall i s n plain forgets)
    (done_quietly m.meets (acq_event s n plain forgets) answers.Made plays (ap (λ o. o.wakes) played) (sym (ap (λ o. o.reply) played)))

-- ---- a future is ready: its stage, the core after the poll, and what the semaphore is seen as
record Readies (a : Inside) (i f w : ℕ) (x : FutureEntry) (e : SemaphoreEntry) : Type 0 where
  stage : FutureStage
  core : cores.Core ℕ
  semaphore : Semaphore
  seen : get (hall_in a).futures f ≡ Some (at_stage x stage)
  is : finished e.core x.acquire ≡ core
  live : core.live ≡ e.core.live
  queue : core.queue ≡ e.core.queue
  quiet : core.wakes ≡ e.core.wakes
  shown : semaphore ≡ record {
    free = core.free;
    queue = queue_of (store_in a).futures a.kept.next x.semaphore e.core.queue;
    made = e.made;
    released = e.released;
    forgotten = e.forgotten;
    named = e.named;
    closed = core.closed;
  }
  chosen : step (hall_in a) i (events.Poll f w) ≡ quietly (made_ready (with_semaphore (hall_in a) x.semaphore semaphore) i f (at_stage x stage)) answers.Ready
  leaves : (st' : Store) (e' : SemaphoreEntry) → ((q : ℕ) → get st'.semaphores q ≡ cond (x.semaphore == q) (Some e') (get (store_in a).semaphores q))
      → ((g : ℕ) → get st'.futures g ≡ cond (f == g) None (get (store_in a).futures g))
      → e'.core.queue ≡ e.core.queue → e'.core.granted ≡ core.granted → e'.core.cut ≡ core.cut → e'.core.closed ≡ core.closed
      → Leaves (store_in a) st' x.semaphore f x e e'

readies : {a : Inside} {v : Play} {i f : ℕ} {x : FutureEntry} {e : SemaphoreEntry} → MeetsFuture a v i f x e → (w : ℕ) → IsReady e.core x.acquire
    → Readies a i f w x e
readies {a} {v} {i} {f} {x} {e} m w ready = by_acquire x.acquire refl ready
  where
    seen : semaphore_at (hall_in a) x.semaphore ≡ semaphore_of (store_in a).futures a.kept.next x.semaphore e
    seen = seen_at (store_in a) a.kept.next x.semaphore e m.meets.kept.linked (home_there m)

    there : get (hall_in a).semaphores x.semaphore ≡ Some (semaphore_of (store_in a).futures a.kept.next x.semaphore e)
    there = get-seen (semaphore_of (store_in a).futures a.kept.next) (store_in a).semaphores x.semaphore
        ∙ ap (option_map (semaphore_of (store_in a).futures a.kept.next x.semaphore)) (home_there m)

    by_acquire : (b : Acquire) → x.acquire ≡ b → IsReady e.core b → Readies a i f w x e
    by_acquire (acquires.New d) new enough = record {
      stage = New;
      core = record e.core { free = e.core.free - d };
      semaphore = taking (semaphore_at (hall_in a) x.semaphore) d;
      seen = seen_as m New (ap (λ b. stage_of b e.core) new);
      is = ap (finished e.core) new;
      live = refl;
      queue = refl;
      quiet = refl;
      shown = ap (λ y. taking y d) seen;
      chosen = ready_new m w d new enough;
      leaves = λ st' e' puts gone queue granted cut closed. leaves_new (store_in a) st' a.kept.next x.semaphore f x e e' m.meets.kept.linked (home_there m) puts
          (future_there m) gone refl queue closed d new granted cut;
    }
    by_acquire (acquires.Queued d n) queued granted = record {
      stage = Granted;
      core = record e.core { granted = remove e.core.granted n };
      semaphore = semaphore_of (store_in a).futures a.kept.next x.semaphore e;
      seen = seen_as m Granted (granted_stage m d n queued granted);
      is = ap (finished e.core) queued;
      live = refl;
      queue = refl;
      quiet = refl;
      shown = refl;
      chosen = ready_granted m w d n queued granted ∙ ap (λ h. quietly (made_ready h i f (at_stage x Granted)) answers.Ready)
          (sym (as_it_was (hall_in a) x.semaphore _ there (hall_in a).permits));
      leaves = λ st' e' puts gone queue unlisted cut closed. leaves_granted (store_in a) st' a.kept.next x.semaphore f x e e' m.meets.kept.linked (home_there m)
          puts (future_there m) gone refl queue closed d n queued granted unlisted cut;
    }
    by_acquire (acquires.Done d) done r = absurd r
    by_acquire (acquires.Refused d) refused r = absurd r

module _ {a : Inside} {v : Play} {i f : ℕ} {x : FutureEntry} {e : SemaphoreEntry} (m : MeetsFuture a v i f x e) (w : ℕ)
    (ready : IsReady e.core x.acquire) (ss' : Semaphores) (fs' : Futures) (e2 : SemaphoreEntry) (gone : ChangesAt (futures_in a) fs' f None)
    (changes : ChangesAt (semaphores_in a) ss' x.semaphore (Some e2)) where
  turn : Readies a i f w x e
  turn = readies m w ready

  gone_now : (g : ℕ) → get (named (λ k (y : FutureEntry). y) fs') g ≡ cond (f == g) None (get (store_in a).futures g)
  gone_now g = kept-changed (futures_in a) fs' f None gone g

  rises_to : cores.held_of (finished e.core x.acquire) ≡ cores.held_of e.core + demand_of x.acquire
      → cores.held_of turn.core ≡ cores.held_of e.core + demand_of x.acquire
  rises_to rises = subst (λ (c : cores.Core ℕ). cores.held_of c ≡ cores.held_of e.core + demand_of x.acquire) turn.is rises

  finishes : {st' : Store} → Plays (store_in a) st' a.kept.next i (events.Poll f w) (registered_in a) a.list.registered
      → Done v i (step v.hall i (events.Poll f w)) answers.Ready st' (registered_in a) a.list.registered a.list.wakers
  finishes plays = done_quietly m.meets (events.Poll f w) answers.Ready plays (ap (λ o. o.wakes) turn.chosen) (sym (ap (λ o. o.reply) turn.chosen))

  -- what it takes is forgotten
  pub forgotten_done : x.forgets ≡ true
      → e2 ≡ record e {
        core = record (finished e.core x.acquire) { live = (finished e.core x.acquire).live - demand_of x.acquire };
        forgotten = e.forgotten + demand_of x.acquire;
        plain = e.plain - cond x.plain 1 0;
        things = e.things - 1;
      }
      → cores.held_of (finished e.core x.acquire) ≡ cores.held_of e.core + demand_of x.acquire → cores.held_of e2.core ≡ cores.held_of e.core
      → Done v i (step v.hall i (events.Poll f w)) answers.Ready (store_of ss' fs' (permits_in a)) (registered_in a) a.list.registered a.list.wakers
  forgotten_done forgets changed rises held =
      let st' : Store = store_of ss' fs' (permits_in a) in
      let e' : SemaphoreEntry = record e {
        core = record turn.core { live = turn.core.live - demand_of x.acquire };
        forgotten = e.forgotten + demand_of x.acquire;
        plain = e.plain - cond x.plain 1 0;
        things = e.things - 1;
      } in
      let now : e2 ≡ e' = changed ∙ ap
      (λ (c : cores.Core ℕ). record e {
        core = record c { live = c.live - demand_of x.acquire };
        forgotten = e.forgotten + demand_of x.acquire;
        plain = e.plain - cond x.plain 1 0;
        things = e.things - 1;
      }) turn.is in
      let puts = semaphores_of (semaphores_in a) ss' x.semaphore e2 e' changes now in
      let up = rises_to rises in
      let lost : cores.held_of (record turn.core { live = turn.core.live - demand_of x.acquire }) ≡ cores.held_of e.core =
      subst (λ (y : SemaphoreEntry). cores.held_of y.core ≡ cores.held_of e.core) now held in
      finishes (plays_ready_forgetting (store_in a) st' (registered_in a) a.list.registered a.kept.next i x.semaphore f w x (at_stage x turn.stage)
      e turn.core turn.semaphore m.meets.kept (later m.meets) m.meets.low (may_poll_kept m w) turn.seen refl refl (ready_small m ready)
      turn.live turn.queue turn.quiet up turn.shown answers.Ready turn.chosen forgets
      (turn.leaves st' e' puts gone_now turn.queue refl refl refl) refl (omega (arith, lost, up)))

  -- it becomes a permit
  pub kept_done : x.forgets ≡ false → (ps' : Permits) (p : PermitEntry)
      → ChangesAt (permits_in a) ps' i (Some p) → p ≡ permit_from x
      → e2 ≡ record e { core = finished e.core x.acquire } → cores.held_of e2.core ≡ cores.held_of e.core + demand_of x.acquire
      → Done v i (step v.hall i (events.Poll f w)) answers.Ready (store_of ss' fs' ps') (registered_in a) a.list.registered a.list.wakers
  kept_done keeps ps' p put permit changed held =
      let st' : Store = store_of ss' fs' ps' in
      let e' : SemaphoreEntry = record e { core = turn.core } in
      let puts = semaphores_of (semaphores_in a) ss' x.semaphore e2 e' changes (changed ∙ ap (λ (c : cores.Core ℕ). record e { core = c }) turn.is) in
      let up = rises_to (subst (λ (y : SemaphoreEntry). cores.held_of y.core ≡ cores.held_of e.core + demand_of x.acquire) changed held) in
      let permits : st'.permits ≡ insert (store_in a).permits i (record { semaphore = x.semaphore; size = demand_of x.acquire; plain = x.plain }) =
      named_put (λ n y. permit_of y) (permits_in a) ps' i p put ∙ ap (λ (y : PermitEntry). insert (store_in a).permits i (permit_of y)) permit in
      finishes (plays_ready (store_in a) st' (registered_in a) a.list.registered a.kept.next i x.semaphore f w x (at_stage x turn.stage)
      e turn.core turn.semaphore m.meets.kept (later m.meets) m.meets.low (may_poll_kept m w) turn.seen refl refl (ready_small m ready)
      turn.live turn.queue turn.quiet up turn.shown answers.Ready turn.chosen keeps
      (turn.leaves st' e' puts gone_now turn.queue refl refl refl) permits)

-- ---- a future is refused, and is gone with nothing
pub refused_done : {a : Inside} {v : Play} {i f : ℕ} {x : FutureEntry} {e : SemaphoreEntry} → MeetsFuture a v i f x e → (w : ℕ)
    → IsRefused e.core x.acquire → (ss' : Semaphores) (fs' : Futures) (e2 : SemaphoreEntry)
    → ChangesAt (futures_in a) fs' f None → ChangesAt (semaphores_in a) ss' x.semaphore (Some e2)
    → e2 ≡ record e { core = after_refusal e.core x.acquire; plain = e.plain - cond x.plain 1 0; things = e.things - 1 }
    → Done v i (step v.hall i (events.Poll f w)) answers.Gone (store_of ss' fs' (permits_in a)) (registered_in a) a.list.registered a.list.wakers
refused_done {a} {v} {i} {f} {x} {e} m w refused ss' fs' e2 gone changes changed = by_acquire x.acquire refl refused
  where
    st' : Store
    st' = store_of ss' fs' (permits_in a)

    gone_now : (g : ℕ) → get st'.futures g ≡ cond (f == g) None (get (store_in a).futures g)
    gone_now g = kept-changed (futures_in a) fs' f None gone g

    finish : PlaysWith (store_in a) st' a.kept.next i (events.Poll f w) (registered_in a) a.list.registered [] → step (hall_in a) i (events.Poll f w) ≡ refusing (hall_in a) f
        → Done v i (step v.hall i (events.Poll f w)) answers.Gone st' (registered_in a) a.list.registered a.list.wakers
    finish with chosen = done_quietly m.meets (events.Poll f w) answers.Gone with.plays with.wakes (sym (ap (λ o. o.reply) chosen))

    by_acquire : (b : Acquire) → x.acquire ≡ b → IsRefused e.core b
        → Done v i (step v.hall i (events.Poll f w)) answers.Gone st' (registered_in a) a.list.registered a.list.wakers
    by_acquire (acquires.New d) new shut =
        let puts = semaphores_of (semaphores_in a) ss' x.semaphore e2 (record e { plain = e.plain - cond x.plain 1 0; things = e.things - 1 }) changes
        (changed ∙ ap (λ b. record e { core = after_refusal e.core b; plain = e.plain - cond x.plain 1 0; things = e.things - 1 }) new) in
        finish (plays_gone_new (store_in a) st' (registered_in a) (registered_in a) a.list.registered a.list.registered a.kept.next i x.semaphore d e m.meets.kept (later m.meets)
        m.meets.low (home_there m) f d x refl (future_there m) gone_now refl (events.Poll f w) answers.Gone tt (may_poll_kept m w) new
        (λ seen. refused_new m w d new shut) puts) (refused_new m w d new shut)
    by_acquire (acquires.Queued d n) queued cut =
        let puts = semaphores_of (semaphores_in a) ss' x.semaphore e2
        (record e { core = record e.core { cut = remove e.core.cut n }; plain = e.plain - cond x.plain 1 0; things = e.things - 1 }) changes
        (changed ∙ ap (λ b. record e { core = after_refusal e.core b; plain = e.plain - cond x.plain 1 0; things = e.things - 1 }) queued) in
        finish (plays_gone_cut (store_in a) st' (registered_in a) (registered_in a) a.list.registered a.list.registered a.kept.next i x.semaphore d e m.meets.kept (later m.meets)
        m.meets.low (home_there m) f d x refl (future_there m) gone_now refl (events.Poll f w) answers.Gone n tt (may_poll_kept m w) queued cut.1
        (λ seen. refused_cut m w d n queued cut.1) puts) (refused_cut m w d n queued cut.1)
    by_acquire (acquires.Done d) same r = absurd r
    by_acquire (acquires.Refused d) same r = absurd (subst IsOpen same (its_belongs m).1)
