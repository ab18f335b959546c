-- what a poll that waits, and the end of a future, leave of a `SemFamily`
use Rattle.std.proofs.Common.{◌≡◌, ◌≢◌, inl, inr, ℕ, ◌+◌, ◌-◌, ◌^◌, ◌<◌, ◌≤◌, ◌==◌, ◌++◌, true, cond, List, [], ◌∷◌, refl, ap, sym, subst, ◌∙◌, arith, Option, Some, None, append-nil, is_some, if◌then◌else◌}
use Rattle.std.specs.Option.{IsSome}
use Rattle.std.specs.FinMap.{get, remove}
use Rattle.mea_family.specs.declared.answer.Answer.TheVariants as answers
use Rattle.mea_base.specs.Named.{ChangesAt}
use Rattle.mea_base.specs.Outbox.{Wakes}
use Rattle.mea_family.specs.Causes.{unknown_unless}
use Rattle.mea_base.proofs.NamedMaps.{kept-changed}
use Rattle.mea_events.specs.declared.sem_event.SemEvent.TheVariants as events
use Rattle.mea_sem_model.specs.Hall.{Hall, Semaphore, Future, New, Waiting, Granted, Cut, queue_at, lack_of}
use Rattle.mea_sem_model.specs.Cause.{cause_of, is_permit}
use Rattle.mea_sem_model.specs.Step.{step, queueing, with_future, end_of}
use Rattle.mea_sem_core.specs.declared.acquire.Acquire.{Acquire}
use Rattle.mea_sem_core.specs.declared.acquire.Acquire.TheVariants as acquires
use Rattle.mea_sem_core.specs.Acquire.{demand_of}
use Rattle.mea_sem_core.specs.Core as cores
use Rattle.mea_sem_core.specs.Calls.{Belongs, Queues, with_waker, without_acquire}
use Rattle.mea_sem.specs.declared.entries.SemaphoreEntry.{SemaphoreEntry}
use Rattle.mea_sem.specs.declared.entries.FutureEntry.{FutureEntry}
use Rattle.mea_sem.specs.Entries.{Waits, WaitsOn, Ends}
use Rattle.mea_sem.specs.Store.{Store, store_of, hall_of, stage_of, IsOpen, at_stage}
use Rattle.mea_sem.specs.Kept.{AreKeptSemaphores}
use Rattle.mea_sem.proofs.Inside.{Inside}
use Rattle.mea_sem.specs.Play.{Play}
use Rattle.mea_sem.proofs.Keeping.{Plays}
use Rattle.mea_sem.proofs.Left.{lack_left, wakers_without}
use Rattle.mea_sem.proofs.Seen.{seen_at}
use Rattle.mea_sem.proofs.PlaysAgain.{plays_again}
use Rattle.mea_sem.proofs.PlaysFutures.{plays_queued}
use Rattle.mea_sem.proofs.PlaysPours.{between, between_at, wakers_poured}
use Rattle.mea_sem.proofs.PlaysEnds.{plays_gone_new, plays_gone_cut, PlaysWith, plays_end_granted, plays_end_waiting}
use Rattle.mea_sem.proofs.Meets.{registered_in, semaphores_in, futures_in, permits_in, store_in, hall_in, IsKeptIn, MeetsFuture, Done, its_semaphore, later, to_kept, done, done_quietly}
use Rattle.mea_sem.proofs.Standing.{Semaphores, Futures, Permits, semaphores_of, kept_same}
use Rattle.mea_sem.proofs.StandingSemaphores.{wakers_registered, kept_room}
use Rattle.mea_sem.proofs.StandingFutures.{future_there, home_there, its_belongs, seen_as, granted_stage, pending_new, waiting_as, pending_again, paid_part, granted_live, cut_stage, may_poll_kept}

module _ {a : Inside} {v : Play} {i f : ℕ} {x : FutureEntry} {e : SemaphoreEntry} (m : MeetsFuture a v i f x e) where
  -- ---- a first poll that waits
  queue_done : (w d n w' : ℕ) (out : Wakes ℕ) (ss' : Semaphores) (fs' : Futures) (e2 : SemaphoreEntry) (x2 : FutureEntry)
      → Waits e.core (acquires.New d) → w' ≡ (registered_in a) + 1 → out.wakers ≡ a.list.wakers → w' ≤ out.spare → x.acquire ≡ acquires.New d
      → x2 ≡ record x { acquire = acquires.Queued d n } → ChangesAt (futures_in a) fs' f (Some x2) → ChangesAt (semaphores_in a) ss' x.semaphore (Some e2)
      → Queues e.core e2.core d w n → e2 ≡ record e { core = e2.core } → cores.held_of e2.core ≡ cores.held_of e.core
      → Done v i (step v.hall i (events.Poll f w)) answers.Pending (store_of ss' fs' (permits_in a)) w' out.spare out.wakers
  queue_done w d n w' out ss' fs' e2 x2 lacks one_more same room new x2_is put changes queues rest held =
      let st : Store = store_in a in
      let st' : Store = store_of ss' fs' (permits_in a) in
      let chosen = pending_new m w d new lacks in
      let hall : (step (hall_in a) i (events.Poll f w)).hall ≡ queueing (hall_in a) f w (at_stage (record x { acquire = acquires.New d }) New) =
      ap (λ o. o.hall) chosen ∙ ap (λ b. queueing (hall_in a) f w (at_stage (record x { acquire = b }) New)) new in
      let core : e2 ≡ record e { core = record e.core { free = 0; queue = e.core.queue ++ (cores.Acquires n d w, d - e.core.free) ∷ [] } } =
      rest ∙ ap (λ (c : cores.Core ℕ). record e { core = c }) queues.is in
      let plays = plays_queued st st' (registered_in a) a.list.registered out.spare a.kept.next i x.semaphore f w d n x e m.meets.kept (later m.meets)
      m.meets.low refl new (home_there m) (semaphores_of (semaphores_in a) ss' x.semaphore e2 _ changes core) (future_there m)
      (λ g. kept-changed (futures_in a) fs' f (Some x2) put g ∙ ap (λ y. cond (f == g) (Some y) (get st.futures g)) x2_is)
      refl queues.not_waiting queues.not_granted lacks.0 (may_poll_kept m w) hall
      (subst (λ (c : cores.Core ℕ). cores.held_of c ≡ cores.held_of e.core) queues.is held) (subst (λ r. r ≤ out.spare) one_more room) in
      let settled = subst (λ r. Plays st st' a.kept.next i (events.Poll f w) r out.spare) (sym one_more) plays in
      done m.meets out.wakers (events.Poll f w) answers.Pending settled
      (same ∙ sym (append-nil a.list.wakers) ∙ ap (λ ws. a.list.wakers ++ ws) (sym (ap (λ o. o.wakes) chosen))) (sym (ap (λ o. o.reply) chosen))

  pub queued_done : (w n w' : ℕ) (out : Wakes ℕ) (ss' : Semaphores) (fs' : Futures) (e2 : SemaphoreEntry) (x2 : FutureEntry)
      → (d : ℕ) × (x.acquire ≡ acquires.New d) → Waits e.core x.acquire → w' ≡ (registered_in a) + 1 → out.wakers ≡ a.list.wakers → w' ≤ out.spare
      → x2 ≡ record x { acquire = acquires.Queued (demand_of x.acquire) n } → ChangesAt (futures_in a) fs' f (Some x2)
      → ChangesAt (semaphores_in a) ss' x.semaphore (Some e2)
      → Queues e.core e2.core (demand_of x.acquire) w n → e2 ≡ record e { core = e2.core } → cores.held_of e2.core ≡ cores.held_of e.core
      → Done v i (step v.hall i (events.Poll f w)) answers.Pending (store_of ss' fs' (permits_in a)) w' out.spare out.wakers
  queued_done w n w' out ss' fs' e2 x2 never waits one_more same room x2_is put changes queues rest held =
      let new : x.acquire ≡ acquires.New (demand_of x.acquire) = never.1 ∙ ap (λ d. acquires.New d) (sym (ap demand_of never.1)) in
      queue_done w (demand_of x.acquire) n w' out ss' fs' e2 x2 (subst (Waits e.core) new waits) one_more same room new x2_is put changes queues rest held

  -- ---- a further poll that waits
  again_done : (w d n : ℕ) (ss' : Semaphores) (fs' : Futures) (e2 : SemaphoreEntry) (x2 : FutureEntry) → Waits e.core (acquires.Queued d n)
      → x.acquire ≡ acquires.Queued d n → x2 ≡ x → ChangesAt (futures_in a) fs' f (Some x2) → ChangesAt (semaphores_in a) ss' x.semaphore (Some e2)
      → e2 ≡ record e { core = record e.core { queue = with_waker e.core.queue n w } } → cores.held_of e2.core ≡ cores.held_of e.core
      → Done v i (step v.hall i (events.Poll f w)) answers.Pending (store_of ss' fs' (permits_in a))
      (registered_in a) a.list.registered a.list.wakers
  again_done w d n ss' fs' e2 x2 waits queued same written changes core held =
      let chosen = pending_again m w d n waits.0 queued waits.1 in
      let hall : (step (hall_in a) i (events.Poll f w)).hall ≡ with_future (hall_in a) f (at_stage (record x { acquire = acquires.Queued d n }) (Waiting w)) =
      ap (λ o. o.hall) chosen ∙ ap (λ b. with_future (hall_in a) f (at_stage (record x { acquire = b }) (Waiting w))) queued in
      let plays = plays_again (store_in a) (store_of ss' fs' (permits_in a))
      (registered_in a) a.list.registered a.kept.next i x.semaphore f w d n waits.0 x e m.meets.kept (later m.meets) m.meets.low refl queued (home_there m)
      (semaphores_of (semaphores_in a) ss' x.semaphore e2 _ changes core) (future_there m)
      (kept_same (λ k x. x) (futures_in a) fs' f x x2 m.is same written) refl waits.1 (may_poll_kept m w) hall
      (subst (λ (y : SemaphoreEntry). cores.held_of y.core ≡ cores.held_of e.core) core held) in
      done_quietly m.meets (events.Poll f w) answers.Pending plays (ap (λ o. o.wakes) chosen) (sym (ap (λ o. o.reply) chosen))

  pub waited_done : (w : ℕ) (ss' : Semaphores) (fs' : Futures) (e2 : SemaphoreEntry) (x2 : FutureEntry)
      → ((d : ℕ) → x.acquire ≢ acquires.New d) → Waits e.core x.acquire → x2 ≡ x → ChangesAt (futures_in a) fs' f (Some x2)
      → ChangesAt (semaphores_in a) ss' x.semaphore (Some e2)
      → WaitsOn e x.acquire w e2 → cores.held_of e2.core ≡ cores.held_of e.core
      → Done v i (step v.hall i (events.Poll f w)) answers.Pending (store_of ss' fs' (permits_in a))
      (registered_in a) a.list.registered a.list.wakers
  waited_done w ss' fs' e2 x2 polled waits same written changes core held = by_acquire x.acquire refl waits core
    where
      by_acquire : (b : Acquire) → x.acquire ≡ b → Waits e.core b → WaitsOn e b w e2
          → Done v i (step v.hall i (events.Poll f w)) answers.Pending (store_of ss' fs' (permits_in a)) (registered_in a) a.list.registered a.list.wakers
      by_acquire (acquires.New d) is pending on = absurd (polled d is)
      by_acquire (acquires.Queued d n) is pending on = again_done w d n ss' fs' e2 x2 pending is same written changes on held
      by_acquire (acquires.Done d) is pending on = absurd (subst IsOpen is (its_belongs m).1)
      by_acquire (acquires.Refused d) is pending on = absurd pending

  -- ---- a poll that found no memory: what was found was written back as it stood
  module _ (ss' : Semaphores) (fs' : Futures) (ps' : Permits) (e2 : SemaphoreEntry) (x2 : FutureEntry) (same_e : e2 ≡ e) (same_x : x2 ≡ x)
      (same_permits : ps' ≡ permits_in a) (written : ChangesAt (futures_in a) fs' f (Some x2))
      (changes : ChangesAt (semaphores_in a) ss' x.semaphore (Some e2)) where
    as_found : store_of ss' fs' ps' ≡ store_in a
    as_found =
        let semaphores = kept_same (λ k x. x) (semaphores_in a) ss' x.semaphore e e2 m.there same_e changes in
        let futures = kept_same (λ k x. x) (futures_in a) fs' f x x2 m.is same_x written in
        λ j. record { semaphores = semaphores j; futures = futures j; permits = (store_of ss' fs' (same_permits j)).permits }

    pub kept_as_found : (sp' : ℕ) → (registered_in a) ≤ sp' → AreKeptSemaphores (store_of ss' fs' ps') (registered_in a) sp' a.kept.next
    kept_as_found sp' room = subst (λ (st : Store). AreKeptSemaphores st (registered_in a) sp' a.kept.next) (sym as_found) (kept_room sp' m.meets.kept room)

    pub seen_as_found : (wakes' : List ℕ) → wakes' ≡ a.list.wakers
        → record { hall = hall_of (store_of ss' fs' ps') a.kept.next; wakes = wakes'; next = a.kept.next } ≡ v
    seen_as_found wakes' same = (λ j. record { hall = hall_of (as_found j) a.kept.next; wakes = same j; next = a.kept.next }) ∙ m.meets.seen

-- ---- a future ends
end_allowed : (h : Hall) (f : ℕ) → IsSome (get h.futures f) → cause_of h (events.End f) ≡ None
end_allowed h f there = by_value (get h.futures f) there
  where
    by_value : (o : Option Future) → IsSome o → unknown_unless (if is_some o then true else is_permit h f) ≡ None
    by_value None missing = absurd (cc)
    by_value (Some y) here = refl

module _ {a : Inside} {v : Play} {i f : ℕ} {x : FutureEntry} {e : SemaphoreEntry} (m : MeetsFuture a v i f x e) (e2 : SemaphoreEntry)
    (wakes' : List ℕ) (left : ℕ) (ends : Ends e x.acquire x.plain e2 a.list.wakers wakes' left) where
  -- those who leave were registered
  pub left_within : left ≤ (registered_in a)
  left_within = by_acquire x.acquire ends refl (its_belongs m)
    where
      by_acquire : (b : Acquire) → Ends e b x.plain e2 a.list.wakers wakes' left → x.acquire ≡ b → Belongs e.core x.acquire × IsOpen x.acquire
          → left ≤ (registered_in a)
      by_acquire (acquires.New d) h same home = (let none = h.2 in omega (arith, none))
      by_acquire (acquires.Done d) h same home = (let none = h.2 in omega (arith, none))
      by_acquire (acquires.Refused d) h same home = (let none = h.2 in omega (arith, none))
      by_acquire (acquires.Queued d n) h same home = by_place (subst (Belongs e.core) same home.0)
        where
          by_place : Belongs e.core (acquires.Queued d n) → left ≤ (registered_in a)
          by_place (inl (inl granted)) = (let count = (h.0 granted).count in let all = wakers_registered (its_semaphore m) in
              let part = wakers_poured e.core.queue d in omega (arith, count, all, part))
          by_place (inl (inr still)) = (
              let count = (h.1 still.0 still.1).count in
              let all = wakers_registered (its_semaphore m) in
              let part = wakers_poured (without_acquire e.core.queue n) (d - still.0) in
              let fewer = wakers_without e.core.queue n d still.0 (m.meets.kept.linked.numbered x.semaphore e (home_there m)).apart still.1 in
              omega (arith, count, all, part, fewer))
          by_place (inr cut) = (let none = (h.2 cut).2 in omega (arith, none))

  module _ (there : IsSome (get v.hall.futures f)) (ss' : Semaphores) (fs' : Futures) (sp' : ℕ) (gone : ChangesAt (futures_in a) fs' f None)
      (changes : ChangesAt (semaphores_in a) ss' x.semaphore (Some e2)) (spare : a.list.registered ≤ sp' + left)
      (held : cores.held_of e2.core ≡ cores.held_of e.core) where
    abbrev st : Store
    st = store_in a

    abbrev st' : Store
    st' = store_of ss' fs' (permits_in a)

    abbrev h : Hall
    h = hall_in a

    k : IsKeptIn a
    k = m.meets.kept

    less : a.kept.next ≤ i
    less = later m.meets

    low : i < 2 ^ 64
    low = m.meets.low

    allowed : cause_of h (events.End f) ≡ None
    allowed = to_kept m.meets (λ g. cause_of g (events.End f) ≡ None) (end_allowed v.hall f there)

    futures_now : (g : ℕ) → get st'.futures g ≡ cond (f == g) None (get st.futures g)
    futures_now g = kept-changed (futures_in a) fs' f None gone g

    room : (registered_in a) - left ≤ sp'
    room = let r = k.room in let l = left_within in omega (arith, r, l, spare)

    abbrev Finishes : Type 0
    Finishes = Done v i (step v.hall i (events.End f)) answers.Done st' ((registered_in a) - left) sp' wakes'

    pub end_done : Finishes
    end_done = by_acquire x.acquire ends refl (its_belongs m)
      where
        finish : {woken : List ℕ} → PlaysWith st st' a.kept.next i (events.End f) ((registered_in a) - left) sp' woken → wakes' ≡ a.list.wakers ++ woken
            → (step h i (events.End f)).reply ≡ answers.Done → Finishes
        finish plays moved reply = done m.meets wakes' (events.End f) answers.Done plays.plays
            (moved ∙ ap (λ ws. a.list.wakers ++ ws) (sym plays.wakes)) (sym reply)

        by_unpaid : PlaysWith st st' a.kept.next i (events.End f) (registered_in a) a.list.registered [] → wakes' ≡ a.list.wakers → left ≡ 0
            → (step h i (events.End f)).reply ≡ answers.Done → Finishes
        by_unpaid with quiet none reply =
            let fewer : (registered_in a) ≡ (registered_in a) - left = omega (arith, none) in
            finish {woken = []} (record {
              plays = record {
                hall = with.plays.hall;
                kept = subst (λ r. AreKeptSemaphores st' r sp' (i + 1)) fewer
                    (kept_room sp' with.plays.kept (let r = room in omega (arith, r, none)));
              };
              wakes = with.wakes;
            }) (quiet ∙ sym (append-nil a.list.wakers)) reply

        by_new : (d : ℕ) → x.acquire ≡ acquires.New d → e2 ≡ record e { plain = e.plain - cond x.plain 1 0; things = e.things - 1 } → wakes' ≡ a.list.wakers → left ≡ 0 → Finishes
        by_new d new changed quiet none =
            let outcome = ap (end_of h f) (seen_as m New (ap (λ b. stage_of b e.core) new)) in
            by_unpaid (plays_gone_new st st' (registered_in a) (registered_in a) a.list.registered a.list.registered a.kept.next i x.semaphore d e k less low (home_there m)
            f d x refl (future_there m) futures_now refl (events.End f) answers.Done tt allowed new (λ seen. ap (end_of h f) seen)
            (semaphores_of (semaphores_in a) ss' x.semaphore e2 _ changes changed)) quiet none (ap (λ o. o.reply) outcome)

        by_cut : (d n : ℕ) → x.acquire ≡ acquires.Queued d n → get e.core.cut n ≡ Some d
            → e2 ≡ record e { core = record e.core { cut = remove e.core.cut n }; plain = e.plain - cond x.plain 1 0; things = e.things - 1 } → wakes' ≡ a.list.wakers → left ≡ 0
            → Finishes
        by_cut d n queued cut changed quiet none =
            let outcome = ap (end_of h f) (seen_as m Cut (cut_stage m d n queued cut)) in
            by_unpaid (plays_gone_cut st st' (registered_in a) (registered_in a) a.list.registered a.list.registered a.kept.next i x.semaphore d e k less low (home_there m)
            f d x refl (future_there m) futures_now refl (events.End f) answers.Done n tt allowed queued cut (λ seen. ap (end_of h f) seen)
            (semaphores_of (semaphores_in a) ss' x.semaphore e2 _ changes changed)) quiet none (ap (λ o. o.reply) outcome)

        by_acquire : (b : Acquire) → Ends e b x.plain e2 a.list.wakers wakes' left → x.acquire ≡ b → Belongs e.core b × IsOpen x.acquire → Finishes
        by_acquire (acquires.New d) z same home = by_new d same z.0 z.1 z.2
        by_acquire (acquires.Refused d) z same home = absurd (subst IsOpen same home.1)
        by_acquire (acquires.Done d) z same home = absurd (subst IsOpen same home.1)
        by_acquire (acquires.Queued d n) z same (inr cut, still) = (let r = z.2 cut in by_cut d n same cut.1 r.0 r.1 r.2)
        by_acquire (acquires.Queued d n) z same (inl belongs, open_still) = elim belongs [
          | inl granted ↦ (
              let r = z.0 granted in
              let l = left_within in
              let count = r.count in
              let with = plays_end_granted st st' (registered_in a) ((registered_in a) - left) sp' a.list.registered a.kept.next i x.semaphore d e k less low
              (home_there m) f d x refl (future_there m) futures_now refl n same granted (granted_live m d n same granted) allowed
              (semaphores_of (semaphores_in a) ss' x.semaphore e2 _ changes r.is)
              (subst (λ (y : SemaphoreEntry). cores.held_of y.core ≡ cores.held_of e.core) r.is held) (omega (arith, l, count)) room in
              finish with r.moved (ap (λ o. (end_of h f o).reply) (seen_as m Granted (granted_stage m d n same granted))))
          | inr still ↦ (
              let r = z.1 still.0 still.1 in
              let l = left_within in
              let count = r.count in
              let u = waiting_as m d n still.0 same still.1 in
              let part = paid_part m (at_stage x (Waiting u.0)) u.1 refl in
              let e1 : SemaphoreEntry = record e {
                core = record e.core {
                  live = e.core.live - (d - still.0);
                  queue = without_acquire e.core.queue n;
                };
                plain = e.plain - cond x.plain 1 0;
                things = e.things - 1;
              } in
              let lack : lack_of (queue_at h x.semaphore) f ≡ still.0 =
              ap (λ (y : Semaphore). lack_of y.queue f) (seen_at st a.kept.next x.semaphore e k.linked (home_there m))
              ∙ lack_left st (between st st' x.semaphore e1) a.kept.next i x.semaphore f n d still.0 x e e1 k.linked less (home_there m)
              (between_at st st' x.semaphore e1) (future_there m) futures_now refl same still.1 refl refl refl refl in
              let asked : demand_of x.acquire ≡ d = ap demand_of same in
              let within_live : d - still.0 ≤ e.core.live = omega (arith, part, lack, asked) in
              let with = plays_end_waiting st st' (registered_in a) ((registered_in a) - left) sp' a.list.registered a.kept.next i x.semaphore d e k less low
              (home_there m) f d x refl (future_there m) futures_now refl n still.0 same still.1 within_live allowed
              (semaphores_of (semaphores_in a) ss' x.semaphore e2 _ changes r.is)
              (subst (λ (y : SemaphoreEntry). cores.held_of y.core ≡ cores.held_of e.core) r.is held) (omega (arith, l, count)) room in
              finish with r.moved (ap (λ o. (end_of h f o).reply) u.1))
        ]
