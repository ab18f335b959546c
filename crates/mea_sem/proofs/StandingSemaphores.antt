-- a method on a semaphore: what it keeps, and its outcome as the contract says it
use Rattle.std.proofs.Common.{◌≡◌, ◌≢◌, ◌⊎◌, inl, inr, ℕ, suc, ◌+◌, ◌-◌, ◌^◌, ◌<◌, ◌≤◌, ◌++◌, ◌&&◌, not, Bool, true, false, cond, List, [], length, min, nat_le, nat_lt, refl, ap, sym, subst, ◌∙◌, arith, Option, Some, None, append-nil, if◌then◌else◌}
use Rattle.std.specs.Option.{option_map}
use Rattle.std.specs.Ordering.{nat_cmp}
use Rattle.std.specs.FinMap.{get, empty, entries, get-empty}
use Rattle.std.proofs.lemmas.Bool.{le-leb, lt-leb}
use Rattle.mea_base.specs.Named.{named, ChangesAt}
use Rattle.mea_base.specs.Totals.{total, weight}
use Rattle.mea_base.specs.Queue.{granted_in}
use Rattle.mea_family.specs.declared.answer.Answer.TheVariants as answers
use Rattle.mea_family.specs.declared.ledger.Ledger.{Ledger}
use Rattle.mea_family.specs.declared.stop.Stop.{Stop}
use Rattle.mea_family.specs.declared.stop.Stop.TheVariants as stops
use Rattle.mea_base.proofs.NamedMaps.{same_named, get-named, get-seen, kept-at, found}
use Rattle.mea_base.proofs.Totals.{total-remove, total-empty}
use Rattle.mea_events.specs.declared.sem_event.SemEvent.{SemEvent}
use Rattle.mea_events.specs.declared.sem_event.SemEvent.TheVariants as events
use Rattle.mea_sem_model.specs.Hall.{Hall, Semaphore, empty_hall, live, plain_things, free, semaphore_at, with_semaphore, closing, wakes_waiting}
use Rattle.mea_sem_model.specs.Cause.{cause_of, is_named}
use Rattle.mea_sem_model.specs.Step.{Outcome, step, quietly, offers, try_and_forget, close_of}
use Rattle.mea_sem_model.specs.Valid.{IsValid, IsBelow, IsAccounted}
use Rattle.mea_sem_model.proofs.Keeps.{valid_empty, below_empty, accounted_empty}
use Rattle.mea_sem_core.specs.Core as cores
use Rattle.mea_sem_core.specs.Calls as calls
use Rattle.mea_sem.proofs.Inside.{Inside}
use Rattle.mea_sem.specs.declared.entries.SemaphoreEntry.{SemaphoreEntry}
use Rattle.mea_sem.specs.Entries.{ledger_of_entry, close_wakes}
use Rattle.mea_sem.specs.Store.{Store, store_of, permit_of, semaphore_of, future_of, hall_of}
use Rattle.mea_sem.specs.Kept.{wakers_in, AreKeptSemaphores}
use Rattle.mea_sem.specs.Play.{Play}
use Rattle.mea_sem.proofs.Refusals.{known_named, unknown_unnamed, refuses_unknown, live_as, plain_as}
use Rattle.mea_sem.proofs.Seen.{seen_at}
use Rattle.mea_sem.proofs.PlaysSemaphores.{Puts, plays_nothing, plays_forget, plays_forgetx, plays_endsem}
use Rattle.mea_sem.proofs.PlaysNew.{fresh_core, fresh_entry, plays_new}
use Rattle.mea_sem.proofs.PlaysPours.{wakers_poured}
use Rattle.mea_sem.proofs.PlaysEnds.{plays_release}
use Rattle.mea_sem.proofs.PlaysCloses.{wakers_waiting, plays_close}
use Rattle.mea_sem.proofs.Meets.{registered_in, semaphores_in, futures_in, permits_in, store_in, hall_in, IsKeptIn, Meets, MeetsSemaphore, Done, later, to_kept, done, done_quietly}
use Rattle.mea_sem.proofs.Standing.{Semaphores, Futures, Permits, puts_of, semaphores_of, kept_same}
use Rattle.mea_sem.proofs.Lives.{live-seen, ledger-seen}

-- more room is room
pub kept_room : {st : Store} {w sp n : ℕ} (sp' : ℕ) → AreKeptSemaphores st w sp n → w ≤ sp' → AreKeptSemaphores st w sp' n
kept_room sp' k room = record {
  valid = k.valid;
  below = k.below;
  accounted = k.accounted;
  linked = k.linked;
  each = k.each;
  counted = k.counted;
  room = room;
  few = k.few;
  low = k.low;
}

-- n free permits of s are forgotten
abbrev taken_off : Hall → ℕ → ℕ → Outcome
taken_off h s n = quietly (with_semaphore h s (record (semaphore_at h s) { free = free h s - n; forgotten = (semaphore_at h s).forgotten + n })) answers.Yes

module _ {a : Inside} {v : Play} {i s : ℕ} {e : SemaphoreEntry} (m : MeetsSemaphore a v i s e) where
  k : IsKeptIn a
  k = m.meets.kept

  less : a.kept.next ≤ i
  less = later m.meets

  low : i < 2 ^ 64
  low = m.meets.low

  here : get (store_in a).semaphores s ≡ Some e
  here = found (semaphores_in a) s e m.there

  cause : (event : SemEvent) → cause_of v.hall event ≡ None → cause_of (hall_in a) event ≡ None
  cause event allowed = to_kept m.meets (λ h. cause_of h event ≡ None) allowed

  free_seen : free (hall_in a) s ≡ e.core.free
  free_seen = ap (λ (r : Semaphore). r.free) (seen_at (store_in a) a.kept.next s e k.linked here)

  -- ---- what an event finds
  -- while it is named, what names it is refused by the event's own cause alone
  pub while_named : {o : Option Stop} → e.named ≡ true → cond (is_named v.hall s) o (Some stops.Unknown) ≡ o
  while_named {o} named = known_named a m.meets.seen s o e m.there named

  pub once_unnamed : (o : Option Stop) → e.named ≡ false → cond (is_named v.hall s) o (Some stops.Unknown) ≡ Some stops.Unknown
  once_unnamed o unnamed = unknown_unnamed a m.meets.seen s o e m.there unnamed

  pub small_forgotten : (n : ℕ) → n < 2 ^ 64 → e.forgotten + n < 2 ^ 128
  small_forgotten n small = let old = (k.each s e here).forgotten in omega (arith, old, less, low, small)

  pub small_released : (n : ℕ) → n < 2 ^ 64 → e.released + n < 2 ^ 128
  small_released n small = let old = (k.each s e here).released in omega (arith, old, less, low, small)

  pub plain_fits : e.plain + 1 < 2 ^ 128
  plain_fits = let old = (k.each s e here).few.0 in omega (arith, old, less, low)

  pub things_fit : e.things + 1 < 2 ^ 128
  things_fit = let old = (k.each s e here).few.1 in omega (arith, old, less, low)

  pub is_quiet : e.core.wakes ≡ []
  is_quiet = (k.each s e here).quiet

  -- a release is refused where its semaphore is not named, and where it would not fit
  room_seen : (n : ℕ) → nat_lt (live v.hall s + n) (2 ^ 64) ≡ nat_lt (e.core.live + n) (2 ^ 64)
  room_seen n = ap (λ t. nat_lt (t + n) (2 ^ 64)) (sym (live_as a m.meets.seen k s e m.there))

  pub release_known : (n : ℕ) → e.named ≡ true → e.core.live + n < 2 ^ 64 → cause_of v.hall (events.Release s n) ≡ None
  release_known n named fits = while_named named
      ∙ ap (λ b. cond b None (Some stops.Overflow)) (room_seen n ∙ le-leb (suc (e.core.live + n)) (2 ^ 64) fits)

  pub release_refused : (n : ℕ) (stop : Stop) → ((e.named ≡ false) × (stop ≡ stops.Unknown))
      ⊎ ((e.named ≡ true) × ((2 ^ 64 ≤ e.core.live + n) × (stop ≡ stops.Overflow)))
      → (cause_of v.hall (events.Release s n) ≡ Some stop) × (stop ≢ stops.NoMemory)
  release_refused n stop (inl p) = refuses_unknown _ stop (once_unnamed _ p.0) p.1
  release_refused n stop (inr p) = (
    while_named p.0 ∙ ap (λ b. cond b None (Some stops.Overflow)) (room_seen n ∙ lt-leb (suc (e.core.live + n)) (2 ^ 64) (let most = p.1.0 in omega arith))
        ∙ ap (λ t. Some t) (sym p.1.1),
    λ h. absurd (cc (p.1.1, h)),
  )

  -- the end of a name is refused where that is ended, and where a plain thing is there
  plain_seen : nat_lt 0 (plain_things v.hall s) ≡ nat_lt 0 e.plain
  plain_seen = ap (nat_lt 0) (sym (plain_as a m.meets.seen k s e m.there))

  pub endsem_known : e.named ≡ true → e.plain ≡ 0 → cause_of v.hall (events.Endsem s) ≡ None
  endsem_known named none = while_named named ∙ ap (λ b. cond b (Some stops.Borrowed) None) (plain_seen ∙ ap (nat_lt 0) none)

  pub endsem_refused : (stop : Stop) → ((e.named ≡ false) × (stop ≡ stops.Unknown)) ⊎ ((e.named ≡ true) × ((0 < e.plain) × (stop ≡ stops.Borrowed)))
      → (cause_of v.hall (events.Endsem s) ≡ Some stop) × (stop ≢ stops.NoMemory)
  endsem_refused stop (inl p) = refuses_unknown _ stop (once_unnamed _ p.0) p.1
  endsem_refused stop (inr p) = (
    while_named p.0 ∙ ap (λ b. cond b (Some stops.Borrowed) None) (plain_seen ∙ le-leb 1 e.plain p.1.0) ∙ ap (λ t. Some t) (sym p.1.1),
    λ h. absurd (cc (p.1.1, h)),
  )

  pub is_accounted : e.core.live + e.forgotten ≡ e.made + e.released + cores.debts e.core.queue
  is_accounted = (k.each s e here).account

  pub small_account : e.core.live + e.forgotten < 2 ^ 128
  small_account =
      let lives = live-seen (store_in a) (registered_in a) a.list.registered a.kept.next s e k here in
      let fits = k.valid.fits s in
      let old = (k.each s e here).forgotten in
      omega (arith, lives, fits, old, less, low)

  -- the wakers of one queue are among those that are registered
  pub wakers_registered : wakers_in e.core.queue ≤ (registered_in a)
  wakers_registered =
      let sums = total-remove (λ q (x : SemaphoreEntry). wakers_in x.core.queue) (store_in a).semaphores s in
      let mine : weight (λ q (x : SemaphoreEntry). wakers_in x.core.queue) s (get (store_in a).semaphores s) ≡ wakers_in e.core.queue =
      ap (weight (λ q (x : SemaphoreEntry). wakers_in x.core.queue) s) here in
      let counted = k.counted in
      omega (arith, sums, mine, counted)

  -- a pour makes at most the wakers of all queues ready
  pub wakers_few : (n : ℕ) → length (cores.wakers_of (granted_in e.core.queue n)) ≤ (registered_in a)
  wakers_few n =
      let all = wakers_registered in
      let split = wakers_poured e.core.queue n in
      omega (arith, all, split)

  pub wakers_room : wakers_in e.core.queue ≤ a.list.registered
  wakers_room = let few = wakers_registered in let room = k.room in omega (arith, few, room)

  -- so does a close
  pub close_few : length (close_wakes e.core) ≤ (registered_in a)
  close_few = by_closed e.core.closed
    where
      by_closed : (b : Bool) → length (if b then [] else cores.wakers_of (cores.waiters_of e.core.queue)) ≤ (registered_in a)
      by_closed true = omega arith
      by_closed false = let all = wakers_registered in let same = wakers_waiting e.core.queue in omega (arith, all, same)

  pub wakers_fit : (n : ℕ) → length (cores.wakers_of (granted_in e.core.queue n)) ≤ a.list.registered
  wakers_fit n = let few = wakers_few n in let room = k.room in omega (arith, few, room)

  -- ---- events that only look
  pub done_free : (r : ℕ) → r ≡ e.core.free → Done v i (step v.hall i (events.Free s)) (answers.Free r) (store_in a) (registered_in a) a.list.registered a.list.wakers
  done_free r is = done_quietly m.meets (events.Free s) (answers.Free r)
      (plays_nothing (store_in a) (registered_in a) a.list.registered a.kept.next i (events.Free s) k less low refl) refl (ap (λ n. answers.Free n) (is ∙ sym free_seen))

  pub done_closed : (b : Bool) → b ≡ e.core.closed → Done v i (step v.hall i (events.Closed s)) (if b then answers.Yes else answers.No) (store_in a)
      (registered_in a) a.list.registered a.list.wakers
  done_closed b is = done_quietly m.meets (events.Closed s) (if b then answers.Yes else answers.No)
      (plays_nothing (store_in a) (registered_in a) a.list.registered a.kept.next i (events.Closed s) k less low refl) refl
      (ap (λ t. if t then answers.Yes else answers.No) (is ∙ ap (λ (r : Semaphore). r.closed) (sym (seen_at (store_in a) a.kept.next s e k.linked here))))

  pub done_ledger : (r : Ledger) → e.core.free + cores.held_of e.core + cores.paid_of e.core ≡ e.core.live → r ≡ ledger_of_entry e
      → Done v i (step v.hall i (events.Ledger s)) (answers.Account r) (store_in a) (registered_in a) a.list.registered a.list.wakers
  done_ledger r whole is = done_quietly m.meets (events.Ledger s) (answers.Account r)
      (plays_nothing (store_in a) (registered_in a) a.list.registered a.kept.next i (events.Ledger s) k less low refl) refl
      (ap (λ x. answers.Account x) (is ∙ sym (ledger-seen (store_in a) (registered_in a) a.list.registered a.kept.next s e k here whole)))

  seen_here : semaphore_at (hall_in a) s ≡ semaphore_of (store_in a).futures a.kept.next s e
  seen_here = seen_at (store_in a) a.kept.next s e k.linked here

  -- what the core offers is offered
  pub offered : (n : ℕ) → e.core.closed ≡ false → n ≤ e.core.free → offers (hall_in a) s n ≡ true
  offered n open_still enough = ap (λ r. not r.closed && nat_le n r.free) seen_here ∙ (λ j. not (open_still j) && le-leb n e.core.free enough j)

  -- and a closed one offers none, nor one with too few
  pub not_offered : (n : ℕ) → (e.core.closed ≡ true) ⊎ (e.core.free < n) → offers (hall_in a) s n ≡ false
  not_offered n (inl shut) = ap (λ r. not r.closed && nat_le n r.free) seen_here ∙ ap (λ b. not b && nat_le n e.core.free) shut
  not_offered n (inr few) = ap (λ r. not r.closed && nat_le n r.free) seen_here ∙ both_false (not e.core.closed) (nat_le n e.core.free) (lt-leb n e.core.free few)
    where
      both_false : (b c : Bool) → c ≡ false → (b && c) ≡ false
      both_false true c h = h
      both_false false c h = refl

  -- it is closed, or too few are free
  lacking : (n : ℕ) → (e.core.closed ≡ true) ⊎ (e.core.free < n)
      → Done v i (try_and_forget v.hall s n) answers.No (store_in a) (registered_in a) a.list.registered a.list.wakers
  lacking n few =
      let h : Hall = hall_in a in
      let too_few : offers h s n ≡ false = not_offered n few in
      let outcome : try_and_forget h s n ≡ quietly h answers.No = ap (λ b. cond b (taken_off h s n) (quietly h answers.No)) too_few in
      done_quietly m.meets (events.Tryf s n) answers.No
      (plays_nothing (store_in a) (registered_in a) a.list.registered a.kept.next i (events.Tryf s n) k less low (ap (λ (o : Outcome). o.hall) outcome))
      (ap (λ (o : Outcome). o.wakes) outcome) (sym (ap (λ (o : Outcome). o.reply) outcome))

  -- ---- events that change the semaphore
  module _ (ss' : Semaphores) (x : SemaphoreEntry) (changes : ChangesAt (semaphores_in a) ss' s (Some x)) where
    abbrev st' : Store
    st' = store_of ss' (futures_in a) (permits_in a)

    puts : (e' : SemaphoreEntry) → x ≡ e' → Puts (store_in a) st' s e e'
    puts e' is = puts_of (semaphores_in a) ss' (futures_in a) (permits_in a) (permits_in a) s e x e' m.there changes is

    held_by : (e' : SemaphoreEntry) → x ≡ e' → cores.held_of x.core ≡ cores.held_of e.core → cores.held_of e'.core ≡ cores.held_of e.core
    held_by e' is held = subst (λ (y : SemaphoreEntry). cores.held_of y.core ≡ cores.held_of e.core) is held

    -- what was written back is what stood there
    pub as_it_was : x ≡ e → st' ≡ store_in a
    as_it_was is =
        let same = kept_same (λ k x. x) (semaphores_in a) ss' s e x m.there is changes in
        λ j. record { semaphores = same j; futures = (store_in a).futures; permits = (store_in a).permits }

    pub kept_unchanged : x ≡ e → (sp' : ℕ) → (registered_in a) ≤ sp' → AreKeptSemaphores st' (registered_in a) sp' a.kept.next
    kept_unchanged is sp' room = subst (λ (st : Store). AreKeptSemaphores st (registered_in a) sp' a.kept.next) (sym (as_it_was is)) (kept_room sp' k room)

    pub seen_unchanged : x ≡ e → (wakes' : List ℕ) → wakes' ≡ a.list.wakers → record { hall = hall_of st' a.kept.next; wakes = wakes'; next = a.kept.next } ≡ v
    seen_unchanged is wakes' same = (λ j. record { hall = hall_of (as_it_was is j) a.kept.next; wakes = same j; next = a.kept.next }) ∙ m.meets.seen

    -- nor did an insertion that failed change anything
    pub kept_with_futures : (fs : Futures) → x ≡ e → fs ≡ futures_in a → AreKeptSemaphores (store_of ss' fs (permits_in a)) (registered_in a) a.list.registered a.kept.next
    kept_with_futures fs is same = subst (λ (xs : Futures). AreKeptSemaphores (store_of ss' xs (permits_in a)) (registered_in a) a.list.registered a.kept.next) (sym same)
        (kept_unchanged is a.list.registered k.room)

    pub seen_with_futures : (fs : Futures) → x ≡ e → fs ≡ futures_in a
        → record { hall = hall_of (store_of ss' fs (permits_in a)) a.kept.next; wakes = a.list.wakers; next = a.kept.next } ≡ v
    seen_with_futures fs is same = (λ j. record { hall = hall_of (store_of ss' (same j) (permits_in a)) a.kept.next; wakes = a.list.wakers; next = a.kept.next })
        ∙ seen_unchanged is a.list.wakers refl

    pub kept_with_permits : (ps : Permits) → x ≡ e → ps ≡ permits_in a → AreKeptSemaphores (store_of ss' (futures_in a) ps) (registered_in a) a.list.registered a.kept.next
    kept_with_permits ps is same = subst (λ (xs : Permits). AreKeptSemaphores (store_of ss' (futures_in a) xs) (registered_in a) a.list.registered a.kept.next) (sym same)
        (kept_unchanged is a.list.registered k.room)

    pub seen_with_permits : (ps : Permits) → x ≡ e → ps ≡ permits_in a
        → record { hall = hall_of (store_of ss' (futures_in a) ps) a.kept.next; wakes = a.list.wakers; next = a.kept.next } ≡ v
    seen_with_permits ps is same = (λ j. record { hall = hall_of (store_of ss' (futures_in a) (same j)) a.kept.next; wakes = a.list.wakers; next = a.kept.next })
        ∙ seen_unchanged is a.list.wakers refl

    pub done_lacking : (n : ℕ) → x ≡ e → (e.core.closed ≡ true) ⊎ (e.core.free < n)
        → Done v i (try_and_forget v.hall s n) answers.No st' (registered_in a) a.list.registered a.list.wakers
    done_lacking n is few = subst (λ (st : Store). Done v i (try_and_forget v.hall s n) answers.No st (registered_in a) a.list.registered a.list.wakers)
        (sym (as_it_was is)) (lacking n few)

    pub done_forget : (n r : ℕ) → n < 2 ^ 64 → cause_of v.hall (events.Forget s n) ≡ None
        → x ≡ record e { core = calls.forgetting e.core n; forgotten = e.forgotten + min n e.core.free }
        → cores.held_of x.core ≡ cores.held_of e.core → r ≡ min n e.core.free → min n e.core.free ≤ e.core.live
        → Done v i (step v.hall i (events.Forget s n)) (answers.Forgot r) st' (registered_in a) a.list.registered a.list.wakers
    done_forget n r small allowed is held taken within_live =
        done_quietly m.meets (events.Forget s n) (answers.Forgot r)
        (plays_forget (store_in a) st' (registered_in a) a.list.registered a.kept.next i s n e k less low small (events.Forget s n) tt (cause (events.Forget s n) allowed) refl (puts _ is)
        refl (held_by _ is held) within_live)
        refl (ap (λ t. answers.Forgot t) (taken ∙ ap (min n) (sym free_seen)))

    pub done_forgetx : (n : ℕ) → n < 2 ^ 64 → cause_of v.hall (events.Forgetx s n) ≡ None
        → x ≡ record e { core = calls.forgetting_exactly e.core n; forgotten = e.forgotten + n }
        → cores.held_of x.core ≡ cores.held_of e.core → min n e.core.free ≤ e.core.live
        → Done v i (step v.hall i (events.Forgetx s n)) answers.Done st' (registered_in a) a.list.registered a.list.wakers
    done_forgetx n small allowed is held within =
        done_quietly m.meets (events.Forgetx s n) answers.Done
        (plays_forgetx (store_in a) st' (registered_in a) a.list.registered a.kept.next i s n e k less low small (cause (events.Forgetx s n) allowed) (puts _ is)
        refl (held_by _ is held) within) refl refl

    pub done_tried : (n : ℕ) → n < 2 ^ 64 → cause_of v.hall (events.Tryf s n) ≡ None → e.core.closed ≡ false → n ≤ e.core.free
        → x ≡ record e { core = calls.forgetting e.core n; forgotten = e.forgotten + min n e.core.free }
        → cores.held_of x.core ≡ cores.held_of e.core → min n e.core.free ≤ e.core.live
        → Done v i (try_and_forget v.hall s n) answers.Yes st' (registered_in a) a.list.registered a.list.wakers
    done_tried n small allowed open_still enough is held within =
        let h : Hall = hall_in a in
        let fits_in : offers h s n ≡ true = offered n open_still enough in
        let all : n ≡ min n (free h s) = omega (arith, enough, free_seen) in
        let outcome : try_and_forget h s n ≡ taken_off h s n = ap (λ b. cond b (taken_off h s n) (quietly h answers.No)) fits_in in
        done_quietly m.meets (events.Tryf s n) answers.Yes
        (plays_forget (store_in a) st' (registered_in a) a.list.registered a.kept.next i s n e k less low small (events.Tryf s n) tt
        (cause (events.Tryf s n) allowed) (ap (λ (o : Outcome). o.hall) outcome
        ∙ (λ j. with_semaphore h s (record (semaphore_at h s) { free = free h s - all j; forgotten = (semaphore_at h s).forgotten + all j })))
        (puts _ is) refl (held_by _ is held) within)
        (ap (λ (o : Outcome). o.wakes) outcome) (sym (ap (λ (o : Outcome). o.reply) outcome))

    pub done_endsem : cause_of v.hall (events.Endsem s) ≡ None → x ≡ record e { named = false }
        → Done v i (step v.hall i (events.Endsem s)) answers.Done st' (registered_in a) a.list.registered a.list.wakers
    done_endsem allowed is =
        done_quietly m.meets (events.Endsem s) answers.Done
        (plays_endsem (store_in a) st' (registered_in a) a.list.registered a.kept.next i s 0 e k less low (omega arith) (cause (events.Endsem s) allowed)
        (puts _ is) refl) refl refl

    -- ---- close
    -- a closed one stays as it is
    pub done_shut : cause_of v.hall (events.Close s) ≡ None → e.core.closed ≡ true → x ≡ e → (r spare : ℕ) (wakers : List ℕ) → wakers ≡ a.list.wakers
        → r ≡ 0 → spare + r ≡ a.list.registered
        → Done v i (step v.hall i (events.Close s)) answers.Done st' ((registered_in a) - r) spare wakers
    done_shut allowed shut is r spare wakers same none left =
        let h : Hall = hall_in a in
        let outcome : close_of h s ≡ quietly h answers.Done =
        ap (λ b. if b then quietly h answers.Done else record { hall = closing h s; reply = answers.Done; wakes = wakes_waiting h s })
        (ap (λ (r : Semaphore). r.closed) seen_here ∙ shut) in
        let plays = plays_nothing (store_in a) (registered_in a) a.list.registered a.kept.next i (events.Close s) k less low (ap (λ (o : Outcome). o.hall) outcome) in
        let fewer : (registered_in a) ≡ (registered_in a) - r = omega (arith, none) in
        let room : (registered_in a) - r ≤ spare = let fits = k.room in omega (arith, fits, none, left) in
        subst (λ (st : Store). Done v i (step v.hall i (events.Close s)) answers.Done st ((registered_in a) - r) spare wakers) (sym (as_it_was is))
        (done m.meets wakers (events.Close s) answers.Done
        (record { hall = plays.hall; kept = subst (λ n. AreKeptSemaphores (store_in a) n spare (i + 1)) fewer (kept_room spare plays.kept (omega (arith, room, fewer))) })
        (same ∙ sym (append-nil a.list.wakers) ∙ ap (λ ws. a.list.wakers ++ ws) (sym (ap (λ (o : Outcome). o.wakes) outcome)))
        (sym (ap (λ (o : Outcome). o.reply) outcome)))

    pub done_close : cause_of v.hall (events.Close s) ≡ None → e.core.closed ≡ false → (r spare : ℕ) (wakers : List ℕ)
        → x ≡ record e { core = record (cores.poured (cores.cut_off e.core) (cores.paid_waiting e.core.queue)) { wakes = [] } }
        → cores.held_of x.core ≡ cores.held_of e.core
        → wakers ≡ a.list.wakers ++ cores.wakers_of (cores.waiters_of e.core.queue) → r ≡ length (cores.wakers_of (cores.waiters_of e.core.queue))
        → spare + r ≡ a.list.registered → cores.paid_waiting e.core.queue ≤ e.core.live
        → Done v i (step v.hall i (events.Close s)) answers.Done st' ((registered_in a) - r) spare wakers
    done_close allowed open_still r spare wakers is held moved count left within =
        let room = k.room in
        let few = wakers_registered in
        let all = wakers_waiting e.core.queue in
        let with = plays_close (store_in a) st' (registered_in a) ((registered_in a) - r) spare a.list.registered a.kept.next i s e k less low here
        (cause (events.Close s) allowed) open_still (puts _ is).semaphores refl refl (held_by _ is held) within (omega (arith, few, count, all))
        (omega (arith, room, left)) in
        done m.meets wakers (events.Close s) answers.Done with.plays.plays (moved ∙ ap (λ ws. a.list.wakers ++ ws) (sym with.plays.wakes)) with.reply

    -- either way
    pub done_closing : cause_of v.hall (events.Close s) ≡ None → (r spare : ℕ) (wakers : List ℕ)
        → x ≡ record e { core = record (cores.closed_core e.core) { wakes = [] } } → cores.held_of x.core ≡ cores.held_of e.core
        → wakers ≡ a.list.wakers ++ close_wakes e.core → r ≡ length (close_wakes e.core) → spare + r ≡ a.list.registered
        → cores.paid_waiting e.core.queue ≤ e.core.live
        → Done v i (step v.hall i (events.Close s)) answers.Done st' ((registered_in a) - r) spare wakers
    done_closing allowed r spare wakers is held moved count left within = by_closed e.core.closed refl
      where
        as_closed : (b : Bool) → e.core.closed ≡ b
            → x ≡ record e { core = record (if b then e.core else cores.poured (cores.cut_off e.core) (cores.paid_waiting e.core.queue)) { wakes = [] } }
        as_closed b h = is ∙ ap
            (λ t. record e { core = record (if t then e.core else cores.poured (cores.cut_off e.core) (cores.paid_waiting e.core.queue)) { wakes = [] } }) h

        as_woken : (b : Bool) → e.core.closed ≡ b → close_wakes e.core ≡ (if b then [] else cores.wakers_of (cores.waiters_of e.core.queue))
        as_woken b h = ap (λ t. if t then [] else cores.wakers_of (cores.waiters_of e.core.queue)) h

        by_closed : (b : Bool) → e.core.closed ≡ b → Done v i (step v.hall i (events.Close s)) answers.Done st' ((registered_in a) - r) spare wakers
        by_closed true shut = done_shut allowed shut (as_closed true shut ∙ ap (λ ws. record e { core = record e.core { wakes = ws } }) (sym is_quiet)) r spare wakers
            (moved ∙ ap (λ ws. a.list.wakers ++ ws) (as_woken true shut) ∙ append-nil a.list.wakers) (count ∙ ap length (as_woken true shut)) left
        by_closed false open_still = done_close allowed open_still r spare wakers (as_closed false open_still) held
            (moved ∙ ap (λ ws. a.list.wakers ++ ws) (as_woken false open_still)) (count ∙ ap length (as_woken false open_still)) left within

    -- ---- release
    pub done_release : (n r spare : ℕ) (wakers : List ℕ) → n < 2 ^ 64 → cause_of v.hall (events.Release s n) ≡ None
        → x ≡ record e { core = record (cores.poured e.core n) { wakes = [] }; released = e.released + n } → cores.held_of x.core ≡ cores.held_of e.core
        → wakers ≡ a.list.wakers ++ cores.wakers_of (granted_in e.core.queue n) → spare + r ≡ a.list.registered
        → r ≡ length (cores.wakers_of (granted_in e.core.queue n))
        → Done v i (step v.hall i (events.Release s n)) answers.Done st' ((registered_in a) - r) spare wakers
    done_release n r spare wakers small allowed is held moved left count =
        let room = k.room in
        let few = wakers_few n in
        let with = plays_release (store_in a) st' (registered_in a) ((registered_in a) - r) spare a.list.registered a.kept.next i s n e k less low here small
        (cause (events.Release s n) allowed)
        (puts _ is).semaphores refl refl (held_by _ is held) (omega (arith, few, count)) (omega (arith, room, left)) in
        done m.meets wakers (events.Release s n) answers.Done with.plays (moved ∙ ap (λ ws. a.list.wakers ++ ws) (sym with.wakes)) refl

-- ---- a new semaphore
pub done_new : {a : Inside} {v : Play} {i : ℕ} → Meets a v i → (n : ℕ) → n < 2 ^ 64 → (ss' : Semaphores) (core : cores.Core ℕ)
    → ChangesAt (semaphores_in a) ss' i (Some (record { core = core; made = n; released = 0; forgotten = 0; named = true; plain = 0; things = 0 }))
    → core ≡ fresh_core n → cores.held_of core ≡ 0
    → Done v i (step v.hall i (events.New n)) answers.Made (store_of ss' (futures_in a) (permits_in a)) (registered_in a) a.list.registered a.list.wakers
done_new {a} {v} {i} m n small ss' core changes is held =
    let plays = plays_new (store_in a) (registered_in a) a.list.registered a.kept.next i m.kept (later m) m.low (store_of ss' (futures_in a) (permits_in a)) n small
    (semaphores_of (semaphores_in a) ss' i _ (fresh_entry n) changes (ap (λ (x : cores.Core ℕ). record (fresh_entry n) { core = x }) is)) refl refl
    (subst (λ (x : cores.Core ℕ). cores.held_of x ≡ 0) is held) in
    done_quietly m (events.New n) answers.Made plays refl refl

-- ---- the hall with nothing in it
abbrev nothing : Store
nothing = store_of [] [] []

named_nothing : {X Y : Type 0} (f : ℕ → X → Y) → named f [] ≡ empty {X = Y} {R = nat_cmp}
named_nothing f = same_named _ _ (λ q. get-named f [] q ∙ sym (get-empty nat_cmp q))

seen_nothing : {X Y : Type 0} (f : ℕ → X → Y) → named f (entries (named (λ (k : ℕ) (x : X). x) [])) ≡ empty {X = Y} {R = nat_cmp}
seen_nothing {X} f = same_named _ _ (λ q. get-seen f (named (λ (k : ℕ) (x : X). x) []) q ∙ ap (option_map (f q)) (kept-at [] q) ∙ sym (get-empty nat_cmp q))

hall_nothing : hall_of nothing 0 ≡ empty_hall
hall_nothing = λ j. record {
  semaphores = seen_nothing (semaphore_of nothing.futures 0) j;
  futures = seen_nothing (λ f x. future_of nothing.semaphores x) j;
  permits = named_nothing (λ p x. permit_of x) j;
}

none_at : {X : Type 0} (q : ℕ) (x : X) → get (named (λ (k : ℕ) (y : X). y) []) q ≡ Some x → ⊥
none_at {X} q x is = absurd (let none : ◌≡◌ {A = Option X} None (Some x) = sym (kept-at {X = X} [] q) ∙ is in cc)

kept_nothing : (spare : ℕ) → AreKeptSemaphores nothing 0 spare 0
kept_nothing spare = record {
  valid = subst IsValid (sym hall_nothing) valid_empty;
  below = subst (λ h. IsBelow h 0) (sym hall_nothing) (below_empty 0);
  accounted = λ s. subst (λ h. IsAccounted h s) (sym hall_nothing) (accounted_empty s);
  linked = record {
    home = λ f x is. absurd (none_at f x is);
    owned = λ s e n d l is. absurd (none_at s e is);
    granted = λ s e n d is. absurd (none_at s e is);
    cut = λ s e n d is. absurd (none_at s e is);
    apart = λ f g n x y is. absurd (none_at f x is);
    below = λ f x is. absurd (none_at f x is);
    numbered = λ s e is. absurd (none_at s e is);
  };
  each = λ s e is. absurd (none_at s e is);
  counted = sym (ap (total (λ s (e : SemaphoreEntry). wakers_in e.core.queue)) (named_nothing (λ k (e : SemaphoreEntry). e))
      ∙ total-empty (λ s (e : SemaphoreEntry). wakers_in e.core.queue));
  room = omega arith;
  few = omega arith;
  low = omega arith;
}

nothing_in : (ss : Semaphores) (fs : Futures) (ps : Permits) → ss ≡ [] → fs ≡ [] → ps ≡ [] → store_of ss fs ps ≡ nothing
nothing_in ss fs ps none no_future no_permit = λ j. store_of (none j) (no_future j) (no_permit j)

pub kept_empty : (ss : Semaphores) (fs : Futures) (ps : Permits) (spare : ℕ) → ss ≡ [] → fs ≡ [] → ps ≡ [] → AreKeptSemaphores (store_of ss fs ps) 0 spare 0
kept_empty ss fs ps spare none no_future no_permit = subst (λ (st : Store). AreKeptSemaphores st 0 spare 0) (sym (nothing_in ss fs ps none no_future no_permit))
    (kept_nothing spare)

pub seen_empty : (ss : Semaphores) (fs : Futures) (ps : Permits) (wakers : List ℕ) → ss ≡ [] → fs ≡ [] → ps ≡ [] → wakers ≡ []
    → ◌≡◌ {A = Play} (record { hall = hall_of (store_of ss fs ps) 0; wakes = wakers; next = 0 }) (record { hall = empty_hall; wakes = []; next = 0 })
seen_empty ss fs ps wakers none no_future no_permit quiet =
    let hall : hall_of (store_of ss fs ps) 0 ≡ empty_hall = ap (λ (st : Store). hall_of st 0) (nothing_in ss fs ps none no_future no_permit) ∙ hall_nothing in
    λ j. record { hall = hall j; wakes = quiet j; next = 0 }
