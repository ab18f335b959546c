-- what each event on a future does to the locks of one kind, as they are kept and as they are seen
use Rattle.std.proofs.Common.{◌≡◌, ℕ, ◌+◌, ◌≤◌, ◌==◌, ◌||◌, ◌++◌, inl, inr, Bool, true, false, cond, length, List, map, nat_lt, Some, None, refl, ap, sym, subst, ◌∙◌, arith, append-nil, if◌then◌else◌}
use Rattle.std.specs.FinMap.{get, insert, remove}
use Rattle.mea_family.specs.declared.answer.Answer.{Answer}
use Rattle.mea_family.specs.declared.answer.Answer.TheVariants as answers
use Rattle.mea_base.specs.declared.turn.Turn.TheVariants.{Ready, Pending}
use Rattle.mea_family.specs.Family.{Outcome, quietly}
use Rattle.mea_base.specs.Ready.{Waking}
use Rattle.mea_base.proofs.Maps.{inside, get-there, get-gone}
use Rattle.mea_base.proofs.Totals.{get_inserted, get_removed}
use Rattle.mea_base.proofs.NamedMaps.{same_named}
use Rattle.mea_by_name.specs.ByName.{Names, seen, own}
use Rattle.mea_family.specs.Play.{Part, PartYields}
use Rattle.mea_by_name.specs.NamedQueue.{waits}
use Rattle.mea_by_name.specs.LackingQueue.{who, woken_by}
use Rattle.mea_by_name.proofs.Cases.{found_is, if_true, if_false}
use Rattle.mea_by_name.proofs.Own.{seen-at, seen-insert, seen-remove, seen-alike, own-at, own-none, own-put, own-gone, len-some, count-gone, insert_same, put_gone, gone_none, Moves, Stays, Comes, Goes}
use Rattle.mea_by_name.specs.declared.named_waker.NamedWaker.{NamedWaker}
use Rattle.mea_lock_core.specs.RwLock.{MayPoll, MayCancel, share_of, is_write}
use Rattle.mea_lock_model.specs.Locks as model
use Rattle.mea_lock_model.specs.declared.until.Until.{Until}
use Rattle.mea_lock_model.specs.declared.until.Until.TheVariants as untils
use Rattle.mea_lock_model.specs.Locks.{Lock, LockFuture, Locks, goes_on, taken_from, was_polled, is_condvar_future, is_waiting_for, things_of, registered, tidied_locks, size}
use Rattle.mea_lock_model.specs.Actions.{Action, act_in, Poll, PollUntil, EndWait}
use Rattle.mea_cores_by_name.specs.Linked.{names_in}
use Rattle.mea_lock.specs.declared.guard_entry.GuardEntry.{GuardEntry}
use Rattle.mea_lock.specs.Cores.{NamedLock, CancelsLock, UnlocksLock, IsHeldAs}
use Rattle.mea_lock.specs.Entries.{KeptLock, KeptFuture, finished, settled, is_over, Settles, EndsLock, Polled, HasLock}
use Rattle.mea_lock.specs.Waits.{IsNewWait, is_polled, may_go_on}
use Rattle.mea_lock.specs.Parts.{lock_seen, future_seen, guard_seen, locks_seen, AreKept, AreKeptLocks, of_future, of_guard}
use Rattle.mea_lock.proofs.OneLock as one
use Rattle.mea_lock.proofs.PartEvents.{Site, tidied_seen, waiting_tidied, tidied_kept, waiters, part_of, writing_ready, writing_pending, free_ready, polled_by, yields_as, no_guard, its_kept, found_lock, waiting_now, turns}

-- one that gave the lock up may go on waiting
pub lays_may : (until : Until) (v : ℕ) → goes_on until v ≡ true → may_go_on until ≡ true
lays_may untils.Held v on = absurd (cc)
lays_may (untils.Reached least) v on = refl
lays_may untils.Never v on = refl

module _ {old : Part Locks} {i : ℕ} (s : Site old i) where
  -- ---- by a future
  module _ (f : ℕ) (x : KeptFuture) (e : KeptLock) (future : get s.fs f ≡ Some x) (there : get s.ls x.lock ≡ Some e) where
    own_future : get (own of_future x.lock s.fs) f ≡ Some x
    own_future = own-at of_future x.lock s.fs f x future refl

    pub future_few : (1 ≤ e.things) × (cond x.plain 1 0 ≤ e.plain)
    future_few =
        let k = (its_kept s) x.lock e there in (
          omega (arith, k.things, len-some (own of_future x.lock s.fs) f x own_future),
          omega (arith, k.plain, count-gone (own of_future x.lock s.fs) f (λ (x : KeptFuture). x.plain) x own_future),
        )

    -- one that waits for the lock alone does not hold it
    pub waits_alone : x.of_condvar ≡ false → x.holds ≡ false
    waits_alone lone = at x.holds refl
      where
        at : (b : Bool) → x.holds ≡ b → x.holds ≡ false
        at false is = is
        at true holds = absurd (let condvar = (((its_kept s) x.lock e there).holders f x own_future holds).of_condvar in cc)

    -- that of a wait on a condition variable writes
    its_of_condvar : is_condvar_future old.hall f ≡ true → x.of_condvar ≡ true
    its_of_condvar is = sym (ap (is_waiting_for true) (seen-at future_seen s.fs f x future)) ∙ ap (λ (p : Part Locks). is_condvar_future p.hall f) s.view ∙ is

    pub condvar_writes : is_condvar_future old.hall f ≡ true → is_write x.wait ≡ true
    condvar_writes is = ((its_kept s) x.lock e there).waits_write f x own_future (its_of_condvar is)

    pub future_may_poll : MayPoll e.lock x.wait
    future_may_poll = one.may_poll e _ _ ((its_kept s) x.lock e there) f x own_future

    pub future_may_end : MayCancel e.lock x.wait
    future_may_end = one.may_cancel_by e.lock x.wait future_may_poll

    pub future_holds : x.holds ≡ true → IsHeldAs e.lock true
    future_holds holds = one.holder_held e _ _ ((its_kept s) x.lock e there) f x own_future holds

    -- ---- it ends
    ends_as : (o : Outcome Locks) → model.end_future (locks_seen s.ls s.fs s.gs) f (future_seen x) (lock_seen e) ≡ o → act_in (locks_seen s.ls s.fs s.gs) i (EndWait f) ≡ o
    ends_as o is = found_is _ (locks_seen s.ls s.fs s.gs) _ (future_seen x) (seen-at future_seen s.fs f x future) ∙ ap (model.end_at (locks_seen s.ls s.fs s.gs) f (future_seen x)) (seen-at lock_seen s.ls x.lock e there) ∙ is

    -- one that holds the lock
    module _ (holds : x.holds ≡ true) (l : NamedLock) (e' : KeptLock) (before after : Waking ℕ) (unlocks : UnlocksLock e.lock true l) (settles : Settles e l e' before after) where
      abbrev given_up : KeptLock
      given_up = one.gave_back e (own of_future x.lock s.fs) (own of_guard x.lock s.gs) ((its_kept s) x.lock e there) e.lock.most

      given_up_is : e' ≡ given_up
      given_up_is = settles.entry ∙ ap (λ l. record e { lock = settled l }) unlocks.lock

      holder_writes : is_write x.wait ≡ true
      holder_writes = (((its_kept s) x.lock e there).holders f x own_future holds).writes

      holder_good : AreKept (finished given_up x.plain) (own of_future x.lock (remove s.fs f)) (own of_guard x.lock s.gs)
      holder_good = rw (own-gone of_future x.lock s.fs f) (one.holder_ends e _ _ ((its_kept s) x.lock e there) f x own_future holds l unlocks)

      holder_goes : Moves of_future x.lock i s.fs (remove s.fs f)
      holder_goes = Goes f (λ y is. ap of_future (inside (sym is ∙ future)))

      holder_out : model.end_future (locks_seen s.ls s.fs s.gs) f (future_seen x) (lock_seen e) ≡ model.gives_up (record (locks_seen s.ls s.fs s.gs) { futures = remove (seen future_seen s.fs) f }) x.lock (lock_seen e) e.lock.most
      holder_out = if_false _ _ _ (one.holder_apart e _ _ ((its_kept s) x.lock e there) f x own_future holds) ∙ if_true _ _ _ (ap (λ b. b || is_polled x.wait) holds)
          ∙ ap (λ b. model.gives_up (record (locks_seen s.ls s.fs s.gs) { futures = remove (seen future_seen s.fs) f }) x.lock (lock_seen e) (size (lock_seen e) b)) holder_writes

      pub holder_ended : (over : Bool) → is_over (finished e' x.plain) ≡ over
          → (AreKeptLocks (if over then remove (insert s.ls x.lock (finished e' x.plain)) x.lock else insert s.ls x.lock (finished e' x.plain)) (remove s.fs f) s.gs (i + 1))
          × PartYields registered old i (act_in old.hall i (EndWait f)) answers.Done (part_of (if over then remove (insert s.ls x.lock (finished e' x.plain)) x.lock else insert s.ls x.lock (finished e' x.plain)) (remove s.fs f) s.gs (i + 1)) before after
      holder_ended over is =
          let over_now : is_over (finished given_up x.plain) ≡ over = ap (λ e. is_over (finished e x.plain)) (sym given_up_is) ∙ is in
          let counted = (waiting_tidied s) x.lock e there (finished given_up x.plain) (remove s.fs f) s.gs holder_goes Stays holder_good (omega arith) over over_now in
          let queue = ap (λ (l : NamedLock). length l.permits.queue) unlocks.lock in
          rw given_up_is (
            (tidied_kept s) x.lock e there (finished given_up x.plain) (remove s.fs f) s.gs holder_goes Stays holder_good (omega arith) over over_now,
            (yields_as s) (λ h. act_in h i (EndWait f)) _ answers.Done _ (remove s.fs f) s.gs before after
                (ends_as _ holder_out) refl
                (tidied_seen s x.lock e there (finished given_up x.plain) (remove s.fs f) s.gs holder_goes Stays holder_good (omega arith) over over_now
                ∙ (λ j. tidied_locks (seen lock_seen s.ls) x.lock (one.given_seen e _ _ ((its_kept s) x.lock e there) e.lock.most j) (things_of (record { locks = seen lock_seen s.ls; futures = seen-remove future_seen s.fs f j; guards = seen guard_seen s.gs }) x.lock)))
                (seen-remove future_seen s.fs f) refl
                (settles.wakers ∙ ap (λ ws. before.wakers ++ ws) (ap (λ (l : NamedLock). map (λ (k : NamedWaker). k.waker) l.permits.wakes) unlocks.lock ∙ one.given_woken e _ _ ((its_kept s) x.lock e there) e.lock.most))
                (omega (arith, counted, queue, settles.counted)),
          )

    -- one that waits for it
    module _ (waits_now : x.holds ≡ false) (l : NamedLock) (e' : KeptLock) (before after : Waking ℕ) (cancels : CancelsLock e.lock x.wait l) (settles : Settles e l e' before after) where
      abbrev ended : KeptLock
      ended = record e { lock = settled (record e.lock { permits = l.permits }) }

      ended_is : e' ≡ ended
      ended_is = settles.entry ∙ ap (λ l. record e { lock = settled l }) cancels.lock

      ends : one.EndsFuture e (own of_future x.lock s.fs) (own of_guard x.lock s.gs) ((its_kept s) x.lock e there) f x l.permits
      ends = one.ends_future e _ _ ((its_kept s) x.lock e there) f x own_future waits_now l.permits cancels.held (rw cancels.lock at cancels.sound) cancels.cancels

      future_goes : Moves of_future x.lock i s.fs (remove s.fs f)
      future_goes = Goes f (λ y is. ap of_future (inside (sym is ∙ future)))

      future_good : AreKept (finished ended x.plain) (own of_future x.lock (remove s.fs f)) (own of_guard x.lock s.gs)
      future_good = rw (own-gone of_future x.lock s.fs f) ends.stays

      module _ (over : Bool) (is : is_over (finished ended x.plain) ≡ over) where
        outcome : (r : Lock) (ws : List ℕ) → lock_seen ended ≡ r → map (λ (k : NamedWaker). k.waker) l.permits.wakes ≡ ws
            → model.end_future (locks_seen s.ls s.fs s.gs) f (future_seen x) (lock_seen e) ≡ record { hall = model.tidied (record (locks_seen s.ls s.fs s.gs) { futures = remove (seen future_seen s.fs) f }) x.lock r; reply = answers.Done; wakes = ws }
            → PartYields registered old i (act_in old.hall i (EndWait f)) answers.Done (part_of (if over then remove (insert s.ls x.lock (finished ended x.plain)) x.lock else insert s.ls x.lock (finished ended x.plain)) (remove s.fs f) s.gs (i + 1)) before after
        outcome r ws seen_is woken out =
            let counted = (waiting_tidied s) x.lock e there (finished ended x.plain) (remove s.fs f) s.gs future_goes Stays future_good (omega arith) over is in
            (yields_as s) (λ h. act_in h i (EndWait f)) _ answers.Done _ (remove s.fs f) s.gs before after
            (ends_as _ out) refl
            (tidied_seen s x.lock e there (finished ended x.plain) (remove s.fs f) s.gs future_goes Stays future_good (omega arith) over is
            ∙ (λ j. tidied_locks (seen lock_seen s.ls) x.lock (seen_is j) (things_of (record { locks = seen lock_seen s.ls; futures = seen-remove future_seen s.fs f j; guards = seen guard_seen s.gs }) x.lock)))
            (seen-remove future_seen s.fs f) refl
            (settles.wakers ∙ ap (λ vs. before.wakers ++ vs) woken) (omega (arith, counted, settles.counted))

        yields : PartYields registered old i (act_in old.hall i (EndWait f)) answers.Done (part_of (if over then remove (insert s.ls x.lock (finished ended x.plain)) x.lock else insert s.ls x.lock (finished ended x.plain)) (remove s.fs f) s.gs (i + 1)) before after
        yields = elim ends.seen [
          | inl waited ↦ outcome _ _ waited.1 waited.2 (if_true (waits (who (names_in e.lock.permits.queue)) f) _ _ waited.0)
          | inr rest ↦ elim rest [
            | inl granted ↦ outcome _ _ granted.2 granted.3 (if_false (waits (who (names_in e.lock.permits.queue)) f) _ _ granted.0 ∙ if_true _ _ _ (polled_by x.holds (is_polled x.wait) waits_now granted.1))
            | inr new ↦ outcome _ _ new.2 new.3 (if_false (waits (who (names_in e.lock.permits.queue)) f) _ _ new.0 ∙ if_false _ _ _ (polled_by x.holds (is_polled x.wait) waits_now new.1))
          ]
        ]

      pub future_ended : (over : Bool) → is_over (finished e' x.plain) ≡ over
          → (AreKeptLocks (if over then remove (insert s.ls x.lock (finished e' x.plain)) x.lock else insert s.ls x.lock (finished e' x.plain)) (remove s.fs f) s.gs (i + 1))
          × PartYields registered old i (act_in old.hall i (EndWait f)) answers.Done (part_of (if over then remove (insert s.ls x.lock (finished e' x.plain)) x.lock else insert s.ls x.lock (finished e' x.plain)) (remove s.fs f) s.gs (i + 1)) before after
      future_ended over is =
          let over_now : is_over (finished ended x.plain) ≡ over = ap (λ e. is_over (finished e x.plain)) (sym ended_is) ∙ is in
          rw ended_is (tidied_kept s x.lock e there (finished ended x.plain) (remove s.fs f) s.gs future_goes Stays future_good (omega arith) over over_now, yields over over_now)

    -- either
    module _ (l : NamedLock) (e' : KeptLock) (before after : Waking ℕ) (ends : EndsLock e.lock x l) (settles : Settles e l e' before after) (over : Bool) (is : is_over (finished e' x.plain) ≡ over) where
      pub wait_ended : (AreKeptLocks (if over then remove (insert s.ls x.lock (finished e' x.plain)) x.lock else insert s.ls x.lock (finished e' x.plain)) (remove s.fs f) s.gs (i + 1))
          × PartYields registered old i (act_in old.hall i (EndWait f)) answers.Done (part_of (if over then remove (insert s.ls x.lock (finished e' x.plain)) x.lock else insert s.ls x.lock (finished e' x.plain)) (remove s.fs f) s.gs (i + 1)) before after
      wait_ended = at x.holds refl
        where
          at : (b : Bool) → x.holds ≡ b → (AreKeptLocks (if over then remove (insert s.ls x.lock (finished e' x.plain)) x.lock else insert s.ls x.lock (finished e' x.plain)) (remove s.fs f) s.gs (i + 1))
              × PartYields registered old i (act_in old.hall i (EndWait f)) answers.Done (part_of (if over then remove (insert s.ls x.lock (finished e' x.plain)) x.lock else insert s.ls x.lock (finished e' x.plain)) (remove s.fs f) s.gs (i + 1)) before after
          at true holds = holder_ended holds l e' before after (ends.0 holds) settles over is
          at false waits = future_ended waits l e' before after (ends.1 waits) settles over is

    -- ---- its poll
    abbrev pub guard_made : GuardEntry
    guard_made = record { lock = x.lock; plain = x.plain; writes = is_write x.wait }

    polls_as : (w : ℕ) (o : Outcome Locks) → model.poll (locks_seen s.ls s.fs s.gs) i f w (future_seen x) (lock_seen e) ≡ o → act_in (locks_seen s.ls s.fs s.gs) i (Poll f w) ≡ o
    polls_as w o is = found_is _ (locks_seen s.ls s.fs s.gs) _ (future_seen x) (seen-at future_seen s.fs f x future) ∙ (found_lock s) x.lock e there (model.poll (locks_seen s.ls s.fs s.gs) i f w (future_seen x)) ∙ is

    until_as : (w : ℕ) (until : Until) (o : Outcome Locks) → model.poll_until (locks_seen s.ls s.fs s.gs) i f w until (future_seen x) (lock_seen e) ≡ o → act_in (locks_seen s.ls s.fs s.gs) i (PollUntil f w until) ≡ o
    until_as w until o is = found_is _ (locks_seen s.ls s.fs s.gs) _ (future_seen x) (seen-at future_seen s.fs f x future) ∙ (found_lock s) x.lock e there (model.poll_until (locks_seen s.ls s.fs s.gs) i f w until (future_seen x)) ∙ is

    -- a poll that found no memory has changed nothing
    pub undone : (e' : KeptLock) (x' : KeptFuture) (gs' : Names GuardEntry) → e' ≡ e → x' ≡ x → gs' ≡ s.gs
        → (AreKeptLocks (insert s.ls x.lock e') (insert s.fs f x') gs' s.next) × (part_of (insert s.ls x.lock e') (insert s.fs f x') gs' s.next ≡ old)
    undone e' x' gs' same alike still = rw (same, alike, still, insert_same s.ls x.lock e there, insert_same s.fs f x future) (s.kept, s.view)

    module _ (waits_now : x.holds ≡ false) (w : ℕ) (e' : KeptLock) (x' : KeptFuture) (before after : Waking ℕ) where
      module _ (k : NamedWaker) (polled : Polled e f x w (Ready k) e' x' before after) where
        abbrev locked_by : KeptLock
        locked_by = record e { lock = record e.lock { permits = polled.left.permits; writing = is_write x.wait } }

        left_is : polled.left ≡ record e.lock { permits = polled.left.permits; writing = is_write x.wait }
        left_is = polled.polls.lock ∙ (λ j. record e.lock { permits = polled.left.permits; writing = writing_ready e.lock k e.lock.writing (is_write x.wait) refl polled.polls.lets_in j })

        entry_is : e' ≡ locked_by
        entry_is = polled.entry ∙ ap (λ l. record e { lock = l }) left_is

        its_ready : one.IsReady e (own of_future x.lock s.fs) (own of_guard x.lock s.gs) ((its_kept s) x.lock e there) f x own_future waits_now i guard_made polled.left.permits
        its_ready = one.polls_ready e _ _ ((its_kept s) x.lock e there) f x own_future waits_now w polled.left.permits x'.wait i guard_made (own-none of_guard x.lock s.gs i (no_guard s)) refl refl k
            (free_ready e.lock k (is_write x.wait) polled.polls.lets_in) polled.polls.holds (rw left_is at polled.polls.sound) polled.polls.polls

        abbrev ready_locks : Names KeptLock
        ready_locks = insert s.ls x.lock locked_by

        ready_kept : AreKeptLocks ready_locks (remove s.fs f) (insert s.gs i guard_made) (i + 1)
        ready_kept = (turns s) x.lock e there locked_by (remove s.fs f) (insert s.gs i guard_made)
            (Goes f (λ y is. ap of_future (inside (sym is ∙ future))))
            (Comes i guard_made (omega arith) refl (λ y had. absurd (let none = (no_guard s) in cc)))
            (rw (own-gone of_future x.lock s.fs f, own-put of_guard x.lock s.gs i guard_made refl) its_ready.stays) (omega arith)

        ready_as : (a : Action) (r : Lock) → lock_seen locked_by ≡ r → act_in (locks_seen s.ls s.fs s.gs) i a ≡ model.becomes_guard (locks_seen s.ls s.fs s.gs) i f (future_seen x) r
            → PartYields registered old i (act_in old.hall i a) answers.Ready (part_of ready_locks (remove s.fs f) (insert s.gs i guard_made) (i + 1)) before after
        ready_as a r seen_is out =
            let counted = (waiting_now s) x.lock e there locked_by in
            let queue = ap (λ q. length q) its_ready.queue in
            (yields_as s) (λ h. act_in h i a) _ answers.Ready ready_locks (remove s.fs f) (insert s.gs i guard_made) before after out refl
            (seen-insert lock_seen s.ls x.lock locked_by ∙ ap (insert (seen lock_seen s.ls) x.lock) seen_is) (seen-remove future_seen s.fs f) (seen-insert guard_seen s.gs i guard_made)
            (polled.wakers ∙ sym (append-nil before.wakers)) (omega (arith, counted, queue, polled.counted))

        -- both polls make it a guard in the same way
        module _ (a : Action)
            (granted : waits (who (names_in e.lock.permits.queue)) f ≡ false → is_polled x.wait ≡ true → act_in (locks_seen s.ls s.fs s.gs) i a ≡ model.becomes_guard (locks_seen s.ls s.fs s.gs) i f (future_seen x) (lock_seen e))
            (first : waits (who (names_in e.lock.permits.queue)) f ≡ false → is_polled x.wait ≡ false → nat_lt e.lock.permits.free (share_of e.lock (is_write x.wait)) ≡ false
            → act_in (locks_seen s.ls s.fs s.gs) i a ≡ model.becomes_guard (locks_seen s.ls s.fs s.gs) i f (future_seen x) (taken_from (lock_seen e) (share_of e.lock (is_write x.wait)))) where
          readied_by : (fs' : Names KeptFuture) → fs' ≡ remove (insert s.fs f x') f → (gs' : Names GuardEntry) → gs' ≡ insert s.gs i guard_made
              → (AreKeptLocks (insert s.ls x.lock e') fs' gs' (i + 1)) × PartYields registered old i (act_in old.hall i a) answers.Ready (part_of (insert s.ls x.lock e') fs' gs' (i + 1)) before after
          readied_by fs' gone gs' made = rw (entry_is, gone, made, put_gone s.fs f x') (
            ready_kept,
            elim its_ready.seen [
              | inl had ↦ ready_as a (lock_seen e) had.1 (granted its_ready.apart had.0)
              | inr new ↦ ready_as a _ new.2 (first its_ready.apart new.0 new.1)
            ],
          )

        pub readied : (fs' : Names KeptFuture) → fs' ≡ remove (insert s.fs f x') f → (gs' : Names GuardEntry) → gs' ≡ insert s.gs i guard_made
            → (AreKeptLocks (insert s.ls x.lock e') fs' gs' (i + 1)) × PartYields registered old i (act_in old.hall i (Poll f w)) answers.Ready (part_of (insert s.ls x.lock e') fs' gs' (i + 1)) before after
        readied = readied_by (Poll f w) (λ apart had. polls_as w _ (if_false _ _ _ apart ∙ if_true _ _ _ (polled_by x.holds (is_polled x.wait) waits_now had)))
            (λ apart new enough. polls_as w _ (if_false _ _ _ apart ∙ if_false _ _ _ (polled_by x.holds (is_polled x.wait) waits_now new) ∙ if_false _ _ _ enough))

        -- the wait is over at this value
        pub readied_until : (until : Until) → goes_on until e.lock.value ≡ false → (fs' : Names KeptFuture) → fs' ≡ remove (insert s.fs f x') f → (gs' : Names GuardEntry) → gs' ≡ insert s.gs i guard_made
            → (AreKeptLocks (insert s.ls x.lock e') fs' gs' (i + 1)) × PartYields registered old i (act_in old.hall i (PollUntil f w until)) answers.Ready (part_of (insert s.ls x.lock e') fs' gs' (i + 1)) before after
        readied_until until over = readied_by (PollUntil f w until) (λ apart had. until_as w until _ (if_false _ _ _ apart ∙ if_true _ _ _ (polled_by x.holds (is_polled x.wait) waits_now had) ∙ if_false _ _ _ over))
            (λ apart new enough. until_as w until _ (if_false _ _ _ apart ∙ if_false _ _ _ (polled_by x.holds (is_polled x.wait) waits_now new) ∙ if_false _ _ _ enough ∙ if_false _ _ _ over))

      module _ (polled : Polled e f x w Pending e' x' before after) where
        abbrev waited_for : KeptLock
        waited_for = record e { lock = record e.lock { permits = polled.left.permits } }

        left_still : polled.left ≡ record e.lock { permits = polled.left.permits }
        left_still = polled.polls.lock ∙ (λ j. record e.lock { permits = polled.left.permits; writing = writing_pending e.lock.writing (is_write x.wait) j })

        entry_still : e' ≡ waited_for
        entry_still = polled.entry ∙ ap (λ l. record e { lock = l }) left_still

        abbrev waiting_on : KeptFuture
        waiting_on = record x { wait = x'.wait }

        its_pending : one.IsPending e (own of_future x.lock s.fs) (own of_guard x.lock s.gs) ((its_kept s) x.lock e there) f x own_future waits_now w polled.left.permits x'.wait
        its_pending = one.polls_pending e _ _ ((its_kept s) x.lock e there) f x own_future waits_now w polled.left.permits x'.wait polled.polls.holds (rw left_still at polled.polls.sound) polled.polls.writes polled.polls.polls

        pending_kept : AreKeptLocks (insert s.ls x.lock waited_for) (insert s.fs f waiting_on) s.gs (i + 1)
        pending_kept = (turns s) x.lock e there waited_for (insert s.fs f waiting_on) s.gs
            (Comes f waiting_on (omega (arith, (s.kept.firsts.at f x future).0, s.later)) refl (λ y is. ap of_future (inside (sym is ∙ future)))) Stays
            (rw (own-put of_future x.lock s.fs f waiting_on refl) its_pending.stays) (omega arith)

        future_as : (b : Bool) → is_polled x'.wait ≡ b → future_seen waiting_on ≡ record (future_seen x) { polled = b }
        future_as b is j = record { lock = x.lock; plain = x.plain; writes = polled.polls.writes j; polled = polled_by x.holds (is_polled x'.wait) waits_now is j; of_condvar = x.of_condvar }

        same_future : record (future_seen x) { polled = is_polled x.wait } ≡ future_seen x
        same_future = sym (λ j. record (future_seen x) { polled = polled_by x.holds (is_polled x.wait) waits_now refl j })

        pending_as : (a : Action) (r : Lock) (fs' : Names LockFuture) → lock_seen waited_for ≡ r → seen future_seen (insert s.fs f waiting_on) ≡ fs'
            → act_in (locks_seen s.ls s.fs s.gs) i a ≡ quietly (record (locks_seen s.ls s.fs s.gs) { locks = insert (seen lock_seen s.ls) x.lock r; futures = fs' }) answers.Pending
            → PartYields registered old i (act_in old.hall i a) answers.Pending (part_of (insert s.ls x.lock waited_for) (insert s.fs f waiting_on) s.gs (i + 1)) before after
        pending_as a r fs' seen_is futures out =
            let counted = (waiting_now s) x.lock e there waited_for in
            (yields_as s) (λ h. act_in h i a) _ answers.Pending (insert s.ls x.lock waited_for) (insert s.fs f waiting_on) s.gs before after out refl
            (seen-insert lock_seen s.ls x.lock waited_for ∙ ap (insert (seen lock_seen s.ls) x.lock) seen_is) futures refl
            (polled.wakers ∙ sym (append-nil before.wakers)) (omega (arith, counted, polled.counted))

        -- both polls, of a future that waits for the lock alone and of that of a wait, make it wait in the same way
        module _ (a : Action)
            (again : waits (who (names_in e.lock.permits.queue)) f ≡ true → act_in (locks_seen s.ls s.fs s.gs) i a ≡ model.waits_on (locks_seen s.ls s.fs s.gs) f w (future_seen x) (lock_seen e))
            (first : waits (who (names_in e.lock.permits.queue)) f ≡ false → is_polled x.wait ≡ false → nat_lt e.lock.permits.free (share_of e.lock (is_write x.wait)) ≡ true
            → act_in (locks_seen s.ls s.fs s.gs) i a ≡ model.queues (locks_seen s.ls s.fs s.gs) f w (future_seen x) (lock_seen e)) where
          pended_by : (gs' : Names GuardEntry) → gs' ≡ s.gs
              → (AreKeptLocks (insert s.ls x.lock e') (insert s.fs f x') gs' (i + 1)) × PartYields registered old i (act_in old.hall i a) answers.Pending (part_of (insert s.ls x.lock e') (insert s.fs f x') gs' (i + 1)) before after
          pended_by gs' still = rw (entry_still, polled.future, still) (
            pending_kept,
            elim its_pending.seen [
              | inl on ↦ pending_as a _ (seen future_seen s.fs) on.1 (seen-alike future_seen s.fs f x waiting_on future (future_as (is_polled x.wait) on.2 ∙ same_future)) (again on.0)
              | inr new ↦ pending_as a _ (insert (seen future_seen s.fs) f (record (future_seen x) { polled = true })) new.3
                  (seen-insert future_seen s.fs f waiting_on ∙ ap (insert (seen future_seen s.fs) f) (future_as true new.4)) (first new.0 new.1 new.2)
            ],
          )

        pub pended : (gs' : Names GuardEntry) → gs' ≡ s.gs
            → (AreKeptLocks (insert s.ls x.lock e') (insert s.fs f x') gs' (i + 1)) × PartYields registered old i (act_in old.hall i (Poll f w)) answers.Pending (part_of (insert s.ls x.lock e') (insert s.fs f x') gs' (i + 1)) before after
        pended = pended_by (Poll f w) (λ on. polls_as w _ (if_true _ _ _ on))
            (λ apart new few. polls_as w _ (if_false _ _ _ apart ∙ if_false _ _ _ (polled_by x.holds (is_polled x.wait) waits_now new) ∙ if_true _ _ _ few))

        pub pended_until : (until : Until) (gs' : Names GuardEntry) → gs' ≡ s.gs
            → (AreKeptLocks (insert s.ls x.lock e') (insert s.fs f x') gs' (i + 1)) × PartYields registered old i (act_in old.hall i (PollUntil f w until)) answers.Pending (part_of (insert s.ls x.lock e') (insert s.fs f x') gs' (i + 1)) before after
        pended_until until = pended_by (PollUntil f w until) (λ on. until_as w until _ (if_true _ _ _ on))
            (λ apart new few. until_as w until _ (if_false _ _ _ apart ∙ if_false _ _ _ (polled_by x.holds (is_polled x.wait) waits_now new) ∙ if_true _ _ _ few))

    -- ---- the poll of that of a wait
    -- the outcome of a poll that leaves these
    abbrev Until_yields : ℕ → Until → Answer → KeptLock → Names KeptFuture → Names GuardEntry → Waking ℕ → Waking ℕ → Type 0
    Until_yields w until answer e' fs' gs' before after = (AreKeptLocks (insert s.ls x.lock e') fs' gs' (i + 1)) × PartYields registered old i (act_in old.hall i (PollUntil f w until)) answer (part_of (insert s.ls x.lock e') fs' gs' (i + 1)) before after

    -- one that holds the lock is ready
    module _ (holds : x.holds ≡ true) (w : ℕ) (until : Until) where
      holder_as : (o : Outcome Locks) → model.decides (locks_seen s.ls s.fs s.gs) i f until (future_seen x) (lock_seen e) ≡ o → act_in (locks_seen s.ls s.fs s.gs) i (PollUntil f w until) ≡ o
      holder_as o is = until_as w until o (if_false _ _ _ (one.holder_apart e _ _ ((its_kept s) x.lock e there) f x own_future holds) ∙ if_true _ _ _ (ap (λ b. b || is_polled x.wait) holds) ∙ is)

      holder_readied : goes_on until e.lock.value ≡ false → (before : Waking ℕ) → Until_yields w until answers.Ready e (remove s.fs f) (insert s.gs i guard_made) before before
      holder_readied over before =
          let counted = (waiting_now s) x.lock e there e in (
            (turns s) x.lock e there e (remove s.fs f) (insert s.gs i guard_made) (Goes f (λ y is. ap of_future (inside (sym is ∙ future)))) (Comes i guard_made (omega arith) refl (λ y had. absurd (let none = (no_guard s) in cc)))
                (rw (own-gone of_future x.lock s.fs f, own-put of_guard x.lock s.gs i guard_made refl) (one.holder_ready e _ _ ((its_kept s) x.lock e there) f x own_future holds i guard_made (own-none of_guard x.lock s.gs i (no_guard s))
                (((its_kept s) x.lock e there).holders f x own_future holds).writes refl)) (omega arith),
            (yields_as s) (λ h. act_in h i (PollUntil f w until)) _ answers.Ready (insert s.ls x.lock e) (remove s.fs f) (insert s.gs i guard_made) before before (holder_as _ (if_false _ _ _ over)) refl
                (seen-insert lock_seen s.ls x.lock e) (seen-remove future_seen s.fs f) (seen-insert guard_seen s.gs i guard_made) (sym (append-nil before.wakers)) (omega (arith, counted)),
          )

    pub until_ready : (w : ℕ) (until : Until) (e' : KeptLock) (x' : KeptFuture) (before after : Waking ℕ) → goes_on until e'.lock.value ≡ false → HasLock e f x w e' x' before after
        → (fs' : Names KeptFuture) → fs' ≡ remove (insert s.fs f x') f → (gs' : Names GuardEntry) → gs' ≡ insert s.gs i guard_made → Until_yields w until answers.Ready e' fs' gs' before after
    until_ready w until e' x' before after over has fs' gone gs' made = at x.holds refl
      where
        at : (b : Bool) → x.holds ≡ b → Until_yields w until answers.Ready e' fs' gs' before after
        at true holds =
            let same = has.held holds in
            rw (same.0, gone, made, same.2, put_gone s.fs f x') (holder_readied holds w until (rw same.0 at over) before)
        at false waits =
            let polled = (has.polled waits).1 in
            let value : e'.lock.value ≡ e.lock.value = ap (λ (e : KeptLock). e.lock.value) polled.entry ∙ ap (λ (l : NamedLock). l.value) polled.polls.lock in
            readied_until waits w e' x' before after (has.polled waits).0 polled until (ap (goes_on until) (sym value) ∙ over) fs' gone gs' made

    -- it asks for the lock from now on
    pub asks_polled : (w : ℕ) (e' : KeptLock) (x' : KeptFuture) (before after : Waking ℕ) → x.holds ≡ false → Polled e f x w Pending e' x' before after → was_polled (get (seen future_seen (insert s.fs f x')) f) ≡ true
    asks_polled w e' x' before after waits polled = ap was_polled (seen-at future_seen (insert s.fs f x') f x' (get-there s.fs f x'))
        ∙ polled_by x'.holds (is_polled x'.wait) (ap (λ (x : KeptFuture). x.holds) polled.future ∙ waits) (its_pending waits w e' x' before after polled).polled

    -- ---- it gives the lock up: e1 is the lock, and y the future, which holds it
    module _ (w : ℕ) (until : Until) (e1 e' : KeptLock) (y x' : KeptFuture) (fs1 : Names KeptFuture) (good : AreKept e1 fs1 (own of_guard x.lock s.gs)) (at_f : get fs1 f ≡ Some y) (over_it : (z : KeptFuture) → insert fs1 f z ≡ insert (own of_future x.lock s.fs) f z)
        (holds : y.holds ≡ true) (alike : y ≡ record x { wait = y.wait; holds = true }) (many : e1.things ≡ e.things) (writes : is_write x.wait ≡ true)
        (out : act_in (locks_seen s.ls s.fs s.gs) i (PollUntil f w until) ≡ model.lays_down (locks_seen s.ls s.fs s.gs) f (future_seen x) (lock_seen e1))
        (l : NamedLock) (before between after : Waking ℕ) (unlocks : UnlocksLock e1.lock true l) (settles : Settles e1 l e' between after) (new : IsNewWait e1.lock true x'.wait) (is : x' ≡ record x { wait = x'.wait; holds = false })
        (silent : between.wakers ≡ before.wakers) (between_counted : between.registered + waiters e ≡ before.registered + waiters e1) where
      abbrev laid_lock : KeptLock
      laid_lock = one.gave_back e1 fs1 (own of_guard x.lock s.gs) good e1.lock.most

      laid_is : e' ≡ laid_lock
      laid_is = settles.entry ∙ ap (λ l. record e1 { lock = settled l }) unlocks.lock

      laid_future : record y { wait = x'.wait; holds = false } ≡ x'
      laid_future = ap (λ (y : KeptFuture). record y { wait = x'.wait; holds = false }) alike ∙ sym is

      laid_good : AreKept laid_lock (insert (own of_future x.lock s.fs) f x') (own of_guard x.lock s.gs)
      laid_good = subst (λ m. AreKept laid_lock m (own of_guard x.lock s.gs)) (over_it (record y { wait = x'.wait; holds = false }) ∙ ap (insert (own of_future x.lock s.fs) f) laid_future) (one.lays e1 fs1 (own of_guard x.lock s.gs) good f y at_f holds x'.wait l unlocks new)

      laid_seen : future_seen x' ≡ record (future_seen x) { polled = false }
      laid_seen = λ j. record {
        lock = ap (λ (x : KeptFuture). x.lock) is j;
        plain = ap (λ (x : KeptFuture). x.plain) is j;
        writes = (new.writes ∙ sym writes) j;
        polled = polled_by x'.holds (is_polled x'.wait) (ap (λ (x : KeptFuture). x.holds) is) new.unpolled j;
        of_condvar = ap (λ (x : KeptFuture). x.of_condvar) is j;
      }

      laid_polled : was_polled (get (seen future_seen (insert s.fs f x')) f) ≡ false
      laid_polled = ap was_polled (seen-at future_seen (insert s.fs f x') f x' (get-there s.fs f x') ∙ ap (λ y. Some y) laid_seen)

      pub laid : (was_polled (get (seen future_seen (insert s.fs f x')) f) ≡ false) × Until_yields w until answers.Pending e' (insert s.fs f x') s.gs before after
      laid =
          let mine : x'.lock ≡ x.lock = ap (λ (x : KeptFuture). x.lock) is in
          let all : size (lock_seen e1) (is_write x.wait) ≡ e1.lock.most = ap (size (lock_seen e1)) writes in
          let counted = (waiting_now s) x.lock e there laid_lock in
          let queue = ap (λ (l : NamedLock). length l.permits.queue) unlocks.lock in (
            laid_polled,
            rw laid_is (
              (turns s) x.lock e there laid_lock (insert s.fs f x') s.gs (Comes f x' (omega (arith, (s.kept.firsts.at f x future).0, s.later)) mine (λ z at. ap of_future (inside (sym at ∙ future)))) Stays (rw (own-put of_future x.lock s.fs f x' mine) laid_good) (omega (arith, many)),
              (yields_as s) (λ h. act_in h i (PollUntil f w until)) _ answers.Pending (insert s.ls x.lock laid_lock) (insert s.fs f x') s.gs before after out refl
                  (seen-insert lock_seen s.ls x.lock laid_lock ∙ ap (insert (seen lock_seen s.ls) x.lock) (one.given_seen e1 fs1 _ good e1.lock.most ∙ ap (model.poured (lock_seen e1)) (sym all)))
                  (seen-insert future_seen s.fs f x' ∙ ap (insert (seen future_seen s.fs) f) laid_seen) refl
                  (settles.wakers ∙ (λ j. silent j ++ (ap (λ (l : NamedLock). map (λ (k : NamedWaker). k.waker) l.permits.wakes) unlocks.lock ∙ one.given_woken e1 fs1 _ good e1.lock.most ∙ ap (woken_by (names_in e1.lock.permits.queue)) (sym all)) j))
                  (omega (arith, counted, queue, settles.counted, between_counted)),
            ),
          )

    module _ (condvar : is_condvar_future old.hall f ≡ true) (w : ℕ) (until : Until) (e' : KeptLock) (x' : KeptFuture) (before after : Waking ℕ) (e1 : KeptLock) (y : KeptFuture) (between : Waking ℕ) (l : NamedLock) (has : HasLock e f x w e1 y before between) (on : goes_on until e1.lock.value ≡ true)
        (unlocks : UnlocksLock e1.lock true l) (settles : Settles e1 l e' between after) (new : IsNewWait e1.lock true x'.wait) (is : x' ≡ record x { wait = x'.wait; holds = false }) where
      abbrev Laid : Type 0
      Laid = (was_polled (get (seen future_seen (insert s.fs f x')) f) ≡ false) × Until_yields w until answers.Pending e' (insert s.fs f x') s.gs before after

      lays_holding : x.holds ≡ true → Laid
      lays_holding holds =
          let same = has.held holds in
          let out = holder_as holds w until _ (if_true _ _ _ (ap (λ (e : KeptLock). goes_on until e.lock.value) (sym same.0) ∙ on)) in
          let given = rw same.0 at unlocks in
          let settled_is = rw (same.0, same.2) at settles in
          let fresh = rw same.0 at new in
          let alike : x ≡ record x { wait = x.wait; holds = true } = λ j. record x { holds = holds j } in
          laid w until e e' x x' _ ((its_kept s) x.lock e there) own_future (λ z. refl) holds alike refl (condvar_writes condvar) out l before before after given settled_is fresh is refl refl

      module _ (waits_now : x.holds ≡ false) where
        abbrev polled_first : Polled e f x w (Ready (has.polled waits_now).0) e1 y before between
        polled_first = (has.polled waits_now).1

        abbrev held_lock : KeptLock
        held_lock = locked_by waits_now w e1 y before between (has.polled waits_now).0 polled_first

        held_is : e1 ≡ held_lock
        held_is = entry_is waits_now w e1 y before between (has.polled waits_now).0 polled_first

        got_ready : one.IsReady e (own of_future x.lock s.fs) (own of_guard x.lock s.gs) ((its_kept s) x.lock e there) f x own_future waits_now i guard_made polled_first.left.permits
        got_ready = its_ready waits_now w e1 y before between (has.polled waits_now).0 polled_first

        abbrev holder_now : KeptFuture
        holder_now = record x { wait = x'.wait; holds = true }

        -- as a guard that is handed over at once
        handed_good : AreKept held_lock (insert (remove (own of_future x.lock s.fs) f) f holder_now) (own of_guard x.lock s.gs)
        handed_good = subst (λ m. AreKept held_lock (insert (remove (own of_future x.lock s.fs) f) f holder_now) m) (put_gone (own of_guard x.lock s.gs) i guard_made ∙ gone_none (own of_guard x.lock s.gs) i (own-none of_guard x.lock s.gs i (no_guard s)))
            (one.hands held_lock _ _ got_ready.stays f holder_now i guard_made (get-gone (own of_future x.lock s.fs) f) (get-there (own of_guard x.lock s.gs) i guard_made) (condvar_writes condvar) refl (its_of_condvar condvar) refl (subst (λ (e : KeptLock). IsNewWait e.lock true x'.wait) held_is new))

        put_over : (m : Names KeptFuture) (z : KeptFuture) → insert (insert (remove m f) f holder_now) f z ≡ insert m f z
        put_over m z = same_named _ _ (λ q. get_inserted (insert (remove m f) f holder_now) f q z ∙ ap (cond (f == q) (Some z)) (get_inserted (remove m f) f q holder_now ∙ ap (cond (f == q) (Some holder_now)) (get_removed m f q)) ∙ by_test q (f == q) ∙ sym (get_inserted m f q z))
          where
            by_test : (q : ℕ) (b : Bool) → cond b (Some z) (cond b (Some holder_now) (cond b None (get m q))) ≡ cond b (Some z) (get m q)
            by_test q true = refl
            by_test q false = refl

        lays_polled : Laid
        lays_polled =
            let value : held_lock.lock.value ≡ e1.lock.value = ap (λ (e : KeptLock). e.lock.value) (sym held_is) in
            let goes : goes_on until e.lock.value ≡ true = ap (goes_on until) value ∙ on in
            let out : act_in (locks_seen s.ls s.fs s.gs) i (PollUntil f w until) ≡ model.lays_down (locks_seen s.ls s.fs s.gs) f (future_seen x) (lock_seen held_lock) = elim got_ready.seen [
              | inl had ↦ until_as w until _ (if_false _ _ _ got_ready.apart ∙ if_true _ _ _ (polled_by x.holds (is_polled x.wait) waits_now had.0) ∙ if_true _ _ _ goes) ∙ ap (model.lays_down (locks_seen s.ls s.fs s.gs) f (future_seen x)) (sym had.1)
              | inr first ↦ until_as w until _ (if_false _ _ _ got_ready.apart ∙ if_false _ _ _ (polled_by x.holds (is_polled x.wait) waits_now first.0) ∙ if_false _ _ _ first.1 ∙ if_true _ _ _ goes) ∙ ap (model.lays_down (locks_seen s.ls s.fs s.gs) f (future_seen x)) (sym first.2)
            ] in
            let given = rw held_is at unlocks in
            let settled_is = rw held_is at settles in
            let fresh = rw held_is at new in
            let left = ap (λ (e : KeptLock). waiters e) (sym polled_first.entry ∙ held_is) in
            let counted : between.registered + waiters e ≡ before.registered + waiters held_lock = omega (arith, polled_first.counted, left) in
            laid w until held_lock e' holder_now x' _ handed_good (get-there (remove (own of_future x.lock s.fs) f) f holder_now) (put_over (own of_future x.lock s.fs)) refl refl refl (condvar_writes condvar) out l before between after given settled_is fresh is polled_first.wakers counted

      pub until_lays : (gs' : Names GuardEntry) → gs' ≡ s.gs → (was_polled (get (seen future_seen (insert s.fs f x')) f) ≡ false) × Until_yields w until answers.Pending e' (insert s.fs f x') gs' before after
      until_lays gs' still = rw still (elim x.holds as (λ b. x.holds ≡ b → Laid) [ true ↦ λ holds. lays_holding holds | false ↦ λ waits. lays_polled waits ] refl)
