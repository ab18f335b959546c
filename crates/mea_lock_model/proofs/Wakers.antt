-- the laws of the family
use Rattle.std.proofs.Common.{◌≡◌, ℕ, ◌<◌, ◌≤◌, ◌==◌, ◌⊎◌, inl, inr, ◌++◌, Bool, true, false, cond, List, [], ◌∷◌, nat_lt, Option, Some, None, is_some, if◌then◌else◌, refl, ap, sym, subst, ◌∙◌}
use Rattle.std.specs.Option.{IsSome}
use Rattle.std.specs.List.{Contains}
use Rattle.std.specs.FinMap.{get, insert, empty}
use Rattle.std.proofs.lemmas.Bool.{eqb-true, eq-eqb, ne_eqb, and_from, and_left, and_right, and_parts}
use Rattle.std.proofs.lemmas.Option.{cond_some}
use Rattle.mea_family.specs.declared.answer.Answer.TheVariants as answers
use Rattle.mea_family.specs.Family.{Outcome, IsRun, Starts, Goes, RunOf, KeepsWakers, NamesFutures, LosesNoWake, is_pending}
use Rattle.mea_base.proofs.Maps.{nothing_at, get-there, value_in, is_there}
use Rattle.mea_family.proofs.Causes.{known}
use Rattle.mea_family.proofs.Wakes.{loses_no_wake}
use Rattle.mea_by_name.specs.NamedQueue as named_queue
use Rattle.mea_by_name.specs.NamedQueue.{Waiting, waits, with_waker, waker_for}
use Rattle.mea_by_name.specs.LackingQueue.{rewoken}
use Rattle.mea_family.specs.Play.{found}
use Rattle.mea_by_name.proofs.Cases.{by_found, by_if, found_is, if_true}
use Rattle.mea_by_name.proofs.NamedQueues.{appended-there, with_waker-there, waits-some}
use Rattle.mea_by_name.proofs.LackingQueues.{who-append, who-rewoken}
use Rattle.mea_by_name.proofs.OneObject.{placed_is, placed_put}
use Rattle.mea_by_name.proofs.Own.{seen-at, seen-back, seen-empty}
use Rattle.mea_lock_model.specs.Locks as locks
use Rattle.mea_lock_model.specs.Locks.{Lock, LockFuture, Locks, Until, goes_on, is_waiting_for, is_lock_future, is_condvar_future, was_polled, waiting_at, taken_from, size}
use Rattle.mea_lock_model.specs.Condvars as condvars
use Rattle.mea_lock_model.specs.Condvars.{CondWait, is_wait, until_of, queue_of}
use Rattle.mea_lock_model.specs.Actions.{Action, Poll, End, PollUntil, EndWait, is_of_wait, act_in, polled_in, ends_in, cause_in}
use Rattle.mea_lock_model.specs.CondActions as on
use Rattle.mea_lock_model.specs.CondActions.{CondAction, cause_on, act_on, on_both, told_by, poll_wait, polled_on, ends_on}
use Rattle.mea_lock_model.specs.LockHall.{LockHall, Kind, Mutexes, RwLocks, part}
use Rattle.mea_lock_model.specs.Meaning.{Meaning, OnLocks, OnCondvars, meaning_of, cause_by, step_by}
use Rattle.mea_lock_model.specs.LockFamily.{Sort, Of, Waits, locks_family, polled_by, ends_by, lives_as, placed_as, placed_for}
use Rattle.mea_lock_model.proofs.Acting.{goes, owner}
use Rattle.mea_lock_model.proofs.CondActing.{Key, key_of, keys}
use Rattle.mea_lock_model.proofs.Changes.{Low, LocksGo, listed_waker}
use Rattle.mea_lock_model.proofs.Steps.{Lows, HallGoes, IsQuiet, QuietMutex, QuietRw, QuietWait, both_known, of_lock, steps, lows_after}

-- ---- the locks of one kind
module _ (h : Locks) (i : ℕ) where
  -- a poll that is pending places its waker
  rewoken_placed : (f w : ℕ) (x : LockFuture) (r : Lock) → get h.futures f ≡ Some x → waits (waiting_at r) f ≡ true → locks.placed (locks.waits_on h f w x r).hall f ≡ Some w
  rewoken_placed f w x r future waits = placed_put waiting_at owner h.locks h.futures f w x (record r { queue = rewoken r.queue f w }) future (rw who-rewoken (with_waker-there (waiting_at r) f w waits))

  queued_placed : (f w : ℕ) (x : LockFuture) (r : Lock) → waits (waiting_at r) f ≡ false → locks.placed (locks.queues h f w x r).hall f ≡ Some w
  queued_placed f w x r apart = placed_put waiting_at owner h.locks (insert h.futures f (record x { polled = true })) f w (record x { polled = true })
      (record r { free = 0; queue = r.queue ++ ((f, w), _) ∷ [] }) (get-there h.futures f (record x { polled = true })) (rw who-append (appended-there (waiting_at r) f w apart))

  places_poll : (f w : ℕ) → (act_in h i (Poll f w)).reply ≡ answers.Pending → locks.placed (act_in h i (Poll f w)).hall f ≡ Some w
  places_poll f w = by_found P (get h.futures f) h _ (λ is. absurd (cc)) (λ x future. by_found P (get h.locks x.lock) h _ (λ is. absurd (cc)) (λ r there.
      by_if P (waits (waiting_at r) f) _ _ (λ waits pending. rewoken_placed f w x r future waits)
      (λ apart. by_if P x.polled _ _ (λ granted is. absurd (cc))
      (λ new. by_if P (nat_lt r.free (size r x.writes)) _ _ (λ few pending. queued_placed f w x r apart) (λ enough is. absurd (cc))))))
    where
      P : Outcome Locks → Type 0
      P o = o.reply ≡ answers.Pending → locks.placed o.hall f ≡ Some w

  -- and so does that of a wait which asks for the lock
  places_until : (f w : ℕ) (until : Until) → is_pending (act_in h i (PollUntil f w until)).reply ≡ true → was_polled (get (act_in h i (PollUntil f w until)).hall.futures f) ≡ true
      → locks.placed (act_in h i (PollUntil f w until)).hall f ≡ Some w
  places_until f w until = by_found P (get h.futures f) h _ (λ is. absurd (cc)) (λ x future. by_found P (get h.locks x.lock) h _ (λ is. absurd (cc)) (λ r there.
      by_if P (waits (waiting_at r) f) _ _ (λ waits pending asks. rewoken_placed f w x r future waits)
      (λ apart. by_if P x.polled _ _ (λ granted. decided x r)
      (λ new. by_if P (nat_lt r.free (size r x.writes)) _ _ (λ few pending asks. queued_placed f w x r apart) (λ enough. decided x (taken_from r (size r x.writes)))))))
    where
      P : Outcome Locks → Type 0
      P o = is_pending o.reply ≡ true → was_polled (get o.hall.futures f) ≡ true → locks.placed o.hall f ≡ Some w

      decided : (x : LockFuture) (r : Lock) → P (locks.decides h i f until x r)
      decided x r = by_if P (goes_on until r.value) _ _ (λ on pending asks. absurd (let no : was_polled (get (insert h.futures f (record x { polled = false })) f) ≡ false = ap was_polled (get-there h.futures f (record x { polled = false })) in cc))
          (λ over is. absurd (cc))

  -- while a waker is placed, a poll is pending
  waits_poll : (f w v : ℕ) → locks.placed h f ≡ Some w → (act_in h i (Poll f v)).reply ≡ answers.Pending
  waits_poll f w v is =
      let at = placed_is waiting_at owner h.locks h.futures f w is in
      ap (λ (o : Outcome Locks). o.reply) (found_is (get h.futures f) h (λ x. found (get h.locks x.lock) h (locks.poll h i f v x)) at.x at.future
      ∙ found_is (get h.locks at.x.lock) h (locks.poll h i f v at.x) at.r at.object
      ∙ if_true (waits (waiting_at at.r) f) _ _ (waits-some (waiting_at at.r) f w at.waker))

  waits_until : (f w v : ℕ) (until : Until) → locks.placed h f ≡ Some w → (act_in h i (PollUntil f v until)).reply ≡ answers.Pending
  waits_until f w v until is =
      let at = placed_is waiting_at owner h.locks h.futures f w is in
      ap (λ (o : Outcome Locks). o.reply) (found_is (get h.futures f) h (λ x. found (get h.locks x.lock) h (locks.poll_until h i f v until x)) at.x at.future
      ∙ found_is (get h.locks at.x.lock) h (locks.poll_until h i f v until at.x) at.r at.object
      ∙ if_true (waits (waiting_at at.r) f) _ _ (waits-some (waiting_at at.r) f w at.waker))

-- an action that polls f is a poll of f
same_poll : (a : Action) (f w : ℕ) (P : Action → Type 0) → ((v : ℕ) → v ≡ w → P (Poll f v)) → ((v : ℕ) (until : Until) → v ≡ w → P (PollUntil f v until)) → polled_in a f ≡ Some w → P a
same_poll (Poll g v) f w P here there is = let test = cond_some (g == f) v w is in subst (λ j. P (Poll j v)) (sym (eqb-true g f test.0)) (here v test.1)
same_poll (PollUntil g v until) f w P here there is = let test = cond_some (g == f) v w is in subst (λ j. P (PollUntil j v until)) (sym (eqb-true g f test.0)) (there v until test.1)
same_poll _ f w P here there is = absurd (cc)

-- ---- the waits
module _ (h : LockHall) (i : ℕ) where
  places_wait : (f w : ℕ) → (act_on h i (on.Poll f w)).reply ≡ answers.Pending → placed_as (act_on h i (on.Poll f w)).hall Waits f ≡ Some w
  places_wait f w = by_found P (get h.condvars.waits f) h _ (λ is. absurd (cc)) (λ x wait. by_found P (get h.condvars.condvars x.condvar) h _ (λ is. absurd (cc)) (λ q there.
      by_if P (waits q f) _ _ (λ waiting pending. listed x (with_waker q f w) (record x { polled = true; listed = true }) refl refl (with_waker-there q f w waiting))
      (λ apart. asked x q apart (act_in h.mutexes i (PollUntil f w (until_of x))) (places_until h.mutexes i f w (until_of x)))))
    where
      P : Outcome LockHall → Type 0
      P o = o.reply ≡ answers.Pending → placed_as o.hall Waits f ≡ Some w

      listed : (x : CondWait) (q : Waiting) (y : CondWait) → y.listed ≡ true → y.condvar ≡ x.condvar → waker_for q f ≡ Some w
          → placed_for (record h { condvars = record { condvars = insert h.condvars.condvars x.condvar q; waits = insert h.condvars.waits f y } }) f (get (insert h.condvars.waits f y) f) ≡ Some w
      listed x q y is mine has = rw (get-there h.condvars.waits f y, is, mine, get-there h.condvars.condvars x.condvar q) has

      asked : (x : CondWait) (q : Waiting) → waits q f ≡ false → (o : Outcome Locks) → (is_pending o.reply ≡ true → was_polled (get o.hall.futures f) ≡ true → locks.placed o.hall f ≡ Some w)
          → P (on_both h o (told_by o h.condvars f w x q))
      asked x q apart o places = by_if (λ p. P (on_both h o p)) (is_pending o.reply) _ _
          (λ is. by_if (λ p. P (on_both h o p)) (was_polled (get o.hall.futures f)) _ _
          (λ asks pending. rw (get-there h.condvars.waits f (record x { polled = true; listed = false })) (places is asks))
          (λ lists pending. rw (get-there h.condvars.waits f (record x { polled = true; listed = true; alone = false }), get-there h.condvars.condvars x.condvar (q ++ (f, w) ∷ [])) (appended-there q f w apart)))
          (λ not_pending pending. absurd (let yes : is_pending o.reply ≡ true = ap is_pending pending in cc))

  waits_wait : (home : (f : ℕ) (x : CondWait) → get h.condvars.waits f ≡ Some x → IsSome (get h.condvars.condvars x.condvar)) (f w v : ℕ) → placed_as h Waits f ≡ Some w → (act_on h i (on.Poll f v)).reply ≡ answers.Pending
  waits_wait home f w v is = at (get h.condvars.waits f) refl is
    where
      at_queue : (x : CondWait) (q : Waiting) → get h.condvars.condvars x.condvar ≡ Some q → (b : Bool) → x.listed ≡ b
          → (if b then waker_for (named_queue.queue_of queue_of (get h.condvars.condvars x.condvar)) f else locks.placed h.mutexes f) ≡ Some w → (poll_wait h i f v x q).reply ≡ answers.Pending
      at_queue x q there true listed has = ap (λ (o : Outcome LockHall). o.reply)
          (if_true (waits q f) _ _ (waits-some q f w (sym (ap (λ o. waker_for (named_queue.queue_of queue_of o) f) there) ∙ has)))
      at_queue x q there false asks has = by_if (λ (o : Outcome LockHall). o.reply ≡ answers.Pending) (waits q f) _ _ (λ waiting. refl) (λ apart. waits_until h.mutexes i f w v (until_of x) has)

      at : (o : Option CondWait) → get h.condvars.waits f ≡ o → placed_for h f o ≡ Some w → (act_on h i (on.Poll f v)).reply ≡ answers.Pending
      at None none has = absurd (cc)
      at (Some x) wait has = let there = value_in (get h.condvars.condvars x.condvar) (home f x wait) in
          ap (λ (o : Outcome LockHall). o.reply) (found_is (get h.condvars.waits f) h (λ x. found (get h.condvars.condvars x.condvar) h (poll_wait h i f v x)) x wait
          ∙ found_is (get h.condvars.condvars x.condvar) h (poll_wait h i f v x) there.0 there.1) ∙ at_queue x there.0 there.1 x.listed refl has

same_wait_poll : (a : CondAction) (f w : ℕ) (P : CondAction → Type 0) → ((v : ℕ) → v ≡ w → P (on.Poll f v)) → polled_on a f ≡ Some w → P a
same_wait_poll (on.Poll g v) f w P here is = let test = cond_some (g == f) v w is in subst (λ j. P (on.Poll j v)) (sym (eqb-true g f test.0)) (here v test.1)
same_wait_poll _ f w P here is = absurd (cc)

-- ---- whom an event polls or ends is of its sort
data PolledAs (f w : ℕ) : Meaning → Sort → Type 0 where
  AtLock : (k : Kind) (a : Action) → polled_in a f ≡ Some w → PolledAs f w (OnLocks k a) (Of k)
  AtWait : (a : CondAction) → polled_on a f ≡ Some w → PolledAs f w (OnCondvars a) Waits

polled_as : (d : Meaning) (s : Sort) (f w : ℕ) → polled_by d s f ≡ Some w → PolledAs f w d s
polled_as (OnLocks Mutexes a) (Of Mutexes) f w is = AtLock Mutexes a is
polled_as (OnLocks RwLocks a) (Of RwLocks) f w is = AtLock RwLocks a is
polled_as (OnCondvars a) Waits f w is = AtWait a is
polled_as _ _ f w is = absurd (cc)

data EndedAs (f : ℕ) : Meaning → Sort → Type 0 where
  EndsAtLock : (k : Kind) (a : Action) → ends_in a f ≡ true → EndedAs f (OnLocks k a) (Of k)
  EndsAtWait : (a : CondAction) → ends_on a f ≡ true → EndedAs f (OnCondvars a) Waits

ended_as : (d : Meaning) (s : Sort) (f : ℕ) → ends_by d s f ≡ true → EndedAs f d s
ended_as (OnLocks Mutexes a) (Of Mutexes) f is = EndsAtLock Mutexes a is
ended_as (OnLocks RwLocks a) (Of RwLocks) f is = EndsAtLock RwLocks a is
ended_as (OnCondvars a) Waits f is = EndsAtWait a is
ended_as _ _ f is = absurd (cc)

-- ---- whom an event neither polls nor ends, it leaves alone in each part
apart_by_sort : (m : Locks) (f g : ℕ) → is_lock_future m f ≡ true → is_condvar_future m g ≡ true → f ≡ g → ⊥
apart_by_sort m f g lock condvar same = at (get m.futures f) lock (ap (λ k. is_condvar_future m k) same ∙ condvar)
  where
    at : (o : Option LockFuture) → is_waiting_for false o ≡ true → is_waiting_for true o ≡ true → ⊥
    at None lock condvar = absurd (cc)
    at (Some x) lock condvar = absurd (cc)

quiet_poll : (g w f : ℕ) → (g ≡ f → ⊥) → cond (g == f) (Some w) None ≡ None
quiet_poll g w f apart = ap (λ b. cond b (Some w) None) (ne_eqb g f apart)

module _ (h : LockHall) (f : ℕ) where
  -- a future of a mutex
  quiet_at_condvars : is_lock_future h.mutexes f ≡ true → (a : CondAction) → cause_on h a ≡ None → IsQuiet (polled_on a f) (ends_on a f)
  quiet_at_condvars lives (on.Poll g w) allowed = (quiet_poll g w f (λ same. apart_by_sort h.mutexes f g lives (both_known (is_wait h.condvars g) (is_condvar_future h.mutexes g) allowed).1 (sym same)), refl)
  quiet_at_condvars lives (on.End g) allowed = (refl, ne_eqb g f (λ same. apart_by_sort h.mutexes f g lives (both_known (is_wait h.condvars g) (is_condvar_future h.mutexes g) allowed).1 (sym same)))
  quiet_at_condvars lives _ allowed = (refl, refl)

  -- a wait
  quiet_at_mutexes : is_condvar_future h.mutexes f ≡ true → (a : Action) → is_of_wait a ≡ false → cause_in h.mutexes a ≡ None → IsQuiet (polled_in a f) (ends_in a f)
  quiet_at_mutexes lives (Poll g w) line allowed = (quiet_poll g w f (λ same. apart_by_sort h.mutexes g f (known (is_lock_future h.mutexes g) allowed) lives same), refl)
  quiet_at_mutexes lives (End g) line allowed = (refl, ne_eqb g f (λ same. at (get h.mutexes.futures f) lives (subst (λ k. (if is_some (get h.mutexes.futures k) then is_lock_future h.mutexes k else is_some (get h.mutexes.guards k)) ≡ true) same (known _ allowed))))
    where
      at : (o : Option LockFuture) → is_waiting_for true o ≡ true → (if is_some o then is_waiting_for false o else is_some (get h.mutexes.guards f)) ≡ true → ⊥
      at None condvar lock = absurd (cc)
      at (Some x) condvar lock = absurd (cc)
  quiet_at_mutexes lives (PollUntil g w until) line allowed = absurd (cc)
  quiet_at_mutexes lives (EndWait g) line allowed = absurd (cc)
  quiet_at_mutexes lives _ line allowed = (refl, refl)

  quiet_mutex : is_lock_future h.mutexes f ≡ true → (d : Meaning) → cause_by h d ≡ None → polled_by d (Of Mutexes) f ≡ None → ends_by d (Of Mutexes) f ≡ false → QuietMutex d f
  quiet_mutex lives (OnLocks Mutexes a) allowed quiet lasts = (quiet, lasts)
  quiet_mutex lives (OnLocks RwLocks a) allowed quiet lasts = tt
  quiet_mutex lives (OnCondvars a) allowed quiet lasts = quiet_at_condvars lives a allowed

  quiet_rw : (d : Meaning) → polled_by d (Of RwLocks) f ≡ None → ends_by d (Of RwLocks) f ≡ false → QuietRw d f
  quiet_rw (OnLocks Mutexes a) quiet lasts = tt
  quiet_rw (OnLocks RwLocks a) quiet lasts = (quiet, lasts)
  quiet_rw (OnCondvars a) quiet lasts = tt

  quiet_wait : (d : Meaning) → polled_by d Waits f ≡ None → ends_by d Waits f ≡ false → QuietWait d f
  quiet_wait (OnLocks k a) quiet lasts = tt
  quiet_wait (OnCondvars a) quiet lasts = (quiet, lasts)

  quiet_future : is_condvar_future h.mutexes f ≡ true → (d : Meaning) → cause_by h d ≡ None → polled_by d Waits f ≡ None → ends_by d Waits f ≡ false → QuietMutex d f
  quiet_future lives (OnLocks Mutexes a) allowed quiet lasts = let is = of_lock (is_of_wait a) (cause_in h.mutexes a) allowed in quiet_at_mutexes lives a is.0 is.1
  quiet_future lives (OnLocks RwLocks a) allowed quiet lasts = tt
  quiet_future lives (OnCondvars a) allowed quiet lasts = (quiet, lasts)

-- ---- the locks of one kind keep who is neither polled nor ended
module _ (quiet : ℕ → Type 0) (h h' : Locks) (i : ℕ) (ws : List ℕ) (go : LocksGo quiet h h' i ws) (f : ℕ) where
  same_sort : (condvar : Bool) → quiet f → is_waiting_for condvar (get h.futures f) ≡ true → is_waiting_for condvar (get h'.futures f) ≡ true
  same_sort condvar silent lives = at (get h.futures f) refl lives
    where
      at : (o : Option LockFuture) → get h.futures f ≡ o → is_waiting_for condvar o ≡ true → is_waiting_for condvar (get h'.futures f) ≡ true
      at None is lives = absurd (cc)
      at (Some x) is lives = ap (is_waiting_for condvar) (go.same f x silent is) ∙ lives

  was_of_sort : (condvar : Bool) → is_waiting_for condvar (get h'.futures f) ≡ true → (is_waiting_for condvar (get h.futures f) ≡ true) ⊎ (f ≡ i)
  was_of_sort condvar lives = at (get h'.futures f) refl lives
    where
      as_before : (condvar : Bool) (x y : LockFuture) → y.of_condvar ≡ x.of_condvar → is_waiting_for condvar (Some y) ≡ true → is_waiting_for condvar (Some x) ≡ true
      as_before true x y same is = sym same ∙ is
      as_before false x y same is = rw (← same) is

      at : (o : Option LockFuture) → get h'.futures f ≡ o → is_waiting_for condvar o ≡ true → (is_waiting_for condvar (get h.futures f) ≡ true) ⊎ (f ≡ i)
      at None is lives = absurd (cc)
      at (Some y) is lives = elim (go.made f y is) [
        | inl had ↦ inl (ap (is_waiting_for condvar) had.1 ∙ as_before condvar had.0 y had.2 lives)
        | inr new ↦ inr new
      ]

-- ---- the laws
module _ (h : LockHall) (n i : ℕ) (lows : Lows h n) (later : n ≤ i) (d : Meaning) (allowed : cause_by h d ≡ None) (f : ℕ) where
  abbrev after : LockHall
  after = (step_by h i d).hall

  abbrev ws : List ℕ
  ws = (step_by h i d).wakes

  all : HallGoes d h after i ws
  all = steps h n i lows later d allowed

  -- a wait has its record still, and its condition variable is the same
  wait_stays : QuietWait d f → (x : CondWait) → get h.condvars.waits f ≡ Some x → (y : CondWait) × (get after.condvars.waits f ≡ Some y) × (key_of y ≡ key_of x)
  wait_stays silent x is = seen-back key_of after.condvars.waits f (key_of x) (all.condvars.same f (key_of x) silent (seen-at key_of h.condvars.waits f x is))

  stays : (s : Sort) → lives_as h s f ≡ true → polled_by d s f ≡ None → ends_by d s f ≡ false → lives_as after s f ≡ true
  stays (Of Mutexes) lives quiet lasts = same_sort _ h.mutexes after.mutexes i ws all.mutexes f false (quiet_mutex h f lives d allowed quiet lasts) lives
  stays (Of RwLocks) lives quiet lasts = same_sort _ h.rw_locks after.rw_locks i ws all.rw_locks f false (quiet_rw h f d quiet lasts) lives
  stays Waits lives quiet lasts =
      let both = and_parts (is_wait h.condvars f) (is_condvar_future h.mutexes f) lives in
      let wait = value_in (get h.condvars.waits f) both.0 in
      let still = wait_stays (quiet_wait h f d quiet lasts) wait.0 wait.1 in
      and_from _ _ (is_there (get after.condvars.waits f) still.0 still.1) (same_sort _ h.mutexes after.mutexes i ws all.mutexes f true (quiet_future h f both.1 d allowed quiet lasts) both.1)

  kept : (w : ℕ) (s : Sort) → lives_as h s f ≡ true → placed_as h s f ≡ Some w → polled_by d s f ≡ None → ends_by d s f ≡ false → (placed_as after s f ≡ Some w) ⊎ Contains ws w
  kept w (Of Mutexes) lives is quiet lasts = all.mutexes.kept f w (quiet_mutex h f lives d allowed quiet lasts) is
  kept w (Of RwLocks) lives is quiet lasts = all.rw_locks.kept f w (quiet_rw h f d quiet lasts) is
  kept w Waits lives is quiet lasts =
      let both = and_parts (is_wait h.condvars f) (is_condvar_future h.mutexes f) lives in
      let wait = value_in (get h.condvars.waits f) both.0 in
      let silent = quiet_wait h f d quiet lasts in
      let still = wait_stays silent wait.0 wait.1 in
      at wait.0 wait.1 still.0 still.1 still.2 silent (quiet_future h f both.1 d allowed quiet lasts) wait.0.listed refl (sym (ap (placed_for h f) wait.1) ∙ is)
    where
      at : (x : CondWait) → get h.condvars.waits f ≡ Some x → (y : CondWait) → get after.condvars.waits f ≡ Some y → key_of y ≡ key_of x → QuietWait d f → QuietMutex d f → (b : Bool) → x.listed ≡ b
          → (if b then waker_for (named_queue.queue_of queue_of (get h.condvars.condvars x.condvar)) f else locks.placed h.mutexes f) ≡ Some w → (placed_for after f (get after.condvars.waits f) ≡ Some w) ⊎ Contains ws w
      at x wait y now same silent at_mutex true listed has =
          let owner_is : y.condvar ≡ x.condvar = ap (λ (k : Key). k.condvar) same in
          let listed_is : y.listed ≡ true = ap (λ (k : Key). k.listed) same ∙ listed in
          let before : listed_waker h.condvars f ≡ Some w = ap (named_queue.placed_of queue_of (λ (k : Key). k.condvar) h.condvars.condvars f) (seen-at key_of h.condvars.waits f x wait) ∙ has in
          elim (all.condvars.kept f w silent before) [
            | inl kept ↦ inl (rw (now, listed_is) (sym (ap (named_queue.placed_of queue_of (λ (k : Key). k.condvar) after.condvars.condvars f) (seen-at key_of after.condvars.waits f y now)) ∙ kept))
            | inr woken ↦ inr woken
          ]
      at x wait y now same silent at_mutex false asks has =
          let listed_is : y.listed ≡ false = ap (λ (k : Key). k.listed) same ∙ asks in
          elim (all.mutexes.kept f w at_mutex has) [
            | inl kept ↦ inl (rw (now, listed_is) kept)
            | inr woken ↦ inr woken
          ]

  made : (s : Sort) → lives_as after s f ≡ true → (lives_as h s f ≡ true) ⊎ (f ≡ i)
  made (Of Mutexes) lives = was_of_sort _ h.mutexes after.mutexes i ws all.mutexes f false lives
  made (Of RwLocks) lives = was_of_sort _ h.rw_locks after.rw_locks i ws all.rw_locks f false lives
  made Waits lives =
      let both = and_parts (is_wait after.condvars f) (is_condvar_future after.mutexes f) lives in
      let wait = value_in (get after.condvars.waits f) both.0 in
      elim (all.condvars.made f (key_of wait.0) (seen-at key_of after.condvars.waits f wait.0 wait.1)) [
        | inr new ↦ inr new
        | inl had ↦ elim (was_of_sort _ h.mutexes after.mutexes i ws all.mutexes f true both.1) [
          | inr new ↦ inr new
          | inl future ↦ inl (let key = value_in (get (keys h.condvars.waits) f) had in let was = seen-back key_of h.condvars.waits f key.0 key.1 in and_from _ _ (is_there (get h.condvars.waits f) was.0 was.1) future)
        ]
      ]

module _ (h : LockHall) (i : ℕ) (f : ℕ) where
  places : (w : ℕ) (d : Meaning) (s : Sort) → PolledAs f w d s → cause_by h d ≡ None → (step_by h i d).reply ≡ answers.Pending → placed_as (step_by h i d).hall s f ≡ Some w
  places w _ _ (AtLock k a is) allowed = at k
    where
      here : (k : Kind) (v : ℕ) → v ≡ w → (act_in (part h k) i (Poll f v)).reply ≡ answers.Pending → locks.placed (act_in (part h k) i (Poll f v)).hall f ≡ Some w
      here k v same pending = places_poll (part h k) i f v pending ∙ ap (λ u. Some u) same

      at : (k : Kind) → (step_by h i (OnLocks k a)).reply ≡ answers.Pending → placed_as (step_by h i (OnLocks k a)).hall (Of k) f ≡ Some w
      at Mutexes = same_poll a f w (λ a. is_of_wait a ≡ false → (act_in h.mutexes i a).reply ≡ answers.Pending → locks.placed (act_in h.mutexes i a).hall f ≡ Some w)
          (λ v same line. here Mutexes v same) (λ v until same line. absurd (cc)) is (of_lock (is_of_wait a) _ allowed).0
      at RwLocks = same_poll a f w (λ a. is_of_wait a ≡ false → (act_in h.rw_locks i a).reply ≡ answers.Pending → locks.placed (act_in h.rw_locks i a).hall f ≡ Some w)
          (λ v same line. here RwLocks v same) (λ v until same line. absurd (cc)) is (of_lock (is_of_wait a) _ allowed).0
  places w _ _ (AtWait a is) allowed = same_wait_poll a f w (λ a. (act_on h i a).reply ≡ answers.Pending → placed_as (act_on h i a).hall Waits f ≡ Some w)
      (λ v same pending. places_wait h i f v pending ∙ ap (λ u. Some u) same) is

  waits_for : (home : (g : ℕ) (x : CondWait) → get h.condvars.waits g ≡ Some x → IsSome (get h.condvars.condvars x.condvar)) (w v : ℕ) (d : Meaning) (s : Sort) → placed_as h s f ≡ Some w → PolledAs f v d s → (step_by h i d).reply ≡ answers.Pending
  waits_for home w v _ _ has (AtLock k a is) = at k has
    where
      at : (k : Kind) → placed_as h (Of k) f ≡ Some w → (step_by h i (OnLocks k a)).reply ≡ answers.Pending
      at Mutexes has = same_poll a f v (λ a. (act_in h.mutexes i a).reply ≡ answers.Pending) (λ u same. waits_poll h.mutexes i f w u has) (λ u until same. waits_until h.mutexes i f w u until has) is
      at RwLocks has = same_poll a f v (λ a. (act_in h.rw_locks i a).reply ≡ answers.Pending) (λ u same. waits_poll h.rw_locks i f w u has) (λ u until same. waits_until h.rw_locks i f w u until has) is
  waits_for home w v _ _ has (AtWait a is) = same_wait_poll a f v (λ a. (act_on h i a).reply ≡ answers.Pending) (λ u same. waits_wait h i home f w u has) is

  -- who is ended does not live
  gone_future : (condvar : Bool) (m : Locks) → get m.futures f ≡ None → is_waiting_for condvar (get m.futures f) ≡ false
  gone_future condvar m none = ap (is_waiting_for condvar) none

  ended_wait : (home : (g : ℕ) (x : CondWait) → get h.condvars.waits g ≡ Some x → IsSome (get h.condvars.condvars x.condvar)) → lives_as (act_on h i (on.End f)).hall Waits f ≡ false
  ended_wait home = at (get h.condvars.waits f) refl
    where
      at : (o : Option CondWait) → get h.condvars.waits f ≡ o → lives_as (act_on h i (on.End f)).hall Waits f ≡ false
      at None none = ap (λ (o : Outcome LockHall). lives_as o.hall Waits f) (ap (λ o. found o h (λ x. found (get h.condvars.condvars x.condvar) h (λ q. ends x q))) none)
          ∙ and_left (is_wait h.condvars f) (is_condvar_future h.mutexes f) (ap is_some none)
        where
          ends : CondWait → Waiting → Outcome LockHall
          ends x q = on_both h (act_in h.mutexes i (EndWait f)) (condvars.end_wait h.condvars f x q)
      at (Some x) wait = let there = value_in (get h.condvars.condvars x.condvar) (home f x wait) in
          ap (λ (o : Outcome LockHall). lives_as o.hall Waits f) (found_is (get h.condvars.waits f) h (λ x. found (get h.condvars.condvars x.condvar) h (λ q. on_both h (act_in h.mutexes i (EndWait f)) (condvars.end_wait h.condvars f x q))) x wait
          ∙ found_is (get h.condvars.condvars x.condvar) h (λ q. on_both h (act_in h.mutexes i (EndWait f)) (condvars.end_wait h.condvars f x q)) there.0 there.1)
          ∙ and_right (is_wait (condvars.end_wait h.condvars f x there.0).hall f) (is_condvar_future (act_in h.mutexes i (EndWait f)).hall f)
          (gone_future true (act_in h.mutexes i (EndWait f)).hall ((goes h.mutexes i (EndWait f)).goes.over f (eq-eqb f f refl)))

  ended_gone : (home : (g : ℕ) (x : CondWait) → get h.condvars.waits g ≡ Some x → IsSome (get h.condvars.condvars x.condvar)) (d : Meaning) (s : Sort) → EndedAs f d s → lives_as (step_by h i d).hall s f ≡ false
  ended_gone home _ _ (EndsAtLock Mutexes a is) = gone_future false (act_in h.mutexes i a).hall ((goes h.mutexes i a).goes.over f is)
  ended_gone home _ _ (EndsAtLock RwLocks a is) = gone_future false (act_in h.rw_locks i a).hall ((goes h.rw_locks i a).goes.over f is)
  ended_gone home _ _ (EndsAtWait a is) = same_end a is
    where
      same_end : (a : CondAction) → ends_on a f ≡ true → lives_as (act_on h i a).hall Waits f ≡ false
      same_end (on.End k) is = subst (λ j. lives_as (act_on h i (on.End j)).hall Waits f ≡ false) (sym (eqb-true k f is)) (ended_wait home)
      same_end _ is = absurd (cc)

-- only who lives is polled
polled_lives : (h : LockHall) (f w : ℕ) (d : Meaning) (s : Sort) → PolledAs f w d s → cause_by h d ≡ None → lives_as h s f ≡ true
polled_lives h f w _ _ (AtLock k a is) allowed = same_poll a f w (λ a. is_of_wait a ≡ false → cause_in (part h k) a ≡ None → is_lock_future (part h k) f ≡ true)
    (λ v same line none. known (is_lock_future (part h k) f) none) (λ v until same line. absurd (cc)) is (of_lock (is_of_wait a) _ allowed).0 (of_lock (is_of_wait a) _ allowed).1
polled_lives h f w _ _ (AtWait a is) allowed = same_wait_poll a f w (λ a. cause_on h a ≡ None → lives_as h Waits f ≡ true) (λ v same none. known (lives_as h Waits f) none) is allowed

lives_there : (condvar : Bool) (o : Option LockFuture) → is_waiting_for condvar o ≡ true → IsSome o
lives_there condvar None is = absurd (cc)
lives_there condvar (Some x) is = refl

name_below : (h : LockHall) (n : ℕ) → Lows h n → (f : ℕ) (s : Sort) → lives_as h s f ≡ true → f < n
name_below h n lows f (Of Mutexes) lives = let there = value_in (get h.mutexes.futures f) (lives_there false (get h.mutexes.futures f) lives) in (lows.mutexes.below.at f there.0 there.1).0
name_below h n lows f (Of RwLocks) lives = let there = value_in (get h.rw_locks.futures f) (lives_there false (get h.rw_locks.futures f) lives) in (lows.rw_locks.below.at f there.0 there.1).0
name_below h n lows f Waits lives =
    let there = value_in (get h.condvars.waits f) (and_parts (is_wait h.condvars f) (is_condvar_future h.mutexes f) lives).0 in
    (lows.condvars.below.at f (key_of there.0) (seen-at key_of h.condvars.waits f there.0 there.1)).0

-- a hall with nothing
nothing_low : Low locks.no_locks 0
nothing_low = record { lows = record { at = λ k x is. absurd (nothing_at Lock k x is) }; below = record { at = λ k x is. absurd (nothing_at LockFuture k x is) } }

no_key : (f : ℕ) (x : Key) → get (keys empty) f ≡ Some x → ⊥
no_key f x is = nothing_at Key f x (sym (ap (λ m. get m f) (seen-empty key_of)) ∙ is)

lows : (r : RunOf locks_family) → IsRun locks_family r → Lows r.hall r.next
lows _ Starts = record {
  mutexes = nothing_low;
  rw_locks = nothing_low;
  condvars = record {
    lows = record { at = λ k x is. absurd (nothing_at Waiting k x is) };
    below = record { at = λ k x is. absurd (no_key k x is) };
    home = λ f x is. absurd (no_key f x is);
  };
}
lows _ (Goes r i e runs later cause) = lows_after r.hall r.next i (lows r runs) later (meaning_of e) cause

home : (r : RunOf locks_family) → IsRun locks_family r → (f : ℕ) (x : CondWait) → get r.hall.condvars.waits f ≡ Some x → IsSome (get r.hall.condvars.condvars x.condvar)
home r runs f x is = (lows r runs).condvars.home f (key_of x) (seen-at key_of r.hall.condvars.waits f x is)

pub keeps : KeepsWakers locks_family
keeps = record {
  places = λ r i e runs later cause f w polls pending. places r.hall i f.name w (meaning_of e) f.sort (polled_as (meaning_of e) f.sort f.name w polls) cause pending;
  waits = λ r i e runs f w v lives is polls. waits_for r.hall i f.name (home r runs) w v (meaning_of e) f.sort is (polled_as (meaning_of e) f.sort f.name v polls);
  wakes = λ r i e runs later cause f w lives is quiet lasts. kept r.hall r.next i (lows r runs) later (meaning_of e) cause f.name w f.sort lives is quiet lasts;
  stays = λ r i e runs later cause f lives quiet lasts. stays r.hall r.next i (lows r runs) later (meaning_of e) cause f.name f.sort lives quiet lasts;
  goes = λ r i e runs later cause f ended. ended_gone r.hall i f.name (home r runs) (meaning_of e) f.sort (ended_as (meaning_of e) f.sort f.name ended);
}

names : NamesFutures locks_family
names = record {
  polls = λ h e cause f w polls. polled_lives h f.name w (meaning_of e) f.sort (polled_as (meaning_of e) f.sort f.name w polls) cause;
  below = λ r runs f lives. name_below r.hall r.next (lows r runs) f.name f.sort lives;
  made = λ r i e runs later cause f lives. made r.hall r.next i (lows r runs) later (meaning_of e) cause f.name f.sort lives;
}

pub no_wake_is_lost : (r : RunOf locks_family) → IsRun locks_family r → LosesNoWake locks_family r
no_wake_is_lost r runs = loses_no_wake locks_family keeps names r runs
