-- what a poll hands back, and what it leaves where it finds no memory
use Rattle.std.proofs.Common.{◌≡◌, ◌-◌, ℕ, zero, suc, Bool, true, false, cond, ◌≤◌, Option, Some, None, IsSome, Result, Ok, Err, MatchResult, ◌⊎◌, ap, ◌∙◌, refl, inl, inr, arith}
use Rattle.std.proofs.lemmas.Bool.{cases_eq}
use Rattle.std.specs.FinMap as map
use Rattle.mea_base.specs.declared.no_memory.NoMemory.{NoMemory}
use Rattle.mea_base.specs.declared.turn.Turn.{Turn}
use Rattle.mea_base.specs.declared.turn.Turn.TheVariants.{Ready, Pending}
use Rattle.mea_sem_core.specs.Acquire.{renewed, demand_of}
use Rattle.mea_sem_core.specs.Calls.{Belongs, Polls, Queues}
use Rattle.mea_sem_core.specs.Core.{Core, waiting, held_of}
use Rattle.mea_sem_core.specs.declared.acquire.Acquire.{Acquire}
use Rattle.mea_sem_core.specs.declared.acquire.Acquire.TheVariants.{New, Queued, Done, Refused}
use Rattle.mea_lock_core.specs.Condvar.{Condvar}
use Rattle.mea_lock_core.specs.CondWaits.{MayPollWait, PollsWait, AsksLock, is_new, renewed_wait}
use Rattle.mea_lock_core.specs.Lock.{Lock, IsUnready}
use Rattle.mea_lock_core.specs.Lock as mutex
use Rattle.mea_lock_core.specs.RwLock.{RwLock, renewed_rw, MayPoll, PollsRw}
use Rattle.mea_lock_core.specs.RwLock as rw_lock
use Rattle.mea_lock_core.specs.declared.cond_wait.CondWait.{CondWait}
use Rattle.mea_lock_core.specs.declared.cond_wait.CondWait.TheVariants as stage
use Rattle.mea_lock_core.specs.declared.rw_wait.RwWait.{RwWait}
use Rattle.mea_lock_core.specs.declared.rw_wait.RwWait.TheVariants.{Read, NewWrite, Write}

-- ---- whether a wait is one of a lock can be told

has_demand : (o : Option ℕ) (d : ℕ) → (o ≡ Some d) ⊎ (o ≡ Some d → ⊥)
has_demand None d = inr (λ is. cc)
has_demand (Some x) d = elim (cases_eq x d) [ inl same ↦ inl (ap Some same) | inr differs ↦ inr (λ is. differs (cc)) ]

has_place : (o : Option (ℕ × ℕ)) (d : ℕ) → ((lack : ℕ) × (o ≡ Some (d, lack))) ⊎ ((lack : ℕ) × (o ≡ Some (d, lack)) → ⊥)
has_place None d = inr (λ is. let fails = is.1 in cc)
has_place (Some p) d = elim (cases_eq p.0 d) [
  | inl same ↦ inl (p.1, ap (λ x. Some (x, p.1)) same)
  | inr differs ↦ inr (λ is. differs (let there = is.1 in let whole : p ≡ (d, is.0) = cc in ap (λ (q : ℕ × ℕ). q.0) whole))
]

both : {A B : Type 0} → A ⊎ (A → ⊥) → B ⊎ (B → ⊥) → (A × B) ⊎ (A × B → ⊥)
both (inl a) (inl b) = inl (a, b)
both (inl a) (inr fails) = inr (λ h. fails h.1)
both (inr fails) b = inr (λ h. fails h.0)

all_three : {A B C : Type 0} → A ⊎ (A → ⊥) → B ⊎ (B → ⊥) → C ⊎ (C → ⊥) → (A × B × C) ⊎ (A × B × C → ⊥)
all_three (inl a) (inl b) (inl c) = inl (a, b, c)
all_three (inr fails) b c = inr (λ h. fails h.0)
all_three (inl a) (inr fails) c = inr (λ h. fails h.1)
all_three (inl a) (inl b) (inr fails) = inr (λ h. fails h.2)

is_unready : (a : Acquire) → IsUnready a ⊎ (IsUnready a → ⊥)
is_unready (New d) = inl tt
is_unready (Queued d n) = inl tt
is_unready (Done d) = inr (λ h. h)
is_unready (Refused d) = inr (λ h. h)

module _ {W : Type 0} where
  belongs : (s : Core W) (a : Acquire) → s.closed ≡ false → Belongs s a ⊎ (Belongs s a → ⊥)
  belongs s (New d) unclosed = inl tt
  belongs s (Done d) unclosed = inl tt
  belongs s (Refused d) unclosed = inr (λ closed. cc)
  belongs s (Queued d n) unclosed = by_places (has_demand (map.get s.granted n) d) (has_place (waiting s.queue n) d)
    where
      by_places : (map.get s.granted n ≡ Some d) ⊎ (map.get s.granted n ≡ Some d → ⊥)
          → ((lack : ℕ) × (waiting s.queue n ≡ Some (d, lack))) ⊎ ((lack : ℕ) × (waiting s.queue n ≡ Some (d, lack)) → ⊥)
          → Belongs s (Queued d n) ⊎ (Belongs s (Queued d n) → ⊥)
      by_places (inl granted) waits = inl (inl (inl granted))
      by_places (inr fails) (inl waits) = inl (inl (inr waits))
      by_places (inr fails) (inr idle) = inr (elim [ inl (inl granted) ↦ fails granted | inl (inr waits) ↦ idle waits | inr cut ↦ let closed = cut.0 in absurd (cc) ])

  -- ---- an acquire

  -- of a first poll: it finds the permits free, or some of them lack
  first_stays : (s s' : Core W) (d lack : ℕ) (w : W) (e : W × NoMemory) (a' : Acquire) → d - s.free ≡ lack → Polls s (New d) w (Err e) s' a'
      → (a' ≡ New d) × (e.0 ≡ w)
  first_stays s s' d zero w e a' is polls = let ready = (polls.0 (omega (arith, is))).0 in absurd (cc)
  first_stays s s' d (suc lack) w e a' is polls = let left = polls.1 (omega (arith, is)) in (left.2, left.0)

  pub acquire_stays : (s s' : Core W) (a a' : Acquire) (w : W) (e : W × NoMemory) → s.closed ≡ false → Belongs s a → IsUnready a
      → Polls s a w (Err e) s' a' → (a' ≡ a) × (e.0 ≡ w)
  acquire_stays s s' (New d) a' w e unclosed of unready polls = first_stays s s' d (d - s.free) w e a' refl polls
  acquire_stays s s' (Queued d n) a' w e unclosed (inl (inl granted)) unready polls = let ready = (polls.0 granted).0 in absurd (cc)
  acquire_stays s s' (Queued d n) a' w e unclosed (inl (inr waits)) unready polls = let pending = (polls.1 waits).0 in absurd (cc)
  acquire_stays s s' (Queued d n) a' w e unclosed (inr cut) unready polls = let closed = cut.0 in absurd (cc)
  acquire_stays s s' (Done d) a' w e unclosed of unready polls = absurd unready
  acquire_stays s s' (Refused d) a' w e unclosed of unready polls = absurd unready

  first_ready : (s s' : Core W) (d lack : ℕ) (w v : W) (a' : Acquire) → d - s.free ≡ lack → Polls s (New d) w (Ok (Ready v)) s' a' → v ≡ w
  first_ready s s' d zero w v a' is polls = let ready = (polls.0 (omega (arith, is))).0 in cc
  first_ready s s' d (suc lack) w v a' is polls = let pending = (polls.1 (omega (arith, is))).0 in absurd (cc)

  acquire_ready : (s s' : Core W) (a a' : Acquire) (w v : W) → s.closed ≡ false → Belongs s a → IsUnready a → Polls s a w (Ok (Ready v)) s' a' → v ≡ w
  acquire_ready s s' (New d) a' w v unclosed of unready polls = first_ready s s' d (d - s.free) w v a' refl polls
  acquire_ready s s' (Queued d n) a' w v unclosed (inl (inl granted)) unready polls = let ready = (polls.0 granted).0 in cc
  acquire_ready s s' (Queued d n) a' w v unclosed (inl (inr waits)) unready polls = let pending = (polls.1 waits).0 in absurd (cc)
  acquire_ready s s' (Queued d n) a' w v unclosed (inr cut) unready polls = let closed = cut.0 in absurd (cc)
  acquire_ready s s' (Done d) a' w v unclosed of unready polls = absurd unready
  acquire_ready s s' (Refused d) a' w v unclosed of unready polls = absurd unready

module _ {V W : Type 0} where
  -- ---- a mutex

  -- the waker comes back, whether the wait was one of the mutex or was renewed
  pub waker_back : (l l' : Lock V W) (a a' : Acquire) (w : W) (e : W × NoMemory) → mutex.IsSound l
      → (mutex.MayPoll l a → Polls l.permits a w (Err e) l'.permits a') → (¬ mutex.MayPoll l a → Polls l.permits (renewed a) w (Err e) l'.permits a')
      → e.0 ≡ w
  waker_back l l' a a' w e sound allowed renews = by_case (both (belongs l.permits a sound.is_open) (is_unready a))
    where
      again : (x : Acquire) → Polls l.permits (renewed x) w (Err e) l'.permits a' → e.0 ≡ w
      again (New d) polls = (acquire_stays l.permits l'.permits (New d) a' w e sound.is_open tt tt polls).1
      again (Queued d n) polls = (acquire_stays l.permits l'.permits (New d) a' w e sound.is_open tt tt polls).1
      again (Done d) polls = (acquire_stays l.permits l'.permits (New d) a' w e sound.is_open tt tt polls).1
      again (Refused d) polls = (acquire_stays l.permits l'.permits (New d) a' w e sound.is_open tt tt polls).1

      by_case : mutex.MayPoll l a ⊎ (mutex.MayPoll l a → ⊥) → e.0 ≡ w
      by_case (inl may) = (acquire_stays l.permits l'.permits a a' w e sound.is_open may.0 may.1 (allowed may)).1
      by_case (inr fails) = again a (renews fails)

  -- ---- a reader-writer lock

  may_poll : (l : RwLock V W) (x : RwWait) → l.permits.closed ≡ false → MayPoll l x ⊎ (MayPoll l x → ⊥)
  may_poll l (Read a) unclosed = all_three (belongs l.permits a unclosed) (is_unready a) (cases_eq (demand_of a) 1)
  may_poll l NewWrite unclosed = inl tt
  may_poll l (Write a) unclosed = all_three (belongs l.permits a unclosed) (is_unready a) (cases_eq (demand_of a) l.most)

  rw_stays : (l l' : RwLock V W) (x x' : RwWait) (w : W) (e : W × NoMemory) → l.permits.closed ≡ false → MayPoll l x → PollsRw l x w (Err e) l' x'
      → (x' ≡ x) × (e.0 ≡ w)
  rw_stays l l' (Read a) x' w e unclosed may polls =
      let left = acquire_stays l.permits l'.permits a polls.0 w e unclosed may.0 may.1 polls.1.0 in
      (polls.2 ∙ ap Read left.0, left.1)
  rw_stays l l' NewWrite x' w e unclosed may polls =
      (polls.2, (acquire_stays l.permits l'.permits (New l.most) polls.0 w e unclosed tt tt polls.1.0).1)
  rw_stays l l' (Write a) x' w e unclosed may polls =
      let left = acquire_stays l.permits l'.permits a polls.0 w e unclosed may.0 may.1 polls.1.0 in
      (polls.2 ∙ ap Write left.0, left.1)

  may_renewed : (l : RwLock V W) (x : RwWait) → MayPoll l (renewed_rw x)
  may_renewed l (Read a) = (tt, tt, refl)
  may_renewed l NewWrite = tt
  may_renewed l (Write a) = tt

  pub rw_refused : (l l' : RwLock V W) (x x' : RwWait) (w : W) (e : W × NoMemory) → rw_lock.IsSound l
      → (MayPoll l x → PollsRw l x w (Err e) l' x') → (¬ MayPoll l x → PollsRw l (renewed_rw x) w (Err e) l' x')
      → (e.0 ≡ w) × (MayPoll l x → x' ≡ x) × (¬ MayPoll l x → x' ≡ renewed_rw x)
  rw_refused l l' x x' w e sound allowed renews =
      (by_case (may_poll l x sound.is_open), λ may. (stays may).0, λ fails. (again fails).0)
    where
      stays : MayPoll l x → (x' ≡ x) × (e.0 ≡ w)
      stays may = rw_stays l l' x x' w e sound.is_open may (allowed may)

      again : ¬ MayPoll l x → (x' ≡ renewed_rw x) × (e.0 ≡ w)
      again fails = rw_stays l l' (renewed_rw x) x' w e sound.is_open (may_renewed l x) (renews fails)

      by_case : MayPoll l x ⊎ (MayPoll l x → ⊥) → e.0 ≡ w
      by_case (inl may) = (stays may).1
      by_case (inr fails) = (again fails).1

  rw_gives : (l l' : RwLock V W) (x x' : RwWait) (w v : W) → l.permits.closed ≡ false → MayPoll l x → PollsRw l x w (Ok (Ready v)) l' x' → v ≡ w
  rw_gives l l' (Read a) x' w v unclosed may polls = acquire_ready l.permits l'.permits a polls.0 w v unclosed may.0 may.1 polls.1.0
  rw_gives l l' NewWrite x' w v unclosed may polls = acquire_ready l.permits l'.permits (New l.most) polls.0 w v unclosed tt tt polls.1.0
  rw_gives l l' (Write a) x' w v unclosed may polls = acquire_ready l.permits l'.permits a polls.0 w v unclosed may.0 may.1 polls.1.0

  pub rw_ready : (l l' : RwLock V W) (x x' : RwWait) (w v : W) → rw_lock.IsSound l → (MayPoll l x → PollsRw l x w (Ok (Ready v)) l' x')
      → (¬ MayPoll l x → PollsRw l (renewed_rw x) w (Ok (Ready v)) l' x') → v ≡ w
  rw_ready l l' x x' w v sound allowed renews = by_case (may_poll l x sound.is_open)
    where
      by_case : MayPoll l x ⊎ (MayPoll l x → ⊥) → v ≡ w
      by_case (inl may) = rw_gives l l' x x' w v sound.is_open may (allowed may)
      by_case (inr fails) = rw_gives l l' (renewed_rw x) x' w v sound.is_open (may_renewed l x) (renews fails)

  -- ---- a condition variable

  pub wait_stays : (s s' : Condvar W) (l l' : Lock V W) (c c' : CondWait) (w : W) (e : W × NoMemory) → mutex.IsSound l → MayPollWait s l c
      → PollsWait s l c w (Err e) s' l' c' → c' ≡ c
  wait_stays s s' l l' stage.New c' w e sound may polls = polls.3
  wait_stays s s' l l' (stage.Listed n) c' w e sound (inl waits) polls = let pending = (polls.0 waits).0 in absurd (cc)
  wait_stays s s' l l' (stage.Listed n) c' w e sound (inr told) polls = by_note (map.get s.notified n) refl told
    where
      by_note : (o : Option Bool) → map.get s.notified n ≡ o → IsSome (map.get s.notified n) → c' ≡ stage.Listed n
      by_note None is told = absurd (let fails = rw is at told in cc)
      by_note (Some by_one) is told = (polls.1 by_one is).1.3
  wait_stays s s' l l' (stage.Locking by_one a) c' w e sound may polls =
      polls.1.1.2 ∙ ap (stage.Locking by_one) (acquire_stays l.permits l'.permits a polls.1.1.0 w e sound.is_open may.0 may.1 polls.1.1.1).0
  wait_stays s s' l l' stage.Done c' w e sound may polls = absurd may

  -- a new wait has the lock
  pub new_holds : (s : Condvar W) (l : Lock V W) (c : CondWait) → is_new c ≡ true → MayPollWait s l c → 1 ≤ held_of l.permits
  new_holds s l stage.New is may = may
  new_holds s l (stage.Listed n) is may = absurd (cc)
  new_holds s l (stage.Locking by_one a) is may = absurd (cc)
  new_holds s l stage.Done is may = absurd (cc)

-- a wait that is renewed only where it is new and has no value, and has one, is as it was
pub keeps_place : (c polled kept : CondWait) (some : Bool) → polled ≡ c → (is_new polled ≡ false → kept ≡ polled)
    → (is_new polled ≡ true → kept ≡ cond some stage.New renewed_wait) → (is_new c ≡ true → some ≡ true) → kept ≡ c
keeps_place stage.New polled kept some same stays new has = new (ap is_new same) ∙ ap (λ b. cond b stage.New renewed_wait) (has refl)
keeps_place (stage.Listed n) polled kept some same stays new has = stays (ap is_new same) ∙ same
keeps_place (stage.Locking by_one a) polled kept some same stays new has = stays (ap is_new same) ∙ same
keeps_place stage.Done polled kept some same stays new has = stays (ap is_new same) ∙ same
