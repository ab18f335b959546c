-- how many wait after each call of a lock
use Rattle.std.proofs.Common.{◌≡◌, ℕ, ◌+◌, ◌-◌, ◌≤◌, ◌⊎◌, inl, inr, Bool, false, length, List, [], ◌∷◌, ◌++◌, Ok, ap, ◌∙◌, arith}
use Rattle.std.proofs.lemmas.Bool.{cases_lt}
use Rattle.std.proofs.lemmas.List.{length-append}
use Rattle.mea_base.specs.Queue.{granted_in}
use Rattle.mea_base.specs.declared.turn.Turn.{Turn}
use Rattle.mea_by_name.proofs.LackingQueues.{poured_parts}
use Rattle.mea_by_name.specs.declared.named_waker.NamedWaker.{NamedWaker}
use Rattle.mea_sem_core.specs.declared.acquire.Acquire.{Acquire}
use Rattle.mea_sem_core.specs.declared.acquire.Acquire.TheVariants.{New, Queued, Done, Refused}
use Rattle.mea_sem_core.specs.Core.{Core, Waiter, Acquires, Owes, wakers_of, poured}
use Rattle.mea_sem_core.specs.Calls.{Polls, Cancels, Belongs, given_back}
use Rattle.mea_lock_core.specs.Lock.{IsUnready}
use Rattle.mea_lock_core.specs.RwLock.{IsSound, MayPoll, MayCancel, share_of}
use Rattle.mea_lock_core.specs.declared.rw_wait.RwWait.{RwWait}
use Rattle.mea_lock_core.specs.declared.rw_wait.RwWait.TheVariants.{Read, NewWrite, Write}
use Rattle.mea_lock.specs.Cores.{NamedLock, acquire_of, PollsLock, CancelsLock, UnlocksLock, LowersLock}
use Rattle.mea_sem_core.proofs.Ones.{length-rewaked, length-without}

module _ {W : Type 0} where
  -- a poll leaves as many in the queue, or one more, and makes no waker ready
  poll_leaves : (s s' : Core W) (a a' : Acquire) (w : W) (turn : Turn W) → s.closed ≡ false → Polls s a w (Ok turn) s' a' → Belongs s a → IsUnready a
      → ((length s'.queue ≡ length s.queue) ⊎ (length s'.queue ≡ length s.queue + 1)) × (s'.wakes ≡ s.wakes)
  poll_leaves s s' (New d) a' w turn opened polls belongs unready = elim (cases_lt s.free d) [
    | inr enough ↦ let is = polls.0 enough in (inl (ap (λ t. length t.queue) is.1), ap (λ t. t.wakes) is.1)
    | inl few ↦ let is = polls.1 few in (inr (ap (λ t. length t.queue) is.1.1.is ∙ length-append s.queue ((Acquires is.1.0 d w, d - s.free) ∷ [])), ap (λ t. t.wakes) is.1.1.is)
  ]
  poll_leaves s s' (Queued d n) a' w turn opened polls (inl (inl granted)) unready = let is = polls.0 granted in (inl (ap (λ t. length t.queue) is.1), ap (λ t. t.wakes) is.1)
  poll_leaves s s' (Queued d n) a' w turn opened polls (inl (inr waits)) unready = let is = polls.1 waits in (inl (ap (λ t. length t.queue) is.1 ∙ length-rewaked s.queue n w), ap (λ t. t.wakes) is.1)
  poll_leaves s s' (Queued d n) a' w turn opened polls (inr cut) unready = absurd (let closed = cut.0 in cc)
  poll_leaves s s' (Done d) a' w turn opened polls belongs unready = absurd unready
  poll_leaves s s' (Refused d) a' w turn opened polls belongs unready = absurd unready

  length-wakers : (ws : List (Waiter W)) → length (wakers_of ws) ≤ length ws
  length-wakers [] = omega arith
  length-wakers (Acquires m d w ∷ ws) = omega (arith, length-wakers ws)
  length-wakers (Owes ∷ ws) = omega (arith, length-wakers ws)

  -- no more are left in the queue, with those who are woken, than there were
  pub record Fits (s s' : Core W) : Type 0 where
    pub fits : length s'.queue + length s'.wakes ≤ length s.queue

  fits_poured : (s t : Core W) (n : ℕ) → t.wakes ≡ [] → length t.queue ≤ length s.queue → Fits s (poured t n)
  fits_poured s t n quiet few =
      let woken : length (t.wakes ++ wakers_of (granted_in t.queue n)) ≡ length (wakers_of (granted_in t.queue n)) = ap (λ ws. length (ws ++ wakers_of (granted_in t.queue n))) quiet in
      record { fits = omega (arith, woken, few, poured_parts t.queue n, length-wakers (granted_in t.queue n)) }

  pub given_fits : (s : Core W) (n : ℕ) → s.wakes ≡ [] → Fits s (given_back s n)
  given_fits s n quiet = fits_poured s (record s { live = s.live - n }) n quiet (omega arith)

  pub cancel_fits : (s s' : Core W) (a : Acquire) → Cancels s a s' → Belongs s a → s.wakes ≡ [] → Fits s s'
  cancel_fits s s' (New d) is belongs quiet = rw is (let none : length s.wakes ≡ 0 = ap length quiet in record { fits = omega (arith, none) })
  cancel_fits s s' (Queued d n) is (inl (inl granted)) quiet = rw (is.0 granted) (fits_poured s _ d quiet (omega arith))
  cancel_fits s s' (Queued d n) is (inl (inr waits)) quiet = rw (is.1 waits.0 waits.1) (fits_poured s _ (d - waits.0) quiet (length-without s.queue n))
  cancel_fits s s' (Queued d n) is (inr cut) quiet = rw (is.2 cut) (let none : length s.wakes ≡ 0 = ap length quiet in record { fits = omega (arith, none) })
  cancel_fits s s' (Done d) is belongs quiet = rw is (let none : length s.wakes ≡ 0 = ap length quiet in record { fits = omega (arith, none) })
  cancel_fits s s' (Refused d) is belongs quiet = rw is (let none : length s.wakes ≡ 0 = ap length quiet in record { fits = omega (arith, none) })

-- ---- the same of a lock
pub may_poll_acquire : (l : NamedLock) (x : RwWait) → MayPoll l x → Belongs l.permits (acquire_of l.most x) × IsUnready (acquire_of l.most x)
may_poll_acquire l (Read a) may = (may.0, may.1)
may_poll_acquire l NewWrite may = (tt, tt)
may_poll_acquire l (Write a) may = (may.0, may.1)

may_cancel_acquire : (l : NamedLock) (x : RwWait) → MayCancel l x → Belongs l.permits (acquire_of l.most x)
may_cancel_acquire l (Read a) may = may
may_cancel_acquire l NewWrite may = tt
may_cancel_acquire l (Write a) may = may

pub lock_poll_leaves : (l l' : NamedLock) (x x' : RwWait) (w : NamedWaker) (turn : Turn NamedWaker) → IsSound l → PollsLock l x w turn l' x' → MayPoll l x
    → ((length l'.permits.queue ≡ length l.permits.queue) ⊎ (length l'.permits.queue ≡ length l.permits.queue + 1)) × (l'.permits.wakes ≡ l.permits.wakes)
lock_poll_leaves l l' x x' w turn sound polls may = let is = may_poll_acquire l x may in poll_leaves l.permits l'.permits (acquire_of l.most x) (acquire_of l.most x') w turn sound.is_open polls.polls is.0 is.1

pub lock_cancel_fits : (l l' : NamedLock) (x : RwWait) → CancelsLock l x l' → MayCancel l x → l.permits.wakes ≡ [] → length l'.permits.queue + length l'.permits.wakes ≤ length l.permits.queue
lock_cancel_fits l l' x cancels may quiet = (cancel_fits l.permits l'.permits (acquire_of l.most x) cancels.cancels (may_cancel_acquire l x may) quiet).fits

pub unlock_fits : (l l' : NamedLock) (write : Bool) → UnlocksLock l write l' → l.permits.wakes ≡ [] → length l'.permits.queue + length l'.permits.wakes ≤ length l.permits.queue
unlock_fits l l' write unlocks quiet = rw (ap (λ (l : NamedLock). l.permits) unlocks.lock) ((given_fits l.permits (share_of l write) quiet).fits)

pub lower_fits : (l l' : NamedLock) → LowersLock l l' → l.permits.wakes ≡ [] → length l'.permits.queue + length l'.permits.wakes ≤ length l.permits.queue
lower_fits l l' lowers quiet = rw (ap (λ (l : NamedLock). l.permits) lowers.lock) ((given_fits l.permits (l.most - 1) quiet).fits)
