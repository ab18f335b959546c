-- how many numbers of a lock were granted, and how many of its futures hold it
use Rattle.std.proofs.Common.{◌≡◌, ℕ, ◌+◌, ◌*◌, ◌&&◌, ◌||◌, Bool, true, false, not, cond, List, [], ◌∷◌, sum_by, Some, refl, ap, sym, arith, one-mul, zero-mul}
use Rattle.std.specs.Ordering.{nat_cmp}
use Rattle.std.specs.FinMap.{FinMap, get, len, entries}
use Rattle.std.proofs.lemmas.List.Sums.{sum_by-cons}
use Rattle.mea_base.specs.Totals.{total}
use Rattle.mea_by_name.specs.declared.named_waker.NamedWaker.{NamedWaker}
use Rattle.mea_by_name.specs.ByName.{Names, seen, count}
use Rattle.mea_by_name.specs.NamedQueue.{waits}
use Rattle.mea_by_name.specs.LackingQueue.{who}
use Rattle.mea_by_name.proofs.Own.{seen-at}
use Rattle.mea_sem_core.specs.declared.acquire.Acquire.{Acquire}
use Rattle.mea_sem_core.specs.declared.acquire.Acquire.TheVariants.{New, Queued, Done, Refused}
use Rattle.mea_sem_core.specs.Core.{Waiter}
use Rattle.mea_lock_model.specs.Locks.{LockFuture}
use Rattle.mea_cores_by_name.specs.Linked.{names_in, IsHome}
use Rattle.mea_cores_by_name.proofs.Granted.{one_if_granted, granted_seen}
use Rattle.mea_lock.specs.declared.guard_entry.GuardEntry.{GuardEntry}
use Rattle.mea_lock.specs.Cores.{NamedLock, acquire_of}
use Rattle.mea_lock.specs.Entries.{KeptLock, KeptFuture}
use Rattle.mea_lock.specs.Waits.{has_number, is_polled}
use Rattle.mea_lock.specs.Parts.{lock_seen, future_seen, held_in, AreKept}
use Rattle.mea_lock.specs.Lends.{has_permits}
use Rattle.mea_lock.proofs.OneLock.{polled-any, holder_apart}

-- ---- what futures hold together
share_is : (m : ℕ) (b : Bool) → ◌≡◌ {A = ℕ} (cond b m 0) (cond b 1 0 * m)
share_is m true = sym (one-mul m)
share_is m false = sym (zero-mul m)

shares_are : (m : ℕ) (es : List (ℕ × KeptFuture)) → sum_by {X = ℕ × KeptFuture} (λ e. cond e.1.holds m 0) es ≡ sum_by {X = ℕ × KeptFuture} (λ e. cond e.1.holds 1 0) es * m
shares_are m [] = sym (zero-mul m)
shares_are m (e ∷ es) =
    let more = ap (λ (n : ℕ). n * m) (sum_by-cons {X = ℕ × KeptFuture} (λ e. cond e.1.holds 1 0) e es) in
    omega (arith, more, share_is m e.1.holds, shares_are m es, sum_by-cons {X = ℕ × KeptFuture} (λ e. cond e.1.holds m 0) e es)

-- each that holds the lock has all permits
pub held_by_all : (l : NamedLock) (fs : Names KeptFuture) → held_in l fs ≡ count (λ (x : KeptFuture). x.holds) fs * l.most
held_by_all l fs = shares_are l.most (entries fs)

-- ---- who has its permits
-- of an acquire that is home: one that has a number, and does not wait
granted_home : (q : List (Waiter NamedWaker × ℕ)) (granted : FinMap nat_cmp ℕ) (f : ℕ) (a : Acquire) → IsHome q granted a → ◌≡◌ {A = ℕ} (cond (has_number a && not (waits (who (names_in q)) f)) 1 0) (one_if_granted q f a)
granted_home q granted f (New d) home = refl
granted_home q granted f (Queued d n) home = refl
granted_home q granted f (Done d) home = absurd home
granted_home q granted f (Refused d) home = absurd home

module _ (e : KeptLock) (fs : Names KeptFuture) (gs : Names GuardEntry) (kept : AreKept e fs gs) where
  -- it was granted them, or holds the lock
  has_by : (f : ℕ) (x : KeptFuture) → get fs f ≡ Some x → (b : Bool) → x.holds ≡ b
      → ◌≡◌ {A = ℕ} (cond (has_permits (lock_seen e) f (future_seen x)) 1 0) (one_if_granted e.lock.permits.queue f (acquire_of e.lock.most x.wait) + cond x.holds 1 0)
  has_by f x there true holds =
      let apart = holder_apart e fs gs kept f x there holds in
      let has : ◌≡◌ {A = ℕ} (cond (has_permits (lock_seen e) f (future_seen x)) 1 0) 1 = λ j. cond ((holds j || is_polled x.wait) && not (apart j)) 1 0 in
      let none : one_if_granted e.lock.permits.queue f (acquire_of e.lock.most x.wait) ≡ 0 = ap (one_if_granted e.lock.permits.queue f) (kept.holders f x there holds).new in
      let one : ◌≡◌ {A = ℕ} (cond x.holds 1 0) 1 = ap (λ b. cond b 1 0) holds in
      omega (arith, has, none, one)
  has_by f x there false waits_for =
      let home = kept.linked.home f (acquire_of e.lock.most x.wait) (seen-at (λ (x : KeptFuture). acquire_of e.lock.most x.wait) fs f x there) in
      let polled : ◌≡◌ {A = ℕ} (cond (has_permits (lock_seen e) f (future_seen x)) 1 0) (cond (has_number (acquire_of e.lock.most x.wait) && not (waits (who (names_in e.lock.permits.queue)) f)) 1 0)
      = λ j. cond ((waits_for j || polled-any x.wait 0 e.lock.most j) && not (waits (who (names_in e.lock.permits.queue)) f)) 1 0 in
      let none : ◌≡◌ {A = ℕ} (cond x.holds 1 0) 0 = ap (λ b. cond b 1 0) waits_for in
      omega (arith, polled, granted_home e.lock.permits.queue e.lock.permits.granted f (acquire_of e.lock.most x.wait) home, none)

  pub futures_granted : total (λ f (x : LockFuture). cond (has_permits (lock_seen e) f x) 1 0) (seen future_seen fs) ≡ len e.lock.permits.granted + count (λ (x : KeptFuture). x.holds) fs
  futures_granted = granted_seen e.lock.permits.queue e.lock.permits.granted (λ (x : KeptFuture). acquire_of e.lock.most x.wait) future_seen fs (λ f (x : LockFuture). cond (has_permits (lock_seen e) f x) 1 0)
      (λ (x : KeptFuture). cond x.holds 1 0) kept.sound.no_debt kept.sound.permits.granted_apart kept.linked (λ f x there. has_by f x there x.holds refl)
