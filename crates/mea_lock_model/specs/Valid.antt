-- what holds of the guards of every hall that events reach
use Rattle.std.specs.Prelude.{ℕ, ◌+◌, ◌≡◌, ◌≤◌, ◌<◌, true, Some}
use Rattle.std.specs.FinMap.{get}
use Rattle.mea_base.specs.Totals.{total}
use Rattle.mea_by_name.specs.ByName.{Names, own}
use Rattle.mea_lock_model.specs.Locks.{Lock, LockGuard, Locks, size}
use Rattle.mea_lock_model.specs.LockHall.{LockHall}

-- how many permits these guards have
abbrev pub held_by : Lock → Names LockGuard → ℕ
held_by r gs = total (λ k (x : LockGuard). size r x.writes) gs

-- what the guards of a lock have, with what is free, is no more than the lock has
pub record FitGuards (h : Locks) : Type 0 where
  pub some : (o : ℕ) (r : Lock) → get h.locks o ≡ Some r → 0 < r.most
  pub all : (o : ℕ) (r : Lock) → get h.locks o ≡ Some r → r.free + held_by r (own (λ (x : LockGuard). x.lock) o h.guards) ≤ r.most

-- and so for each kind of locks
pub record AllFit (h : LockHall) : Type 0 where
  pub mutexes : FitGuards h.mutexes
  pub rw_locks : FitGuards h.rw_locks

-- beside a guard that writes its lock has no other
abbrev pub WritesAlone : Locks → Type 0
WritesAlone h = (o g j : ℕ) (r : Lock) (x y : LockGuard) → get h.locks o ≡ Some r → get h.guards g ≡ Some x → get h.guards j ≡ Some y → x.lock ≡ o → y.lock ≡ o → x.writes ≡ true → g ≡ j

-- a lock of one permit has one guard at the most
abbrev pub OneGuard : Locks → Type 0
OneGuard h = (o g j : ℕ) (r : Lock) (x y : LockGuard) → get h.locks o ≡ Some r → r.most ≡ 1 → get h.guards g ≡ Some x → get h.guards j ≡ Some y → x.lock ≡ o → y.lock ≡ o → g ≡ j
