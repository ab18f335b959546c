-- the locks of each kind, and the condition variables
use Rattle.std.specs.Prelude.{ℕ, ◌+◌, refl}
use Rattle.std.specs.Coded.{Coded, code_by, coded×}
use Rattle.mea_lock_model.specs.Locks as locks
use Rattle.mea_lock_model.specs.Locks.{Locks, no_locks, locks_code}
use Rattle.mea_lock_model.specs.Condvars as condvars
use Rattle.mea_lock_model.specs.Condvars.{Condvars, no_condvars, condvars_code}

-- mutexes, and reader-writer locks
pub data Kind : Type 0 where
  Mutexes : Kind
  RwLocks : Kind

-- the locks of each kind, and the condition variables, by name
pub record LockHall : Type 0 where
  pub mutexes : Locks
  pub rw_locks : Locks
  pub condvars : Condvars

-- no lock and no condition variable
abbrev pub empty_hall : LockHall
empty_hall = record { mutexes = no_locks; rw_locks = no_locks; condvars = no_condvars }

-- the locks of a kind
abbrev pub part : LockHall → Kind → Locks
part h Mutexes = h.mutexes
part h RwLocks = h.rw_locks

-- those of a kind are these now
abbrev pub with_part : LockHall → Kind → Locks → LockHall
with_part h Mutexes p = record h { mutexes = p }
with_part h RwLocks p = record h { rw_locks = p }

-- how many wakers are registered
abbrev pub registered : LockHall → ℕ
registered h = locks.registered h.mutexes + locks.registered h.rw_locks + condvars.registered h.condvars

-- by which a proof tells two halls apart
abbrev pub hall_code : Coded LockHall
hall_code =
    code_by (Locks × (Locks × Condvars)) (coded× locks_code (coded× locks_code condvars_code))
    (λ h. (h.mutexes, (h.rw_locks, h.condvars))) (λ p. record { mutexes = p.0; rw_locks = p.1.0; condvars = p.1.1 }) (λ _. refl)
