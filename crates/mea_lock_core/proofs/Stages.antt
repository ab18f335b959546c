-- a poll in the lock stage
use Rattle.std.proofs.Common.{◌≡◌, Result}
use Rattle.mea_base.specs.declared.no_memory.NoMemory.{NoMemory}
use Rattle.mea_base.specs.declared.turn.Turn.{Turn}
use Rattle.mea_lock_core.specs.CondWaits.{PollsWait, PollsAsking, IsLocking}
use Rattle.mea_lock_core.specs.Condvar.{Condvar}
use Rattle.mea_lock_core.specs.Lock.{Lock}
use Rattle.mea_lock_core.specs.declared.cond_wait.CondWait.{CondWait}
use Rattle.mea_lock_core.specs.declared.cond_wait.CondWait.TheVariants.{New, Listed, Locking, Done}

module _ {V W : Type 0} where
  -- the condition variable has not changed
  pub asking_polls : (s s' : Condvar W) (l : Lock V W) (c : CondWait) (w : W) (r : Result (Turn W) (W × NoMemory)) (l' : Lock V W) (c' : CondWait)
      → s' ≡ s → IsLocking l c → PollsAsking l c w r l' c' → PollsWait s l c w r s' l' c'
  asking_polls s s' l New w r l' c' same asks polls = absurd asks
  asking_polls s s' l (Listed n) w r l' c' same asks polls = absurd asks
  asking_polls s s' l (Locking by_one a) w r l' c' same asks polls = (same, polls)
  asking_polls s s' l Done w r l' c' same asks polls = absurd asks
