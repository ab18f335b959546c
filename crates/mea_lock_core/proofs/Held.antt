-- a poll that is ready takes the lock
use Rattle.std.proofs.Common.{◌≡◌, arith}
use Rattle.mea_base.specs.declared.turn.Turn.{Turn}
use Rattle.mea_base.specs.declared.turn.Turn.TheVariants.{Ready, Pending}
use Rattle.mea_sem_core.specs.Acquire.{demand_of}
use Rattle.mea_sem_core.specs.Calls.{HoldsAfter}
use Rattle.mea_sem_core.specs.declared.acquire.Acquire.{Acquire}
use Rattle.mea_sem_core.specs.declared.acquire.Acquire.TheVariants.{New, Queued, Done, Refused}
use Rattle.mea_lock_core.specs.Lock.{Lock, IsUnready, TakesLock}

module _ {V W : Type 0} where
  pub takes_lock : (l l' : Lock V W) (a : Acquire) (turn : Turn W) → HoldsAfter l.permits a turn l'.permits → IsUnready a → demand_of a ≡ 1
      → l'.permits.live ≡ 1 → TakesLock l turn l'
  takes_lock l l' (New d) (Ready w) holds unready demand one = (omega (arith, holds, demand, one), omega (arith, holds, demand, one))
  takes_lock l l' (Queued d n) (Ready w) holds unready demand one = (omega (arith, holds, demand, one), omega (arith, holds, demand, one))
  takes_lock l l' (Done d) turn holds unready demand one = absurd unready
  takes_lock l l' (Refused d) turn holds unready demand one = absurd unready
  takes_lock l l' (New d) Pending holds unready demand one = holds
  takes_lock l l' (Queued d n) Pending holds unready demand one = holds
