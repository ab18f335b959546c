-- what a poll of a write leaves that is refused
use Rattle.std.specs.Prelude.{◌≡◌, ◌⊎◌, false, Ok}
use Rattle.mea_base.specs.declared.turn.Turn.TheVariants.{Ready}
use Rattle.mea_sem_core.specs.Calls.{given_back}
use Rattle.mea_lock_core.specs.RwLock.{RwLock, PollsRw}
use Rattle.mea_lock_core.specs.declared.rw_wait.RwWait.{RwWait}
use Rattle.mea_lock_core.specs.declared.rw_wait.RwWait.TheVariants.{NewWrite}

module _ {V W : Type 0} where
  -- the write was let in, and is given back in the same step: the wait is one that was never polled
  pub record GivesWriteBack (l : RwLock V W) (x : RwWait) (w : W) (l' : RwLock V W) (x' : RwWait) : Type 0 where
    pub between : RwLock V W
    pub done : RwWait
    pub polls : PollsRw l x w (Ok (Ready w)) between done
    pub back : l' ≡ record between { permits = given_back between.permits between.most; writing = false }
    pub again : x' ≡ NewWrite

  -- there was no memory, and nothing has changed; or a share of the value was left
  abbrev pub RefusesWrite : RwLock V W → RwWait → W → RwLock V W → RwWait → Type 0
  RefusesWrite l x w l' x' = ((l' ≡ l) × (x' ≡ x)) ⊎ GivesWriteBack l x w l' x'
