-- what a poll of an acquire does whose permits are lost where it is ready
use Rattle.std.specs.Prelude.{ℕ, ◌≡◌, ◌-◌, ◌<◌, ◌≤◌, Result, Ok, Err}
use Rattle.mea_base.specs.declared.no_memory.NoMemory.{NoMemory}
use Rattle.mea_sem_core.specs.Core.{Core, held_of}
use Rattle.mea_sem_core.specs.Calls.{PollsOpen}
use Rattle.mea_sem_core.specs.declared.acquire.Acquire.{Acquire}
use Rattle.mea_sem_core.specs.declared.open_turn.OpenTurn.{OpenTurn}
use Rattle.mea_sem_core.specs.declared.open_turn.OpenTurn.TheVariants.{Ready, Pending, Closed}

module _ {W : Type 0} where
  -- so many held permits are gone for ever; where fewer are held, nothing has changed
  abbrev pub Loses : ℕ → Core W → Core W → Type 0
  Loses n s s' = (n ≤ held_of s → s' ≡ record s { live = s.live - n }) × (held_of s < n → s' ≡ s)

  -- what a poll has granted is gone for ever
  abbrev pub LosesGranted : Result (OpenTurn W) (W × NoMemory) → ℕ → Core W → Core W → Type 0
  LosesGranted (Ok (Ready _)) n s s' = Loses n s s'
  LosesGranted (Ok Pending) n s s' = s' ≡ s
  LosesGranted (Ok (Closed _)) n s s' = s' ≡ s
  LosesGranted (Err _) n s s' = s' ≡ s

  -- a poll, and in the same step the loss of what it has granted
  pub record ForgetsGranted (s : Core W) (a : Acquire) (n : ℕ) (w : W) (r : Result (OpenTurn W) (W × NoMemory)) (s' : Core W) (a' : Acquire) : Type 0 where
    pub between : Core W
    pub polls : PollsOpen s a w r between a'
    pub loses : LosesGranted r n between s'
