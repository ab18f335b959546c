-- what a poll answers of a semaphore that may be closed
use Rattle.mea_base.specs.declared.turn.Turn.{Turn}
use Rattle.mea_base.specs.declared.turn.Turn.TheVariants.{Ready, Pending}
use Rattle.mea_sem_core.specs.declared.open_turn.OpenTurn.{OpenTurn}
use Rattle.mea_sem_core.specs.declared.open_turn.OpenTurn.TheVariants as open_turn

-- the same answer, where nothing was refused
abbrev pub as_open : {W : Type 0} → Turn W → OpenTurn W
as_open (Ready waker) = open_turn.Ready waker
as_open Pending = open_turn.Pending
