-- what a poll of a wait on a condition variable tells, as its core told it
use Rattle.std.specs.Prelude.{Option, Some, None, Result, Ok, Err}
use Rattle.mea_base.specs.declared.no_memory.NoMemory.{NoMemory}
use Rattle.mea_base.specs.declared.turn.Turn.{Turn}
use Rattle.mea_base.specs.declared.turn.Turn.TheVariants.{Ready, Pending}

-- the core's answer, where the shared type's own has the mutex's value beside the waker
abbrev pub turn_of : {T W : Type 0} → Result (Option (T × W)) (W × NoMemory) → Result (Turn W) (W × NoMemory)
turn_of (Ok (Some taken)) = Ok (Ready taken.1)
turn_of (Ok None) = Ok Pending
turn_of (Err e) = Err e
