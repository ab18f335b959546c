-- where the value of a send is after a poll
use Rattle.std.specs.Prelude.{◌≡◌, Option, Some, Result, Ok, Err}
use Rattle.mea_base.specs.declared.poll.Poll.{Poll}
use Rattle.mea_base.specs.declared.poll.Poll.TheVariants.{Ready, Pending}
use Rattle.mea_base.specs.declared.no_memory.NoMemory.{NoMemory}
use Rattle.mea_chan_core.specs.declared.errors.SendError.{SendError}

-- a refused send hands its value out, and one that goes on or found no memory has it still
abbrev pub ComesBack : {T W : Type 0} → Option T → Result (Poll (Result (Unit {0}) (SendError T))) (W × NoMemory) → Option T → Type 0
ComesBack before (Ok (Ready (Ok _))) after = Unit {0}
ComesBack before (Ok (Ready (Err e))) after = before ≡ Some e.0
ComesBack before (Ok Pending) after = after ≡ before
ComesBack before (Err _) after = after ≡ before
