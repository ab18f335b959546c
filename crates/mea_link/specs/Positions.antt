-- where a receiver of a broadcast stands after an answer, by how many messages it has passed
use Rattle.std.specs.Prelude.{ℕ, ◌≡◌, ◌+◌, ◌≤◌, Result, Ok, Err}
use Rattle.mea_broadcast_core.specs.declared.errors.BroadcastTry.{BroadcastTry}
use Rattle.mea_broadcast_core.specs.declared.errors.BroadcastTry.TheVariants.{Empty, Lagged, Disconnected, NoMemory}

-- a message takes it on by one at most, a lag by exactly as many as it tells, and nothing else takes it on
abbrev pub MovesBy : {T : Type 0} → Result T BroadcastTry → ℕ → ℕ → Type 0
MovesBy (Ok _) before after = after ≤ before + 1
MovesBy (Err (Lagged k)) before after = after ≡ before + k
MovesBy (Err Empty) before after = after ≤ before
MovesBy (Err Disconnected) before after = after ≤ before
MovesBy (Err NoMemory) before after = after ≤ before
