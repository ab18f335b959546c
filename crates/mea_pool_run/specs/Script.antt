-- scripts of a pool, and the words of the command
use Rattle.std.specs.Prelude.{ℕ, ◌≡◌, ◌≤◌, List, [], ◌∷◌, None, codes}
use Rattle.std.specs.Fmt.{decimal}
use Rattle.mea_script.specs.Rules.{Rules}
use Rattle.mea_script.specs.Told.{Told, told_by}
use Rattle.mea_pool_run.specs.declared.event.PoolEvent.{PoolEvent}
use Rattle.mea_pool_run.specs.PoolByName.{PoolByName, begun, outcome}
use Rattle.mea_pool_run.specs.Lines.{event_of}
use Rattle.mea_pool_run.specs.Reply.{text_of}

-- no event is refused; each has its reply with its wakes, and nothing is told at the end
abbrev pub pool_rules : Rules PoolByName PoolEvent
pool_rules = record {
  event = λ s line. event_of line;
  cause = λ s e. None;
  reply = λ s n e. text_of (outcome s n e).reply (outcome s n e).wakes;
  next = λ s n e. (outcome s n e).pool;
  last = λ s n. [];
}

-- what a script on a pool of so many resources is answered
abbrev pub pool_of : ℕ → List ℕ → Told
pool_of size script = told_by pool_rules (begun size) script

-- so many resources a pool may have
abbrev pub IsSize : ℕ → Type 0
IsSize size = (1 ≤ size) × (size ≤ 1000000)

-- the words are `pool` and the spelling of a number of resources
abbrev pub IsPool : List (List ℕ) → ℕ → Type 0
IsPool words size = (words ≡ codes "pool" ∷ decimal size ∷ []) × (1 ≤ size) × (size ≤ 1000000)

-- the words are those of some pool
abbrev pub IsCommand : List (List ℕ) → Type 0
IsCommand words = (size : ℕ) × IsPool words size
