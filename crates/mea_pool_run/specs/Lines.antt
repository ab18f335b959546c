-- the lines of a script of a pool
use Rattle.std.specs.Prelude.{ℕ, List, [], ◌∷◌, Option, codes}
use Rattle.std.specs.Option.{option_map_or}
use Rattle.mea_text.specs.declared.numbers.Numbers.TheVariants.{Bare}
use Rattle.mea_text.specs.Tables.{Line, alone, one, two, of_table}
use Rattle.mea_text.specs.Words.{◌>>=◌, cut, numbers_of}
use Rattle.mea_pool_run.specs.declared.event.PoolEvent.{PoolEvent}
use Rattle.mea_pool_run.specs.declared.event.PoolEvent.TheVariants.{Ask, Wait, Poll, Use, Back, End, Drain, Idle}

-- each word with its numbers
unfoldable pub pool_lines : List (Line PoolEvent)
pool_lines =
    alone (codes "ask") Ask ∷
    alone (codes "wait") Wait ∷
    two (codes "poll") Poll ∷
    two (codes "use") Use ∷
    one (codes "back") Back ∷
    one (codes "end") End ∷
    alone (codes "drain") Drain ∷
    alone (codes "idle") Idle ∷
    []

-- the event of a line, if it is one
abbrev pub event_of : List ℕ → Option PoolEvent
event_of line = option_map_or (λ parts. numbers_of parts.1 >>= of_table pool_lines parts.0) (cut 32 line) (of_table pool_lines line Bare)
