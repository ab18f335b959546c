-- the lines of a script of jobs
use Rattle.std.specs.Prelude.{ℕ, List, [], ◌∷◌, Option, codes}
use Rattle.std.specs.Option.{option_map_or}
use Rattle.mea_text.specs.declared.numbers.Numbers.TheVariants.{Bare}
use Rattle.mea_text.specs.Words.{◌>>=◌, cut, numbers_of}
use Rattle.mea_text.specs.Tables.{Line, alone, one, two, of_table}
use Rattle.mea_job_run.specs.declared.event.JobEvent.{JobEvent}
use Rattle.mea_job_run.specs.declared.event.JobEvent.TheVariants.{Job, Finish, Recall, Take, Back, Stop, Poll, Count}

-- each word with its numbers
unfoldable pub job_lines : List (Line JobEvent)
job_lines =
    two (codes "job") Job ∷
    two (codes "fin") Finish ∷
    one (codes "recall") Recall ∷
    alone (codes "take") Take ∷
    alone (codes "back") Back ∷
    alone (codes "stop") Stop ∷
    one (codes "poll") Poll ∷
    alone (codes "count") Count ∷
    []

-- a word and its numbers, each after one space
unfoldable pub event_of : List ℕ → Option JobEvent
event_of line = option_map_or (λ parts. numbers_of parts.1 >>= of_table job_lines parts.0) (cut 32 line) (of_table job_lines line Bare)
