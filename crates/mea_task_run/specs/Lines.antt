-- the lines of programs of tasks
use Rattle.std.specs.Prelude.{ℕ, List, [], ◌∷◌, Option, codes}
use Rattle.std.specs.Option.{option_map_or}
use Rattle.mea_task_core.specs.declared.step.Step.TheVariants as steps
use Rattle.mea_text.specs.declared.numbers.Numbers.TheVariants.{Bare}
use Rattle.mea_text.specs.Words.{◌>>=◌, cut, numbers_of}
use Rattle.mea_text.specs.Tables.{Line, alone, one, two, of_table}
use Rattle.mea_task_run.specs.declared.event.TaskEvent.{TaskEvent}
use Rattle.mea_task_run.specs.declared.event.TaskEvent.TheVariants.{Sem, Task, Step}

-- a semaphore of so many permits; a task; its steps, with the place of a semaphore and a number of permits
unfoldable pub task_lines : List (Line TaskEvent)
task_lines =
    one (codes "sem") Sem ∷
    alone (codes "task") Task ∷
    two (codes "take") (λ s n. Step (steps.Take s n)) ∷
    two (codes "give") (λ s n. Step (steps.Give s n)) ∷
    alone (codes "yield") (Step steps.Yield) ∷
    []

-- the event of a line, if it has the form of one
abbrev pub event_of : List ℕ → Option TaskEvent
event_of line = option_map_or (λ parts. numbers_of parts.1 >>= of_table task_lines parts.0) (cut 32 line) (of_table task_lines line Bare)
