-- how a line of a program of tasks is spelled
use Rattle.std.specs.Prelude.{ℕ, ◌++◌, List, codes}
use Rattle.mea_text.specs.declared.numbers.Numbers.{Numbers}
use Rattle.mea_text.specs.declared.numbers.Numbers.TheVariants.{Bare, One, Two}
use Rattle.mea_text.specs.Number.{AreFit}
use Rattle.mea_text.specs.Text.{numbers_text}
use Rattle.mea_text.specs.Words.{listed}
use Rattle.mea_task_core.specs.declared.step.Step.TheVariants as steps
use Rattle.mea_task_run.specs.declared.event.TaskEvent.{TaskEvent}
use Rattle.mea_task_run.specs.declared.event.TaskEvent.TheVariants.{Sem, Task, Step}

-- its word, and the numbers after it in their order
abbrev pub said : TaskEvent → List ℕ × Numbers
said (Sem n) = (codes "sem", One n)
said Task = (codes "task", Bare)
said (Step (steps.Take s n)) = (codes "take", Two s n)
said (Step (steps.Give s n)) = (codes "give", Two s n)
said (Step steps.Yield) = (codes "yield", Bare)

-- a word, and each number in decimal after a space
abbrev pub spelling : TaskEvent → List ℕ
spelling e = (said e).0 ++ numbers_text (listed (said e).1)

-- each number fits its type
abbrev pub Fits : TaskEvent → Type 0
Fits e = AreFit (listed (said e).1)
