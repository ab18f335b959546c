-- the text at the end of the input: what has become of each task, the turns, and the account of each semaphore
use Rattle.std.specs.Prelude.{ℕ, zero, suc, ◌++◌, List, [], length, slice_get, codes}
use Rattle.mea_family.specs.declared.answer.Answer.TheVariants.{Account}
use Rattle.mea_sem_model.specs.Step.{ledger_of}
use Rattle.mea_text.specs.Text.{number_text, counted_line}
use Rattle.mea_text.specs.Reply.{reply_text}
use Rattle.mea_task_core.specs.declared.state.TaskState.{TaskState}
use Rattle.mea_task_core.specs.declared.state.TaskState.TheVariants.{Queued, Finished, Failed, Waits}
use Rattle.mea_task_core.specs.Machine.{Machine, name_of}
use Rattle.mea_task_core.specs.Settled.{state_at}

-- the texts of all numbers below this one, in their order
abbrev pub texts_below : (ℕ → List ℕ) → ℕ → List ℕ
texts_below text zero = []
texts_below text (suc n) = texts_below text n ++ text n

-- one that waits tells the place of the semaphore, and for how many permits in all
abbrev pub state_text : TaskState → List ℕ
state_text Queued = codes " queued"
state_text Finished = codes " finished"
state_text Failed = codes " failed"
state_text (Waits s n) = codes " waits" ++ number_text s ++ number_text n

-- the line of task t
abbrev pub task_text : ℕ → TaskState → List ℕ
task_text t state = codes "task" ++ number_text t ++ state_text state ++ codes "\n"

-- the line of the semaphore at a place
abbrev pub account_text : Machine → ℕ → List ℕ
account_text m s = reply_text (Account (ledger_of m.hall (name_of m s))) []

-- the lines of the tasks
abbrev pub tasks_text : Machine → List ℕ
tasks_text m = texts_below (λ t. task_text t (state_at (slice_get m.tasks t))) (length m.tasks)

-- the lines of the semaphores
abbrev pub accounts_text : Machine → List ℕ
accounts_text m = texts_below (account_text m) (length m.semaphores)

-- the whole text
unfoldable pub results : Machine → List ℕ
results m = tasks_text m ++ counted_line (codes "polls") m.polls ++ accounts_text m
