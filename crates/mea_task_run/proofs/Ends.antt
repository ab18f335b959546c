-- how a run of a program of tasks ends
use Rattle.std.proofs.Common.{◌≡◌, ◌⊎◌, inl, inr, List, ℕ, Option, Some, None, sym, ◌∙◌}
use Rattle.mea_family.specs.declared.stop.Stop.{Stop}
use Rattle.mea_script.specs.declared.status.Status.{Status}
use Rattle.mea_script.specs.declared.status.Status.TheVariants.{Done}
use Rattle.mea_script.specs.Runs.{IsFault, IsCause}
use Rattle.mea_script.specs.Told.{told_by}
use Rattle.mea_task_core.specs.Machine.{new_machine}
use Rattle.mea_task_run.specs.declared.machine.TaskMachine.{TaskMachine}
use Rattle.mea_task_run.specs.Machine.{program_of, steps_in, task_rules, tasks_of}
use Rattle.mea_task_run.specs.Rests.{TellsRest}
use Rattle.mea_task_run.proofs.Rests.{tasks_rest}

-- a machine of scripts at its start tells of a script what is told of it
pub told_new : (p : TaskMachine) (script : List ℕ) → p.executor ≡ new_machine → p.latest ≡ None → told_by task_rules (program_of p) script ≡ tasks_of script
told_new p script executor latest = λ j. told_by task_rules (record { machine = executor j; latest = steps_in (latest j) }) script

-- where the status is that of the end of the input, the text tells of a machine at rest
no_fault : (status : Status) → IsFault status → status ≡ Done → ⊥
no_fault status (inl is) done = absurd (cc)
no_fault status (inr (inl is)) done = absurd (cc)
no_fault status (inr (inr is)) done = absurd (cc)

pub rests_done : (status : Status) (script : List ℕ) → IsFault status ⊎ (status ≡ (tasks_of script).status) → status ≡ Done → TellsRest (tasks_of script)
rests_done status script (inl fault) done = absurd (no_fault status fault done)
rests_done status script (inr same) done = tasks_rest script (sym same ∙ done)

-- no line is refused
none_some : (stop : Stop) → ◌≡◌ {A = Option Stop} None (Some stop) → ⊥
none_some stop is = absurd (cc)

pub no_cause : (stop : Stop) → IsCause task_rules stop → ⊥
unfolding task_rules
no_cause stop found = none_some stop found.2
