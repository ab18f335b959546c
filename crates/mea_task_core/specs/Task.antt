-- a task: its steps, how many of them are over, and how far it is with the next one
use Rattle.std.specs.Prelude.{ℕ, ◌+◌, Bool, true, false, List, [], Option, Some, None, refl, ◌≡◌, slice_get}
use Rattle.std.specs.Coded.{Coded, code_by, coded×, coded_ℕ, coded_bool, coded_list, coded_option}
use Rattle.mea_task_core.specs.declared.step.Step.{Step}
use Rattle.mea_task_core.specs.declared.step.Step.TheVariants.{Take, Give, Yield}
use Rattle.mea_task_core.specs.declared.phase.Phase.{Phase}
use Rattle.mea_task_core.specs.declared.phase.Phase.TheVariants.{Queued, Asks, Waits, Woken, Finished, Failed}

-- the steps of a task, how many of them are over, and how far it is with the next one
pub record TaskRecord : Type 0 where
  pub steps : List Step
  pub position : ℕ
  pub phase : Phase

-- the step that a task comes to next
abbrev pub next_step : TaskRecord → Option Step
next_step x = slice_get x.steps x.position

-- the task comes to this phase of its step
abbrev pub at_phase : TaskRecord → Phase → TaskRecord
at_phase x phase = record x { phase = phase }

-- a step is over
abbrev pub past : TaskRecord → TaskRecord
past x = record x { position = x.position + 1; phase = Queued }

-- a task that is over, with this phase: it has given its steps back
abbrev pub over : Phase → TaskRecord
over phase = record { steps = []; position = 0; phase = phase }

-- one that waits is woken
abbrev pub woken_phase : Phase → Phase
woken_phase (Waits f) = Woken f
woken_phase Queued = Queued
woken_phase (Asks f) = Asks f
woken_phase (Woken f) = Woken f
woken_phase Finished = Finished
woken_phase Failed = Failed

-- whether a task with this phase is in the run queue or runs
abbrev pub is_active : Phase → Bool
is_active Queued = true
is_active (Asks f) = true
is_active (Waits f) = false
is_active (Woken f) = true
is_active Finished = false
is_active Failed = false

-- the future of a task
abbrev pub future_in : Phase → Option ℕ
future_in Queued = None
future_in (Asks f) = Some f
future_in (Waits f) = Some f
future_in (Woken f) = Some f
future_in Finished = None
future_in Failed = None

-- ---- codes, by which a proof tells two values apart
abbrev pub step_number : Step → Option (Bool × (ℕ × ℕ))
step_number (Take s n) = Some (true, (s, n))
step_number (Give s n) = Some (false, (s, n))
step_number Yield = None

-- and back
abbrev pub step_of_number : Option (Bool × (ℕ × ℕ)) → Step
step_of_number (Some (true, p)) = Take p.0 p.1
step_of_number (Some (false, p)) = Give p.0 p.1
step_of_number None = Yield

pub step_back : (s : Step) → step_of_number (step_number s) ≡ s
step_back (Take s n) = refl
step_back (Give s n) = refl
step_back Yield = refl

-- what lets a `Step` be a part of a model's value
abbrev pub step_code : Coded Step
step_code = code_by (Option (Bool × (ℕ × ℕ))) (coded_option (coded× coded_bool (coded× coded_ℕ coded_ℕ))) step_number step_of_number step_back

-- a phase as two flags and the name of a future
abbrev pub phase_number : Phase → Bool × (Bool × Option ℕ)
phase_number Queued = (false, (false, None))
phase_number (Asks f) = (false, (false, Some f))
phase_number (Waits f) = (false, (true, Some f))
phase_number (Woken f) = (true, (false, Some f))
phase_number Finished = (false, (true, None))
phase_number Failed = (true, (false, None))

-- and back
abbrev pub phase_of_number : Bool × (Bool × Option ℕ) → Phase
phase_of_number (false, (false, None)) = Queued
phase_of_number (false, (true, None)) = Finished
phase_of_number (true, (b, None)) = Failed
phase_of_number (false, (false, Some f)) = Asks f
phase_of_number (false, (true, Some f)) = Waits f
phase_of_number (true, (b, Some f)) = Woken f

pub phase_back : (p : Phase) → phase_of_number (phase_number p) ≡ p
phase_back Queued = refl
phase_back (Asks f) = refl
phase_back (Waits f) = refl
phase_back (Woken f) = refl
phase_back Finished = refl
phase_back Failed = refl

-- what lets a `Phase` be a part of a model's value
abbrev pub phase_code : Coded Phase
phase_code = code_by (Bool × (Bool × Option ℕ)) (coded× coded_bool (coded× coded_bool (coded_option coded_ℕ))) phase_number phase_of_number phase_back

-- what lets a `TaskRecord` be a part of a model's value
abbrev pub task_code : Coded TaskRecord
task_code =
    code_by (List Step × (ℕ × Phase)) (coded× (coded_list step_code) (coded× coded_ℕ phase_code))
    (λ x. (x.steps, (x.position, x.phase))) (λ p. record { steps = p.0; position = p.1.0; phase = p.1.1 }) (λ _. refl)
