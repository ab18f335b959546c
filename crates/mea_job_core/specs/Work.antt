-- the jobs that are queued and those that run, and what is done with them
use Rattle.std.specs.Prelude.{ℕ, ◌-◌, ◌<◌, ◌==◌, ◌&&◌, ◌||◌, Bool, true, false, List, [], ◌∷◌, Option, Some, None, IsSome, nat_lt, if◌then◌else◌, refl}
use Rattle.std.specs.Coded.{Coded, code_by, coded×, coded_ℕ, coded_bool}
use Rattle.std.specs.FinMap.{empty, entries, get, insert, remove, len}
use Rattle.mea_by_name.specs.ByName.{Names, names_code, seen, count}
use Rattle.mea_job_core.specs.declared.start.Start.{Start}
use Rattle.mea_job_core.specs.declared.start.Start.TheVariants.{Running, Queued}

-- what a job was submitted with
pub record Submission : Type 0 where
  pub key : ℕ
  pub value : ℕ

-- what lets a `Submission` be a part of a model's value
abbrev pub submission_code : Coded Submission
submission_code = code_by (ℕ × ℕ) (coded× coded_ℕ coded_ℕ) (λ r. (r.key, r.value)) (λ p. record { key = p.0; value = p.1 }) (λ _. refl)

-- how many jobs may run at one time; by number the jobs that are queued, those that run with their keys, and those to hand
-- back with their values; whether the service was stopped
pub record Work : Type 0 where
  pub permits : ℕ
  pub queued : Names Submission
  pub running : Names ℕ
  pub back : Names ℕ
  pub stopped : Bool

-- what lets a `Work` be the value of a model
abbrev pub work_code : Coded Work
work_code =
    code_by (ℕ × (Names Submission × (Names ℕ × (Names ℕ × Bool)))) (coded× coded_ℕ (coded× (names_code submission_code) (coded× (names_code coded_ℕ) (coded× (names_code coded_ℕ) coded_bool))))
    (λ w. (w.permits, (w.queued, (w.running, (w.back, w.stopped))))) (λ p. record { permits = p.0; queued = p.1.0; running = p.1.1.0; back = p.1.1.1.0; stopped = p.1.1.1.1 }) (λ _. refl)

-- ---- who starts
-- how many jobs of a key run
abbrev pub running_of : Names ℕ → ℕ → ℕ
running_of running k = count (λ j. j == k) running

-- the first job starts before the second: its key has fewer running jobs, or as many, and its number is less
abbrev pub starts_before : Names ℕ → ℕ × Submission → ℕ × Submission → Bool
starts_before running a b =
    nat_lt (running_of running a.1.key) (running_of running b.1.key)
    || ((running_of running a.1.key == running_of running b.1.key) && nat_lt a.0 b.0)

-- the one of two jobs that starts before the other, where the second is there
abbrev pub sooner : Names ℕ → ℕ × Submission → Option (ℕ × Submission) → Option (ℕ × Submission)
sooner running a None = Some a
sooner running a (Some b) = if starts_before running b a then Some b else Some a

-- the one of a list that starts before all others
abbrev pub soonest : Names ℕ → List (ℕ × Submission) → Option (ℕ × Submission)
soonest running [] = None
soonest running (a ∷ rest) = sooner running a (soonest running rest)

-- the queued job that starts before all others
abbrev pub next_of : Names Submission → Names ℕ → Option (ℕ × Submission)
next_of queued running = soonest running (entries queued)

-- ---- what is done
-- so many permits, and no job
abbrev pub new_work : ℕ → Work
new_work permits = record { permits = permits; queued = empty; running = empty; back = empty; stopped = false }

-- how many permits are free
abbrev pub free_of : Work → ℕ
free_of w = w.permits - len w.running

-- how a job starts that is accepted: it runs where a permit is free, and else it is queued
abbrev pub start_of : Work → Start
start_of w = if free_of w == 0 then Queued else Running

-- the jobs with one more, which was accepted
abbrev pub accepted : Work → ℕ → ℕ → ℕ → Work
accepted w n key value = if free_of w == 0 then record w { queued = insert w.queued n (record { key = key; value = value }) } else record w { running = insert w.running n key }

-- a queued job starts, if there is one
abbrev pub started : Work → Option (ℕ × Submission) → Work
started w None = w
started w (Some job) = record w { queued = remove w.queued job.0; running = insert w.running job.0 job.1.key }

-- the number of a job, if there is one
abbrev pub number_in : Option (ℕ × Submission) → Option ℕ
number_in None = None
number_in (Some job) = Some job.0

-- a running job is over
abbrev pub without : Work → ℕ → Work
without w n = record w { running = remove w.running n }

-- who starts once the job of this number is over
abbrev pub next_after : Work → ℕ → Option (ℕ × Submission)
next_after w n = next_of w.queued (remove w.running n)

-- a running job is over, and the next one has started
abbrev pub ended : Work → ℕ → Work
ended w n = started (without w n) (next_after w n)

-- a queued job is over
abbrev pub recalled : Work → ℕ → Work
recalled w n = record w { queued = remove w.queued n }

-- no more jobs are taken; those that are queued are to be handed back
abbrev pub halted : Work → Work
halted w = record w { queued = empty; back = seen (λ (r : Submission). r.value) w.queued; stopped = true }

-- the first of some, by number
abbrev pub first_in : {X : Type 0} → List (ℕ × X) → Option (ℕ × X)
first_in [] = None
first_in (e ∷ es) = Some e

-- the first job to hand back, with its value
abbrev pub first_back : Work → Option (ℕ × ℕ)
first_back w = first_in (entries w.back)

-- this job is handed back, if there is one
abbrev pub handed_of : Work → Option (ℕ × ℕ) → Work
handed_of w None = w
handed_of w (Some e) = record w { back = remove w.back e.0 }

-- the first job to hand back is handed out
abbrev pub handed : Work → Work
handed w = handed_of w (first_back w)

-- the jobs, and how many numbers were given to those that wait for a permit
pub record Kept : Type 0 where
  pub seen : Work
  pub asked : ℕ

-- what lets a `Kept` be the value of a model
abbrev pub kept_code : Coded Kept
kept_code = code_by (Work × ℕ) (coded× work_code coded_ℕ) (λ k. (k.seen, k.asked)) (λ p. record { seen = p.0; asked = p.1 }) (λ _. refl)

-- the number is above those of all jobs that are queued or run
pub record IsAbove (w : Work) (n : ℕ) : Type 0 where
  pub queued : (m : ℕ) → IsSome (get w.queued m) → m < n
  pub running : (m : ℕ) → IsSome (get w.running m) → m < n
