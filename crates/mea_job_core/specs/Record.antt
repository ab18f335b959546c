-- the record of a job service: all jobs that were ever accepted, each with its state
use Rattle.std.specs.Prelude.{ℕ, ◌+◌, ◌-◌, ◌==◌, ◌&&◌, ◌++◌, Bool, true, false, List, [], ◌∷◌, length, Option, Some, None, option_to_list, if◌then◌else◌}
use Rattle.std.specs.FinMap.{empty, entries, get, insert, remove, len, retain_keys}
use Rattle.mea_by_name.specs.ByName.{Names, seen, count}
use Rattle.mea_job_core.specs.Work.{Submission, first_in, next_of}
use Rattle.mea_job_core.specs.Service.{Service, younger}

-- a job is queued, runs, was finished with a result, or was returned
pub data State : Type 0 where
  Queued : State
  Running : State
  Finished : ℕ → State
  Returned : State

-- whether a job in this state is queued
abbrev pub is_queued : State → Bool
is_queued Queued = true
is_queued Running = false
is_queued (Finished _) = false
is_queued Returned = false

-- whether it runs
abbrev pub is_running : State → Bool
is_running Queued = false
is_running Running = true
is_running (Finished _) = false
is_running Returned = false

-- whether it was finished
abbrev pub is_finished : State → Bool
is_finished Queued = false
is_finished Running = false
is_finished (Finished _) = true
is_finished Returned = false

-- whether it was returned
abbrev pub is_returned : State → Bool
is_returned Queued = false
is_returned Running = false
is_returned (Finished _) = false
is_returned Returned = true

-- the key and the value that a job was submitted with, and its state
pub record Job : Type 0 where
  pub key : ℕ
  pub value : ℕ
  pub state : State

-- the job, in this state now
abbrev pub in_state : Job → State → Job
in_state job state = record job { state = state }

-- the jobs by number, and beside them what a service has
pub record Record (W : Type 0) : Type 0 where
  pub permits : ℕ
  pub most_queued : ℕ
  pub capacity : ℕ
  pub next : ℕ
  pub jobs : Names Job
  pub results : List (ℕ × ℕ)
  pub back : Names ℕ
  pub stopped : Bool
  pub waker : Option W
  pub wakes : List W

-- ---- jobs by their state
-- whether a job is there and in such a state
abbrev pub passes : (State → Bool) → Option Job → Bool
passes p None = false
passes p (Some job) = p job.state

-- those in such a state
abbrev pub pick : (State → Bool) → Names Job → Names Job
pick p jobs = retain_keys jobs (λ n. passes p (get jobs n))

-- what a job was submitted with
abbrev pub submission_of : Job → Submission
submission_of job = record { key = job.key; value = job.value }

-- the jobs that are queued, as they were submitted
abbrev pub queued_in : Names Job → Names Submission
queued_in jobs = seen submission_of (pick is_queued jobs)

-- the keys of the jobs that run
abbrev pub running_in : Names Job → Names ℕ
running_in jobs = seen (λ (job : Job). job.key) (pick is_running jobs)

-- how many jobs are in such a state
abbrev pub count_in : (State → Bool) → Names Job → ℕ
count_in p jobs = count (λ (job : Job). p job.state) jobs

-- a queued job is returned, and every other stays
abbrev pub returned : Job → Job
returned job = if is_queued job.state then in_state job Returned else job

module _ {W : Type 0} where
  -- a service of so many permits, places in its queue and places for results, to which nothing was submitted
  abbrev pub new_record : ℕ → ℕ → ℕ → Record W
  new_record permits most_queued capacity = record { permits = permits; most_queued = most_queued; capacity = capacity; next = 0; jobs = empty; results = []; back = empty; stopped = false; waker = None; wakes = [] }

  -- how many permits are free
  abbrev pub free_of : Record W → ℕ
  free_of r = r.permits - len (running_in r.jobs)

  -- the job of this number is this now
  abbrev pub put : Record W → ℕ → Job → Record W
  put r n job = record r { jobs = insert r.jobs n job }

  -- a job is accepted: it runs where a permit is free, and else it is queued
  abbrev pub accepts : Record W → ℕ → ℕ → ℕ → Record W
  accepts r n key value = record (put r n (record { key = key; value = value; state = if free_of r == 0 then Queued else Running })) { next = n + 1 }

  -- a number was given to a job that was not accepted
  abbrev pub refuses : Record W → ℕ → Record W
  refuses r n = record r { next = n + 1 }

  -- where the service was stopped and no job runs, the waker is made ready
  abbrev pub tells : Record W → Record W
  tells r = if r.stopped && (len (running_in r.jobs) == 0) then record r { waker = None; wakes = r.wakes ++ option_to_list r.waker } else r

  -- the queued job starts whose key has the fewest running jobs, and among these the one with the least number
  abbrev pub starts_one : Record W → Option (ℕ × Submission) → Record W
  starts_one r None = r
  starts_one r (Some job) = put r job.0 (record { key = job.1.key; value = job.1.value; state = Running })

  -- the next job starts, if one is queued
  abbrev pub starts : Record W → Record W
  starts r = starts_one r (next_of (queued_in r.jobs) (running_in r.jobs))

  -- a running job is finished with a result
  abbrev pub finishes_as : Record W → ℕ → ℕ → Option Job → Record W
  finishes_as r n result None = r
  finishes_as r n result (Some job) =
      if is_running job.state then
      (if length r.results == r.capacity then r else tells (starts (record (put r n (in_state job (Finished result))) { results = r.results ++ (n, result) ∷ [] })))
      else r

  -- the same of the job of this number, if there is one
  abbrev pub finishes : Record W → ℕ → ℕ → Record W
  finishes r n result = finishes_as r n result (get r.jobs n)

  -- a queued job is returned
  abbrev pub recalls_one : Record W → ℕ → Option Job → Record W
  recalls_one r n None = r
  recalls_one r n (Some job) = put r n (returned job)

  -- the same of the job of this number, if there is one
  abbrev pub recalls : Record W → ℕ → Record W
  recalls r n = recalls_one r n (get r.jobs n)

  -- the oldest result is taken
  abbrev pub takes : Record W → Record W
  takes r = record r { results = younger r.results }

  -- each queued job is returned, and is to be handed back
  abbrev pub stops : Record W → Record W
  stops r = if r.stopped then r else tells (record r { jobs = seen returned r.jobs; back = seen (λ (q : Submission). q.value) (queued_in r.jobs); stopped = true })

  -- the first job to hand back is handed out
  abbrev pub hands_one : Record W → Option (ℕ × ℕ) → Record W
  hands_one r None = r
  hands_one r (Some job) = record r { back = remove r.back job.0 }

  -- the job with the least number, if there is one to hand back
  abbrev pub hands : Record W → Record W
  hands r = hands_one r (first_in (entries r.back))

  -- the waker is kept where the end has not come
  abbrev pub polls : Record W → W → Record W
  polls r w = if r.stopped && (len (running_in r.jobs) == 0) then r else record r { waker = Some w }

  -- ---- what a core keeps of a record: the jobs that are queued and that run, and how many were finished and returned
  -- what a core keeps of this record
  abbrev pub kept_of : Record W → Service W
  kept_of r = record {
    work = record { permits = r.permits; queued = queued_in r.jobs; running = running_in r.jobs; back = r.back; stopped = r.stopped };
    most_queued = r.most_queued;
    capacity = r.capacity;
    next = r.next;
    results = r.results;
    finished = count_in is_finished r.jobs;
    returned = count_in is_returned r.jobs;
    waker = r.waker;
    wakes = r.wakes;
  }
