-- what lists of calls do to the record of a job service
use Rattle.std.specs.Prelude.{ℕ, ◌≡◌, ◌≤◌, ◌<◌, ◌⊎◌, ◌==◌, ◌++◌, true, false, List, [], ◌∷◌, Option, Some, None, length}
use Rattle.std.specs.FinMap.{get, len}
use Rattle.mea_by_name.specs.ByName.{Names}
use Rattle.mea_job_core.specs.Work.{Submission, running_of}
use Rattle.mea_job_core.specs.Service.{refusal_of, oldest}
use Rattle.mea_job_core.specs.Record.{Queued, Running, Finished, Returned, Job, Record, new_record, accepts, refuses, finishes, recalls, takes, stops, hands, polls, kept_of, is_running, passes, queued_in, free_of}

-- what may become of a job in one call: it is accepted, queued or running; it starts; it is finished; it is returned; or nothing
pub data Becomes : Option Job → Option Job → Type 0 where
  Stays : (o : Option Job) → Becomes o o
  Waits : (key value : ℕ) → Becomes None (Some (record { key = key; value = value; state = Queued }))
  Runs : (key value : ℕ) → Becomes None (Some (record { key = key; value = value; state = Running }))
  Starts : (key value : ℕ) → Becomes (Some (record { key = key; value = value; state = Queued })) (Some (record { key = key; value = value; state = Running }))
  Ends : (key value result : ℕ) → Becomes (Some (record { key = key; value = value; state = Running })) (Some (record { key = key; value = value; state = Finished result }))
  Returns : (key value : ℕ) → Becomes (Some (record { key = key; value = value; state = Queued })) (Some (record { key = key; value = value; state = Returned }))

-- the one, where there is one
abbrev pub listed : Option (ℕ × ℕ) → List (ℕ × ℕ)
listed None = []
listed (Some e) = e ∷ []

module _ {W : Type 0} where
  -- a call leads from one record to another; these results were finished and taken by it
  pub data Calls (r : Record W) : Record W → List (ℕ × ℕ) → List (ℕ × ℕ) → Type 0 where
    Submit : (n key value : ℕ) → r.next ≤ n → refusal_of (kept_of r) ≡ None → Calls r (accepts r n key value) [] []
    SubmitRefused : (n : ℕ) → r.next ≤ n → Calls r (refuses r n) [] []
    Finish : (n result : ℕ) → passes is_running (get r.jobs n) ≡ true → (length r.results == r.capacity) ≡ false → Calls r (finishes r n result) ((n, result) ∷ []) []
    FinishRefused : Calls r r [] []
    Recall : (n : ℕ) → Calls r (recalls r n) [] []
    Take : Calls r (takes r) [] (listed (oldest r.results))
    Stop : Calls r (stops r) [] []
    TakeBack : Calls r (hands r) [] []
    PollEnd : (w : W) → Calls r (polls r w) [] []
    NextWake : (wakes : List W) → Calls r (record r { wakes = wakes }) [] []

  -- a list of calls on a new service: the record that it leaves, the results in the order of the finishes, and those that were taken
  pub data History : Record W → List (ℕ × ℕ) → List (ℕ × ℕ) → Type 0 where
    Begins : (permits most_queued capacity : ℕ) → History (new_record permits most_queued capacity) [] []
    Goes : (r r' : Record W) (finished taken finished' taken' : List (ℕ × ℕ)) → History r finished taken → Calls r r' finished' taken' → History r' (finished ++ finished') (taken ++ taken')

  -- no permit is free, or no job is queued
  abbrev pub IsSettled : Record W → Type 0
  IsSettled r = (free_of r ≡ 0) ⊎ (len (queued_in r.jobs) ≡ 0)

-- the key of the first has fewer running jobs, or as many, and its number is not the greater
abbrev pub GoesFirst : Names ℕ → ℕ × Submission → ℕ × Submission → Type 0
GoesFirst running a b = (running_of running a.1.key < running_of running b.1.key) ⊎ ((running_of running a.1.key ≡ running_of running b.1.key) × (a.0 ≤ b.0))
