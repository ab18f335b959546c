-- what a contract sees of a job service, and what its calls do
use Rattle.std.specs.Prelude.{ℕ, ◌≡◌, ◌+◌, ◌==◌, ◌&&◌, ◌++◌, Bool, true, false, List, [], ◌∷◌, length, Option, Some, None, is_some, option_to_list, Result, Ok, Err, MatchResult, if◌then◌else◌, refl}
use Rattle.std.specs.Coded.{Coded, code_by, coded×, coded_ℕ, coded_list, coded_option}
use Rattle.std.specs.FinMap.{get, len}
use Rattle.mea_base.specs.declared.poll.Poll.{Poll}
use Rattle.mea_base.specs.declared.poll.Poll.TheVariants.{Ready, Pending}
use Rattle.mea_base.specs.declared.no_memory.NoMemory.{NoMemory}
use Rattle.mea_job_core.specs.declared.counts.Counts.{Counts}
use Rattle.mea_job_core.specs.declared.finish_error.FinishError.{FinishError}
use Rattle.mea_job_core.specs.declared.finish_error.FinishError.TheVariants as finish
use Rattle.mea_job_core.specs.declared.submit_error.SubmitError.{SubmitError}
use Rattle.mea_job_core.specs.declared.submit_error.SubmitError.TheVariants as submit
use Rattle.mea_job_core.specs.declared.unknown_job.UnknownJob.{UnknownJob}
use Rattle.mea_job_core.specs.Work.{Submission, Work, work_code, new_work, free_of, accepted, number_in, next_after, ended, recalled, halted, first_back, handed}

-- the jobs that are queued, that run and that are to be handed back; how many may be queued, and how many results may wait to
-- be taken; the least number that was not given; the results that were not taken, as job and result, the oldest first; how many
-- jobs were finished and how many returned; the waker of `poll_end`, and the wakers that are ready
pub record Service (W : Type 0) : Type 0 where
  pub work : Work
  pub most_queued : ℕ
  pub capacity : ℕ
  pub next : ℕ
  pub results : List (ℕ × ℕ)
  pub finished : ℕ
  pub returned : ℕ
  pub waker : Option W
  pub wakes : List W

-- what lets a `Service` be the value of a model
abbrev pub service_code : {W : Type 0} → Coded W → Coded (Service W)
service_code {W} w =
    code_by (Work × (ℕ × (ℕ × (ℕ × (List (ℕ × ℕ) × (ℕ × (ℕ × (Option W × List W))))))))
    (coded× work_code (coded× coded_ℕ (coded× coded_ℕ (coded× coded_ℕ (coded× (coded_list (coded× coded_ℕ coded_ℕ)) (coded× coded_ℕ (coded× coded_ℕ (coded× (coded_option w) (coded_list w)))))))))
    (λ s. (s.work, (s.most_queued, (s.capacity, (s.next, (s.results, (s.finished, (s.returned, (s.waker, s.wakes)))))))))
    (λ p. record { work = p.0; most_queued = p.1.0; capacity = p.1.1.0; next = p.1.1.1.0; results = p.1.1.1.1.0; finished = p.1.1.1.1.1.0; returned = p.1.1.1.1.1.1.0; waker = p.1.1.1.1.1.1.1.0; wakes = p.1.1.1.1.1.1.1.1 })
    (λ _. refl)

-- the first waker, if there is one
abbrev pub first_waker : {W : Type 0} → List W → Option W
first_waker [] = None
first_waker (w ∷ ws) = Some w

-- a job of this number is queued
abbrev pub is_queued : {W : Type 0} → Service W → ℕ → Bool
is_queued s n = is_some (get s.work.queued n)

-- a job of this number runs
abbrev pub is_running : {W : Type 0} → Service W → ℕ → Bool
is_running s n = is_some (get s.work.running n)

-- ---- submit

-- why a job is refused: the service was stopped, or no permit is free and as many jobs are queued as may be
abbrev pub refusal_of : {W : Type 0} → Service W → Option SubmitError
refusal_of s = if s.work.stopped then Some submit.Stopped else if (free_of s.work == 0) && (len s.work.queued == s.most_queued) then Some submit.Full else None

-- and else for want of memory alone
abbrev pub RefusedBy : Option SubmitError → SubmitError → Type 0
RefusedBy (Some why) e = e ≡ why
RefusedBy None e = e ≡ submit.NoMemory

-- the oldest of some results
abbrev pub oldest : List (ℕ × ℕ) → Option (ℕ × ℕ)
oldest [] = None
oldest (e ∷ rest) = Some e

-- all results but the oldest
abbrev pub younger : List (ℕ × ℕ) → List (ℕ × ℕ)
younger [] = []
younger (e ∷ rest) = rest

-- the value of a queued job
abbrev pub value_of : Option Submission → Result ℕ UnknownJob
value_of None = Err (record {})
value_of (Some submission) = Ok submission.value

module _ {W : Type 0} where
  -- a service of so many permits, places in its queue and places for results, to which nothing was submitted
  abbrev pub new_service : ℕ → ℕ → ℕ → Service W
  new_service permits most_queued capacity = record { work = new_work permits; most_queued = most_queued; capacity = capacity; next = 0; results = []; finished = 0; returned = 0; waker = None; wakes = [] }

  -- a number was given
  abbrev pub given : Service W → ℕ → Service W
  given s n = record s { next = n + 1 }

  -- a job of this number was accepted
  abbrev pub after_submit : Service W → ℕ → ℕ → ℕ → Service W
  after_submit s n key value = record (given s n) { work = accepted s.work n key value }

  -- ---- the end

  -- the service was stopped, and no job runs
  abbrev pub is_over : Service W → Bool
  is_over s = s.work.stopped && (len s.work.running == 0)

  -- where that holds now, the waker of `poll_end` is made ready
  abbrev pub told : Service W → Service W
  told s = if is_over s then record s { waker = None; wakes = s.wakes ++ option_to_list s.waker } else s

  -- one poll of the end: ready where that holds; else the waker is kept in place of the one before, where there is memory
  pub record PollsEnd (s : Service W) (w : W) (r : Result (Poll (Unit {0})) (W × NoMemory)) (s' : Service W) : Type 0 where
    pub ready : is_over s ≡ true → (r ≡ Ok (Ready tt)) × (s' ≡ s)
    pub pending : is_over s ≡ false → MatchResult r (λ poll. (poll ≡ Pending) × (s' ≡ record s { waker = Some w })) (λ e. (e.0 ≡ w) × (s' ≡ s))

  -- ---- finish

  -- as many results wait to be taken as may
  abbrev pub is_full : Service W → Bool
  is_full s = length s.results == s.capacity

  -- unknown where it does not run, else full where as many results wait as may; and else who starts
  abbrev pub finish_answer : Service W → ℕ → Result (Option ℕ) FinishError
  finish_answer s n = if is_running s n then (if is_full s then Err finish.Full else Ok (number_in (next_after s.work n))) else Err finish.Unknown

  -- the job has its result, and the next starts
  abbrev pub with_result : Service W → ℕ → ℕ → Service W
  with_result s n result = told (record s { work = ended s.work n; results = s.results ++ (n, result) ∷ []; finished = s.finished + 1 })

  -- what a finish leaves: nothing changes where the job does not run or the results are full
  abbrev pub after_finish : Service W → ℕ → ℕ → Service W
  after_finish s n result = if is_running s n then (if is_full s then s else with_result s n result) else s

  -- ---- recall

  -- the value of the job where it is queued, and else that it is unknown
  abbrev pub recall_answer : Service W → ℕ → Result ℕ UnknownJob
  recall_answer s n = value_of (get s.work.queued n)

  -- it is returned
  abbrev pub after_recall : Service W → ℕ → Service W
  after_recall s n = if is_queued s n then record s { work = recalled s.work n; returned = s.returned + 1 } else s

  -- ---- take

  -- the oldest result that was not taken
  abbrev pub take_answer : Service W → Option (ℕ × ℕ)
  take_answer s = oldest s.results

  -- that result is taken
  abbrev pub after_take : Service W → Service W
  after_take s = record s { results = younger s.results }

  -- ---- stop

  -- each queued job is returned; a further stop changes nothing
  abbrev pub after_stop : Service W → Service W
  after_stop s = if s.work.stopped then s else told (record s { work = halted s.work; returned = s.returned + len s.work.queued })

  -- the first of the jobs that were returned so, by number
  abbrev pub back_answer : Service W → Option (ℕ × ℕ)
  back_answer s = first_back s.work

  -- that job is handed back
  abbrev pub after_back : Service W → Service W
  after_back s = record s { work = handed s.work }

  -- ---- counts

  -- the counts of a service: a job that was accepted is queued, runs, was finished or was returned
  abbrev pub counts_of : Service W → Counts
  counts_of s = record {
    accepted = len s.work.running + len s.work.queued + s.finished + s.returned;
    running = len s.work.running;
    queued = len s.work.queued;
    finished = s.finished;
    returned = s.returned;
  }
