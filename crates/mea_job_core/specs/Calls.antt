-- lists of calls on a service: what they make of its record and of what a core keeps, and what they answer
use Rattle.std.specs.Prelude.{ℕ, ◌≡◌, ◌+◌, ◌≤◌, ◌==◌, ◌&&◌, ◌++◌, List, [], ◌∷◌, length, Option, Some, None, option_to_list, Result, Ok, Err, if◌then◌else◌}
use Rattle.std.specs.FinMap.{entries, get, len}
use Rattle.mea_base.specs.declared.poll.Poll.{Poll}
use Rattle.mea_base.specs.declared.poll.Poll.TheVariants.{Ready, Pending}
use Rattle.mea_job_core.specs.declared.counts.Counts.{Counts as Counted}
use Rattle.mea_job_core.specs.declared.finish_error.FinishError.{FinishError}
use Rattle.mea_job_core.specs.declared.finish_error.FinishError.TheVariants as finish
use Rattle.mea_job_core.specs.declared.start.Start.{Start}
use Rattle.mea_job_core.specs.declared.start.Start.TheVariants as start
use Rattle.mea_job_core.specs.declared.submit_error.SubmitError.{SubmitError}
use Rattle.mea_job_core.specs.declared.submit_error.SubmitError.TheVariants as submit
use Rattle.mea_job_core.specs.declared.unknown_job.UnknownJob.{UnknownJob}
use Rattle.mea_job_core.specs.Record.{Job, Record, Finished, is_queued, is_running, is_finished, is_returned, in_state, queued_in, running_in, count_in, free_of, put, accepts, refuses, finishes, recalls, takes, stops, hands, polls}
use Rattle.mea_job_core.specs.Service as kept
use Rattle.mea_job_core.specs.Service.{Service, first_waker, given, after_submit, after_finish, after_recall, after_take, after_stop, after_back, finish_answer, recall_answer, take_answer, back_answer, is_over, counts_of, oldest}
use Rattle.mea_job_core.specs.Work.{first_in, next_of, number_in, start_of}

-- a call of the service; a submit may find no memory
pub data Call (W : Type 0) : Type 0 where
  Submit : ℕ → ℕ → ℕ → Call W
  SubmitLacking : ℕ → Call W
  Finish : ℕ → ℕ → Call W
  Recall : ℕ → Call W
  Take : Call W
  Stop : Call W
  TakeBack : Call W
  PollEnd : W → Call W
  NextWake : Call W
  Counts : Call W

-- what a call answers
pub data Answer (W : Type 0) : Type 0 where
  Submits : Result Start SubmitError → Answer W
  Finishes : Result (Option ℕ) FinishError → Answer W
  Recalls : Result ℕ UnknownJob → Answer W
  Hands : Option (ℕ × ℕ) → Answer W
  Stops : Answer W
  Polls : Poll (Unit {0}) → Answer W
  Wakes : Option W → Answer W
  Counts_are : Counted → Answer W

-- ---- numbers that are given
-- the number that a call gives, if it gives one
abbrev pub number_given : {W : Type 0} → Call W → Option ℕ
number_given (Submit n key value) = Some n
number_given (SubmitLacking n) = Some n
number_given _ = None

-- a number that is given is not below the least that may be, and the next is above it
abbrev pub IsNewFor : ℕ → Option ℕ → Type 0
IsNewFor next None = Unit {0}
IsNewFor next (Some n) = next ≤ n

-- the least number that may be given after that
abbrev pub next_after : ℕ → Option ℕ → ℕ
next_after next None = next
next_after next (Some n) = n + 1

-- each call gives a number that is above those given before it, if it gives one
abbrev pub AreNewFrom : {W : Type 0} → ℕ → List (Call W) → Type 0
AreNewFrom next [] = Unit {0}
AreNewFrom next (call ∷ calls) = IsNewFor next (number_given call) × AreNewFrom (next_after next (number_given call)) calls

-- ---- answers
-- a submit is refused for a reason, or starts so
abbrev pub submitted : Option SubmitError → Start → Result Start SubmitError
submitted (Some why) started = Err why
submitted None started = Ok started

-- and where it finds no memory
abbrev pub lacking : Option SubmitError → Result Start SubmitError
lacking (Some why) = Err why
lacking None = Err submit.NoMemory

-- a recall is unknown where the job is not queued, and answers its value else
abbrev pub recall_answer_in : Option Job → Result ℕ UnknownJob
recall_answer_in None = Err (record {})
recall_answer_in (Some job) = if is_queued job.state then Ok job.value else Err (record {})

-- the wakers but for the first
abbrev pub others : {W : Type 0} → List W → List W
others [] = []
others (w ∷ ws) = ws

module _ {W : Type 0} where
  -- ---- a call on the record
  -- why a job is refused: the service was stopped, or no permit is free and as many jobs are queued as may be
  abbrev pub refusal_in : Record W → Option SubmitError
  refusal_in r = if r.stopped then Some submit.Stopped else if (free_of r == 0) && (len (queued_in r.jobs) == r.most_queued) then Some submit.Full else None

  -- how a job starts that is accepted: it runs where a permit is free, and else it is queued
  abbrev pub start_in : Record W → Start
  start_in r = if free_of r == 0 then start.Queued else start.Running

  -- a submit: its number counts as given where it is refused for a reason, and else the job is accepted
  abbrev pub submits : Record W → ℕ → ℕ → ℕ → Option SubmitError → Record W
  submits r n key value (Some why) = refuses r n
  submits r n key value None = accepts r n key value

  -- who starts once a job is finished
  abbrev pub next_in : Record W → Option ℕ
  next_in r = number_in (next_of (queued_in r.jobs) (running_in r.jobs))

  -- unknown where the job does not run, else full where as many results wait as may; and else who starts
  abbrev pub finish_answer_in : Record W → ℕ → ℕ → Option Job → Result (Option ℕ) FinishError
  finish_answer_in r n result None = Err finish.Unknown
  finish_answer_in r n result (Some job) =
      if is_running job.state then (if length r.results == r.capacity then Err finish.Full else Ok (next_in (put r n (in_state job (Finished result))))) else Err finish.Unknown

  -- the service was stopped, and no job runs
  abbrev pub is_over_in : Record W → Poll (Unit {0})
  is_over_in r = if r.stopped && (len (running_in r.jobs) == 0) then Ready tt else Pending

  -- what the counts of a service tell, read off its jobs
  abbrev pub counts_in : Record W → Counted
  counts_in r = record {
    accepted = len r.jobs;
    running = len (running_in r.jobs);
    queued = len (queued_in r.jobs);
    finished = count_in is_finished r.jobs;
    returned = count_in is_returned r.jobs;
  }

  -- the record after a call; a submit without memory is as one that was refused
  abbrev pub called : Record W → Call W → Record W
  called r (Submit n key value) = submits r n key value (refusal_in r)
  called r (SubmitLacking n) = refuses r n
  called r (Finish n result) = finishes r n result
  called r (Recall n) = recalls r n
  called r Take = takes r
  called r Stop = stops r
  called r TakeBack = hands r
  called r (PollEnd w) = polls r w
  called r NextWake = record r { wakes = others r.wakes }
  called r Counts = r

  -- what a call answers, read off the record before it
  abbrev pub answer_in : Record W → Call W → Answer W
  answer_in r (Submit n key value) = Submits (submitted (refusal_in r) (start_in r))
  answer_in r (SubmitLacking n) = Submits (lacking (refusal_in r))
  answer_in r (Finish n result) = Finishes (finish_answer_in r n result (get r.jobs n))
  answer_in r (Recall n) = Recalls (recall_answer_in (get r.jobs n))
  answer_in r Take = Hands (oldest r.results)
  answer_in r Stop = Stops
  answer_in r TakeBack = Hands (first_in (entries r.back))
  answer_in r (PollEnd w) = Polls (is_over_in r)
  answer_in r NextWake = Wakes (first_waker r.wakes)
  answer_in r Counts = Counts_are (counts_in r)

  -- no job has the number that is given, if one is
  abbrev pub IsNewIn : Record W → Option ℕ → Type 0
  IsNewIn r None = Unit {0}
  IsNewIn r (Some n) = get r.jobs n ≡ None

  -- one call after the other
  abbrev pub all_called : Record W → List (Call W) → Record W
  all_called r [] = r
  all_called r (call ∷ calls) = all_called (called r call) calls

  -- ---- a call on what a core keeps
  -- what a submit leaves, by why it is refused, if it is
  abbrev pub submits_on : Service W → ℕ → ℕ → ℕ → Option SubmitError → Service W
  submits_on s n key value (Some why) = given s n
  submits_on s n key value None = after_submit s n key value

  -- what a core keeps after a call; a poll of the end finds memory for its waker
  abbrev pub called_on : Service W → Call W → Service W
  called_on s (Submit n key value) = submits_on s n key value (kept.refusal_of s)
  called_on s (SubmitLacking n) = given s n
  called_on s (Finish n result) = after_finish s n result
  called_on s (Recall n) = after_recall s n
  called_on s Take = after_take s
  called_on s Stop = after_stop s
  called_on s TakeBack = after_back s
  called_on s (PollEnd w) = if is_over s then s else record s { waker = Some w }
  called_on s NextWake = record s { wakes = others s.wakes }
  called_on s Counts = s

  -- what a call answers, read off what a core keeps before it
  abbrev pub answer_of : Service W → Call W → Answer W
  answer_of s (Submit n key value) = Submits (submitted (kept.refusal_of s) (start_of s.work))
  answer_of s (SubmitLacking n) = Submits (lacking (kept.refusal_of s))
  answer_of s (Finish n result) = Finishes (finish_answer s n)
  answer_of s (Recall n) = Recalls (recall_answer s n)
  answer_of s Take = Hands (take_answer s)
  answer_of s Stop = Stops
  answer_of s TakeBack = Hands (back_answer s)
  answer_of s (PollEnd w) = Polls (if is_over s then Ready tt else Pending)
  answer_of s NextWake = Wakes (first_waker s.wakes)
  answer_of s Counts = Counts_are (counts_of s)

  -- one call after the other
  abbrev pub all_called_on : Service W → List (Call W) → Service W
  all_called_on s [] = s
  all_called_on s (call ∷ calls) = all_called_on (called_on s call) calls

  -- ---- jobs that are handed back
  -- the job that a call hands back, if it hands one back, with its value
  abbrev pub handed_by : Record W → Call W → List (ℕ × ℕ)
  handed_by r TakeBack = option_to_list (first_in (entries r.back))
  handed_by r _ = []

  -- in the order of the calls
  abbrev pub all_handed : Record W → List (Call W) → List (ℕ × ℕ)
  all_handed r [] = []
  all_handed r (call ∷ calls) = handed_by r call ++ all_handed (called r call) calls

  -- ---- wakers
  -- no waker is made ready, or one
  abbrev pub AddsAtMostOne : List W → List W → Type 0
  AddsAtMostOne before after = (o : Option W) × (after ≡ before ++ option_to_list o)
