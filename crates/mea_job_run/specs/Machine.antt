-- what a service makes of the lines of a script, by its record
use Rattle.std.specs.Prelude.{ℕ, List, [], None}
use Rattle.mea_script.specs.Rules.{Rules}
use Rattle.mea_script.specs.Told.{Told, told_by}
use Rattle.mea_job_core.specs.Calls as call
use Rattle.mea_job_core.specs.Calls.{Call, called, answer_in, called_on, answer_of}
use Rattle.mea_job_core.specs.Record.{Record, new_record}
use Rattle.mea_job_core.specs.Service.{Service, first_waker}
use Rattle.mea_job_run.specs.declared.event.JobEvent.{JobEvent}
use Rattle.mea_job_run.specs.declared.event.JobEvent.TheVariants.{Job, Finish, Recall, Take, Back, Stop, Poll, Count}
use Rattle.mea_job_run.specs.Lines.{event_of}
use Rattle.mea_job_run.specs.Text.{reply_text}

-- the call that the event of this line makes
abbrev pub call_of : ℕ → JobEvent → Call ℕ
call_of n (Job key value) = call.Submit n key value
call_of n (Finish job result) = call.Finish job result
call_of n (Recall job) = call.Recall job
call_of n Take = call.Take
call_of n Back = call.TakeBack
call_of n Stop = call.Stop
call_of n (Poll waker) = call.PollEnd waker
call_of n Count = call.Counts

-- ---- by the record
-- after a call, whose waker was told
abbrev pub after_call : Record ℕ → Call ℕ → Record ℕ
after_call r c = record (called r c) { wakes = [] }

-- the reply to a call, with the waker that it made ready
abbrev pub reply_in : Record ℕ → Call ℕ → List ℕ
reply_in r c = reply_text (answer_in r c) (first_waker (called r c).wakes)

-- no event is refused, and nothing is told at the end
unfoldable pub job_rules : Rules (Record ℕ) JobEvent
job_rules = record {
  event = λ r line. event_of line;
  cause = λ r e. None;
  reply = λ r n e. reply_in r (call_of n e);
  next = λ r n e. after_call r (call_of n e);
  last = λ r n. [];
}

-- what a script is answered by a service of so many permits, queued jobs and results
abbrev pub jobs_told : ℕ → ℕ → ℕ → List ℕ → Told
jobs_told permits most_queued results script = told_by job_rules (new_record permits most_queued results) script

-- ---- the same by what a core keeps
-- what a core keeps after a call, whose waker was told
abbrev pub left_by : Service ℕ → Call ℕ → Service ℕ
left_by s c = record (called_on s c) { wakes = [] }

-- the reply to it
abbrev pub reply_of : Service ℕ → Call ℕ → List ℕ
reply_of s c = reply_text (answer_of s c) (first_waker (called_on s c).wakes)

-- no event is refused, and nothing is told at the end
unfoldable pub core_rules : Rules (Service ℕ) JobEvent
core_rules = record {
  event = λ s line. event_of line;
  cause = λ s e. None;
  reply = λ s n e. reply_of s (call_of n e);
  next = λ s n e. left_by s (call_of n e);
  last = λ s n. [];
}
