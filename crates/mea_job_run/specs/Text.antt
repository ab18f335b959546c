-- the text of the replies
use Rattle.std.specs.Prelude.{ℕ, ◌++◌, List, [], Option, Some, None, Result, Ok, Err, codes}
use Rattle.mea_base.specs.declared.poll.Poll.{Poll}
use Rattle.mea_base.specs.declared.poll.Poll.TheVariants.{Ready, Pending}
use Rattle.mea_text.specs.Text.{number_text, counted_line}
use Rattle.mea_job_core.specs.declared.counts.Counts.{Counts}
use Rattle.mea_job_core.specs.declared.finish_error.FinishError.{FinishError}
use Rattle.mea_job_core.specs.declared.finish_error.FinishError.TheVariants as finish
use Rattle.mea_job_core.specs.declared.start.Start.{Start}
use Rattle.mea_job_core.specs.declared.start.Start.TheVariants.{Running, Queued}
use Rattle.mea_job_core.specs.declared.submit_error.SubmitError.{SubmitError}
use Rattle.mea_job_core.specs.declared.submit_error.SubmitError.TheVariants as submit
use Rattle.mea_job_core.specs.declared.unknown_job.UnknownJob.{UnknownJob}
use Rattle.mea_job_core.specs.Calls.{Answer, Submits, Finishes, Recalls, Hands, Stops, Polls, Wakes, Counts_are}

-- a word with its number, where there is one
abbrev pub said : List ℕ → Option ℕ → List ℕ
said word None = []
said word (Some n) = word ++ number_text n

-- how a job starts, or why it is refused; where there is no memory the script ends, and nothing is replied
abbrev pub submit_text : Result Start SubmitError → List ℕ
submit_text (Ok Running) = codes "running\n"
submit_text (Ok Queued) = codes "queued\n"
submit_text (Err submit.Stopped) = codes "stopped\n"
submit_text (Err submit.Full) = codes "full\n"
submit_text (Err submit.NoMemory) = []

-- who started, and who was woken
abbrev pub done_text : Option ℕ → Option ℕ → List ℕ
done_text started woken = codes "done" ++ said (codes " start") started ++ said (codes " wake") woken ++ codes "\n"

-- who started and who was woken, or why the job is not finished
abbrev pub finish_text : Result (Option ℕ) FinishError → Option ℕ → List ℕ
finish_text (Ok started) woken = done_text started woken
finish_text (Err finish.Full) woken = codes "full\n"
finish_text (Err finish.Unknown) woken = codes "unknown\n"

-- the value of the job, or that it is unknown
abbrev pub recall_text : Result ℕ UnknownJob → List ℕ
recall_text (Ok value) = counted_line (codes "value") value
recall_text (Err _) = codes "unknown\n"

-- a job with its result or its value
abbrev pub hand_text : Option (ℕ × ℕ) → List ℕ
hand_text None = codes "none\n"
hand_text (Some job) = codes "job" ++ number_text job.0 ++ number_text job.1 ++ codes "\n"

-- whether the end has come
abbrev pub poll_text : Poll (Unit {0}) → List ℕ
poll_text (Ready _) = codes "ready\n"
poll_text Pending = codes "pending\n"

-- the five counts
abbrev pub counts_text : Counts → List ℕ
counts_text counts =
    codes "count" ++ number_text counts.accepted ++ number_text counts.running ++ number_text counts.queued ++ number_text counts.finished ++ number_text counts.returned ++ codes "\n"

-- the reply to a call that answered so, and made this waker ready
abbrev pub reply_text : Answer ℕ → Option ℕ → List ℕ
reply_text (Submits answer) woken = submit_text answer
reply_text (Finishes answer) woken = finish_text answer woken
reply_text (Recalls answer) woken = recall_text answer
reply_text (Hands answer) woken = hand_text answer
reply_text Stops woken = done_text None woken
reply_text (Polls answer) woken = poll_text answer
reply_text (Wakes answer) woken = []
reply_text (Counts_are counts) woken = counts_text counts
