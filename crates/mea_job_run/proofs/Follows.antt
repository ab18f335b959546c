-- what a core keeps follows the record, line by line
use Rattle.std.proofs.Common.{◌≡◌, ℕ, ◌+◌, ◌≤◌, List, [], Option, Some, None, refl, ap, sym, subst, ◌∙◌, arith}
use Rattle.mea_family.specs.declared.stop.Stop.{Stop}
use Rattle.mea_script.specs.Runs.{IsCause}
use Rattle.mea_script.specs.Told.{told_by}
use Rattle.mea_script.proofs.Events.{AreAlike, same_told, of_script}
use Rattle.mea_job_core.specs.Calls.{number_given, IsNewFor, IsNewIn, next_after, called}
use Rattle.mea_job_core.specs.Record.{Record, new_record, kept_of}
use Rattle.mea_job_core.specs.Runs.{Begins, Goes, NextWake}
use Rattle.mea_job_core.specs.Service.{Service, new_service, first_waker}
use Rattle.mea_job_core.proofs.Calls.{IsHistory, leads, new_in, same_call, same_answer, kept_new}
use Rattle.mea_job_core.proofs.Histories.{below, becomes, in_order}
use Rattle.mea_job_core.proofs.Settles.{settles}
use Rattle.mea_job_run.specs.declared.event.JobEvent.{JobEvent}
use Rattle.mea_job_run.specs.declared.event.JobEvent.TheVariants.{Job, Finish, Recall, Take, Back, Poll, Count}
use Rattle.mea_job_run.specs.declared.event.JobEvent.TheVariants as event
use Rattle.mea_job_run.specs.Machine.{call_of, after_call, job_rules, core_rules, jobs_told}
use Rattle.mea_job_run.specs.Runs.{IsOrderly, AreOrderly}
use Rattle.mea_job_run.specs.Text.{reply_text}

-- ---- the record of a script before line n
-- calls were made on it, and no number was given that is not below n
record Keeps (r : Record ℕ) (n : ℕ) : Type 0 where
  was : IsHistory r
  next : r.next ≤ n

new_for : (n : ℕ) (e : JobEvent) (next : ℕ) → next ≤ n → IsNewFor next (number_given (call_of n e))
new_for n (Job key value) next low = low
new_for n (Finish job result) next low = tt
new_for n (Recall job) next low = tt
new_for n Take next low = tt
new_for n Back next low = tt
new_for n event.Stop next low = tt
new_for n (Poll waker) next low = tt
new_for n Count next low = tt

next_low : (n : ℕ) (e : JobEvent) (next : ℕ) → next ≤ n → next_after next (number_given (call_of n e)) ≤ n + 1
next_low n (Job key value) next low = omega arith
next_low n (Finish job result) next low = omega (arith, low)
next_low n (Recall job) next low = omega (arith, low)
next_low n Take next low = omega (arith, low)
next_low n Back next low = omega (arith, low)
next_low n event.Stop next low = omega (arith, low)
next_low n (Poll waker) next low = omega (arith, low)
next_low n Count next low = omega (arith, low)

keeps : (r : Record ℕ) (n : ℕ) (e : JobEvent) → Keeps r n → Keeps (after_call r (call_of n e)) (n + 1)
keeps r n e kept =
    let c = call_of n e in
    let led = leads r c (new_for n e r.next kept.next) in
    let went = Goes r (called r c) kept.was.finished kept.was.taken led.finished led.taken kept.was.history led.calls in
    record {
      was = record { finished = _; taken = _; history = Goes (called r c) (after_call r c) _ _ [] [] went (NextWake []) };
      next = subst (λ m. m ≤ n + 1) (sym led.next_is) (next_low n e r.next kept.next);
    }

orderly : (r : Record ℕ) (n : ℕ) (e : JobEvent) → Keeps r n → IsOrderly r (after_call r (call_of n e))
orderly r n e kept =
    let led = leads r (call_of n e) (new_for n e r.next kept.next) in
    let after = (keeps r n e kept).was in
    record {
      forward = becomes r (called r (call_of n e)) led.finished led.taken (below r kept.was.finished kept.was.taken kept.was.history) led.calls;
      finished = after.finished;
      taken = after.taken;
      history = after.history;
      in_order = in_order _ after.finished after.taken after.history;
      settled = settles _ after.finished after.taken after.history;
    }

begins : (permits most_queued results : ℕ) → Keeps (new_record permits most_queued results) 0
begins permits most_queued results = record { was = record { finished = []; taken = []; history = Begins permits most_queued results }; next = omega arith }

pub are_orderly : (permits most_queued results : ℕ) (script : List ℕ) → AreOrderly permits most_queued results script
unfolding job_rules
are_orderly permits most_queued results script = of_script (λ r n (e : JobEvent) r'. IsOrderly r r') job_rules Keeps orderly keeps (new_record permits most_queued results) (begins permits most_queued results) script

-- ---- the two tell the same
alike : AreAlike job_rules core_rules kept_of Keeps
unfolding job_rules core_rules
alike = record {
  event = λ r line. refl;
  cause = λ r e. refl;
  reply = λ r n e kept i. reply_text (same_answer r (call_of n e) i) (first_waker (same_call r (call_of n e) (is_new r n e kept) i).wakes);
  next = λ r n e kept. ap (λ (s : Service ℕ). record s { wakes = [] }) (same_call r (call_of n e) (is_new r n e kept));
  last = λ r n. refl;
  keeps = keeps;
}
  where
    is_new : (r : Record ℕ) (n : ℕ) (e : JobEvent) → Keeps r n → IsNewIn r (number_given (call_of n e))
    is_new r n e kept = new_in r (number_given (call_of n e)) (below r kept.was.finished kept.was.taken kept.was.history) (new_for n e r.next kept.next)

pub told_same : (permits most_queued results : ℕ) (s : Service ℕ) → s ≡ new_service permits most_queued results → (script : List ℕ) → told_by core_rules s script ≡ jobs_told permits most_queued results script
told_same permits most_queued results s fresh script =
    sym (same_told job_rules core_rules kept_of Keeps alike (new_record permits most_queued results) (begins permits most_queued results) script ∙ ap (λ t. told_by core_rules t script) (kept_new permits most_queued results ∙ sym fresh))

-- no event has a cause for refusal
pub no_cause : (stop : Stop) → IsCause core_rules stop → ⊥
unfolding core_rules
no_cause stop caused = absurd (let no : ◌≡◌ {A = Option Stop} None (Some stop) = caused.2 in cc)
