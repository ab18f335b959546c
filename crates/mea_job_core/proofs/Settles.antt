-- no permit is free while a job is queued, over every list of calls
use Rattle.std.proofs.Common.{◌≡◌, ℕ, ◌+◌, ◌-◌, inl, inr, ◌⊎◌, ◌==◌, Bool, true, false, cond, List, Option, Some, None, IsSome, if◌then◌else◌, refl, ap, sym, subst, ◌∙◌, arith}
use Rattle.std.specs.Ordering.{nat_cmp}
use Rattle.std.specs.FinMap.{empty, get, insert, remove, len, get-empty, len-empty}
use Rattle.std.proofs.lemmas.Bool.{eqb-true, eqb-false}
use Rattle.mea_base.proofs.Maps.{is_there, is_absent}
use Rattle.mea_by_name.specs.ByName.{Names, seen}
use Rattle.mea_by_name.proofs.Own.{len-new, insert_same, seen-empty}
use Rattle.mea_base.proofs.NamedMaps.{same_named}
use Rattle.mea_share_core.proofs.Kept.{len-fewer}
use Rattle.mea_job_core.specs.Work.{Submission, next_of}
use Rattle.mea_job_core.specs.Record.{Queued, Running, Finished, Returned, Job, in_state, Record, is_queued, is_running, passes, submission_of, queued_in, running_in, free_of, returned, accepts, tells, starts_one, recalls_one, stops, hands, polls, put}
use Rattle.mea_job_core.specs.Runs.{Calls, Submit, SubmitRefused, Finish, FinishRefused, Recall, Take, Stop, TakeBack, PollEnd, NextWake, History, Begins, Goes, IsSettled}
use Rattle.mea_job_core.proofs.Picks.{get-pick, queued-still, running-in, running-out, running-still}
use Rattle.mea_job_core.proofs.Records.{queued_flag, running_flag, queued_there, queued_not, running_not}
use Rattle.mea_job_core.proofs.Stops.{none_queued}
use Rattle.mea_job_core.proofs.Nexts.{next_there, none_left}
use Rattle.mea_job_core.proofs.Histories.{IsAs, tells_as, polls_as, hands_as, DoesFinish, does_finish, AreBelow, below}

no_submissions : len (queued_in empty) ≡ 0
no_submissions = ap len (ap (seen submission_of) (same_named _ _ (λ q. get-pick is_queued empty q ∙ ap (λ o. cond (passes is_queued o) o None) (get-empty nat_cmp q) ∙ sym (get-empty nat_cmp q))) ∙ seen-empty submission_of) ∙ len-empty nat_cmp Submission

module _ {W : Type 0} where
  same_settled : (r r' : Record W) → r'.jobs ≡ r.jobs → r'.permits ≡ r.permits → IsSettled r → IsSettled r'
  same_settled r r' jobs permits settled = subst (λ n. (n ≡ 0) ⊎ (len (queued_in r'.jobs) ≡ 0)) (sym free) (subst (λ n. (free_of r ≡ 0) ⊎ (n ≡ 0)) (sym (ap (λ js. len (queued_in js)) jobs)) settled)
    where
      free : free_of r' ≡ free_of r
      free = ap (λ p. p - len (running_in r'.jobs)) permits ∙ ap (λ js. r.permits - len (running_in js)) jobs

  as_settled : (r r' : Record W) → IsAs r r' → IsSettled r → IsSettled r'
  as_settled r r' same settled = same_settled r r' same.jobs same.permits settled

  accepts_settled : (r : Record W) (n key value : ℕ) → get r.jobs n ≡ None → IsSettled r → IsSettled (accepts r n key value)
  accepts_settled r n key value none settled = by_test (free_of r == 0) refl
    where
      made : Bool → Job
      made b = record { key = key; value = value; state = if b then Queued else Running }

      by_test : (b : Bool) → (free_of r == 0) ≡ b → (r.permits - len (running_in (insert r.jobs n (made b))) ≡ 0) ⊎ (len (queued_in (insert r.jobs n (made b))) ≡ 0)
      by_test true full =
          let same = ap len (running-still r.jobs n (made true) (ap (passes is_running) none) refl) in
          let free = eqb-true (free_of r) 0 full in inl (omega (arith, same, free))
      by_test false some = inr (ap len (queued-still r.jobs n (made false) (ap (passes is_queued) none) refl) ∙ nobody settled)
        where
          nobody : IsSettled r → len (queued_in r.jobs) ≡ 0
          nobody (inl full) = absurd (eqb-false (free_of r) 0 some full)
          nobody (inr none) = none

  finishes_settled : (r r' : Record W) (n result : ℕ) → DoesFinish r n result r' → IsSettled r → IsSettled r'
  finishes_settled r r' n result did settled = by_started did.started did.is did.jobs
    where
      done : Job
      done = in_state did.job (Finished result)

      jobs : Names Job
      jobs = insert r.jobs n done

      queued : queued_in jobs ≡ queued_in r.jobs
      queued = queued-still r.jobs n done (ap (passes is_queued) did.there ∙ (running_not did.job.state did.runs).0) refl

      running : running_in jobs ≡ remove (running_in r.jobs) n
      running = running-out r.jobs n done refl

      fewer : len (remove (running_in r.jobs) n) + 1 ≡ len (running_in r.jobs)
      fewer = len-fewer (running_in r.jobs) n (running_flag r.jobs n ∙ ap (passes is_running) did.there ∙ did.runs)

      by_started : (o : Option (ℕ × Submission)) → o ≡ next_of (queued_in jobs) (running_in jobs) → r'.jobs ≡ (starts_one (put r n done) o).jobs → IsSettled r'
      by_started None none same = inr (ap (λ js. len (queued_in js)) same ∙ none_left (running_in jobs) (queued_in jobs) (sym none))
      by_started (Some e) some same = by_settled settled
        where
          was : (x : Job) × (get jobs e.0 ≡ Some x) × (is_queued x.state ≡ true) × (submission_of x ≡ e.1)
          was = queued_there jobs e.0 e.1 (next_there (running_in jobs) (queued_in jobs) e (sym some))

          job : Job
          job = record { key = e.1.key; value = e.1.value; state = Running }

          there : IsSome (get (queued_in jobs) e.0)
          there = is_there (get (queued_in jobs) e.0) e.1 (next_there (running_in jobs) (queued_in jobs) e (sym some))

          not_running : get (running_in jobs) e.0 ≡ None
          not_running = is_absent (get (running_in jobs) e.0) (λ runs. absurd (let no = sym runs ∙ running_flag jobs e.0 ∙ ap (passes is_running) was.1 ∙ (queued_not was.0.state was.2).0 in cc))

          as_many : len (running_in r'.jobs) ≡ len (running_in r.jobs)
          as_many = (let more = len-new (running_in jobs) e.0 e.1.key not_running in let out = ap len running in
              ap (λ js. len (running_in js)) same ∙ ap len (running-in jobs e.0 job refl) ∙ omega (arith, more, out, fewer))

          by_settled : IsSettled r → IsSettled r'
          by_settled (inl full) = inl (let permits = did.permits in omega (arith, permits, as_many, full))
          by_settled (inr none) = absurd (let one = len-fewer (queued_in jobs) e.0 there in let out = ap len queued in omega (arith, one, out, none))

  recalls_settled : (r : Record W) (n : ℕ) (o : Option Job) → get r.jobs n ≡ o → IsSettled r → IsSettled (recalls_one r n o)
  recalls_settled r n None is settled = settled
  recalls_settled r n (Some job) is settled = by_state (is_queued job.state) refl
    where
      by_state : (b : Bool) → is_queued job.state ≡ b → IsSettled (put r n (if b then in_state job Returned else job))
      by_state false not = same_settled r (put r n job) (insert_same r.jobs n job is) refl settled
      by_state true queues = by_settled settled
        where
          over : Job
          over = in_state job Returned

          running : running_in (insert r.jobs n over) ≡ running_in r.jobs
          running = running-still r.jobs n over (ap (passes is_running) is ∙ (queued_not job.state queues).0) refl

          by_settled : IsSettled r → IsSettled (put r n over)
          by_settled (inl full) = inl (let same = ap len running in omega (arith, same, full))
          by_settled (inr none) = absurd (let one = len-fewer (queued_in r.jobs) n (queued_flag r.jobs n ∙ ap (passes is_queued) is ∙ queues) in omega (arith, one, none))

  stops_settled : (r : Record W) → IsSettled r → IsSettled (stops r)
  stops_settled r settled = by_test r.stopped
    where
      r1 : Record W
      r1 = record r { jobs = seen returned r.jobs; back = seen (λ (q : Submission). q.value) (queued_in r.jobs); stopped = true }

      by_test : (b : Bool) → IsSettled (if b then r else tells r1)
      by_test true = settled
      by_test false = inr (ap (λ js. len (queued_in js)) (tells_as r1).jobs ∙ ap len (none_queued r.jobs) ∙ len-empty nat_cmp Submission)

  calls_settled : (r r' : Record W) (finished taken : List (ℕ × ℕ)) → AreBelow r → Calls r r' finished taken → IsSettled r → IsSettled r'
  calls_settled r _ _ _ low (Submit n key value later none) settled = accepts_settled r n key value (is_absent (get r.jobs n) (λ some. absurd (let small = low n some in omega (arith, small, later)))) settled
  calls_settled r _ _ _ low (SubmitRefused n later) settled = settled
  calls_settled r r' _ _ low (Finish n result runs room) settled = finishes_settled r r' n result (does_finish r n result runs room) settled
  calls_settled r _ _ _ low FinishRefused settled = settled
  calls_settled r _ _ _ low (Recall n) settled = recalls_settled r n (get r.jobs n) refl settled
  calls_settled r _ _ _ low Take settled = settled
  calls_settled r _ _ _ low Stop settled = stops_settled r settled
  calls_settled r _ _ _ low TakeBack settled = as_settled r (hands r) (hands_as r _) settled
  calls_settled r _ _ _ low (PollEnd w) settled = as_settled r (polls r w) (polls_as r w) settled
  calls_settled r _ _ _ low (NextWake wakes) settled = settled

  pub settles : (r : Record W) (finished taken : List (ℕ × ℕ)) → History r finished taken → IsSettled r
  settles _ _ _ (Begins p w c) = inr no_submissions
  settles _ _ _ (Goes r r' finished taken finished' taken' history calls) = calls_settled r r' finished' taken' (below r finished taken history) calls (settles r finished taken history)
