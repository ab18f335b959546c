-- lists of calls: what a core keeps stands for the record, and answers as it says
use Rattle.std.proofs.Common.{◌≡◌, ℕ, ◌+◌, ◌≤◌, ◌==◌, ◌++◌, ◌⊎◌, inl, inr, Bool, true, false, cond, List, [], ◌∷◌, length, Option, Some, None, is_some, Result, Ok, Err, option_to_list, if◌then◌else◌, refl, ap, sym, subst, ◌∙◌, arith, append-nil}
use Rattle.std.specs.Ordering.{nat_cmp}
use Rattle.std.specs.Option.{option_map}
use Rattle.std.specs.FinMap.{empty, get, remove, len, get-empty, len-empty}
use Rattle.mea_base.proofs.Maps.{is_absent, nothing_there}
use Rattle.mea_base.proofs.NamedMaps.{same_named, get-seen}
use Rattle.mea_base.proofs.Totals.{total-same, total-plus}
use Rattle.mea_base.specs.Totals.{total}
use Rattle.mea_by_name.specs.ByName.{Names, seen}
use Rattle.mea_by_name.proofs.Own.{len-total, len-seen, seen-empty, count-least}
use Rattle.mea_job_core.specs.declared.finish_error.FinishError.{FinishError}
use Rattle.mea_job_core.specs.declared.finish_error.FinishError.TheVariants as finish
use Rattle.mea_job_core.specs.declared.submit_error.SubmitError.{SubmitError}
use Rattle.mea_job_core.specs.Calls as call
use Rattle.mea_job_core.specs.Calls.{Call, Answer, number_given, IsNewFor, next_after, AreNewFrom, submits, submits_on, next_in, refusal_in, finish_answer_in, recall_answer_in, counts_in, called, answer_in, all_called, called_on, answer_of, all_called_on, IsNewIn, AddsAtMostOne}
use Rattle.mea_job_core.specs.Record.{State, Job, Finished, Record, is_queued, is_running, is_finished, is_returned, passes, pick, submission_of, queued_in, running_in, count_in, in_state, new_record, put, tells, starts, finishes_as, finishes, kept_of}
use Rattle.mea_job_core.specs.Runs.{Calls, Submit, SubmitRefused, Finish, FinishRefused, Recall, Take, Stop, TakeBack, PollEnd, NextWake, History}
use Rattle.mea_job_core.specs.Service.{Service, new_service, told, is_over, is_full, with_result, after_finish, after_stop, value_of, refusal_of}
use Rattle.mea_job_core.specs.Work.{ended, halted, next_of, number_in}
use Rattle.mea_job_core.proofs.Picks.{get-pick, queued-still, running-out}
use Rattle.mea_job_core.proofs.Records.{kept_accepts, kept_finishes, kept_recalls, kept_takes, kept_hands, running_flag, running_not}
use Rattle.mea_job_core.proofs.Stops.{by_state, len-pick, kept_stops, kept_polls}
use Rattle.mea_job_core.proofs.Histories.{hands_as, polls_as, recalls_results, stops_results, does_finish, AreBelow, calls_below}

-- ---- nothing was called
none_picked : (p : State → Bool) → pick p empty ≡ empty
none_picked p = same_named _ _ (λ q. get-pick p empty q ∙ ap (λ o. cond (passes p o) o None) (get-empty nat_cmp q) ∙ sym (get-empty nat_cmp q))

none_counted : (p : State → Bool) → count_in p empty ≡ 0
none_counted p = omega (arith, count-least (λ (job : Job). p job.state) empty, len-empty nat_cmp Job)

-- ---- each job is in one state
all_counted : (jobs : Names Job) → len jobs ≡ len (running_in jobs) + len (queued_in jobs) + count_in is_finished jobs + count_in is_returned jobs
all_counted jobs =
    len-total jobs
    ∙ total-same (λ k x. 1) (λ k x. running k x + queued k x + finished k x + returned k x) jobs
    (λ k x is. by_state (λ j. 1 ≡ running k j + queued k j + finished k j + returned k j) (λ a b. refl) (λ a b. refl) (λ a b r. refl) (λ a b. refl) x)
    ∙ total-plus (λ k x. running k x + queued k x + finished k x) returned jobs
    ∙ ap (λ n. n + total returned jobs) (total-plus (λ k x. running k x + queued k x) finished jobs ∙ ap (λ n. n + total finished jobs) (total-plus running queued jobs))
    ∙ (λ i. run i + queue i + total finished jobs + total returned jobs)
  where
    running : ℕ → Job → ℕ
    running k x = cond (is_running x.state) 1 0

    queued : ℕ → Job → ℕ
    queued k x = cond (is_queued x.state) 1 0

    finished : ℕ → Job → ℕ
    finished k x = cond (is_finished x.state) 1 0

    returned : ℕ → Job → ℕ
    returned k x = cond (is_returned x.state) 1 0

    run : total running jobs ≡ len (running_in jobs)
    run = sym (len-seen (λ (j : Job). j.key) (pick is_running jobs) ∙ len-pick is_running jobs)

    queue : total queued jobs ≡ len (queued_in jobs)
    queue = sym (len-seen submission_of (pick is_queued jobs) ∙ len-pick is_queued jobs)

-- the value of a queued job
value_in : (o : Option Job) → value_of (option_map submission_of (cond (passes is_queued o) o None)) ≡ recall_answer_in o
value_in None = refl
value_in (Some job) = by_test (is_queued job.state)
  where
    by_test : (b : Bool) → value_of (option_map submission_of (cond b (Some job) None)) ≡ (if b then Ok job.value else Err (record {}))
    by_test true = refl
    by_test false = refl

module _ {W : Type 0} where
  pub kept_new : (permits most_queued capacity : ℕ) → kept_of {W = W} (new_record permits most_queued capacity) ≡ new_service permits most_queued capacity
  kept_new permits most_queued capacity =
      let q = ap (seen submission_of) (none_picked is_queued) ∙ seen-empty submission_of in
      let run = ap (seen (λ (j : Job). j.key)) (none_picked is_running) ∙ seen-empty (λ (j : Job). j.key) in
      let f = none_counted is_finished in
      let g = none_counted is_returned in
      λ i. record (new_service permits most_queued capacity) { work = record (new_service {W = W} permits most_queued capacity).work { queued = q i; running = run i }; finished = f i; returned = g i }

  -- ---- one call
  kept_submits : (r : Record W) (n key value : ℕ) → get r.jobs n ≡ None → (o : Option SubmitError) → kept_of (submits r n key value o) ≡ submits_on (kept_of r) n key value o
  kept_submits r n key value new (Some why) = refl
  kept_submits r n key value new None = kept_accepts r n key value new

  -- what a core keeps changes as the record does
  pub same_call : (r : Record W) (c : Call W) → IsNewIn r (number_given c) → kept_of (called r c) ≡ called_on (kept_of r) c
  same_call r (call.Submit n key value) new = kept_submits r n key value new (refusal_in r)
  same_call r (call.SubmitLacking n) new = refl
  same_call r (call.Finish n result) new = kept_finishes r n result
  same_call r (call.Recall n) new = kept_recalls r n
  same_call r call.Take new = kept_takes r
  same_call r call.Stop new = kept_stops r
  same_call r call.TakeBack new = kept_hands r
  same_call r (call.PollEnd w) new = kept_polls r w
  same_call r call.NextWake new = refl
  same_call r call.Counts new = refl

  finish_same : (r : Record W) (n result : ℕ) (o : Option Job) → get r.jobs n ≡ o
      → finish_answer_in r n result o ≡ (if passes is_running o then (if length r.results == r.capacity then Err finish.Full else Ok (number_in (next_of (queued_in r.jobs) (remove (running_in r.jobs) n)))) else Err finish.Unknown)
  finish_same r n result None none = refl
  finish_same r n result (Some job) some = by_state_of (is_running job.state) refl
    where
      done : Job
      done = in_state job (Finished result)

      then_next : Option ℕ → Result (Option ℕ) FinishError
      then_next o = if length r.results == r.capacity then Err finish.Full else Ok o

      by_state_of : (b : Bool) → is_running job.state ≡ b
          → (if b then then_next (next_in (put r n done)) else Err finish.Unknown) ≡ (if b then then_next (number_in (next_of (queued_in r.jobs) (remove (running_in r.jobs) n))) else Err finish.Unknown)
      by_state_of false is = refl
      by_state_of true is =
          let q = queued-still r.jobs n done (ap (passes is_queued) some ∙ (running_not job.state is).0) refl in
          let run = running-out r.jobs n done refl in
          λ i. then_next (number_in (next_of (q i) (run i)))

  -- and answers as it says
  pub same_answer : (r : Record W) (c : Call W) → answer_in r c ≡ answer_of (kept_of r) c
  same_answer r (call.Submit n key value) = refl
  same_answer r (call.SubmitLacking n) = refl
  same_answer r (call.Finish n result) =
      ap (λ a. call.Finishes a) (finish_same r n result (get r.jobs n) refl
      ∙ ap (λ b. if b then (if length r.results == r.capacity then Err finish.Full else Ok (number_in (next_of (queued_in r.jobs) (remove (running_in r.jobs) n)))) else Err finish.Unknown) (sym (running_flag r.jobs n)))
  same_answer r (call.Recall n) =
      ap (λ a. call.Recalls a) (sym (ap value_of (get-seen (λ k x. submission_of x) (pick is_queued r.jobs) n ∙ ap (option_map submission_of) (get-pick is_queued r.jobs n)) ∙ value_in (get r.jobs n)))
  same_answer r call.Take = refl
  same_answer r call.Stop = refl
  same_answer r call.TakeBack = refl
  same_answer r (call.PollEnd w) = refl
  same_answer r call.NextWake = refl
  same_answer r call.Counts = λ i. call.Counts_are (record (counts_in r) { accepted = all_counted r.jobs i })

  -- ---- many calls
  -- a finish that is refused changes nothing
  finish_stays : (r : Record W) (n result : ℕ) (o : Option Job) → (passes is_running o ≡ false) ⊎ ((length r.results == r.capacity) ≡ true) → finishes_as r n result o ≡ r
  finish_stays r n result None why = refl
  finish_stays r n result (Some job) why = by_why why
    where
      goes : Record W
      goes = tells (starts (record (put r n (in_state job (Finished result))) { results = r.results ++ (n, result) ∷ [] }))

      full : (b : Bool) → (if b then (if true then r else goes) else r) ≡ r
      full true = refl
      full false = refl

      by_why : (is_running job.state ≡ false) ⊎ ((length r.results == r.capacity) ≡ true) → (if is_running job.state then (if length r.results == r.capacity then r else goes) else r) ≡ r
      by_why (inl not) = ap (λ b. if b then (if length r.results == r.capacity then r else goes) else r) not
      by_why (inr is) = ap (λ b. if is_running job.state then (if b then r else goes) else r) is ∙ full (is_running job.state)

  -- a call leads from a record to the next
  pub record Leads (r r' : Record W) (next : ℕ) : Type 0 where
    pub finished : List (ℕ × ℕ)
    pub taken : List (ℕ × ℕ)
    pub calls : Calls r r' finished taken
    pub next_is : r'.next ≡ next

  submit_leads : (r : Record W) (n key value : ℕ) → r.next ≤ n → (o : Option SubmitError) → refusal_of (kept_of r) ≡ o → Leads r (submits r n key value o) (n + 1)
  submit_leads r n key value new (Some why) is = record { finished = []; taken = []; calls = SubmitRefused n new; next_is = refl }
  submit_leads r n key value new None is = record { finished = []; taken = []; calls = Submit n key value new is; next_is = refl }

  finish_leads : (r : Record W) (n result : ℕ) → Leads r (finishes r n result) r.next
  finish_leads r n result = by_state_of (passes is_running (get r.jobs n)) refl
    where
      refused : (passes is_running (get r.jobs n) ≡ false) ⊎ ((length r.results == r.capacity) ≡ true) → Leads r (finishes r n result) r.next
      refused why = subst (λ (t : Record W). Leads r t r.next) (sym (finish_stays r n result (get r.jobs n) why)) (record { finished = []; taken = []; calls = FinishRefused; next_is = refl })

      by_state_of : (b : Bool) → passes is_running (get r.jobs n) ≡ b → Leads r (finishes r n result) r.next
      by_state_of false not = refused (inl not)
      by_state_of true runs = by_room (length r.results == r.capacity) refl
        where
          by_room : (b : Bool) → (length r.results == r.capacity) ≡ b → Leads r (finishes r n result) r.next
          by_room true full = refused (inr full)
          by_room false room = record { finished = (n, result) ∷ []; taken = []; calls = Finish n result runs room; next_is = (does_finish r n result runs room).next }

  pub leads : (r : Record W) (c : Call W) → IsNewFor r.next (number_given c) → Leads r (called r c) (next_after r.next (number_given c))
  leads r (call.Submit n key value) new = submit_leads r n key value new (refusal_in r) refl
  leads r (call.SubmitLacking n) new = record { finished = []; taken = []; calls = SubmitRefused n new; next_is = refl }
  leads r (call.Finish n result) new = finish_leads r n result
  leads r (call.Recall n) new = record { finished = []; taken = []; calls = Recall n; next_is = (recalls_results r n (get r.jobs n)).1 }
  leads r call.Take new = record { finished = []; taken = _; calls = Take; next_is = refl }
  leads r call.Stop new = record { finished = []; taken = []; calls = Stop; next_is = (stops_results r).1 }
  leads r call.TakeBack new = record { finished = []; taken = []; calls = TakeBack; next_is = (hands_as r _).next }
  leads r (call.PollEnd w) new = record { finished = []; taken = []; calls = PollEnd w; next_is = (polls_as r w).next }
  leads r call.NextWake new = record { finished = []; taken = []; calls = NextWake _; next_is = refl }
  leads r call.Counts new = record { finished = []; taken = []; calls = FinishRefused; next_is = refl }

  -- a number that is not below the next names no job
  pub new_in : (r : Record W) (o : Option ℕ) → AreBelow r → IsNewFor r.next o → IsNewIn r o
  new_in r None low new = tt
  new_in r (Some n) low new = is_absent (get r.jobs n) (λ some. absurd (let less = low n some in omega (arith, less, new)))

  same_calls : (cs : List (Call W)) (r : Record W) → AreBelow r → AreNewFrom r.next cs → kept_of (all_called r cs) ≡ all_called_on (kept_of r) cs
  same_calls [] r low new = refl
  same_calls (c ∷ cs) r low new =
      let led = leads r c new.0 in
      same_calls cs (called r c) (calls_below r (called r c) led.finished led.taken led.calls low) (subst (λ n. AreNewFrom n cs) (sym led.next_is) new.1)
      ∙ ap (λ s. all_called_on s cs) (same_call r c (new_in r (number_given c) low new.0))

  -- the one sentence
  pub stands : (permits most_queued capacity : ℕ) (cs : List (Call W)) → AreNewFrom 0 cs
      → kept_of (all_called (new_record permits most_queued capacity) cs) ≡ all_called_on (new_service permits most_queued capacity) cs
  stands permits most_queued capacity cs new =
      same_calls cs (new_record permits most_queued capacity) (λ k some. absurd (nothing_there Job k some)) new
      ∙ ap (λ s. all_called_on s cs) (kept_new permits most_queued capacity)

  -- a list of calls is one of those that the laws speak of
  pub record IsHistory (r : Record W) : Type 0 where
    pub finished : List (ℕ × ℕ)
    pub taken : List (ℕ × ℕ)
    pub history : History r finished taken

  -- ---- at most one waker
  none_added : (ws : List W) → AddsAtMostOne ws ws
  none_added ws = (None, sym (append-nil ws))

  told_adds : (s : Service W) → AddsAtMostOne s.wakes (told s).wakes
  told_adds s = by_test (is_over s)
    where
      by_test : (b : Bool) → AddsAtMostOne s.wakes (if b then record s { waker = None; wakes = s.wakes ++ option_to_list s.waker } else s).wakes
      by_test true = (s.waker, refl)
      by_test false = none_added s.wakes

  pub finish_adds : (s : Service W) (n result : ℕ) → AddsAtMostOne s.wakes (after_finish s n result).wakes
  finish_adds s n result = by_tests (is_some (get s.work.running n)) (is_full s)
    where
      by_tests : (b c : Bool) → AddsAtMostOne s.wakes (if b then (if c then s else with_result s n result) else s).wakes
      by_tests false c = none_added s.wakes
      by_tests true true = none_added s.wakes
      by_tests true false = told_adds (record s { work = ended s.work n; results = s.results ++ (n, result) ∷ []; finished = s.finished + 1 })

  pub stop_adds : (s : Service W) → AddsAtMostOne s.wakes (after_stop s).wakes
  stop_adds s = by_test s.work.stopped
    where
      by_test : (b : Bool) → AddsAtMostOne s.wakes (if b then s else told (record s { work = halted s.work; returned = s.returned + len s.work.queued })).wakes
      by_test true = none_added s.wakes
      by_test false = told_adds (record s { work = halted s.work; returned = s.returned + len s.work.queued })
