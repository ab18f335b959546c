-- what a core keeps of a record that is stopped or polled, and what lists of calls keep
use Rattle.std.proofs.Common.{◌≡◌, ℕ, ◌+◌, ◌<◌, ◌≤◌, inl, inr, ◌⊎◌, ◌==◌, ◌&&◌, ◌||◌, ◌++◌, nat_lt, Bool, true, false, cond, Option, Some, None, option_to_list, if◌then◌else◌, refl, ap, sym, subst, ◌∙◌, arith}
use Rattle.std.specs.Ordering.{nat_cmp}
use Rattle.std.specs.Option.{option_map}
use Rattle.std.specs.FinMap.{empty, entries, get, len, get-empty, get-entries}
use Rattle.std.proofs.lemmas.Bool.{cases_order, lt-ltb}
use Rattle.std.proofs.lemmas.Bool.Decides.{nat_tests}
use Rattle.mea_base.specs.Totals.{weight}
use Rattle.mea_base.proofs.NamedMaps.{same_named, get-seen}
use Rattle.mea_base.proofs.Totals.{total-same, total-plus, total-alike}
use Rattle.mea_by_name.specs.ByName.{Names, seen}
use Rattle.mea_by_name.proofs.Own.{len-total, len-seen, total-seen, seen-at}
use Rattle.mea_job_core.specs.Work.{Submission, halted, next_of, running_of}
use Rattle.mea_job_core.specs.Service.{Service, is_over, told, after_stop}
use Rattle.mea_job_core.specs.Record.{State, Queued, Running, Finished, Returned, Job, Record, is_queued, is_running, is_finished, is_returned, passes, pick, submission_of, queued_in, running_in, count_in, returned, tells, stops, polls, kept_of}
use Rattle.mea_job_core.specs.Runs.{GoesFirst}
use Rattle.mea_job_core.proofs.Picks.{get-pick}
use Rattle.mea_job_core.proofs.Records.{kept_tells}
use Rattle.mea_job_core.proofs.Nexts.{found_in, soonest_first}

-- ---- each queued job is returned
pub by_state : (P : Job → Type 0) → ((k v : ℕ) → P (record { key = k; value = v; state = Queued })) → ((k v : ℕ) → P (record { key = k; value = v; state = Running }))
    → ((k v r : ℕ) → P (record { key = k; value = v; state = Finished r })) → ((k v : ℕ) → P (record { key = k; value = v; state = Returned })) → (job : Job) → P job
by_state P queued running finished over job = at job.key job.value job.state
  where
    at : (k v : ℕ) (s : State) → P (record { key = k; value = v; state = s })
    at k v Queued = queued k v
    at k v Running = running k v
    at k v (Finished r) = finished k v r
    at k v Returned = over k v

pub none_queued : (jobs : Names Job) → queued_in (seen returned jobs) ≡ empty
none_queued jobs = same_named _ _ (λ q.
    get-seen (λ k x. submission_of x) (pick is_queued (seen returned jobs)) q ∙ ap (option_map submission_of) (get-pick is_queued (seen returned jobs) q ∙ ap (λ o. cond (passes is_queued o) o None) (get-seen (λ k x. returned x) jobs q) ∙ by_value (get jobs q))
    ∙ sym (get-empty nat_cmp q))
  where
    by_value : (o : Option Job) → cond (passes is_queued (option_map returned o)) (option_map returned o) None ≡ None
    by_value None = refl
    by_value (Some job) = by_state (λ j. cond (passes is_queued (Some (returned j))) (Some (returned j)) None ≡ None) (λ k v. refl) (λ k v. refl) (λ k v r. refl) (λ k v. refl) job

pub running_same : (jobs : Names Job) → running_in (seen returned jobs) ≡ running_in jobs
running_same jobs = ap (seen (λ (j : Job). j.key)) (same_named _ _ (λ q.
    get-pick is_running (seen returned jobs) q ∙ ap (λ o. cond (passes is_running o) o None) (get-seen (λ k x. returned x) jobs q) ∙ by_value (get jobs q) ∙ sym (get-pick is_running jobs q)))
  where
    by_value : (o : Option Job) → cond (passes is_running (option_map returned o)) (option_map returned o) None ≡ cond (passes is_running o) o None
    by_value None = refl
    by_value (Some job) = by_state (λ j. cond (passes is_running (Some (returned j))) (Some (returned j)) None ≡ cond (passes is_running (Some j)) (Some j) None) (λ k v. refl) (λ k v. refl) (λ k v r. refl) (λ k v. refl) job

finished_same : (jobs : Names Job) → count_in is_finished (seen returned jobs) ≡ count_in is_finished jobs
finished_same jobs =
    total-seen returned (λ (y : Job). cond (is_finished y.state) 1 0) jobs
    ∙ total-same (λ k (x : Job). cond (is_finished (returned x).state) 1 0) (λ k (x : Job). cond (is_finished x.state) 1 0) jobs
    (λ k job is. by_state (λ j. ◌≡◌ {A = ℕ} (cond (is_finished (returned j).state) 1 0) (cond (is_finished j.state) 1 0)) (λ k v. refl) (λ k v. refl) (λ k v r. refl) (λ k v. refl) job)

pub len-pick : (p : State → Bool) (jobs : Names Job) → len (pick p jobs) ≡ count_in p jobs
len-pick p jobs = len-total (pick p jobs) ∙ total-alike (λ k (x : Job). 1) (λ k (x : Job). cond (p x.state) 1 0) (pick p jobs) jobs (λ k. ap (weight (λ k (x : Job). 1) k) (get-pick p jobs k) ∙ by_value k (get jobs k))
  where
    by_test : (k : ℕ) (job : Job) (b : Bool) → weight (λ k (x : Job). 1) k (cond b (Some job) None) ≡ cond b 1 0
    by_test k job true = refl
    by_test k job false = refl

    by_value : (k : ℕ) (o : Option Job) → weight (λ k (x : Job). 1) k (cond (passes p o) o None) ≡ weight (λ k (x : Job). cond (p x.state) 1 0) k o
    by_value k None = refl
    by_value k (Some job) = by_test k job (p job.state)

returned_more : (jobs : Names Job) → count_in is_returned (seen returned jobs) ≡ count_in is_returned jobs + len (queued_in jobs)
returned_more jobs =
    total-seen returned (λ (y : Job). cond (is_returned y.state) 1 0) jobs
    ∙ total-same (λ k (x : Job). cond (is_returned (returned x).state) 1 0) (λ k (x : Job). cond (is_returned x.state) 1 0 + cond (is_queued x.state) 1 0) jobs
    (λ k job is. by_state (λ j. ◌≡◌ {A = ℕ} (cond (is_returned (returned j).state) 1 0) (cond (is_returned j.state) 1 0 + cond (is_queued j.state) 1 0)) (λ k v. refl) (λ k v. refl) (λ k v r. refl) (λ k v. refl) job)
    ∙ total-plus (λ k (x : Job). cond (is_returned x.state) 1 0) (λ k (x : Job). cond (is_queued x.state) 1 0) jobs
    ∙ ap (λ n. count_in is_returned jobs + n) (sym (len-seen submission_of (pick is_queued jobs) ∙ len-pick is_queued jobs))

module _ {W : Type 0} where
  pub kept_stops : (r : Record W) → kept_of (stops r) ≡ after_stop (kept_of r)
  kept_stops r = by_test r.stopped
    where
      kept : Service W
      kept = kept_of r

      r1 : Record W
      r1 = record r { jobs = seen returned r.jobs; back = seen (λ (q : Submission). q.value) (queued_in r.jobs); stopped = true }

      going : kept_of (tells r1) ≡ told (record kept { work = halted kept.work; returned = kept.returned + len kept.work.queued })
      going =
          let q = none_queued r.jobs in
          let run = running_same r.jobs in
          let f = finished_same r.jobs in
          let g = returned_more r.jobs in
          kept_tells r1 ∙ (λ i. told (record kept { work = record (halted kept.work) { queued = q i; running = run i }; finished = f i; returned = g i }))

      by_test : (b : Bool) → kept_of (if b then r else tells r1) ≡ (if b then kept else told (record kept { work = halted kept.work; returned = kept.returned + len kept.work.queued }))
      by_test true = refl
      by_test false = going

  pub kept_polls : (r : Record W) (w : W) → kept_of (polls r w) ≡ (if is_over (kept_of r) then kept_of r else record (kept_of r) { waker = Some w })
  kept_polls r w = by_test (r.stopped && (len (running_in r.jobs) == 0))
    where
      by_test : (b : Bool) → kept_of (if b then r else record r { waker = Some w }) ≡ (if b then kept_of r else record (kept_of r) { waker = Some w })
      by_test true = refl
      by_test false = refl

-- ---- no queued job is lost
module _ {W : Type 0} where
  -- what a stop that is the first leaves
  pub stops_as : (r : Record W) → r.stopped ≡ false → ((stops r).back ≡ seen (λ (q : Submission). q.value) (queued_in r.jobs)) × ((stops r).jobs ≡ seen returned r.jobs)
  stops_as r going = subst (λ b. ((if b then r else tells r1).back ≡ r1.back) × ((if b then r else tells r1).jobs ≡ r1.jobs)) (sym going) (by_over (r1.stopped && (len (running_in r1.jobs) == 0)))
    where
      r1 : Record W
      r1 = record r { jobs = seen returned r.jobs; back = seen (λ (q : Submission). q.value) (queued_in r.jobs); stopped = true }

      told_one : Record W
      told_one = record r1 { waker = None; wakes = r1.wakes ++ option_to_list r1.waker }

      by_over : (b : Bool) → ((if b then told_one else r1).back ≡ r1.back) × ((if b then told_one else r1).jobs ≡ r1.jobs)
      by_over true = (refl, refl)
      by_over false = (refl, refl)

  pub stops_back : (r : Record W) → r.stopped ≡ false → (n : ℕ) (q : Submission) → get (queued_in r.jobs) n ≡ Some q → get (stops r).back n ≡ Some q.value
  stops_back r going n q is = ap (λ m. get m n) (stops_as r going).0 ∙ seen-at (λ (p : Submission). p.value) (queued_in r.jobs) n q is

  pub stops_none : (r : Record W) → r.stopped ≡ false → queued_in (stops r).jobs ≡ empty
  stops_none r going = ap queued_in (stops_as r going).1 ∙ none_queued r.jobs

-- ---- who starts
goes_first : (u n v m : ℕ) → (nat_lt v u || ((v == u) && nat_lt m n)) ≡ false → (u < v) ⊎ ((u ≡ v) × (n ≤ m))
goes_first u n v m not = by_order (cases_order u v)
  where
    by_order : (u ≡ v) ⊎ ((u < v) ⊎ (v < u)) → (u < v) ⊎ ((u ≡ v) × (n ≤ m))
    by_order (inl same) = inr (same, grind (arith, nat_tests))
    by_order (inr (inl less)) = inl less
    by_order (inr (inr more)) = absurd (let yes : (nat_lt v u || ((v == u) && nat_lt m n)) ≡ true = ap (λ b. b || ((v == u) && nat_lt m n)) (lt-ltb v u more) in cc)

pub first_goes : (q : Names Submission) (running : Names ℕ) (a : ℕ × Submission) → next_of q running ≡ Some a → (j : ℕ) (x : Submission) → get q j ≡ Some x → GoesFirst running a (j, x)
first_goes q running a is j x there =
    goes_first (running_of running a.1.key) a.0 (running_of running x.key) j ((soonest_first running (entries q) a is).first (j, x) (found_in j x (entries q) (sym (get-entries q j) ∙ there)))
