-- what a core keeps of a record, as the record changes
use Rattle.std.proofs.Common.{◌≡◌, ℕ, ◌+◌, ◌==◌, ◌&&◌, ◌++◌, Bool, true, false, cond, [], ◌∷◌, length, Option, Some, None, is_some, option_to_list, if◌then◌else◌, refl, ap, sym, ◌∙◌, arith}
use Rattle.std.specs.FinMap.{entries, get, insert, len}
use Rattle.mea_base.proofs.NamedMaps.{get-seen, is_some-map}
use Rattle.mea_by_name.specs.ByName.{Names}
use Rattle.mea_base.specs.Totals.{weight}
use Rattle.mea_base.proofs.Maps.{inside}
use Rattle.mea_by_name.proofs.Own.{count-new, count-over, count-put, seen-back, insert_same}
use Rattle.mea_job_core.proofs.Nexts.{next_there}
use Rattle.mea_job_core.specs.Work.{Submission, first_in, handed_of, next_of, started, recalled}
use Rattle.mea_job_core.specs.Service.{Service, given, after_submit, told, after_finish, with_result, after_recall, after_take, after_back}
use Rattle.mea_job_core.specs.Record.{State, Queued, Running, Finished, Returned, Job, in_state, Record, is_queued, is_running, is_finished, is_returned, passes, pick, submission_of, queued_in, running_in, count_in, free_of, put, accepts, tells, starts_one, starts, finishes_as, finishes, recalls_one, recalls, takes, hands_one, hands, kept_of}
use Rattle.mea_job_core.proofs.Picks.{get-pick, queued-in, queued-out, queued-still, running-in, running-out, running-still}

-- the number of a job that is not there is in no state
no_job : (p : State → Bool) (o : Option Job) → o ≡ None → passes p o ≡ false
no_job p o none = ap (passes p) none

-- a new job adds to none of these
none_more : (p : State → Bool) (jobs : Names Job) (n : ℕ) (job : Job) → get jobs n ≡ None → p job.state ≡ false → count_in p (insert jobs n job) ≡ count_in p jobs
none_more p jobs n job none not =
    let zero : ◌≡◌ {A = ℕ} (cond (p job.state) 1 0) 0 = ap (λ b. cond b 1 0) not in
    omega (arith, zero, count-new jobs n (λ (j : Job). p j.state) job none)

module _ {W : Type 0} where
  -- ---- a job is accepted
  pub kept_accepts : (r : Record W) (n key value : ℕ) → get r.jobs n ≡ None → kept_of (accepts r n key value) ≡ after_submit (kept_of r) n key value
  kept_accepts r n key value none = by_test (free_of r == 0)
    where
      made : Bool → Job
      made b = record { key = key; value = value; state = if b then Queued else Running }

      by_test : (b : Bool) → kept_of (record (put r n (made b)) { next = n + 1 })
          ≡ record (given (kept_of r) n) { work = if b then record (kept_of r).work { queued = insert (queued_in r.jobs) n (record { key = key; value = value }) } else record (kept_of r).work { running = insert (running_in r.jobs) n key } }
      by_test true =
          let q = queued-in r.jobs n (made true) refl in
          let run = running-still r.jobs n (made true) (no_job is_running (get r.jobs n) none) refl in
          let f = none_more is_finished r.jobs n (made true) none refl in
          let g = none_more is_returned r.jobs n (made true) none refl in
          λ i. record (given (kept_of r) n) { work = record (kept_of r).work { queued = q i; running = run i }; finished = f i; returned = g i }
      by_test false =
          let q = queued-still r.jobs n (made false) (no_job is_queued (get r.jobs n) none) refl in
          let run = running-in r.jobs n (made false) refl in
          let f = none_more is_finished r.jobs n (made false) none refl in
          let g = none_more is_returned r.jobs n (made false) none refl in
          λ i. record (given (kept_of r) n) { work = record (kept_of r).work { queued = q i; running = run i }; finished = f i; returned = g i }

  -- ---- the end is told
  pub kept_tells : (r : Record W) → kept_of (tells r) ≡ told (kept_of r)
  kept_tells r = by_test (r.stopped && (len (running_in r.jobs) == 0))
    where
      by_test : (b : Bool) → kept_of (if b then record r { waker = None; wakes = r.wakes ++ option_to_list r.waker } else r)
          ≡ (if b then record (kept_of r) { waker = None; wakes = r.wakes ++ option_to_list r.waker } else kept_of r)
      by_test true = refl
      by_test false = refl

  -- ---- results are taken, jobs are handed back
  pub kept_takes : (r : Record W) → kept_of (takes r) ≡ after_take (kept_of r)
  kept_takes r = refl

  pub kept_hands : (r : Record W) → kept_of (hands r) ≡ after_back (kept_of r)
  kept_hands r = by_first (first_in (entries r.back))
    where
      by_first : (o : Option (ℕ × ℕ)) → kept_of (hands_one r o) ≡ record (kept_of r) { work = handed_of (kept_of r).work o }
      by_first None = refl
      by_first (Some e) = refl

-- ---- whether a job is queued or runs
pub queued_not : (s : State) → is_queued s ≡ true → (is_running s ≡ false) × (is_finished s ≡ false) × (is_returned s ≡ false)
queued_not Queued is = (refl, refl, refl)
queued_not Running is = absurd (cc)
queued_not (Finished _) is = absurd (cc)
queued_not Returned is = absurd (cc)

pub running_not : (s : State) → is_running s ≡ true → (is_queued s ≡ false) × (is_finished s ≡ false) × (is_returned s ≡ false)
running_not Queued is = absurd (cc)
running_not Running is = (refl, refl, refl)
running_not (Finished _) is = absurd (cc)
running_not Returned is = absurd (cc)

some_picked : (p : State → Bool) (o : Option Job) → is_some (cond (passes p o) o None) ≡ passes p o
some_picked p None = refl
some_picked p (Some job) = by_test (p job.state)
  where
    by_test : (b : Bool) → is_some (cond b (Some job) None) ≡ b
    by_test true = refl
    by_test false = refl

pub queued_flag : (jobs : Names Job) (n : ℕ) → is_some (get (queued_in jobs) n) ≡ passes is_queued (get jobs n)
queued_flag jobs n = ap is_some (get-seen (λ k x. submission_of x) (pick is_queued jobs) n) ∙ is_some-map submission_of (get (pick is_queued jobs) n) ∙ ap is_some (get-pick is_queued jobs n) ∙ some_picked is_queued (get jobs n)

pub running_flag : (jobs : Names Job) (n : ℕ) → is_some (get (running_in jobs) n) ≡ passes is_running (get jobs n)
running_flag jobs n = ap is_some (get-seen (λ k (x : Job). x.key) (pick is_running jobs) n) ∙ is_some-map (λ (x : Job). x.key) (get (pick is_running jobs) n) ∙ ap is_some (get-pick is_running jobs n) ∙ some_picked is_running (get jobs n)

-- who is queued is a job in that state
pub queued_there : (jobs : Names Job) (n : ℕ) (q : Submission) → get (queued_in jobs) n ≡ Some q → (x : Job) × (get jobs n ≡ Some x) × (is_queued x.state ≡ true) × (submission_of x ≡ q)
queued_there jobs n q is =
    let back = seen-back submission_of (pick is_queued jobs) n q is in
    by_value (get jobs n) refl (sym (get-pick is_queued jobs n) ∙ back.1) back.2
  where
    by_value : (o : Option Job) → get jobs n ≡ o → {y : Job} → cond (passes is_queued o) o None ≡ Some y → submission_of y ≡ q → (x : Job) × (get jobs n ≡ Some x) × (is_queued x.state ≡ true) × (submission_of x ≡ q)
    by_value None none got asked = absurd (cc)
    by_value (Some x) some {y} got asked = by_test (is_queued x.state) refl got
      where
        by_test : (b : Bool) → is_queued x.state ≡ b → cond b (Some x) None ≡ Some y → (x : Job) × (get jobs n ≡ Some x) × (is_queued x.state ≡ true) × (submission_of x ≡ q)
        by_test true queued here = (x, some, queued, ap submission_of (inside here) ∙ asked)
        by_test false queued here = absurd (cc)

-- a job that changes, and counts in neither state
same_count : (p : State → Bool) (jobs : Names Job) (n : ℕ) (x y : Job) → get jobs n ≡ Some y → p x.state ≡ false → p y.state ≡ false → count_in p (insert jobs n x) ≡ count_in p jobs
same_count p jobs n x y is new old = count-over jobs n (λ (j : Job). p j.state) x y is (new ∙ sym old)

more_count : (p : State → Bool) (jobs : Names Job) (n : ℕ) (x y : Job) → get jobs n ≡ Some y → p x.state ≡ true → p y.state ≡ false → count_in p (insert jobs n x) ≡ count_in p jobs + 1
more_count p jobs n x y is new old =
    let one : ◌≡◌ {A = ℕ} (cond (p x.state) 1 0) 1 = ap (λ b. cond b 1 0) new in
    let none : weight (λ k (j : Job). cond (p j.state) 1 0) n (get jobs n) ≡ 0 = ap (weight (λ k (j : Job). cond (p j.state) 1 0) n) is ∙ ap (λ b. cond b 1 0) old in
    omega (arith, one, none, count-put jobs n (λ (j : Job). p j.state) x)

module _ {W : Type 0} where
  -- ---- the next starts
  pub kept_starts : (r : Record W) → kept_of (starts r) ≡ record (kept_of r) { work = started (kept_of r).work (next_of (queued_in r.jobs) (running_in r.jobs)) }
  kept_starts r = by_next (next_of (queued_in r.jobs) (running_in r.jobs)) refl
    where
      by_next : (o : Option (ℕ × Submission)) → next_of (queued_in r.jobs) (running_in r.jobs) ≡ o → kept_of (starts_one r o) ≡ record (kept_of r) { work = started (kept_of r).work o }
      by_next None none = refl
      by_next (Some next) some =
          let was = queued_there r.jobs next.0 next.1 (next_there (running_in r.jobs) (queued_in r.jobs) next some) in
          let not = queued_not was.0.state was.2 in
          let job : Job = record { key = next.1.key; value = next.1.value; state = Running } in
          let q = queued-out r.jobs next.0 job refl in
          let run = running-in r.jobs next.0 job refl in
          let f = same_count is_finished r.jobs next.0 job was.0 was.1 refl not.1 in
          let g = same_count is_returned r.jobs next.0 job was.0 was.1 refl not.2 in
          λ i. record (kept_of r) { work = record (kept_of r).work { queued = q i; running = run i }; finished = f i; returned = g i }

  -- ---- a job is finished
  pub kept_finishes : (r : Record W) (n result : ℕ) → kept_of (finishes r n result) ≡ after_finish (kept_of r) n result
  kept_finishes r n result = by_job (get r.jobs n) refl
    where
      kept : Service W
      kept = kept_of r

      after : Bool → Bool → Service W
      after running full = cond running (cond full kept (with_result kept n result)) kept

      flag : (b : Bool) → passes is_running (get r.jobs n) ≡ b → after b (length r.results == r.capacity) ≡ after_finish kept n result
      flag b is = ap (λ c. after c (length r.results == r.capacity)) (sym (running_flag r.jobs n ∙ is))

      by_job : (o : Option Job) → get r.jobs n ≡ o → kept_of (finishes_as r n result o) ≡ after_finish kept n result
      by_job None none = flag false (ap (passes is_running) none)
      by_job (Some job) some = by_state (is_running job.state) refl
        where
          done : Job
          done = in_state job (Finished result)

          r1 : Record W
          r1 = record (put r n done) { results = r.results ++ (n, result) ∷ [] }

          by_full : (b : Bool) → is_running job.state ≡ true → (length r.results == r.capacity) ≡ b → kept_of (if b then r else tells (starts r1)) ≡ cond b kept (with_result kept n result)
          by_full true runs is = refl
          by_full false runs is =
              let not = running_not job.state runs in
              let q = queued-still r.jobs n done (ap (passes is_queued) some ∙ not.0) refl in
              let run = running-out r.jobs n done refl in
              let f = more_count is_finished r.jobs n done job some refl not.1 in
              let g = same_count is_returned r.jobs n done job some refl not.2 in
              kept_tells (starts r1) ∙ ap told (kept_starts r1)
              ∙ (λ i. told (record kept {
                work = started (record kept.work { queued = q i; running = run i }) (next_of (q i) (run i));
                results = r.results ++ (n, result) ∷ [];
                finished = f i;
                returned = g i;
              }))

          by_state : (b : Bool) → is_running job.state ≡ b → kept_of (if b then (if length r.results == r.capacity then r else tells (starts r1)) else r) ≡ after_finish kept n result
          by_state false is = flag false (ap (passes is_running) some ∙ is)
          by_state true is = by_full (length r.results == r.capacity) is refl ∙ flag true (ap (passes is_running) some ∙ is)

  -- ---- a job is returned
  pub kept_recalls : (r : Record W) (n : ℕ) → kept_of (recalls r n) ≡ after_recall (kept_of r) n
  kept_recalls r n = by_job (get r.jobs n) refl
    where
      kept : Service W
      kept = kept_of r

      after : Bool → Service W
      after b = cond b (record kept { work = recalled kept.work n; returned = kept.returned + 1 }) kept

      flag : (b : Bool) → passes is_queued (get r.jobs n) ≡ b → after b ≡ after_recall kept n
      flag b is = ap after (sym (queued_flag r.jobs n ∙ is))

      by_job : (o : Option Job) → get r.jobs n ≡ o → kept_of (recalls_one r n o) ≡ after_recall kept n
      by_job None none = flag false (ap (passes is_queued) none)
      by_job (Some job) some = by_state (is_queued job.state) refl
        where
          by_state : (b : Bool) → is_queued job.state ≡ b → kept_of (put r n (if b then in_state job Returned else job)) ≡ after_recall kept n
          by_state false is = ap (λ jobs. kept_of (record r { jobs = jobs })) (insert_same r.jobs n job some) ∙ flag false (ap (passes is_queued) some ∙ is)
          by_state true is =
              let not = queued_not job.state is in
              let over = in_state job Returned in
              let q = queued-out r.jobs n over refl in
              let run = running-still r.jobs n over (ap (passes is_running) some ∙ not.0) refl in
              let f = same_count is_finished r.jobs n over job some refl not.1 in
              let g = more_count is_returned r.jobs n over job some refl not.2 in
              (λ i. record kept { work = record kept.work { queued = q i; running = run i }; finished = f i; returned = g i }) ∙ flag true (ap (passes is_queued) some ∙ is)
