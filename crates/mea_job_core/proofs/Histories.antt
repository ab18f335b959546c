-- what every list of calls keeps
use Rattle.std.proofs.Common.{◌≡◌, ℕ, ◌+◌, ◌<◌, ◌==◌, ◌&&◌, ◌++◌, Bool, true, false, List, [], ◌∷◌, length, Option, Some, None, IsSome, option_to_list, if◌then◌else◌, refl, ap, sym, subst, ◌∙◌, arith, append-nil, append_assoc}
use Rattle.std.specs.Option.{option_map}
use Rattle.std.specs.FinMap.{get, insert, len}
use Rattle.mea_base.proofs.Maps.{by_put, inside, is_there, is_absent, nothing_there}
use Rattle.mea_base.proofs.NamedMaps.{get-seen}
use Rattle.mea_by_name.specs.ByName.{seen}
use Rattle.mea_by_name.proofs.Own.{seen-some_back}
use Rattle.mea_job_core.specs.Work.{Submission, next_of}
use Rattle.mea_job_core.specs.Service.{oldest, younger}
use Rattle.mea_job_core.specs.Record.{State, Queued, Running, Finished, Returned, Job, in_state, Record, is_queued, is_running, passes, submission_of, queued_in, running_in, free_of, returned, tells, starts_one, starts, finishes_as, finishes, recalls_one, stops, hands_one, hands, polls, put}
use Rattle.mea_job_core.specs.Runs.{Becomes, Stays, Waits, Runs, Starts, Ends, Returns, listed, Calls, Submit, SubmitRefused, Finish, FinishRefused, Recall, Take, Stop, TakeBack, PollEnd, NextWake, History, Begins, Goes}
use Rattle.mea_job_core.proofs.Records.{queued_there}
use Rattle.mea_job_core.proofs.Nexts.{next_there}

-- ---- one job, one result
takes_one : (rs : List (ℕ × ℕ)) → rs ≡ listed (oldest rs) ++ younger rs
takes_one [] = refl
takes_one (e ∷ rest) = refl

pub waits_or_runs : (b : Bool) (key value : ℕ) → Becomes None (Some (record { key = key; value = value; state = if b then Queued else Running }))
waits_or_runs true key value = Waits key value
waits_or_runs false key value = Runs key value

ends : (job : Job) (result : ℕ) → is_running job.state ≡ true → Becomes (Some job) (Some (in_state job (Finished result)))
ends job result runs = at job.key job.value job.state runs
  where
    at : (k v : ℕ) (s : State) → is_running s ≡ true → Becomes (Some (record { key = k; value = v; state = s })) (Some (record { key = k; value = v; state = Finished result }))
    at k v Queued is = absurd (cc)
    at k v Running is = Ends k v result
    at k v (Finished r) is = absurd (cc)
    at k v Returned is = absurd (cc)

begins : (job : Job) (q : Submission) → is_queued job.state ≡ true → submission_of job ≡ q → Becomes (Some job) (Some (record { key = q.key; value = q.value; state = Running }))
begins job q queued same = subst (λ (p : Submission). Becomes (Some job) (Some (record { key = p.key; value = p.value; state = Running }))) same (at job.key job.value job.state queued)
  where
    at : (k v : ℕ) (s : State) → is_queued s ≡ true → Becomes (Some (record { key = k; value = v; state = s })) (Some (record { key = k; value = v; state = Running }))
    at k v Queued is = Starts k v
    at k v Running is = absurd (cc)
    at k v (Finished r) is = absurd (cc)
    at k v Returned is = absurd (cc)

goes_back : (job : Job) → Becomes (Some job) (Some (returned job))
goes_back job = at job.key job.value job.state
  where
    at : (k v : ℕ) (s : State) → Becomes (Some (record { key = k; value = v; state = s })) (Some (returned (record { key = k; value = v; state = s })))
    at k v Queued = Returns k v
    at k v Running = Stays _
    at k v (Finished r) = Stays _
    at k v Returned = Stays _

seen_back : (o : Option Job) → Becomes o (option_map returned o)
seen_back None = Stays None
seen_back (Some job) = goes_back job

module _ {W : Type 0} where
  -- ---- what leaves the jobs and the results
  -- the end is told, and nothing else
  pub record IsAs (r r' : Record W) : Type 0 where
    pub jobs : r'.jobs ≡ r.jobs
    pub results : r'.results ≡ r.results
    pub next : r'.next ≡ r.next
    pub permits : r'.permits ≡ r.permits

  pub tells_as : (r : Record W) → IsAs r (tells r)
  tells_as r = by_test (r.stopped && (len (running_in r.jobs) == 0))
    where
      by_test : (b : Bool) → IsAs r (if b then record r { waker = None; wakes = r.wakes ++ option_to_list r.waker } else r)
      by_test true = record { jobs = refl; results = refl; next = refl; permits = refl }
      by_test false = record { jobs = refl; results = refl; next = refl; permits = refl }

  pub polls_as : (r : Record W) (w : W) → IsAs r (polls r w)
  polls_as r w = by_test (r.stopped && (len (running_in r.jobs) == 0))
    where
      by_test : (b : Bool) → IsAs r (if b then r else record r { waker = Some w })
      by_test true = record { jobs = refl; results = refl; next = refl; permits = refl }
      by_test false = record { jobs = refl; results = refl; next = refl; permits = refl }

  pub hands_as : (r : Record W) (o : Option (ℕ × ℕ)) → IsAs r (hands_one r o)
  hands_as r None = record { jobs = refl; results = refl; next = refl; permits = refl }
  hands_as r (Some e) = record { jobs = refl; results = refl; next = refl; permits = refl }

  -- ---- what a finish does
  pub record DoesFinish (r : Record W) (n result : ℕ) (r' : Record W) : Type 0 where
    pub job : Job
    pub there : get r.jobs n ≡ Some job
    pub runs : is_running job.state ≡ true
    pub started : Option (ℕ × Submission)
    pub is : started ≡ next_of (queued_in (insert r.jobs n (in_state job (Finished result)))) (running_in (insert r.jobs n (in_state job (Finished result))))
    pub jobs : r'.jobs ≡ (starts_one (put r n (in_state job (Finished result))) started).jobs
    pub results : r'.results ≡ r.results ++ (n, result) ∷ []
    pub next : r'.next ≡ r.next
    pub permits : r'.permits ≡ r.permits

  pub does_finish : (r : Record W) (n result : ℕ) → passes is_running (get r.jobs n) ≡ true → (length r.results == r.capacity) ≡ false → DoesFinish r n result (finishes r n result)
  does_finish r n result runs room = by_job (get r.jobs n) refl runs
    where
      by_job : (o : Option Job) → get r.jobs n ≡ o → passes is_running o ≡ true → DoesFinish r n result (finishes_as r n result o)
      by_job None none runs = absurd (cc)
      by_job (Some job) some runs =
          subst (λ b. DoesFinish r n result (if b then (if length r.results == r.capacity then r else tells (starts r1)) else r)) (sym runs)
          (subst (λ b. DoesFinish r n result (if b then r else tells (starts r1))) (sym room) (record {
            job = job;
            there = some;
            runs = runs;
            started = next_of (queued_in r1.jobs) (running_in r1.jobs);
            is = refl;
            jobs = (tells_as (starts r1)).jobs ∙ same_jobs (next_of (queued_in r1.jobs) (running_in r1.jobs));
            results = (tells_as (starts r1)).results ∙ same_results (next_of (queued_in r1.jobs) (running_in r1.jobs));
            next = (tells_as (starts r1)).next ∙ same_next (next_of (queued_in r1.jobs) (running_in r1.jobs));
            permits = (tells_as (starts r1)).permits ∙ same_permits (next_of (queued_in r1.jobs) (running_in r1.jobs));
          }))
        where
          r1 : Record W
          r1 = record (put r n (in_state job (Finished result))) { results = r.results ++ (n, result) ∷ [] }

          same_jobs : (o : Option (ℕ × Submission)) → (starts_one r1 o).jobs ≡ (starts_one (put r n (in_state job (Finished result))) o).jobs
          same_jobs None = refl
          same_jobs (Some e) = refl

          same_results : (o : Option (ℕ × Submission)) → (starts_one r1 o).results ≡ r.results ++ (n, result) ∷ []
          same_results None = refl
          same_results (Some e) = refl

          same_permits : (o : Option (ℕ × Submission)) → (starts_one r1 o).permits ≡ r.permits
          same_permits None = refl
          same_permits (Some e) = refl

          same_next : (o : Option (ℕ × Submission)) → (starts_one r1 o).next ≡ r.next
          same_next None = refl
          same_next (Some e) = refl

  -- ---- results are taken in the order of the finishes
  pub recalls_results : (r : Record W) (n : ℕ) (o : Option Job) → ((recalls_one r n o).results ≡ r.results) × ((recalls_one r n o).next ≡ r.next)
  recalls_results r n None = (refl, refl)
  recalls_results r n (Some job) = (refl, refl)

  pub stops_results : (r : Record W) → ((stops r).results ≡ r.results) × ((stops r).next ≡ r.next)
  stops_results r = by_test r.stopped
    where
      r1 : Record W
      r1 = record r { jobs = seen returned r.jobs; back = seen (λ (q : Submission). q.value) (queued_in r.jobs); stopped = true }

      by_test : (b : Bool) → ((if b then r else tells r1).results ≡ r.results) × ((if b then r else tells r1).next ≡ r.next)
      by_test true = (refl, refl)
      by_test false = ((tells_as r1).results, (tells_as r1).next)

  moves : (r r' : Record W) (finished taken : List (ℕ × ℕ)) → Calls r r' finished taken → r.results ++ finished ≡ taken ++ r'.results
  moves r _ _ _ (Submit n key value later none) = append-nil r.results
  moves r _ _ _ (SubmitRefused n later) = append-nil r.results
  moves r _ _ _ (Finish n result runs room) = sym (does_finish r n result runs room).results
  moves r _ _ _ FinishRefused = append-nil r.results
  moves r _ _ _ (Recall n) = append-nil r.results ∙ sym (recalls_results r n (get r.jobs n)).0
  moves r _ _ _ Take = append-nil r.results ∙ takes_one r.results
  moves r _ _ _ Stop = append-nil r.results ∙ sym (stops_results r).0
  moves r _ _ _ TakeBack = append-nil r.results ∙ sym (hands_as r _).results
  moves r _ _ _ (PollEnd w) = append-nil r.results ∙ sym (polls_as r w).results
  moves r _ _ _ (NextWake wakes) = append-nil r.results

  pub in_order : (r : Record W) (finished taken : List (ℕ × ℕ)) → History r finished taken → finished ≡ taken ++ r.results
  in_order _ _ _ (Begins p w c) = refl
  in_order _ _ _ (Goes r r' finished taken finished' taken' history calls) =
      ap (λ xs. xs ++ finished') (in_order r finished taken history) ∙ append_assoc taken r.results finished' ∙ ap (λ xs. taken ++ xs) (moves r r' finished' taken' calls) ∙ sym (append_assoc taken taken' r'.results)

  -- ---- numbers
  -- each job has a number below the next
  abbrev pub AreBelow : Record W → Type 0
  AreBelow r = (k : ℕ) → IsSome (get r.jobs k) → k < r.next

  starts_below : (r : Record W) (o : Option (ℕ × Submission)) → (o ≡ next_of (queued_in r.jobs) (running_in r.jobs)) → AreBelow r → (k : ℕ) → IsSome (get (starts_one r o).jobs k) → k < r.next
  starts_below r None is below k some = below k some
  starts_below r (Some e) is below k some =
      let was = queued_there r.jobs e.0 e.1 (next_there (running_in r.jobs) (queued_in r.jobs) e (sym is)) in
      by_put r.jobs e.0 _ (λ j o. IsSome o → j < r.next) (λ _. below e.0 (is_there (get r.jobs e.0) was.0 was.1)) (λ j apart is. below j is) k some

  recalls_below : (r : Record W) (n : ℕ) (o : Option Job) → get r.jobs n ≡ o → AreBelow r → (k : ℕ) → IsSome (get (recalls_one r n o).jobs k) → k < r.next
  recalls_below r n None none below k some = below k some
  recalls_below r n (Some job) is below k some = by_put r.jobs n (returned job) (λ j o. IsSome o → j < r.next) (λ _. below n (is_there (get r.jobs n) job is)) (λ j apart is. below j is) k some

  stops_below : (r : Record W) → AreBelow r → (k : ℕ) → IsSome (get (stops r).jobs k) → k < r.next
  stops_below r below k some = by_test r.stopped some
    where
      r1 : Record W
      r1 = record r { jobs = seen returned r.jobs; back = seen (λ (q : Submission). q.value) (queued_in r.jobs); stopped = true }

      by_test : (b : Bool) → IsSome (get (if b then r else tells r1).jobs k) → k < r.next
      by_test true some = below k some
      by_test false some = below k (seen-some_back returned r.jobs k (subst (λ jobs. IsSome (get jobs k)) (tells_as r1).jobs some))

  pub calls_below : (r r' : Record W) (finished taken : List (ℕ × ℕ)) → Calls r r' finished taken → AreBelow r → AreBelow r'
  calls_below r _ _ _ (Submit n key value later none) below = λ k some.
      by_put r.jobs n _ (λ j o. IsSome o → j < n + 1) (λ _. omega arith) (λ j apart is. (let low = below j is in omega (arith, low, later))) k some
  calls_below r _ _ _ (SubmitRefused n later) below = λ k some. (let low = below k some in omega (arith, low, later))
  calls_below r _ _ _ (Finish n result runs room) below =
      let did = does_finish r n result runs room in
      λ k some. subst (λ m. k < m) (sym did.next)
      (starts_below (put r n (in_state did.job (Finished result))) did.started did.is (λ j is. by_put r.jobs n (in_state did.job (Finished result)) (λ i o. IsSome o → i < r.next) (λ _. below n (is_there (get r.jobs n) did.job did.there)) (λ i apart is. below i is) j is)
      k (subst (λ jobs. IsSome (get jobs k)) did.jobs some))
  calls_below r _ _ _ FinishRefused below = below
  calls_below r _ _ _ (Recall n) below = λ k some. subst (λ m. k < m) (sym (recalls_results r n (get r.jobs n)).1) (recalls_below r n (get r.jobs n) refl below k some)
  calls_below r _ _ _ Take below = below
  calls_below r _ _ _ Stop below = λ k some. subst (λ m. k < m) (sym (stops_results r).1) (stops_below r below k some)
  calls_below r _ _ _ TakeBack below = λ k some. (let same = hands_as r _ in subst (λ m. k < m) (sym same.next) (below k (subst (λ jobs. IsSome (get jobs k)) same.jobs some)))
  calls_below r _ _ _ (PollEnd w) below = λ k some. (let same = polls_as r w in subst (λ m. k < m) (sym same.next) (below k (subst (λ jobs. IsSome (get jobs k)) same.jobs some)))
  calls_below r _ _ _ (NextWake wakes) below = below

  pub below : (r : Record W) (finished taken : List (ℕ × ℕ)) → History r finished taken → AreBelow r
  below _ _ _ (Begins p w c) = λ k some. absurd (nothing_there Job k some)
  below _ _ _ (Goes r r' finished taken finished' taken' history calls) = calls_below r r' finished' taken' calls (below r finished taken history)

  -- ---- what becomes of a job
  same_state : (r r' : Record W) (k : ℕ) → r'.jobs ≡ r.jobs → Becomes (get r.jobs k) (get r'.jobs k)
  same_state r r' k same = subst (λ jobs. Becomes (get r.jobs k) (get jobs k)) (sym same) (Stays (get r.jobs k))

  recalls_become : (r : Record W) (n : ℕ) (o : Option Job) → get r.jobs n ≡ o → (k : ℕ) → Becomes (get r.jobs k) (get (recalls_one r n o).jobs k)
  recalls_become r n None none k = Stays (get r.jobs k)
  recalls_become r n (Some job) is k =
      by_put r.jobs n (returned job) (λ j o. Becomes (get r.jobs j) o) (subst (λ o. Becomes o (Some (returned job))) (sym is) (goes_back job)) (λ j apart. Stays (get r.jobs j)) k

  stops_become : (r : Record W) (k : ℕ) → Becomes (get r.jobs k) (get (stops r).jobs k)
  stops_become r k = by_test r.stopped
    where
      r1 : Record W
      r1 = record r { jobs = seen returned r.jobs; back = seen (λ (q : Submission). q.value) (queued_in r.jobs); stopped = true }

      by_test : (b : Bool) → Becomes (get r.jobs k) (get (if b then r else tells r1).jobs k)
      by_test true = Stays (get r.jobs k)
      by_test false = subst (λ jobs. Becomes (get r.jobs k) (get jobs k)) (sym (tells_as r1).jobs) (subst (λ o. Becomes (get r.jobs k) o) (sym (get-seen (λ i x. returned x) r.jobs k)) (seen_back (get r.jobs k)))

  finish_becomes : (r : Record W) (n result : ℕ) (job : Job) → get r.jobs n ≡ Some job → is_running job.state ≡ true → (k : ℕ) → Becomes (get r.jobs k) (get (put r n (in_state job (Finished result))).jobs k)
  finish_becomes r n result job is runs k =
      by_put r.jobs n (in_state job (Finished result)) (λ j o. Becomes (get r.jobs j) o) (subst (λ o. Becomes o (Some (in_state job (Finished result)))) (sym is) (ends job result runs)) (λ j apart. Stays (get r.jobs j)) k

  -- who starts then was queued before
  was_queued : (r : Record W) (n result : ℕ) (job : Job) (m : ℕ) (x : Job) → get (put r n (in_state job (Finished result))).jobs m ≡ Some x → is_queued x.state ≡ true → get r.jobs m ≡ Some x
  was_queued r n result job m x =
      by_put r.jobs n (in_state job (Finished result)) (λ j o. o ≡ Some x → is_queued x.state ≡ true → get r.jobs j ≡ Some x)
      (λ is queued. absurd (let same : in_state job (Finished result) ≡ x = inside is in let no : false ≡ true = ap (λ (j : Job). is_queued j.state) same ∙ queued in cc)) (λ j apart is queued. is) m

  starts_become : (r : Record W) (n result : ℕ) (job : Job) → get r.jobs n ≡ Some job → is_running job.state ≡ true → (o : Option (ℕ × Submission))
      → o ≡ next_of (queued_in (put r n (in_state job (Finished result))).jobs) (running_in (put r n (in_state job (Finished result))).jobs) → (k : ℕ)
      → Becomes (get r.jobs k) (get (starts_one (put r n (in_state job (Finished result))) o).jobs k)
  starts_become r n result job is runs None next k = finish_becomes r n result job is runs k
  starts_become r n result job is runs (Some e) next k =
      let r1 = put r n (in_state job (Finished result)) in
      let was = queued_there r1.jobs e.0 e.1 (next_there (running_in r1.jobs) (queued_in r1.jobs) e (sym next)) in
      by_put r1.jobs e.0 (record { key = e.1.key; value = e.1.value; state = Running }) (λ j o. Becomes (get r.jobs j) o)
      (subst (λ o. Becomes o (Some (record { key = e.1.key; value = e.1.value; state = Running }))) (sym (was_queued r n result job e.0 was.0 was.1 was.2)) (begins was.0 e.1 was.2 was.3))
      (λ j apart. finish_becomes r n result job is runs j) k

  pub becomes : (r r' : Record W) (finished taken : List (ℕ × ℕ)) → AreBelow r → Calls r r' finished taken → (k : ℕ) → Becomes (get r.jobs k) (get r'.jobs k)
  becomes r _ _ _ low (Submit n key value later none) k =
      by_put r.jobs n _ (λ j o. Becomes (get r.jobs j) o)
      (subst (λ o. Becomes o (Some (record { key = key; value = value; state = if free_of r == 0 then Queued else Running }))) (sym (is_absent (get r.jobs n) (λ some. absurd (let small = low n some in omega (arith, small, later)))))
      (waits_or_runs (free_of r == 0) key value)) (λ j apart. Stays (get r.jobs j)) k
  becomes r _ _ _ low (SubmitRefused n later) k = Stays (get r.jobs k)
  becomes r _ _ _ low (Finish n result runs room) k =
      let did = does_finish r n result runs room in
      subst (λ jobs. Becomes (get r.jobs k) (get jobs k)) (sym did.jobs) (starts_become r n result did.job did.there did.runs did.started did.is k)
  becomes r _ _ _ low FinishRefused k = Stays (get r.jobs k)
  becomes r _ _ _ low (Recall n) k = recalls_become r n (get r.jobs n) refl k
  becomes r _ _ _ low Take k = Stays (get r.jobs k)
  becomes r _ _ _ low Stop k = stops_become r k
  becomes r _ _ _ low TakeBack k = same_state r (hands r) k (hands_as r _).jobs
  becomes r _ _ _ low (PollEnd w) k = same_state r (polls r w) k (polls_as r w).jobs
  becomes r _ _ _ low (NextWake wakes) k = Stays (get r.jobs k)
