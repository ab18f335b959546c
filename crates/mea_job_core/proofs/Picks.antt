-- the jobs of one state, as a job changes its state
use Rattle.std.proofs.Common.{◌≡◌, ℕ, ◌==◌, Bool, true, false, cond, Some, None, refl, ap, sym, ◌∙◌}
use Rattle.std.specs.FinMap.{get, insert, remove, get-retain_keys, nat_cmp-IsAntisymmetric}
use Rattle.mea_base.proofs.NamedMaps.{same_named}
use Rattle.mea_base.proofs.Totals.{get_inserted, get_removed}
use Rattle.mea_by_name.specs.ByName.{Names, seen}
use Rattle.mea_by_name.proofs.Own.{seen-insert, seen-remove, gone_none}
use Rattle.mea_job_core.specs.Record.{State, Job, is_queued, is_running, passes, pick, submission_of, queued_in, running_in}

module _ (p : State → Bool) where
  pub get-pick : (jobs : Names Job) (q : ℕ) → get (pick p jobs) q ≡ cond (passes p (get jobs q)) (get jobs q) None
  get-pick jobs q = get-retain_keys jobs (λ n. passes p (get jobs n)) q (λ x tie. ap (λ j. passes p (get jobs j)) (sym (nat_cmp-IsAntisymmetric q x tie)))

  -- a job in such a state is put
  pub pick-in : (jobs : Names Job) (n : ℕ) (job : Job) → p job.state ≡ true → pick p (insert jobs n job) ≡ insert (pick p jobs) n job
  pick-in jobs n job is = same_named _ _ (λ q.
      get-pick (insert jobs n job) q ∙ ap (λ o. cond (passes p o) o None) (get_inserted jobs n q job) ∙ by_test q (n == q)
      ∙ ap (cond (n == q) (Some job)) (sym (get-pick jobs q)) ∙ sym (get_inserted (pick p jobs) n q job))
    where
      by_test : (q : ℕ) (b : Bool) → cond (passes p (cond b (Some job) (get jobs q))) (cond b (Some job) (get jobs q)) None ≡ cond b (Some job) (cond (passes p (get jobs q)) (get jobs q) None)
      by_test q true = ap (λ b. cond b (Some job) None) is
      by_test q false = refl

  -- a job in another state is put
  pub pick-out : (jobs : Names Job) (n : ℕ) (job : Job) → p job.state ≡ false → pick p (insert jobs n job) ≡ remove (pick p jobs) n
  pick-out jobs n job is = same_named _ _ (λ q.
      get-pick (insert jobs n job) q ∙ ap (λ o. cond (passes p o) o None) (get_inserted jobs n q job) ∙ by_test q (n == q)
      ∙ ap (cond (n == q) None) (sym (get-pick jobs q)) ∙ sym (get_removed (pick p jobs) n q))
    where
      by_test : (q : ℕ) (b : Bool) → cond (passes p (cond b (Some job) (get jobs q))) (cond b (Some job) (get jobs q)) None ≡ cond b None (cond (passes p (get jobs q)) (get jobs q) None)
      by_test q true = ap (λ b. cond b (Some job) None) is
      by_test q false = refl

  pick-not : (jobs : Names Job) (n : ℕ) → passes p (get jobs n) ≡ false → get (pick p jobs) n ≡ None
  pick-not jobs n not = get-pick jobs n ∙ ap (λ b. cond b (get jobs n) None) not

  -- a job that was in another state, if it was there, is put in another state
  pub pick-still : (jobs : Names Job) (n : ℕ) (job : Job) → passes p (get jobs n) ≡ false → p job.state ≡ false → pick p (insert jobs n job) ≡ pick p jobs
  pick-still jobs n job not is = pick-out jobs n job is ∙ gone_none (pick p jobs) n (pick-not jobs n not)

-- ---- queued jobs, running jobs
module _ (jobs : Names Job) (n : ℕ) (job : Job) where
  pub queued-in : is_queued job.state ≡ true → queued_in (insert jobs n job) ≡ insert (queued_in jobs) n (submission_of job)
  queued-in is = ap (seen submission_of) (pick-in is_queued jobs n job is) ∙ seen-insert submission_of (pick is_queued jobs) n job

  pub queued-out : is_queued job.state ≡ false → queued_in (insert jobs n job) ≡ remove (queued_in jobs) n
  queued-out is = ap (seen submission_of) (pick-out is_queued jobs n job is) ∙ seen-remove submission_of (pick is_queued jobs) n

  pub queued-still : passes is_queued (get jobs n) ≡ false → is_queued job.state ≡ false → queued_in (insert jobs n job) ≡ queued_in jobs
  queued-still not is = ap (seen submission_of) (pick-still is_queued jobs n job not is)

  pub running-in : is_running job.state ≡ true → running_in (insert jobs n job) ≡ insert (running_in jobs) n job.key
  running-in is = ap (seen (λ (j : Job). j.key)) (pick-in is_running jobs n job is) ∙ seen-insert (λ (j : Job). j.key) (pick is_running jobs) n job

  pub running-out : is_running job.state ≡ false → running_in (insert jobs n job) ≡ remove (running_in jobs) n
  running-out is = ap (seen (λ (j : Job). j.key)) (pick-out is_running jobs n job is) ∙ seen-remove (λ (j : Job). j.key) (pick is_running jobs) n

  pub running-still : passes is_running (get jobs n) ≡ false → is_running job.state ≡ false → running_in (insert jobs n job) ≡ running_in jobs
  running-still not is = ap (seen (λ (j : Job). j.key)) (pick-still is_running jobs n job not is)
