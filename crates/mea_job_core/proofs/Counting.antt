-- how many jobs there may be and how many there were, as jobs come and go
use Rattle.std.proofs.Common.{◌≡◌, ℕ, ◌+◌, ◌<◌, ◌≤◌, ◌==◌, Bool, true, false, cond, Option, Some, None, IsSome, refl, ap, sym, subst, ◌∙◌, arith}
use Rattle.std.specs.FinMap.{empty, get, insert, remove, len, len-empty}
use Rattle.std.specs.Ordering.{nat_cmp}
use Rattle.mea_base.proofs.Maps.{by_put, by_gone, is_there, nothing_there}
use Rattle.mea_by_name.specs.ByName.{Names}
use Rattle.mea_by_name.proofs.Own.{len-new}
use Rattle.mea_share_core.proofs.Kept.{len-fewer}
use Rattle.mea_job_core.specs.Work.{Submission, Work, free_of, next_after, started, without, ended, recalled, accepted, halted, new_work, IsAbove}
use Rattle.std.proofs.lemmas.Bool.{eqb-true}
use Rattle.mea_meet_core.specs.Count.{increased}
use Rattle.mea_meet_core.specs.Shutdown.{Shutdown}
use Rattle.mea_job_core.specs.Parts.{IsCounted, IsShut}
use Rattle.mea_job_core.proofs.Nexts.{next_there}
use Rattle.mea_job_core.proofs.Views.{not_there}

some_before : {X : Type 0} (m : Names X) (k : ℕ) (n : ℕ) → ((a : ℕ) → IsSome (get m a) → a < n) → (a : ℕ) → IsSome (get (remove m k) a) → a < n
some_before m k n above a some = by_gone m k (λ b o. IsSome o → b < n) (λ is. absurd (cc)) (λ b apart is. above b is) a some

some_put : {X : Type 0} (m : Names X) (k : ℕ) (x : X) (n : ℕ) → k < n → ((a : ℕ) → IsSome (get m a) → a < n) → (a : ℕ) → IsSome (get (insert m k x) a) → a < n
some_put m k x n low above a some = by_put m k x (λ b o. IsSome o → b < n) (λ _. low) (λ b apart is. above b is) a some

-- ---- a running job is over
pub ended_above : (w : Work) (k n : ℕ) → IsAbove w n → IsAbove (ended w k) n
ended_above w k n above = by_next (next_after w k) refl
  where
    by_next : (o : Option (ℕ × Submission)) → next_after w k ≡ o → IsAbove (started (without w k) o) n
    by_next None none = record { queued = above.queued; running = some_before w.running k n above.running }
    by_next (Some job) some = record {
      queued = some_before w.queued job.0 n above.queued;
      running = some_put (remove w.running k) job.0 job.1.key n (above.queued job.0 (is_there (get w.queued job.0) job.1 (next_there (remove w.running k) w.queued job some))) (some_before w.running k n above.running);
    }

pub ended_stopped : (w : Work) (k : ℕ) → ((ended w k).stopped ≡ w.stopped) × ((ended w k).permits ≡ w.permits)
ended_stopped w k = by_next (next_after w k)
  where
    by_next : (o : Option (ℕ × Submission)) → ((started (without w k) o).stopped ≡ w.stopped) × ((started (without w k) o).permits ≡ w.permits)
    by_next None = (refl, refl)
    by_next (Some job) = (refl, refl)

pub ended_queued : (w : Work) (k : ℕ) → (len (ended w k).queued ≤ len w.queued) × (w.queued ≡ empty → (ended w k).queued ≡ empty)
ended_queued w k = by_next (next_after w k) refl
  where
    by_next : (o : Option (ℕ × Submission)) → next_after w k ≡ o → (len (started (without w k) o).queued ≤ len w.queued) × (w.queued ≡ empty → (started (without w k) o).queued ≡ empty)
    by_next None none = (omega arith, λ is. is)
    by_next (Some job) some =
        let there = is_there (get w.queued job.0) job.1 (next_there (remove w.running k) w.queued job some) in
        let fewer = len-fewer w.queued job.0 there in
        (omega (arith, fewer), λ is. absurd (nothing_in w.queued job.0 is there))
      where
        nothing_in : (m : Names Submission) (a : ℕ) → m ≡ empty → IsSome (get m a) → ⊥
        nothing_in m a is some = nothing_there Submission a (subst (λ (q : Names Submission). IsSome (get q a)) is some)

pub ended_counted : (w w' : Work) (k most_queued next finished returned : ℕ) → w' ≡ ended w k → len w'.queued + len w'.running + 1 ≡ len w.queued + len w.running
    → IsCounted w most_queued next finished returned → IsCounted w' most_queued next (finished + 1) returned
ended_counted w w' k most_queued next finished returned is fewer counted =
    subst (λ v. IsCounted v most_queued next (finished + 1) returned) (sym is) (record {
      few = (let no_more = (ended_queued w k).0 in omega (arith, no_more, counted.few));
      fits = (let permits = (ended_stopped w k).1 in omega (arith, permits, counted.fits));
      above = ended_above w k next counted.above;
      sum = (let queued = ap (λ (v : Work). len v.queued) is in let running = ap (λ (v : Work). len v.running) is in omega (arith, queued, running, fewer, counted.sum));
      last = counted.last;
      halted = λ over. (ended_queued w k).1 (counted.halted (sym (ended_stopped w k).0 ∙ over));
    })

-- ---- a queued job is over
pub recalled_fewer : (w : Work) (k : ℕ) → IsSome (get w.queued k) → len (recalled w k).queued + len (recalled w k).running + 1 ≡ len w.queued + len w.running
recalled_fewer w k some = omega (arith, len-fewer w.queued k some)

pub recalled_counted : (w : Work) (k most_queued next finished returned : ℕ) → IsSome (get w.queued k) → w.stopped ≡ false → IsCounted w most_queued next finished returned → IsCounted (recalled w k) most_queued next finished (returned + 1)
recalled_counted w k most_queued next finished returned some still counted =
    let fewer = len-fewer w.queued k some in record {
      few = omega (arith, fewer, counted.few);
      fits = counted.fits;
      above = record { queued = some_before w.queued k next counted.above.queued; running = counted.above.running };
      sum = omega (arith, fewer, counted.sum);
      last = counted.last;
      halted = λ over. absurd (let no = sym still ∙ over in cc);
    }

-- ---- a job is accepted
later : {X : Type 0} (m : Names X) (n o : ℕ) → n ≤ o → ((a : ℕ) → IsSome (get m a) → a < n) → (a : ℕ) → IsSome (get m a) → a < o
later m n o le above a some = let low = above a some in omega (arith, low, le)

pub later_above : (w : Work) (n o : ℕ) → n ≤ o → IsAbove w n → IsAbove w o
later_above w n o le above = record { queued = later w.queued n o le above.queued; running = later w.running n o le above.running }

module _ (w : Work) (n key value : ℕ) where
  abbrev by_free : Bool → Work
  by_free b = cond b (record w { queued = insert w.queued n (record { key = key; value = value }) }) (record w { running = insert w.running n key })

  pub accepted_more : IsAbove w n → (len (accepted w n key value).queued + len (accepted w n key value).running ≡ len w.queued + len w.running + 1) × ((accepted w n key value).stopped ≡ w.stopped)
  accepted_more above = by_test (free_of w == 0)
    where
      by_test : (b : Bool) → (len (by_free b).queued + len (by_free b).running ≡ len w.queued + len w.running + 1) × ((by_free b).stopped ≡ w.stopped)
      by_test true = (omega (arith, len-new w.queued n (record { key = key; value = value }) (not_there w.queued n above.queued)), refl)
      by_test false = (omega (arith, len-new w.running n key (not_there w.running n above.running)), refl)

  pub accepted_counted : (w' : Work) (most_queued next finished returned : ℕ) → w' ≡ accepted w n key value → next ≤ n → n < 18446744073709551615 → (free_of w ≡ 0 → len w.queued ≡ most_queued → ⊥) → w.stopped ≡ false
      → IsCounted w most_queued next finished returned → IsCounted w' most_queued (n + 1) finished returned
  accepted_counted w' most_queued next finished returned is le low room still counted = subst (λ v. IsCounted v most_queued (n + 1) finished returned) (sym is) (by_test (free_of w == 0) refl)
    where
      queued_above : (a : ℕ) → IsSome (get w.queued a) → a < n
      queued_above = later w.queued next n le counted.above.queued

      running_above : (a : ℕ) → IsSome (get w.running a) → a < n
      running_above = later w.running next n le counted.above.running

      by_test : (b : Bool) → (free_of w == 0) ≡ b → IsCounted (by_free b) most_queued (n + 1) finished returned
      by_test true none =
          let more = len-new w.queued n (record { key = key; value = value }) (not_there w.queued n queued_above) in
          let full : len w.queued ≡ most_queued → ⊥ = room (eqb-true (free_of w) 0 none) in record {
            few = (let few = counted.few in omega (arith, more, few, full));
            fits = counted.fits;
            above = record { queued = some_put w.queued n (record { key = key; value = value }) (n + 1) (omega arith) (later w.queued n (n + 1) (omega arith) queued_above); running = later w.running n (n + 1) (omega arith) running_above };
            sum = omega (arith, more, counted.sum, le);
            last = omega (arith, low);
            halted = λ over. absurd (let no = sym still ∙ over in cc);
          }
      by_test false some =
          let more = len-new w.running n key (not_there w.running n running_above) in record {
            few = counted.few;
            fits = counted.fits;
            above = record { queued = later w.queued n (n + 1) (omega arith) queued_above; running = some_put w.running n key (n + 1) (omega arith) (later w.running n (n + 1) (omega arith) running_above) };
            sum = omega (arith, more, counted.sum, le);
            last = omega (arith, low);
            halted = λ over. absurd (let no = sym still ∙ over in cc);
          }

-- one receiver more for it
pub shut_more : {W : Type 0} (s u : Shutdown W) (w w' : Work) (n key value : ℕ) → IsAbove w n → w' ≡ accepted w n key value → u ≡ record s { receivers = increased s.receivers } → IsShut s w → IsShut u w'
shut_more s u w w' n key value above is more shut =
    let counts = accepted_more w n key value above in
    let queued = ap (λ (v : Work). len v.queued) is in
    let running = ap (λ (v : Work). len v.running) is in
    let stopped : ◌≡◌ {A = ℕ} (cond w'.stopped 0 1) (cond w.stopped 0 1) = ap (λ b. cond b 0 1) (ap (λ (v : Work). v.stopped) is ∙ counts.1) in
    subst (λ (t : Shutdown _). IsShut t w') (sym more) (record {
      signal = shut.signal ∙ sym stopped;
      nobody = shut.nobody;
      receivers = omega (arith, shut.receivers, counts.0, queued, running, stopped);
      over = λ none. absurd (omega (arith, none));
    })

-- ---- a new service, and one that was stopped
pub counted_new : (w : Work) (p most_queued : ℕ) → w ≡ new_work p → p + most_queued < 4294967295 → IsCounted w most_queued 0 0 0
counted_new w p most_queued is fits = subst (λ v. IsCounted v most_queued 0 0 0) (sym is) (record {
  few = omega (arith, len-empty nat_cmp Submission);
  fits = fits;
  above = record { queued = λ m some. absurd (nothing_there Submission m some); running = λ m some. absurd (nothing_there ℕ m some) };
  sum = omega (arith, len-empty nat_cmp Submission, len-empty nat_cmp ℕ);
  last = omega arith;
  halted = λ over. absurd (cc);
})

pub halted_counted : (w w' : Work) (n most_queued next finished returned : ℕ) → w' ≡ halted w → n ≡ len w.queued → IsCounted w most_queued next finished returned → IsCounted w' most_queued next finished (returned + n)
halted_counted w w' n most_queued next finished returned is many counted = subst (λ v. IsCounted v most_queued next finished (returned + n)) (sym is) (record {
  few = omega (arith, len-empty nat_cmp Submission);
  fits = counted.fits;
  above = record { queued = λ m some. absurd (nothing_there Submission m some); running = counted.above.running };
  sum = omega (arith, len-empty nat_cmp Submission, many, counted.sum);
  last = counted.last;
  halted = λ _. refl;
})

-- where a job is queued the service goes on
pub goes_on : (w : Work) (k : ℕ) → (w.stopped ≡ true → w.queued ≡ empty) → IsSome (get w.queued k) → w.stopped ≡ false
goes_on w k over some = by_stop w.stopped refl
  where
    by_stop : (b : Bool) → w.stopped ≡ b → w.stopped ≡ false
    by_stop true is = absurd (nothing_there Submission k (subst (λ (q : Names Submission). IsSome (get q k)) (over is) some))
    by_stop false is = is
