-- the three numbers of the command line
use Rattle.std.proofs.Common.{◌≡◌, ℕ, ◌↔◌, List, Option, Some, None, IfSome, codes, ap, sym, subst, ◌∙◌}
use Rattle.mea_base.proofs.Maps.{inside}
use Rattle.mea_text.specs.declared.numbers.Numbers.{Numbers}
use Rattle.mea_text.specs.declared.numbers.Numbers.TheVariants.{Three}
use Rattle.mea_text.specs.Command.{IsSpelled}
use Rattle.mea_job_run.specs.Runs.{IsInRange, IsJobs}

abbrev Sizes : Type 0
Sizes = ℕ × ℕ × ℕ

abbrev AreInRange : Sizes → Type 0
AreInRange sizes = IsInRange sizes.0 × IsInRange sizes.1 × IsInRange sizes.2

abbrev sizes_in : Numbers → Sizes
sizes_in (Three a b d) = (a, b, d)
sizes_in _ = (0, 0, 0)

module _ (words : List (List ℕ)) (o : Option Numbers) (tells : (numbers : Numbers) → (o ≡ Some numbers) ↔ IsSpelled (codes "jobs") words numbers) where
  -- they are no three numbers
  pub no_jobs : ((a b d : ℕ) → o ≡ Some (Three a b d) → ⊥) → (permits most_queued results : ℕ) → (◌≡◌ {A = Option Sizes} None (Some (permits, most_queued, results))) ↔ IsJobs words permits most_queued results
  no_jobs not permits most_queued results = (λ is. absurd (cc), λ jobs. absurd (not permits most_queued results ((tells (Three permits most_queued results)).1 jobs.0)))

  -- what they are is no three numbers
  pub not_three : (n : Numbers) → o ≡ Some n → ((a b d : ℕ) → n ≡ Three a b d → ⊥) → (permits most_queued results : ℕ) → (◌≡◌ {A = Option Sizes} None (Some (permits, most_queued, results))) ↔ IsJobs words permits most_queued results
  not_three n is not = no_jobs (λ a b d three. not a b d (inside (sym is ∙ three)))

  -- they are three, which were looked at
  pub jobs_of : (a b d : ℕ) → o ≡ Some (Three a b d) → (x : Option Sizes) → IfSome x (λ sizes. (sizes ≡ (a, b, d)) × IsInRange a × IsInRange b × IsInRange d)
      → (IsInRange a × IsInRange b × IsInRange d → x ≡ Some (a, b, d)) → (permits most_queued results : ℕ) → (x ≡ Some (permits, most_queued, results)) ↔ IsJobs words permits most_queued results
  jobs_of a b d is x some all permits most_queued results = (only, back)
    where
      only : x ≡ Some (permits, most_queued, results) → IsJobs words permits most_queued results
      only told =
          let had = subst (λ o. IfSome o (λ sizes. (sizes ≡ (a, b, d)) × IsInRange a × IsInRange b × IsInRange d)) told some in
          subst (λ (sizes : Sizes). IsJobs words sizes.0 sizes.1 sizes.2) (sym had.0) ((tells (Three a b d)).0 is, had.1, had.2, had.3)

      back : IsJobs words permits most_queued results → x ≡ Some (permits, most_queued, results)
      back jobs =
          let same : ◌≡◌ {A = Sizes} (a, b, d) (permits, most_queued, results) = ap sizes_in (inside (sym is ∙ (tells (Three permits most_queued results)).1 jobs.0)) in
          all (subst AreInRange (sym same) (jobs.1, jobs.2, jobs.3)) ∙ ap (λ sizes. Some sizes) same
