-- the words of the program, and what holds of a script
use Rattle.std.specs.Prelude.{ℕ, ◌≡◌, ◌≤◌, ◌++◌, List, codes}
use Rattle.std.specs.FinMap.{get}
use Rattle.mea_text.specs.declared.numbers.Numbers.TheVariants.{Three}
use Rattle.mea_text.specs.Command.{IsSpelled}
use Rattle.mea_script.specs.Events.{HoldsOfScript}
use Rattle.mea_job_core.specs.Record.{Record, new_record}
use Rattle.mea_job_core.specs.Runs.{Becomes, History, IsSettled}
use Rattle.mea_job_run.specs.declared.event.JobEvent.{JobEvent}
use Rattle.mea_job_run.specs.Machine.{job_rules}

-- a number of the words
abbrev pub IsInRange : ℕ → Type 0
IsInRange n = (1 ≤ n) × (n ≤ 1000000)

-- the word `jobs` with the permits, the queued jobs and the results that may be, each from 1 to 1000000
abbrev pub IsJobs : List (List ℕ) → ℕ → ℕ → ℕ → Type 0
IsJobs words permits most_queued results = IsSpelled (codes "jobs") words (Three permits most_queued results) × IsInRange permits × IsInRange most_queued × IsInRange results

-- the words are those of some service
abbrev pub IsCommand : List (List ℕ) → Type 0
IsCommand words = (permits : ℕ) × (most_queued : ℕ) × (results : ℕ) × IsJobs words permits most_queued results

-- what an event leaves: each job has one state, and goes from queued to running or returned, from running to finished, and by no
-- other way; results are taken in the order of the finishes, each once; no permit is free while a job is queued
pub record IsOrderly (r r' : Record ℕ) : Type 0 where
  pub forward : (n : ℕ) → Becomes (get r.jobs n) (get r'.jobs n)
  pub finished : List (ℕ × ℕ)
  pub taken : List (ℕ × ℕ)
  pub history : History r' finished taken
  pub in_order : finished ≡ taken ++ r'.results
  pub settled : IsSettled r'

-- so it is at each event of a script
abbrev pub AreOrderly : ℕ → ℕ → ℕ → List ℕ → Type 0
AreOrderly permits most_queued results script = HoldsOfScript (λ r n (e : JobEvent) r'. IsOrderly r r') job_rules (new_record permits most_queued results) script
