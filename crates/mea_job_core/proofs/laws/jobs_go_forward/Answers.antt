use Rattle.mea_job_core.proofs.Histories.{below, becomes}
use Rattle.mea_job_core.proofs.laws.jobs_go_forward.Goals as goal

pub returns : goal.returns
returns g c = λ r r' finished taken finished' taken' history calls n. becomes r r' finished' taken' (below r finished taken history) calls n
