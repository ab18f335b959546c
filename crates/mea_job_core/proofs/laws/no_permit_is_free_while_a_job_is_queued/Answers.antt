use Rattle.mea_job_core.proofs.Settles.{settles}
use Rattle.mea_job_core.proofs.laws.no_permit_is_free_while_a_job_is_queued.Goals as goal

pub returns : goal.returns
returns g c = λ r finished taken history. settles r finished taken history
