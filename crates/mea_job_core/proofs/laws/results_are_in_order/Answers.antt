use Rattle.mea_job_core.proofs.Histories.{in_order}
use Rattle.mea_job_core.proofs.laws.results_are_in_order.Goals as goal

pub returns : goal.returns
returns g c = λ r finished taken history. in_order r finished taken history
