use Rattle.mea_job_core.proofs.Stops.{stops_back, stops_none}
use Rattle.mea_job_core.proofs.laws.a_stop_loses_no_job.Goals as goal

pub returns : goal.returns
returns g c = record { back = λ r going n q is. stops_back r going n q is; none = λ r going. stops_none r going }
