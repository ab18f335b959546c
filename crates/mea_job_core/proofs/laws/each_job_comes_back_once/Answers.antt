use Rattle.mea_job_core.proofs.Backs.{stop_comes_back}
use Rattle.mea_job_core.proofs.laws.each_job_comes_back_once.Goals as goal

pub returns : goal.returns
returns g c = λ r calls going. stop_comes_back r calls going
