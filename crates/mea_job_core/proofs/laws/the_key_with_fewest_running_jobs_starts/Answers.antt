use Rattle.mea_job_core.proofs.Nexts.{next_there}
use Rattle.mea_job_core.proofs.Stops.{first_goes}
use Rattle.mea_job_core.proofs.laws.the_key_with_fewest_running_jobs_starts.Goals as goal

pub returns : goal.returns
returns c = record {
  there = λ q running job is. next_there running q job is;
  first = λ q running job is j x there. first_goes q running job is j x there;
}
