use Rattle.mea_job_core.proofs.Calls.{finish_adds, stop_adds}
use Rattle.mea_job_core.proofs.laws.a_call_wakes_at_most_one.Goals as goal

pub returns : goal.returns
returns g c = record { finish = λ s n outcome. finish_adds s n outcome; stop = λ s. stop_adds s }
