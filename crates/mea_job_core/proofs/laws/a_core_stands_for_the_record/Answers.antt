use Rattle.mea_job_core.proofs.Calls.{stands, same_call, same_answer}
use Rattle.mea_job_core.proofs.laws.a_core_stands_for_the_record.Goals as goal

pub returns : goal.returns
returns g c = record {
  calls = λ permits most_queued results calls new. stands permits most_queued results calls new;
  call = λ r call new. same_call r call new;
  answer = λ r call. same_answer r call;
}
