use Rattle.mea_broadcast_core.proofs.Walks.{run}
use Rattle.mea_broadcast_core.proofs.laws.a_receiver_steps_through_what_was_sent.Goals as goal

pub returns : goal.returns
returns g c = record {
  stands = λ b b' p p' start all sent heard runs st. (run _ _ b p start all st b' p' sent heard runs).stands;
  walks = λ b b' p p' start all sent heard runs st. (run _ _ b p start all st b' p' sent heard runs).walks;
  within = λ b b' p p' start all sent heard runs st. (run _ _ b p start all st b' p' sent heard runs).within;
}
