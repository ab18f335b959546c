use Rattle.mea_task_core.specs.Settled.{run_out}
use Rattle.mea_task_core.specs.Bounds.{work}
use Rattle.mea_task_core.proofs.Moves.{sound_moves}
use Rattle.mea_task_core.proofs.Ends.{run_out_rests, run_out_later, settled, few_polls}
use Rattle.mea_task_core.proofs.WholeTurns.{runs_are_turns}
use Rattle.mea_task_core.proofs.laws.machines_come_to_rest.Goals as goal

pub returns-clause-rests : goal.returns-clause-rests
returns-clause-rests c = run_out_rests

pub returns-clause-turns : goal.returns-clause-turns
returns-clause-turns c = runs_are_turns

pub returns-clause-later : goal.returns-clause-later
returns-clause-later c = λ m n s. run_out_later m s n

pub returns-clause-settled : goal.returns-clause-settled
returns-clause-settled c = λ m s. settled (run_out m) (sound_moves (work m) m s) (run_out_rests m s)

pub returns-clause-few : goal.returns-clause-few
returns-clause-few c = few_polls
