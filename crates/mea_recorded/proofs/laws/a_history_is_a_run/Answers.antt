use Rattle.mea_recorded.proofs.Histories.{history_runs}
use Rattle.mea_recorded.proofs.laws.a_history_is_a_run.Goals as goal

pub returns : goal.returns
returns c = history_runs
