use Rattle.mea_run.proofs.Legal.{script_legal, script_waits, begun_leaves, length_script, script_pending}
use Rattle.mea_run.proofs.generator.generated_scripts_are_legal.Goals as goal

pub returns-clause-legal : goal.returns-clause-legal
returns-clause-legal c = λ seed rounds. script_legal seed rounds

pub returns-clause-polls : goal.returns-clause-polls
returns-clause-polls c = λ seed rounds. script_waits seed rounds

pub returns-clause-rounds : goal.returns-clause-rounds
returns-clause-rounds c = λ seed rounds. begun_leaves seed rounds

pub returns-clause-events : goal.returns-clause-events
returns-clause-events c = λ seed rounds. length_script seed rounds

pub returns-clause-pending : goal.returns-clause-pending
returns-clause-pending c = λ seed rounds. script_pending seed rounds
