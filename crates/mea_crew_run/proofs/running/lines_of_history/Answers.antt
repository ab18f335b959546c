use Rattle.mea_crew_run.proofs.Faults.{of_account}
use Rattle.mea_crew_run.proofs.running.lines_of_history.Goals as goal

pub returns-in-Err-clause-fault : goal.returns-in-Err-clause-fault
returns-in-Err-clause-fault c = of_account c.args.recorded c.entries-at.result c.in-Err.stop c.entries-at.ensures.history c.entries-at.ensures.count c.in-Err.ensures.refused
