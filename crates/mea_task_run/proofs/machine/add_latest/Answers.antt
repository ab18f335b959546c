use Rattle.mea_task_run.proofs.Faults.{not_unknown}
use Rattle.mea_task_run.proofs.machine.add_latest.Goals as goal

pub unreachable-requires : goal.unreachable-requires
unreachable-requires c = not_unknown c.args.executor.now c.args.latest c.in-Some.steps c.in-Err.fault c.in-Unknown.step c.in-Unknown.steps c.in-Some.is c.requires.known c.in-Unknown.is c.in-Err.ensures.fault
