use Rattle.mea_job_run.proofs.Quiet.{wake_taken}
use Rattle.mea_job_run.proofs.machine.take_wake.Goals as goal

pub returns-clause-core : goal.returns-clause-core
returns-clause-core c = (wake_taken c.args.core.now c.next_wake.new.self c.next_wake.result c.requires c.next_wake.ensures.first c.next_wake.ensures.empty).0

pub returns-clause-first : goal.returns-clause-first
returns-clause-first c = (wake_taken c.args.core.now c.next_wake.new.self c.next_wake.result c.requires c.next_wake.ensures.first c.next_wake.ensures.empty).1
