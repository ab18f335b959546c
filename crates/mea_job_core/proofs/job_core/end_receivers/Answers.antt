use Rattle.std.proofs.Common.{◌∙◌}
use Rattle.mea_job_core.proofs.Shut.{less_many}
use Rattle.mea_job_core.proofs.job_core.end_receivers.Goals as goal

pub returns : goal.returns
returns g c = c.leave.ensures ∙ less_many c.args.shutdown.now c.args.less c.requires
