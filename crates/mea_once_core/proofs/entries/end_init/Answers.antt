use Rattle.std.proofs.Common.{rules}
use Rattle.mea_once_core.proofs.Slots.{ended-slot}
use Rattle.mea_once_core.proofs.entries.end_init.Goals as goal

pub returns : goal.returns
returns g c = record { ends = ended-slot c.args.entries.now.slots c.args.number c.index_mut.result.now c.args.call.stage c.end_init.new.self (search rules) c.end_init.ensures.ends c.end_init.ensures.few }
