use Rattle.std.proofs.Common.{rules}
use Rattle.mea_once_core.proofs.Slots.{rested-slot}
use Rattle.mea_once_core.proofs.entries.move_wakes.Goals as goal

pub returns : goal.returns
returns g c = record { rests = rested-slot c.args.entries.now.slots c.args.number c.index_mut.result.now c.args.out.now c.move_wakes.new.out c.move_wakes.new.self (search rules) c.move_wakes.ensures.moved c.move_wakes.ensures.wakers c.move_wakes.ensures.spare }
