use Rattle.std.proofs.Common.{rules}
use Rattle.mea_chan_broadcast.proofs.broadcast_part.BroadcastPart.cause.Goals as goal

pub returns-in-SendAll : goal.returns-in-SendAll
returns-in-SendAll c =
    let told = c.cause_of_send.ensures 0 in
    search (rules, told)
