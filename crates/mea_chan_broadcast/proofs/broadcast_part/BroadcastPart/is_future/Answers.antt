use Rattle.std.proofs.Common.{◌∙◌, refl}
use Rattle.mea_chan_broadcast.proofs.Events.{future_is}
use Rattle.mea_chan_broadcast.proofs.broadcast_part.BroadcastPart.is_future.Goals as goal

pub returns : goal.returns
returns c = c.has.ensures ∙ future_is c.self.inside.channels c.self.inside.senders c.self.inside.receivers c.self.inside.futures c.self.inside.next c.self.view_is c.args.f _ refl
