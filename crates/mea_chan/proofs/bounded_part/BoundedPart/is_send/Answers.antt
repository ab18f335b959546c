use Rattle.std.proofs.Common.{refl, ◌∙◌}
use Rattle.mea_chan.proofs.BoundedEvents.{send_is}
use Rattle.mea_chan.proofs.bounded_part.BoundedPart.is_send.Goals as goal

pub returns : goal.returns
returns c = c.has.ensures ∙ send_is c.self.inside.channels c.self.inside.senders c.self.inside.receivers c.self.inside.sends c.self.inside.next c.self.view_is c.args.f _ refl
