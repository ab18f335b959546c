use Rattle.std.proofs.Common.{refl, ◌∙◌}
use Rattle.mea_chan.proofs.BoundedEvents.{sender_is}
use Rattle.mea_chan.proofs.bounded_part.BoundedPart.is_sender.Goals as goal

pub returns : goal.returns
returns c = c.has.ensures ∙ sender_is c.self.inside.channels c.self.inside.senders c.self.inside.receivers c.self.inside.sends c.self.inside.next c.self.view_is c.args.s _ refl
