use Rattle.mea_chan.proofs.BoundedEvents.{seen_valid}
use Rattle.mea_chan.proofs.bounded_part.BoundedPart.are_valid.Goals as goal

pub returns : goal.returns
returns c = seen_valid c.self.inside.channels c.self.inside.senders c.self.inside.receivers c.self.inside.sends c.self.inside.next c.self.view_is c.self.invariant
