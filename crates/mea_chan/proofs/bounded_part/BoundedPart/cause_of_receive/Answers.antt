use Rattle.std.proofs.Common.{refl, ap, ◌∙◌}
use Rattle.std.specs.FinMap.{get}
use Rattle.mea_family.specs.Causes.{unknown_unless}
use Rattle.mea_chan.proofs.BoundedEvents.{receiver_is}
use Rattle.mea_chan.proofs.bounded_part.BoundedPart.cause_of_receive.Goals as goal

pub returns : goal.returns
returns c = c.unknown_unless.ensures ∙ ap unknown_unless (c.is_some.ensures ∙ c.receiver_in.ensures.there ∙ receiver_is c.self.inside.channels c.self.inside.senders c.self.inside.receivers c.self.inside.sends c.self.inside.next c.self.view_is c.args.r (get c.self.inside.receivers c.args.r) refl)
