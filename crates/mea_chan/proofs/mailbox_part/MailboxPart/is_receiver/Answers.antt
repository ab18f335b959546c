use Rattle.std.proofs.Common.{refl, ◌∙◌}
use Rattle.std.specs.FinMap.{get}
use Rattle.mea_chan.proofs.MailboxEvents.{receiver_is}
use Rattle.mea_chan.proofs.mailbox_part.MailboxPart.is_receiver.Goals as goal

pub returns : goal.returns
returns g c = c.is_some.ensures ∙ c.receiver_in.ensures.there ∙ receiver_is c.self.inside.channels c.self.inside.senders c.self.inside.receivers c.self.inside.next c.self.view_is c.args.r (get c.self.inside.receivers c.args.r) refl c.args.polls
