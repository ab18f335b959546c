use Rattle.mea_chan.proofs.MailboxEvents.{seen_valid}
use Rattle.mea_chan.proofs.mailbox_part.MailboxPart.are_valid.Goals as goal

pub returns : goal.returns
returns g c = seen_valid c.self.inside.channels c.self.inside.senders c.self.inside.receivers c.self.inside.next c.self.view_is c.self.invariant
