use Rattle.mea_chan.proofs.MailboxEvents.{new_kept, new_view}
use Rattle.mea_chan.proofs.mailbox_part.MailboxPart.new.Goals as goal

pub invariant_of-result : goal.invariant_of-result
invariant_of-result g c = rw (c.new.ensures, c.new-2.ensures, c.new-3.ensures) new_kept

pub returns : goal.returns
returns g c = rw (c.new.ensures, c.new-2.ensures, c.new-3.ensures) new_view
