use Rattle.std.proofs.Common.{ap, sym, ◌∙◌, Some, None, if◌then◌else◌}
use Rattle.mea_family.specs.declared.stop.Stop.TheVariants as stops
use Rattle.mea_chan.proofs.MailboxEvents.{crowded_is}
use Rattle.mea_chan.proofs.mailbox_part.MailboxPart.cause_of_copy.Goals as goal

pub returns-in-Some-clause-is : goal.returns-in-Some-clause-is
returns-in-Some-clause-is g c = c.overflow_if.ensures ∙ ap (λ b. if b then Some stops.Overflow else None) c.is_crowded.ensures ∙ crowded_is c.self.inside.channels c.self.inside.senders c.self.inside.receivers c.self.inside.next c.self.view_is c.args.s _ _ (sym c.in-Some.ensures) c.at.ensures
