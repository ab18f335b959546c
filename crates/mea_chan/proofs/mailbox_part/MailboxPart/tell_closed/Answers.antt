use Rattle.std.proofs.Common.{Some, None, inl, refl, sym, ap, ◌∙◌}
use Rattle.std.specs.Option.{option_copied}
use Rattle.mea_family.specs.Causes.{unknown_unless}
use Rattle.mea_chan.proofs.MailboxEvents.{site, sender_is, rests, told_closed}
use Rattle.mea_chan.proofs.mailbox_part.MailboxPart.tell_closed.Goals as goal

pub invariant_of-self : goal.invariant_of-self
invariant_of-self g c = rests (site c.self.inside.channels c.self.inside.senders c.self.inside.receivers c.self.inside.next c.self.view_is c.self.invariant c.requires.next c.ranges.number.fits)

pub returns : goal.returns
returns g c = ((ap unknown_unless (sym (sender_is c.self.inside.channels c.self.inside.senders c.self.inside.receivers c.self.inside.next c.self.view_is c.args.s (Some c.in-Some.o.now) (sym c.get.ensures ∙ ap option_copied c.in-Some.is)))), told_closed (site c.self.inside.channels c.self.inside.senders c.self.inside.receivers c.self.inside.next c.self.view_is c.self.invariant c.requires.next c.ranges.number.fits) c.args.s c.in-Some.o.now c.at.result.now (sym c.get.ensures ∙ ap option_copied c.in-Some.is) c.at.ensures _ _ c.yes_if.ensures c.is_closed-closed.ensures)
