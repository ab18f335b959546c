use Rattle.std.proofs.Common.{None, Some, is_some, ap, sym, ◌∙◌}
use Rattle.std.specs.Option.{option_copied}
use Rattle.mea_chan.proofs.BoundedEvents.{channel_is, stands_for_it}
use Rattle.mea_chan.proofs.bounded_part.BoundedPart.core.Goals as goal

pub returns-in_err-entry-clause-there : goal.returns-in_err-entry-clause-there
returns-in_err-entry-clause-there c = ap is_some c.from_residual.ensures ∙ channel_is c.self.inside.channels c.self.inside.senders c.self.inside.receivers c.self.inside.sends c.self.inside.next c.self.view_is c.args.o None (sym c.get.ensures ∙ ap option_copied c.in_err-entry.was)

pub returns-clause-there : goal.returns-clause-there
returns-clause-there c = channel_is c.self.inside.channels c.self.inside.senders c.self.inside.receivers c.self.inside.sends c.self.inside.next c.self.view_is c.args.o (Some c.in_ok-entry.entry.now) (sym c.get.ensures ∙ ap option_copied c.in_ok-entry.was)

pub returns-clause-stands : goal.returns-clause-stands
returns-clause-stands c = rw c.core.ensures (stands_for_it c.self.inside.channels c.self.inside.senders c.self.inside.receivers c.self.inside.sends c.self.inside.next c.self.view_is c.self.invariant c.args.o c.in_ok-entry.entry.now (sym c.get.ensures ∙ ap option_copied c.in_ok-entry.was))
