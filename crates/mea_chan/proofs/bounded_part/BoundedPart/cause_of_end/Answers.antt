use Rattle.std.proofs.Common.{ap, sym, ◌∙◌}
use Rattle.std.specs.Option.{option_copied}
use Rattle.mea_chan.proofs.BoundedEvents.{ends_is, unknown_end}
use Rattle.mea_chan.proofs.bounded_part.BoundedPart.cause_of_end.Goals as goal

pub returns-in-Some-clause-is : goal.returns-in-Some-clause-is
returns-in-Some-clause-is c = c.borrowed_if.ensures ∙ ends_is c.self.inside.channels c.self.inside.senders c.self.inside.receivers c.self.inside.sends c.self.inside.next c.self.view_is c.args.s c.in-Some.sender.now (sym c.get.ensures ∙ ap option_copied c.in-Some.is) (c.self.invariant.counted.each c.args.s c.in-Some.sender.now (sym c.get.ensures ∙ ap option_copied c.in-Some.is)).sends

pub returns-in-None-clause-is : goal.returns-in-None-clause-is
returns-in-None-clause-is c = unknown_end c.self.inside.channels c.self.inside.senders c.self.inside.receivers c.self.inside.sends c.self.inside.next c.self.view_is c.args.s (sym c.get.ensures ∙ ap option_copied c.in-None.is)
