use Rattle.std.proofs.Common.{ap, sym, ◌∙◌, Some, None, if◌then◌else◌}
use Rattle.std.specs.Option.{option_copied}
use Rattle.mea_family.specs.declared.stop.Stop.TheVariants as stops
use Rattle.mea_chan.proofs.BoundedEvents.{site_channel, crowded_is, unknown_copy}
use Rattle.mea_chan.proofs.bounded_part.BoundedPart.cause_of_copy.Goals as goal

pub at-requires : goal.at-requires
at-requires c = site_channel c.self.invariant c.args.s c.in-Some.sender.now (sym c.get.ensures ∙ ap option_copied c.in-Some.is)

pub returns-in-Some-clause-is : goal.returns-in-Some-clause-is
returns-in-Some-clause-is c = c.overflow_if.ensures ∙ ap (λ b. if b then Some stops.Overflow else None) c.is_crowded.ensures ∙ crowded_is c.self.inside.channels c.self.inside.senders c.self.inside.receivers c.self.inside.sends c.self.inside.next c.self.view_is c.args.s _ _ (sym c.get.ensures ∙ ap option_copied c.in-Some.is) c.at.ensures

pub returns-in-None-clause-is : goal.returns-in-None-clause-is
returns-in-None-clause-is c = unknown_copy c.self.inside.channels c.self.inside.senders c.self.inside.receivers c.self.inside.sends c.self.inside.next c.self.view_is c.args.s (sym c.get.ensures ∙ ap option_copied c.in-None.is)
