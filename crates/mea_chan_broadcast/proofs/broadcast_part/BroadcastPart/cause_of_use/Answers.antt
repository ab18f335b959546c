use Rattle.std.proofs.Common.{ap, sym, ◌∙◌, Some, None, if◌then◌else◌}
use Rattle.std.specs.Option.{option_copied}
use Rattle.mea_family.specs.declared.stop.Stop.TheVariants as stops
use Rattle.mea_chan_broadcast.proofs.Events.{unusable_is}
use Rattle.mea_chan_broadcast.proofs.broadcast_part.BroadcastPart.cause_of_use.Goals as goal

pub returns-in-Some-clause-is : goal.returns-in-Some-clause-is
returns-in-Some-clause-is c = c.borrowed_if.ensures ∙ ap (λ b. if b then Some stops.Borrowed else None) c.is_some.ensures ∙ unusable_is c.self.inside.channels c.self.inside.senders c.self.inside.receivers c.self.inside.futures c.self.inside.next c.self.view_is c.args.r (Some c.in-Some.receiver.now) (sym c.get.ensures ∙ ap option_copied c.in-Some.is)

pub returns-in-None-clause-is : goal.returns-in-None-clause-is
returns-in-None-clause-is c = unusable_is c.self.inside.channels c.self.inside.senders c.self.inside.receivers c.self.inside.futures c.self.inside.next c.self.view_is c.args.r None (sym c.get.ensures ∙ ap option_copied c.in-None.is)
