use Rattle.std.proofs.Common.{◌==◌, ap, sym, ◌∙◌, Some, None, if◌then◌else◌}
use Rattle.mea_family.specs.declared.stop.Stop.TheVariants as stops
use Rattle.mea_chan_broadcast.proofs.Events.{look, senders_channel, crowded_is}
use Rattle.mea_chan_broadcast.proofs.broadcast_part.BroadcastPart.cause_of_copy.Goals as goal

pub at-requires : goal.at-requires
at-requires c = senders_channel (look c.self.inside.channels c.self.inside.senders c.self.inside.receivers c.self.inside.futures c.self.inside.next c.self.view_is c.self.invariant) c.args.s _ (sym c.in-Some.ensures)

pub returns-in-Some-clause-is : goal.returns-in-Some-clause-is
returns-in-Some-clause-is c = c.overflow_if.ensures ∙ ap (λ n. if n == 18446744073709551615 then Some stops.Overflow else None) c.senders.ensures ∙ crowded_is (look c.self.inside.channels c.self.inside.senders c.self.inside.receivers c.self.inside.futures c.self.inside.next c.self.view_is c.self.invariant) c.args.s _ _ (sym c.in-Some.ensures) c.at.ensures
