use Rattle.std.proofs.Common.{None, refl, sym, ap, ◌∙◌}
use Rattle.std.specs.Option.{option_copied}
use Rattle.mea_meet.proofs.CountSites.{site, senders_point, its, its_room}
use Rattle.mea_meet.proofs.CountCalls.{sender_told, sent_by}
use Rattle.mea_family.proofs.Refusals.{unknown}
use Rattle.mea_meet.proofs.count_part.CountPart.send.Goals as goal

pub returns-in_default : goal.returns-in_default
returns-in_default g c = (unknown _ _ (sender_told (site c.self.inside.points c.self.inside.senders c.self.inside.holders c.self.inside.waits c.self.inside.next c.self.view_is c.self.invariant c.requires.next) c.args.s None (sym c.get.ensures ∙ ap option_copied c.in_default.is)), refl, refl)

pub at_mut-requires : goal.at_mut-requires
at_mut-requires g c = senders_point (site c.self.inside.points c.self.inside.senders c.self.inside.holders c.self.inside.waits c.self.inside.next c.self.view_is c.self.invariant c.requires.next) c.args.s c.in-Some.o.now (sym c.get.ensures ∙ ap option_copied c.in-Some.is)

pub arrive-requires-clause-quiet : goal.arrive-requires-clause-quiet
arrive-requires-clause-quiet g c = (its (site c.self.inside.points c.self.inside.senders c.self.inside.holders c.self.inside.waits c.self.inside.next c.self.view_is c.self.invariant c.requires.next) c.in-Some.o.now c.at_mut.result.now c.at_mut.ensures.value).quiet

pub arrive-requires-clause-room : goal.arrive-requires-clause-room
arrive-requires-clause-room g c = its_room (site c.self.inside.points c.self.inside.senders c.self.inside.holders c.self.inside.waits c.self.inside.next c.self.view_is c.self.invariant c.requires.next) c.in-Some.o.now c.at_mut.result.now c.at_mut.ensures.value c.args.ready.now c.requires.room

pub invariant_of-self : goal.invariant_of-self
invariant_of-self g c = (sent_by (site c.self.inside.points c.self.inside.senders c.self.inside.holders c.self.inside.waits c.self.inside.next c.self.view_is c.self.invariant c.requires.next) c.args.s c.in-Some.o.now c.at_mut.result.now (sym c.get.ensures ∙ ap option_copied c.in-Some.is) c.at_mut.ensures.value c.arrive.new.self c.args.ready.now c.arrive.new.ready c.arrive.ensures).0

pub returns : goal.returns
returns g c = (sent_by (site c.self.inside.points c.self.inside.senders c.self.inside.holders c.self.inside.waits c.self.inside.next c.self.view_is c.self.invariant c.requires.next) c.args.s c.in-Some.o.now c.at_mut.result.now (sym c.get.ensures ∙ ap option_copied c.in-Some.is) c.at_mut.ensures.value c.arrive.new.self c.args.ready.now c.arrive.new.ready c.arrive.ensures).1
