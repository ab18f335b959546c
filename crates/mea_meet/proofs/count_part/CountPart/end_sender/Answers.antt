use Rattle.std.proofs.Common.{None, refl, sym, ◌∙◌}
use Rattle.mea_meet.proofs.CountSites.{site, senders_point, its_room, over_there}
use Rattle.mea_meet.proofs.CountCalls.{sender_told, untaken_sender, sender_left, sender_some}
use Rattle.mea_family.proofs.Refusals.{unknown}
use Rattle.mea_meet.proofs.count_part.CountPart.end_sender.Goals as goal

pub invariant_of-self : goal.invariant_of-self
invariant_of-self g c = (untaken_sender (site c.self.inside.points c.self.inside.senders c.self.inside.holders c.self.inside.waits c.self.inside.next c.self.view_is c.self.invariant c.requires.next) c.args.s (sym c.take.ensures.value ∙ c.in_default.is) _ c.take.ensures.rest).0

pub returns-in_default : goal.returns-in_default
returns-in_default g c = (unknown _ _ (sender_told (site c.self.inside.points c.self.inside.senders c.self.inside.holders c.self.inside.waits c.self.inside.next c.self.view_is c.self.invariant c.requires.next) c.args.s None (sym c.take.ensures.value ∙ c.in_default.is)), (untaken_sender (site c.self.inside.points c.self.inside.senders c.self.inside.holders c.self.inside.waits c.self.inside.next c.self.view_is c.self.invariant c.requires.next) c.args.s (sym c.take.ensures.value ∙ c.in_default.is) _ c.take.ensures.rest).1, refl)

pub at_mut-requires : goal.at_mut-requires
at_mut-requires g c = senders_point (site c.self.inside.points c.self.inside.senders c.self.inside.holders c.self.inside.waits c.self.inside.next c.self.view_is c.self.invariant c.requires.next) c.args.s c.in-Some.o (sym c.take.ensures.value ∙ c.in-Some.is)

pub finish-over-requires-clause-some : goal.finish-over-requires-clause-some
finish-over-requires-clause-some g c = sender_some (site c.self.inside.points c.self.inside.senders c.self.inside.holders c.self.inside.waits c.self.inside.next c.self.view_is c.self.invariant c.requires.next) c.args.s c.in-Some.o c.at_mut.result.now (sym c.take.ensures.value ∙ c.in-Some.is) c.at_mut.ensures.value

pub finish-over-requires-clause-room : goal.finish-over-requires-clause-room
finish-over-requires-clause-room g c = its_room (site c.self.inside.points c.self.inside.senders c.self.inside.holders c.self.inside.waits c.self.inside.next c.self.view_is c.self.invariant c.requires.next) c.in-Some.o c.at_mut.result.now c.at_mut.ensures.value c.args.ready.now c.requires.room

pub remove_if-requires : goal.remove_if-requires
remove_if-requires g c = λ over. over_there (site c.self.inside.points c.self.inside.senders c.self.inside.holders c.self.inside.waits c.self.inside.next c.self.view_is c.self.invariant c.requires.next) c.in-Some.o _

pub invariant_of-self-2 : goal.invariant_of-self-2
invariant_of-self-2 g c = rw c.remove_if.ensures (sender_left (site c.self.inside.points c.self.inside.senders c.self.inside.holders c.self.inside.waits c.self.inside.next c.self.view_is c.self.invariant c.requires.next) c.args.s c.in-Some.o c.at_mut.result.now (sym c.take.ensures.value ∙ c.in-Some.is) c.at_mut.ensures.value c.finish-over.new.self c.finish-over.ensures.entry c.finish-over.result c.finish-over.ensures.over c.args.ready.now c.finish-over.new.ready c.finish-over.ensures.wakers c.finish-over.ensures.counted _ c.take.ensures.rest).0

pub returns : goal.returns
returns g c = rw c.remove_if.ensures (sender_left (site c.self.inside.points c.self.inside.senders c.self.inside.holders c.self.inside.waits c.self.inside.next c.self.view_is c.self.invariant c.requires.next) c.args.s c.in-Some.o c.at_mut.result.now (sym c.take.ensures.value ∙ c.in-Some.is) c.at_mut.ensures.value c.finish-over.new.self c.finish-over.ensures.entry c.finish-over.result c.finish-over.ensures.over c.args.ready.now c.finish-over.new.ready c.finish-over.ensures.wakers c.finish-over.ensures.counted _ c.take.ensures.rest).1
