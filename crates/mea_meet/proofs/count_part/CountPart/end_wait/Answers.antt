use Rattle.std.proofs.Common.{None, refl, sym, ◌∙◌}
use Rattle.mea_meet.proofs.CountSites.{site, waits_point, its_room, over_there}
use Rattle.mea_meet.proofs.CountCalls.{wait_told, untaken_wait, wait_left, lender_some, wait_some}
use Rattle.mea_family.proofs.Refusals.{unknown}
use Rattle.mea_meet.proofs.count_part.CountPart.end_wait.Goals as goal

pub invariant_of-self : goal.invariant_of-self
invariant_of-self g c = (untaken_wait (site c.self.inside.points c.self.inside.senders c.self.inside.holders c.self.inside.waits c.self.inside.next c.self.view_is c.self.invariant c.requires.next) c.args.f (sym c.take.ensures.value ∙ c.in_default.is) _ c.take.ensures.rest).0

pub returns-in_default : goal.returns-in_default
returns-in_default g c = (unknown _ _ (wait_told (site c.self.inside.points c.self.inside.senders c.self.inside.holders c.self.inside.waits c.self.inside.next c.self.view_is c.self.invariant c.requires.next) c.args.f None (sym c.take.ensures.value ∙ c.in_default.is)), (untaken_wait (site c.self.inside.points c.self.inside.senders c.self.inside.holders c.self.inside.waits c.self.inside.next c.self.view_is c.self.invariant c.requires.next) c.args.f (sym c.take.ensures.value ∙ c.in_default.is) _ c.take.ensures.rest).1, refl)

pub give_back-requires : goal.give_back-requires
give_back-requires g c = lender_some (site c.self.inside.points c.self.inside.senders c.self.inside.holders c.self.inside.waits c.self.inside.next c.self.view_is c.self.invariant c.requires.next) c.args.f c.in-Some.future (sym c.take.ensures.value ∙ c.in-Some.is) c.borrowed.result c.borrowed.ensures

pub at_mut-requires : goal.at_mut-requires
at_mut-requires g c = waits_point (site c.self.inside.points c.self.inside.senders c.self.inside.holders c.self.inside.waits c.self.inside.next c.self.view_is c.self.invariant c.requires.next) c.args.f c.in-Some.future (sym c.take.ensures.value ∙ c.in-Some.is)

pub finish-over-requires-clause-some : goal.finish-over-requires-clause-some
finish-over-requires-clause-some g c = wait_some (site c.self.inside.points c.self.inside.senders c.self.inside.holders c.self.inside.waits c.self.inside.next c.self.view_is c.self.invariant c.requires.next) c.args.f c.in-Some.future c.at_mut.result.now (sym c.take.ensures.value ∙ c.in-Some.is) c.at_mut.ensures.value

pub finish-over-requires-clause-room : goal.finish-over-requires-clause-room
finish-over-requires-clause-room g c = its_room (site c.self.inside.points c.self.inside.senders c.self.inside.holders c.self.inside.waits c.self.inside.next c.self.view_is c.self.invariant c.requires.next) c.in-Some.future.point c.at_mut.result.now c.at_mut.ensures.value c.args.ready.now c.requires.room

pub remove_if-requires : goal.remove_if-requires
remove_if-requires g c = λ over. over_there (site c.self.inside.points c.self.inside.senders c.self.inside.holders c.self.inside.waits c.self.inside.next c.self.view_is c.self.invariant c.requires.next) c.in-Some.future.point _

pub invariant_of-self-2 : goal.invariant_of-self-2
invariant_of-self-2 g c = rw c.remove_if.ensures (wait_left (site c.self.inside.points c.self.inside.senders c.self.inside.holders c.self.inside.waits c.self.inside.next c.self.view_is c.self.invariant c.requires.next) c.args.f c.in-Some.future c.at_mut.result.now (sym c.take.ensures.value ∙ c.in-Some.is) c.at_mut.ensures.value c.borrowed.result c.borrowed.ensures c.give_back.new.holders c.give_back.ensures c.finish-over.new.self c.finish-over.ensures.entry c.finish-over.result c.finish-over.ensures.over c.args.ready.now c.finish-over.new.ready c.finish-over.ensures.wakers c.finish-over.ensures.counted _ c.take.ensures.rest).0

pub returns : goal.returns
returns g c = rw c.remove_if.ensures (wait_left (site c.self.inside.points c.self.inside.senders c.self.inside.holders c.self.inside.waits c.self.inside.next c.self.view_is c.self.invariant c.requires.next) c.args.f c.in-Some.future c.at_mut.result.now (sym c.take.ensures.value ∙ c.in-Some.is) c.at_mut.ensures.value c.borrowed.result c.borrowed.ensures c.give_back.new.holders c.give_back.ensures c.finish-over.new.self c.finish-over.ensures.entry c.finish-over.result c.finish-over.ensures.over c.args.ready.now c.finish-over.new.ready c.finish-over.ensures.wakers c.finish-over.ensures.counted _ c.take.ensures.rest).1
