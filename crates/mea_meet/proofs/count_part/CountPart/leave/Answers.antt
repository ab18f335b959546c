use Rattle.std.proofs.Common.{None, refl, sym, ◌∙◌}
use Rattle.mea_meet.proofs.CountSites.{site, known_holder, holders_point, its, its_room, over_there}
use Rattle.mea_meet.proofs.CountCalls.{holder_left, untaken_holder, counted_lives, some_left, room_left}
use Rattle.mea_meet.proofs.count_part.CountPart.leave.Goals as goal

pub invariant_of-self : goal.invariant_of-self
invariant_of-self g c = (untaken_holder (site c.self.inside.points c.self.inside.senders c.self.inside.holders c.self.inside.waits c.self.inside.next c.self.view_is c.self.invariant c.requires.next) c.args.k (sym c.take.ensures.value ∙ c.in_default.is) _ c.take.ensures.rest).0

pub returns-in_default-clause-there : goal.returns-in_default-clause-there
returns-in_default-clause-there g c = sym (known_holder (site c.self.inside.points c.self.inside.senders c.self.inside.holders c.self.inside.waits c.self.inside.next c.self.view_is c.self.invariant c.requires.next) c.args.k None (sym c.take.ensures.value ∙ c.in_default.is))

pub returns-in_default-clause-same : goal.returns-in_default-clause-same
returns-in_default-clause-same g c = λ _. ((untaken_holder (site c.self.inside.points c.self.inside.senders c.self.inside.holders c.self.inside.waits c.self.inside.next c.self.view_is c.self.invariant c.requires.next) c.args.k (sym c.take.ensures.value ∙ c.in_default.is) _ c.take.ensures.rest).1, refl)

pub at_mut-entry-requires : goal.at_mut-entry-requires
at_mut-entry-requires g c = holders_point (site c.self.inside.points c.self.inside.senders c.self.inside.holders c.self.inside.waits c.self.inside.next c.self.view_is c.self.invariant c.requires.next) c.args.k c.in-Some.holder (sym c.take.ensures.value ∙ c.in-Some.is)

pub part-requires-clause-lives : goal.part-requires-clause-lives
part-requires-clause-lives g c = counted_lives (site c.self.inside.points c.self.inside.senders c.self.inside.holders c.self.inside.waits c.self.inside.next c.self.view_is c.self.invariant c.requires.next) c.args.k c.in-Some.holder c.at_mut-entry.result.now (sym c.take.ensures.value ∙ c.in-Some.is) c.at_mut-entry.ensures.value

pub part-requires-clause-quiet : goal.part-requires-clause-quiet
part-requires-clause-quiet g c = (its (site c.self.inside.points c.self.inside.senders c.self.inside.holders c.self.inside.waits c.self.inside.next c.self.view_is c.self.invariant c.requires.next) c.in-Some.holder.point c.at_mut-entry.result.now c.at_mut-entry.ensures.value).quiet

pub part-requires-clause-room : goal.part-requires-clause-room
part-requires-clause-room g c = its_room (site c.self.inside.points c.self.inside.senders c.self.inside.holders c.self.inside.waits c.self.inside.next c.self.view_is c.self.invariant c.requires.next) c.in-Some.holder.point c.at_mut-entry.result.now c.at_mut-entry.ensures.value c.args.ready.now c.requires.room

pub finish-over-requires-clause-some : goal.finish-over-requires-clause-some
finish-over-requires-clause-some g c = some_left (site c.self.inside.points c.self.inside.senders c.self.inside.holders c.self.inside.waits c.self.inside.next c.self.view_is c.self.invariant c.requires.next) c.args.k c.in-Some.holder c.at_mut-entry.result.now (sym c.take.ensures.value ∙ c.in-Some.is) c.at_mut-entry.ensures.value c.part.new.self c.args.ready.now c.part.new.ready c.part.ensures

pub finish-over-requires-clause-room : goal.finish-over-requires-clause-room
finish-over-requires-clause-room g c = room_left (site c.self.inside.points c.self.inside.senders c.self.inside.holders c.self.inside.waits c.self.inside.next c.self.view_is c.self.invariant c.requires.next) c.in-Some.holder.point c.at_mut-entry.result.now c.at_mut-entry.ensures.value c.in-Some.holder.counted c.part.new.self c.args.ready.now c.part.new.ready c.part.ensures c.requires.room

pub remove_if-requires : goal.remove_if-requires
remove_if-requires g c = λ over. over_there (site c.self.inside.points c.self.inside.senders c.self.inside.holders c.self.inside.waits c.self.inside.next c.self.view_is c.self.invariant c.requires.next) c.in-Some.holder.point _

pub invariant_of-self-2 : goal.invariant_of-self-2
invariant_of-self-2 g c = rw c.remove_if.ensures (holder_left (site c.self.inside.points c.self.inside.senders c.self.inside.holders c.self.inside.waits c.self.inside.next c.self.view_is c.self.invariant c.requires.next) c.args.k c.in-Some.holder c.at_mut-entry.result.now (sym c.take.ensures.value ∙ c.in-Some.is) c.at_mut-entry.ensures.value c.requires.free c.part.new.self c.args.ready.now c.part.new.ready c.part.ensures c.finish-over.new.self c.finish-over.ensures.entry c.finish-over.result c.finish-over.ensures.over c.finish-over.new.ready c.finish-over.ensures.wakers c.finish-over.ensures.counted _ c.take.ensures.rest).0

pub returns-clause-there : goal.returns-clause-there
returns-clause-there g c = sym (known_holder (site c.self.inside.points c.self.inside.senders c.self.inside.holders c.self.inside.waits c.self.inside.next c.self.view_is c.self.invariant c.requires.next) c.args.k _ (sym c.take.ensures.value ∙ c.in-Some.is))

pub returns-clause-left : goal.returns-clause-left
returns-clause-left g c = λ _. rw c.remove_if.ensures (holder_left (site c.self.inside.points c.self.inside.senders c.self.inside.holders c.self.inside.waits c.self.inside.next c.self.view_is c.self.invariant c.requires.next) c.args.k c.in-Some.holder c.at_mut-entry.result.now (sym c.take.ensures.value ∙ c.in-Some.is) c.at_mut-entry.ensures.value c.requires.free c.part.new.self c.args.ready.now c.part.new.ready c.part.ensures c.finish-over.new.self c.finish-over.ensures.entry c.finish-over.result c.finish-over.ensures.over c.finish-over.new.ready c.finish-over.ensures.wakers c.finish-over.ensures.counted _ c.take.ensures.rest).1.1
