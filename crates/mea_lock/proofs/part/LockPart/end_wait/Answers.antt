use Rattle.std.proofs.Common.{sym, ap, ◌∙◌}
use Rattle.mea_lock.specs.Entries.{is_over}
use Rattle.mea_lock.proofs.PartEvents.{site, future_there, its_lock, its_kept, its_room, over_there}
use Rattle.mea_lock.proofs.FutureEvents.{future_may_end, future_holds, future_few, wait_ended}
use Rattle.mea_lock.proofs.part.LockPart.end_wait.Goals as goal

pub remove-future-requires : goal.remove-future-requires
remove-future-requires g c = future_there (site c.self.inside.locks c.self.inside.futures c.self.inside.guards.things c.self.inside.next c.self.view_is c.self.invariant c.requires.next c.ranges.number.fits) c.args.f c.requires.there

pub at_mut-entry-requires : goal.at_mut-entry-requires
at_mut-entry-requires g c = rw c.lock-o.ensures (its_lock (site c.self.inside.locks c.self.inside.futures c.self.inside.guards.things c.self.inside.next c.self.view_is c.self.invariant c.requires.next c.ranges.number.fits) c.args.f c.remove-future.result c.remove-future.ensures.value)

pub end_future-requires-clause-belongs : goal.end_future-requires-clause-belongs
end_future-requires-clause-belongs g c = λ waits. future_may_end (site c.self.inside.locks c.self.inside.futures c.self.inside.guards.things c.self.inside.next c.self.view_is c.self.invariant c.requires.next c.ranges.number.fits) c.args.f c.remove-future.result c.at_mut-entry.result.now c.remove-future.ensures.value (rw c.lock-o.ensures at c.at_mut-entry.ensures.value)

pub end_future-requires-clause-quiet : goal.end_future-requires-clause-quiet
end_future-requires-clause-quiet g c = (its_kept (site c.self.inside.locks c.self.inside.futures c.self.inside.guards.things c.self.inside.next c.self.view_is c.self.invariant c.requires.next c.ranges.number.fits) c.lock-o.result c.at_mut-entry.result.now c.at_mut-entry.ensures.value).quiet

pub end_future-requires-clause-room : goal.end_future-requires-clause-room
end_future-requires-clause-room g c = its_room (site c.self.inside.locks c.self.inside.futures c.self.inside.guards.things c.self.inside.next c.self.view_is c.self.invariant c.requires.next c.ranges.number.fits) c.lock-o.result c.at_mut-entry.result.now c.at_mut-entry.ensures.value c.args.ready.now c.requires.room

pub end_future-requires-clause-held : goal.end_future-requires-clause-held
end_future-requires-clause-held g c = future_holds (site c.self.inside.locks c.self.inside.futures c.self.inside.guards.things c.self.inside.next c.self.view_is c.self.invariant c.requires.next c.ranges.number.fits) c.args.f c.remove-future.result c.at_mut-entry.result.now c.remove-future.ensures.value (rw c.lock-o.ensures at c.at_mut-entry.ensures.value)

pub finish-requires-clause-things : goal.finish-requires-clause-things
finish-requires-clause-things g c = rw c.end_future.ensures.2.entry (future_few (site c.self.inside.locks c.self.inside.futures c.self.inside.guards.things c.self.inside.next c.self.view_is c.self.invariant c.requires.next c.ranges.number.fits) c.args.f c.remove-future.result c.at_mut-entry.result.now c.remove-future.ensures.value (rw c.lock-o.ensures at c.at_mut-entry.ensures.value)).0

pub finish-requires-clause-plain : goal.finish-requires-clause-plain
finish-requires-clause-plain g c = rw (c.end_future.ensures.2.entry, c.is_plain-plain.ensures) (future_few (site c.self.inside.locks c.self.inside.futures c.self.inside.guards.things c.self.inside.next c.self.view_is c.self.invariant c.requires.next c.ranges.number.fits) c.args.f c.remove-future.result c.at_mut-entry.result.now c.remove-future.ensures.value (rw c.lock-o.ensures at c.at_mut-entry.ensures.value)).1

pub remove_if-requires : goal.remove_if-requires
remove_if-requires g c = λ over. over_there (site c.self.inside.locks c.self.inside.futures c.self.inside.guards.things c.self.inside.next c.self.view_is c.self.invariant c.requires.next c.ranges.number.fits) c.lock-o.result c.at_mut-entry.result.now c.at_mut-entry.ensures.value _

pub invariant_of-self : goal.invariant_of-self
invariant_of-self g c = rw (c.remove_if.ensures, c.finish.ensures, c.remove-future.ensures.rest, c.lock-o.ensures, c.is_plain-plain.ensures) (wait_ended (site c.self.inside.locks c.self.inside.futures c.self.inside.guards.things c.self.inside.next c.self.view_is c.self.invariant c.requires.next c.ranges.number.fits) c.args.f c.remove-future.result c.at_mut-entry.result.now c.remove-future.ensures.value (rw c.lock-o.ensures at c.at_mut-entry.ensures.value) c.end_future.ensures.0 c.end_future.new.self c.args.ready.now c.end_future.new.ready c.end_future.ensures.1 c.end_future.ensures.2 c.is_over-over.result
    (sym (c.is_over-over.ensures ∙ ap is_over (rw c.is_plain-plain.ensures at c.finish.ensures)))).0

pub returns : goal.returns
returns g c = rw (c.remove_if.ensures, c.finish.ensures, c.remove-future.ensures.rest, c.lock-o.ensures, c.is_plain-plain.ensures) (wait_ended (site c.self.inside.locks c.self.inside.futures c.self.inside.guards.things c.self.inside.next c.self.view_is c.self.invariant c.requires.next c.ranges.number.fits) c.args.f c.remove-future.result c.at_mut-entry.result.now c.remove-future.ensures.value (rw c.lock-o.ensures at c.at_mut-entry.ensures.value) c.end_future.ensures.0 c.end_future.new.self c.args.ready.now c.end_future.new.ready c.end_future.ensures.1 c.end_future.ensures.2 c.is_over-over.result
    (sym (c.is_over-over.ensures ∙ ap is_over (rw c.is_plain-plain.ensures at c.finish.ensures)))).1
