use Rattle.std.proofs.Common.{refl, ap, ◌∙◌}
use Rattle.std.specs.FinMap.{insert}
use Rattle.mea_base.proofs.Maps.{get-there, is_there}
use Rattle.mea_lock.proofs.PartEvents.{site, condvar_future_there, its_lock, its_kept, its_room, may_have_it}
use Rattle.mea_lock.proofs.FutureEvents.{condvar_writes, future_may_poll, future_holds, undone, pended_until, asks_polled, until_ready, until_lays, lays_may}
use Rattle.mea_lock.proofs.part.LockPart.poll_until.Goals as goal

pub at_mut-future-requires : goal.at_mut-future-requires
at_mut-future-requires g c = condvar_future_there (site c.self.inside.locks c.self.inside.futures c.self.inside.guards.things c.self.inside.next c.self.view_is c.self.invariant c.requires.next c.ranges.number.fits) c.args.f c.requires.there

pub at_mut-entry-requires : goal.at_mut-entry-requires
at_mut-entry-requires g c = rw c.guard-guard.ensures (its_lock (site c.self.inside.locks c.self.inside.futures c.self.inside.guards.things c.self.inside.next c.self.view_is c.self.invariant c.requires.next c.ranges.number.fits) c.args.f c.at_mut-future.result.now c.at_mut-future.ensures.value)

pub poll_until-requires-clause-allowed : goal.poll_until-requires-clause-allowed
poll_until-requires-clause-allowed g c = future_may_poll (site c.self.inside.locks c.self.inside.futures c.self.inside.guards.things c.self.inside.next c.self.view_is c.self.invariant c.requires.next c.ranges.number.fits) c.args.f c.at_mut-future.result.now c.at_mut-entry.result.now c.at_mut-future.ensures.value (rw c.guard-guard.ensures at c.at_mut-entry.ensures.value)

pub poll_until-requires-clause-held : goal.poll_until-requires-clause-held
poll_until-requires-clause-held g c = future_holds (site c.self.inside.locks c.self.inside.futures c.self.inside.guards.things c.self.inside.next c.self.view_is c.self.invariant c.requires.next c.ranges.number.fits) c.args.f c.at_mut-future.result.now c.at_mut-entry.result.now c.at_mut-future.ensures.value (rw c.guard-guard.ensures at c.at_mut-entry.ensures.value)

pub poll_until-requires-clause-writes : goal.poll_until-requires-clause-writes
poll_until-requires-clause-writes g c = condvar_writes (site c.self.inside.locks c.self.inside.futures c.self.inside.guards.things c.self.inside.next c.self.view_is c.self.invariant c.requires.next c.ranges.number.fits) c.args.f c.at_mut-future.result.now c.at_mut-entry.result.now c.at_mut-future.ensures.value (rw c.guard-guard.ensures at c.at_mut-entry.ensures.value) c.requires.there

pub poll_until-requires-clause-quiet : goal.poll_until-requires-clause-quiet
poll_until-requires-clause-quiet g c = (its_kept (site c.self.inside.locks c.self.inside.futures c.self.inside.guards.things c.self.inside.next c.self.view_is c.self.invariant c.requires.next c.ranges.number.fits) c.guard-guard.result.lock c.at_mut-entry.result.now c.at_mut-entry.ensures.value).quiet

pub poll_until-requires-clause-room : goal.poll_until-requires-clause-room
poll_until-requires-clause-room g c = its_room (site c.self.inside.locks c.self.inside.futures c.self.inside.guards.things c.self.inside.next c.self.view_is c.self.invariant c.requires.next c.ranges.number.fits) c.guard-guard.result.lock c.at_mut-entry.result.now c.at_mut-entry.ensures.value c.args.ready.now c.requires.room

pub invariant_of-self : goal.invariant_of-self
invariant_of-self g c = rw c.guard-guard.ensures (undone (site c.self.inside.locks c.self.inside.futures c.self.inside.guards.things c.self.inside.next c.self.view_is c.self.invariant c.requires.next c.ranges.number.fits) c.args.f c.at_mut-future.result.now c.at_mut-entry.result.now c.at_mut-future.ensures.value (rw c.guard-guard.ensures at c.at_mut-entry.ensures.value) _ _ _ refl refl c.make_room.ensures.things).0

pub returns-in_default-clause-err : goal.returns-in_default-clause-err
returns-in_default-clause-err g c = rw c.guard-guard.ensures ((undone (site c.self.inside.locks c.self.inside.futures c.self.inside.guards.things c.self.inside.next c.self.view_is c.self.invariant c.requires.next c.ranges.number.fits) c.args.f c.at_mut-future.result.now c.at_mut-entry.result.now c.at_mut-future.ensures.value (rw c.guard-guard.ensures at c.at_mut-entry.ensures.value) _ _ _ refl refl c.make_room.ensures.things).1, refl)

pub invariant_of-self-in-Err : goal.invariant_of-self-in-Err
invariant_of-self-in-Err g c = rw c.guard-guard.ensures (undone (site c.self.inside.locks c.self.inside.futures c.self.inside.guards.things c.self.inside.next c.self.view_is c.self.invariant c.requires.next c.ranges.number.fits) c.args.f c.at_mut-future.result.now c.at_mut-entry.result.now c.at_mut-future.ensures.value (rw c.guard-guard.ensures at c.at_mut-entry.ensures.value) _ _ _ c.in-Err.ensures.err.0 c.in-Err.ensures.err.1 c.make_room.ensures.things).0

pub returns-in-Err-clause-err : goal.returns-in-Err-clause-err
returns-in-Err-clause-err g c = (rw c.guard-guard.ensures (undone (site c.self.inside.locks c.self.inside.futures c.self.inside.guards.things c.self.inside.next c.self.view_is c.self.invariant c.requires.next c.ranges.number.fits) c.args.f c.at_mut-future.result.now c.at_mut-entry.result.now c.at_mut-future.ensures.value (rw c.guard-guard.ensures at c.at_mut-entry.ensures.value) _ _ _ c.in-Err.ensures.err.0 c.in-Err.ensures.err.1 c.make_room.ensures.things).1, c.in-Err.ensures.err.2)

pub insert-requires : goal.insert-requires
insert-requires g c = c.in-Ok.ensures.room (c.may_have.ensures ∙ may_have_it c.at_mut-entry.result.now c.args.f c.at_mut-future.result.now c.args.waker _ _ _ _ (rw c.in-Ok-Ready.field-0-is at c.in-Ok-Ready.ensures.polls).1)

pub remove-requires : goal.remove-requires
remove-requires g c = is_there _ _ (get-there c.self.inside.futures c.args.f _)

pub invariant_of-self-in-Ok-Ready : goal.invariant_of-self-in-Ok-Ready
invariant_of-self-in-Ok-Ready g c = let polled = rw c.in-Ok-Ready.field-0-is at c.in-Ok-Ready.ensures.polls in
    rw c.guard-guard.ensures (until_ready (site c.self.inside.locks c.self.inside.futures c.self.inside.guards.things c.self.inside.next c.self.view_is c.self.invariant c.requires.next c.ranges.number.fits) c.args.f c.at_mut-future.result.now c.at_mut-entry.result.now c.at_mut-future.ensures.value (rw c.guard-guard.ensures at c.at_mut-entry.ensures.value) c.args.waker c.args.until c.poll_until.new.self c.poll_until.new.future c.args.ready.now c.poll_until.new.ready polled.0 polled.1 _ c.remove.ensures.rest _ (rw c.guard-guard.ensures at (c.insert.ensures.things ∙ ap (λ gs. insert gs c.args.number c.guard-guard.result) c.make_room.ensures.things))).0

pub returns-in-Ok-Ready-clause-ok : goal.returns-in-Ok-Ready-clause-ok
returns-in-Ok-Ready-clause-ok g c = let polled = rw c.in-Ok-Ready.field-0-is at c.in-Ok-Ready.ensures.polls in
    rw c.guard-guard.ensures (until_ready (site c.self.inside.locks c.self.inside.futures c.self.inside.guards.things c.self.inside.next c.self.view_is c.self.invariant c.requires.next c.ranges.number.fits) c.args.f c.at_mut-future.result.now c.at_mut-entry.result.now c.at_mut-future.ensures.value (rw c.guard-guard.ensures at c.at_mut-entry.ensures.value) c.args.waker c.args.until c.poll_until.new.self c.poll_until.new.future c.args.ready.now c.poll_until.new.ready polled.0 polled.1 _ c.remove.ensures.rest _ (rw c.guard-guard.ensures at (c.insert.ensures.things ∙ ap (λ gs. insert gs c.args.number c.guard-guard.result) c.make_room.ensures.things))).1

pub invariant_of-self-in-Ok-Asks : goal.invariant_of-self-in-Ok-Asks
invariant_of-self-in-Ok-Asks g c = let polled = rw c.in-Ok-Asks.field-0-is at c.in-Ok-Asks.ensures.polls in
    rw c.guard-guard.ensures (pended_until (site c.self.inside.locks c.self.inside.futures c.self.inside.guards.things c.self.inside.next c.self.view_is c.self.invariant c.requires.next c.ranges.number.fits) c.args.f c.at_mut-future.result.now c.at_mut-entry.result.now c.at_mut-future.ensures.value (rw c.guard-guard.ensures at c.at_mut-entry.ensures.value) polled.0 c.args.waker c.poll_until.new.self c.poll_until.new.future c.args.ready.now c.poll_until.new.ready polled.1 c.args.until _ c.make_room.ensures.things).0

pub returns-in-Ok-Asks-clause-ok : goal.returns-in-Ok-Asks-clause-ok
returns-in-Ok-Asks-clause-ok g c = let polled = rw c.in-Ok-Asks.field-0-is at c.in-Ok-Asks.ensures.polls in
    rw c.guard-guard.ensures (pended_until (site c.self.inside.locks c.self.inside.futures c.self.inside.guards.things c.self.inside.next c.self.view_is c.self.invariant c.requires.next c.ranges.number.fits) c.args.f c.at_mut-future.result.now c.at_mut-entry.result.now c.at_mut-future.ensures.value (rw c.guard-guard.ensures at c.at_mut-entry.ensures.value) polled.0 c.args.waker c.poll_until.new.self c.poll_until.new.future c.args.ready.now c.poll_until.new.ready polled.1 c.args.until _ c.make_room.ensures.things).1

pub returns-in-Ok-Asks-clause-asked : goal.returns-in-Ok-Asks-clause-asked
returns-in-Ok-Asks-clause-asked g c = let polled = rw c.in-Ok-Asks.field-0-is at c.in-Ok-Asks.ensures.polls in
    asks_polled (site c.self.inside.locks c.self.inside.futures c.self.inside.guards.things c.self.inside.next c.self.view_is c.self.invariant c.requires.next c.ranges.number.fits) c.args.f c.at_mut-future.result.now c.at_mut-entry.result.now c.at_mut-future.ensures.value (rw c.guard-guard.ensures at c.at_mut-entry.ensures.value) c.args.waker c.poll_until.new.self c.poll_until.new.future c.args.ready.now c.poll_until.new.ready polled.0 polled.1

pub invariant_of-self-in-Ok-Lays : goal.invariant_of-self-in-Ok-Lays
invariant_of-self-in-Ok-Lays g c = let polled = rw c.in-Ok-Lays.field-0-is at c.in-Ok-Lays.ensures.polls in
    rw c.guard-guard.ensures (until_lays (site c.self.inside.locks c.self.inside.futures c.self.inside.guards.things c.self.inside.next c.self.view_is c.self.invariant c.requires.next c.ranges.number.fits) c.args.f c.at_mut-future.result.now c.at_mut-entry.result.now c.at_mut-future.ensures.value (rw c.guard-guard.ensures at c.at_mut-entry.ensures.value) c.requires.there c.args.waker c.args.until c.poll_until.new.self c.poll_until.new.future c.args.ready.now c.poll_until.new.ready polled.0 polled.1 polled.2 polled.3 polled.4 polled.5 polled.6 polled.7 polled.8 polled.9 _ c.make_room.ensures.things).1.0

pub returns-in-Ok-Lays-clause-ok : goal.returns-in-Ok-Lays-clause-ok
returns-in-Ok-Lays-clause-ok g c = let polled = rw c.in-Ok-Lays.field-0-is at c.in-Ok-Lays.ensures.polls in
    rw c.guard-guard.ensures (until_lays (site c.self.inside.locks c.self.inside.futures c.self.inside.guards.things c.self.inside.next c.self.view_is c.self.invariant c.requires.next c.ranges.number.fits) c.args.f c.at_mut-future.result.now c.at_mut-entry.result.now c.at_mut-future.ensures.value (rw c.guard-guard.ensures at c.at_mut-entry.ensures.value) c.requires.there c.args.waker c.args.until c.poll_until.new.self c.poll_until.new.future c.args.ready.now c.poll_until.new.ready polled.0 polled.1 polled.2 polled.3 polled.4 polled.5 polled.6 polled.7 polled.8 polled.9 _ c.make_room.ensures.things).1.1

pub returns-in-Ok-Lays-clause-asked : goal.returns-in-Ok-Lays-clause-asked
returns-in-Ok-Lays-clause-asked g c = let polled = rw c.in-Ok-Lays.field-0-is at c.in-Ok-Lays.ensures.polls in
    (until_lays (site c.self.inside.locks c.self.inside.futures c.self.inside.guards.things c.self.inside.next c.self.view_is c.self.invariant c.requires.next c.ranges.number.fits) c.args.f c.at_mut-future.result.now c.at_mut-entry.result.now c.at_mut-future.ensures.value (rw c.guard-guard.ensures at c.at_mut-entry.ensures.value) c.requires.there c.args.waker c.args.until c.poll_until.new.self c.poll_until.new.future c.args.ready.now c.poll_until.new.ready polled.0 polled.1 polled.2 polled.3 polled.4 polled.5 polled.6 polled.7 polled.8 polled.9 _ c.make_room.ensures.things).0

pub returns-in-Ok-Lays-clause-lays : goal.returns-in-Ok-Lays-clause-lays
returns-in-Ok-Lays-clause-lays g c = λ _. lays_may c.args.until _ (rw c.in-Ok-Lays.field-0-is at c.in-Ok-Lays.ensures.polls).5
