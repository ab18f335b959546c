use Rattle.std.proofs.Common.{Some, None, not, refl, sym, ap, ◌∙◌}
use Rattle.std.specs.Option.{option_copied_mut}
use Rattle.std.specs.FinMap.{insert}
use Rattle.mea_base.proofs.Maps.{get-there, is_there}
use Rattle.mea_family.specs.Causes.{unknown_unless}
use Rattle.mea_lock.proofs.PartEvents.{site, poll_cause, looked, its_lock, its_room, let_in}
use Rattle.mea_lock.proofs.FutureEvents.{waits_alone, future_may_poll, undone, pended, readied}
use Rattle.mea_family.proofs.Refusals.{unknown, lacking}
use Rattle.mea_lock.proofs.part.LockPart.poll.Goals as goal

pub returns-in_default : goal.returns-in_default
returns-in_default g c = (unknown _ _ (poll_cause (site c.self.inside.locks c.self.inside.futures c.self.inside.guards.things c.self.inside.next c.self.view_is c.self.invariant c.requires.next c.ranges.number.fits) c.args.f c.args.waker None (sym c.get_mut.ensures.value ∙ ap option_copied_mut c.in_default.is)), c.self.view_is, refl)

pub invariant_of-self-then-is_of_condvar : goal.invariant_of-self-then-is_of_condvar
invariant_of-self-then-is_of_condvar g c = (looked (site c.self.inside.locks c.self.inside.futures c.self.inside.guards.things c.self.inside.next c.self.view_is c.self.invariant c.requires.next c.ranges.number.fits) c.args.f c.in-Some.future.now (sym c.get_mut.ensures.value ∙ ap option_copied_mut c.in-Some.is)).0

pub returns-then-is_of_condvar : goal.returns-then-is_of_condvar
returns-then-is_of_condvar g c = (unknown _ _ (poll_cause (site c.self.inside.locks c.self.inside.futures c.self.inside.guards.things c.self.inside.next c.self.view_is c.self.invariant c.requires.next c.ranges.number.fits) c.args.f c.args.waker (Some c.in-Some.future.now) (sym c.get_mut.ensures.value ∙ ap option_copied_mut c.in-Some.is) ∙ ap (λ b. unknown_unless (not b)) (sym c.is_of_condvar.ensures ∙ c.if-is_of_condvar.true)), (looked (site c.self.inside.locks c.self.inside.futures c.self.inside.guards.things c.self.inside.next c.self.view_is c.self.invariant c.requires.next c.ranges.number.fits) c.args.f c.in-Some.future.now (sym c.get_mut.ensures.value ∙ ap option_copied_mut c.in-Some.is)).1, refl)

pub at_mut-entry-requires : goal.at_mut-entry-requires
at_mut-entry-requires g c = rw c.guard-guard.ensures (its_lock (site c.self.inside.locks c.self.inside.futures c.self.inside.guards.things c.self.inside.next c.self.view_is c.self.invariant c.requires.next c.ranges.number.fits) c.args.f c.in-Some.future.now (sym c.get_mut.ensures.value ∙ ap option_copied_mut c.in-Some.is))

pub poll-requires-clause-allowed : goal.poll-requires-clause-allowed
poll-requires-clause-allowed g c = future_may_poll (site c.self.inside.locks c.self.inside.futures c.self.inside.guards.things c.self.inside.next c.self.view_is c.self.invariant c.requires.next c.ranges.number.fits) c.args.f c.in-Some.future.now c.at_mut-entry.result.now (sym c.get_mut.ensures.value ∙ ap option_copied_mut c.in-Some.is) (rw c.guard-guard.ensures at c.at_mut-entry.ensures.value)

pub poll-requires-clause-room : goal.poll-requires-clause-room
poll-requires-clause-room g c = its_room (site c.self.inside.locks c.self.inside.futures c.self.inside.guards.things c.self.inside.next c.self.view_is c.self.invariant c.requires.next c.ranges.number.fits) c.guard-guard.result.lock c.at_mut-entry.result.now c.at_mut-entry.ensures.value c.args.ready.now c.requires.room

pub invariant_of-self-in_default-make_room : goal.invariant_of-self-in_default-make_room
invariant_of-self-in_default-make_room g c = rw c.guard-guard.ensures (undone (site c.self.inside.locks c.self.inside.futures c.self.inside.guards.things c.self.inside.next c.self.view_is c.self.invariant c.requires.next c.ranges.number.fits) c.args.f c.in-Some.future.now c.at_mut-entry.result.now (sym c.get_mut.ensures.value ∙ ap option_copied_mut c.in-Some.is) (rw c.guard-guard.ensures at c.at_mut-entry.ensures.value) _ _ _ refl refl c.make_room.ensures.things).0

pub returns-in_default-make_room : goal.returns-in_default-make_room
returns-in_default-make_room g c = (lacking _ _ (poll_cause (site c.self.inside.locks c.self.inside.futures c.self.inside.guards.things c.self.inside.next c.self.view_is c.self.invariant c.requires.next c.ranges.number.fits) c.args.f c.args.waker (Some c.in-Some.future.now) (sym c.get_mut.ensures.value ∙ ap option_copied_mut c.in-Some.is) ∙ ap (λ b. unknown_unless (not b)) (sym c.is_of_condvar.ensures ∙ c.if-is_of_condvar.false)) (λ none. none), rw c.guard-guard.ensures (undone (site c.self.inside.locks c.self.inside.futures c.self.inside.guards.things c.self.inside.next c.self.view_is c.self.invariant c.requires.next c.ranges.number.fits) c.args.f c.in-Some.future.now c.at_mut-entry.result.now (sym c.get_mut.ensures.value ∙ ap option_copied_mut c.in-Some.is) (rw c.guard-guard.ensures at c.at_mut-entry.ensures.value) _ _ _ refl refl c.make_room.ensures.things).1, refl)

pub invariant_of-self-in-Err : goal.invariant_of-self-in-Err
invariant_of-self-in-Err g c = rw c.guard-guard.ensures (undone (site c.self.inside.locks c.self.inside.futures c.self.inside.guards.things c.self.inside.next c.self.view_is c.self.invariant c.requires.next c.ranges.number.fits) c.args.f c.in-Some.future.now c.at_mut-entry.result.now (sym c.get_mut.ensures.value ∙ ap option_copied_mut c.in-Some.is) (rw c.guard-guard.ensures at c.at_mut-entry.ensures.value) _ _ _ c.in-Err.ensures.err.0 c.in-Err.ensures.err.1 c.make_room.ensures.things).0

pub returns-in-Err : goal.returns-in-Err
returns-in-Err g c = (lacking _ _ (poll_cause (site c.self.inside.locks c.self.inside.futures c.self.inside.guards.things c.self.inside.next c.self.view_is c.self.invariant c.requires.next c.ranges.number.fits) c.args.f c.args.waker (Some c.in-Some.future.now) (sym c.get_mut.ensures.value ∙ ap option_copied_mut c.in-Some.is) ∙ ap (λ b. unknown_unless (not b)) (sym c.is_of_condvar.ensures ∙ c.if-is_of_condvar.false)) (λ none. none), rw c.guard-guard.ensures (undone (site c.self.inside.locks c.self.inside.futures c.self.inside.guards.things c.self.inside.next c.self.view_is c.self.invariant c.requires.next c.ranges.number.fits) c.args.f c.in-Some.future.now c.at_mut-entry.result.now (sym c.get_mut.ensures.value ∙ ap option_copied_mut c.in-Some.is) (rw c.guard-guard.ensures at c.at_mut-entry.ensures.value) _ _ _ c.in-Err.ensures.err.0 c.in-Err.ensures.err.1 c.make_room.ensures.things).1, c.in-Err.ensures.err.2)

pub invariant_of-self-in-Ok-Pending : goal.invariant_of-self-in-Ok-Pending
invariant_of-self-in-Ok-Pending g c = let polled = rw c.in-Ok-Pending.field-0-is at c.in-Ok-Pending.ensures.polls in
    rw c.guard-guard.ensures (pended (site c.self.inside.locks c.self.inside.futures c.self.inside.guards.things c.self.inside.next c.self.view_is c.self.invariant c.requires.next c.ranges.number.fits) c.args.f c.in-Some.future.now c.at_mut-entry.result.now (sym c.get_mut.ensures.value ∙ ap option_copied_mut c.in-Some.is) (rw c.guard-guard.ensures at c.at_mut-entry.ensures.value) (waits_alone (site c.self.inside.locks c.self.inside.futures c.self.inside.guards.things c.self.inside.next c.self.view_is c.self.invariant c.requires.next c.ranges.number.fits) c.args.f c.in-Some.future.now c.at_mut-entry.result.now (sym c.get_mut.ensures.value ∙ ap option_copied_mut c.in-Some.is) (rw c.guard-guard.ensures at c.at_mut-entry.ensures.value) (sym c.is_of_condvar.ensures ∙ c.if-is_of_condvar.false)) c.args.waker c.poll.new.self c.poll.new.future c.args.ready.now c.poll.new.ready polled _ c.make_room.ensures.things).0

pub returns-in-Ok-Pending : goal.returns-in-Ok-Pending
returns-in-Ok-Pending g c = let polled = rw c.in-Ok-Pending.field-0-is at c.in-Ok-Pending.ensures.polls in
    ((poll_cause (site c.self.inside.locks c.self.inside.futures c.self.inside.guards.things c.self.inside.next c.self.view_is c.self.invariant c.requires.next c.ranges.number.fits) c.args.f c.args.waker (Some c.in-Some.future.now) (sym c.get_mut.ensures.value ∙ ap option_copied_mut c.in-Some.is) ∙ ap (λ b. unknown_unless (not b)) (sym c.is_of_condvar.ensures ∙ c.if-is_of_condvar.false)), rw c.guard-guard.ensures (pended (site c.self.inside.locks c.self.inside.futures c.self.inside.guards.things c.self.inside.next c.self.view_is c.self.invariant c.requires.next c.ranges.number.fits) c.args.f c.in-Some.future.now c.at_mut-entry.result.now (sym c.get_mut.ensures.value ∙ ap option_copied_mut c.in-Some.is) (rw c.guard-guard.ensures at c.at_mut-entry.ensures.value) (waits_alone (site c.self.inside.locks c.self.inside.futures c.self.inside.guards.things c.self.inside.next c.self.view_is c.self.invariant c.requires.next c.ranges.number.fits) c.args.f c.in-Some.future.now c.at_mut-entry.result.now (sym c.get_mut.ensures.value ∙ ap option_copied_mut c.in-Some.is) (rw c.guard-guard.ensures at c.at_mut-entry.ensures.value) (sym c.is_of_condvar.ensures ∙ c.if-is_of_condvar.false)) c.args.waker c.poll.new.self c.poll.new.future c.args.ready.now c.poll.new.ready polled _ c.make_room.ensures.things).1)

pub insert-requires : goal.insert-requires
insert-requires g c = let polled = rw c.in-Ok-Ready.field-0-is at c.in-Ok-Ready.ensures.polls in
    c.in-Ok.ensures.room (c.may_have.ensures ∙ let_in c.at_mut-entry.result.now.lock _ c.in-Some.future.now.holds _ polled.polls.lets_in)

pub remove-requires : goal.remove-requires
remove-requires g c = is_there _ _ (get-there c.self.inside.futures c.args.f _)

pub invariant_of-self-in-Ok-Ready : goal.invariant_of-self-in-Ok-Ready
invariant_of-self-in-Ok-Ready g c = let polled = rw c.in-Ok-Ready.field-0-is at c.in-Ok-Ready.ensures.polls in
    rw c.guard-guard.ensures (readied (site c.self.inside.locks c.self.inside.futures c.self.inside.guards.things c.self.inside.next c.self.view_is c.self.invariant c.requires.next c.ranges.number.fits) c.args.f c.in-Some.future.now c.at_mut-entry.result.now (sym c.get_mut.ensures.value ∙ ap option_copied_mut c.in-Some.is) (rw c.guard-guard.ensures at c.at_mut-entry.ensures.value) (waits_alone (site c.self.inside.locks c.self.inside.futures c.self.inside.guards.things c.self.inside.next c.self.view_is c.self.invariant c.requires.next c.ranges.number.fits) c.args.f c.in-Some.future.now c.at_mut-entry.result.now (sym c.get_mut.ensures.value ∙ ap option_copied_mut c.in-Some.is) (rw c.guard-guard.ensures at c.at_mut-entry.ensures.value) (sym c.is_of_condvar.ensures ∙ c.if-is_of_condvar.false)) c.args.waker c.poll.new.self c.poll.new.future c.args.ready.now c.poll.new.ready _ polled _ c.remove.ensures.rest _ (rw c.guard-guard.ensures at (c.insert.ensures.things ∙ ap (λ gs. insert gs c.args.number c.guard-guard.result) c.make_room.ensures.things))).0

pub returns-in-Ok-Ready : goal.returns-in-Ok-Ready
returns-in-Ok-Ready g c = let polled = rw c.in-Ok-Ready.field-0-is at c.in-Ok-Ready.ensures.polls in
    ((poll_cause (site c.self.inside.locks c.self.inside.futures c.self.inside.guards.things c.self.inside.next c.self.view_is c.self.invariant c.requires.next c.ranges.number.fits) c.args.f c.args.waker (Some c.in-Some.future.now) (sym c.get_mut.ensures.value ∙ ap option_copied_mut c.in-Some.is) ∙ ap (λ b. unknown_unless (not b)) (sym c.is_of_condvar.ensures ∙ c.if-is_of_condvar.false)), rw c.guard-guard.ensures (readied (site c.self.inside.locks c.self.inside.futures c.self.inside.guards.things c.self.inside.next c.self.view_is c.self.invariant c.requires.next c.ranges.number.fits) c.args.f c.in-Some.future.now c.at_mut-entry.result.now (sym c.get_mut.ensures.value ∙ ap option_copied_mut c.in-Some.is) (rw c.guard-guard.ensures at c.at_mut-entry.ensures.value) (waits_alone (site c.self.inside.locks c.self.inside.futures c.self.inside.guards.things c.self.inside.next c.self.view_is c.self.invariant c.requires.next c.ranges.number.fits) c.args.f c.in-Some.future.now c.at_mut-entry.result.now (sym c.get_mut.ensures.value ∙ ap option_copied_mut c.in-Some.is) (rw c.guard-guard.ensures at c.at_mut-entry.ensures.value) (sym c.is_of_condvar.ensures ∙ c.if-is_of_condvar.false)) c.args.waker c.poll.new.self c.poll.new.future c.args.ready.now c.poll.new.ready _ polled _ c.remove.ensures.rest _ (rw c.guard-guard.ensures at (c.insert.ensures.things ∙ ap (λ gs. insert gs c.args.number c.guard-guard.result) c.make_room.ensures.things))).1)
