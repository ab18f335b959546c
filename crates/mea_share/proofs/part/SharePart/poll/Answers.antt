use Rattle.std.proofs.Common.{rules, ap, sym, refl, ◌∙◌}
use Rattle.mea_family.specs.Causes.{unknown_unless}
use Rattle.mea_base.proofs.Maps.{get-there, is_there}
use Rattle.mea_share_model.specs.Actions.{Poll}
use Rattle.mea_share.proofs.Sites.{site, no_future, unknown, lacks_memory}
use Rattle.mea_share.proofs.LookUps.{may_poll, same_both}
use Rattle.mea_share.proofs.Events.{belongs, pended, queued_now, readied_now, failed}
use Rattle.mea_share.proofs.part.SharePart.poll.Goals as goal

pub returns-in_default : goal.returns-in_default
returns-in_default c = (unknown (site c.self.inside.admissions c.self.inside.futures c.self.inside.permits.things c.self.inside.next c.self.view_is c.self.invariant c.requires c.ranges.number.fits) (Poll c.args.f c.args.waker) (ap unknown_unless (no_future (site c.self.inside.admissions c.self.inside.futures c.self.inside.permits.things c.self.inside.next c.self.view_is c.self.invariant c.requires c.ranges.number.fits) c.args.f (sym c.in_default.ensures.value))), search rules, refl)

pub poll-requires : goal.poll-requires
poll-requires c = belongs (site c.self.inside.admissions c.self.inside.futures c.self.inside.permits.things c.self.inside.next c.self.view_is c.self.invariant c.requires c.ranges.number.fits) c.admission.result c.at_mut-entry.result.now c.at_mut-entry.ensures.value c.args.f c.in-Some.future.now (sym c.in-Some.ensures.value) (sym c.admission.ensures)

pub invariant_of-self-in_default-poll : goal.invariant_of-self-in_default-poll
invariant_of-self-in_default-poll c = (failed (site c.self.inside.admissions c.self.inside.futures c.self.inside.permits.things c.self.inside.next c.self.view_is c.self.invariant c.requires c.ranges.number.fits) c.admission.result c.at_mut-entry.result.now c.at_mut-entry.ensures.value c.args.f c.in-Some.future.now (sym c.in-Some.ensures.value) (sym c.admission.ensures) c.poll.new.self c.poll.new.future c.in_default-poll.ensures.err.0 c.in_default-poll.ensures.same c.in_default-poll.ensures.err.1).0

pub returns-in_default-poll : goal.returns-in_default-poll
returns-in_default-poll c = (lacks_memory (site c.self.inside.admissions c.self.inside.futures c.self.inside.permits.things c.self.inside.next c.self.view_is c.self.invariant c.requires c.ranges.number.fits) (Poll c.args.f c.args.waker) (may_poll (site c.self.inside.admissions c.self.inside.futures c.self.inside.permits.things c.self.inside.next c.self.view_is c.self.invariant c.requires c.ranges.number.fits) c.args.f c.args.waker c.in-Some.future.now (sym c.in-Some.ensures.value)) (λ no. no), (failed (site c.self.inside.admissions c.self.inside.futures c.self.inside.permits.things c.self.inside.next c.self.view_is c.self.invariant c.requires c.ranges.number.fits) c.admission.result c.at_mut-entry.result.now c.at_mut-entry.ensures.value c.args.f c.in-Some.future.now (sym c.in-Some.ensures.value) (sym c.admission.ensures) c.poll.new.self c.poll.new.future c.in_default-poll.ensures.err.0 c.in_default-poll.ensures.same c.in_default-poll.ensures.err.1).1, c.in_default-poll.ensures.err.2)

pub invariant_of-self-then-would_queue : goal.invariant_of-self-then-would_queue
invariant_of-self-then-would_queue c = (queued_now (site c.self.inside.admissions c.self.inside.futures c.self.inside.permits.things c.self.inside.next c.self.view_is c.self.invariant c.requires c.ranges.number.fits) c.admission.result c.at_mut-entry.result.now c.at_mut-entry.ensures.value c.args.f c.in-Some.future.now (sym c.in-Some.ensures.value) (sym c.admission.ensures) _ c.poll.new.self c.poll.new.future c.args.waker c.args.ready.now c.poll.new.ready c.in-Ok.ensures.polls (sym c.would_queue.ensures ∙ c.if-would_queue.true)).0

pub returns-then-would_queue : goal.returns-then-would_queue
returns-then-would_queue c = (queued_now (site c.self.inside.admissions c.self.inside.futures c.self.inside.permits.things c.self.inside.next c.self.view_is c.self.invariant c.requires c.ranges.number.fits) c.admission.result c.at_mut-entry.result.now c.at_mut-entry.ensures.value c.args.f c.in-Some.future.now (sym c.in-Some.ensures.value) (sym c.admission.ensures) _ c.poll.new.self c.poll.new.future c.args.waker c.args.ready.now c.poll.new.ready c.in-Ok.ensures.polls (sym c.would_queue.ensures ∙ c.if-would_queue.true)).1

pub invariant_of-self-in_default-permit : goal.invariant_of-self-in_default-permit
invariant_of-self-in_default-permit c = (same_both (site c.self.inside.admissions c.self.inside.futures c.self.inside.permits.things c.self.inside.next c.self.view_is c.self.invariant c.requires c.ranges.number.fits) c.admission.result c.at_mut-entry.result.now c.args.f c.in-Some.future.now c.at_mut-entry.ensures.value (sym c.in-Some.ensures.value)).0

pub returns-in_default-permit : goal.returns-in_default-permit
returns-in_default-permit c = (lacks_memory (site c.self.inside.admissions c.self.inside.futures c.self.inside.permits.things c.self.inside.next c.self.view_is c.self.invariant c.requires c.ranges.number.fits) (Poll c.args.f c.args.waker) (may_poll (site c.self.inside.admissions c.self.inside.futures c.self.inside.permits.things c.self.inside.next c.self.view_is c.self.invariant c.requires c.ranges.number.fits) c.args.f c.args.waker c.in-Some.future.now (sym c.in-Some.ensures.value)) (λ no. no), (same_both (site c.self.inside.admissions c.self.inside.futures c.self.inside.permits.things c.self.inside.next c.self.view_is c.self.invariant c.requires c.ranges.number.fits) c.admission.result c.at_mut-entry.result.now c.args.f c.in-Some.future.now c.at_mut-entry.ensures.value (sym c.in-Some.ensures.value)).1, refl)

pub invariant_of-self-in_default-reserve : goal.invariant_of-self-in_default-reserve
invariant_of-self-in_default-reserve c = rw c.reserve.ensures.things (same_both (site c.self.inside.admissions c.self.inside.futures c.self.inside.permits.things c.self.inside.next c.self.view_is c.self.invariant c.requires c.ranges.number.fits) c.admission.result c.at_mut-entry.result.now c.args.f c.in-Some.future.now c.at_mut-entry.ensures.value (sym c.in-Some.ensures.value)).0

pub returns-in_default-reserve : goal.returns-in_default-reserve
returns-in_default-reserve c = rw c.reserve.ensures.things (lacks_memory (site c.self.inside.admissions c.self.inside.futures c.self.inside.permits.things c.self.inside.next c.self.view_is c.self.invariant c.requires c.ranges.number.fits) (Poll c.args.f c.args.waker) (may_poll (site c.self.inside.admissions c.self.inside.futures c.self.inside.permits.things c.self.inside.next c.self.view_is c.self.invariant c.requires c.ranges.number.fits) c.args.f c.args.waker c.in-Some.future.now (sym c.in-Some.ensures.value)) (λ no. no), (same_both (site c.self.inside.admissions c.self.inside.futures c.self.inside.permits.things c.self.inside.next c.self.view_is c.self.invariant c.requires c.ranges.number.fits) c.admission.result c.at_mut-entry.result.now c.args.f c.in-Some.future.now c.at_mut-entry.ensures.value (sym c.in-Some.ensures.value)).1, refl)

pub poll-requires-2 : goal.poll-requires-2
poll-requires-2 c = belongs (site c.self.inside.admissions c.self.inside.futures c.self.inside.permits.things c.self.inside.next c.self.view_is c.self.invariant c.requires c.ranges.number.fits) c.admission.result c.at_mut-entry.result.now c.at_mut-entry.ensures.value c.args.f c.in-Some.future.now (sym c.in-Some.ensures.value) (sym c.admission.ensures)

pub invariant_of-self-in-Err-poll-2 : goal.invariant_of-self-in-Err-poll-2
invariant_of-self-in-Err-poll-2 c = rw c.reserve.ensures.things (failed (site c.self.inside.admissions c.self.inside.futures c.self.inside.permits.things c.self.inside.next c.self.view_is c.self.invariant c.requires c.ranges.number.fits) c.admission.result c.at_mut-entry.result.now c.at_mut-entry.ensures.value c.args.f c.in-Some.future.now (sym c.in-Some.ensures.value) (sym c.admission.ensures) c.poll-2.new.self c.poll-2.new.future c.in-Err.ensures.err.0 c.in-Err.ensures.same c.in-Err.ensures.err.1).0

pub returns-in-Err : goal.returns-in-Err
returns-in-Err c = (lacks_memory (site c.self.inside.admissions c.self.inside.futures c.self.inside.permits.things c.self.inside.next c.self.view_is c.self.invariant c.requires c.ranges.number.fits) (Poll c.args.f c.args.waker) (may_poll (site c.self.inside.admissions c.self.inside.futures c.self.inside.permits.things c.self.inside.next c.self.view_is c.self.invariant c.requires c.ranges.number.fits) c.args.f c.args.waker c.in-Some.future.now (sym c.in-Some.ensures.value)) (λ no. no), rw c.reserve.ensures.things (failed (site c.self.inside.admissions c.self.inside.futures c.self.inside.permits.things c.self.inside.next c.self.view_is c.self.invariant c.requires c.ranges.number.fits) c.admission.result c.at_mut-entry.result.now c.at_mut-entry.ensures.value c.args.f c.in-Some.future.now (sym c.in-Some.ensures.value) (sym c.admission.ensures) c.poll-2.new.self c.poll-2.new.future c.in-Err.ensures.err.0 c.in-Err.ensures.same c.in-Err.ensures.err.1).1, c.in-Err.ensures.err.2)

pub invariant_of-self-in-Pending-1 : goal.invariant_of-self-in-Pending-1
invariant_of-self-in-Pending-1 c = let polled = rw c.in-Ok-Pending.field-0-is at c.in-Ok-Pending.ensures.polls in
    rw c.reserve.ensures.things (pended (site c.self.inside.admissions c.self.inside.futures c.self.inside.permits.things c.self.inside.next c.self.view_is c.self.invariant c.requires c.ranges.number.fits) c.admission.result c.at_mut-entry.result.now c.at_mut-entry.ensures.value c.args.f c.in-Some.future.now (sym c.in-Some.ensures.value) (sym c.admission.ensures) c.poll-2.new.self c.poll-2.new.future c.args.waker c.args.ready.now c.poll-2.new.ready polled).0

pub returns-in-Ok-Pending : goal.returns-in-Ok-Pending
returns-in-Ok-Pending c = let polled = rw c.in-Ok-Pending.field-0-is at c.in-Ok-Pending.ensures.polls in
    rw c.reserve.ensures.things (pended (site c.self.inside.admissions c.self.inside.futures c.self.inside.permits.things c.self.inside.next c.self.view_is c.self.invariant c.requires c.ranges.number.fits) c.admission.result c.at_mut-entry.result.now c.at_mut-entry.ensures.value c.args.f c.in-Some.future.now (sym c.in-Some.ensures.value) (sym c.admission.ensures) c.poll-2.new.self c.poll-2.new.future c.args.waker c.args.ready.now c.poll-2.new.ready polled).1

pub remove-requires : goal.remove-requires
remove-requires c = is_there _ _ (get-there c.self.inside.futures c.args.f _)

pub invariant_of-self-in-Ok-Ready : goal.invariant_of-self-in-Ok-Ready
invariant_of-self-in-Ok-Ready c = let polled = rw c.in-Ok-Ready.field-0-is at c.in-Ok-Ready.ensures.polls in
    rw (c.remove.ensures.rest, c.insert.ensures.things, c.reserve.ensures.things, c.in-Ok-permit.ensures) (readied_now (site c.self.inside.admissions c.self.inside.futures c.self.inside.permits.things c.self.inside.next c.self.view_is c.self.invariant c.requires c.ranges.number.fits) c.admission.result c.at_mut-entry.result.now c.at_mut-entry.ensures.value c.args.f c.in-Some.future.now (sym c.in-Some.ensures.value) (sym c.admission.ensures) c.poll-2.new.self c.poll-2.new.future c.args.waker _ c.args.ready.now c.poll-2.new.ready polled).0

pub returns-in-Ok-Ready : goal.returns-in-Ok-Ready
returns-in-Ok-Ready c = let polled = rw c.in-Ok-Ready.field-0-is at c.in-Ok-Ready.ensures.polls in
    rw (c.remove.ensures.rest, c.insert.ensures.things, c.reserve.ensures.things, c.in-Ok-permit.ensures) (readied_now (site c.self.inside.admissions c.self.inside.futures c.self.inside.permits.things c.self.inside.next c.self.view_is c.self.invariant c.requires c.ranges.number.fits) c.admission.result c.at_mut-entry.result.now c.at_mut-entry.ensures.value c.args.f c.in-Some.future.now (sym c.in-Some.ensures.value) (sym c.admission.ensures) c.poll-2.new.self c.poll-2.new.future c.args.waker _ c.args.ready.now c.poll-2.new.ready polled).1
