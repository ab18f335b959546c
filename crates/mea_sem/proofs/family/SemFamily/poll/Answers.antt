use Rattle.std.proofs.Common.{inr, ◌+◌, Some, None, inl, refl, rules, sym, ap, ◌∙◌, arith}
use Rattle.std.specs.Option.{option_copied_mut}
use Rattle.std.specs.FinMap.{entries}
use Rattle.mea_sem.specs.declared.entries.FutureEntry.{FutureEntry}
use Rattle.mea_base.proofs.Tests.{on_err}
use Rattle.mea_sem.proofs.Things.{at-entries, entries_put, entries_gone}
use Rattle.mea_sem.proofs.Meets.{registered_in, MeetsFuture, kept_as_futures}
use Rattle.mea_sem.proofs.Refusals.{future_unknown, passed}
use Rattle.mea_base.proofs.NamedMaps.{changes_twice}
use Rattle.mea_sem.proofs.StandingFutures.{semaphore_living, its_belongs, future_plain, tally_fits, may_poll, forgotten_done, kept_done, refused_done, future_thing}
use Rattle.mea_sem.proofs.StandingWaits.{queued_done, waited_done, kept_as_found, seen_as_found}
use Rattle.mea_sem.proofs.Endings.{living_in, beside}
use Rattle.mea_sem.proofs.Lists.{kept_lent, own, lists, listed, at_list}
use Rattle.mea_sem.proofs.Inside.{lent, part_of, played_with, seen_with}
use Rattle.mea_sem.proofs.family.SemFamily.poll.Goals as goal
use Rattle.mea_sem.proofs.family.SemFamily.poll.Goals.{In-Some-get_mut}

-- the future and its semaphore, as they were found
met : (c : In-Some-get_mut) → MeetsFuture (lent c.self.inside c.args.ready.now) (played_with c.args.self.now c.args.ready.now) c.args.number c.args.f c.in-Some.future.now c.in-Some-get_mut.entry.now
met c = record {
  meets = record { seen = (seen_with c.args.ready.now c.self.view_is); kept = (kept_lent c.self.inside c.args.ready.now c.self.view_is c.self.invariant c.requires.room); least = c.requires.next; low = omega arith };
  is = at-entries _ _ ∙ sym c.get_mut.ensures.value ∙ ap option_copied_mut c.in-Some.is;
  there = living_in (lent c.self.inside c.args.ready.now) _ _ (sym c.get_mut-2.ensures.value ∙ ap option_copied_mut c.in-Some-get_mut.is);
}

pub invariant_of-self : goal.invariant_of-self
invariant_of-self c = own (kept_as_futures (lent c.self.inside c.args.ready.now) (kept_lent c.self.inside c.args.ready.now c.self.view_is c.self.invariant c.requires.room) (search rules))

pub returns-in_default-clause-refused : goal.returns-in_default-clause-refused
returns-in_default-clause-refused c = inl (future_unknown (lent c.self.inside c.args.ready.now) (seen_with c.args.ready.now c.self.view_is) c.args.f (at-entries _ _ ∙ sym c.get_mut.ensures.value ∙ ap option_copied_mut c.in_default.is))

pub unreachable-requires : goal.unreachable-requires
unreachable-requires c =
    semaphore_living (lent c.self.inside c.args.ready.now) c.args.f (kept_lent c.self.inside c.args.ready.now c.self.view_is c.self.invariant c.requires.room) (at-entries _ _ ∙ sym c.get_mut.ensures.value ∙ ap option_copied_mut c.in-Some.is)
    (sym c.get_mut-2.ensures.value ∙ ap option_copied_mut c.in_default-get_mut.is)

pub is_ready-requires : goal.is_ready-requires
is_ready-requires c = let m = met c in record { belongs = (its_belongs m).0; is_open = (its_belongs m).1 }

-- ---- it is ready, and forgets what it takes
pub finish_forgetting-requires-clause-plain : goal.finish_forgetting-requires-clause-plain
finish_forgetting-requires-clause-plain c = future_plain (met (goal.at.finish_forgetting-requires-clause-plain c).In-Some-get_mut)

pub finish_forgetting-requires-clause-thing : goal.finish_forgetting-requires-clause-thing
finish_forgetting-requires-clause-thing c = future_thing (met (goal.at.finish_forgetting-requires-clause-thing c).In-Some-get_mut)

pub finish_forgetting-requires-clause-tally : goal.finish_forgetting-requires-clause-tally
finish_forgetting-requires-clause-tally c =
    tally_fits (met (goal.at.finish_forgetting-requires-clause-tally c).In-Some-get_mut) (c.is_ready.ensures.ready c.if-is_ready.true)

pub invariant_of-self-then-future : goal.invariant_of-self-then-future
invariant_of-self-then-future c =
    let x2 : FutureEntry = record c.in-Some.future.now { acquire = c.finish_forgetting.new.acquire } in
    own ((forgotten_done (met (goal.at.invariant_of-self-then-future c).In-Some-get_mut) c.args.waker (c.is_ready.ensures.ready c.if-is_ready.true)
    _ _ c.finish_forgetting.new.self
    (changes_twice (entries c.self.inside.futures) _ _ c.args.f (Some x2) None (entries_put _ _ _ x2 refl) (entries_gone _ _ _ c.take-future.ensures.rest))
    (beside (lent c.self.inside c.args.ready.now) _ _ _ ((c.get_mut-2.follows.holds c.finish_forgetting.new.self).3 (search rules)).0)
    c.if-future.true c.finish_forgetting.ensures.is c.finish_forgetting.ensures.rises c.finish_forgetting.ensures.held).kept)

pub returns-then-future-clause-played : goal.returns-then-future-clause-played
returns-then-future-clause-played c =
    let x2 : FutureEntry = record c.in-Some.future.now { acquire = c.finish_forgetting.new.acquire } in
    listed c.tidy.ensures (lists (met (goal.at.returns-then-future-clause-played c).In-Some-get_mut).meets (forgotten_done (met (goal.at.returns-then-future-clause-played c).In-Some-get_mut) c.args.waker (c.is_ready.ensures.ready c.if-is_ready.true)
    _ _ c.finish_forgetting.new.self
    (changes_twice (entries c.self.inside.futures) _ _ c.args.f (Some x2) None (entries_put _ _ _ x2 refl) (entries_gone _ _ _ c.take-future.ensures.rest))
    (beside (lent c.self.inside c.args.ready.now) _ _ _ ((c.get_mut-2.follows.holds c.finish_forgetting.new.self).3 (search rules)).0)
    c.if-future.true c.finish_forgetting.ensures.is c.finish_forgetting.ensures.rises c.finish_forgetting.ensures.held) refl)

pub returns-then-future-clause-allowed : goal.returns-then-future-clause-allowed
returns-then-future-clause-allowed c = may_poll (met (goal.at.returns-then-future-clause-allowed c).In-Some-get_mut) c.args.waker

-- ---- it is ready, and becomes a permit
pub invariant_of-self-in_err-insert : goal.invariant_of-self-in_err-insert
invariant_of-self-in_err-insert c = own (kept_as_found (met (goal.at.invariant_of-self-in_err-insert c).In-Some-get_mut) _ _ _ c.in-Some-get_mut.entry.now c.in-Some.future.now refl refl
    (ap entries c.in_err-insert.ensures.err) (entries_put _ _ _ c.in-Some.future.now refl)
    (beside (lent c.self.inside c.args.ready.now) _ _ _ ((c.get_mut-2.follows.holds c.in-Some-get_mut.entry.now).3 (search rules)).0) _ (kept_lent c.self.inside c.args.ready.now c.self.view_is c.self.invariant c.requires.room).room)

pub returns-in_err-insert-clause-refused : goal.returns-in_err-insert-clause-refused
returns-in_err-insert-clause-refused c = passed c.from_residual.result _ _ c.from_residual.ensures.1
    (inr ((may_poll (met (goal.at.returns-in_err-insert-clause-refused c).In-Some-get_mut) c.args.waker), refl))

pub returns-in_err-insert-clause-err : goal.returns-in_err-insert-clause-err
returns-in_err-insert-clause-err c = on_err c.from_residual.result _ (
  ap part_of (
      seen_as_found (met (goal.at.returns-in_err-insert-clause-err c).In-Some-get_mut) _ _ _ c.in-Some-get_mut.entry.now c.in-Some.future.now refl refl
      (ap entries c.in_err-insert.ensures.err) (entries_put _ _ _ c.in-Some.future.now refl)
      (beside (lent c.self.inside c.args.ready.now) _ _ _ ((c.get_mut-2.follows.holds c.in-Some-get_mut.entry.now).3 (search rules)).0) _ refl),
  refl,
)

pub invariant_of-self-then-is_ready : goal.invariant_of-self-then-is_ready
invariant_of-self-then-is_ready c =
    let x2 : FutureEntry = record c.in-Some.future.now { acquire = c.finish.new.acquire } in
    own ((kept_done (met (goal.at.invariant_of-self-then-is_ready c).In-Some-get_mut) c.args.waker (c.is_ready.ensures.ready c.if-is_ready.true)
    _ _ c.finish.new.self
    (changes_twice (entries c.self.inside.futures) _ _ c.args.f (Some x2) None (entries_put _ _ _ x2 refl) (entries_gone _ _ _ c.take-future-then-is_ready.ensures.rest))
    (beside (lent c.self.inside c.args.ready.now) _ _ _ ((c.get_mut-2.follows.holds c.finish.new.self).3 (search rules)).0)
    c.if-future.false _ c.permit.result (entries_put _ _ _ _ c.in_ok-insert.ensures.ok) c.permit.ensures c.finish.ensures.is c.finish.ensures.held).kept)

pub returns-then-is_ready-clause-played : goal.returns-then-is_ready-clause-played
returns-then-is_ready-clause-played c =
    let x2 : FutureEntry = record c.in-Some.future.now { acquire = c.finish.new.acquire } in
    (lists (met (goal.at.returns-then-is_ready-clause-played c).In-Some-get_mut).meets (kept_done (met (goal.at.returns-then-is_ready-clause-played c).In-Some-get_mut) c.args.waker (c.is_ready.ensures.ready c.if-is_ready.true)
    _ _ c.finish.new.self
    (changes_twice (entries c.self.inside.futures) _ _ c.args.f (Some x2) None (entries_put _ _ _ x2 refl) (entries_gone _ _ _ c.take-future-then-is_ready.ensures.rest))
    (beside (lent c.self.inside c.args.ready.now) _ _ _ ((c.get_mut-2.follows.holds c.finish.new.self).3 (search rules)).0)
    c.if-future.false _ c.permit.result (entries_put _ _ _ _ c.in_ok-insert.ensures.ok) c.permit.ensures c.finish.ensures.is c.finish.ensures.held) refl)

pub returns-then-is_ready-clause-allowed : goal.returns-then-is_ready-clause-allowed
returns-then-is_ready-clause-allowed c = may_poll (met (goal.at.returns-then-is_ready-clause-allowed c).In-Some-get_mut) c.args.waker

-- ---- it is refused
pub refuse-requires-clause-plain : goal.refuse-requires-clause-plain
refuse-requires-clause-plain c = future_plain (met (goal.at.refuse-requires-clause-plain c).In-Some-get_mut)

pub refuse-requires-clause-thing : goal.refuse-requires-clause-thing
refuse-requires-clause-thing c = future_thing (met (goal.at.refuse-requires-clause-thing c).In-Some-get_mut)

pub invariant_of-self-then-is_closed : goal.invariant_of-self-then-is_closed
invariant_of-self-then-is_closed c =
    let x2 : FutureEntry = record c.in-Some.future.now { acquire = c.refuse.new.acquire } in
    own ((refused_done (met (goal.at.invariant_of-self-then-is_closed c).In-Some-get_mut) c.args.waker
    (c.is_ready.ensures.refused c.if-is_ready.false (sym c.is_closed.ensures.is ∙ c.if-is_closed.true)) _ _ c.refuse.new.self
    (changes_twice (entries c.self.inside.futures) _ _ c.args.f (Some x2) None (entries_put _ _ _ x2 refl) (entries_gone _ _ _ c.take-future-then-is_closed.ensures.rest))
    (beside (lent c.self.inside c.args.ready.now) _ _ _ ((c.get_mut-2.follows.holds c.refuse.new.self).3 (search rules)).0) c.refuse.ensures.is).kept)

pub returns-then-is_closed-clause-played : goal.returns-then-is_closed-clause-played
returns-then-is_closed-clause-played c =
    let x2 : FutureEntry = record c.in-Some.future.now { acquire = c.refuse.new.acquire } in
    listed c.tidy-then-is_closed.ensures (lists (met (goal.at.returns-then-is_closed-clause-played c).In-Some-get_mut).meets (refused_done (met (goal.at.returns-then-is_closed-clause-played c).In-Some-get_mut) c.args.waker
    (c.is_ready.ensures.refused c.if-is_ready.false (sym c.is_closed.ensures.is ∙ c.if-is_closed.true)) _ _ c.refuse.new.self
    (changes_twice (entries c.self.inside.futures) _ _ c.args.f (Some x2) None (entries_put _ _ _ x2 refl) (entries_gone _ _ _ c.take-future-then-is_closed.ensures.rest))
    (beside (lent c.self.inside c.args.ready.now) _ _ _ ((c.get_mut-2.follows.holds c.refuse.new.self).3 (search rules)).0) c.refuse.ensures.is) refl)

pub returns-then-is_closed-clause-allowed : goal.returns-then-is_closed-clause-allowed
returns-then-is_closed-clause-allowed c = may_poll (met (goal.at.returns-then-is_closed-clause-allowed c).In-Some-get_mut) c.args.waker

-- ---- it waits from now on
pub invariant_of-self-in_err-queue : goal.invariant_of-self-in_err-queue
invariant_of-self-in_err-queue c =
    let x2 : FutureEntry = record c.in-Some.future.now { acquire = c.queue.new.acquire } in
    own (kept_as_found (met (goal.at.invariant_of-self-in_err-queue c).In-Some-get_mut) _ _ _ c.queue.new.self x2 c.in_err-queue.ensures.err.0
    (λ j. record c.in-Some.future.now { acquire = c.in_err-queue.ensures.err.1 j }) refl (entries_put _ _ _ x2 refl)
    (beside (lent c.self.inside c.args.ready.now) _ _ _ ((c.get_mut-2.follows.holds c.queue.new.self).3 (search rules)).0) _ (kept_lent c.self.inside c.args.ready.now c.self.view_is c.self.invariant c.requires.room).room)

pub returns-in_err-queue-clause-refused : goal.returns-in_err-queue-clause-refused
returns-in_err-queue-clause-refused c = passed c.from_residual-in_err-queue.result _ _ c.from_residual-in_err-queue.ensures.1
    (inr ((may_poll (met (goal.at.returns-in_err-queue-clause-refused c).In-Some-get_mut) c.args.waker), refl))

pub returns-in_err-queue-clause-err : goal.returns-in_err-queue-clause-err
returns-in_err-queue-clause-err c =
    let x2 : FutureEntry = record c.in-Some.future.now { acquire = c.queue.new.acquire } in
    on_err c.from_residual-in_err-queue.result _ (
      ap part_of (
          seen_as_found (met (goal.at.returns-in_err-queue-clause-err c).In-Some-get_mut) _ _ _ c.queue.new.self x2 c.in_err-queue.ensures.err.0
          (λ j. record c.in-Some.future.now { acquire = c.in_err-queue.ensures.err.1 j }) refl (entries_put _ _ _ x2 refl)
          (beside (lent c.self.inside c.args.ready.now) _ _ _ ((c.get_mut-2.follows.holds c.queue.new.self).3 (search rules)).0) _ refl),
      c.in_err-queue.ensures.err.2,
    )

pub invariant_of-self-then-is_new : goal.invariant_of-self-then-is_new
invariant_of-self-then-is_new c =
    let x2 : FutureEntry = record c.in-Some.future.now { acquire = c.queue.new.acquire } in
    let number = c.in_ok-queue.ensures.queued in
    own ((queued_done (met (goal.at.invariant_of-self-then-is_new c).In-Some-get_mut) c.args.waker number.0 (registered_in (lent c.self.inside c.args.ready.now) + 1) (record { wakers = c.args.ready.now.wakers; spare = c.args.ready.now.registered + 1 })
    _ _ c.queue.new.self x2 (c.is_new.ensures.new c.if-is_new.true)
    (c.is_ready.ensures.waits c.if-is_ready.false (sym c.is_closed.ensures.is ∙ c.if-is_closed.false))
    refl refl (omega (arith, (kept_lent c.self.inside c.args.ready.now c.self.view_is c.self.invariant c.requires.room).room))
    (λ j. record c.in-Some.future.now { acquire = number.2 j }) (entries_put _ _ _ x2 refl)
    (beside (lent c.self.inside c.args.ready.now) _ _ _ ((c.get_mut-2.follows.holds c.queue.new.self).3 (search rules)).0) number.1 c.in_ok-queue.ensures.rest c.in_ok-queue.ensures.held).kept)

pub returns-then-is_new-clause-played : goal.returns-then-is_new-clause-played
returns-then-is_new-clause-played c =
    let x2 : FutureEntry = record c.in-Some.future.now { acquire = c.queue.new.acquire } in
    let number = c.in_ok-queue.ensures.queued in
    at_list c.in_ok-queue.ensures.counted (lists (met (goal.at.returns-then-is_new-clause-played c).In-Some-get_mut).meets (queued_done (met (goal.at.returns-then-is_new-clause-played c).In-Some-get_mut) c.args.waker number.0 (registered_in (lent c.self.inside c.args.ready.now) + 1) (record { wakers = c.args.ready.now.wakers; spare = c.args.ready.now.registered + 1 })
    _ _ c.queue.new.self x2 (c.is_new.ensures.new c.if-is_new.true)
    (c.is_ready.ensures.waits c.if-is_ready.false (sym c.is_closed.ensures.is ∙ c.if-is_closed.false))
    refl refl (omega (arith, (kept_lent c.self.inside c.args.ready.now c.self.view_is c.self.invariant c.requires.room).room))
    (λ j. record c.in-Some.future.now { acquire = number.2 j }) (entries_put _ _ _ x2 refl)
    (beside (lent c.self.inside c.args.ready.now) _ _ _ ((c.get_mut-2.follows.holds c.queue.new.self).3 (search rules)).0) number.1 c.in_ok-queue.ensures.rest c.in_ok-queue.ensures.held) (omega arith))

pub returns-then-is_new-clause-allowed : goal.returns-then-is_new-clause-allowed
returns-then-is_new-clause-allowed c = may_poll (met (goal.at.returns-then-is_new-clause-allowed c).In-Some-get_mut) c.args.waker

-- ---- it waits on
pub invariant_of-self-2 : goal.invariant_of-self-2
invariant_of-self-2 c =
    let x2 : FutureEntry = record c.in-Some.future.now { acquire = c.wait_on.new.acquire } in
    own ((waited_done (met (goal.at.invariant_of-self-2 c).In-Some-get_mut) c.args.waker _ _ c.wait_on.new.self x2 (c.is_new.ensures.polled c.if-is_new.false)
    (c.is_ready.ensures.waits c.if-is_ready.false (sym c.is_closed.ensures.is ∙ c.if-is_closed.false))
    (λ j. record c.in-Some.future.now { acquire = c.wait_on.ensures.same j }) (entries_put _ _ _ x2 refl)
    (beside (lent c.self.inside c.args.ready.now) _ _ _ ((c.get_mut-2.follows.holds c.wait_on.new.self).3 (search rules)).0) c.wait_on.ensures.is c.wait_on.ensures.held).kept)

pub returns-clause-played : goal.returns-clause-played
returns-clause-played c =
    let x2 : FutureEntry = record c.in-Some.future.now { acquire = c.wait_on.new.acquire } in
    (lists (met (goal.at.returns-clause-played c).In-Some-get_mut).meets (waited_done (met (goal.at.returns-clause-played c).In-Some-get_mut) c.args.waker _ _ c.wait_on.new.self x2 (c.is_new.ensures.polled c.if-is_new.false)
    (c.is_ready.ensures.waits c.if-is_ready.false (sym c.is_closed.ensures.is ∙ c.if-is_closed.false))
    (λ j. record c.in-Some.future.now { acquire = c.wait_on.ensures.same j }) (entries_put _ _ _ x2 refl)
    (beside (lent c.self.inside c.args.ready.now) _ _ _ ((c.get_mut-2.follows.holds c.wait_on.new.self).3 (search rules)).0) c.wait_on.ensures.is c.wait_on.ensures.held) refl)

pub returns-clause-allowed : goal.returns-clause-allowed
returns-clause-allowed c = may_poll (met (goal.at.returns-clause-allowed c).In-Some-get_mut) c.args.waker
