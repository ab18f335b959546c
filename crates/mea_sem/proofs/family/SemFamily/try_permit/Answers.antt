use Rattle.std.proofs.Common.{inr, Some, inl, refl, rules, sym, ap, ◌∙◌, arith}
use Rattle.std.specs.Option.{option_copied_mut}
use Rattle.std.specs.FinMap.{entries}
use Rattle.mea_base.proofs.Tests.{on_err}
use Rattle.mea_sem.proofs.Things.{entries_put}
use Rattle.mea_sem.proofs.Meets.{MeetsSemaphore}
use Rattle.mea_sem.proofs.Refusals.{unknown_missing, passed}
use Rattle.mea_sem.proofs.StandingSemaphores.{while_named, once_unnamed, kept_unchanged, seen_unchanged, kept_with_permits, seen_with_permits, plain_fits, things_fit}
use Rattle.mea_sem.proofs.StandingPermits.{tried, tried_for_nothing}
use Rattle.mea_sem.proofs.Endings.{living_in, beside}
use Rattle.mea_sem.proofs.Lists.{alone, own, rests}
use Rattle.mea_sem.proofs.Inside.{lone, part_of, seen_alone}
use Rattle.mea_sem.proofs.family.SemFamily.try_permit.Goals as goal
use Rattle.mea_sem.proofs.family.SemFamily.try_permit.Goals.{In-Some}

-- the semaphore, as it was found
met : (c : In-Some) → MeetsSemaphore (alone c.self.inside) (lone c.args.self.now) c.args.number c.args.s c.in-Some.entry.now
met c = record {
  meets = record { seen = (seen_alone c.self.view_is); kept = c.self.invariant; least = c.requires; low = omega arith };
  there = living_in (alone c.self.inside) _ _ (sym c.get_mut.ensures.value ∙ ap option_copied_mut c.in-Some.is);
}

pub returns-in_default-clause-refused : goal.returns-in_default-clause-refused
returns-in_default-clause-refused c = inl (unknown_missing (alone c.self.inside) (seen_alone c.self.view_is) c.args.s _ (sym c.get_mut.ensures.value ∙ ap option_copied_mut c.in_default.is))

pub invariant_of-self-then-not-offers : goal.invariant_of-self-then-not-offers
invariant_of-self-then-not-offers c =
    own ((tried_for_nothing (met (goal.at.invariant_of-self-then-not-offers c).In-Some) c.args.n c.is_plain-plain.result
    _ c.in-Some.entry.now (beside (alone c.self.inside) _ _ _ ((c.get_mut.follows.holds c.in-Some.entry.now).3 (search rules)).0) refl (c.offers.ensures.lacks c.if-not-offers.true)).kept)

pub returns-then-not-offers-clause-played : goal.returns-then-not-offers-clause-played
returns-then-not-offers-clause-played c =
    rw (← c.is_plain-plain.ensures) ((rests (met (goal.at.returns-then-not-offers-clause-played c).In-Some).meets refl (tried_for_nothing (met (goal.at.returns-then-not-offers-clause-played c).In-Some) c.args.n c.is_plain-plain.result
    _ c.in-Some.entry.now (beside (alone c.self.inside) _ _ _ ((c.get_mut.follows.holds c.in-Some.entry.now).3 (search rules)).0) refl (c.offers.ensures.lacks c.if-not-offers.true))))

pub take-requires-clause-few_things : goal.take-requires-clause-few_things
take-requires-clause-few_things c = things_fit (met (goal.at.take-requires-clause-few_things c).In-Some)

pub take-requires-clause-few : goal.take-requires-clause-few
take-requires-clause-few c = plain_fits (met (goal.at.take-requires-clause-few c).In-Some)

pub invariant_of-self-2 : goal.invariant_of-self-2
invariant_of-self-2 c =
    own ((tried (met (goal.at.invariant_of-self-2 c).In-Some)
    c.args.n c.is_plain-plain.result _ _ c.in-Some.entry.now c.take.new.self (while_named (met (goal.at.invariant_of-self-2 c).In-Some) c.in_ok-known.ensures.known)
    (met (goal.at.invariant_of-self-2 c).In-Some).there (c.offers.ensures.open_still c.if-not-offers.false) (c.offers.ensures.enough c.if-not-offers.false)
    c.take.ensures.is c.take.ensures.held
    (beside (alone c.self.inside) _ _ _ ((c.get_mut.follows.holds c.take.new.self).3 (search rules)).0)
    (entries_put _ _ _ _ c.in_ok-insert.ensures.ok)).kept)

pub returns-clause-played : goal.returns-clause-played
returns-clause-played c =
    rw (← c.is_plain-plain.ensures) ((rests (met (goal.at.returns-clause-played c).In-Some).meets refl (tried (met (goal.at.returns-clause-played c).In-Some)
    c.args.n c.is_plain-plain.result _ _ c.in-Some.entry.now c.take.new.self (while_named (met (goal.at.returns-clause-played c).In-Some) c.in_ok-known.ensures.known)
    (met (goal.at.returns-clause-played c).In-Some).there (c.offers.ensures.open_still c.if-not-offers.false) (c.offers.ensures.enough c.if-not-offers.false)
    c.take.ensures.is c.take.ensures.held
    (beside (alone c.self.inside) _ _ _ ((c.get_mut.follows.holds c.take.new.self).3 (search rules)).0)
    (entries_put _ _ _ _ c.in_ok-insert.ensures.ok))))

pub returns-in_err-known-clause-refused : goal.returns-in_err-known-clause-refused
returns-in_err-known-clause-refused c = passed c.from_residual.result _ _ c.from_residual.ensures.1 (inl (once_unnamed (met (goal.at.returns-in_err-known-clause-refused c).In-Some) _ c.in_err-known.ensures.unknown.0 ∙ ap (λ t. Some t) (sym c.in_err-known.ensures.unknown.1)))

pub returns-in_err-known-clause-err : goal.returns-in_err-known-clause-err
returns-in_err-known-clause-err c = on_err c.from_residual.result _ (ap part_of (seen_unchanged (met (goal.at.returns-in_err-known-clause-err c).In-Some) _ c.in-Some.entry.now
    (beside (alone c.self.inside) _ _ _ ((c.get_mut.follows.holds c.in-Some.entry.now).3 (search rules)).0) refl _ refl))

pub invariant_of-self-in_err-known : goal.invariant_of-self-in_err-known
invariant_of-self-in_err-known c = own (kept_unchanged (met (goal.at.invariant_of-self-in_err-known c).In-Some) _ c.in-Some.entry.now
    (beside (alone c.self.inside) _ _ _ ((c.get_mut.follows.holds c.in-Some.entry.now).3 (search rules)).0) refl _ c.self.invariant.room)

pub returns-clause-allowed : goal.returns-clause-allowed
returns-clause-allowed c = while_named (met (goal.at.returns-clause-allowed c).In-Some) c.in_ok-known.ensures.known

pub invariant_of-self-in_err-insert : goal.invariant_of-self-in_err-insert
invariant_of-self-in_err-insert c = own (kept_with_permits (met (goal.at.invariant_of-self-in_err-insert c).In-Some) _ c.in-Some.entry.now
    (beside (alone c.self.inside) _ _ _ ((c.get_mut.follows.holds c.in-Some.entry.now).3 (search rules)).0) _ refl (ap entries c.in_err-insert.ensures.err))

pub returns-in_err-insert-clause-err : goal.returns-in_err-insert-clause-err
returns-in_err-insert-clause-err c = on_err c.from_residual-in_err-insert.result _ (ap part_of (seen_with_permits (met (goal.at.returns-in_err-insert-clause-err c).In-Some) _ c.in-Some.entry.now
    (beside (alone c.self.inside) _ _ _ ((c.get_mut.follows.holds c.in-Some.entry.now).3 (search rules)).0) _ refl (ap entries c.in_err-insert.ensures.err)))

pub returns-in_err-insert-clause-refused : goal.returns-in_err-insert-clause-refused
returns-in_err-insert-clause-refused c = passed c.from_residual-in_err-insert.result _ _ c.from_residual-in_err-insert.ensures.1
    (inr ((while_named (met (goal.at.returns-in_err-insert-clause-refused c).In-Some) c.in_ok-known.ensures.known), refl))

pub returns-then-not-offers-clause-allowed : goal.returns-then-not-offers-clause-allowed
returns-then-not-offers-clause-allowed c = while_named (met (goal.at.returns-then-not-offers-clause-allowed c).In-Some) c.in_ok-known.ensures.known
