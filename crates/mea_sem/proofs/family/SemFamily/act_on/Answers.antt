use Rattle.std.proofs.Common.{inl, rules, refl, sym, ap, ◌∙◌, ◌-◌, ◌^◌, arith}
use Rattle.std.specs.Option.{option_copied_mut}
use Rattle.mea_base.proofs.Tests.{on_err}
use Rattle.mea_sem.proofs.Meets.{MeetsSemaphore}
use Rattle.mea_sem.proofs.Refusals.{passed}
use Rattle.mea_sem.proofs.StandingSemaphores.{small_forgotten, small_released, is_quiet, wakers_room, is_accounted, small_account, kept_unchanged, seen_unchanged}
use Rattle.mea_sem.proofs.StandingActions.{unheard, allowed, refused, not_for_memory, few_woken, acted}
use Rattle.mea_sem.proofs.Endings.{living_in, beside}
use Rattle.mea_sem.proofs.Lists.{kept_lent, own, lists, listed}
use Rattle.mea_sem.proofs.Inside.{lent, part_of, played_with, seen_with}
use Rattle.mea_sem.proofs.family.SemFamily.act_on.Goals as goal
use Rattle.mea_sem.proofs.family.SemFamily.act_on.Goals.{In-Some}

-- the semaphore, as it was found
met : (c : In-Some) → MeetsSemaphore (lent c.self.inside c.args.ready.now) (played_with c.args.self.now c.args.ready.now) c.args.number c.args.s c.in-Some.entry.now
met c = record {
  meets = record { seen = (seen_with c.args.ready.now c.self.view_is); kept = (kept_lent c.self.inside c.args.ready.now c.self.view_is c.self.invariant c.requires.room); least = c.requires.next; low = omega arith };
  there = living_in (lent c.self.inside c.args.ready.now) _ _ (sym c.get_mut.ensures.value ∙ ap option_copied_mut c.in-Some.is);
}

pub returns-in_default-clause-refused : goal.returns-in_default-clause-refused
returns-in_default-clause-refused c =
    inl (unheard (lent c.self.inside c.args.ready.now) (seen_with c.args.ready.now c.self.view_is) c.args.s c.args.action (sym c.get_mut.ensures.value ∙ ap option_copied_mut c.in_default.is))

pub act-requires : goal.act-requires
act-requires c =
    let m = met (goal.at.act-requires c).In-Some in
    record {
      forgotten = let small = small_forgotten m (2 ^ 64 - 1) (omega arith) in omega (arith, small);
      released = let small = small_released m (2 ^ 64 - 1) (omega arith) in omega (arith, small);
      quiet = is_quiet m;
      room = wakers_room m;
      account = is_accounted m;
      few = small_account m;
    }

pub invariant_of-self-2 : goal.invariant_of-self-2
invariant_of-self-2 c =
    own ((acted (met (goal.at.invariant_of-self-2 c).In-Some) _ c.act.new.self (beside (lent c.self.inside c.args.ready.now) _ _ _ ((c.get_mut.follows.holds c.act.new.self).3 (search rules)).0) c.args.action c.in_ok-answer.answer c.act.new.ready
    c.in_ok-answer.ensures.known c.in_ok-answer.ensures.finds c.in_ok-answer.ensures.acts c.act.ensures.held c.in_ok-answer.ensures.moved c.in_ok-answer.ensures.counted).kept)

pub returns-clause-played : goal.returns-clause-played
returns-clause-played c =
    let m = met (goal.at.returns-clause-played c).In-Some in
    listed c.tidy.ensures (lists m.meets (acted m _ c.act.new.self (beside (lent c.self.inside c.args.ready.now) _ _ _ ((c.get_mut.follows.holds c.act.new.self).3 (search rules)).0) c.args.action c.in_ok-answer.answer c.act.new.ready
    c.in_ok-answer.ensures.known c.in_ok-answer.ensures.finds c.in_ok-answer.ensures.acts c.act.ensures.held c.in_ok-answer.ensures.moved c.in_ok-answer.ensures.counted)
    (omega (arith, few_woken m c.args.action, c.in_ok-answer.ensures.counted)))

pub returns-clause-allowed : goal.returns-clause-allowed
returns-clause-allowed c =
    allowed (met (goal.at.returns-clause-allowed c).In-Some) c.args.action c.in_ok-answer.ensures.known c.in_ok-answer.ensures.finds

pub returns-in_err-answer-clause-refused : goal.returns-in_err-answer-clause-refused
returns-in_err-answer-clause-refused c =
    passed c.from_residual.result _ _ c.from_residual.ensures.1
    (refused (met (goal.at.returns-in_err-answer-clause-refused c).In-Some) c.args.action _ c.in_err-answer.ensures.refused)

pub returns-in_err-answer-clause-no_memory : goal.returns-in_err-answer-clause-no_memory
returns-in_err-answer-clause-no_memory c =
    passed c.from_residual.result _ _ c.from_residual.ensures.1
    (not_for_memory (met (goal.at.returns-in_err-answer-clause-no_memory c).In-Some) c.args.action _ c.in_err-answer.ensures.refused)

pub returns-in_err-answer-clause-err : goal.returns-in_err-answer-clause-err
returns-in_err-answer-clause-err c =
    on_err c.from_residual.result _
    (ap part_of (seen_unchanged (met (goal.at.returns-in_err-answer-clause-err c).In-Some) _ c.act.new.self (beside (lent c.self.inside c.args.ready.now) _ _ _ ((c.get_mut.follows.holds c.act.new.self).3 (search rules)).0) c.in_err-answer.ensures.err.0 _ refl), c.in_err-answer.ensures.err.1)

pub invariant_of-self-in_err-answer : goal.invariant_of-self-in_err-answer
invariant_of-self-in_err-answer c =
    own (kept_unchanged (met (goal.at.invariant_of-self-in_err-answer c).In-Some) _ c.act.new.self (beside (lent c.self.inside c.args.ready.now) _ _ _ ((c.get_mut.follows.holds c.act.new.self).3 (search rules)).0)
    c.in_err-answer.ensures.err.0 _ (kept_lent c.self.inside c.args.ready.now c.self.view_is c.self.invariant c.requires.room).room)
