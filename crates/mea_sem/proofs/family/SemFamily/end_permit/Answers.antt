use Rattle.std.proofs.Common.{refl, rules, sym, ap, ◌∙◌, arith}
use Rattle.std.specs.Option.{option_copied_mut}
use Rattle.mea_sem.proofs.Things.{at-entries, entries_gone, entries_same}
use Rattle.mea_sem.proofs.Meets.{kept_as_permits, seen_as_permits, MeetsPermit, permits_semaphore}
use Rattle.mea_sem.proofs.Refusals.{end_of_permit_known, end_unknown, refuses_unknown}
use Rattle.mea_sem.proofs.StandingSemaphores.{is_quiet, wakers_few, wakers_fit}
use Rattle.mea_sem.proofs.StandingPermits.{home_living, permit_held, permit_counted, ended, permit_thing}
use Rattle.mea_sem.proofs.Endings.{living_in, beside}
use Rattle.mea_sem.proofs.Lists.{kept_lent, own, listed, lists}
use Rattle.mea_sem.proofs.Inside.{lent, part_of, played_with, seen_with}
use Rattle.mea_sem.proofs.family.SemFamily.end_permit.Goals as goal
use Rattle.mea_sem.proofs.family.SemFamily.end_permit.Goals.{In-Some-get_mut}

-- the permit and its semaphore, as they were found
met : (c : In-Some-get_mut) → MeetsPermit (lent c.self.inside c.args.ready.now) (played_with c.args.self.now c.args.ready.now) c.args.number c.args.p c.in-Some.permit c.in-Some-get_mut.entry.now
met c = record {
  meets = record { seen = (seen_with c.args.ready.now c.self.view_is); kept = (kept_lent c.self.inside c.args.ready.now c.self.view_is c.self.invariant c.requires.room); least = c.requires.next; low = omega arith };
  is = at-entries _ _ ∙ sym c.take.ensures.value ∙ c.in-Some.is;
  there = living_in (lent c.self.inside c.args.ready.now) _ _ (sym c.get_mut.ensures.value ∙ ap option_copied_mut c.in-Some-get_mut.is);
}

pub returns-in_default-clause-refused : goal.returns-in_default-clause-refused
returns-in_default-clause-refused c = refuses_unknown _ _ (end_unknown (lent c.self.inside c.args.ready.now) (seen_with c.args.ready.now c.self.view_is) c.args.p c.requires.no_future (at-entries _ _ ∙ sym c.take.ensures.value ∙ c.in_default.is)) refl

pub unreachable-requires : goal.unreachable-requires
unreachable-requires c =
    home_living (lent c.self.inside c.args.ready.now) c.args.p (kept_lent c.self.inside c.args.ready.now c.self.view_is c.self.invariant c.requires.room) (at-entries _ _ ∙ sym c.take.ensures.value ∙ c.in-Some.is)
    (sym c.get_mut.ensures.value ∙ ap option_copied_mut c.in_default-get_mut.is)

pub give_back-requires : goal.give_back-requires
give_back-requires c =
    let m = met (goal.at.give_back-requires c).In-Some-get_mut in
    record {
      held = permit_held m;
      thing = permit_thing m;
      plain = permit_counted m;
      quiet = is_quiet (permits_semaphore m);
      room = wakers_fit (permits_semaphore m) c.in-Some.permit.size;
    }

pub invariant_of-self-2 : goal.invariant_of-self-2
invariant_of-self-2 c =
    own ((ended (met (goal.at.invariant_of-self-2 c).In-Some-get_mut)
    _ _ _ c.give_back.new.ready.registered c.give_back.new.self c.give_back.new.ready.wakers (end_of_permit_known (lent c.self.inside c.args.ready.now) (seen_with c.args.ready.now c.self.view_is) c.args.p c.requires.no_future c.in-Some.permit (at-entries _ _ ∙ sym c.take.ensures.value ∙ c.in-Some.is)) c.requires.no_future
    c.give_back.ensures.is c.give_back.ensures.held (beside (lent c.self.inside c.args.ready.now) _ _ _ ((c.get_mut.follows.holds c.give_back.new.self).3 (search rules)).0) (entries_gone _ _ _ c.take.ensures.rest)
    refl c.give_back.ensures.moved c.give_back.ensures.counted).kept)

pub returns-clause-played : goal.returns-clause-played
returns-clause-played c =
    listed c.tidy.ensures (lists (met (goal.at.returns-clause-played c).In-Some-get_mut).meets (ended (met (goal.at.returns-clause-played c).In-Some-get_mut)
    _ _ _ c.give_back.new.ready.registered c.give_back.new.self c.give_back.new.ready.wakers (end_of_permit_known (lent c.self.inside c.args.ready.now) (seen_with c.args.ready.now c.self.view_is) c.args.p c.requires.no_future c.in-Some.permit (at-entries _ _ ∙ sym c.take.ensures.value ∙ c.in-Some.is)) c.requires.no_future
    c.give_back.ensures.is c.give_back.ensures.held (beside (lent c.self.inside c.args.ready.now) _ _ _ ((c.get_mut.follows.holds c.give_back.new.self).3 (search rules)).0) (entries_gone _ _ _ c.take.ensures.rest)
    refl c.give_back.ensures.moved c.give_back.ensures.counted) (omega (arith, wakers_few (permits_semaphore (met (goal.at.returns-clause-played c).In-Some-get_mut)) c.in-Some.permit.size, c.give_back.ensures.counted)))

pub returns-clause-allowed : goal.returns-clause-allowed
returns-clause-allowed c = end_of_permit_known (lent c.self.inside c.args.ready.now) (seen_with c.args.ready.now c.self.view_is) c.args.p c.requires.no_future c.in-Some.permit (at-entries _ _ ∙ sym c.take.ensures.value ∙ c.in-Some.is)

pub invariant_of-self : goal.invariant_of-self
invariant_of-self c = own (kept_as_permits (lent c.self.inside c.args.ready.now) (kept_lent c.self.inside c.args.ready.now c.self.view_is c.self.invariant c.requires.room) (entries_same _ _ _ c.take.ensures.rest (sym c.take.ensures.value ∙ c.in_default.is)))

pub returns-in_default-clause-err : goal.returns-in_default-clause-err
returns-in_default-clause-err c =
    (ap part_of (seen_as_permits (lent c.self.inside c.args.ready.now) (seen_with c.args.ready.now c.self.view_is) (entries_same _ _ _ c.take.ensures.rest (sym c.take.ensures.value ∙ c.in_default.is))), refl)
