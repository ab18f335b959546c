use Rattle.std.proofs.Common.{refl, rules, sym, ap, ◌∙◌, arith}
use Rattle.std.specs.Option.{option_copied_mut}
use Rattle.mea_sem.proofs.Things.{at-entries, entries_gone, entries_same}
use Rattle.mea_sem.proofs.Meets.{kept_as_permits, seen_as_permits, MeetsPermit}
use Rattle.mea_sem.proofs.Refusals.{permit_known, permit_unknown, refuses_unknown}
use Rattle.mea_sem.proofs.StandingPermits.{home_living, permit_held, permit_counted, tally_fits, lost, permit_thing}
use Rattle.mea_sem.proofs.Endings.{living_in, beside}
use Rattle.mea_sem.proofs.Lists.{alone, own, rests, tidied}
use Rattle.mea_sem.proofs.Inside.{lone, part_of, seen_alone}
use Rattle.mea_sem.proofs.family.SemFamily.lose.Goals as goal
use Rattle.mea_sem.proofs.family.SemFamily.lose.Goals.{In-Some-get_mut}

-- the permit and its semaphore, as they were found
met : (c : In-Some-get_mut) → MeetsPermit (alone c.self.inside) (lone c.args.self.now) c.args.number c.args.p c.in-Some.permit c.in-Some-get_mut.entry.now
met c = record {
  meets = record { seen = (seen_alone c.self.view_is); kept = c.self.invariant; least = c.requires; low = omega arith };
  is = at-entries _ _ ∙ sym c.take.ensures.value ∙ c.in-Some.is;
  there = living_in (alone c.self.inside) _ _ (sym c.get_mut.ensures.value ∙ ap option_copied_mut c.in-Some-get_mut.is);
}

pub returns-in_default-clause-refused : goal.returns-in_default-clause-refused
returns-in_default-clause-refused c = refuses_unknown _ _ (permit_unknown (alone c.self.inside) (seen_alone c.self.view_is) c.args.p (at-entries _ _ ∙ sym c.take.ensures.value ∙ c.in_default.is)) refl

pub unreachable-requires : goal.unreachable-requires
unreachable-requires c =
    home_living (alone c.self.inside) c.args.p c.self.invariant (at-entries _ _ ∙ sym c.take.ensures.value ∙ c.in-Some.is)
    (sym c.get_mut.ensures.value ∙ ap option_copied_mut c.in_default-get_mut.is)

pub lose-requires : goal.lose-requires
lose-requires c =
    let m = met (goal.at.lose-requires c).In-Some-get_mut in
    record {
      held = permit_held m;
      thing = permit_thing m;
      plain = permit_counted m;
      tally = tally_fits m;
    }

pub invariant_of-self-2 : goal.invariant_of-self-2
invariant_of-self-2 c =
    own ((lost (met (goal.at.invariant_of-self-2 c).In-Some-get_mut) _ _ c.lose.new.self (permit_known (alone c.self.inside) (seen_alone c.self.view_is) c.args.p c.in-Some.permit (at-entries _ _ ∙ sym c.take.ensures.value ∙ c.in-Some.is)) c.lose.ensures.is c.lose.ensures.held
    (beside (alone c.self.inside) _ _ _ ((c.get_mut.follows.holds c.lose.new.self).3 (search rules)).0) (entries_gone _ _ _ c.take.ensures.rest)).kept)

pub returns-clause-played : goal.returns-clause-played
returns-clause-played c =
    tidied c.tidy.ensures (rests (met (goal.at.returns-clause-played c).In-Some-get_mut).meets refl (lost (met (goal.at.returns-clause-played c).In-Some-get_mut) _ _ c.lose.new.self (permit_known (alone c.self.inside) (seen_alone c.self.view_is) c.args.p c.in-Some.permit (at-entries _ _ ∙ sym c.take.ensures.value ∙ c.in-Some.is)) c.lose.ensures.is c.lose.ensures.held
    (beside (alone c.self.inside) _ _ _ ((c.get_mut.follows.holds c.lose.new.self).3 (search rules)).0) (entries_gone _ _ _ c.take.ensures.rest)))

pub returns-clause-allowed : goal.returns-clause-allowed
returns-clause-allowed c = permit_known (alone c.self.inside) (seen_alone c.self.view_is) c.args.p c.in-Some.permit (at-entries _ _ ∙ sym c.take.ensures.value ∙ c.in-Some.is)

pub invariant_of-self : goal.invariant_of-self
invariant_of-self c = own (kept_as_permits (alone c.self.inside) c.self.invariant (entries_same _ _ _ c.take.ensures.rest (sym c.take.ensures.value ∙ c.in_default.is)))

pub returns-in_default-clause-err : goal.returns-in_default-clause-err
returns-in_default-clause-err c = ap part_of (seen_as_permits (alone c.self.inside) (seen_alone c.self.view_is) (entries_same _ _ _ c.take.ensures.rest (sym c.take.ensures.value ∙ c.in_default.is)))
