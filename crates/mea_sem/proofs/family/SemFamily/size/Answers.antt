use Rattle.std.proofs.Common.{refl, sym, ap, ◌∙◌, arith}
use Rattle.std.specs.Option.{option_copied}
use Rattle.mea_sem.proofs.Things.{at-entries}
use Rattle.mea_sem.proofs.Meets.{Meets}
use Rattle.mea_sem.proofs.Refusals.{permit_known, permit_unknown, refuses_unknown}
use Rattle.mea_sem.proofs.StandingPermits.{sized}
use Rattle.mea_sem.proofs.Lists.{alone, own, rests}
use Rattle.mea_sem.proofs.Inside.{lone, seen_alone}
use Rattle.mea_sem.proofs.family.SemFamily.size.Goals as goal
use Rattle.mea_sem.proofs.family.SemFamily.size.Goals.{In-Some}

met : (c : In-Some) → Meets (alone c.self.inside) (lone c.args.self.now) c.args.number
met c = record { seen = (seen_alone c.self.view_is); kept = c.self.invariant; least = c.requires; low = omega arith }

pub returns-in_default-clause-refused : goal.returns-in_default-clause-refused
returns-in_default-clause-refused c = refuses_unknown _ _ (permit_unknown (alone c.self.inside) (seen_alone c.self.view_is) c.args.p (at-entries _ _ ∙ sym c.get.ensures ∙ ap option_copied c.in_default.is)) refl

pub invariant_of-self : goal.invariant_of-self
invariant_of-self c =
    own ((sized (met (goal.at.invariant_of-self c).In-Some) c.args.p c.in-Some.permit.now
    (at-entries _ _ ∙ sym c.get.ensures ∙ ap option_copied c.in-Some.is)).kept)

pub returns-clause-played : goal.returns-clause-played
returns-clause-played c = (rests (met (goal.at.returns-clause-played c).In-Some) refl (sized (met (goal.at.returns-clause-played c).In-Some) c.args.p c.in-Some.permit.now (at-entries _ _ ∙ sym c.get.ensures ∙ ap option_copied c.in-Some.is)))

pub returns-clause-allowed : goal.returns-clause-allowed
returns-clause-allowed c = permit_known (alone c.self.inside) (seen_alone c.self.view_is) c.args.p c.in-Some.permit.now (at-entries _ _ ∙ sym c.get.ensures ∙ ap option_copied c.in-Some.is)
