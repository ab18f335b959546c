use Rattle.std.proofs.Common.{sym, subst}
use Rattle.mea_meet_model.specs.Hall.{Hall}
use Rattle.mea_meet_model.specs.Valid.{IsValid}
use Rattle.mea_meet_model.proofs.Registrations.{none_registered}
use Rattle.mea_meet.proofs.family.MeetFamilyFamilyMeetModel.new.Goals as goal

pub invariant_of-result : goal.invariant_of-result
invariant_of-result c = record {
  below = c.new.ensures.below;
  valid = subst (λ (h : Hall). IsValid h 0) (sym c.new.ensures.hall) c.validity_is_kept.ensures.empty;
}

pub returns-clause-none : goal.returns-clause-none
returns-clause-none c = none_registered
