use Rattle.std.proofs.Common.{◌+◌, arith, ap, sym, subst, ◌∙◌}
use Rattle.mea_family.specs.Play.{Part, PartYields}
use Rattle.mea_meet_model.specs.Hall.{Hall, registered}
use Rattle.mea_meet_model.specs.Cause.{cause_by}
use Rattle.mea_meet_model.specs.Step.{step}
use Rattle.mea_meet_model.specs.Valid.{IsValid}
use Rattle.mea_meet.specs.Actions.{meant}
use Rattle.mea_meet.specs.Halls.{hall_of, AreBelow}
use Rattle.mea_meet.proofs.Playing.{below_after, yields_all}
use Rattle.mea_meet.proofs.family.MeetFamilyFamilyMeetModel.act.Goals as goal
use Rattle.mea_meet.proofs.family.MeetFamilyFamilyMeetModel.act.Goals.{In_ok-reply}

-- the parts have seen no number from that of the event on
below : (c : In_ok-reply) → AreBelow c.self.inside.kinds.barriers c.self.inside.kinds.latches c.self.inside.kinds.groups c.self.inside.kinds.shutdowns c.args.number
below c =
    let held = c.self.invariant.below in
    let next = ap (λ (p : Part Hall). p.next) c.self.view_is in
    record {
      barriers = omega (arith, held.barriers, next, c.requires.next);
      latches = omega (arith, held.latches, next, c.requires.next);
      groups = omega (arith, held.groups, next, c.requires.next);
      shutdowns = omega (arith, held.shutdowns, next, c.requires.next);
    }

-- what was played on the parts
played : (c : In_ok-reply) → PartYields {H = Hall} registered (record { hall = hall_of c.self.inside.kinds.barriers c.self.inside.kinds.latches c.self.inside.kinds.groups c.self.inside.kinds.shutdowns; next = c.self.inside.next }) c.args.number
    (step (hall_of c.self.inside.kinds.barriers c.self.inside.kinds.latches c.self.inside.kinds.groups c.self.inside.kinds.shutdowns) c.args.number c.args.event.now) c.in_ok-reply.reply
    (record { hall = hall_of c.act.new.self.barriers c.act.new.self.latches c.act.new.self.groups c.act.new.self.shutdowns; next = c.args.number + 1 }) c.args.ready.now c.act.new.ready
played c = yields_all c.self.inside.kinds.barriers c.self.inside.kinds.latches c.self.inside.kinds.groups c.self.inside.kinds.shutdowns c.act.new.self.barriers c.act.new.self.latches c.act.new.self.groups c.act.new.self.shutdowns
    c.args.ready.now c.act.new.ready c.args.number c.in_ok-reply.reply c.self.inside.next c.args.event.now (meant c.meaning_of.result) c.meaning_of.ensures.means c.in_ok-reply.ensures.1

pub returns-clause-played : goal.returns-clause-played
returns-clause-played c = rw (← c.self.view_is) (played (goal.at.returns-clause-played c).In_ok-reply)

pub returns-clause-grows : goal.returns-clause-grows
returns-clause-grows c =
    let seen = ap (λ (p : Part Hall). registered p.hall) c.self.view_is in
    let hall = ap (λ (p : Part Hall). registered p.hall) (played (goal.at.returns-clause-grows c).In_ok-reply).moved in
    let law = c.wakes_are_of_the_registered.ensures.grows (hall_of c.self.inside.kinds.barriers c.self.inside.kinds.latches c.self.inside.kinds.groups c.self.inside.kinds.shutdowns) c.args.number c.args.event.now in
    omega (arith, hall, law, seen)

pub invariant_of-self-2 : goal.invariant_of-self-2
invariant_of-self-2 c =
    let at = (goal.at.invariant_of-self-2 c).In_ok-reply in
    let old = hall_of c.self.inside.kinds.barriers c.self.inside.kinds.latches c.self.inside.kinds.groups c.self.inside.kinds.shutdowns in
    let next = ap (λ (p : Part Hall). p.next) c.self.view_is in
    record {
      below = below_after _ _ _ _ _ _ _ _ _ _ c.args.number c.in_ok-reply.reply (below at) (meant c.meaning_of.result) c.in_ok-reply.ensures.1;
      valid = subst (λ (h : Hall). IsValid h (c.args.number + 1)) (sym (ap (λ (p : Part Hall). p.hall) (played at).moved))
          (c.validity_is_kept.ensures.event old c.self.inside.next c.args.number c.args.event.now c.self.invariant.valid (omega (arith, next, c.requires.next))
          (sym (ap (cause_by old) c.meaning_of.ensures.means) ∙ c.in_ok-reply.ensures.0));
    }
