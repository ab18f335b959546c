use Rattle.std.proofs.Common.{◌+◌, arith, ap}
use Rattle.mea_family.specs.Play.{Part, PartYields}
use Rattle.mea_once_model.specs.OnceHall.{OnceHall, registered}
use Rattle.mea_once_model.specs.Meaning.{step}
use Rattle.mea_once.specs.Actions.{meant}
use Rattle.mea_once.specs.Halls.{parts, hall_of}
use Rattle.mea_once.proofs.Playing.{yields_all}
use Rattle.mea_once.proofs.family.OnceFamilyFamilyOnceModel.act.Goals as goal
use Rattle.mea_once.proofs.family.OnceFamilyFamilyOnceModel.act.Goals.{In_ok-answer}

-- what was played on the parts
played : (c : In_ok-answer) → PartYields {H = OnceHall} registered (record { hall = hall_of (parts c.self.inside.kinds.onces c.self.inside.kinds.cells c.self.inside.kinds.maps c.self.inside.kinds.groups); next = c.self.inside.next }) c.args.number
    (step (hall_of (parts c.self.inside.kinds.onces c.self.inside.kinds.cells c.self.inside.kinds.maps c.self.inside.kinds.groups)) c.args.number c.args.event.now) c.in_ok-answer.answer
    (record { hall = hall_of (parts c.act.new.self.onces c.act.new.self.cells c.act.new.self.maps c.act.new.self.groups); next = c.args.number + 1 }) c.args.ready.now c.act.new.ready
played c = yields_all (parts c.self.inside.kinds.onces c.self.inside.kinds.cells c.self.inside.kinds.maps c.self.inside.kinds.groups) (parts c.act.new.self.onces c.act.new.self.cells c.act.new.self.maps c.act.new.self.groups)
    c.args.ready.now c.act.new.ready c.self.inside.next c.args.number c.in_ok-answer.answer c.args.event.now (meant c.meaning_of.result) c.meaning_of.ensures.means c.in_ok-answer.ensures.1

pub returns-clause-played : goal.returns-clause-played
returns-clause-played c = rw (← c.self.view_is) (played (goal.at.returns-clause-played c).In_ok-answer)

pub returns-clause-grows : goal.returns-clause-grows
returns-clause-grows c =
    let seen = ap (λ (p : Part OnceHall). registered p.hall) c.self.view_is in
    let hall = ap (λ (p : Part OnceHall). registered p.hall) (played (goal.at.returns-clause-grows c).In_ok-answer).moved in
    let law = c.wakes_are_of_the_registered.ensures.grows (hall_of (parts c.self.inside.kinds.onces c.self.inside.kinds.cells c.self.inside.kinds.maps c.self.inside.kinds.groups)) c.args.number c.args.event.now in
    omega (arith, hall, law, seen)
