use Rattle.std.proofs.Common.{◌+◌, arith, ap}
use Rattle.mea_family.specs.Play.{Part, PartYields}
use Rattle.mea_lock_model.specs.LockHall.{LockHall, registered}
use Rattle.mea_lock_model.specs.Meaning.{step}
use Rattle.mea_lock.specs.Actions.{meant}
use Rattle.mea_lock.specs.Halls.{hall_of, AreBelow}
use Rattle.mea_lock.proofs.Playing.{yields_all}
use Rattle.mea_lock.proofs.family.LockFamilyFamilyLockModel.act.Goals as goal
use Rattle.mea_lock.proofs.family.LockFamilyFamilyLockModel.act.Goals.{In_ok-answer, In_err-answer}

-- the parts have seen no number from that of the event on
below : (c : In_ok-answer) → AreBelow c.self.inside.kinds.mutexes c.self.inside.kinds.rw_locks c.self.inside.kinds.condvars c.args.number
below c =
    let next = ap (λ (p : Part LockHall). p.next) c.self.view_is in
    record {
      mutexes = omega (arith, c.self.invariant.mutexes, next, c.requires.next);
      rw_locks = omega (arith, c.self.invariant.rw_locks, next, c.requires.next);
      condvars = omega (arith, c.self.invariant.condvars, next, c.requires.next);
    }

-- what was played on the parts
played : (c : In_ok-answer) → PartYields {H = LockHall} registered (record { hall = hall_of c.self.inside.kinds.mutexes c.self.inside.kinds.rw_locks c.self.inside.kinds.condvars; next = c.self.inside.next }) c.args.number
    (step (hall_of c.self.inside.kinds.mutexes c.self.inside.kinds.rw_locks c.self.inside.kinds.condvars) c.args.number c.args.event.now) c.in_ok-answer.answer
    (record { hall = hall_of c.act.new.self.mutexes c.act.new.self.rw_locks c.act.new.self.condvars; next = c.args.number + 1 }) c.args.ready.now c.act.new.ready
played c = yields_all c.self.inside.kinds.mutexes c.self.inside.kinds.rw_locks c.self.inside.kinds.condvars c.act.new.self.mutexes c.act.new.self.rw_locks c.act.new.self.condvars
    c.args.ready.now c.act.new.ready c.self.inside.next c.args.number c.in_ok-answer.answer (below c) c.args.event.now (meant c.meaning_of.result) c.meaning_of.ensures.means c.in_ok-answer.ensures.1

pub returns-clause-played : goal.returns-clause-played
returns-clause-played c = rw (← c.self.view_is) (played (goal.at.returns-clause-played c).In_ok-answer)

pub returns-clause-grows : goal.returns-clause-grows
returns-clause-grows c =
    let seen = ap (λ (p : Part LockHall). registered p.hall) c.self.view_is in
    let hall = ap (λ (p : Part LockHall). registered p.hall) (played (goal.at.returns-clause-grows c).In_ok-answer).moved in
    let law = c.wakes_are_of_the_registered.ensures.grows (hall_of c.self.inside.kinds.mutexes c.self.inside.kinds.rw_locks c.self.inside.kinds.condvars) c.args.number c.args.event.now in
    omega (arith, hall, law, seen)
