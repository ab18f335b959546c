use Rattle.std.proofs.Common.{◌≡◌, ◌+◌, arith, ap, sym, ◌∙◌}
use Rattle.mea_family.specs.Play.{Part}
use Rattle.mea_chan_model.specs.ChanHall.{ChanHall, registered}
use Rattle.mea_chan_model.specs.Meaning.{meaning_of}
use Rattle.mea_chan.specs.Halls.{parts, hall_of, AreBelow}
use Rattle.mea_chan.proofs.Playing.{Yielded, yielded}
use Rattle.mea_chan.proofs.family.ChanFamilyFamilyChanModel.act.Goals as goal
use Rattle.mea_chan.proofs.family.ChanFamilyFamilyChanModel.act.Goals.{In_ok-answer}

-- what was done to the parts
done : (c : In_ok-answer) → Yielded (parts c.self.inside.kinds) (parts c.act.new.self) c.args.ready.now c.act.new.ready c.self.inside.next c.args.number c.in_ok-answer.answer (meaning_of c.args.event.now)
done c =
    let next = ap (λ (p : Part ChanHall). p.next) c.self.view_is in
    let held : AreBelow (parts c.self.inside.kinds) c.args.number = record {
      unbounded = omega (arith, c.self.invariant.unbounded, next, c.requires.next);
      oneshots = omega (arith, c.self.invariant.oneshots, next, c.requires.next);
      bounded = omega (arith, c.self.invariant.bounded, next, c.requires.next);
      broadcasts = omega (arith, c.self.invariant.broadcasts, next, c.requires.next);
    } in
    yielded (parts c.self.inside.kinds) (parts c.act.new.self) c.args.ready.now c.act.new.ready c.self.inside.next c.args.number c.in_ok-answer.answer held (meaning_of c.args.event.now) (rw c.meaning_of.ensures.means at c.in_ok-answer.ensures).1

pub returns-clause-played : goal.returns-clause-played
returns-clause-played c = rw (← c.self.view_is) (done (goal.at.returns-clause-played c).In_ok-answer).yields

pub returns-clause-grows : goal.returns-clause-grows
returns-clause-grows c =
    let seen = ap (λ (p : Part ChanHall). registered p.hall) c.self.view_is in
    let hall = ap (λ (p : Part ChanHall). registered p.hall) (done (goal.at.returns-clause-grows c).In_ok-answer).yields.moved in
    let law = c.wakes_are_of_the_registered.ensures.grows (hall_of (parts c.self.inside.kinds)) c.args.number c.args.event.now in
    omega (arith, hall, law, seen)
