use Rattle.std.proofs.Common.{arith, refl}
use Rattle.mea_sem.specs.Store.{with_ended}
use Rattle.mea_sem.proofs.Meets.{Meets}
use Rattle.mea_sem.proofs.Endings.{beside_reserved}
use Rattle.mea_sem.proofs.StandingSemaphores.{done_new}
use Rattle.mea_sem.proofs.Lists.{alone, own, rests}
use Rattle.mea_sem.proofs.Inside.{lone, seen_alone}
use Rattle.mea_sem.proofs.family.SemFamily.make.Goals as goal
use Rattle.mea_sem.proofs.family.SemFamily.make.Goals.{In_ok-insert}

met : (c : In_ok-insert) → Meets (alone c.self.inside) (lone c.args.self.now) c.args.number
met c = record { seen = (seen_alone c.self.view_is); kept = c.self.invariant; least = c.requires; low = omega arith }

pub invariant_of-self-2 : goal.invariant_of-self-2
invariant_of-self-2 c =
    own ((done_new (met (goal.at.invariant_of-self-2 c).In_ok-insert) c.args.n (omega arith) (with_ended c.insert.new.self.entries c.reserve.new.self.items) c.new.result
    (beside_reserved (alone c.self.inside) _ _ _ _ c.reserve.ensures.items c.in_ok-insert.ensures.updates.0) c.new.ensures.is c.new.ensures.held).kept)

pub returns-clause-played : goal.returns-clause-played
returns-clause-played c =
    (rests (met (goal.at.returns-clause-played c).In_ok-insert) refl (done_new (met (goal.at.returns-clause-played c).In_ok-insert) c.args.n (omega arith) (with_ended c.insert.new.self.entries c.reserve.new.self.items) c.new.result
    (beside_reserved (alone c.self.inside) _ _ _ _ c.reserve.ensures.items c.in_ok-insert.ensures.updates.0) c.new.ensures.is c.new.ensures.held))
