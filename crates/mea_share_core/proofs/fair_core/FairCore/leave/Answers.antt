use Rattle.std.proofs.Common.{inl, arith}
use Rattle.mea_share_core.specs.Groups.{share_in}
use Rattle.mea_share_core.proofs.Numbered.{numbered, n_left, left_sums, free_is_none}
use Rattle.mea_share_core.proofs.fair_core.FairCore.leave.Goals as goal

pub overflow_sub-self : goal.overflow_sub-self
overflow_sub-self g c =
    let asked = rw (← c.self.view_is) at c.requires in
    let eq = g.K.PartialEq.eq in
    let es = c.self.inside.groups in
    let next = c.self.inside.next in
    let s = share_in eq es c.args.key.now in
    let kept = c.self.invariant.numbered c.args.key.now in
    let sums = left_sums eq es c.leave.new.self c.args.key.now c.args.number asked c.leave.ensures in
    omega (arith, sums.1, c.self.invariant.waiting)

pub invariant_of-self : goal.invariant_of-self
invariant_of-self g c =
    let asked = rw (← c.self.view_is) at c.requires in
    let eq = g.K.PartialEq.eq in
    let es = c.self.inside.groups in
    let next = c.self.inside.next in
    let s = share_in eq es c.args.key.now in
    let kept = c.self.invariant.numbered c.args.key.now in
    let sums = left_sums eq es c.leave.new.self c.args.key.now c.args.number asked c.leave.ensures in
    let counted = c.self.invariant.waiting in
    record {
      fits = omega (arith, sums.0, c.self.invariant.fits);
      waiting = omega (arith, sums.1, counted);
      room = omega (arith, c.self.invariant.room);
      settled = inl (free_is_none c.self.inside.free c.self.inside.waiting c.self.invariant.settled (λ nobody. absurd (omega (arith, sums.1, counted, nobody))));
      numbered = numbered eq es c.leave.new.self c.args.key.now _ next next c.self.invariant.numbered c.leave.ensures (n_left next c.args.number s kept) (omega arith);
    }

pub returns-clause-settled : goal.returns-clause-settled
returns-clause-settled g c =
    let asked = rw (← c.self.view_is) at c.requires in
    let eq = g.K.PartialEq.eq in
    let es = c.self.inside.groups in
    let next = c.self.inside.next in
    let s = share_in eq es c.args.key.now in
    let kept = c.self.invariant.numbered c.args.key.now in
    let sums = left_sums eq es c.leave.new.self c.args.key.now c.args.number asked c.leave.ensures in
    let counted = c.self.invariant.waiting in
    inl (free_is_none c.self.inside.free c.self.inside.waiting c.self.invariant.settled (λ nobody. absurd (omega (arith, sums.1, counted, nobody))))
