use Rattle.std.proofs.Common.{arith}
use Rattle.mea_share_core.specs.Groups.{share_in}
use Rattle.mea_share_core.proofs.Numbered.{numbered, n_given_up, given_sums}
use Rattle.mea_share_core.proofs.fair_core.FairCore.give_up.Goals as goal

pub invariant_of-self : goal.invariant_of-self
invariant_of-self g c =
    let asked = rw (← c.self.view_is) at c.requires in
    let eq = g.K.PartialEq.eq in
    let es = c.self.inside.groups in
    let next = c.self.inside.next in
    let s = share_in eq es c.args.key.now in
    let kept = c.self.invariant.numbered c.args.key.now in
    let sums = given_sums eq es c.give_up.new.self c.args.key.now c.args.number asked c.give_up.ensures in
    record {
      fits = omega (arith, sums.0, c.self.invariant.fits);
      waiting = omega (arith, sums.1, c.self.invariant.waiting);
      room = c.self.invariant.room;
      settled = c.self.invariant.settled;
      numbered = numbered eq es c.give_up.new.self c.args.key.now _ next next c.self.invariant.numbered c.give_up.ensures (n_given_up next c.args.number s kept) (omega arith);
    }

pub returns-clause-fits : goal.returns-clause-fits
returns-clause-fits g c =
    let asked = rw (← c.self.view_is) at c.requires in
    let eq = g.K.PartialEq.eq in
    let es = c.self.inside.groups in
    let next = c.self.inside.next in
    let s = share_in eq es c.args.key.now in
    let kept = c.self.invariant.numbered c.args.key.now in
    let sums = given_sums eq es c.give_up.new.self c.args.key.now c.args.number asked c.give_up.ensures in
    omega (arith, sums.0, c.self.invariant.fits)
