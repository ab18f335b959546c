use Rattle.std.proofs.Common.{arith}
use Rattle.mea_share_core.specs.Groups.{share_in}
use Rattle.mea_share_core.proofs.Numbered.{numbered, n_readied, readied_sums}
use Rattle.mea_share_core.proofs.fair_core.FairCore.ready.Goals as goal

pub invariant_of-self : goal.invariant_of-self
invariant_of-self g c =
    let asked = rw (← c.self.view_is) at c.requires in
    let eq = g.K.PartialEq.eq in
    let es = c.self.inside.groups in
    let next = c.self.inside.next in
    let s = share_in eq es c.args.key.now in
    let kept = c.self.invariant.numbered c.args.key.now in
    let sums = readied_sums eq es c.ready.new.self c.args.key.now c.args.number asked c.ready.ensures in
    record {
      fits = omega (arith, sums.0, c.self.invariant.fits);
      waiting = omega (arith, sums.1, c.self.invariant.waiting);
      room = c.self.invariant.room;
      settled = c.self.invariant.settled;
      numbered = numbered eq es c.ready.new.self c.args.key.now _ next next c.self.invariant.numbered c.ready.ensures (n_readied next c.args.number s kept) (omega arith);
    }
