use Rattle.std.proofs.Common.{sym, ◌∙◌, arith}
use Rattle.mea_share_core.specs.Groups.{share_in}
use Rattle.mea_share_core.proofs.Numbered.{numbered, n_again, again_sums, settled_as}
use Rattle.mea_share_core.proofs.fair_core.FairCore.replace.Goals as goal

pub invariant_of-self : goal.invariant_of-self
invariant_of-self g c =
    let asked = rw (← c.self.view_is) at c.requires in
    let eq = g.K.PartialEq.eq in
    let es = c.self.inside.groups in
    let next = c.self.inside.next in
    let s = share_in eq es c.args.key.now in
    let kept = c.self.invariant.numbered c.args.key.now in
    let sums = again_sums eq es c.replace.new.self c.args.key.now c.args.number c.args.waker asked c.replace.ensures in
    record {
      fits = omega (arith, sums.0, c.self.invariant.fits);
      waiting = omega (arith, sums.1, c.self.invariant.waiting);
      room = c.self.invariant.room;
      settled = c.self.invariant.settled;
      numbered = numbered eq es c.replace.new.self c.args.key.now _ next next c.self.invariant.numbered c.replace.ensures (n_again next c.args.number s c.args.waker kept asked) (omega arith);
    }

pub returns-clause-settled : goal.returns-clause-settled
returns-clause-settled g c =
    let asked = rw (← c.self.view_is) at c.requires in
    let eq = g.K.PartialEq.eq in
    let es = c.self.inside.groups in
    let next = c.self.inside.next in
    let s = share_in eq es c.args.key.now in
    let kept = c.self.invariant.numbered c.args.key.now in
    let sums = again_sums eq es c.replace.new.self c.args.key.now c.args.number c.args.waker asked c.replace.ensures in
    settled_as c.self.inside.free c.self.inside.waiting _ c.self.invariant.settled (c.self.invariant.waiting ∙ sym sums.1)
