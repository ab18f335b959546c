use Rattle.std.proofs.Common.{inl, arith}
use Rattle.mea_share_core.specs.Groups.{share_in}
use Rattle.mea_share_core.proofs.Numbered.{numbered, n_queued, queued_sums}
use Rattle.mea_share_core.proofs.fair_core.FairCore.wait.Goals as goal

pub invariant_of-self-in-Ok-wait : goal.invariant_of-self-in-Ok-wait
invariant_of-self-in-Ok-wait g c =
    let eq = g.K.PartialEq.eq in
    let none = rw (← c.self.view_is) at c.requires.none in
    let es = c.self.inside.groups in
    let next = c.self.inside.next in
    let s = share_in eq es c.args.key.now in
    let kept = c.self.invariant.numbered c.args.key.now in
    let sums = queued_sums eq es c.wait.new.self c.args.key.now next c.args.waker kept c.in-Ok-wait.ensures.ok in record {
      fits = omega (arith, sums.0, c.self.invariant.fits);
      waiting = omega (arith, sums.1, c.self.invariant.waiting);
      room = c.in-Ok.ensures.room;
      settled = inl none;
      numbered = numbered eq es c.wait.new.self c.args.key.now _ next _ c.self.invariant.numbered c.in-Ok-wait.ensures.ok (n_queued next s c.args.waker kept) (omega arith);
    }
