use Rattle.std.proofs.Common.{inl, ap, arith}
use Rattle.mea_share_core.proofs.Numbered.{numbered_admits, admitted_sums, free_is_none}
use Rattle.mea_share_core.proofs.fair_core.FairCore.pass_on.Goals as goal

pub invariant_of-self-2 : goal.invariant_of-self-2
invariant_of-self-2 g c =
    let eq = g.K.PartialEq.eq in
    let asked = rw (← c.self.view_is) at c.requires in
    let sums = admitted_sums eq c.self.inside.groups c.admit-waker.new.self c.admit-waker.result (c.self.invariant.numbered) c.admit-waker.ensures in
    let room = ap (λ o. o.spare) c.push.ensures in
    let none = free_is_none c.self.inside.free c.self.inside.waiting c.self.invariant.settled c.if-self-eq0.false in record {
      fits = omega (arith, sums.0, asked);
      waiting = omega (arith, sums.1, c.self.invariant.waiting);
      room = omega (arith, room, c.self.invariant.room);
      settled = inl none;
      numbered = numbered_admits eq c.self.inside.groups c.admit-waker.new.self c.admit-waker.result c.self.inside.next c.self.invariant.numbered c.admit-waker.ensures;
    }
