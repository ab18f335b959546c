use Rattle.std.proofs.Common.{◌≡◌, Some, None, sym, ap, subst, ◌∙◌, arith}
use Rattle.std.specs.FinMap.{get}
use Rattle.mea_share_core.specs.Share.{held_of, IsWaiting, admitting}
use Rattle.mea_share_core.proofs.Swaps.{lent, settled, share_held, stands_within, put_within, put_room, put_ranks}
use Rattle.mea_share_core.proofs.groups.Groups.admit.Goals as goal

pub unreachable-requires : goal.unreachable-requires
unreachable-requires g c = let none = c.in_default.ensures.none in let some = c.requires.some in absurd (omega (arith, none, some))

pub admit-waker-requires : goal.admit-waker-requires
admit-waker-requires g c =
    let eq = g.K.PartialEq.eq in
    let laws = g.met.K.Eq.laws in
    let lead = c.in-Some.ensures.some in
    let n = c.in-Some.rank.sequence in
    let out = (lent eq laws c.self.inside.map.entries c.args.self.now c.in-Some.rank.group c.get_index_mut.result c.unwrap-group.result lead.key c.self.view_is c.get_index_mut.ensures.unique c.get_index_mut.ensures.value c.unwrap-group.ensures lead.stands) in
    let held = ap held_of out in
    let few = share_held eq laws c.self.inside.map.entries c.args.self.now c.in-Some.rank.group lead.key c.self.view_is c.get_index_mut.ensures.unique lead.stands in record {
      waits = subst (λ s. IsWaiting s n) (sym out) lead.next.waits;
      apart = subst (λ s. get s.admitted n ≡ None) (sym out) (c.requires.apart lead.key n lead.next.waits);
      fits = omega (arith, c.requires.fits, few, held);
    }

pub settle-requires : goal.settle-requires
settle-requires g c =
    let lead = c.in-Some.ensures.some in
    let within = stands_within g.K.PartialEq.eq g.met.K.Eq.laws c.args.self.now c.in-Some.rank.group lead.key lead.stands in record {
      within = put_within c.self.inside.map.entries c.args.self.now c.in-Some.rank.group c.admit-waker.new.self c.self.view_is within;
      room = put_room c.self.inside.map.entries c.self.inside.tournament c.in-Some.rank.group c.admit-waker.new.self c.self.invariant.room;
      ranked = put_ranks c.self.inside.map.entries c.self.inside.tournament c.in-Some.rank.group c.admit-waker.new.self c.self.invariant.ranked;
    }

pub returns : goal.returns
returns g c =
    let eq = g.K.PartialEq.eq in
    let laws = g.met.K.Eq.laws in
    let lead = c.in-Some.ensures.some in
    let n = c.in-Some.rank.sequence in
    let out = (lent eq laws c.self.inside.map.entries c.args.self.now c.in-Some.rank.group c.get_index_mut.result c.unwrap-group.result lead.key c.self.view_is c.get_index_mut.ensures.unique c.get_index_mut.ensures.value c.unwrap-group.ensures lead.stands) in record {
      key = lead.key;
      number = n;
      next = lead.next;
      waker = subst (λ s. get s.waiting n ≡ Some c.admit-waker.result) out c.admit-waker.ensures.waker;
      sets = settled eq laws c.self.inside.map.entries c.args.self.now c.settle.new.map.entries c.in-Some.rank.group c.admit-waker.new.self _ lead.key c.self.view_is (c.admit-waker.ensures.is ∙ ap (λ s. admitting s n) out)
          c.get_index_mut.ensures.unique lead.stands c.settle.ensures.same;
    }
