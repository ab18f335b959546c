use Rattle.std.proofs.Common.{sym, ap, subst, ◌∙◌, arith}
use Rattle.mea_share_core.specs.Share.{held_of, IsAdmitted, readied}
use Rattle.mea_share_core.proofs.Kept.{len-fewer}
use Rattle.mea_share_core.proofs.Ranked.{same_rank}
use Rattle.mea_share_core.proofs.Swaps.{lent, stands_share, put_sets, put_room, rank_stays, absent_admitted}
use Rattle.mea_share_core.proofs.groups.Groups.ready.Goals as goal

pub unreachable-requires : goal.unreachable-requires
unreachable-requires g c = absent_admitted g.K.PartialEq.eq g.met.K.Eq.laws c.args.self.now c.args.key.now c.args.number c.in_default.ensures.none c.requires

pub ready-requires : goal.ready-requires
ready-requires g c = subst (λ s. IsAdmitted s c.args.number) (sym (lent g.K.PartialEq.eq g.met.K.Eq.laws c.self.inside.map.entries c.args.self.now c.in-Some.place c.get_index_mut.result c.unwrap.result c.args.key.now c.self.view_is c.get_index_mut.ensures.unique c.get_index_mut.ensures.value c.unwrap.ensures
    c.in-Some.ensures.some)) c.requires

pub invariant_of-self : goal.invariant_of-self
invariant_of-self g c =
    let e = c.in-Some.ensures.some.0 in
    let was = (lent g.K.PartialEq.eq g.met.K.Eq.laws c.self.inside.map.entries c.args.self.now c.in-Some.place c.get_index_mut.result c.unwrap.result c.args.key.now c.self.view_is c.get_index_mut.ensures.unique c.get_index_mut.ensures.value c.unwrap.ensures
    c.in-Some.ensures.some) in
    let has = stands_share g.K.PartialEq.eq g.met.K.Eq.laws c.self.inside.map.entries c.args.self.now c.in-Some.place c.args.key.now c.self.view_is c.get_index_mut.ensures.unique c.in-Some.ensures.some in
    let is = c.ready.ensures ∙ ap (λ s. readied s c.args.number) (was ∙ has) in
    let fewer = len-fewer e.1.admitted c.args.number (subst (λ s. IsAdmitted s c.args.number) has c.requires) in record {
      ranked = rank_stays c.self.inside.map.entries c.args.self.now c.self.inside.tournament c.in-Some.place c.ready.new.self e c.self.view_is c.self.invariant.ranked c.in-Some.ensures.some.1
          (λ o ranks. same_rank c.in-Some.place e.0 e.1 c.ready.new.self o (ap held_of is ∙ omega (arith, fewer)) (ap (λ s. s.weight) is) (ap (λ s. s.waiting) is) ranks);
      room = put_room c.self.inside.map.entries c.self.inside.tournament c.in-Some.place c.ready.new.self c.self.invariant.room;
    }

pub returns : goal.returns
returns g c =
    put_sets g.K.PartialEq.eq g.met.K.Eq.laws c.self.inside.map.entries c.args.self.now c.in-Some.place c.ready.new.self _ c.args.key.now c.self.view_is (c.ready.ensures ∙ ap (λ s. readied s c.args.number) (lent g.K.PartialEq.eq g.met.K.Eq.laws c.self.inside.map.entries c.args.self.now c.in-Some.place c.get_index_mut.result c.unwrap.result c.args.key.now c.self.view_is c.get_index_mut.ensures.unique c.get_index_mut.ensures.value c.unwrap.ensures
    c.in-Some.ensures.some))
    c.get_index_mut.ensures.unique c.in-Some.ensures.some
