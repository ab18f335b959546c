use Rattle.std.proofs.Common.{Some, sym, ap, subst, ◌∙◌}
use Rattle.mea_share_core.specs.Share.{IsWaiting, queued}
use Rattle.mea_share_core.specs.Groups.{Ranks}
use Rattle.mea_share_core.proofs.Ranked.{again_rank}
use Rattle.mea_share_core.proofs.Swaps.{lent, stands_share, put_sets, put_room, rank_stays, absent_waits}
use Rattle.mea_share_core.proofs.groups.Groups.replace.Goals as goal

pub unreachable-requires : goal.unreachable-requires
unreachable-requires g c = absent_waits g.K.PartialEq.eq g.met.K.Eq.laws c.args.self.now c.args.key.now c.args.number c.in_default.ensures.none c.requires

pub replace-requires : goal.replace-requires
replace-requires g c = subst (λ s. IsWaiting s c.args.number) (sym (lent g.K.PartialEq.eq g.met.K.Eq.laws c.self.inside.map.entries c.args.self.now c.in-Some.place c.get_index_mut.result c.unwrap.result c.args.key.now c.self.view_is c.get_index_mut.ensures.unique c.get_index_mut.ensures.value c.unwrap.ensures
    c.in-Some.ensures.some)) c.requires

pub invariant_of-self : goal.invariant_of-self
invariant_of-self g c =
    let e = c.in-Some.ensures.some.0 in
    let was = (lent g.K.PartialEq.eq g.met.K.Eq.laws c.self.inside.map.entries c.args.self.now c.in-Some.place c.get_index_mut.result c.unwrap.result c.args.key.now c.self.view_is c.get_index_mut.ensures.unique c.get_index_mut.ensures.value c.unwrap.ensures
    c.in-Some.ensures.some) in
    let has = stands_share g.K.PartialEq.eq g.met.K.Eq.laws c.self.inside.map.entries c.args.self.now c.in-Some.place c.args.key.now c.self.view_is c.get_index_mut.ensures.unique c.in-Some.ensures.some in
    let is = c.replace.ensures ∙ ap (λ s. queued s c.args.number c.args.waker) (was ∙ has) in record {
      ranked = rank_stays c.self.inside.map.entries c.args.self.now c.self.inside.tournament c.in-Some.place c.replace.new.self e c.self.view_is c.self.invariant.ranked c.in-Some.ensures.some.1
          (λ o ranks. subst (λ s. Ranks c.in-Some.place (Some (e.0, s)) o) (sym is)
          (again_rank c.in-Some.place e.0 e.1 c.args.number c.args.waker o (subst (λ s. IsWaiting s c.args.number) has c.requires) ranks));
      room = put_room c.self.inside.map.entries c.self.inside.tournament c.in-Some.place c.replace.new.self c.self.invariant.room;
    }

pub returns : goal.returns
returns g c =
    put_sets g.K.PartialEq.eq g.met.K.Eq.laws c.self.inside.map.entries c.args.self.now c.in-Some.place c.replace.new.self _ c.args.key.now c.self.view_is (c.replace.ensures ∙ ap (λ s. queued s c.args.number c.args.waker) (lent g.K.PartialEq.eq g.met.K.Eq.laws c.self.inside.map.entries c.args.self.now c.in-Some.place c.get_index_mut.result c.unwrap.result c.args.key.now c.self.view_is c.get_index_mut.ensures.unique c.get_index_mut.ensures.value c.unwrap.ensures
    c.in-Some.ensures.some))
    c.get_index_mut.ensures.unique c.in-Some.ensures.some
