use Rattle.std.proofs.Common.{sym, ap, subst, ◌∙◌}
use Rattle.mea_share_core.specs.Share.{IsWaiting, left}
use Rattle.mea_share_core.proofs.Swaps.{lent, settled, put_within, put_room, put_ranks, absent_waits}
use Rattle.mea_share_core.proofs.groups.Groups.leave.Goals as goal

pub unreachable-requires : goal.unreachable-requires
unreachable-requires g c = absent_waits g.K.PartialEq.eq g.met.K.Eq.laws c.args.self.now c.args.key.now c.args.number c.in_default.ensures.none c.requires

pub leave-requires : goal.leave-requires
leave-requires g c = subst (λ s. IsWaiting s c.args.number) (sym (lent g.K.PartialEq.eq g.met.K.Eq.laws c.self.inside.map.entries c.args.self.now c.in-Some.place c.get_index_mut.result c.unwrap.result c.args.key.now c.self.view_is c.get_index_mut.ensures.unique c.get_index_mut.ensures.value c.unwrap.ensures
    c.in-Some.ensures.some)) c.requires

pub settle-requires-clause-within : goal.settle-requires-clause-within
settle-requires-clause-within g c = put_within c.self.inside.map.entries c.args.self.now c.in-Some.place c.leave.new.self c.self.view_is c.in-Some.ensures.within

pub settle-requires-clause-room : goal.settle-requires-clause-room
settle-requires-clause-room g c = put_room c.self.inside.map.entries c.self.inside.tournament c.in-Some.place c.leave.new.self c.self.invariant.room

pub settle-requires-clause-ranked : goal.settle-requires-clause-ranked
settle-requires-clause-ranked g c = put_ranks c.self.inside.map.entries c.self.inside.tournament c.in-Some.place c.leave.new.self c.self.invariant.ranked

pub returns : goal.returns
returns g c =
    settled g.K.PartialEq.eq g.met.K.Eq.laws c.self.inside.map.entries c.args.self.now c.settle.new.map.entries c.in-Some.place c.leave.new.self _ c.args.key.now c.self.view_is
    (c.leave.ensures.is ∙ ap (λ s. left s c.args.number) (lent g.K.PartialEq.eq g.met.K.Eq.laws c.self.inside.map.entries c.args.self.now c.in-Some.place c.get_index_mut.result c.unwrap.result c.args.key.now c.self.view_is c.get_index_mut.ensures.unique c.get_index_mut.ensures.value c.unwrap.ensures
    c.in-Some.ensures.some)) c.get_index_mut.ensures.unique c.in-Some.ensures.some c.settle.ensures.same
