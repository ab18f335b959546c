use Rattle.std.proofs.Common.{ap, ◌∙◌, arith}
use Rattle.mea_share_core.specs.Share.{held_of, taken}
use Rattle.mea_share_core.proofs.Entries.{new_holds}
use Rattle.mea_share_core.proofs.Swaps.{lent, settled, share_held, put_within, put_room, put_ranks}
use Rattle.mea_share_core.proofs.groups.Groups.take.Goals as goal

pub take-requires : goal.take-requires
take-requires g c =
    let held = ap held_of (lent g.K.PartialEq.eq g.met.K.Eq.laws c.self.inside.map.entries c.args.self.now c.in-Some.place c.get_index_mut.result c.unwrap.result c.args.key.now c.self.view_is c.get_index_mut.ensures.unique c.get_index_mut.ensures.value c.unwrap.ensures
    c.in-Some.ensures.some) in
    let few = share_held g.K.PartialEq.eq g.met.K.Eq.laws c.self.inside.map.entries c.args.self.now c.in-Some.place c.args.key.now c.self.view_is c.get_index_mut.ensures.unique c.in-Some.ensures.some in
    omega (arith, c.requires, held, few)

pub take-requires-in-None : goal.take-requires-in-None
take-requires-in-None g c = let none = ap held_of c.new-group.ensures in omega (arith, none, new_holds g.row.W.Denot)

pub settle-requires-clause-within : goal.settle-requires-clause-within
settle-requires-clause-within g c = put_within c.self.inside.map.entries c.args.self.now c.in-Some.place c.take.new.self c.self.view_is c.in-Some.ensures.within

pub settle-requires-clause-room : goal.settle-requires-clause-room
settle-requires-clause-room g c = put_room c.self.inside.map.entries c.self.inside.tournament c.in-Some.place c.take.new.self c.self.invariant.room

pub settle-requires-clause-ranked : goal.settle-requires-clause-ranked
settle-requires-clause-ranked g c = put_ranks c.self.inside.map.entries c.self.inside.tournament c.in-Some.place c.take.new.self c.self.invariant.ranked

pub returns-in-Some-clause-ok : goal.returns-in-Some-clause-ok
returns-in-Some-clause-ok g c =
    settled g.K.PartialEq.eq g.met.K.Eq.laws c.self.inside.map.entries c.args.self.now c.settle.new.map.entries c.in-Some.place c.take.new.self _ c.args.key.now c.self.view_is
    (c.take.ensures ∙ ap (λ s. taken s) (lent g.K.PartialEq.eq g.met.K.Eq.laws c.self.inside.map.entries c.args.self.now c.in-Some.place c.get_index_mut.result c.unwrap.result c.args.key.now c.self.view_is c.get_index_mut.ensures.unique c.get_index_mut.ensures.value c.unwrap.ensures
    c.in-Some.ensures.some)) c.get_index_mut.ensures.unique c.in-Some.ensures.some c.settle.ensures.same
