use Rattle.std.proofs.Common.{◌≡◌, ◌≤◌, None, length, sym, ap, subst, ◌∙◌}
use Rattle.std.specs.FinMap.{get}
use Rattle.mea_share_core.specs.Share.{queued}
use Rattle.mea_share_core.specs.Groups.{AreRanked}
use Rattle.mea_share_core.proofs.Swaps.{lent, settled, alike_same, put_same, put_within, put_room, put_ranks}
use Rattle.mea_share_core.proofs.groups.Groups.wait.Goals as goal

pub queue-requires : goal.queue-requires
queue-requires g c = subst (λ s. get s.waiting c.args.number ≡ None) (sym (lent g.K.PartialEq.eq g.met.K.Eq.laws c.self.inside.map.entries c.args.self.now c.in-Some.place c.get_index_mut.result c.unwrap.result c.args.key.now c.self.view_is c.get_index_mut.ensures.unique c.get_index_mut.ensures.value c.unwrap.ensures c.in-Some.ensures.some)) c.requires

pub settle-requires : goal.settle-requires
settle-requires g c = record {
  within = put_within c.self.inside.map.entries c.args.self.now c.in-Some.place c.queue.new.self c.self.view_is c.in-Some.ensures.within;
  room = put_room c.self.inside.map.entries c.self.inside.tournament c.in-Some.place c.queue.new.self c.self.invariant.room;
  ranked = put_ranks c.self.inside.map.entries c.self.inside.tournament c.in-Some.place c.queue.new.self c.self.invariant.ranked;
}

pub invariant_of-self-in-Err : goal.invariant_of-self-in-Err
invariant_of-self-in-Err g c =
    let same = (put_same g.K.PartialEq.eq g.met.K.Eq.laws c.self.inside.map.entries c.args.self.now c.in-Some.place c.queue.new.self c.args.key.now c.self.view_is (c.in-Err.ensures.err ∙ (lent g.K.PartialEq.eq g.met.K.Eq.laws c.self.inside.map.entries c.args.self.now c.in-Some.place c.get_index_mut.result c.unwrap.result c.args.key.now c.self.view_is c.get_index_mut.ensures.unique c.get_index_mut.ensures.value c.unwrap.ensures c.in-Some.ensures.some)) c.get_index_mut.ensures.unique c.in-Some.ensures.some) in record {
      ranked = subst (λ xs. AreRanked xs c.self.inside.tournament) (sym same) c.self.invariant.ranked;
      room = subst (λ xs. length xs ≤ length c.self.inside.tournament) (sym same) c.self.invariant.room;
    }

pub returns-in-Ok-clause-ok : goal.returns-in-Ok-clause-ok
returns-in-Ok-clause-ok g c =
    settled g.K.PartialEq.eq g.met.K.Eq.laws c.self.inside.map.entries c.args.self.now c.settle.new.map.entries c.in-Some.place c.queue.new.self _ c.args.key.now c.self.view_is
    (c.in-Ok.ensures.ok ∙ ap (λ s. queued s c.args.number c.args.waker) (lent g.K.PartialEq.eq g.met.K.Eq.laws c.self.inside.map.entries c.args.self.now c.in-Some.place c.get_index_mut.result c.unwrap.result c.args.key.now c.self.view_is c.get_index_mut.ensures.unique c.get_index_mut.ensures.value c.unwrap.ensures c.in-Some.ensures.some)) c.get_index_mut.ensures.unique c.in-Some.ensures.some c.settle.ensures.same

pub returns-in-Err-clause-err : goal.returns-in-Err-clause-err
returns-in-Err-clause-err g c =
    alike_same g.K.PartialEq.eq g.met.K.Eq.laws c.self.inside.map.entries c.args.self.now _ c.self.view_is (put_same g.K.PartialEq.eq g.met.K.Eq.laws c.self.inside.map.entries c.args.self.now c.in-Some.place c.queue.new.self c.args.key.now c.self.view_is (c.in-Err.ensures.err ∙ (lent g.K.PartialEq.eq g.met.K.Eq.laws c.self.inside.map.entries c.args.self.now c.in-Some.place c.get_index_mut.result c.unwrap.result c.args.key.now c.self.view_is c.get_index_mut.ensures.unique c.get_index_mut.ensures.value c.unwrap.ensures c.in-Some.ensures.some)) c.get_index_mut.ensures.unique c.in-Some.ensures.some)
