use Rattle.std.proofs.Common.{None, length, set, refl, sym, ap, ◌∙◌, arith}
use Rattle.std.proofs.lemmas.List.{length-set}
use Rattle.mea_share_core.proofs.Swaps.{dropped, dropped_ranks}
use Rattle.mea_share_core.proofs.groups.drop_idle.Goals as goal

pub returns : goal.returns
returns g c =
    let es = c.args.map.now.entries in
    let fs = c.swap_remove_index.new.self.entries in
    let leaves = c.args.tournament.now in
    let gone = c.in-Some-swap_remove_index.field-0 in
    let there = c.in-Some-swap_remove_index.ensures in
    let set_is = c.set.ensures ∙ ap (λ n. set leaves n None) c.len.ensures.len in
    let fewer = there.len in
    let as_many = ap length c.set.ensures ∙ length-set leaves c.len.result None in record {
      ranked = dropped_ranks es fs leaves c.set.new.self c.args.place gone there.entries fewer set_is c.requires.ranked c.requires.within c.requires.room;
      room = omega (arith, as_many, fewer, c.requires.room);
      as_many = as_many;
      same = dropped g.K.PartialEq.eq g.met.K.Eq.laws es fs leaves leaves c.args.place gone (c.in-Some.field-0-0.now, c.in-Some.group.now)
          (sym c.in-Some.ensures.entry) there.entry (c.if-not-is_idle.ensures refl) c.in-Some.ensures.value there.entries there.updates.0;
    }
