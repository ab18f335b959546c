use Rattle.std.proofs.Common.{◌<◌, length, slice_get, set, ap, subst, ◌∙◌, arith}
use Rattle.std.proofs.lemmas.List.{length-set}
use Rattle.std.specs.Map.{lookup}
use Rattle.indexmap.proofs.CallerLemmas.{insert_entry-new}
use Rattle.mea_share_core.specs.Groups.{Ranks}
use Rattle.mea_share_core.proofs.Swaps.{added_sets, added_ranks, added_len}
use Rattle.mea_share_core.proofs.groups.Groups.add.Goals as goal

pub invariant_of-self-in-Ok-insert : goal.invariant_of-self-in-Ok-insert
invariant_of-self-in-Ok-insert g c =
    let es = c.self.inside.map.entries in
    let wider = c.make_place.new.tournament in
    let r = c.rank_at.result in
    let count = c.len-place.ensures.len in
    let none = ap (lookup (g.K.PartialEq.eq c.args.key)) c.self.view_is ∙ c.requires in
    let added = c.in-Ok-insert.ensures.entries ∙ insert_entry-new g.K.PartialEq.eq c.self.inside.map c.args.key c.args.group none in
    let within = c.in-Ok.ensures.room in
    let more = added_len es c.insert.new.self.entries (c.args.key, c.args.group) added in
    let as_many = ap length c.set.ensures ∙ length-set wider c.len-place.result r in record {
      ranked = added_ranks es c.insert.new.self.entries (c.args.key, c.args.group) c.self.inside.tournament wider c.set.new.self r added c.self.invariant.ranked c.make_place.ensures.kept
          (subst (λ n. Ranks n (slice_get c.insert.new.self.entries n) r) count c.rank_at.ensures) (c.set.ensures ∙ ap (λ n. set wider n r) count) (subst (λ n. n < length wider) count within);
      room = omega (arith, more, as_many, within, count);
    }

pub returns-in-Ok-insert-clause-ok : goal.returns-in-Ok-insert-clause-ok
returns-in-Ok-insert-clause-ok g c =
    let es = c.self.inside.map.entries in
    let none = ap (lookup (g.K.PartialEq.eq c.args.key)) c.self.view_is ∙ c.requires in
    added_sets g.K.PartialEq.eq g.met.K.Eq.laws es c.args.self.now c.insert.new.self.entries c.args.key c.args.group c.self.view_is c.requires
    (c.in-Ok-insert.ensures.entries ∙ insert_entry-new g.K.PartialEq.eq c.self.inside.map c.args.key c.args.group none) c.in-Ok-insert.ensures.updates.0
