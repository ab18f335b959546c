use Rattle.std.proofs.Common.{◌<◌, length, sym, ap, subst, ◌∙◌}
use Rattle.std.specs.Map.{lookup}
use Rattle.std.proofs.lemmas.Option.{slice_get_within}
use Rattle.std.proofs.lemmas.Map.Made.{lookup_key_passes}
use Rattle.mea_share_core.proofs.Swaps.{found_at}
use Rattle.mea_share_core.proofs.groups.Groups.find.Goals as goal

pub returns-in-Some-clause-some : goal.returns-in-Some-clause-some
returns-in-Some-clause-some g c =
    found_at g.K.PartialEq.eq g.met.K.Eq.laws c.self.inside.map.entries c.args.self.now c.in-Some.place c.args.key.now c.in-Some.field-0-1.now c.in-Some.field-0-2.now c.self.view_is
    c.in-Some.ensures.entry (lookup_key_passes (g.K.PartialEq.eq c.args.key.now) c.self.inside.map.entries c.in-Some.field-0-1.now (sym c.in-Some.ensures.key))

pub returns-in-Some-clause-within : goal.returns-in-Some-clause-within
returns-in-Some-clause-within g c =
    subst (λ xs. c.in-Some.place < length xs) c.self.view_is (slice_get_within c.self.inside.map.entries c.in-Some.place (c.in-Some.field-0-1.now, c.in-Some.field-0-2.now) c.in-Some.ensures.entry)

pub returns-in-None : goal.returns-in-None
returns-in-None g c = record { some = tt; within = tt; none = ap (lookup (g.K.PartialEq.eq c.args.key.now)) (sym c.self.view_is) ∙ sym c.in-None.ensures.value }
