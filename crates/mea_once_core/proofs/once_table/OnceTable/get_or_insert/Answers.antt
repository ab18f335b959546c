use Rattle.std.proofs.Common.{rules, ◌≡◌, Some, refl, subst}
use Rattle.slab.specs.Slab as slab
use Rattle.mea_once_core.specs.Table.{Table, entry_at}
use Rattle.mea_once_core.proofs.Links.{keyed}
use Rattle.mea_once_core.proofs.Tables.{few-callers, linked-joined}
use Rattle.mea_once_core.proofs.once_table.OnceTable.get_or_insert.Goals as goal

pub join-requires-clause-there : goal.join-requires-clause-there
join-requires-clause-there g c = keyed c.self.inside.entries c.self.inside.numbers.entries (g.K.PartialEq.eq c.args.key) c.in-Some.number.now c.self.invariant (search rules)

pub join-requires-clause-few : goal.join-requires-clause-few
join-requires-clause-few g c =
    few-callers (slab.get c.self.inside.entries c.in-Some.number.now)
    (λ s shows. c.requires c.in-Some.number.now s (search rules) (subst (λ (t : Table g.row.K.Denot g.row.V.Denot g.row.W.Denot). entry_at t c.in-Some.number.now ≡ Some s) c.self.view_is shows))
    (keyed c.self.inside.entries c.self.inside.numbers.entries (g.K.PartialEq.eq c.args.key) c.in-Some.number.now c.self.invariant (search rules))

pub invariant_of-self : goal.invariant_of-self
invariant_of-self g c =
    linked-joined c.self.inside.entries c.join.new.entries c.self.inside.numbers.entries c.in-Some.number.now (slab.get c.self.inside.entries c.in-Some.number.now) refl
    (keyed c.self.inside.entries c.self.inside.numbers.entries (g.K.PartialEq.eq c.args.key) c.in-Some.number.now c.self.invariant (search rules)) c.join.ensures.joined c.self.invariant
