use Rattle.std.proofs.Common.{rules, refl, subst}
use Rattle.slab.specs.Slab as slab
use Rattle.mea_once_core.specs.Table.{Table, Unlists}
use Rattle.mea_once_core.proofs.Tables.{linked-dropped, listed-by, unlists}
use Rattle.mea_once_core.proofs.once_table.OnceTable.remove.Goals as goal

pub invariant_of-self : goal.invariant_of-self
invariant_of-self g c =
    linked-dropped c.unlist.new.entries c.drop_unused.new.entries c.unlist.new.numbers.entries c.in_ok-number.field-0.now (slab.get c.unlist.new.entries c.in_ok-number.field-0.now) refl
    c.drop_unused.ensures.absent c.drop_unused.ensures.used c.drop_unused.ensures.unused c.unlist.ensures.linked

pub returns-clause-some : goal.returns-clause-some
returns-clause-some g c =
    let t : Table g.row.K.Denot g.row.V.Denot g.row.W.Denot = record { slots = c.self.inside.entries.slots; pairs = c.self.inside.numbers.entries } in
    let t' : Table g.row.K.Denot g.row.V.Denot g.row.W.Denot = record { slots = c.drop_unused.new.entries.slots; pairs = c.unlist.new.numbers.entries } in
    subst (λ (s : Table g.row.K.Denot g.row.V.Denot g.row.W.Denot). Unlists g.K.PartialEq.eq s t' c.in_ok-number.field-0.now) c.self.view_is
    (λ e there.
    let told = c.unlist.ensures.listed e there (listed-by c.self.inside.entries c.self.inside.numbers.entries (g.K.PartialEq.eq c.args.key.now) c.in_ok-number.field-0.now e c.self.invariant (search rules) there) in
    (unlists c.self.inside.entries c.unlist.new.entries c.drop_unused.new.entries c.in_ok-number.field-0.now e told.0 (slab.get c.unlist.new.entries c.in_ok-number.field-0.now) refl c.drop_unused.ensures.used c.drop_unused.ensures.unused, told.1))
