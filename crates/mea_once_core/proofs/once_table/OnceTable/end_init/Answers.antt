use Rattle.std.proofs.Common.{rules, ◌≡◌, Some, refl, sym, subst}
use Rattle.slab.specs.Slab as slab
use Rattle.mea_once_core.specs.Table.{Table, entry_at, EndsEntry}
use Rattle.mea_once_core.proofs.Tables.{linked-ended, ends-entry}
use Rattle.mea_once_core.proofs.once_table.OnceTable.end_init.Goals as goal

pub invariant_of-self : goal.invariant_of-self
invariant_of-self g c =
    linked-ended c.self.inside.entries c.end_init.new.entries c.self.inside.numbers.entries c.args.number c.args.call.stage
    (slab.get c.self.inside.entries c.args.number) refl (search rules) c.end_init.ensures.ends c.self.invariant

pub returns : goal.returns
returns g c =
    let t : Table g.row.K.Denot g.row.V.Denot g.row.W.Denot = record { slots = c.self.inside.entries.slots; pairs = c.self.inside.numbers.entries } in
    let t' : Table g.row.K.Denot g.row.V.Denot g.row.W.Denot = record { slots = c.end_init.new.entries.slots; pairs = c.self.inside.numbers.entries } in
    record {
      ends = λ e there.
          subst (λ (s : Table g.row.K.Denot g.row.V.Denot g.row.W.Denot). EndsEntry g.K.PartialEq.eq s c.args.number e c.args.call.stage t') c.self.view_is
          (ends-entry g.K.PartialEq.eq t t' c.args.number c.args.call.stage (slab.get c.self.inside.entries c.args.number) refl c.end_init.ensures.ends refl e
          (subst (λ (s : Table g.row.K.Denot g.row.V.Denot g.row.W.Denot). entry_at s c.args.number ≡ Some e) (sym c.self.view_is) there));
    }
