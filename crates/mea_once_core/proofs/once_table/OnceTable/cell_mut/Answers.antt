use Rattle.std.proofs.Common.{◌≡◌, Some, IfSome, slice_set, refl, ap, sym, subst}
use Rattle.slab.specs.Slab.{with_value}
use Rattle.mea_once_core.specs.Table.{Table, entry_at}
use Rattle.mea_once_core.specs.TableLends.{with_cell, with_cell_of}
use Rattle.mea_once_core.proofs.Slots.{sets-slot, cell-shown}
use Rattle.mea_once_core.proofs.Tables.{linked-at}
use Rattle.mea_once_core.proofs.once_table.OnceTable.cell_mut.Goals as goal

pub invariant_of-self-lent : goal.invariant_of-self-lent
invariant_of-self-lent g c = λ w.
    let lent = c.index_mut.result.now in
    let set = sets-slot c.self.inside.entries.slots c.args.number lent (record lent { cell = w }) c.index_mut.ensures.value in
    linked-at c.self.inside.entries (with_value c.self.inside.entries c.args.number (record lent { cell = w })) c.self.inside.numbers.entries c.args.number lent (record lent { cell = w }) c.index_mut.ensures.value refl
    (record { changed = set.changed; others = set.others }) c.self.invariant

pub returns : goal.returns
returns g c =
    let lent = c.index_mut.result.now in (
      (
        refl,
        λ w.
            subst (λ (t : Table g.row.K.Denot g.row.V.Denot g.row.W.Denot). record { slots = slice_set c.self.inside.entries.slots c.args.number (Some (record lent { cell = w })); pairs = c.self.inside.numbers.entries } ≡ with_cell t c.args.number w) c.self.view_is
            (ap (λ o. record { slots = slice_set c.self.inside.entries.slots c.args.number (with_cell_of o w); pairs = c.self.inside.numbers.entries }) (sym c.index_mut.ensures.value)),
      ),
      record {
        writes_back = tt;
        cell = subst (λ (t : Table g.row.K.Denot g.row.V.Denot g.row.W.Denot). IfSome (entry_at t c.args.number) (λ e. lent.cell ≡ e.cell)) c.self.view_is
            (cell-shown c.self.inside.entries.slots c.args.number lent c.index_mut.ensures.value);
      },
    )
