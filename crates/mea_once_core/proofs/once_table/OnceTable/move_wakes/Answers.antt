use Rattle.std.proofs.Common.{rules, ◌≡◌, Some, refl, sym, subst}
use Rattle.slab.specs.Slab as slab
use Rattle.mea_once_core.specs.Table.{Table, entry_at, RestsEntry}
use Rattle.mea_once_core.proofs.Tables.{linked-rested, rests-entry, room-for}
use Rattle.mea_once_core.proofs.once_table.OnceTable.move_wakes.Goals as goal

pub move_wakes-requires-clause-room : goal.move_wakes-requires-clause-room
move_wakes-requires-clause-room g c =
    room-for (slab.get c.self.inside.entries c.args.number) c.args.out.now.spare
    (λ s shows. c.requires.room s (subst (λ (t : Table g.row.K.Denot g.row.V.Denot g.row.W.Denot). entry_at t c.args.number ≡ Some s) c.self.view_is shows)) (search rules)

pub invariant_of-self : goal.invariant_of-self
invariant_of-self g c =
    linked-rested c.self.inside.entries c.move_wakes.new.entries c.self.inside.numbers.entries c.args.number c.args.out.now c.move_wakes.new.out (slab.get c.self.inside.entries c.args.number) refl (search rules) c.move_wakes.ensures.rests c.self.invariant

pub returns : goal.returns
returns g c =
    let t : Table g.row.K.Denot g.row.V.Denot g.row.W.Denot = record { slots = c.self.inside.entries.slots; pairs = c.self.inside.numbers.entries } in
    let t' : Table g.row.K.Denot g.row.V.Denot g.row.W.Denot = record { slots = c.move_wakes.new.entries.slots; pairs = c.self.inside.numbers.entries } in
    record {
      rests = λ e there.
          subst (λ (s : Table g.row.K.Denot g.row.V.Denot g.row.W.Denot). RestsEntry g.K.PartialEq.eq s c.args.number e c.args.out.now c.move_wakes.new.out t') c.self.view_is
          (rests-entry g.K.PartialEq.eq t t' c.args.number c.args.out.now c.move_wakes.new.out (slab.get c.self.inside.entries c.args.number) refl c.move_wakes.ensures.rests refl e
          (subst (λ (s : Table g.row.K.Denot g.row.V.Denot g.row.W.Denot). entry_at s c.args.number ≡ Some e) (sym c.self.view_is) there));
    }
