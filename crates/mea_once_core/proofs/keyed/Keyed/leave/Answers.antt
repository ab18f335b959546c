use Rattle.std.proofs.Common.{◌≡◌, ◌≤◌, ◌∙◌, Some, is_some, refl, ap, sym, subst, arith}
use Rattle.mea_once_core.specs.Table.{entry_at, HasCaller}
use Rattle.mea_once_core.specs.Keyed.{Keyed, LeavesEntry}
use Rattle.mea_once_core.proofs.Keyeds.{leaves, retired-there, counted-left, left-within}
use Rattle.mea_once_core.proofs.keyed.Keyed.leave.Goals as goal

pub retire-requires : goal.retire-requires
retire-requires g c = subst (λ (s : Keyed g.row.K.Denot g.row.V.Denot g.row.W.Denot). HasCaller s.table c.args.number) (sym c.self.view_is) c.requires

pub cell-requires : goal.cell-requires
cell-requires g c = let has = retired-there g.K.PartialEq.eq c.self.inside.table c.retire.new.self c.args.number (subst (λ (s : Keyed g.row.K.Denot g.row.V.Denot g.row.W.Denot). HasCaller s.table c.args.number) (sym c.self.view_is) c.requires) c.retire.ensures in ap is_some has.1

pub leave-requires : goal.leave-requires
leave-requires g c = retired-there g.K.PartialEq.eq c.self.inside.table c.retire.new.self c.args.number (subst (λ (s : Keyed g.row.K.Denot g.row.V.Denot g.row.W.Denot). HasCaller s.table c.args.number) (sym c.self.view_is) c.requires) c.retire.ensures

pub waiting_after-self-inside-requires : goal.waiting_after-self-inside-requires
waiting_after-self-inside-requires g c =
    let within = left-within g.K.PartialEq.eq c.self.inside.table c.retire.new.self c.args.number c.waiting-waiting.result c.cell.result.now (subst (λ (s : Keyed g.row.K.Denot g.row.V.Denot g.row.W.Denot). HasCaller s.table c.args.number) (sym c.self.view_is) c.requires) c.retire.ensures c.cell.ensures c.waiting-waiting.ensures in
    let counted = c.self.invariant.counted in
    omega arith

pub invariant_of-self : goal.invariant_of-self
invariant_of-self g c =
    let k = counted-left g.K.PartialEq.eq c.self.inside.table c.retire.new.self c.leave.new.self c.args.number c.waiting-waiting.result c.self.inside.waiting c.self.inside.outbox.spare c.cell.result.now c.is_in_use.result
    (subst (λ (s : Keyed g.row.K.Denot g.row.V.Denot g.row.W.Denot). HasCaller s.table c.args.number) (sym c.self.view_is) c.requires) c.retire.ensures c.leave.ensures c.self.invariant.quiet c.cell.ensures c.waiting-waiting.ensures c.is_in_use.ensures
    c.self.invariant.counted c.self.invariant.room in
    record { quiet = k.0; counted = c.waiting_after-self-inside.ensures ∙ k.1; room = subst (λ m. m ≤ c.self.inside.outbox.spare) (sym c.waiting_after-self-inside.ensures) k.2 }

pub returns : goal.returns
returns g c = λ e there.
    let k : Keyed g.row.K.Denot g.row.V.Denot g.row.W.Denot = record { table = c.self.inside.table; wakes = c.self.inside.outbox.wakers } in
    let k' : Keyed g.row.K.Denot g.row.V.Denot g.row.W.Denot = record { table = c.leave.new.self; wakes = c.self.inside.outbox.wakers } in
    subst (λ (s : Keyed g.row.K.Denot g.row.V.Denot g.row.W.Denot). LeavesEntry g.K.PartialEq.eq s c.args.number e k') c.self.view_is
    (leaves g.K.PartialEq.eq k k' c.retire.new.self c.args.number e (c.retire.ensures e (subst (λ (s : Keyed g.row.K.Denot g.row.V.Denot g.row.W.Denot). entry_at s.table c.args.number ≡ Some e) (sym c.self.view_is) there)) c.leave.ensures refl)
