use Rattle.std.proofs.Common.{◌≡◌, ◌≤◌, sym, subst}
use Rattle.mea_once_core.specs.Cell.{Cell}
use Rattle.mea_once_core.specs.Permit.{MayEnd}
use Rattle.mea_once_core.specs.Keyed.{Keyed}
use Rattle.mea_once_core.specs.Table.{entry_at, HasCaller}
use Rattle.mea_once_core.proofs.Exists.{there_iff}
use Rattle.mea_once_core.proofs.Tables.{at_entry}
use Rattle.mea_once_core.proofs.keyed.Keyed.may_end_at.Goals as goal

pub returns : goal.returns
returns g c =
    let calls = subst (λ (s : Keyed g.row.K.Denot g.row.V.Denot g.row.W.Denot). HasCaller s.table c.args.number) (sym c.self.view_is) (c.has_caller.ensures.0 c.if-not-has_caller.false) in
    rw (← c.self.view_is) (there_iff (entry_at c.self.inside.table c.args.number) (λ e. 1 ≤ e.callers) (λ e. MayEnd e.cell.permit c.args.stage) c.may_end.result calls
    (λ e there yes.
    let cell = at_entry (λ s. c.cell.result.now ≡ s.cell) (entry_at c.self.inside.table c.args.number) e there c.cell.ensures in
    subst (λ (x : Cell g.row.V.Denot g.row.W.Denot). MayEnd x.permit c.args.stage) cell (c.may_end.ensures.0 yes))
    (λ e there may.
    let cell = at_entry (λ s. c.cell.result.now ≡ s.cell) (entry_at c.self.inside.table c.args.number) e there c.cell.ensures in
    c.may_end.ensures.1 (subst (λ (x : Cell g.row.V.Denot g.row.W.Denot). MayEnd x.permit c.args.stage) (sym cell) may)))

pub returns-then-not-has_caller : goal.returns-then-not-has_caller
returns-then-not-has_caller g c = (
  (λ yes. absurd (cc)),
  (λ h. absurd (let yes = c.has_caller.ensures.1 (h.0, h.1, h.2) in let no = c.if-not-has_caller.true in cc)),
)
