use Rattle.std.proofs.Common.{sym, subst}
use Rattle.mea_once_core.specs.Cell.{rested}
use Rattle.mea_once_core.specs.Keyed.{MayEndAt, EndsAt}
use Rattle.mea_once_core.proofs.keyed.Keyed.end.Goals as goal

pub end_cell-requires : goal.end_cell-requires
end_cell-requires g c = let h = (subst (λ s. MayEndAt g.K.PartialEq.eq s c.args.self.now c.args.call.call) c.in-Calls.is c.requires) in record { may = (h.0, h.1, h.3) }

pub leave-requires : goal.leave-requires
leave-requires g c =
    let h = (subst (λ s. MayEndAt g.K.PartialEq.eq s c.args.self.now c.args.call.call) c.in-Calls.is c.requires) in
    let ended = c.end_cell.ensures.ends h.0 h.1 in
    (record h.0 { cell = rested ended.cell }, ended.sets.0.changed, h.2)

pub returns-in-Calls : goal.returns-in-Calls
returns-in-Calls g c =
    subst (λ s. EndsAt g.K.PartialEq.eq s c.args.self.now c.args.call.call.stage c.leave.new.self) (sym c.in-Calls.is)
    (λ e there. let ended = c.end_cell.ensures.ends e there in (c.end_cell.new.self, ended, c.leave.ensures (record e { cell = rested ended.cell }) ended.sets.0.changed))
