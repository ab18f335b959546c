use Rattle.mea_once_core.proofs.Tables.{retires-last, last-by, one-caller}
use Rattle.mea_once_core.proofs.once_table.OnceTable.retire.Goals as goal

pub returns-then-not-is_full : goal.returns-then-not-is_full
returns-then-not-is_full g c = λ e there.
    retires-last g.K.PartialEq.eq c.args.self.now c.remove_entry.new.self c.args.number e there
    (last-by g.K.PartialEq.eq c.args.self.now c.args.number c.callers.result c.cell.result.now c.is_full.result e there c.callers.ensures c.if-callers-eq1.true c.cell.ensures c.is_full.ensures.is.1 c.if-not-is_full.true)
    (one-caller g.K.PartialEq.eq c.args.self.now c.args.number c.callers.result e there c.callers.ensures c.if-callers-eq1.true) c.remove_entry.ensures.listed c.remove_entry.ensures.unlisted
