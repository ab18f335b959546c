use Rattle.std.proofs.Common.{ap, sym, subst, ◌∙◌}
use Rattle.mea_once_model.specs.Actions.{Make}
use Rattle.mea_once.specs.Actions.{whole_action}
use Rattle.mea_once.specs.Acts.{CellActs}
use Rattle.mea_once.proofs.Playing.{cells_rest}
use Rattle.mea_once.proofs.cell_part.CellPart.act_whole.Goals as goal

pub returns-in-MakeFull : goal.returns-in-MakeFull
returns-in-MakeFull g c = subst (λ a. CellActs c.args.self.now c.args.number a c.make-in-MakeFull.result c.make-in-MakeFull.new.self c.args.ready.now c.args.ready.now) (ap Make c.full.ensures.value ∙ sym (ap whole_action c.in-MakeFull.is)) (cells_rest c.args.self.now c.args.number (Make (g.C.TurnCore.seen_as c.full.result).value) c.make-in-MakeFull.result c.make-in-MakeFull.new.self c.args.ready.now c.make-in-MakeFull.ensures)
