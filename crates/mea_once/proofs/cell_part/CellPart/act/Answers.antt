use Rattle.std.proofs.Common.{ap, sym, subst, ◌∙◌}
use Rattle.mea_once_model.specs.Actions.{Make}
use Rattle.mea_once.specs.Actions.{turn_action}
use Rattle.mea_once.specs.Acts.{CellActs}
use Rattle.mea_once.proofs.Playing.{cells_rest}
use Rattle.mea_once.proofs.cell_part.CellPart.act.Goals as goal

pub returns-in-Make : goal.returns-in-Make
returns-in-Make g c = subst (λ a. CellActs c.args.self.now c.args.number a c.make-in-Make.result c.make-in-Make.new.self c.args.ready.now c.args.ready.now) (ap Make c.empty.ensures.value ∙ sym (ap turn_action c.in-Make.is)) (cells_rest c.args.self.now c.args.number (Make (g.C.TurnCore.seen_as c.empty.result).value) c.make-in-Make.result c.make-in-Make.new.self c.args.ready.now c.make-in-Make.ensures)
