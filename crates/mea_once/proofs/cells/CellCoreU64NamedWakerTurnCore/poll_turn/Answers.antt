use Rattle.mea_once.proofs.Turns.{cells_turn}
use Rattle.mea_once.proofs.cells.CellCoreU64NamedWakerTurnCore.poll_turn.Goals as goal

pub returns-in-Ok-clause-turns : goal.returns-in-Ok-clause-turns
returns-in-Ok-clause-turns c = cells_turn c.args.stage.now c.poll_turn.new.stage c.args.self.now c.poll_turn.new.self c.args.waker c.in-Ok.turn c.is_full.ensures.sound c.in-Ok.ensures.sound c.requires.may c.in-Ok.ensures.polls c.in-Ok.ensures.held
