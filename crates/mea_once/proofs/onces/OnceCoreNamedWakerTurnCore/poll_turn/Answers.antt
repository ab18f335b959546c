use Rattle.mea_once.proofs.Turns.{once_turn}
use Rattle.mea_once.proofs.onces.OnceCoreNamedWakerTurnCore.poll_turn.Goals as goal

pub returns-in-Ok-clause-turns : goal.returns-in-Ok-clause-turns
returns-in-Ok-clause-turns c = once_turn c.args.self.now c.poll_turn.new.self c.is_completed.ensures.sound c.requires.quiet c.args.stage.now c.poll_turn.new.stage c.args.waker c.in-Ok.turn c.in-Ok.ensures.sound c.requires.may c.in-Ok.ensures.polls c.in-Ok.ensures.held
