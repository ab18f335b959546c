use Rattle.mea_task_core.proofs.Moves.{sound_moves}
use Rattle.mea_task_core.proofs.Ends.{sound_new}
use Rattle.mea_task_core.proofs.laws.moves_keep_sound.Goals as goal

pub returns-clause-new : goal.returns-clause-new
returns-clause-new c = sound_new

pub returns-clause-sound : goal.returns-clause-sound
returns-clause-sound c = λ m n s. sound_moves n m s
