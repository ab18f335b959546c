use Rattle.mea_lock_core.proofs.Changes.{sound_of}
use Rattle.mea_lock_core.proofs.condvar_while.settle.Goals as goal

pub returns-then-not-condition_holds-clause-sound : goal.returns-then-not-condition_holds-clause-sound
returns-then-not-condition_holds-clause-sound g c = sound_of c.args.waiters.now c.args.outbox.now c.requires.noted
