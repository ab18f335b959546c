use Rattle.mea_lock_core.proofs.Changes.{sound_of}
use Rattle.mea_lock_core.proofs.condvar_while.resume.Goals as goal

pub returns-in-Pending-clause-sound : goal.returns-in-Pending-clause-sound
returns-in-Pending-clause-sound g c = sound_of c.args.waiters.now c.args.outbox.now c.requires.noted
