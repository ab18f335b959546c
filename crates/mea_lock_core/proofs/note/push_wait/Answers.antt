use Rattle.std.proofs.Common.{refl}
use Rattle.mea_lock_core.proofs.Changes.{lists, sound_of}
use Rattle.mea_lock_core.proofs.Kept.{noted_listed}
use Rattle.mea_lock_core.proofs.note.push_wait.Goals as goal

pub returns-clause-lists : goal.returns-clause-lists
returns-clause-lists g c =
    lists c.args.waiters.now c.push_tail.new.self c.args.outbox.now c.args.outbox.now c.in-Ok.number c.args.waker c.in-Ok.ensures.fresh c.in-Ok.ensures.updates c.in-Ok.ensures.order refl c.requires.noted

pub returns-clause-sound : goal.returns-clause-sound
returns-clause-sound g c =
    sound_of c.push_tail.new.self c.args.outbox.now
    (noted_listed c.args.waiters.now c.push_tail.new.self c.in-Ok.number c.args.waker c.in-Ok.ensures.fresh c.in-Ok.ensures.order c.in-Ok.ensures.updates c.requires.noted)
