use Rattle.std.proofs.Common.{◌≡◌, Some, rules}
use Rattle.mea_base.specs.WaitList.{get}
use Rattle.mea_lock_core.specs.declared.note.Note.TheVariants.{Waiting}
use Rattle.mea_lock_core.proofs.Changes.{first_notified_is, sound_of}
use Rattle.mea_lock_core.proofs.Kept.{first_noted}
use Rattle.mea_lock_core.proofs.note.notify_first.Goals as goal

pub returns-in-Waiting-clause-notified : goal.returns-in-Waiting-clause-notified
returns-in-Waiting-clause-notified g c =
    let found : get c.unlink_first.new.self c.in-Some.number ≡ Some (Waiting c.in-Waiting.waker) = cc in
    first_notified_is c.args.waiters.now c.unlink_first.new.self c.args.outbox.now c.push.new.self c.in-Some.number c.in-Waiting.waker c.args.by_one c.replace.new.dest c.in-Some.ensures.some found (search rules) (search rules) c.requires.noted

pub returns-in-Waiting-clause-noted : goal.returns-in-Waiting-clause-noted
returns-in-Waiting-clause-noted g c =
    first_noted c.args.waiters.now c.unlink_first.new.self c.in-Some.number c.get_mut.result.now c.replace.new.dest c.args.by_one c.in-Some.ensures.some c.get_mut.ensures.value (search rules) c.requires.noted

pub returns-in-Waiting-clause-sound : goal.returns-in-Waiting-clause-sound
returns-in-Waiting-clause-sound g c = sound_of _ c.push.new.self (returns-in-Waiting-clause-noted g c)
