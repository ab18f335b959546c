use Rattle.std.proofs.Common.{rules, refl}
use Rattle.mea_lock_core.specs.Notes.{condvar_of}
use Rattle.mea_lock_core.proofs.Changes.{in_use, ends_listed, sound_of}
use Rattle.mea_lock_core.proofs.condvar_core.CondvarCore.end_listed.Goals as goal

pub take_out-note-requires : goal.take_out-note-requires
take_out-note-requires g c = in_use c.self.inside.waiters c.self.inside.outbox c.args.number (rw (← c.self.view_is) at c.requires)

pub returns-clause-ends : goal.returns-clause-ends
returns-clause-ends g c =
    rw (← c.self.view_is) (
    ends_listed c.self.inside.waiters c.take_out-note.new.waiters c.self.inside.outbox c.self.inside.outbox c.args.number c.take_out-note.result _
    (condvar_of c.pass_on.new.waiters c.pass_on.new.outbox)
    c.take_out-note.ensures.note c.take_out-note.ensures.updates c.take_out-note.ensures.order refl c.self.invariant.noted (search rules)
    c.pass_on.ensures.passed)

pub returns-clause-sound : goal.returns-clause-sound
returns-clause-sound g c = λ _. sound_of c.pass_on.new.waiters c.pass_on.new.outbox c.pass_on.ensures.noted
