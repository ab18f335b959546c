use Rattle.std.proofs.Common.{inl}
use Rattle.mea_lock_core.proofs.Changes.{in_use, waits_note, rewoken_note, sound_of}
use Rattle.mea_lock_core.proofs.Kept.{noted_rewoken_by}
use Rattle.mea_lock_core.proofs.condvar_core.CondvarCore.rewake.Goals as goal

pub get_mut-requires : goal.get_mut-requires
get_mut-requires g c = in_use c.self.inside.waiters c.self.inside.outbox c.args.number (inl (rw (← c.self.view_is) at c.requires))

pub invariant_of-self : goal.invariant_of-self
invariant_of-self g c = record {
  room = c.self.invariant.room;
  noted = noted_rewoken_by c.self.inside.waiters c.args.number c.get_mut.result.now c.args.waker c.get_mut.ensures.value
      (waits_note c.self.inside.waiters c.self.inside.outbox c.args.number c.get_mut.result.now c.get_mut.ensures.value (rw (← c.self.view_is) at c.requires)) c.self.invariant.noted;
}

pub returns-clause-is : goal.returns-clause-is
returns-clause-is g c = rw (← c.self.view_is) (rewoken_note c.self.inside.waiters c.self.inside.outbox c.args.number c.args.waker c.get_mut.result.now c.get_mut.ensures.value
    (waits_note c.self.inside.waiters c.self.inside.outbox c.args.number c.get_mut.result.now c.get_mut.ensures.value (rw (← c.self.view_is) at c.requires)))

pub returns-clause-sound : goal.returns-clause-sound
returns-clause-sound g c = λ _. sound_of _ c.self.inside.outbox (noted_rewoken_by c.self.inside.waiters c.args.number c.get_mut.result.now c.args.waker c.get_mut.ensures.value
    (waits_note c.self.inside.waiters c.self.inside.outbox c.args.number c.get_mut.result.now c.get_mut.ensures.value (rw (← c.self.view_is) at c.requires)) c.self.invariant.noted)
