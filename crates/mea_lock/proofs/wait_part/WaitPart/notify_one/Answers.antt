use Rattle.std.proofs.Common.{sym, ap, ◌∙◌}
use Rattle.mea_family.specs.Causes.{unknown_unless}
use Rattle.mea_lock.proofs.WaitEvents.{site, condvar_there, its_room, rests, notified_none, first_there, notified_first}
use Rattle.mea_lock.proofs.wait_part.WaitPart.notify_one.Goals as goal

pub at_mut-requires : goal.at_mut-requires
at_mut-requires c = condvar_there (site c.self.inside.condvars c.self.inside.waits c.self.inside.next c.self.view_is c.self.invariant c.requires.next c.ranges.number.fits) c.args.c (sym c.is_condvar.ensures ∙ c.if-not-is_condvar.false)

pub notify_one-requires-clause-room : goal.notify_one-requires-clause-room
notify_one-requires-clause-room c = its_room (site c.self.inside.condvars c.self.inside.waits c.self.inside.next c.self.view_is c.self.invariant c.requires.next c.ranges.number.fits) c.args.c c.at_mut.result.now c.at_mut.ensures.value c.args.ready.now c.requires.room

pub invariant_of-self : goal.invariant_of-self
invariant_of-self c = rw c.in_default.ensures.none.1 (rests (site c.self.inside.condvars c.self.inside.waits c.self.inside.next c.self.view_is c.self.invariant c.requires.next c.ranges.number.fits) c.args.c c.at_mut.result.now c.at_mut.ensures.value)

pub returns-in_default : goal.returns-in_default
returns-in_default c = λ m later. (ap unknown_unless (sym c.is_condvar.ensures ∙ c.if-not-is_condvar.false), rw (c.in_default.ensures.none.1, c.in_default.ensures.none.2) (notified_none (site c.self.inside.condvars c.self.inside.waits c.self.inside.next c.self.view_is c.self.invariant c.requires.next c.ranges.number.fits) c.args.c c.at_mut.result.now c.at_mut.ensures.value c.in_default.ensures.none.0 m later c.args.ready.now))

pub at_mut-requires-2 : goal.at_mut-requires-2
at_mut-requires-2 c = first_there (site c.self.inside.condvars c.self.inside.waits c.self.inside.next c.self.view_is c.self.invariant c.requires.next c.ranges.number.fits) c.args.c c.at_mut.result.now c.at_mut.ensures.value c.in-Some.f c.notify_one.new.self c.args.ready.now c.notify_one.new.ready c.in-Some.ensures.some

pub invariant_of-self-2 : goal.invariant_of-self-2
invariant_of-self-2 c = (notified_first (site c.self.inside.condvars c.self.inside.waits c.self.inside.next c.self.view_is c.self.invariant c.requires.next c.ranges.number.fits) c.args.c c.at_mut.result.now c.at_mut.ensures.value c.in-Some.f c.notify_one.new.self c.args.ready.now c.notify_one.new.ready c.in-Some.ensures.some c.at_mut-2.result.now c.at_mut-2.ensures.value).0

pub returns : goal.returns
returns c = λ m later. (ap unknown_unless (sym c.is_condvar.ensures ∙ c.if-not-is_condvar.false), (notified_first (site c.self.inside.condvars c.self.inside.waits c.self.inside.next c.self.view_is c.self.invariant c.requires.next c.ranges.number.fits) c.args.c c.at_mut.result.now c.at_mut.ensures.value c.in-Some.f c.notify_one.new.self c.args.ready.now c.notify_one.new.ready c.in-Some.ensures.some c.at_mut-2.result.now c.at_mut-2.ensures.value).1 m later c.requires.room)
