use Rattle.std.proofs.Common.{sym, ap, ◌∙◌}
use Rattle.mea_family.specs.Causes.{unknown_unless}
use Rattle.mea_lock.proofs.WaitEvents.{site, condvar_there, its_room, notified_each}
use Rattle.mea_lock.proofs.wait_part.WaitPart.notify_all.Goals as goal

pub at_mut-requires : goal.at_mut-requires
at_mut-requires c = condvar_there (site c.self.inside.condvars c.self.inside.waits c.self.inside.next c.self.view_is c.self.invariant c.requires.next c.ranges.number.fits) c.args.c (sym c.is_condvar.ensures ∙ c.if-not-is_condvar.false)

pub notify_all-requires-clause-room : goal.notify_all-requires-clause-room
notify_all-requires-clause-room c = its_room (site c.self.inside.condvars c.self.inside.waits c.self.inside.next c.self.view_is c.self.invariant c.requires.next c.ranges.number.fits) c.args.c c.at_mut.result.now c.at_mut.ensures.value c.args.ready.now c.requires.room

pub invariant_of-self : goal.invariant_of-self
invariant_of-self c = (notified_each (site c.self.inside.condvars c.self.inside.waits c.self.inside.next c.self.view_is c.self.invariant c.requires.next c.ranges.number.fits) c.args.c c.at_mut.result.now c.at_mut.ensures.value c.notify_all.new.self c.args.ready.now c.notify_all.new.ready c.notify_all.ensures).0

pub returns : goal.returns
returns c = λ m later. (ap unknown_unless (sym c.is_condvar.ensures ∙ c.if-not-is_condvar.false), (notified_each (site c.self.inside.condvars c.self.inside.waits c.self.inside.next c.self.view_is c.self.invariant c.requires.next c.ranges.number.fits) c.args.c c.at_mut.result.now c.at_mut.ensures.value c.notify_all.new.self c.args.ready.now c.notify_all.new.ready c.notify_all.ensures).1 m later)
