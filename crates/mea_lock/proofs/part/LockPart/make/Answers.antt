use Rattle.mea_lock.proofs.PartEvents.{site, made}
use Rattle.mea_family.proofs.Refusals.{some_room}
use Rattle.mea_lock.proofs.part.LockPart.make.Goals as goal

pub invariant_of-self-2 : goal.invariant_of-self-2
invariant_of-self-2 g c = rw (c.in-Ok.ensures.ok, c.new.ensures) (made (site c.self.inside.locks c.self.inside.futures c.self.inside.guards.things c.self.inside.next c.self.view_is c.self.invariant c.requires.next c.ranges.number.fits) (g.C.LockCore.lock_of c.make-core.result) c.args.value c.args.most c.make-core.ensures).0

pub returns : goal.returns
returns g c = (some_room c.args.most c.if-most-eq0.false, rw (c.in-Ok.ensures.ok, c.new.ensures) (made (site c.self.inside.locks c.self.inside.futures c.self.inside.guards.things c.self.inside.next c.self.view_is c.self.invariant c.requires.next c.ranges.number.fits) (g.C.LockCore.lock_of c.make-core.result) c.args.value c.args.most c.make-core.ensures).1)
