use Rattle.std.proofs.Common.{refl}
use Rattle.mea_lock.proofs.WaitEvents.{site, made}
use Rattle.mea_lock.proofs.wait_part.WaitPart.make.Goals as goal

pub invariant_of-self-2 : goal.invariant_of-self-2
invariant_of-self-2 c = rw (c.in-Ok.ensures.ok, c.new.ensures) (made (site c.self.inside.condvars c.self.inside.waits c.self.inside.next c.self.view_is c.self.invariant c.requires c.ranges.number.fits)).0

pub returns : goal.returns
returns c = λ m w later. (refl, rw (c.in-Ok.ensures.ok, c.new.ensures) ((made (site c.self.inside.condvars c.self.inside.waits c.self.inside.next c.self.view_is c.self.invariant c.requires c.ranges.number.fits)).1 m w later))
