use Rattle.mea_share.proofs.Sites.{site, tells_waiters}
use Rattle.mea_share.proofs.part.SharePart.waiters.Goals as goal

pub invariant_of-self : goal.invariant_of-self
invariant_of-self c = (tells_waiters (site c.self.inside.admissions c.self.inside.futures c.self.inside.permits.things c.self.inside.next c.self.view_is c.self.invariant c.requires c.ranges.number.fits) c.args.o c.in-Some.entry.now.fair c.in-Some.ensures.stands c.in-Some.ensures.waiting).0

pub returns : goal.returns
returns c = rw (c.num_waiters-waiters.ensures.is, c.core.ensures) (tells_waiters (site c.self.inside.admissions c.self.inside.futures c.self.inside.permits.things c.self.inside.next c.self.view_is c.self.invariant c.requires c.ranges.number.fits) c.args.o c.in-Some.entry.now.fair c.in-Some.ensures.stands c.in-Some.ensures.waiting).1
