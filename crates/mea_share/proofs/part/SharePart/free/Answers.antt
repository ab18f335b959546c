use Rattle.mea_share.proofs.Sites.{site, tells_free}
use Rattle.mea_share.proofs.part.SharePart.free.Goals as goal

pub invariant_of-self : goal.invariant_of-self
invariant_of-self c = (tells_free (site c.self.inside.admissions c.self.inside.futures c.self.inside.permits.things c.self.inside.next c.self.view_is c.self.invariant c.requires c.ranges.number.fits) c.args.o c.in-Some.entry.now.fair c.in-Some.ensures.stands).0

pub returns : goal.returns
returns c = rw (c.available_permits-free.ensures.is, c.core.ensures) (tells_free (site c.self.inside.admissions c.self.inside.futures c.self.inside.permits.things c.self.inside.next c.self.view_is c.self.invariant c.requires c.ranges.number.fits) c.args.o c.in-Some.entry.now.fair c.in-Some.ensures.stands).1
