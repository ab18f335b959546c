use Rattle.std.proofs.Common.{refl}
use Rattle.mea_share_model.specs.Actions.{Weight}
use Rattle.mea_share.proofs.Sites.{site, lacks_memory, named, tells_weight}
use Rattle.mea_share.proofs.part.SharePart.weight.Goals as goal

pub returns-in_default-new : goal.returns-in_default-new
returns-in_default-new c = (lacks_memory (site c.self.inside.admissions c.self.inside.futures c.self.inside.permits.things c.self.inside.next c.self.view_is c.self.invariant c.requires c.ranges.number.fits) (Weight c.args.o c.args.k) (named (site c.self.inside.admissions c.self.inside.futures c.self.inside.permits.things c.self.inside.next c.self.view_is c.self.invariant c.requires c.ranges.number.fits) c.args.o c.in-Some.entry.now.fair c.in-Some.ensures.stands) (λ no. no), refl)

pub invariant_of-self : goal.invariant_of-self
invariant_of-self c = (tells_weight (site c.self.inside.admissions c.self.inside.futures c.self.inside.permits.things c.self.inside.next c.self.view_is c.self.invariant c.requires c.ranges.number.fits) c.args.o c.in-Some.entry.now.fair c.in-Some.ensures.stands c.args.k).0

pub returns : goal.returns
returns c = rw (c.weight-weight.ensures, c.core.ensures, c.in-Ok.ensures.ok) (tells_weight (site c.self.inside.admissions c.self.inside.futures c.self.inside.permits.things c.self.inside.next c.self.view_is c.self.invariant c.requires c.ranges.number.fits) c.args.o c.in-Some.entry.now.fair c.in-Some.ensures.stands c.args.k).1
