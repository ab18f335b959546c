use Rattle.std.proofs.Common.{sym}
use Rattle.mea_share.proofs.Sites.{site, tells_key}
use Rattle.mea_share.proofs.part.SharePart.key.Goals as goal

pub invariant_of-self : goal.invariant_of-self
invariant_of-self c = (tells_key (site c.self.inside.admissions c.self.inside.futures c.self.inside.permits.things c.self.inside.next c.self.view_is c.self.invariant c.requires c.ranges.number.fits) c.args.p c.in-Some.permit.now (sym c.in-Some.ensures)).0

pub returns : goal.returns
returns c = rw (c.key-key.ensures, c.key.ensures) (tells_key (site c.self.inside.admissions c.self.inside.futures c.self.inside.permits.things c.self.inside.next c.self.view_is c.self.invariant c.requires c.ranges.number.fits) c.args.p c.in-Some.permit.now (sym c.in-Some.ensures)).1
