use Rattle.std.proofs.Common.{◌==◌}
use Rattle.std.proofs.lemmas.Bool.{ne_eqb}
use Rattle.mea_by_name.proofs.Cases.{if_false}
use Rattle.mea_share_model.specs.Actions.{Make}
use Rattle.mea_share.proofs.Sites.{site, lacks_memory, makes}
use Rattle.mea_share.proofs.part.SharePart.make.Goals as goal

pub returns-in_default : goal.returns-in_default
returns-in_default c = rw c.in_default.ensures.err (lacks_memory (site c.self.inside.admissions c.self.inside.futures c.self.inside.permits.things c.self.inside.next c.self.view_is c.self.invariant c.requires c.ranges.number.fits) (Make c.args.permits) (if_false (c.args.permits == 0) _ _ (ne_eqb c.args.permits 0 c.if-permits-eq0.false)) (λ no. no), c.self.view_is)

pub invariant_of-self-2 : goal.invariant_of-self-2
invariant_of-self-2 c = rw (c.in-Ok.ensures.ok, c.new-entry.ensures) (makes (site c.self.inside.admissions c.self.inside.futures c.self.inside.permits.things c.self.inside.next c.self.view_is c.self.invariant c.requires c.ranges.number.fits) c.args.permits (ne_eqb c.args.permits 0 c.if-permits-eq0.false)).0

pub returns : goal.returns
returns c = rw (c.in-Ok.ensures.ok, c.new-entry.ensures) (makes (site c.self.inside.admissions c.self.inside.futures c.self.inside.permits.things c.self.inside.next c.self.view_is c.self.invariant c.requires c.ranges.number.fits) c.args.permits (ne_eqb c.args.permits 0 c.if-permits-eq0.false)).1
