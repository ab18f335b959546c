use Rattle.std.proofs.Common.{sym, ◌∙◌}
use Rattle.mea_lock.proofs.WaitEvents.{site, condvar_there, dropped}
use Rattle.mea_family.proofs.Refusals.{borrowed_none}
use Rattle.mea_lock.proofs.wait_part.WaitPart.end_name.Goals as goal

pub remove-requires : goal.remove-requires
remove-requires c = condvar_there (site c.self.inside.condvars c.self.inside.waits c.self.inside.next c.self.view_is c.self.invariant c.requires c.ranges.number.fits) c.args.c (borrowed_none _ _ (sym c.cause_of_drop.ensures.is ∙ c.in_default.is)).0

pub invariant_of-self : goal.invariant_of-self
invariant_of-self c = rw c.remove.ensures.rest (dropped (site c.self.inside.condvars c.self.inside.waits c.self.inside.next c.self.view_is c.self.invariant c.requires c.ranges.number.fits) c.args.c c.remove.result c.remove.ensures.value (borrowed_none _ _ (sym c.cause_of_drop.ensures.is ∙ c.in_default.is)).1).0

pub returns : goal.returns
returns c = λ m w later. ((sym c.cause_of_drop.ensures.is ∙ c.in_default.is), rw c.remove.ensures.rest ((dropped (site c.self.inside.condvars c.self.inside.waits c.self.inside.next c.self.view_is c.self.invariant c.requires c.ranges.number.fits) c.args.c c.remove.result c.remove.ensures.value (borrowed_none _ _ (sym c.cause_of_drop.ensures.is ∙ c.in_default.is)).1).1 m w later))
