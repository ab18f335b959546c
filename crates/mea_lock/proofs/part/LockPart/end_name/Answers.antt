use Rattle.std.proofs.Common.{sym, ap, ◌∙◌}
use Rattle.mea_lock.specs.Entries.{is_over}
use Rattle.mea_lock.proofs.PartEvents.{site, lock_there, over_there, dropped}
use Rattle.mea_family.proofs.Refusals.{borrowed_none}
use Rattle.mea_lock.proofs.part.LockPart.end_name.Goals as goal

pub at_mut-entry-requires : goal.at_mut-entry-requires
at_mut-entry-requires g c = lock_there (site c.self.inside.locks c.self.inside.futures c.self.inside.guards.things c.self.inside.next c.self.view_is c.self.invariant c.requires c.ranges.number.fits) c.args.o (borrowed_none _ _ (sym c.cause_of_drop.ensures.is ∙ c.in_default.is)).0

pub remove_if-requires : goal.remove_if-requires
remove_if-requires g c = λ over. over_there (site c.self.inside.locks c.self.inside.futures c.self.inside.guards.things c.self.inside.next c.self.view_is c.self.invariant c.requires c.ranges.number.fits) c.args.o c.at_mut-entry.result.now c.at_mut-entry.ensures.value _

pub invariant_of-self : goal.invariant_of-self
invariant_of-self g c = rw (c.remove_if.ensures, c.unname.ensures) (dropped (site c.self.inside.locks c.self.inside.futures c.self.inside.guards.things c.self.inside.next c.self.view_is c.self.invariant c.requires c.ranges.number.fits) c.args.o c.at_mut-entry.result.now c.at_mut-entry.ensures.value c.is_over-over.result (sym (c.is_over-over.ensures ∙ ap is_over c.unname.ensures))).0

pub returns : goal.returns
returns g c = ((sym c.cause_of_drop.ensures.is ∙ c.in_default.is), rw (c.remove_if.ensures, c.unname.ensures) (dropped (site c.self.inside.locks c.self.inside.futures c.self.inside.guards.things c.self.inside.next c.self.view_is c.self.invariant c.requires c.ranges.number.fits) c.args.o c.at_mut-entry.result.now c.at_mut-entry.ensures.value c.is_over-over.result (sym (c.is_over-over.ensures ∙ ap is_over c.unname.ensures))).1)
