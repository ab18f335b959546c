use Rattle.std.proofs.Common.{refl, sym, ◌∙◌}
use Rattle.mea_family.proofs.Refusals.{as_told, borrowed_none}
use Rattle.mea_once.proofs.TableEvents.{object_there, site, dropped}
use Rattle.mea_once.proofs.key_part.KeyPart.end_table.Goals as goal

pub returns-in-Some : goal.returns-in-Some
returns-in-Some g c = (as_told _ _ _ _ c.cause_of_drop.ensures.is c.cause_of_drop.ensures.tells c.in-Some.is, refl)

pub remove-requires : goal.remove-requires
remove-requires g c = object_there (site g.C.TableCore.is_once c.self.inside.tables c.self.inside.futures c.self.inside.next c.self.view_is c.self.invariant c.requires c.ranges.number.fits) c.args.o (borrowed_none _ _ (sym c.cause_of_drop.ensures.is ∙ c.in_default.is)).0

pub invariant_of-self : goal.invariant_of-self
invariant_of-self g c = rw c.remove.ensures.rest (dropped g.C.TableCore.is_once (site g.C.TableCore.is_once c.self.inside.tables c.self.inside.futures c.self.inside.next c.self.view_is c.self.invariant c.requires c.ranges.number.fits) c.args.o c.remove.result c.remove.ensures.value (borrowed_none _ _ (sym c.cause_of_drop.ensures.is ∙ c.in_default.is)).1).0

pub returns : goal.returns
returns g c = ((sym c.cause_of_drop.ensures.is ∙ c.in_default.is), rw c.remove.ensures.rest (dropped g.C.TableCore.is_once (site g.C.TableCore.is_once c.self.inside.tables c.self.inside.futures c.self.inside.next c.self.view_is c.self.invariant c.requires c.ranges.number.fits) c.args.o c.remove.result c.remove.ensures.value (borrowed_none _ _ (sym c.cause_of_drop.ensures.is ∙ c.in_default.is)).1).1)
