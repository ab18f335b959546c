use Rattle.std.proofs.Common.{Some, None, refl, sym, ap, ◌∙◌}
use Rattle.std.specs.Option.{option_copied}
use Rattle.mea_family.proofs.Refusals.{unknown}
use Rattle.mea_once.proofs.TableEvents.{table_form, object_cause, rests, site, told}
use Rattle.mea_once.proofs.key_part.KeyPart.tell.Goals as goal

pub returns-in_default : goal.returns-in_default
returns-in_default g c = (unknown _ _ (object_cause (table_form g.C.TableCore.is_once) c.self.inside.tables c.self.inside.futures c.self.inside.next c.self.view_is c.args.o None (sym c.get.ensures ∙ ap option_copied c.in_default.is)), refl)

pub invariant_of-self : goal.invariant_of-self
invariant_of-self g c = rests (site g.C.TableCore.is_once c.self.inside.tables c.self.inside.futures c.self.inside.next c.self.view_is c.self.invariant c.requires c.ranges.number.fits)

pub returns : goal.returns
returns g c = (object_cause (table_form g.C.TableCore.is_once) c.self.inside.tables c.self.inside.futures c.self.inside.next c.self.view_is c.args.o (Some c.in-Some.entry.now) (sym c.get.ensures ∙ ap option_copied c.in-Some.is), rw (c.content.ensures, c.value-value.ensures) (told g.C.TableCore.is_once (site g.C.TableCore.is_once c.self.inside.tables c.self.inside.futures c.self.inside.next c.self.view_is c.self.invariant c.requires c.ranges.number.fits) c.args.o c.in-Some.entry.now (sym c.get.ensures ∙ ap option_copied c.in-Some.is) c.args.key))
