use Rattle.std.proofs.Common.{Some, None, sym, ap, ◌∙◌}
use Rattle.std.specs.Option.{option_copied_mut}
use Rattle.mea_family.proofs.Refusals.{unknown}
use Rattle.mea_once.proofs.TableEvents.{table_form, object_cause, site, discarded}
use Rattle.mea_once.proofs.key_part.KeyPart.discard.Goals as goal

pub returns-in_default : goal.returns-in_default
returns-in_default g c = (unknown _ _ (object_cause (table_form g.C.TableCore.is_once) c.self.inside.tables c.self.inside.futures c.self.inside.next c.self.view_is c.args.o None (sym c.get_mut.ensures.value ∙ ap option_copied_mut c.in_default.is)), c.self.view_is)

pub invariant_of-self-2 : goal.invariant_of-self-2
invariant_of-self-2 g c = (discarded g.C.TableCore.is_once (site g.C.TableCore.is_once c.self.inside.tables c.self.inside.futures c.self.inside.next c.self.view_is c.self.invariant c.requires c.ranges.number.fits) c.args.o c.in-Some.entry.now (sym c.get_mut.ensures.value ∙ ap option_copied_mut c.in-Some.is) c.args.key c.discard.new.self c.discard.ensures).0

pub returns : goal.returns
returns g c = ((object_cause (table_form g.C.TableCore.is_once) c.self.inside.tables c.self.inside.futures c.self.inside.next c.self.view_is c.args.o (Some c.in-Some.entry.now) (sym c.get_mut.ensures.value ∙ ap option_copied_mut c.in-Some.is)), (discarded g.C.TableCore.is_once (site g.C.TableCore.is_once c.self.inside.tables c.self.inside.futures c.self.inside.next c.self.view_is c.self.invariant c.requires c.ranges.number.fits) c.args.o c.in-Some.entry.now (sym c.get_mut.ensures.value ∙ ap option_copied_mut c.in-Some.is) c.args.key c.discard.new.self c.discard.ensures).1)
