use Rattle.std.proofs.Common.{ap, sym, ◌∙◌, None, Some}
use Rattle.std.specs.Option.{option_copied}
use Rattle.mea_once.proofs.TableEvents.{table_form, if_borrowed, whole_cause}
use Rattle.mea_once.proofs.key_part.KeyPart.cause_of_drop.Goals as goal

pub returns-in-Some-clause-is : goal.returns-in-Some-clause-is
returns-in-Some-clause-is g c = c.borrowed_if.ensures ∙ ap if_borrowed c.has_futures.ensures ∙ sym (whole_cause (table_form g.C.TableCore.is_once) c.self.inside.tables c.self.inside.futures c.self.inside.next c.self.view_is c.self.invariant c.args.o (Some c.in-Some.entry.now) (sym c.get.ensures ∙ ap option_copied c.in-Some.is))

pub returns-in-None-clause-is : goal.returns-in-None-clause-is
returns-in-None-clause-is g c = sym (whole_cause (table_form g.C.TableCore.is_once) c.self.inside.tables c.self.inside.futures c.self.inside.next c.self.view_is c.self.invariant c.args.o None (sym c.get.ensures ∙ ap option_copied c.in-None.is))
