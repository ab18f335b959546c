use Rattle.std.proofs.Common.{ap, sym, ◌∙◌, None, Some}
use Rattle.std.specs.Option.{option_copied}
use Rattle.mea_once.proofs.TableEvents.{table_form, unsettled_of}
use Rattle.mea_once.proofs.key_part.KeyPart.is_unsettled.Goals as goal

pub returns-in-Some : goal.returns-in-Some
returns-in-Some g c = c.is_unsettled.ensures ∙ unsettled_of (table_form g.C.TableCore.is_once) c.self.inside.tables c.self.inside.futures c.self.inside.next c.self.view_is c.args.f (Some c.in-Some.future.now) (sym c.get.ensures ∙ ap option_copied c.in-Some.is)

pub returns-in-None : goal.returns-in-None
returns-in-None g c = unsettled_of (table_form g.C.TableCore.is_once) c.self.inside.tables c.self.inside.futures c.self.inside.next c.self.view_is c.args.f None (sym c.get.ensures ∙ ap option_copied c.in-None.is)
