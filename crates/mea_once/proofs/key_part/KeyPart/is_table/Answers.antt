use Rattle.std.proofs.Common.{◌∙◌, refl}
use Rattle.std.specs.FinMap.{get}
use Rattle.mea_once.proofs.TableEvents.{table_form, object_of}
use Rattle.mea_once.proofs.key_part.KeyPart.is_table.Goals as goal

pub returns : goal.returns
returns g c = c.has.ensures ∙ object_of (table_form g.C.TableCore.is_once) c.self.inside.tables c.self.inside.futures c.self.inside.next c.self.view_is c.args.o (get c.self.inside.tables c.args.o) refl
