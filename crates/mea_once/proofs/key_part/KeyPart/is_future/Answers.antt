use Rattle.std.proofs.Common.{◌∙◌}
use Rattle.mea_once.proofs.TableEvents.{table_form, future_of}
use Rattle.mea_once.proofs.key_part.KeyPart.is_future.Goals as goal

pub returns : goal.returns
returns g c = c.has.ensures ∙ future_of (table_form g.C.TableCore.is_once) c.self.inside.tables c.self.inside.futures c.self.inside.next c.self.view_is c.args.f
