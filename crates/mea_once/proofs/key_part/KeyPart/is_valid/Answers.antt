use Rattle.std.proofs.Common.{subst}
use Rattle.mea_family.specs.Play.{Part}
use Rattle.mea_once_model.specs.Tables.{Tables}
use Rattle.mea_once_model.specs.Valid.{HasTables}
use Rattle.mea_once.proofs.Validity.{tables_valid}
use Rattle.mea_once.proofs.key_part.KeyPart.is_valid.Goals as goal

pub returns : goal.returns
returns g c = subst (λ (p : Part Tables). HasTables p.hall p.next) c.self.view_is (tables_valid g.C.TableCore.is_once c.self.inside.tables c.self.inside.futures c.self.inside.next c.self.invariant)
