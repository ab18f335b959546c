use Rattle.std.proofs.Common.{subst}
use Rattle.mea_family.specs.Play.{Part}
use Rattle.mea_once_model.specs.OnceHall.{OnceHall}
use Rattle.mea_once_model.specs.Valid.{IsValid}
use Rattle.mea_once.proofs.family.OnceFamilyFamilyOnceModel.is_valid.Goals as goal

pub returns : goal.returns
returns c = subst (λ (p : Part OnceHall). IsValid p.hall p.next) c.self.view_is (c.are_valid.ensures c.self.inside.next c.self.invariant)
