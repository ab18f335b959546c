use Rattle.std.proofs.Common.{subst, ap, arith}
use Rattle.mea_family.specs.Play.{Part}
use Rattle.mea_sem_model.specs.Hall.{Hall}
use Rattle.mea_sem_model.specs.Valid.{IsValid}
use Rattle.mea_sem.proofs.Registered.{waiters-counted}
use Rattle.mea_sem.proofs.Lists.{alone}
use Rattle.mea_sem.proofs.Inside.{seen_alone}
use Rattle.mea_sem.proofs.family.SemFamily.is_valid.Goals as goal

pub returns : goal.returns
returns c = record {
  few = omega (arith, waiters-counted (alone c.self.inside) (seen_alone c.self.view_is) c.self.invariant, c.self.invariant.few, ap (λ (p : Part Hall). p.next) c.self.view_is);
  valid = subst (λ (p : Part Hall). IsValid p.hall) c.self.view_is c.self.invariant.valid;
}
