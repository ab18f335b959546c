use Rattle.std.proofs.Common.{refl, subst, Any}
use Rattle.mea_recorded.specs.Closing.{Explains}
use Rattle.mea_recorded.proofs.desk.Desk.close.Goals as goal

pub returns-in-Err-clause-err : goal.returns-in-Err-clause-err
returns-in-Err-clause-err g c = (refl, subst (Any (λ p. Explains c.args.self.recorded c.in-Err.mismatch p.noted.items)) c.as_slice.ensures.value c.in-Err.ensures.explained)
