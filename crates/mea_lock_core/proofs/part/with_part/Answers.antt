use Rattle.std.proofs.Common.{rules, refl}
use Rattle.mea_lock_core.proofs.part.with_part.Goals as goal

pub returns-in-Some-clause-some : goal.returns-in-Some-clause-some
returns-in-Some-clause-some g c = (c.in-Some.there.now, search rules, (c.in-Some.there, search rules, refl))
