use Rattle.std.proofs.Common.{rules}
use Rattle.mea_lock_core.proofs.part.with_part_mut.Goals as goal

pub returns-in-Some-clause-some : goal.returns-in-Some-clause-some
returns-in-Some-clause-some g c = (c.in-Some.there.now, c.f.new.arg2, search rules, search rules, search rules)
