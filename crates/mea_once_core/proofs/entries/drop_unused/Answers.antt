use Rattle.std.proofs.Common.{rules, ◌≡◌}
use Rattle.slab.specs.Slab as slab
use Rattle.mea_once_core.proofs.Tables.{unused-clash}
use Rattle.mea_once_core.proofs.entries.drop_unused.Goals as goal

pub returns-clause-used : goal.returns-clause-used
returns-clause-used g c = unused-clash (c.try_remove.new.self ≡ c.args.entries.now) (slab.get c.args.entries.now c.args.number) c.in-Some.entry.now (search rules) (search rules) (search rules)
