use Rattle.std.proofs.Common.{rules, refl}
use Rattle.slab.specs.Slab as slab
use Rattle.mea_once_core.proofs.Tables.{linked-joined}
use Rattle.mea_once_core.proofs.once_table.OnceTable.join.Goals as goal

pub invariant_of-self : goal.invariant_of-self
invariant_of-self g c =
    linked-joined c.self.inside.entries c.join.new.entries c.self.inside.numbers.entries c.args.number (slab.get c.self.inside.entries c.args.number) refl (search rules) c.join.ensures.joined c.self.invariant
