use Rattle.std.proofs.Common.{rules, refl}
use Rattle.slab.specs.Slab as slab
use Rattle.mea_once_core.proofs.Tables.{linked-unjoined, linked-dropped}
use Rattle.mea_once_core.proofs.once_table.OnceTable.leave.Goals as goal

pub invariant_of-self : goal.invariant_of-self
invariant_of-self g c =
    linked-dropped c.unjoin.new.entries c.drop_unused.new.entries c.self.inside.numbers.entries c.args.number (slab.get c.unjoin.new.entries c.args.number) refl
    c.drop_unused.ensures.absent c.drop_unused.ensures.used c.drop_unused.ensures.unused
    (linked-unjoined c.self.inside.entries c.unjoin.new.entries c.self.inside.numbers.entries c.args.number (slab.get c.self.inside.entries c.args.number) refl (search rules) c.unjoin.ensures.left c.self.invariant)
