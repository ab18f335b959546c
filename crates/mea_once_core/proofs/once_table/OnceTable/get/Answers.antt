use Rattle.std.proofs.Common.{rules, IsSome, IfSome, subst}
use Rattle.mea_once_core.specs.Table.{Table, entry_at}
use Rattle.mea_once_core.proofs.Tables.{in-use}
use Rattle.mea_once_core.proofs.once_table.OnceTable.get.Goals as goal

pub returns-clause-in_use : goal.returns-clause-in_use
returns-clause-in_use g c =
    subst (λ (t : Table g.row.K.Denot g.row.V.Denot g.row.W.Denot). IfSome c.copied.result (λ n. IsSome (entry_at t n))) c.self.view_is
    (in-use c.self.inside.entries c.self.inside.numbers.entries (g.K.PartialEq.eq c.args.key.now) c.copied.result c.self.invariant (search rules))
