use Rattle.std.proofs.Common.{sym, ◌∙◌}
use Rattle.mea_by_name.proofs.Beside.{nothing_at}
use Rattle.mea_by_name.proofs.roomy.lacks.Goals as goal

pub returns-then-is_empty : goal.returns-then-is_empty
returns-then-is_empty g c = c.if-is_empty.true ∙ sym (nothing_at c.args.map.now.entries c.args.name (c.is_empty.ensures.0 c.if-is_empty.true))
