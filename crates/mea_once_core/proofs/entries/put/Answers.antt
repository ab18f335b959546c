use Rattle.std.proofs.Common.{rules}
use Rattle.mea_once_core.proofs.Inserts.{puts-new, puts-over}
use Rattle.mea_once_core.proofs.entries.put.Goals as goal

pub returns-in-Some-clause-inserts : goal.returns-in-Some-clause-inserts
returns-in-Some-clause-inserts g c =
    puts-over g.K.PartialEq.eq (record { slots = c.args.entries.now.slots; pairs = c.args.numbers.now.entries }) (record { slots = c.replace.new.entries.slots; pairs = c.replace.new.numbers.entries })
    c.args.key c.args.cell c.replace.result c.in-Some.number (search rules) c.replace.ensures.fresh c.replace.ensures.entry c.replace.ensures.replaced c.replace.ensures.others c.replace.ensures.numbers

pub returns-in-Ok-clause-inserts : goal.returns-in-Ok-clause-inserts
returns-in-Ok-clause-inserts g c =
    puts-new g.K.PartialEq.eq (record { slots = c.args.entries.now.slots; pairs = c.args.numbers.now.entries }) (record { slots = c.make.new.entries.slots; pairs = c.make.new.numbers.entries })
    c.args.key c.args.cell c.in-Ok.field-0 (search rules) c.in-Ok.ensures.fresh c.in-Ok.ensures.entries c.in-Ok.ensures.numbers
