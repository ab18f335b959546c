use Rattle.std.proofs.Common.{ap, sym, ◌∙◌, nat_eq}
use Rattle.mea_once_core.specs.Keyed.{value_for}
use Rattle.mea_once.specs.KeyEntries.{KeptTable}
use Rattle.mea_once.proofs.KeyTables.{get_values}
use Rattle.mea_once.proofs.table_entry.TableEntry.value.Goals as goal

pub returns : goal.returns
returns g c = c.value.ensures ∙ ap (λ (e : KeptTable). value_for nat_eq e.keyed c.args.key) c.self.view_is ∙ sym (get_values c.args.self.now.keyed.table c.args.self.now.keyed.table.pairs c.args.key)
