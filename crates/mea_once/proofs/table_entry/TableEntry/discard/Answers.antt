use Rattle.std.proofs.Common.{ap, subst, ◌∙◌, nat_eq}
use Rattle.std.specs.FinMap.{remove}
use Rattle.mea_once_core.specs.Keyed.{Discards}
use Rattle.mea_once.specs.KeyEntries.{KeptTable}
use Rattle.mea_once.proofs.KeyAnswers.{discards_all}
use Rattle.mea_once.proofs.table_entry.TableEntry.discard.Goals as goal

pub returns : goal.returns
returns g c = discards_all g.C.TableCore.is_once c.args.self.now c.args.key (g.C.TableCore.seen_as c.discard.new.self) _ (subst (λ (e : KeptTable). Discards nat_eq e.keyed c.args.key (g.C.TableCore.seen_as c.discard.new.self)) c.self.view_is c.discard.ensures)
    ((λ i. record { keyed = g.C.TableCore.seen_as c.discard.new.self; current = c.take.ensures.things i; rounds = c.self.inside.rounds; futures = c.self.inside.futures }) ∙ ap (λ (e : KeptTable). record e { keyed = g.C.TableCore.seen_as c.discard.new.self; current = remove e.current c.args.key }) c.self.view_is)
