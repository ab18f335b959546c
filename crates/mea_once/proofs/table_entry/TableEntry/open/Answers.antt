use Rattle.std.proofs.Common.{ap, ◌∙◌}
use Rattle.std.specs.FinMap.{insert}
use Rattle.mea_once.specs.KeyEntries.{KeptTable, new_round}
use Rattle.mea_once.proofs.table_entry.TableEntry.open.Goals as goal

pub returns-in_default-clause-err : goal.returns-in_default-clause-err
returns-in_default-clause-err g c =
    (λ i. record { keyed = g.C.TableCore.seen_as c.self.inside.core; current = c.reserve.ensures.things i; rounds = c.self.inside.rounds; futures = c.self.inside.futures })
    ∙ c.self.view_is

pub returns-in_default-insert-clause-err : goal.returns-in_default-insert-clause-err
returns-in_default-insert-clause-err g c =
    (λ i. record {
      keyed = g.C.TableCore.seen_as c.self.inside.core;
      current = c.reserve.ensures.things i;
      rounds = c.in_default-insert.ensures.err i;
      futures = c.self.inside.futures;
    }) ∙ c.self.view_is

pub returns-clause-ok : goal.returns-clause-ok
returns-clause-ok g c = (
  c.new-round.ensures,
  (λ i. record {
    keyed = g.C.TableCore.seen_as c.self.inside.core;
    current = (c.insert-2.ensures.things ∙ ap (λ m. insert m c.args.key c.args.number) c.reserve.ensures.things) i;
    rounds = (c.in-Ok-insert.ensures.ok ∙ ap (λ r. insert c.self.inside.rounds c.args.number r) c.new-round.ensures) i;
    futures = c.self.inside.futures;
  }) ∙ ap (λ (e : KeptTable). record e { rounds = insert e.rounds c.args.number (new_round c.args.key); current = insert e.current c.args.key c.args.number }) c.self.view_is,
)
