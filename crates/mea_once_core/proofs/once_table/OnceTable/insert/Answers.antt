use Rattle.std.proofs.Common.{rules, sym, subst}
use Rattle.mea_once_core.specs.Links.{AreLinked}
use Rattle.mea_once_core.proofs.Links.{linked-same}
use Rattle.mea_once_core.proofs.once_table.OnceTable.insert.Goals as goal

pub invariant_of-self : goal.invariant_of-self
invariant_of-self g c = linked-same c.self.inside.entries c.reserve_one.new.entries c.self.inside.numbers.entries (λ n. search rules) c.self.invariant

pub invariant_of-self-then-is_err-2 : goal.invariant_of-self-then-is_err-2
invariant_of-self-then-is_err-2 g c =
    subst (λ ps. AreLinked c.reserve_one.new.entries ps) (sym c.reserve.ensures.entries) (linked-same c.self.inside.entries c.reserve_one.new.entries c.self.inside.numbers.entries (λ n. search rules) c.self.invariant)

pub put-requires-clause-linked : goal.put-requires-clause-linked
put-requires-clause-linked g c =
    subst (λ ps. AreLinked c.reserve_one.new.entries ps) (sym c.reserve.ensures.entries) (linked-same c.self.inside.entries c.reserve_one.new.entries c.self.inside.numbers.entries (λ n. search rules) c.self.invariant)
