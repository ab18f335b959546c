use Rattle.std.proofs.Common.{◌≤◌, IsTrue, nat_le, arith}
use Rattle.std.proofs.lemmas.Bool.Decides.{nat_tests}
use Rattle.mea_once_core.specs.Table.{entry_at}
use Rattle.mea_once_core.proofs.Exists.{counts_iff}
use Rattle.mea_once_core.proofs.keyed.Keyed.has_caller.Goals as goal

pub returns : goal.returns
returns g c =
    let forth : IsTrue (nat_le 1 c.callers.result) → 1 ≤ c.callers.result = λ yes. grind (arith, nat_tests, yes) in
    let back : 1 ≤ c.callers.result → IsTrue (nat_le 1 c.callers.result) = λ some. grind (arith, nat_tests, some) in
    rw (← c.self.view_is) (counts_iff (entry_at c.self.inside.table c.args.number) (λ e. e.callers) c.callers.result (nat_le 1 c.callers.result)
    (c.is_in_use.ensures.0 c.if-not-is_in_use.false) c.callers.ensures forth back)
