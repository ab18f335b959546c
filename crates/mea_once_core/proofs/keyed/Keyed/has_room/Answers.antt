use Rattle.std.proofs.Common.{◌≡◌, ◌<◌, IsTrue, ap, sym, ◌∙◌, nat_lt, arith}
use Rattle.std.proofs.lemmas.Bool.Decides.{nat_tests}
use Rattle.mea_once_core.specs.Table.{entry_at}
use Rattle.mea_once_core.proofs.Exists.{below_iff}
use Rattle.mea_once_core.proofs.keyed.Keyed.has_room.Goals as goal

pub returns-in-Some : goal.returns-in-Some
returns-in-Some g c =
    let forth : IsTrue (nat_lt c.callers.result 18446744073709551615) → c.callers.result < 18446744073709551615 = λ yes. grind (arith, nat_tests, yes) in
    let back : c.callers.result < 18446744073709551615 → IsTrue (nat_lt c.callers.result 18446744073709551615) = λ less. grind (arith, nat_tests, less) in
    let below = below_iff (entry_at c.self.inside.table c.in-Some.number) (λ e. e.callers) c.callers.result 18446744073709551615 (nat_lt c.callers.result 18446744073709551615) c.in-Some.ensures.in_use c.callers.ensures forth back in
    rw (← c.self.view_is) (
      (λ yes n e is there. below.0 yes e (let number = c.in-Some.ensures.is in let same : n ≡ c.in-Some.number = cc in ap (entry_at c.self.inside.table) (sym same) ∙ there)),
      (λ room. below.1 (λ e there. room c.in-Some.number e (sym c.in-Some.ensures.is) there)),
    )
