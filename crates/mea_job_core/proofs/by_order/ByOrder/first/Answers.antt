use Rattle.std.proofs.Common.{◌≤◌, ℕ, IsSome, subst}
use Rattle.std.specs.FinMap.{get}
use Rattle.mea_share_core.proofs.Kept.{first_there, first_least}
use Rattle.mea_job_core.proofs.by_order.ByOrder.first.Goals as goal

pub returns-in-Some-clause-there : goal.returns-in-Some-clause-there
returns-in-Some-clause-there g c =
    subst (λ m. IsSome (get m c.in-Some.number.now)) c.self.view_is (first_there c.self.inside.map.entries c.in-Some.number.now _ c.in-Some.ensures.value)

pub returns-in-Some-clause-least : goal.returns-in-Some-clause-least
returns-in-Some-clause-least g c =
    subst (λ m. (n : ℕ) → IsSome (get m n) → c.in-Some.number.now ≤ n) c.self.view_is (first_least c.self.inside.map.entries c.in-Some.number.now c.in-Some.ensures.least)
