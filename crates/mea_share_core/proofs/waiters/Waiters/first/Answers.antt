use Rattle.std.proofs.Common.{◌≤◌, ℕ, IsSome, sym, ap, subst, ◌∙◌}
use Rattle.std.specs.FinMap.{get}
use Rattle.mea_share_core.specs.Share.{kept}
use Rattle.mea_share_core.specs.Waiters.{wakers_of}
use Rattle.mea_share_core.proofs.Alone.{alone_there, alone_least}
use Rattle.mea_share_core.proofs.Kept.{first_there, first_least}
use Rattle.mea_share_core.proofs.waiters.Waiters.first.Goals as goal

pub returns-in-One-clause-there : goal.returns-in-One-clause-there
returns-in-One-clause-there g c =
    subst (λ m. IsSome (get m c.in-One.number)) (ap (λ x. kept (wakers_of x)) (sym c.in-One.is) ∙ c.self.view_is) (alone_there c.in-One.number c.in-One.field-1)

pub returns-in-One-clause-least : goal.returns-in-One-clause-least
returns-in-One-clause-least g c =
    subst (λ m. (n : ℕ) → IsSome (get m n) → c.in-One.number ≤ n) (ap (λ x. kept (wakers_of x)) (sym c.in-One.is) ∙ c.self.view_is)
    (λ n there. alone_least c.in-One.number n c.in-One.field-1 there)

pub returns-in-Some-clause-there : goal.returns-in-Some-clause-there
returns-in-Some-clause-there g c =
    subst (λ m. IsSome (get m c.in-Some.number.now)) (ap (λ x. kept (wakers_of x)) (sym c.in-Many.is) ∙ c.self.view_is)
    (first_there c.in-Many.tree.entries c.in-Some.number.now _ c.in-Some.ensures.value)

pub returns-in-Some-clause-least : goal.returns-in-Some-clause-least
returns-in-Some-clause-least g c =
    subst (λ m. (n : ℕ) → IsSome (get m n) → c.in-Some.number.now ≤ n) (ap (λ x. kept (wakers_of x)) (sym c.in-Many.is) ∙ c.self.view_is)
    (first_least c.in-Many.tree.entries c.in-Some.number.now c.in-Some.ensures.least)
