-- what a closed core keeps to while it changes
use Rattle.std.proofs.Common.{◌≡◌, ℕ, Bool, true, false, List}
use Rattle.std.specs.Ordering.{nat_cmp}
use Rattle.std.specs.FinMap.{FinMap, empty}
use Rattle.mea_sem_core.specs.Core.{Waiter, CutsWhereClosed, HasOnlyDebts}

-- a core that is closed where it was keeps debts alone there, and no number that was cut elsewhere
pub keeps_closed : (b b' : Bool) (q q' : List (Waiter ℕ × ℕ)) (cut cut' : FinMap nat_cmp ℕ) → b' ≡ b → (HasOnlyDebts q → HasOnlyDebts q')
    → (cut ≡ empty → cut' ≡ empty) → CutsWhereClosed b q cut → CutsWhereClosed b' q' cut'
keeps_closed true true q q' cut cut' same debts none h = debts h
keeps_closed false false q q' cut cut' same debts none h = none h
keeps_closed true false q q' cut cut' same debts none h = absurd (cc)
keeps_closed false true q q' cut cut' same debts none h = absurd (cc)
