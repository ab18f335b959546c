use Rattle.std.proofs.Common.{ap, cond, arith, ◌≡◌, ℕ}
use Rattle.mea_once_model.specs.Meaning.{registers}
use Rattle.mea_once_model.proofs.Wakers.{counted, extra-least}
use Rattle.mea_once_model.proofs.laws.wakes_are_of_the_registered.Goals as goal

pub returns-clause-most : goal.returns-clause-most
returns-clause-most c = λ h i e. (counted h i e).most

pub returns-clause-grows : goal.returns-clause-grows
returns-clause-grows c = λ h i e. omega (arith, (counted h i e).grows, extra-least (registers e))

pub returns-clause-falls : goal.returns-clause-falls
returns-clause-falls c = λ h i e quiet. let nothing : ◌≡◌ {A = ℕ} (cond (registers e) 1 0) 0 = ap (λ b. cond b 1 0) quiet in omega (arith, (counted h i e).grows, nothing)
