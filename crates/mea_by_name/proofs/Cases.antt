-- what holds of an outcome, by the cases of its definition
use Rattle.std.proofs.Common.{◌≡◌, Bool, true, false, Option, Some, None, refl, ap, if◌then◌else◌}
use Rattle.mea_family.specs.declared.answer.Answer.TheVariants as answers
use Rattle.mea_family.specs.Family.{Outcome, quietly}
use Rattle.mea_family.specs.Play.{found}

pub by_found : {H X : Type 0} (P : Outcome H → Type 0) (o : Option X) (h : H) (act : X → Outcome H) → P (quietly h answers.Done)
    → ((x : X) → o ≡ Some x → P (act x)) → P (found o h act)
by_found P None h act none some = none
by_found P (Some x) h act none some = some x refl

pub by_if : {Z : Type 0} (P : Z → Type 0) (b : Bool) (x y : Z) → (b ≡ true → P x) → (b ≡ false → P y) → P (if b then x else y)
by_if P true x y then_is else_is = then_is refl
by_if P false x y then_is else_is = else_is refl

pub found_is : {H X : Type 0} (o : Option X) (h : H) (act : X → Outcome H) (x : X) → o ≡ Some x → found o h act ≡ act x
found_is o h act x is = ap (λ p. found p h act) is

pub if_true : {Z : Type 0} (b : Bool) (x y : Z) → b ≡ true → (if b then x else y) ≡ x
if_true b x y is = ap (λ c. if c then x else y) is

pub if_false : {Z : Type 0} (b : Bool) (x y : Z) → b ≡ false → (if b then x else y) ≡ y
if_false b x y is = ap (λ c. if c then x else y) is
