-- what holds of the permits that were kept, from what holds of each worker's own
use Rattle.std.proofs.Common.{◌≡◌, ◌≤◌, List, [], ◌∷◌, Option, Some, None, IfSome, All, length, filter_map, arith}
use Rattle.std.proofs.lemmas.List.Elements.{All-nil, All-cons, All-head, All-tail}

-- what each worker's own permit is, if it has one, each that was kept is
pub all_kept : {X : Type 0} (P : X → Type 0) (os : List (Option X)) → All (λ o. IfSome o P) os → All P (filter_map (λ o. o) os)
all_kept P [] each = All-nil P
all_kept P (None ∷ os) each = all_kept P os (All-tail (λ o. IfSome o P) None os each)
all_kept P (Some x ∷ os) each =
    All-cons P x (filter_map (λ o. o) os) (All-head (λ o. IfSome o P) (Some x) os each) (all_kept P os (All-tail (λ o. IfSome o P) (Some x) os each))

-- no more were kept than there are workers
pub few_kept : {X : Type 0} (os : List (Option X)) → length (filter_map (λ o. o) os) ≤ length os
few_kept [] = omega arith
few_kept (None ∷ os) = let few = few_kept os in omega arith
few_kept (Some x ∷ os) = let few = few_kept os in omega arith
