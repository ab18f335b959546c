-- what holds of the front of a list, and of one element more
use Rattle.std.proofs.Common.{◌≡◌, ℕ, ◌+◌, ◌<◌, ◌≤◌, List, All, take, length, get_or, sym, subst}
use Rattle.std.proofs.lemmas.List.{take_more, take_all}
use Rattle.std.proofs.lemmas.List.Elements.{All-push}

pub all_more : {X : Type 0} (P : X → Type 0) (xs : List X) (k : ℕ) (x : X) → All P (take k xs) → k < length xs → x ≡ get_or xs k x → P x → All P (take (k + 1) xs)
all_more P xs k x all within is here = subst (All P) (sym (take_more xs k x within)) (All-push P (take k xs) (get_or xs k x) all (subst P is here))

pub all_whole : {X : Type 0} (P : X → Type 0) (xs : List X) (k : ℕ) → All P (take k xs) → length xs ≤ k → All P xs
all_whole P xs k all whole = subst (All P) (take_all k xs whole) all
