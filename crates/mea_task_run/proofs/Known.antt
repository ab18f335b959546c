-- steps that mean semaphores which are there
use Rattle.std.proofs.Common.{◌≡◌, ℕ, ◌+◌, Bool, true, false, cond, not, List, [], ◌∷◌, ◌++◌, Option, Some, None, refl, ap, ◌∙◌, arith, length}
use Rattle.std.specs.List.{AllByRecursion, position_or_len, prefix_len}
use Rattle.std.proofs.lemmas.Bool.{ltb-true, lt-ltb, le-ltb}
use Rattle.mea_task_core.specs.declared.step.Step.{Step}
use Rattle.mea_task_core.specs.declared.step.Step.TheVariants.{Take, Give, Yield}
use Rattle.mea_task_core.specs.Machine.{Machine}
use Rattle.mea_task_core.specs.Adding.{is_known, first_unknown}
use Rattle.mea_task_run.specs.Machine.{AreKnown, with_step}

-- ---- one more semaphore
known_more : (count : ℕ) (s : Step) → is_known count s ≡ true → is_known (count + 1) s ≡ true
known_more count (Take s n) is = let less = ltb-true s count is in lt-ltb s (count + 1) (omega (arith, less))
known_more count (Give s n) is = let less = ltb-true s count is in lt-ltb s (count + 1) (omega (arith, less))
known_more count Yield is = refl

all_more : (count : ℕ) (steps : List Step) → AllByRecursion (λ s. is_known count s ≡ true) steps → AllByRecursion (λ s. is_known (count + 1) s ≡ true) steps
all_more count [] all = tt
all_more count (s ∷ steps) all = (known_more count s all.0, all_more count steps all.1)

pub latest_more : (count : ℕ) (latest : Option (List Step)) → AreKnown count latest → AreKnown (count + 1) latest
latest_more count None known = tt
latest_more count (Some steps) known = all_more count steps known

-- ---- one more step
all_push : {X : Type 0} (P : X → Type 0) (xs : List X) (x : X) → AllByRecursion P xs → P x → AllByRecursion P (xs ++ x ∷ [])
all_push P [] x all last = (last, tt)
all_push P (y ∷ xs) x all last = (all.0, all_push P xs x all.1 last)

pub latest_push : (count : ℕ) (latest : Option (List Step)) (s : Step) → AreKnown count latest → is_known count s ≡ true → AreKnown count (with_step latest s)
latest_push count None s known is = tt
latest_push count (Some steps) s known is = all_push (λ z. is_known count z ≡ true) steps s known is

-- ---- none of them means one that is not there
still_known : (b : Bool) → b ≡ true → not (not b) ≡ true
still_known true is = refl
still_known false is = absurd (cc)

all_pass : (count : ℕ) (steps : List Step) → AllByRecursion (λ s. is_known count s ≡ true) steps → position_or_len (λ s. not (is_known count s)) steps ≡ length steps
all_pass count [] all = refl
all_pass count (s ∷ steps) all =
    let rest = all_pass count steps all.1 in
    ap (λ b. cond b (1 + prefix_len (λ z. not (not (is_known count z))) steps) 0) (still_known (is_known count s) all.0) ∙ (let e : length (s ∷ steps) ≡ length steps + 1 = omega arith in omega (arith, rest, e))

pub none_unknown : (m : Machine) (steps : List Step) → AllByRecursion (λ s. is_known (length m.semaphores) s ≡ true) steps → first_unknown m steps ≡ None
none_unknown m steps all =
    let at_end = all_pass (length m.semaphores) steps all in
    ap (λ b. cond b (Some (position_or_len (λ s. not (is_known (length m.semaphores) s)) steps)) None) (le-ltb (position_or_len (λ s. not (is_known (length m.semaphores) s)) steps) (length steps) (omega (arith, at_end)))
