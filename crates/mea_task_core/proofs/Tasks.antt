-- lists of tasks: one task changes, and some are woken
use Rattle.std.proofs.Common.{◌≡◌, ℕ, zero, suc, ◌+◌, ◌<◌, List, [], ◌∷◌, Option, Some, None, refl, ap, sym, subst, ◌∙◌, arith, slice_get, slice_set, length, get_or, cond, ◌≤◌, ◌==◌}
use Rattle.std.specs.List.{sum_by}
use Rattle.std.proofs.lemmas.List.{length-set}
use Rattle.std.proofs.lemmas.List.Sums.{sum_by-set, sum_by-cons}
use Rattle.std.proofs.lemmas.Option.{slice_get_within, get_or_from_slice_get, slice_get-get_or}
use Rattle.std.proofs.lemmas.Bool.{eq-eqb}
use Rattle.mea_base.proofs.Maps.{inside}
use Rattle.mea_base.proofs.Tests.{by_name, on_true}
use Rattle.mea_task_core.specs.Task.{TaskRecord, at_phase, woken_phase}
use Rattle.mea_task_core.specs.Machine.{wake_at, woken}
use Rattle.mea_task_core.specs.Sound.{times}

-- ---- one element changes
module _ {X : Type 0} where
  pub get-set_other : (xs : List X) (i j : ℕ) (y : X) → (i ≡ j → ⊥) → slice_get (slice_set xs i y) j ≡ slice_get xs j
  get-set_other [] i j y apart = refl
  get-set_other (x ∷ xs) zero zero y apart = absurd (apart refl)
  get-set_other (x ∷ xs) zero (suc j) y apart = refl
  get-set_other (x ∷ xs) (suc i) zero y apart = refl
  get-set_other (x ∷ xs) (suc i) (suc j) y apart = get-set_other xs i j y (λ same. apart (ap suc same))

  pub get-set_same : (xs : List X) (i : ℕ) (x y : X) → slice_get xs i ≡ Some x → slice_get (slice_set xs i y) i ≡ Some y
  get-set_same [] i x y is = absurd (cc)
  get-set_same (z ∷ xs) zero x y is = refl
  get-set_same (z ∷ xs) (suc i) x y is = get-set_same xs i x y is

  -- each place of a list of which one element was changed
  pub by_set : (xs : List X) (i : ℕ) (x y : X) → slice_get xs i ≡ Some x → (P : ℕ → Option X → Type 0) → P i (Some y) → ((j : ℕ) → (i ≡ j → ⊥) → P j (slice_get xs j)) → (j : ℕ)
      → P j (slice_get (slice_set xs i y) j)
  by_set xs i x y is P here others j =
      by_name i j
      (λ same. subst (λ k. P k (slice_get (slice_set xs i y) k)) same (subst (λ o. P i o) (sym (get-set_same xs i x y is)) here))
      (λ apart. subst (λ o. P j o) (sym (get-set_other xs i j y apart)) (others j apart))

  pub sum-set : (f : X → ℕ) (xs : List X) (i : ℕ) (x y : X) → slice_get xs i ≡ Some x → sum_by f (slice_set xs i y) + f x ≡ sum_by f xs + f y
  sum-set f xs i x y is = ap (λ z. sum_by f (slice_set xs i y) + f z) (sym (get_or_from_slice_get xs i x x is)) ∙ sum_by-set f xs i y x (slice_get_within xs i x is)

-- ---- some are woken
module _ (f : TaskRecord → ℕ) (same : (x : TaskRecord) → f (at_phase x (woken_phase x.phase)) ≡ f x) where
  sum-wake_at : (tasks : List TaskRecord) (t : ℕ) (o : Option TaskRecord) → slice_get tasks t ≡ o → sum_by f (wake_at tasks t o) ≡ sum_by f tasks
  sum-wake_at tasks t None is = refl
  sum-wake_at tasks t (Some x) is =
      let sums = sum-set f tasks t x (at_phase x (woken_phase x.phase)) is in
      let here = same x in
      omega (arith, sums, here)

  -- what waking does not change has the same sum
  pub sum-woken : (tasks : List TaskRecord) (ts : List ℕ) → sum_by f (woken tasks ts) ≡ sum_by f tasks
  sum-woken tasks [] = refl
  sum-woken tasks (t ∷ ts) = sum-woken (wake_at tasks t (slice_get tasks t)) ts ∙ sum-wake_at tasks t (slice_get tasks t) refl

length-wake_at : (tasks : List TaskRecord) (t : ℕ) (o : Option TaskRecord) → length (wake_at tasks t o) ≡ length tasks
length-wake_at tasks t None = refl
length-wake_at tasks t (Some x) = length-set tasks t (at_phase x (woken_phase x.phase))

pub length-woken : (tasks : List TaskRecord) (ts : List ℕ) → length (woken tasks ts) ≡ length tasks
length-woken tasks [] = refl
length-woken tasks (t ∷ ts) = length-woken (wake_at tasks t (slice_get tasks t)) ts ∙ length-wake_at tasks t (slice_get tasks t)

-- a task that does not wait stays as it is
get-wake_still : (tasks : List TaskRecord) (w t : ℕ) (x : TaskRecord) → slice_get tasks t ≡ Some x → woken_phase x.phase ≡ x.phase → (o : Option TaskRecord) → slice_get tasks w ≡ o
    → slice_get (wake_at tasks w o) t ≡ Some x
get-wake_still tasks w t x is still None at = is
get-wake_still tasks w t x is still (Some z) at =
    by_name w t
    (λ same.
    let here : z ≡ x = inside (sym at ∙ ap (slice_get tasks) same ∙ is) in
    subst (λ k. slice_get (slice_set tasks w (at_phase z (woken_phase z.phase))) k ≡ Some x) same
    (get-set_same tasks w z (at_phase z (woken_phase z.phase)) at ∙ ap (λ (y : TaskRecord). Some (at_phase y (woken_phase y.phase))) here ∙ ap (λ p. Some (at_phase x p)) still))
    (λ apart. get-set_other tasks w t (at_phase z (woken_phase z.phase)) apart ∙ is)

pub get-woken_still : (tasks : List TaskRecord) (ws : List ℕ) (t : ℕ) (x : TaskRecord) → slice_get tasks t ≡ Some x → woken_phase x.phase ≡ x.phase → slice_get (woken tasks ws) t ≡ Some x
get-woken_still tasks [] t x is still = is
get-woken_still tasks (w ∷ ws) t x is still =
    get-woken_still (wake_at tasks w (slice_get tasks w)) ws t x (get-wake_still tasks w t x is still (slice_get tasks w) refl) still

-- ---- the code wakes one after another
-- what is read at a place and woken is what waking makes of that place
pub wake_is : (tasks : List TaskRecord) (t : ℕ) (d y : TaskRecord) → t < length tasks → y ≡ at_phase (get_or tasks t d) (woken_phase (get_or tasks t d).phase) → wake_at tasks t (slice_get tasks t) ≡ slice_set tasks t y
wake_is tasks t d y less is = ap (wake_at tasks t) (slice_get-get_or tasks t d less) ∙ ap (slice_set tasks t) (sym is)

pub first_times : (w : ℕ) (ws : List ℕ) → 1 ≤ times w (w ∷ ws)
first_times w ws = omega (arith, on_true (w == w) 1 (eq-eqb w w refl), sum_by-cons {X = ℕ} (λ v. cond (v == w) 1 0) w ws)

pub later_times : (u w : ℕ) (ws : List ℕ) → 1 ≤ times u ws → 1 ≤ times u (w ∷ ws)
later_times u w ws some = omega (arith, some, sum_by-cons {X = ℕ} (λ v. cond (v == u) 1 0) w ws)
