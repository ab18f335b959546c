-- tasks and futures stay together
use Rattle.std.proofs.Common.{◌≡◌, ℕ, ◌⊎◌, inl, inr, List, Some, None, refl, ap, sym, subst, ◌∙◌, slice_get, slice_set, length}
use Rattle.std.specs.Ordering.{nat_cmp}
use Rattle.std.specs.FinMap.{FinMap, get}
use Rattle.mea_base.proofs.Maps.{inside}
use Rattle.mea_sem_model.specs.Hall.{Future, FutureStage, New, Waiting, Granted}
use Rattle.mea_task_core.specs.declared.step.Step.{Step}
use Rattle.mea_task_core.specs.declared.phase.Phase.{Phase}
use Rattle.mea_task_core.specs.declared.phase.Phase.TheVariants.{Queued, Asks, Waits, Woken, Finished, Failed}
use Rattle.mea_task_core.specs.Task.{TaskRecord, is_active, future_in}
use Rattle.mea_task_core.specs.Sound.{AreLinked, Has, IsFutureOf, IsKnown, one_if, future_of}
use Rattle.mea_task_core.proofs.Tasks.{get-set_other, get-set_same, by_set}

-- ---- what a task has
-- the future of a task is there
pub has_there : (F : FinMap nat_cmp Future) (names : List ℕ) (t : ℕ) (x : TaskRecord) (p : Phase) (f : ℕ) → Has F names t x p → future_in p ≡ Some f → (y : Future) × (get F f ≡ Some y)
has_there F names t x Queued f has is = absurd (cc)
has_there F names t x (Asks g) f has is = (_, ap (get F) (sym (inside is)) ∙ has.is)
has_there F names t x (Waits g) f has is = (_, ap (get F) (sym (inside is)) ∙ has.is)
has_there F names t x (Woken g) f has is = (_, ap (get F) (sym (inside is)) ∙ has.is)
has_there F names t x Finished f has is = absurd (cc)
has_there F names t x Failed f has is = absurd (cc)

moved : (F G : FinMap nat_cmp Future) (names : List ℕ) (x : TaskRecord) (f : ℕ) (stage : FutureStage) → ((y : Future) → get F f ≡ Some y → get G f ≡ Some y) → IsFutureOf F names x f stage
    → IsFutureOf G names x f stage
moved F G names x f stage still has = record { place = has.place; demand = has.demand; next = has.next; known = has.known; is = still (future_of _ has.demand stage) has.is }

-- a task whose future stays has the same
pub has_still : (F G : FinMap nat_cmp Future) (names : List ℕ) (t : ℕ) (x : TaskRecord) (p : Phase) → ((f : ℕ) (y : Future) → future_in p ≡ Some f → get F f ≡ Some y → get G f ≡ Some y) → Has F names t x p
    → Has G names t x p
has_still F G names t x Queued still has = tt
has_still F G names t x (Asks f) still has = moved F G names x f New (λ y is. still f y refl is) has
has_still F G names t x (Waits f) still has = moved F G names x f (Waiting t) (λ y is. still f y refl is) has
has_still F G names t x (Woken f) still has = moved F G names x f Granted (λ y is. still f y refl is) has
has_still F G names t x Finished still has = tt
has_still F G names t x Failed still has = tt

pub linked_due : (F : FinMap nat_cmp Future) (names : List ℕ) (tasks : List TaskRecord) (d e : ℕ → ℕ) → ((t : ℕ) → e t ≡ d t) → AreLinked F names tasks d → AreLinked F names tasks e
linked_due F names tasks d e same l = record {
  counted = λ t x is. same t ∙ l.counted t x is;
  beyond = λ t none. same t ∙ l.beyond t none;
  has = l.has;
  waits = l.waits;
  apart = l.apart;
  known = l.known;
}

-- ---- one task changes
-- task t becomes y, and futures F become G
pub record Changes (F G : FinMap nat_cmp Future) (names : List ℕ) (d e : ℕ → ℕ) (t : ℕ) (x y : TaskRecord) : Type 0 where
  -- it has no other steps than before
  pub steps : (k : ℕ) (s : Step) → slice_get y.steps k ≡ Some s → slice_get x.steps k ≡ Some s
  pub here : e t ≡ one_if (is_active y.phase)
  pub others : (u : ℕ) → (t ≡ u → ⊥) → e u ≡ d u
  pub has : Has G names t y y.phase
  -- the futures of others stay
  pub still : (f : ℕ) (z : Future) → get F f ≡ Some z → (future_in x.phase ≡ Some f → ⊥) → get G f ≡ Some z
  -- who waits now is its future, or waited before
  pub waits : (f w : ℕ) (z : Future) → get G f ≡ Some z → z.stage ≡ Waiting w → ((w ≡ t) × (y.phase ≡ Waits f)) ⊎ ((get F f ≡ Some z) × (future_in x.phase ≡ Some f → ⊥))
  -- its future is its own, or new
  pub own : (f : ℕ) → future_in y.phase ≡ Some f → (future_in x.phase ≡ Some f) ⊎ (get F f ≡ None)

pub one_changes : (F G : FinMap nat_cmp Future) (names : List ℕ) (tasks : List TaskRecord) (d e : ℕ → ℕ) (t : ℕ) (x y : TaskRecord) → AreLinked F names tasks d → slice_get tasks t ≡ Some x
    → Changes F G names d e t x y → AreLinked G names (slice_set tasks t y) e
one_changes F G names tasks d e t x y l at c = record {
  counted = λ u z is. by_set tasks t x y at (λ j o. o ≡ Some z → e j ≡ one_if (is_active z.phase))
      (λ same. c.here ∙ ap (λ (v : TaskRecord). one_if (is_active v.phase)) (inside same))
      (λ j apart was. c.others j apart ∙ l.counted j z was) u is;
  beyond = λ u none. by_set tasks t x y at (λ j o. o ≡ None → e j ≡ 0) (λ some. absurd (cc)) (λ j apart was. c.others j apart ∙ l.beyond j was) u none;
  has = λ u z is. by_set tasks t x y at (λ j o. o ≡ Some z → Has G names j z z.phase)
      (λ same. subst (λ v. Has G names t v v.phase) (inside same) c.has)
      (λ j apart was. has_still F G names j z z.phase (λ f v own is. c.still f v is (λ mine. apart (l.apart t j f x z at was mine own))) (l.has j z was)) u is;
  waits = λ f w z is stage. elim (c.waits f w z is stage) [
    | inl mine ↦ (y, ap (slice_get (slice_set tasks t y)) mine.0 ∙ get-set_same tasks t x y at, mine.1)
    | inr was ↦
        let v = l.waits f w z was.0 stage in (
          v.0,
          get-set_other tasks t w y (λ same. was.1 (let here : x ≡ v.0 = inside (sym at ∙ ap (slice_get tasks) same ∙ v.1) in
              ap (λ (q : TaskRecord). future_in q.phase) here ∙ ap future_in v.2)) ∙ v.1,
          v.2,
        )
  ];
  apart = λ u v f z q is at_v own_z own_q. by_set tasks t x y at (λ j o. o ≡ Some z → j ≡ v)
      (λ same. by_set tasks t x y at (λ k o. o ≡ Some q → t ≡ k) (λ _. refl)
      (λ k apart was. absurd (stranger k q was apart (ap (λ (r : TaskRecord). future_in r.phase) (inside same) ∙ own_z) own_q)) v at_v)
      (λ j apart was. by_set tasks t x y at (λ k o. o ≡ Some q → j ≡ k)
      (λ same. absurd (stranger j z was apart (ap (λ (r : TaskRecord). future_in r.phase) (inside same) ∙ own_q) own_z))
      (λ k other also. l.apart j k f z q was also own_z own_q) v at_v) u is;
  known = λ u k z s is step. by_set tasks t x y at (λ j o. o ≡ Some z → IsKnown (length names) s)
      (λ same. l.known t k x s at (c.steps k s (ap (λ (r : TaskRecord). slice_get r.steps k) (inside same) ∙ step)))
      (λ j apart was. l.known j k z s was step) u is;
}
  where
    -- no other task has its future
    stranger : (j : ℕ) (z : TaskRecord) → slice_get tasks j ≡ Some z → (t ≡ j → ⊥) → {f : ℕ} → future_in y.phase ≡ Some f → future_in z.phase ≡ Some f → ⊥
    stranger j z was apart {f} mine theirs = elim (c.own f mine) [
      | inl own ↦ apart (l.apart t j f x z at was own theirs)
      | inr none ↦ absurd (let there = has_there F names j z z.phase f (l.has j z was) theirs in let both : Some there.0 ≡ None = sym there.1 ∙ none in cc)
    ]
