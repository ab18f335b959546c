-- the waker that a call made ready is taken
use Rattle.std.proofs.Common.{◌≡◌, ℕ, ◌++◌, List, [], ◌∷◌, Option, Some, None, option_to_list, IfSome, IfNone, ap, sym, ◌∙◌}
use Rattle.mea_job_core.specs.Calls.{AddsAtMostOne}
use Rattle.mea_job_core.specs.Service.{Service, first_waker}

-- a service of which no waker is ready is left as it is
pub as_left : (s : Service ℕ) → s.wakes ≡ [] → s ≡ record s { wakes = [] }
as_left s quiet = λ i. record s { wakes = quiet i }

-- the one waker that is ready is taken
pub one_taken : (ws : List ℕ) (w : ℕ) (rest : List ℕ) → AddsAtMostOne [] ws → ws ≡ w ∷ rest → rest ≡ []
one_taken ws w rest adds is = by_one adds.0 adds.1
  where
    by_one : (o : Option ℕ) → ws ≡ [] ++ option_to_list o → rest ≡ []
    by_one None none = absurd (let no : w ∷ rest ≡ [] = sym is ∙ none in cc)
    by_one (Some v) one = (let same : w ∷ rest ≡ v ∷ [] = sym is ∙ one in ap tail same)
      where
        tail : List ℕ → List ℕ
        tail [] = []
        tail (x ∷ xs) = xs

-- so the waker is the first, and none is left
pub wake_taken : (s t : Service ℕ) (o : Option ℕ) → AddsAtMostOne [] s.wakes → IfSome o (λ w. s ≡ record t { wakes = w ∷ t.wakes }) → IfNone o ((s.wakes ≡ []) × (t ≡ s))
    → (t ≡ record s { wakes = [] }) × (o ≡ first_waker s.wakes)
wake_taken s t None adds first empty = (empty.1 ∙ as_left s empty.0, sym (ap first_waker empty.0))
wake_taken s t (Some w) adds first empty =
    let none : t.wakes ≡ [] = one_taken s.wakes w t.wakes adds (ap (λ (u : Service ℕ). u.wakes) first) in
    (as_left t none ∙ ap (λ (u : Service ℕ). record u { wakes = [] }) (sym first), sym (ap (λ (u : Service ℕ). first_waker u.wakes) first))
