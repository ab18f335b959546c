-- who waits, in order, each by its name and with the waker of its last poll
use Rattle.std.specs.Prelude.{ℕ, ◌==◌, Bool, cond, List, [], ◌∷◌, Option, Some, None, is_some, length, map}
use Rattle.std.specs.FinMap.{get}
use Rattle.mea_base.specs.Totals.{total}
use Rattle.mea_by_name.specs.ByName.{Names}

abbrev pub Waiting : Type 0
Waiting = List (ℕ × ℕ)

-- the waker of f, if it waits
abbrev pub waker_for : Waiting → ℕ → Option ℕ
waker_for [] f = None
waker_for (e ∷ q) f = cond (e.0 == f) (Some e.1) (waker_for q f)

-- whether f waits
abbrev pub waits : Waiting → ℕ → Bool
waits q f = is_some (waker_for q f)

-- f has this waker now
abbrev pub with_waker : Waiting → ℕ → ℕ → Waiting
with_waker [] f w = []
with_waker (e ∷ q) f w = (e.0, cond (e.0 == f) w e.1) ∷ with_waker q f w

-- f has this waker: in the place of its own, or last
abbrev pub registering : Waiting → ℕ → ℕ → Waiting
registering [] f w = (f, w) ∷ []
registering (e ∷ q) f w = cond (e.0 == f) ((e.0, w) ∷ q) (e ∷ registering q f w)

-- the wakers of all who wait
abbrev pub wakers : Waiting → List ℕ
wakers q = map (λ (e : ℕ × ℕ). e.1) q

-- all but f
abbrev pub without : Waiting → ℕ → Waiting
without [] f = []
without (e ∷ q) f = cond (e.0 == f) (without q f) (e ∷ without q f)

-- objects at which futures wait
module _ {R : Type 0} (queue : R → Waiting) where
  -- who waits at what stands at a name
  abbrev pub queue_of : Option R → Waiting
  queue_of None = []
  queue_of (Some r) = queue r

  -- how many wakers are registered
  abbrev pub registered : Names R → ℕ
  registered rs = total (λ o r. length (queue r)) rs

  -- the futures, each with its owner
  module _ {X : Type 0} (owner : X → ℕ) where
    abbrev pub placed_of : Names R → ℕ → Option X → Option ℕ
    placed_of rs f None = None
    placed_of rs f (Some x) = waker_for (queue_of (get rs (owner x))) f

    -- the waker that is kept for f
    abbrev pub placed : Names R → Names X → ℕ → Option ℕ
    placed rs xs f = placed_of rs f (get xs f)
