-- who waits for permits, in order, each by its name and with the waker of its last poll, and what it lacks
use Rattle.std.specs.Prelude.{ℕ, ◌==◌, cond, List, [], ◌∷◌, map}
use Rattle.mea_base.specs.Queue.{granted_in}
use Rattle.mea_by_name.specs.NamedQueue.{Waiting}

abbrev pub Lacking : Type 0
Lacking = List ((ℕ × ℕ) × ℕ)

-- who waits
abbrev pub who : Lacking → Waiting
who [] = []
who (e ∷ q) = e.0 ∷ who q

-- what f lacks, if it waits
abbrev pub lack_for : Lacking → ℕ → ℕ
lack_for [] f = 0
lack_for (e ∷ q) f = cond (e.0.0 == f) e.1 (lack_for q f)

-- f has this waker now
abbrev pub rewoken : Lacking → ℕ → ℕ → Lacking
rewoken [] f w = []
rewoken (e ∷ q) f w = ((e.0.0, cond (e.0.0 == f) w e.0.1), e.1) ∷ rewoken q f w

-- all but f
abbrev pub leaving : Lacking → ℕ → Lacking
leaving [] f = []
leaving (e ∷ q) f = cond (e.0.0 == f) (leaving q f) (e ∷ leaving q f)

-- the wakers of those whom a pour of n grants
abbrev pub woken_by : Lacking → ℕ → List ℕ
woken_by q n = map (λ (e : ℕ × ℕ). e.1) (granted_in q n)
