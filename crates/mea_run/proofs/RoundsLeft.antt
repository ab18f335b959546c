-- how a generated script goes on
use Rattle.std.proofs.Common.{◌≡◌, ℕ, suc, ◌+◌, ◌-◌, ◌<◌, ◌++◌, List, [], ap, sym, ◌∙◌, arith, append_assoc}
use Rattle.mea_events.specs.declared.event.Event.{Event}
use Rattle.mea_run.specs.Generated.{drawn_by, round_of, rounds_from}

-- the next round, and those after it
pub rounds_step : (state j n : ℕ) → j < n → rounds_from state j (n - j) ≡ round_of state j ++ rounds_from (drawn_by 4 state) (j + 1) (n - (j + 1))
rounds_step state j n less = ap (rounds_from state j) (let left : n - j ≡ suc (n - (j + 1)) = omega arith in left)

-- no round is left
pub rounds_done : (state j n : ℕ) → j ≡ n → rounds_from state j (n - j) ≡ []
rounds_done state j n is = ap (rounds_from state j) (let none : n - j ≡ 0 = omega arith in none)

-- a round more was made
pub made_on : (state j n : ℕ) (made more all : List Event) → j < n → made ++ rounds_from state j (n - j) ≡ all → more ≡ made ++ round_of state j
    → more ++ rounds_from (drawn_by 4 state) (j + 1) (n - (j + 1)) ≡ all
made_on state j n made more all less so_far is =
    ap (λ es. es ++ rounds_from (drawn_by 4 state) (j + 1) (n - (j + 1))) is
    ∙ append_assoc made (round_of state j) (rounds_from (drawn_by 4 state) (j + 1) (n - (j + 1)))
    ∙ ap (λ es. made ++ es) (sym (rounds_step state j n less)) ∙ so_far
