-- moves are whole turns
use Rattle.std.proofs.Common.{◌≡◌, ℕ, zero, suc, ◌<◌, ◌≤◌, inl, inr, Option, Some, None, refl, ap, sym, subst, ◌∙◌, arith, if◌then◌else◌}
use Rattle.mea_task_core.specs.Machine.{Machine, move, moves}
use Rattle.mea_task_core.specs.Bounds.{work}
use Rattle.mea_task_core.specs.Sound.{IsSound}
use Rattle.mea_task_core.specs.Settled.{run_out}
use Rattle.mea_task_core.specs.Turning.{is_on, to_its_end, turn, turns}
use Rattle.mea_task_core.proofs.Moves.{Advances, rest_or_advance, sound_moves}
use Rattle.mea_task_core.proofs.Ends.{run_out_is, run_out_later}

-- what a turn makes of a machine, by moves
pub record Ends (m n : Machine) : Type 0 where
  pub count : ℕ
  pub is : n ≡ moves count m
  pub off : n.running ≡ None
  pub no_more : work n ≤ work m

ends_in : (n : ℕ) (m : Machine) → IsSound m → work m ≤ n → Ends m (to_its_end n m)
ends_in zero m s few = elim (rest_or_advance m s) [
  | inl rest ↦ record { count = 0; is = refl; off = rest.0.running; no_more = omega arith }
  | inr more ↦ absurd (let less = more.less in omega (arith, less, few))
]
ends_in (suc n) m s few = elim (rest_or_advance m s) [
  | inl rest ↦ subst (λ o. Ends m (if is_on o then to_its_end n (move m) else m)) (sym rest.0.running) (record { count = 0; is = refl; off = rest.0.running; no_more = omega arith })
  | inr more ↦ later more.less (ends_in n (move m) more.sound (let less = more.less in omega (arith, less, few)))
]
  where
    later : work (move m) < work m → Ends (move m) (to_its_end n (move m)) → Ends m (if is_on m.running then to_its_end n (move m) else m)
    later less ends = by_running m.running refl
      where
        by_running : (o : Option ℕ) → m.running ≡ o → Ends m (if is_on o then to_its_end n (move m) else m)
        by_running None off = record { count = 0; is = refl; off = off; no_more = omega arith }
        by_running (Some t) on = record { count = suc ends.count; is = ends.is; off = ends.off; no_more = (let no_more = ends.no_more in omega (arith, less, no_more)) }

-- a turn of a machine that is not at rest
turn_ends : (m : Machine) → IsSound m → Advances m (move m) → Ends (move m) (turn m)
turn_ends m s more = ends_in (work m) (move m) more.sound (let less = more.less in omega (arith, less))

in_turns : (bound : ℕ) (m : Machine) → IsSound m → work m ≤ bound → (k : ℕ) × (turns k m ≡ run_out m)
in_turns zero m s few = elim (rest_or_advance m s) [
  | inl rest ↦ (0, sym (run_out_is m s 0 rest.0))
  | inr more ↦ absurd (let less = more.less in omega (arith, less, few))
]
in_turns (suc bound) m s few = elim (rest_or_advance m s) [
  | inl rest ↦ (0, sym (run_out_is m s 0 rest.0))
  | inr more ↦
      let ends = turn_ends m s more in
      let sound : IsSound (turn m) = subst IsSound (sym ends.is) (sound_moves ends.count (move m) more.sound) in
      let rest = in_turns bound (turn m) sound (let less = more.less in let no_more = ends.no_more in omega (arith, less, no_more, few)) in
      (suc rest.0, rest.1 ∙ ap run_out ends.is ∙ run_out_later m s (suc ends.count))
]

-- a run is whole turns, one after another
pub runs_are_turns : (m : Machine) → IsSound m → (k : ℕ) × (turns k m ≡ run_out m)
runs_are_turns m s = in_turns (work m) m s (omega arith)
