-- what a move costs
use Rattle.std.proofs.Common.{◌≡◌, ℕ, suc, ◌+◌, ◌-◌, ◌<◌, ◌≤◌, List, ◌∷◌, Some, refl, ap, sym, ◌∙◌, arith, slice_get, slice_set, length, drop, add-one, drop-cons}
use Rattle.std.specs.List.{sum_by}
use Rattle.std.proofs.lemmas.List.{length-set}
use Rattle.std.proofs.lemmas.List.Sums.{sum_by-cons}
use Rattle.std.proofs.lemmas.Option.{slice_get_within, get_or_from_slice_get}
use Rattle.mea_task_core.specs.declared.step.Step.{Step}
use Rattle.mea_task_core.specs.declared.phase.Phase.{Phase}
use Rattle.mea_task_core.specs.declared.phase.Phase.TheVariants.{Queued, Asks, Waits, Woken, Finished, Failed}
use Rattle.mea_task_core.specs.Task.{TaskRecord, at_phase, woken_phase, past, next_step}
use Rattle.mea_task_core.specs.Machine.{Machine, woken}
use Rattle.mea_task_core.specs.Bounds.{may_rest, takes_and_yields, AddsNothing, rest_of, turns_by, turns_left, moves_by, moves_left, one_if_on, work}
use Rattle.mea_task_core.specs.Sound.{one_if, IsBounded}
use Rattle.mea_task_core.proofs.Tasks.{sum-set, sum-woken, length-woken}

-- ---- waking costs nothing
same_turns : (p : Phase) (k : ℕ) → turns_by (woken_phase p) k ≡ turns_by p k
same_turns Queued k = refl
same_turns (Asks f) k = refl
same_turns (Waits f) k = refl
same_turns (Woken f) k = refl
same_turns Finished k = refl
same_turns Failed k = refl

same_moves : (p : Phase) (k : ℕ) → moves_by (woken_phase p) k ≡ moves_by p k
same_moves Queued k = refl
same_moves (Asks f) k = refl
same_moves (Waits f) k = refl
same_moves (Woken f) k = refl
same_moves Finished k = refl
same_moves Failed k = refl

-- a sum after some were woken and then one has changed
after : (f : TaskRecord → ℕ) → ((x : TaskRecord) → f (at_phase x (woken_phase x.phase)) ≡ f x) → (tasks : List TaskRecord) (ws : List ℕ) (t : ℕ) (x y : TaskRecord)
    → slice_get (woken tasks ws) t ≡ Some x → sum_by f (slice_set (woken tasks ws) t y) + f x ≡ sum_by f tasks + f y
after f same tasks ws t x y at =
    let changed = sum-set f (woken tasks ws) t x y at in
    let as_before = sum-woken f same tasks ws in
    omega (arith, changed, as_before)

-- the numbers of a machine m, of which some tasks were woken and then task t came from x to y
pub record Costs (m n : Machine) (ws : List ℕ) (t : ℕ) (x y : TaskRecord) : Type 0 where
  pub at : slice_get (woken m.tasks ws) t ≡ Some x
  pub tasks : n.tasks ≡ slice_set (woken m.tasks ws) t y
  pub semaphores : n.semaphores ≡ m.semaphores
  pub added : n.added ≡ m.added
  pub allowance : n.allowance ≡ m.allowance
  pub polls : n.polls ≡ m.polls
  pub events : n.events ≤ m.events + 1
  pub moves : moves_left y + (1 - one_if_on n.running) + 1 ≤ moves_left x + (1 - one_if_on m.running)
  pub turns : turns_left y + one_if_on m.running ≤ turns_left x + one_if_on n.running

module _ (m n : Machine) (ws : List ℕ) (t : ℕ) (x y : TaskRecord) (c : Costs m n ws t x y) where
  new_moves : sum_by moves_left n.tasks + moves_left x ≡ sum_by moves_left m.tasks + moves_left y
  new_moves = ap (λ ts. sum_by moves_left ts + moves_left x) c.tasks ∙ after moves_left (λ z. same_moves z.phase (length (rest_of z))) m.tasks ws t x y c.at

  new_turns : sum_by turns_left n.tasks + turns_left x ≡ sum_by turns_left m.tasks + turns_left y
  new_turns = ap (λ ts. sum_by turns_left ts + turns_left x) c.tasks ∙ after turns_left (λ z. same_turns z.phase (takes_and_yields (rest_of z))) m.tasks ws t x y c.at

  new_count : length n.tasks ≡ length m.tasks
  new_count = ap length c.tasks ∙ length-set (woken m.tasks ws) t y ∙ length-woken m.tasks ws

  pub adds_nothing : AddsNothing m n
  adds_nothing = record { semaphores = c.semaphores; tasks = new_count; added = c.added; allowance = c.allowance }

  pub work_falls : work n < work m
  work_falls = omega (arith, new_moves, c.moves)

  pub bounded_after : IsBounded m → IsBounded n
  bounded_after b = record {
    size = omega (arith, b.size, c.added);
    turns = omega (arith, b.turns, c.added, c.allowance);
    room = omega (arith, b.room, c.added, work_falls, c.events);
    low = omega (arith, b.low, c.added, work_falls);
    few = omega (arith, b.few, c.allowance, new_turns, c.turns, c.polls);
  }

-- ---- the steps that are left
rest_next : (steps : List Step) (p : ℕ) (s : Step) → slice_get steps p ≡ Some s → drop p steps ≡ s ∷ drop (p + 1) steps
rest_next steps p s is =
    drop-cons steps p s (slice_get_within steps p s is)
    ∙ ap (λ z. z ∷ drop (suc p) steps) (get_or_from_slice_get steps p s s is)
    ∙ ap (λ k. s ∷ drop k steps) (sym (add-one p))

module _ (x : TaskRecord) (s : Step) (is : next_step x ≡ Some s) where
  pub steps_next : length (rest_of x) ≡ length (rest_of (past x)) + 1
  steps_next = ap length (rest_next x.steps x.position s is) ∙ sym (add-one (length (rest_of (past x))))

  pub rests_next : takes_and_yields (rest_of x) ≡ one_if (may_rest s) + takes_and_yields (rest_of (past x))
  rests_next = ap takes_and_yields (rest_next x.steps x.position s is) ∙ sum_by-cons (λ z. one_if (may_rest z)) s (rest_of (past x))
