use Rattle.std.proofs.Common.{◌≡◌, ◌+◌, ◌*◌, ◌≤◌, ℕ, zero, suc, refl, ap, sym, subst, ◌∙◌}
use Rattle.mea_base.proofs.Tests.{on_err}
use Rattle.mea_task_core.specs.Machine.{Machine, move, moves, IsAtRest}
use Rattle.mea_task_core.specs.Bounds.{AddsNothing}
use Rattle.mea_task_core.specs.Settled.{run_out}
use Rattle.mea_task_core.specs.Sound.{IsSound}
use Rattle.mea_task_core.proofs.Moves.{sound_moves, spends_moves}
use Rattle.mea_task_core.proofs.Ends.{moves_more, run_out_is, run_out_later, settled, polls_after, events_after, at_rest_by, busy_falls}
use Rattle.mea_task_core.proofs.executor.Executor.run.Goals as goal

-- what is told of a machine after moves
module _ (m n : Machine) (s : IsSound m) (made : (k : ℕ) × (n ≡ moves k m)) where
  sound_now : IsSound n
  sound_now = subst IsSound (sym made.1) (sound_moves made.0 m s)

  comes_to_same : run_out n ≡ run_out m
  comes_to_same = ap run_out made.1 ∙ run_out_later m s made.0

  few_now : n.polls ≤ m.allowance
  few_now = subst (λ (k : Machine). k.polls ≤ m.allowance) (sym made.1) (polls_after made.0 m s)

  events_now : n.events ≤ m.events + (4 * m.added + 1)
  events_now = subst (λ (k : Machine). k.events ≤ m.events + (4 * m.added + 1)) (sym made.1) (events_after made.0 m s)

  adds_now : AddsNothing m n
  adds_now = subst (AddsNothing m) (sym made.1) (spends_moves made.0 m s).adds

  ended_now : IsAtRest n → n ≡ run_out m
  ended_now rest = sym (run_out_is n sound_now zero rest) ∙ comes_to_same

  moved_now : (k : Machine) → k ≡ move n → (j : ℕ) × (k ≡ moves j m)
  moved_now k is = (suc made.0, is ∙ ap move made.1 ∙ sym (moves_more made.0 m))

pub loop-is_over-init : goal.loop-is_over-init
loop-is_over-init c = record { sound = c.is_at_rest-is_over.ensures.sound; made = (zero, refl); told = c.is_at_rest-is_over.ensures.told }

pub loop-is_over-smaller : goal.loop-is_over-smaller
loop-is_over-smaller c =
    let l = c.loop-is_over.invariant in
    busy_falls c.loop-is_over.self c.go.new.self (sound_now c.args.self.now c.loop-is_over.self l.sound l.made) (sym l.told ∙ c.loop-is_over-test.true) c.in_ok-go.ensures.ok

pub loop-is_over-preserved : goal.loop-is_over-preserved
loop-is_over-preserved c =
    let l = c.loop-is_over.invariant in
    record { sound = l.sound; made = moved_now c.args.self.now c.loop-is_over.self l.sound l.made c.go.new.self c.in_ok-go.ensures.ok; told = c.is_at_rest-is_over-in-loop-is_over.ensures.told }

-- where an event found no memory
pub returns-in_err-go-clause-moved : goal.returns-in_err-go-clause-moved
returns-in_err-go-clause-moved c =
    let l = c.loop-is_over.invariant in
    let moved : (n : ℕ) × (◌≡◌ {A = Machine} c.go.new.self (moves n c.args.self.now)) = (l.made.0, c.in_err-go.ensures.err ∙ l.made.1) in
    on_err _ _ moved

pub returns-in_err-go-clause-goes_on : goal.returns-in_err-go-clause-goes_on
returns-in_err-go-clause-goes_on c =
    let l = c.loop-is_over.invariant in
    on_err _ _ (ap run_out c.in_err-go.ensures.err ∙ comes_to_same c.args.self.now c.loop-is_over.self l.sound l.made)

pub returns-in_err-go-clause-few : goal.returns-in_err-go-clause-few
returns-in_err-go-clause-few c =
    let l = c.loop-is_over.invariant in
    few_now c.args.self.now c.go.new.self l.sound (l.made.0, c.in_err-go.ensures.err ∙ l.made.1)

pub returns-in_err-go-clause-events : goal.returns-in_err-go-clause-events
returns-in_err-go-clause-events c =
    let l = c.loop-is_over.invariant in
    events_now c.args.self.now c.go.new.self l.sound (l.made.0, c.in_err-go.ensures.err ∙ l.made.1)

pub returns-in_err-go-clause-adds : goal.returns-in_err-go-clause-adds
returns-in_err-go-clause-adds c =
    let l = c.loop-is_over.invariant in
    adds_now c.args.self.now c.go.new.self l.sound (l.made.0, c.in_err-go.ensures.err ∙ l.made.1)

-- at rest
pub returns-clause-ended : goal.returns-clause-ended
returns-clause-ended c =
    let l = c.loop-is_over.invariant in
    ended_now c.args.self.now c.loop-is_over.self l.sound l.made (at_rest_by c.loop-is_over.self (sym l.told ∙ c.loop-is_over-test.false))

pub returns-clause-rests : goal.returns-clause-rests
returns-clause-rests c =
    let l = c.loop-is_over.invariant in
    at_rest_by c.loop-is_over.self (sym l.told ∙ c.loop-is_over-test.false)

pub returns-clause-settled : goal.returns-clause-settled
returns-clause-settled c =
    let l = c.loop-is_over.invariant in
    settled c.loop-is_over.self (sound_now c.args.self.now c.loop-is_over.self l.sound l.made) (at_rest_by c.loop-is_over.self (sym l.told ∙ c.loop-is_over-test.false))

pub returns-clause-few : goal.returns-clause-few
returns-clause-few c = let l = c.loop-is_over.invariant in few_now c.args.self.now c.loop-is_over.self l.sound l.made

pub returns-clause-events : goal.returns-clause-events
returns-clause-events c = let l = c.loop-is_over.invariant in events_now c.args.self.now c.loop-is_over.self l.sound l.made

pub returns-clause-adds : goal.returns-clause-adds
returns-clause-adds c = let l = c.loop-is_over.invariant in adds_now c.args.self.now c.loop-is_over.self l.sound l.made
