-- what the calls of a once do, from what those of its cell do
use Rattle.std.proofs.Common.{◌≡◌, ◌≢◌, ◌∙◌, ℕ, ◌-◌, ◌==◌, ◌++◌, ◌&&◌, Bool, true, false, cond, nat_lt, nat_le, List, [], Option, Some, None, is_none, IsSome, IsOk, is_err, Result, Ok, Err, MatchOption, refl, ap, sym, subst, arith, append-nil}
use Rattle.std.proofs.lemmas.Bool.{eqb-true}
use Rattle.mea_base.specs.declared.no_memory.NoMemory.{NoMemory}
use Rattle.mea_sets.specs.Poll.{Poll, Ready}
use Rattle.mea_sets.specs.WaitSet.{drained}
use Rattle.mea_sets.specs.Countdown.{Count, Counting, decreased, woken_by, ends}
use Rattle.mea_once_core.specs.Cell.{Cell, PollsTurn, HasTurn, PollsInit, PollsStage, Ends, queues_more}
use Rattle.mea_once_core.specs.Once.{Once, IsSound, count_after, woken, quieted, with_cell, answered, EndsCall, TurnsCall, PollsCall}
use Rattle.mea_once_core.specs.declared.cell_turn.CellTurn.{CellTurn}
use Rattle.mea_once_core.specs.declared.cell_turn.CellTurn.TheVariants as cell_turn
use Rattle.mea_once_core.specs.declared.cell_stage.CellStage.{CellStage}
use Rattle.mea_once_core.specs.declared.cell_stage.CellStage.TheVariants.{New, Queued, Running, Done}
use Rattle.mea_once_core.specs.declared.init_call.InitCall.{InitCall}

module _ {W : Type 0} where
  -- the once that is left where its parts are these
  abbrev Settled : Once W → Cell (Unit {0}) W → Cell (Unit {0}) W → Counting W → List W → Type 0
  Settled o left cell' done' wakes' =
      (cell' ≡ quieted left) × (done' ≡ record { count = count_after left.value o.done; wakes = [] }) × (wakes' ≡ (o.wakes ++ woken left.value o.done) ++ left.permit.wakes)

  pub settled_is : (o : Once W) (left cell' : Cell (Unit {0}) W) (done' : Counting W) (wakes' : List W) → Settled o left cell' done' wakes' → ◌≡◌ {A = Once W} (record { cell = cell'; done = done'.count; wakes = wakes' }) (with_cell o left)
  settled_is o left cell' done' wakes' h = λ i. record { cell = h.0 i; done = (h.1 i).count; wakes = h.2 i }

  pub ends_call : (o : Once W) (stage : CellStage) (left cell' : Cell (Unit {0}) W) (done' : Counting W) (wakes' : List W) → Ends o.cell stage left → Settled o left cell' done' wakes' → EndsCall o stage (record { cell = cell'; done = done'.count; wakes = wakes' })
  ends_call o stage left cell' done' wakes' ended h = record { left = left; ends = ended; is = settled_is o left cell' done' wakes' h }

  -- a once whose cell has not changed
  ended_count : (n : ℕ) (d : Count W) → d.number ≡ n → n ≡ 0 → decreased d 1 ≡ d
  ended_count n d is none =
      let zero_left : d.number ≡ 0 = is ∙ none in
      let number : d.number - 1 ≡ d.number = omega arith in
      let over : ends d 1 ≡ false = ap (λ m. nat_lt 0 m && nat_le m 1) zero_left in
      λ i. record { number = number i; waiting = ap (λ b. cond b (drained d.waiting) d.waiting) over i }

  none_woken : (d : Count W) → d.number ≡ 0 → woken_by d 1 ≡ []
  none_woken d none = let over : ends d 1 ≡ false = ap (λ m. nat_lt 0 m && nat_le m 1) none in ap (λ b. cond b d.waiting.wakers []) over

  pub count_same : (v : Option (Unit {0})) (d : Count W) → (IsSome v → d.number ≡ 0) → count_after v d ≡ d
  count_same None d ended = refl
  count_same (Some u) d ended = ended_count 0 d (ended refl) refl

  pub woken_none : (v : Option (Unit {0})) (d : Count W) → (IsSome v → d.number ≡ 0) → woken v d ≡ []
  woken_none None d ended = refl
  woken_none (Some u) d ended = none_woken d (ended refl)

  quiet_same : (c : Cell (Unit {0}) W) → c.permit.wakes ≡ [] → quieted c ≡ c
  quiet_same c none = λ i. record { value = c.value; permit = record c.permit { wakes = sym none i } }

  pub with_own_cell : (o : Once W) → IsSound o → o ≡ with_cell o o.cell
  with_own_cell o is =
      let c : quieted o.cell ≡ o.cell = quiet_same o.cell is.quiet in
      let d : count_after o.cell.value o.done ≡ o.done = count_same o.cell.value o.done is.completed in
      let none : woken o.cell.value o.done ≡ [] = woken_none o.cell.value o.done is.completed in
      let w : (o.wakes ++ woken o.cell.value o.done) ++ o.cell.permit.wakes ≡ o.wakes =
      ap (λ ws. (o.wakes ++ ws) ++ o.cell.permit.wakes) none ∙ ap (λ ws. (o.wakes ++ []) ++ ws) is.quiet ∙ append-nil (o.wakes ++ []) ∙ append-nil o.wakes in
      λ i. record { cell = sym c i; done = sym d i; wakes = sym w i }

pub ok_no_err : {A B : Type 0} (r : Result A B) → IsOk r → is_err r ≡ true → ⊥
ok_no_err (Ok x) ok err = absurd (cc)
ok_no_err (Err y) ok err = absurd (cc)

module _ {T E W I : Type 0} (answers : I → W → Poll (Result T E) → I → Type 0) where
  -- a new call that finds no place in the queue is refused, and nothing has changed
  pub refused : (stage : CellStage) (c : Cell T W) (call : InitCall I) (w : W) (m : NoMemory) → queues_more c stage ≢ 0 → PollsStage answers stage c call w (Err (w, m)) c call
  refused New c call w m more = by_value c.value more
    where
      by_free : (b : Bool) → (c.permit.free == 0) ≡ b → (◌≢◌ {A = ℕ} (cond b 1 0) 0) → c.permit.free ≡ 0
      by_free true is h = eqb-true c.permit.free 0 is
      by_free false is h = absurd (h refl)

      by_value : (v : Option T) → (◌≢◌ {A = ℕ} (cond (is_none v && (c.permit.free == 0)) 1 0) 0)
          → MatchOption v
          ((c.permit.free ≡ 1 → ⊥)
          × (c.permit.free ≡ 0 → (w ≡ w) × (c ≡ c) × (call ≡ call)))
          (λ u. (◌≡◌ {A = Result (Poll (Result (Unit {0}) E)) (W × NoMemory)} (Err (w, m)) (Ok (Ready (Ok tt)))) × (c ≡ c) × (call ≡ record call { stage = Done }))
      by_value None h =
          let none : c.permit.free ≡ 0 = by_free (c.permit.free == 0) refl h in
          (λ one. absurd (omega arith), λ _. (refl, refl, refl))
      by_value (Some u) h = absurd (h refl)
  refused (Queued n) c call w m more = absurd (more refl)
  refused Running c call w m more = absurd (more refl)
  refused Done c call w m more = absurd (more refl)

module _ {E W I : Type 0} (answers : I → W → Poll (Result (Unit {0}) E) → I → Type 0) where
  pub polls_call : (o : Once W) (call call' : InitCall I) (w : W) (poll : Poll (Result (Unit {0}) E)) (r : Poll (Unit {0})) (left cell' : Cell (Unit {0}) W) (done' : Counting W) (wakes' : List W)
      → PollsInit answers o.cell call w (Ok poll) left call' → r ≡ answered poll → Settled o left cell' done' wakes' → PollsCall answers o call w (Ok r) (record { cell = cell'; done = done'.count; wakes = wakes' }) call'
  polls_call o call call' w poll r left cell' done' wakes' polled told h = record {
    answer = Ok poll;
    left = left;
    polls = polled;
    reply = ap (λ x. Ok x) told;
    is = settled_is o left cell' done' wakes' h;
  }

  pub refuses_call : (o o' : Once W) (call call' : InitCall I) (w : W) (e : W × NoMemory) (r : Result (Poll (Unit {0})) (W × NoMemory)) → IsSound o → PollsInit answers o.cell call w (Err e) o.cell call' → r ≡ Err e → o' ≡ o → PollsCall answers o call w r o' call'
  refuses_call o o' call call' w e r is polled told same = record {
    answer = Err e;
    left = o.cell;
    polls = polled;
    reply = told;
    is = same ∙ with_own_cell o is;
  }

-- ---- a poll for one's turn
module _ {W : Type 0} where
  -- a new call that finds no place in the queue is refused, and nothing has changed
  pub refused_turn : (stage : CellStage) (c : Cell (Unit {0}) W) (w : W) (m : NoMemory) → queues_more c stage ≢ 0 → PollsTurn stage c w (Err (w, m)) c stage
  refused_turn New c w m more = by_value c.value more
    where
      by_free : (b : Bool) → (c.permit.free == 0) ≡ b → (◌≢◌ {A = ℕ} (cond b 1 0) 0) → c.permit.free ≡ 0
      by_free true is h = eqb-true c.permit.free 0 is
      by_free false is h = absurd (h refl)

      by_value : (v : Option (Unit {0})) → (◌≢◌ {A = ℕ} (cond (is_none v && (c.permit.free == 0)) 1 0) 0)
          → MatchOption v
          ((c.permit.free ≡ 1 → (◌≡◌ {A = Result (CellTurn W) (W × NoMemory)} (Err (w, m)) (Ok (cell_turn.Mine w))) × (c ≡ record c { permit = record c.permit { free = 0 } }) × (◌≡◌ {A = CellStage} New Running))
          × (c.permit.free ≡ 0 → (w ≡ w) × (c ≡ c) × (◌≡◌ {A = CellStage} New New)))
          (λ u. (◌≡◌ {A = Result (CellTurn W) (W × NoMemory)} (Err (w, m)) (Ok cell_turn.Full)) × (c ≡ c) × (◌≡◌ {A = CellStage} New Done))
      by_value None h =
          let none : c.permit.free ≡ 0 = by_free (c.permit.free == 0) refl h in
          (λ one. absurd (omega arith), λ _. (refl, refl, refl))
      by_value (Some u) h = absurd (h refl)
  refused_turn (Queued n) c w m more = absurd (more refl)
  refused_turn Running c w m more = absurd (more refl)
  refused_turn Done c w m more = absurd (more refl)

  -- who has the turn has it still once the wakers of the cell have gone
  turn_rests : (turn : CellTurn W) (c : Cell (Unit {0}) W) (stage : CellStage) → HasTurn turn c stage → HasTurn turn (quieted c) stage
  turn_rests cell_turn.Full c stage has = has
  turn_rests (cell_turn.Mine w) c stage has = has
  turn_rests cell_turn.Pending c stage has = tt

  pub turn_settled : (turn : CellTurn W) (c c' : Cell (Unit {0}) W) (stage : CellStage) → c' ≡ quieted c → HasTurn turn c stage → HasTurn turn c' stage
  turn_settled turn c c' stage is has = subst (λ (x : Cell (Unit {0}) W). HasTurn turn x stage) (sym is) (turn_rests turn c stage has)

  pub turns_call : (o : Once W) (stage stage' : CellStage) (w : W) (turn : CellTurn W) (left cell' : Cell (Unit {0}) W) (done' : Counting W) (wakes' : List W)
      → PollsTurn stage o.cell w (Ok turn) left stage' → Settled o left cell' done' wakes' → TurnsCall o stage w (Ok turn) (record { cell = cell'; done = done'.count; wakes = wakes' }) stage'
  turns_call o stage stage' w turn left cell' done' wakes' polled h = record { left = left; polls = polled; is = settled_is o left cell' done' wakes' h }

  pub refuses_turn : (o o' : Once W) (stage stage' : CellStage) (w : W) (e : W × NoMemory) → IsSound o → PollsTurn stage o.cell w (Err e) o.cell stage' → o' ≡ o → TurnsCall o stage w (Err e) o' stage'
  refuses_turn o o' stage stage' w e is polled same = record { left = o.cell; polls = polled; is = same ∙ with_own_cell o is }
