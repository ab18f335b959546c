-- what a poll or an end of a caller of a round does to the round's cell, as it does to a cell of a hall
use Rattle.std.proofs.Common.{◌≡◌, ℕ, ◌-◌, ◌≤◌, ◌⊎◌, inl, inr, true, false, cond, [], Option, Some, None, is_some, Result, Ok, Err, refl, ap, sym, subst, ◌∙◌, arith}
use Rattle.std.specs.FinMap.{remove}
use Rattle.mea_sets.specs.Poll.{Poll, Ready, Pending}
use Rattle.mea_family.specs.declared.answer.Answer.TheVariants as answer_is
use Rattle.mea_base.specs.declared.no_memory.NoMemory.{NoMemory}
use Rattle.mea_by_name.specs.declared.named_waker.NamedWaker.{NamedWaker}
use Rattle.mea_sem_core.specs.Core.{Core, held_of}
use Rattle.mea_sem_core.specs.Calls.{with_waker}
use Rattle.mea_once_core.specs.Permit.{IsNext, MayPoll, HoldsAs, held_at, passed_on}
use Rattle.mea_once_core.specs.Cell.{Cell as CoreCell, PollsInit, PollsStage, RunsInit, Enters, Ends, settled, reply_of, stage_after, filled, given_up}
use Rattle.mea_once_core.specs.declared.init_call.InitCall.{InitCall}
use Rattle.mea_once_core.specs.declared.cell_stage.CellStage.{CellStage}
use Rattle.mea_once_core.specs.declared.cell_stage.CellStage.TheVariants.{New, Queued, Running, Done}
use Rattle.mea_once_core.specs.declared.cell_turn.CellTurn.{CellTurn}
use Rattle.mea_once_core.specs.declared.cell_turn.CellTurn.TheVariants as turns
use Rattle.mea_once_model.specs.declared.errand.Initialiser.{Initialiser}
use Rattle.mea_once_model.specs.declared.errand.Initialiser.TheVariants.{Unsettled, Gives, Fails}
use Rattle.mea_once_model.specs.declared.errand.Errand.TheVariants.{Computes}
use Rattle.mea_once_model.specs.Cells as model
use Rattle.mea_once_model.specs.Cells.{Step}
use Rattle.mea_once.specs.declared.scripted.Scripted.{Scripted}
use Rattle.mea_once.specs.declared.future_entry.FutureEntry.{FutureEntry}
use Rattle.mea_once.specs.Cores.{IsOnePermit, IsSoundCell, TurnsTo, FindsFull, FindsLate, TakesFree, TakesNext, GoesOn, LinesUp, WaitsOn, TurnsCell, FillsCell, GivesUpCell, cell_seen, answer_of}
use Rattle.mea_once.specs.KeyCores.{answers}
use Rattle.mea_once.specs.Entries.{KeptCell, finished, stopped, runs, pending, over, Ran}
use Rattle.mea_once.specs.KeyEntries.{running_in}
use Rattle.mea_once.specs.Parts as parts
use Rattle.mea_once.specs.Parts.{Stands, future_seen}
use Rattle.mea_once.proofs.Permits.{turned_one, passed_one, left_one}
use Rattle.mea_once.proofs.Turns.{free_or_taken}
use Rattle.mea_once.proofs.OneCell.{may_poll, may_end}
use Rattle.mea_once.proofs.Steps.{Makes, polls_make, ends_make}

-- a caller of a round's cell: its initialiser comes to this, and it is at this stage
abbrev pub caller_at : ℕ → Initialiser → CellStage → FutureEntry
caller_at o r t = record { cell = o; errand = Computes r; stage = t; wait = None }

-- a round's cell as one of a hall, with so many callers
abbrev pub cell_of : CoreCell ℕ NamedWaker → Option NamedWaker → ℕ → KeptCell
cell_of c r n = record { cell = cell_seen c; running = r; futures = n; alone = 0 }

abbrev pub named : ℕ → ℕ → NamedWaker
named f w = record { name = f; waker = w }

module _ (c : CoreCell ℕ NamedWaker) (run : Option NamedWaker) (count f o : ℕ) (r : Initialiser) (stage : CellStage) (s : Stands false (cell_of c run count) f (caller_at o r stage)) where
  abbrev K : KeptCell
  K = cell_of c run count

  abbrev X : FutureEntry
  X = caller_at o r stage

  sound : IsSoundCell (cell_seen c)
  sound = s.kept.sound

  quiet : c.permit.wakes ≡ []
  quiet = s.kept.quiet

  may : MayPoll c.permit stage
  may = may_poll false K s.fs s.kept.tied f X s.there

  abbrev with_permit : Core NamedWaker → CoreCell ℕ NamedWaker
  with_permit p = record c { permit = p }

  module _ (w : ℕ) (idle : runs run f ≡ false) where
    abbrev Step_is : Step
    Step_is = model.poll f w (future_seen X) (parts.cell_seen K)

    -- the cell after a poll, by what that told
    abbrev pub Polled : Poll (Result (Unit {0}) ℕ) → CoreCell ℕ NamedWaker → CellStage → Type 0
    Polled Pending c' t = (c'.value ≡ c.value) × (parts.is_polled t ≡ true) × Makes false K s.fs s.n f o 1 answer_is.Pending (Some (caller_at o r t)) Step_is (cell_of c' (running_in t run (named f w)) count)
    Polled (Ready (Ok _)) c' t = (v : ℕ) × (t ≡ Done) × (c'.value ≡ Some v) × ((c.value ≡ c'.value) ⊎ (c.value ≡ None)) × Makes false K s.fs s.n f o 1 (answer_is.Value v) None Step_is (cell_of c' run (count - 1))
    Polled (Ready (Err z)) c' t = (t ≡ Done) × (c.value ≡ None) × (c'.value ≡ None) × Makes false K s.fs s.n f o 1 (answer_is.Failure z) None Step_is (cell_of c' run (count - 1))

    turn_cell : (turn : CellTurn NamedWaker) (p : Core NamedWaker) (t : CellStage) → TurnsTo (is_some c.value) c.permit (named f w) stage turn p t → (held_at t ≡ 0) ⊎ (c.value ≡ None) → TurnsCell (cell_seen c) stage (named f w) turn (cell_seen (with_permit p)) t
    turn_cell turn p t turns_as either =
        let one = turned_one c.permit sound.permit (is_some c.value) (named f w) stage t turn p turns_as in
        record { turns = turns_as; rest = refl; held = one.1; sound = record { permit = one.0; empty = λ some. at either some one.1 } }
      where
        at : (held_at t ≡ 0) ⊎ (c.value ≡ None) → 1 ≤ held_of p → HoldsAs c.permit stage p t → c.value ≡ None
        at (inl none) some held = sound.empty (omega arith)
        at (inr empty) some held = empty

    -- who found a value is gone
    stopped_idle : (c' : CoreCell ℕ NamedWaker) → finished (stopped (cell_of c' run count) f) (Computes r) ≡ cell_of c' run (count - 1)
    stopped_idle c' = λ i. record { cell = cell_seen c'; running = cond (idle i) None run; futures = count - 1; alone = 0 }

    waits_so : (p : Core NamedWaker) (n : ℕ) → TurnsTo (is_some c.value) c.permit (named f w) stage turns.Pending p (Queued n) → Polled Pending (with_permit p) (Queued n)
    waits_so p n turns_as = (refl, refl, polls_make false K f X s refl w idle turns.Pending (cell_seen (with_permit p)) (Queued n) (turn_cell turns.Pending p (Queued n) turns_as (inl refl)) pending (cell_of (with_permit p) run count) (refl, refl))

    finds_so : (p : Core NamedWaker) (v : ℕ) → c.value ≡ Some v → TurnsTo (is_some c.value) c.permit (named f w) stage turns.Full p Done → Polled (Ready (Ok tt)) (with_permit p) Done
    finds_so p v is turns_as = (
      v,
      refl,
      is,
      inl refl,
      subst (λ e. Makes false K s.fs s.n f o 1 (answer_is.Value v) None Step_is e) (stopped_idle (with_permit p))
          (polls_make false K f X s refl w idle turns.Full (cell_seen (with_permit p)) Done (turn_cell turns.Full p Done turns_as (inl refl)) (over (answer_is.Value v)) (finished (stopped (cell_of (with_permit p) run count) f) (Computes r)) (v, is, refl, refl)),
    )

    -- it has its turn
    module _ (p : Core NamedWaker) (empty : c.value ≡ None) (turns_as : TurnsTo (is_some c.value) c.permit (named f w) stage (turns.Mine (named f w)) p Running) (rests : p.wakes ≡ []) where
      turned : TurnsCell (cell_seen c) stage (named f w) (turns.Mine (named f w)) (cell_seen (with_permit p)) Running
      turned = turn_cell (turns.Mine (named f w)) p Running turns_as (inr empty)

      has_it : 1 ≤ held_of p
      has_it = let one = turned.held in let few = its_part in omega arith
        where
          its_part : held_at stage ≤ held_of c.permit
          its_part = at stage refl may
            where
              at : (t : CellStage) → stage ≡ t → MayPoll c.permit t → held_at t ≤ held_of c.permit
              at New is may = omega arith
              at (Queued n) is may = omega arith
              at Running is may = may
              at Done is may = absurd may

      passes : IsOnePermit (passed_on p) × (held_of (passed_on p) ≡ 0)
      passes = passed_one p turned.sound.permit has_it

      pends_so : r ≡ Unsettled → Polled Pending (with_permit p) Running
      pends_so is = (
        refl,
        refl,
        polls_make false K f X s refl w idle (turns.Mine (named f w)) (cell_seen (with_permit p)) Running turned pending (cell_of (with_permit p) (Some (named f w)) count)
            (subst (λ i. Ran i (cell_of (with_permit p) run count) (named f w) (Computes r) pending (cell_of (with_permit p) (Some (named f w)) count)) (sym is) (refl, refl)),
      )

      fills : (v : ℕ) → FillsCell (cell_seen (with_permit p)) v (cell_seen (filled (with_permit p) v))
      fills v = record {
        value = refl;
        permit = ap passed_on (λ i. record p { wakes = rests i });
        waits = inr (refl, refl);
        held = passes.1;
        sound = record { permit = passes.0; empty = λ some. absurd (let none = passes.1 in omega arith) };
      }

      fills_so : (v : ℕ) → r ≡ Gives v → Polled (Ready (Ok tt)) (filled (with_permit p) v) Done
      fills_so v is = (
        v,
        refl,
        refl,
        inr empty,
        subst (λ e. Makes false K s.fs s.n f o 1 (answer_is.Value v) None Step_is e) (stopped_idle (filled (with_permit p) v))
            (polls_make false K f X s refl w idle (turns.Mine (named f w)) (cell_seen (with_permit p)) Running turned (over (answer_is.Value v)) (finished (stopped (cell_of (filled (with_permit p) v) run count) f) (Computes r))
            (subst (λ i. Ran i (cell_of (with_permit p) run count) (named f w) (Computes r) (over (answer_is.Value v)) (finished (stopped (cell_of (filled (with_permit p) v) run count) f) (Computes r))) (sym is) (cell_seen (filled (with_permit p) v), fills v, refl, refl))),
      )

      gives : GivesUpCell (cell_seen (with_permit p)) (cell_seen (given_up (with_permit p)))
      gives = record { cell = refl; held = passes.1; sound = record { permit = passes.0; empty = λ some. empty } }

      fails_so : (z : ℕ) → r ≡ Fails z → Polled (Ready (Err z)) (given_up (with_permit p)) Done
      fails_so z is = (
        refl,
        empty,
        empty,
        subst (λ e. Makes false K s.fs s.n f o 1 (answer_is.Failure z) None Step_is e) (stopped_idle (given_up (with_permit p)))
            (polls_make false K f X s refl w idle (turns.Mine (named f w)) (cell_seen (with_permit p)) Running turned (over (answer_is.Failure z)) (finished (stopped (cell_of (given_up (with_permit p)) run count) f) (Computes r))
            (subst (λ i. Ran i (cell_of (with_permit p) run count) (named f w) (Computes r) (over (answer_is.Failure z)) (finished (stopped (cell_of (given_up (with_permit p)) run count) f) (Computes r))) (sym is) (cell_seen (given_up (with_permit p)), gives, refl, refl))),
      )

      by_outcome : (i : Initialiser) → r ≡ i → Polled (reply_of (answer_of i)) (settled (answer_of i) (with_permit p)) (stage_after (answer_of i))
      by_outcome Unsettled is = pends_so is
      by_outcome (Gives v) is = fills_so v is
      by_outcome (Fails z) is = fails_so z is

      runs_so : (i : Scripted) → i.outcome ≡ r → (told : Poll (Result (Unit {0}) ℕ)) (c' : CoreCell ℕ NamedWaker) (call' : InitCall Scripted) → RunsInit answers (with_permit p) i (named f w) told c' call' → Polled told c' call'.stage × (call'.init ≡ i)
      runs_so i of_init told c' call' ran = (
        rw (ran.reply, ran.cell, ran.stage, ran.answered.0, of_init) (by_outcome r refl),
        ran.answered.1,
      )

    -- a poll, by the stage of the call
    module _ (i : Scripted) (of_init : i.outcome ≡ r) (told : Poll (Result (Unit {0}) ℕ)) (c' : CoreCell ℕ NamedWaker) (call' : InitCall Scripted) where
      abbrev Result_is : Type 0
      Result_is = Polled told c' call'.stage × (call'.init ≡ i)

      as_polled : (t : Poll (Result (Unit {0}) ℕ)) (d : CoreCell ℕ NamedWaker) (call : InitCall Scripted) → (let r : Result (Poll (Result (Unit {0}) ℕ)) (NamedWaker × NoMemory) = Ok told in r ≡ Ok t) → c' ≡ d → call' ≡ call → Polled t d call.stage → call.init ≡ i → Result_is
      as_polled t d call same cell calls polled init = let told_is : told ≡ t = cc in rw (told_is, cell, calls) (polled, init)

      new_so : stage ≡ New → (v : Option ℕ) → c.value ≡ v → PollsStage answers New (record { value = v; permit = c.permit }) (record { init = i; stage = stage }) (named f w) (Ok told) c' call' → Result_is
      new_so is None none polls = elim (free_or_taken c.permit sound.permit) as (λ x. Result_is) [
        | inl one ↦ runs_so (record c.permit { free = 0 }) none (rw (is, none) (TakesFree refl one)) quiet i of_init told c' call' (subst (λ v. RunsInit answers (record { value = v; permit = record c.permit { free = 0 } }) i (named f w) told c' call') (sym none) (polls.0 one))
        | inr taken ↦ let h = polls.1 taken in
            let cell : c' ≡ with_permit c'.permit = λ j. record { value = (h.1.2 ∙ sym none) j; permit = c'.permit } in
            rw (h.0, cell, h.1.3) (waits_so c'.permit h.1.0 (rw (is, none) (LinesUp h.1.0 c'.permit refl taken h.1.1)), refl)
      ]
      new_so is (Some v) some polls = as_polled (Ready (Ok tt)) c (record { init = i; stage = Done }) polls.0 (polls.1 ∙ (λ j. record { value = sym some j; permit = c.permit })) polls.2 (finds_so c.permit v some (rw (is, some) (FindsFull refl))) refl

      abbrev granted : ℕ → Core NamedWaker
      granted n = record c.permit { granted = remove c.permit.granted n }

      next_so : (n : ℕ) → stage ≡ Queued n → IsNext c.permit n → (v : Option ℕ) → c.value ≡ v → Enters answers (record { value = v; permit = granted n }) i (named f w) told c' call' → Result_is
      next_so n is next None none enters = runs_so (granted n) none (rw (is, none) (TakesNext n next refl)) quiet i of_init told c' call' (subst (λ v. RunsInit answers (record { value = v; permit = granted n }) i (named f w) told c' call') (sym none) enters)
      next_so n is next (Some v) some enters = rw (enters.0, enters.1, enters.2)
          (subst (λ u. Polled (Ready (Ok tt)) (record { value = u; permit = passed_on (granted n) }) Done) some (finds_so (passed_on (granted n)) v some (rw (is, some) (FindsLate n next refl))), refl)

      queued_so : (n : ℕ) → stage ≡ Queued n → MayPoll c.permit (Queued n) → PollsStage answers (Queued n) c (record { init = i; stage = stage }) (named f w) (Ok told) c' call' → Result_is
      queued_so n is (inl next) polls = next_so n is next c.value refl (polls.0 next)
      queued_so n is (inr waits) polls =
          let h = polls.1 waits in
          as_polled Pending (with_permit (record c.permit { queue = with_waker c.permit.queue n (named f w) })) (record { init = i; stage = Queued n }) h.0 h.1 (h.2 ∙ (λ j. record { init = i; stage = is j }))
          (waits_so (record c.permit { queue = with_waker c.permit.queue n (named f w) }) n (rw is (WaitsOn n waits))) refl

      at_stage : (t : CellStage) → stage ≡ t → MayPoll c.permit t → PollsStage answers t c (record { init = i; stage = stage }) (named f w) (Ok told) c' call' → Result_is
      at_stage New is may_be polls = new_so is c.value refl polls
      at_stage (Queued n) is may_be polls = queued_so n is may_be polls
      at_stage Running is may_be polls =
          let empty : c.value ≡ None = sound.empty may_be in
          runs_so c.permit empty (rw (is, empty) (GoesOn refl)) quiet i of_init told c' call' polls
      at_stage Done is may_be polls = absurd may_be

      pub polled_cell : PollsInit answers c (record { init = i; stage = stage }) (named f w) (Ok told) c' call' → Result_is
      polled_cell polls = at_stage stage refl may polls

  -- ---- an end
  pub ended_cell : (c' : CoreCell ℕ NamedWaker) → Ends c stage c' → (c'.value ≡ c.value) × Makes false K s.fs s.n f o 0 answer_is.Done None (model.end f (future_seen X) (parts.cell_seen K)) (finished (stopped (cell_of c' run count) f) (Computes r))
  ended_cell c' ends =
      let left = left_one c.permit sound.permit stage c'.permit (may_end false K s.fs s.kept.tied f X s.there) ends.0 in (
        ends.1,
        ends_make false K f X s (cell_seen c') (record {
          leaves = ends.0;
          rest = λ i. record { value = ends.1 i; permit = c'.permit; waits = record { wakers = []; drains = 0 } };
          held = left.1;
          sound = record { permit = left.0; empty = λ some. ends.1 ∙ sound.empty (let all = left.1 in omega arith) };
        }),
      )
