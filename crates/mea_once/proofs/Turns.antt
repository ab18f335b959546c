-- what a poll for its turn does, by what it told; and cores whose wakers have gone elsewhere
use Rattle.std.proofs.Common.{◌≡◌, ℕ, ◌⊎◌, inl, inr, ◌++◌, Bool, true, false, List, [], Option, Some, None, is_some, Result, Ok, Err, refl, ap, sym, subst, ◌∙◌, arith}
use Rattle.std.specs.Option.{option_map}
use Rattle.std.proofs.lemmas.Bool.{cases_lt}
use Rattle.mea_base.proofs.NamedMaps.{is_some-map}
use Rattle.mea_by_name.specs.declared.named_waker.NamedWaker.{NamedWaker}
use Rattle.mea_sem_core.specs.Core.{Core}
use Rattle.mea_sets.specs.Countdown.{Count}
use Rattle.mea_sets.specs.Poll.{Ready}
use Rattle.mea_once_core.specs.Permit.{IsPermit, MayPoll, HoldsAs}
use Rattle.mea_once_core.specs.Cell as cells
use Rattle.mea_once_core.specs.Cell.{Cell, PollsTurn}
use Rattle.mea_once_core.specs.Once as onces
use Rattle.mea_once_core.specs.Once.{Once, TurnsCall, with_cell, count_after, woken}
use Rattle.mea_once_core.specs.declared.cell_stage.CellStage.{CellStage}
use Rattle.mea_once_core.specs.declared.cell_stage.CellStage.TheVariants.{New, Queued, Running, Done}
use Rattle.mea_once_core.specs.declared.cell_turn.CellTurn.{CellTurn}
use Rattle.mea_once_core.specs.declared.cell_turn.CellTurn.TheVariants as turns
use Rattle.mea_once_core.proofs.Onces.{count_same, woken_none}
use Rattle.mea_once_model.specs.declared.errand.Initialiser.{Initialiser}
use Rattle.mea_once_model.specs.declared.errand.Initialiser.TheVariants.{Unsettled, Gives, Fails}
use Rattle.mea_once.specs.Cores.{TurnsTo, FindsFull, FindsLate, TakesFree, TakesNext, GoesOn, LinesUp, WaitsOn, TurnsCell, IsOnePermit, cell_seen, once_seen, answer_of}

-- ---- what a scripted initialiser answered
pub gives_by : (r : Initialiser) (a : Result ℕ ℕ) (v : ℕ) → Ready a ≡ answer_of r → a ≡ Ok v → r ≡ Gives v
gives_by Unsettled a v told it = absurd (cc)
gives_by (Gives u) a v told it = let same : u ≡ v = cc in ap (λ v. Gives v) same
gives_by (Fails e) a v told it = absurd (let other : Err e ≡ a = cc in cc)

pub fails_by : (r : Initialiser) (a : Result ℕ ℕ) (e : ℕ) → Ready a ≡ answer_of r → a ≡ Err e → r ≡ Fails e
fails_by Unsettled a e told it = absurd (cc)
fails_by (Gives u) a e told it = absurd (let other : Ok u ≡ a = cc in cc)
fails_by (Fails x) a e told it = let same : x ≡ e = cc in ap (λ v. Fails v) same

pub as_one : (s : Core NamedWaker) → IsPermit s → IsOnePermit s
as_one s is = record { one = is.one; asks = is.asks; apart = is.sound.apart; granted_apart = is.sound.granted_apart; total = is.sound.total }

-- ---- a permit that is kept so is free or taken
pub free_or_taken : (s : Core NamedWaker) → IsOnePermit s → (s.free ≡ 1) ⊎ (s.free ≡ 0)
free_or_taken s is = elim (cases_lt s.free 1) as (λ x. (s.free ≡ 1) ⊎ (s.free ≡ 0)) [
  | inl less ↦ inr (omega arith)
  | inr more ↦ inl (omega (arith, is.total, is.one))
]

as_turned : (full : Bool) (s : Core NamedWaker) (w : NamedWaker) (stage : CellStage) (turn t : CellTurn NamedWaker) (q p : Core NamedWaker) (after a : CellStage) → TurnsTo full s w stage t p a → turn ≡ t → q ≡ p → after ≡ a → TurnsTo full s w stage turn q after
as_turned full s w stage turn t q p after a is same left at = rw (same, left, at) is

module _ {T : Type 0} where
  abbrev TurnsWith : Option T → Core NamedWaker → NamedWaker → CellStage → CellTurn NamedWaker → Cell T NamedWaker → CellStage → Type 0
  TurnsWith v s w stage turn c' after = TurnsTo (is_some v) s w stage turn c'.permit after × (c'.value ≡ v)

  new_to : (v : Option T) (s : Core NamedWaker) (c' : Cell T NamedWaker) (w : NamedWaker) (turn : CellTurn NamedWaker) (after : CellStage) → IsPermit s → PollsTurn New (record { value = v; permit = s }) w (Ok turn) c' after → TurnsWith v s w New turn c' after
  new_to None s c' w turn after is polls = elim (free_or_taken s (as_one s is)) as (λ x. TurnsWith None s w New turn c' after) [
    | inl one ↦
        let h = polls.0 one in
        let told : turn ≡ turns.Mine w = let same = h.0 in cc in
        (as_turned false s w New turn _ c'.permit _ after Running (TakesFree refl one) told (ap (λ (c : Cell T NamedWaker). c.permit) h.1) h.2, ap (λ (c : Cell T NamedWaker). c.value) h.1)
    | inr none ↦
        let h = polls.1 none in
        (as_turned false s w New turn _ c'.permit c'.permit after (Queued h.1.0) (LinesUp h.1.0 c'.permit refl none h.1.1) h.0 refl h.1.3, h.1.2)
  ]
  new_to (Some v) s c' w turn after is polls =
      let told : turn ≡ turns.Full = let same = polls.0 in cc in
      (as_turned true s w New turn _ c'.permit _ after Done (FindsFull refl) told (ap (λ (c : Cell T NamedWaker). c.permit) polls.1) polls.2, ap (λ (c : Cell T NamedWaker). c.value) polls.1)

  queued_to : (v : Option T) (s : Core NamedWaker) (n : ℕ) (c' : Cell T NamedWaker) (w : NamedWaker) (turn : CellTurn NamedWaker) (after : CellStage) → MayPoll s (Queued n)
      → PollsTurn (Queued n) (record { value = v; permit = s }) w (Ok turn) c' after → TurnsWith v s w (Queued n) turn c' after
  queued_to None s n c' w turn after (inl next) polls =
      let h = polls.0 next in
      let told : turn ≡ turns.Mine w = let same = h.0 in cc in
      (as_turned false s w (Queued n) turn _ c'.permit _ after Running (TakesNext n next refl) told (ap (λ (c : Cell T NamedWaker). c.permit) h.1) h.2, ap (λ (c : Cell T NamedWaker). c.value) h.1)
  queued_to (Some v) s n c' w turn after (inl next) polls =
      let h = polls.0 next in
      let told : turn ≡ turns.Full = let same = h.0 in cc in
      (as_turned true s w (Queued n) turn _ c'.permit _ after Done (FindsLate n next refl) told (ap (λ (c : Cell T NamedWaker). c.permit) h.1) h.2, ap (λ (c : Cell T NamedWaker). c.value) h.1)
  queued_to v s n c' w turn after (inr waits) polls =
      let h = polls.1 waits in
      let told : turn ≡ turns.Pending = let same = h.0 in cc in
      (as_turned (is_some v) s w (Queued n) turn _ c'.permit _ after (Queued n) (WaitsOn n waits) told (ap (λ (c : Cell T NamedWaker). c.permit) h.1) h.2, ap (λ (c : Cell T NamedWaker). c.value) h.1)

  pub turns_to : (stage : CellStage) (c c' : Cell T NamedWaker) (w : NamedWaker) (turn : CellTurn NamedWaker) (after : CellStage) → cells.IsSound c → MayPoll c.permit stage → PollsTurn stage c w (Ok turn) c' after → TurnsWith c.value c.permit w stage turn c' after
  turns_to New c c' w turn after sound may polls = new_to c.value c.permit c' w turn after sound.permit polls
  turns_to (Queued n) c c' w turn after sound may polls = queued_to c.value c.permit n c' w turn after may polls
  turns_to Running c c' w turn after sound may polls =
      let told : turn ≡ turns.Mine w = let same = polls.0 in cc in
      let empty : is_some c.value ≡ false = ap is_some (sound.empty may) in
      (as_turned (is_some c.value) c.permit w Running turn _ c'.permit _ after Running (GoesOn empty) told (ap (λ (c : Cell T NamedWaker). c.permit) polls.1) polls.2, ap (λ (c : Cell T NamedWaker). c.value) polls.1)
  turns_to Done c c' w turn after sound may polls = absurd may

-- ---- other wakers are ready, or none
pub permit_with : (s : Core NamedWaker) (ws : List NamedWaker) → IsOnePermit s → IsOnePermit (record s { wakes = ws })
permit_with s ws is = record { one = is.one; asks = is.asks; apart = is.apart; granted_apart = is.granted_apart; total = is.total }

pub cells_turn : (stage after : CellStage) (c c' : Cell ℕ NamedWaker) (w : NamedWaker) (turn : CellTurn NamedWaker) → cells.IsSound c → cells.IsSound c' → MayPoll c.permit stage → PollsTurn stage c w (Ok turn) c' after → HoldsAs c.permit stage c'.permit after
    → TurnsCell (cell_seen c) stage w turn (cell_seen c') after
cells_turn stage after c c' w turn sound sound' may polls held =
    let told = turns_to stage c c' w turn after sound may polls in
    record { turns = told.0; rest = λ i. record { value = told.1 i; permit = c'.permit; waits = record { wakers = []; drains = 0 } }; held = held; sound = record { permit = as_one c'.permit sound'.permit; empty = sound'.empty } }

module _ (o o' : Once NamedWaker) (sound : onces.IsSound o) (quiet : o.wakes ≡ []) where
  -- what it is seen as
  seen_permit : record o.cell.permit { wakes = o.wakes } ≡ o.cell.permit
  seen_permit = λ i. record o.cell.permit { wakes = (quiet ∙ sym sound.quiet) i }

  module _ (left : Cell (Unit {0}) NamedWaker) (is : o' ≡ with_cell o left) (same : left.value ≡ o.cell.value) where
    counted : count_after left.value o.done ≡ o.done
    counted = ap (λ v. count_after v o.done) same ∙ count_same o.cell.value o.done sound.completed

    nobody : woken left.value o.done ≡ []
    nobody = ap (λ v. woken v o.done) same ∙ woken_none o.cell.value o.done sound.completed

    pub left_permit : record o'.cell.permit { wakes = o'.wakes } ≡ left.permit
    left_permit = (λ i. record (is i).cell.permit { wakes = (is i).wakes })
        ∙ (λ i. record left.permit { wakes = (ap (λ ws. (ws ++ woken left.value o.done) ++ left.permit.wakes) quiet ∙ ap (λ ws. ws ++ left.permit.wakes) nobody) i })

    pub left_seen : once_seen o' ≡ record (once_seen o) { permit = (once_seen o').permit }
    left_seen = λ i. record {
      value = (ap (λ (o : Once NamedWaker). option_map (λ _. 0) o.cell.value) is ∙ ap (option_map (λ _. 0)) same) i;
      permit = (once_seen o').permit;
      waits = (ap (λ (o : Once NamedWaker). o.done.waiting) is ∙ ap (λ (c : Count NamedWaker). c.waiting) counted) i;
    }

  pub once_turn : (stage after : CellStage) (w : NamedWaker) (turn : CellTurn NamedWaker) → onces.IsSound o' → MayPoll (record o.cell.permit { wakes = o.wakes }) stage → TurnsCall o stage w (Ok turn) o' after → HoldsAs o.cell.permit stage o'.cell.permit after
      → TurnsCell (once_seen o) stage w turn (once_seen o') after
  once_turn stage after w turn sound' may turned held =
      let told = turns_to stage o.cell turned.left w turn after sound.cell (subst (λ s. MayPoll s stage) seen_permit may) turned.polls in
      record {
        turns = rw (is_some-map {X = Unit {0}} {Y = ℕ} (λ _. 0) o.cell.value, seen_permit, left_permit turned.left turned.is told.1) told.0;
        rest = left_seen turned.left turned.is told.1;
        held = held;
        sound = record {
          permit = permit_with o'.cell.permit o'.wakes (as_one o'.cell.permit sound'.cell.permit);
          empty = λ some. ap (option_map (λ _. 0)) (sound'.cell.empty some);
        };
      }
