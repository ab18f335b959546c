-- what is said of the things of one kind, and of all
use Rattle.std.proofs.Common.{◌≡◌, ℕ, ◌+◌, ◌++◌, Bool, Option, Result, Ok, Err, refl, ap, sym, subst, ◌∙◌, arith, append-nil}
use Rattle.mea_family.specs.declared.answer.Answer.{Answer}
use Rattle.mea_family.specs.declared.stop.Stop.{Stop}
use Rattle.mea_family.specs.Acts.{Acts, ActsQuietly}
use Rattle.mea_family.specs.Family.{Outcome}
use Rattle.mea_base.specs.Ready.{Waking}
use Rattle.mea_family.specs.Play.{Part, PartYields}
use Rattle.mea_events.specs.declared.once_event.OnceEvent.{OnceEvent}
use Rattle.mea_once_model.specs.Cells as cells
use Rattle.mea_once_model.specs.Cells.{Cells}
use Rattle.mea_once_model.specs.Tables as tables
use Rattle.mea_once_model.specs.Tables.{Tables}
use Rattle.mea_once_model.specs.Actions.{Action, cause_in, act_in}
use Rattle.mea_once_model.specs.KeyActions.{KeyAction, key_cause, key_act}
use Rattle.mea_once_model.specs.OnceHall.{OnceHall, Kind, Onces, OnceCells, TableKind, Maps, Groups, registered, is_once}
use Rattle.mea_once_model.specs.Meaning.{Meaning, OfCells, OfTables, meaning_of, step, step_by}
use Rattle.mea_once.specs.Halls.{Parts, hall_of, of_kind, with_kind, of_table_kind, with_table_kind, PlaysCells, PlaysTables, PlaysBy, IsFree, IsKeyFree}
use Rattle.mea_once.specs.Acts.{CellActs, CellActsQuietly, KeyActs, KeyActsQuietly, ActsBy}

-- what makes no waker ready leaves those that are ready as they were
quietly : {H : Type 0} (registered : H → ℕ) (cause : Option Stop) (free : Type 0) (old : Part H) (i : ℕ) (o : Outcome H) (r : Result Answer Stop) (new : Part H) (w : Waking ℕ) → ActsQuietly registered cause free old i o r new → Acts registered cause free old i o r new w w
quietly registered cause free old i o (Ok answer) new w (none, rests) = (
  none,
  record {
    replied = rests.replied;
    moved = rests.moved;
    woken = sym (append-nil w.wakers) ∙ ap (λ ws. w.wakers ++ ws) (sym rests.silent);
    counted = omega (arith, rests.counted);
  },
)
quietly registered cause free old i o (Err stop) new w (refuses, same) = (refuses, same, refl)

pub cells_rest : (old : Part Cells) (i : ℕ) (a : Action) (r : Result Answer Stop) (new : Part Cells) (w : Waking ℕ) → CellActsQuietly old i a r new → CellActs old i a r new w w
cells_rest old i a r new w = quietly cells.registered (cause_in old.hall a) (IsFree a) old i (act_in old.hall i a) r new w

pub tables_rest : (once : Bool) (old : Part Tables) (i : ℕ) (a : KeyAction) (r : Result Answer Stop) (new : Part Tables) (w : Waking ℕ) → KeyActsQuietly once old i a r new → KeyActs once old i a r new w w
tables_rest once old i a r new w = quietly tables.registered (key_cause old.hall a) (IsKeyFree a) old i (key_act once old.hall i a) r new w

module _ (p p' : Parts) (before after : Waking ℕ) (next i : ℕ) (answer : Answer) where
  -- the registered wakers are counted, where an event leaves this
  abbrev Counted : Parts → Type 0
  Counted q = after.registered + registered (hall_of p) ≡ before.registered + registered (hall_of q)

  cells_counted : (k : Kind) (a : Action) → PlaysCells p k i a answer p' before after → Counted p'
  cells_counted Onces a one =
      let hall : cells.registered one.part.hall ≡ cells.registered (act_in p.onces.hall i a).hall = ap (λ (q : Part Cells). cells.registered q.hall) one.yields.moved in
      subst Counted (sym one.is) (omega (arith, hall, one.yields.counted))
  cells_counted OnceCells a one =
      let hall : cells.registered one.part.hall ≡ cells.registered (act_in p.cells.hall i a).hall = ap (λ (q : Part Cells). cells.registered q.hall) one.yields.moved in
      subst Counted (sym one.is) (omega (arith, hall, one.yields.counted))

  tables_counted : (k : TableKind) (a : KeyAction) → PlaysTables p k i a answer p' before after → Counted p'
  tables_counted Maps a one =
      let hall = ap (λ (q : Part Tables). tables.registered q.hall) one.yields.moved in
      subst Counted (sym one.is) (omega (arith, hall, one.yields.counted))
  tables_counted Groups a one =
      let hall = ap (λ (q : Part Tables). tables.registered q.hall) one.yields.moved in
      subst Counted (sym one.is) (omega (arith, hall, one.yields.counted))

  abbrev Yielding : Outcome OnceHall → Type 0
  Yielding o = PartYields registered (record { hall = hall_of p; next = next }) i o answer (record { hall = hall_of p'; next = i + 1 }) before after

  -- the same hall in other words: what it replied, what it left, and the wakers that it made ready
  yielding : {o : Outcome OnceHall} → answer ≡ o.reply → hall_of p' ≡ o.hall → after.wakers ≡ before.wakers ++ o.wakes → Counted p' → Yielding o
  yielding replied hall woken counted = record { replied = replied; moved = ap (λ h. record { hall = h; next = i + 1 }) hall; woken = woken; counted = counted ∙ ap (λ h. before.registered + registered h) hall }

  cells_yield : (k : Kind) (a : Action) → PlaysCells p k i a answer p' before after → Yielding (step_by (hall_of p) i (OfCells (record { kind = k; action = a })))
  cells_yield Onces a one = yielding one.yields.replied (ap hall_of one.is ∙ (λ j. hall_of (record p { onces = one.yields.moved j }))) one.yields.woken (cells_counted Onces a one)
  cells_yield OnceCells a one = yielding one.yields.replied (ap hall_of one.is ∙ (λ j. hall_of (record p { cells = one.yields.moved j }))) one.yields.woken (cells_counted OnceCells a one)

  tables_yield : (k : TableKind) (a : KeyAction) → PlaysTables p k i a answer p' before after → Yielding (step_by (hall_of p) i (OfTables (record { kind = k; action = a })))
  tables_yield Maps a one = yielding one.yields.replied (ap hall_of one.is ∙ (λ j. hall_of (record p { maps = one.yields.moved j }))) one.yields.woken (tables_counted Maps a one)
  tables_yield Groups a one = yielding one.yields.replied (ap hall_of one.is ∙ (λ j. hall_of (record p { groups = one.yields.moved j }))) one.yields.woken (tables_counted Groups a one)

  yields_by : (m : Meaning) → PlaysBy m p i answer p' before after → Yielding (step_by (hall_of p) i m)
  yields_by (OfCells d) one = cells_yield d.kind d.action one
  yields_by (OfTables d) one = tables_yield d.kind d.action one

  -- what was played on the parts was played on the hall
  pub yields_all : (e : OnceEvent) (m : Meaning) → m ≡ meaning_of e → PlaysBy m p i answer p' before after → Yielding (step (hall_of p) i e)
  yields_all e m is plays = subst (λ d. Yielding (step_by (hall_of p) i d)) is (yields_by m plays)

-- ---- what means an action on one kind was asked where the action was asked of that kind
module _ (p : Parts) (i : ℕ) (d : Meaning) where
  pub cells_act : (k : Kind) (a : Action) (r : Result Answer Stop) (q : Part Cells) (before after : Waking ℕ) → d ≡ OfCells (record { kind = k; action = a }) → CellActs (of_kind p k) i a r q before after → ActsBy d p i r (with_kind p k q) before after
  cells_act k a r q before after is did = subst (λ d. ActsBy d p i r (with_kind p k q) before after) (sym is) (at k r did)
    where
      at : (k : Kind) (r : Result Answer Stop) → CellActs (of_kind p k) i a r q before after → ActsBy (OfCells (record { kind = k; action = a })) p i r (with_kind p k q) before after
      at Onces (Ok answer) did = (did.0, record { part = q; is = refl; yields = did.1 })
      at Onces (Err stop) did = (did.0, ap (with_kind p Onces) did.1, did.2)
      at OnceCells (Ok answer) did = (did.0, record { part = q; is = refl; yields = did.1 })
      at OnceCells (Err stop) did = (did.0, ap (with_kind p OnceCells) did.1, did.2)

  pub tables_act : (k : TableKind) (a : KeyAction) (r : Result Answer Stop) (q : Part Tables) (before after : Waking ℕ) → d ≡ OfTables (record { kind = k; action = a }) → KeyActs (is_once k) (of_table_kind p k) i a r q before after → ActsBy d p i r (with_table_kind p k q) before after
  tables_act k a r q before after is did = subst (λ d. ActsBy d p i r (with_table_kind p k q) before after) (sym is) (at k r did)
    where
      at : (k : TableKind) (r : Result Answer Stop) → KeyActs (is_once k) (of_table_kind p k) i a r q before after → ActsBy (OfTables (record { kind = k; action = a })) p i r (with_table_kind p k q) before after
      at Maps (Ok answer) did = (did.0, record { part = q; is = refl; yields = did.1 })
      at Maps (Err stop) did = (did.0, ap (with_table_kind p Maps) did.1, did.2)
      at Groups (Ok answer) did = (did.0, record { part = q; is = refl; yields = did.1 })
      at Groups (Err stop) did = (did.0, ap (with_table_kind p Groups) did.1, did.2)
