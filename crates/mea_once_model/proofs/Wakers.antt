-- the laws of the family
use Rattle.std.proofs.Common.{◌≡◌, ℕ, ◌+◌, ◌<◌, ◌≤◌, ◌⊎◌, inl, Bool, true, false, cond, length, Some, None, sym, subst, arith}
use Rattle.std.specs.List.{Contains}
use Rattle.std.specs.FinMap.{get}
use Rattle.mea_family.specs.declared.answer.Answer.TheVariants as answers
use Rattle.mea_family.specs.Family.{Outcome, IsRun, Starts, Goes, RunOf, KeepsWakers, NamesFutures, LosesNoWake}
use Rattle.mea_base.proofs.Maps.{value_in}
use Rattle.mea_base.proofs.Totals.{total-empty}
use Rattle.mea_family.proofs.Wakes.{loses_no_wake}
use Rattle.mea_by_name.specs.NamedQueue as named_queue
use Rattle.mea_by_name.proofs.OneObject.{goes_counted}
use Rattle.mea_by_name.proofs.Own.{seen-at}
use Rattle.mea_events.specs.declared.once_event.OnceEvent.{OnceEvent}
use Rattle.mea_once_model.specs.Cells as cells
use Rattle.mea_once_model.specs.Cells.{Cell, waiting_at, is_future}
use Rattle.mea_once_model.specs.Tables as tables
use Rattle.mea_once_model.specs.Tables.{Table}
use Rattle.mea_once_model.specs.Actions.{Action, act_in, registers_in, polled_in, ends_in}
use Rattle.mea_once_model.specs.KeyActions.{KeyAction, key_act, key_registers, key_polled, key_ends}
use Rattle.mea_once_model.specs.OnceHall.{OnceHall, Kind, Onces, OnceCells, TableKind, Maps, Groups, empty_hall, part, tables_of, is_once, registered}
use Rattle.mea_once_model.specs.Meaning.{Doing, KeyDoing, Meaning, OfCells, OfTables, meaning_of, cause_by, step_by, step, registers_by, registers}
use Rattle.mea_once_model.specs.OnceFamily.{Future, AtCell, ByKey, onces_family, polled_by, ends_by, name, lives, placed}
use Rattle.mea_once_model.proofs.Acting.{keys, owner, goes}
use Rattle.mea_once_model.proofs.CellWakers as cell
use Rattle.mea_once_model.proofs.CellWakers.{Low, at_cell}
use Rattle.mea_once_model.proofs.TableActing as table_acting
use Rattle.mea_once_model.proofs.TableWakers.{LowTables}
use Rattle.mea_once_model.proofs.TableLaws as table
use Rattle.mea_once_model.specs.KeyValid.{AreValid}
use Rattle.mea_once_model.specs.KeyValues.{value_at, takes_away}
use Rattle.mea_once_model.proofs.KeyValues.{value_stays}
use Rattle.mea_once_model.proofs.KeyValidity.{valid_after, nothing_valid}
use Rattle.mea_once_model.proofs.TwoKinds.{cell_kinds, table_kinds, tables_stay, cells_stay, by_kind, after_it, polled_kind, ended_kind, of_mine}

-- names stay below the next number
record Lows (h : OnceHall) (n : ℕ) : Type 0 where
  cells : (k : Kind) → Low (part h k) n
  tables : (k : TableKind) → LowTables (tables_of h k) n

places : (h : OnceHall) (i w : ℕ) (m : Meaning) (f : Future) → polled_by m f ≡ Some w → (step_by h i m).reply ≡ answers.Pending → placed (step_by h i m).hall f ≡ Some w
places h i w (OfCells d) (AtCell k f) polls pending =
    let is = polled_kind cell_kinds d.kind k (polled_in d.action f) w polls in
    after_it cell_kinds h d.kind k (act_in (part h d.kind) i d.action).hall (λ p. cells.placed p f ≡ Some w) is.0 (cell.cell_places (part h d.kind) i f w d.action is.1 pending)
places h i w (OfTables d) (ByKey k f) polls pending =
    let is = polled_kind table_kinds d.kind k (key_polled d.action f) w polls in
    after_it table_kinds h d.kind k (key_act (is_once d.kind) (tables_of h d.kind) i d.action).hall (λ p. tables.placed p f ≡ Some w) is.0 (table.key_places (is_once d.kind) (tables_of h d.kind) i f w d.action is.1 pending)
places h i w _ _ polls pending = absurd (cc)

waits_for : (h : OnceHall) (i w v : ℕ) (m : Meaning) (f : Future) → placed h f ≡ Some w → polled_by m f ≡ Some v → (step_by h i m).reply ≡ answers.Pending
waits_for h i w v (OfCells d) (AtCell k f) is polls =
    let of_it = polled_kind cell_kinds d.kind k (polled_in d.action f) v polls in
    cell.cell_waits (part h d.kind) i f w v d.action (subst (λ j. cells.placed (part h j) f ≡ Some w) (sym of_it.0) is) of_it.1
waits_for h i w v (OfTables d) (ByKey k f) is polls =
    let of_it = polled_kind table_kinds d.kind k (key_polled d.action f) v polls in
    table.key_waits (is_once d.kind) (tables_of h d.kind) i f w v d.action (subst (λ j. tables.placed (tables_of h j) f ≡ Some w) (sym of_it.0) is) of_it.1
waits_for h i w v _ _ is polls = absurd (cc)

goes_away : (h : OnceHall) (n i : ℕ) (m : Meaning) (f : Future) → Lows h n → n ≤ i → cause_by h m ≡ None → ends_by m f ≡ true → lives (step_by h i m).hall f ≡ false
goes_away h n i (OfCells d) (AtCell k f) lows later allowed ends =
    let is = ended_kind cell_kinds d.kind k (ends_in d.action f) ends in
    after_it cell_kinds h d.kind k (act_in (part h d.kind) i d.action).hall (λ p. is_future p f ≡ false) is.0 (cell.ended_in (part h d.kind) i d.action f is.1)
goes_away h n i (OfTables d) (ByKey k f) lows later allowed ends =
    let is = ended_kind table_kinds d.kind k (key_ends d.action f) ends in
    after_it table_kinds h d.kind k (key_act (is_once d.kind) (tables_of h d.kind) i d.action).hall (λ p. tables.is_future p f ≡ false) is.0
    (table.ended_in (tables_of h d.kind) n i (lows.tables d.kind) later (is_once d.kind) d.action allowed f is.1)
goes_away h n i _ _ lows later allowed ends = absurd (cc)

lives_polled : (h : OnceHall) (w : ℕ) (m : Meaning) (f : Future) → polled_by m f ≡ Some w → cause_by h m ≡ None → lives h f ≡ true
lives_polled h w (OfCells d) (AtCell k f) polls allowed =
    let is = polled_kind cell_kinds d.kind k (polled_in d.action f) w polls in
    subst (λ j. is_future (part h j) f ≡ true) is.0 (cell.lives_if_polled (part h d.kind) d.action f w is.1 allowed)
lives_polled h w (OfTables d) (ByKey k f) polls allowed =
    let is = polled_kind table_kinds d.kind k (key_polled d.action f) w polls in
    subst (λ j. tables.is_future (tables_of h j) f ≡ true) is.0 (table.key_lives (tables_of h d.kind) d.action f w is.1 allowed)
lives_polled h w _ _ polls allowed = absurd (cc)

-- ---- an event of one kind
module _ (h : OnceHall) (n i : ℕ) (lows : Lows h n) (later : n ≤ i) where
  abbrev cells_after : Doing → Outcome cells.Cells
  cells_after d = act_in (part h d.kind) i d.action

  abbrev tables_after : KeyDoing → Outcome tables.Tables
  tables_after d = key_act (is_once d.kind) (tables_of h d.kind) i d.action

  lows_after : (m : Meaning) → cause_by h m ≡ None → Lows (step_by h i m).hall (i + 1)
  lows_after (OfCells d) allowed = record {
    cells = by_kind cell_kinds h d.kind (cells_after d).hall (λ k p. Low p (i + 1)) (cell.low_after (part h d.kind) n i (lows.cells d.kind) later d.action allowed)
        (λ k other. cell.low_later (part h k) n i (lows.cells k) later);
    tables = λ k. rw (tables_stay h d.kind k (cells_after d).hall) (table.low_later (tables_of h k) n i (lows.tables k) later);
  }
  lows_after (OfTables d) allowed = record {
    cells = λ k. rw (cells_stay h d.kind k (tables_after d).hall) (cell.low_later (part h k) n i (lows.cells k) later);
    tables = by_kind table_kinds h d.kind (tables_after d).hall (λ k p. LowTables p (i + 1)) (table.low_after (tables_of h d.kind) n i (lows.tables d.kind) later (is_once d.kind) d.action allowed)
        (λ k other. table.low_later (tables_of h k) n i (lows.tables k) later);
  }

  kept : (w : ℕ) (m : Meaning) → cause_by h m ≡ None → (f : Future) → placed h f ≡ Some w → polled_by m f ≡ None → ends_by m f ≡ false → (placed (step_by h i m).hall f ≡ Some w) ⊎ Contains (step_by h i m).wakes w
  kept w (OfCells d) allowed (AtCell k f) = by_kind cell_kinds h d.kind (cells_after d).hall
      (λ k p. cells.placed (part h k) f ≡ Some w → polled_by (OfCells d) (AtCell k f) ≡ None → ends_by (OfCells d) (AtCell k f) ≡ false → (cells.placed p f ≡ Some w) ⊎ Contains (cells_after d).wakes w)
      (λ is quiet lasts. cell.kept_in (part h d.kind) n i (lows.cells d.kind) later d.action allowed f w is (of_mine cell_kinds d.kind _ _ _ quiet) (of_mine cell_kinds d.kind _ _ _ lasts))
      (λ k other is quiet lasts. inl is) k
  kept w (OfCells d) allowed (ByKey k f) = λ is quiet lasts. rw (tables_stay h d.kind k (cells_after d).hall) (inl is)
  kept w (OfTables d) allowed (AtCell k f) = λ is quiet lasts. rw (cells_stay h d.kind k (tables_after d).hall) (inl is)
  kept w (OfTables d) allowed (ByKey k f) = by_kind table_kinds h d.kind (tables_after d).hall
      (λ k p. tables.placed (tables_of h k) f ≡ Some w → polled_by (OfTables d) (ByKey k f) ≡ None → ends_by (OfTables d) (ByKey k f) ≡ false → (tables.placed p f ≡ Some w) ⊎ Contains (tables_after d).wakes w)
      (λ is quiet lasts. table.kept_in (tables_of h d.kind) n i (lows.tables d.kind) later (is_once d.kind) d.action allowed f w is (of_mine table_kinds d.kind _ _ _ quiet) (of_mine table_kinds d.kind _ _ _ lasts))
      (λ k other is quiet lasts. inl is) k

  stays : (m : Meaning) → cause_by h m ≡ None → (f : Future) → lives h f ≡ true → polled_by m f ≡ None → ends_by m f ≡ false → lives (step_by h i m).hall f ≡ true
  stays (OfCells d) allowed (AtCell k f) = by_kind cell_kinds h d.kind (cells_after d).hall
      (λ k p. is_future (part h k) f ≡ true → polled_by (OfCells d) (AtCell k f) ≡ None → ends_by (OfCells d) (AtCell k f) ≡ false → is_future p f ≡ true)
      (λ is quiet lasts. cell.stays_in (part h d.kind) n i (lows.cells d.kind) later d.action allowed f is (of_mine cell_kinds d.kind _ _ _ quiet) (of_mine cell_kinds d.kind _ _ _ lasts))
      (λ k other is quiet lasts. is) k
  stays (OfCells d) allowed (ByKey k f) = λ is quiet lasts. rw (tables_stay h d.kind k (cells_after d).hall) is
  stays (OfTables d) allowed (AtCell k f) = λ is quiet lasts. rw (cells_stay h d.kind k (tables_after d).hall) is
  stays (OfTables d) allowed (ByKey k f) = by_kind table_kinds h d.kind (tables_after d).hall
      (λ k p. tables.is_future (tables_of h k) f ≡ true → polled_by (OfTables d) (ByKey k f) ≡ None → ends_by (OfTables d) (ByKey k f) ≡ false → tables.is_future p f ≡ true)
      (λ is quiet lasts. table.stays_in (tables_of h d.kind) n i (lows.tables d.kind) later (is_once d.kind) d.action allowed f is (of_mine table_kinds d.kind _ _ _ quiet) (of_mine table_kinds d.kind _ _ _ lasts))
      (λ k other is quiet lasts. is) k

  made : (m : Meaning) → cause_by h m ≡ None → (f : Future) → lives (step_by h i m).hall f ≡ true → (lives h f ≡ true) ⊎ (name f ≡ i)
  made (OfCells d) allowed (AtCell k f) = by_kind cell_kinds h d.kind (cells_after d).hall (λ k p. is_future p f ≡ true → (is_future (part h k) f ≡ true) ⊎ (f ≡ i))
      (cell.made_in (part h d.kind) n i (lows.cells d.kind) later d.action allowed f) (λ k other is. inl is) k
  made (OfCells d) allowed (ByKey k f) = λ is. inl (subst (λ p. tables.is_future p f ≡ true) (tables_stay h d.kind k (cells_after d).hall) is)
  made (OfTables d) allowed (AtCell k f) = λ is. inl (subst (λ p. is_future p f ≡ true) (cells_stay h d.kind k (tables_after d).hall) is)
  made (OfTables d) allowed (ByKey k f) = by_kind table_kinds h d.kind (tables_after d).hall (λ k p. tables.is_future p f ≡ true → (tables.is_future (tables_of h k) f ≡ true) ⊎ (f ≡ i))
      (table.made_in (tables_of h d.kind) n i (lows.tables d.kind) later (is_once d.kind) d.action allowed f) (λ k other is. inl is) k

-- ---- the laws
nothing_low : Lows onces_family.empty 0
nothing_low = record { cells = no_cell; tables = no_table }
  where
    no_cell : (k : Kind) → Low (part onces_family.empty k) 0
    no_cell Onces = cell.nothing_low
    no_cell OnceCells = cell.nothing_low

    no_table : (k : TableKind) → LowTables (tables_of onces_family.empty k) 0
    no_table Maps = table.no_low
    no_table Groups = table.no_low

lows_of : (r : RunOf onces_family) → IsRun onces_family r → Lows r.hall r.next
lows_of _ Starts = nothing_low
lows_of _ (Goes r i e runs later cause) = lows_after r.hall r.next i (lows_of r runs) later (meaning_of e) cause

below : (h : OnceHall) (n : ℕ) → Lows h n → (f : Future) → lives h f ≡ true → name f < n
below h n lows (AtCell k f) is =
    let there = value_in (get (part h k).futures f) is in
    ((lows.cells k).below.at f there.0.cell (seen-at at_cell (part h k).futures f there.0 there.1)).0
below h n lows (ByKey k f) is = let there = value_in (get (tables_of h k).futures f) is in ((lows.tables k).below f there.0 there.1).0

pub keeps : KeepsWakers onces_family
keeps = record {
  places = λ r i e runs later cause f w polls pending. places r.hall i w (meaning_of e) f polls pending;
  waits = λ r i e runs f w v lives is polls. waits_for r.hall i w v (meaning_of e) f is polls;
  wakes = λ r i e runs later cause f w lives is quiet lasts. kept r.hall r.next i (lows_of r runs) later w (meaning_of e) cause f is quiet lasts;
  stays = λ r i e runs later cause f lives quiet lasts. stays r.hall r.next i (lows_of r runs) later (meaning_of e) cause f lives quiet lasts;
  goes = λ r i e runs later cause f ended. goes_away r.hall r.next i (meaning_of e) f (lows_of r runs) later cause ended;
}

names : NamesFutures onces_family
names = record {
  polls = λ h e cause f w polls. lives_polled h w (meaning_of e) f polls cause;
  below = λ r runs f lives. below r.hall r.next (lows_of r runs) f lives;
  made = λ r i e runs later cause f lives. made r.hall r.next i (lows_of r runs) later (meaning_of e) cause f lives;
}

pub no_wake_is_lost : (r : RunOf onces_family) → IsRun onces_family r → LosesNoWake onces_family r
no_wake_is_lost r runs = loses_no_wake onces_family keeps names r runs

-- ---- how many wakers are registered after an event
pub record Counts (h : OnceHall) (o : Outcome OnceHall) (extra : ℕ) : Type 0 where
  pub most : length o.wakes ≤ registered h
  pub grows : registered o.hall + length o.wakes ≤ registered h + extra

counts_cells : (h : OnceHall) (i : ℕ) (k : Kind) (a : Action) → Counts h (step_by h i (OfCells (record { kind = k; action = a }))) (cond (registers_in a) 1 0)
counts_cells h i Onces a = let c = goes_counted waiting_at owner h.onces.cells (keys h.onces.futures) _ _ _ i _ _ _ _ (goes h.onces i a) in record { most = omega (arith, c.most); grows = omega (arith, c.grows) }
counts_cells h i OnceCells a = let c = goes_counted waiting_at owner h.cells.cells (keys h.cells.futures) _ _ _ i _ _ _ _ (goes h.cells i a) in record { most = omega (arith, c.most); grows = omega (arith, c.grows) }

counts_tables : (h : OnceHall) (i : ℕ) (k : TableKind) (a : KeyAction) → Counts h (step_by h i (OfTables (record { kind = k; action = a }))) (cond (key_registers a) 1 0)
counts_tables h i Maps a = let c = table_acting.counted false h.maps i a in record { most = omega (arith, c.most); grows = omega (arith, c.grows) }
counts_tables h i Groups a = let c = table_acting.counted true h.groups i a in record { most = omega (arith, c.most); grows = omega (arith, c.grows) }

counts : (h : OnceHall) (i : ℕ) (m : Meaning) → Counts h (step_by h i m) (cond (registers_by m) 1 0)
counts h i (OfCells d) = counts_cells h i d.kind d.action
counts h i (OfTables d) = counts_tables h i d.kind d.action

pub counted : (h : OnceHall) (i : ℕ) (e : OnceEvent) → Counts h (step h i e) (cond (registers e) 1 0)
counted h i e = counts h i (meaning_of e)

pub extra-least : (b : Bool) → cond b 1 0 ≤ 1
extra-least true = omega arith
extra-least false = omega arith

-- where nothing is there, none is registered
pub none_registered : registered empty_hall ≡ 0
none_registered = omega (arith, total-empty (λ o (c : Cell). length (waiting_at c)), total-empty (λ o (t : Table). named_queue.registered waiting_at t.rounds))

-- ---- maps and groups that events reach are valid
nothing_is_valid : (k : TableKind) → AreValid (tables_of onces_family.empty k)
nothing_is_valid Maps = nothing_valid
nothing_is_valid Groups = nothing_valid

stays_valid : (h : OnceHall) (n i : ℕ) → Lows h n → n ≤ i → ((k : TableKind) → AreValid (tables_of h k)) → (m : Meaning) → cause_by h m ≡ None → (k : TableKind) → AreValid (tables_of (step_by h i m).hall k)
stays_valid h n i lows later valid (OfCells d) allowed k = rw (tables_stay h d.kind k (act_in (part h d.kind) i d.action).hall) (valid k)
stays_valid h n i lows later valid (OfTables d) allowed k = by_kind table_kinds h d.kind (key_act (is_once d.kind) (tables_of h d.kind) i d.action).hall (λ k p. AreValid p)
    (valid_after (is_once d.kind) (tables_of h d.kind) n i (lows.tables d.kind) later (valid d.kind) d.action allowed) (λ k other. valid k) k

pub valid_of : (r : RunOf onces_family) → IsRun onces_family r → (k : TableKind) → AreValid (tables_of r.hall k)
valid_of _ Starts k = nothing_is_valid k
valid_of _ (Goes r i e runs later cause) k = stays_valid r.hall r.next i (lows_of r runs) later (λ k. valid_of r runs k) (meaning_of e) cause k

pub values_stay : (r : RunOf onces_family) → IsRun onces_family r → (i : ℕ) → r.next ≤ i → (kind : TableKind) (a : KeyAction) (o k v : ℕ) → value_at (tables_of r.hall kind) o k ≡ Some v → takes_away a o k ≡ false
    → value_at (key_act (is_once kind) (tables_of r.hall kind) i a).hall o k ≡ Some v
values_stay r runs i later kind a o k v had lasts = value_stays (is_once kind) (tables_of r.hall kind) r.next i ((lows_of r runs).tables kind) later (valid_of r runs kind) o k v had a lasts
