-- the laws of the family for maps, or for groups
use Rattle.std.proofs.Common.{◌≡◌, ℕ, ◌+◌, ◌≤◌, ◌==◌, ◌⊎◌, inl, inr, Bool, true, false, Option, Some, None, is_some, option_to_list, refl, ap, sym, subst, ◌∙◌, arith}
use Rattle.std.specs.List.{Contains}
use Rattle.std.specs.Ordering.{nat_cmp}
use Rattle.std.specs.FinMap.{get, insert, empty, get-empty}
use Rattle.std.proofs.lemmas.Bool.{eqb-true}
use Rattle.std.proofs.lemmas.Option.{cond_some}
use Rattle.mea_family.specs.declared.answer.Answer.TheVariants as answers
use Rattle.mea_family.specs.Family.{Outcome}
use Rattle.mea_base.proofs.Maps.{by_put, get-there, get-other, get-removed_other, removed_there, inside, nothing_at, is_there, value_in}
use Rattle.mea_family.proofs.Causes.{known}
use Rattle.mea_by_name.specs.ByName.{Names}
use Rattle.mea_by_name.specs.NamedQueue.{waker_for, queue_of}
use Rattle.mea_family.specs.Play.{found}
use Rattle.mea_by_name.proofs.Cases.{by_found, found_is}
use Rattle.mea_by_name.proofs.OneObject.{IsBelow, below_put, below_gone, below_later, Touches, None_is, Polled, Ends}
use Rattle.mea_once_model.specs.declared.errand.Initialiser.{Initialiser}
use Rattle.mea_once_model.specs.Cells as cells
use Rattle.mea_once_model.specs.Cells.{Cell, CellFuture, Step, waiting_at, new_cell}
use Rattle.mea_once_model.specs.Tables as tables
use Rattle.mea_once_model.specs.Tables.{Table, KeyFuture, Tables, is_future, closed, left_by, at_round, caller, caller_after, others_of, new_table, placed_in, placed_of, rounds_of}
use Rattle.mea_once_model.specs.KeyActions.{KeyAction, PollKey, SettleKey, key_act, key_cause, key_polled, key_ends}
use Rattle.mea_once_model.proofs.CellWakers.{Placed, poll_places, poll_waits}
use Rattle.mea_once_model.proofs.TableActing.{closed-rounds}
use Rattle.mea_once_model.proofs.TableWakers.{Below, LowTables, TablesGo, Same, Put, Made, Gone, KeyGoes, silent, of_table, key_goes, later_below}

-- ---- what holds of the maps or groups after an event
module _ (h : Tables) (n i : ℕ) (low : LowTables h n) (later : n ≤ i) (k : ℕ) where
  lows_after : (ts : Names Table) (ws : _) → TablesGo h i k ts ws → IsBelow ts (i + 1)
  lows_after _ _ Same = below_later h.tables n i low.lows later
  lows_after _ _ (Put o t t' ws there keeps below) = below_put h.tables n i o t' low.lows later (omega (arith, low.lows.at o t there, later))
  lows_after _ _ Made = below_put h.tables n i i new_table low.lows later (omega arith)
  lows_after _ _ (Gone o alone) = below_gone h.tables n i o low.lows later

  current_after : (ts : Names Table) (ws : _) → TablesGo h i k ts ws → (o : ℕ) (t : Table) → get ts o ≡ Some t → Below t.current (i + 1)
  current_after _ _ Same o t is = later_below h n i low later o t is
  current_after _ _ (Put p u t' ws there keeps below) o t is = by_put h.tables p t' (λ o q. q ≡ Some t → Below t.current (i + 1)) (λ is. let same : t' ≡ t = inside is in rw (← same) below) (λ o apart is. later_below h n i low later o t is) o is
  current_after _ _ Made o t is = by_put h.tables i new_table (λ o q. q ≡ Some t → Below t.current (i + 1))
      (λ is. let same : new_table ≡ t = inside is in rw (← same) (record { at = λ k v there. absurd (nothing_at ℕ k v there) })) (λ o apart is. later_below h n i low later o t is) o is
  current_after _ _ (Gone p alone) o t is = later_below h n i low later o t (removed_there h.tables p o t is)

  -- a caller keeps its waker, or it is woken
  kept_at : (g w m : ℕ) (x : KeyFuture) → (k ≡ g → ⊥) → get h.futures g ≡ Some x → x.round ≡ Some m → (ts : Names Table) (ws : _) → TablesGo h i k ts ws
      → waker_for (queue_of waiting_at (get (rounds_of (get h.tables x.table)) m)) g ≡ Some w → (waker_for (queue_of waiting_at (get (rounds_of (get ts x.table)) m)) g ≡ Some w) ⊎ Contains ws w
  kept_at g w m x apart is round _ _ Same placed = inl placed
  kept_at g w m x apart is round _ _ (Put o t t' ws there keeps below) placed =
      by_put h.tables o t' (λ q p. x.table ≡ q → waker_for (queue_of waiting_at (get (rounds_of (get h.tables q)) m)) g ≡ Some w → (waker_for (queue_of waiting_at (get (rounds_of p) m)) g ≡ Some w) ⊎ Contains ws w)
      (λ mine placed. keeps.keeps g w m x apart is mine round (sym (ap (λ p. waker_for (queue_of waiting_at (get (rounds_of p) m)) g) there) ∙ placed)) (λ q differs mine placed. inl placed) x.table refl placed
  kept_at g w m x apart is round _ _ Made placed =
      inl (ap (λ p. waker_for (queue_of waiting_at (get (rounds_of p) m)) g) (get-other h.tables i x.table new_table (λ same. absurd (let small = (low.below g x is).1 in omega (arith, small, same, later)))) ∙ placed)
  kept_at g w m x apart is round _ _ (Gone o alone) placed = inl (ap (λ p. waker_for (queue_of waiting_at (get (rounds_of p) m)) g) (get-removed_other h.tables o x.table (alone g x is)) ∙ placed)

  -- and so does a future, whose map or group and round stay
  kept_still : (g w : ℕ) (x : KeyFuture) → (k ≡ g → ⊥) → get h.futures g ≡ Some x → (ts : Names Table) (ws : _) → TablesGo h i k ts ws → (z : KeyFuture) → z.table ≡ x.table → z.round ≡ x.round
      → (p : Option ℕ) → x.round ≡ p → placed_in (rounds_of (get h.tables x.table)) g p ≡ Some w → (placed_in (rounds_of (get ts z.table)) g z.round ≡ Some w) ⊎ Contains ws w
  kept_still g w x apart is ts ws go z home round None none placed = absurd (cc)
  kept_still g w x apart is ts ws go z home round (Some m) some placed = rw (home, round, some) (kept_at g w m x apart is some ts ws go placed)

module _ (h : Tables) (n i : ℕ) (low : LowTables h n) (later : n ≤ i) (once : Bool) (a : KeyAction) (allowed : key_cause h a ≡ None) where
  abbrev after : Outcome Tables
  after = key_act once h i a

  goes : KeyGoes h i a after
  goes = key_goes h n i low later once a allowed

  pub low_after : LowTables after.hall (i + 1)
  low_after = record {
    lows = lows_after h n i low later goes.k after.hall.tables after.wakes goes.tables;
    below = λ f x is. ((goes.each f x is).small, (goes.each f x is).home);
    current = current_after h n i low later goes.k after.hall.tables after.wakes goes.tables;
    rounds = λ f m x is round. (goes.each f x is).round m round;
  }

  pub made_in : (f : ℕ) → is_future after.hall f ≡ true → (is_future h f ≡ true) ⊎ (f ≡ i)
  made_in f is = let there = value_in (get after.hall.futures f) is in (goes.each f there.0 there.1).made

  -- who is neither polled nor ended is not touched
  apart : (f : ℕ) (x : KeyFuture) → get h.futures f ≡ Some x → key_polled a f ≡ None → key_ends a f ≡ false → goes.k ≡ f → ⊥
  apart f x was quiet lasts same = by_reason goes.touches
    where
      by_reason : Touches silent of_table (key_polled a) (key_ends a) i goes.k → ⊥
      by_reason (None_is fresh) = absurd (let small = (low.below f x was).0 in omega (arith, small, fresh, same, later))
      by_reason (Polled w is_polled) = absurd (let no_poll : key_polled a goes.k ≡ None = ap (key_polled a) same ∙ quiet in cc)
      by_reason (Ends is_ended) = absurd (let no_end : key_ends a goes.k ≡ false = ap (key_ends a) same ∙ lasts in cc)

  pub stays_in : (f : ℕ) → is_future h f ≡ true → key_polled a f ≡ None → key_ends a f ≡ false → is_future after.hall f ≡ true
  stays_in f is quiet lasts =
      let had = value_in (get h.futures f) is in
      let still = goes.others f had.0 (apart f had.0 had.1 quiet lasts) had.1 in
      is_there (get after.hall.futures f) still.future still.there

  pub kept_in : (f w : ℕ) → tables.placed h f ≡ Some w → key_polled a f ≡ None → key_ends a f ≡ false → (tables.placed after.hall f ≡ Some w) ⊎ Contains after.wakes w
  kept_in f w is quiet lasts = at (get h.futures f) refl is
    where
      at : (p : Option KeyFuture) → get h.futures f ≡ p → placed_of h.tables f p ≡ Some w → (tables.placed after.hall f ≡ Some w) ⊎ Contains after.wakes w
      at None was placed = absurd (cc)
      at (Some x) was placed =
          let untouched = apart f x was quiet lasts in
          let still = goes.others f x untouched was in
          elim (kept_still h n i low later goes.k f w x untouched was after.hall.tables after.wakes goes.tables still.future still.table still.round x.round refl placed) [
            | inl kept ↦ inl (ap (placed_of after.hall.tables f) still.there ∙ kept)
            | inr woken ↦ inr woken
          ]

  pub ended_in : (f : ℕ) → key_ends a f ≡ true → is_future after.hall f ≡ false
  ended_in f is = ap is_some (goes.over f is)

-- ---- a poll
module _ (once : Bool) (h : Tables) (i f w : ℕ) where
  abbrev Q : Outcome Tables → Type 0
  Q o = o.reply ≡ answers.Pending → tables.placed o.hall f ≡ Some w

  module _ (x : KeyFuture) (r others : ℕ) (t : Table) (s : Step) where
    -- a caller that waits on has this waker
    stands : (p : Option CellFuture) (y : CellFuture) → p ≡ Some y → waker_for (waiting_at s.cell) f ≡ Some w
        → tables.placed (record { tables = insert h.tables x.table (left_by p x.key r others (closed once x.key r s.cell.value (record t { rounds = insert t.rounds r s.cell }))); futures = cells.turned_to h.futures f (caller_after r x p) }) f ≡ Some w
    stands None y there waker = absurd (cc)
    stands (Some z) y there waker =
        let u : Table = closed once x.key r s.cell.value (record t { rounds = insert t.rounds r s.cell }) in
        ap (placed_of (insert h.tables x.table u) f) (get-there h.futures f (record x { init = cells.init_of z.errand; round = Some r }))
        ∙ ap (λ p. placed_in (rounds_of p) f (Some r)) (get-there h.tables x.table u)
        ∙ ap (λ rs. placed_in rs f (Some r)) (closed-rounds once x.key r s.cell.value (record t { rounds = insert t.rounds r s.cell }))
        ∙ ap (λ p. waker_for (queue_of waiting_at p) f) (get-there t.rounds r s.cell) ∙ waker

    stands_placed : Placed f w (caller x) s → tables.placed (tables.applied h f x.table (at_round once x r others t s)).hall f ≡ Some w
    stands_placed placed = stands s.future placed.future placed.there placed.waker

  module _ (x : KeyFuture) (t : Table) where
    in_places : (r : ℕ) → Q (tables.in_round once h f x t (cells.poll f w) r)
    in_places r = by_found Q (get t.rounds r) h _ (λ is. absurd (cc))
        (λ c there pending. stands_placed x r (others_of h f x.table r) t (cells.poll f w (caller x) c) (poll_places f w (caller x) c pending))

    joins : (p : Option ℕ) → Q (tables.join_round once h i f w x t p)
    joins None pending = stands_placed x i (others_of h f x.table i) (record t { current = insert t.current x.key i }) (cells.poll f w (caller x) (new_cell None)) (poll_places f w (caller x) (new_cell None) pending)
    joins (Some r) pending = in_places r pending

    firsts : (p : Option ℕ) → Q (tables.first_poll once h i f w x t p)
    firsts None = joins (get t.current x.key)
    firsts (Some v) = λ is. absurd (cc)

    each : (p : Option ℕ) → Q (tables.poll once h i f w x t p)
    each None = firsts (get t.values x.key)
    each (Some r) = in_places r

  -- one that is pending places its waker
  pub places_poll : (key_act once h i (PollKey f w)).reply ≡ answers.Pending → tables.placed (key_act once h i (PollKey f w)).hall f ≡ Some w
  places_poll = by_found Q (get h.futures f) h _ (λ is. absurd (cc)) (λ x future. by_found Q (get h.tables x.table) h _ (λ is. absurd (cc)) (λ t there. each x t x.round))

  -- while a waker is placed, it is pending
  module _ (v : ℕ) where
    by_cell : (x : KeyFuture) (t : Table) (r : ℕ) (p : Option Cell) → waker_for (queue_of waiting_at p) f ≡ Some v
        → (found p h (λ c. tables.applied h f x.table (at_round once x r (others_of h f x.table r) t (cells.poll f w (caller x) c)))).reply ≡ answers.Pending
    by_cell x t r None is = absurd (cc)
    by_cell x t r (Some c) is = poll_waits f w (caller x) c v is

    by_table : (x : KeyFuture) (p : Option Table) (q : Option ℕ) → placed_in (rounds_of p) f q ≡ Some v → (found p h (λ t. tables.poll once h i f w x t q)).reply ≡ answers.Pending
    by_table x p None is = absurd (cc)
    by_table x None (Some r) is = absurd (let none : get (empty {X = Cell} {R = nat_cmp}) r ≡ None = get-empty nat_cmp r in let nobody = ap (λ p. waker_for (queue_of waiting_at p) f) none in cc)
    by_table x (Some t) (Some r) is = by_cell x t r (get t.rounds r) is

    by_future : (p : Option KeyFuture) → placed_of h.tables f p ≡ Some v → (found p h (λ x. found (get h.tables x.table) h (λ t. tables.poll once h i f w x t x.round))).reply ≡ answers.Pending
    by_future None is = absurd (cc)
    by_future (Some x) is = by_table x (get h.tables x.table) x.round is

    pub waits_poll : tables.placed h f ≡ Some v → (key_act once h i (PollKey f w)).reply ≡ answers.Pending
    waits_poll is = by_future (get h.futures f) is

-- an action that polls f is a poll of f
pub same_key_poll : (a : KeyAction) (f w : ℕ) (P : KeyAction → Type 0) → ((v : ℕ) → v ≡ w → P (PollKey f v)) → key_polled a f ≡ Some w → P a
same_key_poll (PollKey g v) f w P here is = let test = cond_some (g == f) v w is in subst (λ j. P (PollKey j v)) (sym (eqb-true g f test.0)) (here v test.1)
same_key_poll _ f w P here is = absurd (cc)

pub key_lives : (h : Tables) (a : KeyAction) (f w : ℕ) → key_polled a f ≡ Some w → key_cause h a ≡ None → is_future h f ≡ true
key_lives h a f w is = same_key_poll a f w (λ a. key_cause h a ≡ None → is_future h f ≡ true) (λ v same none. known (is_future h f) none) is

pub key_places : (once : Bool) (h : Tables) (i f w : ℕ) (a : KeyAction) → key_polled a f ≡ Some w → (key_act once h i a).reply ≡ answers.Pending → tables.placed (key_act once h i a).hall f ≡ Some w
key_places once h i f w a is = same_key_poll a f w (λ a. (key_act once h i a).reply ≡ answers.Pending → tables.placed (key_act once h i a).hall f ≡ Some w)
    (λ v same pending. subst (λ w. tables.placed (key_act once h i (PollKey f v)).hall f ≡ Some w) same (places_poll once h i f v pending)) is

pub key_waits : (once : Bool) (h : Tables) (i f v w : ℕ) (a : KeyAction) → tables.placed h f ≡ Some v → key_polled a f ≡ Some w → (key_act once h i a).reply ≡ answers.Pending
key_waits once h i f v w a placed is = same_key_poll a f w (λ a. (key_act once h i a).reply ≡ answers.Pending) (λ u same. waits_poll once h i f u v placed) is

pub no_low : LowTables tables.no_tables 0
no_low = record {
  lows = record { at = λ k x is. absurd (nothing_at Table k x is) };
  below = λ f x is. absurd (nothing_at KeyFuture f x is);
  current = λ o t is. absurd (nothing_at Table o t is);
  rounds = λ f m x is round. absurd (nothing_at KeyFuture f x is);
}

pub low_later : (h : Tables) (n i : ℕ) → LowTables h n → n ≤ i → LowTables h (i + 1)
low_later h n i low later = record {
  lows = below_later h.tables n i low.lows later;
  below = λ f x is. (omega (arith, (low.below f x is).0, later), omega (arith, (low.below f x is).1, later));
  current = λ o t is. record { at = λ k v there. omega (arith, (low.current o t is).at k v there, later) };
  rounds = λ f m x is round. omega (arith, low.rounds f m x is round, later);
}

-- ---- who settles
pub key_settles : (once : Bool) (h : Tables) (i f : ℕ) (r : Initialiser) (x : KeyFuture) (t : Table) → get h.futures f ≡ Some x → get h.tables x.table ≡ Some t
    → (key_act once h i (SettleKey f r)).wakes ≡ (tables.settle once h f r x t x.round).wakes
key_settles once h i f r x t future there = ap (λ (o : Outcome Tables). o.wakes)
    (found_is (get h.futures f) h (λ x. found (get h.tables x.table) h (λ t. tables.settle once h f r x t x.round)) x future ∙ found_is (get h.tables x.table) h (λ t. tables.settle once h f r x t x.round) t there)

pub settles_in_round : (once : Bool) (h : Tables) (f n : ℕ) (r : Initialiser) (x : KeyFuture) (t : Table) (c : Cell) → x.round ≡ Some n → get t.rounds n ≡ Some c
    → (tables.settle once h f r x t x.round).wakes ≡ option_to_list (waker_for c.runner f)
settles_in_round once h f n r x t c round there = ap (λ p. (tables.settle once h f r x t p).wakes) round
    ∙ ap (λ (o : Outcome Tables). o.wakes) (found_is (get t.rounds n) h (λ c. tables.applied h f x.table (at_round once x n (others_of h f x.table n) t (cells.settle f r (caller x) c))) c there)
