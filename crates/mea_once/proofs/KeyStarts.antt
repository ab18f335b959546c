-- what a caller of a round that stays or goes makes of the round, its entry and its key
use Rattle.std.proofs.Common.{◌≡◌, ℕ, ◌+◌, ◌-◌, ◌≤◌, ◌==◌, ◌&&◌, ◌⊎◌, inl, inr, Bool, true, false, not, cond, length, [], Option, Some, None, is_some, is_none, option_map, nat_eq, refl, ap, sym, subst, ◌∙◌, arith, if◌then◌else◌}
use Rattle.std.specs.Option.{IsSome}
use Rattle.std.proofs.lemmas.Bool.{eqb-true, eq-eqb, ne_eqb}
use Rattle.std.specs.FinMap.{get, insert, remove, len, entries}
use Rattle.mea_base.specs.Totals.{weight}
use Rattle.mea_base.proofs.Maps.{inside, get-there, get-other, get-gone, get-removed_other, none_if}
use Rattle.mea_base.proofs.Totals.{total-alike}
use Rattle.mea_base.proofs.Tests.{by_name}
use Rattle.mea_by_name.specs.declared.named_waker.NamedWaker.{NamedWaker}
use Rattle.mea_by_name.specs.ByName.{Names, own, count, is_of}
use Rattle.mea_by_name.proofs.Own.{get-own, own-at, seen-at, len-seen, len-gone, len-over, len-some, len-total}
use Rattle.mea_once_core.specs.Cell.{Cell as CoreCell, rested}
use Rattle.mea_once_core.specs.Links.{Changes, left}
use Rattle.mea_once_core.specs.Table.{entry_at, is_last}
use Rattle.mea_once_core.specs.Keyed.{without_caller}
use Rattle.mea_once_core.specs.Waiting.{waiting_at}
use Rattle.mea_once_core.specs.declared.key_call.KeyStage.TheVariants as key_stages
use Rattle.mea_once_core.proofs.Tables.{and-false, and-true}
use Rattle.mea_once_model.specs.Cells.{Cell, turned_to}
use Rattle.mea_once_model.specs.Tables as tables
use Rattle.mea_once_model.specs.Tables.{Table, is_this, is_current}
use Rattle.mea_once.specs.declared.key_future.KeyFuture.{KeyFuture}
use Rattle.mea_once.specs.declared.round.Round.{Round}
use Rattle.mea_once.specs.declared.future_entry.FutureEntry.{FutureEntry}
use Rattle.mea_once.specs.Entries.{KeptCell, of_running}
use Rattle.mea_once.specs.KeyEntries.{KeptTable, current_without}
use Rattle.mea_once.specs.Parts as parts
use Rattle.mea_once.specs.Parts.{AreKept}
use Rattle.mea_once.specs.KeyParts.{value_of, kept_cell, round_in, round_seen, table_seen, as_caller, slot_of, of_round, callers_of, IsRound, IsKey, Computing, Valued, CallFits, waiting_of, AreTogether, Absent, HasRound}
use Rattle.mea_once.proofs.OneCell.{no_queue}
use Rattle.mea_once.proofs.KeyCells.{cell_of}
use Rattle.mea_once.proofs.KeySteps.{Entry, number, with_cell}
use Rattle.mea_once.proofs.KeyTables.{Elsewhere, Around, Changed, callers_turned, get_values, value_at, other_entries, seen_as, values_as, key_as}

-- ---- what is left of an entry where a caller has left it
-- a further caller is there
pub one_less : (s : Entry) → (s.callers == 1) ≡ false → without_caller s ≡ Some (record s { callers = s.callers - 1 })
one_less s more = ap (λ b. left (record s { listed = s.listed && not (b && is_none s.cell.value) })) more ∙ ap (λ b. left (record s { listed = b })) (and-true s.listed)
    ∙ ap (λ b. cond (b && not s.listed) None (Some (record s { callers = s.callers - 1 }))) more

pub full_left : (s : Entry) (v : ℕ) → s.cell.value ≡ Some v → s.listed ≡ true → without_caller s ≡ Some (record s { callers = s.callers - 1 })
full_left s v full listed = ap (λ o. left (record s { listed = s.listed && not ((s.callers == 1) && is_none o) })) full ∙ ap (λ b. left (record s { listed = s.listed && not b })) (and-false (s.callers == 1)) ∙ ap (λ b. left (record s { listed = b })) (and-true s.listed)
    ∙ ap (λ b. cond ((s.callers == 1) && not b) None (Some (record s { callers = s.callers - 1 }))) listed ∙ ap (λ b. cond {A = Option Entry} b None (Some (record s { callers = s.callers - 1 }))) (and-false (s.callers == 1))

-- ---- maps of current rounds
pub without_elsewhere : (m : Names ℕ) (k n : ℕ) → Elsewhere m (current_without m k n) k
without_elsewhere m k n j apart = elim (is_this n (get m k)) as (λ b. get (cond b (remove m k) m) j ≡ get m j) [ true ↦ get-removed_other m k j apart | false ↦ refl ]

pub without_same : (m : Names ℕ) (k n : ℕ) → is_this n (get m k) ≡ false → current_without m k n ≡ m
without_same m k n is = ap (λ b. cond b (remove m k) m) is

pub without_gone : (m : Names ℕ) (k n : ℕ) → get m k ≡ Some n → get (current_without m k n) k ≡ None
without_gone m k n is = ap (λ b. get (cond b (remove m k) m) k) (ap (is_this n) is ∙ eq-eqb n n refl) ∙ get-gone m k

pub without_none : (m : Names ℕ) (k n : ℕ) → get m k ≡ None → get (current_without m k n) k ≡ None
without_none m k n is = ap (λ b. get (cond b (remove m k) m) k) (ap (is_this n) is) ∙ is

-- ---- how many callers a round has

pub count_callers : (n : ℕ) (m : Names KeyFuture) → count (λ (x : KeyFuture). is_this n x.round) m ≡ len (callers_of n m)
count_callers n m = total-alike (λ k (x : KeyFuture). cond (is_this n x.round) 1 0) (λ k (x : KeyFuture). 1) m (own of_round (n + 1) m) (λ k. at k (get m k) ∙ ap (weight (λ k (x : KeyFuture). 1) k) (sym (get-own of_round (n + 1) m k)))
    ∙ sym (len-total (own of_round (n + 1) m)) ∙ sym (len-seen as_caller (own of_round (n + 1) m))
  where
    same_slot : (r : Option ℕ) → is_this n r ≡ (slot_of r == (n + 1))
    same_slot None = sym (ne_eqb 0 (n + 1) (λ same. omega arith))
    same_slot (Some q) = by_name q n (λ same. eq-eqb q n same ∙ sym (eq-eqb (q + 1) (n + 1) (ap (λ q. q + 1) same))) (λ other. ne_eqb q n other ∙ sym (ne_eqb (q + 1) (n + 1) (λ same. other (omega arith))))

    at : (k : ℕ) (o : Option KeyFuture) → weight (λ k (x : KeyFuture). cond (is_this n x.round) 1 0) k o ≡ weight (λ k (x : KeyFuture). 1) k (cond (is_of of_round (n + 1) o) o None)
    at k None = refl
    at k (Some x) = ap (λ b. cond b 1 0) (same_slot x.round) ∙ (elim (slot_of x.round == (n + 1)) as (λ b. cond b 1 0 ≡ weight (λ k (x : KeyFuture). 1) k (cond b (Some x) None)) [ true ↦ refl | false ↦ refl ])

-- where nobody is a caller, no initialiser keeps a waker
pub nobody_keeps : (K : KeptCell) (fs : Names FutureEntry) → AreKept false K fs → K.futures ≡ 0 → K.running ≡ None
nobody_keeps K fs kept none = none_if K.running (λ k is. absurd (let it = kept.tied.runner k is in let some = len-some fs k.name it.0 it.1 in let all = kept.tied.futures in omega arith))

-- ---- what the model makes of a table
pub left_current : (k n o : ℕ) (t : Table) → (tables.left k n o t).current ≡ cond (o == 0) (current_without t.current k n) t.current
left_current k n o t = elim (o == 0) as (λ b. (if b then record t { rounds = remove t.rounds n; current = if is_current t k n then remove t.current k else t.current } else t).current ≡ cond b (current_without t.current k n) t.current) [ true ↦ refl | false ↦ refl ]

pub left_rounds : (k n o : ℕ) (t : Table) → Elsewhere t.rounds (tables.left k n o t).rounds n
left_rounds k n o t q apart = elim (o == 0) as (λ b. get (if b then record t { rounds = remove t.rounds n; current = if is_current t k n then remove t.current k else t.current } else t).rounds q ≡ get t.rounds q) [ true ↦ get-removed_other t.rounds n q apart | false ↦ refl ]

pub left_there : (k n o : ℕ) (t : Table) → get (tables.left k n o t).rounds n ≡ cond (o == 0) None (get t.rounds n)
left_there k n o t = elim (o == 0) as (λ b. get (if b then record t { rounds = remove t.rounds n; current = if is_current t k n then remove t.current k else t.current } else t).rounds n ≡ cond b None (get t.rounds n)) [ true ↦ get-gone t.rounds n | false ↦ refl ]

pub left_values : (k n o : ℕ) (t : Table) → (tables.left k n o t).values ≡ t.values
left_values k n o t = elim (o == 0) as (λ b. (if b then record t { rounds = remove t.rounds n; current = if is_current t k n then remove t.current k else t.current } else t).values ≡ t.values) [ true ↦ refl | false ↦ refl ]

pub closed_current : (once : Bool) (k n v : ℕ) (t : Table) → (tables.closed once k n (Some v) t).current ≡ current_without t.current k n
closed_current once k n v t = elim (is_current t k n) as (λ b. (if b then record t { values = if once then t.values else insert t.values k v; current = remove t.current k } else t).current ≡ cond b (remove t.current k) t.current) [ true ↦ refl | false ↦ refl ]

pub closed_rounds : (once : Bool) (k n v : ℕ) (t : Table) → (tables.closed once k n (Some v) t).rounds ≡ t.rounds
closed_rounds once k n v t = elim (is_current t k n) as (λ b. (if b then record t { values = if once then t.values else insert t.values k v; current = remove t.current k } else t).rounds ≡ t.rounds) [ true ↦ refl | false ↦ refl ]

pub closed_values : (once : Bool) (k n v : ℕ) (t : Table) → (tables.closed once k n (Some v) t).values ≡ cond (is_current t k n) (if once then t.values else insert t.values k v) t.values
closed_values once k n v t = elim (is_current t k n) as (λ b. (if b then record t { values = if once then t.values else insert t.values k v; current = remove t.current k } else t).values ≡ cond b (if once then t.values else insert t.values k v) t.values) [ true ↦ refl | false ↦ refl ]

-- no more wait in an entry that was left
pub left_queue : (z : Entry) → waiting_at (without_caller z) ≤ length z.cell.permit.queue
left_queue z = at ((z.callers == 1) && not (z.listed && not (is_last z)))
  where
    at : (b : Bool) → waiting_at (cond b None (Some (record z { callers = z.callers - 1; listed = z.listed && not (is_last z) }))) ≤ length z.cell.permit.queue
    at true = omega arith
    at false = omega arith

-- ---- a caller is at a round
-- how it stands with the round n of this key, whose entry m is this, and with the key's number and its current round
pub data Status (once : Bool) (e : KeptTable) (n m k : ℕ) (s : Entry) (cur : Names ℕ) (p : Option ℕ) : Type 0 where
  -- it is the key's current one
  Current : s.listed ≡ true → s.cell.value ≡ None → get cur k ≡ Some n → p ≡ Some m → get (table_seen e).values k ≡ None → Status once e n m k s cur p
  -- its value is the key's
  Full : (v : ℕ) → s.listed ≡ true → s.cell.value ≡ Some v → get cur k ≡ None → p ≡ Some m → once ≡ false → get (table_seen e).values k ≡ Some v → Status once e n m k s cur p
  -- the key was taken out since
  Aside : s.listed ≡ false → IsKey once e k → ((q : ℕ) → number e.keyed k ≡ Some q → m ≡ q → ⊥) → p ≡ number e.keyed k → cur ≡ e.current → is_this n (get cur k) ≡ false → Status once e n m k s cur p

-- a future of round n
abbrev pub at_round : KeyFuture → ℕ → KeyFuture
at_round x n = record x { round = Some n }

pub record Start (once : Bool) (e : KeptTable) (fs : Names KeyFuture) (i f : ℕ) (x : KeyFuture) (n m : ℕ) (r : Round) (s : Entry) (cur : Names ℕ) (p : Option ℕ) : Type 0 where
  pub around : Around e n m x.key
  pub before : waiting_at (entry_at e.keyed.table m) ≡ weight (waiting_of e) n (get e.rounds n)
  pub queue : length s.cell.permit.queue ≡ waiting_at (entry_at e.keyed.table m)
  pub runner : weight (λ n (r : Round). of_running r.running) n (get e.rounds n) ≡ of_running r.running
  pub callers : s.callers ≡ r.callers
  pub some : 1 ≤ r.callers
  pub key : r.key ≡ x.key
  pub at : (r.callers ≡ 1 → ⊥) → r.entry ≡ m
  pub was : (q : ℕ) → x.round ≡ Some q → q ≡ n
  pub kept : AreKept false (kept_cell s.cell r) (callers_of n (insert fs f (at_round x n)))
  pub current : Elsewhere e.current cur x.key
  pub low : n ≤ i
  pub keeps_number : (q : ℕ) → number e.keyed x.key ≡ Some q → (m ≡ q → ⊥) → p ≡ Some q
  pub is_number : (q : ℕ) → p ≡ Some q → (m ≡ q) ⊎ (number e.keyed x.key ≡ Some q)
  pub status : Status once e n m x.key s cur p

-- the table as the model sees it where the caller is there
abbrev pub entered : KeptTable → Names ℕ → Table
entered e cur = record (table_seen e) { current = cur }

module _ (once : Bool) (e : KeptTable) (fs : Names KeyFuture) (kept : AreTogether once e fs) (i f : ℕ) (x : KeyFuture) (there : get fs f ≡ Some x) (n m : ℕ) (r : Round) (s : Entry) (cur : Names ℕ) (p : Option ℕ) (start : Start once e fs i f x n m r s cur p) where
  -- the key of a round that was taken out
  pub aside_key : (e' : KeptTable) → IsKey once e x.key → ((q : ℕ) → number e.keyed x.key ≡ Some q → m ≡ q → ⊥) → number e'.keyed x.key ≡ number e.keyed x.key → get e'.current x.key ≡ get e.current x.key → ((q : ℕ) → (m ≡ q → ⊥) → entry_at e'.keyed.table q ≡ entry_at e.keyed.table q)
      → Elsewhere e.rounds e'.rounds n → IsKey once e' x.key
  aside_key e' is other num now entries rounds = key_as once e e' x.key num now (λ q is_num. entries q (other q is_num))
      (λ q t there key is_num. rounds q (λ same. other t.entry is_num (sym (start.around.here t (ap (get e.rounds) same ∙ there)).0)) ∙ there) is

  -- a key whose number is another one has its value still
  pub aside_value : (e' : KeptTable) → ((q : ℕ) → number e.keyed x.key ≡ Some q → m ≡ q → ⊥) → ((q : ℕ) → (m ≡ q → ⊥) → entry_at e'.keyed.table q ≡ entry_at e.keyed.table q) → value_at e'.keyed.table (number e.keyed x.key) ≡ get (table_seen e).values x.key
  aside_value e' other entries = values_as e.keyed.table e'.keyed.table (number e.keyed x.key) (λ q is. entries q (other q is)) ∙ sym (get_values e.keyed.table e.keyed.table.pairs x.key)

  -- ---- it stays
  module _ (e' : KeptTable) (c : CoreCell ℕ NamedWaker) (run : Option NamedWaker) (y : KeyFuture) (of_y : y.round ≡ Some n) (stage_y : y.call.stage ≡ key_stages.Calls m) (key_y : y.key ≡ x.key) (polled_y : parts.is_polled y.call.call.stage ≡ true)
      (good : AreKept false (cell_of (rested c) run r.callers) (turned_to (callers_of n (insert fs f (at_round x n))) f (Some (as_caller y)))) (value : c.value ≡ s.cell.value)
      (entries : Changes e.keyed.table.slots e'.keyed.table.slots m (Some (with_cell s c))) (numbers : (j : ℕ) → number e'.keyed j ≡ cond (nat_eq x.key j) p (number e.keyed j)) (quiet : e'.keyed.wakes ≡ [])
      (rounds : Elsewhere e.rounds e'.rounds n) (here : get e'.rounds n ≡ Some (record r { entry = m; running = run })) (current : e'.current ≡ cur) (futures : e'.futures ≡ e.futures) where
    abbrev r' : Round
    r' = record r { entry = m; running = run }

    stays_number : number e'.keyed x.key ≡ p
    stays_number = numbers x.key ∙ ap (λ b. cond b p (number e.keyed x.key)) (eq-eqb x.key x.key refl)

    stays_key : Status once e n m x.key s cur p → IsKey once e' x.key
    stays_key (Current listed empty now is _) = Computing n r' (with_cell s c) (stays_number ∙ is) (ap (λ m. get m x.key) current ∙ now) here start.key entries.changed (value ∙ empty) listed
    stays_key (Full v listed full now is map_only _) = Valued m v (with_cell s c) (stays_number ∙ is) (ap (λ m. get m x.key) current ∙ now) entries.changed (value ∙ full) listed map_only (inr (n, r', here, refl, start.key))
    stays_key (Aside listed key other is same now) = aside_key e' key other (stays_number ∙ is) (ap (λ m. get m x.key) (current ∙ same)) (other_entries e.keyed.table e'.keyed.table m _ entries) rounds

    stays_listed : Status once e n m x.key s cur p → s.listed ≡ true → number e'.keyed x.key ≡ Some m
    stays_listed (Current listed empty now is _) _ = stays_number ∙ is
    stays_listed (Full v listed full now is map_only _) _ = stays_number ∙ is
    stays_listed (Aside unlisted key other is same now) listed = absurd (cc)

    stays_round : (q : Round) → get e'.rounds n ≡ Some q → IsRound e' (turned_to fs f (Some y)) n q × (q.entry ≡ m) × (q.key ≡ x.key)
    stays_round q is = rw (inside (sym is ∙ here)) (
      record {
        shown = with_cell s c;
        there = entries.changed;
        callers = start.callers;
        some = start.some;
        kept = subst (AreKept false (cell_of (rested c) run r.callers)) (sym (callers_turned fs f n x there (at_round x n) refl (Some y) of_y)) good;
        listed = λ listed. ap (number e'.keyed) start.key ∙ stays_listed start.status listed;
      },
      refl,
      start.key,
    )

    pub stays_changed : Changed once e fs f n m x.key e' (Some y)
    stays_changed = record {
      entry = Some (with_cell s c);
      num = p;
      entries = entries;
      numbers = numbers;
      quiet = quiet;
      rounds = rounds;
      current = λ j apart. ap (λ m. get m j) current ∙ start.current j apart;
      keeps_number = start.keeps_number;
      is_number = start.is_number;
      round = stays_round;
      stays = λ g z is of. ap is_some here;
      nobody = λ none. absurd (cc);
      before = start.before;
      key = stays_key start.status;
      call = λ z is. let same : y ≡ z = inside is in subst (λ (z : KeyFuture). CallFits z.round e' z) same (rw of_y (r', here, stage_y, start.key ∙ sym key_y, polled_y));
      of = of_y;
      futures = futures ∙ kept.futures ∙ sym (len-over fs f y x there);
    }

    abbrev pub stays_cell : Cell
    stays_cell = parts.cell_seen (cell_of (rested c) run r.callers)

    stays_value : Status once e n m x.key s cur p → get (table_seen e).values x.key ≡ value_at e'.keyed.table p
    stays_value (Current listed empty now is none) = none ∙ sym (ap (value_at e'.keyed.table) is ∙ ap value_of entries.changed ∙ value ∙ empty)
    stays_value (Full v listed full now is map_only had) = had ∙ sym (ap (value_at e'.keyed.table) is ∙ ap value_of entries.changed ∙ value ∙ full)
    stays_value (Aside unlisted key other is same now) = sym (ap (value_at e'.keyed.table) is ∙ aside_value e' other (other_entries e.keyed.table e'.keyed.table m _ entries))

    pub stays_seen : table_seen e' ≡ record (entered e cur) { rounds = insert (table_seen e).rounds n stays_cell }
    unfolding stays_changed
    stays_seen = seen_as once e fs kept f n m x.key x there start.was start.around e' (Some y) stays_changed (record (entered e cur) { rounds = insert (table_seen e).rounds n stays_cell }) (sym current)
        (λ q apart. get-other (table_seen e).rounds n q stays_cell apart) (get-there (table_seen e).rounds n stays_cell ∙ sym (ap (option_map (round_seen e'.keyed.table)) here ∙ ap (λ o. Some (round_in o r')) entries.changed)) (λ j apart. refl) (stays_value start.status)

    -- the model's step leaves the key its round and its value
    pub stays_closed : (t : Table) → t ≡ record (entered e cur) { rounds = insert (table_seen e).rounds n stays_cell } → tables.closed once x.key n c.value t ≡ t
    stays_closed t is = at c.value refl
      where
        not_now : (v : ℕ) → c.value ≡ Some v → Status once e n m x.key s cur p → is_this n (get cur x.key) ≡ false
        not_now v full (Current listed empty now num none) = absurd (cc)
        not_now v full (Full u listed some now num map_only had) = ap (is_this n) now
        not_now v full (Aside unlisted key other num same now) = now

        at : (v : Option ℕ) → c.value ≡ v → tables.closed once x.key n v t ≡ t
        at None none = refl
        at (Some v) full = ap (λ b. if b then record t { values = if once then t.values else insert t.values x.key v; current = remove t.current x.key } else t) (ap (λ (t : Table). is_current t x.key n) is ∙ not_now v full start.status)

  -- ---- it goes
  module _ (e' : KeptTable) (c : CoreCell ℕ NamedWaker) (run : Option NamedWaker) (l : Bool) (num : Option ℕ)
      (good : AreKept false (cell_of (rested c) run (r.callers - 1)) (turned_to (callers_of n (insert fs f (at_round x n))) f None))
      (entries : Changes e.keyed.table.slots e'.keyed.table.slots m (without_caller (record (with_cell s c) { listed = l }))) (numbers : (j : ℕ) → number e'.keyed j ≡ cond (nat_eq x.key j) num (number e.keyed j)) (quiet : e'.keyed.wakes ≡ [])
      (rounds : Elsewhere e.rounds e'.rounds n) (here : get e'.rounds n ≡ cond (r.callers == 1) None (Some (record r { running = run; callers = r.callers - 1 }))) (current : Elsewhere e.current e'.current x.key) (futures : e'.futures ≡ e.futures - 1)
      (num_is : (num ≡ None) ⊎ (num ≡ p)) (aside : s.listed ≡ false → num ≡ p) (of_listed : (r.callers == 1) ≡ false → l ≡ true → num ≡ Some m) (key_is : IsKey once e' x.key) where
    abbrev gone_entry : Entry
    gone_entry = record (with_cell s c) { listed = l }

    gone_good : AreKept false (cell_of (rested c) run (r.callers - 1)) (callers_of n (remove fs f))
    gone_good = subst (AreKept false (cell_of (rested c) run (r.callers - 1))) (sym (callers_turned fs f n x there (at_round x n) refl None tt)) good

    gone_round : (b : Bool) → (r.callers == 1) ≡ b → (q : Round) → get e'.rounds n ≡ Some q → IsRound e' (remove fs f) n q × (q.entry ≡ m) × (q.key ≡ x.key)
    gone_round true last q is = absurd (let none : get e'.rounds n ≡ None = here ∙ ap (λ b. cond b None (Some (record r { running = run; callers = r.callers - 1 }))) last in cc)
    gone_round false more q is =
        let one : record r { running = run; callers = r.callers - 1 } ≡ q = inside (sym (ap (λ b. cond b None (Some (record r { running = run; callers = r.callers - 1 }))) more) ∙ sym here ∙ is) in
        let not_one : r.callers ≡ 1 → ⊥ = λ same. absurd (let t : (r.callers == 1) ≡ true = eq-eqb r.callers 1 same in cc) in
        let entry : r.entry ≡ m = start.at not_one in
        let more_there : (s.callers == 1) ≡ false = ap (λ n. n == 1) start.callers ∙ more in
        rw (← one) (
          record {
            shown = record gone_entry { callers = s.callers - 1 };
            there = ap (entry_at e'.keyed.table) entry ∙ entries.changed ∙ one_less gone_entry more_there;
            callers = ap (λ n. n - 1) start.callers;
            some = by_name r.callers 1 (λ same. absurd (not_one same)) (λ other. let some = start.some in omega (arith, other));
            kept = gone_good;
            listed = λ listed. ap (number e'.keyed) start.key ∙ numbers x.key ∙ ap (λ b. cond b num (number e.keyed x.key)) (eq-eqb x.key x.key refl) ∙ of_listed more listed ∙ ap (λ q. Some q) (sym entry);
          },
          entry,
          start.key,
        )

    gone_none : (b : Bool) → (r.callers == 1) ≡ b → get e'.rounds n ≡ None → r.callers ≡ 1
    gone_none true last none = eqb-true r.callers 1 last
    gone_none false more none = absurd (let some : get e'.rounds n ≡ Some (record r { running = run; callers = r.callers - 1 }) = here ∙ ap (λ b. cond b None (Some (record r { running = run; callers = r.callers - 1 }))) more in cc)

    -- nobody waits in its cell where it was the last
    pub gone_queue : r.callers ≡ 1 → c.permit.queue ≡ []
    gone_queue last = no_queue false (cell_of (rested c) run (r.callers - 1)) (callers_of n (remove fs f)) gone_good (omega arith)

    gone_stays : (g : ℕ) (z : KeyFuture) → get (remove fs f) g ≡ Some z → z.round ≡ Some n → IsSome (get e'.rounds n)
    gone_stays g z is of = at (get e'.rounds n) refl
      where
        at : (o : Option Round) → get e'.rounds n ≡ o → IsSome (get e'.rounds n)
        at (Some q) some = ap is_some some
        at None none = absurd (let last = gone_none (r.callers == 1) refl none in
            let some = len-some (callers_of n (remove fs f)) g (as_caller z) (seen-at as_caller (own of_round (n + 1) (remove fs f)) g z (own-at of_round (n + 1) (remove fs f) g z is (ap slot_of of))) in
            let all = gone_good.tied.futures in omega arith)

    pub gone_changed : Changed once e fs f n m x.key e' None
    gone_changed = record {
      entry = without_caller gone_entry;
      num = num;
      entries = entries;
      numbers = numbers;
      quiet = quiet;
      rounds = rounds;
      current = current;
      keeps_number = keeps start.status;
      is_number = λ q is. elim num_is as (λ x_is. (m ≡ q) ⊎ (number e.keyed x.key ≡ Some q)) [
        | inl none ↦ absurd (cc)
        | inr same ↦ start.is_number q (sym same ∙ is)
      ];
      round = gone_round (r.callers == 1) refl;
      stays = gone_stays;
      nobody = λ none. let last = gone_none (r.callers == 1) refl none in let few = left_queue gone_entry in let empty : length c.permit.queue ≡ 0 = ap length (gone_queue last) in omega arith;
      before = start.before;
      key = key_is;
      call = λ z is. absurd (cc);
      of = tt;
      futures = futures ∙ ap (λ n. n - 1) kept.futures ∙ sym (len-gone fs f x there);
    }
      where
        keeps : Status once e n m x.key s cur p → (q : ℕ) → number e.keyed x.key ≡ Some q → (m ≡ q → ⊥) → num ≡ Some q
        keeps (Current listed empty now is _) q had apart = absurd (apart (inside (sym is ∙ start.keeps_number q had apart)))
        keeps (Full v listed full now is map_only _) q had apart = absurd (apart (inside (sym is ∙ start.keeps_number q had apart)))
        keeps (Aside unlisted key other is same now) q had apart = aside unlisted ∙ is ∙ had

    gone_here : (b : Bool) → (r.callers == 1) ≡ b → get e'.rounds n ≡ cond b None (Some (record r { running = run; callers = r.callers - 1 }))
    gone_here b is = here ∙ ap (λ b. cond b None (Some (record r { running = run; callers = r.callers - 1 }))) is

    -- what the model sees of the round
    abbrev pub gone_cell : Cell
    gone_cell = parts.cell_seen (cell_of (rested c) run (r.callers - 1))

    seen_there : (b : Bool) → (r.callers == 1) ≡ b → option_map (round_seen e'.keyed.table) (get e'.rounds n) ≡ cond b None (Some gone_cell)
    seen_there true last = ap (option_map (round_seen e'.keyed.table)) (gone_here true last)
    seen_there false more =
        let not_one : r.callers ≡ 1 → ⊥ = λ same. absurd (let t : (r.callers == 1) ≡ true = eq-eqb r.callers 1 same in cc) in
        let more_there : (s.callers == 1) ≡ false = ap (λ n. n == 1) start.callers ∙ more in
        ap (option_map (round_seen e'.keyed.table)) (gone_here false more) ∙ ap (λ o. Some (round_in o (record r { running = run; callers = r.callers - 1 }))) (ap (entry_at e'.keyed.table) (start.at not_one) ∙ entries.changed ∙ one_less gone_entry more_there)

    -- the number of others tells whether it was the last
    pub last_by : (r.callers - 1 == 0) ≡ (r.callers == 1)
    last_by = by_name r.callers 1 (λ same. eq-eqb (r.callers - 1) 0 (omega (arith, same)) ∙ sym (eq-eqb r.callers 1 same)) (λ other. ne_eqb (r.callers - 1) 0 (λ zero. other (let some = start.some in omega arith)) ∙ sym (ne_eqb r.callers 1 other))

    -- the table is what the model leaves of one in which the round has this cell
    pub gone_seen : (t : Table) → (tables.left x.key n (r.callers - 1) t).current ≡ e'.current → Elsewhere (table_seen e).rounds t.rounds n → get t.rounds n ≡ Some gone_cell → Elsewhere (table_seen e).values t.values x.key → get t.values x.key ≡ value_at e'.keyed.table num
        → table_seen e' ≡ tables.left x.key n (r.callers - 1) t
    unfolding gone_changed
    gone_seen t currents rounds_t round_t values_t value_t = seen_as once e fs kept f n m x.key x there start.was start.around e' None gone_changed (tables.left x.key n (r.callers - 1) t) currents
        (λ q apart. left_rounds x.key n (r.callers - 1) t q apart ∙ rounds_t q apart)
        (left_there x.key n (r.callers - 1) t ∙ ap (cond (r.callers - 1 == 0) None) round_t ∙ ap (λ b. cond b None (Some gone_cell)) last_by ∙ sym (seen_there (r.callers == 1) refl))
        (λ j apart. ap (λ (m : Names ℕ). get m j) (left_values x.key n (r.callers - 1) t) ∙ values_t j apart)
        (ap (λ (m : Names ℕ). get m x.key) (left_values x.key n (r.callers - 1) t) ∙ value_t)

module _ (once : Bool) (e : KeptTable) (fs : Names KeyFuture) (kept : AreTogether once e fs) (i f : ℕ) (x : KeyFuture) (there : get fs f ≡ Some x) (n m : ℕ) (r : Round) (s : Entry) (cur : Names ℕ) (p : Option ℕ) (start : Start once e fs i f x n m r s cur p)
    (e' : KeptTable) (c : CoreCell ℕ NamedWaker) (run : Option NamedWaker)
    (good : AreKept false (cell_of (rested c) run (r.callers - 1)) (turned_to (callers_of n (insert fs f (at_round x n))) f None)) (quiet : e'.keyed.wakes ≡ [])
    (rounds : Elsewhere e.rounds e'.rounds n) (here : get e'.rounds n ≡ cond (r.callers == 1) None (Some (record r { running = run; callers = r.callers - 1 }))) (futures : e'.futures ≡ e.futures - 1) where
  abbrev last : Bool
  last = r.callers == 1

  abbrev seen_cell : Cell
  seen_cell = parts.cell_seen (cell_of (rested c) run (r.callers - 1))

  abbrev with_round : Table
  with_round = record (entered e cur) { rounds = insert (table_seen e).rounds n seen_cell }

  last_entry : (b : Bool) → last ≡ b → (s.callers == 1) ≡ b
  last_entry b is = ap (λ n. n == 1) start.callers ∙ is

  without_twice : (m : Names ℕ) → Elsewhere e.current m x.key → Elsewhere e.current (current_without m x.key n) x.key
  without_twice m same j apart = without_elsewhere m x.key n j apart ∙ same j apart

  by_last : {A : Type 0} (a b : A) (P : A → Type 0) → P a → P b → P (cond last a b)
  by_last a b P one two = elim last as (λ t. P (cond t a b)) [ true ↦ one | false ↦ two ]

  -- ---- its cell is empty
  module _ (was_empty : s.cell.value ≡ None) (empty : c.value ≡ None) (entries : Changes e.keyed.table.slots e'.keyed.table.slots m (without_caller (with_cell s c)))
      (numbers : (j : ℕ) → number e'.keyed j ≡ cond (nat_eq x.key j) (cond (s.listed && is_last (with_cell s c)) None p) (number e.keyed j)) (current : e'.current ≡ cond last (current_without cur x.key n) cur) where
    abbrev num : Option ℕ
    num = cond (s.listed && is_last (with_cell s c)) None p

    num_by : (b : Bool) → last ≡ b → num ≡ cond (s.listed && b) None p
    num_by b is = ap (λ o. cond (s.listed && ((s.callers == 1) && is_none o)) None p) empty ∙ ap (λ t. cond (s.listed && (t && true)) None p) (last_entry b is) ∙ ap (λ t. cond (s.listed && t) None p) (and-true b)

    own_number : number e'.keyed x.key ≡ num
    own_number = numbers x.key ∙ ap (λ b. cond b num (number e.keyed x.key)) (eq-eqb x.key x.key refl)

    num_is : (num ≡ None) ⊎ (num ≡ p)
    num_is = elim (s.listed && is_last (with_cell s c)) as (λ b. (cond b None p ≡ None) ⊎ (cond b None p ≡ p)) [ true ↦ inl refl | false ↦ inr refl ]

    aside : s.listed ≡ false → num ≡ p
    aside unlisted = ap (λ b. cond (b && is_last (with_cell s c)) None p) unlisted

    num_more : last ≡ false → num ≡ p
    num_more more = num_by false more ∙ ap (λ b. cond b None p) (and-false s.listed)

    of_listed : Status once e n m x.key s cur p → last ≡ false → s.listed ≡ true → num ≡ Some m
    of_listed (Current listed none now is _) more _ = num_more more ∙ is
    of_listed (Full v listed full now is map_only _) more _ = num_more more ∙ is
    of_listed (Aside unlisted key other is same now) more listed = absurd (cc)

    current_now : (b : Bool) → last ≡ b → e'.current ≡ cond b (current_without cur x.key n) cur
    current_now b is = current ∙ ap (λ b. cond b (current_without cur x.key n) cur) is

    key_by : (b : Bool) → last ≡ b → Status once e n m x.key s cur p → IsKey once e' x.key
    key_by true is (Current listed none now num_p _) = Absent (own_number ∙ num_by true is ∙ ap (λ b. cond (b && true) None p) listed) (ap (λ m. get m x.key) (current_now true is) ∙ without_gone cur x.key n now)
    key_by false is (Current listed none now num_p _) =
        let not_one : r.callers ≡ 1 → ⊥ = λ same. absurd (let t : (r.callers == 1) ≡ true = eq-eqb r.callers 1 same in cc) in
        let entry : r.entry ≡ m = start.at not_one in
        Computing n (record r { running = run; callers = r.callers - 1 }) (record (with_cell s c) { callers = s.callers - 1 }) (own_number ∙ num_more is ∙ num_p ∙ ap (λ q. Some q) (sym entry)) (ap (λ m. get m x.key) (current_now false is) ∙ now)
        (here ∙ ap (λ b. cond b None (Some (record r { running = run; callers = r.callers - 1 }))) is) start.key (ap (entry_at e'.keyed.table) entry ∙ entries.changed ∙ one_less (with_cell s c) (last_entry false is)) empty listed
    key_by b is (Full v listed full now num_p map_only _) = absurd (cc)
    key_by b is (Aside unlisted key other num_p same now) = aside_key once e fs kept i f x there n m r s cur p start e' key other (own_number ∙ aside unlisted ∙ num_p)
        (ap (λ m. get m x.key) (current ∙ by_last (current_without cur x.key n) cur (λ m. m ≡ e.current) (without_same cur x.key n now ∙ same) same)) (other_entries e.keyed.table e'.keyed.table m _ entries) rounds

    elsewhere : Elsewhere e.current e'.current x.key
    elsewhere = rw current (by_last (current_without cur x.key n) cur (λ m. Elsewhere e.current m x.key) (without_twice cur start.current) start.current)

    pub empty_changed : Changed once e fs f n m x.key e' None
    empty_changed = gone_changed once e fs kept i f x there n m r s cur p start e' c run s.listed num good entries numbers quiet rounds here elsewhere futures num_is aside (of_listed start.status) (key_by last refl start.status)

    value_by : (b : Bool) → last ≡ b → Status once e n m x.key s cur p → get (table_seen e).values x.key ≡ value_at e'.keyed.table num
    value_by true is (Current listed none now num_p nothing) = nothing ∙ sym (ap (value_at e'.keyed.table) (num_by true is ∙ ap (λ b. cond (b && true) None p) listed))
    value_by false is (Current listed none now num_p nothing) = nothing ∙ sym (ap (value_at e'.keyed.table) (num_more is ∙ num_p) ∙ ap value_of (entries.changed ∙ one_less (with_cell s c) (last_entry false is)) ∙ empty)
    value_by b is (Full v listed full now num_p map_only _) = absurd (cc)
    value_by b is (Aside unlisted key other num_p same now) = sym (ap (value_at e'.keyed.table) (aside unlisted ∙ num_p) ∙ aside_value once e fs kept i f x there n m r s cur p start e' other (other_entries e.keyed.table e'.keyed.table m _ entries))

    pub empty_seen : table_seen e' ≡ tables.left x.key n (r.callers - 1) (tables.closed once x.key n c.value with_round)
    empty_seen =
        gone_seen once e fs kept i f x there n m r s cur p start e' c run s.listed num good entries numbers quiet rounds here elsewhere futures num_is aside (of_listed start.status) (key_by last refl start.status) with_round
        (left_current x.key n (r.callers - 1) with_round ∙ ap (λ b. cond b (current_without cur x.key n) cur) last_now ∙ sym current)
        (λ q apart. get-other (table_seen e).rounds n q seen_cell apart) (get-there (table_seen e).rounds n seen_cell) (λ j apart. refl) (value_by last refl start.status)
        ∙ ap (λ v. tables.left x.key n (r.callers - 1) (tables.closed once x.key n v with_round)) (sym empty)
      where
        last_now : (r.callers - 1 == 0) ≡ last
        last_now = last_by once e fs kept i f x there n m r s cur p start e' c run s.listed num good entries numbers quiet rounds here elsewhere futures num_is aside (of_listed start.status) (key_by last refl start.status)

  -- ---- it has a value
  module _ (v : ℕ) (full : c.value ≡ Some v) (either : (s.cell.value ≡ c.value) ⊎ (s.cell.value ≡ None)) (entries : Changes e.keyed.table.slots e'.keyed.table.slots m (without_caller (record (with_cell s c) { listed = s.listed && not once })))
      (numbers : (j : ℕ) → number e'.keyed j ≡ cond (nat_eq x.key j) (cond (s.listed && once) None p) (number e.keyed j))
      (current : e'.current ≡ cond last (current_without (current_without cur x.key n) x.key n) (current_without cur x.key n)) where
    abbrev left_entry : Entry
    left_entry = record (with_cell s c) { listed = s.listed && not once }

    abbrev num_f : Option ℕ
    num_f = cond (s.listed && once) None p

    own_number_f : number e'.keyed x.key ≡ num_f
    own_number_f = numbers x.key ∙ ap (λ b. cond b num_f (number e.keyed x.key)) (eq-eqb x.key x.key refl)

    num_is_f : (num_f ≡ None) ⊎ (num_f ≡ p)
    num_is_f = elim (s.listed && once) as (λ b. (cond b None p ≡ None) ⊎ (cond b None p ≡ p)) [ true ↦ inl refl | false ↦ inr refl ]

    aside_f : s.listed ≡ false → num_f ≡ p
    aside_f unlisted = ap (λ b. cond (b && once) None p) unlisted

    -- of a map
    num_map : once ≡ false → num_f ≡ p
    num_map is = ap (λ b. cond (s.listed && b) None p) is ∙ ap (λ b. cond b None p) (and-false s.listed)

    listed_map : once ≡ false → s.listed ≡ true → left_entry.listed ≡ true
    listed_map is listed = ap (λ b. s.listed && not b) is ∙ and-true s.listed ∙ listed

    stays_there : once ≡ false → s.listed ≡ true → entry_at e'.keyed.table m ≡ Some (record left_entry { callers = s.callers - 1 })
    stays_there is listed = entries.changed ∙ full_left left_entry v full (listed_map is listed)

    of_listed_f : Status once e n m x.key s cur p → last ≡ false → left_entry.listed ≡ true → num_f ≡ Some m
    of_listed_f status more listed = at once refl status
      where
        at : (b : Bool) → once ≡ b → Status once e n m x.key s cur p → num_f ≡ Some m
        at true is _ = absurd (let none : left_entry.listed ≡ false = ap (λ b. s.listed && not b) is ∙ and-false s.listed in cc)
        at false is (Current _ none now num_p _) = num_map is ∙ num_p
        at false is (Full u _ some now num_p map_only _) = num_map is ∙ num_p
        at false is (Aside unlisted key other num_p same now) = absurd (let none : left_entry.listed ≡ false = ap (λ l. l && not once) unlisted in cc)

    -- its key has no current round
    no_current : get (current_without cur x.key n) x.key ≡ None → get e'.current x.key ≡ None
    no_current none = ap (λ m. get m x.key) current ∙ by_last (current_without (current_without cur x.key n) x.key n) (current_without cur x.key n) (λ m. get m x.key ≡ None) (without_none (current_without cur x.key n) x.key n none) none

    has_round : once ≡ false → s.listed ≡ true → (b : Bool) → last ≡ b → (r.callers ≡ 1 → c.permit.queue ≡ []) → HasRound e' x.key m (record left_entry { callers = s.callers - 1 })
    has_round is listed true now queue = inl (let one = eqb-true r.callers 1 now in let same = start.callers in omega arith, queue (eqb-true r.callers 1 now))
    has_round is listed false now queue =
        let not_one : r.callers ≡ 1 → ⊥ = λ same. absurd (let t : (r.callers == 1) ≡ true = eq-eqb r.callers 1 same in cc) in
        inr (n, record r { running = run; callers = r.callers - 1 }, here ∙ ap (λ b. cond b None (Some (record r { running = run; callers = r.callers - 1 }))) now, start.at not_one, start.key)

    elsewhere_f : Elsewhere e.current e'.current x.key
    elsewhere_f = rw current (by_last (current_without (current_without cur x.key n) x.key n) (current_without cur x.key n) (λ m. Elsewhere e.current m x.key) (without_twice (current_without cur x.key n) (without_twice cur start.current)) (without_twice cur start.current))

    queue_of : r.callers ≡ 1 → c.permit.queue ≡ []
    queue_of one = no_queue false (cell_of (rested c) run (r.callers - 1)) _ good (omega arith)

    key_f : Status once e n m x.key s cur p → IsKey once e' x.key
    key_f (Current listed none now num_p _) = at once refl
      where
        nobody : get e'.current x.key ≡ None
        nobody = no_current (without_gone cur x.key n now)

        at : (b : Bool) → once ≡ b → IsKey once e' x.key
        at true is = Absent (own_number_f ∙ ap (λ b. cond (b && once) None p) listed ∙ ap (λ b. cond b None p) is) nobody
        at false is = Valued m v (record left_entry { callers = s.callers - 1 }) (own_number_f ∙ num_map is ∙ num_p) nobody (stays_there is listed) full (listed_map is listed) is (has_round is listed last refl queue_of)
    key_f (Full u listed some now num_p is _) =
        Valued m v (record left_entry { callers = s.callers - 1 }) (own_number_f ∙ num_map is ∙ num_p) (no_current (without_none cur x.key n now)) (stays_there is listed) full (listed_map is listed) is (has_round is listed last refl queue_of)
    key_f (Aside unlisted key other num_p same now) = aside_key once e fs kept i f x there n m r s cur p start e' key other (own_number_f ∙ aside_f unlisted ∙ num_p) (ap (λ m. get m x.key) still) (other_entries e.keyed.table e'.keyed.table m _ entries) rounds
      where
        once_same : current_without cur x.key n ≡ cur
        once_same = without_same cur x.key n now

        still : e'.current ≡ e.current
        still = current ∙ by_last (current_without (current_without cur x.key n) x.key n) (current_without cur x.key n) (λ m. m ≡ e.current) (ap (λ m. current_without m x.key n) once_same ∙ once_same ∙ same) (once_same ∙ same)

    pub full_changed : Changed once e fs f n m x.key e' None
    full_changed = gone_changed once e fs kept i f x there n m r s cur p start e' c run left_entry.listed num_f good entries numbers quiet rounds here elsewhere_f futures num_is_f aside_f (of_listed_f start.status) (key_f start.status)

    -- what the model closes
    abbrev closed_round : Table
    closed_round = tables.closed once x.key n (Some v) with_round

    values_after : (b : Bool) → is_this n (get cur x.key) ≡ b → closed_round.values ≡ cond b (if once then (table_seen e).values else insert (table_seen e).values x.key v) (table_seen e).values
    values_after b is = closed_values once x.key n v with_round ∙ ap (λ b. cond b (if once then (table_seen e).values else insert (table_seen e).values x.key v) (table_seen e).values) is

    values_elsewhere : Elsewhere (table_seen e).values closed_round.values x.key
    values_elsewhere j apart = ap (λ (m : Names ℕ). get m j) (closed_values once x.key n v with_round) ∙ (elim (is_this n (get cur x.key)) as (λ b. get (cond b (if once then (table_seen e).values else insert (table_seen e).values x.key v) (table_seen e).values) j ≡ get (table_seen e).values j) [
      | true ↦ elim once as (λ b. get (if b then (table_seen e).values else insert (table_seen e).values x.key v) j ≡ get (table_seen e).values j) [ true ↦ refl | false ↦ get-other (table_seen e).values x.key j v apart ]
      | false ↦ refl
    ])

    value_f : Status once e n m x.key s cur p → get closed_round.values x.key ≡ value_at e'.keyed.table num_f
    value_f (Current listed none now num_p nothing) = at once refl
      where
        so : closed_round.values ≡ (if once then (table_seen e).values else insert (table_seen e).values x.key v)
        so = values_after true (ap (is_this n) now ∙ eq-eqb n n refl)

        at : (b : Bool) → once ≡ b → get closed_round.values x.key ≡ value_at e'.keyed.table num_f
        at true is = ap (λ (m : Names ℕ). get m x.key) so ∙ ap (λ b. get (if b then (table_seen e).values else insert (table_seen e).values x.key v) x.key) is ∙ nothing ∙ sym (ap (value_at e'.keyed.table) (ap (λ b. cond (b && once) None p) listed ∙ ap (λ b. cond b None p) is))
        at false is = ap (λ (m : Names ℕ). get m x.key) so ∙ ap (λ b. get (if b then (table_seen e).values else insert (table_seen e).values x.key v) x.key) is ∙ get-there (table_seen e).values x.key v
            ∙ sym (ap (value_at e'.keyed.table) (num_map is ∙ num_p) ∙ ap value_of (stays_there is listed) ∙ full)
    value_f (Full u listed some now num_p is had) =
        ap (λ (m : Names ℕ). get m x.key) (values_after false (ap (is_this n) now)) ∙ had ∙ sym (ap (value_at e'.keyed.table) (num_map is ∙ num_p) ∙ ap value_of (stays_there is listed) ∙ same_value)
      where
        same_value : c.value ≡ Some u
        same_value = elim either as (λ x. c.value ≡ Some u) [ inl same ↦ sym same ∙ some | inr none ↦ absurd (cc) ]
    value_f (Aside unlisted key other num_p same now) =
        ap (λ (m : Names ℕ). get m x.key) (values_after false now) ∙ sym (ap (value_at e'.keyed.table) (aside_f unlisted ∙ num_p) ∙ aside_value once e fs kept i f x there n m r s cur p start e' other (other_entries e.keyed.table e'.keyed.table m _ entries))

    pub full_seen : table_seen e' ≡ tables.left x.key n (r.callers - 1) (tables.closed once x.key n c.value with_round)
    full_seen =
        gone_seen once e fs kept i f x there n m r s cur p start e' c run left_entry.listed num_f good entries numbers quiet rounds here elsewhere_f futures num_is_f aside_f (of_listed_f start.status) (key_f start.status) closed_round
        (left_current x.key n (r.callers - 1) closed_round ∙ ap (λ m. cond (r.callers - 1 == 0) (current_without m x.key n) m) (closed_current once x.key n v with_round) ∙ ap (λ b. cond b (current_without (current_without cur x.key n) x.key n) (current_without cur x.key n)) last_now ∙ sym current)
        (λ q apart. ap (λ (m : Names Cell). get m q) (closed_rounds once x.key n v with_round) ∙ get-other (table_seen e).rounds n q seen_cell apart) (ap (λ (m : Names Cell). get m n) (closed_rounds once x.key n v with_round) ∙ get-there (table_seen e).rounds n seen_cell) values_elsewhere (value_f start.status)
        ∙ ap (λ v. tables.left x.key n (r.callers - 1) (tables.closed once x.key n v with_round)) (sym full)
      where
        last_now : (r.callers - 1 == 0) ≡ last
        last_now = last_by once e fs kept i f x there n m r s cur p start e' c run left_entry.listed num_f good entries numbers quiet rounds here elsewhere_f futures num_is_f aside_f (of_listed_f start.status) (key_f start.status)
