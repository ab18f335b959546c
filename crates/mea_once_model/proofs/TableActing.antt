-- what each action on maps and groups changes: one of them, one of its rounds and one future at the most
use Rattle.std.proofs.Common.{◌≡◌, ℕ, ◌+◌, ◌≤◌, ◌==◌, Bool, cond, length, List, [], Option, Some, None, refl, ap, subst, arith}
use Rattle.std.specs.FinMap.{get, insert, remove}
use Rattle.std.proofs.lemmas.Bool.{eqb-true}
use Rattle.mea_family.specs.declared.answer.Answer.{Answer}
use Rattle.mea_family.specs.declared.answer.Answer.TheVariants as answers
use Rattle.mea_family.specs.Family.{Outcome, quietly}
use Rattle.mea_base.specs.Totals.{total, weight}
use Rattle.mea_base.proofs.Maps.{total-gone, total-has}
use Rattle.mea_base.proofs.Totals.{total-insert, total-remove, total-empty}
use Rattle.mea_by_name.specs.ByName.{Names}
use Rattle.mea_by_name.specs.NamedQueue as named_queue
use Rattle.mea_by_name.proofs.Cases.{by_found, by_if}
use Rattle.mea_by_name.proofs.NamedQueues.{Local}
use Rattle.mea_by_name.proofs.OneObject.{Counted, counted_same}
use Rattle.mea_once_model.specs.declared.errand.Initialiser.{Initialiser}
use Rattle.mea_once_model.specs.Cells as cells
use Rattle.mea_once_model.specs.Cells.{Cell, CellFuture, Step, waiting_at, new_cell}
use Rattle.mea_once_model.specs.Tables as tables
use Rattle.mea_once_model.specs.Tables.{Table, KeyFuture, Tables, is_current, closed, left_by, at_round, caller, others_of, without_key, new_table, registered}
use Rattle.mea_once_model.specs.KeyActions.{KeyAction, MakeTable, BeginKey, PollKey, SettleKey, EndKey, TellKey, DiscardKey, RemoveKey, DropTable, key_act, key_registers, with_future}
use Rattle.mea_once_model.proofs.Acting.{Fine, polls, ends_local, settles_local}

-- ---- the rounds of a map or group after a step at one of them
pub closed-rounds : (once : Bool) (k n : ℕ) (v : Option ℕ) (t : Table) → (closed once k n v t).rounds ≡ t.rounds
closed-rounds once k n None t = refl
closed-rounds once k n (Some v) t = by_if (λ (s : Table). s.rounds ≡ t.rounds) (is_current t k n) _ _ (λ is. refl) (λ is. refl)

-- what holds of the rounds after a step, whether the round is gone with its last caller or stays
pub by_rounds : (P : Names Cell → Type 0) (once : Bool) (x : KeyFuture) (n others : ℕ) (t : Table) (s : Step) → P (insert t.rounds n s.cell) → (s.future ≡ None → others ≡ 0 → P (remove (insert t.rounds n s.cell) n))
    → P (at_round once x n others t s).table.rounds
by_rounds P once x n others t s stays goes = by_future s.future refl
  where
    after : Table
    after = closed once x.key n s.cell.value (record t { rounds = insert t.rounds n s.cell })

    same : after.rounds ≡ insert t.rounds n s.cell
    same = closed-rounds once x.key n s.cell.value (record t { rounds = insert t.rounds n s.cell })

    by_future : (p : Option CellFuture) → s.future ≡ p → P (left_by p x.key n others after).rounds
    by_future None over = by_if (λ (u : Table). P u.rounds) (others == 0) _ _ (λ is. rw (same) (goes over (eqb-true others 0 is))) (λ is. rw (same) stays)
    by_future (Some y) over = rw (same) stays

-- what is done with a future and with its map or group, where both are there
pub by_both : (P : Outcome Tables → Type 0) (h : Tables) (f : ℕ) (act : KeyFuture → Table → Outcome Tables) → P (quietly h answers.Done) → ((x : KeyFuture) (t : Table) → get h.futures f ≡ Some x → get h.tables x.table ≡ Some t → P (act x t)) → P (with_future h f act)
by_both P h f act still some = by_found P (get h.futures f) h _ still (λ x future. by_found P (get h.tables x.table) h _ still (λ t there. some x t future there))

-- ---- how many wakers are registered
abbrev size : ℕ → Cell → ℕ
size n c = length (waiting_at c)

weight-least : (m : Names Cell) (n : ℕ) → weight size n (get m n) ≤ total size m
weight-least m n = omega (arith, total-remove size m n)

-- a step at a round that was there, or at a new one
module _ (t : Table) (n : ℕ) (c : Cell) (s : Step) (k more : ℕ) (had : length (waiting_at c) ≤ weight size n (get t.rounds n)) (local : Local (waiting_at c) (waiting_at s.cell) s.wakes k more) where
  put-counted : Counted waiting_at t.rounds (insert t.rounds n s.cell) s.wakes more
  put-counted = record {
    most = omega (arith, had, local.most, weight-least t.rounds n);
    grows = omega (arith, had, local.fits, total-insert size t.rounds n s.cell);
  }

  round-counted : (once : Bool) (x : KeyFuture) (others : ℕ) → Counted waiting_at t.rounds (at_round once x n others t s).table.rounds s.wakes more
  round-counted once x others = by_rounds (λ rs. Counted waiting_at t.rounds rs s.wakes more) once x n others t s put-counted
      (λ over none. record { most = put-counted.most; grows = omega (arith, put-counted.grows, total-gone size (insert t.rounds n s.cell) n) })

-- at most so many more are registered after an event
pub record Counts (h : Tables) (extra : ℕ) (o : Outcome Tables) : Type 0 where
  pub most : length o.wakes ≤ registered h
  pub grows : registered o.hall + length o.wakes ≤ registered h + extra

abbrev rounds_size : ℕ → Table → ℕ
rounds_size o t = named_queue.registered waiting_at t.rounds

module _ (h : Tables) (extra : ℕ) where
  counts_same : (o : Outcome Tables) → o.hall.tables ≡ h.tables → o.wakes ≡ [] → Counts h extra o
  counts_same o same silent = rw (silent) (record { most = omega arith; grows = rw (same) (omega arith) })

  counts_put : (o : ℕ) (t t' : Table) (fs : Names KeyFuture) (reply : Answer) (ws : List ℕ) (more : ℕ) → get h.tables o ≡ Some t → Counted waiting_at t.rounds t'.rounds ws more → more ≤ extra
      → Counts h extra (record { hall = record { tables = insert h.tables o t'; futures = fs }; reply = reply; wakes = ws })
  counts_put o t t' fs reply ws more there counted few =
      let here : weight rounds_size o (get h.tables o) ≡ rounds_size o t = ap (weight rounds_size o) there in
      let all = total-insert rounds_size h.tables o t' in
      let had = total-has rounds_size h.tables o t there in
      record { most = omega (arith, had, counted.most); grows = omega (arith, here, all, counted.grows, few) }

  still : Counts h extra (quietly h answers.Done)
  still = counts_same (quietly h answers.Done) refl refl

  -- a step at a round
  module _ (once : Bool) (f : ℕ) (x : KeyFuture) (t : Table) (there : get h.tables x.table ≡ Some t) where
    counts_step : (n : ℕ) (u : Table) (c : Cell) (s : Step) (k : ℕ) → u.rounds ≡ t.rounds → length (waiting_at c) ≤ weight size n (get u.rounds n) → Fine (caller x) c k extra s
        → Counts h extra (tables.applied h f x.table (at_round once x n (others_of h f x.table n) u s))
    counts_step n u c s k same had fine = counts_put x.table t _ _ s.reply s.wakes fine.more there
        (subst (λ rs. Counted waiting_at rs (at_round once x n (others_of h f x.table n) u s).table.rounds s.wakes fine.more) same (round-counted u n c s k fine.more had fine.local once x (others_of h f x.table n)))
        fine.few

    counts_in : (n k : ℕ) (act : CellFuture → Cell → Step) → ((c : Cell) → Fine (caller x) c k extra (act (caller x) c)) → Counts h extra (tables.in_round once h f x t act n)
    counts_in n k act fine = by_found (Counts h extra) (get t.rounds n) h _ still
        (λ c is. counts_step n t c _ k refl (let here : weight size n (get t.rounds n) ≡ length (waiting_at c) = ap (weight size n) is in omega (arith, here)) (fine c))

module _ (once : Bool) (h : Tables) (i f w : ℕ) (x : KeyFuture) (t : Table) (there : get h.tables x.table ≡ Some t) where
  counts_join : (p : Option ℕ) → Counts h 1 (tables.join_round once h i f w x t p)
  counts_join None = counts_step h 1 once f x t there i (record t { current = insert t.current x.key i }) (new_cell None) _ f refl (omega arith) (polls f w (caller x) (new_cell None))
  counts_join (Some n) = counts_in h 1 once f x t there n f (cells.poll f w) (λ c. polls f w (caller x) c)

  counts_first : (p : Option ℕ) → Counts h 1 (tables.first_poll once h i f w x t p)
  counts_first None = counts_join (get t.current x.key)
  counts_first (Some v) = counts_put h 1 x.table t t _ _ [] 0 there (counted_same waiting_at t.rounds 0) (omega arith)

  counts_poll : (p : Option ℕ) → Counts h 1 (tables.poll once h i f w x t p)
  counts_poll None = counts_first (get t.values x.key)
  counts_poll (Some n) = counts_in h 1 once f x t there n f (cells.poll f w) (λ c. polls f w (caller x) c)

module _ (once : Bool) (h : Tables) (f : ℕ) (x : KeyFuture) where
  counts_settle : (r : Initialiser) (t : Table) → get h.tables x.table ≡ Some t → (p : Option ℕ) → Counts h 0 (tables.settle once h f r x t p)
  counts_settle r t there None = counts_same h 0 _ refl refl
  counts_settle r t there (Some n) = counts_in h 0 once f x t there n f (cells.settle f r) (λ c. settles_local f f r (caller x) c)

  counts_end_at : (t : Table) → get h.tables x.table ≡ Some t → (n : ℕ) (p : Option Cell) → get t.rounds n ≡ p → Counts h 0 (tables.end_at once h f x t n p)
  counts_end_at t there n None is = counts_same h 0 _ refl refl
  counts_end_at t there n (Some c) is = counts_step h 0 once f x t there n t c _ f refl
      (let here : weight size n (get t.rounds n) ≡ length (waiting_at c) = ap (weight size n) is in omega (arith, here)) (ends_local f 0 (caller x) c)

  counts_end_in : (t : Table) → get h.tables x.table ≡ Some t → (p : Option ℕ) → Counts h 0 (tables.end_in once h f x t p)
  counts_end_in t there None = counts_same h 0 _ refl refl
  counts_end_in t there (Some n) = counts_end_at t there n (get t.rounds n) refl

  counts_end : (p : Option Table) → get h.tables x.table ≡ p → Counts h 0 (tables.end once h f x p)
  counts_end None there = counts_same h 0 _ refl refl
  counts_end (Some t) there = counts_end_in t there x.round

module _ (once : Bool) (h : Tables) (i : ℕ) where
  without : (o k : ℕ) (reply : Answer) (t : Table) → get h.tables o ≡ Some t → Counts h 0 (quietly (tables.with_table h o (without_key k t)) reply)
  without o k reply t there = counts_put h 0 o t (without_key k t) h.futures reply [] 0 there (counted_same waiting_at t.rounds 0) (omega arith)

  pub counted : (a : KeyAction) → Counts h (cond (key_registers a) 1 0) (key_act once h i a)
  counted MakeTable = record { most = omega arith; grows = omega (arith, total-insert rounds_size h.tables i new_table, total-empty {X = Cell} size) }
  counted (BeginKey o k) = counts_same h 0 _ refl refl
  counted (PollKey f w) = by_both (Counts h 1) h f _ (still h 1) (λ x t future there. counts_poll once h i f w x t there x.round)
  counted (SettleKey f r) = by_both (Counts h 0) h f _ (still h 0) (λ x t future there. counts_settle once h f x r t there x.round)
  counted (EndKey f) = by_found (Counts h 0) (get h.futures f) h _ (still h 0) (λ x is. counts_end once h f x (get h.tables x.table) refl)
  counted (TellKey o k) = by_found (Counts h 0) (get h.tables o) h _ (still h 0) (λ t there. counts_same h 0 _ refl refl)
  counted (DiscardKey o k) = by_found (Counts h 0) (get h.tables o) h _ (still h 0) (λ t there. without o k answers.Done t there)
  counted (RemoveKey o k) = by_found (Counts h 0) (get h.tables o) h _ (still h 0) (λ t there. without o k _ t there)
  counted (DropTable o) = by_found (Counts h 0) (get h.tables o) h _ (still h 0) (λ t there. record { most = omega arith; grows = omega (arith, total-gone rounds_size h.tables o) })
