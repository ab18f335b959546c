-- what an event changes of maps, or of groups, their rounds and their futures
use Rattle.std.proofs.Common.{◌≡◌, ℕ, ◌+◌, ◌<◌, ◌≤◌, ◌==◌, ◌⊎◌, inl, inr, Bool, true, cond, List, [], Option, Some, None, IsSome, refl, ap, sym, subst, ◌∙◌, arith, if◌then◌else◌}
use Rattle.std.specs.List.{Contains}
use Rattle.std.specs.FinMap.{get, insert, remove}
use Rattle.std.proofs.lemmas.Bool.{eqb-true, eq-eqb}
use Rattle.mea_family.specs.declared.answer.Answer.{Answer}
use Rattle.mea_family.specs.declared.answer.Answer.TheVariants as answers
use Rattle.mea_family.specs.Family.{Outcome, quietly}
use Rattle.mea_base.proofs.Maps.{by_put, by_gone, get-other, get-gone, get-removed_other, removed_there, total-has, inside, is_there, value_in}
use Rattle.mea_family.proofs.Causes.{known}
use Rattle.mea_by_name.specs.ByName.{Names, own}
use Rattle.mea_by_name.specs.NamedQueue.{Waiting, waker_for, queue_of}
use Rattle.mea_family.specs.Play.{found}
use Rattle.mea_by_name.proofs.Cases.{by_found, by_if}
use Rattle.mea_by_name.proofs.OneObject.{IsBelow, Touches, None_is, Polled, Ends}
use Rattle.mea_by_name.proofs.Own.{own-at, own-nothing}
use Rattle.mea_once_model.specs.declared.errand.Initialiser.{Initialiser}
use Rattle.mea_once_model.specs.Cells as cells
use Rattle.mea_once_model.specs.Cells.{Cell, CellFuture, Step, waiting_at, new_cell}
use Rattle.mea_once_model.specs.Tables as tables
use Rattle.mea_once_model.specs.Tables.{Table, KeyFuture, Tables, is_this, is_current, closed, left, left_by, at_round, caller, caller_after, others_of, without_key, new_table, futures_of, is_table}
use Rattle.mea_once_model.specs.KeyActions.{KeyAction, MakeTable, BeginKey, PollKey, SettleKey, EndKey, TellKey, DiscardKey, RemoveKey, DropTable, key_act, key_cause, key_polled, key_ends}
use Rattle.mea_once_model.proofs.Acting.{Fine, polls, ends_local, settles_local, ends_gone}
use Rattle.mea_family.proofs.Refusals.{not_borrowed}
use Rattle.mea_once_model.proofs.TableActing.{by_rounds, by_both}

-- ---- names stay below the next number: of maps and groups, of futures, and of rounds
pub record Below (m : Names ℕ) (n : ℕ) : Type 0 where
  pub at : (k v : ℕ) → get m k ≡ Some v → v < n

pub record LowTables (h : Tables) (n : ℕ) : Type 0 where
  pub lows : IsBelow h.tables n
  pub below : (f : ℕ) (x : KeyFuture) → get h.futures f ≡ Some x → (f < n) × (x.table < n)
  pub current : (o : ℕ) (t : Table) → get h.tables o ≡ Some t → Below t.current n
  pub rounds : (f m : ℕ) (x : KeyFuture) → get h.futures f ≡ Some x → x.round ≡ Some m → m < n

below_without : (m : Names ℕ) (n k : ℕ) → Below m n → Below (remove m k) n
below_without m n k below = record { at = λ j v is. below.at j v (removed_there m k j v is) }

below_with : (m : Names ℕ) (n i k : ℕ) → Below m n → n ≤ i → Below (insert m k i) (i + 1)
below_with m n i k below later = record { at = by_put m k i (λ j o. (v : ℕ) → o ≡ Some v → v < i + 1) (λ v is. let same : i ≡ v = inside is in omega (arith, same)) (λ j apart v is. omega (arith, below.at j v is)) }

below_closed : (n : ℕ) (once : Bool) (k r : ℕ) (v : Option ℕ) (t : Table) → Below t.current n → Below (closed once k r v t).current n
below_closed n once k r None t below = below
below_closed n once k r (Some v) t below = by_if (λ (s : Table). Below s.current n) (is_current t k r) _ _ (λ is. below_without t.current n k below) (λ is. below)

below_left : (n k r others : ℕ) (t : Table) → Below t.current n → Below (left k r others t).current n
below_left n k r others t below = by_if (λ (s : Table). Below s.current n) (others == 0) (record t { rounds = remove t.rounds r; current = if is_current t k r then remove t.current k else t.current }) t
    (λ is. by_if (λ (m : Names ℕ). Below m n) (is_current t k r) _ _ (λ is. below_without t.current n k below) (λ is. below)) (λ is. below)

below_step : (n : ℕ) (once : Bool) (x : KeyFuture) (r others : ℕ) (t : Table) (s : Step) → Below t.current n → Below (at_round once x r others t s).table.current n
below_step n once x r others t s below = by_future s.future
  where
    after : Table
    after = closed once x.key r s.cell.value (record t { rounds = insert t.rounds r s.cell })

    fits : Below after.current n
    fits = below_closed n once x.key r s.cell.value (record t { rounds = insert t.rounds r s.cell }) below

    by_future : (p : Option CellFuture) → Below (left_by p x.key r others after).current n
    by_future None = below_left n x.key r others after fits
    by_future (Some y) = fits

-- ---- what an event of number i does, which touches the future k at the most, and wakes ws
-- the callers of the rounds of the map or group o, but k, keep their wakers or are woken
pub record RoundsKeep (h : Tables) (o : ℕ) (rs rs' : Names Cell) (ws : List ℕ) (k : ℕ) : Type 0 where
  pub keeps : (g w n : ℕ) (y : KeyFuture) → (k ≡ g → ⊥) → get h.futures g ≡ Some y → y.table ≡ o → y.round ≡ Some n
      → waker_for (queue_of waiting_at (get rs n)) g ≡ Some w → (waker_for (queue_of waiting_at (get rs' n)) g ≡ Some w) ⊎ Contains ws w

pub data TablesGo (h : Tables) (i k : ℕ) : Names Table → List ℕ → Type 0 where
  Same : TablesGo h i k h.tables []
  Put : (o : ℕ) (t t' : Table) (ws : List ℕ) → get h.tables o ≡ Some t → RoundsKeep h o t.rounds t'.rounds ws k → Below t'.current (i + 1) → TablesGo h i k (insert h.tables o t') ws
  Made : TablesGo h i k (insert h.tables i new_table) []
  Gone : (o : ℕ) → ((f : ℕ) (x : KeyFuture) → get h.futures f ≡ Some x → o ≡ x.table → ⊥) → TablesGo h i k (remove h.tables o) []

-- of whom a future is, and who waits there, as far as names go
abbrev pub silent : Table → Waiting
silent t = []

abbrev pub of_table : KeyFuture → ℕ
of_table x = x.table

-- a future that is there after an event
pub record Fits (h : Tables) (i f : ℕ) (y : KeyFuture) : Type 0 where
  pub small : f < i + 1
  pub home : y.table < i + 1
  pub round : (m : ℕ) → y.round ≡ Some m → m < i + 1
  pub made : IsSome (get h.futures f) ⊎ (f ≡ i)

-- a future is there still, with its map or group and its round
pub record StillAt (y : KeyFuture) (p : Option KeyFuture) : Type 0 where
  pub future : KeyFuture
  pub there : p ≡ Some future
  pub table : future.table ≡ y.table
  pub round : future.round ≡ y.round

pub record KeyGoes (h : Tables) (i : ℕ) (a : KeyAction) (o : Outcome Tables) : Type 0 where
  pub k : ℕ
  pub touches : Touches silent of_table (key_polled a) (key_ends a) i k
  pub tables : TablesGo h i k o.hall.tables o.wakes
  pub others : (g : ℕ) (y : KeyFuture) → (k ≡ g → ⊥) → get h.futures g ≡ Some y → StillAt y (get o.hall.futures g)
  pub each : (g : ℕ) (y : KeyFuture) → get o.hall.futures g ≡ Some y → Fits h i g y
  pub over : (f : ℕ) → key_ends a f ≡ true → get o.hall.futures f ≡ None

still_same : (fs : Names KeyFuture) (g : ℕ) (y : KeyFuture) → get fs g ≡ Some y → StillAt y (get fs g)
still_same fs g y is = record { future = y; there = is; table = refl; round = refl }

module _ (h : Tables) (n i : ℕ) (low : LowTables h n) (later : n ≤ i) where
  fits_old : (f : ℕ) (y : KeyFuture) → get h.futures f ≡ Some y → Fits h i f y
  fits_old f y is = record {
    small = omega (arith, (low.below f y is).0, later);
    home = omega (arith, (low.below f y is).1, later);
    round = λ m is_round. omega (arith, low.rounds f m y is is_round, later);
    made = inl (is_there (get h.futures f) y is);
  }

  -- what was below the number of an event is below the next
  pub later_below : (o : ℕ) (t : Table) → get h.tables o ≡ Some t → Below t.current (i + 1)
  later_below o t there = record { at = λ k v is. omega (arith, (low.current o t there).at k v is, later) }

  -- a future that has no other caller beside it in its round
  pub none_other : (f g o m : ℕ) (y : KeyFuture) → others_of h f o m ≡ 0 → (f ≡ g → ⊥) → get h.futures g ≡ Some y → y.table ≡ o → y.round ≡ Some m → ⊥
  none_other f g o m y none apart there mine round =
      let here = own-at (λ (x : KeyFuture). x.table) o (remove h.futures f) g y (get-removed_other h.futures f g apart ∙ there) mine in
      let one : ◌≡◌ {A = ℕ} (cond (is_this m y.round) 1 0) 1 = ap (λ r. cond (is_this m r) 1 0) round ∙ ap (λ b. cond b 1 0) (eq-eqb m m refl) in
      absurd (omega (arith, none, one, total-has (λ k (x : KeyFuture). cond (is_this m x.round) 1 0) (own (λ (x : KeyFuture). x.table) o (remove h.futures f)) g y here))

  -- ---- an event that changes no future
  as_before : (a : KeyAction) → ((f : ℕ) → key_ends a f ≡ true → get h.futures f ≡ None) → (ts : Names Table) (reply : Answer) → TablesGo h i i ts [] → KeyGoes h i a (quietly (record h { tables = ts }) reply)
  as_before a over ts reply go = record { k = i; touches = None_is refl; tables = go; others = λ g y apart is. still_same h.futures g y is; each = fits_old; over = over }

  -- ---- an event that ends nobody
  module _ (a : KeyAction) (none : (f : ℕ) → key_ends a f ≡ true → ⊥) where
    tells : (reply : Answer) → KeyGoes h i a (quietly h reply)
    tells reply = as_before a (λ f is. absurd (none f is)) h.tables reply Same

    still : KeyGoes h i a (quietly h answers.Done)
    still = tells answers.Done

    without : (o k : ℕ) (reply : Answer) (t : Table) → get h.tables o ≡ Some t → KeyGoes h i a (quietly (tables.with_table h o (without_key k t)) reply)
    without o k reply t there = as_before a (λ f is. absurd (none f is)) _ reply
        (Put o t (without_key k t) [] there (record { keeps = λ g w n y apart is mine round placed. inl placed }) (below_without t.current (i + 1) k (later_below o t there)))

    -- a further future
    begins : (o : ℕ) (z : KeyFuture) → z.table ≡ o → z.round ≡ None → is_table h o ≡ true → KeyGoes h i a (quietly (record h { futures = insert h.futures i z }) answers.Made)
    begins o z home new known =
        let there = value_in (get h.tables o) known in
        record {
          k = i;
          touches = None_is refl;
          tables = Same;
          others = λ g y apart is. record { future = y; there = get-other h.futures i g z apart ∙ is; table = refl; round = refl };
          each = by_put h.futures i z (λ g p. (y : KeyFuture) → p ≡ Some y → Fits h i g y)
              (λ y is. let same : z ≡ y = inside is in
              rw (← same) (record { small = omega arith; home = omega (arith, home, later, low.lows.at o there.0 there.1); round = λ m round. absurd (let none = sym new ∙ round in cc); made = inr refl }))
              (λ g apart y is. fits_old g y is);
          over = λ f is. absurd (none f is);
        }

  -- ---- one future changes, or is gone
  module _ (f : ℕ) (x : KeyFuture) (future : get h.futures f ≡ Some x) where
    changed : (z : KeyFuture) → z.table ≡ x.table → ((m : ℕ) → z.round ≡ Some m → m < i + 1) → (g : ℕ) (y : KeyFuture) → get (insert h.futures f z) g ≡ Some y → Fits h i g y
    changed z home round = by_put h.futures f z (λ g p. (y : KeyFuture) → p ≡ Some y → Fits h i g y)
        (λ y is. let same : z ≡ y = inside is in let old = fits_old f x future in rw (← same) (record { small = old.small; home = omega (arith, old.home, home); round = round; made = old.made }))
        (λ g apart y is. fits_old g y is)

    -- a future whose initialiser alone changes is there still
    alike : (z : KeyFuture) → z.table ≡ x.table → z.round ≡ x.round → (g : ℕ) (y : KeyFuture) → get h.futures g ≡ Some y → StillAt y (get (insert h.futures f z) g)
    alike z home round = by_put h.futures f z (λ g p. (y : KeyFuture) → get h.futures g ≡ Some y → StillAt y p)
        (λ y is. let same : x ≡ y = inside (sym future ∙ is) in record { future = z; there = refl; table = home ∙ ap (λ (x : KeyFuture). x.table) same; round = round ∙ ap (λ (x : KeyFuture). x.round) same })
        (λ g apart y is. still_same h.futures g y is)

    after_others : (p : Option KeyFuture) (g : ℕ) (y : KeyFuture) → (f ≡ g → ⊥) → get h.futures g ≡ Some y → StillAt y (get (cells.turned_to h.futures f p) g)
    after_others None g y apart is = record { future = y; there = get-removed_other h.futures f g apart ∙ is; table = refl; round = refl }
    after_others (Some z) g y apart is = record { future = y; there = get-other h.futures f g z apart ∙ is; table = refl; round = refl }

    after_each : (r : ℕ) → r < i + 1 → (p : Option CellFuture) (g : ℕ) (y : KeyFuture) → get (cells.turned_to h.futures f (caller_after r x p)) g ≡ Some y → Fits h i g y
    after_each r small None g y is = fits_old g y (removed_there h.futures f g y is)
    after_each r small (Some z) g y is = changed (record x { init = cells.init_of z.errand; round = Some r }) refl (λ m is. let same : r ≡ m = inside is in omega (arith, same, small)) g y is

    -- it is gone
    goes_out : (a : KeyAction) → Touches silent of_table (key_polled a) (key_ends a) i f → ((g : ℕ) → key_ends a g ≡ true → g ≡ f) → (ts : Names Table) (reply : Answer) → TablesGo h i f ts [] → KeyGoes h i a (quietly (record { tables = ts; futures = remove h.futures f }) reply)
    goes_out a touches only ts reply go = record { k = f; touches = touches; tables = go; others = after_others None; each = λ g y is. fits_old g y (removed_there h.futures f g y is); over = λ g is. rw (only g is) (get-gone h.futures f) }

    module _ (once : Bool) (t : Table) (there : get h.tables x.table ≡ Some t) where
      -- a step that touches k alone, at a round whose cell is this for all callers beside
      module _ (k r extra : ℕ) (u : Table) (c : Cell) (s : Step) (same : u.rounds ≡ t.rounds) (ends : s.future ≡ None → k ≡ f)
          (had : (g w : ℕ) (y : KeyFuture) → (k ≡ g → ⊥) → get h.futures g ≡ Some y → y.table ≡ x.table → y.round ≡ Some r → waker_for (queue_of waiting_at (get u.rounds r)) g ≡ Some w → waker_for (waiting_at c) g ≡ Some w)
          (fine : Fine (caller x) c k extra s) where
        abbrev Keeps : Names Cell → Type 0
        Keeps rs = RoundsKeep h x.table u.rounds rs s.wakes k

        keeps_put : Keeps (insert u.rounds r s.cell)
        keeps_put = record {
          keeps = λ g w m y apart is mine.
              by_put u.rounds r s.cell (λ m p. y.round ≡ Some m → waker_for (queue_of waiting_at (get u.rounds m)) g ≡ Some w → (waker_for (queue_of waiting_at p) g ≡ Some w) ⊎ Contains s.wakes w)
              (λ round placed. fine.local.keeps g w apart (had g w y apart is mine round placed)) (λ m differs round placed. inl placed) m;
        }

        keeps_gone : s.future ≡ None → others_of h f x.table r ≡ 0 → Keeps (remove (insert u.rounds r s.cell) r)
        keeps_gone over none = record {
          keeps = λ g w m y apart is mine.
              by_gone (insert u.rounds r s.cell) r (λ m p. y.round ≡ Some m → waker_for (queue_of waiting_at (get u.rounds m)) g ≡ Some w → (waker_for (queue_of waiting_at p) g ≡ Some w) ⊎ Contains s.wakes w)
              (λ round placed. absurd (none_other f g x.table r y none (λ same. apart (ends over ∙ same)) is mine round)) (λ m differs round placed. keeps_put.keeps g w m y apart is mine round placed) m;
        }

        keeps_step : RoundsKeep h x.table t.rounds (at_round once x r (others_of h f x.table r) u s).table.rounds s.wakes k
        keeps_step = subst (λ rs. RoundsKeep h x.table rs (at_round once x r (others_of h f x.table r) u s).table.rounds s.wakes k) same (by_rounds Keeps once x r (others_of h f x.table r) u s keeps_put keeps_gone)

        steps : (a : KeyAction) → Touches silent of_table (key_polled a) (key_ends a) i k
            → ((g : ℕ) (y : KeyFuture) → (k ≡ g → ⊥) → get h.futures g ≡ Some y → StillAt y (get (cells.turned_to h.futures f (caller_after r x s.future)) g))
            → ((g : ℕ) → key_ends a g ≡ true → get (cells.turned_to h.futures f (caller_after r x s.future)) g ≡ None)
            → r < i + 1 → Below u.current (i + 1) → KeyGoes h i a (tables.applied h f x.table (at_round once x r (others_of h f x.table r) u s))
        steps a touches others over small below = record {
          k = k;
          touches = touches;
          tables = Put x.table t _ s.wakes there keeps_step (below_step (i + 1) once x r (others_of h f x.table r) u s below);
          others = others;
          each = after_each r small s.future;
          over = over;
        }

      -- the cell of a round that is there
      at_cell : (r : ℕ) (c : Cell) → get t.rounds r ≡ Some c → (g w : ℕ) → waker_for (queue_of waiting_at (get t.rounds r)) g ≡ Some w → waker_for (waiting_at c) g ≡ Some w
      at_cell r c is g w placed = sym (ap (λ p. waker_for (queue_of waiting_at p) g) is) ∙ placed

      -- ---- a poll
      module _ (w : ℕ) where
        nobody : (g : ℕ) → key_ends (PollKey f w) g ≡ true → ⊥
        nobody g is = absurd (cc)

        polled : Touches silent of_table (key_polled (PollKey f w)) (key_ends (PollKey f w)) i f
        polled = Polled w (ap (λ b. cond b (Some w) None) (eq-eqb f f refl))

        poll_in : (r : ℕ) → r < i + 1 → KeyGoes h i (PollKey f w) (tables.in_round once h f x t (cells.poll f w) r)
        poll_in r small = by_found (KeyGoes h i (PollKey f w)) (get t.rounds r) h _ (still (PollKey f w) nobody)
            (λ c is. steps f r 1 t c (cells.poll f w (caller x) c) refl (λ over. refl) (λ g v y apart at mine round placed. at_cell r c is g v placed) (polls f w (caller x) c)
            (PollKey f w) polled (after_others _) (λ g ended. absurd (nobody g ended)) small (later_below x.table t there))

        joins : (p : Option ℕ) → get t.current x.key ≡ p → KeyGoes h i (PollKey f w) (tables.join_round once h i f w x t p)
        joins None none = steps f i 1 (record t { current = insert t.current x.key i }) (new_cell None) (cells.poll f w (caller x) (new_cell None)) refl (λ over. refl)
            (λ g v y apart at mine round placed. absurd (let small = low.rounds g i y at round in omega (arith, small, later))) (polls f w (caller x) (new_cell None))
            (PollKey f w) polled (after_others _) (λ g ended. absurd (nobody g ended)) (omega arith) (below_with t.current n i x.key (low.current x.table t there) later)
        joins (Some r) is = poll_in r (omega (arith, (low.current x.table t there).at x.key r is, later))

        firsts : (p : Option ℕ) → KeyGoes h i (PollKey f w) (tables.first_poll once h i f w x t p)
        firsts None = joins (get t.current x.key) refl
        firsts (Some v) = goes_out (PollKey f w) polled (λ g is. absurd (nobody g is)) _ _ (Put x.table t t [] there (record { keeps = λ g u m y apart at mine round placed. inl placed }) (later_below x.table t there))

        goes_poll : (p : Option ℕ) → x.round ≡ p → KeyGoes h i (PollKey f w) (tables.poll once h i f w x t p)
        goes_poll None is = firsts (get t.values x.key)
        goes_poll (Some r) is = poll_in r (omega (arith, low.rounds f r x future is, later))

      -- ---- whose initialiser is settled is neither polled nor ended: its waker goes by a wake
      module _ (outcome : Initialiser) where
        lasts : (g : ℕ) → key_ends (SettleKey f outcome) g ≡ true → ⊥
        lasts g is = absurd (cc)

        goes_settle : (p : Option ℕ) → x.round ≡ p → KeyGoes h i (SettleKey f outcome) (tables.settle once h f outcome x t p)
        goes_settle None is = record {
          k = i;
          touches = None_is refl;
          tables = Same;
          others = λ g y apart at. alike (record x { init = outcome }) refl refl g y at;
          each = changed (record x { init = outcome }) refl (λ m round. (fits_old f x future).round m round);
          over = λ g ended. absurd (lasts g ended);
        }
        goes_settle (Some r) is = by_found (KeyGoes h i (SettleKey f outcome)) (get t.rounds r) h _ (still (SettleKey f outcome) lasts)
            (λ c at. steps i r 0 t c (cells.settle f outcome (caller x) c) refl (λ over. absurd (cc)) (λ g v y apart there mine round placed. at_cell r c at g v placed) (settles_local f i outcome (caller x) c)
            (SettleKey f outcome) (None_is refl) (λ g y apart had. alike (record x { init = outcome; round = Some r }) refl (sym is) g y had) (λ g ended. absurd (lasts g ended))
            (omega (arith, low.rounds f r x future is, later)) (later_below x.table t there))

    -- ---- an end
    ended : Touches silent of_table (key_polled (EndKey f)) (key_ends (EndKey f)) i f
    ended = Ends (eq-eqb f f refl)

    only : (g : ℕ) → key_ends (EndKey f) g ≡ true → g ≡ f
    only g is = sym (eqb-true f g is)

    forgets : KeyGoes h i (EndKey f) (tables.forgets h f)
    forgets = goes_out (EndKey f) ended only h.tables answers.Done Same

    end_at : (once : Bool) (t : Table) → get h.tables x.table ≡ Some t → (r : ℕ) → x.round ≡ Some r → (p : Option Cell) → get t.rounds r ≡ p → KeyGoes h i (EndKey f) (tables.end_at once h f x t r p)
    end_at once t there r is None at = forgets
    end_at once t there r is (Some c) at = steps once t there f r 0 t c (cells.end f (caller x) c) refl (λ over. refl) (λ g v y apart home mine round placed. at_cell once t there r c at g v placed) (ends_local f 0 (caller x) c)
        (EndKey f) ended (after_others _)
        (λ g end. rw (only g end) (subst (λ p. get (cells.turned_to h.futures f (caller_after r x p)) f ≡ None) (sym (ends_gone f (caller x) c)) (get-gone h.futures f)))
        (omega (arith, low.rounds f r x future is, later)) (later_below x.table t there)

    end_in : (once : Bool) (t : Table) → get h.tables x.table ≡ Some t → (p : Option ℕ) → x.round ≡ p → KeyGoes h i (EndKey f) (tables.end_in once h f x t p)
    end_in once t there None is = forgets
    end_in once t there (Some r) is = end_at once t there r is (get t.rounds r) refl

    goes_end : (once : Bool) (p : Option Table) → get h.tables x.table ≡ p → KeyGoes h i (EndKey f) (tables.end once h f x p)
    goes_end once None there = forgets
    goes_end once (Some t) there = end_in once t there x.round refl

  -- ---- every action
  nobody_ends : (k : ℕ) → get h.futures k ≡ None → KeyGoes h i (EndKey k) (quietly h answers.Done)
  nobody_ends k absent = as_before (EndKey k) (λ f is. ap (get h.futures) (sym (eqb-true k f is)) ∙ absent) h.tables answers.Done Same

  ends : (once : Bool) (k : ℕ) (p : Option KeyFuture) → get h.futures k ≡ p → KeyGoes h i (EndKey k) (found p h (λ x. tables.end once h k x (get h.tables x.table)))
  ends once k None absent = nobody_ends k absent
  ends once k (Some x) future = goes_end k x future once (get h.tables x.table) refl

  drops : (o : ℕ) (t : Table) → get h.tables o ≡ Some t → futures_of h o ≡ 0 → KeyGoes h i (DropTable o) (quietly (record h { tables = remove h.tables o }) answers.Done)
  drops o t there alone = as_before (DropTable o) (λ f is. absurd (cc)) _ answers.Done (Gone o (λ f x is mine. own-nothing of_table o h.futures alone f x is mine))

  pub key_goes : (once : Bool) (a : KeyAction) → key_cause h a ≡ None → KeyGoes h i a (key_act once h i a)
  key_goes once MakeTable allowed = as_before MakeTable (λ f is. absurd (cc)) _ _ Made
  key_goes once (BeginKey o k) allowed = begins (BeginKey o k) (λ f is. absurd (cc)) o _ refl refl (known (is_table h o) allowed)
  key_goes once (PollKey f w) allowed = by_both (KeyGoes h i (PollKey f w)) h f _ (still (PollKey f w) (λ g is. absurd (cc))) (λ x t future there. goes_poll f x future once t there w x.round refl)
  key_goes once (SettleKey f r) allowed = by_both (KeyGoes h i (SettleKey f r)) h f _ (still (SettleKey f r) (λ g is. absurd (cc))) (λ x t future there. goes_settle f x future once t there r x.round refl)
  key_goes once (EndKey f) allowed = ends once f (get h.futures f) refl
  key_goes once (TellKey o k) allowed = by_found (KeyGoes h i (TellKey o k)) (get h.tables o) h _ (still (TellKey o k) (λ g is. absurd (cc))) (λ t there. tells (TellKey o k) (λ g is. absurd (cc)) _)
  key_goes once (DiscardKey o k) allowed = by_found (KeyGoes h i (DiscardKey o k)) (get h.tables o) h _ (still (DiscardKey o k) (λ g is. absurd (cc))) (λ t there. without (DiscardKey o k) (λ g is. absurd (cc)) o k answers.Done t there)
  key_goes once (RemoveKey o k) allowed = by_found (KeyGoes h i (RemoveKey o k)) (get h.tables o) h _ (still (RemoveKey o k) (λ g is. absurd (cc))) (λ t there. without (RemoveKey o k) (λ g is. absurd (cc)) o k _ t there)
  key_goes once (DropTable o) allowed = by_found (KeyGoes h i (DropTable o)) (get h.tables o) h _ (still (DropTable o) (λ g is. absurd (cc))) (λ t there. drops o t there (not_borrowed (is_table h o) (futures_of h o) allowed))
