-- a caller of a round is polled
use Rattle.std.proofs.Common.{◌≡◌, ℕ, ◌+◌, ◌-◌, ◌<◌, ◌≤◌, ◌==◌, ◌++◌, ◌&&◌, ◌⊎◌, Bool, true, false, not, cond, length, List, [], Option, Some, None, Result, Ok, Err, refl, ap, sym, subst, ◌∙◌, arith}
use Rattle.std.specs.FinMap.{get, insert, remove, len}
use Rattle.std.proofs.lemmas.Bool.{eqb-true}
use Rattle.mea_family.specs.declared.answer.Answer.{Answer}
use Rattle.mea_family.specs.declared.answer.Answer.TheVariants as answer_is
use Rattle.mea_base.specs.Totals.{weight}
use Rattle.mea_base.proofs.Maps.{inside, by_put, get-there, get-other, get-gone, get-removed_other}
use Rattle.mea_sets.specs.Poll.{Poll, Ready, Pending}
use Rattle.mea_by_name.specs.ByName.{Names, own}
use Rattle.mea_by_name.specs.declared.named_waker.NamedWaker.{NamedWaker}
use Rattle.mea_by_name.proofs.Own.{own-at, own-had, seen-at, seen-back}
use Rattle.mea_once_core.specs.Cell.{Cell as CoreCell, rested}
use Rattle.mea_once_core.specs.Table.{is_last}
use Rattle.mea_once_core.specs.Keyed.{without_caller}
use Rattle.mea_once_core.specs.Waiting.{waiting_at}
use Rattle.mea_once_core.specs.declared.init_call.InitCall.{InitCall}
use Rattle.mea_once_core.specs.declared.key_call.KeyStage.{KeyStage}
use Rattle.mea_once_core.specs.declared.key_call.KeyStage.TheVariants as key_stages
use Rattle.mea_once_core.specs.declared.cell_stage.CellStage.TheVariants.{Done}
use Rattle.mea_once_model.specs.declared.errand.Errand.TheVariants.{Computes}
use Rattle.mea_once_model.specs.Cells as cells
use Rattle.mea_once_model.specs.Cells.{Cell, CellFuture, Step, turned_to}
use Rattle.mea_once_model.specs.Tables as tables
use Rattle.mea_once_model.specs.Tables.{KeyStep}
use Rattle.mea_once.specs.declared.key_future.KeyFuture.{KeyFuture}
use Rattle.mea_once.specs.declared.round.Round.{Round}
use Rattle.mea_once.specs.declared.scripted.Scripted.{Scripted}
use Rattle.mea_once.specs.declared.poll_reply.PollReply.{PollReply}
use Rattle.mea_once.specs.declared.future_entry.FutureEntry.{FutureEntry}
use Rattle.mea_once.specs.Entries.{of_running, runs, left_by}
use Rattle.mea_once.specs.KeyCores.{NamedKeyed}
use Rattle.mea_once.specs.KeyEntries.{KeptTable, FollowsKey, closed, left_round, one_future_less, parted, stayed, entry_in, running_in, current_without}
use Rattle.mea_once.specs.Parts as parts
use Rattle.mea_once.specs.Parts.{AreKept, Stands, future_seen}
use Rattle.mea_once.specs.KeyParts.{kept_cell, table_seen, key_future_seen, as_caller, of_round, callers_of, others, StandsTable}
use Rattle.mea_once.proofs.OneCell.{woken_in}
use Rattle.mea_once.proofs.Steps.{Makes, at_rest}
use Rattle.mea_once.proofs.KeyCells.{cell_of, caller_at, named, Polled, polled_cell}
use Rattle.mea_once.proofs.KeySteps.{Entry, with_cell, Becomes, CorePolled, Asked}
use Rattle.mea_once.proofs.KeyTables.{Elsewhere, Changed, callers_turned}
use Rattle.mea_once.proofs.KeyStarts.{Start, at_round, entered, nobody_keeps, stays_changed, stays_seen, stays_closed, left_queue, count_callers, empty_changed, empty_seen, full_changed, full_seen}
use Rattle.mea_once.proofs.KeyResults.{Did}

-- no waker is ready
abbrev pub rested_table : KeptTable → KeptTable
rested_table e = record e { keyed = record e.keyed { wakes = [] } }

-- a table of which a caller is gone
pub left_is : (e : KeptTable) (k n : ℕ) (r : Round) → rested_table (one_future_less (left_round e k n r)) ≡ record { keyed = record e.keyed { wakes = [] }; current = cond (r.callers == 1) (current_without e.current k n) e.current; rounds = cond (r.callers == 1) (remove e.rounds n) (insert e.rounds n (parted r)); futures = e.futures - 1 }
left_is e k n r = elim (r.callers == 1) as (λ b. rested_table (one_future_less (cond b (closed (record e { rounds = remove e.rounds n }) k n) (record e { rounds = insert e.rounds n (parted r) }))) ≡ record { keyed = record e.keyed { wakes = [] }; current = cond b (current_without e.current k n) e.current; rounds = cond b (remove e.rounds n) (insert e.rounds n (parted r)); futures = e.futures - 1 }) [
  | true ↦ refl
  | false ↦ refl
]

pub left_keyed : (e : KeptTable) (k n : ℕ) (r : Round) → (left_round e k n r).keyed ≡ e.keyed
left_keyed e k n r = elim (r.callers == 1) as (λ b. (cond b (closed (record e { rounds = remove e.rounds n }) k n) (record e { rounds = insert e.rounds n (parted r) })).keyed ≡ e.keyed) [ true ↦ refl | false ↦ refl ]

pub left_futures : (e : KeptTable) (k n : ℕ) (r : Round) → (left_round e k n r).futures ≡ e.futures
left_futures e k n r = elim (r.callers == 1) as (λ b. (cond b (closed (record e { rounds = remove e.rounds n }) k n) (record e { rounds = insert e.rounds n (parted r) })).futures ≡ e.futures) [ true ↦ refl | false ↦ refl ]

module _ (once : Bool) (e : KeptTable) (f w : ℕ) (x : KeyFuture) (i : ℕ) (s : StandsTable once e f x i) (n m : ℕ) (r : Round) (se : Entry) (cur : Names ℕ) (num : Option ℕ) (start : Start once e s.fs i f x n m r se cur num) where
  abbrev pub members : Names FutureEntry
  members = callers_of n (insert s.fs f (at_round x n))

  pub its_below : (g : ℕ) (y : FutureEntry) → get members g ≡ Some y → g < i
  its_below g y is =
      let had = seen-back as_caller (own of_round (n + 1) (insert s.fs f (at_round x n))) g y is in
      let there = own-had of_round (n + 1) (insert s.fs f (at_round x n)) g had.0 had.1 in
      by_put s.fs f (at_round x n) (λ g o. (z : KeyFuture) → o ≡ Some z → g < i) (λ z same. s.below f x s.there) (λ g apart z is. s.below g z is) g had.0 there.0

  abbrev pub its_stand : Stands false (kept_cell se.cell r) f (as_caller x)
  its_stand = record {
    fs = members;
    n = i;
    kept = start.kept;
    there = seen-at as_caller (own of_round (n + 1) (insert s.fs f (at_round x n))) f (at_round x n) (own-at of_round (n + 1) (insert s.fs f (at_round x n)) f (at_round x n) (get-there s.fs f (at_round x n)) refl);
    below = its_below;
    low = tt;
  }

  -- how many others there are, once it is gone
  pub others_left : (c : CoreCell ℕ NamedWaker) (run : Option NamedWaker) → AreKept false (cell_of c run (r.callers - 1)) (turned_to members f None) → others s.fs f n ≡ r.callers - 1
  others_left c run good = count_callers n (remove s.fs f) ∙ ap (λ m. len m) (callers_turned s.fs f n x s.there (at_round x n) refl None tt) ∙ sym good.tied.futures

  -- where it was the last, nobody keeps a waker
  pub runner_left : (c : CoreCell ℕ NamedWaker) (run : Option NamedWaker) → AreKept false (cell_of c run (r.callers - 1)) (turned_to members f None) → (rounds1 : Names Round)
      → weight (λ n (r : Round). of_running r.running) n (get (cond (r.callers == 1) (remove rounds1 n) (insert rounds1 n (record r { running = run; callers = r.callers - 1 }))) n) ≡ of_running run
  runner_left c run good rounds1 = elim (r.callers == 1) as (λ b. (r.callers == 1) ≡ b → weight (λ n (r : Round). of_running r.running) n (get (cond b (remove rounds1 n) (insert rounds1 n (record r { running = run; callers = r.callers - 1 }))) n) ≡ of_running run) [
    | true ↦ λ is. ap (weight (λ n (r : Round). of_running r.running) n) (get-gone rounds1 n) ∙ sym (ap of_running (nobody_keeps (cell_of c run (r.callers - 1)) (turned_to members f None) good (let one = eqb-true r.callers 1 is in omega arith)))
    | false ↦ λ is. ap (weight (λ n (r : Round). of_running r.running) n) (get-there rounds1 n (record r { running = run; callers = r.callers - 1 }))
  ] refl

  pub rounds_left : (run : Option NamedWaker) (rounds1 : Names Round) → Elsewhere e.rounds rounds1 n → Elsewhere e.rounds (cond (r.callers == 1) (remove rounds1 n) (insert rounds1 n (record r { running = run; callers = r.callers - 1 }))) n
  rounds_left run rounds1 same q apart = elim (r.callers == 1) as (λ b. get (cond b (remove rounds1 n) (insert rounds1 n (record r { running = run; callers = r.callers - 1 }))) q ≡ get e.rounds q) [
    | true ↦ get-removed_other rounds1 n q apart ∙ same q apart
    | false ↦ get-other rounds1 n q (record r { running = run; callers = r.callers - 1 }) apart ∙ same q apart
  ]

  pub here_left : (run : Option NamedWaker) (rounds1 : Names Round) → get (cond (r.callers == 1) (remove rounds1 n) (insert rounds1 n (record r { running = run; callers = r.callers - 1 }))) n ≡ cond (r.callers == 1) None (Some (record r { running = run; callers = r.callers - 1 }))
  here_left run rounds1 = elim (r.callers == 1) as (λ b. get (cond b (remove rounds1 n) (insert rounds1 n (record r { running = run; callers = r.callers - 1 }))) n ≡ cond b None (Some (record r { running = run; callers = r.callers - 1 }))) [
    | true ↦ get-gone rounds1 n
    | false ↦ get-there rounds1 n (record r { running = run; callers = r.callers - 1 })
  ]

  -- the model's step at the round
  abbrev pub key_step : Step → KeyStep
  key_step c = tables.at_round once (key_future_seen x) n (others s.fs f n) (entered e cur) c

  pub gone_step : (c : Step) (d : Cell) → d ≡ c.cell → None ≡ c.future → others s.fs f n ≡ r.callers - 1
      → tables.left x.key n (r.callers - 1) (tables.closed once x.key n d.value (record (entered e cur) { rounds = insert (table_seen e).rounds n d })) ≡ (key_step c).table
  gone_step c d cell future count = λ j. tables.left_by (future j) x.key n (sym count j) (tables.closed once x.key n (cell j).value (record (entered e cur) { rounds = insert (table_seen e).rounds n (cell j) }))

  pub stay_step : (c : Step) (d : Cell) (z : CellFuture) → d ≡ c.cell → Some z ≡ c.future → tables.closed once x.key n d.value (record (entered e cur) { rounds = insert (table_seen e).rounds n d }) ≡ (key_step c).table
  stay_step c d z cell future = λ j. tables.left_by (future j) x.key n (others s.fs f n) (tables.closed once x.key n (cell j).value (record (entered e cur) { rounds = insert (table_seen e).rounds n (cell j) }))

  -- ---- it was polled
  module _ (idle : runs r.running f ≡ false) (k' : NamedKeyed) (call' : InitCall Scripted) (poll : Poll (Result ℕ ℕ)) (stage' : KeyStage ℕ) (asked : Asked once e.keyed k' x.key x.call.call call' (named f w) poll stage' m se num) (rounds1 : Names Round) (elsewhere : Elsewhere e.rounds rounds1 n) where
    abbrev pub cell_step : Step
    cell_step = cells.poll f w (future_seen (as_caller x)) (parts.cell_seen (kept_cell se.cell r))

    abbrev k : NamedWaker
    k = named f w

    -- as the poll finds it, and its future
    abbrev pub e2 : KeptTable
    e2 = record e { keyed = k'; current = cur; rounds = rounds1 }

    abbrev pub x2 : KeyFuture
    x2 = record x { call = record { stage = stage'; call = call' } }

    abbrev run : Option NamedWaker
    run = running_in call'.stage r.running k

    abbrev Result_is : PollReply → KeptTable → KeyFuture → Type 0
    Result_is told e3 x3 = Did once e s.fs i f x n m r (left_by told.over x3) (rested_table e3) run k'.wakes 1 (key_step cell_step) told.answer × (e3.keyed ≡ k')

    only_wakes : (c : CoreCell ℕ NamedWaker) (o : Option Entry) (p : Option ℕ) → Becomes e.keyed k' m o x.key p c.permit.wakes → c.permit.wakes ≡ k'.wakes
    only_wakes c o p becomes = sym (becomes.wakes ∙ ap (λ us. us ++ c.permit.wakes) s.kept.quiet)

    pends : (c : CoreCell ℕ NamedWaker) → call'.init ≡ x.call.call.init → (value : c.value ≡ se.cell.value) → parts.is_polled call'.stage ≡ true
        → Makes false (kept_cell se.cell r) members i f x.table 1 answer_is.Pending (Some (caller_at x.table x.call.call.init.outcome call'.stage)) cell_step (cell_of c run r.callers)
        → stage' ≡ key_stages.Calls m → Becomes e.keyed k' m (Some (with_cell se c)) x.key num c.permit.wakes
        → Did once e s.fs i f x n m r (Some (record x2 { round = Some n })) (rested_table (record e2 { rounds = insert rounds1 n (stayed r x2 k) })) run k'.wakes 1 (key_step cell_step) answer_is.Pending
    pends c init value asked_turn makes stage becomes = record {
      changed = stays_changed once e s.fs s.kept i f x s.there n m r se cur num start (rested_table (record e2 { rounds = insert rounds1 n (stayed r x2 k) })) c run (record x2 { round = Some n }) refl stage refl asked_turn good value becomes.entries becomes.numbers refl rounds here refl refl;
      seen = stays_seen once e s.fs s.kept i f x s.there n m r se cur num start (rested_table (record e2 { rounds = insert rounds1 n (stayed r x2 k) })) c run (record x2 { round = Some n }) refl stage refl asked_turn good value becomes.entries becomes.numbers refl rounds here refl refl
          ∙ sym (stays_closed once e s.fs s.kept i f x s.there n m r se cur num start (rested_table (record e2 { rounds = insert rounds1 n (stayed r x2 k) })) c run (record x2 { round = Some n }) refl stage refl asked_turn good value becomes.entries becomes.numbers refl rounds here refl refl (record (entered e cur) { rounds = insert (table_seen e).rounds n (parts.cell_seen (cell_of c run r.callers)) }) refl)
          ∙ stay_step cell_step (parts.cell_seen (cell_of c run r.callers)) (future_seen (caller_at x.table x.call.call.init.outcome call'.stage)) makes.cell makes.future;
      future = (λ j. Some (record { table = x.table; key = x.key; init = (init j).outcome; round = Some n })) ∙ ap (tables.caller_after n (key_future_seen x)) makes.future;
      replied = makes.replied;
      woken = ap woken_in (sym (only_wakes c _ _ becomes)) ∙ makes.woken;
      fit = omega (arith, makes.fit, start.queue, ap (λ (ws : List NamedWaker). length ws) (only_wakes c _ _ becomes), ap waiting_at becomes.entries.changed);
      runner = ap (weight (λ n (r : Round). of_running r.running) n) here;
      mine = refl;
      few = omega arith;
    }
      where
        good : AreKept false (cell_of (rested c) run r.callers) (turned_to members f (Some (as_caller (record x2 { round = Some n }))))
        good = subst (λ (z : FutureEntry). AreKept false (cell_of (rested c) run r.callers) (turned_to members f (Some z))) (λ j. record { cell = x.table; errand = Computes (sym init j).outcome; stage = call'.stage; wait = None })
            (at_rest false (cell_of c run r.callers) _ makes.sound makes.tied)

        rounds : Elsewhere e.rounds (insert rounds1 n (stayed r x2 k)) n
        rounds q apart = get-other rounds1 n q (stayed r x2 k) apart ∙ elsewhere q apart

        here : get (insert rounds1 n (stayed r x2 k)) n ≡ Some (record r { entry = m; running = run })
        here = get-there rounds1 n (stayed r x2 k) ∙ (λ j. Some (record r { entry = entry_in (stage j) r.entry; running = run }))

    abbrev left_good : CoreCell ℕ NamedWaker → Type 0
    left_good c = AreKept false (cell_of (rested c) r.running (r.callers - 1)) (turned_to members f None)

    -- the table that is left where it is gone
    abbrev left_table : Names ℕ → KeptTable
    left_table now = record { keyed = record k' { wakes = [] }; current = now; rounds = cond (r.callers == 1) (remove rounds1 n) (insert rounds1 n (record r { running = r.running; callers = r.callers - 1 })); futures = e.futures - 1 }

    goes : (c : CoreCell ℕ NamedWaker) (answer : Answer) (o : Option Entry) (p : Option ℕ) (now : Names ℕ) → call'.stage ≡ Done → Makes false (kept_cell se.cell r) members i f x.table 1 answer None cell_step (cell_of c r.running (r.callers - 1)) → Becomes e.keyed k' m o x.key p c.permit.wakes
        → waiting_at o ≤ length c.permit.queue → Changed once e s.fs f n m x.key (left_table now) None → table_seen (left_table now) ≡ tables.left x.key n (r.callers - 1) (tables.closed once x.key n c.value (record (entered e cur) { rounds = insert (table_seen e).rounds n (parts.cell_seen (cell_of c r.running (r.callers - 1))) }))
        → Did once e s.fs i f x n m r None (left_table now) run k'.wakes 1 (key_step cell_step) answer
    goes c answer o p now done makes becomes few changed seen_so =
        let good : left_good c = at_rest false (cell_of c r.running (r.callers - 1)) (turned_to members f None) makes.sound makes.tied in
        let same : run ≡ r.running = ap (λ t. running_in t r.running k) done in
        rw same (record {
          changed = changed;
          seen = seen_so ∙ gone_step cell_step (parts.cell_seen (cell_of c r.running (r.callers - 1))) makes.cell makes.future (others_left (rested c) r.running good);
          future = ap (tables.caller_after n (key_future_seen x)) makes.future;
          replied = makes.replied;
          woken = ap woken_in (sym (only_wakes c o p becomes)) ∙ makes.woken;
          fit = omega (arith, makes.fit, start.queue, ap (λ (ws : List NamedWaker). length ws) (only_wakes c o p becomes), few, ap waiting_at becomes.entries.changed);
          runner = runner_left (rested c) r.running good rounds1;
          mine = tt;
          few = omega arith;
        })

    fails : (z : ℕ) (c : CoreCell ℕ NamedWaker) → call'.stage ≡ Done → se.cell.value ≡ None → c.value ≡ None → Makes false (kept_cell se.cell r) members i f x.table 1 (answer_is.Failure z) None cell_step (cell_of c r.running (r.callers - 1))
        → Becomes e.keyed k' m (without_caller (with_cell se c)) x.key (cond (se.listed && is_last (with_cell se c)) None num) c.permit.wakes → Did once e s.fs i f x n m r None (left_table (cond (r.callers == 1) (current_without cur x.key n) cur)) run k'.wakes 1 (key_step cell_step) (answer_is.Failure z)
    fails z c done was_empty empty makes becomes =
        let good : left_good c = at_rest false (cell_of c r.running (r.callers - 1)) (turned_to members f None) makes.sound makes.tied in
        let now : Names ℕ = cond (r.callers == 1) (current_without cur x.key n) cur in
        goes c (answer_is.Failure z) (without_caller (with_cell se c)) (cond (se.listed && is_last (with_cell se c)) None num) now done makes becomes (left_queue (with_cell se c))
        (empty_changed once e s.fs s.kept i f x s.there n m r se cur num start (left_table now) c r.running good refl (rounds_left r.running rounds1 elsewhere) (here_left r.running rounds1) refl was_empty empty becomes.entries becomes.numbers refl)
        (empty_seen once e s.fs s.kept i f x s.there n m r se cur num start (left_table now) c r.running good refl (rounds_left r.running rounds1 elsewhere) (here_left r.running rounds1) refl was_empty empty becomes.entries becomes.numbers refl)

    gives : (v : ℕ) (c : CoreCell ℕ NamedWaker) → call'.stage ≡ Done → c.value ≡ Some v → (se.cell.value ≡ c.value) ⊎ (se.cell.value ≡ None) → Makes false (kept_cell se.cell r) members i f x.table 1 (answer_is.Value v) None cell_step (cell_of c r.running (r.callers - 1))
        → Becomes e.keyed k' m (without_caller (record (with_cell se c) { listed = se.listed && not once })) x.key (cond (se.listed && once) None num) c.permit.wakes
        → Did once e s.fs i f x n m r None (left_table (cond (r.callers == 1) (current_without (current_without cur x.key n) x.key n) (current_without cur x.key n))) run k'.wakes 1 (key_step cell_step) (answer_is.Value v)
    gives v c done full either makes becomes =
        let good : left_good c = at_rest false (cell_of c r.running (r.callers - 1)) (turned_to members f None) makes.sound makes.tied in
        let now : Names ℕ = cond (r.callers == 1) (current_without (current_without cur x.key n) x.key n) (current_without cur x.key n) in
        goes c (answer_is.Value v) (without_caller (record (with_cell se c) { listed = se.listed && not once })) (cond (se.listed && once) None num) now done makes becomes (left_queue (record (with_cell se c) { listed = se.listed && not once }))
        (full_changed once e s.fs s.kept i f x s.there n m r se cur num start (left_table now) c r.running good refl (rounds_left r.running rounds1 elsewhere) (here_left r.running rounds1) refl v full either becomes.entries becomes.numbers refl)
        (full_seen once e s.fs s.kept i f x s.there n m r se cur num start (left_table now) c r.running good refl (rounds_left r.running rounds1 elsewhere) (here_left r.running rounds1) refl v full either becomes.entries becomes.numbers refl)

    by_told : (t : Poll (Result (Unit {0}) ℕ)) (c : CoreCell ℕ NamedWaker) → Polled se.cell r.running r.callers f x.table x.call.call.init.outcome x.call.call.stage its_stand w idle t c call'.stage → call'.init ≡ x.call.call.init → CorePolled once e.keyed m x.key se num t c poll k' stage'
        → (told : PollReply) (e3 : KeptTable) (x3 : KeyFuture) → FollowsKey poll e2 n r x2 k told e3 x3 → Result_is told e3 x3
    by_told Pending c polled init core told e3 x3 follows =
        let after = subst (λ q. FollowsKey q e2 n r x2 k told e3 x3) core.0 follows in
        rw (after.0, after.1, after.2) (pends c init polled.0 polled.1 polled.2 core.1 core.2, refl)
    by_told (Ready (Err z)) c polled init core told e3 x3 follows =
        let after = subst (λ q. FollowsKey q e2 n r x2 k told e3 x3) core.0 follows in
        rw (after.0, after.1) (subst (λ new. Did once e s.fs i f x n m r None new run k'.wakes 1 (key_step cell_step) (answer_is.Failure z)) (sym (left_is e2 x.key n r)) (fails z c polled.0 polled.1 polled.2 polled.3 core.1), left_keyed e2 x.key n r)
    by_told (Ready (Ok u)) c polled init core told e3 x3 follows =
        let v = core.0 in
        let same : polled.0 ≡ v = inside (sym polled.2 ∙ core.1) in
        let after = subst (λ q. FollowsKey q e2 n r x2 k told e3 x3) core.2 follows in
        rw (after.0, after.1) (
          subst (λ new. Did once e s.fs i f x n m r None new run k'.wakes 1 (key_step cell_step) (answer_is.Value v)) (sym (left_is (closed e2 x.key n) x.key n r))
              (gives v c polled.1 core.1 polled.3 (subst (λ v. Makes false (kept_cell se.cell r) members i f x.table 1 (answer_is.Value v) None cell_step (cell_of c r.running (r.callers - 1))) same polled.4) core.3),
          left_keyed (closed e2 x.key n) x.key n r,
        )

    pub polled_did : (told : PollReply) (e3 : KeptTable) (x3 : KeyFuture) → FollowsKey poll e2 n r x2 k told e3 x3 → Result_is told e3 x3
    polled_did =
        let made = polled_cell se.cell r.running r.callers f x.table x.call.call.init.outcome x.call.call.stage its_stand w idle x.call.call.init refl asked.told asked.cell call' asked.polls in
        by_told asked.told asked.cell made.0 made.1 asked.core
