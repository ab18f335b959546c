-- what a call of a cell's entry makes of the cell and of one of its futures, as they are seen
use Rattle.std.proofs.Common.{◌≡◌, ℕ, ◌+◌, ◌-◌, ◌≤◌, ◌==◌, ◌++◌, inl, inr, Bool, true, false, not, cond, length, List, [], ◌∷◌, Option, Some, None, is_some, option_map, refl, ap, sym, subst, ◌∙◌, arith, if◌then◌else◌}
use Rattle.std.specs.FinMap.{get, insert, remove}
use Rattle.std.proofs.lemmas.List.{length-append}
use Rattle.mea_family.specs.declared.answer.Answer.{Answer}
use Rattle.mea_family.specs.declared.answer.Answer.TheVariants as answers
use Rattle.mea_base.specs.Ready.{Waking}
use Rattle.mea_base.proofs.Maps.{total-has, by_put, get-there, get-other, get-gone, get-removed_other}
use Rattle.mea_base.proofs.NamedMaps.{same_named}
use Rattle.mea_by_name.specs.declared.named_waker.NamedWaker.{NamedWaker}
use Rattle.mea_by_name.specs.ByName.{Names, seen}
use Rattle.mea_by_name.specs.NamedQueue.{Waiting, waits, with_waker, without, wakers}
use Rattle.mea_by_name.specs.LackingQueue.{who}
use Rattle.mea_by_name.proofs.Cases.{if_true, if_false}
use Rattle.mea_by_name.proofs.LackingQueues.{who-append, who-rewoken, who-leaving}
use Rattle.mea_by_name.proofs.Own.{seen-at, seen-back}
use Rattle.mea_sem_core.specs.declared.acquire.Acquire.{Acquire}
use Rattle.mea_sem_core.specs.declared.acquire.Acquire.TheVariants as acquire
use Rattle.mea_sem_core.specs.Core.{Core, Acquires, held_of}
use Rattle.mea_sem_core.specs.Calls as sem_calls
use Rattle.mea_sem_core.specs.Calls.{without_acquire}
use Rattle.mea_sem_core.specs.Ones.{AskForOne}
use Rattle.mea_sets.specs.declared.place.Place.{Place}
use Rattle.mea_sets.specs.WaitSet.{Registered, is_registered}
use Rattle.mea_cores_by_name.specs.Linked.{names_in, Linked}
use Rattle.mea_cores_by_name.specs.SetLinked.{SlotIs, AreBelow, SetLinked, names_of, set_names}
use Rattle.mea_cores_by_name.proofs.Linking.{unqueued_waits, queued_waits, queued_with, queued_without, linked_gone, linked_begun, linked_pushed, linked_again, linked_taken, linked_left, push-names}
use Rattle.mea_cores_by_name.proofs.Sets.{drained_links}
use Rattle.mea_once_core.specs.Permit.{IsNext, IsWaiting, Leaves, HoldsAs, held_at, passed_on}
use Rattle.mea_once_core.specs.declared.cell_stage.CellStage.{CellStage}
use Rattle.mea_once_core.specs.declared.cell_stage.CellStage.TheVariants.{New, Queued, Running, Done}
use Rattle.mea_once_core.specs.declared.cell_turn.CellTurn.{CellTurn}
use Rattle.mea_once_model.specs.declared.errand.Initialiser.{Initialiser}
use Rattle.mea_once_model.specs.declared.errand.Initialiser.TheVariants.{Unsettled, Gives, Fails}
use Rattle.mea_once_model.specs.declared.errand.Errand.{Errand}
use Rattle.mea_once_model.specs.declared.errand.Errand.TheVariants.{Alone, Awaits}
use Rattle.mea_once_model.specs.Cells as model
use Rattle.mea_once_model.specs.Cells.{Cell, CellFuture, Step, init_of, is_alone, passed, woken_next, given_up, found_full, has_filled, turned_to}
use Rattle.mea_once.specs.declared.future_entry.FutureEntry.{FutureEntry}
use Rattle.mea_once.specs.declared.poll_reply.PollReply.{PollReply}
use Rattle.mea_once.specs.Cores.{NamedCell, IsSoundCell, TurnsTo, FindsFull, FindsLate, TakesFree, TakesNext, GoesOn, LinesUp, WaitsOn, TurnsCell, TurnFits, TurnIsQuiet, Drains, LeavesCell}
use Rattle.mea_once.specs.Entries.{KeptCell, finished, stopped, runs, of_running, keeps, HandsOn, Ran, Follows, left_by, rested}
use Rattle.mea_once.specs.PartForm.{IsOf}
use Rattle.mea_once.specs.Parts.{is_polled, cell_seen, future_seen, runner_of, is_caller, is_wait, acquire_at, acquire_of, runs_at, is_running, StageFits, MayRun, Tied, AreKept, Stands, Stepped, of_future}
use Rattle.mea_once.proofs.Turns.{permit_with}
use Rattle.mea_once.proofs.OneCell.{Queue, length-with, length-without, fits_any, running_held, no_debts, pass_linked, seen_with, pass_seen, woken_in, pass_woken, pass_length, runner_waits, runner_without, absent_waits, held_is, its_acquire, unqueued, still_insert, runs_not, turned, departs, keeps_waker, nobody_runs, not_waiting, not_granted, held_few}

-- what is left of a cell and of its future, before the wakers that are ready are handed on
pub record Makes (once : Bool) (old : KeptCell) (fs : Names FutureEntry) (n f o more : ℕ) (answer : Answer) (p : Option FutureEntry) (s : Step) (new : KeptCell) : Type 0 where
  pub replied : answer ≡ s.reply
  pub cell : cell_seen new ≡ s.cell
  pub future : option_map future_seen p ≡ s.future
  pub mine : IsOf of_future p o
  pub woken : woken_in new.cell.permit.wakes ≡ s.wakes
  pub sound : IsSoundCell new.cell
  pub tied : Tied once new (turned_to fs f p)
  pub few : new.futures ≤ old.futures + 1
  pub low : AreBelow new.cell.waits.wakers n
  pub fit : keeps new + length new.cell.permit.wakes ≤ keeps old + more

-- a cell and its futures, once the wakers that are ready have gone
pub at_rest : (once : Bool) (e : KeptCell) (fs : Names FutureEntry) → IsSoundCell e.cell → Tied once e fs → AreKept once (record e { cell = rested e.cell }) fs
at_rest once e fs sound tied = record {
  sound = record { permit = permit_with e.cell.permit [] sound.permit; empty = sound.empty };
  quiet = refl;
  tied = record { linked = tied.linked; held = tied.held; runner = tied.runner; each = tied.each; single = tied.single; futures = tied.futures; alone = tied.alone };
}

-- and after that
pub handed : (once : Bool) (old : KeptCell) (fs : Names FutureEntry) (n f o more : ℕ) (answer : Answer) (p : Option FutureEntry) (s : Step) (e new : KeptCell) (before ready after : Waking ℕ) → Makes once old fs n f o more answer p s e → HandsOn e new (keeps old + more) ready after
    → ready.wakers ≡ before.wakers → ready.registered ≡ before.registered + more → Stepped once old fs n f o p s answer new before after
handed once old fs n f o more answer p s e new before ready after makes hands same grown =
    let kept : keeps new ≡ keeps e = ap keeps hands.entry in
    record {
      replied = makes.replied;
      cell = ap cell_seen hands.entry ∙ makes.cell;
      future = makes.future;
      mine = makes.mine;
      woken = hands.wakers ∙ (λ i. same i ++ makes.woken i);
      counted = omega (arith, hands.counted, kept, grown);
      kept = subst (λ e. AreKept once e (turned_to fs f p)) (sym hands.entry) (at_rest once e (turned_to fs f p) makes.sound makes.tied);
      few = subst (λ (e : KeptCell). e.futures ≤ old.futures + 1) (sym hands.entry) makes.few;
      low = subst (λ (e : KeptCell). AreBelow e.cell.waits.wakers n) (sym hands.entry) makes.low;
    }

names-woken : (ks : List NamedWaker) → wakers (names_of ks) ≡ woken_in ks
names-woken [] = refl
names-woken (k ∷ ks) = ap (λ ws. k.waker ∷ ws) (names-woken ks)

stop_few : (r : Option NamedWaker) (f : ℕ) → of_running (cond (runs r f) None r) ≤ of_running r
stop_few None f = omega arith
stop_few (Some k) f = elim (k.name == f) as (λ b. of_running (cond b None (Some k)) ≤ 1) [ true ↦ omega arith | false ↦ omega arith ]

-- ---- a cell, its futures, and one of them
module _ (once : Bool) (e : KeptCell) (f : ℕ) (x : FutureEntry) (s : Stands once e f x) where
  abbrev permit : Core NamedWaker
  permit = e.cell.permit

  abbrev seen_cell : Cell
  seen_cell = cell_seen e

  abbrev seen_future : CellFuture
  seen_future = future_seen x

  abbrev tie : Tied once e s.fs
  tie = s.kept.tied

  asks : AskForOne permit.queue
  asks = s.kept.sound.permit.asks

  abbrev its : Names Acquire
  its = seen acquire_of s.fs

  its_at : (t : CellStage) → x.stage ≡ t → get its f ≡ Some (acquire_at t)
  its_at t is = its_acquire once e s.fs tie f x s.there t is

  -- ---- where it waits
  pub out_of_queue : (t : CellStage) → x.stage ≡ t → ((n : ℕ) → t ≡ Queued n → ⊥) → waits seen_cell.queue f ≡ false
  out_of_queue t is none = unqueued_waits permit.queue permit.granted its tie.linked f (unqueued once e s.fs tie f x s.there t is none) (no_debts permit.queue asks)

  next_is_out : (n : ℕ) → x.stage ≡ Queued n → IsNext permit n → waits seen_cell.queue f ≡ false
  next_is_out n is next = queued_waits permit.queue permit.granted its tie.linked f 1 n (its_at (Queued n) is) (no_debts permit.queue asks) ∙ ap is_some (not_waiting permit s.kept.sound.permit n 1 next)

  waits_there : (n : ℕ) → x.stage ≡ Queued n → IsWaiting permit n → waits seen_cell.queue f ≡ true
  waits_there n is waiting_is = queued_waits permit.queue permit.granted its tie.linked f 1 n (its_at (Queued n) is) (no_debts permit.queue asks) ∙ ap is_some waiting_is.1

  pub out_of_waits : is_wait x.errand ≡ false → waits seen_cell.waits f ≡ false
  out_of_waits none =
      let it = tie.each f x s.there in
      absent_waits e.cell.waits.wakers f (it.slot.absent (ap (is_registered e.cell.waits) (it.place none)))

  -- a caller neither waits until the cell is full nor uses it alone, and asks for a turn at first
  pub caller_is : (j : Errand) → is_caller j ≡ true → (is_wait j ≡ false) × (is_alone j ≡ false) × ((w : ℕ) (c : Cell) → model.start_in f w seen_future c j ≡ model.ask f w seen_future c (init_of j))
  caller_is (Alone r) is = absurd (cc)
  caller_is Awaits is = absurd (cc)
  caller_is _ is = (refl, refl, λ w c. refl)

  -- it is polled where it waits nowhere
  poll_on : (w : ℕ) → waits seen_cell.queue f ≡ false → runs e.running f ≡ false → waits seen_cell.waits f ≡ false
      → model.poll f w seen_future seen_cell ≡ (if seen_future.polled then model.take_turn f w seen_future seen_cell seen_cell.value else model.start f w seen_future seen_cell seen_cell.value)
  poll_on w out idle apart_of = if_false (waits seen_cell.queue f) _ _ out ∙ if_false (waits seen_cell.runner f) _ _ (runner_waits e.running f ∙ idle) ∙ if_false (waits seen_cell.waits f) _ _ apart_of

  pub empty_is : {A : Type 0} (o : Option A) → is_some o ≡ false → o ≡ None
  empty_is None is = refl
  empty_is (Some a) is = absurd (cc)

  slots_same : (g : ℕ) (y : FutureEntry) → get s.fs g ≡ Some y → SlotIs e.cell.waits g y.wait
  slots_same g y is = (tie.each g y is).slot

  -- ---- it waits on, in another stage
  module _ (c : NamedCell) (t : CellStage) (w : ℕ) (of_waits : c.waits ≡ e.cell.waits) (sound : IsSoundCell c) (tied : Tied once (record e { cell = c }) (insert s.fs f (record x { stage = t }))) where
    waits_on : (quiet : c.permit.wakes ≡ []) (fit : length c.permit.queue ≤ length permit.queue + 1) (step : Step) → cell_seen (record e { cell = c }) ≡ step.cell → Some (future_seen (record x { stage = t })) ≡ step.future → step.reply ≡ answers.Pending → step.wakes ≡ []
        → Makes once e s.fs s.n f x.cell 1 answers.Pending (Some (record x { stage = t })) step (record e { cell = c })
    waits_on quiet fit step cell future reply silent = record {
      replied = sym reply;
      cell = cell;
      future = future;
      mine = refl;
      woken = ap woken_in quiet ∙ sym silent;
      sound = sound;
      tied = tied;
      few = omega arith;
      low = rw of_waits s.low;
      fit =
          let none : length c.permit.wakes ≡ 0 = ap length quiet in
          let same : length c.waits.wakers ≡ length e.cell.waits.wakers = ap (λ (s : Registered NamedWaker). length s.wakers) of_waits in
          omega (arith, fit, none, same);
    }

  -- ---- it is gone
  abbrev pub Left : NamedCell → KeptCell
  Left c = finished (stopped (record e { cell = c }) f) x.errand

  pub goes : (c : NamedCell) (more : ℕ) (step : Step) (answer : Answer) → answer ≡ step.reply → step.future ≡ None → IsSoundCell c → Linked c.permit.queue c.permit.granted (remove its f)
      → held_of c.permit + cond (is_running x) 1 0 ≡ held_of permit → ((g : ℕ) (y : FutureEntry) → get s.fs g ≡ Some y → SlotIs c.waits g y.wait) → AreBelow c.waits.wakers s.n
      → cell_seen (Left c) ≡ step.cell → woken_in c.permit.wakes ≡ step.wakes → length c.permit.queue + length c.permit.wakes + length c.waits.wakers ≤ length permit.queue + length e.cell.waits.wakers + more
      → Makes once e s.fs s.n f x.cell more answer None step (Left c)
  goes c more step answer replied future sound linked held slots low cell woken fit = record {
    replied = replied;
    cell = cell;
    future = sym future;
    mine = tt;
    woken = woken;
    sound = sound;
    tied = departs once e s.fs tie f x s.there c linked held slots;
    few = omega arith;
    low = low;
    fit = omega (arith, fit, stop_few e.running f);
  }

  -- its turn, or the permit that it was granted, goes to the next
  gone : (s0 : Core NamedWaker) (c : NamedCell) (v : Option ℕ) (w : Waiting) (more : ℕ) (step : Step) (answer : Answer) → s0.queue ≡ permit.queue → c.permit ≡ passed_on s0 → IsSoundCell c → Linked s0.queue s0.granted (remove its f)
      → held_of c.permit + cond (is_running x) 1 0 ≡ held_of permit → ((g : ℕ) (y : FutureEntry) → get s.fs g ≡ Some y → SlotIs c.waits g y.wait) → AreBelow c.waits.wakers s.n
      → answer ≡ step.reply → step.future ≡ None → c.value ≡ v → set_names c.waits ≡ w
      → passed seen_cell.queue (record { value = v; taken = s0.free == 0; queue = seen_cell.queue; runner = without seen_cell.runner f; waits = w }) ≡ step.cell
      → woken_in s0.wakes ++ woken_next seen_cell.queue ≡ step.wakes → length s0.wakes + length c.waits.wakers ≤ length e.cell.waits.wakers + more
      → Makes once e s.fs s.n f x.cell more answer None step (Left c)
  gone s0 c v w more step answer of_queue is sound linked held slots low replied future value names cell wakes fit =
      let asks0 : AskForOne s0.queue = subst AskForOne (sym of_queue) asks in
      goes c more step answer replied future sound (rw is (pass_linked (remove its f) s0.queue s0 refl asks0 linked)) held slots low
      ((λ i. record { value = value i; taken = (is i).free == 0; queue = who (names_in (is i).queue); runner = sym (runner_without e.running f) i; waits = names i })
      ∙ pass_seen s0.queue s0 v (without seen_cell.runner f) w refl asks0
      ∙ (λ i. passed (who (names_in (of_queue i))) (record { value = v; taken = s0.free == 0; queue = who (names_in (of_queue i)); runner = without seen_cell.runner f; waits = w })) ∙ cell)
      (ap (λ (t : Core NamedWaker). woken_in t.wakes) is ∙ pass_woken s0.queue s0 asks0 ∙ ap (λ (q : Queue). woken_in s0.wakes ++ woken_next (who (names_in q))) of_queue ∙ wakes)
      (let len : length c.permit.queue + length c.permit.wakes ≡ length s0.queue + length s0.wakes = ap (λ (t : Core NamedWaker). length t.queue + length t.wakes) is ∙ pass_length s0.queue s0 refl asks0 in
      let same : length s0.queue ≡ length permit.queue = ap (λ (q : Queue). length q) of_queue in
      omega (arith, fit, len, same))

  -- ---- those who wait until the cell is full, once they have left
  abbrev place_of : FutureEntry → Option Place
  place_of y = y.wait

  pub all_set : SetLinked e.cell.waits (seen place_of s.fs) s.n
  all_set = record {
    each = λ g slot is. let had = seen-back place_of s.fs g slot is in (s.below g had.0 had.1, subst (SlotIs e.cell.waits g) had.2 (slots_same g had.0 had.1));
    below = s.low;
  }

  drained : (set : Registered NamedWaker) → Drains e.cell.waits set
      → ((g : ℕ) (y : FutureEntry) → get s.fs g ≡ Some y → SlotIs set g y.wait) × (set_names set ≡ []) × AreBelow set.wakers s.n × (length set.wakers ≡ 0)
  drained set (inl is) = rw is (λ g y there. ((drained_links e.cell.waits (seen place_of s.fs) s.n all_set).each g y.wait (seen-at place_of s.fs g y there)).1, refl, tt, refl)
  drained set (inr is) = rw is.1 (slots_same, ap names_of is.0, s.low, ap (λ (ks : List NamedWaker). length ks) is.0)

  -- ---- its turn has come: the permit is this, and it runs
  module _ (p : Core NamedWaker) (caller : is_caller x.errand ≡ true) (w : ℕ) (idle : runs e.running f ≡ false) (of_queue : p.queue ≡ permit.queue) (quiet : p.wakes ≡ []) (held : HoldsAs permit x.stage p Running) (sound : IsSoundCell (record e.cell { permit = p }))
      (linked : Linked p.queue p.granted (remove its f)) (again : Linked p.queue p.granted (insert its f (acquire.New 1))) where
    abbrev e1 : KeptCell
    e1 = record e { cell = record e.cell { permit = p } }

    abbrev y : FutureEntry
    y = record x { stage = Running }

    abbrev waker : NamedWaker
    waker = record { name = f; waker = w }

    its_turn : held_at x.stage ≤ held_of permit
    its_turn = omega (arith, tie.held, held_is x.stage, total-has (λ k (x : FutureEntry). cond (is_running x) 1 0) s.fs f x s.there)

    one_held : held_of p ≡ 1
    one_held = omega (arith, held, its_turn, held_few p sound.permit)

    its_share : cond (is_running x) 1 0 ≡ held_of permit
    its_share = omega (arith, held, one_held, held_is x.stage)

    stage_fits : (b : Bool) → b ≡ true → StageFits b Running
    stage_fits true is = tt
    stage_fits false is = absurd (cc)

    mid : Tied once e1 (insert s.fs f y)
    mid = turned once e s.fs tie f x s.there (record e.cell { permit = p }) Running (stage_fits (is_caller x.errand) caller) (λ is. refl) again held refl

    shares : is_alone x.errand ≡ false
    shares = (caller_is x.errand caller).1

    may : MayRun y
    may = ap (λ b. cond b true true) shares

    none_runs : e.running ≡ None
    none_runs = nobody_runs once e1 (insert s.fs f y) mid f y (get-there s.fs f y) idle may (held_few p sound.permit)

    pub run_makes : (r : Initialiser) (told : PollReply) (e2 : KeptCell) → Ran r e1 waker x.errand told e2 → Makes once e s.fs s.n f x.cell 1 told.answer (left_by told.over y) (model.run f w seen_future (cell_seen e1) r) e2
    run_makes Unsettled told e2 ran = rw (ran.0, ran.1) (record {
      replied = refl;
      cell = λ i. record { value = e.cell.value; taken = p.free == 0; queue = who (names_in p.queue); runner = runner_of (sym none_runs i) ++ (f, w) ∷ []; waits = set_names e.cell.waits };
      future = ap (λ b. Some (record { cell = x.cell; errand = x.errand; polled = not b })) (sym shares);
      mine = refl;
      woken = ap woken_in quiet;
      sound = sound;
      tied = keeps_waker once e1 (insert s.fs f y) mid f y (get-there s.fs f y) waker refl may;
      few = omega arith;
      low = s.low;
      fit =
          let none : length p.wakes ≡ 0 = ap length quiet in
          let same : length p.queue ≡ length permit.queue = ap (λ (q : Queue). length q) of_queue in
          omega (arith, none, same);
    })
    run_makes (Gives v) told e2 (c, fills, told_is, e2_is) = rw (told_is, e2_is)
        (gone (record p { wakes = e.cell.waits.wakers }) c (Some v) [] 1 (model.run f w seen_future (cell_seen e1) (Gives v)) (has_filled x.errand v) of_queue fills.permit fills.sound linked
        (omega (arith, fills.held, its_share)) (drained c.waits fills.waits).0 (drained c.waits fills.waits).2 refl refl fills.value (drained c.waits fills.waits).1
        (λ i. passed (who (names_in (sym of_queue i))) (record { value = Some v; taken = p.free == 0; queue = who (names_in (sym of_queue i)); runner = without seen_cell.runner f; waits = [] }))
        (λ i. sym (names-woken e.cell.waits.wakers) i ++ woken_next (who (names_in (sym of_queue i)))) (omega (arith, (drained c.waits fills.waits).3)))
    run_makes (Fails z) told e2 (c, gives, told_is, e2_is) = rw (told_is, e2_is)
        (gone p c e.cell.value (set_names e.cell.waits) 1 (model.run f w seen_future (cell_seen e1) (Fails z)) (answers.Failure z) of_queue (ap (λ (c : NamedCell). c.permit) gives.cell) gives.sound linked
        (omega (arith, gives.held, its_share)) (rw gives.cell slots_same) (rw gives.cell s.low) refl refl (ap (λ (c : NamedCell). c.value) gives.cell) (ap (λ (c : NamedCell). set_names c.waits) gives.cell)
        (λ i. passed (who (names_in (sym of_queue i))) (record { value = e.cell.value; taken = p.free == 0; queue = who (names_in (sym of_queue i)); runner = without seen_cell.runner f; waits = set_names e.cell.waits }))
        (λ i. woken_in (quiet i) ++ woken_next (who (names_in (sym of_queue i))))
        (let none : length p.wakes ≡ 0 = ap length quiet in let same : length c.waits.wakers ≡ length e.cell.waits.wakers = ap (λ (c : NamedCell). length c.waits.wakers) gives.cell in omega (arith, none, same)))

  -- ---- a poll of a caller whose initialiser keeps no waker
  module _ (caller : is_caller x.errand ≡ true) (w : ℕ) (idle : runs e.running f ≡ false) where
    abbrev k : NamedWaker
    k = record { name = f; waker = w }

    abbrev Polled : CellTurn NamedWaker → Core NamedWaker → CellStage → Type 0
    Polled turn p t = HoldsAs permit x.stage p t → IsSoundCell (record e.cell { permit = p }) → (told : PollReply) (e2 : KeptCell) → Follows turn (record e { cell = record e.cell { permit = p } }) k x.errand told e2
        → Makes once e s.fs s.n f x.cell 1 told.answer (left_by told.over (record x { stage = t })) (model.poll f w seen_future seen_cell) e2

    abbrev Polls : Step
    Polls = model.poll f w seen_future seen_cell

    unwaited : waits seen_cell.waits f ≡ false
    unwaited = out_of_waits (caller_is x.errand caller).0

    -- by its stage, where it waits nowhere
    first_poll : x.stage ≡ New → (v : Option ℕ) → e.cell.value ≡ v → Polls ≡ model.start f w seen_future seen_cell v
    first_poll new v value = poll_on w (out_of_queue New new (λ n is. absurd (cc))) idle unwaited ∙ if_false seen_future.polled _ _ (ap is_polled new) ∙ ap (model.start f w seen_future seen_cell) value

    later_poll : waits seen_cell.queue f ≡ false → is_polled x.stage ≡ true → (v : Option ℕ) → e.cell.value ≡ v → Polls ≡ model.take_turn f w seen_future seen_cell v
    later_poll out polled v value = poll_on w out idle unwaited ∙ if_true seen_future.polled _ _ polled ∙ ap (model.take_turn f w seen_future seen_cell) value

    no_number : (t : CellStage) → x.stage ≡ t → ((n : ℕ) → t ≡ Queued n → ⊥) → Linked permit.queue permit.granted (remove its f)
    no_number t is none = linked_gone permit.queue permit.granted its tie.linked f (unqueued once e s.fs tie f x s.there t is none)

    number_taken : (n : ℕ) → x.stage ≡ Queued n → IsNext permit n → Linked permit.queue (remove permit.granted n) (remove its f)
    number_taken n is next = linked_taken permit.queue permit.granted its tie.linked f 1 n (its_at (Queued n) is) (not_waiting permit s.kept.sound.permit n 1 next)

    put_over : (m : Names Acquire) (a : Acquire) → insert (remove m f) f a ≡ insert m f a
    put_over m a = same_named _ _ (by_put (remove m f) f a (λ g o. o ≡ get (insert m f a) g) (sym (get-there m f a)) (λ g apart. get-removed_other m f g apart ∙ sym (get-other m f g a apart)))

    number_new : (n : ℕ) → x.stage ≡ Queued n → IsNext permit n → Linked permit.queue (remove permit.granted n) (insert its f (acquire.New 1))
    number_new n is next = rw (put_over its (acquire.New 1)) at (linked_begun permit.queue (remove permit.granted n) (remove its f) (number_taken n is next) f (rw (get-gone its f) tt) 1)

    queued_fits : (n : ℕ) (b : Bool) → b ≡ true → StageFits b (Queued n)
    queued_fits n true is = tt
    queued_fits n false is = absurd (cc)

    at_new : (turn : CellTurn NamedWaker) (p : Core NamedWaker) (t : CellStage) → x.stage ≡ New → TurnsTo (is_some e.cell.value) permit k New turn p t → Polled turn p t
    at_new turn p t new (FindsFull full) held sound told e2 (v, value, told_is, e2_is) = rw (told_is, e2_is, first_poll new (Some v) value)
        (goes e.cell 1 (model.start f w seen_future seen_cell (Some v)) (found_full x.errand v) refl refl s.kept.sound (no_number New new (λ n is. absurd (cc)))
        (let no_turn : ◌≡◌ {A = ℕ} (cond (is_running x) 1 0) 0 = ap (λ s. cond (runs_at s) 1 0) new in omega (arith, no_turn)) slots_same s.low
        (λ i. record seen_cell { runner = (sym (runner_without e.running f) ∙ without_idle) i })
        (ap woken_in s.kept.quiet) (let none : length permit.wakes ≡ 0 = ap length s.kept.quiet in omega (arith, none)))
      where
        without_idle : without (runner_of e.running) f ≡ runner_of e.running
        without_idle = runner_without e.running f ∙ ap (λ b. runner_of (cond b None e.running)) idle
    at_new turn p t new (TakesFree empty free) held sound told e2 follows =
        rw (first_poll new None (empty_is e.cell.value empty) ∙ (caller_is x.errand caller).2 w seen_cell ∙ if_false seen_cell.taken _ _ (ap (λ n. n == 0) free))
        (run_makes (record permit { free = 0 }) caller w idle refl s.kept.quiet held sound (no_number New new (λ n is. absurd (cc))) (rw (still_insert once e s.fs tie f x s.there New new) tie.linked) (init_of x.errand) told e2 follows)
    at_new turn p t new (LinesUp n q empty taken waits_as) held sound told e2 follows = rw (follows.0, follows.1, first_poll new None (empty_is e.cell.value empty) ∙ (caller_is x.errand caller).2 w seen_cell ∙ if_true seen_cell.taken _ _ (ap (λ n. n == 0) taken))
        (waits_on (record e.cell { permit = q }) (Queued n) w refl sound
        (turned once e s.fs tie f x s.there (record e.cell { permit = q }) (Queued n) (queued_fits n (is_caller x.errand) caller) (λ is. absurd (let no : runs_at x.stage ≡ false = ap runs_at new in cc))
        (rw waits_as.is (linked_pushed permit.queue permit.granted its tie.linked f (unqueued once e s.fs tie f x s.there New new (λ n is. absurd (cc))) n 1 (1 - permit.free) k refl waits_as.not_waiting waits_as.not_granted)) held refl)
        (ap (λ (s : Core NamedWaker). s.wakes) waits_as.is ∙ s.kept.quiet)
        (let len : length q.queue ≡ length permit.queue + 1 = ap (λ (s : Core NamedWaker). length s.queue) waits_as.is ∙ length-append permit.queue ((Acquires n 1 k, 1 - permit.free) ∷ []) in omega (arith, len))
        (model.queues f w seen_future seen_cell)
        ((λ i. seen_with e.cell.value seen_cell.runner seen_cell.waits (waits_as.is i)) ∙ (λ i. record { value = e.cell.value; taken = sym taken i == 0; queue = (ap who (push-names permit.queue n 1 (1 - permit.free) k) ∙ who-append (names_in permit.queue) (((f, w), 1 - permit.free) ∷ [])) i; runner = seen_cell.runner; waits = seen_cell.waits }))
        refl refl refl)

    number_same : (n : ℕ) → x.stage ≡ Queued n → Linked (sem_calls.with_waker permit.queue n k) permit.granted (insert its f (acquire.Queued 1 n))
    number_same n is = rw (still_insert once e s.fs tie f x s.there (Queued n) is) (linked_again permit.queue permit.granted its tie.linked f 1 n (its_at (Queued n) is) k refl)

    not_running : (n : ℕ) → x.stage ≡ Queued n → ◌≡◌ {A = ℕ} (cond (is_running x) 1 0) 0
    not_running n is = ap (λ s. cond (runs_at s) 1 0) is

    at_queued : (n : ℕ) (turn : CellTurn NamedWaker) (p : Core NamedWaker) (t : CellStage) → x.stage ≡ Queued n → TurnsTo (is_some e.cell.value) permit k (Queued n) turn p t → Polled turn p t
    at_queued n turn p t is (FindsLate m next full) held sound told e2 (v, value, told_is, e2_is) = rw (told_is, e2_is, later_poll (next_is_out n is next) (ap is_polled is) (Some v) value)
        (gone (record permit { granted = remove permit.granted n }) (record e.cell { permit = p }) e.cell.value (set_names e.cell.waits) 1 (model.take_turn f w seen_future seen_cell (Some v)) (found_full x.errand v) refl refl sound (number_taken n is next)
        (omega (arith, held, held_is x.stage, not_running n is)) slots_same s.low refl refl refl refl refl (ap (λ ws. woken_in ws ++ woken_next seen_cell.queue) s.kept.quiet)
        (let none : length permit.wakes ≡ 0 = ap length s.kept.quiet in omega (arith, none)))
    at_queued n turn p t is (TakesNext m next empty) held sound told e2 follows = rw (later_poll (next_is_out n is next) (ap is_polled is) None (empty_is e.cell.value empty))
        (run_makes (record permit { granted = remove permit.granted n }) caller w idle refl s.kept.quiet held sound (number_taken n is next) (number_new n is next) (init_of x.errand) told e2 follows)
    at_queued n turn p t is (WaitsOn m waits_in) held sound told e2 follows = rw (follows.0, follows.1, if_true (waits seen_cell.queue f) _ _ (waits_there n is waits_in))
        (waits_on (record e.cell { permit = p }) (Queued n) w refl sound
        (turned once e s.fs tie f x s.there (record e.cell { permit = p }) (Queued n) (queued_fits n (is_caller x.errand) caller) (λ runs. absurd (let no : runs_at x.stage ≡ false = ap runs_at is in cc)) (number_same n is) held refl)
        s.kept.quiet (omega (arith, length-with permit.queue n k)) (model.pends seen_future (record seen_cell { queue = with_waker seen_cell.queue f w }))
        (λ i. record seen_cell { queue = (ap who (queued_with permit.queue permit.granted its tie.linked f 1 n (its_at (Queued n) is) k refl (no_debts permit.queue asks)) ∙ who-rewoken (names_in permit.queue) f w) i })
        (λ i. Some (future_seen (record x { stage = sym is i }))) refl refl)

    at_running : (turn : CellTurn NamedWaker) (p : Core NamedWaker) (t : CellStage) → x.stage ≡ Running → TurnsTo (is_some e.cell.value) permit k Running turn p t → Polled turn p t
    at_running turn p t is (GoesOn empty) held sound told e2 follows = rw (later_poll (out_of_queue Running is (λ n same. absurd (cc))) (ap is_polled is) None (empty_is e.cell.value empty))
        (run_makes permit caller w idle refl s.kept.quiet held sound (no_number Running is (λ n same. absurd (cc))) (rw (still_insert once e s.fs tie f x s.there Running is) tie.linked) (init_of x.errand) told e2 follows)

    at_stage : (t0 : CellStage) → x.stage ≡ t0 → (turn : CellTurn NamedWaker) (p : Core NamedWaker) (t : CellStage) → TurnsTo (is_some e.cell.value) permit k t0 turn p t → Polled turn p t
    at_stage New is turn p t turns_as = at_new turn p t is turns_as
    at_stage (Queued n) is turn p t turns_as = at_queued n turn p t is turns_as
    at_stage Running is turn p t turns_as = at_running turn p t is turns_as
    at_stage Done is turn p t turns_as = absurd (let fits_now = fits_any (is_caller x.errand) x.stage (tie.each f x s.there).stage in subst (StageFits true) is fits_now)

    pub polls_make : (turn : CellTurn NamedWaker) (c : NamedCell) (t : CellStage) → TurnsCell e.cell x.stage k turn c t → (told : PollReply) (e2 : KeptCell) → Follows turn (record e { cell = c }) k x.errand told e2
        → Makes once e s.fs s.n f x.cell 1 told.answer (left_by told.over (record x { stage = t })) Polls e2
    polls_make turn c t turned_as told e2 follows = at_stage x.stage refl turn c.permit t turned_as.turns turned_as.held (rw turned_as.rest at turned_as.sound) told e2 (rw turned_as.rest at follows)

  -- ---- what the calls of the entry ask for
  pub turn_fits : (turn : CellTurn NamedWaker) (k : NamedWaker) (c : NamedCell) (t : CellStage) → TurnsCell e.cell x.stage k turn c t → TurnFits turn c × TurnIsQuiet turn c
  turn_fits turn k c t turned_as = (subst (TurnFits turn) (sym turned_as.rest) (by_turn x.stage refl turn c.permit t turned_as.turns turned_as.held).0, subst (TurnIsQuiet turn) (sym turned_as.rest) (by_turn x.stage refl turn c.permit t turned_as.turns turned_as.held).1)
    where
      by_turn : (t0 : CellStage) → x.stage ≡ t0 → (turn : CellTurn NamedWaker) (p : Core NamedWaker) (t : CellStage) → TurnsTo (is_some e.cell.value) permit k t0 turn p t → HoldsAs permit x.stage p t
          → TurnFits turn (record e.cell { permit = p }) × TurnIsQuiet turn (record e.cell { permit = p })
      by_turn _ is turn p t (FindsFull full) held = (full, tt)
      by_turn _ is turn p t (FindsLate n next full) held = (full, tt)
      by_turn _ is turn p t (TakesFree empty free) held = (omega (arith, held, ap held_at is), s.kept.quiet)
      by_turn _ is turn p t (TakesNext n next empty) held = (omega (arith, held, ap held_at is), s.kept.quiet)
      by_turn _ is turn p t (GoesOn empty) held = (running_held once e s.fs tie f x s.there (ap runs_at is), s.kept.quiet)
      by_turn _ is turn p t (LinesUp n q empty taken waits_as) held = (tt, tt)
      by_turn _ is turn p t (WaitsOn n waits_as) held = (tt, tt)

  -- ---- an end
  end_at_turn : waits seen_cell.queue f ≡ false → is_polled x.stage ≡ true → model.end f seen_future seen_cell ≡ model.leaves (given_up f seen_cell) answers.Done (woken_next seen_cell.queue)
  end_at_turn out polled = if_false (waits seen_cell.queue f) _ _ out ∙ if_true seen_future.polled _ _ polled

  end_unpolled : waits seen_cell.queue f ≡ false → is_polled x.stage ≡ false → model.end f seen_future seen_cell ≡ model.leaves (record seen_cell { runner = without seen_cell.runner f }) answers.Done []
  end_unpolled out new = if_false (waits seen_cell.queue f) _ _ out ∙ if_false seen_future.polled _ _ new

  end_in_queue : waits seen_cell.queue f ≡ true → model.end f seen_future seen_cell ≡ model.leaves (record seen_cell { queue = without seen_cell.queue f }) answers.Done []
  end_in_queue queued = if_true (waits seen_cell.queue f) _ _ queued

  waiting_idle : (n : ℕ) → x.stage ≡ Queued n → runs e.running f ≡ false
  waiting_idle n is = runs_not once e s.fs tie f x s.there (caller_is x.errand caller).1 (ap runs_at is)
    where
      fits_caller : (b : Bool) → StageFits b (Queued n) → b ≡ true
      fits_caller true is_it = refl
      fits_caller false is_it = absurd is_it

      caller : is_caller x.errand ≡ true
      caller = fits_caller (is_caller x.errand) (subst (StageFits (is_caller x.errand)) is (tie.each f x s.there).stage)

  pub ends_make : (c : NamedCell) → LeavesCell e.cell x.stage c → Makes once e s.fs s.n f x.cell 0 answers.Done None (model.end f seen_future seen_cell) (Left c)
  ends_make c left = at x.stage refl left.leaves
    where
      quiet_length : length permit.wakes ≡ 0
      quiet_length = ap length s.kept.quiet

      of_waits : c.waits ≡ e.cell.waits
      of_waits = ap (λ (c : NamedCell). c.waits) left.rest

      slots : (g : ℕ) (y : FutureEntry) → get s.fs g ≡ Some y → SlotIs c.waits g y.wait
      slots = rw of_waits slots_same

      low : AreBelow c.waits.wakers s.n
      low = rw of_waits s.low

      same_waits : length c.waits.wakers ≡ length e.cell.waits.wakers
      same_waits = ap (λ (s : Registered NamedWaker). length s.wakers) of_waits

      held : held_of c.permit + cond (is_running x) 1 0 ≡ held_of permit
      held = omega (arith, left.held, held_is x.stage)

      of_value : c.value ≡ e.cell.value
      of_value = ap (λ (c : NamedCell). c.value) left.rest

      passes : (s0 : Core NamedWaker) → s0.queue ≡ permit.queue → s0.free ≡ permit.free → s0.wakes ≡ [] → c.permit ≡ passed_on s0 → Linked s0.queue s0.granted (remove its f) → waits seen_cell.queue f ≡ false → is_polled x.stage ≡ true
          → Makes once e s.fs s.n f x.cell 0 answers.Done None (model.end f seen_future seen_cell) (Left c)
      passes s0 of_queue of_free quiet is linked out polled = rw (end_at_turn out polled)
          (gone s0 c e.cell.value (set_names e.cell.waits) 0 (model.leaves (given_up f seen_cell) answers.Done (woken_next seen_cell.queue)) answers.Done of_queue is left.sound linked held slots low refl refl of_value (ap set_names of_waits)
          (λ i. passed seen_cell.queue (record seen_cell { taken = of_free i == 0; runner = without seen_cell.runner f })) (ap (λ ws. woken_in ws ++ woken_next seen_cell.queue) quiet)
          (let none : length s0.wakes ≡ 0 = ap length quiet in omega (arith, none, same_waits)))

      at : (t : CellStage) → x.stage ≡ t → Leaves permit t c.permit → Makes once e s.fs s.n f x.cell 0 answers.Done None (model.end f seen_future seen_cell) (Left c)
      at New is leaves = rw (end_unpolled (out_of_queue New is (λ n same. absurd (cc))) (ap is_polled is))
          (goes c 0 (model.leaves (record seen_cell { runner = without seen_cell.runner f }) answers.Done []) answers.Done refl refl left.sound
          (rw leaves (linked_gone permit.queue permit.granted its tie.linked f (unqueued once e s.fs tie f x s.there New is (λ n same. absurd (cc))))) held slots low
          (λ i. record { value = of_value i; taken = (leaves i).free == 0; queue = who (names_in (leaves i).queue); runner = sym (runner_without e.running f) i; waits = set_names (of_waits i) })
          (ap (λ (s : Core NamedWaker). woken_in s.wakes) leaves ∙ ap woken_in s.kept.quiet)
          (let none : length c.permit.wakes ≡ 0 = ap (λ (s : Core NamedWaker). length s.wakes) leaves ∙ quiet_length in let same : length c.permit.queue ≡ length permit.queue = ap (λ (s : Core NamedWaker). length s.queue) leaves in omega (arith, none, same, same_waits)))
      at (Queued n) is leaves = elim (tie.linked.home f (acquire.Queued 1 n) (its_at (Queued n) is)) [
        | inl next ↦ passes (record permit { granted = remove permit.granted n }) refl refl s.kept.quiet (leaves.0 next) (linked_taken permit.queue permit.granted its tie.linked f 1 n (its_at (Queued n) is) (not_waiting permit s.kept.sound.permit n 1 next)) (next_is_out n is next) (ap is_polled is)
        | inr waits_in ↦
            let left_is = leaves.1 waits_in in
            rw (end_in_queue (waits_there n is waits_in))
            (goes c 0 (model.leaves (record seen_cell { queue = without seen_cell.queue f }) answers.Done []) answers.Done refl refl left.sound
            (rw left_is (linked_left permit.queue permit.granted its tie.linked f 1 n (its_at (Queued n) is) (not_granted permit s.kept.sound.permit n (1, waits_in.0) waits_in.1))) held slots low
            ((λ i. record { value = of_value i; taken = (left_is i).free == 0; queue = who (names_in (left_is i).queue); runner = ap (λ b. runner_of (cond b None e.running)) (waiting_idle n is) i; waits = set_names (of_waits i) })
            ∙ (λ i. record seen_cell { queue = (ap who (queued_without permit.queue permit.granted its tie.linked f 1 n (its_at (Queued n) is) (no_debts permit.queue asks)) ∙ who-leaving (names_in permit.queue) f) i }))
            (ap (λ (s : Core NamedWaker). woken_in s.wakes) left_is ∙ ap woken_in s.kept.quiet)
            (let none : length c.permit.wakes ≡ 0 = ap (λ (s : Core NamedWaker). length s.wakes) left_is ∙ quiet_length in let same : length c.permit.queue ≡ length (without_acquire permit.queue n) = ap (λ (s : Core NamedWaker). length s.queue) left_is in omega (arith, none, same, same_waits, length-without permit.queue n)))
      ]
      at Running is leaves = passes permit refl refl s.kept.quiet leaves (linked_gone permit.queue permit.granted its tie.linked f (unqueued once e s.fs tie f x s.there Running is (λ n same. absurd (cc)))) (out_of_queue Running is (λ n same. absurd (cc))) (ap is_polled is)
      at Done is leaves = absurd (let fits_now = fits_any (is_caller x.errand) x.stage (tie.each f x s.there).stage in subst (StageFits true) is fits_now)

-- ---- the calls of the entry
pub end_fits : (once : Bool) (e e2 : KeptCell) (f : ℕ) (x : FutureEntry) (c : NamedCell) (more : ℕ) → Stands once e f x → LeavesCell e.cell x.stage c → e2 ≡ finished (stopped (record e { cell = c }) f) x.errand → more ≡ keeps e → keeps e2 + length e2.cell.permit.wakes ≤ more
end_fits once e e2 f x c more s left is all = rw (is, all) (let made = ends_make once e f x s c left in omega (arith, made.fit))

pub end_steps : (once : Bool) (e e2 new : KeptCell) (f : ℕ) (x : FutureEntry) (c : NamedCell) (more : ℕ) (before after : Waking ℕ) (s : Stands once e f x) → LeavesCell e.cell x.stage c → e2 ≡ finished (stopped (record e { cell = c }) f) x.errand → more ≡ keeps e → HandsOn e2 new more before after
    → Stepped once e s.fs s.n f x.cell None (model.end f (future_seen x) (cell_seen e)) answers.Done new before after
end_steps once e e2 new f x c more before after s left is all hands =
    let exactly : more ≡ keeps e + 0 = omega (arith, all) in
    handed once e s.fs s.n f x.cell 0 answers.Done None (model.end f (future_seen x) (cell_seen e)) e2 new before before after (rw is (ends_make once e f x s c left)) (rw exactly at hands) refl (omega arith)

-- a caller whose initialiser keeps no waker was polled
pub polled_fits : (once : Bool) (e e2 : KeptCell) (f w : ℕ) (x : FutureEntry) (turn : CellTurn NamedWaker) (c : NamedCell) (t : CellStage) (told : PollReply) (more : ℕ) → Stands once e f x → is_caller x.errand ≡ true → runs e.running f ≡ false
    → TurnsCell e.cell x.stage (record { name = f; waker = w }) turn c t → Follows turn (record e { cell = c }) (record { name = f; waker = w }) x.errand told e2 → more ≡ keeps e + 1 → keeps e2 + length e2.cell.permit.wakes ≤ more
polled_fits once e e2 f w x turn c t told more s caller idle turned_as follows all = rw all (polls_make once e f x s caller w idle turn c t turned_as told e2 follows).fit

pub polled_steps : (once : Bool) (e e2 new : KeptCell) (f w : ℕ) (x y : FutureEntry) (turn : CellTurn NamedWaker) (c : NamedCell) (t : CellStage) (told : PollReply) (more : ℕ) (before ready after : Waking ℕ) (s : Stands once e f x) → is_caller x.errand ≡ true → runs e.running f ≡ false
    → TurnsCell e.cell x.stage (record { name = f; waker = w }) turn c t → Follows turn (record e { cell = c }) (record { name = f; waker = w }) x.errand told e2 → (told.over ≡ false → y ≡ record x { stage = t }) → more ≡ keeps e + 1
    → ready ≡ record before { registered = before.registered + 1 } → HandsOn e2 new more ready after → Stepped once e s.fs s.n f x.cell (left_by told.over y) (model.poll f w (future_seen x) (cell_seen e)) told.answer new before after
polled_steps once e e2 new f w x y turn c t told more before ready after s caller idle turned_as follows stays all grown hands =
    rw (same told.over stays) (handed once e s.fs s.n f x.cell 1 told.answer (left_by told.over (record x { stage = t })) (model.poll f w (future_seen x) (cell_seen e)) e2 new before ready after
    (polls_make once e f x s caller w idle turn c t turned_as told e2 follows) (rw all at hands) (ap (λ (r : Waking ℕ). r.wakers) grown) (ap (λ (r : Waking ℕ). r.registered) grown))
  where
    same : (b : Bool) → (b ≡ false → y ≡ record x { stage = t }) → left_by b y ≡ left_by b (record x { stage = t })
    same true is = refl
    same false is = ap (λ y. Some y) (is refl)
