-- a call on a future of a map or a group, in whichever way it comes to its round: a poll, one that polls again or settles, and an end; and what they ask for
use Rattle.std.proofs.Common.{◌≡◌, ℕ, ◌+◌, ◌-◌, ◌≤◌, ◌++◌, inl, inr, Bool, false, cond, length, List, [], Option, Some, None, Result, Ok, is_some, MatchOption, nat_eq, refl, ap, sym, subst, ◌∙◌, arith, true, ◌<◌, ◌^◌, ◌==◌, ◌&&◌, not, append-nil}
use Rattle.std.specs.FinMap.{get, insert, remove}
use Rattle.mea_family.specs.declared.answer.Answer.{Answer}
use Rattle.mea_family.specs.declared.answer.Answer.TheVariants as answer_is
use Rattle.mea_family.specs.Family.{Outcome}
use Rattle.mea_base.specs.Ready.{Waking}
use Rattle.mea_base.proofs.Maps.{inside, get-there, get-other, get-gone, get-removed_other, total-has}
use Rattle.mea_sets.specs.Poll.{Poll, Ready}
use Rattle.mea_by_name.specs.ByName.{Names, count}
use Rattle.mea_by_name.specs.declared.named_waker.NamedWaker.{NamedWaker}
use Rattle.mea_by_name.proofs.Cases.{found_is}
use Rattle.mea_by_name.proofs.Own.{seen-at, put_gone, gone_none, len-gone, count-least, count-gone, len-some}
use Rattle.mea_once_core.specs.Cell.{Cell as CoreCell, PollsInit, rested}
use Rattle.mea_once_core.specs.Table.{entry_at, fresh_entry, is_last, HasRoom}
use Rattle.mea_once_core.specs.Keyed.{PollsKey, PollsAt, IsSameKeyed, MayPollKey, MayPollAt, MayEndKey, MayEndAt, EndsAt, EndsCaller, without_caller}
use Rattle.mea_once_core.specs.Waiting.{waiting_at, waiting_in}
use Rattle.mea_once_core.proofs.Waits.{same-waiting}
use Rattle.mea_once_core.specs.declared.init_call.InitCall.{InitCall}
use Rattle.mea_once_core.specs.declared.key_call.KeyCall.{KeyCall}
use Rattle.mea_once_core.specs.declared.key_call.KeyStage.TheVariants as key_stages
use Rattle.mea_once_core.specs.declared.cell_stage.CellStage.TheVariants.{New}
use Rattle.mea_once_model.specs.declared.errand.Errand.TheVariants.{Computes}
use Rattle.mea_once_model.specs.Cells as cells
use Rattle.mea_once_model.specs.Cells.{Cell, CellFuture, Step, turned_to}
use Rattle.mea_once_model.specs.Tables as tables
use Rattle.mea_once_model.specs.Tables.{Tables, KeyStep, is_this, others_of, applied}
use Rattle.mea_once.specs.declared.key_future.KeyFuture.{KeyFuture}
use Rattle.mea_once.specs.declared.round.Round.{Round}
use Rattle.mea_once.specs.declared.scripted.Scripted.{Scripted}
use Rattle.mea_once.specs.declared.poll_reply.PollReply.{PollReply}
use Rattle.mea_once.specs.Entries.{of_running, runs, left_by, keeps, waking}
use Rattle.mea_once.specs.KeyCores.{NamedKeyed, answers}
use Rattle.mea_once.specs.KeyEntries.{KeptTable, FollowsKey, HandsKeys, kept_with, joined, new_round, closed, left_round, one_future_less, running_in, current_without, with_running}
use Rattle.mea_once.specs.Parts as parts
use Rattle.mea_once.specs.Parts.{future_seen, AreKept, Stepped}
use Rattle.mea_once.specs.KeyParts.{value_of, kept_cell, round_in, round_seen, table_seen, key_future_seen, as_caller, IsKey, Absent, Computing, Valued, IsRound, others, StandsTable, SteppedTable, callers_of, CallFits, table_keeps}
use Rattle.mea_once.proofs.OneCell.{may_poll, woken_in, end_at}
use Rattle.mea_once.proofs.KeyCells.{named, polled_cell, cell_of, ended_cell}
use Rattle.mea_once.proofs.KeySteps.{Entry, number, Asked, AskedNew, by_none, goes_on, begins_at, begins_new, finds_at, with_cell, kept_numbers, Becomes, by_sets, by_leaving, two_steps, only_after, as_becomes, number_after, full_not_last}
use Rattle.mea_once.proofs.KeyTables.{round_fits, get_values, value_at, Elsewhere, Changed, changed_together, total_elsewhere}
use Rattle.std.proofs.lemmas.Bool.{eq-eqb, ne_eqb}
use Rattle.mea_once.proofs.KeyStarts.{Start, Status, Current, Full, Aside, at_round, entered, stays_changed, stays_seen, stays_closed, without_same, left_queue, count_callers, empty_changed, empty_seen, full_changed, full_seen}
use Rattle.mea_once.proofs.KeyEvents.{its_call, its_round, its_there, its_entry, starts_there, joined_entry, is_now, starts_joined, number_there, no_round, starts_new}
use Rattle.mea_once.proofs.KeyResults.{Did, did_fit, did_steps, same_seen, same_keeps, same_together}
use Rattle.mea_once.proofs.KeyPolls.{rested_table, its_stand, key_step, polled_did, stay_step, left_is, left_keyed, members, gone_step, others_left, runner_left, rounds_left, here_left}
use Rattle.mea_base.specs.Totals.{weight}
use Rattle.mea_base.proofs.Tests.{by_name}
use Rattle.mea_once_core.specs.Links.{Changes}
use Rattle.mea_once_model.specs.declared.errand.Initialiser.{Initialiser}
use Rattle.mea_once.proofs.Others.{rewakes, settles}
use Rattle.mea_once_core.proofs.Tables.{and-false, and-true}
use Rattle.mea_once_core.specs.declared.key_call.KeyStage.{KeyStage}
use Rattle.mea_once.specs.declared.future_entry.FutureEntry.{FutureEntry}
use Rattle.mea_once.proofs.Steps.{Makes, at_rest}

pub by_some : (A : Type 0) (B : ℕ → Type 0) (o : Option ℕ) (v : ℕ) → MatchOption o A B → o ≡ Some v → B v
by_some A B None v h is = absurd (cc)
by_some A B (Some u) v h is = subst B (inside is) h

-- what a step at a round is in the model
pub in_round_is : (once : Bool) (e : KeptTable) (fs : Names KeyFuture) (f : ℕ) (x : KeyFuture) (n : ℕ) (act : CellFuture → Cell → Step) (h : Tables) (c : Cell) (y : CellFuture) → others_of h f x.table n ≡ others fs f n → get (table_seen e).rounds n ≡ Some c → tables.caller (key_future_seen x) ≡ y
    → tables.in_round once h f (key_future_seen x) (table_seen e) act n ≡ applied h f x.table (tables.at_round once (key_future_seen x) n (others fs f n) (table_seen e) (act y c))
in_round_is once e fs f x n act h c y count there caller =
    found_is (get (table_seen e).rounds n) h (λ c. applied h f x.table (tables.at_round once (key_future_seen x) n (others_of h f x.table n) (table_seen e) (act (tables.caller (key_future_seen x)) c))) c there
    ∙ (λ j. applied h f x.table (tables.at_round once (key_future_seen x) n (count j) (table_seen e) (act (caller j) c)))

-- a round, as the model sees it
pub seen_round : (e : KeptTable) (n : ℕ) (r : Round) (s : Entry) → get e.rounds n ≡ Some r → entry_at e.keyed.table r.entry ≡ Some s → get (table_seen e).rounds n ≡ Some (parts.cell_seen (kept_cell s.cell r))
seen_round e n r s there shown = seen-at (round_seen e.keyed.table) e.rounds n r there ∙ ap (λ o. Some (round_in o r)) shown

-- a future of no round is gone, and the core is as it was
pub leaves_so : (once : Bool) (e : KeptTable) (f : ℕ) (x : KeyFuture) (i : ℕ) (s : StandsTable once e f x i) (k : NamedKeyed) → IsSameKeyed nat_eq e.keyed k → x.round ≡ None → (out : Tables → Outcome Tables) (answer : Answer) (step : KeyStep)
    → ((h : Tables) → get h.tables x.table ≡ Some (table_seen e) → ((n : ℕ) → others_of h f x.table n ≡ others s.fs f n) → out h ≡ applied h f x.table step) → answer ≡ step.reply → table_seen e ≡ step.table → None ≡ step.future → (new : KeptTable) (before after : Waking ℕ)
    → new ≡ record { keyed = k; current = e.current; rounds = e.rounds; futures = e.futures - 1 } → after.wakers ≡ before.wakers ++ step.wakes → after.registered ≡ before.registered → SteppedTable once e s.fs i f x.table None out answer new before after
leaves_so once e f x i s k same of out answer step is replied table future new before after new_is wakers counted = rw new_is (record {
  step = step;
  is = is;
  replied = replied;
  table = same_seen once e s.fs s.kept (record { keyed = k; current = e.current; rounds = e.rounds; futures = e.futures - 1 }) same refl refl ∙ table;
  future = future;
  mine = tt;
  woken = wakers;
  counted = omega (arith, counted, same_keeps once e s.fs s.kept (record { keyed = k; current = e.current; rounds = e.rounds; futures = e.futures - 1 }) same refl refl);
  kept = same_together once e s.fs s.kept (record { keyed = k; current = e.current; rounds = e.rounds; futures = e.futures - 1 }) same refl refl (remove s.fs f) f (λ j apart. get-removed_other s.fs f j apart)
      (λ y is. ap (λ (y : KeyFuture). y.round) (inside (sym is ∙ s.there)) ∙ of) (λ y is. absurd (let none = get-gone s.fs f in cc)) (ap (λ n. n - 1) s.kept.futures ∙ sym (len-gone s.fs f x s.there));
  few = omega arith;
  low = λ q r is. let low = s.low q r is in omega arith;
})

module _ (once : Bool) (e : KeptTable) (f w : ℕ) (x : KeyFuture) (i : ℕ) (s : StandsTable once e f x i) where
  abbrev out : Tables → Outcome Tables
  out h = tables.poll once h i f w (key_future_seen x) (table_seen e) x.round

  -- what is to be shown of a poll that told this and left this, before wakers are handed on; so many were kept before
  pub record Polled_so (r kept_before : Option NamedWaker) (told : PollReply) (e3 : KeptTable) (x3 : KeyFuture) : Type 0 where
    pub fit : kept_with e3 r + length e3.keyed.wakes ≤ waiting_in e.keyed.table.slots + of_running kept_before + 1
    pub steps : (new : KeptTable) (more : ℕ) (before ready after : Waking ℕ) → HandsKeys e3 r new more ready after → more ≡ waiting_in e.keyed.table.slots + of_running kept_before + 1 → ready.wakers ≡ before.wakers → ready.registered ≡ before.registered + 1
        → SteppedTable once e s.fs i f x.table (left_by told.over x3) out told.answer new before after

  by_did : (n m : ℕ) (r : Round) (se : Entry) (cur : Names ℕ) (num : Option ℕ) (start : Start once e s.fs i f x n m r se cur num) (k' : NamedKeyed) (run : Option NamedWaker) (told : PollReply) (e3 : KeptTable) (x3 : KeyFuture) (step : KeyStep)
      → Did once e s.fs i f x n m r (left_by told.over x3) (rested_table e3) run k'.wakes 1 step told.answer → e3.keyed ≡ k' → ((h : Tables) → get h.tables x.table ≡ Some (table_seen e) → ((n : ℕ) → others_of h f x.table n ≡ others s.fs f n) → out h ≡ applied h f x.table step) → Polled_so run r.running told e3 x3
  by_did n m r se cur num start k' run told e3 x3 step did same is = record {
    fit = let wakes : length e3.keyed.wakes ≡ length k'.wakes = ap (λ (k : NamedKeyed). length k.wakes) same in omega (arith, wakes, did_fit once e f x i s n m r se cur num start (left_by told.over x3) (rested_table e3) run k'.wakes 1 step told.answer did);
    steps = λ new more before ready after hands all wakers grown.
        subst (λ new. SteppedTable once e s.fs i f x.table (left_by told.over x3) out told.answer new before after) (sym hands.entry)
        (did_steps once e f x i s n m r se cur num start (left_by told.over x3) (rested_table e3) run k'.wakes 1 step told.answer did out is before after
        (hands.wakers ∙ (λ j. wakers j ++ woken_in (same j).wakes)) (omega (arith, hands.counted, all, grown)));
  }

  -- a value that is there is there still once who found it is gone
  still_full : (n m : ℕ) (r : Round) (se : Entry) (cur : Names ℕ) (num : Option ℕ) (start : Start once e s.fs i f x n m r se cur num) → runs r.running f ≡ false → (call' : InitCall Scripted) (c : CoreCell ℕ NamedWaker) (v : ℕ)
      → PollsInit answers se.cell x.call.call (named f w) (Ok (Ready (Ok tt))) c call' → se.cell.value ≡ Some v → c.value ≡ Some v
  still_full n m r se cur num start idle call' c v polls full =
      let made = polled_cell se.cell r.running r.callers f x.table x.call.call.init.outcome x.call.call.stage (its_stand once e f w x i s n m r se cur num start) w idle x.call.call.init refl (Ready (Ok tt)) c call' polls in
      elim made.0.3 as (λ z. c.value ≡ Some v) [ inl same ↦ sym same ∙ full | inr none ↦ absurd (cc) ]

  -- it is a caller of its round
  module _ (n : ℕ) (of : x.round ≡ Some n) (idle : runs (its_round once e f x i s n of).running f ≡ false) (k' : NamedKeyed) (call' : KeyCall ℕ Scripted) (poll : Poll (Result ℕ ℕ)) (polls : PollsKey answers nat_eq once e.keyed x.call (named f w) (Ok poll) k' call') where
    abbrev r2 : Round
    r2 = its_round once e f x i s n of

    abbrev se2 : Entry
    se2 = its_entry once e f x i s n of

    abbrev start2 : Start once e s.fs i f x n r2.entry r2 se2 e.current (number e.keyed x.key)
    start2 = starts_there once e f x i s n of

    abbrev there2 : get e.rounds n ≡ Some r2
    there2 = its_there once e f x i s n of

    abbrev shown2 : IsRound e s.fs n r2
    shown2 = s.kept.rounds n r2 there2

    asked0 : Asked once e.keyed k' x.key x.call.call call'.call (named f w) poll call'.stage r2.entry se2 (number e.keyed x.key)
    asked0 =
        let stage : x.call.stage ≡ key_stages.Calls r2.entry = (its_call once e f x i s (Some n) of).2 in
        let caller = subst (λ st. PollsAt answers nat_eq once st e.keyed x.call.call (named f w) (Ok poll) k' call'.call call'.stage) stage polls in
        goes_on once e.keyed k' x.key x.call.call call'.call (named f w) poll call'.stage r2.entry se2 start2.around.only (round_fits once e s.fs s.kept n r2 there2) shown2.there shown2.kept.sound.permit
        (may_poll false (kept_cell se2.cell r2) (its_stand once e f w x i s n r2.entry r2 se2 e.current (number e.keyed x.key) start2).fs start2.kept.tied f (as_caller x) (its_stand once e f w x i s n r2.entry r2 se2 e.current (number e.keyed x.key) start2).there)
        (caller se2 shown2.there) (still_full n r2.entry r2 se2 e.current (number e.keyed x.key) start2 idle call'.call)

    pub polls_there : (told : PollReply) (e3 : KeptTable) (x3 : KeyFuture) → FollowsKey poll (record e { keyed = k' }) n r2 (record x { call = call' }) (named f w) told e3 x3 → Polled_so (running_in call'.call.stage r2.running (named f w)) r2.running told e3 x3
    polls_there told e3 x3 follows =
        let did = polled_did once e f w x i s n r2.entry r2 se2 e.current (number e.keyed x.key) start2 idle k' call'.call poll call'.stage asked0 e.rounds (λ q apart. refl) told e3 x3 follows in
        by_did n r2.entry r2 se2 e.current (number e.keyed x.key) start2 k' (running_in call'.call.stage r2.running (named f w)) told e3 x3
        (key_step once e f w x i s n r2.entry r2 se2 e.current (number e.keyed x.key) start2 (cells.poll f w (future_seen (as_caller x)) (parts.cell_seen (kept_cell se2.cell r2)))) did.0 did.1
        (λ h tables_there count. ap (tables.poll once h i f w (key_future_seen x) (table_seen e)) of ∙ in_round_is once e s.fs f x n (cells.poll f w) h (parts.cell_seen (kept_cell se2.cell r2)) (future_seen (as_caller x)) (count n) (seen_round e n r2 se2 there2 shown2.there)
        (λ j. record { cell = x.table; errand = Computes x.call.call.init.outcome; polled = (ap is_some of ∙ sym (its_call once e f x i s (Some n) of).4) j }))

  -- it is a caller of none yet
  module _ (of : x.round ≡ None) (k' : NamedKeyed) (call' : KeyCall ℕ Scripted) (poll : Poll (Result ℕ ℕ)) (polls : PollsKey answers nat_eq once e.keyed x.call (named f w) (Ok poll) k' call') where
    abbrev new_stage : (x.call.stage ≡ key_stages.New x.key) × (x.call.call.stage ≡ New)
    new_stage = its_call once e f x i s None of

    first : PollsAt answers nat_eq once (key_stages.New x.key) e.keyed x.call.call (named f w) (Ok poll) k' call'.call call'.stage
    first = subst (λ st. PollsAt answers nat_eq once st e.keyed x.call.call (named f w) (Ok poll) k' call'.call call'.stage) new_stage.0 polls

    new_caller : tables.caller (key_future_seen x) ≡ future_seen (as_caller x)
    new_caller = λ j. record { cell = x.table; errand = Computes x.call.call.init.outcome; polled = (ap is_some of ∙ sym (ap parts.is_polled new_stage.1)) j }

    module _ (n : ℕ) (now : get e.current x.key ≡ Some n) (r : Round) (there : get e.rounds n ≡ Some r) (idle : runs r.running f ≡ false) where
      abbrev se1 : Entry
      se1 = joined_entry once e f x i s of n now r there

      abbrev start1 : Start once e s.fs i f x n r.entry (joined r) se1 e.current (number e.keyed x.key)
      start1 = starts_joined once e f x i s of n now r there

      abbrev shown1 : IsRound e s.fs n r
      shown1 = s.kept.rounds n r there

      asked1 : Asked once e.keyed k' x.key x.call.call call'.call (named f w) poll call'.stage r.entry se1 (number e.keyed x.key)
      asked1 = begins_at once e.keyed k' x.key x.call.call call'.call (named f w) poll call'.stage r.entry shown1.shown start1.around.only shown1.there (is_now once e f x i s of n now r there).empty
          (by_some _ _ (number e.keyed x.key) r.entry first (is_now once e f x i s of n now r there).num shown1.shown shown1.there)

      no_value : get (table_seen e).values x.key ≡ None
      no_value = at start1.status
        where
          at : Status once e n r.entry x.key se1 e.current (number e.keyed x.key) → get (table_seen e).values x.key ≡ None
          at (Current listed none is num nothing) = nothing
          at (Full v listed full is num map_only had) = absurd (cc)
          at (Aside unlisted key other num same no_more) = absurd (let listed = (is_now once e f x i s of n now r there).listed in cc)

      pub polls_joined : (told : PollReply) (e3 : KeptTable) (x3 : KeyFuture) → FollowsKey poll (record e { keyed = k'; rounds = insert e.rounds n (joined r) }) n (joined r) (record x { call = call' }) (named f w) told e3 x3 → Polled_so (running_in call'.call.stage r.running (named f w)) r.running told e3 x3
      polls_joined told e3 x3 follows =
          let did = polled_did once e f w x i s n r.entry (joined r) se1 e.current (number e.keyed x.key) start1 idle k' call'.call poll call'.stage asked1 (insert e.rounds n (joined r)) (λ q apart. get-other e.rounds n q (joined r) apart) told e3 x3 follows in
          by_did n r.entry (joined r) se1 e.current (number e.keyed x.key) start1 k' (running_in call'.call.stage r.running (named f w)) told e3 x3
          (key_step once e f w x i s n r.entry (joined r) se1 e.current (number e.keyed x.key) start1 (cells.poll f w (future_seen (as_caller x)) (parts.cell_seen (kept_cell se1.cell (joined r))))) did.0 did.1
          (λ h tables_there count. ap (tables.poll once h i f w (key_future_seen x) (table_seen e)) of ∙ ap (tables.first_poll once h i f w (key_future_seen x) (table_seen e)) no_value ∙ ap (tables.join_round once h i f w (key_future_seen x) (table_seen e)) now
          ∙ in_round_is once e s.fs f x n (cells.poll f w) h (parts.cell_seen (kept_cell se1.cell (joined r))) (future_seen (as_caller x)) (count n) (seen_round e n r shown1.shown there shown1.there) new_caller)

    module _ (none : get e.current x.key ≡ None) where
      abbrev opened : KeptTable
      opened = record e { rounds = insert e.rounds i (new_round x.key); current = insert e.current x.key i }

      -- the key has neither a value nor a round
      by_new : number e.keyed x.key ≡ None → AskedNew once e.keyed k' x.key x.call.call call'.call (named f w) poll call'.stage → (told : PollReply) (e3 : KeptTable) (x3 : KeyFuture) → FollowsKey poll (record opened { keyed = k' }) i (new_round x.key) (record x { call = call' }) (named f w) told e3 x3
          → Polled_so (running_in call'.call.stage None (named f w)) None told e3 x3
      by_new no_number asked told e3 x3 follows =
          let start = starts_new once e f x i s of none no_number asked.m asked.fresh in
          let did = polled_did once e f w x i s i asked.m (new_round x.key) fresh_entry (insert e.current x.key i) (Some asked.m) start refl k' call'.call poll call'.stage asked.asked (insert e.rounds i (new_round x.key)) (λ q apart. get-other e.rounds i q (new_round x.key) apart) told e3 x3 follows in
          by_did i asked.m (new_round x.key) fresh_entry (insert e.current x.key i) (Some asked.m) start k' (running_in call'.call.stage None (named f w)) told e3 x3
          (key_step once e f w x i s i asked.m (new_round x.key) fresh_entry (insert e.current x.key i) (Some asked.m) start (cells.poll f w (future_seen (as_caller x)) (parts.cell_seen (kept_cell fresh_entry.cell (new_round x.key))))) did.0 did.1
          (λ h tables_there count. ap (tables.poll once h i f w (key_future_seen x) (table_seen e)) of ∙ ap (tables.first_poll once h i f w (key_future_seen x) (table_seen e)) (value_none start.status) ∙ ap (tables.join_round once h i f w (key_future_seen x) (table_seen e)) none
          ∙ (λ j. applied h f x.table (tables.at_round once (key_future_seen x) i (count i j) (record (table_seen e) { current = insert e.current x.key i }) (cells.poll f w (new_caller j) (cells.new_cell None)))))
        where
          value_none : {m : ℕ} → Status once e i m x.key fresh_entry (insert e.current x.key i) (Some m) → get (table_seen e).values x.key ≡ None
          value_none (Current listed nothing_there is num nothing) = nothing
          value_none (Full v listed full is num map_only had) = absurd (cc)
          value_none (Aside unlisted key other num same no_more) = absurd (cc)

      -- the key has a value
      by_value : (m v : ℕ) (z : Entry) → number e.keyed x.key ≡ Some m → entry_at e.keyed.table m ≡ Some z → z.cell.value ≡ Some v → (told : PollReply) (e3 : KeptTable) (x3 : KeyFuture) → FollowsKey poll (record opened { keyed = k' }) i (new_round x.key) (record x { call = call' }) (named f w) told e3 x3
          → Polled_so (running_in call'.call.stage None (named f w)) None told e3 x3
      by_value m v z num entry full told e3 x3 follows =
          let found_it = finds_at once e.keyed k' x.key x.call.call call'.call (named f w) poll call'.stage m v z full (by_some _ _ (number e.keyed x.key) m first num z entry) in
          let after = subst (λ q. FollowsKey q (record opened { keyed = k' }) i (new_round x.key) (record x { call = call' }) (named f w) told e3 x3) found_it.0 follows in
          let idle_run : running_in call'.call.stage None (named f w) ≡ None = (λ j. running_in (found_it.1 j).stage None (named f w)) ∙ ap (λ st. running_in st None (named f w)) new_stage.1 in
          rw (after.0, after.1 ∙ back, idle_run) (record {
            fit =
                let slots = same-waiting e.keyed.table.slots k'.table.slots (λ q. ap waiting_at (found_it.2.0.0 q)) in
                let wakes : length k'.wakes ≡ 0 = ap (λ (ws : List NamedWaker). length ws) (found_it.2.1 ∙ s.kept.quiet) in
                omega (arith, slots, wakes);
            steps = λ new more before ready after hands all wakers grown.
                let slots = same-waiting e.keyed.table.slots k'.table.slots (λ q. ap waiting_at (found_it.2.0.0 q)) in
                let no_wakes : k'.wakes ≡ [] = found_it.2.1 ∙ s.kept.quiet in
                leaves_so once e f x i s (record k' { wakes = [] }) (found_it.2.0, sym s.kept.quiet) of out (answer_is.Value v) (tables.finds (table_seen e) v)
                (λ h tables_there count. ap (tables.poll once h i f w (key_future_seen x) (table_seen e)) of ∙ ap (tables.first_poll once h i f w (key_future_seen x) (table_seen e)) had) refl refl refl new before after hands.entry
                (hands.wakers ∙ (λ j. wakers j ++ woken_in (no_wakes j))) (omega (arith, hands.counted, all, grown, slots));
          })
        where
          had : get (table_seen e).values x.key ≡ Some v
          had = get_values e.keyed.table e.keyed.table.pairs x.key ∙ ap (value_at e.keyed.table) num ∙ ap value_of entry ∙ full

          closes_once : current_without (insert e.current x.key i) x.key i ≡ e.current
          closes_once = ap (λ o. cond (is_this i o) (remove (insert e.current x.key i) x.key) (insert e.current x.key i)) (get-there e.current x.key i) ∙ ap (λ b. cond b (remove (insert e.current x.key i) x.key) (insert e.current x.key i)) (eq-eqb i i refl) ∙ put_gone e.current x.key i ∙ gone_none e.current x.key none

          closes_twice : current_without (current_without (insert e.current x.key i) x.key i) x.key i ≡ e.current
          closes_twice = ap (λ m. current_without m x.key i) closes_once ∙ ap (λ o. cond (is_this i o) (remove e.current x.key) e.current) none

          back : one_future_less (left_round (closed (record opened { keyed = k' }) x.key i) x.key i (new_round x.key)) ≡ record { keyed = k'; current = e.current; rounds = e.rounds; futures = e.futures - 1 }
          back = λ j. record { keyed = k'; current = closes_twice j; rounds = (put_gone e.rounds i (new_round x.key) ∙ gone_none e.rounds i (no_round once e f x i s)) j; futures = e.futures - 1 }

      pub polls_opened : (told : PollReply) (e3 : KeptTable) (x3 : KeyFuture) → FollowsKey poll (record opened { keyed = k' }) i (new_round x.key) (record x { call = call' }) (named f w) told e3 x3 → Polled_so (running_in call'.call.stage None (named f w)) None told e3 x3
      polls_opened = at (s.kept.keys x.key)
        where
          at : IsKey once e x.key → (told : PollReply) (e3 : KeptTable) (x3 : KeyFuture) → FollowsKey poll (record opened { keyed = k' }) i (new_round x.key) (record x { call = call' }) (named f w) told e3 x3 → Polled_so (running_in call'.call.stage None (named f w)) None told e3 x3
          at (Absent no_number current) = by_new no_number (begins_new once e.keyed k' x.key x.call.call call'.call (named f w) poll call'.stage (number_there once e f x i s of) (by_none _ _ (number e.keyed x.key) first no_number))
          at (Computing n r z num current is key entry empty listed) = absurd (cc)
          at (Valued m v z num current entry full listed map_only round) = by_value m v z num entry full

module _ (once : Bool) (e : KeptTable) (f : ℕ) (x : KeyFuture) (i : ℕ) (s : StandsTable once e f x i) where
  -- ---- what polls and ends ask for
  few_callers : (n : ℕ) (r : Round) → get e.rounds n ≡ Some r → (x.round ≡ Some n → ⊥) → r.callers + 1 ≤ e.futures
  few_callers n r there other =
      let it = s.kept.rounds n r there in
      let counted : count (λ (x : KeyFuture). is_this n x.round) s.fs ≡ r.callers = count_callers n s.fs ∙ sym it.kept.tied.futures in
      let mine : ◌≡◌ {A = ℕ} (cond (is_this n x.round) 1 0) 0 = ap (λ b. cond b 1 0) (not_mine x.round refl) in
      omega (arith, counted, mine, s.kept.futures, count-gone s.fs f (λ (x : KeyFuture). is_this n x.round) x s.there, count-least (λ (x : KeyFuture). is_this n x.round) (remove s.fs f), len-gone s.fs f x s.there, len-some s.fs f x s.there)
    where
      not_mine : (o : Option ℕ) → x.round ≡ o → is_this n o ≡ false
      not_mine None of = refl
      not_mine (Some q) of = ne_eqb q n (λ same. other (of ∙ ap (λ q. Some q) same))

  pub all_callers : (n : ℕ) (r : Round) → get e.rounds n ≡ Some r → r.callers ≤ e.futures
  all_callers n r there =
      let it = s.kept.rounds n r there in
      let counted : count (λ (x : KeyFuture). is_this n x.round) s.fs ≡ r.callers = count_callers n s.fs ∙ sym it.kept.tied.futures in
      omega (arith, counted, s.kept.futures, count-least (λ (x : KeyFuture). is_this n x.round) s.fs)

  pub enter_few : (n : ℕ) (r : Round) → get e.rounds n ≡ Some r → r.callers + 1 < 2 ^ 128
  enter_few n r there = let few = all_callers n r there in let small = s.few in let fits = s.fits in omega arith

  -- a further caller finds room at its key's entry
  has_room : x.round ≡ None → HasRoom nat_eq e.keyed.table x.key
  has_room of m z num entry = at (s.kept.keys x.key)
    where
      by_round : (n : ℕ) (r : Round) → get e.rounds n ≡ Some r → r.entry ≡ m → z.callers < 18446744073709551615
      by_round n r there same =
          let it = s.kept.rounds n r there in
          let one : it.shown ≡ z = inside (sym it.there ∙ ap (entry_at e.keyed.table) same ∙ entry) in
          let callers : z.callers ≡ r.callers = ap (λ (z : Entry). z.callers) (sym one) ∙ it.callers in
          let few = few_callers n r there (λ mine. absurd (cc)) in let small = s.few in let fits = s.fits in omega arith

      at : IsKey once e x.key → z.callers < 18446744073709551615
      at (Absent none current) = absurd (cc)
      at (Computing n r t num_t current is key entry_t empty listed) = by_round n r is (inside (sym num_t ∙ num))
      at (Valued j v t num_t current entry_t full listed map_only (inl nobody)) =
          let one : t ≡ z = inside (sym entry_t ∙ ap (entry_at e.keyed.table) (inside (sym num_t ∙ num)) ∙ entry) in
          let none : z.callers ≡ 0 = ap (λ (z : Entry). z.callers) (sym one) ∙ nobody.0 in omega arith
      at (Valued j v t num_t current entry_t full listed map_only (inr (n, r, is, at_j, key))) = by_round n r is (at_j ∙ inside (sym num_t ∙ num))

  may_poll_by : (o : Option ℕ) → x.round ≡ o → MayPollKey nat_eq e.keyed x.call
  may_poll_by None of =
      let new = its_call once e f x i s None of in
      subst (λ st. MayPollAt nat_eq st e.keyed x.call.call) (sym new.0) (has_room of, new.1)
  may_poll_by (Some n) of =
      let it = its_call once e f x i s (Some n) of in
      let shown = s.kept.rounds n it.0 it.1 in
      let start = starts_there once e f x i s n of in
      let stand = its_stand once e f 0 x i s n (its_round once e f x i s n of).entry (its_round once e f x i s n of) (its_entry once e f x i s n of) e.current (number e.keyed x.key) start in
      subst (λ st. MayPollAt nat_eq st e.keyed x.call.call) (sym it.2) (
        shown.shown,
        shown.there,
        (let callers = shown.callers in let some = shown.some in omega arith),
        may_poll false (kept_cell shown.shown.cell it.0) stand.fs start.kept.tied f (as_caller x) stand.there,
      )

  pub may_poll_key : MayPollKey nat_eq e.keyed x.call
  may_poll_key = may_poll_by x.round refl

  -- who may be polled may end
  may_end_at : (st : KeyStage ℕ) → MayPollAt nat_eq st e.keyed x.call.call → MayEndAt nat_eq st e.keyed x.call.call
  may_end_at (key_stages.Calls m) may = (may.0, may.1, may.2, end_at may.0.cell.permit x.call.call.stage may.3)
  may_end_at (key_stages.Kept m) may = (may.0, may.1, may.2)
  may_end_at _ may = tt

  pub may_end_key : MayEndKey nat_eq e.keyed x.call
  may_end_key = may_end_at x.call.stage may_poll_key

  pub some_futures : 1 ≤ e.futures
  some_futures = omega (arith, s.kept.futures, len-some s.fs f x s.there)

  pub room_for : (n : ℕ) (r : Round) → get e.rounds n ≡ Some r → kept_with e r.running ≤ table_keeps e
  room_for n r there = omega (arith, total-has (λ n (r : Round). of_running r.running) e.rounds n r there)

  module _ (n : ℕ) (of : x.round ≡ Some n) where
    abbrev r0 : Round
    r0 = its_round once e f x i s n of

    abbrev se0 : Entry
    se0 = its_entry once e f x i s n of

    abbrev pub start0 : Start once e s.fs i f x n r0.entry r0 se0 e.current (number e.keyed x.key)
    start0 = starts_there once e f x i s n of

    abbrev there0 : get e.rounds n ≡ Some r0
    there0 = its_there once e f x i s n of

    abbrev shown0 : IsRound e s.fs n r0
    shown0 = s.kept.rounds n r0 there0

    abbrev fits0 : CallFits (Some n) e x
    fits0 = its_call once e f x i s (Some n) of

    its_caller : tables.caller (key_future_seen x) ≡ future_seen (as_caller x)
    its_caller = λ j. record { cell = x.table; errand = Computes x.call.call.init.outcome; polled = (ap is_some of ∙ sym fits0.4) j }

    -- ---- its round has its cell still, and another initialiser's waker or none
    module _ (run : Option NamedWaker) (y : KeyFuture) (of_y : y.round ≡ Some n) (stage_y : y.call.stage ≡ x.call.stage) (key_y : y.key ≡ x.key) (polled_y : y.call.call.stage ≡ x.call.call.stage) (table_y : y.table ≡ x.table) (act : CellFuture → Cell → Step) (answer : Answer) (before after : Waking ℕ)
        (stepped : Stepped false (kept_cell se0.cell r0) (callers_of n (insert s.fs f (at_round x n))) i f x.table (Some (as_caller y)) (act (future_seen (as_caller x)) (parts.cell_seen (kept_cell se0.cell r0))) answer (cell_of se0.cell run r0.callers) before after) where
      abbrev turned_table : KeptTable
      turned_table = with_running e n r0 run

      abbrev cell_step : Step
      cell_step = act (future_seen (as_caller x)) (parts.cell_seen (kept_cell se0.cell r0))

      good : AreKept false (cell_of (rested se0.cell) run r0.callers) (turned_to (callers_of n (insert s.fs f (at_round x n))) f (Some (as_caller y)))
      good = at_rest false (cell_of se0.cell run r0.callers) _ stepped.kept.sound stepped.kept.tied

      entries : Changes e.keyed.table.slots e.keyed.table.slots r0.entry (Some (with_cell se0 se0.cell))
      entries = record { changed = shown0.there ∙ (λ j. Some (record se0 { cell = record se0.cell { permit = record se0.cell.permit { wakes = shown0.kept.quiet j } } })); others = λ q apart. refl }

      rounds : Elsewhere e.rounds turned_table.rounds n
      rounds q apart = get-other e.rounds n q (record r0 { running = run }) apart

      here : get turned_table.rounds n ≡ Some (record r0 { entry = r0.entry; running = run })
      here = get-there e.rounds n (record r0 { running = run })

      changed : Changed once e s.fs f n r0.entry x.key turned_table (Some y)
      changed = stays_changed once e s.fs s.kept i f x s.there n r0.entry r0 se0 e.current (number e.keyed x.key) start0 turned_table se0.cell run y of_y (stage_y ∙ fits0.2) key_y (ap parts.is_polled polled_y ∙ fits0.4) good refl entries (kept_numbers e.keyed e.keyed x.key (λ j. refl)) s.kept.quiet rounds here refl refl

      seen_so : table_seen turned_table ≡ (key_step once e f 0 x i s n r0.entry r0 se0 e.current (number e.keyed x.key) start0 cell_step).table
      seen_so = stays_seen once e s.fs s.kept i f x s.there n r0.entry r0 se0 e.current (number e.keyed x.key) start0 turned_table se0.cell run y of_y (stage_y ∙ fits0.2) key_y (ap parts.is_polled polled_y ∙ fits0.4) good refl entries (kept_numbers e.keyed e.keyed x.key (λ j. refl)) s.kept.quiet rounds here refl refl
          ∙ sym (stays_closed once e s.fs s.kept i f x s.there n r0.entry r0 se0 e.current (number e.keyed x.key) start0 turned_table se0.cell run y of_y (stage_y ∙ fits0.2) key_y (ap parts.is_polled polled_y ∙ fits0.4) good refl entries (kept_numbers e.keyed e.keyed x.key (λ j. refl)) s.kept.quiet rounds here refl refl
          (record (entered e e.current) { rounds = insert (table_seen e).rounds n (parts.cell_seen (cell_of se0.cell run r0.callers)) }) refl)
          ∙ stay_step once e f 0 x i s n r0.entry r0 se0 e.current (number e.keyed x.key) start0 cell_step (parts.cell_seen (cell_of se0.cell run r0.callers)) (future_seen (as_caller y)) stepped.cell stepped.future

      pub turns_so : (out : Tables → Outcome Tables) → ((h : Tables) → out h ≡ tables.in_round once h f (key_future_seen x) (table_seen e) act n) → SteppedTable once e s.fs i f x.table (Some y) out answer turned_table before after
      turns_so out is = record {
        step = key_step once e f 0 x i s n r0.entry r0 se0 e.current (number e.keyed x.key) start0 cell_step;
        is = λ h tables_there count. is h ∙ in_round_is once e s.fs f x n act h (parts.cell_seen (kept_cell se0.cell r0)) (future_seen (as_caller x)) (count n) (seen_round e n r0 se0 there0 shown0.there) its_caller;
        replied = stepped.replied;
        table = seen_so;
        future = (λ j. Some (record { table = table_y j; key = key_y j; init = y.call.call.init.outcome; round = of_y j })) ∙ ap (tables.caller_after n (key_future_seen x)) stepped.future;
        mine = table_y;
        woken = stepped.woken;
        counted =
            let sums = total_elsewhere (λ n (r : Round). of_running r.running) (λ n (r : Round). of_running r.running) e.rounds turned_table.rounds n rounds (λ q t it apart. refl) in
            let one = ap (weight (λ n (r : Round). of_running r.running) n) there0 in
            let two = ap (weight (λ n (r : Round). of_running r.running) n) here in
            omega (arith, stepped.counted, sums, one, two);
        kept = changed_together once e s.fs s.kept f n r0.entry x.key x s.there start0.was start0.around turned_table (Some y) changed;
        few = omega arith;
        low = λ q t it. by_name n q (λ same. let low = start0.low in omega arith) (λ apart. let low = s.low q t (sym (rounds q apart) ∙ it) in omega arith);
      }

    -- ---- an end
    module _ (k' : NamedKeyed) (ends : EndsAt nat_eq x.call.stage e.keyed x.call.call.stage k') where
      abbrev m0 : ℕ
      m0 = r0.entry

      abbrev run' : Option NamedWaker
      run' = cond (runs r0.running f) None r0.running

      abbrev end_step : Step
      end_step = cells.end f (future_seen (as_caller x)) (parts.cell_seen (kept_cell se0.cell r0))

      abbrev members0 : Names FutureEntry
      members0 = members once e f 0 x i s n m0 r0 se0 e.current (number e.keyed x.key) start0

      ended_by : EndsCaller nat_eq e.keyed m0 se0 x.call.call.stage k'
      ended_by =
          let it = its_call once e f x i s (Some n) of in
          subst (λ st. EndsAt nat_eq st e.keyed x.call.call.stage k') it.2 ends se0 (s.kept.rounds n it.0 it.1).there

      abbrev c' : CoreCell ℕ NamedWaker
      c' = ended_by.1.cell

      abbrev num0 : Option ℕ
      num0 = number e.keyed x.key

      end_becomes : Becomes e.keyed k' m0 (without_caller (with_cell se0 c')) x.key (cond (se0.listed && is_last (with_cell se0 c')) None num0) c'.permit.wakes
      end_becomes =
          let polled = by_sets e.keyed ended_by.0 m0 x.key (Some (with_cell se0 c')) c'.permit.wakes ended_by.1.sets ended_by.1.wakes in
          let gone = by_leaving ended_by.0 k' m0 x.key (with_cell se0 c') (only_after e.keyed ended_by.0 m0 x.key (Some (with_cell se0 c')) num0 c'.permit.wakes start0.around.only polled) ended_by.2 in
          as_becomes e.keyed k' m0 x.key (without_caller (with_cell se0 c')) (without_caller (with_cell se0 c')) _ (cond (se0.listed && is_last (with_cell se0 c')) None num0) (c'.permit.wakes ++ []) c'.permit.wakes
          (two_steps e.keyed ended_by.0 k' m0 x.key (Some (with_cell se0 c')) (without_caller (with_cell se0 c')) num0 (cond (se0.listed && is_last (with_cell se0 c')) None (number ended_by.0 x.key)) c'.permit.wakes [] polled gone)
          refl (ap (cond (se0.listed && is_last (with_cell se0 c')) None) (number_after e.keyed ended_by.0 m0 x.key _ _ _ polled)) (append-nil c'.permit.wakes)

      made : (c'.value ≡ se0.cell.value) × Makes false (kept_cell se0.cell r0) members0 i f x.table 0 answer_is.Done None end_step (cell_of c' run' (r0.callers - 1))
      made = ended_cell se0.cell r0.running r0.callers f x.table x.call.call.init.outcome x.call.call.stage (its_stand once e f 0 x i s n m0 r0 se0 e.current num0 start0) c' ended_by.1.ends

      end_good : AreKept false (cell_of (rested c') run' (r0.callers - 1)) (turned_to members0 f None)
      end_good = at_rest false (cell_of c' run' (r0.callers - 1)) (turned_to members0 f None) made.1.sound made.1.tied

      abbrev left_rounds : Names Round
      left_rounds = cond (r0.callers == 1) (remove e.rounds n) (insert e.rounds n (record r0 { running = run'; callers = r0.callers - 1 }))

      abbrev left_table : Names ℕ → KeptTable
      left_table now = record { keyed = record k' { wakes = [] }; current = now; rounds = left_rounds; futures = e.futures - 1 }

      only_wakes : c'.permit.wakes ≡ k'.wakes
      only_wakes = sym (end_becomes.wakes ∙ ap (λ us. us ++ c'.permit.wakes) s.kept.quiet)

      abbrev its_step : KeyStep
      its_step = key_step once e f 0 x i s n m0 r0 se0 e.current num0 start0 end_step

      goes : (now : Names ℕ) → Changed once e s.fs f n m0 x.key (left_table now) None → table_seen (left_table now) ≡ tables.left x.key n (r0.callers - 1) (tables.closed once x.key n c'.value (record (entered e e.current) { rounds = insert (table_seen e).rounds n (parts.cell_seen (cell_of c' run' (r0.callers - 1))) }))
          → Did once e s.fs i f x n m0 r0 None (left_table now) run' k'.wakes 0 its_step answer_is.Done
      goes now changed seen_so = record {
        changed = changed;
        seen = seen_so ∙ gone_step once e f 0 x i s n m0 r0 se0 e.current num0 start0 end_step (parts.cell_seen (cell_of c' run' (r0.callers - 1))) made.1.cell made.1.future (others_left once e f 0 x i s n m0 r0 se0 e.current num0 start0 (rested c') run' end_good);
        future = ap (tables.caller_after n (key_future_seen x)) made.1.future;
        replied = made.1.replied;
        woken = ap woken_in (sym only_wakes) ∙ made.1.woken;
        fit = omega (arith, made.1.fit, start0.queue, ap (λ (ws : List NamedWaker). length ws) only_wakes, left_queue (with_cell se0 c'), ap waiting_at end_becomes.entries.changed);
        runner = runner_left once e f 0 x i s n m0 r0 se0 e.current num0 start0 (rested c') run' end_good e.rounds;
        mine = tt;
        few = omega arith;
      }

      rounds_so : Elsewhere e.rounds left_rounds n
      rounds_so = rounds_left once e f 0 x i s n m0 r0 se0 e.current num0 start0 run' e.rounds (λ q apart. refl)

      here_so : get left_rounds n ≡ cond (r0.callers == 1) None (Some (record r0 { running = run'; callers = r0.callers - 1 }))
      here_so = here_left once e f 0 x i s n m0 r0 se0 e.current num0 start0 run' e.rounds

      end_empty : se0.cell.value ≡ None → Did once e s.fs i f x n m0 r0 None (left_table (cond (r0.callers == 1) (current_without e.current x.key n) e.current)) run' k'.wakes 0 its_step answer_is.Done
      end_empty empty =
          let now : Names ℕ = cond (r0.callers == 1) (current_without e.current x.key n) e.current in
          goes now
          (empty_changed once e s.fs s.kept i f x s.there n m0 r0 se0 e.current num0 start0 (left_table now) c' run' end_good refl rounds_so here_so refl empty (made.0 ∙ empty) end_becomes.entries end_becomes.numbers refl)
          (empty_seen once e s.fs s.kept i f x s.there n m0 r0 se0 e.current num0 start0 (left_table now) c' run' end_good refl rounds_so here_so refl empty (made.0 ∙ empty) end_becomes.entries end_becomes.numbers refl)

      -- where the round has a value it is no key's current one, and its entry is listed in a map alone
      module _ (v : ℕ) (full : se0.cell.value ≡ Some v) where
        aside : (current_without e.current x.key n ≡ e.current) × ((se0.listed && once) ≡ false) × ((se0.listed && not once) ≡ se0.listed)
        aside = at start0.status
          where
            at : Status once e n m0 x.key se0 e.current num0 → (current_without e.current x.key n ≡ e.current) × ((se0.listed && once) ≡ false) × ((se0.listed && not once) ≡ se0.listed)
            at (Current listed empty now num none) = absurd (cc)
            at (Full u listed some now num map_only had) = (without_same e.current x.key n (ap (is_this n) now), ap (λ b. se0.listed && b) map_only ∙ and-false se0.listed, ap (λ b. se0.listed && not b) map_only ∙ and-true se0.listed)
            at (Aside unlisted key other num same now) = (without_same e.current x.key n now, ap (λ b. b && once) unlisted, ap (λ b. b && not once) unlisted ∙ sym unlisted)

        full_becomes : Becomes e.keyed k' m0 (without_caller (record (with_cell se0 c') { listed = se0.listed && not once })) x.key (cond (se0.listed && once) None num0) c'.permit.wakes
        full_becomes = as_becomes e.keyed k' m0 x.key _ _ _ (cond (se0.listed && once) None num0) c'.permit.wakes c'.permit.wakes end_becomes (ap (λ l. without_caller (record (with_cell se0 c') { listed = l })) (sym aside.2))
            (ap (λ b. cond b None num0) (full_not_last (with_cell se0 c') v se0.listed (made.0 ∙ full) ∙ sym aside.1)) refl

        end_full : Did once e s.fs i f x n m0 r0 None (left_table (cond (r0.callers == 1) (current_without e.current x.key n) e.current)) run' k'.wakes 0 its_step answer_is.Done
        end_full =
            let now : Names ℕ = cond (r0.callers == 1) (current_without e.current x.key n) e.current in
            let current : now ≡ cond (r0.callers == 1) (current_without (current_without e.current x.key n) x.key n) (current_without e.current x.key n) = ap (λ m. cond (r0.callers == 1) (current_without m x.key n) m) (sym aside.0) in
            goes now
            (full_changed once e s.fs s.kept i f x s.there n m0 r0 se0 e.current num0 start0 (left_table now) c' run' end_good refl rounds_so here_so refl v (made.0 ∙ full) (inl (sym made.0)) full_becomes.entries full_becomes.numbers current)
            (full_seen once e s.fs s.kept i f x s.there n m0 r0 se0 e.current num0 start0 (left_table now) c' run' end_good refl rounds_so here_so refl v (made.0 ∙ full) (inl (sym made.0)) full_becomes.entries full_becomes.numbers current)

      end_did : Did once e s.fs i f x n m0 r0 None (left_table (cond (r0.callers == 1) (current_without e.current x.key n) e.current)) run' k'.wakes 0 its_step answer_is.Done
      end_did = at se0.cell.value refl
        where
          at : (o : Option ℕ) → se0.cell.value ≡ o → Did once e s.fs i f x n m0 r0 None (left_table (cond (r0.callers == 1) (current_without e.current x.key n) e.current)) run' k'.wakes 0 its_step answer_is.Done
          at None is = end_empty is
          at (Some v) is = end_full v is

      -- the table before the wakers that are ready are handed on
      abbrev pub end_table : KeptTable
      end_table = one_future_less (left_round (record e { keyed = k' }) x.key n (record r0 { running = run' }))

      end_keyed : end_table.keyed ≡ k'
      end_keyed = left_keyed (record e { keyed = k' }) x.key n (record r0 { running = run' })

      as_left : Did once e s.fs i f x n m0 r0 None (rested_table end_table) run' k'.wakes 0 its_step answer_is.Done
      as_left = subst (λ new. Did once e s.fs i f x n m0 r0 None new run' k'.wakes 0 its_step answer_is.Done) (sym (left_is (record e { keyed = k' }) x.key n (record r0 { running = run' }))) end_did

      pub end_fit : kept_with end_table run' + length end_table.keyed.wakes ≤ kept_with e r0.running
      end_fit =
          let wakes : length end_table.keyed.wakes ≡ length k'.wakes = ap (λ (k : NamedKeyed). length k.wakes) end_keyed in
          omega (arith, wakes, did_fit once e f x i s n m0 r0 se0 e.current num0 start0 None (rested_table end_table) run' k'.wakes 0 its_step answer_is.Done as_left)

      pub end_steps : (new : KeptTable) (more : ℕ) (before after : Waking ℕ) → HandsKeys end_table run' new more before after → more ≡ kept_with e r0.running → SteppedTable once e s.fs i f x.table None (λ h. tables.end once h f (key_future_seen x) (Some (table_seen e))) answer_is.Done new before after
      end_steps new more before after hands all =
          subst (λ new. SteppedTable once e s.fs i f x.table None (λ h. tables.end once h f (key_future_seen x) (Some (table_seen e))) answer_is.Done new before after) (sym hands.entry)
          (did_steps once e f x i s n m0 r0 se0 e.current num0 start0 None (rested_table end_table) run' k'.wakes 0 its_step answer_is.Done as_left (λ h. tables.end once h f (key_future_seen x) (Some (table_seen e)))
          (λ h tables_there count. ap (tables.end_in once h f (key_future_seen x) (table_seen e)) of ∙ ap (tables.end_at once h f (key_future_seen x) (table_seen e) n) (seen_round e n r0 se0 (its_there once e f x i s n of) (s.kept.rounds n r0 (its_there once e f x i s n of)).there)
          ∙ (λ j. applied h f x.table (tables.at_round once (key_future_seen x) n (count n j) (table_seen e) (cells.end f (record { cell = x.table; errand = Computes x.call.call.init.outcome; polled = (ap is_some of ∙ sym (its_call once e f x i s (Some n) of).4) j }) (parts.cell_seen (kept_cell se0.cell r0))))))
          before after (hands.wakers ∙ (λ j. before.wakers ++ woken_in (end_keyed j).wakes)) (omega (arith, hands.counted, all)))

-- a future whose initialiser keeps a waker is polled again
pub rewakes_so : (once : Bool) (e : KeptTable) (f w : ℕ) (x : KeyFuture) (i : ℕ) (s : StandsTable once e f x i) (n : ℕ) (of : x.round ≡ Some n) (before : Waking ℕ) → runs (its_round once e f x i s n of).running f ≡ true
    → SteppedTable once e s.fs i f x.table (Some x) (λ h. tables.poll once h i f w (key_future_seen x) (table_seen e) x.round) answer_is.Pending (with_running e n (its_round once e f x i s n of) (Some (named f w))) before before
rewakes_so once e f w x i s n of before run =
    turns_so once e f x i s n of (Some (named f w)) x of refl refl refl refl (cells.poll f w) answer_is.Pending before before
    (rewakes false (kept_cell (its_entry once e f x i s n of).cell (its_round once e f x i s n of)) f (as_caller x) (its_stand once e f w x i s n (its_round once e f x i s n of).entry (its_round once e f x i s n of) (its_entry once e f x i s n of) e.current (number e.keyed x.key) (start0 once e f x i s n of)) w before run)
    (λ h. tables.poll once h i f w (key_future_seen x) (table_seen e) x.round) (λ h. ap (tables.poll once h i f w (key_future_seen x) (table_seen e)) of)

-- what a future has that is settled
abbrev pub settled_future : KeyFuture → Initialiser → KeyFuture
settled_future x r = record x { call = record x.call { call = record x.call.call { init = record { outcome = r } } } }

-- its round may keep the waker no more
pub settles_so : (once : Bool) (e : KeptTable) (f : ℕ) (x : KeyFuture) (i : ℕ) (s : StandsTable once e f x i) (n : ℕ) (of : x.round ≡ Some n) (r : Initialiser) (before : Waking ℕ) → keeps (kept_cell (its_entry once e f x i s n of).cell (its_round once e f x i s n of)) ≤ before.registered
    → SteppedTable once e s.fs i f x.table (Some (settled_future x r)) (λ h. tables.settle once h f r (key_future_seen x) (table_seen e) x.round) answer_is.Done
    (with_running e n (its_round once e f x i s n of) (cond (runs (its_round once e f x i s n of).running f) None (its_round once e f x i s n of).running)) before (waking (its_round once e f x i s n of).running f before)
settles_so once e f x i s n of r before room =
    turns_so once e f x i s n of (cond (runs (its_round once e f x i s n of).running f) None (its_round once e f x i s n of).running) (settled_future x r) of refl refl refl refl (cells.settle f r) answer_is.Done before (waking (its_round once e f x i s n of).running f before)
    (settles false (kept_cell (its_entry once e f x i s n of).cell (its_round once e f x i s n of)) f (as_caller x) (its_stand once e f 0 x i s n (its_round once e f x i s n of).entry (its_round once e f x i s n of) (its_entry once e f x i s n of) e.current (number e.keyed x.key) (start0 once e f x i s n of)) r refl before room)
    (λ h. tables.settle once h f r (key_future_seen x) (table_seen e) x.round) (λ h. ap (tables.settle once h f r (key_future_seen x) (table_seen e)) of)
