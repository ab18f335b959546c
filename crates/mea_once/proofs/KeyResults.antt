-- what an event on a future of a map or a group leaves, as the model says
use Rattle.std.proofs.Common.{◌≡◌, ℕ, ◌+◌, ◌≤◌, ◌++◌, Bool, false, length, List, Option, Some, None, option_map, nat_eq, refl, ap, sym, subst, ◌∙◌, arith}
use Rattle.std.specs.FinMap.{get, len}
use Rattle.mea_family.specs.declared.answer.Answer.{Answer}
use Rattle.mea_family.specs.Family.{Outcome}
use Rattle.mea_base.specs.Ready.{Waking}
use Rattle.mea_base.specs.Totals.{total, weight}
use Rattle.mea_base.proofs.NamedMaps.{same_named, get-seen}
use Rattle.mea_base.proofs.Tests.{by_name}
use Rattle.mea_by_name.specs.ByName.{Names, seen}
use Rattle.mea_by_name.specs.declared.named_waker.NamedWaker.{NamedWaker}
use Rattle.mea_once_core.specs.Table.{entry_at}
use Rattle.mea_once_core.specs.Keyed.{IsSameKeyed}
use Rattle.mea_once_core.specs.Waiting.{waiting_at, waiting_in}
use Rattle.mea_once_core.proofs.Waits.{same-waiting, waiting-changes}
use Rattle.mea_once_model.specs.Tables.{Tables, KeyStep, others_of, applied}
use Rattle.mea_once.specs.declared.key_future.KeyFuture.{KeyFuture}
use Rattle.mea_once.specs.declared.round.Round.{Round}
use Rattle.mea_once.specs.Entries.{of_running}
use Rattle.mea_once.specs.KeyEntries.{KeptTable}
use Rattle.mea_once.specs.PartForm.{IsOf}
use Rattle.mea_once.specs.Parts.{AreKept}
use Rattle.mea_once.specs.KeyParts.{kept_cell, round_in, round_seen, table_seen, key_future_seen, as_caller, slot_of, of_round, IsKey, CallFits, waiting_of, AreTogether, others, table_keeps, RoundsBelow, of_table, StandsTable, SteppedTable, callers_of}
use Rattle.mea_once.proofs.OneCell.{woken_in}
use Rattle.mea_once.proofs.KeySteps.{Entry, number}
use Rattle.mea_once.proofs.KeyTables.{Elsewhere, Changed, changed_together, own_apart, get_values, value_at, total_elsewhere, values_as, key_as}
use Rattle.mea_once.proofs.KeyStarts.{Start}

-- what was done at the round n of a future, before the wakers that are ready, ws, are handed on: the model's step; the round's
-- initialiser keeps this waker then, and no more wakers are kept or ready than were kept and so many more
pub record Did (once : Bool) (e : KeptTable) (fs : Names KeyFuture) (i f : ℕ) (x : KeyFuture) (n m : ℕ) (r : Round) (p : Option KeyFuture) (new : KeptTable) (run : Option NamedWaker) (ws : List NamedWaker) (more : ℕ) (step : KeyStep) (answer : Answer) : Type 0 where
  pub changed : Changed once e fs f n m x.key new p
  pub seen : table_seen new ≡ step.table
  pub future : option_map key_future_seen p ≡ step.future
  pub replied : answer ≡ step.reply
  pub woken : woken_in ws ≡ step.wakes
  pub fit : waiting_at (entry_at new.keyed.table m) + of_running run + length ws ≤ waiting_at (entry_at e.keyed.table m) + of_running r.running + more
  pub runner : weight (λ n (r : Round). of_running r.running) n (get new.rounds n) ≡ of_running run
  pub mine : IsOf of_table p x.table
  pub few : new.futures ≤ e.futures + 1

module _ (once : Bool) (e : KeptTable) (f : ℕ) (x : KeyFuture) (i : ℕ) (s : StandsTable once e f x i) (n m : ℕ) (r : Round) (se : Entry) (cur : Names ℕ) (num : Option ℕ) (start : Start once e s.fs i f x n m r se cur num)
    (p : Option KeyFuture) (new : KeptTable) (run : Option NamedWaker) (ws : List NamedWaker) (more : ℕ) (step : KeyStep) (answer : Answer) (did : Did once e s.fs i f x n m r p new run ws more step answer) where
  -- what is to be handed on fits what is kept
  pub did_fit : waiting_in new.keyed.table.slots + of_running run + length ws ≤ waiting_in e.keyed.table.slots + of_running r.running + more
  did_fit = omega (arith, did.fit, ap waiting_at did.changed.entries.changed, waiting-changes e.keyed.table.slots new.keyed.table.slots m (entry_at e.keyed.table m) did.changed.entry refl did.changed.entries)

  below_after : RoundsBelow new (i + 1)
  below_after q t is = by_name n q (λ same. let low = start.low in omega arith) (λ apart. let low = s.low q t (sym (did.changed.rounds q apart) ∙ is) in omega arith)

  pub did_steps : (out : Tables → Outcome Tables) → ((h : Tables) → get h.tables x.table ≡ Some (table_seen e) → ((n : ℕ) → others_of h f x.table n ≡ others s.fs f n) → out h ≡ applied h f x.table step) → (before after : Waking ℕ)
      → after.wakers ≡ before.wakers ++ woken_in ws → after.registered + (waiting_in e.keyed.table.slots + of_running r.running) ≡ before.registered + (waiting_in new.keyed.table.slots + of_running run) → SteppedTable once e s.fs i f x.table p out answer new before after
  did_steps out is before after wakers counted = record {
    step = step;
    is = is;
    replied = did.replied;
    table = did.seen;
    future = did.future;
    mine = did.mine;
    woken = wakers ∙ ap (λ us. before.wakers ++ us) did.woken;
    counted =
        let sums = total_elsewhere (λ n (r : Round). of_running r.running) (λ n (r : Round). of_running r.running) e.rounds new.rounds n did.changed.rounds (λ q t is apart. refl) in
        omega (arith, counted, sums, did.runner, start.runner);
    kept = changed_together once e s.fs s.kept f n m x.key x s.there start.was start.around new p did.changed;
    few = did.few;
    low = below_after;
  }

-- ---- a future that is of no round
module _ (once : Bool) (e : KeptTable) (fs : Names KeyFuture) (kept : AreTogether once e fs) (e' : KeptTable) (same : IsSameKeyed nat_eq e.keyed e'.keyed) (current : e'.current ≡ e.current) (rounds : e'.rounds ≡ e.rounds) where
  pub same_seen : table_seen e' ≡ table_seen e
  same_seen = λ j. record {
    values = same_named (table_seen e').values (table_seen e).values (λ k. get_values e'.keyed.table e'.keyed.table.pairs k ∙ ap (value_at e'.keyed.table) (same.0.1 k) ∙ values_as e.keyed.table e'.keyed.table (number e.keyed k) (λ q is. same.0.0 q) ∙ sym (get_values e.keyed.table e.keyed.table.pairs k)) j;
    current = current j;
    rounds = same_named (table_seen e').rounds (table_seen e).rounds (λ q. get-seen (λ k r. round_seen e'.keyed.table r) e'.rounds q ∙ ap (λ (m : Names Round). option_map (round_seen e'.keyed.table) (get m q)) rounds ∙ round_same (get e.rounds q) ∙ sym (get-seen (λ k r. round_seen e.keyed.table r) e.rounds q)) j;
  }
    where
      round_same : (o : Option Round) → option_map (round_seen e'.keyed.table) o ≡ option_map (round_seen e.keyed.table) o
      round_same None = refl
      round_same (Some r) = ap (λ o. Some (round_in o r)) (same.0.0 r.entry)

  pub same_keeps : table_keeps e' ≡ table_keeps e
  same_keeps =
      let slots = same-waiting e.keyed.table.slots e'.keyed.table.slots (λ m. ap waiting_at (same.0.0 m)) in
      let runners : total (λ n (r : Round). of_running r.running) e'.rounds ≡ total (λ n (r : Round). of_running r.running) e.rounds = ap (total (λ n (r : Round). of_running r.running)) rounds in
      omega arith

  pub same_call : (o : Option ℕ) (y : KeyFuture) → CallFits o e y → CallFits o e' y
  same_call None y fits = fits
  same_call (Some n) y (r, there, stage, key, polled) = (r, ap (λ m. get m n) rounds ∙ there, stage, key, polled)

  pub same_key : (k : ℕ) → IsKey once e k → IsKey once e' k
  same_key k = key_as once e e' k (same.0.1 k) (ap (λ m. get m k) current) (λ m num. same.0.0 m) (λ q r is key num. ap (λ m. get m q) rounds ∙ is)

  -- with futures of which each round has the same callers
  same_with : (fs' : Names KeyFuture) → ((n : ℕ) → callers_of n fs' ≡ callers_of n fs) → ((g : ℕ) (y : KeyFuture) → get fs' g ≡ Some y → CallFits y.round e' y) → e'.futures ≡ len fs' → AreTogether once e' fs'
  same_with fs' callers calls futures = record {
    quiet = same.1 ∙ kept.quiet;
    rounds = λ n r is. let it = kept.rounds n r (ap (λ m. get m n) (sym rounds) ∙ is) in record {
      shown = it.shown;
      there = same.0.0 r.entry ∙ it.there;
      callers = it.callers;
      some = it.some;
      kept = subst (AreKept false (kept_cell it.shown.cell r)) (sym (callers n)) it.kept;
      listed = λ listed. same.0.1 r.key ∙ it.listed listed;
    };
    one = λ n m r s a b. kept.one n m r s (ap (λ m. get m n) (sym rounds) ∙ a) (ap (λ z. get z m) (sym rounds) ∙ b);
    keys = λ k. same_key k (kept.keys k);
    apart = λ k j m a b. kept.apart k j m (sym (same.0.1 k) ∙ a) (sym (same.0.1 j) ∙ b);
    calls = calls;
    futures = futures;
    waiting = same-waiting e.keyed.table.slots e'.keyed.table.slots (λ m. ap waiting_at (same.0.0 m)) ∙ kept.waiting ∙ sym (ap (total (waiting_of e')) rounds ∙ ap (λ (f : ℕ → Round → ℕ). total f e.rounds) (λ j n r. waiting_at (same.0.0 r.entry j)));
  }

  pub same_all : e'.futures ≡ e.futures → AreTogether once e' fs
  same_all futures = same_with fs (λ n. refl) (λ g y is. same_call y.round y (kept.calls g y is)) (futures ∙ kept.futures)

  module _ (fs' : Names KeyFuture) (f : ℕ) (elsewhere : Elsewhere fs fs' f) (was : (y : KeyFuture) → get fs f ≡ Some y → y.round ≡ None) (now : (y : KeyFuture) → get fs' f ≡ Some y → (y.round ≡ None) × CallFits None e y) (futures : e'.futures ≡ len fs') where
    none_slot : (y : KeyFuture) (q : ℕ) → y.round ≡ None → of_round y ≡ q + 1 → ⊥
    none_slot y q none mine = absurd (let zero : of_round y ≡ 0 = ap slot_of none in omega arith)

    pub same_together : AreTogether once e' fs'
    same_together = same_with fs' (λ n. ap (seen as_caller) (own_apart of_round (n + 1) fs fs' f elsewhere (λ y is mine. none_slot y n (was y is) mine) (λ y is mine. none_slot y n (now y is).0 mine)))
        (λ g y is. by_name f g (λ eq. let it = now y (ap (get fs') eq ∙ is) in subst (λ o. CallFits o e' y) (sym it.0) it.1) (λ apart. same_call y.round y (kept.calls g y (sym (elsewhere g apart) ∙ is)))) futures
