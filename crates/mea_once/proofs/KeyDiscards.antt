-- a key is taken out; a future of no round is settled
use Rattle.std.proofs.Common.{◌≡◌, ℕ, ◌-◌, ◌≤◌, ◌==◌, ◌++◌, inl, inr, Bool, true, false, cond, length, List, [], ◌∷◌, Option, Some, None, option_map, nat_eq, refl, ap, sym, subst, ◌∙◌, arith, append-nil}
use Rattle.std.proofs.lemmas.Bool.{eq-eqb, ne_eqb}
use Rattle.std.specs.FinMap.{get, insert, remove}
use Rattle.mea_family.specs.declared.answer.Answer.TheVariants as answer_is
use Rattle.mea_base.specs.Ready.{Waking}
use Rattle.mea_base.proofs.Maps.{inside, get-there, get-other, get-gone, get-removed_other, total-has}
use Rattle.mea_base.proofs.NamedMaps.{same_named, get-seen}
use Rattle.mea_base.proofs.Totals.{total-same}
use Rattle.mea_base.proofs.Tests.{by_name}
use Rattle.mea_by_name.specs.ByName.{Names}
use Rattle.mea_by_name.specs.declared.named_waker.NamedWaker.{NamedWaker}
use Rattle.mea_by_name.proofs.Own.{gone_none, insert_same, len-over}
use Rattle.mea_once_core.specs.Links.{Changes, unlisted, Renumbers}
use Rattle.mea_once_core.specs.Table.{entry_at}
use Rattle.mea_once_core.specs.Keyed.{IsSameKeyed, Discards}
use Rattle.mea_once_core.specs.Waiting.{waiting_at, waiting_in}
use Rattle.mea_once_core.proofs.Waits.{waiting-changes, at-most}
use Rattle.mea_once_model.specs.declared.errand.Initialiser.{Initialiser}
use Rattle.mea_once_model.specs.Tables as tables
use Rattle.mea_once_model.specs.Tables.{without_key}
use Rattle.mea_once.specs.declared.key_future.KeyFuture.{KeyFuture}
use Rattle.mea_once.specs.declared.round.Round.{Round}
use Rattle.mea_once.specs.Entries.{of_running, waking, keeps}
use Rattle.mea_once.specs.KeyCores.{NamedKeyed}
use Rattle.mea_once.specs.KeyEntries.{KeptTable, stopped_waker}
use Rattle.mea_once.specs.KeyParts.{kept_cell, round_in, round_seen, table_seen, key_future_seen, IsRound, IsKey, Absent, Computing, Valued, CallFits, waiting_of, callers_of, AreTogether, table_keeps, StandsTable, SteppedTable}
use Rattle.mea_once.proofs.KeySteps.{Entry, number, by_none}
use Rattle.mea_once.proofs.KeyTables.{get_values, value_at, values_as, key_as}
use Rattle.mea_once.proofs.KeyEvents.{its_call, its_round, its_there, its_entry, starts_there}
use Rattle.mea_once.proofs.KeyResults.{same_seen, same_keeps, same_all, same_together}
use Rattle.mea_once.proofs.KeyCalls.{by_some, settled_future}
use Rattle.mea_once.specs.Parts as parts

-- ---- the waker that is kept
pub waking_none : (r : Option NamedWaker) (f : ℕ) (before : Waking ℕ) → stopped_waker r f ≡ None → waking r f before ≡ before
waking_none None f before is = refl
waking_none (Some k) f before is = elim (k.name == f) as (λ b. cond b (Some k.waker) None ≡ None → cond b (record { wakers = before.wakers ++ k.waker ∷ []; registered = before.registered - 1 }) before ≡ before) [ true ↦ λ none. absurd (cc) | false ↦ λ none. refl ] is

pub waking_some : (r : Option NamedWaker) (f w : ℕ) (before : Waking ℕ) → stopped_waker r f ≡ Some w → waking r f before ≡ record { wakers = before.wakers ++ w ∷ []; registered = before.registered - 1 }
waking_some None f w before is = absurd (cc)
waking_some (Some k) f w before is = elim (k.name == f) as (λ b. cond b (Some k.waker) None ≡ Some w → cond b (record { wakers = before.wakers ++ k.waker ∷ []; registered = before.registered - 1 }) before ≡ record { wakers = before.wakers ++ w ∷ []; registered = before.registered - 1 }) [
  | true ↦ λ same. ap (λ v. record { wakers = before.wakers ++ v ∷ []; registered = before.registered - 1 }) (inside same)
  | false ↦ λ none. absurd (cc)
] is

pub some_runs : (r : Option NamedWaker) (f w : ℕ) → stopped_waker r f ≡ Some w → 1 ≤ of_running r
some_runs None f w is = absurd (cc)
some_runs (Some k) f w is = omega arith

-- ---- a future of no round is settled
pub settles_none : (once : Bool) (e : KeptTable) (f : ℕ) (x : KeyFuture) (i : ℕ) (s : StandsTable once e f x i) → x.round ≡ None → (r : Initialiser) (before : Waking ℕ)
    → SteppedTable once e s.fs i f x.table (Some (settled_future x r)) (λ h. tables.settle once h f r (key_future_seen x) (table_seen e) x.round) answer_is.Done e before before
settles_none once e f x i s of r before = record {
  step = record { table = table_seen e; future = Some (key_future_seen (settled_future x r)); reply = answer_is.Done; wakes = [] };
  is = λ h there count. ap (tables.settle once h f r (key_future_seen x) (table_seen e)) of ∙ (λ j. record { hall = record { tables = sym (insert_same h.tables x.table (table_seen e) there) j; futures = insert h.futures f (record (key_future_seen x) { init = r }) }; reply = answer_is.Done; wakes = [] });
  replied = refl;
  table = refl;
  future = refl;
  mine = refl;
  woken = sym (append-nil before.wakers);
  counted = refl;
  kept = same_together once e s.fs s.kept e (((λ n. refl), (λ j. refl)), refl) refl refl (insert s.fs f (settled_future x r)) f (λ j apart. get-other s.fs f j (settled_future x r) apart)
      (λ y is. ap (λ (y : KeyFuture). y.round) (inside (sym is ∙ s.there)) ∙ of)
      (λ y is. let same : settled_future x r ≡ y = inside (sym (get-there s.fs f (settled_future x r)) ∙ is) in rw (← same) (of, its_call once e f x i s None of))
      (s.kept.futures ∙ sym (len-over s.fs f (settled_future x r) x s.there));
  few = omega arith;
  low = λ q t is. let low = s.low q t is in omega arith;
}

-- what a round keeps has room
pub cell_room : (once : Bool) (e : KeptTable) (f : ℕ) (x : KeyFuture) (i : ℕ) (s : StandsTable once e f x i) (n : ℕ) (of : x.round ≡ Some n) → keeps (kept_cell (its_entry once e f x i s n of).cell (its_round once e f x i s n of)) ≤ table_keeps e
cell_room once e f x i s n of =
    let start = starts_there once e f x i s n of in
    omega (arith, start.queue, at-most e.keyed.table.slots (its_round once e f x i s n of).entry, total-has (λ n (r : Round). of_running r.running) e.rounds n (its_round once e f x i s n of) (its_there once e f x i s n of))

-- ---- a key is taken out
-- an entry that its key does not have any more has its cell still where it has a caller
unlisted_some : (z : Entry) → 1 ≤ z.callers → unlisted z ≡ Some (record z { listed = false })
unlisted_some z some = ap (λ b. cond b None (Some (record z { listed = false }))) (ne_eqb z.callers 0 (λ none. absurd (omega arith)))

module _ (once : Bool) (e : KeptTable) (fs : Names KeyFuture) (kept : AreTogether once e fs) (k : ℕ) (k' : NamedKeyed) where
  abbrev pub without : KeptTable
  without = record e { keyed = k'; current = remove e.current k }

  pub record Discarded : Type 0 where
    pub seen : table_seen without ≡ without_key k (table_seen e)
    pub together : AreTogether once without fs
    pub keeps : table_keeps without ≡ table_keeps e

  -- the key has no entry
  none_so : number e.keyed k ≡ None → get e.current k ≡ None → IsSameKeyed nat_eq e.keyed k' → Discarded
  none_so none no_current same =
      let now : remove e.current k ≡ e.current = gone_none e.current k no_current in
      let no_value : get (table_seen e).values k ≡ None = get_values e.keyed.table e.keyed.table.pairs k ∙ ap (value_at e.keyed.table) none in
      record {
        seen = same_seen once e fs kept without same now refl ∙ (λ j. record (table_seen e) { values = sym (gone_none (table_seen e).values k no_value) j; current = sym now j });
        together = same_all once e fs kept without same now refl refl;
        keeps = same_keeps once e fs kept without same now refl;
      }

  -- it has one, under this number
  module _ (m : ℕ) (z : Entry) (num : number e.keyed k ≡ Some m) (entry : entry_at e.keyed.table m ≡ Some z) (alone : (z.callers ≡ 0 → z.cell.permit.queue ≡ [])) (entries : Changes e.keyed.table.slots k'.table.slots m (unlisted z)) (numbers : Renumbers nat_eq e.keyed.table.pairs k'.table.pairs k None) (wakes : k'.wakes ≡ e.keyed.wakes) where
    own_number : number k' k ≡ None
    own_number = numbers k ∙ ap (λ b. cond b None (number e.keyed k)) (eq-eqb k k refl)

    other_number : (j : ℕ) → (k ≡ j → ⊥) → number k' j ≡ number e.keyed j
    other_number j apart = numbers j ∙ ap (λ b. cond b None (number e.keyed j)) (ne_eqb k j apart)

    was_number : (j q : ℕ) → number k' j ≡ Some q → (number e.keyed j ≡ Some q) × (k ≡ j → ⊥)
    was_number j q is = by_name k j (λ same. absurd (let none : number k' j ≡ None = ap (number k') (sym same) ∙ own_number in cc)) (λ apart. (sym (other_number j apart) ∙ is, apart))

    -- the entry of a round
    round_there : (n : ℕ) (r : Round) (is : get e.rounds n ≡ Some r) → (s : Entry) × (entry_at k'.table r.entry ≡ Some s) × (s.cell ≡ (kept.rounds n r is).shown.cell) × (s.callers ≡ (kept.rounds n r is).shown.callers) × (s.listed ≡ true → (r.entry ≡ m → ⊥) × ((kept.rounds n r is).shown.listed ≡ true))
    round_there n r is = by_name r.entry m
        (λ same.
        let one : it.shown ≡ z = inside (sym it.there ∙ ap (entry_at e.keyed.table) same ∙ entry) in
        let some : 1 ≤ z.callers = (let callers : z.callers ≡ r.callers = ap (λ (z : Entry). z.callers) (sym one) ∙ it.callers in let some = it.some in omega arith) in
        (record z { listed = false }, ap (entry_at k'.table) same ∙ entries.changed ∙ unlisted_some z some, ap (λ (z : Entry). z.cell) (sym one), ap (λ (z : Entry). z.callers) (sym one), λ listed. absurd (cc)))
        (λ apart. (it.shown, entries.others r.entry apart ∙ it.there, refl, refl, λ listed. (apart, listed)))
      where
        it : IsRound e fs n r
        it = kept.rounds n r is

    round_same : (n : ℕ) (r : Round) (is : get e.rounds n ≡ Some r) → waiting_at (entry_at k'.table r.entry) ≡ waiting_at (entry_at e.keyed.table r.entry)
    round_same n r is = let it = round_there n r is in ap waiting_at it.1 ∙ (λ j. length (it.2 j).permit.queue) ∙ sym (ap waiting_at (kept.rounds n r is).there)

    all_waiting : waiting_in k'.table.slots ≡ waiting_in e.keyed.table.slots
    all_waiting =
        let changed = waiting-changes e.keyed.table.slots k'.table.slots m (Some z) (unlisted z) entry entries in
        let same : waiting_at (unlisted z) ≡ length z.cell.permit.queue = by_name z.callers 0
        (λ zero. ap (λ b. waiting_at (cond b None (Some (record z { listed = false })))) (eq-eqb z.callers 0 zero) ∙ sym (ap (λ (q : List _). length q) (alone zero)))
        (λ some. ap (λ b. waiting_at (cond b None (Some (record z { listed = false })))) (ne_eqb z.callers 0 some)) in
        omega (arith, changed, same)

    other_key : (j : ℕ) → (k ≡ j → ⊥) → IsKey once e j → IsKey once without j
    other_key j apart = key_as once e without j (other_number j apart) (get-removed_other e.current k j apart) (λ q num_j. entries.others q (λ same. apart (kept.apart k j m num (num_j ∙ ap (λ q. Some q) same)))) (λ q r is key num_j. is)

    value_other : (j : ℕ) → (k ≡ j → ⊥) → get (table_seen without).values j ≡ get (table_seen e).values j
    value_other j apart = get_values k'.table k'.table.pairs j ∙ ap (value_at k'.table) (other_number j apart) ∙ values_as e.keyed.table k'.table (number e.keyed j) (λ q is. entries.others q (λ same. apart (kept.apart k j m num (is ∙ ap (λ q. Some q) same))))
        ∙ sym (get_values e.keyed.table e.keyed.table.pairs j)

    some_so : Discarded
    some_so = record {
      seen = λ j. record {
        values = same_named (table_seen without).values (remove (table_seen e).values k) (λ i. by_name k i
            (λ same. subst (λ i. get (table_seen without).values i ≡ get (remove (table_seen e).values k) i) same (get_values k'.table k'.table.pairs k ∙ ap (value_at k'.table) own_number ∙ sym (get-gone (table_seen e).values k)))
            (λ apart. value_other i apart ∙ sym (get-removed_other (table_seen e).values k i apart))) j;
        current = remove e.current k;
        rounds = same_named (table_seen without).rounds (table_seen e).rounds round_by j;
      };
      together = record {
        quiet = wakes ∙ kept.quiet;
        rounds = λ n r is. let it = kept.rounds n r is in let now = round_there n r is in record {
          shown = now.0;
          there = now.1;
          callers = now.3 ∙ it.callers;
          some = it.some;
          kept = subst (λ c. parts.AreKept false (kept_cell c r) (callers_of n fs)) (sym now.2) it.kept;
          listed = λ listed. let had = now.4 listed in let old = it.listed had.1 in
              other_number r.key (λ same. had.0 (inside (sym old ∙ ap (number e.keyed) (sym same) ∙ num))) ∙ old;
        };
        one = kept.one;
        keys = λ j. by_name k j (λ same. subst (IsKey once without) same (Absent own_number (get-gone e.current k))) (λ apart. other_key j apart (kept.keys j));
        apart = λ i j q a b. kept.apart i j q (was_number i q a).0 (was_number j q b).0;
        calls = λ g y is. call_by y.round y (kept.calls g y is);
        futures = kept.futures;
        waiting = all_waiting ∙ kept.waiting ∙ total-same (waiting_of e) (waiting_of without) e.rounds (λ n r is. sym (round_same n r is));
      };
      keeps = let same = all_waiting in omega (arith, same);
    }
      where
        round_at : (q : ℕ) (o : Option Round) → get e.rounds q ≡ o → option_map (round_seen k'.table) o ≡ option_map (round_seen e.keyed.table) o
        round_at q None is = refl
        round_at q (Some r) is = let it = round_there q r is in ap (λ o. Some (round_in o r)) it.1 ∙ (λ j. Some (parts.cell_seen (kept_cell (it.2 j) r))) ∙ sym (ap (λ o. Some (round_in o r)) (kept.rounds q r is).there)

        round_by : (q : ℕ) → get (table_seen without).rounds q ≡ get (table_seen e).rounds q
        round_by q = get-seen (λ k r. round_seen k'.table r) e.rounds q ∙ round_at q (get e.rounds q) refl ∙ sym (get-seen (λ k r. round_seen e.keyed.table r) e.rounds q)

        call_by : (o : Option ℕ) (y : KeyFuture) → CallFits o e y → CallFits o without y
        call_by None y fits = fits
        call_by (Some q) y fits = fits

  pub discards_so : Discards nat_eq e.keyed k k' → Discarded
  discards_so discards = at (kept.keys k)
    where
      with_entry : (m : ℕ) (z : Entry) → number e.keyed k ≡ Some m → entry_at e.keyed.table m ≡ Some z → (z.callers ≡ 0 → z.cell.permit.queue ≡ []) → Discarded
      with_entry m z num entry alone =
          let both = by_some _ _ (number e.keyed k) m discards num in
          let gone = both.0 z entry in
          let same : gone.1.0 ≡ k = sym (kept.apart k gone.1.0 m num gone.1.1) in
          some_so m z num entry alone gone.0 (subst (λ j. Renumbers nat_eq e.keyed.table.pairs k'.table.pairs j None) same gone.1.2) both.1

      at : IsKey once e k → Discarded
      at (Absent none current) = none_so none current (by_none _ _ (number e.keyed k) discards none)
      at (Computing n r z num current is key entry empty listed) = with_entry r.entry z num entry (λ none.
          let it = kept.rounds n r is in
          let one : it.shown ≡ z = inside (sym it.there ∙ entry) in
          absurd (let callers : z.callers ≡ r.callers = ap (λ (z : Entry). z.callers) (sym one) ∙ it.callers in let some = it.some in omega arith))
      at (Valued m v z num current entry full listed map_only (inl nobody)) = with_entry m z num entry (λ none. nobody.1)
      at (Valued m v z num current entry full listed map_only (inr (n, r, is, at_m, key))) = with_entry m z num entry (λ none.
          let it = kept.rounds n r is in
          let one : it.shown ≡ z = inside (sym it.there ∙ ap (entry_at e.keyed.table) at_m ∙ entry) in
          absurd (let callers : z.callers ≡ r.callers = ap (λ (z : Entry). z.callers) (sym one) ∙ it.callers in let some = it.some in omega arith))
