-- what each event does to the maps or groups, as they are kept and as they are seen
use Rattle.std.proofs.Common.{◌≡◌, ◌⊎◌, inl, inr, ℕ, ◌+◌, ◌<◌, ◌≤◌, ◌^◌, Bool, false, cond, length, [], Option, Some, None, refl, ap, sym, subst, ◌∙◌, arith, if◌then◌else◌}
use Rattle.std.specs.Option.{IsSome}
use Rattle.std.specs.FinMap.{get, insert, remove, len, empty, len-empty, get-empty}
use Rattle.std.specs.Ordering.{nat_cmp}
use Rattle.mea_family.specs.declared.answer.Answer.{Answer}
use Rattle.mea_family.specs.declared.answer.Answer.TheVariants as answers
use Rattle.mea_family.specs.Family.{Outcome, quietly}
use Rattle.mea_base.specs.Ready.{Waking}
use Rattle.mea_base.specs.Totals.{total}
use Rattle.mea_base.proofs.Maps.{by_put, nothing_at, inside, get-there, get-other}
use Rattle.mea_base.proofs.Totals.{total-same, total-plus, total-zero, total-empty}
use Rattle.mea_base.proofs.NamedMaps.{same_named}
use Rattle.mea_by_name.specs.ByName.{Names, seen, own, count}
use Rattle.mea_by_name.specs.NamedQueue as named_queue
use Rattle.mea_by_name.specs.HallKept.{HallKept}
use Rattle.mea_family.specs.Play.{Part, PartRests, content}
use Rattle.mea_by_name.proofs.Own.{count-least, seen-at, seen-back, seen-empty, seen-remove, seen-alike, own-seen, len-seen, len-new, total-seen, own-at, own-had, own-none, own-gone, insert_same}
use Rattle.mea_once_core.specs.Table.{entry_at}
use Rattle.mea_once_core.specs.Waiting.{waiting_at, waiting_in}
use Rattle.mea_once_core.proofs.Waits.{same-waiting}
use Rattle.mea_once_model.specs.declared.errand.Initialiser.{Initialiser}
use Rattle.mea_once_model.specs.declared.errand.Initialiser.TheVariants.{Unsettled}
use Rattle.mea_once_model.specs.Cells as cells
use Rattle.mea_once_model.specs.Cells.{Cell, turned_to}
use Rattle.mea_once_model.specs.Tables as model
use Rattle.mea_once_model.specs.Tables.{Table, KeyFuture as ModelFuture, Tables, futures_of, others_of, registered, is_this, without_key}
use Rattle.mea_once_model.specs.Valid.{callers_in}
use Rattle.mea_once_model.specs.KeyActions.{key_act, MakeTable, BeginKey, PollKey, SettleKey, EndKey, TellKey, DiscardKey, RemoveKey, DropTable}
use Rattle.mea_once.specs.declared.key_future.KeyFuture.{KeyFuture}
use Rattle.mea_once.specs.declared.round.Round.{Round}
use Rattle.mea_once_core.specs.declared.key_call.KeyStage.TheVariants as key_stages
use Rattle.mea_once_core.specs.declared.cell_stage.CellStage.TheVariants.{New}
use Rattle.mea_once.specs.KeyCores.{NamedKeyed}
use Rattle.mea_once.specs.KeyEntries.{KeptTable, IsSameTable}
use Rattle.mea_once.specs.Lends.{turns_in, callers_at, StandsForTable, IsRoundOf}
use Rattle.mea_once_core.specs.Links.{Shown}
use Rattle.mea_by_name.specs.declared.named_waker.NamedWaker.{NamedWaker}
use Rattle.mea_once.specs.Parts as parts
use Rattle.mea_once.specs.Entries.{of_running, left_by}
use Rattle.mea_once.specs.PartForm.{of_none, ArePartKept}
use Rattle.mea_once.specs.KeyParts.{values_in, callers_of, kept_cell, round_seen, round_in, table_seen, key_future_seen, IsRound, HasRound, IsKey, Absent, Computing, Valued, value_of, waiting_of, AreTogether, table_keeps, RoundsBelow, others, StandsTable, SteppedTable, of_table, IsNewKeyed}
pub use Rattle.mea_once.specs.KeyParts.{table_form}
pub use Rattle.mea_once.proofs.OnePart.{few_futures, future_cause, future_of, if_borrowed, its_object, its_room, looked_at, new_kept, new_view, object_cause, object_of, object_there, rests, settle_cause, unchanged, unsettled_of, untaken, whole_cause}
use Rattle.mea_once.proofs.OnePart.{part_of, PartLaws, own_are, sizes_are, Site, seen_all, Yields, Rests, rests_as, makes, no_future, its_kept, found_object, tells, changes, goes_kept, hall_without, kept_without, gets_future, left_turned, steps, found_future, found_both}
use Rattle.mea_once.proofs.PartEvents.{keeps_seen}
use Rattle.mea_once.proofs.KeySteps.{number}
use Rattle.mea_once.proofs.KeyTables.{get_values, value_at}
use Rattle.mea_once.proofs.KeyStarts.{count_callers}
use Rattle.mea_once.proofs.KeyCalls.{seen_round}
use Rattle.mea_once.proofs.Granted.{turns_granted}
use Rattle.mea_once.proofs.Validity.{same_callers}
use Rattle.mea_once.proofs.KeyResults.{same_seen, same_all, same_together}

-- ---- how many wakers are kept
table_registered : (once : Bool) (e : KeptTable) (fs : Names KeyFuture) → AreTogether once e fs → named_queue.registered cells.waiting_at (table_seen e).rounds ≡ table_keeps e
table_registered once e fs kept =
    let all : total (λ n (c : Cell). length (cells.waiting_at c)) (table_seen e).rounds ≡ total (λ n (r : Round). length (cells.waiting_at (round_seen e.keyed.table r))) e.rounds = total-seen (round_seen e.keyed.table) (λ (c : Cell). length (cells.waiting_at c)) e.rounds in
    let each : total (λ n (r : Round). length (cells.waiting_at (round_seen e.keyed.table r))) e.rounds ≡ total (λ n (r : Round). waiting_of e n r + of_running r.running) e.rounds = total-same (λ n (r : Round). length (cells.waiting_at (round_seen e.keyed.table r))) (λ n (r : Round). waiting_of e n r + of_running r.running) e.rounds (λ n r is. one n r (kept.rounds n r is)) in
    omega (arith, all, each, total-plus (waiting_of e) (λ n (r : Round). of_running r.running) e.rounds, kept.waiting)
  where
    one : (n : ℕ) (r : Round) → IsRound e fs n r → length (cells.waiting_at (round_seen e.keyed.table r)) ≡ waiting_of e n r + of_running r.running
    one n r it =
        let cell : length (cells.waiting_at (round_seen e.keyed.table r)) ≡ length (cells.waiting_at (parts.cell_seen (kept_cell it.shown.cell r))) = ap (λ o. length (cells.waiting_at (round_in o r))) it.there in
        let queue : waiting_of e n r ≡ length it.shown.cell.permit.queue = ap waiting_at it.there in
        omega (arith, cell, queue, keeps_seen (kept_cell it.shown.cell r))

pub below_later : (e : KeptTable) (n m : ℕ) → RoundsBelow e n → n ≤ m → RoundsBelow e m
below_later e n m low less q r is = omega (arith, low q r is)

pub table_laws : (once : Bool) → PartLaws (table_form once)
table_laws once = record {
  later = below_later;
  counted = λ es fs next kept. total-seen table_seen (λ (t : Table). named_queue.registered cells.waiting_at t.rounds) es
      ∙ total-same (λ o (e : KeptTable). named_queue.registered cells.waiting_at (table_seen e).rounds) (λ o e. table_keeps e) es (λ o e there. table_registered once e (own of_table o fs) (kept.hall.each o e there));
}

-- ---- what is looked up in tables that are seen so
module _ (once : Bool) {old : Part Tables} (es : Names KeptTable) (fs : Names KeyFuture) (next : ℕ) (view : ◌≡◌ {A = Part Tables} (part_of (table_form once) es fs next) old) where
  pub stands_for : (kept : ArePartKept (table_form once) es fs next) (o : ℕ) (e : KeptTable) → get es o ≡ Some e → StandsForTable old.hall o e.keyed
  stands_for kept o e there = record {
    table = table_seen e;
    there = ap (λ (p : Part Tables). get p.hall.tables o) (sym view) ∙ seen-at table_seen es o e there;
    values = λ k. get_values e.keyed.table e.keyed.table.pairs k;
    current = λ k n now. current k n now (its.keys k);
    absent = λ k none gone. absent k none gone (its.keys k);
    valued = λ k v full. valued k v full (its.keys k);
    rounds = λ n c is.
        let r = seen-back (round_seen e.keyed.table) e.rounds n c is in
        let it = its.rounds n r.0 r.1 in (
          r.0.entry,
          it.shown,
          it.there,
          subst (λ (c : Cell). IsRoundOf old.hall o n c it.shown) (sym (ap (λ q. round_in q r.0) it.there) ∙ r.2) (round_of n r.0 it.shown r.1 it.there),
        );
  }
    where
      its : AreTogether once e (own of_table o fs)
      its = kept.hall.each o e there

      -- the callers of a round are those that are kept
      callers_are : (n : ℕ) → callers_at old.hall o n ≡ seen parts.future_seen (callers_of n (own of_table o fs))
      callers_are n = ap (callers_in n) (own_are (table_form once) es fs next view kept o)
          ∙ same_callers once e (own of_table o fs) its n

      -- an entry that is found at a round is that of the round
      round_of : (n : ℕ) (r : Round) (s : Shown ℕ NamedWaker) → get e.rounds n ≡ Some r → entry_at e.keyed.table r.entry ≡ Some s → IsRoundOf old.hall o n (parts.cell_seen (kept_cell s.cell r)) s
      round_of n r s is entry = subst (λ (s : Shown ℕ NamedWaker). IsRoundOf old.hall o n (parts.cell_seen (kept_cell s.cell r)) s) (inside (sym it.there ∙ entry)) (record {
        value = refl;
        taken = refl;
        queue = refl;
        callers = it.callers ∙ it.kept.tied.futures ∙ sym (len-seen parts.future_seen (callers_of n (own of_table o fs))) ∙ ap (λ m. len m) (sym (callers_are n));
        granted = ap (turns_in (parts.cell_seen (kept_cell it.shown.cell r))) (callers_are n) ∙ turns_granted false (kept_cell it.shown.cell r) (callers_of n (own of_table o fs)) it.kept;
      })
        where
          it : IsRound e (own of_table o fs) n r
          it = its.rounds n r is

      current : (k n : ℕ) → get e.current k ≡ Some n → IsKey once e k → (c : Cell) × (m : ℕ) × (s : Shown ℕ NamedWaker)
          × (get (table_seen e).rounds n ≡ Some c) × (number e.keyed k ≡ Some m) × (entry_at e.keyed.table m ≡ Some s) × (c.value ≡ None) × IsRoundOf old.hall o n c s
      current k n now (Computing q r z num is there_is key entry empty_is listed) =
          let own_round : get e.rounds n ≡ Some r = ap (get e.rounds) (sym (inside {x = q} {y = n} (sym is ∙ now))) ∙ there_is in
          (parts.cell_seen (kept_cell z.cell r), r.entry, z, seen_round e n r z own_round entry, num, entry, empty_is, round_of n r z own_round entry)
      current k n now (Absent none gone) = absurd (cc)
      current k n now (Valued m v z num gone entry full listed map_only round) = absurd (cc)

      absent : (k : ℕ) → get (table_seen e).values k ≡ None → get e.current k ≡ None → IsKey once e k → number e.keyed k ≡ None
      absent k none gone (Absent num _) = num
      absent k none gone (Computing q r z num is there_is key entry empty_is listed) = absurd (cc)
      absent k none gone (Valued m v z num _ entry full listed map_only round) = absurd (let some : get (table_seen e).values k ≡ Some v = get_values e.keyed.table e.keyed.table.pairs k ∙ ap (value_at e.keyed.table) num ∙ ap value_of entry ∙ full in cc)

      -- an entry that has a caller is that of a round
      called : (k m : ℕ) (z : Shown ℕ NamedWaker) → entry_at e.keyed.table m ≡ Some z → HasRound e k m z → (z.callers ≡ 0) ⊎ ((n : ℕ) × (c : Cell) × (get (table_seen e).rounds n ≡ Some c) × IsRoundOf old.hall o n c z)
      called k m z entry (inl nobody) = inl nobody.0
      called k m z entry (inr has) =
          let here : entry_at e.keyed.table has.1.entry ≡ Some z = ap (entry_at e.keyed.table) has.3 ∙ entry in
          inr (has.0, parts.cell_seen (kept_cell z.cell has.1), seen_round e has.0 has.1 z has.2 here, round_of has.0 has.1 z has.2 here)

      valued : (k v : ℕ) → get (table_seen e).values k ≡ Some v → IsKey once e k → (m : ℕ) × (s : Shown ℕ NamedWaker) × (number e.keyed k ≡ Some m) × (entry_at e.keyed.table m ≡ Some s)
          × ((s.callers ≡ 0) ⊎ ((n : ℕ) × (c : Cell) × (get (table_seen e).rounds n ≡ Some c) × IsRoundOf old.hall o n c s))
      valued k v some (Absent num gone) = absurd (let none : get (table_seen e).values k ≡ None = get_values e.keyed.table e.keyed.table.pairs k ∙ ap (value_at e.keyed.table) num in cc)
      valued k v some (Computing q r z num is there_is key entry empty_is listed) = absurd (let none : get (table_seen e).values k ≡ None = get_values e.keyed.table e.keyed.table.pairs k ∙ ap (value_at e.keyed.table) num ∙ ap value_of entry ∙ empty_is in cc)
      valued k v some (Valued m u z num gone entry full listed map_only round) = (m, z, num, entry, called k m z entry round)

-- ---- a table before event number i
abbrev pub site : (once : Bool) {old : Part Tables} {i : ℕ} (es : Names KeptTable) (fs : Names KeyFuture) (next : ℕ) → ◌≡◌ {A = Part Tables} (part_of (table_form once) es fs next) old → ArePartKept (table_form once) es fs next → old.next ≤ i → i < 2 ^ 64 → Site (table_form once) old i
site once es fs next view kept later fits = record { laws = table_laws once; es = es; fs = fs; next = next; view = view; kept = kept; later = rw (← view) at later; fits = fits }

abbrev pub new_entry : NamedKeyed → KeptTable
new_entry k = record { keyed = k; current = empty; rounds = empty; futures = 0 }

module _ (once : Bool) {old : Part Tables} {i : ℕ} (s : Site (table_form once) old i) where
  low_now : (o : ℕ) (e : KeptTable) → get s.es o ≡ Some e → RoundsBelow e (i + 1)
  low_now o e there = below_later e s.next (i + 1) (s.kept.low o e there) (let later = s.later in omega arith)

  -- ---- one is made
  new_together : (k : NamedKeyed) → IsNewKeyed k → AreTogether once (new_entry k) empty
  new_together k new = record {
    quiet = new.wakes;
    rounds = λ n r is. absurd (nothing_at Round n r is);
    one = λ n m r t is also same. absurd (nothing_at Round n r is);
    keys = λ j. Absent (new.numbers j) (get-empty nat_cmp j);
    apart = λ a j m is also. absurd (let none = new.numbers a in cc);
    calls = λ f x is. absurd (nothing_at KeyFuture f x is);
    futures = sym (len-empty nat_cmp KeyFuture);
    waiting = no_waiting ∙ sym (total-empty (waiting_of (new_entry k)));
  }
    where
      no_waiting : waiting_in k.table.slots ≡ 0
      no_waiting = same-waiting [] k.table.slots (λ m. ap waiting_at (new.entries m))

  new_seen : (k : NamedKeyed) → IsNewKeyed k → table_seen (new_entry k) ≡ model.new_table
  new_seen k new = λ j. record {
    values = same_named (values_in k.table k.table.pairs) empty (λ q. get_values k.table k.table.pairs q ∙ ap (value_at k.table) (new.numbers q) ∙ sym (get-empty nat_cmp q)) j;
    current = empty;
    rounds = seen-empty (round_seen k.table) j;
  }

  pub made : (k : NamedKeyed) → IsNewKeyed k → Rests s (λ h. key_act once h i MakeTable) answers.Made (insert s.es i (new_entry k)) s.fs
  made k new =
      let waiting : waiting_in k.table.slots ≡ 0 = same-waiting [] k.table.slots (λ m. ap waiting_at (new.entries m)) in
      makes s (new_entry k) (new_together k new) refl (λ q r is. absurd (nothing_at Round q r is)) (omega (arith, waiting, total-empty (λ n (r : Round). of_running r.running))) model.new_table (new_seen k new) (λ h. key_act once h i MakeTable) refl

  -- ---- one that is kept
  module _ (o : ℕ) (e : KeptTable) (there : get s.es o ≡ Some e) where
    pub told : (k : ℕ) → PartRests registered old i (key_act once old.hall i (TellKey o k)) (content (get (table_seen e).values k)) (part_of (table_form once) s.es s.fs (i + 1))
    told k = tells s o e there (λ h. key_act once h i (TellKey o k)) _ (found_object s o e there _)

    -- a key is taken out
    module _ (k : ℕ) (e' : KeptTable) (gone : (fs : Names KeyFuture) → AreTogether once e fs → (table_seen e' ≡ without_key k (table_seen e)) × AreTogether once e' fs × (table_keeps e' ≡ table_keeps e) × (e'.rounds ≡ e.rounds) × (e'.futures ≡ e.futures)) where
      gone_as : (out : Tables → Outcome Tables) (answer : Answer) → out (seen_all s) ≡ quietly (model.with_table (seen_all s) o (without_key k (table_seen e))) answer → Rests s out answer (insert s.es o e') s.fs
      gone_as out answer is =
          let it = gone (own of_table o s.fs) (its_kept s o e there) in
          changes s o e there e' it.1 it.4 (subst (λ (m : Names Round). (q : ℕ) (r : Round) → get m q ≡ Some r → q < i + 1) (sym it.3) (low_now o e there)) it.2 (without_key k (table_seen e)) it.0 out answer is

      pub discarded : Rests s (λ h. key_act once h i (DiscardKey o k)) answers.Done (insert s.es o e') s.fs
      discarded = gone_as (λ h. key_act once h i (DiscardKey o k)) answers.Done (found_object s o e there _)

      pub removed : Rests s (λ h. key_act once h i (RemoveKey o k)) (content (get (table_seen e).values k)) (insert s.es o e') s.fs
      removed = gone_as (λ h. key_act once h i (RemoveKey o k)) (content (get (table_seen e).values k)) (found_object s o e there _)

    -- it is gone
    module _ (alone : futures_of old.hall o ≡ 0) where
      nothing : e.futures ≡ 0
      nothing = sym (sizes_are (table_form once) s.es s.fs s.next s.view s.kept o e there) ∙ alone

      -- no round has a caller, so there is none
      no_keeps : table_keeps e ≡ 0
      no_keeps = omega (arith, kept.waiting, total-zero (waiting_of e) e.rounds (λ n r is. absurd (no_round n r is)), total-zero (λ n (r : Round). of_running r.running) e.rounds (λ n r is. absurd (no_round n r is)))
        where
          kept : AreTogether once e (own of_table o s.fs)
          kept = its_kept s o e there

          no_round : (n : ℕ) (r : Round) → get e.rounds n ≡ Some r → ⊥
          no_round n r is =
              let round = kept.rounds n r is in
              let few : len (callers_of n (own of_table o s.fs)) ≤ len (own of_table o s.fs) = omega (arith, sym (count_callers n (own of_table o s.fs)), count-least (λ (x : KeyFuture). is_this n x.round) (own of_table o s.fs)) in
              absurd (omega (arith, round.some, round.kept.tied.futures, few, nothing, kept.futures))

      pub dropped : Rests s (λ h. key_act once h i (DropTable o)) answers.Done (remove s.es o) s.fs
      dropped = rests_as s (λ h. key_act once h i (DropTable o)) _ answers.Done (remove s.es o) s.fs (goes_kept s o e there nothing) (found_object s o e there _) refl (hall_without s o e there) refl (let all = kept_without s o e there in omega (arith, no_keeps, all))

    -- ---- a future of it is made
    pub begins_future : (x : KeyFuture) (e' : KeptTable) → e' ≡ record e { futures = e.futures + 1 } → x.table ≡ o → x.round ≡ None → x.call.stage ≡ key_stages.New x.key → x.call.call.stage ≡ New → x.call.call.init.outcome ≡ Unsettled
        → Rests s (λ h. key_act once h i (BeginKey o x.key)) answers.Made (insert s.es o e') (insert s.fs i x)
    begins_future x e' e_is mine none stage new init =
        let kept = its_kept s o e there in
        let no_own = own-none of_table o s.fs i (no_future s) in
        let e2 : KeptTable = record e { futures = e.futures + 1 } in
        rw e_is (gets_future s o e there x e2 mine (same_together once e (own of_table o s.fs) kept e2 (((λ n. refl), (λ j. refl)), refl) refl refl (insert (own of_table o s.fs) i x) i (λ j apart. get-other (own of_table o s.fs) i j x apart)
        (λ y is. absurd (cc)) (λ y is. let same : x ≡ y = inside (sym (get-there (own of_table o s.fs) i x) ∙ is) in rw (← same) (none, (stage, new))) (omega (arith, kept.futures, len-new (own of_table o s.fs) i x no_own)))
        (omega arith) (low_now o e there) refl refl (record { table = o; key = x.key; init = Unsettled; round = None }) (λ j. record { table = mine j; key = x.key; init = init j; round = none j }) (λ h. key_act once h i (BeginKey o x.key)) refl)

  -- ---- a future of a table makes a step
  module _ (f : ℕ) (x : KeyFuture) (e : KeptTable) (future : get s.fs f ≡ Some x) (there : get s.es x.table ≡ Some e) where
    abbrev pub stands_there : StandsTable once e f x i
    stands_there = record {
      fs = own of_table x.table s.fs;
      kept = s.kept.hall.each x.table e there;
      there = own-at of_table x.table s.fs f x future refl;
      below = λ g y is. let low = (s.kept.hall.firsts.at g y (own-had of_table x.table s.fs g y is).0).0 in let later = s.later in omega arith;
      low = below_later e s.next i (s.kept.low x.table e there) s.later;
      few = let low = (s.kept.hall.below x.table e there).1 in let later = s.later in omega arith;
      fits = s.fits;
    }

    same_others : (n : ℕ) → others_of (seen_all s) f x.table n ≡ others (own of_table x.table s.fs) f n
    same_others n =
        ap (λ m. count (λ (y : ModelFuture). is_this n y.round) (own (λ (y : ModelFuture). y.table) x.table m)) (sym (seen-remove key_future_seen s.fs f))
        ∙ ap (count (λ (y : ModelFuture). is_this n y.round)) (own-seen of_table (λ (y : ModelFuture). y.table) key_future_seen (λ x. refl) x.table (remove s.fs f))
        ∙ total-seen key_future_seen (λ (y : ModelFuture). cond (is_this n y.round) 1 0) (own of_table x.table (remove s.fs f)) ∙ ap (count (λ (y : KeyFuture). is_this n y.round)) (own-gone of_table x.table s.fs f)

    by_step : (p : Option KeyFuture) (out_at : Tables → Outcome Tables) (answer : Answer) (e' : KeptTable) (before after : Waking ℕ) → SteppedTable once e (own of_table x.table s.fs) i f x.table p out_at answer e' before after
        → (out : Tables → Outcome Tables) → out (seen_all s) ≡ out_at (seen_all s) → Yields s out answer (insert s.es x.table e') (turned_to s.fs f p) before after
    by_step p out_at answer e' before after it out is = steps s f x e future there p e' it.mine it.kept it.few it.low it.step.table it.step.future it.step.reply it.step.wakes answer before after it.replied it.table it.future it.woken it.counted out
        (is ∙ it.is (seen_all s) (seen-at table_seen s.es x.table e there) same_others)

    pub polled : (w : ℕ) (b : Bool) (y : KeyFuture) (answer : Answer) (e' : KeptTable) (before after : Waking ℕ)
        → ((st : StandsTable once e f x i) → SteppedTable once e st.fs i f x.table (left_by b y) (λ h. model.poll once h i f w (key_future_seen x) (table_seen e) x.round) answer e' before after)
        → Yields s (λ h. key_act once h i (PollKey f w)) answer (insert s.es x.table e') (if b then remove (insert s.fs f y) f else insert s.fs f y) before after
    polled w b y answer e' before after stepped = rw (left_turned s f b y) (by_step (left_by b y) _ answer e' before after (stepped stands_there) (λ h. key_act once h i (PollKey f w)) (found_both s f x e future there (λ x t. model.poll once (seen_all s) i f w x t x.round)))

    pub settled_part : (r : Initialiser) (y : KeyFuture) (e' : KeptTable) (before after : Waking ℕ)
        → ((i : ℕ) (st : StandsTable once e f x i) → SteppedTable once e st.fs i f x.table (Some y) (λ h. model.settle once h f r (key_future_seen x) (table_seen e) x.round) answers.Done e' before after)
        → Yields s (λ h. key_act once h i (SettleKey f r)) answers.Done (insert s.es x.table e') (insert s.fs f y) before after
    settled_part r y e' before after stepped = by_step (Some y) _ answers.Done e' before after (stepped i stands_there) (λ h. key_act once h i (SettleKey f r)) (found_both s f x e future there (λ x t. model.settle once (seen_all s) f r x t x.round))

    pub ended : (e' : KeptTable) (before after : Waking ℕ) → ((i : ℕ) (st : StandsTable once e f x i) → SteppedTable once e st.fs i f x.table None (λ h. model.end once h f (key_future_seen x) (Some (table_seen e))) answers.Done e' before after)
        → Yields s (λ h. key_act once h i (EndKey f)) answers.Done (insert s.es x.table e') (remove s.fs f) before after
    ended e' before after stepped = by_step None _ answers.Done e' before after (stepped i stands_there) (λ h. key_act once h i (EndKey f))
        (found_future s f x e future there (λ x. model.end once (seen_all s) f x (get (seen table_seen s.es) x.table)) ∙ ap (model.end once (seen_all s) f (key_future_seen x)) (seen-at table_seen s.es x.table e there))

    -- a look at a future and its table changes nothing, nor does a table that is as it was
    pub looked : (e' : KeptTable) (y : KeyFuture) → IsSameTable e e' → y ≡ x → ArePartKept (table_form once) (insert s.es x.table e') (insert s.fs f y) s.next × (part_of (table_form once) (insert s.es x.table e') (insert s.fs f y) s.next ≡ old)
    looked e' y same y_is = rw (y_is, insert_same s.fs f x future) (record { hall = still; low = low_still }, (λ j. part_of_tables (seen-alike table_seen s.es x.table e e' there (same_seen once e (own of_table x.table s.fs) its_together e' same.keyed same.current same.rounds) j)) ∙ s.view)
      where
        part_of_tables : Names Table → Part Tables
        part_of_tables ts = record { hall = record { tables = ts; futures = seen key_future_seen s.fs }; next = s.next }

        its_together : AreTogether once e (own of_table x.table s.fs)
        its_together = s.kept.hall.each x.table e there

        still : HallKept of_table of_none (λ e xs ys. AreTogether once e xs) (λ e. e.futures) (insert s.es x.table e') s.fs empty s.next
        still = record {
          each = by_put s.es x.table e' (λ q p. (d : KeptTable) → p ≡ Some d → AreTogether once d (own of_table q s.fs))
              (λ d is. subst (λ d. AreTogether once d (own of_table x.table s.fs)) (inside is) (same_all once e (own of_table x.table s.fs) its_together e' same.keyed same.current same.rounds same.futures))
              (λ q apart d is. s.kept.hall.each q d is);
          below = by_put s.es x.table e' (λ q p. (d : KeptTable) → p ≡ Some d → (q < s.next) × (d.futures ≤ s.next))
              (λ d is. subst (λ (d : KeptTable). (x.table < s.next) × (d.futures ≤ s.next)) (inside is) (let low = s.kept.hall.below x.table e there in (low.0, omega (arith, low.1, same.futures))))
              (λ q apart d is. s.kept.hall.below q d is);
          firsts = record { at = λ k z is. let had = s.kept.hall.firsts.at k z is in (had.0, by_put s.es x.table e' (λ q p. IsSome (get s.es q) → IsSome p) (λ some. refl) (λ q apart some. some) z.table had.1) };
          seconds = record { at = λ k z is. absurd (nothing_at ℕ k z is) };
          low = s.kept.hall.low;
        }

        low_still : (q : ℕ) (d : KeptTable) → get (insert s.es x.table e') q ≡ Some d → RoundsBelow d s.next
        low_still q d = by_put s.es x.table e' (λ q p. p ≡ Some d → RoundsBelow d s.next) (λ is. subst (λ (d : KeptTable). RoundsBelow d s.next) (inside is) (λ j r at. s.kept.low x.table e there j r (ap (λ m. get m j) (sym same.rounds) ∙ at)))
            (λ q apart is. s.kept.low q d is) q
