-- the ways in which a future comes to a round, and what a future outside of rounds leaves
use Rattle.std.proofs.Common.{◌≡◌, ℕ, ◌+◌, inl, inr, Bool, true, false, [], Option, Some, None, is_some, refl, ap, sym, subst, ◌∙◌, arith}
use Rattle.std.specs.Option.{IsSome}
use Rattle.std.proofs.lemmas.Bool.{ne_eqb}
use Rattle.std.specs.FinMap.{get, insert, empty, get-empty}
use Rattle.std.specs.Ordering.{nat_cmp}
use Rattle.mea_base.specs.Totals.{weight}
use Rattle.mea_base.proofs.Maps.{inside, value_in, get-there, get-other, none_if}
use Rattle.mea_base.proofs.Totals.{total-empty}
use Rattle.mea_by_name.specs.ByName.{Names, seen, own}
use Rattle.mea_by_name.specs.declared.named_waker.NamedWaker.{NamedWaker}
use Rattle.mea_by_name.proofs.Own.{own-put, own-had, own-empty, seen-insert, seen-none, seen-empty, insert_same}
use Rattle.mea_sem_core.specs.Core.{held_of}
use Rattle.mea_once_core.specs.Permit.{free_permit}
use Rattle.mea_once_core.specs.Table.{entry_at, empty_cell, fresh_entry}
use Rattle.mea_once_core.specs.Waiting.{waiting_at}
use Rattle.mea_once_core.specs.declared.key_call.KeyStage.TheVariants as key_stages
use Rattle.mea_once_core.specs.declared.cell_stage.CellStage.TheVariants.{New}
use Rattle.mea_once_model.specs.Tables.{is_this}
use Rattle.mea_once.specs.declared.key_future.KeyFuture.{KeyFuture}
use Rattle.mea_once.specs.declared.round.Round.{Round}
use Rattle.mea_once.specs.Cores.{IsOnePermit, cell_seen}
use Rattle.mea_once.specs.Entries.{KeptCell, of_running}
use Rattle.mea_once.specs.KeyEntries.{KeptTable, new_round, joined}
use Rattle.mea_once.specs.Parts.{AreKept, IsNewCell}
use Rattle.mea_once.specs.KeyParts.{value_of, kept_cell, table_seen, as_caller, slot_of, of_round, callers_of, IsRound, IsKey, Absent, Computing, Valued, CallFits, waiting_of, AreTogether, StandsTable}
use Rattle.mea_once.proofs.Permits.{granted_sum, sum_total}
use Rattle.mea_once.proofs.OneCell.{begins, new_tied}
use Rattle.mea_once.proofs.KeySteps.{Entry, number}
use Rattle.mea_once.proofs.KeyTables.{get_values, value_at, of_round_only}
use Rattle.mea_once.proofs.KeyStarts.{Start, Status, Current, Full, Aside, at_round}

-- ---- a cell that nobody has used
held_none : held_of {W = NamedWaker} free_permit ≡ 0
held_none = omega arith

none_granted : granted_sum (empty {X = ℕ} {R = nat_cmp}) ≡ 0
none_granted = sum_total (empty {X = ℕ} {R = nat_cmp}) ∙ total-empty (λ k d. d)

new_permit : IsOnePermit free_permit
new_permit = record { one = refl; asks = tt; apart = tt; granted_apart = λ n some. get-empty nat_cmp n; total = omega (arith, none_granted) }

pub new_cell_is : IsNewCell (cell_seen empty_cell) None
new_cell_is = record { value = refl; free = refl; queue = refl; granted = refl; held = held_none; wakes = refl; waits = refl; sound = record { permit = new_permit; empty = λ some. refl } }

module _ (once : Bool) (e : KeptTable) (f : ℕ) (x : KeyFuture) (i : ℕ) (s : StandsTable once e f x i) where
  abbrev fs : Names KeyFuture
  fs = s.fs

  abbrev kept : AreTogether once e fs
  kept = s.kept

  pub its_call : (o : Option ℕ) → x.round ≡ o → CallFits o e x
  its_call o is = subst (λ o. CallFits o e x) is (kept.calls f x s.there)

  -- the number of this event is no round yet
  pub no_round : get e.rounds i ≡ None
  no_round = none_if (get e.rounds i) (λ r is. absurd (let below = s.low i r is in omega arith))

  -- ---- it is a caller of a round
  module _ (n : ℕ) (of : x.round ≡ Some n) where
    abbrev pub at_it : CallFits (Some n) e x
    at_it = its_call (Some n) of

    abbrev pub its_round : Round
    its_round = at_it.0

    abbrev pub its_there : get e.rounds n ≡ Some its_round
    its_there = at_it.1

    abbrev pub shown_round : IsRound e fs n its_round
    shown_round = kept.rounds n its_round its_there

    abbrev pub its_entry : Entry
    its_entry = shown_round.shown

    same_future : at_round x n ≡ x
    same_future = λ j. record { table = x.table; key = x.key; round = sym of j; call = x.call }

    stays_status : Status once e n its_round.entry x.key its_entry e.current (number e.keyed x.key)
    stays_status = at its_entry.listed refl
      where
        key_is : its_round.key ≡ x.key
        key_is = at_it.3

        listed_so : its_entry.listed ≡ true → number e.keyed x.key ≡ Some its_round.entry
        listed_so is = ap (number e.keyed) (sym key_is) ∙ shown_round.listed is

        -- the entry of the key's number
        same_shown : (t : Entry) (q : ℕ) → q ≡ its_round.entry → entry_at e.keyed.table q ≡ Some t → t ≡ its_entry
        same_shown t q is there = inside (sym there ∙ ap (entry_at e.keyed.table) is ∙ shown_round.there)

        value_is : (v : Option ℕ) → its_entry.listed ≡ true → its_entry.cell.value ≡ v → get (table_seen e).values x.key ≡ v
        value_is v listed is = get_values e.keyed.table e.keyed.table.pairs x.key ∙ ap (value_at e.keyed.table) (listed_so listed) ∙ ap value_of shown_round.there ∙ is

        by_key : its_entry.listed ≡ true → IsKey once e x.key → Status once e n its_round.entry x.key its_entry e.current (number e.keyed x.key)
        by_key listed (Absent none current) = absurd (let num = listed_so listed in cc)
        by_key listed (Computing q r t num current is key there none listed_t) =
            let entry : r.entry ≡ its_round.entry = inside (sym num ∙ listed_so listed) in
            let name : q ≡ n = kept.one q n r its_round is its_there entry in
            let empty_it : its_entry.cell.value ≡ None = ap (λ (t : Entry). t.cell.value) (sym (same_shown t r.entry entry there)) ∙ none in
            Current listed empty_it (current ∙ ap (λ q. Some q) name) (listed_so listed) (value_is None listed empty_it)
        by_key listed (Valued m v t num current there full listed_t map_only round) =
            let entry : m ≡ its_round.entry = inside (sym num ∙ listed_so listed) in
            let full_it : its_entry.cell.value ≡ Some v = ap (λ (t : Entry). t.cell.value) (sym (same_shown t m entry there)) ∙ full in
            Full v listed full_it current (listed_so listed) map_only (value_is (Some v) listed full_it)

        other : its_entry.listed ≡ false → IsKey once e x.key → (q : ℕ) → number e.keyed x.key ≡ Some q → its_round.entry ≡ q → ⊥
        other unlisted (Absent none current) q num same = absurd (cc)
        other unlisted (Computing j r t num_t current is key there none listed_t) q num same =
            let one = same_shown t r.entry (inside (sym num_t ∙ num) ∙ sym same) there in
            absurd (let yes_listed : its_entry.listed ≡ true = ap (λ (t : Entry). t.listed) (sym one) ∙ listed_t in cc)
        other unlisted (Valued m v t num_t current there full listed_t map_only round) q num same =
            let one = same_shown t m (inside (sym num_t ∙ num) ∙ sym same) there in
            absurd (let yes_listed : its_entry.listed ≡ true = ap (λ (t : Entry). t.listed) (sym one) ∙ listed_t in cc)

        not_now : its_entry.listed ≡ false → IsKey once e x.key → is_this n (get e.current x.key) ≡ false
        not_now unlisted (Absent none current) = ap (is_this n) current
        not_now unlisted (Computing q r t num current is key there none listed_t) = ap (is_this n) current ∙ ne_eqb q n (λ name.
            let both : r ≡ its_round = inside (sym is ∙ ap (get e.rounds) name ∙ its_there) in
            other unlisted (kept.keys x.key) r.entry num (ap (λ (r : Round). r.entry) (sym both)))
        not_now unlisted (Valued m v t num current there full listed_t map_only round) = ap (is_this n) current

        at : (b : Bool) → its_entry.listed ≡ b → Status once e n its_round.entry x.key its_entry e.current (number e.keyed x.key)
        at true is = by_key is (kept.keys x.key)
        at false is = Aside is (kept.keys x.key) (other is (kept.keys x.key)) refl refl (not_now is (kept.keys x.key))

    pub starts_there : Start once e fs i f x n its_round.entry its_round its_entry e.current (number e.keyed x.key)
    starts_there = record {
      around = record {
        entry = λ q r is same. kept.one n q its_round r its_there is (sym same);
        here = λ r is. let both : its_round ≡ r = inside (sym its_there ∙ is) in (ap (λ (r : Round). r.entry) (sym both), ap (λ (r : Round). r.key) (sym both) ∙ at_it.3);
        only = λ j is. sym at_it.3 ∙ of_round_only once e fs kept n its_round its_there j is;
      };
      before = sym (ap (weight (waiting_of e) n) its_there);
      queue = sym (ap waiting_at shown_round.there);
      runner = ap (weight (λ n (r : Round). of_running r.running) n) its_there;
      callers = shown_round.callers;
      some = shown_round.some;
      key = at_it.3;
      at = λ other. refl;
      was = λ q is. inside (sym is ∙ of);
      kept = subst (λ fs. AreKept false (kept_cell its_entry.cell its_round) (callers_of n fs)) (sym (ap (insert fs f) same_future ∙ insert_same fs f x s.there)) shown_round.kept;
      current = λ j apart. refl;
      low = let below = s.low n its_round its_there in omega arith;
      keeps_number = λ q is apart. is;
      is_number = λ q is. inr is;
      status = stays_status;
    }

  -- ---- it is a caller of none
  module _ (of : x.round ≡ None) where
    new_call : (x.call.stage ≡ key_stages.New x.key) × (x.call.call.stage ≡ New)
    new_call = its_call None of

    pub not_of : (n : ℕ) → get (callers_of n fs) f ≡ None
    not_of n = seen-none as_caller (own of_round (n + 1) fs) f (none_if (get (own of_round (n + 1) fs) f) (λ y is.
        let had = own-had of_round (n + 1) fs f y is in
        let same : y ≡ x = inside (sym had.0 ∙ s.there) in
        absurd (let slot : slot_of x.round ≡ n + 1 = ap of_round (sym same) ∙ had.1 in let zero : slot_of x.round ≡ 0 = ap slot_of of in omega arith)))

    -- it is one more caller of a cell
    begun_kept : (n : ℕ) (K : KeptCell) → AreKept false K (callers_of n fs) → K.alone ≡ 0 → K.cell.waits.wakers ≡ [] → AreKept false (record K { futures = K.futures + 1; alone = K.alone + 0 }) (callers_of n (insert fs f (at_round x n)))
    begun_kept n K kept_cell_is alone none =
        rw (ap (seen as_caller) (own-put of_round (n + 1) fs f (at_round x n) refl) ∙ seen-insert as_caller (own of_round (n + 1) fs) f (at_round x n)) (record {
          sound = kept_cell_is.sound;
          quiet = kept_cell_is.quiet;
          tied = begins false K (callers_of n fs) f (as_caller x) kept_cell_is.tied (not_of n) refl new_call.1 refl (rw none tt) (λ is. absurd (cc)) (λ is. alone);
        })

    module _ (n : ℕ) (now : get e.current x.key ≡ Some n) (r : Round) (there : get e.rounds n ≡ Some r) where
      abbrev shown_now : IsRound e fs n r
      shown_now = kept.rounds n r there

      abbrev pub joined_entry : Entry
      joined_entry = record shown_now.shown { callers = shown_now.shown.callers + 1 }

      -- it is the key's current round
      pub record IsNow : Type 0 where
        pub num : number e.keyed x.key ≡ Some r.entry
        pub key : r.key ≡ x.key
        pub empty : shown_now.shown.cell.value ≡ None
        pub listed : shown_now.shown.listed ≡ true

      pub is_now : IsNow
      is_now = at (kept.keys x.key)
        where
          at : IsKey once e x.key → IsNow
          at (Absent none current) = absurd (cc)
          at (Computing q t z num current is key entry none listed) =
              let name : q ≡ n = inside (sym current ∙ now) in
              let both : t ≡ r = inside (sym is ∙ ap (get e.rounds) name ∙ there) in
              let shown_same : z ≡ shown_now.shown = inside (sym entry ∙ ap (λ (r : Round). entry_at e.keyed.table r.entry) both ∙ shown_now.there) in
              record {
                num = num ∙ ap (λ (r : Round). Some r.entry) both;
                key = ap (λ (r : Round). r.key) (sym both) ∙ key;
                empty = ap (λ (z : Entry). z.cell.value) (sym shown_same) ∙ none;
                listed = ap (λ (z : Entry). z.listed) (sym shown_same) ∙ listed;
              }
          at (Valued m v z num current entry full listed map_only round) = absurd (cc)

      pub starts_joined : Start once e fs i f x n r.entry (joined r) joined_entry e.current (number e.keyed x.key)
      starts_joined = record {
        around = record {
          entry = λ q t is same. kept.one n q r t there is (sym same);
          here = λ t is. let both : r ≡ t = inside (sym there ∙ is) in (ap (λ (r : Round). r.entry) (sym both), ap (λ (r : Round). r.key) (sym both) ∙ is_now.key);
          only = λ j is. sym is_now.key ∙ of_round_only once e fs kept n r there j is;
        };
        before = sym (ap (weight (waiting_of e) n) there);
        queue = sym (ap waiting_at shown_now.there);
        runner = ap (weight (λ n (r : Round). of_running r.running) n) there;
        callers = ap (λ n. n + 1) shown_now.callers;
        some = omega arith;
        key = is_now.key;
        at = λ other. refl;
        was = λ q is. absurd (cc);
        kept = begun_kept n (kept_cell shown_now.shown.cell r) shown_now.kept refl refl;
        current = λ j apart. refl;
        low = let below = s.low n r there in omega arith;
        keeps_number = λ q is apart. is;
        is_number = λ q is. inr is;
        status = Current is_now.listed is_now.empty now is_now.num (get_values e.keyed.table e.keyed.table.pairs x.key ∙ ap (value_at e.keyed.table) is_now.num ∙ ap value_of shown_now.there ∙ is_now.empty);
      }

    -- an entry that a key has is there
    pub number_there : (j m : ℕ) → number e.keyed j ≡ Some m → IsSome (entry_at e.keyed.table m)
    number_there j m is = at (kept.keys j)
      where
        at : IsKey once e j → IsSome (entry_at e.keyed.table m)
        at (Absent none current) = absurd (cc)
        at (Computing q t z num current there key entry none listed) = ap is_some (ap (entry_at e.keyed.table) (inside (sym is ∙ num)) ∙ entry)
        at (Valued q v z num current entry full listed map_only round) = ap is_some (ap (entry_at e.keyed.table) (inside (sym is ∙ num)) ∙ entry)

    nobody_there : callers_of i fs ≡ empty
    nobody_there = ap (seen as_caller) (own-empty of_round (i + 1) fs (λ g y is mine. at g y is y.round refl mine)) ∙ seen-empty as_caller
      where
        at : (g : ℕ) (y : KeyFuture) → get fs g ≡ Some y → (o : Option ℕ) → y.round ≡ o → i + 1 ≡ slot_of y.round → ⊥
        at g y is None of_y mine = absurd (let zero : slot_of y.round ≡ 0 = ap slot_of of_y in omega arith)
        at g y is (Some q) of_y mine =
            let it = subst (λ o. CallFits o e y) of_y (kept.calls g y is) in
            let below = s.low q it.0 it.1 in
            absurd (let slot : slot_of y.round ≡ q + 1 = ap slot_of of_y in omega arith)

    module _ (no_current : get e.current x.key ≡ None) (no_number : number e.keyed x.key ≡ None) (m : ℕ) (fresh : entry_at e.keyed.table m ≡ None) where
      new_kept : AreKept false (kept_cell empty_cell (new_round x.key)) (callers_of i (insert fs f (at_round x i)))
      new_kept = begun_kept i (record { cell = cell_seen empty_cell; running = None; futures = 0; alone = 0 }) (rw nobody_there (record { sound = new_cell_is.sound; quiet = refl; tied = new_tied false (cell_seen empty_cell) None new_cell_is })) refl refl

      pub starts_new : Start once e fs i f x i m (new_round x.key) fresh_entry (insert e.current x.key i) (Some m)
      starts_new = record {
        around = record {
          entry = λ q r is same. absurd (let it = kept.rounds q r is in let there : entry_at e.keyed.table m ≡ Some it.shown = ap (entry_at e.keyed.table) (sym same) ∙ it.there in cc);
          here = λ r is. absurd (let none = no_round in cc);
          only = λ j is. absurd (let one = value_in (entry_at e.keyed.table m) (number_there j m is) in let some = one.1 in cc);
        };
        before = ap waiting_at fresh ∙ sym (ap (weight (waiting_of e) i) no_round);
        queue = sym (ap waiting_at fresh);
        runner = ap (weight (λ n (r : Round). of_running r.running) i) no_round;
        callers = refl;
        some = omega arith;
        key = refl;
        at = λ other. absurd (other refl);
        was = λ q is. absurd (cc);
        kept = new_kept;
        current = λ j apart. get-other e.current x.key j i apart;
        low = omega arith;
        keeps_number = λ q is apart. absurd (cc);
        is_number = λ q is. inl (inside is);
        status = Current refl refl (get-there e.current x.key i) refl (get_values e.keyed.table e.keyed.table.pairs x.key ∙ ap (value_at e.keyed.table) no_number);
      }
