-- what the parts keep to holds of the objects as they are seen
use Rattle.std.proofs.Common.{◌≡◌, ℕ, ◌+◌, ◌<◌, ◌≤◌, ◌==◌, ◌&&◌, ◌⊎◌, inl, inr, Bool, true, false, not, cond, [], ◌∷◌, Option, Some, None, IsSome, is_some, refl, ap, sym, subst, ◌∙◌, arith}
use Rattle.std.specs.FinMap.{get, remove, len}
use Rattle.std.proofs.lemmas.Bool.{eqb-true, eqb-false, eq-eqb}
use Rattle.mea_base.proofs.Maps.{inside, value_in, none_if, not_both, is_there, get-removed_other}
use Rattle.mea_base.proofs.NamedMaps.{same_named}
use Rattle.mea_by_name.specs.declared.named_waker.NamedWaker.{NamedWaker}
use Rattle.mea_by_name.specs.ByName.{Names, seen, own}
use Rattle.mea_by_name.specs.NamedQueue.{waits, waker_for}
use Rattle.mea_by_name.specs.LackingQueue.{who}
use Rattle.mea_by_name.proofs.Own.{seen-at, seen-back, own-seen, own-had, own-at, len-seen, count-gone}
use Rattle.mea_sem_core.specs.Core.{Acquires, Owes, HasNoDebt, waiting, held_of}
use Rattle.mea_sem_core.specs.Ones.{AskForOne}
use Rattle.mea_sem_core.specs.declared.acquire.Acquire.{Acquire}
use Rattle.mea_sem_core.specs.declared.acquire.Acquire.TheVariants as acquire
use Rattle.mea_cores_by_name.specs.Linked.{names_in, AreOf}
use Rattle.mea_cores_by_name.proofs.Linking.{unqueued_waits, queued_waits}
use Rattle.mea_once_core.specs.declared.cell_stage.CellStage.{CellStage}
use Rattle.mea_once_core.specs.declared.cell_stage.CellStage.TheVariants.{New, Queued, Running, Done}
use Rattle.mea_once_core.specs.Links.{Shown}
use Rattle.mea_once_core.specs.Table.{entry_at}
use Rattle.mea_once_model.specs.Cells.{CellFuture, is_alone}
use Rattle.mea_once_model.specs.Tables.{KeyFuture as ModelFuture, caller}
use Rattle.mea_once_model.specs.KeyValid.{IsValidTable, IsValidFuture}
use Rattle.mea_once_model.specs.Valid as valid
use Rattle.mea_once_model.specs.Valid.{has_turn, IsCell, HasCells, callers_in, IsTable, HasTables}
use Rattle.mea_once_model.proofs.Validity.{alike}
use Rattle.mea_once.specs.declared.future_entry.FutureEntry.{FutureEntry}
use Rattle.mea_once.specs.declared.key_future.KeyFuture.{KeyFuture}
use Rattle.mea_once.specs.declared.round.Round.{Round}
use Rattle.mea_once.specs.Entries.{KeptCell}
use Rattle.mea_once.specs.PartForm.{ArePartKept}
use Rattle.mea_once.specs.Parts.{is_polled, runner_of, cell_seen, future_seen, cells_seen, runs_at, acquire_at, acquire_of, is_running, StageFits, is_caller, MayRun, AreKept, of_future, cell_form}
use Rattle.mea_once.specs.KeyEntries.{KeptTable}
use Rattle.mea_once.specs.KeyParts.{slot_of, kept_cell, round_seen, table_seen, key_future_seen, tables_seen, as_caller, of_round, callers_of, IsKey, Absent, Computing, Valued, CallFits, value_of, AreTogether, of_table, table_form}
use Rattle.mea_once.proofs.Permits.{granted_sum, sum_without, shares}
use Rattle.mea_once.proofs.OneCell.{Queue, no_debts, fits_any, running_held, unqueued}
use Rattle.mea_once.proofs.KeyTables.{get_values, value_at}
use Rattle.mea_once.proofs.KeyCalls.{seen_round}

-- who waits under a name has its acquire in the queue
named_queued : (acquires : Names Acquire) (q : Queue) → AskForOne q → AreOf acquires q → (f w : ℕ) → waker_for (who (names_in q)) f ≡ Some w → (d : ℕ) × (n : ℕ) × (get acquires f ≡ Some (acquire.Queued d n))
named_queued acquires [] asks are f w is = absurd (cc)
named_queued acquires ((Acquires n d k, l) ∷ q) asks are f w is = at (named_queued acquires q asks.2 are.1 f w) (k.name == f) refl is
  where
    at : (waker_for (who (names_in q)) f ≡ Some w → (d : ℕ) × (n : ℕ) × (get acquires f ≡ Some (acquire.Queued d n))) → (b : Bool) → (k.name == f) ≡ b → cond b (Some k.waker) (waker_for (who (names_in q)) f) ≡ Some w
        → (d : ℕ) × (n : ℕ) × (get acquires f ≡ Some (acquire.Queued d n))
    at rest true same it = (d, n, ap (get acquires) (sym (eqb-true k.name f same)) ∙ are.0)
    at rest false other it = rest it
named_queued acquires ((Owes, l) ∷ q) asks are f w is = absurd asks

queued_polled : (s : CellStage) (d n : ℕ) → acquire_at s ≡ acquire.Queued d n → is_polled s ≡ true
queued_polled (Queued m) d n is = refl
queued_polled _ d n is = absurd (cc)

running_stage : (s : CellStage) → runs_at s ≡ true → s ≡ Running
running_stage Running is = refl
running_stage _ is = absurd (cc)

-- ---- one cell
module _ (once : Bool) (e : KeptCell) (fs : Names FutureEntry) (kept : AreKept once e fs) where
  debtless : HasNoDebt e.cell.permit.queue
  debtless = no_debts e.cell.permit.queue kept.sound.permit.asks

  all : e.cell.permit.free + granted_sum e.cell.permit.granted + held_of e.cell.permit ≡ 1
  all = shares e.cell.permit kept.sound.permit

  -- who has its turn computes, or was granted the permit
  abbrev Turn : FutureEntry → Type 0
  Turn x = (is_running x ≡ true) ⊎ ((n : ℕ) × (x.stage ≡ Queued n) × (get e.cell.permit.granted n ≡ Some 1))

  module _ (f : ℕ) (x : FutureEntry) (there : get fs f ≡ Some x) where
    its : (s : CellStage) → x.stage ≡ s → get (seen acquire_of fs) f ≡ Some (acquire_at s)
    its s is = seen-at acquire_of fs f x there ∙ ap (λ t. Some (acquire_at t)) is

    turn_at : (s : CellStage) → x.stage ≡ s → StageFits true s → has_turn (cell_seen e) f (future_seen x) ≡ true → Turn x
    turn_at New is fits has = absurd (let no : has_turn (cell_seen e) f (future_seen x) ≡ false = ap (λ t. is_polled t && not (waits (cell_seen e).queue f)) is in cc)
    turn_at (Queued n) is fits has = by_home (kept.tied.linked.home f (acquire.Queued 1 n) (its (Queued n) is))
      where
        by_home : (get e.cell.permit.granted n ≡ Some 1) ⊎ ((lack : ℕ) × (waiting e.cell.permit.queue n ≡ Some (1, lack))) → Turn x
        by_home (inl granted) = inr (n, is, granted)
        by_home (inr queued) = absurd (
            let waits_so : waits (cell_seen e).queue f ≡ true = queued_waits e.cell.permit.queue e.cell.permit.granted (seen acquire_of fs) kept.tied.linked f 1 n (its (Queued n) is) debtless ∙ ap is_some queued.1 in
            let no : has_turn (cell_seen e) f (future_seen x) ≡ false = (λ j. is_polled (is j) && not (waits_so j)) in
            cc)
    turn_at Running is fits has = inl (ap runs_at is)
    turn_at Done is fits has = absurd fits

    turn_of : has_turn (cell_seen e) f (future_seen x) ≡ true → Turn x
    turn_of has = turn_at x.stage refl (fits_any (is_caller x.errand) x.stage (kept.tied.each f x there).stage) has

    -- so the permit is not free
    held_or_granted : Turn x → e.cell.permit.free ≡ 0
    held_or_granted (inl runs) = let held = running_held once e fs kept.tied f x there runs in omega (arith, all, held)
    held_or_granted (inr granted) = let some = sum_without e.cell.permit.granted granted.0 1 granted.2 in omega (arith, all, some)

    running_turn : is_running x ≡ true → has_turn (cell_seen e) f (future_seen x) ≡ true
    running_turn runs =
        let is = running_stage x.stage runs in
        let out : waits (cell_seen e).queue f ≡ false = unqueued_waits e.cell.permit.queue e.cell.permit.granted (seen acquire_of fs) kept.tied.linked f (unqueued once e fs kept.tied f x there Running is (λ n other. absurd (cc))) debtless in
        (λ j. is_polled (is j) && not (out j))

    may_turn : (b : Bool) → is_alone x.errand ≡ b → MayRun x → (has_turn (cell_seen e) f (future_seen x) ≡ true) ⊎ (is_alone x.errand ≡ true)
    may_turn true alone may = inr alone
    may_turn false shared may = inl (running_turn (sym (ap (λ b. cond b true (is_running x)) shared) ∙ may))

  module _ (f g : ℕ) (x y : FutureEntry) (at_f : get fs f ≡ Some x) (at_g : get fs g ≡ Some y) where
    -- two that compute are one
    both_run : is_running x ≡ true → is_running y ≡ true → (b : Bool) → (f == g) ≡ b → f ≡ g
    both_run runs too true same = eqb-true f g same
    both_run runs too false other = absurd (
        let first = count-gone fs f is_running x at_f in
        let second = count-gone (remove fs f) g is_running y (get-removed_other fs f g (eqb-false f g other) ∙ at_g) in
        let one : ◌≡◌ {A = ℕ} (cond (is_running x) 1 0) 1 = ap (λ b. cond b 1 0) runs in
        let also : ◌≡◌ {A = ℕ} (cond (is_running y) 1 0) 1 = ap (λ b. cond b 1 0) too in
        omega (arith, all, kept.tied.held, first, second, one, also))

    -- so are two that were granted it
    both_granted : (n m : ℕ) → x.stage ≡ Queued n → y.stage ≡ Queued m → get e.cell.permit.granted n ≡ Some 1 → get e.cell.permit.granted m ≡ Some 1 → (b : Bool) → (n == m) ≡ b → f ≡ g
    both_granted n m is too granted also true same =
        kept.tied.linked.apart f g 1 1 n (its f x at_f (Queued n) is) (its g y at_g (Queued n) (too ∙ ap (λ k. Queued k) (sym (eqb-true n m same))))
    both_granted n m is too granted also false other = absurd (
        let first = sum_without e.cell.permit.granted n 1 granted in
        let second = sum_without (remove e.cell.permit.granted n) m 1 (get-removed_other e.cell.permit.granted n m (eqb-false n m other) ∙ also) in
        omega (arith, all, first, second))

    one_turn : Turn x → Turn y → f ≡ g
    one_turn (inl runs) (inl too) = both_run runs too (f == g) refl
    one_turn (inl runs) (inr granted) = absurd (let held = running_held once e fs kept.tied f x at_f runs in let some = sum_without e.cell.permit.granted granted.0 1 granted.2 in omega (arith, all, held, some))
    one_turn (inr granted) (inl runs) = absurd (let held = running_held once e fs kept.tied g y at_g runs in let some = sum_without e.cell.permit.granted granted.0 1 granted.2 in omega (arith, all, held, some))
    one_turn (inr first) (inr second) = both_granted first.0 second.0 first.1 second.1 first.2 second.2 (first.0 == second.0) refl

  runs_on : (r : Option NamedWaker) → e.running ≡ r → (f w : ℕ) → waker_for (runner_of r) f ≡ Some w → (x : CellFuture) × (get (seen future_seen fs) f ≡ Some x) × ((has_turn (cell_seen e) f x ≡ true) ⊎ (is_alone x.errand ≡ true))
  runs_on None is f w runs = absurd (cc)
  runs_on (Some k) is f w runs = at (k.name == f) refl runs
    where
      at : (b : Bool) → (k.name == f) ≡ b → cond b (Some k.waker) None ≡ Some w → (x : CellFuture) × (get (seen future_seen fs) f ≡ Some x) × ((has_turn (cell_seen e) f x ≡ true) ⊎ (is_alone x.errand ≡ true))
      at true same it =
          let x = kept.tied.runner k is in
          let there : get fs f ≡ Some x.0 = ap (get fs) (sym (eqb-true k.name f same)) ∙ x.1 in
          (future_seen x.0, seen-at future_seen fs f x.0 there, may_turn f x.0 there (is_alone x.0.errand) refl x.2)
      at false other it = absurd (cc)

  pub cell_valid : IsCell (cell_seen e) (seen future_seen fs)
  cell_valid = record {
    queued = λ f w is.
        let one = named_queued (seen acquire_of fs) e.cell.permit.queue kept.sound.permit.asks kept.tied.linked.waits f w is in
        let x = seen-back acquire_of fs f (acquire.Queued one.0 one.1) one.2 in
        (future_seen x.0, seen-at future_seen fs f x.0 x.1, queued_polled x.0.stage one.0 one.1 x.2);
    running = λ f w is. runs_on e.running refl f w is;
    one = λ f g y z at_f at_g has also.
        let x = seen-back future_seen fs f y at_f in
        let u = seen-back future_seen fs g z at_g in
        one_turn f g x.0 u.0 x.1 u.1 (turn_of f x.0 x.1 (ap (has_turn (cell_seen e) f) x.2 ∙ has)) (turn_of g u.0 u.1 (ap (has_turn (cell_seen e) g) u.2 ∙ also));
    taken = λ f y at_f has.
        let x = seen-back future_seen fs f y at_f in
        eq-eqb e.cell.permit.free 0 (held_or_granted f x.0 x.1 (turn_of f x.0 x.1 (ap (has_turn (cell_seen e) f) x.2 ∙ has)));
    alone = λ f g y z at_f at_g alone.
        let x = seen-back future_seen fs f y at_f in
        let u = seen-back future_seen fs g z at_g in
        kept.tied.single f g x.0 u.0 x.1 u.1 (ap (λ (v : CellFuture). is_alone v.errand) x.2 ∙ alone);
  }

-- ---- all cells of a kind
pub cells_valid : (once : Bool) (es : Names KeptCell) (fs : Names FutureEntry) (next : ℕ) → ArePartKept (cell_form once) es fs next → HasCells (cells_seen es fs) next
cells_valid once es fs next kept = record {
  each = λ o c is.
      let e = seen-back cell_seen es o c is in
      subst (λ r. IsCell r (own valid.of_cell o (seen future_seen fs))) e.2 (rw (own-seen of_future valid.of_cell future_seen (λ x. refl) o fs) (cell_valid once e.0 (own of_future o fs) (kept.hall.each o e.0 e.1)));
  below = λ o some. let c = value_in (get (seen cell_seen es) o) some in let e = seen-back cell_seen es o c.0 c.1 in (kept.hall.below o e.0 e.1).0;
  futures = record {
    at = λ f y is.
        let x = seen-back future_seen fs f y is in
        let home = kept.hall.firsts.at f x.0 x.1 in
        let e = value_in (get es x.0.cell) home.1 in
        (home.0, subst (λ k. IsSome (get (seen cell_seen es) k)) (ap valid.of_cell x.2) (is_there _ (cell_seen e.0) (seen-at cell_seen es x.0.cell e.0 e.1)));
  };
}

-- ---- one map or group
module _ (once : Bool) (e : KeptTable) (fs : Names KeyFuture) (kept : AreTogether once e fs) where
  module _ (n : ℕ) where
    -- a caller of a round, as it is seen there and elsewhere
    polled_is : (x : KeyFuture) (o : Option ℕ) → x.round ≡ o → CallFits o e x → is_polled x.call.call.stage ≡ is_some x.round
    polled_is x None none fits = ap is_polled fits.1 ∙ sym (ap is_some none)
    polled_is x (Some q) some fits = fits.4 ∙ sym (ap is_some some)

    same_caller : (f : ℕ) (x : KeyFuture) → get (own of_round (n + 1) fs) f ≡ Some x → future_seen (as_caller x) ≡ caller (key_future_seen x)
    same_caller f x is =
        let polled = polled_is x x.round refl (kept.calls f x (own-had of_round (n + 1) fs f x is).0) in
        (λ j. record (future_seen (as_caller x)) { polled = polled j })

    callers_are : callers_in n (seen key_future_seen fs) ≡ seen caller (seen key_future_seen (own of_round (n + 1) fs))
    callers_are = ap (seen caller) (own-seen of_round (λ (y : ModelFuture). slot_of y.round) key_future_seen (λ x. refl) (n + 1) fs)

    to : (f : ℕ) (z : CellFuture) → get (seen future_seen (callers_of n fs)) f ≡ Some z → get (callers_in n (seen key_future_seen fs)) f ≡ Some z
    to f z is =
        let y = seen-back future_seen (callers_of n fs) f z is in
        let x = seen-back as_caller (own of_round (n + 1) fs) f y.0 y.1 in
        rw callers_are (seen-at caller _ f _ (seen-at key_future_seen _ f x.0 x.1) ∙ ap (λ v. Some v) (sym (same_caller f x.0 x.1) ∙ ap future_seen x.2 ∙ y.2))

    back : (f : ℕ) (z : CellFuture) → get (callers_in n (seen key_future_seen fs)) f ≡ Some z → get (seen future_seen (callers_of n fs)) f ≡ Some z
    back f z is =
        let y = seen-back caller (seen key_future_seen (own of_round (n + 1) fs)) f z (sym (ap (λ m. get m f) callers_are) ∙ is) in
        let x = seen-back key_future_seen (own of_round (n + 1) fs) f y.0 y.1 in
        seen-at future_seen _ f _ (seen-at as_caller _ f x.0 x.1) ∙ ap (λ v. Some v) (same_caller f x.0 x.1 ∙ ap caller x.2 ∙ y.2)

    -- they are the same, as they are seen there and elsewhere
    same_at : (f : ℕ) → get (callers_in n (seen key_future_seen fs)) f ≡ get (seen future_seen (callers_of n fs)) f
    same_at f = at (get (callers_in n (seen key_future_seen fs)) f) refl
      where
        at : (o : Option CellFuture) → get (callers_in n (seen key_future_seen fs)) f ≡ o → get (callers_in n (seen key_future_seen fs)) f ≡ get (seen future_seen (callers_of n fs)) f
        at None none = none ∙ sym (none_if (get (seen future_seen (callers_of n fs)) f) (λ z is. not_both (get (callers_in n (seen key_future_seen fs)) f) z none (to f z is)))
        at (Some z) some = some ∙ sym (back f z some)

    pub same_callers : callers_in n (seen key_future_seen fs) ≡ seen future_seen (callers_of n fs)
    same_callers = same_named _ _ same_at

    round_valid : (r : Round) → get e.rounds n ≡ Some r → IsCell (round_seen e.keyed.table r) (callers_in n (seen key_future_seen fs))
    round_valid r there =
        let it = kept.rounds n r there in
        rw it.there (alike (cell_seen (kept_cell it.shown.cell r)) (seen future_seen (callers_of n fs)) _ to back (cell_valid false (kept_cell it.shown.cell r) (callers_of n fs) it.kept))

    round_called : (r : Round) → get e.rounds n ≡ Some r → 1 ≤ len (callers_in n (seen key_future_seen fs))
    round_called r there =
        let it = kept.rounds n r there in
        let one : len (callers_in n (seen key_future_seen fs)) ≡ len (own of_round (n + 1) fs) = ap (λ m. len m) callers_are ∙ len-seen caller (seen key_future_seen (own of_round (n + 1) fs)) ∙ len-seen key_future_seen (own of_round (n + 1) fs) in
        let all = len-seen as_caller (own of_round (n + 1) fs) in
        omega (arith, one, all, it.some, it.kept.tied.futures)

  -- the current round of a key
  current : (k n : ℕ) → get e.current k ≡ Some n → IsKey once e k → (r : Round) × (s : Shown ℕ NamedWaker) × (get e.rounds n ≡ Some r) × (r.key ≡ k) × (entry_at e.keyed.table r.entry ≡ Some s) × (s.cell.value ≡ None) × (get (table_seen e).values k ≡ None)
  current k n now (Computing q r s num is there key entry empty listed) =
      let name : q ≡ n = inside (sym is ∙ now) in
      (r, s, ap (get e.rounds) (sym name) ∙ there, key, entry, empty, get_values e.keyed.table e.keyed.table.pairs k ∙ ap (value_at e.keyed.table) num ∙ ap value_of entry ∙ empty)
  current k n now (Absent none gone) = absurd (cc)
  current k n now (Valued m v s num gone entry full listed map_only round) = absurd (cc)

  table_valid : IsValidTable (table_seen e)
  table_valid = record {
    current = λ k n now. let it = current k n now (kept.keys k) in (cell_seen (kept_cell it.1.cell it.0), seen_round e n it.0 it.1 it.2 it.4, it.5);
    one = λ k j n now also.
        let it = current k n now (kept.keys k) in
        let other = current j n also (kept.keys j) in
        sym it.3 ∙ ap (λ (r : Round). r.key) (inside (sym it.2 ∙ other.2)) ∙ other.3;
    apart = λ k n now. (current k n now (kept.keys k)).6;
  }

  future_valid : (x : KeyFuture) (o : Option ℕ) → x.round ≡ o → CallFits o e x → IsValidFuture (table_seen e) (key_future_seen x)
  future_valid x None none fits = record { round = λ n is. absurd (let no = sym none ∙ is in cc); key = λ n k is now. absurd (let no = sym none ∙ is in cc) }
  future_valid x (Some q) some fits =
      let name = λ (n : ℕ) (is : x.round ≡ Some n). inside {x = q} {y = n} (sym some ∙ is) in
      record {
        round = λ n is. is_there _ (round_seen e.keyed.table fits.0) (seen-at (round_seen e.keyed.table) e.rounds n fits.0 (ap (get e.rounds) (sym (name n is)) ∙ fits.1));
        key = λ n k is now.
            let it = current k n now (kept.keys k) in
            sym it.3 ∙ ap (λ (r : Round). r.key) (inside (sym it.2 ∙ ap (get e.rounds) (sym (name n is)) ∙ fits.1)) ∙ fits.3;
      }

-- ---- all maps, or all groups
pub tables_valid : (once : Bool) (es : Names KeptTable) (fs : Names KeyFuture) (next : ℕ) → ArePartKept (table_form once) es fs next → HasTables (tables_seen es fs) next
tables_valid once es fs next kept = record {
  valid = record {
    tables = λ o t is. let e = seen-back table_seen es o t is in subst IsValidTable e.2 (table_valid once e.0 (own of_table o fs) (kept.hall.each o e.0 e.1));
    home = λ f y is. (home_of f y is).1;
    futures = λ f y t is there.
        let x = seen-back key_future_seen fs f y is in
        let e = seen-back table_seen es y.table t there in
        let mine : x.0.table ≡ y.table = ap valid.of_table x.2 in
        let its = kept.hall.each y.table e.0 e.1 in
        subst (λ r. IsValidFuture r y) e.2 (subst (λ z. IsValidFuture (table_seen e.0) z) x.2 (future_valid once e.0 (own of_table y.table fs) its x.0 x.0.round refl (its.calls f x.0 (own-at of_table y.table fs f x.0 x.1 mine))));
  };
  each = λ o t is.
      let e = seen-back table_seen es o t is in
      let its = kept.hall.each o e.0 e.1 in
      subst (λ r. IsTable r (own valid.of_table o (seen key_future_seen fs)) next) e.2 (rw (own-seen of_table valid.of_table key_future_seen (λ x. refl) o fs) (record {
        rounds = λ q c there. let r = seen-back (round_seen e.0.keyed.table) e.0.rounds q c there in subst (λ d. IsCell d (callers_in q (seen key_future_seen (own of_table o fs)))) r.2 (round_valid once e.0 (own of_table o fs) its q r.0 r.1);
        called = λ q some. let r = round_in_it e.0 q some in round_called once e.0 (own of_table o fs) its q r.0 r.1;
        below = λ q some. let r = round_in_it e.0 q some in kept.low o e.0 e.1 q r.0 r.1;
      }));
  below = λ o some. let t = value_in (get (seen table_seen es) o) some in let e = seen-back table_seen es o t.0 t.1 in (kept.hall.below o e.0 e.1).0;
  futures = record { at = home_of };
}
  where
    home_of : (f : ℕ) (y : ModelFuture) → get (seen key_future_seen fs) f ≡ Some y → (f < next) × IsSome (get (seen table_seen es) y.table)
    home_of f y is =
        let x = seen-back key_future_seen fs f y is in
        let home = kept.hall.firsts.at f x.0 x.1 in
        let e = value_in (get es x.0.table) home.1 in
        (home.0, subst (λ k. IsSome (get (seen table_seen es) k)) (ap valid.of_table x.2) (is_there _ (table_seen e.0) (seen-at table_seen es x.0.table e.0 e.1)))

    round_in_it : (e : KeptTable) (q : ℕ) → IsSome (get (table_seen e).rounds q) → (r : Round) × (get e.rounds q ≡ Some r)
    round_in_it e q some = let c = value_in (get (table_seen e).rounds q) some in let r = seen-back (round_seen e.keyed.table) e.rounds q c.0 c.1 in (r.0, r.1)
