-- what each event does to the cells of one kind, as they are kept and as they are seen
use Rattle.std.proofs.Common.{◌≡◌, ℕ, ◌+◌, ◌-◌, ◌<◌, ◌≤◌, ◌^◌, ◌==◌, ◌++◌, Bool, true, false, cond, length, List, [], ◌∷◌, Option, Some, None, is_some, refl, ap, sym, subst, ◌∙◌, arith, append-nil, if◌then◌else◌}
use Rattle.std.specs.FinMap.{get, insert, remove}
use Rattle.std.proofs.lemmas.List.{length-append}
use Rattle.mea_family.specs.Causes.{borrowed_by}
use Rattle.mea_family.specs.declared.answer.Answer.{Answer}
use Rattle.mea_family.specs.declared.answer.Answer.TheVariants as answers
use Rattle.mea_family.specs.Family.{Outcome}
use Rattle.mea_base.specs.Ready.{Waking}
use Rattle.mea_base.proofs.Totals.{total-same}
use Rattle.mea_by_name.specs.declared.named_waker.NamedWaker.{NamedWaker}
use Rattle.mea_by_name.specs.ByName.{Names, seen, own, count}
use Rattle.mea_family.specs.Play.{Part, PartRests, content}
use Rattle.mea_by_name.specs.LackingQueue.{who}
use Rattle.mea_by_name.proofs.LackingQueues.{length-who}
use Rattle.mea_by_name.proofs.Own.{seen-at, total-seen, own-at, own-had, own-none, count-least, insert_same}
use Rattle.mea_cores_by_name.specs.Linked.{names_in}
use Rattle.mea_cores_by_name.specs.SetLinked.{AreBelow, names_of, set_names}
use Rattle.mea_cores_by_name.proofs.Sets.{below_absent}
use Rattle.mea_once_core.specs.declared.cell_stage.CellStage.TheVariants.{New}
use Rattle.mea_once_model.specs.declared.errand.Initialiser.{Initialiser}
use Rattle.mea_once_model.specs.declared.errand.Errand.{Errand}
use Rattle.mea_once_model.specs.declared.errand.Errand.TheVariants.{Calls, Computes, Alone, Sets, Inserts, Awaits}
use Rattle.mea_once_model.specs.declared.whole_use.WholeUse.{WholeUse}
use Rattle.mea_once_model.specs.Cells as model
use Rattle.mea_once_model.specs.Cells.{Cell, CellFuture, Cells, Step, is_cell, futures_of, alone_of, registered, waiting_at, is_alone, settled, turned_to}
use Rattle.mea_once_model.specs.Valid.{of_cell}
use Rattle.mea_once_model.specs.Actions.{act_in, Make, Begin, Poll, Settle, End, TellFull, Tell, Use, TakeOut, Drop, in_the_way}
use Rattle.mea_once.specs.declared.future_entry.FutureEntry.{FutureEntry}
use Rattle.mea_once.specs.Cores.{NamedCell, IsSoundCell}
use Rattle.mea_once.specs.Entries.{KeptCell, begun, keeps, of_running, left_by}
use Rattle.mea_once.specs.PartForm.{ArePartKept}
use Rattle.mea_once.specs.Parts.{is_polled, cell_seen, future_seen, runner_of, fits, gives_nothing, Stands, Stepped, of_future, IsNewCell, FitsSettled}
use Rattle.mea_once.specs.Lends.{turns_in, StandsFor}
pub use Rattle.mea_once.specs.Parts.{cell_form}
pub use Rattle.mea_once.proofs.OnePart.{few_futures, future_cause, future_of, if_borrowed, its_object, its_room, looked_at, new_kept, new_view, object_of, object_there, rests, settle_cause, unchanged, unsettled_of, untaken, whole_cause}
use Rattle.mea_once.proofs.OnePart.{borrowed_at, part_of, PartLaws, own_are, sizes_are, borrowed_is, Site, seen_all, Yields, Rests, yields_as, makes, no_future, its_kept, found_object, tells, changes, goes_kept, hall_without, kept_without, gets_future, left_turned, steps, found_future, found_both}
use Rattle.mea_once.proofs.Granted.{turns_granted, keeper_holds}
use Rattle.mea_once.proofs.OneCell.{begins, idle, new_tied}
use Rattle.mea_cores_by_name.proofs.Waiters.{length-names}
use Rattle.mea_cores_by_name.proofs.Sets.{length-set_names}

-- ---- how many wakers are kept
length-runner : (r : Option NamedWaker) → length (runner_of r) ≡ of_running r
length-runner None = refl
length-runner (Some k) = refl

pub keeps_seen : (e : KeptCell) → length (waiting_at (cell_seen e)) ≡ keeps e
keeps_seen e = omega (
  arith,
  length-append (who (names_in e.cell.permit.queue)) (runner_of e.running ++ set_names e.cell.waits),
  length-append (runner_of e.running) (set_names e.cell.waits),
  length-who (names_in e.cell.permit.queue),
  length-names e.cell.permit.queue,
  length-runner e.running,
  length-set_names e.cell.waits.wakers,
)

below_more : (ks : List NamedWaker) (n m : ℕ) → AreBelow ks n → n ≤ m → AreBelow ks m
below_more [] n m low less = tt
below_more (k ∷ ks) n m low less = (omega (arith, low.0), below_more ks n m low.1 less)

pub cell_laws : (once : Bool) → PartLaws (cell_form once)
cell_laws once = record {
  later = λ e n m low less. below_more e.cell.waits.wakers n m low less;
  counted = λ es fs next kept. total-seen cell_seen (λ (c : Cell). length (waiting_at c)) es ∙ total-same (λ o (e : KeptCell). length (waiting_at (cell_seen e))) (λ o e. keeps e) es (λ o e there. keeps_seen e);
}

-- ---- what is looked up in cells that are seen so
module _ (once : Bool) {old : Part Cells} (es : Names KeptCell) (fs : Names FutureEntry) (next : ℕ) (view : ◌≡◌ {A = Part Cells} (part_of (cell_form once) es fs next) old) (kept : ArePartKept (cell_form once) es fs next) (o : ℕ) where
  own_seen : own of_cell o old.hall.futures ≡ seen future_seen (own of_future o fs)
  own_seen = own_are (cell_form once) es fs next view kept o

  pub alone_are : (e : KeptCell) → get es o ≡ Some e → alone_of old.hall o ≡ e.alone
  alone_are e there = ap (count (λ (x : CellFuture). is_alone x.errand)) own_seen ∙ total-seen future_seen (λ (x : CellFuture). cond (is_alone x.errand) 1 0) (own of_future o fs) ∙ sym (kept.hall.each o e there).tied.alone

  pub stands_for : (e : KeptCell) → get es o ≡ Some e → StandsFor old.hall o e.cell
  stands_for e there = record {
    cell = cell_seen e;
    there = ap (λ (p : Part Cells). get p.hall.cells o) (sym view) ∙ seen-at cell_seen es o e there;
    value = refl;
    taken = refl;
    queue = refl;
    waits = refl;
    granted = ap (turns_in (cell_seen e)) own_seen ∙ turns_granted once e (own of_future o fs) (kept.hall.each o e there);
    runs = λ f w x keeps is shared. keeper_holds once e (own of_future o fs) (kept.hall.each o e there) e.running refl f w x keeps (sym (ap (λ m. get m f) own_seen) ∙ is) shared;
  }

  -- why a use of a cell is refused for who shares it, and for a new future
  pub use_cause : (p : Option KeptCell) → get es o ≡ p → borrowed_by (is_cell old.hall o) (alone_of old.hall o) ≡ borrowed_at (λ (e : KeptCell). e.alone) p
  use_cause = borrowed_is (cell_form once) es fs next view kept o (alone_of old.hall o) (λ e. e.alone) alone_are

  pub begin_cause : (errand : Errand) (p : Option KeptCell) → get es o ≡ p → borrowed_by (is_cell old.hall o) (in_the_way old.hall o errand) ≡ borrowed_at (λ (e : KeptCell). if is_alone errand then e.futures else e.alone) p
  begin_cause errand = borrowed_is (cell_form once) es fs next view kept o (in_the_way old.hall o errand) (λ e. if is_alone errand then e.futures else e.alone) (λ e is. so (is_alone errand) e is)
    where
      so : (b : Bool) (e : KeptCell) → get es o ≡ Some e → (if b then futures_of old.hall o else alone_of old.hall o) ≡ (if b then e.futures else e.alone)
      so true e is = sizes_are (cell_form once) es fs next view kept o e is
      so false e is = alone_are e is

-- ---- cells of one kind before event number i
abbrev pub site : (once : Bool) {old : Part Cells} {i : ℕ} (es : Names KeptCell) (fs : Names FutureEntry) (next : ℕ) → ◌≡◌ {A = Part Cells} (part_of (cell_form once) es fs next) old → ArePartKept (cell_form once) es fs next → old.next ≤ i → i < 2 ^ 64 → Site (cell_form once) old i
site once es fs next view kept later fits = record { laws = cell_laws once; es = es; fs = fs; next = next; view = view; kept = kept; later = rw (← view) at later; fits = fits }

abbrev pub new_entry : NamedCell → KeptCell
new_entry c = record { cell = c; running = None; futures = 0; alone = 0 }

module _ (once : Bool) {old : Part Cells} {i : ℕ} (s : Site (cell_form once) old i) where
  low_now : (o : ℕ) (e : KeptCell) → get s.es o ≡ Some e → AreBelow e.cell.waits.wakers (i + 1)
  low_now o e there = below_more e.cell.waits.wakers s.next (i + 1) (s.kept.low o e there) (let later = s.later in omega arith)

  -- ---- a cell is made
  pub made : (c : NamedCell) → IsNewCell c c.value → Rests s (λ h. act_in h i (Make c.value)) answers.Made (insert s.es i (new_entry c)) s.fs
  made c new =
      let queue : length c.permit.queue ≡ 0 = ap length new.queue in
      let waits : length c.waits.wakers ≡ 0 = ap length new.waits in
      makes s (new_entry c) (record { sound = new.sound; quiet = new.wakes; tied = new_tied once c c.value new }) refl (rw new.waits tt) (omega (arith, queue, waits)) (model.new_cell c.value)
      (λ j. record { value = c.value; taken = new.free j == 0; queue = who (names_in (new.queue j)); runner = []; waits = names_of (new.waits j) }) (λ h. act_in h i (Make c.value)) refl

  -- ---- a cell that is kept
  module _ (o : ℕ) (e : KeptCell) (there : get s.es o ≡ Some e) where
    pub few_alone : e.alone + 1 < 2 ^ 128
    few_alone =
        let tied = (its_kept s o e there).tied in
        omega (arith, tied.alone, tied.futures, few_futures s o e there, count-least (λ (x : FutureEntry). is_alone x.errand) (own of_future o s.fs))

    pub told_full : PartRests registered old i (act_in old.hall i (TellFull o)) (if is_some e.cell.value then answers.Yes else answers.No) (part_of (cell_form once) s.es s.fs (i + 1))
    told_full = tells s o e there (λ h. act_in h i (TellFull o)) _ (found_object s o e there _)

    pub told : PartRests registered old i (act_in old.hall i (Tell o)) (content e.cell.value) (part_of (cell_form once) s.es s.fs (i + 1))
    told = tells s o e there (λ h. act_in h i (Tell o)) _ (found_object s o e there _)

    -- ---- for who uses the whole cell
    module _ (alone : futures_of old.hall o ≡ 0) where
      nothing : e.futures ≡ 0
      nothing = sym (sizes_are (cell_form once) s.es s.fs s.next s.view s.kept o e there) ∙ alone

      pub is_idle : e.cell.permit.free ≡ 1
      is_idle = idle once e (own of_future o s.fs) (its_kept s o e there) nothing

      -- its value is used
      pub used : (u : WholeUse) (e' : KeptCell) → e' ≡ record e { cell = record e.cell { value = model.value_after u e.cell.value } } → IsSoundCell e'.cell → Rests s (λ h. act_in h i (Use o u)) (model.reply_to u e.cell.value) (insert s.es o e') s.fs
      used u e' is sound =
          let kept = its_kept s o e there in
          let d : KeptCell = record e { cell = record e.cell { value = model.value_after u e.cell.value } } in
          rw is (changes s o e there d (record {
            sound = subst (λ (e : KeptCell). IsSoundCell e.cell) is sound;
            quiet = kept.quiet;
            tied = record { linked = kept.tied.linked; held = kept.tied.held; runner = kept.tied.runner; each = kept.tied.each; single = kept.tied.single; futures = kept.tied.futures; alone = kept.tied.alone };
          }) refl (low_now o e there) refl (cell_seen d) refl (λ h. act_in h i (Use o u)) _ (found_object s o e there _))

      -- it is gone
      goes_out : (out : Cells → Outcome Cells) (reply : Answer) (before : Waking ℕ) → out (seen_all s) ≡ model.gone (seen_all s) o reply → keeps e ≤ before.registered → Yields s out reply (remove s.es o) s.fs before (record before { registered = before.registered - keeps e })
      goes_out out reply before is room = yields_as s out _ reply (remove s.es o) s.fs (goes_kept s o e there nothing) is refl (hall_without s o e there) before _ (sym (append-nil before.wakers)) (let all = kept_without s o e there in omega (arith, room, all))

      pub dropped : (before : Waking ℕ) → keeps e ≤ before.registered → Yields s (λ h. act_in h i (Drop o)) answers.Done (remove s.es o) s.fs before (record before { registered = before.registered - keeps e })
      dropped before room = goes_out (λ h. act_in h i (Drop o)) answers.Done before (found_object s o e there _) room

      pub taken_out : (before : Waking ℕ) → keeps e ≤ before.registered → Yields s (λ h. act_in h i (TakeOut o)) (content e.cell.value) (remove s.es o) s.fs before (record before { registered = before.registered - keeps e })
      taken_out before room = goes_out (λ h. act_in h i (TakeOut o)) (content e.cell.value) before (found_object s o e there _) room

    -- ---- a future of it is made
    pub begins_future : (x : FutureEntry) → x.cell ≡ o → x.stage ≡ New → x.wait ≡ None → fits once x.errand ≡ true → in_the_way old.hall o x.errand ≡ 0 → Rests s (λ h. act_in h i (Begin o x.errand)) answers.Made (insert s.es o (begun e x.errand)) (insert s.fs i x)
    begins_future x mine new unplaced fit free =
        let kept = its_kept s o e there in
        gets_future s o e there x (begun e x.errand) mine (record {
          sound = kept.sound;
          quiet = kept.quiet;
          tied = begins once e (own of_future o s.fs) i x kept.tied (own-none of_future o s.fs i (no_future s)) fit new unplaced (below_absent e.cell.waits.wakers s.next i (s.kept.low o e there) s.later)
              (λ alone. sym (sizes_are (cell_form once) s.es s.fs s.next s.view s.kept o e there) ∙ whole alone) (λ shares. sym (alone_are once s.es s.fs s.next s.view s.kept o e there) ∙ shared shares);
        }) (omega arith) (low_now o e there) refl refl (record { cell = o; errand = x.errand; polled = false }) (λ j. record { cell = mine j; errand = x.errand; polled = ap is_polled new j }) (λ h. act_in h i (Begin o x.errand)) refl
      where
        whole : is_alone x.errand ≡ true → futures_of old.hall o ≡ 0
        whole alone = sym (ap (λ b. if b then futures_of old.hall o else alone_of old.hall o) alone) ∙ free

        shared : is_alone x.errand ≡ false → alone_of old.hall o ≡ 0
        shared shares = sym (ap (λ b. if b then futures_of old.hall o else alone_of old.hall o) shares) ∙ free

  -- ---- a future of a cell makes a step
  module _ (f : ℕ) (x : FutureEntry) (e : KeptCell) (future : get s.fs f ≡ Some x) (there : get s.es x.cell ≡ Some e) where
    abbrev pub stands_there : Stands once e f x
    stands_there = record {
      fs = own of_future x.cell s.fs;
      n = s.next;
      kept = s.kept.hall.each x.cell e there;
      there = own-at of_future x.cell s.fs f x future refl;
      below = λ g y is. (s.kept.hall.firsts.at g y (own-had of_future x.cell s.fs g y is).0).0;
      low = s.kept.low x.cell e there;
    }

    by_step : (p : Option FutureEntry) (step : Step) (answer : Answer) (e' : KeptCell) (before after : Waking ℕ) → Stepped once e (own of_future x.cell s.fs) s.next f x.cell p step answer e' before after
        → (out : Cells → Outcome Cells) → out (seen_all s) ≡ model.applied (seen_all s) f x.cell step → Yields s out answer (insert s.es x.cell e') (turned_to s.fs f p) before after
    by_step p step answer e' before after it = steps s f x e future there p e' it.mine it.kept it.few (below_more e'.cell.waits.wakers s.next (i + 1) it.low (let later = s.later in omega arith))
        step.cell step.future step.reply step.wakes answer before after it.replied it.cell it.future it.woken it.counted

    pub polled : (w : ℕ) (b : Bool) (y : FutureEntry) (answer : Answer) (e' : KeptCell) (before after : Waking ℕ) → ((st : Stands once e f x) → Stepped once e st.fs st.n f x.cell (left_by b y) (model.poll f w (future_seen x) (cell_seen e)) answer e' before after)
        → Yields s (λ h. act_in h i (Poll f w)) answer (insert s.es x.cell e') (if b then remove (insert s.fs f y) f else insert s.fs f y) before after
    polled w b y answer e' before after stepped = rw (left_turned s f b y) (by_step (left_by b y) _ answer e' before after (stepped stands_there) (λ h. act_in h i (Poll f w)) (found_both s f x e future there (λ x c. model.applied (seen_all s) f x.cell (model.poll f w x c))))

    pub settled_part : (r : Initialiser) (y : FutureEntry) (e' : KeptCell) (before after : Waking ℕ) → ((st : Stands once e f x) → Stepped once e st.fs st.n f x.cell (Some y) (model.settle f r (future_seen x) (cell_seen e)) answers.Done e' before after)
        → Yields s (λ h. act_in h i (Settle f r)) answers.Done (insert s.es x.cell e') (insert s.fs f y) before after
    settled_part r y e' before after stepped = by_step (Some y) _ answers.Done e' before after (stepped stands_there) (λ h. act_in h i (Settle f r)) (found_both s f x e future there (λ x c. model.applied (seen_all s) f x.cell (model.settle f r x c)))

    pub ended : (e' : KeptCell) (before after : Waking ℕ) → ((st : Stands once e f x) → Stepped once e st.fs st.n f x.cell None (model.end f (future_seen x) (cell_seen e)) answers.Done e' before after)
        → Yields s (λ h. act_in h i (End f)) answers.Done (insert s.es x.cell e') (remove s.fs f) before after
    ended e' before after stepped = by_step None _ answers.Done e' before after (stepped stands_there) (λ h. act_in h i (End f))
        (found_future s f x e future there (λ x. model.end_at (seen_all s) f x (get (seen cell_seen s.es) x.cell)) ∙ ap (model.end_at (seen_all s) f (future_seen x)) (seen-at cell_seen s.es x.cell e there))

    -- a look at a future and its cell changes nothing
    pub looked : ArePartKept (cell_form once) (insert s.es x.cell e) (insert s.fs f x) s.next × (part_of (cell_form once) (insert s.es x.cell e) (insert s.fs f x) s.next ≡ old)
    looked = rw (insert_same s.es x.cell e there, insert_same s.fs f x future) (s.kept, s.view)

    -- a settled initialiser fits
    pub fits_settled : (r : Initialiser) → FitsSettled once r → fits once (settled r x.errand) ≡ true
    fits_settled r fit = at x.errand ((stands_there.kept.tied.each f x stands_there.there).fits)
      where
        at : (j : Errand) → fits once j ≡ true → fits once (settled r j) ≡ true
        at (Calls q) is = by_kind once refl is
          where
            by_kind : (b : Bool) → once ≡ b → cond b (gives_nothing q) false ≡ true → cond b (gives_nothing r) false ≡ true
            by_kind true it is = fit it
            by_kind false it is = absurd (cc)
        at (Computes q) is = is
        at (Alone q) is = is
        at (Sets v) is = is
        at (Inserts v) is = is
        at Awaits is = is
