-- what is done to an initialiser that keeps a waker, and polls of those that do not ask for a turn
use Rattle.std.proofs.Common.{◌≡◌, ℕ, ◌+◌, ◌-◌, ◌≤◌, ◌==◌, ◌++◌, Bool, true, false, not, cond, length, List, [], ◌∷◌, map, Option, Some, None, is_some, option_to_list, refl, ap, sym, subst, ◌∙◌, arith, append-nil, if◌then◌else◌}
use Rattle.std.specs.FinMap.{get, insert, remove, empty}
use Rattle.std.proofs.lemmas.Bool.{eqb-true}
use Rattle.mea_family.specs.declared.answer.Answer.{Answer}
use Rattle.mea_family.specs.declared.answer.Answer.TheVariants as answers
use Rattle.mea_base.specs.Ready.{Waking}
use Rattle.mea_base.proofs.Maps.{by_put, get-gone, removed_there, inside, value_in}
use Rattle.mea_base.proofs.Totals.{total-empty}
use Rattle.mea_by_name.specs.declared.named_waker.NamedWaker.{NamedWaker}
use Rattle.mea_by_name.specs.ByName.{seen, count}
use Rattle.mea_by_name.specs.NamedQueue.{Waiting, waits, waker_for, with_waker, without, registering, wakers}
use Rattle.mea_by_name.specs.LackingQueue.{who}
use Rattle.mea_by_name.proofs.Cases.{if_true, if_false}
use Rattle.mea_by_name.proofs.Own.{insert_same, seen-at, seen-back, seen-insert, count-gone}
use Rattle.mea_sem_core.specs.declared.acquire.Acquire.TheVariants as acquire
use Rattle.mea_sem_core.specs.Core.{held_of}
use Rattle.mea_sets.specs.declared.place.Place.{Place}
use Rattle.mea_sets.specs.WaitSet as sets
use Rattle.mea_sets.specs.WaitSet.{slot_after}
use Rattle.mea_cores_by_name.specs.Linked.{names_in, Linked}
use Rattle.mea_cores_by_name.specs.SetLinked.{SlotIs, SetLinked, names_of, set_names}
use Rattle.mea_cores_by_name.proofs.Linking.{linked_gone}
use Rattle.mea_cores_by_name.proofs.Sets.{registered_names, registered_links, length-set_names}
use Rattle.mea_once_core.specs.declared.cell_stage.CellStage.{CellStage}
use Rattle.mea_once_core.specs.declared.cell_stage.CellStage.TheVariants.{New, Queued, Running, Done}
use Rattle.mea_once_model.specs.declared.errand.Initialiser.{Initialiser}
use Rattle.mea_once_model.specs.declared.errand.Initialiser.TheVariants.{Unsettled, Gives, Fails}
use Rattle.mea_once_model.specs.declared.errand.Errand.{Errand}
use Rattle.mea_once_model.specs.declared.errand.Errand.TheVariants.{Calls, Alone, Awaits}
use Rattle.mea_once_model.specs.Cells as model
use Rattle.mea_once_model.specs.Cells.{Cell, Step, init_of, is_alone, settled}
use Rattle.mea_once.specs.declared.future_entry.FutureEntry.{FutureEntry}
use Rattle.mea_once.specs.declared.poll_reply.PollReply.{PollReply}
use Rattle.mea_once.specs.Cores.{NamedCell, IsSoundCell, WaitsCell}
use Rattle.mea_once.specs.Entries.{KeptCell, finished, stopped, waking, runs, of_running, keeps, HandsOn, RanAlone, left_by}
use Rattle.mea_once.specs.Parts.{is_polled, cell_seen, future_seen, runner_of, is_caller, is_wait, fits, acquire_at, acquire_of, runs_at, is_running, StageFits, IsFuture, MayRun, Tied, Stands, Stepped}
use Rattle.mea_once.proofs.OneCell.{free_where, holds_none, nobody_queued, runner_waits, runner_without, unqueued, runs_may, runs_not, keeps_waker, nobody_runs, held_few, changed}
use Rattle.mea_once.proofs.Steps.{Makes, handed, out_of_queue, out_of_waits, caller_is, goes, all_set, empty_is}

-- ---- an initialiser that keeps a waker
runner_with : (r : Option NamedWaker) (f w : ℕ) → runs r f ≡ true → with_waker (runner_of r) f w ≡ (f, w) ∷ []
runner_with None f w is = absurd (cc)
runner_with (Some k) f w is = λ i. (eqb-true k.name f is i, ap (λ b. cond b w k.waker) is i) ∷ []

one_runs : (r : Option NamedWaker) (f : ℕ) → runs r f ≡ true → of_running r ≡ 1
one_runs None f is = absurd (cc)
one_runs (Some k) f is = refl

module _ (once : Bool) (e : KeptCell) (f : ℕ) (x : FutureEntry) (s : Stands once e f x) where
  -- who may have an initialiser that was polled does not wait for its turn
  runner_out : MayRun x → waits (cell_seen e).queue f ≡ false
  runner_out may = at x.stage refl
    where
      not_queued : (n : ℕ) → x.stage ≡ Queued n → (b : Bool) → is_caller x.errand ≡ b → StageFits b (Queued n) → ⊥
      not_queued n is true caller is_it = absurd (let shares = (caller_is once e f x s x.errand caller).1 in let idle : is_running x ≡ false = ap runs_at is in
          let no_turn : cond (is_alone x.errand) true (is_running x) ≡ false = ap (λ b. cond b true (is_running x)) shares ∙ idle in cc)
      not_queued n is false caller is_it = is_it

      at : (t : CellStage) → x.stage ≡ t → waits (cell_seen e).queue f ≡ false
      at New is = out_of_queue once e f x s New is (λ n same. absurd (cc))
      at (Queued n) is = absurd (not_queued n is (is_caller x.errand) refl (subst (StageFits (is_caller x.errand)) is ((s.kept.tied.each f x s.there).stage)))
      at Running is = out_of_queue once e f x s Running is (λ n same. absurd (cc))
      at Done is = out_of_queue once e f x s Done is (λ n same. absurd (cc))

  -- it is polled again
  pub rewakes : (w : ℕ) (before : Waking ℕ) → runs e.running f ≡ true
      → Stepped once e s.fs s.n f x.cell (Some x) (model.poll f w (future_seen x) (cell_seen e)) answers.Pending (record e { running = Some (record { name = f; waker = w }) }) before before
  rewakes w before run =
      let may = runs_may once e s.fs s.kept.tied f x s.there run in
      let polled : model.poll f w (future_seen x) (cell_seen e) ≡ model.pends (future_seen x) (record (cell_seen e) { runner = with_waker (runner_of e.running) f w }) =
      if_false (waits (cell_seen e).queue f) _ _ (runner_out may) ∙ if_true (waits (runner_of e.running) f) _ _ (runner_waits e.running f ∙ run) in
      rw polled (record {
        replied = refl;
        cell = λ i. record (cell_seen e) { runner = sym (runner_with e.running f w run) i };
        future = refl;
        mine = refl;
        woken = sym (append-nil before.wakers);
        counted = omega (arith, one_runs e.running f run);
        kept = record { sound = s.kept.sound; quiet = s.kept.quiet; tied = rw (insert_same s.fs f x s.there) (keeps_waker once e s.fs s.kept.tied f x s.there (record { name = f; waker = w }) refl may) };
        few = omega arith;
        low = s.low;
      })

  -- ---- it is settled
  waking_more : (r : Option NamedWaker) (before : Waking ℕ) → (waking r f before).wakers ≡ before.wakers ++ option_to_list (waker_for (runner_of r) f)
  waking_more None before = sym (append-nil before.wakers)
  waking_more (Some k) before = elim (k.name == f) as (λ b. (cond b (record { wakers = before.wakers ++ k.waker ∷ []; registered = before.registered - 1 }) before).wakers ≡ before.wakers ++ option_to_list (cond b (Some k.waker) None)) [
    | true ↦ refl
    | false ↦ sym (append-nil before.wakers)
  ]

  waking_less : (r : Option NamedWaker) (before : Waking ℕ) → of_running r ≤ before.registered → (waking r f before).registered + of_running r ≡ before.registered + of_running (cond (runs r f) None r)
  waking_less None before room = refl
  waking_less (Some k) before room = elim (k.name == f) as (λ b. (cond b (record { wakers = before.wakers ++ k.waker ∷ []; registered = before.registered - 1 }) before).registered + 1 ≡ before.registered + of_running (cond b None (Some k))) [
    | true ↦ omega (arith, room)
    | false ↦ refl
  ]

  settled_as : (r : Initialiser) (j : Errand) → (is_alone (settled r j) ≡ is_alone j) × (is_caller (settled r j) ≡ is_caller j) × (is_wait (settled r j) ≡ is_wait j)
  settled_as r (Calls i) = (refl, refl, refl)
  settled_as r _ = (refl, refl, refl)

  module _ (r : Initialiser) (fit : fits once (settled r x.errand) ≡ true) where
    abbrev y : FutureEntry
    y = record x { errand = settled r x.errand }

    kept_runner : (k : NamedWaker) (q : Option NamedWaker) → e.running ≡ q → cond (runs q f) None q ≡ Some k → e.running ≡ Some k
    kept_runner k None is it = absurd (cc)
    kept_runner k (Some j) is it = at (j.name == f) it
      where
        at : (b : Bool) → cond b None (Some j) ≡ Some k → e.running ≡ Some k
        at true it = absurd (cc)
        at false it = is ∙ it

    tied_settled : Tied once (stopped e f) (insert s.fs f y)
    tied_settled = changed once e s.fs s.kept.tied f x s.there e.cell (cond (runs e.running f) None e.running) y (settled_as r x.errand).0 (rw (insert_same (seen acquire_of s.fs) f (acquire_of x) (seen-at acquire_of s.fs f x s.there)) s.kept.tied.linked) refl
        (λ k is. kept_runner k e.running refl is) (λ may. ap (λ b. cond b true (is_running x)) (settled_as r x.errand).0 ∙ may)
        (by_put s.fs f y (λ g o. (z : FutureEntry) → o ≡ Some z → IsFuture once e.cell.waits g z)
        (λ z is. subst (IsFuture once e.cell.waits f) (inside is) (let it = s.kept.tied.each f x s.there in
        record { fits = fit; stage = subst (λ b. StageFits b x.stage) (sym (settled_as r x.errand).1) it.stage; slot = it.slot; place = λ none. it.place (sym (settled_as r x.errand).2 ∙ none) }))
        (λ g apart z is. s.kept.tied.each g z is))

    pub settles : (before : Waking ℕ) → keeps e ≤ before.registered → Stepped once e s.fs s.n f x.cell (Some y) (model.settle f r (future_seen x) (cell_seen e)) answers.Done (stopped e f) before (waking e.running f before)
    settles before room = record {
      replied = refl;
      cell = λ i. record (cell_seen e) { runner = sym (runner_without e.running f) i };
      future = refl;
      mine = refl;
      woken = waking_more e.running before;
      counted = omega (arith, waking_less e.running before (omega (arith, room)));
      kept = record { sound = s.kept.sound; quiet = s.kept.quiet; tied = tied_settled };
      few = omega arith;
      low = s.low;
    }

  -- ---- a wait
  -- what is so of it, and what it is told of a full cell
  wait_is : (j : Errand) → is_wait j ≡ true → (is_alone j ≡ false) × (is_caller j ≡ false) × ((v : ℕ) → model.found_full j v ≡ answers.Ready) × ((w : ℕ) (c : Cell) → model.start_in f w (future_seen x) c j ≡ model.awaits f w (future_seen x) c)
  wait_is Awaits is = (refl, refl, λ v. refl, λ w c. refl)
  wait_is _ is = absurd (cc)

  alone_is : (j : Errand) → is_alone j ≡ true
      → (is_caller j ≡ false) × (is_wait j ≡ false) × ((v : ℕ) → model.found_full j v ≡ answers.Value v) × ((v : ℕ) → model.has_filled j v ≡ answers.Value v) × ((w : ℕ) (c : Cell) → model.start_in f w (future_seen x) c j ≡ model.run f w (future_seen x) c (init_of j))
  alone_is (Alone r) is = (refl, refl, λ v. refl, λ v. refl, λ w c. refl)
  alone_is _ is = absurd (cc)

  -- who does not ask for a turn is in no stage of it
  at_first : is_caller x.errand ≡ false → x.stage ≡ New
  at_first none = at x.stage refl (subst (λ b. StageFits b x.stage) none ((s.kept.tied.each f x s.there).stage))
    where
      at : (t : CellStage) → x.stage ≡ t → StageFits false t → x.stage ≡ New
      at New is it = is
      at (Queued n) is it = absurd it
      at Running is it = absurd it
      at Done is it = absurd it

  wait_idle : is_wait x.errand ≡ true → runs e.running f ≡ false
  wait_idle wait = runs_not once e s.fs s.kept.tied f x s.there (wait_is x.errand wait).0 (ap runs_at (at_first (wait_is x.errand wait).1))

  first_out : is_caller x.errand ≡ false → waits (cell_seen e).queue f ≡ false
  first_out none = out_of_queue once e f x s New (at_first none) (λ n same. absurd (cc))

  no_waits : (ks : List NamedWaker) → length ks ≡ 0 → names_of ks ≡ []
  no_waits [] is = refl
  no_waits (k ∷ ks) is = absurd (omega (arith, is))

  quiet_length : length e.cell.permit.wakes ≡ 0
  quiet_length = ap length s.kept.quiet

  module _ (w : ℕ) (wait : is_wait x.errand ≡ true) where
    abbrev k : NamedWaker
    k = record { name = f; waker = w }

    abbrev Polls : Step
    Polls = model.poll f w (future_seen x) (cell_seen e)

    not_new : is_polled x.stage ≡ false
    not_new = ap is_polled (at_first (wait_is x.errand wait).1)

    in_neither : Polls ≡ (if waits (set_names e.cell.waits) f then model.awaits f w (future_seen x) (cell_seen e) else if is_polled x.stage then model.take_turn f w (future_seen x) (cell_seen e) e.cell.value else model.start f w (future_seen x) (cell_seen e) e.cell.value)
    in_neither = if_false (waits (cell_seen e).queue f) _ _ (first_out (wait_is x.errand wait).1) ∙ if_false (waits (runner_of e.running) f) _ _ (runner_waits e.running f ∙ wait_idle wait)

    -- the cell is full
    waits_over : is_some e.cell.value ≡ true → (is_some e.cell.value ≡ true → length e.cell.waits.wakers ≡ 0) → Makes once e s.fs s.n f x.cell 1 answers.Ready None Polls (finished (stopped e f) x.errand)
    waits_over full drained =
        let it = value_in e.cell.value full in
        let told : Polls ≡ model.leaves (cell_seen e) answers.Ready [] =
        in_neither ∙ if_false (waits (set_names e.cell.waits) f) _ _ (ap (λ q. waits q f) (no_waits e.cell.waits.wakers (drained full))) ∙ if_false (is_polled x.stage) _ _ not_new ∙ ap (model.start f w (future_seen x) (cell_seen e)) it.1
        ∙ ap (λ a. model.leaves (cell_seen e) a []) ((wait_is x.errand wait).2 it.0) in
        rw told (goes once e f x s e.cell 1 (model.leaves (cell_seen e) answers.Ready []) answers.Ready refl refl s.kept.sound
        (linked_gone e.cell.permit.queue e.cell.permit.granted (seen acquire_of s.fs) s.kept.tied.linked f (unqueued once e s.fs s.kept.tied f x s.there New (at_first (wait_is x.errand wait).1) (λ n same. absurd (cc))))
        (let none : ◌≡◌ {A = ℕ} (cond (is_running x) 1 0) 0 = ap (λ s. cond (runs_at s) 1 0) (at_first (wait_is x.errand wait).1) in omega (arith, none)) (λ g y is. (s.kept.tied.each g y is).slot) s.low
        (λ i. record (cell_seen e) { runner = ap (λ b. runner_of (cond b None e.running)) (wait_idle wait) i }) (ap (λ (ks : List NamedWaker). map (λ (k : NamedWaker). k.waker) ks) s.kept.quiet) (omega (arith, quiet_length)))

    -- it is not
    module _ (empty : is_some e.cell.value ≡ false) where
      abbrev place_of : FutureEntry → Option Place
      place_of y = y.wait

      abbrev z : FutureEntry
      z = record x { wait = slot_after e.cell.waits x.wait }

      abbrev c : NamedCell
      c = record e.cell { waits = sets.with_waker e.cell.waits x.wait k }

      its_place : get (seen place_of s.fs) f ≡ Some x.wait
      its_place = seen-at place_of s.fs f x s.there

      links : SetLinked c.waits (insert (seen place_of s.fs) f (slot_after e.cell.waits x.wait)) s.n
      links = registered_links e.cell.waits (seen place_of s.fs) s.n f w x.wait (all_set once e f x s) its_place

      slots : (g : ℕ) (y : FutureEntry) → get (insert s.fs f z) g ≡ Some y → SlotIs c.waits g y.wait
      slots g y is = (links.each g y.wait (ap (λ m. get m g) (sym (seen-insert place_of s.fs f z)) ∙ seen-at place_of (insert s.fs f z) g y is)).1

      tied_waits : Tied once (record e { cell = c }) (insert s.fs f z)
      tied_waits = changed once e s.fs s.kept.tied f x s.there c e.running z refl (rw (insert_same (seen acquire_of s.fs) f (acquire_of x) (seen-at acquire_of s.fs f x s.there)) s.kept.tied.linked) refl (λ j is. is) (λ may. may)
          (λ g y is. by_put s.fs f z (λ g o. (y : FutureEntry) → o ≡ Some y → SlotIs c.waits g y.wait → IsFuture once c.waits g y)
          (λ y is slot. subst (λ y. SlotIs c.waits f y.wait → IsFuture once c.waits f y) (inside is) (λ slot. let it = s.kept.tied.each f x s.there in record { fits = it.fits; stage = it.stage; slot = slot; place = λ none. absurd (cc) }) slot)
          (λ g apart y is slot. let it = s.kept.tied.each g y is in record { fits = it.fits; stage = it.stage; slot = slot; place = it.place }) g y is (slots g y is))

      length_registering : (q : Waiting) → length (registering q f w) ≤ length q + 1
      length_registering [] = omega arith
      length_registering (v ∷ q) = elim (v.0 == f) as (λ b. length (cond b ((v.0, w) ∷ q) (v ∷ registering q f w)) ≤ length (v ∷ q) + 1) [ true ↦ omega arith | false ↦ omega (arith, length_registering q) ]

      pub waits_make : IsSoundCell c → Makes once e s.fs s.n f x.cell 1 answers.Pending (Some z) Polls (record e { cell = c })
      waits_make sound =
          let names : set_names c.waits ≡ registering (set_names e.cell.waits) f w = registered_names e.cell.waits (seen place_of s.fs) s.n f w x.wait (all_set once e f x s) its_place in
          let none : e.cell.value ≡ None = empty_is once e f x s e.cell.value empty in
          let later : (if is_polled x.stage then model.take_turn f w (future_seen x) (cell_seen e) e.cell.value else model.start f w (future_seen x) (cell_seen e) e.cell.value) ≡ model.awaits f w (future_seen x) (cell_seen e) =
          if_false (is_polled x.stage) _ _ not_new ∙ ap (model.start f w (future_seen x) (cell_seen e)) none ∙ (wait_is x.errand wait).3 w (cell_seen e) in
          let told : Polls ≡ model.awaits f w (future_seen x) (cell_seen e) = in_neither ∙ either (waits (set_names e.cell.waits) f) (model.awaits f w (future_seen x) (cell_seen e)) _ later in
          rw told (record {
            replied = refl;
            cell = λ i. record (cell_seen e) { waits = names i };
            future = refl;
            mine = refl;
            woken = ap (λ (ks : List NamedWaker). map (λ (k : NamedWaker). k.waker) ks) s.kept.quiet;
            sound = sound;
            tied = tied_waits;
            few = omega arith;
            low = links.below;
            fit =
                let long : length c.waits.wakers ≡ length (registering (set_names e.cell.waits) f w) = sym (length-set_names c.waits.wakers) ∙ ap (λ (q : Waiting). length q) names in
                omega (arith, quiet_length, long, length_registering (set_names e.cell.waits), length-set_names e.cell.waits.wakers);
          })
        where
          either : (b : Bool) (a o : Step) → o ≡ a → (if b then a else o) ≡ a
          either true a o same = refl
          either false a o same = same

  -- ---- a future that uses its cell alone
  module _ (w : ℕ) (alone : is_alone x.errand ≡ true) (idle : runs e.running f ≡ false) where
    abbrev j : NamedWaker
    j = record { name = f; waker = w }

    abbrev Alone_polls : Step
    Alone_polls = model.poll f w (future_seen x) (cell_seen e)

    first_stage : x.stage ≡ New
    first_stage = at_first (alone_is x.errand alone).0

    alone_starts : Alone_polls ≡ model.start f w (future_seen x) (cell_seen e) e.cell.value
    alone_starts = if_false (waits (cell_seen e).queue f) _ _ (first_out (alone_is x.errand alone).0) ∙ if_false (waits (runner_of e.running) f) _ _ (runner_waits e.running f ∙ idle)
        ∙ if_false (waits (set_names e.cell.waits) f) _ _ (out_of_waits once e f x s (alone_is x.errand alone).1) ∙ if_false (is_polled x.stage) _ _ (ap is_polled first_stage)

    alone_no_number : Linked e.cell.permit.queue e.cell.permit.granted (remove (seen acquire_of s.fs) f)
    alone_no_number = linked_gone e.cell.permit.queue e.cell.permit.granted (seen acquire_of s.fs) s.kept.tied.linked f (unqueued once e s.fs s.kept.tied f x s.there New first_stage (λ n same. absurd (cc)))

    its_may : MayRun x
    its_may = ap (λ b. cond b true (is_running x)) alone

    no_runner : e.running ≡ None
    no_runner = nobody_runs once e s.fs s.kept.tied f x s.there idle its_may (held_few e.cell.permit s.kept.sound.permit)

    no_turn : ◌≡◌ {A = ℕ} (cond (is_running x) 1 0) 0
    no_turn = ap (λ s. cond (runs_at s) 1 0) first_stage

    -- no other future is there, so nobody waits for a turn, or has it
    no_number : (g d n : ℕ) → get (seen acquire_of s.fs) g ≡ Some (acquire.Queued d n) → ⊥
    no_number g d n is =
        let had = seen-back acquire_of s.fs g (acquire.Queued d n) is in
        let mine : f ≡ g = s.kept.tied.single f g x had.0 s.there had.1 alone in
        let it : x ≡ had.0 = inside (sym s.there ∙ ap (get s.fs) mine ∙ had.1) in
        absurd (let new : acquire_of had.0 ≡ acquire.New 1 = ap acquire_of (sym it) ∙ ap acquire_at first_stage in let queued = had.2 in cc)

    none_queued : e.cell.permit.queue ≡ []
    none_queued = nobody_queued e.cell.permit.queue (seen acquire_of s.fs) s.kept.sound.permit.asks s.kept.tied.linked.waits no_number

    none_granted : e.cell.permit.granted ≡ empty
    none_granted = holds_none e.cell.permit.granted (λ n d is. let one = s.kept.tied.linked.owned n d is in no_number one.0 d n one.1)

    none_has_it : held_of e.cell.permit ≡ 0
    none_has_it =
        let others : remove s.fs f ≡ empty = holds_none (remove s.fs f) alone_there in
        let rest : count is_running (remove s.fs f) ≡ 0 = ap (count is_running) others ∙ total-empty (λ k (x : FutureEntry). cond (is_running x) 1 0) in
        omega (arith, s.kept.tied.held, no_turn, rest, count-gone s.fs f is_running x s.there)
      where
        alone_there : (g : ℕ) (y : FutureEntry) → get (remove s.fs f) g ≡ Some y → ⊥
        alone_there g y is = absurd (let mine : f ≡ g = s.kept.tied.single f g x y s.there (removed_there s.fs f g y is) alone in let none = ap (get (remove s.fs f)) (sym mine) ∙ get-gone s.fs f in cc)

    pub alone_free : e.cell.permit.free ≡ 1
    alone_free = free_where e.cell.permit s.kept.sound.permit none_queued none_granted none_has_it

    -- it answers by what its initialiser comes to
    alone_told : (v : Option ℕ) → e.cell.value ≡ v → Alone_polls ≡ model.start f w (future_seen x) (cell_seen e) v
    alone_told v is = alone_starts ∙ ap (model.start f w (future_seen x) (cell_seen e)) is

    -- nobody waits until the cell is full, since it is none that runs once
    module _ (none_waits : length e.cell.waits.wakers ≡ 0) where
      abbrev Gone : NamedCell → KeptCell
      Gone c = finished (stopped (record e { cell = c }) f) x.errand

      -- it is gone, and the cell has this value
      alone_leaves : (v : Option ℕ) (step : Step) (answer : Answer) → answer ≡ step.reply → step.future ≡ None → step.wakes ≡ []
          → record (cell_seen e) { value = v; runner = [] } ≡ step.cell → IsSoundCell (record e.cell { value = v }) → Makes once e s.fs s.n f x.cell 1 answer None step (Gone (record e.cell { value = v }))
      alone_leaves v step answer replied future silent cell sound =
          goes once e f x s (record e.cell { value = v }) 1 step answer replied future sound alone_no_number (omega (arith, no_turn)) (λ g y is. (s.kept.tied.each g y is).slot) s.low
          ((λ i. record (cell_seen e) { value = v; runner = ap (λ r. runner_of (cond (runs r f) None r)) no_runner i }) ∙ cell)
          (ap (λ (ks : List NamedWaker). map (λ (k : NamedWaker). k.waker) ks) s.kept.quiet ∙ sym silent) (omega (arith, quiet_length))

      -- a cell of which nobody else is
      no_more : model.passed (cell_seen e).queue (record (cell_seen e) { runner = without (runner_of e.running) f }) ≡ record (cell_seen e) { runner = [] }
      no_more =
          (λ i. model.passed (who (names_in (none_queued i))) (record (cell_seen e) { queue = who (names_in (none_queued i)); runner = (runner_without e.running f ∙ ap (λ r. runner_of (cond (runs r f) None r)) no_runner) i }))
          ∙ (λ i. record (cell_seen e) { taken = sym (ap (λ n. n == 0) alone_free) i; queue = who (names_in (sym none_queued i)); runner = [] })

      pub alone_full : (v : ℕ) → e.cell.value ≡ Some v → Makes once e s.fs s.n f x.cell 1 (answers.Value v) None Alone_polls (Gone e.cell)
      alone_full v is = rw (alone_told (Some v) is ∙ ap (λ a. model.leaves (cell_seen e) a []) ((alone_is x.errand alone).2 v))
          (alone_leaves e.cell.value (model.leaves (cell_seen e) (answers.Value v) []) (answers.Value v) refl refl refl (λ i. record (cell_seen e) { runner = runner_of (sym no_runner i) }) s.kept.sound)

      pub alone_made : (v : ℕ) → e.cell.value ≡ None → init_of x.errand ≡ Gives v → IsSoundCell (record e.cell { value = Some v }) → Makes once e s.fs s.n f x.cell 1 (answers.Value v) None Alone_polls (Gone (record e.cell { value = Some v }))
      alone_made v is gives sound =
          let told : Alone_polls ≡ model.leaves (model.filled f v (cell_seen e)) (answers.Value v) (wakers (set_names e.cell.waits) ++ model.woken_next (cell_seen e).queue) =
          alone_told None is ∙ (alone_is x.errand alone).4 w (cell_seen e) ∙ ap (model.run f w (future_seen x) (cell_seen e)) gives ∙ ap (λ a. model.leaves (model.filled f v (cell_seen e)) a (wakers (set_names e.cell.waits) ++ model.woken_next (cell_seen e).queue)) ((alone_is x.errand alone).3 v) in
          rw told (alone_leaves (Some v) (model.leaves (model.filled f v (cell_seen e)) (answers.Value v) (wakers (set_names e.cell.waits) ++ model.woken_next (cell_seen e).queue)) (answers.Value v) refl refl
          (λ i. wakers (no_waits e.cell.waits.wakers none_waits i) ++ model.woken_next (who (names_in (none_queued i))))
          (sym ((λ i. model.passed (who (names_in (none_queued i))) (record (cell_seen e) { value = Some v; queue = who (names_in (none_queued i)); runner = (runner_without e.running f ∙ ap (λ r. runner_of (cond (runs r f) None r)) no_runner) i; waits = sym (no_waits e.cell.waits.wakers none_waits) i }))
          ∙ (λ i. record (cell_seen e) { value = Some v; taken = sym (ap (λ n. n == 0) alone_free) i; queue = who (names_in (sym none_queued i)); runner = [] }))) sound)

      pub alone_failed : (z : ℕ) → e.cell.value ≡ None → init_of x.errand ≡ Fails z → Makes once e s.fs s.n f x.cell 1 (answers.Failure z) None Alone_polls (Gone e.cell)
      alone_failed z is fails =
          let told : Alone_polls ≡ model.leaves (model.given_up f (cell_seen e)) (answers.Failure z) (model.woken_next (cell_seen e).queue) =
          alone_told None is ∙ (alone_is x.errand alone).4 w (cell_seen e) ∙ ap (model.run f w (future_seen x) (cell_seen e)) fails in
          rw told (alone_leaves e.cell.value (model.leaves (model.given_up f (cell_seen e)) (answers.Failure z) (model.woken_next (cell_seen e).queue)) (answers.Failure z) refl refl
          (λ i. model.woken_next (who (names_in (none_queued i)))) (sym no_more) s.kept.sound)

    pub alone_pends : e.cell.value ≡ None → init_of x.errand ≡ Unsettled → Makes once e s.fs s.n f x.cell 1 answers.Pending (Some x) Alone_polls (record e { running = Some j })
    alone_pends is opened =
        let told : Alone_polls ≡ model.pends (record (future_seen x) { polled = not (is_alone x.errand) }) (record (cell_seen e) { runner = runner_of e.running ++ (f, w) ∷ [] }) =
        alone_told None is ∙ (alone_is x.errand alone).4 w (cell_seen e) ∙ ap (model.run f w (future_seen x) (cell_seen e)) opened in
        rw told (record {
          replied = refl;
          cell = λ i. record (cell_seen e) { runner = runner_of (sym no_runner i) ++ (f, w) ∷ [] };
          future = λ i. Some (record { cell = x.cell; errand = x.errand; polled = (ap is_polled first_stage ∙ ap not (sym alone)) i });
          mine = refl;
          woken = ap (λ (ks : List NamedWaker). map (λ (k : NamedWaker). k.waker) ks) s.kept.quiet;
          sound = s.kept.sound;
          tied = rw (insert_same s.fs f x s.there) (keeps_waker once e s.fs s.kept.tied f x s.there j refl its_may);
          few = omega arith;
          low = s.low;
          fit = omega (arith, quiet_length);
        })

-- ---- the calls of the entry
pub wait_fits : (once : Bool) (e : KeptCell) (f w : ℕ) (x : FutureEntry) (over : Bool) (c : NamedCell) (slot : Option Place) (e2 : KeptCell) (more : ℕ) → Stands once e f x → is_wait x.errand ≡ true → (is_some e.cell.value ≡ true → length e.cell.waits.wakers ≡ 0)
    → WaitsCell e.cell x.wait (record { name = f; waker = w }) over c slot → IsSoundCell c → e2 ≡ cond over (finished (stopped (record e { cell = c }) f) x.errand) (record e { cell = c }) → more ≡ keeps e + 1 → keeps e2 + length e2.cell.permit.wakes ≤ more
wait_fits once e f w x true c slot e2 more s wait drained is sound made all = rw (made, all, is.1) (waits_over once e f x s w wait is.0 drained).fit
wait_fits once e f w x false c slot e2 more s wait drained is sound made all = rw (made, all, is.1) (waits_make once e f x s w wait is.0 (rw is.1 at sound)).fit

pub wait_steps : (once : Bool) (e : KeptCell) (f w : ℕ) (x : FutureEntry) (over : Bool) (c : NamedCell) (slot : Option Place) (e2 new : KeptCell) (more : ℕ) (before ready after : Waking ℕ) (s : Stands once e f x) → is_wait x.errand ≡ true → (is_some e.cell.value ≡ true → length e.cell.waits.wakers ≡ 0)
    → WaitsCell e.cell x.wait (record { name = f; waker = w }) over c slot → IsSoundCell c → e2 ≡ cond over (finished (stopped (record e { cell = c }) f) x.errand) (record e { cell = c }) → more ≡ keeps e + 1
    → ready ≡ record before { registered = before.registered + 1 } → HandsOn e2 new more ready after
    → Stepped once e s.fs s.n f x.cell (left_by over (record x { wait = slot })) (model.poll f w (future_seen x) (cell_seen e)) (cond over answers.Ready answers.Pending) new before after
wait_steps once e f w x true c slot e2 new more before ready after s wait drained is sound made all grown hands =
    handed once e s.fs s.n f x.cell 1 answers.Ready None (model.poll f w (future_seen x) (cell_seen e)) e2 new before ready after (rw (made, is.1) (waits_over once e f x s w wait is.0 drained)) (rw all at hands)
    (ap (λ (r : Waking ℕ). r.wakers) grown) (ap (λ (r : Waking ℕ). r.registered) grown)
wait_steps once e f w x false c slot e2 new more before ready after s wait drained is sound made all grown hands =
    rw is.2 (handed once e s.fs s.n f x.cell 1 answers.Pending (Some (record x { wait = slot_after e.cell.waits x.wait })) (model.poll f w (future_seen x) (cell_seen e)) e2 new before ready after (rw (made, is.1) (waits_make once e f x s w wait is.0 (rw is.1 at sound))) (rw all at hands)
    (ap (λ (r : Waking ℕ). r.wakers) grown) (ap (λ (r : Waking ℕ). r.registered) grown))

abbrev waker_of : ℕ → ℕ → NamedWaker
waker_of f w = record { name = f; waker = w }

-- a future that uses its cell alone ran
alone_ran : (once : Bool) (e : KeptCell) (f w : ℕ) (x : FutureEntry) (s : Stands once e f x) (alone : is_alone x.errand ≡ true) (idle : runs e.running f ≡ false) (v : Option ℕ) (r : Initialiser) (told : PollReply) (e2 : KeptCell) → e.cell.value ≡ v → init_of x.errand ≡ r → length e.cell.waits.wakers ≡ 0
    → RanAlone v r e (waker_of f w) x.errand told e2 → IsSoundCell e2.cell → Makes once e s.fs s.n f x.cell 1 told.answer (left_by told.over x) (model.poll f w (future_seen x) (cell_seen e)) e2
alone_ran once e f w x s alone idle (Some v) r told e2 is it none ran sound = rw (ran.0, ran.1, (alone_is once e f x s x.errand alone).2 v) (alone_full once e f x s w alone idle none v is)
alone_ran once e f w x s alone idle None Unsettled told e2 is it none ran sound = rw (ran.0, ran.1) (alone_pends once e f x s w alone idle is it)
alone_ran once e f w x s alone idle None (Gives v) told e2 is it none ran sound = rw (ran.0, ran.1, (alone_is once e f x s x.errand alone).2 v) (alone_made once e f x s w alone idle none v is it (subst (λ (e : KeptCell). IsSoundCell e.cell) ran.1 sound))
alone_ran once e f w x s alone idle None (Fails z) told e2 is it none ran sound = rw (ran.0, ran.1) (alone_failed once e f x s w alone idle none z is it)

pub alone_fits : (once : Bool) (e : KeptCell) (f w : ℕ) (x : FutureEntry) (told : PollReply) (e2 : KeptCell) (more : ℕ) → Stands once e f x → is_alone x.errand ≡ true → runs e.running f ≡ false → length e.cell.waits.wakers ≡ 0 → RanAlone e.cell.value (init_of x.errand) e (waker_of f w) x.errand told e2
    → IsSoundCell e2.cell → more ≡ keeps e + 1 → keeps e2 + length e2.cell.permit.wakes ≤ more
alone_fits once e f w x told e2 more s alone idle none ran sound all = rw all (alone_ran once e f w x s alone idle e.cell.value (init_of x.errand) told e2 refl refl none ran sound).fit

pub alone_steps : (once : Bool) (e : KeptCell) (f w : ℕ) (x : FutureEntry) (told : PollReply) (e2 new : KeptCell) (more : ℕ) (before ready after : Waking ℕ) (s : Stands once e f x) → is_alone x.errand ≡ true → runs e.running f ≡ false → length e.cell.waits.wakers ≡ 0
    → RanAlone e.cell.value (init_of x.errand) e (waker_of f w) x.errand told e2 → IsSoundCell e2.cell → more ≡ keeps e + 1 → ready ≡ record before { registered = before.registered + 1 } → HandsOn e2 new more ready after
    → Stepped once e s.fs s.n f x.cell (left_by told.over x) (model.poll f w (future_seen x) (cell_seen e)) told.answer new before after
alone_steps once e f w x told e2 new more before ready after s alone idle none ran sound all grown hands =
    handed once e s.fs s.n f x.cell 1 told.answer (left_by told.over x) (model.poll f w (future_seen x) (cell_seen e)) e2 new before ready after (alone_ran once e f w x s alone idle e.cell.value (init_of x.errand) told e2 refl refl none ran sound) (rw all at hands)
    (ap (λ (r : Waking ℕ). r.wakers) grown) (ap (λ (r : Waking ℕ). r.registered) grown)

pub alone_is_free : (once : Bool) (e : KeptCell) (f w : ℕ) (x : FutureEntry) (s : Stands once e f x) → is_alone x.errand ≡ true → runs e.running f ≡ false → e.cell.permit.free ≡ 1
alone_is_free once e f w x s alone idle = alone_free once e f x s w alone idle
