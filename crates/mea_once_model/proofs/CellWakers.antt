-- the laws of the family for the cells of one kind
use Rattle.std.proofs.Common.{◌≡◌, ℕ, ◌+◌, ◌≤◌, ◌==◌, ◌⊎◌, inl, inr, ◌++◌, Bool, true, false, not, [], ◌∷◌, Option, Some, None, is_some, refl, ap, sym, subst, ◌∙◌, arith}
use Rattle.std.specs.List.{Contains}
use Rattle.std.specs.FinMap.{get, insert}
use Rattle.std.proofs.lemmas.Bool.{eqb-true}
use Rattle.std.proofs.lemmas.Option.{cond_some}
use Rattle.mea_family.specs.declared.answer.Answer.TheVariants as answers
use Rattle.mea_family.specs.Family.{Outcome}
use Rattle.mea_base.proofs.Maps.{nothing_at, get-there}
use Rattle.mea_family.proofs.Causes.{known}
use Rattle.mea_by_name.specs.NamedQueue as named_queue
use Rattle.mea_by_name.specs.NamedQueue.{waits, with_waker, waker_for}
use Rattle.mea_family.specs.Play.{found}
use Rattle.mea_by_name.proofs.Cases.{by_found, by_if, found_is}
use Rattle.mea_by_name.proofs.NamedQueues.{appended-there, with_waker-there, registering-there}
use Rattle.mea_by_name.proofs.OneObject.{IsBelow, AreBelow, goes_lows, goes_below, goes_made, goes_stays, goes_kept, placed_is, placed_put}
use Rattle.mea_by_name.proofs.Own.{seen-at, seen-back, seen-none}
use Rattle.mea_once_model.specs.Cells as cells
use Rattle.mea_once_model.specs.declared.errand.Initialiser.{Initialiser}
use Rattle.mea_once_model.specs.declared.errand.Initialiser.TheVariants.{Unsettled, Gives, Fails}
use Rattle.mea_once_model.specs.declared.errand.Errand.{Errand}
use Rattle.mea_once_model.specs.declared.errand.Errand.TheVariants.{Calls, Computes, Alone, Sets, Inserts, Awaits}
use Rattle.mea_once_model.specs.Cells.{Cell, CellFuture, Cells, Step, waiting_at, init_of, is_alone, is_future}
use Rattle.mea_once_model.specs.Actions.{Action, Poll, Settle, act_in, polled_in, ends_in, cause_in}
use Rattle.mea_once_model.proofs.Parts.{in_first, in_second, not_waiting}
use Rattle.mea_once_model.proofs.Acting.{keys, owner, goes}

-- ---- the cells of one kind
abbrev pub at_cell : CellFuture → ℕ
at_cell x = x.cell

-- a future that waits on after a step has this waker, and is of the cell still
pub record Placed (f w : ℕ) (x : CellFuture) (s : Step) : Type 0 where
  pub future : CellFuture
  pub there : s.future ≡ Some future
  pub mine : future.cell ≡ x.cell
  pub waker : waker_for (waiting_at s.cell) f ≡ Some w

module _ (f w : ℕ) (x : CellFuture) (c : Cell) where
  abbrev P : Step → Type 0
  P s = s.reply ≡ answers.Pending → Placed f w x s

  found_never : (j : Errand) (v : ℕ) → cells.found_full j v ≡ answers.Pending → ⊥
  found_never (Calls r) v is = absurd (cc)
  found_never _ v is = absurd (cc)

  filled_never : (j : Errand) (v : ℕ) → cells.has_filled j v ≡ answers.Pending → ⊥
  filled_never (Calls r) v is = absurd (cc)
  filled_never _ v is = absurd (cc)

  module _ (out : waits c.queue f ≡ false) (idle : waits c.runner f ≡ false) where
    run_places : (t : Bool) (r : Initialiser) → P (cells.run f w x (record c { taken = t }) r)
    run_places t Unsettled pending = record {
      future = record x { polled = not (is_alone x.errand) };
      there = refl;
      mine = refl;
      waker = in_second c.queue _ f (not_waiting c.queue f out) ∙ in_first (c.runner ++ (f, w) ∷ []) c.waits f w (appended-there c.runner f w idle);
    }
    run_places t (Gives v) pending = absurd (filled_never x.errand v pending)
    run_places t (Fails e) pending = absurd (cc)

    awaits_places : P (cells.awaits f w x c)
    awaits_places pending = record {
      future = x;
      there = refl;
      mine = refl;
      waker = in_second c.queue _ f (not_waiting c.queue f out) ∙ in_second c.runner _ f (not_waiting c.runner f idle) ∙ registering-there c.waits f w;
    }

    turn_places : (v : Option ℕ) → P (cells.take_turn f w x c v)
    turn_places None pending = run_places c.taken (init_of x.errand) pending
    turn_places (Some v) pending = absurd (found_never x.errand v pending)

    asks_places : (r : Initialiser) → P (cells.ask f w x c r)
    asks_places r = by_if P c.taken _ _
        (λ taken pending. record { future = record x { polled = true }; there = refl; mine = refl; waker = in_first (c.queue ++ (f, w) ∷ []) _ f w (appended-there c.queue f w out) })
        (λ free. run_places true r)

    start_places : (j : Errand) → P (cells.start_in f w x c j)
    start_places (Calls r) = asks_places r
    start_places (Computes r) = asks_places r
    start_places (Alone r) = run_places c.taken r
    start_places (Sets v) = asks_places (Gives v)
    start_places (Inserts v) = asks_places (Gives v)
    start_places Awaits = awaits_places

    starts_places : (v : Option ℕ) → P (cells.start f w x c v)
    starts_places None pending = start_places x.errand pending
    starts_places (Some v) pending = absurd (found_never x.errand v pending)

  pub poll_places : P (cells.poll f w x c)
  poll_places = by_if P (waits c.queue f) _ _
      (λ queued pending. record { future = x; there = refl; mine = refl; waker = in_first (with_waker c.queue f w) _ f w (with_waker-there c.queue f w queued) })
      (λ out. by_if P (waits c.runner f) _ _
      (λ runs pending. record {
        future = x;
        there = refl;
        mine = refl;
        waker = in_second c.queue _ f (not_waiting c.queue f out) ∙ in_first (with_waker c.runner f w) c.waits f w (with_waker-there c.runner f w runs);
      })
      (λ idle. by_if P (waits c.waits f) _ _ (λ awaiting. awaits_places out idle)
      (λ apart. by_if P x.polled _ _ (λ turn. turn_places out idle c.value) (λ new. starts_places out idle c.value))))

  -- while a waker is placed, it waits on
  pub poll_waits : (v : ℕ) → waker_for (waiting_at c) f ≡ Some v → (cells.poll f w x c).reply ≡ answers.Pending
  poll_waits v has = by_if R (waits c.queue f) _ _ (λ queued. refl)
      (λ out. by_if R (waits c.runner f) _ _ (λ runs. refl)
      (λ idle. by_if R (waits c.waits f) _ _ (λ awaiting. refl)
      (λ apart. absurd (let none : waker_for (waiting_at c) f ≡ None =
      in_second c.queue _ f (not_waiting c.queue f out) ∙ in_second c.runner _ f (not_waiting c.runner f idle) ∙ not_waiting c.waits f apart in cc))))
    where
      R : Step → Type 0
      R s = s.reply ≡ answers.Pending

module _ (h : Cells) (i : ℕ) where
  -- a poll that is pending places its waker
  pub places_poll : (f w : ℕ) → (act_in h i (Poll f w)).reply ≡ answers.Pending → cells.placed (act_in h i (Poll f w)).hall f ≡ Some w
  places_poll f w = by_found Q (get h.futures f) h _ (λ is. absurd (cc)) (λ x future. by_found Q (get h.cells x.cell) h _ (λ is. absurd (cc)) (λ c there pending. stands x (cells.poll f w x c) (poll_places f w x c pending)))
    where
      Q : Outcome Cells → Type 0
      Q o = o.reply ≡ answers.Pending → cells.placed o.hall f ≡ Some w

      stands : (x : CellFuture) (s : Step) → Placed f w x s → cells.placed (cells.applied h f x.cell s).hall f ≡ Some w
      stands x s placed = subst (λ p. cells.placed (record { cells = insert h.cells x.cell s.cell; futures = cells.turned_to h.futures f p }) f ≡ Some w) (sym placed.there)
          (subst (λ o. named_queue.placed waiting_at at_cell (insert h.cells o s.cell) (insert h.futures f placed.future) f ≡ Some w) placed.mine
          (placed_put waiting_at at_cell h.cells (insert h.futures f placed.future) f w placed.future s.cell (get-there h.futures f placed.future) placed.waker))

  -- while a waker is placed, a poll is pending
  pub waits_poll : (f w v : ℕ) → cells.placed h f ≡ Some w → (act_in h i (Poll f v)).reply ≡ answers.Pending
  waits_poll f w v is =
      let at = placed_is waiting_at at_cell h.cells h.futures f w is in
      ap (λ (o : Outcome Cells). o.reply) (found_is (get h.futures f) h (λ x. found (get h.cells x.cell) h (λ c. cells.applied h f x.cell (cells.poll f v x c))) at.x at.future
      ∙ found_is (get h.cells at.x.cell) h (λ c. cells.applied h f at.x.cell (cells.poll f v at.x c)) at.r at.object) ∙ poll_waits f v at.x at.r w at.waker

-- an action that polls f is a poll of f
pub same_poll : (a : Action) (f w : ℕ) (P : Action → Type 0) → ((v : ℕ) → v ≡ w → P (Poll f v)) → polled_in a f ≡ Some w → P a
same_poll (Poll g v) f w P here is = let test = cond_some (g == f) v w is in subst (λ j. P (Poll j v)) (sym (eqb-true g f test.0)) (here v test.1)
same_poll _ f w P here is = absurd (cc)

-- ---- a future is as well known by its cell
is_key : (h : Cells) (f : ℕ) → is_future h f ≡ is_some (get (keys h.futures) f)
is_key h f = at (get h.futures f) refl
  where
    at : (o : Option CellFuture) → get h.futures f ≡ o → is_some o ≡ is_some (get (keys h.futures) f)
    at None none = sym (ap is_some (seen-none at_cell h.futures f none))
    at (Some x) some = sym (ap is_some (seen-at at_cell h.futures f x some))

placed_by_key : (h : Cells) (f : ℕ) → cells.placed h f ≡ named_queue.placed waiting_at owner h.cells (keys h.futures) f
placed_by_key h f = at (get h.futures f) refl
  where
    at : (o : Option CellFuture) → get h.futures f ≡ o → named_queue.placed_of waiting_at at_cell h.cells f o ≡ named_queue.placed waiting_at owner h.cells (keys h.futures) f
    at None none = sym (ap (named_queue.placed_of waiting_at owner h.cells f) (seen-none at_cell h.futures f none))
    at (Some x) some = sym (ap (named_queue.placed_of waiting_at owner h.cells f) (seen-at at_cell h.futures f x some))

-- names stay below the next number
pub record Low (h : Cells) (n : ℕ) : Type 0 where
  pub lows : IsBelow h.cells n
  pub below : AreBelow waiting_at owner (keys h.futures) n

pub low_later : (h : Cells) (n i : ℕ) → Low h n → n ≤ i → Low h (i + 1)
low_later h n i low later = record {
  lows = record { at = λ k x is. omega (arith, low.lows.at k x is) };
  below = record { at = λ k x is. (omega (arith, (low.below.at k x is).0), omega (arith, (low.below.at k x is).1)) };
}

-- ---- what an event does to the cells of its kind
module _ (h : Cells) (n i : ℕ) (low : Low h n) (later : n ≤ i) (a : Action) (allowed : cause_in h a ≡ None) where
  pub low_after : Low (act_in h i a).hall (i + 1)
  low_after = record {
    lows = goes_lows waiting_at owner h.cells (keys h.futures) n i low.lows low.below later _ allowed _ _ _ _ _ _ (goes h i a);
    below = goes_below waiting_at owner h.cells (keys h.futures) n i low.lows low.below later _ allowed _ _ _ _ _ _ (goes h i a);
  }

  pub made_in : (f : ℕ) → is_future (act_in h i a).hall f ≡ true → (is_future h f ≡ true) ⊎ (f ≡ i)
  made_in f is = elim (goes_made waiting_at owner h.cells (keys h.futures) n i low.lows low.below later _ allowed _ _ _ _ _ _ (goes h i a) f (sym (is_key (act_in h i a).hall f) ∙ is)) [
    | inl had ↦ inl (is_key h f ∙ had)
    | inr new ↦ inr new
  ]

  pub stays_in : (f : ℕ) → is_future h f ≡ true → polled_in a f ≡ None → ends_in a f ≡ false → is_future (act_in h i a).hall f ≡ true
  stays_in f is quiet lasts = is_key (act_in h i a).hall f
      ∙ goes_stays waiting_at owner h.cells (keys h.futures) n i low.lows low.below later _ allowed _ _ _ _ _ _ (goes h i a) f (sym (is_key h f) ∙ is) quiet lasts

  pub kept_in : (f w : ℕ) → cells.placed h f ≡ Some w → polled_in a f ≡ None → ends_in a f ≡ false → (cells.placed (act_in h i a).hall f ≡ Some w) ⊎ Contains (act_in h i a).wakes w
  kept_in f w is quiet lasts = elim (goes_kept waiting_at owner h.cells (keys h.futures) n i low.lows low.below later _ allowed _ _ _ _ _ _ (goes h i a) f w (sym (placed_by_key h f) ∙ is) quiet lasts) [
    | inl kept ↦ inl (placed_by_key (act_in h i a).hall f ∙ kept)
    | inr woken ↦ inr woken
  ]

pub ended_in : (h : Cells) (i : ℕ) (a : Action) (f : ℕ) → ends_in a f ≡ true → is_future (act_in h i a).hall f ≡ false
ended_in h i a f is = is_key (act_in h i a).hall f ∙ ap is_some ((goes h i a).over f is)

pub lives_if_polled : (h : Cells) (a : Action) (f w : ℕ) → polled_in a f ≡ Some w → cause_in h a ≡ None → is_future h f ≡ true
lives_if_polled h a f w is = same_poll a f w (λ a. cause_in h a ≡ None → is_future h f ≡ true) (λ v same none. known (is_future h f) none) is

pub cell_places : (h : Cells) (i f w : ℕ) (a : Action) → polled_in a f ≡ Some w → (act_in h i a).reply ≡ answers.Pending → cells.placed (act_in h i a).hall f ≡ Some w
cell_places h i f w a is = same_poll a f w (λ a. (act_in h i a).reply ≡ answers.Pending → cells.placed (act_in h i a).hall f ≡ Some w)
    (λ v same pending. subst (λ w. cells.placed (act_in h i (Poll f v)).hall f ≡ Some w) same (places_poll h i f v pending)) is

pub cell_waits : (h : Cells) (i f w v : ℕ) (a : Action) → cells.placed h f ≡ Some w → polled_in a f ≡ Some v → (act_in h i a).reply ≡ answers.Pending
cell_waits h i f w v a placed is = same_poll a f v (λ a. (act_in h i a).reply ≡ answers.Pending) (λ u same. waits_poll h i f w u placed) is

pub nothing_low : Low cells.no_cells 0
nothing_low = record { lows = record { at = λ k x is. absurd (nothing_at Cell k x is) }; below = record { at = λ k o is. let had = seen-back at_cell cells.no_cells.futures k o is in absurd (nothing_at CellFuture k had.0 had.1) } }

-- ---- who settles
pub settles : (h : Cells) (i f : ℕ) (r : Initialiser) (x : CellFuture) (c : Cell) → get h.futures f ≡ Some x → get h.cells x.cell ≡ Some c → (act_in h i (Settle f r)).wakes ≡ (cells.settle f r x c).wakes
settles h i f r x c future there = ap (λ (o : Outcome Cells). o.wakes)
    (found_is (get h.futures f) h (λ x. found (get h.cells x.cell) h (λ c. cells.applied h f x.cell (cells.settle f r x c))) x future ∙ found_is (get h.cells x.cell) h (λ c. cells.applied h f x.cell (cells.settle f r x c)) c there)
