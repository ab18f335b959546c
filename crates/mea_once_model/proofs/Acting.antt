-- what each action changes: one cell and one future at the most
use Rattle.std.proofs.Common.{◌≡◌, ℕ, ◌≤◌, ◌==◌, ◌++◌, Bool, true, false, cond, [], ◌∷◌, Option, Some, None, option_to_list, refl, ap, sym, subst, ◌∙◌, arith, append-nil}
use Rattle.std.proofs.lemmas.Bool.{eqb-true, eq-eqb}
use Rattle.std.specs.FinMap.{get, insert, remove}
use Rattle.mea_family.proofs.Refusals.{borrowed_none, not_borrowed}
use Rattle.mea_family.specs.declared.answer.Answer.{Answer}
use Rattle.mea_family.specs.declared.answer.Answer.TheVariants as answers
use Rattle.mea_family.specs.Family.{Outcome, quietly}
use Rattle.mea_base.proofs.Maps.{get-gone}
use Rattle.mea_by_name.specs.ByName.{Names, seen}
use Rattle.mea_by_name.specs.NamedQueue.{Waiting, waits, waker_for, with_waker, without, wakers, registering}
use Rattle.mea_family.specs.Play.{found, content}
use Rattle.mea_by_name.proofs.Cases.{by_found, by_if}
use Rattle.mea_by_name.proofs.NamedQueues.{Local, local_same}
use Rattle.mea_by_name.proofs.OneObject.{Goes, ObjectsGo, FuturesGo, Same, Put, Made, Gone, Kept, Begun, Ended, None_is, Polled, Ends}
use Rattle.mea_by_name.proofs.Own.{seen-none, seen-back, seen-insert, seen-remove, seen-alike, own-nothing}
use Rattle.mea_once_model.specs.Cells as cells
use Rattle.mea_once_model.specs.declared.errand.Initialiser.{Initialiser}
use Rattle.mea_once_model.specs.declared.errand.Initialiser.TheVariants.{Unsettled, Gives, Fails}
use Rattle.mea_once_model.specs.declared.errand.Errand.{Errand}
use Rattle.mea_once_model.specs.declared.errand.Errand.TheVariants.{Calls, Computes, Alone, Sets, Inserts, Awaits}
use Rattle.mea_once_model.specs.Cells.{Cell, CellFuture, Cells, Step, waiting_at, new_cell, passed, woken_next, given_up, filled, init_of, is_cell, futures_of}
use Rattle.mea_once_model.specs.Actions.{Action, Make, Begin, Poll, Settle, End, TellFull, Tell, Use, TakeOut, Drop, act_in, registers_in, polled_in, ends_in, cause_in, in_the_way}
use Rattle.mea_once_model.proofs.Parts.{part_same, part_pushed, part_with, part_without, part_registering, part_settled, part_next, part_drained, behind, together}

-- ---- what the laws on wakers look at of a future is its cell
abbrev pub keys : Names CellFuture → Names ℕ
keys fs = seen (λ (x : CellFuture). x.cell) fs

abbrev pub owner : ℕ → ℕ
owner o = o

passed-queue : (q : Waiting) (c : Cell) → (passed q c).queue ≡ behind q
passed-queue [] c = refl
passed-queue (e ∷ q) c = refl

passed-runner : (q : Waiting) (c : Cell) → (passed q c).runner ≡ c.runner
passed-runner [] c = refl
passed-runner (e ∷ q) c = refl

passed-waits : (q : Waiting) (c : Cell) → (passed q c).waits ≡ c.waits
passed-waits [] c = refl
passed-waits (e ∷ q) c = refl

passed-lists : (q : Waiting) (c : Cell) → waiting_at (passed q c) ≡ behind q ++ (c.runner ++ c.waits)
passed-lists q c = λ i. passed-queue q c i ++ (passed-runner q c i ++ passed-waits q c i)

-- ---- what a step of one future does at its cell
abbrev pub IsOf : Option CellFuture → ℕ → Type 0
IsOf None o = Unit {0}
IsOf (Some y) o = y.cell ≡ o

-- all who wait, but k, keep their wakers or are woken; so many may wait more; and the future, if it is there, is of the cell
pub record Fine (x : CellFuture) (c : Cell) (k extra : ℕ) (s : Step) : Type 0 where
  pub more : ℕ
  pub local : Local (waiting_at c) (waiting_at s.cell) s.wakes k more
  pub few : more ≤ extra
  pub mine : IsOf s.future x.cell

module _ (f w : ℕ) (x : CellFuture) (c : Cell) where
  -- the turn goes to the next
  passes : (t : Bool) → Local (waiting_at c) (waiting_at (given_up f (record c { taken = t }))) (woken_next c.queue) f 0
  passes t = rw (passed-lists c.queue (record c { taken = t; runner = without c.runner f }))
      (together c.queue (behind c.queue) c.runner (without c.runner f) c.waits c.waits (woken_next c.queue) [] [] f 0 0 0 (part_next c.queue f) (part_without c.runner f) (part_same c.waits f))

  fills : (t : Bool) (v : ℕ) → Local (waiting_at c) (waiting_at (filled f v (record c { taken = t }))) (wakers c.waits ++ woken_next c.queue) f 0
  fills t v = rw (passed-lists c.queue (record c { value = Some v; taken = t; runner = without c.runner f; waits = [] }))
      (together c.queue (behind c.queue) c.runner (without c.runner f) c.waits [] (woken_next c.queue) [] (wakers c.waits) f 0 0 0 (part_next c.queue f) (part_without c.runner f) (part_drained c.waits f))

  runs : (t : Bool) (r : Initialiser) → Fine x c f 1 (cells.run f w x (record c { taken = t }) r)
  runs t Unsettled = record {
    more = 1;
    local = together c.queue c.queue c.runner (c.runner ++ (f, w) ∷ []) c.waits c.waits [] [] [] f 0 1 0 (part_same c.queue f) (part_pushed c.runner f w) (part_same c.waits f);
    few = omega arith;
    mine = refl;
  }
  runs t (Gives v) = record { more = 0; local = fills t v; few = omega arith; mine = tt }
  runs t (Fails e) = record { more = 0; local = passes t; few = omega arith; mine = tt }

  takes_turn : (v : Option ℕ) → Fine x c f 1 (cells.take_turn f w x c v)
  takes_turn None = runs c.taken (init_of x.errand)
  takes_turn (Some v) = record { more = 0; local = passes c.taken; few = omega arith; mine = tt }

  awaits : Fine x c f 1 (cells.awaits f w x c)
  awaits = record {
    more = 1;
    local = together c.queue c.queue c.runner c.runner c.waits (registering c.waits f w) [] [] [] f 0 0 1 (part_same c.queue f) (part_same c.runner f) (part_registering c.waits f w);
    few = omega arith;
    mine = refl;
  }

  asks : (r : Initialiser) → Fine x c f 1 (cells.ask f w x c r)
  asks r = by_if (Fine x c f 1) c.taken _ _
      (λ taken. record {
        more = 1;
        local = together c.queue (c.queue ++ (f, w) ∷ []) c.runner c.runner c.waits c.waits [] [] [] f 1 0 0 (part_pushed c.queue f w) (part_same c.runner f) (part_same c.waits f);
        few = omega arith;
        mine = refl;
      })
      (λ free. runs true r)

  starts_in : (errand : Errand) → Fine x c f 1 (cells.start_in f w x c errand)
  starts_in (Calls r) = asks r
  starts_in (Computes r) = asks r
  starts_in (Alone r) = runs c.taken r
  starts_in (Sets v) = asks (Gives v)
  starts_in (Inserts v) = asks (Gives v)
  starts_in Awaits = awaits

  starts : (v : Option ℕ) → Fine x c f 1 (cells.start f w x c v)
  starts None = starts_in x.errand
  starts (Some v) = record { more = 0; local = local_same (waiting_at c) f; few = omega arith; mine = tt }

  pub polls : Fine x c f 1 (cells.poll f w x c)
  polls = by_if (Fine x c f 1) (waits c.queue f) _ _
      (λ queued. record {
        more = 0;
        local = together c.queue (with_waker c.queue f w) c.runner c.runner c.waits c.waits [] [] [] f 0 0 0 (part_with c.queue f w) (part_same c.runner f) (part_same c.waits f);
        few = omega arith;
        mine = refl;
      })
      (λ out. by_if (Fine x c f 1) (waits c.runner f) _ _
      (λ runs. record {
        more = 0;
        local = together c.queue c.queue c.runner (with_waker c.runner f w) c.waits c.waits [] [] [] f 0 0 0 (part_same c.queue f) (part_with c.runner f w) (part_same c.waits f);
        few = omega arith;
        mine = refl;
      })
      (λ idle. by_if (Fine x c f 1) (waits c.waits f) _ _ (λ awaiting. awaits)
      (λ apart. by_if (Fine x c f 1) x.polled _ _ (λ turn. takes_turn c.value) (λ new. starts c.value))))

  pub ends_local : Fine x c f 0 (cells.end f x c)
  ends_local = by_if (Fine x c f 0) (waits c.queue f) _ _
      (λ queued. record {
        more = 0;
        local = together c.queue (without c.queue f) c.runner c.runner c.waits c.waits [] [] [] f 0 0 0 (part_without c.queue f) (part_same c.runner f) (part_same c.waits f);
        few = omega arith;
        mine = tt;
      })
      (λ out. by_if (Fine x c f 0) x.polled _ _
      (λ turn. record { more = 0; local = passes c.taken; few = omega arith; mine = tt })
      (λ new. record {
        more = 0;
        local = together c.queue c.queue c.runner (without c.runner f) c.waits c.waits [] [] [] f 0 0 0 (part_same c.queue f) (part_without c.runner f) (part_same c.waits f);
        few = omega arith;
        mine = tt;
      }))

-- who ends is gone
pub ends_gone : (f : ℕ) (x : CellFuture) (c : Cell) → (cells.end f x c).future ≡ None
ends_gone f x c = by_if (λ (s : Step). s.future ≡ None) (waits c.queue f) _ _ (λ queued. refl) (λ out. by_if (λ (s : Step). s.future ≡ None) x.polled _ _ (λ turn. refl) (λ new. refl))

pub settles_local : (f k : ℕ) (r : Initialiser) (x : CellFuture) (c : Cell) → Fine x c k 0 (cells.settle f r x c)
settles_local f k r x c =
    let vs = option_to_list (waker_for c.runner f) in
    record {
      more = 0;
      local = subst (λ ws. Local (waiting_at c) (c.queue ++ (without c.runner f ++ c.waits)) ws k 0) (append-nil vs)
          (together c.queue c.queue c.runner (without c.runner f) c.waits c.waits [] vs [] k 0 0 0 (part_same c.queue k) (part_settled c.runner f k) (part_same c.waits k));
      few = omega arith;
      mine = refl;
    }

module _ (h : Cells) (i : ℕ) (a : Action) where
  -- the event changes one cell and one future at the most
  abbrev pub GoesTo : ℕ → Outcome Cells → Type 0
  GoesTo extra o = Goes waiting_at owner h.cells (keys h.futures) (cause_in h a ≡ None) (polled_in a) (ends_in a) i extra o.hall.cells (keys o.hall.futures) o.wakes

  abbrev Futures : ℕ → Names CellFuture → Type 0
  Futures k fs = FuturesGo waiting_at owner h.cells (keys h.futures) (cause_in h a ≡ None) i k (keys fs)

  over : (k : ℕ) → Futures k (remove h.futures k)
  over k = rw (seen-remove (λ (x : CellFuture). x.cell) h.futures k) Ended

  -- a future changes, but not whose it is, or is gone
  alike : (k f : ℕ) (x y : CellFuture) → get h.futures f ≡ Some x → y.cell ≡ x.cell → Futures k (insert h.futures f y)
  alike k f x y there same = subst (λ m. FuturesGo waiting_at owner h.cells (keys h.futures) (cause_in h a ≡ None) i k m) (sym (seen-alike (λ (x : CellFuture). x.cell) h.futures f x y there same)) Kept

  turned : (f : ℕ) (x : CellFuture) (p : Option CellFuture) → get h.futures f ≡ Some x → IsOf p x.cell → Futures f (cells.turned_to h.futures f p)
  turned f x None there mine = over f
  turned f x (Some y) there mine = alike f f x y there mine

  -- ---- an action that ends nobody
  module _ (none : (f : ℕ) → ends_in a f ≡ true → ⊥) where
    rests : (extra : ℕ) (o : Outcome Cells) → ObjectsGo waiting_at owner h.cells (keys h.futures) (cause_in h a ≡ None) i i extra o.hall.cells o.wakes → Futures i o.hall.futures → GoesTo extra o
    rests extra o objects futures = record { k = i; touches = None_is refl; objects = objects; futures = futures; over = λ f is. absurd (none f is) }

    tells : (extra : ℕ) (reply : Answer) → GoesTo extra (quietly h reply)
    tells extra reply = rests extra (quietly h reply) Same Kept

    still : (extra : ℕ) → GoesTo extra (quietly h answers.Done)
    still extra = tells extra answers.Done

    -- one cell changes, and nobody waits otherwise
    turns : (o : ℕ) (c c' : Cell) (reply : Answer) → get h.cells o ≡ Some c → waiting_at c' ≡ waiting_at c → GoesTo 0 (quietly (cells.with_cell h o c') reply)
    turns o c c' reply there same = rests 0 (quietly (cells.with_cell h o c') reply) (Put o c c' [] 0 there (rw same (local_same (waiting_at c) i)) (omega arith)) Kept

    makes : (v : Option ℕ) → GoesTo 0 (cells.make h i v)
    makes v = rests 0 (cells.make h i v) (Made (new_cell v) refl) Kept

    begins : (o : ℕ) (errand : Errand) → (cause_in h a ≡ None → is_cell h o ≡ true) → GoesTo 0 (cells.begin h i o errand)
    begins o errand there = rests 0 (cells.begin h i o errand) Same (rw (seen-insert (λ (x : CellFuture). x.cell) h.futures i (record { cell = o; errand = errand; polled = false })) (Begun o there))

    goes_out : (o : ℕ) (c : Cell) (reply : Answer) → get h.cells o ≡ Some c → (cause_in h a ≡ None → futures_of h o ≡ 0) → GoesTo 0 (cells.gone h o reply)
    goes_out o c reply there alone = rests 0 (cells.gone h o reply) (Gone o c [] there (omega arith) (λ allowed f y apart is mine. let had = seen-back (λ (x : CellFuture). x.cell) h.futures f y is in
        own-nothing (λ (x : CellFuture). x.cell) o h.futures (omega (arith, alone allowed)) f had.0 had.1 (mine ∙ sym had.2))) Kept

    settles : (f : ℕ) (r : Initialiser) (x : CellFuture) (c : Cell) → get h.futures f ≡ Some x → get h.cells x.cell ≡ Some c → GoesTo 0 (cells.applied h f x.cell (cells.settle f r x c))
    settles f r x c future there =
        let fine = settles_local f i r x c in
        rests 0 (cells.applied h f x.cell (cells.settle f r x c)) (Put x.cell c _ _ fine.more there fine.local fine.few) (alike i f x _ future refl)

    steps : (f w : ℕ) (x : CellFuture) (c : Cell) (s : Step) → polled_in a f ≡ Some w → get h.futures f ≡ Some x → get h.cells x.cell ≡ Some c → Fine x c f 1 s → GoesTo 1 (cells.applied h f x.cell s)
    steps f w x c s is future there fine = record { k = f; touches = Polled w is; objects = Put x.cell c s.cell s.wakes fine.more there fine.local fine.few; futures = turned f x s.future future fine.mine; over = λ f is. absurd (none f is) }

-- ---- an end
module _ (h : Cells) (i k : ℕ) where
  gone : (f : ℕ) → (k == f) ≡ true → get (keys (remove h.futures k)) f ≡ None
  gone f is = rw (seen-remove (λ (x : CellFuture). x.cell) h.futures k) (ap (get (remove (keys h.futures) k)) (sym (eqb-true k f is)) ∙ get-gone (keys h.futures) k)

  ends_at : (x : CellFuture) (p : Option Cell) → get h.futures k ≡ Some x → get h.cells x.cell ≡ p → GoesTo h i (End k) 0 (cells.end_at h k x p)
  ends_at x None future absent = record { k = k; touches = Ends (eq-eqb k k refl); objects = Same; futures = over h i (End k) k; over = gone }
  ends_at x (Some c) future there =
      let fine = ends_local k 0 x c in
      record {
        k = k;
        touches = Ends (eq-eqb k k refl);
        objects = Put x.cell c _ _ fine.more there fine.local fine.few;
        futures = turned h i (End k) k x (cells.end k x c).future future fine.mine;
        over = λ f is. rw (ends_gone k x c) (gone f is);
      }

  nobody : get h.futures k ≡ None → (f : ℕ) → (k == f) ≡ true → get (keys h.futures) f ≡ None
  nobody absent f is = ap (get (keys h.futures)) (sym (eqb-true k f is)) ∙ seen-none (λ (x : CellFuture). x.cell) h.futures k absent

  ends : (o : Option CellFuture) → get h.futures k ≡ o → GoesTo h i (End k) 0 (found o h (λ x. cells.end_at h k x (get h.cells x.cell)))
  ends None absent = record { k = i; touches = None_is refl; objects = Same; futures = Kept; over = nobody absent }
  ends (Some x) future = ends_at x (get h.cells x.cell) future refl

-- ---- every action
module _ (h : Cells) (i : ℕ) where
  by_cell : (a : Action) (none : (f : ℕ) → ends_in a f ≡ true → ⊥) (o : ℕ) (act : Cell → Outcome Cells) → ((c : Cell) → get h.cells o ≡ Some c → GoesTo h i a 0 (act c)) → GoesTo h i a 0 (found (get h.cells o) h act)
  by_cell a none o act some = by_found (GoesTo h i a 0) (get h.cells o) h act (still h i a none 0) some

  pub goes : (a : Action) → GoesTo h i a (cond (registers_in a) 1 0) (act_in h i a)
  goes (Make v) = makes h i (Make v) (λ f is. absurd (cc)) v
  goes (Begin o errand) = begins h i (Begin o errand) (λ f is. absurd (cc)) o errand (λ allowed. (borrowed_none (is_cell h o) (in_the_way h o errand) allowed).0)
  goes (Poll f w) = by_found (GoesTo h i (Poll f w) 1) (get h.futures f) h _ (still h i (Poll f w) (λ f is. absurd (cc)) 1)
      (λ x future. by_found (GoesTo h i (Poll f w) 1) (get h.cells x.cell) h _ (still h i (Poll f w) (λ f is. absurd (cc)) 1)
      (λ c there. steps h i (Poll f w) (λ f is. absurd (cc)) f w x c _ (ap (λ b. cond b (Some w) None) (eq-eqb f f refl)) future there (polls f w x c)))
  goes (Settle f r) = by_found (GoesTo h i (Settle f r) 0) (get h.futures f) h _ (still h i (Settle f r) (λ f is. absurd (cc)) 0)
      (λ x future. by_found (GoesTo h i (Settle f r) 0) (get h.cells x.cell) h _ (still h i (Settle f r) (λ f is. absurd (cc)) 0)
      (λ c there. settles h i (Settle f r) (λ f is. absurd (cc)) f r x c future there))
  goes (End k) = ends h i k (get h.futures k) refl
  goes (TellFull o) = by_cell (TellFull o) (λ f is. absurd (cc)) o _ (λ c there. tells h i (TellFull o) (λ f is. absurd (cc)) 0 (cells.tell_full h c).reply)
  goes (Tell o) = by_cell (Tell o) (λ f is. absurd (cc)) o _ (λ c there. tells h i (Tell o) (λ f is. absurd (cc)) 0 (cells.tell h c).reply)
  goes (Use o u) = by_cell (Use o u) (λ f is. absurd (cc)) o _
      (λ c there. turns h i (Use o u) (λ f is. absurd (cc)) o c (record c { value = cells.value_after u c.value }) (cells.reply_to u c.value) there refl)
  goes (TakeOut o) = by_cell (TakeOut o) (λ f is. absurd (cc)) o _ (λ c there. goes_out h i (TakeOut o) (λ f is. absurd (cc)) o c (content c.value) there (λ allowed. not_borrowed (is_cell h o) (futures_of h o) allowed))
  goes (Drop o) = by_cell (Drop o) (λ f is. absurd (cc)) o _ (λ c there. goes_out h i (Drop o) (λ f is. absurd (cc)) o c answers.Done there (λ allowed. not_borrowed (is_cell h o) (futures_of h o) allowed))
