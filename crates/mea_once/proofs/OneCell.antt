-- one cell with its futures: what they keep to
use Rattle.std.proofs.Common.{◌≡◌, ℕ, ◌+◌, ◌≤◌, ◌==◌, ◌++◌, Bool, true, false, cond, length, List, [], ◌∷◌, map, sum_by, Option, Some, None, is_some, refl, ap, sym, subst, ◌∙◌, arith, append-nil, if◌then◌else◌}
use Rattle.std.specs.FinMap.{get, insert, remove, empty, entries, values, get-empty, len-empty, len-entries}
use Rattle.std.specs.Ordering.{nat_cmp}
use Rattle.std.proofs.lemmas.Bool.{eqb-true, eq-eqb}
use Rattle.std.proofs.lemmas.List.{length-append, map-append}
use Rattle.mea_base.specs.Totals.{weight}
use Rattle.mea_base.specs.Queue.{waiting_after, granted_in}
use Rattle.mea_base.proofs.Maps.{by_put, removed_there, nothing_at, total-has, get-removed_other, inside, is_absent, value_in, none_if}
use Rattle.mea_base.proofs.NamedMaps.{same_named}
use Rattle.mea_base.proofs.Totals.{total-empty}
use Rattle.mea_by_name.specs.declared.named_waker.NamedWaker.{NamedWaker}
use Rattle.mea_by_name.specs.ByName.{Names, seen, count}
use Rattle.mea_by_name.specs.NamedQueue.{Waiting, waits, waker_for, without}
use Rattle.mea_by_name.specs.LackingQueue.{who}
use Rattle.mea_by_name.proofs.Own.{seen-at, seen-back, seen-none, seen-insert, seen-remove, seen-empty, len-new, len-over, len-gone, len-some, count-put, count-new, count-over, count-gone, insert_same}
use Rattle.mea_sem_core.specs.declared.acquire.Acquire.{Acquire}
use Rattle.mea_sem_core.specs.declared.acquire.Acquire.TheVariants as acquire
use Rattle.mea_sem_core.specs.Core.{Core, Waiter, Acquires, Owes, HasNoDebt, held_of, paid_to, granting, waiting}
use Rattle.mea_sem_core.specs.Calls as sem_calls
use Rattle.mea_sem_core.specs.Calls.{without_acquire}
use Rattle.mea_sem_core.specs.Ones.{AskForOne}
use Rattle.mea_cores_by_name.specs.Linked.{names_in, Linked, AreOf}
use Rattle.mea_cores_by_name.specs.SetLinked.{SlotIs, IsAbsent, names_of}
use Rattle.mea_cores_by_name.proofs.Linking.{IsUnqueued, linked_begun}
use Rattle.mea_cores_by_name.proofs.Pours.{linked_poured}
use Rattle.mea_once_core.specs.Permit.{MayPoll, MayEnd, HoldsAs, held_at, passed_to}
use Rattle.mea_once_core.specs.declared.cell_stage.CellStage.{CellStage}
use Rattle.mea_once_core.specs.declared.cell_stage.CellStage.TheVariants.{New, Queued, Running, Done}
use Rattle.mea_once_core.proofs.Permits.{waits_behind, first_granted}
use Rattle.mea_once_model.specs.declared.errand.Errand.{Errand}
use Rattle.mea_once_model.specs.declared.errand.Errand.TheVariants.{Alone, Awaits}
use Rattle.mea_once_model.specs.Cells.{Cell, is_alone, passed, woken_next}
use Rattle.mea_once.specs.declared.future_entry.FutureEntry.{FutureEntry}
use Rattle.mea_once.specs.Cores.{NamedCell, IsOnePermit}
use Rattle.mea_once.specs.Entries.{KeptCell, begun, finished, stopped, runs}
use Rattle.mea_once.specs.Parts.{runner_of, is_caller, is_wait, fits, acquire_at, acquire_of, runs_at, is_running, StageFits, IsFuture, MayRun, Tied, AreKept, IsNewCell}

abbrev pub Queue : Type 0
Queue = List (Waiter NamedWaker × ℕ)

-- ---- a permit
pub no_debts : (q : Queue) → AskForOne q → HasNoDebt q
no_debts [] asks = tt
no_debts ((Acquires n d k, l) ∷ q) asks = no_debts q asks.2
no_debts ((Owes, l) ∷ q) asks = absurd asks

-- the turn goes to the next
pub pass_linked : (acquires : Names Acquire) (q : Queue) (s : Core NamedWaker) → s.queue ≡ q → AskForOne q → Linked q s.granted acquires → Linked (passed_to q s).queue (passed_to q s).granted acquires
pass_linked acquires [] s is asks linked = rw is linked
pass_linked acquires ((Acquires n d k, l) ∷ q) s is asks linked =
    let behind : waiting_after ((Acquires n d k, l) ∷ q) 1 ≡ q = waits_behind n d l k q asks in
    let first : granting s.granted (granted_in ((Acquires n d k, l) ∷ q) 1) ≡ insert s.granted n 1 = ap (granting s.granted) (first_granted n d l k q asks) ∙ ap (λ x. insert s.granted n x) asks.0 in
    rw (behind, first) at (linked_poured acquires ((Acquires n d k, l) ∷ q) s.granted 1 linked)
pass_linked acquires ((Owes, l) ∷ q) s is asks linked = absurd asks

-- a cell as it is seen, with this permit
abbrev pub seen_with : Option ℕ → Waiting → Waiting → Core NamedWaker → Cell
seen_with v r w s = record { value = v; taken = s.free == 0; queue = who (names_in s.queue); runner = r; waits = w }

pub pass_seen : (q : Queue) (s : Core NamedWaker) (v : Option ℕ) (r w : Waiting) → s.queue ≡ q → AskForOne q → seen_with v r w (passed_to q s) ≡ passed (who (names_in q)) (seen_with v r w s)
pass_seen [] s v r w is asks = λ i. record { value = v; taken = false; queue = who (names_in (is i)); runner = r; waits = w }
pass_seen ((Acquires n d k, l) ∷ q) s v r w is asks = refl
pass_seen ((Owes, l) ∷ q) s v r w is asks = absurd asks

abbrev pub woken_in : List NamedWaker → List ℕ
woken_in ws = map (λ (k : NamedWaker). k.waker) ws

pub pass_woken : (q : Queue) (s : Core NamedWaker) → AskForOne q → woken_in (passed_to q s).wakes ≡ woken_in s.wakes ++ woken_next (who (names_in q))
pass_woken [] s asks = sym (append-nil (woken_in s.wakes))
pass_woken ((Acquires n d k, l) ∷ q) s asks = map-append (λ (k : NamedWaker). k.waker) s.wakes (k ∷ [])
pass_woken ((Owes, l) ∷ q) s asks = absurd asks

pub pass_length : (q : Queue) (s : Core NamedWaker) → s.queue ≡ q → AskForOne q → length (passed_to q s).queue + length (passed_to q s).wakes ≡ length q + length s.wakes
pass_length [] s is asks = ap (λ (q : Queue). length q + length s.wakes) is
pass_length ((Acquires n d k, l) ∷ q) s is asks = let more : length (s.wakes ++ k ∷ []) ≡ length s.wakes + 1 = length-append s.wakes (k ∷ []) in omega (arith, more)
pass_length ((Owes, l) ∷ q) s is asks = absurd asks

pub length-with : (q : Queue) (n : ℕ) (w : NamedWaker) → length (sem_calls.with_waker q n w) ≡ length q
length-with [] n w = refl
length-with ((Acquires m d v, l) ∷ q) n w = omega (arith, length-with q n w)
length-with ((Owes, l) ∷ q) n w = omega (arith, length-with q n w)

pub length-without : (q : Queue) (n : ℕ) → length (without_acquire q n) ≤ length q
length-without [] n = omega arith
length-without ((Acquires m d v, l) ∷ q) n = elim (m == n) as (λ b. length (cond b (without_acquire q n) ((Acquires m d v, l) ∷ without_acquire q n)) ≤ length ((Acquires m d v, l) ∷ q)) [
  | true ↦ omega (arith, length-without q n)
  | false ↦ omega (arith, length-without q n)
]
length-without ((Owes, l) ∷ q) n = omega (arith, length-without q n)

-- ---- who waits elsewhere
pub runner_waits : (r : Option NamedWaker) (f : ℕ) → waits (runner_of r) f ≡ runs r f
runner_waits None f = refl
runner_waits (Some k) f = elim (k.name == f) as (λ b. is_some (cond b (Some k.waker) None) ≡ b) [ true ↦ refl | false ↦ refl ]

pub runner_without : (r : Option NamedWaker) (f : ℕ) → without (runner_of r) f ≡ runner_of (cond (runs r f) None r)
runner_without None f = refl
runner_without (Some k) f = elim (k.name == f) as (λ b. cond b [] ((k.name, k.waker) ∷ []) ≡ runner_of (cond b None (Some k))) [ true ↦ refl | false ↦ refl ]

pub absent_waits : (ks : List NamedWaker) (f : ℕ) → IsAbsent ks f → waits (names_of ks) f ≡ false
absent_waits [] f absent = refl
absent_waits (k ∷ ks) f absent = ap (λ b. is_some (cond b (Some k.waker) (waker_for (names_of ks) f))) absent.0 ∙ absent_waits ks f absent.1

-- ---- stages
pub held_is : (s : CellStage) → held_at s ≡ cond (runs_at s) 1 0
held_is New = refl
held_is _ = refl

unqueued_at : (s : CellStage) → ((n : ℕ) → s ≡ Queued n → ⊥) → IsUnqueued (Some (acquire_at s))
unqueued_at (Queued n) none = absurd (none n refl)
unqueued_at _ none = tt

pub fits_any : (caller : Bool) (s : CellStage) → StageFits caller s → StageFits true s
fits_any true s fits = fits
fits_any false New fits = tt
fits_any false _ fits = absurd fits

-- who may be polled may end
pub end_at : (p : Core NamedWaker) (s : CellStage) → MayPoll p s → MayEnd p s
end_at p (Queued n) may = may
end_at p Running may = may
end_at p _ may = tt

-- ---- a cell, its futures, and one of them
module _ (once : Bool) (e : KeptCell) (fs : Names FutureEntry) (tied : Tied once e fs) (f : ℕ) (x : FutureEntry) (there : get fs f ≡ Some x) where
  abbrev pub acquires : Names Acquire
  acquires = seen acquire_of fs

  pub its_acquire : (s : CellStage) → x.stage ≡ s → get acquires f ≡ Some (acquire_at s)
  its_acquire s is = seen-at acquire_of fs f x there ∙ ap (λ s. Some (acquire_at s)) is

  pub unqueued : (s : CellStage) → x.stage ≡ s → ((n : ℕ) → s ≡ Queued n → ⊥) → IsUnqueued (get acquires f)
  unqueued s is none = subst IsUnqueued (sym (its_acquire s is)) (unqueued_at s none)

  pub still_insert : (s : CellStage) → x.stage ≡ s → insert acquires f (acquire_at s) ≡ acquires
  still_insert s is = insert_same acquires f (acquire_at s) (its_acquire s is)

  pub running_held : is_running x ≡ true → 1 ≤ held_of e.cell.permit
  running_held is =
      let one : ◌≡◌ {A = ℕ} (cond (is_running x) 1 0) 1 = ap (λ b. cond b 1 0) is in
      omega (arith, one, tied.held, total-has (λ k (x : FutureEntry). cond (is_running x) 1 0) fs f x there)

  may_at : (s : CellStage) → x.stage ≡ s → StageFits true s → MayPoll e.cell.permit s
  may_at New is fits = tt
  may_at (Queued n) is fits = tied.linked.home f (acquire.Queued 1 n) (its_acquire (Queued n) is)
  may_at Running is fits = running_held (ap runs_at is)
  may_at Done is fits = absurd fits

  pub may_poll : MayPoll e.cell.permit x.stage
  may_poll = may_at x.stage refl (fits_any (is_caller x.errand) x.stage (tied.each f x there).stage)

  pub may_end : MayEnd e.cell.permit x.stage
  may_end = end_at e.cell.permit x.stage may_poll

  pub some_futures : 1 ≤ e.futures
  some_futures = omega (arith, tied.futures, len-some fs f x there)

  pub some_alone : cond (is_alone x.errand) 1 0 ≤ e.alone
  some_alone = omega (arith, tied.alone, total-has (λ k (x : FutureEntry). cond (is_alone x.errand) 1 0) fs f x there)

  -- the waker that is kept is of one who may run
  pub runs_may : runs e.running f ≡ true → MayRun x
  runs_may = at e.running refl
    where
      at : (r : Option NamedWaker) → e.running ≡ r → runs r f ≡ true → MayRun x
      at None is run = absurd (cc)
      at (Some k) is run =
          let it = tied.runner k is in
          let same : it.0 ≡ x = inside (sym it.1 ∙ ap (get fs) (eqb-true k.name f run) ∙ there) in
          subst MayRun same it.2

  pub runs_not : is_alone x.errand ≡ false → is_running x ≡ false → runs e.running f ≡ false
  runs_not shares none = at (runs e.running f) refl
    where
      at : (b : Bool) → runs e.running f ≡ b → runs e.running f ≡ false
      at false idle = idle
      at true run = absurd (let may : cond (is_alone x.errand) true (is_running x) ≡ true = runs_may run in let no : cond (is_alone x.errand) true (is_running x) ≡ false = ap (λ b. cond b true (is_running x)) shares ∙ none in cc)

  -- ---- it changes, with its cell and the waker that is kept
  module _ (c : NamedCell) (q : Option NamedWaker) (y : FutureEntry) (same : is_alone y.errand ≡ is_alone x.errand) where
    before : (g : ℕ) (z : FutureEntry) → get (insert fs f y) g ≡ Some z → (v : FutureEntry) × (get fs g ≡ Some v) × (is_alone v.errand ≡ is_alone z.errand)
    before g z = by_put fs f y (λ g o. o ≡ Some z → (v : FutureEntry) × (get fs g ≡ Some v) × (is_alone v.errand ≡ is_alone z.errand))
        (λ is. (x, there, sym same ∙ ap (λ (x : FutureEntry). is_alone x.errand) (inside is))) (λ g apart is. (z, is, refl)) g

    pub changed : Linked c.permit.queue c.permit.granted (insert acquires f (acquire_of y)) → held_of c.permit + cond (is_running x) 1 0 ≡ held_of e.cell.permit + cond (is_running y) 1 0 → ((k : NamedWaker) → q ≡ Some k → e.running ≡ Some k) → (MayRun x → MayRun y)
        → ((g : ℕ) (z : FutureEntry) → get (insert fs f y) g ≡ Some z → IsFuture once c.waits g z) → Tied once (record e { cell = c; running = q }) (insert fs f y)
    changed linked held runner may each = record {
      linked = rw (seen-insert acquire_of fs f y) linked;
      held =
          let had : weight (λ k (x : FutureEntry). cond (is_running x) 1 0) f (get fs f) ≡ cond (is_running x) 1 0 = ap (weight (λ k (x : FutureEntry). cond (is_running x) 1 0) f) there in
          omega (arith, tied.held, held, had, count-put fs f is_running y);
      runner = λ k is. let it = tied.runner k (runner k is) in
          by_put fs f y (λ g o. (z : FutureEntry) → get fs g ≡ Some z → MayRun z → (v : FutureEntry) × (o ≡ Some v) × MayRun v)
          (λ z is run. (y, refl, may (subst MayRun (inside (sym is ∙ there)) run))) (λ g apart z is run. (z, is, run)) k.name it.0 it.1 it.2;
      each = each;
      single = λ g j a b one two alone. let first = before g a one in let second = before j b two in tied.single g j first.0 second.0 first.1 second.1 (first.2 ∙ alone);
      futures = omega (arith, tied.futures, len-over fs f y x there);
      alone = omega (arith, tied.alone, count-over fs f (λ (x : FutureEntry). is_alone x.errand) y x there same);
    }

  -- it changes its stage
  pub turned : (c : NamedCell) (s : CellStage) → StageFits (is_caller x.errand) s → (runs_at x.stage ≡ true → runs_at s ≡ true) → Linked c.permit.queue c.permit.granted (insert acquires f (acquire_at s)) → HoldsAs e.cell.permit x.stage c.permit s → c.waits ≡ e.cell.waits
      → Tied once (record e { cell = c }) (insert fs f (record x { stage = s }))
  turned c s stage run linked held waits = changed c e.running (record x { stage = s }) refl linked (omega (arith, held, held_is x.stage, held_is s)) (λ k is. is) (may_still (is_alone x.errand))
      (by_put fs f (record x { stage = s }) (λ g o. (z : FutureEntry) → o ≡ Some z → IsFuture once c.waits g z)
      (λ z is. subst (IsFuture once c.waits f) (inside is) (rw waits (let it = tied.each f x there in record { fits = it.fits; stage = stage; slot = it.slot; place = it.place })))
      (λ g apart z is. rw waits (tied.each g z is)))
    where
      may_still : (alone : Bool) → cond alone true (runs_at x.stage) ≡ true → cond alone true (runs_at s) ≡ true
      may_still true is = refl
      may_still false is = run is

  -- ---- it is gone, and its initialiser keeps no waker
  pub departs : (c : NamedCell) → Linked c.permit.queue c.permit.granted (remove acquires f) → held_of c.permit + cond (is_running x) 1 0 ≡ held_of e.cell.permit
      → ((g : ℕ) (y : FutureEntry) → get fs g ≡ Some y → SlotIs c.waits g y.wait) → Tied once (finished (stopped (record e { cell = c }) f) x.errand) (remove fs f)
  departs c linked held slots = record {
    linked = rw (seen-remove acquire_of fs f) linked;
    held = omega (arith, tied.held, held, count-gone fs f is_running x there);
    runner = λ k is. kept e.running refl k is;
    each = λ g y is. let had = removed_there fs f g y is in let it = tied.each g y had in record { fits = it.fits; stage = it.stage; slot = slots g y had; place = it.place };
    single = λ g j y z one two alone. tied.single g j y z (removed_there fs f g y one) (removed_there fs f j z two) alone;
    futures = omega (arith, tied.futures, len-some fs f x there, len-gone fs f x there);
    alone = omega (arith, tied.alone, count-gone fs f (λ (x : FutureEntry). is_alone x.errand) x there);
  }
    where
      kept : (r : Option NamedWaker) → e.running ≡ r → (k : NamedWaker) → cond (runs r f) None r ≡ Some k → (y : FutureEntry) × (get (remove fs f) k.name ≡ Some y) × MayRun y
      kept None is k it = absurd (cc)
      kept (Some j) is k it = at (j.name == f) refl it
        where
          at : (b : Bool) → (j.name == f) ≡ b → cond b None (Some j) ≡ Some k → (y : FutureEntry) × (get (remove fs f) k.name ≡ Some y) × MayRun y
          at true mine it = absurd (cc)
          at false other it =
              let same : j ≡ k = inside it in
              let had = tied.runner k (is ∙ it) in
              (had.0, get-removed_other fs f k.name (λ same_name. absurd (let yes : (j.name == f) ≡ true = eq-eqb j.name f (ap (λ (k : NamedWaker). k.name) same ∙ sym same_name) in cc)) ∙ had.1, had.2)

  -- ---- it keeps a waker while its initialiser is not settled
  pub keeps_waker : (k : NamedWaker) → k.name ≡ f → MayRun x → Tied once (record e { running = Some k }) fs
  keeps_waker k mine may = record {
    linked = tied.linked;
    held = tied.held;
    runner = λ j is. let same : k ≡ j = inside is in (x, ap (get fs) (sym (ap (λ (k : NamedWaker). k.name) same) ∙ mine) ∙ there, may);
    each = tied.each;
    single = tied.single;
    futures = tied.futures;
    alone = tied.alone;
  }

  -- where it has the only turn, no other initialiser runs
  pub nobody_runs : runs e.running f ≡ false → MayRun x → held_of e.cell.permit ≤ 1 → e.running ≡ None
  nobody_runs out may few = none_if e.running (λ k is.
      let it = tied.runner k is in
      both_run k (λ same. absurd (let yes : runs e.running f ≡ true = ap (λ r. runs r f) is ∙ eq-eqb k.name f same in cc)) it.0 it.1 (is_alone x.errand) (is_alone it.0.errand) refl refl may it.2)
    where
      both_run : (k : NamedWaker) → (k.name ≡ f → ⊥) → (z : FutureEntry) → get fs k.name ≡ Some z → (a b : Bool) → is_alone x.errand ≡ a → is_alone z.errand ≡ b → cond a true (is_running x) ≡ true → cond b true (is_running z) ≡ true → ⊥
      both_run k other z is true b alone_x alone_z run_x run_z = other (sym (tied.single f k.name x z there is alone_x))
      both_run k other z is false true alone_x alone_z run_x run_z = other (tied.single k.name f z x is there alone_z)
      both_run k other z is false false alone_x alone_z run_x run_z =
          let one : ◌≡◌ {A = ℕ} (cond (is_running x) 1 0) 1 = ap (λ b. cond b 1 0) run_x in
          let two : ◌≡◌ {A = ℕ} (cond (is_running z) 1 0) 1 = ap (λ b. cond b 1 0) run_z in
          let rest = total-has (λ k (x : FutureEntry). cond (is_running x) 1 0) (remove fs f) k.name z (get-removed_other fs f k.name (λ same. other (sym same)) ∙ is) in
          absurd (omega (arith, few, tied.held, one, two, rest, count-gone fs f is_running x there))

-- ---- what is granted does not wait
pub not_waiting : (s : Core NamedWaker) → IsOnePermit s → (n d : ℕ) → get s.granted n ≡ Some d → waiting s.queue n ≡ None
not_waiting s is n d granted = none_if (waiting s.queue n) (λ p some. absurd (let none = is.granted_apart n (λ none. absurd (cc)) in cc))

pub not_granted : (s : Core NamedWaker) → IsOnePermit s → (n : ℕ) (p : ℕ × ℕ) → waiting s.queue n ≡ Some p → get s.granted n ≡ None
not_granted s is n p waits = is.granted_apart n (λ none. absurd (cc))

pub held_few : (s : Core NamedWaker) → IsOnePermit s → held_of s ≤ 1
held_few s is = omega (arith, is.total, is.one)

-- ---- a future is made
pub begins : (once : Bool) (e : KeptCell) (fs : Names FutureEntry) (f : ℕ) (x : FutureEntry) → Tied once e fs → get fs f ≡ None → fits once x.errand ≡ true → x.stage ≡ New → x.wait ≡ None → IsAbsent e.cell.waits.wakers f
    → (is_alone x.errand ≡ true → e.futures ≡ 0) → (is_alone x.errand ≡ false → e.alone ≡ 0) → Tied once (begun e x.errand) (insert fs f x)
begins once e fs f x tied none fit new unplaced absent whole shared =
    let no_turn : ◌≡◌ {A = ℕ} (cond (is_running x) 1 0) 0 = ap (λ s. cond (runs_at s) 1 0) new in
    record {
      linked = rw (seen-insert acquire_of fs f x, ap acquire_at new)
          (linked_begun e.cell.permit.queue e.cell.permit.granted (seen acquire_of fs) tied.linked f (subst IsUnqueued (sym (seen-none acquire_of fs f none)) tt) 1);
      held = omega (arith, tied.held, no_turn, count-new fs f is_running x none);
      runner = λ k is. let it = tied.runner k is in
          by_put fs f x (λ g o. (z : FutureEntry) → get fs g ≡ Some z → MayRun z → (v : FutureEntry) × (o ≡ Some v) × MayRun v) (λ z is may. absurd (cc)) (λ g apart z is may. (z, is, may)) k.name it.0 it.1 it.2;
      each = by_put fs f x (λ g o. (z : FutureEntry) → o ≡ Some z → IsFuture once e.cell.waits g z)
          (λ z is. subst (IsFuture once e.cell.waits f) (inside is) (record { fits = fit; stage = subst (StageFits (is_caller x.errand)) (sym new) (new_fits (is_caller x.errand)); slot = subst (SlotIs e.cell.waits f) (sym unplaced) (record { given = refl; stands = λ h. absurd (cc); absent = λ h. absent }); place = λ h. unplaced }))
          (λ g apart z is. tied.each g z is);
      single = λ g j y z one two alone. pairs g j y z one two alone;
      futures = omega (arith, tied.futures, len-new fs f x none);
      alone = omega (arith, tied.alone, count-new fs f (λ (x : FutureEntry). is_alone x.errand) x none);
    }
  where
    new_fits : (b : Bool) → StageFits b New
    new_fits true = tt
    new_fits false = tt

    nobody : e.futures ≡ 0 → (g : ℕ) (y : FutureEntry) → get fs g ≡ Some y → ⊥
    nobody empty g y is = absurd (omega (arith, tied.futures, empty, len-some fs g y is))

    none_alone : e.alone ≡ 0 → (g : ℕ) (y : FutureEntry) → get fs g ≡ Some y → is_alone y.errand ≡ true → ⊥
    none_alone empty g y is alone =
        let one : ◌≡◌ {A = ℕ} (cond (is_alone y.errand) 1 0) 1 = ap (λ b. cond b 1 0) alone in
        absurd (omega (arith, tied.alone, empty, one, total-has (λ k (x : FutureEntry). cond (is_alone x.errand) 1 0) fs g y is))

    old_new : (b : Bool) → is_alone x.errand ≡ b → (g : ℕ) (y : FutureEntry) → get fs g ≡ Some y → is_alone y.errand ≡ true → f ≡ g
    old_new true alone g y is mine = absurd (nobody (whole alone) g y is)
    old_new false shares g y is mine = absurd (none_alone (shared shares) g y is mine)

    pairs : (g j : ℕ) (y z : FutureEntry) → get (insert fs f x) g ≡ Some y → get (insert fs f x) j ≡ Some z → is_alone y.errand ≡ true → g ≡ j
    pairs g j y z one two alone = by_put fs f x (λ g o. o ≡ Some y → g ≡ j)
        (λ is. by_put fs f x (λ j p. p ≡ Some z → f ≡ j) (λ it. refl) (λ j apart it. absurd (nobody (whole (ap (λ (x : FutureEntry). is_alone x.errand) (inside is) ∙ alone)) j z it)) j two)
        (λ g apart is. by_put fs f x (λ j p. p ≡ Some z → g ≡ j) (λ it. sym (old_new (is_alone x.errand) refl g y is alone)) (λ j other it. tied.single g j y z is it alone) j two) g one

-- ---- a cell that has no future is idle
entries_empty : entries (empty {X = ℕ} {R = nat_cmp}) ≡ []
entries_empty = at (entries (empty {X = ℕ} {R = nat_cmp})) (sym (len-entries (empty {X = ℕ} {R = nat_cmp})) ∙ len-empty nat_cmp ℕ)
  where
    at : (es : List (ℕ × ℕ)) → length es ≡ 0 → es ≡ []
    at [] is = refl
    at (x ∷ es) is = absurd (omega arith)

pub free_where : (s : Core NamedWaker) → IsOnePermit s → s.queue ≡ [] → s.granted ≡ empty → held_of s ≡ 0 → s.free ≡ 1
free_where s is no_queue no_granted none_held =
    let queued : sum_by {X = Waiter NamedWaker × ℕ} (λ e. paid_to e.0 e.1) s.queue ≡ 0 = ap (sum_by {X = Waiter NamedWaker × ℕ} (λ e. paid_to e.0 e.1)) no_queue in
    let paid : sum_by (λ d. d) (values s.granted) ≡ 0 = ap (λ m. sum_by (λ d. d) (values m)) no_granted ∙ ap (λ es. sum_by (λ d. d) (map (λ (e : ℕ × ℕ). e.1) es)) entries_empty in
    omega (arith, is.total, is.one, none_held, queued, paid)

pub holds_none : {X : Type 0} (m : Names X) → ((k : ℕ) (x : X) → get m k ≡ Some x → ⊥) → m ≡ empty
holds_none m none = same_named m empty (λ k. is_absent (get m k) (λ some. let there = value_in (get m k) some in none k there.0 there.1) ∙ sym (get-empty nat_cmp k))

-- where no acquire waits under a number, nobody waits
pub nobody_queued : (q : Queue) (acquires : Names Acquire) → AskForOne q → AreOf acquires q → ((f d n : ℕ) → get acquires f ≡ Some (acquire.Queued d n) → ⊥) → q ≡ []
nobody_queued [] acquires asks are none = refl
nobody_queued ((Acquires n d k, l) ∷ q) acquires asks are none = absurd (none k.name d n are.0)
nobody_queued ((Owes, l) ∷ q) acquires asks are none = absurd asks

module _ (once : Bool) (e : KeptCell) (fs : Names FutureEntry) (kept : AreKept once e fs) (none : e.futures ≡ 0) where
  no_future : (f : ℕ) (x : FutureEntry) → get fs f ≡ Some x → ⊥
  no_future f x is = absurd (omega (arith, kept.tied.futures, none, len-some fs f x is))

  nothing : fs ≡ empty
  nothing = holds_none fs no_future

  none_held : held_of e.cell.permit ≡ 0
  none_held = omega (arith, kept.tied.held, ap (count is_running) nothing, total-empty (λ k (x : FutureEntry). cond (is_running x) 1 0))

  acquires_none : (f : ℕ) (a : Acquire) → get (seen acquire_of fs) f ≡ Some a → ⊥
  acquires_none f a is = let one = seen-back acquire_of fs f a is in no_future f one.0 one.1

  pub no_queue : e.cell.permit.queue ≡ []
  no_queue = nobody_queued e.cell.permit.queue (seen acquire_of fs) kept.sound.permit.asks kept.tied.linked.waits (λ f d n. acquires_none f (acquire.Queued d n))

  no_granted : e.cell.permit.granted ≡ empty
  no_granted = holds_none e.cell.permit.granted (λ n d is. let one = kept.tied.linked.owned n d is in acquires_none one.0 (acquire.Queued d n) one.1)

  pub idle : e.cell.permit.free ≡ 1
  idle = free_where e.cell.permit kept.sound.permit no_queue no_granted none_held

-- a new cell
pub new_tied : (once : Bool) (c : NamedCell) (v : Option ℕ) → IsNewCell c v → Tied once (record { cell = c; running = None; futures = 0; alone = 0 }) empty
new_tied once c v new = record {
  linked = rw (new.queue, new.granted, seen-empty acquire_of) (record {
    waits = tt;
    home = λ f a there. absurd (nothing_at Acquire f a there);
    owned = λ n d there. absurd (nothing_at ℕ n d there);
    apart = λ f g d e n there also. absurd (nothing_at Acquire f (acquire.Queued d n) there);
  });
  held = omega (arith, new.held, total-empty (λ k (x : FutureEntry). cond (is_running x) 1 0));
  runner = λ k is. absurd (cc);
  each = λ f x there. absurd (nothing_at FutureEntry f x there);
  single = λ f g x y there. absurd (nothing_at FutureEntry f x there);
  futures = omega (arith, len-empty nat_cmp FutureEntry);
  alone = omega (arith, total-empty (λ k (x : FutureEntry). cond (is_alone x.errand) 1 0));
}

-- who neither waits for a call that runs once nor uses its cell alone asks for its turn
pub asks_turn : (once : Bool) (j : Errand) → fits once j ≡ true → (if once then is_wait j else is_alone j) ≡ false → is_caller j ≡ true
asks_turn true (Alone q) fit other = absurd (let no : false ≡ true = fit in cc)
asks_turn false (Alone q) fit other = absurd (let no : true ≡ false = other in cc)
asks_turn true Awaits fit other = absurd (let no : true ≡ false = other in cc)
asks_turn false Awaits fit other = absurd (let no : false ≡ true = fit in cc)
asks_turn once _ fit other = refl
