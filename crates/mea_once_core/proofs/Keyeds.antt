-- what a map or a group of calls keeps
use Rattle.std.proofs.Common.{◌≡◌, ◌≢◌, ◌∙◌, ℕ, ◌+◌, ◌-◌, ◌≤◌, ◌==◌, ◌&&◌, ◌++◌, Bool, true, false, not, cond, List, [], length, Option, Some, None, unwrap_or, Result, Ok, Err, is_err, OnOk, IfOk, IfErr, IsTrue, ◌↔◌, MatchOption, MatchResult, IsSome, IfSome, is_some, append-nil, refl, ap, sym, subst, arith}
use Rattle.std.specs.Map.{lookup}
use Rattle.mea_base.specs.declared.no_memory.NoMemory.{NoMemory}
use Rattle.mea_base.specs.Outbox.{Wakes}
use Rattle.mea_sets.specs.Poll.{Poll, Ready, Pending}
use Rattle.mea_base.proofs.Maps.{value_in}
use Rattle.mea_once_core.specs.declared.key_call.KeyStage.TheVariants.{Kept, Done}
use Rattle.mea_once_core.specs.Cell.{Cell, RunsInit, Enters, PollsStage, Finds, given_up, AddAtMost, queues_more, rested}
use Rattle.mea_once_core.specs.Links.{Shown, shown_at, Changes, left}
use Rattle.mea_once_core.specs.Table.{Table, entry_at, HasCaller, IsSame, Sets, Joins, Unlists, NumbersGo, Retires, is_last, RestsEntry, Makes, fresh_entry, empty_cell}
use Rattle.mea_once_core.specs.Inserts.{IsIdle}
use Rattle.mea_once_core.specs.Waiting.{waiting_at, waiting_in, AreQuiet}
use Rattle.mea_once_core.specs.Keyed.{Keyed, IsSameKeyed, Computed, LeavesEntry, GivesUp, StepsCell, AfterCellPoll, FindsValue, AsksCell, PollsCaller}
use Rattle.mea_once_core.specs.declared.entry.Entry.{Entry}
use Rattle.mea_once_core.specs.declared.init_call.InitCall.{InitCall}
use Rattle.mea_once_core.specs.declared.cell_stage.CellStage.{CellStage}
use Rattle.mea_once_core.specs.declared.cell_stage.CellStage.TheVariants as stages
use Rattle.mea_once_core.specs.declared.key_call.KeyStage.{KeyStage}
use Rattle.mea_once_core.specs.Permit.{Waits}
use Rattle.std.specs.FinMap as map
use Rattle.mea_once_core.proofs.Tables.{gives-up, changes-twice, and-true, and-false, same-changes, at_entry, same_entry}
use Rattle.mea_once_core.proofs.Onces.{refused}
use Rattle.mea_once_core.proofs.Waits.{same-waiting, waiting-changes, quiet-changes, at-most}

module _ {V W : Type 0} where
  -- where the cell of one entry stays, all cells rest and as many wait
  pub kept : (xs ys : List (Option (Entry V W))) (n : ℕ) (e f : Shown V W) → shown_at xs n ≡ Some e → Changes xs ys n (Some f) → f.cell ≡ e.cell → AreQuiet xs → AreQuiet ys × (waiting_in ys ≡ waiting_in xs)
  kept xs ys n e f is c same quiet =
      let sum : waiting_in ys + waiting_at (Some e) ≡ waiting_in xs + waiting_at (Some f) = waiting-changes xs ys n (Some e) (Some f) is c in
      let count : waiting_at (Some f) ≡ waiting_at (Some e) = ap (λ (x : Cell V W). length x.permit.queue) same in
      (quiet-changes xs ys n (Some f) (λ s there. ap (λ (x : Shown V W). x.cell.permit.wakes) (sym (same_entry f s there)) ∙ ap (λ (x : Cell V W). x.permit.wakes) same ∙ quiet n e is) c quiet, omega arith)

  -- where an entry goes
  pub kept-without : (xs ys : List (Option (Entry V W))) (n : ℕ) (e : Shown V W) → shown_at xs n ≡ Some e → Changes xs ys n None → AreQuiet xs → AreQuiet ys × (waiting_in ys + length e.cell.permit.queue ≡ waiting_in xs)
  kept-without xs ys n e is c quiet =
      let sum : waiting_in ys + length e.cell.permit.queue ≡ waiting_in xs + 0 = waiting-changes xs ys n (Some e) None is c in
      (quiet-changes xs ys n None (λ s there. absurd (let both : ◌≡◌ {A = Option (Shown V W)} None (Some s) = there in cc)) c quiet, omega arith)

  pub queue-within : (xs : List (Option (Entry V W))) (n : ℕ) (e : Shown V W) → shown_at xs n ≡ Some e → length e.cell.permit.queue ≤ waiting_in xs
  queue-within xs n e is = let most : waiting_at (shown_at xs n) ≤ waiting_in xs = at-most xs n in let here : waiting_at (shown_at xs n) ≡ length e.cell.permit.queue = ap waiting_at is in omega arith

  -- what is left of an entry, by whether it is in use
  pub left-some : (b : Bool) (e s : Shown V W) → ◌≡◌ {A = Option (Shown V W)} (cond b None (Some e)) (Some s) → s ≡ e
  left-some true e s is = absurd (cc)
  left-some false e s is = sym (same_entry e s is)

  stays-or-goes : (o : Option (Shown V W)) (b : Bool) (e : Shown V W) → o ≡ cond b None (Some e) → IsSome o → o ≡ Some e
  stays-or-goes o true e is some = absurd (let there : is_some {T = Shown V W} None ≡ true = ap is_some (sym is) ∙ some in cc)
  stays-or-goes o false e is some = is

  goes-or-stays : (o : Option (Shown V W)) (b : Bool) (e : Shown V W) → o ≡ cond b None (Some e) → (IsSome o → ⊥) → o ≡ None
  goes-or-stays o true e is none = is
  goes-or-stays o false e is none = absurd (none (ap is_some is))

module _ {K V W : Type 0} (eq : K → K → Bool) where
  pub given-up : (k k' : Keyed K V W) (n : ℕ) (once : Bool) (e : Shown V W) → once ≡ true → entry_at k.table n ≡ Some e → 1 ≤ e.callers → IfSome (entry_at k.table n) (λ s. s.listed ≡ true → Unlists eq k.table k'.table n)
      → IfSome (entry_at k.table n) (λ s. s.listed ≡ false → IsSame eq k.table k'.table) → k'.wakes ≡ k.wakes → GivesUp eq once k n e k'
  given-up k k' n once e is_once is some listed away wakes =
      let told = gives-up eq k.table k'.table n e is some listed away in
      let none : (e.listed && not once) ≡ false = ap (λ b. e.listed && not b) is_once ∙ and-false e.listed in
      let all : (e.listed && once) ≡ e.listed = ap (λ b. e.listed && b) is_once ∙ and-true e.listed in
      record {
        entries = subst (λ b. Changes k.table.slots k'.table.slots n (Some (record e { listed = b }))) (sym none) told.0;
        numbers = subst (λ b. NumbersGo eq b k.table k'.table n) (sym all) told.1;
        wakes = wakes;
      }

  pub given-none : (k k' : Keyed K V W) (n : ℕ) (once : Bool) (e : Shown V W) → once ≡ false → entry_at k.table n ≡ Some e → k' ≡ k → GivesUp eq once k n e k'
  given-none k k' n once e is_not is same =
      let stays : (e.listed && not once) ≡ e.listed = ap (λ b. e.listed && not b) is_not ∙ and-true e.listed in
      let none : (e.listed && once) ≡ false = ap (λ b. e.listed && b) is_not ∙ and-false e.listed in
      record {
        entries = subst (λ b. Changes k.table.slots k'.table.slots n (Some (record e { listed = b }))) (sym stays) (same-changes eq k.table.slots k'.table.slots n e (λ m. ap (λ (x : Keyed K V W). shown_at x.table.slots m) same) is);
        numbers = subst (λ b. NumbersGo eq b k.table k'.table n) (sym none) (λ key. ap (λ (x : Keyed K V W). lookup (eq key) x.table.pairs) same);
        wakes = ap (λ (x : Keyed K V W). x.wakes) same;
      }

  pub given-there : (k k' : Keyed K V W) (n : ℕ) (once : Bool) → HasCaller k.table n → ((e : Shown V W) → entry_at k.table n ≡ Some e → GivesUp eq once k n e k') → HasCaller k'.table n
  given-there k k' n once has gives = (record has.0 { listed = has.0.listed && not once }, (gives has.0 has.1).entries.changed, has.2)

  pub same-keyed : (k : Keyed K V W) → IsSameKeyed eq k k
  same-keyed k = ((λ n. refl, λ key. refl), refl)

  pub computed-none : (E : Type 0) (k k' : Keyed K V W) (n : ℕ) (once : Bool) (e : Shown V W) (m : NoMemory) → GivesUp eq once k n e k' → Computed eq {E = E} once k n e (Err (None, m)) k' (Kept n)
  computed-none E k k' n once e m gives = (k', gives, (refl, same-keyed k', refl))

  pub computed-some : (E : Type 0) (k b k' : Keyed K V W) (n : ℕ) (once : Bool) (e : Shown V W) (v : V) → GivesUp eq once k n e b → IfSome (entry_at b.table n) (λ s. s.cell.value ≡ Some v) → ((s : Shown V W) → entry_at b.table n ≡ Some s → LeavesEntry eq b n s k')
      → Computed eq {E = E} once k n e (Ok (Ready (Ok v))) k' Done
  computed-some E k b k' n once e v gives value leave =
      let e1 : Shown V W = record e { listed = e.listed && not once } in
      (b, gives, (v, at_entry (λ s. s.cell.value ≡ Some v) (entry_at b.table n) e1 gives.entries.changed value, refl, leave e1 gives.entries.changed, refl))

  pub kept-given : (t t' : Table K V W) (n : ℕ) → HasCaller t n → IfSome (entry_at t n) (λ s. s.listed ≡ true → Unlists eq t t' n) → IfSome (entry_at t n) (λ s. s.listed ≡ false → IsSame eq t t') → AreQuiet t.slots
      → AreQuiet t'.slots × (waiting_in t'.slots ≡ waiting_in t.slots)
  kept-given t t' n has listed away quiet =
      let told = gives-up eq t t' n has.0 has.1 has.2 listed away in
      kept t.slots t'.slots n has.0 (record has.0 { listed = false }) has.1 told.0 refl quiet

  pub kept-joined : (t t' : Table K V W) (n : ℕ) (e : Shown V W) → entry_at t n ≡ Some e → Joins eq t t' n → AreQuiet t.slots → AreQuiet t'.slots × (waiting_in t'.slots ≡ waiting_in t.slots)
  kept-joined t t' n e is joined quiet = kept t.slots t'.slots n e (record e { callers = e.callers + 1 }) is (joined e is).0 refl quiet

  -- ---- leaving
  retired : Shown V W → Shown V W
  retired e = record e { listed = e.listed && not (is_last e) }

  pub leaves : (k k' : Keyed K V W) (u : Table K V W) (n : ℕ) (e : Shown V W) → Retires eq k.table n e u → ((s : Shown V W) → entry_at u n ≡ Some s → Sets eq u k'.table n (left s)) → k'.wakes ≡ k.wakes → LeavesEntry eq k n e k'
  leaves k k' u n e retire sets wakes =
      let told = sets (record e { listed = e.listed && not (is_last e) }) retire.entries.changed in
      record {
        entries = changes-twice k.table.slots u.slots k'.table.slots n (Some (record e { listed = e.listed && not (is_last e) })) (left (record e { listed = e.listed && not (is_last e) })) retire.entries told.0;
        numbers = by_numbers (e.listed && is_last e) retire.numbers told.1;
        wakes = wakes;
      }
    where
      by_numbers : (b : Bool) → NumbersGo eq b k.table u n → ((key : K) → lookup (eq key) k'.table.pairs ≡ lookup (eq key) u.pairs) → NumbersGo eq b k.table k'.table n
      by_numbers true gone same = (gone.0, gone.1, λ key. same key ∙ gone.2 key)
      by_numbers false gone same = λ key. same key ∙ gone key

  pub retired-there : (t u : Table K V W) (n : ℕ) → HasCaller t n → ((e : Shown V W) → entry_at t n ≡ Some e → Retires eq t n e u) → HasCaller u n
  retired-there t u n has retire = (record has.0 { listed = has.0.listed && not (is_last has.0) }, (retire has.0 has.1).entries.changed, has.2)

  -- as many wait after a caller has left, without those of an entry that goes
  pub kept-left : (t u t' : Table K V W) (n : ℕ) → HasCaller t n → ((e : Shown V W) → entry_at t n ≡ Some e → Retires eq t n e u) → ((s : Shown V W) → entry_at u n ≡ Some s → Sets eq u t' n (left s)) → AreQuiet t.slots → IsSome (entry_at t' n)
      → AreQuiet t'.slots × (waiting_in t'.slots ≡ waiting_in t.slots)
  kept-left t u t' n has retire sets quiet some =
      let e1 : Shown V W = record has.0 { listed = has.0.listed && not (is_last has.0) } in
      let told = retire has.0 has.1 in
      let second = sets e1 told.entries.changed in
      let first = kept t.slots u.slots n has.0 e1 has.1 told.entries refl quiet in
      let stays : entry_at t' n ≡ Some (record e1 { callers = e1.callers - 1 }) = stays-or-goes (entry_at t' n) ((e1.callers == 1) && not e1.listed) (record e1 { callers = e1.callers - 1 }) second.0.changed some in
      let then = kept u.slots t'.slots n e1 (record e1 { callers = e1.callers - 1 }) told.entries.changed (record { changed = stays; others = second.0.others }) refl first.0 in
      (then.0, then.1 ∙ first.1)

  pub kept-gone : (t u t' : Table K V W) (n q : ℕ) (c : Cell V W) → HasCaller t n → ((e : Shown V W) → entry_at t n ≡ Some e → Retires eq t n e u) → ((s : Shown V W) → entry_at u n ≡ Some s → Sets eq u t' n (left s)) → AreQuiet t.slots
      → IfSome (entry_at u n) (λ s. c ≡ s.cell) → q ≡ length c.permit.queue → (IsSome (entry_at t' n) → ⊥)
      → AreQuiet t'.slots × (waiting_in t'.slots + q ≡ waiting_in t.slots)
  kept-gone t u t' n q c has retire sets quiet is_cell count none =
      let e1 : Shown V W = record has.0 { listed = has.0.listed && not (is_last has.0) } in
      let told = retire has.0 has.1 in
      let second = sets e1 told.entries.changed in
      let first = kept t.slots u.slots n has.0 e1 has.1 told.entries refl quiet in
      let goes : entry_at t' n ≡ None = goes-or-stays (entry_at t' n) ((e1.callers == 1) && not e1.listed) (record e1 { callers = e1.callers - 1 }) second.0.changed none in
      let then = kept-without u.slots t'.slots n e1 told.entries.changed (record { changed = goes; others = second.0.others }) first.0 in
      let cell : c ≡ e1.cell = (let P : Option (Shown V W) → Type 0 = λ o. IfSome o (λ s. c ≡ s.cell) in subst P told.entries.changed is_cell) in
      let same : q ≡ length e1.cell.permit.queue = count ∙ ap (λ (x : Cell V W). length x.permit.queue) cell in
      (then.0, ap (λ m. waiting_in t'.slots + m) same ∙ then.1 ∙ first.1)

  pub left-within : (t u : Table K V W) (n q : ℕ) (c : Cell V W) → HasCaller t n → ((e : Shown V W) → entry_at t n ≡ Some e → Retires eq t n e u) → IfSome (entry_at u n) (λ s. c ≡ s.cell) → q ≡ length c.permit.queue → q ≤ waiting_in t.slots
  left-within t u n q c has retire is_cell count =
      let e1 : Shown V W = record has.0 { listed = has.0.listed && not (is_last has.0) } in
      let told = retire has.0 has.1 in
      let cell : c ≡ e1.cell = (let P : Option (Shown V W) → Type 0 = λ o. IfSome o (λ s. c ≡ s.cell) in subst P told.entries.changed is_cell) in
      let same : q ≡ length has.0.cell.permit.queue = count ∙ ap (λ (x : Cell V W). length x.permit.queue) cell in
      let most : length has.0.cell.permit.queue ≤ waiting_in t.slots = queue-within t.slots n has.0 has.1 in
      omega arith

  -- the count of who waits, without those of an entry that is in use no more
  pub counted-left : (t u t' : Table K V W) (n q count spare : ℕ) (c : Cell V W) (in_use : Bool) → HasCaller t n → ((e : Shown V W) → entry_at t n ≡ Some e → Retires eq t n e u) → ((s : Shown V W) → entry_at u n ≡ Some s → Sets eq u t' n (left s)) → AreQuiet t.slots
      → IfSome (entry_at u n) (λ s. c ≡ s.cell) → q ≡ length c.permit.queue → (IsTrue in_use ↔ IsSome (entry_at t' n)) → count ≡ waiting_in t.slots → count ≤ spare
      → AreQuiet t'.slots × (cond in_use count (count - q) ≡ waiting_in t'.slots) × (cond in_use count (count - q) ≤ spare)
  counted-left t u t' n q count spare c true has retire sets quiet is_cell queue used counted room =
      let k = kept-left t u t' n has retire sets quiet (used.0 refl) in (k.0, counted ∙ sym k.1, room)
  counted-left t u t' n q count spare c false has retire sets quiet is_cell queue used counted room =
      let k = kept-gone t u t' n q c has retire sets quiet is_cell queue (λ some. absurd (let no = used.1 some in cc)) in
      let sum = k.1 in
      (k.0, omega arith, omega arith)

  -- ---- a cell changes, and its wakers move
  -- the wakers that a cell has made ready have room
  pub room-after : (t u : Table K V W) (n k waiting spare : ℕ) (e : Shown V W) (c : Cell V W) → entry_at t n ≡ Some e → AreQuiet t.slots → waiting ≡ waiting_in t.slots → AddAtMost k e.cell c → Sets eq t u n (Some (record e { cell = c })) → waiting + k ≤ spare
      → (s : Shown V W) → entry_at u n ≡ Some s → length s.cell.permit.wakes ≤ spare
  room-after t u n k waiting spare e c is quiet counted few sets room s there =
      let none : length e.cell.permit.wakes ≡ 0 = ap length (quiet n e is) in
      let within : length e.cell.permit.queue ≤ waiting_in t.slots = queue-within t.slots n e is in
      let same : c ≡ s.cell = ap (λ (x : Shown V W). x.cell) (same_entry (record e { cell = c }) s (sym sets.0.changed ∙ there)) in
      let count : length s.cell.permit.wakes ≡ length c.permit.wakes = ap (λ (x : Cell V W). length x.permit.wakes) (sym same) in
      let most : length c.permit.queue + length c.permit.wakes ≤ length e.cell.permit.queue + length e.cell.permit.wakes + k = few in
      omega arith

  pub record Moved (t v : Table K V W) (n k waiting before after : ℕ) (out out' : Wakes W) (e : Shown V W) (c : Cell V W) : Type 0 where
    pub sub : before ≤ waiting
    pub most : waiting - before + after ≤ waiting + k
    pub quiet : AreQuiet v.slots
    pub counted : waiting - before + after ≡ waiting_in v.slots
    pub room : waiting - before + after ≤ out'.spare
    pub sets : Sets eq t v n (Some (record e { cell = rested c }))
    pub wakers : out'.wakers ≡ out.wakers ++ c.permit.wakes

  pub moved : (t u v : Table K V W) (n k waiting before after : ℕ) (out out' : Wakes W) (e : Shown V W) (c d d' : Cell V W) → entry_at t n ≡ Some e → AreQuiet t.slots → waiting ≡ waiting_in t.slots → AddAtMost k e.cell c
      → Sets eq t u n (Some (record e { cell = c })) → waiting + k ≤ out.spare → ((s : Shown V W) → entry_at u n ≡ Some s → RestsEntry eq u n s out out' v)
      → IfSome (entry_at t n) (λ s. d ≡ s.cell) → before ≡ length d.permit.queue → IfSome (entry_at v n) (λ s. d' ≡ s.cell) → after ≡ length d'.permit.queue → Moved t v n k waiting before after out out' e c
  moved t u v n k waiting before after out out' e c d d' is quiet counted few sets room rests first first_is last last_is =
      let rest = rests (record e { cell = c }) sets.0.changed in
      let none : length e.cell.permit.wakes ≡ 0 = ap length (quiet n e is) in
      let within : length e.cell.permit.queue ≤ waiting_in t.slots = queue-within t.slots n e is in
      let most : length c.permit.queue + length c.permit.wakes ≤ length e.cell.permit.queue + length e.cell.permit.wakes + k = few in
      let spare : out'.spare + length c.permit.wakes ≡ out.spare = rest.spare in
      let both = changes-twice t.slots u.slots v.slots n (Some (record e { cell = c })) (Some (record e { cell = rested c })) sets.0 rest.sets.0 in
      let sum : waiting_in v.slots + length e.cell.permit.queue ≡ waiting_in t.slots + length c.permit.queue = waiting-changes t.slots v.slots n (Some e) (Some (record e { cell = rested c })) is both in
      let old : d ≡ e.cell = at_entry (λ s. d ≡ s.cell) (entry_at t n) e is first in
      let new : d' ≡ rested c = at_entry (λ s. d' ≡ s.cell) (entry_at v n) (record e { cell = rested c }) both.changed last in
      let was : before ≡ length e.cell.permit.queue = first_is ∙ ap (λ (x : Cell V W). length x.permit.queue) old in
      let now_is : after ≡ length c.permit.queue = last_is ∙ ap (λ (x : Cell V W). length x.permit.queue) new in
      record {
        sub = omega arith;
        most = omega arith;
        quiet = quiet-changes t.slots v.slots n (Some (record e { cell = rested c })) (λ s there. ap (λ (x : Shown V W). x.cell.permit.wakes) (sym (same_entry (record e { cell = rested c }) s there))) both quiet;
        counted = omega arith;
        room = omega arith;
        sets = (both, λ key. rest.sets.1 key ∙ sets.1 key);
        wakers = rest.wakers;
      }

pub on_ok_of : {A B : Type 0} (P : Type 0) (r : Result A B) → is_err r ≡ false → OnOk r P → P
on_ok_of P (Ok x) out h = h
on_ok_of P (Err y) out h = absurd (cc)

module _ {K V W E I : Type 0} (answers : I → W → Poll (Result V E) → I → Type 0) (eq : K → K → Bool) where
  -- a call that finds no place for its waker is refused, and nothing has changed
  pub refused-cell : (k k' : Keyed K V W) (n : ℕ) (e : Shown V W) (call : InitCall I) (w : W) (m : NoMemory) (q : ℕ) (d : Cell V W) → entry_at k.table n ≡ Some e → AreQuiet k.table.slots → IfSome (entry_at k.table n) (λ s. d ≡ s.cell)
      → q ≡ queues_more d call.stage → q ≢ 0 → k'.table ≡ k.table → k'.wakes ≡ k.wakes → (cell : Cell V W) × StepsCell answers eq k n e call w (Err (w, m)) cell k' call
  refused-cell k k' n e call w m q d is quiet cell count more table wakes =
      let same : d ≡ e.cell = at_entry (λ s. d ≡ s.cell) (entry_at k.table n) e is cell in
      let none : e.cell.permit.wakes ≡ [] = quiet n e is in
      let more_at : queues_more e.cell call.stage ≢ 0 = λ zero. more (count ∙ ap (λ c. queues_more c call.stage) same ∙ zero) in
      let rest : rested e.cell ≡ e.cell = λ i. record { value = e.cell.value; permit = record e.cell.permit { wakes = sym none i } } in
      let entry : ◌≡◌ {A = Shown V W} (record e { cell = rested e.cell }) e = λ i. record { cell = rest i; callers = e.callers; listed = e.listed } in (
        e.cell,
        record {
          polls = refused answers call.stage e.cell call w m more_at;
          sets = (
            record {
              changed = ap (λ (t : Table K V W). entry_at t n) table ∙ is ∙ ap (λ y. Some y) (sym entry);
              others = λ x differs. ap (λ (t : Table K V W). shown_at t.slots x) table;
            },
            λ key. ap (λ (t : Table K V W). lookup (eq key) t.pairs) table,
          );
          wakes = wakes ∙ sym (append-nil k.wakes) ∙ ap (λ ws. k.wakes ++ ws) (sym none);
        },
      )

  -- a call that finds the value there is ready
  pub finds-ready : (stage : CellStage) (c : Cell V W) (call call' : InitCall I) (w : W) (r : Result (Poll (Result (Unit {0}) E)) (W × NoMemory)) (c' : Cell V W) → Finds c stage → PollsStage answers stage c call w r c' call' → r ≡ Ok (Ready (Ok tt))
  finds-ready stages.New c call call' w r c' finds polls = by_value c.value finds polls
    where
      by_value : (v : Option V) → IsSome v → MatchOption v ((c.permit.free ≡ 1 → MatchResult r (λ poll. RunsInit answers (record c { permit = record c.permit { free = 0 } }) call.init w poll c' call') (λ _. ⊥))
          × (c.permit.free ≡ 0 → MatchResult r
          (λ poll. (poll ≡ Pending) × ((number : ℕ) × Waits c.permit c'.permit w number × (c'.value ≡ c.value) × (call' ≡ record call { stage = stages.Queued number })))
          (λ e. (e.0 ≡ w) × (c' ≡ c) × (call' ≡ call))))
          (λ v. (r ≡ Ok (Ready (Ok tt))) × (c' ≡ c) × (call' ≡ record call { stage = stages.Done })) → r ≡ Ok (Ready (Ok tt))
      by_value None some polls = absurd (cc)
      by_value (Some v) some polls = polls.0
  finds-ready (stages.Queued n) c call call' w r c' finds polls = by_result r (polls.0 finds.1)
    where
      by_value : (v : Option V) (poll : Poll (Result (Unit {0}) E)) → IsSome v → MatchOption v (RunsInit answers (record c { permit = record c.permit { granted = map.remove c.permit.granted n } }) call.init w poll c' call')
          (λ v. (poll ≡ Ready (Ok tt)) × (c' ≡ given_up (record c { permit = record c.permit { granted = map.remove c.permit.granted n } })) × (call' ≡ record { init = call.init; stage = stages.Done })) → poll ≡ Ready (Ok tt)
      by_value None poll some enters = absurd (cc)
      by_value (Some v) poll some enters = enters.0

      by_result : (x : Result (Poll (Result (Unit {0}) E)) (W × NoMemory)) → MatchResult x (λ poll. Enters answers (record c { permit = record c.permit { granted = map.remove c.permit.granted n } }) call.init w poll c' call') (λ _. ⊥) → x ≡ Ok (Ready (Ok tt))
      by_result (Ok poll) enters = ap (λ y. Ok y) (by_value c.value poll finds.0 enters)
      by_result (Err e) enters = absurd enters
  finds-ready stages.Running c call call' w r c' finds polls = absurd finds
  finds-ready stages.Done c call call' w r c' finds polls = absurd finds

  pub stepped-there : (k k' : Keyed K V W) (n : ℕ) (e : Shown V W) (call call' : InitCall I) (w : W) (r : Result (Poll (Result (Unit {0}) E)) (W × NoMemory)) → 1 ≤ e.callers → (cell : Cell V W) × StepsCell answers eq k n e call w r cell k' call' → HasCaller k'.table n
  stepped-there k k' n e call call' w r some step = (record e { cell = rested step.0 }, step.1.sets.0.changed, some)

  pub finds-value : (k b k' : Keyed K V W) (n : ℕ) (e : Shown V W) (call call' : InitCall I) (w : W) (r : Result (Poll (Result (Unit {0}) E)) (W × NoMemory)) (v : V) → e.cell.value ≡ Some v → r ≡ Ok (Ready (Ok tt))
      → (cell : Cell V W) × StepsCell answers eq k n e call w r cell b call' → ((s : Shown V W) → entry_at b.table n ≡ Some s → LeavesEntry eq b n s k') → FindsValue answers eq k n e call w (Ok (Ready (Ok v))) k' call' Done
  finds-value k b k' n e call call' w r v value ready step leave =
      (v, value, refl, (step.0, b, subst (λ x. StepsCell answers eq k n e call w x step.0 b call') ready step.1, leave (record e { cell = rested step.0 }) step.1.sets.0.changed), refl)

  pub asks-cell : (k b k' : Keyed K V W) (n : ℕ) (once : Bool) (e : Shown V W) (call call' : InitCall I) (w : W) (r : Result (Poll (Result (Unit {0}) E)) (W × NoMemory)) (x : Result (Poll (Result V E)) (Option W × NoMemory)) (stage : KeyStage K)
      → (cell : Cell V W) × StepsCell answers eq k n e call w r cell b call' → ((s : Shown V W) → entry_at b.table n ≡ Some s → AfterCellPoll eq once r b n s x k' stage) → AsksCell answers eq once k n e call w x k' call' stage
  asks-cell k b k' n once e call call' w r x stage step told = (r, step.0, b, step.1, told (record e { cell = rested step.0 }) step.1.sets.0.changed)

module _ {K V W : Type 0} (eq : K → K → Bool) where
  pub kept-empty : (t : Table K V W) → ((n : ℕ) → entry_at t n ≡ None) → AreQuiet t.slots × (0 ≡ waiting_in t.slots)
  kept-empty t none =
      let zero_sum : waiting_in t.slots ≡ waiting_in {V = V} {W = W} [] = same-waiting [] t.slots (λ m. ap waiting_at (none m)) in
      ((λ n e there. absurd (let both : ◌≡◌ {A = Option (Shown V W)} None (Some e) = sym (none n) ∙ there in cc)), sym zero_sum)

  -- where no call lives, all rest and nobody waits
  pub kept-idle : (t : Table K V W) → ((n : ℕ) (e : Shown V W) → entry_at t n ≡ Some e → IsIdle e) → AreQuiet t.slots × (0 ≡ waiting_in t.slots)
  kept-idle t idle =
      let zero_sum : waiting_in t.slots ≡ waiting_in {V = V} {W = W} [] = same-waiting [] t.slots (λ m. waits m (entry_at t m) refl) in
      ((λ n e there. ap (λ (x : Shown V W). x.cell.permit.wakes) (idle n e there).1), sym zero_sum)
    where
      waits : (m : ℕ) (o : Option (Shown V W)) → entry_at t m ≡ o → waiting_at (entry_at t m) ≡ 0
      waits m None is = ap waiting_at is
      waits m (Some e) is = ap waiting_at is ∙ ap (λ (x : Shown V W). length x.cell.permit.queue) (idle m e is).1

  pub kept-made : (t t' : Table K V W) (key : K) (r : Result ℕ (K × NoMemory)) → IfOk r (λ n. Makes eq t t' key n fresh_entry) → IfErr r (λ x. (x.0 ≡ key) × IsSame eq t t') → AreQuiet t.slots → AreQuiet t'.slots × (waiting_in t'.slots ≡ waiting_in t.slots)
  kept-made t t' key (Ok n) made err quiet =
      let sum : waiting_in t'.slots + 0 ≡ waiting_in t.slots + 0 = waiting-changes t.slots t'.slots n None (Some fresh_entry) made.fresh made.entries in
      (quiet-changes t.slots t'.slots n (Some fresh_entry) (λ s there. ap (λ (x : Shown V W). x.cell.permit.wakes) (sym (same_entry fresh_entry s there))) made.entries quiet, omega arith)
  kept-made t t' key (Err x) made err quiet =
      ((λ m e there. quiet m e (sym (err.1.0 m) ∙ there)), same-waiting t.slots t'.slots (λ m. ap waiting_at (err.1.0 m)))

module _ {K V W E I : Type 0} (answers : I → W → Poll (Result V E) → I → Type 0) (eq : K → K → Bool) where
  -- at a new entry nothing is found
  pub asks-fresh : (once : Bool) (k : Keyed K V W) (n : ℕ) (call : InitCall I) (w : W) (r : Result (Poll (Result V E)) (Option W × NoMemory)) (k' : Keyed K V W) (call' : InitCall I) (stage' : KeyStage K) → call.stage ≡ stages.New
      → PollsCaller answers eq once k n fresh_entry call w r k' call' stage' → AsksCell answers eq once k n fresh_entry call w r k' call' stage'
  asks-fresh once k n call w r k' call' stage' new polls = polls.1 (λ finds. nothing (subst (Finds {T = V} {W = W} empty_cell) new finds))
    where
      nothing : IsSome {T = V} None → ⊥
      nothing some = absurd (cc)

pub match-none : {A : Type 0} (P : Type 0) (Q : A → Type 0) (o : Option A) → o ≡ None → P → MatchOption o P Q
match-none P Q None is p = p
match-none P Q (Some x) is p = absurd (cc)

pub match-some : {A : Type 0} (P : Type 0) (Q : A → Type 0) (o : Option A) (x : A) → o ≡ Some x → Q x → MatchOption o P Q
match-some P Q None x is q = absurd (cc)
match-some P Q (Some y) x is q = subst Q (sym (ap (λ o. unwrap_or o y) is)) q

pub none-of : {A : Type 0} (o : Option A) → (IsSome o → ⊥) → o ≡ None
none-of None away = refl
none-of (Some x) away = absurd (away refl)

module _ {K V W : Type 0} (eq : K → K → Bool) where
  -- the key's entry has left the table, and is in use still
  pub kept-unlisted : (t t' : Table K V W) (n : ℕ) → IsSome (entry_at t n) → Unlists eq t t' n → AreQuiet t.slots → IsSome (entry_at t' n) → AreQuiet t'.slots × (waiting_in t'.slots ≡ waiting_in t.slots)
  kept-unlisted t t' n there out quiet some =
      let e = value_in (entry_at t n) there in
      let told = out e.0 e.1 in
      let stays : entry_at t' n ≡ Some (record e.0 { listed = false }) = stays-or-goes (entry_at t' n) (e.0.callers == 0) (record e.0 { listed = false }) told.0.changed some in
      kept t.slots t'.slots n e.0 (record e.0 { listed = false }) e.1 (record { changed = stays; others = told.0.others }) refl quiet

  -- or is in use no more
  pub gone-unlisted : (t t' : Table K V W) (n q : ℕ) (c : Cell V W) → IsSome (entry_at t n) → Unlists eq t t' n → AreQuiet t.slots → IfSome (entry_at t n) (λ s. c ≡ s.cell) → q ≡ length c.permit.queue → (IsSome (entry_at t' n) → ⊥)
      → AreQuiet t'.slots × (waiting_in t'.slots + q ≡ waiting_in t.slots)
  gone-unlisted t t' n q c there out quiet is_cell count none =
      let e = value_in (entry_at t n) there in
      let told = out e.0 e.1 in
      let goes : entry_at t' n ≡ None = goes-or-stays (entry_at t' n) (e.0.callers == 0) (record e.0 { listed = false }) told.0.changed none in
      let then = kept-without t.slots t'.slots n e.0 e.1 (record { changed = goes; others = told.0.others }) quiet in
      let same : q ≡ length e.0.cell.permit.queue = count ∙ ap (λ (x : Cell V W). length x.permit.queue) (at_entry (λ s. c ≡ s.cell) (entry_at t n) e.0 e.1 is_cell) in
      (then.0, ap (λ m. waiting_in t'.slots + m) same ∙ then.1)

  -- the count of who waits, without those of an entry that is in use no more
  pub counted-unlisted : (t t' : Table K V W) (n q count spare : ℕ) (c : Cell V W) (in_use : Bool) → IsSome (entry_at t n) → Unlists eq t t' n → AreQuiet t.slots → IfSome (entry_at t n) (λ s. c ≡ s.cell) → q ≡ length c.permit.queue
      → (IsTrue in_use ↔ IsSome (entry_at t' n)) → count ≡ waiting_in t.slots → count ≤ spare
      → AreQuiet t'.slots × (cond in_use count (count - q) ≡ waiting_in t'.slots) × (cond in_use count (count - q) ≤ spare)
  counted-unlisted t t' n q count spare c true there out quiet is_cell queue used counted room =
      let k = kept-unlisted t t' n there out quiet (used.0 refl) in (k.0, counted ∙ sym k.1, room)
  counted-unlisted t t' n q count spare c false there out quiet is_cell queue used counted room =
      let k = gone-unlisted t t' n q c there out quiet is_cell queue (λ some. absurd (let no = used.1 some in cc)) in
      let sum = k.1 in
      (k.0, omega arith, omega arith)

  pub unlisted-within : (t : Table K V W) (n q : ℕ) (c : Cell V W) → IsSome (entry_at t n) → IfSome (entry_at t n) (λ s. c ≡ s.cell) → q ≡ length c.permit.queue → q ≤ waiting_in t.slots
  unlisted-within t n q c there is_cell count =
      let e = value_in (entry_at t n) there in
      let same : q ≡ length e.0.cell.permit.queue = count ∙ ap (λ (x : Cell V W). length x.permit.queue) (at_entry (λ s. c ≡ s.cell) (entry_at t n) e.0 e.1 is_cell) in
      let most : length e.0.cell.permit.queue ≤ waiting_in t.slots = queue-within t.slots n e.0 e.1 in
      omega arith
