-- what a poll that finds no memory leaves of a map or a group, and that it finds what it has computed
use Rattle.std.proofs.Common.{◌≡◌, ◌∙◌, ℕ, ◌++◌, ◌⊎◌, inl, inr, Bool, not, ◌&&◌, List, [], Option, Some, None, Result, Ok, Err, OnErr, IfOk, IfErr, IfSome, IsSome, append-nil, refl, ap, sym, subst}
use Rattle.std.proofs.lemmas.Bool.{cases_eq}
use Rattle.mea_base.specs.declared.no_memory.NoMemory.{NoMemory}
use Rattle.mea_sets.specs.Poll.{Poll, Ready, Pending}
use Rattle.mea_once_core.specs.Cell.{Cell, rested, PollsStage}
use Rattle.mea_once_core.specs.Links.{Shown, shown_at}
use Rattle.mea_once_core.specs.Table.{Table, entry_at, HasCaller, IsSame, Sets, fresh_entry}
use Rattle.mea_once_core.specs.Waiting.{AreQuiet}
use Rattle.mea_once_core.specs.Keyed.{Keyed, GivesUp, StepsCell, AfterCellPoll, PollsCaller}
use Rattle.mea_once_core.specs.declared.init_call.InitCall.{InitCall}
use Rattle.mea_once_core.specs.declared.cell_stage.CellStage.TheVariants as stages
use Rattle.mea_once_core.specs.declared.key_call.KeyStage.{KeyStage}
use Rattle.mea_once_core.proofs.Tables.{at_entry}
use Rattle.mea_once_core.proofs.Keyeds.{asks-fresh}

module _ {K V W : Type 0} (eq : K → K → Bool) where
  -- a cell that has not changed rests in its entry as it did, and makes no waker ready
  stays-same : (t v : Table K V W) (n : ℕ) (e : Shown V W) (c : Cell V W) (ws ws' : List W) → entry_at t n ≡ Some e → AreQuiet t.slots → c ≡ e.cell
      → Sets eq t v n (Some (record e { cell = rested c })) → ws' ≡ ws ++ c.permit.wakes → IsSame eq t v × (ws' ≡ ws)
  stays-same t v n e c ws ws' is quiet same sets wakes =
      let none : c.permit.wakes ≡ [] = ap (λ (x : Cell V W). x.permit.wakes) same ∙ quiet n e is in
      let rest : rested c ≡ c = λ i. record { value = c.value; permit = record c.permit { wakes = sym none i } } in
      let entry : ◌≡◌ {A = Shown V W} (record e { cell = rested c }) e = λ i. record { cell = (rest ∙ same) i; callers = e.callers; listed = e.listed } in
      let here : shown_at v.slots n ≡ shown_at t.slots n = sets.0.changed ∙ ap (λ y. Some y) entry ∙ sym is in
      (((λ m. by_number m here (cases_eq m n)), sets.1), wakes ∙ ap (λ x. ws ++ x) none ∙ append-nil ws)
    where
      by_number : (m : ℕ) → shown_at v.slots n ≡ shown_at t.slots n → (m ≡ n) ⊎ (m ≡ n → ⊥) → shown_at v.slots m ≡ shown_at t.slots m
      by_number m here (inl at) = ap (shown_at v.slots) at ∙ here ∙ ap (shown_at t.slots) (sym at)
      by_number m here (inr other) = sets.0.others m other

  pub refused-same : {A B : Type 0} (r : Result A B) (t v : Table K V W) (n : ℕ) (e : Shown V W) (c : Cell V W) (ws ws' : List W) → entry_at t n ≡ Some e → AreQuiet t.slots → OnErr r (c ≡ e.cell)
      → Sets eq t v n (Some (record e { cell = rested c })) → ws' ≡ ws ++ c.permit.wakes → OnErr r (IsSame eq t v × (ws' ≡ ws))
  refused-same (Ok x) t v n e c ws ws' is quiet same sets wakes = tt
  refused-same (Err x) t v n e c ws ws' is quiet same sets wakes = stays-same t v n e c ws ws' is quiet same sets wakes

  -- where the cell of an entry has a value after a poll, the entry has it
  pub fills-entry : {E B : Type 0} (r : Result (Poll (Result (Unit {0}) E)) B) (v : Table K V W) (n : ℕ) (e : Shown V W) (c : Cell V W) → IfOk r (λ poll. poll ≡ Ready (Ok tt) → IsSome c.value)
      → entry_at v n ≡ Some (record e { cell = rested c }) → IfOk r (λ poll. poll ≡ Ready (Ok tt) → IfSome (entry_at v n) (λ s. IsSome s.cell.value))
  fills-entry (Ok poll) v n e c fills is = λ ready. subst (λ o. IfSome o (λ (s : Shown V W). IsSome s.cell.value)) (sym is) (fills ready)
  fills-entry (Err x) v n e c fills is = tt

  -- what the call has computed is there after its table has given the entry up
  pub given-value : (A : Type 0) (k k' : Keyed K V W) (n : ℕ) (once : Bool) → HasCaller k.table n → ((e : Shown V W) → entry_at k.table n ≡ Some e → GivesUp eq once k n e k')
      → IfSome (entry_at k.table n) (λ e. IsSome e.cell.value) → IfSome (entry_at k'.table n) (λ e. IsSome e.cell.value → A) → A
  given-value A k k' n once has gives filled told =
      at_entry (λ s. IsSome s.cell.value → A) (entry_at k'.table n) (record has.0 { listed = has.0.listed && not once }) (gives has.0 has.1).entries.changed told (at_entry (λ s. IsSome s.cell.value) (entry_at k.table n) has.0 has.1 filled)

-- where no waker came back, nothing is said of one that did
pub none-back : {A B W : Type 0} (P : Type 0) (r : Result A (Option W × B)) → IfErr r (λ failed. failed.0 ≡ None) → IfErr r (λ failed. IfSome failed.0 (λ _. P))
none-back P (Ok x) none = tt
none-back {W = W} P (Err failed) none = subst (λ (o : Option W). IfSome o (λ _. P)) (sym none) tt

module _ {K V W E I : Type 0} (answers : I → W → Poll (Result V E) → I → Type 0) (eq : K → K → Bool) where
  told-back : (once : Bool) (told : Poll (Result (Unit {0}) E)) (k : Keyed K V W) (n : ℕ) (e : Shown V W) (r : Result (Poll (Result V E)) (Option W × NoMemory)) (k' : Keyed K V W) (stage' : KeyStage K)
      → AfterCellPoll eq once (Ok told) k n e r k' stage' → IfErr r (λ failed. failed.0 ≡ None)
  told-back once Pending k n e (Ok x) k' stage' h = tt
  told-back once Pending k n e (Err x) k' stage' h = absurd (let out = h.0 in cc)
  told-back once (Ready (Err x)) k n e (Ok y) k' stage' h = tt
  told-back once (Ready (Err x)) k n e (Err y) k' stage' h = absurd (let out = h.0 in cc)
  told-back once (Ready (Ok u)) k n e (Ok y) k' stage' h = tt
  told-back once (Ready (Ok u)) k n e (Err y) k' stage' h = h.2.0

  -- the first poll at a new entry always runs the initialiser, so no waker comes back
  pub fresh-back : (once : Bool) (k : Keyed K V W) (n : ℕ) (call : InitCall I) (w : W) (r : Result (Poll (Result V E)) (Option W × NoMemory)) (k' : Keyed K V W) (call' : InitCall I) (stage' : KeyStage K) → call.stage ≡ stages.New
      → PollsCaller answers eq once k n fresh_entry call w r k' call' stage' → IfErr r (λ failed. failed.0 ≡ None)
  fresh-back once k n call w r k' call' stage' new polls =
      let asks = asks-fresh answers eq once k n call w r k' call' stage' new polls in
      by_told asks.0 asks.1 asks.2 asks.3 asks.4
    where
      by_told : (told : Result (Poll (Result (Unit {0}) E)) (W × NoMemory)) (cell : Cell V W) (between : Keyed K V W) → StepsCell answers eq k n fresh_entry call w told cell between call'
          → AfterCellPoll eq once told between n (record fresh_entry { cell = rested cell }) r k' stage' → IfErr r (λ failed. failed.0 ≡ None)
      by_told (Ok told) cell between step h = told-back once told between n (record fresh_entry { cell = rested cell }) r k' stage' h
      by_told (Err failed) cell between step h = absurd ((subst (λ s. PollsStage answers s fresh_entry.cell call w (Err failed) cell call') new step.polls).0 refl)
