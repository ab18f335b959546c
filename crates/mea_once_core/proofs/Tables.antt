-- what callers see of changes of entries, and what keeps entries and numbers linked
use Rattle.std.proofs.Common.{rules, ◌≡◌, ◌≢◌, ℕ, ◌+◌, ◌-◌, ◌<◌, ◌≤◌, ◌^◌, ◌==◌, ◌⊎◌, ◌&&◌, inl, inr, Bool, true, false, not, cond, List, Option, Some, None, Result, is_some, unwrap_or, is_none, IsTrue, IsSome, IfSome, length, slice_get, slice_index_or, refl, ap, sym, subst, ◌∙◌, arith}
use Rattle.std.proofs.lemmas.Bool.{cases_eq, eq-eqb, ne_eqb}
use Rattle.std.specs.Option.{option_map}
use Rattle.std.specs.Map.{lookup}
use Rattle.slab.specs.Slab as slab
use Rattle.slab.specs.Slab.{Slab}
use Rattle.mea_base.specs.declared.no_memory.NoMemory.{NoMemory}
use Rattle.mea_base.specs.Outbox.{Wakes}
use Rattle.mea_sets.specs.Poll.{Poll}
use Rattle.mea_once_core.specs.Cell.{Cell, rested}
use Rattle.mea_once_core.specs.Links.{AreLinked, Shown, shown, shown_at, Changes, unlisted}
use Rattle.mea_once_core.specs.Slots.{PollsSlot, EndsSlot, RestsSlot}
use Rattle.mea_once_core.specs.Table.{Table, entry_at, IsSame, Unlists, NumbersGo, Retires, is_last, PollsEntry, EndsEntry, RestsEntry}
use Rattle.mea_once_core.specs.declared.entry.Entry.{Entry}
use Rattle.mea_once_core.specs.declared.init_call.InitCall.{InitCall}
use Rattle.mea_once_core.specs.declared.cell_stage.CellStage.{CellStage}
use Rattle.std.proofs.lemmas.Map.Entries.{place_from_lookup}
use Rattle.mea_once_core.proofs.Links.{keyed}

module _ {V W : Type 0} where
  pub few-callers : (o : Option (Entry V W)) → ((s : Shown V W) → option_map shown o ≡ Some s → s.callers < 18446744073709551615) → IsSome o → IfSome o (λ e. e.callers + 1 < 2 ^ 64)
  few-callers None room some = absurd (cc)
  few-callers (Some e) room some = let few : e.callers < 18446744073709551615 = room (shown e) refl in omega arith

  pub room-for : (o : Option (Entry V W)) (spare : ℕ) → ((s : Shown V W) → option_map shown o ≡ Some s → length s.cell.permit.wakes ≤ spare) → IsSome o → IfSome o (λ e. length e.cell.permit.wakes ≤ spare)
  room-for None spare room some = absurd (cc)
  room-for (Some e) spare room some = room (shown e) refl

  pub unused-clash : (Q : Type 0) (o : Option (Entry V W)) (f : Entry V W) → o ≡ Some f → f.callers ≡ 0 → is_some f.place ≡ false → IfSome o (λ e. (e.callers ≢ 0) ⊎ IsSome e.place → Q)
  unused-clash Q o f is none out = subst (λ (x : Option (Entry V W)). IfSome x (λ e. (e.callers ≢ 0) ⊎ IsSome e.place → Q)) (sym is) by_case
    where
      by_case : (f.callers ≢ 0) ⊎ IsSome f.place → Q
      by_case (inl some) = absurd (some none)
      by_case (inr there) = absurd (let both : true ≡ false = sym there ∙ out in cc)

module _ {K V W : Type 0} where
  -- an entry changes, and not its place
  pub linked-at : (E F : Slab (Entry V W)) (ps : List (K × ℕ)) (n : ℕ) (e f : Entry V W) → slab.get E n ≡ Some e → f.place ≡ e.place → slab.Updates E F n (Some f) → AreLinked E ps → AreLinked F ps
  linked-at E F ps n e f is kept changed links = record {
    found = λ p k x stood. found_by p k x stood (links.found p k x stood).0 (links.found p k x stood).1 (links.found p k x stood).2 (cases_eq x n);
    placed = λ x p g get_x place_x. placed_by x p g get_x place_x (cases_eq x n);
  }
    where
      found_by : (p : ℕ) (k : K) (x : ℕ) → slice_get ps p ≡ Some (k, x) → (g : Entry V W) → slab.get E x ≡ Some g → g.place ≡ Some p → (x ≡ n) ⊎ (x ≡ n → ⊥) → (h : Entry V W) × (slab.get F x ≡ Some h) × (h.place ≡ Some p)
      found_by p k x stood g g_is g_at (inl same) =
          let entry : e ≡ g = (let both : Some e ≡ Some g = sym is ∙ ap (slab.get E) (sym same) ∙ g_is in ap (λ y. unwrap_or y e) both) in
          (f, ap (slab.get F) same ∙ changed.changed, kept ∙ ap (λ (y : Entry V W). y.place) entry ∙ g_at)
      found_by p k x stood g g_is g_at (inr other) = (g, changed.others x other ∙ g_is, g_at)

      placed_by : (x p : ℕ) (g : Entry V W) → slab.get F x ≡ Some g → g.place ≡ Some p → (x ≡ n) ⊎ (x ≡ n → ⊥) → (k : K) × (slice_get ps p ≡ Some (k, x))
      placed_by x p g get_x place_x (inl same) =
          let here : Some g ≡ Some f = sym get_x ∙ ap (slab.get F) same ∙ changed.changed in
          let entry : f ≡ g = ap (λ y. unwrap_or y f) (sym here) in
          let place : e.place ≡ Some p = sym kept ∙ ap (λ (y : Entry V W). y.place) entry ∙ place_x in
          links.placed x p e (ap (slab.get E) same ∙ is) place
      placed_by x p g get_x place_x (inr other) = links.placed x p g (sym (changed.others x other) ∙ get_x) place_x

  -- an entry that the table has not goes
  pub linked-gone : (E F : Slab (Entry V W)) (ps : List (K × ℕ)) (n : ℕ) (e : Entry V W) → slab.get E n ≡ Some e → e.place ≡ None → slab.Updates E F n None → AreLinked E ps → AreLinked F ps
  linked-gone E F ps n e is none changed links = record {
    found = λ p k x stood. found_by p k x (links.found p k x stood).0 (links.found p k x stood).1 (links.found p k x stood).2 (cases_eq x n);
    placed = λ x p g get_x place_x. placed_by x p g get_x place_x (cases_eq x n);
  }
    where
      found_by : (p : ℕ) (k : K) (x : ℕ) → (g : Entry V W) → slab.get E x ≡ Some g → g.place ≡ Some p → (x ≡ n) ⊎ (x ≡ n → ⊥) → (h : Entry V W) × (slab.get F x ≡ Some h) × (h.place ≡ Some p)
      found_by p k x g g_is g_at (inl same) =
          absurd (let entry : e ≡ g = (let both : Some e ≡ Some g = sym is ∙ ap (slab.get E) (sym same) ∙ g_is in ap (λ y. unwrap_or y e) both) in
          let place : None ≡ Some p = sym none ∙ ap (λ (y : Entry V W). y.place) entry ∙ g_at in cc)
      found_by p k x g g_is g_at (inr other) = (g, changed.others x other ∙ g_is, g_at)

      placed_by : (x p : ℕ) (g : Entry V W) → slab.get F x ≡ Some g → g.place ≡ Some p → (x ≡ n) ⊎ (x ≡ n → ⊥) → (k : K) × (slice_get ps p ≡ Some (k, x))
      placed_by x p g get_x place_x (inl same) = absurd (let here : None ≡ Some g = sym changed.changed ∙ ap (slab.get F) (sym same) ∙ get_x in cc)
      placed_by x p g get_x place_x (inr other) = links.placed x p g (sym (changed.others x other) ∙ get_x) place_x

  -- ---- the same from what the calls told
  pub linked-polled : {E I : Type 0} (answers : I → W → Poll (Result V E) → I → Type 0) (A B : Slab (Entry V W)) (ps : List (K × ℕ)) (n : ℕ) (call call' : InitCall I) (w : W) (r : Result (Poll (Result (Unit {0}) E)) (W × NoMemory))
      → (o : Option (Entry V W)) → slab.get A n ≡ o → IsSome o → IfSome o (λ e. PollsSlot answers A.slots n e call w r B.slots call') → AreLinked A ps → AreLinked B ps
  linked-polled answers A B ps n call call' w r None is some told links = absurd (cc)
  linked-polled answers A B ps n call call' w r (Some e) is some told links = linked-at A B ps n e (record e { cell = told.cell }) is refl (record { changed = told.sets.changed; others = told.sets.others }) links

  pub linked-ended : (A B : Slab (Entry V W)) (ps : List (K × ℕ)) (n : ℕ) (stage : CellStage) → (o : Option (Entry V W)) → slab.get A n ≡ o → IsSome o → IfSome o (λ e. EndsSlot A.slots n e stage B.slots) → AreLinked A ps → AreLinked B ps
  linked-ended A B ps n stage None is some told links = absurd (cc)
  linked-ended A B ps n stage (Some e) is some told links = linked-at A B ps n e (record e { cell = told.cell }) is refl (record { changed = told.sets.changed; others = told.sets.others }) links

  pub linked-joined : (A B : Slab (Entry V W)) (ps : List (K × ℕ)) (n : ℕ) → (o : Option (Entry V W)) → slab.get A n ≡ o → IsSome o → IfSome o (λ e. slab.Updates A B n (Some (record e { callers = e.callers + 1 }))) → AreLinked A ps → AreLinked B ps
  linked-joined A B ps n None is some told links = absurd (cc)
  linked-joined A B ps n (Some e) is some told links = linked-at A B ps n e (record e { callers = e.callers + 1 }) is refl told links

  -- an entry with no caller that the table has not goes, and another stays
  dropped-by : (B C : Slab (Entry V W)) (ps : List (K × ℕ)) (n : ℕ) (f : Entry V W) → slab.get B n ≡ Some f → ((f.callers ≢ 0) ⊎ IsSome f.place → C ≡ B) → (f.callers ≡ 0 → f.place ≡ None → slab.Updates B C n None) → AreLinked B ps → AreLinked C ps
  dropped-by B C ps n f is used unused links = by_place f.place refl (cases_eq f.callers 0)
    where
      by_place : (p : Option ℕ) → f.place ≡ p → (f.callers ≡ 0) ⊎ (f.callers ≡ 0 → ⊥) → AreLinked C ps
      by_place (Some p) at c = subst (λ (s : Slab (Entry V W)). AreLinked s ps) (sym (used (inr (ap is_some at)))) links
      by_place None at (inl zero) = linked-gone B C ps n f is at (unused zero at) links
      by_place None at (inr some) = subst (λ (s : Slab (Entry V W)). AreLinked s ps) (sym (used (inl some))) links

  pub linked-dropped : (B C : Slab (Entry V W)) (ps : List (K × ℕ)) (n : ℕ) (o : Option (Entry V W)) → slab.get B n ≡ o → (o ≡ None → C ≡ B) → IfSome o (λ e. (e.callers ≢ 0) ⊎ IsSome e.place → C ≡ B)
      → IfSome o (λ e. e.callers ≡ 0 → e.place ≡ None → slab.Updates B C n None) → AreLinked B ps → AreLinked C ps
  linked-dropped B C ps n None is absent used unused links = subst (λ (s : Slab (Entry V W)). AreLinked s ps) (sym (absent refl)) links
  linked-dropped B C ps n (Some f) is absent used unused links = dropped-by B C ps n f is used unused links

  pub linked-unjoined : (A B : Slab (Entry V W)) (ps : List (K × ℕ)) (n : ℕ) → (o : Option (Entry V W)) → slab.get A n ≡ o → IsSome o → IfSome o (λ e. slab.Updates A B n (Some (record e { callers = e.callers - 1 }))) → AreLinked A ps → AreLinked B ps
  linked-unjoined A B ps n None is some told links = absurd (cc)
  linked-unjoined A B ps n (Some e) is some told links = linked-at A B ps n e (record e { callers = e.callers - 1 }) is refl told links

  pub linked-rested : (A B : Slab (Entry V W)) (ps : List (K × ℕ)) (n : ℕ) (out out' : Wakes W) → (o : Option (Entry V W)) → slab.get A n ≡ o → IsSome o → IfSome o (λ e. RestsSlot A.slots n e out out' B.slots) → AreLinked A ps → AreLinked B ps
  linked-rested A B ps n out out' None is some told links = absurd (cc)
  linked-rested A B ps n out out' (Some e) is some told links = linked-at A B ps n e (record e { cell = rested e.cell }) is refl (record { changed = told.sets.changed; others = told.sets.others }) links

  -- the entry of a key stands in the table
  pub listed-by : (E : Slab (Entry V W)) (ps : List (K × ℕ)) (test : K → Bool) (n : ℕ) (s : Shown V W) → AreLinked E ps → lookup test ps ≡ Some n → shown_at E.slots n ≡ Some s → s.listed ≡ true
  listed-by E ps test n s links found shows =
      let at = place_from_lookup test ps n found in
      let old = links.found at.0 at.1 n at.2 in
      let both : Some (shown old.0) ≡ Some s = sym (ap (option_map shown) old.1) ∙ shows in
      ap (λ (x : Shown V W). x.listed) (sym (ap (λ y. unwrap_or y (shown old.0)) both)) ∙ ap is_some old.2

  -- the number of a key is that of an entry in use
  pub in-use : (E : Slab (Entry V W)) (ps : List (K × ℕ)) (test : K → Bool) (o : Option ℕ) → AreLinked E ps → lookup test ps ≡ o → IfSome o (λ n. IsSome (shown_at E.slots n))
  in-use E ps test None links is = search rules
  in-use E ps test (Some n) links is = by_entry (slab.get E n) (keyed E ps test n links is)
    where
      by_entry : (o : Option (Entry V W)) → IsSome o → IsSome (option_map shown o)
      by_entry None some = absurd (cc)
      by_entry (Some e) some = refl

module _ {K V W E I : Type 0} (answers : I → W → Poll (Result V E) → I → Type 0) (eq : K → K → Bool) where
  pub polls-entry : (t t' : Table K V W) (n : ℕ) (call call' : InitCall I) (w : W) (r : Result (Poll (Result (Unit {0}) E)) (W × NoMemory)) → (o : Option (Entry V W)) → slice_index_or t.slots n None ≡ o
      → IfSome o (λ e. PollsSlot answers t.slots n e call w r t'.slots call') → t'.pairs ≡ t.pairs → (s : Shown V W) → option_map shown o ≡ Some s → PollsEntry answers eq t n s call w r t' call'
  polls-entry t t' n call call' w r None is told pairs s shows = absurd (cc)
  polls-entry t t' n call call' w r (Some e) is told pairs s shows =
      subst (λ (x : Shown V W). PollsEntry answers eq t n x call w r t' call') (ap (λ y. unwrap_or y (shown e)) shows)
      (record {
        cell = told.cell;
        polls = told.polls;
        few = told.few;
        stays = told.stays;
        no_memory = told.no_memory;
        fills = told.fills;
        sets = (record { changed = ap (option_map shown) told.sets.changed; others = λ m differs. ap (option_map shown) (told.sets.others m differs) }, λ k. ap (lookup (eq k)) pairs);
      })

module _ {K V W : Type 0} (eq : K → K → Bool) where
  pub ends-entry : (t t' : Table K V W) (n : ℕ) (stage : CellStage) → (o : Option (Entry V W)) → slice_index_or t.slots n None ≡ o
      → IfSome o (λ e. EndsSlot t.slots n e stage t'.slots) → t'.pairs ≡ t.pairs → (s : Shown V W) → option_map shown o ≡ Some s → EndsEntry eq t n s stage t'
  ends-entry t t' n stage None is told pairs s shows = absurd (cc)
  ends-entry t t' n stage (Some e) is told pairs s shows =
      subst (λ (x : Shown V W). EndsEntry eq t n x stage t') (ap (λ y. unwrap_or y (shown e)) shows)
      (record {
        cell = told.cell;
        ends = told.ends;
        few = told.few;
        sets = (record { changed = ap (option_map shown) told.sets.changed; others = λ m differs. ap (option_map shown) (told.sets.others m differs) }, λ k. ap (lookup (eq k)) pairs);
      })

  pub rests-entry : (t t' : Table K V W) (n : ℕ) (out out' : Wakes W) → (o : Option (Entry V W)) → slice_index_or t.slots n None ≡ o
      → IfSome o (λ e. RestsSlot t.slots n e out out' t'.slots) → t'.pairs ≡ t.pairs → (s : Shown V W) → option_map shown o ≡ Some s → RestsEntry eq t n s out out' t'
  rests-entry t t' n out out' None is told pairs s shows = absurd (cc)
  rests-entry t t' n out out' (Some e) is told pairs s shows =
      subst (λ (x : Shown V W). RestsEntry eq t n x out out' t') (ap (λ y. unwrap_or y (shown e)) shows)
      (record {
        sets = (record { changed = ap (option_map shown) told.sets.changed; others = λ m differs. ap (option_map shown) (told.sets.others m differs) }, λ k. ap (lookup (eq k)) pairs);
        wakers = told.wakers;
        spare = told.spare;
      })

pub and-true : (b : Bool) → (b && true) ≡ b
and-true true = refl
and-true false = refl

pub and-false : (b : Bool) → (b && false) ≡ false
and-false true = refl
and-false false = refl

module _ {V W : Type 0} where
  unlisted-by : (B C : Slab (Entry V W)) (n : ℕ) (f : Entry V W) (s : Shown V W) → slab.get B n ≡ Some f → shown f ≡ record s { listed = false } → ((f.callers ≢ 0) ⊎ IsSome f.place → C ≡ B) → (f.callers ≡ 0 → f.place ≡ None → slab.Updates B C n None)
      → Changes B.slots C.slots n (unlisted s)
  unlisted-by B C n f s is shows used unused = by_place f.place refl (cases_eq f.callers 0)
    where
      count : f.callers ≡ s.callers
      count = ap (λ (x : Shown V W). x.callers) shows

      same : C ≡ B → (f.callers ≡ 0 → ⊥) → Changes B.slots C.slots n (unlisted s)
      same stays some =
          let differs : (s.callers == 0) ≡ false = ne_eqb s.callers 0 (λ zero. some (count ∙ zero)) in
          let here : shown_at C.slots n ≡ unlisted s =
          ap (λ (x : Slab (Entry V W)). shown_at x.slots n) stays ∙ ap (option_map shown) is ∙ ap (λ y. Some y) shows ∙ sym (ap (λ b. cond b None (Some (record s { listed = false }))) differs) in
          record { changed = here; others = λ m other. ap (λ (x : Slab (Entry V W)). shown_at x.slots m) stays }

      by_place : (p : Option ℕ) → f.place ≡ p → (f.callers ≡ 0) ⊎ (f.callers ≡ 0 → ⊥) → Changes B.slots C.slots n (unlisted s)
      by_place (Some p) at c = absurd (let here : is_some f.place ≡ false = ap (λ (x : Shown V W). x.listed) shows in let there : is_some f.place ≡ true = ap is_some at in cc)
      by_place None at (inl zero) =
          let gone = unused zero at in
          let is_zero : (s.callers == 0) ≡ true = eq-eqb s.callers 0 (sym count ∙ zero) in
          let here : shown_at C.slots n ≡ unlisted s = ap (option_map shown) gone.changed ∙ sym (ap (λ b. cond b None (Some (record s { listed = false }))) is_zero) in
          record { changed = here; others = λ m other. ap (option_map shown) (gone.others m other) }
      by_place None at (inr some) = same (used (inl some)) some

  -- two changes of one entry
  pub changes-twice : (xs ys zs : List (Option (Entry V W))) (n : ℕ) (o p : Option (Shown V W)) → Changes xs ys n o → Changes ys zs n p → Changes xs zs n p
  changes-twice xs ys zs n o p first second = record { changed = second.changed; others = λ m other. second.others m other ∙ first.others m other }

  pub unlists : (A B C : Slab (Entry V W)) (n : ℕ) (s : Shown V W) → Changes A.slots B.slots n (Some (record s { listed = false })) → (o : Option (Entry V W)) → slab.get B n ≡ o → IfSome o (λ e. (e.callers ≢ 0) ⊎ IsSome e.place → C ≡ B)
      → IfSome o (λ e. e.callers ≡ 0 → e.place ≡ None → slab.Updates B C n None) → Changes A.slots C.slots n (unlisted s)
  unlists A B C n s first None is used unused = absurd (let here : None ≡ Some (record s { listed = false }) = sym (ap (option_map shown) is) ∙ first.changed in cc)
  unlists A B C n s first (Some f) is used unused =
      let shows : shown f ≡ record s { listed = false } = (let both : Some (shown f) ≡ Some (record s { listed = false }) = sym (ap (option_map shown) is) ∙ first.changed in ap (λ y. unwrap_or y (shown f)) both) in
      changes-twice A.slots B.slots C.slots n (Some (record s { listed = false })) (unlisted s) first (unlisted-by B C n f s is shows used unused)

module _ {V W : Type 0} where
  -- what is said of an entry where there is one holds of the one that is there
  pub at_entry : (P : Shown V W → Type 0) (o : Option (Shown V W)) (e : Shown V W) → o ≡ Some e → IfSome o P → P e
  at_entry P o e is h = let f : (x : Option (Shown V W)) → Type 0 = λ x. IfSome x P in subst f is h

  pub same_entry : (e f : Shown V W) → ◌≡◌ {A = Option (Shown V W)} (Some e) (Some f) → e ≡ f
  same_entry e f is = ap (λ o. unwrap_or o e) is

module _ {K V W : Type 0} (eq : K → K → Bool) where
  stays-listed : (e : Shown V W) (b : Bool) → e.listed ≡ b → ◌≡◌ {A = Shown V W} (record e { listed = b }) e
  stays-listed e b is = λ i. record { cell = e.cell; callers = e.callers; listed = sym is i }

  pub same-changes : (xs ys : List (Option (Entry V W))) (n : ℕ) (e : Shown V W) → ((m : ℕ) → shown_at ys m ≡ shown_at xs m) → shown_at xs n ≡ Some e → Changes xs ys n (Some e)
  same-changes xs ys n e same is = record { changed = same n ∙ is; others = λ m differs. same m }

  -- what is left where the table gave it up, or had not got it
  pub gives-up : (t t' : Table K V W) (n : ℕ) (e : Shown V W) → entry_at t n ≡ Some e → 1 ≤ e.callers → IfSome (entry_at t n) (λ s. s.listed ≡ true → Unlists eq t t' n) → IfSome (entry_at t n) (λ s. s.listed ≡ false → IsSame eq t t')
      → Changes t.slots t'.slots n (Some (record e { listed = false })) × NumbersGo eq e.listed t t' n
  gives-up t t' n e is some listed unlisted_is =
      by_listed e.listed refl (at_entry (λ s. s.listed ≡ true → Unlists eq t t' n) (entry_at t n) e is listed) (at_entry (λ s. s.listed ≡ false → IsSame eq t t') (entry_at t n) e is unlisted_is)
    where
      callers : (e.callers == 0) ≡ false
      callers = ne_eqb e.callers 0 (λ none. absurd (omega arith))

      by_listed : (b : Bool) → e.listed ≡ b → (e.listed ≡ true → Unlists eq t t' n) → (e.listed ≡ false → IsSame eq t t') → Changes t.slots t'.slots n (Some (record e { listed = false })) × NumbersGo eq e.listed t t' n
      by_listed true at there away =
          let told = there at e is in
          (subst (Changes t.slots t'.slots n) (ap (λ b. cond b None (Some (record e { listed = false }))) callers) told.0, subst (λ b. NumbersGo eq b t t' n) (sym at) told.1)
      by_listed false at there away =
          let told = away at in
          (subst (λ (s : Shown V W). Changes t.slots t'.slots n (Some s)) (sym (stays-listed e false at)) (same-changes t.slots t'.slots n e told.0 is), subst (λ b. NumbersGo eq b t t' n) (sym at) told.1)

  pub retires-last : (t t' : Table K V W) (n : ℕ) (e : Shown V W) → entry_at t n ≡ Some e → is_last e ≡ true → 1 ≤ e.callers → IfSome (entry_at t n) (λ s. s.listed ≡ true → Unlists eq t t' n) → IfSome (entry_at t n) (λ s. s.listed ≡ false → IsSame eq t t')
      → Retires eq t n e t'
  retires-last t t' n e is last some listed unlisted_is =
      let told = gives-up t t' n e is some listed unlisted_is in
      let none : (e.listed && not (is_last e)) ≡ false = ap (λ b. e.listed && not b) last ∙ and-false e.listed in
      let all : (e.listed && is_last e) ≡ e.listed = ap (λ b. e.listed && b) last ∙ and-true e.listed in
      record {
        entries = subst (λ b. Changes t.slots t'.slots n (Some (record e { listed = b }))) (sym none) told.0;
        numbers = subst (λ b. NumbersGo eq b t t' n) (sym all) told.1;
      }

  pub retires-none : (t t' : Table K V W) (n : ℕ) (e : Shown V W) → entry_at t n ≡ Some e → is_last e ≡ false → t' ≡ t → Retires eq t n e t'
  retires-none t t' n e is last same =
      let stays : (e.listed && not (is_last e)) ≡ e.listed = ap (λ b. e.listed && not b) last ∙ and-true e.listed in
      let none : (e.listed && is_last e) ≡ false = ap (λ b. e.listed && b) last ∙ and-false e.listed in
      record {
        entries = subst (λ b. Changes t.slots t'.slots n (Some (record e { listed = b }))) (sym stays) (same-changes t.slots t'.slots n e (λ m. ap (λ (x : Table K V W). shown_at x.slots m) same) is);
        numbers = subst (λ b. NumbersGo eq b t t' n) (sym none) (λ k. ap (λ (x : Table K V W). lookup (eq k) x.pairs) same);
      }

  pub one-caller : (t : Table K V W) (n k : ℕ) (e : Shown V W) → entry_at t n ≡ Some e → IfSome (entry_at t n) (λ s. k ≡ s.callers) → k ≡ 1 → 1 ≤ e.callers
  one-caller t n k e is count one = let same : k ≡ e.callers = at_entry (λ s. k ≡ s.callers) (entry_at t n) e is count in omega arith

  pub last-by : (t : Table K V W) (n k : ℕ) (c : Cell V W) (b : Bool) (e : Shown V W) → entry_at t n ≡ Some e → IfSome (entry_at t n) (λ s. k ≡ s.callers) → k ≡ 1 → IfSome (entry_at t n) (λ s. c ≡ s.cell) → (IsSome c.value → IsTrue b) → b ≡ false → is_last e ≡ true
  last-by t n k c b e is count one cell full out = by_value c.value refl
    where
      callers : (e.callers == 1) ≡ true
      callers = let same : k ≡ e.callers = at_entry (λ s. k ≡ s.callers) (entry_at t n) e is count in eq-eqb e.callers 1 (sym same ∙ one)

      by_value : (v : Option V) → c.value ≡ v → is_last e ≡ true
      by_value None at =
          let same : c ≡ e.cell = at_entry (λ s. c ≡ s.cell) (entry_at t n) e is cell in
          let none : is_none e.cell.value ≡ true = ap is_none (ap (λ (x : Cell V W). x.value) (sym same) ∙ at) in
          ap (λ x. x && is_none e.cell.value) callers ∙ none
      by_value (Some v) at = absurd (let some : IsSome c.value = ap is_some at in let there : b ≡ true = full some in cc)
