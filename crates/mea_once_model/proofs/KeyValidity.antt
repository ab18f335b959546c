-- maps and groups that events reach are valid
use Rattle.std.proofs.Common.{◌≡◌, ℕ, ◌≤◌, ◌==◌, Bool, true, false, Option, Some, None, IsSome, refl, ap, sym, subst, ◌∙◌, arith, if◌then◌else◌}
use Rattle.std.specs.FinMap.{get, insert, remove}
use Rattle.std.proofs.lemmas.Bool.{eq-eqb}
use Rattle.mea_family.specs.Family.{Outcome}
use Rattle.mea_base.proofs.Maps.{by_put, by_gone, get-there, get-other, get-gone, get-removed_other, removed_there, inside, nothing_at, is_there}
use Rattle.mea_base.proofs.Tests.{by_name}
use Rattle.mea_family.proofs.Causes.{known}
use Rattle.mea_by_name.specs.ByName.{Names}
use Rattle.mea_by_name.proofs.Cases.{by_found, by_if}
use Rattle.mea_by_name.proofs.Own.{own-nothing}
use Rattle.mea_once_model.specs.declared.errand.Initialiser.{Initialiser}
use Rattle.mea_once_model.specs.Cells as cells
use Rattle.mea_once_model.specs.Cells.{Cell, CellFuture, Step, new_cell}
use Rattle.mea_once_model.specs.Tables as tables
use Rattle.mea_once_model.specs.Tables.{Table, KeyFuture, Tables, is_this, is_current, closed, left, left_by, at_round, caller, caller_after, others_of, without_key, new_table, futures_of, is_table}
use Rattle.mea_once_model.specs.KeyActions.{KeyAction, MakeTable, BeginKey, PollKey, SettleKey, EndKey, TellKey, DiscardKey, RemoveKey, DropTable, key_act, key_cause}
use Rattle.mea_once_model.specs.KeyValid.{IsValidTable, IsValidFuture, AreValid}
use Rattle.mea_family.proofs.Refusals.{not_borrowed}
use Rattle.mea_once_model.proofs.TableActing.{by_rounds, by_both}
use Rattle.mea_once_model.proofs.TableWakers.{LowTables, of_table, none_other}

-- ---- a map or group with less
less : (t : Table) (k : ℕ) → IsValidTable t → IsValidTable (record t { current = remove t.current k })
less t k valid = record {
  current = λ j n is. valid.current j n (removed_there t.current k j n is);
  one = λ j q n is also. valid.one j q n (removed_there t.current k j n is) (removed_there t.current k q n also);
  apart = λ j n is. valid.apart j n (removed_there t.current k j n is);
}

-- a key that has no current round is given a value, or none
valued : (t : Table) (k : ℕ) (m : Names ℕ) → ((j : ℕ) → (k ≡ j → ⊥) → get m j ≡ get t.values j) → get t.current k ≡ None → IsValidTable t → IsValidTable (record t { values = m })
valued t k m same none valid = record {
  current = valid.current;
  one = valid.one;
  apart = λ j n is. same j (λ mine. absurd (let nothing : get t.current j ≡ None = ap (get t.current) (sym mine) ∙ none in cc)) ∙ valid.apart j n is;
}

without_valid : (t : Table) (k : ℕ) → IsValidTable t → IsValidTable (without_key k t)
without_valid t k valid = valued (record t { current = remove t.current k }) k (remove t.values k) (λ j apart. get-removed_other t.values k j apart) (get-gone t.current k) (less t k valid)

-- ---- a step at a round, of which k is the key, if it is a current one
module _ (k r : ℕ) where
  -- the round is the current one of this key alone
  abbrev Mine : Table → Type 0
  Mine t = (j : ℕ) → get t.current j ≡ Some r → j ≡ k

  no_other : (t : Table) → Mine t → is_current t k r ≡ false → (j : ℕ) → get t.current j ≡ Some r → ⊥
  no_other t mine other j is =
      let here : get t.current k ≡ Some r = subst (λ q. get t.current q ≡ Some r) (mine j is) is in
      let yes_it_is : is_current t k r ≡ true = ap (is_this r) here ∙ eq-eqb r r refl in
      absurd (cc)

  none_left : (t : Table) → Mine t → (j : ℕ) → get (remove t.current k) j ≡ Some r → ⊥
  none_left t mine j is = absurd (let gone : get (remove t.current k) j ≡ None = ap (get (remove t.current k)) (mine j (removed_there t.current k j r is)) ∙ get-gone t.current k in cc)

  -- a map or group whose round is new, or was there, is valid with it
  abbrev Good : Table → Type 0
  Good t = IsValidTable (record t { rounds = insert t.rounds r (new_cell None) })

  good_there : (t : Table) → IsValidTable t → Good t
  good_there t valid = record {
    current = λ j n is. by_put t.rounds r (new_cell None) (λ m p. get t.current j ≡ Some m → (c : Cell) × (p ≡ Some c) × (c.value ≡ None)) (λ is. (new_cell None, refl, refl)) (λ m apart is. valid.current j m is) n is;
    one = valid.one;
    apart = valid.apart;
  }

  put_round : (t : Table) (c : Cell) → Good t → ((j : ℕ) → get t.current j ≡ Some r → c.value ≡ None) → IsValidTable (record t { rounds = insert t.rounds r c })
  put_round t c good fits = record {
    current = λ j n is. by_put t.rounds r c (λ m p. get t.current j ≡ Some m → (c : Cell) × (p ≡ Some c) × (c.value ≡ None)) (λ is. (c, refl, fits j is))
        (λ m apart is. let had = good.current j m is in (had.0, sym (get-other t.rounds r m (new_cell None) apart) ∙ had.1, had.2)) n is;
    one = good.one;
    apart = good.apart;
  }

  drop_round : (t : Table) → IsValidTable t → ((j : ℕ) → get t.current j ≡ Some r → ⊥) → IsValidTable (record t { rounds = remove t.rounds r })
  drop_round t valid none = record {
    current = λ j n is. by_gone t.rounds r (λ m p. get t.current j ≡ Some m → (c : Cell) × (p ≡ Some c) × (c.value ≡ None)) (λ is. absurd (none j is)) (λ m apart is. valid.current j m is) n is;
    one = valid.one;
    apart = valid.apart;
  }

  module _ (once : Bool) (t : Table) (c : Cell) (valid : Good t) (mine : Mine t) where
    abbrev values_with : ℕ → Names ℕ
    values_with v = if once then t.values else insert t.values k v

    values_else : (v j : ℕ) → (k ≡ j → ⊥) → get (values_with v) j ≡ get t.values j
    values_else v j apart = by_if (λ (m : Names ℕ). get m j ≡ get t.values j) once t.values (insert t.values k v) (λ is. refl) (λ is. get-other t.values k j v apart)

    closed_valid : (o : Option ℕ) → c.value ≡ o → IsValidTable (closed once k r o (record t { rounds = insert t.rounds r c }))
    closed_valid None is = put_round t c valid (λ j at. is)
    closed_valid (Some v) is = by_if IsValidTable (is_current t k r) (record t { values = values_with v; current = remove t.current k; rounds = insert t.rounds r c }) (record t { rounds = insert t.rounds r c })
        (λ now_it. valued (record t { current = remove t.current k; rounds = insert t.rounds r c }) k (values_with v) (values_else v) (get-gone t.current k)
        (put_round (record t { current = remove t.current k }) c (less (record t { rounds = insert t.rounds r (new_cell None) }) k valid) (λ j at. absurd (none_left t mine j at))))
        (λ other. put_round t c valid (λ j at. absurd (no_other t mine other j at)))

    -- what is current after that was so before
    closed_current : (o : Option ℕ) (j n : ℕ) → get (closed once k r o (record t { rounds = insert t.rounds r c })).current j ≡ Some n → get t.current j ≡ Some n
    closed_current None j n = λ is. is
    closed_current (Some v) j n = by_if (λ (u : Table). get u.current j ≡ Some n → get t.current j ≡ Some n) (is_current t k r) (record t { values = values_with v; current = remove t.current k; rounds = insert t.rounds r c }) (record t { rounds = insert t.rounds r c })
        (λ now_it is. removed_there t.current k j n is) (λ other is. is)

  -- a caller leaves
  left_valid : (others : ℕ) (t : Table) → IsValidTable t → Mine t → IsValidTable (left k r others t)
  left_valid others t valid mine = by_if IsValidTable (others == 0) (record t { rounds = remove t.rounds r; current = if is_current t k r then remove t.current k else t.current }) t
      (λ last. by_if (λ (m : Names ℕ). IsValidTable (record t { rounds = remove t.rounds r; current = m })) (is_current t k r) (remove t.current k) t.current
      (λ now_it. drop_round (record t { current = remove t.current k }) (less t k valid) (none_left t mine)) (λ other. drop_round t valid (no_other t mine other)))
      (λ more. valid)

  left_current : (others : ℕ) (t : Table) (j n : ℕ) → get (left k r others t).current j ≡ Some n → get t.current j ≡ Some n
  left_current others t j n = by_if (λ (u : Table). get u.current j ≡ Some n → get t.current j ≡ Some n) (others == 0) (record t { rounds = remove t.rounds r; current = if is_current t k r then remove t.current k else t.current }) t
      (λ last. by_if (λ (m : Names ℕ). get m j ≡ Some n → get t.current j ≡ Some n) (is_current t k r) (remove t.current k) t.current (λ now_it is. removed_there t.current k j n is) (λ other is. is)) (λ more is. is)

-- the map or group after a step of x at round r
module _ (once : Bool) (x : KeyFuture) (r others : ℕ) (t : Table) (s : Step) (valid : Good x.key r t) (mine : Mine x.key r t) where
  abbrev closing : Table
  closing = closed once x.key r s.cell.value (record t { rounds = insert t.rounds r s.cell })

  closing_mine : Mine x.key r closing
  closing_mine j is = mine j (closed_current x.key r once t s.cell valid mine s.cell.value j r is)

  step_valid : IsValidTable (at_round once x r others t s).table
  step_valid = by_future s.future
    where
      by_future : (p : Option CellFuture) → IsValidTable (left_by p x.key r others closing)
      by_future None = left_valid x.key r others closing (closed_valid x.key r once t s.cell valid mine s.cell.value refl) closing_mine
      by_future (Some y) = closed_valid x.key r once t s.cell valid mine s.cell.value refl

  step_current : (j n : ℕ) → get (at_round once x r others t s).table.current j ≡ Some n → get t.current j ≡ Some n
  step_current j n = by_future s.future
    where
      by_future : (p : Option CellFuture) → get (left_by p x.key r others closing).current j ≡ Some n → get t.current j ≡ Some n
      by_future None is = closed_current x.key r once t s.cell valid mine s.cell.value j n (left_current x.key r others closing j n is)
      by_future (Some y) is = closed_current x.key r once t s.cell valid mine s.cell.value j n is

-- ---- the rounds after a step
step_there : (once : Bool) (x : KeyFuture) (r others : ℕ) (t : Table) (s : Step) (n : ℕ) → (r ≡ n → ⊥) → IsSome (get t.rounds n) → IsSome (get (at_round once x r others t s).table.rounds n)
step_there once x r others t s n apart some = by_rounds (λ rs. IsSome (get rs n)) once x r others t s
    (subst IsSome (sym (get-other t.rounds r n s.cell apart)) some)
    (λ over last. subst IsSome (sym (get-removed_other (insert t.rounds r s.cell) r n apart ∙ get-other t.rounds r n s.cell apart)) some)

-- its own is there, unless the last caller has left
step_here : (once : Bool) (x : KeyFuture) (r others : ℕ) (t : Table) (s : Step) → (s.future ≡ None → others ≡ 0 → ⊥) → IsSome (get (at_round once x r others t s).table.rounds r)
step_here once x r others t s some = by_rounds (λ rs. IsSome (get rs r)) once x r others t s (is_there _ s.cell (get-there t.rounds r s.cell)) (λ over last. absurd (some over last))

-- ---- one map or group changes, or none does, and its futures with it
module _ (h : Tables) (valid : AreValid h) where
  pub rests : (fs : Names KeyFuture) → ((g : ℕ) (y : KeyFuture) → get fs g ≡ Some y → IsSome (get h.tables y.table) × ((t : Table) → get h.tables y.table ≡ Some t → IsValidFuture t y)) → AreValid (record h { futures = fs })
  rests fs each = record { tables = valid.tables; home = λ g y is. (each g y is).0; futures = λ g y t is there. (each g y is).1 t there }

  old : (g : ℕ) (y : KeyFuture) → get h.futures g ≡ Some y → IsSome (get h.tables y.table) × ((t : Table) → get h.tables y.table ≡ Some t → IsValidFuture t y)
  old g y is = (valid.home g y is, λ t there. valid.futures g y t is there)

  changes : (o : ℕ) (t' : Table) (fs : Names KeyFuture) → IsValidTable t' → ((g : ℕ) (y : KeyFuture) → get fs g ≡ Some y → (o ≡ y.table → ⊥) → get h.futures g ≡ Some y) → ((g : ℕ) (y : KeyFuture) → get fs g ≡ Some y → o ≡ y.table → IsValidFuture t' y)
      → AreValid (record { tables = insert h.tables o t'; futures = fs })
  changes o t' fs good same mine = record {
    tables = by_put h.tables o t' (λ q p. (t : Table) → p ≡ Some t → IsValidTable t) (λ t is. subst IsValidTable (inside is) good) (λ q apart t is. valid.tables q t is);
    home = λ g y is. by_put h.tables o t' (λ q p. y.table ≡ q → IsSome p) (λ at. refl) (λ q apart at. subst (λ q. IsSome (get h.tables q)) at (valid.home g y (same g y is (λ here. apart (here ∙ at))))) y.table refl;
    futures = λ g y t is. by_put h.tables o t' (λ q p. y.table ≡ q → p ≡ Some t → IsValidFuture t y) (λ at there. subst (λ t. IsValidFuture t y) (inside there) (mine g y is (sym at)))
        (λ q apart at there. valid.futures g y t (same g y is (λ here. apart (here ∙ at))) (subst (λ q. get h.tables q ≡ Some t) (sym at) there)) y.table refl;
  }

  -- a future that changes, but not whose it is
  module _ (f : ℕ) (x : KeyFuture) (future : get h.futures f ≡ Some x) where
    turned_same : (p : Option KeyFuture) → ((y : KeyFuture) → p ≡ Some y → y.table ≡ x.table) → (g : ℕ) (y : KeyFuture) → get (cells.turned_to h.futures f p) g ≡ Some y → (x.table ≡ y.table → ⊥) → get h.futures g ≡ Some y
    turned_same None home g y = λ is away. removed_there h.futures f g y is
    turned_same (Some z) home g y = by_put h.futures f z (λ g p. p ≡ Some y → (x.table ≡ y.table → ⊥) → get h.futures g ≡ Some y)
        (λ is away. absurd (away (sym (home y is)))) (λ g apart is away. is) g

    turned_mine : (t' : Table) (p : Option KeyFuture) → ((g : ℕ) (y : KeyFuture) → (f ≡ g → ⊥) → get h.futures g ≡ Some y → x.table ≡ y.table → IsValidFuture t' y) → ((y : KeyFuture) → p ≡ Some y → IsValidFuture t' y)
        → (g : ℕ) (y : KeyFuture) → get (cells.turned_to h.futures f p) g ≡ Some y → x.table ≡ y.table → IsValidFuture t' y
    turned_mine t' None others own g y = by_gone h.futures f (λ g p. p ≡ Some y → x.table ≡ y.table → IsValidFuture t' y) (λ is at. absurd (cc)) (λ g apart is at. others g y apart is at) g
    turned_mine t' (Some z) others own g y = by_put h.futures f z (λ g p. p ≡ Some y → x.table ≡ y.table → IsValidFuture t' y) (λ is at. own y is) (λ g apart is at. others g y apart is at) g

module _ (once : Bool) (h : Tables) (n i : ℕ) (low : LowTables h n) (later : n ≤ i) (valid : AreValid h) where
  -- ---- a step of the future f at round r of its map or group
  module _ (f : ℕ) (x : KeyFuture) (future : get h.futures f ≡ Some x) (t : Table) (there : get h.tables x.table ≡ Some t) where
    module _ (r : ℕ) (cur : Names ℕ) (s : Step) (good : Good x.key r (record t { current = cur })) (mine : Mine x.key r (record t { current = cur }))
        (keys : (g : ℕ) (y : KeyFuture) → get h.futures g ≡ Some y → y.table ≡ x.table → (m k : ℕ) → y.round ≡ Some m → get cur k ≡ Some m → k ≡ y.key) where
      abbrev after : Table
      after = (at_round once x r (others_of h f x.table r) (record t { current = cur }) s).table

      other_fits : (g : ℕ) (y : KeyFuture) → (f ≡ g → ⊥) → get h.futures g ≡ Some y → x.table ≡ y.table → IsValidFuture after y
      other_fits g y apart is at =
          let was = valid.futures g y t is (subst (λ o. get h.tables o ≡ Some t) at there) in
          record {
            round = λ m round. by_name r m
                (λ same. subst (λ m. IsSome (get after.rounds m)) same (step_here once x r (others_of h f x.table r) (record t { current = cur }) s
                (λ over last. none_other h n i low later f g x.table r y last apart is (sym at) (round ∙ ap (λ m. Some m) (sym same)))))
                (λ differs. step_there once x r (others_of h f x.table r) (record t { current = cur }) s m differs (was.round m round));
            key = λ m k round now_it. keys g y is (sym at) m k round (step_current once x r (others_of h f x.table r) (record t { current = cur }) s good mine k m now_it);
          }

      own_fits : (p : Option CellFuture) → s.future ≡ p → (y : KeyFuture) → caller_after r x p ≡ Some y → IsValidFuture after y
      own_fits None over y is = absurd (cc)
      own_fits (Some z) over y is =
          let same : _ ≡ y = inside is in
          subst (IsValidFuture after) same (record {
            round = λ m round. subst (λ m. IsSome (get after.rounds m)) (inside round)
                (step_here once x r (others_of h f x.table r) (record t { current = cur }) s (λ gone last. absurd (let both : ◌≡◌ {A = Option CellFuture} (Some z) None = sym over ∙ gone in cc)));
            key = λ m k round now_it. mine k (step_current once x r (others_of h f x.table r) (record t { current = cur }) s good mine k r (now_it ∙ sym round));
          })

      own_home : (p : Option CellFuture) (y : KeyFuture) → caller_after r x p ≡ Some y → y.table ≡ x.table
      own_home None y is = absurd (cc)
      own_home (Some z) y is = let same : _ ≡ y = inside is in ap (λ (y : KeyFuture). y.table) (sym same)

      steps : AreValid (tables.applied h f x.table (at_round once x r (others_of h f x.table r) (record t { current = cur }) s)).hall
      steps = changes h valid x.table after (cells.turned_to h.futures f (caller_after r x s.future)) (step_valid once x r (others_of h f x.table r) (record t { current = cur }) s good mine)
          (turned_same h valid f x future (caller_after r x s.future) (own_home s.future)) (turned_mine h valid f x future after (caller_after r x s.future) other_fits (own_fits s.future refl))

    its_keys : (g : ℕ) (y : KeyFuture) → get h.futures g ≡ Some y → y.table ≡ x.table → (m k : ℕ) → y.round ≡ Some m → get t.current k ≡ Some m → k ≡ y.key
    its_keys g y is at m k round now_it = (valid.futures g y t is (subst (λ o. get h.tables o ≡ Some t) (sym at) there)).key m k round now_it

    in_round : (r : ℕ) → Mine x.key r t → (act : CellFuture → Cell → Step) → AreValid (tables.in_round once h f x t act r).hall
    in_round r mine act = by_found (λ (o : Outcome Tables). AreValid o.hall) (get t.rounds r) h _ valid
        (λ c is. steps r t.current (act (caller x) c) (good_there x.key r t (valid.tables x.table t there)) mine its_keys)

    its_round : (r : ℕ) → x.round ≡ Some r → Mine x.key r t
    its_round r is j now_it = (valid.futures f x t future there).key r j is now_it

    gone : AreValid (tables.forgets h f).hall
    gone = rests h valid (remove h.futures f) (λ g y is. old h valid g y (removed_there h.futures f g y is))

    -- ---- a poll
    module _ (w : ℕ) where
      opens : get t.current x.key ≡ None → get t.values x.key ≡ None → AreValid (tables.open_round once h i f w x t).hall
      opens none empty_key = steps i (insert t.current x.key i) (cells.poll f w (caller x) (new_cell None)) (record {
        current = λ j m is. by_put t.current x.key i (λ j p. p ≡ Some m → (c : Cell) × (get (insert t.rounds i (new_cell None)) m ≡ Some c) × (c.value ≡ None))
            (λ is. (new_cell None, subst (λ m. get (insert t.rounds i (new_cell None)) m ≡ Some (new_cell None)) (inside is) (get-there t.rounds i (new_cell None)), refl))
            (λ j apart is. let had = (valid.tables x.table t there).current j m is in (had.0, get-other t.rounds i m (new_cell None) (fresh j m is) ∙ had.1, had.2)) j is;
        one = λ j q m is also. by_put t.current x.key i (λ j p. p ≡ Some m → j ≡ q)
            (λ is. by_put t.current x.key i (λ q p. p ≡ Some m → x.key ≡ q) (λ also. refl) (λ q apart also. absurd (fresh q m also (inside is))) q also)
            (λ j apart is. by_put t.current x.key i (λ q p. p ≡ Some m → j ≡ q) (λ also. absurd (fresh j m is (inside also))) (λ q other also. (valid.tables x.table t there).one j q m is also) q also) j is;
        apart = λ j m is. by_put t.current x.key i (λ j p. p ≡ Some m → get t.values j ≡ None) (λ is. empty_key) (λ j apart is. (valid.tables x.table t there).apart j m is) j is;
      }) (λ j is. by_put t.current x.key i (λ j p. p ≡ Some i → j ≡ x.key) (λ is. refl) (λ j apart is. absurd (fresh j i is refl)) j is)
          (λ g y is at m k round now_it. by_put t.current x.key i (λ k p. p ≡ Some m → k ≡ y.key) (λ now_it. absurd (let small = low.rounds g m y is round in let same : i ≡ m = inside now_it in omega (arith, small, same, later)))
          (λ k apart now_it. its_keys g y is at m k round now_it) k now_it)
        where
          fresh : (j m : ℕ) → get t.current j ≡ Some m → i ≡ m → ⊥
          fresh j m is same = absurd (let small = (low.current x.table t there).at j m is in omega (arith, small, same, later))

      joins : (p : Option ℕ) → get t.current x.key ≡ p → get t.values x.key ≡ None → AreValid (tables.join_round once h i f w x t p).hall
      joins None none empty_key = opens none empty_key
      joins (Some r) is empty_key = in_round r (λ j now_it. (valid.tables x.table t there).one j x.key r now_it is) (cells.poll f w)

      firsts : (p : Option ℕ) → get t.values x.key ≡ p → AreValid (tables.first_poll once h i f w x t p).hall
      firsts None none = joins (get t.current x.key) refl none
      firsts (Some v) is = changes h valid x.table t (remove h.futures f) (valid.tables x.table t there) (λ g y is away. removed_there h.futures f g y is)
          (λ g y is at. valid.futures g y t (removed_there h.futures f g y is) (subst (λ o. get h.tables o ≡ Some t) at there))

      polls : (p : Option ℕ) → x.round ≡ p → AreValid (tables.poll once h i f w x t p).hall
      polls None is = firsts (get t.values x.key) refl
      polls (Some r) is = in_round r (its_round r is) (cells.poll f w)

    settles : (outcome : Initialiser) (p : Option ℕ) → x.round ≡ p → AreValid (tables.settle once h f outcome x t p).hall
    settles outcome None is = rests h valid (insert h.futures f (record x { init = outcome })) (by_put h.futures f (record x { init = outcome })
        (λ g p. (y : KeyFuture) → p ≡ Some y → IsSome (get h.tables y.table) × ((t : Table) → get h.tables y.table ≡ Some t → IsValidFuture t y))
        (λ y same. subst (λ y. IsSome (get h.tables y.table) × ((t : Table) → get h.tables y.table ≡ Some t → IsValidFuture t y)) (inside same)
        (valid.home f x future, λ t at. let was = valid.futures f x t future at in record { round = was.round; key = was.key }))
        (λ g apart y at. old h valid g y at))
    settles outcome (Some r) is = in_round r (its_round r is) (cells.settle f outcome)

    end_at : (r : ℕ) → x.round ≡ Some r → (p : Option Cell) → AreValid (tables.end_at once h f x t r p).hall
    end_at r is None = gone
    end_at r is (Some c) = steps r t.current (cells.end f (caller x) c) (good_there x.key r t (valid.tables x.table t there)) (its_round r is) its_keys

    end_in : (p : Option ℕ) → x.round ≡ p → AreValid (tables.end_in once h f x t p).hall
    end_in None is = gone
    end_in (Some r) is = end_at r is (get t.rounds r)

  ends : (f : ℕ) (x : KeyFuture) → get h.futures f ≡ Some x → (p : Option Table) → get h.tables x.table ≡ p → AreValid (tables.end once h f x p).hall
  ends f x future None there = rests h valid (remove h.futures f) (λ g y is. old h valid g y (removed_there h.futures f g y is))
  ends f x future (Some t) there = end_in f x future t there x.round refl

  -- ---- every action
  takes_key : (o k : ℕ) (t : Table) → get h.tables o ≡ Some t → AreValid (tables.with_table h o (without_key k t))
  takes_key o k t there = changes h valid o (without_key k t) h.futures (without_valid t k (valid.tables o t there)) (λ g y is away. is)
      (λ g y is at. let was = valid.futures g y t is (subst (λ o. get h.tables o ≡ Some t) at there) in record { round = was.round; key = λ m j round now_it. was.key m j round (removed_there t.current k j m now_it) })

  makes : AreValid (tables.make h i).hall
  makes = changes h valid i new_table h.futures
      (record { current = λ k m is. absurd (nothing_at ℕ k m is); one = λ k j m is also. absurd (nothing_at ℕ k m is); apart = λ k m is. absurd (nothing_at ℕ k m is) })
      (λ g y is away. is) (λ g y is at. absurd (let small = (low.below g y is).1 in omega (arith, small, at, later)))

  begins : (o k : ℕ) → is_table h o ≡ true → AreValid (tables.begin h i o k).hall
  begins o k here = rests h valid _ (by_put h.futures i _ (λ g p. (y : KeyFuture) → p ≡ Some y → IsSome (get h.tables y.table) × ((t : Table) → get h.tables y.table ≡ Some t → IsValidFuture t y))
      (λ y same. subst (λ y. IsSome (get h.tables y.table) × ((t : Table) → get h.tables y.table ≡ Some t → IsValidFuture t y)) (inside same)
      (here, λ t at. record { round = λ m round. absurd (cc); key = λ m j round now_it. absurd (cc) }))
      (λ g apart y at. old h valid g y at))

  drops : (o : ℕ) → futures_of h o ≡ 0 → AreValid (record h { tables = remove h.tables o })
  drops o alone = record {
    tables = λ q t is. valid.tables q t (removed_there h.tables o q t is);
    home = λ g y is. subst IsSome (sym (get-removed_other h.tables o y.table (own-nothing of_table o h.futures alone g y is))) (valid.home g y is);
    futures = λ g y t is there. valid.futures g y t is (removed_there h.tables o y.table t there);
  }

  pub valid_after : (a : KeyAction) → key_cause h a ≡ None → AreValid (key_act once h i a).hall
  valid_after MakeTable allowed = makes
  valid_after (BeginKey o k) allowed = begins o k (known (is_table h o) allowed)
  valid_after (PollKey f w) allowed = by_both (λ (o : Outcome Tables). AreValid o.hall) h f _ valid (λ x t future there. polls f x future t there w x.round refl)
  valid_after (SettleKey f r) allowed = by_both (λ (o : Outcome Tables). AreValid o.hall) h f _ valid (λ x t future there. settles f x future t there r x.round refl)
  valid_after (EndKey f) allowed = by_found (λ (o : Outcome Tables). AreValid o.hall) (get h.futures f) h _ valid (λ x future. ends f x future (get h.tables x.table) refl)
  valid_after (TellKey o k) allowed = by_found (λ (o : Outcome Tables). AreValid o.hall) (get h.tables o) h _ valid (λ t there. valid)
  valid_after (DiscardKey o k) allowed = by_found (λ (o : Outcome Tables). AreValid o.hall) (get h.tables o) h _ valid (λ t there. takes_key o k t there)
  valid_after (RemoveKey o k) allowed = by_found (λ (o : Outcome Tables). AreValid o.hall) (get h.tables o) h _ valid (λ t there. takes_key o k t there)
  valid_after (DropTable o) allowed = by_found (λ (o : Outcome Tables). AreValid o.hall) (get h.tables o) h _ valid (λ t there. drops o (not_borrowed (is_table h o) (futures_of h o) allowed))

pub nothing_valid : AreValid tables.no_tables
nothing_valid = record {
  tables = λ o t is. absurd (nothing_at Table o t is);
  home = λ f x is. absurd (nothing_at KeyFuture f x is);
  futures = λ f x t is there. absurd (nothing_at KeyFuture f x is);
}
