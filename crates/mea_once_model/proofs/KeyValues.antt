-- the value of a key stays until the key is taken out
use Rattle.std.proofs.Common.{◌≡◌, ℕ, ◌≤◌, ◌==◌, ◌&&◌, Bool, true, false, Option, Some, None, refl, ap, sym, ◌∙◌, arith, if◌then◌else◌}
use Rattle.std.specs.FinMap.{get, insert, remove}
use Rattle.std.proofs.lemmas.Bool.{eqb-true, eq-eqb}
use Rattle.mea_family.specs.Family.{Outcome}
use Rattle.mea_base.proofs.Maps.{by_put, get-other, get-removed_other}
use Rattle.mea_by_name.specs.ByName.{Names}
use Rattle.mea_by_name.proofs.Cases.{by_found, by_if}
use Rattle.mea_once_model.specs.declared.errand.Initialiser.{Initialiser}
use Rattle.mea_once_model.specs.Cells as cells
use Rattle.mea_once_model.specs.Cells.{Cell, CellFuture, Step, new_cell}
use Rattle.mea_once_model.specs.Tables as tables
use Rattle.mea_once_model.specs.Tables.{Table, KeyFuture, Tables, is_this, is_current, closed, left, left_by, at_round, caller, others_of, without_key, new_table}
use Rattle.mea_once_model.specs.KeyActions.{KeyAction, MakeTable, BeginKey, PollKey, SettleKey, EndKey, TellKey, DiscardKey, RemoveKey, DropTable, key_act}
use Rattle.mea_once_model.specs.KeyValid.{AreValid}
use Rattle.mea_once_model.specs.KeyValues.{value_in, value_at, takes_away}
use Rattle.mea_once_model.proofs.TableWakers.{LowTables}
use Rattle.mea_once_model.proofs.TableActing.{by_both}

-- what is this number is there
this_is : (n : ℕ) (p : Option ℕ) → is_this n p ≡ true → p ≡ Some n
this_is n None is = absurd (cc)
this_is n (Some m) is = ap (λ m. Some m) (eqb-true m n is)

left_values : (k n others : ℕ) (t : Table) → (left k n others t).values ≡ t.values
left_values k n others t = by_if (λ (u : Table). u.values ≡ t.values) (others == 0) (record t { rounds = remove t.rounds n; current = if is_current t k n then remove t.current k else t.current }) t (λ last. refl) (λ more. refl)

-- a step at a round leaves the values of keys that have one
module _ (once : Bool) (x : KeyFuture) (r others : ℕ) (t : Table) (s : Step) (k v : ℕ) (none : get t.current x.key ≡ Some r → get t.values x.key ≡ None) (is : get t.values k ≡ Some v) where
  closed_keeps : (o : Option ℕ) → get (closed once x.key r o (record t { rounds = insert t.rounds r s.cell })).values k ≡ Some v
  closed_keeps None = is
  closed_keeps (Some w) = by_if (λ (u : Table). get u.values k ≡ Some v) (is_current t x.key r) (record t { values = if once then t.values else insert t.values x.key w; current = remove t.current x.key; rounds = insert t.rounds r s.cell }) (record t { rounds = insert t.rounds r s.cell })
      (λ now_it. by_if (λ (m : Names ℕ). get m k ≡ Some v) once t.values (insert t.values x.key w) (λ one_round. is)
      (λ stays. get-other t.values x.key k w (λ same. absurd (let nothing : get t.values k ≡ None = ap (get t.values) (sym same) ∙ none (this_is r (get t.current x.key) now_it) in cc)) ∙ is))
      (λ other. is)

  step_keeps : get (at_round once x r others t s).table.values k ≡ Some v
  step_keeps = by_future s.future
    where
      by_future : (p : Option CellFuture) → get (left_by p x.key r others (closed once x.key r s.cell.value (record t { rounds = insert t.rounds r s.cell }))).values k ≡ Some v
      by_future None = ap (λ m. get m k) (left_values x.key r others (closed once x.key r s.cell.value (record t { rounds = insert t.rounds r s.cell }))) ∙ closed_keeps s.cell.value
      by_future (Some y) = closed_keeps s.cell.value

module _ (once : Bool) (h : Tables) (n i : ℕ) (low : LowTables h n) (later : n ≤ i) (valid : AreValid h) (o k v : ℕ) (had : value_at h o k ≡ Some v) where
  abbrev Has : Outcome Tables → Type 0
  Has p = value_at p.hall o k ≡ Some v

  -- one map or group changes
  changes : (p : ℕ) (t t' : Table) → get h.tables p ≡ Some t → (p ≡ o → get t.values k ≡ Some v → get t'.values k ≡ Some v) → value_in (get (insert h.tables p t') o) k ≡ Some v
  changes p t t' there keep = by_put h.tables p t' (λ q u. q ≡ o → value_in (get h.tables q) k ≡ Some v → value_in u k ≡ Some v)
      (λ at is. keep at (sym (ap (λ u. value_in u k) there) ∙ is)) (λ q apart at is. is) o refl had

  module _ (f : ℕ) (x : KeyFuture) (t : Table) (there : get h.tables x.table ≡ Some t) where
    in_round : (act : CellFuture → Cell → Step) (r : ℕ) → Has (tables.in_round once h f x t act r)
    in_round act r = by_found Has (get t.rounds r) h _ had
        (λ c at. changes x.table t _ there (λ mine is. step_keeps once x r (others_of h f x.table r) t (act (caller x) c) k v (λ now_it. (valid.tables x.table t there).apart x.key r now_it) is))

    module _ (w : ℕ) where
      joins : (p : Option ℕ) → get t.values x.key ≡ None → Has (tables.join_round once h i f w x t p)
      joins None none = changes x.table t _ there (λ mine is. step_keeps once x i (others_of h f x.table i) (record t { current = insert t.current x.key i }) (cells.poll f w (caller x) (new_cell None)) k v (λ now_it. none) is)
      joins (Some r) none = in_round (cells.poll f w) r

      firsts : (p : Option ℕ) → get t.values x.key ≡ p → Has (tables.first_poll once h i f w x t p)
      firsts None none = joins (get t.current x.key) none
      firsts (Some u) some = changes x.table t t there (λ mine is. is)

      polls : (p : Option ℕ) → Has (tables.poll once h i f w x t p)
      polls None = firsts (get t.values x.key) refl
      polls (Some r) = in_round (cells.poll f w) r

    settles : (outcome : Initialiser) (p : Option ℕ) → Has (tables.settle once h f outcome x t p)
    settles outcome None = had
    settles outcome (Some r) = in_round (cells.settle f outcome) r

    end_at : (r : ℕ) (p : Option Cell) → Has (tables.end_at once h f x t r p)
    end_at r None = had
    end_at r (Some c) = changes x.table t _ there (λ mine is. step_keeps once x r (others_of h f x.table r) t (cells.end f (caller x) c) k v (λ now_it. (valid.tables x.table t there).apart x.key r now_it) is)

    end_in : (p : Option ℕ) → Has (tables.end_in once h f x t p)
    end_in None = had
    end_in (Some r) = end_at r (get t.rounds r)

  ends : (f : ℕ) (x : KeyFuture) (p : Option Table) → get h.tables x.table ≡ p → Has (tables.end once h f x p)
  ends f x None there = had
  ends f x (Some t) there = end_in f x t there x.round

  -- a key is taken out that is another
  discards : (p j : ℕ) → ((p == o) && (j == k)) ≡ false → (t : Table) → get h.tables p ≡ Some t → value_at (tables.with_table h p (without_key j t)) o k ≡ Some v
  discards p j other t there = changes p t (without_key j t) there (λ mine is. get-removed_other t.values j k
      (λ same. absurd (let both : ((p == o) && (j == k)) ≡ true = (λ q. eq-eqb p o mine q && eq-eqb j k same q) in cc)) ∙ is)

  pub value_stays : (a : KeyAction) → takes_away a o k ≡ false → Has (key_act once h i a)
  value_stays MakeTable lasts = ap (λ u. value_in u k) (get-other h.tables i o new_table (λ same. there_is (get h.tables o) refl had same)) ∙ had
    where
      there_is : (p : Option Table) → get h.tables o ≡ p → value_in p k ≡ Some v → i ≡ o → ⊥
      there_is None at is same = absurd (cc)
      there_is (Some t) at is same = absurd (let small = low.lows.at o t at in omega (arith, small, same, later))
  value_stays (BeginKey p j) lasts = had
  value_stays (PollKey f w) lasts = by_both Has h f _ had (λ x t future there. polls f x t there w x.round)
  value_stays (SettleKey f r) lasts = by_both Has h f _ had (λ x t future there. settles f x t there r x.round)
  value_stays (EndKey f) lasts = by_found Has (get h.futures f) h _ had (λ x future. ends f x (get h.tables x.table) refl)
  value_stays (TellKey p j) lasts = by_found Has (get h.tables p) h _ had (λ t there. had)
  value_stays (DiscardKey p j) lasts = by_found Has (get h.tables p) h _ had (λ t there. discards p j lasts t there)
  value_stays (RemoveKey p j) lasts = by_found Has (get h.tables p) h _ had (λ t there. discards p j lasts t there)
  value_stays (DropTable p) lasts = by_found Has (get h.tables p) h _ had
      (λ t there. ap (λ u. value_in u k) (get-removed_other h.tables p o (λ same. absurd (let it : (p == o) ≡ true = eq-eqb p o same in cc))) ∙ had)
