-- things of two kinds in a hall: an event on those of one kind leaves those of the other as they were
use Rattle.std.proofs.Common.{◌≡◌, Bool, true, false, Option, Some, None, refl, ap, sym, subst, ◌∙◌, if◌then◌else◌}
use Rattle.mea_once_model.specs.Cells.{Cells}
use Rattle.mea_once_model.specs.Tables.{Tables}
use Rattle.mea_once_model.specs.OnceHall.{OnceHall, Kind, Onces, OnceCells, TableKind, Maps, Groups, part, with_part, tables_of, with_tables}
use Rattle.mea_once_model.specs.OnceFamily.{is_kind, is_table_kind}

pub record Kinds (K A : Type 0) : Type 0 where
  pub same_kind : K → K → Bool
  pub part : OnceHall → K → A
  pub put : OnceHall → K → A → OnceHall
  pub there : (h : OnceHall) (k : K) (p : A) → part (put h k p) k ≡ p
  pub apart : (h : OnceHall) (j k : K) (p : A) → same_kind j k ≡ false → part (put h j p) k ≡ part h k
  pub same : (j k : K) → same_kind j k ≡ true → j ≡ k
  pub alike : (k : K) → same_kind k k ≡ true

pub cells_there : (h : OnceHall) (k : Kind) (p : Cells) → part (with_part h k p) k ≡ p
cells_there h Onces p = refl
cells_there h OnceCells p = refl

pub cells_apart : (h : OnceHall) (j k : Kind) (p : Cells) → is_kind j k ≡ false → part (with_part h j p) k ≡ part h k
cells_apart h Onces OnceCells p is = refl
cells_apart h OnceCells Onces p is = refl
cells_apart h _ _ p is = absurd (cc)

pub cells_same : (j k : Kind) → is_kind j k ≡ true → j ≡ k
cells_same Onces OnceCells is = absurd (cc)
cells_same OnceCells Onces is = absurd (cc)
cells_same _ _ is = refl

pub cells_alike : (k : Kind) → is_kind k k ≡ true
cells_alike Onces = refl
cells_alike OnceCells = refl

abbrev pub cell_kinds : Kinds Kind Cells
cell_kinds = record { same_kind = is_kind; part = part; put = with_part; there = cells_there; apart = cells_apart; same = cells_same; alike = cells_alike }

pub tables_there : (h : OnceHall) (k : TableKind) (p : Tables) → tables_of (with_tables h k p) k ≡ p
tables_there h Maps p = refl
tables_there h Groups p = refl

pub tables_apart : (h : OnceHall) (j k : TableKind) (p : Tables) → is_table_kind j k ≡ false → tables_of (with_tables h j p) k ≡ tables_of h k
tables_apart h Maps Groups p is = refl
tables_apart h Groups Maps p is = refl
tables_apart h _ _ p is = absurd (cc)

pub tables_same : (j k : TableKind) → is_table_kind j k ≡ true → j ≡ k
tables_same Maps Groups is = absurd (cc)
tables_same Groups Maps is = absurd (cc)
tables_same _ _ is = refl

pub tables_alike : (k : TableKind) → is_table_kind k k ≡ true
tables_alike Maps = refl
tables_alike Groups = refl

abbrev pub table_kinds : Kinds TableKind Tables
table_kinds = record { same_kind = is_table_kind; part = tables_of; put = with_tables; there = tables_there; apart = tables_apart; same = tables_same; alike = tables_alike }

-- the cells stay where maps or groups change, and the other way round
pub tables_stay : (h : OnceHall) (j : Kind) (k : TableKind) (p : Cells) → tables_of (with_part h j p) k ≡ tables_of h k
tables_stay h Onces Maps p = refl
tables_stay h _ _ p = refl

pub cells_stay : (h : OnceHall) (j : TableKind) (k : Kind) (p : Tables) → part (with_tables h j p) k ≡ part h k
cells_stay h Maps Onces p = refl
cells_stay h _ _ p = refl

module _ {K A : Type 0} (L : Kinds K A) where
  -- those of the kind are what an event leaves, and the others are as they were
  pub by_kind : (h : OnceHall) (j : K) (p : A) (P : K → A → Type 0) → P j p → ((k : K) → L.same_kind j k ≡ false → P k (L.part h k)) → (k : K) → P k (L.part (L.put h j p) k)
  by_kind h j p P mine others k = at (L.same_kind j k) refl
    where
      at : (b : Bool) → L.same_kind j k ≡ b → P k (L.part (L.put h j p) k)
      at true is = subst (λ k. P k (L.part (L.put h j p) k)) (L.same j k is) (subst (P j) (sym (L.there h j p)) mine)
      at false is = subst (P k) (sym (L.apart h j k p is)) (others k is)

  pub after_it : (h : OnceHall) (j k : K) (p : A) (P : A → Type 0) → j ≡ k → P p → P (L.part (L.put h j p) k)
  after_it h j k p P same mine = subst (λ k. P (L.part (L.put h j p) k)) same (subst P (sym (L.there h j p)) mine)

  pub polled_kind : {W : Type 0} (j k : K) (o : Option W) (w : W) → (if L.same_kind j k then o else None) ≡ Some w → (j ≡ k) × (o ≡ Some w)
  polled_kind {W} j k o w = at (L.same_kind j k) refl
    where
      at : (b : Bool) → L.same_kind j k ≡ b → (if b then o else None) ≡ Some w → (j ≡ k) × (o ≡ Some w)
      at true is some = (L.same j k is, some)
      at false is some = absurd (cc)

  pub ended_kind : (j k : K) (b : Bool) → (if L.same_kind j k then b else false) ≡ true → (j ≡ k) × (b ≡ true)
  ended_kind j k ends = at (L.same_kind j k) refl
    where
      at : (b : Bool) → L.same_kind j k ≡ b → (if b then ends else false) ≡ true → (j ≡ k) × (ends ≡ true)
      at true is yes_it_is = (L.same j k is, yes_it_is)
      at false is yes_it_is = absurd (cc)

  -- what is asked of one's own kind
  pub of_mine : {Z : Type 0} (k : K) (x y z : Z) → (if L.same_kind k k then x else y) ≡ z → x ≡ z
  of_mine k x y z is = sym (ap (λ b. if b then x else y) (L.alike k)) ∙ is
