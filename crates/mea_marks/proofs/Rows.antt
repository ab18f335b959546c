-- what the rows tell of each thing
use Rattle.std.proofs.Common.{◌≡◌, ℕ, ◌==◌, ◌&&◌, ◌||◌, ◌++◌, true, false, List, [], ◌∷◌, Option, Some, None, refl, ap, sym, ◌∙◌, if◌then◌else◌}
use Rattle.std.specs.Option.{option_map}
use Rattle.std.proofs.lemmas.Bool.{eqb-true, eq-eqb, and_parts}
use Rattle.mea_family.specs.declared.answer.Answer.{Answer}
use Rattle.mea_marks.specs.declared.deed.Deed.{Deed}
use Rattle.mea_marks.specs.declared.deed.Deed.TheVariants.{Makes, Begins, Copies, Polls, Ends, Other}
use Rattle.mea_marks.specs.declared.row.Row.{Row}
use Rattle.mea_marks.specs.declared.row.Stage.{Stage}
use Rattle.mea_marks.specs.declared.row.Stage.TheVariants.{Made, Rests, Ended}
use Rattle.mea_marks.specs.declared.thing.Thing.{Thing}
use Rattle.mea_marks.specs.Deeds.{deed_of}
use Rattle.mea_marks.specs.Laws.{Told, board_told, made_stage, turned_stage, stage_before, stage_after, stage_of, stage_in}
use Rattle.mea_marks.specs.Marks.{board_after, rows_before, rows_after, polled_stage, thing_of}
use Rattle.mea_marks.specs.Rows.{same, is_of, row_of, with_stage, has_row, put_stage, add_row}
use Rattle.mea_marks.specs.Sorts.{code_of, is_lasting}

-- ---- things that are one

same_codes : (a b : Thing) → same a b ≡ true → code_of a.sort ≡ code_of b.sort
same_codes a b h = eqb-true (code_of a.sort) (code_of b.sort) ((and_parts (code_of a.sort == code_of b.sort) (a.name == b.name) h).0)

same_names : (a b : Thing) → same a b ≡ true → a.name ≡ b.name
same_names a b h = eqb-true a.name b.name ((and_parts (code_of a.sort == code_of b.sort) (a.name == b.name) h).1)

-- the same of both, on either side
pub same_left : (a b y : Thing) → same a b ≡ true → same a y ≡ same b y
same_left a b y h = λ i. (same_codes a b h i == code_of y.sort) && (same_names a b h i == y.name)

pub same_right : (a b y : Thing) → same a b ≡ true → same y a ≡ same y b
same_right a b y h = λ i. (code_of y.sort == same_codes a b h i) && (y.name == same_names a b h i)

pub same_here : (x : Thing) → same x x ≡ true
same_here x = λ i. eq-eqb (code_of x.sort) (code_of x.sort) refl i && eq-eqb x.name x.name refl i

-- ---- the stage of one thing in rows that are changed

module _ (x : Thing) (g : Stage) (y : Thing) where
  -- where x is not the thing of this row, and y is, x is not y
  other_one : (r : Row) → same r.thing x ≡ false → same r.thing y ≡ true → same x y ≡ false
  other_one r not is = elim (same x y) as (λ v. same x y ≡ v → v ≡ false) [
    | true ↦ λ e. let back : same r.thing x ≡ true = same_right x y r.thing e ∙ is in absurd (cc)
    | false ↦ λ e. refl
  ] refl

  changed_here : (r : Row) (rest later : Option Stage) → same r.thing x ≡ true → later ≡ turned_stage (same x y) g rest
      → (if same x y then Some g else later) ≡ turned_stage (same x y) g (if same r.thing y then Some r.stage else rest)
  changed_here r rest later is next =
      (elim (same x y) as (λ v. later ≡ turned_stage v g rest → (if v then Some g else later) ≡ turned_stage v g (if v then Some r.stage else rest)) [
        | true ↦ λ e. refl
        | false ↦ λ e. e
      ] next)
      ∙ ap (λ v. turned_stage (same x y) g (if v then Some r.stage else rest)) (sym (same_left r.thing x y is))

  kept_here : (r : Row) (rest later : Option Stage) → same r.thing x ≡ false → later ≡ turned_stage (same x y) g rest
      → (if same r.thing y then Some r.stage else later) ≡ turned_stage (same x y) g (if same r.thing y then Some r.stage else rest)
  kept_here r rest later not next =
      elim (same r.thing y) as (λ v. same r.thing y ≡ v → (if v then Some r.stage else later) ≡ turned_stage (same x y) g (if v then Some r.stage else rest)) [
        | true ↦ λ e. ap (λ v. turned_stage v g (Some r.stage)) (sym (other_one r not e))
        | false ↦ λ e. next
      ] refl

  stage_turned : (rows : List Row) → stage_in (with_stage x g rows) y ≡ turned_stage (same x y) g (stage_in rows y)
  stage_turned [] = elim (same x y) as (λ v. None ≡ turned_stage v g None) [ true ↦ refl | false ↦ refl ]
  stage_turned (r ∷ rows) =
      elim (same r.thing x) as (λ v. same r.thing x ≡ v
      → stage_in ((if v then row_of x g else r) ∷ with_stage x g rows) y ≡ turned_stage (same x y) g (stage_in (r ∷ rows) y)) [
        | true ↦ λ e. changed_here r (stage_in rows y) (stage_in (with_stage x g rows) y) e (stage_turned rows)
        | false ↦ λ e. kept_here r (stage_in rows y) (stage_in (with_stage x g rows) y) e (stage_turned rows)
      ] refl

-- ---- a row more

-- the stage that was there, or that of the new row
abbrev or_else : Option Stage → Option Stage → Option Stage
or_else (Some g) other = Some g
or_else None other = other

stage_behind : (rows : List Row) (q : Row) (y : Thing) → stage_in (rows ++ q ∷ []) y ≡ or_else (stage_in rows y) (if is_of y q then Some q.stage else None)
stage_behind [] q y = refl
stage_behind (r ∷ rows) q y =
    elim (is_of y r) as (λ v. (if v then Some r.stage else stage_in (rows ++ q ∷ []) y) ≡ or_else (if v then Some r.stage else stage_in rows y) (if is_of y q then Some q.stage else None)) [
      | true ↦ refl
      | false ↦ stage_behind rows q y
    ]

-- a thing has a row where that shows a stage
none_there : (x : Thing) (rows : List Row) → has_row x rows ≡ false → stage_in rows x ≡ None
none_there x [] h = refl
none_there x (r ∷ rows) h =
    elim (is_of x r) as (λ v. (v || has_row x rows) ≡ false → (if v then Some r.stage else stage_in rows x) ≡ None) [
      | true ↦ λ e. absurd (cc)
      | false ↦ λ e. none_there x rows e
    ] h

one_there : (x : Thing) (rows : List Row) → has_row x rows ≡ true → (g : Stage) × (stage_in rows x ≡ Some g)
one_there x [] h = absurd (cc)
one_there x (r ∷ rows) h =
    elim (is_of x r) as (λ v. (v || has_row x rows) ≡ true → (g : Stage) × ((if v then Some r.stage else stage_in rows x) ≡ Some g)) [
      | true ↦ λ e. (r.stage, refl)
      | false ↦ λ e. one_there x rows e
    ] h

-- the stage of one thing is that of another that is the same
stage_alike : (x y : Thing) (rows : List Row) → same x y ≡ true → stage_in rows x ≡ stage_in rows y
stage_alike x y [] h = refl
stage_alike x y (r ∷ rows) h = λ i. if same_right x y r.thing h i then Some r.stage else stage_alike x y rows h i

module _ (x y : Thing) (rows : List Row) where
  put_there : (g : Stage) → has_row x rows ≡ true → turned_stage (same x y) g (stage_in rows y) ≡ (if same x y then Some g else stage_in rows y)
  put_there g there = elim (same x y) as (λ v. same x y ≡ v → turned_stage v g (stage_in rows y) ≡ (if v then Some g else stage_in rows y)) [
    | true ↦ λ e. let one = one_there x rows there in ap (option_map (λ (_ : Stage). g)) (sym (stage_alike x y rows e) ∙ one.1)
    | false ↦ λ e. refl
  ] refl

  put_behind : (g : Stage) → has_row x rows ≡ false → or_else (stage_in rows y) (if same x y then Some g else None) ≡ (if same x y then Some g else stage_in rows y)
  put_behind g none = elim (same x y) as (λ v. same x y ≡ v → or_else (stage_in rows y) (if v then Some g else None) ≡ (if v then Some g else stage_in rows y)) [
    | true ↦ λ e. ap (λ o. or_else o (Some g)) (sym (stage_alike x y rows e) ∙ none_there x rows none)
    | false ↦ λ e. elim (stage_in rows y) as (λ o. or_else o None ≡ o) [ Some h ↦ refl | None ↦ refl ]
  ] refl

  stage_put : (g : Stage) → stage_in (put_stage x g rows) y ≡ (if same x y then Some g else stage_in rows y)
  stage_put g = elim (has_row x rows) as (λ v. has_row x rows ≡ v → stage_in (if v then with_stage x g rows else rows ++ row_of x g ∷ []) y ≡ (if same x y then Some g else stage_in rows y)) [
    | true ↦ λ e. stage_turned x g y rows ∙ put_there g e
    | false ↦ λ e. stage_behind rows (row_of x g) y ∙ put_behind g e
  ] refl

  add_there : has_row x rows ≡ true → stage_in rows y ≡ made_stage (same x y) (stage_in rows y)
  add_there there = elim (same x y) as (λ v. same x y ≡ v → stage_in rows y ≡ made_stage v (stage_in rows y)) [
    | true ↦ λ e. let one = one_there x rows there in
        let here : stage_in rows y ≡ Some one.0 = sym (stage_alike x y rows e) ∙ one.1 in here ∙ ap (made_stage true) (sym here)
    | false ↦ λ e. elim (stage_in rows y) as (λ o. o ≡ made_stage false o) [ Some h ↦ refl | None ↦ refl ]
  ] refl

  add_behind : (o : Option Stage) → or_else o (if same x y then Some Made else None) ≡ made_stage (same x y) o
  add_behind (Some h) = refl
  add_behind None = refl

  stage_added : stage_in (add_row x rows) y ≡ made_stage (same x y) (stage_in rows y)
  stage_added = elim (has_row x rows) as (λ v. has_row x rows ≡ v → stage_in (if v then rows else rows ++ row_of x Made ∷ []) y ≡ made_stage (same x y) (stage_in rows y)) [
    | true ↦ λ e. add_there e
    | false ↦ λ e. stage_behind rows (row_of x Made) y ∙ add_behind (stage_in rows y)
  ] refl

-- ---- event by event

pub before_tells : (n : ℕ) (d : Deed) (rows : List Row) (x : Thing) → stage_in (rows_before n d rows) x ≡ stage_before n d x (stage_in rows x)
before_tells n (Makes s) rows x = refl
before_tells n (Begins s o) rows x = refl
before_tells n (Copies o) rows x = refl
before_tells n (Polls y w) rows x = stage_turned y Rests x rows
before_tells n (Ends y) rows x = stage_turned y (Ended n) x rows
before_tells n Other rows x = refl

after_tells : (n : ℕ) (d : Deed) (a : Answer) (rows : List Row) (x : Thing) → stage_in (rows_after n d a rows) x ≡ stage_after n d a x (stage_in rows x)
after_tells n (Makes s) a rows x = stage_added (thing_of s n) x rows
after_tells n (Begins s o) a rows x = stage_added (thing_of s n) x rows
after_tells n (Copies o) a rows x = refl
after_tells n (Polls y w) a rows x = stage_put y x rows (polled_stage n (is_lasting y.sort) w a)
after_tells n (Ends y) a rows x = refl
after_tells n Other a rows x = refl

-- the row of each thing shows how far it has come
pub rows_tell : (ts : List Told) (x : Thing) → stage_in (board_told ts).rows x ≡ stage_of ts x
unfolding board_after
rows_tell [] x = refl
rows_tell (t ∷ older) x =
    after_tells t.number (deed_of t.event) t.answer (rows_before t.number (deed_of t.event) (board_told older).rows) x
    ∙ ap (stage_after t.number (deed_of t.event) t.answer x)
    (before_tells t.number (deed_of t.event) (board_told older).rows x ∙ ap (stage_before t.number (deed_of t.event) x) (rows_tell older x))
