-- no thing has two rows
use Rattle.std.proofs.Common.{◌≡◌, ℕ, ◌+◌, ◌≤◌, ◌||◌, ◌++◌, true, false, cond, List, [], ◌∷◌, refl, sym, arith, if◌then◌else◌}
use Rattle.mea_family.specs.declared.answer.Answer.{Answer}
use Rattle.mea_marks.specs.declared.deed.Deed.{Deed}
use Rattle.mea_marks.specs.declared.deed.Deed.TheVariants.{Makes, Begins, Copies, Polls, Ends, Other}
use Rattle.mea_marks.specs.declared.row.Row.{Row}
use Rattle.mea_marks.specs.declared.row.Stage.{Stage}
use Rattle.mea_marks.specs.declared.row.Stage.TheVariants as stages
use Rattle.mea_marks.specs.declared.thing.Thing.{Thing}
use Rattle.mea_marks.specs.Deeds.{deed_of}
use Rattle.mea_marks.specs.Laws.{Told, board_told}
use Rattle.mea_marks.specs.Marks.{board_after, rows_before, rows_after, polled_stage, thing_of}
use Rattle.mea_marks.specs.Rows.{same, is_of, staged, row_of, with_stage, has_row, put_stage, add_row}
use Rattle.mea_marks.specs.Sorts.{is_lasting}
use Rattle.mea_marks.proofs.Rows.{same_left, same_right}
use Rattle.mea_marks.proofs.Tallies.{how_many, many_append}

-- no thing has two of these rows
abbrev pub AreSingle : List Row → Type 0
AreSingle rows = (x : Thing) → how_many (is_of x) rows ≤ 1

none_counted : (y : Thing) (rows : List Row) → has_row y rows ≡ false → how_many (is_of y) rows ≡ 0
none_counted y [] h = refl
none_counted y (r ∷ rows) h = elim (is_of y r) as (λ b. (b || has_row y rows) ≡ false → cond b (1 + how_many (is_of y) rows) (how_many (is_of y) rows) ≡ 0) [
  | true ↦ λ e. absurd (cc)
  | false ↦ λ e. none_counted y rows e
] h

counted_alike : (x y : Thing) (rows : List Row) → same y x ≡ true → how_many (is_of x) rows ≡ how_many (is_of y) rows
counted_alike x y [] h = refl
counted_alike x y (r ∷ rows) h = λ i. cond (sym (same_right y x r.thing h) i) (1 + counted_alike x y rows h i) (counted_alike x y rows h i)

module _ (y : Thing) (g : Stage) where
  -- the row of a thing at a stage is its row
  staged_alike : (x : Thing) (r : Row) → is_of x (staged y g r) ≡ is_of x r
  staged_alike x r = elim (same r.thing y) as (λ b. same r.thing y ≡ b → is_of x (if b then row_of y g else r) ≡ is_of x r) [
    | true ↦ λ e. sym (same_left r.thing y x e)
    | false ↦ λ e. refl
  ] refl

  staged_count : (x : Thing) (rows : List Row) → how_many (is_of x) (with_stage y g rows) ≡ how_many (is_of x) rows
  staged_count x [] = refl
  staged_count x (r ∷ rows) = λ i. cond (staged_alike x r i) (1 + staged_count x rows i) (staged_count x rows i)

  staged_single : (rows : List Row) → AreSingle rows → AreSingle (with_stage y g rows)
  staged_single rows single x = omega (arith, staged_count x rows, single x)

  -- one row more
  more_single : (rows : List Row) → AreSingle rows → has_row y rows ≡ false → AreSingle (rows ++ row_of y g ∷ [])
  more_single rows single none x =
      let all : how_many (is_of x) (rows ++ row_of y g ∷ []) ≡ how_many (is_of x) rows + cond (same y x) (1 + 0) 0 = many_append (is_of x) rows (row_of y g ∷ []) in
      elim (same y x) as (λ b. same y x ≡ b → how_many (is_of x) (rows ++ row_of y g ∷ []) ≡ how_many (is_of x) rows + cond b (1 + 0) 0
      → how_many (is_of x) (rows ++ row_of y g ∷ []) ≤ 1) [
        | true ↦ λ e is. omega (arith, is, counted_alike x y rows e, none_counted y rows none)
        | false ↦ λ e is. omega (arith, is, single x)
      ] refl all

  put_single : (rows : List Row) → AreSingle rows → AreSingle (put_stage y g rows)
  put_single rows single = elim (has_row y rows) as (λ b. has_row y rows ≡ b → AreSingle (if b then with_stage y g rows else rows ++ row_of y g ∷ [])) [
    | true ↦ λ e. staged_single rows single
    | false ↦ λ e. more_single rows single e
  ] refl

add_single : (y : Thing) (rows : List Row) → AreSingle rows → AreSingle (add_row y rows)
add_single y rows single = elim (has_row y rows) as (λ b. has_row y rows ≡ b → AreSingle (if b then rows else rows ++ row_of y stages.Made ∷ [])) [
  | true ↦ λ e. single
  | false ↦ λ e. more_single y stages.Made rows single e
] refl

pub before_single : (n : ℕ) (d : Deed) (rows : List Row) → AreSingle rows → AreSingle (rows_before n d rows)
before_single n (Makes s) rows single = single
before_single n (Begins s o) rows single = single
before_single n (Copies o) rows single = single
before_single n (Polls y w) rows single = staged_single y stages.Rests rows single
before_single n (Ends y) rows single = staged_single y (stages.Ended n) rows single
before_single n Other rows single = single

after_single : (n : ℕ) (d : Deed) (a : Answer) (rows : List Row) → AreSingle rows → AreSingle (rows_after n d a rows)
after_single n (Makes s) a rows single = add_single (thing_of s n) rows single
after_single n (Begins s o) a rows single = add_single (thing_of s n) rows single
after_single n (Copies o) a rows single = single
after_single n (Polls y w) a rows single = put_single y (polled_stage n (is_lasting y.sort) w a) rows single
after_single n (Ends y) a rows single = single
after_single n Other a rows single = single

pub told_single : (ts : List Told) → AreSingle (board_told ts).rows
unfolding board_after
told_single [] = λ x. omega arith
told_single (t ∷ older) =
    let rows : List Row = (board_told older).rows in
    after_single t.number (deed_of t.event) t.answer (rows_before t.number (deed_of t.event) rows) (before_single t.number (deed_of t.event) rows (told_single older))
