-- the marks of wakes, by what was told of events
use Rattle.std.proofs.Common.{◌≡◌, ℕ, ◌+◌, ◌<◌, ◌≤◌, ◌==◌, ◌&&◌, ◌||◌, ◌++◌, Bool, true, false, cond, List, [], ◌∷◌, Some, refl, ap, sym, ◌∙◌, arith, if◌then◌else◌}
use Rattle.std.specs.List.{count_by, flat_map, list_any}
use Rattle.std.proofs.lemmas.Bool.{eqb-true, ne_eqb}
use Rattle.mea_marks.specs.declared.mark.Mark.{Mark}
use Rattle.mea_marks.specs.declared.mark.Mark.TheVariants as marks
use Rattle.mea_marks.specs.declared.row.Row.{Row}
use Rattle.mea_marks.specs.declared.row.Stage.{Stage}
use Rattle.mea_marks.specs.declared.row.Stage.TheVariants as stages
use Rattle.mea_marks.specs.declared.thing.Thing.{Thing}
use Rattle.mea_marks.specs.Deeds.{deed_of}
use Rattle.mea_marks.specs.Laws.{Told, board_told, stage_in, stage_of, stage_before}
use Rattle.mea_marks.specs.Marks.{is_woken, arrow_at, arrow_to, stray_at, rows_before}
use Rattle.mea_marks.specs.Rows.{same, is_of, waits_at, waits_with}
use Rattle.mea_marks.specs.Wakes.{is_arrow, is_stray, waits_by, wakes_by, wakes_told, times_told}
use Rattle.mea_marks.proofs.Rows.{same_here, before_tells, rows_tell}
use Rattle.mea_marks.proofs.Singles.{AreSingle, before_single, told_single}
use Rattle.mea_marks.proofs.Tallies.{how_many, counted, many_append, is_wake, in_board}

-- ---- tests

listed : (p : Mark → Bool) (b : Bool) (m : Mark) → how_many p (if b then m ∷ [] else []) ≡ cond b (cond (p m) (1 + 0) 0) 0
listed p true m = refl
listed p false m = refl

unlisted : (p : Mark → Bool) (b : Bool) (m : Mark) → how_many p (if b then [] else m ∷ []) ≡ cond b 0 (cond (p m) (1 + 0) 0)
unlisted p true m = refl
unlisted p false m = refl

arrow_table : (this number ready same_ready one : Bool) → (this ≡ true → ready ≡ same_ready)
    → cond ready (cond (this && (number && one)) (1 + 0) 0) 0 ≡ cond one (cond number (cond (same_ready && this) 1 0) 0) 0
arrow_table this number ready same_ready one h = grind arith

no_arrow_table : (number ready one : Bool) → ◌≡◌ {A = ℕ} 0 (cond one (cond number (cond (ready && false) 1 0) 0) 0)
no_arrow_table number ready one = grind arith

stray_table : (this number awaited same_awaited : Bool) (more : ℕ) → (this ≡ true → awaited ≡ same_awaited)
    → cond awaited 0 (cond (this && number) (1 + 0) 0) + cond number (cond same_awaited 0 more) 0 ≡ cond number (cond same_awaited 0 (cond this (1 + more) more)) 0
stray_table this number awaited same_awaited more h = grind arith

and_second : (a b : Bool) → (a && b) ≡ true → b ≡ true
and_second a b h = grind arith

and_first : (a b : Bool) → (a && b) ≡ false → b ≡ true → a ≡ false
and_first a b h is = grind arith

or_second : (a b : Bool) → b ≡ true → (a || b) ≡ true
or_second a b h = grind arith

-- ---- numbers of events

-- each event that was told has a number below that of the next
abbrev pub AreBelow : ℕ → List Told → Type 0
AreBelow bound [] = Unit {0}
AreBelow bound (t ∷ older) = (t.number < bound) × AreBelow t.number older

other_number : (m n : ℕ) → m < n → (m == n) ≡ false
other_number m n less = ne_eqb m n (λ e. absurd (omega (arith, e)))

-- ---- what the rows tell when an event wakes others

abbrev rows_at : Told → List Told → List Row
rows_at t older = rows_before t.number (deed_of t.event) (board_told older).rows

rows_at_tell : (t : Told) (older : List Told) (x : Thing) → stage_in (rows_at t older) x ≡ stage_before t.number (deed_of t.event) x (stage_of older x)
rows_at_tell t older x =
    before_tells t.number (deed_of t.event) (board_told older).rows x ∙ ap (stage_before t.number (deed_of t.event) x) (rows_tell older x)

rows_at_single : (t : Told) (older : List Told) → AreSingle (rows_at t older)
rows_at_single t older = before_single t.number (deed_of t.event) (board_told older).rows (told_single older)

-- ---- arrows

module _ (n w : ℕ) (x : Thing) where
  abbrev arrow_here : Mark → Bool
  arrow_here = is_arrow n w x

  pub no_arrow : (m : Mark) → is_wake m ≡ false → arrow_here m ≡ false
  no_arrow (marks.Arrow k v y) h = absurd (cc)
  no_arrow _ h = refl

  strays_no_arrow : (k : ℕ) (rows : List Row) (ws : List ℕ) → how_many arrow_here (flat_map (stray_at k rows) ws) ≡ 0
  strays_no_arrow k rows [] = refl
  strays_no_arrow k rows (v ∷ ws) =
      let parts : how_many arrow_here (stray_at k rows v ++ flat_map (stray_at k rows) ws) ≡ how_many arrow_here (stray_at k rows v) + how_many arrow_here (flat_map (stray_at k rows) ws)
      = many_append arrow_here (stray_at k rows v) (flat_map (stray_at k rows) ws) in
      elim (list_any (waits_with v) rows) as (λ b. how_many arrow_here (stray_at k rows v) ≡ cond b 0 0 → how_many arrow_here (stray_at k rows v ++ flat_map (stray_at k rows) ws) ≡ 0) [
        | true ↦ λ one. omega (arith, parts, one, strays_no_arrow k rows ws)
        | false ↦ λ one. omega (arith, parts, one, strays_no_arrow k rows ws)
      ] (unlisted arrow_here (list_any (waits_with v) rows) (marks.Stray k v))

  -- how many arrows event k draws to a thing that waits with the waker, or not
  abbrev drawn : ℕ → List ℕ → Bool → ℕ
  drawn k ws waits = cond (k == n) (cond (is_woken w ws && waits) 1 0) 0

  module _ (k : ℕ) (ws : List ℕ) where
    at_stage : (y : Thing) (g : Stage) → how_many arrow_here (arrow_at k ws y g) ≡ cond (same y x) (drawn k ws (waits_at w g)) 0
    at_stage y (stages.Waits v) =
        listed arrow_here (is_woken v ws) (marks.Arrow k v y)
        ∙ arrow_table (v == w) (k == n) (is_woken v ws) (is_woken w ws) (same y x) (λ is. ap (λ u. is_woken u ws) (eqb-true v w is))
    at_stage y stages.Made = no_arrow_table (k == n) (is_woken w ws) (same y x)
    at_stage y stages.Rests = no_arrow_table (k == n) (is_woken w ws) (same y x)
    at_stage y (stages.Ended m) = no_arrow_table (k == n) (is_woken w ws) (same y x)

    first_row : (r : Row) (rows : List Row) → how_many arrow_here (arrow_to k ws r ++ flat_map (arrow_to k ws) rows)
        ≡ cond (same r.thing x) (drawn k ws (waits_at w r.stage)) 0 + how_many arrow_here (flat_map (arrow_to k ws) rows)
    first_row r rows =
        many_append arrow_here (arrow_to k ws r) (flat_map (arrow_to k ws) rows) ∙ ap (λ m. m + how_many arrow_here (flat_map (arrow_to k ws) rows)) (at_stage r.thing r.stage)

    none_in : (rows : List Row) → how_many (is_of x) rows ≡ 0 → how_many arrow_here (flat_map (arrow_to k ws) rows) ≡ 0
    none_in [] h = refl
    none_in (r ∷ rows) h =
        elim (same r.thing x) as (λ b. cond b (1 + how_many (is_of x) rows) (how_many (is_of x) rows) ≡ 0
        → how_many arrow_here (flat_map (arrow_to k ws) (r ∷ rows)) ≡ cond b (drawn k ws (waits_at w r.stage)) 0 + how_many arrow_here (flat_map (arrow_to k ws) rows)
        → how_many arrow_here (flat_map (arrow_to k ws) (r ∷ rows)) ≡ 0) [
          | true ↦ λ e f. absurd (omega (arith, e))
          | false ↦ λ e f. omega (arith, f, none_in rows e)
        ] h (first_row r rows)

    one_in : (rows : List Row) → how_many (is_of x) rows ≤ 1 → how_many arrow_here (flat_map (arrow_to k ws) rows) ≡ drawn k ws (waits_by w (stage_in rows x))
    one_in [] h = no_arrow_table (k == n) (is_woken w ws) true
    one_in (r ∷ rows) h =
        elim (same r.thing x) as (λ b. cond b (1 + how_many (is_of x) rows) (how_many (is_of x) rows) ≤ 1
        → how_many arrow_here (flat_map (arrow_to k ws) (r ∷ rows)) ≡ cond b (drawn k ws (waits_at w r.stage)) 0 + how_many arrow_here (flat_map (arrow_to k ws) rows)
        → how_many arrow_here (flat_map (arrow_to k ws) (r ∷ rows)) ≡ drawn k ws (waits_by w (if b then Some r.stage else stage_in rows x))) [
          | true ↦ λ e f. omega (arith, f, none_in rows (omega (arith, e)))
          | false ↦ λ e f. omega (arith, f, one_in rows e)
        ] h (first_row r rows)

  wakes_none : (bound : ℕ) (ts : List Told) → AreBelow bound ts → bound ≤ n → wakes_told ts n w x ≡ false
  wakes_none bound [] below reach = refl
  wakes_none bound (t ∷ older) below reach =
      ap (λ b. if b then wakes_by t older w x else wakes_told older n w x) (other_number t.number n (omega (arith, below.0)))
      ∙ wakes_none t.number older below.1 (omega (arith, below.0))

  -- one arrow where the event of this number wakes it, and else none
  pub arrows_told : (bound : ℕ) (ts : List Told) → AreBelow bound ts → how_many arrow_here (board_told ts).marks ≡ (if wakes_told ts n w x then 1 else 0)
  arrows_told bound [] below = refl
  arrows_told bound (t ∷ older) below =
      let before : ℕ = how_many arrow_here (board_told older).marks in
      let here : ℕ = how_many arrow_here (flat_map (arrow_to t.number t.wakes) (rows_at t older)) in
      let all : how_many arrow_here (board_told (t ∷ older)).marks ≡ before + here + how_many arrow_here (flat_map (stray_at t.number (rows_at t older)) t.wakes)
      = in_board arrow_here no_arrow t older in
      let strays : how_many arrow_here (flat_map (stray_at t.number (rows_at t older)) t.wakes) ≡ 0 = strays_no_arrow t.number (rows_at t older) t.wakes in
      let later : before ≡ (if wakes_told older n w x then 1 else 0) = arrows_told t.number older below.1 in
      let now : here ≡ drawn t.number t.wakes (waits_by w (stage_before t.number (deed_of t.event) x (stage_of older x)))
      = one_in t.number t.wakes (rows_at t older) (rows_at_single t older x) ∙ ap (λ g. drawn t.number t.wakes (waits_by w g)) (rows_at_tell t older x) in
      elim (t.number == n) as (λ b. (t.number == n) ≡ b → here ≡ cond b (cond (wakes_by t older w x) 1 0) 0
      → how_many arrow_here (board_told (t ∷ older)).marks ≡ (if (if b then wakes_by t older w x else wakes_told older n w x) then 1 else 0)) [
        | true ↦ λ e f.
            let none : ◌≡◌ {A = ℕ} (if wakes_told older n w x then 1 else 0) 0 = ap (λ b. if b then 1 else 0) (wakes_none t.number older below.1 (omega (arith, eqb-true t.number n e))) in
            omega (arith, all, strays, later, none, f)
        | false ↦ λ e f. omega (arith, all, strays, later, f)
      ] refl now

-- ---- wakers by which nothing is woken

module _ (n w : ℕ) where
  abbrev stray_here : Mark → Bool
  stray_here = is_stray n w

  pub no_stray : (m : Mark) → is_wake m ≡ false → stray_here m ≡ false
  no_stray (marks.Stray k v) h = absurd (cc)
  no_stray _ h = refl

  stage_no_stray : (k : ℕ) (ws : List ℕ) (y : Thing) (g : Stage) → how_many stray_here (arrow_at k ws y g) ≡ 0
  stage_no_stray k ws y (stages.Waits v) =
      elim (is_woken v ws) as (λ b. how_many stray_here (if b then marks.Arrow k v y ∷ [] else []) ≡ 0) [ true ↦ refl | false ↦ refl ]
  stage_no_stray k ws y stages.Made = refl
  stage_no_stray k ws y stages.Rests = refl
  stage_no_stray k ws y (stages.Ended m) = refl

  arrows_no_stray : (k : ℕ) (ws : List ℕ) (rows : List Row) → how_many stray_here (flat_map (arrow_to k ws) rows) ≡ 0
  arrows_no_stray k ws [] = refl
  arrows_no_stray k ws (r ∷ rows) =
      many_append stray_here (arrow_to k ws r) (flat_map (arrow_to k ws) rows) ∙ omega (arith, stage_no_stray k ws r.thing r.stage, arrows_no_stray k ws rows)

  of_wakers : (k : ℕ) (rows : List Row) (ws : List ℕ)
      → how_many stray_here (flat_map (stray_at k rows) ws) ≡ cond (k == n) (cond (list_any (waits_with w) rows) 0 (how_many (λ v. v == w) ws)) 0
  of_wakers k rows [] = elim (k == n) as (λ b. ◌≡◌ {A = ℕ} 0 (cond b (cond (list_any (waits_with w) rows) 0 0) 0)) [
    | true ↦ elim (list_any (waits_with w) rows) as (λ b. ◌≡◌ {A = ℕ} 0 (cond b 0 0)) [ true ↦ refl | false ↦ refl ]
    | false ↦ refl
  ]
  of_wakers k rows (v ∷ ws) =
      let first : how_many stray_here (stray_at k rows v) ≡ cond (list_any (waits_with v) rows) 0 (cond ((v == w) && (k == n)) (1 + 0) 0)
      = unlisted stray_here (list_any (waits_with v) rows) (marks.Stray k v) in
      many_append stray_here (stray_at k rows v) (flat_map (stray_at k rows) ws)
      ∙ (λ i. first i + of_wakers k rows ws i)
      ∙ stray_table (v == w) (k == n) (list_any (waits_with v) rows) (list_any (waits_with w) rows) (how_many (λ u. u == w) ws)
      (λ is. ap (λ u. list_any (waits_with u) rows) (eqb-true v w is))

  -- by the rows
  abbrev strays_told : List Told → ℕ
  strays_told [] = 0
  strays_told (t ∷ older) = cond (t.number == n) (cond (list_any (waits_with w) (rows_at t older)) 0 (how_many (λ v. v == w) t.wakes)) (strays_told older)

  none_told : (bound : ℕ) (ts : List Told) → AreBelow bound ts → bound ≤ n → strays_told ts ≡ 0
  none_told bound [] below reach = refl
  none_told bound (t ∷ older) below reach =
      ap (λ b. cond b (cond (list_any (waits_with w) (rows_at t older)) 0 (how_many (λ v. v == w) t.wakes)) (strays_told older)) (other_number t.number n (omega (arith, below.0)))
      ∙ none_told t.number older below.1 (omega (arith, below.0))

  strays_are_told : (bound : ℕ) (ts : List Told) → AreBelow bound ts → how_many stray_here (board_told ts).marks ≡ strays_told ts
  strays_are_told bound [] below = refl
  strays_are_told bound (t ∷ older) below =
      let before : ℕ = how_many stray_here (board_told older).marks in
      let here : ℕ = how_many stray_here (flat_map (stray_at t.number (rows_at t older)) t.wakes) in
      let all : how_many stray_here (board_told (t ∷ older)).marks ≡ before + how_many stray_here (flat_map (arrow_to t.number t.wakes) (rows_at t older)) + here
      = in_board stray_here no_stray t older in
      let arrows : how_many stray_here (flat_map (arrow_to t.number t.wakes) (rows_at t older)) ≡ 0 = arrows_no_stray t.number t.wakes (rows_at t older) in
      let later : before ≡ strays_told older = strays_are_told t.number older below.1 in
      let marked : ℕ = cond (list_any (waits_with w) (rows_at t older)) 0 (how_many (λ v. v == w) t.wakes) in
      elim (t.number == n) as (λ b. (t.number == n) ≡ b → here ≡ cond b marked 0 → how_many stray_here (board_told (t ∷ older)).marks ≡ cond b marked (strays_told older)) [
        | true ↦ λ e f. omega (arith, all, arrows, later, f, none_told t.number older below.1 (omega (arith, eqb-true t.number n e)))
        | false ↦ λ e f. omega (arith, all, arrows, later, f)
      ] refl (of_wakers t.number (rows_at t older) t.wakes)

  -- ---- who waits with a waker has a row that tells it, and no other tells it

  awaited_there : (x : Thing) (rows : List Row) → waits_by w (stage_in rows x) ≡ true → list_any (waits_with w) rows ≡ true
  awaited_there x [] h = absurd (cc)
  awaited_there x (r ∷ rows) h =
      elim (is_of x r) as (λ b. waits_by w (if b then Some r.stage else stage_in rows x) ≡ true → (waits_with w r || list_any (waits_with w) rows) ≡ true) [
        | true ↦ λ e. ap (λ c. c || list_any (waits_with w) rows) e
        | false ↦ λ e. or_second (waits_with w r) (list_any (waits_with w) rows) (awaited_there x rows e)
      ] h

  some_there : (x : Thing) (rows : List Row) → waits_by w (stage_in rows x) ≡ true → 1 ≤ how_many (is_of x) rows
  some_there x [] h = absurd (cc)
  some_there x (r ∷ rows) h =
      elim (is_of x r) as (λ b. waits_by w (if b then Some r.stage else stage_in rows x) ≡ true → 1 ≤ cond b (1 + how_many (is_of x) rows) (how_many (is_of x) rows)) [
        | true ↦ λ e. omega arith
        | false ↦ λ e. some_there x rows e
      ] h

  tail_single : (r : Row) (rows : List Row) → AreSingle (r ∷ rows) → AreSingle rows
  tail_single r rows single x = elim (is_of x r) as (λ b. cond b (1 + how_many (is_of x) rows) (how_many (is_of x) rows) ≤ 1 → how_many (is_of x) rows ≤ 1) [
    | true ↦ λ e. omega (arith, e)
    | false ↦ λ e. e
  ] (single x)

  behind : (x : Thing) (r : Row) (rows : List Row) → AreSingle (r ∷ rows) → waits_by w (stage_in rows x) ≡ true → waits_by w (stage_in (r ∷ rows) x) ≡ true
  behind x r rows single h =
      elim (is_of x r) as (λ b. cond b (1 + how_many (is_of x) rows) (how_many (is_of x) rows) ≤ 1 → waits_by w (if b then Some r.stage else stage_in rows x) ≡ true) [
        | true ↦ λ e. absurd (omega (arith, e, some_there x rows h))
        | false ↦ λ e. h
      ] (single x)

  one_awaited : (rows : List Row) → AreSingle rows → list_any (waits_with w) rows ≡ true → (x : Thing) × (waits_by w (stage_in rows x) ≡ true)
  one_awaited [] single h = absurd (cc)
  one_awaited (r ∷ rows) single h =
      elim (waits_with w r) as (λ b. waits_with w r ≡ b → (b || list_any (waits_with w) rows) ≡ true → (x : Thing) × (waits_by w (stage_in (r ∷ rows) x) ≡ true)) [
        | true ↦ λ e f. (r.thing, ap (λ c. waits_by w (if c then Some r.stage else stage_in rows r.thing)) (same_here r.thing) ∙ e)
        | false ↦ λ e f. let later = one_awaited rows (tail_single r rows single) f in (later.0, behind later.0 r rows single later.1)
      ] refl h

  none_made : (ws : List ℕ) → is_woken w ws ≡ false → how_many (λ v. v == w) ws ≡ 0
  none_made [] h = refl
  none_made (v ∷ ws) h = elim (v == w) as (λ b. (b || is_woken w ws) ≡ false → cond b (1 + how_many (λ u. u == w) ws) (how_many (λ u. u == w) ws) ≡ 0) [
    | true ↦ λ e. absurd (cc)
    | false ↦ λ e. none_made ws e
  ] h

  -- ---- by what was told

  woken_unmarked : (x : Thing) (ts : List Told) → wakes_told ts n w x ≡ true → strays_told ts ≡ 0
  woken_unmarked x [] h = absurd (cc)
  woken_unmarked x (t ∷ older) h =
      let made : ℕ = how_many (λ v. v == w) t.wakes in
      elim (t.number == n) as (λ b. (if b then wakes_by t older w x else wakes_told older n w x) ≡ true
      → cond b (cond (list_any (waits_with w) (rows_at t older)) 0 made) (strays_told older) ≡ 0) [
        | true ↦ λ e.
            let waits : waits_by w (stage_in (rows_at t older) x) ≡ true = ap (waits_by w) (rows_at_tell t older x)
            ∙ and_second (is_woken w t.wakes) (waits_by w (stage_before t.number (deed_of t.event) x (stage_of older x))) e in
            ap (λ b. cond b 0 made) (awaited_there x (rows_at t older) waits)
        | false ↦ λ e. woken_unmarked x older e
      ] h

  unwoken_at : (t : Told) (older : List Told) → ((x : Thing) → wakes_by t older w x ≡ false) → (b : Bool) → list_any (waits_with w) (rows_at t older) ≡ b
      → cond b 0 (how_many (λ v. v == w) t.wakes) ≡ count_by (λ v. v == w) t.wakes
  unwoken_at t older h true e =
      let one = one_awaited (rows_at t older) (rows_at_single t older) e in
      let waits : waits_by w (stage_before t.number (deed_of t.event) one.0 (stage_of older one.0)) ≡ true = ap (waits_by w) (sym (rows_at_tell t older one.0)) ∙ one.1 in
      sym (counted (λ v. v == w) t.wakes ∙ none_made t.wakes (and_first (is_woken w t.wakes) (waits_by w (stage_before t.number (deed_of t.event) one.0 (stage_of older one.0))) (h one.0) waits))
  unwoken_at t older h false e = sym (counted (λ v. v == w) t.wakes)

  unwoken_marked : (ts : List Told) → ((x : Thing) → wakes_told ts n w x ≡ false) → strays_told ts ≡ times_told ts n w
  unwoken_marked [] h = refl
  unwoken_marked (t ∷ older) h =
      elim (t.number == n) as (λ b. ((x : Thing) → (if b then wakes_by t older w x else wakes_told older n w x) ≡ false)
      → cond b (cond (list_any (waits_with w) (rows_at t older)) 0 (how_many (λ v. v == w) t.wakes)) (strays_told older) ≡ (if b then count_by (λ v. v == w) t.wakes else times_told older n w)) [
        | true ↦ λ e. unwoken_at t older e (list_any (waits_with w) (rows_at t older)) refl
        | false ↦ λ e. unwoken_marked older e
      ] h

  module _ (bound : ℕ) (ts : List Told) (below : AreBelow bound ts) where
    pub strays_marked : ((x : Thing) → wakes_told ts n w x ≡ false) → how_many stray_here (board_told ts).marks ≡ times_told ts n w
    strays_marked h = strays_are_told bound ts below ∙ unwoken_marked ts h

    pub none_marked : (x : Thing) → wakes_told ts n w x ≡ true → how_many stray_here (board_told ts).marks ≡ 0
    none_marked x h = strays_are_told bound ts below ∙ woken_unmarked x ts h
