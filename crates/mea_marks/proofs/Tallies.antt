-- how many marks of a picture are those of wakes
use Rattle.std.proofs.Common.{◌≡◌, ℕ, ◌+◌, ◌++◌, Bool, true, false, cond, List, [], ◌∷◌, map, refl, ap, ◌∙◌, arith, if◌then◌else◌}
use Rattle.std.specs.List.{count_by, flat_map}
use Rattle.std.proofs.lemmas.List.Recursion.{is_count_by}
use Rattle.mea_family.specs.declared.answer.Answer.{Answer}
use Rattle.mea_family.specs.declared.answer.Answer.TheVariants as answers
use Rattle.mea_marks.specs.declared.deed.Deed.{Deed}
use Rattle.mea_marks.specs.declared.deed.Deed.TheVariants.{Makes, Begins, Copies, Polls, Ends, Other}
use Rattle.mea_marks.specs.declared.ending.Ending.{Ending}
use Rattle.mea_marks.specs.declared.ending.Ending.TheVariants.{Whole, Stopped, Bad, Long, TooGreat}
use Rattle.mea_marks.specs.declared.mark.Mark.{Mark}
use Rattle.mea_marks.specs.declared.mark.Mark.TheVariants as marks
use Rattle.mea_marks.specs.declared.row.Row.{Row}
use Rattle.mea_marks.specs.declared.thing.Thing.{Thing}
use Rattle.mea_marks.specs.Deeds.{deed_of}
use Rattle.mea_marks.specs.Laws.{Told, board_told}
use Rattle.mea_marks.specs.Marks.{board_after, rows_before, arrow_to, stray_at, wake_marks, poll_mark, deed_marks, event_marks}
use Rattle.mea_marks.specs.Rows.{has_row}
use Rattle.mea_marks.specs.Script.{Shown, row_mark, ending_marks, marks_of}

-- how many elements pass a test
abbrev pub how_many : {A : Type 0} → (A → Bool) → List A → ℕ
how_many p [] = 0
how_many p (x ∷ xs) = cond (p x) (1 + how_many p xs) (how_many p xs)

pub counted : {A : Type 0} (p : A → Bool) (xs : List A) → count_by p xs ≡ how_many p xs
counted p xs = cc (is_count_by (how_many p) p refl (λ x ys. refl) xs)

pub many_append : {A : Type 0} (p : A → Bool) (xs ys : List A) → how_many p (xs ++ ys) ≡ how_many p xs + how_many p ys
many_append p [] ys = omega arith
many_append p (x ∷ xs) ys =
    elim (p x) as (λ b. cond b (1 + how_many p (xs ++ ys)) (how_many p (xs ++ ys)) ≡ cond b (1 + how_many p xs) (how_many p xs) + how_many p ys) [
      | true ↦ omega (arith, many_append p xs ys)
      | false ↦ many_append p xs ys
    ]

-- a mark of a wake
abbrev pub is_wake : Mark → Bool
is_wake (marks.Arrow n w x) = true
is_wake (marks.Stray n w) = true
is_wake _ = false

-- ---- what a test of marks finds that passes marks of wakes alone

module _ (p : Mark → Bool) (others : (m : Mark) → is_wake m ≡ false → p m ≡ false) where
  skipped : (m : Mark) (ms : List Mark) → is_wake m ≡ false → how_many p (m ∷ ms) ≡ how_many p ms
  skipped m ms h = ap (λ b. cond b (1 + how_many p ms) (how_many p ms)) (others m h)

  in_rows : (rows : List Row) → how_many p (map row_mark rows) ≡ 0
  in_rows [] = refl
  in_rows (r ∷ rows) = skipped (row_mark r) (map row_mark rows) refl ∙ in_rows rows

  in_ending : (e : Ending) (n : ℕ) → how_many p (ending_marks e n) ≡ 0
  in_ending Whole n = refl
  in_ending (Stopped stop) n = skipped (marks.Cause n stop) [] refl
  in_ending Bad n = skipped (marks.Bad n) [] refl
  in_ending Long n = skipped (marks.Long n) [] refl
  in_ending TooGreat n = refl

  in_poll : (n : ℕ) (x : Thing) (a : Answer) → is_wake (poll_mark n x a) ≡ false
  in_poll n x answers.Pending = refl
  in_poll n x answers.Gone = refl
  in_poll n x (answers.Closed v) = refl
  in_poll n x (answers.Failure e) = refl
  in_poll n x _ = refl

  in_deed : (n : ℕ) (d : Deed) (a : Answer) (rows : List Row) → how_many p (deed_marks n d a rows) ≡ 0
  in_deed n (Makes s) a rows = refl
  in_deed n (Begins s o) a rows = refl
  in_deed n (Copies o) a rows = refl
  in_deed n (Polls x w) a rows = skipped (poll_mark n x a) [] (in_poll n x a)
  in_deed n (Ends x) a rows =
      elim (has_row x rows) as (λ b. how_many p (if b then marks.Ended n x ∷ [] else []) ≡ 0) [ true ↦ skipped (marks.Ended n x) [] refl | false ↦ refl ]
  in_deed n Other a rows = refl

  in_event : (n : ℕ) (d : Deed) (a : Answer) (ws : List ℕ) (rows : List Row)
      → how_many p (event_marks n d a ws rows) ≡ how_many p (wake_marks n ws (rows_before n d rows))
  in_event n d a ws rows =
      skipped (marks.Event n) (wake_marks n ws (rows_before n d rows) ++ deed_marks n d a rows) refl
      ∙ many_append p (wake_marks n ws (rows_before n d rows)) (deed_marks n d a rows)
      ∙ omega (arith, in_deed n d a rows)

  -- of one event more
  pub in_board : (t : Told) (older : List Told) → how_many p (board_told (t ∷ older)).marks
      ≡ how_many p (board_told older).marks
      + how_many p (flat_map (arrow_to t.number t.wakes) (rows_before t.number (deed_of t.event) (board_told older).rows))
      + how_many p (flat_map (stray_at t.number (rows_before t.number (deed_of t.event) (board_told older).rows)) t.wakes)
  unfolding board_after
  in_board t older =
      let rows : List Row = (board_told older).rows in
      let before : List Row = rows_before t.number (deed_of t.event) rows in
      let event : List Mark = event_marks t.number (deed_of t.event) t.answer t.wakes rows in
      let all : how_many p ((board_told older).marks ++ event) ≡ how_many p (board_told older).marks + how_many p event = many_append p (board_told older).marks event in
      let one : how_many p event ≡ how_many p (wake_marks t.number t.wakes before) = in_event t.number (deed_of t.event) t.answer t.wakes rows in
      let parts : how_many p (wake_marks t.number t.wakes before) ≡ how_many p (flat_map (arrow_to t.number t.wakes) before) + how_many p (flat_map (stray_at t.number before) t.wakes)
      = many_append p (flat_map (arrow_to t.number t.wakes) before) (flat_map (stray_at t.number before) t.wakes) in
      omega (arith, all, one, parts)

  -- of all marks: those of the events alone
  pub in_whole : (shown : Shown) → how_many p (marks_of shown) ≡ how_many p shown.board.marks
  in_whole shown =
      let rows : List Mark = map row_mark shown.board.rows in
      let ending : List Mark = ending_marks shown.ending shown.lines in
      let first : how_many p (marks_of shown) ≡ how_many p (rows ++ shown.board.marks) + how_many p ending = many_append p (rows ++ shown.board.marks) ending in
      let last : how_many p (rows ++ shown.board.marks) ≡ how_many p rows + how_many p shown.board.marks = many_append p rows shown.board.marks in
      omega (arith, first, last, in_rows shown.board.rows, in_ending shown.ending shown.lines)
