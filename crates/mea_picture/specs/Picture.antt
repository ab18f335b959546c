-- the text of a picture
use Rattle.std.specs.Prelude.{ℕ, ◌≡◌, ◌++◌, List, [], map, codes}
use Rattle.std.specs.Fmt.{decimal}
use Rattle.std.specs.List.{flat_map}
use Rattle.mea_family.specs.declared.stop.Stop.{Stop}
use Rattle.mea_family.specs.declared.stop.Stop.TheVariants as stops
use Rattle.mea_text.specs.Text.{number_text}
use Rattle.mea_marks.specs.declared.mark.Mark.{Mark}
use Rattle.mea_marks.specs.declared.mark.Mark.TheVariants as marks
use Rattle.mea_marks.specs.declared.row.Stage.{Stage}
use Rattle.mea_marks.specs.declared.row.Stage.TheVariants as stages
use Rattle.mea_picture.specs.declared.shape.Shape.{Shape}
use Rattle.mea_marks.specs.declared.thing.Thing.{Thing}
use Rattle.mea_picture.specs.declared.style.TheConstants.{STYLE}
use Rattle.mea_picture.specs.Shapes.{shape_text}
use Rattle.mea_marks.specs.Sorts.{word_of}

-- ---- what a mark says

abbrev pub thing_text : Thing → List ℕ
thing_text x = codes " " ++ word_of x.sort ++ number_text x.name

abbrev pub word_text : List ℕ → ℕ → List ℕ
word_text word n = word ++ number_text n

abbrev pub stage_text : Stage → List ℕ
stage_text stages.Made = []
stage_text (stages.Waits w) = word_text (codes " waits") w
stage_text stages.Rests = []
stage_text (stages.Ended n) = word_text (codes " to") n

abbrev pub cause_words : Stop → List ℕ
cause_words stops.Unknown = codes " unknown"
cause_words stops.Borrowed = codes " borrowed"
cause_words stops.Zero = codes " zero"
cause_words stops.Overflow = codes " overflow"
cause_words stops.NoMemory = []

abbrev pub mark_text : Mark → List ℕ
mark_text (marks.Row x g) = codes "row" ++ thing_text x ++ stage_text g
mark_text (marks.Event n) = word_text (codes "event") n
mark_text (marks.Pending n x) = word_text (codes "pending") n ++ thing_text x
mark_text (marks.Ready n x) = word_text (codes "ready") n ++ thing_text x
mark_text (marks.Refused n x) = word_text (codes "refused") n ++ thing_text x
mark_text (marks.Ended n x) = word_text (codes "ended") n ++ thing_text x
mark_text (marks.Arrow n w x) = word_text (codes "arrow") n ++ number_text w ++ thing_text x
mark_text (marks.Stray n w) = word_text (codes "stray") n ++ number_text w
mark_text (marks.Cause n stop) = word_text (codes "stop") n ++ cause_words stop
mark_text (marks.Bad n) = word_text (codes "bad") n
mark_text (marks.Long n) = word_text (codes "long") n

-- ---- the picture

-- a mark, with the shapes that draw it
pub record Drawn : Type 0 where
  pub mark : Mark
  pub shapes : List Shape

-- a group that says its mark and has its shapes
abbrev pub group_text : Drawn → List ℕ
group_text d = codes "<g data-mark=\"" ++ mark_text d.mark ++ codes "\">" ++ flat_map shape_text d.shapes ++ codes "</g>\n"

-- the head of a picture of this size, with the style and the legend
abbrev pub head_text : ℕ → ℕ → List ℕ
head_text width height = codes "<svg xmlns=\"http://www.w3.org/2000/svg\" width=\"" ++ decimal width ++ codes "\" height=\"" ++ decimal height ++ STYLE.now

-- a text with these marks drawn behind another, one after another
pub record IsDrawnTo (shown : List Mark) (before text : List ℕ) : Type 0 where
  pub drawn : List Drawn
  pub all : map (λ (d : Drawn). d.mark) drawn ≡ shown
  pub whole : text ≡ before ++ flat_map group_text drawn

-- it is that of these marks, one after another: which shapes draw a mark, and where, is no promise
pub record IsPictureOf (shown : List Mark) (text : List ℕ) : Type 0 where
  pub width : ℕ
  pub height : ℕ
  pub drawn : List Drawn
  pub all : map (λ (d : Drawn). d.mark) drawn ≡ shown
  pub whole : text ≡ head_text width height ++ flat_map group_text drawn ++ codes "</svg>\n"
