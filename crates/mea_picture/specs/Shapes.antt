-- the text of a shape
use Rattle.std.specs.Prelude.{ℕ, ◌++◌, ◌==◌, ◌&&◌, not, List, map, codes, nat_lt, if◌then◌else◌}
use Rattle.mea_text.specs.Text.{number_text}
use Rattle.mea_picture.specs.declared.ink.Ink.{Ink}
use Rattle.mea_picture.specs.declared.ink.Ink.TheVariants as inks
use Rattle.mea_picture.specs.declared.shape.Shape.{Shape}
use Rattle.mea_picture.specs.declared.shape.Shape.TheVariants.{Title, Stroke, Words}

-- the name of its class
unfoldable pub ink_word : Ink → List ℕ
ink_word inks.Column = codes "column"
ink_word inks.Guide = codes "guide"
ink_word inks.Line = codes "line"
ink_word inks.ObjectName = codes "object"
ink_word inks.WaitName = codes "name"
ink_word inks.NearName = codes "near"
ink_word inks.Span = codes "span"
ink_word inks.Waiting = codes "waiting"
ink_word inks.Woken = codes "woken"
ink_word inks.Free = codes "free"
ink_word inks.FreeCount = codes "count"
ink_word inks.Arrow = codes "arrow"
ink_word inks.Pending = codes "pending"
ink_word inks.Ready = codes "ready"
ink_word inks.Refused = codes "refused"
ink_word inks.Ended = codes "ended"
ink_word inks.Stray = codes "stray"
ink_word inks.Cause = codes "cause"
ink_word inks.CauseWords = codes "why"

-- how words of it are turned, up to their place
abbrev pub turn_of : Ink → List ℕ
turn_of inks.Line = codes "\" transform=\"matrix(0 -1 1 0"
turn_of _ = codes "\" transform=\"matrix(1 0 0 1"

-- a byte as it stands, or a question mark where it would not stand for itself
abbrev pub safe_byte : ℕ → ℕ
safe_byte b = if nat_lt 31 b && nat_lt b 127 && not (b == 60) && not (b == 62) && not (b == 38) && not (b == 34) then b else 63

abbrev pub safe_text : List ℕ → List ℕ
safe_text bytes = map safe_byte bytes

-- a place
abbrev pub place_text : ℕ → ℕ → List ℕ
place_text x y = number_text x ++ number_text y

-- the begin of a tag, its class, and a place
abbrev pub tag_text : List ℕ → Ink → List ℕ → ℕ → ℕ → List ℕ
tag_text tag ink at x y = tag ++ ink_word ink ++ at ++ place_text x y

abbrev pub shape_text : Shape → List ℕ
shape_text (Title text) = codes "<title>" ++ safe_text text.items ++ codes "</title>"
shape_text (Stroke ink x y to_x to_y) = tag_text (codes "<path class=\"") ink (codes "\" d=\"M") x y ++ codes " L" ++ place_text to_x to_y ++ codes "\"/>"
shape_text (Words ink x y text) = tag_text (codes "<text class=\"") ink (turn_of ink) x y ++ codes ")\">" ++ safe_text text.items ++ codes "</text>"
