-- numbers and lines as they are written
use Rattle.std.specs.Prelude.{ℕ, ◌++◌, List, codes}
use Rattle.std.specs.Fmt.{decimal}
use Rattle.std.specs.List.{flat_map}

-- a space, and a number in decimal
abbrev pub number_text : ℕ → List ℕ
number_text n = codes " " ++ decimal n

-- each after a space
abbrev pub numbers_text : List ℕ → List ℕ
numbers_text ns = flat_map number_text ns

-- the text of a line of a word and a number
abbrev pub counted_line : List ℕ → ℕ → List ℕ
counted_line word n = word ++ number_text n ++ codes "\n"
