-- the words of the command line
use Rattle.std.specs.Prelude.{◌≡◌, ℕ, List, [], ◌∷◌, codes}

-- the one word `tasks`
abbrev pub IsTasks : List (List ℕ) → Type 0
IsTasks words = words ≡ codes "tasks" ∷ []
