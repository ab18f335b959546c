-- the text of a reply: a word and its numbers, its wakes, a newline
use Rattle.std.specs.Prelude.{ℕ, ◌++◌, List, [], ◌∷◌, Option, Some, None, codes}
use Rattle.mea_family.specs.declared.answer.Answer.{Answer}
use Rattle.mea_family.specs.declared.answer.Answer.TheVariants.{Made, Held, Lacking, Yes, No, Ready, Pending, Leader, Done, Accepted, Full, Closed, Got, Empty, Gone, Free, Forgot, Permits, Count, Left, Value, Failure, Back, Kept, Key, Lagged, Account}
use Rattle.mea_family.specs.declared.ledger.Ledger.{Ledger}
use Rattle.mea_text.specs.Text.{numbers_text}

-- its word
abbrev pub word_of : Answer → List ℕ
word_of Made = codes "made"
word_of Held = codes "some"
word_of Lacking = codes "none"
word_of Yes = codes "yes"
word_of No = codes "no"
word_of Ready = codes "ready"
word_of Pending = codes "pending"
word_of Leader = codes "leader"
word_of Done = codes "done"
word_of Accepted = codes "ok"
word_of (Full v) = codes "full"
word_of (Closed v) = codes "closed"
word_of (Got v) = codes "got"
word_of Empty = codes "empty"
word_of Gone = codes "gone"
word_of (Free k) = codes "free"
word_of (Forgot k) = codes "forgot"
word_of (Permits k) = codes "permits"
word_of (Count k) = codes "count"
word_of (Left k) = codes "left"
word_of (Value v) = codes "value"
word_of (Failure e) = codes "err"
word_of (Back v) = codes "back"
word_of (Kept c v) = codes "held"
word_of (Key k) = codes "key"
word_of (Lagged k) = codes "lagged"
word_of (Account l) = codes "ledger"

-- the seven numbers of an account
abbrev pub account_numbers : Ledger → List ℕ
account_numbers l = l.made ∷ l.released ∷ l.owed ∷ l.free ∷ l.held ∷ l.paid ∷ l.forgotten ∷ []

-- the numbers after the word
abbrev pub numbers_in : Answer → List ℕ
numbers_in (Full v) = v ∷ []
numbers_in (Closed v) = v ∷ []
numbers_in (Got v) = v ∷ []
numbers_in (Free k) = k ∷ []
numbers_in (Forgot k) = k ∷ []
numbers_in (Permits k) = k ∷ []
numbers_in (Count k) = k ∷ []
numbers_in (Left k) = k ∷ []
numbers_in (Value v) = v ∷ []
numbers_in (Failure e) = e ∷ []
numbers_in (Back v) = v ∷ []
numbers_in (Kept c v) = c ∷ v ∷ []
numbers_in (Key k) = k ∷ []
numbers_in (Lagged k) = k ∷ []
numbers_in (Account l) = account_numbers l
numbers_in _ = []

-- the one number among so many, or none
abbrev pub only_in : List ℕ → Option ℕ
only_in [] = None
only_in (n ∷ []) = Some n
only_in (n ∷ m ∷ ns) = None

-- what a line has after its word, with the digit 0 in place of the one number
abbrev pub end_of : List ℕ → List ℕ
end_of [] = codes "\n"
end_of (n ∷ []) = codes " 0\n"
end_of (n ∷ m ∷ ns) = codes "\n"

-- nothing where there is no wake
abbrev pub wakes_text : List ℕ → List ℕ
wakes_text [] = []
wakes_text (w ∷ ws) = codes " wake" ++ numbers_text (w ∷ ws)

-- the whole line
abbrev pub reply_text : Answer → List ℕ → List ℕ
reply_text answer wakes = word_of answer ++ numbers_text (numbers_in answer) ++ wakes_text wakes ++ codes "\n"
