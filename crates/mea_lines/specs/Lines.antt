-- the event of a line: a word without a dot is of a semaphore, and else the mark before the dot tells the table
use Rattle.std.specs.Prelude.{ℕ, ◌==◌, List, get_or, Option, Some, None, if◌then◌else◌}
use Rattle.std.specs.Option.{option_map_or}
use Rattle.mea_events.specs.declared.event.Event.{Event}
use Rattle.mea_events.specs.declared.event.Event.TheVariants.{Sem}
use Rattle.mea_text.specs.declared.numbers.Numbers.{Numbers}
use Rattle.mea_text.specs.declared.numbers.Numbers.TheVariants.{Bare}
use Rattle.mea_text.specs.Words.{◌>>=◌, cut, numbers_of}
use Rattle.mea_text.specs.Tables.{of_table}
use Rattle.mea_lines.specs.SemLines.{semaphore_lines}
use Rattle.mea_lines.specs.Marks.{marks, of_marks}

-- the event of a word, and of the numbers after it
unfoldable pub event_of_word : List ℕ → Numbers → Option Event
event_of_word word numbers = option_map_or (λ parts. of_marks marks parts.0 parts.1 numbers) (cut 46 word) (of_table semaphore_lines word numbers >>= (λ event. Some (Sem event)))

-- where the dot stands that ends a mark, which is after two letters or three
unfoldable pub dot_of : List ℕ → Option ℕ
dot_of word = if get_or word 2 0 == 46 then Some 2 else if get_or word 3 0 == 46 then Some 3 else None

-- the word of a line, and the numbers after it
abbrev pub word_and_numbers : List ℕ → Option (List ℕ × Numbers)
word_and_numbers line = option_map_or (λ parts. numbers_of parts.1 >>= (λ numbers. Some (parts.0, numbers))) (cut 32 line) (Some (line, Bare))

-- the event of a line, if it is one
abbrev pub event_of : List ℕ → Option Event
event_of line = option_map_or (λ parts. numbers_of parts.1 >>= event_of_word parts.0) (cut 32 line) (event_of_word line Bare)
