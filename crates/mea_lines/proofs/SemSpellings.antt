-- the lines of semaphores are what their events say
use Rattle.std.proofs.Common.{◌≡◌, ℕ, true, List, Some, refl, subst, rules}
use Rattle.mea_events.specs.declared.sem_event.SemEvent.{SemEvent}
use Rattle.mea_events.specs.declared.sem_event.SemEvent.TheVariants as Sems
use Rattle.mea_events.specs.declared.event.Event.TheVariants.{Sem}
use Rattle.mea_lines.specs.Lines.{event_of_word}
use Rattle.mea_text.specs.declared.numbers.Numbers.{Numbers}
use Rattle.mea_lines.specs.SemLines.{semaphore_lines}
use Rattle.mea_text.specs.Tables.{of_table}
use Rattle.mea_lines.specs.SemSpelling.{semaphore_said, SemaphoreFits}
use Rattle.mea_text.proofs.Cuts.{lacks_byte}
use Rattle.mea_text.proofs.Tables.{AreSaid, IsFound, table_only}

pub semaphore_told : (e : SemEvent) → SemaphoreFits e → event_of_word (semaphore_said e).0 (semaphore_said e).1 ≡ Some (Sem e)
unfolding event_of_word semaphore_lines
semaphore_told (Sems.New n) fits = refl
semaphore_told _ fits = refl

pub semaphore_spaceless : (e : SemEvent) → lacks_byte 32 (semaphore_said e).0 ≡ true
semaphore_spaceless (Sems.New n) = refl
semaphore_spaceless _ = refl

semaphore_lines_are_said : AreSaid semaphore_said SemaphoreFits (λ word. word) semaphore_lines
unfolding semaphore_lines
semaphore_lines_are_said = search rules

pub semaphore_found : (word : List ℕ) (numbers : Numbers) (e : SemEvent) → of_table semaphore_lines word numbers ≡ Some e
    → IsFound semaphore_said SemaphoreFits word numbers e
semaphore_found word numbers e = table_only semaphore_said SemaphoreFits (λ w. w) semaphore_lines word numbers e semaphore_lines_are_said

spelled_dotless : (e : SemEvent) → lacks_byte 46 (semaphore_said e).0 ≡ true
spelled_dotless (Sems.New n) = refl
spelled_dotless _ = refl

-- a word of semaphores has no dot
pub semaphore_dotless : (word : List ℕ) (numbers : Numbers) (e : SemEvent) → of_table semaphore_lines word numbers ≡ Some e → lacks_byte 46 word ≡ true
semaphore_dotless word numbers e is =
    subst (λ (p : List ℕ × Numbers). lacks_byte 46 p.0 ≡ true) (semaphore_found word numbers e is).0 (spelled_dotless e)
