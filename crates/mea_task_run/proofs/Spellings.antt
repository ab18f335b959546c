-- each line has one spelling
use Rattle.std.proofs.Common.{◌≡◌, ℕ, ◌++◌, true, List, Some, refl, ap, sym, ◌∙◌, append-nil, option_and_then, rules}
use Rattle.std.proofs.lemmas.Option.{option_and_then_some}
use Rattle.mea_text.specs.declared.numbers.Numbers.{Numbers}
use Rattle.mea_text.specs.declared.numbers.Numbers.TheVariants.{Bare}
use Rattle.mea_text.specs.Number.{AreFit}
use Rattle.mea_text.specs.Tables.{of_table}
use Rattle.mea_text.specs.Text.{numbers_text}
use Rattle.mea_text.specs.Words.{numbers_of, listed}
use Rattle.mea_text.proofs.Cuts.{lacks_byte}
use Rattle.mea_text.proofs.Readings.{by_cut, numbers_only, reads_back}
use Rattle.mea_text.proofs.Tables.{AreSaid, IsFound, table_only}
use Rattle.mea_task_core.specs.declared.step.Step.TheVariants as steps
use Rattle.mea_task_run.specs.declared.event.TaskEvent.{TaskEvent}
use Rattle.mea_task_run.specs.declared.event.TaskEvent.TheVariants.{Sem, Task, Step}
use Rattle.mea_task_run.specs.Lines.{task_lines, event_of}
use Rattle.mea_task_run.specs.Spelling.{said, spelling, Fits}

-- ---- from what a line stands for to the line
told : (e : TaskEvent) → of_table task_lines (said e).0 (said e).1 ≡ Some e
unfolding task_lines
told (Sem n) = refl
told Task = refl
told (Step (steps.Take s n)) = refl
told (Step (steps.Give s n)) = refl
told (Step steps.Yield) = refl

spaceless : (e : TaskEvent) → lacks_byte 32 (said e).0 ≡ true
spaceless (Sem n) = refl
spaceless Task = refl
spaceless (Step (steps.Take s n)) = refl
spaceless (Step (steps.Give s n)) = refl
spaceless (Step steps.Yield) = refl

pub spelling_tells : (line : List ℕ) (e : TaskEvent) → (line ≡ spelling e) × Fits e → event_of line ≡ Some e
spelling_tells line e h = ap event_of h.0 ∙ reads_back (of_table task_lines) (said e).0 (said e).1 (spaceless e) h.1 ∙ told e

-- ---- and back
lines_are_said : AreSaid said Fits (λ word. word) task_lines
unfolding task_lines
lines_are_said = search rules

found : (word : List ℕ) (numbers : Numbers) (e : TaskEvent) → of_table task_lines word numbers ≡ Some e → IsFound said Fits word numbers e
found word numbers e = table_only said Fits (λ w. w) task_lines word numbers e lines_are_said

spelled : (e : TaskEvent) (word : List ℕ) (numbers : Numbers) → IsFound said Fits word numbers e → AreFit (listed numbers) → (word ++ numbers_text (listed numbers) ≡ spelling e) × Fits e
spelled e word numbers h fits = (ap (λ parts. parts.0 ++ numbers_text (listed parts.1)) (sym h.0), h.1 fits)

pub spelling_only : (line : List ℕ) (e : TaskEvent) → event_of line ≡ Some e → (line ≡ spelling e) × Fits e
spelling_only line e is =
    by_cut 32 (λ parts. option_and_then (of_table task_lines parts.0) (numbers_of parts.1)) line (of_table task_lines line Bare) e is
    (λ alone. let whole = spelled e line Bare (found line Bare e alone) tt in (sym (append-nil line) ∙ whole.0, whole.1))
    (λ parts joined read. option_and_then_some (of_table task_lines parts.0) (numbers_of parts.1) e read (λ numbers given tells.
    let rest = numbers_only parts.1 numbers given in
    let whole = spelled e parts.0 numbers (found parts.0 numbers e tells) rest.1 in
    (joined ∙ ap (λ r. parts.0 ++ r) rest.0 ∙ whole.0, whole.1)))
