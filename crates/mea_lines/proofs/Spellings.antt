-- each event has one spelling
use Rattle.std.proofs.Common.{◌≡◌, ℕ, ◌++◌, true, List, Some, ap, sym, subst, ◌∙◌, append-nil, option_and_then}
use Rattle.std.proofs.lemmas.Option.{option_and_then_some}
use Rattle.mea_events.specs.declared.event.Event.{Event}
use Rattle.mea_events.specs.declared.event.Event.TheVariants.{Sem, Meet, Lock, Chan, Share, Once}
use Rattle.mea_text.specs.declared.numbers.Numbers.{Numbers}
use Rattle.mea_text.specs.declared.numbers.Numbers.TheVariants.{Bare}
use Rattle.mea_lines.specs.Lines.{event_of, event_of_word}
use Rattle.mea_lines.specs.Marks.{marks, of_marks}
use Rattle.mea_text.specs.Number.{AreFit}
use Rattle.mea_lines.specs.Spelling.{said, spelling, Fits}
use Rattle.mea_text.specs.Tables.{of_table}
use Rattle.mea_text.specs.Text.{numbers_text}
use Rattle.mea_text.specs.Words.{numbers_of, listed}
use Rattle.mea_lines.specs.SemLines.{semaphore_lines}
use Rattle.mea_lines.specs.SemSpelling.{semaphore_said, SemaphoreFits}
use Rattle.mea_text.proofs.Cuts.{lacks_byte}
use Rattle.mea_text.proofs.Readings.{by_cut, numbers_only, reads_back}
use Rattle.mea_text.proofs.Tables.{IsFound}
use Rattle.mea_lines.proofs.Marks.{marked_only, unwrapped}
use Rattle.mea_lines.proofs.SemSpellings.{semaphore_told, semaphore_spaceless, semaphore_found}
use Rattle.mea_lines.proofs.MeetSpellings.{meet_told, meet_spaceless, meet_numbers_fit}
use Rattle.mea_lines.proofs.LockSpellings.{lock_told, lock_spaceless}
use Rattle.mea_lines.proofs.ChanSpellings.{chan_told, chan_spaceless}
use Rattle.mea_lines.proofs.ShareSpellings.{share_told, share_spaceless}
use Rattle.mea_lines.proofs.OnceSpellings.{once_told, once_spaceless}

-- ---- from an event to its line

told : (event : Event) → Fits event → event_of_word (said event).0 (said event).1 ≡ Some event
told (Sem e) fits = semaphore_told e fits
told (Meet e) fits = meet_told e fits
told (Lock e) fits = lock_told e fits
told (Chan e) fits = chan_told e fits
told (Share e) fits = share_told e fits
told (Once e) fits = once_told e fits

spaceless : (event : Event) → lacks_byte 32 (said event).0 ≡ true
spaceless (Sem e) = semaphore_spaceless e
spaceless (Meet e) = meet_spaceless e
spaceless (Lock e) = lock_spaceless e
spaceless (Chan e) = chan_spaceless e
spaceless (Share e) = share_spaceless e
spaceless (Once e) = once_spaceless e

pub numbers_fit : (event : Event) → Fits event → AreFit (listed (said event).1)
numbers_fit (Sem e) fits = fits
numbers_fit (Meet e) fits = meet_numbers_fit e fits
numbers_fit (Lock e) fits = fits
numbers_fit (Chan e) fits = fits
numbers_fit (Share e) fits = fits
numbers_fit (Once e) fits = fits

pub spelling_tells : (line : List ℕ) (event : Event) → (line ≡ spelling event) × Fits event → event_of line ≡ Some event
spelling_tells line event h =
    ap event_of h.0 ∙ reads_back event_of_word (said event).0 (said event).1 (spaceless event) (numbers_fit event h.1) ∙ told event h.1

-- ---- from a line to its event

word_only : (word : List ℕ) (numbers : Numbers) (event : Event) → event_of_word word numbers ≡ Some event → IsFound said Fits word numbers event
unfolding event_of_word
word_only word numbers event is =
    by_cut 46 (λ parts. of_marks marks parts.0 parts.1 numbers) word (option_and_then (λ e. Some (Sem e)) (of_table semaphore_lines word numbers)) event is
    (λ alone. unwrapped semaphore_said SemaphoreFits Sem (of_table semaphore_lines word numbers) word numbers event (λ e h. h) alone
    (semaphore_found word numbers))
    (λ parts joined read. subst (λ w. IsFound said Fits w numbers event) (sym joined) (marked_only parts.0 parts.1 numbers event read))

-- what was found is spelled so
spelled : (event : Event) (word : List ℕ) (numbers : Numbers) → IsFound said Fits word numbers event → AreFit (listed numbers)
    → (word ++ numbers_text (listed numbers) ≡ spelling event) × Fits event
spelled event word numbers found fits = (ap (λ parts. parts.0 ++ numbers_text (listed parts.1)) (sym found.0), found.1 fits)

pub spelling_only : (line : List ℕ) (event : Event) → event_of line ≡ Some event → (line ≡ spelling event) × Fits event
spelling_only line event is =
    by_cut 32 (λ parts. option_and_then (event_of_word parts.0) (numbers_of parts.1)) line (event_of_word line Bare) event is
    (λ alone. let found = spelled event line Bare (word_only line Bare event alone) tt in (sym (append-nil line) ∙ found.0, found.1))
    (λ parts joined read. option_and_then_some (event_of_word parts.0) (numbers_of parts.1) event read (λ numbers given tells.
    let rest = numbers_only parts.1 numbers given in
    let found = spelled event parts.0 numbers (word_only parts.0 numbers event tells) rest.1 in
    (joined ∙ ap (λ r. parts.0 ++ r) rest.0 ∙ found.0, found.1)))
