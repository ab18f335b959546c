-- no event is spelled in a long line
use Rattle.std.proofs.Common.{◌≡◌, ℕ, ◌*◌, ◌^◌, ◌<◌, ◌≤◌, List, [], ◌∷◌, None, length, codes, ap, arith, length-append}
use Rattle.std.proofs.lemmas.Fmt.{length-decimal-le}
use Rattle.std.specs.Fmt.{decimal}
use Rattle.mea_events.specs.declared.sem_event.SemEvent.{SemEvent}
use Rattle.mea_events.specs.declared.sem_event.SemEvent.TheVariants as Sems
use Rattle.mea_events.specs.declared.meet_event.MeetEvent.{MeetEvent}
use Rattle.mea_events.specs.declared.meet_event.MeetEvent.TheVariants as Meets
use Rattle.mea_events.specs.declared.lock_event.LockEvent.{LockEvent}
use Rattle.mea_events.specs.declared.lock_event.LockEvent.TheVariants as Locks
use Rattle.mea_events.specs.declared.chan_event.ChanEvent.{ChanEvent}
use Rattle.mea_events.specs.declared.chan_event.ChanEvent.TheVariants as Chans
use Rattle.mea_events.specs.declared.share_event.ShareEvent.{ShareEvent}
use Rattle.mea_events.specs.declared.share_event.ShareEvent.TheVariants as Shares
use Rattle.mea_events.specs.declared.once_event.OnceEvent.{OnceEvent}
use Rattle.mea_events.specs.declared.once_event.OnceEvent.TheVariants as Onces
use Rattle.mea_events.specs.declared.event.Event.{Event}
use Rattle.mea_events.specs.declared.event.Event.TheVariants.{Sem, Meet, Lock, Chan, Share, Once}
use Rattle.mea_text.specs.declared.numbers.Numbers.{Numbers}
use Rattle.mea_text.specs.declared.numbers.Numbers.TheVariants.{Bare, One, Two, Three}
use Rattle.mea_lines.specs.Lines.{event_of}
use Rattle.mea_text.specs.Number.{AreFit}
use Rattle.mea_lines.specs.SemSpelling.{semaphore_said}
use Rattle.mea_lines.specs.MeetSpelling.{meet_said}
use Rattle.mea_lines.specs.LockSpelling.{lock_said}
use Rattle.mea_lines.specs.ChanSpelling.{chan_said}
use Rattle.mea_lines.specs.ShareSpelling.{share_said}
use Rattle.mea_lines.specs.OnceSpelling.{once_said}
use Rattle.mea_lines.specs.Spelling.{said, spelling, Fits}
use Rattle.mea_text.specs.Text.{number_text, numbers_text}
use Rattle.mea_text.specs.Words.{listed}
use Rattle.mea_lines.proofs.Marks.{none_where_no_event}
use Rattle.mea_lines.proofs.Spellings.{numbers_fit, spelling_only}

length-number_text : (n : ℕ) → n < 2 ^ 64 → length (number_text n) ≤ 21
length-number_text n fits =
    let digits = length-decimal-le 20 n (omega arith) (omega arith) fits in
    omega (arith, digits, length-append (codes " ") (decimal n))

length-numbers_text : (ns : List ℕ) → AreFit ns → length (numbers_text ns) ≤ 21 * length ns
length-numbers_text [] fits = omega arith
length-numbers_text (n ∷ ns) fits =
    omega (arith, length-append (number_text n) (numbers_text ns), length-number_text n fits.0, length-numbers_text ns fits.1)

semaphore_word_short : (e : SemEvent) → length (semaphore_said e).0 ≤ 11
semaphore_word_short (Sems.New n) = omega arith
semaphore_word_short _ = omega arith

meet_word_short : (e : MeetEvent) → length (meet_said e).0 ≤ 11
meet_word_short (Meets.BarWait b) = omega arith
meet_word_short _ = omega arith

lock_word_short : (e : LockEvent) → length (lock_said e).0 ≤ 11
lock_word_short (Locks.MxNew v) = omega arith
lock_word_short _ = omega arith

chan_word_short : (e : ChanEvent) → length (chan_said e).0 ≤ 11
chan_word_short (Chans.MuCopy s) = omega arith
chan_word_short _ = omega arith

share_word_short : (e : ShareEvent) → length (share_said e).0 ≤ 11
share_word_short (Shares.FsNew n) = omega arith
share_word_short _ = omega arith

once_word_short : (e : OnceEvent) → length (once_said e).0 ≤ 11
once_word_short (Onces.OnDone o) = omega arith
once_word_short _ = omega arith

word_short : (event : Event) → length (said event).0 ≤ 11
word_short (Sem e) = semaphore_word_short e
word_short (Meet e) = meet_word_short e
word_short (Lock e) = lock_word_short e
word_short (Chan e) = chan_word_short e
word_short (Share e) = share_word_short e
word_short (Once e) = once_word_short e

numbers_few : (numbers : Numbers) → length (listed numbers) ≤ 3
numbers_few Bare = omega arith
numbers_few (One a) = omega arith
numbers_few (Two a b) = omega arith
numbers_few (Three a b d) = omega arith

length-spelling : (event : Event) → Fits event → length (spelling event) ≤ 74
length-spelling event fits =
    omega (
      arith,
      length-append (said event).0 (numbers_text (listed (said event).1)),
      length-numbers_text (listed (said event).1) (numbers_fit event fits),
      word_short event,
      numbers_few (said event).1,
    )

pub long_is_no_event : (line : List ℕ) → 96 < length line → event_of line ≡ None
long_is_no_event line long = none_where_no_event (event_of line) (λ e is.
    let spelled = spelling_only line e is in
    omega (arith, length-spelling e spelled.1, ap length spelled.0))
