-- how an event is spelled in a line
use Rattle.std.specs.Prelude.{ℕ, ◌++◌, List}
use Rattle.mea_events.specs.declared.event.Event.{Event}
use Rattle.mea_events.specs.declared.event.Event.TheVariants.{Sem, Meet, Lock, Chan, Share, Once}
use Rattle.mea_text.specs.declared.numbers.Numbers.{Numbers}
use Rattle.mea_text.specs.Text.{numbers_text}
use Rattle.mea_text.specs.Words.{listed}
use Rattle.mea_lines.specs.SemSpelling.{semaphore_said, SemaphoreFits}
use Rattle.mea_lines.specs.MeetSpelling.{meet_said, MeetFits}
use Rattle.mea_lines.specs.LockSpelling.{lock_said, LockFits}
use Rattle.mea_lines.specs.ChanSpelling.{chan_said, ChanFits}
use Rattle.mea_lines.specs.ShareSpelling.{share_said, ShareFits}
use Rattle.mea_lines.specs.OnceSpelling.{once_said, OnceFits}

-- its word, and the numbers after it in their order
abbrev pub said : Event → List ℕ × Numbers
said (Sem e) = semaphore_said e
said (Meet e) = meet_said e
said (Lock e) = lock_said e
said (Chan e) = chan_said e
said (Share e) = share_said e
said (Once e) = once_said e

-- a word, and each number in decimal after a space
abbrev pub spelling : Event → List ℕ
spelling event = (said event).0 ++ numbers_text (listed (said event).1)

-- each number fits its type
abbrev pub Fits : Event → Type 0
Fits (Sem e) = SemaphoreFits e
Fits (Meet e) = MeetFits e
Fits (Lock e) = LockFits e
Fits (Chan e) = ChanFits e
Fits (Share e) = ShareFits e
Fits (Once e) = OnceFits e
