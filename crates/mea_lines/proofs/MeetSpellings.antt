-- the lines of meeting points are what their events say
use Rattle.std.proofs.Common.{◌≡◌, ◌++◌, ◌∷◌, true, codes, Some, refl, rules, arith}
use Rattle.mea_events.specs.declared.meet_event.MeetEvent.{MeetEvent}
use Rattle.mea_events.specs.declared.meet_event.MeetEvent.TheVariants as Meets
use Rattle.mea_events.specs.declared.event.Event.TheVariants.{Meet}
use Rattle.mea_lines.specs.Lines.{event_of_word}
use Rattle.mea_lines.specs.Marks.{marks}
use Rattle.mea_lines.specs.MeetLines.{barrier_lines, latch_lines, group_lines, shutdown_lines}
use Rattle.mea_lines.specs.MeetSpelling.{meet_said, MeetFits}
use Rattle.mea_text.specs.Number.{AreFit}
use Rattle.mea_text.specs.Words.{listed}
use Rattle.mea_text.proofs.Cuts.{lacks_byte}
use Rattle.mea_text.proofs.Numerals.{count_of-count}
use Rattle.mea_text.proofs.Tables.{AreSaid}

pub meet_told : (e : MeetEvent) → MeetFits e → event_of_word (meet_said e).0 (meet_said e).1 ≡ Some (Meet e)
unfolding event_of_word marks barrier_lines latch_lines group_lines shutdown_lines
meet_told (Meets.BarNew n) fits = rw (count_of-count n fits) refl
meet_told (Meets.LatNew n) fits = rw (count_of-count n fits) refl
meet_told (Meets.LatArrive l n) fits = rw (count_of-count n fits.1) refl
meet_told _ fits = refl

pub meet_spaceless : (e : MeetEvent) → lacks_byte 32 (meet_said e).0 ≡ true
meet_spaceless (Meets.BarWait b) = refl
meet_spaceless _ = refl

pub barrier_lines_are_said : AreSaid meet_said MeetFits (λ verb. codes "bar" ++ 46 ∷ verb) barrier_lines
unfolding barrier_lines
barrier_lines_are_said = search rules

pub latch_lines_are_said : AreSaid meet_said MeetFits (λ verb. codes "lat" ++ 46 ∷ verb) latch_lines
unfolding latch_lines
latch_lines_are_said = search rules

pub group_lines_are_said : AreSaid meet_said MeetFits (λ verb. codes "wg" ++ 46 ∷ verb) group_lines
unfolding group_lines
group_lines_are_said = search rules

pub shutdown_lines_are_said : AreSaid meet_said MeetFits (λ verb. codes "sd" ++ 46 ∷ verb) shutdown_lines
unfolding shutdown_lines
shutdown_lines_are_said = search rules

pub meet_numbers_fit : (e : MeetEvent) → MeetFits e → AreFit (listed (meet_said e).1)
meet_numbers_fit (Meets.BarNew n) fits = (omega arith, tt)
meet_numbers_fit (Meets.LatNew n) fits = (omega arith, tt)
meet_numbers_fit (Meets.LatArrive l n) fits = (fits.0, (omega (arith, fits.1), tt))
meet_numbers_fit _ fits = fits
