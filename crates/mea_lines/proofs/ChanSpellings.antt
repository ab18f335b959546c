-- the lines of channels and boxes are what their events say
use Rattle.std.proofs.Common.{◌≡◌, ◌++◌, ◌∷◌, true, codes, Some, refl, rules}
use Rattle.mea_events.specs.declared.chan_event.ChanEvent.{ChanEvent}
use Rattle.mea_events.specs.declared.chan_event.ChanEvent.TheVariants as Chans
use Rattle.mea_events.specs.declared.event.Event.TheVariants.{Chan}
use Rattle.mea_lines.specs.Lines.{event_of_word}
use Rattle.mea_lines.specs.Marks.{marks}
use Rattle.mea_lines.specs.ChanLines.{bounded_lines, unbounded_lines, oneshot_lines, broadcast_lines, box_lines, option_box_lines}
use Rattle.mea_lines.specs.ChanSpelling.{chan_said, ChanFits}
use Rattle.mea_text.proofs.Cuts.{lacks_byte}
use Rattle.mea_text.proofs.Tables.{AreSaid}

pub chan_told : (e : ChanEvent) → ChanFits e → event_of_word (chan_said e).0 (chan_said e).1 ≡ Some (Chan e)
unfolding event_of_word marks bounded_lines unbounded_lines oneshot_lines broadcast_lines box_lines option_box_lines
chan_told (Chans.MuCopy s) fits = refl
chan_told _ fits = refl

pub chan_spaceless : (e : ChanEvent) → lacks_byte 32 (chan_said e).0 ≡ true
chan_spaceless (Chans.MuCopy s) = refl
chan_spaceless _ = refl

pub bounded_lines_are_said : AreSaid chan_said ChanFits (λ verb. codes "mb" ++ 46 ∷ verb) bounded_lines
unfolding bounded_lines
bounded_lines_are_said = search rules

pub unbounded_lines_are_said : AreSaid chan_said ChanFits (λ verb. codes "mu" ++ 46 ∷ verb) unbounded_lines
unfolding unbounded_lines
unbounded_lines_are_said = search rules

pub oneshot_lines_are_said : AreSaid chan_said ChanFits (λ verb. codes "os" ++ 46 ∷ verb) oneshot_lines
unfolding oneshot_lines
oneshot_lines_are_said = search rules

pub broadcast_lines_are_said : AreSaid chan_said ChanFits (λ verb. codes "bc" ++ 46 ∷ verb) broadcast_lines
unfolding broadcast_lines
broadcast_lines_are_said = search rules

pub box_lines_are_said : AreSaid chan_said ChanFits (λ verb. codes "ab" ++ 46 ∷ verb) box_lines
unfolding box_lines
box_lines_are_said = search rules

pub option_box_lines_are_said : AreSaid chan_said ChanFits (λ verb. codes "ao" ++ 46 ∷ verb) option_box_lines
unfolding option_box_lines
option_box_lines_are_said = search rules
