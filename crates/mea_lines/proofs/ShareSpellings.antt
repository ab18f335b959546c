-- the lines of fair admission are what their events say
use Rattle.std.proofs.Common.{◌≡◌, ◌++◌, ◌∷◌, true, codes, Some, refl, rules}
use Rattle.mea_events.specs.declared.share_event.ShareEvent.{ShareEvent}
use Rattle.mea_events.specs.declared.share_event.ShareEvent.TheVariants as Shares
use Rattle.mea_events.specs.declared.event.Event.TheVariants.{Share}
use Rattle.mea_lines.specs.Lines.{event_of_word}
use Rattle.mea_lines.specs.Marks.{marks}
use Rattle.mea_lines.specs.ShareLines.{admission_lines}
use Rattle.mea_lines.specs.ShareSpelling.{share_said, ShareFits}
use Rattle.mea_text.proofs.Cuts.{lacks_byte}
use Rattle.mea_text.proofs.Tables.{AreSaid}

pub share_told : (e : ShareEvent) → ShareFits e → event_of_word (share_said e).0 (share_said e).1 ≡ Some (Share e)
unfolding event_of_word marks admission_lines
share_told (Shares.FsNew n) fits = refl
share_told _ fits = refl

pub share_spaceless : (e : ShareEvent) → lacks_byte 32 (share_said e).0 ≡ true
share_spaceless (Shares.FsNew n) = refl
share_spaceless _ = refl

pub admission_lines_are_said : AreSaid share_said ShareFits (λ verb. codes "fs" ++ 46 ∷ verb) admission_lines
unfolding admission_lines
admission_lines_are_said = search rules
