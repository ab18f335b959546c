-- the lines of once types are what their events say
use Rattle.std.proofs.Common.{◌≡◌, ◌++◌, ◌∷◌, true, codes, Some, refl, rules}
use Rattle.mea_events.specs.declared.once_event.OnceEvent.{OnceEvent}
use Rattle.mea_events.specs.declared.once_event.OnceEvent.TheVariants as Onces
use Rattle.mea_events.specs.declared.event.Event.TheVariants.{Once}
use Rattle.mea_lines.specs.Lines.{event_of_word}
use Rattle.mea_lines.specs.Marks.{marks}
use Rattle.mea_lines.specs.OnceLines.{call_lines, cell_lines, map_lines, work_lines}
use Rattle.mea_lines.specs.OnceSpelling.{once_said, OnceFits}
use Rattle.mea_text.proofs.Cuts.{lacks_byte}
use Rattle.mea_text.proofs.Tables.{AreSaid}

pub once_told : (e : OnceEvent) → OnceFits e → event_of_word (once_said e).0 (once_said e).1 ≡ Some (Once e)
unfolding event_of_word marks call_lines cell_lines map_lines work_lines
once_told (Onces.OnDone o) fits = refl
once_told _ fits = refl

pub once_spaceless : (e : OnceEvent) → lacks_byte 32 (once_said e).0 ≡ true
once_spaceless (Onces.OnDone o) = refl
once_spaceless _ = refl

pub call_lines_are_said : AreSaid once_said OnceFits (λ verb. codes "on" ++ 46 ∷ verb) call_lines
unfolding call_lines
call_lines_are_said = search rules

pub cell_lines_are_said : AreSaid once_said OnceFits (λ verb. codes "oc" ++ 46 ∷ verb) cell_lines
unfolding cell_lines
cell_lines_are_said = search rules

pub map_lines_are_said : AreSaid once_said OnceFits (λ verb. codes "om" ++ 46 ∷ verb) map_lines
unfolding map_lines
map_lines_are_said = search rules

pub work_lines_are_said : AreSaid once_said OnceFits (λ verb. codes "sf" ++ 46 ∷ verb) work_lines
unfolding work_lines
work_lines_are_said = search rules
