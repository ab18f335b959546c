use Rattle.std.proofs.Common.{sym, ap, ◌∙◌}
use Rattle.std.specs.Cmp.Lexicographic.{same_text, other_text}
use Rattle.mea_events.specs.SemParts.{parts}
use Rattle.mea_events.proofs.SemParts.{parts_one}
use Rattle.mea_recorded.proofs.closing.is_event.Goals as goal

pub returns-clause-same : goal.returns-clause-same
returns-clause-same c = λ same. parts_one _ _ (same_text _ _ (sym same ∙ c.eq.ensures))

pub returns-clause-apart : goal.returns-clause-apart
returns-clause-apart c = λ apart same. other_text _ _ (sym apart ∙ c.eq.ensures) (ap parts same)
