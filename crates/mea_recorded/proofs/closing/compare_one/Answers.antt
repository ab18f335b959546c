use Rattle.std.proofs.Common.{ap, ◌∙◌, Some}
use Rattle.mea_recorded.proofs.closing.compare_one.Goals as goal

pub returns-then-is_answer-clause-stands : goal.returns-then-is_answer-clause-stands
returns-then-is_answer-clause-stands c = record {
  event = c.entry_at-played.ensures.event ∙ ap Some (c.is_event.ensures.same c.if-is_event.true);
  answer = c.entry_at-played.ensures.answer ∙ ap Some (c.is_answer.ensures.same c.if-is_answer.true);
}
