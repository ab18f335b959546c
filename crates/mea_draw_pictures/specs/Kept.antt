-- a hall that answers each event as it is kept
use Rattle.std.specs.Prelude.{ℕ, List, [], Option, Some, None, slice_get}
use Rattle.mea_family.specs.declared.answer.Answer.{Answer}
use Rattle.mea_family.specs.declared.answer.Answer.TheVariants.{Done}
use Rattle.mea_events.specs.declared.event.Event.{Event}
use Rattle.mea_marks.specs.Script.{Steps}
use Rattle.mea_draw_pictures.specs.declared.reply.Reply.{Reply}

abbrev pub told_by : Option Reply → Answer × List ℕ
told_by (Some r) = (r.answer, r.wakes.items)
told_by None = (Done, [])

-- no event is refused, and none changes what is kept
abbrev pub kept_steps : Steps (List Reply)
kept_steps = record {
  cause = λ rs e. None;
  next = λ rs n e. rs;
  reply = λ rs n e. told_by (slice_get rs n);
}
