use Rattle.std.proofs.Common.{ap, ◌∙◌, ◌++◌, ◌∷◌, []}
use Rattle.mea_events.specs.declared.sem_event.SemEvent.TheVariants.{New}
use Rattle.mea_recorded.proofs.Keeping.{kept_first}
use Rattle.mea_recorded.proofs.recorded.Recorded.new.Goals as goal

pub invariant_of-result : goal.invariant_of-result
invariant_of-result c = kept_first c.new-hall.result c.act.new.self _ c.args.permits _ c.in-Ok.answer c.push.new.self c.new-hall.ensures c.in-Ok.ensures.played
    (c.push_reserved.ensures.items ∙ ap (λ es. es ++ New c.args.permits ∷ []) (c.in_ok-reserve.ensures.rest_kept.0 ∙ c.new-events.ensures.items))
    (ap (λ t. t.replies) c.push.ensures ∙ ap (λ rs. rs ++ (c.in-Ok.answer, []) ∷ []) (c.in_ok-reserve.ensures.rest_kept.1 ∙ c.new-replies.ensures))
