use Rattle.std.proofs.Common.{ap, ◌∙◌, ◌++◌, ◌∷◌, []}
use Rattle.mea_events.proofs.ToldReplies.{told_reply}
use Rattle.mea_hall.proofs.HandedOver.{room_for}
use Rattle.mea_hall.proofs.played.play_next.Goals as goal

pub returns-clause-replies : goal.returns-clause-replies
returns-clause-replies c =
    told_reply c.args.replies.now.replies c.push.new.self.replies c.hand_over.new.replies.replies c.in_ok-answer.answer c.args.hall.now.wakes c.act.new.self.wakes _
    (ap (λ told. told.replies) c.push.ensures ∙ ap (λ rs. rs ++ (c.in_ok-answer.answer, []) ∷ []) c.reserve.ensures.rest_kept) c.hand_over.ensures.replies
    c.in_ok-answer.ensures.played.replied c.in_ok-answer.ensures.played.woken c.requires.quiet

pub hand_over-requires-clause-room : goal.hand_over-requires-clause-room
hand_over-requires-clause-room c =
    room_for c.args.hall.now c.act.new.self c.args.event.now c.in_ok-answer.answer c.registered.result c.reserve.new.self.spare c.push.new.self.spare c.in_ok-answer.ensures.played c.requires.quiet c.registered.ensures.count c.in_ok-reserve.ensures.room.1 (ap (λ told. told.spare) c.push.ensures)
