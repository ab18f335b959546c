use Rattle.std.proofs.Common.{◌≡◌, ◌++◌, ◌∷◌, [], length, ap, sym, subst, ◌∙◌, arith}
use Rattle.mea_events.proofs.ToldReplies.{told_reply}
use Rattle.mea_sem.specs.Play.{Plays}
use Rattle.mea_sem_model.specs.Cause.{cause_of}
use Rattle.mea_recorded.specs.History.{History, hall_after, with_event, reply_of}
use Rattle.mea_recorded.proofs.Keeping.{kept_next, refused_end, room_for}
use Rattle.mea_recorded.proofs.recorded.Recorded.act_on.Goals as goal

pub returns-in_default-clause-no_memory : goal.returns-in_default-clause-no_memory
returns-in_default-clause-no_memory c = λ one.
    let kept = c.self.invariant in
    let there = sym (kept.hall ∙ ap (λ (h : History). hall_after h.events) c.self.view_is) in
    ap (λ h. cause_of h c.args.event.now) there
    ∙ refused_end c.self.inside.hall.hall 0 c.args.event.now c.cause.result c.unwrap_or-stop.result c.self.inside.living c.cause.ensures c.unwrap_or-stop.ensures one kept.counted
    (λ some. c.make_room.ensures.ends one some kept.places kept.answers (omega (arith, c.registered-waits.ensures.count, kept.wakes)) c.in_default.is)

pub hand_over-requires-clause-room : goal.hand_over-requires-clause-room
hand_over-requires-clause-room c =
    room_for c.self.inside.hall c.act.new.self c.len-at.result c.args.event.now c.in-Ok.answer c.push.new.self.spare c.in-Ok.ensures.played c.self.invariant.quiet
    (omega (arith, c.in-Some.ensures.wakes, c.registered-waits.ensures.count, ap (λ t. t.spare) c.push.ensures))

pub invariant_of-self-2 : goal.invariant_of-self-2
invariant_of-self-2 c =
    let number : c.len-at.result ≡ length c.self.inside.events.items = c.len-at.ensures ∙ c.self.inside.events.ok.0 in
    let events = c.push_reserved.ensures.items ∙ ap (λ es. es ++ c.args.event.now ∷ []) c.in-Some.ensures.rest_kept.0 in
    let replies = told_reply c.self.inside.replies.replies c.push.new.self.replies c.hand_over.new.replies.replies c.in-Ok.answer c.self.inside.hall.wakes c.act.new.self.wakes
    (reply_of c.self.inside.hall.hall c.len-at.result c.args.event.now)
    (ap (λ t. t.replies) c.push.ensures ∙ ap (λ rs. rs ++ (c.in-Ok.answer, []) ∷ []) c.in-Some.ensures.rest_kept.1) c.hand_over.ensures.replies
    c.in-Ok.ensures.played.replied (ap (λ p. p.wakes) c.in-Ok.ensures.played.moved) c.self.invariant.quiet in
    kept_next c.self.inside.hall c.act.new.self c.hand_over.new.hall _ _ c.args.event.now c.in-Ok.answer c.self.inside.living _ c.in-Some.after _ _ c.hand_over.new.replies c.self.invariant record {
      allowed = c.in-Ok.ensures.allowed;
      played = subst (λ k. Plays c.self.inside.hall k c.args.event.now c.in-Ok.answer c.act.new.self) number c.in-Ok.ensures.played;
      handed = c.hand_over.ensures.hall;
      events = events;
      replies = replies ∙ ap (λ k. c.self.inside.replies.replies ++ reply_of c.self.inside.hall.hall k c.args.event.now ∷ []) number;
      count = c.in-Some.ensures.after;
      places = omega (arith, c.in-Some.ensures.places, c.push_reserved.ensures.len, c.push_reserved.ensures.capacity);
      answers = omega (arith, c.in-Some.ensures.answers, c.hand_over.ensures.room, ap (λ t. t.room) c.push.ensures);
      wakes = omega (arith, c.in-Some.ensures.wakes, c.registered-waits.ensures.count, c.hand_over.ensures.spare, ap (λ t. t.spare) c.push.ensures);
    }

pub returns-clause-entry : goal.returns-clause-entry
returns-clause-entry c =
    let number : c.len-at.result ≡ length c.self.inside.events.items = c.len-at.ensures ∙ c.self.inside.events.ok.0 in
    let events = c.push_reserved.ensures.items ∙ ap (λ es. es ++ c.args.event.now ∷ []) c.in-Some.ensures.rest_kept.0 in
    let replies = told_reply c.self.inside.replies.replies c.push.new.self.replies c.hand_over.new.replies.replies c.in-Ok.answer c.self.inside.hall.wakes c.act.new.self.wakes
    (reply_of c.self.inside.hall.hall c.len-at.result c.args.event.now)
    (ap (λ t. t.replies) c.push.ensures ∙ ap (λ rs. rs ++ (c.in-Ok.answer, []) ∷ []) c.in-Some.ensures.rest_kept.1) c.hand_over.ensures.replies
    c.in-Ok.ensures.played.replied (ap (λ p. p.wakes) c.in-Ok.ensures.played.moved) c.self.invariant.quiet in (
      number ∙ ap (λ (h : History). length h.events) c.self.view_is,
      (λ i. record {
        events = events i;
        replies = (replies ∙ ap (λ k. c.self.inside.replies.replies ++ reply_of c.self.inside.hall.hall k c.args.event.now ∷ []) number
            ∙ ap (λ h. c.self.inside.replies.replies ++ reply_of h (length c.self.inside.events.items) c.args.event.now ∷ []) c.self.invariant.hall) i;
      }) ∙ ap (λ (h : History). with_event h c.args.event.now) c.self.view_is,
    )
