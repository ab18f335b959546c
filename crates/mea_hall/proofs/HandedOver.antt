-- a waker that goes from the halls to the last reply
use Rattle.std.proofs.Common.{◌≡◌, ℕ, ◌-◌, ◌≤◌, List, [], ◌∷◌, ◌++◌, length, ap, sym, ◌∙◌, arith}
use Rattle.mea_family.specs.declared.answer.Answer.{Answer}
use Rattle.mea_events.specs.declared.event.Event.{Event}
use Rattle.mea_hall.specs.World.{Play, Plays, registered, step}
use Rattle.mea_hall.proofs.EachFamily.{most_woken}
use Rattle.mea_events.specs.Replies.{ReplyList, with_wake}
use Rattle.mea_events.proofs.ToldReplies.{Hands, hands_one}

pub record HandsOver (start : Play) (all : List (Answer × List ℕ)) (now : Play) (told : ReplyList) : Type 0 where
  pub hall : now ≡ record start { wakes = now.wakes }
  pub rest : Hands all now.wakes told

pub hands_over : (start now next : Play) (all : List (Answer × List ℕ)) (told new : ReplyList) (w : ℕ) → HandsOver start all now told
    → now ≡ record next { wakes = w ∷ next.wakes } → new ≡ record { replies = with_wake told.replies w; room = told.room; spare = told.spare - 1 }
    → HandsOver start all next new
hands_over start now next all told new w h taken added =
    let world = sym (ap (λ p. p.world) taken) ∙ ap (λ p. p.world) h.hall in
    let events = sym (ap (λ p. p.events) taken) ∙ ap (λ p. p.events) h.hall in
    record {
      hall = λ i. record { world = world i; wakes = next.wakes; events = events i };
      rest = hands_one all now.wakes next.wakes told new w h.rest (ap (λ p. p.wakes) taken) added;
    }

-- the wakers of an event have room where there is room for as many as are registered before it
pub room_for : (old new : Play) (e : Event) (answer : Answer) (n spare after : ℕ) → Plays old e answer new → old.wakes ≡ [] → n ≡ registered old.world
    → n ≤ spare → after ≡ spare → length new.wakes ≤ after
room_for old new e answer n spare after plays quiet count room same =
    let all : length new.wakes ≡ length (step old.world old.events e).reply.1 =
    ap length (plays.woken ∙ ap (λ ws. ws ++ (step old.world old.events e).reply.1) quiet) in
    omega (arith, all, most_woken old.world old.events e, count, room, same)
