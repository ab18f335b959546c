use Rattle.std.proofs.Common.{length, ap, sym, ◌∙◌, arith}
use Rattle.mea_events.proofs.ToldReplies.{hands_one}
use Rattle.mea_recorded.proofs.recorded.hand_over.Goals as goal

pub loop-waker-preserved : goal.loop-waker-preserved
loop-waker-preserved c =
    let before = c.loop-waker.invariant in
    let taken = ap (λ p. p.wakes) c.in-Some.ensures.some in
    let next = hands_one _ c.loop-waker.hall.wakes c.next_wake.new.self.wakes c.loop-waker.replies c.add_wake.new.self c.in-Some.waker
    (record { replies = before.replies; room = before.room; last = before.last }) taken c.add_wake.ensures in
    let hall = sym (ap (λ p. p.hall) c.in-Some.ensures.some) ∙ ap (λ p. p.hall) before.hall in
    let number = sym (ap (λ p. p.next) c.in-Some.ensures.some) ∙ ap (λ p. p.next) before.hall in
    record {
      hall = λ i. record { hall = hall i; wakes = c.next_wake.new.self.wakes; next = number i };
      replies = next.replies;
      room = next.room;
      last = next.last;
      places = ap (λ t. t.room) c.add_wake.ensures ∙ before.places;
      spare = omega (arith, ap (λ t. t.spare) c.add_wake.ensures, ap length taken, before.spare, before.room);
    }
