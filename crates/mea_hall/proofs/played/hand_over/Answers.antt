use Rattle.mea_hall.proofs.HandedOver.{hands_over}
use Rattle.mea_hall.proofs.played.hand_over.Goals as goal

pub loop-waker-preserved : goal.loop-waker-preserved
loop-waker-preserved c =
    let before = c.loop-waker.invariant in
    let next = hands_over c.args.hall.now c.loop-waker.hall c.next_wake.new.self _ c.loop-waker.replies c.add_wake.new.self c.in-Some.waker
    (record { hall = before.hall; rest = record { replies = before.replies; room = before.room; last = before.last } }) c.in-Some.ensures.some c.add_wake.ensures in
    record { hall = next.hall; replies = next.rest.replies; room = next.rest.room; last = next.rest.last }
