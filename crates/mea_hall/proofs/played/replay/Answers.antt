use Rattle.std.proofs.Common.{length, ◌+◌, arith, ap, ◌∙◌, inr, Err}
use Rattle.std.proofs.lemmas.Grind.{common_steps}
use Rattle.mea_hall.proofs.Fronts.{front_step, front_stops, legal_ends, stopped_at}
use Rattle.mea_hall.proofs.Histories.{played_balances, played_wakes, played_orders}
use Rattle.mea_hall.proofs.played.replay.Goals as goal

pub returns-in-Err-clause-caused : goal.returns-in-Err-clause-caused
returns-in-Err-clause-caused c = λ other.
    let stops = front_stops c.args.events.now c.loop-event.event-index _ c.loop-event.hall.world c.loop-event.replies.replies c.loop-event-test.true c.loop-event.invariant.played c.in-Err.stop (c.in-Err.ensures.refused other) in
    rw (c.in-Err.ensures.err.0, c.in-Err.ensures.err.1) stops

pub returns-in-Err-clause-legal : goal.returns-in-Err-clause-legal
returns-in-Err-clause-legal c = λ legal.
    inr (ap Err (legal_ends c.args.events.now c.loop-event.hall.world c.loop-event.replies.replies c.in-Err.stop
    (λ other. front_stops c.args.events.now c.loop-event.event-index _ c.loop-event.hall.world c.loop-event.replies.replies c.loop-event-test.true c.loop-event.invariant.played c.in-Err.stop (c.in-Err.ensures.refused other)) legal))

pub loop-event-preserved : goal.loop-event-preserved
loop-event-preserved c =
    let next = front_step c.args.events.now c.loop-event.event-index _ c.loop-event.hall.world c.loop-event.replies.replies c.loop-event-test.true c.loop-event.invariant.played c.in-Ok.ensures.allowed in
    let hall = c.in-Ok.ensures.hall in
    record {
      played = cc (next, ap (λ p. p.world) hall, c.in-Ok.ensures.replies, c.loop-event.invariant.counted);
      counted = ap (λ p. p.events) hall ∙ ap (λ n. n + 1) c.loop-event.invariant.counted;
      quiet = ap (λ p. p.wakes) hall;
      replied = rw c.in-Ok.ensures.replies (grind (arith, common_steps, c.loop-event.invariant.replied));
    }

pub returns-in-Err-clause-refused : goal.returns-in-Err-clause-refused
returns-in-Err-clause-refused c = λ other.
    stopped_at c.args.events.now c.loop-event.event-index _ c.play_next.new.hall.world c.loop-event.hall.world c.in-Err.stop
    (length c.play_next.new.replies.replies) c.loop-event-test.true
    (ap length c.in-Err.ensures.err.1 ∙ c.loop-event.invariant.replied) (ap (λ p. p.world) c.in-Err.ensures.err.0) (c.in-Err.ensures.refused other)

pub returns-in-Err-clause-balance : goal.returns-in-Err-clause-balance
returns-in-Err-clause-balance c =
    rw c.in-Err.ensures.err.1 (played_balances c.args.events.now c.loop-event.event-index c.loop-event.hall.world c.loop-event.replies.replies c.loop-event.invariant.played c.loop-event.invariant.replied)

pub returns-clause-balance : goal.returns-clause-balance
returns-clause-balance c =
    played_balances c.args.events.now c.loop-event.event-index c.loop-event.hall.world c.loop-event.replies.replies c.loop-event.invariant.played c.loop-event.invariant.replied

pub returns-in-Err-clause-woken : goal.returns-in-Err-clause-woken
returns-in-Err-clause-woken c =
    rw c.in-Err.ensures.err.1 (played_wakes c.args.events.now c.loop-event.event-index c.loop-event.hall.world c.loop-event.replies.replies c.loop-event.invariant.played c.loop-event.invariant.replied)

pub returns-clause-woken : goal.returns-clause-woken
returns-clause-woken c =
    played_wakes c.args.events.now c.loop-event.event-index c.loop-event.hall.world c.loop-event.replies.replies c.loop-event.invariant.played c.loop-event.invariant.replied

pub returns-in-Err-clause-order : goal.returns-in-Err-clause-order
returns-in-Err-clause-order c =
    rw c.in-Err.ensures.err.1 (played_orders c.args.events.now c.loop-event.event-index c.loop-event.hall.world c.loop-event.replies.replies c.loop-event.invariant.played c.loop-event.invariant.replied)

pub returns-clause-order : goal.returns-clause-order
returns-clause-order c =
    played_orders c.args.events.now c.loop-event.event-index c.loop-event.hall.world c.loop-event.replies.replies c.loop-event.invariant.played c.loop-event.invariant.replied
