use Rattle.mea_run.proofs.Counts.{counts_on, refused_on}
use Rattle.mea_run.proofs.making.play_all.Goals as goal

pub returns-in-Err-clause-refused : goal.returns-in-Err-clause-refused
returns-in-Err-clause-refused c = λ other.
    let before = c.loop-event.invariant in
    refused_on c.args.hall.now.world c.args.hall.now.events c.args.counts.now.pending c.args.counts.now.wakes c.args.events.now c.loop-event.event-index _
    c.loop-event.hall c.loop-event.counts.pending c.loop-event.counts.wakes c.in-Err.stop c.loop-event-test.true
    (record { allowed = before.allowed; hall = before.hall; pending = before.pending; wakes = before.wakes }) (c.in-Err.ensures.refused other)

pub loop-event-preserved : goal.loop-event-preserved
loop-event-preserved c =
    let before = c.loop-event.invariant in
    let next = counts_on c.args.hall.now.world c.args.hall.now.events c.args.counts.now.pending c.args.counts.now.wakes c.args.events.now
    c.loop-event.event-index _ c.loop-event.hall c.play.new.hall c.loop-event.counts.pending c.loop-event.counts.wakes c.play.new.counts.pending
    c.play.new.counts.wakes c.loop-event-test.true
    (record { allowed = before.allowed; hall = before.hall; pending = before.pending; wakes = before.wakes }) c.in-Ok.ensures.allowed c.in-Ok.ensures.hall
    c.in-Ok.ensures.pending c.in-Ok.ensures.wakes in
    record {
      allowed = next.allowed;
      hall = next.hall;
      pending = next.pending;
      wakes = next.wakes;
      pending_fits = c.in-Ok.ensures.pending_fits;
      wakes_fit =
          c.in-Ok.ensures.wakes_fit;
    }
