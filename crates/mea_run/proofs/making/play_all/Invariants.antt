use Rattle.std.proofs.Common.{◌≡◌, ◌+◌, ◌*◌, ◌≤◌, [], take, None}
use Rattle.mea_hall.specs.World.{Play}
use Rattle.mea_hall.specs.Front.{front_from}
use Rattle.mea_run.specs.Generated.{pendings, wakes_in}
use Rattle.mea_run.proofs.making.play_all.Given as goal

-- the events so far are played, and their replies counted
abbrev pub invariant-loop-event : goal.invariant-loop-event
invariant-loop-event l = record {
  allowed : (front_from l.fn.hall.world l.fn.hall.events (take l.event-index l.events)).cause ≡ None;
  hall : ◌≡◌ {A = Play} l.hall
      (record {
        world = (front_from l.fn.hall.world l.fn.hall.events (take l.event-index l.events)).world;
        wakes = [];
        events = l.fn.hall.events +
            l.event-index;
      });
  pending : l.counts.pending ≡ l.fn.counts.pending + pendings (front_from l.fn.hall.world l.fn.hall.events (take l.event-index l.events)).replies;
  wakes : l.counts.wakes ≡ l.fn.counts.wakes + wakes_in (front_from l.fn.hall.world l.fn.hall.events (take l.event-index l.events)).replies;
  pending_fits : l.counts.pending ≤ l.hall.events;
  wakes_fit : l.counts.wakes ≤ 4194304 * l.hall.events;
}
