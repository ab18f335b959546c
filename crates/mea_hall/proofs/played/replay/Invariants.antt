use Rattle.std.proofs.Common.{◌≡◌, [], take, length, None}
use Rattle.mea_hall.specs.Front.{front_of}
use Rattle.mea_hall.proofs.played.replay.Given as goal

-- the events so far are played
abbrev pub invariant-loop-event : goal.invariant-loop-event
invariant-loop-event l = record {
  played : front_of (take l.event-index l.events) ≡ record { world = l.hall.world; replies = l.replies.replies; cause = None };
  counted : l.hall.events ≡ l.event-index;
  quiet : l.hall.wakes ≡ [];
  replied : length l.replies.replies ≡ l.event-index;
}
