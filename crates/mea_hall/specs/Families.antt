-- all families, each with the least number that its next event may have, and what an event does to them
use Rattle.std.specs.Prelude.{ℕ, ◌+◌, ◌≡◌, ◌≤◌, ◌++◌}
use Rattle.mea_base.specs.Ready.{Waking}
use Rattle.mea_family.specs.declared.answer.Answer.{Answer}
use Rattle.mea_events.specs.declared.event.Event.{Event}
use Rattle.mea_hall.specs.declared.families.Families.{Families}
use Rattle.mea_hall.specs.World.{World, OthersStay, registered, step}

abbrev pub world_of : Families → World
world_of f = record { semaphores = f.semaphores.hall; meets = f.meets.hall; locks = f.locks.hall; chans = f.chans.hall; shares = f.shares.hall; onces = f.onces.hall }

-- no next number is above n
pub record AreBelow (f : Families) (n : ℕ) : Type 0 where
  pub semaphores : f.semaphores.next ≤ n
  pub meets : f.meets.next ≤ n
  pub locks : f.locks.next ≤ n
  pub chans : f.chans.next ≤ n
  pub shares : f.shares.next ≤ n
  pub onces : f.onces.next ≤ n

-- event number i is played with this reply: its wakes were appended to the wakers that are ready, and the registered wakers
-- were counted
pub record PlaysFamilies (old : Families) (i : ℕ) (event : Event) (answer : Answer) (new : Families) (before after : Waking ℕ) : Type 0 where
  pub replied : answer ≡ (step (world_of old) i event).reply.0
  pub world : world_of new ≡ (step (world_of old) i event).world
  pub alone : OthersStay event (world_of old) (world_of new)
  pub woken : after.wakers ≡ before.wakers ++ (step (world_of old) i event).reply.1
  pub counted : after.registered + registered (world_of old) ≡ before.registered + registered (world_of new)
  pub below : AreBelow new (i + 1)
