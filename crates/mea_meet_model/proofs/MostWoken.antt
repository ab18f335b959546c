-- an event wakes no more wakers than are registered
use Rattle.std.proofs.Common.{ℕ, ◌≤◌, length}
use Rattle.mea_events.specs.declared.meet_event.MeetEvent.{MeetEvent}
use Rattle.mea_meet_model.specs.Hall.{Hall, registered}
use Rattle.mea_meet_model.specs.Step.{step}
use Rattle.mea_meet_model.proofs.Registrations.{all}

pub most : (h : Hall) (i : ℕ) (e : MeetEvent) → length (step h i e).wakes ≤ registered h
most h i e = (all h i e).most
