-- the wait of a future at a point that counts
use Rattle.std.specs.Prelude.{ℕ, Option, None}
use Rattle.mea_sets.specs.declared.place.Place.{Place}
use Rattle.mea_meet_model.specs.Counts.{End, OfSignal, OfMembers, Awaited}
use Rattle.mea_meet_model.specs.Counts as model
use Rattle.mea_meet.specs.declared.count_wait.CountWait.{CountWait}
use Rattle.mea_meet.specs.declared.count_wait.CountWait.TheVariants.{Signal, Members}

abbrev pub end_of : CountWait → End
end_of (Signal slot borrowed) = OfSignal
end_of (Members slot) = OfMembers

-- the number under which its waker was registered
abbrev pub slot_of : CountWait → Option Place
slot_of (Signal slot borrowed) = slot
slot_of (Members slot) = slot

abbrev pub with_slot : CountWait → Option Place → CountWait
with_slot (Signal slot borrowed) now = Signal now borrowed
with_slot (Members slot) now = Members now

-- the number of one that waits for this end
abbrev pub slot_at : End → CountWait → Option Place
slot_at OfSignal (Signal slot borrowed) = slot
slot_at OfSignal (Members slot) = None
slot_at OfMembers (Signal slot borrowed) = None
slot_at OfMembers (Members slot) = slot

abbrev pub borrowed_of : CountWait → Option ℕ
borrowed_of (Signal slot borrowed) = borrowed
borrowed_of (Members slot) = None

abbrev pub awaits_of : CountWait → Awaited
awaits_of (Signal slot borrowed) = model.Signal borrowed
awaits_of (Members slot) = model.Members
