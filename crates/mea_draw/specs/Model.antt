-- what the picture takes for a poll is what each family takes for one
use Rattle.std.specs.Prelude.{ℕ, ◌≡◌, Option, Some, None, if◌then◌else◌}
use Rattle.mea_events.specs.declared.event.Event.TheVariants.{Sem, Meet, Lock, Chan, Share, Once}
use Rattle.mea_events.specs.declared.sem_event.SemEvent.{SemEvent}
use Rattle.mea_events.specs.declared.meet_event.MeetEvent.{MeetEvent}
use Rattle.mea_events.specs.declared.lock_event.LockEvent.{LockEvent}
use Rattle.mea_events.specs.declared.chan_event.ChanEvent.{ChanEvent}
use Rattle.mea_events.specs.declared.share_event.ShareEvent.{ShareEvent}
use Rattle.mea_events.specs.declared.once_event.OnceEvent.{OnceEvent}
use Rattle.mea_sem_model.specs.Runs as sem
use Rattle.mea_meet_model.specs.Hall as kinds
use Rattle.mea_meet_model.specs.Hall.{Latches, Shutdowns}
use Rattle.mea_meet_model.specs.Meets as meet
use Rattle.mea_lock_model.specs.LockHall.{Mutexes, RwLocks}
use Rattle.mea_lock_model.specs.LockFamily as lock
use Rattle.mea_chan_model.specs.ChanHall.{Unbounded, Oneshots, ReceiverOf, ReceiverOfBounded}
use Rattle.mea_chan_model.specs.ChanFamily as chan
use Rattle.mea_share_model.specs.ShareFamily as share
use Rattle.mea_once_model.specs.OnceHall.{Onces, OnceCells, Maps, Groups}
use Rattle.mea_once_model.specs.OnceFamily as once
use Rattle.mea_marks.specs.declared.deed.Deed.{Deed}
use Rattle.mea_marks.specs.declared.deed.Deed.TheVariants.{Polls}
use Rattle.mea_marks.specs.declared.sort.Sort.TheVariants as sorts
use Rattle.mea_marks.specs.declared.thing.Thing.{Thing}
use Rattle.mea_marks.specs.Deeds.{deed_of}
use Rattle.mea_marks.specs.Marks.{thing_of}
use Rattle.mea_marks.specs.Rows.{same}

-- the waker with which a deed polls a thing, if it does
abbrev pub polled_by : Deed → Thing → Option ℕ
polled_by (Polls y w) x = if same y x then Some w else None
polled_by _ x = None

-- ---- the thing that a future of each family is

-- of meeting points, by its sort and its name
abbrev pub meet_thing_as : meet.Sort → ℕ → Thing
meet_thing_as meet.AtBarrier f = thing_of sorts.Arrival f
meet_thing_as (meet.Of Latches) f = thing_of sorts.LatchWait f
meet_thing_as (meet.Of kinds.Groups) f = thing_of sorts.GroupWait f
meet_thing_as (meet.Of Shutdowns) f = thing_of sorts.Signal f

-- of locks and condition variables, by its sort and its name
abbrev pub lock_thing_as : lock.Sort → ℕ → Thing
lock_thing_as (lock.Of Mutexes) f = thing_of sorts.Lock f
lock_thing_as (lock.Of RwLocks) f = thing_of sorts.Access f
lock_thing_as lock.Waits f = thing_of sorts.CondvarWait f

-- of channels
abbrev pub chan_thing : chan.Future → Thing
chan_thing (chan.Receives (ReceiverOf Unbounded) r) = thing_of sorts.Receive r
chan_thing (chan.Receives (ReceiverOf Oneshots) r) = thing_of sorts.OneshotReceive r
chan_thing (chan.Receives ReceiverOfBounded r) = thing_of sorts.BoundedReceive r
chan_thing (chan.Hears f) = thing_of sorts.Hear f

-- of once types
abbrev pub once_thing : once.Future → Thing
once_thing (once.AtCell Onces f) = thing_of sorts.CallWait f
once_thing (once.AtCell OnceCells f) = thing_of sorts.CellWait f
once_thing (once.ByKey Maps f) = thing_of sorts.MapWait f
once_thing (once.ByKey Groups f) = thing_of sorts.FlightWait f

-- an event polls a future of its family, with this waker, exactly where its deed polls the thing that the future is
pub record PollsAlike : Type 0 where
  pub semaphores : (e : SemEvent) (f : ℕ) → sem.waker_in e f ≡ polled_by (deed_of (Sem e)) (thing_of sorts.Acquire f)
  pub meets : (e : MeetEvent) (f : meet.Future) → meet.polled e f ≡ polled_by (deed_of (Meet e)) (meet_thing_as f.sort f.name)
  pub locks : (e : LockEvent) (f : lock.Future) → lock.polled e f ≡ polled_by (deed_of (Lock e)) (lock_thing_as f.sort f.name)
  pub chans : (e : ChanEvent) (f : chan.Future) → chan.polled e f ≡ polled_by (deed_of (Chan e)) (chan_thing f)
  pub shares : (e : ShareEvent) (f : ℕ) → share.polled e f ≡ polled_by (deed_of (Share e)) (thing_of sorts.Admit f)
  pub onces : (e : OnceEvent) (f : once.Future) → once.polled e f ≡ polled_by (deed_of (Once e)) (once_thing f)
