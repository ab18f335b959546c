-- what an event does, as far as a picture shows it
use Rattle.std.specs.Prelude.{ℕ}
use Rattle.mea_marks.specs.declared.deed.Deed.{Deed}
use Rattle.mea_marks.specs.declared.deed.Deed.TheVariants as deeds
use Rattle.mea_marks.specs.declared.sort.Sort.{Sort}
use Rattle.mea_marks.specs.declared.sort.Sort.TheVariants as sorts
use Rattle.mea_events.specs.declared.event.Event.{Event}
use Rattle.mea_events.specs.declared.event.Event.TheVariants.{Sem, Meet, Lock, Chan, Share, Once}
use Rattle.mea_events.specs.declared.sem_event.SemEvent.{SemEvent}
use Rattle.mea_events.specs.declared.sem_event.SemEvent.TheVariants as semaphores
use Rattle.mea_events.specs.declared.meet_event.MeetEvent.{MeetEvent}
use Rattle.mea_events.specs.declared.meet_event.MeetEvent.TheVariants as meets
use Rattle.mea_events.specs.declared.lock_event.LockEvent.{LockEvent}
use Rattle.mea_events.specs.declared.lock_event.LockEvent.TheVariants as locks
use Rattle.mea_events.specs.declared.chan_event.ChanEvent.{ChanEvent}
use Rattle.mea_events.specs.declared.chan_event.ChanEvent.TheVariants as chans
use Rattle.mea_events.specs.declared.share_event.ShareEvent.{ShareEvent}
use Rattle.mea_events.specs.declared.share_event.ShareEvent.TheVariants as shares
use Rattle.mea_events.specs.declared.once_event.OnceEvent.{OnceEvent}
use Rattle.mea_events.specs.declared.once_event.OnceEvent.TheVariants as onces

-- it polls a thing with a waker
abbrev pub polls : Sort → ℕ → ℕ → Deed
polls s f w = deeds.Polls (record { sort = s; name = f }) w

-- it ends a thing
abbrev pub ends : Sort → ℕ → Deed
ends s x = deeds.Ends (record { sort = s; name = x })

-- of semaphores
unfoldable pub semaphore_deed : SemEvent → Deed
semaphore_deed (semaphores.New a) = deeds.Makes sorts.Semaphore
semaphore_deed (semaphores.Acq a b) = deeds.Begins sorts.Acquire a
semaphore_deed (semaphores.Acqo a b) = deeds.Begins sorts.Acquire a
semaphore_deed (semaphores.Acqf a b) = deeds.Begins sorts.Acquire a
semaphore_deed (semaphores.Acqof a b) = deeds.Begins sorts.Acquire a
semaphore_deed (semaphores.Poll a b) = polls sorts.Acquire a b
semaphore_deed (semaphores.End a) = ends sorts.Acquire a
semaphore_deed (semaphores.Endsem a) = ends sorts.Semaphore a
semaphore_deed _ = deeds.Other

-- of meeting points
unfoldable pub meet_deed : MeetEvent → Deed
meet_deed (meets.BarNew a) = deeds.Makes sorts.Barrier
meet_deed (meets.BarWait a) = deeds.Begins sorts.Arrival a
meet_deed (meets.BarPoll a b) = polls sorts.Arrival a b
meet_deed (meets.BarEnd a) = ends sorts.Arrival a
meet_deed (meets.BarDrop a) = ends sorts.Barrier a
meet_deed (meets.LatNew a) = deeds.Makes sorts.Latch
meet_deed (meets.LatWait a) = deeds.Begins sorts.LatchWait a
meet_deed (meets.LatWaito a) = deeds.Begins sorts.LatchWait a
meet_deed (meets.LatPoll a b) = polls sorts.LatchWait a b
meet_deed (meets.LatEnd a) = ends sorts.LatchWait a
meet_deed (meets.LatDrop a) = ends sorts.Latch a
meet_deed meets.WgNew = deeds.Makes sorts.WaitGroup
meet_deed (meets.WgInto a) = deeds.Begins sorts.GroupWait a
meet_deed (meets.WgCopy a) = deeds.Begins sorts.GroupWait a
meet_deed (meets.WgPoll a b) = polls sorts.GroupWait a b
meet_deed (meets.WgEnd a) = ends sorts.GroupWait a
meet_deed meets.SdNew = deeds.Makes sorts.Shutdown
meet_deed (meets.SdIs a) = deeds.Begins sorts.Signal a
meet_deed (meets.SdIso a) = deeds.Begins sorts.Signal a
meet_deed (meets.SdAwait a) = deeds.Begins sorts.Signal a
meet_deed (meets.SdPoll a b) = polls sorts.Signal a b
meet_deed (meets.SdEnd a) = ends sorts.Signal a
meet_deed (meets.WgClone a) = deeds.Copies a
meet_deed (meets.SdCopys a) = deeds.Copies a
meet_deed (meets.SdCopyr a) = deeds.Copies a
meet_deed (meets.SdWatch a) = deeds.Copies a
meet_deed _ = deeds.Other

-- of locks
unfoldable pub lock_deed : LockEvent → Deed
lock_deed (locks.MxNew a) = deeds.Makes sorts.Mutex
lock_deed (locks.MxLock a) = deeds.Begins sorts.Lock a
lock_deed (locks.MxLocko a) = deeds.Begins sorts.Lock a
lock_deed (locks.MxPoll a b) = polls sorts.Lock a b
lock_deed (locks.MxEnd a) = ends sorts.Lock a
lock_deed (locks.MxInto a) = ends sorts.Mutex a
lock_deed (locks.MxDrop a) = ends sorts.Mutex a
lock_deed (locks.RwNew a) = deeds.Makes sorts.RwLock
lock_deed (locks.RwMax a b) = deeds.Makes sorts.RwLock
lock_deed (locks.RwRead a) = deeds.Begins sorts.Access a
lock_deed (locks.RwReado a) = deeds.Begins sorts.Access a
lock_deed (locks.RwWrite a) = deeds.Begins sorts.Access a
lock_deed (locks.RwWriteo a) = deeds.Begins sorts.Access a
lock_deed (locks.RwPoll a b) = polls sorts.Access a b
lock_deed (locks.RwEnd a) = ends sorts.Access a
lock_deed (locks.RwInto a) = ends sorts.RwLock a
lock_deed (locks.RwDrop a) = ends sorts.RwLock a
lock_deed locks.CvNew = deeds.Makes sorts.Condvar
lock_deed (locks.CvWait a b) = deeds.Begins sorts.CondvarWait a
lock_deed (locks.CvWaitw a b c) = deeds.Begins sorts.CondvarWait a
lock_deed (locks.CvPoll a b) = polls sorts.CondvarWait a b
lock_deed (locks.CvEnd a) = ends sorts.CondvarWait a
lock_deed (locks.CvDrop a) = ends sorts.Condvar a
lock_deed _ = deeds.Other

-- of channels and boxes
unfoldable pub chan_deed : ChanEvent → Deed
chan_deed (chans.MbNew a) = deeds.Makes sorts.Bounded
chan_deed (chans.MbSend a b) = deeds.Begins sorts.Send a
chan_deed (chans.MbPoll a b) = polls sorts.Send a b
chan_deed (chans.MbEnd a) = ends sorts.Send a
chan_deed (chans.MbRecv a b) = polls sorts.BoundedReceive a b
chan_deed (chans.MbEndr a) = ends sorts.BoundedReceive a
chan_deed chans.MuNew = deeds.Makes sorts.Unbounded
chan_deed (chans.MuRecv a b) = polls sorts.Receive a b
chan_deed (chans.MuEndr a) = ends sorts.Receive a
chan_deed chans.OsNew = deeds.Makes sorts.Oneshot
chan_deed (chans.OsInto a) = deeds.Begins sorts.OneshotReceive a
chan_deed (chans.OsPoll a b) = polls sorts.OneshotReceive a b
chan_deed (chans.OsEnd a) = ends sorts.OneshotReceive a
chan_deed (chans.BcNew a) = deeds.Makes sorts.Broadcast
chan_deed (chans.BcRecv a) = deeds.Begins sorts.Hear a
chan_deed (chans.BcPoll a b) = polls sorts.Hear a b
chan_deed (chans.BcEnd a) = ends sorts.Hear a
chan_deed (chans.AbNew a) = deeds.Makes sorts.AtomicBox
chan_deed (chans.AbInto a) = ends sorts.AtomicBox a
chan_deed (chans.AbDrop a) = ends sorts.AtomicBox a
chan_deed (chans.AoNew a) = deeds.Makes sorts.OptionBox
chan_deed chans.AoNone = deeds.Makes sorts.OptionBox
chan_deed (chans.AoInto a) = ends sorts.OptionBox a
chan_deed (chans.AoDrop a) = ends sorts.OptionBox a
chan_deed (chans.MbCopy a) = deeds.Copies a
chan_deed (chans.MuCopy a) = deeds.Copies a
chan_deed (chans.BcCopys a) = deeds.Copies a
chan_deed (chans.BcSub a) = deeds.Copies a
chan_deed (chans.BcResub a) = deeds.Copies a
chan_deed (chans.BcCopyr a) = deeds.Copies a
chan_deed _ = deeds.Other

-- of fair admission
unfoldable pub share_deed : ShareEvent → Deed
share_deed (shares.FsNew a) = deeds.Makes sorts.Admission
share_deed (shares.FsAcq a b) = deeds.Begins sorts.Admit a
share_deed (shares.FsAcqo a b) = deeds.Begins sorts.Admit a
share_deed (shares.FsPoll a b) = polls sorts.Admit a b
share_deed (shares.FsEnd a) = ends sorts.Admit a
share_deed (shares.FsDrop a) = ends sorts.Admission a
share_deed _ = deeds.Other

-- of once types
unfoldable pub once_deed : OnceEvent → Deed
once_deed onces.OnNew = deeds.Makes sorts.Call
once_deed (onces.OnCall a) = deeds.Begins sorts.CallWait a
once_deed (onces.OnWait a) = deeds.Begins sorts.CallWait a
once_deed (onces.OnPoll a b) = polls sorts.CallWait a b
once_deed (onces.OnEnd a) = ends sorts.CallWait a
once_deed (onces.OnDrop a) = ends sorts.Call a
once_deed onces.OcNew = deeds.Makes sorts.Cell
once_deed (onces.OcFrom a) = deeds.Makes sorts.Cell
once_deed (onces.OcInit a) = deeds.Begins sorts.CellWait a
once_deed (onces.OcSet a b) = deeds.Begins sorts.CellWait a
once_deed (onces.OcIns a b) = deeds.Begins sorts.CellWait a
once_deed (onces.OcMinit a) = deeds.Begins sorts.CellWait a
once_deed (onces.OcPoll a b) = polls sorts.CellWait a b
once_deed (onces.OcEnd a) = ends sorts.CellWait a
once_deed (onces.OcInto a) = ends sorts.Cell a
once_deed (onces.OcDrop a) = ends sorts.Cell a
once_deed onces.OmNew = deeds.Makes sorts.Map
once_deed (onces.OmCompute a b) = deeds.Begins sorts.MapWait a
once_deed (onces.OmPoll a b) = polls sorts.MapWait a b
once_deed (onces.OmEnd a) = ends sorts.MapWait a
once_deed (onces.OmDrop a) = ends sorts.Map a
once_deed onces.SfNew = deeds.Makes sorts.Flight
once_deed (onces.SfWork a b) = deeds.Begins sorts.FlightWait a
once_deed (onces.SfPoll a b) = polls sorts.FlightWait a b
once_deed (onces.SfEnd a) = ends sorts.FlightWait a
once_deed (onces.SfDrop a) = ends sorts.Flight a
once_deed _ = deeds.Other

-- of all families
abbrev pub deed_of : Event → Deed
deed_of (Sem e) = semaphore_deed e
deed_of (Meet e) = meet_deed e
deed_of (Lock e) = lock_deed e
deed_of (Chan e) = chan_deed e
deed_of (Share e) = share_deed e
deed_of (Once e) = once_deed e
