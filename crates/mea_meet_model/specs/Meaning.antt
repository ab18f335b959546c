-- what each line does, and to meeting points of which kind
use Rattle.std.specs.Prelude.{ℕ, true, false}
use Rattle.mea_events.specs.declared.meet_event.MeetEvent.{MeetEvent}
use Rattle.mea_events.specs.declared.meet_event.MeetEvent.TheVariants.{BarNew, BarWait, BarPoll, BarEnd, BarDrop, LatNew, LatCount, LatDown, LatArrive, LatTry, LatWait, LatWaito, LatPoll, LatEnd, LatDrop, WgNew, WgClone, WgInto, WgCopy, WgPoll, WgEnd, SdNew, SdCopys, SdCopyr, SdSignal, SdNow, SdWatch, SdIs, SdIso, SdAwait, SdPoll, SdEnd, SdEnds, SdEndr}
use Rattle.mea_meet_model.specs.Counts.{New}
use Rattle.mea_meet_model.specs.CountActions.{Action, Make, Number, Try, Now, Arrive, Begin, Join, Watch, Into, EndHolder, Copy, Poll, EndWait, EndEither, CopySender, Send, Await, EndSender}
use Rattle.mea_meet_model.specs.BarrierActions as at_barriers
use Rattle.mea_meet_model.specs.BarrierActions.{BarrierAction}
use Rattle.mea_meet_model.specs.Hall.{Kind, Latches, Groups, Shutdowns}

-- what a line does: something to barriers, or to points that count of a kind
pub data Meaning : Type 0 where
  OnBarriers : BarrierAction → Meaning
  OnCounts : Kind → Action → Meaning

-- a latch has its signal's count and one holder, which is its name
abbrev pub latch_from : ℕ → New
latch_from n = record { signal = n; members = 0; counted = false; sends = false }

-- a group has its members, of which the first handle is one
abbrev pub new_group : New
new_group = record { signal = 0; members = 1; counted = true; sends = false }

-- a shutdown has a sender and a receiver, and a signal that is not set
abbrev pub new_shutdown : New
new_shutdown = record { signal = 1; members = 1; counted = true; sends = true }

-- what each line means
abbrev pub meaning_of : MeetEvent → Meaning
meaning_of (BarNew n) = OnBarriers (at_barriers.Make n)
meaning_of (BarWait b) = OnBarriers (at_barriers.Begin b)
meaning_of (BarPoll f w) = OnBarriers (at_barriers.Poll f w)
meaning_of (BarEnd f) = OnBarriers (at_barriers.End f)
meaning_of (BarDrop b) = OnBarriers (at_barriers.Drop b)
meaning_of (LatNew n) = OnCounts Latches (Make (latch_from n))
meaning_of (LatCount l) = OnCounts Latches (Number l)
meaning_of (LatDown l) = OnCounts Latches (Arrive l 1)
meaning_of (LatArrive l n) = OnCounts Latches (Arrive l n)
meaning_of (LatTry l) = OnCounts Latches (Try l)
meaning_of (LatWait l) = OnCounts Latches (Begin l true)
meaning_of (LatWaito l) = OnCounts Latches (Begin l false)
meaning_of (LatPoll f w) = OnCounts Latches (Poll f w)
meaning_of (LatEnd f) = OnCounts Latches (EndWait f)
meaning_of (LatDrop l) = OnCounts Latches (EndHolder l)
meaning_of WgNew = OnCounts Groups (Make new_group)
meaning_of (WgClone k) = OnCounts Groups (Join k)
meaning_of (WgInto k) = OnCounts Groups (Into k)
meaning_of (WgCopy f) = OnCounts Groups (Copy f)
meaning_of (WgPoll f w) = OnCounts Groups (Poll f w)
meaning_of (WgEnd x) = OnCounts Groups (EndEither x)
meaning_of SdNew = OnCounts Shutdowns (Make new_shutdown)
meaning_of (SdCopys k) = OnCounts Shutdowns (CopySender k)
meaning_of (SdCopyr k) = OnCounts Shutdowns (Join k)
meaning_of (SdSignal k) = OnCounts Shutdowns (Send k)
meaning_of (SdNow k) = OnCounts Shutdowns (Now k)
meaning_of (SdWatch k) = OnCounts Shutdowns (Watch k)
meaning_of (SdIs k) = OnCounts Shutdowns (Begin k true)
meaning_of (SdIso k) = OnCounts Shutdowns (Begin k false)
meaning_of (SdAwait k) = OnCounts Shutdowns (Await k)
meaning_of (SdPoll f w) = OnCounts Shutdowns (Poll f w)
meaning_of (SdEnd f) = OnCounts Shutdowns (EndWait f)
meaning_of (SdEnds k) = OnCounts Shutdowns (EndSender k)
meaning_of (SdEndr k) = OnCounts Shutdowns (EndHolder k)
