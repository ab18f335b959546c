-- what each line does, and to channels or boxes of which kind
use Rattle.std.specs.Prelude.{ℕ, Bool, true, false, Option, Some, None}
use Rattle.mea_family.specs.declared.stop.Stop.{Stop}
use Rattle.mea_family.specs.Family.{Outcome}
use Rattle.mea_events.specs.declared.chan_event.ChanEvent.{ChanEvent}
use Rattle.mea_events.specs.declared.chan_event.ChanEvent.TheVariants.{MbNew, MbCopy, MbTry, MbSend, MbPoll, MbEnd, MbTryr, MbRecv, MbEnds, MbEndr, BcNew, BcCopys, BcSend, BcSub, BcResub, BcCopyr, BcTry, BcRecv, BcPoll, BcEnd, BcEndr, BcEnds, MuNew, MuCopy, MuSend, MuTryr, MuRecv, MuEnds, MuEndr, OsNew, OsSend, OsEnds, OsClosed, OsClosedr, OsHas, OsTry, OsInto, OsPoll, OsEndr, OsEnd, AbNew, AbSwap, AbStore, AbGet, AbInto, AbDrop, AoNew, AoNone, AoSwap, AoStore, AoClear, AoTake, AoGet, AoInto, AoDrop}
use Rattle.mea_chan_model.specs.Mailboxes.{Mailboxes}
use Rattle.mea_chan_model.specs.MailboxActions.{Action, Make, Copy, Send, SendLast, EndSender, Receive, Poll, EndReceiver, IntoFuture, TellClosed, TellOver, TellMessage, cause_in, act_in, registers_in}
use Rattle.mea_chan_model.specs.Bounded.{Bounded}
use Rattle.mea_chan_model.specs.BoundedActions as bounded
use Rattle.mea_chan_model.specs.BoundedActions.{BoundedAction, bounded_cause, bounded_act, bounded_registers}
use Rattle.mea_chan_model.specs.Broadcasts.{Broadcasts}
use Rattle.mea_chan_model.specs.BroadcastActions as broadcast
use Rattle.mea_chan_model.specs.BroadcastActions.{BroadcastAction, broadcast_cause, broadcast_act, broadcast_registers}
use Rattle.mea_chan_model.specs.Boxes.{Boxes, BoxAction, MakeBox, Swap, Store, Tell, TakeOut, DropBox, box_cause, box_act}
use Rattle.mea_chan_model.specs.ChanHall.{ChanHall, Kind, Unbounded, Oneshots, BoxKind, Full, Optional, part, with_part, boxes_of, with_boxes}

-- the kind of what a line is about, with what is done to it
pub data Meaning : Type 0 where
  OfChannels : Kind → Action → Meaning
  OfBounded : BoundedAction → Meaning
  OfBroadcasts : BroadcastAction → Meaning
  OfBoxes : BoxKind → BoxAction → Meaning

-- the receiver of an unbounded channel can be polled, and its waker outlives it; that of a oneshot has to become a future,
-- and its waker falls with it
abbrev pub meaning_of : ChanEvent → Meaning
meaning_of (MbNew n) = OfBounded (bounded.Make n)
meaning_of (MbCopy s) = OfBounded (bounded.CopySender s)
meaning_of (MbTry s v) = OfBounded (bounded.TrySend s v)
meaning_of (MbSend s v) = OfBounded (bounded.BeginSend s v)
meaning_of (MbPoll f w) = OfBounded (bounded.PollSend f w)
meaning_of (MbEnd f) = OfBounded (bounded.EndSend f)
meaning_of (MbTryr r) = OfBounded (bounded.TryReceive r)
meaning_of (MbRecv r w) = OfBounded (bounded.PollReceive r w)
meaning_of (MbEnds s) = OfBounded (bounded.EndSender s)
meaning_of (MbEndr r) = OfBounded (bounded.EndReceiver r)
meaning_of (BcNew n) = OfBroadcasts (broadcast.Make n)
meaning_of (BcCopys s) = OfBroadcasts (broadcast.CopySender s)
meaning_of (BcSend s v) = OfBroadcasts (broadcast.SendAll s v)
meaning_of (BcSub s) = OfBroadcasts (broadcast.Subscribe s)
meaning_of (BcResub r) = OfBroadcasts (broadcast.Resubscribe r)
meaning_of (BcCopyr r) = OfBroadcasts (broadcast.CopyReceiver r)
meaning_of (BcTry r) = OfBroadcasts (broadcast.Hear r)
meaning_of (BcRecv r) = OfBroadcasts (broadcast.BeginHear r)
meaning_of (BcPoll f w) = OfBroadcasts (broadcast.PollHear f w)
meaning_of (BcEnd f) = OfBroadcasts (broadcast.EndHear f)
meaning_of (BcEndr r) = OfBroadcasts (broadcast.EndReceiver r)
meaning_of (BcEnds s) = OfBroadcasts (broadcast.EndSender s)
meaning_of MuNew = OfChannels Unbounded (Make true)
meaning_of (MuCopy s) = OfChannels Unbounded (Copy s)
meaning_of (MuSend s v) = OfChannels Unbounded (Send s v)
meaning_of (MuTryr r) = OfChannels Unbounded (Receive r true)
meaning_of (MuRecv r w) = OfChannels Unbounded (Poll r w)
meaning_of (MuEnds s) = OfChannels Unbounded (EndSender s)
meaning_of (MuEndr r) = OfChannels Unbounded (EndReceiver r true false)
meaning_of OsNew = OfChannels Oneshots (Make false)
meaning_of (OsSend s v) = OfChannels Oneshots (SendLast s v)
meaning_of (OsEnds s) = OfChannels Oneshots (EndSender s)
meaning_of (OsClosed s) = OfChannels Oneshots (TellClosed s)
meaning_of (OsClosedr r) = OfChannels Oneshots (TellOver r)
meaning_of (OsHas r) = OfChannels Oneshots (TellMessage r)
meaning_of (OsTry r) = OfChannels Oneshots (Receive r false)
meaning_of (OsInto r) = OfChannels Oneshots (IntoFuture r)
meaning_of (OsPoll f w) = OfChannels Oneshots (Poll f w)
meaning_of (OsEndr r) = OfChannels Oneshots (EndReceiver r false true)
meaning_of (OsEnd f) = OfChannels Oneshots (EndReceiver f true true)
meaning_of (AbNew v) = OfBoxes Full (MakeBox (Some v))
meaning_of (AbSwap b v) = OfBoxes Full (Swap b (Some v))
meaning_of (AbStore b v) = OfBoxes Full (Store b (Some v))
meaning_of (AbGet b) = OfBoxes Full (Tell b)
meaning_of (AbInto b) = OfBoxes Full (TakeOut b)
meaning_of (AbDrop b) = OfBoxes Full (DropBox b)
meaning_of (AoNew v) = OfBoxes Optional (MakeBox (Some v))
meaning_of AoNone = OfBoxes Optional (MakeBox None)
meaning_of (AoSwap b v) = OfBoxes Optional (Swap b (Some v))
meaning_of (AoStore b v) = OfBoxes Optional (Store b (Some v))
meaning_of (AoClear b) = OfBoxes Optional (Store b None)
meaning_of (AoTake b) = OfBoxes Optional (Swap b None)
meaning_of (AoGet b) = OfBoxes Optional (Tell b)
meaning_of (AoInto b) = OfBoxes Optional (TakeOut b)
meaning_of (AoDrop b) = OfBoxes Optional (DropBox b)

-- why what a line means is refused; none where it is not
abbrev pub cause_by : ChanHall → Meaning → Option Stop
cause_by h (OfChannels k a) = cause_in (part h k) a
cause_by h (OfBounded a) = bounded_cause h.bounded a
cause_by h (OfBroadcasts a) = broadcast_cause h.broadcasts a
cause_by h (OfBoxes k a) = box_cause (boxes_of h k) a

-- why a line is refused; none where it is not
abbrev pub cause_of : ChanHall → ChanEvent → Option Stop
cause_of h e = cause_by h (meaning_of e)

-- the hall after what was done to the channels, or the boxes, of one kind
abbrev pub in_channels : ChanHall → Kind → Outcome Mailboxes → Outcome ChanHall
in_channels h k o = record { hall = with_part h k o.hall; reply = o.reply; wakes = o.wakes }

-- the same of bounded channels
abbrev pub in_bounded : ChanHall → Outcome Bounded → Outcome ChanHall
in_bounded h o = record { hall = record h { bounded = o.hall }; reply = o.reply; wakes = o.wakes }

-- the same of broadcast channels
abbrev pub in_broadcasts : ChanHall → Outcome Broadcasts → Outcome ChanHall
in_broadcasts h o = record { hall = record h { broadcasts = o.hall }; reply = o.reply; wakes = o.wakes }

-- the same of the boxes of a kind
abbrev pub in_boxes : ChanHall → BoxKind → Outcome Boxes → Outcome ChanHall
in_boxes h k o = record { hall = with_boxes h k o.hall; reply = o.reply; wakes = o.wakes }

-- what follows where what a line means is done under number i
abbrev pub step_by : ChanHall → ℕ → Meaning → Outcome ChanHall
step_by h i (OfChannels k a) = in_channels h k (act_in (part h k) i a)
step_by h i (OfBounded a) = in_bounded h (bounded_act h.bounded i a)
step_by h i (OfBroadcasts a) = in_broadcasts h (broadcast_act h.broadcasts i a)
step_by h i (OfBoxes k a) = in_boxes h k (box_act (boxes_of h k) i a)

-- what follows where line i is played
abbrev pub step : ChanHall → ℕ → ChanEvent → Outcome ChanHall
step h i e = step_by h i (meaning_of e)

-- whether what a line means can register a waker
abbrev pub registers_by : Meaning → Bool
registers_by (OfChannels k a) = registers_in a
registers_by (OfBounded a) = bounded_registers a
registers_by (OfBroadcasts a) = broadcast_registers a
registers_by (OfBoxes k a) = false

-- whether an event can register a waker; a poll alone can
abbrev pub registers : ChanEvent → Bool
registers e = registers_by (meaning_of e)
