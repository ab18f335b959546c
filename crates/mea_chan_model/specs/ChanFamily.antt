-- channels and boxes as one of the families: its futures are the receivers of channels for one receiver, and the futures of broadcast
-- channels. A send of a bounded channel is none of them: it may find a free place without having been woken
use Rattle.std.specs.Prelude.{ℕ, Bool, false, Option, None}
use Rattle.mea_family.specs.Family.{Family}
use Rattle.mea_events.specs.declared.chan_event.ChanEvent.{ChanEvent}
use Rattle.mea_chan_model.specs.Mailboxes as mailboxes
use Rattle.mea_chan_model.specs.MailboxActions.{Action, polled_in, ends_in}
use Rattle.mea_chan_model.specs.BoundedActions.{BoundedAction, bounded_polled, bounded_ends}
use Rattle.mea_chan_model.specs.Broadcasts as broadcasts
use Rattle.mea_chan_model.specs.BroadcastActions.{broadcast_polled, broadcast_ends}
use Rattle.mea_chan_model.specs.ChanHall.{ChanHall, Kind, Unbounded, Oneshots, ReceiverKind, ReceiverOf, ReceiverOfBounded, empty_hall, mail}
use Rattle.mea_chan_model.specs.Meaning.{Meaning, OfChannels, OfBounded, OfBroadcasts, meaning_of, cause_of, step}

-- a receiver, by the kind of its channel and its name, or a future of a broadcast channel, by its name
pub data Future : Type 0 where
  Receives : ReceiverKind → ℕ → Future
  Hears : ℕ → Future

-- the waker with which an action on channels of a kind polls the receiver r, if it does and that is of the same kind
abbrev pub polled_at : Kind → ReceiverKind → Action → ℕ → Option ℕ
polled_at Unbounded (ReceiverOf Unbounded) a r = polled_in a r
polled_at Oneshots (ReceiverOf Oneshots) a r = polled_in a r
polled_at _ _ a r = None

-- the same of an action on bounded channels
abbrev pub polled_at_bounded : ReceiverKind → BoundedAction → ℕ → Option ℕ
polled_at_bounded ReceiverOfBounded a r = bounded_polled a r
polled_at_bounded (ReceiverOf k) a r = None

-- the waker with which a receiver is polled by what a line means, if it is
abbrev pub receiver_polled_by : Meaning → ReceiverKind → ℕ → Option ℕ
receiver_polled_by (OfChannels k a) j r = polled_at k j a r
receiver_polled_by (OfBounded a) j r = polled_at_bounded j a r
receiver_polled_by _ j r = None

-- the same of a future of a broadcast channel
abbrev pub hearing_polled_by : Meaning → ℕ → Option ℕ
hearing_polled_by (OfBroadcasts a) f = broadcast_polled a f
hearing_polled_by _ f = None

-- the same of either
abbrev pub polled_by : Meaning → Future → Option ℕ
polled_by m (Receives j r) = receiver_polled_by m j r
polled_by m (Hears f) = hearing_polled_by m f

-- the waker with which an event polls a receiver or a future, if it does
abbrev pub polled : ChanEvent → Future → Option ℕ
polled e f = polled_by (meaning_of e) f

-- whether an action on channels of a kind ends the receiver r, which must be of the same kind
abbrev pub ends_at : Kind → ReceiverKind → Action → ℕ → Bool
ends_at Unbounded (ReceiverOf Unbounded) a r = ends_in a r
ends_at Oneshots (ReceiverOf Oneshots) a r = ends_in a r
ends_at _ _ a r = false

-- the same of an action on bounded channels
abbrev pub ends_at_bounded : ReceiverKind → BoundedAction → ℕ → Bool
ends_at_bounded ReceiverOfBounded a r = bounded_ends a r
ends_at_bounded (ReceiverOf k) a r = false

-- whether a receiver is gone by what a line means
abbrev pub receiver_ended_by : Meaning → ReceiverKind → ℕ → Bool
receiver_ended_by (OfChannels k a) j r = ends_at k j a r
receiver_ended_by (OfBounded a) j r = ends_at_bounded j a r
receiver_ended_by _ j r = false

-- the same of a future of a broadcast channel
abbrev pub hearing_ended_by : Meaning → ℕ → Bool
hearing_ended_by (OfBroadcasts a) f = broadcast_ends a f
hearing_ended_by _ f = false

-- the same of either
abbrev pub ends_by : Meaning → Future → Bool
ends_by m (Receives j r) = receiver_ended_by m j r
ends_by m (Hears f) = hearing_ended_by m f

-- whether an event ends a receiver or a future, or makes a receiver a future
abbrev pub ends : ChanEvent → Future → Bool
ends e f = ends_by (meaning_of e) f

-- its name, without its kind
abbrev pub name : Future → ℕ
name (Receives j r) = r
name (Hears f) = f

-- whether it is there
abbrev pub lives : ChanHall → Future → Bool
lives h (Receives j r) = mailboxes.is_there (mail h j) r
lives h (Hears f) = broadcasts.is_hearing h.broadcasts f

-- the waker that is kept for a receiver or a future
abbrev pub placed : ChanHall → Future → Option ℕ
placed h (Receives j r) = mailboxes.placed (mail h j) r
placed h (Hears f) = broadcasts.placed h.broadcasts f

-- the family: what the laws of all families are told of channels and boxes
abbrev pub chans_family : Family
chans_family = record { Hall = ChanHall; Event = ChanEvent; Future = Future; empty = empty_hall; cause = cause_of; step = step; polled = polled; ends = ends; name = name; lives = lives; placed = placed }
