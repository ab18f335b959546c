-- what was accepted, received and dropped at each channel, as replies tell it
use Rattle.std.specs.Prelude.{ℕ, ◌==◌, ◌++◌, true, false, cond, List, [], ◌∷◌, Option, Some, None}
use Rattle.std.specs.FinMap.{get}
use Rattle.mea_family.specs.declared.answer.Answer.{Answer}
use Rattle.mea_family.specs.declared.answer.Answer.TheVariants as answers
use Rattle.mea_family.specs.Family.{ToldEvent}
use Rattle.mea_events.specs.declared.chan_event.ChanEvent.{ChanEvent}
use Rattle.mea_chan_model.specs.Mailboxes.{Mailbox, Mailboxes, Receiver}
use Rattle.mea_chan_model.specs.MailboxActions.{Action, Send, SendLast, Receive, Poll, EndReceiver}
use Rattle.mea_chan_model.specs.Bounded.{Bounded, BoundedSend}
use Rattle.mea_chan_model.specs.declared.bounded_action.BoundedAction.TheVariants as bounded_actions
use Rattle.mea_chan_model.specs.BoundedActions.{BoundedAction, TrySend, PollSend, TryReceive, PollReceive}
use Rattle.mea_chan_model.specs.ChanHall.{ChanHall, Unbounded, Oneshots, ReceiverKind, ReceiverOf, ReceiverOfBounded}
use Rattle.mea_chan_model.specs.Meaning.{Meaning, OfChannels, OfBounded, meaning_of}

-- the messages that were accepted, those that were received, and those that fell with the receiver, the oldest first
pub record Moved : Type 0 where
  pub accepted : List ℕ
  pub received : List ℕ
  pub fallen : List ℕ

-- nothing was moved
abbrev pub nothing : Moved
nothing = record { accepted = []; received = []; fallen = [] }

-- what was moved first, and then what was moved after it
abbrev pub then_moved : Moved → Moved → Moved
then_moved m n = record { accepted = m.accepted ++ n.accepted; received = m.received ++ n.received; fallen = m.fallen ++ n.fallen }

-- the messages that are queued; a channel that is gone has none
abbrev pub queued_in : Option Mailbox → List ℕ
queued_in None = []
queued_in (Some c) = c.queued

-- the channel of a receiver, if that is there
abbrev pub channel_at : Option Receiver → Option ℕ
channel_at None = None
channel_at (Some x) = Some x.channel

-- the message v, where the reply says that it was accepted
abbrev pub accepted_by : Answer → ℕ → List ℕ
accepted_by answers.Accepted v = v ∷ []
accepted_by _ v = []

-- the message that the reply gives, if it gives one
abbrev pub received_by : Answer → List ℕ
received_by (answers.Got v) = v ∷ []
received_by _ = []

-- a sender sent v, and had this reply
abbrev pub accepts : ℕ → Answer → Moved
accepts v reply = record { accepted = accepted_by reply v; received = []; fallen = [] }

-- a receiver asked, and had this reply
abbrev pub receives : Answer → Moved
receives reply = record { accepted = []; received = received_by reply; fallen = [] }

-- these messages fell with the receiver
abbrev pub drops : List ℕ → Moved
drops vs = record { accepted = []; received = []; fallen = vs }

-- what was moved at a channel, where o is that channel
abbrev pub if_at : Option ℕ → ℕ → Moved → Moved
if_at None o m = nothing
if_at (Some q) o m = cond (q == o) m nothing

-- what an action that had this reply moved at o
abbrev pub moved_by : Mailboxes → Action → Answer → ℕ → Moved
moved_by h (Send s v) reply o = if_at (get h.senders s) o (accepts v reply)
moved_by h (SendLast s v) reply o = if_at (get h.senders s) o (accepts v reply)
moved_by h (Receive r polls) reply o = if_at (channel_at (get h.receivers r)) o (receives reply)
moved_by h (Poll r w) reply o = if_at (channel_at (get h.receivers r)) o (receives reply)
moved_by h (EndReceiver r polls falls) reply o = if_at (channel_at (get h.receivers r)) o (drops (queued_in (get h.channels o)))
moved_by h _ reply o = nothing

-- a send that was polled, where that is there
abbrev pub moved_by_send : Bounded → Option BoundedSend → Answer → ℕ → Moved
moved_by_send h None reply o = nothing
moved_by_send h (Some x) reply o = if_at (get h.mail.senders x.sender) o (accepts x.value reply)

-- the same of bounded channels
abbrev pub bounded_moved_by : Bounded → BoundedAction → Answer → ℕ → Moved
bounded_moved_by h (TrySend s v) reply o = moved_by h.mail (Send s v) reply o
bounded_moved_by h (PollSend f w) reply o = moved_by_send h (get h.sends f) reply o
bounded_moved_by h (TryReceive r) reply o = moved_by h.mail (Receive r true) reply o
bounded_moved_by h (PollReceive r w) reply o = moved_by h.mail (Poll r w) reply o
bounded_moved_by h (bounded_actions.EndReceiver r) reply o = moved_by h.mail (EndReceiver r true false) reply o
bounded_moved_by h _ reply o = nothing

-- what was moved at the channel o of one kind by what a line means
abbrev pub moved_at : ChanHall → ReceiverKind → Meaning → Answer → ℕ → Moved
moved_at h (ReceiverOf Unbounded) (OfChannels Unbounded a) reply o = moved_by h.unbounded a reply o
moved_at h (ReceiverOf Oneshots) (OfChannels Oneshots a) reply o = moved_by h.oneshots a reply o
moved_at h ReceiverOfBounded (OfBounded a) reply o = bounded_moved_by h.bounded a reply o
moved_at h _ m reply o = nothing

-- all that was moved at the channel o of a kind
abbrev pub moved : ReceiverKind → ℕ → List (ToldEvent ChanHall ChanEvent) → Moved
moved k o [] = nothing
moved k o (t ∷ older) = then_moved (moved k o older) (moved_at t.before k (meaning_of t.event) t.reply o)
