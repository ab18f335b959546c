-- what can be done to channels for one receiver by name, of whichever kind: why it is refused, and what it does
use Rattle.std.specs.Prelude.{ℕ, ◌==◌, Bool, true, false, cond, Option, Some, None, if◌then◌else◌}
use Rattle.std.specs.FinMap.{get}
use Rattle.mea_family.specs.declared.stop.Stop.{Stop}
use Rattle.mea_family.specs.declared.stop.Stop.TheVariants as stops
use Rattle.mea_family.specs.Causes.{unknown_unless}
use Rattle.mea_family.specs.Family.{Outcome}
use Rattle.mea_family.specs.Play.{found}
use Rattle.mea_chan_model.specs.Mailboxes as mailboxes
use Rattle.mea_chan_model.specs.Mailboxes.{Mailbox, Mailboxes, is_sender, is_receiver, senders_beside, is_empty}

-- what is done to a channel, or to what is of one
pub data Action : Type 0 where
  -- a channel, with a sender and a receiver: whether that can be polled
  Make : Bool → Action
  -- a further sender, beside this one
  Copy : ℕ → Action
  -- a sender sends, or sends and is gone, or is gone
  Send : ℕ → ℕ → Action
  SendLast : ℕ → ℕ → Action
  EndSender : ℕ → Action
  -- a receiver takes the first message, that can be polled or cannot; one is polled with a waker
  Receive : ℕ → Bool → Action
  Poll : ℕ → ℕ → Action
  -- a receiver is gone: whether it can be polled, and whether its waker falls
  EndReceiver : ℕ → Bool → Bool → Action
  -- a receiver becomes a future
  IntoFuture : ℕ → Action
  -- it is told to a sender whether the receiver has ended, and to a receiver whether no message will come, or one is there
  TellClosed : ℕ → Action
  TellOver : ℕ → Action
  TellMessage : ℕ → Action

-- the most senders that a channel may have
abbrev pub most_senders : ℕ
most_senders = 18446744073709551615

-- why an action is refused; none where it is not
abbrev pub cause_in : Mailboxes → Action → Option Stop
cause_in h (Make polls) = None
cause_in h (Copy s) = if is_sender h s then (if senders_beside h s == most_senders then Some stops.Overflow else None) else Some stops.Unknown
cause_in h (Send s v) = unknown_unless (is_sender h s)
cause_in h (SendLast s v) = unknown_unless (is_sender h s)
cause_in h (EndSender s) = unknown_unless (is_sender h s)
cause_in h (Receive r polls) = unknown_unless (is_receiver h r polls)
cause_in h (Poll r w) = unknown_unless (is_receiver h r true)
cause_in h (EndReceiver r polls falls) = unknown_unless (is_receiver h r polls)
cause_in h (IntoFuture r) = unknown_unless (is_receiver h r false)
cause_in h (TellClosed s) = unknown_unless (is_sender h s)
cause_in h (TellOver r) = unknown_unless (is_receiver h r false)
cause_in h (TellMessage r) = unknown_unless (is_receiver h r false)

-- what is done by a sender, and by a receiver, at its channel
abbrev pub by_sender : Mailboxes → ℕ → (ℕ → Mailbox → Outcome Mailboxes) → Outcome Mailboxes
by_sender h s act = found (get h.senders s) h (λ o. found (get h.channels o) h (act o))

-- the same by a receiver; nothing changes where it or its channel is not there
abbrev pub by_receiver : Mailboxes → ℕ → (ℕ → Mailbox → Outcome Mailboxes) → Outcome Mailboxes
by_receiver h r act = found (get h.receivers r) h (λ x. found (get h.channels x.channel) h (act x.channel))

-- what is done under number i
abbrev pub act_in : Mailboxes → ℕ → Action → Outcome Mailboxes
act_in h i (Make polls) = mailboxes.make h i polls
act_in h i (Copy s) = by_sender h s (mailboxes.copy h i)
act_in h i (Send s v) = by_sender h s (λ o. mailboxes.send h o v)
act_in h i (SendLast s v) = by_sender h s (mailboxes.send_last h s v)
act_in h i (EndSender s) = by_sender h s (mailboxes.end_sender h s)
act_in h i (Receive r polls) = by_receiver h r (λ o c. mailboxes.receive_of h o c c.queued)
act_in h i (Poll r w) = by_receiver h r (λ o c. mailboxes.poll_of h w o c c.queued)
act_in h i (EndReceiver r polls falls) = found (get h.receivers r) h (λ x. found (get h.channels x.channel) (mailboxes.leaving h r) (mailboxes.end_receiver (mailboxes.leaving h r) falls x.channel))
act_in h i (IntoFuture r) = found (get h.receivers r) h (mailboxes.into_future h i r)
act_in h i (TellClosed s) = by_sender h s (λ o c. mailboxes.tell h c.ended)
act_in h i (TellOver r) = by_receiver h r (λ o c. mailboxes.tell h (if c.senders == 0 then is_empty c.queued else false))
act_in h i (TellMessage r) = by_receiver h r (λ o c. mailboxes.tell h (if is_empty c.queued then false else true))

-- the waker with which r is polled, if it is
abbrev pub polled_in : Action → ℕ → Option ℕ
polled_in (Poll q w) r = cond (q == r) (Some w) None
polled_in _ r = None

-- whether r is gone: it ends, or becomes a future
abbrev pub ends_in : Action → ℕ → Bool
ends_in (EndReceiver q polls falls) r = q == r
ends_in (IntoFuture q) r = q == r
ends_in _ r = false

-- whether a waker may be registered
abbrev pub registers_in : Action → Bool
registers_in (Poll r w) = true
registers_in _ = false
