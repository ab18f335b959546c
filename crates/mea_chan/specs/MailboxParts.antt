-- the channels of one kind as the hall keeps them: what is seen of them, and what they keep to
use Rattle.std.specs.Prelude.{ℕ, ◌≡◌, ◌<◌, cond, [], Some}
use Rattle.std.specs.FinMap.{len}
use Rattle.mea_by_name.specs.ByName.{Names, seen}
use Rattle.mea_by_name.specs.HallKept.{HallKept}
use Rattle.mea_chan_model.specs.Mailboxes as model
use Rattle.mea_chan_model.specs.Mailboxes.{Mailboxes, Receiver}
use Rattle.mea_chan.specs.declared.receiver_entry.ReceiverEntry.{ReceiverEntry}
use Rattle.mea_chan.specs.Cores.{Mailbox}

-- ---- what is seen of each thing
abbrev pub channel_seen : Mailbox → model.Mailbox
channel_seen m = record { queued = m.queued; senders = m.senders; ended = m.ended; waker = m.waker }

abbrev pub receiver_seen : ReceiverEntry → Receiver
receiver_seen x = record { channel = x.channel; polls = x.polls }

abbrev pub mailboxes_seen : Names Mailbox → Names ℕ → Names ReceiverEntry → Mailboxes
mailboxes_seen cs ss rs = record { channels = seen channel_seen cs; senders = ss; receivers = seen receiver_seen rs }

-- ---- what is kept to
-- a channel, its senders and its receivers: of these it has one, until that has ended
pub record AreKept (m : Mailbox) (ss : Names ℕ) (rs : Names ReceiverEntry) : Type 0 where
  pub senders : m.senders ≡ len ss
  pub receivers : cond m.ended 0 1 ≡ len rs
  -- while a waker is kept nothing is queued, and a sender lives
  pub waits : (w : ℕ) → m.waker ≡ Some w → (m.queued ≡ []) × (0 < m.senders)
  -- its wakers are handed on after each event
  pub quiet : m.wakes ≡ []

abbrev pub of_sender : ℕ → ℕ
of_sender o = o

abbrev pub of_receiver : ReceiverEntry → ℕ
of_receiver x = x.channel

abbrev pub AreKeptMailboxes : Names Mailbox → Names ℕ → Names ReceiverEntry → ℕ → Type 0
AreKeptMailboxes cs ss rs next = HallKept of_sender of_receiver AreKept (λ m. 0) cs ss rs next
