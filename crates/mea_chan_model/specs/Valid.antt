-- what holds of every hall that events reach
use Rattle.std.specs.Prelude.{ℕ, ◌≡◌, ◌<◌, cond, [], Some}
use Rattle.std.specs.FinMap.{get, len}
use Rattle.mea_by_name.specs.ByName.{own}
use Rattle.mea_chan_model.specs.Mailboxes.{Mailbox, Mailboxes, Receiver}
use Rattle.mea_chan_model.specs.ChanHall.{ChanHall}

-- a channel has as many senders as live, and one receiver until that has ended; while a waker is kept nothing is queued,
-- and a sender lives
pub record AreValid (h : Mailboxes) : Type 0 where
  pub senders : (o : ℕ) (c : Mailbox) → get h.channels o ≡ Some c → c.senders ≡ len (own (λ (o : ℕ). o) o h.senders)
  pub receivers : (o : ℕ) (c : Mailbox) → get h.channels o ≡ Some c → cond c.ended 0 1 ≡ len (own (λ (x : Receiver). x.channel) o h.receivers)
  pub waits : (o : ℕ) (c : Mailbox) (w : ℕ) → get h.channels o ≡ Some c → c.waker ≡ Some w → (c.queued ≡ []) × (0 < c.senders)

-- and so for each kind of channel
pub record AllValid (h : ChanHall) : Type 0 where
  pub unbounded : AreValid h.unbounded
  pub oneshots : AreValid h.oneshots
  pub bounded : AreValid h.bounded.mail
