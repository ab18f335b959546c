-- the bounded channel that a hall lends
use Rattle.std.specs.Prelude.{ℕ, ◌≡◌, Some}
use Rattle.std.specs.FinMap.{get, len}
use Rattle.mea_chan_core.specs.Woken.{IsChannel}
use Rattle.mea_chan_model.specs.Bounded.{Bounded}
use Rattle.mea_chan_model.specs.Sends.{granted_at}
use Rattle.mea_chan.specs.BoundedCores.{NamedChannel, as_mailbox}
use Rattle.mea_chan.specs.MailboxParts.{channel_seen}
use Rattle.mea_chan.specs.BoundedParts.{room_seen}

-- the same messages, as many senders, the same waker, room for as many, and the same who wait, with the same wakers in the
-- same order
pub record StandsForBounded (h : Bounded) (o : ℕ) (c : NamedChannel) : Type 0 where
  pub mailbox : get h.mail.channels o ≡ Some (channel_seen (as_mailbox c))
  pub room : get h.rooms o ≡ Some (room_seen c)
  -- as many sends were granted a place and not polled since; that the core is a channel, its call `queue_len` tells
  pub granted : IsChannel c → granted_at h o ≡ len c.waiting.granted
