-- the channel that a hall lends
use Rattle.std.specs.Prelude.{ℕ, ◌≡◌, Some}
use Rattle.std.specs.FinMap.{get}
use Rattle.mea_chan_model.specs.Mailboxes.{Mailboxes}
use Rattle.mea_chan.specs.Cores.{Mailbox}
use Rattle.mea_chan.specs.MailboxParts.{channel_seen}

-- the same messages, as many senders, and the same waker
abbrev pub StandsFor : Mailboxes → ℕ → Mailbox → Type 0
StandsFor h o m = get h.channels o ≡ Some (channel_seen m)
