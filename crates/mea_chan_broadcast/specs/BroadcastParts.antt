-- broadcast channels as the hall keeps them: what is seen of them, and what they keep to
use Rattle.std.specs.Prelude.{ℕ, ◌≡◌, ◌≤◌, ◌^◌, [], Option, Some}
use Rattle.std.specs.FinMap.{get}
use Rattle.mea_by_name.specs.ByName.{Names, seen, own}
use Rattle.mea_sets.specs.declared.place.Place.{Place}
use Rattle.mea_cores_by_name.specs.SetLinked.{SetLinked, set_names}
use Rattle.mea_chan_model.specs.Broadcasts as model
use Rattle.mea_chan_model.specs.Broadcasts.{Broadcasts, Listener, Hearing}
use Rattle.mea_chan_model.specs.BroadcastValid.{AreKept}
use Rattle.mea_chan_broadcast.specs.declared.broadcast_entry.BroadcastEntry.{BroadcastEntry}
use Rattle.mea_chan_broadcast.specs.declared.listener_entry.ListenerEntry.{ListenerEntry}
use Rattle.mea_chan_broadcast.specs.declared.recv_entry.RecvEntry.{RecvEntry}
use Rattle.mea_chan_broadcast.specs.BroadcastCores.{NamedBroadcast}

-- ---- what is seen of each thing
-- a channel with so many receivers, by its core
abbrev pub core_seen : NamedBroadcast → ℕ → model.Broadcast
core_seen b n = record { kept = b.kept; tail = b.tail; size = b.size; senders = b.senders; receivers = n; waiting = set_names b.waiting }

-- a channel
abbrev pub broadcast_seen : BroadcastEntry → model.Broadcast
broadcast_seen e = core_seen e.core e.receivers

-- a receiver
abbrev pub listener_seen : ListenerEntry → Listener
listener_seen x = record { channel = x.channel; cursor = x.cursor.position; user = x.user }

-- a future
abbrev pub hearing_seen : RecvEntry → Hearing
hearing_seen y = record { receiver = y.receiver; channel = y.channel }

-- all of them
abbrev pub broadcasts_seen : Names BroadcastEntry → Names ℕ → Names ListenerEntry → Names RecvEntry → Broadcasts
broadcasts_seen es ss xs ys = record { channels = seen broadcast_seen es; senders = ss; receivers = seen listener_seen xs; futures = seen hearing_seen ys }

-- ---- what is kept to
-- the channel of a future
abbrev pub of_channel : RecvEntry → ℕ
of_channel y = y.channel

-- the places of the futures of a channel among those who wait
abbrev pub slots_of : ℕ → Names RecvEntry → Names (Option Place)
slots_of o ys = seen (λ (y : RecvEntry). y.wait) (own of_channel o ys)

-- who waits at each channel is who its futures say, and no waker is ready there
pub record AreLinked (es : Names BroadcastEntry) (ys : Names RecvEntry) (next : ℕ) : Type 0 where
  pub linked : (o : ℕ) (e : BroadcastEntry) → get es o ≡ Some e → SetLinked e.core.waiting (slots_of o ys) next
  -- wakers are handed on after each event
  pub quiet : (o : ℕ) (e : BroadcastEntry) → get es o ≡ Some e → e.core.wakes ≡ []

-- what channels, senders, receivers and futures keep to, where the next event has this number or a greater one
pub record AreKeptBroadcasts (es : Names BroadcastEntry) (ss : Names ℕ) (xs : Names ListenerEntry) (ys : Names RecvEntry) (next : ℕ) : Type 0 where
  pub valid : AreKept (broadcasts_seen es ss xs ys) next
  pub links : AreLinked es ys next
  pub low : next ≤ 2 ^ 64
