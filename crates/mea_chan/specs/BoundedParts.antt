-- bounded channels as the hall keeps them: what is seen of them, and what they keep to
use Rattle.std.specs.Prelude.{ℕ, ◌≡◌, Bool, true, false, Option, Some, None, IsSome}
use Rattle.std.specs.FinMap.{empty, get, len}
use Rattle.mea_by_name.specs.ByName.{Names, seen}
use Rattle.mea_by_name.specs.HallKept.{HallKept}
use Rattle.mea_sem_core.specs.Acquire.{demand_of}
use Rattle.mea_sem_core.specs.declared.acquire.Acquire.{Acquire}
use Rattle.mea_sem_core.specs.declared.acquire.Acquire.TheVariants as acquire
use Rattle.mea_chan_model.specs.Bounded as model
use Rattle.mea_chan_model.specs.Bounded.{Bounded, Room, BoundedSend}
use Rattle.mea_cores_by_name.specs.Linked.{names_in, Linked}
use Rattle.mea_chan.specs.declared.receiver_entry.ReceiverEntry.{ReceiverEntry}
use Rattle.mea_chan.specs.declared.sender_entry.SenderEntry.{SenderEntry}
use Rattle.mea_chan.specs.BoundedCores.{NamedChannel, KeptSend, as_mailbox}
use Rattle.mea_chan.specs.MailboxParts.{mailboxes_seen, AreKeptMailboxes}

-- ---- what is seen of each thing
abbrev pub room_seen : NamedChannel → Room
room_seen c = record { capacity = c.capacity; queue = names_in c.waiting.queue }

abbrev pub was_polled : Acquire → Bool
was_polled (acquire.New d) = false
was_polled (acquire.Queued d n) = true
was_polled (acquire.Done d) = true
was_polled (acquire.Refused d) = true

abbrev pub value_of : Option ℕ → ℕ
value_of None = 0
value_of (Some v) = v

abbrev pub send_seen : KeptSend → BoundedSend
send_seen x = record { sender = x.sender; channel = x.channel; value = value_of x.value; polled = was_polled x.acquire }

abbrev pub channel_of_sender : SenderEntry → ℕ
channel_of_sender y = y.channel

abbrev pub bounded_seen : Names NamedChannel → Names SenderEntry → Names ReceiverEntry → Names KeptSend → Bounded
bounded_seen cs ss rs xs = record { mail = mailboxes_seen (seen as_mailbox cs) (seen channel_of_sender ss) rs; rooms = seen room_seen cs; sends = seen send_seen xs }

-- ---- what is kept to
-- the places of sends among those that wait
abbrev pub acquires_of : Names KeptSend → Names Acquire
acquires_of xs = seen (λ (x : KeptSend). x.acquire) xs

-- a channel and its sends: those that wait are in its queue, and each asks for one place and has its value until it has
-- its answer
pub record AreLinked (c : NamedChannel) (xs : Names KeptSend) (none : Names ℕ) : Type 0 where
  pub linked : Linked c.waiting.queue c.waiting.granted (acquires_of xs)
  pub valued : (f : ℕ) (x : KeptSend) → get xs f ≡ Some x → IsSome x.value
  pub ones : (f : ℕ) (x : KeptSend) → get xs f ≡ Some x → demand_of x.acquire ≡ 1

-- a sender counts its sends
pub record AreCounted (y : SenderEntry) (xs : Names KeptSend) (none : Names ℕ) : Type 0 where
  pub sends : y.sends ≡ len xs

abbrev pub of_channel : KeptSend → ℕ
of_channel x = x.channel

abbrev pub of_sender : KeptSend → ℕ
of_sender x = x.sender

-- things that are not
abbrev pub itself : ℕ → ℕ
itself n = n

pub record IsKeptBounded (cs : Names NamedChannel) (ss : Names SenderEntry) (rs : Names ReceiverEntry) (xs : Names KeptSend) (next : ℕ) : Type 0 where
  pub mail : AreKeptMailboxes (seen as_mailbox cs) (seen channel_of_sender ss) rs next
  pub linked : HallKept of_channel itself AreLinked (λ c. 0) cs xs empty next
  pub counted : HallKept of_sender itself AreCounted (λ y. y.sends) ss xs empty next
  -- a send is of the channel of its sender
  pub alike : (f : ℕ) (x : KeptSend) (y : SenderEntry) → get xs f ≡ Some x → get ss x.sender ≡ Some y → y.channel ≡ x.channel
