-- what can be done to broadcast channels: why it is refused, and what it does
use Rattle.std.specs.Prelude.{ℕ, ◌==◌, Bool, true, false, cond, nat_lt, Option, Some, None, is_some, if◌then◌else◌}
use Rattle.std.specs.FinMap.{get}
use Rattle.mea_family.specs.declared.stop.Stop.{Stop}
use Rattle.mea_family.specs.declared.stop.Stop.TheVariants as stops
use Rattle.mea_family.specs.Causes.{unknown_unless}
use Rattle.mea_family.specs.Family.{Outcome}
use Rattle.mea_family.specs.Play.{found}
use Rattle.mea_chan_model.specs.Broadcasts as broadcasts
use Rattle.mea_chan_model.specs.Broadcasts.{Broadcast, Broadcasts, Listener, is_sender, is_hearing, ring_size, senders_in, tail_in, channel_of, stands}
pub use Rattle.mea_chan_model.specs.declared.broadcast_action.BroadcastAction.{BroadcastAction}
pub use Rattle.mea_chan_model.specs.declared.broadcast_action.BroadcastAction.TheVariants.{Make, CopySender, SendAll, EndSender, Subscribe, Resubscribe, CopyReceiver, Hear, EndReceiver, BeginHear, PollHear, EndHear}

-- the greatest size of a ring, the greatest number of senders, and the last position
abbrev pub most_size : ℕ
most_size = 9223372036854775808

-- the greatest number of senders
abbrev pub most_senders : ℕ
most_senders = 18446744073709551615

-- the last position
abbrev pub last_tail : ℕ
last_tail = 18446744073709551615

-- a receiver that is not there, or that a future uses alone
abbrev pub unusable : Option Listener → Option Stop
unusable None = Some stops.Unknown
unusable (Some x) = if is_some x.user then Some stops.Borrowed else None

-- why an action is refused; none where it is not
abbrev pub broadcast_cause : Broadcasts → BroadcastAction → Option Stop
broadcast_cause h (Make n) = if n == 0 then Some stops.Zero else if nat_lt most_size n then Some stops.Overflow else None
broadcast_cause h (CopySender s) = if is_sender h s then (if senders_in (channel_of h (get h.senders s)) == most_senders then Some stops.Overflow else None) else Some stops.Unknown
broadcast_cause h (SendAll s v) = if is_sender h s then (if tail_in (channel_of h (get h.senders s)) == last_tail then Some stops.Overflow else None) else Some stops.Unknown
broadcast_cause h (EndSender s) = unknown_unless (is_sender h s)
broadcast_cause h (Subscribe s) = unknown_unless (is_sender h s)
broadcast_cause h (Resubscribe r) = unusable (get h.receivers r)
broadcast_cause h (CopyReceiver r) = unusable (get h.receivers r)
broadcast_cause h (Hear r) = unusable (get h.receivers r)
broadcast_cause h (EndReceiver r) = unusable (get h.receivers r)
broadcast_cause h (BeginHear r) = unusable (get h.receivers r)
broadcast_cause h (PollHear f w) = unknown_unless (is_hearing h f)
broadcast_cause h (EndHear f) = unknown_unless (is_hearing h f)

-- what is done at the channel of a sender, of a receiver and of a future
abbrev pub by_sender : Broadcasts → ℕ → (ℕ → Broadcast → Outcome Broadcasts) → Outcome Broadcasts
by_sender h s act = found (get h.senders s) h (λ o. found (get h.channels o) h (act o))

-- the same at the channel of a receiver
abbrev pub by_receiver : Broadcasts → ℕ → (Listener → Broadcast → Outcome Broadcasts) → Outcome Broadcasts
by_receiver h r act = found (get h.receivers r) h (λ x. found (get h.channels x.channel) h (act x))

-- the same for the receiver of a future
abbrev pub by_future : Broadcasts → ℕ → (ℕ → Listener → Outcome Broadcasts) → Outcome Broadcasts
by_future h f act = found (get h.futures f) h (λ y. found (get h.receivers y.receiver) h (act y.receiver))

-- what is done under number i
abbrev pub broadcast_act : Broadcasts → ℕ → BroadcastAction → Outcome Broadcasts
broadcast_act h i (Make n) = broadcasts.make h i (ring_size n)
broadcast_act h i (CopySender s) = by_sender h s (broadcasts.copy_sender h i)
broadcast_act h i (SendAll s v) = by_sender h s (broadcasts.send h v)
broadcast_act h i (EndSender s) = by_sender h s (broadcasts.end_sender h s)
broadcast_act h i (Subscribe s) = by_sender h s (λ o c. broadcasts.join h i c.tail o c)
broadcast_act h i (Resubscribe r) = by_receiver h r (λ x c. broadcasts.join h i c.tail x.channel c)
broadcast_act h i (CopyReceiver r) = by_receiver h r (λ x c. broadcasts.join h i x.cursor x.channel c)
broadcast_act h i (Hear r) = by_receiver h r (λ x c. broadcasts.hear h r x c (stands c x.cursor))
broadcast_act h i (EndReceiver r) = by_receiver h r (λ x c. broadcasts.end_receiver h r x.channel c)
broadcast_act h i (BeginHear r) = found (get h.receivers r) h (broadcasts.begin h i r)
broadcast_act h i (PollHear f w) = by_future h f (λ r x. found (get h.channels x.channel) h (λ c. broadcasts.poll h f w r x x.channel c (stands c x.cursor)))
broadcast_act h i (EndHear f) = found (get h.futures f) h (λ y. found (get h.receivers y.receiver) (broadcasts.leaving h f) (broadcasts.end_future h f y.receiver))

-- the waker with which the future f is polled, if it is, and whether it ends
abbrev pub broadcast_polled : BroadcastAction → ℕ → Option ℕ
broadcast_polled (PollHear g w) f = cond (g == f) (Some w) None
broadcast_polled _ f = None

-- whether the future f ends
abbrev pub broadcast_ends : BroadcastAction → ℕ → Bool
broadcast_ends (EndHear g) f = g == f
broadcast_ends _ f = false

-- whether a waker may be registered
abbrev pub broadcast_registers : BroadcastAction → Bool
broadcast_registers (PollHear f w) = true
broadcast_registers _ = false
