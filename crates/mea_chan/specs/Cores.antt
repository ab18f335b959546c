-- what a hall sees of the core of a channel: that of either kind is seen as a channel that never is full
use Rattle.std.specs.Prelude.{ℕ, ◌≡◌, ◌==◌, ◌++◌, Bool, true, false, not, List, [], ◌∷◌, Some, None, option_to_list, Result, Ok, Err, if◌then◌else◌}
use Rattle.mea_chan_core.specs.declared.errors.TryRecvError.{TryRecvError}
use Rattle.mea_chan_core.specs.declared.errors.TryRecvError.TheVariants as try
use Rattle.mea_chan_core.specs.Mailbox as cores
use Rattle.mea_chan_core.specs.Mailbox.{with_message, recv_answer, after_recv, without_receiver}
use Rattle.mea_chan_core.specs.Oneshot.{Oneshot}

abbrev pub Mailbox : Type 0
Mailbox = cores.Mailbox ℕ ℕ

-- a channel for one message is one that has one sender at the most
abbrev pub of_oneshot : Oneshot ℕ ℕ → Mailbox
of_oneshot o = record { queued = option_to_list o.message; senders = if o.sender then 1 else 0; ended = not o.receiver; waker = o.waker; wakes = option_to_list o.ready }

-- its receiver has ended, and no sender lives
abbrev pub is_over : Mailbox → Bool
is_over m = if m.ended then m.senders == 0 else false

-- whether a message that is sent will be received
abbrev pub sent_answer : Mailbox → Bool
sent_answer m = not m.ended

abbrev pub message_sent : Mailbox → ℕ → Mailbox
message_sent m v = if m.ended then m else with_message m v

-- the one sender sent and is gone, and the receiver was woken
abbrev pub last_sent : Mailbox → ℕ → Mailbox
last_sent m v = record m { queued = if m.ended then m.queued else m.queued ++ v ∷ []; senders = 0; waker = None; wakes = option_to_list m.waker }

-- the receiver has ended, and its waker with it where that falls
abbrev pub receiver_ended : Bool → Mailbox → Mailbox
receiver_ended falls m = record (without_receiver m) { waker = if falls then None else m.waker }

-- a receive answers as a try does, and where a message may come the waker is kept
abbrev pub ReceivesBy : Mailbox → ℕ → Result ℕ TryRecvError → Mailbox → Type 0
ReceivesBy m w (Ok v) m' = m' ≡ after_recv m
ReceivesBy m w (Err try.Disconnected) m' = m' ≡ m
ReceivesBy m w (Err try.Empty) m' = m' ≡ record m { waker = Some w }

abbrev pub Receives : Mailbox → ℕ → Result ℕ TryRecvError → Mailbox → Type 0
Receives m w answer m' = (answer ≡ recv_answer m) × ReceivesBy m w answer m'

abbrev pub is_some_message : List ℕ → Bool
is_some_message [] = false
is_some_message (v ∷ rest) = true

abbrev pub has_message : Mailbox → Bool
has_message m = is_some_message m.queued

abbrev pub no_message_comes : Mailbox → Bool
no_message_comes m = if m.senders == 0 then not (has_message m) else false

-- a channel with a sender and a receiver
abbrev pub new_core : Mailbox
new_core = record { queued = []; senders = 1; ended = false; waker = None; wakes = [] }
