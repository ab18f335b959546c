-- broadcast channels by name, with the senders, receivers and futures that are of them
use Rattle.std.specs.Prelude.{ℕ, zero, suc, ◌+◌, ◌-◌, ◌*◌, ◌==◌, ◌++◌, Bool, false, List, [], ◌∷◌, length, drop, slice_get, nat_lt, nat_le, Option, Some, None, is_some, if◌then◌else◌, refl}
use Rattle.std.specs.Coded.{Coded, code_by, coded×, coded_ℕ, coded_list, coded_option}
use Rattle.std.specs.FinMap.{empty, get, insert, remove}
use Rattle.mea_family.specs.declared.answer.Answer.TheVariants as answers
use Rattle.mea_family.specs.Family.{Outcome, quietly}
use Rattle.mea_by_name.specs.ByName.{Names, names_code}
use Rattle.mea_by_name.specs.NamedQueue as named_queue
use Rattle.mea_by_name.specs.NamedQueue.{Waiting, wakers, registering}

-- a broadcast channel: the messages that are kept, oldest first, how many were ever sent, how many its ring keeps, how many
-- senders and receivers it has, and the wakers that are registered, each with its future's name. That of a future that has
-- ended stays until the next message
pub record Broadcast : Type 0 where
  pub kept : List ℕ
  pub tail : ℕ
  pub size : ℕ
  pub senders : ℕ
  pub receivers : ℕ
  pub waiting : Waiting

-- a receiver: its channel, how many of the messages that were ever sent it has passed, and the future that uses it alone
pub record Listener : Type 0 where
  pub channel : ℕ
  pub cursor : ℕ
  pub user : Option ℕ

-- a future of a receive: its receiver, and that one's channel
pub record Hearing : Type 0 where
  pub receiver : ℕ
  pub channel : ℕ

-- a sender is known by its channel
pub record Broadcasts : Type 0 where
  pub channels : Names Broadcast
  pub senders : Names ℕ
  pub receivers : Names Listener
  pub futures : Names Hearing

-- no broadcast channel
abbrev pub no_broadcasts : Broadcasts
no_broadcasts = record { channels = empty; senders = empty; receivers = empty; futures = empty }

-- ---- what lives
-- whether o is a channel
abbrev pub is_broadcast : Broadcasts → ℕ → Bool
is_broadcast h o = is_some (get h.channels o)

-- whether s is a sender
abbrev pub is_sender : Broadcasts → ℕ → Bool
is_sender h s = is_some (get h.senders s)

-- whether f is a future of a receive
abbrev pub is_hearing : Broadcasts → ℕ → Bool
is_hearing h f = is_some (get h.futures f)

-- who is registered at a channel, in order, each with a waker
abbrev pub waiting_at : Broadcast → Waiting
waiting_at c = c.waiting

-- the channel of a future
abbrev pub of_hearing : Hearing → ℕ
of_hearing y = y.channel

-- how many wakers are registered
abbrev pub registered : Broadcasts → ℕ
registered h = named_queue.registered waiting_at h.channels

-- the waker that is kept for a future
abbrev pub placed : Broadcasts → ℕ → Option ℕ
placed h f = named_queue.placed waiting_at of_hearing h.channels h.futures f

-- how many senders the channel of a sender has, and how many messages it has sent
abbrev pub senders_in : Option Broadcast → ℕ
senders_in None = 0
senders_in (Some c) = c.senders

-- how many messages a channel was ever sent; one that is gone none
abbrev pub tail_in : Option Broadcast → ℕ
tail_in None = 0
tail_in (Some c) = c.tail

-- the channel that is named, if it is there
abbrev pub channel_of : Broadcasts → Option ℕ → Option Broadcast
channel_of h None = None
channel_of h (Some o) = get h.channels o

-- ---- one channel
-- the least power of two that is at least n, from p on, after so many doublings at the most
abbrev pub power_from : ℕ → ℕ → ℕ → ℕ
power_from zero p n = p
power_from (suc k) p n = if nat_le n p then p else power_from k (2 * p) n

-- how many messages a ring keeps that was asked to keep n: the least power of two that is at least n
abbrev pub ring_size : ℕ → ℕ
ring_size n = power_from 63 1 n

-- the last n of them
abbrev pub newest : ℕ → List ℕ → List ℕ
newest n vs = drop (length vs - n) vs

-- the position of the oldest kept message
abbrev pub oldest : Broadcast → ℕ
oldest c = c.tail - length c.kept

-- what stands at a cursor: it is behind the oldest kept message by so many, or a message is there, or none is yet
pub data Stands : Type 0 where
  Behind : ℕ → Stands
  Holds : ℕ → Stands
  AtTail : Stands

-- what is there, by the message at that place, if there is one
abbrev pub stands_at : Option ℕ → Stands
stands_at None = AtTail
stands_at (Some v) = Holds v

-- what stands at a cursor of a channel
abbrev pub stands : Broadcast → ℕ → Stands
stands c cursor = if nat_lt cursor (oldest c) then Behind (oldest c - cursor) else stands_at (slice_get c.kept (cursor - oldest c))

-- a channel with one sender, one receiver and no message
abbrev pub new_broadcast : ℕ → Broadcast
new_broadcast size = record { kept = []; tail = 0; size = size; senders = 1; receivers = 1; waiting = [] }

-- a message is sent, and nobody waits any more
abbrev pub with_message : Broadcast → ℕ → Broadcast
with_message c v = record c { kept = newest c.size (c.kept ++ v ∷ []); tail = c.tail + 1; waiting = [] }

-- a sender less; after the last one nobody waits any more
abbrev pub less_sender : Broadcast → Broadcast
less_sender c = if c.senders == 1 then record c { senders = 0; waiting = [] } else record c { senders = c.senders - 1 }

-- whom the end of a sender wakes: all who wait, where it was the last
abbrev pub woken_by_end : Broadcast → List ℕ
woken_by_end c = if c.senders == 1 then wakers c.waiting else []

-- no sender is left, and no receiver
abbrev pub is_over : Broadcast → Bool
is_over c = if c.senders == 0 then c.receivers == 0 else false

-- ---- what the events do
-- the channel is this now, or gone where it is over
abbrev pub tidied : Names Broadcast → ℕ → Broadcast → Names Broadcast
tidied cs o c = if is_over c then remove cs o else insert cs o c

-- a channel is made, with a sender and a receiver, all three named i
abbrev pub make : Broadcasts → ℕ → ℕ → Outcome Broadcasts
make h i size = quietly (record h {
  channels = insert h.channels i (new_broadcast size);
  senders = insert h.senders i i;
  receivers = insert h.receivers i (record { channel = i; cursor = 0; user = None });
}) answers.Made

-- a further sender of o
abbrev pub copy_sender : Broadcasts → ℕ → ℕ → Broadcast → Outcome Broadcasts
copy_sender h i o c = quietly (record h { channels = insert h.channels o (record c { senders = c.senders + 1 }); senders = insert h.senders i o }) answers.Made

-- the message v is sent to all receivers of o, and all who wait are woken
abbrev pub send : Broadcasts → ℕ → ℕ → Broadcast → Outcome Broadcasts
send h v o c = record { hall = record h { channels = insert h.channels o (with_message c v) }; reply = answers.Done; wakes = wakers c.waiting }

-- a further receiver, with this cursor
abbrev pub join : Broadcasts → ℕ → ℕ → ℕ → Broadcast → Outcome Broadcasts
join h i cursor o c = quietly (record h { channels = insert h.channels o (record c { receivers = c.receivers + 1 }); receivers = insert h.receivers i (record { channel = o; cursor = cursor; user = None }) }) answers.Made

-- a receiver receives
abbrev pub hear : Broadcasts → ℕ → Listener → Broadcast → Stands → Outcome Broadcasts
hear h r x c (Behind k) = quietly (record h { receivers = insert h.receivers r (record x { cursor = oldest c }) }) (answers.Lagged k)
hear h r x c (Holds v) = quietly (record h { receivers = insert h.receivers r (record x { cursor = x.cursor + 1 }) }) (answers.Got v)
hear h r x c AtTail = quietly h (if c.senders == 0 then answers.Gone else answers.Empty)

-- a future that uses it alone is made
abbrev pub begin : Broadcasts → ℕ → ℕ → Listener → Outcome Broadcasts
begin h i r x = quietly (record h { receivers = insert h.receivers r (record x { user = Some i }); futures = insert h.futures i (record { receiver = r; channel = x.channel }) }) answers.Made

-- the future f is gone, and its receiver, which is this now, is free
abbrev pub freed : Broadcasts → ℕ → ℕ → Listener → ℕ → Broadcasts
freed h f r x cursor = record h { receivers = insert h.receivers r (record x { cursor = cursor; user = None }); futures = remove h.futures f }

-- the future f is gone alone
abbrev pub leaving : Broadcasts → ℕ → Broadcasts
leaving h f = record h { futures = remove h.futures f }

-- a future is polled
abbrev pub poll : Broadcasts → ℕ → ℕ → ℕ → Listener → ℕ → Broadcast → Stands → Outcome Broadcasts
poll h f w r x o c (Behind k) = quietly (freed h f r x (oldest c)) (answers.Lagged k)
poll h f w r x o c (Holds v) = quietly (freed h f r x (x.cursor + 1)) (answers.Got v)
poll h f w r x o c AtTail = if c.senders == 0 then quietly (freed h f r x x.cursor) answers.Gone else quietly (record h { channels = insert h.channels o (record c { waiting = registering c.waiting f w }) }) answers.Pending

-- the future f ends before it has heard anything: its receiver is free, and its waker stays
abbrev pub end_future : Broadcasts → ℕ → ℕ → Listener → Outcome Broadcasts
end_future h f r x = quietly (freed h f r x x.cursor) answers.Done

-- the receiver r of o ends
abbrev pub end_receiver : Broadcasts → ℕ → ℕ → Broadcast → Outcome Broadcasts
end_receiver h r o c = quietly (record h { channels = tidied h.channels o (record c { receivers = c.receivers - 1 }); receivers = remove h.receivers r }) answers.Done

-- the sender s of o ends; with the last one all who wait are woken
abbrev pub end_sender : Broadcasts → ℕ → ℕ → Broadcast → Outcome Broadcasts
end_sender h s o c = record { hall = record h { channels = tidied h.channels o (less_sender c); senders = remove h.senders s }; reply = answers.Done; wakes = woken_by_end c }

-- ---- codes, by which a proof tells two values apart
-- of a channel
abbrev pub broadcast_code : Coded Broadcast
broadcast_code = code_by (List ℕ × (ℕ × (ℕ × (ℕ × (ℕ × Waiting))))) (coded× (coded_list coded_ℕ) (coded× coded_ℕ (coded× coded_ℕ (coded× coded_ℕ (coded× coded_ℕ (coded_list (coded× coded_ℕ coded_ℕ)))))))
    (λ c. (c.kept, (c.tail, (c.size, (c.senders, (c.receivers, c.waiting)))))) (λ p. record { kept = p.0; tail = p.1.0; size = p.1.1.0; senders = p.1.1.1.0; receivers = p.1.1.1.1.0; waiting = p.1.1.1.1.1 }) (λ _. refl)

-- of a receiver
abbrev pub listener_code : Coded Listener
listener_code = code_by (ℕ × (ℕ × Option ℕ)) (coded× coded_ℕ (coded× coded_ℕ (coded_option coded_ℕ))) (λ x. (x.channel, (x.cursor, x.user))) (λ p. record { channel = p.0; cursor = p.1.0; user = p.1.1 }) (λ _. refl)

-- of a future
abbrev pub hearing_code : Coded Hearing
hearing_code = code_by (ℕ × ℕ) (coded× coded_ℕ coded_ℕ) (λ y. (y.receiver, y.channel)) (λ p. record { receiver = p.0; channel = p.1 }) (λ _. refl)

-- of broadcast channels by name
abbrev pub broadcasts_code : Coded Broadcasts
broadcasts_code =
    code_by (Names Broadcast × (Names ℕ × (Names Listener × Names Hearing))) (coded× (names_code broadcast_code) (coded× (names_code coded_ℕ) (coded× (names_code listener_code) (names_code hearing_code))))
    (λ h. (h.channels, (h.senders, (h.receivers, h.futures)))) (λ p. record { channels = p.0; senders = p.1.0; receivers = p.1.1.0; futures = p.1.1.1 }) (λ _. refl)
