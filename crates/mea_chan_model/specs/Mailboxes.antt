-- channels for one receiver by name, with the senders and receivers that are of them
use Rattle.std.specs.Prelude.{ℕ, ◌+◌, ◌-◌, ◌==◌, Bool, true, false, List, [], ◌∷◌, ◌++◌, length, Option, Some, None, is_some, option_to_list, not, if◌then◌else◌, refl}
use Rattle.std.specs.Coded.{Coded, code_by, coded×, coded_ℕ, coded_bool, coded_list, coded_option}
use Rattle.std.specs.FinMap.{empty, get, insert, remove}
use Rattle.mea_family.specs.declared.answer.Answer.{Answer}
use Rattle.mea_family.specs.declared.answer.Answer.TheVariants as answers
use Rattle.mea_family.specs.Family.{Outcome, quietly}
use Rattle.mea_base.specs.Totals.{total}
use Rattle.mea_by_name.specs.ByName.{Names, names_code}

-- a channel: its messages that are queued, how many senders it has, whether its receiver has ended, and the waker with
-- which that waits for a message
pub record Mailbox : Type 0 where
  pub queued : List ℕ
  pub senders : ℕ
  pub ended : Bool
  pub waker : Option ℕ

-- a receiver: whose it is, and whether it can be polled. That of a oneshot has to become a future first
pub record Receiver : Type 0 where
  pub channel : ℕ
  pub polls : Bool

-- a sender is known by its channel
pub record Mailboxes : Type 0 where
  pub channels : Names Mailbox
  pub senders : Names ℕ
  pub receivers : Names Receiver

-- no channel, and nothing that is of one
abbrev pub no_mailboxes : Mailboxes
no_mailboxes = record { channels = empty; senders = empty; receivers = empty }

-- ---- what lives
-- whether o is a channel
abbrev pub is_channel : Mailboxes → ℕ → Bool
is_channel h o = is_some (get h.channels o)

-- whether s is a sender
abbrev pub is_sender : Mailboxes → ℕ → Bool
is_sender h s = is_some (get h.senders s)

-- whether a receiver is there
abbrev pub is_there : Mailboxes → ℕ → Bool
is_there h r = is_some (get h.receivers r)

-- whether it can be polled, or cannot
abbrev pub polls_as : Option Receiver → Bool → Bool
polls_as None polls = false
polls_as (Some x) polls = if polls then x.polls else not x.polls

-- whether r is a receiver that can be polled, or that cannot
abbrev pub is_receiver : Mailboxes → ℕ → Bool → Bool
is_receiver h r polls = polls_as (get h.receivers r) polls

-- how many senders a channel has
abbrev pub senders_in : Option Mailbox → ℕ
senders_in None = 0
senders_in (Some c) = c.senders

-- the channel that is named, if it is there
abbrev pub channel_of : Mailboxes → Option ℕ → Option Mailbox
channel_of h None = None
channel_of h (Some o) = get h.channels o

-- how many senders the channel of a sender has
abbrev pub senders_beside : Mailboxes → ℕ → ℕ
senders_beside h s = senders_in (channel_of h (get h.senders s))

-- how many wakers a channel keeps
abbrev pub kept : Mailbox → ℕ
kept c = length (option_to_list c.waker)

-- how many wakers are registered
abbrev pub registered : Mailboxes → ℕ
registered h = total (λ o c. kept c) h.channels

-- the waker that a channel keeps, if it is there and keeps one
abbrev pub waker_in : Option Mailbox → Option ℕ
waker_in None = None
waker_in (Some c) = c.waker

-- the waker that is kept for this receiver, if it is there and there is one
abbrev pub placed_of : Mailboxes → Option Receiver → Option ℕ
placed_of h None = None
placed_of h (Some x) = waker_in (get h.channels x.channel)

-- the waker that is kept for a receiver
abbrev pub placed : Mailboxes → ℕ → Option ℕ
placed h r = placed_of h (get h.receivers r)

-- ---- what the events do
-- a channel with one sender, whose receiver lives, and nothing else
abbrev pub new_mailbox : Mailbox
new_mailbox = record { queued = []; senders = 1; ended = false; waker = None }

-- the channel o is this now
abbrev pub with_channel : Mailboxes → ℕ → Mailbox → Mailboxes
with_channel h o c = record h { channels = insert h.channels o c }

-- its receiver has ended, and no sender is left
abbrev pub is_over : Mailbox → Bool
is_over c = if c.ended then c.senders == 0 else false

-- the channel is this now, or gone where it is over
abbrev pub tidied_channels : Names Mailbox → ℕ → Mailbox → Names Mailbox
tidied_channels cs o c = if is_over c then remove cs o else insert cs o c

-- the same of all: o is this channel now, or gone where that is over
abbrev pub tidied : Mailboxes → ℕ → Mailbox → Mailboxes
tidied h o c = record h { channels = tidied_channels h.channels o c }

-- the wakers that a wake of the receiver makes ready
abbrev pub woken : Mailbox → List ℕ
woken c = option_to_list c.waker

-- a channel is made, with a sender and a receiver, all three named i; whether the receiver can be polled
abbrev pub make : Mailboxes → ℕ → Bool → Outcome Mailboxes
make h i polls = quietly (record {
  channels = insert h.channels i new_mailbox;
  senders = insert h.senders i i;
  receivers = insert h.receivers i (record { channel = i; polls = polls });
}) answers.Made

-- a further sender of o
abbrev pub copy : Mailboxes → ℕ → ℕ → Mailbox → Outcome Mailboxes
copy h i o c = quietly (record h { channels = insert h.channels o (record c { senders = c.senders + 1 }); senders = insert h.senders i o }) answers.Made

-- a message is queued, unless nobody will receive it, and the receiver is woken
abbrev pub with_message : Mailbox → ℕ → Mailbox
with_message c v = if c.ended then c else record c { queued = c.queued ++ v ∷ []; waker = None }

-- what the sender is told: the message comes back where nobody will receive it
abbrev pub sent : Mailbox → ℕ → Answer
sent c v = if c.ended then answers.Closed v else answers.Accepted

-- whom a message wakes: nobody where nobody will receive it
abbrev pub woken_by_send : Mailbox → List ℕ
woken_by_send c = if c.ended then [] else woken c

-- the message v is sent to o
abbrev pub send : Mailboxes → ℕ → ℕ → Mailbox → Outcome Mailboxes
send h o v c = record { hall = with_channel h o (with_message c v); reply = sent c v; wakes = woken_by_send c }

-- no sender is left, and the receiver is woken
abbrev pub without_senders : Mailbox → Mailbox
without_senders c = record c { senders = 0; waker = None }

-- one sender less
abbrev pub less_sender : Mailbox → Mailbox
less_sender c = if c.senders == 1 then without_senders c else record c { senders = c.senders - 1 }

-- whom the end of a sender wakes: the receiver, where it was the last
abbrev pub woken_by_end : Mailbox → List ℕ
woken_by_end c = if c.senders == 1 then woken c else []

-- the sender s is gone
abbrev pub without_sender : Mailboxes → ℕ → Mailboxes
without_sender h s = record h { senders = remove h.senders s }

-- the one sender sends, and is gone
abbrev pub send_last : Mailboxes → ℕ → ℕ → ℕ → Mailbox → Outcome Mailboxes
send_last h s v o c = record { hall = tidied (without_sender h s) o (without_senders (with_message c v)); reply = sent c v; wakes = woken c }

-- the sender s of o ends; with the last one the receiver is woken
abbrev pub end_sender : Mailboxes → ℕ → ℕ → Mailbox → Outcome Mailboxes
end_sender h s o c = record { hall = tidied (without_sender h s) o (less_sender c); reply = answers.Done; wakes = woken_by_end c }

-- the first message is received; where none is queued, one may come while a sender lives
abbrev pub receive_of : Mailboxes → ℕ → Mailbox → List ℕ → Outcome Mailboxes
receive_of h o c [] = quietly h (if c.senders == 0 then answers.Gone else answers.Empty)
receive_of h o c (v ∷ rest) = quietly (with_channel h o (record c { queued = rest })) (answers.Got v)

-- the same, but the receiver waits with its waker where a message may come
abbrev pub poll_of : Mailboxes → ℕ → ℕ → Mailbox → List ℕ → Outcome Mailboxes
poll_of h w o c [] = if c.senders == 0 then quietly h answers.Gone else quietly (with_channel h o (record c { waker = Some w })) answers.Pending
poll_of h w o c (v ∷ rest) = quietly (with_channel h o (record c { queued = rest })) (answers.Got v)

-- the receiver ends: what is queued falls, and its waker does where that falls with it
abbrev pub without_receiver : Bool → Mailbox → Mailbox
without_receiver falls c = record c { queued = []; ended = true; waker = if falls then None else c.waker }

-- the receiver r is gone alone
abbrev pub leaving : Mailboxes → ℕ → Mailboxes
leaving h r = record h { receivers = remove h.receivers r }

-- the receiver of o ends; whether its waker falls with it
abbrev pub end_receiver : Mailboxes → Bool → ℕ → Mailbox → Outcome Mailboxes
end_receiver h falls o c = quietly (tidied h o (without_receiver falls c)) answers.Done

-- the receiver goes on as a future
abbrev pub into_future : Mailboxes → ℕ → ℕ → Receiver → Outcome Mailboxes
into_future h i r x = quietly (record h { receivers = insert (remove h.receivers r) i (record { channel = x.channel; polls = true }) }) answers.Made

-- yes or no is told, and nothing changes
abbrev pub tell : Mailboxes → Bool → Outcome Mailboxes
tell h is = quietly h (if is then answers.Yes else answers.No)

-- whether nothing is queued
abbrev pub is_empty : List ℕ → Bool
is_empty [] = true
is_empty (v ∷ rest) = false

-- ---- codes, by which a proof tells two values apart
-- of a channel
abbrev pub mailbox_code : Coded Mailbox
mailbox_code = code_by (List ℕ × (ℕ × (Bool × Option ℕ))) (coded× (coded_list coded_ℕ) (coded× coded_ℕ (coded× coded_bool (coded_option coded_ℕ)))) (λ c. (c.queued, (c.senders, (c.ended, c.waker)))) (λ p. record { queued = p.0; senders = p.1.0; ended = p.1.1.0; waker = p.1.1.1 }) (λ _. refl)

-- of a receiver
abbrev pub receiver_code : Coded Receiver
receiver_code = code_by (ℕ × Bool) (coded× coded_ℕ coded_bool) (λ x. (x.channel, x.polls)) (λ p. record { channel = p.0; polls = p.1 }) (λ _. refl)

-- of channels by name
abbrev pub mailboxes_code : Coded Mailboxes
mailboxes_code =
    code_by (Names Mailbox × (Names ℕ × Names Receiver)) (coded× (names_code mailbox_code) (coded× (names_code coded_ℕ) (names_code receiver_code)))
    (λ h. (h.channels, (h.senders, h.receivers))) (λ p. record { channels = p.0; senders = p.1.0; receivers = p.1.1 }) (λ _. refl)
