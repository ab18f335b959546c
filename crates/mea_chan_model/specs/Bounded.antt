-- bounded channels by name: mailboxes, each with room for so many messages, and sends that may wait for a place
use Rattle.std.specs.Prelude.{ℕ, ◌+◌, ◌==◌, ◌++◌, Bool, true, false, List, [], ◌∷◌, length, Option, Some, None, is_some, if◌then◌else◌, refl}
use Rattle.std.specs.Coded.{Coded, code_by, coded×, coded_ℕ, coded_bool, coded_list}
use Rattle.std.specs.FinMap.{empty, get, insert, remove, len}
use Rattle.mea_family.specs.declared.answer.Answer.{Answer}
use Rattle.mea_family.specs.declared.answer.Answer.TheVariants as answers
use Rattle.mea_family.specs.Family.{Outcome, quietly}
use Rattle.mea_base.specs.Queue.{lacks, waiting_after}
use Rattle.mea_by_name.specs.ByName.{Names, names_code, own}
use Rattle.mea_by_name.specs.NamedQueue as named_queue
use Rattle.mea_by_name.specs.NamedQueue.{Waiting, waits}
use Rattle.mea_by_name.specs.LackingQueue.{Lacking, who, rewoken, leaving, woken_by}
use Rattle.mea_chan_model.specs.Mailboxes as mailboxes
use Rattle.mea_chan_model.specs.Mailboxes.{Mailbox, Mailboxes, no_mailboxes, mailboxes_code, is_channel}

-- beside the mailbox of a channel: for how many messages it has room, and the sends that wait for a place, in order, each
-- of which lacks one
pub record Room : Type 0 where
  pub capacity : ℕ
  pub queue : Lacking

-- a send: its sender and that one's channel, its value, and whether it was polled. One that was polled and waits no more
-- was granted a place
pub record BoundedSend : Type 0 where
  pub sender : ℕ
  pub channel : ℕ
  pub value : ℕ
  pub polled : Bool

-- bounded channels by name: their mailboxes, their rooms, and the sends of their senders
pub record Bounded : Type 0 where
  pub mail : Mailboxes
  pub rooms : Names Room
  pub sends : Names BoundedSend

-- no bounded channel
abbrev pub no_bounded : Bounded
no_bounded = record { mail = no_mailboxes; rooms = empty; sends = empty }

-- ---- what lives
-- whether f is a send
abbrev pub is_send : Bounded → ℕ → Bool
is_send h f = is_some (get h.sends f)

-- how many sends a sender has
abbrev pub sends_of : Bounded → ℕ → ℕ
sends_of h s = len (own (λ (x : BoundedSend). x.sender) s h.sends)

-- who waits in a room, in order, each with its waker
abbrev pub waiting_at : Room → Waiting
waiting_at r = who r.queue

-- how many wakers are registered: those of receivers, and those of sends that wait
abbrev pub registered : Bounded → ℕ
registered h = mailboxes.registered h.mail + named_queue.registered waiting_at h.rooms

-- whether a channel whose receiver lives has no place
abbrev pub is_full_in : Option Mailbox → Option Room → Bool
is_full_in None r = false
is_full_in (Some c) None = false
is_full_in (Some c) (Some r) = if c.ended then false else length c.queued == r.capacity

-- the same of the channel o
abbrev pub is_full : Bounded → ℕ → Bool
is_full h o = is_full_in (get h.mail.channels o) (get h.rooms o)

-- ---- what becomes of the rooms
-- the room of o, where it is there, is changed so
abbrev pub at_room_in : Names Room → ℕ → (Room → Room) → Option Room → Names Room
at_room_in rs o change None = rs
at_room_in rs o change (Some r) = insert rs o (change r)

-- the same, by the room that o has
abbrev pub at_room : Names Room → ℕ → (Room → Room) → Names Room
at_room rs o change = at_room_in rs o change (get rs o)

-- the wakers that a change of a room makes ready
abbrev pub woken_in : Option Room → (Room → List ℕ) → List ℕ
woken_in None woken = []
woken_in (Some r) woken = woken r

-- the same, by the room that o has
abbrev pub woken_at : Names Room → ℕ → (Room → List ℕ) → List ℕ
woken_at rs o woken = woken_in (get rs o) woken

-- n of those who wait are granted a place, the first first
abbrev pub granted : ℕ → Room → Room
granted n r = record r { queue = waiting_after r.queue n }

-- their wakers
abbrev pub woken_by_grant : ℕ → Room → List ℕ
woken_by_grant n r = woken_by r.queue n

-- all who wait are
abbrev pub all_granted : Room → Room
all_granted r = granted (lacks r.queue) r

-- their wakers
abbrev pub all_woken : Room → List ℕ
all_woken r = woken_by_grant (lacks r.queue) r

-- f waits on with this waker, or goes to the end of the queue
abbrev pub joined : ℕ → ℕ → Room → Room
joined f w r = if waits (waiting_at r) f then record r { queue = rewoken r.queue f w } else record r { queue = r.queue ++ ((f, w), 1) ∷ [] }

-- f leaves the queue, if it is there
abbrev pub left_by : ℕ → Room → Room
left_by f r = if waits (waiting_at r) f then record r { queue = leaving r.queue f } else r

-- ---- what the events do
-- something was done to the mailboxes alone
abbrev pub in_mail : Bounded → Outcome Mailboxes → Outcome Bounded
in_mail h out = record { hall = record h { mail = out.hall }; reply = out.reply; wakes = out.wakes }

-- a channel was made, with room for n messages
abbrev pub with_room : Bounded → ℕ → ℕ → Outcome Mailboxes → Outcome Bounded
with_room h i n out = record { hall = record h { mail = out.hall; rooms = insert h.rooms i (record { capacity = n; queue = [] }) }; reply = out.reply; wakes = out.wakes }

-- a send of a sender of o
abbrev pub begin : Bounded → ℕ → ℕ → ℕ → ℕ → Outcome Bounded
begin h i s v o = quietly (record h { sends = insert h.sends i (record { sender = s; channel = o; value = v; polled = false }) }) answers.Made

-- a send had its answer, and is gone; a place that it was granted is lost
abbrev pub answered : Bounded → ℕ → BoundedSend → Outcome Mailboxes → Outcome Bounded
answered h f x out = record { hall = record { mail = out.hall; rooms = at_room h.rooms x.channel (left_by f); sends = remove h.sends f }; reply = out.reply; wakes = out.wakes }

-- a send finds no place
abbrev pub pends : Bounded → ℕ → ℕ → BoundedSend → Outcome Bounded
pends h f w x = quietly (record h { rooms = at_room h.rooms x.channel (joined f w); sends = insert h.sends f (record x { polled = true }) }) answers.Pending

-- a send ends: it leaves the queue, or the place that it was granted goes to the first who waits
abbrev pub end_in : Bounded → ℕ → BoundedSend → Room → Outcome Bounded
end_in h f x r =
    if waits (waiting_at r) f then quietly (record h { rooms = insert h.rooms x.channel (record r { queue = leaving r.queue f }); sends = remove h.sends f }) answers.Done
    else if x.polled then record { hall = record h { rooms = insert h.rooms x.channel (granted 1 r); sends = remove h.sends f }; reply = answers.Done; wakes = woken_by_grant 1 r }
    else quietly (record h { sends = remove h.sends f }) answers.Done

-- the same, where the channel may be gone: then the send is gone alone
abbrev pub end_send : Bounded → ℕ → BoundedSend → Option Room → Outcome Bounded
end_send h f x None = quietly (record h { sends = remove h.sends f }) answers.Done
end_send h f x (Some r) = end_in h f x r

-- whether a message was received
abbrev pub is_got : Answer → Bool
is_got (answers.Got v) = true
is_got _ = false

-- at o a message was received: its place goes to the first who waits
abbrev pub received : Bounded → ℕ → Outcome Mailboxes → Outcome Bounded
received h o out =
    if is_got out.reply then record { hall = record h { mail = out.hall; rooms = at_room h.rooms o (granted 1) }; reply = out.reply; wakes = out.wakes ++ woken_at h.rooms o (woken_by_grant 1) }
    else in_mail h out

-- the room of a channel that is gone is gone
abbrev pub tidied_rooms : Names Room → ℕ → Bool → Names Room
tidied_rooms rs o there = if there then rs else remove rs o

-- a sender of o ended
abbrev pub sender_ended : Bounded → ℕ → Outcome Mailboxes → Outcome Bounded
sender_ended h o out = record { hall = record h { mail = out.hall; rooms = tidied_rooms h.rooms o (is_channel out.hall o) }; reply = out.reply; wakes = out.wakes }

-- the receiver of o ended: all who wait are granted a place
abbrev pub receiver_ended : Bounded → ℕ → Outcome Mailboxes → Outcome Bounded
receiver_ended h o out = record {
  hall = record h { mail = out.hall; rooms = tidied_rooms (at_room h.rooms o all_granted) o (is_channel out.hall o) };
  reply = out.reply;
  wakes = out.wakes ++ woken_at h.rooms o all_woken;
}

-- ---- codes, by which a proof tells two values apart
-- of a room
abbrev pub room_code : Coded Room
room_code = code_by (ℕ × Lacking) (coded× coded_ℕ (coded_list (coded× (coded× coded_ℕ coded_ℕ) coded_ℕ))) (λ r. (r.capacity, r.queue)) (λ p. record { capacity = p.0; queue = p.1 }) (λ _. refl)

-- of a send
abbrev pub send_code : Coded BoundedSend
send_code = code_by (ℕ × (ℕ × (ℕ × Bool))) (coded× coded_ℕ (coded× coded_ℕ (coded× coded_ℕ coded_bool))) (λ x. (x.sender, (x.channel, (x.value, x.polled)))) (λ p. record { sender = p.0; channel = p.1.0; value = p.1.1.0; polled = p.1.1.1 }) (λ _. refl)

-- of bounded channels by name
abbrev pub bounded_code : Coded Bounded
bounded_code =
    code_by (Mailboxes × (Names Room × Names BoundedSend)) (coded× mailboxes_code (coded× (names_code room_code) (names_code send_code)))
    (λ h. (h.mail, (h.rooms, h.sends))) (λ p. record { mail = p.0; rooms = p.1.0; sends = p.1.1 }) (λ _. refl)
