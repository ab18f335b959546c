-- the sends of bounded channels as a family, and how many of them were granted a place. The law of wakes does not hold of this
-- family: a send may find a place without having been woken
use Rattle.std.specs.Prelude.{ℕ, ◌==◌, Bool, false, cond, not, [], Option, Some, None, if◌then◌else◌}
use Rattle.std.specs.FinMap.{get}
use Rattle.mea_family.specs.Family.{Family}
use Rattle.mea_base.specs.Totals.{total}
use Rattle.mea_by_name.specs.ByName.{Names}
use Rattle.mea_by_name.specs.NamedQueue as named_queue
use Rattle.mea_by_name.specs.NamedQueue.{waits}
use Rattle.mea_by_name.specs.LackingQueue.{Lacking, who}
use Rattle.mea_events.specs.declared.chan_event.ChanEvent.{ChanEvent}
use Rattle.mea_chan_model.specs.Bounded.{Bounded, Room, BoundedSend, is_send, waiting_at}
use Rattle.mea_chan_model.specs.BoundedActions.{BoundedAction, PollSend, EndSend}
use Rattle.mea_chan_model.specs.ChanHall.{ChanHall, empty_hall}
use Rattle.mea_chan_model.specs.Meaning.{Meaning, OfBounded, meaning_of, cause_of, step}

-- those who wait in a room, and for how many messages it has place
abbrev pub queue_in : Option Room → Lacking
queue_in None = []
queue_in (Some r) = r.queue

-- those who wait in the room of o
abbrev pub queue_at : Bounded → ℕ → Lacking
queue_at h o = queue_in (get h.rooms o)

-- for how many messages a room has place; none where it is not there
abbrev pub capacity_in : Option Room → ℕ
capacity_in None = 0
capacity_in (Some r) = r.capacity

-- for how many messages o has place
abbrev pub capacity_at : Bounded → ℕ → ℕ
capacity_at h o = capacity_in (get h.rooms o)

-- a send of o is pending once it was polled, until it has its answer or ends
abbrev pub is_pending_at : ℕ → BoundedSend → Bool
is_pending_at o x = if x.channel == o then x.polled else false

-- one that is pending and does not wait was granted a place
abbrev pub is_granted_at : Lacking → ℕ → ℕ → BoundedSend → Bool
is_granted_at q o f x = if is_pending_at o x then not (waits (who q) f) else false

-- how many there are of each
abbrev pub pending_at : Bounded → ℕ → ℕ
pending_at h o = total (λ f x. cond (is_pending_at o x) 1 0) h.sends

-- how many sends of o were granted a place, by who waits there
abbrev pub granted_of : Lacking → Names BoundedSend → ℕ → ℕ
granted_of q xs o = total (λ f x. cond (is_granted_at q o f x) 1 0) xs

-- the same, by who waits in the room of o
abbrev pub granted_at : Bounded → ℕ → ℕ
granted_at h o = granted_of (queue_at h o) h.sends o

-- the waker with which a send is polled, if it is, and whether it ends
abbrev pub polls_send : BoundedAction → ℕ → Option ℕ
polls_send (PollSend g w) f = cond (g == f) (Some w) None
polls_send _ f = None

-- whether a send ends
abbrev pub ends_send : BoundedAction → ℕ → Bool
ends_send (EndSend g) f = g == f
ends_send _ f = false

-- the waker with which a send is polled by what a line means, if it is
abbrev pub send_polled_by : Meaning → ℕ → Option ℕ
send_polled_by (OfBounded a) f = polls_send a f
send_polled_by _ f = None

-- whether a send ends by what a line means
abbrev pub send_ended_by : Meaning → ℕ → Bool
send_ended_by (OfBounded a) f = ends_send a f
send_ended_by _ f = false

-- the channel of a send
abbrev pub of_channel : BoundedSend → ℕ
of_channel x = x.channel

-- the family of sends
abbrev pub sends_family : Family
sends_family = record {
  Hall = ChanHall;
  Event = ChanEvent;
  Future = ℕ;
  empty = empty_hall;
  cause = cause_of;
  step = step;
  polled = λ e f. send_polled_by (meaning_of e) f;
  ends = λ e f. send_ended_by (meaning_of e) f;
  name = λ f. f;
  lives = λ h f. is_send h.bounded f;
  placed = λ h f. named_queue.placed waiting_at of_channel h.bounded.rooms h.bounded.sends f;
}
