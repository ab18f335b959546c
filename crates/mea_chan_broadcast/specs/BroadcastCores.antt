-- what the calls of a broadcast channel's core do, as a hall makes them
use Rattle.std.specs.Prelude.{ℕ, ◌≡◌, ◌+◌, ◌==◌, ◌++◌, Bool, true, false, [], length, map, Option, if◌then◌else◌}
use Rattle.mea_family.specs.declared.answer.Answer.{Answer}
use Rattle.mea_family.specs.declared.answer.Answer.TheVariants as answers
use Rattle.mea_base.specs.Ready.{Waking}
use Rattle.mea_by_name.specs.declared.named_waker.NamedWaker.{NamedWaker}
use Rattle.mea_sets.specs.declared.place.Place.{Place}
use Rattle.mea_sets.specs.WaitSet.{with_waker, slot_after}
use Rattle.mea_broadcast_core.specs.Broadcast as cores
use Rattle.mea_broadcast_core.specs.Broadcast.{oldest}
use Rattle.mea_broadcast_core.specs.Receives.{Found, Behind, Holds, AtTail}
use Rattle.mea_chan_broadcast.specs.declared.broadcast_entry.BroadcastEntry.{BroadcastEntry}

-- a broadcast channel whose wakers carry the names of their futures
abbrev pub NamedBroadcast : Type 0
NamedBroadcast = cores.Broadcast ℕ NamedWaker

-- how many wakers a channel keeps
abbrev pub kept_by : NamedBroadcast → ℕ
kept_by b = length b.waiting.wakers

-- no waker is ready
abbrev pub handed_on : NamedBroadcast → NamedBroadcast
handed_on b = record b { wakes = [] }

-- the core became this; its wakers were handed on, and as many are registered as it keeps
pub record HandsOn (old : BroadcastEntry) (b : NamedBroadcast) (new : BroadcastEntry) (before after : Waking ℕ) : Type 0 where
  pub entry : new ≡ record old { core = handed_on b }
  pub wakers : after.wakers ≡ before.wakers ++ map (λ (k : NamedWaker). k.waker) b.wakes
  pub counted : after.registered + kept_by old.core ≡ before.registered + kept_by b

-- what a receiver is told, where this stands at its cursor, and where the cursor is then
abbrev pub heard_told : NamedBroadcast → Found ℕ → Answer
heard_told b (Behind k) = answers.Lagged k
heard_told b (Holds v) = answers.Got v
heard_told b AtTail = if b.senders == 0 then answers.Gone else answers.Empty

-- where the cursor is then
abbrev pub moved_to : NamedBroadcast → Found ℕ → ℕ → ℕ
moved_to b (Behind k) position = oldest b
moved_to b (Holds v) position = position + 1
moved_to b AtTail position = position

-- a future was polled, and this was told: it has its answer and the channel is as it was, or its waker is registered
abbrev pub PollsAtTail : Bool → NamedBroadcast → ℕ → Option Place → NamedWaker → Answer → NamedBroadcast → ℕ → Option Place → Type 0
PollsAtTail true b position slot k answer b' after slot' = (answer ≡ answers.Gone) × (b' ≡ b) × (after ≡ position)
PollsAtTail false b position slot k answer b' after slot' = (answer ≡ answers.Pending) × (b' ≡ record b { waiting = with_waker b.waiting slot k }) × (after ≡ position) × (slot' ≡ slot_after b.waiting slot)

-- the same, by what stands at the cursor
abbrev pub Polls : NamedBroadcast → Found ℕ → ℕ → Option Place → NamedWaker → Answer → NamedBroadcast → ℕ → Option Place → Type 0
Polls b (Behind m) position slot k answer b' after slot' = (answer ≡ answers.Lagged m) × (b' ≡ b) × (after ≡ oldest b)
Polls b (Holds v) position slot k answer b' after slot' = (answer ≡ answers.Got v) × (b' ≡ b) × (after ≡ position + 1)
Polls b AtTail position slot k answer b' after slot' = PollsAtTail (b.senders == 0) b position slot k answer b' after slot'

-- and the registered wakers were counted
pub record IsPolled (old : NamedBroadcast) (found : Found ℕ) (position : ℕ) (slot : Option Place) (k : NamedWaker) (answer : Answer) (new : NamedBroadcast) (after_position : ℕ) (after_slot : Option Place) (before after : Waking ℕ) : Type 0 where
  pub polls : Polls old found position slot k answer new after_position after_slot
  pub wakers : after.wakers ≡ before.wakers
  pub counted : after.registered + kept_by old ≡ before.registered + kept_by new
