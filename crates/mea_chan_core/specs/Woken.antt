-- which sends are pending on a bounded channel, with which wakers they were last polled, and what was woken since
use Rattle.std.specs.Prelude.{ℕ, ◌≡◌, ◌+◌, ◌-◌, ◌≤◌, ◌==◌, ◌++◌, Bool, true, false, List, [], length, min, Option, Some, None, Result, Ok, Contains, if◌then◌else◌}
use Rattle.std.specs.FinMap as map
use Rattle.mea_base.specs.declared.poll.Poll.TheVariants.{Ready, Pending}
use Rattle.mea_sem_core.specs.Acquire.{demand_of}
use Rattle.mea_sem_core.specs.Core.{IsSound}
use Rattle.mea_sem_core.specs.Calls.{Belongs}
use Rattle.mea_sem_core.specs.declared.acquire.Acquire.{Acquire}
use Rattle.mea_sem_core.specs.declared.acquire.Acquire.TheVariants.{New, Queued, Done, Refused}
use Rattle.mea_chan_core.specs.declared.errors.SendError.{SendError}
use Rattle.mea_chan_core.specs.Channel.{Channel, IsSenders}
use Rattle.mea_chan_core.specs.Bounded.{after_send, after_recv, PollsSend, EndsSend, without_receiver, without_sender}

-- by the number of a pending send: the waker of its last poll, and the wakers that were made ready since
pub record Watch (W : Type 0) : Type 0 where
  pub last : ℕ → Option W
  pub since : ℕ → List W

-- no send is pending
abbrev pub watching_nobody : {W : Type 0} → Watch W
watching_nobody = record { last = λ n. None; since = λ n. [] }

abbrev pub is_under : Acquire → ℕ → Bool
is_under (New demand) n = false
is_under (Queued demand number) n = number == n
is_under (Done demand) n = false
is_under (Refused demand) n = false

module _ {W : Type 0} where
  -- these wakers were made ready
  abbrev pub hearing : Watch W → List W → Watch W
  hearing watch ws = record { last = watch.last; since = λ n. watch.since n ++ ws }

  -- the send with this acquire is pending no more
  abbrev pub without : Watch W → Acquire → Watch W
  without watch a = record { last = λ n. if is_under a n then None else watch.last n; since = watch.since }

  -- the send with this acquire was polled with w, and is pending
  abbrev pub with_poll : Watch W → Acquire → W → Watch W
  with_poll watch a w = record { last = λ n. if is_under a n then Some w else watch.last n; since = λ n. if is_under a n then [] else watch.since n }

module _ {T W : Type 0} where
  -- a call on a channel, and what is watched after it; ws are the wakers that it makes ready. A send that has had its
  -- answer is no pending send, and a poll of it changes nothing
  pub data Sees (c : Channel T W) (watch : Watch W) : Channel T W → Watch W → Type 0 where
    Sent : (v : T) (ws : List W) → (after_send c v).wakes ≡ c.wakes ++ ws → Sees c watch (after_send c v) (hearing watch ws)
    Pends : (v : T) (value' : Option T) (acquire acquire' : Acquire) (w : W) (c' : Channel T W) → Belongs c.waiting acquire → demand_of acquire ≡ 1
        → PollsSend c (Some v) acquire w (Ok Pending) c' value' acquire' → Sees c watch c' (with_poll (without watch acquire) acquire' w)
    Answers : (v : T) (value' : Option T) (acquire acquire' : Acquire) (w : W) (answer : Result (Unit {0}) (SendError T)) (c' : Channel T W) (ws : List W) → Belongs c.waiting acquire → demand_of acquire ≡ 1
        → PollsSend c (Some v) acquire w (Ok (Ready answer)) c' value' acquire' → c'.wakes ≡ c.wakes ++ ws → Sees c watch c' (hearing (without watch acquire) ws)
    Ends : (acquire : Acquire) (c' : Channel T W) (ws : List W) → Belongs c.waiting acquire → demand_of acquire ≡ 1
        → EndsSend c acquire c' → c'.wakes ≡ c.wakes ++ ws → Sees c watch c' (hearing (without watch acquire) ws)
    Receives : (ws : List W) → (after_recv c).wakes ≡ c.wakes ++ ws → Sees c watch (after_recv c) (hearing watch ws)
    Waits : (w : W) → c.queued ≡ [] → Sees c watch (record c { waker = Some w }) watch
    Adds : Sees c watch (record c { senders = c.senders + 1 }) watch
    Leaves : (ws : List W) → (without_sender c).wakes ≡ c.wakes ++ ws → Sees c watch (without_sender c) (hearing watch ws)
    Shuts : (ws : List W) → c.ended ≡ false → (without_receiver c).wakes ≡ c.wakes ++ ws → Sees c watch (without_receiver c) (hearing watch ws)
    Takes : (wakes : List W) → Sees c watch (record c { wakes = wakes }) watch

  -- what a core is at each point
  pub record IsChannel (c : Channel T W) : Type 0 where
    pub sound : IsSound c.waiting
    pub senders : IsSenders c.waiting
    pub fits : length c.queued ≤ c.capacity

  -- a list of calls on a channel that was new
  pub data Watched : Channel T W → Watch W → Type 0 where
    Fresh : (c : Channel T W) → c.waiting.queue ≡ [] → c.waiting.granted ≡ map.empty → c.ended ≡ false → IsChannel c → Watched c watching_nobody
    Later : (c c' : Channel T W) (watch watch' : Watch W) → Watched c watch → Sees c watch c' watch' → IsChannel c' → Watched c' watch'

  -- how many sends are pending, and how many of them were granted a place
  abbrev pub pending : Channel T W → ℕ
  pending c = length c.waiting.queue + map.len c.waiting.granted

  -- each send that was granted has had the waker of its last poll woken since, and these are enough for the free places
  pub record EnoughWoken (c : Channel T W) (watch : Watch W) : Type 0 where
    pub woken : (n d : ℕ) → map.get c.waiting.granted n ≡ Some d → (w : W) × (watch.last n ≡ Some w) × Contains (watch.since n) w
    pub enough : c.ended ≡ false → min (c.capacity - length c.queued) (pending c) ≤ map.len c.waiting.granted
    pub all : c.ended ≡ true → pending c ≡ map.len c.waiting.granted
