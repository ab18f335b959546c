-- the channel beside the list of all messages that were ever sent, and a receiver's way through that list
use Rattle.std.specs.Prelude.{ℕ, ◌≡◌, ◌+◌, ◌-◌, ◌≤◌, ◌++◌, List, [], ◌∷◌, Option, Some, Result, Ok, Err, length, slice_get}
use Rattle.circular_buffer.specs.Buffer.{keep_last}
use Rattle.mea_base.specs.declared.no_memory.NoMemory as memory
use Rattle.mea_sets.specs.Poll.{Ready, Pending}
use Rattle.mea_sets.specs.declared.place.Place.{Place}
use Rattle.mea_broadcast_core.specs.declared.errors.BroadcastTry.{BroadcastTry}
use Rattle.mea_broadcast_core.specs.declared.errors.BroadcastTry.TheVariants as try
use Rattle.mea_broadcast_core.specs.declared.errors.BroadcastRecv.{BroadcastRecv}
use Rattle.mea_broadcast_core.specs.declared.errors.BroadcastRecv.TheVariants as recv
use Rattle.mea_broadcast_core.specs.Broadcast.{Broadcast, after_send, without_sender}
use Rattle.mea_broadcast_core.specs.Receives.{PollAnswer, found, Receives, PollsRecv}

-- what a receiver hears: a message, or that it has missed so many
pub data Heard (T : Type 0) : Type 0 where
  Message : T → Heard T
  Missed : ℕ → Heard T

module _ {T : Type 0} where
  -- what a receive hears by its answer, and a poll by its
  abbrev pub heard_by : Result T BroadcastTry → List (Heard T)
  heard_by (Ok v) = Message v ∷ []
  heard_by (Err (try.Lagged k)) = Missed k ∷ []
  heard_by (Err try.Empty) = []
  heard_by (Err try.Disconnected) = []
  heard_by (Err try.NoMemory) = []

  abbrev pub heard_ready : Result T BroadcastRecv → List (Heard T)
  heard_ready (Ok v) = Message v ∷ []
  heard_ready (Err (recv.Lagged k)) = Missed k ∷ []
  heard_ready (Err recv.Disconnected) = []

  abbrev pub heard_at : {W : Type 0} → PollAnswer T W → List (Heard T)
  heard_at (Ok (Ready answer)) = heard_ready answer
  heard_at (Ok Pending) = []
  heard_at (Err e) = []

  -- what was heard goes from a position to another, through messages the first of which has the position `start`: each
  -- message that was heard is a clone of the one at the position reached, and a miss passes as many as it tells
  abbrev pub Walks : (T → T → Type 0) → ℕ → List T → ℕ → List (Heard T) → ℕ → Type 0
  Walks clones start all p [] q = p ≡ q
  Walks clones start all p (Message c ∷ heard) q =
      (v : T) × (start ≤ p) × (slice_get all (p - start) ≡ Some v) × clones v c × Walks clones start all (p + 1) heard q
  Walks clones start all p (Missed k ∷ heard) q = Walks clones start all (p + k) heard q

module _ {T W : Type 0} where
  -- the channel stands for all messages that were sent from the position `start` on
  pub record StandsFor (b : Broadcast T W) (start : ℕ) (all : List T) : Type 0 where
    pub kept : b.kept ≡ keep_last b.size all
    pub tail : b.tail ≡ start + length all

  -- a call takes the channel and the cursor of one receiver from one state to another: it sends these messages, and the
  -- receiver hears this. Polls of other receivers are calls too
  pub data Calls (clones : T → T → Type 0) (surely : T → Type 0) (b : Broadcast T W) (p : ℕ) : Broadcast T W → ℕ → List T → List (Heard T) → Type 0 where
    Send : (v : T) → Calls clones surely b p (after_send b v) p (v ∷ []) []
    TryRecv : (r : Result T BroadcastTry) (p' : ℕ) → Receives clones surely b (found b p) p r p' → Calls clones surely b p b p' [] (heard_by r)
    PollRecv : (slot slot' : Option Place) (w : W) (r : PollAnswer T W) (b' : Broadcast T W) (p' : ℕ)
        → PollsRecv clones surely b (found b p) p slot w r b' p' slot' → Calls clones surely b p b' p' [] (heard_at r)
    OtherPollRecv : (o o' : ℕ) (slot slot' : Option Place) (w : W) (r : PollAnswer T W) (b' : Broadcast T W)
        → PollsRecv clones surely b (found b o) o slot w r b' o' slot' → Calls clones surely b p b' p [] []
    AddSender : Calls clones surely b p (record b { senders = b.senders + 1 }) p [] []
    EndSender : Calls clones surely b p (without_sender b) p [] []
    NextWake : (wakes : List W) → Calls clones surely b p (record b { wakes = wakes }) p [] []

  -- a list of calls: what it sent, and what the receiver heard
  pub data BroadcastRuns (clones : T → T → Type 0) (surely : T → Type 0) (b : Broadcast T W) (p : ℕ) : Broadcast T W → ℕ → List T → List (Heard T) → Type 0 where
    Starts : BroadcastRuns clones surely b p b p [] []
    Goes : (b' b'' : Broadcast T W) (p' p'' : ℕ) (sent sent' : List T) (heard heard' : List (Heard T)) → BroadcastRuns clones surely b p b' p' sent heard
        → Calls clones surely b' p' b'' p'' sent' heard' → BroadcastRuns clones surely b p b'' p'' (sent ++ sent') (heard ++ heard')
