-- what broadcast channels keep to after each event
use Rattle.std.specs.Prelude.{ℕ, ◌≡◌, ◌<◌, ◌≤◌, [], length, Some}
use Rattle.std.specs.FinMap.{get, len}
use Rattle.mea_by_name.specs.ByName.{Names, own, AreHome}
use Rattle.mea_by_name.specs.NamedQueue.{waker_for}
use Rattle.mea_chan_model.specs.Broadcasts.{Broadcast, Broadcasts, Listener, Hearing, of_hearing}

-- whose a receiver is
abbrev pub of_listener : Listener → ℕ
of_listener x = x.channel

-- a sender is known by its channel, so it is that
abbrev pub of_itself : ℕ → ℕ
of_itself o = o

-- the receiver of a future is there and lends to it alone; while the future's waker is registered there is nothing to receive,
-- and a sender lives
pub record Hears (c : Broadcast) (xs : Names Listener) (f : ℕ) (y : Hearing) : Type 0 where
  pub x : Listener
  pub there : get xs y.receiver ≡ Some x
  pub user : x.user ≡ Some f
  pub awake : (w : ℕ) → waker_for c.waiting f ≡ Some w → (x.cursor ≡ c.tail) × (0 < c.senders)

-- a channel with its receivers and futures: it counts them, and none is past the tail
pub record AreHeard (c : Broadcast) (xs : Names Listener) (ys : Names Hearing) : Type 0 where
  pub counted : length c.kept ≤ c.tail
  pub receivers : c.receivers ≡ len xs
  pub cursors : (r : ℕ) (x : Listener) → get xs r ≡ Some x → x.cursor ≤ c.tail
  pub hears : (f : ℕ) (y : Hearing) → get ys f ≡ Some y → Hears c xs f y
  -- after the last sender nobody waits
  pub silent : c.senders ≡ 0 → c.waiting ≡ []

-- what all channels keep to before the event n: each is heard, counts its senders, and is there for what is of it
pub record AreKept (h : Broadcasts) (n : ℕ) : Type 0 where
  pub heard : (o : ℕ) (c : Broadcast) → get h.channels o ≡ Some c → AreHeard c (own of_listener o h.receivers) (own of_hearing o h.futures)
  pub served : (o : ℕ) (c : Broadcast) → get h.channels o ≡ Some c → c.senders ≡ len (own of_itself o h.senders)
  -- names, also those of ended futures whose wakers stay, are below the next number, and so are counts
  pub low : (o : ℕ) (c : Broadcast) → get h.channels o ≡ Some c → (o < n) × (c.receivers ≤ n)
  pub named : (o : ℕ) (c : Broadcast) (f w : ℕ) → get h.channels o ≡ Some c → waker_for c.waiting f ≡ Some w → f < n
  pub receivers : AreHome of_listener h.channels h.receivers n
  pub futures : AreHome of_hearing h.channels h.futures n
  pub senders : AreHome of_itself h.channels h.senders n
