-- what holds of every hall that events reach, where n is the least number of the next event
use Rattle.std.specs.Prelude.{ℕ, ◌*◌, ◌/◌, ◌≡◌, ◌<◌, ◌≤◌, true, [], Some, None, IsSome}
use Rattle.std.specs.FinMap.{get}
use Rattle.mea_by_name.specs.ByName.{Names, own, count, AreHome}
use Rattle.mea_by_name.specs.NamedQueue.{waker_for}
use Rattle.mea_meet_model.specs.Count.{Count}
use Rattle.mea_meet_model.specs.Barriers as barriers
use Rattle.mea_meet_model.specs.Barriers.{Barriers, Barrier, BarrierWait}
use Rattle.mea_meet_model.specs.Counts.{Counts, Point, End, Holder, Wait, Members, count_at, end_of, borrows, things_of, of_itself, of_holder, of_wait}
use Rattle.mea_meet_model.specs.Hall.{Hall}

-- ---- barriers
-- the number of the round under way
abbrev pub round_now : Barrier → ℕ
round_now r = r.arrivals / r.size

-- a barrier, whose futures are of this name, and the futures of all barriers
pub record IsBarrier (b : ℕ) (r : Barrier) (ws : Names BarrierWait) (n : ℕ) : Type 0 where
  pub below : b < n
  pub sized : 1 ≤ r.size
  -- each arrival is an event of its own, after that which made the barrier
  pub few : r.arrivals < n
  -- who has arrived did so in a round that has begun
  pub begun : (f : ℕ) (x : BarrierWait) (round : ℕ) → get ws f ≡ Some x → x.barrier ≡ b → x.round ≡ Some round → round * r.size ≤ r.arrivals
  -- whose waker is registered has a name that was given, and where it lives, it waits there and arrived in the round under
  -- way
  pub named : (f w : ℕ) → waker_for r.waiting f ≡ Some w → f < n
  pub in_round : (f w : ℕ) (x : BarrierWait) → waker_for r.waiting f ≡ Some w → get ws f ≡ Some x → (x.barrier ≡ b) × (x.round ≡ Some (round_now r))

-- all barriers with their futures, each of which is of one that is there
pub record HasBarriers (h : Barriers) (n : ℕ) : Type 0 where
  pub each : (b : ℕ) (r : Barrier) → get h.barriers b ≡ Some r → IsBarrier b r h.waits n
  pub waits : AreHome barriers.of_wait h.barriers h.waits n

-- ---- points that count
-- nobody is registered where the count has ended
abbrev pub IsQuietAtEnd : Count → Type 0
IsQuietAtEnd c = c.number ≡ 0 → c.waiting ≡ []

-- a point with its futures and its holders
pub record IsPoint (r : Point) (ws : Names Wait) (hs : Names Holder) : Type 0 where
  pub quiet : (e : End) → IsQuietAtEnd (count_at e r)
  -- the number of the members is that of the holders that are counted
  pub counted : r.members.number ≡ count (λ (x : Holder). x.counted) hs
  -- a holder that a plain future borrows is there
  pub borrowed : (f k : ℕ) (x : Wait) → get ws f ≡ Some x → borrows x.awaits k ≡ true → IsSome (get hs k)

-- whose waker is registered has a name that was given, and where it lives, it waits there, for that end
pub record AreThere (o : ℕ) (r : Point) (ws : Names Wait) (n : ℕ) : Type 0 where
  pub named : (e : End) (f w : ℕ) → waker_for (count_at e r).waiting f ≡ Some w → f < n
  pub waiting : (e : End) (f w : ℕ) (x : Wait) → waker_for (count_at e r).waiting f ≡ Some w → get ws f ≡ Some x → (x.point ≡ o) × (end_of x.awaits ≡ e)

-- all points of a kind, with what is of them
pub record HasCounts (h : Counts) (n : ℕ) : Type 0 where
  pub each : (o : ℕ) (r : Point) → get h.points o ≡ Some r → IsPoint r (own of_wait o h.waits) (own of_holder o h.holders)
  pub there : (o : ℕ) (r : Point) → get h.points o ≡ Some r → AreThere o r h.waits n
  -- a point that is there has a sender, a holder or a future
  pub live : (o : ℕ) → IsSome (get h.points o) → 0 < things_of h o
  pub below : (o : ℕ) → IsSome (get h.points o) → o < n
  pub senders : AreHome of_itself h.points h.senders n
  pub holders : AreHome of_holder h.points h.holders n
  pub waits : AreHome of_wait h.points h.waits n
  -- no holder has the name of a future
  pub apart : (k : ℕ) → IsSome (get h.holders k) → get h.waits k ≡ None

-- no future borrows
abbrev pub BorrowNothing : Counts → Type 0
BorrowNothing h = (f : ℕ) (x : Wait) → get h.waits f ≡ Some x → x.awaits ≡ Members

-- and so for each kind of meeting points
pub record IsValid (h : Hall) (n : ℕ) : Type 0 where
  pub barriers : HasBarriers h.barriers n
  pub latches : HasCounts h.latches n
  pub groups : HasCounts h.groups n
  -- the futures of a group wait for the end of its handles
  pub members_alone : BorrowNothing h.groups
  pub shutdowns : HasCounts h.shutdowns n
