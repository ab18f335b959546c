-- what has happened at a pool, whatever was called in whatever order
use Rattle.std.specs.Prelude.{ℕ, ◌+◌, ◌<◌, ◌≤◌, ◌==◌, ◌++◌, if◌then◌else◌, List, [], ◌∷◌, Some, is_some, Result, Ok}
use Rattle.std.specs.Ordering.{nat_cmp}
use Rattle.std.specs.FinMap as map
use Rattle.mea_base.specs.declared.poll.Poll.{Poll}
use Rattle.mea_base.specs.declared.no_memory.NoMemory.{NoMemory}
use Rattle.mea_lock_core.specs.Condvar.{waker_under}
use Rattle.mea_pool_core.specs.declared.lease_wait.LeaseWait.{LeaseWait}
use Rattle.mea_pool_core.specs.declared.lease_wait.LeaseWait.TheVariants as lease
use Rattle.mea_pool_core.specs.declared.lease_poll.LeasePoll.{LeasePoll}
use Rattle.mea_pool_core.specs.declared.lease_poll.LeasePoll.TheVariants as answer
use Rattle.mea_pool_core.specs.declared.drain_wait.DrainWait.{DrainWait}
use Rattle.mea_pool_core.specs.Shelf.{times}
use Rattle.mea_pool_core.specs.Pool.{Pool, fresh, with_lease, drained}
use Rattle.mea_pool_core.specs.Calls.{Belongs, MayPoll, PollsLease, TriesLease, CancelsLease, MayPollDrain, PollsDrain, MayEndDrain, EndsDrain}

-- the slots of the leases that were got and not put back; how many have asked, by a first poll that was not refused or by a
-- try that got a lease; the number of each that waits, with how many had asked before it, in the order in which they came; and
-- those of all that were granted a place, in the order of grants
pub record History : Type 0 where
  pub out : List ℕ
  pub asked : ℕ
  pub line : List (ℕ × ℕ)
  pub granted : List ℕ

-- nobody has asked
abbrev pub nothing_yet : History
nothing_yet = record { out = []; asked = 0; line = []; granted = [] }

-- the slots without one
abbrev pub without_slot : ℕ → List ℕ → List ℕ
without_slot slot [] = []
without_slot slot (s ∷ slots) = if s == slot then without_slot slot slots else s ∷ without_slot slot slots

-- those of a line that wait still
abbrev pub still_waiting : {W : Type 0} → List (ℕ × W) → List (ℕ × ℕ) → List (ℕ × ℕ)
still_waiting waiting [] = []
still_waiting waiting (e ∷ line) = if is_some (waker_under waiting e.0) then e ∷ still_waiting waiting line else still_waiting waiting line

-- how many had asked before each of those of a line that are granted now
abbrev pub newly_granted : map.FinMap nat_cmp ℕ → List (ℕ × ℕ) → List ℕ
newly_granted granted [] = []
newly_granted granted (e ∷ line) = if is_some (map.get granted e.0) then e.1 ∷ newly_granted granted line else newly_granted granted line

module _ {R W : Type 0} where
  -- after a call that left this pool: those of the line that it has granted, and those that wait still
  abbrev pub heard : Pool R W → History → History
  heard p h = record h { line = still_waiting p.waiting h.line; granted = h.granted ++ newly_granted p.granted h.line }

  -- a first poll that got a lease, or that waits under a number; and a later one
  abbrev pub after_poll : LeaseWait → Result (LeasePoll R) (W × NoMemory) → LeaseWait → History → History
  after_poll lease.New (Ok (answer.Got l)) a' h = record h { out = l.0 ∷ h.out; asked = h.asked + 1; granted = h.granted ++ h.asked ∷ [] }
  after_poll lease.New (Ok answer.Pending) (lease.Queued n) h = record h { asked = h.asked + 1; line = h.line ++ (n, h.asked) ∷ [] }
  after_poll (lease.Queued n) (Ok (answer.Got l)) a' h = record h { out = l.0 ∷ h.out }
  after_poll a r a' h = h

  -- a call takes a pool from one state to another
  pub data Goes (p : Pool R W) (h : History) : Pool R W → History → Type 0 where
    PollLease : (a a' : LeaseWait) (w : W) (r : Result (LeasePoll R) (W × NoMemory)) (p' : Pool R W) → MayPoll p a → PollsLease p a w r p' a' → Goes p h p' (after_poll a r a' h)
    TryLease : (l : ℕ × R) (p' : Pool R W) → TriesLease p (Some l) p' → Goes p h p' (record h { out = l.0 ∷ h.out; asked = h.asked + 1; granted = h.granted ++ h.asked ∷ [] })
    CancelLease : (a : LeaseWait) (p' : Pool R W) → Belongs p a → CancelsLease p a p' → Goes p h p' (heard p' h)
    PutBack : (l : ℕ × R) → 1 ≤ times l.0 h.out → Goes p h (with_lease p l) (heard (with_lease p l) (record h { out = without_slot l.0 h.out }))
    Drain : Goes p h (drained p) (heard (drained p) h)
    PollDrained : (c c' : DrainWait) (w : W) (r : Result (Poll (Unit {0})) (W × NoMemory)) (p' : Pool R W) → MayPollDrain p c → PollsDrain p c w r p' c' → Goes p h p' h
    EndDrain : (c : DrainWait) (p' : Pool R W) → MayEndDrain p c → EndsDrain p c p' → Goes p h p' h
    NextWake : (wakes : List W) → Goes p h (record p { wakes = wakes }) h

  -- a list of calls on a pool that was new, of these resources
  pub data Runs (resources : List R) : Pool R W → History → Type 0 where
    Starts : Runs resources (fresh resources) nothing_yet
    Later : (p p' : Pool R W) (h h' : History) → Runs resources p h → Goes p h p' h' → Runs resources p' h'

  -- a further list of calls
  pub data Further (p : Pool R W) (h : History) : Pool R W → History → Type 0 where
    Here : Further p h p h
    There : (q p' : Pool R W) (k h' : History) → Further p h q k → Goes q k p' h' → Further p h p' h'

-- each number is below all that follow it
abbrev pub AllAbove : ℕ → List ℕ → Type 0
AllAbove n [] = Unit {0}
AllAbove n (m ∷ ms) = (n < m) × AllAbove n ms

-- each number is below all that follow it
abbrev pub IsRising : List ℕ → Type 0
IsRising [] = Unit {0}
IsRising (n ∷ ns) = AllAbove n ns × IsRising ns
