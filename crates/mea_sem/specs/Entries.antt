-- what a poll and an end do to what is kept of a semaphore
use Rattle.std.specs.Prelude.{ℕ, ◌≡◌, ◌+◌, ◌-◌, ◌≤◌, ◌<◌, ◌++◌, Bool, false, cond, List, [], Some, length, if◌then◌else◌}
use Rattle.std.specs.FinMap as map
use Rattle.mea_base.specs.Queue.{granted_in}
use Rattle.mea_sem_core.specs.declared.acquire.Acquire.{Acquire}
use Rattle.mea_sem_core.specs.declared.acquire.Acquire.TheVariants.{New, Queued, Done, Refused}
use Rattle.mea_family.specs.declared.ledger.Ledger.{Ledger}
use Rattle.mea_sem_core.specs.Core.{Core, poured, wakers_of, waiters_of, waiting, debts, held_of, paid_of}
use Rattle.mea_sem_core.specs.Calls.{IsCutAs, with_waker, without_acquire}
use Rattle.mea_sem.specs.declared.entries.SemaphoreEntry.{SemaphoreEntry}
use Rattle.mea_sem.specs.declared.entries.EndedEntry.{EndedEntry}

-- the next poll of the acquire is ready, and was not before
abbrev pub IsReady : Core ℕ → Acquire → Type 0
IsReady c (New d) = (c.closed ≡ false) × (d ≤ c.free)
IsReady c (Queued d n) = map.get c.granted n ≡ Some d
IsReady c (Done d) = ⊥
IsReady c (Refused d) = ⊥

-- the next poll of the acquire is pending
abbrev pub Waits : Core ℕ → Acquire → Type 0
Waits c (New d) = (c.closed ≡ false) × (c.free < d)
Waits c (Queued d n) = (lack : ℕ) × (waiting c.queue n ≡ Some (d, lack))
Waits c (Done d) = Unit {0}
Waits c (Refused d) = ⊥

-- 1 for an acquire that waits, 0 for one that was granted or cut or was never polled
abbrev pub WaitedFor : Core ℕ → Acquire → ℕ → Type 0
WaitedFor c (New d) waited = waited ≡ 0
WaitedFor c (Queued d n) waited = (map.get c.granted n ≡ Some d → waited ≡ 0) × ((lack : ℕ) → waiting c.queue n ≡ Some (d, lack) → waited ≡ 1) × (IsCutAs c d n → waited ≡ 0)
WaitedFor c (Done d) waited = waited ≡ 0
WaitedFor c (Refused d) waited = waited ≡ 0

-- an acquire that waits is polled again: its waker is another
abbrev pub WaitsOn : SemaphoreEntry → Acquire → ℕ → SemaphoreEntry → Type 0
WaitsOn e (New d) w e' = e' ≡ e
WaitsOn e (Queued d n) w e' = e' ≡ record e { core = record e.core { queue = with_waker e.core.queue n w } }
WaitsOn e (Done d) w e' = e' ≡ e
WaitsOn e (Refused d) w e' = e' ≡ e

-- the core after a poll that is ready
abbrev pub finished : Core ℕ → Acquire → Core ℕ
finished c (New d) = record c { free = c.free - d }
finished c (Queued d n) = record c { granted = map.remove c.granted n }
finished c (Done d) = c
finished c (Refused d) = c

-- the core that gives back n that it has paid, with its wakers handed on
abbrev pub repaid : Core ℕ → ℕ → Core ℕ
repaid c n = record (poured (record c { live = c.live - n }) n) { wakes = [] }

-- n were poured: what the semaphore is now, the wakers that went to the outbox, and how many left the queue
pub record Repays (e e' : SemaphoreEntry) (before after : List ℕ) (c : Core ℕ) (plain : Bool) (n waited left : ℕ) : Type 0 where
  pub is : e' ≡ record e { core = repaid c n; plain = e.plain - cond plain 1 0; things = e.things - 1 }
  pub moved : after ≡ before ++ wakers_of (granted_in c.queue n)
  pub count : left ≡ length (wakers_of (granted_in c.queue n)) + waited

-- a future ends: it was never polled, or was granted, or waits, or was cut
abbrev pub Ends : SemaphoreEntry → Acquire → Bool → SemaphoreEntry → List ℕ → List ℕ → ℕ → Type 0
Ends e (New d) plain e' before after left = (e' ≡ record e { plain = e.plain - cond plain 1 0; things = e.things - 1 }) × (after ≡ before) × (left ≡ 0)
Ends e (Queued d n) plain e' before after left =
    (map.get e.core.granted n ≡ Some d → Repays e e' before after (record e.core { granted = map.remove e.core.granted n }) plain d 0 left)
    × ((lack : ℕ) → waiting e.core.queue n ≡ Some (d, lack) → Repays e e' before after (record e.core { queue = without_acquire e.core.queue n }) plain (d - lack) 1 left)
    × (IsCutAs e.core d n → (e' ≡ record e { core = record e.core { cut = map.remove e.core.cut n }; plain = e.plain - cond plain 1 0; things = e.things - 1 }) × (after ≡ before) × (left ≡ 0))
Ends e (Done d) plain e' before after left = (e' ≡ record e { plain = e.plain - cond plain 1 0; things = e.things - 1 }) × (after ≡ before) × (left ≡ 0)
Ends e (Refused d) plain e' before after left = (e' ≡ record e { plain = e.plain - cond plain 1 0; things = e.things - 1 }) × (after ≡ before) × (left ≡ 0)

-- the wakers that a close makes ready
abbrev pub close_wakes : Core ℕ → List ℕ
close_wakes c = if c.closed then [] else wakers_of (waiters_of c.queue)

-- nothing is left of it but its account
pub record IsOver (e : SemaphoreEntry) : Type 0 where
  pub named : e.named ≡ false
  pub things : e.things ≡ 0
  pub queue : e.core.queue ≡ []

abbrev pub account_of : SemaphoreEntry → ℕ → EndedEntry
account_of e s = record { name = s; free = e.core.free; made = e.made; released = e.released; forgotten = e.forgotten; closed = e.core.closed }

-- the account of a semaphore, by its core
abbrev pub ledger_of_entry : SemaphoreEntry → Ledger
ledger_of_entry e = record { made = e.made; released = e.released; owed = debts e.core.queue; free = e.core.free; held = held_of e.core; paid = paid_of e.core; forgotten = e.forgotten }
