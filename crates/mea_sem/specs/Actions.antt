-- what is done to one semaphore, and what that leaves
use Rattle.std.specs.Prelude.{ℕ, ◌≡◌, ◌+◌, ◌^◌, ◌≤◌, ◌<◌, ◌⊎◌, true, false, List, [], min, if◌then◌else◌}
use Rattle.mea_base.specs.Queue.{granted_in}
use Rattle.mea_events.specs.declared.sem_event.SemEvent.{SemEvent}
use Rattle.mea_events.specs.declared.sem_event.SemEvent.TheVariants as events
use Rattle.mea_family.specs.declared.answer.Answer.{Answer}
use Rattle.mea_family.specs.declared.answer.Answer.TheVariants as answers
use Rattle.mea_family.specs.declared.stop.Stop.{Stop}
use Rattle.mea_family.specs.declared.stop.Stop.TheVariants as stops
use Rattle.mea_sem_core.specs.Core.{held_of, paid_of, poured, wakers_of, paid_waiting, closed_core}
use Rattle.mea_sem_core.specs.Calls.{forgetting, forgetting_exactly}
use Rattle.mea_sem.specs.declared.actions.Action.{Action}
use Rattle.mea_sem.specs.declared.actions.Action.TheVariants.{Free, Forget, ForgetExact, Release, TryAndForget, EndName, Close, Closed, Ledger}
use Rattle.mea_sem.specs.declared.entries.SemaphoreEntry.{SemaphoreEntry}
use Rattle.mea_sem.specs.Entries.{ledger_of_entry, close_wakes}

-- the event that does it to semaphore s
abbrev pub event_of : Action → ℕ → SemEvent
event_of Free s = events.Free s
event_of (Forget n) s = events.Forget s n
event_of (ForgetExact n) s = events.Forgetx s n
event_of (Release n) s = events.Release s n
event_of (TryAndForget n) s = events.Tryf s n
event_of EndName s = events.Endsem s
event_of Close s = events.Close s
event_of Closed s = events.Closed s
event_of Ledger s = events.Ledger s

-- what it finds of a semaphore that is named
abbrev pub Finds : SemaphoreEntry → Action → Type 0
Finds e (Release n) = e.core.live + n < 2 ^ 64
Finds e EndName = e.plain ≡ 0
Finds e _ = Unit {0}

-- why it is refused though the semaphore is named
abbrev pub Refuses : SemaphoreEntry → Action → Stop → Type 0
Refuses e (ForgetExact n) stop = stop ≡ stops.NoMemory
Refuses e (Release n) stop = (2 ^ 64 ≤ e.core.live + n) × (stop ≡ stops.Overflow)
Refuses e EndName stop = (0 < e.plain) × (stop ≡ stops.Borrowed)
Refuses e _ stop = ⊥

-- n permits of it were forgotten, as far as they were free
abbrev pub with_forgotten : SemaphoreEntry → ℕ → SemaphoreEntry
with_forgotten e n = record e { core = forgetting e.core n; forgotten = e.forgotten + min n e.core.free }

-- what it answers, and what it leaves of the semaphore; its number is that of an event, and so below 2 ^ 64
abbrev pub Acts : SemaphoreEntry → Action → Answer → SemaphoreEntry → Type 0
Acts e Free answer e' = (answer ≡ answers.Free e.core.free) × (e' ≡ e)
Acts e (Forget n) answer e' = (answer ≡ answers.Forgot (min n e.core.free)) × (e' ≡ with_forgotten e n) × (min n e.core.free ≤ e.core.live) × (n < 2 ^ 64)
Acts e (ForgetExact n) answer e' = (answer ≡ answers.Done) × (e' ≡ record e { core = forgetting_exactly e.core n; forgotten = e.forgotten + n }) × (min n e.core.free ≤ e.core.live) × (n < 2 ^ 64)
Acts e (Release n) answer e' = (answer ≡ answers.Done) × (e' ≡ record e { core = record (poured e.core n) { wakes = [] }; released = e.released + n }) × (n < 2 ^ 64)
Acts e (TryAndForget n) answer e' = ((answer ≡ answers.No) × (e' ≡ e) × ((e.core.closed ≡ true) ⊎ (e.core.free < n)))
    ⊎ ((answer ≡ answers.Yes) × (e' ≡ with_forgotten e n) × (min n e.core.free ≤ e.core.live) × (e.core.closed ≡ false) × (n ≤ e.core.free) × (n < 2 ^ 64))
Acts e EndName answer e' = (answer ≡ answers.Done) × (e' ≡ record e { named = false })
Acts e Close answer e' = (answer ≡ answers.Done) × (e' ≡ record e { core = record (closed_core e.core) { wakes = [] } }) × (paid_waiting e.core.queue ≤ e.core.live)
Acts e Closed answer e' = (answer ≡ (if e.core.closed then answers.Yes else answers.No)) × (e' ≡ e)
Acts e Ledger answer e' = (answer ≡ answers.Account (ledger_of_entry e)) × (e' ≡ e) × (e.core.free + held_of e.core + paid_of e.core ≡ e.core.live)

-- the wakers that it makes ready
abbrev pub woken_by : SemaphoreEntry → Action → List ℕ
woken_by e (Release n) = wakers_of (granted_in e.core.queue n)
woken_by e Close = close_wakes e.core
woken_by e _ = []
