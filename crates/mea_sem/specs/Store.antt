-- the hall that what a `SemFamily` keeps stands for
use Rattle.std.specs.Prelude.{ℕ, zero, suc, ◌≡◌, ◌≢◌, ◌<◌, ◌==◌, ◌&&◌, ◌++◌, Bool, true, false, List, [], map, reverse, Option, Some, None, if◌then◌else◌}
use Rattle.std.specs.Ordering.{nat_cmp}
use Rattle.std.specs.FinMap.{FinMap, get, empty, entries}
use Rattle.mea_base.specs.Named.{named}
use Rattle.mea_sem_model.specs.Hall.{Hall, Semaphore, Future, Permit, FutureStage, New, Waiting, Granted, Cut, Who, Waiter, Debt}
use Rattle.mea_sem_core.specs.declared.acquire.Acquire.{Acquire}
use Rattle.mea_sem_core.specs.declared.acquire.Acquire.TheVariants as acquires
use Rattle.mea_sem_core.specs.Acquire.{demand_of}
use Rattle.mea_sem_core.specs.Core as cores
use Rattle.mea_sem_core.specs.Calls.{Belongs}
use Rattle.mea_sem.specs.declared.entries.SemaphoreEntry.{SemaphoreEntry}
use Rattle.mea_sem.specs.declared.entries.EndedEntry.{EndedEntry}
use Rattle.mea_sem.specs.declared.entries.FutureEntry.{FutureEntry}
use Rattle.mea_sem.specs.declared.entries.PermitEntry.{PermitEntry}

-- the semaphores and futures as they are kept, and the permits
pub record Store : Type 0 where
  pub semaphores : FinMap nat_cmp SemaphoreEntry
  pub futures : FinMap nat_cmp FutureEntry
  pub permits : FinMap nat_cmp Permit

abbrev pub permit_of : PermitEntry → Permit
permit_of p = record { semaphore = p.semaphore; size = p.size; plain = p.plain }

-- what the lists of entries of the three maps keep
abbrev pub store_of : List (ℕ × SemaphoreEntry) → List (ℕ × FutureEntry) → List (ℕ × PermitEntry) → Store
store_of ss fs ps = record { semaphores = named (λ s e. e) ss; futures = named (λ f x. x) fs; permits = named (λ p x. permit_of x) ps }

-- a semaphore of which nothing is left but this account
abbrev pub as_ended : EndedEntry → SemaphoreEntry
as_ended x = record {
  core = record { free = x.free; live = x.free; queue = []; granted = empty; cut = empty; closed = x.closed; wakes = [] };
  made = x.made;
  released = x.released;
  forgotten = x.forgotten;
  named = false;
  plain = 0;
  things = 0;
}

-- those of which nothing is left, the last first
abbrev pub ended_of : List EndedEntry → List (ℕ × SemaphoreEntry)
ended_of xs = reverse (map (λ (x : EndedEntry). (x.name, as_ended x)) xs)

-- the semaphores of which something is left, and the others
abbrev pub with_ended : List (ℕ × SemaphoreEntry) → List EndedEntry → List (ℕ × SemaphoreEntry)
with_ended ss xs = ss ++ ended_of xs

-- whether the acquire has this number in its core
abbrev pub is_under : Acquire → ℕ → Bool
is_under (acquires.New demand) n = false
is_under (acquires.Queued demand m) n = m == n
is_under (acquires.Done demand) n = false
is_under (acquires.Refused demand) n = false

-- whether a future has this number in the core of s
abbrev pub has : ℕ → ℕ → Option FutureEntry → Bool
has s n None = false
has s n (Some x) = x.semaphore == s && is_under x.acquire n

-- the name below a bound of the future that has this number in the core of s
abbrev pub name_of : FinMap nat_cmp FutureEntry → ℕ → ℕ → ℕ → ℕ
name_of futures zero s n = 0
name_of futures (suc f) s n = if has s n (get futures f) then f else name_of futures f s n

-- who waits in the core of s, by name
abbrev pub who_of : FinMap nat_cmp FutureEntry → ℕ → ℕ → cores.Waiter ℕ → Who
who_of futures bound s (cores.Acquires number demand waker) = Waiter (name_of futures bound s number)
who_of futures bound s cores.Owes = Debt

abbrev pub queue_of : FinMap nat_cmp FutureEntry → ℕ → ℕ → List (cores.Waiter ℕ × ℕ) → List (Who × ℕ)
queue_of futures bound s q = map (λ (e : cores.Waiter ℕ × ℕ). (who_of futures bound s e.0, e.1)) q

-- a semaphore with this queue
abbrev pub seen_as : SemaphoreEntry → List (Who × ℕ) → Semaphore
seen_as e queue = record { free = e.core.free; queue = queue; made = e.made; released = e.released; forgotten = e.forgotten; named = e.named; closed = e.core.closed }

abbrev pub semaphore_of : FinMap nat_cmp FutureEntry → ℕ → ℕ → SemaphoreEntry → Semaphore
semaphore_of futures bound s e = seen_as e (queue_of futures bound s e.core.queue)

-- a number with a waker waits, one with the demand that it was cut with is cut, and another was granted
abbrev pub stage_under : Option ℕ → Option ℕ → FutureStage
stage_under (Some w) cut = Waiting w
stage_under None (Some demand) = Cut
stage_under None None = Granted

abbrev pub stage_of : Acquire → cores.Core ℕ → FutureStage
stage_of (acquires.New demand) c = New
stage_of (acquires.Queued demand n) c = stage_under (cores.waker_under c.queue n) (get c.cut n)
stage_of (acquires.Done demand) c = New
stage_of (acquires.Refused demand) c = New

-- the core of a semaphore; one with nothing, where there is none
abbrev pub core_in : Option SemaphoreEntry → cores.Core ℕ
core_in None = record { free = 0; live = 0; queue = []; granted = empty; cut = empty; closed = false; wakes = [] }
core_in (Some e) = e.core

-- a future at this stage
abbrev pub at_stage : FutureEntry → FutureStage → Future
at_stage x stage = record { semaphore = x.semaphore; demand = demand_of x.acquire; plain = x.plain; forgets = x.forgets; stage = stage }

abbrev pub future_of : FinMap nat_cmp SemaphoreEntry → FutureEntry → Future
future_of semaphores x = at_stage x (stage_of x.acquire (core_in (get semaphores x.semaphore)))

-- the hall, where all names are below the bound
abbrev pub hall_of : Store → ℕ → Hall
hall_of st bound = record {
  semaphores = named (semaphore_of st.futures bound) (entries st.semaphores);
  futures = named (λ f x. future_of st.semaphores x) (entries st.futures);
  permits = st.permits;
}

-- an acquire that is kept was not ready, and not refused
abbrev pub IsOpen : Acquire → Type 0
IsOpen (acquires.New demand) = Unit {0}
IsOpen (acquires.Queued demand n) = Unit {0}
IsOpen (acquires.Done demand) = ⊥
IsOpen (acquires.Refused demand) = ⊥

-- an acquire that is kept belongs to the core of its semaphore
pub record IsHome (st : Store) (x : FutureEntry) : Type 0 where
  pub entry : SemaphoreEntry
  pub there : get st.semaphores x.semaphore ≡ Some entry
  pub belongs : Belongs entry.core x.acquire
  pub open_still : IsOpen x.acquire

-- the future that has a number in the core of s
pub record IsOwned (st : Store) (s number demand : ℕ) : Type 0 where
  pub name : ℕ
  pub entry : FutureEntry
  pub there : get st.futures name ≡ Some entry
  pub semaphore : entry.semaphore ≡ s
  pub acquire : entry.acquire ≡ acquires.Queued demand number

-- the numbers of a core differ
pub record IsNumbered (c : cores.Core ℕ) : Type 0 where
  pub apart : cores.AreApart c.queue
  pub granted_apart : (n : ℕ) → cores.waiting c.queue n ≢ None → get c.granted n ≡ None
  pub cut_apart : (n : ℕ) → get c.cut n ≢ None → (cores.waiting c.queue n ≡ None) × (get c.granted n ≡ None)
  pub closing : cores.CutsWhereClosed c.closed c.queue c.cut

-- futures and numbers of cores go together
pub record IsLinked (st : Store) (bound : ℕ) : Type 0 where
  pub home : (f : ℕ) (x : FutureEntry) → get st.futures f ≡ Some x → IsHome st x
  pub owned : (s : ℕ) (e : SemaphoreEntry) (n demand lack : ℕ) → get st.semaphores s ≡ Some e → cores.waiting e.core.queue n ≡ Some (demand, lack) → IsOwned st s n demand
  pub granted : (s : ℕ) (e : SemaphoreEntry) (n demand : ℕ) → get st.semaphores s ≡ Some e → get e.core.granted n ≡ Some demand → IsOwned st s n demand
  pub cut : (s : ℕ) (e : SemaphoreEntry) (n demand : ℕ) → get st.semaphores s ≡ Some e → get e.core.cut n ≡ Some demand → IsOwned st s n demand
  pub apart : (f g n : ℕ) → (x y : FutureEntry) → get st.futures f ≡ Some x → get st.futures g ≡ Some y → x.semaphore ≡ y.semaphore → is_under x.acquire n ≡ true → is_under y.acquire n ≡ true → f ≡ g
  pub below : (f : ℕ) (x : FutureEntry) → get st.futures f ≡ Some x → f < bound
  pub numbered : (s : ℕ) (e : SemaphoreEntry) → get st.semaphores s ≡ Some e → IsNumbered e.core
