-- what the calls of a pool on waits and leases do, and what they ask for
use Rattle.std.specs.Prelude.{ℕ, ◌≡◌, ◌<◌, ◌≤◌, ◌++◌, ◌⊎◌, true, false, [], ◌∷◌, length, slice_set, Option, Some, None, IsSome, Result, Ok, MatchResult}
use Rattle.std.specs.FinMap as map
use Rattle.mea_base.specs.declared.poll.Poll.{Poll}
use Rattle.mea_base.specs.declared.poll.Poll.TheVariants.{Ready, Pending}
use Rattle.mea_base.specs.declared.no_memory.NoMemory.{NoMemory}
use Rattle.mea_lock_core.specs.Condvar.{waker_under, with_waker, without_wait}
use Rattle.mea_pool_core.specs.declared.lease_wait.LeaseWait.{LeaseWait}
use Rattle.mea_pool_core.specs.declared.lease_wait.LeaseWait.TheVariants as lease
use Rattle.mea_pool_core.specs.declared.lease_poll.LeasePoll.{LeasePoll}
use Rattle.mea_pool_core.specs.declared.lease_poll.LeasePoll.TheVariants as answer
use Rattle.mea_pool_core.specs.declared.drain_wait.DrainWait.{DrainWait}
use Rattle.mea_pool_core.specs.declared.drain_wait.DrainWait.TheVariants as drain
use Rattle.mea_pool_core.specs.Gate.{MayPollAt, MayEndAt}
use Rattle.mea_pool_core.specs.Places.{StandsAt, IsUnmet}
use Rattle.mea_pool_core.specs.Pool.{Pool, taken, is_drained, passed_on}
use Rattle.mea_pool_core.specs.Shelf.{is_lent}

module _ {R W : Type 0} where
  -- ---- leases

  -- the wait is one of this pool
  abbrev pub Belongs : Pool R W → LeaseWait → Type 0
  Belongs p a = StandsAt p.waiting p.granted p.cut p.draining a

  -- the wait is one of this pool, and has not got a lease
  abbrev pub MayPoll : Pool R W → LeaseWait → Type 0
  MayPoll p a = Belongs p a × IsUnmet a

  -- the first resource of the shelf is lent, whose slot was not
  pub record Gets (p : Pool R W) (r : Result (LeasePoll R) (W × NoMemory)) (p' : Pool R W) : Type 0 where
    pub lease : ℕ × R
    pub answers : r ≡ Ok (answer.Got lease)
    pub first : p.shelf ≡ lease ∷ p'.shelf
    pub within : lease.0 < length p.lent
    pub free : is_lent p.lent lease.0 ≡ false
    pub is : p' ≡ record p { shelf = p'.shelf; lent = slice_set p.lent lease.0 true }

  -- a new wait stands last among the waiting leases, under a number that is fresh
  pub record Waits (p p' : Pool R W) (n : ℕ) (w : W) : Type 0 where
    pub is : p' ≡ record p { waiting = p.waiting ++ (n, w) ∷ [] }
    pub not_waiting : waker_under p.waiting n ≡ None
    pub not_granted : map.get p.granted n ≡ None
    pub not_cut : map.get p.cut n ≡ None

  -- what a poll does: a new wait of a pool that is not draining gets a lease where the lent slots and the granted waits are
  -- fewer than all, and else waits; one that was granted gets one, also while the pool is draining; one that waits keeps the
  -- new waker; and the pool is closed to all others while it is draining
  abbrev pub PollsLease : Pool R W → LeaseWait → W → Result (LeasePoll R) (W × NoMemory) → Pool R W → LeaseWait → Type 0
  PollsLease p lease.New w r p' a' =
      (p.draining ≡ true → (r ≡ Ok answer.Closed) × (p' ≡ p) × (a' ≡ lease.Refused))
      × (p.draining ≡ false → taken p < length p.lent → Gets p r p' × (a' ≡ lease.Done))
      × (p.draining ≡ false → length p.lent ≤ taken p → MatchResult r
      (λ poll. (poll ≡ answer.Pending) × ((n : ℕ) × Waits p p' n w × (a' ≡ lease.Queued n)))
      (λ e. (e.0 ≡ w) × (p' ≡ p) × (a' ≡ lease.New)))
  PollsLease p (lease.Queued n) w r p' a' =
      (map.get p.granted n ≡ Some 1 → Gets (record p { granted = map.remove p.granted n }) r p' × (a' ≡ lease.Done))
      × (IsSome (waker_under p.waiting n) → (r ≡ Ok answer.Pending) × (p' ≡ record p { waiting = with_waker p.waiting n w }) × (a' ≡ lease.Queued n))
      × ((p.draining ≡ true) × (map.get p.cut n ≡ Some 1) → (r ≡ Ok answer.Closed) × (p' ≡ record p { cut = map.remove p.cut n }) × (a' ≡ lease.Refused))
  PollsLease p lease.Done w r p' a' = Unit {0}
  PollsLease p lease.Refused w r p' a' = (r ≡ Ok answer.Closed) × (p' ≡ p) × (a' ≡ lease.Refused)

  -- what a try for a lease does: it gets one exactly where a new wait would
  abbrev pub TriesLease : Pool R W → Option (ℕ × R) → Pool R W → Type 0
  TriesLease p (Some lease) p' = (p.draining ≡ false) × (taken p < length p.lent) × Gets p (Ok (answer.Got lease)) p'
  TriesLease p None p' = ((p.draining ≡ true) ⊎ (length p.lent ≤ taken p)) × (p' ≡ p)

  -- what the end of a wait does: one that was granted gives its place to the next
  abbrev pub CancelsLease : Pool R W → LeaseWait → Pool R W → Type 0
  CancelsLease p lease.New p' = p' ≡ p
  CancelsLease p (lease.Queued n) p' =
      (map.get p.granted n ≡ Some 1 → p' ≡ passed_on (record p { granted = map.remove p.granted n }))
      × (IsSome (waker_under p.waiting n) → p' ≡ record p { waiting = without_wait p.waiting n })
      × ((p.draining ≡ true) × (map.get p.cut n ≡ Some 1) → p' ≡ record p { cut = map.remove p.cut n })
  CancelsLease p lease.Done p' = p' ≡ p
  CancelsLease p lease.Refused p' = p' ≡ p

  -- ---- waits for the end of a drain

  -- the wait is one of this pool, and was not ready yet
  abbrev pub MayPollDrain : Pool R W → DrainWait → Type 0
  MayPollDrain p c = MayPollAt p.drains p.told c

  -- the wait is one of this pool
  abbrev pub MayEndDrain : Pool R W → DrainWait → Type 0
  MayEndDrain p c = MayEndAt p.drains p.told c

  -- a new wait stands last among those for the end, under a number that is fresh
  pub record Lists (p p' : Pool R W) (n : ℕ) (w : W) : Type 0 where
    pub is : p' ≡ record p { drains = p.drains ++ (n, w) ∷ [] }
    pub not_listed : waker_under p.drains n ≡ None
    pub not_told : map.get p.told n ≡ None

  -- what a poll does: it is ready exactly where the pool is drained; else a new wait stands last, and one that is listed keeps
  -- its place and the new waker
  abbrev pub PollsDrain : Pool R W → DrainWait → W → Result (Poll (Unit {0})) (W × NoMemory) → Pool R W → DrainWait → Type 0
  PollsDrain p drain.New w r p' c' =
      (is_drained p ≡ true → (r ≡ Ok (Ready tt)) × (p' ≡ p) × (c' ≡ drain.Done))
      × (is_drained p ≡ false → MatchResult r
      (λ poll. (poll ≡ Pending) × ((n : ℕ) × Lists p p' n w × (c' ≡ drain.Listed n)))
      (λ e. (e.0 ≡ w) × (p' ≡ p) × (c' ≡ drain.New)))
  PollsDrain p (drain.Listed n) w r p' c' =
      (is_drained p ≡ true → (r ≡ Ok (Ready tt)) × (p' ≡ record p { told = map.remove p.told n }) × (c' ≡ drain.Done))
      × (is_drained p ≡ false → (r ≡ Ok Pending) × (p' ≡ record p { drains = with_waker p.drains n w }) × (c' ≡ drain.Listed n))
  PollsDrain p drain.Done w r p' c' = Unit {0}

  -- what the end of such a wait does: it leaves the list, and is not woken
  abbrev pub EndsDrain : Pool R W → DrainWait → Pool R W → Type 0
  EndsDrain p drain.New p' = p' ≡ p
  EndsDrain p (drain.Listed n) p' =
      (is_drained p ≡ true → p' ≡ record p { told = map.remove p.told n })
      × (is_drained p ≡ false → p' ≡ record p { drains = without_wait p.drains n })
  EndsDrain p drain.Done p' = p' ≡ p
