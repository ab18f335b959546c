-- how a pool with numbers for its waits, and what stands under each name, are seen by name, and what they keep to
use Rattle.std.specs.Prelude.{ℕ, ◌≡◌, ◌≤◌, ◌⊎◌, Bool, true, false, List, [], ◌∷◌, length, map, Option, Some, None, IsSome, is_some}
use Rattle.std.specs.Ordering.{nat_cmp}
use Rattle.std.specs.FinMap.{FinMap, get}
use Rattle.mea_by_name.specs.declared.named_waker.NamedWaker.{NamedWaker}
use Rattle.mea_by_name.specs.ByName.{Names, seen}
use Rattle.mea_by_name.specs.NamedQueue.{Waiting}
use Rattle.mea_lock_core.specs.Condvar.{waker_under, AreApart}
use Rattle.mea_pool_core.specs.declared.drain_wait.DrainWait.TheVariants as drain
use Rattle.mea_pool_core.specs.declared.lease_wait.LeaseWait.{LeaseWait}
use Rattle.mea_pool_core.specs.declared.lease_wait.LeaseWait.TheVariants as lease
use Rattle.mea_pool_core.specs.Pool.{Pool, taken, is_drained}
use Rattle.mea_pool_core.specs.Shelf.{is_lent}
use Rattle.mea_pool_run.specs.declared.thing.Thing.{Thing}
use Rattle.mea_pool_run.specs.declared.thing.Thing.TheVariants.{Ask, Wait, Held}
use Rattle.mea_pool_run.specs.PoolByName.{Live, asks, awaits, leases, PoolByName, Outcome}
use Rattle.mea_pool_run.specs.declared.reply.PoolReply.{PoolReply}

-- who waits under numbers, in order, each with its waker
abbrev pub Numbered : Type 0
Numbered = List (ℕ × NamedWaker)

-- who waits under numbers, by their names
abbrev pub names_of : Numbered → Waiting
names_of q = map (λ (e : ℕ × NamedWaker). (e.1.name, e.1.waker)) q

-- whether a wait for a lease was granted a place
abbrev pub is_granted : FinMap nat_cmp ℕ → LeaseWait → Bool
is_granted granted lease.New = false
is_granted granted (lease.Queued n) = is_some (get granted n)
is_granted granted lease.Done = false
is_granted granted lease.Refused = false

-- what a thing is seen as
abbrev pub live_of : FinMap nat_cmp ℕ → Thing → Live
live_of granted (Ask wait) = asks (is_granted granted wait)
live_of granted (Wait wait) = awaits
live_of granted (Held l) = leases l.0 l.1

-- a pool and its things, by name
abbrev pub pool_by_name : Pool ℕ NamedWaker → Names Thing → PoolByName
pool_by_name p things = record {
  size = length p.lent;
  taken = taken p;
  shelf = p.shelf;
  things = seen (live_of p.granted) things;
  waiting = names_of p.waiting;
  draining = p.draining;
  drains = names_of p.drains;
}

-- ---- numbers and names

-- the number of the wait for a lease that stands there, once it was polled
abbrev pub asked : Option Thing → Option ℕ
asked (Some (Ask (lease.Queued n))) = Some n
asked _ = None

-- the number of the wait for the end of the drain that stands there, once it was polled
abbrev pub awaited : Option Thing → Option ℕ
awaited (Some (Wait (drain.Listed n))) = Some n
awaited _ = None

-- the slot of the lease that stands there
abbrev pub held : Option Thing → Option ℕ
held (Some (Held l)) = Some l.0
held _ = None

-- no wait that is over stands there
abbrev pub IsGoing : Option Thing → Type 0
IsGoing (Some (Ask lease.Done)) = ⊥
IsGoing (Some (Ask lease.Refused)) = ⊥
IsGoing (Some (Wait drain.Done)) = ⊥
IsGoing _ = Unit {0}

-- each that waits under a number is the one of that number which its waker names
abbrev pub AreOf : (ℕ → Option ℕ) → Numbered → Type 0
AreOf at [] = Unit {0}
AreOf at (e ∷ q) = (at e.1.name ≡ Some e.0) × AreOf at q

-- who waits and the numbers by name go together; a number that does not wait is another, of which Else tells
pub record Linked (at : ℕ → Option ℕ) (q : Numbered) (Else : ℕ → Type 0) : Type 0 where
  pub named : AreOf at q
  pub apart : AreApart q
  pub single : (f g n : ℕ) → at f ≡ Some n → at g ≡ Some n → f ≡ g
  pub home : (f n : ℕ) → at f ≡ Some n → IsSome (waker_under q n) ⊎ Else n

-- a wait that does not wait was granted a place, or was cut by the drain
abbrev pub IsMet : FinMap nat_cmp ℕ → FinMap nat_cmp ℕ → Bool → ℕ → Type 0
IsMet granted cut draining n = (get granted n ≡ Some 1) ⊎ ((draining ≡ true) × (get cut n ≡ Some 1) × (get granted n ≡ None))

-- the waits for a lease, by the numbers of those that were polled
pub record AsksStand (at : ℕ → Option ℕ) (waiting : Numbered) (granted cut : FinMap nat_cmp ℕ) (draining : Bool) : Type 0 where
  pub linked : Linked at waiting (IsMet granted cut draining)
  pub ungranted : (n : ℕ) → IsSome (waker_under waiting n) → get granted n ≡ None
  pub all_cut : draining ≡ true → waiting ≡ []

-- the leases, by their slots: each is lent, and to one alone
pub record LeasesStand (at : ℕ → Option ℕ) (lent : List Bool) : Type 0 where
  pub out : (f slot : ℕ) → at f ≡ Some slot → is_lent lent slot ≡ true
  pub once : (f g slot : ℕ) → at f ≡ Some slot → at g ≡ Some slot → f ≡ g

-- a wait for the end of the drain that does not wait was told of it
abbrev pub IsTold : FinMap nat_cmp Bool → Bool → ℕ → Type 0
IsTold told drained n = (drained ≡ true) × IsSome (get told n)

-- the waits for the end of the drain, by the numbers of those that were polled
pub record WaitsStand (at : ℕ → Option ℕ) (drains : Numbered) (told : FinMap nat_cmp Bool) (drained : Bool) : Type 0 where
  pub linked : Linked at drains (IsTold told drained)
  pub all_told : drained ≡ true → drains ≡ []

-- what a pool and its things keep to
pub record Keeps (p : Pool ℕ NamedWaker) (things : Names Thing) : Type 0 where
  pub going : (f : ℕ) → IsGoing (get things f)
  pub asking : AsksStand (λ f. asked (get things f)) p.waiting p.granted p.cut p.draining
  pub lending : LeasesStand (λ f. held (get things f)) p.lent
  pub ending : WaitsStand (λ f. awaited (get things f)) p.drains p.told (is_drained p)

-- and no waker is ready
pub record Stands (p : Pool ℕ NamedWaker) (things : Names Thing) : Type 0 where
  pub keeps : Keeps p things
  pub quiet : p.wakes ≡ []

-- no thing has a name from n on
abbrev pub AreBelow : Names Thing → ℕ → Type 0
AreBelow things n = (k : ℕ) → n ≤ k → get things k ≡ None

-- the wakers without the names
abbrev pub wakers_of : List NamedWaker → List ℕ
wakers_of ks = map (λ (k : NamedWaker). k.waker) ks

-- an event had this outcome
pub record Goes (o : Outcome) (p : Pool ℕ NamedWaker) (things : Names Thing) (reply : PoolReply) : Type 0 where
  pub pool : pool_by_name p things ≡ o.pool
  pub replied : reply ≡ o.reply
  pub woken : wakers_of p.wakes ≡ o.wakes
  pub keeps : Keeps p things

-- a wait that was never polled
abbrev pub IsNew : Thing → Type 0
IsNew (Ask lease.New) = Unit {0}
IsNew (Wait drain.New) = Unit {0}
IsNew _ = ⊥
