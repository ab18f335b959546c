-- permits whose waiters are known by the names of their futures
use Rattle.std.specs.Prelude.{ℕ, ◌≡◌, List, [], ◌∷◌, map, Some, ◌⊎◌}
use Rattle.std.specs.Ordering.{nat_cmp}
use Rattle.std.specs.FinMap.{FinMap, get}
use Rattle.mea_by_name.specs.declared.named_waker.NamedWaker.{NamedWaker}
use Rattle.mea_by_name.specs.ByName.{Names}
use Rattle.mea_by_name.specs.LackingQueue.{Lacking}
use Rattle.mea_sem_core.specs.declared.acquire.Acquire.{Acquire}
use Rattle.mea_sem_core.specs.declared.acquire.Acquire.TheVariants.{New, Queued, Done, Refused}
use Rattle.mea_sem_core.specs.Core.{Waiter, Acquires, Owes, waiting}

-- whom a waker names, with the waker that the hall was given; a debt has none
abbrev pub who_of : Waiter NamedWaker → ℕ × ℕ
who_of (Acquires n d k) = (k.name, k.waker)
who_of Owes = (0, 0)

-- who waits, as the wakers in a core's queue name it, each with what it lacks
abbrev pub names_in : List (Waiter NamedWaker × ℕ) → Lacking
names_in q = map (λ (e : Waiter NamedWaker × ℕ). (who_of e.0, e.1)) q

-- each acquire that waits is that of the future which its waker names
abbrev pub AreOf : Names Acquire → List (Waiter NamedWaker × ℕ) → Type 0
AreOf acquires [] = Unit {0}
AreOf acquires ((Acquires n d k, l) ∷ q) = (get acquires k.name ≡ Some (Queued d n)) × AreOf acquires q
AreOf acquires ((Owes, l) ∷ q) = AreOf acquires q

-- an acquire is new, or was granted, or waits; none was refused
abbrev pub IsHome : List (Waiter NamedWaker × ℕ) → FinMap nat_cmp ℕ → Acquire → Type 0
IsHome q granted (New d) = Unit {0}
IsHome q granted (Queued d n) = (get granted n ≡ Some d) ⊎ ((lack : ℕ) × (waiting q n ≡ Some (d, lack)))
IsHome q granted (Done d) = ⊥
IsHome q granted (Refused d) = ⊥

-- a queue, the numbers that were granted, and the acquires of the futures go together
pub record Linked (q : List (Waiter NamedWaker × ℕ)) (granted : FinMap nat_cmp ℕ) (acquires : Names Acquire) : Type 0 where
  pub waits : AreOf acquires q
  pub home : (f : ℕ) (a : Acquire) → get acquires f ≡ Some a → IsHome q granted a
  pub owned : (n d : ℕ) → get granted n ≡ Some d → (f : ℕ) × (get acquires f ≡ Some (Queued d n))
  pub apart : (f g d e n : ℕ) → get acquires f ≡ Some (Queued d n) → get acquires g ≡ Some (Queued e n) → f ≡ g
