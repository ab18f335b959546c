-- what the keys of one admission have, by key, and who is next of all that wait
use Rattle.std.specs.Prelude.{ℕ, ◌+◌, ◌*◌, ◌==◌, ◌&&◌, ◌||◌, Bool, true, false, List, [], ◌∷◌, ◌++◌, Option, Some, None, unwrap_or, nat_lt, if◌then◌else◌}
use Rattle.std.specs.FinMap.{entries, get, insert, remove}
use Rattle.mea_base.specs.Totals.{total}
use Rattle.mea_by_name.specs.ByName.{Names}
use Rattle.mea_share_core.specs.Share.{Share, new_share, held_of, waiting_of, IsWaiting}
use Rattle.mea_share_core.specs.Groups.{IsBefore}

-- what each key has: its weight, how many of its permits live, the numbers of its futures that were admitted, and the waker
-- under the number of each that waits. A key of which nothing is left is not there
abbrev pub Shares : Type 0
Shares = Names (Share ℕ)

-- what a key has
abbrev pub share_at : Shares → ℕ → Share ℕ
share_at m k = unwrap_or (get m k) new_share

-- whether nothing is left of a key
abbrev pub is_idle : Share ℕ → Bool
is_idle s = (s.weight == 1) && (held_of s + waiting_of s == 0)

-- a key has this
abbrev pub put_share : Shares → ℕ → Share ℕ → Shares
put_share m k s = if is_idle s then remove m k else insert m k s

-- how many wait of all keys
abbrev pub waiting_in : Shares → ℕ
waiting_in m = total (λ k s. waiting_of s) m

-- one that waits: its key with what that has, its number and its waker
pub record Waiter : Type 0 where
  pub key : ℕ
  pub share : Share ℕ
  pub number : ℕ
  pub waker : ℕ

-- those that wait of a key
abbrev pub waiters_of : ℕ → Share ℕ → List (ℕ × ℕ) → List Waiter
waiters_of k s [] = []
waiters_of k s (e ∷ es) = record { key = k; share = s; number = e.0; waker = e.1 } ∷ waiters_of k s es

-- those that wait of these keys
abbrev pub waiters_among : List (ℕ × Share ℕ) → List Waiter
waiters_among [] = []
waiters_among (e ∷ es) = waiters_of e.0 e.1 (entries e.1.waiting) ++ waiters_among es

-- all that wait
abbrev pub waiters_in : Shares → List Waiter
waiters_in m = waiters_among (entries m)

-- the first is admitted before the second: its key holds less for its weight, by cross products, or as much and it has
-- waited longer
abbrev pub goes_before : Waiter → Waiter → Bool
goes_before a b =
    nat_lt (held_of a.share * b.share.weight) (held_of b.share * a.share.weight)
    || ((held_of a.share * b.share.weight == held_of b.share * a.share.weight) && nat_lt a.number b.number)

-- none of these is admitted before it
abbrev pub none_before : Waiter → List Waiter → Bool
none_before a [] = true
none_before a (b ∷ bs) = if goes_before b a then false else none_before a bs

-- the first of some that none of all is admitted before
abbrev pub first_of : List Waiter → List Waiter → Option Waiter
first_of all [] = None
first_of all (a ∷ rest) = if none_before a all then Some a else first_of all rest

-- who is next
abbrev pub next_of : Shares → Option Waiter
next_of m = first_of (waiters_in m) (waiters_in m)

-- a waiter of a key is next: it waits, and nobody who waits is admitted before it
pub record IsNextIn (m : Shares) (k n : ℕ) : Type 0 where
  pub waits : IsWaiting (share_at m k) n
  pub least : (j p : ℕ) → IsWaiting (share_at m j) p → ¬ (IsBefore (share_at m j) p (share_at m k) n)
