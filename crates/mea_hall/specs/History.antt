-- what was told of each family by events and their replies, and the laws of every such history
use Rattle.std.specs.Prelude.{ℕ, ◌+◌, ◌≤◌, List, [], ◌∷◌, Option, Some, None, length, take}
use Rattle.mea_family.specs.declared.answer.Answer.{Answer}
use Rattle.mea_family.specs.Family.{RunOf, start, LosesNoWake}
use Rattle.mea_sem_model.specs.Runs.{Balances}
use Rattle.mea_sem_model.specs.Order.{GrantsInOrder, WakesInOrder, LetsNobodyPast}
use Rattle.mea_events.specs.declared.event.Event.{Event}
use Rattle.mea_hall.specs.World.{FamilyName, Semaphores, family, event_in}

module _ (k : FamilyName) where
  -- how a run of the family goes on with one more event, which had this reply
  abbrev pub hears : RunOf (family k) → ℕ → Option (family k).Event → Answer × List ℕ → RunOf (family k)
  hears r i None reply = r
  hears r i (Some e) reply = record { hall = ((family k).step r.hall i e).hall; trace = record { number = i; before = r.hall; event = e; reply = reply.0; wakes = reply.1 } ∷ r.trace; next = i + 1 }

  -- and with these events and replies, the first of which has the number i
  abbrev pub run_from : RunOf (family k) → ℕ → List Event → List (Answer × List ℕ) → RunOf (family k)
  run_from r i [] rs = r
  run_from r i (e ∷ es) [] = r
  run_from r i (e ∷ es) (reply ∷ rs) = run_from (hears r i (event_in k e) reply) (i + 1) es rs

  -- the run of the family after the first i of these events and replies
  abbrev pub run_after : List Event → List (Answer × List ℕ) → ℕ → RunOf (family k)
  run_after es rs i = run_from (start (family k)) 0 (take i es) (take i rs)

  -- at every point: each living future that waits by its last poll, and would not by its next, has had the
  -- waker of that last poll woken since
  abbrev pub AreWoken : List Event → List (Answer × List ℕ) → Type 0
  AreWoken es rs = (i : ℕ) → i ≤ length rs → LosesNoWake (family k) (run_after es rs i)

-- at every point, of every semaphore: the permits that were made, released and are owed are those that are
-- free, held, paid and forgotten
abbrev pub AreBalanced : List Event → List (Answer × List ℕ) → Type 0
AreBalanced es rs = (i : ℕ) → i ≤ length rs → (s : ℕ) → Balances (run_after Semaphores es rs i) s

-- of no family is a wake lost
pub record LoseNoWake (es : List Event) (rs : List (Answer × List ℕ)) : Type 0 where
  pub woken : (k : FamilyName) → AreWoken k es rs

-- at every point, of every semaphore: acquires have got what they asked for in the order of their first
-- polls, the newest event woke whom it granted in that order, and who waits is not overtaken
pub record GrantInOrder (es : List Event) (rs : List (Answer × List ℕ)) : Type 0 where
  pub grants : (i : ℕ) → i ≤ length rs → GrantsInOrder (run_after Semaphores es rs i)
  pub wakes : (i : ℕ) → i ≤ length rs → WakesInOrder (run_after Semaphores es rs i)
  pub tries : (i : ℕ) → i ≤ length rs → LetsNobodyPast (run_after Semaphores es rs i)
