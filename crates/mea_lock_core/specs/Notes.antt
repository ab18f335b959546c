-- how a list of notes stands for those that wait and those that were notified
use Rattle.std.specs.Prelude.{◌≡◌, ◌+◌, ℕ, List, [], ◌∷◌, Option, Some, None, Bool, true, false, slice_index_or}
use Rattle.std.specs.Ordering.{nat_cmp}
use Rattle.std.specs.FinMap as map
use Rattle.mea_base.specs.Outbox.{Wakes}
use Rattle.mea_base.specs.WaitList.{Waits, get, is_linked, IsDistinct}
use Rattle.mea_lock_core.specs.Condvar.{Condvar}
use Rattle.mea_lock_core.specs.declared.note.Note.{Note}
use Rattle.mea_lock_core.specs.declared.note.Note.TheVariants.{Waiting, Notified}

-- a pair before others, where its number was notified
abbrev pub with_pair : ℕ → Option Bool → List (ℕ × Bool) → List (ℕ × Bool)
with_pair n None ps = ps
with_pair n (Some by_one) ps = (n, by_one) ∷ ps

module _ {W : Type 0} where
  -- the waker of a note
  abbrev pub waker_in : Option (Note W) → Option W
  waker_in None = None
  waker_in (Some (Waiting w)) = Some w
  waker_in (Some (Notified _)) = None

  -- whether it was notified alone, where it was notified
  abbrev pub notified_in : Option (Note W) → Option Bool
  notified_in None = None
  notified_in (Some (Waiting _)) = None
  notified_in (Some (Notified by_one)) = Some by_one

  abbrev pub is_waiting : Note W → Bool
  is_waiting (Waiting _) = true
  is_waiting (Notified _) = false

  abbrev pub is_by_one : Note W → Bool
  is_by_one (Waiting _) = false
  is_by_one (Notified by_one) = by_one

  -- a wait before others, where its note has a waker
  abbrev pub with_wait : ℕ → Option W → List (ℕ × W) → List (ℕ × W)
  with_wait n None q = q
  with_wait n (Some w) q = (n, w) ∷ q

  -- the waits of these numbers
  abbrev pub waits_in : List (Option (Note W)) → List ℕ → List (ℕ × W)
  waits_in slots [] = []
  waits_in slots (n ∷ ns) = with_wait n (waker_in (slice_index_or slots n None)) (waits_in slots ns)

  -- the notified pairs, where the first slot has this number
  abbrev pub pairs_from : ℕ → List (Option (Note W)) → List (ℕ × Bool)
  pairs_from k [] = []
  pairs_from k (slot ∷ rest) = with_pair k (notified_in slot) (pairs_from (k + 1) rest)

  abbrev pub notified_of : List (Option (Note W)) → map.FinMap nat_cmp Bool
  notified_of slots = map.from_entries (pairs_from 0 slots)

  -- what a list of notes and an outbox stand for
  abbrev pub condvar_of : Waits (Note W) → Wakes W → Condvar W
  condvar_of w o = record { waiting = waits_in w.slots w.order; notified = notified_of w.slots; wakes = o.wakers }

  abbrev pub IsWaiting : Option (Note W) → Type 0
  IsWaiting None = ⊥
  IsWaiting (Some (Waiting _)) = Unit {0}
  IsWaiting (Some (Notified _)) = ⊥

  abbrev pub IsIdle : Option (Note W) → Type 0
  IsIdle None = Unit {0}
  IsIdle (Some (Waiting _)) = ⊥
  IsIdle (Some (Notified _)) = Unit {0}

  -- a number in the order waits, and any other in use was notified
  pub record AreNoted (w : Waits (Note W)) : Type 0 where
    pub distinct : IsDistinct w.order
    pub waiting : (n : ℕ) → is_linked w n ≡ true → IsWaiting (get w n)
    pub idle : (n : ℕ) → is_linked w n ≡ false → IsIdle (get w n)
