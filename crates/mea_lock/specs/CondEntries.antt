-- what a hall keeps of a condition variable and of a wait
use Rattle.std.specs.Prelude.{ℕ, ◌≡◌, ◌+◌, ◌-◌, ◌++◌, List, [], ◌∷◌, length, Option, Some, None, Bool, true, is_some, map, refl}
use Rattle.std.specs.Ordering.{nat_cmp}
use Rattle.mea_base.specs.Ready.{Waking}
use Rattle.std.specs.Coded.{Coded, code_by, coded×, coded_ℕ}
use Rattle.mea_by_name.specs.declared.named_waker.NamedWaker.{NamedWaker}
use Rattle.mea_by_name.specs.NamedQueue.{Waiting}
use Rattle.std.specs.Option.{IsSome}
use Rattle.std.specs.FinMap as fin
use Rattle.mea_lock_core.specs.Condvar.{Condvar, condvar_code, Lists, waker_under, with_waker, without_wait, notifying}
use Rattle.mea_lock_model.specs.Condvars.{CondWait}
use Rattle.mea_lock.specs.declared.wait_entry.WaitEntry.{WaitEntry}
use Rattle.mea_by_name.specs.NamedWaker.{waker_code}

-- a condition variable whose wakers carry the names of their waits, and how many waits it has
pub record KeptCondvar : Type 0 where
  pub condvar : Condvar NamedWaker
  pub waits : ℕ

abbrev pub kept_condvar_code : Coded KeptCondvar
kept_condvar_code = code_by (Condvar NamedWaker × ℕ) (coded× (condvar_code waker_code) coded_ℕ) (λ e. (e.condvar, e.waits)) (λ p. record { condvar = p.0; waits = p.1 }) (λ _. refl)

-- who waits, by name
abbrev pub listed_in : List (ℕ × NamedWaker) → Waiting
listed_in q = map (λ (e : ℕ × NamedWaker). (e.1.name, e.1.waker)) q

-- the wakers of those who wait
abbrev pub wakers_in : List (ℕ × NamedWaker) → List ℕ
wakers_in q = map (λ (e : ℕ × NamedWaker). e.1.waker) q

-- ---- what is seen of each thing
abbrev pub condvar_seen : KeptCondvar → Waiting
condvar_seen e = listed_in e.condvar.waiting

abbrev pub wait_seen : WaitEntry → CondWait
wait_seen x = record { condvar = x.condvar; bound = x.bound; polled = x.polled; listed = is_some x.number; alone = x.alone }

-- ---- a wait that was listed, at a place if it is to have one
-- how many wakers are counted for it
abbrev pub counted_at : Option ℕ → ℕ
counted_at None = 0
counted_at (Some n) = 1

-- and what listing it did; nothing, where it has no place
abbrev pub ListsAt : KeptCondvar → KeptCondvar → Option ℕ → NamedWaker → Type 0
ListsAt old new None k = new ≡ old
ListsAt old new (Some n) k = Lists old.condvar new.condvar n k × (new ≡ record old { condvar = new.condvar })

-- ---- a wait under a number, if it is listed
abbrev pub IsWaitingUnder : Condvar NamedWaker → Option ℕ → Type 0
IsWaitingUnder s None = ⊥
IsWaitingUnder s (Some n) = IsSome (waker_under s.waiting n)

abbrev pub rewoken : List (ℕ × NamedWaker) → Option ℕ → NamedWaker → List (ℕ × NamedWaker)
rewoken q None k = q
rewoken q (Some n) k = with_waker q n k

abbrev pub left_by : List (ℕ × NamedWaker) → Option ℕ → List (ℕ × NamedWaker)
left_by q None = q
left_by q (Some n) = without_wait q n

abbrev pub forgotten : fin.FinMap nat_cmp Bool → Option ℕ → fin.FinMap nat_cmp Bool
forgotten m None = m
forgotten m (Some n) = fin.remove m n

-- the wait under a number has another waker; leaves, and waits no more; is forgotten, which was notified
abbrev pub rewoken_under : KeptCondvar → Option ℕ → NamedWaker → KeptCondvar
rewoken_under e number k = record e { condvar = record e.condvar { waiting = rewoken e.condvar.waiting number k } }

abbrev pub left_under : KeptCondvar → Option ℕ → KeptCondvar
left_under e number = record e { condvar = record e.condvar { waiting = left_by e.condvar.waiting number } }

abbrev pub forgotten_under : KeptCondvar → Option ℕ → KeptCondvar
forgotten_under e number = record e { condvar = record e.condvar { notified = forgotten e.condvar.notified number } }

-- ---- notifying
-- the first that waits, which is named f, was notified alone
pub record NotifiesFirst (old : KeptCondvar) (f : ℕ) (new : KeptCondvar) (before after : Waking ℕ) : Type 0 where
  pub number : ℕ
  pub waker : ℕ
  pub others : List (ℕ × NamedWaker)
  pub first : old.condvar.waiting ≡ (number, record { name = f; waker = waker }) ∷ others
  pub entry : new ≡ record old { condvar = record { waiting = others; notified = fin.insert old.condvar.notified number true; wakes = [] } }
  pub ready : after ≡ record { wakers = before.wakers ++ waker ∷ []; registered = before.registered - 1 }

-- each that waits was notified, in their order
pub record NotifiesEach (old new : KeptCondvar) (before after : Waking ℕ) : Type 0 where
  pub entry : new ≡ record old { condvar = record { waiting = []; notified = notifying old.condvar.notified old.condvar.waiting; wakes = [] } }
  pub wakers : after.wakers ≡ before.wakers ++ wakers_in old.condvar.waiting
  pub counted : after.registered + length old.condvar.waiting ≡ before.registered
