-- the condition variables as the hall keeps them: what is seen of them, and what they keep to
use Rattle.std.specs.Prelude.{ℕ, ◌≡◌, Bool, true, false, List, [], ◌∷◌, Some, None, IsSome}
use Rattle.std.specs.FinMap.{get, len, empty}
use Rattle.mea_by_name.specs.declared.named_waker.NamedWaker.{NamedWaker}
use Rattle.mea_by_name.specs.ByName.{Names, seen}
use Rattle.mea_by_name.specs.HallKept.{HallKept}
use Rattle.mea_lock_core.specs.Condvar.{Knows, AreApart, waker_under}
use Rattle.mea_lock_model.specs.Condvars.{Condvars}
use Rattle.mea_lock.specs.declared.wait_entry.WaitEntry.{WaitEntry}
use Rattle.mea_lock.specs.CondEntries.{KeptCondvar, condvar_seen, wait_seen}

abbrev pub condvars_seen : Names KeptCondvar → Names WaitEntry → Condvars
condvars_seen cs ws = record { condvars = seen condvar_seen cs; waits = seen wait_seen ws }

-- each that waits is the wait which its waker names
abbrev pub AreOf : Names WaitEntry → List (ℕ × NamedWaker) → Type 0
AreOf ws [] = Unit {0}
AreOf ws (e ∷ q) = ((x : WaitEntry) × (get ws e.1.name ≡ Some x) × (x.number ≡ Some e.0)) × AreOf ws q

-- no two waits have one number
abbrev pub NumbersApart : Names WaitEntry → Type 0
NumbersApart ws = (f g : ℕ) (x y : WaitEntry) (n : ℕ) → get ws f ≡ Some x → get ws g ≡ Some y → x.number ≡ Some n → y.number ≡ Some n → f ≡ g

-- a wait has this number, and knows whether it was notified alone
abbrev pub IsTold : Names WaitEntry → ℕ → Bool → Type 0
IsTold ws n by_one = (f : ℕ) × (x : WaitEntry) × (get ws f ≡ Some x) × (x.number ≡ Some n) × (x.alone ≡ by_one)

-- a condition variable and its waits
pub record AreListed (e : KeptCondvar) (ws : Names WaitEntry) : Type 0 where
  pub waits : AreOf ws e.condvar.waiting
  -- a number is known to the condition variable, and is that of one wait, which was polled
  pub known : (f : ℕ) (x : WaitEntry) → get ws f ≡ Some x → (n : ℕ) → x.number ≡ Some n → Knows e.condvar n × (x.polled ≡ true)
  pub apart : NumbersApart ws
  -- a number that was notified waits no more, and is that of a wait
  pub notified : (n : ℕ) (by_one : Bool) → get e.condvar.notified n ≡ Some by_one → (waker_under e.condvar.waiting n ≡ None) × IsTold ws n by_one
  -- one that waits was not notified alone
  pub unnotified : (f : ℕ) (x : WaitEntry) → get ws f ≡ Some x → (n : ℕ) → x.number ≡ Some n → IsSome (waker_under e.condvar.waiting n) → x.alone ≡ false
  pub distinct : AreApart e.condvar.waiting
  -- its wakers are handed on after each event
  pub quiet : e.condvar.wakes ≡ []
  pub counted : e.waits ≡ len ws

abbrev pub of_wait : WaitEntry → ℕ
of_wait x = x.condvar

-- a condition variable has things of one sort alone
abbrev pub AreGood : KeptCondvar → Names WaitEntry → Names WaitEntry → Type 0
AreGood e ws none = AreListed e ws

abbrev pub AreKept : Names KeptCondvar → Names WaitEntry → ℕ → Type 0
AreKept cs ws next = HallKept of_wait of_wait AreGood (λ e. e.waits) cs ws empty next
