-- what polling a wait with a condition does
use Rattle.std.specs.Prelude.{◌≡◌, ℕ, Bool, true, false, Result, Ok, MatchResult}
use Rattle.std.specs.Borrow.{MutBor}
use Rattle.std.specs.Fn.{Mut, CalledAtMut}
use Rattle.mea_base.specs.declared.no_memory.NoMemory.{NoMemory}
use Rattle.mea_base.specs.declared.turn.Turn.{Turn}
use Rattle.mea_base.specs.declared.turn.Turn.TheVariants.{Ready, Pending}
use Rattle.mea_sem_core.specs.Calls.{given_back}
use Rattle.mea_lock_core.specs.CondWaits.{PollsWait, renewed_wait}
use Rattle.mea_lock_core.specs.Condvar.{Condvar, Lists}
use Rattle.mea_lock_core.specs.Lock.{Lock}
use Rattle.mea_lock_core.specs.declared.cond_wait.CondWait.{CondWait}
use Rattle.mea_lock_core.specs.declared.cond_wait.CondWait.TheVariants.{New, Listed, Locking, Done}
use Rattle.mea_lock_core.specs.declared.wait_while.WaitWhile.{WaitWhile}

-- a wait that has lost its place, with its condition
abbrev pub renewed_while : {F : Type 0} → WaitWhile F → WaitWhile F
renewed_while x = record x { wait = renewed_wait }

module _ {V W F : Type 0} (g : Mut F (MutBor V × Unit {0}) (Bool × (MutBor V × Unit {0}))) where
  -- by what the condition answered: it holds, and the wait goes on and gives the lock back, or it is over
  abbrev pub SettledBy : Bool → Condvar W → Lock V W → V → F → W → Turn W → Condvar W → Lock V W → WaitWhile F → Type 0
  SettledBy true s l v f w turn s' l' x' =
      (turn ≡ Pending) × (l' ≡ record { permits = given_back l.permits 1; value = v }) × ((n : ℕ) × Lists s s' n w × (x' ≡ record { wait = Listed n; condition = f }))
  SettledBy false s l v f w turn s' l' x' = (turn ≡ Ready w) × (s' ≡ s) × (l' ≡ record l { value = v }) × (x' ≡ record { wait = Done; condition = f })

  -- who has the lock asks the condition, which may change the value
  abbrev pub Settles : Condvar W → Lock V W → F → W → Turn W → Condvar W → Lock V W → WaitWhile F → Type 0
  Settles s l f w turn s' l' x' = (condition_holds : Bool) × (f' : F) × (v : V) × CalledAtMut g f l.value condition_holds f' v × SettledBy condition_holds s l v f' w turn s' l' x'

  -- after a poll of the wait alone: whose turn has come asks the condition
  abbrev pub Continues : Turn W → Condvar W → Lock V W → CondWait → F → Turn W → Condvar W → Lock V W → WaitWhile F → Type 0
  Continues (Ready w) s l c f turn s' l' x' = Settles s l f w turn s' l' x'
  Continues Pending s l c f turn s' l' x' = (turn ≡ Pending) × (s' ≡ s) × (l' ≡ l) × (x' ≡ record { wait = c; condition = f })

  -- a poll of the wait alone, and what follows it in the same poll
  pub record Goes (s : Condvar W) (l : Lock V W) (c : CondWait) (f : F) (w : W) (turn : Turn W) (s' : Condvar W) (l' : Lock V W) (x' : WaitWhile F) : Type 0 where
    pub first : Turn W
    pub between : Condvar W
    pub lock : Lock V W
    pub stage : CondWait
    pub polls : PollsWait s l c w (Ok first) between lock stage
    pub continues : Continues first between lock stage f turn s' l' x'

  -- there was no memory: the waker comes back, the condition was not asked, and nothing has changed
  abbrev pub KeepsAll : Condvar W → Lock V W → WaitWhile F → W → Condvar W → Lock V W → WaitWhile F → W × NoMemory → Type 0
  KeepsAll s l x w s' l' x' e = (e.0 ≡ w) × (s' ≡ s) × (l' ≡ l) × (x' ≡ x)

  -- by the stage of the wait: a new one has the lock, and asks the condition at once
  abbrev pub PollsStage : CondWait → Condvar W → Lock V W → WaitWhile F → W → Turn W → Condvar W → Lock V W → WaitWhile F → Type 0
  PollsStage New s l x w turn s' l' x' = Settles s l x.condition w turn s' l' x'
  PollsStage (Listed n) s l x w turn s' l' x' = Goes s l (Listed n) x.condition w turn s' l' x'
  PollsStage (Locking by_one a) s l x w turn s' l' x' = Goes s l (Locking by_one a) x.condition w turn s' l' x'
  PollsStage Done s l x w turn s' l' x' = Unit {0}

  -- what one poll does
  abbrev pub PollsWhile : Condvar W → Lock V W → WaitWhile F → W → Result (Turn W) (W × NoMemory) → Condvar W → Lock V W → WaitWhile F → Type 0
  PollsWhile s l x w r s' l' x' = MatchResult r (λ turn. PollsStage x.wait s l x w turn s' l' x') (λ e. KeepsAll s l x w s' l' x' e)
