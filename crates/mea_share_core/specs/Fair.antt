-- what a contract sees of a `FairCore`, and what its calls do
use Rattle.std.specs.Prelude.{ℕ, ◌≡◌, ◌+◌, ◌-◌, ◌<◌, ◌⊎◌, ◌++◌, Bool, true, false, List, [], ◌∷◌, refl}
use Rattle.std.specs.Coded.{Coded, code_by, coded×, coded_ℕ, coded_list}
use Rattle.mea_base.specs.declared.poll.Poll.{Poll}
use Rattle.mea_base.specs.declared.poll.Poll.TheVariants.{Ready, Pending}
use Rattle.mea_share_core.specs.declared.share_acquire.ShareStage.{ShareStage}
use Rattle.mea_share_core.specs.declared.share_acquire.ShareStage.TheVariants.{New, Queued, Done}
use Rattle.mea_share_core.specs.declared.share_fault.ShareFault.{ShareFault}
use Rattle.mea_share_core.specs.declared.share_fault.ShareFault.TheVariants.{NoMemory, Overflow}
use Rattle.mea_share_core.specs.Share.{Share, IsWaiting, IsAdmitted, taken, queued, left, readied, given_up}
use Rattle.mea_share_core.specs.Groups.{groups_code, waiting_in, share_in, IsAlike, Sets, Admits}

-- free permits, the next sequence number, each key with what it has, and the wakers that are ready
pub record Fair (K W : Type 0) : Type 0 where
  pub free : ℕ
  pub next : ℕ
  pub shares : List (K × Share W)
  pub wakes : List W

abbrev pub fair_code : {K W : Type 0} → Coded K → Coded W → Coded (Fair K W)
fair_code {K} {W} k w =
    code_by
    (ℕ × (ℕ × (List (K × Share W) × List W)))
    (coded× coded_ℕ (coded× coded_ℕ (coded× (groups_code k w) (coded_list w))))
    (λ f. (f.free, (f.next, (f.shares, f.wakes))))
    (λ p. record { free = p.0; next = p.1.0; shares = p.1.1.0; wakes = p.1.1.1 })
    (λ _. refl)

-- it was polled, and not ready then
abbrev pub is_queued : ShareStage → Bool
is_queued New = false
is_queued (Queued n) = true
is_queued Done = false

module _ {K W : Type 0} where
  -- how many acquires wait
  abbrev pub waiters_of : Fair K W → ℕ
  waiters_of f = waiting_in f.shares

  -- no permit is free, or nobody waits
  abbrev pub IsSettled : Fair K W → Type 0
  IsSettled f = (f.free ≡ 0) ⊎ (waiters_of f ≡ 0)

  -- why the poll of a new acquire fails: there was no memory, or no next number for one that has to wait; the waker comes back.
  -- No other fails
  abbrev pub FaultOf : Fair K W → ShareStage → W → ShareFault W → Type 0
  FaultOf f a w (NoMemory v) = (v ≡ w) × (a ≡ New)
  FaultOf f a w (Overflow v) = (v ≡ w) × (a ≡ New) × (f.free ≡ 0) × (f.next ≡ 18446744073709551615)

module _ {K W : Type 0} (eq : K → K → Bool) where
  -- what a key has: its weight, its permits, and those of its acquires that were admitted or wait
  abbrev pub share_of : Fair K W → K → Share W
  share_of f k = share_in eq f.shares k

  -- a key has this now, and each other what it had; so many permits are free, and this is the next number
  pub record Becomes (f f' : Fair K W) (k : K) (s : Share W) (free next : ℕ) : Type 0 where
    pub shares : Sets eq f.shares f'.shares k s
    pub permits : f'.free ≡ free
    pub number : f'.next ≡ next
    pub wakes : f'.wakes ≡ f.wakes

  -- nothing that can be asked for has changed
  pub record IsSame (f f' : Fair K W) : Type 0 where
    pub shares : IsAlike eq f.shares f'.shares
    pub free : f'.free ≡ f.free
    pub next : f'.next ≡ f.next
    pub wakes : f'.wakes ≡ f.wakes

  -- a permit comes back: who is next is admitted, and with nobody waiting the permit is free
  pub record PassesOn (f f' : Fair K W) : Type 0 where
    pub rests : waiters_of f ≡ 0 → f' ≡ record f { free = f.free + 1 }
    pub passes : 0 < waiters_of f → (w : W) × Admits eq f.shares f'.shares w × (f' ≡ record f { shares = f'.shares; wakes = f.wakes ++ w ∷ [] })

  -- a key has this then, and the permit that it had comes back
  pub record GivesBack (f f' : Fair K W) (k : K) (s : Share W) : Type 0 where
    pub between : Fair K W
    pub becomes : Becomes f between k s f.free f.next
    pub passes : PassesOn between f'

  -- an acquire of this key and stage is one of the core: its number waits or is admitted there
  abbrev pub Belongs : Fair K W → K → ShareStage → Type 0
  Belongs f k New = Unit {0}
  Belongs f k (Queued n) = IsWaiting (share_of f k) n ⊎ IsAdmitted (share_of f k) n
  Belongs f k Done = Unit {0}

  -- what a poll that finds memory does: it takes a permit that is free, else it waits under the next number; one that waits
  -- has its new waker; one that was admitted has its permit
  abbrev pub Polls : Fair K W → K → ShareStage → W → Poll (Unit {0}) → Fair K W → ShareStage → Type 0
  Polls f k New w r f' a' =
      (0 < f.free → (r ≡ Ready tt) × (a' ≡ Done) × Becomes f f' k (taken (share_of f k)) (f.free - 1) f.next)
      × (f.free ≡ 0 → (r ≡ Pending) × (a' ≡ Queued f.next) × Becomes f f' k (queued (share_of f k) f.next w) 0 (f.next + 1))
  Polls f k (Queued n) w r f' a' =
      (IsWaiting (share_of f k) n → (r ≡ Pending) × (a' ≡ Queued n) × Becomes f f' k (queued (share_of f k) n w) f.free f.next)
      × (IsAdmitted (share_of f k) n → (r ≡ Ready tt) × (a' ≡ Done) × Becomes f f' k (readied (share_of f k) n) f.free f.next)
  Polls f k Done w r f' a' = (r ≡ Ready tt) × (a' ≡ Done) × (f' ≡ f)

  -- what the end of an acquire does: one that waits leaves, and what was admitted is given back
  abbrev pub Cancels : Fair K W → K → ShareStage → Fair K W → Type 0
  Cancels f k New f' = f' ≡ f
  Cancels f k (Queued n) f' =
      (IsWaiting (share_of f k) n → Becomes f f' k (left (share_of f k) n) f.free f.next)
      × (IsAdmitted (share_of f k) n → GivesBack f f' k (given_up (share_of f k) n))
  Cancels f k Done f' = f' ≡ f
