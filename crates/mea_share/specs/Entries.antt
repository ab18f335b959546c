-- what is done to one admission that the hall keeps
use Rattle.std.specs.Prelude.{ℕ, ◌≡◌, ◌+◌, ◌-◌, ◌<◌, ◌==◌, ◌&&◌, ◌++◌, Bool, true, false, not, cond, [], nat_eq}
use Rattle.mea_base.specs.declared.poll.Poll.{Poll}
use Rattle.mea_base.specs.declared.poll.Poll.TheVariants.{Ready, Pending}
use Rattle.mea_base.specs.Ready.{Waking}
use Rattle.mea_share_core.specs.Share.{taken, released, weighing}
use Rattle.mea_share_core.specs.Fair.{Fair, IsSettled, share_of, waiters_of, is_queued, Becomes, GivesBack, Polls, Cancels}
use Rattle.mea_share.specs.Kept.{KeptAdmission, KeptFuture}

-- an admission with n permits, of which nothing is there yet
abbrev pub new_admission : ℕ → KeptAdmission
new_admission n = record { fair = record { free = n; next = 0; shares = []; wakes = [] }; named = true; things = 0; plain = 0 }

-- it has one future or permit more, or less
abbrev pub begun : KeptAdmission → Bool → KeptAdmission
begun e plain = record e { things = e.things + 1; plain = e.plain + cond plain 1 0 }

-- and one less
abbrev pub finished : KeptAdmission → Bool → KeptAdmission
finished e plain = record e { things = e.things - 1; plain = e.plain - cond plain 1 0 }

-- neither its name nor a future or a permit is left
abbrev pub is_over : KeptAdmission → Bool
is_over e = not e.named && (e.things == 0)

-- a free permit was taken for a key, or none was free
pub record Takes (old : KeptAdmission) (k : ℕ) (got : Bool) (new : KeptAdmission) : Type 0 where
  pub rest : new ≡ record old { fair = new.fair }
  pub some : got ≡ true → (0 < old.fair.free) × Becomes nat_eq old.fair new.fair k (taken (share_of nat_eq old.fair k)) (old.fair.free - 1) old.fair.next
  pub none : got ≡ false → (old.fair.free ≡ 0) × (new ≡ old)
  pub settled : IsSettled new.fair

-- a key was given a weight
pub record Weighs (old : KeptAdmission) (k n : ℕ) (new : KeptAdmission) : Type 0 where
  pub rest : new ≡ record old { fair = new.fair }
  pub becomes : Becomes nat_eq old.fair new.fair k (weighing (share_of nat_eq old.fair k) n) old.fair.free old.fair.next
  pub settled : IsSettled new.fair

-- one waker more is registered where a future begins to wait
abbrev pub more_for : Poll (Unit {0}) → Bool → ℕ
more_for (Ready u) again = 0
more_for Pending again = cond again 0 1

-- a future was polled, and its waker was counted where it is one more
pub record PollsEntry (old : KeptAdmission) (x : KeptFuture) (w : ℕ) (poll : Poll (Unit {0})) (new : KeptAdmission) (y : KeptFuture) (before after : Waking ℕ) : Type 0 where
  pub rest : new ≡ record old { fair = new.fair }
  pub polls : Polls nat_eq old.fair x.key x.stage w poll new.fair y.stage
  pub future : y ≡ record x { stage = y.stage }
  pub counted : after ≡ record before { registered = before.registered + more_for poll (is_queued x.stage) }
  pub settled : IsSettled new.fair

-- the core did this, and then its wakers were handed on
pub record HandsOn (old : KeptAdmission) (fair : Fair ℕ ℕ) (new : KeptAdmission) (before after : Waking ℕ) : Type 0 where
  pub rest : new ≡ record old { fair = record fair { wakes = [] } }
  pub woken : after.wakers ≡ before.wakers ++ fair.wakes
  pub counted : after.registered + waiters_of old.fair ≡ before.registered + waiters_of fair
  pub settled : IsSettled new.fair

-- a future was ended, or a permit
abbrev pub EndsWait : KeptAdmission → KeptFuture → KeptAdmission → Waking ℕ → Waking ℕ → Type 0
EndsWait old x new before after = (fair : Fair ℕ ℕ) × Cancels nat_eq old.fair x.key x.stage fair × HandsOn old fair new before after

-- the same of a permit
abbrev pub Releases : KeptAdmission → ℕ → KeptAdmission → Waking ℕ → Waking ℕ → Type 0
Releases old k new before after = (fair : Fair ℕ ℕ) × GivesBack nat_eq old.fair fair k (released (share_of nat_eq old.fair k)) × HandsOn old fair new before after
