-- the order in which those that wait are admitted
use Rattle.std.specs.Prelude.{ℕ, ◌≡◌, ◌⊎◌, [], ◌∷◌, Some}
use Rattle.std.specs.FinMap.{get}
use Rattle.mea_family.specs.Family.{Outcome}
use Rattle.mea_share_core.specs.Share.{Share, admitting}
use Rattle.mea_share_model.specs.Next.{share_at, IsNextIn}
use Rattle.mea_share_model.specs.Admissions.{Admission, ShareHall, with_share, tidied}

-- what a key of an admission has is other than it was, and then who is next is admitted, whose waker this is
pub record Admits (h h' : ShareHall) (w : ℕ) : Type 0 where
  pub admission : ℕ
  pub was : Admission
  pub there : get h.admissions admission ≡ Some was
  pub gave : ℕ
  pub share : Share ℕ
  -- just before
  pub between : Admission
  pub is : between ≡ with_share was gave share
  pub key : ℕ
  pub number : ℕ
  pub next : IsNextIn between.shares key number
  pub waker : get (share_at between.shares key).waiting number ≡ Some w
  -- the hall without what has ended, and with it admitted
  pub rest : ShareHall
  pub admitted : h' ≡ tidied rest admission (with_share between key (admitting (share_at between.shares key) number))

-- nobody is woken, or one, which was next
abbrev pub IsInOrder : ShareHall → Outcome ShareHall → Type 0
IsInOrder h o = (o.wakes ≡ []) ⊎ ((w : ℕ) × (o.wakes ≡ w ∷ []) × Admits h o.hall w)
