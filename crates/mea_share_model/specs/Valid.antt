-- what holds of every hall that events reach
use Rattle.std.specs.Prelude.{ℕ, ◌≡◌, ◌<◌, ◌⊎◌, ◌==◌, ◌&&◌, Bool, Option, Some, None}
use Rattle.std.specs.FinMap.{get}
use Rattle.mea_by_name.specs.ByName.{count}
use Rattle.mea_share_core.specs.Share.{Share, IsWaiting, IsAdmitted}
use Rattle.mea_share_model.specs.Next.{share_at}
use Rattle.mea_share_model.specs.Admissions.{Admission, ShareFuture, SharePermit, ShareHall}

-- the number waits, or was admitted
abbrev pub HasNumber : Share ℕ → ℕ → Type 0
HasNumber s n = IsWaiting s n ⊎ IsAdmitted s n

-- the same at this admission, if it is there
abbrev pub HasAt : Option Admission → ℕ → ℕ → Type 0
HasAt None k n = ⊥
HasAt (Some r) k n = HasNumber (share_at r.shares k) n

-- whether a permit is of this admission and this key
abbrev pub is_of : ℕ → ℕ → SharePermit → Bool
is_of o k p = (p.admission == o) && (p.key == k)

-- what all admissions, futures and permits keep to
pub record AreValid (h : ShareHall) : Type 0 where
  -- the numbers of an admission are below its next, and no two keys have one
  pub below : (o : ℕ) (r : Admission) → get h.admissions o ≡ Some r → (k n : ℕ) → HasNumber (share_at r.shares k) n → n < r.next
  pub once : (o : ℕ) (r : Admission) → get h.admissions o ≡ Some r → (k j n : ℕ) → HasNumber (share_at r.shares k) n → HasNumber (share_at r.shares j) n → k ≡ j
  -- a future that was polled has its number at its key, and no other future of the admission has that
  pub there : (f : ℕ) (x : ShareFuture) (n : ℕ) → get h.futures f ≡ Some x → x.number ≡ Some n → HasAt (get h.admissions x.admission) x.key n
  pub apart : (f g : ℕ) (x y : ShareFuture) (n : ℕ) → get h.futures f ≡ Some x → get h.futures g ≡ Some y → x.admission ≡ y.admission → x.number ≡ Some n → y.number ≡ Some n → f ≡ g
  -- as many permits of a key live as there are
  pub living : (o k : ℕ) (r : Admission) → get h.admissions o ≡ Some r → (share_at r.shares k).living ≡ count (is_of o k) h.permits
