-- while anyone waits no permit is free
use Rattle.std.specs.Prelude.{ℕ, ◌≡◌, ◌⊎◌, Some}
use Rattle.std.specs.FinMap.{get}
use Rattle.mea_share_model.specs.Next.{waiting_in}
use Rattle.mea_share_model.specs.Admissions.{Admission, ShareHall}

-- nobody waits at this admission, or none of its permits is free
abbrev pub IsSettled : Admission → Type 0
IsSettled r = (r.free ≡ 0) ⊎ (waiting_in r.shares ≡ 0)

-- so it is at each admission
abbrev pub AreSettled : ShareHall → Type 0
AreSettled h = (o : ℕ) (r : Admission) → get h.admissions o ≡ Some r → IsSettled r
