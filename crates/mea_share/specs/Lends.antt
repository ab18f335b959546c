-- the core that a hall lends, and what it tells of all admissions
use Rattle.std.specs.Prelude.{ℕ, ◌≡◌, ◌⊎◌, true, Some}
use Rattle.std.specs.FinMap.{get}
use Rattle.mea_share_core.specs.Fair.{Fair}
use Rattle.mea_share_model.specs.Next.{waiting_in}
use Rattle.mea_share_model.specs.Admissions.{Admission, ShareHall}
use Rattle.mea_share.specs.Kept.{shares_seen}

-- the same free permits and next number, and each key has the same
abbrev pub StandsFor : ShareHall → ℕ → Fair ℕ ℕ → Type 0
StandsFor h o f = get h.admissions o ≡ Some (record { free = f.free; next = f.next; shares = shares_seen f.shares; named = true })

-- no permit of an admission is free, or nobody waits
abbrev pub AreSettled : ShareHall → Type 0
AreSettled h = (o : ℕ) (r : Admission) → get h.admissions o ≡ Some r → (r.free ≡ 0) ⊎ (waiting_in r.shares ≡ 0)
