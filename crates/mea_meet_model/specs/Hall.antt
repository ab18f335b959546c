-- the meeting points of all four kinds
use Rattle.std.specs.Prelude.{ℕ, ◌+◌, refl}
use Rattle.std.specs.Coded.{Coded, code_by, coded×}
use Rattle.mea_meet_model.specs.Barriers as barriers
use Rattle.mea_meet_model.specs.Barriers.{Barriers, no_barriers, barriers_code}
use Rattle.mea_meet_model.specs.Counts as counts
use Rattle.mea_meet_model.specs.Counts.{Counts, no_counts, counts_code}

-- those that count are of three kinds
pub data Kind : Type 0 where
  Latches : Kind
  Groups : Kind
  Shutdowns : Kind

-- names are by kind: one number may name a sender and a receiver
pub record Hall : Type 0 where
  pub barriers : Barriers
  pub latches : Counts
  pub groups : Counts
  pub shutdowns : Counts

-- no meeting point
abbrev pub empty_hall : Hall
empty_hall = record { barriers = no_barriers; latches = no_counts; groups = no_counts; shutdowns = no_counts }

-- those of a kind
abbrev pub part : Hall → Kind → Counts
part h Latches = h.latches
part h Groups = h.groups
part h Shutdowns = h.shutdowns

-- those of a kind are these now
abbrev pub with_part : Hall → Kind → Counts → Hall
with_part h Latches p = record h { latches = p }
with_part h Groups p = record h { groups = p }
with_part h Shutdowns p = record h { shutdowns = p }

-- how many wakers are registered, also of futures that have ended
abbrev pub registered : Hall → ℕ
registered h = barriers.registered h.barriers + counts.registered h.latches + counts.registered h.groups + counts.registered h.shutdowns

-- what lets a `Hall` be the value of a model
abbrev pub hall_code : Coded Hall
hall_code =
    code_by (Barriers × (Counts × (Counts × Counts))) (coded× barriers_code (coded× counts_code (coded× counts_code counts_code)))
    (λ h. (h.barriers, (h.latches, (h.groups, h.shutdowns)))) (λ p. record { barriers = p.0; latches = p.1.0; groups = p.1.1.0; shutdowns = p.1.1.1 }) (λ _. refl)
