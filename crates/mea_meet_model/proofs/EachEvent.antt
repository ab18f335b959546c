-- every event keeps a hall valid
use Rattle.std.proofs.Common.{◌≡◌, ℕ, ◌+◌, ◌≤◌, Bool, None, refl, arith}
use Rattle.mea_base.proofs.Maps.{nothing_at}
use Rattle.mea_family.specs.Family.{RunOf, IsRun, Starts, Goes}
use Rattle.mea_events.specs.declared.meet_event.MeetEvent.{MeetEvent}
use Rattle.mea_events.specs.declared.meet_event.MeetEvent.TheVariants as events
use Rattle.mea_meet_model.specs.Counts.{Wait}
use Rattle.mea_meet_model.specs.CountActions.{Begin}
use Rattle.mea_meet_model.specs.Hall.{Hall, Latches, Groups, Shutdowns, empty_hall, part}
use Rattle.mea_meet_model.specs.Meaning.{Meaning, OnBarriers, OnCounts, meaning_of}
use Rattle.mea_meet_model.specs.Cause.{cause_by, cause_of}
use Rattle.mea_meet_model.specs.Step.{step_by, step}
use Rattle.mea_meet_model.specs.Meets.{meets}
use Rattle.mea_meet_model.specs.Valid.{IsValid}
use Rattle.mea_meet_model.proofs.CountsKept.{counts_empty, counts_later}
use Rattle.mea_meet_model.proofs.CountEvents.{MayAct, borrow_nothing}
use Rattle.mea_meet_model.proofs.CountEvents as at_counts
use Rattle.mea_meet_model.proofs.BarriersKept.{barriers_empty, barriers_later}
use Rattle.mea_meet_model.proofs.BarriersKept as at_barriers

pub valid_empty : IsValid empty_hall 0
valid_empty = record { barriers = barriers_empty; latches = counts_empty; groups = counts_empty; members_alone = λ f x is. absurd (nothing_at Wait f x is); shutdowns = counts_empty }

pub valid_later : (h : Hall) (n m : ℕ) → IsValid h n → n ≤ m → IsValid h m
valid_later h n m v later = record {
  barriers = barriers_later h.barriers n m v.barriers later;
  latches = counts_later h.latches n m v.latches later;
  groups = counts_later h.groups n m v.groups later;
  members_alone = v.members_alone;
  shutdowns = counts_later h.shutdowns n m v.shutdowns later;
}

-- what the lines ask for, beside that they have no cause for refusal
abbrev MayDo : Hall → Meaning → Type 0
MayDo h (OnBarriers a) = Unit {0}
MayDo h (OnCounts Groups a) = MayAct h.groups a × ((k : ℕ) (plain : Bool) → a ≡ Begin k plain → ⊥)
MayDo h (OnCounts k a) = MayAct (part h k) a

may_do : (h : Hall) (n : ℕ) → IsValid h n → (e : MeetEvent) → MayDo h (meaning_of e)
may_do h n v (events.LatNew k) = refl
may_do h n v events.SdNew = refl
may_do h n v events.WgNew = (refl, λ k plain is. absurd (cc))
may_do h n v (events.WgClone k) = (tt, λ k plain is. absurd (cc))
may_do h n v (events.WgInto k) = (v.members_alone, λ k plain is. absurd (cc))
may_do h n v (events.WgCopy f) = (tt, λ k plain is. absurd (cc))
may_do h n v (events.WgPoll f w) = (tt, λ k plain is. absurd (cc))
may_do h n v (events.WgEnd x) = (v.members_alone, λ k plain is. absurd (cc))
may_do h n v _ = tt

module _ (h : Hall) (n i : ℕ) (v : IsValid h n) (later : n ≤ i) where
  valid_by : (d : Meaning) → MayDo h d → cause_by h d ≡ None → IsValid (step_by h i d).hall (i + 1)
  valid_by (OnBarriers a) may allowed = let rest = valid_later h n (i + 1) v (omega (arith, later)) in
      record { barriers = at_barriers.keeps h.barriers n i v.barriers later a allowed; latches = rest.latches; groups = rest.groups; members_alone = v.members_alone; shutdowns = rest.shutdowns }
  valid_by (OnCounts Latches a) may allowed = let rest = valid_later h n (i + 1) v (omega (arith, later)) in
      record { barriers = rest.barriers; latches = at_counts.keeps h.latches n i v.latches later a allowed may; groups = rest.groups; members_alone = v.members_alone; shutdowns = rest.shutdowns }
  valid_by (OnCounts Groups a) may allowed = let rest = valid_later h n (i + 1) v (omega (arith, later)) in
      record { barriers = rest.barriers; latches = rest.latches; groups = at_counts.keeps h.groups n i v.groups later a allowed may.0; members_alone = borrow_nothing h.groups i a may.1 v.members_alone; shutdowns = rest.shutdowns }
  valid_by (OnCounts Shutdowns a) may allowed = let rest = valid_later h n (i + 1) v (omega (arith, later)) in
      record { barriers = rest.barriers; latches = rest.latches; groups = rest.groups; members_alone = v.members_alone; shutdowns = at_counts.keeps h.shutdowns n i v.shutdowns later a allowed may }

  pub valid_event : (e : MeetEvent) → cause_of h e ≡ None → IsValid (step h i e).hall (i + 1)
  valid_event e allowed = valid_by (meaning_of e) (may_do h n v e) allowed

-- every hall that events reach is valid
pub valid_run : (r : RunOf meets) → IsRun meets r → IsValid r.hall r.next
valid_run _ Starts = valid_empty
valid_run _ (Goes r i e runs later cause) = valid_event r.hall r.next i (valid_run r runs) later e cause
