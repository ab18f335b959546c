-- how many wakers are registered after an event
use Rattle.std.proofs.Common.{◌≡◌, ℕ, ◌+◌, ◌≤◌, Bool, true, false, cond, length, ap, arith}
use Rattle.mea_base.proofs.Totals.{total-empty}
use Rattle.mea_family.specs.Family.{Outcome}
use Rattle.mea_events.specs.declared.meet_event.MeetEvent.{MeetEvent}
use Rattle.mea_meet_model.specs.Barriers as barriers
use Rattle.mea_meet_model.specs.Barriers.{Barrier}
use Rattle.mea_meet_model.specs.Counts as counts
use Rattle.mea_meet_model.specs.Counts.{Point}
use Rattle.mea_meet_model.specs.Hall.{Hall, Latches, Groups, Shutdowns, empty_hall, registered}
use Rattle.mea_meet_model.specs.Meaning.{Meaning, OnBarriers, OnCounts, meaning_of}
use Rattle.mea_meet_model.specs.Step.{step_by, step, registers_by, registers}
use Rattle.mea_meet_model.proofs.CountActing.{settles}
use Rattle.mea_meet_model.proofs.BarrierActing.{barriers_counted}

-- after an event no more than so many wakers are registered or woken, and no more are woken than were registered
pub record HallSettles (h : Hall) (o : Outcome Hall) (extra : ℕ) : Type 0 where
  pub most : length o.wakes ≤ registered h
  pub grows : registered o.hall + length o.wakes ≤ registered h + extra

module _ (h : Hall) (i : ℕ) where
  by_meaning : (d : Meaning) → HallSettles h (step_by h i d) (cond (registers_by d) 1 0)
  by_meaning (OnBarriers a) = let it = barriers_counted h.barriers i a in record { most = omega (arith, it.most); grows = omega (arith, it.grows) }
  by_meaning (OnCounts Latches a) = let it = settles h.latches i a in record { most = omega (arith, it.most); grows = omega (arith, it.grows) }
  by_meaning (OnCounts Groups a) = let it = settles h.groups i a in record { most = omega (arith, it.most); grows = omega (arith, it.grows) }
  by_meaning (OnCounts Shutdowns a) = let it = settles h.shutdowns i a in record { most = omega (arith, it.most); grows = omega (arith, it.grows) }

  pub all : (e : MeetEvent) → HallSettles h (step h i e) (cond (registers e) 1 0)
  all e = by_meaning (meaning_of e)

pub at_most_one : (b : Bool) → cond b 1 0 ≤ 1
at_most_one true = omega arith
at_most_one false = omega arith

pub grows : (h : Hall) (i : ℕ) (e : MeetEvent) → registered (step h i e).hall + length (step h i e).wakes ≤ registered h + 1
grows h i e = omega (arith, (all h i e).grows, at_most_one (registers e))

pub falls : (h : Hall) (i : ℕ) (e : MeetEvent) → registers e ≡ false → registered (step h i e).hall + length (step h i e).wakes ≤ registered h
falls h i e none = let nothing : ◌≡◌ {A = ℕ} (cond (registers e) 1 0) 0 = ap (λ b. cond b 1 0) none in omega (arith, (all h i e).grows, nothing)

-- in an empty hall no waker is registered
pub none_registered : registered empty_hall ≡ 0
none_registered =
    let none_at_barriers : barriers.registered barriers.no_barriers ≡ 0 = total-empty (λ b (x : Barrier). length x.waiting) in
    let none_at_counts : counts.registered counts.no_counts ≡ 0 = total-empty (λ o (r : Point). length r.signal.waiting + length r.members.waiting) in
    omega arith
