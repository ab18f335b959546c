-- what is said of the meeting points of one kind, and of all
use Rattle.std.proofs.Common.{◌≡◌, ℕ, ◌+◌, ◌≤◌, Bool, true, false, Some, None, refl, ap, subst, arith}
use Rattle.std.specs.FinMap.{get}
use Rattle.mea_family.specs.Causes.{borrowed_by}
use Rattle.mea_family.specs.declared.answer.Answer.{Answer}
use Rattle.mea_base.specs.Ready.{Waking}
use Rattle.mea_family.specs.Play.{Part, PartYields}
use Rattle.mea_events.specs.declared.meet_event.MeetEvent.{MeetEvent}
use Rattle.mea_meet_model.specs.Barriers.{Barriers}
use Rattle.mea_meet_model.specs.Counts.{Counts, Wait, is_holder, borrowers_of, borrows}
use Rattle.mea_meet_model.specs.Hall.{Latches, Groups, Shutdowns, registered as all_registered}
use Rattle.mea_meet_model.specs.Meaning.{Meaning, OnBarriers, OnCounts, meaning_of}
use Rattle.mea_meet_model.specs.Step.{step, step_by}
use Rattle.mea_meet_model.proofs.CountEvents.{none_borrows}
use Rattle.mea_family.proofs.Refusals.{not_borrowed}
use Rattle.mea_meet.specs.Halls.{hall_of, AreBelow, PlaysBy}

-- a holder that may end is borrowed by none
pub borrowed_by_none : (h : Counts) (k : ℕ) → borrowed_by (is_holder h k) (borrowers_of h k) ≡ None → (f : ℕ) (y : Wait) → get h.waits f ≡ Some y → borrows y.awaits k ≡ false
borrowed_by_none h k allowed f y is = at (borrows y.awaits k) refl
  where
    at : (b : Bool) → borrows y.awaits k ≡ b → borrows y.awaits k ≡ false
    at false mine = mine
    at true mine = absurd (none_borrows h k (not_borrowed (is_holder h k) (borrowers_of h k) allowed) f y is mine)

-- ---- what an event leaves
-- a part of which nothing has changed has no greater next number
stays_below : {H : Type 0} (p p' : Part H) (i : ℕ) → p' ≡ p → p.next ≤ i → p'.next ≤ i + 1
stays_below {H} p p' i same below = omega (arith, ap (λ (p : Part H). p.next) same)

-- one that an event changed has the number of the next event
goes_on : {H : Type 0} (p : Part H) (i : ℕ) (h : H) → p ≡ record { hall = h; next = i + 1 } → p.next ≤ i + 1
goes_on {H} p i h moved = omega (arith, ap (λ (p : Part H). p.next) moved)

module _ (b : Part Barriers) (l g s : Part Counts) (b' : Part Barriers) (l' g' s' : Part Counts) (before after : Waking ℕ) (i : ℕ) (answer : Answer) where
  -- after an event the parts have seen no number from that of the next one on
  pub below_after : AreBelow b l g s i → (d : Meaning) → PlaysBy d b l g s i answer b' l' g' s' before after → AreBelow b' l' g' s' (i + 1)
  below_after held (OnBarriers a) one = record {
    barriers = goes_on b' i _ one.yields.moved;
    latches = stays_below l l' i one.latches held.latches;
    groups = stays_below g g' i one.groups held.groups;
    shutdowns = stays_below s s' i one.shutdowns held.shutdowns;
  }
  below_after held (OnCounts Latches a) one = record {
    barriers = stays_below b b' i one.barriers held.barriers;
    latches = goes_on l' i _ one.yields.moved;
    groups = stays_below g g' i one.first held.groups;
    shutdowns = stays_below s s' i one.second held.shutdowns;
  }
  below_after held (OnCounts Groups a) one = record {
    barriers = stays_below b b' i one.barriers held.barriers;
    latches = stays_below l l' i one.first held.latches;
    groups = goes_on g' i _ one.yields.moved;
    shutdowns = stays_below s s' i one.second held.shutdowns;
  }
  below_after held (OnCounts Shutdowns a) one = record {
    barriers = stays_below b b' i one.barriers held.barriers;
    latches = stays_below l l' i one.first held.latches;
    groups = stays_below g g' i one.second held.groups;
    shutdowns = goes_on s' i _ one.yields.moved;
  }

  module _ (next : ℕ) where
    abbrev Yielded : Meaning → Type 0
    Yielded d = PartYields all_registered (record { hall = hall_of b l g s; next = next }) i (step_by (hall_of b l g s) i d) answer (record { hall = hall_of b' l' g' s'; next = i + 1 }) before after

    yields_by : (d : Meaning) → PlaysBy d b l g s i answer b' l' g' s' before after → Yielded d
    yields_by (OnBarriers a) one = record {
      replied = one.yields.replied;
      moved = λ j. record { hall = hall_of (one.yields.moved j) (one.latches j) (one.groups j) (one.shutdowns j); next = i + 1 };
      woken = one.yields.woken;
      counted = omega (arith, one.yields.counted);
    }
    yields_by (OnCounts Latches a) one = record {
      replied = one.yields.replied;
      moved = λ j. record { hall = hall_of (one.barriers j) (one.yields.moved j) (one.first j) (one.second j); next = i + 1 };
      woken = one.yields.woken;
      counted = omega (arith, one.yields.counted);
    }
    yields_by (OnCounts Groups a) one = record {
      replied = one.yields.replied;
      moved = λ j. record { hall = hall_of (one.barriers j) (one.first j) (one.yields.moved j) (one.second j); next = i + 1 };
      woken = one.yields.woken;
      counted = omega (arith, one.yields.counted);
    }
    yields_by (OnCounts Shutdowns a) one = record {
      replied = one.yields.replied;
      moved = λ j. record { hall = hall_of (one.barriers j) (one.first j) (one.second j) (one.yields.moved j); next = i + 1 };
      woken = one.yields.woken;
      counted = omega (arith, one.yields.counted);
    }

    -- what was played on the parts was played on the hall
    pub yields_all : (e : MeetEvent) (d : Meaning) → d ≡ meaning_of e → PlaysBy d b l g s i answer b' l' g' s' before after
        → PartYields all_registered (record { hall = hall_of b l g s; next = next }) i (step (hall_of b l g s) i e) answer (record { hall = hall_of b' l' g' s'; next = i + 1 }) before after
    yields_all e d is plays = subst Yielded is (yields_by d plays)
