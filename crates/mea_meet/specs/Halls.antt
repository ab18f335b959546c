-- the meeting points of all kinds, and what an event does to them
use Rattle.std.specs.Prelude.{ℕ, ◌≡◌, ◌≤◌, None, Result, Ok, Err}
use Rattle.mea_family.specs.declared.answer.Answer.{Answer}
use Rattle.mea_family.specs.declared.stop.Stop.{Stop}
use Rattle.mea_base.specs.Ready.{Waking}
use Rattle.mea_family.specs.Play.{Part, PartYields}
use Rattle.mea_events.specs.declared.meet_event.MeetEvent.{MeetEvent}
use Rattle.mea_meet_model.specs.Barriers as barriers
use Rattle.mea_meet_model.specs.Barriers.{Barriers}
use Rattle.mea_meet_model.specs.Counts as counts
use Rattle.mea_meet_model.specs.Counts.{Counts}
use Rattle.mea_meet_model.specs.CountActions.{Action, Number, Try, Now, Arrive, EndHolder, EndWait, EndEither, Send, EndSender, cause_in, act_in}
use Rattle.mea_meet_model.specs.declared.barrier_action.BarrierAction.{BarrierAction}
use Rattle.mea_meet_model.specs.declared.barrier_action.BarrierAction.TheVariants.{End, Drop}
use Rattle.mea_meet_model.specs.BarrierActions.{cause_at, act_at}
use Rattle.mea_meet_model.specs.Hall.{Hall, Latches, Groups, Shutdowns}
use Rattle.mea_meet_model.specs.Meaning.{Meaning, OnBarriers, OnCounts, meaning_of}
use Rattle.mea_meet_model.specs.Cause.{cause_by}
use Rattle.mea_family.specs.Acts.{Refuses, Acts, ActsQuietly}

abbrev pub hall_of : Part Barriers → Part Counts → Part Counts → Part Counts → Hall
hall_of b l g s = record { barriers = b.hall; latches = l.hall; groups = g.hall; shutdowns = s.hall }

-- no next number is above n
pub record AreBelow (b : Part Barriers) (l g s : Part Counts) (n : ℕ) : Type 0 where
  pub barriers : b.next ≤ n
  pub latches : l.next ≤ n
  pub groups : g.next ≤ n
  pub shutdowns : s.next ≤ n

-- event number i did this to barriers, and nothing to points that count
pub record PlaysBarriers (b : Part Barriers) (l g s : Part Counts) (i : ℕ) (a : BarrierAction) (answer : Answer) (b' : Part Barriers) (l' g' s' : Part Counts) (before after : Waking ℕ) : Type 0 where
  pub yields : PartYields barriers.registered b i (act_at b.hall i a) answer b' before after
  pub latches : l' ≡ l
  pub groups : g' ≡ g
  pub shutdowns : s' ≡ s

-- event number i did this to points of one kind, and nothing to those of the other two and to barriers
pub record PlaysCounts (old x y : Part Counts) (b : Part Barriers) (i : ℕ) (a : Action) (answer : Answer) (new x' y' : Part Counts) (b' : Part Barriers) (before after : Waking ℕ) : Type 0 where
  pub yields : PartYields counts.registered old i (act_in old.hall i a) answer new before after
  pub first : x' ≡ x
  pub second : y' ≡ y
  pub barriers : b' ≡ b

-- what a line means was done
abbrev pub PlaysBy : Meaning → Part Barriers → Part Counts → Part Counts → Part Counts → ℕ → Answer → Part Barriers → Part Counts → Part Counts → Part Counts → Waking ℕ → Waking ℕ → Type 0
PlaysBy (OnBarriers a) b l g s i answer b' l' g' s' before after = PlaysBarriers b l g s i a answer b' l' g' s' before after
PlaysBy (OnCounts Latches a) b l g s i answer b' l' g' s' before after = PlaysCounts l g s b i a answer l' g' s' b' before after
PlaysBy (OnCounts Groups a) b l g s i answer b' l' g' s' before after = PlaysCounts g l s b i a answer g' l' s' b' before after
PlaysBy (OnCounts Shutdowns a) b l g s i answer b' l' g' s' before after = PlaysCounts s l g b i a answer s' l' g' b' before after

-- ---- what an action comes to
-- the actions that take no memory
abbrev pub IsFreeAt : BarrierAction → Type 0
IsFreeAt (End f) = Unit {0}
IsFreeAt (Drop b) = Unit {0}
IsFreeAt _ = ⊥

abbrev pub IsFree : Action → Type 0
IsFree (Number k) = Unit {0}
IsFree (Try k) = Unit {0}
IsFree (Now k) = Unit {0}
IsFree (Arrive k n) = Unit {0}
IsFree (EndHolder k) = Unit {0}
IsFree (EndWait f) = Unit {0}
IsFree (EndEither x) = Unit {0}
IsFree (Send s) = Unit {0}
IsFree (EndSender s) = Unit {0}
IsFree _ = ⊥

-- what a line means takes no memory
abbrev pub IsFreeBy : Meaning → Type 0
IsFreeBy (OnBarriers a) = IsFreeAt a
IsFreeBy (OnCounts k a) = IsFree a

-- the events that take no memory
abbrev pub TakesNoMemory : MeetEvent → Type 0
TakesNoMemory e = IsFreeBy (meaning_of e)

-- event number i asked this of barriers: it was done; or refused, and nothing has changed
abbrev pub BarrierActs : Part Barriers → ℕ → BarrierAction → Result Answer Stop → Part Barriers → Waking ℕ → Waking ℕ → Type 0
BarrierActs old i a = Acts barriers.registered (cause_at old.hall a) (IsFreeAt a) old i (act_at old.hall i a)

-- and no waker was made ready
abbrev pub BarrierActsQuietly : Part Barriers → ℕ → BarrierAction → Result Answer Stop → Part Barriers → Type 0
BarrierActsQuietly old i a = ActsQuietly barriers.registered (cause_at old.hall a) (IsFreeAt a) old i (act_at old.hall i a)

-- it asked this of the points of one kind that count
abbrev pub CountActs : Part Counts → ℕ → Action → Result Answer Stop → Part Counts → Waking ℕ → Waking ℕ → Type 0
CountActs old i a = Acts counts.registered (cause_in old.hall a) (IsFree a) old i (act_in old.hall i a)

-- and no waker was made ready
abbrev pub CountActsQuietly : Part Counts → ℕ → Action → Result Answer Stop → Part Counts → Type 0
CountActsQuietly old i a = ActsQuietly counts.registered (cause_in old.hall a) (IsFree a) old i (act_in old.hall i a)

-- it asked what a line means
abbrev pub ActsBy : Meaning → Part Barriers → Part Counts → Part Counts → Part Counts → ℕ → Result Answer Stop → Part Barriers → Part Counts → Part Counts → Part Counts → Waking ℕ → Waking ℕ → Type 0
ActsBy d b l g s i (Ok answer) b' l' g' s' before after = (cause_by (hall_of b l g s) d ≡ None) × PlaysBy d b l g s i answer b' l' g' s' before after
ActsBy d b l g s i (Err stop) b' l' g' s' before after = Refuses (cause_by (hall_of b l g s) d) (IsFreeBy d) stop × (b' ≡ b) × (l' ≡ l) × (g' ≡ g) × (s' ≡ s) × (after ≡ before)
