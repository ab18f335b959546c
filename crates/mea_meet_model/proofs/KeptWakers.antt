-- the meeting points keep the wakers of who waits, in every hall that events reach
use Rattle.std.proofs.Common.{◌≡◌, ℕ, ◌<◌, ◌≤◌, true, Some, None}
use Rattle.std.specs.FinMap.{get}
use Rattle.mea_base.proofs.Maps.{value_in}
use Rattle.mea_family.specs.Family.{RunOf, IsRun, LosesNoWake, KeepsWakers, NamesFutures}
use Rattle.mea_family.specs.declared.answer.Answer.TheVariants as answers
use Rattle.mea_family.proofs.Wakes as wakes
use Rattle.mea_family.proofs.Causes.{known}
use Rattle.mea_meet_model.specs.Barriers as barriers
use Rattle.mea_meet_model.specs.BarrierActions.{BarrierAction, act_at, cause_at, polled_at}
use Rattle.mea_meet_model.specs.Counts as counts
use Rattle.mea_meet_model.specs.CountActions.{Action, act_in, cause_in, polled_in}
use Rattle.mea_meet_model.specs.Hall.{Hall, Kind, Latches, Groups, Shutdowns, part}
use Rattle.mea_meet_model.specs.Meaning.{Meaning, OnBarriers, OnCounts, meaning_of}
use Rattle.mea_meet_model.specs.Cause.{cause_by}
use Rattle.mea_meet_model.specs.Step.{step_by}
use Rattle.mea_meet_model.specs.Meets.{Sort, AtBarrier, Of, polled_by, ends_by, lives_as, placed_as, meets}
use Rattle.mea_meet_model.specs.Valid.{HasCounts, IsValid}
use Rattle.mea_meet_model.proofs.CountWakes as at_counts
use Rattle.mea_meet_model.proofs.CountWakes.{PartActs, rests, counts_act}
use Rattle.mea_meet_model.proofs.BarrierWakes as at_barriers
use Rattle.mea_meet_model.proofs.BarrierWakes.{barriers_act}
use Rattle.mea_meet_model.proofs.EachEvent.{valid_run}

-- ---- what an event makes of the futures of each sort
module _ (h : Hall) (n i : ℕ) (v : IsValid h n) (later : n ≤ i) where
  acts : (d : Meaning) → cause_by h d ≡ None → (s : Sort) → PartActs (polled_by d s) (ends_by d s) i (lives_as h s) (lives_as (step_by h i d).hall s) (placed_as h s) (placed_as (step_by h i d).hall s) (step_by h i d).wakes
  acts (OnBarriers a) allowed AtBarrier = barriers_act h.barriers n i v.barriers later a allowed
  acts (OnCounts Latches a) allowed (Of Latches) = counts_act h.latches n i v.latches later a
  acts (OnCounts Groups a) allowed (Of Groups) = counts_act h.groups n i v.groups later a
  acts (OnCounts Shutdowns a) allowed (Of Shutdowns) = counts_act h.shutdowns n i v.shutdowns later a
  acts d allowed s = rests i (lives_as h s) (placed_as h s) (step_by h i d).wakes

-- ---- whom an event polls is of its sort
data PolledAs (f w : ℕ) : Meaning → Sort → Type 0 where
  AtIt : (a : BarrierAction) → polled_at a f ≡ Some w → PolledAs f w (OnBarriers a) AtBarrier
  ForIt : (k : Kind) (a : Action) → polled_in a f ≡ Some w → PolledAs f w (OnCounts k a) (Of k)

polled_as : (d : Meaning) (s : Sort) (f w : ℕ) → polled_by d s f ≡ Some w → PolledAs f w d s
polled_as (OnBarriers a) AtBarrier f w is = AtIt a is
polled_as (OnCounts Latches a) (Of Latches) f w is = ForIt Latches a is
polled_as (OnCounts Groups a) (Of Groups) f w is = ForIt Groups a is
polled_as (OnCounts Shutdowns a) (Of Shutdowns) f w is = ForIt Shutdowns a is
polled_as _ _ f w is = absurd (cc)

-- those of a kind are valid
part_valid : (h : Hall) (n : ℕ) → IsValid h n → (k : Kind) → HasCounts (part h k) n
part_valid h n v Latches = v.latches
part_valid h n v Groups = v.groups
part_valid h n v Shutdowns = v.shutdowns

module _ (h : Hall) (i : ℕ) (f w : ℕ) where
  -- a poll that replies `pending` places its waker
  placed_after : (k : Kind) (a : Action) → counts.placed (act_in (part h k) i a).hall f ≡ Some w → placed_as (step_by h i (OnCounts k a)).hall (Of k) f ≡ Some w
  placed_after Latches a is = is
  placed_after _ a is = is

  places : (d : Meaning) (s : Sort) → PolledAs f w d s → (step_by h i d).reply ≡ answers.Pending → placed_as (step_by h i d).hall s f ≡ Some w
  places _ _ (AtIt a is) = at_barriers.same_poll a f w (λ a. (act_at h.barriers i a).reply ≡ answers.Pending → barriers.placed (act_at h.barriers i a).hall f ≡ Some w) (at_barriers.places h.barriers i f w) is
  places _ _ (ForIt k a is) = λ pending. placed_after k a (at_counts.same_poll a f w (λ a. (act_in (part h k) i a).reply ≡ answers.Pending → counts.placed (act_in (part h k) i a).hall f ≡ Some w) (at_counts.places (part h k) i f w) is pending)

  -- while a waker is placed, a poll replies `pending`
  waits : (n : ℕ) → IsValid h n → (u : ℕ) (d : Meaning) (s : Sort) → PolledAs f w d s → placed_as h s f ≡ Some u → (step_by h i d).reply ≡ answers.Pending
  waits n v u _ _ (AtIt a is) has = at_barriers.same_poll a f w (λ a. (act_at h.barriers i a).reply ≡ answers.Pending) (at_barriers.waits h.barriers i n v.barriers f u w has) is
  waits n v u _ _ (ForIt k a is) has = at_counts.same_poll a f w (λ a. (act_in (part h k) i a).reply ≡ answers.Pending) (at_counts.waits (part h k) i n (part_valid h n v k) f u w has) is

  -- who is polled lives
  polls : (d : Meaning) (s : Sort) → PolledAs f w d s → cause_by h d ≡ None → lives_as h s f ≡ true
  polls _ _ (AtIt a is) = at_barriers.same_poll a f w (λ a. cause_at h.barriers a ≡ None → barriers.is_wait h.barriers f ≡ true) (known (barriers.is_wait h.barriers f)) is
  polls _ _ (ForIt k a is) = at_counts.same_poll a f w (λ a. cause_in (part h k) a ≡ None → counts.is_wait (part h k) f ≡ true) (known (counts.is_wait (part h k) f)) is

below : (h : Hall) (n : ℕ) → IsValid h n → (s : Sort) (f : ℕ) → lives_as h s f ≡ true → f < n
below h n v AtBarrier f living = let it = value_in (get h.barriers.waits f) living in (v.barriers.waits.at f it.0 it.1).0
below h n v (Of k) f living = let it = value_in (get (part h k).waits f) living in ((part_valid h n v k).waits.at f it.0 it.1).0

pub keeps : KeepsWakers meets
keeps = record {
  places = λ r i e runs later cause f w is pending. places r.hall i f.name w (meaning_of e) f.sort (polled_as (meaning_of e) f.sort f.name w is) pending;
  waits = λ r i e runs f w u living has is. waits r.hall i f.name u r.next (valid_run r runs) w (meaning_of e) f.sort (polled_as (meaning_of e) f.sort f.name u is) has;
  wakes = λ r i e runs later cause f w living has silent lasts. (acts r.hall r.next i (valid_run r runs) later (meaning_of e) cause f.sort).wakes f.name w living has silent lasts;
  stays = λ r i e runs later cause f living silent lasts. (acts r.hall r.next i (valid_run r runs) later (meaning_of e) cause f.sort).stays f.name living silent lasts;
  goes = λ r i e runs later cause f is. (acts r.hall r.next i (valid_run r runs) later (meaning_of e) cause f.sort).over f.name is;
}

pub names : NamesFutures meets
names = record {
  polls = λ h e cause f w is. polls h 0 f.name w (meaning_of e) f.sort (polled_as (meaning_of e) f.sort f.name w is) cause;
  below = λ r runs f living. below r.hall r.next (valid_run r runs) f.sort f.name living;
  made = λ r i e runs later cause f living. (acts r.hall r.next i (valid_run r runs) later (meaning_of e) cause f.sort).made f.name living;
}

pub no_wake_is_lost : (r : RunOf meets) → IsRun meets r → LosesNoWake meets r
no_wake_is_lost r runs = wakes.loses_no_wake meets keeps names r runs
