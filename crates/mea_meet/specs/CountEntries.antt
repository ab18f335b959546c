-- what a hall keeps of a point that counts, and what the calls of its entry do
use Rattle.std.specs.Prelude.{ℕ, ◌≡◌, ◌+◌, ◌<◌, ◌==◌, ◌&&◌, ◌++◌, Bool, length, map, refl}
use Rattle.std.specs.Coded.{Coded, code_by, coded×, coded_ℕ}
use Rattle.mea_base.specs.Ready.{Waking}
use Rattle.mea_by_name.specs.declared.named_waker.NamedWaker.{NamedWaker}
use Rattle.mea_by_name.specs.NamedWaker.{waker_code}
use Rattle.mea_sets.specs.Poll.{Poll, Ready, Pending}
use Rattle.mea_sets.specs.WaitSet.{with_waker, slot_after}
use Rattle.mea_meet_core.specs.Shutdown.{shutdown_code}
use Rattle.mea_meet.specs.declared.count_wait.CountWait.{CountWait}
use Rattle.mea_meet.specs.CountCores.{NamedPoint, count_at, with_count, handed_on, kept_by}
use Rattle.mea_meet.specs.CountWaits.{end_of, slot_of, with_slot}

-- a point, and how many senders, holders and futures it has
pub record KeptPoint : Type 0 where
  pub point : NamedPoint
  pub things : ℕ

abbrev pub kept_point_code : Coded KeptPoint
kept_point_code = code_by (NamedPoint × ℕ) (coded× (shutdown_code waker_code) coded_ℕ) (λ e. (e.point, e.things)) (λ p. record { point = p.0; things = p.1 }) (λ _. refl)

-- it counts as many members as it can, where one more would be counted
abbrev pub is_full : KeptPoint → Bool → Bool
is_full e counted = counted && (e.point.receivers.number == 4294967295)

-- the point became this; its wakers were handed on
pub record Settles (old : KeptPoint) (p : NamedPoint) (new : KeptPoint) (before after : Waking ℕ) : Type 0 where
  pub entry : new ≡ record old { point = handed_on p }
  pub wakers : after.wakers ≡ before.wakers ++ map (λ (k : NamedWaker). k.waker) p.wakes
  pub counted : after.registered + length p.wakes ≡ before.registered

-- a wait was polled with a waker: it is ready where its count has ended, and else the waker is registered
pub record Turns (old : KeptPoint) (x : CountWait) (k : NamedWaker) (turn : Poll (Unit {0})) (new : KeptPoint) (x' : CountWait) : Type 0 where
  pub ready : (count_at (end_of x) old.point).number ≡ 0 → (turn ≡ Ready tt) × (new ≡ old) × (x' ≡ x)
  pub pending : 0 < (count_at (end_of x) old.point).number → (turn ≡ Pending)
      × (new ≡ record old { point = with_count (end_of x) old.point (record (count_at (end_of x) old.point) { waiting = with_waker (count_at (end_of x) old.point).waiting (slot_of x) k }) })
      × (x' ≡ with_slot x (slot_after (count_at (end_of x) old.point).waiting (slot_of x)))

-- and the registered wakers were counted
pub record Polled (old : KeptPoint) (x : CountWait) (k : NamedWaker) (turn : Poll (Unit {0})) (new : KeptPoint) (x' : CountWait) (before after : Waking ℕ) : Type 0 where
  pub turns : Turns old x k turn new x'
  pub wakers : after.wakers ≡ before.wakers
  pub counted : after.registered + kept_by old.point ≡ before.registered + kept_by new.point
