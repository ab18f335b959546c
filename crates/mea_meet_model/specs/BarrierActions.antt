-- what can be done to barriers by name: why it is refused, and what it does
use Rattle.std.specs.Prelude.{ℕ, ◌==◌, Bool, true, false, cond, Option, Some, None}
use Rattle.std.specs.FinMap.{get}
use Rattle.mea_family.specs.declared.stop.Stop.{Stop}
use Rattle.mea_family.specs.Causes.{unknown_unless, borrowed_by}
use Rattle.mea_family.specs.Family.{Outcome}
use Rattle.mea_family.specs.Play.{found}
use Rattle.mea_meet_model.specs.Barriers as barriers
use Rattle.mea_meet_model.specs.Barriers.{Barriers, is_barrier, is_wait, waits_of}
pub use Rattle.mea_meet_model.specs.declared.barrier_action.BarrierAction.{BarrierAction}
pub use Rattle.mea_meet_model.specs.declared.barrier_action.BarrierAction.TheVariants.{Make, Begin, Poll, End, Drop}

-- why an action is refused; none where it is not
abbrev pub cause_at : Barriers → BarrierAction → Option Stop
cause_at h (Make n) = None
cause_at h (Begin b) = unknown_unless (is_barrier h b)
cause_at h (Poll f w) = unknown_unless (is_wait h f)
cause_at h (End f) = unknown_unless (is_wait h f)
cause_at h (Drop b) = borrowed_by (is_barrier h b) (waits_of h b)

-- what is done under number i
abbrev pub act_at : Barriers → ℕ → BarrierAction → Outcome Barriers
act_at h i (Make n) = barriers.make h i n
act_at h i (Begin b) = barriers.begin h i b
act_at h i (Poll f w) = found (get h.waits f) h (λ x. found (get h.barriers x.barrier) h (barriers.poll h f w x))
act_at h i (End f) = barriers.end h f
act_at h i (Drop b) = barriers.drop h b

-- the waker with which f is polled, if it is
abbrev pub polled_at : BarrierAction → ℕ → Option ℕ
polled_at (Poll g w) f = cond (g == f) (Some w) None
polled_at _ f = None

-- whether f is ended
abbrev pub ends_at : BarrierAction → ℕ → Bool
ends_at (End g) f = g == f
ends_at _ f = false

-- whether a waker may be registered
abbrev pub registers_at : BarrierAction → Bool
registers_at (Poll f w) = true
registers_at _ = false
