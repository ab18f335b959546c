-- what can be done to meeting points that count, of whichever kind: why it is refused, and what it does
use Rattle.std.specs.Prelude.{ℕ, ◌==◌, Bool, true, false, cond, Option, Some, None, if◌then◌else◌}
use Rattle.std.specs.FinMap.{get}
use Rattle.mea_family.specs.declared.stop.Stop.{Stop}
use Rattle.mea_family.specs.declared.stop.Stop.TheVariants as stops
use Rattle.mea_family.specs.Causes.{unknown_unless, borrowed_by}
use Rattle.mea_family.specs.Family.{Outcome}
use Rattle.mea_family.specs.Play.{found}
use Rattle.mea_meet_model.specs.Counts as counts
use Rattle.mea_meet_model.specs.Counts.{Counts, New, Holder, is_holder, is_sender, is_wait, borrowers_of, point_at}

-- what is done to a point that counts, or to what is of one
pub data Action : Type 0 where
  Make : New → Action
  -- a holder tells the signal's number, or whether it is 0; or takes from it
  Number : ℕ → Action
  Try : ℕ → Action
  Now : ℕ → Action
  Arrive : ℕ → ℕ → Action
  -- a future on the signal, by a holder: whether it is plain
  Begin : ℕ → Bool → Action
  -- a further holder beside another, counted as that is, or never counted
  Join : ℕ → Action
  Watch : ℕ → Action
  -- a holder becomes a future on the end of the members
  Into : ℕ → Action
  EndHolder : ℕ → Action
  -- a further future on the end of the members, beside another
  Copy : ℕ → Action
  Poll : ℕ → ℕ → Action
  EndWait : ℕ → Action
  -- the end of a holder, or else of a future
  EndEither : ℕ → Action
  -- a further sender; a sender takes 1 from the signal, becomes a future on the end of the members, or ends
  CopySender : ℕ → Action
  Send : ℕ → Action
  Await : ℕ → Action
  EndSender : ℕ → Action

-- one more passes what a count can hold
abbrev pub overflow_at : ℕ → Option Stop
overflow_at n = if n == 4294967295 then Some stops.Overflow else None

-- a further counted holder is refused where the count of the members is at its end
abbrev pub join_cause : Counts → Option Holder → Option Stop
join_cause h None = Some stops.Unknown
join_cause h (Some x) = if x.counted then overflow_at (point_at h x.point).members.number else None

-- whether a holder is there and is counted
abbrev pub is_counted : Option Holder → Bool
is_counted None = false
is_counted (Some x) = x.counted

-- why an action is refused; none where it is not
abbrev pub cause_in : Counts → Action → Option Stop
cause_in h (Make new) = None
cause_in h (Number k) = unknown_unless (is_holder h k)
cause_in h (Try k) = unknown_unless (is_holder h k)
cause_in h (Now k) = unknown_unless (is_holder h k)
cause_in h (Arrive k n) = unknown_unless (is_holder h k)
cause_in h (Begin k plain) = unknown_unless (is_holder h k)
cause_in h (Join k) = join_cause h (get h.holders k)
cause_in h (Watch k) = unknown_unless (is_counted (get h.holders k))
cause_in h (Into k) = unknown_unless (is_holder h k)
cause_in h (EndHolder k) = borrowed_by (is_holder h k) (borrowers_of h k)
cause_in h (Copy f) = unknown_unless (is_wait h f)
cause_in h (Poll f w) = unknown_unless (is_wait h f)
cause_in h (EndWait f) = unknown_unless (is_wait h f)
cause_in h (EndEither x) = unknown_unless (if is_holder h x then true else is_wait h x)
cause_in h (CopySender k) = unknown_unless (is_sender h k)
cause_in h (Send k) = unknown_unless (is_sender h k)
cause_in h (Await k) = unknown_unless (is_sender h k)
cause_in h (EndSender k) = unknown_unless (is_sender h k)

-- the end of a future at its point, which is there while the future is
abbrev pub end_by : Counts → ℕ → Outcome Counts
end_by h f = found (get h.waits f) h (λ x. found (get h.points x.point) h (counts.end_wait h f x))

-- the end of a holder at its point
abbrev pub leave_by : Counts → ℕ → Outcome Counts
leave_by h k = found (get h.holders k) h (λ x. found (get h.points x.point) h (counts.end_holder h k x))

-- what is done under number i
abbrev pub act_in : Counts → ℕ → Action → Outcome Counts
act_in h i (Make new) = counts.make h i new
act_in h i (Number k) = found (get h.holders k) h (λ x. found (get h.points x.point) h (counts.number h))
act_in h i (Try k) = found (get h.holders k) h (λ x. found (get h.points x.point) h (counts.try h))
act_in h i (Now k) = found (get h.holders k) h (λ x. found (get h.points x.point) h (counts.now h))
act_in h i (Arrive k n) = found (get h.holders k) h (λ x. found (get h.points x.point) h (counts.arrive h n x.point))
act_in h i (Begin k plain) = found (get h.holders k) h (counts.begin h i k plain)
act_in h i (Join k) = found (get h.holders k) h (λ x. found (get h.points x.point) h (counts.join h i x.point x.counted))
act_in h i (Watch k) = found (get h.holders k) h (λ x. found (get h.points x.point) h (counts.join h i x.point false))
act_in h i (Into k) = found (get h.holders k) h (λ x. found (get h.points x.point) h (counts.into h i k x))
act_in h i (EndHolder k) = leave_by h k
act_in h i (Copy f) = found (get h.waits f) h (counts.copy h i)
act_in h i (Poll f w) = found (get h.waits f) h (λ x. found (get h.points x.point) h (counts.poll h f w x))
act_in h i (EndWait f) = end_by h f
act_in h i (EndEither x) = if is_holder h x then leave_by h x else end_by h x
act_in h i (CopySender k) = found (get h.senders k) h (counts.copy_sender h i)
act_in h i (Send k) = found (get h.senders k) h (λ o. found (get h.points o) h (counts.arrive h 1 o))
act_in h i (Await k) = found (get h.senders k) h (counts.await h i k)
act_in h i (EndSender k) = found (get h.senders k) h (λ o. found (get h.points o) h (counts.end_sender h k o))

-- the waker with which f is polled, if it is
abbrev pub polled_in : Action → ℕ → Option ℕ
polled_in (Poll g w) f = cond (g == f) (Some w) None
polled_in _ f = None

-- whether f is ended
abbrev pub ends_in : Action → ℕ → Bool
ends_in (EndWait g) f = g == f
ends_in (EndEither g) f = g == f
ends_in _ f = false

-- whether a waker may be registered
abbrev pub registers_in : Action → Bool
registers_in (Poll f w) = true
registers_in _ = false
