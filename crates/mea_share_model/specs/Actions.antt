-- what can be done to admissions by name: why it is refused, and what it does
use Rattle.std.specs.Prelude.{ℕ, ◌==◌, Bool, true, false, cond, Option, Some, None, if◌then◌else◌}
use Rattle.std.specs.FinMap.{get}
use Rattle.mea_family.specs.declared.answer.Answer.TheVariants as answers
use Rattle.mea_family.specs.declared.stop.Stop.{Stop}
use Rattle.mea_family.specs.declared.stop.Stop.TheVariants as stops
use Rattle.mea_family.specs.Causes.{unknown_unless, borrowed_by}
use Rattle.mea_family.specs.Family.{Outcome, quietly}
use Rattle.mea_family.specs.Play.{found}
use Rattle.mea_share_model.specs.Next.{share_at, waiting_in}
use Rattle.mea_share_model.specs.Admissions as admissions
use Rattle.mea_share_model.specs.Admissions.{ShareHall, ShareFuture, is_named, is_future, is_permit, plain_of}

-- what an event does to admissions
pub data Action : Type 0 where
  -- an admission with so many permits
  Make : ℕ → Action
  -- an admission tells its free permits, how many wait, or the weight of a key
  Free : ℕ → Action
  Waiters : ℕ → Action
  Weight : ℕ → ℕ → Action
  -- a key of it has this weight from now on
  Weigh : ℕ → ℕ → ℕ → Action
  -- a permit of it for a key, where one is free; or a future of one: whether it is plain
  Try : ℕ → ℕ → Bool → Action
  Begin : ℕ → ℕ → Bool → Action
  -- a future is polled with a waker
  Poll : ℕ → ℕ → Action
  -- a permit tells its key
  Key : ℕ → Action
  -- a future or a permit ends
  End : ℕ → Action
  -- an admission loses its name
  Drop : ℕ → Action

-- unknown, unless this is known; and then refused where this number is 0
abbrev pub zero_by : Bool → ℕ → Option Stop
zero_by known n = if known then (if n == 0 then Some stops.Zero else None) else Some stops.Unknown

-- why it is refused
abbrev pub cause_in : ShareHall → Action → Option Stop
cause_in h (Make n) = if n == 0 then Some stops.Zero else None
cause_in h (Free o) = unknown_unless (is_named h o)
cause_in h (Waiters o) = unknown_unless (is_named h o)
cause_in h (Weight o k) = unknown_unless (is_named h o)
cause_in h (Weigh o k n) = zero_by (is_named h o) n
cause_in h (Try o k plain) = unknown_unless (is_named h o)
cause_in h (Begin o k plain) = unknown_unless (is_named h o)
cause_in h (Poll f w) = unknown_unless (is_future h f)
cause_in h (Key p) = unknown_unless (is_permit h p)
cause_in h (End x) = unknown_unless (if is_future h x then true else is_permit h x)
cause_in h (Drop o) = borrowed_by (is_named h o) (plain_of h o)

-- the end of a future, or else of a permit
abbrev pub end_by : ShareHall → ℕ → Option ShareFuture → Outcome ShareHall
end_by h x None = found (get h.permits x) h (λ p. found (get h.admissions p.admission) h (admissions.end_permit h x p))
end_by h x (Some f) = admissions.end_future h x f (get h.admissions f.admission)

-- what is done under number i
abbrev pub act_in : ShareHall → ℕ → Action → Outcome ShareHall
act_in h i (Make n) = admissions.make h i n
act_in h i (Free o) = found (get h.admissions o) h (λ r. quietly h (answers.Free r.free))
act_in h i (Waiters o) = found (get h.admissions o) h (λ r. quietly h (answers.Count (waiting_in r.shares)))
act_in h i (Weight o k) = found (get h.admissions o) h (λ r. quietly h (answers.Count (share_at r.shares k).weight))
act_in h i (Weigh o k n) = found (get h.admissions o) h (admissions.weigh h o k n)
act_in h i (Try o k plain) = found (get h.admissions o) h (admissions.try h i o k plain)
act_in h i (Begin o k plain) = admissions.begin h i o k plain
act_in h i (Poll f w) = found (get h.futures f) h (λ x. found (get h.admissions x.admission) h (admissions.poll h i f w x))
act_in h i (Key p) = found (get h.permits p) h (λ x. quietly h (answers.Key x.key))
act_in h i (End x) = end_by h x (get h.futures x)
act_in h i (Drop o) = found (get h.admissions o) h (admissions.drop h o)

-- the waker with which f is polled, if it is
abbrev pub polled_in : Action → ℕ → Option ℕ
polled_in (Poll g w) f = cond (g == f) (Some w) None
polled_in _ f = None

-- whether f is ended
abbrev pub ends_in : Action → ℕ → Bool
ends_in (End x) f = x == f
ends_in _ f = false

-- whether a waker may be registered
abbrev pub registers_in : Action → Bool
registers_in (Poll f w) = true
registers_in _ = false
