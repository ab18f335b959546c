-- what the parts of a job service keep to
use Rattle.std.specs.Prelude.{ℕ, ◌≡◌, ◌+◌, ◌<◌, ◌≤◌, true, false, cond, List, [], ◌∷◌, Option, None}
use Rattle.std.specs.FinMap.{empty, len}
use Rattle.mea_sets.specs.declared.place.Place.{Place}
use Rattle.mea_sets.specs.WaitSet.{Registered, has_given, is_registered}
use Rattle.mea_chan_core.specs.Channel.{Channel, no_senders}
use Rattle.mea_meet_core.specs.Shutdown.{Shutdown}
use Rattle.mea_job_core.specs.Work.{Work, IsAbove}

-- nobody waits, or one, whose place this is
abbrev pub HasOne : {W : Type 0} → Registered W → List W → Option Place → Type 0
HasOne s [] place = Unit {0}
HasOne s (w ∷ []) place = is_registered s place ≡ true
HasOne s (w ∷ v ∷ ws) place = ⊥

-- the wait for the last receiver is one of the shutdown's, and the only one
pub record IsOnly {W : Type 0} (s : Registered W) (place : Option Place) : Type 0 where
  pub given : has_given s place ≡ true
  pub one : HasOne s s.wakers place

-- results are sent through a channel for which nobody waits
pub record IsQuiet {T W : Type 0} (c : Channel T W) : Type 0 where
  pub senders : c.senders ≡ 1
  pub lives : c.ended ≡ false
  pub waker : c.waker ≡ None
  pub waiting : c.waiting ≡ no_senders
  pub wakes : c.wakes ≡ []

-- the shutdown has its own receiver until the stop, and one for each job that is queued or runs; nobody waits for it after the
-- last of them is gone
pub record IsShut {W : Type 0} (s : Shutdown W) (w : Work) : Type 0 where
  pub signal : s.signal.number ≡ cond w.stopped 0 1
  pub nobody : s.signal.waiting.wakers ≡ []
  pub receivers : s.receivers.number ≡ cond w.stopped 0 1 + len w.queued + len w.running
  pub over : s.receivers.number ≡ 0 → s.receivers.waiting.wakers ≡ []

-- how many jobs there may be and how many there were
pub record IsCounted (w : Work) (most_queued next finished returned : ℕ) : Type 0 where
  pub few : len w.queued ≤ most_queued
  pub fits : w.permits + most_queued < 4294967295
  pub above : IsAbove w next
  pub sum : len w.running + len w.queued + finished + returned ≤ next
  pub last : next ≤ 18446744073709551615
  pub halted : w.stopped ≡ true → w.queued ≡ empty
