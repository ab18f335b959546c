-- what a hall sees of the core of a point that counts: that of each kind is seen as a shutdown
use Rattle.std.specs.Prelude.{ℕ, ◌+◌, ◌++◌, Bool, [], length, if◌then◌else◌}
use Rattle.mea_by_name.specs.declared.named_waker.NamedWaker.{NamedWaker}
use Rattle.mea_sets.specs.Countdown as cores
use Rattle.mea_sets.specs.Countdown.{Counting, count_from, decreased, woken_by}
use Rattle.mea_meet_core.specs.Count.{increased}
use Rattle.mea_meet_core.specs.Shutdown.{Shutdown, without_receiver}
use Rattle.mea_meet_model.specs.Counts.{New, End, OfSignal, OfMembers}

-- a shutdown whose wakers carry the names of their futures
abbrev pub NamedPoint : Type 0
NamedPoint = Shutdown NamedWaker

-- a latch is one that has no receiver, and a wait group one whose signal is set
abbrev pub latch_seen : Counting NamedWaker → NamedPoint
latch_seen c = record { signal = c.count; receivers = count_from 0; wakes = c.wakes }

abbrev pub group_seen : Counting NamedWaker → NamedPoint
group_seen c = record { signal = count_from 0; receivers = c.count; wakes = c.wakes }

-- a new point, that nobody waits for
abbrev pub point_from : New → NamedPoint
point_from new = record { signal = count_from new.signal; receivers = count_from new.members; wakes = [] }

abbrev pub count_at : End → NamedPoint → cores.Count NamedWaker
count_at OfSignal p = p.signal
count_at OfMembers p = p.receivers

abbrev pub with_count : End → NamedPoint → cores.Count NamedWaker → NamedPoint
with_count OfSignal p c = record p { signal = c }
with_count OfMembers p c = record p { receivers = c }

-- n was taken from the signal
abbrev pub arrived : NamedPoint → ℕ → NamedPoint
arrived p n = record p { signal = decreased p.signal n; wakes = p.wakes ++ woken_by p.signal n }

-- a holder more, and one less, which is counted or is not
abbrev pub joined : NamedPoint → Bool → NamedPoint
joined p counted = record p { receivers = if counted then increased p.receivers else p.receivers }

abbrev pub parted : NamedPoint → Bool → NamedPoint
parted p counted = if counted then without_receiver p else p

-- no waker is ready
abbrev pub handed_on : NamedPoint → NamedPoint
handed_on p = record p { wakes = [] }

-- how many wakers a point keeps
abbrev pub kept_by : NamedPoint → ℕ
kept_by p = length p.signal.waiting.wakers + length p.receivers.waiting.wakers
