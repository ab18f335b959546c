-- the cores of points that count which a hall lends, and the records that they stand for: the same numbers, and the same
-- who wait, with the same wakers in the same order
use Rattle.std.specs.Prelude.{ℕ, ◌≡◌, Bool, false, Some, is_some, if◌then◌else◌}
use Rattle.std.specs.FinMap.{get}
use Rattle.mea_meet_model.specs.Counts.{Counts, is_holder}
use Rattle.mea_by_name.specs.declared.named_waker.NamedWaker.{NamedWaker}
use Rattle.mea_sets.specs.Countdown.{Counting}
use Rattle.mea_meet.specs.CountCores.{NamedPoint, latch_seen, group_seen}
use Rattle.mea_meet.specs.CountParts.{core_seen}

abbrev pub StandsFor : Counts → ℕ → NamedPoint → Type 0
StandsFor h o p = get h.points o ≡ Some (core_seen p)

abbrev pub StandsForLatch : Counts → ℕ → Counting NamedWaker → Type 0
StandsForLatch h l c = StandsFor h l (latch_seen c)

abbrev pub StandsForGroup : Counts → ℕ → Counting NamedWaker → Type 0
StandsForGroup h g c = StandsFor h g (group_seen c)

abbrev pub StandsForShutdown : Counts → ℕ → NamedPoint → Type 0
StandsForShutdown h s c = StandsFor h s c

-- a latch is named while it is there with the holder that was made with it, which goes when it is dropped
abbrev pub is_named : Counts → ℕ → Bool
is_named h l = if is_holder h l then is_some (get h.points l) else false
