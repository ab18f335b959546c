-- the things of a hall that an event can end, and how an event changes their number
use Rattle.std.specs.Prelude.{ℕ, ◌+◌, ◌-◌, Bool, true, false, if◌then◌else◌}
use Rattle.mea_sem_model.specs.Waiters.{registers}
use Rattle.std.specs.Ordering.{nat_cmp}
use Rattle.std.specs.FinMap.{FinMap}
use Rattle.mea_base.specs.Totals.{total}
use Rattle.mea_events.specs.declared.sem_event.SemEvent.{SemEvent}
use Rattle.mea_events.specs.declared.sem_event.SemEvent.TheVariants as events
use Rattle.mea_sem_model.specs.Hall.{Hall}

-- how many names a map has
abbrev pub size : {X : Type 0} → FinMap nat_cmp X → ℕ
size {X} m = total {X = X} (λ k x. 1) m

-- how many futures and permits live
abbrev pub things : Hall → ℕ
things h = size h.futures + size h.permits

-- whether an event may make one more
abbrev pub makes : SemEvent → Bool
makes (events.Try s n) = true
makes (events.Tryo s n) = true
makes (events.Acq s n) = true
makes (events.Acqo s n) = true
makes (events.Acqf s n) = true
makes (events.Acqof s n) = true
makes (events.Split p n) = true
makes _ = false

-- whether an event leaves one fewer
abbrev pub ends : SemEvent → Bool
ends (events.End x) = true
ends (events.Lose p) = true
ends (events.Merge p q) = true
ends _ = false

-- how many live at most after an event, of at most n before it
abbrev pub living_after : ℕ → SemEvent → ℕ
living_after n e = if ends e then n - 1 else n + (if makes e then 1 else 0)

-- how many more futures an event can make wait
abbrev pub wakes_more : SemEvent → ℕ
wakes_more e = if registers e then 1 else 0
