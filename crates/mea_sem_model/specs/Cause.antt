-- why an event is refused
use Rattle.std.specs.Prelude.{ℕ, ◌+◌, ◌^◌, ◌==◌, ◌&&◌, not, Bool, true, false, Option, Some, None, is_some, nat_lt, if◌then◌else◌}
use Rattle.std.specs.FinMap as map
use Rattle.mea_family.specs.declared.stop.Stop.{Stop}
use Rattle.mea_family.specs.declared.stop.Stop.TheVariants as stops
use Rattle.mea_family.specs.Causes.{unknown_unless}
use Rattle.mea_events.specs.declared.sem_event.SemEvent.{SemEvent}
use Rattle.mea_events.specs.declared.sem_event.SemEvent.TheVariants.{New, Free, Forget, Forgetx, Release, Try, Tryo, Tryf, Tryof, Acq, Acqo, Acqf, Acqof, Poll, End, Lose, Merge, Split, Size, Endsem, Ledger, Close, Closed}
use Rattle.mea_sem_model.specs.Hall.{Hall, Semaphore, Permit, live, plain_things}

-- whether a semaphore is there and has its name still
abbrev pub is_named_semaphore : Option Semaphore → Bool
is_named_semaphore None = false
is_named_semaphore (Some r) = r.named

-- a semaphore lives while it is named
abbrev pub is_named : Hall → ℕ → Bool
is_named h s = is_named_semaphore (map.get h.semaphores s)

-- whether f is a future
abbrev pub is_future : Hall → ℕ → Bool
is_future h f = is_some (map.get h.futures f)

-- whether p is a permit
abbrev pub is_permit : Hall → ℕ → Bool
is_permit h p = is_some (map.get h.permits p)

-- whether two permits are there, of one semaphore and one form
abbrev pub are_of_one_kind : Option Permit → Option Permit → Bool
are_of_one_kind None y = false
are_of_one_kind (Some x) None = false
are_of_one_kind (Some x) (Some y) = x.semaphore == y.semaphore && (if x.plain then y.plain else not y.plain)

-- two permits, not the same one, of one semaphore and one form
abbrev pub can_merge : Hall → ℕ → ℕ → Bool
can_merge h p q = not (p == q) && are_of_one_kind (map.get h.permits p) (map.get h.permits q)

-- why an event is refused; none where it is not
abbrev pub cause_of : Hall → SemEvent → Option Stop
cause_of h (New n) = None
cause_of h (Free s) = unknown_unless (is_named h s)
cause_of h (Forget s n) = unknown_unless (is_named h s)
cause_of h (Forgetx s n) = unknown_unless (is_named h s)
cause_of h (Release s n) = if is_named h s then (if nat_lt (live h s + n) (2 ^ 64) then None else Some stops.Overflow) else Some stops.Unknown
cause_of h (Try s n) = unknown_unless (is_named h s)
cause_of h (Tryo s n) = unknown_unless (is_named h s)
cause_of h (Tryf s n) = unknown_unless (is_named h s)
cause_of h (Tryof s n) = unknown_unless (is_named h s)
cause_of h (Acq s n) = unknown_unless (is_named h s)
cause_of h (Acqo s n) = unknown_unless (is_named h s)
cause_of h (Acqf s n) = unknown_unless (is_named h s)
cause_of h (Acqof s n) = unknown_unless (is_named h s)
cause_of h (Poll f w) = unknown_unless (is_future h f)
cause_of h (End x) = unknown_unless (if is_future h x then true else is_permit h x)
cause_of h (Lose p) = unknown_unless (is_permit h p)
cause_of h (Merge p q) = unknown_unless (can_merge h p q)
cause_of h (Split p n) = unknown_unless (is_permit h p)
cause_of h (Size p) = unknown_unless (is_permit h p)
cause_of h (Endsem s) = if is_named h s then (if nat_lt 0 (plain_things h s) then Some stops.Borrowed else None) else Some stops.Unknown
cause_of h (Ledger s) = unknown_unless (is_named h s)
cause_of h (Close s) = unknown_unless (is_named h s)
cause_of h (Closed s) = unknown_unless (is_named h s)
