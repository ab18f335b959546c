-- barriers by name, with the futures that wait at them
use Rattle.std.specs.Prelude.{ℕ, ◌+◌, ◌*◌, ◌/◌, ◌%◌, ◌==◌, Bool, [], Option, Some, None, is_some, max, nat_le, unwrap_or, if◌then◌else◌, refl}
use Rattle.std.specs.Coded.{Coded, code_by, coded×, coded_ℕ, coded_list, coded_option}
use Rattle.std.specs.FinMap.{empty, get, insert, remove, len}
use Rattle.mea_family.specs.declared.answer.Answer.TheVariants as answers
use Rattle.mea_family.specs.Family.{Outcome, quietly}
use Rattle.mea_by_name.specs.ByName.{Names, names_code, own}
use Rattle.mea_by_name.specs.NamedQueue as named_queue
use Rattle.mea_by_name.specs.NamedQueue.{Waiting, registering, wakers}

-- a barrier: how many arrivals make a round, the number of all arrivals so far, and who is registered, each by its
-- name and with its waker. One that has ended since stays
pub record Barrier : Type 0 where
  pub size : ℕ
  pub arrivals : ℕ
  pub waiting : Waiting

-- a future: where it waits, and the number of the round in which it arrived, if it has
pub record BarrierWait : Type 0 where
  pub barrier : ℕ
  pub round : Option ℕ

-- barriers by name, and their futures by name
pub record Barriers : Type 0 where
  pub barriers : Names Barrier
  pub waits : Names BarrierWait

-- no barrier and no future
abbrev pub no_barriers : Barriers
no_barriers = record { barriers = empty; waits = empty }

-- a barrier at which nobody has arrived; a size of 0 is taken as 1
abbrev pub new_barrier : ℕ → Barrier
new_barrier n = record { size = max n 1; arrivals = 0; waiting = [] }

-- the barrier of this name; one that nobody waits for, where there is none
abbrev pub barrier_at : Barriers → ℕ → Barrier
barrier_at h b = unwrap_or (get h.barriers b) (new_barrier 1)

-- whether b is a barrier
abbrev pub is_barrier : Barriers → ℕ → Bool
is_barrier h b = is_some (get h.barriers b)

-- whether f is a future
abbrev pub is_wait : Barriers → ℕ → Bool
is_wait h f = is_some (get h.waits f)

-- where a future waits
abbrev pub of_wait : BarrierWait → ℕ
of_wait x = x.barrier

-- how many futures wait at b
abbrev pub waits_of : Barriers → ℕ → ℕ
waits_of h b = len (own of_wait b h.waits)

-- who is registered at a barrier, in order, each with its waker
abbrev pub queue_of : Barrier → Waiting
queue_of r = r.waiting

-- how many wakers are registered
abbrev pub registered : Barriers → ℕ
registered h = named_queue.registered queue_of h.barriers

-- the waker that is registered for f
abbrev pub placed : Barriers → ℕ → Option ℕ
placed h f = named_queue.placed queue_of of_wait h.barriers h.waits f

-- ---- what the events do
-- a barrier of this size is made
abbrev pub make : Barriers → ℕ → ℕ → Outcome Barriers
make h i n = quietly (record h { barriers = insert h.barriers i (new_barrier n) }) answers.Made

-- a future of b is made, which has not arrived
abbrev pub begin : Barriers → ℕ → ℕ → Outcome Barriers
begin h i b = quietly (record h { waits = insert h.waits i (record { barrier = b; round = None }) }) answers.Made

-- the barrier b is gone
abbrev pub drop : Barriers → ℕ → Outcome Barriers
drop h b = quietly (record h { barriers = remove h.barriers b }) answers.Done

-- f is gone; its arrival and its waker stay
abbrev pub gone : Barriers → ℕ → Barriers
gone h f = record h { waits = remove h.waits f }

-- the future f ends
abbrev pub end : Barriers → ℕ → Outcome Barriers
end h f = quietly (gone h f) answers.Done

-- the next arrival leads: the number of arrivals that it makes is a multiple of the size
abbrev pub leads : Barrier → Bool
leads r = (r.arrivals + 1) % r.size == 0

-- the arrivals have reached the first multiple of the size after those of this round
abbrev pub has_completed : Barrier → ℕ → Bool
has_completed r round = nat_le ((round + 1) * r.size) r.arrivals

-- the arrival of f leads: all who are registered are woken and leave
abbrev pub leading : Barriers → ℕ → BarrierWait → Barrier → Outcome Barriers
leading h f x r = record {
  hall = record { barriers = insert h.barriers x.barrier (record r { arrivals = r.arrivals + 1; waiting = [] }); waits = remove h.waits f };
  reply = answers.Leader;
  wakes = wakers r.waiting;
}

-- f arrives in the round under way, whose number is that of the arrivals by the size, and waits
abbrev pub joining : Barriers → ℕ → ℕ → BarrierWait → Barrier → Outcome Barriers
joining h f w x r = quietly (record {
  barriers = insert h.barriers x.barrier (record r { arrivals = r.arrivals + 1; waiting = registering r.waiting f w });
  waits = insert h.waits f (record x { round = Some (r.arrivals / r.size) });
}) answers.Pending

-- f waits on
abbrev pub waiting_on : Barriers → ℕ → ℕ → BarrierWait → Barrier → Outcome Barriers
waiting_on h f w x r = quietly (record h { barriers = insert h.barriers x.barrier (record r { waiting = registering r.waiting f w }) }) answers.Pending

-- what a poll does: one that has not arrived leads, or arrives and waits; one that has is ready once its round has completed
abbrev pub poll_at : Barriers → ℕ → ℕ → BarrierWait → Barrier → Option ℕ → Outcome Barriers
poll_at h f w x r None = if leads r then leading h f x r else joining h f w x r
poll_at h f w x r (Some round) = if has_completed r round then quietly (gone h f) answers.Ready else waiting_on h f w x r

-- the same, by the round in which the future arrived
abbrev pub poll : Barriers → ℕ → ℕ → BarrierWait → Barrier → Outcome Barriers
poll h f w x r = poll_at h f w x r x.round

-- ---- codes, by which a proof tells two values apart
-- of a barrier
abbrev pub barrier_code : Coded Barrier
barrier_code = code_by (ℕ × (ℕ × Waiting)) (coded× coded_ℕ (coded× coded_ℕ (coded_list (coded× coded_ℕ coded_ℕ)))) (λ r. (r.size, (r.arrivals, r.waiting))) (λ p. record { size = p.0; arrivals = p.1.0; waiting = p.1.1 }) (λ _. refl)

-- of a future
abbrev pub wait_code : Coded BarrierWait
wait_code = code_by (ℕ × Option ℕ) (coded× coded_ℕ (coded_option coded_ℕ)) (λ x. (x.barrier, x.round)) (λ p. record { barrier = p.0; round = p.1 }) (λ _. refl)

-- of barriers by name
abbrev pub barriers_code : Coded Barriers
barriers_code = code_by (Names Barrier × Names BarrierWait) (coded× (names_code barrier_code) (names_code wait_code)) (λ h. (h.barriers, h.waits)) (λ p. record { barriers = p.0; waits = p.1 }) (λ _. refl)
