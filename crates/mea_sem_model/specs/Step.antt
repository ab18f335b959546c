-- what an event does to a hall, where it has no cause for refusal; a thing made by event i has the name i
use Rattle.std.specs.Prelude.{ℕ, ◌+◌, ◌-◌, ◌==◌, ◌++◌, ◌&&◌, not, Bool, true, false, List, [], ◌∷◌, Option, Some, None, filter, nat_le, min, if◌then◌else◌}
use Rattle.std.specs.FinMap as map
use Rattle.mea_family.specs.declared.answer.Answer.TheVariants as answers
use Rattle.mea_family.specs.declared.ledger.Ledger.{Ledger}
use Rattle.mea_family.specs.Family as family
pub use Rattle.mea_family.specs.Family.{quietly}
use Rattle.mea_events.specs.declared.sem_event.SemEvent.{SemEvent}
use Rattle.mea_events.specs.declared.sem_event.SemEvent.TheVariants as events
use Rattle.mea_sem_model.specs.Hall.{Hall, Semaphore, Future, Permit, FutureStage, New, Waiting, Granted, Cut, Who, Waiter, Debt, made_with, semaphore_at, queue_at, is_closed, with_semaphore, names, lack_of, free, held, paid, owed, pour, wakes_of, closing, wakes_waiting}

-- what an event of semaphores gives
abbrev pub Outcome : Type 0
Outcome = family.Outcome Hall

-- n permits are poured into s of a hall
abbrev pub pouring : Hall → ℕ → ℕ → Outcome
pouring h s n = record { hall = pour h s n; reply = answers.Done; wakes = wakes_of h s n }

-- the future f is this now
abbrev pub with_future : Hall → ℕ → Future → Hall
with_future h f x = record h { futures = map.insert h.futures f x }

-- the future f is gone
abbrev pub without_future : Hall → ℕ → Hall
without_future h f = record h { futures = map.remove h.futures f }

-- the permit p is this now
abbrev pub with_permit : Hall → ℕ → Permit → Hall
with_permit h p x = record h { permits = map.insert h.permits p x }

-- the permit p is gone
abbrev pub without_permit : Hall → ℕ → Hall
without_permit h p = record h { permits = map.remove h.permits p }

-- ---- forgetting

-- at most n free permits are taken away
abbrev pub forgetting : Semaphore → ℕ → Semaphore
forgetting r n = record r { free = r.free - min n r.free; forgotten = r.forgotten + min n r.free }

-- a lack of n, if above 0, becomes a debt at the head
abbrev pub with_debt : List (Who × ℕ) → ℕ → List (Who × ℕ)
with_debt q n = if n == 0 then q else (Debt, n) ∷ q

-- n permits are taken away, the free ones at once and the others as a debt
abbrev pub forgetting_exactly : Semaphore → ℕ → Semaphore
forgetting_exactly r n = record r { free = r.free - min n r.free; queue = with_debt r.queue (n - min n r.free); forgotten = r.forgotten + n }

-- ---- trying

-- n free permits are taken
abbrev pub taking : Semaphore → ℕ → Semaphore
taking r n = record r { free = r.free - n }

-- whether s is open and has n free permits
abbrev pub offers : Hall → ℕ → ℕ → Bool
offers h s n = not (is_closed h s) && nat_le n (free h s)

-- n free permits of s become permit i
abbrev pub try_of : Hall → ℕ → ℕ → ℕ → Bool → Outcome
try_of h i s n plain =
    if offers h s n
    then quietly (with_permit (with_semaphore h s (taking (semaphore_at h s) n)) i (record { semaphore = s; size = n; plain = plain })) answers.Held
    else quietly h answers.Lacking

-- n free permits of s are forgotten
abbrev pub try_and_forget : Hall → ℕ → ℕ → Outcome
try_and_forget h s n =
    if offers h s n
    then quietly (with_semaphore h s (record (semaphore_at h s) { free = free h s - n; forgotten = (semaphore_at h s).forgotten + n })) answers.Yes
    else quietly h answers.No

-- ---- polling

-- a future of s is made, which was never polled
abbrev pub acquire_of : Hall → ℕ → ℕ → ℕ → Bool → Bool → Outcome
acquire_of h i s n plain forgets = quietly (with_future h i (record { semaphore = s; demand = n; plain = plain; forgets = forgets; stage = New })) answers.Made

-- f is gone; unless it forgets, permit i of its demand and form is made
abbrev pub made_ready : Hall → ℕ → ℕ → Future → Hall
made_ready h i f x =
    if x.forgets
    then with_semaphore (without_future h f) x.semaphore (record (semaphore_at h x.semaphore) { forgotten = (semaphore_at h x.semaphore).forgotten + x.demand })
    else with_permit (without_future h f) i (record { semaphore = x.semaphore; size = x.demand; plain = x.plain })

-- f takes all free permits as part payment and goes to the tail
abbrev pub queueing : Hall → ℕ → ℕ → Future → Hall
queueing h f w x =
    let r = semaphore_at h x.semaphore in
    with_future (with_semaphore h x.semaphore (record r { free = 0; queue = r.queue ++ (Waiter f, x.demand - r.free) ∷ [] })) f (record x { stage = Waiting w })

-- f, whose semaphore is open, is polled for the first time
abbrev pub open_poll : Hall → ℕ → ℕ → ℕ → Future → Outcome
open_poll h i f w x =
    if nat_le x.demand (free h x.semaphore)
    then quietly (made_ready (with_semaphore h x.semaphore (taking (semaphore_at h x.semaphore) x.demand)) i f x) answers.Ready
    else quietly (queueing h f w x) answers.Pending

-- f is gone with nothing
abbrev pub refusing : Hall → ℕ → Outcome
refusing h f = quietly (without_future h f) answers.Gone

-- what the first poll of f does: where its semaphore is closed it is refused
abbrev pub first_poll : Hall → ℕ → ℕ → ℕ → Future → Outcome
first_poll h i f w x = if is_closed h x.semaphore then refusing h f else open_poll h i f w x

-- what a poll of f does, by its stage
abbrev pub poll_at : Hall → ℕ → ℕ → ℕ → Future → FutureStage → Outcome
poll_at h i f w x New = first_poll h i f w x
poll_at h i f w x (Waiting v) = quietly (with_future h f (record x { stage = Waiting w })) answers.Pending
poll_at h i f w x Granted = quietly (made_ready h i f x) answers.Ready
poll_at h i f w x Cut = refusing h f

-- the same, where f is there
abbrev pub poll_of : Hall → ℕ → ℕ → ℕ → Option Future → Outcome
poll_of h i f w None = quietly h answers.Done
poll_of h i f w (Some x) = poll_at h i f w x x.stage

-- ---- ending

-- the queue without a future
abbrev pub without : List (Who × ℕ) → ℕ → List (Who × ℕ)
without q f = filter {X = Who × ℕ} (λ e. not (names e.0 f)) q

-- f leaves the queue
abbrev pub leaving : Hall → ℕ → Future → Hall
leaving h f x = without_future (with_semaphore h x.semaphore (record (semaphore_at h x.semaphore) { queue = without (queue_at h x.semaphore) f })) f

-- f gives back what it was paid
abbrev pub end_future : Hall → ℕ → Future → FutureStage → Outcome
end_future h f x New = quietly (without_future h f) answers.Done
end_future h f x (Waiting w) = pouring (leaving h f x) x.semaphore (x.demand - lack_of (queue_at h x.semaphore) f)
end_future h f x Granted = pouring (without_future h f) x.semaphore x.demand
end_future h f x Cut = quietly (without_future h f) answers.Done

-- the permit p ends: what it is for comes back
abbrev pub end_permit : Hall → ℕ → Option Permit → Outcome
end_permit h p None = quietly h answers.Done
end_permit h p (Some x) = pouring (without_permit h p) x.semaphore x.size

-- the end of a future, or else of a permit
abbrev pub end_of : Hall → ℕ → Option Future → Outcome
end_of h x None = end_permit h x (map.get h.permits x)
end_of h x (Some f) = end_future h x f f.stage

-- ---- permits

-- the permit p is gone, and what it is for is forgotten
abbrev pub lose_of : Hall → ℕ → Option Permit → Outcome
lose_of h p None = quietly h answers.Done
lose_of h p (Some x) =
    quietly (with_semaphore (without_permit h p) x.semaphore (record (semaphore_at h x.semaphore) { forgotten = (semaphore_at h x.semaphore).forgotten + x.size })) (answers.Forgot x.size)

-- the permit q goes into p
abbrev pub merge_of : Hall → ℕ → ℕ → Option Permit → Option Permit → Hall
merge_of h p q None y = h
merge_of h p q (Some x) None = h
merge_of h p q (Some x) (Some y) = with_permit (without_permit h q) p (record x { size = x.size + y.size })

-- n of the permit p become the permit i, where it is for as many
abbrev pub split_of : Hall → ℕ → ℕ → ℕ → Option Permit → Outcome
split_of h i p n None = quietly h answers.Lacking
split_of h i p n (Some x) =
    if nat_le n x.size
    then quietly (with_permit (with_permit h p (record x { size = x.size - n })) i (record x { size = n })) answers.Held
    else quietly h answers.Lacking

-- how many a permit is for, if it is there
abbrev pub size_of : Option Permit → ℕ
size_of None = 0
size_of (Some x) = x.size

-- ---- the account of a semaphore
-- what s has been given, and where it is now
abbrev pub ledger_of : Hall → ℕ → Ledger
ledger_of h s = record {
  made = (semaphore_at h s).made;
  released = (semaphore_at h s).released;
  owed = owed h s;
  free = free h s;
  held = held h s;
  paid = paid h s;
  forgotten = (semaphore_at h s).forgotten;
}

-- n more permits are counted as released to s
abbrev pub released_to : Hall → ℕ → ℕ → Hall
released_to h s n = with_semaphore h s (record (semaphore_at h s) { released = (semaphore_at h s).released + n })

-- ---- closing

-- s is closed: the futures that wait are cut and woken; where it is closed already nothing changes
abbrev pub close_of : Hall → ℕ → Outcome
close_of h s =
    if is_closed h s
    then quietly h answers.Done
    else record { hall = closing h s; reply = answers.Done; wakes = wakes_waiting h s }

-- event number i
abbrev pub step : Hall → ℕ → SemEvent → Outcome
step h i (events.New n) = quietly (with_semaphore h i (made_with n)) answers.Made
step h i (events.Free s) = quietly h (answers.Free (free h s))
step h i (events.Forget s n) = quietly (with_semaphore h s (forgetting (semaphore_at h s) n)) (answers.Forgot (min n (free h s)))
step h i (events.Forgetx s n) = quietly (with_semaphore h s (forgetting_exactly (semaphore_at h s) n)) answers.Done
step h i (events.Release s n) = pouring (released_to h s n) s n
step h i (events.Try s n) = try_of h i s n true
step h i (events.Tryo s n) = try_of h i s n false
step h i (events.Tryf s n) = try_and_forget h s n
step h i (events.Tryof s n) = try_and_forget h s n
step h i (events.Acq s n) = acquire_of h i s n true false
step h i (events.Acqo s n) = acquire_of h i s n false false
step h i (events.Acqf s n) = acquire_of h i s n true true
step h i (events.Acqof s n) = acquire_of h i s n false true
step h i (events.Poll f w) = poll_of h i f w (map.get h.futures f)
step h i (events.End x) = end_of h x (map.get h.futures x)
step h i (events.Lose p) = lose_of h p (map.get h.permits p)
step h i (events.Merge p q) = quietly (merge_of h p q (map.get h.permits p) (map.get h.permits q)) answers.Done
step h i (events.Split p n) = split_of h i p n (map.get h.permits p)
step h i (events.Size p) = quietly h (answers.Permits (size_of (map.get h.permits p)))
step h i (events.Endsem s) = quietly (with_semaphore h s (record (semaphore_at h s) { named = false })) answers.Done
step h i (events.Ledger s) = quietly h (answers.Account (ledger_of h s))
step h i (events.Close s) = close_of h s
step h i (events.Closed s) = quietly h (if is_closed h s then answers.Yes else answers.No)
