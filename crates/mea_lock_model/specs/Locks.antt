-- locks by name, with the futures and guards that are of them
use Rattle.std.specs.Prelude.{ℕ, ◌+◌, ◌-◌, ◌==◌, Bool, true, false, not, [], ◌∷◌, ◌++◌, Option, Some, None, is_some, nat_lt, if◌then◌else◌, refl}
use Rattle.std.specs.Coded.{Coded, code_by, coded×, coded_ℕ, coded_bool, coded_list}
use Rattle.std.specs.FinMap.{empty, get, insert, remove, len}
use Rattle.mea_family.specs.declared.answer.Answer.TheVariants as answers
use Rattle.mea_family.specs.Family.{Outcome, quietly}
use Rattle.mea_base.specs.Queue.{waiting_after, left_over}
use Rattle.mea_by_name.specs.ByName.{Names, names_code, own, count}
use Rattle.mea_by_name.specs.NamedQueue as named_queue
use Rattle.mea_family.specs.Play.{found}
use Rattle.mea_by_name.specs.NamedQueue.{Waiting, waits}
use Rattle.mea_by_name.specs.LackingQueue.{Lacking, who, lack_for, rewoken, leaving, woken_by}
pub use Rattle.mea_lock_model.specs.declared.until.Until.{Until}
pub use Rattle.mea_lock_model.specs.declared.until.Until.TheVariants.{Held, Reached, Never}

-- a lock: its value, how many permits it has, how many of them are free, who waits for permits, and whether it
-- is named. To read takes one permit, and to write takes all. A mutex has one, and is only written
pub record Lock : Type 0 where
  pub value : ℕ
  pub most : ℕ
  pub free : ℕ
  pub queue : Lacking
  pub named : Bool

-- a future: whose it is, whether it is plain, whether it is to write, whether it was polled, and whether it is that
-- of a wait on a condition variable. One that was polled and waits no more has its permits
pub record LockFuture : Type 0 where
  pub lock : ℕ
  pub plain : Bool
  pub writes : Bool
  pub polled : Bool
  pub of_condvar : Bool

-- a guard: whose it is, whether it is plain, and whether it writes
pub record LockGuard : Type 0 where
  pub lock : ℕ
  pub plain : Bool
  pub writes : Bool

-- locks by name, with their futures and guards by name
pub record Locks : Type 0 where
  pub locks : Names Lock
  pub futures : Names LockFuture
  pub guards : Names LockGuard

-- no lock, and nothing that is of one
abbrev pub no_locks : Locks
no_locks = record { locks = empty; futures = empty; guards = empty }

-- ---- what lives
-- whether a lock is there and has its name still
abbrev pub is_named_lock : Option Lock → Bool
is_named_lock None = false
is_named_lock (Some r) = r.named

-- the same of the lock o
abbrev pub is_named : Locks → ℕ → Bool
is_named h o = is_named_lock (get h.locks o)

-- whether f is a future, also one of a wait
abbrev pub is_future : Locks → ℕ → Bool
is_future h f = is_some (get h.futures f)

-- whether a future is there, and is that of a wait or is not
abbrev pub is_waiting_for : Bool → Option LockFuture → Bool
is_waiting_for condvar None = false
is_waiting_for condvar (Some x) = if condvar then x.of_condvar else not x.of_condvar

-- whether f is a future that waits for the lock alone
abbrev pub is_lock_future : Locks → ℕ → Bool
is_lock_future h f = is_waiting_for false (get h.futures f)

-- whether f is that of a wait on a condition variable
abbrev pub is_condvar_future : Locks → ℕ → Bool
is_condvar_future h f = is_waiting_for true (get h.futures f)

-- whether a future is there and was polled
abbrev pub was_polled : Option LockFuture → Bool
was_polled None = false
was_polled (Some x) = x.polled

-- whether g is a guard
abbrev pub is_guard : Locks → ℕ → Bool
is_guard h g = is_some (get h.guards g)

-- whether a guard is there and writes
abbrev pub is_write : Option LockGuard → Bool
is_write None = false
is_write (Some x) = x.writes

-- whether g is a guard that writes
abbrev pub is_write_guard : Locks → ℕ → Bool
is_write_guard h g = is_write (get h.guards g)

-- how many futures and guards o has
abbrev pub things_of : Locks → ℕ → ℕ
things_of h o = len (own (λ (x : LockFuture). x.lock) o h.futures) + len (own (λ (x : LockGuard). x.lock) o h.guards)

-- how many of them are plain
abbrev pub plain_of : Locks → ℕ → ℕ
plain_of h o = count (λ x. x.plain) (own (λ (x : LockFuture). x.lock) o h.futures) + count (λ x. x.plain) (own (λ (x : LockGuard). x.lock) o h.guards)

-- who waits at a lock
abbrev pub waiting_at : Lock → Waiting
waiting_at r = who r.queue

-- how many wakers are registered
abbrev pub registered : Locks → ℕ
registered h = named_queue.registered waiting_at h.locks

-- the waker that is kept for f
abbrev pub placed : Locks → ℕ → Option ℕ
placed h f = named_queue.placed waiting_at (λ (x : LockFuture). x.lock) h.locks h.futures f

-- ---- what the events do
-- a lock with this value and all of its permits free
abbrev pub new_lock : ℕ → ℕ → Lock
new_lock v most = record { value = v; most = most; free = most; queue = []; named = true }

-- how many permits a guard has that reads or writes
abbrev pub size : Lock → Bool → ℕ
size r writes = if writes then r.most else 1

-- n permits are given up: they go to those who wait, in order, and what is left is free
abbrev pub poured : Lock → ℕ → Lock
poured r n = record r { free = r.free + left_over r.queue n; queue = waiting_after r.queue n }

-- the lock o is this now
abbrev pub with_lock : Locks → ℕ → Lock → Locks
with_lock h o r = record h { locks = insert h.locks o r }

-- the lock is this now, or gone where it has neither its name nor any of so many things
abbrev pub tidied_locks : Names Lock → ℕ → Lock → ℕ → Names Lock
tidied_locks rs o r things = if r.named then insert rs o r else if things == 0 then remove rs o else insert rs o r

-- the same of all: the lock o is this now, or gone
abbrev pub tidied : Locks → ℕ → Lock → Locks
tidied h o r = record h { locks = tidied_locks h.locks o r (things_of h o) }

-- what was of the lock is gone, and gives up n permits
abbrev pub gives_up : Locks → ℕ → Lock → ℕ → Outcome Locks
gives_up h o r n = record { hall = tidied h o (poured r n); reply = answers.Done; wakes = woken_by r.queue n }

-- a lock with this value and so many permits is made
abbrev pub make : Locks → ℕ → ℕ → ℕ → Outcome Locks
make h i v most = quietly (with_lock h i (new_lock v most)) answers.Made

-- a future of o is made, which was never polled
abbrev pub begin : Locks → ℕ → ℕ → Bool → Bool → Outcome Locks
begin h i o plain writes = quietly (record h { futures = insert h.futures i (record { lock = o; plain = plain; writes = writes; polled = false; of_condvar = false }) }) answers.Made

-- f has its permits: it becomes a guard
abbrev pub becomes_guard : Locks → ℕ → ℕ → LockFuture → Lock → Outcome Locks
becomes_guard h i f x r = quietly (record {
  locks = insert h.locks x.lock r;
  futures = remove h.futures f;
  guards = insert h.guards i (record { lock = x.lock; plain = x.plain; writes = x.writes });
}) answers.Ready

-- f takes the free permits as part of what it asks for, and goes to the end of the queue with what it lacks
abbrev pub queues : Locks → ℕ → ℕ → LockFuture → Lock → Outcome Locks
queues h f w x r = quietly (record h {
  locks = insert h.locks x.lock (record r { free = 0; queue = r.queue ++ ((f, w), size r x.writes - r.free) ∷ [] });
  futures = insert h.futures f (record x { polled = true });
}) answers.Pending

-- f waits on with this waker
abbrev pub waits_on : Locks → ℕ → ℕ → LockFuture → Lock → Outcome Locks
waits_on h f w x r = quietly (with_lock h x.lock (record r { queue = rewoken r.queue f w })) answers.Pending

-- so many free permits are taken
abbrev pub taken_from : Lock → ℕ → Lock
taken_from r n = record r { free = r.free - n }

-- a future of the lock is polled: it waits on, or has what it was granted, or takes the permits that are free, or waits
abbrev pub poll : Locks → ℕ → ℕ → ℕ → LockFuture → Lock → Outcome Locks
poll h i f w x r =
    if waits (waiting_at r) f then waits_on h f w x r
    else if x.polled then becomes_guard h i f x r
    else if nat_lt r.free (size r x.writes) then queues h f w x r
    else becomes_guard h i f x (taken_from r (size r x.writes))

-- ---- the waits on condition variables. Each has a future of its mutex, which has the lock before the first poll

-- whether it goes on waiting at a value
abbrev pub goes_on : Until → ℕ → Bool
goes_on Held v = false
goes_on (Reached least) v = nat_lt v least
goes_on Never v = true

-- a guard goes into a wait, whose future has the lock instead
abbrev pub hand : Locks → ℕ → ℕ → LockGuard → Outcome Locks
hand h i g x = quietly (record h {
  futures = insert h.futures i (record { lock = x.lock; plain = x.plain; writes = x.writes; polled = true; of_condvar = true });
  guards = remove h.guards g;
}) answers.Made

-- f gives the lock up and asks for it no more
abbrev pub lays_down : Locks → ℕ → LockFuture → Lock → Outcome Locks
lays_down h f x r = record {
  hall = record h { locks = insert h.locks x.lock (poured r (size r x.writes)); futures = insert h.futures f (record x { polled = false }) };
  reply = answers.Pending;
  wakes = woken_by r.queue (size r x.writes);
}

-- f has the lock, and is ready or goes on waiting
abbrev pub decides : Locks → ℕ → ℕ → Until → LockFuture → Lock → Outcome Locks
decides h i f until x r = if goes_on until r.value then lays_down h f x r else becomes_guard h i f x r

-- the same of a wait on a condition variable, which decides once it has the lock
abbrev pub poll_until : Locks → ℕ → ℕ → ℕ → Until → LockFuture → Lock → Outcome Locks
poll_until h i f w until x r =
    if waits (waiting_at r) f then waits_on h f w x r
    else if x.polled then decides h i f until x r
    else if nat_lt r.free (size r x.writes) then queues h f w x r
    else decides h i f until x (taken_from r (size r x.writes))

-- a guard of o is made where its permits are free, and none where they are not
abbrev pub try : Locks → ℕ → ℕ → Bool → Bool → Lock → Outcome Locks
try h i o plain writes r =
    if nat_lt r.free (size r writes) then quietly h answers.Lacking
    else quietly (record h {
      locks = insert h.locks o (taken_from r (size r writes));
      guards = insert h.guards i (record { lock = o; plain = plain; writes = writes });
    }) answers.Held

-- the end of a future: it leaves the queue and gives up what it was paid, or what it was granted
abbrev pub end_future : Locks → ℕ → LockFuture → Lock → Outcome Locks
end_future h f x r =
    if waits (waiting_at r) f then gives_up (record h { futures = remove h.futures f }) x.lock (record r { queue = leaving r.queue f }) (size r x.writes - lack_for r.queue f)
    else if x.polled then gives_up (record h { futures = remove h.futures f }) x.lock r (size r x.writes)
    else quietly (tidied (record h { futures = remove h.futures f }) x.lock r) answers.Done

-- the guard g ends, and gives up its permits
abbrev pub end_guard : Locks → ℕ → LockGuard → Lock → Outcome Locks
end_guard h g x r = gives_up (record h { guards = remove h.guards g }) x.lock r (size r x.writes)

-- the end of a future at its lock, which is there while the future is
abbrev pub end_at : Locks → ℕ → LockFuture → Option Lock → Outcome Locks
end_at h f x None = quietly (record h { futures = remove h.futures f }) answers.Done
end_at h f x (Some r) = end_future h f x r

-- the end of a future, or else of a guard
abbrev pub end_by : Locks → ℕ → Option LockFuture → Outcome Locks
end_by h k None = found (get h.guards k) h (λ x. found (get h.locks x.lock) h (end_guard h k x))
end_by h k (Some x) = end_at h k x (get h.locks x.lock)

-- a guard that writes reads from now on, and gives up all permits but one
abbrev pub lower : Locks → ℕ → LockGuard → Lock → Outcome Locks
lower h g x r = record {
  hall = record h { locks = insert h.locks x.lock (poured r (r.most - 1)); guards = insert h.guards g (record x { writes = false }) };
  reply = answers.Done;
  wakes = woken_by r.queue (r.most - 1);
}

-- the value is told
abbrev pub tell : Locks → Lock → Outcome Locks
tell h r = quietly h (answers.Value r.value)

-- the value is v now
abbrev pub write : Locks → ℕ → ℕ → Lock → Outcome Locks
write h o v r = quietly (with_lock h o (record r { value = v })) answers.Done

-- the lock o is gone, and its value is told
abbrev pub take_out : Locks → ℕ → Lock → Outcome Locks
take_out h o r = quietly (record h { locks = remove h.locks o }) (answers.Value r.value)

-- the lock o loses its name, and is gone where it has nothing
abbrev pub drop : Locks → ℕ → Lock → Outcome Locks
drop h o r = quietly (tidied h o (record r { named = false })) answers.Done

-- ---- codes, by which a proof tells two values apart
-- of those who wait, each with its waker and what it lacks
abbrev pub lacking_code : Coded Lacking
lacking_code = coded_list (coded× (coded× coded_ℕ coded_ℕ) coded_ℕ)

-- of a lock
abbrev pub lock_code : Coded Lock
lock_code = code_by (ℕ × (ℕ × (ℕ × (Lacking × Bool)))) (coded× coded_ℕ (coded× coded_ℕ (coded× coded_ℕ (coded× lacking_code coded_bool)))) (λ r. (r.value, (r.most, (r.free, (r.queue, r.named))))) (λ p. record { value = p.0; most = p.1.0; free = p.1.1.0; queue = p.1.1.1.0; named = p.1.1.1.1 }) (λ _. refl)

-- of a future
abbrev pub future_code : Coded LockFuture
future_code =
    code_by (ℕ × (Bool × (Bool × (Bool × Bool)))) (coded× coded_ℕ (coded× coded_bool (coded× coded_bool (coded× coded_bool coded_bool))))
    (λ x. (x.lock, (x.plain, (x.writes, (x.polled, x.of_condvar))))) (λ p. record { lock = p.0; plain = p.1.0; writes = p.1.1.0; polled = p.1.1.1.0; of_condvar = p.1.1.1.1 }) (λ _. refl)

-- of a guard
abbrev pub guard_code : Coded LockGuard
guard_code = code_by (ℕ × (Bool × Bool)) (coded× coded_ℕ (coded× coded_bool coded_bool)) (λ x. (x.lock, (x.plain, x.writes))) (λ p. record { lock = p.0; plain = p.1.0; writes = p.1.1 }) (λ _. refl)

-- of locks by name
abbrev pub locks_code : Coded Locks
locks_code =
    code_by (Names Lock × (Names LockFuture × Names LockGuard)) (coded× (names_code lock_code) (coded× (names_code future_code) (names_code guard_code)))
    (λ h. (h.locks, (h.futures, h.guards))) (λ p. record { locks = p.0; futures = p.1.0; guards = p.1.1 }) (λ _. refl)
