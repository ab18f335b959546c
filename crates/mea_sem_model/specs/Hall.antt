-- many semaphores by name, with the futures and permits that are of them
use Rattle.std.specs.Prelude.{ℕ, ◌≡◌, ◌+◌, ◌-◌, ◌==◌, ◌&&◌, Bool, true, false, cond, List, [], ◌∷◌, filter, Option, Some, None, unwrap_or, refl}
use Rattle.std.specs.List.{sum_by, flat_map}
use Rattle.std.specs.Ordering.{nat_cmp}
use Rattle.std.specs.Coded.{Coded, code_by, coded×, coded_ℕ, coded_bool, coded_list, coded_option}
use Rattle.std.specs.FinMap as map
use Rattle.std.specs.Prelude.{map as map_list}
use Rattle.mea_base.specs.Queue.{waiting_after, granted_in, left_over}
use Rattle.mea_base.specs.Totals.{total}

-- who waits in a queue: a future by its name, or a debt
pub data Who : Type 0 where
  Waiter : ℕ → Who
  Debt : Who

-- a semaphore: its free permits, who waits and what each lacks, what was made, released and forgotten
-- of it, whether it is named, and whether it is closed
pub record Semaphore : Type 0 where
  pub free : ℕ
  pub queue : List (Who × ℕ)
  pub made : ℕ
  pub released : ℕ
  pub forgotten : ℕ
  pub named : Bool
  pub closed : Bool

-- how far a future is: never polled, waiting with the waker of its last poll, paid in full, or cut: taken
-- out of the queue by the closing of its semaphore
pub data FutureStage : Type 0 where
  New : FutureStage
  Waiting : ℕ → FutureStage
  Granted : FutureStage
  Cut : FutureStage

-- a future: whose it is, what it asks for, whether it is plain, whether it forgets what it takes
pub record Future : Type 0 where
  pub semaphore : ℕ
  pub demand : ℕ
  pub plain : Bool
  pub forgets : Bool
  pub stage : FutureStage

-- a permit: whose it is, how many it is for, and whether it is plain
pub record Permit : Type 0 where
  pub semaphore : ℕ
  pub size : ℕ
  pub plain : Bool

-- semaphores, futures and permits by name
pub record Hall : Type 0 where
  pub semaphores : map.FinMap nat_cmp Semaphore
  pub futures : map.FinMap nat_cmp Future
  pub permits : map.FinMap nat_cmp Permit

-- nothing
abbrev pub empty_hall : Hall
empty_hall = record { semaphores = map.empty; futures = map.empty; permits = map.empty }

-- a new semaphore with n free permits, which is open
abbrev pub made_with : ℕ → Semaphore
made_with n = record { free = n; queue = []; made = n; released = 0; forgotten = 0; named = true; closed = false }

-- the semaphore of this name; one with nothing, where there is none
abbrev pub semaphore_at : Hall → ℕ → Semaphore
semaphore_at h s = unwrap_or (map.get h.semaphores s) (made_with 0)

-- who waits at s, in order, and what each lacks
abbrev pub queue_at : Hall → ℕ → List (Who × ℕ)
queue_at h s = (semaphore_at h s).queue

-- whether s is closed
abbrev pub is_closed : Hall → ℕ → Bool
is_closed h s = (semaphore_at h s).closed

-- ---- what a semaphore's permits are

-- whether a waiter is the future f
abbrev pub names : Who → ℕ → Bool
names (Waiter g) f = g == f
names Debt f = false

-- what a future still lacks in a queue
abbrev pub lack_of : List (Who × ℕ) → ℕ → ℕ
lack_of q f = sum_by {X = Who × ℕ} (λ e. cond (names e.0 f) e.1 0) q

-- what one that waits lacks, where it is a debt
abbrev pub debt_of : Who → ℕ → ℕ
debt_of (Waiter g) n = 0
debt_of Debt n = n

-- what the debts of a queue lack together
abbrev pub debts : List (Who × ℕ) → ℕ
debts q = sum_by {X = Who × ℕ} (λ e. debt_of e.0 e.1) q

-- what a future of this demand was paid
abbrev pub paid_to : List (Who × ℕ) → ℕ → ℕ → FutureStage → ℕ
paid_to q f demand New = 0
paid_to q f demand (Waiting w) = demand - lack_of q f
paid_to q f demand Granted = demand
paid_to q f demand Cut = 0

-- the free permits of s
abbrev pub free : Hall → ℕ → ℕ
free h s = (semaphore_at h s).free

-- the sizes of the permits of s
abbrev pub held : Hall → ℕ → ℕ
held h s = total {X = Permit} (λ k p. cond (p.semaphore == s) p.size 0) h.permits

-- what the futures of s were paid
abbrev pub paid : Hall → ℕ → ℕ
paid h s = total {X = Future} (λ f x. cond (x.semaphore == s) (paid_to (queue_at h s) f x.demand x.stage) 0) h.futures

-- what the debts of s lack
abbrev pub owed : Hall → ℕ → ℕ
owed h s = debts (queue_at h s)

-- the permits of s that are free, held or paid
abbrev pub live : Hall → ℕ → ℕ
live h s = free h s + held h s + paid h s

-- how many plain futures and plain permits s has
abbrev pub plain_things : Hall → ℕ → ℕ
plain_things h s = total {X = Future} (λ f x. cond (x.semaphore == s && x.plain) 1 0) h.futures + total {X = Permit} (λ k p. cond (p.semaphore == s && p.plain) 1 0) h.permits

-- ---- pouring

-- n permits are poured into a semaphore: who waits is paid from the head, and what is left over is free
abbrev pub poured : Semaphore → ℕ → Semaphore
poured r n = record r { free = r.free + left_over r.queue n; queue = waiting_after r.queue n }

-- a future that comes to a stage
abbrev pub staged : FutureStage → Future → Future
staged t x = record x { stage = t }

-- one that was paid in full
abbrev pub granted : Future → Future
granted x = staged Granted x

-- the future f, if it is there, comes to a stage
abbrev pub stage_if : FutureStage → map.FinMap nat_cmp Future → ℕ → Option Future → map.FinMap nat_cmp Future
stage_if t m f None = m
stage_if t m f (Some x) = map.insert m f (staged t x)

-- the same of one that waits; a debt has none
abbrev pub stage_who : FutureStage → map.FinMap nat_cmp Future → Who → map.FinMap nat_cmp Future
stage_who t m (Waiter f) = stage_if t m f (map.get m f)
stage_who t m Debt = m

-- each future among these comes to a stage
abbrev pub stage_all : FutureStage → List Who → map.FinMap nat_cmp Future → map.FinMap nat_cmp Future
stage_all t [] m = m
stage_all t (w ∷ ws) m = stage_all t ws (stage_who t m w)

-- each future among those paid in full is granted
abbrev pub grant_all : List Who → map.FinMap nat_cmp Future → map.FinMap nat_cmp Future
grant_all ws m = stage_all Granted ws m

-- the semaphore s is this now
abbrev pub with_semaphore : Hall → ℕ → Semaphore → Hall
with_semaphore h s r = record h { semaphores = map.insert h.semaphores s r }

-- n permits are poured into s
abbrev pub pour : Hall → ℕ → ℕ → Hall
pour h s n = record h {
  semaphores = map.insert h.semaphores s (poured (semaphore_at h s) n);
  futures = grant_all (granted_in (queue_at h s) n) h.futures;
}

-- the waker that a stage keeps, if it keeps one
abbrev pub waker_of : FutureStage → List ℕ
waker_of New = []
waker_of (Waiting w) = w ∷ []
waker_of Granted = []
waker_of Cut = []

-- the same of a future, if it is there
abbrev pub waker_of_future : Option Future → List ℕ
waker_of_future None = []
waker_of_future (Some x) = waker_of x.stage

-- the same of one that waits; a debt has none
abbrev pub waker_of_who : map.FinMap nat_cmp Future → Who → List ℕ
waker_of_who m (Waiter f) = waker_of_future (map.get m f)
waker_of_who m Debt = []

-- the wakers of the futures that a pour grants, in queue order
abbrev pub wakes_of : Hall → ℕ → ℕ → List ℕ
wakes_of h s n = flat_map (waker_of_who h.futures) (granted_in (queue_at h s) n)

-- ---- closing

-- what a future asks for, if it is there
abbrev pub demand_at : Option Future → ℕ
demand_at None = 0
demand_at (Some x) = x.demand

-- what one who waits, and lacks this much, was paid
abbrev pub paid_to_who : map.FinMap nat_cmp Future → Who → ℕ → ℕ
paid_to_who m (Waiter f) lack = demand_at (map.get m f) - lack
paid_to_who m Debt lack = 0

-- what the futures of a queue were paid
abbrev pub paid_in : map.FinMap nat_cmp Future → List (Who × ℕ) → ℕ
paid_in m q = sum_by {X = Who × ℕ} (λ e. paid_to_who m e.0 e.1) q

-- whether one that waits is a debt
abbrev pub is_debt : Who → Bool
is_debt (Waiter f) = false
is_debt Debt = true

-- the debts of a queue
abbrev pub debts_in : List (Who × ℕ) → List (Who × ℕ)
debts_in q = filter {X = Who × ℕ} (λ e. is_debt e.0) q

-- who waits in a queue, in its order
abbrev pub everyone : List (Who × ℕ) → List Who
everyone q = map_list {A = Who × ℕ} (λ e. e.0) q

-- s is closed, and the futures that wait leave its queue and are cut
abbrev pub cutting : Hall → ℕ → Hall
cutting h s = record h {
  semaphores = map.insert h.semaphores s (record (semaphore_at h s) { queue = debts_in (queue_at h s); closed = true });
  futures = stage_all Cut (everyone (queue_at h s)) h.futures;
}

-- s is closed, and what those who are cut were paid is poured
abbrev pub closing : Hall → ℕ → Hall
closing h s = pour (cutting h s) s (paid_in h.futures (queue_at h s))

-- the wakers of the futures that wait at s, in queue order
abbrev pub wakes_waiting : Hall → ℕ → List ℕ
wakes_waiting h s = flat_map (waker_of_who h.futures) (everyone (queue_at h s))

-- ---- codes, by which a proof tells two values apart
-- one that waits as a number, if it is a future
abbrev pub who_number : Who → Option ℕ
who_number (Waiter f) = Some f
who_number Debt = None

-- and back
abbrev pub who_of_number : Option ℕ → Who
who_of_number (Some f) = Waiter f
who_of_number None = Debt

-- from that it comes back
pub who_back : (w : Who) → who_of_number (who_number w) ≡ w
who_back (Waiter f) = refl
who_back Debt = refl

-- of one that waits
abbrev pub who_code : Coded Who
who_code = code_by (Option ℕ) (coded_option coded_ℕ) who_number who_of_number who_back

-- of a semaphore
abbrev pub semaphore_code : Coded Semaphore
semaphore_code =
    code_by (ℕ × (List (Who × ℕ) × (ℕ × (ℕ × (ℕ × (Bool × Bool))))))
    (coded× coded_ℕ (coded× (coded_list (coded× who_code coded_ℕ)) (coded× coded_ℕ (coded× coded_ℕ (coded× coded_ℕ (coded× coded_bool coded_bool))))))
    (λ s. (s.free, (s.queue, (s.made, (s.released, (s.forgotten, (s.named, s.closed)))))))
    (λ p. record { free = p.0; queue = p.1.0; made = p.1.1.0; released = p.1.1.1.0; forgotten = p.1.1.1.1.0; named = p.1.1.1.1.1.0; closed = p.1.1.1.1.1.1 })
    (λ _. refl)

-- a stage, with its waker if it keeps one
abbrev pub stage_number : FutureStage → Option (Option (Option ℕ))
stage_number New = None
stage_number (Waiting w) = Some (Some (Some w))
stage_number Granted = Some None
stage_number Cut = Some (Some None)

-- and back
abbrev pub stage_of_number : Option (Option (Option ℕ)) → FutureStage
stage_of_number None = New
stage_of_number (Some (Some (Some w))) = Waiting w
stage_of_number (Some None) = Granted
stage_of_number (Some (Some None)) = Cut

-- from that it comes back
pub stage_back : (s : FutureStage) → stage_of_number (stage_number s) ≡ s
stage_back New = refl
stage_back (Waiting w) = refl
stage_back Granted = refl
stage_back Cut = refl

-- of a stage
abbrev pub stage_code : Coded FutureStage
stage_code = code_by (Option (Option (Option ℕ))) (coded_option (coded_option (coded_option coded_ℕ))) stage_number stage_of_number stage_back

-- of a future
abbrev pub future_code : Coded Future
future_code =
    code_by (ℕ × (ℕ × (Bool × (Bool × FutureStage)))) (coded× coded_ℕ (coded× coded_ℕ (coded× coded_bool (coded× coded_bool stage_code))))
    (λ f. (f.semaphore, (f.demand, (f.plain, (f.forgets, f.stage)))))
    (λ p. record { semaphore = p.0; demand = p.1.0; plain = p.1.1.0; forgets = p.1.1.1.0; stage = p.1.1.1.1 })
    (λ _. refl)

-- of a permit
abbrev pub permit_code : Coded Permit
permit_code = code_by (ℕ × (ℕ × Bool)) (coded× coded_ℕ (coded× coded_ℕ coded_bool)) (λ p. (p.semaphore, (p.size, p.plain))) (λ p. record { semaphore = p.0; size = p.1.0; plain = p.1.1 }) (λ _. refl)

-- of a hall
abbrev pub hall_code : Coded Hall
hall_code =
    code_by (map.FinMap nat_cmp Semaphore × (map.FinMap nat_cmp Future × map.FinMap nat_cmp Permit))
    (coded× (map.code coded_ℕ semaphore_code) (coded× (map.code coded_ℕ future_code) (map.code coded_ℕ permit_code)))
    (λ h. (h.semaphores, (h.futures, h.permits))) (λ p. record { semaphores = p.0; futures = p.1.0; permits = p.1.1 }) (λ _. refl)
