-- condition variables by name, with the waits that are on them
use Rattle.std.specs.Prelude.{ℕ, Bool, true, false, [], ◌∷◌, ◌++◌, map, Option, Some, None, is_some, if◌then◌else◌, refl}
use Rattle.std.specs.Coded.{Coded, code_by, coded×, coded_ℕ, coded_bool, coded_list, coded_option}
use Rattle.std.specs.FinMap.{empty, get, insert, remove, len}
use Rattle.mea_family.specs.declared.answer.Answer.TheVariants as answers
use Rattle.mea_family.specs.Family.{Outcome, quietly}
use Rattle.mea_by_name.specs.ByName.{Names, names_code, own}
use Rattle.mea_by_name.specs.NamedQueue as named_queue
use Rattle.mea_by_name.specs.NamedQueue.{Waiting, waits, with_waker, without}
use Rattle.mea_lock_model.specs.Locks.{Until, Held, Reached, Never}

-- a wait: whose it is, and the value that it waits for, if it waits for one; whether it was polled; whether it is
-- listed, so that it waits to be notified or was notified and not polled since; and whether it was notified alone.
-- One that was polled and is not listed asks for the lock
pub record CondWait : Type 0 where
  pub condvar : ℕ
  pub bound : Option ℕ
  pub polled : Bool
  pub listed : Bool
  pub alone : Bool

-- of each condition variable, who waits to be notified, in order
pub record Condvars : Type 0 where
  pub condvars : Names Waiting
  pub waits : Names CondWait

-- no condition variable and no wait
abbrev pub no_condvars : Condvars
no_condvars = record { condvars = empty; waits = empty }

-- whether c is a condition variable
abbrev pub is_condvar : Condvars → ℕ → Bool
is_condvar h c = is_some (get h.condvars c)

-- whether f is a wait
abbrev pub is_wait : Condvars → ℕ → Bool
is_wait h f = is_some (get h.waits f)

-- how many waits a condition variable has
abbrev pub waits_of : Condvars → ℕ → ℕ
waits_of h c = len (own (λ (x : CondWait). x.condvar) c h.waits)

-- who waits to be notified is what is kept of a condition variable
abbrev pub queue_of : Waiting → Waiting
queue_of q = q

-- how many wakers are registered
abbrev pub registered : Condvars → ℕ
registered h = named_queue.registered queue_of h.condvars

-- when a wait that has the lock is ready. The first poll of one that waits for no value gives the lock up, and each
-- later one is ready with it
abbrev pub until_by : Bool → Option ℕ → Until
until_by polled None = if polled then Held else Never
until_by polled (Some v) = Reached v

-- the same of this wait, as it is now
abbrev pub until_of : CondWait → Until
until_of x = until_by x.polled x.bound

-- ---- what the events do
-- a condition variable is made
abbrev pub make : Condvars → ℕ → Outcome Condvars
make h i = quietly (record h { condvars = insert h.condvars i [] }) answers.Made

-- a wait on c is made, which was never polled
abbrev pub begin : Condvars → ℕ → ℕ → Option ℕ → Outcome Condvars
begin h i c bound = quietly (record h { waits = insert h.waits i (record { condvar = c; bound = bound; polled = false; listed = false; alone = false }) }) answers.Made

-- f waits on with this waker
abbrev pub waits_on : Condvars → ℕ → ℕ → CondWait → Waiting → Outcome Condvars
waits_on h f w x q = quietly (record {
  condvars = insert h.condvars x.condvar (with_waker q f w);
  waits = insert h.waits f (record x { polled = true; listed = true });
}) answers.Pending

-- f is the last that waits
abbrev pub lists : Condvars → ℕ → ℕ → CondWait → Waiting → Outcome Condvars
lists h f w x q = quietly (record {
  condvars = insert h.condvars x.condvar (q ++ (f, w) ∷ []);
  waits = insert h.waits f (record x { polled = true; listed = true; alone = false });
}) answers.Pending

-- f asks for the lock, and has to wait for it
abbrev pub asks : Condvars → ℕ → CondWait → Outcome Condvars
asks h f x = quietly (record h { waits = insert h.waits f (record x { polled = true; listed = false }) }) answers.Pending

-- f has the lock, and is over
abbrev pub is_over : Condvars → ℕ → Outcome Condvars
is_over h f = quietly (record h { waits = remove h.waits f }) answers.Ready

-- f is notified alone
abbrev pub noted_at : Names CondWait → ℕ → Option CondWait → Names CondWait
noted_at ws f None = ws
noted_at ws f (Some x) = insert ws f (record x { alone = true })

-- the same of the wait f, if it is there
abbrev pub noted : Names CondWait → ℕ → Names CondWait
noted ws f = noted_at ws f (get ws f)

-- the first that waits at c is notified alone, if any waits
abbrev pub notify_one : Condvars → ℕ → Waiting → Outcome Condvars
notify_one h c [] = quietly h answers.Done
notify_one h c (e ∷ q) = record { hall = record { condvars = insert h.condvars c q; waits = noted h.waits e.0 }; reply = answers.Done; wakes = e.1 ∷ [] }

-- each that waits is notified, in order
abbrev pub notify_all : Condvars → ℕ → Waiting → Outcome Condvars
notify_all h c q = record { hall = record h { condvars = insert h.condvars c [] }; reply = answers.Done; wakes = map (λ (e : ℕ × ℕ). e.1) q }

-- f ends: it waits no more, or passes on that it was notified alone
abbrev pub end_wait : Condvars → ℕ → CondWait → Waiting → Outcome Condvars
end_wait h f x q =
    if waits q f then quietly (record { condvars = insert h.condvars x.condvar (without q f); waits = remove h.waits f }) answers.Done
    else if x.alone then notify_one (record h { waits = remove h.waits f }) x.condvar q
    else quietly (record h { waits = remove h.waits f }) answers.Done

-- the condition variable c is gone
abbrev pub drop : Condvars → ℕ → Outcome Condvars
drop h c = quietly (record h { condvars = remove h.condvars c }) answers.Done

-- ---- codes, by which a proof tells two values apart
-- of those who wait, each with its waker
abbrev pub waiting_code : Coded Waiting
waiting_code = coded_list (coded× coded_ℕ coded_ℕ)

-- of a wait
abbrev pub wait_code : Coded CondWait
wait_code =
    code_by (ℕ × (Option ℕ × (Bool × (Bool × Bool)))) (coded× coded_ℕ (coded× (coded_option coded_ℕ) (coded× coded_bool (coded× coded_bool coded_bool))))
    (λ x. (x.condvar, (x.bound, (x.polled, (x.listed, x.alone))))) (λ p. record { condvar = p.0; bound = p.1.0; polled = p.1.1.0; listed = p.1.1.1.0; alone = p.1.1.1.1 }) (λ _. refl)

-- of condition variables by name
abbrev pub condvars_code : Coded Condvars
condvars_code = code_by (Names Waiting × Names CondWait) (coded× (names_code waiting_code) (names_code wait_code)) (λ h. (h.condvars, h.waits)) (λ p. record { condvars = p.0; waits = p.1 }) (λ _. refl)
