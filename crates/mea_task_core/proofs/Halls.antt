-- what the events of tasks leave of a hall
use Rattle.std.proofs.Common.{◌≡◌, ℕ, ◌+◌, ◌-◌, ◌^◌, ◌⊎◌, inl, inr, Bool, true, false, List, [], ◌∷◌, ◌++◌, Some, None, unwrap_or, refl, ap, sym, subst, ◌∙◌, arith, nat_le, nat_lt, slice_index, if◌then◌else◌}
use Rattle.std.specs.FinMap.{get, insert, remove}
use Rattle.mea_base.proofs.Maps.{inside, is_there, get-there, get-other}
use Rattle.mea_base.proofs.Tests.{by_name}
use Rattle.mea_family.specs.Causes.{unknown_unless}
use Rattle.mea_family.specs.declared.answer.Answer.TheVariants as answers
use Rattle.mea_family.specs.declared.stop.Stop.{Stop}
use Rattle.mea_family.specs.declared.stop.Stop.TheVariants as stops
use Rattle.mea_events.specs.declared.sem_event.SemEvent.{SemEvent}
use Rattle.mea_events.specs.declared.sem_event.SemEvent.TheVariants as events
use Rattle.mea_sem_model.specs.Hall.{Hall, Semaphore, Future, FutureStage, New, Waiting, Granted, Waiter, made_with, semaphore_at, queue_at, is_closed, free, live, poured, pour, with_semaphore}
use Rattle.mea_sem_model.specs.Cause.{cause_of, is_named, is_named_semaphore}
use Rattle.mea_sem_model.specs.Step.{Outcome, quietly, without_future, taking, made_ready, queueing, refusing, open_poll, poll_of, released_to, step}
use Rattle.mea_sem_model.specs.Valid.{IsBelow, Fits}
use Rattle.mea_sem_model.proofs.StaysValid.{kept_valid}
use Rattle.mea_sem_model.proofs.Keeps.{keeps_below}
use Rattle.mea_task_core.specs.Sound.{IsOpen, IsSoundHall, future_of}

-- ---- semaphores stay named and open
open_here : (h : Hall) (s : ℕ) (o : IsOpen h s) → semaphore_at h s ≡ o.there
open_here h s o = ap (λ r. unwrap_or r (made_with 0)) o.is

pub open_named : (h : Hall) (s : ℕ) → IsOpen h s → is_named h s ≡ true
open_named h s o = ap is_named_semaphore o.is ∙ o.named

pub open_is : (h : Hall) (s : ℕ) → IsOpen h s → is_closed h s ≡ false
open_is h s o = ap (λ (r : Semaphore). r.closed) (open_here h s o) ∙ o.is_open

-- a semaphore that is put where one was is named and closed as that was
pub put_open : (h : Hall) (q : ℕ) (r : Semaphore) → r.named ≡ (semaphore_at h q).named → r.closed ≡ (semaphore_at h q).closed → (s : ℕ) → IsOpen h s → IsOpen (with_semaphore h q r) s
put_open h q r named closed s o =
    by_name q s
    (λ same. record {
      there = r;
      is = subst (λ k. get (insert h.semaphores q r) k ≡ Some r) same (get-there h.semaphores q r);
      named = named ∙ ap (λ k. (semaphore_at h k).named) same ∙ ap (λ (x : Semaphore). x.named) (open_here h s o) ∙ o.named;
      is_open = closed ∙ ap (λ k. (semaphore_at h k).closed) same ∙ ap (λ (x : Semaphore). x.closed) (open_here h s o) ∙ o.is_open;
    })
    (λ apart. record { there = o.there; is = get-other h.semaphores q s r apart ∙ o.is; named = o.named; is_open = o.is_open })

-- semaphores that are the same are as open
pub same_open : (h k : Hall) → k.semaphores ≡ h.semaphores → (s : ℕ) → IsOpen h s → IsOpen k s
same_open h k same s o = record { there = o.there; is = ap (λ m. get m s) same ∙ o.is; named = o.named; is_open = o.is_open }

pub new_open : (h : Hall) (i n : ℕ) → IsBelow h i → (s : ℕ) → IsOpen h s → IsOpen (with_semaphore h i (made_with n)) s
new_open h i n low s o =
    let less = low.semaphores s (is_there (get h.semaphores s) o.there o.is) in
    record { there = o.there; is = get-other h.semaphores i s (made_with n) (λ same. absurd (omega (arith, less, same))) ∙ o.is; named = o.named; is_open = o.is_open }

pub made_open : (h : Hall) (i n : ℕ) → IsOpen (with_semaphore h i (made_with n)) i
made_open h i n = record { there = made_with n; is = get-there h.semaphores i (made_with n); named = refl; is_open = refl }

-- ---- the hall after an event
pub hall_goes_on : (h : Hall) (i : ℕ) (names : List ℕ) (e : SemEvent) → IsSoundHall h i names → Fits e → cause_of h e ≡ None → ((s : ℕ) → IsOpen h s → IsOpen (step h i e).hall s)
    → IsSoundHall (step h i e).hall (i + 1) names
hall_goes_on h i names e sound fits cause opens = record {
  valid = kept_valid h i e sound.valid sound.below fits cause;
  below = keeps_below h i e sound.valid sound.below cause;
  each_open = λ k less. opens (slice_index names k) (sound.each_open k less);
}

-- ---- an acquire
pub acquire_allowed : (h : Hall) (s n : ℕ) → IsOpen h s → cause_of h (events.Acqf s n) ≡ None
acquire_allowed h s n o = ap unknown_unless (open_named h s o)

-- ---- a poll
pub poll_allowed : (h : Hall) (f w : ℕ) (x : Future) → get h.futures f ≡ Some x → cause_of h (events.Poll f w) ≡ None
poll_allowed h f w x is = ap unknown_unless (is_there (get h.futures f) x is)

-- a poll of f is ready, and f is gone
pub record GetsReady (h : Hall) (f : ℕ) (o : Outcome) : Type 0 where
  pub reply : o.reply ≡ answers.Ready
  pub wakes : o.wakes ≡ []
  pub futures : o.hall.futures ≡ remove h.futures f
  pub opens : (s : ℕ) → IsOpen h s → IsOpen o.hall s

-- a poll of f is pending, and f waits
pub record HasToWait (h : Hall) (f : ℕ) (x : Future) (o : Outcome) : Type 0 where
  pub reply : o.reply ≡ answers.Pending
  pub wakes : o.wakes ≡ []
  pub futures : o.hall.futures ≡ insert h.futures f x
  pub opens : (s : ℕ) → IsOpen h s → IsOpen o.hall s

ready_of : (h k : Hall) (i f s n : ℕ) (t : FutureStage) → k.futures ≡ h.futures → ((q : ℕ) → IsOpen h q → IsOpen k q) → GetsReady h f (quietly (made_ready k i f (future_of s n t)) answers.Ready)
ready_of h k i f s n t same opens = record {
  reply = refl;
  wakes = refl;
  futures = ap (λ m. remove m f) same;
  opens = λ q o. put_open (without_future k f) s (record (semaphore_at k s) { forgotten = (semaphore_at k s).forgotten + n }) refl refl q
      (same_open k (without_future k f) refl q (opens q o));
}

module _ (h : Hall) (i f w s n : ℕ) where
  pub poll_granted : get h.futures f ≡ Some (future_of s n Granted) → GetsReady h f (step h i (events.Poll f w))
  poll_granted is = subst (λ o. GetsReady h f (poll_of h i f w o)) (sym is) (ready_of h h i f s n Granted refl (λ q o. o))

  pub poll_new : get h.futures f ≡ Some (future_of s n New) → IsOpen h s
      → GetsReady h f (step h i (events.Poll f w)) ⊎ HasToWait h f (future_of s n (Waiting w)) (step h i (events.Poll f w))
  poll_new is o =
      subst (λ p. GetsReady h f (poll_of h i f w p) ⊎ HasToWait h f (future_of s n (Waiting w)) (poll_of h i f w p)) (sym is)
      (subst (λ b. GetsReady h f (if b then refusing h f else open_poll h i f w (future_of s n New))
      ⊎ HasToWait h f (future_of s n (Waiting w)) (if b then refusing h f else open_poll h i f w (future_of s n New))) (sym (open_is h s o))
      (by_free (nat_le n (free h s))))
    where
      by_free : (b : Bool) → GetsReady h f (if b then quietly (made_ready (with_semaphore h s (taking (semaphore_at h s) n)) i f (future_of s n New)) answers.Ready else quietly (queueing h f w (future_of s n New)) answers.Pending)
          ⊎ HasToWait h f (future_of s n (Waiting w)) (if b then quietly (made_ready (with_semaphore h s (taking (semaphore_at h s) n)) i f (future_of s n New)) answers.Ready else quietly (queueing h f w (future_of s n New)) answers.Pending)
      by_free true = inl (ready_of h (with_semaphore h s (taking (semaphore_at h s) n)) i f s n New refl (put_open h s (taking (semaphore_at h s) n) refl refl))
      by_free false = inr record {
        reply = refl;
        wakes = refl;
        futures = refl;
        opens = λ q a.
            let first = put_open h s (record (semaphore_at h s) { free = 0; queue = queue_at h s ++ (Waiter f, n - free h s) ∷ [] }) refl refl q a in
            same_open (with_semaphore h s (record (semaphore_at h s) { free = 0; queue = queue_at h s ++ (Waiter f, n - free h s) ∷ [] })) (queueing h f w (future_of s n New)) refl q first;
      }

-- ---- a release
pub release_opens : (h : Hall) (i q n s : ℕ) → IsOpen h s → IsOpen (step h i (events.Release q n)).hall s
release_opens h i q n s o =
    let first = put_open h q (record (semaphore_at h q) { released = (semaphore_at h q).released + n }) refl refl s o in
    let second = put_open (released_to h q n) q (poured (semaphore_at (released_to h q n) q) n) refl refl s first in
    same_open (with_semaphore (released_to h q n) q (poured (semaphore_at (released_to h q n) q) n)) (pour (released_to h q n) q n) refl s second

-- a release of an open semaphore is refused where the permits would pass their greatest number, and else it is not
pub release_refused : (h : Hall) (q n : ℕ) (stop : Stop) → IsOpen h q → cause_of h (events.Release q n) ≡ Some stop → stop ≡ stops.Overflow
release_refused h q n stop o refused =
    by_test (nat_lt (live h q + n) (2 ^ 64))
    (sym (ap (λ b. if b then (if nat_lt (live h q + n) (2 ^ 64) then None else Some stops.Overflow) else Some stops.Unknown) (open_named h q o)) ∙ refused)
  where
    by_test : (b : Bool) → (if b then None else Some stops.Overflow) ≡ Some stop → stop ≡ stops.Overflow
    by_test true e = absurd (cc)
    by_test false e = sym (inside e)
