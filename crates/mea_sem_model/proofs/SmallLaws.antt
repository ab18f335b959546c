-- nobody overtakes who waits, and an end gives back what was paid
use Rattle.std.proofs.Common.{◌≡◌, ◌≢◌, ℕ, ◌+◌, ◌-◌, ◌<◌, ◌==◌, ◌&&◌, Bool, true, false, cond, List, [], ◌∷◌, not, nat_le, refl, ap, sym, ◌∙◌, arith, Some, None, if◌then◌else◌, zero, suc}
use Rattle.std.specs.FinMap.{get}
use Rattle.std.proofs.lemmas.List.Sums.{sum_by-cons}
use Rattle.std.proofs.lemmas.Bool.{eq-eqb, lt-leb}
use Rattle.mea_base.specs.Totals.{weight}
use Rattle.mea_family.specs.declared.answer.Answer.TheVariants as answers
use Rattle.mea_base.proofs.Tests.{on_true}
use Rattle.mea_events.specs.declared.sem_event.SemEvent.TheVariants as events
use Rattle.mea_sem_model.specs.Hall.{Hall, Semaphore, Future, New, Waiting, Granted, Cut, Who, Waiter, Debt, semaphore_at, queue_at, is_closed, lack_of, debt_of, debts, paid_to, free, owed, live, pour, with_semaphore}
use Rattle.mea_sem_model.specs.Cause.{cause_of}
use Rattle.mea_sem_model.specs.Step.{quietly, with_permit, taking, made_ready, queueing, open_poll, refusing, poll_at, poll_of, end_future, end_of, leaving, without, without_future, offers, try_of, try_and_forget, step}
use Rattle.mea_sem_model.specs.Valid.{IsValid, IsBelow}
use Rattle.mea_sem_model.proofs.HallLemmas.{semaphore_put}
use Rattle.mea_sem_model.proofs.Pours.{lacks-without}
use Rattle.mea_sem_model.proofs.Matched.{matched, left_matched}
use Rattle.mea_sem_model.proofs.Orderly.{orderly}
use Rattle.mea_sem_model.proofs.Changes.{taken, taken_by, moves_semaphore, moves_no_future}
use Rattle.mea_sem_model.proofs.Events.{steps}
use Rattle.mea_sem_model.proofs.Paid.{parts, paid_or_lacked}

-- ---- nobody overtakes
pub none_free : (h : Hall) → IsValid h → (s : ℕ) → queue_at h s ≢ [] → free h s ≡ 0
none_free h v s waited = by_free (free h s) refl
  where
    by_free : (k : ℕ) → free h s ≡ k → free h s ≡ 0
    by_free zero e = e
    by_free (suc k) e = absurd (waited (v.idle s (let some : 0 < free h s = omega arith in some)))

-- more than none is more than what is free
too_many : (h : Hall) → IsValid h → (s n : ℕ) → queue_at h s ≢ [] → 0 < n → nat_le n (free h s) ≡ false
too_many h v s n waited some = lt-leb n (free h s) (omega (arith, none_free h v s waited))

not_offered : (h : Hall) → IsValid h → (s n : ℕ) → queue_at h s ≢ [] → 0 < n → offers h s n ≡ false
not_offered h v s n waited some = by_test (not (is_closed h s)) (nat_le n (free h s)) (too_many h v s n waited some)
  where
    by_test : (a b : Bool) → b ≡ false → (a && b) ≡ false
    by_test true b e = e
    by_test false b e = refl

pub try_waits : (h : Hall) → IsValid h → (i s n : ℕ) (plain : Bool) → queue_at h s ≢ [] → 0 < n → (try_of h i s n plain).reply ≡ answers.Lacking
try_waits h v i s n plain waited some = ap
    (λ b. (if b then quietly (with_permit (with_semaphore h s (taking (semaphore_at h s) n)) i (record { semaphore = s; size = n; plain = plain }))
    answers.Held else quietly h answers.Lacking).reply) (not_offered h v s n waited some)

pub forgetting_try_waits : (h : Hall) → IsValid h → (s n : ℕ) → queue_at h s ≢ [] → 0 < n → (try_and_forget h s n).reply ≡ answers.No
forgetting_try_waits h v s n waited some = ap
    (λ b. (if b then quietly (with_semaphore h s (record (semaphore_at h s) { free = free h s - n; forgotten = (semaphore_at h s).forgotten + n }))
    answers.Yes else quietly h answers.No).reply) (not_offered h v s n waited some)

pub first_poll_waits : (h : Hall) → IsValid h → (i f w : ℕ) (x : Future) → get h.futures f ≡ Some x → x.stage ≡ New → is_closed h x.semaphore ≡ false
    → queue_at h x.semaphore ≢ [] → 0 < x.demand → (step h i (events.Poll f w)).reply ≡ answers.Pending
first_poll_waits h v i f w x is unpolled open_still waited some =
    ap (λ o. (poll_of h i f w o).reply) is
    ∙ ap (λ t. (poll_at h i f w x t).reply) unpolled
    ∙ ap (λ b. (if b then refusing h f else open_poll h i f w x).reply) open_still
    ∙ ap (λ b. (if b then quietly (made_ready (with_semaphore h x.semaphore (taking (semaphore_at h x.semaphore) x.demand)) i f x) answers.Ready
    else quietly (queueing h f w x) answers.Pending).reply) (too_many h v x.semaphore x.demand waited some)

-- ---- an end
module _ (h : Hall) (i f : ℕ) (x : Future) (is : get h.futures f ≡ Some x) where
  pub end_new : x.stage ≡ New → (step h i (events.End f)).hall ≡ without_future h f
  end_new e = ap (λ o. (end_of h f o).hall) is ∙ ap (λ t. (end_future h f x t).hall) e

  pub end_cut : x.stage ≡ Cut → (step h i (events.End f)).hall ≡ without_future h f
  end_cut e = ap (λ o. (end_of h f o).hall) is ∙ ap (λ t. (end_future h f x t).hall) e

  pub end_waiting : (w : ℕ) → x.stage ≡ Waiting w → (step h i (events.End f)).hall ≡ pour (leaving h f x) x.semaphore
      (paid_to (queue_at h x.semaphore) f x.demand x.stage)
  end_waiting w e = ap (λ o. (end_of h f o).hall) is ∙ ap (λ t. (end_future h f x t).hall) e
      ∙ ap (λ t. pour (leaving h f x) x.semaphore (paid_to (queue_at h x.semaphore) f x.demand t)) (sym e)

  pub end_granted : x.stage ≡ Granted → (step h i (events.End f)).hall ≡ pour (without_future h f) x.semaphore
      (paid_to (queue_at h x.semaphore) f x.demand x.stage)
  end_granted e = ap (λ o. (end_of h f o).hall) is ∙ ap (λ t. (end_future h f x t).hall) e
      ∙ ap (λ t. pour (without_future h f) x.semaphore (paid_to (queue_at h x.semaphore) f x.demand t)) (sym e)

-- no debt leaves the queue with a future
debts-without : (q : List (Who × ℕ)) (f : ℕ) → debts (without q f) ≡ debts q
debts-without [] f = refl
debts-without ((Waiter g, n) ∷ q) f = elim (not (g == f)) as (λ b. debts (cond b ((Waiter g, n) ∷ without q f) (without q f)) ≡ debts ((Waiter g, n) ∷ q)) [
  | true ↦ omega (
    arith,
    debts-without q f,
    sum_by-cons {X = Who × ℕ} (λ e. debt_of e.0 e.1) (Waiter g, n) q,
    sum_by-cons {X = Who × ℕ}
        (λ e. debt_of e.0 e.1) (Waiter g, n) (without q f),
  )
  | false ↦ omega (arith, debts-without q f, sum_by-cons {X = Who × ℕ} (λ e. debt_of e.0 e.1) (Waiter g, n) q)
]
debts-without ((Debt, n) ∷ q) f = omega (
  arith,
  debts-without q f,
  sum_by-cons {X = Who × ℕ} (λ e. debt_of e.0 e.1) (Debt, n) q,
  sum_by-cons {X = Who × ℕ} (λ e. debt_of e.0 e.1)
      (Debt, n) (without q f),
)

-- who leaves the queue takes its paid part along, and nothing else
module _ (h : Hall) (v : IsValid h) (f w : ℕ) (x : Future) (is : get h.futures f ≡ Some x) (waits : x.stage ≡ Waiting w) where
  pub leaves_with : live (leaving h f x) x.semaphore + paid_to (queue_at h x.semaphore) f x.demand x.stage ≡ live h x.semaphore
  leaves_with =
      let s : ℕ = x.semaphore in
      let g : Hall = leaving h f x in
      let r : Semaphore = record (semaphore_at h x.semaphore) { queue = without (queue_at h x.semaphore) f } in
      let put : semaphore_at g s ≡ r = semaphore_put h s s r ∙ ap (λ b. cond b r (semaphore_at h s)) (eq-eqb s s refl) in
      let frees : free g s ≡ free h s = ap (λ (y : Semaphore). y.free) put in
      let owes : owed g s ≡ owed h s = ap (λ (y : Semaphore). debts y.queue) put ∙ debts-without (queue_at h s) f in
      let weighs : weight (taken_by s) f (get h.futures f) ≡ x.demand =
      ap (weight (taken_by s) f) is ∙ ap (λ t. cond (s == s) (taken x.demand t) 0) waits ∙ on_true (s == s) x.demand (eq-eqb s s refl) in
      let paid_part : paid_to (queue_at h s) f x.demand x.stage ≡ x.demand - lack_of (queue_at h s) f = ap (paid_to (queue_at h s) f x.demand) waits in
      omega (
        arith,
        frees,
        owes,
        weighs,
        paid_part,
        v.within s f x is,
        on_true (s == s) (lack_of (queue_at h s) f) (eq-eqb s s refl),
        never (s == s),
        moves_semaphore h s (lack_of (queue_at h s) f) 0 r (omega (arith, lacks-without (queue_at h s) f)) s,
        moves_no_future (with_semaphore h s r) f s,
        paid_or_lacked h (matched h v) s,
        paid_or_lacked g (left_matched h f x is (matched h v)) s,
        parts (queue_at h s),
        parts (queue_at g s),
      )
    where
      never : (b : Bool) → ◌≡◌ {A = ℕ} (cond b 0 0) 0
      never true = refl
      never false = refl

-- an end makes no permit and loses none but to debts
pub end_conserves : (h : Hall) (i k : ℕ) → IsValid h → IsBelow h i → cause_of h (events.End k) ≡ None → (s : ℕ)
    → live (step h i (events.End k)).hall s + owed h s ≡ live h s + owed (step h i (events.End k)).hall s
end_conserves h i k v low cause s =
    let c = steps h i (matched h v) (orderly h v) low (events.End k) cause in
    let g : Hall = (step h i (events.End k)).hall in
    omega (arith, c.moves s, paid_or_lacked h (matched h v) s, paid_or_lacked g c.matched s, parts (queue_at h s), parts (queue_at g s))
