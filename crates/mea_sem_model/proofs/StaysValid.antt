-- every event keeps a hall valid
use Rattle.std.proofs.Common.{◌≡◌, ℕ, ◌+◌, ◌<◌, ◌≤◌, ◌^◌, ◌==◌, Bool, true, false, cond, refl, ap, subst, arith, None, unwrap_or}
use Rattle.std.specs.Option.{IsSome}
use Rattle.std.specs.FinMap.{get}
use Rattle.std.proofs.lemmas.Bool.{eqb-true, ltb-true, ne_eqb}
use Rattle.mea_family.specs.Family.{Starts, Goes}
use Rattle.mea_base.proofs.Totals.{total-zero}
use Rattle.mea_base.proofs.Tests.{on_false}
use Rattle.mea_events.specs.declared.sem_event.SemEvent.{SemEvent}
use Rattle.mea_events.specs.declared.sem_event.SemEvent.TheVariants as events
use Rattle.mea_sem_model.specs.Hall.{Hall, Semaphore, Future, Permit, made_with, semaphore_at, queue_at, paid_to, free, live}
use Rattle.mea_sem_model.specs.Cause.{cause_of}
use Rattle.mea_sem_model.specs.Step.{step}
use Rattle.mea_sem_model.specs.Valid.{IsValid, IsBelow, Fits}
use Rattle.mea_sem_model.specs.Runs.{Run, IsSemRun, AllFit, if_same, made_by, released_by}
use Rattle.mea_sem_model.proofs.Matched.{IsMatched, matched}
use Rattle.mea_sem_model.proofs.Orderly.{IsOrderly, orderly}
use Rattle.mea_sem_model.proofs.Changes.{no_semaphore_yet}
use Rattle.mea_sem_model.proofs.Events.{line, steps, release_known}
use Rattle.mea_sem_model.proofs.Keeps.{valid_empty, below_later}
use Rattle.mea_sem_model.proofs.Balanced as balance
use Rattle.mea_sem_model.proofs.Tallies.{tallies}
use Rattle.mea_sem_model.proofs.Paid.{parts, paid_or_lacked}

-- ---- the bound on the permits
-- no more permits live than before, with those that the event made and released
pub rises : (h : Hall) (i : ℕ) (e : SemEvent) → IsMatched h → IsOrderly h → IsBelow h i → cause_of h e ≡ None → (s : ℕ)
    → live (step h i e).hall s ≤ live h s + (made_by s (line h i e) e + released_by s e)
rises h i e m v low cause s =
    let c = steps h i m v low e cause in
    let g : Hall = (step h i e).hall in
    omega (arith, c.moves s, paid_or_lacked h m s, paid_or_lacked g c.matched s, parts (queue_at h s), parts (queue_at g s), (tallies h i s low e).owes)

-- none of a semaphore that is not there are live
none_live : (h : Hall) (i : ℕ) → IsOrderly h → IsBelow h i → live h i ≡ 0
none_live h i v low =
    let none : semaphore_at h i ≡ made_with 0 = ap (λ o. unwrap_or o (made_with 0)) (no_semaphore_yet h i low) in
    let frees : free h i ≡ 0 = ap (λ (r : Semaphore). r.free) none in
    omega (
      arith,
      frees,
      total-zero (λ k (p : Permit). cond (p.semaphore == i) p.size 0) h.permits
          (λ k p is. on_false (p.semaphore == i) p.size (other p.semaphore (v.permits_of k p is))),
      total-zero (λ f (x : Future). cond (x.semaphore == i) (paid_to (queue_at h i) f x.demand x.stage) 0) h.futures
          (λ f x is. on_false (x.semaphore == i) (paid_to (queue_at h i) f x.demand x.stage) (other x.semaphore (v.futures_of f x is))),
    )
  where
    other : (q : ℕ) → IsSome (get h.semaphores q) → (q == i) ≡ false
    other q there = ne_eqb q i (λ same. absurd (omega (arith, low.semaphores q there)))

-- as many more as may come
may_come : (h : Hall) (q n s : ℕ) → live h q + n < 2 ^ 64 → live h s < 2 ^ 64 → live h s + if_same q s n < 2 ^ 64
may_come h q n s small old = by_test (q == s) refl
  where
    by_test : (b : Bool) → (q == s) ≡ b → live h s + cond b n 0 < 2 ^ 64
    by_test true e = subst (λ k. live h k + n < 2 ^ 64) (eqb-true q s e) small
    by_test false e = omega arith

fits_on : (h : Hall) (i : ℕ) (e : SemEvent) → IsValid h → IsBelow h i → Fits e → cause_of h e ≡ None → (s : ℕ)
    → live h s + (made_by s (line h i e) e + released_by s e) < 2 ^ 64
fits_on h i (events.New n) v low fits cause s = omega (arith, may_come h i n s (omega (arith, none_live h i (orderly h v) low)) (v.fits s))
fits_on h i (events.Release q n) v low fits cause s = omega (arith, may_come h q n s (ltb-true _ _ (release_known _ _ cause).1) (v.fits s))
fits_on h i e v low fits cause s = omega (arith, v.fits s)

pub kept_valid : (h : Hall) (i : ℕ) (e : SemEvent) → IsValid h → IsBelow h i → Fits e → cause_of h e ≡ None → IsValid (step h i e).hall
kept_valid h i e v low fits cause =
    let c = steps h i (matched h v) (orderly h v) low e cause in
    record {
      once = c.matched.once;
      within = c.matched.within;
      lacking = c.orderly.lacking;
      debts_first = c.orderly.debts_first;
      idle = c.orderly.idle;
      fits = λ s. omega (arith, rises h i e (matched h v) (orderly h v) low cause s, fits_on h i e v low fits cause s);
      named = c.orderly.named;
      closed = c.orderly.closed;
      futures_of = c.orderly.futures_of;
      permits_of = c.orderly.permits_of;
      semaphores_apart = c.orderly.semaphores_apart;
      futures_apart = c.orderly.futures_apart;
    }

-- every hall in a run is valid
pub always_valid : (r : Run) → IsSemRun r → AllFit r.trace → IsValid r.hall
always_valid _ Starts fit = valid_empty
always_valid _ (Goes r i e runs later cause) fit = kept_valid r.hall i e (always_valid r runs fit.1)
    (below_later r.hall r.next i later (balance.kept r runs).below) fit.0 cause
