-- what a core tells of the hall that is stood for
use Rattle.std.proofs.Common.{◌≡◌, ℕ, ◌+◌, List, [], ◌∷◌, refl, ap, sym, ◌∙◌, arith, Some}
use Rattle.std.specs.Ordering.{nat_cmp}
use Rattle.std.specs.FinMap.{FinMap, get}
use Rattle.std.proofs.lemmas.List.Sums.{sum_by-cons}
use Rattle.mea_sem_model.specs.Hall.{Who, semaphore_at, debt_of, debts, paid, live, owed, free}
use Rattle.mea_sem_model.specs.Step.{ledger_of}
use Rattle.mea_sem_core.specs.Core as cores
use Rattle.mea_sem.specs.declared.entries.SemaphoreEntry.{SemaphoreEntry}
use Rattle.mea_sem.specs.declared.entries.FutureEntry.{FutureEntry}
use Rattle.mea_sem.specs.Entries.{ledger_of_entry}
use Rattle.mea_sem.specs.Store.{Store, who_of, queue_of, semaphore_of, hall_of}
use Rattle.mea_sem.specs.Kept.{AreKeptSemaphores}
use Rattle.mea_sem.proofs.Seen.{seen_at}

-- the debts of a queue are the same by name
pub debts-seen : (m : FinMap nat_cmp FutureEntry) (b s : ℕ) (q : List (cores.Waiter ℕ × ℕ)) → debts (queue_of m b s q) ≡ cores.debts q
debts-seen m b s [] = refl
debts-seen m b s ((cores.Acquires n d w, l) ∷ q) =
    let rest = debts-seen m b s q in
    let seen = sum_by-cons (λ (e : Who × ℕ). debt_of e.0 e.1) (who_of m b s (cores.Acquires n d w), l) (queue_of m b s q) in
    let mine = sum_by-cons (λ (e : cores.Waiter ℕ × ℕ). cores.debt_of e.0 e.1) (cores.Acquires n d w, l) q in
    omega (arith, rest, seen, mine)
debts-seen m b s ((cores.Owes, l) ∷ q) =
    let rest = debts-seen m b s q in
    let seen = sum_by-cons (λ (e : Who × ℕ). debt_of e.0 e.1) (who_of m b s cores.Owes, l) (queue_of m b s q) in
    let mine = sum_by-cons (λ (e : cores.Waiter ℕ × ℕ). cores.debt_of e.0 e.1) (cores.Owes, l) q in
    omega (arith, rest, seen, mine)

module _ (st : Store) (w sp next s : ℕ) (e : SemaphoreEntry) (k : AreKeptSemaphores st w sp next) (there : get st.semaphores s ≡ Some e) where
  seen : semaphore_at (hall_of st next) s ≡ semaphore_of st.futures next s e
  seen = seen_at st next s e k.linked there

  pub owed-seen : owed (hall_of st next) s ≡ cores.debts e.core.queue
  owed-seen = ap (λ r. debts r.queue) seen ∙ debts-seen st.futures next s e.core.queue

  -- as many permits live in the core as in the hall
  pub live-seen : live (hall_of st next) s ≡ e.core.live
  live-seen =
      let account = (k.each s e there).account in
      let tally = k.accounted s in
      let made : (semaphore_at (hall_of st next) s).made ≡ e.made = ap (λ r. r.made) seen in
      let released : (semaphore_at (hall_of st next) s).released ≡ e.released = ap (λ r. r.released) seen in
      let forgotten : (semaphore_at (hall_of st next) s).forgotten ≡ e.forgotten = ap (λ r. r.forgotten) seen in
      let owing = owed-seen in
      omega (arith, account, tally, made, released, forgotten, owing)

  -- what is paid follows from what lives
  pub paid-seen : e.core.free + cores.held_of e.core + cores.paid_of e.core ≡ e.core.live → paid (hall_of st next) s ≡ cores.paid_of e.core
  paid-seen whole =
      let lives = live-seen in
      let idle : free (hall_of st next) s ≡ e.core.free = ap (λ r. r.free) seen in
      let holds = (k.each s e there).held in
      omega (arith, whole, lives, idle, holds)

  pub ledger-seen : e.core.free + cores.held_of e.core + cores.paid_of e.core ≡ e.core.live → ledger_of (hall_of st next) s ≡ ledger_of_entry e
  ledger-seen whole = λ j. record {
    made = (seen j).made;
    released = (seen j).released;
    owed = owed-seen j;
    free = (seen j).free;
    held = sym (k.each s e there).held j;
    paid = paid-seen whole j;
    forgotten = (seen j).forgotten;
  }
