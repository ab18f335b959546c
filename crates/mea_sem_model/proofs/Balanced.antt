-- the permits balance after every run
use Rattle.std.proofs.Common.{◌≡◌, ℕ, ◌+◌, ◌≤◌, ap, arith, None}
use Rattle.std.proofs.lemmas.List.Sums.{sum_by-cons}
use Rattle.mea_family.specs.Family.{told, goes_on, Starts, Goes}
use Rattle.mea_base.specs.Queue.{lacks}
use Rattle.mea_base.proofs.Totals.{total-empty}
use Rattle.mea_events.specs.declared.sem_event.SemEvent.{SemEvent}
use Rattle.mea_sem_model.specs.Hall.{empty_hall, queue_at, free, held}
use Rattle.mea_sem_model.specs.Cause.{cause_of}
use Rattle.mea_sem_model.specs.Valid.{IsBelow}
use Rattle.mea_sem_model.specs.Runs.{ToldSemEvent, Run, IsSemRun, semaphores, made_by, released_by, forgotten_by, made, released, forgotten, Balances}
use Rattle.mea_sem_model.proofs.Matched.{IsMatched, matched}
use Rattle.mea_sem_model.proofs.Orderly.{IsOrderly, orderly}
use Rattle.mea_sem_model.proofs.Changes.{taken_by, committed}
use Rattle.mea_sem_model.proofs.Events.{steps}
use Rattle.mea_sem_model.proofs.Paid.{parts, paid_or_lacked}
use Rattle.mea_sem_model.proofs.Keeps.{valid_empty, below_empty, below_later, no_free, no_queue, no_held}

-- what every run keeps
pub record Kept (r : Run) : Type 0 where
  pub matched : IsMatched r.hall
  pub orderly : IsOrderly r.hall
  pub below : IsBelow r.hall r.next
  pub sums : (s : ℕ) → made r.trace s + released r.trace s + lacks
      (queue_at r.hall s) ≡ free r.hall s + held r.hall s + committed r.hall.futures s + forgotten r.trace s

keeps : (r : Run) (i : ℕ) (e : SemEvent) → Kept r → r.next ≤ i → cause_of r.hall e ≡ None → Kept (goes_on semaphores r i e)
keeps r i e k later cause =
    let c = steps r.hall i k.matched k.orderly (below_later r.hall r.next i later k.below) e cause in
    let t : ToldSemEvent = told semaphores r i e in
    record {
      matched = c.matched;
      orderly = c.orderly;
      below = c.below;
      sums = λ s. omega (
        arith,
        k.sums s,
        c.moves s,
        sum_by-cons {X = ToldSemEvent} (λ t. made_by s t t.event) t r.trace,
        sum_by-cons {X = ToldSemEvent} (λ t. released_by s t.event) t r.trace,
        sum_by-cons {X = ToldSemEvent} (λ t. forgotten_by s t t.event) t r.trace,
      );
    }

pub kept : (r : Run) → IsSemRun r → Kept r
kept _ Starts = record {
  matched = matched empty_hall valid_empty;
  orderly = orderly empty_hall valid_empty;
  below = below_empty 0;
  sums = λ s.
      let none : lacks (queue_at empty_hall s) ≡ 0 = ap (λ q. lacks q) (no_queue s) in
      omega (arith, none, no_free s, no_held s, total-empty (taken_by s));
}
kept _ (Goes r i e runs later cause) = keeps r i e (kept r runs) later cause

pub balanced : (r : Run) → IsSemRun r → (s : ℕ) → Balances r s
balanced r runs s =
    let k = kept r runs in
    omega (arith, k.sums s, paid_or_lacked r.hall k.matched s, parts (queue_at r.hall s))
