-- what holds of the empty hall, and of each hall that an event leaves
use Rattle.std.proofs.Common.{◌≡◌, ℕ, ◌+◌, ◌≤◌, ◌==◌, ◌&&◌, cond, [], ap, sym, subst, ◌∙◌, arith, None, unwrap_or}
use Rattle.std.specs.Ordering.{nat_cmp}
use Rattle.std.specs.FinMap.{get-empty}
use Rattle.mea_base.proofs.Totals.{total-empty}
use Rattle.mea_base.proofs.Maps.{nothing_there, nothing_at}
use Rattle.mea_events.specs.declared.sem_event.SemEvent.{SemEvent}
use Rattle.mea_sem_model.specs.Hall.{Hall, Semaphore, Future, Permit, empty_hall, made_with, semaphore_at, queue_at, paid_to, debts, free, held, paid, owed, plain_things}
use Rattle.mea_sem_model.specs.Cause.{cause_of}
use Rattle.mea_sem_model.specs.Step.{step}
use Rattle.mea_sem_model.specs.Valid.{count, waits_at, AllLack, HasDebtsFirst, IsValid, IsBelow, IsAccounted}
use Rattle.mea_sem_model.proofs.Matched.{matched}
use Rattle.mea_sem_model.proofs.Orderly.{orderly}
use Rattle.mea_sem_model.proofs.Events.{steps}
use Rattle.mea_sem_model.proofs.Tallies.{tallies}
use Rattle.mea_sem_model.proofs.Paid.{parts, paid_or_lacked}

-- ---- each event keeps it
pub keeps_below : (h : Hall) (i : ℕ) (e : SemEvent) → IsValid h → IsBelow h i → cause_of h e ≡ None → IsBelow (step h i e).hall (i + 1)
keeps_below h i e v low cause = (steps h i (matched h v) (orderly h v) low e cause).below

pub keeps_account : (h : Hall) (i : ℕ) (e : SemEvent) → IsValid h → IsBelow h i → cause_of h e ≡ None → ((s : ℕ) → IsAccounted h s) → (s : ℕ)
    → IsAccounted (step h i e).hall s
keeps_account h i e v low cause account s =
    let c = steps h i (matched h v) (orderly h v) low e cause in
    let t = tallies h i s low e in
    let g : Hall = (step h i e).hall in
    omega (
      arith,
      account s,
      c.moves s,
      t.made,
      t.released,
      t.forgotten,
      paid_or_lacked h (matched h v) s,
      paid_or_lacked g c.matched s,
      parts
          (queue_at h s),
      parts (queue_at g s),
    )

-- names that are below a number are below each greater one
pub below_later : (h : Hall) (n i : ℕ) → n ≤ i → IsBelow h n → IsBelow h i
below_later h n i less b = record {
  semaphores = λ k there. let small = b.semaphores k there in omega (arith, small);
  futures = λ k there. let small = b.futures k there in omega (arith, small);
  permits = λ k there. let small = b.permits k there in omega (arith, small);
}

-- ---- the empty hall
empty_at : (s : ℕ) → semaphore_at empty_hall s ≡ made_with 0
empty_at s = ap (λ o. unwrap_or o (made_with 0)) (get-empty nat_cmp s)

pub no_free : (s : ℕ) → free empty_hall s ≡ 0
no_free s = ap (λ (r : Semaphore). r.free) (empty_at s)

pub no_queue : (s : ℕ) → queue_at empty_hall s ≡ []
no_queue s = ap (λ (r : Semaphore). r.queue) (empty_at s)

pub no_held : (s : ℕ) → held empty_hall s ≡ 0
no_held s = total-empty (λ k (p : Permit). cond (p.semaphore == s) p.size 0)

no_paid : (s : ℕ) → paid empty_hall s ≡ 0
no_paid s = total-empty (λ f (x : Future). cond (x.semaphore == s) (paid_to (queue_at empty_hall s) f x.demand x.stage) 0)

no_plain : (s : ℕ) → plain_things empty_hall s ≡ 0
no_plain s = omega (
  arith,
  total-empty (λ f (x : Future). cond (x.semaphore == s && x.plain) 1 0),
  total-empty
      (λ k (p : Permit). cond (p.semaphore == s && p.plain) 1 0),
)

pub valid_empty : IsValid empty_hall
valid_empty = record {
  once = λ s f. ap (λ q. count q f) (no_queue s) ∙ sym (ap (waits_at s) (get-empty nat_cmp f));
  within = λ s f x is. absurd (nothing_at Future f x is);
  lacking = λ s. subst AllLack (sym (no_queue s)) tt;
  debts_first = λ s. subst HasDebtsFirst (sym (no_queue s)) tt;
  idle = λ s some. no_queue s;
  fits = λ s. omega (arith, no_free s, no_held s, no_paid s);
  named = λ s some. absurd (omega (arith, no_plain s));
  closed = λ f x is. absurd (nothing_at Future f x is);
  futures_of = λ f x is. absurd (nothing_at Future f x is);
  permits_of = λ p x is. absurd (nothing_at Permit p x is);
  semaphores_apart = λ k some. absurd (nothing_there Semaphore k some);
  futures_apart = λ k some. absurd (nothing_there Future k some);
}

pub below_empty : (n : ℕ) → IsBelow empty_hall n
below_empty n = record {
  semaphores = λ k some. absurd (nothing_there Semaphore k some);
  futures = λ k some. absurd (nothing_there Future k some);
  permits = λ k some. absurd (nothing_there Permit k some);
}

pub accounted_empty : (s : ℕ) → IsAccounted empty_hall s
accounted_empty s =
    let y : Semaphore = semaphore_at empty_hall s in
    let made : y.made ≡ 0 = ap (λ (r : Semaphore). r.made) (empty_at s) in
    let released : y.released ≡ 0 = ap (λ (r : Semaphore). r.released) (empty_at s) in
    let forgotten : y.forgotten ≡ 0 = ap (λ (r : Semaphore). r.forgotten) (empty_at s) in
    let owes : owed empty_hall s ≡ 0 = ap debts (no_queue s) in
    omega (arith, made, released, forgotten, owes, no_free s, no_held s, no_paid s)
