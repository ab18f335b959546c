-- as many numbers of a condition variable were notified as waits of it
use Rattle.std.proofs.Common.{◌≡◌, ℕ, zero, suc, ◌-◌, ◌&&◌, inl, inr, Bool, true, false, not, cond, List, Option, Some, None, is_some, refl, ap, sym, ◌∙◌, arith}
use Rattle.std.specs.FinMap.{get, remove, len}
use Rattle.mea_base.specs.Totals.{total, weight}
use Rattle.mea_base.proofs.Totals.{total-remove, total-zero}
use Rattle.mea_by_name.specs.declared.named_waker.NamedWaker.{NamedWaker}
use Rattle.mea_by_name.specs.ByName.{Names}
use Rattle.mea_by_name.specs.NamedQueue.{waits}
use Rattle.mea_cores_by_name.proofs.Granted.{an_entry, one_fewer, nothing_in}
use Rattle.mea_lock_core.specs.Condvar.{Knows}
use Rattle.mea_lock.specs.declared.wait_entry.WaitEntry.{WaitEntry}
use Rattle.mea_lock.specs.CondEntries.{KeptCondvar, listed_in, forgotten, forgotten_under}
use Rattle.mea_lock.specs.CondParts.{AreListed}
use Rattle.mea_lock.proofs.OneCondvar.{listed_waits, is_over}

module _ (counts : Bool → ℕ) where
  -- a wait that was notified counts by whether it was so alone
  abbrev pub noted_by : List (ℕ × NamedWaker) → ℕ → WaitEntry → ℕ
  noted_by q f x = cond (is_some x.number && not (waits (listed_in q) f)) (counts x.alone) 0

  -- where no number was notified, a wait is not listed or waits
  none_told : (e : KeptCondvar) (ws : Names WaitEntry) → AreListed e ws → len e.condvar.notified ≡ 0 → (f : ℕ) (x : WaitEntry) → get ws f ≡ Some x → (number : Option ℕ) → x.number ≡ number → noted_by e.condvar.waiting f x ≡ 0
  none_told e ws good none f x there None is = λ j. cond (is_some (is j) && not (waits (listed_in e.condvar.waiting) f)) (counts x.alone) 0
  none_told e ws good none f x there (Some n) is = at (good.known f x there n is).0
    where
      at : Knows e.condvar n → noted_by e.condvar.waiting f x ≡ 0
      at (inl waited) =
          let waits_so : waits (listed_in e.condvar.waiting) f ≡ true = sym (listed_waits ws good.apart f n x there is e.condvar.waiting good.waits) ∙ waited in
          λ j. cond (is_some (is j) && not (waits_so j)) (counts x.alone) 0
      at (inr told) = absurd (let nothing = nothing_in e.condvar.notified n none in cc)

  pub told_are : (c : ℕ) (e : KeptCondvar) (ws : Names WaitEntry) → len e.condvar.notified ≡ c → AreListed e ws
      → total (λ f x. noted_by e.condvar.waiting f x) ws ≡ total (λ n by_one. counts by_one) e.condvar.notified
  told_are zero e ws is good =
      total-zero (λ f x. noted_by e.condvar.waiting f x) ws (λ f x there. none_told e ws good is f x there x.number refl)
      ∙ sym (total-zero (λ n by_one. counts by_one) e.condvar.notified (λ n by_one there. absurd (let nothing = nothing_in e.condvar.notified n is in cc)))
  told_are (suc c) e ws is good =
      let one = an_entry e.condvar.notified c is in
      let told = good.notified one.0 one.1 one.2 in
      let f = told.1.0 in
      let x = told.1.1 in
      let there = told.1.2 in
      let number = told.1.3 in
      let idle : waits (listed_in e.condvar.waiting) f ≡ false = sym (listed_waits ws good.apart f one.0 x there number e.condvar.waiting good.waits) ∙ ap is_some told.0 in
      let fewer : len (forgotten e.condvar.notified x.number) ≡ c = ap (λ o. len (forgotten e.condvar.notified o)) number ∙ one_fewer e.condvar.notified c one.0 one.1 is one.2 in
      let rest : total (λ f x. noted_by e.condvar.waiting f x) (remove ws f) ≡ total (λ n by_one. counts by_one) (forgotten e.condvar.notified x.number)
      = told_are c (record (forgotten_under e x.number) { waits = e.waits - 1 }) (remove ws f) fewer (is_over e ws good f x there idle) in
      let gone : total (λ n by_one. counts by_one) (forgotten e.condvar.notified x.number) ≡ total (λ n by_one. counts by_one) (remove e.condvar.notified one.0)
      = ap (λ o. total (λ n by_one. counts by_one) (forgotten e.condvar.notified o)) number in
      let here : weight (λ f x. noted_by e.condvar.waiting f x) f (get ws f) ≡ counts x.alone
      = ap (weight (λ f x. noted_by e.condvar.waiting f x) f) there ∙ (λ j. cond (is_some (number j) && not (idle j)) (counts x.alone) 0) in
      let taken : weight (λ n by_one. counts by_one) one.0 (get e.condvar.notified one.0) ≡ counts one.1 = ap (weight (λ n by_one. counts by_one) one.0) one.2 in
      let same = ap counts told.1.4 in
      omega (arith, rest, gone, here, taken, same, total-remove (λ f x. noted_by e.condvar.waiting f x) ws f, total-remove (λ n by_one. counts by_one) e.condvar.notified one.0)
