-- a flag under a lock that nobody has, and a condition variable, as a gate
use Rattle.std.proofs.Common.{◌≡◌, ◌∙◌, ℕ, ◌-◌, ◌≤◌, inl, inr, Bool, true, false, cond, List, [], ◌∷◌, Option, None, is_some, Ok, refl, ap, sym, arith}
use Rattle.std.specs.Prelude.{IsSome}
use Rattle.std.specs.Ordering.{nat_cmp}
use Rattle.std.specs.FinMap as map
use Rattle.std.specs.FinMap.{get-empty}
use Rattle.mea_base.specs.declared.turn.Turn.TheVariants.{Ready}
use Rattle.mea_base.proofs.Maps.{value_in}
use Rattle.mea_sem_core.specs.Core.{Core}
use Rattle.mea_sem_core.specs.Calls.{given_back}
use Rattle.mea_lock_core.specs.Condvar.{Condvar, waker_under, without_wait, first_notified}
use Rattle.mea_lock_core.specs.CondWaits.{PollsListed, EndsListed}
use Rattle.mea_lock_core.specs.Lock.{Lock, permits_of}
use Rattle.mea_lock_core.specs.declared.cond_wait.CondWait.{CondWait}
use Rattle.mea_pool_core.specs.declared.drain_wait.DrainWait.TheVariants.{Listed}
use Rattle.mea_pool_core.specs.Gate.{IsListed, gate_of, IsGate, EndsGate}

nobody_in : {X : Type 0} (m : map.FinMap nat_cmp X) (n : ℕ) → m ≡ map.empty → IsSome (map.get m n) → ⊥
nobody_in {X} m n empty some = let none : map.get m n ≡ None = ap (λ (k : map.FinMap nat_cmp X). map.get k n) empty ∙ get-empty nat_cmp n in let no : false ≡ true = sym (ap (λ (o : Option X). is_some o) none) ∙ some in cc

-- by whether a flag is set
pub by_flag : {X : Type 0} (b : Bool) → (b ≡ true → X) → (b ≡ false → X) → X
by_flag {X} b set unset = elim b as (λ v. (v ≡ true → X) → (v ≡ false → X) → X) [ true ↦ λ s u. s refl | false ↦ λ s u. u refl ] set unset

module _ {W : Type 0} where
  nobody_waits : (q : List (ℕ × W)) (n : ℕ) → q ≡ [] → IsSome (waker_under q n) → ⊥
  nobody_waits q n empty some = let no : false ≡ true = sym (ap (λ (p : List (ℕ × W)). is_some (waker_under p n)) empty) ∙ some in cc

  free_lock : (l : Lock Bool W) (s : Condvar W) → IsGate l s → 1 ≤ l.permits.free
  free_lock l s is = let one : l.permits.free ≡ 1 = ap (λ (p : Core W). p.free) is.free in omega arith

  -- a further poll that is ready: the gate is open, the wait is told no more, and the lock is held
  pub record IsThrough (l l' : Lock Bool W) (s s' : Condvar W) (n : ℕ) : Type 0 where
    pub opened : l.value ≡ true
    pub told : s' ≡ record s { notified = map.remove s.notified n }
    pub value : l'.value ≡ l.value
    pub held : l'.permits ≡ record l.permits { free = l.permits.free - 1 }

  pub through : (l l' : Lock Bool W) (s s' : Condvar W) (n : ℕ) (w x : W) (c : CondWait) → IsGate l s → IsListed s.waiting s.notified n → PollsListed s l n w (Ok (Ready x)) s' l' c → IsThrough l l' s s' n
  through l l' s s' n w x c is (inl waits) polls = absurd (let no = (polls.0 waits).0 in cc)
  through l l' s s' n w x c is (inr told) polls =
      let by = value_in (map.get s.notified n) told in
      let asks = polls.1 by.0 by.1 in
      let takes = asks.2.1.0 (free_lock l s is) in
      record {
        opened = by_flag l.value (λ opens. opens) (λ shut. absurd (nobody_in s.notified n (is.shut shut) told));
        told = asks.0;
        value = asks.1;
        held = takes.1;
      }

  -- the lock is given back
  given_free : given_back {W = W} (record (permits_of 1) { free = 0 }) 1 ≡ permits_of 1
  given_free = refl

  pub freed : (l l' l'' : Lock Bool W) → l.permits ≡ permits_of 1 → l'.permits ≡ record l.permits { free = l.permits.free - 1 } → l'' ≡ record l' { permits = given_back l'.permits 1 } → l''.permits ≡ permits_of 1
  freed l l' l'' free held back =
      ap (λ (x : Lock Bool W). x.permits) back ∙ ap (λ (p : Core W). given_back p 1) (held ∙ ap (λ (p : Core W). record p { free = p.free - 1 }) free) ∙ given_free

  pub stays_open : (l l' l'' : Lock Bool W) (s s' : Condvar W) (n : ℕ) → IsGate l s → IsThrough l l' s s' n → l'' ≡ record l' { permits = given_back l'.permits 1 } → IsGate l'' s'
  stays_open l l' l'' s s' n is thr back =
      let value : l''.value ≡ l'.value = ap (λ (x : Lock Bool W). x.value) back in
      record {
        free = freed l l' l'' is.free thr.held back;
        left = λ _. ap (λ (c : Condvar W). c.waiting) thr.told ∙ is.left thr.opened;
        shut = λ no. absurd (let both : true ≡ false = sym (value ∙ thr.value ∙ thr.opened) ∙ no in cc);
      }

  pub gate_through : (l l' l'' : Lock Bool W) (s s' : Condvar W) (n : ℕ) → IsThrough l l' s s' n → l'' ≡ record l' { permits = given_back l'.permits 1 } → gate_of l'' s' ≡ record (gate_of l s) { told = map.remove s.notified n }
  gate_through l l' l'' s s' n thr back =
      let value : l''.value ≡ l.value = ap (λ (x : Lock Bool W). x.value) back ∙ thr.value in
      λ i. record { opened = value i; waiting = (thr.told i).waiting; told = (thr.told i).notified; wakes = (thr.told i).wakes }

  -- ---- ends

  passes_nobody : (b : Bool) (s : Condvar W) (q : List (ℕ × W)) → q ≡ [] → cond b (first_notified true q s) s ≡ s
  passes_nobody true s [] none = refl
  passes_nobody true s (e ∷ q) none = absurd (cc)
  passes_nobody false s q none = refl

  ended_told : (l : Lock Bool W) (s s' : Condvar W) (n : ℕ) → IsGate l s → IsListed s.waiting s.notified n → EndsListed s n s' → l.value ≡ true → s' ≡ record s { notified = map.remove s.notified n }
  ended_told l s s' n is (inl waits) ends opens = absurd (nobody_waits s.waiting n (is.left opens) waits)
  ended_told l s s' n is (inr told) ends opens =
      let by = value_in (map.get s.notified n) told in
      ends.1 by.0 by.1 ∙ passes_nobody by.0 (record s { notified = map.remove s.notified n }) s.waiting (is.left opens)

  ended_waiting : (l : Lock Bool W) (s s' : Condvar W) (n : ℕ) → IsGate l s → IsListed s.waiting s.notified n → EndsListed s n s' → l.value ≡ false → s' ≡ record s { waiting = without_wait s.waiting n }
  ended_waiting l s s' n is (inl waits) ends shut = ends.0 waits
  ended_waiting l s s' n is (inr told) ends shut = absurd (nobody_in s.notified n (is.shut shut) told)

  pub ended : (l l' : Lock Bool W) (s s' : Condvar W) (n : ℕ) → IsGate l s → IsListed s.waiting s.notified n → l' ≡ l → EndsListed s n s' → EndsGate (gate_of l s) (Listed n) (gate_of l' s')
  ended l l' s s' n is known lock ends = (
    (λ opens. let h = ended_told l s s' n is known ends opens in λ i. record { opened = (lock i).value; waiting = (h i).waiting; told = (h i).notified; wakes = (h i).wakes }),
    (λ shut. let h = ended_waiting l s s' n is known ends shut in λ i. record { opened = (lock i).value; waiting = (h i).waiting; told = (h i).notified; wakes = (h i).wakes }),
  )

  pub end_keeps : (l l' : Lock Bool W) (s s' : Condvar W) (n : ℕ) → IsGate l s → IsListed s.waiting s.notified n → l' ≡ l → EndsListed s n s' → IsGate l' s'
  end_keeps l l' s s' n is known lock ends =
      let value : l'.value ≡ l.value = ap (λ (x : Lock Bool W). x.value) lock in
      record {
        free = ap (λ (x : Lock Bool W). x.permits) lock ∙ is.free;
        left = λ opens. let yes = sym value ∙ opens in ap (λ (c : Condvar W). c.waiting) (ended_told l s s' n is known ends yes) ∙ is.left yes;
        shut = λ shut. let no = sym value ∙ shut in ap (λ (c : Condvar W). c.notified) (ended_waiting l s s' n is known ends no) ∙ is.shut no;
      }
