-- what the next poll of an acquire finds in its core, and what a close makes ready
use Rattle.std.proofs.Common.{◌≡◌, ℕ, ◌≤◌, ◌++◌, inl, inr, Bool, true, false, [], length, refl, ap, subst, ◌∙◌, arith, None, append-nil, if◌then◌else◌}
use Rattle.std.specs.Bool.{IsTrue}
use Rattle.mea_base.specs.Queue.{granted_in}
use Rattle.mea_sem_core.specs.declared.acquire.Acquire.{Acquire}
use Rattle.mea_sem_core.specs.declared.acquire.Acquire.TheVariants as acquires
use Rattle.mea_sem_core.specs.Core as cores
use Rattle.mea_sem_core.specs.Calls.{IsGranted, IsRefused, StandsAs}
use Rattle.mea_sem.specs.Entries.{IsReady, Waits, WaitedFor, close_wakes}
use Rattle.mea_sem.specs.Kept.{wakers_in}
use Rattle.mea_sem.specs.Store.{IsOpen}
use Rattle.mea_sem.proofs.Cores.{only-waiting}
use Rattle.mea_sem.proofs.PlaysCloses.{none_woken, wakers_waiting}

module _ (c : cores.Core ℕ) (sound : cores.IsSound c) where
  -- nobody waits at a closed one
  shut_idle : c.closed ≡ true → (n : ℕ) → cores.waiting c.queue n ≡ None
  shut_idle shut n = only-waiting c.queue n (subst (λ b. cores.CutsWhereClosed b c.queue c.cut) shut sound.closing)

  pub ready_if : (a : Acquire) (b : Bool) → ((d : ℕ) → a ≡ acquires.New d → ⊥) → (IsTrue b → IsGranted c a) → b ≡ true → IsReady c a
  ready_if (acquires.New d) b polled granted is = absurd (polled d refl)
  ready_if (acquires.Queued d n) true polled granted is = granted refl
  ready_if (acquires.Queued d n) false polled granted is = absurd (cc)
  ready_if (acquires.Done d) true polled granted is = granted refl
  ready_if (acquires.Done d) false polled granted is = absurd (cc)
  ready_if (acquires.Refused d) true polled granted is = granted refl
  ready_if (acquires.Refused d) false polled granted is = absurd (cc)

  pub waits_if : (a : Acquire) (b : Bool) → ((d : ℕ) → a ≡ acquires.New d → ⊥) → IsOpen a → StandsAs c a b → b ≡ false → c.closed ≡ false → Waits c a
  waits_if (acquires.New d) b polled still stands is open_still = absurd (polled d refl)
  waits_if (acquires.Queued d n) true polled still stands is open_still = absurd (cc)
  waits_if (acquires.Queued d n) false polled still (inl waits, ungranted) is open_still = waits
  waits_if (acquires.Queued d n) false polled still (inr cut, ungranted) is open_still = absurd (let shut = cut.0 in cc)
  waits_if (acquires.Done d) b polled still stands is open_still = absurd still
  waits_if (acquires.Refused d) b polled still stands is open_still = absurd still

  pub refused_if : (a : Acquire) (b : Bool) → ((d : ℕ) → a ≡ acquires.New d → ⊥) → IsOpen a → StandsAs c a b → b ≡ false → c.closed ≡ true → IsRefused c a
  refused_if (acquires.New d) b polled still stands is shut = shut
  refused_if (acquires.Queued d n) true polled still stands is shut = absurd (cc)
  refused_if (acquires.Queued d n) false polled still (inl waits, ungranted) is shut = absurd
      (let none = shut_idle shut n in let some = waits.1 in cc)
  refused_if (acquires.Queued d n) false polled still (inr cut, ungranted) is shut = cut
  refused_if (acquires.Done d) b polled still stands is shut = absurd still
  refused_if (acquires.Refused d) b polled still stands is shut = absurd still

  -- nobody has waited at a closed one
  pub not_waited : (a : Acquire) → c.closed ≡ true → WaitedFor c a 0
  not_waited (acquires.New d) shut = refl
  not_waited (acquires.Queued d n) shut = ((λ granted. refl), (λ lack waits. absurd (let none = shut_idle shut n in cc)), (λ cut. refl))
  not_waited (acquires.Done d) shut = refl
  not_waited (acquires.Refused d) shut = refl

-- ---- a close
pub closing_wakes : (c : cores.Core ℕ) → c.wakes ≡ [] → (cores.closed_core c).wakes ≡ close_wakes c
closing_wakes c quiet = by_closed c.closed
  where
    by_closed : (b : Bool) → (if b then c else cores.poured (cores.cut_off c) (cores.paid_waiting c.queue)).wakes
        ≡ (if b then [] else cores.wakers_of (cores.waiters_of c.queue))
    by_closed true = quiet
    by_closed false = ap (λ ws. (ws ++ cores.wakers_of (cores.waiters_of c.queue)) ++ cores.wakers_of
        (granted_in (cores.only_debts c.queue) (cores.paid_waiting c.queue))) quiet
        ∙ ap (λ ws. cores.wakers_of (cores.waiters_of c.queue) ++ ws) (none_woken c.queue (cores.paid_waiting c.queue))
        ∙ append-nil (cores.wakers_of (cores.waiters_of c.queue))

pub closing_room : (c : cores.Core ℕ) → c.wakes ≡ [] → length (cores.closed_core c).wakes ≤ wakers_in c.queue
closing_room c quiet = let same = ap length (closing_wakes c quiet) in let few = by_closed c.closed in omega (arith, same, few)
  where
    by_closed : (b : Bool) → length (if b then [] else cores.wakers_of (cores.waiters_of c.queue)) ≤ wakers_in c.queue
    by_closed true = omega arith
    by_closed false = let same = wakers_waiting c.queue in omega (arith, same)
