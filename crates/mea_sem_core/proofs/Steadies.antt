-- polls, ends and permits that come back keep the live permits, where no debt waits
use Rattle.std.proofs.Common.{◌≡◌, ℕ, ◌+◌, ◌-◌, ◌≤◌, ◌⊎◌, Some, refl, inl, inr, arith}
use Rattle.std.specs.FinMap as map
use Rattle.mea_sem_core.specs.declared.acquire.Acquire.TheVariants.{Queued}
use Rattle.mea_sem_core.specs.Core.{Core, held_of, poured, waiting, HasNoDebt}
use Rattle.mea_sem_core.specs.Calls.{IsGrantedAs, IsWaitingAs, IsCutAs, Queues, Steady, Cancels, with_waker, without_acquire, given_back}
use Rattle.mea_sem_core.proofs.Debts.{no_debt_append, no_debt_with_waker, no_debt_without, no_debt_waiting_after, paid_to_none}

module _ {W : Type 0} where
  -- n permits that lived are poured
  pub steady_pour : (s t : Core W) (n : ℕ) → t.closed ≡ s.closed → t.live + n ≡ s.live → (HasNoDebt s.queue → HasNoDebt t.queue) → Steady s (poured t n)
  steady_pour s t n closed fits kept = record {
    closed = closed;
    live = λ h. let none = paid_to_none t.queue n (kept h) in omega (arith, none, fits);
    no_debt = λ h. no_debt_waiting_after t.queue n (kept h);
  }

  pub steady_queues : (s t : Core W) (demand : ℕ) (w : W) (number : ℕ) → Queues s t demand w number → Steady s t
  steady_queues s t demand w number queues = rw queues.is record {
    closed = refl;
    live = λ h. refl;
    no_debt = λ h. no_debt_append s.queue number demand (demand - s.free) w h;
  }

  pub steady_rewakes : (s t : Core W) (n : ℕ) (w : W) → t ≡ record s { queue = with_waker s.queue n w } → Steady s t
  steady_rewakes s t n w is = rw is record {
    closed = refl;
    live = λ h. refl;
    no_debt = λ h. no_debt_with_waker s.queue n w h;
  }

  pub steady_given : (s t : Core W) (n : ℕ) → n ≤ held_of s → t ≡ given_back s n → Steady s t
  steady_given s t n held is = rw is (steady_pour s (record s { live = s.live - n }) n refl (omega arith) (λ h. h))

  pub steady_dropped : (s t : Core W) (n : ℕ) → t ≡ record s { cut = map.remove s.cut n } → Steady s t
  steady_dropped s t n is = rw is record {
    closed = refl;
    live = λ h. refl;
    no_debt = λ h. h;
  }

  pub steady_cancels : (s t : Core W) (demand number paid : ℕ) → (IsGrantedAs s demand number → paid ≡ demand)
      → ((lack : ℕ) → waiting s.queue number ≡ Some (demand, lack) → paid ≡ demand - lack) → paid ≤ s.live
      → (IsGrantedAs s demand number ⊎ IsWaitingAs s demand number) ⊎ IsCutAs s demand number → Cancels s (Queued demand number) t → Steady s t
  steady_cancels s t demand number paid granted waits fits (inl (inl is)) cancels =
      let part = granted is in
      rw (cancels.0 is) (steady_pour s (record s { live = s.live - demand; granted = map.remove s.granted number }) demand refl (omega (arith, part, fits)) (λ h. h))
  steady_cancels s t demand number paid granted waits fits (inl (inr is)) cancels =
      let part = waits is.0 is.1 in
      rw (cancels.1 is.0 is.1) (steady_pour s (record s { live = s.live - (demand - is.0); queue = without_acquire s.queue number }) (demand - is.0) refl
      (omega (arith, part, fits)) (λ h. no_debt_without s.queue number h))
  steady_cancels s t demand number paid granted waits fits (inr is) cancels = steady_dropped s t number (cancels.2 is)
