-- the core that a hall lends, and the semaphore that it stands for
use Rattle.std.specs.Prelude.{ℕ, ◌≡◌, ◌==◌, cond, List, [], ◌∷◌, map}
use Rattle.std.specs.FinMap.{len}
use Rattle.mea_base.specs.Totals.{total}
use Rattle.mea_sem_model.specs.Hall.{Hall, Future, FutureStage, New, Waiting, Granted, Cut, Who, free, live, queue_at, is_closed, waker_of_who}
use Rattle.mea_sem_core.specs.Core as cores

-- the waker of who waits; a debt has none
abbrev pub core_waker : cores.Waiter ℕ → List ℕ
core_waker (cores.Acquires n d w) = w ∷ []
core_waker cores.Owes = []

abbrev pub one_if_granted : FutureStage → ℕ
one_if_granted New = 0
one_if_granted (Waiting w) = 0
one_if_granted Granted = 1
one_if_granted Cut = 0

abbrev pub one_if_cut : FutureStage → ℕ
one_if_cut New = 0
one_if_cut (Waiting w) = 0
one_if_cut Granted = 0
one_if_cut Cut = 1

-- how many futures of s were granted and not polled since
abbrev pub granted_futures : Hall → ℕ → ℕ
granted_futures h s = total {X = Future} (λ f x. cond (x.semaphore == s) (one_if_granted x.stage) 0) h.futures

-- how many futures of s were cut and not polled since
abbrev pub cut_futures : Hall → ℕ → ℕ
cut_futures h s = total {X = Future} (λ f x. cond (x.semaphore == s) (one_if_cut x.stage) 0) h.futures

-- equal free and live permits, the same wakers and lacks in queue order (a debt has no waker), as many
-- granted and as many cut numbers as the semaphore has such futures, and closed where it is
pub record StandsFor (h : Hall) (s : ℕ) (c : cores.Core ℕ) : Type 0 where
  pub free : c.free ≡ free h s
  pub live : c.live ≡ live h s
  pub queue : map {A = cores.Waiter ℕ × ℕ} {B = List ℕ × ℕ} (λ e. (core_waker e.0, e.1)) c.queue ≡ map {A = Who × ℕ} {B = List ℕ × ℕ} (λ e. (waker_of_who h.futures e.0, e.1)) (queue_at h s)
  pub granted : len c.granted ≡ granted_futures h s
  pub cut : len c.cut ≡ cut_futures h s
  pub closed : c.closed ≡ is_closed h s
