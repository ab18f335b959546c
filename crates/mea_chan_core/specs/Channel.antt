-- what a contract sees of a bounded channel
use Rattle.std.specs.Prelude.{ℕ, ◌≡◌, ◌+◌, ◌<◌, Bool, false, List, [], length, Option, refl}
use Rattle.std.specs.Coded.{Coded, code_by, coded×, coded_ℕ, coded_bool, coded_list, coded_option}
use Rattle.std.specs.FinMap as map
use Rattle.mea_sem_core.specs.Core.{Core, core_code}
use Rattle.mea_sem_core.specs.Ones.{AskForOne}

-- the queued messages, for how many there is room, how many senders live, whether the receiver has ended, its waker,
-- the semaphore on which senders wait, and the wakers that are ready
pub record Channel (T W : Type 0) : Type 0 where
  pub queued : List T
  pub capacity : ℕ
  pub senders : ℕ
  pub ended : Bool
  pub waker : Option W
  pub waiting : Core W
  pub wakes : List W

abbrev pub channel_code : {T W : Type 0} → Coded T → Coded W → Coded (Channel T W)
channel_code {T} {W} t w =
    code_by
    (List T × (ℕ × (ℕ × (Bool × (Option W × (Core W × List W))))))
    (coded× (coded_list t) (coded× coded_ℕ (coded× coded_ℕ (coded× coded_bool (coded× (coded_option w) (coded× (core_code w) (coded_list w)))))))
    (λ c. (c.queued, (c.capacity, (c.senders, (c.ended, (c.waker, (c.waiting, c.wakes)))))))
    (λ p. record { queued = p.0; capacity = p.1.0; senders = p.1.1.0; ended = p.1.1.1.0; waker = p.1.1.1.1.0; waiting = p.1.1.1.1.1.0; wakes = p.1.1.1.1.1.1 })
    (λ _. refl)

-- a semaphore without permits, on which nobody waits
abbrev pub no_senders : {W : Type 0} → Core W
no_senders = record { free = 0; live = 0; queue = []; granted = map.empty; cut = map.empty; closed = false; wakes = [] }

-- the semaphore on which senders wait: it is never closed, each asks for one permit, one more for each of them stays in
-- range, and its wakers were handed on
pub record IsSenders {W : Type 0} (s : Core W) : Type 0 where
  pub is_open : s.closed ≡ false
  pub ones : AskForOne s.queue
  pub few : s.live + length s.queue < 18446744073709551615
  pub quiet : s.wakes ≡ []
