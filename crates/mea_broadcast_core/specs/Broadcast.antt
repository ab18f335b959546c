-- a broadcast channel, and what its calls do to it
use Rattle.std.specs.Prelude.{ℕ, ◌≡◌, ◌+◌, ◌-◌, ◌==◌, ◌++◌, List, [], ◌∷◌, length, if◌then◌else◌, refl}
use Rattle.std.specs.Coded.{Coded, code_by, coded×, coded_ℕ, coded_list}
use Rattle.circular_buffer.specs.Buffer.{keep_last}
use Rattle.mea_sets.specs.WaitSet.{Registered, registered_code, drained}

-- the kept messages, oldest first, how many were ever sent, the ring's size, how many senders live, the registered
-- wakers, and the wakers that are ready
pub record Broadcast (T W : Type 0) : Type 0 where
  pub kept : List T
  pub tail : ℕ
  pub size : ℕ
  pub senders : ℕ
  pub waiting : Registered W
  pub wakes : List W

-- what lets a `Broadcast` be the value of a model
abbrev pub broadcast_code : {T W : Type 0} → Coded T → Coded W → Coded (Broadcast T W)
broadcast_code {T} {W} t w =
    code_by
    (List T × (ℕ × (ℕ × (ℕ × (Registered W × List W)))))
    (coded× (coded_list t) (coded× coded_ℕ (coded× coded_ℕ (coded× coded_ℕ (coded× (registered_code w) (coded_list w))))))
    (λ b. (b.kept, (b.tail, (b.size, (b.senders, (b.waiting, b.wakes))))))
    (λ p. record { kept = p.0; tail = p.1.0; size = p.1.1.0; senders = p.1.1.1.0; waiting = p.1.1.1.1.0; wakes = p.1.1.1.1.1 })
    (λ _. refl)

module _ {T W : Type 0} where
  -- a channel that nobody has used, with one sender: the messages below the tail are kept no more
  pub record IsFresh (b : Broadcast T W) (start : ℕ) : Type 0 where
    pub kept : b.kept ≡ []
    pub tail : b.tail ≡ start
    pub senders : b.senders ≡ 1
    pub waiting : b.waiting ≡ record { wakers = []; drains = 0 }
    pub wakes : b.wakes ≡ []

  -- the position of the oldest kept message
  abbrev pub oldest : Broadcast T W → ℕ
  oldest b = b.tail - length b.kept

  -- all registered wakers are made ready, in order
  abbrev pub woken : Broadcast T W → Broadcast T W
  woken b = record b { waiting = drained b.waiting; wakes = b.wakes ++ b.waiting.wakers }

  -- a message is sent: the ring keeps the last ones, and all registered wakers are made ready
  abbrev pub after_send : Broadcast T W → T → Broadcast T W
  after_send b v = woken (record b { kept = keep_last b.size (b.kept ++ v ∷ []); tail = b.tail + 1 })

  -- a sender ends: at the last one all registered wakers are made ready
  abbrev pub without_sender : Broadcast T W → Broadcast T W
  without_sender b = if b.senders == 1 then woken (record b { senders = 0 }) else record b { senders = b.senders - 1 }
