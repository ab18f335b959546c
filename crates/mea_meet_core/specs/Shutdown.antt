-- what a contract sees of a `ShutdownCore`
use Rattle.std.specs.Prelude.{ℕ, ◌++◌, List, refl}
use Rattle.std.specs.Coded.{Coded, code_by, coded×, coded_list}
use Rattle.mea_sets.specs.Countdown.{Count, count_code, decreased, woken_by}

-- a count of 1 for the signal that is not set, a count of receivers, and the wakers that they made
-- ready, in that order
pub record Shutdown (W : Type 0) : Type 0 where
  pub signal : Count W
  pub receivers : Count W
  pub wakes : List W

-- what lets a `Shutdown` be the value of a model
abbrev pub shutdown_code : {W : Type 0} → Coded W → Coded (Shutdown W)
shutdown_code {W} code =
    code_by
    (Count W × (Count W × List W))
    (coded× (count_code code) (coded× (count_code code) (coded_list code)))
    (λ s. (s.signal, (s.receivers, s.wakes)))
    (λ p. record { signal = p.0; receivers = p.1.0; wakes = p.1.1 })
    (λ _. refl)

module _ {W : Type 0} where
  -- the shutdown after a signal, which wakes those who wait for it where it was not set
  abbrev pub signalled : Shutdown W → Shutdown W
  signalled s = record s { signal = decreased s.signal 1; wakes = s.wakes ++ woken_by s.signal 1 }

  -- the shutdown with n receivers less, which wakes those who wait for the last where none is left
  abbrev pub without_receivers : Shutdown W → ℕ → Shutdown W
  without_receivers s n = record s { receivers = decreased s.receivers n; wakes = s.wakes ++ woken_by s.receivers n }

  -- the shutdown with one receiver less
  abbrev pub without_receiver : Shutdown W → Shutdown W
  without_receiver s = without_receivers s 1
