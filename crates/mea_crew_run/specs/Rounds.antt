-- what a worker asks in its rounds
use Rattle.std.specs.Prelude.{ℕ, ◌≡◌, ◌+◌, ◌++◌, ◌⊎◌, Bool, true, false, List, [], ◌∷◌}
use Rattle.mea_family.specs.declared.answer.Answer.{Answer}
use Rattle.mea_family.specs.declared.answer.Answer.TheVariants.{Held, Lacking}
use Rattle.mea_events.specs.declared.sem_event.SemEvent.TheVariants.{Try, End}
use Rattle.mea_family.specs.declared.stop.Stop.TheVariants as stops
use Rattle.mea_recorded.specs.declared.pass.Noted.{Noted}
use Rattle.mea_recorded.specs.declared.receipt.Refused.{Refused}
use Rattle.mea_recorded.specs.History.{IsAnsweredAfter, IsRefusedAfter}

abbrev pub is_held : Answer → Bool
is_held Held = true
is_held _ = false

abbrev pub is_lacking : Answer → Bool
is_lacking Lacking = true
is_lacking _ = false

-- the receipts of a round: a permit of semaphore 0 is tried for, and given back where it was there
pub data IsRound : List Noted → Type 0 where
  Misses : (n : Noted) → n.asked ≡ Try 0 1 → is_held n.receipt.answer ≡ false → IsRound (n ∷ [])
  Passes : (n m : Noted) → n.asked ≡ Try 0 1 → is_held n.receipt.answer ≡ true → m.asked ≡ End n.receipt.number → IsRound (n ∷ m ∷ [])

-- the receipts of so many rounds
pub data AreRounds : ℕ → List Noted → Type 0 where
  NoRounds : AreRounds 0 []
  Rounds : (k : ℕ) (ns more : List Noted) → AreRounds k ns → IsRound more → AreRounds (k + 1) (ns ++ more)

-- receipts go on by those of a round
abbrev pub GoOnOnce : List Noted → List Noted → Type 0
GoOnOnce old new = (more : List Noted) × (new ≡ old ++ more) × IsRound more

-- receipts go on by those of so many rounds
abbrev pub GoOn : ℕ → List Noted → List Noted → Type 0
GoOn k old new = (more : List Noted) × (new ≡ old ++ more) × AreRounds k more

-- an event of a round was refused for this cause, as some history of so many entries does it: a try for one permit of
-- semaphore 0, or the end of the permit that such a try got
abbrev pub IsRefusal : Refused → Type 0
IsRefusal r = IsRefusedAfter r.at (Try 0 1) r.stop ⊎ ((k : ℕ) × IsAnsweredAfter k (Try 0 1) Held × IsRefusedAfter r.at (End k) r.stop)

-- why a worker stopped: that, or want of memory
abbrev pub StopsWorker : Refused → Type 0
StopsWorker r = IsRefusal r ⊎ (r.stop ≡ stops.NoMemory)
