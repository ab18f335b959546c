-- What holds of the word, the two slots and the two views of a channel.
-- The word is 3 while it is empty, 0 while a waker waits, 1 while the sender wakes it, 4 while there is a message, and 2 once an end is gone or the message was received.
use Rattle.std.specs.Prelude.{ℕ, ◌≡◌, ◌⊎◌, [], ◌∷◌, Option, Some, None}
use mathlib.Core.Option as maybe
use Rattle.atomic_table.specs.Table.{State}
use Rattle.mea_shot.specs.declared.message.Content.{Content}
use Rattle.mea_shot.specs.declared.message.Content.TheVariants.{Message, Waker}
use Rattle.mea_shot.specs.declared.view.View.{View}
use Rattle.mea_shot.specs.declared.view.View.TheVariants.{Whole, Sends, Receives}
use Rattle.mea_shot.specs.declared.view.SendStage.{SendStage}
use Rattle.mea_shot.specs.declared.view.SendStage.TheVariants.{Ready, Shut, Writing, WritingShut, Finishing, Leaving, Sent, Refused, Gone}
use Rattle.mea_shot.specs.declared.view.RecvStage.{RecvStage}
use Rattle.mea_shot.specs.declared.view.RecvStage.TheVariants.{Waiting, Holding, Published, Woken, Full, Received, Closed, Ended}

-- what is in a slot: the message, the receiver's waker, or nothing
abbrev pub Slot : Type 0 → Type 0 → Type 0
Slot T W = Option (Content T W)

module _ {T W : Type 0} (fits : T → Type 0) where
  -- the slot is in its place, and has a message that fits
  abbrev pub HasMessage : maybe.Option (Slot T W) → Type 0
  HasMessage h = (x : T) × fits x × (h ≡ maybe.some (Some (Message x)))

  -- it has this waker
  abbrev pub HasWaker : W → maybe.Option (Slot T W) → Type 0
  HasWaker w h = h ≡ maybe.some (Some (Waker w))

  -- it has nothing
  abbrev pub Vacant : maybe.Option (Slot T W) → Type 0
  Vacant h = h ≡ maybe.some None

  -- of the sender's stage and the receiver's: the word, the message's slot and the waker's
  abbrev pub Legal : SendStage → RecvStage W → ℕ → maybe.Option (Slot T W) → maybe.Option (Slot T W) → Type 0
  Legal Ready Waiting n h g = (n ≡ 3) × Vacant h × Vacant g
  Legal Ready Holding n h g = (n ≡ 3) × Vacant h
  Legal Ready (Published w) n h g = (n ≡ 0) × Vacant h × HasWaker w g
  Legal Ready Ended n h g = (n ≡ 2) × Vacant h
  Legal Ready b n h g = ⊥
  Legal Shut Ended n h g = (n ≡ 2) × Vacant h
  Legal Shut b n h g = ⊥
  Legal Writing Waiting n h g = (n ≡ 3) × Vacant g
  Legal Writing Holding n h g = n ≡ 3
  Legal Writing (Published w) n h g = (n ≡ 0) × HasWaker w g
  Legal Writing Ended n h g = n ≡ 2
  Legal Writing b n h g = ⊥
  Legal WritingShut Ended n h g = n ≡ 2
  Legal WritingShut b n h g = ⊥
  Legal Finishing (Published w) n h g = n ≡ 1
  Legal Finishing Woken n h g = n ≡ 1
  Legal Finishing Ended n h g = n ≡ 2
  Legal Finishing b n h g = ⊥
  Legal Leaving (Published w) n h g = n ≡ 1
  Legal Leaving Woken n h g = n ≡ 1
  Legal Leaving Ended n h g = n ≡ 2
  Legal Leaving b n h g = ⊥
  Legal Sent Waiting n h g = (n ≡ 4) × HasMessage h
  Legal Sent Holding n h g = (n ≡ 4) × HasMessage h
  Legal Sent (Published w) n h g = (n ≡ 4) × HasMessage h
  Legal Sent Woken n h g = (n ≡ 4) × HasMessage h
  Legal Sent Full n h g = (n ≡ 4) × HasMessage h
  Legal Sent Received n h g = n ≡ 2
  Legal Sent Closed n h g = ⊥
  Legal Sent Ended n h g = n ≡ 2
  Legal Refused Ended n h g = (n ≡ 3) ⊎ (n ≡ 4)
  Legal Refused b n h g = ⊥
  Legal Gone Waiting n h g = n ≡ 2
  Legal Gone Holding n h g = n ≡ 2
  Legal Gone (Published w) n h g = n ≡ 2
  Legal Gone Woken n h g = n ≡ 2
  Legal Gone Closed n h g = n ≡ 2
  Legal Gone Ended n h g = (n ≡ 2) ⊎ (n ≡ 3)
  Legal Gone Full n h g = ⊥
  Legal Gone Received n h g = ⊥

  -- the channel is not parted into its ends yet, and is empty
  abbrev pub IsWhole : State (Slot T W) (View W) → Type 0
  IsWhole s = (s.words ≡ 3 ∷ []) × (s.homes ≡ maybe.some None ∷ maybe.some None ∷ []) × (s.views ≡ Whole ∷ [])

  -- each end has its stage, and word and slots are as those allow
  abbrev pub IsParted : State (Slot T W) (View W) → Type 0
  IsParted s = (a : SendStage) × (b : RecvStage W) × (n : ℕ) × (h : maybe.Option (Slot T W)) × (g : maybe.Option (Slot T W))
      × (s.words ≡ n ∷ []) × (s.homes ≡ h ∷ g ∷ []) × (s.views ≡ Sends a ∷ Receives b ∷ []) × Legal a b n h g

  -- what holds of the channel at any time
  abbrev pub Holds : State (Slot T W) (View W) → Type 0
  Holds s = IsWhole s ⊎ IsParted s
