-- What each step tells, and the stages between calls.
use Rattle.std.specs.Prelude.{ℕ, ◌≡◌, ◌⊎◌, [], ◌∷◌, Some, None, MatchBool, nat_eq, cond}
use Rattle.atomic_table.specs.Table.{Step, Me}
use Rattle.atomic_table.specs.Seated.{TableId}
use Rattle.mea_shot.specs.Rule.{Slot}
use Rattle.mea_shot.specs.declared.message.Content.TheVariants.{Message, Waker}
use Rattle.mea_shot.specs.declared.view.View.{View}
use Rattle.mea_shot.specs.declared.view.View.TheVariants.{Sends, Receives}
use Rattle.mea_shot.specs.declared.view.SendStage.TheVariants.{Ready, Shut, Writing, WritingShut, Finishing, Leaving, Sent, Refused, Gone}
use Rattle.mea_shot.specs.declared.view.RecvStage.TheVariants.{Waiting, Holding, Published, Woken, Full, Received, Closed, Ended}

-- a seat at this table, which has one word and two slots
abbrev pub IsOn : TableId → TableId → Type 0
IsOn seat table = (seat ≡ table) × (table.words ≡ 1) × (table.slots ≡ 2)

-- a sender that may send
abbrev pub IsSender : {W : Type 0} → View W → Type 0
IsSender v = (v ≡ Sends Ready) ⊎ (v ≡ Sends Shut)

-- an end that is over: a sender that has sent, was refused or has gone, or a receiver that has ended
abbrev pub IsSpent : {W : Type 0} → View W → Type 0
IsSpent v = (v ≡ Sends Sent) ⊎ (v ≡ Sends Refused) ⊎ (v ≡ Sends Gone) ⊎ (v ≡ Receives Ended)

-- the stage of a sender that takes the message's slot
abbrev pub writing_stage : {W : Type 0} → View W → View W
writing_stage (Sends Shut) = Sends WritingShut
writing_stage v = Sends Writing

-- a sender that has the message's slot
abbrev pub IsWriting : {W : Type 0} → View W → Type 0
IsWriting v = (v ≡ Sends Writing) ⊎ (v ≡ Sends WritingShut)

-- a receiver to which nothing comes any more: it has received the message, or knows that the sender has ended without one
abbrev pub IsOver : {W : Type 0} → View W → Type 0
IsOver v = (v ≡ Receives Received) ⊎ (v ≡ Receives Closed)

-- a call, of the receiver before and after it, that finds nothing, and to which nothing comes any more: the message was
-- received before it, or the sender has ended without one
abbrev pub FindsNothing : {W : Type 0} → View W → View W → Type 0
FindsNothing old new = ((old ≡ Receives Received) × (new ≡ Receives Received)) ⊎ (new ≡ Receives Closed)

-- a call that takes no message: the receiver has received one after it only if it had before it
abbrev pub TakesNothing : {W : Type 0} → View W → View W → Type 0
TakesNothing old new = new ≡ Receives Received → old ≡ Receives Received

module _ {S W : Type 0} where
  -- a receiver whose waker is not out: it waits, knows of the message, or gets nothing any more
  abbrev pub IsUnpublished : Me S (View W) → Type 0
  IsUnpublished me = (me ≡ (Receives Waiting, [])) ⊎ (me.0 ≡ Receives Full) ⊎ IsOver me.0

  -- one whose waker is out
  abbrev pub IsPublished : Me S (View W) → Type 0
  IsPublished me = ((w : W) × (me ≡ (Receives (Published w), []))) ⊎ (me ≡ (Receives Woken, []))

  -- one that may end at once
  abbrev pub MayEnd : Me S (View W) → Type 0
  MayEnd me = (me.0 ≡ Receives Waiting) ⊎ (me.0 ≡ Receives Holding) ⊎ (me.0 ≡ Receives Woken) ⊎ (me.0 ≡ Receives Full) ⊎ IsOver me.0

-- what a step tells: of the step, what the end knew and had before it, the word that it found, and what the end knows and has
-- after it
abbrev pub StepTells : Type 0 → Type 0 → Type 1
StepTells T W = Step (Slot T W) → Me (Slot T W) (View W) → ℕ → Me (Slot T W) (View W) → Type 0

module _ {T W : Type 0} (fits : T → Type 0) where
  -- the sender takes the message's slot, which is empty
  abbrev pub opens : StepTells T W
  opens s me n you = you ≡ (writing_stage me.0, (0, None) ∷ [])

  -- the sender learns whether the receiver has gone, which is so where the word is 2
  abbrev pub asks : StepTells T W
  asks s me n you = (you ≡ (cond (nat_eq n 2) (Sends Shut) me.0, [])) × (me.0 ≡ Sends Shut → n ≡ 2)

  -- the sender tells of its message: it is sent; or a waker waits, which the sender has now; or the receiver has gone, and
  -- the message stays with the sender
  abbrev pub puts : StepTells T W
  puts s me n you =
      MatchBool (nat_eq n 3) ((me.0 ≡ Sends Writing) × (you ≡ (Sends Sent, [])))
      (MatchBool (nat_eq n 0) ((me.0 ≡ Sends Writing) × ((w : W) × (you ≡ (Sends Finishing, (1, Some (Waker w)) ∷ me.1))))
      ((n ≡ 2) × (you ≡ (Sends Refused, me.1))))

  -- the sender, which has the waker, tells of its message: it is sent, or the receiver has gone and the message stays
  abbrev pub finishes : StepTells T W
  finishes s me n you =
      MatchBool (nat_eq n 1) (you.0 ≡ Sends Sent) ((n ≡ 2) × (you ≡ (Sends Refused, me.1)))

  -- the sender ends without a message: a waker waits, which it has now, or it has gone at once
  abbrev pub flips : StepTells T W
  flips s me n you =
      MatchBool (nat_eq n 0) ((w : W) × (you ≡ (Sends Leaving, (1, Some (Waker w)) ∷ []))) (you.0 ≡ Sends Gone)

  -- the sender, which has the waker, has gone
  abbrev pub leaves : StepTells T W
  leaves s me n you = you.0 ≡ Sends Gone

  -- the receiver reads the word: nothing comes any more, or the message is there, or it waits as before
  abbrev pub looks : StepTells T W
  looks s me n you =
      MatchBool (nat_eq n 2) (FindsNothing me.0 you.0 × (you.1 ≡ me.1)) (MatchBool (nat_eq n 4) (you ≡ (Receives Full, me.1)) ((n ≡ 3) × (me ≡ (Receives Waiting, [])) × (you ≡ me)))
      × (me.0 ≡ Receives Full → n ≡ 4) × (IsOver me.0 → (n ≡ 2) × (you ≡ me))

  -- the same, but where it waits it takes the waker's slot, which is empty
  abbrev pub grasps : StepTells T W
  grasps s me n you =
      MatchBool (nat_eq n 2) (FindsNothing me.0 you.0 × (you.1 ≡ me.1)) (MatchBool (nat_eq n 4) (you ≡ (Receives Full, me.1)) ((n ≡ 3) × (you ≡ (Receives Holding, (1, None) ∷ []))))
      × (me.0 ≡ Receives Full → n ≡ 4) × (IsOver me.0 → (n ≡ 2) × (you ≡ me))

  -- the receiver, which has its waker in the slot, puts it out; or the message is there, or the sender has gone without one
  abbrev pub publishes : StepTells T W
  publishes s me n you =
      MatchBool (nat_eq n 3) ((w : W) × (me.1 ≡ (1, Some (Waker w)) ∷ []) × (you ≡ (Receives (Published w), [])))
      (MatchBool (nat_eq n 4) (you ≡ (Receives Full, me.1)) ((n ≡ 2) × (you ≡ (Receives Closed, me.1))))

  -- the receiver takes its waker back; or the sender is about to wake it, or the message is there, or the sender has gone
  -- without one
  abbrev pub reclaims : StepTells T W
  reclaims s me n you =
      MatchBool (nat_eq n 0) ((w : W) × (you ≡ (Receives Holding, (1, Some (Waker w)) ∷ [])))
      (MatchBool (nat_eq n 1) (you ≡ (Receives Woken, []))
      (MatchBool (nat_eq n 4) (you ≡ (Receives Full, [])) ((n ≡ 2) × (you ≡ (Receives Closed, [])))))

  -- the receiver takes the message, which fits
  abbrev pub takes_message : StepTells T W
  takes_message s me n you = (x : T) × fits x × (you ≡ (Receives Received, (0, Some (Message x)) ∷ me.1))

  -- the receiver ends, with the message where one is left
  abbrev pub closes : StepTells T W
  closes s me n you =
      MatchBool (nat_eq n 4) ((x : T) × (you ≡ (Receives Ended, (0, Some (Message x)) ∷ me.1))) (you ≡ (Receives Ended, me.1))
