-- what the words of the code for what a line does stand for in the model, and which kinds have which actions
use Rattle.std.specs.Prelude.{◌≡◌, Bool, true, false}
use Rattle.mea_family.specs.Forms.{is_plain}
use Rattle.mea_meet_model.specs.Counts.{New}
use Rattle.mea_meet_model.specs.CountActions as model
use Rattle.mea_meet_model.specs.CountActions.{Action}
use Rattle.mea_meet_model.specs.Hall as kinds
use Rattle.mea_meet_model.specs.Hall.{Kind}
use Rattle.mea_meet_model.specs.Meaning as model_meaning
use Rattle.mea_meet_model.specs.Meaning.{OnBarriers, OnCounts, latch_from, new_group, new_shutdown}
use Rattle.mea_meet.specs.declared.actions.CountAction.{CountAction}
use Rattle.mea_meet.specs.declared.actions.CountAction.TheVariants.{Make, Now, Arrive, Begin, Join, Watch, Into, EndHolder, Copy, Poll, EndWait, EndEither, CopySender, Send, Await, EndSender}
use Rattle.mea_meet.specs.declared.meaning.Meaning.{Meaning}
use Rattle.mea_meet.specs.declared.meaning.Meaning.TheVariants.{Barriers, Latches, Numbers, Tries, Groups, Shutdowns}
use Rattle.mea_meet.specs.declared.new_point.NewPoint.{NewPoint}

-- a new point that counts
abbrev pub new_seen : NewPoint → New
new_seen new = record { signal = new.signal; members = new.members; counted = new.counted; sends = new.sends }

-- what is done to points that count
abbrev pub count_action : CountAction → Action
count_action (Make new) = model.Make (new_seen new)
count_action (Now k) = model.Now k
count_action (Arrive k n) = model.Arrive k n
count_action (Begin k form) = model.Begin k (is_plain form)
count_action (Join k) = model.Join k
count_action (Watch k) = model.Watch k
count_action (Into k) = model.Into k
count_action (EndHolder k) = model.EndHolder k
count_action (Copy f) = model.Copy f
count_action (Poll f w) = model.Poll f w
count_action (EndWait f) = model.EndWait f
count_action (EndEither x) = model.EndEither x
count_action (CopySender s) = model.CopySender s
count_action (Send s) = model.Send s
count_action (Await s) = model.Await s
count_action (EndSender s) = model.EndSender s

-- what a line means, in the words of the model
abbrev pub meant : Meaning → model_meaning.Meaning
meant (Barriers a) = OnBarriers a
meant (Latches a) = OnCounts kinds.Latches (count_action a)
meant (Numbers l) = OnCounts kinds.Latches (model.Number l)
meant (Tries l) = OnCounts kinds.Latches (model.Try l)
meant (Groups a) = OnCounts kinds.Groups (count_action a)
meant (Shutdowns a) = OnCounts kinds.Shutdowns (count_action a)

-- ---- what the kinds have of their own
-- more than 1 is taken at a time from the signal of a latch alone
abbrev pub takes_many : Kind → Bool
takes_many kinds.Latches = true
takes_many kinds.Groups = false
takes_many kinds.Shutdowns = false

-- a holder of a group is borrowed by no future
abbrev pub lends : Kind → Bool
lends kinds.Latches = true
lends kinds.Groups = false
lends kinds.Shutdowns = true

-- what a new point of a kind is
abbrev pub IsNewOf : Kind → New → Type 0
IsNewOf kinds.Latches new = new ≡ latch_from new.signal
IsNewOf kinds.Groups new = new ≡ new_group
IsNewOf kinds.Shutdowns new = new ≡ new_shutdown

-- an action that a line can ask of this kind
abbrev pub FitsKind : Kind → CountAction → Type 0
FitsKind k (Make new) = IsNewOf k (new_seen new)
FitsKind k (Arrive l n) = takes_many k ≡ true
FitsKind k (Into x) = lends k ≡ false
FitsKind k (EndEither x) = lends k ≡ false
FitsKind k _ = Unit {0}

-- what a line means is an action of the kind that it names
abbrev pub FitsMeaning : Meaning → Type 0
FitsMeaning (Latches a) = FitsKind kinds.Latches a
FitsMeaning (Groups a) = FitsKind kinds.Groups a
FitsMeaning (Shutdowns a) = FitsKind kinds.Shutdowns a
FitsMeaning _ = Unit {0}
