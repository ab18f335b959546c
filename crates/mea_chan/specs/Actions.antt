-- what the words of the code for what a line does stand for in the model, and what an action comes to
use Rattle.std.specs.Prelude.{ℕ, ◌≡◌, Bool, true, false, Option, Some, None, IsSome, Result, Ok, Err}
use Rattle.mea_base.specs.Ready.{Waking}
use Rattle.mea_family.specs.declared.answer.Answer.{Answer}
use Rattle.mea_family.specs.declared.stop.Stop.{Stop}
use Rattle.mea_family.specs.Play.{Part}
use Rattle.mea_family.specs.Acts.{Refuses, Acts, ActsQuietly}
use Rattle.mea_chan_model.specs.Mailboxes as mailboxes
use Rattle.mea_chan_model.specs.Mailboxes.{Mailboxes}
use Rattle.mea_chan_model.specs.MailboxActions as mail
use Rattle.mea_chan_model.specs.MailboxActions.{Action, cause_in, act_in}
use Rattle.mea_chan_model.specs.Bounded as bounded_ones
use Rattle.mea_chan_model.specs.declared.bounded_action.BoundedAction.{BoundedAction}
use Rattle.mea_chan_model.specs.declared.bounded_action.BoundedAction.TheVariants as bounded
use Rattle.mea_chan_model.specs.BoundedActions.{bounded_cause, bounded_act}
use Rattle.mea_chan_model.specs.Boxes as boxes
use Rattle.mea_chan_model.specs.declared.box_action.BoxAction.{BoxAction}
use Rattle.mea_chan_model.specs.declared.box_action.BoxAction.TheVariants.{MakeBox, Swap, Store}
use Rattle.mea_chan_model.specs.Boxes.{box_cause}
use Rattle.mea_chan_model.specs.ChanHall as kinds
use Rattle.mea_chan_model.specs.Meaning as model
use Rattle.mea_chan_model.specs.Meaning.{OfChannels, OfBounded, OfBroadcasts, OfBoxes}
use Rattle.mea_chan.specs.declared.actions.MailAction.{MailAction}
use Rattle.mea_chan.specs.declared.actions.MailAction.TheVariants.{Make, EndSender, Receive, Poll, EndReceiver}
use Rattle.mea_chan.specs.declared.actions.UnboundedAction.{UnboundedAction}
use Rattle.mea_chan.specs.declared.actions.UnboundedAction.TheVariants as unbounded
use Rattle.mea_chan.specs.declared.actions.OneshotAction.{OneshotAction}
use Rattle.mea_chan.specs.declared.actions.OneshotAction.TheVariants as oneshot
use Rattle.mea_chan.specs.declared.meaning.Meaning.{Meaning}
use Rattle.mea_chan.specs.declared.meaning.Meaning.TheVariants.{Bounded, Broadcasts, Unbounded, Oneshots, Boxes, OptionBoxes}
use Rattle.mea_chan.specs.BoxParts.{BoxYields}

-- what may be done to unbounded channels and to oneshots, where a receiver's waker falls with it or does not
abbrev pub mail_action : Bool → MailAction → Action
mail_action falls (Make polls) = mail.Make polls
mail_action falls (EndSender s) = mail.EndSender s
mail_action falls (Receive r polls) = mail.Receive r polls
mail_action falls (Poll r w) = mail.Poll r w
mail_action falls (EndReceiver r polls) = mail.EndReceiver r polls falls

-- what is done to unbounded channels
abbrev pub unbounded_action : Bool → UnboundedAction → Action
unbounded_action falls (unbounded.Mail a) = mail_action falls a
unbounded_action falls (unbounded.Copy s) = mail.Copy s
unbounded_action falls (unbounded.Send s v) = mail.Send s v

-- what is done to oneshots
abbrev pub oneshot_action : Bool → OneshotAction → Action
oneshot_action falls (oneshot.Mail a) = mail_action falls a
oneshot_action falls (oneshot.SendLast s v) = mail.SendLast s v
oneshot_action falls (oneshot.IntoFuture r) = mail.IntoFuture r
oneshot_action falls (oneshot.TellClosed s) = mail.TellClosed s
oneshot_action falls (oneshot.TellOver r) = mail.TellOver r
oneshot_action falls (oneshot.TellMessage r) = mail.TellMessage r

-- what a line means, in the words of the model
abbrev pub meant : Meaning → model.Meaning
meant (Bounded a) = OfBounded a
meant (Broadcasts a) = OfBroadcasts a
meant (Unbounded a) = OfChannels kinds.Unbounded (unbounded_action false a)
meant (Oneshots a) = OfChannels kinds.Oneshots (oneshot_action true a)
meant (Boxes a) = OfBoxes kinds.Full a
meant (OptionBoxes a) = OfBoxes kinds.Optional a

-- what is put into a box is a value
abbrev pub FitsBox : BoxAction → Type 0
FitsBox (MakeBox c) = IsSome c
FitsBox (Swap b c) = IsSome c
FitsBox (Store b c) = IsSome c
FitsBox _ = Unit {0}

abbrev pub FitsMeaning : Meaning → Type 0
FitsMeaning (Boxes a) = FitsBox a
FitsMeaning _ = Unit {0}

-- ---- what takes no memory: all but what makes something, sends into a queue, polls, or puts a value into a box
abbrev pub IsFree : Action → Type 0
IsFree (mail.Make polls) = ⊥
IsFree (mail.Copy s) = ⊥
IsFree (mail.Send s v) = ⊥
IsFree (mail.Poll r w) = ⊥
IsFree (mail.IntoFuture r) = ⊥
IsFree _ = Unit {0}

abbrev pub IsFreeBounded : BoundedAction → Type 0
IsFreeBounded (bounded.Make n) = ⊥
IsFreeBounded (bounded.CopySender s) = ⊥
IsFreeBounded (bounded.BeginSend s v) = ⊥
IsFreeBounded (bounded.PollSend f w) = ⊥
IsFreeBounded (bounded.PollReceive r w) = ⊥
IsFreeBounded _ = Unit {0}

abbrev pub IsFreeContent : Option ℕ → Type 0
IsFreeContent None = Unit {0}
IsFreeContent (Some v) = ⊥

abbrev pub IsFreeBox : BoxAction → Type 0
IsFreeBox (MakeBox c) = ⊥
IsFreeBox (Swap b c) = IsFreeContent c
IsFreeBox (Store b c) = IsFreeContent c
IsFreeBox _ = Unit {0}

-- ---- event number i asked this of the channels of one kind, or of the boxes: it was done; or refused, and nothing has changed
abbrev pub BoundedActs : Part bounded_ones.Bounded → ℕ → BoundedAction → Result Answer Stop → Part bounded_ones.Bounded → Waking ℕ → Waking ℕ → Type 0
BoundedActs old i a = Acts bounded_ones.registered (bounded_cause old.hall a) (IsFreeBounded a) old i (bounded_act old.hall i a)

abbrev pub MailActs : Part Mailboxes → ℕ → Action → Result Answer Stop → Part Mailboxes → Waking ℕ → Waking ℕ → Type 0
MailActs old i a = Acts mailboxes.registered (cause_in old.hall a) (IsFree a) old i (act_in old.hall i a)

abbrev pub MailActsQuietly : Part Mailboxes → ℕ → Action → Result Answer Stop → Part Mailboxes → Type 0
MailActsQuietly old i a = ActsQuietly mailboxes.registered (cause_in old.hall a) (IsFree a) old i (act_in old.hall i a)

abbrev pub BoxActs : boxes.Boxes → ℕ → BoxAction → Result Answer Stop → boxes.Boxes → Type 0
BoxActs old i a (Ok answer) new = (box_cause old a ≡ None) × BoxYields old i a answer new
BoxActs old i a (Err stop) new = Refuses (box_cause old a) (IsFreeBox a) stop × (new ≡ old)
