-- the channels and boxes of all kinds, and what an event does to them
use Rattle.std.specs.Prelude.{ℕ, ◌≡◌, ◌≤◌, None, Result, Ok, Err}
use Rattle.mea_family.specs.declared.answer.Answer.{Answer}
use Rattle.mea_family.specs.declared.stop.Stop.{Stop}
use Rattle.mea_base.specs.Ready.{Waking}
use Rattle.mea_family.specs.Play.{Part, PartYields}
use Rattle.mea_family.specs.Acts.{Refuses}
use Rattle.mea_events.specs.declared.chan_event.ChanEvent.{ChanEvent}
use Rattle.mea_chan_model.specs.Mailboxes as mailboxes
use Rattle.mea_chan_model.specs.Mailboxes.{Mailboxes}
use Rattle.mea_chan_model.specs.MailboxActions.{Action, act_in}
use Rattle.mea_chan_model.specs.Bounded as bounded_ones
use Rattle.mea_chan_model.specs.Bounded.{Bounded}
use Rattle.mea_chan_model.specs.declared.bounded_action.BoundedAction.{BoundedAction}
use Rattle.mea_chan_model.specs.BoundedActions.{bounded_act}
use Rattle.mea_chan_model.specs.Broadcasts as broadcast_ones
use Rattle.mea_chan_model.specs.Broadcasts.{Broadcasts}
use Rattle.mea_chan_model.specs.declared.broadcast_action.BroadcastAction.{BroadcastAction}
use Rattle.mea_chan_model.specs.BroadcastActions.{broadcast_act}
use Rattle.mea_chan_model.specs.declared.box_action.BoxAction.{BoxAction}
use Rattle.mea_chan_model.specs.Boxes.{Boxes}
use Rattle.mea_chan_model.specs.ChanHall.{ChanHall, Kind, Unbounded, Oneshots, BoxKind, Full, Optional}
use Rattle.mea_chan_model.specs.Meaning.{Meaning, OfChannels, OfBounded, OfBroadcasts, OfBoxes, meaning_of, cause_by}
use Rattle.mea_chan_broadcast.specs.Actions.{IsFreeBroadcast}
use Rattle.mea_chan.specs.declared.kinds.Kinds.{Kinds}
use Rattle.mea_chan.specs.Actions.{IsFree, IsFreeBounded, IsFreeBox}
use Rattle.mea_chan.specs.BoxParts.{BoxYields}

-- the channels of each kind, each with the least number that its next event may have, and the boxes
pub record Parts : Type 0 where
  pub unbounded : Part Mailboxes
  pub oneshots : Part Mailboxes
  pub bounded : Part Bounded
  pub broadcasts : Part Broadcasts
  pub boxes : Boxes
  pub option_boxes : Boxes

abbrev pub parts : Kinds → Parts
parts k = record { unbounded = k.unbounded; oneshots = k.oneshots; bounded = k.bounded; broadcasts = k.broadcasts; boxes = k.boxes; option_boxes = k.option_boxes }

abbrev pub hall_of : Parts → ChanHall
hall_of p = record { unbounded = p.unbounded.hall; oneshots = p.oneshots.hall; bounded = p.bounded.hall; broadcasts = p.broadcasts.hall; boxes = p.boxes; option_boxes = p.option_boxes }

-- no next number is above n
pub record AreBelow (p : Parts) (n : ℕ) : Type 0 where
  pub unbounded : p.unbounded.next ≤ n
  pub oneshots : p.oneshots.next ≤ n
  pub bounded : p.bounded.next ≤ n
  pub broadcasts : p.broadcasts.next ≤ n

abbrev pub of_kind : Parts → Kind → Part Mailboxes
of_kind p Unbounded = p.unbounded
of_kind p Oneshots = p.oneshots

abbrev pub with_kind : Parts → Kind → Part Mailboxes → Parts
with_kind p Unbounded c = record p { unbounded = c }
with_kind p Oneshots c = record p { oneshots = c }

abbrev pub of_boxes : Parts → BoxKind → Boxes
of_boxes p Full = p.boxes
of_boxes p Optional = p.option_boxes

abbrev pub with_boxes : Parts → BoxKind → Boxes → Parts
with_boxes p Full b = record p { boxes = b }
with_boxes p Optional b = record p { option_boxes = b }

-- event number i did this to the channels of one kind, or to the boxes of one kind, and nothing to the others
pub record PlaysMail (old : Parts) (k : Kind) (i : ℕ) (a : Action) (answer : Answer) (new : Parts) (before after : Waking ℕ) : Type 0 where
  pub part : Part Mailboxes
  pub is : new ≡ with_kind old k part
  pub yields : PartYields mailboxes.registered (of_kind old k) i (act_in (of_kind old k).hall i a) answer part before after

pub record PlaysBounded (old : Parts) (i : ℕ) (a : BoundedAction) (answer : Answer) (new : Parts) (before after : Waking ℕ) : Type 0 where
  pub part : Part Bounded
  pub is : new ≡ record old { bounded = part }
  pub yields : PartYields bounded_ones.registered old.bounded i (bounded_act old.bounded.hall i a) answer part before after

pub record PlaysBroadcasts (old : Parts) (i : ℕ) (a : BroadcastAction) (answer : Answer) (new : Parts) (before after : Waking ℕ) : Type 0 where
  pub part : Part Broadcasts
  pub is : new ≡ record old { broadcasts = part }
  pub yields : PartYields broadcast_ones.registered old.broadcasts i (broadcast_act old.broadcasts.hall i a) answer part before after

pub record PlaysBoxes (old : Parts) (k : BoxKind) (i : ℕ) (a : BoxAction) (answer : Answer) (new : Parts) (before after : Waking ℕ) : Type 0 where
  pub part : Boxes
  pub is : new ≡ with_boxes old k part
  pub yields : BoxYields (of_boxes old k) i a answer part
  pub still : after ≡ before

-- what a line means was done
abbrev pub PlaysBy : Meaning → Parts → ℕ → Answer → Parts → Waking ℕ → Waking ℕ → Type 0
PlaysBy (OfChannels k a) old i answer new before after = PlaysMail old k i a answer new before after
PlaysBy (OfBounded a) old i answer new before after = PlaysBounded old i a answer new before after
PlaysBy (OfBroadcasts a) old i answer new before after = PlaysBroadcasts old i a answer new before after
PlaysBy (OfBoxes k a) old i answer new before after = PlaysBoxes old k i a answer new before after

abbrev pub IsFreeBy : Meaning → Type 0
IsFreeBy (OfChannels k a) = IsFree a
IsFreeBy (OfBounded a) = IsFreeBounded a
IsFreeBy (OfBroadcasts a) = IsFreeBroadcast a
IsFreeBy (OfBoxes k a) = IsFreeBox a

-- the events that take no memory
abbrev pub TakesNoMemory : ChanEvent → Type 0
TakesNoMemory e = IsFreeBy (meaning_of e)

-- event number i asked what a line means: it was done; or refused, and nothing has changed
abbrev pub ActsBy : Meaning → Parts → ℕ → Result Answer Stop → Parts → Waking ℕ → Waking ℕ → Type 0
ActsBy m old i (Ok answer) new before after = (cause_by (hall_of old) m ≡ None) × PlaysBy m old i answer new before after
ActsBy m old i (Err stop) new before after = Refuses (cause_by (hall_of old) m) (IsFreeBy m) stop × (new ≡ old) × (after ≡ before)
