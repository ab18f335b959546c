-- the channels and boxes of each kind
use Rattle.std.specs.Prelude.{ℕ, ◌+◌, refl}
use Rattle.std.specs.Coded.{Coded, code_by, coded×}
use Rattle.std.specs.FinMap.{empty}
use Rattle.mea_chan_model.specs.Mailboxes as mailboxes
use Rattle.mea_chan_model.specs.Mailboxes.{Mailboxes, no_mailboxes, mailboxes_code}
use Rattle.mea_chan_model.specs.Bounded as bounded_ones
use Rattle.mea_chan_model.specs.Bounded.{Bounded, no_bounded, bounded_code}
use Rattle.mea_chan_model.specs.Broadcasts as broadcast_ones
use Rattle.mea_chan_model.specs.Broadcasts.{Broadcasts, no_broadcasts, broadcasts_code}
use Rattle.mea_chan_model.specs.Boxes.{Boxes, boxes_code}

-- channels for any number of messages, and for one
pub data Kind : Type 0 where
  Unbounded : Kind
  Oneshots : Kind

-- whose a receiver is: of a channel of such a kind, or of a bounded one
pub data ReceiverKind : Type 0 where
  ReceiverOf : Kind → ReceiverKind
  ReceiverOfBounded : ReceiverKind

-- boxes that always have a value, and boxes that may be empty
pub data BoxKind : Type 0 where
  Full : BoxKind
  Optional : BoxKind

-- the channels and the boxes of each kind, by name
pub record ChanHall : Type 0 where
  pub unbounded : Mailboxes
  pub oneshots : Mailboxes
  pub bounded : Bounded
  pub broadcasts : Broadcasts
  pub boxes : Boxes
  pub option_boxes : Boxes

-- no channel and no box
abbrev pub empty_hall : ChanHall
empty_hall = record { unbounded = no_mailboxes; oneshots = no_mailboxes; bounded = no_bounded; broadcasts = no_broadcasts; boxes = empty; option_boxes = empty }

-- the channels of a kind
abbrev pub part : ChanHall → Kind → Mailboxes
part h Unbounded = h.unbounded
part h Oneshots = h.oneshots

-- those of a kind are these now
abbrev pub with_part : ChanHall → Kind → Mailboxes → ChanHall
with_part h Unbounded p = record h { unbounded = p }
with_part h Oneshots p = record h { oneshots = p }

-- the channels that receivers of a kind are of
abbrev pub mail : ChanHall → ReceiverKind → Mailboxes
mail h (ReceiverOf k) = part h k
mail h ReceiverOfBounded = h.bounded.mail

-- the boxes of a kind
abbrev pub boxes_of : ChanHall → BoxKind → Boxes
boxes_of h Full = h.boxes
boxes_of h Optional = h.option_boxes

-- the boxes of a kind are these now
abbrev pub with_boxes : ChanHall → BoxKind → Boxes → ChanHall
with_boxes h Full p = record h { boxes = p }
with_boxes h Optional p = record h { option_boxes = p }

-- how many wakers are registered
abbrev pub registered : ChanHall → ℕ
registered h = mailboxes.registered h.unbounded + mailboxes.registered h.oneshots + bounded_ones.registered h.bounded + broadcast_ones.registered h.broadcasts

-- by which a proof tells two halls apart
abbrev pub hall_code : Coded ChanHall
hall_code =
    code_by (Mailboxes × (Mailboxes × (Bounded × (Broadcasts × (Boxes × Boxes))))) (coded× mailboxes_code (coded× mailboxes_code (coded× bounded_code (coded× broadcasts_code (coded× boxes_code boxes_code)))))
    (λ h. (h.unbounded, (h.oneshots, (h.bounded, (h.broadcasts, (h.boxes, h.option_boxes)))))) (λ p. record { unbounded = p.0; oneshots = p.1.0; bounded = p.1.1.0; broadcasts = p.1.1.1.0; boxes = p.1.1.1.1.0; option_boxes = p.1.1.1.1.1 }) (λ _. refl)
