-- what is said of the channels and boxes of one kind, and of all
use Rattle.std.proofs.Common.{◌≡◌, ℕ, ◌+◌, ◌++◌, List, [], Result, Ok, Err, length, refl, ap, sym, subst, ◌∙◌, arith, append-nil}
use Rattle.mea_base.specs.Ready.{Waking}
use Rattle.mea_base.proofs.Totals.{total-empty}
use Rattle.mea_family.specs.declared.answer.Answer.{Answer}
use Rattle.mea_family.specs.declared.stop.Stop.{Stop}
use Rattle.mea_family.specs.Play.{Part, PartYields}
use Rattle.mea_chan_model.proofs.Wakers.{box_quiet}
use Rattle.mea_chan_model.specs.Mailboxes as mailboxes
use Rattle.mea_chan_model.specs.Mailboxes.{Mailbox, Mailboxes}
use Rattle.mea_chan_model.specs.MailboxActions.{Action}
use Rattle.mea_chan_model.specs.Bounded as bounded_ones
use Rattle.mea_chan_model.specs.Bounded.{Bounded}
use Rattle.mea_chan_model.specs.declared.bounded_action.BoundedAction.{BoundedAction}
use Rattle.mea_chan_model.specs.Broadcasts.{Broadcast, Broadcasts}
use Rattle.mea_chan_model.specs.declared.broadcast_action.BroadcastAction.{BroadcastAction}
use Rattle.mea_chan_model.specs.declared.box_action.BoxAction.{BoxAction}
use Rattle.mea_chan_model.specs.Boxes.{Boxes}
use Rattle.mea_chan_model.specs.ChanHall.{Kind, Unbounded, Oneshots, BoxKind, Full, Optional, empty_hall, registered}
use Rattle.mea_chan_model.specs.Meaning.{Meaning, OfChannels, OfBounded, OfBroadcasts, OfBoxes, step_by}
use Rattle.mea_chan_broadcast.specs.Actions.{BroadcastActs}
use Rattle.mea_chan.specs.Actions.{BoundedActs, MailActs, BoxActs}
use Rattle.mea_chan.specs.Halls.{Parts, hall_of, AreBelow, of_kind, with_kind, of_boxes, with_boxes, PlaysMail, PlaysBounded, PlaysBroadcasts, PlaysBoxes, PlaysBy, ActsBy}

pub none_registered : registered empty_hall ≡ 0
none_registered = omega (arith, total-empty (λ o (c : Mailbox). mailboxes.kept c), total-empty (λ o (r : bounded_ones.Room). length (bounded_ones.waiting_at r)), total-empty (λ o (c : Broadcast). length c.waiting))

-- ---- an action on one kind is an action on all
module _ (old : Parts) (i : ℕ) (m : Meaning) where
  pub mail_acts : (k : Kind) (a : Action) (r : Result Answer Stop) (part : Part Mailboxes) (before after : Waking ℕ) → m ≡ OfChannels k a → MailActs (of_kind old k) i a r part before after → ActsBy m old i r (with_kind old k part) before after
  mail_acts k a r part before after is did = subst (λ m. ActsBy m old i r (with_kind old k part) before after) (sym is) (at k r did)
    where
      at : (k : Kind) (r : Result Answer Stop) → MailActs (of_kind old k) i a r part before after → ActsBy (OfChannels k a) old i r (with_kind old k part) before after
      at Unbounded (Ok answer) did = (did.0, record { part = part; is = refl; yields = did.1 })
      at Unbounded (Err stop) did = (did.0, ap (with_kind old Unbounded) did.1, did.2)
      at Oneshots (Ok answer) did = (did.0, record { part = part; is = refl; yields = did.1 })
      at Oneshots (Err stop) did = (did.0, ap (with_kind old Oneshots) did.1, did.2)

  pub bounded_acts : (a : BoundedAction) (r : Result Answer Stop) (part : Part Bounded) (before after : Waking ℕ) → m ≡ OfBounded a → BoundedActs old.bounded i a r part before after → ActsBy m old i r (record old { bounded = part }) before after
  bounded_acts a r part before after is did = subst (λ m. ActsBy m old i r (record old { bounded = part }) before after) (sym is) (at r did)
    where
      at : (r : Result Answer Stop) → BoundedActs old.bounded i a r part before after → ActsBy (OfBounded a) old i r (record old { bounded = part }) before after
      at (Ok answer) did = (did.0, record { part = part; is = refl; yields = did.1 })
      at (Err stop) did = (did.0, (λ j. record old { bounded = did.1 j }), did.2)

  pub broadcasts_act : (a : BroadcastAction) (r : Result Answer Stop) (part : Part Broadcasts) (before after : Waking ℕ) → m ≡ OfBroadcasts a → BroadcastActs old.broadcasts i a r part before after → ActsBy m old i r (record old { broadcasts = part }) before after
  broadcasts_act a r part before after is did = subst (λ m. ActsBy m old i r (record old { broadcasts = part }) before after) (sym is) (at r did)
    where
      at : (r : Result Answer Stop) → BroadcastActs old.broadcasts i a r part before after → ActsBy (OfBroadcasts a) old i r (record old { broadcasts = part }) before after
      at (Ok answer) did = (did.0, record { part = part; is = refl; yields = did.1 })
      at (Err stop) did = (did.0, (λ j. record old { broadcasts = did.1 j }), did.2)

  pub boxes_act : (k : BoxKind) (a : BoxAction) (r : Result Answer Stop) (part : Boxes) (w : Waking ℕ) → m ≡ OfBoxes k a → BoxActs (of_boxes old k) i a r part → ActsBy m old i r (with_boxes old k part) w w
  boxes_act k a r part w is did = subst (λ m. ActsBy m old i r (with_boxes old k part) w w) (sym is) (at k r did)
    where
      at : (k : BoxKind) (r : Result Answer Stop) → BoxActs (of_boxes old k) i a r part → ActsBy (OfBoxes k a) old i r (with_boxes old k part) w w
      at Full (Ok answer) did = (did.0, record { part = part; is = refl; yields = did.1; still = refl })
      at Full (Err stop) did = (did.0, ap (with_boxes old Full) did.1, refl)
      at Optional (Ok answer) did = (did.0, record { part = part; is = refl; yields = did.1; still = refl })
      at Optional (Err stop) did = (did.0, ap (with_boxes old Optional) did.1, refl)

-- ---- what was done to all
module _ (p p' : Parts) (before after : Waking ℕ) (next i : ℕ) (answer : Answer) where
  -- it leaves next numbers that are below the next one, and is what the model says
  pub record Yielded (m : Meaning) : Type 0 where
    pub below : AreBelow p' (i + 1)
    pub yields : PartYields registered (record { hall = hall_of p; next = next }) i (step_by (hall_of p) i m) answer (record { hall = hall_of p'; next = i + 1 }) before after

  yielded_as : (m : Meaning) (q : Parts) → p' ≡ q → AreBelow q (i + 1) → answer ≡ (step_by (hall_of p) i m).reply → hall_of q ≡ (step_by (hall_of p) i m).hall → after.wakers ≡ before.wakers ++ (step_by (hall_of p) i m).wakes
      → after.registered + registered (hall_of p) ≡ before.registered + registered (step_by (hall_of p) i m).hall → Yielded m
  yielded_as m q is below replied hall woken counted = record {
    below = subst (λ q. AreBelow q (i + 1)) (sym is) below;
    yields = record { replied = replied; moved = λ j. record { hall = (ap hall_of is ∙ hall) j; next = i + 1 }; woken = woken; counted = counted };
  }

  module _ (held : AreBelow p i) where
    mail_yielded : (k : Kind) (a : Action) → PlaysMail p k i a answer p' before after → Yielded (OfChannels k a)
    mail_yielded Unbounded a one =
        let hall = ap (λ (q : Part Mailboxes). q.hall) one.yields.moved in
        let next_is : one.part.next ≡ i + 1 = ap (λ (q : Part Mailboxes). q.next) one.yields.moved in
        yielded_as (OfChannels Unbounded a) (record p { unbounded = one.part }) one.is (record { unbounded = omega (arith, next_is); oneshots = omega (arith, held.oneshots); bounded = omega (arith, held.bounded); broadcasts = omega (arith, held.broadcasts) })
        one.yields.replied (λ j. record (hall_of p) { unbounded = hall j }) one.yields.woken (omega (arith, one.yields.counted))
    mail_yielded Oneshots a one =
        let hall = ap (λ (q : Part Mailboxes). q.hall) one.yields.moved in
        let next_is : one.part.next ≡ i + 1 = ap (λ (q : Part Mailboxes). q.next) one.yields.moved in
        yielded_as (OfChannels Oneshots a) (record p { oneshots = one.part }) one.is (record { unbounded = omega (arith, held.unbounded); oneshots = omega (arith, next_is); bounded = omega (arith, held.bounded); broadcasts = omega (arith, held.broadcasts) })
        one.yields.replied (λ j. record (hall_of p) { oneshots = hall j }) one.yields.woken (omega (arith, one.yields.counted))

    bounded_yielded : (a : BoundedAction) → PlaysBounded p i a answer p' before after → Yielded (OfBounded a)
    bounded_yielded a one =
        let hall = ap (λ (q : Part Bounded). q.hall) one.yields.moved in
        let next_is : one.part.next ≡ i + 1 = ap (λ (q : Part Bounded). q.next) one.yields.moved in
        yielded_as (OfBounded a) (record p { bounded = one.part }) one.is (record { unbounded = omega (arith, held.unbounded); oneshots = omega (arith, held.oneshots); bounded = omega (arith, next_is); broadcasts = omega (arith, held.broadcasts) })
        one.yields.replied (λ j. record (hall_of p) { bounded = hall j }) one.yields.woken (omega (arith, one.yields.counted))

    broadcasts_yielded : (a : BroadcastAction) → PlaysBroadcasts p i a answer p' before after → Yielded (OfBroadcasts a)
    broadcasts_yielded a one =
        let hall = ap (λ (q : Part Broadcasts). q.hall) one.yields.moved in
        let next_is : one.part.next ≡ i + 1 = ap (λ (q : Part Broadcasts). q.next) one.yields.moved in
        yielded_as (OfBroadcasts a) (record p { broadcasts = one.part }) one.is (record { unbounded = omega (arith, held.unbounded); oneshots = omega (arith, held.oneshots); bounded = omega (arith, held.bounded); broadcasts = omega (arith, next_is) })
        one.yields.replied (λ j. record (hall_of p) { broadcasts = hall j }) one.yields.woken (omega (arith, one.yields.counted))

    boxes_yielded : (k : BoxKind) (a : BoxAction) → PlaysBoxes p k i a answer p' before after → Yielded (OfBoxes k a)
    boxes_yielded k a one = at k one
      where
        below : AreBelow p (i + 1)
        below = record { unbounded = omega (arith, held.unbounded); oneshots = omega (arith, held.oneshots); bounded = omega (arith, held.bounded); broadcasts = omega (arith, held.broadcasts) }

        count : after.registered ≡ before.registered
        count = ap (λ (w : Waking ℕ). w.registered) one.still

        woken : (ws : List ℕ) → ws ≡ [] → after.wakers ≡ before.wakers ++ ws
        woken ws none = ap (λ (w : Waking ℕ). w.wakers) one.still ∙ sym (append-nil before.wakers) ∙ ap (λ ws. before.wakers ++ ws) (sym none)

        at : (k : BoxKind) → PlaysBoxes p k i a answer p' before after → Yielded (OfBoxes k a)
        at Full one = yielded_as (OfBoxes Full a) (record p { boxes = one.part }) one.is (record { unbounded = below.unbounded; oneshots = below.oneshots; bounded = below.bounded; broadcasts = below.broadcasts })
            one.yields.replied (λ j. record (hall_of p) { boxes = one.yields.moved j }) (woken _ (box_quiet p.boxes i a)) (omega (arith, count))
        at Optional one = yielded_as (OfBoxes Optional a) (record p { option_boxes = one.part }) one.is (record { unbounded = below.unbounded; oneshots = below.oneshots; bounded = below.bounded; broadcasts = below.broadcasts })
            one.yields.replied (λ j. record (hall_of p) { option_boxes = one.yields.moved j }) (woken _ (box_quiet p.option_boxes i a)) (omega (arith, count))

    pub yielded : (m : Meaning) → PlaysBy m p i answer p' before after → Yielded m
    yielded (OfChannels k a) one = mail_yielded k a one
    yielded (OfBounded a) one = bounded_yielded a one
    yielded (OfBroadcasts a) one = broadcasts_yielded a one
    yielded (OfBoxes k a) one = boxes_yielded k a one
