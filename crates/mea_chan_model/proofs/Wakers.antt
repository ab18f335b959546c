-- the laws of the family
use Rattle.std.proofs.Common.{◌≡◌, ℕ, ◌+◌, ◌<◌, ◌≤◌, ◌==◌, ◌⊎◌, inl, inr, Bool, true, false, cond, List, [], ◌∷◌, length, Option, Some, None, if◌then◌else◌, refl, ap, sym, subst, ◌∙◌, arith}
use Rattle.std.specs.Option.{IsSome, is_some}
use Rattle.std.specs.List.{Contains}
use Rattle.std.specs.FinMap.{get, insert, remove}
use Rattle.std.proofs.lemmas.Bool.{eqb-true}
use Rattle.std.proofs.lemmas.Bool.Decides.{nat_tests}
use Rattle.std.proofs.lemmas.Option.{cond_some}
use Rattle.mea_family.specs.declared.answer.Answer.TheVariants as answers
use Rattle.mea_family.specs.Family.{Outcome, quietly, IsRun, Starts, Goes as GoesOn, RunOf, KeepsWakers, NamesFutures, LosesNoWake}
use Rattle.mea_base.specs.Totals.{total, weight}
use Rattle.mea_base.proofs.Maps.{by_put, nothing_at, is_there, inside, get-there, get-other, get-gone, get-removed_other, removed_there, value_in, total-has, none_if}
use Rattle.mea_base.proofs.Tests.{by_name}
use Rattle.mea_family.proofs.Causes.{known}
use Rattle.mea_base.proofs.Totals.{total-insert, total-remove}
use Rattle.mea_family.proofs.Wakes.{loses_no_wake}
use Rattle.mea_by_name.specs.ByName.{Names}
use Rattle.mea_family.specs.Play.{found}
use Rattle.mea_by_name.specs.NamedQueue as named_queue
use Rattle.mea_by_name.specs.NamedQueue.{waits}
use Rattle.mea_by_name.specs.LackingQueue.{who, leaving}
use Rattle.mea_by_name.proofs.NamedQueues.{local_without}
use Rattle.mea_by_name.proofs.LackingQueues.{who-leaving}
use Rattle.mea_by_name.proofs.OneObject.{counted_same, counted_put, counted_made}
use Rattle.mea_base.specs.Queue.{lacks}
use Rattle.std.proofs.lemmas.List.{length-append}
use Rattle.mea_by_name.proofs.Cases.{by_found, by_if, if_false}
use Rattle.mea_events.specs.declared.chan_event.ChanEvent.{ChanEvent}
use Rattle.mea_chan_model.specs.Mailboxes as mailboxes
use Rattle.mea_chan_model.specs.Mailboxes.{Mailbox, Mailboxes, Receiver, new_mailbox, is_channel, is_receiver, polls_as, kept, waker_in, placed_of}
use Rattle.mea_chan_model.specs.MailboxActions.{Action, Make, Copy, Send, EndSender, Receive, Poll, EndReceiver, act_in, registers_in, polled_in, ends_in, cause_in}
use Rattle.mea_chan_model.specs.Boxes.{Boxes, BoxAction, MakeBox, box_act}
use Rattle.mea_chan_model.specs.ChanHall.{ChanHall, Kind, Unbounded, Oneshots, ReceiverKind, ReceiverOf, ReceiverOfBounded, BoxKind, Full, Optional, empty_hall, part, with_part, mail, with_boxes, boxes_of, registered}
use Rattle.mea_chan_model.specs.Meaning.{Meaning, OfChannels, OfBounded, OfBroadcasts, OfBoxes, meaning_of, cause_by, step_by, step, registers, registers_by}
use Rattle.mea_chan_model.specs.ChanFamily.{Future, Receives, Hears, chans_family, polled_at, polled_at_bounded, receiver_polled_by, hearing_polled_by, polled, ends_at, ends_at_bounded, receiver_ended_by, hearing_ended_by, ends, name, lives, placed}
use Rattle.mea_chan_model.specs.Broadcasts as broadcasts
use Rattle.mea_chan_model.specs.Broadcasts.{Broadcasts}
use Rattle.mea_chan_model.specs.BroadcastActions.{broadcast_act}
use Rattle.mea_chan_model.specs.BroadcastValid.{AreKept}
use Rattle.mea_chan_model.proofs.BroadcastActing.{rests}
use Rattle.mea_chan_model.proofs.BroadcastWakes.{none_kept, kept_after, broadcast_counts, hearing_there, hearing_stays, hearing_kept, hearing_made, hearing_gone, hearing_below, hearing_placed, hearing_waits}
use Rattle.mea_chan_model.specs.Bounded as bounded
use Rattle.mea_chan_model.specs.Bounded.{Bounded, Room, BoundedSend, waiting_at, woken_at, is_full, is_got, granted, woken_by_grant, all_granted, all_woken, joined, left_by}
use Rattle.mea_chan_model.specs.MailboxActions as actions
use Rattle.mea_chan_model.specs.declared.bounded_action.BoundedAction.TheVariants as bounded_actions
use Rattle.mea_chan_model.specs.BoundedActions.{BoundedAction, CopySender, TrySend, BeginSend, PollSend, EndSend, TryReceive, PollReceive, bounded_cause, bounded_act, bounded_polled, bounded_registers}
use Rattle.mea_chan_model.proofs.BoundedActing.{goes_as, poll_hall, poll_reply, Rooms, at_room_counted, no_wake, joined_local, left_local, granted_local, tidied_counted}
use Rattle.mea_chan_model.proofs.Acting.{Awake, after, ChannelsGo, Same, At, Made, ReceiversGo, Stay, Come, Change, Leave, Touches, Fresh, Polled, Ends, goes}

-- ---- the channels of one kind

-- names stay below the next number, no channel has two receivers, and while a waker is kept there is nothing to receive
pub record Low (h : Mailboxes) (n : ℕ) : Type 0 where
  pub lows : (o : ℕ) (c : Mailbox) → get h.channels o ≡ Some c → o < n
  below : (r : ℕ) (x : Receiver) → get h.receivers r ≡ Some x → (r < n) × (x.channel < n)
  one : (r q : ℕ) (x y : Receiver) → get h.receivers r ≡ Some x → get h.receivers q ≡ Some y → x.channel ≡ y.channel → r ≡ q
  awake : (o : ℕ) (c : Mailbox) → get h.channels o ≡ Some c → Awake c

pub after-there : (cs : Names Mailbox) (o : ℕ) (c : Option Mailbox) → get (after cs o c) o ≡ c
after-there cs o None = get-gone cs o
after-there cs o (Some c) = get-there cs o c

pub after-other : (cs : Names Mailbox) (o q : ℕ) (c : Option Mailbox) → (o ≡ q → ⊥) → get (after cs o c) q ≡ get cs q
after-other cs o q None apart = get-removed_other cs o q apart
after-other cs o q (Some c) apart = get-other cs o q c apart

-- a channel that is over has lost its receiver
pub over_ended : (c : Mailbox) → mailboxes.is_over c ≡ true → c.ended ≡ true
over_ended c = at c.ended
  where
    at : (b : Bool) → (if b then c.senders == 0 else false) ≡ true → b ≡ true
    at true is = refl
    at false is = absurd (cc)

module _ (h : Mailboxes) (n i : ℕ) (low : Low h n) (later : n ≤ i) where
  low_later : Low h (i + 1)
  low_later = record {
    lows = λ o c is. omega (arith, low.lows o c is, later);
    below = λ r x is. (omega (arith, (low.below r x is).0, later), omega (arith, (low.below r x is).1, later));
    one = low.one;
    awake = low.awake;
  }

  fresh : get h.receivers i ≡ None
  fresh = none_if (get h.receivers i) (λ x is. absurd (let small = (low.below i x is).0 in omega (arith, small, later)))

  channels_after : (k extra : ℕ) (cs : Names Mailbox) (ws : List ℕ) → ChannelsGo h i k extra cs ws → (o : ℕ) (c : Mailbox) → get cs o ≡ Some c → (o < i + 1) × Awake c
  channels_after k extra _ _ Same o c is = (omega (arith, low.lows o c is, later), low.awake o c is)
  channels_after k extra _ _ (At q d None ws there becomes keeps) o c is =
      let was = removed_there h.channels q o c is in (omega (arith, low.lows o c was, later), low.awake o c was)
  channels_after k extra _ _ (At q d (Some e) ws there becomes keeps) o c is = by_put h.channels q e (λ j p. p ≡ Some c → (j < i + 1) × Awake c)
      (λ here. (omega (arith, low.lows q d there, later), subst Awake (inside here) (becomes.awake (low.awake q d there))))
      (λ j apart was. (omega (arith, low.lows j c was, later), low.awake j c was)) o is
  channels_after k extra _ _ Made o c is = by_put h.channels i new_mailbox (λ j p. p ≡ Some c → (j < i + 1) × Awake c)
      (λ here. (omega arith, subst Awake (inside here) (record { waits = λ w kept. absurd (cc) })))
      (λ j apart was. (omega (arith, low.lows j c was, later), low.awake j c was)) o is

  receivers_after : (k : ℕ) (rs : Names Receiver) → ReceiversGo h i k rs → (r : ℕ) (x : Receiver) → get rs r ≡ Some x → (r < i + 1) × (x.channel < i + 1)
  receivers_after k _ Stay r x is = (omega (arith, (low.below r x is).0, later), omega (arith, (low.below r x is).1, later))
  receivers_after k _ (Come y of) r x is = by_put h.receivers i y (λ j p. p ≡ Some x → (j < i + 1) × (x.channel < i + 1))
      (λ here. let same : y.channel ≡ x.channel = ap (λ (x : Receiver). x.channel) (inside here) in (omega arith, omega (arith, same, of)))
      (λ j apart was. (omega (arith, (low.below j x was).0, later), omega (arith, (low.below j x was).1, later))) r is
  receivers_after k _ (Change z y there alike) r x is = by_put (remove h.receivers k) i y (λ j p. p ≡ Some x → (j < i + 1) × (x.channel < i + 1))
      (λ here. let same : y.channel ≡ x.channel = ap (λ (x : Receiver). x.channel) (inside here) in (omega arith, omega (arith, same, alike, (low.below k z there).1, later)))
      (λ j apart kept. let was = removed_there h.receivers k j x kept in (omega (arith, (low.below j x was).0, later), omega (arith, (low.below j x was).1, later))) r is
  receivers_after k _ Leave r x is = let was = removed_there h.receivers k r x is in (omega (arith, (low.below r x was).0, later), omega (arith, (low.below r x was).1, later))

  -- a channel has one receiver still
  one_more : (rs : Names Receiver) (y : Receiver) → ((r : ℕ) (x : Receiver) → get rs r ≡ Some x → get h.receivers r ≡ Some x) → ((r : ℕ) (x : Receiver) → get rs r ≡ Some x → y.channel ≡ x.channel → ⊥)
      → (r q : ℕ) (x z : Receiver) → get (insert rs i y) r ≡ Some x → get (insert rs i y) q ≡ Some z → x.channel ≡ z.channel → r ≡ q
  one_more rs y old alone r q x z first second same = by_put rs i y (λ j p. p ≡ Some x → j ≡ q)
      (λ here. by_put rs i y (λ j p. p ≡ Some z → i ≡ j) (λ there. refl)
      (λ j apart there. absurd (alone j z there (ap (λ (x : Receiver). x.channel) (inside here) ∙ same))) q second)
      (λ j apart here. by_put rs i y (λ l p. p ≡ Some z → j ≡ l) (λ there. absurd (alone j x here (ap (λ (x : Receiver). x.channel) (inside there) ∙ sym same)))
      (λ l differs there. low.one j l x z (old j x here) (old l z there) same) q second) r first

  one_after : (k : ℕ) (rs : Names Receiver) → ReceiversGo h i k rs → (r q : ℕ) (x z : Receiver) → get rs r ≡ Some x → get rs q ≡ Some z → x.channel ≡ z.channel → r ≡ q
  one_after k _ Stay r q x z first second same = low.one r q x z first second same
  one_after k _ (Come y of) r q x z first second same = one_more h.receivers y (λ j x is. is)
      (λ j x is alike. absurd (let small = (low.below j x is).1 in omega (arith, small, later, of, alike))) r q x z first second same
  one_after k _ (Change v y there alike) r q x z first second same = one_more (remove h.receivers k) y (λ j x is. removed_there h.receivers k j x is)
      (λ j x is like. absurd (let mine : k ≡ j = low.one k j v x there (removed_there h.receivers k j x is) (sym alike ∙ like) in let lost = ap (get (remove h.receivers k)) (sym mine) ∙ get-gone h.receivers k in cc)) r q x z first second same
  one_after k _ Leave r q x z first second same = low.one r q x z (removed_there h.receivers k r x first) (removed_there h.receivers k q z second) same

  -- ---- who is neither polled nor ended
  stays_same : (k : ℕ) (rs : Names Receiver) → ReceiversGo h i k rs → (f : ℕ) (x : Receiver) → (k ≡ f → ⊥) → get h.receivers f ≡ Some x → get rs f ≡ Some x
  stays_same k _ Stay f x apart is = is
  stays_same k _ (Come y of) f x apart is = get-other h.receivers i f y (λ same. absurd (let small = (low.below f x is).0 in omega (arith, small, later, same))) ∙ is
  stays_same k _ (Change z y there alike) f x apart is = get-other (remove h.receivers k) i f y (λ same. absurd (let small = (low.below f x is).0 in omega (arith, small, later, same))) ∙ get-removed_other h.receivers k f apart ∙ is
  stays_same k _ Leave f x apart is = get-removed_other h.receivers k f apart ∙ is

  made_after : (k : ℕ) (rs : Names Receiver) → ReceiversGo h i k rs → (f : ℕ) (x : Receiver) → get rs f ≡ Some x → IsSome (get h.receivers f) ⊎ (f ≡ i)
  made_after k _ Stay f x is = inl (is_there (get h.receivers f) x is)
  made_after k _ (Come y of) f x is = by_put h.receivers i y (λ j p. p ≡ Some x → IsSome (get h.receivers j) ⊎ (j ≡ i)) (λ here. inr refl) (λ j apart was. inl (is_there (get h.receivers j) x was)) f is
  made_after k _ (Change z y there alike) f x is = by_put (remove h.receivers k) i y (λ j p. p ≡ Some x → IsSome (get h.receivers j) ⊎ (j ≡ i)) (λ here. inr refl)
      (λ j apart was. inl (is_there (get h.receivers j) x (removed_there h.receivers k j x was))) f is
  made_after k _ Leave f x is = inl (is_there (get h.receivers f) x (removed_there h.receivers k f x is))

  waits_on : (k extra : ℕ) (cs : Names Mailbox) (ws : List ℕ) → ChannelsGo h i k extra cs ws → (f w : ℕ) (x : Receiver) → (k ≡ f → ⊥) → get h.receivers f ≡ Some x
      → waker_in (get h.channels x.channel) ≡ Some w → (waker_in (get cs x.channel) ≡ Some w) ⊎ Contains ws w
  waits_on k extra _ _ Same f w x apart there is = inl is
  waits_on k extra _ _ (At o c c' ws was becomes keeps) f w x apart there is = by_name o x.channel
      (λ same. elim keeps [
        | inl mine ↦ absurd (apart (low.one k f mine.x x mine.there there (mine.of ∙ same)))
        | inr keep ↦ elim (keep (low.awake o c was) w (sym (ap waker_in was) ∙ ap (λ j. waker_in (get h.channels j)) same ∙ is)) [
          | inl stays ↦ inl (ap (λ j. waker_in (get (after h.channels o c') j)) (sym same) ∙ ap waker_in (after-there h.channels o c') ∙ stays)
          | inr woken ↦ inr woken
        ]
      ])
      (λ differs. inl (ap waker_in (after-other h.channels o x.channel c' differs) ∙ is))
  waits_on k extra _ _ Made f w x apart there is = inl (ap waker_in (get-other h.channels i x.channel new_mailbox (λ same. absurd (let small = (low.below f x there).1 in omega (arith, small, later, same)))) ∙ is)

  module _ (a : Action) where
    low_after : Low (act_in h i a).hall (i + 1)
    low_after = let g = goes h i a in record {
      lows = λ o c is. (channels_after g.k _ _ _ g.channels o c is).0;
      below = receivers_after g.k _ g.receivers;
      one = one_after g.k _ g.receivers;
      awake = λ o c is. (channels_after g.k _ _ _ g.channels o c is).1;
    }

    apart : (f : ℕ) (x : Receiver) → get h.receivers f ≡ Some x → polled_in a f ≡ None → ends_in a f ≡ false → (goes h i a).k ≡ f → ⊥
    apart f x was quiet lasts same = by_reason (goes h i a).touches
      where
        by_reason : Touches h i a (goes h i a).k → ⊥
        by_reason (Fresh new) = absurd (let small = (low.below f x was).0 in omega (arith, small, later, same, new))
        by_reason (Polled w is) = absurd (let no_poll : polled_in a (goes h i a).k ≡ None = ap (polled_in a) same ∙ quiet in cc)
        by_reason (Ends is) = absurd (let no_end : ends_in a (goes h i a).k ≡ false = ap (ends_in a) same ∙ lasts in cc)

    stays : (f : ℕ) → mailboxes.is_there h f ≡ true → polled_in a f ≡ None → ends_in a f ≡ false → mailboxes.is_there (act_in h i a).hall f ≡ true
    stays f some quiet lasts =
        let x = value_in (get h.receivers f) some in
        let g = goes h i a in
        is_there (get (act_in h i a).hall.receivers f) x.0 (stays_same g.k _ g.receivers f x.0 (apart f x.0 x.1 quiet lasts) x.1)

    kept_on : (f w : ℕ) → mailboxes.placed h f ≡ Some w → polled_in a f ≡ None → ends_in a f ≡ false → (mailboxes.placed (act_in h i a).hall f ≡ Some w) ⊎ Contains (act_in h i a).wakes w
    kept_on f w is quiet lasts = at (get h.receivers f) refl is
      where
        at : (p : Option Receiver) → get h.receivers f ≡ p → placed_of h p ≡ Some w → (mailboxes.placed (act_in h i a).hall f ≡ Some w) ⊎ Contains (act_in h i a).wakes w
        at None was h = absurd (cc)
        at (Some x) was here =
            let g = goes h i a in
            let differs = apart f x was quiet lasts in
            elim (waits_on g.k _ _ _ g.channels f w x differs was here) [
              | inl stays ↦ inl (ap (placed_of (act_in h i a).hall) (stays_same g.k _ g.receivers f x differs was) ∙ stays)
              | inr woken ↦ inr woken
            ]

    made : (f : ℕ) → mailboxes.is_there (act_in h i a).hall f ≡ true → (mailboxes.is_there h f ≡ true) ⊎ (f ≡ i)
    made f some = let x = value_in (get (act_in h i a).hall.receivers f) some in let g = goes h i a in made_after g.k _ g.receivers f x.0 x.1

-- while a waker is placed, a poll is pending
waits_poll : (h : Mailboxes) (n i : ℕ) → Low h n → (f w v : ℕ) → mailboxes.placed h f ≡ Some w → (act_in h i (Poll f v)).reply ≡ answers.Pending
waits_poll h n i low f w v is = at (get h.receivers f) refl is
  where
    at_queue : (o : ℕ) (c : Mailbox) (q : List ℕ) → q ≡ [] → 0 < c.senders → (mailboxes.poll_of h v o c q).reply ≡ answers.Pending
    at_queue o c [] none some = let not_none : (c.senders == 0) ≡ false = grind (arith, nat_tests, some) in ap (λ (o : Outcome Mailboxes). o.reply) (if_false (c.senders == 0) _ _ not_none)
    at_queue o c (u ∷ rest) none some = absurd (cc)

    at_channel : (o : ℕ) (p : Option Mailbox) → get h.channels o ≡ p → waker_in p ≡ Some w → (found p h (λ c. mailboxes.poll_of h v o c c.queued)).reply ≡ answers.Pending
    at_channel o None was here = absurd (cc)
    at_channel o (Some c) was here = let waits = (low.awake o c was).waits w here in at_queue o c c.queued waits.0 waits.1

    at : (p : Option Receiver) → get h.receivers f ≡ p → placed_of h p ≡ Some w → (found p h (λ x. found (get h.channels x.channel) h (λ c. mailboxes.poll_of h v x.channel c c.queued))).reply ≡ answers.Pending
    at None was here = absurd (cc)
    at (Some x) was here = at_channel x.channel (get h.channels x.channel) refl here

-- a poll that is pending places its waker
places_poll : (h : Mailboxes) (i f w : ℕ) → (act_in h i (Poll f w)).reply ≡ answers.Pending → mailboxes.placed (act_in h i (Poll f w)).hall f ≡ Some w
places_poll h i f w = by_found P (get h.receivers f) h _ (λ is. absurd (cc)) (λ x receiver. by_found P (get h.channels x.channel) h _ (λ is. absurd (cc)) (λ c there. at x receiver c c.queued))
  where
    P : Outcome Mailboxes → Type 0
    P o = o.reply ≡ answers.Pending → mailboxes.placed o.hall f ≡ Some w

    at : (x : Receiver) → get h.receivers f ≡ Some x → (c : Mailbox) (q : List ℕ) → P (mailboxes.poll_of h w x.channel c q)
    at x receiver c [] = by_if P (c.senders == 0) _ _ (λ gone is. absurd (cc))
        (λ some pending. ap (placed_of (mailboxes.with_channel h x.channel (record c { waker = Some w }))) receiver ∙ ap waker_in (get-there h.channels x.channel (record c { waker = Some w })))
    at x receiver c (v ∷ rest) = λ is. absurd (cc)

-- an action that polls f is a poll of f
same_poll : (a : Action) (f w : ℕ) (P : Action → Type 0) → ((v : ℕ) → v ≡ w → P (Poll f v)) → polled_in a f ≡ Some w → P a
same_poll (Poll g v) f w P here is = let test = cond_some (g == f) v w is in subst (λ j. P (Poll j v)) (sym (eqb-true g f test.0)) (here v test.1)
same_poll _ f w P here is = absurd (cc)

receiver_there : (p : Option Receiver) (polls : Bool) → polls_as p polls ≡ true → IsSome p
receiver_there None polls is = absurd (cc)
receiver_there (Some x) polls is = refl

-- ---- the channels of all kinds
-- what is done to one kind is seen at that kind, and every other kind is as it was
pub by_kinds : (P : Kind → ReceiverKind → Type 0) → ((k : Kind) → P k (ReceiverOf k)) → P Unbounded (ReceiverOf Oneshots) → P Oneshots (ReceiverOf Unbounded) → P Unbounded ReceiverOfBounded → P Oneshots ReceiverOfBounded → (k : Kind) (j : ReceiverKind) → P k j
by_kinds P same first second third fourth Unbounded (ReceiverOf Unbounded) = same Unbounded
by_kinds P same first second third fourth Unbounded (ReceiverOf Oneshots) = first
by_kinds P same first second third fourth Oneshots (ReceiverOf Unbounded) = second
by_kinds P same first second third fourth Oneshots (ReceiverOf Oneshots) = same Oneshots
by_kinds P same first second third fourth Unbounded ReceiverOfBounded = third
by_kinds P same first second third fourth Oneshots ReceiverOfBounded = fourth

pub there : (h : ChanHall) (k : Kind) (p : Mailboxes) → part (with_part h k p) k ≡ p
there h Unbounded p = refl
there h Oneshots p = refl

pub beside : (h : ChanHall) (b : BoxKind) (i : ℕ) (a : BoxAction) (j : ReceiverKind) → mail (with_boxes h b (box_act (boxes_of h b) i a).hall) j ≡ mail h j
beside h Full i a (ReceiverOf Unbounded) = refl
beside h Optional i a (ReceiverOf Unbounded) = refl
beside h _ i a _ = refl

-- what is done to bounded channels leaves those of the kinds as they are
pub beside_bounded : (h : ChanHall) (b : Bounded) (k : Kind) → part (record h { bounded = b }) k ≡ part h k
beside_bounded h b Unbounded = refl
beside_bounded h b Oneshots = refl

-- and so does what is done to broadcast channels
pub beside_broadcasts : (h : ChanHall) (b : Broadcasts) (j : ReceiverKind) → mail (record h { broadcasts = b }) j ≡ mail h j
beside_broadcasts h b (ReceiverOf Unbounded) = refl
beside_broadcasts h b _ = refl

polled-there : (k : Kind) (a : Action) (f : ℕ) → polled_at k (ReceiverOf k) a f ≡ polled_in a f
polled-there Unbounded a f = refl
polled-there Oneshots a f = refl

ends-there : (k : Kind) (a : Action) (f : ℕ) → ends_at k (ReceiverOf k) a f ≡ ends_in a f
ends-there Unbounded a f = refl
ends-there Oneshots a f = refl

abbrev Lows : ChanHall → ℕ → Type 0
Lows h n = (k : ReceiverKind) → Low (mail h k) n

-- a poll of a receiver
at_poll : (f w : ℕ) (P : BoundedAction → Type 0) → ((v : ℕ) → v ≡ w → P (PollReceive f v)) → (a : BoundedAction) → bounded_polled a f ≡ Some w → P a
at_poll f w P here (PollReceive q v) is = let test = cond_some (q == f) v w is in subst (λ j. P (PollReceive j v)) (sym (eqb-true q f test.0)) (here v test.1)
at_poll f w P here _ is = absurd (cc)

wait_bounded : (h : ChanHall) (n i : ℕ) → Lows h n → (b : BoundedAction) (f w v : ℕ) (j : ReceiverKind) → mailboxes.placed (mail h j) f ≡ Some w → polled_at_bounded j b f ≡ Some v → (bounded_act h.bounded i b).reply ≡ answers.Pending
wait_bounded h n i lows b f w v (ReceiverOf k) placed is = absurd (cc)
wait_bounded h n i lows b f w v ReceiverOfBounded placed is = at_poll f v (λ b. (bounded_act h.bounded i b).reply ≡ answers.Pending)
    (λ u same. poll_reply h.bounded i f u ∙ waits_poll h.bounded.mail n i (lows ReceiverOfBounded) f w u placed) b is

live_bounded : (h : ChanHall) (b : BoundedAction) (f w : ℕ) (j : ReceiverKind) → bounded_cause h.bounded b ≡ None → polled_at_bounded j b f ≡ Some w → mailboxes.is_there (mail h j) f ≡ true
live_bounded h b f w (ReceiverOf k) none is = absurd (cc)
live_bounded h b f w ReceiverOfBounded none is = at_poll f w (λ b. bounded_cause h.bounded b ≡ None → mailboxes.is_there h.bounded.mail f ≡ true)
    (λ v same none. receiver_there (get h.bounded.mail.receivers f) true (known (is_receiver h.bounded.mail f true) none)) b is none

module _ (h : ChanHall) (i : ℕ) where
  module _ (a : Action) where
    -- the hall after an action on one kind
    abbrev acted : Kind → ChanHall
    acted k = with_part h k (act_in (part h k) i a).hall

    lows_acted : (n : ℕ) → Lows h n → n ≤ i → (k : Kind) (j : ReceiverKind) → Low (mail (acted k) j) (i + 1)
    lows_acted n lows later = by_kinds (λ k j. Low (mail (acted k) j) (i + 1))
        (λ k. rw there (low_after (part h k) n i (lows (ReceiverOf k)) later a)) (low_later h.oneshots n i (lows (ReceiverOf Oneshots)) later) (low_later h.unbounded n i (lows (ReceiverOf Unbounded)) later) (low_later h.bounded.mail n i (lows ReceiverOfBounded) later) (low_later h.bounded.mail n i (lows ReceiverOfBounded) later)

    -- whom an action polls or ends is of its kind
    polled_place : (f w : ℕ) → (k : Kind) (j : ReceiverKind) → polled_at k j a f ≡ Some w → (act_in (part h k) i a).reply ≡ answers.Pending → mailboxes.placed (mail (acted k) j) f ≡ Some w
    polled_place f w = by_kinds (λ k j. polled_at k j a f ≡ Some w → (act_in (part h k) i a).reply ≡ answers.Pending → mailboxes.placed (mail (acted k) j) f ≡ Some w)
        (λ k is. rw there (same_poll a f w (λ a. (act_in (part h k) i a).reply ≡ answers.Pending → mailboxes.placed (act_in (part h k) i a).hall f ≡ Some w)
        (λ v same pending. places_poll (part h k) i f v pending ∙ ap (λ u. Some u) same) (sym (polled-there k a f) ∙ is)))
        (λ is. absurd (cc)) (λ is. absurd (cc)) (λ is. absurd (cc)) (λ is. absurd (cc))

    polled_waits : (n : ℕ) → Lows h n → (f w v : ℕ) → (k : Kind) (j : ReceiverKind) → mailboxes.placed (mail h j) f ≡ Some w → polled_at k j a f ≡ Some v → (act_in (part h k) i a).reply ≡ answers.Pending
    polled_waits n lows f w v = by_kinds (λ k j. mailboxes.placed (mail h j) f ≡ Some w → polled_at k j a f ≡ Some v → (act_in (part h k) i a).reply ≡ answers.Pending)
        (λ k is polls. same_poll a f v (λ a. (act_in (part h k) i a).reply ≡ answers.Pending) (λ u same. waits_poll (part h k) n i (lows (ReceiverOf k)) f w u is) (sym (polled-there k a f) ∙ polls))
        (λ placed is. absurd (cc)) (λ placed is. absurd (cc)) (λ placed is. absurd (cc)) (λ placed is. absurd (cc))

    polled_lives : (f w : ℕ) → (k : Kind) (j : ReceiverKind) → cause_in (part h k) a ≡ None → polled_at k j a f ≡ Some w → mailboxes.is_there (mail h j) f ≡ true
    polled_lives f w = by_kinds (λ k j. cause_in (part h k) a ≡ None → polled_at k j a f ≡ Some w → mailboxes.is_there (mail h j) f ≡ true)
        (λ k allowed is. same_poll a f w (λ a. cause_in (part h k) a ≡ None → mailboxes.is_there (part h k) f ≡ true)
        (λ v same none. receiver_there (get (part h k).receivers f) true (known (is_receiver (part h k) f true) none)) (sym (polled-there k a f) ∙ is) allowed)
        (λ allowed is. absurd (cc)) (λ allowed is. absurd (cc)) (λ allowed is. absurd (cc)) (λ allowed is. absurd (cc))

    ended_gone : (n : ℕ) → Lows h n → n ≤ i → (f : ℕ) → (k : Kind) (j : ReceiverKind) → ends_at k j a f ≡ true → mailboxes.is_there (mail (acted k) j) f ≡ false
    ended_gone n lows later f = by_kinds (λ k j. ends_at k j a f ≡ true → mailboxes.is_there (mail (acted k) j) f ≡ false)
        (λ k is. rw there (ap is_some ((goes (part h k) i a).over (fresh (part h k) n i (lows (ReceiverOf k)) later) f (sym (ends-there k a f) ∙ is))))
        (λ is. absurd (cc)) (λ is. absurd (cc)) (λ is. absurd (cc)) (λ is. absurd (cc))

    module _ (n : ℕ) (lows : Lows h n) (later : n ≤ i) (f : ℕ) where
      all_kept : (w : ℕ) (k : Kind) (j : ReceiverKind) → mailboxes.placed (mail h j) f ≡ Some w → polled_at k j a f ≡ None → ends_at k j a f ≡ false
          → (mailboxes.placed (mail (acted k) j) f ≡ Some w) ⊎ Contains (act_in (part h k) i a).wakes w
      all_kept w = by_kinds (λ k j. mailboxes.placed (mail h j) f ≡ Some w → polled_at k j a f ≡ None → ends_at k j a f ≡ false
          → (mailboxes.placed (mail (acted k) j) f ≡ Some w) ⊎ Contains (act_in (part h k) i a).wakes w)
          (λ k is quiet lasts. rw there (kept_on (part h k) n i (lows (ReceiverOf k)) later a f w is (sym (polled-there k a f) ∙ quiet) (sym (ends-there k a f) ∙ lasts)))
          (λ is quiet lasts. inl is) (λ is quiet lasts. inl is) (λ is quiet lasts. inl is) (λ is quiet lasts. inl is)

      all_stay : (k : Kind) (j : ReceiverKind) → mailboxes.is_there (mail h j) f ≡ true → polled_at k j a f ≡ None → ends_at k j a f ≡ false → mailboxes.is_there (mail (acted k) j) f ≡ true
      all_stay = by_kinds (λ k j. mailboxes.is_there (mail h j) f ≡ true → polled_at k j a f ≡ None → ends_at k j a f ≡ false → mailboxes.is_there (mail (acted k) j) f ≡ true)
          (λ k is quiet lasts. rw there (stays (part h k) n i (lows (ReceiverOf k)) later a f is (sym (polled-there k a f) ∙ quiet) (sym (ends-there k a f) ∙ lasts)))
          (λ is quiet lasts. is) (λ is quiet lasts. is) (λ is quiet lasts. is) (λ is quiet lasts. is)

      all_made : (k : Kind) (j : ReceiverKind) → mailboxes.is_there (mail (acted k) j) f ≡ true → (mailboxes.is_there (mail h j) f ≡ true) ⊎ (f ≡ i)
      all_made = by_kinds (λ k j. mailboxes.is_there (mail (acted k) j) f ≡ true → (mailboxes.is_there (mail h j) f ≡ true) ⊎ (f ≡ i))
          (λ k is. made (part h k) n i (lows (ReceiverOf k)) later a f (rw there at is)) (λ is. inl is) (λ is. inl is) (λ is. inl is) (λ is. inl is)

  -- ---- what is done to bounded channels
  module _ (n : ℕ) (lows : Lows h n) (later : n ≤ i) (b : BoundedAction) where
    abbrev bounded_after : ChanHall
    bounded_after = record h { bounded = (bounded_act h.bounded i b).hall }

    abbrev at_mail : Action
    at_mail = (goes_as h.bounded i b).a

    seen_mail : (bounded_act h.bounded i b).hall.mail ≡ (act_in h.bounded.mail i at_mail).hall
    seen_mail = (goes_as h.bounded i b).sees.hall

    low_bounded : (j : ReceiverKind) → Low (mail bounded_after j) (i + 1)
    low_bounded (ReceiverOf k) = rw beside_bounded (low_later (part h k) n i (lows (ReceiverOf k)) later)
    low_bounded ReceiverOfBounded = rw seen_mail (low_after h.bounded.mail n i (lows ReceiverOfBounded) later at_mail)

    kept_bounded : (f w : ℕ) (j : ReceiverKind) → mailboxes.placed (mail h j) f ≡ Some w → polled_at_bounded j b f ≡ None → ends_at_bounded j b f ≡ false
        → (mailboxes.placed (mail bounded_after j) f ≡ Some w) ⊎ Contains (bounded_act h.bounded i b).wakes w
    kept_bounded f w (ReceiverOf k) is quiet lasts = inl (ap (λ p. mailboxes.placed p f) (beside_bounded h (bounded_act h.bounded i b).hall k) ∙ is)
    kept_bounded f w ReceiverOfBounded is quiet lasts = elim (kept_on h.bounded.mail n i (lows ReceiverOfBounded) later at_mail f w is (sym ((goes_as h.bounded i b).polled f) ∙ quiet) (sym ((goes_as h.bounded i b).ends f) ∙ lasts)) [
      | inl stays ↦ inl (ap (λ p. mailboxes.placed p f) seen_mail ∙ stays)
      | inr woken ↦ inr ((goes_as h.bounded i b).sees.wakes w woken)
    ]

    stays_bounded : (f : ℕ) (j : ReceiverKind) → mailboxes.is_there (mail h j) f ≡ true → polled_at_bounded j b f ≡ None → ends_at_bounded j b f ≡ false → mailboxes.is_there (mail bounded_after j) f ≡ true
    stays_bounded f (ReceiverOf k) is quiet lasts = ap (λ p. mailboxes.is_there p f) (beside_bounded h (bounded_act h.bounded i b).hall k) ∙ is
    stays_bounded f ReceiverOfBounded is quiet lasts =
        ap (λ p. mailboxes.is_there p f) seen_mail ∙ stays h.bounded.mail n i (lows ReceiverOfBounded) later at_mail f is (sym ((goes_as h.bounded i b).polled f) ∙ quiet) (sym ((goes_as h.bounded i b).ends f) ∙ lasts)

    made_bounded : (f : ℕ) (j : ReceiverKind) → mailboxes.is_there (mail bounded_after j) f ≡ true → (mailboxes.is_there (mail h j) f ≡ true) ⊎ (f ≡ i)
    made_bounded f (ReceiverOf k) is = inl (ap (λ p. mailboxes.is_there p f) (sym (beside_bounded h (bounded_act h.bounded i b).hall k)) ∙ is)
    made_bounded f ReceiverOfBounded is = made h.bounded.mail n i (lows ReceiverOfBounded) later at_mail f (ap (λ p. mailboxes.is_there p f) (sym seen_mail) ∙ is)

    gone_bounded : (f : ℕ) (j : ReceiverKind) → ends_at_bounded j b f ≡ true → mailboxes.is_there (mail bounded_after j) f ≡ false
    gone_bounded f (ReceiverOf k) is = absurd (cc)
    gone_bounded f ReceiverOfBounded is =
        ap (λ p. mailboxes.is_there p f) seen_mail ∙ ap is_some ((goes h.bounded.mail i at_mail).over (fresh h.bounded.mail n i (lows ReceiverOfBounded) later) f (sym ((goes_as h.bounded i b).ends f) ∙ is))

    place_bounded : (f w : ℕ) (j : ReceiverKind) → polled_at_bounded j b f ≡ Some w → (bounded_act h.bounded i b).reply ≡ answers.Pending → mailboxes.placed (mail bounded_after j) f ≡ Some w
    place_bounded f w (ReceiverOf k) is = absurd (cc)
    place_bounded f w ReceiverOfBounded is = at_poll f w (λ b. (bounded_act h.bounded i b).reply ≡ answers.Pending → mailboxes.placed (bounded_act h.bounded i b).hall.mail f ≡ Some w)
        (λ v same pending. ap (λ p. mailboxes.placed p f) (poll_hall h.bounded i f v) ∙ places_poll h.bounded.mail i f v (sym (poll_reply h.bounded i f v) ∙ pending) ∙ ap (λ u. Some u) same) b is

  -- ---- of every meaning
  lows_after : (n : ℕ) → Lows h n → n ≤ i → (m : Meaning) (j : ReceiverKind) → Low (mail (step_by h i m).hall j) (i + 1)
  lows_after n lows later (OfChannels k a) j = lows_acted a n lows later k j
  lows_after n lows later (OfBounded b) j = low_bounded n lows later b j
  lows_after n lows later (OfBroadcasts a) j = rw beside_broadcasts (low_later (mail h j) n i (lows j) later)
  lows_after n lows later (OfBoxes k a) j = rw beside (low_later (mail h j) n i (lows j) later)

pub lows : (r : RunOf chans_family) → IsRun chans_family r → Lows r.hall r.next
lows _ Starts = λ k. at k
  where
    none : Low mailboxes.no_mailboxes 0
    none = record {
      lows = λ o c is. absurd (nothing_at Mailbox o c is);
      below = λ r x is. absurd (nothing_at Receiver r x is);
      one = λ r q x y is. absurd (nothing_at Receiver r x is);
      awake = λ o c is. absurd (nothing_at Mailbox o c is);
    }

    at : (k : ReceiverKind) → Low (mail empty_hall k) 0
    at (ReceiverOf Unbounded) = none
    at _ = none
lows _ (GoesOn r i e runs later cause) = λ j. lows_after r.hall i r.next (lows r runs) later (meaning_of e) j

module _ (r : RunOf chans_family) (i : ℕ) (runs : IsRun chans_family r) (later : r.next ≤ i) (j : ReceiverKind) (g : ℕ) where
  places : (m : Meaning) (w : ℕ) → receiver_polled_by m j g ≡ Some w → (step_by r.hall i m).reply ≡ answers.Pending → mailboxes.placed (mail (step_by r.hall i m).hall j) g ≡ Some w
  places (OfChannels k a) w is pending = polled_place r.hall i a g w k j is pending
  places (OfBounded b) w is pending = place_bounded r.hall i r.next (lows r runs) later b g w j is pending
  places _ w is pending = absurd (cc)

  wakes : (m : Meaning) (w : ℕ) → mailboxes.placed (mail r.hall j) g ≡ Some w → receiver_polled_by m j g ≡ None → receiver_ended_by m j g ≡ false
      → (mailboxes.placed (mail (step_by r.hall i m).hall j) g ≡ Some w) ⊎ Contains (step_by r.hall i m).wakes w
  wakes (OfChannels k a) w is quiet lasts = all_kept r.hall i a r.next (lows r runs) later g w k j is quiet lasts
  wakes (OfBounded b) w is quiet lasts = kept_bounded r.hall i r.next (lows r runs) later b g w j is quiet lasts
  wakes (OfBroadcasts a) w is quiet lasts = inl (ap (λ p. mailboxes.placed p g) (beside_broadcasts r.hall (broadcast_act r.hall.broadcasts i a).hall j) ∙ is)
  wakes (OfBoxes k a) w is quiet lasts = inl (ap (λ p. mailboxes.placed p g) (beside r.hall k i a j) ∙ is)

  lives_on : (m : Meaning) → mailboxes.is_there (mail r.hall j) g ≡ true → receiver_polled_by m j g ≡ None → receiver_ended_by m j g ≡ false → mailboxes.is_there (mail (step_by r.hall i m).hall j) g ≡ true
  lives_on (OfChannels k a) is quiet lasts = all_stay r.hall i a r.next (lows r runs) later g k j is quiet lasts
  lives_on (OfBounded b) is quiet lasts = stays_bounded r.hall i r.next (lows r runs) later b g j is quiet lasts
  lives_on (OfBroadcasts a) is quiet lasts = ap (λ p. mailboxes.is_there p g) (beside_broadcasts r.hall (broadcast_act r.hall.broadcasts i a).hall j) ∙ is
  lives_on (OfBoxes k a) is quiet lasts = ap (λ p. mailboxes.is_there p g) (beside r.hall k i a j) ∙ is

  is_gone : (m : Meaning) → receiver_ended_by m j g ≡ true → mailboxes.is_there (mail (step_by r.hall i m).hall j) g ≡ false
  is_gone (OfChannels k a) is = ended_gone r.hall i a r.next (lows r runs) later g k j is
  is_gone (OfBounded b) is = gone_bounded r.hall i r.next (lows r runs) later b g j is
  is_gone _ is = absurd (cc)

  is_made : (m : Meaning) → mailboxes.is_there (mail (step_by r.hall i m).hall j) g ≡ true → (mailboxes.is_there (mail r.hall j) g ≡ true) ⊎ (g ≡ i)
  is_made (OfChannels k a) is = all_made r.hall i a r.next (lows r runs) later g k j is
  is_made (OfBounded b) is = made_bounded r.hall i r.next (lows r runs) later b g j is
  is_made (OfBroadcasts a) is = inl (ap (λ p. mailboxes.is_there p g) (sym (beside_broadcasts r.hall (broadcast_act r.hall.broadcasts i a).hall j)) ∙ is)
  is_made (OfBoxes k a) is = inl (ap (λ p. mailboxes.is_there p g) (sym (beside r.hall k i a j)) ∙ is)

waits_on_poll : (r : RunOf chans_family) (i : ℕ) → IsRun chans_family r → (j : ReceiverKind) (g : ℕ) (m : Meaning) (w v : ℕ) → mailboxes.placed (mail r.hall j) g ≡ Some w → receiver_polled_by m j g ≡ Some v → (step_by r.hall i m).reply ≡ answers.Pending
waits_on_poll r i runs j g (OfChannels k a) w v is polls = polled_waits r.hall i a r.next (lows r runs) g w v k j is polls
waits_on_poll r i runs j g (OfBounded b) w v is polls = wait_bounded r.hall r.next i (lows r runs) b g w v j is polls
waits_on_poll r i runs j g _ w v is polls = absurd (cc)

polls : (h : ChanHall) (m : Meaning) (j : ReceiverKind) (g : ℕ) (w : ℕ) → cause_by h m ≡ None → receiver_polled_by m j g ≡ Some w → mailboxes.is_there (mail h j) g ≡ true
polls h (OfChannels k a) j g w none is = polled_lives h 0 a g w k j none is
polls h (OfBounded b) j g w none is = live_bounded h b g w j none is
polls h _ j g w none is = absurd (cc)

-- ---- the futures of broadcast channels
pub broadcasts_kept : (r : RunOf chans_family) → IsRun chans_family r → AreKept r.hall.broadcasts r.next
broadcasts_kept _ Starts = none_kept
broadcasts_kept _ (GoesOn r i e runs later cause) = at (meaning_of e) cause (broadcasts_kept r runs)
  where
    at : (m : Meaning) → cause_by r.hall m ≡ None → AreKept r.hall.broadcasts r.next → AreKept (step_by r.hall i m).hall.broadcasts (i + 1)
    at (OfBroadcasts a) allowed before = kept_after r.hall.broadcasts r.next i before later a allowed
    at (OfChannels Unbounded a) allowed before = rests r.hall.broadcasts r.next i before later
    at (OfBoxes Full a) allowed before = rests r.hall.broadcasts r.next i before later
    at _ allowed before = rests r.hall.broadcasts r.next i before later

hearing_waits_on : (h : ChanHall) (n i : ℕ) → AreKept h.broadcasts n → (f : ℕ) (m : Meaning) (w v : ℕ) → broadcasts.placed h.broadcasts f ≡ Some w → hearing_polled_by m f ≡ Some v → (step_by h i m).reply ≡ answers.Pending
hearing_waits_on h n i k f (OfBroadcasts a) w v is polls = hearing_waits h.broadcasts n i k a f w v is polls
hearing_waits_on h n i k f _ w v is polls = absurd (cc)

module _ (h : ChanHall) (n i : ℕ) (k : AreKept h.broadcasts n) (later : n ≤ i) (f : ℕ) where
  hearing_places : (m : Meaning) (w : ℕ) → hearing_polled_by m f ≡ Some w → (step_by h i m).reply ≡ answers.Pending → broadcasts.placed (step_by h i m).hall.broadcasts f ≡ Some w
  hearing_places (OfBroadcasts a) w is pending = hearing_placed h.broadcasts n i k later a f w is pending
  hearing_places _ w is pending = absurd (cc)

  hearing_wakes : (m : Meaning) → cause_by h m ≡ None → (w : ℕ) → broadcasts.placed h.broadcasts f ≡ Some w → hearing_polled_by m f ≡ None → hearing_ended_by m f ≡ false
      → (broadcasts.placed (step_by h i m).hall.broadcasts f ≡ Some w) ⊎ Contains (step_by h i m).wakes w
  hearing_wakes (OfBroadcasts a) allowed w is quiet lasts = hearing_kept h.broadcasts n i k later a allowed f w is quiet lasts
  hearing_wakes (OfChannels Unbounded a) allowed w is quiet lasts = inl is
  hearing_wakes (OfBoxes Full a) allowed w is quiet lasts = inl is
  hearing_wakes _ allowed w is quiet lasts = inl is

  hearing_lives : (m : Meaning) → cause_by h m ≡ None → broadcasts.is_hearing h.broadcasts f ≡ true → hearing_polled_by m f ≡ None → hearing_ended_by m f ≡ false → broadcasts.is_hearing (step_by h i m).hall.broadcasts f ≡ true
  hearing_lives (OfBroadcasts a) allowed is quiet lasts = hearing_stays h.broadcasts n i k later a allowed f is quiet lasts
  hearing_lives (OfChannels Unbounded a) allowed is quiet lasts = is
  hearing_lives (OfBoxes Full a) allowed is quiet lasts = is
  hearing_lives _ allowed is quiet lasts = is

  hearing_ends : (m : Meaning) → cause_by h m ≡ None → hearing_ended_by m f ≡ true → broadcasts.is_hearing (step_by h i m).hall.broadcasts f ≡ false
  hearing_ends (OfBroadcasts a) allowed is = hearing_gone h.broadcasts n i k later a allowed f is
  hearing_ends _ allowed is = absurd (cc)

  hearing_is_made : (m : Meaning) → cause_by h m ≡ None → broadcasts.is_hearing (step_by h i m).hall.broadcasts f ≡ true → (broadcasts.is_hearing h.broadcasts f ≡ true) ⊎ (f ≡ i)
  hearing_is_made (OfBroadcasts a) allowed is = hearing_made h.broadcasts n i k later a allowed f is
  hearing_is_made (OfChannels Unbounded a) allowed is = inl is
  hearing_is_made (OfBoxes Full a) allowed is = inl is
  hearing_is_made _ allowed is = inl is

hearing_polls : (h : ChanHall) (m : Meaning) (f w : ℕ) → cause_by h m ≡ None → hearing_polled_by m f ≡ Some w → broadcasts.is_hearing h.broadcasts f ≡ true
hearing_polls h (OfBroadcasts a) f w none is = hearing_there h.broadcasts a f w none is
hearing_polls h _ f w none is = absurd (cc)

-- ---- both
of_each : (P : Future → Type 0) → ((j : ReceiverKind) (g : ℕ) → P (Receives j g)) → ((f : ℕ) → P (Hears f)) → (f : Future) → P f
of_each P receiver hearing (Receives j g) = receiver j g
of_each P receiver hearing (Hears f) = hearing f

pub keeps : KeepsWakers chans_family
keeps = record {
  places = λ r i e runs later cause f. of_each (λ f. (w : ℕ) → polled e f ≡ Some w → (step r.hall i e).reply ≡ answers.Pending → placed (step r.hall i e).hall f ≡ Some w)
      (λ j g w is pending. places r i runs later j g (meaning_of e) w is pending) (λ g w is pending. hearing_places r.hall r.next i (broadcasts_kept r runs) later g (meaning_of e) w is pending) f;
  waits = λ r i e runs f. of_each (λ f. (w v : ℕ) → lives r.hall f ≡ true → placed r.hall f ≡ Some w → polled e f ≡ Some v → (step r.hall i e).reply ≡ answers.Pending)
      (λ j g w v lives is polled. waits_on_poll r i runs j g (meaning_of e) w v is polled) (λ g w v lives is polled. hearing_waits_on r.hall r.next i (broadcasts_kept r runs) g (meaning_of e) w v is polled) f;
  wakes = λ r i e runs later cause f. of_each (λ f. (w : ℕ) → lives r.hall f ≡ true → placed r.hall f ≡ Some w → polled e f ≡ None → ends e f ≡ false → (placed (step r.hall i e).hall f ≡ Some w) ⊎ Contains (step r.hall i e).wakes w)
      (λ j g w lives is quiet lasts. wakes r i runs later j g (meaning_of e) w is quiet lasts) (λ g w lives is quiet lasts. hearing_wakes r.hall r.next i (broadcasts_kept r runs) later g (meaning_of e) cause w is quiet lasts) f;
  stays = λ r i e runs later cause f. of_each (λ f. lives r.hall f ≡ true → polled e f ≡ None → ends e f ≡ false → lives (step r.hall i e).hall f ≡ true)
      (λ j g lives quiet lasts. lives_on r i runs later j g (meaning_of e) lives quiet lasts) (λ g lives quiet lasts. hearing_lives r.hall r.next i (broadcasts_kept r runs) later g (meaning_of e) cause lives quiet lasts) f;
  goes = λ r i e runs later cause f. of_each (λ f. ends e f ≡ true → lives (step r.hall i e).hall f ≡ false)
      (λ j g ended. is_gone r i runs later j g (meaning_of e) ended) (λ g ended. hearing_ends r.hall r.next i (broadcasts_kept r runs) later g (meaning_of e) cause ended) f;
}

names : NamesFutures chans_family
names = record {
  polls = λ h e cause f. of_each (λ f. (w : ℕ) → polled e f ≡ Some w → lives h f ≡ true) (λ j g w is. polls h (meaning_of e) j g w cause is) (λ g w is. hearing_polls h (meaning_of e) g w cause is) f;
  below = λ r runs f. of_each (λ f. lives r.hall f ≡ true → name f < r.next)
      (λ j g lives. let x = value_in (get (mail r.hall j).receivers g) lives in ((lows r runs j).below g x.0 x.1).0) (λ g lives. hearing_below r.hall.broadcasts r.next r.next (broadcasts_kept r runs) (omega arith) g lives) f;
  made = λ r i e runs later cause f. of_each (λ f. lives (step r.hall i e).hall f ≡ true → (lives r.hall f ≡ true) ⊎ (name f ≡ i))
      (λ j g lives. is_made r i runs later j g (meaning_of e) lives) (λ g lives. hearing_is_made r.hall r.next i (broadcasts_kept r runs) later g (meaning_of e) cause lives) f;
}

pub no_wake_is_lost : (r : RunOf chans_family) → IsRun chans_family r → LosesNoWake chans_family r
no_wake_is_lost r runs = loses_no_wake chans_family keeps names r runs

-- ---- how many wakers are registered
counts : (h : Mailboxes) (i : ℕ) (a : Action) → (length (act_in h i a).wakes ≤ mailboxes.registered h) × (mailboxes.registered (act_in h i a).hall + length (act_in h i a).wakes ≤ mailboxes.registered h + cond (registers_in a) 1 0)
counts h i a = at _ _ (goes h i a).channels
  where
    at : (cs : Names Mailbox) (ws : List ℕ) → ChannelsGo h i (goes h i a).k (cond (registers_in a) 1 0) cs ws
        → (length ws ≤ total (λ o c. kept c) h.channels) × (total (λ o c. kept c) cs + length ws ≤ total (λ o c. kept c) h.channels + cond (registers_in a) 1 0)
    at _ _ Same = (omega arith, omega arith)
    at _ _ (At o c None ws there becomes keeps) =
        let here : weight (λ o (c : Mailbox). kept c) o (get h.channels o) ≡ kept c = ap (weight (λ o (c : Mailbox). kept c) o) there in
        (omega (arith, becomes.most, total-has (λ o (c : Mailbox). kept c) h.channels o c there), omega (arith, here, total-remove (λ o (c : Mailbox). kept c) h.channels o, becomes.fits))
    at _ _ (At o c (Some d) ws there becomes keeps) =
        let here : weight (λ o (c : Mailbox). kept c) o (get h.channels o) ≡ kept c = ap (weight (λ o (c : Mailbox). kept c) o) there in
        (omega (arith, becomes.most, total-has (λ o (c : Mailbox). kept c) h.channels o c there), omega (arith, here, total-insert (λ o (c : Mailbox). kept c) h.channels o d, becomes.fits))
    at _ _ Made = (omega arith, omega (arith, total-insert (λ o (c : Mailbox). kept c) h.channels i new_mailbox))

-- nothing that is done to boxes wakes anybody
pub box_quiet : (h : Boxes) (i : ℕ) (a : BoxAction) → (box_act h i a).wakes ≡ []
box_quiet h i (MakeBox c) = refl
box_quiet h i _ = by_found (λ o. o.wakes ≡ []) _ h _ refl (λ x is. refl)

-- a bounded action, by what it does to the mailboxes and to the rooms
both_counted : (h : Bounded) (i : ℕ) (a : Action) (rs : Names Room) (ws : List ℕ) (extra : ℕ) → Rooms h.rooms rs ws extra
    → (length (act_in h.mail i a).wakes + length ws ≤ bounded.registered h)
    × (mailboxes.registered (act_in h.mail i a).hall + named_queue.registered waiting_at rs + (length (act_in h.mail i a).wakes + length ws) ≤ bounded.registered h + (cond (registers_in a) 1 0 + extra))
both_counted h i a rs ws extra rooms = let c = counts h.mail i a in (omega (arith, c.0, rooms.most), omega (arith, c.1, rooms.grows))

abbrev Counts : Bounded → Outcome Bounded → ℕ → Type 0
Counts h out extra = (length out.wakes ≤ bounded.registered h) × (bounded.registered out.hall + length out.wakes ≤ bounded.registered h + extra)

module _ (h : Bounded) (i : ℕ) where
  still_counts : (reply : _) (extra : ℕ) → Counts h (quietly h reply) extra
  still_counts reply extra = (omega arith, omega arith)

  mail_counts : (a : Action) → Counts h (bounded.in_mail h (act_in h.mail i a)) (cond (registers_in a) 1 0)
  mail_counts a = let c = counts h.mail i a in (omega (arith, c.0), omega (arith, c.1))

  received_counts : (o : ℕ) (a : Action) → Counts h (bounded.received h o (act_in h.mail i a)) (cond (registers_in a) 1 0)
  received_counts o a = by_if (λ out. Counts h out (cond (registers_in a) 1 0)) (is_got (act_in h.mail i a).reply) _ _
      (λ got.
      let c = both_counted h i a _ _ 0 (at_room_counted h.rooms o 0 0 (granted 1) (woken_by_grant 1) (granted_local 1)) in
      let all = length-append (act_in h.mail i a).wakes (woken_at h.rooms o (woken_by_grant 1)) in
      (omega (arith, c.0, all), omega (arith, c.1, all)))
      (λ other. mail_counts a)

  polls_send_counts : (f w : ℕ) (x : BoundedSend) → Counts h (if is_full h x.channel then bounded.pends h f w x else bounded.answered h f x (act_in h.mail i (actions.Send x.sender x.value))) 1
  polls_send_counts f w x = by_if (λ out. Counts h out 1) (is_full h x.channel) _ _
      (λ full. let c = no_wake h.rooms _ x.channel 1 (at_room_counted h.rooms x.channel f 1 (joined f w) (λ r. []) (joined_local f w)) in (omega arith, omega (arith, c.grows)))
      (λ room. let c = both_counted h i (actions.Send x.sender x.value) _ _ 0 (no_wake h.rooms _ x.channel 0 (at_room_counted h.rooms x.channel f 0 (left_by f) (λ r. []) (left_local f))) in (omega (arith, c.0), omega (arith, c.1)))

  ends_send_counts : (f : ℕ) (x : BoundedSend) (p : Option Room) → get h.rooms x.channel ≡ p → Counts h (bounded.end_send h f x p) 0
  ends_send_counts f x None is = (omega arith, omega arith)
  ends_send_counts f x (Some r) is = by_if (λ out. Counts h out 0) (waits (waiting_at r) f) _ _
      (λ waiting. let c = counted_put waiting_at h.rooms x.channel r (record r { queue = leaving r.queue f }) [] f 0 0 is (rw (who-leaving r.queue f) (local_without (who r.queue) f)) (omega arith) in (omega arith, omega (arith, c.grows)))
      (λ other. by_if (λ out. Counts h out 0) x.polled _ _
      (λ polled. let c = counted_put waiting_at h.rooms x.channel r (granted 1 r) (woken_by_grant 1 r) 0 0 0 is (granted_local 1 r) (omega arith) in (omega (arith, c.most), omega (arith, c.grows)))
      (λ new. (omega arith, omega arith)))

  bounded_counts : (b : BoundedAction) → Counts h (bounded_act h i b) (cond (bounded_registers b) 1 0)
  bounded_counts (bounded_actions.Make n) = let c = both_counted h i (actions.Make true) _ _ 0 (counted_made waiting_at h.rooms i (record { capacity = n; queue = [] }) 0 refl) in (omega (arith, c.0), omega (arith, c.1))
  bounded_counts (CopySender s) = mail_counts (actions.Copy s)
  bounded_counts (TrySend s v) = by_found (λ out. Counts h out 0) (get h.mail.senders s) h _ (still_counts answers.Done 0)
      (λ o is. by_if (λ out. Counts h out 0) (is_full h o) _ _ (λ full. still_counts (answers.Full v) 0) (λ room. mail_counts (actions.Send s v)))
  bounded_counts (BeginSend s v) = by_found (λ out. Counts h out 0) (get h.mail.senders s) h _ (still_counts answers.Done 0) (λ o is. (omega arith, omega arith))
  bounded_counts (PollSend f w) = by_found (λ out. Counts h out 1) (get h.sends f) h _ (still_counts answers.Done 1) (λ x is. polls_send_counts f w x)
  bounded_counts (EndSend f) = by_found (λ out. Counts h out 0) (get h.sends f) h _ (still_counts answers.Done 0) (λ x is. ends_send_counts f x (get h.rooms x.channel) refl)
  bounded_counts (TryReceive r) = by_found (λ out. Counts h out 0) (get h.mail.receivers r) h _ (still_counts answers.Done 0) (λ x is. received_counts x.channel (actions.Receive r true))
  bounded_counts (PollReceive r w) = by_found (λ out. Counts h out 1) (get h.mail.receivers r) h _ (still_counts answers.Done 1) (λ x is. received_counts x.channel (actions.Poll r w))
  bounded_counts (bounded_actions.EndSender s) = by_found (λ out. Counts h out 0) (get h.mail.senders s) h _ (still_counts answers.Done 0)
      (λ o is. let c = both_counted h i (actions.EndSender s) _ _ 0 (tidied_counted h.rooms h.rooms o [] (is_channel (act_in h.mail i (actions.EndSender s)).hall o) 0 (counted_same waiting_at h.rooms 0)) in (omega (arith, c.0), omega (arith, c.1)))
  bounded_counts (bounded_actions.EndReceiver r) = by_found (λ out. Counts h out 0) (get h.mail.receivers r) h _ (still_counts answers.Done 0)
      (λ x is.
      let all = at_room_counted h.rooms x.channel 0 0 all_granted all_woken (λ r. granted_local (lacks r.queue) r) in
      let out = act_in h.mail i (actions.EndReceiver r true false) in
      let c = both_counted h i (actions.EndReceiver r true false) _ _ 0 (tidied_counted h.rooms _ x.channel _ (is_channel out.hall x.channel) 0 all) in
      let sum = length-append out.wakes (woken_at h.rooms x.channel all_woken) in
      (omega (arith, c.0, sum), omega (arith, c.1, sum)))

pub counted : (h : ChanHall) (i : ℕ) (e : ChanEvent) → (length (step h i e).wakes ≤ registered h) × (registered (step h i e).hall + length (step h i e).wakes ≤ registered h + cond (registers e) 1 0)
counted h i e = at (meaning_of e)
  where
    at_boxes : (k : BoxKind) (a : BoxAction) → (length (box_act (boxes_of h k) i a).wakes ≤ registered h)
        × (registered (with_boxes h k (box_act (boxes_of h k) i a).hall) + length (box_act (boxes_of h k) i a).wakes ≤ registered h + 0)
    at_boxes Full a = let none = ap length (box_quiet h.boxes i a) in (omega (arith, none), omega (arith, none))
    at_boxes Optional a = let none = ap length (box_quiet h.option_boxes i a) in (omega (arith, none), omega (arith, none))

    at : (m : Meaning) → (length (step_by h i m).wakes ≤ registered h) × (registered (step_by h i m).hall + length (step_by h i m).wakes ≤ registered h + cond (registers_by m) 1 0)
    at (OfChannels Unbounded a) = let c = counts h.unbounded i a in (omega (arith, c.0), omega (arith, c.1))
    at (OfChannels Oneshots a) = let c = counts h.oneshots i a in (omega (arith, c.0), omega (arith, c.1))
    at (OfBounded b) = let c = bounded_counts h.bounded i b in (omega (arith, c.0), omega (arith, c.1))
    at (OfBroadcasts a) = let c = broadcast_counts h.broadcasts i a in (omega (arith, c.most), omega (arith, c.grows))
    at (OfBoxes k a) = at_boxes k a

pub extra-least : (b : Bool) → cond b 1 0 ≤ 1
extra-least true = omega arith
extra-least false = omega arith
