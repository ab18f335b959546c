-- what is done to bounded channels is, to their mailboxes, what an action on mailboxes does
use Rattle.std.proofs.Common.{◌≡◌, ℕ, Bool, true, false, List, [], ◌∷◌, length, Option, Some, None, if◌then◌else◌, refl, ap, sym, subst, ◌∙◌, arith}
use Rattle.std.specs.List.{Contains}
use Rattle.std.specs.FinMap.{get}
use Rattle.std.proofs.lemmas.List.Elements.{Contains-append_left}
use Rattle.mea_family.specs.declared.answer.Answer.TheVariants as answers
use Rattle.mea_family.specs.Family.{Outcome, quietly}
use Rattle.mea_base.proofs.Totals.{total-remove}
use Rattle.mea_by_name.specs.ByName.{Names}
use Rattle.mea_by_name.specs.NamedQueue.{waits}
use Rattle.mea_family.specs.Play.{found}
use Rattle.mea_by_name.proofs.Cases.{by_found, by_if}
use Rattle.mea_by_name.proofs.NamedQueues.{Local, local_without, local_same}
use Rattle.mea_by_name.proofs.LackingQueues.{local_poured, local_pushed, local_rewoken, who-leaving}
use Rattle.mea_by_name.specs.LackingQueue.{who}
use Rattle.mea_by_name.proofs.OneObject.{Counted, counted_same, counted_put}
use Rattle.mea_chan_model.specs.Mailboxes as mailboxes
use Rattle.mea_chan_model.specs.Mailboxes.{Mailboxes, Receiver}
use Rattle.mea_chan_model.specs.MailboxActions as actions
use Rattle.mea_chan_model.specs.MailboxActions.{Action, act_in, polled_in, ends_in}
use Rattle.mea_chan_model.specs.Bounded as bounded
use Rattle.mea_chan_model.specs.Bounded.{Bounded, Room, BoundedSend, waiting_at, is_full, is_got, at_room, at_room_in, woken_at, woken_in, granted, woken_by_grant, all_woken, joined, left_by, tidied_rooms}
use Rattle.mea_chan_model.specs.BoundedActions.{BoundedAction, Make, CopySender, TrySend, BeginSend, PollSend, EndSend, TryReceive, PollReceive, EndSender, EndReceiver, bounded_act, bounded_polled, bounded_ends}

-- an action that does nothing
abbrev nothing : Action
nothing = actions.TellClosed 0

nothing_done : (h : Mailboxes) (i : ℕ) → (act_in h i nothing).hall ≡ h
nothing_done h i = by_found (λ o. o.hall ≡ h) (get h.senders 0) h _ refl (λ o sender. by_found (λ o. o.hall ≡ h) (get h.channels o) h _ refl (λ c there. refl))

nothing_woken : (h : Mailboxes) (i : ℕ) → (act_in h i nothing).wakes ≡ []
nothing_woken h i = by_found (λ o. o.wakes ≡ []) (get h.senders 0) h _ refl (λ o sender. by_found (λ o. o.wakes ≡ []) (get h.channels o) h _ refl (λ c there. refl))

module _ (h : Bounded) (i : ℕ) where
  -- what an action on the mailboxes did is seen, and so are its wakes and its reply
  pub record Sees (out : Outcome Bounded) (a : Action) : Type 0 where
    pub hall : out.hall.mail ≡ (act_in h.mail i a).hall
    pub wakes : (w : ℕ) → Contains (act_in h.mail i a).wakes w → Contains out.wakes w

  -- a bounded action is, to the mailboxes, such an action
  pub record GoesAs (b : BoundedAction) : Type 0 where
    pub a : Action
    pub sees : Sees (bounded_act h i b) a
    pub polled : (r : ℕ) → bounded_polled b r ≡ polled_in a r
    pub ends : (r : ℕ) → bounded_ends b r ≡ ends_in a r

  sees_nothing : (out : Outcome Bounded) → out.hall.mail ≡ h.mail → Sees out nothing
  sees_nothing out same = record { hall = same ∙ sym (nothing_done h.mail i); wakes = λ w is. absurd (none_there (act_in h.mail i nothing).wakes (nothing_woken h.mail i) w is) }
    where
      none_there : (ws : List ℕ) → ws ≡ [] → (w : ℕ) → Contains ws w → ⊥
      none_there [] none w is = absurd (let few = is.1 in omega arith)
      none_there (v ∷ ws) none w is = absurd (cc)

  sees_all : (out : Outcome Bounded) (a : Action) → out.hall.mail ≡ (act_in h.mail i a).hall → out.wakes ≡ (act_in h.mail i a).wakes → Sees out a
  sees_all out a hall wakes = record { hall = hall; wakes = λ w is. subst (λ ws. Contains ws w) (sym wakes) is }

  -- where a receiver is not there, an action by it does nothing
  by_receiver : (r : ℕ) (act : Receiver → Outcome Bounded) (a : Action) → (get h.mail.receivers r ≡ None → act_in h.mail i a ≡ quietly h.mail answers.Done) → ((x : Receiver) → Sees (act x) a) → Sees (found (get h.mail.receivers r) h act) a
  by_receiver r act a none some = at (get h.mail.receivers r) refl
    where
      at : (p : Option Receiver) → get h.mail.receivers r ≡ p → Sees (found p h act) a
      at None is = sees_all (quietly h answers.Done) a (sym (ap (λ (o : Outcome Mailboxes). o.hall) (none is))) (sym (ap (λ (o : Outcome Mailboxes). o.wakes) (none is)))
      at (Some x) is = some x

  sees_received : (o : ℕ) (a : Action) → Sees (bounded.received h o (act_in h.mail i a)) a
  sees_received o a = by_if (λ out. Sees out a) (is_got (act_in h.mail i a).reply) _ _
      (λ got. record { hall = refl; wakes = λ w is. Contains-append_left (act_in h.mail i a).wakes (woken_at h.rooms o (woken_by_grant 1)) w is }) (λ other. sees_all _ a refl refl)

  -- a sender that is there sends, or not
  sends : (s v : ℕ) → GoesAs (TrySend s v)
  sends s v = at (get h.mail.senders s) refl
    where
      try : Option ℕ → Outcome Bounded
      try p = found p h (λ o. if is_full h o then quietly h (answers.Full v) else bounded.in_mail h (act_in h.mail i (actions.Send s v)))

      branch : Bool → Outcome Bounded
      branch b = if b then quietly h (answers.Full v) else bounded.in_mail h (act_in h.mail i (actions.Send s v))

      goes_by : (a : Action) → ((r : ℕ) → polled_in a r ≡ None) → ((r : ℕ) → ends_in a r ≡ false) → Sees (try (get h.mail.senders s)) a → GoesAs (TrySend s v)
      goes_by a quiet lasts sees = record { a = a; sees = sees; polled = λ r. sym (quiet r); ends = λ r. sym (lasts r) }

      at : (p : Option ℕ) → get h.mail.senders s ≡ p → GoesAs (TrySend s v)
      at None is = goes_by nothing (λ r. refl) (λ r. refl) (subst (λ p. Sees (try p) nothing) (sym is) (sees_nothing (quietly h answers.Done) refl))
      at (Some o) is = by_full (is_full h o) refl
        where
          by_full : (b : Bool) → is_full h o ≡ b → GoesAs (TrySend s v)
          by_full true full = goes_by nothing (λ r. refl) (λ r. refl) (subst (λ p. Sees (try p) nothing) (sym is) (subst (λ b. Sees (branch b) nothing) (sym full) (sees_nothing (quietly h (answers.Full v)) refl)))
          by_full false room = goes_by (actions.Send s v) (λ r. refl) (λ r. refl)
              (subst (λ p. Sees (try p) (actions.Send s v)) (sym is) (subst (λ b. Sees (branch b) (actions.Send s v)) (sym room) (sees_all (bounded.in_mail h (act_in h.mail i (actions.Send s v))) (actions.Send s v) refl refl)))

  polls_send : (f w : ℕ) → GoesAs (PollSend f w)
  polls_send f w = at (get h.sends f) refl
    where
      poll : Option BoundedSend → Outcome Bounded
      poll p = found p h (λ x. if is_full h x.channel then bounded.pends h f w x else bounded.answered h f x (act_in h.mail i (actions.Send x.sender x.value)))

      goes_by : (a : Action) → ((r : ℕ) → polled_in a r ≡ None) → ((r : ℕ) → ends_in a r ≡ false) → Sees (poll (get h.sends f)) a → GoesAs (PollSend f w)
      goes_by a quiet lasts sees = record { a = a; sees = sees; polled = λ r. sym (quiet r); ends = λ r. sym (lasts r) }

      at : (p : Option BoundedSend) → get h.sends f ≡ p → GoesAs (PollSend f w)
      at None is = goes_by nothing (λ r. refl) (λ r. refl) (subst (λ p. Sees (poll p) nothing) (sym is) (sees_nothing (quietly h answers.Done) refl))
      at (Some x) is = by_full (is_full h x.channel) refl
        where
          branch : Bool → Outcome Bounded
          branch b = if b then bounded.pends h f w x else bounded.answered h f x (act_in h.mail i (actions.Send x.sender x.value))

          by_full : (b : Bool) → is_full h x.channel ≡ b → GoesAs (PollSend f w)
          by_full true full = goes_by nothing (λ r. refl) (λ r. refl) (subst (λ p. Sees (poll p) nothing) (sym is) (subst (λ b. Sees (branch b) nothing) (sym full) (sees_nothing (bounded.pends h f w x) refl)))
          by_full false room = goes_by (actions.Send x.sender x.value) (λ r. refl) (λ r. refl)
              (subst (λ p. Sees (poll p) (actions.Send x.sender x.value)) (sym is) (subst (λ b. Sees (branch b) (actions.Send x.sender x.value)) (sym room) (sees_all (branch false) (actions.Send x.sender x.value) refl refl)))

  ends_send : (f : ℕ) → (bounded_act h i (EndSend f)).hall.mail ≡ h.mail
  ends_send f = by_found (λ out. out.hall.mail ≡ h.mail) (get h.sends f) h _ refl (λ x is. at x (get h.rooms x.channel))
    where
      at : (x : BoundedSend) (p : Option Room) → (bounded.end_send h f x p).hall.mail ≡ h.mail
      at x None = refl
      at x (Some r) = by_if (λ (out : Outcome Bounded). out.hall.mail ≡ h.mail) (waits (waiting_at r) f) _ _ (λ waits. refl) (λ other. by_if (λ (out : Outcome Bounded). out.hall.mail ≡ h.mail) x.polled _ _ (λ polled. refl) (λ new. refl))

  ends_sender : (s : ℕ) → GoesAs (EndSender s)
  ends_sender s = record { a = actions.EndSender s; sees = at (get h.mail.senders s) refl; polled = λ r. refl; ends = λ r. refl }
    where
      at : (p : Option ℕ) → get h.mail.senders s ≡ p → Sees (found p h (λ o. bounded.sender_ended h o (act_in h.mail i (actions.EndSender s)))) (actions.EndSender s)
      at None is = sees_all (quietly h answers.Done) (actions.EndSender s)
          (sym (ap (λ p. (found p h.mail (λ o. found (get h.mail.channels o) h.mail (mailboxes.end_sender h.mail s o))).hall) is)) (sym (ap (λ p. (found p h.mail (λ o. found (get h.mail.channels o) h.mail (mailboxes.end_sender h.mail s o))).wakes) is))
      at (Some o) is = sees_all (bounded.sender_ended h o (act_in h.mail i (actions.EndSender s))) (actions.EndSender s) refl refl

  pub goes_as : (b : BoundedAction) → GoesAs b
  goes_as (Make n) = record { a = actions.Make true; sees = sees_all _ (actions.Make true) refl refl; polled = λ r. refl; ends = λ r. refl }
  goes_as (CopySender s) = record { a = actions.Copy s; sees = sees_all _ (actions.Copy s) refl refl; polled = λ r. refl; ends = λ r. refl }
  goes_as (TrySend s v) = sends s v
  goes_as (BeginSend s v) = record { a = nothing; sees = sees_nothing _ (by_found (λ out. out.hall.mail ≡ h.mail) (get h.mail.senders s) h _ refl (λ o is. refl)); polled = λ r. refl; ends = λ r. refl }
  goes_as (PollSend f w) = polls_send f w
  goes_as (EndSend f) = record { a = nothing; sees = sees_nothing _ (ends_send f); polled = λ r. refl; ends = λ r. refl }
  goes_as (TryReceive r) = record {
    a = actions.Receive r true;
    sees = by_receiver r _ (actions.Receive r true) (λ none. ap (λ p. found p h.mail (λ x. found (get h.mail.channels x.channel) h.mail (λ c. mailboxes.receive_of h.mail x.channel c c.queued))) none) (λ x. sees_received x.channel (actions.Receive r true));
    polled = λ r. refl;
    ends = λ r. refl;
  }
  goes_as (PollReceive r w) = record {
    a = actions.Poll r w;
    sees = by_receiver r _ (actions.Poll r w) (λ none. ap (λ p. found p h.mail (λ x. found (get h.mail.channels x.channel) h.mail (λ c. mailboxes.poll_of h.mail w x.channel c c.queued))) none) (λ x. sees_received x.channel (actions.Poll r w));
    polled = λ r. refl;
    ends = λ r. refl;
  }
  goes_as (EndSender s) = ends_sender s
  goes_as (EndReceiver r) = record {
    a = actions.EndReceiver r true false;
    sees = by_receiver r _ (actions.EndReceiver r true false)
        (λ none. ap (λ p. found p h.mail (λ x. found (get h.mail.channels x.channel) (mailboxes.leaving h.mail r) (mailboxes.end_receiver (mailboxes.leaving h.mail r) false x.channel))) none)
        (λ x. record { hall = refl; wakes = λ w is. Contains-append_left (act_in h.mail i (actions.EndReceiver r true false)).wakes (woken_at h.rooms x.channel all_woken) w is });
    polled = λ r. refl;
    ends = λ r. refl;
  }

  pub poll_hall : (r w : ℕ) → (bounded_act h i (PollReceive r w)).hall.mail ≡ (act_in h.mail i (actions.Poll r w)).hall
  unfolding goes_as
  poll_hall r w = (goes_as (PollReceive r w)).sees.hall

  -- a poll of a receiver is answered as its mailbox answers
  received_reply : (o : ℕ) (out : Outcome Mailboxes) → (bounded.received h o out).reply ≡ out.reply
  received_reply o out = by_if (λ (d : Outcome Bounded). d.reply ≡ out.reply) (is_got out.reply) _ _ (λ got. refl) (λ other. refl)

  pub poll_reply : (r w : ℕ) → (bounded_act h i (PollReceive r w)).reply ≡ (act_in h.mail i (actions.Poll r w)).reply
  poll_reply r w = at (get h.mail.receivers r) refl
    where
      at : (p : Option Receiver) → get h.mail.receivers r ≡ p → (found p h (λ x. bounded.received h x.channel (act_in h.mail i (actions.Poll r w)))).reply ≡ (act_in h.mail i (actions.Poll r w)).reply
      at None none = sym (ap (λ p. (found p h.mail (λ x. found (get h.mail.channels x.channel) h.mail (λ c. mailboxes.poll_of h.mail w x.channel c c.queued))).reply) none)
      at (Some x) is = received_reply x.channel (act_in h.mail i (actions.Poll r w))

-- ---- how many sends wait, and are woken
abbrev pub Rooms : Names Room → Names Room → List ℕ → ℕ → Type 0
Rooms rs rs' ws extra = Counted waiting_at rs rs' ws extra

pub at_room_counted : (rs : Names Room) (o k extra : ℕ) (change : Room → Room) (woken : Room → List ℕ) → ((r : Room) → Local (waiting_at r) (waiting_at (change r)) (woken r) k extra) → Rooms rs (at_room rs o change) (woken_at rs o woken) extra
at_room_counted rs o k extra change woken local = at (get rs o) refl
  where
    at : (p : Option Room) → get rs o ≡ p → Rooms rs (at_room_in rs o change p) (woken_in p woken) extra
    at None is = counted_same waiting_at rs extra
    at (Some r) is = counted_put waiting_at rs o r (change r) (woken r) k extra extra is (local r) (omega arith)

pub no_wake : (rs rs' : Names Room) (o : ℕ) (extra : ℕ) → Rooms rs rs' (woken_at rs o (λ r. [])) extra → Rooms rs rs' [] extra
no_wake rs rs' o extra is = at (get rs o) is
  where
    at : (p : Option Room) → Rooms rs rs' (woken_in p (λ r. [])) extra → Rooms rs rs' [] extra
    at None is = is
    at (Some r) is = is

pub joined_local : (f w : ℕ) (r : Room) → Local (waiting_at r) (waiting_at (joined f w r)) [] f 1
joined_local f w r = by_if (λ (d : Room). Local (waiting_at r) (waiting_at d) [] f 1) (waits (waiting_at r) f) _ _ (λ waits. more (local_rewoken r.queue f w)) (λ new. local_pushed r.queue f w 1)
  where
    more : {q : _} → Local (waiting_at r) q [] f 0 → Local (waiting_at r) q [] f 1
    more l = record { keeps = l.keeps; fits = omega (arith, l.fits); most = l.most }

pub left_local : (f : ℕ) (r : Room) → Local (waiting_at r) (waiting_at (left_by f r)) [] f 0
left_local f r = by_if (λ (d : Room). Local (waiting_at r) (waiting_at d) [] f 0) (waits (waiting_at r) f) _ _ (λ waits. rw (who-leaving r.queue f) (local_without (who r.queue) f)) (λ other. local_same (who r.queue) f)

pub granted_local : (n : ℕ) (r : Room) → Local (waiting_at r) (waiting_at (granted n r)) (woken_by_grant n r) 0 0
granted_local n r = local_poured r.queue n 0

pub tidied_counted : (rs rs' : Names Room) (o : ℕ) (ws : List ℕ) (there : Bool) (extra : ℕ) → Rooms rs rs' ws extra → Rooms rs (tidied_rooms rs' o there) ws extra
tidied_counted rs rs' o ws true extra is = is
tidied_counted rs rs' o ws false extra is = record { most = is.most; grows = omega (arith, is.grows, total-remove (λ o (r : Room). length (waiting_at r)) rs' o) }
