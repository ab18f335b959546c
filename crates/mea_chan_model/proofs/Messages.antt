-- messages are in order
use Rattle.std.proofs.Common.{◌≡◌, ℕ, ◌+◌, ◌-◌, ◌≤◌, ◌==◌, ◌++◌, Bool, true, false, cond, List, [], ◌∷◌, Option, Some, None, if◌then◌else◌, refl, ap, sym, subst, ◌∙◌, arith, append_assoc, append-nil}
use Rattle.std.specs.FinMap.{get, insert, get-empty}
use Rattle.std.specs.Ordering.{nat_cmp}
use Rattle.std.proofs.lemmas.Bool.{eq-eqb, ne_eqb}
use Rattle.mea_family.specs.declared.answer.Answer.{Answer}
use Rattle.mea_family.specs.declared.answer.Answer.TheVariants as answers
use Rattle.mea_family.specs.Family.{Outcome, quietly, IsRun, Starts, Goes, RunOf}
use Rattle.mea_base.proofs.Maps.{get-there, get-other, none_if}
use Rattle.mea_base.proofs.Tests.{by_name}
use Rattle.mea_by_name.specs.ByName.{Names}
use Rattle.mea_by_name.specs.NamedQueue.{waits}
use Rattle.mea_family.specs.Play.{found}
use Rattle.mea_by_name.proofs.Cases.{by_found, by_if}
use Rattle.mea_chan_model.specs.Mailboxes as mailboxes
use Rattle.mea_chan_model.specs.Mailboxes.{Mailbox, Mailboxes, Receiver, new_mailbox, is_over, with_message, sent, without_senders, less_sender, without_receiver}
use Rattle.mea_chan_model.specs.MailboxActions.{Action, Make, Copy, Send, SendLast, EndSender, Receive, Poll, EndReceiver, IntoFuture, TellClosed, TellOver, TellMessage, act_in}
use Rattle.mea_chan_model.specs.Bounded as bounded
use Rattle.mea_chan_model.specs.Bounded.{Bounded, is_full, is_got, at_room, granted, woken_at, woken_by_grant}
use Rattle.mea_chan_model.specs.declared.bounded_action.BoundedAction.TheVariants as bounded_actions
use Rattle.mea_chan_model.specs.BoundedActions.{BoundedAction, CopySender, TrySend, BeginSend, PollSend, EndSend, TryReceive, PollReceive, bounded_act}
use Rattle.mea_chan_model.specs.BroadcastActions.{BroadcastAction, broadcast_act}
use Rattle.mea_chan_model.specs.Boxes.{BoxAction}
use Rattle.mea_chan_model.specs.ChanHall.{ChanHall, Kind, Unbounded, Oneshots, ReceiverKind, ReceiverOf, ReceiverOfBounded, BoxKind, part, mail, empty_hall}
use Rattle.mea_chan_model.specs.Meaning.{Meaning, OfChannels, OfBounded, OfBroadcasts, OfBoxes, meaning_of, step_by}
use Rattle.mea_chan_model.specs.ChanFamily.{chans_family}
use Rattle.mea_chan_model.specs.InOrder.{Moved, nothing, then_moved, queued_in, channel_at, accepts, receives, drops, if_at, moved_by, moved_by_send, bounded_moved_by, moved_at, moved}
use Rattle.mea_chan_model.proofs.Acting.{after, left, left_is}
use Rattle.mea_chan_model.proofs.Wakers.{Low, lows, by_kinds, there, beside, beside_bounded, beside_broadcasts, after-there, after-other, over_ended}

-- whether the receiver has ended; that of a channel that is gone has
abbrev ended_in : Option Mailbox → Bool
ended_in None = true
ended_in (Some c) = c.ended

-- the messages of a channel are in order, with all that was moved at it
record Good (p : Option Mailbox) (m : Moved) : Type 0 where
  order : m.accepted ≡ m.received ++ (m.fallen ++ queued_in p)
  lives : ended_in p ≡ false → m.fallen ≡ []
  ended : ended_in p ≡ true → queued_in p ≡ []

none_fallen : (p : Option Mailbox) (m : Moved) (v : ℕ) (vs : List ℕ) → queued_in p ≡ v ∷ vs → Good p m → m.fallen ≡ []
none_fallen p m v vs queue good = at (ended_in p) refl
  where
    at : (b : Bool) → ended_in p ≡ b → m.fallen ≡ []
    at true is = absurd (let none = sym queue ∙ good.ended is in cc)
    at false is = good.lives is

-- where nothing is moved nothing is moved at o
rests_at : (o : ℕ) (p : Option ℕ) → if_at p o nothing ≡ nothing
rests_at o None = refl
rests_at o (Some q) = elim (q == o) as (λ b. cond b nothing nothing ≡ nothing) [ true ↦ refl | false ↦ refl ]

module _ (i o : ℕ) where
  -- what an event does to the channel o: nothing to its messages; it is made; a message is accepted, or received; its
  -- receiver ends, and what is queued falls
  data Moves : Option Mailbox → Option Mailbox → Moved → Type 0 where
    Rests : (p q : Option Mailbox) → queued_in q ≡ queued_in p → ended_in q ≡ ended_in p → Moves p q nothing
    Opens : (p q : Option Mailbox) → o ≡ i → queued_in p ≡ [] → queued_in q ≡ [] → ended_in q ≡ false → Moves p q nothing
    Accepts : (p q : Option Mailbox) (v : ℕ) → queued_in q ≡ queued_in p ++ v ∷ [] → ended_in p ≡ false → ended_in q ≡ false → Moves p q (accepts v answers.Accepted)
    Takes : (p q : Option Mailbox) (v : ℕ) → queued_in p ≡ v ∷ queued_in q → ended_in q ≡ ended_in p → Moves p q (receives (answers.Got v))
    Falls : (p q : Option Mailbox) (vs : List ℕ) → vs ≡ queued_in p → queued_in q ≡ [] → ended_in q ≡ true → Moves p q (drops vs)

  -- of a channel whose receiver has ended nothing is queued
  abbrev Quiet : Mailbox → Type 0
  Quiet c = c.ended ≡ true → c.queued ≡ []

  left_rests : (c d : Mailbox) → d.queued ≡ c.queued → d.ended ≡ c.ended → Quiet c → Moves (Some c) (left d) nothing
  left_rests c d same ended quiet = by_if (λ p. Moves (Some c) p nothing) (is_over d) None (Some d) (λ over. Rests (Some c) None (sym (quiet (sym ended ∙ over_ended d over))) (sym (sym ended ∙ over_ended d over))) (λ stays. Rests (Some c) (Some d) same ended)

  left_accepts : (c d : Mailbox) (v : ℕ) → d.queued ≡ c.queued ++ v ∷ [] → c.ended ≡ false → d.ended ≡ false → Moves (Some c) (left d) (accepts v answers.Accepted)
  left_accepts c d v more living lives = by_if (λ p. Moves (Some c) p (accepts v answers.Accepted)) (is_over d) None (Some d) (λ over. absurd (not_over d.ended lives over)) (λ stays. Accepts (Some c) (Some d) v more living lives)
    where
      not_over : (b : Bool) → b ≡ false → (if b then d.senders == 0 else false) ≡ true → ⊥
      not_over true is over = absurd (cc)
      not_over false is over = absurd (cc)

  -- ---- one channel
  sends : (c : Mailbox) (v : ℕ) → Moves (Some c) (Some (with_message c v)) (accepts v (sent c v))
  sends c v = at c.ended refl
    where
      at : (b : Bool) → c.ended ≡ b → Moves (Some c) (Some (if b then c else record c { queued = c.queued ++ v ∷ []; waker = None })) (accepts v (if b then answers.Closed v else answers.Accepted))
      at true is = Rests (Some c) (Some c) refl refl
      at false is = Accepts (Some c) (Some (record c { queued = c.queued ++ v ∷ []; waker = None })) v refl is is

  sends_last : (c : Mailbox) (v : ℕ) → Quiet c → Moves (Some c) (left (without_senders (with_message c v))) (accepts v (sent c v))
  sends_last c v quiet = at c.ended refl
    where
      at : (b : Bool) → c.ended ≡ b → Moves (Some c) (left (without_senders (if b then c else record c { queued = c.queued ++ v ∷ []; waker = None }))) (accepts v (if b then answers.Closed v else answers.Accepted))
      at true is = left_rests c (without_senders c) refl refl quiet
      at false is = left_accepts c (without_senders (record c { queued = c.queued ++ v ∷ []; waker = None })) v refl is is

  lessens : (c : Mailbox) → Quiet c → Moves (Some c) (left (less_sender c)) nothing
  lessens c quiet = by_if (λ d. Moves (Some c) (left d) nothing) (c.senders == 1) (without_senders c) (record c { senders = c.senders - 1 }) (λ one. left_rests c (without_senders c) refl refl quiet) (λ more. left_rests c (record c { senders = c.senders - 1 }) refl refl quiet)

  ends : (c : Mailbox) (falls : Bool) → Moves (Some c) (left (without_receiver falls c)) (drops c.queued)
  ends c falls = by_if (λ p. Moves (Some c) p (drops c.queued)) (is_over (without_receiver falls c)) None (Some (without_receiver falls c)) (λ over. Falls (Some c) None c.queued refl refl refl) (λ stays. Falls (Some c) (Some (without_receiver falls c)) c.queued refl refl refl)

  -- ---- the channels of one kind
  module _ (h : Mailboxes) (quiet : (q : ℕ) (c : Mailbox) → get h.channels q ≡ Some c → Quiet c) where
    abbrev Does : Names Mailbox → Moved → Type 0
    Does cs m = Moves (get h.channels o) (get cs o) m

    still : Does h.channels nothing
    still = Rests (get h.channels o) (get h.channels o) refl refl

    still_at : (p : Option ℕ) → Does h.channels (if_at p o nothing)
    still_at p = rw (rests_at o p) still

    -- the channel q becomes another, or is gone
    one : (q : ℕ) (c : Mailbox) (d : Option Mailbox) (m : Moved) → get h.channels q ≡ Some c → (q ≡ o → Moves (Some c) d m) → Does (after h.channels q d) (cond (q == o) m nothing)
    one q c d m is moves = by_name q o
        (λ same. rw (eq-eqb q o same) (subst (λ j. Moves (get h.channels j) (get (after h.channels q d) j) m) same (rw (is, after-there h.channels q d) (moves same))))
        (λ apart. rw (ne_eqb q o apart) (Rests (get h.channels o) (get (after h.channels q d) o) (ap queued_in (after-other h.channels q o d apart)) (ap ended_in (after-other h.channels q o d apart))))

    -- at the channel of a sender, and of a receiver
    by_sender : (s : ℕ) (act : ℕ → Mailbox → Outcome Mailboxes) (m : Answer → Moved) → m answers.Done ≡ nothing
        → ((q : ℕ) (c : Mailbox) → get h.channels q ≡ Some c → Does (act q c).hall.channels (cond (q == o) (m (act q c).reply) nothing))
        → Does (found (get h.senders s) h (λ q. found (get h.channels q) h (act q))).hall.channels (if_at (get h.senders s) o (m (found (get h.senders s) h (λ q. found (get h.channels q) h (act q))).reply))
    by_sender s act m none does = at (get h.senders s)
      where
        at_channel : (q : ℕ) (p : Option Mailbox) → get h.channels q ≡ p → Does (found p h (act q)).hall.channels (cond (q == o) (m (found p h (act q)).reply) nothing)
        at_channel q None is = subst (λ n. Does h.channels (cond (q == o) n nothing)) (sym none) (still_at (Some q))
        at_channel q (Some c) is = does q c is

        at : (p : Option ℕ) → Does (found p h (λ q. found (get h.channels q) h (act q))).hall.channels (if_at p o (m (found p h (λ q. found (get h.channels q) h (act q))).reply))
        at None = still
        at (Some q) = at_channel q (get h.channels q) refl

    by_receiver : (r : ℕ) (act : ℕ → Mailbox → Outcome Mailboxes) (m : Answer → Moved) → m answers.Done ≡ nothing
        → ((q : ℕ) (c : Mailbox) → get h.channels q ≡ Some c → Does (act q c).hall.channels (cond (q == o) (m (act q c).reply) nothing))
        → Does (found (get h.receivers r) h (λ x. found (get h.channels x.channel) h (act x.channel))).hall.channels (if_at (channel_at (get h.receivers r)) o (m (found (get h.receivers r) h (λ x. found (get h.channels x.channel) h (act x.channel))).reply))
    by_receiver r act m none does = at (get h.receivers r)
      where
        at_channel : (q : ℕ) (p : Option Mailbox) → get h.channels q ≡ p → Does (found p h (act q)).hall.channels (cond (q == o) (m (found p h (act q)).reply) nothing)
        at_channel q None is = subst (λ n. Does h.channels (cond (q == o) n nothing)) (sym none) (still_at (Some q))
        at_channel q (Some c) is = does q c is

        at : (p : Option Receiver) → Does (found p h (λ x. found (get h.channels x.channel) h (act x.channel))).hall.channels (if_at (channel_at p) o (m (found p h (λ x. found (get h.channels x.channel) h (act x.channel))).reply))
        at None = still
        at (Some x) = at_channel x.channel (get h.channels x.channel) refl

    -- what moves nothing at a sender's channel, or at a receiver's
    rests_by_sender : (s : ℕ) (act : ℕ → Mailbox → Outcome Mailboxes) → ((q : ℕ) (c : Mailbox) → get h.channels q ≡ Some c → Does (act q c).hall.channels (cond (q == o) nothing nothing))
        → Does (found (get h.senders s) h (λ q. found (get h.channels q) h (act q))).hall.channels nothing
    rests_by_sender s act does = subst (λ m. Does (found (get h.senders s) h (λ q. found (get h.channels q) h (act q))).hall.channels m) (rests_at o (get h.senders s)) (by_sender s act (λ reply. nothing) refl does)

    rests_by_receiver : (r : ℕ) (act : ℕ → Mailbox → Outcome Mailboxes) → ((q : ℕ) (c : Mailbox) → get h.channels q ≡ Some c → Does (act q c).hall.channels (cond (q == o) nothing nothing))
        → Does (found (get h.receivers r) h (λ x. found (get h.channels x.channel) h (act x.channel))).hall.channels nothing
    rests_by_receiver r act does = subst (λ m. Does (found (get h.receivers r) h (λ x. found (get h.channels x.channel) h (act x.channel))).hall.channels m) (rests_at o (channel_at (get h.receivers r))) (by_receiver r act (λ reply. nothing) refl does)

    receives_at : (q : ℕ) (c : Mailbox) (vs : List ℕ) → get h.channels q ≡ Some c → c.queued ≡ vs → Does (mailboxes.receive_of h q c vs).hall.channels (cond (q == o) (receives (mailboxes.receive_of h q c vs).reply) nothing)
    receives_at q c [] is queue = by_if (λ reply. Does h.channels (cond (q == o) (receives reply) nothing)) (c.senders == 0) answers.Gone answers.Empty (λ gone. still_at (Some q)) (λ some. still_at (Some q))
    receives_at q c (v ∷ rest) is queue = one q c (Some (record c { queued = rest })) (receives (answers.Got v)) is (λ same. Takes (Some c) (Some (record c { queued = rest })) v queue refl)

    polls_at : (w q : ℕ) (c : Mailbox) (vs : List ℕ) → get h.channels q ≡ Some c → c.queued ≡ vs → Does (mailboxes.poll_of h w q c vs).hall.channels (cond (q == o) (receives (mailboxes.poll_of h w q c vs).reply) nothing)
    polls_at w q c [] is queue = by_if (λ (out : Outcome Mailboxes). Does out.hall.channels (cond (q == o) (receives out.reply) nothing)) (c.senders == 0) _ _ (λ gone. still_at (Some q))
        (λ some. one q c (Some (record c { waker = Some w })) nothing is (λ same. Rests (Some c) (Some (record c { waker = Some w })) refl refl))
    polls_at w q c (v ∷ rest) is queue = one q c (Some (record c { queued = rest })) (receives (answers.Got v)) is (λ same. Takes (Some c) (Some (record c { queued = rest })) v queue refl)

    ends_at : (r : ℕ) (polls falls : Bool) → Does (act_in h i (EndReceiver r polls falls)).hall.channels (if_at (channel_at (get h.receivers r)) o (drops (queued_in (get h.channels o))))
    ends_at r polls falls = at (get h.receivers r)
      where
        at_channel : (q : ℕ) (p : Option Mailbox) → get h.channels q ≡ p
            → Does (found p (mailboxes.leaving h r) (mailboxes.end_receiver (mailboxes.leaving h r) falls q)).hall.channels (cond (q == o) (drops (queued_in (get h.channels o))) nothing)
        at_channel q None is = by_name q o
            (λ same. subst (λ vs. Does h.channels (cond (q == o) (drops vs) nothing)) (sym (ap queued_in (ap (get h.channels) (sym same) ∙ is))) (still_at (Some q)))
            (λ apart. subst (λ b. Does h.channels (cond b (drops (queued_in (get h.channels o))) nothing)) (sym (ne_eqb q o apart)) still)
        at_channel q (Some c) is = rw (left_is h.channels q (without_receiver falls c)) (one q c (left (without_receiver falls c)) (drops (queued_in (get h.channels o))) is
            (λ same. let here : get h.channels o ≡ Some c = ap (get h.channels) (sym same) ∙ is in rw here (ends c falls)))

        at : (p : Option Receiver) → Does (found p h (λ x. found (get h.channels x.channel) (mailboxes.leaving h r) (mailboxes.end_receiver (mailboxes.leaving h r) falls x.channel))).hall.channels (if_at (channel_at p) o (drops (queued_in (get h.channels o))))
        at None = still
        at (Some x) = at_channel x.channel (get h.channels x.channel) refl

    makes : (polls : Bool) → get h.channels i ≡ None → Does (insert h.channels i new_mailbox) nothing
    makes polls fresh = by_name i o
        (λ same. let none : get h.channels o ≡ None = ap (get h.channels) (sym same) ∙ fresh in let new : get (insert h.channels i new_mailbox) o ≡ Some new_mailbox = ap (get (insert h.channels i new_mailbox)) (sym same) ∙ get-there h.channels i new_mailbox in
        Opens (get h.channels o) (get (insert h.channels i new_mailbox) o) (sym same) (ap queued_in none) (ap queued_in new) (ap ended_in new))
        (λ apart. let other = get-other h.channels i o new_mailbox apart in Rests (get h.channels o) (get (insert h.channels i new_mailbox) o) (ap queued_in other) (ap ended_in other))

    becomes_future : (r : ℕ) → Does (act_in h i (IntoFuture r)).hall.channels nothing
    becomes_future r = by_found (λ (out : Outcome Mailboxes). Does out.hall.channels nothing) (get h.receivers r) h _ still (λ x receiver. still)

    moves : (a : Action) → get h.channels i ≡ None → Does (act_in h i a).hall.channels (moved_by h a (act_in h i a).reply o)
    moves (Make polls) fresh = makes polls fresh
    moves (Copy s) fresh = rests_by_sender s _ (λ q c is. one q c (Some (record c { senders = c.senders + 1 })) nothing is (λ same. Rests (Some c) (Some (record c { senders = c.senders + 1 })) refl refl))
    moves (Send s v) fresh = by_sender s _ (accepts v) refl (λ q c is. one q c (Some (with_message c v)) (accepts v (sent c v)) is (λ same. sends c v))
    moves (SendLast s v) fresh = by_sender s _ (accepts v) refl
        (λ q c is. rw (left_is h.channels q (without_senders (with_message c v))) (one q c (left (without_senders (with_message c v))) (accepts v (sent c v)) is (λ same. sends_last c v (quiet q c is))))
    moves (EndSender s) fresh = rests_by_sender s _ (λ q c is. rw (left_is h.channels q (less_sender c)) (one q c (left (less_sender c)) nothing is (λ same. lessens c (quiet q c is))))
    moves (Receive r polls) fresh = by_receiver r _ receives refl (λ q c is. receives_at q c c.queued is refl)
    moves (Poll r w) fresh = by_receiver r _ receives refl (λ q c is. polls_at w q c c.queued is refl)
    moves (EndReceiver r polls falls) fresh = ends_at r polls falls
    moves (IntoFuture r) fresh = becomes_future r
    moves (TellClosed s) fresh = rests_by_sender s _ (λ q c is. still_at (Some q))
    moves (TellOver r) fresh = rests_by_receiver r _ (λ q c is. still_at (Some q))
    moves (TellMessage r) fresh = rests_by_receiver r _ (λ q c is. still_at (Some q))

  -- ---- all that was moved before goes on
  good_after : (p q : Option Mailbox) (m d : Moved) → Moves p q d → (o ≡ i → m.fallen ≡ []) → Good p m → Good q (then_moved m d)
  good_after _ _ m _ (Rests p q same ended) new good = record {
    order = append-nil m.accepted ∙ good.order ∙ (λ j. (sym (append-nil m.received)) j ++ ((sym (append-nil m.fallen)) j ++ (sym same) j));
    lives = λ is. append-nil m.fallen ∙ good.lives (sym ended ∙ is);
    ended = λ is. same ∙ good.ended (sym ended ∙ is);
  }
  good_after _ _ m _ (Opens p q here before after ended) new good = record {
    order = append-nil m.accepted ∙ good.order ∙ (λ j. (sym (append-nil m.received)) j ++ ((sym (append-nil m.fallen)) j ++ (before ∙ sym after) j));
    lives = λ is. append-nil m.fallen ∙ new here;
    ended = λ is. after;
  }
  good_after _ _ m _ (Accepts p q v more living lives) new good = record {
    order = ap (λ vs. vs ++ v ∷ []) good.order ∙ append_assoc m.received (m.fallen ++ queued_in p) (v ∷ []) ∙ ap (λ vs. m.received ++ vs) (append_assoc m.fallen (queued_in p) (v ∷ []))
        ∙ (λ j. (sym (append-nil m.received)) j ++ ((sym (append-nil m.fallen)) j ++ (sym more) j));
    lives = λ is. append-nil m.fallen ∙ good.lives living;
    ended = λ is. absurd (cc);
  }
  good_after _ _ m _ (Takes p q v first ended) new good =
      let none = none_fallen p m v (queued_in q) first good in
      record {
        order = append-nil m.accepted ∙ good.order ∙ (λ j. m.received ++ (none j ++ first j)) ∙ sym (append_assoc m.received (v ∷ []) (queued_in q))
            ∙ (λ j. (m.received ++ v ∷ []) ++ ((sym (append-nil m.fallen ∙ none)) j ++ queued_in q));
        lives = λ is. append-nil m.fallen ∙ none;
        ended = λ is. absurd (let gone = sym first ∙ good.ended (sym ended ∙ is) in cc);
      }
  good_after _ _ m _ (Falls p q vs all none ended) new good = record {
    order = append-nil m.accepted ∙ good.order ∙ (λ j. (sym (append-nil m.received)) j ++ (sym (append-nil (m.fallen ++ vs) ∙ ap (λ us. m.fallen ++ us) all)) j)
        ∙ (λ j. (m.received ++ []) ++ ((m.fallen ++ vs) ++ (sym none) j));
    lives = λ is. absurd (cc);
    ended = λ is. none;
  }

  none_falls : (p q : Option Mailbox) (d : Moved) → Moves p q d → queued_in p ≡ [] → d.fallen ≡ []
  none_falls _ _ _ (Falls p q vs all gone ended) none = all ∙ none
  none_falls _ _ _ _ none = refl

-- ---- bounded channels
module _ (i o : ℕ) (h : Bounded) where
  abbrev BoundedDoes : Outcome Bounded → Moved → Type 0
  BoundedDoes out m = Moves i o (get h.mail.channels o) (get out.hall.mail.channels o) m

  module _ (quiet : (q : ℕ) (c : Mailbox) → get h.mail.channels q ≡ Some c → c.ended ≡ true → c.queued ≡ []) (fresh : get h.mail.channels i ≡ None) where
    -- what is done to the mailboxes moves what an action on them does
    in_mail : (a : Action) → Moves i o (get h.mail.channels o) (get (act_in h.mail i a).hall.channels o) (moved_by h.mail a (act_in h.mail i a).reply o)
    in_mail a = moves i o h.mail quiet a fresh

    alone : (out : Outcome Bounded) → out.hall.mail ≡ h.mail → BoundedDoes out nothing
    alone out same = subst (λ m. Moves i o (get h.mail.channels o) (get m.channels o) nothing) (sym same) (Rests (get h.mail.channels o) (get h.mail.channels o) refl refl)

    as_mail : (out : Outcome Bounded) (a : Action) → out.hall.mail ≡ (act_in h.mail i a).hall → out.reply ≡ (act_in h.mail i a).reply → BoundedDoes out (moved_by h.mail a out.reply o)
    as_mail out a hall reply = subst (λ m. Moves i o (get h.mail.channels o) (get m.channels o) (moved_by h.mail a out.reply o)) (sym hall)
        (subst (λ r. Moves i o (get h.mail.channels o) (get (act_in h.mail i a).hall.channels o) (moved_by h.mail a r o)) (sym reply) (in_mail a))

    -- where nobody is there nothing is moved
    at_nobody : (p : Option ℕ) (m : Moved) → p ≡ None → if_at p o m ≡ nothing
    at_nobody None m is = refl
    at_nobody (Some q) m is = absurd (cc)

    unmoved : (out : Outcome Bounded) (m : Moved) → out.hall.mail ≡ h.mail → m ≡ nothing → BoundedDoes out m
    unmoved out m same none = subst (λ m. BoundedDoes out m) (sym none) (alone out same)

    bounded_sends : (s v : ℕ) → BoundedDoes (bounded_act h i (TrySend s v)) (bounded_moved_by h (TrySend s v) (bounded_act h i (TrySend s v)).reply o)
    bounded_sends s v = by_found P (get h.mail.senders s) h _ (unmoved (quietly h answers.Done) _ refl (rests_at o (get h.mail.senders s))) (λ q is. by_if P (is_full h q) _ _
        (λ full. unmoved (quietly h (answers.Full v)) _ refl (rests_at o (get h.mail.senders s))) (λ room. as_mail (bounded.in_mail h (act_in h.mail i (Send s v))) (Send s v) refl refl))
      where
        P : Outcome Bounded → Type 0
        P out = BoundedDoes out (if_at (get h.mail.senders s) o (accepts v out.reply))

    bounded_polls : (f w : ℕ) → BoundedDoes (bounded_act h i (PollSend f w)) (bounded_moved_by h (PollSend f w) (bounded_act h i (PollSend f w)).reply o)
    bounded_polls f w = at (get h.sends f)
      where
        poll : Option bounded.BoundedSend → Outcome Bounded
        poll p = found p h (λ x. if is_full h x.channel then bounded.pends h f w x else bounded.answered h f x (act_in h.mail i (Send x.sender x.value)))

        at : (p : Option bounded.BoundedSend) → BoundedDoes (poll p) (moved_by_send h p (poll p).reply o)
        at None = alone (quietly h answers.Done) refl
        at (Some x) = by_if (λ out. BoundedDoes out (if_at (get h.mail.senders x.sender) o (accepts x.value out.reply))) (is_full h x.channel) _ _
            (λ full. unmoved (bounded.pends h f w x) _ refl (rests_at o (get h.mail.senders x.sender))) (λ room. as_mail (bounded.answered h f x (act_in h.mail i (Send x.sender x.value))) (Send x.sender x.value) refl refl)

    -- at the channel of a receiver, which is there or not
    by_bounded_receiver : (r : ℕ) (act : Receiver → Outcome Bounded) (m : Answer → Moved) → ((x : Receiver) → BoundedDoes (act x) (if_at (channel_at (get h.mail.receivers r)) o (m (act x).reply)))
        → BoundedDoes (found (get h.mail.receivers r) h act) (if_at (channel_at (get h.mail.receivers r)) o (m (found (get h.mail.receivers r) h act).reply))
    by_bounded_receiver r act m does = at (get h.mail.receivers r) refl
      where
        at : (p : Option Receiver) → get h.mail.receivers r ≡ p → BoundedDoes (found p h act) (if_at (channel_at (get h.mail.receivers r)) o (m (found p h act).reply))
        at None none = unmoved (quietly h answers.Done) _ refl (at_nobody (channel_at (get h.mail.receivers r)) (m answers.Done) (ap channel_at none))
        at (Some x) is = does x

    bounded_receives : (q : ℕ) (a : Action) → BoundedDoes (bounded.received h q (act_in h.mail i a)) (moved_by h.mail a (bounded.received h q (act_in h.mail i a)).reply o)
    bounded_receives q a = by_if (λ out. BoundedDoes out (moved_by h.mail a out.reply o)) (is_got (act_in h.mail i a).reply) got (bounded.in_mail h (act_in h.mail i a)) (λ is. as_mail got a refl refl) (λ other. as_mail (bounded.in_mail h (act_in h.mail i a)) a refl refl)
      where
        got : Outcome Bounded
        got = record { hall = record h { mail = (act_in h.mail i a).hall; rooms = at_room h.rooms q (granted 1) }; reply = (act_in h.mail i a).reply; wakes = (act_in h.mail i a).wakes ++ woken_at h.rooms q (woken_by_grant 1) }

    ends_unmoved : (f : ℕ) → (bounded_act h i (EndSend f)).hall.mail ≡ h.mail
    ends_unmoved f = by_found (λ out. out.hall.mail ≡ h.mail) (get h.sends f) h _ refl (λ x is. at x (get h.rooms x.channel))
      where
        at : (x : bounded.BoundedSend) (p : Option bounded.Room) → (bounded.end_send h f x p).hall.mail ≡ h.mail
        at x None = refl
        at x (Some r) = by_if (λ (out : Outcome Bounded). out.hall.mail ≡ h.mail) (waits (bounded.waiting_at r) f) _ _ (λ waits. refl) (λ other. by_if (λ (out : Outcome Bounded). out.hall.mail ≡ h.mail) x.polled _ _ (λ polled. refl) (λ new. refl))

    bounded_moves : (b : BoundedAction) → BoundedDoes (bounded_act h i b) (bounded_moved_by h b (bounded_act h i b).reply o)
    bounded_moves (bounded_actions.Make n) = as_mail (bounded_act h i (bounded_actions.Make n)) (Make true) refl refl
    bounded_moves (CopySender s) = as_mail (bounded_act h i (CopySender s)) (Copy s) refl refl
    bounded_moves (TrySend s v) = bounded_sends s v
    bounded_moves (BeginSend s v) = alone (bounded_act h i (BeginSend s v)) (by_found (λ out. out.hall.mail ≡ h.mail) (get h.mail.senders s) h _ refl (λ q is. refl))
    bounded_moves (PollSend f w) = bounded_polls f w
    bounded_moves (EndSend f) = alone (bounded_act h i (EndSend f)) (ends_unmoved f)
    bounded_moves (TryReceive r) = by_bounded_receiver r _ receives (λ x. bounded_receives x.channel (Receive r true))
    bounded_moves (PollReceive r w) = by_bounded_receiver r _ receives (λ x. bounded_receives x.channel (Poll r w))
    bounded_moves (bounded_actions.EndSender s) = by_found (λ out. BoundedDoes out nothing) (get h.mail.senders s) h _ (alone (quietly h answers.Done) refl)
        (λ q is. as_mail (bounded.sender_ended h q (act_in h.mail i (EndSender s))) (EndSender s) refl refl)
    bounded_moves (bounded_actions.EndReceiver r) = by_bounded_receiver r _ (λ reply. drops (queued_in (get h.mail.channels o))) (λ x. as_mail (bounded.receiver_ended h x.channel (act_in h.mail i (EndReceiver r true false))) (EndReceiver r true false) refl refl)

-- ---- the channels of all kinds
moved-there : (h : ChanHall) (k : Kind) (a : Action) (reply : Answer) (o : ℕ) → moved_at h (ReceiverOf k) (OfChannels k a) reply o ≡ moved_by (part h k) a reply o
moved-there h Unbounded a reply o = refl
moved-there h Oneshots a reply o = refl

moved-boxes : (h : ChanHall) (j : ReceiverKind) (k : BoxKind) (a : BoxAction) (reply : Answer) (o : ℕ) → moved_at h j (OfBoxes k a) reply o ≡ nothing
moved-boxes h (ReceiverOf Unbounded) k a reply o = refl
moved-boxes h _ k a reply o = refl

moved-broadcasts : (h : ChanHall) (j : ReceiverKind) (a : BroadcastAction) (reply : Answer) (o : ℕ) → moved_at h j (OfBroadcasts a) reply o ≡ nothing
moved-broadcasts h (ReceiverOf Unbounded) a reply o = refl
moved-broadcasts h _ a reply o = refl

moved-bounded : (h : ChanHall) (k : Kind) (b : BoundedAction) (reply : Answer) (o : ℕ) → moved_at h (ReceiverOf k) (OfBounded b) reply o ≡ nothing
moved-bounded h Unbounded b reply o = refl
moved-bounded h Oneshots b reply o = refl

-- what holds of all that was moved in a run
record AllGood (r : RunOf chans_family) (k : ReceiverKind) (o : ℕ) : Type 0 where
  good : Good (get (mail r.hall k).channels o) (moved k o r.trace)
  fresh : r.next ≤ o → (moved k o r.trace).fallen ≡ []

module _ (h : ChanHall) (i o : ℕ) where
  -- the channel o of one kind, after what was done to those of another
  abbrev Leaves : Meaning → ReceiverKind → Type 0
  Leaves m j = Moves i o (get (mail h j).channels o) (get (mail (step_by h i m).hall j).channels o) (moved_at h j m (step_by h i m).reply o)

  does : (n : ℕ) → ((k : ReceiverKind) → Low (mail h k) n) → n ≤ i → ((k : ReceiverKind) (q : ℕ) (c : Mailbox) → get (mail h k).channels q ≡ Some c → c.ended ≡ true → c.queued ≡ []) → (m : Meaning) (j : ReceiverKind) → Leaves m j
  does n low later quiet (OfChannels k a) j = by_kinds (λ k j. Leaves (OfChannels k a) j)
      (λ k. rw (there, moved-there) (moves i o (part h k) (quiet (ReceiverOf k)) a (no_channel k)))
      (Rests (get h.oneshots.channels o) (get h.oneshots.channels o) refl refl) (Rests (get h.unbounded.channels o) (get h.unbounded.channels o) refl refl)
      (Rests (get h.bounded.mail.channels o) (get h.bounded.mail.channels o) refl refl) (Rests (get h.bounded.mail.channels o) (get h.bounded.mail.channels o) refl refl) k j
    where
      no_channel : (k : Kind) → get (part h k).channels i ≡ None
      no_channel k = none_if (get (part h k).channels i) (λ c is. absurd (let small = (low (ReceiverOf k)).lows i c is in omega (arith, small, later)))
  does n low later quiet (OfBounded b) (ReceiverOf k) = subst (λ m. Moves i o (get (part h k).channels o) (get (part (step_by h i (OfBounded b)).hall k).channels o) m) (sym (moved-bounded h k b (step_by h i (OfBounded b)).reply o))
      (Rests (get (part h k).channels o) (get (part (step_by h i (OfBounded b)).hall k).channels o) (ap (λ (m : Mailboxes). queued_in (get m.channels o)) (beside_bounded h (bounded_act h.bounded i b).hall k)) (ap (λ (m : Mailboxes). ended_in (get m.channels o)) (beside_bounded h (bounded_act h.bounded i b).hall k)))
  does n low later quiet (OfBounded b) ReceiverOfBounded = bounded_moves i o h.bounded (quiet ReceiverOfBounded)
      (none_if (get h.bounded.mail.channels i) (λ c is. absurd (let small = (low ReceiverOfBounded).lows i c is in omega (arith, small, later)))) b
  does n low later quiet (OfBroadcasts a) j = rw (beside_broadcasts h (broadcast_act h.broadcasts i a).hall j, moved-broadcasts h j a (broadcast_act h.broadcasts i a).reply o) (Rests (get (mail h j).channels o) (get (mail h j).channels o) refl refl)
  does n low later quiet (OfBoxes k a) j = rw (beside, moved-boxes) (Rests (get (mail h j).channels o) (get (mail h j).channels o) refl refl)

quiet_by : (p : Option Mailbox) (m : Moved) (c : Mailbox) → p ≡ Some c → Good p m → c.ended ≡ true → c.queued ≡ []
quiet_by p m c is good ended = sym (ap queued_in is) ∙ good.ended (ap ended_in is ∙ ended)

all_good : (r : RunOf chans_family) → IsRun chans_family r → (k : ReceiverKind) (o : ℕ) → AllGood r k o
all_good _ Starts k o = at k
  where
    at : (k : ReceiverKind) → AllGood (record { hall = empty_hall; trace = []; next = 0 }) k o
    at (ReceiverOf Unbounded) = record { good = rw (get-empty nat_cmp o) (record { order = refl; lives = λ is. absurd (cc); ended = λ is. refl }); fresh = λ low. refl }
    at _ = record { good = rw (get-empty nat_cmp o) (record { order = refl; lives = λ is. absurd (cc); ended = λ is. refl }); fresh = λ low. refl }
all_good _ (Goes r i e runs later cause) k o =
    let before = all_good r runs in
    let step = does r.hall i o r.next (lows r runs) later (λ k q c is. quiet_by _ _ c is (before k q).good) (meaning_of e) k in
    record {
      good = good_after i o _ _ (moved k o r.trace) _ step (λ same. (before k o).fresh (omega (arith, later, same))) (before k o).good;
      fresh = λ low. ap (λ vs. vs ++ (moved_at r.hall k (meaning_of e) (step_by r.hall i (meaning_of e)).reply o).fallen) ((before k o).fresh (omega (arith, later, low)))
          ∙ none_falls i o _ _ _ step (ap queued_in (no_channel low));
    }
  where
    no_channel : i + 1 ≤ o → get (mail r.hall k).channels o ≡ None
    no_channel low = none_if (get (mail r.hall k).channels o) (λ c is. absurd (let small = (lows r runs k).lows o c is in omega (arith, small, later, low)))

pub in_order : (r : RunOf chans_family) → IsRun chans_family r → (k : ReceiverKind) (o : ℕ) → (moved k o r.trace).accepted ≡ (moved k o r.trace).received ++ ((moved k o r.trace).fallen ++ queued_in (get (mail r.hall k).channels o))
in_order r runs k o = (all_good r runs k o).good.order

pub living : (r : RunOf chans_family) → IsRun chans_family r → (k : ReceiverKind) (o : ℕ) (c : Mailbox) → get (mail r.hall k).channels o ≡ Some c → c.ended ≡ false → (moved k o r.trace).fallen ≡ []
living r runs k o c is lives = (all_good r runs k o).good.lives (ap ended_in is ∙ lives)

pub over : (r : RunOf chans_family) → IsRun chans_family r → (k : ReceiverKind) (o : ℕ) (c : Mailbox) → get (mail r.hall k).channels o ≡ Some c → c.ended ≡ true → c.queued ≡ []
over r runs k o c is ended = quiet_by _ _ c is (all_good r runs k o).good ended
