-- what the actions on mailboxes leave of what is queued at each channel, and of the senders
use Rattle.std.proofs.Common.{◌≡◌, ℕ, ◌+◌, ◌-◌, ◌≤◌, ◌==◌, ◌++◌, Bool, true, false, length, List, [], ◌∷◌, Option, Some, None, if◌then◌else◌, refl, ap, sym, ◌∙◌, arith, length-append}
use Rattle.std.specs.FinMap.{get}
use Rattle.mea_family.specs.declared.answer.Answer.TheVariants as answers
use Rattle.mea_family.specs.Family.{Outcome, quietly}
use Rattle.mea_base.proofs.Maps.{get-there, get-other, get-removed_other, removed_there}
use Rattle.mea_base.proofs.Tests.{by_name}
use Rattle.mea_family.specs.Play.{found}
use Rattle.mea_by_name.proofs.Cases.{by_found, by_if}
use Rattle.mea_chan_model.specs.Mailboxes as mailboxes
use Rattle.mea_chan_model.specs.Mailboxes.{Mailbox, Mailboxes, Receiver, is_over, with_message, without_senders, less_sender, without_receiver}
use Rattle.mea_chan_model.specs.MailboxActions.{Copy, Send, EndSender, Receive, Poll, EndReceiver, act_in}
use Rattle.mea_chan_model.specs.Bounded.{is_got}
use Rattle.mea_chan_model.specs.InOrder.{queued_in}
use Rattle.mea_chan_model.proofs.Acting.{after, left, left_is}
use Rattle.mea_chan_model.proofs.Wakers.{after-there, after-other, over_ended}

-- whether the receiver has ended; that of a channel that is gone has
abbrev pub ended_in : Option Mailbox → Bool
ended_in None = true
ended_in (Some c) = c.ended

-- a channel has at most so many messages less, and its receiver has ended as before
pub record Lessens (less : ℕ) (p q : Option Mailbox) : Type 0 where
  pub ended : ended_in q ≡ ended_in p
  pub queued : ended_in p ≡ false → length (queued_in p) ≤ length (queued_in q) + less

pub lessens_same : (p : Option Mailbox) → Lessens 0 p p
lessens_same p = record { ended = refl; queued = λ lives. omega arith }

pub lessens_at : (less : ℕ) (p q p' q' : Option Mailbox) → p ≡ p' → q ≡ q' → Lessens less p' q' → Lessens less p q
lessens_at less p q p' q' first second is = rw (first, second) is

lessens_left : (c d : Mailbox) → d.ended ≡ c.ended → length c.queued ≤ length d.queued → Lessens 0 (Some c) (left d)
lessens_left c d same more = by_if (λ p. Lessens 0 (Some c) p) (is_over d) None (Some d)
    (λ over. let gone = sym same ∙ over_ended d over in record { ended = sym gone; queued = λ lives. absurd (cc) })
    (λ stays. record { ended = same; queued = λ lives. omega (arith, more) })

lessens_sent : (c : Mailbox) (v : ℕ) → Lessens 0 (Some c) (Some (with_message c v))
lessens_sent c v = at c.ended refl
  where
    at : (b : Bool) → c.ended ≡ b → Lessens 0 (Some c) (Some (if b then c else record c { queued = c.queued ++ v ∷ []; waker = None }))
    at true is = lessens_same (Some c)
    at false is = record { ended = refl; queued = λ lives. omega (arith, length-append c.queued (v ∷ [])) }

lessens_ended : (c : Mailbox) → Lessens 0 (Some c) (left (less_sender c))
lessens_ended c = by_if (λ d. Lessens 0 (Some c) (left d)) (c.senders == 1) (without_senders c) (record c { senders = c.senders - 1 })
    (λ one. lessens_left c (without_senders c) refl (omega arith)) (λ more. lessens_left c (record c { senders = c.senders - 1 }) refl (omega arith))

module _ (m : Mailboxes) (i : ℕ) where
  -- each channel has at most so many messages less
  abbrev pub AllLessen : ℕ → Outcome Mailboxes → Type 0
  AllLessen less out = (q : ℕ) → Lessens less (get m.channels q) (get out.hall.channels q)

  at_one : (less o q : ℕ) (c : Mailbox) (d : Option Mailbox) → get m.channels o ≡ Some c → Lessens less (Some c) d → Lessens less (get m.channels q) (get (after m.channels o d) q)
  at_one less o q c d there is = by_name o q
      (λ same. lessens_at less _ _ (Some c) d (ap (get m.channels) (sym same) ∙ there) (ap (get (after m.channels o d)) (sym same) ∙ after-there m.channels o d) is)
      (λ apart. let still = after-other m.channels o q d apart in record { ended = ap ended_in still; queued = λ lives. let size = ap (λ p. length (queued_in p)) still in omega (arith, size) })

  by_sender : (s : ℕ) (act : ℕ → Mailbox → Outcome Mailboxes) → ((o : ℕ) (c : Mailbox) → get m.channels o ≡ Some c → AllLessen 0 (act o c)) → AllLessen 0 (found (get m.senders s) m (λ o. found (get m.channels o) m (act o)))
  by_sender s act does = by_found (AllLessen 0) (get m.senders s) m _ (λ q. lessens_same (get m.channels q)) (λ o is. by_found (AllLessen 0) (get m.channels o) m _ (λ q. lessens_same (get m.channels q)) (λ c there. does o c there))

  pub copy_lessens : (s : ℕ) → AllLessen 0 (act_in m i (Copy s))
  copy_lessens s = by_sender s _ (λ o c there q. at_one 0 o q c (Some (record c { senders = c.senders + 1 })) there (record { ended = refl; queued = λ lives. omega arith }))

  pub send_lessens : (s v : ℕ) → AllLessen 0 (act_in m i (Send s v))
  send_lessens s v = by_sender s _ (λ o c there q. at_one 0 o q c (Some (with_message c v)) there (lessens_sent c v))

  pub end_sender_lessens : (s : ℕ) → AllLessen 0 (act_in m i (EndSender s))
  end_sender_lessens s = by_sender s _ (λ o c there q. rw (left_is m.channels o (less_sender c)) (at_one 0 o q c (left (less_sender c)) there (lessens_ended c)))

  -- ---- a receive: where a message was received, its channel has one less
  pub record Took (o : ℕ) (out : Outcome Mailboxes) : Type 0 where
    pub none : is_got out.reply ≡ false → AllLessen 0 out
    pub one : Lessens 1 (get m.channels o) (get out.hall.channels o)
    pub others : (q : ℕ) → (o ≡ q → ⊥) → Lessens 0 (get m.channels q) (get out.hall.channels q)
    pub senders : out.hall.senders ≡ m.senders

  nothing_taken : (o : ℕ) (out : Outcome Mailboxes) → AllLessen 0 out → out.hall.senders ≡ m.senders → Took o out
  nothing_taken o out all senders = record { none = λ is. all; one = record { ended = (all o).ended; queued = λ lives. omega (arith, (all o).queued lives) }; others = λ q apart. all q; senders = senders }

  one_taken : (o v : ℕ) (c : Mailbox) (rest : List ℕ) → get m.channels o ≡ Some c → c.queued ≡ v ∷ rest → Took o (quietly (mailboxes.with_channel m o (record c { queued = rest })) (answers.Got v))
  one_taken o v c rest there queue = record {
    none = λ is. absurd (cc);
    one = at_one 1 o o c (Some (record c { queued = rest })) there (record { ended = refl; queued = λ lives. let all = ap (λ vs. length vs) queue in omega (arith, all) });
    others = λ q apart. let still = after-other m.channels o q (Some (record c { queued = rest })) apart in record { ended = ap ended_in still; queued = λ lives. let size = ap (λ p. length (queued_in p)) still in omega (arith, size) };
    senders = refl;
  }

  unmoved : (o : ℕ) (reply : _) → Took o (quietly m reply)
  unmoved o reply = nothing_taken o (quietly m reply) (λ q. lessens_same (get m.channels q)) refl

  receive_took : (o : ℕ) (c : Mailbox) (vs : List ℕ) → get m.channels o ≡ Some c → c.queued ≡ vs → Took o (mailboxes.receive_of m o c vs)
  receive_took o c [] there queue = unmoved o (if c.senders == 0 then answers.Gone else answers.Empty)
  receive_took o c (v ∷ rest) there queue = one_taken o v c rest there queue

  poll_took : (w o : ℕ) (c : Mailbox) (vs : List ℕ) → get m.channels o ≡ Some c → c.queued ≡ vs → Took o (mailboxes.poll_of m w o c vs)
  poll_took w o c [] there queue = by_if (Took o) (c.senders == 0) _ _ (λ gone. unmoved o answers.Gone)
      (λ some. nothing_taken o _ (λ q. at_one 0 o q c (Some (record c { waker = Some w })) there (record { ended = refl; queued = λ lives. omega arith })) refl)
  poll_took w o c (v ∷ rest) there queue = one_taken o v c rest there queue

  by_receiver : (r : ℕ) (x : Receiver) (act : ℕ → Mailbox → Outcome Mailboxes) → get m.receivers r ≡ Some x → ((c : Mailbox) → get m.channels x.channel ≡ Some c → Took x.channel (act x.channel c))
      → Took x.channel (found (get m.receivers r) m (λ x. found (get m.channels x.channel) m (act x.channel)))
  by_receiver r x act is does = rw is (by_found (Took x.channel) (get m.channels x.channel) m _ (unmoved x.channel answers.Done) does)

  pub received_took : (r : ℕ) (x : Receiver) (polls : Bool) → get m.receivers r ≡ Some x → Took x.channel (act_in m i (Receive r polls))
  received_took r x polls is = by_receiver r x (λ o c. mailboxes.receive_of m o c c.queued) is (λ c there. receive_took x.channel c c.queued there refl)

  pub polled_took : (r w : ℕ) (x : Receiver) → get m.receivers r ≡ Some x → Took x.channel (act_in m i (Poll r w))
  polled_took r w x is = by_receiver r x (λ o c. mailboxes.poll_of m w o c c.queued) is (λ c there. poll_took w x.channel c c.queued there refl)

  -- ---- the receiver ends
  pub end_receiver_others : (r : ℕ) (x : Receiver) (polls falls : Bool) → get m.receivers r ≡ Some x → (q : ℕ) → (x.channel ≡ q → ⊥) → Lessens 0 (get m.channels q) (get (act_in m i (EndReceiver r polls falls)).hall.channels q)
  end_receiver_others r x polls falls is q apart = rw is (by_found (λ (out : Outcome Mailboxes). Lessens 0 (get m.channels q) (get out.hall.channels q)) (get m.channels x.channel) (mailboxes.leaving m r) _ (lessens_same (get m.channels q))
      (λ c there. rw (left_is m.channels x.channel (without_receiver falls c), after-other m.channels x.channel q (left (without_receiver falls c)) apart) (lessens_same (get m.channels q))))

  pub end_receiver_senders : (r : ℕ) (polls falls : Bool) → (act_in m i (EndReceiver r polls falls)).hall.senders ≡ m.senders
  end_receiver_senders r polls falls = by_found (λ (out : Outcome Mailboxes). out.hall.senders ≡ m.senders) (get m.receivers r) m _ refl
      (λ x is. by_found (λ (out : Outcome Mailboxes). out.hall.senders ≡ m.senders) (get m.channels x.channel) (mailboxes.leaving m r) _ refl (λ c there. refl))

  -- ---- the senders
  pub send_senders : (s v : ℕ) → (act_in m i (Send s v)).hall.senders ≡ m.senders
  send_senders s v = by_found (λ (out : Outcome Mailboxes). out.hall.senders ≡ m.senders) (get m.senders s) m _ refl
      (λ o is. by_found (λ (out : Outcome Mailboxes). out.hall.senders ≡ m.senders) (get m.channels o) m _ refl (λ c there. refl))

  -- a further one is made, or not; s alone is gone, or not
  pub copy_senders : (s f : ℕ) → (i ≡ f → ⊥) → get (act_in m i (Copy s)).hall.senders f ≡ get m.senders f
  copy_senders s f apart = by_found (λ (out : Outcome Mailboxes). get out.hall.senders f ≡ get m.senders f) (get m.senders s) m _ refl
      (λ o is. by_found (λ (out : Outcome Mailboxes). get out.hall.senders f ≡ get m.senders f) (get m.channels o) m _ refl (λ c there. get-other m.senders i f o apart))

  pub end_sender_senders : (s f : ℕ) → (s ≡ f → ⊥) → get (act_in m i (EndSender s)).hall.senders f ≡ get m.senders f
  end_sender_senders s f apart = by_found (λ (out : Outcome Mailboxes). get out.hall.senders f ≡ get m.senders f) (get m.senders s) m _ refl
      (λ o is. by_found (λ (out : Outcome Mailboxes). get out.hall.senders f ≡ get m.senders f) (get m.channels o) m _ refl (λ c there. get-removed_other m.senders s f apart))

  pub end_sender_had : (s f o : ℕ) → get (act_in m i (EndSender s)).hall.senders f ≡ Some o → get m.senders f ≡ Some o
  end_sender_had s f o = by_found (λ (out : Outcome Mailboxes). get out.hall.senders f ≡ Some o → get m.senders f ≡ Some o) (get m.senders s) m _ (λ is. is)
      (λ q sender. by_found (λ (out : Outcome Mailboxes). get out.hall.senders f ≡ Some o → get m.senders f ≡ Some o) (get m.channels q) m _ (λ is. is) (λ c there is. removed_there m.senders s f o is))

  -- a message that a sender of o sends is queued there, unless the receiver has ended
  pub send_more : (s v o : ℕ) → get m.senders s ≡ Some o → ended_in (get (act_in m i (Send s v)).hall.channels o) ≡ false
      → (ended_in (get m.channels o) ≡ false) × (length (queued_in (get m.channels o)) + 1 ≤ length (queued_in (get (act_in m i (Send s v)).hall.channels o)))
  send_more s v o sender = rw sender (at (get m.channels o) refl)
    where
      after_of : Option Mailbox → Option Mailbox
      after_of p = get (found p m (mailboxes.send m o v)).hall.channels o

      at : (p : Option Mailbox) → get m.channels o ≡ p → ended_in (after_of p) ≡ false → (ended_in (get m.channels o) ≡ false) × (length (queued_in (get m.channels o)) + 1 ≤ length (queued_in (after_of p)))
      at None is = λ lives. absurd (cc)
      at (Some c) is = rw (is, get-there m.channels o (with_message c v)) (by_end c.ended refl)
        where
          by_end : (b : Bool) → c.ended ≡ b → ended_in (Some (if b then c else record c { queued = c.queued ++ v ∷ []; waker = None })) ≡ false
              → (c.ended ≡ false) × (length c.queued + 1 ≤ length (queued_in (Some (if b then c else record c { queued = c.queued ++ v ∷ []; waker = None }))))
          by_end true ended lives = absurd (cc)
          by_end false alive lives = (alive, omega (arith, length-append c.queued (v ∷ [])))
