-- what each action changes: one channel and one receiver at the most
use Rattle.std.proofs.Common.{◌≡◌, ℕ, ◌+◌, ◌-◌, ◌≤◌, ◌<◌, ◌==◌, ◌⊎◌, inl, inr, Bool, true, false, cond, List, [], ◌∷◌, ◌++◌, length, Option, Some, None, option_to_list, if◌then◌else◌, refl, ap, sym, subst, ◌∙◌, arith}
use Rattle.std.specs.List.{Contains}
use Rattle.std.specs.FinMap.{get, insert, remove}
use Rattle.std.proofs.lemmas.Bool.{eqb-true, eqb-false, eq-eqb}
use Rattle.std.proofs.lemmas.List.Elements.{Contains-push}
use Rattle.mea_family.specs.declared.answer.Answer.TheVariants as answers
use Rattle.mea_family.specs.declared.stop.Stop.{Stop}
use Rattle.mea_family.specs.declared.stop.Stop.TheVariants as stops
use Rattle.mea_family.specs.Family.{Outcome, quietly}
use Rattle.mea_base.proofs.Maps.{get-gone, get-other}
use Rattle.mea_by_name.specs.ByName.{Names}
use Rattle.mea_family.specs.Play.{found}
use Rattle.mea_by_name.proofs.Cases.{by_found, by_if}
use Rattle.mea_chan_model.specs.Mailboxes as mailboxes
use Rattle.mea_chan_model.specs.Mailboxes.{Mailbox, Mailboxes, Receiver, new_mailbox, kept, waker_in, woken, is_over, tidied_channels, with_message, woken_by_send, without_senders, less_sender, woken_by_end, without_receiver}
use Rattle.mea_chan_model.specs.MailboxActions.{Action, Make, Copy, Send, SendLast, EndSender, Receive, Poll, EndReceiver, IntoFuture, TellClosed, TellOver, TellMessage, act_in, registers_in, polled_in, ends_in}

-- what has no cause is known, where it may be refused for another too
pub known_but : (known other : Bool) (stop : Stop) → (if known then (if other then Some stop else None) else Some stops.Unknown) ≡ None → known ≡ true
known_but true other stop is = refl
known_but false other stop is = absurd (cc)

-- ---- one channel

-- while a waker is kept nothing is queued, and a sender lives
pub record Awake (c : Mailbox) : Type 0 where
  pub waits : (w : ℕ) → c.waker ≡ Some w → (c.queued ≡ []) × (0 < c.senders)

-- a channel, or none
abbrev pub AwakeIn : Option Mailbox → Type 0
AwakeIn None = Unit {0}
AwakeIn (Some c) = Awake c

abbrev pub kept_in : Option Mailbox → ℕ
kept_in None = 0
kept_in (Some c) = kept c

-- a channel became this, or is gone, and woke ws; so many wakers more were registered at the most
pub record Becomes (c : Mailbox) (c' : Option Mailbox) (ws : List ℕ) (extra : ℕ) : Type 0 where
  pub fits : kept_in c' + length ws ≤ kept c + extra
  pub most : length ws ≤ kept c
  pub awake : Awake c → AwakeIn c'

-- its waker is kept, or woken
abbrev pub Keeps : Mailbox → Option Mailbox → List ℕ → Type 0
Keeps c c' ws = Awake c → (w : ℕ) → c.waker ≡ Some w → (waker_in c' ≡ Some w) ⊎ Contains ws w

-- what is left of a channel
abbrev pub left : Mailbox → Option Mailbox
left c = if is_over c then None else Some c

-- the channel of this name is this now, or gone
abbrev pub after : Names Mailbox → ℕ → Option Mailbox → Names Mailbox
after cs o None = remove cs o
after cs o (Some c) = insert cs o c

pub left_is : (cs : Names Mailbox) (o : ℕ) (c : Mailbox) → tidied_channels cs o c ≡ after cs o (left c)
left_is cs o c = elim (is_over c) as (λ b. (if b then remove cs o else insert cs o c) ≡ after cs o (if b then None else Some c)) [ true ↦ refl | false ↦ refl ]

left_becomes : (c c' : Mailbox) (ws : List ℕ) (extra : ℕ) → Becomes c (Some c') ws extra → Becomes c (left c') ws extra
left_becomes c c' ws extra is = by_if (λ p. Becomes c p ws extra) (is_over c') None (Some c') (λ over. record { fits = omega (arith, is.fits); most = is.most; awake = λ awake. tt }) (λ stays. is)

no_waker : (w : ℕ) → ◌≡◌ {A = Option ℕ} None (Some w) → ⊥
no_waker w is = absurd (cc)

same_waker : (v w : ℕ) → ◌≡◌ {A = Option ℕ} (Some v) (Some w) → v ≡ w
same_waker v w is = cc

contained : (o : Option ℕ) (w : ℕ) → o ≡ Some w → Contains (option_to_list o) w
contained None w is = absurd (no_waker w is)
contained (Some v) w is = subst (Contains (v ∷ [])) (same_waker v w is) (Contains-push [] v)

-- ---- what each change of a channel keeps
same_becomes : (c : Mailbox) (extra : ℕ) → Becomes c (Some c) [] extra
same_becomes c extra = record { fits = omega arith; most = omega arith; awake = λ awake. awake }

copied_becomes : (c : Mailbox) → Becomes c (Some (record c { senders = c.senders + 1 })) [] 0
copied_becomes c = record { fits = omega arith; most = omega arith; awake = λ awake. record { waits = λ w is. ((awake.waits w is).0, omega arith) } }

-- where no waker is left, whoever had one is woken
all_woken : (c c' : Mailbox) → c'.waker ≡ None → Becomes c (Some c') (woken c) 0
all_woken c c' none =
    let nothing : kept c' ≡ 0 = ap (λ (o : Option ℕ). length (option_to_list o)) none in
    record { fits = omega (arith, nothing); most = omega arith; awake = λ awake. record { waits = λ w is. absurd (no_waker w (sym none ∙ is)) } }

sent_becomes : (c : Mailbox) (v : ℕ) → Becomes c (Some (with_message c v)) (woken_by_send c) 0
sent_becomes c v = at c.ended
  where
    at : (b : Bool) → Becomes c (Some (if b then c else record c { queued = c.queued ++ v ∷ []; waker = None })) (if b then [] else woken c) 0
    at true = same_becomes c 0
    at false = all_woken c (record c { queued = c.queued ++ v ∷ []; waker = None }) refl

sent_keeps : (c : Mailbox) (v : ℕ) → Keeps c (Some (with_message c v)) (woken_by_send c)
sent_keeps c v awake w is = elim c.ended as (λ b. (waker_in (Some (if b then c else record c { queued = c.queued ++ v ∷ []; waker = None })) ≡ Some w) ⊎ Contains (if b then [] else woken c) w) [ true ↦ inl is | false ↦ inr (contained c.waker w is) ]

less_becomes : (c : Mailbox) → Becomes c (Some (less_sender c)) (woken_by_end c) 0
less_becomes c = at (c.senders == 1) refl
  where
    at : (b : Bool) → (c.senders == 1) ≡ b → Becomes c (Some (if b then without_senders c else record c { senders = c.senders - 1 })) (if b then woken c else []) 0
    at true is = all_woken c (without_senders c) refl
    at false is = record {
      fits = omega arith;
      most = omega arith;
      awake = λ awake. record { waits = λ w kept. let some = (awake.waits w kept).1 in let more = eqb-false c.senders 1 is in ((awake.waits w kept).0, omega (arith, some, more)) };
    }

less_keeps : (c : Mailbox) → Keeps c (left (less_sender c)) (woken_by_end c)
less_keeps c awake w is = at (c.senders == 1) refl
  where
    over : (ended : Bool) (n : ℕ) → (if ended then n == 0 else false) ≡ true → n ≡ 0
    over true n h = eqb-true n 0 h
    over false n h = absurd (cc)

    at : (b : Bool) → (c.senders == 1) ≡ b → (waker_in (left (if b then without_senders c else record c { senders = c.senders - 1 })) ≡ Some w) ⊎ Contains (if b then woken c else []) w
    at true one = inr (contained c.waker w is)
    at false more = by_if (λ p. (waker_in p ≡ Some w) ⊎ Contains [] w) (is_over (record c { senders = c.senders - 1 })) None (Some (record c { senders = c.senders - 1 }))
        (λ gone. absurd (let none = over c.ended (c.senders - 1) gone in let some = (awake.waits w is).1 in let apart = eqb-false c.senders 1 more in omega (arith, none, some, apart))) (λ stays. inl is)

received_becomes : (c : Mailbox) (v : ℕ) (rest : List ℕ) → c.queued ≡ v ∷ rest → Becomes c (Some (record c { queued = rest })) [] 0
received_becomes c v rest queue = record { fits = omega arith; most = omega arith; awake = λ awake. record { waits = λ w is. absurd (let none = sym queue ∙ (awake.waits w is).0 in cc) } }

waits_becomes : (c : Mailbox) (w : ℕ) → c.queued ≡ [] → (c.senders == 0) ≡ false → Becomes c (Some (record c { waker = Some w })) [] 1
waits_becomes c w queue some = record { fits = omega arith; most = omega arith; awake = λ awake. record { waits = λ v is. (queue, let more = eqb-false c.senders 0 some in omega (arith, more)) } }

ended_becomes : (c : Mailbox) (falls : Bool) → Becomes c (Some (without_receiver falls c)) [] 0
ended_becomes c true = record { fits = omega arith; most = omega arith; awake = λ awake. record { waits = λ w is. absurd (no_waker w is) } }
ended_becomes c false = record { fits = omega arith; most = omega arith; awake = λ awake. record { waits = λ w is. (refl, (awake.waits w is).1) } }

-- ---- an event
module _ (h : Mailboxes) (i : ℕ) where
  -- a receiver of the channel of this name
  pub record Mine (k o : ℕ) : Type 0 where
    pub x : Receiver
    pub there : get h.receivers k ≡ Some x
    pub of : x.channel ≡ o

  -- event number i, which touches the receiver k at the most and wakes ws, does this to the channels: nothing; one
  -- becomes another or is gone, whose waker is kept or woken, or k is its receiver; one is made
  pub data ChannelsGo (k extra : ℕ) : Names Mailbox → List ℕ → Type 0 where
    Same : ChannelsGo k extra h.channels []
    At : (o : ℕ) (c : Mailbox) (c' : Option Mailbox) (ws : List ℕ) → get h.channels o ≡ Some c → Becomes c c' ws extra → Mine k o ⊎ Keeps c c' ws → ChannelsGo k extra (after h.channels o c') ws
    Made : ChannelsGo k extra (insert h.channels i new_mailbox) []

  -- and this to the receivers: nothing; one is made with its channel; k becomes a future; k is gone
  pub data ReceiversGo (k : ℕ) : Names Receiver → Type 0 where
    Stay : ReceiversGo k h.receivers
    Come : (x : Receiver) → x.channel ≡ i → ReceiversGo k (insert h.receivers i x)
    Change : (x y : Receiver) → get h.receivers k ≡ Some x → y.channel ≡ x.channel → ReceiversGo k (insert (remove h.receivers k) i y)
    Leave : ReceiversGo k (remove h.receivers k)

  -- why k is no receiver that lived before and is neither polled nor ended
  pub data Touches (a : Action) (k : ℕ) : Type 0 where
    Fresh : k ≡ i → Touches a k
    Polled : (w : ℕ) → polled_in a k ≡ Some w → Touches a k
    Ends : ends_in a k ≡ true → Touches a k

  pub record Goes (a : Action) (extra : ℕ) (o : Outcome Mailboxes) : Type 0 where
    pub k : ℕ
    pub touches : Touches a k
    pub channels : ChannelsGo k extra o.hall.channels o.wakes
    pub receivers : ReceiversGo k o.hall.receivers
    -- who is ended is gone
    pub over : get h.receivers i ≡ None → (r : ℕ) → ends_in a r ≡ true → get o.hall.receivers r ≡ None

  -- ---- an action that ends no receiver
  module _ (a : Action) (none : (r : ℕ) → ends_in a r ≡ true → ⊥) where
    still : (extra : ℕ) (reply : _) → Goes a extra (quietly h reply)
    still extra reply = record { k = i; touches = Fresh refl; channels = Same; receivers = Stay; over = λ fresh r is. absurd (none r is) }

    -- at the channel of a sender, and of a receiver
    by_sender : (s extra : ℕ) (act : ℕ → Mailbox → Outcome Mailboxes) → ((o : ℕ) (c : Mailbox) → get h.channels o ≡ Some c → Goes a extra (act o c))
        → Goes a extra (found (get h.senders s) h (λ o. found (get h.channels o) h (act o)))
    by_sender s extra act does = by_found (Goes a extra) (get h.senders s) h _ (still extra answers.Done) (λ o sender. by_found (Goes a extra) (get h.channels o) h _ (still extra answers.Done) (λ c there. does o c there))

    by_receiver : (r extra : ℕ) (act : ℕ → Mailbox → Outcome Mailboxes) → ((x : Receiver) (c : Mailbox) → get h.receivers r ≡ Some x → get h.channels x.channel ≡ Some c → Goes a extra (act x.channel c))
        → Goes a extra (found (get h.receivers r) h (λ x. found (get h.channels x.channel) h (act x.channel)))
    by_receiver r extra act does = by_found (Goes a extra) (get h.receivers r) h _ (still extra answers.Done) (λ x receiver. by_found (Goes a extra) (get h.channels x.channel) h _ (still extra answers.Done) (λ c there. does x c receiver there))

    copies : (o : ℕ) (c : Mailbox) → get h.channels o ≡ Some c → Goes a 0 (mailboxes.copy h i o c)
    copies o c there = record { k = i; touches = Fresh refl; channels = At o c _ [] there (copied_becomes c) (inr (λ awake w is. inl is)); receivers = Stay; over = λ fresh r is. absurd (none r is) }

    sends : (v o : ℕ) (c : Mailbox) → get h.channels o ≡ Some c → Goes a 0 (mailboxes.send h o v c)
    sends v o c there = record { k = i; touches = Fresh refl; channels = At o c _ _ there (sent_becomes c v) (inr (sent_keeps c v)); receivers = Stay; over = λ fresh r is. absurd (none r is) }

    sends_last : (s v o : ℕ) (c : Mailbox) → get h.channels o ≡ Some c → Goes a 0 (mailboxes.send_last h s v o c)
    sends_last s v o c there = record {
      k = i;
      touches = Fresh refl;
      channels = subst (λ cs. ChannelsGo i 0 cs (woken c)) (sym (left_is h.channels o (without_senders (with_message c v))))
          (At o c _ _ there (left_becomes c (without_senders (with_message c v)) (woken c) 0 (all_woken c (without_senders (with_message c v)) refl)) (inr (λ awake w is. inr (contained c.waker w is))));
      receivers = Stay;
      over = λ fresh r is. absurd (none r is);
    }

    ends_sender : (s o : ℕ) (c : Mailbox) → get h.channels o ≡ Some c → Goes a 0 (mailboxes.end_sender h s o c)
    ends_sender s o c there = record {
      k = i;
      touches = Fresh refl;
      channels = subst (λ cs. ChannelsGo i 0 cs (woken_by_end c)) (sym (left_is h.channels o (less_sender c)))
          (At o c _ _ there (left_becomes c (less_sender c) (woken_by_end c) 0 (less_becomes c)) (inr (less_keeps c)));
      receivers = Stay;
      over = λ fresh r is. absurd (none r is);
    }

    receives : (o : ℕ) (c : Mailbox) (q : List ℕ) → c.queued ≡ q → get h.channels o ≡ Some c → Goes a 0 (mailboxes.receive_of h o c q)
    receives o c [] queue there = still 0 _
    receives o c (v ∷ rest) queue there = record { k = i; touches = Fresh refl; channels = At o c _ [] there (received_becomes c v rest queue) (inr (λ awake w is. inl is)); receivers = Stay; over = λ fresh r is. absurd (none r is) }

    polls : (r w o : ℕ) (x : Receiver) (c : Mailbox) (q : List ℕ) → polled_in a r ≡ Some w → get h.receivers r ≡ Some x → x.channel ≡ o → c.queued ≡ q → get h.channels o ≡ Some c → Goes a 1 (mailboxes.poll_of h w o c q)
    polls r w o x c [] is mine of queue there = by_if (Goes a 1) (c.senders == 0) _ _ (λ gone. still 1 answers.Gone) (λ some. record {
      k = r;
      touches = Polled w is;
      channels = At o c _ [] there (waits_becomes c w queue some) (inl (record { x = x; there = mine; of = of }));
      receivers = Stay;
      over = λ fresh r is. absurd (none r is);
    })
    polls r w o x c (v ∷ rest) is mine of queue there = record {
      k = r;
      touches = Polled w is;
      channels = At o c _ [] there (more (received_becomes c v rest queue)) (inr (λ awake w is. inl is));
      receivers = Stay;
      over = λ fresh r is. absurd (none r is);
    }
      where
        more : Becomes c (Some (record c { queued = rest })) [] 0 → Becomes c (Some (record c { queued = rest })) [] 1
        more b = record { fits = omega (arith, b.fits); most = b.most; awake = b.awake }

  makes : (polls : Bool) → Goes (Make polls) 0 (mailboxes.make h i polls)
  makes polls = record { k = i; touches = Fresh refl; channels = Made; receivers = Come _ refl; over = λ fresh r is. absurd (cc) }

  -- ---- a receiver ends, or becomes a future
  module _ (q : ℕ) where
    gone : (r : ℕ) → (q == r) ≡ true → get (remove h.receivers q) r ≡ None
    gone r is = ap (get (remove h.receivers q)) (sym (eqb-true q r is)) ∙ get-gone h.receivers q

    absent : (r : ℕ) → get h.receivers q ≡ None → (q == r) ≡ true → get h.receivers r ≡ None
    absent r none is = ap (get h.receivers) (sym (eqb-true q r is)) ∙ none

    ends_receiver : (polls falls : Bool) → Goes (EndReceiver q polls falls) 0 (act_in h i (EndReceiver q polls falls))
    ends_receiver polls falls = at (get h.receivers q) refl
      where
        at_channel : (x : Receiver) (p : Option Mailbox) → get h.receivers q ≡ Some x → get h.channels x.channel ≡ p
            → Goes (EndReceiver q polls falls) 0 (found p (mailboxes.leaving h q) (mailboxes.end_receiver (mailboxes.leaving h q) falls x.channel))
        at_channel x None mine lost = record { k = q; touches = Ends (eq-eqb q q refl); channels = Same; receivers = Leave; over = λ fresh r is. gone r is }
        at_channel x (Some c) mine there = record {
          k = q;
          touches = Ends (eq-eqb q q refl);
          channels = subst (λ cs. ChannelsGo q 0 cs []) (sym (left_is h.channels x.channel (without_receiver falls c)))
              (At x.channel c _ [] there (left_becomes c (without_receiver falls c) [] 0 (ended_becomes c falls)) (inl (record { x = x; there = mine; of = refl })));
          receivers = Leave;
          over = λ fresh r is. gone r is;
        }

        at : (p : Option Receiver) → get h.receivers q ≡ p
            → Goes (EndReceiver q polls falls) 0 (found p h (λ x. found (get h.channels x.channel) (mailboxes.leaving h q) (mailboxes.end_receiver (mailboxes.leaving h q) falls x.channel)))
        at None none = record { k = i; touches = Fresh refl; channels = Same; receivers = Stay; over = λ fresh r is. absent r none is }
        at (Some x) mine = at_channel x (get h.channels x.channel) mine refl

    becomes_future : Goes (IntoFuture q) 0 (act_in h i (IntoFuture q))
    becomes_future = at (get h.receivers q) refl
      where
        at : (p : Option Receiver) → get h.receivers q ≡ p → Goes (IntoFuture q) 0 (found p h (mailboxes.into_future h i q))
        at None none = record { k = i; touches = Fresh refl; channels = Same; receivers = Stay; over = λ fresh r is. absent r none is }
        at (Some x) mine = record {
          k = q;
          touches = Ends (eq-eqb q q refl);
          channels = Same;
          receivers = Change x _ mine refl;
          over = λ fresh r is. get-other (remove h.receivers q) i r _ (λ same. absurd (let here = ap (get h.receivers) (same ∙ sym (eqb-true q r is)) in let clash = sym fresh ∙ here ∙ mine in cc)) ∙ gone r is;
        }

pub goes : (h : Mailboxes) (i : ℕ) (a : Action) → Goes h i a (cond (registers_in a) 1 0) (act_in h i a)
goes h i (Make polls) = makes h i polls
goes h i (Copy s) = by_sender h i (Copy s) (λ r is. absurd (cc)) s 0 _ (copies h i (Copy s) (λ r is. absurd (cc)))
goes h i (Send s v) = by_sender h i (Send s v) (λ r is. absurd (cc)) s 0 _ (sends h i (Send s v) (λ r is. absurd (cc)) v)
goes h i (SendLast s v) = by_sender h i (SendLast s v) (λ r is. absurd (cc)) s 0 _ (sends_last h i (SendLast s v) (λ r is. absurd (cc)) s v)
goes h i (EndSender s) = by_sender h i (EndSender s) (λ r is. absurd (cc)) s 0 _ (ends_sender h i (EndSender s) (λ r is. absurd (cc)) s)
goes h i (Receive r polls) = by_receiver h i (Receive r polls) (λ q is. absurd (cc)) r 0 _ (λ x c receiver there. receives h i (Receive r polls) (λ q is. absurd (cc)) x.channel c c.queued refl there)
goes h i (Poll r w) = by_receiver h i (Poll r w) (λ q is. absurd (cc)) r 1 _
    (λ x c receiver there. polls h i (Poll r w) (λ q is. absurd (cc)) r w x.channel x c c.queued (ap (λ b. cond b (Some w) None) (eq-eqb r r refl)) receiver refl refl there)
goes h i (EndReceiver r polls falls) = ends_receiver h i r polls falls
goes h i (IntoFuture r) = becomes_future h i r
goes h i (TellClosed s) = by_sender h i (TellClosed s) (λ r is. absurd (cc)) s 0 _ (λ o c there. still h i (TellClosed s) (λ r is. absurd (cc)) 0 _)
goes h i (TellOver r) = by_receiver h i (TellOver r) (λ q is. absurd (cc)) r 0 _ (λ x c receiver there. still h i (TellOver r) (λ q is. absurd (cc)) 0 _)
goes h i (TellMessage r) = by_receiver h i (TellMessage r) (λ q is. absurd (cc)) r 0 _ (λ x c receiver there. still h i (TellMessage r) (λ q is. absurd (cc)) 0 _)
