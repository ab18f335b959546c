-- what each event does to bounded channels, as they are kept and as they are seen
use Rattle.std.proofs.Common.{◌≡◌, ℕ, ◌+◌, ◌-◌, ◌<◌, ◌≤◌, ◌^◌, ◌==◌, ◌++◌, Bool, true, false, length, List, [], ◌∷◌, map, Option, Some, None, option_to_list, is_some, Result, Ok, Err, refl, ap, sym, subst, ◌∙◌, arith, append-nil, if◌then◌else◌, nat_lt}
use Rattle.std.specs.Option.{IsSome, option_map}
use Rattle.std.specs.Ordering.{nat_cmp}
use Rattle.std.specs.FinMap.{get, insert, len, empty, len-empty}
use Rattle.mea_family.specs.declared.answer.Answer.{Answer}
use Rattle.mea_family.specs.declared.answer.Answer.TheVariants as answers
use Rattle.mea_family.specs.declared.stop.Stop.TheVariants as stops
use Rattle.mea_family.specs.Family.{Outcome, quietly}
use Rattle.mea_base.specs.Ready.{Waking}
use Rattle.std.proofs.lemmas.Bool.{eq-eqb}
use Rattle.mea_base.specs.Totals.{total, weight}
use Rattle.mea_base.proofs.Maps.{by_put, total-has, nothing_at, get-there, is_there}
use Rattle.mea_base.proofs.Totals.{total-insert, total-plus, total-alike}
use Rattle.mea_base.proofs.NamedMaps.{is_some-map, get-seen}
use Rattle.mea_by_name.specs.declared.named_waker.NamedWaker.{NamedWaker}
use Rattle.mea_by_name.specs.ByName.{Names, seen, own}
use Rattle.mea_by_name.specs.HallKept.{HallKept}
use Rattle.mea_by_name.specs.NamedQueue.{waits}
use Rattle.mea_by_name.specs.LackingQueue.{who}
use Rattle.mea_family.specs.Play.{Part, PartYields, PartRests, found}
use Rattle.mea_by_name.proofs.Cases.{found_is, if_true, if_false}
use Rattle.mea_by_name.proofs.Halls as halls
use Rattle.mea_by_name.proofs.LackingQueues.{length-who}
use Rattle.mea_by_name.proofs.Own.{seen-at, seen-back, seen-insert, seen-alike, total-seen, seen-empty, own-seen, len-seen, len-some, insert_same, Stays}
use Rattle.mea_sem_core.specs.Core.{Waiter, Acquires, Owes}
use Rattle.mea_sem_core.specs.Ones.{AskForOne}
use Rattle.mea_sem_core.specs.declared.acquire.Acquire.TheVariants.{Queued}
use Rattle.mea_chan_core.specs.declared.errors.TrySendError.TheVariants.{Full, Disconnected}
use Rattle.mea_chan_core.specs.declared.errors.TryRecvError.{TryRecvError}
use Rattle.mea_chan_core.specs.declared.errors.TryRecvError.TheVariants as try
use Rattle.mea_chan_core.specs.Mailbox as letters_core
use Rattle.mea_chan_core.specs.Bounded as core
use Rattle.mea_chan_core.specs.Woken.{IsChannel}
use Rattle.mea_chan_model.specs.Mailboxes as mailboxes
use Rattle.mea_chan_model.specs.Mailboxes.{Mailboxes, is_channel, is_sender, is_receiver, polls_as}
use Rattle.mea_chan_model.specs.MailboxActions as actions
use Rattle.mea_chan_model.specs.MailboxActions.{Action, act_in}
use Rattle.mea_chan_model.specs.Bounded as model
use Rattle.mea_chan_model.specs.Bounded.{Bounded, Room, BoundedSend, registered, is_full, is_send, no_bounded}
use Rattle.mea_chan_model.specs.declared.bounded_action.BoundedAction.{BoundedAction}
use Rattle.mea_chan_model.specs.declared.bounded_action.BoundedAction.TheVariants.{CopySender, TrySend, TryReceive, PollReceive, EndSender}
use Rattle.mea_chan_model.specs.BoundedActions.{bounded_act, bounded_cause}
use Rattle.mea_chan_model.specs.Sends.{granted_at, granted_of, queue_in}
use Rattle.mea_chan_model.specs.Valid.{AreValid}
use Rattle.mea_chan_model.proofs.Acting.{known_but}
use Rattle.mea_cores_by_name.specs.Linked.{names_in, AreOf, Linked}
use Rattle.mea_chan.specs.declared.receiver_entry.ReceiverEntry.{ReceiverEntry}
use Rattle.mea_chan.specs.declared.sender_entry.SenderEntry.{SenderEntry}
use Rattle.mea_chan.specs.Cores.{Mailbox, message_sent, sent_answer, is_over, ReceivesBy}
use Rattle.mea_chan.specs.Entries.{told, poll_told}
use Rattle.mea_chan.specs.BoundedCores.{NamedChannel, KeptSend, as_mailbox, kept_by, handed_on, polled_as, HandsOn, tried_told}
use Rattle.mea_chan.specs.BoundedParts.{room_seen, send_seen, channel_of_sender, bounded_seen, acquires_of, AreLinked, AreCounted, IsKeptBounded, of_channel, of_sender, itself}
use Rattle.mea_chan.specs.BoundedLends.{StandsForBounded}
use Rattle.mea_chan.specs.MailboxParts.{channel_seen, receiver_seen, mailboxes_seen, AreKeptMailboxes, of_sender as mine}
use Rattle.mea_chan.proofs.BoundedSteps.{made, left}
use Rattle.mea_chan.proofs.BoundedGrants.{own_granted, all_granted}
use Rattle.mea_chan.proofs.OneChannel as one
use Rattle.mea_chan.proofs.MailboxEvents as mail
use Rattle.mea_chan.proofs.MailboxEvents.{Site}
use Rattle.mea_cores_by_name.proofs.Waiters.{length-names}

-- a channel may be made where it has room
pub none_room : (n : ℕ) → n ≡ 0 → (if n == 0 then Some stops.Zero else None) ≡ Some stops.Zero
none_room n zero = ap (λ b. if b then Some stops.Zero else None) (eq-eqb n 0 zero)

abbrev pub part_of : Names NamedChannel → Names SenderEntry → Names ReceiverEntry → Names KeptSend → ℕ → Part Bounded
part_of cs ss rs xs next = record { hall = bounded_seen cs ss rs xs; next = next }

-- the mailboxes of them
abbrev pub mail_part : Names NamedChannel → Names SenderEntry → Names ReceiverEntry → ℕ → Part Mailboxes
mail_part cs ss rs next = record { hall = mailboxes_seen (seen as_mailbox cs) (seen channel_of_sender ss) rs; next = next }

-- ---- how many wakers are kept
abbrev pub kept_in : Names NamedChannel → ℕ
kept_in cs = total (λ o c. kept_by c) cs

length-seen : (o : Option NamedWaker) → length (option_to_list (option_map (λ (k : NamedWaker). k.waker) o)) ≡ length (option_to_list o)
length-seen None = refl
length-seen (Some k) = refl

pub registered_is : (cs : Names NamedChannel) (ss : Names SenderEntry) (rs : Names ReceiverEntry) (xs : Names KeptSend) → registered (bounded_seen cs ss rs xs) ≡ kept_in cs
registered_is cs ss rs xs =
    let first = total-seen channel_seen (λ (c : mailboxes.Mailbox). length (option_to_list c.waker)) (seen as_mailbox cs) in
    let second = total-seen as_mailbox (λ m. length (option_to_list m.waker)) cs in
    let wakers : total (λ o (c : NamedChannel). length (option_to_list (as_mailbox c).waker)) cs ≡ total (λ o (c : NamedChannel). length (option_to_list c.waker)) cs
    = total-alike (λ o (c : NamedChannel). length (option_to_list (as_mailbox c).waker)) (λ o (c : NamedChannel). length (option_to_list c.waker)) cs cs (λ k. at_waker k (get cs k)) in
    let rooms = total-seen room_seen (λ (r : Room). length (model.waiting_at r)) cs in
    let queues : total (λ o (c : NamedChannel). length (who (names_in c.waiting.queue))) cs ≡ total (λ o (c : NamedChannel). length c.waiting.queue) cs
    = total-alike (λ o (c : NamedChannel). length (who (names_in c.waiting.queue))) (λ o (c : NamedChannel). length c.waiting.queue) cs cs (λ k. at_queue k (get cs k)) in
    let both = total-plus (λ o (c : NamedChannel). length (option_to_list c.waker)) (λ o (c : NamedChannel). length c.waiting.queue) cs in
    omega (arith, first, second, wakers, rooms, queues, both)
  where
    at_waker : (k : ℕ) (o : Option NamedChannel) → weight (λ o (c : NamedChannel). length (option_to_list (as_mailbox c).waker)) k o ≡ weight (λ o (c : NamedChannel). length (option_to_list c.waker)) k o
    at_waker k None = refl
    at_waker k (Some c) = length-seen c.waker

    at_queue : (k : ℕ) (o : Option NamedChannel) → weight (λ o (c : NamedChannel). length (who (names_in c.waiting.queue))) k o ≡ weight (λ o (c : NamedChannel). length c.waiting.queue) k o
    at_queue k None = refl
    at_queue k (Some c) = length-who (names_in c.waiting.queue) ∙ length-names c.waiting.queue

-- ---- what is looked up in channels that are seen so
module _ {old : Part Bounded} (cs : Names NamedChannel) (ss : Names SenderEntry) (rs : Names ReceiverEntry) (xs : Names KeptSend) (next : ℕ) (view : ◌≡◌ {A = Part Bounded} (part_of cs ss rs xs next) old) where
  mail_view : ◌≡◌ {A = Part Mailboxes} (mail_part cs ss rs next) (record { hall = old.hall.mail; next = old.next })
  mail_view i = record { hall = (view i).hall.mail; next = (view i).next }

  pub channel_is : (o : ℕ) (p : Option NamedChannel) → get cs o ≡ p → is_some p ≡ is_channel old.hall.mail o
  channel_is o p is = sym (is_some-map as_mailbox p) ∙ mail.channel_is (seen as_mailbox cs) (seen channel_of_sender ss) rs next mail_view o (option_map as_mailbox p) (get-seen (λ k c. as_mailbox c) cs o ∙ ap (option_map as_mailbox) is)

  pub stands_for_it : IsKeptBounded cs ss rs xs next → (o : ℕ) (c : NamedChannel) → get cs o ≡ Some c → StandsForBounded old.hall o c
  stands_for_it kept o c there = record {
    mailbox = ap (λ (p : Part Bounded). get p.hall.mail.channels o) (sym view) ∙ seen-at channel_seen (seen as_mailbox cs) o (as_mailbox c) (seen-at as_mailbox cs o c there);
    room = ap (λ (p : Part Bounded). get p.hall.rooms o) (sym view) ∙ seen-at room_seen cs o c there;
    granted = λ is. ap (λ (p : Part Bounded). granted_at p.hall o) (sym view) ∙ ap (λ r. granted_of (queue_in r) (seen send_seen xs) o) (seen-at room_seen cs o c there)
        ∙ all_granted c xs o ∙ own_granted c (own of_channel o xs) (kept.linked.each o c there).linked is;
  }

  pub sender_is : (s : ℕ) (p : Option SenderEntry) → get ss s ≡ p → is_some p ≡ is_sender old.hall.mail s
  sender_is s p is = sym (is_some-map channel_of_sender p) ∙ sym (ap is_some (get-seen (λ k y. channel_of_sender y) ss s ∙ ap (option_map channel_of_sender) is)) ∙ ap (λ (p : Part Bounded). is_sender p.hall.mail s) view

  pub send_is : (f : ℕ) (p : Option KeptSend) → get xs f ≡ p → is_some p ≡ is_send old.hall f
  send_is f p is = sym (is_some-map send_seen p) ∙ sym (ap is_some (get-seen (λ k x. send_seen x) xs f ∙ ap (option_map send_seen) is)) ∙ ap (λ (p : Part Bounded). is_send p.hall f) view

  pub receiver_is : (r : ℕ) (p : Option ReceiverEntry) → get rs r ≡ p → polls_as (option_map receiver_seen p) true ≡ is_receiver old.hall.mail r true
  receiver_is r p is = mail.receiver_is (seen as_mailbox cs) (seen channel_of_sender ss) rs next mail_view r p is true

  pub crowded_is : (s : ℕ) (y : SenderEntry) (c : NamedChannel) → get ss s ≡ Some y → get cs y.channel ≡ Some c → (if c.senders == actions.most_senders then Some stops.Overflow else None) ≡ bounded_cause old.hall (CopySender s)
  crowded_is s y c sender there = mail.crowded_is (seen as_mailbox cs) (seen channel_of_sender ss) rs next mail_view s y.channel (as_mailbox c) (seen-at channel_of_sender ss s y sender) (seen-at as_mailbox cs y.channel c there)

  pub unknown_copy : (k : ℕ) → get ss k ≡ None → Some stops.Unknown ≡ bounded_cause old.hall (CopySender k)
  unknown_copy k none = sym (ap (λ b. if b then (if mailboxes.senders_beside old.hall.mail k == actions.most_senders then Some stops.Overflow else None) else Some stops.Unknown) (sym (sender_is k None none)))

  pub unknown_end : (k : ℕ) → get ss k ≡ None → Some stops.Unknown ≡ bounded_cause old.hall (EndSender k)
  unknown_end k none = sym (ap (λ b. if b then (if nat_lt 0 (model.sends_of old.hall k) then Some stops.Borrowed else None) else Some stops.Unknown) (sym (sender_is k None none)))

  pub ends_is : (k : ℕ) (y : SenderEntry) → get ss k ≡ Some y → y.sends ≡ len (own of_sender k xs) → (if nat_lt 0 y.sends then Some stops.Borrowed else None) ≡ bounded_cause old.hall (EndSender k)
  ends_is k y there counts =
      let all : model.sends_of (bounded_seen cs ss rs xs) k ≡ y.sends = ap len (own-seen of_sender (λ (x : BoundedSend). x.sender) send_seen (λ x. refl) k xs) ∙ len-seen send_seen (own of_sender k xs) ∙ sym counts in
      let here : is_sender (bounded_seen cs ss rs xs).mail k ≡ true = ap is_some (seen-at channel_of_sender ss k y there) in
      sym (ap (λ n. if nat_lt 0 n then Some stops.Borrowed else None) all) ∙ sym (ap (λ b. if b then (if nat_lt 0 (model.sends_of (bounded_seen cs ss rs xs) k) then Some stops.Borrowed else None) else Some stops.Unknown) here)
      ∙ ap (λ (p : Part Bounded). bounded_cause p.hall (EndSender k)) view

-- what is kept to is seen
pub seen_valid : {old : Part Bounded} (cs : Names NamedChannel) (ss : Names SenderEntry) (rs : Names ReceiverEntry) (xs : Names KeptSend) (next : ℕ) → ◌≡◌ {A = Part Bounded} (part_of cs ss rs xs next) old → IsKeptBounded cs ss rs xs next → AreValid old.hall.mail
seen_valid cs ss rs xs next view kept = mail.seen_valid (seen as_mailbox cs) (seen channel_of_sender ss) rs next (mail_view cs ss rs xs next view) kept.mail

pub woken_of : (o : Option NamedWaker) (ws : List NamedWaker) → ws ≡ [] → map (λ (k : NamedWaker). k.waker) (ws ++ option_to_list o) ≡ map (λ (k : NamedWaker). k.waker) ws ++ option_to_list (option_map (λ (k : NamedWaker). k.waker) o)
woken_of None [] is = refl
woken_of (Some k) [] is = refl
woken_of o (w ∷ ws) is = absurd (cc)

none_got : (c : NamedChannel) → model.is_got (told (core.recv_answer_of c [])) ≡ false
none_got c = at c.ended (c.senders == 0)
  where
    at : (ended gone : Bool) → model.is_got (told (if ended then Err try.Disconnected else if gone then Err try.Disconnected else Err try.Empty)) ≡ false
    at true gone = refl
    at false true = refl
    at false false = refl

pub woken_both : (ws vs : List NamedWaker) → ws ≡ [] → map (λ (k : NamedWaker). k.waker) (ws ++ vs) ≡ map (λ (k : NamedWaker). k.waker) vs
woken_both [] vs is = refl
woken_both (w ∷ ws) vs is = absurd (cc)

pub none_seen : (o : Option NamedWaker) → option_map (λ (k : NamedWaker). k.waker) o ≡ None → o ≡ None
none_seen None is = refl
none_seen (Some k) is = absurd (cc)

-- a channel that is over has no sender
pub over_none : (c : NamedChannel) → is_over (as_mailbox c) ≡ true → c.senders ≡ 0
over_none c is = (one.over_is (as_mailbox c) is).1

-- where there is neither a waker nor a send, nothing is kept
pub keeps_none : (c : NamedChannel) (xs : Names KeptSend) → c.waker ≡ None → AskForOne c.waiting.queue → Linked c.waiting.queue c.waiting.granted (acquires_of xs) → len xs ≡ 0 → kept_by c ≡ 0
keeps_none c xs no_waker ones linked none =
    let waker : length (option_to_list c.waker) ≡ 0 = ap (λ (o : Option NamedWaker). length (option_to_list o)) no_waker in
    let queue = nobody c.waiting.queue ones linked.waits in
    omega (arith, waker, queue)
  where
    nobody : (q : List (Waiter NamedWaker × ℕ)) → AskForOne q → AreOf (acquires_of xs) q → length q ≡ 0
    nobody [] ones are = refl
    nobody ((Acquires n d k, l) ∷ q) ones are = absurd (let one = seen-back (λ (x : KeptSend). x.acquire) xs k.name (Queued d n) are.0 in let some = len-some xs k.name one.0 one.1 in omega (arith, some, none))
    nobody ((Owes, l) ∷ q) ones are = absurd ones

-- the channel of a sender is there
pub site_channel : {cs : Names NamedChannel} {ss : Names SenderEntry} {rs : Names ReceiverEntry} {xs : Names KeptSend} {next : ℕ} → IsKeptBounded cs ss rs xs next → (k : ℕ) (y : SenderEntry) → get ss k ≡ Some y → IsSome (get cs y.channel)
site_channel {cs} {ss} kept k y there = sym (is_some-map as_mailbox (get cs y.channel)) ∙ sym (ap is_some (get-seen (λ k c. as_mailbox c) cs y.channel)) ∙ (kept.mail.firsts.at k y.channel (seen-at channel_of_sender ss k y there)).1

-- ---- bounded channels before event number i
pub record BoundedSite (old : Part Bounded) (i : ℕ) : Type 0 where
  pub cs : Names NamedChannel
  pub ss : Names SenderEntry
  pub rs : Names ReceiverEntry
  pub xs : Names KeptSend
  pub next : ℕ
  pub view : ◌≡◌ {A = Part Bounded} (part_of cs ss rs xs next) old
  pub kept : IsKeptBounded cs ss rs xs next
  pub later : next ≤ i
  pub fits : i < 2 ^ 64

abbrev pub site : {old : Part Bounded} {i : ℕ} (cs : Names NamedChannel) (ss : Names SenderEntry) (rs : Names ReceiverEntry) (xs : Names KeptSend) (next : ℕ) → ◌≡◌ {A = Part Bounded} (part_of cs ss rs xs next) old → IsKeptBounded cs ss rs xs next → old.next ≤ i → i < 2 ^ 64 → BoundedSite old i
site cs ss rs xs next view kept later fits = record { cs = cs; ss = ss; rs = rs; xs = xs; next = next; view = view; kept = kept; later = rw (← view) at later; fits = fits }

module _ {old : Part Bounded} {i : ℕ} (s : BoundedSite old i) where
  -- the mailboxes
  abbrev pub letters : Site (mail_part s.cs s.ss s.rs s.next) i
  letters = record { cs = seen as_mailbox s.cs; ss = seen channel_of_sender s.ss; rs = s.rs; next = s.next; view = refl; kept = s.kept.mail; later = s.later; fits = s.fits }

  abbrev pub before_it : Bounded
  before_it = bounded_seen s.cs s.ss s.rs s.xs

  -- what is said of the channels as they are kept is said of them as they are seen
  pub yields_as : (b : BoundedAction) (o : Outcome Bounded) (answer : Answer) (cs' : Names NamedChannel) (ss' : Names SenderEntry) (rs' : Names ReceiverEntry) (xs' : Names KeptSend) (before after : Waking ℕ) → bounded_act before_it i b ≡ o → answer ≡ o.reply
      → bounded_seen cs' ss' rs' xs' ≡ o.hall → after.wakers ≡ before.wakers ++ o.wakes → after.registered + kept_in s.cs ≡ before.registered + kept_in cs'
      → PartYields registered old i (bounded_act old.hall i b) answer (part_of cs' ss' rs' xs' (i + 1)) before after
  yields_as b o answer cs' ss' rs' xs' before after is replied hall woken waiting = subst (λ p. PartYields registered p i (bounded_act p.hall i b) answer (part_of cs' ss' rs' xs' (i + 1)) before after) s.view (rw is (record {
    replied = replied;
    moved = λ j. record { hall = hall j; next = i + 1 };
    woken = woken;
    counted =
        let now : registered o.hall ≡ kept_in cs' = sym (ap registered hall) ∙ registered_is cs' ss' rs' xs' in
        let was = registered_is s.cs s.ss s.rs s.xs in
        omega (arith, waiting, now, was);
  }))

  -- these maps are kept, and are what the event leaves
  abbrev pub Yields : BoundedAction → Answer → Names NamedChannel → Names SenderEntry → Names ReceiverEntry → Names KeptSend → Waking ℕ → Waking ℕ → Type 0
  Yields b answer cs' ss' rs' xs' before after = IsKeptBounded cs' ss' rs' xs' (i + 1) × PartYields registered old i (bounded_act old.hall i b) answer (part_of cs' ss' rs' xs' (i + 1)) before after

  -- ---- what is there
  pub sender_there : (k : ℕ) → is_sender old.hall.mail k ≡ true → IsSome (get s.ss k)
  sender_there k is = sender_is s.cs s.ss s.rs s.xs s.next s.view k (get s.ss k) refl ∙ is

  -- the channel of a sender, of a receiver and of a send
  pub senders_channel : (k : ℕ) (y : SenderEntry) → get s.ss k ≡ Some y → IsSome (get s.cs y.channel)
  senders_channel k y there = unseen y.channel (mail.senders_channel letters k y.channel (seen-at channel_of_sender s.ss k y there))
    where
      unseen : (o : ℕ) → IsSome (get (seen as_mailbox s.cs) o) → IsSome (get s.cs o)
      unseen o is = sym (is_some-map as_mailbox (get s.cs o)) ∙ sym (ap is_some (get-seen (λ k c. as_mailbox c) s.cs o)) ∙ is

  pub receivers_channel : (r : ℕ) (x : ReceiverEntry) → get s.rs r ≡ Some x → IsSome (get s.cs x.channel)
  receivers_channel r x there = sym (is_some-map as_mailbox (get s.cs x.channel)) ∙ sym (ap is_some (get-seen (λ k c. as_mailbox c) s.cs x.channel)) ∙ mail.receivers_channel letters r x there

  pub sends_sender : (f : ℕ) (x : KeptSend) → get s.xs f ≡ Some x → IsSome (get s.ss x.sender)
  sends_sender f x there = (s.kept.counted.firsts.at f x there).1

  -- no sender has the number of this event, so no send is of it
  pub no_sender : get s.ss i ≡ None
  no_sender = halls.no_object of_sender itself AreCounted (λ y. y.sends) s.ss s.xs empty s.next i s.kept.counted s.later s.fits

  pub not_new : (f : ℕ) (x : KeptSend) → get s.xs f ≡ Some x → x.sender ≡ i → ⊥
  not_new f x there same = at (get s.ss i) no_sender (ap (λ q. is_some (get s.ss q)) (sym same) ∙ sends_sender f x there)
    where
      at : (p : Option SenderEntry) → p ≡ None → is_some p ≡ true → ⊥
      at None none some = absurd (cc)
      at (Some z) none some = absurd (cc)

  pub copier_there : (k : ℕ) → bounded_cause old.hall (CopySender k) ≡ None → IsSome (get s.ss k)
  copier_there k allowed = sender_there k (known_but (is_sender old.hall.mail k) (mailboxes.senders_beside old.hall.mail k == actions.most_senders) stops.Overflow allowed)

  pub ender_there : (k : ℕ) → bounded_cause old.hall (EndSender k) ≡ None → IsSome (get s.ss k)
  ender_there k allowed = sender_there k (known_but (is_sender old.hall.mail k) (nat_lt 0 (model.sends_of old.hall k)) stops.Borrowed allowed)

  -- ---- a channel
  module _ (o : ℕ) (c : NamedChannel) (there : get s.cs o ≡ Some c) where
    pub seen_there : get (seen as_mailbox s.cs) o ≡ Some (as_mailbox c)
    seen_there = seen-at as_mailbox s.cs o c there

    pub its_quiet : c.wakes ≡ []
    its_quiet = none c.wakes (mail.its_kept letters o (as_mailbox c) seen_there).quiet
      where
        none : (ws : List NamedWaker) → map (λ (k : NamedWaker). k.waker) ws ≡ [] → ws ≡ []
        none [] is = refl
        none (k ∷ ws) is = absurd (cc)

    pub its_room : (before : Waking ℕ) → registered old.hall ≤ before.registered → kept_by c ≤ before.registered
    its_room before room =
        let all : registered old.hall ≡ kept_in s.cs = ap (λ (p : Part Bounded). registered p.hall) (sym s.view) ∙ registered_is s.cs s.ss s.rs s.xs in
        omega (arith, room, all, total-has (λ o c. kept_by c) s.cs o c there)

    pub its_linked : AreLinked c (own of_channel o s.xs) (own itself o empty)
    its_linked = s.kept.linked.each o c there

    pub kept_now : (c' : NamedChannel) → kept_in (insert s.cs o c') + kept_by c ≡ kept_in s.cs + kept_by c'
    kept_now c' =
        let here : weight (λ o c. kept_by c) o (get s.cs o) ≡ kept_by c = ap (weight (λ o c. kept_by c) o) there in
        omega (arith, here, total-insert (λ o c. kept_by c) s.cs o c')

    pub over_there : (c' : NamedChannel) → IsSome (get (insert s.cs o c') o)
    over_there c' = is_there _ c' (get-there s.cs o c')

    -- a look alone changes nothing
    pub unchanged : (IsKeptBounded (insert s.cs o c) s.ss s.rs s.xs s.next) × (part_of (insert s.cs o c) s.ss s.rs s.xs s.next ≡ old)
    unchanged = rw (insert_same s.cs o c there) (s.kept, s.view)

    -- its sends stay as they are, and so do all senders
    pub links_stay : (c' : NamedChannel) → Linked c'.waiting.queue c'.waiting.granted (acquires_of (own of_channel o s.xs)) → HallKept of_channel itself AreLinked (λ c. 0) (insert s.cs o c') s.xs empty (i + 1)
    links_stay c' links = halls.turns of_channel itself AreLinked (λ c. 0) s.cs s.xs empty s.next i s.kept.linked s.later s.fits o c c' s.xs empty there Stays Stays (record { linked = links; valued = its_linked.valued; ones = its_linked.ones }) (omega arith)

  -- ---- what an action on the mailboxes did, as it is kept and as it is seen
  pub record Mails (a : Action) (answer : Answer) (cs' : Names NamedChannel) (ss' : Names SenderEntry) (rs' : Names ReceiverEntry) (ws : List ℕ) : Type 0 where
    pub kept : AreKeptMailboxes (seen as_mailbox cs') (seen channel_of_sender ss') rs' (i + 1)
    pub replied : answer ≡ (act_in before_it.mail i a).reply
    pub hall : mailboxes_seen (seen as_mailbox cs') (seen channel_of_sender ss') rs' ≡ (act_in before_it.mail i a).hall
    pub wakes : ws ≡ (act_in before_it.mail i a).wakes

  pub from_rests : (a : Action) (answer : Answer) (cs' : Names NamedChannel) (ss' : Names SenderEntry) (rs' : Names ReceiverEntry) (ms : Names Mailbox) (ns : Names ℕ) → seen as_mailbox cs' ≡ ms → seen channel_of_sender ss' ≡ ns
      → AreKeptMailboxes ms ns rs' (i + 1) → PartRests mailboxes.registered (mail_part s.cs s.ss s.rs s.next) i (act_in before_it.mail i a) answer (mail.part_of ms ns rs' (i + 1)) → Mails a answer cs' ss' rs' []
  from_rests a answer cs' ss' rs' ms ns channels senders kept rests = record {
    kept = rw (channels, senders) kept;
    replied = rests.replied;
    hall = (λ j. mailboxes_seen (channels j) (senders j) rs') ∙ ap (λ (p : Part Mailboxes). p.hall) rests.moved;
    wakes = sym rests.silent;
  }

  pub from_yields : (a : Action) (answer : Answer) (cs' : Names NamedChannel) (ss' : Names SenderEntry) (rs' : Names ReceiverEntry) (ms : Names Mailbox) (ns : Names ℕ) (before after : Waking ℕ) → before.wakers ≡ [] → seen as_mailbox cs' ≡ ms → seen channel_of_sender ss' ≡ ns
      → AreKeptMailboxes ms ns rs' (i + 1) → PartYields mailboxes.registered (mail_part s.cs s.ss s.rs s.next) i (act_in before_it.mail i a) answer (mail.part_of ms ns rs' (i + 1)) before after → Mails a answer cs' ss' rs' after.wakers
  from_yields a answer cs' ss' rs' ms ns before after none channels senders kept yields = record {
    kept = rw (channels, senders) kept;
    replied = yields.replied;
    hall = (λ j. mailboxes_seen (channels j) (senders j) rs') ∙ ap (λ (p : Part Mailboxes). p.hall) yields.moved;
    wakes = yields.woken ∙ ap (λ ws. ws ++ (act_in before_it.mail i a).wakes) none;
  }

  pub counts_rest : HallKept of_sender itself AreCounted (λ y. y.sends) s.ss s.xs empty (i + 1)
  counts_rest = halls.rests of_sender itself AreCounted (λ y. y.sends) s.ss s.xs empty s.next i s.kept.counted s.later s.fits

  rests : IsKeptBounded s.cs s.ss s.rs s.xs (i + 1)
  rests = record { mail = mail.rests letters; linked = halls.rests of_channel itself AreLinked (λ c. 0) s.cs s.xs empty s.next i s.kept.linked s.later s.fits; counted = counts_rest; alike = s.kept.alike }

  -- the channel o became c', and the sends stay as they are
  changed : (o : ℕ) (c c' : NamedChannel) (rs' : Names ReceiverEntry) → get s.cs o ≡ Some c → Linked c'.waiting.queue c'.waiting.granted (acquires_of (own of_channel o s.xs)) → AreKeptMailboxes (seen as_mailbox (insert s.cs o c')) (seen channel_of_sender s.ss) rs' (i + 1)
      → IsKeptBounded (insert s.cs o c') s.ss rs' s.xs (i + 1)
  changed o c c' rs' there links kept = record { mail = kept; linked = links_stay o c there c' links; counted = counts_rest; alike = s.kept.alike }

  -- the rooms, where the one of o is changed so
  pub rooms_at : (o : ℕ) (c c' : NamedChannel) (change : Room → Room) → get s.cs o ≡ Some c → room_seen c' ≡ change (room_seen c) → seen room_seen (insert s.cs o c') ≡ model.at_room before_it.rooms o change
  rooms_at o c c' change there is = seen-insert room_seen s.cs o c' ∙ ap (insert (seen room_seen s.cs) o) is ∙ sym (ap (model.at_room_in (seen room_seen s.cs) o change) (seen-at room_seen s.cs o c there))

  pub woken_at : (o : ℕ) (c : NamedChannel) (woken : Room → List ℕ) → get s.cs o ≡ Some c → woken (room_seen c) ≡ model.woken_at before_it.rooms o woken
  woken_at o c woken there = sym (ap (λ p. model.woken_in p woken) (seen-at room_seen s.cs o c there))

  pub same_rooms : (o : ℕ) (c c' : NamedChannel) → get s.cs o ≡ Some c → room_seen c' ≡ room_seen c → seen room_seen (insert s.cs o c') ≡ seen room_seen s.cs
  same_rooms o c c' there is = seen-alike room_seen s.cs o c c' there is

  -- whether a channel is full
  pub full_is : (o : ℕ) (c : NamedChannel) → get s.cs o ≡ Some c → is_full before_it o ≡ (if c.ended then false else length c.queued == c.capacity)
  full_is o c there = λ j. model.is_full_in ((seen-at channel_seen (seen as_mailbox s.cs) o (as_mailbox c) (seen_there o c there)) j) ((seen-at room_seen s.cs o c there) j)

  -- ---- a message is sent at the channel of a sender
  module _ (k : ℕ) (y : SenderEntry) (c : NamedChannel) (sender : get s.ss k ≡ Some y) (there : get s.cs y.channel ≡ Some c) where
    pub its_sender : get (seen channel_of_sender s.ss) k ≡ Some y.channel
    its_sender = seen-at channel_of_sender s.ss k y sender

    abbrev letter : Mailbox
    letter = as_mailbox c

    pub some_sender : 0 < c.senders
    some_sender = mail.some_sender letters k y.channel letter its_sender (seen_there y.channel c there)

    pub not_crowded : bounded_cause old.hall (CopySender k) ≡ None → (c.senders == actions.most_senders) ≡ false
    not_crowded allowed = mail.not_crowded letters k y.channel letter its_sender (seen_there y.channel c there) (ap (λ (p : Part Bounded). bounded_cause p.hall (CopySender k)) s.view ∙ allowed)

    found_sender : (act : ℕ → Outcome Bounded) → found (get before_it.mail.senders k) before_it act ≡ act y.channel
    found_sender act = found_is _ before_it act y.channel its_sender

    -- a message is accepted, or closed out
    mails_send : (v : ℕ) (d : NamedChannel) (answer : Answer) → as_mailbox (handed_on d) ≡ record (message_sent letter v) { wakes = [] } → answer ≡ (if sent_answer letter then answers.Accepted else answers.Closed v)
        → Mails (actions.Send k v) answer (insert s.cs y.channel (handed_on d)) s.ss s.rs (message_sent letter v).wakes
    mails_send v d answer is says =
        let all = mail.sent letters k y.channel letter its_sender (seen_there y.channel c there) (as_mailbox (handed_on d)) (record { wakers = []; registered = length (option_to_list letter.waker) })
        (record { wakers = (message_sent letter v).wakes; registered = length (option_to_list (message_sent letter v).waker) }) v (sent_answer letter) answer says refl (record { entry = is; wakers = refl; counted = omega arith }) in
        from_yields (actions.Send k v) answer (insert s.cs y.channel (handed_on d)) s.ss s.rs _ _ (record { wakers = []; registered = length (option_to_list letter.waker) })
        (record { wakers = (message_sent letter v).wakes; registered = length (option_to_list (message_sent letter v).waker) }) refl (seen-insert as_mailbox s.cs y.channel (handed_on d)) refl all.0 all.1

    -- a sender copies itself
    pub copied : (ss' : Names SenderEntry) (w : Waking ℕ) → ss' ≡ insert s.ss i (record { channel = y.channel; sends = 0 })
        → Yields (CopySender k) answers.Made (insert s.cs y.channel (record c { senders = c.senders + 1 })) ss' s.rs s.xs w w
    copied ss' w is =
        let all = mail.copied letters k y.channel letter its_sender (seen_there y.channel c there) (insert (seen channel_of_sender s.ss) i y.channel) refl in
        let m = from_rests (actions.Copy k) answers.Made (insert s.cs y.channel (record c { senders = c.senders + 1 })) (insert s.ss i (record { channel = y.channel; sends = 0 })) s.rs _ _
        (seen-insert as_mailbox s.cs y.channel (record c { senders = c.senders + 1 })) (seen-insert channel_of_sender s.ss i (record { channel = y.channel; sends = 0 })) all.0 all.1 in
        let counted = kept_now y.channel c there (record c { senders = c.senders + 1 }) in
        let rooms = same_rooms y.channel c (record c { senders = c.senders + 1 }) there refl in
        rw is (
          record {
            mail = m.kept;
            linked = links_stay y.channel c there (record c { senders = c.senders + 1 }) (its_linked y.channel c there).linked;
            counted = halls.makes of_sender itself AreCounted (λ y. y.sends) s.ss s.xs empty s.next i s.kept.counted s.later s.fits (record { channel = y.channel; sends = 0 }) (record { sends = sym (len-empty nat_cmp KeptSend) }) refl;
            alike = λ f x z mine. by_put s.ss i (record { channel = y.channel; sends = 0 }) (λ q p. x.sender ≡ q → p ≡ Some z → z.channel ≡ x.channel)
                (λ same here. absurd (not_new f x mine same)) (λ q apart same here. s.kept.alike f x z mine (ap (get s.ss) same ∙ here)) x.sender refl;
          },
          yields_as (CopySender k) (bounded_act before_it i (CopySender k)) answers.Made (insert s.cs y.channel (record c { senders = c.senders + 1 })) (insert s.ss i (record { channel = y.channel; sends = 0 })) s.rs s.xs w w refl m.replied
              (λ j. record { mail = m.hall j; rooms = rooms j; sends = seen send_seen s.xs }) (sym (append-nil w.wakers) ∙ ap (λ ws. w.wakers ++ ws) m.wakes) (omega (arith, counted)),
        )

    -- a message is tried
    pub tried : (v : ℕ) (c' : NamedChannel) (answer : Answer) (before after : Waking ℕ) → answer ≡ tried_told (core.send_answer c v) → HandsOn c (core.after_send c v) c' before after
        → Yields (TrySend k v) answer (insert s.cs y.channel c') s.ss s.rs s.xs before after
    tried v c' answer before after says hands = at c.ended (length c.queued == c.capacity) refl refl
      where
        o : ℕ
        o = y.channel

        acted : (b : Bool) → (if c.ended then false else length c.queued == c.capacity) ≡ b → bounded_act before_it i (TrySend k v) ≡ (if b then quietly before_it (answers.Full v) else model.in_mail before_it (act_in before_it.mail i (actions.Send k v)))
        acted b is = found_sender (λ o. if is_full before_it o then quietly before_it (answers.Full v) else model.in_mail before_it (act_in before_it.mail i (actions.Send k v)))
            ∙ ap (λ b. if b then quietly before_it (answers.Full v) else model.in_mail before_it (act_in before_it.mail i (actions.Send k v))) (full_is y.channel c there ∙ is)

        -- it is as with any mailbox
        as_letter : (d : NamedChannel) → core.after_send c v ≡ d → (if c.ended then false else length c.queued == c.capacity) ≡ false → as_mailbox (handed_on d) ≡ record (message_sent letter v) { wakes = [] } → room_seen (handed_on d) ≡ room_seen c → d.waiting ≡ c.waiting
            → map (λ (k : NamedWaker). k.waker) d.wakes ≡ (message_sent letter v).wakes → tried_told (core.send_answer c v) ≡ (if sent_answer letter then answers.Accepted else answers.Closed v) → Yields (TrySend k v) answer (insert s.cs y.channel c') s.ss s.rs s.xs before after
        as_letter d left placed is room still woken told =
            let m = mails_send v d answer is (says ∙ told) in
            let entry : c' ≡ handed_on d = hands.entry ∙ ap handed_on left in
            let counted = kept_now y.channel c there (handed_on d) in
            let sum = ap kept_by left in
            let rooms = same_rooms y.channel c (handed_on d) there room in
            rw entry (
              changed y.channel c (handed_on d) s.rs there (rw still (its_linked y.channel c there).linked) m.kept,
              yields_as (TrySend k v) (model.in_mail before_it (act_in before_it.mail i (actions.Send k v))) answer (insert s.cs y.channel (handed_on d)) s.ss s.rs s.xs before after (acted false placed) m.replied
                  (λ j. record { mail = m.hall j; rooms = rooms j; sends = seen send_seen s.xs }) (hands.wakers ∙ ap (λ (d : NamedChannel). before.wakers ++ map (λ (k : NamedWaker). k.waker) d.wakes) left ∙ ap (λ ws. before.wakers ++ ws) (woken ∙ m.wakes))
                  (omega (arith, counted, sum, hands.counted)),
            )

        at : (ended full : Bool) → c.ended ≡ ended → (length c.queued == c.capacity) ≡ full → Yields (TrySend k v) answer (insert s.cs y.channel c') s.ss s.rs s.xs before after
        at true full is isf = as_letter c (rw is refl) (rw is refl) (rw is refl) refl refl (rw is refl) (rw is refl)
        at false true is isf =
            let left : core.after_send c v ≡ c = rw (is, isf) refl in
            let same : c' ≡ c = hands.entry ∙ ap handed_on left ∙ (λ j. record c { wakes = (sym (its_quiet y.channel c there)) j }) in
            let sum = ap kept_by left in
            rw (same, insert_same s.cs y.channel c there) (
              rests,
              yields_as (TrySend k v) (quietly before_it (answers.Full v)) answer s.cs s.ss s.rs s.xs before after (acted true (rw (is, isf) refl)) (says ∙ rw (is, isf) refl) refl
                  (hands.wakers ∙ ap (λ (d : NamedChannel). before.wakers ++ map (λ (k : NamedWaker). k.waker) d.wakes) left ∙ ap (λ (ws : List NamedWaker). before.wakers ++ map (λ (k : NamedWaker). k.waker) ws) (its_quiet y.channel c there)) (omega (arith, sum, hands.counted)),
            )
        at false false is isf = as_letter (core.with_message c v) (rw (is, isf) refl) (rw (is, isf) refl) (rw is refl) refl refl (rw is (woken_of c.waker c.wakes (its_quiet y.channel c there))) (rw (is, isf) refl)

  -- ---- by a receiver
  module _ (r : ℕ) (x : ReceiverEntry) (c : NamedChannel) (receiver : get s.rs r ≡ Some x) (there : get s.cs x.channel ≡ Some c) where
    abbrev inbox : Mailbox
    inbox = as_mailbox c

    pub lives : c.ended ≡ false
    lives = mail.lives letters r x inbox receiver (seen_there x.channel c there)

    found_receiver : (act : ℕ → Outcome Bounded) → found (get before_it.mail.receivers r) before_it (λ z. act z.channel) ≡ act x.channel
    found_receiver act = found_is _ before_it (λ z. act z.channel) (receiver_seen x) (seen-at receiver_seen s.rs r x receiver)

    still_quiet : inbox.wakes ≡ []
    still_quiet = ap (map (λ (k : NamedWaker). k.waker)) (its_quiet x.channel c there)

    same_answer : (q : List ℕ) → core.recv_answer_of c q ≡ letters_core.recv_answer_of inbox q
    same_answer [] = refl
    same_answer (v ∷ rest) = refl

    as_tried : (q : List ℕ) → as_mailbox (handed_on (core.after_recv_of c q)) ≡ letters_core.after_recv_of inbox q
    as_tried [] = λ j. record inbox { wakes = (sym still_quiet) j }
    as_tried (v ∷ rest) = λ j. record inbox { queued = rest; wakes = (sym still_quiet) j }

    -- a message was received, and the first who waits is granted its place
    gives_way : (a : Action) (b : BoundedAction) (v : ℕ) (rest : List ℕ) (c' : NamedChannel) (answer : Answer) (before after : Waking ℕ) → IsChannel c
        → bounded_act before_it i b ≡ model.received before_it x.channel (act_in before_it.mail i a) → answer ≡ answers.Got v
        → HandsOn c (core.after_recv_of c (v ∷ rest)) c' before after → Mails a answer (insert s.cs x.channel (handed_on (core.after_recv_of c (v ∷ rest)))) s.ss s.rs []
        → Yields b answer (insert s.cs x.channel c') s.ss s.rs s.xs before after
    gives_way a b v rest c' answer before after is acts says hands m =
        let way = made c (own of_channel x.channel s.xs) (its_linked x.channel c there).linked is in
        let counted = kept_now x.channel c there (handed_on (core.after_recv_of c (v ∷ rest))) in
        let rooms = rooms_at x.channel c (handed_on (core.after_recv_of c (v ∷ rest))) (model.granted 1) there (λ j. record { capacity = c.capacity; queue = way.seen j }) in
        let got : model.is_got (act_in before_it.mail i a).reply ≡ true = ap model.is_got (sym m.replied ∙ says) in
        rw hands.entry (
          changed x.channel c (handed_on (core.after_recv_of c (v ∷ rest))) s.rs there way.links m.kept,
          yields_as b (record { hall = record before_it { mail = (act_in before_it.mail i a).hall; rooms = model.at_room before_it.rooms x.channel (model.granted 1) }; reply = (act_in before_it.mail i a).reply; wakes = (act_in before_it.mail i a).wakes ++ model.woken_at before_it.rooms x.channel (model.woken_by_grant 1) })
              answer (insert s.cs x.channel (handed_on (core.after_recv_of c (v ∷ rest)))) s.ss s.rs s.xs before after
              (acts ∙ if_true (model.is_got (act_in before_it.mail i a).reply) _ _ got) m.replied
              (λ j. record { mail = m.hall j; rooms = rooms j; sends = seen send_seen s.xs })
              (hands.wakers ∙ ap (λ ws. before.wakers ++ ws) (woken_both c.wakes (core.made_way c.waiting).wakes (its_quiet x.channel c there) ∙ way.woken
              ∙ woken_at x.channel c (model.woken_by_grant 1) there ∙ ap (λ ws. ws ++ model.woken_at before_it.rooms x.channel (model.woken_by_grant 1)) m.wakes))
              (omega (arith, counted, hands.counted)),
        )

    -- nothing changed but the mailbox
    only_mail : (a : Action) (b : BoundedAction) (d c' : NamedChannel) (answer : Answer) (before after : Waking ℕ) → bounded_act before_it i b ≡ model.received before_it x.channel (act_in before_it.mail i a) → model.is_got answer ≡ false
        → d.waiting ≡ c.waiting → d.wakes ≡ [] → room_seen d ≡ room_seen c → HandsOn c d c' before after → Mails a answer (insert s.cs x.channel (handed_on d)) s.ss s.rs []
        → Yields b answer (insert s.cs x.channel c') s.ss s.rs s.xs before after
    only_mail a b d c' answer before after acts says still silent room hands m =
        let counted = kept_now x.channel c there (handed_on d) in
        let rooms = same_rooms x.channel c (handed_on d) there room in
        let none : model.is_got (act_in before_it.mail i a).reply ≡ false = ap model.is_got (sym m.replied) ∙ says in
        rw hands.entry (
          changed x.channel c (handed_on d) s.rs there (rw still (its_linked x.channel c there).linked) m.kept,
          yields_as b (model.in_mail before_it (act_in before_it.mail i a)) answer (insert s.cs x.channel (handed_on d)) s.ss s.rs s.xs before after
              (acts ∙ if_false (model.is_got (act_in before_it.mail i a).reply) _ _ none) m.replied
              (λ j. record { mail = m.hall j; rooms = rooms j; sends = seen send_seen s.xs })
              (hands.wakers ∙ ap (λ ws. before.wakers ++ map (λ (k : NamedWaker). k.waker) ws) silent ∙ ap (λ ws. before.wakers ++ ws) m.wakes)
              (omega (arith, counted, hands.counted)),
        )

    -- it takes the first message
    pub received : (c' : NamedChannel) (answer : Answer) (before after : Waking ℕ) → IsChannel c → answer ≡ told (core.recv_answer c) → HandsOn c (core.after_recv c) c' before after
        → Yields (TryReceive r) answer (insert s.cs x.channel c') s.ss s.rs s.xs before after
    received c' answer before after is says hands = at c.queued refl
      where
        acts : bounded_act before_it i (TryReceive r) ≡ model.received before_it x.channel (act_in before_it.mail i (actions.Receive r true))
        acts = found_receiver (λ o. model.received before_it o (act_in before_it.mail i (actions.Receive r true)))

        mails : (q : List ℕ) → c.queued ≡ q → Mails (actions.Receive r true) answer (insert s.cs x.channel (handed_on (core.after_recv_of c q))) s.ss s.rs []
        mails q queue =
            let all = mail.received letters r x inbox receiver (seen_there x.channel c there) true (as_mailbox (handed_on (core.after_recv_of c q))) answer
            (says ∙ ap told (same_answer c.queued)) (as_tried q ∙ sym (ap (letters_core.after_recv_of inbox) queue)) in
            from_rests (actions.Receive r true) answer (insert s.cs x.channel (handed_on (core.after_recv_of c q))) s.ss s.rs _ _ (seen-insert as_mailbox s.cs x.channel (handed_on (core.after_recv_of c q))) refl all.0 all.1

        at : (q : List ℕ) → c.queued ≡ q → Yields (TryReceive r) answer (insert s.cs x.channel c') s.ss s.rs s.xs before after
        at [] queue = only_mail (actions.Receive r true) (TryReceive r) c c' answer before after acts (ap model.is_got says ∙ ap (λ q. model.is_got (told (core.recv_answer_of c q))) queue ∙ none_got c) refl (its_quiet x.channel c there) refl
            (subst (λ d. HandsOn c d c' before after) (ap (core.after_recv_of c) queue) hands) (mails [] queue)
        at (v ∷ rest) queue = gives_way (actions.Receive r true) (TryReceive r) v rest c' answer before after is acts (says ∙ ap (λ q. told (core.recv_answer_of c q)) queue)
            (subst (λ d. HandsOn c d c' before after) (ap (core.after_recv_of c) queue) hands) (mails (v ∷ rest) queue)

    -- it is polled
    pub polled : (w : ℕ) (c' : NamedChannel) (answer : Answer) (before after : Waking ℕ) → IsChannel c → answer ≡ poll_told (core.recv_answer c) → HandsOn c (polled_as c (record { name = r; waker = w }) (core.recv_answer c)) c' before after
        → Yields (PollReceive r w) answer (insert s.cs x.channel c') s.ss s.rs s.xs before after
    polled w c' answer before after is says hands = at c.queued refl
      where
        acts : bounded_act before_it i (PollReceive r w) ≡ model.received before_it x.channel (act_in before_it.mail i (actions.Poll r w))
        acts = found_receiver (λ o. model.received before_it o (act_in before_it.mail i (actions.Poll r w)))

        waker : NamedWaker
        waker = record { name = r; waker = w }

        mails : (a : Result ℕ TryRecvError) → core.recv_answer c ≡ a → (d : NamedChannel) → ReceivesBy inbox w a (as_mailbox (handed_on d)) → Mails (actions.Poll r w) answer (insert s.cs x.channel (handed_on d)) s.ss s.rs []
        mails a answered d entry =
            let all = mail.polled letters r x inbox receiver (seen_there x.channel c there) w (as_mailbox (handed_on d)) answer (record { wakers = []; registered = length (option_to_list inbox.waker) })
            (record { wakers = []; registered = length (option_to_list (as_mailbox d).waker) })
            (record { told = says ∙ ap poll_told (same_answer c.queued); entry = rw (sym (same_answer c.queued) ∙ answered) entry; wakers = refl; counted = omega arith }) in
            from_yields (actions.Poll r w) answer (insert s.cs x.channel (handed_on d)) s.ss s.rs _ _ (record { wakers = []; registered = length (option_to_list inbox.waker) })
            (record { wakers = []; registered = length (option_to_list (as_mailbox d).waker) }) refl (seen-insert as_mailbox s.cs x.channel (handed_on d)) refl all.0 all.1

        at_none : c.queued ≡ [] → (a : Result ℕ TryRecvError) → core.recv_answer c ≡ a → Yields (PollReceive r w) answer (insert s.cs x.channel c') s.ss s.rs s.xs before after
        at_none queue (Ok v) answered = absurd (let got : false ≡ true = sym (none_got c) ∙ ap (λ a. model.is_got (told a)) (ap (core.recv_answer_of c) (sym queue) ∙ answered) in cc)
        at_none queue (Err try.Disconnected) answered = only_mail (actions.Poll r w) (PollReceive r w) c c' answer before after acts (ap model.is_got (says ∙ ap poll_told answered)) refl (its_quiet x.channel c there) refl
            (subst (λ a. HandsOn c (polled_as c waker a) c' before after) answered hands) (mails (Err try.Disconnected) answered c (λ j. record inbox { wakes = (sym still_quiet) j }))
        at_none queue (Err try.Empty) answered = only_mail (actions.Poll r w) (PollReceive r w) (record c { waker = Some waker }) c' answer before after acts (ap model.is_got (says ∙ ap poll_told answered)) refl (its_quiet x.channel c there) refl
            (let moved = subst (λ a. HandsOn c (polled_as c waker a) c' before after) answered hands in moved)
            (mails (Err try.Empty) answered (record c { waker = Some waker }) (λ j. record inbox { waker = Some w; wakes = (sym still_quiet) j }))

        at : (q : List ℕ) → c.queued ≡ q → Yields (PollReceive r w) answer (insert s.cs x.channel c') s.ss s.rs s.xs before after
        at [] queue = at_none queue (core.recv_answer c) refl
        at (v ∷ rest) queue =
            let answered : core.recv_answer c ≡ Ok v = ap (core.recv_answer_of c) queue in
            let left : polled_as c waker (core.recv_answer c) ≡ core.after_recv_of c (v ∷ rest) = ap (polled_as c waker) answered ∙ ap (core.after_recv_of c) queue in
            gives_way (actions.Poll r w) (PollReceive r w) v rest c' answer before after is acts (says ∙ ap poll_told answered)
            (subst (λ d. HandsOn c d c' before after) left hands) (mails (Ok v) answered (core.after_recv_of c (v ∷ rest)) (as_tried (v ∷ rest) ∙ sym (ap (letters_core.after_recv_of inbox) queue)))

-- ---- no channel
pub none_kept : IsKeptBounded empty empty empty empty 0
none_kept = record {
  mail = rw (seen-empty as_mailbox, seen-empty channel_of_sender) mail.new_kept;
  linked = record {
    each = λ o c there. absurd (nothing_at NamedChannel o c there);
    below = λ o c there. absurd (nothing_at NamedChannel o c there);
    firsts = record { at = λ f x there. absurd (nothing_at KeptSend f x there) };
    seconds = record { at = λ f x there. absurd (nothing_at ℕ f x there) };
    low = omega arith;
  };
  counted = record {
    each = λ o c there. absurd (nothing_at SenderEntry o c there);
    below = λ o c there. absurd (nothing_at SenderEntry o c there);
    firsts = record { at = λ f x there. absurd (nothing_at KeptSend f x there) };
    seconds = record { at = λ f x there. absurd (nothing_at ℕ f x there) };
    low = omega arith;
  };
  alike = λ f x y there here. absurd (nothing_at KeptSend f x there);
}

pub none_view : ◌≡◌ {A = Part Bounded} (part_of empty empty empty empty 0) (record { hall = no_bounded; next = 0 })
none_view j = record {
  hall = record {
    mail = record { channels = (ap (seen channel_seen) (seen-empty as_mailbox) ∙ seen-empty channel_seen) j; senders = seen-empty channel_of_sender j; receivers = seen-empty receiver_seen j };
    rooms = seen-empty room_seen j;
    sends = seen-empty send_seen j;
  };
  next = 0;
}
