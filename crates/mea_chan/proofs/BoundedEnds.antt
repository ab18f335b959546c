-- what becomes of bounded channels where a sender or a receiver ends, where a channel, a sender or a send is made, and where a send is polled or ends
use Rattle.std.proofs.Common.{◌≡◌, ℕ, ◌+◌, ◌-◌, ◌≤◌, ◌==◌, ◌++◌, Bool, true, false, length, [], map, Some, None, option_to_list, is_some, Result, Ok, Err, refl, ap, sym, subst, ◌∙◌, arith, append-nil, if◌then◌else◌, inl, inr}
use Rattle.std.specs.Option.{IsSome}
use Rattle.std.specs.Ordering.{nat_cmp}
use Rattle.std.specs.FinMap.{get, insert, remove, len, empty, len-empty}
use Rattle.mea_family.specs.declared.answer.Answer.{Answer}
use Rattle.mea_family.specs.declared.answer.Answer.TheVariants as answers
use Rattle.mea_family.specs.Family.{Outcome, quietly}
use Rattle.mea_base.specs.Ready.{Waking}
use Rattle.std.proofs.lemmas.Bool.{eqb-true, eqb-false}
use Rattle.mea_base.specs.Queue.{lacks, waiting_after}
use Rattle.mea_base.proofs.Queues.{lacks-map}
use Rattle.mea_base.specs.Totals.{weight}
use Rattle.mea_base.proofs.Maps.{by_put, nothing_at, inside, get-there, get-gone, get-removed_other, removed_there, value_in}
use Rattle.mea_base.proofs.Totals.{total-insert, total-remove}
use Rattle.mea_by_name.specs.declared.named_waker.NamedWaker.{NamedWaker}
use Rattle.mea_by_name.specs.ByName.{Names, seen, own}
use Rattle.mea_by_name.specs.HallKept.{HallKept}
use Rattle.mea_by_name.specs.NamedQueue.{waits}
use Rattle.mea_by_name.specs.LackingQueue.{leaving, woken_by}
use Rattle.mea_family.specs.Play.{Part, PartYields}
use Rattle.mea_by_name.proofs.Cases.{found_is, by_if}
use Rattle.mea_by_name.proofs.Halls as halls
use Rattle.mea_by_name.proofs.Own.{seen-at, seen-insert, seen-remove, seen-alike, seen-empty, seen-none, own-at, own-none, own-gone, own-put, own-empty, own-nothing, len-gone, len-some, len-new, len-over, insert_same, put_gone, gone_none, Stays, Comes, Goes}
use Rattle.mea_sem_core.specs.Core.{poured}
use Rattle.mea_sem_core.specs.Calls.{Belongs}
use Rattle.mea_sem_core.specs.declared.acquire.Acquire.TheVariants.{New, Queued, Done, Refused}
use Rattle.mea_sem_core.specs.declared.acquire.Acquire.{Acquire}
use Rattle.mea_sem_core.specs.Acquire.{demand_of}
use Rattle.mea_cores_by_name.proofs.Linking.{IsUnqueued, linked_begun}
use Rattle.mea_chan_core.specs.Channel.{no_senders}
use Rattle.mea_base.specs.declared.poll.Poll.TheVariants.{Ready, Pending}
use Rattle.mea_chan_core.specs.declared.errors.SendError.{SendError}
use Rattle.mea_chan_core.specs.declared.errors.TrySendError.TheVariants.{Full, Disconnected}
use Rattle.mea_chan_core.specs.Mailbox as letters_core
use Rattle.mea_chan_core.specs.Bounded as core
use Rattle.mea_chan_core.specs.Woken.{IsChannel}
use Rattle.mea_chan_core.proofs.Senders.{wakes_all}
use Rattle.mea_chan_model.specs.Mailboxes.{is_channel}
use Rattle.mea_chan_model.specs.MailboxActions as actions
use Rattle.mea_chan_model.specs.MailboxActions.{act_in}
use Rattle.mea_chan_model.specs.Bounded as model
use Rattle.mea_chan_model.specs.Bounded.{Bounded, Room, registered, is_full}
use Rattle.mea_chan_model.specs.declared.bounded_action.BoundedAction.TheVariants.{Make, BeginSend, PollSend, EndSend, EndSender, EndReceiver}
use Rattle.mea_chan_model.specs.BoundedActions.{bounded_act, bounded_cause}
use Rattle.mea_cores_by_name.specs.Linked.{names_in, who_of, IsHome, Linked}
use Rattle.mea_chan.specs.declared.receiver_entry.ReceiverEntry.{ReceiverEntry}
use Rattle.mea_chan.specs.declared.sender_entry.SenderEntry.{SenderEntry}
use Rattle.mea_chan.specs.Cores.{Mailbox, message_sent, sent_answer, is_over}
use Rattle.mea_chan.specs.Entries.{told}
use Rattle.mea_chan.specs.BoundedCores.{NamedChannel, KeptSend, as_mailbox, kept_by, handed_on, HandsOn, SendPolled, ready_told}
use Rattle.mea_chan.specs.BoundedParts.{room_seen, send_seen, was_polled, value_of, channel_of_sender, bounded_seen, acquires_of, AreLinked, AreCounted, IsKeptBounded, of_channel, of_sender, itself}
use Rattle.mea_chan.specs.MailboxParts.{channel_seen, receiver_seen, mailboxes_seen, AreKept, of_receiver, of_sender as mine}
use Rattle.mea_chan.proofs.BoundedSteps.{made, grants_linked, grants_seen, grants_woken, Ended, ends, left, joins}
use Rattle.mea_chan.proofs.OneChannel as one
use Rattle.mea_chan.proofs.MailboxEvents as mail
use Rattle.mea_family.proofs.Refusals.{not_borrowed}
use Rattle.mea_chan_model.proofs.EnoughEvents.{left_capacity, joined_capacity}
use Rattle.mea_chan.proofs.BoundedEvents.{BoundedSite, ends_is, part_of, Yields, kept_in, woken_of, woken_both, none_seen, over_none, keeps_none, letters, before_it, yields_as, senders_channel, sends_sender, seen_there, its_quiet, its_linked, kept_now, links_stay, from_rests, from_yields, counts_rest, rooms_at, woken_at, same_rooms, full_is, some_sender, no_sender, not_new}

module _ {old : Part Bounded} {i : ℕ} (s : BoundedSite old i) where
  -- ---- a channel is this now, or gone where that is over
  -- where no sender lives, no send does
  no_sends_of : (o : ℕ) (ss' : Names SenderEntry) → len (own mine o (seen channel_of_sender ss')) ≡ 0 → ((f : ℕ) (x : KeptSend) → get s.xs f ≡ Some x → x.channel ≡ o → (z : SenderEntry) × (get ss' x.sender ≡ Some z) × (z.channel ≡ o)) → len (own of_channel o s.xs) ≡ 0
  no_sends_of o ss' none lives = ap len (own-empty of_channel o s.xs (λ f x there here. let z = lives f x there (sym here) in absurd (own-nothing mine o (seen channel_of_sender ss') none x.sender z.0.channel (seen-at channel_of_sender ss' x.sender z.0 z.1) (sym z.2)))) ∙ len-empty nat_cmp KeptSend

  module _ (o : ℕ) (c d : NamedChannel) (there : get s.cs o ≡ Some c) where
    abbrev tidied : Bool → Names NamedChannel
    tidied over = if over then remove (insert s.cs o d) o else insert s.cs o d

    tidied_mail : (over : Bool) → seen as_mailbox (tidied over) ≡ (if over then remove (insert (seen as_mailbox s.cs) o (as_mailbox d)) o else insert (seen as_mailbox s.cs) o (as_mailbox d))
    tidied_mail true = seen-remove as_mailbox (insert s.cs o d) o ∙ ap (λ m. remove m o) (seen-insert as_mailbox s.cs o d)
    tidied_mail false = seen-insert as_mailbox s.cs o d

    tidied_links : (over : Bool) → Linked d.waiting.queue d.waiting.granted (acquires_of (own of_channel o s.xs)) → (over ≡ true → len (own of_channel o s.xs) ≡ 0) → HallKept of_channel itself AreLinked (λ c. 0) (tidied over) s.xs empty (i + 1)
    tidied_links true links none = rw put_gone (halls.goes_out of_channel itself AreLinked (λ c. 0) s.cs s.xs empty s.next i s.kept.linked s.later s.fits o c s.xs empty there Stays Stays (none refl) (ap len (own-none_at o) ∙ len-empty nat_cmp ℕ))
      where
        own-none_at : (o : ℕ) → own itself o (empty {X = ℕ} {R = nat_cmp}) ≡ empty
        own-none_at o = own-empty itself o empty (λ k z there. absurd (nothing_at ℕ k z there))
    tidied_links false links none = (links_stay s) o c there d links

    -- the room goes with its channel
    tidied_rooms : (over : Bool) (change : Room → Room) → room_seen d ≡ change (room_seen c) → seen room_seen (tidied over) ≡ model.tidied_rooms (model.at_room (before_it s).rooms o change) o (is_channel (mailboxes_seen (seen as_mailbox (tidied over)) (seen channel_of_sender s.ss) s.rs) o)
    tidied_rooms true change is =
        let gone : is_channel (mailboxes_seen (seen as_mailbox (tidied true)) (seen channel_of_sender s.ss) s.rs) o ≡ false =
        ap is_some (seen-none channel_seen (seen as_mailbox (tidied true)) o (seen-none as_mailbox (tidied true) o (get-gone (insert s.cs o d) o))) in
        seen-remove room_seen (insert s.cs o d) o ∙ ap (λ m. remove m o) ((rooms_at s) o c d change there is) ∙ sym (ap (model.tidied_rooms (model.at_room (before_it s).rooms o change) o) gone)
    tidied_rooms false change is =
        let stays : is_channel (mailboxes_seen (seen as_mailbox (tidied false)) (seen channel_of_sender s.ss) s.rs) o ≡ true =
        ap is_some (seen-at channel_seen (seen as_mailbox (tidied false)) o (as_mailbox d) (seen-at as_mailbox (tidied false) o d (get-there s.cs o d))) in
        (rooms_at s) o c d change there is ∙ sym (ap (model.tidied_rooms (model.at_room (before_it s).rooms o change) o) stays)

    kept_tidied : (over : Bool) → (over ≡ true → kept_by d ≡ 0) → kept_in (tidied over) + kept_by c ≡ kept_in s.cs + kept_by d
    kept_tidied true none =
        let here : weight (λ o c. kept_by c) o (get s.cs o) ≡ kept_by c = ap (weight (λ o c. kept_by c) o) there in
        let gone : kept_in (remove (insert s.cs o d) o) ≡ kept_in (remove s.cs o) = ap kept_in (put_gone s.cs o d) in
        let nobody = none refl in
        omega (arith, gone, nobody, here, total-remove (λ o c. kept_by c) s.cs o)
    kept_tidied false none = (kept_now s) o c there d

  -- ---- a sender ends
  module _ (k : ℕ) (y : SenderEntry) (c : NamedChannel) (sender : get s.ss k ≡ Some y) (there : get s.cs y.channel ≡ Some c) where
    abbrev of_it : Mailbox
    of_it = as_mailbox c

    -- its sends are none
    none_of_it : bounded_cause old.hall (EndSender k) ≡ None → len (own of_sender k s.xs) ≡ 0
    none_of_it allowed =
        let few = not_borrowed true y.sends (ends_is s.cs s.ss s.rs s.xs s.next s.view k y sender (s.kept.counted.each k y sender).sends ∙ allowed) in
        omega (arith, few, (s.kept.counted.each k y sender).sends)

    without_is : as_mailbox (handed_on (core.without_sender c)) ≡ record (letters_core.without_sender of_it) { wakes = [] }
    without_is = at (c.senders == 1)
      where
        at : (b : Bool) → as_mailbox (handed_on (if b then record c { senders = 0; waker = None; wakes = c.wakes ++ option_to_list c.waker } else record c { senders = c.senders - 1 }))
            ≡ record (if b then record of_it { senders = 0; waker = None; wakes = of_it.wakes ++ option_to_list of_it.waker } else record of_it { senders = of_it.senders - 1 }) { wakes = [] }
        at true = refl
        at false = refl

    woken_is : map (λ (k : NamedWaker). k.waker) (core.without_sender c).wakes ≡ (letters_core.without_sender of_it).wakes
    woken_is = at (c.senders == 1)
      where
        at : (b : Bool) → map (λ (k : NamedWaker). k.waker) (if b then record c { senders = 0; waker = None; wakes = c.wakes ++ option_to_list c.waker } else record c { senders = c.senders - 1 }).wakes
            ≡ (if b then record of_it { senders = 0; waker = None; wakes = of_it.wakes ++ option_to_list of_it.waker } else record of_it { senders = of_it.senders - 1 }).wakes
        at true = woken_of c.waker c.wakes ((its_quiet s) y.channel c there)
        at false = refl

    same_waiting : (core.without_sender c).waiting ≡ c.waiting
    same_waiting = by_if (λ (d : NamedChannel). d.waiting ≡ c.waiting) (c.senders == 1) _ _ (λ one. refl) (λ more. refl)

    same_capacity : (core.without_sender c).capacity ≡ c.capacity
    same_capacity = by_if (λ (d : NamedChannel). d.capacity ≡ c.capacity) (c.senders == 1) _ _ (λ one. refl) (λ more. refl)

    -- where no sender is left, its waker was taken
    no_waker_left : (core.without_sender c).senders ≡ 0 → (core.without_sender c).waker ≡ None
    no_waker_left = at (c.senders == 1) refl
      where
        at : (b : Bool) → (c.senders == 1) ≡ b → (if b then record c { senders = 0; waker = None; wakes = c.wakes ++ option_to_list c.waker } else record c { senders = c.senders - 1 }).senders ≡ 0
            → (if b then record c { senders = 0; waker = None; wakes = c.wakes ++ option_to_list c.waker } else record c { senders = c.senders - 1 }).waker ≡ None
        at true is none = refl
        at false is none = absurd (let some = (some_sender s) k y c sender there in let apart = eqb-false c.senders 1 is in omega (arith, some, apart, none))

    one_sender : (core.without_sender c).senders ≡ 0 → c.senders ≡ 1
    one_sender = elim (c.senders == 1) as (λ b. (c.senders == 1) ≡ b → (if b then record c { senders = 0; waker = None; wakes = c.wakes ++ option_to_list c.waker } else record c { senders = c.senders - 1 }).senders ≡ 0 → c.senders ≡ 1)
        [ true ↦ λ is none. eqb-true c.senders 1 is | false ↦ λ is none. absurd (let some = (some_sender s) k y c sender there in let apart = eqb-false c.senders 1 is in omega (arith, some, apart, none)) ] refl

    sends_gone : bounded_cause old.hall (EndSender k) ≡ None → (core.without_sender c).senders ≡ 0 → len (own of_channel y.channel s.xs) ≡ 0
    sends_gone allowed none = no_sends_of y.channel (remove s.ss k)
        (ap (λ m. len (own mine y.channel m)) (seen-remove channel_of_sender s.ss k) ∙ ap len (own-gone mine y.channel (seen channel_of_sender s.ss) k)
        ∙ (let less = len-gone (own mine y.channel (seen channel_of_sender s.ss)) k y.channel (own-at mine y.channel (seen channel_of_sender s.ss) k y.channel (seen-at channel_of_sender s.ss k y sender) refl) in
        let all = (mail.its_kept (letters s) y.channel of_it ((seen_there s) y.channel c there)).senders in let one = one_sender none in omega (arith, less, all, one)))
        (λ f x here same.
        let z = value_in (get s.ss x.sender) ((sends_sender s) f x here) in
        (z.0, get-removed_other s.ss k x.sender (λ is. own-nothing of_sender k s.xs (none_of_it allowed) f x here is) ∙ z.1, s.kept.alike f x z.0 here z.1 ∙ same))

    pub sender_ended : (c' : NamedChannel) (ss' : Names SenderEntry) (over : Bool) (before after : Waking ℕ) → IsChannel c → bounded_cause old.hall (EndSender k) ≡ None → ss' ≡ remove s.ss k → is_over (as_mailbox c') ≡ over → HandsOn c (core.without_sender c) c' before after
        → Yields s (EndSender k) answers.Done (if over then remove (insert s.cs y.channel c') y.channel else insert s.cs y.channel c') ss' s.rs s.xs before after
    sender_ended c' ss' over before after is allowed gone is_it hands =
        let now : is_over (as_mailbox (handed_on (core.without_sender c))) ≡ over = ap (λ c. is_over (as_mailbox c)) (sym hands.entry) ∙ is_it in
        let all = mail.sender_ended (letters s) k y.channel of_it (seen-at channel_of_sender s.ss k y sender) ((seen_there s) y.channel c there) (as_mailbox (handed_on (core.without_sender c)))
        (record { wakers = []; registered = length (option_to_list of_it.waker) }) (record { wakers = (letters_core.without_sender of_it).wakes; registered = length (option_to_list (letters_core.without_sender of_it).waker) })
        (seen channel_of_sender (remove s.ss k)) (seen-remove channel_of_sender s.ss k) over now (record { entry = without_is; wakers = refl; counted = omega arith }) in
        let m = (from_yields s) (actions.EndSender k) answers.Done (tidied y.channel c (handed_on (core.without_sender c)) there over) (remove s.ss k) s.rs _ _ (record { wakers = []; registered = length (option_to_list of_it.waker) })
        (record { wakers = (letters_core.without_sender of_it).wakes; registered = length (option_to_list (letters_core.without_sender of_it).waker) }) refl (tidied_mail y.channel c (handed_on (core.without_sender c)) there over) refl all.0 all.1 in
        let none = λ (is : over ≡ true). sends_gone allowed (over_none (handed_on (core.without_sender c)) (now ∙ is)) in
        let links : Linked (core.without_sender c).waiting.queue (core.without_sender c).waiting.granted (acquires_of (own of_channel y.channel s.xs)) = rw same_waiting ((its_linked s) y.channel c there).linked in
        let keeps = kept_tidied y.channel c (handed_on (core.without_sender c)) there over (λ ends. keeps_none (handed_on (core.without_sender c)) (own of_channel y.channel s.xs) (no_waker_left (over_none (handed_on (core.without_sender c)) (now ∙ ends))) (rw same_waiting is.senders.ones) links (none ends)) in
        let rooms = tidied_rooms y.channel c (handed_on (core.without_sender c)) there over (λ r. r) (λ j. record { capacity = same_capacity j; queue = names_in (same_waiting j).queue }) in
        let same : model.at_room (seen room_seen s.cs) y.channel (λ r. r) ≡ seen room_seen s.cs = ap (model.at_room_in (seen room_seen s.cs) y.channel (λ r. r)) (seen-at room_seen s.cs y.channel c there) ∙ insert_same (seen room_seen s.cs) y.channel (room_seen c) (seen-at room_seen s.cs y.channel c there) in
        rw (hands.entry, gone) (
          record {
            mail = m.kept;
            linked = tidied_links y.channel c (handed_on (core.without_sender c)) there over links none;
            counted = halls.goes_out of_sender itself AreCounted (λ y. y.sends) s.ss s.xs empty s.next i s.kept.counted s.later s.fits k y s.xs empty sender Stays Stays (none_of_it allowed) (ap len (own-empty itself k empty (λ q z there. absurd (nothing_at ℕ q z there))) ∙ len-empty nat_cmp ℕ);
            alike = λ f x z here left. s.kept.alike f x z here (removed_there s.ss k x.sender z left);
          },
          (yields_as s) (EndSender k) (model.sender_ended (before_it s) y.channel (act_in (before_it s).mail i (actions.EndSender k))) answers.Done (tidied y.channel c (handed_on (core.without_sender c)) there over) (remove s.ss k) s.rs s.xs before after
              (found_is _ (before_it s) (λ o. model.sender_ended (before_it s) o (act_in (before_it s).mail i (actions.EndSender k))) y.channel (seen-at channel_of_sender s.ss k y sender)) m.replied
              (λ j. record { mail = m.hall j; rooms = (rooms ∙ (λ j. model.tidied_rooms (same j) y.channel (is_channel (m.hall j) y.channel))) j; sends = seen send_seen s.xs })
              (hands.wakers ∙ ap (λ ws. before.wakers ++ ws) (woken_is ∙ m.wakes)) (omega (arith, keeps, hands.counted)),
        )

  -- ---- a receiver ends
  module _ (r : ℕ) (x : ReceiverEntry) (c : NamedChannel) (receiver : get s.rs r ≡ Some x) (there : get s.cs x.channel ≡ Some c) where
    pub receiver_ended : (c' : NamedChannel) (rs' : Names ReceiverEntry) (over : Bool) (before after : Waking ℕ) → IsChannel c → rs' ≡ remove s.rs r → is_over (as_mailbox c') ≡ over → HandsOn c (core.without_receiver c) c' before after
        → Yields s (EndReceiver r) answers.Done (if over then remove (insert s.cs x.channel c') x.channel else insert s.cs x.channel c') s.ss rs' s.xs before after
    receiver_ended c' rs' over before after is gone is_it hands =
        let quiet = (its_quiet s) x.channel c there in
        let own_it = (mail.its_kept (letters s) x.channel (as_mailbox c) ((seen_there s) x.channel c there)) in
        let now : is_over (as_mailbox (handed_on (core.without_receiver c))) ≡ over = ap (λ c. is_over (as_mailbox c)) (sym hands.entry) ∙ is_it in
        let all = mail.receiver_gone (letters s) r x (as_mailbox c) receiver ((seen_there s) x.channel c there) true false (as_mailbox (handed_on (core.without_receiver c)))
        (record { wakers = []; registered = length (option_to_list (as_mailbox c).waker) }) (record { wakers = map (λ (k : NamedWaker). k.waker) c.wakes; registered = length (option_to_list (as_mailbox c).waker) })
        (remove s.rs r) refl over now (record { entry = refl; wakers = refl; counted = omega arith }) in
        let m = (from_yields s) (actions.EndReceiver r true false) answers.Done (tidied x.channel c (handed_on (core.without_receiver c)) there over) s.ss (remove s.rs r) _ _ (record { wakers = []; registered = length (option_to_list (as_mailbox c).waker) })
        (record { wakers = map (λ (k : NamedWaker). k.waker) c.wakes; registered = length (option_to_list (as_mailbox c).waker) }) refl (tidied_mail x.channel c (handed_on (core.without_receiver c)) there over) refl all.0 all.1 in
        let none = λ (is : over ≡ true). no_sends_of x.channel s.ss (sym own_it.senders ∙ over_none (handed_on (core.without_receiver c)) (now ∙ is))
        (λ f z here same. let y = value_in (get s.ss z.sender) ((sends_sender s) f z here) in (y.0, y.1, s.kept.alike f z y.0 here y.1 ∙ same)) in
        let linked = ((its_linked s) x.channel c there).linked in
        let links = grants_linked c (own of_channel x.channel s.xs) linked is (poured c.waiting (lacks c.waiting.queue)) (lacks c.waiting.queue) refl in
        let names = grants_seen c (own of_channel x.channel s.xs) linked is (poured c.waiting (lacks c.waiting.queue)) (lacks c.waiting.queue) refl in
        let woken = grants_woken c (own of_channel x.channel s.xs) linked is (poured c.waiting (lacks c.waiting.queue)) (lacks c.waiting.queue) refl in
        let sum : lacks (names_in c.waiting.queue) ≡ lacks c.waiting.queue = lacks-map who_of c.waiting.queue in
        let ones = (wakes_all c.waiting (poured c.waiting (lacks c.waiting.queue)) is.senders refl).senders.ones in
        let keeps = kept_tidied x.channel c (handed_on (core.without_receiver c)) there over
        (λ ends. keeps_none (handed_on (core.without_receiver c)) (own of_channel x.channel s.xs) (none_seen c.waker (one.silent (as_mailbox c) _ _ own_it (over_none (handed_on (core.without_receiver c)) (now ∙ ends)))) ones links (none ends)) in
        let rooms = tidied_rooms x.channel c (handed_on (core.without_receiver c)) there over model.all_granted (λ j. record { capacity = c.capacity; queue = (names ∙ ap (waiting_after (names_in c.waiting.queue)) (sym sum)) j }) in
        rw (hands.entry, gone) (
          record { mail = m.kept; linked = tidied_links x.channel c (handed_on (core.without_receiver c)) there over links none; counted = (counts_rest s); alike = s.kept.alike },
          (yields_as s) (EndReceiver r) (model.receiver_ended (before_it s) x.channel (act_in (before_it s).mail i (actions.EndReceiver r true false))) answers.Done (tidied x.channel c (handed_on (core.without_receiver c)) there over) s.ss (remove s.rs r) s.xs before after
              (found_is _ (before_it s) (λ z. model.receiver_ended (before_it s) z.channel (act_in (before_it s).mail i (actions.EndReceiver r true false))) (receiver_seen x) (seen-at receiver_seen s.rs r x receiver)) m.replied
              (λ j. record { mail = m.hall j; rooms = (rooms ∙ (λ j. model.tidied_rooms (model.at_room (before_it s).rooms x.channel model.all_granted) x.channel (is_channel (m.hall j) x.channel))) j; sends = seen send_seen s.xs })
              (hands.wakers ∙ ap (λ ws. before.wakers ++ ws) (woken_both c.wakes (poured c.waiting (lacks c.waiting.queue)).wakes quiet ∙ woken ∙ ap (woken_by (names_in c.waiting.queue)) (sym sum)
              ∙ (woken_at s) x.channel c model.all_woken there ∙ (λ j. (sym (ap (map (λ (k : NamedWaker). k.waker)) quiet) ∙ m.wakes) j ++ model.woken_at (before_it s).rooms x.channel model.all_woken)))
              (omega (arith, keeps, hands.counted)),
        )

  -- a send belongs to its channel
  pub belongs_there : (f : ℕ) (x : KeptSend) (c : NamedChannel) → get s.xs f ≡ Some x → get s.cs x.channel ≡ Some c → Belongs c.waiting x.acquire
  belongs_there f x c send there = at x.acquire (((its_linked s) x.channel c there).linked.home f x.acquire (seen-at (λ (x : KeptSend). x.acquire) (own of_channel x.channel s.xs) f x (own-at of_channel x.channel s.xs f x send refl)))
    where
      at : (a : Acquire) → IsHome c.waiting.queue c.waiting.granted a → Belongs c.waiting a
      at (New d) home = tt
      at (Queued d n) home = inl home
      at (Done d) home = absurd home
      at (Refused d) home = absurd home

  -- looks alone change nothing
  pub looked_both : (f : ℕ) (x : KeptSend) (c : NamedChannel) → get s.xs f ≡ Some x → get s.cs x.channel ≡ Some c → (IsKeptBounded (insert s.cs x.channel c) s.ss s.rs (insert s.xs f x) s.next) × (part_of (insert s.cs x.channel c) s.ss s.rs (insert s.xs f x) s.next ≡ old)
  looked_both f x c send there = rw (insert_same s.cs x.channel c there, insert_same s.xs f x send) (s.kept, s.view)

  -- ---- a sender whose name is new
  no_send : get s.xs i ≡ None
  no_send = halls.no_first of_sender itself AreCounted (λ y. y.sends) s.ss s.xs empty s.next i s.kept.counted s.later s.fits

  no_receiver : get s.rs i ≡ None
  no_receiver = halls.no_second mine of_receiver AreKept (λ m. 0) (seen as_mailbox s.cs) (seen channel_of_sender s.ss) s.rs s.next i s.kept.mail s.later s.fits

  -- ---- a channel is made
  module _ (n : ℕ) where
    abbrev fresh : NamedChannel
    fresh = record { queued = []; capacity = n; senders = 1; ended = false; waker = None; waiting = no_senders; wakes = [] }

    abbrev first_sender : SenderEntry
    first_sender = record { channel = i; sends = 0 }

    abbrev first_receiver : ReceiverEntry
    first_receiver = record { channel = i; polls = true }

    pub made_room : (w : Waking ℕ) → Yields s (Make n) answers.Made (insert s.cs i fresh) (insert s.ss i first_sender) (insert s.rs i first_receiver) s.xs w w
    made_room w =
        let all = mail.made (letters s) true in
        let m = (from_rests s) (actions.Make true) answers.Made (insert s.cs i fresh) (insert s.ss i first_sender) (insert s.rs i first_receiver) _ _ (seen-insert as_mailbox s.cs i fresh) (seen-insert channel_of_sender s.ss i first_sender) all.0 all.1 in
        let no_channel : get s.cs i ≡ None = halls.no_object of_channel itself AreLinked (λ c. 0) s.cs s.xs empty s.next i s.kept.linked s.later s.fits in
        let nothing : weight (λ o c. kept_by c) i (get s.cs i) ≡ 0 = ap (weight (λ o c. kept_by c) i) no_channel in
        let rooms = seen-insert room_seen s.cs i fresh in (
          record {
            mail = m.kept;
            linked = halls.makes of_channel itself AreLinked (λ c. 0) s.cs s.xs empty s.next i s.kept.linked s.later s.fits fresh (record {
              linked = rw (seen-empty (λ (x : KeptSend). x.acquire)) (record {
                waits = tt;
                home = λ f a there. absurd (nothing_at Acquire f a there);
                owned = λ n d there. absurd (nothing_at ℕ n d there);
                apart = λ f g d e n there also. absurd (nothing_at Acquire f (Queued d n) there);
              });
              valued = λ f x there. absurd (nothing_at KeptSend f x there);
              ones = λ f x there. absurd (nothing_at KeptSend f x there);
            }) refl;
            counted = halls.makes of_sender itself AreCounted (λ y. y.sends) s.ss s.xs empty s.next i s.kept.counted s.later s.fits first_sender (record { sends = sym (len-empty nat_cmp KeptSend) }) refl;
            alike = λ f x z here. by_put s.ss i first_sender (λ q p. x.sender ≡ q → p ≡ Some z → z.channel ≡ x.channel)
                (λ same is. absurd (not_new s f x here same)) (λ q apart same is. s.kept.alike f x z here (ap (get s.ss) same ∙ is)) x.sender refl;
          },
          (yields_as s) (Make n) (bounded_act (before_it s) i (Make n)) answers.Made (insert s.cs i fresh) (insert s.ss i first_sender) (insert s.rs i first_receiver) s.xs w w refl m.replied
              (λ j. record { mail = m.hall j; rooms = rooms j; sends = seen send_seen s.xs }) (sym (append-nil w.wakers) ∙ ap (λ ws. w.wakers ++ ws) m.wakes)
              (omega (arith, nothing, total-insert (λ o c. kept_by c) s.cs i fresh)),
        )

    -- where there is no memory, what was put is taken away again
    pub unmade : (rs' : Names ReceiverEntry) → rs' ≡ s.rs → (ss' : Names SenderEntry) → ss' ≡ insert s.ss i first_sender → (IsKeptBounded s.cs (remove ss' i) rs' s.xs s.next) × (part_of s.cs (remove ss' i) rs' s.xs s.next ≡ old)
    unmade rs' receivers ss' senders = rw (receivers, senders, put_gone s.ss i first_sender, gone_none s.ss i (no_sender s)) (s.kept, s.view)

    pub all_unmade : (cs' : Names NamedChannel) → cs' ≡ s.cs → (rs' : Names ReceiverEntry) → rs' ≡ insert s.rs i first_receiver → (ss' : Names SenderEntry) → ss' ≡ insert s.ss i first_sender
        → (IsKeptBounded cs' (remove ss' i) (remove rs' i) s.xs s.next) × (part_of cs' (remove ss' i) (remove rs' i) s.xs s.next ≡ old)
    all_unmade cs' channels rs' receivers ss' senders = rw (channels, receivers, senders, put_gone s.ss i first_sender, gone_none s.ss i (no_sender s), put_gone s.rs i first_receiver, gone_none s.rs i no_receiver) (s.kept, s.view)

  -- ---- a send is made
  module _ (k : ℕ) (y : SenderEntry) (sender : get s.ss k ≡ Some y) where
    abbrev one_more : SenderEntry
    one_more = record { channel = y.channel; sends = y.sends + 1 }

    abbrev newcomer : ℕ → KeptSend
    newcomer v = record { sender = k; channel = y.channel; value = Some v; acquire = New 1 }

    pub looked_at : (IsKeptBounded s.cs (insert s.ss k y) s.rs s.xs s.next) × (part_of s.cs (insert s.ss k y) s.rs s.xs s.next ≡ old)
    looked_at = rw (insert_same s.ss k y sender) (s.kept, s.view)

    pub begun : (v : ℕ) (xs' : Names KeptSend) (w : Waking ℕ) → xs' ≡ insert s.xs i (newcomer v)
        → Yields s (BeginSend k v) answers.Made s.cs (insert s.ss k one_more) s.rs xs' w w
    begun v xs' w is =
        let c = value_in (get s.cs y.channel) ((senders_channel s) k y sender) in
        let alike = seen-alike channel_of_sender s.ss k y one_more sender refl in
        let free = own-none of_channel y.channel s.xs i no_send in
        let links = (its_linked s) y.channel c.0 c.1 in
        let out : IsUnqueued (get (acquires_of (own of_channel y.channel s.xs)) i) = rw (seen-none (λ (x : KeptSend). x.acquire) (own of_channel y.channel s.xs) i free) tt in
        let good : AreLinked c.0 (own of_channel y.channel (insert s.xs i (newcomer v))) (own itself y.channel empty) = rw (own-put of_channel y.channel s.xs i (newcomer v) refl) (record {
          linked = rw (seen-insert (λ (x : KeptSend). x.acquire) (own of_channel y.channel s.xs) i (newcomer v)) (linked_begun c.0.waiting.queue c.0.waiting.granted (acquires_of (own of_channel y.channel s.xs)) links.linked i out 1);
          valued = by_put (own of_channel y.channel s.xs) i (newcomer v) (λ f p. (x : KeptSend) → p ≡ Some x → IsSome x.value) (λ x here. let same : newcomer v ≡ x = cc in rw (← same) refl) (λ f apart x here. links.valued f x here);
          ones = by_put (own of_channel y.channel s.xs) i (newcomer v) (λ f p. (x : KeptSend) → p ≡ Some x → demand_of x.acquire ≡ 1) (λ x here. let same : newcomer v ≡ x = cc in rw (← same) refl) (λ f apart x here. links.ones f x here);
        }) in
        let counts : AreCounted one_more (own of_sender k (insert s.xs i (newcomer v))) (own itself k empty) = rw (own-put of_sender k s.xs i (newcomer v) refl)
        (record { sends = let more = len-new (own of_sender k s.xs) i (newcomer v) (own-none of_sender k s.xs i no_send) in omega (arith, more, (s.kept.counted.each k y sender).sends) }) in
        rw is (
          record {
            mail = rw alike (mail.rests (letters s));
            linked = subst (λ cs. HallKept of_channel itself AreLinked (λ c. 0) cs (insert s.xs i (newcomer v)) empty (i + 1)) (insert_same s.cs y.channel c.0 c.1)
                (halls.turns of_channel itself AreLinked (λ c. 0) s.cs s.xs empty s.next i s.kept.linked s.later s.fits y.channel c.0 c.0 (insert s.xs i (newcomer v)) empty c.1 (Comes i (newcomer v) (omega arith) refl (λ z had. absurd (let none = no_send in cc))) Stays good (omega arith));
            counted = halls.turns of_sender itself AreCounted (λ y. y.sends) s.ss s.xs empty s.next i s.kept.counted s.later s.fits k y one_more (insert s.xs i (newcomer v)) empty sender (Comes i (newcomer v) (omega arith) refl (λ z had. absurd (let none = no_send in cc))) Stays counts (omega arith);
            alike = by_put s.xs i (newcomer v) (λ f p. (x : KeptSend) (z : SenderEntry) → p ≡ Some x → get (insert s.ss k one_more) x.sender ≡ Some z → z.channel ≡ x.channel)
                (λ x z here is. let same : newcomer v ≡ x = cc in let mine : one_more ≡ z = inside (sym (get-there s.ss k one_more) ∙ ap (λ (x : KeptSend). get (insert s.ss k one_more) x.sender) same ∙ is) in ap (λ (z : SenderEntry). z.channel) (sym mine) ∙ ap (λ (x : KeptSend). x.channel) same)
                (λ f apart x z here is. by_put s.ss k one_more (λ q p. x.sender ≡ q → p ≡ Some z → z.channel ≡ x.channel)
                (λ same at_it. ap (λ (z : SenderEntry). z.channel) (sym (inside at_it)) ∙ s.kept.alike f x y here (ap (get s.ss) same ∙ sender)) (λ q other same at_it. s.kept.alike f x z here (ap (get s.ss) same ∙ at_it)) x.sender refl is);
          },
          (yields_as s) (BeginSend k v) (model.begin (before_it s) i k v y.channel) answers.Made s.cs (insert s.ss k one_more) s.rs (insert s.xs i (newcomer v)) w w
              (found_is _ (before_it s) (model.begin (before_it s) i k v) y.channel (seen-at channel_of_sender s.ss k y sender)) refl
              (λ j. record { mail = mailboxes_seen (seen as_mailbox s.cs) (alike j) s.rs; rooms = seen room_seen s.cs; sends = (seen-insert send_seen s.xs i (newcomer v)) j }) (sym (append-nil w.wakers)) (omega arith),
        )

  -- ---- a send
  module _ (f : ℕ) (x : KeptSend) (y : SenderEntry) (c : NamedChannel) (send : get s.xs f ≡ Some x) (sender : get s.ss x.sender ≡ Some y) (there : get s.cs x.channel ≡ Some c) (is : IsChannel c) where
    abbrev one_less : SenderEntry
    one_less = record { channel = y.channel; sends = y.sends - 1 }

    mine_is : get (own of_channel x.channel s.xs) f ≡ Some x
    mine_is = own-at of_channel x.channel s.xs f x send refl

    links_of_it : AreLinked c (own of_channel x.channel s.xs) (own itself x.channel empty)
    links_of_it = (its_linked s) x.channel c there

    pub some_send : 1 ≤ y.sends
    some_send = omega (arith, (s.kept.counted.each x.sender y sender).sends, len-some (own of_sender x.sender s.xs) f x (own-at of_sender x.sender s.xs f x send refl))

    -- it is gone
    gone_links : (d : NamedChannel) → Linked d.waiting.queue d.waiting.granted (acquires_of (remove (own of_channel x.channel s.xs) f)) → HallKept of_channel itself AreLinked (λ c. 0) (insert s.cs x.channel d) (remove s.xs f) empty (i + 1)
    gone_links d links = halls.turns of_channel itself AreLinked (λ c. 0) s.cs s.xs empty s.next i s.kept.linked s.later s.fits x.channel c d (remove s.xs f) empty there (Goes f (λ z had. ap of_channel (inside (sym had ∙ send)))) Stays
        (rw (own-gone of_channel x.channel s.xs f) (record { linked = links; valued = λ g z here. links_of_it.valued g z (removed_there (own of_channel x.channel s.xs) f g z here); ones = λ g z here. links_of_it.ones g z (removed_there (own of_channel x.channel s.xs) f g z here) })) (omega arith)

    gone_counts : HallKept of_sender itself AreCounted (λ y. y.sends) (insert s.ss x.sender one_less) (remove s.xs f) empty (i + 1)
    gone_counts = halls.turns of_sender itself AreCounted (λ y. y.sends) s.ss s.xs empty s.next i s.kept.counted s.later s.fits x.sender y one_less (remove s.xs f) empty sender (Goes f (λ z had. ap of_sender (inside (sym had ∙ send)))) Stays
        (rw (own-gone of_sender x.sender s.xs f) (record { sends = let less = len-gone (own of_sender x.sender s.xs) f x (own-at of_sender x.sender s.xs f x send refl) in omega (arith, less, (s.kept.counted.each x.sender y sender).sends) })) (omega arith)

    gone_alike : (g : ℕ) (z : KeptSend) (w : SenderEntry) → get (remove s.xs f) g ≡ Some z → get (insert s.ss x.sender one_less) z.sender ≡ Some w → w.channel ≡ z.channel
    gone_alike g z w here is = by_put s.ss x.sender one_less (λ q p. z.sender ≡ q → p ≡ Some w → w.channel ≡ z.channel)
        (λ same at_it. ap (λ (w : SenderEntry). w.channel) (sym (inside at_it)) ∙ s.kept.alike g z y (removed_there s.xs f g z here) (ap (get s.ss) same ∙ sender))
        (λ q other same at_it. s.kept.alike g z w (removed_there s.xs f g z here) (ap (get s.ss) same ∙ at_it)) z.sender refl is

    senders_alike : seen channel_of_sender (insert s.ss x.sender one_less) ≡ seen channel_of_sender s.ss
    senders_alike = seen-alike channel_of_sender s.ss x.sender y one_less sender refl

    its_seen : get (before_it s).sends f ≡ Some (send_seen x)
    its_seen = seen-at send_seen s.xs f x send

    -- its mailbox stays as it is
    mail_stays : (d : NamedChannel) → as_mailbox d ≡ as_mailbox c → seen as_mailbox (insert s.cs x.channel d) ≡ seen as_mailbox s.cs
    mail_stays d same = seen-alike as_mailbox s.cs x.channel c d there same

    -- ---- it ends
    pub send_ended : (c' : NamedChannel) (before after : Waking ℕ) → (d : NamedChannel) → core.EndsSend c x.acquire d → HandsOn c d c' before after
        → Yields s (EndSend f) answers.Done (insert s.cs x.channel c') (insert s.ss x.sender one_less) s.rs (remove s.xs f) before after
    send_ended c' before after d (q, cancels, left) hands = rw entry (
      record { mail = rw (mails, senders_alike) (mail.rests (letters s)); linked = gone_links (handed_on (core.with_waiting c q)) it.links; counted = gone_counts; alike = gone_alike },
      elim it.seen [
        | inl waits_on ↦ yields (quietly (record (before_it s) { rooms = insert (before_it s).rooms x.channel (record (room_seen c) { queue = leaving (names_in c.waiting.queue) f }); sends = remove (before_it s).sends f }) answers.Done)
            (acts ∙ ap (λ b. if b then quietly (record (before_it s) { rooms = insert (before_it s).rooms x.channel (record (room_seen c) { queue = leaving (names_in c.waiting.queue) f }); sends = remove (before_it s).sends f }) answers.Done else (if was_polled x.acquire
            then record { hall = record (before_it s) { rooms = insert (before_it s).rooms x.channel (model.granted 1 (room_seen c)); sends = remove (before_it s).sends f }; reply = answers.Done; wakes = model.woken_by_grant 1 (room_seen c) }
            else quietly (record (before_it s) { sends = remove (before_it s).sends f }) answers.Done)) waits_on.0) refl
            (λ j. record { mail = mails_are j; rooms = (seen-insert room_seen s.cs x.channel (handed_on (core.with_waiting c q)) ∙ ap (insert (seen room_seen s.cs) x.channel) (λ j. record { capacity = c.capacity; queue = waits_on.1 j })) j; sends = (seen-remove send_seen s.xs f) j }) waits_on.2
        | inr other ↦ elim other [
          | inl held ↦ yields (record { hall = record (before_it s) { rooms = insert (before_it s).rooms x.channel (model.granted 1 (room_seen c)); sends = remove (before_it s).sends f }; reply = answers.Done; wakes = model.woken_by_grant 1 (room_seen c) })
              (acts ∙ (λ j. if held.0 j then quietly (record (before_it s) { rooms = insert (before_it s).rooms x.channel (record (room_seen c) { queue = leaving (names_in c.waiting.queue) f }); sends = remove (before_it s).sends f }) answers.Done else (if held.1 j
              then record { hall = record (before_it s) { rooms = insert (before_it s).rooms x.channel (model.granted 1 (room_seen c)); sends = remove (before_it s).sends f }; reply = answers.Done; wakes = model.woken_by_grant 1 (room_seen c) }
              else quietly (record (before_it s) { sends = remove (before_it s).sends f }) answers.Done))) refl
              (λ j. record { mail = mails_are j; rooms = (seen-insert room_seen s.cs x.channel (handed_on (core.with_waiting c q)) ∙ ap (insert (seen room_seen s.cs) x.channel) (λ j. record { capacity = c.capacity; queue = held.2 j })) j; sends = (seen-remove send_seen s.xs f) j }) held.3
          | inr new ↦ yields (quietly (record (before_it s) { sends = remove (before_it s).sends f }) answers.Done)
              (acts ∙ (λ j. if new.0 j then quietly (record (before_it s) { rooms = insert (before_it s).rooms x.channel (record (room_seen c) { queue = leaving (names_in c.waiting.queue) f }); sends = remove (before_it s).sends f }) answers.Done else (if new.1 j
              then record { hall = record (before_it s) { rooms = insert (before_it s).rooms x.channel (model.granted 1 (room_seen c)); sends = remove (before_it s).sends f }; reply = answers.Done; wakes = model.woken_by_grant 1 (room_seen c) }
              else quietly (record (before_it s) { sends = remove (before_it s).sends f }) answers.Done))) refl
              (λ j. record { mail = mails_are j; rooms = ((same_rooms s) x.channel c (handed_on (core.with_waiting c q)) there (λ j. record { capacity = c.capacity; queue = new.2 j })) j; sends = (seen-remove send_seen s.xs f) j }) new.3
        ]
      ],
    )
      where
        it : Ended c (own of_channel x.channel s.xs) links_of_it.linked is f x mine_is q
        it = ends c (own of_channel x.channel s.xs) links_of_it.linked is f x mine_is q cancels (links_of_it.ones f x mine_is)

        entry : c' ≡ handed_on (core.with_waiting c q)
        entry = hands.entry ∙ ap handed_on left

        mails : seen as_mailbox (insert s.cs x.channel (handed_on (core.with_waiting c q))) ≡ seen as_mailbox s.cs
        mails = mail_stays (handed_on (core.with_waiting c q)) (λ j. record (as_mailbox c) { wakes = (sym (ap (map (λ (k : NamedWaker). k.waker)) ((its_quiet s) x.channel c there))) j })

        mails_are : mailboxes_seen (seen as_mailbox (insert s.cs x.channel (handed_on (core.with_waiting c q)))) (seen channel_of_sender (insert s.ss x.sender one_less)) s.rs ≡ (before_it s).mail
        mails_are = λ j. mailboxes_seen (mails j) (senders_alike j) s.rs

        acts : bounded_act (before_it s) i (EndSend f) ≡ model.end_in (before_it s) f (send_seen x) (room_seen c)
        acts = found_is _ (before_it s) (λ z. model.end_send (before_it s) f z (get (before_it s).rooms z.channel)) (send_seen x) its_seen ∙ ap (model.end_send (before_it s) f (send_seen x)) (seen-at room_seen s.cs x.channel c there)

        yields : (o : Outcome Bounded) → bounded_act (before_it s) i (EndSend f) ≡ o → answers.Done ≡ o.reply → bounded_seen (insert s.cs x.channel (handed_on (core.with_waiting c q))) (insert s.ss x.sender one_less) s.rs (remove s.xs f) ≡ o.hall → map (λ (k : NamedWaker). k.waker) q.wakes ≡ o.wakes
            → PartYields registered old i (bounded_act old.hall i (EndSend f)) answers.Done (part_of (insert s.cs x.channel (handed_on (core.with_waiting c q))) (insert s.ss x.sender one_less) s.rs (remove s.xs f) (i + 1)) before after
        yields o acted done hall woken =
            let counted = (kept_now s) x.channel c there (handed_on (core.with_waiting c q)) in
            let sum = ap kept_by left in
            (yields_as s) (EndSend f) o answers.Done (insert s.cs x.channel (handed_on (core.with_waiting c q))) (insert s.ss x.sender one_less) s.rs (remove s.xs f) before after acted done hall
            (hands.wakers ∙ ap (λ (d : NamedChannel). before.wakers ++ map (λ (k : NamedWaker). k.waker) d.wakes) left ∙ ap (λ ws. before.wakers ++ ws) (woken_both c.wakes q.wakes ((its_quiet s) x.channel c there) ∙ woken)) (omega (arith, counted, sum, hands.counted))

    -- ---- it is polled
    value_is : (v : ℕ) → x.value ≡ Some v → (send_seen x).value ≡ v
    value_is v is = ap value_of is

    -- it had its answer
    answered : (c' : NamedChannel) (x' : KeptSend) (answer : Answer) (before after : Waking ℕ) (w v : ℕ) (d left : NamedChannel) → x.value ≡ Some v → is_full (before_it s) x.channel ≡ false → core.Leaves d x.acquire left → d.waiting ≡ c.waiting → d.capacity ≡ c.capacity
        → as_mailbox (handed_on d) ≡ record (message_sent (as_mailbox c) v) { wakes = [] } → map (λ (k : NamedWaker). k.waker) d.wakes ≡ (message_sent (as_mailbox c) v).wakes → answer ≡ (if sent_answer (as_mailbox c) then answers.Accepted else answers.Closed v) → HandsOn c left c' before after
        → Yields s (PollSend f w) answer (insert s.cs x.channel c') (insert s.ss x.sender one_less) s.rs (remove (insert s.xs f x') f) before after
    answered c' x' answer before after w v d l value placed (q, loses, leaves) still capacity is_mail woken says hands =
        let same : y.channel ≡ x.channel = s.kept.alike f x y send sender in
        let gone = left c (own of_channel x.channel s.xs) links_of_it.linked is f x mine_is q (rw still at loses) in
        let all = mail.sent (letters s) x.sender x.channel (as_mailbox c) (seen-at channel_of_sender s.ss x.sender y sender ∙ ap (λ o. Some o) same) ((seen_there s) x.channel c there) (as_mailbox (handed_on d)) (record { wakers = []; registered = length (option_to_list (as_mailbox c).waker) })
        (record { wakers = (message_sent (as_mailbox c) v).wakes; registered = length (option_to_list (message_sent (as_mailbox c) v).waker) }) v (sent_answer (as_mailbox c)) answer says refl (record { entry = is_mail; wakers = refl; counted = omega arith }) in
        let m = (from_yields s) (actions.Send x.sender v) answer (insert s.cs x.channel (handed_on (record d { waiting = q }))) (insert s.ss x.sender one_less) s.rs _ _ (record { wakers = []; registered = length (option_to_list (as_mailbox c).waker) })
        (record { wakers = (message_sent (as_mailbox c) v).wakes; registered = length (option_to_list (message_sent (as_mailbox c) v).waker) }) refl (seen-insert as_mailbox s.cs x.channel (handed_on (record d { waiting = q }))) senders_alike all.0 all.1 in
        let counted = (kept_now s) x.channel c there (handed_on (record d { waiting = q })) in
        let sum = ap kept_by leaves in
        let rooms = (rooms_at s) x.channel c (handed_on (record d { waiting = q })) (model.left_by f) there
        (λ j. record { capacity = (capacity ∙ sym (left_capacity f (room_seen c))) j; queue = gone.seen j }) in
        rw (hands.entry ∙ ap handed_on leaves, put_gone s.xs f x') (
          record { mail = m.kept; linked = gone_links (handed_on (record d { waiting = q })) gone.links; counted = gone_counts; alike = gone_alike },
          (yields_as s) (PollSend f w) (model.answered (before_it s) f (send_seen x) (act_in (before_it s).mail i (actions.Send x.sender v))) answer (insert s.cs x.channel (handed_on (record d { waiting = q }))) (insert s.ss x.sender one_less) s.rs (remove s.xs f) before after
              (found_is _ (before_it s) (λ z. if is_full (before_it s) z.channel then model.pends (before_it s) f w z else model.answered (before_it s) f z (act_in (before_it s).mail i (actions.Send z.sender z.value))) (send_seen x) its_seen
              ∙ (λ j. if placed j then model.pends (before_it s) f w (send_seen x) else model.answered (before_it s) f (send_seen x) (act_in (before_it s).mail i (actions.Send x.sender (value_is v value j))))) m.replied
              (λ j. record { mail = m.hall j; rooms = rooms j; sends = (seen-remove send_seen s.xs f) j })
              (hands.wakers ∙ ap (λ (d : NamedChannel). before.wakers ++ map (λ (k : NamedWaker). k.waker) d.wakes) leaves ∙ ap (λ ws. before.wakers ++ ws) (woken ∙ m.wakes)) (omega (arith, counted, sum, hands.counted)),
        )

    -- it waits on, or goes to the end of the queue
    pended : {R : Type 0} (turn : R) (c' : NamedChannel) (x' : KeptSend) (before after : Waking ℕ) (w v : ℕ) (left : NamedChannel) → x.value ≡ Some v → x'.value ≡ Some v → demand_of x'.acquire ≡ 1 → x' ≡ record x { value = x'.value; acquire = x'.acquire }
        → is_full (before_it s) x.channel ≡ true → core.StaysPending {R = R} c x.acquire (record { name = f; waker = w }) (Ok turn) left x'.acquire → HandsOn c left c' before after
        → Yields s (PollSend f w) answers.Pending (insert s.cs x.channel c') s.ss s.rs (insert s.xs f x') before after
    pended turn c' x' before after w v l value value' ones same full stays hands =
        let it = joins c (own of_channel x.channel s.xs) links_of_it.linked is f x mine_is w turn l x'.acquire stays in
        let again : x' ≡ record x { acquire = x'.acquire } = same ∙ (λ j. record x { value = (value' ∙ sym value) j; acquire = x'.acquire }) in
        let channel : x'.channel ≡ x.channel = ap (λ (x : KeptSend). x.channel) same in
        let sender_is : x'.sender ≡ x.sender = ap (λ (x : KeptSend). x.sender) same in
        let quiet : l.wakes ≡ [] = ap (λ (c : NamedChannel). c.wakes) it.only ∙ (its_quiet s) x.channel c there in
        let mails : seen as_mailbox (insert s.cs x.channel (handed_on l)) ≡ seen as_mailbox s.cs = mail_stays (handed_on l) (ap (λ (c : NamedChannel). as_mailbox (handed_on c)) it.only ∙ (λ j. record (as_mailbox c) { wakes = (sym (ap (map (λ (k : NamedWaker). k.waker)) ((its_quiet s) x.channel c there))) j })) in
        let counted = (kept_now s) x.channel c there (handed_on l) in
        let capacity : l.capacity ≡ c.capacity = ap (λ (c : NamedChannel). c.capacity) it.only in
        let rooms = (rooms_at s) x.channel c (handed_on l) (model.joined f w) there (λ j. record { capacity = (capacity ∙ sym (joined_capacity f w (room_seen c))) j; queue = it.seen j }) in
        let own_now : own of_channel x.channel (insert s.xs f x') ≡ insert (own of_channel x.channel s.xs) f x' = own-put of_channel x.channel s.xs f x' channel in
        let seen_now : send_seen x' ≡ record (send_seen x) { polled = true } = ap send_seen again ∙ (λ j. record (send_seen x) { polled = it.polled j }) in
        rw hands.entry (
          record {
            mail = rw mails (mail.rests (letters s));
            linked = halls.turns of_channel itself AreLinked (λ c. 0) s.cs s.xs empty s.next i s.kept.linked s.later s.fits x.channel c (handed_on l) (insert s.xs f x') empty there
                (Comes f x' (let low = (s.kept.linked.firsts.at f x send).0 in let later = s.later in omega (arith, low, later)) channel (λ z had. ap of_channel (inside (sym had ∙ send)))) Stays
                (rw own_now (record {
                  linked = rw again it.links;
                  valued = by_put (own of_channel x.channel s.xs) f x' (λ g p. (z : KeptSend) → p ≡ Some z → IsSome z.value) (λ z here. let alike : x' ≡ z = cc in rw (← alike, value') refl) (λ g apart z here. links_of_it.valued g z here);
                  ones = by_put (own of_channel x.channel s.xs) f x' (λ g p. (z : KeptSend) → p ≡ Some z → demand_of z.acquire ≡ 1) (λ z here. let alike : x' ≡ z = cc in rw (← alike) ones) (λ g apart z here. links_of_it.ones g z here);
                })) (omega arith);
            counted = subst (λ ss. HallKept of_sender itself AreCounted (λ y. y.sends) ss (insert s.xs f x') empty (i + 1)) (insert_same s.ss x.sender y sender)
                (halls.turns of_sender itself AreCounted (λ y. y.sends) s.ss s.xs empty s.next i s.kept.counted s.later s.fits x.sender y y (insert s.xs f x') empty sender
                (Comes f x' (let low = (s.kept.linked.firsts.at f x send).0 in let later = s.later in omega (arith, low, later)) sender_is (λ z had. ap of_sender (inside (sym had ∙ send)))) Stays
                (rw (own-put of_sender x.sender s.xs f x' sender_is) (record { sends = (s.kept.counted.each x.sender y sender).sends ∙ sym (len-over (own of_sender x.sender s.xs) f x' x (own-at of_sender x.sender s.xs f x send refl)) })) (omega arith));
            alike = by_put s.xs f x' (λ g p. (z : KeptSend) (u : SenderEntry) → p ≡ Some z → get s.ss z.sender ≡ Some u → u.channel ≡ z.channel)
                (λ z u here at_it. let alike : x' ≡ z = cc in s.kept.alike f x u send (ap (get s.ss) (sym sender_is ∙ ap (λ (x : KeptSend). x.sender) alike) ∙ at_it) ∙ sym channel ∙ ap (λ (x : KeptSend). x.channel) alike)
                (λ g apart z u here at_it. s.kept.alike g z u here at_it);
          },
          (yields_as s) (PollSend f w) (model.pends (before_it s) f w (send_seen x)) answers.Pending (insert s.cs x.channel (handed_on l)) s.ss s.rs (insert s.xs f x') before after
              (found_is _ (before_it s) (λ z. if is_full (before_it s) z.channel then model.pends (before_it s) f w z else model.answered (before_it s) f z (act_in (before_it s).mail i (actions.Send z.sender z.value))) (send_seen x) its_seen
              ∙ ap (λ b. if b then model.pends (before_it s) f w (send_seen x) else model.answered (before_it s) f (send_seen x) (act_in (before_it s).mail i (actions.Send x.sender (send_seen x).value))) full) refl
              (λ j. record { mail = mailboxes_seen (mails j) (seen channel_of_sender s.ss) s.rs; rooms = rooms j; sends = (seen-insert send_seen s.xs f x' ∙ ap (insert (seen send_seen s.xs) f) seen_now) j })
              (hands.wakers ∙ ap (λ ws. before.wakers ++ map (λ (k : NamedWaker). k.waker) ws) quiet) (omega (arith, counted, hands.counted)),
        )

    full_by : (ended full : Bool) → c.ended ≡ ended → (length c.queued == c.capacity) ≡ full → is_full (before_it s) x.channel ≡ (if ended then false else full)
    full_by ended full is_ended is_it = (full_is s) x.channel c there ∙ (λ j. if is_ended j then false else is_it j)

    module _ (w : ℕ) (c' : NamedChannel) (x' : KeptSend) (before after : Waking ℕ) where
      pub ready_polled : (r : Result (Unit {0}) (SendError ℕ)) (answer : Answer) → answer ≡ ready_told r → SendPolled c x (record { name = f; waker = w }) (Ready r) c' x' before after
          → Yields s (PollSend f w) answer (insert s.cs x.channel c') (insert s.ss x.sender one_less) s.rs (remove (insert s.xs f x') f) before after
      ready_polled r answer says polled = let it = value_in x.value (links_of_it.valued f x mine_is) in by_answer it.0 it.1 c.ended (length c.queued == c.capacity) refl refl (rw it.1 at polled.polls)
        where
          by_answer : (v : ℕ) → x.value ≡ Some v → (ended full : Bool) → c.ended ≡ ended → (length c.queued == c.capacity) ≡ full
              → core.PollsValue c v (if ended then Err (Disconnected v) else if full then Err (Full v) else Ok tt) x.acquire (record { name = f; waker = w }) (Ok (Ready r)) polled.left x'.value x'.acquire
              → Yields s (PollSend f w) answer (insert s.cs x.channel c') (insert s.ss x.sender one_less) s.rs (remove (insert s.xs f x') f) before after
          by_answer v value true full is_ended is_it polls =
              let told : r ≡ Err (record { 0 = v }) = (let both = polls.0 in cc) in
              answered c' x' answer before after w v c polled.left value (full_by true full is_ended is_it) polls.2 refl refl
              (rw is_ended refl) (rw is_ended refl) (says ∙ ap ready_told told ∙ rw is_ended refl) polled.settles
          by_answer v value false true is_ended is_it polls = absurd (let pending = polls.0 in cc)
          by_answer v value false false is_ended is_it polls =
              let told : r ≡ Ok tt = (let both = polls.0 in cc) in
              answered c' x' answer before after w v (core.with_message c v) polled.left value (full_by false false is_ended is_it) polls.2 refl refl
              (rw is_ended refl) (rw is_ended (woken_of c.waker c.wakes ((its_quiet s) x.channel c there))) (says ∙ ap ready_told told ∙ rw is_ended refl) polled.settles

      pub pending_polled : SendPolled c x (record { name = f; waker = w }) Pending c' x' before after
          → Yields s (PollSend f w) answers.Pending (insert s.cs x.channel c') s.ss s.rs (insert s.xs f x') before after
      pending_polled polled = let it = value_in x.value (links_of_it.valued f x mine_is) in by_answer it.0 it.1 c.ended (length c.queued == c.capacity) refl refl (rw it.1 at polled.polls)
        where
          by_answer : (v : ℕ) → x.value ≡ Some v → (ended full : Bool) → c.ended ≡ ended → (length c.queued == c.capacity) ≡ full
              → core.PollsValue c v (if ended then Err (Disconnected v) else if full then Err (Full v) else Ok tt) x.acquire (record { name = f; waker = w }) (Ok Pending) polled.left x'.value x'.acquire
              → Yields s (PollSend f w) answers.Pending (insert s.cs x.channel c') s.ss s.rs (insert s.xs f x') before after
          by_answer v value true full is_ended is_it polls = absurd (let ready = polls.0 in cc)
          by_answer v value false true is_ended is_it polls = pended Pending c' x' before after w v polled.left value polls.1 polled.one polled.same (full_by false true is_ended is_it) polls.2 polled.settles
          by_answer v value false false is_ended is_it polls = absurd (let ready = polls.0 in cc)
