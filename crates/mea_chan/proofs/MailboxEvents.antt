-- what each event does to the channels of one kind, as they are kept and as they are seen
use Rattle.std.proofs.Common.{◌≡◌, ℕ, ◌+◌, ◌<◌, ◌≤◌, ◌^◌, ◌==◌, ◌++◌, Bool, true, false, cond, length, List, [], ◌∷◌, Option, Some, None, option_to_list, is_some, refl, ap, sym, subst, ◌∙◌, arith, append-nil, if◌then◌else◌}
use Rattle.std.specs.Option.{IsSome, option_map}
use Rattle.std.specs.Ordering.{nat_cmp}
use Rattle.std.specs.FinMap.{get, insert, remove, len, empty, get-empty, len-empty}
use Rattle.mea_family.specs.declared.answer.Answer.{Answer}
use Rattle.mea_family.specs.declared.answer.Answer.TheVariants as answers
use Rattle.mea_family.specs.declared.stop.Stop.TheVariants as stops
use Rattle.mea_family.specs.Family.{Outcome, quietly}
use Rattle.mea_base.specs.Ready.{Waking}
use Rattle.mea_base.specs.Totals.{total, weight}
use Rattle.mea_base.proofs.Maps.{total-has, nothing_at, inside, get-there, get-removed_other, is_there, value_in}
use Rattle.mea_base.proofs.Totals.{total-insert, total-remove}
use Rattle.mea_base.proofs.NamedMaps.{is_some-map, get-seen}
use Rattle.mea_by_name.specs.ByName.{Names, seen, own}
use Rattle.mea_family.specs.Play.{Part, PartYields, PartRests, found}
use Rattle.mea_by_name.proofs.Cases.{found_is}
use Rattle.mea_by_name.proofs.Halls as halls
use Rattle.mea_by_name.proofs.Own.{seen-at, seen-back, own-seen, len-seen, seen-empty, seen-insert, seen-remove, total-seen, own-at, own-none, own-put, own-gone, own-empty, insert_same, put_gone, gone_none, len-new, Moves, Stays, Comes, Goes, Follows}
use Rattle.mea_chan_core.specs.Mailbox.{recv_answer, after_recv, without_sender}
use Rattle.mea_chan_model.specs.Mailboxes as model
use Rattle.mea_chan_model.specs.Valid.{AreValid}
use Rattle.mea_chan_model.proofs.Acting.{known_but}
use Rattle.mea_chan_model.specs.Mailboxes.{Mailboxes, Receiver, is_channel, is_sender, is_receiver, polls_as, senders_in, channel_of, registered, tidied_channels}
use Rattle.mea_chan_model.specs.MailboxActions.{act_in, cause_in, most_senders, Make, Copy, Send, SendLast, EndSender, Receive, Poll, EndReceiver, IntoFuture, TellClosed, TellOver, TellMessage}
use Rattle.mea_chan.specs.declared.receiver_entry.ReceiverEntry.{ReceiverEntry}
use Rattle.mea_chan.specs.Cores.{Mailbox, is_over, message_sent, sent_answer, last_sent, receiver_ended, has_message, no_message_comes, new_core}
use Rattle.mea_chan.specs.Entries.{kept, told, poll_told, Settles, Polls}
use Rattle.mea_chan.specs.MailboxParts.{channel_seen, receiver_seen, mailboxes_seen, AreKept, AreKeptMailboxes, of_sender, of_receiver}
use Rattle.mea_chan.specs.Lends.{StandsFor}
use Rattle.mea_chan.proofs.OneChannel as one
use Rattle.mea_chan.proofs.OneChannel.{settled}

abbrev kept_in : Names Mailbox → ℕ
kept_in cs = total (λ o m. kept m) cs

registered_is : (cs : Names Mailbox) (ss : Names ℕ) (rs : Names ReceiverEntry) → registered (mailboxes_seen cs ss rs) ≡ kept_in cs
registered_is cs ss rs = total-seen channel_seen (λ (c : model.Mailbox). length (option_to_list c.waker)) cs

not_some : (p : Option Mailbox) → IsSome p → p ≡ None → ⊥
not_some None some none = absurd (cc)
not_some (Some m) some none = absurd (cc)

nothing_there : (X : Type 0) (i : ℕ) → get (empty {X = X} {R = nat_cmp}) i ≡ None
nothing_there X i = get-empty nat_cmp i

-- ---- what is looked up in channels that are seen so
module _ {old : Part Mailboxes} (cs : Names Mailbox) (ss : Names ℕ) (rs : Names ReceiverEntry) (next : ℕ) (view : ◌≡◌ {A = Part Mailboxes} (record { hall = mailboxes_seen cs ss rs; next = next }) old) where
  pub channel_is : (o : ℕ) (p : Option Mailbox) → get cs o ≡ p → is_some p ≡ is_channel old.hall o
  channel_is o p is = ap is_some (sym is) ∙ sym (is_some-map channel_seen (get cs o)) ∙ ap is_some (sym (get-seen (λ k m. channel_seen m) cs o)) ∙ ap (λ (p : Part Mailboxes). is_channel p.hall o) view

  pub stands_for_it : (o : ℕ) (m : Mailbox) → get cs o ≡ Some m → StandsFor old.hall o m
  stands_for_it o m there = ap (λ (p : Part Mailboxes). get p.hall.channels o) (sym view) ∙ seen-at channel_seen cs o m there

  pub sender_is : (k : ℕ) (p : Option ℕ) → get ss k ≡ p → is_some p ≡ is_sender old.hall k
  sender_is k p is = ap is_some (sym is) ∙ ap (λ (p : Part Mailboxes). is_sender p.hall k) view

  pub receiver_is : (r : ℕ) (p : Option ReceiverEntry) → get rs r ≡ p → (polls : Bool) → polls_as (option_map receiver_seen p) polls ≡ is_receiver old.hall r polls
  receiver_is r p is polls = ap (λ p. polls_as (option_map receiver_seen p) polls) (sym is) ∙ ap (λ p. polls_as p polls) (sym (get-seen (λ k x. receiver_seen x) rs r)) ∙ ap (λ (p : Part Mailboxes). is_receiver p.hall r polls) view

  pub crowded_is : (s o : ℕ) (m : Mailbox) → get ss s ≡ Some o → get cs o ≡ Some m → (if m.senders == most_senders then Some stops.Overflow else None) ≡ cause_in old.hall (Copy s)
  crowded_is s o m sender there =
      let channel : channel_of (mailboxes_seen cs ss rs) (get ss s) ≡ Some (channel_seen m) = ap (channel_of (mailboxes_seen cs ss rs)) sender ∙ seen-at channel_seen cs o m there in
      sym (ap (λ n. if n == most_senders then Some stops.Overflow else None) (ap senders_in channel))
      ∙ sym (ap (λ b. if b then (if senders_in (channel_of (mailboxes_seen cs ss rs) (get ss s)) == most_senders then Some stops.Overflow else None) else Some stops.Unknown) (ap is_some sender))
      ∙ ap (λ (p : Part Mailboxes). cause_in p.hall (Copy s)) view

-- what is kept to is seen
pub seen_valid : {old : Part Mailboxes} (cs : Names Mailbox) (ss : Names ℕ) (rs : Names ReceiverEntry) (next : ℕ) → ◌≡◌ {A = Part Mailboxes} (record { hall = mailboxes_seen cs ss rs; next = next }) old → AreKeptMailboxes cs ss rs next → AreValid old.hall
seen_valid cs ss rs next view kept = subst (λ (p : Part Mailboxes). AreValid p.hall) view (record {
  senders = λ o c there. let it = seen-back channel_seen cs o c there in sym (ap (λ (c : model.Mailbox). c.senders) it.2) ∙ (kept.each o it.0 it.1).senders;
  receivers = λ o c there. let it = seen-back channel_seen cs o c there in
      sym (ap (λ (c : model.Mailbox). cond {A = ℕ} c.ended 0 1) it.2) ∙ (kept.each o it.0 it.1).receivers
      ∙ sym (ap (λ m. len m) (own-seen of_receiver (λ (x : Receiver). x.channel) receiver_seen (λ x. refl) o rs) ∙ len-seen receiver_seen (own of_receiver o rs));
  waits = λ o c w there waker. let it = seen-back channel_seen cs o c there in
      subst (λ (c : model.Mailbox). (c.queued ≡ []) × (0 < c.senders)) it.2 ((kept.each o it.0 it.1).waits w (ap (λ (c : model.Mailbox). c.waker) it.2 ∙ waker));
})

not_overflowing : (crowded : Bool) → (if crowded then Some stops.Overflow else None) ≡ None → crowded ≡ false
not_overflowing true is = absurd (cc)
not_overflowing false is = refl

-- ---- channels of one kind before event number i
pub record Site (old : Part Mailboxes) (i : ℕ) : Type 0 where
  pub cs : Names Mailbox
  pub ss : Names ℕ
  pub rs : Names ReceiverEntry
  pub next : ℕ
  pub view : ◌≡◌ {A = Part Mailboxes} (record { hall = mailboxes_seen cs ss rs; next = next }) old
  pub kept : AreKeptMailboxes cs ss rs next
  pub later : next ≤ i
  pub fits : i < 2 ^ 64

abbrev pub site : {old : Part Mailboxes} {i : ℕ} (cs : Names Mailbox) (ss : Names ℕ) (rs : Names ReceiverEntry) (next : ℕ) → ◌≡◌ {A = Part Mailboxes} (record { hall = mailboxes_seen cs ss rs; next = next }) old → AreKeptMailboxes cs ss rs next → old.next ≤ i → i < 2 ^ 64 → Site old i
site cs ss rs next view kept later fits = record { cs = cs; ss = ss; rs = rs; next = next; view = view; kept = kept; later = rw (← view) at later; fits = fits }

-- the channels of one kind after it
abbrev pub part_of : Names Mailbox → Names ℕ → Names ReceiverEntry → ℕ → Part Mailboxes
part_of cs ss rs next = record { hall = mailboxes_seen cs ss rs; next = next }

module _ {old : Part Mailboxes} {i : ℕ} (s : Site old i) where
  -- what is said of the channels as they are kept is said of them as they are seen
  rests_as : (out : Mailboxes → Outcome Mailboxes) (o : Outcome Mailboxes) (answer : Answer) (cs' : Names Mailbox) (ss' : Names ℕ) (rs' : Names ReceiverEntry) → out (mailboxes_seen s.cs s.ss s.rs) ≡ o → answer ≡ o.reply
      → seen channel_seen cs' ≡ o.hall.channels → ss' ≡ o.hall.senders → seen receiver_seen rs' ≡ o.hall.receivers → o.wakes ≡ [] → kept_in cs' ≡ kept_in s.cs
      → PartRests registered old i (out old.hall) answer (part_of cs' ss' rs' (i + 1))
  rests_as out o answer cs' ss' rs' is replied channels senders receivers silent waiting = subst (λ p. PartRests registered p i (out p.hall) answer (part_of cs' ss' rs' (i + 1))) s.view (rw is (record {
    replied = replied;
    moved = λ j. record { hall = record { channels = channels j; senders = senders j; receivers = receivers j }; next = i + 1 };
    silent = silent;
    counted = sym (λ j. registered (record { channels = channels j; senders = senders j; receivers = receivers j })) ∙ registered_is cs' ss' rs' ∙ waiting ∙ sym (registered_is s.cs s.ss s.rs);
  }))

  yields_as : (out : Mailboxes → Outcome Mailboxes) (o : Outcome Mailboxes) (answer : Answer) (cs' : Names Mailbox) (ss' : Names ℕ) (rs' : Names ReceiverEntry) (before after : Waking ℕ) → out (mailboxes_seen s.cs s.ss s.rs) ≡ o → answer ≡ o.reply
      → seen channel_seen cs' ≡ o.hall.channels → ss' ≡ o.hall.senders → seen receiver_seen rs' ≡ o.hall.receivers → after.wakers ≡ before.wakers ++ o.wakes → after.registered + kept_in s.cs ≡ before.registered + kept_in cs'
      → PartYields registered old i (out old.hall) answer (part_of cs' ss' rs' (i + 1)) before after
  yields_as out o answer cs' ss' rs' before after is replied channels senders receivers woken waiting = subst (λ p. PartYields registered p i (out p.hall) answer (part_of cs' ss' rs' (i + 1)) before after) s.view (rw is (record {
    replied = replied;
    moved = λ j. record { hall = record { channels = channels j; senders = senders j; receivers = receivers j }; next = i + 1 };
    woken = woken;
    counted =
        let now : registered o.hall ≡ kept_in cs' = sym (λ j. registered (record { channels = channels j; senders = senders j; receivers = receivers j })) ∙ registered_is cs' ss' rs' in
        omega (arith, waiting, now, registered_is s.cs s.ss s.rs);
  }))

  -- ---- what is there
  pub sender_there : (k : ℕ) → is_sender old.hall k ≡ true → IsSome (get s.ss k)
  sender_there k is = ap (λ (p : Part Mailboxes). is_sender p.hall k) s.view ∙ is

  pub copier_there : (k : ℕ) → cause_in old.hall (Copy k) ≡ None → IsSome (get s.ss k)
  copier_there k allowed = sender_there k (known_but (is_sender old.hall k) (model.senders_beside old.hall k == most_senders) stops.Overflow allowed)

  pub senders_channel : (k o : ℕ) → get s.ss k ≡ Some o → IsSome (get s.cs o)
  senders_channel k o there = (s.kept.firsts.at k o there).1

  pub receivers_channel : (r : ℕ) (x : ReceiverEntry) → get s.rs r ≡ Some x → IsSome (get s.cs x.channel)
  receivers_channel r x there = (s.kept.seconds.at r x there).1

  no_sender : get s.ss i ≡ None
  no_sender = halls.no_first of_sender of_receiver AreKept (λ m. 0) s.cs s.ss s.rs s.next i s.kept s.later s.fits

  no_receiver : get s.rs i ≡ None
  no_receiver = halls.no_second of_sender of_receiver AreKept (λ m. 0) s.cs s.ss s.rs s.next i s.kept s.later s.fits

  no_channel : get s.cs i ≡ None
  no_channel = halls.no_object of_sender of_receiver AreKept (λ m. 0) s.cs s.ss s.rs s.next i s.kept s.later s.fits

  pub rests : AreKeptMailboxes s.cs s.ss s.rs (i + 1)
  rests = halls.rests of_sender of_receiver AreKept (λ m. 0) s.cs s.ss s.rs s.next i s.kept s.later s.fits

  -- ---- a channel is made, with a sender and a receiver
  module _ (polls : Bool) where
    abbrev newcomer : ReceiverEntry
    newcomer = record { channel = i; polls = polls }

    new_good : AreKept new_core (own of_sender i (insert s.ss i i)) (own of_receiver i (insert s.rs i newcomer))
    new_good =
        let nobody : own of_sender i s.ss ≡ empty = own-empty of_sender i s.ss (λ k o there mine. absurd (let some = senders_channel k o there in let absent = ap (get s.cs) (sym mine) ∙ no_channel in not_some (get s.cs o) some absent)) in
        let nothing : own of_receiver i s.rs ≡ empty = own-empty of_receiver i s.rs (λ k x there mine. absurd (let some = receivers_channel k x there in let absent = ap (get s.cs) (sym mine) ∙ no_channel in not_some (get s.cs x.channel) some absent)) in
        rw (own-put of_sender i s.ss i i refl, own-put of_receiver i s.rs i newcomer refl, nobody, nothing) (record {
          senders = let one = len-new (empty {X = ℕ} {R = nat_cmp}) i i (nothing_there ℕ i) in omega (arith, one, len-empty nat_cmp ℕ);
          receivers = let one = len-new (empty {X = ReceiverEntry} {R = nat_cmp}) i newcomer (nothing_there ReceiverEntry i) in omega (arith, one, len-empty nat_cmp ReceiverEntry);
          waits = λ w kept. absurd (cc);
          quiet = refl;
        })

    pub made : (AreKeptMailboxes (insert s.cs i new_core) (insert s.ss i i) (insert s.rs i newcomer) (i + 1))
        × PartRests registered old i (act_in old.hall i (Make polls)) answers.Made (part_of (insert s.cs i new_core) (insert s.ss i i) (insert s.rs i newcomer) (i + 1))
    made =
        let nothing : weight (λ o m. kept m) i (get s.cs i) ≡ 0 = ap (weight (λ o m. kept m) i) no_channel in (
          halls.makes_with of_sender of_receiver AreKept (λ m. 0) s.cs s.ss s.rs s.next i s.kept s.later s.fits new_core (insert s.ss i i) (insert s.rs i newcomer)
              (Comes i i (omega arith) refl (λ y had. absurd (let none = no_sender in cc))) (Comes i newcomer (omega arith) refl (λ y had. absurd (let none = no_receiver in cc))) new_good (omega arith),
          rests_as (λ h. act_in h i (Make polls)) _ answers.Made (insert s.cs i new_core) (insert s.ss i i) (insert s.rs i newcomer) refl refl
              (seen-insert channel_seen s.cs i new_core) refl (seen-insert receiver_seen s.rs i newcomer) refl (omega (arith, nothing, total-insert (λ o m. kept m) s.cs i new_core)),
        )

    -- where there is no memory, what was put is taken away again
    pub unmade : (rs' : Names ReceiverEntry) → rs' ≡ s.rs → (ss' : Names ℕ) → ss' ≡ insert s.ss i i → (AreKeptMailboxes s.cs (remove ss' i) rs' s.next) × (part_of s.cs (remove ss' i) rs' s.next ≡ old)
    unmade rs' receivers ss' senders = rw (receivers, senders, put_gone s.ss i i, gone_none s.ss i no_sender) (s.kept, s.view)

    pub all_unmade : (cs' : Names Mailbox) → cs' ≡ s.cs → (rs' : Names ReceiverEntry) → rs' ≡ insert s.rs i newcomer → (ss' : Names ℕ) → ss' ≡ insert s.ss i i
        → (AreKeptMailboxes cs' (remove ss' i) (remove rs' i) s.next) × (part_of cs' (remove ss' i) (remove rs' i) s.next ≡ old)
    all_unmade cs' channels rs' receivers ss' senders = rw (channels, receivers, senders, put_gone s.ss i i, gone_none s.ss i no_sender, put_gone s.rs i newcomer, gone_none s.rs i no_receiver) (s.kept, s.view)

  -- ---- what is kept of a channel
  module _ (o : ℕ) (m : Mailbox) (there : get s.cs o ≡ Some m) where
    pub its_kept : AreKept m (own of_sender o s.ss) (own of_receiver o s.rs)
    its_kept = s.kept.each o m there

    pub its_room : (before : Waking ℕ) → registered old.hall ≤ before.registered → kept m ≤ before.registered
    its_room before room =
        let all : registered old.hall ≡ kept_in s.cs = ap (λ (p : Part Mailboxes). registered p.hall) (sym s.view) ∙ registered_is s.cs s.ss s.rs in
        omega (arith, room, all, total-has (λ o m. kept m) s.cs o m there)

    found_channel : (act : model.Mailbox → Outcome Mailboxes) → found (get (seen channel_seen s.cs) o) (mailboxes_seen s.cs s.ss s.rs) act ≡ act (channel_seen m)
    found_channel act = found_is _ (mailboxes_seen s.cs s.ss s.rs) act (channel_seen m) (seen-at channel_seen s.cs o m there)

    -- how many wakers are kept where the channel is m' now
    kept_now : (m' : Mailbox) → kept_in (insert s.cs o m') + kept m ≡ kept_in s.cs + kept m'
    kept_now m' =
        let here : weight (λ o m. kept m) o (get s.cs o) ≡ kept m = ap (weight (λ o m. kept m) o) there in
        omega (arith, here, total-insert (λ o m. kept m) s.cs o m')

    turns : (m' : Mailbox) (ss' : Names ℕ) (rs' : Names ReceiverEntry) → Moves of_sender o i s.ss ss' → Moves of_receiver o i s.rs rs' → AreKept m' (own of_sender o ss') (own of_receiver o rs') → AreKeptMailboxes (insert s.cs o m') ss' rs' (i + 1)
    turns m' ss' rs' firsts seconds good = halls.turns of_sender of_receiver AreKept (λ m. 0) s.cs s.ss s.rs s.next i s.kept s.later s.fits o m m' ss' rs' there firsts seconds good (omega arith)

    -- a look alone changes nothing
    pub unchanged : (AreKeptMailboxes (insert s.cs o m) s.ss s.rs s.next) × (part_of (insert s.cs o m) s.ss s.rs s.next ≡ old)
    unchanged = rw (insert_same s.cs o m there) (s.kept, s.view)

    pub over_there : (m' : Mailbox) → IsSome (get (insert s.cs o m') o)
    over_there m' = is_there _ m' (get-there s.cs o m')

    -- ---- the channel is m' now, or gone where that is over
    module _ (m' : Mailbox) (ss' : Names ℕ) (rs' : Names ReceiverEntry) (firsts : Moves of_sender o i s.ss ss') (seconds : Moves of_receiver o i s.rs rs') (good : AreKept m' (own of_sender o ss') (own of_receiver o rs')) where
      abbrev tidied : Bool → Names Mailbox
      tidied over = if over then remove (insert s.cs o m') o else insert s.cs o m'

      tidied_kept : (over : Bool) → is_over m' ≡ over → AreKeptMailboxes (tidied over) ss' rs' (i + 1)
      tidied_kept true is =
          let gone = one.over_is m' is in
          let ended = ap (λ b. cond {A = ℕ} b 0 1) (sym gone.0) ∙ good.receivers in
          rw put_gone (halls.goes_out of_sender of_receiver AreKept (λ m. 0) s.cs s.ss s.rs s.next i s.kept s.later s.fits o m ss' rs' there firsts seconds (omega (arith, good.senders, gone.1)) (omega (arith, ended)))
      tidied_kept false is = turns m' ss' rs' firsts seconds good

      tidied_seen : (over : Bool) → is_over m' ≡ over → seen channel_seen (tidied over) ≡ tidied_channels (seen channel_seen s.cs) o (channel_seen m')
      tidied_seen true is = ap (seen channel_seen) (put_gone s.cs o m') ∙ seen-remove channel_seen s.cs o ∙ sym (ap (λ b. if b then remove (seen channel_seen s.cs) o else insert (seen channel_seen s.cs) o (channel_seen m')) is)
      tidied_seen false is = seen-insert channel_seen s.cs o m' ∙ sym (ap (λ b. if b then remove (seen channel_seen s.cs) o else insert (seen channel_seen s.cs) o (channel_seen m')) is)

      kept_tidied : (over : Bool) → is_over m' ≡ over → kept_in (tidied over) + kept m ≡ kept_in s.cs + kept m'
      kept_tidied true is =
          let nobody = one.none_kept m' (one.silent m' _ _ good (one.over_is m' is).1) in
          let here : weight (λ o m. kept m) o (get s.cs o) ≡ kept m = ap (weight (λ o m. kept m) o) there in
          let gone : kept_in (remove (insert s.cs o m') o) ≡ kept_in (remove s.cs o) = ap kept_in (put_gone s.cs o m') in
          omega (arith, gone, nobody, here, total-remove (λ o m. kept m) s.cs o)
      kept_tidied false is = kept_now m'

  -- ---- by a sender
  module _ (k o : ℕ) (m : Mailbox) (sender : get s.ss k ≡ Some o) (there : get s.cs o ≡ Some m) where
    own_sender : get (own of_sender o s.ss) k ≡ Some o
    own_sender = own-at of_sender o s.ss k o sender refl

    pub some_sender : 0 < m.senders
    some_sender = one.some_sender m _ _ (its_kept o m there) k o own_sender

    found_sender : (act : ℕ → model.Mailbox → Outcome Mailboxes) → found (get s.ss k) (mailboxes_seen s.cs s.ss s.rs) (λ o. found (get (seen channel_seen s.cs) o) (mailboxes_seen s.cs s.ss s.rs) (act o)) ≡ act o (channel_seen m)
    found_sender act = found_is _ (mailboxes_seen s.cs s.ss s.rs) _ o sender ∙ found_channel o m there (act o)

    pub not_crowded : cause_in old.hall (Copy k) ≡ None → (m.senders == most_senders) ≡ false
    not_crowded allowed = not_overflowing (m.senders == most_senders) (crowded_is s.cs s.ss s.rs s.next s.view k o m sender there ∙ allowed)

    sender_goes : Moves of_sender o i s.ss (remove s.ss k)
    sender_goes = Goes k (λ y is. inside (sym is ∙ sender))

    -- a further one is made
    pub copied : (ss' : Names ℕ) → ss' ≡ insert s.ss i o
        → (AreKeptMailboxes (insert s.cs o (record m { senders = m.senders + 1 })) ss' s.rs (i + 1)) × PartRests registered old i (act_in old.hall i (Copy k)) answers.Made (part_of (insert s.cs o (record m { senders = m.senders + 1 })) ss' s.rs (i + 1))
    copied ss' is =
        let m' : Mailbox = record m { senders = m.senders + 1 } in
        let counted = kept_now o m there (record m { senders = m.senders + 1 }) in
        rw is (
          turns o m there (record m { senders = m.senders + 1 }) (insert s.ss i o) s.rs (Comes i o (omega arith) refl (λ y had. absurd (let none = no_sender in cc))) Stays
              (rw (own-put of_sender o s.ss i o refl) (one.copied_kept m _ _ (its_kept o m there) i o (own-none of_sender o s.ss i no_sender))),
          rests_as (λ h. act_in h i (Copy k)) _ answers.Made (insert s.cs o (record m { senders = m.senders + 1 })) (insert s.ss i o) s.rs (found_sender (model.copy (mailboxes_seen s.cs s.ss s.rs) i)) refl
              (seen-insert channel_seen s.cs o (record m { senders = m.senders + 1 })) refl refl refl (omega (arith, counted)),
        )

    pub told_closed : (closed : Bool) (answer : Answer) → answer ≡ (if closed then answers.Yes else answers.No) → closed ≡ m.ended → PartRests registered old i (act_in old.hall i (TellClosed k)) answer (part_of s.cs s.ss s.rs (i + 1))
    told_closed closed answer is same = rests_as (λ h. act_in h i (TellClosed k)) _ answer s.cs s.ss s.rs (found_sender (λ o c. model.tell (mailboxes_seen s.cs s.ss s.rs) c.ended)) (is ∙ ap (λ b. if b then answers.Yes else answers.No) same) refl refl refl refl refl

    module _ (m' : Mailbox) (before after : Waking ℕ) where
      pub sent : (v : ℕ) (is : Bool) (answer : Answer) → answer ≡ (if is then answers.Accepted else answers.Closed v) → is ≡ sent_answer m → Settles m (message_sent m v) m' before after
          → (AreKeptMailboxes (insert s.cs o m') s.ss s.rs (i + 1)) × PartYields registered old i (act_in old.hall i (Send k v)) answer (part_of (insert s.cs o m') s.ss s.rs (i + 1)) before after
      sent v is answer says same settles =
          let counted = kept_now o m there (settled (message_sent m v)) in
          let k' = its_kept o m there in
          rw settles.entry (
            turns o m there (settled (message_sent m v)) s.ss s.rs Stays Stays (one.sent_kept m _ _ (its_kept o m there) v),
            yields_as (λ h. act_in h i (Send k v)) _ answer (insert s.cs o (settled (message_sent m v))) s.ss s.rs before after (found_sender (λ o. model.send (mailboxes_seen s.cs s.ss s.rs) o v))
                (one.answer_sent m v answer (says ∙ ap (λ b. if b then answers.Accepted else answers.Closed v) same))
                (seen-insert channel_seen s.cs o (settled (message_sent m v)) ∙ ap (insert (seen channel_seen s.cs) o) (one.seen_sent m v)) refl refl
                (settles.wakers ∙ ap (λ ws. before.wakers ++ ws) (one.woken_sent m v (its_kept o m there).quiet))
                (omega (arith, counted, settles.counted)),
          )

      -- one is gone
      module _ (ss' : Names ℕ) (gone : ss' ≡ remove s.ss k) (over : Bool) (is_it : is_over m' ≡ over) where
        pub sender_ended : Settles m (without_sender m) m' before after
            → (AreKeptMailboxes (if over then remove (insert s.cs o m') o else insert s.cs o m') ss' s.rs (i + 1))
            × PartYields registered old i (act_in old.hall i (EndSender k)) answers.Done (part_of (if over then remove (insert s.cs o m') o else insert s.cs o m') ss' s.rs (i + 1)) before after
        sender_ended settles =
            let now = ap is_over (sym settles.entry) ∙ is_it in
            let good : AreKept (settled (without_sender m)) (own of_sender o (remove s.ss k)) (own of_receiver o s.rs) = rw (own-gone of_sender o s.ss k) (one.less_kept m _ _ (its_kept o m there) k o own_sender) in
            let counted = kept_tidied o m there (settled (without_sender m)) (remove s.ss k) s.rs sender_goes Stays good over now in
            rw (settles.entry, gone) (
              tidied_kept o m there (settled (without_sender m)) (remove s.ss k) s.rs sender_goes Stays good over now,
              yields_as (λ h. act_in h i (EndSender k)) _ answers.Done _ (remove s.ss k) s.rs before after (found_sender (model.end_sender (mailboxes_seen s.cs s.ss s.rs) k)) refl
                  (tidied_seen o m there (settled (without_sender m)) (remove s.ss k) s.rs sender_goes Stays good over now ∙ ap (tidied_channels (seen channel_seen s.cs) o) (one.seen_less m)) refl refl
                  (settles.wakers ∙ ap (λ ws. before.wakers ++ ws) (one.woken_less m (its_kept o m there).quiet))
                  (omega (arith, counted, settles.counted)),
            )

        pub last_was_sent : (v : ℕ) (is : Bool) (answer : Answer) → answer ≡ (if is then answers.Accepted else answers.Closed v) → is ≡ sent_answer m → m.senders ≡ 1 → Settles m (last_sent m v) m' before after
            → (AreKeptMailboxes (if over then remove (insert s.cs o m') o else insert s.cs o m') ss' s.rs (i + 1))
            × PartYields registered old i (act_in old.hall i (SendLast k v)) answer (part_of (if over then remove (insert s.cs o m') o else insert s.cs o m') ss' s.rs (i + 1)) before after
        last_was_sent v is answer says same alone settles =
            let now = ap is_over (sym settles.entry) ∙ is_it in
            let good : AreKept (settled (last_sent m v)) (own of_sender o (remove s.ss k)) (own of_receiver o s.rs) = rw (own-gone of_sender o s.ss k) (one.last_kept m _ _ (its_kept o m there) k o own_sender v alone) in
            let counted = kept_tidied o m there (settled (last_sent m v)) (remove s.ss k) s.rs sender_goes Stays good over now in
            rw (settles.entry, gone) (
              tidied_kept o m there (settled (last_sent m v)) (remove s.ss k) s.rs sender_goes Stays good over now,
              yields_as (λ h. act_in h i (SendLast k v)) _ answer _ (remove s.ss k) s.rs before after (found_sender (model.send_last (mailboxes_seen s.cs s.ss s.rs) k v))
                  (one.answer_sent m v answer (says ∙ ap (λ b. if b then answers.Accepted else answers.Closed v) same))
                  (tidied_seen o m there (settled (last_sent m v)) (remove s.ss k) s.rs sender_goes Stays good over now ∙ ap (tidied_channels (seen channel_seen s.cs) o) (one.seen_last m v)) refl refl
                  settles.wakers
                  (omega (arith, counted, settles.counted)),
            )

  -- ---- by a receiver
  module _ (r : ℕ) (x : ReceiverEntry) (m : Mailbox) (receiver : get s.rs r ≡ Some x) (there : get s.cs x.channel ≡ Some m) where
    own_receiver : get (own of_receiver x.channel s.rs) r ≡ Some x
    own_receiver = own-at of_receiver x.channel s.rs r x receiver refl

    pub lives : m.ended ≡ false
    lives = one.lives m _ _ (its_kept x.channel m there) r x own_receiver

    found_receiver : (act : ℕ → model.Mailbox → Outcome Mailboxes)
        → found (get (seen receiver_seen s.rs) r) (mailboxes_seen s.cs s.ss s.rs) (λ y. found (get (seen channel_seen s.cs) y.channel) (mailboxes_seen s.cs s.ss s.rs) (act y.channel)) ≡ act x.channel (channel_seen m)
    found_receiver act = found_is _ (mailboxes_seen s.cs s.ss s.rs) _ (receiver_seen x) (seen-at receiver_seen s.rs r x receiver) ∙ found_channel x.channel m there (act x.channel)

    pub told_over : (over : Bool) (answer : Answer) → answer ≡ (if over then answers.Yes else answers.No) → over ≡ no_message_comes m → PartRests registered old i (act_in old.hall i (TellOver r)) answer (part_of s.cs s.ss s.rs (i + 1))
    told_over over answer is same = rests_as (λ h. act_in h i (TellOver r)) _ answer s.cs s.ss s.rs (found_receiver (λ o c. model.tell (mailboxes_seen s.cs s.ss s.rs) (if c.senders == 0 then model.is_empty c.queued else false)))
        (is ∙ ap (λ b. if b then answers.Yes else answers.No) (same ∙ one.over_told m)) refl refl refl refl refl

    pub told_message : (has : Bool) (answer : Answer) → answer ≡ (if has then answers.Yes else answers.No) → has ≡ has_message m → PartRests registered old i (act_in old.hall i (TellMessage r)) answer (part_of s.cs s.ss s.rs (i + 1))
    told_message has answer is same = rests_as (λ h. act_in h i (TellMessage r)) _ answer s.cs s.ss s.rs (found_receiver (λ o c. model.tell (mailboxes_seen s.cs s.ss s.rs) (if model.is_empty c.queued then false else true)))
        (is ∙ ap (λ b. if b then answers.Yes else answers.No) (same ∙ one.message_told m)) refl refl refl refl refl

    -- it takes the first message
    pub received : (polls : Bool) (m' : Mailbox) (answer : Answer) → answer ≡ told (recv_answer m) → m' ≡ after_recv m
        → (AreKeptMailboxes (insert s.cs x.channel m') s.ss s.rs (i + 1)) × PartRests registered old i (act_in old.hall i (Receive r polls)) answer (part_of (insert s.cs x.channel m') s.ss s.rs (i + 1))
    received polls m' answer says is = at m.queued refl
      where
        at : (q : List ℕ) → m.queued ≡ q → (AreKeptMailboxes (insert s.cs x.channel m') s.ss s.rs (i + 1)) × PartRests registered old i (act_in old.hall i (Receive r polls)) answer (part_of (insert s.cs x.channel m') s.ss s.rs (i + 1))
        at [] none = rw (is ∙ one.after_none m none, insert_same s.cs x.channel m there) (
          rests,
          rests_as (λ h. act_in h i (Receive r polls)) (model.receive_of (mailboxes_seen s.cs s.ss s.rs) x.channel (channel_seen m) []) answer s.cs s.ss s.rs
              (found_receiver (λ o c. model.receive_of (mailboxes_seen s.cs s.ss s.rs) o c c.queued) ∙ ap (model.receive_of (mailboxes_seen s.cs s.ss s.rs) x.channel (channel_seen m)) none)
              (says ∙ one.told_none m lives none) refl refl refl refl refl,
        )
        at (v ∷ rest) some = let counted = kept_now x.channel m there (record m { queued = rest }) in rw (is ∙ one.after_some m v rest some) (
          turns x.channel m there (record m { queued = rest }) s.ss s.rs Stays Stays (one.received_kept m _ _ (its_kept x.channel m there) v rest some),
          rests_as (λ h. act_in h i (Receive r polls)) (model.receive_of (mailboxes_seen s.cs s.ss s.rs) x.channel (channel_seen m) (v ∷ rest)) answer (insert s.cs x.channel (record m { queued = rest })) s.ss s.rs
              (found_receiver (λ o c. model.receive_of (mailboxes_seen s.cs s.ss s.rs) o c c.queued) ∙ ap (model.receive_of (mailboxes_seen s.cs s.ss s.rs) x.channel (channel_seen m)) some)
              (says ∙ ap told (one.answer_some m v rest some)) (seen-insert channel_seen s.cs x.channel (record m { queued = rest })) refl refl refl (omega (arith, counted)),
        )

    -- it is polled
    pub polled : (w : ℕ) (m' : Mailbox) (answer : Answer) (before after : Waking ℕ) → Polls m w answer m' before after
        → (AreKeptMailboxes (insert s.cs x.channel m') s.ss s.rs (i + 1)) × PartYields registered old i (act_in old.hall i (Poll r w)) answer (part_of (insert s.cs x.channel m') s.ss s.rs (i + 1)) before after
    polled w m' answer before after polls = at m.queued refl
      where
        Done : Type 0
        Done = (AreKeptMailboxes (insert s.cs x.channel m') s.ss s.rs (i + 1)) × PartYields registered old i (act_in old.hall i (Poll r w)) answer (part_of (insert s.cs x.channel m') s.ss s.rs (i + 1)) before after

        acted : (q : List ℕ) → m.queued ≡ q → act_in (mailboxes_seen s.cs s.ss s.rs) i (Poll r w) ≡ model.poll_of (mailboxes_seen s.cs s.ss s.rs) w x.channel (channel_seen m) q
        acted q is = found_receiver (λ o c. model.poll_of (mailboxes_seen s.cs s.ss s.rs) w o c c.queued) ∙ ap (model.poll_of (mailboxes_seen s.cs s.ss s.rs) w x.channel (channel_seen m)) is

        same_wakers : after.wakers ≡ before.wakers ++ []
        same_wakers = polls.wakers ∙ sym (append-nil before.wakers)

        at_none : m.queued ≡ [] → (b : Bool) → (m.senders == 0) ≡ b → Done
        at_none none true gone =
            let answered = one.answer_gone m lives none gone in
            let entry : m' ≡ m = rw answered at polls.entry in
            let same : after.registered ≡ before.registered = let counted = polls.counted in let alike = ap kept entry in omega (arith, counted, alike) in
            rw (entry, insert_same s.cs x.channel m there) (
              rests,
              yields_as (λ h. act_in h i (Poll r w)) (quietly (mailboxes_seen s.cs s.ss s.rs) answers.Gone) answer s.cs s.ss s.rs before after
                  (acted [] none ∙ ap (λ b. if b then quietly (mailboxes_seen s.cs s.ss s.rs) answers.Gone else quietly (model.with_channel (mailboxes_seen s.cs s.ss s.rs) x.channel (record (channel_seen m) { waker = Some w })) answers.Pending) gone)
                  (polls.told ∙ ap poll_told answered) refl refl refl same_wakers (omega (arith, same)),
            )
        at_none none false some =
            let answered = one.answer_empty m lives none some in
            let entry : m' ≡ record m { waker = Some w } = rw answered at polls.entry in
            let counted = kept_now x.channel m there (record m { waker = Some w }) in
            let alike = ap kept entry in
            rw entry (
              turns x.channel m there (record m { waker = Some w }) s.ss s.rs Stays Stays (one.waits_kept m _ _ (its_kept x.channel m there) w none some),
              yields_as (λ h. act_in h i (Poll r w)) (quietly (model.with_channel (mailboxes_seen s.cs s.ss s.rs) x.channel (record (channel_seen m) { waker = Some w })) answers.Pending) answer (insert s.cs x.channel (record m { waker = Some w })) s.ss s.rs before after
                  (acted [] none ∙ ap (λ b. if b then quietly (mailboxes_seen s.cs s.ss s.rs) answers.Gone else quietly (model.with_channel (mailboxes_seen s.cs s.ss s.rs) x.channel (record (channel_seen m) { waker = Some w })) answers.Pending) some)
                  (polls.told ∙ ap poll_told answered) (seen-insert channel_seen s.cs x.channel (record m { waker = Some w })) refl refl same_wakers (omega (arith, counted, alike, polls.counted)),
            )

        at : (q : List ℕ) → m.queued ≡ q → Done
        at [] none = at_none none (m.senders == 0) refl
        at (v ∷ rest) some =
            let answered = one.answer_some m v rest some in
            let entry : m' ≡ record m { queued = rest } = (rw answered at polls.entry) ∙ one.after_some m v rest some in
            let counted = kept_now x.channel m there (record m { queued = rest }) in
            let alike = ap kept entry in
            rw entry (
              turns x.channel m there (record m { queued = rest }) s.ss s.rs Stays Stays (one.received_kept m _ _ (its_kept x.channel m there) v rest some),
              yields_as (λ h. act_in h i (Poll r w)) (model.poll_of (mailboxes_seen s.cs s.ss s.rs) w x.channel (channel_seen m) (v ∷ rest)) answer (insert s.cs x.channel (record m { queued = rest })) s.ss s.rs before after
                  (acted (v ∷ rest) some) (polls.told ∙ ap poll_told answered) (seen-insert channel_seen s.cs x.channel (record m { queued = rest })) refl refl same_wakers (omega (arith, counted, alike, polls.counted)),
            )

    -- it ends
    pub receiver_gone : (polls falls : Bool) (m' : Mailbox) (before after : Waking ℕ) (rs' : Names ReceiverEntry) → rs' ≡ remove s.rs r → (over : Bool) → is_over m' ≡ over → Settles m (receiver_ended falls m) m' before after
        → (AreKeptMailboxes (if over then remove (insert s.cs x.channel m') x.channel else insert s.cs x.channel m') s.ss rs' (i + 1))
        × PartYields registered old i (act_in old.hall i (EndReceiver r polls falls)) answers.Done (part_of (if over then remove (insert s.cs x.channel m') x.channel else insert s.cs x.channel m') s.ss rs' (i + 1)) before after
    receiver_gone polls falls m' before after rs' gone over is_it settles =
        let now = ap is_over (sym settles.entry) ∙ is_it in
        let moves : Moves of_receiver x.channel i s.rs (remove s.rs r) = Goes r (λ y is. ap of_receiver (inside (sym is ∙ receiver))) in
        let good : AreKept (settled (receiver_ended falls m)) (own of_sender x.channel s.ss) (own of_receiver x.channel (remove s.rs r)) = rw (own-gone of_receiver x.channel s.rs r) (one.ended_kept m _ _ (its_kept x.channel m there) r x own_receiver falls) in
        let counted = kept_tidied x.channel m there (settled (receiver_ended falls m)) s.ss (remove s.rs r) Stays moves good over now in
        rw (settles.entry, gone) (
          tidied_kept x.channel m there (settled (receiver_ended falls m)) s.ss (remove s.rs r) Stays moves good over now,
          yields_as (λ h. act_in h i (EndReceiver r polls falls)) _ answers.Done _ s.ss (remove s.rs r) before after
              (found_is _ (mailboxes_seen s.cs s.ss s.rs) _ (receiver_seen x) (seen-at receiver_seen s.rs r x receiver)
              ∙ found_is _ (model.leaving (mailboxes_seen s.cs s.ss s.rs) r) (model.end_receiver (model.leaving (mailboxes_seen s.cs s.ss s.rs) r) falls x.channel) (channel_seen m) (seen-at channel_seen s.cs x.channel m there)) refl
              (tidied_seen x.channel m there (settled (receiver_ended falls m)) s.ss (remove s.rs r) Stays moves good over now) refl (seen-remove receiver_seen s.rs r)
              (settles.wakers ∙ ap (λ ws. before.wakers ++ ws) (its_kept x.channel m there).quiet)
              (omega (arith, counted, settles.counted)),
        )

  -- ---- a receiver becomes a future
  module _ (r : ℕ) (x : ReceiverEntry) (receiver : get s.rs r ≡ Some x) where
    abbrev future : ReceiverEntry
    future = record { channel = x.channel; polls = true }

    pub apart : r ≡ i → ⊥
    apart same = absurd (let low = (s.kept.seconds.at r x receiver).0 in let later = s.later in omega (arith, low, later, same))

    pub became_future : (rs' : Names ReceiverEntry) → rs' ≡ insert (remove s.rs r) i future
        → (AreKeptMailboxes s.cs s.ss rs' (i + 1)) × PartRests registered old i (act_in old.hall i (IntoFuture r)) answers.Made (part_of s.cs s.ss rs' (i + 1))
    became_future rs' is =
        let m = value_in (get s.cs x.channel) (receivers_channel r x receiver) in
        let own_it = own_receiver r x m.0 receiver m.1 in
        let free : get (remove s.rs r) i ≡ None = get-removed_other s.rs r i apart ∙ no_receiver in
        let moves : Moves of_receiver x.channel i s.rs (insert (remove s.rs r) i future) = Follows r future refl (λ y had. ap of_receiver (inside (sym had ∙ receiver))) (λ y had. absurd (let none = free in cc)) in
        let good : AreKept m.0 (own of_sender x.channel s.ss) (own of_receiver x.channel (insert (remove s.rs r) i future)) =
        rw (own-put of_receiver x.channel (remove s.rs r) i future refl, own-gone of_receiver x.channel s.rs r)
        (one.future_kept m.0 _ _ (its_kept x.channel m.0 m.1) r x own_it i future (rw (← own-gone of_receiver x.channel s.rs r) (own-none of_receiver x.channel (remove s.rs r) i free))) in
        rw is (
          subst (λ cs. AreKeptMailboxes cs s.ss (insert (remove s.rs r) i future) (i + 1)) (insert_same s.cs x.channel m.0 m.1) (turns x.channel m.0 m.1 m.0 s.ss (insert (remove s.rs r) i future) Stays moves good),
          rests_as (λ h. act_in h i (IntoFuture r)) _ answers.Made s.cs s.ss (insert (remove s.rs r) i future) (found_is _ (mailboxes_seen s.cs s.ss s.rs) _ (receiver_seen x) (seen-at receiver_seen s.rs r x receiver)) refl
              refl refl (seen-insert receiver_seen (remove s.rs r) i future ∙ ap (λ q. insert q i (receiver_seen future)) (seen-remove receiver_seen s.rs r)) refl refl,
        )

-- ---- no channel
pub new_kept : AreKeptMailboxes empty empty empty 0
new_kept = record {
  each = λ o m there. absurd (nothing_at Mailbox o m there);
  below = λ o m there. absurd (nothing_at Mailbox o m there);
  firsts = record { at = λ k x there. absurd (nothing_at ℕ k x there) };
  seconds = record { at = λ k x there. absurd (nothing_at ReceiverEntry k x there) };
  low = omega arith;
}

pub new_view : ◌≡◌ {A = Part Mailboxes} (part_of empty empty empty 0) (record { hall = model.no_mailboxes; next = 0 })
new_view j = record { hall = record { channels = seen-empty channel_seen j; senders = empty; receivers = seen-empty receiver_seen j }; next = 0 }
