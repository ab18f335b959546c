-- what each event does to broadcast channels, as they are kept and as they are seen
use Rattle.std.proofs.Common.{◌≡◌, ℕ, ◌+◌, ◌-◌, ◌<◌, ◌≤◌, ◌^◌, ◌==◌, ◌++◌, Bool, true, false, length, [], Option, Some, None, is_some, refl, ap, sym, subst, ◌∙◌, inr, arith, append-nil, nat_lt, if◌then◌else◌}
use Rattle.std.specs.Int.{IsNextPowerOfTwo}
use Rattle.std.specs.Option.{IsSome, option_map}
use Rattle.std.specs.Prelude.{◌↔◌, Result, Ok, Err, IsErr, OnOk, IfOk, IfErr}
use Rattle.mea_base.specs.declared.overflow.Overflow.{Overflow}
use Rattle.std.specs.FinMap.{get, insert, remove, empty}
use Rattle.std.proofs.lemmas.Bool.{eqb-true, eq-eqb}
use Rattle.std.proofs.lemmas.Bool.Decides.{nat_tests}
use Rattle.mea_family.specs.declared.answer.Answer.{Answer}
use Rattle.mea_family.specs.declared.answer.Answer.TheVariants as answers
use Rattle.mea_family.specs.declared.stop.Stop.{Stop}
use Rattle.mea_family.specs.declared.stop.Stop.TheVariants as stops
use Rattle.mea_family.specs.Family.{Outcome, quietly, is_pending}
use Rattle.mea_base.specs.Ready.{Waking}
use Rattle.mea_base.specs.Totals.{weight}
use Rattle.mea_base.proofs.Maps.{total-has, nothing_at, inside, get-there, is_there, value_in}
use Rattle.mea_base.proofs.Totals.{total-insert, total-remove}
use Rattle.mea_base.proofs.NamedMaps.{is_some-map, get-seen}
use Rattle.mea_by_name.specs.ByName.{Names, seen, own}
use Rattle.mea_family.specs.Play.{Part, PartYields, PartRests, found}
use Rattle.mea_by_name.proofs.Cases.{found_is, if_true, if_false}
use Rattle.mea_by_name.proofs.Own.{Stays, Comes, Goes, seen-at, seen-back, seen-empty, seen-insert, seen-remove, own-at, own-put, own-gone, own-empty, own-had, insert_same, put_gone, gone_none, len-some, seen-none_back, seen-some_back}
use Rattle.mea_by_name.specs.NamedQueue.{registering}
use Rattle.mea_cores_by_name.specs.SetLinked.{SetLinked, set_names}
use Rattle.mea_cores_by_name.proofs.Sets.{registered_names, registered_links, drained_links, begun_links, gone_links, length-set_names, linked_later}
use Rattle.mea_sets.specs.WaitSet.{has_given, with_waker, slot_after}
use Rattle.mea_broadcast_core.specs.Broadcast.{IsFresh, after_send, without_sender, woken}
use Rattle.mea_broadcast_core.specs.Receives as cores
use Rattle.mea_broadcast_core.specs.Receives.{Found}
use Rattle.mea_chan_model.specs.Broadcasts as model
use Rattle.mea_chan_model.specs.Broadcasts.{Broadcasts, Broadcast, Listener, of_hearing, is_broadcast, is_sender, is_hearing, is_over, tidied, stands, registered, ring_size, new_broadcast, senders_in, tail_in, channel_of}
use Rattle.mea_chan_model.specs.declared.broadcast_action.BroadcastAction.{BroadcastAction}
use Rattle.mea_chan_model.specs.declared.broadcast_action.BroadcastAction.TheVariants.{Make, CopySender, SendAll, EndSender, Subscribe, Resubscribe, CopyReceiver, Hear, EndReceiver, BeginHear, PollHear, EndHear}
use Rattle.mea_chan_model.specs.BroadcastActions.{most_senders, last_tail, most_size, unusable, broadcast_cause, broadcast_act}
use Rattle.mea_chan_model.specs.BroadcastValid.{AreKept, AreHeard, Hears, of_listener}
use Rattle.mea_chan_model.proofs.Acting.{known_but}
use Rattle.mea_chan_model.proofs.BroadcastActing.{fresh_channel, fresh_receiver, fresh_future, fresh_sender, over_none, joins}
use Rattle.mea_chan_model.proofs.OneBroadcast.{sender_less}
use Rattle.mea_chan_model.proofs.BroadcastWakes.{kept_after, none_kept}
use Rattle.mea_chan_broadcast.specs.declared.broadcast_entry.BroadcastEntry.{BroadcastEntry}
use Rattle.mea_chan_broadcast.specs.declared.listener_entry.ListenerEntry.{ListenerEntry}
use Rattle.mea_chan_broadcast.specs.declared.recv_entry.RecvEntry.{RecvEntry}
use Rattle.mea_chan_broadcast.specs.BroadcastCores.{NamedBroadcast, kept_by, handed_on, HandsOn, heard_told, moved_to, Polls, PollsAtTail, IsPolled}
use Rattle.mea_chan_broadcast.specs.Actions.{IsFreeBroadcast, BroadcastActsQuietly}
use Rattle.mea_chan_broadcast.specs.BroadcastParts.{core_seen, broadcast_seen, listener_seen, hearing_seen, broadcasts_seen, of_channel, slots_of, AreLinked, AreKeptBroadcasts}
use Rattle.mea_chan_broadcast.specs.BroadcastLends.{StandsForBroadcast}
use Rattle.mea_chan_broadcast.proofs.Seeing.{seen_less, woken_sent, woken_less, as_stands, stands_is, kept_in, registered_is, ring_is}
use Rattle.mea_chan_broadcast.proofs.Linking.{links_rest, links_turned, links_gone, fresh_linked}

-- a ring of this size may be made
pub makes_allowed : (h : Broadcasts) (m : ℕ) → 0 < m → m ≤ most_size → broadcast_cause h (Make m) ≡ None
makes_allowed h m some few = at (m == 0) (nat_lt most_size m) refl refl
  where
    at : (a b : Bool) → (m == 0) ≡ a → nat_lt most_size m ≡ b → (if a then Some stops.Zero else if b then Some stops.Overflow else None) ≡ None
    at true b zero _ = absurd (let none = eqb-true m 0 zero in omega (arith, none, some))
    at false true _ big = absurd (let more : most_size < m = grind (arith, nat_tests, big) in omega (arith, more, few))
    at false false _ _ = refl

-- ---- nothing
pub new_kept : AreKeptBroadcasts empty empty empty empty 0
new_kept = record {
  valid = rw (seen-empty broadcast_seen, seen-empty listener_seen, seen-empty hearing_seen) none_kept;
  links = record { linked = λ o e is. absurd (nothing_at BroadcastEntry o e is); quiet = λ o e is. absurd (nothing_at BroadcastEntry o e is) };
  low = omega arith;
}

pub new_view : ◌≡◌ {A = Part Broadcasts} (record { hall = broadcasts_seen empty empty empty empty; next = 0 }) (record { hall = model.no_broadcasts; next = 0 })
new_view = rw (seen-empty broadcast_seen, seen-empty listener_seen, seen-empty hearing_seen) refl

-- ---- broadcast channels before event number i
pub record Site (old : Part Broadcasts) (i : ℕ) : Type 0 where
  pub es : Names BroadcastEntry
  pub ss : Names ℕ
  pub xs : Names ListenerEntry
  pub ys : Names RecvEntry
  pub next : ℕ
  pub view : ◌≡◌ {A = Part Broadcasts} (record { hall = broadcasts_seen es ss xs ys; next = next }) old
  pub kept : AreKeptBroadcasts es ss xs ys next
  pub later : next ≤ i

abbrev pub site : {old : Part Broadcasts} {i : ℕ} (es : Names BroadcastEntry) (ss : Names ℕ) (xs : Names ListenerEntry) (ys : Names RecvEntry) (next : ℕ) → ◌≡◌ {A = Part Broadcasts} (record { hall = broadcasts_seen es ss xs ys; next = next }) old → AreKeptBroadcasts es ss xs ys next → old.next ≤ i → Site old i
site es ss xs ys next view kept later = record { es = es; ss = ss; xs = xs; ys = ys; next = next; view = view; kept = kept; later = rw (← view) at later }

-- as they are looked at
abbrev pub look : {old : Part Broadcasts} (es : Names BroadcastEntry) (ss : Names ℕ) (xs : Names ListenerEntry) (ys : Names RecvEntry) (next : ℕ) → ◌≡◌ {A = Part Broadcasts} (record { hall = broadcasts_seen es ss xs ys; next = next }) old → AreKeptBroadcasts es ss xs ys next → Site old next
look es ss xs ys next view kept = record { es = es; ss = ss; xs = xs; ys = ys; next = next; view = view; kept = kept; later = omega arith }

abbrev pub part_of : Names BroadcastEntry → Names ℕ → Names ListenerEntry → Names RecvEntry → ℕ → Part Broadcasts
part_of es ss xs ys next = record { hall = broadcasts_seen es ss xs ys; next = next }

module _ {old : Part Broadcasts} {i : ℕ} (s : Site old i) where
  abbrev h : Broadcasts
  h = broadcasts_seen s.es s.ss s.xs s.ys

  pub allowed_here : (a : BroadcastAction) → broadcast_cause old.hall a ≡ None → broadcast_cause h a ≡ None
  allowed_here a allowed = ap (λ (p : Part Broadcasts). broadcast_cause p.hall a) s.view ∙ allowed

  -- the new maps stand for what the event leaves
  module _ (fits : i < 2 ^ 64) (a : BroadcastAction) (allowed : broadcast_cause h a ≡ None) (out : Outcome Broadcasts) (is : broadcast_act h i a ≡ out) (answer : Answer) (replied : answer ≡ out.reply)
      (es' : Names BroadcastEntry) (ss' : Names ℕ) (xs' : Names ListenerEntry) (ys' : Names RecvEntry)
      (channels : seen broadcast_seen es' ≡ out.hall.channels) (senders : ss' ≡ out.hall.senders) (receivers : seen listener_seen xs' ≡ out.hall.receivers) (futures : seen hearing_seen ys' ≡ out.hall.futures) (links : AreLinked es' ys' (i + 1)) where
    same : broadcasts_seen es' ss' xs' ys' ≡ out.hall
    same j = record { channels = channels j; senders = senders j; receivers = receivers j; futures = futures j }

    pub keeps_as : AreKeptBroadcasts es' ss' xs' ys' (i + 1)
    keeps_as = record { valid = subst (λ (g : Broadcasts). AreKept g (i + 1)) (ap (λ (o : Outcome Broadcasts). o.hall) is ∙ sym same) (kept_after h s.next i s.kept.valid s.later a allowed); links = links; low = omega (arith, fits) }

    before_is : registered h ≡ kept_in s.es
    before_is = registered_is s.es

    after_is : registered out.hall ≡ kept_in es'
    after_is = ap registered (sym same) ∙ registered_is es'

    pub rests_as : out.wakes ≡ [] → kept_in es' ≡ kept_in s.es → (AreKeptBroadcasts es' ss' xs' ys' (i + 1)) × PartRests registered old i (broadcast_act old.hall i a) answer (part_of es' ss' xs' ys' (i + 1))
    rests_as silent waiting = (
      keeps_as,
      subst (λ p. PartRests registered p i (broadcast_act p.hall i a) answer (part_of es' ss' xs' ys' (i + 1))) s.view (rw is (record {
        replied = replied;
        moved = λ j. record { hall = same j; next = i + 1 };
        silent = silent;
        counted = after_is ∙ waiting ∙ sym before_is;
      })),
    )

    pub yields_as : (before after : Waking ℕ) → after.wakers ≡ before.wakers ++ out.wakes → after.registered + kept_in s.es ≡ before.registered + kept_in es' → (AreKeptBroadcasts es' ss' xs' ys' (i + 1)) × PartYields registered old i (broadcast_act old.hall i a) answer (part_of es' ss' xs' ys' (i + 1)) before after
    yields_as before after woken waiting = (
      keeps_as,
      subst (λ p. PartYields registered p i (broadcast_act p.hall i a) answer (part_of es' ss' xs' ys' (i + 1)) before after) s.view (rw is (record {
        replied = replied;
        moved = λ j. record { hall = same j; next = i + 1 };
        woken = woken;
        counted = omega (arith, waiting, before_is, after_is);
      })),
    )

  -- ---- what is there
  no_channel : get s.es i ≡ None
  no_channel = seen-none_back broadcast_seen s.es i (fresh_channel h s.next i s.kept.valid s.later)

  no_sender : get s.ss i ≡ None
  no_sender = fresh_sender h s.next i s.kept.valid s.later

  no_receiver : get s.xs i ≡ None
  no_receiver = seen-none_back listener_seen s.xs i (fresh_receiver h s.next i s.kept.valid s.later)

  no_future : get s.ys i ≡ None
  no_future = seen-none_back hearing_seen s.ys i (fresh_future h s.next i s.kept.valid s.later)

  pub channel_there : (o : ℕ) (c : Broadcast) → get old.hall.channels o ≡ Some c → IsSome (get s.es o)
  channel_there o c is = seen-some_back broadcast_seen s.es o (is_there _ c (ap (λ (p : Part Broadcasts). get p.hall.channels o) s.view ∙ is))

  -- what is told of a channel as it is seen is so of it as it is kept
  pub same_tail : (o : ℕ) (e : BroadcastEntry) (c : Broadcast) (n : ℕ) → get s.es o ≡ Some e → get old.hall.channels o ≡ Some c → n ≤ c.tail → n ≤ e.core.tail
  same_tail o e c n there is low = let same : c ≡ broadcast_seen e = inside (sym is ∙ ap (λ (p : Part Broadcasts). get p.hall.channels o) (sym s.view) ∙ seen-at broadcast_seen s.es o e there) in let tails = ap (λ (c : Broadcast). c.tail) same in omega (arith, low, tails)

  pub sender_there : (k : ℕ) → is_sender old.hall k ≡ true → IsSome (get s.ss k)
  sender_there k is = ap (λ (p : Part Broadcasts). is_sender p.hall k) s.view ∙ is

  pub senders_channel : (k o : ℕ) → get s.ss k ≡ Some o → IsSome (get s.es o)
  senders_channel k o there = seen-some_back broadcast_seen s.es o (s.kept.valid.senders.at k o there).1

  pub receivers_channel : (r : ℕ) (x : ListenerEntry) → get s.xs r ≡ Some x → IsSome (get s.es x.channel)
  receivers_channel r x there = seen-some_back broadcast_seen s.es x.channel (s.kept.valid.receivers.at r (listener_seen x) (seen-at listener_seen s.xs r x there)).1

  pub futures_channel : (f : ℕ) (y : RecvEntry) → get s.ys f ≡ Some y → IsSome (get s.es y.channel)
  futures_channel f y there = seen-some_back broadcast_seen s.es y.channel (s.kept.valid.futures.at f (hearing_seen y) (seen-at hearing_seen s.ys f y there)).1

  pub copier_there : (k : ℕ) → broadcast_cause old.hall (CopySender k) ≡ None → IsSome (get s.ss k)
  copier_there k allowed = sender_there k (known_but (is_sender old.hall k) (senders_in (channel_of old.hall (get old.hall.senders k)) == most_senders) stops.Overflow allowed)

  usable_there : (r : ℕ) → unusable (get (seen listener_seen s.xs) r) ≡ None → IsSome (get s.xs r)
  usable_there r is = seen-some_back listener_seen s.xs r (at (get (seen listener_seen s.xs) r) is)
    where
      at : (p : Option Listener) → unusable p ≡ None → IsSome p
      at None wrong = absurd (cc)
      at (Some x) right = refl

  usable_here : (r : ℕ) → unusable (get old.hall.receivers r) ≡ None → unusable (get (seen listener_seen s.xs) r) ≡ None
  usable_here r is = ap (λ (p : Part Broadcasts). unusable (get p.hall.receivers r)) s.view ∙ is

  pub receiver_there : (r : ℕ) → unusable (get old.hall.receivers r) ≡ None → IsSome (get s.xs r)
  receiver_there r is = usable_there r (usable_here r is)

  -- a channel that is over keeps nobody
  none_kept_by : (e : BroadcastEntry) → (e.core.senders ≡ 0 → set_names e.core.waiting ≡ []) → is_over (broadcast_seen e) ≡ true → kept_by e.core ≡ 0
  none_kept_by e silent over = sym (length-set_names e.core.waiting.wakers) ∙ ap (λ q. length q) (silent (over_none (broadcast_seen e) over).0)

  -- ---- at a channel that is there
  module _ (o : ℕ) (e : BroadcastEntry) (there : get s.es o ≡ Some e) where
    seen_there : get (seen broadcast_seen s.es) o ≡ Some (broadcast_seen e)
    seen_there = seen-at broadcast_seen s.es o e there

    pub its_heard : AreHeard (broadcast_seen e) (own of_listener o (seen listener_seen s.xs)) (own of_hearing o (seen hearing_seen s.ys))
    its_heard = s.kept.valid.heard o (broadcast_seen e) seen_there

    pub its_quiet : e.core.wakes ≡ []
    its_quiet = s.kept.links.quiet o e there

    pub its_room : (before : Waking ℕ) → registered old.hall ≤ before.registered → kept_by e.core ≤ before.registered
    its_room before room =
        let all : registered old.hall ≡ kept_in s.es = ap (λ (p : Part Broadcasts). registered p.hall) (sym s.view) ∙ registered_is s.es in
        omega (arith, room, all, total-has (λ o (e : BroadcastEntry). kept_by e.core) s.es o e there)

    pub its_receivers : e.receivers < 2 ^ 64 + 1
    its_receivers = let low = (s.kept.valid.low o (broadcast_seen e) seen_there).1 in let few = s.kept.low in omega (arith, low, few)

    found_channel : (act : Broadcast → Outcome Broadcasts) → found (get (seen broadcast_seen s.es) o) h act ≡ act (broadcast_seen e)
    found_channel act = found_is _ h act (broadcast_seen e) seen_there

    -- how many wakers are kept where the channel is e' now
    kept_now : (e' : BroadcastEntry) → kept_in (insert s.es o e') + kept_by e.core ≡ kept_in s.es + kept_by e'.core
    kept_now e' =
        let here : weight (λ o (e : BroadcastEntry). kept_by e.core) o (get s.es o) ≡ kept_by e.core = ap (weight (λ o (e : BroadcastEntry). kept_by e.core) o) there in
        omega (arith, here, total-insert (λ o (e : BroadcastEntry). kept_by e.core) s.es o e')

    linked_still : SetLinked e.core.waiting (slots_of o s.ys) (i + 1)
    linked_still = linked_later e.core.waiting (slots_of o s.ys) s.next (i + 1) (s.kept.links.linked o e there) (let later = s.later in omega (arith, later))

    pub over_there : (e' : BroadcastEntry) → IsSome (get (insert s.es o e') o)
    over_there e' = is_there _ e' (get-there s.es o e')

    -- ---- the channel is e' now, or gone where that is over
    module _ (e' : BroadcastEntry) where
      seen_tidied : (over : Bool) → is_over (broadcast_seen e') ≡ over → seen broadcast_seen (if over then remove (insert s.es o e') o else insert s.es o e') ≡ tidied (seen broadcast_seen s.es) o (broadcast_seen e')
      seen_tidied true is = ap (seen broadcast_seen) (put_gone s.es o e') ∙ seen-remove broadcast_seen s.es o ∙ sym (if_true (is_over (broadcast_seen e')) (remove (seen broadcast_seen s.es) o) (insert (seen broadcast_seen s.es) o (broadcast_seen e')) is)
      seen_tidied false is = seen-insert broadcast_seen s.es o e' ∙ sym (if_false (is_over (broadcast_seen e')) (remove (seen broadcast_seen s.es) o) (insert (seen broadcast_seen s.es) o (broadcast_seen e')) is)

      tidied_links : (over : Bool) → SetLinked e'.core.waiting (slots_of o s.ys) (i + 1) → e'.core.wakes ≡ [] → AreLinked (if over then remove (insert s.es o e') o else insert s.es o e') s.ys (i + 1)
      tidied_links true linked quiet = subst (λ es. AreLinked es s.ys (i + 1)) (sym (put_gone s.es o e')) (links_gone s.es s.ys s.next i s.kept.links s.later o s.ys Stays)
      tidied_links false linked quiet = links_turned s.es s.ys s.next i s.kept.links s.later o s.ys Stays e' linked quiet

      kept_tidied : (over : Bool) → is_over (broadcast_seen e') ≡ over → (is_over (broadcast_seen e') ≡ true → kept_by e'.core ≡ 0) → kept_in (if over then remove (insert s.es o e') o else insert s.es o e') + kept_by e.core ≡ kept_in s.es + kept_by e'.core
      kept_tidied true is none =
          let here : weight (λ o (e : BroadcastEntry). kept_by e.core) o (get s.es o) ≡ kept_by e.core = ap (weight (λ o (e : BroadcastEntry). kept_by e.core) o) there in
          let gone : kept_in (remove (insert s.es o e') o) ≡ kept_in (remove s.es o) = ap kept_in (put_gone s.es o e') in
          let nobody = none is in
          omega (arith, gone, nobody, here, total-remove (λ o (e : BroadcastEntry). kept_by e.core) s.es o)
      kept_tidied false is none = kept_now e'

    -- ---- a receiver is made
    module _ (x : ListenerEntry) (mine : x.channel ≡ o) (free : x.user ≡ None) where
      abbrev counted_up : BroadcastEntry
      counted_up = record e { receivers = e.receivers + 1 }

      newcomer_seen : seen listener_seen (insert s.xs i x) ≡ insert (seen listener_seen s.xs) i (record { channel = o; cursor = x.cursor.position; user = None })
      newcomer_seen = seen-insert listener_seen s.xs i x ∙ ap (insert (seen listener_seen s.xs) i) (λ j. record { channel = mine j; cursor = x.cursor.position; user = free j })

      join_links : AreLinked (insert s.es o counted_up) s.ys (i + 1)
      join_links = links_turned s.es s.ys s.next i s.kept.links s.later o s.ys Stays counted_up linked_still its_quiet

      pub joined_kept : i < 2 ^ 64 → x.cursor.position ≤ e.core.tail → AreKeptBroadcasts (insert s.es o counted_up) s.ss (insert s.xs i x) s.ys (i + 1)
      joined_kept fits low = record {
        valid = subst (λ (g : Broadcasts). AreKept g (i + 1)) (λ j. record { channels = sym (seen-insert broadcast_seen s.es o counted_up) j; senders = s.ss; receivers = sym newcomer_seen j; futures = seen hearing_seen s.ys })
            (joins h s.next i s.kept.valid s.later o (broadcast_seen e) seen_there x.cursor.position low);
        links = join_links;
        low = omega (arith, fits);
      }

      pub joined_rests : (c : Broadcast) → get old.hall.channels o ≡ Some c → PartRests registered old i (model.join old.hall i x.cursor.position o c) answers.Made (part_of (insert s.es o counted_up) s.ss (insert s.xs i x) s.ys (i + 1))
      joined_rests c at_old =
          let same : c ≡ broadcast_seen e = inside (sym at_old ∙ ap (λ (p : Part Broadcasts). get p.hall.channels o) (sym s.view) ∙ seen_there) in
          let all : registered (model.join h i x.cursor.position o (broadcast_seen e)).hall ≡ kept_in (insert s.es o counted_up) = ap registered (λ j. record { channels = sym (seen-insert broadcast_seen s.es o counted_up) j; senders = s.ss; receivers = sym newcomer_seen j; futures = seen hearing_seen s.ys }) ∙ registered_is (insert s.es o counted_up) in
          let now = kept_now counted_up in
          subst (λ d. PartRests registered old i (model.join old.hall i x.cursor.position o d) answers.Made (part_of (insert s.es o counted_up) s.ss (insert s.xs i x) s.ys (i + 1))) (sym same)
          (subst (λ p. PartRests registered p i (model.join p.hall i x.cursor.position o (broadcast_seen e)) answers.Made (part_of (insert s.es o counted_up) s.ss (insert s.xs i x) s.ys (i + 1))) s.view (record {
            replied = refl;
            moved = λ j. record { hall = record { channels = seen-insert broadcast_seen s.es o counted_up j; senders = s.ss; receivers = newcomer_seen j; futures = seen hearing_seen s.ys }; next = i + 1 };
            silent = refl;
            counted = omega (arith, all, now, registered_is s.es);
          }))

  -- ---- a channel is made
  module _ (m : ℕ) (core : NamedBroadcast) (new : IsFresh core 0) (power : IsNextPowerOfTwo m core.size) (some : 0 < m) (few : m ≤ most_size) (x : ListenerEntry) (cursor : x.cursor.position ≡ core.tail) (mine : x.channel ≡ i) (free : x.user ≡ None) where
    abbrev opened : BroadcastEntry
    opened = record { core = core; receivers = 1 }

    opened_seen : broadcast_seen opened ≡ new_broadcast (ring_size m)
    opened_seen j = record { kept = new.kept j; tail = new.tail j; size = sym (ring_is m core.size some few power) j; senders = new.senders j; receivers = 1; waiting = set_names (new.waiting j) }

    pub made : i < 2 ^ 64 → (AreKeptBroadcasts (insert s.es i opened) (insert s.ss i i) (insert s.xs i x) s.ys (i + 1)) × PartRests registered old i (broadcast_act old.hall i (Make m)) answers.Made (part_of (insert s.es i opened) (insert s.ss i i) (insert s.xs i x) s.ys (i + 1))
    made fits =
        let nobody : own of_channel i s.ys ≡ empty = own-empty of_channel i s.ys (λ f y there mine. absurd (let some = futures_channel f y there in let none = ap is_some (ap (get s.es) (sym mine) ∙ no_channel) in let no = sym none ∙ some in cc)) in
        let nothing : weight (λ o (e : BroadcastEntry). kept_by e.core) i (get s.es i) ≡ 0 = ap (weight (λ o (e : BroadcastEntry). kept_by e.core) i) no_channel in
        let silent : kept_by core ≡ 0 = ap (λ s. length s.wakers) new.waiting in
        rests_as fits (Make m) (makes_allowed h m some few) (model.make h i (ring_size m)) refl answers.Made refl (insert s.es i opened) (insert s.ss i i) (insert s.xs i x) s.ys
        (seen-insert broadcast_seen s.es i opened ∙ ap (insert (seen broadcast_seen s.es) i) opened_seen) refl
        (seen-insert listener_seen s.xs i x ∙ ap (insert (seen listener_seen s.xs) i) (λ j. record { channel = mine j; cursor = (cursor ∙ new.tail) j; user = free j })) refl
        (links_turned s.es s.ys s.next i s.kept.links s.later i s.ys Stays opened (subst (λ w. SetLinked w (slots_of i s.ys) (i + 1)) (sym new.waiting) (fresh_linked i (i + 1) s.ys nobody)) new.wakes)
        refl (omega (arith, nothing, silent, total-insert (λ o (e : BroadcastEntry). kept_by e.core) s.es i opened))

  -- where there is no memory, what was put is taken away again
  pub unmade : (x : ListenerEntry) (xs' : Names ListenerEntry) → xs' ≡ s.xs → (ss' : Names ℕ) → ss' ≡ insert s.ss i i → (AreKeptBroadcasts s.es (remove ss' i) xs' s.ys s.next) × (part_of s.es (remove ss' i) xs' s.ys s.next ≡ old)
  unmade x xs' receivers ss' senders = rw (receivers, senders, put_gone s.ss i i, gone_none s.ss i no_sender) (s.kept, s.view)

  pub all_unmade : (x : ListenerEntry) (es' : Names BroadcastEntry) → es' ≡ s.es → (xs' : Names ListenerEntry) → xs' ≡ insert s.xs i x → (ss' : Names ℕ) → ss' ≡ insert s.ss i i → (AreKeptBroadcasts es' (remove ss' i) (remove xs' i) s.ys s.next) × (part_of es' (remove ss' i) (remove xs' i) s.ys s.next ≡ old)
  all_unmade x es' channels xs' receivers ss' senders = rw (channels, receivers, senders, put_gone s.ss i i, gone_none s.ss i no_sender, put_gone s.xs i x, gone_none s.xs i no_receiver) (s.kept, s.view)

  -- ---- by a sender
  module _ (k o : ℕ) (e : BroadcastEntry) (sender : get s.ss k ≡ Some o) (there : get s.es o ≡ Some e) where
    found_sender : (act : ℕ → Broadcast → Outcome Broadcasts) → found (get s.ss k) h (λ o. found (get (seen broadcast_seen s.es) o) h (act o)) ≡ act o (broadcast_seen e)
    found_sender act = found_is _ h _ o sender ∙ found_channel o e there (act o)

    its_channel : channel_of h (get s.ss k) ≡ Some (broadcast_seen e)
    its_channel = ap (channel_of h) sender ∙ seen_there o e there

    pub some_sender : 0 < e.core.senders
    some_sender = let count = s.kept.valid.served o (broadcast_seen e) (seen_there o e there) in let one = len-some (own (λ (o : ℕ). o) o s.ss) k o (own-at (λ (o : ℕ). o) o s.ss k o sender refl) in omega (arith, count, one)

    pub subscribes_as : broadcast_act old.hall i (Subscribe k) ≡ model.join old.hall i e.core.tail o (broadcast_seen e)
    subscribes_as = subst (λ p. broadcast_act p.hall i (Subscribe k) ≡ model.join p.hall i e.core.tail o (broadcast_seen e)) s.view (found_sender (λ o c. model.join h i c.tail o c))

    pub channel_seen : get old.hall.channels o ≡ Some (broadcast_seen e)
    channel_seen = ap (λ (p : Part Broadcasts). get p.hall.channels o) (sym s.view) ∙ seen_there o e there

    pub crowded_is : (if e.core.senders == most_senders then Some stops.Overflow else None) ≡ broadcast_cause old.hall (CopySender k)
    crowded_is = sym (ap (λ n. if n == most_senders then Some stops.Overflow else None) (ap senders_in its_channel))
        ∙ sym (ap (λ b. if b then (if senders_in (channel_of h (get s.ss k)) == most_senders then Some stops.Overflow else None) else Some stops.Unknown) (ap is_some sender))
        ∙ ap (λ (p : Part Broadcasts). broadcast_cause p.hall (CopySender k)) s.view

    pub full_is : (v : ℕ) → (if e.core.tail == last_tail then Some stops.Overflow else None) ≡ broadcast_cause old.hall (SendAll k v)
    full_is v = sym (ap (λ n. if n == last_tail then Some stops.Overflow else None) (ap tail_in its_channel))
        ∙ sym (ap (λ b. if b then (if tail_in (channel_of h (get s.ss k)) == last_tail then Some stops.Overflow else None) else Some stops.Unknown) (ap is_some sender))
        ∙ ap (λ (p : Part Broadcasts). broadcast_cause p.hall (SendAll k v)) s.view

    pub not_crowded : broadcast_cause old.hall (CopySender k) ≡ None → e.core.senders ≡ most_senders → ⊥
    not_crowded allowed many = absurd (let no = sym (ap (λ b. if b then Some stops.Overflow else None) (eq-eqb e.core.senders most_senders many)) ∙ crowded_is ∙ allowed in cc)

    pub was_added : (r : Result (Unit {0}) Overflow) (d : NamedBroadcast) → IsErr r ↔ (e.core.senders ≡ most_senders) → OnOk r (d ≡ record e.core { senders = e.core.senders + 1 }) → broadcast_cause old.hall (CopySender k) ≡ None → d ≡ record e.core { senders = e.core.senders + 1 }
    was_added (Ok u) d when added allowed = added
    was_added (Err x) d when added allowed = absurd (not_crowded allowed (when.0 refl))

    -- the last position is taken, or is not
    pub full_as : (v : ℕ) → e.core.tail ≡ last_tail → broadcast_cause old.hall (SendAll k v) ≡ Some stops.Overflow
    full_as v last = sym (full_is v) ∙ ap (λ b. if b then Some stops.Overflow else None) (eq-eqb e.core.tail last_tail last)

    pub may_send : (v : ℕ) → (e.core.tail ≡ last_tail → ⊥) → broadcast_cause old.hall (SendAll k v) ≡ None
    may_send v more = sym (full_is v) ∙ (elim (e.core.tail == last_tail) as (λ b. (e.core.tail == last_tail) ≡ b → (if b then Some stops.Overflow else None) ≡ None) [ true ↦ λ is. absurd (more (eqb-true e.core.tail last_tail is)) | false ↦ λ is. refl ] refl)

    pub copied : i < 2 ^ 64 → (core' : NamedBroadcast) → core' ≡ record e.core { senders = e.core.senders + 1 } → (ss' : Names ℕ) → ss' ≡ insert s.ss i o → broadcast_cause old.hall (CopySender k) ≡ None
        → (AreKeptBroadcasts (insert s.es o (record e { core = core' })) ss' s.xs s.ys (i + 1)) × PartRests registered old i (broadcast_act old.hall i (CopySender k)) answers.Made (part_of (insert s.es o (record e { core = core' })) ss' s.xs s.ys (i + 1))
    copied fits core' more ss' made allowed =
        let d : NamedBroadcast = record e.core { senders = e.core.senders + 1 } in
        let now = kept_now o e there (record e { core = record e.core { senders = e.core.senders + 1 } }) in
        rw (more, made) (rests_as fits (CopySender k) (allowed_here (CopySender k) allowed) (model.copy_sender h i o (broadcast_seen e)) (found_sender (model.copy_sender h i)) answers.Made refl
        (insert s.es o (record e { core = record e.core { senders = e.core.senders + 1 } })) (insert s.ss i o) s.xs s.ys
        (seen-insert broadcast_seen s.es o (record e { core = record e.core { senders = e.core.senders + 1 } })) refl refl refl
        (links_turned s.es s.ys s.next i s.kept.links s.later o s.ys Stays (record e { core = record e.core { senders = e.core.senders + 1 } }) (linked_still o e there) (its_quiet o e there)) refl (omega (arith, now)))

    drained_still : SetLinked (record { wakers = []; drains = e.core.waiting.drains + 1 }) (slots_of o s.ys) (i + 1)
    drained_still = drained_links e.core.waiting (slots_of o s.ys) (i + 1) (linked_still o e there)

    module _ (e' : BroadcastEntry) (before after : Waking ℕ) where
      pub sent : i < 2 ^ 64 → (v : ℕ) → broadcast_cause old.hall (SendAll k v) ≡ None → HandsOn e (after_send e.core v) e' before after
          → (AreKeptBroadcasts (insert s.es o e') s.ss s.xs s.ys (i + 1)) × PartYields registered old i (broadcast_act old.hall i (SendAll k v)) answers.Done (part_of (insert s.es o e') s.ss s.xs s.ys (i + 1)) before after
      sent fits v allowed settles =
          let d : BroadcastEntry = record e { core = handed_on (after_send e.core v) } in
          let now = kept_now o e there (record e { core = handed_on (after_send e.core v) }) in
          rw settles.entry (yields_as fits (SendAll k v) (allowed_here (SendAll k v) allowed) (model.send h v o (broadcast_seen e)) (found_sender (model.send h v)) answers.Done refl
          (insert s.es o (record e { core = handed_on (after_send e.core v) })) s.ss s.xs s.ys (seen-insert broadcast_seen s.es o (record e { core = handed_on (after_send e.core v) })) refl refl refl
          (links_turned s.es s.ys s.next i s.kept.links s.later o s.ys Stays (record e { core = handed_on (after_send e.core v) }) drained_still refl) before after
          (settles.wakers ∙ ap (λ ws. before.wakers ++ ws) (woken_sent e.core e.receivers v (its_quiet o e there))) (omega (arith, now, settles.counted)))

      pub sender_ended : i < 2 ^ 64 → (ss' : Names ℕ) → ss' ≡ remove s.ss k → (over : Bool) → is_over (broadcast_seen e') ≡ over → HandsOn e (without_sender e.core) e' before after
          → (AreKeptBroadcasts (if over then remove (insert s.es o e') o else insert s.es o e') ss' s.xs s.ys (i + 1))
          × PartYields registered old i (broadcast_act old.hall i (EndSender k)) answers.Done (part_of (if over then remove (insert s.es o e') o else insert s.es o e') ss' s.xs s.ys (i + 1)) before after
      sender_ended fits ss' gone over is_it settles =
          let d : BroadcastEntry = record e { core = handed_on (without_sender e.core) } in
          let over_now : is_over (broadcast_seen (record e { core = handed_on (without_sender e.core) })) ≡ over = ap (λ d. is_over (broadcast_seen d)) (sym settles.entry) ∙ is_it in
          let now = kept_tidied o e there (record e { core = handed_on (without_sender e.core) }) over over_now (λ over. silent_over over) in
          rw (settles.entry, gone) (yields_as fits (EndSender k) (if_true (is_some (get s.ss k)) None (Some stops.Unknown) (ap is_some sender)) (model.end_sender h k o (broadcast_seen e)) (found_sender (model.end_sender h k)) answers.Done refl
          (if over then remove (insert s.es o (record e { core = handed_on (without_sender e.core) })) o else insert s.es o (record e { core = handed_on (without_sender e.core) })) (remove s.ss k) s.xs s.ys
          (seen_tidied o e there (record e { core = handed_on (without_sender e.core) }) over over_now ∙ ap (tidied (seen broadcast_seen s.es) o) (seen_less e.core e.receivers)) refl refl refl
          (tidied_links o e there (record e { core = handed_on (without_sender e.core) }) over less_linked refl) before after
          (settles.wakers ∙ ap (λ ws. before.wakers ++ ws) (woken_less e.core e.receivers (its_quiet o e there))) (omega (arith, now, settles.counted)))
        where
          less_linked : SetLinked (without_sender e.core).waiting (slots_of o s.ys) (i + 1)
          less_linked = elim (e.core.senders == 1) as (λ b. SetLinked (if b then woken (record e.core { senders = 0 }) else record e.core { senders = e.core.senders - 1 }).waiting (slots_of o s.ys) (i + 1)) [ true ↦ drained_still | false ↦ linked_still o e there ]

          silent_over : is_over (broadcast_seen (record e { core = handed_on (without_sender e.core) })) ≡ true → kept_by (without_sender e.core) ≡ 0
          silent_over over = none_kept_by (record e { core = handed_on (without_sender e.core) }) (subst (λ c. AreHeard c (own of_listener o (seen listener_seen s.xs)) (own of_hearing o (seen hearing_seen s.ys))) (sym (seen_less e.core e.receivers)) (sender_less (broadcast_seen e) _ _ (its_heard o e there))).silent over

  -- a look alone changes nothing
  pub unsent : (o : ℕ) (e : BroadcastEntry) → get s.es o ≡ Some e → (AreKeptBroadcasts (insert s.es o e) s.ss s.xs s.ys s.next) × (part_of (insert s.es o e) s.ss s.xs s.ys s.next ≡ old)
  unsent o e there = rw (insert_same s.es o e there) (s.kept, s.view)

  pub unheard : (r : ℕ) (x : ListenerEntry) (x' : ListenerEntry) → get s.xs r ≡ Some x → x' ≡ x → (AreKeptBroadcasts s.es s.ss (insert s.xs r x') s.ys s.next) × (part_of s.es s.ss (insert s.xs r x') s.ys s.next ≡ old)
  unheard r x x' receiver same = rw (same, insert_same s.xs r x receiver) (s.kept, s.view)

  pub unpolled : (o : ℕ) (e e' : BroadcastEntry) (r : ℕ) (x x' : ListenerEntry) (f : ℕ) (y y' : RecvEntry) → get s.es o ≡ Some e → get s.xs r ≡ Some x → get s.ys f ≡ Some y → e' ≡ e → x' ≡ x → y' ≡ y
      → (AreKeptBroadcasts (insert s.es o e') s.ss (insert s.xs r x') (insert s.ys f y') s.next) × (part_of (insert s.es o e') s.ss (insert s.xs r x') (insert s.ys f y') s.next ≡ old)
  unpolled o e e' r x x' f y y' there receiver future first second third = rw (first, second, third, insert_same s.es o e there, insert_same s.xs r x receiver, insert_same s.ys f y future) (s.kept, s.view)

  -- ---- by a receiver
  module _ (r : ℕ) (x : ListenerEntry) (e : BroadcastEntry) (receiver : get s.xs r ≡ Some x) (there : get s.es x.channel ≡ Some e) where
    seen_receiver : get (seen listener_seen s.xs) r ≡ Some (listener_seen x)
    seen_receiver = seen-at listener_seen s.xs r x receiver

    found_receiver : (act : Listener → Broadcast → Outcome Broadcasts) → found (get (seen listener_seen s.xs) r) h (λ x. found (get (seen broadcast_seen s.es) x.channel) h (act x)) ≡ act (listener_seen x) (broadcast_seen e)
    found_receiver act = found_is _ h _ (listener_seen x) seen_receiver ∙ found_channel x.channel e there (act (listener_seen x))

    pub its_cursor : x.cursor.position ≤ e.core.tail
    its_cursor = (its_heard x.channel e there).cursors r (listener_seen x) (own-at of_listener x.channel (seen listener_seen s.xs) r (listener_seen x) seen_receiver refl)

    pub resubscribes_as : broadcast_act old.hall i (Resubscribe r) ≡ model.join old.hall i e.core.tail x.channel (broadcast_seen e)
    resubscribes_as = subst (λ p. broadcast_act p.hall i (Resubscribe r) ≡ model.join p.hall i e.core.tail x.channel (broadcast_seen e)) s.view (found_receiver (λ x c. model.join h i c.tail x.channel c))

    pub copies_as : broadcast_act old.hall i (CopyReceiver r) ≡ model.join old.hall i x.cursor.position x.channel (broadcast_seen e)
    copies_as = subst (λ p. broadcast_act p.hall i (CopyReceiver r) ≡ model.join p.hall i x.cursor.position x.channel (broadcast_seen e)) s.view (found_receiver (λ x c. model.join h i x.cursor x.channel c))

    pub its_channel_there : get old.hall.channels x.channel ≡ Some (broadcast_seen e)
    its_channel_there = ap (λ (p : Part Broadcasts). get p.hall.channels x.channel) (sym s.view) ∙ seen_there x.channel e there

    module _ (usable : unusable (get old.hall.receivers r) ≡ None) where
      -- it receives
      pub heard : i < 2 ^ 64 → (x' : ListenerEntry) → listener_seen x' ≡ record (listener_seen x) { cursor = moved_to e.core (cores.found e.core x.cursor.position) x.cursor.position } → (answer : Answer) → answer ≡ heard_told e.core (cores.found e.core x.cursor.position)
          → (AreKeptBroadcasts s.es s.ss (insert s.xs r x') s.ys (i + 1)) × PartRests registered old i (broadcast_act old.hall i (Hear r)) answer (part_of s.es s.ss (insert s.xs r x') s.ys (i + 1))
      heard fits x' is answer told = at (cores.found e.core x.cursor.position) refl
        where
          hears : (f : Found ℕ) → cores.found e.core x.cursor.position ≡ f → broadcast_act h i (Hear r) ≡ model.hear h r (listener_seen x) (broadcast_seen e) (as_stands e.core e.receivers f)
          hears f same = found_receiver (λ x c. model.hear h r x c (stands c x.cursor)) ∙ ap (model.hear h r (listener_seen x) (broadcast_seen e)) (stands_is e.core e.receivers x.cursor.position ∙ ap (as_stands e.core e.receivers) same)

          moved : (f : Found ℕ) → cores.found e.core x.cursor.position ≡ f → seen listener_seen (insert s.xs r x') ≡ insert (seen listener_seen s.xs) r (record (listener_seen x) { cursor = moved_to e.core f x.cursor.position })
          moved f same = seen-insert listener_seen s.xs r x' ∙ ap (insert (seen listener_seen s.xs) r) (is ∙ ap (λ f. record (listener_seen x) { cursor = moved_to e.core f x.cursor.position }) same)

          at : (f : Found ℕ) → cores.found e.core x.cursor.position ≡ f → (AreKeptBroadcasts s.es s.ss (insert s.xs r x') s.ys (i + 1)) × PartRests registered old i (broadcast_act old.hall i (Hear r)) answer (part_of s.es s.ss (insert s.xs r x') s.ys (i + 1))
          at (cores.Behind k) same = rests_as fits (Hear r) (usable_here r usable) (model.hear h r (listener_seen x) (broadcast_seen e) (model.Behind k)) (hears (cores.Behind k) same) answer (told ∙ ap (heard_told e.core) same)
              s.es s.ss (insert s.xs r x') s.ys refl refl (moved (cores.Behind k) same) refl (links_rest s.es s.ys s.next i s.kept.links s.later) refl refl
          at (cores.Holds v) same = rests_as fits (Hear r) (usable_here r usable) (model.hear h r (listener_seen x) (broadcast_seen e) (model.Holds v)) (hears (cores.Holds v) same) answer (told ∙ ap (heard_told e.core) same)
              s.es s.ss (insert s.xs r x') s.ys refl refl (moved (cores.Holds v) same) refl (links_rest s.es s.ys s.next i s.kept.links s.later) refl refl
          at cores.AtTail same = rests_as fits (Hear r) (usable_here r usable) (model.hear h r (listener_seen x) (broadcast_seen e) model.AtTail) (hears cores.AtTail same) answer (told ∙ ap (heard_told e.core) same)
              s.es s.ss (insert s.xs r x') s.ys refl refl (moved cores.AtTail same ∙ insert_same (seen listener_seen s.xs) r (listener_seen x) seen_receiver) refl (links_rest s.es s.ys s.next i s.kept.links s.later) refl refl

      -- it is gone
      pub receiver_ended : i < 2 ^ 64 → (xs' : Names ListenerEntry) → xs' ≡ remove s.xs r → (over : Bool) → is_over (core_seen e.core (e.receivers - 1)) ≡ over
          → (AreKeptBroadcasts (if over then remove (insert s.es x.channel (record e { receivers = e.receivers - 1 })) x.channel else insert s.es x.channel (record e { receivers = e.receivers - 1 })) s.ss xs' s.ys (i + 1))
          × PartRests registered old i (broadcast_act old.hall i (EndReceiver r)) answers.Done (part_of (if over then remove (insert s.es x.channel (record e { receivers = e.receivers - 1 })) x.channel else insert s.es x.channel (record e { receivers = e.receivers - 1 })) s.ss xs' s.ys (i + 1))
      receiver_ended fits xs' gone over is_it =
          let now = kept_tidied x.channel e there (record e { receivers = e.receivers - 1 }) over is_it (λ over. none_kept_by (record e { receivers = e.receivers - 1 }) (its_heard x.channel e there).silent over) in
          rw gone (rests_as fits (EndReceiver r) (usable_here r usable) (model.end_receiver h r x.channel (broadcast_seen e)) (found_receiver (λ x c. model.end_receiver h r x.channel c)) answers.Done refl
          (if over then remove (insert s.es x.channel (record e { receivers = e.receivers - 1 })) x.channel else insert s.es x.channel (record e { receivers = e.receivers - 1 })) s.ss (remove s.xs r) s.ys
          (seen_tidied x.channel e there (record e { receivers = e.receivers - 1 }) over is_it) refl (seen-remove listener_seen s.xs r) refl
          (tidied_links x.channel e there (record e { receivers = e.receivers - 1 }) over (linked_still x.channel e there) (its_quiet x.channel e there)) refl (omega (arith, now)))

      pub some_receiver : 0 < e.receivers
      some_receiver = let count = (its_heard x.channel e there).receivers in let one = len-some (own of_listener x.channel (seen listener_seen s.xs)) r (listener_seen x) (own-at of_listener x.channel (seen listener_seen s.xs) r (listener_seen x) seen_receiver refl) in omega (arith, count, one)

  -- a future that uses it alone is made
  module _ (r : ℕ) (x : ListenerEntry) (receiver : get s.xs r ≡ Some x) (usable : unusable (get old.hall.receivers r) ≡ None) (y : RecvEntry) (of : y.receiver ≡ r) (mine : y.channel ≡ x.channel) (new : y.wait ≡ None) where
    abbrev lent : ListenerEntry
    lent = record x { user = Some i }

    begins : broadcast_act h i (BeginHear r) ≡ model.begin h i r (listener_seen x)
    begins = found_is _ h (model.begin h i r) (listener_seen x) (seen-at listener_seen s.xs r x receiver)

    pub begun : i < 2 ^ 64 → (ys' : Names RecvEntry) → ys' ≡ insert s.ys i y → (AreKeptBroadcasts s.es s.ss (insert s.xs r lent) ys' (i + 1)) × PartRests registered old i (broadcast_act old.hall i (BeginHear r)) answers.Made (part_of s.es s.ss (insert s.xs r lent) ys' (i + 1))
    begun fits ys' is =
        let home = value_in (get s.es x.channel) (receivers_channel r x receiver) in
        rw is (rests_as fits (BeginHear r) (usable_here r usable) (model.begin h i r (listener_seen x)) begins answers.Made refl s.es s.ss (insert s.xs r lent) (insert s.ys i y)
        refl refl (seen-insert listener_seen s.xs r lent) (seen-insert hearing_seen s.ys i y ∙ ap (insert (seen hearing_seen s.ys) i) (λ j. record { receiver = of j; channel = mine j }))
        (subst (λ es. AreLinked es (insert s.ys i y) (i + 1)) (insert_same s.es x.channel home.0 home.1)
        (links_turned s.es s.ys s.next i s.kept.links s.later x.channel (insert s.ys i y) (Comes i y (omega arith) mine (λ z had. absurd (let none = no_future in cc))) home.0
        (subst (λ m. SetLinked home.0.core.waiting m (i + 1)) (sym (ap (seen (λ (y : RecvEntry). y.wait)) (own-put of_channel x.channel s.ys i y mine) ∙ seen-insert (λ (y : RecvEntry). y.wait) (own of_channel x.channel s.ys) i y ∙ ap (insert (slots_of x.channel s.ys) i) new))
        (begun_links home.0.core.waiting (slots_of x.channel s.ys) s.next i (s.kept.links.linked x.channel home.0 home.1) s.later)) (its_quiet x.channel home.0 home.1))) refl refl)

  -- ---- by a future
  module _ (f : ℕ) (y : RecvEntry) (future : get s.ys f ≡ Some y) where
    seen_future : get (seen hearing_seen s.ys) f ≡ Some (hearing_seen y)
    seen_future = seen-at hearing_seen s.ys f y future

    its_hears : (e : BroadcastEntry) → get s.es y.channel ≡ Some e → Hears (broadcast_seen e) (own of_listener y.channel (seen listener_seen s.xs)) f (hearing_seen y)
    its_hears e there = (its_heard y.channel e there).hears f (hearing_seen y) (own-at of_hearing y.channel (seen hearing_seen s.ys) f (hearing_seen y) seen_future refl)

    -- its receiver is there, and of the same channel, and lends to it
    pub its_receiver : (x : ListenerEntry) × (get s.xs y.receiver ≡ Some x) × (x.channel ≡ y.channel) × (x.user ≡ Some f)
    its_receiver =
        let home = value_in (get s.es y.channel) (futures_channel f y future) in
        let it = its_hears home.0 home.1 in
        let had = own-had of_listener y.channel (seen listener_seen s.xs) y.receiver it.x it.there in
        let back = seen-back listener_seen s.xs y.receiver it.x had.0 in
        (back.0, back.1, ap (λ (x : Listener). x.channel) back.2 ∙ had.1, ap (λ (x : Listener). x.user) back.2 ∙ it.user)

    pub receiver_some : IsSome (get s.xs y.receiver)
    receiver_some = is_there (get s.xs y.receiver) its_receiver.0 its_receiver.1

    module _ (x : ListenerEntry) (receiver : get s.xs y.receiver ≡ Some x) where
      its_same : its_receiver.0 ≡ x
      its_same = inside (sym its_receiver.1 ∙ receiver)

      pub same_channel : x.channel ≡ y.channel
      same_channel = ap (λ (x : ListenerEntry). x.channel) (sym its_same) ∙ its_receiver.2

      pub its_user : x.user ≡ Some f
      its_user = ap (λ (x : ListenerEntry). x.user) (sym its_same) ∙ its_receiver.3

      hearing_known : (a : BroadcastAction) → broadcast_cause h a ≡ (if is_hearing h f then None else Some stops.Unknown) → broadcast_cause h a ≡ None
      hearing_known a is = is ∙ if_true (is_hearing h f) None (Some stops.Unknown) (ap is_some seen_future)

      -- the channels are as they were, but for one that is put where it was, and the future is gone
      gone_links_now : (e : BroadcastEntry) → get s.es y.channel ≡ Some e → AreLinked s.es (remove s.ys f) (i + 1)
      gone_links_now e there = subst (λ es. AreLinked es (remove s.ys f) (i + 1)) (insert_same s.es y.channel e there)
          (links_turned s.es s.ys s.next i s.kept.links s.later y.channel (remove s.ys f) (Goes f (λ z is. ap (λ (y : RecvEntry). y.channel) (inside (sym is ∙ future)))) e
          (subst (λ m. SetLinked e.core.waiting m (i + 1)) (sym (ap (seen (λ (y : RecvEntry). y.wait)) (own-gone of_channel y.channel s.ys f) ∙ seen-remove (λ (y : RecvEntry). y.wait) (own of_channel y.channel s.ys) f))
          (gone_links e.core.waiting (slots_of y.channel s.ys) (i + 1) f (linked_still y.channel e there))) (its_quiet y.channel e there))

      -- it ends
      pub future_ended : i < 2 ^ 64 → (ys' : Names RecvEntry) → ys' ≡ remove s.ys f
          → (AreKeptBroadcasts s.es s.ss (insert s.xs y.receiver (record x { user = None })) ys' (i + 1)) × PartRests registered old i (broadcast_act old.hall i (EndHear f)) answers.Done (part_of s.es s.ss (insert s.xs y.receiver (record x { user = None })) ys' (i + 1))
      future_ended fits ys' gone =
          let home = value_in (get s.es y.channel) (futures_channel f y future) in
          rw gone (rests_as fits (EndHear f) (hearing_known (EndHear f) refl) (model.end_future h f y.receiver (listener_seen x))
          (found_is _ h _ (hearing_seen y) seen_future ∙ found_is _ (model.leaving h f) (model.end_future h f y.receiver) (listener_seen x) (seen-at listener_seen s.xs y.receiver x receiver)) answers.Done refl
          s.es s.ss (insert s.xs y.receiver (record x { user = None })) (remove s.ys f) refl refl (seen-insert listener_seen s.xs y.receiver (record x { user = None })) (seen-remove hearing_seen s.ys f) (gone_links_now home.0 home.1) refl refl)

      module _ (e : BroadcastEntry) (there : get s.es y.channel ≡ Some e) where
        pub poll_cursor : x.cursor.position ≤ e.core.tail
        poll_cursor = (its_heard y.channel e there).cursors y.receiver (listener_seen x) (own-at of_listener y.channel (seen listener_seen s.xs) y.receiver (listener_seen x) (seen-at listener_seen s.xs y.receiver x receiver) same_channel)

        its_slot : get (slots_of y.channel s.ys) f ≡ Some y.wait
        its_slot = seen-at (λ (y : RecvEntry). y.wait) (own of_channel y.channel s.ys) f y (own-at of_channel y.channel s.ys f y future refl)

        pub poll_given : has_given e.core.waiting y.wait ≡ true
        poll_given = ((s.kept.links.linked y.channel e there).each f y.wait its_slot).1.given

        polls_as : (w : ℕ) (g : Found ℕ) → cores.found e.core x.cursor.position ≡ g → broadcast_act h i (PollHear f w) ≡ model.poll h f w y.receiver (listener_seen x) x.channel (broadcast_seen e) (as_stands e.core e.receivers g)
        polls_as w g same = found_is _ h _ (hearing_seen y) seen_future ∙ found_is _ h _ (listener_seen x) (seen-at listener_seen s.xs y.receiver x receiver)
            ∙ found_is _ h (λ c. model.poll h f w y.receiver (listener_seen x) x.channel c (stands c x.cursor.position)) (broadcast_seen e) (ap (get (seen broadcast_seen s.es)) same_channel ∙ seen_there y.channel e there)
            ∙ ap (model.poll h f w y.receiver (listener_seen x) x.channel (broadcast_seen e)) (stands_is e.core e.receivers x.cursor.position ∙ ap (as_stands e.core e.receivers) same)

        -- it was polled
        module _ (fits : i < 2 ^ 64) (w : ℕ) (answer : Answer) (core' : NamedBroadcast) (x' : ListenerEntry) (y' : RecvEntry) (before after : Waking ℕ)
            (of_y : y' ≡ record y { wait = y'.wait }) where
          abbrev Polled : Bool → Type 0
          Polled over = (AreKeptBroadcasts (insert s.es y.channel (record e { core = core' })) s.ss (insert s.xs y.receiver x') (if over then remove (insert s.ys f y') f else insert s.ys f y') (i + 1))
              × PartYields registered old i (broadcast_act old.hall i (PollHear f w)) answer (part_of (insert s.es y.channel (record e { core = core' })) s.ss (insert s.xs y.receiver x') (if over then remove (insert s.ys f y') f else insert s.ys f y') (i + 1)) before after

          -- it has its answer, and is gone
          answered : (g : Found ℕ) (cursor : ℕ) → cores.found e.core x.cursor.position ≡ g → model.poll h f w y.receiver (listener_seen x) x.channel (broadcast_seen e) (as_stands e.core e.receivers g) ≡ quietly (model.freed h f y.receiver (listener_seen x) cursor) answer
              → core' ≡ e.core → listener_seen x' ≡ record (listener_seen x) { cursor = cursor; user = None } → after.wakers ≡ before.wakers → after.registered + kept_by e.core ≡ before.registered + kept_by core' → Polled true
          answered g cursor same out core_same seen_now woken counted =
              let es_same : insert s.es y.channel (record e { core = core' }) ≡ s.es = ap (λ (b : NamedBroadcast). insert s.es y.channel (record e { core = b })) core_same ∙ insert_same s.es y.channel e there in
              let size = ap kept_by core_same in
              rw (es_same, put_gone s.ys f y') (yields_as fits (PollHear f w) (hearing_known (PollHear f w) refl) (quietly (model.freed h f y.receiver (listener_seen x) cursor) answer) (polls_as w g same ∙ out) answer refl
              s.es s.ss (insert s.xs y.receiver x') (remove s.ys f) refl refl (seen-insert listener_seen s.xs y.receiver x' ∙ ap (insert (seen listener_seen s.xs) y.receiver) seen_now) (seen-remove hearing_seen s.ys f) (gone_links_now e there) before after
              (woken ∙ sym (append-nil before.wakers)) (omega (arith, counted, size)))

          -- it waits
          waits : cores.found e.core x.cursor.position ≡ cores.AtTail → (e.core.senders == 0) ≡ false → answer ≡ answers.Pending → core' ≡ record e.core { waiting = with_waker e.core.waiting y.wait (record { name = f; waker = w }) } → y'.wait ≡ slot_after e.core.waiting y.wait
              → listener_seen x' ≡ listener_seen x → after.wakers ≡ before.wakers → after.registered + kept_by e.core ≡ before.registered + kept_by core' → Polled false
          waits same some told core_now slot_now seen_now woken counted =
              let linked = s.kept.links.linked y.channel e there in
              let names : set_names core'.waiting ≡ registering (set_names e.core.waiting) f w = ap (λ (b : NamedBroadcast). set_names b.waiting) core_now ∙ registered_names e.core.waiting (slots_of y.channel s.ys) s.next f w y.wait linked its_slot in
              let core_is : core_seen core' e.receivers ≡ record (broadcast_seen e) { waiting = registering (set_names e.core.waiting) f w } = ap (λ b. core_seen b e.receivers) core_now ∙ (λ j. record (broadcast_seen e) { waiting = (sym (ap (λ (b : NamedBroadcast). set_names b.waiting) core_now) ∙ names) j }) in
              let y_seen : hearing_seen y' ≡ hearing_seen y = ap hearing_seen of_y in
              let mine : y'.channel ≡ y.channel = ap (λ (z : RecvEntry). z.channel) of_y in
              yields_as fits (PollHear f w) (hearing_known (PollHear f w) refl) (quietly (record h { channels = insert (seen broadcast_seen s.es) x.channel (record (broadcast_seen e) { waiting = registering (set_names e.core.waiting) f w }) }) answers.Pending)
              (polls_as w cores.AtTail same ∙ if_false (e.core.senders == 0) _ _ some) answer told
              (insert s.es y.channel (record e { core = core' })) s.ss (insert s.xs y.receiver x') (insert s.ys f y')
              (seen-insert broadcast_seen s.es y.channel (record e { core = core' }) ∙ (λ j. insert (seen broadcast_seen s.es) (sym same_channel j) (core_is j))) refl
              (seen-insert listener_seen s.xs y.receiver x' ∙ ap (insert (seen listener_seen s.xs) y.receiver) seen_now ∙ insert_same (seen listener_seen s.xs) y.receiver (listener_seen x) (seen-at listener_seen s.xs y.receiver x receiver))
              (seen-insert hearing_seen s.ys f y' ∙ ap (insert (seen hearing_seen s.ys) f) y_seen ∙ insert_same (seen hearing_seen s.ys) f (hearing_seen y) seen_future)
              (links_turned s.es s.ys s.next i s.kept.links s.later y.channel (insert s.ys f y') (Comes f y' (let low = (s.kept.valid.futures.at f (hearing_seen y) seen_future).0 in let later = s.later in omega (arith, low, later)) mine (λ z is. ap (λ (y : RecvEntry). y.channel) (inside (sym is ∙ future)))) (record e { core = core' })
              (subst (λ m. SetLinked core'.waiting m (i + 1)) (sym (ap (seen (λ (y : RecvEntry). y.wait)) (own-put of_channel y.channel s.ys f y' mine) ∙ seen-insert (λ (y : RecvEntry). y.wait) (own of_channel y.channel s.ys) f y' ∙ ap (insert (slots_of y.channel s.ys) f) slot_now))
              (subst (λ (b : NamedBroadcast). SetLinked b.waiting (insert (slots_of y.channel s.ys) f (slot_after e.core.waiting y.wait)) (i + 1)) (sym core_now)
              (registered_links e.core.waiting (slots_of y.channel s.ys) (i + 1) f w y.wait (linked_still y.channel e there) its_slot)))
              (ap (λ (b : NamedBroadcast). b.wakes) core_now ∙ its_quiet y.channel e there))
              before after (woken ∙ sym (append-nil before.wakers)) (let now = kept_now y.channel e there (record e { core = core' }) in omega (arith, counted, now))

          pub polled : (over : Bool) → over ≡ (if is_pending answer then false else true) → listener_seen x' ≡ record { channel = x.channel; cursor = x'.cursor.position; user = if over then None else Some f }
              → IsPolled e.core (cores.found e.core x.cursor.position) x.cursor.position y.wait (record { name = f; waker = w }) answer core' x'.cursor.position y'.wait before after → Polled over
          polled over is seen_now it = at (cores.found e.core x.cursor.position) refl it.polls
            where
              -- the cursor is there, and the future is gone
              by_answer : (g : Found ℕ) (cursor : ℕ) → cores.found e.core x.cursor.position ≡ g → is_pending answer ≡ false → model.poll h f w y.receiver (listener_seen x) x.channel (broadcast_seen e) (as_stands e.core e.receivers g) ≡ quietly (model.freed h f y.receiver (listener_seen x) cursor) answer
                  → core' ≡ e.core → x'.cursor.position ≡ cursor → Polled over
              by_answer g cursor same not_pending out core_same at_cursor =
                  let gone : over ≡ true = is ∙ ap (λ b. if b then false else true) not_pending in
                  subst Polled (sym gone) (answered g cursor same out core_same (seen_now ∙ (λ j. record { channel = x.channel; cursor = at_cursor j; user = if gone j then None else Some f })) it.wakers it.counted)

              at_tail : (b : Bool) → (e.core.senders == 0) ≡ b → cores.found e.core x.cursor.position ≡ cores.AtTail → PollsAtTail b e.core x.cursor.position y.wait (record { name = f; waker = w }) answer core' x'.cursor.position y'.wait → Polled over
              at_tail true none same did = by_answer cores.AtTail x.cursor.position same (ap is_pending did.0) (if_true (e.core.senders == 0) _ _ none ∙ ap (quietly (model.freed h f y.receiver (listener_seen x) x.cursor.position)) (sym did.0)) did.1 did.2
              at_tail false some same did =
                  let stays : over ≡ false = is ∙ ap (λ b. if b then false else true) (ap is_pending did.0) in
                  subst Polled (sym stays) (waits same some did.0 did.1 did.3 (seen_now ∙ (λ j. record { channel = x.channel; cursor = did.2 j; user = if stays j then None else Some f }) ∙ (λ j. record { channel = x.channel; cursor = x.cursor.position; user = sym its_user j })) it.wakers it.counted)

              at : (g : Found ℕ) → cores.found e.core x.cursor.position ≡ g → Polls e.core g x.cursor.position y.wait (record { name = f; waker = w }) answer core' x'.cursor.position y'.wait → Polled over
              at (cores.Behind m) same did = by_answer (cores.Behind m) (model.oldest (broadcast_seen e)) same (ap is_pending did.0) (ap (quietly (model.freed h f y.receiver (listener_seen x) (model.oldest (broadcast_seen e)))) (sym did.0)) did.1 did.2
              at (cores.Holds v) same did = by_answer (cores.Holds v) (x.cursor.position + 1) same (ap is_pending did.0) (ap (quietly (model.freed h f y.receiver (listener_seen x) (x.cursor.position + 1))) (sym did.0)) did.1 did.2
              at cores.AtTail same did = at_tail (e.core.senders == 0) refl same did

-- ---- what is looked up in channels that are seen so
module _ {old : Part Broadcasts} (es : Names BroadcastEntry) (ss : Names ℕ) (xs : Names ListenerEntry) (ys : Names RecvEntry) (next : ℕ) (view : ◌≡◌ {A = Part Broadcasts} (record { hall = broadcasts_seen es ss xs ys; next = next }) old) where
  pub channel_is : (o : ℕ) (p : Option BroadcastEntry) → get es o ≡ p → is_some p ≡ is_broadcast old.hall o
  channel_is o p is = ap is_some (sym is) ∙ sym (is_some-map broadcast_seen (get es o)) ∙ ap is_some (sym (get-seen (λ k e. broadcast_seen e) es o)) ∙ ap (λ (p : Part Broadcasts). is_broadcast p.hall o) view

  pub stands_for_it : (o : ℕ) (e : BroadcastEntry) → get es o ≡ Some e → StandsForBroadcast old.hall o e.core
  stands_for_it o e there = record { receivers = e.receivers; channel = ap (λ (p : Part Broadcasts). get p.hall.channels o) (sym view) ∙ seen-at broadcast_seen es o e there }

  pub sender_is : (k : ℕ) (p : Option ℕ) → get ss k ≡ p → is_some p ≡ is_sender old.hall k
  sender_is k p is = ap is_some (sym is) ∙ ap (λ (p : Part Broadcasts). is_sender p.hall k) view

  pub unsendable_is : (k v : ℕ) → get ss k ≡ None → broadcast_cause old.hall (SendAll k v) ≡ Some stops.Unknown
  unsendable_is k v none = ap (λ (p : Part Broadcasts). broadcast_cause p.hall (SendAll k v)) (sym view)
      ∙ ap (λ p. if is_some p then (if tail_in (channel_of (broadcasts_seen es ss xs ys) p) == last_tail then Some stops.Overflow else None) else Some stops.Unknown) none

  pub future_is : (f : ℕ) (p : Option RecvEntry) → get ys f ≡ p → is_some p ≡ is_hearing old.hall f
  future_is f p is = ap is_some (sym is) ∙ sym (is_some-map hearing_seen (get ys f)) ∙ ap is_some (sym (get-seen (λ k y. hearing_seen y) ys f)) ∙ ap (λ (p : Part Broadcasts). is_hearing p.hall f) view

  pub unusable_is : (r : ℕ) (p : Option ListenerEntry) → get xs r ≡ p → unusable (option_map listener_seen p) ≡ unusable (get old.hall.receivers r)
  unusable_is r p is = ap (λ p. unusable (option_map listener_seen p)) (sym is) ∙ ap unusable (sym (get-seen (λ k x. listener_seen x) xs r)) ∙ ap (λ (p : Part Broadcasts). unusable (get p.hall.receivers r)) view

-- a receiver was made as the event says, or there was no memory
pub joined_as : (old new : Part Broadcasts) (i o cursor : ℕ) (a : BroadcastAction) (r : Result Answer Stop) (c : Broadcast) → broadcast_cause old.hall a ≡ None → (IsFreeBroadcast a → ⊥) → get old.hall.channels o ≡ Some c → broadcast_act old.hall i a ≡ model.join old.hall i cursor o c
    → IfOk r (λ answer. (c : Broadcast) → get old.hall.channels o ≡ Some c → PartRests registered old i (model.join old.hall i cursor o c) answer new) → IfErr r (λ stop. (stop ≡ stops.NoMemory) × (new ≡ old)) → BroadcastActsQuietly old i a r new
joined_as old new i o cursor a (Ok answer) c allowed costs there is joined lacks = (allowed, subst (λ out. PartRests registered old i out answer new) (sym is) (joined c there))
joined_as old new i o cursor a (Err stop) c allowed costs there is joined lacks = (inr (allowed, lacks.0, costs), lacks.1)
