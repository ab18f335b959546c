-- what each action on broadcast channels does to those who wait, and that it keeps what they keep to
use Rattle.std.proofs.Common.{◌≡◌, ℕ, ◌+◌, ◌-◌, ◌<◌, ◌≤◌, ◌==◌, ◌⊎◌, true, false, cond, List, [], Option, Some, None, is_some, if◌then◌else◌, refl, ap, sym, subst, ◌∙◌, arith}
use Rattle.std.specs.Option.{IsSome}
use Rattle.std.specs.Ordering.{nat_cmp}
use Rattle.std.specs.FinMap.{get, insert, remove, empty, get-empty, len-empty}
use Rattle.std.proofs.lemmas.Bool.{eqb-true, eqb-false, eq-eqb, ne_eqb}
use Rattle.mea_family.specs.declared.answer.Answer.TheVariants as answers
use Rattle.mea_family.specs.Family.{Outcome, quietly}
use Rattle.mea_base.proofs.Maps.{get-gone, value_in, inside}
use Rattle.mea_family.proofs.Causes.{known}
use Rattle.mea_by_name.specs.ByName.{Names, own}
use Rattle.mea_by_name.specs.NamedQueue.{waker_for, registering, wakers}
use Rattle.mea_family.specs.Play.{found}
use Rattle.mea_by_name.proofs.Cases.{by_found, by_if, found_is, if_false}
use Rattle.mea_by_name.proofs.NamedQueues.{Local, local_same, local_drained, local_registering, registering-there}
use Rattle.mea_by_name.proofs.OneObject.{Goes, ObjectsGo, Same, Put, Made, Gone, Kept, Begun, Ended, None_is, Polled, Ends}
use Rattle.mea_by_name.proofs.Own.{Stays, Comes, own-at, own-put, own-gone, own-empty, own-had, len-new}
use Rattle.mea_chan_model.specs.Broadcasts as broadcasts
use Rattle.mea_chan_model.specs.Broadcasts.{Broadcast, Broadcasts, Listener, Hearing, Stands, Behind, Holds, AtTail, waiting_at, of_hearing, is_over, tidied, stands, oldest, ring_size, new_broadcast, with_message, less_sender, woken_by_end, is_hearing}
use Rattle.mea_chan_model.specs.BroadcastActions.{BroadcastAction, Make, CopySender, SendAll, EndSender, Subscribe, Resubscribe, CopyReceiver, Hear, EndReceiver, BeginHear, PollHear, EndHear, unusable, broadcast_cause, broadcast_act, broadcast_polled, broadcast_ends, broadcast_registers}
use Rattle.mea_chan_model.specs.BroadcastValid.{AreKept, AreHeard, Hears, of_listener, of_itself}
use Rattle.mea_chan_model.proofs.OneBroadcast.{by_stands, sender_less, receiver_less, new_heard}
use Rattle.std.specs.List.{Contains}
use Rattle.mea_by_name.proofs.OneObject.{Counted, goes_counted, IsBelow, AreBelow, goes_stays, goes_kept, goes_made, placed_is, placed_put}
use Rattle.mea_by_name.proofs.Own.{insert_same}
use Rattle.std.proofs.lemmas.Option.{cond_some}
use Rattle.mea_base.proofs.Maps.{nothing_at}
use Rattle.mea_chan_model.proofs.OneBroadcast.{stands_tail}
use Rattle.mea_chan_model.proofs.BroadcastActing.{free_there, over_none, rests, turned, heard, no_future, adds, sends, ends_sender, joins, moves, lends, ends_receiver, frees, waits, its, fresh_channel, fresh_receiver, fresh_sender}

-- ---- what is kept to, after each event
module _ (h : Broadcasts) (n i : ℕ) (k : AreKept h n) (later : n ≤ i) where
  abbrev KeptAfter : Outcome Broadcasts → Type 0
  KeptAfter out = AreKept out.hall (i + 1)

  still : (out : Outcome Broadcasts) → out.hall ≡ h → KeptAfter out
  still out same = subst (λ (g : Broadcasts). AreKept g (i + 1)) (sym same) (rests h n i k later)

  same_channels : (o : ℕ) (c : Broadcast) → get h.channels o ≡ Some c → (g : Names Broadcast → Broadcasts) → AreKept (g (insert h.channels o c)) (i + 1) → AreKept (g h.channels) (i + 1)
  same_channels o c there g it = subst (λ (cs : Names Broadcast). AreKept (g cs) (i + 1)) (insert_same h.channels o c there) it

  kept_sender : (s : ℕ) (act : ℕ → Broadcast → Outcome Broadcasts) → ((o : ℕ) (c : Broadcast) → get h.senders s ≡ Some o → get h.channels o ≡ Some c → KeptAfter (act o c)) → KeptAfter (found (get h.senders s) h (λ o. found (get h.channels o) h (act o)))
  kept_sender s act does = by_found KeptAfter (get h.senders s) h _ (still (quietly h answers.Done) refl) (λ o sender. by_found KeptAfter (get h.channels o) h _ (still (quietly h answers.Done) refl) (λ c there. does o c sender there))

  kept_receiver : (r : ℕ) (act : Listener → Broadcast → Outcome Broadcasts) → ((x : Listener) (c : Broadcast) → get h.receivers r ≡ Some x → get h.channels x.channel ≡ Some c → KeptAfter (act x c)) → KeptAfter (found (get h.receivers r) h (λ x. found (get h.channels x.channel) h (act x)))
  kept_receiver r act does = by_found KeptAfter (get h.receivers r) h _ (still (quietly h answers.Done) refl) (λ x receiver. by_found KeptAfter (get h.channels x.channel) h _ (still (quietly h answers.Done) refl) (λ c there. does x c receiver there))

  hears_kept : (r : ℕ) (x : Listener) (c : Broadcast) → get h.receivers r ≡ Some x → get h.channels x.channel ≡ Some c → x.user ≡ None → KeptAfter (broadcasts.hear h r x c (stands c x.cursor))
  hears_kept r x c receiver there free =
      let it = heard h n i k later x.channel c there in
      by_stands c it.counted x.cursor (λ s. KeptAfter (broadcasts.hear h r x c s))
      (λ m. same_channels x.channel c there (λ cs. record h { channels = cs; receivers = insert h.receivers r (record x { cursor = oldest c }) }) (moves h n i k later x.channel c there r x receiver refl free (oldest c) (omega arith)))
      (λ v within. same_channels x.channel c there (λ cs. record h { channels = cs; receivers = insert h.receivers r (record x { cursor = x.cursor + 1 }) }) (moves h n i k later x.channel c there r x receiver refl free (x.cursor + 1) (omega (arith, within))))
      (λ reached. still (broadcasts.hear h r x c AtTail) refl)

  polls_kept : (f w : ℕ) (y : Hearing) (x : Listener) (c : Broadcast) → get h.futures f ≡ Some y → get h.receivers y.receiver ≡ Some x → get h.channels x.channel ≡ Some c → x.channel ≡ y.channel
      → KeptAfter (broadcasts.poll h f w y.receiver x x.channel c (stands c x.cursor))
  polls_kept f w y x c future receiver there same =
      let it = heard h n i k later x.channel c there in
      by_stands c it.counted x.cursor (λ s. KeptAfter (broadcasts.poll h f w y.receiver x x.channel c s))
      (λ m. same_channels x.channel c there (λ cs. record h { channels = cs; receivers = insert h.receivers y.receiver (record x { cursor = oldest c; user = None }); futures = remove h.futures f }) (frees h n i k later x.channel c there f y future (sym same) x receiver refl (oldest c) (omega arith)))
      (λ v within. same_channels x.channel c there (λ cs. record h { channels = cs; receivers = insert h.receivers y.receiver (record x { cursor = x.cursor + 1; user = None }); futures = remove h.futures f }) (frees h n i k later x.channel c there f y future (sym same) x receiver refl (x.cursor + 1) (omega (arith, within))))
      (λ reached. by_if KeptAfter (c.senders == 0) _ _
      (λ gone. same_channels x.channel c there (λ cs. record h { channels = cs; receivers = insert h.receivers y.receiver (record x { cursor = x.cursor; user = None }); futures = remove h.futures f }) (frees h n i k later x.channel c there f y future (sym same) x receiver refl x.cursor (low it)))
      (λ some.
      let mine = its h n i k later x.channel c there f y future (sym same) in
      let alike : mine.x ≡ x = inside (sym (in_all mine) ∙ receiver) in
      waits h n i k later x.channel c there f y future (sym same) w (let at = ap (λ (z : Listener). z.cursor) alike in let low = below mine in omega (arith, at, reached, low)) (let more = eqb-false c.senders 0 some in omega (arith, more))))
    where
      low : AreHeard c (own of_listener x.channel h.receivers) (own of_hearing x.channel h.futures) → x.cursor ≤ c.tail
      low it = it.cursors y.receiver x (own-at of_listener x.channel h.receivers y.receiver x receiver refl)

      in_all : (mine : Hears c (own of_listener x.channel h.receivers) f y) → get h.receivers y.receiver ≡ Some mine.x
      in_all mine = (own-had of_listener x.channel h.receivers y.receiver mine.x mine.there).0

      below : (mine : Hears c (own of_listener x.channel h.receivers) f y) → mine.x.cursor ≤ c.tail
      below mine = (heard h n i k later x.channel c there).cursors y.receiver mine.x mine.there

  -- the receiver of a future is there, and of the same channel
  its_receiver : (f : ℕ) (y : Hearing) → get h.futures f ≡ Some y → (x : Listener) × (get h.receivers y.receiver ≡ Some x) × (x.channel ≡ y.channel) × (c : Broadcast) × (get h.channels y.channel ≡ Some c) × ((w : ℕ) → waker_for c.waiting f ≡ Some w → (x.cursor ≡ c.tail) × (0 < c.senders))
  its_receiver f y is =
      let home = value_in (get h.channels y.channel) (k.futures.at f y is).1 in
      let it = (k.heard y.channel home.0 home.1).hears f y (own-at of_hearing y.channel h.futures f y is refl) in
      let had = own-had of_listener y.channel h.receivers y.receiver it.x it.there in
      (it.x, had.0, had.1, home.0, home.1, it.awake)

  unusable_free : (r : ℕ) (x : Listener) → get h.receivers r ≡ Some x → unusable (get h.receivers r) ≡ None → x.user ≡ None
  unusable_free r x is allowed = free_there (get h.receivers r) x is allowed

  pub kept_after : (a : BroadcastAction) → broadcast_cause h a ≡ None → AreKept (broadcast_act h i a).hall (i + 1)
  kept_after (Make m) allowed =
      let x : Listener = record { channel = i; cursor = 0; user = None } in
      let c : Broadcast = new_broadcast (ring_size m) in
      turned h n i k later i (insert h.receivers i x) h.futures (insert h.senders i i) (Comes i x (omega arith) refl (λ z is. absurd (let none = fresh_receiver h n i k later in cc))) Stays (Comes i i (omega arith) refl (λ z is. absurd (let none = fresh_sender h n i k later in cc))) c (omega arith) (omega arith)
      (let nothing : own of_listener i h.receivers ≡ empty = own-empty of_listener i h.receivers (λ j z is mine. no_channel (z.channel) mine (k.receivers.at j z is).1) in
      let nobody : own of_hearing i h.futures ≡ empty = own-empty of_hearing i h.futures (λ j z is mine. no_channel (z.channel) mine (k.futures.at j z is).1) in
      rw (own-put of_listener i h.receivers i x refl, nothing, nobody) (new_heard (ring_size m) i x refl))
      (let nothing : own of_itself i h.senders ≡ empty = own-empty of_itself i h.senders (λ j z is mine. no_channel z mine (k.senders.at j z is).1) in
      rw (own-put of_itself i h.senders i i refl, nothing) (let one = len-new (empty {X = ℕ} {R = nat_cmp}) i i (get-empty nat_cmp i) in omega (arith, one, len-empty nat_cmp ℕ)))
      (λ f w waiting. absurd (cc))
    where
      no_channel : (q : ℕ) → i ≡ q → IsSome (get h.channels q) → ⊥
      no_channel q same some = absurd (let none = fresh_channel h n i k later in let gone = ap is_some (ap (get h.channels) (sym same) ∙ none) in let no = sym gone ∙ some in cc)
  kept_after (CopySender s) allowed = kept_sender s _ (λ o c sender there. adds h n i k later o c there s sender)
  kept_after (SendAll s v) allowed = kept_sender s _ (λ o c sender there. sends h n i k later o c there s sender v)
  kept_after (EndSender s) allowed = kept_sender s _ (λ o c sender there. ends_sender h n i k later o c there s sender)
  kept_after (Subscribe s) allowed = kept_sender s _ (λ o c sender there. joins h n i k later o c there c.tail (omega arith))
  kept_after (Resubscribe r) allowed = kept_receiver r _ (λ x c receiver there. joins h n i k later x.channel c there c.tail (omega arith))
  kept_after (CopyReceiver r) allowed = kept_receiver r _ (λ x c receiver there. joins h n i k later x.channel c there x.cursor ((heard h n i k later x.channel c there).cursors r x (own-at of_listener x.channel h.receivers r x receiver refl)))
  kept_after (Hear r) allowed = kept_receiver r _ (λ x c receiver there. hears_kept r x c receiver there (unusable_free r x receiver allowed))
  kept_after (EndReceiver r) allowed = kept_receiver r _ (λ x c receiver there. ends_receiver h n i k later x.channel c there r x receiver refl (unusable_free r x receiver allowed))
  kept_after (BeginHear r) allowed = by_found KeptAfter (get h.receivers r) h _ (still (quietly h answers.Done) refl) (λ x receiver.
      let home = value_in (get h.channels x.channel) (k.receivers.at r x receiver).1 in
      same_channels x.channel home.0 home.1 (λ cs. record h { channels = cs; receivers = insert h.receivers r (record x { user = Some i }); futures = insert h.futures i (record { receiver = r; channel = x.channel }) })
      (lends h n i k later x.channel home.0 home.1 r x receiver refl (unusable_free r x receiver allowed)))
  kept_after (PollHear f w) allowed = by_found KeptAfter (get h.futures f) h _ (still (quietly h answers.Done) refl) (λ y future. by_found KeptAfter (get h.receivers y.receiver) h _ (still (quietly h answers.Done) refl) (λ x receiver.
      by_found KeptAfter (get h.channels x.channel) h _ (still (quietly h answers.Done) refl) (λ c there. let it = its_receiver f y future in polls_kept f w y x c future receiver there (ap (λ (z : Listener). z.channel) (inside (sym receiver ∙ it.1)) ∙ it.2))))
  kept_after (EndHear f) allowed = by_found KeptAfter (get h.futures f) h _ (still (quietly h answers.Done) refl) (λ y future.
      let it = its_receiver f y future in
      at y future it.0 it.1 it.2 it.3 it.4 (get h.receivers y.receiver) refl)
    where
      at : (y : Hearing) → get h.futures f ≡ Some y → (x : Listener) → get h.receivers y.receiver ≡ Some x → x.channel ≡ y.channel → (c : Broadcast) → get h.channels y.channel ≡ Some c → (p : Option Listener) → get h.receivers y.receiver ≡ p → KeptAfter (found p (broadcasts.leaving h f) (broadcasts.end_future h f y.receiver))
      at y future x receiver mine c there None none = absurd (let no = sym none ∙ receiver in cc)
      at y future x receiver mine c there (Some z) is =
          let same : z ≡ x = inside (sym is ∙ receiver) in
          let of : z.channel ≡ y.channel = ap (λ (u : Listener). u.channel) same ∙ mine in
          same_channels y.channel c there (λ cs. record h { channels = cs; receivers = insert h.receivers y.receiver (record z { cursor = z.cursor; user = None }); futures = remove h.futures f })
          (frees h n i k later y.channel c there f y future refl z is of z.cursor ((heard h n i k later y.channel c there).cursors y.receiver z (own-at of_listener y.channel h.receivers y.receiver z is of)))

-- nothing is kept to of nothing
pub none_kept : AreKept broadcasts.no_broadcasts 0
none_kept = record {
  heard = λ o c is. absurd (nothing_at Broadcast o c is);
  served = λ o c is. absurd (nothing_at Broadcast o c is);
  low = λ o c is. absurd (nothing_at Broadcast o c is);
  named = λ o c f w is. absurd (nothing_at Broadcast o c is);
  receivers = record { at = λ r x is. absurd (nothing_at Listener r x is) };
  futures = record { at = λ f y is. absurd (nothing_at Hearing f y is) };
  senders = record { at = λ s o is. absurd (nothing_at ℕ s o is) };
}

-- ---- what an action does to those who wait
-- what holds before an event that is allowed
pub record IsBefore (h : Broadcasts) (i : ℕ) (a : BroadcastAction) : Type 0 where
  pub n : ℕ
  pub kept : AreKept h n
  pub later : n ≤ i
  pub allowed : broadcast_cause h a ≡ None

module _ (h : Broadcasts) (i : ℕ) (a : BroadcastAction) (none : (f : ℕ) → broadcast_ends a f ≡ true → ⊥) where
  abbrev GoesBy : ℕ → Outcome Broadcasts → Type 0
  GoesBy extra out = Goes waiting_at of_hearing h.channels h.futures (IsBefore h i a) (broadcast_polled a) (broadcast_ends a) i extra out.hall.channels out.hall.futures out.wakes

  quiet_goes : (extra : ℕ) (out : Outcome Broadcasts) → out.hall.channels ≡ h.channels → out.hall.futures ≡ h.futures → out.wakes ≡ [] → GoesBy extra out
  quiet_goes extra out channels futures wakes = rw (channels, futures, wakes) (record { k = i; touches = None_is refl; objects = Same; futures = Kept; over = λ f is. absurd (none f is) })

  sender_goes : (s extra : ℕ) (act : ℕ → Broadcast → Outcome Broadcasts) → ((o : ℕ) (c : Broadcast) → get h.senders s ≡ Some o → get h.channels o ≡ Some c → GoesBy extra (act o c)) → GoesBy extra (found (get h.senders s) h (λ o. found (get h.channels o) h (act o)))
  sender_goes s extra act does = by_found (GoesBy extra) (get h.senders s) h _ (quiet_goes extra (quietly h answers.Done) refl refl refl)
      (λ o sender. by_found (GoesBy extra) (get h.channels o) h _ (quiet_goes extra (quietly h answers.Done) refl refl refl) (λ c there. does o c sender there))

  receiver_goes : (r extra : ℕ) (act : Listener → Broadcast → Outcome Broadcasts) → ((x : Listener) (c : Broadcast) → get h.receivers r ≡ Some x → get h.channels x.channel ≡ Some c → GoesBy extra (act x c)) → GoesBy extra (found (get h.receivers r) h (λ x. found (get h.channels x.channel) h (act x)))
  receiver_goes r extra act does = by_found (GoesBy extra) (get h.receivers r) h _ (quiet_goes extra (quietly h answers.Done) refl refl refl)
      (λ x receiver. by_found (GoesBy extra) (get h.channels x.channel) h _ (quiet_goes extra (quietly h answers.Done) refl refl refl) (λ c there. does x c receiver there))

  -- a channel changes, and nobody waits more
  channel_goes : (o : ℕ) (c d : Broadcast) (ws : List ℕ) (out : Outcome Broadcasts) → get h.channels o ≡ Some c → Local c.waiting d.waiting ws i 0 → out.hall.channels ≡ insert h.channels o d → out.hall.futures ≡ h.futures → out.wakes ≡ ws → GoesBy 0 out
  channel_goes o c d ws out there local channels futures wakes = rw (channels, futures, wakes) (record { k = i; touches = None_is refl; objects = Put o c d ws 0 there local (omega arith); futures = Kept; over = λ f is. absurd (none f is) })

  -- or is gone with nobody who waits
  tidied_goes : (o : ℕ) (c d : Broadcast) (ws : List ℕ) (out : Outcome Broadcasts) → get h.channels o ≡ Some c → Local c.waiting d.waiting ws i 0 → (is_over d ≡ true → IsBefore h i a → (f : ℕ) (y : Hearing) → get h.futures f ≡ Some y → o ≡ y.channel → ⊥)
      → out.hall.channels ≡ tidied h.channels o d → out.hall.futures ≡ h.futures → out.wakes ≡ ws → GoesBy 0 out
  tidied_goes o c d ws out there local alone channels futures wakes = rw (channels, futures, wakes) (record {
    k = i;
    touches = None_is refl;
    objects = by_if (λ (cs : Names Broadcast). ObjectsGo waiting_at of_hearing h.channels h.futures (IsBefore h i a) i i 0 cs ws) (is_over d) (remove h.channels o) (insert h.channels o d)
        (λ over. Gone o c ws there local.most (λ before f y apart is mine. alone over before f y is mine)) (λ stays. Put o c d ws 0 there local (omega arith));
    futures = Kept;
    over = λ f is. absurd (none f is);
  })

less_local : (c : Broadcast) (i : ℕ) → Local c.waiting (less_sender c).waiting (woken_by_end c) i 0
less_local c i = elim (c.senders == 1) as (λ b. Local c.waiting (if b then record c { senders = 0; waiting = [] } else record c { senders = c.senders - 1 }).waiting (if b then wakers c.waiting else []) i 0) [ true ↦ local_drained c.waiting i | false ↦ local_same c.waiting i ]

-- a receiver receives, and nobody waits more or less
hears_goes : (h : Broadcasts) (i r : ℕ) (x : Listener) (c : Broadcast) (s : Stands) → Goes waiting_at of_hearing h.channels h.futures (IsBefore h i (Hear r)) (broadcast_polled (Hear r)) (broadcast_ends (Hear r)) i 0 (broadcasts.hear h r x c s).hall.channels (broadcasts.hear h r x c s).hall.futures (broadcasts.hear h r x c s).wakes
hears_goes h i r x c (Behind m) = quiet_goes h i (Hear r) (λ f is. absurd (cc)) 0 (broadcasts.hear h r x c (Behind m)) refl refl refl
hears_goes h i r x c s = quiet_goes h i (Hear r) (λ f is. absurd (cc)) 0 (broadcasts.hear h r x c s) refl refl refl

-- a future is polled: it is gone, or waits
module _ (h : Broadcasts) (i f w r : ℕ) (x : Listener) (o : ℕ) (c : Broadcast) (there : get h.channels o ≡ Some c) where
  abbrev PollGoes : Outcome Broadcasts → Type 0
  PollGoes out = Goes waiting_at of_hearing h.channels h.futures (IsBefore h i (PollHear f w)) (broadcast_polled (PollHear f w)) (broadcast_ends (PollHear f w)) i 1 out.hall.channels out.hall.futures out.wakes

  mine_polled : broadcast_polled (PollHear f w) f ≡ Some w
  mine_polled = ap (λ b. cond b (Some w) None) (eq-eqb f f refl)

  frees_goes : (cursor : ℕ) (reply : _) → PollGoes (quietly (broadcasts.freed h f r x cursor) reply)
  frees_goes cursor reply = record { k = f; touches = Polled w mine_polled; objects = Same; futures = Ended; over = λ g is. absurd (cc) }

  polls_goes : (s : Stands) → PollGoes (broadcasts.poll h f w r x o c s)
  polls_goes (Behind m) = frees_goes (oldest c) (answers.Lagged m)
  polls_goes (Holds v) = frees_goes (x.cursor + 1) (answers.Got v)
  polls_goes AtTail = by_if PollGoes (c.senders == 0) _ _ (λ gone. frees_goes x.cursor answers.Gone)
      (λ some. record { k = f; touches = Polled w mine_polled; objects = Put o c (record c { waiting = registering c.waiting f w }) [] 1 there (local_registering c.waiting f w) (omega arith); futures = Kept; over = λ g is. absurd (cc) })

unpolled_quiet : (h : Broadcasts) (i f w : ℕ) → Goes waiting_at of_hearing h.channels h.futures (IsBefore h i (PollHear f w)) (broadcast_polled (PollHear f w)) (broadcast_ends (PollHear f w)) i 1 h.channels h.futures []
unpolled_quiet h i f w = quiet_goes h i (PollHear f w) (λ g is. absurd (cc)) 1 (quietly h answers.Done) refl refl refl

ends_goes : (h : Broadcasts) (i f : ℕ) → Goes waiting_at of_hearing h.channels h.futures (IsBefore h i (EndHear f)) (broadcast_polled (EndHear f)) (broadcast_ends (EndHear f)) i 0 (broadcast_act h i (EndHear f)).hall.channels (broadcast_act h i (EndHear f)).hall.futures (broadcast_act h i (EndHear f)).wakes
ends_goes h i f = at (get h.futures f) refl
  where
    P : Outcome Broadcasts → Type 0
    P out = Goes waiting_at of_hearing h.channels h.futures (IsBefore h i (EndHear f)) (broadcast_polled (EndHear f)) (broadcast_ends (EndHear f)) i 0 out.hall.channels out.hall.futures out.wakes

    gone : (out : Outcome Broadcasts) → out.hall.channels ≡ h.channels → out.hall.futures ≡ remove h.futures f → out.wakes ≡ [] → P out
    gone out channels futures wakes = rw (channels, futures, wakes) (record { k = f; touches = Ends (eq-eqb f f refl); objects = Same; futures = Ended; over = λ g is. ap (get (remove h.futures f)) (sym (eqb-true f g is)) ∙ get-gone h.futures f })

    at : (p : Option Hearing) → get h.futures f ≡ p → P (found p h (λ y. found (get h.receivers y.receiver) (broadcasts.leaving h f) (broadcasts.end_future h f y.receiver)))
    at None is = record { k = i; touches = None_is refl; objects = Same; futures = Kept; over = λ g same. ap (get h.futures) (sym (eqb-true f g same)) ∙ is }
    at (Some y) is = by_found P (get h.receivers y.receiver) (broadcasts.leaving h f) (broadcasts.end_future h f y.receiver) (gone (quietly (broadcasts.leaving h f) answers.Done) refl refl refl) (λ x receiver. gone (broadcasts.end_future h f y.receiver x) refl refl refl)

pub goes : (h : Broadcasts) (i : ℕ) (a : BroadcastAction) → Goes waiting_at of_hearing h.channels h.futures (IsBefore h i a) (broadcast_polled a) (broadcast_ends a) i (cond (broadcast_registers a) 1 0) (broadcast_act h i a).hall.channels (broadcast_act h i a).hall.futures (broadcast_act h i a).wakes
goes h i (Make m) = record { k = i; touches = None_is refl; objects = Made (new_broadcast (ring_size m)) refl; futures = Kept; over = λ f is. absurd (cc) }
goes h i (CopySender s) = sender_goes h i (CopySender s) (λ f is. absurd (cc)) s 0 _ (λ o c sender there. channel_goes h i (CopySender s) (λ f is. absurd (cc)) o c (record c { senders = c.senders + 1 }) [] (broadcasts.copy_sender h i o c) there (local_same c.waiting i) refl refl refl)
goes h i (SendAll s v) = sender_goes h i (SendAll s v) (λ f is. absurd (cc)) s 0 _ (λ o c sender there. channel_goes h i (SendAll s v) (λ f is. absurd (cc)) o c (with_message c v) (wakers c.waiting) (broadcasts.send h v o c) there (local_drained c.waiting i) refl refl refl)
goes h i (EndSender s) = sender_goes h i (EndSender s) (λ f is. absurd (cc)) s 0 _ (λ o c sender there. tidied_goes h i (EndSender s) (λ f is. absurd (cc)) o c (less_sender c) (woken_by_end c) (broadcasts.end_sender h s o c) there (less_local c i)
    (λ over before f y is mine. no_future h before.n i before.kept before.later o c there (less_sender c) h.receivers h.futures (sender_less c _ _ (before.kept.heard o c there)) (over_none (less_sender c) over).1 f y is mine) refl refl refl)
goes h i (Subscribe s) = sender_goes h i (Subscribe s) (λ f is. absurd (cc)) s 0 _ (λ o c sender there. channel_goes h i (Subscribe s) (λ f is. absurd (cc)) o c (record c { receivers = c.receivers + 1 }) [] (broadcasts.join h i c.tail o c) there (local_same c.waiting i) refl refl refl)
goes h i (Resubscribe r) = receiver_goes h i (Resubscribe r) (λ f is. absurd (cc)) r 0 _ (λ x c receiver there. channel_goes h i (Resubscribe r) (λ f is. absurd (cc)) x.channel c (record c { receivers = c.receivers + 1 }) [] (broadcasts.join h i c.tail x.channel c) there (local_same c.waiting i) refl refl refl)
goes h i (CopyReceiver r) = receiver_goes h i (CopyReceiver r) (λ f is. absurd (cc)) r 0 _ (λ x c receiver there. channel_goes h i (CopyReceiver r) (λ f is. absurd (cc)) x.channel c (record c { receivers = c.receivers + 1 }) [] (broadcasts.join h i x.cursor x.channel c) there (local_same c.waiting i) refl refl refl)
goes h i (Hear r) = receiver_goes h i (Hear r) (λ f is. absurd (cc)) r 0 _ (λ x c receiver there. hears_goes h i r x c (stands c x.cursor))
goes h i (EndReceiver r) = receiver_goes h i (EndReceiver r) (λ f is. absurd (cc)) r 0 _ (λ x c receiver there. tidied_goes h i (EndReceiver r) (λ f is. absurd (cc)) x.channel c (record c { receivers = c.receivers - 1 }) [] (broadcasts.end_receiver h r x.channel c) there (local_same c.waiting i)
    (λ over before f y is mine. no_future h before.n i before.kept before.later x.channel c there (record c { receivers = c.receivers - 1 }) (remove h.receivers r) h.futures
    (rw (own-gone of_listener x.channel h.receivers r) (receiver_less c _ _ (before.kept.heard x.channel c there) r x (own-at of_listener x.channel h.receivers r x receiver refl) (free_there (get h.receivers r) x receiver before.allowed)))
    (over_none (record c { receivers = c.receivers - 1 }) over).1 f y is mine) refl refl refl)
goes h i (BeginHear r) = by_found (λ (out : Outcome Broadcasts). Goes waiting_at of_hearing h.channels h.futures (IsBefore h i (BeginHear r)) (broadcast_polled (BeginHear r)) (broadcast_ends (BeginHear r)) i 0 out.hall.channels out.hall.futures out.wakes) (get h.receivers r) h _
    (quiet_goes h i (BeginHear r) (λ f is. absurd (cc)) 0 (quietly h answers.Done) refl refl refl)
    (λ x receiver. record { k = i; touches = None_is refl; objects = Same; futures = Begun (record { receiver = r; channel = x.channel }) (λ before. (before.kept.receivers.at r x receiver).1); over = λ f is. absurd (cc) })
goes h i (PollHear f w) = by_found P (get h.futures f) h _ (unpolled_quiet h i f w) (λ y future. by_found P (get h.receivers y.receiver) h _ (unpolled_quiet h i f w) (λ x receiver. by_found P (get h.channels x.channel) h _ (unpolled_quiet h i f w)
    (λ c there. polls_goes h i f w y.receiver x x.channel c there (stands c x.cursor))))
  where
    P : Outcome Broadcasts → Type 0
    P out = Goes waiting_at of_hearing h.channels h.futures (IsBefore h i (PollHear f w)) (broadcast_polled (PollHear f w)) (broadcast_ends (PollHear f w)) i 1 out.hall.channels out.hall.futures out.wakes
goes h i (EndHear f) = ends_goes h i f

pub broadcast_counts : (h : Broadcasts) (i : ℕ) (a : BroadcastAction) → Counted waiting_at h.channels (broadcast_act h i a).hall.channels (broadcast_act h i a).wakes (cond (broadcast_registers a) 1 0)
broadcast_counts h i a = goes_counted waiting_at of_hearing h.channels h.futures (IsBefore h i a) (broadcast_polled a) (broadcast_ends a) i (cond (broadcast_registers a) 1 0) _ _ _ (goes h i a)

-- ---- the laws
-- an action that polls f is a poll of f
same_hear : (a : BroadcastAction) (f w : ℕ) (P : BroadcastAction → Type 0) → ((v : ℕ) → v ≡ w → P (PollHear f v)) → broadcast_polled a f ≡ Some w → P a
same_hear (PollHear g v) f w P here is = let test = cond_some (g == f) v w is in subst (λ j. P (PollHear j v)) (sym (eqb-true g f test.0)) (here v test.1)
same_hear _ f w P here is = absurd (cc)

pub hearing_there : (h : Broadcasts) (a : BroadcastAction) (f w : ℕ) → broadcast_cause h a ≡ None → broadcast_polled a f ≡ Some w → is_hearing h f ≡ true
hearing_there h a f w allowed is = same_hear a f w (λ a. broadcast_cause h a ≡ None → is_hearing h f ≡ true) (λ v same none. known (is_hearing h f) none) is allowed

module _ (h : Broadcasts) (n i : ℕ) (k : AreKept h n) (later : n ≤ i) where
  lows_below : IsBelow h.channels n
  lows_below = record { at = λ o c is. (k.low o c is).0 }

  futures_below : AreBelow waiting_at of_hearing h.futures n
  futures_below = record { at = λ f y is. let home = k.futures.at f y is in let c = value_in (get h.channels y.channel) home.1 in (home.0, (k.low y.channel c.0 c.1).0) }

  module _ (a : BroadcastAction) (allowed : broadcast_cause h a ≡ None) where
    before : IsBefore h i a
    before = record { n = n; kept = k; later = later; allowed = allowed }

    pub hearing_stays : (f : ℕ) → is_hearing h f ≡ true → broadcast_polled a f ≡ None → broadcast_ends a f ≡ false → is_hearing (broadcast_act h i a).hall f ≡ true
    hearing_stays f some quiet lasts = goes_stays waiting_at of_hearing h.channels h.futures n i lows_below futures_below later (IsBefore h i a) before (broadcast_polled a) (broadcast_ends a) (cond (broadcast_registers a) 1 0) _ _ _ (goes h i a) f some quiet lasts

    pub hearing_kept : (f w : ℕ) → broadcasts.placed h f ≡ Some w → broadcast_polled a f ≡ None → broadcast_ends a f ≡ false → (broadcasts.placed (broadcast_act h i a).hall f ≡ Some w) ⊎ Contains (broadcast_act h i a).wakes w
    hearing_kept f w is quiet lasts = goes_kept waiting_at of_hearing h.channels h.futures n i lows_below futures_below later (IsBefore h i a) before (broadcast_polled a) (broadcast_ends a) (cond (broadcast_registers a) 1 0) _ _ _ (goes h i a) f w is quiet lasts

    pub hearing_made : (f : ℕ) → is_hearing (broadcast_act h i a).hall f ≡ true → (is_hearing h f ≡ true) ⊎ (f ≡ i)
    hearing_made f some = goes_made waiting_at of_hearing h.channels h.futures n i lows_below futures_below later (IsBefore h i a) before (broadcast_polled a) (broadcast_ends a) (cond (broadcast_registers a) 1 0) _ _ _ (goes h i a) f some

    pub hearing_gone : (f : ℕ) → broadcast_ends a f ≡ true → is_hearing (broadcast_act h i a).hall f ≡ false
    hearing_gone f is = ap is_some ((goes h i a).over f is)

  pub hearing_below : (f : ℕ) → is_hearing h f ≡ true → f < n
  hearing_below f some = let y = value_in (get h.futures f) some in (k.futures.at f y.0 y.1).0

  -- a poll that is pending places its waker
  pub hearing_placed : (a : BroadcastAction) (f w : ℕ) → broadcast_polled a f ≡ Some w → (broadcast_act h i a).reply ≡ answers.Pending → broadcasts.placed (broadcast_act h i a).hall f ≡ Some w
  hearing_placed a f w is = same_hear a f w (λ a. (broadcast_act h i a).reply ≡ answers.Pending → broadcasts.placed (broadcast_act h i a).hall f ≡ Some w) (λ v same. at_poll v same) is
    where
      P : Outcome Broadcasts → Type 0
      P out = out.reply ≡ answers.Pending → broadcasts.placed out.hall f ≡ Some w

      at_poll : (v : ℕ) → v ≡ w → P (broadcast_act h i (PollHear f v))
      at_poll v same = by_found P (get h.futures f) h _ (λ is. absurd (cc)) (λ y future. by_found P (get h.receivers y.receiver) h _ (λ is. absurd (cc)) (λ x receiver. by_found P (get h.channels x.channel) h _ (λ is. absurd (cc))
          (λ c there. at_stands y future x receiver c (stands c x.cursor))))
        where
          pending : (y : Hearing) → get h.futures f ≡ Some y → (x : Listener) → x.channel ≡ y.channel → (c : Broadcast) → broadcasts.placed (record h { channels = insert h.channels x.channel (record c { waiting = registering c.waiting f v }) }) f ≡ Some w
          pending y future x mine c = subst (λ o. broadcasts.placed (record h { channels = insert h.channels o (record c { waiting = registering c.waiting f v }) }) f ≡ Some w) (sym mine)
              (placed_put waiting_at of_hearing h.channels h.futures f w y (record c { waiting = registering c.waiting f v }) future (registering-there c.waiting f v ∙ ap (λ u. Some u) same))

          at_stands : (y : Hearing) → get h.futures f ≡ Some y → (x : Listener) → get h.receivers y.receiver ≡ Some x → (c : Broadcast) (s : Stands) → P (broadcasts.poll h f v y.receiver x x.channel c s)
          at_stands y future x receiver c (Behind m) = λ is. absurd (cc)
          at_stands y future x receiver c (Holds u) = λ is. absurd (cc)
          at_stands y future x receiver c AtTail = by_if P (c.senders == 0) _ _ (λ gone is. absurd (cc))
              (λ some is. let it = its_receiver h n i k later f y future in pending y future x (ap (λ (z : Listener). z.channel) (inside (sym receiver ∙ it.1)) ∙ it.2) c)

-- while a waker is placed, a poll is pending
pub hearing_waits : (h : Broadcasts) (n i : ℕ) → AreKept h n → (a : BroadcastAction) (f w v : ℕ) → broadcasts.placed h f ≡ Some w → broadcast_polled a f ≡ Some v → (broadcast_act h i a).reply ≡ answers.Pending
hearing_waits h n i k a f w v placed is = same_hear a f v (λ a. (broadcast_act h i a).reply ≡ answers.Pending) (λ u same. at_poll u) is
  where
    not_none : (m : ℕ) → 0 < m → (m == 0) ≡ false
    not_none m some = ne_eqb m 0 (λ none. absurd (omega (arith, some, none)))

    at_poll : (u : ℕ) → (broadcast_act h i (PollHear f u)).reply ≡ answers.Pending
    at_poll u =
        let at = placed_is waiting_at of_hearing h.channels h.futures f w placed in
        let it = its_receiver h n n k (omega arith) f at.x at.future in
        let c : Broadcast = at.r in
        let alike : it.3 ≡ at.r = inside (sym it.4 ∙ at.object) in
        let awake = it.5 w (ap (λ (d : Broadcast). waker_for d.waiting f) alike ∙ at.waker) in
        let few = (k.heard at.x.channel at.r at.object).counted in
        let cursor : it.0.cursor ≡ at.r.tail = awake.0 ∙ ap (λ (d : Broadcast). d.tail) alike in
        let some : (at.r.senders == 0) ≡ false = not_none at.r.senders (let size = ap (λ (d : Broadcast). d.senders) alike in omega (arith, size, awake.1)) in
        let there : get h.channels it.0.channel ≡ Some at.r = ap (get h.channels) it.2 ∙ at.object in
        ap (λ (o : Outcome Broadcasts). o.reply)
        (found_is (get h.futures f) h (λ y. found (get h.receivers y.receiver) h (λ x. found (get h.channels x.channel) h (λ c. broadcasts.poll h f u y.receiver x x.channel c (stands c x.cursor)))) at.x at.future
        ∙ found_is (get h.receivers at.x.receiver) h (λ x. found (get h.channels x.channel) h (λ c. broadcasts.poll h f u at.x.receiver x x.channel c (stands c x.cursor))) it.0 it.1
        ∙ found_is (get h.channels it.0.channel) h (λ c. broadcasts.poll h f u at.x.receiver it.0 it.0.channel c (stands c it.0.cursor)) at.r there
        ∙ ap (broadcasts.poll h f u at.x.receiver it.0 it.0.channel at.r) (ap (stands at.r) cursor ∙ stands_tail at.r few)
        ∙ if_false (at.r.senders == 0) _ _ some)
