-- what each action changes: one broadcast channel, and one of its futures at the most
use Rattle.std.proofs.Common.{◌≡◌, ℕ, ◌+◌, ◌-◌, ◌<◌, ◌≤◌, ◌==◌, Bool, true, false, [], Option, Some, None, is_some, if◌then◌else◌, refl, ap, sym, subst, ◌∙◌, arith}
use Rattle.std.specs.Option.{IsSome}
use Rattle.std.specs.Ordering.{nat_cmp}
use Rattle.std.specs.FinMap.{get, insert, remove, len, len-empty}
use Rattle.std.proofs.lemmas.Bool.{eqb-true}
use Rattle.mea_family.specs.declared.stop.Stop.TheVariants as stops
use Rattle.mea_base.proofs.Maps.{by_put, by_gone, get-there, is_there, inside, none_if, removed_there}
use Rattle.mea_base.proofs.Tests.{by_name}
use Rattle.mea_by_name.specs.ByName.{Names, own, AreHome}
use Rattle.mea_by_name.specs.NamedQueue.{waker_for, registering}
use Rattle.mea_by_name.proofs.Cases.{by_if}
use Rattle.mea_by_name.proofs.Halls.{home_without, no_thing}
use Rattle.mea_by_name.proofs.Own.{Moves, Stays, Comes, Goes as Leaves, moves_elsewhere, moves_home, own-at, own-put, own-gone, own-none, own-empty, len-new, len-gone, len-some}
use Rattle.mea_by_name.proofs.NamedQueues.{registering-other}
use Rattle.mea_chan_model.specs.Broadcasts as broadcasts
use Rattle.mea_chan_model.specs.Broadcasts.{Broadcast, Broadcasts, Listener, Hearing, of_hearing, is_over, tidied, with_message, less_sender}
use Rattle.mea_chan_model.specs.BroadcastActions.{unusable}
use Rattle.mea_chan_model.specs.BroadcastValid.{AreKept, AreHeard, Hears, of_listener, of_itself}
use Rattle.mea_chan_model.proofs.OneBroadcast.{sender_added, was_sent, sender_less, joined, moved, receiver_less, lent, freed, waits_now, nobody}

pub free_there : (p : Option Listener) (x : Listener) → p ≡ Some x → unusable p ≡ None → x.user ≡ None
free_there p x is allowed = at x.user (ap unusable (sym is) ∙ allowed)
  where
    at : (u : Option ℕ) → (if is_some u then Some stops.Borrowed else None) ≡ None → u ≡ None
    at None h = refl
    at (Some f) h = absurd (cc)

pub over_none : (c : Broadcast) → is_over c ≡ true → (c.senders ≡ 0) × (c.receivers ≡ 0)
over_none c is = at (c.senders == 0) refl is
  where
    at : (b : Bool) → (c.senders == 0) ≡ b → (if b then c.receivers == 0 else false) ≡ true → (c.senders ≡ 0) × (c.receivers ≡ 0)
    at true none h = (eqb-true c.senders 0 none, eqb-true c.receivers 0 h)
    at false some h = absurd (cc)

-- ---- what is kept to, after an event at one channel
module _ (h : Broadcasts) (n i : ℕ) (k : AreKept h n) (later : n ≤ i) where
  pub fresh_channel : get h.channels i ≡ None
  fresh_channel = none_if (get h.channels i) (λ c is. absurd (let low = (k.low i c is).0 in omega (arith, low, later)))

  pub fresh_receiver : get h.receivers i ≡ None
  fresh_receiver = no_thing of_listener h.channels h.receivers n i k.receivers later

  pub fresh_future : get h.futures i ≡ None
  fresh_future = no_thing of_hearing h.channels h.futures n i k.futures later

  pub fresh_sender : get h.senders i ≡ None
  fresh_sender = no_thing of_itself h.channels h.senders n i k.senders later

  home_later : {X : Type 0} (owner : X → ℕ) (xs : Names X) → AreHome owner h.channels xs n → AreHome owner h.channels xs (i + 1)
  home_later owner xs home = record { at = λ j x is. (omega (arith, (home.at j x is).0, later), (home.at j x is).1) }

  -- nothing changes
  pub rests : AreKept h (i + 1)
  rests = record {
    heard = k.heard;
    served = k.served;
    low = λ o c is. (omega (arith, (k.low o c is).0, later), omega (arith, (k.low o c is).1, later));
    named = λ o c f w is waiting. let low = k.named o c f w is waiting in omega (arith, low, later);
    receivers = home_later of_listener h.receivers k.receivers;
    futures = home_later of_hearing h.futures k.futures;
    senders = home_later of_itself h.senders k.senders;
  }

  -- at another channel all is as it was
  module _ (o : ℕ) (xs' : Names Listener) (ys' : Names Hearing) (ss' : Names ℕ) (firsts : Moves of_listener o i h.receivers xs') (seconds : Moves of_hearing o i h.futures ys') (thirds : Moves of_itself o i h.senders ss') where
    heard_elsewhere : (q : ℕ) (c : Broadcast) → (o ≡ q → ⊥) → get h.channels q ≡ Some c → AreHeard c (own of_listener q xs') (own of_hearing q ys')
    heard_elsewhere q c apart is = rw (moves_elsewhere of_listener o i h.receivers xs' firsts q apart, moves_elsewhere of_hearing o i h.futures ys' seconds q apart) (k.heard q c is)

    served_elsewhere : (q : ℕ) (c : Broadcast) → (o ≡ q → ⊥) → get h.channels q ≡ Some c → c.senders ≡ len (own of_itself q ss')
    served_elsewhere q c apart is = k.served q c is ∙ sym (ap (λ m. len m) (moves_elsewhere of_itself o i h.senders ss' thirds q apart))

    keep_there : (c : Broadcast) (q : ℕ) → IsSome (get h.channels q) → IsSome (get (insert h.channels o c) q)
    keep_there c q some = by_put h.channels o c (λ q p. IsSome (get h.channels q) → IsSome p) (λ some. refl) (λ q apart some. some) q some

    -- the channel is c' now
    module _ (c' : Broadcast) (small : o < i + 1) (few : c'.receivers ≤ i + 1) (heard : AreHeard c' (own of_listener o xs') (own of_hearing o ys')) (served : c'.senders ≡ len (own of_itself o ss')) (named : (f w : ℕ) → waker_for c'.waiting f ≡ Some w → f < i + 1) where
      pub turned : AreKept (record { channels = insert h.channels o c'; senders = ss'; receivers = xs'; futures = ys' }) (i + 1)
      turned =
          let there : IsSome (get (insert h.channels o c') o) = is_there (get (insert h.channels o c') o) c' (get-there h.channels o c') in
          record {
            heard = by_put h.channels o c' (λ q p. (d : Broadcast) → p ≡ Some d → AreHeard d (own of_listener q xs') (own of_hearing q ys')) (λ d is. subst (λ (d : Broadcast). AreHeard d (own of_listener o xs') (own of_hearing o ys')) (inside is) heard) (λ q apart d is. heard_elsewhere q d apart is);
            served = by_put h.channels o c' (λ q p. (d : Broadcast) → p ≡ Some d → d.senders ≡ len (own of_itself q ss')) (λ d is. subst (λ (d : Broadcast). d.senders ≡ len (own of_itself o ss')) (inside is) served) (λ q apart d is. served_elsewhere q d apart is);
            low = by_put h.channels o c' (λ q p. (d : Broadcast) → p ≡ Some d → (q < i + 1) × (d.receivers ≤ i + 1)) (λ d is. subst (λ (d : Broadcast). (o < i + 1) × (d.receivers ≤ i + 1)) (inside is) (small, few))
                (λ q apart d is. (omega (arith, (k.low q d is).0, later), omega (arith, (k.low q d is).1, later)));
            named = by_put h.channels o c' (λ q p. (d : Broadcast) (f w : ℕ) → p ≡ Some d → waker_for d.waiting f ≡ Some w → f < i + 1) (λ d f w is waiting. named f w (ap (λ (d : Broadcast). waker_for d.waiting f) (inside is) ∙ waiting))
                (λ q apart d f w is waiting. let low = k.named q d f w is waiting in omega (arith, low, later));
            receivers = moves_home of_listener h.channels (insert h.channels o c') o i n h.receivers xs' firsts later k.receivers there (keep_there c');
            futures = moves_home of_hearing h.channels (insert h.channels o c') o i n h.futures ys' seconds later k.futures there (keep_there c');
            senders = moves_home of_itself h.channels (insert h.channels o c') o i n h.senders ss' thirds later k.senders there (keep_there c');
          }

    -- the channel is gone, with all that was of it
    module _ (there : IsSome (get h.channels o)) (no_receivers : len (own of_listener o xs') ≡ 0) (no_futures : len (own of_hearing o ys') ≡ 0) (no_senders : len (own of_itself o ss') ≡ 0) where
      pub left : AreKept (record { channels = remove h.channels o; senders = ss'; receivers = xs'; futures = ys' }) (i + 1)
      left = record {
        heard = by_gone h.channels o (λ q p. (d : Broadcast) → p ≡ Some d → AreHeard d (own of_listener q xs') (own of_hearing q ys')) (λ d is. absurd (cc)) (λ q apart d is. heard_elsewhere q d apart is);
        served = by_gone h.channels o (λ q p. (d : Broadcast) → p ≡ Some d → d.senders ≡ len (own of_itself q ss')) (λ d is. absurd (cc)) (λ q apart d is. served_elsewhere q d apart is);
        low = λ q d is. let was = removed_there h.channels o q d is in (omega (arith, (k.low q d was).0, later), omega (arith, (k.low q d was).1, later));
        named = λ q d f w is waiting. let low = k.named q d f w (removed_there h.channels o q d is) waiting in omega (arith, low, later);
        receivers = home_without of_listener h.channels xs' o (i + 1) (moves_home of_listener h.channels h.channels o i n h.receivers xs' firsts later k.receivers there (λ q some. some)) no_receivers;
        futures = home_without of_hearing h.channels ys' o (i + 1) (moves_home of_hearing h.channels h.channels o i n h.futures ys' seconds later k.futures there (λ q some. some)) no_futures;
        senders = home_without of_itself h.channels ss' o (i + 1) (moves_home of_itself h.channels h.channels o i n h.senders ss' thirds later k.senders there (λ q some. some)) no_senders;
      }

  -- ---- at a channel that is there
  module _ (o : ℕ) (c : Broadcast) (there : get h.channels o ≡ Some c) where
    abbrev xs : Names Listener
    xs = own of_listener o h.receivers

    abbrev ys : Names Hearing
    ys = own of_hearing o h.futures

    pub heard : AreHeard c xs ys
    heard = k.heard o c there

    small : o < i + 1
    small = let low = (k.low o c there).0 in omega (arith, low, later)

    few : c.receivers ≤ i + 1
    few = let low = (k.low o c there).1 in omega (arith, low, later)

    named_still : (f w : ℕ) → waker_for c.waiting f ≡ Some w → f < i + 1
    named_still f w waiting = let low = k.named o c f w there waiting in omega (arith, low, later)

    pub no_future : (d : Broadcast) (xs' : Names Listener) (ys' : Names Hearing) → AreHeard d (own of_listener o xs') (own of_hearing o ys') → d.receivers ≡ 0 → (f : ℕ) (y : Hearing) → get ys' f ≡ Some y → o ≡ y.channel → ⊥
    no_future d xs' ys' it none f y is mine = nobody d (own of_listener o xs') (own of_hearing o ys') it none f y (own-at of_hearing o ys' f y is (sym mine))

    -- the channel is d now, or gone where that is over
    left_or_turned : (d : Broadcast) (xs' : Names Listener) (ss' : Names ℕ) → Moves of_listener o i h.receivers xs' → Moves of_itself o i h.senders ss' → d.receivers ≤ c.receivers → AreHeard d (own of_listener o xs') ys → d.senders ≡ len (own of_itself o ss')
        → ((f w : ℕ) → waker_for d.waiting f ≡ Some w → f < i + 1) → AreKept (record { channels = tidied h.channels o d; senders = ss'; receivers = xs'; futures = h.futures }) (i + 1)
    left_or_turned d xs' ss' firsts thirds less it served named = by_if (λ (cs : Names Broadcast). AreKept (record { channels = cs; senders = ss'; receivers = xs'; futures = h.futures }) (i + 1)) (is_over d) (remove h.channels o) (insert h.channels o d)
        (λ over.
        let none = over_none d over in
        let empty_futures = own-empty of_hearing o h.futures (λ f y is mine. no_future d xs' h.futures it none.1 f y is mine) in
        left o xs' h.futures ss' firsts Stays thirds (is_there (get h.channels o) c there) (omega (arith, none.1, it.receivers)) (ap (λ m. len m) empty_futures ∙ len-empty nat_cmp Hearing) (omega (arith, none.0, served)))
        (λ stays. turned o xs' h.futures ss' firsts Stays thirds d small (omega (arith, less, few)) it served named)

    module _ (s : ℕ) (sender : get h.senders s ≡ Some o) where
      pub adds : AreKept (broadcasts.copy_sender h i o c).hall (i + 1)
      adds = turned o h.receivers h.futures (insert h.senders i o) Stays Stays (Comes i o (omega arith) refl (λ x is. absurd (let none = fresh_sender in cc))) (record c { senders = c.senders + 1 }) small few (sender_added c xs ys heard)
          (let more = len-new (own of_itself o h.senders) i o (own-none of_itself o h.senders i fresh_sender) in let all = ap (λ m. len m) (own-put of_itself o h.senders i o refl) in omega (arith, more, all, k.served o c there)) named_still

      pub sends : (v : ℕ) → AreKept (broadcasts.send h v o c).hall (i + 1)
      sends v = turned o h.receivers h.futures h.senders Stays Stays Stays (with_message c v) small few (was_sent c xs ys heard v) (k.served o c there) (λ f w waiting. absurd (cc))

      pub ends_sender : AreKept (broadcasts.end_sender h s o c).hall (i + 1)
      ends_sender = left_or_turned (less_sender c) h.receivers (remove h.senders s) Stays (Leaves s (λ x is. inside (sym is ∙ sender))) (by_if (λ (d : Broadcast). d.receivers ≤ c.receivers) (c.senders == 1) (record c { senders = 0; waiting = [] }) (record c { senders = c.senders - 1 }) (λ one. omega arith) (λ more. omega arith)) (sender_less c xs ys heard)
          (let less = len-gone (own of_itself o h.senders) s o (own-at of_itself o h.senders s o sender refl) in let all = ap (λ m. len m) (own-gone of_itself o h.senders s) in
          let some = len-some (own of_itself o h.senders) s o (own-at of_itself o h.senders s o sender refl) in one_less (c.senders == 1) refl (omega (arith, less, all, k.served o c there)))
          (λ f w. by_if (λ (d : Broadcast). waker_for d.waiting f ≡ Some w → f < i + 1) (c.senders == 1) (record c { senders = 0; waiting = [] }) (record c { senders = c.senders - 1 }) (λ one waiting. absurd (cc)) (λ more waiting. named_still f w waiting))
        where
          one_less : (b : Bool) → (c.senders == 1) ≡ b → len (own of_itself o (remove h.senders s)) ≡ c.senders - 1 → (if b then record c { senders = 0; waiting = [] } else record c { senders = c.senders - 1 }).senders ≡ len (own of_itself o (remove h.senders s))
          one_less true one is = let count = eqb-true c.senders 1 one in omega (arith, count, is)
          one_less false more is = sym is

    pub joins : (cursor : ℕ) → cursor ≤ c.tail → AreKept (broadcasts.join h i cursor o c).hall (i + 1)
    joins cursor low =
        let x : Listener = record { channel = o; cursor = cursor; user = None } in
        turned o (insert h.receivers i x) h.futures h.senders (Comes i x (omega arith) refl (λ z is. absurd (let none = fresh_receiver in cc))) Stays Stays (record c { receivers = c.receivers + 1 }) small
        (let low = (k.low o c there).1 in omega (arith, low, later)) (rw (own-put of_listener o h.receivers i x refl) (joined c xs ys heard i x (own-none of_listener o h.receivers i fresh_receiver) low)) (k.served o c there) named_still

    -- by a receiver of it that no future uses
    module _ (r : ℕ) (x : Listener) (receiver : get h.receivers r ≡ Some x) (mine : x.channel ≡ o) (free : x.user ≡ None) where
      own_receiver : get xs r ≡ Some x
      own_receiver = own-at of_listener o h.receivers r x receiver mine

      its_own : (z : Listener) → get h.receivers r ≡ Some z → z.channel ≡ o
      its_own z is = ap (λ (z : Listener). z.channel) (inside (sym is ∙ receiver)) ∙ mine

      small_receiver : r ≤ i
      small_receiver = let low = (k.receivers.at r x receiver).0 in omega (arith, low, later)

      -- it goes on, and nothing else changes but for the channel, which is put where it was
      pub moves : (cursor : ℕ) → cursor ≤ c.tail → AreKept (record h { channels = insert h.channels o c; receivers = insert h.receivers r (record x { cursor = cursor }) }) (i + 1)
      moves cursor low =
          let z : Listener = record x { cursor = cursor } in
          turned o (insert h.receivers r z) h.futures h.senders (Comes r z small_receiver mine its_own) Stays Stays c small few (rw (own-put of_listener o h.receivers r z mine) (moved c xs ys heard r x own_receiver free z low)) (k.served o c there) named_still

      pub lends : AreKept (record h { channels = insert h.channels o c; receivers = insert h.receivers r (record x { user = Some i }); futures = insert h.futures i (record { receiver = r; channel = x.channel }) }) (i + 1)
      lends =
          let z : Listener = record x { user = Some i } in
          let y : Hearing = record { receiver = r; channel = x.channel } in
          turned o (insert h.receivers r z) (insert h.futures i y) h.senders (Comes r z small_receiver mine its_own) (Comes i y (omega arith) mine (λ u is. absurd (let none = fresh_future in cc))) Stays c small few
          (rw (own-put of_listener o h.receivers r z mine, own-put of_hearing o h.futures i y mine) (lent c xs ys heard r x own_receiver free i y refl (λ w waiting. absurd (let low = k.named o c i w there waiting in omega (arith, low, later))))) (k.served o c there) named_still

      pub ends_receiver : AreKept (broadcasts.end_receiver h r o c).hall (i + 1)
      ends_receiver = left_or_turned (record c { receivers = c.receivers - 1 }) (remove h.receivers r) h.senders (Leaves r its_own) Stays (omega arith) (rw (own-gone of_listener o h.receivers r) (receiver_less c xs ys heard r x own_receiver free)) (k.served o c there) named_still

    -- by a future of it
    module _ (f : ℕ) (y : Hearing) (future : get h.futures f ≡ Some y) (mine : y.channel ≡ o) where
      own_future : get ys f ≡ Some y
      own_future = own-at of_hearing o h.futures f y future mine

      pub its : Hears c (own of_listener o h.receivers) f y
      its = (k.heard o c there).hears f y (own-at of_hearing o h.futures f y future mine)

      pub frees : (x : Listener) → get h.receivers y.receiver ≡ Some x → x.channel ≡ o → (cursor : ℕ) → cursor ≤ c.tail
          → AreKept (record h { channels = insert h.channels o c; receivers = insert h.receivers y.receiver (record x { cursor = cursor; user = None }); futures = remove h.futures f }) (i + 1)
      frees x receiver of cursor low =
          let z : Listener = record x { cursor = cursor; user = None } in
          let below = (k.receivers.at y.receiver x receiver).0 in
          turned o (insert h.receivers y.receiver z) (remove h.futures f) h.senders (Comes y.receiver z (omega (arith, below, later)) of (λ u is. ap (λ (u : Listener). u.channel) (inside (sym is ∙ receiver)) ∙ of)) (Leaves f (λ u is. ap (λ (u : Hearing). u.channel) (inside (sym is ∙ future)) ∙ mine)) Stays c small few
          (rw (own-put of_listener o h.receivers y.receiver z of, own-gone of_hearing o h.futures f) (freed c xs ys heard f y own_future z low)) (k.served o c there) named_still

      pub waits : (w : ℕ) → its.x.cursor ≡ c.tail → 0 < c.senders → AreKept (record h { channels = insert h.channels o (record c { waiting = registering c.waiting f w }) }) (i + 1)
      unfolding heard its own_future
      waits w reached some = turned o h.receivers h.futures h.senders Stays Stays Stays (record c { waiting = registering c.waiting f w }) small few (waits_now c xs ys heard f y own_future w reached some) (k.served o c there)
          (λ g v waiting. by_name f g (λ same. let below = (k.futures.at f y future).0 in omega (arith, below, later, same)) (λ apart. named_still g v (sym (registering-other c.waiting f w g apart) ∙ waiting)))
