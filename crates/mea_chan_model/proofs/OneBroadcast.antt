-- one broadcast channel: what each change of it keeps of its receivers and futures
use Rattle.std.proofs.Common.{◌≡◌, ℕ, zero, suc, ◌+◌, ◌-◌, ◌<◌, ◌≤◌, ◌==◌, ◌++◌, inl, inr, Bool, true, false, List, [], ◌∷◌, length, drop, nat_lt, slice_get, Option, Some, None, if◌then◌else◌, refl, ap, sym, subst, ◌∙◌, arith, length-append}
use Rattle.std.specs.Ordering.{nat_cmp}
use Rattle.std.specs.FinMap.{get, insert, remove, empty, get-empty, len-empty}
use Rattle.std.proofs.lemmas.Bool.{eqb-false}
use Rattle.std.proofs.lemmas.Bool.Decides.{nat_tests}
use Rattle.std.proofs.lemmas.Option.{slice_get_past, slice_get_within, slice_get_cases}
use Rattle.mea_base.proofs.Maps.{by_put, by_gone, get-there, get-other, get-removed_other, removed_there, inside}
use Rattle.mea_base.proofs.Tests.{by_name}
use Rattle.mea_by_name.specs.ByName.{Names}
use Rattle.mea_by_name.specs.NamedQueue.{waker_for, registering}
use Rattle.mea_by_name.proofs.Own.{len-new, len-over, len-gone, len-some}
use Rattle.mea_by_name.proofs.NamedQueues.{registering-other}
use Rattle.mea_chan_model.specs.Broadcasts.{Broadcast, Listener, Hearing, Stands, Behind, Holds, AtTail, oldest, stands, stands_at, newest, new_broadcast, with_message, less_sender}
use Rattle.mea_chan_model.specs.BroadcastValid.{Hears, AreHeard}

-- ---- what stands at a cursor
module _ (c : Broadcast) (few : length c.kept ≤ c.tail) where
  pub stands_tail : stands c c.tail ≡ AtTail
  stands_tail =
      let reached : nat_lt c.tail (oldest c) ≡ false = grind (arith, nat_tests, few) in
      let place : c.tail - oldest c ≡ length c.kept = omega (arith, few) in
      ap (λ b. if b then Behind (oldest c - c.tail) else stands_at (slice_get c.kept (c.tail - oldest c))) reached ∙ ap (λ j. stands_at (slice_get c.kept j)) place ∙ ap stands_at (slice_get_past c.kept (length c.kept) (omega arith))

  -- where a message is there, the cursor is below the tail; where none is, it is not
  module _ (cursor : ℕ) where
    pub by_stands : (P : Stands → Type 0) → ((k : ℕ) → P (Behind k)) → ((v : ℕ) → cursor < c.tail → P (Holds v)) → (c.tail ≤ cursor → P AtTail) → P (stands c cursor)
    by_stands P behind holds tail = at (nat_lt cursor (oldest c)) refl
      where
        at_kept : (j : ℕ) → cursor - oldest c ≡ j → oldest c ≤ cursor → (o : Option ℕ) → slice_get c.kept j ≡ o → P (stands_at o)
        at_kept j place reached None none = tail (elim (slice_get_cases c.kept j).1 [
          | inl some ↦ absurd (let no = sym none ∙ some.2 in cc)
          | inr past ↦ omega (arith, past.0, place, reached, few)
        ])
        at_kept j place reached (Some v) some = holds v (let within = slice_get_within c.kept j v some in omega (arith, within, place, reached, few))

        at : (b : Bool) → nat_lt cursor (oldest c) ≡ b → P (if b then Behind (oldest c - cursor) else stands_at (slice_get c.kept (cursor - oldest c)))
        at true is = behind (oldest c - cursor)
        at false is = let reached : oldest c ≤ cursor = grind (arith, nat_tests, is) in at_kept (cursor - oldest c) refl reached (slice_get c.kept (cursor - oldest c)) refl

-- ---- the changes
module _ (c : Broadcast) (xs : Names Listener) (ys : Names Hearing) (a : AreHeard c xs ys) where
  -- a sender more
  pub sender_added : AreHeard (record c { senders = c.senders + 1 }) xs ys
  sender_added = record {
    counted = a.counted;
    receivers = a.receivers;
    cursors = a.cursors;
    hears = λ f y is. let it = a.hears f y is in record { x = it.x; there = it.there; user = it.user; awake = λ w waiting. ((it.awake w waiting).0, omega arith) };
    silent = λ none. absurd (omega (arith, none));
  }

  -- nobody waits any more
  drained : (d : Broadcast) → d.waiting ≡ [] → d.receivers ≡ c.receivers → c.tail ≤ d.tail → length d.kept ≤ d.tail → AreHeard d xs ys
  drained d none same more few = record {
    counted = few;
    receivers = same ∙ a.receivers;
    cursors = λ r x is. omega (arith, a.cursors r x is, more);
    hears = λ f y is. let it = a.hears f y is in record { x = it.x; there = it.there; user = it.user; awake = λ w waiting. absurd (let nobody = sym (ap (λ q. waker_for q f) none) ∙ waiting in cc) };
    silent = λ last. none;
  }

  pub was_sent : (v : ℕ) → AreHeard (with_message c v) xs ys
  was_sent v = drained (with_message c v) refl refl (omega arith) (at_most (c.kept ++ v ∷ []) c.size (c.tail + 1) (omega (arith, length-append c.kept (v ∷ []), a.counted)))
    where
      at_most : (vs : List ℕ) (n t : ℕ) → length vs ≤ t → length (newest n vs) ≤ t
      at_most vs n t few = let less = dropped (length vs - n) vs in omega (arith, less, few)
        where
          dropped : (k : ℕ) (us : List ℕ) → length (drop k us) ≤ length us
          dropped zero us = omega arith
          dropped (suc k) [] = omega arith
          dropped (suc k) (u ∷ us) = omega (arith, dropped k us)

  pub sender_less : AreHeard (less_sender c) xs ys
  sender_less = at (c.senders == 1) refl
    where
      at : (b : Bool) → (c.senders == 1) ≡ b → AreHeard (if b then record c { senders = 0; waiting = [] } else record c { senders = c.senders - 1 }) xs ys
      at true is = drained (record c { senders = 0; waiting = [] }) refl refl (omega arith) a.counted
      at false is = record {
        counted = a.counted;
        receivers = a.receivers;
        cursors = a.cursors;
        hears = λ f y had. let it = a.hears f y had in record { x = it.x; there = it.there; user = it.user; awake = λ w waiting. let both = it.awake w waiting in let more = eqb-false c.senders 1 is in (both.0, omega (arith, both.1, more)) };
        silent = λ none. a.silent (let more = eqb-false c.senders 1 is in omega (arith, none, more));
      }

  -- a further receiver
  pub joined : (i : ℕ) (x : Listener) → get xs i ≡ None → x.cursor ≤ c.tail → AreHeard (record c { receivers = c.receivers + 1 }) (insert xs i x) ys
  joined i x fresh low = record {
    counted = a.counted;
    receivers = let more = len-new xs i x fresh in omega (arith, more, a.receivers);
    cursors = by_put xs i x (λ r p. (z : Listener) → p ≡ Some z → z.cursor ≤ c.tail) (λ z is. subst (λ (z : Listener). z.cursor ≤ c.tail) (inside is) low) (λ r apart z is. a.cursors r z is);
    hears = λ f y is. let it = a.hears f y is in record { x = it.x; there = get-other xs i y.receiver x (λ same. absurd (let none = ap (get xs) (sym same) ∙ fresh in let no = sym none ∙ it.there in cc)) ∙ it.there; user = it.user; awake = it.awake };
    silent = a.silent;
  }

  -- ---- a receiver that no future uses
  module _ (r : ℕ) (x : Listener) (there : get xs r ≡ Some x) (free : x.user ≡ None) where
    unused : (f : ℕ) (y : Hearing) → get ys f ≡ Some y → r ≡ y.receiver → ⊥
    unused f y is same = absurd (let it = a.hears f y is in let mine : x ≡ it.x = inside (sym there ∙ ap (get xs) same ∙ it.there) in let clash = sym free ∙ ap (λ (x : Listener). x.user) mine ∙ it.user in cc)

    -- it goes on
    pub moved : (z : Listener) → z.cursor ≤ c.tail → AreHeard c (insert xs r z) ys
    moved z low = record {
      counted = a.counted;
      receivers = let same = len-over xs r z x there in omega (arith, same, a.receivers);
      cursors = by_put xs r z (λ q p. (u : Listener) → p ≡ Some u → u.cursor ≤ c.tail) (λ u is. subst (λ (u : Listener). u.cursor ≤ c.tail) (inside is) low) (λ q apart u is. a.cursors q u is);
      hears = λ f y is. let it = a.hears f y is in record { x = it.x; there = get-other xs r y.receiver z (unused f y is) ∙ it.there; user = it.user; awake = it.awake };
      silent = a.silent;
    }

    -- it is gone
    pub receiver_less : AreHeard (record c { receivers = c.receivers - 1 }) (remove xs r) ys
    receiver_less = record {
      counted = a.counted;
      receivers = let less = len-gone xs r x there in omega (arith, less, a.receivers);
      cursors = λ q u is. a.cursors q u (removed_there xs r q u is);
      hears = λ f y is. let it = a.hears f y is in record { x = it.x; there = get-removed_other xs r y.receiver (unused f y is) ∙ it.there; user = it.user; awake = it.awake };
      silent = a.silent;
    }

    -- a future uses it
    pub lent : (i : ℕ) (y : Hearing) → y.receiver ≡ r → ((w : ℕ) → waker_for c.waiting i ≡ Some w → ⊥) → AreHeard c (insert xs r (record x { user = Some i })) (insert ys i y)
    lent i y of new = record {
      counted = a.counted;
      receivers = let same = len-over xs r (record x { user = Some i }) x there in omega (arith, same, a.receivers);
      cursors = by_put xs r (record x { user = Some i }) (λ q p. (u : Listener) → p ≡ Some u → u.cursor ≤ c.tail) (λ u is. subst (λ (u : Listener). u.cursor ≤ c.tail) (inside is) (a.cursors r x there)) (λ q apart u is. a.cursors q u is);
      hears = by_put ys i y (λ f p. (z : Hearing) → p ≡ Some z → Hears c (insert xs r (record x { user = Some i })) f z)
          (λ z is. subst (λ (z : Hearing). Hears c (insert xs r (record x { user = Some i })) i z) (inside is) (record { x = record x { user = Some i }; there = ap (get (insert xs r (record x { user = Some i }))) of ∙ get-there xs r (record x { user = Some i }); user = refl; awake = λ w waiting. absurd (new w waiting) }))
          (λ f apart z is. let it = a.hears f z is in record { x = it.x; there = get-other xs r z.receiver (record x { user = Some i }) (unused f z is) ∙ it.there; user = it.user; awake = it.awake });
      silent = a.silent;
    }

  -- ---- a future
  module _ (f : ℕ) (y : Hearing) (future : get ys f ≡ Some y) where
    abbrev its : Hears c xs f y
    its = a.hears f y future

    -- another future has another receiver
    apart_receivers : (g : ℕ) (z : Hearing) → get ys g ≡ Some z → (f ≡ g → ⊥) → y.receiver ≡ z.receiver → ⊥
    apart_receivers g z is apart same = absurd (apart (
        let it = a.hears g z is in
        let mine : its.x ≡ it.x = inside (sym its.there ∙ ap (get xs) same ∙ it.there) in
        inside (sym its.user ∙ ap (λ (x : Listener). x.user) mine ∙ it.user)))

    -- it is gone, and its receiver is free
    pub freed : (z : Listener) → z.cursor ≤ c.tail → AreHeard c (insert xs y.receiver z) (remove ys f)
    freed z low = record {
      counted = a.counted;
      receivers = let same = len-over xs y.receiver z its.x its.there in omega (arith, same, a.receivers);
      cursors = by_put xs y.receiver z (λ q p. (u : Listener) → p ≡ Some u → u.cursor ≤ c.tail) (λ u is. subst (λ (u : Listener). u.cursor ≤ c.tail) (inside is) low) (λ q apart u is. a.cursors q u is);
      hears = by_gone ys f (λ g p. (u : Hearing) → p ≡ Some u → Hears c (insert xs y.receiver z) g u) (λ u is. absurd (cc))
          (λ g apart u is. let it = a.hears g u is in record { x = it.x; there = get-other xs y.receiver u.receiver z (apart_receivers g u is apart) ∙ it.there; user = it.user; awake = it.awake });
      silent = a.silent;
    }

    -- it waits
    pub waits_now : (w : ℕ) → its.x.cursor ≡ c.tail → 0 < c.senders → AreHeard (record c { waiting = registering c.waiting f w }) xs ys
    waits_now w reached some = record {
      counted = a.counted;
      receivers = a.receivers;
      cursors = a.cursors;
      hears = λ g z is. by_name f g
          (λ same. let it = a.hears g z is in let mine : its.x ≡ it.x = inside (sym its.there ∙ ap (λ (u : Hearing). get xs u.receiver) (inside (sym future ∙ ap (get ys) same ∙ is)) ∙ it.there) in
          record { x = it.x; there = it.there; user = it.user; awake = λ v waiting. (ap (λ (x : Listener). x.cursor) (sym mine) ∙ reached, some) })
          (λ apart. let it = a.hears g z is in record { x = it.x; there = it.there; user = it.user; awake = λ v waiting. it.awake v (sym (registering-other c.waiting f w g apart) ∙ waiting) });
      silent = λ none. absurd (omega (arith, none, some));
    }

  -- ---- none is left
  pub nobody : c.receivers ≡ 0 → (f : ℕ) (y : Hearing) → get ys f ≡ Some y → ⊥
  nobody none f y is = absurd (let it = a.hears f y is in let some = len-some xs y.receiver it.x it.there in omega (arith, none, some, a.receivers))

-- a new channel
pub new_heard : (size i : ℕ) (x : Listener) → x.cursor ≡ 0 → AreHeard (new_broadcast size) (insert empty i x) empty
new_heard size i x low = record {
  counted = omega arith;
  receivers = let one = len-new (empty {X = Listener} {R = nat_cmp}) i x (get-empty nat_cmp i) in omega (arith, one, len-empty nat_cmp Listener);
  cursors = by_put empty i x (λ r p. (z : Listener) → p ≡ Some z → z.cursor ≤ 0) (λ z is. let same = ap (λ (z : Listener). z.cursor) (inside is) in omega (arith, same, low)) (λ r apart z is. absurd (let none = get-empty {X = Listener} nat_cmp r in cc));
  hears = λ f y is. absurd (let none = get-empty {X = Hearing} nat_cmp f in cc);
  silent = λ none. refl;
}
