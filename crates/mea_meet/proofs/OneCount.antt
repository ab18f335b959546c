-- one point that counts, as it is kept with its futures, holders and senders: what each change of it keeps
use Rattle.std.proofs.Common.{◌≡◌, ℕ, ◌+◌, ◌-◌, ◌≤◌, ◌==◌, Bool, true, false, cond, [], Option, Some, None, if◌then◌else◌, refl, ap, sym, subst, ◌∙◌, arith}
use Rattle.std.specs.Ordering.{nat_cmp}
use Rattle.std.specs.FinMap.{get, insert, remove, empty, len, get-empty, len-empty}
use Rattle.mea_base.proofs.Maps.{by_put, inside, removed_there, nothing_at}
use Rattle.mea_base.proofs.Totals.{total-empty}
use Rattle.mea_by_name.specs.declared.named_waker.NamedWaker.{NamedWaker}
use Rattle.mea_by_name.specs.ByName.{Names}
use Rattle.mea_by_name.specs.NamedQueue.{registering}
use Rattle.mea_by_name.proofs.Own.{seen-at, seen-empty, seen-insert, seen-remove, insert_same, len-new, len-over, len-gone, len-some, count-new, count-gone, count-over}
use Rattle.mea_sets.specs.declared.place.Place.{Place}
use Rattle.mea_sets.specs.WaitSet.{Registered, has_given, with_waker, slot_after}
use Rattle.mea_sets.specs.Countdown as cores
use Rattle.mea_cores_by_name.specs.SetLinked.{SetLinked, set_names}
use Rattle.mea_cores_by_name.proofs.Sets.{registered_links, registered_names, drained_links, begun_links, gone_links, linked_later}
use Rattle.mea_meet_model.specs.Counts.{New, End, OfSignal, OfMembers, borrows}
use Rattle.mea_meet_model.specs.Counts as model
use Rattle.mea_meet.specs.declared.holder_entry.HolderEntry.{HolderEntry}
use Rattle.mea_meet.specs.declared.wait_entry.WaitEntry.{WaitEntry}
use Rattle.mea_meet.specs.declared.count_wait.CountWait.{CountWait}
use Rattle.mea_meet.specs.declared.count_wait.CountWait.TheVariants as waits
use Rattle.mea_meet.specs.CountCores.{point_from, arrived, joined, parted, handed_on, count_at, with_count}
use Rattle.mea_meet.specs.CountWaits.{end_of, slot_of, with_slot, slot_at, awaits_of}
use Rattle.mea_meet.specs.CountEntries.{KeptPoint}
use Rattle.mea_meet.specs.CountParts.{AreKept, slots_at, borrowers_in}

-- a new set, that no future waits in
pub fresh_linked : (n : ℕ) → SetLinked (record { wakers = []; drains = 0 }) empty n
fresh_linked n = record { each = λ f slot there. absurd (nothing_at (Option Place) f slot there); below = tt }

decreased_linked : (c : cores.Count NamedWaker) (m n : ℕ) (slots : Names (Option Place)) → SetLinked c.waiting slots n → SetLinked (cores.decreased c m).waiting slots n
decreased_linked c m n slots linked = elim (cores.ends c m) as (λ b. SetLinked (if b then record { wakers = []; drains = c.waiting.drains + 1 } else c.waiting) slots n) [ true ↦ drained_links c.waiting slots n linked | false ↦ linked ]

-- ---- places
new_slot : (x : CountWait) → slot_of x ≡ None → (d : End) → slot_at d x ≡ None
new_slot (waits.Signal slot borrowed) none OfSignal = none
new_slot (waits.Signal slot borrowed) none OfMembers = refl
new_slot (waits.Members slot) none OfSignal = refl
new_slot (waits.Members slot) none OfMembers = none

pub slot_there : (x : CountWait) → slot_at (end_of x) x ≡ slot_of x
slot_there (waits.Signal slot borrowed) = refl
slot_there (waits.Members slot) = refl

pub awaits_same : (x : CountWait) (s : Option Place) → awaits_of (with_slot x s) ≡ awaits_of x
awaits_same (waits.Signal slot borrowed) s = refl
awaits_same (waits.Members slot) s = refl

-- ---- borrowers
pub borrows_plain : (plain : Bool) (j k : ℕ) → ◌≡◌ {A = ℕ} (cond (borrows (model.Signal (cond plain (Some j) None)) k) 1 0) (cond (j == k) (cond plain 1 0) 0)
borrows_plain true j k = refl
borrows_plain false j k = elim (j == k) as (λ b. ◌≡◌ {A = ℕ} 0 (cond b 0 0)) [ true ↦ refl | false ↦ refl ]

module _ (e : KeptPoint) (ws : Names WaitEntry) (hs : Names HolderEntry) (ss : Names ℕ) (n i : ℕ) (a : AreKept e ws hs ss n) where
  pub lasts : n ≤ i → AreKept e ws hs ss i
  lasts later = record { linked = λ d. linked_later (count_at d e.point).waiting (slots_at d ws) n i (a.linked d) later; quiet = a.quiet; things = a.things; few = let few = a.few in omega (arith, few, later); borrowers = a.borrowers }

  module _ (later : n ≤ i) where
    still : (d : End) → SetLinked (count_at d e.point).waiting (slots_at d ws) (i + 1)
    still d = linked_later (count_at d e.point).waiting (slots_at d ws) n (i + 1) (a.linked d) (omega (arith, later))

    few_more : e.things + 1 ≤ i + 1 + 1
    few_more = let few = a.few in omega (arith, few, later)

    pub arrives : (m : ℕ) → AreKept (record e { point = handed_on (arrived e.point m) }) ws hs ss (i + 1)
    arrives m = record { linked = at; quiet = refl; things = a.things; few = let few = few_more in omega (arith, few); borrowers = a.borrowers }
      where
        at : (d : End) → SetLinked (count_at d (handed_on (arrived e.point m))).waiting (slots_at d ws) (i + 1)
        at OfSignal = decreased_linked e.point.signal m (i + 1) (slots_at OfSignal ws) (still OfSignal)
        at OfMembers = still OfMembers

    joined_linked : (b : Bool) (d : End) → SetLinked (count_at d (joined e.point b)).waiting (slots_at d ws) (i + 1)
    joined_linked b OfSignal = still OfSignal
    joined_linked true OfMembers = still OfMembers
    joined_linked false OfMembers = still OfMembers

    parted_linked : (b : Bool) (d : End) → SetLinked (count_at d (handed_on (parted e.point b))).waiting (slots_at d ws) (i + 1)
    parted_linked true OfSignal = still OfSignal
    parted_linked false OfSignal = still OfSignal
    parted_linked true OfMembers = decreased_linked e.point.receivers 1 (i + 1) (slots_at OfMembers ws) (still OfMembers)
    parted_linked false OfMembers = still OfMembers

    joined_quiet : (b : Bool) → (joined e.point b).wakes ≡ []
    joined_quiet true = a.quiet
    joined_quiet false = a.quiet

    -- a holder more, of a new name, and one less
    pub joins : (z : HolderEntry) → z.borrowers ≡ 0 → get hs i ≡ None → borrowers_in i ws ≡ 0 → (b : Bool) → AreKept (record { point = joined e.point b; things = e.things + 1 }) ws (insert hs i z) ss (i + 1)
    joins z none fresh nobody b = record {
      linked = joined_linked b;
      quiet = joined_quiet b;
      things = let all = a.things in let more = len-new hs i z fresh in omega (arith, all, more);
      few = few_more;
      borrowers = by_put hs i z (λ k p. (x : HolderEntry) → p ≡ Some x → x.borrowers ≡ borrowers_in k ws) (λ x is. ap (λ (x : HolderEntry). x.borrowers) (sym (inside is)) ∙ none ∙ sym nobody) (λ k apart x is. a.borrowers k x is);
    }

    pub parts : (k : ℕ) (z : HolderEntry) → get hs k ≡ Some z → (b : Bool) → AreKept (record { point = handed_on (parted e.point b); things = e.things - 1 }) ws (remove hs k) ss (i + 1)
    parts k z there b = record {
      linked = parted_linked b;
      quiet = refl;
      things = let all = a.things in let less = len-gone hs k z there in let some = len-some hs k z there in omega (arith, all, less, some);
      few = let few = few_more in omega (arith, few);
      borrowers = λ j x is. a.borrowers j x (removed_there hs k j x is);
    }

    -- a sender more, of a new name, and one less
    pub sends : (o : ℕ) → get ss i ≡ None → AreKept (record e { things = e.things + 1 }) ws hs (insert ss i o) (i + 1)
    sends o fresh = record { linked = still; quiet = a.quiet; things = let all = a.things in let more = len-new ss i o fresh in omega (arith, all, more); few = few_more; borrowers = a.borrowers }

    pub sends_less : (k o : ℕ) → get ss k ≡ Some o → AreKept (record e { things = e.things - 1 }) ws hs (remove ss k) (i + 1)
    sends_less k o there = record {
      linked = still;
      quiet = a.quiet;
      things = let all = a.things in let less = len-gone ss k o there in let some = len-some ss k o there in omega (arith, all, less, some);
      few = let few = few_more in omega (arith, few);
      borrowers = a.borrowers;
    }

    -- a future more, which was never polled
    module _ (y : WaitEntry) (new : slot_of y.wait ≡ None) (fresh : get ws i ≡ None) where
      begun_linked : (s : Registered NamedWaker) (d : End) → SetLinked s (slots_at d ws) n → SetLinked s (slots_at d (insert ws i y)) (i + 1)
      begun_linked s d linked = subst (λ m. SetLinked s m (i + 1)) (sym (seen-insert (λ (y : WaitEntry). slot_at d y.wait) ws i y ∙ ap (insert (slots_at d ws) i) (new_slot y.wait new d))) (begun_links s (slots_at d ws) n i linked later)

      pub begins : (hs' : Names HolderEntry) → len hs' ≡ len hs → ((k : ℕ) (z : HolderEntry) → get hs' k ≡ Some z → z.borrowers ≡ borrowers_in k ws + cond (borrows (awaits_of y.wait) k) 1 0) → AreKept (record e { things = e.things + 1 }) (insert ws i y) hs' ss (i + 1)
      begins hs' same lent = record {
        linked = λ d. begun_linked (count_at d e.point).waiting d (a.linked d);
        quiet = a.quiet;
        things = let all = a.things in let more = len-new ws i y fresh in omega (arith, all, more, same);
        few = few_more;
        borrowers = λ k z is. lent k z is ∙ sym (count-new ws i (λ (y : WaitEntry). borrows (awaits_of y.wait) k) y fresh);
      }

      -- a holder or a sender becomes a future, which borrows nothing
      module _ (none : (k : ℕ) → borrows (awaits_of y.wait) k ≡ false) where
        none_more : (k : ℕ) → borrowers_in k (insert ws i y) ≡ borrowers_in k ws
        none_more k =
            let more = count-new ws i (λ (y : WaitEntry). borrows (awaits_of y.wait) k) y fresh in
            let nothing : ◌≡◌ {A = ℕ} (cond (borrows (awaits_of y.wait) k) 1 0) 0 = ap (λ b. cond b 1 0) (none k) in
            omega (arith, more, nothing)

        pub goes_over : (k : ℕ) (z : HolderEntry) → get hs k ≡ Some z → (b : Bool) → AreKept (record e { point = handed_on (parted e.point b) }) (insert ws i y) (remove hs k) ss (i + 1)
        goes_over k z there b = record {
          linked = at b;
          quiet = refl;
          things = let all = a.things in let more = len-new ws i y fresh in let less = len-gone hs k z there in let some = len-some hs k z there in omega (arith, all, more, less, some);
          few = let few = few_more in omega (arith, few);
          borrowers = λ j x is. a.borrowers j x (removed_there hs k j x is) ∙ sym (none_more j);
        }
          where
            at : (b : Bool) (d : End) → SetLinked (count_at d (handed_on (parted e.point b))).waiting (slots_at d (insert ws i y)) (i + 1)
            at true OfSignal = begun_linked e.point.signal.waiting OfSignal (a.linked OfSignal)
            at false OfSignal = begun_linked e.point.signal.waiting OfSignal (a.linked OfSignal)
            at true OfMembers = decreased_linked e.point.receivers 1 (i + 1) (slots_at OfMembers (insert ws i y)) (begun_linked e.point.receivers.waiting OfMembers (a.linked OfMembers))
            at false OfMembers = begun_linked e.point.receivers.waiting OfMembers (a.linked OfMembers)

        pub awaits : (k o : ℕ) → get ss k ≡ Some o → AreKept e (insert ws i y) hs (remove ss k) (i + 1)
        awaits k o there = record {
          linked = λ d. begun_linked (count_at d e.point).waiting d (a.linked d);
          quiet = a.quiet;
          things = let all = a.things in let more = len-new ws i y fresh in let less = len-gone ss k o there in let some = len-some ss k o there in omega (arith, all, more, less, some);
          few = let few = few_more in omega (arith, few);
          borrowers = λ j x is. a.borrowers j x is ∙ sym (none_more j);
        }

    -- by a future
    module _ (f : ℕ) (y : WaitEntry) (there : get ws f ≡ Some y) where
      pub leaves : (hs' : Names HolderEntry) → len hs' ≡ len hs → ((k : ℕ) (z : HolderEntry) → get hs' k ≡ Some z → z.borrowers + cond (borrows (awaits_of y.wait) k) 1 0 ≡ borrowers_in k ws) → AreKept (record e { things = e.things - 1 }) (remove ws f) hs' ss (i + 1)
      leaves hs' same back = record {
        linked = λ d. linked_later (count_at d e.point).waiting (slots_at d (remove ws f)) n (i + 1)
            (subst (λ m. SetLinked (count_at d e.point).waiting m n) (sym (seen-remove (λ (y : WaitEntry). slot_at d y.wait) ws f)) (gone_links (count_at d e.point).waiting (slots_at d ws) n f (a.linked d))) (omega (arith, later));
        quiet = a.quiet;
        things = let all = a.things in let less = len-gone ws f y there in let some = len-some ws f y there in omega (arith, all, less, some, same);
        few = let few = few_more in omega (arith, few);
        borrowers = λ k z is. let less = count-gone ws f (λ (y : WaitEntry). borrows (awaits_of y.wait) k) y there in let mine = back k z is in omega (arith, less, mine);
      }

      slot_known : get (slots_at (end_of y.wait) ws) f ≡ Some (slot_of y.wait)
      slot_known = seen-at (λ (x : WaitEntry). slot_at (end_of y.wait) x.wait) ws f y there ∙ ap (λ s. Some s) (slot_there y.wait)

      pub names_now : (w : ℕ) → set_names (with_waker (count_at (end_of y.wait) e.point).waiting (slot_of y.wait) (record { name = f; waker = w })) ≡ registering (set_names (count_at (end_of y.wait) e.point).waiting) f w
      names_now w = registered_names (count_at (end_of y.wait) e.point).waiting (slots_at (end_of y.wait) ws) n f w (slot_of y.wait) (a.linked (end_of y.wait)) slot_known

      pub given : has_given (count_at (end_of y.wait) e.point).waiting (slot_of y.wait) ≡ true
      given = (((a.linked (end_of y.wait)).each f (slot_of y.wait) slot_known).1).given

      -- its waker is registered
      pub waits_on : (w : ℕ) (x' : CountWait) → x' ≡ with_slot y.wait (slot_after (count_at (end_of y.wait) e.point).waiting (slot_of y.wait))
          → AreKept (record e { point = with_count (end_of y.wait) e.point (record (count_at (end_of y.wait) e.point) { waiting = with_waker (count_at (end_of y.wait) e.point).waiting (slot_of y.wait) (record { name = f; waker = w }) }) }) (insert ws f (record y { wait = x' })) hs ss (i + 1)
      waits_on w x' is = rw is (record {
        linked = at y.wait refl;
        quiet = quiet_at (end_of y.wait);
        things = let all = a.things in let same = len-over ws f now y there in omega (arith, all, same);
        few = let few = few_more in omega (arith, few);
        borrowers = λ k z has. a.borrowers k z has ∙ sym (count-over ws f (λ (y : WaitEntry). borrows (awaits_of y.wait) k) now y there (ap (λ a. borrows a k) (awaits_same y.wait (slot_after (count_at (end_of y.wait) e.point).waiting (slot_of y.wait)))));
      })
        where
          now : WaitEntry
          now = record y { wait = with_slot y.wait (slot_after (count_at (end_of y.wait) e.point).waiting (slot_of y.wait)) }

          quiet_at : (d : End) → (with_count d e.point (record (count_at d e.point) { waiting = with_waker (count_at d e.point).waiting (slot_of y.wait) (record { name = f; waker = w }) })).wakes ≡ []
          quiet_at OfSignal = a.quiet
          quiet_at OfMembers = a.quiet

          at : (x : CountWait) → y.wait ≡ x → (d : End) → SetLinked (count_at d (with_count (end_of x) e.point (record (count_at (end_of x) e.point) { waiting = with_waker (count_at (end_of x) e.point).waiting (slot_of x) (record { name = f; waker = w }) }))).waiting
              (slots_at d (insert ws f (record y { wait = with_slot x (slot_after (count_at (end_of x) e.point).waiting (slot_of x)) }))) (i + 1)
          at (waits.Signal slot borrowed) mine OfSignal = subst (λ m. SetLinked (with_waker e.point.signal.waiting slot (record { name = f; waker = w })) m (i + 1)) (sym (seen-insert (λ (y : WaitEntry). slot_at OfSignal y.wait) ws f _))
              (linked_later _ _ n (i + 1) (registered_links e.point.signal.waiting (slots_at OfSignal ws) n f w slot (a.linked OfSignal) (seen-at (λ (x : WaitEntry). slot_at OfSignal x.wait) ws f y there ∙ ap (λ x. Some (slot_at OfSignal x)) mine)) (omega (arith, later)))
          at (waits.Signal slot borrowed) mine OfMembers = subst (λ m. SetLinked e.point.receivers.waiting m (i + 1)) (sym (seen-insert (λ (y : WaitEntry). slot_at OfMembers y.wait) ws f _
              ∙ insert_same (slots_at OfMembers ws) f None (seen-at (λ (x : WaitEntry). slot_at OfMembers x.wait) ws f y there ∙ ap (λ x. Some (slot_at OfMembers x)) mine))) (still OfMembers)
          at (waits.Members slot) mine OfMembers = subst (λ m. SetLinked (with_waker e.point.receivers.waiting slot (record { name = f; waker = w })) m (i + 1)) (sym (seen-insert (λ (y : WaitEntry). slot_at OfMembers y.wait) ws f _))
              (linked_later _ _ n (i + 1) (registered_links e.point.receivers.waiting (slots_at OfMembers ws) n f w slot (a.linked OfMembers) (seen-at (λ (x : WaitEntry). slot_at OfMembers x.wait) ws f y there ∙ ap (λ x. Some (slot_at OfMembers x)) mine)) (omega (arith, later)))
          at (waits.Members slot) mine OfSignal = subst (λ m. SetLinked e.point.signal.waiting m (i + 1)) (sym (seen-insert (λ (y : WaitEntry). slot_at OfSignal y.wait) ws f _
              ∙ insert_same (slots_at OfSignal ws) f None (seen-at (λ (x : WaitEntry). slot_at OfSignal x.wait) ws f y there ∙ ap (λ x. Some (slot_at OfSignal x)) mine))) (still OfSignal)

-- a new point with its first holder, and with a sender or none
pub new_kept : (new : New) (i things : ℕ) (z : HolderEntry) → z.borrowers ≡ 0 → (ss : Names ℕ) → things ≡ len ss + 1 → things ≤ 2 → AreKept (record { point = point_from new; things = things }) empty (insert empty i z) ss (i + 1)
new_kept new i things z none ss all few = record {
  linked = at;
  quiet = refl;
  things = let one = len-new (empty {X = HolderEntry} {R = nat_cmp}) i z (get-empty nat_cmp i) in let nobody = len-empty nat_cmp HolderEntry in let nothing = len-empty nat_cmp WaitEntry in omega (arith, all, one, nobody, nothing);
  few = omega (arith, few);
  borrowers = by_put empty i z (λ k p. (x : HolderEntry) → p ≡ Some x → x.borrowers ≡ borrowers_in k empty)
      (λ x is. ap (λ (x : HolderEntry). x.borrowers) (sym (inside is)) ∙ none ∙ sym (total-empty (λ f (y : WaitEntry). cond (borrows (awaits_of y.wait) i) 1 0))) (λ k apart x is. absurd (nothing_at HolderEntry k x is));
}
  where
    at : (d : End) → SetLinked (count_at d (point_from new)).waiting (slots_at d empty) (i + 1)
    at OfSignal = subst (λ m. SetLinked (record { wakers = []; drains = 0 }) m (i + 1)) (sym (seen-empty (λ (y : WaitEntry). slot_at OfSignal y.wait))) (fresh_linked (i + 1))
    at OfMembers = subst (λ m. SetLinked (record { wakers = []; drains = 0 }) m (i + 1)) (sym (seen-empty (λ (y : WaitEntry). slot_at OfMembers y.wait))) (fresh_linked (i + 1))
