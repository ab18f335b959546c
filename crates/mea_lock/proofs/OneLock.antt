-- one lock with its futures and guards: what each event leaves of it
use Rattle.std.proofs.Common.{◌≡◌, ℕ, ◌+◌, ◌-◌, ◌<◌, ◌≤◌, ◌++◌, ◌⊎◌, inl, inr, Bool, true, false, cond, length, List, [], ◌∷◌, map, nat_lt, sum_by, Option, Some, None, is_some, Ok, refl, ap, sym, subst, ◌∙◌, arith}
use Rattle.std.specs.FinMap.{get, insert, remove, empty, entries, values, get-empty, len-empty, len-entries}
use Rattle.std.specs.Ordering.{nat_cmp}
use Rattle.mea_base.proofs.NamedMaps.{same_named}
use Rattle.std.proofs.lemmas.Bool.{cases_lt}
use Rattle.std.proofs.lemmas.Bool.Decides.{nat_tests}
use Rattle.mea_base.specs.Totals.{weight}
use Rattle.mea_base.specs.declared.turn.Turn.TheVariants.{Ready, Pending}
use Rattle.mea_base.proofs.Maps.{by_put, removed_there, nothing_at, total-has, get-removed_other}
use Rattle.mea_base.proofs.Totals.{total-empty, total-insert, total-remove}
use Rattle.mea_by_name.specs.declared.named_waker.NamedWaker.{NamedWaker}
use Rattle.mea_by_name.specs.ByName.{Names}
use Rattle.mea_by_name.specs.NamedQueue.{waits}
use Rattle.mea_by_name.specs.LackingQueue.{who, lack_for, rewoken, leaving, woken_by}
use Rattle.mea_by_name.proofs.Own.{seen-at, seen-none, seen-back, seen-insert, seen-remove, seen-empty, len-new, len-gone, len-over, len-some, count-least, insert_same, count-new, count-gone, count-over}
use Rattle.mea_sem_core.specs.Acquire.{demand_of}
use Rattle.mea_sem_core.specs.declared.acquire.Acquire.{Acquire}
use Rattle.mea_sem_core.specs.declared.acquire.Acquire.TheVariants.{New, Queued, Done, Refused}
use Rattle.mea_sem_core.specs.Core.{Core, Waiter, Acquires, Owes, HasNoDebt, paid_to, poured, held_of, paid_of, waiting}
use Rattle.mea_sem_core.specs.Calls.{Belongs, Polls, Cancels, given_back, without_acquire}
use Rattle.mea_lock_core.specs.Lock.{IsUnready}
use Rattle.mea_lock_core.specs.RwLock.{IsSound, MayPoll, MayCancel, share_of, is_write}
use Rattle.mea_lock_core.specs.declared.rw_wait.RwWait.{RwWait}
use Rattle.mea_lock_core.specs.declared.rw_wait.RwWait.TheVariants.{Read, NewWrite, Write}
use Rattle.mea_lock_model.specs.Locks as model
use Rattle.mea_lock_model.specs.Locks.{taken_from}
use Rattle.mea_cores_by_name.specs.Linked.{names_in, AreOf, IsHome, Linked}
use Rattle.mea_cores_by_name.proofs.Linking.{IsUnqueued, unqueued_waits, linked_gone, linked_begun, linked_pushed, queued_waits, queued_lacks, queued_with, queued_without, linked_again, linked_taken, linked_left, push-names}
use Rattle.mea_lock.specs.declared.guard_entry.GuardEntry.{GuardEntry}
use Rattle.mea_lock.specs.Cores.{NamedLock, acquire_of, IsFreeFor, TakesLock, UnlocksLock, LowersLock, IsHeldAs}
use Rattle.mea_lock.specs.Entries.{KeptLock, KeptFuture, begun, finished, settled}
use Rattle.mea_lock.specs.Waits.{has_number, is_polled, IsNewWait}
use Rattle.mea_lock.specs.Parts.{lock_seen, acquires_of, held_by, held_in, IsHolder, WaitsWrite, AreKept, IsNewLock}
use Rattle.mea_cores_by_name.proofs.Poured.{queue_poured, woken_poured, poured_linked}
use Rattle.mea_lock.proofs.Pours.{no_debt_without, free_poured}

-- ---- waits and their acquires
-- an acquire that is home belongs to its core, and was not ready
home_belongs : (s : Core NamedWaker) (a : Acquire) → IsHome s.queue s.granted a → Belongs s a × IsUnready a
home_belongs s (New d) home = (tt, tt)
home_belongs s (Queued d n) home = (inl home, tt)
home_belongs s (Done d) home = absurd home
home_belongs s (Refused d) home = absurd home

may_poll_by : (l : NamedLock) (x : RwWait) → Belongs l.permits (acquire_of l.most x) × IsUnready (acquire_of l.most x) → demand_of (acquire_of l.most x) ≡ share_of l (is_write x) → MayPoll l x
may_poll_by l (Read a) is asks = (is.0, is.1, asks)
may_poll_by l NewWrite is asks = tt
may_poll_by l (Write a) is asks = (is.0, is.1, asks)

pub may_cancel_by : (l : NamedLock) (x : RwWait) → MayPoll l x → MayCancel l x
may_cancel_by l (Read a) may = may.0
may_cancel_by l NewWrite may = tt
may_cancel_by l (Write a) may = may.0

-- whether a wait was polled does not depend on its lock
pub polled-any : (x : RwWait) (m n : ℕ) → has_number (acquire_of m x) ≡ has_number (acquire_of n x)
polled-any (Read a) m n = refl
polled-any NewWrite m n = refl
polled-any (Write a) m n = refl

entries_empty : entries (empty {X = ℕ} {R = nat_cmp}) ≡ []
entries_empty = at (entries (empty {X = ℕ} {R = nat_cmp})) (sym (len-entries (empty {X = ℕ} {R = nat_cmp})) ∙ len-empty nat_cmp ℕ)
  where
    at : (es : List (ℕ × ℕ)) → length es ≡ 0 → es ≡ []
    at [] is = refl
    at (x ∷ es) is = absurd (omega arith)

-- the future of a wait that writes
write_put : (fs : Names KeptFuture) (f : ℕ) (y : KeptFuture) → WaitsWrite fs → (y.of_condvar ≡ true → is_write y.wait ≡ true) → WaitsWrite (insert fs f y)
write_put fs f y all mine = by_put fs f y (λ g o. (z : KeptFuture) → o ≡ Some z → z.of_condvar ≡ true → is_write z.wait ≡ true) (λ z is condvar. let same : y ≡ z = cc in
    ap (λ (x : KeptFuture). is_write x.wait) (sym same) ∙ mine (ap (λ (x : KeptFuture). x.of_condvar) same ∙ condvar)) (λ g apart z is condvar. all g z is condvar)

write_gone : (fs : Names KeptFuture) (f : ℕ) → WaitsWrite fs → WaitsWrite (remove fs f)
write_gone fs f all g z is condvar = all g z (removed_there fs f g z is) condvar

-- each share is at least one permit
share-least : (l : NamedLock) (write : Bool) → 0 < l.most → 1 ≤ share_of l write
share-least l true some = omega arith
share-least l false some = omega arith

module _ (e : KeptLock) (fs : Names KeptFuture) (gs : Names GuardEntry) (kept : AreKept e fs gs) where
  abbrev permits : Core NamedWaker
  permits = e.lock.permits

  abbrev acquires : Names Acquire
  acquires = acquires_of e.lock.most fs

  -- free, held and paid permits are all
  pub whole : permits.free + held_of permits + paid_of permits ≡ e.lock.most
  whole = kept.sound.permits.total ∙ kept.sound.all

  -- a number that was granted does not wait
  not_waiting : (n d : ℕ) → get permits.granted n ≡ Some d → waiting permits.queue n ≡ None
  not_waiting n d is = at (waiting permits.queue n) refl
    where
      at : (o : Option (ℕ × ℕ)) → waiting permits.queue n ≡ o → waiting permits.queue n ≡ None
      at None none = none
      at (Some p) some = absurd (let none = kept.sound.permits.granted_apart n (λ none. absurd (cc)) in cc)

  its : (f : ℕ) (x : KeptFuture) → get fs f ≡ Some x → get acquires f ≡ Some (acquire_of e.lock.most x.wait)
  its f x there = seen-at (λ (x : KeptFuture). acquire_of e.lock.most x.wait) fs f x there

  pub may_poll : (f : ℕ) (x : KeptFuture) → get fs f ≡ Some x → MayPoll e.lock x.wait
  may_poll f x there = may_poll_by e.lock x.wait (home_belongs permits (acquire_of e.lock.most x.wait) (kept.linked.home f _ (its f x there))) (kept.asks f x there)

  -- no more of its things are plain than there are
  pub plain_least : e.plain ≤ e.things
  plain_least = omega (arith, kept.plain, kept.things, count-least (λ (x : KeptFuture). x.plain) fs, count-least (λ (x : GuardEntry). x.plain) gs)

  -- what a guard has is held
  share_held : (k : ℕ) (g : GuardEntry) → get gs k ≡ Some g → share_of e.lock g.writes ≤ held_of permits
  share_held k g there = omega (arith, kept.held, total-has (λ k (g : GuardEntry). share_of e.lock g.writes) gs k g there)

  -- where nothing is held there is no guard
  no_guard_held : held_of permits ≡ 0 → (k : ℕ) (g : GuardEntry) → get gs k ≡ Some g → ⊥
  no_guard_held none k g there = absurd (omega (arith, none, share_held k g there, share-least e.lock g.writes kept.sound.some))

  -- ---- futures that hold it
  holder-share : (x : KeptFuture) → x.holds ≡ true → cond x.holds e.lock.most 0 ≡ e.lock.most
  holder-share x holds = ap (λ b. cond b e.lock.most 0) holds

  no-share : (x : KeptFuture) → x.holds ≡ false → cond x.holds e.lock.most 0 ≡ 0
  no-share x waits = ap (λ b. cond b e.lock.most 0) waits

  share_at : (f : ℕ) (x : KeptFuture) → get fs f ≡ Some x → weight (λ k (x : KeptFuture). cond x.holds e.lock.most 0) f (get fs f) ≡ cond x.holds e.lock.most 0
  share_at f x there = ap (weight (λ k (x : KeptFuture). cond x.holds e.lock.most 0) f) there

  no_share_at : (f : ℕ) → get fs f ≡ None → weight (λ k (x : KeptFuture). cond x.holds e.lock.most 0) f (get fs f) ≡ 0
  no_share_at f none = ap (weight (λ k (x : KeptFuture). cond x.holds e.lock.most 0) f) none

  -- what futures hold where one is put, or is gone
  held_in-put : (f : ℕ) (y : KeptFuture) → held_in e.lock (insert fs f y) + weight (λ k (x : KeptFuture). cond x.holds e.lock.most 0) f (get fs f) ≡ held_in e.lock fs + cond y.holds e.lock.most 0
  held_in-put f y = total-insert (λ k (x : KeptFuture). cond x.holds e.lock.most 0) fs f y

  held_in-gone : (f : ℕ) → held_in e.lock (remove fs f) + weight (λ k (x : KeptFuture). cond x.holds e.lock.most 0) f (get fs f) ≡ held_in e.lock fs
  held_in-gone f = total-remove (λ k (x : KeptFuture). cond x.holds e.lock.most 0) fs f

  -- none holds it where it may be taken, or where there is a guard
  none_holds : held_of permits ≡ 0 → (f : ℕ) (x : KeptFuture) → get fs f ≡ Some x → x.holds ≡ true → ⊥
  none_holds none f x there holds = absurd (omega (arith, none, kept.held, holder-share x holds, kept.sound.some, total-has (λ k (x : KeptFuture). cond x.holds e.lock.most 0) fs f x there))

  none_where_free : (w : Bool) → IsFreeFor w e.lock → (f : ℕ) (x : KeptFuture) → get fs f ≡ Some x → x.holds ≡ true → ⊥
  none_where_free true free f x there holds = none_holds free f x there holds
  none_where_free false reads f x there holds = absurd (let writes = (kept.holders f x there holds).writing in cc)

  none_beside : (k : ℕ) (g : GuardEntry) → get gs k ≡ Some g → (f : ℕ) (x : KeptFuture) → get fs f ≡ Some x → x.holds ≡ true → ⊥
  none_beside k g guard f x there holds = absurd (omega (
    arith,
    kept.held,
    kept.sound.alone (kept.holders f x there holds).writing,
    holder-share x holds,
    share-least e.lock g.writes kept.sound.some,
    total-has (λ k (g : GuardEntry). share_of e.lock g.writes) gs k g guard,
    total-has (λ k (x : KeptFuture). cond x.holds e.lock.most 0) fs f x there,
  ))

  pub guard_held : (k : ℕ) (g : GuardEntry) → get gs k ≡ Some g → IsHeldAs e.lock g.writes
  guard_held k g there = at g.writes (kept.writing k g there) (share_held k g there)
    where
      at : (w : Bool) → w ≡ e.lock.writing → share_of e.lock w ≤ held_of permits → IsHeldAs e.lock w
      at true is some = sym is
      at false is some = subst (λ b. 1 ≤ cond b 0 (held_of permits)) is some

  -- ---- its value is written, or its name ends
  pub revalued : (v : ℕ) (named : Bool) → AreKept (record e { lock = record e.lock { value = v }; named = named }) fs gs
  revalued v named = record {
    sound = record { permits = kept.sound.permits; some = kept.sound.some; all = kept.sound.all; no_debt = kept.sound.no_debt; is_open = kept.sound.is_open; alone = kept.sound.alone };
    linked = kept.linked;
    waits_write = kept.waits_write;
    asks = kept.asks;
    held = kept.held;
    holders = λ f x is holds. let it = kept.holders f x is holds in record { of_condvar = it.of_condvar; writes = it.writes; new = it.new; writing = it.writing };
    writing = kept.writing;
    quiet = kept.quiet;
    things = kept.things;
    plain = kept.plain;
  }

  -- ---- a future is made
  pub begins : (f : ℕ) (x : KeptFuture) (write : Bool) → get fs f ≡ None → x.of_condvar ≡ false → x.holds ≡ false → IsNewWait e.lock write x.wait → AreKept (begun e x.plain) (insert fs f x) gs
  begins f x write none alone waits new = record {
    sound = kept.sound;
    linked = rw (seen-insert (λ (x : KeptFuture). acquire_of e.lock.most x.wait) fs f x, new.acquire)
        (linked_begun permits.queue permits.granted acquires kept.linked f (rw (seen-none (λ (x : KeptFuture). acquire_of e.lock.most x.wait) fs f none) tt) (share_of e.lock write));
    waits_write = write_put fs f x kept.waits_write (λ condvar. absurd (cc));
    asks = by_put fs f x (λ f o. (y : KeptFuture) → o ≡ Some y → demand_of (acquire_of e.lock.most y.wait) ≡ share_of e.lock (is_write y.wait))
        (λ y is. let same : x ≡ y = cc in rw (← same) (ap demand_of new.acquire ∙ ap (share_of e.lock) (sym new.writes))) (λ f apart y is. kept.asks f y is);
    held = omega (arith, kept.held, no-share x waits, no_share_at f none, held_in-put f x);
    holders = by_put fs f x (λ f o. (y : KeptFuture) → o ≡ Some y → y.holds ≡ true → IsHolder e.lock y) (λ y is holds. absurd (let same : x ≡ y = cc in let no : y.holds ≡ false = ap (λ (x : KeptFuture). x.holds) (sym same) ∙ waits in cc))
        (λ f apart y is holds. kept.holders f y is holds);
    writing = kept.writing;
    quiet = kept.quiet;
    things = omega (arith, kept.things, len-new fs f x none);
    plain = omega (arith, kept.plain, count-new fs f (λ (x : KeptFuture). x.plain) x none);
  }

  -- ---- guards
  held-new : (k : ℕ) (g : GuardEntry) → get gs k ≡ None → held_by e.lock (insert gs k g) ≡ held_by e.lock gs + share_of e.lock g.writes
  held-new k g none =
      let here : weight (λ k (g : GuardEntry). share_of e.lock g.writes) k (get gs k) ≡ 0 = ap (weight (λ k (g : GuardEntry). share_of e.lock g.writes) k) none in
      omega (arith, here, total-insert (λ k (g : GuardEntry). share_of e.lock g.writes) gs k g)

  held-gone : (k : ℕ) (g : GuardEntry) → get gs k ≡ Some g → held_by e.lock (remove gs k) + share_of e.lock g.writes ≡ held_by e.lock gs
  held-gone k g there =
      let here : weight (λ k (g : GuardEntry). share_of e.lock g.writes) k (get gs k) ≡ share_of e.lock g.writes = ap (weight (λ k (g : GuardEntry). share_of e.lock g.writes) k) there in
      omega (arith, here, total-remove (λ k (g : GuardEntry). share_of e.lock g.writes) gs k)

  -- a guard that is let in writes as the lock says afterwards, and so do all others
  let_in : (k : ℕ) (g : GuardEntry) → IsFreeFor g.writes e.lock → (j : ℕ) (y : GuardEntry) → get (insert gs k g) j ≡ Some y → y.writes ≡ g.writes
  let_in k g alone = by_put gs k g (λ j o. (y : GuardEntry) → o ≡ Some y → y.writes ≡ g.writes) (λ y is. let same : g ≡ y = cc in ap (λ (y : GuardEntry). y.writes) (sym same)) (λ j apart y is. others j y is g.writes alone)
    where
      others : (j : ℕ) (y : GuardEntry) → get gs j ≡ Some y → (w : Bool) → IsFreeFor w e.lock → y.writes ≡ w
      others j y is true free = absurd (no_guard_held free j y is)
      others j y is false reads = kept.writing j y is ∙ reads

  -- the lock is taken by a try
  pub tries : (i : ℕ) (g : GuardEntry) (l : NamedLock) → get gs i ≡ None → TakesLock e.lock g.writes l
      → AreKept (begun (record e { lock = record e.lock { permits = record permits { free = permits.free - share_of e.lock g.writes }; writing = g.writes } }) g.plain) fs (insert gs i g)
  tries i g l none takes =
      let held = ap (λ (l : NamedLock). held_of l.permits) takes.lock in
      record {
        sound = rw takes.lock at takes.sound;
        linked = kept.linked;
        waits_write = kept.waits_write;
        asks = kept.asks;
        held = omega (arith, kept.held, held, takes.held, held-new i g none);
        holders = λ f x is holds. absurd (none_where_free g.writes takes.alone f x is holds);
        writing = let_in i g takes.alone;
        quiet = kept.quiet;
        things = omega (arith, kept.things, len-new gs i g none);
        plain = omega (arith, kept.plain, count-new gs i (λ (x : GuardEntry). x.plain) g none);
      }

  -- ---- a guard ends
  -- where a guard is gone, no other writes
  others_read : (k : ℕ) (g : GuardEntry) → get gs k ≡ Some g → (j : ℕ) (y : GuardEntry) → get (remove gs k) j ≡ Some y → y.writes ≡ false
  others_read k g there j y is = at g.writes refl
    where
      others : g.writes ≡ true → y.writes ≡ false
      others writes =
          let all = kept.sound.alone (sym (kept.writing k g there) ∙ writes) in
          let mine : share_of e.lock g.writes ≡ e.lock.most = ap (share_of e.lock) writes in
          absurd (omega (arith, all, mine, kept.held, held-gone k g there, share-least e.lock y.writes kept.sound.some, total-has (λ k (g : GuardEntry). share_of e.lock g.writes) (remove gs k) j y is))

      at : (w : Bool) → g.writes ≡ w → y.writes ≡ false
      at true writes = others writes
      at false reads = kept.writing j y (removed_there gs k j y is) ∙ sym (kept.writing k g there) ∙ reads

  -- the lock gave back n permits, and nobody writes
  abbrev pub gave_back : ℕ → KeptLock
  gave_back n = record e { lock = settled (record e.lock { permits = given_back permits n; writing = false }) }

  module _ (n : ℕ) where
    abbrev given : Core NamedWaker
    given = record permits { live = permits.live - n }

    pub given_seen : lock_seen (gave_back n) ≡ model.poured (lock_seen e) n
    given_seen = λ i. record {
      value = e.lock.value;
      most = e.lock.most;
      free = free_poured given (given_back permits n) n kept.quiet refl kept.sound.no_debt i;
      queue = queue_poured given (given_back permits n) n kept.quiet refl kept.sound.no_debt i;
      named = e.named;
    }

    pub given_woken : map (λ (k : NamedWaker). k.waker) (given_back permits n).wakes ≡ woken_by (names_in permits.queue) n
    given_woken = woken_poured given (given_back permits n) n kept.quiet refl kept.sound.no_debt

    given_linked : Linked (given_back permits n).queue (given_back permits n).granted acquires
    given_linked = poured_linked given (given_back permits n) n kept.quiet refl kept.sound.no_debt acquires kept.linked

  -- wakers that were handed on are not looked at
  sound_settled : (l : NamedLock) → IsSound l → IsSound (settled l)
  sound_settled l sound = record {
    permits = record { apart = sound.permits.apart; granted_apart = sound.permits.granted_apart; cut_apart = sound.permits.cut_apart; closing = sound.permits.closing; few = sound.permits.few; lacking = sound.permits.lacking; debts_first = sound.permits.debts_first; idle = sound.permits.idle; total = sound.permits.total; fits = sound.permits.fits };
    some = sound.some;
    all = sound.all;
    no_debt = sound.no_debt;
    is_open = sound.is_open;
    alone = sound.alone;
  }

  pub unlocks : (k : ℕ) (g : GuardEntry) (l : NamedLock) → get gs k ≡ Some g → UnlocksLock e.lock g.writes l → AreKept (finished (gave_back (share_of e.lock g.writes)) g.plain) fs (remove gs k)
  unlocks k g l there given =
      let held = ap (λ (l : NamedLock). held_of l.permits) given.lock in
      record {
        sound = sound_settled _ (rw given.lock at given.sound);
        linked = given_linked (share_of e.lock g.writes);
        waits_write = kept.waits_write;
        asks = kept.asks;
        held = omega (arith, kept.held, held, given.held, held-gone k g there);
        holders = λ f x is holds. absurd (none_beside k g there f x is holds);
        writing = others_read k g there;
        quiet = refl;
        things = omega (arith, kept.things, len-some gs k g there, len-gone gs k g there);
        plain = omega (arith, kept.plain, count-gone gs k (λ (x : GuardEntry). x.plain) g there);
      }

  -- ---- a guard reads from now on
  pub lowers : (k : ℕ) (g : GuardEntry) (l : NamedLock) → get gs k ≡ Some g → g.writes ≡ true → LowersLock e.lock l → AreKept (gave_back (e.lock.most - 1)) fs (insert gs k (record g { writes = false }))
  lowers k g l there writes given =
      let held = ap (λ (l : NamedLock). held_of l.permits) given.lock in
      let all = kept.sound.alone (sym (kept.writing k g there) ∙ writes) in
      let mine : share_of e.lock g.writes ≡ e.lock.most = ap (share_of e.lock) writes in
      let here : weight (λ k (g : GuardEntry). share_of e.lock g.writes) k (get gs k) ≡ share_of e.lock g.writes = ap (weight (λ k (g : GuardEntry). share_of e.lock g.writes) k) there in
      record {
        sound = sound_settled _ (rw given.lock at given.sound);
        linked = given_linked (e.lock.most - 1);
        waits_write = kept.waits_write;
        asks = kept.asks;
        held = omega (arith, kept.held, held, given.held, all, mine, here, total-insert (λ k (g : GuardEntry). share_of e.lock g.writes) gs k (record g { writes = false }));
        holders = λ f x is holds. absurd (none_beside k g there f x is holds);
        writing = by_put gs k (record g { writes = false }) (λ j o. (y : GuardEntry) → o ≡ Some y → y.writes ≡ false)
            (λ y is. let same : record g { writes = false } ≡ y = cc in ap (λ (y : GuardEntry). y.writes) (sym same))
            (λ j apart y is. others_read k g there j y (rw (get-removed_other gs k j apart) is));
        quiet = refl;
        things = omega (arith, kept.things, len-over gs k (record g { writes = false }) g there);
        plain = omega (arith, kept.plain, count-over gs k (λ (x : GuardEntry). x.plain) (record g { writes = false }) g there refl);
      }

  -- ---- a future ends
  -- the permits of the lock became t, and its wakers were handed on
  abbrev pub left_with : Core NamedWaker → KeptLock
  left_with t = record e { lock = settled (record e.lock { permits = t }) }

  -- what is left of it, and how the model says so
  pub record EndsFuture (f : ℕ) (x : KeptFuture) (t : Core NamedWaker) : Type 0 where
    pub stays : AreKept (finished (left_with t) x.plain) (remove fs f) gs
    pub seen : (waits (who (names_in permits.queue)) f ≡ true)
        × (lock_seen (left_with t) ≡ model.poured (record (lock_seen e) { queue = leaving (names_in permits.queue) f }) (share_of e.lock (is_write x.wait) - lack_for (names_in permits.queue) f))
        × (map (λ (k : NamedWaker). k.waker) t.wakes ≡ woken_by (leaving (names_in permits.queue) f) (share_of e.lock (is_write x.wait) - lack_for (names_in permits.queue) f))
        ⊎ (waits (who (names_in permits.queue)) f ≡ false) × (is_polled x.wait ≡ true) × (lock_seen (left_with t) ≡ model.poured (lock_seen e) (share_of e.lock (is_write x.wait)))
        × (map (λ (k : NamedWaker). k.waker) t.wakes ≡ woken_by (names_in permits.queue) (share_of e.lock (is_write x.wait)))
        ⊎ (waits (who (names_in permits.queue)) f ≡ false) × (is_polled x.wait ≡ false) × (lock_seen (left_with t) ≡ lock_seen e) × (map (λ (k : NamedWaker). k.waker) t.wakes ≡ [])

  module _ (f : ℕ) (x : KeptFuture) (there : get fs f ≡ Some x) (waits_now : x.holds ≡ false) where
    -- its acquire, as it is
    its_acquire : (a : Acquire) → acquire_of e.lock.most x.wait ≡ a → get acquires f ≡ Some a
    its_acquire a is = its f x there ∙ ap (λ a. Some a) is

    its_share : (a : Acquire) → acquire_of e.lock.most x.wait ≡ a → demand_of a ≡ share_of e.lock (is_write x.wait)
    its_share a is = sym (ap demand_of is) ∙ kept.asks f x there

    its_polled : (a : Acquire) → acquire_of e.lock.most x.wait ≡ a → is_polled x.wait ≡ has_number a
    its_polled a is = polled-any x.wait 0 e.lock.most ∙ ap has_number is

    its_home : IsHome permits.queue permits.granted (acquire_of e.lock.most x.wait)
    its_home = kept.linked.home f _ (its f x there)

    module _ (t : Core NamedWaker) (held : held_of t ≡ held_of permits) (sound : IsSound (record e.lock { permits = t })) where
      ended_by : Linked t.queue t.granted (remove acquires f) → AreKept (finished (left_with t) x.plain) (remove fs f) gs
      ended_by linked = record {
        sound = sound_settled _ sound;
        linked = rw (seen-remove (λ (x : KeptFuture). acquire_of e.lock.most x.wait) fs f) linked;
        waits_write = write_gone fs f kept.waits_write;
        asks = λ g y is. kept.asks g y (removed_there fs f g y is);
        held = omega (arith, held, kept.held, held_in-gone f, share_at f x there, no-share x waits_now);
        holders = λ g y is holds. let it = kept.holders g y (removed_there fs f g y is) holds in record { of_condvar = it.of_condvar; writes = it.writes; new = it.new; writing = it.writing };
        writing = kept.writing;
        quiet = refl;
        things = omega (arith, kept.things, len-some fs f x there, len-gone fs f x there);
        plain = omega (arith, kept.plain, count-gone fs f (λ (x : KeptFuture). x.plain) x there);
      }

      -- b are the permits before n were poured, which left t
      module _ (b : Core NamedWaker) (n : ℕ) (quiet : b.wakes ≡ []) (is : t ≡ poured b n) (none : HasNoDebt b.queue) where
        left_seen : lock_seen (left_with t) ≡ model.poured (record (lock_seen e) { free = b.free; queue = names_in b.queue }) n
        left_seen = λ i. record { value = e.lock.value; most = e.lock.most; free = free_poured b t n quiet is none i; queue = queue_poured b t n quiet is none i; named = e.named }

      pub ends_future : Cancels permits (acquire_of e.lock.most x.wait) t → EndsFuture f x t
      ends_future cancels = at (acquire_of e.lock.most x.wait) refl cancels its_home
        where
          at : (a : Acquire) → acquire_of e.lock.most x.wait ≡ a → Cancels permits a t → IsHome permits.queue permits.granted a → EndsFuture f x t
          at (New d) new is home =
              let out = subst IsUnqueued (sym (its_acquire (New d) new)) tt in
              record {
                stays = ended_by (rw is (linked_gone permits.queue permits.granted acquires kept.linked f out));
                seen = inr (inr (unqueued_waits permits.queue permits.granted acquires kept.linked f out kept.sound.no_debt, its_polled (New d) new, rw is refl, rw (is, kept.quiet) refl));
              }
          at (Queued d n) queued is (inl granted) =
              let here = its_acquire (Queued d n) queued in
              let size = its_share (Queued d n) queued in
              let left = is.0 granted in
              let b = record permits { live = permits.live - d; granted = remove permits.granted n } in
              record {
                stays = ended_by (poured_linked (record permits { live = permits.live - d; granted = remove permits.granted n }) t d kept.quiet left kept.sound.no_debt (remove acquires f)
                    (linked_taken permits.queue permits.granted acquires kept.linked f d n here (not_waiting n d granted)));
                seen = inr (inl (
                  queued_waits permits.queue permits.granted acquires kept.linked f d n here kept.sound.no_debt ∙ ap is_some (not_waiting n d granted),
                  its_polled (Queued d n) queued,
                  left_seen (record permits { live = permits.live - d; granted = remove permits.granted n }) d kept.quiet left kept.sound.no_debt ∙ ap (model.poured (lock_seen e)) size,
                  woken_poured (record permits { live = permits.live - d; granted = remove permits.granted n }) t d kept.quiet left kept.sound.no_debt ∙ ap (woken_by (names_in permits.queue)) size,
                ));
              }
          at (Queued d n) queued is (inr waiting_is) =
              let here = its_acquire (Queued d n) queued in
              let size = its_share (Queued d n) queued in
              let left = is.1 waiting_is.0 waiting_is.1 in
              let none = no_debt_without permits.queue n kept.sound.no_debt in
              let lack = queued_lacks permits.queue permits.granted acquires kept.linked f d n here d waiting_is.0 kept.sound.no_debt waiting_is.1 in
              let paid : d - waiting_is.0 ≡ share_of e.lock (is_write x.wait) - lack_for (names_in permits.queue) f = omega (arith, size, lack) in
              let queue = queued_without permits.queue permits.granted acquires kept.linked f d n here kept.sound.no_debt in
              let not_granted = kept.sound.permits.granted_apart n (λ none. absurd (let some = waiting_is.1 in cc)) in
              record {
                stays = ended_by (poured_linked (record permits { live = permits.live - (d - waiting_is.0); queue = without_acquire permits.queue n }) t (d - waiting_is.0) kept.quiet left none (remove acquires f)
                    (linked_left permits.queue permits.granted acquires kept.linked f d n here not_granted));
                seen = inl (
                  queued_waits permits.queue permits.granted acquires kept.linked f d n here kept.sound.no_debt ∙ ap is_some waiting_is.1,
                  left_seen (record permits { live = permits.live - (d - waiting_is.0); queue = without_acquire permits.queue n }) (d - waiting_is.0) kept.quiet left none
                      ∙ (λ i. model.poured (record (lock_seen e) { queue = queue i }) (paid i)),
                  woken_poured (record permits { live = permits.live - (d - waiting_is.0); queue = without_acquire permits.queue n }) t (d - waiting_is.0) kept.quiet left none
                      ∙ (λ i. woken_by (queue i) (paid i)),
                );
              }
          at (Done d) done is home = absurd home
          at (Refused d) refused is home = absurd home

    -- ---- a future is polled, which leaves these permits
    abbrev pub now : Core NamedWaker → Bool → KeptLock
    now t writing = record e { lock = record e.lock { permits = t; writing = writing } }

    -- it has the lock, and becomes the guard g
    pub record IsReady (i : ℕ) (g : GuardEntry) (t : Core NamedWaker) : Type 0 where
      pub stays : AreKept (now t g.writes) (remove fs f) (insert gs i g)
      pub apart : waits (who (names_in permits.queue)) f ≡ false
      pub seen : (is_polled x.wait ≡ true) × (lock_seen (now t g.writes) ≡ lock_seen e)
          ⊎ (is_polled x.wait ≡ false) × (nat_lt permits.free (share_of e.lock (is_write x.wait)) ≡ false) × (lock_seen (now t g.writes) ≡ taken_from (lock_seen e) (share_of e.lock (is_write x.wait)))
      pub queue : t.queue ≡ permits.queue

    -- it waits on, or goes to the end of the queue
    pub record IsPending (w : ℕ) (t : Core NamedWaker) (y : RwWait) : Type 0 where
      pub stays : AreKept (now t e.lock.writing) (insert fs f (record x { wait = y })) gs
      pub polled : is_polled y ≡ true
      pub seen : (waits (who (names_in permits.queue)) f ≡ true) × (lock_seen (now t e.lock.writing) ≡ record (lock_seen e) { queue = rewoken (names_in permits.queue) f w }) × (is_polled y ≡ is_polled x.wait)
          ⊎ (waits (who (names_in permits.queue)) f ≡ false) × (is_polled x.wait ≡ false) × (nat_lt permits.free (share_of e.lock (is_write x.wait)) ≡ true)
          × (lock_seen (now t e.lock.writing) ≡ record (lock_seen e) { free = 0; queue = names_in permits.queue ++ ((f, w), share_of e.lock (is_write x.wait) - permits.free) ∷ [] }) × (is_polled y ≡ true)

    module _ (w : ℕ) (t : Core NamedWaker) (y : RwWait) where
      abbrev waker : NamedWaker
      waker = record { name = f; waker = w }

      module _ (i : ℕ) (g : GuardEntry) (none : get gs i ≡ None) (same : g.plain ≡ x.plain) (writes : g.writes ≡ is_write x.wait) (k : NamedWaker) (alone : IsFreeFor g.writes e.lock)
          (held : held_of t ≡ held_of permits + share_of e.lock g.writes) (sound : IsSound (record e.lock { permits = t; writing = g.writes })) where
        becomes : Linked t.queue t.granted (remove acquires f) → t.wakes ≡ permits.wakes → AreKept (now t g.writes) (remove fs f) (insert gs i g)
        becomes linked wakes =
            let alike : ◌≡◌ {A = ℕ} (cond g.plain 1 0) (cond x.plain 1 0) = ap (λ b. cond b 1 0) same in
            record {
              sound = sound;
              linked = rw (seen-remove (λ (x : KeptFuture). acquire_of e.lock.most x.wait) fs f) linked;
              waits_write = write_gone fs f kept.waits_write;
              asks = λ g y is. kept.asks g y (removed_there fs f g y is);
              held = omega (arith, kept.held, held, held-new i g none, held_in-gone f, share_at f x there, no-share x waits_now);
              holders = λ h y is holds. absurd (none_where_free g.writes alone h y (removed_there fs f h y is) holds);
              writing = let_in i g alone;
              quiet = wakes ∙ kept.quiet;
              things = omega (arith, kept.things, len-some fs f x there, len-gone fs f x there, len-new gs i g none);
              plain = omega (arith, kept.plain, alike, count-gone fs f (λ (x : KeptFuture). x.plain) x there, count-new gs i (λ (x : GuardEntry). x.plain) g none);
            }

        pub polls_ready : Polls permits (acquire_of e.lock.most x.wait) waker (Ok (Ready k)) t (acquire_of e.lock.most y) → IsReady i g t
        polls_ready polls = at (acquire_of e.lock.most x.wait) refl polls its_home
          where
            at : (a : Acquire) → acquire_of e.lock.most x.wait ≡ a → Polls permits a waker (Ok (Ready k)) t (acquire_of e.lock.most y) → IsHome permits.queue permits.granted a → IsReady i g t
            at (New d) new is home =
                let size = its_share (New d) new in
                let out = subst IsUnqueued (sym (its_acquire (New d) new)) tt in
                elim (cases_lt permits.free d) as (λ y. IsReady i g t) [
                  | inl few ↦ absurd (let pending = (is.1 few).0 in cc)
                  | inr enough ↦
                      let left = (is.0 enough).1 in
                      let not_few : nat_lt permits.free (share_of e.lock (is_write x.wait)) ≡ false = grind (arith, nat_tests, enough, size) in
                      record {
                        stays = becomes (rw left (linked_gone permits.queue permits.granted acquires kept.linked f out)) (ap (λ (s : Core NamedWaker). s.wakes) left);
                        apart = unqueued_waits permits.queue permits.granted acquires kept.linked f out kept.sound.no_debt;
                        seen = inr (its_polled (New d) new, not_few, rw left (ap (taken_from (lock_seen e)) size));
                        queue = ap (λ (s : Core NamedWaker). s.queue) left;
                      }
                ]
            at (Queued d n) queued is (inl granted) =
                let left = (is.0 granted).1 in
                let here = its_acquire (Queued d n) queued in
                let none = not_waiting n d granted in
                record {
                  stays = becomes (rw left (linked_taken permits.queue permits.granted acquires kept.linked f d n here none)) (ap (λ (s : Core NamedWaker). s.wakes) left);
                  apart = queued_waits permits.queue permits.granted acquires kept.linked f d n here kept.sound.no_debt ∙ ap is_some none;
                  seen = inl (its_polled (Queued d n) queued, rw left refl);
                  queue = ap (λ (s : Core NamedWaker). s.queue) left;
                }
            at (Queued d n) queued is (inr waiting_is) = absurd (let pending = (is.1 waiting_is).0 in cc)
            at (Done d) done is home = absurd home
            at (Refused d) refused is home = absurd home

      module _ (held : held_of t ≡ held_of permits) (sound : IsSound (record e.lock { permits = t })) (writes : is_write y ≡ is_write x.wait) where
        waits_on : Linked t.queue t.granted (insert acquires f (acquire_of e.lock.most y)) → t.wakes ≡ permits.wakes → demand_of (acquire_of e.lock.most y) ≡ share_of e.lock (is_write x.wait)
            → AreKept (now t e.lock.writing) (insert fs f (record x { wait = y })) gs
        waits_on linked wakes size = record {
          sound = sound;
          linked = rw (seen-insert (λ (x : KeptFuture). acquire_of e.lock.most x.wait) fs f (record x { wait = y })) linked;
          waits_write = write_put fs f (record x { wait = y }) kept.waits_write (λ condvar. writes ∙ kept.waits_write f x there condvar);
          asks = by_put fs f (record x { wait = y }) (λ g o. (z : KeptFuture) → o ≡ Some z → demand_of (acquire_of e.lock.most z.wait) ≡ share_of e.lock (is_write z.wait))
              (λ z is. let same : record x { wait = y } ≡ z = cc in rw (← same) (size ∙ ap (share_of e.lock) (sym writes))) (λ g apart z is. kept.asks g z is);
          held = omega (arith, held, kept.held, held_in-put f (record x { wait = y }), share_at f x there, no-share x waits_now);
          holders = by_put fs f (record x { wait = y }) (λ g o. (z : KeptFuture) → o ≡ Some z → z.holds ≡ true → IsHolder (record e.lock { permits = t }) z)
              (λ z is holds. absurd (let same : record x { wait = y } ≡ z = cc in let no : z.holds ≡ false = ap (λ (x : KeptFuture). x.holds) (sym same) ∙ waits_now in cc))
              (λ g apart z is holds. let it = kept.holders g z is holds in record { of_condvar = it.of_condvar; writes = it.writes; new = it.new; writing = it.writing });
          writing = kept.writing;
          quiet = wakes ∙ kept.quiet;
          things = omega (arith, kept.things, len-over fs f (record x { wait = y }) x there);
          plain = omega (arith, kept.plain, count-over fs f (λ (x : KeptFuture). x.plain) (record x { wait = y }) x there refl);
        }

        polled_as : (a : Acquire) → acquire_of e.lock.most y ≡ a → is_polled y ≡ has_number a
        polled_as a is = polled-any y 0 e.lock.most ∙ ap has_number is

        pub polls_pending : Polls permits (acquire_of e.lock.most x.wait) waker (Ok Pending) t (acquire_of e.lock.most y) → IsPending w t y
        polls_pending polls = at (acquire_of e.lock.most x.wait) refl polls its_home
          where
            at : (a : Acquire) → acquire_of e.lock.most x.wait ≡ a → Polls permits a waker (Ok Pending) t (acquire_of e.lock.most y) → IsHome permits.queue permits.granted a → IsPending w t y
            at (New d) new is home = elim (cases_lt permits.free d) as (λ z. IsPending w t y) [
              | inr enough ↦ absurd (let ready = (is.0 enough).0 in cc)
              | inl few ↦
                  let size = its_share (New d) new in
                  let left = is.1 few in
                  let out = subst IsUnqueued (sym (its_acquire (New d) new)) tt in
                  let is_few : nat_lt permits.free (share_of e.lock (is_write x.wait)) ≡ true = grind (arith, nat_tests, few, size) in
                  let now_is = left.1.1.is in
                  record {
                    stays = waits_on (rw (now_is, left.1.2) (linked_pushed permits.queue permits.granted acquires kept.linked f out left.1.0 d (d - permits.free) waker refl left.1.1.not_waiting left.1.1.not_granted))
                        (ap (λ (s : Core NamedWaker). s.wakes) now_is) (ap demand_of left.1.2 ∙ size);
                    polled = polled_as _ left.1.2;
                    seen = inr (
                      unqueued_waits permits.queue permits.granted acquires kept.linked f out kept.sound.no_debt,
                      its_polled (New d) new,
                      is_few,
                      rw now_is (λ i. record { value = e.lock.value; most = e.lock.most; free = 0; queue = (push-names permits.queue left.1.0 d (d - permits.free) waker ∙ ap (λ n. names_in permits.queue ++ ((f, w), n - permits.free) ∷ []) size) i; named = e.named }),
                      polled_as _ left.1.2,
                    );
                  }
            ]
            at (Queued d n) queued is (inl granted) = absurd (let ready = (is.0 granted).0 in cc)
            at (Queued d n) queued is (inr waiting_is) =
                let size = its_share (Queued d n) queued in
                let left = is.1 waiting_is in
                let here = its_acquire (Queued d n) queued in
                let same : insert acquires f (acquire_of e.lock.most y) ≡ acquires = rw left.2 (insert_same acquires f (Queued d n) here) in
                record {
                  stays = waits_on (rw (left.1, same) (linked_again permits.queue permits.granted acquires kept.linked f d n here waker refl)) (ap (λ (s : Core NamedWaker). s.wakes) left.1) (ap demand_of left.2 ∙ size);
                  polled = polled_as _ left.2;
                  seen = inl (
                    queued_waits permits.queue permits.granted acquires kept.linked f d n here kept.sound.no_debt ∙ ap is_some waiting_is.1,
                    rw left.1 (λ i. record { value = e.lock.value; most = e.lock.most; free = permits.free; queue = queued_with permits.queue permits.granted acquires kept.linked f d n here waker refl kept.sound.no_debt i; named = e.named }),
                    polled_as _ left.2 ∙ sym (its_polled (Queued d n) queued),
                  );
                }
            at (Done d) done is home = absurd home
            at (Refused d) refused is home = absurd home

  -- ---- the futures of waits on condition variables
  -- a guard that writes is handed over to a new one, which holds the lock from then on
  pub hands : (f : ℕ) (x : KeptFuture) (g : ℕ) (y : GuardEntry) → get fs f ≡ None → get gs g ≡ Some y → y.writes ≡ true → x.plain ≡ y.plain → x.of_condvar ≡ true → x.holds ≡ true → IsNewWait e.lock true x.wait
      → AreKept e (insert fs f x) (remove gs g)
  hands f x g y none guard writes alike condvar holds new =
      let all : share_of e.lock y.writes ≡ e.lock.most = ap (share_of e.lock) writes in
      let same : ◌≡◌ {A = ℕ} (cond x.plain 1 0) (cond y.plain 1 0) = ap (λ b. cond b 1 0) alike in
      record {
        sound = kept.sound;
        linked = rw (seen-insert (λ (x : KeptFuture). acquire_of e.lock.most x.wait) fs f x, new.acquire)
            (linked_begun permits.queue permits.granted acquires kept.linked f (rw (seen-none (λ (x : KeptFuture). acquire_of e.lock.most x.wait) fs f none) tt) (share_of e.lock true));
        waits_write = write_put fs f x kept.waits_write (λ is. new.writes);
        asks = by_put fs f x (λ f o. (z : KeptFuture) → o ≡ Some z → demand_of (acquire_of e.lock.most z.wait) ≡ share_of e.lock (is_write z.wait))
            (λ z is. let it : x ≡ z = cc in rw (← it) (ap demand_of new.acquire ∙ ap (share_of e.lock) (sym new.writes))) (λ f apart z is. kept.asks f z is);
        held = omega (arith, kept.held, all, held-gone g y guard, holder-share x holds, no_share_at f none, held_in-put f x);
        holders = by_put fs f x (λ f o. (z : KeptFuture) → o ≡ Some z → z.holds ≡ true → IsHolder e.lock z)
            (λ z is has. let it : x ≡ z = cc in rw (← it) (record { of_condvar = condvar; writes = new.writes; new = new.acquire; writing = sym (kept.writing g y guard) ∙ writes })) (λ f apart z is has. kept.holders f z is has);
        writing = λ k z is. kept.writing k z (removed_there gs g k z is);
        quiet = kept.quiet;
        things = omega (arith, kept.things, len-new fs f x none, len-some gs g y guard, len-gone gs g y guard);
        plain = omega (arith, kept.plain, same, count-new fs f (λ (x : KeptFuture). x.plain) x none, count-gone gs g (λ (x : GuardEntry). x.plain) y guard);
      }

  module _ (f : ℕ) (x : KeptFuture) (there : get fs f ≡ Some x) (holds : x.holds ≡ true) where
    holder : IsHolder e.lock x
    holder = kept.holders f x there holds

    -- all permits are held, and this future holds them
    all_held : held_of permits ≡ e.lock.most
    all_held = kept.sound.alone holder.writing

    its_new : get acquires f ≡ Some (New e.lock.most)
    its_new = its f x there ∙ ap (λ a. Some a) holder.new

    -- it does not wait
    pub holder_apart : waits (who (names_in permits.queue)) f ≡ false
    holder_apart = unqueued_waits permits.queue permits.granted acquires kept.linked f (subst IsUnqueued (sym its_new) tt) kept.sound.no_debt

    pub holder_held : IsHeldAs e.lock true
    holder_held = holder.writing

    -- another that holds the lock would hold more than there is
    no_other : (m : Names KeptFuture) → held_in e.lock m + e.lock.most ≡ held_in e.lock fs → (g : ℕ) (z : KeptFuture) → get m g ≡ Some z → z.holds ≡ true → ⊥
    no_other m less g z is has = absurd (omega (arith, less, all_held, kept.held, kept.sound.some, holder-share z has, total-has (λ k (x : KeptFuture). cond x.holds e.lock.most 0) m g z is))

    no_guard_there : (k : ℕ) (z : GuardEntry) → get gs k ≡ Some z → ⊥
    no_guard_there k z is = none_beside k z is f x there holds

    -- it gives the lock up, and asks for it no more
    module _ (y : RwWait) (l : NamedLock) (given : UnlocksLock e.lock true l) (new : IsNewWait e.lock true y) where
      abbrev laid : KeptFuture
      laid = record x { wait = y; holds = false }

      less_held : held_in e.lock (insert fs f laid) + e.lock.most ≡ held_in e.lock fs
      less_held = omega (arith, held_in-put f laid, share_at f x there, holder-share x holds)

      pub lays : AreKept (gave_back e.lock.most) (insert fs f laid) gs
      lays =
          let held = ap (λ (l : NamedLock). held_of l.permits) given.lock in
          record {
            sound = sound_settled _ (rw given.lock at given.sound);
            linked = rw (seen-insert (λ (x : KeptFuture). acquire_of e.lock.most x.wait) fs f laid, new.acquire, insert_same acquires f (New e.lock.most) its_new) (given_linked e.lock.most);
            waits_write = write_put fs f laid kept.waits_write (λ is. new.writes);
            asks = by_put fs f laid (λ f o. (z : KeptFuture) → o ≡ Some z → demand_of (acquire_of e.lock.most z.wait) ≡ share_of e.lock (is_write z.wait))
                (λ z is. let it : laid ≡ z = cc in rw (← it) (ap demand_of new.acquire ∙ ap (share_of e.lock) (sym new.writes))) (λ f apart z is. kept.asks f z is);
            held = omega (arith, kept.held, held, given.held, less_held);
            holders = λ g z is has. absurd (no_other (insert fs f laid) less_held g z is has);
            writing = λ k z is. absurd (no_guard_there k z is);
            quiet = refl;
            things = omega (arith, kept.things, len-over fs f laid x there);
            plain = omega (arith, kept.plain, count-over fs f (λ (x : KeptFuture). x.plain) laid x there refl);
          }

    -- it ends
    pub holder_ends : (l : NamedLock) → UnlocksLock e.lock true l → AreKept (finished (gave_back e.lock.most) x.plain) (remove fs f) gs
    holder_ends l given =
        let held = ap (λ (l : NamedLock). held_of l.permits) given.lock in
        let less : held_in e.lock (remove fs f) + e.lock.most ≡ held_in e.lock fs = omega (arith, held_in-gone f, share_at f x there, holder-share x holds) in
        record {
          sound = sound_settled _ (rw given.lock at given.sound);
          linked = rw (seen-remove (λ (x : KeptFuture). acquire_of e.lock.most x.wait) fs f) (linked_gone _ _ acquires (given_linked e.lock.most) f (subst IsUnqueued (sym its_new) tt));
          waits_write = write_gone fs f kept.waits_write;
          asks = λ g z is. kept.asks g z (removed_there fs f g z is);
          held = omega (arith, kept.held, held, given.held, less);
          holders = λ g z is has. absurd (no_other (remove fs f) less g z is has);
          writing = λ k z is. absurd (no_guard_there k z is);
          quiet = refl;
          things = omega (arith, kept.things, len-some fs f x there, len-gone fs f x there);
          plain = omega (arith, kept.plain, count-gone fs f (λ (x : KeptFuture). x.plain) x there);
        }

    -- it is ready, and becomes a guard
    pub holder_ready : (i : ℕ) (g : GuardEntry) → get gs i ≡ None → g.writes ≡ true → g.plain ≡ x.plain → AreKept e (remove fs f) (insert gs i g)
    holder_ready i g none writes alike =
        let all : share_of e.lock g.writes ≡ e.lock.most = ap (share_of e.lock) writes in
        let same : ◌≡◌ {A = ℕ} (cond g.plain 1 0) (cond x.plain 1 0) = ap (λ b. cond b 1 0) alike in
        record {
          sound = kept.sound;
          linked = rw (seen-remove (λ (x : KeptFuture). acquire_of e.lock.most x.wait) fs f) (linked_gone permits.queue permits.granted acquires kept.linked f (subst IsUnqueued (sym its_new) tt));
          waits_write = write_gone fs f kept.waits_write;
          asks = λ g z is. kept.asks g z (removed_there fs f g z is);
          held = omega (arith, kept.held, all, held-new i g none, held_in-gone f, share_at f x there, holder-share x holds);
          holders = λ h z is has. kept.holders h z (removed_there fs f h z is) has;
          writing = by_put gs i g (λ j o. (z : GuardEntry) → o ≡ Some z → z.writes ≡ e.lock.writing)
              (λ z is. let it : g ≡ z = cc in ap (λ (y : GuardEntry). y.writes) (sym it) ∙ writes ∙ sym holder.writing) (λ j apart z is. kept.writing j z is);
          quiet = kept.quiet;
          things = omega (arith, kept.things, len-some fs f x there, len-gone fs f x there, len-new gs i g none);
          plain = omega (arith, kept.plain, same, count-gone fs f (λ (x : KeptFuture). x.plain) x there, count-new gs i (λ (x : GuardEntry). x.plain) g none);
        }

  -- ---- a lock that has nothing is idle
  module _ (none : e.things ≡ 0) where
    no_acquire : (f : ℕ) (a : Acquire) → get acquires f ≡ Some a → ⊥
    no_acquire f a is = let one = seen-back (λ (x : KeptFuture). acquire_of e.lock.most x.wait) fs f a is in absurd (let some = len-some fs f one.0 one.1 in omega (arith, kept.things))

    pub no_queue : permits.queue ≡ []
    no_queue = at permits.queue refl kept.sound.no_debt kept.linked.waits
      where
        at : (q : List (Waiter NamedWaker × ℕ)) → permits.queue ≡ q → HasNoDebt q → AreOf acquires q → permits.queue ≡ []
        at [] is debts are = is
        at ((Acquires n d k, l) ∷ q) is debts are = absurd (no_acquire k.name (Queued d n) are.0)
        at ((Owes, l) ∷ q) is debts are = absurd debts

    no_granted : permits.granted ≡ empty
    no_granted = same_named permits.granted empty (λ n. at n (get permits.granted n) refl ∙ sym (get-empty nat_cmp n))
      where
        at : (n : ℕ) (o : Option ℕ) → get permits.granted n ≡ o → get permits.granted n ≡ None
        at n None is = is
        at n (Some d) is = absurd (let one = kept.linked.owned n d is in no_acquire one.0 (Queued d n) one.1)

    -- it has no guard
    nothing_held : held_of permits ≡ 0
    nothing_held =
        let guards = ap (held_by e.lock) no_guards ∙ total-empty (λ k (g : GuardEntry). share_of e.lock g.writes) in
        let futures = ap (held_in e.lock) no_futures ∙ total-empty (λ k (x : KeptFuture). cond x.holds e.lock.most 0) in
        omega (arith, kept.held, guards, futures)
      where
        no_futures : fs ≡ empty
        no_futures = same_named fs empty (λ k. at k (get fs k) refl ∙ sym (get-empty nat_cmp k))
          where
            at : (k : ℕ) (o : Option KeptFuture) → get fs k ≡ o → get fs k ≡ None
            at k None is = is
            at k (Some g) is = absurd (let some = len-some fs k g is in omega (arith, kept.things))

        no_guards : gs ≡ empty
        no_guards = same_named gs empty (λ k. at k (get gs k) refl ∙ sym (get-empty nat_cmp k))
          where
            at : (k : ℕ) (o : Option GuardEntry) → get gs k ≡ o → get gs k ≡ None
            at k None is = is
            at k (Some g) is = absurd (let some = len-some gs k g is in omega (arith, kept.things))

    pub idle : permits.free ≡ e.lock.most
    idle =
        let queued : sum_by {X = Waiter NamedWaker × ℕ} (λ e. paid_to e.0 e.1) permits.queue ≡ 0 = ap (sum_by {X = Waiter NamedWaker × ℕ} (λ e. paid_to e.0 e.1)) no_queue in
        let paid : sum_by (λ d. d) (values permits.granted) ≡ 0 = ap (λ m. sum_by (λ d. d) (values m)) no_granted ∙ ap (λ es. sum_by (λ d. d) (map (λ (e : ℕ × ℕ). e.1) es)) entries_empty in
        omega (arith, whole, nothing_held, queued, paid)

-- a new lock
pub new_kept : (l : NamedLock) (value most : ℕ) → IsNewLock l value most → AreKept (record { lock = l; named = true; things = 0; plain = 0 }) empty empty
new_kept l value most new = record {
  sound = new.sound;
  linked = rw (new.lock, seen-empty (λ (x : KeptFuture). acquire_of most x.wait)) (record {
    waits = tt;
    home = λ f a there. absurd (nothing_at Acquire f a there);
    owned = λ n d there. absurd (nothing_at ℕ n d there);
    apart = λ f g d e n there also. absurd (nothing_at Acquire f (Queued d n) there);
  });
  waits_write = λ f x there. absurd (nothing_at KeptFuture f x there);
  asks = λ f x there. absurd (nothing_at KeptFuture f x there);
  held = omega (arith, new.free, total-empty (λ k (g : GuardEntry). share_of l g.writes), total-empty (λ k (x : KeptFuture). cond x.holds l.most 0));
  holders = λ f x there. absurd (nothing_at KeptFuture f x there);
  writing = λ k g there. absurd (nothing_at GuardEntry k g there);
  quiet = rw new.lock refl;
  things = omega (arith, len-empty nat_cmp KeptFuture, len-empty nat_cmp GuardEntry);
  plain = omega (arith, total-empty (λ k (x : KeptFuture). cond x.plain 1 0), total-empty (λ k (x : GuardEntry). cond x.plain 1 0));
}
