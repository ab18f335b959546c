-- what each event does to the locks of one kind, as they are kept and as they are seen
use Rattle.std.proofs.Common.{◌≡◌, ℕ, ◌+◌, ◌-◌, ◌<◌, ◌≤◌, ◌^◌, ◌==◌, ◌&&◌, ◌||◌, ◌++◌, inl, inr, Bool, true, false, not, cond, length, [], map, nat_lt, Option, Some, None, option_map, is_some, refl, ap, sym, subst, ◌∙◌, arith, if◌then◌else◌}
use Rattle.std.specs.Option.{IsSome}
use Rattle.std.specs.FinMap.{get, insert, remove, len, empty}
use Rattle.std.proofs.lemmas.Bool.{cases_lt}
use Rattle.std.proofs.lemmas.Bool.Decides.{nat_tests}
use Rattle.mea_family.specs.declared.answer.Answer.{Answer}
use Rattle.mea_family.specs.declared.answer.Answer.TheVariants as answers
use Rattle.mea_base.specs.declared.turn.Turn.TheVariants.{Ready}
use Rattle.mea_family.specs.Causes.{unknown_unless}
use Rattle.mea_family.specs.Family.{Outcome}
use Rattle.mea_base.specs.Ready.{Waking}
use Rattle.mea_base.specs.Totals.{total, weight}
use Rattle.mea_base.proofs.Maps.{total-has, nothing_at, inside, get-there, is_there}
use Rattle.mea_base.proofs.Totals.{total-insert, total-remove, total-same, total-zero}
use Rattle.mea_base.proofs.NamedMaps.{is_some-map, get-seen}
use Rattle.mea_by_name.specs.ByName.{Names, seen, own, count}
use Rattle.mea_family.specs.Play.{Part, PartYields, PartRests, found}
use Rattle.mea_by_name.specs.LackingQueue.{who}
use Rattle.mea_by_name.proofs.LackingQueues.{length-who}
use Rattle.mea_by_name.proofs.Cases.{found_is, if_true, if_false}
use Rattle.mea_by_name.proofs.Halls as halls
use Rattle.mea_by_name.proofs.Own.{seen-at, seen-back, seen-empty, seen-insert, seen-remove, seen-alike, own-seen, len-seen, total-seen, own-at, own-had, own-none, own-put, own-gone, len-some, count-gone, insert_same, put_gone, gone_none, Moves, Stays, Comes, Goes}
use Rattle.mea_by_name.specs.declared.named_waker.NamedWaker.{NamedWaker}
use Rattle.mea_lock_core.specs.RwLock.{LetsIn, share_of, is_write}
use Rattle.mea_lock_model.specs.Locks as model
use Rattle.mea_lock_model.specs.Locks.{Lock, LockFuture, LockGuard, Locks, is_named, is_named_lock, is_future, is_condvar_future, is_waiting_for, is_guard, things_of, plain_of, registered, tidied_locks, size}
use Rattle.mea_lock_model.specs.Valid.{held_by, FitGuards}
use Rattle.mea_lock_model.specs.Actions.{act_in, Make, Begin, Poll, Try, Get, Set, Lower, End, Peek, Put, Take, Drop, Hand}
use Rattle.mea_lock_model.specs.Meaning.{cause_at}
use Rattle.mea_cores_by_name.specs.Linked.{names_in}
use Rattle.mea_lock.specs.declared.guard_entry.GuardEntry.{GuardEntry}
use Rattle.mea_lock.specs.Cores.{NamedLock, TakesLock, UnlocksLock, LowersLock, IsHeldAs, IsFreeFor, keeps_out}
use Rattle.mea_lock.specs.Entries.{KeptLock, KeptFuture, begun, finished, settled, is_over, Settles, HasLock}
use Rattle.mea_lock.specs.Waits.{IsNewWait, is_polled}
use Rattle.mea_lock.specs.Parts.{lock_seen, future_seen, guard_seen, locks_seen, held_by as held_of_guards, held_in, AreKept, AreKeptLocks, IsNewLock, of_future, of_guard}
use Rattle.mea_lock.specs.Lends.{StandsFor, has_permits, HasNoWait}
use Rattle.mea_lock.proofs.OneLock as one
use Rattle.mea_lock.proofs.LockGrants.{held_by_all, futures_granted}
use Rattle.mea_cores_by_name.proofs.Waiters.{length-names}
use Rattle.mea_base.proofs.Tests.{over_is}

-- how many wait at the locks that are kept
abbrev pub waiters : KeptLock → ℕ
waiters e = length e.lock.permits.queue

abbrev waiting_in : Names KeptLock → ℕ
waiting_in ls = total (λ o e. waiters e) ls

registered_is : (ls : Names KeptLock) (fs : Names KeptFuture) (gs : Names GuardEntry) → registered (locks_seen ls fs gs) ≡ waiting_in ls
registered_is ls fs gs = total-seen lock_seen (λ (r : Lock). length (who r.queue)) ls
    ∙ total-same (λ o (e : KeptLock). length (who (names_in e.lock.permits.queue))) (λ o e. waiters e) ls (λ o e there. length-who (names_in e.lock.permits.queue) ∙ length-names e.lock.permits.queue)

-- ---- what is looked up
pub named_seen_is : (ls : Names KeptLock) (o : ℕ) → is_named_lock (option_map lock_seen (get ls o)) ≡ is_named_lock (get (seen lock_seen ls) o)
named_seen_is ls o = ap is_named_lock (sym (get-seen (λ k e. lock_seen e) ls o))

-- how many things a lock has, as the model counts them
module _ (ls : Names KeptLock) (fs : Names KeptFuture) (gs : Names GuardEntry) (o : ℕ) where
  futures_seen : own (λ (x : LockFuture). x.lock) o (seen future_seen fs) ≡ seen future_seen (own of_future o fs)
  futures_seen = own-seen of_future (λ (x : LockFuture). x.lock) future_seen (λ x. refl) o fs

  guards_seen : own (λ (x : LockGuard). x.lock) o (seen guard_seen gs) ≡ seen guard_seen (own of_guard o gs)
  guards_seen = own-seen of_guard (λ (x : LockGuard). x.lock) guard_seen (λ x. refl) o gs

  pub things_seen : things_of (locks_seen ls fs gs) o ≡ len (own of_future o fs) + len (own of_guard o gs)
  things_seen =
      let futures = ap (λ n. len n) futures_seen ∙ len-seen future_seen (own of_future o fs) in
      let guards = ap (λ n. len n) guards_seen ∙ len-seen guard_seen (own of_guard o gs) in
      omega (arith, futures, guards)

  pub plain_seen : plain_of (locks_seen ls fs gs) o ≡ count (λ (x : KeptFuture). x.plain) (own of_future o fs) + count (λ (x : GuardEntry). x.plain) (own of_guard o gs)
  plain_seen =
      let futures = ap (count (λ (x : LockFuture). x.plain)) futures_seen ∙ total-seen future_seen (λ (x : LockFuture). cond x.plain 1 0) (own of_future o fs) in
      let guards = ap (count (λ (x : LockGuard). x.plain)) guards_seen ∙ total-seen guard_seen (λ (x : LockGuard). cond x.plain 1 0) (own of_guard o gs) in
      omega (arith, futures, guards)

-- a future that does not hold the lock counts for nothing
holds_nothing : (n : ℕ) (x : KeptFuture) → (x.holds ≡ true → ⊥) → cond x.holds n 0 ≡ 0
holds_nothing n x not = elim x.holds as (λ b. (b ≡ true → ⊥) → cond b n 0 ≡ 0) [ true ↦ λ no. absurd (no refl) | false ↦ λ no. refl ] not

-- ---- what is looked up in locks that are seen so
module _ {old : Part Locks} (ls : Names KeptLock) (fs : Names KeptFuture) (gs : Names GuardEntry) (next : ℕ) (view : ◌≡◌ {A = Part Locks} (record { hall = locks_seen ls fs gs; next = next }) old) where
  pub named_of : (o : ℕ) (p : Option KeptLock) → get ls o ≡ p → is_named_lock (option_map lock_seen p) ≡ is_named old.hall o
  named_of o p is = ap (λ q. is_named_lock (option_map lock_seen q)) (sym is) ∙ named_seen_is ls o ∙ ap (λ (p : Part Locks). is_named p.hall o) view

  pub guard_of : (g : ℕ) (p : Option GuardEntry) → get gs g ≡ p → option_map guard_seen p ≡ get old.hall.guards g
  guard_of g p is = ap (option_map guard_seen) (sym is) ∙ sym (get-seen (λ k x. guard_seen x) gs g) ∙ ap (λ (p : Part Locks). get p.hall.guards g) view

  pub future_of : (f : ℕ) (p : Option KeptFuture) → get fs f ≡ p → option_map future_seen p ≡ get old.hall.futures f
  future_of f p is = ap (option_map future_seen) (sym is) ∙ sym (get-seen (λ k x. future_seen x) fs f) ∙ ap (λ (p : Part Locks). get p.hall.futures f) view

  module _ (kept : AreKeptLocks ls fs gs next) (o : ℕ) (e : KeptLock) (there : get ls o ≡ Some e) where
    pub things_of_it : things_of old.hall o ≡ e.things
    things_of_it = ap (λ (p : Part Locks). things_of p.hall o) (sym view) ∙ things_seen ls fs gs o ∙ sym (kept.each o e there).things

    pub plain_of_it : plain_of old.hall o ≡ e.plain
    plain_of_it = ap (λ (p : Part Locks). plain_of p.hall o) (sym view) ∙ plain_seen ls fs gs o ∙ sym (kept.each o e there).plain

    pub stands_for_it : e.named ≡ true → StandsFor old.hall o e.lock
    stands_for_it named = subst (λ (p : Part Locks). StandsFor p.hall o e.lock) view (record {
      seen = seen-at lock_seen ls o e there
          ∙ (λ i. Some (record { value = e.lock.value; most = e.lock.most; free = e.lock.permits.free; queue = names_in e.lock.permits.queue; named = named i }));
      writing = λ g x there of.
          let kept_as = seen-back guard_seen gs g x there in
          sym (it.writing g kept_as.0 (own-at of_guard o gs g kept_as.0 kept_as.1 (ap (λ (x : LockGuard). x.lock) kept_as.2 ∙ of)))
          ∙ ap (λ (x : LockGuard). x.writes) kept_as.2;
      held = λ alone.
          let none : held_in e.lock (own of_future o fs) ≡ 0 = total-zero (λ k (x : KeptFuture). cond x.holds e.lock.most 0) (own of_future o fs) (λ f x there. holds_nothing e.lock.most x (nobody alone f x there)) in
          omega (arith, it.held, none, guards);
      granted = record {
        holders = count (λ (x : KeptFuture). x.holds) (own of_future o fs);
        none = λ alone. total-zero (λ k (x : KeptFuture). cond x.holds 1 0) (own of_future o fs) (λ f x there. holds_nothing 1 x (nobody alone f x there));
        held = omega (arith, it.held, guards, held_by_all e.lock (own of_future o fs));
        granted = ap (λ xs. total (λ f (x : LockFuture). cond (has_permits (lock_seen e) f x) 1 0) xs) (futures_seen ls fs gs o) ∙ futures_granted e (own of_future o fs) (own of_guard o gs) it;
      };
    })
      where
        it : AreKept e (own of_future o fs) (own of_guard o gs)
        it = kept.each o e there

        guards : held_by (lock_seen e) (own (λ (x : LockGuard). x.lock) o (seen guard_seen gs)) ≡ held_of_guards e.lock (own of_guard o gs)
        guards = ap (held_by (lock_seen e)) (guards_seen ls fs gs o) ∙ total-seen guard_seen (λ (x : LockGuard). size (lock_seen e) x.writes) (own of_guard o gs)

        -- without a wait on a condition variable no future holds it
        nobody : HasNoWait (locks_seen ls fs gs) o → (f : ℕ) (x : KeptFuture) → get (own of_future o fs) f ≡ Some x → x.holds ≡ true → ⊥
        nobody alone f x there is =
            let of = own-had of_future o fs f x there in
            let yes = (it.holders f x there is).of_condvar in
            let no = alone f (future_seen x) (seen-at future_seen fs f x of.0) of.1 in
            absurd (cc)

  -- the guards of each lock have no more than the lock has
  pub guards_fit : AreKeptLocks ls fs gs next → FitGuards old.hall
  guards_fit kept = subst (λ (p : Part Locks). FitGuards p.hall) view (record {
    some = λ o r there. let it = seen-back lock_seen ls o r there in
        let most : it.0.lock.most ≡ r.most = ap (λ (r : Lock). r.most) it.2 in
        omega (arith, most, (kept.each o it.0 it.1).sound.some);
    all = λ o r there. let it = seen-back lock_seen ls o r there in
        subst (λ (r : Lock). r.free + held_by r (own (λ (x : LockGuard). x.lock) o (seen guard_seen gs)) ≤ r.most) it.2
        (let guards : held_by (lock_seen it.0) (own (λ (x : LockGuard). x.lock) o (seen guard_seen gs)) ≡ held_of_guards it.0.lock (own of_guard o gs) =
        ap (held_by (lock_seen it.0)) (guards_seen ls fs gs o) ∙ total-seen guard_seen (λ (x : LockGuard). size (lock_seen it.0) x.writes) (own of_guard o gs) in
        omega (arith, guards, (kept.each o it.0 it.1).held, one.whole it.0 _ _ (kept.each o it.0 it.1)));
  })

-- what a try says of the free permits
pub enough_if : {A : Type 0} (free share : ℕ) (b : Bool) → (free < share → (b ≡ false) × A) → b ≡ true → share ≤ free
enough_if free share b refused is = elim (cases_lt free share) as (λ x. share ≤ free) [ inl few ↦ absurd (let no = (refused few).0 in cc) | inr enough ↦ enough ]

pub few_if : (free share : ℕ) (b : Bool) → (share ≤ free → b ≡ true) → b ≡ false → free < share
few_if free share b taken is = elim (cases_lt free share) as (λ x. free < share) [ inl few ↦ few | inr enough ↦ absurd (let yes = taken enough in cc) ]

-- ---- locks of one kind before event number i
pub record Site (old : Part Locks) (i : ℕ) : Type 0 where
  pub ls : Names KeptLock
  pub fs : Names KeptFuture
  pub gs : Names GuardEntry
  pub next : ℕ
  pub view : ◌≡◌ {A = Part Locks} (record { hall = locks_seen ls fs gs; next = next }) old
  pub kept : AreKeptLocks ls fs gs next
  pub later : next ≤ i
  pub fits : i < 2 ^ 64

abbrev pub site : {old : Part Locks} {i : ℕ} (ls : Names KeptLock) (fs : Names KeptFuture) (gs : Names GuardEntry) (next : ℕ) → ◌≡◌ {A = Part Locks} (record { hall = locks_seen ls fs gs; next = next }) old → AreKeptLocks ls fs gs next → old.next ≤ i → i < 2 ^ 64 → Site old i
site ls fs gs next view kept later fits = record { ls = ls; fs = fs; gs = gs; next = next; view = view; kept = kept; later = rw (← view) at later; fits = fits }

-- the locks of one kind after it
abbrev pub part_of : Names KeptLock → Names KeptFuture → Names GuardEntry → ℕ → Part Locks
part_of ls fs gs next = record { hall = locks_seen ls fs gs; next = next }

-- what is named is kept
is_kept : (o : Option KeptLock) → is_named_lock (option_map lock_seen o) ≡ true → IsSome o
is_kept None is = absurd (cc)
is_kept (Some e) is = refl

-- a future of a sort is there
of_sort : (condvar : Bool) (o : Option KeptFuture) → is_waiting_for condvar (option_map future_seen o) ≡ true → IsSome o
of_sort condvar None is = absurd (cc)
of_sort condvar (Some x) is = refl

-- a guard is known by what is seen of it
same_guard : (x y : GuardEntry) → guard_seen x ≡ guard_seen y → x ≡ y
same_guard x y is j = record { lock = ap (λ (g : LockGuard). g.lock) is j; plain = ap (λ (g : LockGuard). g.plain) is j; writes = ap (λ (g : LockGuard). g.writes) is j }

-- a lock that lets a write in writes, and one that lets a read in does not
pub writing_ready : (l : NamedLock) (k : NamedWaker) (b w : Bool) → l.writing ≡ b → LetsIn w l (Ready k) → (b || cond w true false) ≡ w
writing_ready l k true true is lets = refl
writing_ready l k false true is lets = refl
writing_ready l k true false is lets = absurd (cc)
writing_ready l k false false is lets = refl

pub writing_pending : (b w : Bool) → (b || cond w false false) ≡ b
writing_pending true w = refl
writing_pending false true = refl
writing_pending false false = refl

pub free_ready : (l : NamedLock) (k : NamedWaker) (w : Bool) → LetsIn w l (Ready k) → IsFreeFor w l
free_ready l k true lets = lets
free_ready l k false lets = lets

-- and nothing that is held keeps out whom it lets in
pub let_in : (l : NamedLock) (w holds : Bool) (k : NamedWaker) → LetsIn w l (Ready k) → (holds || not (keeps_out w l)) ≡ true
let_in l w true k lets = refl
let_in l true false k lets = ap (λ n. not (nat_lt 0 n)) lets
let_in l false false k lets = ap not lets

-- nor who has it after its poll
pub may_have_it : (old : KeptLock) (f : ℕ) (x : KeptFuture) (waker : ℕ) (new : KeptLock) (y : KeptFuture) (before after : Waking ℕ) → HasLock old f x waker new y before after → (x.holds || not (keeps_out (is_write x.wait) old.lock)) ≡ true
may_have_it old f x waker new y before after has = elim x.holds as (λ b. x.holds ≡ b → (b || not (keeps_out (is_write x.wait) old.lock)) ≡ true)
    [ true ↦ λ holds. refl | false ↦ λ waits. let polled = has.polled waits in let_in old.lock (is_write x.wait) false polled.0 polled.1.polls.lets_in ] refl

-- a future that does not hold the lock was polled as its wait was
pub polled_by : (holds polled : Bool) → holds ≡ false → {b : Bool} → polled ≡ b → (holds || polled) ≡ b
polled_by false polled none is = is
polled_by true polled none is = absurd (cc)

module _ {old : Part Locks} {i : ℕ} (s : Site old i) where
  -- what is said of the locks as they are kept is said of them as they are seen
  rests_as : (out : Locks → Outcome Locks) (o : Outcome Locks) (answer : Answer) (ls' : Names KeptLock) (fs' : Names KeptFuture) (gs' : Names GuardEntry) → out (locks_seen s.ls s.fs s.gs) ≡ o → answer ≡ o.reply
      → seen lock_seen ls' ≡ o.hall.locks → seen future_seen fs' ≡ o.hall.futures → seen guard_seen gs' ≡ o.hall.guards → o.wakes ≡ [] → waiting_in ls' ≡ waiting_in s.ls
      → PartRests registered old i (out old.hall) answer (part_of ls' fs' gs' (i + 1))
  rests_as out o answer ls' fs' gs' is replied locks futures guards silent waiting = subst (λ p. PartRests registered p i (out p.hall) answer (part_of ls' fs' gs' (i + 1))) s.view (rw is (record {
    replied = replied;
    moved = λ j. record { hall = record { locks = locks j; futures = futures j; guards = guards j }; next = i + 1 };
    silent = silent;
    counted = sym (λ j. registered (record { locks = locks j; futures = futures j; guards = guards j })) ∙ registered_is ls' fs' gs' ∙ waiting ∙ sym (registered_is s.ls s.fs s.gs);
  }))

  pub yields_as : (out : Locks → Outcome Locks) (o : Outcome Locks) (answer : Answer) (ls' : Names KeptLock) (fs' : Names KeptFuture) (gs' : Names GuardEntry) (before after : Waking ℕ) → out (locks_seen s.ls s.fs s.gs) ≡ o → answer ≡ o.reply
      → seen lock_seen ls' ≡ o.hall.locks → seen future_seen fs' ≡ o.hall.futures → seen guard_seen gs' ≡ o.hall.guards → after.wakers ≡ before.wakers ++ o.wakes → after.registered + waiting_in s.ls ≡ before.registered + waiting_in ls'
      → PartYields registered old i (out old.hall) answer (part_of ls' fs' gs' (i + 1)) before after
  yields_as out o answer ls' fs' gs' before after is replied locks futures guards woken waiting = subst (λ p. PartYields registered p i (out p.hall) answer (part_of ls' fs' gs' (i + 1)) before after) s.view (rw is (record {
    replied = replied;
    moved = λ j. record { hall = record { locks = locks j; futures = futures j; guards = guards j }; next = i + 1 };
    woken = woken;
    counted =
        let now : registered o.hall ≡ waiting_in ls' = sym (λ j. registered (record { locks = locks j; futures = futures j; guards = guards j })) ∙ registered_is ls' fs' gs' in
        omega (arith, waiting, now, registered_is s.ls s.fs s.gs);
  }))

  -- ---- what is there
  pub future_there : (f : ℕ) → is_future old.hall f ≡ true → IsSome (get s.fs f)
  future_there f is = sym (is_some-map future_seen (get s.fs f)) ∙ ap is_some (future_of s.ls s.fs s.gs s.next s.view f _ refl) ∙ is

  pub condvar_future_there : (f : ℕ) → is_condvar_future old.hall f ≡ true → IsSome (get s.fs f)
  condvar_future_there f is = of_sort true (get s.fs f) (ap (is_waiting_for true) (future_of s.ls s.fs s.gs s.next s.view f _ refl) ∙ is)

  pub guard_is : (g : ℕ) (x : GuardEntry) → get old.hall.guards g ≡ Some (guard_seen x) → get s.gs g ≡ Some x
  guard_is g x is =
      let it = seen-back guard_seen s.gs g (guard_seen x) (ap (λ (p : Part Locks). get p.hall.guards g) s.view ∙ is) in
      it.1 ∙ ap (λ y. Some y) (same_guard it.0 x it.2)

  pub lock_there : (o : ℕ) → is_named old.hall o ≡ true → IsSome (get s.ls o)
  lock_there o is = is_kept (get s.ls o) (named_seen_is s.ls o ∙ ap (λ (p : Part Locks). is_named p.hall o) s.view ∙ is)

  pub its_lock : (f : ℕ) (x : KeptFuture) → get s.fs f ≡ Some x → IsSome (get s.ls x.lock)
  its_lock f x there = (s.kept.firsts.at f x there).1

  pub guarded_lock : (g : ℕ) (x : GuardEntry) → get s.gs g ≡ Some x → IsSome (get s.ls x.lock)
  guarded_lock g x there = (s.kept.seconds.at g x there).1

  pub no_future : get s.fs i ≡ None
  no_future = halls.no_first of_future of_guard AreKept (λ e. e.things) s.ls s.fs s.gs s.next i s.kept s.later s.fits

  pub no_guard : get s.gs i ≡ None
  no_guard = halls.no_second of_future of_guard AreKept (λ e. e.things) s.ls s.fs s.gs s.next i s.kept s.later s.fits

  -- ---- why a poll and the end of a guard are refused
  pub poll_cause : (f w : ℕ) (p : Option KeptFuture) → get s.fs f ≡ p → cause_at old.hall (Poll f w) ≡ unknown_unless (is_waiting_for false (option_map future_seen p))
  poll_cause f w p is = ap (λ o. unknown_unless (is_waiting_for false o)) (sym (future_of s.ls s.fs s.gs s.next s.view f p is))

  pub end_cause : (g : ℕ) (p : Option GuardEntry) → get s.gs g ≡ p → get old.hall.futures g ≡ None → cause_at old.hall (End g) ≡ unknown_unless (is_some p)
  end_cause g p is none = ap (λ o. unknown_unless (if is_some o then is_waiting_for false o else is_guard old.hall g)) none
      ∙ ap (λ o. unknown_unless (is_some o)) (sym (guard_of s.ls s.fs s.gs s.next s.view g p is)) ∙ ap unknown_unless (is_some-map guard_seen p)

  -- a look changes nothing, nor does taking a guard that is not there
  pub looked : (f : ℕ) (x : KeptFuture) → get s.fs f ≡ Some x → (AreKeptLocks s.ls (insert s.fs f x) s.gs s.next) × (part_of s.ls (insert s.fs f x) s.gs s.next ≡ old)
  looked f x there = rw (insert_same s.fs f x there) (s.kept, s.view)

  pub untaken : (g : ℕ) → get s.gs g ≡ None → (AreKeptLocks s.ls s.fs (remove s.gs g) s.next) × (part_of s.ls s.fs (remove s.gs g) s.next ≡ old)
  untaken g none = rw (gone_none s.gs g none) (s.kept, s.view)

  pub rests : AreKeptLocks s.ls s.fs s.gs (i + 1)
  rests = halls.rests of_future of_guard AreKept (λ e. e.things) s.ls s.fs s.gs s.next i s.kept s.later s.fits

  -- ---- a lock is made
  pub made : (l : NamedLock) (value most : ℕ) → IsNewLock l value most
      → AreKeptLocks (insert s.ls i (record { lock = l; named = true; things = 0; plain = 0 })) s.fs s.gs (i + 1)
      × PartRests registered old i (act_in old.hall i (Make value most)) answers.Made (part_of (insert s.ls i (record { lock = l; named = true; things = 0; plain = 0 })) s.fs s.gs (i + 1))
  made l value most new =
      let e : KeptLock = record { lock = l; named = true; things = 0; plain = 0 } in
      let absent = halls.no_object of_future of_guard AreKept (λ e. e.things) s.ls s.fs s.gs s.next i s.kept s.later s.fits in
      let nothing : weight (λ o e. waiters e) i (get s.ls i) ≡ 0 = ap (weight (λ o e. waiters e) i) absent in
      let nobody : length l.permits.queue ≡ 0 = ap (λ (l : NamedLock). length l.permits.queue) new.lock in (
        halls.makes of_future of_guard AreKept (λ e. e.things) s.ls s.fs s.gs s.next i s.kept s.later s.fits (record { lock = l; named = true; things = 0; plain = 0 }) (one.new_kept l value most new) refl,
        rests_as (λ h. act_in h i (Make value most)) _ answers.Made (insert s.ls i (record { lock = l; named = true; things = 0; plain = 0 })) s.fs s.gs refl refl
            (seen-insert lock_seen s.ls i (record { lock = l; named = true; things = 0; plain = 0 }) ∙ ap (insert (seen lock_seen s.ls) i) (λ j. record {
              value = ap (λ (l : NamedLock). l.value) new.lock j;
              most = ap (λ (l : NamedLock). l.most) new.lock j;
              free = ap (λ (l : NamedLock). l.permits.free) new.lock j;
              queue = ap (λ (l : NamedLock). names_in l.permits.queue) new.lock j;
              named = true;
            })) refl refl refl
            (omega (arith, nothing, nobody, total-insert (λ o e. waiters e) s.ls i (record { lock = l; named = true; things = 0; plain = 0 }))),
      )

  -- ---- what is kept of a lock
  module _ (o : ℕ) (e : KeptLock) (there : get s.ls o ≡ Some e) where
    pub its_kept : AreKept e (own of_future o s.fs) (own of_guard o s.gs)
    its_kept = s.kept.each o e there

    pub its_room : (before : Waking ℕ) → registered old.hall ≤ before.registered → waiters e ≤ before.registered
    its_room before room =
        let all : registered old.hall ≡ waiting_in s.ls = ap (λ (p : Part Locks). registered p.hall) (sym s.view) ∙ registered_is s.ls s.fs s.gs in
        omega (arith, room, all, total-has (λ o e. waiters e) s.ls o e there)

    pub few_things : (e.things + 1 < 2 ^ 128) × (e.plain + 1 < 2 ^ 128)
    few_things =
        let low = s.kept.below o e there in
        let all = s.kept.low in
        let plain = one.plain_least e _ _ its_kept in (omega (arith, low.1), omega (arith, low.1))

    pub things_are : things_of old.hall o ≡ e.things
    things_are = things_of_it s.ls s.fs s.gs s.next s.view s.kept o e there

    pub found_lock : (act : Lock → Outcome Locks) → found (get (seen lock_seen s.ls) o) (locks_seen s.ls s.fs s.gs) act ≡ act (lock_seen e)
    found_lock act = found_is _ (locks_seen s.ls s.fs s.gs) act (lock_seen e) (seen-at lock_seen s.ls o e there)

    -- how many wait where the lock is e' now
    pub waiting_now : (e' : KeptLock) → waiting_in (insert s.ls o e') + waiters e ≡ waiting_in s.ls + waiters e'
    waiting_now e' =
        let here : weight (λ o e. waiters e) o (get s.ls o) ≡ waiters e = ap (weight (λ o e. waiters e) o) there in
        omega (arith, here, total-insert (λ o e. waiters e) s.ls o e')

    pub turns : (e' : KeptLock) (fs' : Names KeptFuture) (gs' : Names GuardEntry) → Moves of_future o i s.fs fs' → Moves of_guard o i s.gs gs' → AreKept e' (own of_future o fs') (own of_guard o gs') → e'.things ≤ e.things + 1
        → AreKeptLocks (insert s.ls o e') fs' gs' (i + 1)
    turns e' fs' gs' firsts seconds good few = halls.turns of_future of_guard AreKept (λ e. e.things) s.ls s.fs s.gs s.next i s.kept s.later s.fits o e e' fs' gs' there firsts seconds good few

    -- ---- the lock is e' now, or gone where that is over
    module _ (e' : KeptLock) (fs' : Names KeptFuture) (gs' : Names GuardEntry) (firsts : Moves of_future o i s.fs fs') (seconds : Moves of_guard o i s.gs gs') (good : AreKept e' (own of_future o fs') (own of_guard o gs')) (few : e'.things ≤ e.things + 1) where
      abbrev pub tidied : Bool → Names KeptLock
      tidied over = if over then remove (insert s.ls o e') o else insert s.ls o e'

      pub tidied_kept : (over : Bool) → is_over e' ≡ over → AreKeptLocks (tidied over) fs' gs' (i + 1)
      tidied_kept true is =
          let none = (over_is e'.named e'.things is).1 in
          rw put_gone (halls.goes_out of_future of_guard AreKept (λ e. e.things) s.ls s.fs s.gs s.next i s.kept s.later s.fits o e fs' gs' there firsts seconds (omega (arith, none, good.things)) (omega (arith, none, good.things)))
      tidied_kept false is = turns e' fs' gs' firsts seconds good few

      pub tidied_seen : (over : Bool) → is_over e' ≡ over → seen lock_seen (tidied over) ≡ tidied_locks (seen lock_seen s.ls) o (lock_seen e') (things_of (record { locks = seen lock_seen s.ls; futures = seen future_seen fs'; guards = seen guard_seen gs' }) o)
      tidied_seen over is = by_over over is ∙ ap (tidied_locks (seen lock_seen s.ls) o (lock_seen e')) (good.things ∙ sym (things_seen s.ls fs' gs' o))
        where
          by_name : (named : Bool) (over : Bool) → (not named && e'.things == 0) ≡ over → seen lock_seen (tidied over) ≡ (if named then insert (seen lock_seen s.ls) o (lock_seen e') else if e'.things == 0 then remove (seen lock_seen s.ls) o else insert (seen lock_seen s.ls) o (lock_seen e'))
          by_name true true is = absurd (cc)
          by_name true false is = seen-insert lock_seen s.ls o e'
          by_name false true is = rw is (ap (seen lock_seen) (put_gone s.ls o e') ∙ seen-remove lock_seen s.ls o)
          by_name false false is = rw is (seen-insert lock_seen s.ls o e')

          by_over : (over : Bool) → is_over e' ≡ over → seen lock_seen (tidied over) ≡ tidied_locks (seen lock_seen s.ls) o (lock_seen e') e'.things
          by_over over is = by_name e'.named over is

      pub waiting_tidied : (over : Bool) → is_over e' ≡ over → waiting_in (tidied over) + waiters e ≡ waiting_in s.ls + waiters e'
      waiting_tidied true is =
          let none = (over_is e'.named e'.things is).1 in
          let nobody : waiters e' ≡ 0 = ap length (one.no_queue e' _ _ good none) in
          let here : weight (λ o e. waiters e) o (get s.ls o) ≡ waiters e = ap (weight (λ o e. waiters e) o) there in
          let gone : waiting_in (remove (insert s.ls o e') o) ≡ waiting_in (remove s.ls o) = ap waiting_in (put_gone s.ls o e') in
          omega (arith, gone, nobody, here, total-remove (λ o e. waiters e) s.ls o)
      waiting_tidied false is = waiting_now e'

    -- a look alone changes nothing
    pub unchanged : (AreKeptLocks (insert s.ls o e) s.fs s.gs s.next) × (part_of (insert s.ls o e) s.fs s.gs s.next ≡ old)
    unchanged = rw (insert_same s.ls o e there) (s.kept, s.view)

    pub over_there : (e' : KeptLock) → IsSome (get (insert s.ls o e') o)
    over_there e' = is_there _ e' (get-there s.ls o e')

    -- ---- its value, and its name
    abbrev pub revalue : ℕ → Bool → KeptLock
    revalue v named = record e { lock = record e.lock { value = v }; named = named }

    pub valued : (v : ℕ) → AreKeptLocks (insert s.ls o (revalue v e.named)) s.fs s.gs (i + 1)
    valued v = turns (revalue v e.named) s.fs s.gs Stays Stays (one.revalued e _ _ its_kept v e.named) (omega arith)

    writes_by : (out : Locks → Outcome Locks) (v : ℕ) → out (locks_seen s.ls s.fs s.gs) ≡ model.write (locks_seen s.ls s.fs s.gs) o v (lock_seen e) → PartRests registered old i (out old.hall) answers.Done (part_of (insert s.ls o (revalue v e.named)) s.fs s.gs (i + 1))
    writes_by out v is = rests_as out _ answers.Done (insert s.ls o (revalue v e.named)) s.fs s.gs is refl (seen-insert lock_seen s.ls o (revalue v e.named)) refl refl refl (let now = waiting_now (revalue v e.named) in omega (arith, now))

    pub put : (v : ℕ) → PartRests registered old i (act_in old.hall i (Put o v)) answers.Done (part_of (insert s.ls o (revalue v e.named)) s.fs s.gs (i + 1))
    put v = writes_by (λ h. act_in h i (Put o v)) v (found_lock _)

    tells_by : (out : Locks → Outcome Locks) → out (locks_seen s.ls s.fs s.gs) ≡ model.tell (locks_seen s.ls s.fs s.gs) (lock_seen e) → PartRests registered old i (out old.hall) (answers.Value e.lock.value) (part_of s.ls s.fs s.gs (i + 1))
    tells_by out is = rests_as out _ (answers.Value e.lock.value) s.ls s.fs s.gs is refl refl refl refl refl refl

    pub peeked : (AreKeptLocks (insert s.ls o e) s.fs s.gs (i + 1)) × PartRests registered old i (act_in old.hall i (Peek o)) (answers.Value e.lock.value) (part_of (insert s.ls o e) s.fs s.gs (i + 1))
    peeked = rw (insert_same s.ls o e there) (rests, tells_by (λ h. act_in h i (Peek o)) (found_lock _))

    pub dropped : (over : Bool) → is_over (record e { named = false }) ≡ over
        → (AreKeptLocks (if over then remove (insert s.ls o (record e { named = false })) o else insert s.ls o (record e { named = false })) s.fs s.gs (i + 1))
        × PartRests registered old i (act_in old.hall i (Drop o)) answers.Done (part_of (if over then remove (insert s.ls o (record e { named = false })) o else insert s.ls o (record e { named = false })) s.fs s.gs (i + 1))
    dropped over is =
        let good = one.revalued e _ _ its_kept e.lock.value false in
        let counted = waiting_tidied (record e { named = false }) s.fs s.gs Stays Stays good (omega arith) over is in (
          tidied_kept (record e { named = false }) s.fs s.gs Stays Stays good (omega arith) over is,
          rests_as (λ h. act_in h i (Drop o)) _ answers.Done _ s.fs s.gs (found_lock _) refl (tidied_seen (record e { named = false }) s.fs s.gs Stays Stays good (omega arith) over is) refl refl refl (omega (arith, counted)),
        )

    -- ---- it is taken out
    module _ (alone : things_of old.hall o ≡ 0) where
      nothing : e.things ≡ 0
      nothing = sym things_are ∙ alone

      pub is_idle : e.lock.permits.free ≡ e.lock.most
      is_idle = one.idle e _ _ its_kept nothing

      pub taken : (AreKeptLocks (remove s.ls o) s.fs s.gs (i + 1)) × PartRests registered old i (act_in old.hall i (Take o)) (answers.Value e.lock.value) (part_of (remove s.ls o) s.fs s.gs (i + 1))
      taken =
          let none = nothing in
          let nobody : waiters e ≡ 0 = ap length (one.no_queue e _ _ its_kept nothing) in
          let here : weight (λ o e. waiters e) o (get s.ls o) ≡ waiters e = ap (weight (λ o e. waiters e) o) there in (
            halls.goes_out of_future of_guard AreKept (λ e. e.things) s.ls s.fs s.gs s.next i s.kept s.later s.fits o e s.fs s.gs there Stays Stays (omega (arith, none, its_kept.things)) (omega (arith, none, its_kept.things)),
            rests_as (λ h. act_in h i (Take o)) _ (answers.Value e.lock.value) (remove s.ls o) s.fs s.gs (found_lock _) refl (seen-remove lock_seen s.ls o) refl refl refl (omega (arith, nobody, here, total-remove (λ o e. waiters e) s.ls o)),
          )

    -- ---- a future of it is made
    pub begins : (plain write : Bool) (x : KeptFuture) → x ≡ record { lock = o; plain = plain; wait = x.wait; of_condvar = false; holds = false } → IsNewWait e.lock write x.wait
        → (AreKeptLocks (insert s.ls o (begun e plain)) (insert s.fs i x) s.gs (i + 1)) × PartRests registered old i (act_in old.hall i (Begin o plain write)) answers.Made (part_of (insert s.ls o (begun e plain)) (insert s.fs i x) s.gs (i + 1))
    begins plain write x is new =
        let mine : x.lock ≡ o = ap (λ (x : KeptFuture). x.lock) is in
        let alike : x.plain ≡ plain = ap (λ (x : KeptFuture). x.plain) is in
        let alone : x.of_condvar ≡ false = ap (λ (x : KeptFuture). x.of_condvar) is in
        let waits : x.holds ≡ false = ap (λ (x : KeptFuture). x.holds) is in
        let counted = waiting_now (begun e plain) in (
          turns (begun e plain) (insert s.fs i x) s.gs (Comes i x (omega arith) mine (λ y had. absurd (let none = no_future in cc))) Stays
              (rw (own-put of_future o s.fs i x mine) (subst (λ b. AreKept (begun e b) (insert (own of_future o s.fs) i x) (own of_guard o s.gs)) alike
              (one.begins e _ _ its_kept i x write (own-none of_future o s.fs i no_future) alone waits new))) (omega arith),
          rests_as (λ h. act_in h i (Begin o plain write)) _ answers.Made (insert s.ls o (begun e plain)) (insert s.fs i x) s.gs refl refl
              (seen-alike lock_seen s.ls o e (begun e plain) there refl)
              (seen-insert future_seen s.fs i x ∙ ap (insert (seen future_seen s.fs) i) (λ j. record { lock = mine j; plain = alike j; writes = new.writes j; polled = polled_by x.holds (is_polled x.wait) waits new.unpolled j; of_condvar = alone j })) refl refl (omega (arith, counted)),
        )

    -- ---- a try
    module _ (plain write : Bool) where
      abbrev taker : GuardEntry
      taker = record { lock = o; plain = plain; writes = write }

      abbrev taken_now : KeptLock
      taken_now = record e { lock = record e.lock { permits = record e.lock.permits { free = e.lock.permits.free - share_of e.lock write }; writing = write } }

      pub try_holds : share_of e.lock write ≤ e.lock.permits.free → (l : NamedLock) → TakesLock e.lock write l
          → (AreKeptLocks (insert s.ls o (begun (record e { lock = l }) plain)) s.fs (insert s.gs i taker) (i + 1))
          × PartRests registered old i (act_in old.hall i (Try o plain write)) answers.Held (part_of (insert s.ls o (begun (record e { lock = l }) plain)) s.fs (insert s.gs i taker) (i + 1))
      try_holds enough l takes =
          let not_few : nat_lt e.lock.permits.free (share_of e.lock write) ≡ false = grind (arith, nat_tests, enough) in
          let counted = waiting_now (begun taken_now plain) in
          rw takes.lock (
            turns (begun taken_now plain) s.fs (insert s.gs i taker) Stays (Comes i taker (omega arith) refl (λ y had. absurd (let none = no_guard in cc)))
                (rw (own-put of_guard o s.gs i taker refl) (one.tries e _ _ its_kept i taker l (own-none of_guard o s.gs i no_guard) takes)) (omega arith),
            rests_as (λ h. act_in h i (Try o plain write)) _ answers.Held (insert s.ls o (begun taken_now plain)) s.fs (insert s.gs i taker) (found_lock _ ∙ if_false _ _ _ not_few) refl
                (seen-insert lock_seen s.ls o (begun taken_now plain)) refl (seen-insert guard_seen s.gs i taker) refl (omega (arith, counted)),
          )

      pub try_lacks : e.lock.permits.free < share_of e.lock write → (gs' : Names GuardEntry) → gs' ≡ s.gs
          → (AreKeptLocks (insert s.ls o e) s.fs gs' (i + 1)) × PartRests registered old i (act_in old.hall i (Try o plain write)) answers.Lacking (part_of (insert s.ls o e) s.fs gs' (i + 1))
      try_lacks few gs' is =
          let is_few : nat_lt e.lock.permits.free (share_of e.lock write) ≡ true = grind (arith, nat_tests, few) in
          rw (is, insert_same s.ls o e there) (
            rests,
            rests_as (λ h. act_in h i (Try o plain write)) _ answers.Lacking s.ls s.fs s.gs (found_lock _ ∙ if_true _ _ _ is_few) refl refl refl refl refl refl,
          )

  -- ---- by a guard
  module _ (g : ℕ) (x : GuardEntry) (e : KeptLock) (guard : get s.gs g ≡ Some x) (there : get s.ls x.lock ≡ Some e) where
    own_guard : get (own of_guard x.lock s.gs) g ≡ Some x
    own_guard = own-at of_guard x.lock s.gs g x guard refl

    pub is_held : IsHeldAs e.lock x.writes
    is_held = one.guard_held e _ _ (its_kept x.lock e there) g x own_guard

    pub guard_few : (1 ≤ e.things) × (cond x.plain 1 0 ≤ e.plain)
    guard_few =
        let k = its_kept x.lock e there in (
          omega (arith, k.things, len-some (own of_guard x.lock s.gs) g x own_guard),
          omega (arith, k.plain, count-gone (own of_guard x.lock s.gs) g (λ (x : GuardEntry). x.plain) x own_guard),
        )

    found_guard : (act : LockGuard → Lock → Outcome Locks) → found (get (seen guard_seen s.gs) g) (locks_seen s.ls s.fs s.gs) (λ y. found (get (seen lock_seen s.ls) y.lock) (locks_seen s.ls s.fs s.gs) (act y)) ≡ act (guard_seen x) (lock_seen e)
    found_guard act = found_is _ (locks_seen s.ls s.fs s.gs) _ (guard_seen x) (seen-at guard_seen s.gs g x guard) ∙ found_lock x.lock e there (act (guard_seen x))

    pub got : PartRests registered old i (act_in old.hall i (Get g)) (answers.Value e.lock.value) (part_of s.ls s.fs s.gs (i + 1))
    got = tells_by x.lock e there (λ h. act_in h i (Get g)) (found_guard (λ y r. model.tell (locks_seen s.ls s.fs s.gs) r))

    pub set : (v : ℕ) → PartRests registered old i (act_in old.hall i (Set g v)) answers.Done (part_of (insert s.ls x.lock (revalue x.lock e there v e.named)) s.fs s.gs (i + 1))
    set v = writes_by x.lock e there (λ h. act_in h i (Set g v)) v (found_guard (λ y r. model.write (locks_seen s.ls s.fs s.gs) y.lock v r))

    -- ---- it is handed over to a wait on a condition variable
    module _ (writes : x.writes ≡ true) (y : KeptFuture) (is : y ≡ record { lock = x.lock; plain = x.plain; wait = y.wait; of_condvar = true; holds = true }) (new : IsNewWait e.lock true y.wait) where
      handed_kept : AreKeptLocks s.ls (insert s.fs i y) (remove s.gs g) (i + 1)
      handed_kept =
          let mine : y.lock ≡ x.lock = ap (λ (y : KeptFuture). y.lock) is in
          subst (λ ls. AreKeptLocks ls (insert s.fs i y) (remove s.gs g) (i + 1)) (insert_same s.ls x.lock e there)
          (turns x.lock e there e (insert s.fs i y) (remove s.gs g) (Comes i y (omega arith) mine (λ z had. absurd (let none = no_future in cc))) (Goes g (λ z is. ap of_guard (inside (sym is ∙ guard))))
          (rw (own-put of_future x.lock s.fs i y mine, own-gone of_guard x.lock s.gs g)
          (one.hands e _ _ (its_kept x.lock e there) i y g x (own-none of_future x.lock s.fs i no_future) own_guard writes (ap (λ (y : KeptFuture). y.plain) is) (ap (λ (y : KeptFuture). y.of_condvar) is) (ap (λ (y : KeptFuture). y.holds) is) new)) (omega arith))

      handed_seen : future_seen y ≡ record { lock = x.lock; plain = x.plain; writes = x.writes; polled = true; of_condvar = true }
      handed_seen = λ j. record {
        lock = ap (λ (y : KeptFuture). y.lock) is j;
        plain = ap (λ (y : KeptFuture). y.plain) is j;
        writes = (new.writes ∙ sym writes) j;
        polled = ap (λ b. b || is_polled y.wait) (ap (λ (y : KeptFuture). y.holds) is) j;
        of_condvar = ap (λ (y : KeptFuture). y.of_condvar) is j;
      }

      pub handed : (AreKeptLocks s.ls (insert s.fs i y) (remove s.gs g) (i + 1)) × PartRests registered old i (act_in old.hall i (Hand g)) answers.Made (part_of s.ls (insert s.fs i y) (remove s.gs g) (i + 1))
      handed = (
        handed_kept,
        rests_as (λ h. act_in h i (Hand g)) _ answers.Made s.ls (insert s.fs i y) (remove s.gs g) (found_guard (λ z r. model.hand (locks_seen s.ls s.fs s.gs) i g z)) refl refl
            (seen-insert future_seen s.fs i y ∙ ap (insert (seen future_seen s.fs) i) handed_seen) (seen-remove guard_seen s.gs g) refl refl,
      )

    -- ---- it ends
    module _ (alone : get old.hall.futures g ≡ None) (l : NamedLock) (e' : KeptLock) (before after : Waking ℕ) (unlocks : UnlocksLock e.lock x.writes l) (settles : Settles e l e' before after) where
      abbrev unlocked : KeptLock
      unlocked = one.gave_back e (own of_future x.lock s.fs) (own of_guard x.lock s.gs) (its_kept x.lock e there) (share_of e.lock x.writes)

      unlocked_is : e' ≡ unlocked
      unlocked_is = settles.entry ∙ ap (λ l. record e { lock = settled l }) unlocks.lock

      guard_good : AreKept (finished unlocked x.plain) (own of_future x.lock s.fs) (own of_guard x.lock (remove s.gs g))
      guard_good = rw (own-gone of_guard x.lock s.gs g) (one.unlocks e _ _ (its_kept x.lock e there) g x l own_guard unlocks)

      guard_goes : Moves of_guard x.lock i s.gs (remove s.gs g)
      guard_goes = Goes g (λ y is. ap of_guard (inside (sym is ∙ guard)))

      pub guard_ended : (over : Bool) → is_over (finished e' x.plain) ≡ over
          → (AreKeptLocks (if over then remove (insert s.ls x.lock (finished e' x.plain)) x.lock else insert s.ls x.lock (finished e' x.plain)) s.fs (remove s.gs g) (i + 1))
          × PartYields registered old i (act_in old.hall i (End g)) answers.Done (part_of (if over then remove (insert s.ls x.lock (finished e' x.plain)) x.lock else insert s.ls x.lock (finished e' x.plain)) s.fs (remove s.gs g) (i + 1)) before after
      guard_ended over is =
          let over_now : is_over (finished unlocked x.plain) ≡ over = ap (λ e. is_over (finished e x.plain)) (sym unlocked_is) ∙ is in
          let counted = waiting_tidied x.lock e there (finished unlocked x.plain) s.fs (remove s.gs g) Stays guard_goes guard_good (omega arith) over over_now in
          let queue = ap (λ (l : NamedLock). length l.permits.queue) unlocks.lock in
          rw unlocked_is (
            tidied_kept x.lock e there (finished unlocked x.plain) s.fs (remove s.gs g) Stays guard_goes guard_good (omega arith) over over_now,
            yields_as (λ h. act_in h i (End g)) _ answers.Done _ s.fs (remove s.gs g) before after
                (ap (model.end_by (locks_seen s.ls s.fs s.gs) g) (ap (λ (p : Part Locks). get p.hall.futures g) s.view ∙ alone) ∙ found_guard (model.end_guard (locks_seen s.ls s.fs s.gs) g)) refl
                (tidied_seen x.lock e there (finished unlocked x.plain) s.fs (remove s.gs g) Stays guard_goes guard_good (omega arith) over over_now
                ∙ (λ j. tidied_locks (seen lock_seen s.ls) x.lock (one.given_seen e _ _ (its_kept x.lock e there) (share_of e.lock x.writes) j) (things_of (record { locks = seen lock_seen s.ls; futures = seen future_seen s.fs; guards = seen-remove guard_seen s.gs g j }) x.lock)))
                refl (seen-remove guard_seen s.gs g)
                (settles.wakers ∙ ap (λ ws. before.wakers ++ ws) (ap (λ (l : NamedLock). map (λ (k : NamedWaker). k.waker) l.permits.wakes) unlocks.lock ∙ one.given_woken e _ _ (its_kept x.lock e there) (share_of e.lock x.writes)))
                (omega (arith, counted, queue, settles.counted)),
          )

    -- ---- it reads from now on
    module _ (writes : x.writes ≡ true) (l : NamedLock) (e' : KeptLock) (before after : Waking ℕ) (lowers : LowersLock e.lock l) (settles : Settles e l e' before after) where
      abbrev reading : GuardEntry
      reading = record x { writes = false }

      abbrev lowered_now : KeptLock
      lowered_now = one.gave_back e (own of_future x.lock s.fs) (own of_guard x.lock s.gs) (its_kept x.lock e there) (e.lock.most - 1)

      lowered_is : e' ≡ lowered_now
      lowered_is = settles.entry ∙ ap (λ l. record e { lock = settled l }) lowers.lock

      pub lowered : (AreKeptLocks (insert s.ls x.lock e') s.fs (insert s.gs g reading) (i + 1)) × PartYields registered old i (act_in old.hall i (Lower g)) answers.Done (part_of (insert s.ls x.lock e') s.fs (insert s.gs g reading) (i + 1)) before after
      lowered =
          let counted = waiting_now x.lock e there lowered_now in
          let queue = ap (λ (l : NamedLock). length l.permits.queue) lowers.lock in
          rw lowered_is (
            turns x.lock e there lowered_now s.fs (insert s.gs g reading) Stays (Comes g reading (omega (arith, (s.kept.seconds.at g x guard).0, s.later)) refl (λ y is. ap of_guard (inside (sym is ∙ guard))))
                (rw (own-put of_guard x.lock s.gs g reading refl) (one.lowers e _ _ (its_kept x.lock e there) g x l own_guard writes lowers)) (omega arith),
            yields_as (λ h. act_in h i (Lower g)) _ answers.Done (insert s.ls x.lock lowered_now) s.fs (insert s.gs g reading) before after (found_guard (model.lower (locks_seen s.ls s.fs s.gs) g)) refl
                (seen-insert lock_seen s.ls x.lock lowered_now ∙ ap (insert (seen lock_seen s.ls) x.lock) (one.given_seen e _ _ (its_kept x.lock e there) (e.lock.most - 1))) refl (seen-insert guard_seen s.gs g reading)
                (settles.wakers ∙ ap (λ ws. before.wakers ++ ws) (ap (λ (l : NamedLock). map (λ (k : NamedWaker). k.waker) l.permits.wakes) lowers.lock ∙ one.given_woken e _ _ (its_kept x.lock e there) (e.lock.most - 1)))
                (omega (arith, counted, queue, settles.counted)),
          )

-- ---- no lock
pub new_kept : AreKeptLocks empty empty empty 0
new_kept = record {
  each = λ o e there. absurd (nothing_at KeptLock o e there);
  below = λ o e there. absurd (nothing_at KeptLock o e there);
  firsts = record { at = λ k x there. absurd (nothing_at KeptFuture k x there) };
  seconds = record { at = λ k x there. absurd (nothing_at GuardEntry k x there) };
  low = omega arith;
}

pub new_view : ◌≡◌ {A = Part Locks} (part_of empty empty empty 0) (record { hall = model.no_locks; next = 0 })
new_view j = record { hall = record { locks = seen-empty lock_seen j; futures = seen-empty future_seen j; guards = seen-empty guard_seen j }; next = 0 }
