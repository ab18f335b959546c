-- no event of a generated round has a cause for refusal
use Rattle.std.proofs.Common.{◌≡◌, ℕ, ◌+◌, ◌-◌, ◌<◌, ◌≤◌, ◌^◌, ◌==◌, ◌||◌, inl, inr, Bool, true, false, cond, List, [], ◌∷◌, ◌++◌, Option, Some, None, refl, ap, sym, subst, ◌∙◌, arith, is_some, if◌then◌else◌, nat_lt}
use Rattle.std.specs.Option.{IsSome, option_map}
use Rattle.std.specs.FinMap.{get, insert}
use Rattle.std.proofs.lemmas.Bool.{eq-eqb, ne_eqb, lt-leb, lt-ltb}
use Rattle.mea_family.specs.declared.answer.Answer.TheVariants as answers
use Rattle.mea_family.specs.declared.stop.Stop.TheVariants as stops
use Rattle.mea_family.specs.Causes.{unknown_unless}
use Rattle.mea_family.specs.Family.{is_pending}
use Rattle.mea_family.proofs.Refusals.{is_known}
use Rattle.mea_base.proofs.Maps.{by_put, value_in, is_there, is_absent, get-there, get-gone}
use Rattle.mea_base.proofs.Tests.{by_name}
use Rattle.mea_base.specs.Queue.{granted_in}
use Rattle.mea_base.proofs.Totals.{total-zero}
use Rattle.mea_events.specs.declared.sem_event.SemEvent.{SemEvent}
use Rattle.mea_events.specs.declared.sem_event.SemEvent.TheVariants as events
use Rattle.mea_sem_model.specs.Hall.{Hall, Semaphore, Future, Permit, FutureStage, New, Waiting, Granted, Cut, Waiter, semaphore_at, is_closed, queue_at, lack_of, paid_to, free, live, poured, granted, pour, with_semaphore}
use Rattle.mea_sem_model.specs.Cause.{is_named, is_named_semaphore, is_future, is_permit, cause_of}
use Rattle.mea_sem_model.specs.Step.{Outcome, quietly, without_future, forgetting, forgetting_exactly, taking, made_ready, queueing, refusing, open_poll, poll_at, poll_of, without, leaving, end_future, end_of, released_to, step}
use Rattle.mea_sem_model.specs.Valid.{IsValid, IsBelow, Fits}
use Rattle.mea_sem_model.specs.Runs.{waker_in, made_by, released_by}
use Rattle.mea_sem_model.specs.Order.{acquire_in, ends}
use Rattle.mea_sem_model.proofs.HallLemmas.{by_semaphore, semaphore_named, among, get-grant_all}
use Rattle.mea_sem_model.proofs.Matched.{matched}
use Rattle.mea_sem_model.proofs.Orderly.{orderly}
use Rattle.mea_sem_model.proofs.Events.{line}
use Rattle.mea_sem_model.proofs.Keeps.{keeps_below}
use Rattle.mea_sem_model.proofs.StaysValid.{rises, kept_valid}
use Rattle.mea_sem_model.proofs.Granting.{Granting, grants}
use Rattle.mea_run.specs.Generated.{is_semaphore_poll, IsBetweenRounds}

-- what an event makes of a hall, of which nothing is computed, so that no term grows with the events of a round
unfoldable pub played : Hall → ℕ → SemEvent → Outcome
played h i e = step h i e

-- ---- events one after another
-- all these events are played, and each poll among them replies `pending`
abbrev pub AllPlay : Hall → ℕ → List SemEvent → Type 0
AllPlay h i [] = Unit {0}
AllPlay h i (e ∷ es) = (cause_of h e ≡ None) × (is_semaphore_poll e ≡ true → (played h i e).reply ≡ answers.Pending)
    × (is_pending (played h i e).reply ≡ is_semaphore_poll e)
    × AllPlay (played h i e).hall (i + 1) es

-- the hall after these events
abbrev pub after : Hall → ℕ → List SemEvent → Hall
after h i [] = h
after h i (e ∷ es) = after (played h i e).hall (i + 1) es

-- and the number of the event that follows them
abbrev pub number_after : ℕ → List SemEvent → ℕ
number_after i [] = i
number_after i (e ∷ es) = number_after (i + 1) es

-- all these events are played, and they leave a hall of this kind
pub record PlaysTo (h : Hall) (i : ℕ) (es : List SemEvent) (left : Hall → ℕ → Type 0) : Type 0 where
  pub plays : AllPlay h i es
  pub leaves : left (after h i es) (number_after i es)

-- ---- the futures after an event that polls nobody
module _ (h : Hall) (i : ℕ) (e : SemEvent) (v : IsValid h) (low : IsBelow h i) (cause : cause_of h e ≡ None) (quiet : (f : ℕ) → waker_in e f ≡ None) where
  given : Granting h (played h i e) i e
  unfolding played
  given = grants h i (matched h v) (orderly h v) low e cause quiet

  -- each stays but for one that it ends
  stays : (f : ℕ) → IsSome (get h.futures f) → ends e f ≡ false → IsSome (get (played h i e).hall.futures f)
  stays f some other = by_option (get (played h i e).hall.futures f) refl
    where
      by_option : (o : Option Future) → get (played h i e).hall.futures f ≡ o → IsSome o
      by_option None is = absurd (let ended = given.ended f some is in cc)
      by_option (Some x) is = refl

  -- and each was there, where it begins none
  were : acquire_in e ≡ None → (f : ℕ) → IsSome (get (played h i e).hall.futures f) → IsSome (get h.futures f)
  were none f some =
      let y = value_in (get (played h i e).hall.futures f) some in
      elim (given.each f y.0 y.1) [
        | inl x ↦ is_there (get h.futures f) x.0 x.1
        | inr new ↦ absurd (let begun = new.2 in cc)
      ]

-- ---- what holds within a round
-- semaphore 0 is named, and not closed
record Stands (h : Hall) : Type 0 where
  named : is_named h 0 ≡ true
  is_open : is_closed h 0 ≡ false

-- semaphore 0 is named and open, no permit lives, and at most b permits of it are free, held or paid
record Going (h : Hall) (i b : ℕ) : Type 0 where
  valid : IsValid h
  below : IsBelow h i
  stands : Stands h
  no_permit : (p : ℕ) → get h.permits p ≡ None
  few : live h 0 ≤ b

-- an event is played with no cause for refusal, a poll alone replies `pending`, semaphore 0 stands after it, no permit comes to live, and at
-- most c permits come to be free, held or paid
record Goes (h : Hall) (i c : ℕ) (e : SemEvent) : Type 0 where
  fits : Fits e
  cause : cause_of h e ≡ None
  comes : made_by 0 (line h i e) e + released_by 0 e ≤ c
  stands : Stands (played h i e).hall
  permits : (played h i e).hall.permits ≡ h.permits
  waits : is_semaphore_poll e ≡ true → (played h i e).reply ≡ answers.Pending
  reply : is_pending (played h i e).reply ≡ is_semaphore_poll e

-- and others after it, in each hall that is as it leaves its own
next : (h : Hall) (i c : ℕ) (e : SemEvent) (es : List SemEvent) (before : Hall → Type 0) (left : Hall → ℕ → Type 0) → Goes h i c e → before (played h i e).hall
    → ((k : Hall) → before k → PlaysTo k (i + 1) es left) → PlaysTo h i (e ∷ es) left
next h i c e es before left goes here later =
    let all = later (played h i e).hall here in
    record { plays = (goes.cause, goes.waits, goes.reply, all.plays); leaves = all.leaves }

goes_on : (h : Hall) (i b c limit : ℕ) (e : SemEvent) → Going h i b → Goes h i c e → b + c ≤ limit → Going (played h i e).hall (i + 1) limit
unfolding played
goes_on h i b c limit e g goes most = record {
  valid = kept_valid h i e g.valid g.below goes.fits goes.cause;
  below = keeps_below h i e g.valid g.below goes.cause;
  stands = goes.stands;
  no_permit = λ p. ap (λ m. get m p) goes.permits ∙ g.no_permit p;
  few = let rise = rises h i e (matched h g.valid) (orderly h g.valid) g.below goes.cause 0 in let old = g.few in let comes = goes.comes in omega (arith, rise, old, comes, most);
}

-- an event that is no poll
goes_still : (h : Hall) (i c : ℕ) (e : SemEvent) → is_semaphore_poll e ≡ false → Fits e → cause_of h e ≡ None → made_by 0 (line h i e) e + released_by 0 e ≤ c
    → Stands (played h i e).hall → (played h i e).hall.permits ≡ h.permits → is_pending (played h i e).reply ≡ false → Goes h i c e
goes_still h i c e no_poll fits cause comes stands permits replied = record {
  fits = fits;
  cause = cause;
  comes = comes;
  stands = stands;
  permits = permits;
  waits = λ poll. absurd (cc);
  reply = replied ∙ sym no_poll;
}

-- a semaphore that is put where one was keeps the name, and stays open
still_stands : (h : Hall) (q : ℕ) (r : Semaphore) → r.named ≡ (semaphore_at h q).named → r.closed ≡ is_closed h q → Stands h → Stands (with_semaphore h q r)
still_stands h q r same as_open stands = record {
  named = by_put h.semaphores q r (λ k o. is_named h k ≡ true → is_named_semaphore o ≡ true)
      (λ e. same ∙ semaphore_named h q e) (λ k apart e. e) 0 stands.named;
  is_open = by_semaphore h q r (λ k y. is_closed h k ≡ false → y.closed ≡ false) (λ e. as_open ∙ e) (λ k apart e. e) 0 stands.is_open;
}

-- ---- a first poll that waits
module _ (h : Hall) (i f w : ℕ) (x : Future) (is : get h.futures f ≡ Some x) (new : x.stage ≡ New) (of : x.semaphore ≡ 0) (none : free h 0 ≡ 0)
    (some : 0 < x.demand) (stands : Stands h) where
  none_there : free h x.semaphore ≡ 0
  none_there = ap (free h) of ∙ none

  waits : played h i (events.Poll f w) ≡ quietly (queueing h f w x) answers.Pending
  unfolding played
  waits = ap (λ o. poll_of h i f w o) is ∙ ap (λ t. poll_at h i f w x t) new
      ∙ ap (λ b. if b then refusing h f else open_poll h i f w x) (ap (is_closed h) of ∙ stands.is_open)
      ∙ ap (λ b. if b then quietly (made_ready (with_semaphore h x.semaphore (taking (semaphore_at h x.semaphore) x.demand)) i f x) answers.Ready
      else quietly (queueing h f w x) answers.Pending) (lt-leb x.demand (free h x.semaphore) (omega (arith, some, none_there)))

  waits_hall : (played h i (events.Poll f w)).hall ≡ queueing h f w x
  waits_hall = ap (λ (o : Outcome). o.hall) waits

  waits_futures : (played h i (events.Poll f w)).hall.futures ≡ insert h.futures f (record x { stage = Waiting w })
  waits_futures = ap (λ (k : Hall). k.futures) waits_hall

  waits_reply : (played h i (events.Poll f w)).reply ≡ answers.Pending
  waits_reply = ap (λ (o : Outcome). o.reply) waits

  poll_goes : Goes h i 0 (events.Poll f w)
  poll_goes = record {
    fits = tt;
    cause = is_known (is_future h f) (is_there (get h.futures f) x is);
    comes = omega arith;
    stands =
        let with = still_stands h x.semaphore
        (record (semaphore_at h x.semaphore) { free = 0; queue = queue_at h x.semaphore ++ (Waiter f, x.demand - free h x.semaphore) ∷ [] }) refl refl stands in
        subst Stands (sym waits_hall) (record { named = with.named; is_open = with.is_open });
    permits = ap (λ (k : Hall). k.permits) waits_hall;
    waits = λ poll. waits_reply;
    reply = ap is_pending waits_reply;
  }

-- ---- the end of a future
pour_stands : (k : Hall) (q n : ℕ) → Stands k → Stands (pour k q n)
pour_stands k q n stands = let with = still_stands k q (poured (semaphore_at k q) n) refl refl stands in record { named = with.named; is_open = with.is_open }

module _ (h : Hall) (i f : ℕ) (x : Future) (is : get h.futures f ≡ Some x) where
  gone_pour : (k : Hall) (q n : ℕ) → get k.futures f ≡ None → get (pour k q n).futures f ≡ None
  gone_pour k q n none = get-grant_all (granted_in (queue_at k q) n) k.futures f
      ∙ ap (λ o. cond (among (granted_in (queue_at k q) n) f) (option_map granted o) o) none ∙ by_test (among (granted_in (queue_at k q) n) f)
    where
      by_test : (b : Bool) → cond b (option_map granted None) None ≡ None
      by_test true = refl
      by_test false = refl

  end_stands : (t : FutureStage) → Stands h → Stands (end_future h f x t).hall
  end_stands New stands = record { named = stands.named; is_open = stands.is_open }
  end_stands (Waiting u) stands =
      let left = still_stands h x.semaphore (record (semaphore_at h x.semaphore) { queue = without (queue_at h x.semaphore) f }) refl refl stands in
      pour_stands (leaving h f x) x.semaphore (x.demand - lack_of (queue_at h x.semaphore) f) (record { named = left.named; is_open = left.is_open })
  end_stands Granted stands = pour_stands (without_future h f) x.semaphore x.demand (record { named = stands.named; is_open = stands.is_open })
  end_stands Cut stands = record { named = stands.named; is_open = stands.is_open }

  permits_end : (t : FutureStage) → (end_future h f x t).hall.permits ≡ h.permits
  permits_end New = refl
  permits_end (Waiting u) = refl
  permits_end Granted = refl
  permits_end Cut = refl

  gone_end : (t : FutureStage) → get (end_future h f x t).hall.futures f ≡ None
  gone_end New = get-gone h.futures f
  gone_end (Waiting u) = gone_pour (leaving h f x) x.semaphore (x.demand - lack_of (queue_at h x.semaphore) f) (get-gone h.futures f)
  gone_end Granted = gone_pour (without_future h f) x.semaphore x.demand (get-gone h.futures f)
  gone_end Cut = get-gone h.futures f

  end_is : played h i (events.End f) ≡ end_future h f x x.stage
  unfolding played
  end_is = ap (λ o. end_of h f o) is

  reply_end : (t : FutureStage) → is_pending (end_future h f x t).reply ≡ false
  reply_end New = refl
  reply_end (Waiting u) = refl
  reply_end Granted = refl
  reply_end Cut = refl

  end_goes : Stands h → Goes h i 0 (events.End f)
  end_goes stands = goes_still h i 0 (events.End f) refl tt (ap (λ o. unknown_unless (if is_some o then true else is_permit h f)) is) (omega arith)
      (subst (λ (o : Outcome). Stands o.hall) (sym end_is) (end_stands x.stage stands)) (ap (λ (o : Outcome). o.hall.permits) end_is ∙ permits_end x.stage)
      (ap (λ (o : Outcome). is_pending o.reply) end_is ∙ reply_end x.stage)

  ends_gone : get (played h i (events.End f)).hall.futures f ≡ None
  ends_gone = ap (λ (o : Outcome). get o.hall.futures f) end_is ∙ gone_end x.stage

-- ---- the other events of a round
module _ (h : Hall) (i n : ℕ) (stands : Stands h) where
  named : unknown_unless (is_named h 0) ≡ None
  named = is_known (is_named h 0) stands.named

  -- an acquire, which is plain or owned
  acquire_goes : Goes h i 0 (events.Acq 0 n)
  unfolding played
  acquire_goes = goes_still h i 0 (events.Acq 0 n) refl tt named (omega arith) (record { named = stands.named; is_open = stands.is_open }) refl refl

  acquire_futures : (played h i (events.Acq 0 n)).hall.futures ≡ insert h.futures i (record { semaphore = 0; demand = n; plain = true; forgets = false; stage = New })
  unfolding played
  acquire_futures = refl

  owned_goes : Goes h i 0 (events.Acqo 0 n)
  unfolding played
  owned_goes = goes_still h i 0 (events.Acqo 0 n) refl tt named (omega arith) (record { named = stands.named; is_open = stands.is_open }) refl refl

  owned_futures : (played h i (events.Acqo 0 n)).hall.futures ≡ insert h.futures i (record { semaphore = 0; demand = n; plain = false; forgets = false; stage = New })
  unfolding played
  owned_futures = refl

  -- permits are forgotten, or released
  exactly_goes : Goes h i 0 (events.Forgetx 0 n)
  unfolding played
  exactly_goes = goes_still h i 0 (events.Forgetx 0 n) refl tt named (omega arith) (still_stands h 0 (forgetting_exactly (semaphore_at h 0) n) refl refl stands) refl refl

  release_goes : live h 0 + n < 2 ^ 64 → Goes h i n (events.Release 0 n)
  unfolding played
  release_goes few = goes_still h i n (events.Release 0 n) refl tt
      (ap (λ b. if b then (if nat_lt (live h 0 + n) (2 ^ 64) then None else Some stops.Overflow) else Some stops.Unknown) stands.named
      ∙ ap (λ b. if b then None else Some stops.Overflow) (lt-ltb (live h 0 + n) (2 ^ 64) few)) (omega arith)
      (pour_stands (released_to h 0 n) 0 n (still_stands h 0 (record (semaphore_at h 0) { released = (semaphore_at h 0).released + n }) refl refl stands)) refl refl

  forget_goes : Goes h i 0 (events.Forget 0 n)
  unfolding played
  forget_goes = goes_still h i 0 (events.Forget 0 n) refl tt named (omega arith) (still_stands h 0 (forgetting (semaphore_at h 0) n) refl refl stands) refl refl

  forget_free : free h 0 ≤ n → free (played h i (events.Forget 0 n)).hall 0 ≡ 0
  unfolding played
  forget_free few = by_semaphore h 0 (forgetting (semaphore_at h 0) n) (λ k y. k ≡ 0 → y.free ≡ 0) (λ e. omega (arith, few)) (λ k other e. absurd (other (sym e))) 0 refl

-- ---- which futures there are
-- within a round, where at most b permits are free, held or paid: these futures are there, and no others
record Holds (who : ℕ → Bool) (i b : ℕ) (h : Hall) : Type 0 where
  going : Going h i b
  there : (k : ℕ) → is_some (get h.futures k) ≡ who k

-- and f has begun
record Begun (f : ℕ) (x : Future) (who : ℕ → Bool) (i : ℕ) (h : Hall) : Type 0 where
  holds : Holds who i 0 h
  is : get h.futures f ≡ Some x

-- an acquire begins f
begins : (h : Hall) (i f : ℕ) (who : ℕ → Bool) (e : SemEvent) (x : Future) → i ≡ f → Holds who i 0 h → Goes h i 0 e → (played h i e).hall.futures ≡ insert h.futures i x
    → Begun f x (λ k. (f == k) || who k) (i + 1) (played h i e).hall
begins h i f who e x same old goes is = record {
  holds = record {
    going = goes_on h i 0 0 0 e old.going goes (omega arith);
    there = λ k. ap (λ m. is_some (get m k)) futures
        ∙ by_put h.futures f x (λ q o. is_some o ≡ ((f == q) || who q)) (sym (ap (λ b. b || who f) (eq-eqb f f refl)))
        (λ q apart. old.there q ∙ sym (ap (λ b. b || who q) (ne_eqb f q apart))) k;
  };
  is = ap (λ m. get m f) futures ∙ get-there h.futures f x;
}
  where
    futures : (played h i e).hall.futures ≡ insert h.futures f x
    futures = is ∙ ap (λ k. insert h.futures k x) same

-- nothing is free where nothing is live
none_free : (h : Hall) (i : ℕ) → Going h i 0 → free h 0 ≡ 0
none_free h i going = let few = going.few in omega (arith, few)

-- its first poll waits
begun_goes : (h : Hall) (i f w : ℕ) (x : Future) (who : ℕ → Bool) → x.stage ≡ New → x.semaphore ≡ 0 → 0 < x.demand → Begun f x who i h → Goes h i 0 (events.Poll f w)
begun_goes h i f w x who new of some begun = poll_goes h i f w x begun.is new of (none_free h i begun.holds.going) some begun.holds.going.stands

begun_waits : (h : Hall) (i f w : ℕ) (x : Future) (who : ℕ → Bool) → x.stage ≡ New → x.semaphore ≡ 0 → 0 < x.demand → Begun f x who i h → Holds who (i + 1) 0 (played h i (events.Poll f w)).hall
begun_waits h i f w x who new of some begun = record {
  going = goes_on h i 0 0 0 (events.Poll f w) begun.holds.going (begun_goes h i f w x who new of some begun) (omega arith);
  there = λ k. ap (λ m. is_some (get m k)) (waits_futures h i f w x begun.is new of (none_free h i begun.holds.going) some begun.holds.going.stands)
      ∙ by_put h.futures f (record x { stage = Waiting w }) (λ q o. is_some o ≡ who q) (sym (ap is_some begun.is) ∙ begun.holds.there f)
      (λ q apart. begun.holds.there q) k;
}

same_bool : (a b : Bool) → (a ≡ true → b ≡ true) → (b ≡ true → a ≡ true) → b ≡ a
same_bool true b one other = one refl
same_bool false true one other = sym (other refl)
same_bool false false one other = refl

-- an event that neither polls, begins nor ends k leaves it
module _ (h : Hall) (i b c limit : ℕ) (who : ℕ → Bool) (e : SemEvent) (old : Holds who i b h) (goes : Goes h i c e) (most : b + c ≤ limit)
    (quiet : (k : ℕ) → waker_in e k ≡ None) (none : acquire_in e ≡ None) where
  left_there : (k : ℕ) → ends e k ≡ false → is_some (get (played h i e).hall.futures k) ≡ who k
  left_there k other =
      same_bool (is_some (get h.futures k)) (is_some (get (played h i e).hall.futures k))
      (λ some. stays h i e old.going.valid old.going.below goes.cause quiet k some other)
      (λ some. were h i e old.going.valid old.going.below goes.cause quiet none k some)
      ∙ old.there k

  leaves_all : ((k : ℕ) → ends e k ≡ false) → Holds who (i + 1) limit (played h i e).hall
  leaves_all ends_none = record { going = goes_on h i b c limit e old.going goes most; there = λ k. left_there k (ends_none k) }

-- f ends
module _ (h : Hall) (i f b : ℕ) (who : ℕ → Bool) (old : Holds who i b h) (there : who f ≡ true) where
  value : (x : Future) × (get h.futures f ≡ Some x)
  value = value_in (get h.futures f) (old.there f ∙ there)

  last_goes : Goes h i 0 (events.End f)
  last_goes = end_goes h i f value.0 value.1 old.going.stands

  last_ends : Holds (λ k. if f == k then false else who k) (i + 1) b (played h i (events.End f)).hall
  last_ends = record {
    going = goes_on h i b 0 b (events.End f) old.going last_goes (omega arith);
    there = λ k. by_name f k
        (λ e. ap (λ n. is_some (get (played h i (events.End f)).hall.futures n)) (sym e) ∙ ap is_some (ends_gone h i f value.0 value.1)
        ∙ sym (ap (λ t. if t then false else who k) (eq-eqb f k e)))
        (λ apart. left_there h i b 0 b who (events.End f) old last_goes (omega arith) (λ j. refl) refl k (ne_eqb f k apart)
        ∙ sym (ap (λ t. if t then false else who k) (ne_eqb f k apart)));
  }

-- ---- a round
-- a hall between two rounds, of which f is the number of the next event
pub record IsReady (h : Hall) (f : ℕ) : Type 0 where
  pub valid : IsValid h
  pub below : IsBelow h f
  pub between : IsBetweenRounds h

-- between two rounds nothing is live, and nobody is there
at_first : (h : Hall) (f : ℕ) → IsReady h f → Holds (λ k. false) f 0 h
at_first h f ready =
    let idle = ready.between in record {
      going = record {
        valid = ready.valid;
        below = ready.below;
        stands = record { named = idle.named; is_open = idle.is_open };
        no_permit = idle.no_permit;
        few =
            let held_none = total-zero (λ k (p : Permit). cond (p.semaphore == 0) p.size 0) h.permits (λ k p is. absurd (let none = idle.no_permit k in cc)) in
            let paid_none = total-zero (λ f (x : Future). cond (x.semaphore == 0) (paid_to (queue_at h 0) f x.demand x.stage) 0) h.futures
            (λ f x is. absurd (let none = idle.no_future f in cc)) in
            let free_none = idle.none_free in
            omega (arith, held_none, paid_none, free_none);
      };
      there = λ k. ap is_some (idle.no_future k);
    }

or_true : (a : Bool) → (a || true) ≡ true
or_true true = refl
or_true false = refl

-- who was there, but for f and g
nobody : (a b : Bool) → (if a then false else (if b then false else (a || (b || false)))) ≡ false
nobody true b = refl
nobody false true = refl
nobody false false = refl

module _ (f g v w m n c d : ℕ) (same : f + 1 + 1 ≡ g) (some_m : 0 < m) (some_n : 0 < n) (few_d : d < 8) where
  apart : f ≡ g → ⊥
  apart e = absurd (omega (arith, same, e))

  abbrev first : ℕ → Bool
  first k = (f == k) || false

  abbrev both : ℕ → Bool
  both k = (g == k) || first k

  abbrev second : ℕ → Bool
  second k = if f == k then false else both k

  abbrev neither : ℕ → Bool
  neither k = if g == k then false else second k

  abbrev x1 : Future
  x1 = record { semaphore = 0; demand = m; plain = true; forgets = false; stage = New }

  abbrev x2 : Future
  x2 = record { semaphore = 0; demand = n; plain = false; forgets = false; stage = New }

  -- all free permits are forgotten
  forgotten : (h : Hall) (i : ℕ) → Holds neither i d h → PlaysTo h i (events.Forget 0 18446744073709551615 ∷ []) IsReady
  forgotten h i old =
      let goes = forget_goes h i 18446744073709551615 old.going.stands in
      let held = leaves_all h i d 0 d neither (events.Forget 0 18446744073709551615) old goes (omega arith) (λ k. refl) refl (λ k. refl) in record {
        plays = (goes.cause, goes.waits, goes.reply, tt);
        leaves = record {
          valid = held.going.valid;
          below = held.going.below;
          between = record {
            named = held.going.stands.named;
            is_open = held.going.stands.is_open;
            none_free = forget_free h i 18446744073709551615 old.going.stands (let few = old.going.few in omega (arith, few, few_d));
            no_future = λ k. is_absent (get (played h i (events.Forget 0 18446744073709551615)).hall.futures k) (λ some. absurd (let none = held.there k ∙ nobody (g == k) (f == k) in cc));
            no_permit = held.going.no_permit;
          };
        };
      }

  -- both acquires end
  ended_second : (h : Hall) (i : ℕ) → Holds second i d h → PlaysTo h i (events.End g ∷ events.Forget 0 18446744073709551615 ∷ []) IsReady
  ended_second h i old =
      let there : second g ≡ true = ap (λ b. if b then false else both g) (ne_eqb f g apart) ∙ ap (λ b. b || first g) (eq-eqb g g refl) in
      next h i 0 (events.End g) (events.Forget 0 18446744073709551615 ∷ []) (Holds neither (i + 1) d) IsReady (last_goes h i g d second old there) (last_ends h i g d second old there)
      (λ k. forgotten k (i + 1))

  ended_first : (h : Hall) (i : ℕ) → Holds both i d h → PlaysTo h i (events.End f ∷ events.End g ∷ events.Forget 0 18446744073709551615 ∷ []) IsReady
  ended_first h i old =
      let there : both f ≡ true = ap (λ b. (g == f) || (b || false)) (eq-eqb f f refl) ∙ or_true (g == f) in
      next h i 0 (events.End f) (events.End g ∷ events.Forget 0 18446744073709551615 ∷ []) (Holds second (i + 1) d) IsReady (last_goes h i f d both old there) (last_ends h i f d both old there)
      (λ k. ended_second k (i + 1))

  abbrev ending : List SemEvent
  ending = events.End f ∷ events.End g ∷ events.Forget 0 18446744073709551615 ∷ []

  -- some permits are forgotten, and some released
  released : (h : Hall) (i : ℕ) → Holds both i 0 h → PlaysTo h i (events.Release 0 d ∷ ending) IsReady
  released h i old =
      let goes = release_goes h i d old.going.stands (let few = old.going.few in omega (arith, few, few_d)) in
      next h i d (events.Release 0 d) ending (Holds both (i + 1) d) IsReady goes (leaves_all h i 0 d d both (events.Release 0 d) old goes (omega arith) (λ k. refl) refl (λ k. refl))
      (λ k. ended_first k (i + 1))

  lowered : (h : Hall) (i : ℕ) → Holds both i 0 h → PlaysTo h i (events.Forgetx 0 c ∷ events.Release 0 d ∷ ending) IsReady
  lowered h i old =
      let goes = exactly_goes h i c old.going.stands in
      next h i 0 (events.Forgetx 0 c) (events.Release 0 d ∷ ending) (Holds both (i + 1) 0) IsReady goes
      (leaves_all h i 0 0 0 both (events.Forgetx 0 c) old goes (omega arith) (λ k. refl) refl (λ k. refl)) (λ k. released k (i + 1))

  abbrev changes : List SemEvent
  changes = events.Forgetx 0 c ∷ events.Release 0 d ∷ ending

  -- the second acquire waits
  waits_second : (h : Hall) (i : ℕ) → Begun g x2 both i h → PlaysTo h i (events.Poll g w ∷ changes) IsReady
  waits_second h i begun =
      next h i 0 (events.Poll g w) changes (Holds both (i + 1) 0) IsReady (begun_goes h i g w x2 both refl refl some_n begun) (begun_waits h i g w x2 both refl refl some_n begun)
      (λ k. lowered k (i + 1))

  begins_second : (h : Hall) (i : ℕ) → i ≡ g → Holds first i 0 h → PlaysTo h i (events.Acqo 0 n ∷ events.Poll g w ∷ changes) IsReady
  begins_second h i is old =
      let goes = owned_goes h i n old.going.stands in
      next h i 0 (events.Acqo 0 n) (events.Poll g w ∷ changes) (Begun g x2 both (i + 1)) IsReady goes
      (begins h i g first (events.Acqo 0 n) x2 is old goes (owned_futures h i n old.going.stands)) (λ k. waits_second k (i + 1))

  -- the first acquire waits
  waits_first : (h : Hall) → Begun f x1 first (f + 1) h → PlaysTo h (f + 1) (events.Poll f v ∷ events.Acqo 0 n ∷ events.Poll g w ∷ changes) IsReady
  waits_first h begun =
      next h (f + 1) 0 (events.Poll f v) (events.Acqo 0 n ∷ events.Poll g w ∷ changes) (Holds first (f + 1 + 1) 0) IsReady
      (begun_goes h (f + 1) f v x1 first refl refl some_m begun) (begun_waits h (f + 1) f v x1 first refl refl some_m begun) (λ k. begins_second k (f + 1 + 1) same)

  -- a round is played, and leaves a hall between two rounds
  pub round_comes : (h : Hall) → IsReady h f → PlaysTo h f (events.Acq 0 m ∷ events.Poll f v ∷ events.Acqo 0 n ∷ events.Poll g w ∷ changes) IsReady
  round_comes h ready =
      let old = at_first h f ready in
      let goes = acquire_goes h f m old.going.stands in
      next h f 0 (events.Acq 0 m) (events.Poll f v ∷ events.Acqo 0 n ∷ events.Poll g w ∷ changes) (Begun f x1 first (f + 1)) IsReady goes
      (begins h f f (λ k. false) (events.Acq 0 m) x1 refl old goes (acquire_futures h f m old.going.stands)) (λ k. waits_first k)
