-- each call carries a receiver on through the list of all messages
use Rattle.std.proofs.Common.{◌≡◌, ℕ, ◌+◌, ◌-◌, ◌≤◌, ◌<◌, ◌==◌, ◌++◌, Bool, true, false, cond, List, [], ◌∷◌, Option, Some, None, Result, Ok, Err, MatchResult, length, refl, sym, ap, ◌∙◌, subst, arith, append-nil, append_assoc, nat_lt}
use Rattle.std.specs.List.{slice_get}
use Rattle.std.proofs.lemmas.Bool.Decides.{nat_tests}
use Rattle.std.proofs.lemmas.Option.{slice_get_within}
use Rattle.circular_buffer.proofs.Places.{slice_get-append_left}
use Rattle.mea_base.specs.declared.no_memory.NoMemory as memory
use Rattle.mea_sets.specs.Poll.{Poll, Ready, Pending}
use Rattle.mea_sets.specs.declared.place.Place.{Place}
use Rattle.mea_sets.specs.WaitSet.{with_waker, slot_after}
use Rattle.circular_buffer.specs.Buffer.{keep_last}
use Rattle.mea_broadcast_core.specs.declared.errors.BroadcastTry.{BroadcastTry}
use Rattle.mea_broadcast_core.specs.declared.errors.BroadcastTry.TheVariants as try
use Rattle.mea_broadcast_core.specs.declared.errors.BroadcastRecv.{BroadcastRecv}
use Rattle.mea_broadcast_core.specs.Broadcast.{Broadcast, without_sender, oldest, woken}
use Rattle.mea_broadcast_core.specs.Receives.{Found, Behind, Holds, AtTail, PollAnswer, found, found_at, Receives, PollsAtTail, PollsRecv}
use Rattle.mea_broadcast_core.specs.Walks.{Heard, Message, Missed, heard_by, heard_at, Walks, StandsFor, Calls, Send, TryRecv, PollRecv, OtherPollRecv, AddSender, EndSender, NextWake, BroadcastRuns, Starts, Goes}
use Rattle.mea_broadcast_core.proofs.Stands.{sends, oldest_is, finds}

module _ {T : Type 0} (clones : T → T → Type 0) (start : ℕ) where
  -- a longer list has the same walks
  grows : (all more : List T) (p : ℕ) (heard : List (Heard T)) (q : ℕ) → Walks clones start all p heard q → Walks clones start (all ++ more) p heard q
  grows all more p [] q w = w
  grows all more p (Message c ∷ heard) q w =
      (w.0, w.1, slice_get-append_left all more (p - start) (slice_get_within all (p - start) w.0 w.2) ∙ w.2, w.3, grows all more (p + 1) heard q w.4)
  grows all more p (Missed k ∷ heard) q w = grows all more (p + k) heard q w

  -- a walk goes on where another ends
  goes_on : (all : List T) (p : ℕ) (heard heard' : List (Heard T)) (q q' : ℕ) → Walks clones start all p heard q → Walks clones start all q heard' q'
      → Walks clones start all p (heard ++ heard') q'
  goes_on all p [] heard' q q' w w' = subst (λ (x : ℕ). Walks clones start all x heard' q') (sym w) w'
  goes_on all p (Message c ∷ heard) heard' q q' w w' = (w.0, w.1, w.2, w.3, goes_on all (p + 1) heard heard' q q' w.4 w')
  goes_on all p (Missed k ∷ heard) heard' q q' w w' = goes_on all (p + k) heard heard' q q' w w'

  -- what is heard takes a cursor to another, which is not past the end of the list
  record Steps (all : List T) (p : ℕ) (heard : List (Heard T)) (p' : ℕ) : Type 0 where
    walks : Walks clones start all p heard p'
    within : p ≤ start + length all → p' ≤ start + length all

  rests : (all : List T) (p p' : ℕ) → p' ≡ p → Steps all p [] p'
  rests all p p' is = record { walks = sym is; within = λ le. omega (arith, is, le) }

  misses : (all : List T) (p k p' : ℕ) → p + k ≡ p' → p' ≤ start + length all → Steps all p (Missed k ∷ []) p'
  misses all p k p' is le = record { walks = is; within = λ _. le }

  hears : (all : List T) (p p' : ℕ) (v c : T) → start ≤ p → slice_get all (p - start) ≡ Some v → clones v c → p' ≡ p + 1 → Steps all p (Message c ∷ []) p'
  hears all p p' v c from is clone next = record {
    walks = (v, from, is, clone, sym next);
    within = λ _. omega (arith, from, next, slice_get_within all (p - start) v is);
  }

module _ {T : Type 0} where
  -- how far behind
  abbrev pub lag_of : Found T → ℕ
  lag_of (Behind k) = k
  lag_of (Holds v) = 0
  lag_of AtTail = 0

  abbrev message_of : Found T → Option T
  message_of (Behind k) = None
  message_of (Holds v) = Some v
  message_of AtTail = None

  pub never_behind : {A : Type 0} (o : Option T) (k : ℕ) → found_at o ≡ Behind k → A
  never_behind None k is = absurd (cc)
  never_behind (Some v) k is = absurd (cc)

  holds_some : (o : Option T) (v : T) → found_at o ≡ Holds v → o ≡ Some v
  holds_some None v is = absurd (cc)
  holds_some (Some u) v is = ap message_of is

module _ {T W : Type 0} where
  -- a cursor that is behind goes to the oldest kept message
  behind : (b : Broadcast T W) (p k : ℕ) → found b p ≡ Behind k → p + k ≡ oldest b
  behind b p k is = by_test (nat_lt p (oldest b)) refl is
    where
      by_test : (t : Bool) → nat_lt p (oldest b) ≡ t → cond t (Behind (oldest b - p)) (found_at (slice_get b.kept (p - oldest b))) ≡ Behind k → p + k ≡ oldest b
      by_test true at is =
          let below : p < oldest b = grind (arith, nat_tests) in
          let far : oldest b - p ≡ k = ap lag_of is in
          omega (arith, below, far)
      by_test false at is = never_behind (slice_get b.kept (p - oldest b)) k is

  -- the message at a cursor is that of its position
  holds : (b : Broadcast T W) (start : ℕ) (all : List T) (p : ℕ) (v : T) → StandsFor b start all → found b p ≡ Holds v
      → (start ≤ p) × (slice_get all (p - start) ≡ Some v)
  holds b start all p v st is = by_test (nat_lt p (oldest b)) refl is
    where
      by_test : (t : Bool) → nat_lt p (oldest b) ≡ t → cond t (Behind (oldest b - p)) (found_at (slice_get b.kept (p - oldest b))) ≡ Holds v
          → (start ≤ p) × (slice_get all (p - start) ≡ Some v)
      by_test true at far = absurd (cc)
      by_test false at here =
          let from : oldest b ≤ p = grind (arith, nat_tests) in
          (omega (arith, from, oldest_is b start all st), holds_some (slice_get all (p - start)) v (sym (finds b start all p st from) ∙ is))

  module _ (clones : T → T → Type 0) (surely : T → Type 0) (b : Broadcast T W) (start : ℕ) (all : List T) (st : StandsFor b start all) where
    not_past : oldest b ≤ start + length all
    not_past = omega (arith, st.tail)

    receives : (p p' : ℕ) (r : Result T BroadcastTry) (f : Found T) → found b p ≡ f → Receives clones surely b f p r p'
        → Steps clones start all p (heard_by r) p'
    receives p p' r (Behind k) is h =
        subst (λ (x : Result T BroadcastTry). Steps clones start all p (heard_by x) p') (sym h.0)
        (misses clones start all p k p' (behind b p k is ∙ sym h.1) (omega (arith, h.1, not_past)))
    receives p p' r (Holds v) is h = by_result r h
      where
        by_result : (r : Result T BroadcastTry) → MatchResult r (λ c. clones v c × (p' ≡ p + 1)) (λ e. (e ≡ try.NoMemory) × (¬ (surely v)) × (p' ≡ p))
            → Steps clones start all p (heard_by r) p'
        by_result (Ok c) h = let here = holds b start all p v st is in hears clones start all p p' v c here.0 here.1 h.0 h.1
        by_result (Err e) h = subst (λ (x : BroadcastTry). Steps clones start all p (heard_by (Err x)) p') (sym h.0) (rests clones start all p p' h.2)
    receives p p' r AtTail is h = by_test (b.senders == 0) h.0
      where
        by_test : (t : Bool) → r ≡ Err (cond t try.Disconnected try.Empty) → Steps clones start all p (heard_by r) p'
        by_test true answer = subst (λ (x : Result T BroadcastTry). Steps clones start all p (heard_by x) p') (sym answer) (rests clones start all p p' h.1)
        by_test false answer = subst (λ (x : Result T BroadcastTry). Steps clones start all p (heard_by x) p') (sym answer) (rests clones start all p p' h.1)

    polls : (p p' : ℕ) (slot slot' : Option Place) (w : W) (r : PollAnswer T W) (b' : Broadcast T W) (f : Found T) → found b p ≡ f
        → PollsRecv clones surely b f p slot w r b' p' slot' → Steps clones start all p (heard_at r) p'
    polls p p' slot slot' w r b' (Behind k) is h =
        subst (λ (x : PollAnswer T W). Steps clones start all p (heard_at x) p') (sym h.0)
        (misses clones start all p k p' (behind b p k is ∙ sym h.2) (omega (arith, h.2, not_past)))
    polls p p' slot slot' w r b' (Holds v) is h = by_result r h.2
      where
        by_result : (r : PollAnswer T W)
            → MatchResult r (λ q. (c : T) × (q ≡ Ready (Ok c)) × clones v c × (p' ≡ p + 1)) (λ e. (e.0 ≡ w) × (¬ (surely v)) × (p' ≡ p))
            → Steps clones start all p (heard_at r) p'
        by_result (Ok q) h =
            let here = holds b start all p v st is in
            subst (λ (x : Poll (Result T BroadcastRecv)). Steps clones start all p (heard_at {W = W} (Ok x)) p') (sym h.1) (hears clones start all p p' v h.0 here.0 here.1 h.2 h.3)
        by_result (Err e) h = rests clones start all p p' h.2
    polls p p' slot slot' w r b' AtTail is h = by_test (b.senders == 0) h
      where
        by_test : (t : Bool) → PollsAtTail t b p slot w r b' p' slot' → Steps clones start all p (heard_at r) p'
        by_test true h = subst (λ (x : PollAnswer T W). Steps clones start all p (heard_at x) p') (sym h.0) (rests clones start all p p' h.2)
        by_test false h = by_result r h.1
          where
            by_result : (r : PollAnswer T W)
                → MatchResult r (λ q. (q ≡ Pending) × (b' ≡ record b { waiting = with_waker b.waiting slot w }) × (slot' ≡ slot_after b.waiting slot))
                (λ e. (e.0 ≡ w) × (b' ≡ b) × (slot' ≡ slot))
                → Steps clones start all p (heard_at r) p'
            by_result (Ok q) g = subst (λ (x : Poll (Result T BroadcastRecv)). Steps clones start all p (heard_at {W = W} (Ok x)) p') (sym g.0) (rests clones start all p p' h.0)
            by_result (Err e) g = rests clones start all p p' h.0

  -- the messages, the tail and the ring's size are the same
  record Same (b b' : Broadcast T W) : Type 0 where
    kept : b'.kept ≡ b.kept
    tail : b'.tail ≡ b.tail
    size : b'.size ≡ b.size

  same : (b c b' : Broadcast T W) → b' ≡ c → Same b c → Same b b'
  same b c b' is s = subst (λ (x : Broadcast T W). Same b x) (sym is) s

  itself : (b : Broadcast T W) → Same b b
  itself b = record { kept = refl; tail = refl; size = refl }

  -- a poll changes none of these
  polls_same : (clones : T → T → Type 0) (surely : T → Type 0) (b b' : Broadcast T W) (p p' : ℕ) (slot slot' : Option Place) (w : W) (r : PollAnswer T W) (f : Found T)
      → PollsRecv clones surely b f p slot w r b' p' slot' → Same b b'
  polls_same clones surely b b' p p' slot slot' w r (Behind k) h = same b b b' h.1 (itself b)
  polls_same clones surely b b' p p' slot slot' w r (Holds v) h = same b b b' h.0 (itself b)
  polls_same clones surely b b' p p' slot slot' w r AtTail h = by_test (b.senders == 0) h
    where
      by_test : (t : Bool) → PollsAtTail t b p slot w r b' p' slot' → Same b b'
      by_test true h = same b b b' h.1 (itself b)
      by_test false h = by_result r h.1
        where
          by_result : (r : PollAnswer T W)
              → MatchResult r (λ q. (q ≡ Pending) × (b' ≡ record b { waiting = with_waker b.waiting slot w }) × (slot' ≡ slot_after b.waiting slot))
              (λ e. (e.0 ≡ w) × (b' ≡ b) × (slot' ≡ slot))
              → Same b b'
          by_result (Ok q) g = same b _ b' g.1 (record { kept = refl; tail = refl; size = refl })
          by_result (Err e) g = same b b b' g.1 (itself b)

  ends_same : (b : Broadcast T W) → Same b (without_sender b)
  ends_same b = by_test (b.senders == 1)
    where
      by_test : (t : Bool) → Same b (cond t (woken (record b { senders = 0 })) (record b { senders = b.senders - 1 }))
      by_test true = record { kept = refl; tail = refl; size = refl }
      by_test false = record { kept = refl; tail = refl; size = refl }

  -- the channel stands for all messages, and the receiver has walked from p to p' through them
  pub record Carries (clones : T → T → Type 0) (b b' : Broadcast T W) (start : ℕ) (all : List T) (p : ℕ) (heard : List (Heard T)) (p' : ℕ) : Type 0 where
    pub stands : StandsFor b' start all
    pub walks : Walks clones start all p heard p'
    pub within : p ≤ b.tail → p' ≤ b'.tail

  -- nothing is sent: the channel stands for the same
  stays : (clones : T → T → Type 0) (b b' : Broadcast T W) (start : ℕ) (all : List T) (p p' : ℕ) (heard : List (Heard T))
      → StandsFor b start all → Same b b' → Steps clones start all p heard p'
      → Carries clones b b' start (all ++ []) p heard p'
  stays clones b b' start all p p' heard st s steps =
      subst (λ (xs : List T). Carries clones b b' start xs p heard p') (sym (append-nil all)) (record {
        stands = record { kept = s.kept ∙ st.kept ∙ ap (λ n. keep_last n all) (sym s.size); tail = s.tail ∙ st.tail };
        walks = steps.walks;
        within = λ le. let kept = steps.within (omega (arith, le, st.tail)) in omega (arith, kept, st.tail, s.tail);
      })

  call : (clones : T → T → Type 0) (surely : T → Type 0) (b b' : Broadcast T W) (p p' start : ℕ) (all sent : List T) (heard : List (Heard T))
      → Calls clones surely b p b' p' sent heard
      → StandsFor b start all → Carries clones b b' start (all ++ sent) p heard p'
  call clones surely b _ p _ start all _ _ (Send v) st = record { stands = sends b start all v st; walks = refl; within = λ le. omega (arith, le) }
  call clones surely b _ p _ start all _ _ (TryRecv r p' is) st =
      stays clones b b start all p p' (heard_by r) st (itself b) (receives clones surely b start all st p p' r (found b p) refl is)
  call clones surely b _ p _ start all _ _ (PollRecv slot slot' w r b' p' is) st =
      stays clones b b' start all p p' (heard_at r) st (polls_same clones surely b b' p p' slot slot' w r (found b p) is)
      (polls clones surely b start all st p p' slot slot' w r b' (found b p) refl is)
  call clones surely b _ p _ start all _ _ (OtherPollRecv o o' slot slot' w r b' is) st =
      stays clones b b' start all p p [] st (polls_same clones surely b b' o o' slot slot' w r (found b o) is) (rests clones start all p p refl)
  call clones surely b _ p _ start all _ _ AddSender st =
      stays clones b _ start all p p [] st (record { kept = refl; tail = refl; size = refl }) (rests clones start all p p refl)
  call clones surely b _ p _ start all _ _ EndSender st = stays clones b _ start all p p [] st (ends_same b) (rests clones start all p p refl)
  call clones surely b _ p _ start all _ _ (NextWake wakes) st =
      stays clones b _ start all p p [] st (record { kept = refl; tail = refl; size = refl }) (rests clones start all p p refl)

  module _ (clones : T → T → Type 0) (surely : T → Type 0) (b : Broadcast T W) (p start : ℕ) (all : List T) (st : StandsFor b start all) where
    pub run : (b' : Broadcast T W) (p' : ℕ) (sent : List T) (heard : List (Heard T)) → BroadcastRuns clones surely b p b' p' sent heard
        → Carries clones b b' start (all ++ sent) p heard p'
    run _ _ _ _ Starts = stays clones b b start all p p [] st (itself b) (rests clones start all p p refl)
    run _ _ _ _ (Goes b' b'' p' p'' sent sent' heard heard' runs calls) =
        let first = run b' p' sent heard runs in
        let then = call clones surely b' b'' p' p'' start (all ++ sent) sent' heard' calls first.stands in
        subst (λ (xs : List T). Carries clones b b'' start xs p (heard ++ heard') p'') (append_assoc all sent sent') (record {
          stands = then.stands;
          walks = goes_on clones start ((all ++ sent) ++ sent') p heard heard' p' p''
              (grows clones start (all ++ sent) sent' p heard p' first.walks) then.walks;
          within = λ le. then.within (first.within le);
        })
