-- what each action changes: one lock and one future at the most
use Rattle.std.proofs.Common.{◌≡◌, ℕ, ◌-◌, ◌≤◌, ◌==◌, Bool, true, false, cond, List, [], Option, Some, None, nat_lt, refl, ap, sym, ◌∙◌, arith}
use Rattle.std.specs.Option.{IsSome}
use Rattle.std.proofs.lemmas.Bool.{eqb-true, eq-eqb}
use Rattle.std.specs.FinMap.{get, insert, remove}
use Rattle.mea_family.proofs.Refusals.{not_borrowed}
use Rattle.mea_family.specs.declared.answer.Answer.TheVariants as answers
use Rattle.mea_family.specs.Family.{Outcome, quietly}
use Rattle.mea_base.proofs.Maps.{inside, is_there, get-there, get-gone, get-removed_other}
use Rattle.mea_family.proofs.Causes.{known}
use Rattle.mea_by_name.specs.ByName.{Names}
use Rattle.mea_by_name.specs.NamedQueue.{waits}
use Rattle.mea_family.specs.Play.{found}
use Rattle.mea_by_name.proofs.Cases.{by_found, by_if}
use Rattle.mea_by_name.proofs.NamedQueues.{Local, local_same}
use Rattle.mea_by_name.proofs.LackingQueues.{local_pushed, local_rewoken, local_poured, local_left}
use Rattle.mea_by_name.proofs.OneObject.{Goes, ObjectsGo, Same, Put, Made, Gone, Kept, Begun, Turned, Ended, None_is, Polled, Ends}
use Rattle.mea_by_name.proofs.Own.{own-nothing}
use Rattle.mea_lock_model.specs.Locks as locks
use Rattle.mea_lock_model.specs.Locks.{Lock, LockFuture, LockGuard, Locks, new_lock, Until, goes_on, tidied_locks, is_named, is_named_lock, things_of, waiting_at, size}
use Rattle.mea_lock_model.specs.Actions.{Action, Make, Begin, Poll, Try, Get, Set, Lower, End, Peek, Put as Write, Take, Drop, Hand, PollUntil, EndWait, act_in, registers_in, polled_in, ends_in, cause_in}

-- what is named is there
named_there : (o : Option Lock) → is_named_lock o ≡ true → IsSome o
named_there None is = absurd (cc)
named_there (Some r) is = refl

abbrev pub owner : LockFuture → ℕ
owner x = x.lock

module _ (h : Locks) (i : ℕ) (a : Action) where
  -- the event changes one lock and one future at the most
  abbrev pub GoesTo : ℕ → Outcome Locks → Type 0
  GoesTo extra o = Goes waiting_at owner h.locks h.futures (cause_in h a ≡ None) (polled_in a) (ends_in a) i extra o.hall.locks o.hall.futures o.wakes

  -- and who is there afterwards was of a condition variable before, or was not, as it is now
  pub record Acts (extra : ℕ) (o : Outcome Locks) : Type 0 where
    pub goes : GoesTo extra o
    pub marks : (x y : LockFuture) → (goes.k ≡ i → ⊥) → get h.futures goes.k ≡ Some x → get o.hall.futures goes.k ≡ Some y → y.of_condvar ≡ x.of_condvar

  -- no future changes
  rested : (extra : ℕ) (o : Outcome Locks) → GoesTo extra o → o.hall.futures ≡ h.futures → Acts extra o
  rested extra o goes same = record { goes = goes; marks = λ x y apart was is. ap (λ (x : LockFuture). x.of_condvar) (inside (sym is ∙ ap (λ m. get m goes.k) same ∙ was)) }

  -- one is gone
  left : (extra : ℕ) (o : Outcome Locks) (goes : GoesTo extra o) → get o.hall.futures goes.k ≡ None → Acts extra o
  left extra o goes none = record { goes = goes; marks = λ x y apart was is. absurd (cc) }

  -- one changes
  turned : (extra : ℕ) (o : Outcome Locks) (goes : GoesTo extra o) (x z : LockFuture) → get h.futures goes.k ≡ Some x → get o.hall.futures goes.k ≡ Some z → z.of_condvar ≡ x.of_condvar → Acts extra o
  turned extra o goes x z was is same = record {
    goes = goes;
    marks = λ u v apart had has. ap (λ (x : LockFuture). x.of_condvar) (inside (sym has ∙ is)) ∙ same ∙ ap (λ (x : LockFuture). x.of_condvar) (inside (sym was ∙ had));
  }

  -- a lock is this now, or gone, where its futures but k are there still
  tidies : (k extra more : ℕ) (fs : Names LockFuture) (gs : Names LockGuard) (o : ℕ) (r r' : Lock) (ws : List ℕ) → get h.locks o ≡ Some r → Local (waiting_at r) (waiting_at r') ws k more → more ≤ extra
      → ((f : ℕ) (x : LockFuture) → (k ≡ f → ⊥) → get h.futures f ≡ Some x → get fs f ≡ Some x)
      → ObjectsGo waiting_at owner h.locks h.futures (cause_in h a ≡ None) i k extra (tidied_locks h.locks o r' (things_of (record { locks = h.locks; futures = fs; guards = gs }) o)) ws
  tidies k extra more fs gs o r r' ws there local few keep = by_if P r'.named _ _ (λ named. Put o r r' ws more there local few)
      (λ unnamed. by_if P (things_of (record { locks = h.locks; futures = fs; guards = gs }) o == 0) _ _
      (λ none. let nothing = eqb-true (things_of (record { locks = h.locks; futures = fs; guards = gs }) o) 0 none in
      Gone o r ws there local.most (λ allowed f x apart is mine. own-nothing owner o fs (omega (arith, nothing)) f x (keep f x apart is) mine))
      (λ some. Put o r r' ws more there local few))
    where
      P : Names Lock → Type 0
      P rs = ObjectsGo waiting_at owner h.locks h.futures (cause_in h a ≡ None) i k extra rs ws

  -- ---- an action that ends nobody
  module _ (none : (f : ℕ) → ends_in a f ≡ true → ⊥) where
    still : (extra : ℕ) → Acts extra (quietly h answers.Done)
    still extra = rested extra (quietly h answers.Done) (record { k = i; touches = None_is refl; objects = Same; futures = Kept; over = λ f is. absurd (none f is) }) refl

    -- nothing changes
    tells : (o : Outcome Locks) → o.hall ≡ h → o.wakes ≡ [] → Acts 0 o
    tells o same silent = rested 0 o (rw (same, silent) (record { k = i; touches = None_is refl; objects = Same; futures = Kept; over = λ f is. absurd (none f is) })) (ap (λ (h : Locks). h.futures) same)

    -- one lock changes, and nobody waits otherwise
    turns : (extra : ℕ) (o : ℕ) (r r' : Lock) → get h.locks o ≡ Some r → r'.queue ≡ r.queue
        → Goes waiting_at owner h.locks h.futures (cause_in h a ≡ None) (polled_in a) (ends_in a) i extra (insert h.locks o r') h.futures []
    turns extra o r r' there same = record { k = i; touches = None_is refl; objects = Put o r r' [] 0 there (rw same (local_same (waiting_at r) i)) (omega arith); futures = Kept; over = λ f is. absurd (none f is) }

    makes : (v most : ℕ) → Acts 0 (locks.make h i v most)
    makes v most = rested 0 (locks.make h i v most) (record { k = i; touches = None_is refl; objects = Made (new_lock v most) refl; futures = Kept; over = λ f is. absurd (none f is) }) refl

    begins : (o : ℕ) (plain writes : Bool) → (cause_in h a ≡ None → is_named h o ≡ true) → Acts 0 (locks.begin h i o plain writes)
    begins o plain writes named = record {
      goes = record { k = i; touches = None_is refl; objects = Same; futures = Begun _ (λ allowed. named_there (get h.locks o) (named allowed)); over = λ f is. absurd (none f is) };
      marks = λ x y apart was is. absurd (apart refl);
    }

    hands : (g : ℕ) (x : LockGuard) → (cause_in h a ≡ None → IsSome (get h.locks x.lock)) → Acts 0 (locks.hand h i g x)
    hands g x there = record {
      goes = record { k = i; touches = None_is refl; objects = Same; futures = Begun _ there; over = λ f is. absurd (none f is) };
      marks = λ y z apart was is. absurd (apart refl);
    }

    module _ (f w : ℕ) (x : LockFuture) (r : Lock) (is : polled_in a f ≡ Some w) (future : get h.futures f ≡ Some x) (there : get h.locks x.lock ≡ Some r) where
      readies : (r' : Lock) → r'.queue ≡ r.queue → Acts 1 (locks.becomes_guard h i f x r')
      readies r' same = left 1 (locks.becomes_guard h i f x r') (record {
        k = f;
        touches = Polled w is;
        objects = Put x.lock r r' [] 0 there (rw same (local_same (waiting_at r) f)) (omega arith);
        futures = Ended;
        over = λ f is. absurd (none f is);
      }) (get-gone h.futures f)

      waits_again : Acts 1 (locks.waits_on h f w x r)
      waits_again = rested 1 (locks.waits_on h f w x r) (record {
        k = f;
        touches = Polled w is;
        objects = Put x.lock r _ [] 0 there (local_rewoken r.queue f w) (omega arith);
        futures = Kept;
        over = λ f is. absurd (none f is);
      }) refl

      queues : Acts 1 (locks.queues h f w x r)
      queues = turned 1 (locks.queues h f w x r) (record {
        k = f;
        touches = Polled w is;
        objects = Put x.lock r _ [] 1 there (local_pushed r.queue f w (size r x.writes - r.free)) (omega arith);
        futures = Turned x _ future refl;
        over = λ f is. absurd (none f is);
      }) x (record x { polled = true }) future (get-there h.futures f (record x { polled = true })) refl

      polls : Acts 1 (locks.poll h i f w x r)
      polls = by_if (Acts 1) (waits (waiting_at r) f) _ _ (λ waits. waits_again)
          (λ apart. by_if (Acts 1) x.polled _ _ (λ granted. readies r refl)
          (λ new. by_if (Acts 1) (nat_lt r.free (size r x.writes)) _ _ (λ few. queues) (λ enough. readies _ refl)))

      lays_down : (r' : Lock) → r'.queue ≡ r.queue → Acts 1 (locks.lays_down h f x r')
      lays_down r' same = turned 1 (locks.lays_down h f x r') (record {
        k = f;
        touches = Polled w is;
        objects = Put x.lock r _ _ 0 there (rw same (local_poured r.queue (size r' x.writes) f)) (omega arith);
        futures = Turned x _ future refl;
        over = λ f is. absurd (none f is);
      }) x (record x { polled = false }) future (get-there h.futures f (record x { polled = false })) refl

      decides : (until : Until) (r' : Lock) → r'.queue ≡ r.queue → Acts 1 (locks.decides h i f until x r')
      decides until r' same = by_if (Acts 1) (goes_on until r'.value) _ _ (λ on. lays_down r' same) (λ over. readies r' same)

      polls_until : (until : Until) → Acts 1 (locks.poll_until h i f w until x r)
      polls_until until = by_if (Acts 1) (waits (waiting_at r) f) _ _ (λ waits. waits_again)
          (λ apart. by_if (Acts 1) x.polled _ _ (λ granted. decides until r refl)
          (λ new. by_if (Acts 1) (nat_lt r.free (size r x.writes)) _ _ (λ few. queues) (λ enough. decides until _ refl)))

    tries : (o : ℕ) (plain writes : Bool) (r : Lock) → get h.locks o ≡ Some r → Acts 0 (locks.try h i o plain writes r)
    tries o plain writes r there = by_if (Acts 0) (nat_lt r.free (size r writes)) _ _ (λ few. tells (quietly h answers.Lacking) refl refl)
        (λ enough. rested 0 _ (turns 0 o r _ there refl) refl)

    lowers : (g : ℕ) (x : LockGuard) (r : Lock) → get h.locks x.lock ≡ Some r → Acts 0 (locks.lower h g x r)
    lowers g x r there = rested 0 (locks.lower h g x r)
        (record { k = i; touches = None_is refl; objects = Put x.lock r _ _ 0 there (local_poured r.queue (r.most - 1) i) (omega arith); futures = Kept; over = λ f is. absurd (none f is) }) refl

    goes_out : (o : ℕ) (r : Lock) → get h.locks o ≡ Some r → (cause_in h a ≡ None → things_of h o ≡ 0) → Acts 0 (locks.take_out h o r)
    goes_out o r there alone = rested 0 (locks.take_out h o r) (record {
      k = i;
      touches = None_is refl;
      objects = Gone o r [] there (omega arith) (λ allowed f x apart is. own-nothing owner o h.futures (omega (arith, alone allowed)) f x is);
      futures = Kept;
      over = λ f is. absurd (none f is);
    }) refl

    drops : (o : ℕ) (r : Lock) → get h.locks o ≡ Some r → Acts 0 (locks.drop h o r)
    drops o r there = rested 0 (locks.drop h o r) (record {
      k = i;
      touches = None_is refl;
      objects = tidies i 0 0 h.futures h.guards o r (record r { named = false }) [] there (local_same (waiting_at r) i) (omega arith) (λ f x apart is. is);
      futures = Kept;
      over = λ f is. absurd (none f is);
    }) refl

-- ---- an end
module _ (h : Locks) (i : ℕ) (a : Action) (k : ℕ) (it : (f : ℕ) → ends_in a f ≡ (k == f)) where
  gone : (f : ℕ) → ends_in a f ≡ true → get (remove h.futures k) f ≡ None
  gone f is = ap (get (remove h.futures k)) (sym (eqb-true k f (sym (it f) ∙ is))) ∙ get-gone h.futures k

  ends_future : (x : LockFuture) (r : Lock) → get h.locks x.lock ≡ Some r → Acts h i a 0 (locks.end_future h k x r)
  ends_future x r there =
      let keep = λ (f : ℕ) (y : LockFuture) (apart : k ≡ f → ⊥) (is : get h.futures f ≡ Some y). get-removed_other h.futures k f apart ∙ is in
      let tidied = λ (r' : Lock) (ws : List ℕ) (local : Local (waiting_at r) (waiting_at r') ws k 0). tidies h i a k 0 0 (remove h.futures k) h.guards x.lock r r' ws there local (omega arith) keep in
      by_if (Acts h i a 0) (waits (waiting_at r) k) _ _
      (λ waits. left h i a 0 _ (record { k = k; touches = Ends (it k ∙ eq-eqb k k refl); objects = tidied _ _ (local_left r.queue k _); futures = Ended; over = gone }) (get-gone h.futures k))
      (λ apart. by_if (Acts h i a 0) x.polled _ _
      (λ granted. left h i a 0 _ (record { k = k; touches = Ends (it k ∙ eq-eqb k k refl); objects = tidied _ _ (local_poured r.queue (size r x.writes) k); futures = Ended; over = gone }) (get-gone h.futures k))
      (λ new. left h i a 0 _ (record { k = k; touches = Ends (it k ∙ eq-eqb k k refl); objects = tidied _ _ (local_same (waiting_at r) k); futures = Ended; over = gone }) (get-gone h.futures k)))

  ends_at : (x : LockFuture) (p : Option Lock) → get h.locks x.lock ≡ p → Acts h i a 0 (locks.end_at h k x p)
  ends_at x None absent = left h i a 0 _ (record { k = k; touches = Ends (it k ∙ eq-eqb k k refl); objects = Same; futures = Ended; over = gone }) (get-gone h.futures k)
  ends_at x (Some r) there = ends_future x r there

  module _ (absent : get h.futures k ≡ None) where
    nobody : (f : ℕ) → ends_in a f ≡ true → get h.futures f ≡ None
    nobody f is = ap (get h.futures) (sym (eqb-true k f (sym (it f) ∙ is))) ∙ absent

    idle : Acts h i a 0 (quietly h answers.Done)
    idle = rested h i a 0 (quietly h answers.Done) (record { k = i; touches = None_is refl; objects = Same; futures = Kept; over = nobody }) refl

    ends_guard : (x : LockGuard) (r : Lock) → get h.locks x.lock ≡ Some r → Acts h i a 0 (locks.end_guard h k x r)
    ends_guard x r there = rested h i a 0 (locks.end_guard h k x r) (record {
      k = i;
      touches = None_is refl;
      objects = tidies h i a i 0 0 h.futures (remove h.guards k) x.lock r _ _ there (local_poured r.queue (size r x.writes) i) (omega arith) (λ f y apart is. is);
      futures = Kept;
      over = nobody;
    }) refl

  ends : (o : Option LockFuture) → get h.futures k ≡ o → Acts h i a 0 (locks.end_by h k o)
  ends None absent = by_found (Acts h i a 0) (get h.guards k) h _ (idle absent) (λ x guard. by_found (Acts h i a 0) (get h.locks x.lock) h _ (idle absent)
      (λ r there. ends_guard absent x r there))
  ends (Some x) future = ends_at x (get h.locks x.lock) refl

  ends_wait : (o : Option LockFuture) → get h.futures k ≡ o → Acts h i a 0 (found o h (λ x. locks.end_at h k x (get h.locks x.lock)))
  ends_wait None absent = idle absent
  ends_wait (Some x) future = ends_at x (get h.locks x.lock) refl

-- a future is looked up, and then its lock; or a guard, and then its lock
module _ (h : Locks) (i : ℕ) (a : Action) (extra : ℕ) (none : (f : ℕ) → ends_in a f ≡ true → ⊥) where
  by_future : (f : ℕ) (act : LockFuture → Lock → Outcome Locks) → ((x : LockFuture) (r : Lock) → get h.futures f ≡ Some x → get h.locks x.lock ≡ Some r → Acts h i a extra (act x r))
      → Acts h i a extra (found (get h.futures f) h (λ x. found (get h.locks x.lock) h (act x)))
  by_future f act acts = by_found (Acts h i a extra) (get h.futures f) h _ (still h i a none extra)
      (λ x future. by_found (Acts h i a extra) (get h.locks x.lock) h _ (still h i a none extra) (λ r there. acts x r future there))

  by_guard : (g : ℕ) (act : LockGuard → Lock → Outcome Locks) → ((x : LockGuard) (r : Lock) → get h.locks x.lock ≡ Some r → Acts h i a extra (act x r))
      → Acts h i a extra (found (get h.guards g) h (λ x. found (get h.locks x.lock) h (act x)))
  by_guard g act acts = by_found (Acts h i a extra) (get h.guards g) h _ (still h i a none extra)
      (λ x guard. by_found (Acts h i a extra) (get h.locks x.lock) h _ (still h i a none extra) (λ r there. acts x r there))

  by_lock : (o : ℕ) (act : Lock → Outcome Locks) → ((r : Lock) → get h.locks o ≡ Some r → Acts h i a extra (act r)) → Acts h i a extra (found (get h.locks o) h act)
  by_lock o act acts = by_found (Acts h i a extra) (get h.locks o) h act (still h i a none extra) acts

here : (f w : ℕ) → cond (f == f) (Some w) None ≡ Some w
here f w = ap (λ b. cond b (Some w) None) (eq-eqb f f refl)

pub goes : (h : Locks) (i : ℕ) (a : Action) → Acts h i a (cond (registers_in a) 1 0) (act_in h i a)
goes h i (Make v most) = makes h i (Make v most) (λ f is. absurd (cc)) v most
goes h i (Begin o plain writes) = begins h i (Begin o plain writes) (λ f is. absurd (cc)) o plain writes (known (is_named h o))
goes h i (Poll f w) = by_future h i (Poll f w) 1 (λ f is. absurd (cc)) f (locks.poll h i f w)
    (λ x r future there. polls h i (Poll f w) (λ f is. absurd (cc)) f w x r (here f w) future there)
goes h i (Try o plain writes) = by_lock h i (Try o plain writes) 0 (λ f is. absurd (cc)) o (locks.try h i o plain writes) (tries h i (Try o plain writes) (λ f is. absurd (cc)) o plain writes)
goes h i (Get g) = by_guard h i (Get g) 0 (λ f is. absurd (cc)) g (λ x. locks.tell h) (λ x r there. tells h i (Get g) (λ f is. absurd (cc)) (locks.tell h r) refl refl)
goes h i (Set g v) = by_guard h i (Set g v) 0 (λ f is. absurd (cc)) g (λ x. locks.write h x.lock v) (λ x r there. rested h i (Set g v) 0 _ (turns h i (Set g v) (λ f is. absurd (cc)) 0 x.lock r _ there refl) refl)
goes h i (Lower g) = by_guard h i (Lower g) 0 (λ f is. absurd (cc)) g (locks.lower h g) (λ x r there. lowers h i (Lower g) (λ f is. absurd (cc)) g x r there)
goes h i (End k) = ends h i (End k) k (λ f. refl) (get h.futures k) refl
goes h i (Peek o) = by_lock h i (Peek o) 0 (λ f is. absurd (cc)) o (locks.tell h) (λ r there. tells h i (Peek o) (λ f is. absurd (cc)) (locks.tell h r) refl refl)
goes h i (Write o v) = by_lock h i (Write o v) 0 (λ f is. absurd (cc)) o (locks.write h o v) (λ r there. rested h i (Write o v) 0 _ (turns h i (Write o v) (λ f is. absurd (cc)) 0 o r _ there refl) refl)
goes h i (Take o) = by_lock h i (Take o) 0 (λ f is. absurd (cc)) o (locks.take_out h o) (λ r there. goes_out h i (Take o) (λ f is. absurd (cc)) o r there (not_borrowed (is_named h o) (things_of h o)))
goes h i (Drop o) = by_lock h i (Drop o) 0 (λ f is. absurd (cc)) o (locks.drop h o) (drops h i (Drop o) (λ f is. absurd (cc)) o)
goes h i (Hand g) = by_guard h i (Hand g) 0 (λ f is. absurd (cc)) g (λ x r. locks.hand h i g x) (λ x r there. hands h i (Hand g) (λ f is. absurd (cc)) g x (λ allowed. is_there (get h.locks x.lock) r there))
goes h i (PollUntil f w until) = by_future h i (PollUntil f w until) 1 (λ f is. absurd (cc)) f (locks.poll_until h i f w until)
    (λ x r future there. polls_until h i (PollUntil f w until) (λ f is. absurd (cc)) f w x r (here f w) future there until)
goes h i (EndWait k) = ends_wait h i (EndWait k) k (λ f. refl) (get h.futures k) refl
