-- what each event keeps of every part of the hall
use Rattle.std.proofs.Common.{◌≡◌, ℕ, ◌+◌, ◌≤◌, ◌==◌, ◌&&◌, ◌++◌, Bool, true, false, cond, List, [], Option, Some, None, if◌then◌else◌, refl, ap}
use Rattle.std.proofs.lemmas.Bool.{eq-eqb, and_parts}
use Rattle.std.proofs.lemmas.List.Elements.{Contains-append_left, Contains-append_right}
use Rattle.std.specs.FinMap.{get}
use Rattle.mea_family.specs.Causes.{unknown_unless}
use Rattle.mea_family.specs.declared.answer.Answer.TheVariants as answers
use Rattle.mea_family.specs.declared.stop.Stop.{Stop}
use Rattle.mea_family.specs.declared.stop.Stop.TheVariants as stops
use Rattle.mea_family.specs.Family.{Outcome, quietly, is_pending}
use Rattle.mea_family.proofs.Causes.{known}
use Rattle.mea_by_name.specs.NamedQueue.{Waiting, waits}
use Rattle.mea_by_name.proofs.Cases.{by_found, by_if}
use Rattle.mea_lock_model.specs.Locks.{Locks, is_condvar_future, is_write_guard, was_polled}
use Rattle.mea_lock_model.specs.Condvars as condvars
use Rattle.mea_lock_model.specs.Condvars.{Condvars, CondWait, is_condvar, is_wait, waits_of, until_of}
use Rattle.mea_lock_model.specs.Actions.{Action, Hand, PollUntil, EndWait, is_of_wait, act_in, polled_in, ends_in, cause_in}
use Rattle.mea_lock_model.specs.CondActions.{CondAction, Make, Wait, Poll, One, All, End, Drop, cause_on, act_on, on_condvars, on_both, told_by, poll_wait, polled_on, ends_on}
use Rattle.mea_lock_model.specs.LockHall.{LockHall, Mutexes, RwLocks}
use Rattle.mea_lock_model.specs.Meaning.{Meaning, OnLocks, OnCondvars, cause_by, step_by}
use Rattle.mea_lock_model.proofs.Acting.{goes}
use Rattle.mea_family.proofs.Refusals.{is_known, not_borrowed}
use Rattle.mea_lock_model.proofs.CondActing as acting
use Rattle.mea_lock_model.proofs.CondActing.{put_stands, stands_notified, stands_ended, stands_dropped}
use Rattle.mea_lock_model.proofs.Changes.{Low, LocksGo, locks_rest, locks_go, locks_among, CondLow, CondvarsGo, condvars_rest, condvars_go, condvars_among}

-- names stay below the next number
pub record Lows (h : LockHall) (n : ℕ) : Type 0 where
  pub mutexes : Low h.mutexes n
  pub rw_locks : Low h.rw_locks n
  pub condvars : CondLow h.condvars n

-- ---- whom an event neither polls nor ends, in each part
abbrev pub IsQuiet : Option ℕ → Bool → Type 0
IsQuiet polled ends = (polled ≡ None) × (ends ≡ false)

abbrev pub QuietMutex : Meaning → ℕ → Type 0
QuietMutex (OnLocks Mutexes a) f = IsQuiet (polled_in a f) (ends_in a f)
QuietMutex (OnLocks RwLocks a) f = Unit {0}
QuietMutex (OnCondvars a) f = IsQuiet (polled_on a f) (ends_on a f)

abbrev pub QuietRw : Meaning → ℕ → Type 0
QuietRw (OnLocks Mutexes a) f = Unit {0}
QuietRw (OnLocks RwLocks a) f = IsQuiet (polled_in a f) (ends_in a f)
QuietRw (OnCondvars a) f = Unit {0}

abbrev pub QuietWait : Meaning → ℕ → Type 0
QuietWait (OnLocks k a) f = Unit {0}
QuietWait (OnCondvars a) f = IsQuiet (polled_on a f) (ends_on a f)

pub record HallGoes (d : Meaning) (h h' : LockHall) (i : ℕ) (ws : List ℕ) : Type 0 where
  pub mutexes : LocksGo (QuietMutex d) h.mutexes h'.mutexes i ws
  pub rw_locks : LocksGo (QuietRw d) h.rw_locks h'.rw_locks i ws
  pub condvars : CondvarsGo (QuietWait d) h.condvars h'.condvars i ws

-- what is known of a wait and of the future at its mutex
pub both_known : (a b : Bool) → unknown_unless (a && b) ≡ None → (a ≡ true) × (b ≡ true)
both_known a b is = and_parts a b (known (a && b) is)

-- what a line of a lock does is allowed, and not done to the future of a wait
pub of_lock : (b : Bool) (o : Option Stop) → (if b then Some stops.Unknown else o) ≡ None → (b ≡ false) × (o ≡ None)
of_lock true o is = absurd (cc)
of_lock false o is = (refl, is)

module _ (h : LockHall) (n i : ℕ) (lows : Lows h n) (later : n ≤ i) where
  mutexes_rest : (d : Meaning) (ws : List ℕ) → LocksGo (QuietMutex d) h.mutexes h.mutexes i ws
  mutexes_rest d ws = locks_rest h.mutexes n i lows.mutexes later (QuietMutex d) ws

  rw_locks_rest : (d : Meaning) (ws : List ℕ) → LocksGo (QuietRw d) h.rw_locks h.rw_locks i ws
  rw_locks_rest d ws = locks_rest h.rw_locks n i lows.rw_locks later (QuietRw d) ws

  conds_rest : (d : Meaning) (ws : List ℕ) → CondvarsGo (QuietWait d) h.condvars h.condvars i ws
  conds_rest d ws = condvars_rest h.condvars n i lows.condvars later (QuietWait d) ws

  module _ (a : CondAction) where
    abbrev HallActs : Outcome LockHall → Type 0
    HallActs o = HallGoes (OnCondvars a) h o.hall i o.wakes

    abbrev CondvarsAct : Outcome Condvars → Type 0
    CondvarsAct p = CondvarsGo (QuietWait (OnCondvars a)) h.condvars p.hall i p.wakes

    still : HallActs (quietly h answers.Done)
    still = record { mutexes = mutexes_rest (OnCondvars a) []; rw_locks = rw_locks_rest (OnCondvars a) []; condvars = conds_rest (OnCondvars a) [] }

    alone : (p : Outcome Condvars) → CondvarsAct p → HallActs (on_condvars h p)
    alone p acts = record { mutexes = mutexes_rest (OnCondvars a) p.wakes; rw_locks = rw_locks_rest (OnCondvars a) p.wakes; condvars = acts }

    both : (o : Outcome Locks) (p : Outcome Condvars) → LocksGo (QuietMutex (OnCondvars a)) h.mutexes o.hall i o.wakes → CondvarsAct p → HallActs (on_both h o p)
    both o p locks acts = record {
      mutexes = locks_among _ h.mutexes o.hall i o.wakes (o.wakes ++ p.wakes) (λ w has. Contains-append_left o.wakes p.wakes w has) locks;
      rw_locks = rw_locks_rest (OnCondvars a) (o.wakes ++ p.wakes);
      condvars = condvars_among _ h.condvars p.hall i p.wakes (o.wakes ++ p.wakes) (λ w has. Contains-append_right o.wakes p.wakes w has) acts;
    }

  -- the future at its mutex is polled, or ends, or is made
  on_mutexes : (a : CondAction) (b : Action) → cause_in h.mutexes b ≡ None → LocksGo (λ f. IsQuiet (polled_in b f) (ends_in b f)) h.mutexes (act_in h.mutexes i b).hall i (act_in h.mutexes i b).wakes
  on_mutexes a b allowed = locks_go h.mutexes n i lows.mutexes later b _ (act_in h.mutexes i b) allowed (goes h.mutexes i b)

  module _ (f w : ℕ) (allowed : cause_on h (Poll f w) ≡ None) (x : CondWait) (q : Waiting) (wait : get h.condvars.waits f ≡ Some x) (there : get h.condvars.condvars x.condvar ≡ Some q) where
    is_polled : cond (f == f) (Some w) None ≡ Some w
    is_polled = ap (λ b. cond b (Some w) None) (eq-eqb f f refl)

    abbrev Polls : Outcome Condvars → Type 0
    Polls p = CondvarsAct (Poll f w) p

    polled_go : (extra : ℕ) (p : Outcome Condvars) → acting.CondGoes h.condvars i Unit (polled_on (Poll f w)) (ends_on (Poll f w)) extra p → acting.Stands h.condvars p → Polls p
    polled_go extra p goes stands = condvars_go h.condvars n i lows.condvars later Unit (polled_on (Poll f w)) (ends_on (Poll f w)) extra p tt goes stands

    nobody : (g : ℕ) → ends_on (Poll f w) g ≡ true → ⊥
    nobody g is = absurd (cc)

    told : (o : Outcome Locks) → Polls (told_by o h.condvars f w x q)
    told o = by_if Polls (is_pending o.reply) _ _
        (λ pending. by_if Polls (was_polled (get o.hall.futures f)) _ _
        (λ asks. polled_go 0 (condvars.asks h.condvars f x) (acting.asks h.condvars i Unit _ _ nobody f w x q is_polled wait there) (λ g y is some. some))
        (λ listed. polled_go 1 (condvars.lists h.condvars f w x q) (acting.lists h.condvars i Unit _ _ nobody f w x q is_polled wait there) (λ g y is some. put_stands h.condvars.condvars x.condvar _ y.condvar some)))
        (λ over. polled_go 0 (condvars.is_over h.condvars f) (acting.is_over h.condvars i Unit _ _ nobody f w x q is_polled wait there) (λ g y is some. some))

    polls : HallActs (Poll f w) (poll_wait h i f w x q)
    polls = by_if (HallActs (Poll f w)) (waits q f) _ _
        (λ waiting. alone (Poll f w) (condvars.waits_on h.condvars f w x q) (polled_go 1 (condvars.waits_on h.condvars f w x q) (acting.waits_on h.condvars i Unit _ _ nobody f w x q is_polled wait there) (λ g y is some. put_stands h.condvars.condvars x.condvar _ y.condvar some)))
        (λ apart. both (Poll f w) (act_in h.mutexes i (PollUntil f w (until_of x))) (told_by (act_in h.mutexes i (PollUntil f w (until_of x))) h.condvars f w x q) (on_mutexes (Poll f w) (PollUntil f w (until_of x)) (is_known (is_condvar_future h.mutexes f) (both_known (is_wait h.condvars f) (is_condvar_future h.mutexes f) allowed).1))
        (told (act_in h.mutexes i (PollUntil f w (until_of x)))))

  acts_on : (a : CondAction) → cause_on h a ≡ None → HallActs a (act_on h i a)
  acts_on Make allowed = alone Make (condvars.make h.condvars i) (condvars_go h.condvars n i lows.condvars later Unit _ _ 0 (condvars.make h.condvars i) tt (acting.makes h.condvars i Unit (polled_on Make) (ends_on Make) (λ f is. absurd (cc)))
      (λ f y is some. put_stands h.condvars.condvars i [] y.condvar some))
  acts_on (Wait c g bound) allowed =
      let is = both_known (is_condvar h.condvars c) (is_write_guard h.mutexes g) allowed in
      both (Wait c g bound) (act_in h.mutexes i (Hand g)) (condvars.begin h.condvars i c bound) (on_mutexes (Wait c g bound) (Hand g) (is_known (is_write_guard h.mutexes g) is.1))
      (condvars_go h.condvars n i lows.condvars later Unit _ _ 0 (condvars.begin h.condvars i c bound) tt (acting.begins h.condvars i Unit (polled_on (Wait c g bound)) (ends_on (Wait c g bound)) (λ f is. absurd (cc)) c bound (λ _. is.0)) (λ f y is some. some))
  acts_on (Poll f w) allowed = by_found (HallActs (Poll f w)) (get h.condvars.waits f) h _ (still (Poll f w))
      (λ x wait. by_found (HallActs (Poll f w)) (get h.condvars.condvars x.condvar) h _ (still (Poll f w)) (λ q there. polls f w allowed x q wait there))
  acts_on (One c) allowed = by_found (HallActs (One c)) (get h.condvars.condvars c) h _ (still (One c))
      (λ q there. alone (One c) (condvars.notify_one h.condvars c q) (condvars_go h.condvars n i lows.condvars later Unit _ _ 0 (condvars.notify_one h.condvars c q) tt (acting.notifies h.condvars i Unit (polled_on (One c)) (ends_on (One c)) (λ f is. absurd (cc)) c q there) (stands_notified h.condvars c q)))
  acts_on (All c) allowed = by_found (HallActs (All c)) (get h.condvars.condvars c) h _ (still (All c))
      (λ q there. alone (All c) (condvars.notify_all h.condvars c q) (condvars_go h.condvars n i lows.condvars later Unit _ _ 0 (condvars.notify_all h.condvars c q) tt (acting.notifies_all h.condvars i Unit (polled_on (All c)) (ends_on (All c)) (λ f is. absurd (cc)) c q there)
      (λ f y is some. put_stands h.condvars.condvars c [] y.condvar some)))
  acts_on (End f) allowed =
      let is = both_known (is_wait h.condvars f) (is_condvar_future h.mutexes f) allowed in
      by_found (HallActs (End f)) (get h.condvars.waits f) h _ (still (End f))
      (λ x wait. by_found (HallActs (End f)) (get h.condvars.condvars x.condvar) h _ (still (End f))
      (λ q there. both (End f) (act_in h.mutexes i (EndWait f)) (condvars.end_wait h.condvars f x q) (on_mutexes (End f) (EndWait f) (is_known (is_condvar_future h.mutexes f) is.1))
      (condvars_go h.condvars n i lows.condvars later Unit _ _ 0 (condvars.end_wait h.condvars f x q) tt (acting.ends_wait h.condvars i Unit (polled_on (End f)) f x q there) (stands_ended h.condvars f x q))))
  acts_on (Drop c) allowed = by_found (HallActs (Drop c)) (get h.condvars.condvars c) h _ (still (Drop c))
      (λ q there. let none = not_borrowed (is_condvar h.condvars c) (waits_of h.condvars c) allowed in
      alone (Drop c) (condvars.drop h.condvars c) (condvars_go h.condvars n i lows.condvars later Unit _ _ 0 (condvars.drop h.condvars c) tt (acting.drops h.condvars i Unit (polled_on (Drop c)) (ends_on (Drop c)) (λ f is. absurd (cc)) c q there (λ _. none)) (stands_dropped h.condvars c none)))

  pub steps : (d : Meaning) → cause_by h d ≡ None → HallGoes d h (step_by h i d).hall i (step_by h i d).wakes
  steps (OnLocks Mutexes a) allowed = record {
    mutexes = locks_go h.mutexes n i lows.mutexes later a _ (act_in h.mutexes i a) (of_lock (is_of_wait a) (cause_in h.mutexes a) allowed).1 (goes h.mutexes i a);
    rw_locks = rw_locks_rest (OnLocks Mutexes a) _;
    condvars = conds_rest (OnLocks Mutexes a) _;
  }
  steps (OnLocks RwLocks a) allowed = record {
    mutexes = mutexes_rest (OnLocks RwLocks a) _;
    rw_locks = locks_go h.rw_locks n i lows.rw_locks later a _ (act_in h.rw_locks i a) (of_lock (is_of_wait a) (cause_in h.rw_locks a) allowed).1 (goes h.rw_locks i a);
    condvars = conds_rest (OnLocks RwLocks a) _;
  }
  steps (OnCondvars a) allowed = acts_on a allowed

  pub lows_after : (d : Meaning) → cause_by h d ≡ None → Lows (step_by h i d).hall (i + 1)
  lows_after d allowed = let all = steps d allowed in record { mutexes = all.mutexes.low; rw_locks = all.rw_locks.low; condvars = all.condvars.low }
