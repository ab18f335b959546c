-- what an event keeps of the locks of one kind, and of the condition variables, of whom it neither polls nor ends
use Rattle.std.proofs.Common.{◌≡◌, ℕ, ◌+◌, ◌≤◌, ◌⊎◌, inl, inr, Bool, false, List, Option, Some, None, is_some, refl, ap, sym, ◌∙◌, arith}
use Rattle.std.specs.List.{Contains}
use Rattle.std.specs.Option.{IsSome}
use Rattle.std.specs.FinMap.{get}
use Rattle.mea_family.specs.Family.{Outcome}
use Rattle.mea_base.proofs.Maps.{by_put, inside, get-other, removed_there, is_there, value_in}
use Rattle.mea_base.proofs.Tests.{by_name}
use Rattle.mea_by_name.specs.ByName.{Names}
use Rattle.mea_by_name.specs.NamedQueue as named_queue
use Rattle.mea_by_name.specs.NamedQueue.{Waiting}
use Rattle.mea_by_name.proofs.OneObject.{IsBelow, AreBelow, FuturesGo, Kept, Begun, Turned, Ended, below_later, goes_lows, goes_below, goes_kept, goes_made, after_it, untouched}
use Rattle.mea_lock_model.specs.Locks as locks
use Rattle.mea_lock_model.specs.Locks.{Locks, LockFuture, waiting_at}
use Rattle.mea_lock_model.specs.Condvars.{Condvars, queue_of}
use Rattle.mea_lock_model.specs.Actions.{Action, polled_in, ends_in, cause_in}
use Rattle.mea_lock_model.proofs.Acting as acting
use Rattle.mea_lock_model.proofs.Acting.{Acts}
use Rattle.mea_lock_model.proofs.CondActing.{Key, keys, CondGoes, Stands}
use Rattle.mea_lock_model.proofs.CondActing as cond_acting

-- ---- futures of one object at the most: all but the one that is touched are as they were
module _ {R X : Type 0} (queue : R → Waiting) (owner : X → ℕ) (rs : Names R) (xs : Names X) (C : Type 0) (i k : ℕ) where
  -- who is there afterwards was there before, or is new, or is the one that is touched
  before_it : (xs' : Names X) → FuturesGo queue owner rs xs C i k xs' → (f : ℕ) (y : X) → get xs' f ≡ Some y → (f ≡ i → ⊥) → (k ≡ f → ⊥) → get xs f ≡ Some y
  before_it _ Kept f y is new apart = is
  before_it _ (Begun x owned) f y is new apart = sym (get-other xs i f x (λ same. new (sym same))) ∙ is
  before_it _ (Turned x z there same) f y is new apart = sym (get-other xs k f z apart) ∙ is
  before_it _ Ended f y is new apart = removed_there xs k f y is

  -- whose object was there before: that of each who is there afterwards, where that of each before was
  owned_before : ((f : ℕ) (x : X) → get xs f ≡ Some x → IsSome (get rs (owner x))) → C → (xs' : Names X) → FuturesGo queue owner rs xs C i k xs' → (f : ℕ) (y : X) → get xs' f ≡ Some y → IsSome (get rs (owner y))
  owned_before home allowed _ Kept f y is = home f y is
  owned_before home allowed _ (Begun x owned) f y is = by_put xs i x (λ f o. o ≡ Some y → IsSome (get rs (owner y)))
      (λ is. ap (λ x. is_some (get rs (owner x))) (sym (inside is)) ∙ owned allowed) (λ f apart is. home f y is) f is
  owned_before home allowed _ (Turned x z there same) f y is = by_put xs k z (λ f o. o ≡ Some y → IsSome (get rs (owner y)))
      (λ is. ap (λ n. is_some (get rs n)) (sym (ap owner (inside is)) ∙ same) ∙ home k x there) (λ f apart is. home f y is) f is
  owned_before home allowed _ Ended f y is = home f y (removed_there xs k f y is)

-- ---- the locks of one kind
-- names stay below the next number
pub record Low (h : Locks) (n : ℕ) : Type 0 where
  pub lows : IsBelow h.locks n
  pub below : AreBelow waiting_at acting.owner h.futures n

pub record LocksGo (quiet : ℕ → Type 0) (h h' : Locks) (i : ℕ) (ws : List ℕ) : Type 0 where
  pub kept : (f w : ℕ) → quiet f → locks.placed h f ≡ Some w → (locks.placed h' f ≡ Some w) ⊎ Contains ws w
  pub same : (f : ℕ) (x : LockFuture) → quiet f → get h.futures f ≡ Some x → get h'.futures f ≡ Some x
  pub made : (f : ℕ) (y : LockFuture) → get h'.futures f ≡ Some y → ((x : LockFuture) × (get h.futures f ≡ Some x) × (y.of_condvar ≡ x.of_condvar)) ⊎ (f ≡ i)
  pub low : Low h' (i + 1)

module _ (h : Locks) (n i : ℕ) (low : Low h n) (later : n ≤ i) where
  -- they are as they were
  pub locks_rest : (quiet : ℕ → Type 0) (ws : List ℕ) → LocksGo quiet h h i ws
  locks_rest quiet ws = record {
    kept = λ f w silent is. inl is;
    same = λ f x silent is. is;
    made = λ f y is. inl (y, is, refl);
    low = record { lows = below_later h.locks n i low.lows later; below = record { at = λ f x is. (omega (arith, (low.below.at f x is).0), omega (arith, (low.below.at f x is).1)) } };
  }

  old : (f : ℕ) (x : LockFuture) → get h.futures f ≡ Some x → f ≡ i → ⊥
  old f x is same = absurd (let few = (low.below.at f x is).0 in omega (arith, same))

  -- an action was done to them
  pub locks_go : (a : Action) (extra : ℕ) (o : Outcome Locks) → cause_in h a ≡ None → Acts h i a extra o → LocksGo (λ f. (polled_in a f ≡ None) × (ends_in a f ≡ false)) h o.hall i o.wakes
  locks_go a extra o allowed acts = record {
    kept = λ f w silent is. goes_kept _ _ h.locks h.futures n i low.lows low.below later _ allowed _ _ _ _ _ _ acts.goes f w is silent.0 silent.1;
    same = λ f x silent is. after_it _ _ h.locks h.futures _ i acts.goes.k o.hall.futures acts.goes.futures f x is (old f x is)
        (untouched waiting_at acting.owner h.locks h.futures (cause_in h a ≡ None) i acts.goes.k (polled_in a) (ends_in a) acts.goes.touches f (old f x is) silent.0 silent.1);
    made = λ f y is. by_name f i (λ new. inr new) (λ old. inl (by_name acts.goes.k f (λ it. touched f y is old it)
        (λ apart. (y, before_it _ _ h.locks h.futures _ i acts.goes.k o.hall.futures acts.goes.futures f y is old apart, refl))));
    low = record {
      lows = goes_lows _ _ h.locks h.futures n i low.lows low.below later _ allowed _ _ _ _ _ _ acts.goes;
      below = goes_below _ _ h.locks h.futures n i low.lows low.below later _ allowed _ _ _ _ _ _ acts.goes;
    };
  }
    where
      touched : (f : ℕ) (y : LockFuture) → get o.hall.futures f ≡ Some y → (f ≡ i → ⊥) → acts.goes.k ≡ f → (x : LockFuture) × (get h.futures f ≡ Some x) × (y.of_condvar ≡ x.of_condvar)
      touched f y is new it = elim (goes_made _ _ h.locks h.futures n i low.lows low.below later _ allowed _ _ _ _ _ _ acts.goes f (is_there (get o.hall.futures f) y is)) [
        | inl some ↦ let had = value_in (get h.futures f) some in
            (had.0, had.1, acts.marks had.0 y (λ same. new (sym it ∙ same)) (ap (get h.futures) it ∙ had.1) (ap (get o.hall.futures) it ∙ is))
        | inr same ↦ absurd (new same)
      ]

-- ---- the condition variables
pub record CondLow (h : Condvars) (n : ℕ) : Type 0 where
  pub lows : IsBelow h.condvars n
  pub below : AreBelow queue_of cond_acting.owner (keys h.waits) n
  -- a condition variable that has a wait is there
  pub home : (f : ℕ) (x : Key) → get (keys h.waits) f ≡ Some x → IsSome (get h.condvars x.condvar)

-- the waker that is kept for f while it is listed
abbrev pub listed_waker : Condvars → ℕ → Option ℕ
listed_waker h f = named_queue.placed queue_of cond_acting.owner h.condvars (keys h.waits) f

pub record CondvarsGo (quiet : ℕ → Type 0) (h h' : Condvars) (i : ℕ) (ws : List ℕ) : Type 0 where
  pub kept : (f w : ℕ) → quiet f → listed_waker h f ≡ Some w → (listed_waker h' f ≡ Some w) ⊎ Contains ws w
  pub same : (f : ℕ) (x : Key) → quiet f → get (keys h.waits) f ≡ Some x → get (keys h'.waits) f ≡ Some x
  pub made : (f : ℕ) (y : Key) → get (keys h'.waits) f ≡ Some y → IsSome (get (keys h.waits) f) ⊎ (f ≡ i)
  pub low : CondLow h' (i + 1)

module _ (h : Condvars) (n i : ℕ) (low : CondLow h n) (later : n ≤ i) where
  pub condvars_rest : (quiet : ℕ → Type 0) (ws : List ℕ) → CondvarsGo quiet h h i ws
  condvars_rest quiet ws = record {
    kept = λ f w silent is. inl is;
    same = λ f x silent is. is;
    made = λ f y is. inl (is_there (get (keys h.waits) f) y is);
    low = record {
      lows = below_later h.condvars n i low.lows later;
      below = record { at = λ f x is. (omega (arith, (low.below.at f x is).0), omega (arith, (low.below.at f x is).1)) };
      home = low.home;
    };
  }

  old_wait : (f : ℕ) (x : Key) → get (keys h.waits) f ≡ Some x → f ≡ i → ⊥
  old_wait f x is same = absurd (let few = (low.below.at f x is).0 in omega (arith, same))

  pub condvars_go : (C : Type 0) (polled : ℕ → Option ℕ) (ends : ℕ → Bool) (extra : ℕ) (o : Outcome Condvars) → C → CondGoes h i C polled ends extra o → Stands h o
      → CondvarsGo (λ f. (polled f ≡ None) × (ends f ≡ false)) h o.hall i o.wakes
  condvars_go C polled ends extra o allowed goes stands = record {
    kept = λ f w silent is. goes_kept _ _ h.condvars (keys h.waits) n i low.lows low.below later _ allowed _ _ _ _ _ _ goes f w is silent.0 silent.1;
    same = λ f x silent is. after_it _ _ h.condvars (keys h.waits) _ i goes.k (keys o.hall.waits) goes.futures f x is (old_wait f x is)
        (untouched queue_of cond_acting.owner h.condvars (keys h.waits) C i goes.k polled ends goes.touches f (old_wait f x is) silent.0 silent.1);
    made = λ f y is. goes_made _ _ h.condvars (keys h.waits) n i low.lows low.below later _ allowed _ _ _ _ _ _ goes f (is_there (get (keys o.hall.waits) f) y is);
    low = record {
      lows = goes_lows _ _ h.condvars (keys h.waits) n i low.lows low.below later _ allowed _ _ _ _ _ _ goes;
      below = goes_below _ _ h.condvars (keys h.waits) n i low.lows low.below later _ allowed _ _ _ _ _ _ goes;
      home = λ f y is. stands f y is (owned_before queue_of cond_acting.owner h.condvars (keys h.waits) C i goes.k low.home allowed (keys o.hall.waits) goes.futures f y is);
    };
  }

-- ---- among more wakes
pub locks_among : (quiet : ℕ → Type 0) (h h' : Locks) (i : ℕ) (ws vs : List ℕ) → ((w : ℕ) → Contains ws w → Contains vs w) → LocksGo quiet h h' i ws → LocksGo quiet h h' i vs
locks_among quiet h h' i ws vs more go = record {
  kept = λ f w silent is. elim (go.kept f w silent is) [ inl kept ↦ inl kept | inr woken ↦ inr (more w woken) ];
  same = go.same;
  made = go.made;
  low = go.low;
}

pub condvars_among : (quiet : ℕ → Type 0) (h h' : Condvars) (i : ℕ) (ws vs : List ℕ) → ((w : ℕ) → Contains ws w → Contains vs w) → CondvarsGo quiet h h' i ws → CondvarsGo quiet h h' i vs
condvars_among quiet h h' i ws vs more go = record {
  kept = λ f w silent is. elim (go.kept f w silent is) [ inl kept ↦ inl kept | inr woken ↦ inr (more w woken) ];
  same = go.same;
  made = go.made;
  low = go.low;
}
