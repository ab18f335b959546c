-- what each action on condition variables changes of them: one of them and one wait at the most
use Rattle.std.proofs.Common.{◌≡◌, ℕ, ◌==◌, Bool, true, false, [], ◌∷◌, Option, Some, None, is_some, refl, ap, sym, ◌∙◌, arith}
use Rattle.std.specs.Option.{IsSome}
use Rattle.std.proofs.lemmas.Bool.{eqb-true, eq-eqb}
use Rattle.std.specs.FinMap.{get, insert, remove}
use Rattle.mea_family.specs.Family.{Outcome}
use Rattle.mea_base.proofs.Maps.{by_put, get-gone, get-removed_other}
use Rattle.mea_by_name.specs.ByName.{Names, seen}
use Rattle.mea_by_name.specs.NamedQueue.{Waiting, waits}
use Rattle.mea_by_name.proofs.Cases.{by_if}
use Rattle.mea_by_name.proofs.NamedQueues.{local_appended, local_with, local_without, local_popped, local_drained}
use Rattle.mea_by_name.proofs.OneObject.{Goes, FuturesGo, Same, Put, Made, Gone, Kept, Begun, Turned, Ended, None_is, Polled, Ends}
use Rattle.mea_by_name.proofs.Own.{seen-at, seen-back, seen-insert, seen-remove, seen-alike, own-nothing}
use Rattle.mea_lock_model.specs.Condvars as condvars
use Rattle.mea_lock_model.specs.Condvars.{Condvars, CondWait, queue_of, noted, noted_at, waits_of}

-- what the laws on wakers look at of a wait
pub record Key : Type 0 where
  pub condvar : ℕ
  pub listed : Bool

abbrev pub key_of : CondWait → Key
key_of x = record { condvar = x.condvar; listed = x.listed }

abbrev pub keys : Names CondWait → Names Key
keys ws = seen key_of ws

abbrev pub owner : Key → ℕ
owner k = k.condvar

-- what is there stays when something is put
pub put_stands : (m : Names Waiting) (k : ℕ) (q : Waiting) (c : ℕ) → IsSome (get m c) → IsSome (get (insert m k q) c)
put_stands m k q c some = by_put m k q (λ c p. IsSome (get m c) → IsSome p) (λ some. refl) (λ c apart some. some) c some

-- to be notified alone is not looked at
noted-keys : (ws : Names CondWait) (f : ℕ) → keys (noted ws f) ≡ keys ws
noted-keys ws f = at (get ws f) refl
  where
    at : (o : Option CondWait) → get ws f ≡ o → keys (noted_at ws f o) ≡ keys ws
    at None is = refl
    at (Some x) is = seen-alike key_of ws f x (record x { alone = true }) is refl

module _ (h : Condvars) (i : ℕ) (C : Type 0) (polled : ℕ → Option ℕ) (ends : ℕ → Bool) where
  -- the event changes one condition variable and one wait at the most
  abbrev pub CondGoes : ℕ → Outcome Condvars → Type 0
  CondGoes extra o = Goes queue_of owner h.condvars (keys h.waits) C polled ends i extra o.hall.condvars (keys o.hall.waits) o.wakes

  -- ---- an action that ends nobody
  module _ (none : (f : ℕ) → ends f ≡ true → ⊥) where
    pub still : (extra : ℕ) → Goes queue_of owner h.condvars (keys h.waits) C polled ends i extra h.condvars (keys h.waits) []
    still extra = record { k = i; touches = None_is refl; objects = Same; futures = Kept; over = λ f is. absurd (none f is) }

    pub makes : CondGoes 0 (condvars.make h i)
    makes = record { k = i; touches = None_is refl; objects = Made [] refl; futures = Kept; over = λ f is. absurd (none f is) }

    pub begins : (c : ℕ) (bound : Option ℕ) → (C → IsSome (get h.condvars c)) → CondGoes 0 (condvars.begin h i c bound)
    begins c bound there = record {
      k = i;
      touches = None_is refl;
      objects = Same;
      futures = rw (seen-insert key_of h.waits i (record { condvar = c; bound = bound; polled = false; listed = false; alone = false })) (Begun _ there);
      over = λ f is. absurd (none f is);
    }

    pub notifies : (c : ℕ) (q : Waiting) → get h.condvars c ≡ Some q → CondGoes 0 (condvars.notify_one h c q)
    notifies c [] there = still 0
    notifies c (e ∷ q) there = record {
      k = i;
      touches = None_is refl;
      objects = Put c (e ∷ q) q (e.1 ∷ []) 0 there (local_popped e q i) (omega arith);
      futures = rw (noted-keys h.waits e.0) Kept;
      over = λ f is. absurd (none f is);
    }

    pub notifies_all : (c : ℕ) (q : Waiting) → get h.condvars c ≡ Some q → CondGoes 0 (condvars.notify_all h c q)
    notifies_all c q there = record { k = i; touches = None_is refl; objects = Put c q [] _ 0 there (local_drained q i) (omega arith); futures = Kept; over = λ f is. absurd (none f is) }

    pub drops : (c : ℕ) (q : Waiting) → get h.condvars c ≡ Some q → (C → waits_of h c ≡ 0) → CondGoes 0 (condvars.drop h c)
    drops c q there alone = record {
      k = i;
      touches = None_is refl;
      objects = Gone c q [] there (omega arith) (λ allowed f y apart is mine. let had = seen-back key_of h.waits f y is in
          own-nothing (λ (x : CondWait). x.condvar) c h.waits (omega (arith, alone allowed)) f had.0 had.1 (mine ∙ ap owner (sym had.2)));
      futures = Kept;
      over = λ f is. absurd (none f is);
    }

    module _ (f w : ℕ) (x : CondWait) (q : Waiting) (is : polled f ≡ Some w) (wait : get h.waits f ≡ Some x) (there : get h.condvars x.condvar ≡ Some q) where
      key_there : get (keys h.waits) f ≡ Some (key_of x)
      key_there = seen-at key_of h.waits f x wait

      pub waits_on : CondGoes 1 (condvars.waits_on h f w x q)
      waits_on = record {
        k = f;
        touches = Polled w is;
        objects = Put x.condvar q _ [] 0 there (local_with q f w) (omega arith);
        futures = rw (seen-insert key_of h.waits f (record x { polled = true; listed = true })) (Turned (key_of x) _ key_there refl);
        over = λ f is. absurd (none f is);
      }

      pub lists : CondGoes 1 (condvars.lists h f w x q)
      lists = record {
        k = f;
        touches = Polled w is;
        objects = Put x.condvar q _ [] 1 there (local_appended q f w) (omega arith);
        futures = rw (seen-insert key_of h.waits f (record x { polled = true; listed = true; alone = false })) (Turned (key_of x) _ key_there refl);
        over = λ f is. absurd (none f is);
      }

      pub asks : CondGoes 0 (condvars.asks h f x)
      asks = record {
        k = f;
        touches = Polled w is;
        objects = Same;
        futures = rw (seen-insert key_of h.waits f (record x { polled = true; listed = false })) (Turned (key_of x) _ key_there refl);
        over = λ f is. absurd (none f is);
      }

      pub is_over : CondGoes 0 (condvars.is_over h f)
      is_over = record { k = f; touches = Polled w is; objects = Same; futures = rw (seen-remove key_of h.waits f) Ended; over = λ f is. absurd (none f is) }

-- ---- an end
module _ (h : Condvars) (i : ℕ) (C : Type 0) (polled : ℕ → Option ℕ) (k : ℕ) where
  gone : (f : ℕ) → (k == f) ≡ true → get (keys (remove h.waits k)) f ≡ None
  gone f is = rw (seen-remove key_of h.waits k) (ap (get (remove (keys h.waits) k)) (sym (eqb-true k f is)) ∙ get-gone (keys h.waits) k)

  goes_away : FuturesGo queue_of owner h.condvars (keys h.waits) C i k (keys (remove h.waits k))
  goes_away = rw (seen-remove key_of h.waits k) Ended

  leaves : CondGoes h i C polled (λ f. k == f) 0 (condvars.is_over h k)
  leaves = record { k = k; touches = Ends (eq-eqb k k refl); objects = Same; futures = goes_away; over = gone }

  passes_on : (c : ℕ) (q : Waiting) → get h.condvars c ≡ Some q → CondGoes h i C polled (λ f. k == f) 0 (condvars.notify_one (record h { waits = remove h.waits k }) c q)
  passes_on c [] there = leaves
  passes_on c (e ∷ q) there = record {
    k = k;
    touches = Ends (eq-eqb k k refl);
    objects = Put c (e ∷ q) q (e.1 ∷ []) 0 there (local_popped e q k) (omega arith);
    futures = rw (noted-keys (remove h.waits k) e.0) goes_away;
    over = λ f is. rw (noted-keys (remove h.waits k) e.0) (gone f is);
  }

  pub ends_wait : (x : CondWait) (q : Waiting) → get h.condvars x.condvar ≡ Some q → CondGoes h i C polled (λ f. k == f) 0 (condvars.end_wait h k x q)
  ends_wait x q there = by_if (CondGoes h i C polled (λ f. k == f) 0) (waits q k) _ _
      (λ waiting. record { k = k; touches = Ends (eq-eqb k k refl); objects = Put x.condvar q _ [] 0 there (local_without q k) (omega arith); futures = goes_away; over = gone })
      (λ apart. by_if (CondGoes h i C polled (λ f. k == f) 0) x.alone _ _ (λ alone. passes_on x.condvar q there) (λ all. leaves))

-- ---- a condition variable that has a wait stays
abbrev pub Stands : Condvars → Outcome Condvars → Type 0
Stands h o = (f : ℕ) (y : Key) → get (keys o.hall.waits) f ≡ Some y → IsSome (get h.condvars y.condvar) → IsSome (get o.hall.condvars y.condvar)

pub stands_notified : (h : Condvars) (c : ℕ) (q : Waiting) → Stands h (condvars.notify_one h c q)
stands_notified h c [] f y is some = some
stands_notified h c (e ∷ q) f y is some = put_stands h.condvars c q y.condvar some

pub stands_ended : (h : Condvars) (k : ℕ) (x : CondWait) (q : Waiting) → Stands h (condvars.end_wait h k x q)
stands_ended h k x q = by_if (Stands h) (waits q k) _ _ (λ waiting f y is some. put_stands h.condvars x.condvar _ y.condvar some)
    (λ apart. by_if (Stands h) x.alone _ _ (λ alone. stands_notified (record h { waits = remove h.waits k }) x.condvar q) (λ all f y is some. some))

pub stands_dropped : (h : Condvars) (c : ℕ) → waits_of h c ≡ 0 → Stands h (condvars.drop h c)
stands_dropped h c alone f y is some =
    let had = seen-back key_of h.waits f y is in
    let other = get-removed_other h.condvars c y.condvar (λ mine. own-nothing (λ (x : CondWait). x.condvar) c h.waits (omega (arith, alone)) f had.0 had.1 (mine ∙ ap owner (sym had.2))) in
    ap is_some other ∙ some
