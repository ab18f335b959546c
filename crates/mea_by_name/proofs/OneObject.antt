-- events that change one object and at most one future: what they keep of all others
use Rattle.std.proofs.Common.{◌≡◌, ℕ, ◌+◌, ◌<◌, ◌≤◌, ◌⊎◌, inl, inr, Bool, true, false, length, List, [], Option, Some, None, IsSome, refl, ap, sym, ◌∙◌, arith}
use Rattle.std.specs.List.{Contains}
use Rattle.std.specs.FinMap.{get, insert, remove}
use Rattle.mea_base.specs.Totals.{weight}
use Rattle.mea_base.proofs.Totals.{total-insert, total-remove}
use Rattle.mea_base.proofs.Maps.{by_put, by_gone, get-there, get-other, get-removed_other, total-has, is_there, inside, value_in, removed_there}
use Rattle.mea_by_name.specs.ByName.{Names}
use Rattle.mea_by_name.specs.NamedQueue.{Waiting, waker_for, queue_of, registered, placed_of, placed}
use Rattle.mea_by_name.proofs.NamedQueues.{Local}

-- all names are below n
pub record IsBelow {X : Type 0} (m : Names X) (n : ℕ) : Type 0 where
  pub at : (k : ℕ) (x : X) → get m k ≡ Some x → k < n

pub below_put : {X : Type 0} (m : Names X) (n i k : ℕ) (x : X) → IsBelow m n → n ≤ i → k ≤ i → IsBelow (insert m k x) (i + 1)
below_put m n i k x below later small = record { at = by_put m k x (λ j o. (y : _) → o ≡ Some y → j < i + 1) (λ y is. omega arith) (λ j apart y is. omega (arith, below.at j y is)) }

pub below_gone : {X : Type 0} (m : Names X) (n i k : ℕ) → IsBelow m n → n ≤ i → IsBelow (remove m k) (i + 1)
below_gone m n i k below later = record { at = by_gone m k (λ j o. (y : _) → o ≡ Some y → j < i + 1) (λ y is. absurd (cc)) (λ j apart y is. omega (arith, below.at j y is)) }

pub below_later : {X : Type 0} (m : Names X) (n i : ℕ) → IsBelow m n → n ≤ i → IsBelow m (i + 1)
below_later m n i below later = record { at = λ k x is. omega (arith, below.at k x is) }

module _ {R : Type 0} (queue : R → Waiting) where
  -- as many wakers are registered after an event that wakes ws as before, and so many more at the most
  pub record Counted (rs rs' : Names R) (ws : List ℕ) (extra : ℕ) : Type 0 where
    pub most : length ws ≤ registered queue rs
    pub grows : registered queue rs' + length ws ≤ registered queue rs + extra

  pub counted_same : (rs : Names R) (extra : ℕ) → Counted rs rs [] extra
  counted_same rs extra = record { most = omega arith; grows = omega arith }

  pub counted_put : (rs : Names R) (o : ℕ) (r r' : R) (ws : List ℕ) (k extra more : ℕ) → get rs o ≡ Some r → Local (queue r) (queue r') ws k extra → extra ≤ more
      → Counted rs (insert rs o r') ws more
  counted_put rs o r r' ws k extra more there local few =
      let here : weight (λ o r. length (queue r)) o (get rs o) ≡ length (queue r) = ap (weight (λ o r. length (queue r)) o) there in
      let all = total-insert (λ o r. length (queue r)) rs o r' in
      let had = total-has (λ o r. length (queue r)) rs o r there in
      record { most = omega (arith, had, local.most); grows = omega (arith, here, all, local.fits) }

  pub counted_made : (rs : Names R) (o : ℕ) (r' : R) (extra : ℕ) → queue r' ≡ [] → Counted rs (insert rs o r') [] extra
  counted_made rs o r' extra none =
      let all = total-insert (λ o r. length (queue r)) rs o r' in
      let nobody : length (queue r') ≡ 0 = ap length none in
      record { most = omega arith; grows = omega (arith, all, nobody) }

  pub counted_gone : (rs : Names R) (o : ℕ) (r : R) (ws : List ℕ) (extra : ℕ) → get rs o ≡ Some r → length ws ≤ length (queue r) → Counted rs (remove rs o) ws extra
  counted_gone rs o r ws extra there few =
      let here : weight (λ o r. length (queue r)) o (get rs o) ≡ length (queue r) = ap (weight (λ o r. length (queue r)) o) there in
      let all = total-remove (λ o r. length (queue r)) rs o in
      record { most = omega (arith, few, total-has (λ o r. length (queue r)) rs o r there); grows = omega (arith, here, all, few) }

module _ {R X : Type 0} (queue : R → Waiting) (owner : X → ℕ) where
  -- each future is below n, and so is its owner
  pub record AreBelow (xs : Names X) (n : ℕ) : Type 0 where
    pub at : (f : ℕ) (x : X) → get xs f ≡ Some x → (f < n) × (owner x < n)

  -- ---- what an event of number i does, where C says that it has no cause for refusal. It touches the future k
  -- at the most, wakes ws, and registers so many wakers more at the most

  -- to the objects: nothing; one changes, at which all who wait but k keep their wakers or are woken; one is
  -- made; one is gone that has no future, or k alone
  pub data ObjectsGo (rs : Names R) (xs : Names X) (C : Type 0) (i k extra : ℕ) : Names R → List ℕ → Type 0 where
    Same : ObjectsGo rs xs C i k extra rs []
    Put : (o : ℕ) (r r' : R) (ws : List ℕ) (more : ℕ) → get rs o ≡ Some r → Local (queue r) (queue r') ws k more → more ≤ extra → ObjectsGo rs xs C i k extra (insert rs o r') ws
    Made : (r' : R) → queue r' ≡ [] → ObjectsGo rs xs C i k extra (insert rs i r') []
    Gone : (o : ℕ) (r : R) (ws : List ℕ) → get rs o ≡ Some r → length ws ≤ length (queue r) → (C → (f : ℕ) (x : X) → (k ≡ f → ⊥) → get xs f ≡ Some x → o ≡ owner x → ⊥) → ObjectsGo rs xs C i k extra (remove rs o) ws

  -- to the futures: nothing; one is made; k changes; k is gone
  pub data FuturesGo (rs : Names R) (xs : Names X) (C : Type 0) (i k : ℕ) : Names X → Type 0 where
    Kept : FuturesGo rs xs C i k xs
    Begun : (y : X) → (C → IsSome (get rs (owner y))) → FuturesGo rs xs C i k (insert xs i y)
    Turned : (x y : X) → get xs k ≡ Some x → owner y ≡ owner x → FuturesGo rs xs C i k (insert xs k y)
    Ended : FuturesGo rs xs C i k (remove xs k)

  -- why k is no future that lived before and is neither polled nor ended
  pub data Touches (polled : ℕ → Option ℕ) (ends : ℕ → Bool) (i k : ℕ) : Type 0 where
    None_is : k ≡ i → Touches polled ends i k
    Polled : (w : ℕ) → polled k ≡ Some w → Touches polled ends i k
    Ends : ends k ≡ true → Touches polled ends i k

  pub record Goes (rs : Names R) (xs : Names X) (C : Type 0) (polled : ℕ → Option ℕ) (ends : ℕ → Bool) (i extra : ℕ) (rs' : Names R) (xs' : Names X) (ws : List ℕ) : Type 0 where
    pub k : ℕ
    pub touches : Touches polled ends i k
    pub objects : ObjectsGo rs xs C i k extra rs' ws
    pub futures : FuturesGo rs xs C i k xs'
    -- who is ended is gone
    pub over : (f : ℕ) → ends f ≡ true → get xs' f ≡ None

  -- ---- what follows
  counted : (rs : Names R) (xs : Names X) (C : Type 0) (i k extra : ℕ) (rs' : Names R) (ws : List ℕ) → ObjectsGo rs xs C i k extra rs' ws → Counted queue rs rs' ws extra
  counted rs xs C i k extra _ _ Same = counted_same queue rs extra
  counted rs xs C i k extra _ _ (Put o r r' ws more there local few) = counted_put queue rs o r r' ws k more extra there local few
  counted rs xs C i k extra _ _ (Made r' none) = counted_made queue rs i r' extra none
  counted rs xs C i k extra _ _ (Gone o r ws there few none) = counted_gone queue rs o r ws extra there few

  pub goes_counted : (rs : Names R) (xs : Names X) (C : Type 0) (polled : ℕ → Option ℕ) (ends : ℕ → Bool) (i extra : ℕ) (rs' : Names R) (xs' : Names X) (ws : List ℕ)
      → Goes rs xs C polled ends i extra rs' xs' ws → Counted queue rs rs' ws extra
  goes_counted rs xs C polled ends i extra rs' xs' ws goes = counted rs xs C i goes.k extra rs' ws goes.objects

  module _ (rs : Names R) (xs : Names X) (n i : ℕ) (lows : IsBelow rs n) (below : AreBelow xs n) (later : n ≤ i) (C : Type 0) (none : C) where
    still_below : (f : ℕ) (x : X) → get xs f ≡ Some x → (f < i + 1) × (owner x < i + 1)
    still_below f x is = (omega (arith, (below.at f x is).0), omega (arith, (below.at f x is).1))

    lows_after : (k extra : ℕ) (rs' : Names R) (ws : List ℕ) → ObjectsGo rs xs C i k extra rs' ws → IsBelow rs' (i + 1)
    lows_after k extra _ _ Same = below_later rs n i lows later
    lows_after k extra _ _ (Put o r r' ws more there local few) = below_put rs n i o r' lows later (omega (arith, lows.at o r there))
    lows_after k extra _ _ (Made r' empty) = below_put rs n i i r' lows later (omega arith)
    lows_after k extra _ _ (Gone o r ws was few alone) = below_gone rs n i o lows later

    below_after : (k : ℕ) (xs' : Names X) → FuturesGo rs xs C i k xs' → (f : ℕ) (y : X) → get xs' f ≡ Some y → (f < i + 1) × (owner y < i + 1)
    below_after k _ Kept f y is = still_below f y is
    below_after k _ (Begun x owned) f y is = by_put xs i x (λ f o. o ≡ Some y → (f < i + 1) × (owner y < i + 1))
        (λ is. (omega arith, let same : owner x ≡ owner y = ap owner (inside is) in let there = value_in (get rs (owner x)) (owned none) in omega (arith, lows.at (owner x) there.0 there.1)))
        (λ f apart is. still_below f y is) f is
    below_after k _ (Turned x z there same) f y is = by_put xs k z (λ f o. o ≡ Some y → (f < i + 1) × (owner y < i + 1))
        (λ is. (omega (arith, (below.at k x there).0), let alike : owner z ≡ owner y = ap owner (inside is) in omega (arith, (below.at k x there).1)))
        (λ f apart is. still_below f y is) f is
    below_after k _ Ended f y is = still_below f y (removed_there xs k f y is)

    made_after : (k : ℕ) (xs' : Names X) → FuturesGo rs xs C i k xs' → (f : ℕ) (y : X) → get xs' f ≡ Some y → IsSome (get xs f) ⊎ (f ≡ i)
    made_after k _ Kept f y is = inl (is_there (get xs f) y is)
    made_after k _ (Begun x owned) f y is = by_put xs i x (λ f o. o ≡ Some y → IsSome (get xs f) ⊎ (f ≡ i)) (λ is. inr refl) (λ f apart is. inl (is_there (get xs f) y is)) f is
    made_after k _ (Turned x z there same) f y is = by_put xs k z (λ f o. o ≡ Some y → IsSome (get xs f) ⊎ (f ≡ i)) (λ is. inl (is_there (get xs k) x there)) (λ f apart is. inl (is_there (get xs f) y is)) f is
    made_after k _ Ended f y is = inl (is_there (get xs f) y (removed_there xs k f y is))

    -- who lives before and after has its owner still
    owner_after : (k : ℕ) (xs' : Names X) → FuturesGo rs xs C i k xs' → (f : ℕ) (x y : X) → get xs f ≡ Some x → get xs' f ≡ Some y → owner y ≡ owner x
    owner_after k _ Kept f x y was is = ap owner (inside (sym is ∙ was))
    owner_after k _ (Begun z owned) f x y was is = ap owner (inside (sym is ∙ get-other xs i f z (λ same. absurd (let low = (below.at f x was).0 in omega arith)) ∙ was))
    owner_after k _ (Turned v z there same) f x y was is = by_put xs k z (λ f o. get xs f ≡ Some x → o ≡ Some y → owner y ≡ owner x)
        (λ was is. sym (ap owner (inside is)) ∙ same ∙ ap owner (inside (sym there ∙ was))) (λ f apart was is. ap owner (inside (sym is ∙ was))) f was is
    owner_after k _ Ended f x y was is = ap owner (inside (sym (removed_there xs k f y is) ∙ was))

    waits_after : (k extra : ℕ) (rs' : Names R) (ws : List ℕ) → ObjectsGo rs xs C i k extra rs' ws → (f w : ℕ) (x : X) → (k ≡ f → ⊥) → get xs f ≡ Some x
        → waker_for (queue_of queue (get rs (owner x))) f ≡ Some w → (waker_for (queue_of queue (get rs' (owner x))) f ≡ Some w) ⊎ Contains ws w
    waits_after k extra _ _ Same f w x apart there is = inl is
    waits_after k extra _ _ (Put o r r' ws more was local few) f w x apart there is =
        by_put rs o r' (λ j p. waker_for (queue_of queue (get rs j)) f ≡ Some w → (waker_for (queue_of queue p) f ≡ Some w) ⊎ Contains ws w)
        (λ is. local.keeps f w apart (sym (ap (λ p. waker_for (queue_of queue p) f) was) ∙ is)) (λ j apart is. inl is) (owner x) is
    waits_after k extra _ _ (Made r' empty) f w x apart there is =
        inl (ap (λ p. waker_for (queue_of queue p) f) (get-other rs i (owner x) r' (λ same. absurd (let low = (below.at f x there).1 in omega arith))) ∙ is)
    waits_after k extra _ _ (Gone o r ws was few alone) f w x apart there is = inl (ap (λ p. waker_for (queue_of queue p) f) (get-removed_other rs o (owner x) (alone none f x apart there)) ∙ is)

    -- all but k live on
    stays_after : (k : ℕ) (xs' : Names X) → FuturesGo rs xs C i k xs' → (f : ℕ) (x : X) → (k ≡ f → ⊥) → get xs f ≡ Some x → IsSome (get xs' f)
    stays_after k _ Kept f x apart is = is_there (get xs f) x is
    stays_after k _ (Begun y owned) f x apart is = by_put xs i y (λ f o. get xs f ≡ Some x → IsSome o) (λ is. refl) (λ f differs is. is_there (get xs f) x is) f is
    stays_after k _ (Turned v y there same) f x apart is = by_put xs k y (λ f o. get xs f ≡ Some x → IsSome o) (λ is. refl) (λ f differs is. is_there (get xs f) x is) f is
    stays_after k _ Ended f x apart is = is_there (get (remove xs k) f) x (get-removed_other xs k f apart ∙ is)

    module _ (polled : ℕ → Option ℕ) (ends : ℕ → Bool) (extra : ℕ) (rs' : Names R) (xs' : Names X) (ws : List ℕ) (goes : Goes rs xs C polled ends i extra rs' xs' ws) where
      pub goes_lows : IsBelow rs' (i + 1)
      goes_lows = lows_after goes.k extra rs' ws goes.objects

      pub goes_below : AreBelow xs' (i + 1)
      goes_below = record { at = below_after goes.k xs' goes.futures }

      pub goes_made : (f : ℕ) → IsSome (get xs' f) → IsSome (get xs f) ⊎ (f ≡ i)
      goes_made f some = let there = value_in (get xs' f) some in made_after goes.k xs' goes.futures f there.0 there.1

      apart : (f : ℕ) (x : X) → get xs f ≡ Some x → polled f ≡ None → ends f ≡ false → goes.k ≡ f → ⊥
      apart f x was quiet lasts same = by_reason goes.touches
        where
          by_reason : Touches polled ends i goes.k → ⊥
          by_reason (None_is fresh) = absurd (let low = (below.at f x was).0 in omega arith)
          by_reason (Polled w is_polled) = absurd (let no_poll : polled goes.k ≡ None = ap polled same ∙ quiet in cc)
          by_reason (Ends is_ended) = absurd (let no_end : ends goes.k ≡ false = ap ends same ∙ lasts in cc)

      -- who is neither polled nor ended lives on
      pub goes_stays : (f : ℕ) → IsSome (get xs f) → polled f ≡ None → ends f ≡ false → IsSome (get xs' f)
      goes_stays f some quiet lasts = let there = value_in (get xs f) some in stays_after goes.k xs' goes.futures f there.0 (apart f there.0 there.1 quiet lasts) there.1

      -- and who had a waker kept has it still, or it is woken
      pub goes_kept : (f w : ℕ) → placed queue owner rs xs f ≡ Some w → polled f ≡ None → ends f ≡ false → (placed queue owner rs' xs' f ≡ Some w) ⊎ Contains ws w
      goes_kept f w is quiet lasts = at (get xs f) refl is
        where
          at : (o : Option X) → get xs f ≡ o → placed_of queue owner rs f o ≡ Some w → (placed queue owner rs' xs' f ≡ Some w) ⊎ Contains ws w
          at None was h = absurd (cc)
          at (Some x) was h =
              let after = value_in (get xs' f) (stays_after goes.k xs' goes.futures f x (apart f x was quiet lasts) was) in
              let same : owner after.0 ≡ owner x = owner_after goes.k xs' goes.futures f x after.0 was after.1 in
              let here : placed queue owner rs' xs' f ≡ waker_for (queue_of queue (get rs' (owner x))) f = ap (placed_of queue owner rs' f) after.1 ∙ ap (λ o. waker_for (queue_of queue (get rs' o)) f) same in
              elim (waits_after goes.k extra rs' ws goes.objects f w x (apart f x was quiet lasts) was h) [
                | inl kept ↦ inl (here ∙ kept)
                | inr woken ↦ inr woken
              ]

-- ---- who waits, by name
module _ {R X : Type 0} (queue : R → Waiting) (owner : X → ℕ) (rs : Names R) (xs : Names X) (f w : ℕ) where
  -- a waker is kept where its future is there, and so is its object
  pub record IsPlaced : Type 0 where
    pub x : X
    pub future : get xs f ≡ Some x
    pub r : R
    pub object : get rs (owner x) ≡ Some r
    pub waker : waker_for (queue r) f ≡ Some w

  pub placed_is : placed queue owner rs xs f ≡ Some w → IsPlaced
  placed_is is = at (get xs f) refl is
    where
      at_object : (x : X) → get xs f ≡ Some x → (p : Option R) → get rs (owner x) ≡ p → waker_for (queue_of queue p) f ≡ Some w → IsPlaced
      at_object x there None was h = absurd (cc)
      at_object x there (Some r) was h = record { x = x; future = there; r = r; object = was; waker = h }

      at : (o : Option X) → get xs f ≡ o → placed_of queue owner rs f o ≡ Some w → IsPlaced
      at None was h = absurd (cc)
      at (Some x) was h = at_object x was (get rs (owner x)) refl h

  pub placed_put : (x : X) (r : R) → get xs f ≡ Some x → waker_for (queue r) f ≡ Some w → placed queue owner (insert rs (owner x) r) xs f ≡ Some w
  placed_put x r there is = ap (placed_of queue owner (insert rs (owner x) r) f) there ∙ ap (λ o. waker_for (queue_of queue o) f) (get-there rs (owner x) r) ∙ is

-- who is not touched is as it was
module _ {R X : Type 0} (queue : R → Waiting) (owner : X → ℕ) (rs : Names R) (xs : Names X) (C : Type 0) (i k : ℕ) where
  pub after_it : (xs' : Names X) → FuturesGo queue owner rs xs C i k xs' → (f : ℕ) (x : X) → get xs f ≡ Some x → (f ≡ i → ⊥) → (k ≡ f → ⊥) → get xs' f ≡ Some x
  after_it _ Kept f x is new apart = is
  after_it _ (Begun y owned) f x is new apart = get-other xs i f y (λ same. new (sym same)) ∙ is
  after_it _ (Turned y z there same) f x is new apart = get-other xs k f z apart ∙ is
  after_it _ Ended f x is new apart = get-removed_other xs k f apart ∙ is

  pub untouched : (polled : ℕ → Option ℕ) (ends : ℕ → Bool) → Touches queue owner polled ends i k → (f : ℕ) → (f ≡ i → ⊥) → polled f ≡ None → ends f ≡ false → k ≡ f → ⊥
  untouched polled ends (None_is fresh) f new quiet lasts same = new (sym same ∙ fresh)
  untouched polled ends (Polled w is) f new quiet lasts same = absurd (let none : polled k ≡ None = ap polled same ∙ quiet in cc)
  untouched polled ends (Ends is) f new quiet lasts same = absurd (let none : ends k ≡ false = ap ends same ∙ lasts in cc)
