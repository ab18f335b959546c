-- what fair admission has of each key, as one key changes, and how many jobs of a key run
use Rattle.std.proofs.Common.{◌≡◌, ℕ, ◌+◌, ◌==◌, inl, inr, ◌⊎◌, Bool, true, false, cond, List, Some, None, nat_eq, refl, ap, sym, subst, ◌∙◌, arith}
use Rattle.std.specs.FinMap.{get, insert, remove}
use Rattle.std.proofs.lemmas.Bool.{eqb-true, eqb-false, eq-eqb, ne_eqb}
use Rattle.mea_base.proofs.Maps.{inside, get-there, get-gone, get-removed_other, get-other, removed_there}
use Rattle.mea_by_name.specs.ByName.{Names}
use Rattle.mea_by_name.proofs.Own.{count-new, count-gone}
use Rattle.mea_share_core.specs.Share.{Share, Numbers, waiting_of, held_of}
use Rattle.mea_share_core.specs.Groups.{share_in, Sets}
use Rattle.mea_job_core.specs.Work.{running_of}
use Rattle.mea_job_core.specs.Tied.{waker_at}

-- ---- how many jobs of a key run
module _ (r : Names ℕ) (m : ℕ) where
  pub running_more : (k : ℕ) → get r m ≡ None → running_of (insert r m k) k ≡ running_of r k + 1
  running_more k none = count-new r m (λ j. j == k) k none ∙ ap (λ b. running_of r k + cond b 1 0) (eq-eqb k k refl)

  pub running_more_other : (k j : ℕ) → (k ≡ j → ⊥) → get r m ≡ None → running_of (insert r m k) j ≡ running_of r j
  running_more_other k j apart none =
      let zero : ◌≡◌ {A = ℕ} (cond (k == j) 1 0) 0 = ap (λ b. cond b 1 0) (ne_eqb k j apart) in
      omega (arith, zero, count-new r m (λ i. i == j) k none)

  pub running_less : (k : ℕ) → get r m ≡ Some k → running_of (remove r m) k + 1 ≡ running_of r k
  running_less k is =
      let one : ◌≡◌ {A = ℕ} (cond (k == k) 1 0) 1 = ap (λ b. cond b 1 0) (eq-eqb k k refl) in
      omega (arith, one, count-gone r m (λ i. i == k) k is)

  pub running_less_other : (k j : ℕ) → (k ≡ j → ⊥) → get r m ≡ Some k → running_of (remove r m) j ≡ running_of r j
  running_less_other k j apart is =
      let zero : ◌≡◌ {A = ℕ} (cond (k == j) 1 0) 0 = ap (λ b. cond b 1 0) (ne_eqb k j apart) in
      omega (arith, zero, count-gone r m (λ i. i == j) k is)

-- ---- one key changes
module _ (es es' : List (ℕ × Share ℕ)) (k : ℕ) (s : Share ℕ) (sets : Sets nat_eq es es' k s) where
  -- what holds of what the key has now, and of what each other key had
  pub by_share : (P : ℕ → Share ℕ → Type 0) → P k s → ((j : ℕ) → (k ≡ j → ⊥) → P j (share_in nat_eq es j)) → (j : ℕ) → P j (share_in nat_eq es' j)
  by_share P here others j = subst (P j) (sym (sets.shares j)) (at_test (k == j) refl)
    where
      at_test : (b : Bool) → (k == j) ≡ b → P j (cond b s (share_in nat_eq es j))
      at_test true e = subst (λ i. P i s) (eqb-true k j e) here
      at_test false e = others j (eqb-false k j e)

  pub share_here : share_in nat_eq es' k ≡ s
  share_here = sets.shares k ∙ ap (λ b. cond b s (share_in nat_eq es k)) (eq-eqb k k refl)

  -- the wakers are as they were
  pub same_wakers : s.waiting ≡ (share_in nat_eq es k).waiting → (j i : ℕ) → waker_at es' j i ≡ waker_at es j i
  same_wakers same = by_share (λ j t. (i : ℕ) → get t.waiting i ≡ waker_at es j i) (λ i. ap (λ w. get w i) same) (λ j apart i. refl)

  -- ---- a number of the key waits no more
  module _ (n : ℕ) (gone : s.waiting ≡ remove (share_in nat_eq es k).waiting n) where
    pub waker_stays : (j i : ℕ) → (k ≡ j → n ≡ i → ⊥) → waker_at es' j i ≡ waker_at es j i
    waker_stays = by_share (λ j t. (i : ℕ) → (k ≡ j → n ≡ i → ⊥) → get t.waiting i ≡ waker_at es j i)
        (λ i apart. ap (λ w. get w i) gone ∙ get-removed_other (share_in nat_eq es k).waiting n i (apart refl)) (λ j other i apart. refl)

    pub waker_was : (j i m : ℕ) → waker_at es' j i ≡ Some m → (waker_at es j i ≡ Some m) × (k ≡ j → n ≡ i → ⊥)
    waker_was = by_share (λ j t. (i m : ℕ) → get t.waiting i ≡ Some m → (waker_at es j i ≡ Some m) × (k ≡ j → n ≡ i → ⊥)) here (λ j other i m is. (is, λ same _. other same))
      where
        w : Numbers ℕ
        w = (share_in nat_eq es k).waiting

        here : (i m : ℕ) → get s.waiting i ≡ Some m → (waker_at es k i ≡ Some m) × (k ≡ k → n ≡ i → ⊥)
        here i m is =
            let was : get (remove w n) i ≡ Some m = ap (λ v. get v i) (sym gone) ∙ is in
            (removed_there w n i m was, λ _ same. absurd (let none : get (remove w n) i ≡ None = ap (get (remove w n)) (sym same) ∙ get-gone w n in cc))

  -- ---- a number of the key waits now, with this waker
  module _ (n m : ℕ) (put : s.waiting ≡ insert (share_in nat_eq es k).waiting n m) where
    pub waker_put : waker_at es' k n ≡ Some m
    waker_put = ap (λ t. get t.waiting n) share_here ∙ ap (λ w. get w n) put ∙ get-there (share_in nat_eq es k).waiting n m

    pub waker_stays_put : (j i : ℕ) → (n ≡ i → ⊥) → waker_at es' j i ≡ waker_at es j i
    waker_stays_put = by_share (λ j t. (i : ℕ) → (n ≡ i → ⊥) → get t.waiting i ≡ waker_at es j i)
        (λ i apart. ap (λ w. get w i) put ∙ get-other (share_in nat_eq es k).waiting n i m apart) (λ j other i apart. refl)

    -- each waker is the one that was put, or was there
    pub waker_is : (j i a : ℕ) → waker_at es' j i ≡ Some a → (waker_at es j i ≡ Some a) ⊎ ((k ≡ j) × (n ≡ i) × (m ≡ a))
    waker_is = by_share (λ j t. (i a : ℕ) → get t.waiting i ≡ Some a → (waker_at es j i ≡ Some a) ⊎ ((k ≡ j) × (n ≡ i) × (m ≡ a))) here (λ j other i a is. inl is)
      where
        here : (i a : ℕ) → get s.waiting i ≡ Some a → (waker_at es k i ≡ Some a) ⊎ ((k ≡ k) × (n ≡ i) × (m ≡ a))
        here i a is = at_test (n == i) refl
          where
            at_test : (b : Bool) → (n == i) ≡ b → (waker_at es k i ≡ Some a) ⊎ ((k ≡ k) × (n ≡ i) × (m ≡ a))
            at_test true e =
                let same : n ≡ i = eqb-true n i e in
                inr (refl, same, inside (sym (ap (λ w. get w i) put ∙ ap (get (insert (share_in nat_eq es k).waiting n m)) (sym same) ∙ get-there (share_in nat_eq es k).waiting n m) ∙ is))
            at_test false e = inl (sym (ap (λ w. get w i) put ∙ get-other (share_in nat_eq es k).waiting n i m (eqb-false n i e)) ∙ is)

-- a key changes twice
pub sets_twice : (es es' es'' : List (ℕ × Share ℕ)) (k : ℕ) (s t : Share ℕ) → Sets nat_eq es es' k s → Sets nat_eq es' es'' k t → Sets nat_eq es es'' k t
sets_twice es es' es'' k s t first second =
    let between = share_here es es' k s first in
    let held = ap held_of between in
    let waiting = ap waiting_of between in record {
      shares = λ j. second.shares j ∙ ap (cond (nat_eq k j) t) (first.shares j) ∙ last (nat_eq k j) (share_in nat_eq es j);
      held = omega (arith, held, first.held, second.held);
      waiting = omega (arith, waiting, first.waiting, second.waiting);
    }
  where
    last : (b : Bool) (u : Share ℕ) → cond b t (cond b s u) ≡ cond b t u
    last true u = refl
    last false u = refl
