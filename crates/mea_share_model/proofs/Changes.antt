-- what an event changes at one admission: who keeps its waker, which numbers are there, how many permits live
use Rattle.std.proofs.Common.{◌≡◌, ℕ, ◌+◌, ◌-◌, ◌<◌, ◌≤◌, ◌==◌, ◌⊎◌, inl, inr, Bool, true, false, cond, length, List, [], ◌∷◌, Option, Some, None, IsSome, is_some, refl, ap, sym, subst, ◌∙◌, arith}
use Rattle.std.specs.List.{Contains}
use Rattle.std.specs.Cmp.{nat_cmp_total}
use Rattle.std.specs.FinMap.{get, insert, remove, len, len-insert, len-remove}
use Rattle.std.proofs.lemmas.Bool.{eqb-true, eqb-false, eq-eqb, ne_eqb}
use Rattle.std.proofs.lemmas.List.Elements.{Contains-push}
use Rattle.mea_base.specs.Totals.{weight}
use Rattle.mea_base.proofs.Maps.{by_put, by_gone, get-there, get-other, get-removed_other, is_there, inside}
use Rattle.mea_base.proofs.Tests.{by_name}
use Rattle.mea_by_name.proofs.Own.{len-gone, len-some}
use Rattle.mea_share_core.specs.Share.{Share, waiting_of, IsWaiting, IsAdmitted, taken, queued, left, admitting, readied, given_up, released, weighing}
use Rattle.mea_share_model.specs.Next.{Shares, Waiter, share_at, put_share, waiting_in, next_of}
use Rattle.mea_share_model.specs.Admissions.{Admission, passed, woken}
use Rattle.mea_share_model.specs.Valid.{HasNumber}
use Rattle.mea_share_model.proofs.Waiting.{share_put, waiting_put, share_waits, next_is}

-- ---- one key. S says which numbers may lose their waker unwoken, L which may go
pub record Goes (s t : Share ℕ) (next next' : ℕ) (S L : ℕ → Type 0) (ws : List ℕ) (extra more less : ℕ) : Type 0 where
  pub keeps : (n w : ℕ) → (S n → ⊥) → get s.waiting n ≡ Some w → (get t.waiting n ≡ Some w) ⊎ Contains ws w
  pub most : length ws ≤ waiting_of s
  pub grows : waiting_of t + length ws ≤ waiting_of s + extra
  pub had : (n : ℕ) → HasNumber t n → HasNumber s n ⊎ ((n ≡ next) × (next < next'))
  pub has : (n : ℕ) → (L n → ⊥) → HasNumber s n → HasNumber t n
  pub living : t.living + less ≡ s.living + more

abbrev pub No : ℕ → Type 0
No n = ⊥

abbrev pub Is : ℕ → ℕ → Type 0
Is m n = m ≡ n

pub len-least : {X : Type 0} (o : Option X) (n : ℕ) → cond (is_some o) n (n + 1) ≤ n + 1
len-least None n = omega arith
len-least (Some x) n = omega arith

pub less-least : {X : Type 0} (o : Option X) (n : ℕ) → cond (is_some o) (n - 1) n ≤ n
less-least None n = omega arith
less-least (Some x) n = omega arith

module _ (s : Share ℕ) (next : ℕ) where
  pub takes : Goes s (taken s) next next No No [] 0 1 0
  takes = record { keeps = λ n w not is. inl is; most = omega arith; grows = omega arith; had = λ n is. inl is; has = λ n not is. is; living = omega arith }

  pub releases : 0 < s.living → Goes s (released s) next next No No [] 0 0 1
  releases some = record { keeps = λ n w not is. inl is; most = omega arith; grows = omega arith; had = λ n is. inl is; has = λ n not is. is; living = omega (arith, some) }

  pub weighs : (weight : ℕ) → Goes s (weighing s weight) next next No No [] 0 0 0
  weighs weight = record { keeps = λ n w not is. inl is; most = omega arith; grows = omega arith; had = λ n is. inl is; has = λ n not is. is; living = omega arith }

  had_admitted : (k n : ℕ) → IsWaiting s n ⊎ IsSome (get (remove s.admitted k) n) → HasNumber s n ⊎ ((n ≡ next) × (next < next))
  had_admitted k n (inl waits) = inl (inl waits)
  had_admitted k n (inr was) = inl (inr (by_gone s.admitted k (λ j o. IsSome o → IsSome (get s.admitted j)) (λ some. absurd (cc)) (λ j apart some. some) n was))

  has_admitted : (k n : ℕ) → (k ≡ n → ⊥) → HasNumber s n → IsWaiting s n ⊎ IsSome (get (remove s.admitted k) n)
  has_admitted k n not (inl waits) = inl waits
  has_admitted k n not (inr was) = inr (subst IsSome (sym (get-removed_other s.admitted k n not)) was)

  pub gets_ready : (k : ℕ) → Goes s (readied s k) next next No (Is k) [] 0 1 0
  gets_ready k = record { keeps = λ n w not is. inl is; most = omega arith; grows = omega arith; had = had_admitted k; has = has_admitted k; living = omega arith }

  pub gives_up : (k : ℕ) → Goes s (given_up s k) next next No (Is k) [] 0 0 0
  gives_up k = record { keeps = λ n w not is. inl is; most = omega arith; grows = omega arith; had = had_admitted k; has = has_admitted k; living = omega arith }

  had_waiting : (k n : ℕ) → IsSome (get (remove s.waiting k) n) ⊎ IsAdmitted s n → HasNumber s n ⊎ ((n ≡ next) × (next < next))
  had_waiting k n (inl waits) = inl (inl (by_gone s.waiting k (λ j o. IsSome o → IsSome (get s.waiting j)) (λ some. absurd (cc)) (λ j apart some. some) n waits))
  had_waiting k n (inr was) = inl (inr was)

  has_waiting : (k n : ℕ) → (k ≡ n → ⊥) → HasNumber s n → IsSome (get (remove s.waiting k) n) ⊎ IsAdmitted s n
  has_waiting k n not (inl waits) = inl (subst IsSome (sym (get-removed_other s.waiting k n not)) waits)
  has_waiting k n not (inr was) = inr was

  pub leaves : (k : ℕ) → Goes s (left s k) next next (Is k) (Is k) [] 0 0 0
  leaves k = record {
    keeps = λ n w not is. inl (get-removed_other s.waiting k n not ∙ is);
    most = omega arith;
    grows = omega (arith, len-remove nat_cmp_total s.waiting k, less-least (get s.waiting k) (len s.waiting));
    had = had_waiting k;
    has = has_waiting k;
    living = omega arith;
  }

  -- it waits with another waker, or begins to
  queued_keeps : (k w : ℕ) (n v : ℕ) → (k ≡ n → ⊥) → get s.waiting n ≡ Some v → (get (insert s.waiting k w) n ≡ Some v) ⊎ Contains [] v
  queued_keeps k w n v not is = inl (get-other s.waiting k n w not ∙ is)

  queued_has : (k w n : ℕ) → HasNumber s n → IsSome (get (insert s.waiting k w) n) ⊎ IsAdmitted s n
  queued_has k w n (inl waits) = inl (by_put s.waiting k w (λ j o. IsSome (get s.waiting j) → IsSome o) (λ some. refl) (λ j apart some. some) n waits)
  queued_has k w n (inr was) = inr was

  queued_had : (next' k w n : ℕ) → ((k ≡ n) → IsWaiting s n ⊎ ((n ≡ next) × (next < next'))) → IsSome (get (insert s.waiting k w) n) ⊎ IsAdmitted s n → HasNumber s n ⊎ ((n ≡ next) × (next < next'))
  queued_had next' k w n new (inl waits) =
      by_put s.waiting k w (λ j o. (k ≡ j → IsWaiting s j ⊎ ((j ≡ next) × (next < next'))) → IsSome o → HasNumber s j ⊎ ((j ≡ next) × (next < next')))
      (λ new some. first (new refl)) (λ j apart new some. inl (inl some)) n new waits
    where
      first : {A B C : Type 0} → A ⊎ C → (A ⊎ B) ⊎ C
      first (inl a) = inl (inl a)
      first (inr c) = inr c
  queued_had next' k w n new (inr was) = inl (inr was)

  queued_grows : (k w : ℕ) → waiting_of (queued s k w) + 0 ≤ waiting_of s + 1
  queued_grows k w = omega (arith, len-insert nat_cmp_total s.waiting k w, len-least (get s.waiting k) (len s.waiting))

  pub begins : (w : ℕ) → Goes s (queued s next w) next (next + 1) (Is next) No [] 1 0 0
  begins w = record { keeps = queued_keeps next w; most = omega arith; grows = queued_grows next w; had = λ n. queued_had (next + 1) next w n (λ same. inr (sym same, omega arith)); has = λ n not is. queued_has next w n is; living = omega arith }

  pub waits_again : (k w : ℕ) → IsWaiting s k → Goes s (queued s k w) next next (Is k) No [] 1 0 0
  waits_again k w waits = record { keeps = queued_keeps k w; most = omega arith; grows = queued_grows k w; had = λ n. queued_had next k w n (λ same. inl (subst (IsWaiting s) same waits)); has = λ n not is. queued_has k w n is; living = omega arith }

  -- it is admitted and woken
  pub admits : (k w : ℕ) → get s.waiting k ≡ Some w → Goes s (admitting s k) next next No No (w ∷ []) 0 0 0
  admits k w waits = record {
    keeps = λ n v not is. by_name k n
        (λ same. inr (subst (Contains (w ∷ [])) (inside (sym waits ∙ ap (get s.waiting) same ∙ is)) (Contains-push [] w)))
        (λ apart. inl (get-removed_other s.waiting k n apart ∙ is));
    most = omega (arith, len-some s.waiting k w waits);
    grows = let gone = len-gone s.waiting k w waits in let some = len-some s.waiting k w waits in omega (arith, gone, some);
    had = had;
    has = λ n not is. by_name k n (λ same. inr (is_there _ tt (ap (get (insert s.admitted k tt)) (sym same) ∙ get-there s.admitted k tt))) (λ apart. has n apart is);
    living = omega arith;
  }
    where
      had : (n : ℕ) → IsSome (get (remove s.waiting k) n) ⊎ IsSome (get (insert s.admitted k tt) n) → HasNumber s n ⊎ ((n ≡ next) × (next < next))
      had n (inl waits) = had_waiting k n (inl waits)
      had n (inr was) = by_name k n (λ same. inl (inl (is_there _ w (ap (get s.waiting) (sym same) ∙ waits)))) (λ apart. inl (inr (subst IsSome (get-other s.admitted k n tt apart) was)))

      has : (n : ℕ) → (k ≡ n → ⊥) → HasNumber s n → IsSome (get (remove s.waiting k) n) ⊎ IsSome (get (insert s.admitted k tt) n)
      has n apart (inl waits) = inl (subst IsSome (sym (get-removed_other s.waiting k n apart)) waits)
      has n apart (inr was) = inr (subst IsSome (sym (get-other s.admitted k n tt apart)) was)

-- ---- all keys. S and L say of which keys which numbers
pub record Change (m m' : Shares) (next next' : ℕ) (S L : ℕ → ℕ → Type 0) (ws : List ℕ) (extra : ℕ) (more less : ℕ → ℕ) : Type 0 where
  pub keeps : (k n w : ℕ) → (S k n → ⊥) → get (share_at m k).waiting n ≡ Some w → (get (share_at m' k).waiting n ≡ Some w) ⊎ Contains ws w
  pub most : length ws ≤ waiting_in m
  pub grows : waiting_in m' + length ws ≤ waiting_in m + extra
  pub up : next ≤ next'
  -- a number that is new is the next, of one key
  pub fresh : ℕ
  pub had : (k n : ℕ) → HasNumber (share_at m' k) n → HasNumber (share_at m k) n ⊎ ((n ≡ next) × (next < next') × (k ≡ fresh))
  pub has : (k n : ℕ) → (L k n → ⊥) → HasNumber (share_at m k) n → HasNumber (share_at m' k) n
  pub living : (k : ℕ) → (share_at m' k).living + less k ≡ (share_at m k).living + more k

abbrev pub Nowhere : ℕ → ℕ → Type 0
Nowhere k n = ⊥

abbrev pub At : ℕ → (ℕ → Type 0) → ℕ → ℕ → Type 0
At q S k n = (q ≡ k) × S n

abbrev pub at : ℕ → ℕ → ℕ → ℕ
at q n k = cond (q == k) n 0

pub by_key : (m : Shares) (q : ℕ) (s : Share ℕ) (P : ℕ → Share ℕ → Type 0) → P q s → ((k : ℕ) → (q ≡ k → ⊥) → P k (share_at m k)) → (k : ℕ) → P k (share_at (put_share m q s) k)
by_key m q s P here others k = subst (P k) (sym (share_put m q s k)) (by_test (q == k) refl)
  where
    by_test : (b : Bool) → (q == k) ≡ b → P k (cond b s (share_at m k))
    by_test true same = subst (λ j. P j s) (eqb-true q k same) here
    by_test false apart = others k (eqb-false q k apart)

pub share_changes : (m : Shares) (q : ℕ) (t : Share ℕ) (next next' : ℕ) (S L : ℕ → Type 0) (ws : List ℕ) (extra more less : ℕ) → Goes (share_at m q) t next next' S L ws extra more less → next ≤ next'
    → Change m (put_share m q t) next next' (At q S) (At q L) ws extra (at q more) (at q less)
share_changes m q t next next' S L ws extra more less goes up = record {
  keeps = λ k n w not is.
      by_key m q t (λ k u. (At q S k n → ⊥) → get (share_at m k).waiting n ≡ Some w → (get u.waiting n ≡ Some w) ⊎ Contains ws w)
      (λ not is. goes.keeps n w (λ s. not (refl, s)) is) (λ k apart not is. inl is) k not is;
  most = omega (arith, goes.most, share_waits m q);
  grows = omega (arith, goes.grows, waiting_put m q t);
  up = up;
  fresh = q;
  had = λ k n.
      by_key m q t (λ k u. HasNumber u n → HasNumber (share_at m k) n ⊎ ((n ≡ next) × (next < next') × (k ≡ q)))
      (λ is. new_at n (goes.had n is)) (λ k apart is. inl is) k;
  has = λ k n not is.
      by_key m q t (λ k u. (At q L k n → ⊥) → HasNumber (share_at m k) n → HasNumber u n)
      (λ not is. goes.has n (λ l. not (refl, l)) is) (λ k apart not is. is) k not is;
  living = λ k.
      by_key m q t (λ k u. u.living + at q less k ≡ (share_at m k).living + at q more k)
      (let a : at q less q ≡ less = ap (λ b. cond b less 0) (eq-eqb q q refl) in let b : at q more q ≡ more = ap (λ b. cond b more 0) (eq-eqb q q refl) in omega (arith, a, b, goes.living))
      (λ k apart. let a : at q less k ≡ 0 = ap (λ b. cond b less 0) (ne_eqb q k apart) in let b : at q more k ≡ 0 = ap (λ b. cond b more 0) (ne_eqb q k apart) in omega (arith, a, b)) k;
}
  where
    new_at : (n : ℕ) → HasNumber (share_at m q) n ⊎ ((n ≡ next) × (next < next')) → HasNumber (share_at m q) n ⊎ ((n ≡ next) × (next < next') × (q ≡ q))
    new_at n (inl old) = inl old
    new_at n (inr new) = inr (new.0, new.1, refl)

pub no_change : (m : Shares) (next extra : ℕ) → Change m m next next Nowhere Nowhere [] extra (λ k. 0) (λ k. 0)
no_change m next extra = record { keeps = λ k n w not is. inl is; most = omega arith; grows = omega arith; up = omega arith; fresh = 0; had = λ k n is. inl is; has = λ k n not is. is; living = λ k. refl }

-- what S or L speak of is no more than this
pub change_less : (m m' : Shares) (next next' : ℕ) (S S' L L' : ℕ → ℕ → Type 0) (ws : List ℕ) (extra : ℕ) (more less : ℕ → ℕ) → ((k n : ℕ) → S k n → S' k n) → ((k n : ℕ) → L k n → L' k n)
    → Change m m' next next' S L ws extra more less → Change m m' next next' S' L' ws extra more less
change_less m m' next next' S S' L L' ws extra more less first second change = record {
  keeps = λ k n w not is. change.keeps k n w (λ s. not (first k n s)) is;
  most = change.most;
  grows = change.grows;
  up = change.up;
  fresh = change.fresh;
  had = change.had;
  has = λ k n not is. change.has k n (λ l. not (second k n l)) is;
  living = change.living;
}

-- who is next is admitted, if anyone waits
pub passes : (m : Shares) (next : ℕ) (o : Option Waiter) → next_of m ≡ o → (r : Admission) → r.shares ≡ m → Change m (passed r o).shares next next Nowhere Nowhere (woken o) 0 (λ k. 0) (λ k. 0)
passes m next None is r same = subst (λ t. Change m t next next Nowhere Nowhere [] 0 (λ k. 0) (λ k. 0)) (sym same) (no_change m next 0)
passes m next (Some a) is r same =
    let first = next_is m a is in
    let waits : get (share_at m a.key).waiting a.number ≡ Some a.waker = ap (λ s. get s.waiting a.number) first.share ∙ first.waits.waker in
    let change = share_changes m a.key (admitting (share_at m a.key) a.number) next next No No (a.waker ∷ []) 0 0 0 (admits (share_at m a.key) next a.number a.waker waits) (omega arith) in
    subst (λ t. Change m (put_share t a.key (admitting (share_at t a.key) a.number)) next next Nowhere Nowhere (a.waker ∷ []) 0 (λ k. 0) (λ k. 0)) (sym same) (flat (put_share m a.key (admitting (share_at m a.key) a.number)) change)
  where
    nothing : (q k : ℕ) → at q 0 k ≡ 0
    nothing q k = none (q == k)
      where
        none : (b : Bool) → ◌≡◌ {A = ℕ} (cond b 0 0) 0
        none true = refl
        none false = refl

    flat : (m' : Shares) → Change m m' next next (At a.key No) (At a.key No) (a.waker ∷ []) 0 (at a.key 0) (at a.key 0) → Change m m' next next Nowhere Nowhere (a.waker ∷ []) 0 (λ k. 0) (λ k. 0)
    flat m' change = record {
      keeps = λ k n w not is. change.keeps k n w (λ s. s.1) is;
      most = change.most;
      grows = change.grows;
      up = change.up;
      fresh = change.fresh;
      had = change.had;
      has = λ k n not is. change.has k n (λ l. l.1) is;
      living = λ k. omega (arith, change.living k, nothing a.key k);
    }

-- one change of a key, and then a permit passes on
pub then_passes : (m m1 m2 : Shares) (next : ℕ) (S L : ℕ → ℕ → Type 0) (ws : List ℕ) (more less : ℕ → ℕ) → Change m m1 next next S L [] 0 more less → Change m1 m2 next next Nowhere Nowhere ws 0 (λ k. 0) (λ k. 0)
    → Change m m2 next next S L ws 0 more less
then_passes m m1 m2 next S L ws more less first second = record {
  keeps = λ k n w not is. by_case k n w (first.keeps k n w not is);
  most = omega (arith, second.most, first.grows);
  grows = omega (arith, second.grows, first.grows);
  up = omega arith;
  fresh = first.fresh;
  had = λ k n is. before k n (second.had k n is);
  has = λ k n not is. second.has k n (λ l. l) (first.has k n not is);
  living = λ k. omega (arith, first.living k, second.living k);
}
  where
    by_case : (k n w : ℕ) → (get (share_at m1 k).waiting n ≡ Some w) ⊎ Contains [] w → (get (share_at m2 k).waiting n ≡ Some w) ⊎ Contains ws w
    by_case k n w (inl is) = second.keeps k n w (λ s. s) is
    by_case k n w (inr is) = absurd (let low = is.1 in omega (arith, low))

    before : (k n : ℕ) → HasNumber (share_at m1 k) n ⊎ ((n ≡ next) × (next < next) × (k ≡ second.fresh)) → HasNumber (share_at m k) n ⊎ ((n ≡ next) × (next < next) × (k ≡ first.fresh))
    before k n (inl is) = first.had k n is
    before k n (inr new) = absurd (let low = new.1 in omega (arith, low))
