-- numbers of shares, as one of them changes
use Rattle.std.proofs.Common.{◌≡◌, ℕ, ◌+◌, ◌<◌, ◌≤◌, ◌⊎◌, ◌↔◌, inl, inr, Bool, true, false, cond, List, Option, None, IsSome, is_some, refl, ap, sym, subst, ◌∙◌, arith}
use Rattle.std.specs.FinMap.{get, insert, remove, len}
use Rattle.mea_base.proofs.Maps.{by_put, by_gone, nothing_there, is_absent, get-other}
use Rattle.mea_share_core.proofs.Kept.{len-more, len-fewer, len-again}
use Rattle.mea_share_core.specs.Share.{Share, new_share, IsWaiting, IsAdmitted, taken, queued, left, admitting, readied, given_up, released, weighing}
use Rattle.mea_share_core.specs.Groups.{share_in, held_in, waiting_in, Sets, Admits, IsNumbered, AreNumbered}

module _ {W : Type 0} where
  pub n_new : (next : ℕ) → IsNumbered {W = W} next new_share
  n_new next = record {
    waiting = λ n is. absurd (nothing_there W n is);
    admitted = λ n is. absurd (nothing_there (Unit {0}) n is);
    apart = λ n is. absurd (nothing_there W n is);
  }

  pub n_later : (next later : ℕ) (s : Share W) → IsNumbered next s → next ≤ later → IsNumbered later s
  n_later next later s old le = record {
    waiting = λ n is. omega (arith, le, old.waiting n is);
    admitted = λ n is. omega (arith, le, old.admitted n is);
    apart = old.apart;
  }

  pub n_taken : (next : ℕ) (s : Share W) → IsNumbered next s → IsNumbered next (taken s)
  n_taken next s old = record { waiting = old.waiting; admitted = old.admitted; apart = old.apart }

  pub n_released : (next : ℕ) (s : Share W) → IsNumbered next s → IsNumbered next (released s)
  n_released next s old = record { waiting = old.waiting; admitted = old.admitted; apart = old.apart }

  pub n_weighing : (next weight : ℕ) (s : Share W) → IsNumbered next s → IsNumbered next (weighing s weight)
  n_weighing next weight s old = record { waiting = old.waiting; admitted = old.admitted; apart = old.apart }

  pub fresh : (next : ℕ) (s : Share W) → IsNumbered next s → get s.waiting next ≡ None
  fresh next s old = is_absent (get s.waiting next) (λ is. absurd (let low = old.waiting next is in omega (arith, low)))

  pub n_queued : (next : ℕ) (s : Share W) (w : W) → IsNumbered next s → IsNumbered (next + 1) (queued s next w)
  n_queued next s w old = record {
    waiting = by_put s.waiting next w (λ n o. IsSome o → n < next + 1) (λ _. omega arith) (λ n apart is. omega (arith, old.waiting n is));
    admitted = λ n is. omega (arith, old.admitted n is);
    apart = by_put s.waiting next w (λ n o. IsSome o → get s.admitted n ≡ None)
        (λ _. is_absent (get s.admitted next) (λ is. absurd (let low = old.admitted next is in omega (arith, low)))) (λ n apart is. old.apart n is);
  }

  pub n_again : (next n : ℕ) (s : Share W) (w : W) → IsNumbered next s → IsWaiting s n → IsNumbered next (queued s n w)
  n_again next n s w old waits = record {
    waiting = by_put s.waiting n w (λ m o. IsSome o → m < next) (λ _. old.waiting n waits) (λ m apart is. old.waiting m is);
    admitted = old.admitted;
    apart = by_put s.waiting n w (λ m o. IsSome o → get s.admitted m ≡ None) (λ _. old.apart n waits) (λ m apart is. old.apart m is);
  }

  pub n_left : (next n : ℕ) (s : Share W) → IsNumbered next s → IsNumbered next (left s n)
  n_left next n s old = record {
    waiting = by_gone s.waiting n (λ m o. IsSome o → m < next) (λ is. absurd (cc)) (λ m apart is. old.waiting m is);
    admitted = old.admitted;
    apart = by_gone s.waiting n (λ m o. IsSome o → get s.admitted m ≡ None) (λ is. absurd (cc)) (λ m apart is. old.apart m is);
  }

  pub n_admitting : (next n : ℕ) (s : Share W) → IsNumbered next s → IsWaiting s n → IsNumbered next (admitting s n)
  n_admitting next n s old waits = record {
    waiting = by_gone s.waiting n (λ m o. IsSome o → m < next) (λ is. absurd (cc)) (λ m apart is. old.waiting m is);
    admitted = by_put s.admitted n tt (λ m o. IsSome o → m < next) (λ _. old.waiting n waits) (λ m apart is. old.admitted m is);
    apart = by_gone s.waiting n (λ m o. IsSome o → get (insert s.admitted n tt) m ≡ None) (λ is. absurd (cc)) (λ m apart is. get-other s.admitted n m tt apart ∙ old.apart m is);
  }

  n_gone : (next n : ℕ) (s : Share W) → IsNumbered next s → IsNumbered next (given_up s n)
  n_gone next n s old = record {
    waiting = old.waiting;
    admitted = by_gone s.admitted n (λ m o. IsSome o → m < next) (λ is. absurd (cc)) (λ m apart is. old.admitted m is);
    apart = λ m is. by_gone s.admitted n (λ j o. get s.admitted j ≡ None → o ≡ None) (λ _. refl) (λ j apart none. none) m (old.apart m is);
  }

  pub n_given_up : (next n : ℕ) (s : Share W) → IsNumbered next s → IsNumbered next (given_up s n)
  n_given_up next n s old = n_gone next n s old

  pub n_readied : (next n : ℕ) (s : Share W) → IsNumbered next s → IsNumbered next (readied s n)
  n_readied next n s old = let gone = n_gone next n s old in record { waiting = gone.waiting; admitted = gone.admitted; apart = gone.apart }

module _ {K W : Type 0} (eq : K → K → Bool) where
  pub numbered : (es es' : List (K × Share W)) (k : K) (s : Share W) (next later : ℕ) → AreNumbered eq next es → Sets eq es es' k s → IsNumbered later s → next ≤ later → AreNumbered eq later es'
  numbered es es' k s next later old sets is le = λ j.
      subst (λ t. IsNumbered later t) (sym (sets.shares j)) (by_test (eq k j) (share_in eq es j) (n_later next later (share_in eq es j) (old j) le))
    where
      by_test : (b : Bool) (t : Share W) → IsNumbered later t → IsNumbered later (cond b s t)
      by_test true t theirs = is
      by_test false t theirs = theirs

  pub numbered_admits : (es es' : List (K × Share W)) (w : W) (next : ℕ) → AreNumbered eq next es → Admits eq es es' w → AreNumbered eq next es'
  numbered_admits es es' w next old admits =
      numbered es es' admits.key _ next next old admits.sets (n_admitting next admits.number (share_in eq es admits.key) (old admits.key) admits.next.waits) (omega arith)

  -- how many wait and what is held, after an admission
  pub admitted_sums : (es es' : List (K × Share W)) (w : W) {next : ℕ} → AreNumbered eq next es → Admits eq es es' w → (held_in es' ≡ held_in es + 1) × (waiting_in es' + 1 ≡ waiting_in es)
  admitted_sums es es' w old admits =
      let s = share_in eq es admits.key in
      let n = admits.number in
      let sets = admits.sets in
      let more : len (insert s.admitted n tt) ≡ len s.admitted + 1 = len-more s.admitted n tt ((old admits.key).apart n admits.next.waits) in
      let fewer : len (remove s.waiting n) + 1 ≡ len s.waiting = len-fewer s.waiting n admits.next.waits in
      (omega (arith, sets.held, more), omega (arith, sets.waiting, fewer))

  -- how many wait and what is held, with one that waits more
  pub queued_sums : (es es' : List (K × Share W)) (k : K) (next : ℕ) (w : W) → IsNumbered next (share_in eq es k) → Sets eq es es' k (queued (share_in eq es k) next w)
      → (held_in es' ≡ held_in es) × (waiting_in es' ≡ waiting_in es + 1)
  queued_sums es es' k next w old sets =
      let s = share_in eq es k in
      let more : len (insert s.waiting next w) ≡ len s.waiting + 1 = len-more s.waiting next w (fresh next s old) in
      (omega (arith, sets.held), omega (arith, sets.waiting, more))

  module _ (es es' : List (K × Share W)) (k : K) (n : ℕ) where
    pub given_sums : IsAdmitted (share_in eq es k) n → Sets eq es es' k (given_up (share_in eq es k) n) → (held_in es' + 1 ≡ held_in es) × (waiting_in es' ≡ waiting_in es)
    given_sums was sets =
        let fewer : len (remove (share_in eq es k).admitted n) + 1 ≡ len (share_in eq es k).admitted = len-fewer (share_in eq es k).admitted n was in
        (omega (arith, sets.held, fewer), omega (arith, sets.waiting))

    pub readied_sums : IsAdmitted (share_in eq es k) n → Sets eq es es' k (readied (share_in eq es k) n) → (held_in es' ≡ held_in es) × (waiting_in es' ≡ waiting_in es)
    readied_sums was sets =
        let fewer : len (remove (share_in eq es k).admitted n) + 1 ≡ len (share_in eq es k).admitted = len-fewer (share_in eq es k).admitted n was in
        (omega (arith, sets.held, fewer), omega (arith, sets.waiting))

    pub left_sums : IsWaiting (share_in eq es k) n → Sets eq es es' k (left (share_in eq es k) n) → (held_in es' ≡ held_in es) × (waiting_in es' + 1 ≡ waiting_in es)
    left_sums waits sets =
        let fewer : len (remove (share_in eq es k).waiting n) + 1 ≡ len (share_in eq es k).waiting = len-fewer (share_in eq es k).waiting n waits in
        (omega (arith, sets.held), omega (arith, sets.waiting, fewer))

    pub again_sums : (w : W) → IsWaiting (share_in eq es k) n → Sets eq es es' k (queued (share_in eq es k) n w) → (held_in es' ≡ held_in es) × (waiting_in es' ≡ waiting_in es)
    again_sums w waits sets =
        let same : len (insert (share_in eq es k).waiting n w) ≡ len (share_in eq es k).waiting = len-again (share_in eq es k).waiting n w waits in
        (omega (arith, sets.held), omega (arith, sets.waiting, same))

-- where someone waits no permit is free
pub free_is_none : (free waiting : ℕ) → (free ≡ 0) ⊎ (waiting ≡ 0) → (waiting ≡ 0 → ⊥) → free ≡ 0
free_is_none free waiting (inl none) some = none
free_is_none free waiting (inr nobody) some = absurd (some nobody)

pub settled_as : (free waiting sum : ℕ) → (free ≡ 0) ⊎ (waiting ≡ 0) → waiting ≡ sum → (free ≡ 0) ⊎ (sum ≡ 0)
settled_as free waiting sum (inl none) is = inl none
settled_as free waiting sum (inr nobody) is = inr (sym is ∙ nobody)

pub waiting_false : {X : Type 0} (o : Option X) → o ≡ None → false ≡ is_some o
waiting_false o is = ap is_some (sym is)

-- of a key that was never named no number is in use
pub nobody_in_use : {W : Type 0} (s : Share W) (n : ℕ) → s ≡ new_share → (false ≡ true) ↔ (IsWaiting s n ⊎ IsAdmitted s n)
nobody_in_use {W} s n is = (λ not. absurd (cc), there)
  where
    there : IsWaiting s n ⊎ IsAdmitted s n → false ≡ true
    there (inl waits) = absurd (nothing_there W n (subst (λ t. IsWaiting t n) is waits))
    there (inr was) = absurd (nothing_there (Unit {0}) n (subst (λ t. IsAdmitted t n) is was))
