-- the jobs and what fair admission has go together, as jobs come, start and go
use Rattle.std.proofs.Common.{◌≡◌, ℕ, ◌+◌, ◌<◌, ◌≤◌, inl, inr, ◌⊎◌, List, Some, None, IsSome, nat_eq, refl, ap, sym, subst, ◌∙◌, arith}
use Rattle.std.specs.FinMap.{empty, get, insert, remove, len, get-empty}
use Rattle.mea_base.proofs.Maps.{by_put, by_gone, inside, is_there, is_absent, get-there, get-gone, get-removed_other, get-other, removed_there, removed_none}
use Rattle.mea_by_name.specs.ByName.{Names}
use Rattle.mea_by_name.proofs.Own.{len-new, put_gone, gone_none}
use Rattle.std.specs.Ordering.{nat_cmp}
use Rattle.mea_share_core.specs.declared.share_acquire.ShareStage.TheVariants.{Queued}
use Rattle.mea_share_core.specs.Share.{Share, taken, queued, left, released, admitting, readied, waiting_of, IsWaiting}
use Rattle.mea_share_core.specs.Groups.{share_in, waiting_in, IsAlike, Sets, IsNumbered, AreNumbered}
use Rattle.mea_share_core.proofs.Kept.{len-fewer}
use Rattle.mea_share_core.proofs.Numbered.{numbered, fresh, n_taken, n_released, n_queued, n_left, n_admitting, n_readied, queued_sums}
use Rattle.mea_job_core.specs.Waiting.{Waiting}
use Rattle.mea_job_core.specs.Work.{running_of}
use Rattle.mea_job_core.specs.Tied.{waker_at, IsCounted, Waits, IsQueued, AreTied}
use Rattle.mea_job_core.proofs.Shares.{running_more, running_more_other, running_less, running_less_other, by_share, share_here, same_wakers, waker_stays, waker_was, waker_put, waker_stays_put, waker_is, sets_twice}

-- a stage has one number
pub one_number : (i n : ℕ) → Queued i ≡ Queued n → i ≡ n
one_number i n is = cc

-- of a job there is one entry
module _ (q : Names Waiting) (k n m : ℕ) (x : Waiting) (there : get q m ≡ Some x) (key : x.key ≡ k) (stage : x.stage ≡ Queued n) where
  -- whoever has another number is queued still once this one is gone
  pub still_queued : (j i a : ℕ) → (k ≡ j → n ≡ i → ⊥) → IsQueued q j i a → IsQueued (remove q m) j i a
  still_queued j i a apart was = record {
    job = was.job;
    there = get-removed_other q m a other ∙ was.there;
    key = was.key;
    stage = was.stage;
  }
    where
      other : m ≡ a → ⊥
      other same =
          let one : x ≡ was.job = inside (sym there ∙ ap (get q) same ∙ was.there) in
          apart (sym key ∙ ap (λ (y : Waiting). y.key) one ∙ was.key) (one_number n i (sym stage ∙ ap (λ (y : Waiting). y.stage) one ∙ was.stage))

-- who waits is the same
pub stays : (es es' : List (ℕ × Share ℕ)) (next later : ℕ) (q : Names Waiting) (r r' : Names ℕ) → AreTied es next q r → ((j i : ℕ) → waker_at es' j i ≡ waker_at es j i) → AreNumbered nat_eq later es'
    → ((j : ℕ) → IsCounted (share_in nat_eq es' j) (running_of r' j)) → waiting_in es' ≡ waiting_in es → ((m : ℕ) → IsSome (get q m) → get r' m ≡ None) → AreTied es' later q r'
stays es es' next later q r r' tied wakers numbers counts sum apart = record {
  numbered = numbers;
  counted = counts;
  waits = λ m x is. let was = tied.waits m x is in record { number = was.number; stage = was.stage; waker = wakers x.key was.number ∙ was.waker };
  is_queued = λ j i m is. tied.is_queued j i m (sym (wakers j i) ∙ is);
  as_many = sum ∙ tied.as_many;
  order = λ j i a j' i' b first second. tied.order j i a j' i' b (sym (wakers j i) ∙ first) (sym (wakers j' i') ∙ second);
  apart = apart;
}

-- each key has what it had
pub alike : (es es' : List (ℕ × Share ℕ)) (next : ℕ) (q : Names Waiting) (r : Names ℕ) → AreTied es next q r → IsAlike nat_eq es es' → AreTied es' next q r
alike es es' next q r tied same =
    stays es es' next next q r r tied (λ j i. ap (λ (t : Share ℕ). get t.waiting i) (same.shares j)) (λ j. subst (λ t. IsNumbered next t) (sym (same.shares j)) (tied.numbered j))
    (λ j. subst (λ t. IsCounted t (running_of r j)) (sym (same.shares j)) (tied.counted j)) same.waiting tied.apart

module _ (es es' : List (ℕ × Share ℕ)) (next : ℕ) (q : Names Waiting) (r r' : Names ℕ) (k : ℕ) (s : Share ℕ) (tied : AreTied es next q r) (sets : Sets nat_eq es es' k s) where
  -- ---- a key changes, of which the same wait
  pub rests : (later : ℕ) → next ≤ later → s.waiting ≡ (share_in nat_eq es k).waiting → IsNumbered later s → ((j : ℕ) → IsCounted (share_in nat_eq es' j) (running_of r' j))
      → ((m : ℕ) → IsSome (get q m) → get r' m ≡ None) → AreTied es' later q r'
  rests later le same numbers counts apart =
      stays es es' next later q r r' tied (same_wakers es es' k s sets same) (numbered nat_eq es es' k s next later tied.numbered sets numbers le) counts
      (let sum : waiting_of s ≡ waiting_of (share_in nat_eq es k) = ap len same in omega (arith, sum, sets.waiting)) apart

  -- ---- one waits no more
  pub leaves : (m n : ℕ) (x : Waiting) → get q m ≡ Some x → x.key ≡ k → x.stage ≡ Queued n → s.waiting ≡ remove (share_in nat_eq es k).waiting n → IsNumbered next s
      → ((j : ℕ) → IsCounted (share_in nat_eq es' j) (running_of r' j)) → ((a : ℕ) → IsSome (get (remove q m) a) → get r' a ≡ None) → AreTied es' next (remove q m) r'
  leaves m n x there key stage gone numbers counts apart = record {
    numbered = numbered nat_eq es es' k s next next tied.numbered sets numbers (omega arith);
    counted = counts;
    waits = waits;
    is_queued = λ j i a is. let was = waker_was es es' k s sets n gone j i a is in still_queued q k n m x there key stage j i a was.1 (tied.is_queued j i a was.0);
    as_many = omega (arith, fewer, fewer_jobs, sum, sets.waiting, tied.as_many);
    order = λ j i a j' i' b first second.
        tied.order j i a j' i' b (waker_was es es' k s sets n gone j i a first).0 (waker_was es es' k s sets n gone j' i' b second).0;
    apart = apart;
  }
    where
      -- its own waker
      mine : waker_at es k n ≡ Some m
      mine = (let was = tied.waits m x there in
          ap (λ j. waker_at es j n) (sym key) ∙ ap (waker_at es x.key) (one_number n was.number (sym stage ∙ was.stage)) ∙ was.waker)

      fewer : len (remove (share_in nat_eq es k).waiting n) + 1 ≡ len (share_in nat_eq es k).waiting
      fewer = len-fewer (share_in nat_eq es k).waiting n (is_there (waker_at es k n) m mine)

      sum : waiting_of s ≡ len (remove (share_in nat_eq es k).waiting n)
      sum = ap len gone

      fewer_jobs : len (remove q m) + 1 ≡ len q
      fewer_jobs = len-fewer q m (is_there (get q m) x there)

      waits : (a : ℕ) (y : Waiting) → get (remove q m) a ≡ Some y → Waits es' a y
      waits a y is =
          let was = tied.waits a y (removed_there q m a y is) in
          record { number = was.number; stage = was.stage; waker = waker_stays es es' k s sets n gone y.key was.number (apart_from a y is was.number was.waker) ∙ was.waker }
        where
          apart_from : (a : ℕ) (y : Waiting) → get (remove q m) a ≡ Some y → (i : ℕ) → waker_at es y.key i ≡ Some a → k ≡ y.key → n ≡ i → ⊥
          apart_from a y is i waker same_key same_number =
              let one : a ≡ m = inside (sym waker ∙ ap (λ j. waker_at es j i) (sym same_key) ∙ ap (waker_at es k) (sym same_number) ∙ mine) in
              absurd (let none : get (remove q m) a ≡ None = ap (get (remove q m)) one ∙ get-gone q m in cc)

-- ---- what the calls of fair admission do
module _ (es es' : List (ℕ × Share ℕ)) (next : ℕ) (q : Names Waiting) (r : Names ℕ) (k : ℕ) (tied : AreTied es next q r) where
  -- a job takes a free permit
  pub takes : (m : ℕ) → Sets nat_eq es es' k (taken (share_in nat_eq es k)) → get q m ≡ None → get r m ≡ None → AreTied es' next q (insert r m k)
  takes m sets free new =
      rests es es' next q r (insert r m k) k (taken s) tied sets next (omega arith) refl (n_taken next s (tied.numbered k))
      (by_share es es' k (taken s) sets (λ j t. IsCounted t (running_of (insert r m k) j))
      (let was = tied.counted k in record { weight = was.weight; living = omega (arith, was.living, running_more r m k new); admitted = was.admitted })
      (λ j apart. let was = tied.counted j in record { weight = was.weight; living = was.living ∙ sym (running_more_other r m k j apart new); admitted = was.admitted }))
      (by_put r m k (λ a o. IsSome (get q a) → o ≡ None) (λ some. absurd (cc)) (λ a apart some. tied.apart a some))
    where
      s : Share ℕ
      s = share_in nat_eq es k

  -- a running job is over
  pub gives : (m : ℕ) → Sets nat_eq es es' k (released (share_in nat_eq es k)) → get r m ≡ Some k → AreTied es' next q (remove r m)
  gives m sets is =
      rests es es' next q r (remove r m) k (released s) tied sets next (omega arith) refl (n_released next s (tied.numbered k))
      (by_share es es' k (released s) sets (λ j t. IsCounted t (running_of (remove r m) j))
      (let was = tied.counted k in record { weight = was.weight; living = omega (arith, was.living, running_less r m k is); admitted = was.admitted })
      (λ j apart. let was = tied.counted j in record { weight = was.weight; living = was.living ∙ sym (running_less_other r m k j apart is); admitted = was.admitted }))
      (λ a some. removed_none r m a (tied.apart a some))
    where
      s : Share ℕ
      s = share_in nat_eq es k

  -- a queued job is over
  pub goes : (m n : ℕ) (x : Waiting) → get q m ≡ Some x → x.key ≡ k → x.stage ≡ Queued n → Sets nat_eq es es' k (left (share_in nat_eq es k) n) → AreTied es' next (remove q m) r
  goes m n x there key stage sets =
      leaves es es' next q r r k (left s n) tied sets m n x there key stage refl (n_left next n s (tied.numbered k))
      (by_share es es' k (left s n) sets (λ j t. IsCounted t (running_of r j))
      (let was = tied.counted k in record { weight = was.weight; living = was.living; admitted = was.admitted }) (λ j apart. tied.counted j))
      (λ a some. by_gone q m (λ b o. IsSome o → get r b ≡ None) (λ is. absurd (cc)) (λ b apart is. tied.apart b is) a some)
    where
      s : Share ℕ
      s = share_in nat_eq es k

  -- a job is queued
  pub comes : (m v : ℕ) → Sets nat_eq es es' k (queued (share_in nat_eq es k) next m) → ((a : ℕ) → IsSome (get q a) → a < m) → get r m ≡ None
      → AreTied es' (next + 1) (insert q m (record { key = k; stage = Queued next; value = v })) r
  comes m v sets above new = record {
    numbered = numbered nat_eq es es' k s next (next + 1) tied.numbered sets (n_queued next (share_in nat_eq es k) m (tied.numbered k)) (omega arith);
    counted = by_share es es' k s sets (λ j t. IsCounted t (running_of r j)) (let was = tied.counted k in record { weight = was.weight; living = was.living; admitted = was.admitted }) (λ j apart. tied.counted j);
    waits = by_put q m y (λ a o. (z : Waiting) → o ≡ Some z → Waits es' a z)
        (λ z is. subst (Waits es' m) (inside is) (record { number = next; stage = refl; waker = waker_put es es' k s sets next m refl }))
        (λ a apart z is. let was = tied.waits a z is in record {
          number = was.number;
          stage = was.stage;
          waker = waker_stays_put es es' k s sets next m refl z.key was.number (λ same. absurd (let low = small z.key was.number a was.waker in omega (arith, low, same))) ∙ was.waker;
        });
    is_queued = λ j i a is. queued_by j i a (waker_is es es' k s sets next m refl j i a is);
    as_many = (let sums = queued_sums nat_eq es es' k next m (tied.numbered k) sets in omega (arith, sums.1, tied.as_many, len-new q m y none));
    order = λ j i a j' i' b first second. ordered j i a j' i' b (waker_is es es' k s sets next m refl j i a first) (waker_is es es' k s sets next m refl j' i' b second);
    apart = by_put q m y (λ a o. IsSome o → get r a ≡ None) (λ some. new) (λ a apart is. tied.apart a is);
  }
    where
      s : Share ℕ
      s = queued (share_in nat_eq es k) next m

      y : Waiting
      y = record { key = k; stage = Queued next; value = v }

      none : get q m ≡ None
      none = is_absent (get q m) (λ is. absurd (let low = above m is in omega (arith, low)))

      small : (j i a : ℕ) → waker_at es j i ≡ Some a → i < next
      small j i a is = (tied.numbered j).waiting i (is_there (waker_at es j i) a is)

      older : (j i a : ℕ) → waker_at es j i ≡ Some a → a < m
      older j i a is = let was = tied.is_queued j i a is in above a (is_there (get q a) was.job was.there)

      queued_by : (j i a : ℕ) → (waker_at es j i ≡ Some a) ⊎ ((k ≡ j) × (next ≡ i) × (m ≡ a)) → IsQueued (insert q m y) j i a
      queued_by j i a (inl was) =
          let old = tied.is_queued j i a was in
          record { job = old.job; there = get-other q m a y (λ same. absurd (let low = older j i a was in omega (arith, low, same))) ∙ old.there; key = old.key; stage = old.stage }
      queued_by j i a (inr same) = record { job = y; there = ap (get (insert q m y)) (sym same.2) ∙ get-there q m y; key = same.0; stage = ap (λ u. Queued u) same.1 }

      ordered : (j i a j' i' b : ℕ) → (waker_at es j i ≡ Some a) ⊎ ((k ≡ j) × (next ≡ i) × (m ≡ a)) → (waker_at es j' i' ≡ Some b) ⊎ ((k ≡ j') × (next ≡ i') × (m ≡ b)) → a < b → i < i'
      ordered j i a j' i' b (inl f) (inl g) = tied.order j i a j' i' b f g
      ordered j i a j' i' b (inl f) (inr g) = λ less. let low = small j i a f in omega (arith, low, g.1)
      ordered j i a j' i' b (inr f) (inl g) = λ less. let low = older j' i' b g in omega (arith, low, f.2)
      ordered j i a j' i' b (inr f) (inr g) = λ less. omega (arith, f.2, g.2)

  -- a job that was admitted has its permit
  pub starts : (es'' : List (ℕ × Share ℕ)) (m n : ℕ) (x : Waiting) → get q m ≡ Some x → x.key ≡ k → x.stage ≡ Queued n → IsWaiting (share_in nat_eq es k) n
      → Sets nat_eq es es' k (admitting (share_in nat_eq es k) n) → Sets nat_eq es' es'' k (readied (share_in nat_eq es' k) n) → AreTied es'' next (remove q m) (insert r m k)
  starts es'' m n x there key stage waiting first then =
      leaves es es'' next q r (insert r m k) k t tied both m n x there key stage refl (n_readied next n s (n_admitting next n (share_in nat_eq es k) (tied.numbered k) waiting))
      (by_share es es'' k t both (λ j u. IsCounted u (running_of (insert r m k) j))
      (let was = tied.counted k in record {
        weight = was.weight;
        living = omega (arith, was.living, running_more r m k none);
        admitted = ap (λ a. remove (insert a n tt) n) was.admitted ∙ put_gone empty n tt ∙ gone_none empty n (get-empty nat_cmp n);
      })
      (λ j apart. let was = tied.counted j in record { weight = was.weight; living = was.living ∙ sym (running_more_other r m k j apart none); admitted = was.admitted }))
      (by_put r m k (λ b o. IsSome (get (remove q m) b) → o ≡ None) (λ some. absurd (let gone : get (remove q m) m ≡ None = get-gone q m in cc)) (λ b apart some. tied.apart b (still b some)))
    where
      s : Share ℕ
      s = admitting (share_in nat_eq es k) n

      t : Share ℕ
      t = readied s n

      none : get r m ≡ None
      none = tied.apart m (is_there (get q m) x there)

      both : Sets nat_eq es es'' k t
      both = sets_twice es es' es'' k s t first (subst (λ u. Sets nat_eq es' es'' k (readied u n)) (share_here es es' k s first) then)

      still : (b : ℕ) → IsSome (get (remove q m) b) → IsSome (get q b)
      still b some = by_gone q m (λ c o. IsSome o → IsSome (get q c)) (λ is. absurd (cc)) (λ c apart is. is) b some

  -- a job that was queued is not, for want of memory
  pub returns : (es'' : List (ℕ × Share ℕ)) (m : ℕ) → Sets nat_eq es es' k (queued (share_in nat_eq es k) next m) → Sets nat_eq es' es'' k (left (share_in nat_eq es' k) next) → AreTied es'' (next + 1) q r
  returns es'' m first then =
      rests es es'' next q r r k t tied both (next + 1) (omega arith) same (n_left (next + 1) next s (n_queued next (share_in nat_eq es k) m (tied.numbered k)))
      (by_share es es'' k t both (λ j u. IsCounted u (running_of r j)) (let was = tied.counted k in record { weight = was.weight; living = was.living; admitted = was.admitted }) (λ j apart. tied.counted j)) tied.apart
    where
      s : Share ℕ
      s = queued (share_in nat_eq es k) next m

      t : Share ℕ
      t = left s next

      both : Sets nat_eq es es'' k t
      both = sets_twice es es' es'' k s t first (subst (λ u. Sets nat_eq es' es'' k (left u next)) (share_here es es' k s first) then)

      same : t.waiting ≡ (share_in nat_eq es k).waiting
      same = put_gone (share_in nat_eq es k).waiting next m ∙ gone_none (share_in nat_eq es k).waiting next (fresh next (share_in nat_eq es k) (tied.numbered k))
