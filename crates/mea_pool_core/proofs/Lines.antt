-- a queue each of whose acquires asks for one permit, as a list of leases that wait
use Rattle.std.proofs.Common.{◌≡◌, ◌∙◌, ℕ, ◌+◌, ◌-◌, ◌≤◌, ◌==◌, ◌++◌, Bool, true, false, cond, inl, inr, List, [], ◌∷◌, Option, Some, None, is_some, refl, ap, arith, append-nil}
use Rattle.std.proofs.lemmas.Bool.{eq-eqb, cases_lt}
use Rattle.std.proofs.lemmas.List.Sums.{sum_by-cons}
use Rattle.std.specs.Prelude.{IsSome, map as map_list}
use Rattle.std.specs.Ordering.{nat_cmp}
use Rattle.std.specs.Cmp.{nat_cmp_total}
use Rattle.std.specs.FinMap as map
use Rattle.std.specs.FinMap.{len-insert, len-remove, get-empty, empty_of_len}
use Rattle.mea_base.specs.Queue.{lacks, waiting_after, granted_in, left_over}
use Rattle.mea_sem_core.specs.Core.{Waiter, Acquires, Owes, Core, paid_to, paid_waiting, paid_to_debts, debts, poured, granting, with_demands, waiters_of, wakers_of, only_debts, cut_off, closed_core, waiting}
use Rattle.mea_sem_core.specs.Calls as calls
use Rattle.mea_sem_core.specs.Calls.{without_acquire, given_back}
use Rattle.mea_sem_core.specs.Ones.{AskForOne}
use Rattle.mea_sem_core.proofs.Ones.{ones_debts, ones_left, ones_granted, take_none, poured_nothing}
use Rattle.mea_lock_core.specs.Condvar.{waker_under, with_waker, without_wait}
use Rattle.mea_pool_core.specs.Places.{leases_of, cutting}

-- ---- how many numbers a map has

pub some_counted : {X : Type 0} (m : map.FinMap nat_cmp X) (n : ℕ) (v : X) → map.get m n ≡ Some v → 1 ≤ map.len m
some_counted {X} m n v there = elim (cases_lt (map.len m) 1) [
  | inl none ↦ absurd (let empty : m ≡ map.empty = empty_of_len m (omega arith) in let nothing : map.get m n ≡ None = ap (λ (k : map.FinMap nat_cmp X). map.get k n) empty ∙ get-empty nat_cmp n in cc)
  | inr some ↦ some
]

pub inserted : (m : map.FinMap nat_cmp ℕ) (n v : ℕ) → map.get m n ≡ None → map.len (map.insert m n v) ≡ map.len m + 1
inserted m n v none = len-insert nat_cmp_total m n v ∙ ap (λ (o : Option ℕ). cond (is_some o) (map.len m) (map.len m + 1)) none

pub removed : (m : map.FinMap nat_cmp ℕ) (n v : ℕ) → map.get m n ≡ Some v → map.len (map.remove m n) + 1 ≡ map.len m
removed m n v there =
    let less : map.len (map.remove m n) ≡ map.len m - 1 = len-remove nat_cmp_total m n ∙ ap (λ (o : Option ℕ). cond (is_some o) (map.len m - 1) (map.len m)) there in
    let some : 1 ≤ map.len m = some_counted m n v there in
    omega arith

module _ {W : Type 0} where
  -- ---- a queue and its leases

  pub leases_last : (q : List (Waiter W × ℕ)) (n d lack : ℕ) (w : W) → leases_of (q ++ (Acquires n d w, lack) ∷ []) ≡ leases_of q ++ (n, w) ∷ []
  leases_last [] n d lack w = refl
  leases_last ((Acquires m e u, l) ∷ q) n d lack w = ap (λ (es : List (ℕ × W)). (m, u) ∷ es) (leases_last q n d lack w)
  leases_last ((Owes, l) ∷ q) n d lack w = leases_last q n d lack w

  pub leases_rewaked : (q : List (Waiter W × ℕ)) (n : ℕ) (w : W) → leases_of (calls.with_waker q n w) ≡ with_waker (leases_of q) n w
  leases_rewaked [] n w = refl
  leases_rewaked ((Acquires m e u, l) ∷ q) n w = ap (λ (es : List (ℕ × W)). (m, cond (m == n) w u) ∷ es) (leases_rewaked q n w)
  leases_rewaked ((Owes, l) ∷ q) n w = leases_rewaked q n w

  pub leases_without : (q : List (Waiter W × ℕ)) (n : ℕ) → leases_of (without_acquire q n) ≡ without_wait (leases_of q) n
  leases_without [] n = refl
  leases_without ((Acquires m e u, l) ∷ q) n = by_test (m == n) (leases_without q n)
    where
      by_test : (b : Bool) → leases_of (without_acquire q n) ≡ without_wait (leases_of q) n
          → leases_of (cond b (without_acquire q n) ((Acquires m e u, l) ∷ without_acquire q n)) ≡ cond b (without_wait (leases_of q) n) ((m, u) ∷ without_wait (leases_of q) n)
      by_test true rest = rest
      by_test false rest = ap (λ (es : List (ℕ × W)). (m, u) ∷ es) rest
  leases_without ((Owes, l) ∷ q) n = leases_without q n

  pub waits_one : (q : List (Waiter W × ℕ)) (n : ℕ) → AskForOne q → IsSome (waker_under (leases_of q) n) → waiting q n ≡ Some (1, 1)
  waits_one [] n a some = absurd (cc)
  waits_one ((Acquires m d u, l) ∷ q) n a some = by_test (m == n) (waits_one q n a.2) some
    where
      by_test : (b : Bool) → (IsSome (waker_under (leases_of q) n) → waiting q n ≡ Some (1, 1)) → IsSome (cond b (Some u) (waker_under (leases_of q) n)) → cond b (Some (d, l)) (waiting q n) ≡ Some (1, 1)
      by_test true rest here = λ i. Some (a.0 i, a.1 i)
      by_test false rest here = rest here
  waits_one ((Owes, l) ∷ q) n a some = absurd a

  pub waits_some : (q : List (Waiter W × ℕ)) (n d lack : ℕ) → waiting q n ≡ Some (d, lack) → IsSome (waker_under (leases_of q) n)
  waits_some [] n d lack is = absurd (cc)
  waits_some ((Acquires m e u, l) ∷ q) n d lack is = by_test (m == n) (waits_some q n d lack) is
    where
      by_test : (b : Bool) → (waiting q n ≡ Some (d, lack) → IsSome (waker_under (leases_of q) n)) → cond b (Some (e, l)) (waiting q n) ≡ Some (d, lack) → IsSome (cond b (Some u) (waker_under (leases_of q) n))
      by_test true rest here = refl
      by_test false rest here = rest here
  waits_some ((Owes, l) ∷ q) n d lack is = waits_some q n d lack is

  pub waits_none : (q : List (Waiter W × ℕ)) (n : ℕ) → waiting q n ≡ None → waker_under (leases_of q) n ≡ None
  waits_none [] n none = refl
  waits_none ((Acquires m e u, l) ∷ q) n none = by_test (m == n) (waits_none q n) none
    where
      by_test : (b : Bool) → (waiting q n ≡ None → waker_under (leases_of q) n ≡ None) → cond b (Some (e, l)) (waiting q n) ≡ None → cond b (Some u) (waker_under (leases_of q) n) ≡ None
      by_test true rest here = absurd (cc)
      by_test false rest here = rest here
  waits_none ((Owes, l) ∷ q) n none = waits_none q n none

  -- the first of a queue waits
  pub first_waits : (q : List (Waiter W × ℕ)) (n d lack : ℕ) (w : W) → waiting ((Acquires n d w, lack) ∷ q) n ≡ Some (d, lack)
  first_waits q n d lack w = ap (λ (b : Bool). cond b (Some (d, lack)) (waiting q n)) (eq-eqb n n refl)

  -- ---- what is poured

  -- a permit goes to the first of a queue, which is granted and woken; where nobody waits it is free
  abbrev pub passed_to : List (Waiter W × ℕ) → Core W → Core W
  passed_to [] s = record s { free = s.free + 1 }
  passed_to ((Acquires n d w, lack) ∷ q) s = record s { queue = q; granted = map.insert s.granted n 1; wakes = s.wakes ++ w ∷ [] }
  passed_to ((Owes, lack) ∷ q) s = s

  given_by : (q : List (Waiter W × ℕ)) (free live : ℕ) (granted cut : map.FinMap nat_cmp ℕ) (closed : Bool) (wakes : List W) → AskForOne q → 1 ≤ live
      → given_back (record { free = free; live = live; queue = q; granted = granted; cut = cut; closed = closed; wakes = wakes }) 1 ≡ passed_to q (record { free = free; live = live; queue = q; granted = granted; cut = cut; closed = closed; wakes = wakes })
  given_by [] free live granted cut closed wakes a one =
      let f : free + left_over {A = Waiter W} [] 1 ≡ free + 1 = omega arith in
      let l : live - 1 + 1 - paid_to_debts {W = W} [] 1 ≡ live = omega arith in
      λ i. record { free = f i; live = l i; queue = []; granted = granted; cut = cut; closed = closed; wakes = append-nil wakes i }
  given_by ((Acquires k d w, lack) ∷ q) free live granted cut closed wakes a one =
      let is_one : lack ≡ 1 = a.1 in
      let sum : lacks {A = Waiter W} ((Acquires k d w, lack) ∷ q) ≡ lack + lacks q = sum_by-cons {X = Waiter W × ℕ} (λ e. e.1) (Acquires k d w, lack) q in
      let f : free + left_over {A = Waiter W} ((Acquires k d w, lack) ∷ q) 1 ≡ free = omega arith in
      let none : debts ((Acquires k d w, lack) ∷ q) ≡ 0 = ones_debts ((Acquires k d w, lack) ∷ q) a in
      let l : live - 1 + 1 - paid_to_debts ((Acquires k d w, lack) ∷ q) 1 ≡ live = omega arith in
      let behind : waiting_after ((Acquires k d w, lack) ∷ q) 1 ≡ q = ones_left ((Acquires k d w, lack) ∷ q) 1 a in
      let it : granted_in ((Acquires k d w, lack) ∷ q) 1 ≡ Acquires k d w ∷ [] =
      ones_granted ((Acquires k d w, lack) ∷ q) 1 a ∙ ap (λ (es : List (Waiter W × ℕ)). Acquires k d w ∷ map_list {A = Waiter W × ℕ} (λ e. e.0) es) (take_none q) in
      let g : granting granted (granted_in ((Acquires k d w, lack) ∷ q) 1) ≡ map.insert granted k 1 = ap (granting granted) it ∙ ap (λ x. map.insert granted k x) a.0 in
      λ i. record { free = f i; live = l i; queue = behind i; granted = g i; cut = cut; closed = closed; wakes = ap (λ es. wakes ++ wakers_of es) it i }
  given_by ((Owes, lack) ∷ q) free live granted cut closed wakes a one = absurd a

  pub given : (s : Core W) → AskForOne s.queue → 1 ≤ s.live → given_back s 1 ≡ passed_to s.queue s
  given s a one = given_by s.queue s.free s.live s.granted s.cut s.closed s.wakes a one

  -- ---- what a close does

  unpaid : (q : List (Waiter W × ℕ)) → AskForOne q → paid_waiting q ≡ 0
  unpaid [] a = refl
  unpaid ((Acquires n d w, lack) ∷ q) a =
      let sum : paid_waiting ((Acquires n d w, lack) ∷ q) ≡ (d - lack) + paid_waiting q = sum_by-cons {X = Waiter W × ℕ} (λ e. paid_to e.0 e.1) (Acquires n d w, lack) q in
      let rest : paid_waiting q ≡ 0 = unpaid q a.2 in
      let asks : d ≡ 1 = a.0 in
      let lacking : lack ≡ 1 = a.1 in
      omega arith
  unpaid ((Owes, lack) ∷ q) a = absurd a

  all_leave : (q : List (Waiter W × ℕ)) → AskForOne q → only_debts q ≡ []
  all_leave [] a = refl
  all_leave ((Acquires n d w, lack) ∷ q) a = all_leave q a.2
  all_leave ((Owes, lack) ∷ q) a = absurd a

  cut_leases : (q : List (Waiter W × ℕ)) (m : map.FinMap nat_cmp ℕ) → AskForOne q → with_demands m (waiters_of q) ≡ cutting m (leases_of q)
  cut_leases [] m a = refl
  cut_leases ((Acquires n d w, lack) ∷ q) m a = ap (λ x. with_demands (map.insert m n x) (waiters_of q)) a.0 ∙ cut_leases q (map.insert m n 1) a.2
  cut_leases ((Owes, lack) ∷ q) m a = absurd a

  woken_leases : (q : List (Waiter W × ℕ)) → wakers_of (waiters_of q) ≡ map_list {A = ℕ × W} (λ e. e.1) (leases_of q)
  woken_leases [] = refl
  woken_leases ((Acquires n d w, lack) ∷ q) = ap (λ ws. w ∷ ws) (woken_leases q)
  woken_leases ((Owes, lack) ∷ q) = woken_leases q

  closed_by : (b : Bool) (free live : ℕ) (q : List (Waiter W × ℕ)) (granted cut : map.FinMap nat_cmp ℕ) (wakes : List W) → b ≡ false → AskForOne q
      → closed_core (record { free = free; live = live; queue = q; granted = granted; cut = cut; closed = b; wakes = wakes })
      ≡ record { free = free; live = live; queue = []; granted = granted; cut = cutting cut (leases_of q); closed = true; wakes = wakes ++ map_list {A = ℕ × W} (λ e. e.1) (leases_of q) }
  closed_by true free live q granted cut wakes opens a = absurd (cc)
  closed_by false free live q granted cut wakes opens a =
      let none : paid_waiting q ≡ 0 = unpaid q a in
      let all : live - paid_waiting q ≡ live = omega arith in
      ap (λ n. poured (cut_off (record { free = free; live = live; queue = q; granted = granted; cut = cut; closed = false; wakes = wakes })) n) none
      ∙ (λ i. poured (record { free = free; live = all i; queue = all_leave q a i; granted = granted; cut = cut_leases q cut a i; closed = true; wakes = wakes ++ woken_leases q i }) 0)
      ∙ poured_nothing [] free live granted (cutting cut (leases_of q)) true (wakes ++ map_list {A = ℕ × W} (λ e. e.1) (leases_of q)) tt

  pub closes : (s : Core W) → s.closed ≡ false → AskForOne s.queue
      → closed_core s ≡ record s { queue = []; cut = cutting s.cut (leases_of s.queue); closed = true; wakes = s.wakes ++ map_list {A = ℕ × W} (λ e. e.1) (leases_of s.queue) }
  closes s opens a = closed_by s.closed s.free s.live s.queue s.granted s.cut s.wakes opens a
