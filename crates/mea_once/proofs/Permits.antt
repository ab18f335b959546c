-- what a hall has to know of a cell's permit holds after each step of the cell
use Rattle.std.proofs.Common.{◌≡◌, ◌≢◌, ℕ, ◌+◌, ◌-◌, ◌≤◌, ◌==◌, ◌++◌, ◌⊎◌, inl, inr, Bool, true, false, cond, List, [], ◌∷◌, map, sum_by, Option, Some, None, refl, ap, sym, ◌∙◌, arith}
use Rattle.std.proofs.lemmas.Bool.{eqb-true, eq-eqb, ne_eqb, cases_eq}
use Rattle.std.proofs.lemmas.List.Sums.{sum_by-cons}
use Rattle.std.specs.Ordering.{nat_cmp}
use Rattle.std.specs.FinMap.{FinMap, get, insert, remove, entries, values}
use Rattle.mea_base.specs.Totals.{total, weight}
use Rattle.mea_base.proofs.Maps.{by_put, removed_none}
use Rattle.mea_base.proofs.Totals.{total-insert, total-remove}
use Rattle.mea_by_name.specs.declared.named_waker.NamedWaker.{NamedWaker}
use Rattle.mea_sem_core.specs.Core.{Core, Waiter, Acquires, Owes, AreApart, held_of, paid_to, paid_waiting, waiting}
use Rattle.mea_sem_core.specs.Calls.{Queues, with_waker, without_acquire}
use Rattle.mea_sem_core.specs.Ones.{AskForOne}
use Rattle.mea_sem_core.proofs.Ones.{ones_append, ones_rewaked, ones_without}
use Rattle.mea_cores_by_name.proofs.Waiters.{waiting-with}
use Rattle.mea_once_core.specs.Permit.{IsNext, MayEnd, Leaves, HoldsAs, held_at, passed_to, passed_on}
use Rattle.mea_once_core.specs.declared.cell_stage.CellStage.{CellStage}
use Rattle.mea_once_core.specs.declared.cell_stage.CellStage.TheVariants.{New, Queued, Running, Done}
use Rattle.mea_once_core.specs.declared.cell_turn.CellTurn.{CellTurn}
use Rattle.mea_once.specs.Cores.{TurnsTo, FindsFull, FindsLate, TakesFree, TakesNext, GoesOn, LinesUp, WaitsOn, IsOnePermit}
use Rattle.mea_sem_core.proofs.Without.{waiting-without, AreApart-without}

abbrev Queue : Type 0
Queue = List (Waiter NamedWaker × ℕ)

-- ---- sums
abbrev pub granted_sum : FinMap nat_cmp ℕ → ℕ
granted_sum m = sum_by (λ d. d) (values m)

sum_values : (es : List (ℕ × ℕ)) → sum_by (λ d. d) (map (λ (e : ℕ × ℕ). e.1) es) ≡ sum_by (λ (e : ℕ × ℕ). e.1) es
sum_values [] = refl
sum_values (e ∷ es) = omega (arith, sum_values es, sum_by-cons (λ (d : ℕ). d) e.1 (map (λ (e : ℕ × ℕ). e.1) es), sum_by-cons (λ (e : ℕ × ℕ). e.1) e es)

pub sum_total : (m : FinMap nat_cmp ℕ) → granted_sum m ≡ total (λ k d. d) m
sum_total m = sum_values (entries m)

pub sum_without : (m : FinMap nat_cmp ℕ) (n d : ℕ) → get m n ≡ Some d → granted_sum (remove m n) + d ≡ granted_sum m
sum_without m n d is =
    let here : weight (λ k (d : ℕ). d) n (get m n) ≡ d = ap (weight (λ k (d : ℕ). d) n) is in
    omega (arith, here, sum_total m, sum_total (remove m n), total-remove (λ k d. d) m n)

sum_with : (m : FinMap nat_cmp ℕ) (n d : ℕ) → get m n ≡ None → granted_sum (insert m n d) ≡ granted_sum m + d
sum_with m n d is =
    let here : weight (λ k (d : ℕ). d) n (get m n) ≡ 0 = ap (weight (λ k (d : ℕ). d) n) is in
    omega (arith, here, sum_total m, sum_total (insert m n d), total-insert (λ k d. d) m n d)

none_paid : (q : Queue) → AskForOne q → paid_waiting q ≡ 0
none_paid [] asks = refl
none_paid ((Acquires n d k, l) ∷ q) asks = omega (arith, asks.0, asks.1, none_paid q asks.2, sum_by-cons {X = Waiter NamedWaker × ℕ} (λ e. paid_to e.0 e.1) (Acquires n d k, l) q)
none_paid ((Owes, l) ∷ q) asks = absurd asks

-- the one permit is free, granted or held
pub shares : (s : Core NamedWaker) → IsOnePermit s → s.free + granted_sum s.granted + held_of s ≡ 1
shares s is = omega (arith, is.total, is.one, none_paid s.queue is.asks)

held_left : (s : Core NamedWaker) → s.live ≡ 1 → AskForOne s.queue → held_of s ≡ 1 - s.free - granted_sum s.granted
held_left s one asks = omega (arith, one, none_paid s.queue asks)

kept_one : (s : Core NamedWaker) → s.live ≡ 1 → AskForOne s.queue → AreApart s.queue → ((n : ℕ) → waiting s.queue n ≢ None → get s.granted n ≡ None) → s.free + granted_sum s.granted ≤ 1 → IsOnePermit s
kept_one s one asks apart granted few = record { one = one; asks = asks; apart = apart; granted_apart = granted; total = omega (arith, one, few, none_paid s.queue asks) }

-- ---- queues
abbrev Waits : Queue → ℕ → Type 0
Waits q n = waiting q n ≢ None

push_waits : (q : Queue) (n d l : ℕ) (k : NamedWaker) (m : ℕ) → Waits (q ++ (Acquires n d k, l) ∷ []) m → Waits q m ⊎ (n ≡ m)
push_waits [] n d l k m = at (n == m) refl
  where
    at : (b : Bool) → (n == m) ≡ b → (cond {A = Option (ℕ × ℕ)} b (Some (d, l)) None ≡ None → ⊥) → (◌≡◌ {A = Option (ℕ × ℕ)} None None → ⊥) ⊎ (n ≡ m)
    at true is some = inr (eqb-true n m is)
    at false is some = inl some
push_waits ((Acquires i e w, j) ∷ q) n d l k m = elim (i == m) as (λ b. (cond b (Some (e, j)) (waiting (q ++ (Acquires n d k, l) ∷ []) m) ≡ None → ⊥) → (cond b (Some (e, j)) (waiting q m) ≡ None → ⊥) ⊎ (n ≡ m)) [
  | true ↦ λ some. inl (λ none. absurd (cc))
  | false ↦ λ some. push_waits q n d l k m some
]
push_waits ((Owes, j) ∷ q) n d l k m = push_waits q n d l k m

not_pushed : (q : Queue) (n d l : ℕ) (k : NamedWaker) (m : ℕ) → waiting q m ≡ None → (n ≡ m → ⊥) → waiting (q ++ (Acquires n d k, l) ∷ []) m ≡ None
not_pushed [] n d l k m none other = at (n == m) refl
  where
    at : (b : Bool) → (n == m) ≡ b → cond {A = Option (ℕ × ℕ)} b (Some (d, l)) None ≡ None
    at true is = absurd (other (eqb-true n m is))
    at false is = refl
not_pushed ((Acquires i e w, j) ∷ q) n d l k m none other = elim (i == m) as (λ b. cond b (Some (e, j)) (waiting q m) ≡ None → cond b (Some (e, j)) (waiting (q ++ (Acquires n d k, l) ∷ []) m) ≡ None) [
  | true ↦ λ is. absurd (cc)
  | false ↦ λ is. not_pushed q n d l k m is other
] none
not_pushed ((Owes, j) ∷ q) n d l k m none other = not_pushed q n d l k m none other

apart_pushed : (q : Queue) (n d l : ℕ) (k : NamedWaker) → waiting q n ≡ None → AreApart q → AreApart (q ++ (Acquires n d k, l) ∷ [])
apart_pushed [] n d l k none apart = (refl, tt)
apart_pushed ((Acquires i e w, j) ∷ q) n d l k none apart = elim (i == n) as (λ b. (i == n) ≡ b → cond b (Some (e, j)) (waiting q n) ≡ None → AreApart (((Acquires i e w, j) ∷ q) ++ (Acquires n d k, l) ∷ [])) [
  | true ↦ λ is there. absurd (cc)
  | false ↦ λ is there. (not_pushed q n d l k i apart.0 (λ same. absurd (let equal : (i == n) ≡ true = eq-eqb i n (sym same) in cc)), apart_pushed q n d l k there apart.1)
] refl none
apart_pushed ((Owes, j) ∷ q) n d l k none apart = apart_pushed q n d l k none apart

apart_rewaked : (q : Queue) (n : ℕ) (w : NamedWaker) → AreApart q → AreApart (with_waker q n w)
apart_rewaked [] n w apart = tt
apart_rewaked ((Acquires i e v, j) ∷ q) n w apart = (waiting-with q n w i ∙ apart.0, apart_rewaked q n w apart.1)
apart_rewaked ((Owes, j) ∷ q) n w apart = apart_rewaked q n w apart

without_gone : (q : Queue) (n : ℕ) → waiting (without_acquire q n) n ≡ None
without_gone [] n = refl
without_gone ((Acquires i e v, j) ∷ q) n = elim (i == n) as (λ b. (i == n) ≡ b → waiting (cond b (without_acquire q n) ((Acquires i e v, j) ∷ without_acquire q n)) n ≡ None) [
  | true ↦ λ is. without_gone q n
  | false ↦ λ is. ap (λ b. cond b (Some (e, j)) (waiting (without_acquire q n) n)) is ∙ without_gone q n
] refl
without_gone ((Owes, j) ∷ q) n = without_gone q n

-- who waits where one has left waited before
left_waits : (q : Queue) (n m : ℕ) → Waits (without_acquire q n) m → Waits q m
left_waits q n m some = elim (cases_eq n m) as (λ x. Waits q m) [
  | inl same ↦ absurd (some (ap (waiting (without_acquire q n)) (sym same) ∙ without_gone q n))
  | inr other ↦ λ none. some (waiting-without q n m other ∙ none)
]

-- ---- the steps
module _ (s : Core NamedWaker) (is : IsOnePermit s) where
  took_free : s.free ≡ 1 → IsOnePermit (record s { free = 0 }) × HoldsAs s New (record s { free = 0 }) Running
  took_free one =
      let all = shares s is in
      let left = held_left (record s { free = 0 }) is.one is.asks in
      (kept_one (record s { free = 0 }) is.one is.asks is.apart is.granted_apart (omega arith), omega arith)

  abbrev taken : ℕ → Core NamedWaker
  taken n = record s { granted = remove s.granted n }

  pub took_next : (n : ℕ) → IsNext s n → IsOnePermit (taken n) × HoldsAs s (Queued n) (taken n) Running
  took_next n next =
      let all = shares s is in
      let sum = sum_without s.granted n 1 next in
      let left = held_left (taken n) is.one is.asks in
      (kept_one (taken n) is.one is.asks is.apart (λ k some. removed_none s.granted n k (is.granted_apart k some)) (omega arith), omega arith)

  lined_up : (t : Core NamedWaker) (w : NamedWaker) (n : ℕ) → s.free ≡ 0 → Queues s t 1 w n → IsOnePermit t × HoldsAs s New t (Queued n)
  lined_up t w n none queues =
      let lack : 1 - s.free ≡ 1 = omega arith in
      let all = shares s is in
      let asks : AskForOne (s.queue ++ (Acquires n 1 w, 1 - s.free) ∷ []) = ones_append s.queue n (1 - s.free) w lack is.asks in
      let left = held_left (record s { free = 0; queue = s.queue ++ (Acquires n 1 w, 1 - s.free) ∷ [] }) is.one asks in
      rw queues.is (
        kept_one (record s { free = 0; queue = s.queue ++ (Acquires n 1 w, 1 - s.free) ∷ [] }) is.one asks (apart_pushed s.queue n 1 (1 - s.free) w queues.not_waiting is.apart)
            (λ k some. elim (push_waits s.queue n 1 (1 - s.free) w k some) as (λ x. get s.granted k ≡ None) [
              | inl waited ↦ is.granted_apart k waited
              | inr same ↦ ap (get s.granted) (sym same) ∙ queues.not_granted
            ])
            (omega arith),
        omega arith,
      )

  waited_on : (w : NamedWaker) (n : ℕ) → IsOnePermit (record s { queue = with_waker s.queue n w }) × HoldsAs s (Queued n) (record s { queue = with_waker s.queue n w }) (Queued n)
  waited_on w n =
      let all = shares s is in
      let asks = ones_rewaked s.queue n w is.asks in
      let left = held_left (record s { queue = with_waker s.queue n w }) is.one asks in
      (kept_one (record s { queue = with_waker s.queue n w }) is.one asks (apart_rewaked s.queue n w is.apart) (λ k some. is.granted_apart k (λ none. some (waiting-with s.queue n w k ∙ none))) (omega arith), omega arith)

  left_queue : (n : ℕ) → IsOnePermit (record s { queue = without_acquire s.queue n }) × (held_of (record s { queue = without_acquire s.queue n }) ≡ held_of s)
  left_queue n =
      let all = shares s is in
      let asks = ones_without s.queue n is.asks in
      let left = held_left (record s { queue = without_acquire s.queue n }) is.one asks in
      (kept_one (record s { queue = without_acquire s.queue n }) is.one asks (AreApart-without s.queue n is.apart) (λ k some. is.granted_apart k (left_waits s.queue n k some)) (omega arith), omega arith)

  -- who has the permit gives it to the next
  pub passed_one : 1 ≤ held_of s → IsOnePermit (passed_on s) × (held_of (passed_on s) ≡ 0)
  passed_one held = at s.queue refl is.asks is.apart
    where
      all : s.free + granted_sum s.granted + held_of s ≡ 1
      all = shares s is

      at : (q : Queue) → s.queue ≡ q → AskForOne q → AreApart q → IsOnePermit (passed_to q s) × (held_of (passed_to q s) ≡ 0)
      at [] same asks apart =
          let left = held_left (record s { free = 1 }) is.one is.asks in
          (kept_one (record s { free = 1 }) is.one is.asks is.apart is.granted_apart (omega arith), omega arith)
      at ((Acquires k d w, l) ∷ q) same asks apart =
          let t : Core NamedWaker = record s { queue = q; granted = insert s.granted k 1; wakes = s.wakes ++ w ∷ [] } in
          let first : Waits s.queue k = λ none. absurd (let there : waiting ((Acquires k d w, l) ∷ q) k ≡ Some (d, l) = ap (λ b. cond b (Some (d, l)) (waiting q k)) (eq-eqb k k refl) in let none_there : waiting ((Acquires k d w, l) ∷ q) k ≡ None = ap (λ (q : Queue). waiting q k) (sym same) ∙ none in cc) in
          let sum = sum_with s.granted k 1 (is.granted_apart k first) in
          let left = held_left t is.one asks.2 in (
            kept_one t is.one asks.2 apart.1
                (λ m some. by_put s.granted k 1 (λ m o. Waits q m → waiting q k ≡ None → o ≡ None) (λ some none. absurd (some none)) (λ m other some none. is.granted_apart m (λ gone. some (sym (ap (λ b. cond b (Some (d, l)) (waiting q m)) (ne_eqb k m other)) ∙ ap (λ (q : Queue). waiting q m) (sym same) ∙ gone))) m some apart.0)
                (omega arith),
            omega arith,
          )
      at ((Owes, l) ∷ q) same asks apart = absurd asks

-- ---- a poll for a turn, and an end
module _ (s : Core NamedWaker) (is : IsOnePermit s) where
  late : (n : ℕ) → IsNext s n → IsOnePermit (passed_on (taken s is n)) × HoldsAs s (Queued n) (passed_on (taken s is n)) Done
  late n next =
      let took = took_next s is n next in
      let all = shares s is in
      let some = sum_without s.granted n 1 next in
      let passed = passed_one (taken s is n) took.0 (omega (arith, took.1)) in
      (passed.0, omega (arith, passed.1))

  pub turned_one : (full : Bool) (w : NamedWaker) (stage after : CellStage) (turn : CellTurn NamedWaker) (t : Core NamedWaker) → TurnsTo full s w stage turn t after → IsOnePermit t × HoldsAs s stage t after
  turned_one full w _ _ _ _ (FindsFull full_now) = (is, refl)
  turned_one full w _ _ _ _ (FindsLate n next full_now) = late n next
  turned_one full w _ _ _ _ (TakesFree empty one) = took_free s is one
  turned_one full w _ _ _ _ (TakesNext n next empty) = took_next s is n next
  turned_one full w _ _ _ _ (GoesOn empty) = (is, refl)
  turned_one full w _ _ _ t (LinesUp n _ empty none queues) = lined_up s is t w n none queues
  turned_one full w _ _ _ _ (WaitsOn n waits) = waited_on s is w n

  pub left_one : (stage : CellStage) (t : Core NamedWaker) → MayEnd s stage → Leaves s stage t → IsOnePermit t × (held_of t + held_at stage ≡ held_of s)
  left_one (Queued n) t (inl next) leaves = rw (leaves.0 next) (let it = late n next in (it.0, omega (arith, it.1)))
  left_one (Queued n) t (inr waits) leaves = rw (leaves.1 waits) (let it = left_queue s is n in (it.0, omega (arith, it.1)))
  left_one Running t may leaves = rw leaves (let passed = passed_one s is may in let all = shares s is in (passed.0, omega (arith, passed.1)))
  left_one _ t may leaves = rw leaves (is, omega arith)
