-- a permit that is poured goes to the first that waits
use Rattle.std.proofs.Common.{◌≡◌, ◌∙◌, ℕ, suc, ◌+◌, ◌-◌, ◌<◌, ◌≤◌, ◌==◌, ◌++◌, ◌⊎◌, inl, inr, Bool, true, false, cond, nat_lt, min, List, [], ◌∷◌, Some, unwrap_or, Result, Ok, Err, filter, MatchResult, length, zero, length-append, refl, ap, sym, subst, arith, append-nil}
use Rattle.std.proofs.lemmas.Bool.{cases_lt}
use Rattle.std.proofs.lemmas.List.Sums.{sum_by-cons}
use Rattle.std.specs.Prelude.{map as map_list}
use Rattle.std.specs.Ordering.{nat_cmp}
use Rattle.std.proofs.lemmas.Bool.Decides.{nat_tests}
use Rattle.std.specs.FinMap as map
use Rattle.mea_base.specs.Queue.{lacks, lacks_after, waiting_after, granted_in, left_over}
use Rattle.mea_base.specs.declared.no_memory.NoMemory.{NoMemory}
use Rattle.mea_base.specs.declared.turn.Turn.{Turn}
use Rattle.mea_base.specs.declared.turn.Turn.TheVariants.{Pending}
use Rattle.mea_sem_core.specs.Core as core
use Rattle.mea_sem_core.specs.Core.{Waiter, Acquires, Owes, Core, held_of, paid_of, poured, granting, wakers_of, debts, paid_to_debts, waiting}
use Rattle.mea_sem_core.specs.Calls.{Steady, Polls, Queues, Cancels, given_back, with_waker, without_acquire}
use Rattle.mea_sem_core.specs.declared.acquire.Acquire.{Acquire}
use Rattle.mea_sem_core.specs.declared.acquire.Acquire.TheVariants as acquire
use Rattle.mea_sem_core.specs.Ones.{AskForOne}
use Rattle.mea_sem_core.proofs.Ones.{ones_no_debt, ones_append, ones_rewaked, ones_without, poured_nothing, length-rewaked, length-without}
use Rattle.mea_once_core.specs.Permit.{IsPermit, IsNext, IsWaiting, asks_more, MayAsk, Leaves, passed_to, passed_on, acquire_of}
use Rattle.mea_once_core.specs.declared.cell_stage.CellStage.{CellStage}
use Rattle.mea_once_core.specs.declared.cell_stage.CellStage.TheVariants.{New, Queued, Running, Done}

one_at_0 : (n : ℕ) → n < 1 → ◌≡◌ {A = ℕ} (cond (n == 0) 1 0) 1
one_at_0 zero low = refl
one_at_0 (suc n) low = absurd (omega arith)

module _ {W : Type 0} where
  -- ---- pours of one, and of nothing
  -- those behind the first keep their lack where one permit is poured
  behind : (q : List (Waiter W × ℕ)) (before n : ℕ) → n ≤ before → AskForOne q → lacks_after before q n ≡ q
  behind [] before n h a = refl
  behind ((Acquires k d w, lack) ∷ q) before n h a =
      let one : lack ≡ 1 = a.1 in
      let same : min lack (before + lack - n) ≡ lack = omega arith in
      let rest : lacks_after (before + lack) q n ≡ q = behind q (before + lack) n (omega arith) a.2 in
      ap (λ m. (Acquires k d w, m) ∷ lacks_after (before + lack) q n) same ∙ ap (λ es. (Acquires k d w, lack) ∷ es) rest
  behind ((Owes, lack) ∷ q) before n h a = absurd a

  lacking : (q : List (Waiter W × ℕ)) → AskForOne q → filter {X = Waiter W × ℕ} (λ e. nat_lt 0 e.1) q ≡ q
  lacking [] a = refl
  lacking ((Acquires k d w, lack) ∷ q) a =
      let one : lack ≡ 1 = a.1 in
      let low : nat_lt 0 lack ≡ true = grind (arith, nat_tests) in
      ap (λ b. cond b ((Acquires k d w, lack) ∷ filter {X = Waiter W × ℕ} (λ e. nat_lt 0 e.1) q) (filter {X = Waiter W × ℕ} (λ e. nat_lt 0 e.1) q)) low ∙ ap (λ es. (Acquires k d w, lack) ∷ es) (lacking q a.2)
  lacking ((Owes, lack) ∷ q) a = absurd a

  unpaid : (q : List (Waiter W × ℕ)) → AskForOne q → filter {X = Waiter W × ℕ} (λ e. e.1 == 0) q ≡ []
  unpaid [] a = refl
  unpaid ((Acquires k d w, lack) ∷ q) a =
      let one : lack ≡ 1 = a.1 in
      let low : (lack == 0) ≡ false = grind (arith, nat_tests) in
      ap (λ b. cond b ((Acquires k d w, lack) ∷ filter {X = Waiter W × ℕ} (λ e. e.1 == 0) q) (filter {X = Waiter W × ℕ} (λ e. e.1 == 0) q)) low ∙ unpaid q a.2
  unpaid ((Owes, lack) ∷ q) a = absurd a

  debtless : (q : List (Waiter W × ℕ)) → AskForOne q → debts q ≡ 0
  debtless [] a = refl
  debtless ((Acquires k d w, lack) ∷ q) a = debtless q a.2
  debtless ((Owes, lack) ∷ q) a = absurd a

  first_paid : (k d lack : ℕ) (w : W) (q : List (Waiter W × ℕ)) → AskForOne ((Acquires k d w, lack) ∷ q) → lacks_after 0 ((Acquires k d w, lack) ∷ q) 1 ≡ (Acquires k d w, 0) ∷ q
  first_paid k d lack w q a =
      let one : lack ≡ 1 = a.1 in
      let none : min lack (0 + lack - 1) ≡ 0 = omega arith in
      let rest : lacks_after (0 + lack) q 1 ≡ q = behind q (0 + lack) 1 (omega arith) a.2 in
      ap (λ m. (Acquires k d w, m) ∷ lacks_after (0 + lack) q 1) none ∙ ap (λ es. (Acquires k d w, 0) ∷ es) rest

  pub waits_behind : (k d lack : ℕ) (w : W) (q : List (Waiter W × ℕ)) → AskForOne ((Acquires k d w, lack) ∷ q) → waiting_after ((Acquires k d w, lack) ∷ q) 1 ≡ q
  waits_behind k d lack w q a = ap (λ es. filter {X = Waiter W × ℕ} (λ e. nat_lt 0 e.1) es) (first_paid k d lack w q a) ∙ lacking q a.2

  pub first_granted : (k d lack : ℕ) (w : W) (q : List (Waiter W × ℕ)) → AskForOne ((Acquires k d w, lack) ∷ q) → granted_in ((Acquires k d w, lack) ∷ q) 1 ≡ Acquires k d w ∷ []
  first_granted k d lack w q a =
      ap (λ es. map_list {A = Waiter W × ℕ} (λ e. e.0) (filter {X = Waiter W × ℕ} (λ e. e.1 == 0) es)) (first_paid k d lack w q a)
      ∙ ap (λ es. Acquires k d w ∷ map_list {A = Waiter W × ℕ} (λ e. e.0) es) (unpaid q a.2)

  -- one permit that comes back goes to the first that waits
  given_by : (q : List (Waiter W × ℕ)) (free live : ℕ) (granted cut : map.FinMap nat_cmp ℕ) (closed : Bool) (wakes : List W) → AskForOne q → live ≡ 1 → (q ≡ [] → free ≡ 0)
      → given_back (record { free = free; live = live; queue = q; granted = granted; cut = cut; closed = closed; wakes = wakes }) 1 ≡ passed_to q (record { free = free; live = live; queue = q; granted = granted; cut = cut; closed = closed; wakes = wakes })
  given_by [] free live granted cut closed wakes a one idle =
      let none : free ≡ 0 = idle refl in
      let f : free + left_over {A = Waiter W} [] 1 ≡ 1 = omega arith in
      let l : live - 1 + 1 - paid_to_debts {W = W} [] 1 ≡ live = omega arith in
      λ i. record { free = f i; live = l i; queue = []; granted = granted; cut = cut; closed = closed; wakes = append-nil wakes i }
  given_by ((Acquires k d w, lack) ∷ q) free live granted cut closed wakes a one idle =
      let is_one : lack ≡ 1 = a.1 in
      let sum : lacks {A = Waiter W} ((Acquires k d w, lack) ∷ q) ≡ lack + lacks q = sum_by-cons {X = Waiter W × ℕ} (λ e. e.1) (Acquires k d w, lack) q in
      let f : free + left_over {A = Waiter W} ((Acquires k d w, lack) ∷ q) 1 ≡ free = omega arith in
      let none : debts ((Acquires k d w, lack) ∷ q) ≡ 0 = debtless q a.2 in
      let l : live - 1 + 1 - paid_to_debts ((Acquires k d w, lack) ∷ q) 1 ≡ live = omega arith in
      let behind_it : waiting_after ((Acquires k d w, lack) ∷ q) 1 ≡ q = waits_behind k d lack w q a in
      let it : granted_in ((Acquires k d w, lack) ∷ q) 1 ≡ Acquires k d w ∷ [] = first_granted k d lack w q a in
      let g : granting granted (granted_in ((Acquires k d w, lack) ∷ q) 1) ≡ map.insert granted k 1 = ap (granting granted) it ∙ ap (λ x. map.insert granted k x) a.0 in
      λ i. record { free = f i; live = l i; queue = behind_it i; granted = g i; cut = cut; closed = closed; wakes = ap (λ es. wakes ++ wakers_of es) it i }
  given_by ((Owes, lack) ∷ q) free live granted cut closed wakes a one idle = absurd a

  pub given : (s : Core W) → AskForOne s.queue → s.live ≡ 1 → (s.queue ≡ [] → s.free ≡ 0) → given_back s 1 ≡ passed_on s
  given s a one idle = given_by s.queue s.free s.live s.granted s.cut s.closed s.wakes a one idle

  asks_passed : (q : List (Waiter W × ℕ)) (s : Core W) → s.queue ≡ q → AskForOne q → AskForOne (passed_to q s).queue
  asks_passed [] s is a = subst AskForOne (sym is) a
  asks_passed ((Acquires k d w, lack) ∷ q) s is a = a.2
  asks_passed ((Owes, lack) ∷ q) s is a = absurd a

  -- who holds the permit and gives it back
  pub gives : (s s' : Core W) → IsPermit s → 1 ≤ held_of s → s' ≡ given_back s 1 → s' ≡ passed_on s
  gives s s' is held given_is =
      let total : s.free + held_of s + paid_of s ≡ s.live = is.sound.total in
      let one : s.live ≡ 1 = is.one in
      let none : s.free ≡ 0 = omega arith in
      given_is ∙ given s is.asks is.one (λ _. none)

  pub stays_permit : (s s' : Core W) → IsPermit s → core.IsSound s' → Steady s s' → AskForOne s'.queue → IsPermit s'
  stays_permit s s' is sound steady asks = record { sound = sound; one = steady.live (ones_no_debt s.queue is.asks) ∙ is.one; asks = asks; is_open = steady.closed ∙ is.is_open }

  pub gives_permit : (s s' : Core W) → IsPermit s → 1 ≤ held_of s → s' ≡ given_back s 1 → core.IsSound s' → Steady s s' → IsPermit s'
  gives_permit s s' is held given_is sound steady =
      stays_permit s s' is sound steady (subst (λ (t : Core W). AskForOne t.queue) (sym (gives s s' is held given_is)) (asks_passed s.queue s refl is.asks))

  -- ---- polls
  pub asks_polled : (stage : CellStage) (s s' : Core W) (a' : Acquire) (w : W) (r : Result (Turn W) (W × NoMemory)) → AskForOne s.queue → MayAsk s stage → Polls s (acquire_of stage) w r s' a' → AskForOne s'.queue
  asks_polled New s s' a' w r asks may polls = by_free (ready_or s.free)
    where
      ready_or : (n : ℕ) → (1 ≤ n) ⊎ (n < 1)
      ready_or n = elim (cases_lt n 1) [ inl low ↦ inr low | inr high ↦ inl (omega arith) ]

      by_turn : (r : Result (Turn W) (W × NoMemory)) → s.free < 1 → MatchResult r (λ turn. (turn ≡ Pending) × ((number : ℕ) × Queues s s' 1 w number × (a' ≡ acquire.Queued 1 number))) (λ e. (e.0 ≡ w) × (s' ≡ s) × (a' ≡ acquire.New 1)) → AskForOne s'.queue
      by_turn (Ok turn) low h =
          let queued = h.1.1 in
          subst AskForOne (sym (ap (λ (t : Core W). t.queue) queued.is)) (ones_append s.queue h.1.0 (1 - s.free) w (omega arith) asks)
      by_turn (Err e) low h = subst AskForOne (sym (ap (λ (t : Core W). t.queue) h.1)) asks

      by_free : (1 ≤ s.free) ⊎ (s.free < 1) → AskForOne s'.queue
      by_free (inl high) = subst AskForOne (sym (ap (λ (t : Core W). t.queue) (polls.0 high).1)) asks
      by_free (inr low) = by_turn r low (polls.1 low)
  asks_polled (Queued n) s s' a' w r asks (inl next) polls = subst AskForOne (sym (ap (λ (t : Core W). t.queue) (polls.0 next).1)) asks
  asks_polled (Queued n) s s' a' w r asks (inr waits) polls = subst AskForOne (sym (ap (λ (t : Core W). t.queue) (polls.1 waits).1)) (ones_rewaked s.queue n w asks)
  asks_polled Running s s' a' w r asks may polls = absurd may
  asks_polled Done s s' a' w r asks may polls = absurd may

  -- ---- ends
  pub lack_is_one : (q : List (Waiter W × ℕ)) (n d lack : ℕ) → AskForOne q → waiting q n ≡ Some (d, lack) → lack ≡ 1
  lack_is_one [] n d lack a h = absurd (cc)
  lack_is_one ((Acquires m e u, l) ∷ q) n d lack a h = by_test (m == n) (lack_is_one q n d lack a.2) h
    where
      by_test : (b : Bool) → (waiting q n ≡ Some (d, lack) → lack ≡ 1) → cond b (Some (e, l)) (waiting q n) ≡ Some (d, lack) → lack ≡ 1
      by_test true rest there = let both : (e, l) ≡ (d, lack) = ap (λ y. unwrap_or y (e, l)) there in sym (ap (λ (z : ℕ × ℕ). z.1) both) ∙ a.1
      by_test false rest there = rest there
  lack_is_one ((Owes, l) ∷ q) n d lack a h = absurd a

  pub cancelled_next : (s s' : Core W) (n : ℕ) → IsPermit s → core.IsSound s' → Steady s s' → Cancels s (acquire.Queued 1 n) s' → IsNext s n → s' ≡ passed_on (record s { granted = map.remove s.granted n })
  cancelled_next s s' n is sound steady cancels next =
      cancels.0 next ∙ given (record s { granted = map.remove s.granted n }) is.asks is.one (λ empty. none empty)
    where
      none : s.queue ≡ [] → s.free ≡ 0
      none empty =
          let one : s.live ≡ 1 = is.one in
          let live : s'.live ≡ s.live = steady.live (ones_no_debt s.queue is.asks) in
          let total : s'.free + held_of s' + paid_of s' ≡ s'.live = sound.total in
          let left : left_over s.queue 1 ≡ 1 = ap (λ q. left_over q 1) empty in
          let frees : s'.free ≡ s.free + left_over s.queue 1 = ap (λ (t : Core W). t.free) (cancels.0 next) in
          omega arith

  pub cancelled_waiting : (s s' : Core W) (n : ℕ) → IsPermit s → Cancels s (acquire.Queued 1 n) s' → IsWaiting s n → s' ≡ record s { queue = without_acquire s.queue n }
  cancelled_waiting s s' n is cancels waits =
      let one : waits.0 ≡ 1 = lack_is_one s.queue n 1 waits.0 is.asks waits.1 in
      let paid : 1 - waits.0 ≡ 0 = omega arith in
      let live : s.live - (1 - waits.0) ≡ s.live = omega arith in
      cancels.1 waits.0 waits.1
      ∙ ap (λ p. poured (record s { live = s.live - p; queue = without_acquire s.queue n }) p) paid
      ∙ ap (λ l. poured (record s { live = l; queue = without_acquire s.queue n }) 0) (sub_zero s.live)
      ∙ poured_nothing (without_acquire s.queue n) s.free s.live s.granted s.cut s.closed s.wakes (ones_without s.queue n is.asks)
    where
      sub_zero : (m : ℕ) → m - 0 ≡ m
      sub_zero m = omega arith

  pub cancelled : (s s' : Core W) (n : ℕ) → IsPermit s → core.IsSound s' → Steady s s' → Cancels s (acquire.Queued 1 n) s' → Leaves s (Queued n) s'
  cancelled s s' n is sound steady cancels = (cancelled_next s s' n is sound steady cancels, cancelled_waiting s s' n is cancels)

  pub cancelled_permit : (s s' : Core W) (n : ℕ) → IsPermit s → core.IsSound s' → Steady s s' → Cancels s (acquire.Queued 1 n) s' → IsNext s n ⊎ IsWaiting s n → IsPermit s'
  cancelled_permit s s' n is sound steady cancels (inl next) =
      stays_permit s s' is sound steady (subst (λ (t : Core W). AskForOne t.queue) (sym (cancelled_next s s' n is sound steady cancels next)) (asks_passed s.queue (record s { granted = map.remove s.granted n }) refl is.asks))
  cancelled_permit s s' n is sound steady cancels (inr waits) =
      stays_permit s s' is sound steady (subst (λ (t : Core W). AskForOne t.queue) (sym (cancelled_waiting s s' n is cancels waits)) (ones_without s.queue n is.asks))

  -- ---- how many wait and are woken
  abbrev count_of : Core W → ℕ
  count_of s = length s.queue + length s.wakes

  few_passed : (q : List (Waiter W × ℕ)) (s : Core W) → s.queue ≡ q → count_of (passed_to q s) ≤ count_of s
  few_passed [] s is = omega arith
  few_passed ((Acquires k d w, lack) ∷ q) s is =
      let queue : length s.queue ≡ suc (length q) = ap length is in
      let wakes : length (s.wakes ++ w ∷ []) ≡ length s.wakes + 1 = length-append s.wakes (w ∷ []) in
      omega arith
  few_passed ((Owes, lack) ∷ q) s is = omega arith

  pub few_gives : (s s' : Core W) → IsPermit s → 1 ≤ held_of s → s' ≡ given_back s 1 → length s'.queue + length s'.wakes ≤ length s.queue + length s.wakes
  few_gives s s' is held given_is = subst (λ (t : Core W). count_of t ≤ count_of s) (sym (gives s s' is held given_is)) (few_passed s.queue s refl)

  pub few_polled : (stage : CellStage) (s s' : Core W) (a' : Acquire) (w : W) (r : Result (Turn W) (W × NoMemory)) → MayAsk s stage → Polls s (acquire_of stage) w r s' a'
      → length s'.queue + length s'.wakes ≤ length s.queue + length s.wakes + asks_more s stage
  few_polled New s s' a' w r may polls = by_free (ready_or s.free)
    where
      ready_or : (n : ℕ) → (1 ≤ n) ⊎ (n < 1)
      ready_or n = elim (cases_lt n 1) [ inl low ↦ inr low | inr high ↦ inl (omega arith) ]

      same : (t : Core W) → s' ≡ t → count_of t ≡ count_of s → count_of s' ≤ count_of s + asks_more s New
      same t is count = let here : count_of s' ≡ count_of t = ap count_of is in omega arith

      by_turn : (r : Result (Turn W) (W × NoMemory)) → s.free < 1 → MatchResult r (λ turn. (turn ≡ Pending) × ((number : ℕ) × Queues s s' 1 w number × (a' ≡ acquire.Queued 1 number))) (λ e. (e.0 ≡ w) × (s' ≡ s) × (a' ≡ acquire.New 1)) → count_of s' ≤ count_of s + asks_more s New
      by_turn (Ok turn) low h =
          let is : count_of s' ≡ length (s.queue ++ (Acquires h.1.0 1 w, 1 - s.free) ∷ []) + length s.wakes = ap count_of h.1.1.is in
          let more : length (s.queue ++ (Acquires h.1.0 1 w, 1 - s.free) ∷ []) ≡ length s.queue + 1 = length-append s.queue ((Acquires h.1.0 1 w, 1 - s.free) ∷ []) in
          let one : asks_more s New ≡ 1 = one_at_0 s.free low in
          omega arith
      by_turn (Err e) low h = same s h.1 refl

      by_free : (1 ≤ s.free) ⊎ (s.free < 1) → count_of s' ≤ count_of s + asks_more s New
      by_free (inl high) = same (record s { free = s.free - 1 }) (polls.0 high).1 refl
      by_free (inr low) = by_turn r low (polls.1 low)
  few_polled (Queued n) s s' a' w r (inl next) polls = let is : count_of s' ≡ count_of s = ap count_of (polls.0 next).1 in omega arith
  few_polled (Queued n) s s' a' w r (inr waits) polls =
      let is : count_of s' ≡ length (with_waker s.queue n w) + length s.wakes = ap count_of (polls.1 waits).1 in
      let same : length (with_waker s.queue n w) ≡ length s.queue = length-rewaked s.queue n w in
      omega arith
  few_polled Running s s' a' w r may polls = absurd may
  few_polled Done s s' a' w r may polls = absurd may

  pub few_cancelled : (s s' : Core W) (n : ℕ) → Leaves s (Queued n) s' → IsNext s n ⊎ IsWaiting s n → length s'.queue + length s'.wakes ≤ length s.queue + length s.wakes
  few_cancelled s s' n leaves (inl next) = subst (λ (t : Core W). count_of t ≤ count_of s) (sym (leaves.0 next)) (few_passed s.queue (record s { granted = map.remove s.granted n }) refl)
  few_cancelled s s' n leaves (inr waits) =
      let is : count_of s' ≡ length (without_acquire s.queue n) + length s.wakes = ap count_of (leaves.1 waits) in
      let less : length (without_acquire s.queue n) ≤ length s.queue = length-without s.queue n in
      omega arith
