-- what the steps of the senders' semaphore keep
use Rattle.std.proofs.Common.{◌≡◌, ◌≢◌, ◌∙◌, ℕ, zero, suc, ◌+◌, ◌-◌, ◌≤◌, ◌<◌, ◌++◌, inl, inr, false, List, [], ◌∷◌, take, drop, length, length-append, refl, ap, sym, subst, arith, append-nil, ◌↔◌, Result, Ok, Err, IsErr, OnOk}
use Rattle.std.specs.Prelude.{map as map_list}
use Rattle.std.specs.FinMap as map
use Rattle.mea_base.specs.Queue.{lacks, waiting_after, granted_in, left_over}
use Rattle.mea_base.specs.declared.no_memory.NoMemory.{NoMemory}
use Rattle.mea_base.specs.declared.turn.Turn.{Turn}
use Rattle.mea_sem_core.specs.Acquire.{demand_of}
use Rattle.mea_sem_core.specs.Core.{Waiter, Acquires, Core, poured, granting, wakers_of, debts, paid_to_debts}
use Rattle.mea_sem_core.specs.Calls.{Belongs, StandsAs, IsCutAs, Polls, Queues, Cancels, Loses}
use Rattle.mea_sem_core.specs.Ones.{AskForOne}
use Rattle.mea_sem_core.specs.declared.acquire.Acquire.{Acquire}
use Rattle.mea_sem_core.specs.declared.acquire.Acquire.TheVariants.{New, Queued, Done, Refused}
use Rattle.mea_sem_core.proofs.Ones.{ones_debts, ones_lacks, ones_left, ones_granted, wakers_of_ones, ones_drop, ones_take, ones_append, ones_rewaked, ones_without, length-rewaked, length-without}
use Rattle.mea_chan_core.specs.Channel.{IsSenders}
use Rattle.mea_chan_core.specs.Bounded.{made_way, made_way_for, without_free, IsOut, IsIn}

module _ {W : Type 0} where
  -- a step keeps the senders' semaphore one once its wakers were handed on, and these come out of the queue
  pub record Stays (s s' : Core W) : Type 0 where
    pub senders : IsSenders (record s' { wakes = [] })
    pub room : length s'.queue + length s'.wakes ≤ length s.queue

  length-pour : (q : List (Waiter W × ℕ)) (n : ℕ) → length (take n q) + length (drop n q) ≡ length q
  length-pour q zero = by_list q
    where
      by_list : (q : List (Waiter W × ℕ)) → length (take 0 q) + length (drop 0 q) ≡ length q
      by_list [] = omega arith
      by_list (e ∷ q) = omega arith
  length-pour [] (suc n) = omega arith
  length-pour (e ∷ q) (suc n) = omega (arith, length-pour q n)

  -- n permits are poured into a queue of which this many live
  pub pours : (s t : Core W) (n : ℕ) → IsSenders s → t.closed ≡ false → AskForOne t.queue → length t.queue ≤ length s.queue → t.wakes ≡ []
      → t.live + n + length (drop n t.queue) < 18446744073709551615 → Stays s (poured t n)
  pours s t n is is_open ones within quiet few =
      let left : waiting_after t.queue n ≡ drop n t.queue = ones_left t.queue n ones in
      let who : granted_in t.queue n ≡ map_list {A = Waiter W × ℕ} (λ e. e.0) (take n t.queue) = ones_granted t.queue n ones in
      let woken : length (wakers_of (granted_in t.queue n)) ≡ length (take n t.queue) = ap (λ es. length (wakers_of es)) who ∙ wakers_of_ones (take n t.queue) (ones_take t.queue n ones) in
      let waits : length (waiting_after t.queue n) ≡ length (drop n t.queue) = ap length left in
      let none : debts t.queue ≡ 0 = ones_debts t.queue ones in
      let wakes : length (t.wakes ++ wakers_of (granted_in t.queue n)) ≡ length (take n t.queue) = ap (λ ws. length (ws ++ wakers_of (granted_in t.queue n))) quiet ∙ woken in
      record {
        senders = record {
          is_open = is_open;
          ones = subst AskForOne (sym left) (ones_drop t.queue n ones);
          few = omega (arith, waits, none, few);
          quiet = refl;
        };
        room = omega (arith, waits, wakes, length-pour t.queue n, within);
      }

  shorter : (q : List (Waiter W × ℕ)) → q ≢ [] → length (drop 1 q) + 1 ≡ length q
  shorter [] some = absurd (some refl)
  shorter (e ∷ q) some = omega arith

  length-drop-all : (q : List (Waiter W × ℕ)) → length (drop (length q) q) ≡ 0
  length-drop-all [] = refl
  length-drop-all (e ∷ q) = length-drop-all q

  pub quiet_still : (s : Core W) → IsSenders s → Stays s s
  quiet_still s is = record { senders = record { is_open = is.is_open; ones = is.ones; few = is.few; quiet = refl }; room = let none : length s.wakes ≡ 0 = ap length is.quiet in omega arith }

  -- a place comes free
  pub makes_way : (s s' : Core W) → IsSenders s → (s.queue ≢ [] → s' ≡ poured s 1) → (s.queue ≡ [] → s' ≡ s) → Stays s s' × (s' ≡ made_way s)
  makes_way s s' is waits idle = by_queue s.queue refl
    where
      by_queue : (q : List (Waiter W × ℕ)) → s.queue ≡ q → Stays s s' × (s' ≡ made_way_for q s)
      by_queue [] none = (subst (Stays s) (sym (idle none)) (quiet_still s is), idle none)
      by_queue (e ∷ q) some =
          let differs : s.queue ≢ [] = λ none. absurd (let no = sym some ∙ none in cc) in
          let is_poured = waits differs in
          (subst (Stays s) (sym is_poured) (pours s s 1 is is.is_open is.ones (omega arith) is.quiet (omega (arith, shorter s.queue differs, is.few))), is_poured)

  -- all who wait are granted
  pub wakes_all : (s s' : Core W) → IsSenders s → s' ≡ poured s (lacks s.queue) → Stays s s'
  wakes_all s s' is is_poured =
      let count : lacks s.queue ≡ length s.queue = ones_lacks s.queue is.ones in
      let none : length (drop (lacks s.queue) s.queue) ≡ 0 = ap (λ n. length (drop n s.queue)) count ∙ length-drop-all s.queue in
      subst (Stays s) (sym is_poured) (pours s s (lacks s.queue) is is.is_open is.ones (omega arith) is.quiet (omega (arith, none, count, is.few)))

  -- an acquire that leaves, and makes no waker ready
  pub record Quiet (s s' : Core W) : Type 0 where
    pub senders : IsSenders s'
    pub room : length s'.queue ≤ length s.queue

  quietly : (s s' t : Core W) → s' ≡ t → IsSenders t → length t.queue ≤ length s.queue → Quiet s s'
  quietly s s' t is senders room = subst (Quiet s) (sym is) (record { senders = senders; room = room })

  -- a senders' semaphore cuts nobody
  no_cut : (s : Core W) → IsSenders s → (demand number : ℕ) → IsCutAs s demand number → ⊥
  no_cut s is demand number cut = let no = sym is.is_open ∙ cut.0 in absurd (cc)

  -- an acquire that was polled and not granted waits
  pub waits_open : (s : Core W) (a : Acquire) → IsSenders s → StandsAs s a false → (demand number : ℕ) → a ≡ Queued demand number → IsIn s a
  waits_open s (New _) is stands demand number same = absurd (cc)
  waits_open s (Done _) is stands demand number same = absurd (cc)
  waits_open s (Refused _) is stands demand number same = absurd (cc)
  waits_open s (Queued d n) is stands demand number same = elim stands.0 [
    | inl waits ↦ (waits, stands.1)
    | inr cut ↦ absurd (no_cut s is d n cut)
  ]

  pub loses_keeps : (s s' : Core W) (a : Acquire) → IsSenders s → Belongs s a → Loses s a s' → Quiet s s'
  loses_keeps s s' (New _) is belongs same = quietly s s' s same is (omega arith)
  loses_keeps s s' (Done _) is belongs same = quietly s s' s same is (omega arith)
  loses_keeps s s' (Refused _) is belongs same = quietly s s' s same is (omega arith)
  loses_keeps s s' (Queued demand number) is (inl (inl granted)) loses =
      quietly s s' _ (loses.0 granted) (record { is_open = is.is_open; ones = is.ones; few = omega (arith, is.few); quiet = is.quiet }) (omega arith)
  loses_keeps s s' (Queued demand number) is (inl (inr waits)) loses =
      quietly s s' _ (loses.1 waits.0 waits.1)
      (record { is_open = is.is_open; ones = ones_without s.queue number is.ones; few = omega (arith, length-without s.queue number, is.few); quiet = is.quiet })
      (length-without s.queue number)
  loses_keeps s s' (Queued demand number) is (inr cut) loses = absurd (no_cut s is demand number cut)

  -- an acquire ends, and what it was paid, at most one permit, is poured
  pours_back : (s t : Core W) (n : ℕ) → IsSenders s → t.closed ≡ false → n ≤ 1 → t.live ≡ s.live - n → AskForOne t.queue → length t.queue ≤ length s.queue → t.wakes ≡ [] → Stays s (poured t n)
  pours_back s t zero is is_open one live ones within quiet = pours s t 0 is is_open ones within quiet (omega (arith, length-pour t.queue 0, is.few))
  pours_back s t (suc k) is is_open one live ones within quiet = let last : k ≡ 0 = omega arith in rw last (pours s t 1 is is_open ones within quiet (by_queue t.queue within))
    where
      by_queue : (q : List (Waiter W × ℕ)) → length q ≤ length s.queue → t.live + 1 + length (drop 1 q) < 18446744073709551615
      by_queue [] less = omega (arith, is.few)
      by_queue (e ∷ q) less = omega (arith, is.few)

  pub cancels_keeps : (s s' : Core W) (a : Acquire) → IsSenders s → demand_of a ≡ 1 → Belongs s a → Cancels s a s' → Stays s s'
  cancels_keeps s s' (New _) is one belongs same = subst (Stays s) (sym same) (quiet_still s is)
  cancels_keeps s s' (Done _) is one belongs same = subst (Stays s) (sym same) (quiet_still s is)
  cancels_keeps s s' (Refused _) is one belongs same = subst (Stays s) (sym same) (quiet_still s is)
  cancels_keeps s s' (Queued demand number) is one (inl (inl granted)) cancels =
      subst (Stays s) (sym (cancels.0 granted)) (pours_back s _ demand is is.is_open (omega arith) refl is.ones (omega arith) is.quiet)
  cancels_keeps s s' (Queued demand number) is one (inl (inr waits)) cancels =
      subst (Stays s) (sym (cancels.1 waits.0 waits.1))
      (pours_back s _ (demand - waits.0) is is.is_open (omega arith) refl (ones_without s.queue number is.ones) (length-without s.queue number) is.quiet)
  cancels_keeps s s' (Queued demand number) is one (inr cut) cancels = absurd (no_cut s is demand number cut)

  -- an acquire that waits gets another waker
  pub rewakes_there : (s s' : Core W) (a a' : Acquire) (w : W) (r : Result (Turn W) (W × NoMemory)) → IsSenders s → IsIn s a → Polls s a w r s' a' → Quiet s s'
  rewakes_there s s' (New _) a' w r is waits polls = absurd waits
  rewakes_there s s' (Done _) a' w r is waits polls = absurd waits
  rewakes_there s s' (Refused _) a' w r is waits polls = absurd waits
  rewakes_there s s' (Queued demand number) a' w r is waits polls =
      quietly s s' _ (polls.1 waits.0).1
      (record { is_open = is.is_open; ones = ones_rewaked s.queue number w is.ones; few = omega (arith, length-rewaked s.queue number w, is.few); quiet = is.quiet })
      (omega (arith, length-rewaked s.queue number w))

  -- a send goes to the tail, and what it was granted is lost
  pub queues_anew : (s q q' : Core W) (old : Acquire) (number : ℕ) (w : W) → IsSenders s → (s.live - s.free) + length s.queue + 1 < 18446744073709551615 → IsOut s old
      → Queues (without_free s) q 1 w number → Loses q old q' → IsSenders q' × (length q'.queue ≤ length s.queue + 1)
  queues_anew s q q' old number w is few out queues loses = by_acquire old out loses
    where
      tail : List (Waiter W × ℕ)
      tail = s.queue ++ (Acquires number 1 w, 1 - 0) ∷ []

      more : length tail ≡ length s.queue + 1
      more = length-append s.queue ((Acquires number 1 w, 1 - 0) ∷ [])

      one : 1 - 0 ≡ 1
      one = omega arith

      queued : IsSenders q × (length q.queue ≤ length s.queue + 1)
      queued = subst (λ (t : Core W). IsSenders t × (length t.queue ≤ length s.queue + 1)) (sym queues.is)
          (record { is_open = is.is_open; ones = ones_append s.queue number (1 - 0) w one is.ones; few = omega (arith, few, more); quiet = is.quiet }, omega (arith, more))

      by_acquire : (old : Acquire) → IsOut s old → Loses q old q' → IsSenders q' × (length q'.queue ≤ length s.queue + 1)
      by_acquire (New _) out same = subst (λ (t : Core W). IsSenders t × (length t.queue ≤ length s.queue + 1)) (sym same) queued
      by_acquire (Done _) out same = subst (λ (t : Core W). IsSenders t × (length t.queue ≤ length s.queue + 1)) (sym same) queued
      by_acquire (Refused _) out same = subst (λ (t : Core W). IsSenders t × (length t.queue ≤ length s.queue + 1)) (sym same) queued
      by_acquire (Queued demand m) out loses =
          let still = ap (λ (t : Core W). map.get t.granted m) queues.is ∙ out in
          subst (λ (t : Core W). IsSenders t × (length t.queue ≤ length s.queue + 1)) (sym (loses.0 still))
          (record { is_open = queued.0.is_open; ones = queued.0.ones; few = let fits = queued.0.few in omega arith; quiet = queued.0.quiet }, queued.1)

  -- an acquire that was out of the queue is still one of the semaphore
  pub still_out : (s q : Core W) (old : Acquire) (number : ℕ) (w : W) → IsOut s old → Queues (without_free s) q 1 w number → Belongs q old
  still_out s q (New _) number w out queues = tt
  still_out s q (Done _) number w out queues = tt
  still_out s q (Refused _) number w out queues = ap (λ (t : Core W). t.closed) queues.is ∙ out
  still_out s q (Queued demand m) number w out queues = inl (inl (ap (λ (t : Core W). map.get t.granted m) queues.is ∙ out))

  -- permits that were lost and come back
  restores : (s : Core W) (k : ℕ) → IsSenders s → k ≤ s.free → k ≤ s.live → (0 < s.free → s.queue ≡ []) → poured (record s { free = s.free - k; live = s.live - k }) k ≡ s
  restores s k is free live idle =
      let none : debts s.queue ≡ 0 = ones_debts s.queue is.ones in
      let left : drop k s.queue ≡ s.queue = by_number k free in
      let queue : waiting_after s.queue k ≡ s.queue = ones_left s.queue k is.ones ∙ left in
      let nobody : granted_in s.queue k ≡ [] = ones_granted s.queue k is.ones ∙ ap (λ es. map_list {A = Waiter W × ℕ} (λ e. e.0) es) (taken k free) in
      let count : lacks s.queue ≡ length s.queue = ones_lacks s.queue is.ones in
      let over : k - lacks s.queue ≡ k = all_over k free count in
      let free' : s.free - k + left_over s.queue k ≡ s.free = omega arith in
      let live' : s.live - k + k - paid_to_debts s.queue k ≡ s.live = omega arith in
      let wakes : s.wakes ++ wakers_of (granted_in s.queue k) ≡ s.wakes = ap (λ es. s.wakes ++ wakers_of es) nobody ∙ append-nil s.wakes in
      λ i. record s { free = free' i; live = live' i; queue = queue i; granted = granting s.granted (nobody i); wakes = wakes i }
    where
      empty : (k : ℕ) → suc k ≤ s.free → s.queue ≡ []
      empty k some = idle (omega arith)

      by_number : (k : ℕ) → k ≤ s.free → drop k s.queue ≡ s.queue
      by_number zero some = refl
      by_number (suc k) some = ap (drop (suc k)) (empty k some) ∙ sym (empty k some)

      taken : (k : ℕ) → k ≤ s.free → take k s.queue ≡ []
      taken zero some = none_taken s.queue
        where
          none_taken : (q : List (Waiter W × ℕ)) → take 0 q ≡ []
          none_taken [] = refl
          none_taken (e ∷ q) = refl
      taken (suc k) some = ap (take (suc k)) (empty k some)

      all_over : (k : ℕ) → k ≤ s.free → lacks s.queue ≡ length s.queue → k - lacks s.queue ≡ k
      all_over zero some count = omega arith
      all_over (suc k) some count = let nobody : length s.queue ≡ 0 = ap length (empty k some) in omega arith

  -- the release of what was lost succeeds, and undoes it
  pub undone : (s t u : Core W) (k : ℕ) {X Y : Type 0} (r : Result X Y) → IsSenders s → k ≤ s.free → k ≤ s.live → (0 < s.free → s.queue ≡ []) → t ≡ record s { free = s.free - k; live = s.live - k }
      → (IsErr r ↔ (18446744073709551615 < t.live + k)) → OnOk r (u ≡ poured t k) → u ≡ s
  undone s t u k (Ok _) is free live idle lost over ok = ok ∙ ap (λ (x : Core W). poured x k) lost ∙ restores s k is free live idle
  undone s t u k (Err e) is free live idle lost over ok = absurd (let passes = over.0 refl in let size : t.live ≡ s.live - k = ap (λ (x : Core W). x.live) lost in omega (arith, is.few))
