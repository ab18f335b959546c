-- what the calls of a semaphore do to the places that it stands for
use Rattle.std.proofs.Common.{◌≡◌, ◌≢◌, ◌∙◌, ℕ, ◌+◌, ◌-◌, ◌<◌, ◌≤◌, ◌==◌, ◌&&◌, ◌++◌, ◌⊎◌, inl, inr, Bool, true, false, cond, List, [], ◌∷◌, Some, None, Result, Ok, Err, MatchResult, refl, ap, sym, subst, arith}
use Rattle.std.proofs.lemmas.Bool.{cases_lt, cases_Bool}
use Rattle.std.proofs.lemmas.Bool.Decides.{nat_tests}
use Rattle.std.specs.Prelude.{IsSome, IsTrue, IfOk, OnErr, ◌↔◌}
use Rattle.std.specs.Ordering.{nat_cmp, eq_by_cmp}
use Rattle.std.specs.Cmp.{nat_cmp_total}
use Rattle.std.specs.FinMap as map
use Rattle.std.specs.FinMap.{get-empty, get-remove}
use Rattle.mea_base.specs.declared.no_memory.NoMemory.{NoMemory}
use Rattle.mea_sem_core.specs.Core as core
use Rattle.mea_sem_core.specs.Core.{Waiter, Acquires, Owes, Core, held_of, paid_of, poured, closed_core, waiting, CutsWhereClosed}
use Rattle.mea_sem_core.specs.Calls.{Belongs, IsGrantedAs, IsWaitingAs, IsCutAs, Queues, PollsOpen, HoldsOpen, Steady, Cancels, without_acquire, given_back}
use Rattle.mea_sem_core.specs.declared.acquire.Acquire.{Acquire}
use Rattle.mea_sem_core.specs.declared.acquire.Acquire.TheVariants as acquire
use Rattle.mea_sem_core.specs.declared.open_turn.OpenTurn.{OpenTurn}
use Rattle.mea_sem_core.specs.declared.open_turn.OpenTurn.TheVariants.{Ready, Pending, Closed}
use Rattle.mea_sem_core.specs.Ones.{AskForOne}
use Rattle.mea_sem_core.proofs.Ones.{ones_no_debt, ones_append, ones_rewaked, ones_without, poured_nothing}
use Rattle.mea_lock_core.specs.Condvar.{waker_under, with_waker, without_wait}
use Rattle.mea_pool_core.specs.declared.lease_wait.LeaseWait.{LeaseWait}
use Rattle.mea_pool_core.specs.declared.lease_wait.LeaseWait.TheVariants.{New, Queued, Done, Refused}
use Rattle.mea_pool_core.specs.Waits.{acquire_of, wait_of}
use Rattle.mea_pool_core.specs.Places.{Places, leases_of, places_of, IsPlaces, taken_of, are_drained, Fits, WaitsLast, PollsPlace, FindsPlace, TriesPlace, place_for, with_place, CancelsPlace, closed_places}
use Rattle.mea_pool_core.proofs.Lines.{inserted, removed, leases_last, leases_rewaked, leases_without, waits_one, waits_some, waits_none, first_waits, passed_to, given, closes}

abbrev AnswerOf : Type 0 → Type 0
AnswerOf W = Result (OpenTurn W) (W × NoMemory)

all_free : (free taken live : ℕ) → free + taken ≡ live → (free == live) ≡ (taken == 0)
all_free free taken live sum = grind (arith, nat_tests)

module _ {W : Type 0} where
  -- places, part by part
  viewed : (s : Core W) (t : Places W) → s.live ≡ t.size → held_of s ≡ t.held → leases_of s.queue ≡ t.waiting → s.granted ≡ t.granted → s.cut ≡ t.cut → s.closed ≡ t.closed → s.wakes ≡ t.wakes → places_of s ≡ t
  viewed s t size held waits granted cut closed wakes = λ i. record { size = size i; held = held i; waiting = waits i; granted = granted i; cut = cut i; closed = closed i; wakes = wakes i }

  -- a place comes back at places of which one more is taken than a lease or a grant has
  pub comes_back : (t s' : Core W) (h : ℕ) → AskForOne t.queue → 1 ≤ t.live → s' ≡ given_back t 1 → core.IsSound s' → t.free + h + map.len t.granted + 1 ≡ t.live → held_of s' ≡ h
      → ((n : ℕ) → waiting t.queue n ≢ None → map.get t.granted n ≡ None) → IsPlaces s' × (places_of s' ≡ with_place (record (places_of t) { held = h }))
  comes_back t s' h ones lives back sound counted held apart = by_queue t.queue refl ones (back ∙ given t ones lives)
    where
      by_queue : (q : List (Waiter W × ℕ)) → t.queue ≡ q → AskForOne q → s' ≡ passed_to q t → IsPlaces s' × (places_of s' ≡ with_place (record (places_of t) { held = h }))
      by_queue [] is a passed =
          let free : s'.free ≡ t.free + 1 = ap (λ (s : Core W). s.free) passed in
          let live : s'.live ≡ t.live = ap (λ (s : Core W). s.live) passed in
          let queue : s'.queue ≡ t.queue = ap (λ (s : Core W). s.queue) passed in
          let granted : s'.granted ≡ t.granted = ap (λ (s : Core W). s.granted) passed in
          let same : map.len s'.granted ≡ map.len t.granted = ap map.len granted in (
            record { sound = sound; ones = subst AskForOne (sym queue) ones; counted = omega arith },
            viewed s' (record (places_of t) { held = h }) live held (ap leases_of queue) granted (ap (λ (s : Core W). s.cut) passed) (ap (λ (s : Core W). s.closed) passed) (ap (λ (s : Core W). s.wakes) passed)
                ∙ sym (ap (λ (es : List (Waiter W × ℕ)). place_for (leases_of es) (record (places_of t) { held = h })) is),
          )
      by_queue ((Acquires n d w, lack) ∷ q) is a passed =
          let free : s'.free ≡ t.free = ap (λ (s : Core W). s.free) passed in
          let live : s'.live ≡ t.live = ap (λ (s : Core W). s.live) passed in
          let queue : s'.queue ≡ q = ap (λ (s : Core W). s.queue) passed in
          let granted : s'.granted ≡ map.insert t.granted n 1 = ap (λ (s : Core W). s.granted) passed in
          let waits : waiting t.queue n ≡ Some (d, lack) = ap (λ (es : List (Waiter W × ℕ)). waiting es n) is ∙ first_waits q n d lack w in
          let fresh : map.get t.granted n ≡ None = apart n (λ none. let both : Some (d, lack) ≡ None = sym waits ∙ none in cc) in
          let more : map.len s'.granted ≡ map.len t.granted + 1 = ap map.len granted ∙ inserted t.granted n 1 fresh in (
            record { sound = sound; ones = subst AskForOne (sym queue) a.2; counted = omega arith },
            viewed s' (place_for ((n, w) ∷ leases_of q) (record (places_of t) { held = h })) live held (ap leases_of queue) granted (ap (λ (s : Core W). s.cut) passed) (ap (λ (s : Core W). s.closed) passed) (ap (λ (s : Core W). s.wakes) passed)
                ∙ sym (ap (λ (es : List (Waiter W × ℕ)). place_for (leases_of es) (record (places_of t) { held = h })) is),
          )
      by_queue ((Owes, lack) ∷ q) is a passed = absurd a

  pub gives : (s s' : Core W) → IsPlaces s → 1 ≤ held_of s → s' ≡ given_back s 1 → core.IsSound s' → held_of s' + 1 ≡ held_of s → IsPlaces s' × (places_of s' ≡ with_place (record (places_of s) { held = held_of s - 1 }))
  gives s s' is holds back sound held =
      let counted : s.free + held_of s + map.len s.granted ≡ s.live = is.counted in
      let h : ℕ = held_of s - 1 in
      let all : s.free + h + map.len s.granted + 1 ≡ s.live = omega arith in
      comes_back s s' h is.ones (omega arith) back sound all (omega arith) is.sound.granted_apart

  -- ---- ends

  cancelled_granted : (s s' : Core W) (n : ℕ) → IsPlaces s → core.IsSound s' → held_of s' ≡ held_of s → Cancels s (acquire.Queued 1 n) s' → map.get s.granted n ≡ Some 1
      → IsPlaces s' × (places_of s' ≡ with_place (record (places_of s) { granted = map.remove s.granted n }))
  cancelled_granted s s' n is sound held cancels there =
      let less : map.len (map.remove s.granted n) + 1 ≡ map.len s.granted = removed s.granted n 1 there in
      let counted : s.free + held_of s + map.len s.granted ≡ s.live = is.counted in
      let t : Core W = record s { granted = map.remove s.granted n } in
      let all : s.free + held_of s + map.len (map.remove s.granted n) + 1 ≡ s.live = omega arith in
      comes_back t s' (held_of s) is.ones (omega arith) (cancels.0 there) sound all held (λ m waits. still m (is.sound.granted_apart m waits))
    where
      still : (m : ℕ) → map.get s.granted m ≡ None → map.get (map.remove s.granted n) m ≡ None
      still m none = get-remove nat_cmp_total s.granted n m ∙ both (eq_by_cmp nat_cmp m n)
        where
          both : (b : Bool) → cond b None (map.get s.granted m) ≡ None
          both true = refl
          both false = none

  cancelled_waiting : (s s' : Core W) (n : ℕ) → IsPlaces s → core.IsSound s' → held_of s' ≡ held_of s → Cancels s (acquire.Queued 1 n) s' → IsSome (waker_under (leases_of s.queue) n)
      → IsPlaces s' × (places_of s' ≡ record (places_of s) { waiting = without_wait (leases_of s.queue) n })
  cancelled_waiting s s' n is sound held cancels some =
      let same : s.live - (1 - 1) ≡ s.live = omega arith in
      let passed : s' ≡ record s { queue = without_acquire s.queue n } =
      cancels.1 1 (waits_one s.queue n is.ones some)
      ∙ ap (λ (l : ℕ). poured (record s { live = l; queue = without_acquire s.queue n }) 0) same
      ∙ poured_nothing (without_acquire s.queue n) s.free s.live s.granted s.cut s.closed s.wakes (ones_without s.queue n is.ones) in
      let free : s'.free ≡ s.free = ap (λ (t : Core W). t.free) passed in
      let live : s'.live ≡ s.live = ap (λ (t : Core W). t.live) passed in
      let queue : s'.queue ≡ without_acquire s.queue n = ap (λ (t : Core W). t.queue) passed in
      let granted : s'.granted ≡ s.granted = ap (λ (t : Core W). t.granted) passed in
      let counted : s.free + held_of s + map.len s.granted ≡ s.live = is.counted in
      let len : map.len s'.granted ≡ map.len s.granted = ap map.len granted in (
        record { sound = sound; ones = subst AskForOne (sym queue) (ones_without s.queue n is.ones); counted = omega arith },
        viewed s' (record (places_of s) { waiting = without_wait (leases_of s.queue) n }) live held (ap leases_of queue ∙ leases_without s.queue n) granted (ap (λ (t : Core W). t.cut) passed) (ap (λ (t : Core W). t.closed) passed) (ap (λ (t : Core W). t.wakes) passed),
      )

  -- a semaphore that was changed in what it has cut alone
  cut_changed : (s s' : Core W) (cut : map.FinMap _ ℕ) → IsPlaces s → core.IsSound s' → held_of s' ≡ held_of s → s' ≡ record s { cut = cut } → IsPlaces s' × (places_of s' ≡ record (places_of s) { cut = cut })
  cut_changed s s' cut is sound held passed =
      let free : s'.free ≡ s.free = ap (λ (t : Core W). t.free) passed in
      let live : s'.live ≡ s.live = ap (λ (t : Core W). t.live) passed in
      let queue : s'.queue ≡ s.queue = ap (λ (t : Core W). t.queue) passed in
      let granted : s'.granted ≡ s.granted = ap (λ (t : Core W). t.granted) passed in
      let counted : s.free + held_of s + map.len s.granted ≡ s.live = is.counted in
      let len : map.len s'.granted ≡ map.len s.granted = ap map.len granted in (
        record { sound = sound; ones = subst AskForOne (sym queue) is.ones; counted = omega arith },
        viewed s' (record (places_of s) { cut = cut }) live held (ap leases_of queue) granted (ap (λ (t : Core W). t.cut) passed) (ap (λ (t : Core W). t.closed) passed) (ap (λ (t : Core W). t.wakes) passed),
      )

  pub cancelled : (s s' : Core W) (a : LeaseWait) → IsPlaces s → core.IsSound s' → held_of s' ≡ held_of s → Cancels s (acquire_of a) s' → CancelsPlace (places_of s) a (places_of s')
  cancelled s s' New is sound held cancels = ap places_of cancels
  cancelled s s' (Queued n) is sound held cancels = (
    (λ there. (cancelled_granted s s' n is sound held cancels there).1),
    (λ some. (cancelled_waiting s s' n is sound held cancels some).1),
    (λ there. (cut_changed s s' (map.remove s.cut n) is sound held (cancels.2 there)).1),
  )
  cancelled s s' Done is sound held cancels = ap places_of cancels
  cancelled s s' Refused is sound held cancels = ap places_of cancels

  pub cancel_keeps : (s s' : Core W) (a : LeaseWait) → IsPlaces s → core.IsSound s' → held_of s' ≡ held_of s → Cancels s (acquire_of a) s' → Fits (places_of s) a → IsPlaces s'
  cancel_keeps s s' New is sound held cancels fits = subst IsPlaces (sym cancels) is
  cancel_keeps s s' (Queued n) is sound held cancels (inl (inl there)) = (cancelled_granted s s' n is sound held cancels there).0
  cancel_keeps s s' (Queued n) is sound held cancels (inl (inr some)) = (cancelled_waiting s s' n is sound held cancels some).0
  cancel_keeps s s' (Queued n) is sound held cancels (inr there) = (cut_changed s s' (map.remove s.cut n) is sound held (cancels.2 there)).0
  cancel_keeps s s' Done is sound held cancels fits = subst IsPlaces (sym cancels) is
  cancel_keeps s s' Refused is sound held cancels fits = subst IsPlaces (sym cancels) is

  -- ---- a close

  pub closed_as : (s s' : Core W) → IsPlaces s → s.closed ≡ false → core.IsSound s' → held_of s' ≡ held_of s → s' ≡ closed_core s → IsPlaces s' × (places_of s' ≡ closed_places (places_of s))
  closed_as s s' is opens sound held closing =
      let passed = closing ∙ closes s opens is.ones in
      let free : s'.free ≡ s.free = ap (λ (t : Core W). t.free) passed in
      let live : s'.live ≡ s.live = ap (λ (t : Core W). t.live) passed in
      let queue : s'.queue ≡ [] = ap (λ (t : Core W). t.queue) passed in
      let granted : s'.granted ≡ s.granted = ap (λ (t : Core W). t.granted) passed in
      let counted : s.free + held_of s + map.len s.granted ≡ s.live = is.counted in
      let len : map.len s'.granted ≡ map.len s.granted = ap map.len granted in (
        record { sound = sound; ones = subst AskForOne (sym queue) tt; counted = omega arith },
        viewed s' (closed_places (places_of s)) live held (ap leases_of queue) granted (ap (λ (t : Core W). t.cut) passed) (ap (λ (t : Core W). t.closed) passed) (ap (λ (t : Core W). t.wakes) passed),
      )

  -- ---- polls

  -- a place was taken by who had it granted or found it free
  taken_by : (s s' : Core W) (free : ℕ) (granted : map.FinMap _ ℕ) → IsPlaces s → core.IsSound s' → s' ≡ record s { free = free; granted = granted } → held_of s' ≡ held_of s + 1 → free + map.len granted + 1 ≡ s.free + map.len s.granted
      → IsPlaces s' × (places_of s' ≡ record (places_of s) { held = held_of s + 1; granted = granted })
  taken_by s s' free granted is sound passed held less =
      let free_is : s'.free ≡ free = ap (λ (t : Core W). t.free) passed in
      let live : s'.live ≡ s.live = ap (λ (t : Core W). t.live) passed in
      let queue : s'.queue ≡ s.queue = ap (λ (t : Core W). t.queue) passed in
      let granted_is : s'.granted ≡ granted = ap (λ (t : Core W). t.granted) passed in
      let counted : s.free + held_of s + map.len s.granted ≡ s.live = is.counted in
      let len : map.len s'.granted ≡ map.len granted = ap map.len granted_is in (
        record { sound = sound; ones = subst AskForOne (sym queue) is.ones; counted = omega arith },
        viewed s' (record (places_of s) { held = held_of s + 1; granted = granted }) live held (ap leases_of queue) granted_is (ap (λ (t : Core W). t.cut) passed) (ap (λ (t : Core W). t.closed) passed) (ap (λ (t : Core W). t.wakes) passed),
      )

  -- the queue alone has changed, where no place is free
  line_changed : (s s' : Core W) (free : ℕ) (q : List (Waiter W × ℕ)) (waits : List (ℕ × W)) → IsPlaces s → core.IsSound s' → s' ≡ record s { free = free; queue = q } → free ≡ s.free → AskForOne q → leases_of q ≡ waits → held_of s' ≡ held_of s
      → IsPlaces s' × (places_of s' ≡ record (places_of s) { waiting = waits })
  line_changed s s' free q waits is sound passed same ones leases held =
      let free_is : s'.free ≡ free = ap (λ (t : Core W). t.free) passed in
      let live : s'.live ≡ s.live = ap (λ (t : Core W). t.live) passed in
      let queue : s'.queue ≡ q = ap (λ (t : Core W). t.queue) passed in
      let granted_is : s'.granted ≡ s.granted = ap (λ (t : Core W). t.granted) passed in
      let counted : s.free + held_of s + map.len s.granted ≡ s.live = is.counted in
      let len : map.len s'.granted ≡ map.len s.granted = ap map.len granted_is in (
        record { sound = sound; ones = subst AskForOne (sym queue) ones; counted = omega arith },
        viewed s' (record (places_of s) { waiting = waits }) live held (ap leases_of queue ∙ leases) granted_is (ap (λ (t : Core W). t.cut) passed) (ap (λ (t : Core W). t.closed) passed) (ap (λ (t : Core W). t.wakes) passed),
      )

  abbrev Holds : Core W → LeaseWait → AnswerOf W → Core W → Type 0
  Holds s a r s' = IfOk r (λ turn. HoldsOpen s (acquire_of a) turn s')

  ready_new : (s s' : Core W) (b : Acquire) (w : W) (r : AnswerOf W) → IsPlaces s → core.IsSound s' → PollsOpen s (acquire.New 1) w r s' b → Holds s New r s' → s.closed ≡ false → 1 ≤ s.free
      → (r ≡ Ok (Ready w)) × (IsPlaces s' × (places_of s' ≡ record (places_of s) { held = held_of s + 1 })) × (wait_of b ≡ Done)
  ready_new s s' b w r is sound polls holds opens high =
      let h = (polls.0 opens).0 high in
      let held : held_of s' ≡ held_of s + 1 = subst (λ (x : AnswerOf W). Holds s New x s') h.0 holds in
      (h.0, taken_by s s' (s.free - 1) s.granted is sound h.1 held (omega arith), ap wait_of h.2)

  waits_new : (s s' : Core W) (b : Acquire) (w : W) (r : AnswerOf W) → IsPlaces s → core.IsSound s' → Holds s New r s' → s.closed ≡ false → s.free < 1
      → MatchResult r (λ turn. (turn ≡ Pending) × ((number : ℕ) × Queues s s' 1 w number × (b ≡ acquire.Queued 1 number))) (λ e. (e.0 ≡ w) × (s' ≡ s) × (b ≡ acquire.New 1))
      → MatchResult r (λ turn. (turn ≡ Pending) × ((n : ℕ) × WaitsLast (places_of s) (places_of s') n w × (wait_of b ≡ Queued n))) (λ e. (e.0 ≡ w) × (places_of s' ≡ places_of s) × (wait_of b ≡ New)) × IsPlaces s'
  waits_new s s' b w (Ok turn) is sound holds opens low h =
      let n : ℕ = h.1.0 in
      let queued : Queues s s' 1 w n = h.1.1 in
      let held : held_of s' ≡ held_of s = subst (λ (t : OpenTurn W). HoldsOpen s (acquire.New 1) t s') h.0 holds in
      let none : 0 ≡ s.free = omega arith in
      let uncut : s.cut ≡ map.empty = subst (λ (closed : Bool). CutsWhereClosed closed s.queue s.cut) opens is.sound.closing in
      let changed = line_changed s s' 0 (s.queue ++ (Acquires n 1 w, 1 - s.free) ∷ []) (leases_of s.queue ++ (n, w) ∷ []) is sound queued.is none (ones_append s.queue n (1 - s.free) w (omega arith) is.ones) (leases_last s.queue n 1 (1 - s.free) w) held in
      ((h.0, (n, record { is = changed.1; not_waiting = waits_none s.queue n queued.not_waiting; not_granted = queued.not_granted; not_cut = ap (λ (m : map.FinMap nat_cmp ℕ). map.get m n) uncut ∙ get-empty nat_cmp n }, ap wait_of h.1.2)), changed.0)
  waits_new s s' b w (Err e) is sound holds opens low h = ((h.0, ap places_of h.1, ap wait_of h.2), subst IsPlaces (sym h.1) is)

  ready_granted : (s s' : Core W) (n : ℕ) (b : Acquire) (w : W) (r : AnswerOf W) → IsPlaces s → core.IsSound s' → PollsOpen s (acquire.Queued 1 n) w r s' b → Holds s (Queued n) r s' → map.get s.granted n ≡ Some 1
      → (r ≡ Ok (Ready w)) × (IsPlaces s' × (places_of s' ≡ record (places_of s) { held = held_of s + 1; granted = map.remove s.granted n })) × (wait_of b ≡ Done)
  ready_granted s s' n b w r is sound polls holds there =
      let h = polls.0.0 there in
      let held : held_of s' ≡ held_of s + 1 = subst (λ (x : AnswerOf W). Holds s (Queued n) x s') h.0 holds in
      let less : map.len (map.remove s.granted n) + 1 ≡ map.len s.granted = removed s.granted n 1 there in
      (h.0, taken_by s s' s.free (map.remove s.granted n) is sound h.1 held (omega arith), ap wait_of h.2)

  stays_waiting : (s s' : Core W) (n : ℕ) (b : Acquire) (w : W) (r : AnswerOf W) → IsPlaces s → core.IsSound s' → PollsOpen s (acquire.Queued 1 n) w r s' b → Holds s (Queued n) r s' → IsSome (waker_under (leases_of s.queue) n)
      → (r ≡ Ok Pending) × (IsPlaces s' × (places_of s' ≡ record (places_of s) { waiting = with_waker (leases_of s.queue) n w })) × (wait_of b ≡ Queued n)
  stays_waiting s s' n b w r is sound polls holds some =
      let h = polls.0.1 (1, waits_one s.queue n is.ones some) in
      let held : held_of s' ≡ held_of s = subst (λ (x : AnswerOf W). Holds s (Queued n) x s') h.0 holds in
      (h.0, line_changed s s' s.free _ (with_waker (leases_of s.queue) n w) is sound h.1 refl (ones_rewaked s.queue n w is.ones) (leases_rewaked s.queue n w) held, ap wait_of h.2)

  is_cut : (s s' : Core W) (n : ℕ) (b : Acquire) (w : W) (r : AnswerOf W) → IsPlaces s → core.IsSound s' → PollsOpen s (acquire.Queued 1 n) w r s' b → Holds s (Queued n) r s' → (s.closed ≡ true) × (map.get s.cut n ≡ Some 1)
      → (r ≡ Ok (Closed w)) × (IsPlaces s' × (places_of s' ≡ record (places_of s) { cut = map.remove s.cut n })) × (wait_of b ≡ Refused)
  is_cut s s' n b w r is sound polls holds there =
      let h = polls.1 there in
      let held : held_of s' ≡ held_of s = subst (λ (x : AnswerOf W). Holds s (Queued n) x s') h.0 holds in
      (h.0, cut_changed s s' (map.remove s.cut n) is sound held h.1, ap wait_of h.2)

  room_of : (s : Core W) → IsPlaces s → taken_of (places_of s) < s.live → 1 ≤ s.free
  room_of s is room = let counted : s.free + held_of s + map.len s.granted ≡ s.live = is.counted in omega arith

  full_of : (s : Core W) → IsPlaces s → s.live ≤ taken_of (places_of s) → s.free < 1
  full_of s is full = let counted : s.free + held_of s + map.len s.granted ≡ s.live = is.counted in omega arith

  pub polled : (s s' : Core W) (a : LeaseWait) (b : Acquire) (w : W) (r : AnswerOf W) → IsPlaces s → core.IsSound s' → PollsOpen s (acquire_of a) w r s' b → Holds s a r s' → PollsPlace (places_of s) a w r (places_of s') (wait_of b)
  polled s s' New b w r is sound polls holds = (
    (λ closed. let h = polls.1 closed in (h.0, ap places_of h.1, ap wait_of h.2)),
    (λ opens room. let h = ready_new s s' b w r is sound polls holds opens (room_of s is room) in (h.0, h.1.1, h.2)),
    (λ opens full. let low = full_of s is full in (waits_new s s' b w r is sound holds opens low ((polls.0 opens).1 low)).0),
  )
  polled s s' (Queued n) b w r is sound polls holds = (
    (λ there. let h = ready_granted s s' n b w r is sound polls holds there in (h.0, h.1.1, h.2)),
    (λ some. let h = stays_waiting s s' n b w r is sound polls holds some in (h.0, h.1.1, h.2)),
    (λ there. let h = is_cut s s' n b w r is sound polls holds there in (h.0, h.1.1, h.2)),
  )
  polled s s' Done b w r is sound polls holds = tt
  polled s s' Refused b w r is sound polls holds = (polls.0, ap places_of polls.1, ap wait_of polls.2)

  pub poll_keeps : (s s' : Core W) (a : LeaseWait) (b : Acquire) (w : W) (r : AnswerOf W) → IsPlaces s → core.IsSound s' → PollsOpen s (acquire_of a) w r s' b → Holds s a r s' → Fits (places_of s) a → IsPlaces s'
  poll_keeps s s' New b w r is sound polls holds fits = elim (cases_Bool s.closed) [
    | inl closed ↦ subst IsPlaces (sym (polls.1 closed).1) is
    | inr opens ↦ elim (cases_lt s.free 1) [
      | inl low ↦ (waits_new s s' b w r is sound holds opens low ((polls.0 opens).1 low)).1
      | inr high ↦ (ready_new s s' b w r is sound polls holds opens high).1.0
    ]
  ]
  poll_keeps s s' (Queued n) b w r is sound polls holds (inl (inl there)) = (ready_granted s s' n b w r is sound polls holds there).1.0
  poll_keeps s s' (Queued n) b w r is sound polls holds (inl (inr some)) = (stays_waiting s s' n b w r is sound polls holds some).1.0
  poll_keeps s s' (Queued n) b w r is sound polls holds (inr there) = (is_cut s s' n b w r is sound polls holds there).1.0
  poll_keeps s s' Done b w r is sound polls holds fits = subst IsPlaces (sym polls.1) is
  poll_keeps s s' Refused b w r is sound polls holds fits = subst IsPlaces (sym polls.1) is

  -- ---- a try

  room_of_free : (s : Core W) → IsPlaces s → 1 ≤ s.free → taken_of (places_of s) < s.live
  room_of_free s is high = let counted : s.free + held_of s + map.len s.granted ≡ s.live = is.counted in omega arith

  full_of_none : (s : Core W) → IsPlaces s → s.free < 1 → s.live ≤ taken_of (places_of s)
  full_of_none s is low = let counted : s.free + held_of s + map.len s.granted ≡ s.live = is.counted in omega arith

  pub tried : (s s' : Core W) (r : Bool) → IsPlaces s → core.IsSound s' → (s.closed ≡ false → 1 ≤ s.free → (r ≡ true) × (s' ≡ record s { free = s.free - 1 })) → (s.free < 1 → (r ≡ false) × (s' ≡ s)) → (s.closed ≡ true → (r ≡ false) × (s' ≡ s))
      → (s.closed ≡ false → 1 ≤ s.free → held_of s' ≡ held_of s + 1) → IsPlaces s' × TriesPlace (places_of s) r (places_of s')
  tried s s' r is sound taken refused closed held = elim (cases_Bool s.closed) [
    | inl shut ↦ let h = closed shut in (subst IsPlaces (sym h.1) is, subst (λ (b : Bool). TriesPlace (places_of s) b (places_of s')) (sym h.0) (inl shut, ap places_of h.1))
    | inr opens ↦ elim (cases_lt s.free 1) [
      | inl low ↦ let h = refused low in (subst IsPlaces (sym h.1) is, subst (λ (b : Bool). TriesPlace (places_of s) b (places_of s')) (sym h.0) (inr (full_of_none s is low), ap places_of h.1))
      | inr high ↦ let h = taken opens high in let both = taken_by s s' (s.free - 1) s.granted is sound h.1 (held opens high) (omega arith) in
          (both.0, subst (λ (b : Bool). TriesPlace (places_of s) b (places_of s')) (sym h.0) (opens, room_of_free s is high, both.1))
    ]
  ]

  -- one that is ready has found a place that no lease held
  one_more : (s s' : Core W) → IsPlaces s → core.IsSound s' → Steady s s' → held_of s' ≡ held_of s + 1 → held_of s < s.live
  one_more s s' is sound steady held =
      let total : s'.free + held_of s' + paid_of s' ≡ s'.live = sound.total in
      let live : s'.live ≡ s.live = steady.live (ones_no_debt s.queue is.ones) in
      omega arith

  pub finds : (s s' : Core W) (a : LeaseWait) (b : Acquire) (w : W) (r : AnswerOf W) → a ≢ Done → IsPlaces s → core.IsSound s' → Steady s s' → PollsOpen s (acquire_of a) w r s' b → Holds s a r s' → IfOk r (λ turn. FindsPlace (places_of s) turn)
  finds s s' New b w (Ok (Ready x)) unmet is sound steady polls holds = one_more s s' is sound steady holds
  finds s s' New b w (Ok Pending) unmet is sound steady polls holds = tt
  finds s s' New b w (Ok (Closed x)) unmet is sound steady polls holds = tt
  finds s s' (Queued n) b w (Ok (Ready x)) unmet is sound steady polls holds = one_more s s' is sound steady holds
  finds s s' (Queued n) b w (Ok Pending) unmet is sound steady polls holds = tt
  finds s s' (Queued n) b w (Ok (Closed x)) unmet is sound steady polls holds = tt
  finds s s' Done b w (Ok turn) unmet is sound steady polls holds = absurd (unmet refl)
  finds s s' Refused b w (Ok turn) unmet is sound steady polls holds = subst (λ (x : AnswerOf W). IfOk x (λ t. FindsPlace (places_of s) t)) (sym polls.0) tt
  finds s s' a b w (Err e) unmet is sound steady polls holds = tt

  -- where there was no memory nothing has changed
  pub kept_on_err : (s s' : Core W) (t : Places W) (a a' : LeaseWait) (b b' : Acquire) (r : AnswerOf W) → places_of s ≡ t → b ≡ acquire_of a → a' ≡ wait_of b' → OnErr r ((s' ≡ s) × (b' ≡ b)) → OnErr r ((places_of s' ≡ t) × (a' ≡ a))
  kept_on_err s s' t a a' b b' (Ok turn) view stands after h = tt
  kept_on_err s s' t a a' b b' (Err e) view stands after h = (ap places_of h.0 ∙ view, after ∙ ap wait_of (h.1 ∙ stands) ∙ as_before a)
    where
      as_before : (a : LeaseWait) → wait_of (acquire_of a) ≡ a
      as_before New = refl
      as_before (Queued n) = refl
      as_before Done = refl
      as_before Refused = refl

  -- ---- tests

  pub fitting : (s : Core W) (a : LeaseWait) → IsPlaces s → Belongs s (acquire_of a) ↔ Fits (places_of s) a
  fitting s New is = ((λ x. tt), (λ x. tt))
  fitting s (Queued n) is = (there, back)
    where
      there : (IsGrantedAs s 1 n ⊎ IsWaitingAs s 1 n) ⊎ IsCutAs s 1 n → Fits (places_of s) (Queued n)
      there (inl (inl x)) = inl (inl x)
      there (inl (inr x)) = inl (inr (waits_some s.queue n 1 x.0 x.1))
      there (inr x) = inr x

      back : Fits (places_of s) (Queued n) → (IsGrantedAs s 1 n ⊎ IsWaitingAs s 1 n) ⊎ IsCutAs s 1 n
      back (inl (inl x)) = inl (inl x)
      back (inl (inr x)) = inl (inr (1, waits_one s.queue n is.ones x))
      back (inr x) = inr x
  fitting s Done is = ((λ x. tt), (λ x. tt))
  fitting s Refused is = ((λ x. x), (λ x. x))

  pub told_fits : (s : Core W) (t : Places W) (a : LeaseWait) (b : Acquire) (told_yes : Bool) → places_of s ≡ t → b ≡ acquire_of a → IsPlaces s → IsTrue told_yes ↔ Belongs s b → IsTrue told_yes ↔ Fits t a
  told_fits s t a b told_yes view stands is told =
      let both = fitting s a is in (
        (λ x. subst (λ (p : Places W). Fits p a) view (both.0 (subst (λ (c : Acquire). Belongs s c) stands (told.0 x)))),
        (λ x. told.1 (subst (λ (c : Acquire). Belongs s c) (sym stands) (both.1 (subst (λ (p : Places W). Fits p a) (sym view) x)))),
      )

  drained_as : (s : Core W) → IsPlaces s → (s.free == s.live) ≡ (taken_of (places_of s) == 0)
  drained_as s is = all_free s.free (taken_of (places_of s)) s.live (let counted : s.free + held_of s + map.len s.granted ≡ s.live = is.counted in omega arith)

  pub drained_where_closed : (s : Core W) (t : Places W) → places_of s ≡ t → IsPlaces s → s.closed ≡ true → (s.free == s.live) ≡ are_drained t
  drained_where_closed s t view is closed = drained_as s is ∙ sym (ap (λ (b : Bool). b && (taken_of (places_of s) == 0)) closed) ∙ ap (λ (p : Places W). are_drained p) view

  pub drained_no_more : (s : Core W) (t : Places W) → places_of s ≡ t → s.closed ≡ false → false ≡ are_drained t
  drained_no_more s t view opens = sym (ap (λ (b : Bool). b && (taken_of (places_of s) == 0)) opens) ∙ ap (λ (p : Places W). are_drained p) view
