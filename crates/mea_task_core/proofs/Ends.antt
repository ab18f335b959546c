-- what a sound machine comes to
use Rattle.std.proofs.Common.{add-zero, ◌≡◌, ℕ, zero, suc, ◌+◌, ◌*◌, ◌^◌, ◌<◌, ◌≤◌, ◌==◌, ◌||◌, inl, inr, Bool, true, false, cond, eqb, List, [], ◌∷◌, Option, Some, None, refl, ap, sym, subst, ◌∙◌, arith, slice_get, length}
use Rattle.std.specs.List.{sum_by, list_any, IsDistinct, AllByRecursion}
use Rattle.std.proofs.lemmas.Bool.{eq-eqb, eqb-true, eqb-false, ne_eqb}
use Rattle.std.proofs.lemmas.List.Sums.{sum_by-cons, get_or-le-sum_by}
use Rattle.std.proofs.lemmas.Map.Steps.{length-le_from_distinct_below}
use Rattle.std.proofs.lemmas.Option.{slice_get_within, get_or_from_slice_get}
use Rattle.mea_base.proofs.Tests.{on_true}
use Rattle.mea_sem_model.specs.Hall.{Future, Waiting, Who, names as is_named_by, queue_at, lack_of}
use Rattle.mea_sem_model.specs.Step.{poll_of}
use Rattle.mea_sem_model.specs.Valid.{AllLack, count, waits_at}
use Rattle.mea_sem_model.proofs.Keeps.{valid_empty, below_empty}
use Rattle.mea_base.proofs.Maps.{nothing_at}
use Rattle.mea_task_core.specs.declared.phase.Phase.{Phase}
use Rattle.mea_task_core.specs.declared.phase.Phase.TheVariants.{Queued, Asks, Waits, Woken, Finished, Failed}
use Rattle.mea_task_core.specs.Task.{TaskRecord, is_active}
use Rattle.mea_task_core.specs.Machine.{Machine, new_machine, name_of, begins, move_by, move, moves, rests_by, is_at_rest, IsAtRest}
use Rattle.mea_task_core.specs.Bounds.{takes_and_yields, rest_of, turns_by, turns_left, one_if_on, work}
use Rattle.mea_task_core.specs.Sound.{IsSound, Has, IsFutureOf, one_if, one_if_is, times, times_due}
use Rattle.mea_task_core.specs.Settled.{run_out, IsLacking, IsSettledBy, AreSettled}
use Rattle.mea_task_core.proofs.Bounding.{rests_next}
use Rattle.mea_task_core.proofs.Moves.{rest_or_advance, running_there, sound_moves, spends_moves}

-- ---- moves, one after another
still_move : (m : Machine) → IsAtRest m → move m ≡ m
unfolding move
still_move m r = ap (move_by m) r.running ∙ ap (begins m) r.queue

pub moves_rest : (n : ℕ) (m : Machine) → IsAtRest m → moves n m ≡ m
moves_rest zero m r = refl
moves_rest (suc n) m r = ap (moves n) (still_move m r) ∙ moves_rest n m r

pub moves_more : (n : ℕ) (m : Machine) → moves (suc n) m ≡ move (moves n m)
moves_more zero m = refl
moves_more (suc n) m = moves_more n (move m)

moves_split : (a b : ℕ) (m : Machine) → moves (a + b) m ≡ moves b (moves a m)
moves_split a zero m = ap (λ k. moves k m) (add-zero a)
moves_split a (suc b) m =
    let next : a + suc b ≡ suc (a + b) = omega arith in
    ap (λ k. moves k m) next ∙ moves_more (a + b) m ∙ ap move (moves_split a b m) ∙ sym (moves_more b (moves a m))

rests_in : (n : ℕ) (m : Machine) → IsSound m → work m ≤ n → IsAtRest (moves n m)
rests_in zero m s few = elim (rest_or_advance m s) [ inl rest ↦ rest.0 | inr more ↦ absurd (let less = more.less in omega (arith, less, few)) ]
rests_in (suc n) m s few = elim (rest_or_advance m s) [
  | inl rest ↦ subst IsAtRest (sym (moves_rest (suc n) m rest.0)) rest.0
  | inr more ↦ rests_in n (move m) more.sound (let less = more.less in omega (arith, less, few))
]

-- a sound machine comes to rest
pub run_out_rests : (m : Machine) → IsSound m → IsAtRest (run_out m)
run_out_rests m s = rests_in (work m) m s (omega arith)

-- where it rests, it has run out
pub run_out_is : (m : Machine) → IsSound m → (n : ℕ) → IsAtRest (moves n m) → run_out m ≡ moves n m
run_out_is m s n rest =
    sym (moves_rest n (run_out m) (run_out_rests m s))
    ∙ sym (moves_split (work m) n m)
    ∙ ap (λ k. moves k m) (let same : work m + n ≡ n + work m = omega arith in same)
    ∙ moves_split n (work m) m
    ∙ moves_rest (work m) (moves n m) rest

-- and it comes to the same from where it is after some moves
pub run_out_later : (m : Machine) → IsSound m → (n : ℕ) → run_out (moves n m) ≡ run_out m
run_out_later m s n =
    let later : IsAtRest (moves (work (moves n m)) (moves n m)) = run_out_rests (moves n m) (sound_moves n m s) in
    let all = moves_split n (work (moves n m)) m in
    sym (run_out_is m s (n + work (moves n m)) (subst IsAtRest (sym all) later) ∙ all)

-- ---- tasks at rest
-- who is named in a queue lacks at least 1
lacks_some : (q : List (Who × ℕ)) (f : ℕ) → AllLack q → count q f ≤ lack_of q f
lacks_some [] f all = omega arith
lacks_some (e ∷ q) f all =
    let rest = lacks_some q f all.1 in
    let head = by_test (is_named_by e.0 f) in
    omega (arith, rest, head, sum_by-cons {X = Who × ℕ} (λ d. cond (is_named_by d.0 f) 1 0) e q, sum_by-cons {X = Who × ℕ} (λ d. cond (is_named_by d.0 f) d.1 0) e q)
  where
    by_test : (b : Bool) → cond b 1 0 ≤ cond b e.1 0
    by_test true = all.0
    by_test false = omega arith

module _ (m : Machine) (s : IsSound m) (rest : IsAtRest m) (t : ℕ) (x : TaskRecord) (at : slice_get m.tasks t ≡ Some x) where
  not_due : times_due m t ≡ 0
  not_due = ap (λ o. one_if_is o t + times t m.queue) rest.running ∙ ap (λ q. 0 + times t q) rest.queue

  idle : (p : Phase) → x.phase ≡ p → is_active p ≡ true → ⊥
  idle p is active = absurd (let counted = s.linked.counted t x at in let one : one_if (is_active x.phase) ≡ 1 = ap (λ q. one_if (is_active q)) is ∙ ap one_if active in omega (arith, counted, one, not_due))

  lacking : (f : ℕ) → IsFutureOf m.hall.futures m.semaphores x f (Waiting t) → IsLacking m x f
  lacking f had = record {
    place = had.place;
    demand = had.demand;
    takes = had.next;
    lacks =
        let there : count (queue_at m.hall (name_of m had.place)) f ≡ 1 =
        s.hall.valid.once (name_of m had.place) f ∙ ap (waits_at (name_of m had.place)) had.is ∙ on_true (name_of m had.place == name_of m had.place) 1 (eq-eqb _ (name_of m had.place) refl) in
        omega (arith, there, lacks_some (queue_at m.hall (name_of m had.place)) f (s.hall.valid.lacking (name_of m had.place)));
    pending = λ i w. ap (λ o. (poll_of m.hall i f w o).reply) had.is;
  }

  settled_by : (p : Phase) → x.phase ≡ p → Has m.hall.futures m.semaphores t x p → IsSettledBy m x p
  settled_by Queued is has = absurd (idle Queued is refl)
  settled_by (Asks f) is has = absurd (idle (Asks f) is refl)
  settled_by (Waits f) is has = lacking f has
  settled_by (Woken f) is has = absurd (idle (Woken f) is refl)
  settled_by Finished is has = tt
  settled_by Failed is has = tt

-- each task of a machine at rest is finished, has failed, or waits and lacks a permit
pub settled : (m : Machine) → IsSound m → IsAtRest m → AreSettled m
settled m s rest t x at = settled_by m s rest t x at x.phase refl (s.linked.has t x at)

-- ---- turns
-- a task whose turn is on may begin one more, by its numbers
one_turn : (m : Machine) (t : ℕ) (x : TaskRecord) → IsSound m → m.running ≡ Some t → slice_get m.tasks t ≡ Some x → 1 ≤ turns_left x
one_turn m t x s on at = by_phase x.phase refl (s.linked.has t x at)
  where
    due : 1 ≤ one_if (is_active x.phase)
    due =
        let counted = s.linked.counted t x at in
        let here : times_due m t ≡ cond (t == t) 1 0 + times t m.queue = ap (λ o. one_if_is o t + times t m.queue) on in
        omega (arith, counted, here, on_true (t == t) 1 (eq-eqb t t refl))

    by_phase : (p : Phase) → x.phase ≡ p → Has m.hall.futures m.semaphores t x p → 1 ≤ turns_left x
    by_phase Queued is has = let now : turns_left x ≡ takes_and_yields (rest_of x) + 1 = ap (λ p. turns_by p (takes_and_yields (rest_of x))) is in omega (arith, now)
    by_phase (Asks f) is has = let now : turns_left x ≡ takes_and_yields (rest_of x) + 1 = ap (λ p. turns_by p (takes_and_yields (rest_of x))) is in omega (arith, now)
    by_phase (Woken f) is has = let now : turns_left x ≡ takes_and_yields (rest_of x) = ap (λ p. turns_by p (takes_and_yields (rest_of x))) is in omega (arith, now, rests_next x _ has.next)
    by_phase (Waits f) is has = absurd (let none : one_if (is_active x.phase) ≡ 0 = ap (λ p. one_if (is_active p)) is in omega (arith, due, none))
    by_phase Finished is has = absurd (let none : one_if (is_active x.phase) ≡ 0 = ap (λ p. one_if (is_active p)) is in omega (arith, due, none))
    by_phase Failed is has = absurd (let none : one_if (is_active x.phase) ≡ 0 = ap (λ p. one_if (is_active p)) is in omega (arith, due, none))

-- the turns are at most the tasks, takes and yields
pub few_polls : (m : Machine) → IsSound m → m.polls ≤ m.allowance
few_polls m s = by_running m.running refl
  where
    by_running : (o : Option ℕ) → m.running ≡ o → m.polls ≤ m.allowance
    by_running None off = let few = s.bounded.few in let none : one_if_on m.running ≡ 0 = ap one_if_on off in omega (arith, few, none)
    by_running (Some t) on =
        let few = s.bounded.few in
        let one : one_if_on m.running ≡ 1 = ap one_if_on on in
        let there = running_there m s t on in
        let some = one_turn m t there.0 s on there.1 in
        let within : turns_left there.0 ≤ sum_by turns_left m.tasks =
        subst (λ z. turns_left z ≤ sum_by turns_left m.tasks) (get_or_from_slice_get m.tasks t there.0 there.0 there.1) (get_or-le-sum_by turns_left m.tasks t there.0 (slice_get_within m.tasks t there.0 there.1)) in
        omega (arith, few, one, some, within)

-- and so their number fits
pub polls_fit : (m : Machine) → IsSound m → m.polls ≤ 2 ^ 60
polls_fit m s =
    let few = few_polls m s in
    let size = s.bounded.size in
    let turns = s.bounded.turns in
    omega (arith, few, size, turns)

-- after any moves the turns are few still
pub polls_after : (n : ℕ) (m : Machine) → IsSound m → (moves n m).polls ≤ m.allowance
polls_after n m s =
    let few = few_polls (moves n m) (sound_moves n m s) in
    let same = (spends_moves n m s).adds.allowance in
    omega (arith, few, same)

-- and at most four events are played for each task and step, and one more
pub events_after : (n : ℕ) (m : Machine) → IsSound m → (moves n m).events ≤ m.events + (4 * m.added + 1)
events_after n m s =
    let low = s.bounded.low in
    let spent = (spends_moves n m s).events in
    omega (arith, low, spent)

-- ---- the run queue
not_among : (t : ℕ) (ts : List ℕ) → times t ts ≡ 0 → AllByRecursion (λ u. eqb t u ≡ false) ts
not_among t [] none = tt
not_among t (u ∷ us) none =
    let split = sum_by-cons {X = ℕ} (λ v. cond (v == t) 1 0) u us in (
      by_test (u == t) refl (omega (arith, split, none)),
      not_among t us (omega (arith, split, none)),
    )
  where
    by_test : (b : Bool) → (u == t) ≡ b → ◌≡◌ {A = ℕ} (cond b 1 0) 0 → eqb t u ≡ false
    by_test true e zero_one = absurd (omega (arith, zero_one))
    by_test false e zero_one = ne_eqb t u (λ same. eqb-false u t e (sym same))

distinct : (ts : List ℕ) → ((t : ℕ) → times t ts ≤ 1) → IsDistinct eqb ts
unfolding IsDistinct
distinct [] once = tt
distinct (t ∷ ts) once = (
  not_among t ts (let all = once t in omega (arith, all, on_true (t == t) 1 (eq-eqb t t refl), sum_by-cons {X = ℕ} (λ v. cond (v == t) 1 0) t ts)),
  distinct ts (λ u. let all = once u in omega (arith, all, sum_by-cons {X = ℕ} (λ v. cond (v == u) 1 0) t ts)),
)

among_times : (t : ℕ) (ts : List ℕ) → list_any (eqb t) ts ≡ true → 1 ≤ times t ts
among_times t [] there = absurd (cc)
among_times t (u ∷ us) there = by_test (eqb t u) refl there (among_times t us)
  where
    by_test : (b : Bool) → eqb t u ≡ b → (b || list_any (eqb t) us) ≡ true → (list_any (eqb t) us ≡ true → 1 ≤ times t us) → 1 ≤ times t (u ∷ us)
    by_test true e also more = omega (arith, on_true (u == t) 1 (eq-eqb u t (sym (eqb-true t u e))), sum_by-cons {X = ℕ} (λ v. cond (v == t) 1 0) u us)
    by_test false e also more = let rest = more also in omega (arith, rest, sum_by-cons {X = ℕ} (λ v. cond (v == t) 1 0) u us)

due_once : (m : Machine) → IsSound m → (t : ℕ) → times_due m t ≤ 1
due_once m s t = by_option (slice_get m.tasks t) refl
  where
    at_most : (b : Bool) → one_if b ≤ 1
    at_most true = omega arith
    at_most false = omega arith

    by_option : (o : Option TaskRecord) → slice_get m.tasks t ≡ o → times_due m t ≤ 1
    by_option None is = let none = s.linked.beyond t is in omega (arith, none)
    by_option (Some x) is = let counted = s.linked.counted t x is in let few = at_most (is_active x.phase) in omega (arith, counted, few)

-- who is due is a task
pub due_there : (m : Machine) → IsSound m → (t : ℕ) → 1 ≤ times t m.queue → t < length m.tasks
due_there m s t some = by_option (slice_get m.tasks t) refl
  where
    by_option : (o : Option TaskRecord) → slice_get m.tasks t ≡ o → t < length m.tasks
    by_option None is = absurd (let none = s.linked.beyond t is in omega (arith, none, some))
    by_option (Some x) is = slice_get_within m.tasks t x is

-- the run queue is no longer than the list of tasks
pub queue_fits : (m : Machine) → IsSound m → length m.queue ≤ length m.tasks
queue_fits m s =
    length-le_from_distinct_below m.queue (length m.tasks) (distinct m.queue (λ t. let once = due_once m s t in omega (arith, once))) (λ t there. due_there m s t (among_times t m.queue there))

-- ---- at the start
pub sound_new : IsSound new_machine
sound_new = record {
  hall = record { valid = valid_empty; below = below_empty 0; each_open = λ k less. absurd (omega (arith, less)) };
  linked = record {
    counted = λ t x is. absurd (cc);
    beyond = λ t none. refl;
    has = λ t x is. absurd (cc);
    waits = λ f w y is stage. absurd (nothing_at Future f y is);
    apart = λ t u f x y is also own its. absurd (cc);
    known = λ t k x step is at. absurd (cc);
  };
  bounded = record { size = omega arith; turns = omega arith; room = omega arith; low = omega arith; few = omega arith };
}

-- ---- the test of a rest
rests_then : (m : Machine) → IsAtRest m → is_at_rest m ≡ true
rests_then m r = ap (λ o. rests_by o m.queue) r.running ∙ ap (rests_by None) r.queue

pub at_rest_by : (m : Machine) → is_at_rest m ≡ true → IsAtRest m
at_rest_by m is = by_parts m.running m.queue refl refl is
  where
    by_parts : (o : Option ℕ) (q : List ℕ) → m.running ≡ o → m.queue ≡ q → rests_by o q ≡ true → IsAtRest m
    by_parts None [] off none t = record { queue = none; running = off }
    by_parts None (u ∷ us) off some t = absurd (cc)
    by_parts (Some u) q on some t = absurd (cc)

-- a move of a machine that is not at rest leaves less work
pub busy_falls : (m n : Machine) → IsSound m → is_at_rest m ≡ false → n ≡ move m → work n < work m
busy_falls m n s busy is = elim (rest_or_advance m s) [
  | inl rest ↦ absurd (let rests = rests_then m rest.0 in cc)
  | inr more ↦ let less = more.less in let same = ap work is in omega (arith, less, same)
]
