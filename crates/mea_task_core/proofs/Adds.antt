-- a sound machine stays sound where semaphores and tasks are added, and where an account is told
use Rattle.std.proofs.Common.{append-nil, ◌≡◌, ℕ, zero, suc, ◌+◌, ◌*◌, ◌^◌, ◌<◌, ◌≤◌, ◌==◌, Bool, true, false, cond, not, List, [], ◌∷◌, ◌++◌, Option, Some, None, refl, ap, sym, subst, ◌∙◌, arith, slice_get, slice_index, length, nat_lt, length-append}
use Rattle.std.specs.List.{sum_by, position_or_len}
use Rattle.std.specs.Ordering.{nat_cmp}
use Rattle.std.specs.FinMap.{FinMap}
use Rattle.std.proofs.lemmas.Bool.{eq-eqb, ne_eqb, ltb-true, ltb-false}
use Rattle.std.proofs.lemmas.List.{get_or_append_left}
use Rattle.std.proofs.Math.Seq.{get_or-append_seam}
use Rattle.std.proofs.lemmas.List.Sums.{sum_by-cons, sum_by-append, fails_before_first, count_by-le-length}
use Rattle.std.proofs.lemmas.Option.{slice_get_within, slice_get_past, get_or_from_slice_get}
use Rattle.mea_base.proofs.Maps.{inside}
use Rattle.mea_base.proofs.Tests.{by_name, on_true, on_false}
use Rattle.mea_events.specs.declared.sem_event.SemEvent.TheVariants as events
use Rattle.mea_sem_model.specs.Hall.{Future, FutureStage, New, Waiting, Granted}
use Rattle.mea_sem_model.specs.Step.{step}
use Rattle.mea_family.specs.declared.answer.Answer.{Answer}
use Rattle.mea_sem.specs.Play.{Play, Plays}
use Rattle.mea_task_core.specs.Kept.{IsKept}
use Rattle.mea_sem_model.proofs.StaysValid.{kept_valid}
use Rattle.mea_sem_model.proofs.Keeps.{keeps_below}
use Rattle.mea_sem_model.proofs.Changes.{below_more}
use Rattle.mea_task_core.specs.declared.step.Step.{Step}
use Rattle.mea_task_core.specs.declared.step.Step.TheVariants.{Take, Give, Yield}
use Rattle.mea_task_core.specs.declared.phase.Phase.{Phase}
use Rattle.mea_task_core.specs.declared.phase.Phase.TheVariants.{Queued, Asks, Waits, Woken, Finished, Failed}
use Rattle.mea_task_core.specs.Task.{TaskRecord, is_active, future_in}
use Rattle.mea_task_core.specs.Machine.{Machine}
use Rattle.mea_task_core.specs.Bounds.{may_rest, takes_and_yields, turns_left, moves_left}
use Rattle.mea_task_core.specs.Sound.{IsOpen, IsSound, Has, IsFutureOf, IsKnown, one_if, times, times_due, future_of}
use Rattle.mea_task_core.specs.Adding.{with_semaphore, new_task, with_new_task, is_known, first_unknown, IsAllowed}
use Rattle.mea_task_core.proofs.Halls.{new_open, made_open}

-- ---- one more stands at the end
module _ {X : Type 0} where
  get-push_other : (xs : List X) (y : X) (j : ℕ) → (length xs ≡ j → ⊥) → slice_get (xs ++ y ∷ []) j ≡ slice_get xs j
  get-push_other [] y zero apart = absurd (apart refl)
  get-push_other [] y (suc j) apart = refl
  get-push_other (x ∷ xs) y zero apart = refl
  get-push_other (x ∷ xs) y (suc j) apart = get-push_other xs y j (λ same. apart (ap suc same))

  get-push_there : (xs : List X) (y : X) → slice_get (xs ++ y ∷ []) (length xs) ≡ Some y
  get-push_there [] y = refl
  get-push_there (x ∷ xs) y = get-push_there xs y

  by_push : (xs : List X) (y : X) (P : ℕ → Option X → Type 0) → P (length xs) (Some y) → ((j : ℕ) → (length xs ≡ j → ⊥) → P j (slice_get xs j)) → (j : ℕ) → P j (slice_get (xs ++ y ∷ []) j)
  by_push xs y P here others j =
      by_name (length xs) j
      (λ same. subst (λ k. P k (slice_get (xs ++ y ∷ []) k)) same (subst (λ o. P (length xs) o) (sym (get-push_there xs y)) here))
      (λ apart. subst (λ o. P j o) (sym (get-push_other xs y j apart)) (others j apart))

  sum-push : (f : X → ℕ) (xs : List X) (y : X) → sum_by f (xs ++ y ∷ []) ≡ sum_by f xs + f y
  sum-push f xs y = let more = sum_by-append f xs (y ∷ []) in let one = sum_by-cons f y [] in omega (arith, more, one)

-- ---- a semaphore
module _ (names : List ℕ) (name : ℕ) where
  longer : length (names ++ name ∷ []) ≡ length names + 1
  longer = length-append names (name ∷ [])

  same_name : (k : ℕ) → k < length names → slice_index (names ++ name ∷ []) k ≡ slice_index names k
  same_name k less = get_or_append_left names (name ∷ []) 0 k less

  wider_future : (F : FinMap nat_cmp Future) (x : TaskRecord) (f : ℕ) (stage : FutureStage) → IsFutureOf F names x f stage → IsFutureOf F (names ++ name ∷ []) x f stage
  wider_future F x f stage had = record {
    place = had.place;
    demand = had.demand;
    next = had.next;
    known = (let less = had.known in omega (arith, less, longer));
    is = had.is ∙ ap (λ q. Some (future_of q had.demand stage)) (sym (same_name had.place had.known));
  }

  wider_has : (F : FinMap nat_cmp Future) (t : ℕ) (x : TaskRecord) (p : Phase) → Has F names t x p → Has F (names ++ name ∷ []) t x p
  wider_has F t x Queued has = tt
  wider_has F t x (Asks f) has = wider_future F x f New has
  wider_has F t x (Waits f) has = wider_future F x f (Waiting t) has
  wider_has F t x (Woken f) has = wider_future F x f Granted has
  wider_has F t x Finished has = tt
  wider_has F t x Failed has = tt

  wider_known : (s : Step) → IsKnown (length names) s → IsKnown (length (names ++ name ∷ [])) s
  wider_known (Take q n) less = omega (arith, less, longer)
  wider_known (Give q n) less = omega (arith, less, longer)
  wider_known Yield known = tt

pub sound_with_semaphore : (m : Machine) (n : ℕ) → IsSound m → n < 2 ^ 64 → m.events < 2 ^ 62 → IsSound (with_semaphore m n)
sound_with_semaphore m n s fits few = record {
  hall = record {
    valid = kept_valid m.hall m.events (events.New n) s.hall.valid s.hall.below fits refl;
    below = keeps_below m.hall m.events (events.New n) s.hall.valid s.hall.below refl;
    each_open = λ k less. by_name (length m.semaphores) k
        (λ same. subst (λ q. IsOpen (with_semaphore m n).hall q) (sym (ap (slice_index (m.semaphores ++ m.events ∷ [])) (sym same) ∙ get_or-append_seam m.semaphores m.events [] 0)) (made_open m.hall m.events n))
        (λ apart.
        let within : k < length m.semaphores = omega (arith, less, apart, longer m.semaphores m.events) in
        subst (λ q. IsOpen (with_semaphore m n).hall q) (sym (same_name m.semaphores m.events k within)) (new_open m.hall m.events n s.hall.below _ (s.hall.each_open k within)));
  };
  linked = record {
    counted = s.linked.counted;
    beyond = s.linked.beyond;
    has = λ t x is. wider_has m.semaphores m.events m.hall.futures t x x.phase (s.linked.has t x is);
    waits = s.linked.waits;
    apart = s.linked.apart;
    known = λ t k x step is at. wider_known m.semaphores m.events step (s.linked.known t k x step is at);
  };
  bounded = record {
    size = s.bounded.size;
    turns = s.bounded.turns;
    room = (let low = s.bounded.low in omega (arith, low, few));
    low = s.bounded.low;
    few = s.bounded.few;
  };
}

-- ---- an account is told
pub sound_later : (m : Machine) → IsSound m → m.events < 2 ^ 62 → IsSound (record m { events = m.events + 1 })
sound_later m s few = record {
  hall = record { valid = s.hall.valid; below = below_more m.hall m.events s.hall.below; each_open = s.hall.each_open };
  linked = s.linked;
  bounded = record {
    size = s.bounded.size;
    turns = s.bounded.turns;
    room = (let low = s.bounded.low in omega (arith, low, few));
    low = s.bounded.low;
    few = s.bounded.few;
  };
}

-- ---- a task
known_one : (count : ℕ) (s : Step) → is_known count s ≡ true → IsKnown count s
known_one count (Take q n) is = ltb-true q count is
known_one count (Give q n) is = ltb-true q count is
known_one count Yield is = tt

known_all : (m : Machine) (steps : List Step) → first_unknown m steps ≡ None → (k : ℕ) (s : Step) → slice_get steps k ≡ Some s → IsKnown (length m.semaphores) s
known_all m steps none k s is =
    let within = slice_get_within steps k s is in
    let all : length steps ≤ position_or_len unknown steps = by_test (nat_lt (position_or_len unknown steps) (length steps)) refl none in
    let fails : not (is_known (length m.semaphores) s) ≡ false =
    subst (λ z. not (is_known (length m.semaphores) z) ≡ false) (get_or_from_slice_get steps k s s is) (fails_before_first unknown steps k s (omega (arith, within, all))) in
    known_one (length m.semaphores) s (by_bool (is_known (length m.semaphores) s) fails)
  where
    unknown : Step → Bool
    unknown z = not (is_known (length m.semaphores) z)

    by_test : (b : Bool) → nat_lt (position_or_len unknown steps) (length steps) ≡ b → cond b (Some (position_or_len unknown steps)) None ≡ None → length steps ≤ position_or_len unknown steps
    by_test true e nowhere = absurd (cc)
    by_test false e _ = ltb-false _ _ e

    by_bool : (b : Bool) → not b ≡ false → b ≡ true
    by_bool true _ = refl
    by_bool false e = absurd (cc)

pub sound_with_task : (m : Machine) (steps : List Step) → IsSound m → IsAllowed m steps → IsSound (with_new_task m steps)
sound_with_task m steps s allowed = record {
  hall = s.hall;
  linked = record {
    counted = λ t x is. by_push m.tasks (new_task steps) (λ j o. o ≡ Some x → times_due (with_new_task m steps) j ≡ one_if (is_active x.phase))
        (λ same. last ∙ ap (λ (z : TaskRecord). one_if (is_active z.phase)) (inside same))
        (λ j apart was. others j apart ∙ s.linked.counted j x was) t is;
    beyond = λ t none. by_push m.tasks (new_task steps) (λ j o. o ≡ None → times_due (with_new_task m steps) j ≡ 0) (λ some. absurd (cc)) (λ j apart was. others j apart ∙ s.linked.beyond j was) t none;
    has = λ t x is. by_push m.tasks (new_task steps) (λ j o. o ≡ Some x → Has m.hall.futures m.semaphores j x x.phase)
        (λ same. subst (λ z. Has m.hall.futures m.semaphores (length m.tasks) z z.phase) (inside same) tt)
        (λ j apart was. s.linked.has j x was) t is;
    waits = λ f w y is stage.
        let was = s.linked.waits f w y is stage in (
          was.0,
          get-push_other m.tasks (new_task steps) w (λ same. absurd (let within = slice_get_within m.tasks w was.0 was.1 in omega (arith, within, same))) ∙ was.1,
          was.2,
        );
    apart = λ t u f x y is also own its. by_push m.tasks (new_task steps) (λ j o. o ≡ Some x → j ≡ u)
        (λ same. absurd (let none : future_in x.phase ≡ None = ap (λ (z : TaskRecord). future_in z.phase) (sym (inside same)) in cc))
        (λ j away was. by_push m.tasks (new_task steps) (λ k o. o ≡ Some y → j ≡ k)
        (λ same. absurd (let none : future_in y.phase ≡ None = ap (λ (z : TaskRecord). future_in z.phase) (sym (inside same)) in cc))
        (λ k other there. s.linked.apart j k f x y was there own its) u also) t is;
    known = λ t k x step is at. by_push m.tasks (new_task steps) (λ j o. o ≡ Some x → IsKnown (length m.semaphores) step)
        (λ same. known_all m steps allowed.known k step (ap (λ (z : TaskRecord). slice_get z.steps k) (inside same) ∙ at))
        (λ j apart was. s.linked.known j k x step was at) t is;
  };
  bounded = record {
    size = allowed.few;
    turns = (let b = s.bounded.turns in omega (arith, b, count_by-le-length may_rest steps));
    room = (let b = s.bounded.room in omega (arith, b, works));
    low = (let b = s.bounded.low in omega (arith, b, works));
    few = (let b = s.bounded.few in omega (arith, b, turns));
  };
}
  where
    again : (u : ℕ) → times u (m.queue ++ length m.tasks ∷ []) ≡ times u m.queue + cond (length m.tasks == u) 1 0
    again u = let more = sum_by-append {X = ℕ} (λ v. cond (v == u) 1 0) m.queue (length m.tasks ∷ []) in omega (arith, more, sum_by-cons {X = ℕ} (λ v. cond (v == u) 1 0) (length m.tasks) [])

    others : (u : ℕ) → (length m.tasks ≡ u → ⊥) → times_due (with_new_task m steps) u ≡ times_due m u
    others u apart = omega (arith, again u, on_false (length m.tasks == u) 1 (ne_eqb (length m.tasks) u apart))

    last : times_due (with_new_task m steps) (length m.tasks) ≡ 1
    last =
        let none = s.linked.beyond (length m.tasks) (slice_get_past m.tasks (length m.tasks) (omega arith)) in
        omega (arith, none, again (length m.tasks), on_true (length m.tasks == length m.tasks) 1 (eq-eqb (length m.tasks) (length m.tasks) refl))

    works : sum_by moves_left (m.tasks ++ new_task steps ∷ []) ≡ sum_by moves_left m.tasks + (4 * length steps + 2)
    works = sum-push moves_left m.tasks (new_task steps)

    turns : sum_by turns_left (m.tasks ++ new_task steps ∷ []) ≡ sum_by turns_left m.tasks + (takes_and_yields steps + 1)
    turns = sum-push turns_left m.tasks (new_task steps)

-- ---- what an executor keeps
-- an account was told
pub kept_told : (m : Machine) (p q : Play) (s : ℕ) (answer : Answer) (room : ℕ) → IsKept m p room → p.hall ≡ m.hall → m.events < 2 ^ 62 → Plays p m.events (events.Ledger s) answer q
    → IsKept (record m { hall = q.hall; events = m.events + 1 }) q room
kept_told m p q s answer room k same few plays = record {
  sound = subst (λ h. IsSound (record m { hall = h; events = m.events + 1 })) (sym (ap (λ (a : Play). a.hall) plays.moved ∙ same)) (sound_later m k.sound few);
  quiet = ap (λ (a : Play). a.wakes) plays.moved ∙ append-nil p.wakes ∙ k.quiet;
  numbers = ap (λ (a : Play). a.next) plays.moved;
  places = k.places;
}

-- a semaphore was made
pub kept_made : (m : Machine) (p q : Play) (n : ℕ) (answer : Answer) (names : List ℕ) (room : ℕ) → IsKept m p room → p.hall ≡ m.hall → n < 2 ^ 64 → m.events < 2 ^ 62 → Plays p m.events (events.New n) answer q
    → names ≡ m.semaphores ++ m.events ∷ [] → IsKept (record m { hall = q.hall; events = m.events + 1; semaphores = names }) q room
kept_made m p q n answer names room k same fits few plays more = record {
  sound = subst IsSound (λ i. record { hall = sym hall i; events = m.events + 1; semaphores = sym more i; tasks = m.tasks; queue = m.queue; running = m.running; polls = m.polls; added = m.added; allowance = m.allowance }) (sound_with_semaphore m n k.sound fits few);
  quiet = ap (λ (a : Play). a.wakes) plays.moved ∙ append-nil p.wakes ∙ k.quiet;
  numbers = ap (λ (a : Play). a.next) plays.moved;
  places = k.places;
}
  where
    hall : q.hall ≡ (step m.hall m.events (events.New n)).hall
    hall = ap (λ (a : Play). a.hall) plays.moved ∙ ap (λ h. (step h m.events (events.New n)).hall) same

-- a task was added
pub kept_added : (m n : Machine) (p : Play) (steps : List Step) (room more : ℕ) → IsKept m p room → IsAllowed m steps → n ≡ with_new_task m steps → length m.tasks + 1 ≤ more
    → IsKept n p more
kept_added m n p steps room more k allowed is places = record {
  sound = subst IsSound (sym is) (sound_with_task m steps k.sound allowed);
  quiet = k.quiet;
  numbers = k.numbers ∙ sym (ap (λ (a : Machine). a.events) is);
  places = (let count = ap (λ (a : Machine). length a.tasks) is in omega (arith, count, places, length-append m.tasks (new_task steps ∷ [])));
}
