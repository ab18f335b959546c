-- generated scripts are legal, and their polls wait
use Rattle.std.proofs.Common.{◌≡◌, ℕ, zero, suc, ◌+◌, ◌*◌, ◌%◌, ◌++◌, List, [], ◌∷◌, map, length, None, refl, ap, sym, subst, ◌∙◌, arith, append_assoc, unwrap_or, length-append, if◌then◌else◌}
use Rattle.std.specs.List.{sum_by}
use Rattle.std.proofs.lemmas.List.Sums.{sum_by-cons, sum_by-append}
use Rattle.std.specs.FinMap as finmap
use Rattle.std.proofs.Math.Nat.{mod-lt}
use Rattle.mea_family.specs.declared.answer.Answer.{Answer}
use Rattle.mea_family.specs.Family.{is_pending}
use Rattle.mea_base.proofs.Maps.{get-there}
use Rattle.mea_events.specs.declared.sem_event.SemEvent.{SemEvent}
use Rattle.mea_events.specs.declared.sem_event.SemEvent.TheVariants as events
use Rattle.mea_sem_model.specs.Hall as sem
use Rattle.mea_sem_model.specs.Cause as sem_cause
use Rattle.mea_sem_model.proofs.Keeps.{valid_empty, below_empty, keeps_below}
use Rattle.mea_sem_model.proofs.StaysValid.{kept_valid}
use Rattle.mea_events.specs.declared.event.Event.{Event}
use Rattle.mea_events.specs.declared.event.Event.TheVariants.{Sem}
use Rattle.mea_hall.specs.World.{World, empty_world, cause_of, step}
use Rattle.mea_hall.specs.Front.{Front, front_at, front_from, front_of, prepended, IsLegal}
use Rattle.mea_run.specs.Generated.{drawn_by, draw, round, round_of, rounds_from, first_state, script_of, PollsWait, IsBetweenRounds, begun_by, is_semaphore_poll, pendings}
use Rattle.mea_run.proofs.Rounds.{AllPlay, after, number_after, PlaysTo, IsReady, played, round_comes}
use Rattle.mea_family.proofs.Refusals.{is_known}

-- ---- events of semaphores in the world
-- the replies of events of semaphores
abbrev pub told_of : sem.Hall → ℕ → List SemEvent → List (Answer × List ℕ)
told_of h i [] = []
told_of h i (e ∷ es) = ((played h i e).reply, (played h i e).wakes) ∷ told_of (played h i e).hall (i + 1) es

abbrev pub lifted : List SemEvent → List Event
lifted es = map (λ e. Sem e) es

abbrev pub world_after : World → ℕ → List SemEvent → World
world_after w i es = record w { semaphores = after w.semaphores i es }

-- where all of them are played, others go on after them
pub front_after : (w : World) (i k : ℕ) (es : List SemEvent) (fs : List Event) → AllPlay w.semaphores i es → i + length es ≡ k
    → front_from w i (lifted es ++ fs) ≡ prepended (told_of w.semaphores i es) (front_from (world_after w i es) k fs)
unfolding cause_of step played
front_after w i k [] fs plays is = ap (λ j. front_from w j fs) (omega (arith, is))
front_after w i k (e ∷ es) fs plays is =
    let next : Front = front_from (step w i (Sem e)).world (i + 1) (lifted es ++ fs) in
    ap (λ c. front_at c w (step w i (Sem e)).reply next) plays.0
    ∙ ap (front_at None w (step w i (Sem e)).reply) (front_after (step w i (Sem e)).world (i + 1) k es fs plays.3 (omega (arith, is)))

pub polls_after : (h : sem.Hall) (i : ℕ) (es : List SemEvent) (fs : List Event) (rs : List (Answer × List ℕ)) → AllPlay h i es → PollsWait fs rs
    → PollsWait (lifted es ++ fs) (told_of h i es ++ rs)
polls_after h i [] fs rs plays wait = wait
polls_after h i (e ∷ es) fs rs plays wait = (plays.1, polls_after (played h i e).hall (i + 1) es fs rs plays.3 wait)

-- how many of them are polls
abbrev polls_in : List SemEvent → ℕ
polls_in es = sum_by {X = SemEvent} (λ e. if is_semaphore_poll e then 1 else 0) es

-- as many replies are `pending`
pending_told : (h : sem.Hall) (i : ℕ) (es : List SemEvent) → AllPlay h i es → pendings (told_of h i es) ≡ polls_in es
pending_told h i [] plays = refl
pending_told h i (e ∷ es) plays =
    let here : ◌≡◌ {A = ℕ} (if is_pending (played h i e).reply then 1 else 0) (if is_semaphore_poll e then 1 else 0) = ap (λ b. if b then 1 else 0)
    plays.2 in
    omega (
      arith,
      here,
      pending_told (played h i e).hall (i + 1) es plays.3,
      sum_by-cons {X = SemEvent} (λ d. if is_semaphore_poll d then 1 else 0) e es,
      sum_by-cons {X = Answer
          × List ℕ} (λ r. if is_pending r.0 then 1 else 0) ((played h i e).reply, (played h i e).wakes)
          (told_of (played h i e).hall (i + 1) es),
    )

-- ---- rounds
module _ (h : sem.Hall) (state j : ℕ) (ready : IsReady h (1 + 9 * j)) where
  abbrev a : ℕ
  a = draw 1 state

  abbrev b : ℕ
  b = draw 2 state

  abbrev c : ℕ
  c = draw 3 state

  abbrev d : ℕ
  d = draw 4 state

  abbrev f : ℕ
  f = 1 + 9 * j

  abbrev pub events_of_round : List SemEvent
  events_of_round = round f (2 * j) (2 * j + 1) a b c d

  comes : PlaysTo h f events_of_round IsReady
  comes = round_comes f (f + 2) (2 * j) (2 * j + 1) (1 + a % 4) (1 + b % 4) (c % 3) (d % 8) (omega arith) (omega arith) (omega arith) (mod-lt d (omega arith)) h ready

  pub plays : AllPlay h f events_of_round
  plays = comes.plays

  pub again : IsReady (after h f events_of_round) (1 + 9 * (j + 1))
  again = subst (IsReady (after h f events_of_round)) (let same : number_after f events_of_round ≡ 1 + 9 * (j + 1) = omega arith in same) comes.leaves

-- the front of a round and of what comes after it
pub front_round : (w : World) (state j : ℕ) (fs : List Event) (ready : IsReady w.semaphores (1 + 9 * j))
    → front_from w (1 + 9 * j) (round_of state j ++ fs) ≡ prepended (told_of w.semaphores (1 + 9 * j) (events_of_round w.semaphores state j ready))
    (front_from (world_after w (1 + 9 * j) (events_of_round w.semaphores state j ready)) (1 + 9 * (j + 1)) fs)
front_round w state j fs ready = front_after w (1 + 9 * j) (1 + 9 * (j + 1)) (events_of_round w.semaphores state j ready) fs
    (plays w.semaphores state j ready) (omega arith)

abbrev last : List Event
last = Sem (events.Ledger 0) ∷ []

rounds_legal : (n state j : ℕ) (w : World) → IsReady w.semaphores (1 + 9 * j) → (front_from w (1 + 9 * j) (rounds_from state j n ++ last)).cause ≡ None
unfolding cause_of
rounds_legal zero state j w ready = ap (λ c. (front_at c w (step w (1 + 9 * j) (Sem (events.Ledger 0))).reply
    (front_from (step w (1 + 9 * j) (Sem (events.Ledger 0))).world (1 + 9 * j + 1) [])).cause) (is_known (sem_cause.is_named w.semaphores 0) ready.between.named)
rounds_legal (suc n) state j w ready =
    ap (λ es. (front_from w (1 + 9 * j) es).cause) (append_assoc (round_of state j) (rounds_from (drawn_by 4 state) (j + 1) n) last)
    ∙ ap (λ (front : Front). front.cause) (front_round w state j (rounds_from (drawn_by 4 state) (j + 1) n ++ last) ready)
    ∙ rounds_legal n (drawn_by 4 state) (j + 1) (world_after w (1 + 9 * j) (events_of_round w.semaphores state j ready)) (again w.semaphores state j ready)

rounds_wait : (n state j : ℕ) (w : World) → IsReady w.semaphores (1 + 9 * j)
    → PollsWait (rounds_from state j n ++ last) (front_from w (1 + 9 * j) (rounds_from state j n ++ last)).replies
unfolding cause_of
rounds_wait zero state j w ready = subst (λ c. PollsWait last (front_at c w (step w (1 + 9 * j) (Sem (events.Ledger 0))).reply
    (front_from (step w (1 + 9 * j) (Sem (events.Ledger 0))).world (1 + 9 * j + 1) [])).replies)
    (sym (is_known (sem_cause.is_named w.semaphores 0) ready.between.named)) ((λ poll. absurd (cc)), tt)
rounds_wait (suc n) state j w ready =
    let rest : List Event = rounds_from (drawn_by 4 state) (j + 1) n ++ last in
    subst (λ es. PollsWait es (front_from w (1 + 9 * j) es).replies) (sym (append_assoc (round_of state j) (rounds_from (drawn_by 4 state) (j + 1) n) last))
    (subst (λ (front : Front). PollsWait (round_of state j ++ rest) front.replies) (sym (front_round w state j rest ready))
    (polls_after w.semaphores (1 + 9 * j) (events_of_round w.semaphores state j ready) rest _ (plays w.semaphores state j ready)
    (rounds_wait n (drawn_by 4 state) (j + 1) (world_after w (1 + 9 * j) (events_of_round w.semaphores state j ready)) (again w.semaphores state j ready))))

-- ---- the script
abbrev pub first_world : World
first_world = (step empty_world 0 (Sem (events.New 0))).world

pub first_ready : IsReady first_world.semaphores (1 + 9 * 0)
unfolding step
first_ready = record {
  valid = kept_valid sem.empty_hall 0 (events.New 0) valid_empty (below_empty 0) (omega arith) refl;
  below = keeps_below sem.empty_hall 0 (events.New 0) valid_empty (below_empty 0) refl;
  between = record {
    named = ap sem_cause.is_named_semaphore (get-there sem.empty_hall.semaphores 0 (sem.made_with 0));
    is_open = ap (λ o. (unwrap_or o (sem.made_with 0)).closed) (get-there sem.empty_hall.semaphores 0 (sem.made_with 0));
    none_free = ap (λ o. (unwrap_or o (sem.made_with 0)).free) (get-there sem.empty_hall.semaphores 0 (sem.made_with 0));
    no_future = λ f. finmap.get-empty _ f;
    no_permit = λ p. finmap.get-empty _ p;
  };
}

pub script_legal : (seed rounds : ℕ) → IsLegal (script_of seed rounds)
unfolding cause_of
script_legal seed rounds = rounds_legal rounds (first_state seed) 0 first_world first_ready

pub script_waits : (seed rounds : ℕ) → PollsWait (script_of seed rounds) (front_of (script_of seed rounds)).replies
unfolding cause_of
script_waits seed rounds = ((λ poll. absurd (cc)), rounds_wait rounds (first_state seed) 0 first_world first_ready)

-- ---- what the rounds leave
rounds_leave : (n state j : ℕ) (w : World) → IsReady w.semaphores (1 + 9 * j)
    → IsBetweenRounds (front_from w (1 + 9 * j) (rounds_from state j n)).world.semaphores
rounds_leave zero state j w ready = ready.between
rounds_leave (suc n) state j w ready = subst (λ (front : Front). IsBetweenRounds front.world.semaphores)
    (sym (front_round w state j (rounds_from (drawn_by 4 state) (j + 1) n) ready))
    (rounds_leave n (drawn_by 4 state) (j + 1) (world_after w (1 + 9 * j) (events_of_round w.semaphores state j ready)) (again w.semaphores state j ready))

pub begun_leaves : (seed rounds : ℕ) → IsBetweenRounds (front_of (begun_by seed rounds)).world.semaphores
unfolding cause_of
begun_leaves seed rounds = rounds_leave rounds (first_state seed) 0 first_world first_ready

-- ---- how many polls wait
rounds_pending : (n state j : ℕ) (w : World) → IsReady w.semaphores (1 + 9 * j)
    → pendings (front_from w (1 + 9 * j) (rounds_from state j n ++ last)).replies ≡ 2 * n
unfolding cause_of step
rounds_pending zero state j w ready = ap (λ c. pendings (front_at c w (step w (1 + 9 * j) (Sem (events.Ledger 0))).reply
    (front_from (step w (1 + 9 * j) (Sem (events.Ledger 0))).world (1 + 9 * j + 1) [])).replies)
    (is_known (sem_cause.is_named w.semaphores 0) ready.between.named)
rounds_pending (suc n) state j w ready =
    let rest : List Event = rounds_from (drawn_by 4 state) (j + 1) n ++ last in
    let next : World = world_after w (1 + 9 * j) (events_of_round w.semaphores state j ready) in
    let told : List (Answer × List ℕ) = told_of w.semaphores (1 + 9 * j) (events_of_round w.semaphores state j ready) in
    let here : pendings told ≡ 2 = pending_told w.semaphores (1 + 9 * j) (events_of_round w.semaphores state j ready) (plays w.semaphores state j ready) in
    let whole : pendings (front_from w (1 + 9 * j) (rounds_from state j (suc n) ++ last)).replies ≡ pendings
    (told ++ (front_from next (1 + 9 * (j + 1)) rest).replies) =
    ap (λ es. pendings (front_from w (1 + 9 * j) es).replies) (append_assoc (round_of state j) (rounds_from (drawn_by 4 state) (j + 1) n) last)
    ∙ ap (λ (front : Front). pendings front.replies) (front_round w state j rest ready) in
    omega (
      arith,
      here,
      whole,
      sum_by-append {X = Answer × List ℕ} (λ r. if is_pending r.0 then 1 else 0) told (front_from next (1 + 9 * (j + 1)) rest).replies,
      rounds_pending n (drawn_by 4 state) (j + 1) next (again w.semaphores state j ready),
    )

pub script_pending : (seed rounds : ℕ) → pendings (front_of (script_of seed rounds)).replies ≡ 2 * rounds
unfolding cause_of step
script_pending seed rounds = omega (
  arith,
  rounds_pending rounds (first_state seed) 0 first_world first_ready,
  sum_by-cons {X = Answer × List ℕ} (λ r. if is_pending r.0 then 1 else 0) (step empty_world 0 (Sem (events.New 0))).reply
      (front_from first_world 1 (rounds_from (first_state seed) 0 rounds ++ last)).replies,
)

-- ---- how many events there are
length_rounds : (state j n : ℕ) → length (rounds_from state j n) ≡ 9 * n
length_rounds state j zero = refl
length_rounds state j (suc n) = omega
    (arith, length-append (round_of state j) (rounds_from (drawn_by 4 state) (j + 1) n), length_rounds (drawn_by 4 state) (j + 1) n)

pub length_script : (seed n : ℕ) → length (script_of seed n) ≡ 9 * n + 2
length_script seed n = omega (arith, length_rounds (first_state seed) 0 n, length-append (rounds_from (first_state seed) 0 n) last)
