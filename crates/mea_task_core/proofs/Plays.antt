-- the code's moves are those of the machine
use Rattle.std.proofs.Common.{append-nil, ◌≡◌, ◌≢◌, ◌⊎◌, inl, inr, Result, Err, ℕ, ◌+◌, ◌^◌, ◌<◌, ◌≤◌, Bool, true, false, List, [], ◌∷◌, ◌++◌, Option, Some, None, refl, ap, sym, subst, ◌∙◌, arith, slice_get, slice_set, slice_index, get_or, length, length-append, nat_le, if◌then◌else◌}
use Rattle.std.specs.FinMap.{get}
use Rattle.std.proofs.lemmas.Option.{slice_get_within, get_or_from_slice_get, slice_get-get_or}
use Rattle.mea_family.specs.declared.answer.Answer.{Answer}
use Rattle.mea_family.specs.declared.answer.Answer.TheVariants as answers
use Rattle.mea_family.specs.declared.stop.Stop.{Stop}
use Rattle.mea_family.specs.declared.stop.Stop.TheVariants as stops_of
use Rattle.mea_family.specs.Family.{is_pending}
use Rattle.mea_sem.specs.Play.{Play, Plays}
use Rattle.mea_events.specs.declared.sem_event.SemEvent.{SemEvent}
use Rattle.mea_events.specs.declared.sem_event.SemEvent.TheVariants as events
use Rattle.mea_sem_model.specs.Hall.{Hall, Future, FutureStage, New, Waiting, Granted, Cut, semaphore_at, is_closed, free, with_semaphore}
use Rattle.mea_sem_model.specs.Cause.{cause_of}
use Rattle.mea_sem_model.specs.Step.{quietly, taking, made_ready, queueing, refusing, open_poll, poll_at, poll_of, step}
use Rattle.mea_task_core.specs.declared.step.Step.{Step}
use Rattle.mea_task_core.specs.declared.step.Step.TheVariants.{Take}
use Rattle.mea_task_core.specs.declared.phase.Phase.TheVariants.{Asks, Waits, Finished, Failed}
use Rattle.mea_task_core.specs.Task.{TaskRecord, at_phase, past, over, next_step}
use Rattle.mea_task_core.specs.Machine.{Machine, name_of, with_task, stops, woken, played, outcome_of, gives, yields, comes_to, begins, goes_on, move_by, move}
use Rattle.mea_task_core.specs.Sound.{IsSound}
use Rattle.mea_task_core.specs.Kept.{IsKept}
use Rattle.mea_task_core.specs.Turns.{ComesTo, ComesToItsEnd, ComesToYield, ComesToAsk, ComesToPoll, release, ComesToGive}
use Rattle.mea_task_core.proofs.Moves.{sound_move, same_count}
use Rattle.mea_task_core.proofs.Ends.{queue_fits}

-- what an executor keeps, after a move
pub kept_move : (m n : Machine) (p q : Play) (room more : ℕ) → IsKept m p room → n ≡ move m → q.wakes ≡ [] → q.next ≡ n.events → room ≤ more → IsKept n q more
kept_move m n p q room more k is quiet numbers grows = record {
  sound = subst IsSound (sym is) (sound_move m k.sound);
  quiet = quiet;
  numbers = numbers;
  places = (let count = ap (λ (a : Machine). length a.tasks) is in let same = same_count m k.sound in let before = k.places in omega (arith, count, same, before, grows));
}

-- ---- a poll wakes nobody
pub quiet_poll : (h : Hall) (i f w : ℕ) → (step h i (events.Poll f w)).wakes ≡ []
quiet_poll h i f w = by_option (get h.futures f)
  where
    by_free : (x : Future) (b : Bool) → (if b then quietly (made_ready (with_semaphore h x.semaphore (taking (semaphore_at h x.semaphore) x.demand)) i f x) answers.Ready else quietly (queueing h f w x) answers.Pending).wakes ≡ []
    by_free x true = refl
    by_free x false = refl

    by_closed : (x : Future) (b : Bool) → (if b then refusing h f else open_poll h i f w x).wakes ≡ []
    by_closed x true = refl
    by_closed x false = by_free x (nat_le x.demand (free h x.semaphore))

    by_stage : (x : Future) (t : FutureStage) → (poll_at h i f w x t).wakes ≡ []
    by_stage x New = by_closed x (is_closed h x.semaphore)
    by_stage x (Waiting v) = refl
    by_stage x Granted = refl
    by_stage x Cut = refl

    by_option : (o : Option Future) → (poll_of h i f w o).wakes ≡ []
    by_option None = refl
    by_option (Some x) = by_stage x x.stage

-- ---- an event on the hall of an executor
-- the event was played: this is the hall after it, and its reply
pub record HasPlayed (m : Machine) (e : SemEvent) (answer : Answer) (p : Play) : Type 0 where
  pub hall : p.hall ≡ (outcome_of m e).hall
  pub wakes : p.wakes ≡ (outcome_of m e).wakes
  pub next : p.next ≡ m.events + 1
  pub reply : answer ≡ (outcome_of m e).reply

pub has_played : (m : Machine) (p q : Play) (e : SemEvent) (answer : Answer) → p.hall ≡ m.hall → p.wakes ≡ [] → Plays p m.events e answer q → HasPlayed m e answer q
has_played m p q e answer hall quiet plays = record {
  hall = ap (λ (a : Play). a.hall) plays.moved ∙ ap (λ h. (step h m.events e).hall) hall;
  wakes = ap (λ (a : Play). a.wakes) plays.moved ∙ ap (λ ws. ws ++ (step p.hall m.events e).wakes) quiet ∙ ap (λ h. (step h m.events e).wakes) hall;
  next = ap (λ (a : Play). a.next) plays.moved;
  reply = plays.replied ∙ ap (λ h. (step h m.events e).reply) hall;
}

-- the semaphore of which it takes is there
pub takes_known : (m : Machine) (t s n : ℕ) → IsSound m → ComesToAsk m t s n → s < length m.semaphores
takes_known m t s n sound next = sound.linked.known t next.task.position next.task (Take s n) next.there next.next

-- by the name that the code reads
pub played_by : (m : Machine) (o p : Play) (e : ℕ → SemEvent) (answer : Answer) (s name : ℕ) → o.hall ≡ m.hall → o.wakes ≡ [] → name ≡ name_of m s → Plays o m.events (e name) answer p → HasPlayed m (e (name_of m s)) answer p
played_by m o p e answer s name hall quiet is plays = has_played m o p (e (name_of m s)) answer hall quiet (subst (λ k. Plays o m.events (e k) answer p) is plays)

-- a poll that was played woke nobody
pub wakes_nobody : (m : Machine) (f w : ℕ) (answer : Answer) (p : Play) → HasPlayed m (events.Poll f w) answer p → p.wakes ≡ []
wakes_nobody m f w answer p event = event.wakes ∙ quiet_poll m.hall m.events f w

-- a yield has its place in the run queue
pub yield_fits : (m : Machine) (t : ℕ) → IsSound m → ComesToYield m t → length m.queue < length m.tasks
yield_fits m t s next =
    let fits = queue_fits _ (subst IsSound next.is (sound_move m s)) in
    let as_many : length (yields m t next.task).tasks ≡ length m.tasks = ap (λ (a : Machine). length a.tasks) (sym next.is) ∙ same_count m s in
    omega (arith, fits, as_many, length-append m.queue (t ∷ []))

-- ---- what the code reads
pub read_is : (tasks : List TaskRecord) (t : ℕ) (x d : TaskRecord) → slice_get tasks t ≡ Some x → d ≡ get_or tasks t d → d ≡ x
read_is tasks t x d at value = value ∙ get_or_from_slice_get tasks t x d at

pub name_is : (names : List ℕ) (s d : ℕ) → s < length names → d ≡ get_or names s d → d ≡ slice_index names s
name_is names s d less value = value ∙ get_or_from_slice_get names s (get_or names s 0) d (slice_get-get_or names s 0 less)

pub inside_steps : (x : TaskRecord) (s : Step) → next_step x ≡ Some s → x.position < length x.steps
inside_steps x s is = slice_get_within x.steps x.position s is

-- ---- what the code makes of a machine is what the move makes of it
module _ (m : Machine) (t : ℕ) (d y : TaskRecord) (value : d ≡ get_or m.tasks t d) where
  pub finish_is : ComesToItsEnd m t → y ≡ over Finished → record m { tasks = slice_set m.tasks t y; running = None } ≡ move m
  finish_is next is =
      ap (λ z. stops (with_task m t z)) is ∙ sym next.is

  pub fail_is : (stop : Stop) (q n : ℕ) (h : Hall) → h ≡ m.hall → ComesToGive m t q n → cause_of m.hall (release m q n) ≡ Some stop → y ≡ over Failed
      → record m { hall = h; tasks = slice_set m.tasks t y; running = None } ≡ move m
  fail_is stop q n h hall next refused is =
      ap (λ k. record (stops (with_task m t y)) { hall = k }) hall ∙ ap (λ z. stops (with_task m t z)) is ∙ sym (next.is ∙ ap (λ c. gives m t next.task c (outcome_of m (release m q n))) refused)

  pub yield_is : (queue : List ℕ) → ComesToYield m t → y ≡ past d → queue ≡ m.queue ++ t ∷ []
      → record m { tasks = slice_set m.tasks t y; queue = queue; running = None } ≡ move m
  yield_is queue next is last =
      let same = read_is m.tasks t next.task d next.there value in
      let passed : y ≡ past next.task = is ∙ ap past same in
      (λ i. record { hall = m.hall; events = m.events; semaphores = m.semaphores; tasks = slice_set m.tasks t (passed i); queue = last i; running = None; polls = m.polls; added = m.added; allowance = m.allowance }) ∙ sym next.is

  pub ask_is : (s n : ℕ) (answer : Answer) (p : Play) → ComesToAsk m t s n → y ≡ at_phase d (Asks m.events) → HasPlayed m (events.Acqf (name_of m s) n) answer p
      → record m { hall = p.hall; events = m.events + 1; tasks = slice_set m.tasks t y } ≡ move m
  ask_is s n answer p next is event =
      let same = read_is m.tasks t next.task d next.there value in
      let asked : y ≡ at_phase next.task (Asks m.events) = is ∙ ap (λ z. at_phase z (Asks m.events)) same in
      (λ i. record { hall = event.hall i; events = m.events + 1; semaphores = m.semaphores; tasks = slice_set m.tasks t (asked i); queue = sym (append-nil m.queue) i; running = m.running; polls = m.polls; added = m.added; allowance = m.allowance }) ∙ sym next.is

  module _ (f : ℕ) (answer : Answer) (p : Play) (next : ComesToPoll m t f) (event : HasPlayed m (events.Poll f t) answer p) where
    quiet : [] ≡ (outcome_of m (events.Poll f t)).wakes
    quiet = sym (quiet_poll m.hall m.events f t)

    queue_still : m.queue ≡ m.queue ++ (outcome_of m (events.Poll f t)).wakes
    queue_still = sym (append-nil m.queue) ∙ ap (λ ws. m.queue ++ ws) quiet

    -- what the move is, by whether the reply is `pending`
    polled_then : (b : Bool) → is_pending answer ≡ b
        → move m ≡ (if b then stops (with_task (played m (outcome_of m (events.Poll f t))) t (at_phase next.2.task (Waits f))) else with_task (played m (outcome_of m (events.Poll f t))) t (past next.2.task))
    polled_then b is =
        next.2.is
        ∙ ap (λ c. if c then stops (with_task (played m (outcome_of m (events.Poll f t))) t (at_phase next.2.task (Waits f))) else with_task (played m (outcome_of m (events.Poll f t))) t (past next.2.task))
        (ap is_pending (sym event.reply) ∙ is)

    pub wait_is : is_pending answer ≡ true → y ≡ at_phase d (Waits f) → record m { hall = p.hall; events = m.events + 1; tasks = slice_set m.tasks t y; running = None } ≡ move m
    wait_is pending is =
        let waits : y ≡ at_phase next.2.task (Waits f) = is ∙ ap (λ z. at_phase z (Waits f)) (read_is m.tasks t next.2.task d next.2.there value) in
        (λ i. record { hall = event.hall i; events = m.events + 1; semaphores = m.semaphores; tasks = slice_set (woken m.tasks (quiet i)) t (waits i); queue = queue_still i; running = None; polls = m.polls; added = m.added; allowance = m.allowance })
        ∙ sym (polled_then true pending)

    pub ready_is : is_pending answer ≡ false → y ≡ past d → record m { hall = p.hall; events = m.events + 1; tasks = slice_set m.tasks t y } ≡ move m
    ready_is ready is =
        let passed : y ≡ past next.2.task = is ∙ ap past (read_is m.tasks t next.2.task d next.2.there value) in
        (λ i. record { hall = event.hall i; events = m.events + 1; semaphores = m.semaphores; tasks = slice_set (woken m.tasks (quiet i)) t (passed i); queue = queue_still i; running = m.running; polls = m.polls; added = m.added; allowance = m.allowance })
        ∙ sym (polled_then false ready)

-- ---- a turn begins
pub begin_is : (m : Machine) (t : ℕ) (ts : List ℕ) → m.running ≡ None → m.queue ≡ t ∷ ts → record m { queue = ts; running = Some t; polls = m.polls + 1 } ≡ move m
unfolding move
begin_is m t ts off first = sym (ap (move_by m) off ∙ ap (begins m) first)

pub rest_is : (m : Machine) (queue : List ℕ) → m.running ≡ None → m.queue ≡ [] → queue ≡ m.queue → record m { queue = queue } ≡ move m
unfolding move
rest_is m queue off none same = (λ i. record m { queue = same i }) ∙ sym (ap (move_by m) off ∙ ap (begins m) none)

-- ---- what comes next
comes_next : (m : Machine) (t : ℕ) (x : TaskRecord) (o : Option Step) → m.running ≡ Some t → slice_get m.tasks t ≡ Some x → next_step x ≡ o → move m ≡ comes_to m t x o
unfolding move
comes_next m t x o on there next = ap (move_by m) on ∙ ap (goes_on m t) there ∙ ap (comes_to m t x) next

-- task t comes to the step that the code reads
pub comes_to_read : (m : Machine) (t : ℕ) (x d : TaskRecord) (o : Option Step) → m.running ≡ Some t → slice_get m.tasks t ≡ Some x → d ≡ get_or m.tasks t d → o ≡ next_step d → ComesTo m t o (λ y. comes_to m t y o)
comes_to_read m t x d o on there value read =
    let next : next_step x ≡ o = ap next_step (sym (read_is m.tasks t x d there value)) ∙ sym read in
    record { task = x; on = on; there = there; next = next; is = comes_next m t x o on there next }

-- and the move is what this step makes of the machine
pub comes_as : (m : Machine) (t : ℕ) (o : Option Step) (after other : TaskRecord → Machine) → ComesTo m t o after → ((y : TaskRecord) → slice_get m.tasks t ≡ Some y → after y ≡ other y) → ComesTo m t o other
comes_as m t o after other next same = record { task = next.task; on = next.on; there = next.there; next = next.next; is = next.is ∙ same next.task next.there }

-- an event that takes no memory is refused for a cause
pub refused_is : (cause : Option Stop) (stop : Stop) → (cause ≡ Some stop) ⊎ ((cause ≡ None) × (stop ≡ stops_of.NoMemory)) → (◌≢◌ {A = Result Answer Stop} (Err stop) (Err stops_of.NoMemory)) → cause ≡ Some stop
refused_is cause stop either takes_none = elim either [ inl refused ↦ refused | inr both ↦ absurd (takes_none (ap (λ z. Err z) both.1)) ]
