-- a task gives: its release is played, and those whom it wakes are due
use Rattle.std.proofs.Common.{◌≡◌, ℕ, ◌+◌, ◌<◌, ◌≤◌, ◌==◌, cond, List, [], ◌++◌, Some, None, ap, sym, subst, ◌∙◌, arith, slice_get, slice_set, get_or, length, length-append}
use Rattle.std.proofs.lemmas.List.Sums.{sum_by-append}
use Rattle.std.proofs.lemmas.Option.{slice_get_within}
use Rattle.mea_family.specs.declared.answer.Answer.{Answer}
use Rattle.mea_sem.specs.Play.{Play, Plays}
use Rattle.mea_events.specs.declared.sem_event.SemEvent.TheVariants as events
use Rattle.mea_sem_model.specs.Cause.{cause_of}
use Rattle.mea_sem_model.specs.Step.{Outcome}
use Rattle.mea_task_core.specs.declared.step.Step.TheVariants.{Give}
use Rattle.mea_task_core.specs.Task.{TaskRecord, past, woken_phase}
use Rattle.mea_task_core.specs.Machine.{Machine, name_of, with_task, woken, played, outcome_of, gives, move}
use Rattle.mea_task_core.specs.Sound.{IsSound, times}
use Rattle.mea_task_core.specs.Kept.{IsKept}
use Rattle.mea_task_core.specs.Turns.{release, ComesToGive}
use Rattle.mea_task_core.proofs.Moves.{sound_move, same_count, gives_queued}
use Rattle.mea_task_core.proofs.Tasks.{get-woken_still}
use Rattle.mea_task_core.proofs.Ends.{queue_fits, due_there}
use Rattle.mea_task_core.proofs.Plays.{HasPlayed, played_by, kept_move, read_is, inside_steps}

-- the semaphore to which it gives is there
pub gives_known : (m : Machine) (t q n : ℕ) → IsSound m → ComesToGive m t q n → q < length m.semaphores
gives_known m t q n s next = s.linked.known t next.task.position next.task (Give q n) next.there next.next

-- task t of a sound machine gave, and this is the hall after its release
pub record HasGiven (m : Machine) (t q n : ℕ) (answer : Answer) (p : Play) : Type 0 where
  pub sound : IsSound m
  pub next : ComesToGive m t q n
  pub allowed : cause_of m.hall (release m q n) ≡ None
  pub event : HasPlayed m (release m q n) answer p

-- by the name that the code reads
pub has_given : (m : Machine) (t q n name : ℕ) (answer : Answer) (o p : Play) (room : ℕ) → o.hall ≡ m.hall → IsKept m o room → ComesToGive m t q n → name ≡ name_of m q
    → cause_of m.hall (events.Release name n) ≡ None → Plays o m.events (events.Release name n) answer p → HasGiven m t q n answer p
has_given m t q n name answer o p room hall kept next is allowed plays = record {
  sound = kept.sound;
  next = next;
  allowed = subst (λ k. cause_of m.hall (events.Release k n) ≡ None) is allowed;
  event = played_by m o p (λ k. events.Release k n) answer q name hall kept.quiet is plays;
}

module _ (m : Machine) (t q n : ℕ) (answer : Answer) (p : Play) (g : HasGiven m t q n answer p) where
  abbrev given : Outcome
  given = outcome_of m (release m q n)

  gives_then : move m ≡ with_task (played m given) t (past g.next.task)
  gives_then = g.next.is ∙ ap (λ c. gives m t g.next.task c given) g.allowed

  sound_then : IsSound (with_task (played m given) t (past g.next.task))
  sound_then = subst IsSound gives_then (sound_move m g.sound)

  as_many : length (with_task (played m given) t (past g.next.task)).tasks ≡ length m.tasks
  as_many = ap (λ (a : Machine). length a.tasks) (sym gives_then) ∙ same_count m g.sound

  -- those whom the release wakes have places in the run queue
  pub wakes_fit : length m.queue + length p.wakes ≤ length m.tasks
  wakes_fit = let fits = queue_fits _ sound_then in omega (arith, fits, as_many, ap length g.event.wakes, length-append m.queue given.wakes)

  -- and are tasks
  pub wakes_there : (w : ℕ) → 1 ≤ times w p.wakes → w < length m.tasks
  wakes_there w some =
      let one = subst (λ ws. 1 ≤ times w ws) g.event.wakes some in
      let there = due_there _ sound_then w (let all = sum_by-append {X = ℕ} (λ v. cond (v == w) 1 0) m.queue given.wakes in omega (arith, all, one)) in
      omega (arith, there, as_many)

  -- those are woken, and stand in the run queue
  module _ (r : Play) (rests : r ≡ record p { wakes = [] }) (tasks : List TaskRecord) (those : tasks ≡ woken m.tasks p.wakes) where
    -- the task that gives is as it was
    giver : slice_get tasks t ≡ Some g.next.task
    giver = ap (λ ts. slice_get ts t) those
        ∙ (let queued = gives_queued m t g.next.task g.sound g.next.on g.next.there q n g.next.next in
        get-woken_still m.tasks p.wakes t g.next.task g.next.there (ap woken_phase queued ∙ sym queued))

    pub giver_there : t < length tasks
    giver_there = slice_get_within tasks t g.next.task giver

    -- its step is one of its own
    pub giver_inside : (d : TaskRecord) → d ≡ get_or tasks t d → d.position < length d.steps
    giver_inside d value = subst (λ (z : TaskRecord). z.position < length z.steps) (sym (read_is tasks t g.next.task d giver value)) (inside_steps g.next.task (Give q n) g.next.next)

    -- the machine is then what the move makes of it
    pub give_is : (d y : TaskRecord) → d ≡ get_or tasks t d → y ≡ past d → (queue : List ℕ) → queue ≡ m.queue ++ p.wakes
        → record m { hall = r.hall; events = m.events + 1; tasks = slice_set tasks t y; queue = queue } ≡ move m
    give_is d y value is queue last =
        let hall = ap (λ (a : Play). a.hall) rests ∙ g.event.hall in
        let all = those ∙ ap (woken m.tasks) g.event.wakes in
        let passed : y ≡ past g.next.task = is ∙ ap past (read_is tasks t g.next.task d giver value) in
        let line = last ∙ ap (λ ws. m.queue ++ ws) g.event.wakes in
        (λ i. record { hall = hall i; events = m.events + 1; semaphores = m.semaphores; tasks = slice_set (all i) t (passed i); queue = line i; running = m.running; polls = m.polls; added = m.added; allowance = m.allowance }) ∙ sym gives_then

    pub give_keeps : (d y : TaskRecord) → d ≡ get_or tasks t d → y ≡ past d → (queue : List ℕ) → queue ≡ m.queue ++ p.wakes → (o : Play) (room more : ℕ) → IsKept m o room → room ≤ more
        → IsKept (record m { hall = r.hall; events = m.events + 1; tasks = slice_set tasks t y; queue = queue }) r more
    give_keeps d y value is queue last o room more kept grows =
        kept_move m _ o r room more kept (give_is d y value is queue last) (ap (λ (a : Play). a.wakes) rests) (ap (λ (a : Play). a.next) rests ∙ g.event.next) grows
