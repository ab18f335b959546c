-- the futures that wait, who are those that an event can wake, and the events that make one wait
use Rattle.std.specs.Prelude.{ℕ, ◌+◌, Bool, true, false, List, [], ◌∷◌}
use Rattle.mea_base.specs.Totals.{total}
use Rattle.mea_events.specs.declared.sem_event.SemEvent.{SemEvent}
use Rattle.mea_events.specs.declared.sem_event.SemEvent.TheVariants as events
use Rattle.mea_sem_model.specs.Hall.{Hall, Semaphore, Who, Waiter, Debt}

-- how many of a queue are futures; a debt has no waker
abbrev pub waiters_in : List (Who × ℕ) → ℕ
waiters_in [] = 0
waiters_in ((Waiter f, n) ∷ q) = waiters_in q + 1
waiters_in ((Debt, n) ∷ q) = waiters_in q

-- how many futures wait in all queues of a hall
abbrev pub waiters : Hall → ℕ
waiters h = total {X = Semaphore} (λ s r. waiters_in r.queue) h.semaphores

-- whether an event can make one more future wait; a poll alone can
abbrev pub registers : SemEvent → Bool
registers (events.Poll f w) = true
registers _ = false
