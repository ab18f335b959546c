-- what holds before a line holds after it
use Rattle.std.proofs.Common.{◌≡◌, ℕ, ◌+◌, ◌≤◌, ◌&&◌, Bool, true, false, List, [], ◌∷◌, ◌++◌, Option, Some, None, refl, ap, sym, subst, arith, length, is_some, length-append, if◌then◌else◌}
use Rattle.std.proofs.lemmas.Option.{option_and_then_some}
use Rattle.mea_script.specs.Rules.{IsEvent}
use Rattle.mea_text.proofs.Readings.{some_same}
use Rattle.mea_task_core.specs.declared.step.Step.{Step as TaskStep}
use Rattle.mea_task_core.specs.Adding.{is_known}
use Rattle.mea_task_core.specs.Machine.{Machine}
use Rattle.mea_task_run.specs.declared.event.TaskEvent.{TaskEvent}
use Rattle.mea_task_run.specs.declared.event.TaskEvent.TheVariants.{Sem, Task, Step}
use Rattle.mea_task_run.specs.Lines.{event_of}
use Rattle.mea_task_run.specs.Machine.{Program, admits, after, with_latest, with_step, size_of, AreKnown, StandsAt, task_rules}
use Rattle.mea_task_run.proofs.Known.{latest_more, latest_push}

-- ---- an event is one here
pub event_admitted : (p : Program) (e : TaskEvent) → IsEvent task_rules p e → admits p e ≡ true
unfolding task_rules
event_admitted p e found = option_and_then_some (λ k. if admits p k then Some k else None) (event_of found.0) e found.1 (λ k read made. by_test k (admits p k) refl made)
  where
    by_test : (k : TaskEvent) (b : Bool) → admits p k ≡ b → (if b then Some k else None) ≡ Some e → admits p e ≡ true
    by_test k true is made = subst (λ x. admits p x ≡ true) (some_same k e made) is
    by_test k false is made = absurd (cc)

-- ---- after a line
and_left : (a b : Bool) → (a && b) ≡ true → b ≡ true
and_left true b is = is
and_left false b is = absurd (cc)

size_step : (latest : Option (List TaskStep)) (s : TaskStep) → size_of (with_step latest s) ≤ size_of latest + 1
size_step None s = omega arith
size_step (Some steps) s = omega (arith, length-append steps (s ∷ []))

-- the latest task is added
pub added_latest : (m : Machine) (latest : Option (List TaskStep)) → (with_latest m latest).added ≡ m.added + size_of latest
added_latest m None = omega arith
added_latest m (Some steps) = refl

pub events_latest : (m : Machine) (latest : Option (List TaskStep)) → (with_latest m latest).events ≡ m.events
events_latest m None = refl
events_latest m (Some steps) = refl

pub semaphores_latest : (m : Machine) (latest : Option (List TaskStep)) → (with_latest m latest).semaphores ≡ m.semaphores
semaphores_latest m None = refl
semaphores_latest m (Some steps) = refl

pub stands_after : (p : Program) (n : ℕ) (e : TaskEvent) → StandsAt p n → admits p e ≡ true → StandsAt (after p e) (n + 1)
stands_after p n (Sem permits) s is =
    let more : length (p.machine.semaphores ++ p.machine.events ∷ []) ≡ length p.machine.semaphores + 1 = length-append p.machine.semaphores (p.machine.events ∷ []) in
    record {
      events = omega (arith, s.events);
      semaphores = omega (arith, s.semaphores, more);
      added = omega (arith, s.added);
      known = subst (λ count. AreKnown count p.latest) (sym more) (latest_more (length p.machine.semaphores) p.latest s.known);
    }
stands_after p n Task s is = record {
  events = omega (arith, s.events, events_latest p.machine p.latest);
  semaphores = omega (arith, s.semaphores, ap length (semaphores_latest p.machine p.latest));
  added = omega (arith, s.added, added_latest p.machine p.latest);
  known = tt;
}
stands_after p n (Step step) s is = record {
  events = omega (arith, s.events);
  semaphores = omega (arith, s.semaphores);
  added = omega (arith, s.added, size_step p.latest step);
  known = latest_push (length p.machine.semaphores) p.latest step s.known (and_left (is_some p.latest) (is_known (length p.machine.semaphores) step) is);
}
