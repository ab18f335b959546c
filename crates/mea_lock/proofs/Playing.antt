-- what is said of the locks of one kind, and of all with condition variables
use Rattle.std.proofs.Common.{◌≡◌, ℕ, ◌+◌, ◌++◌, length, ap, sym, subst, ◌∙◌, arith}
use Rattle.mea_family.specs.declared.answer.Answer.{Answer}
use Rattle.mea_family.specs.Family.{Outcome}
use Rattle.mea_base.specs.Ready.{Waking}
use Rattle.mea_family.specs.Play.{Part, PartYields}
use Rattle.mea_by_name.specs.NamedQueue.{Waiting}
use Rattle.mea_base.proofs.Totals.{total-empty}
use Rattle.mea_events.specs.declared.lock_event.LockEvent.{LockEvent}
use Rattle.mea_lock_model.specs.Locks.{Lock, Locks, registered, waiting_at}
use Rattle.mea_lock_model.specs.Condvars as condvars
use Rattle.mea_lock_model.specs.Condvars.{Condvars}
use Rattle.mea_lock_model.specs.Actions.{Action}
use Rattle.mea_lock_model.specs.LockHall.{LockHall, Mutexes, RwLocks, empty_hall, registered as all_registered}
use Rattle.mea_lock_model.specs.Meaning.{Meaning, OnLocks, OnCondvars, meaning_of, step, step_by}
use Rattle.mea_lock.specs.Halls.{hall_of, AreBelow, PlaysOne, PlaysBy}

-- ---- what an event leaves
pub none_registered : all_registered empty_hall ≡ 0
none_registered = omega (arith, total-empty (λ o (r : Lock). length (waiting_at r)), total-empty (λ o (q : Waiting). length q))

-- what was done to the locks of one kind: next numbers, and the registered wakers counted
module _ (p q : Part Locks) (v : Part Condvars) (i : ℕ) (a : Action) (answer : Answer) (p' q' : Part Locks) (v' : Part Condvars) (before after : Waking ℕ) (one : PlaysOne p q v i a answer p' q' v' before after) where
  one_counted : after.registered + (registered p.hall + registered q.hall + condvars.registered v.hall) ≡ before.registered + (registered p'.hall + registered q'.hall + condvars.registered v'.hall)
  one_counted =
      let moved = ap (λ (p : Part Locks). registered p.hall) one.yields.moved in
      let same = ap (λ (p : Part Locks). registered p.hall) one.same in
      let still = ap (λ (p : Part Condvars). condvars.registered p.hall) one.still in
      omega (arith, moved, same, still, one.yields.counted)

module _ (m l : Part Locks) (v : Part Condvars) (m' l' : Part Locks) (v' : Part Condvars) (before after : Waking ℕ) (next i : ℕ) (answer : Answer) (held : AreBelow m l v i) where
  counted_by : (d : Meaning) → PlaysBy d m l v i answer m' l' v' before after → after.registered + all_registered (hall_of m l v) ≡ before.registered + all_registered (hall_of m' l' v')
  counted_by (OnLocks Mutexes a) one = omega (arith, one_counted m l v i a answer m' l' v' before after one)
  counted_by (OnLocks RwLocks a) one = omega (arith, one_counted l m v i a answer l' m' v' before after one)
  counted_by (OnCondvars a) (waits, same) =
      let other = ap (λ (p : Part Locks). registered p.hall) same in
      omega (arith, other, waits.counted)

  -- the same hall in other words: what it replied, what it left, and the wakers that it made ready
  yielding : (d : Meaning) (o : Outcome LockHall) → PlaysBy d m l v i answer m' l' v' before after → answer ≡ o.reply → hall_of m' l' v' ≡ o.hall → after.wakers ≡ before.wakers ++ o.wakes
      → PartYields all_registered (record { hall = hall_of m l v; next = next }) i o answer (record { hall = hall_of m' l' v'; next = i + 1 }) before after
  yielding d o plays replied hall woken = record {
    replied = replied;
    moved = ap (λ h. record { hall = h; next = i + 1 }) hall;
    woken = woken;
    counted = counted_by d plays ∙ ap (λ h. before.registered + all_registered h) hall;
  }

  yields_by : (d : Meaning) → PlaysBy d m l v i answer m' l' v' before after
      → PartYields all_registered (record { hall = hall_of m l v; next = next }) i (step_by (hall_of m l v) i d) answer (record { hall = hall_of m' l' v'; next = i + 1 }) before after
  yields_by (OnLocks Mutexes a) one = yielding (OnLocks Mutexes a) _ one one.yields.replied (λ j. hall_of (one.yields.moved j) (one.same j) (one.still j)) one.yields.woken
  yields_by (OnLocks RwLocks a) one = yielding (OnLocks RwLocks a) _ one one.yields.replied (λ j. hall_of (one.same j) (one.yields.moved j) (one.still j)) one.yields.woken
  yields_by (OnCondvars a) (waits, same) = yielding (OnCondvars a) _ (waits, same) (ap (λ (o : Outcome LockHall). o.reply) (sym (waits.moved l)))
      ((λ j. hall_of m' (same j) v') ∙ (λ j. (sym (waits.moved l) j).hall)) (waits.woken ∙ (λ j. before.wakers ++ (sym (waits.moved l) j).wakes))

  -- what was played on the parts was played on the hall
  pub yields_all : (e : LockEvent) (d : Meaning) → d ≡ meaning_of e → PlaysBy d m l v i answer m' l' v' before after
      → PartYields all_registered (record { hall = hall_of m l v; next = next }) i (step (hall_of m l v) i e) answer (record { hall = hall_of m' l' v'; next = i + 1 }) before after
  yields_all e d is plays = subst (λ d. PartYields all_registered (record { hall = hall_of m l v; next = next }) i (step_by (hall_of m l v) i d) answer (record { hall = hall_of m' l' v'; next = i + 1 }) before after) is (yields_by d plays)
