-- what an event leaves of semaphores and of the list that it is lent, in the words of their contract
use Rattle.std.proofs.Common.{◌≡◌, ℕ, ◌+◌, ◌≤◌, ◌++◌, List, [], refl, ap, sym, subst, ◌∙◌, arith, append-nil}
use Rattle.mea_base.specs.Ready.{Waking}
use Rattle.mea_family.specs.declared.answer.Answer.{Answer}
use Rattle.mea_family.specs.Play.{Part, PartYields, PartRests}
use Rattle.mea_sem_model.specs.Hall.{Hall}
use Rattle.mea_sem_model.specs.Step.{Outcome}
use Rattle.mea_sem_model.specs.Waiters.{waiters}
use Rattle.mea_sem.specs.declared.family.SemFamily.TheInside.{Inside as Kept}
use Rattle.mea_sem.specs.Play.{Play}
use Rattle.mea_sem.specs.Store.{Store, hall_of}
use Rattle.mea_sem.specs.Kept.{AreKept, AreKeptSemaphores}
use Rattle.mea_sem.proofs.Inside.{Inside, lent, part_of}
use Rattle.mea_sem.proofs.Meets.{Meets, Done, hall_in, registered_in, IsKeptIn}
use Rattle.mea_sem.proofs.StandingSemaphores.{kept_room}
use Rattle.mea_sem.proofs.Registered.{waiters-counted, waiters-kept}

-- semaphores that are lent no list
abbrev pub alone : Kept → Inside
alone k = lent k (record { wakers = []; registered = registered_in (lent k (record { wakers = []; registered = 0 })) })

-- a list that counts those that wait has room for their wakers
pub kept_lent : (k : Kept) (w : Waking ℕ) {p : Part Hall} → ◌≡◌ {A = Part Hall} (record { hall = hall_in (lent k w); next = k.next }) p → IsKeptIn (alone k) → waiters p.hall ≤ w.registered → IsKeptIn (lent k w)
kept_lent k w {p} seen kept room =
    let count : registered_in (lent k w) ≡ waiters p.hall = waiters-counted (alone k) (ap (λ q. record { hall = q.hall; wakes = []; next = q.next }) seen) kept in
    kept_room w.registered kept (omega (arith, count, room))

-- what is kept says nothing of the list
pub own : {st : Store} {w sp n : ℕ} → AreKeptSemaphores st w sp n → AreKept st n
own {st} {w} {sp} {n} k = record {
  valid = k.valid;
  below = k.below;
  accounted = k.accounted;
  linked = k.linked;
  each = k.each;
  counted = refl;
  room = omega arith;
  few = omega (arith, k.few, k.counted);
  low = k.low;
}

module _ {a : Inside} {v : Play} {i : ℕ} {o : Outcome} {answer : Answer} {st' : Store} (m : Meets a v i) where
  counts : {w' sp' : ℕ} {ws : List ℕ} → Done v i o answer st' w' sp' ws → w' ≡ waiters o.hall
  counts done = waiters-kept st' _ _ (i + 1) done.kept ∙ ap (λ (p : Play). waiters p.hall) done.yields.moved

  -- as many wakers left the list as the cores, or came to both
  pub lists : {w' sp' : ℕ} {ws : List ℕ} → Done v i o answer st' w' sp' ws → sp' + registered_in a ≡ a.list.registered + w'
      → PartYields waiters (part_of v) i o answer (record { hall = hall_of st' (i + 1); next = i + 1 }) (record { wakers = v.wakes; registered = a.list.registered }) (record { wakers = ws; registered = sp' })
  lists done same = record {
    replied = done.yields.replied;
    moved = ap part_of done.yields.moved;
    woken = ap (λ (p : Play). p.wakes) done.yields.moved;
    counted = omega (arith, same, counts done, waiters-counted a m.seen m.kept);
  }

  -- it woke nobody
  pub rests : {sp' : ℕ} → a.list.wakers ≡ [] → Done v i o answer st' (registered_in a) sp' a.list.wakers → PartRests waiters (part_of v) i o answer (record { hall = hall_of st' (i + 1); next = i + 1 })
  rests quiet done = record {
    replied = done.yields.replied;
    moved = ap part_of done.yields.moved;
    silent = ap (λ ws. ws ++ o.wakes) (sym quiet ∙ ap (λ (p : Play). p.wakes) m.seen) ∙ sym (ap (λ (p : Play). p.wakes) done.yields.moved) ∙ quiet;
    counted = omega (arith, counts done, waiters-counted a m.seen m.kept);
  }

-- what is played stays so where the semaphores are seen as before
pub tidied : {old : Part Hall} {i : ℕ} {o : Outcome} {answer : Answer} {p q : Part Hall} → q ≡ p → PartRests waiters old i o answer p → PartRests waiters old i o answer q
tidied {old} {i} {o} {answer} same rests = subst (λ (r : Part Hall). PartRests waiters old i o answer r) (sym same) rests

pub listed : {old : Part Hall} {i : ℕ} {o : Outcome} {answer : Answer} {p q : Part Hall} {before after : Waking ℕ} → q ≡ p → PartYields waiters old i o answer p before after → PartYields waiters old i o answer q before after
listed {old} {i} {o} {answer} {p} {q} {before} {after} same yields = subst (λ (r : Part Hall). PartYields waiters old i o answer r before after) (sym same) yields

-- and where the list is as it was told
pub at_list : {old : Part Hall} {i : ℕ} {o : Outcome} {answer : Answer} {new : Part Hall} {before after w : Waking ℕ} → w ≡ after → PartYields waiters old i o answer new before after → PartYields waiters old i o answer new before w
at_list {old} {i} {o} {answer} {new} {before} same yields = subst (λ (q : Waking ℕ). PartYields waiters old i o answer new before q) (sym same) yields

-- where no waker was made ready, those that are ready are as they were
pub yield_rests : (old : Part Hall) (i : ℕ) (o : Outcome) (answer : Answer) (new : Part Hall) (w : Waking ℕ) → PartRests waiters old i o answer new → PartYields waiters old i o answer new w w
yield_rests old i o answer new w rests = record {
  replied = rests.replied;
  moved = rests.moved;
  woken = sym (append-nil w.wakers) ∙ ap (λ ws. w.wakers ++ ws) (sym rests.silent);
  counted = omega (arith, rests.counted);
}
