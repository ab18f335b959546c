-- a poll that is ready: the future is gone, and its permits are forgotten or become a permit
use Rattle.std.proofs.Common.{◌≡◌, ℕ, ◌+◌, ◌-◌, ◌^◌, ◌<◌, ◌≤◌, ◌==◌, true, false, cond, refl, ap, sym, subst, ◌∙◌, arith, Some, None, if◌then◌else◌}
use Rattle.std.specs.Ordering.{nat_cmp}
use Rattle.std.specs.FinMap.{FinMap, get, insert, remove}
use Rattle.mea_family.specs.declared.answer.Answer.{Answer}
use Rattle.mea_base.proofs.NamedMaps.{same_named}
use Rattle.mea_base.proofs.Totals.{get_inserted}
use Rattle.mea_base.proofs.Tests.{at_same, last_stays}
use Rattle.mea_events.specs.declared.sem_event.SemEvent.TheVariants as events
use Rattle.mea_sem_model.specs.Hall.{Hall, Semaphore, Future, Permit, semaphore_at, with_semaphore}
use Rattle.mea_sem_model.specs.Cause.{cause_of}
use Rattle.mea_sem_model.specs.Step.{step, quietly, without_future, with_permit, made_ready}
use Rattle.mea_sem_model.proofs.HallLemmas.{semaphore_put}
use Rattle.mea_sem_core.specs.Core as cores
use Rattle.mea_sem.specs.declared.entries.SemaphoreEntry.{SemaphoreEntry}
use Rattle.mea_sem.specs.declared.entries.FutureEntry.{FutureEntry}
use Rattle.mea_sem.specs.Store.{Store, queue_of, hall_of}
use Rattle.mea_sem.specs.Kept.{wakers_in, AreKeptSemaphores}
use Rattle.mea_sem.proofs.Gone.{Leaves, linked_gone, hall_gone}
use Rattle.mea_sem.proofs.Weighs.{Weighs, thing, nothing, if_plain, always, one, weighs_after, weighs_as, weighs_new_permit, weighs_lost_future}
use Rattle.mea_sem.proofs.Keeping.{Plays, settled_as, with_things}
use Rattle.mea_sem.proofs.PlaysPermits.{no_permit}

-- what is put twice is what was put last
pub insert_twice : {X : Type 0} (m : FinMap nat_cmp X) (k : ℕ) (v w : X) → insert (insert m k v) k w ≡ insert m k w
insert_twice m k v w = same_named _ _
    (λ q. get_inserted (insert m k v) k q w ∙ ap (cond (k == q) (Some w)) (get_inserted m k q v) ∙ last_stays (k == q) (Some w) (Some v) (get m q)
    ∙ sym (get_inserted m k q w))

-- a plain future is counted
pub future_counts : (st : Store) (w sp next f : ℕ) (x : Future) (e : SemaphoreEntry) → AreKeptSemaphores st w sp next → get (hall_of st next).futures f ≡ Some x
    → get st.semaphores x.semaphore ≡ Some e → (one x.plain ≤ e.plain) × (1 ≤ e.things)
future_counts st w sp next f x e k is there =
    let lost = weighs_lost_future (hall_of st next) f x is in
    let b = lost.things if_plain x.semaphore in
    let b2 = lost.things always x.semaphore in
    let d = (k.each x.semaphore e there).plain in
    let d2 = (k.each x.semaphore e there).things in
    let u = at_same {X = ℕ} x.semaphore x.semaphore 0 0 refl in
    let v = at_same x.semaphore x.semaphore (one x.plain) 0 refl in
    let v2 = at_same {X = ℕ} x.semaphore x.semaphore 1 0 refl in
    (omega (arith, b, d, v, u), omega (arith, b2, d2, v2, u))

-- what is the same for both ways of being ready: c1 is the core after the poll, and m what it is seen as
module _ (st st' : Store) (w sp next i s f v : ℕ) (x : FutureEntry) (y : Future) (e : SemaphoreEntry) (c1 : cores.Core ℕ) (m : Semaphore)
    (k : AreKeptSemaphores st w sp next) (less : next ≤ i) (low : i < 2 ^ 64)
    (allowed : cause_of (hall_of st next) (events.Poll f v) ≡ None) (seen : get (hall_of st next).futures f ≡ Some y) (mine : y.semaphore ≡ s)
    (form : y.plain ≡ x.plain) (small : y.demand < 2 ^ 64)
    (live : c1.live ≡ e.core.live) (queue : c1.queue ≡ e.core.queue) (quiet : c1.wakes ≡ e.core.wakes)
    (rises : cores.held_of c1 ≡ cores.held_of e.core + y.demand)
    (m_is : m ≡ record {
      free = c1.free;
      queue = queue_of st.futures next s e.core.queue;
      made = e.made;
      released = e.released;
      forgotten = e.forgotten;
      named = e.named;
      closed = c1.closed;
    })
    (reply : Answer) (chosen : step (hall_of st next) i (events.Poll f v) ≡ quietly (made_ready (with_semaphore (hall_of st next) s m) i f y) reply) where
  abbrev h : Hall
  h = hall_of st next

  abbrev h1 : Hall
  h1 = with_semaphore h s m

  m_at : semaphore_at h1 s ≡ m
  m_at = semaphore_put h s s m ∙ at_same s s m (semaphore_at h s) refl

  -- ---- the permits are forgotten
  abbrev pub forgot_entry : SemaphoreEntry
  forgot_entry = record e { core = record c1 { live = c1.live - y.demand }; forgotten = e.forgotten + y.demand; plain = e.plain - one x.plain; things = e.things - 1 }

  abbrev forgot_hall : Hall
  forgot_hall = record {
    semaphores = insert h.semaphores s (record m { forgotten = m.forgotten + y.demand });
    futures = remove h.futures f;
    permits = h.permits;
  }

  pub plays_ready_forgetting : y.forgets ≡ true → Leaves st st' s f x e forgot_entry → st'.permits ≡ st.permits
      → cores.held_of (record c1 { live = c1.live - y.demand }) + y.demand ≡ cores.held_of c1
      → Plays st st' next i (events.Poll f v) w sp
  plays_ready_forgetting forgets c permits held =
      let old = k.each s e c.there in
      let counts = future_counts st w sp next f y e k seen (ap (get st.semaphores) mine ∙ c.there) in
      let forgot : with_semaphore (without_future h1 f) y.semaphore
      (record (semaphore_at h1 y.semaphore) { forgotten = (semaphore_at h1 y.semaphore).forgotten + y.demand }) ≡ forgot_hall =
      ap (λ q. with_semaphore (without_future h1 f) q (record (semaphore_at h1 q) { forgotten = (semaphore_at h1 q).forgotten + y.demand })) mine
      ∙ ap (λ r. with_semaphore (without_future h1 f) s (record r { forgotten = r.forgotten + y.demand })) m_at
      ∙ (λ j. record {
        semaphores = insert_twice h.semaphores s m (record m { forgotten = m.forgotten + y.demand }) j;
        futures = remove h.futures f;
        permits = h.permits;
      }) in
      let target : (step h i (events.Poll f v)).hall ≡ forgot_hall =
      ap (λ o. o.hall) chosen ∙ ap
      (λ b. (if b then with_semaphore (without_future h1 f) y.semaphore
      (record (semaphore_at h1 y.semaphore) { forgotten = (semaphore_at h1 y.semaphore).forgotten + y.demand })
      else with_permit (without_future h1 f) i (record { semaphore = y.semaphore; size = y.demand; plain = y.plain }))) forgets ∙ forgot in
      let lost : Weighs h forgot_hall s 0 0 (thing x.plain) nothing =
      (let l = subst (λ q. Weighs h (without_future h f) q 0 0 (thing y.plain) nothing) mine (weighs_lost_future h f y seen) in
      let l2 = subst (λ b. Weighs h (without_future h f) s 0 0 (thing b) nothing) form l in record { held = λ q. l2.held q; things = λ chosen q. l2.things chosen q }) in
      settled_as st st' w sp next i s (events.Poll f v) e forgot_entry k less low tt allowed forgot_hall target w sp 0 0 (thing x.plain) nothing c.there c.semaphores
      (hall_gone st st' next i s f x e forgot_entry k.linked less c
      ∙ (λ j. record {
        semaphores = insert h.semaphores s (record (sym m_is j) { forgotten = (sym m_is j).forgotten + y.demand });
        futures = remove h.futures f;
        permits = permits j;
      }))
      (linked_gone st st' next i s f x e forgot_entry k.linked less c)
      lost
      (record {
        account = (let o = old.account in let d : cores.debts c1.queue ≡ cores.debts e.core.queue = ap cores.debts queue in let fits = held_below in
            omega (arith, o, d, fits, held, rises));
        held = omega (arith, held, rises);
        plain = (let g : one x.plain ≤ e.plain = ap_one counts.0 in omega (arith, g));
        things = (let g = counts.1 in omega (arith, g));
        few = (omega arith, omega arith);
        quiet = quiet ∙ old.quiet;
        released = omega arith;
        forgotten = omega arith;
      })
      (ap (λ q. w + wakers_in q) (sym queue)) k.room (let f = k.few in omega (arith, f))
    where
      ap_one : one y.plain ≤ e.plain → one x.plain ≤ e.plain
      ap_one counts = subst (λ b. one b ≤ e.plain) form counts

      -- what is held is live
      held_below : y.demand ≤ c1.live
      held_below = omega arith

  -- ---- the permits become a permit
  abbrev pub kept_entry : SemaphoreEntry
  kept_entry = record e { core = c1 }

  abbrev permit_hall : Hall
  permit_hall = record {
    semaphores = insert h.semaphores s m;
    futures = remove h.futures f;
    permits = insert h.permits i (record { semaphore = s; size = y.demand; plain = x.plain });
  }

  pub plays_ready : y.forgets ≡ false → Leaves st st' s f x e kept_entry
      → st'.permits ≡ insert st.permits i (record { semaphore = s; size = y.demand; plain = x.plain })
      → Plays st st' next i (events.Poll f v) w sp
  plays_ready forgets c permits =
      let old = k.each s e c.there in
      let z : Permit = record { semaphore = s; size = y.demand; plain = x.plain } in
      let target : (step h i (events.Poll f v)).hall ≡ permit_hall =
      ap (λ o. o.hall) chosen ∙ ap
      (λ b. (if b then with_semaphore (without_future h1 f) y.semaphore
      (record (semaphore_at h1 y.semaphore) { forgotten = (semaphore_at h1 y.semaphore).forgotten + y.demand })
      else with_permit (without_future h1 f) i (record { semaphore = y.semaphore; size = y.demand; plain = y.plain }))) forgets
      ∙ (λ j. record {
        semaphores = insert h.semaphores s m;
        futures = remove h.futures f;
        permits = insert h.permits i (record { semaphore = mine j; size = y.demand; plain = form j });
      }) in
      let lost : Weighs h (without_future h f) s 0 0 (thing x.plain) nothing =
      subst (λ b. Weighs h (without_future h f) s 0 0 (thing b) nothing) form
      (subst (λ q. Weighs h (without_future h f) q 0 0 (thing y.plain) nothing) mine (weighs_lost_future h f y seen)) in
      let come : Weighs (without_future h f) permit_hall s 0 y.demand nothing (thing x.plain) =
      (let l = weighs_new_permit (without_future h f) i z (no_permit st w sp next i k less) in record { held = λ q. l.held q; things = λ chosen q. l.things chosen q }) in
      let both = weighs_after h (without_future h f) permit_hall s 0 0 (thing x.plain) nothing 0 y.demand nothing (thing x.plain) lost come in
      settled_as st st' w sp next i s (events.Poll f v) e kept_entry k less low tt allowed permit_hall target w sp 0 y.demand nothing nothing c.there c.semaphores
      (hall_gone st st' next i s f x e kept_entry k.linked less c
      ∙ (λ j. record { semaphores = insert h.semaphores s (sym m_is j); futures = remove h.futures f; permits = permits j }))
      (linked_gone st st' next i s f x e kept_entry k.linked less c)
      (weighs_as h permit_hall s (0 + 0) (0 + y.demand) _ _ 0 y.demand nothing nothing both (omega arith) (λ chosen. omega arith))
      (with_things (let o = old.account in let d : cores.debts c1.queue ≡ cores.debts e.core.queue = ap cores.debts queue in omega (arith, o, d, live)) (omega (arith, rises)) refl refl (quiet ∙ old.quiet) refl (omega arith))
      (ap (λ q. w + wakers_in q) (sym queue)) k.room (let f = k.few in omega (arith, f))
