-- an event that changes one semaphore keeps what a hall keeps to
use Rattle.std.proofs.Common.{◌≡◌, ℕ, ◌+◌, ◌^◌, ◌<◌, ◌≤◌, ◌==◌, cond, refl, ap, sym, subst, ◌∙◌, arith, Some, None, []}
use Rattle.std.specs.FinMap.{get, insert}
use Rattle.mea_base.specs.Totals.{total, weight}
use Rattle.mea_base.proofs.NamedMaps.{same_named}
use Rattle.mea_base.proofs.Totals.{get_inserted, total-insert}
use Rattle.mea_base.proofs.Tests.{at_same, at_apart}
use Rattle.mea_events.specs.declared.sem_event.SemEvent.{SemEvent}
use Rattle.mea_sem_model.specs.Hall.{Hall}
use Rattle.mea_sem_model.specs.Cause.{cause_of}
use Rattle.mea_sem_model.specs.Step.{step}
use Rattle.mea_sem_model.specs.Valid.{IsValid, IsBelow, IsAccounted, Fits}
use Rattle.mea_sem_model.proofs.Keeps.{keeps_below, keeps_account, below_later}
use Rattle.mea_sem_model.proofs.StaysValid.{kept_valid}
use Rattle.mea_sem_core.specs.Core as cores
use Rattle.mea_sem.specs.declared.entries.SemaphoreEntry.{SemaphoreEntry}
use Rattle.mea_sem.specs.Store.{Store, hall_of, IsLinked}
use Rattle.mea_sem.specs.Kept.{wakers_in, IsKeptEntry, AreKeptSemaphores}
use Rattle.mea_sem.proofs.Replaced.{each_semaphore}
use Rattle.mea_sem.proofs.Weighs.{Weighs, Things, nothing, if_plain, always}

-- event i is played on what is kept
pub record Plays (st st' : Store) (next i : ℕ) (event : SemEvent) (w' sp' : ℕ) : Type 0 where
  pub hall : hall_of st' (i + 1) ≡ (step (hall_of st next) i event).hall
  pub kept : AreKeptSemaphores st' w' sp' (i + 1)

-- what is known of the semaphore that an event changes; a, b, p and r are as in Weighs
pub record Settles (e e' : SemaphoreEntry) (a b : ℕ) (p r : Things) : Type 0 where
  pub account : e'.core.live + e'.forgotten ≡ e'.made + e'.released + cores.debts e'.core.queue
  pub held : cores.held_of e'.core + a ≡ cores.held_of e.core + b
  pub plain : e'.plain + p if_plain ≡ e.plain + r if_plain
  pub things : e'.things + p always ≡ e.things + r always
  pub few : (r if_plain ≤ 1) × (r always ≤ 1)
  pub quiet : e'.core.wakes ≡ []
  pub released : e'.released ≤ e.released + 2 ^ 64
  pub forgotten : e'.forgotten ≤ e.forgotten + 2 ^ 64

-- it has as many things, and nothing was released
pub with_things : {e e' : SemaphoreEntry} {a b : ℕ} → e'.core.live + e'.forgotten ≡ e'.made + e'.released + cores.debts e'.core.queue
    → cores.held_of e'.core + a ≡ cores.held_of e.core + b → e'.plain ≡ e.plain → e'.things ≡ e.things → e'.core.wakes ≡ [] → e'.released ≡ e.released
    → e'.forgotten ≤ e.forgotten + 2 ^ 64 → Settles e e' a b nothing nothing
with_things account held plain things quiet released forgotten = record {
  account = account;
  held = held;
  plain = ap (λ n. n + 0) plain;
  things = ap (λ n. n + 0) things;
  few = (omega arith, omega arith);
  quiet = quiet;
  released = omega (arith, released);
  forgotten = forgotten;
}

module _ (st st' : Store) (w sp next i s : ℕ) (event : SemEvent) (e e' : SemaphoreEntry) (k : AreKeptSemaphores st w sp next) (less : next ≤ i)
    (low : i < 2 ^ 64) (fits : Fits event) (allowed : cause_of (hall_of st next) event ≡ None) where
  pub settled : (w' sp' a b : ℕ) (p r : Things) → get st.semaphores s ≡ Some e → ((q : ℕ) → get st'.semaphores q ≡ cond (s == q) (Some e') (get st.semaphores q))
      → hall_of st' (i + 1) ≡ (step (hall_of st next) i event).hall → IsLinked st' (i + 1)
      → Weighs (hall_of st next) (step (hall_of st next) i event).hall s a b p r → Settles e e' a b p r
      → w' + wakers_in e.core.queue ≡ w + wakers_in e'.core.queue → w' ≤ sp' → w' ≤ i + 1
      → Plays st st' next i event w' sp'
  settled w' sp' a b p r there semaphores same linked weighs settles registered room few = record {
    hall = same;
    kept = record {
      valid = subst IsValid (sym same) (kept_valid (hall_of st next) i event k.valid (below_later (hall_of st next) next i less k.below) fits allowed);
      below = subst (λ h. IsBelow h (i + 1)) (sym same)
          (keeps_below (hall_of st next) i event k.valid (below_later (hall_of st next) next i less k.below) allowed);
      accounted = λ q. subst (λ h. IsAccounted h q) (sym same)
          (keeps_account (hall_of st next) i event k.valid (below_later (hall_of st next) next i less k.below) allowed k.accounted q);
      linked = linked;
      each = λ q d is. subst (λ h. IsKeptEntry h (i + 1) q d) (sym same) (each_semaphore st st' s e' semaphores (λ q d. IsKeptEntry (step (hall_of st next) i event).hall (i + 1) q d) here
          (λ q d apart old. other q d apart (k.each q d old)) q d is);
      counted =
          let sums = total-insert (λ q (x : SemaphoreEntry). wakers_in x.core.queue) st.semaphores s e' in
          let mine : weight (λ q (x : SemaphoreEntry). wakers_in x.core.queue) s (get st.semaphores s) ≡ wakers_in e.core.queue =
          ap (weight (λ q (x : SemaphoreEntry). wakers_in x.core.queue) s) there in
          let now : total (λ q (x : SemaphoreEntry). wakers_in x.core.queue) st'.semaphores ≡ total (λ q (x : SemaphoreEntry). wakers_in x.core.queue)
          (insert st.semaphores s e') = ap (total (λ q (x : SemaphoreEntry). wakers_in x.core.queue)) inserted in
          let before = k.counted in
          omega (arith, sums, mine, now, before, registered);
      room = room;
      few = few;
      low = omega arith;
    };
  }
    where
      old : IsKeptEntry (hall_of st next) next s e
      old = k.each s e there

      here : IsKeptEntry (step (hall_of st next) i event).hall (i + 1) s e'
      here = record {
        account = settles.account;
        held = (let x = weighs.held s in let y = at_same s s a 0 refl in let z = at_same s s b 0 refl in let o = old.held in let t = settles.held in
            omega (arith, x, y, z, o, t));
        plain = (let x = weighs.things if_plain s in let y = at_same s s (p if_plain) 0 refl in let z = at_same s s (r if_plain) 0 refl in
            let o = old.plain in let t = settles.plain in omega (arith, x, y, z, o, t));
        things = (let x = weighs.things always s in let y = at_same s s (p always) 0 refl in let z = at_same s s (r always) 0 refl in
            let o = old.things in let t = settles.things in omega (arith, x, y, z, o, t));
        few = (
          (let o = old.few.0 in let t = settles.plain in let u = settles.few.0 in omega (arith, o, t, u)),
          (let o = old.few.1 in let t = settles.things in let u = settles.few.1 in omega (arith, o, t, u)),
        );
        quiet = settles.quiet;
        released = (let o = old.released in let t = settles.released in omega (arith, o, t));
        forgotten = (let o = old.forgotten in let t = settles.forgotten in omega (arith, o, t));
      }

      other : (q : ℕ) (d : SemaphoreEntry) → (s ≡ q → ⊥) → IsKeptEntry (hall_of st next) next q d
          → IsKeptEntry (step (hall_of st next) i event).hall (i + 1) q d
      other q d apart o = record {
        account = o.account;
        held = (let x = weighs.held q in let y = at_apart s q a 0 apart in let z = at_apart s q b 0 apart in let t = o.held in omega (arith, x, y, z, t));
        plain = (let x = weighs.things if_plain q in let y = at_apart s q (p if_plain) 0 apart in let z = at_apart s q (r if_plain) 0 apart in
            let t = o.plain in omega (arith, x, y, z, t));
        things = (let x = weighs.things always q in let y = at_apart s q (p always) 0 apart in let z = at_apart s q (r always) 0 apart in
            let t = o.things in omega (arith, x, y, z, t));
        few = ((let t = o.few.0 in omega (arith, t)), (let t = o.few.1 in omega (arith, t)));
        quiet = o.quiet;
        released = (let t = o.released in omega (arith, t));
        forgotten = (let t = o.forgotten in omega (arith, t));
      }

      inserted : st'.semaphores ≡ insert st.semaphores s e'
      inserted = same_named _ _ (λ q. semaphores q ∙ sym (get_inserted st.semaphores s q e'))

  -- the same, where the outcome of the event is known under another name
  pub settled_as : (h' : Hall) → (step (hall_of st next) i event).hall ≡ h' → (w' sp' a b : ℕ) (p r : Things) → get st.semaphores s ≡ Some e
      → ((q : ℕ) → get st'.semaphores q ≡ cond (s == q) (Some e') (get st.semaphores q))
      → hall_of st' (i + 1) ≡ h' → IsLinked st' (i + 1) → Weighs (hall_of st next) h' s a b p r → Settles e e' a b p r
      → w' + wakers_in e.core.queue ≡ w + wakers_in e'.core.queue → w' ≤ sp' → w' ≤ i + 1
      → Plays st st' next i event w' sp'
  settled_as h' is w' sp' a b p r there semaphores same linked weighs settles registered room few =
      settled w' sp' a b p r there semaphores (same ∙ sym is) linked (subst (λ g. Weighs (hall_of st next) g s a b p r) (sym is) weighs)
      settles registered room few
