-- events that make, change and end permits, and give nothing back
use Rattle.std.proofs.Common.{◌≡◌, ℕ, ◌+◌, ◌-◌, ◌^◌, ◌<◌, ◌≤◌, ◌==◌, ◌&&◌, not, Bool, true, false, cond, nat_le, refl, ap, sym, subst, ◌∙◌, arith, Option, Some, None, is_some, if◌then◌else◌}
use Rattle.std.specs.Ordering.{nat_cmp}
use Rattle.std.specs.FinMap.{FinMap, get, insert, remove}
use Rattle.std.proofs.lemmas.Bool.{le-leb, eqb-true}
use Rattle.std.specs.Option.{option_map}
use Rattle.mea_family.specs.declared.answer.Answer.TheVariants as answers
use Rattle.mea_base.proofs.NamedMaps.{same_named, get-seen}
use Rattle.mea_base.proofs.Totals.{get_removed, get_inserted}
use Rattle.mea_base.proofs.Tests.{at_same, at_apart}
use Rattle.mea_events.specs.declared.sem_event.SemEvent.{SemEvent}
use Rattle.mea_events.specs.declared.sem_event.SemEvent.TheVariants as events
use Rattle.mea_sem_model.specs.Hall.{Hall, Semaphore, Permit, semaphore_at, with_semaphore, held}
use Rattle.mea_sem_model.specs.Cause.{cause_of}
use Rattle.mea_sem_model.specs.Valid.{Fits}
use Rattle.mea_sem_model.specs.Step.{step, quietly, taking, with_permit, without_permit, offers, try_of, lose_of, merge_of, split_of}
use Rattle.mea_sem_core.specs.Core as cores
use Rattle.mea_sem.specs.declared.entries.SemaphoreEntry.{SemaphoreEntry}
use Rattle.mea_sem.specs.Store.{Store, queue_of, semaphore_of, hall_of}
use Rattle.mea_sem.specs.Kept.{AreKeptSemaphores}
use Rattle.mea_sem.proofs.Seen.{seen_at}
use Rattle.mea_sem.proofs.Still.{IsStill, still_queue, linked_still, queue_still, hall_still}
use Rattle.mea_sem.proofs.Weighs.{Weighs, Things, thing, nothing, if_plain, always, one, weighs_after, weighs_as, weighs_new_permit, weighs_permit, weighs_lost_permit}
use Rattle.mea_sem.proofs.Keeping.{Plays, settled_as}
use Rattle.mea_sem.proofs.PlaysSemaphores.{Puts}

-- there is no permit of a number that was not given
pub no_permit : (st : Store) (w sp next i : ℕ) → AreKeptSemaphores st w sp next → next ≤ i → get st.permits i ≡ None
no_permit st w sp next i k less = at_value (get st.permits i) refl
  where
    at_value : (o : Option Permit) → get st.permits i ≡ o → o ≡ None
    at_value None is = refl
    at_value (Some x) is = let small : i < next = k.below.permits i (ap is_some is) in absurd (omega arith)

-- what stands at a name may be put there again
pub as_it_was : (h : Hall) (s : ℕ) (r : Semaphore) → get h.semaphores s ≡ Some r → (ps : FinMap nat_cmp Permit)
    → ◌≡◌ {A = Hall} (record { semaphores = insert h.semaphores s r; futures = h.futures; permits = ps })
    (record { semaphores = h.semaphores; futures = h.futures; permits = ps })
as_it_was h s r there ps = λ j. record {
  semaphores = same_named (insert h.semaphores s r) h.semaphores
      (λ q. get_inserted h.semaphores s q r ∙ at_each q (s == q) refl) j;
  futures = h.futures;
  permits = ps;
}
  where
    at_each : (q : ℕ) (t : Bool) → (s == q) ≡ t → cond t (Some r) (get h.semaphores q) ≡ get h.semaphores q
    at_each q true is = sym there ∙ ap (get h.semaphores) (eqb-true s q is)
    at_each q false is = refl

-- what weighs on a semaphore does not weigh on the semaphores' own records
pub weighs_besides : (h g : Hall) (q s a b : ℕ) (p r : Things) (m : Semaphore) → Weighs (with_semaphore h q m) g s a b p r → Weighs h g s a b p r
weighs_besides h g q s a b p r m x = record { held = λ k. x.held k; things = λ chosen k. x.things chosen k }

-- a permit is held, and a plain one is counted
pub permit_counts : (st : Store) (w sp next p : ℕ) (x : Permit) (e : SemaphoreEntry) → AreKeptSemaphores st w sp next → get st.permits p ≡ Some x
    → get st.semaphores x.semaphore ≡ Some e → (x.size ≤ cores.held_of e.core) × (one x.plain ≤ e.plain) × (1 ≤ e.things)
permit_counts st w sp next p x e k is there =
    let lost = weighs_lost_permit (hall_of st next) p x is in
    let a = lost.held x.semaphore in
    let b = lost.things if_plain x.semaphore in
    let b2 = lost.things always x.semaphore in
    let old = k.each x.semaphore e there in
    let c = old.held in
    let d = old.plain in
    let d2 = old.things in
    let t = at_same {X = ℕ} x.semaphore x.semaphore x.size 0 refl in
    let u = at_same {X = ℕ} x.semaphore x.semaphore 0 0 refl in
    let v = at_same {X = ℕ} x.semaphore x.semaphore (one x.plain) 0 refl in
    let v2 = at_same {X = ℕ} x.semaphore x.semaphore 1 0 refl in
    (omega (arith, a, c, t, u), omega (arith, b, d, v, u), omega (arith, b2, d2, v2, u))

-- two permits of one semaphore are held together
pub permits_count : (st : Store) (w sp next p q : ℕ) (x y : Permit) (e : SemaphoreEntry) → AreKeptSemaphores st w sp next → (p ≡ q → ⊥)
    → get st.permits p ≡ Some x → get st.permits q ≡ Some y → x.semaphore ≡ y.semaphore → get st.semaphores x.semaphore ≡ Some e
    → x.size + y.size ≤ cores.held_of e.core
permits_count st w sp next p q x y e k apart isx isy same there =
    let h : Hall = hall_of st next in
    let first = weighs_lost_permit h q y isy in
    let still : get (without_permit h q).permits p ≡ Some x = get_removed h.permits q p ∙ at_apart q p None (get h.permits p) (λ t. apart (sym t)) ∙ isx in
    let second = weighs_lost_permit (without_permit h q) p x still in
    let a = first.held x.semaphore in
    let b = second.held x.semaphore in
    let c = (k.each x.semaphore e there).held in
    let t = at_same {X = ℕ} x.semaphore x.semaphore x.size 0 refl in
    let u = at_same {X = ℕ} x.semaphore x.semaphore 0 0 refl in
    let v = at_same {X = ℕ} y.semaphore x.semaphore y.size 0 (sym same) in
    let z = at_same {X = ℕ} y.semaphore x.semaphore 0 0 (sym same) in
    omega (arith, a, b, c, t, u, v, z)

module _ (st st' : Store) (w sp next i s n : ℕ) (e : SemaphoreEntry) (k : AreKeptSemaphores st w sp next) (less : next ≤ i) (low : i < 2 ^ 64) where
  -- ---- n free permits become permit i
  abbrev taken_entry : Bool → SemaphoreEntry
  taken_entry plain = record e { core = record e.core { free = e.core.free - n }; plain = e.plain + one plain; things = e.things + 1 }

  pub plays_try : (event : SemEvent) (plain : Bool) → Fits event → cause_of (hall_of st next) event ≡ None
      → (step (hall_of st next) i event).hall ≡ (try_of (hall_of st next) i s n plain).hall
      → e.core.closed ≡ false → n ≤ e.core.free → Puts st st' s e (taken_entry plain) → st'.permits ≡ insert st.permits i (record { semaphore = s; size = n; plain = plain })
      → cores.held_of (record e.core { free = e.core.free - n }) ≡ cores.held_of e.core + n
      → Plays st st' next i event w sp
  plays_try event plain fits allowed is open_still enough c permits held =
      let e' : SemaphoreEntry = taken_entry plain in
      let still : IsStill e e' = still_queue e e' refl refl refl refl in
      let old = k.each s e c.there in
      let h : Hall = hall_of st next in
      let x : Permit = record { semaphore = s; size = n; plain = plain } in
      let seen : semaphore_at h s ≡ semaphore_of st.futures next s e = seen_at st next s e k.linked c.there in
      let fits_in : offers h s n ≡ true = ap (λ r. not r.closed && nat_le n r.free) seen ∙ (λ j. not (open_still j) && le-leb n e.core.free enough j) in
      let g : Hall = with_permit (with_semaphore h s (taking (semaphore_at h s) n)) i x in
      let chosen : (step h i event).hall ≡ g = is ∙ ap (λ b. (if b then quietly g answers.Held else quietly h answers.Lacking).hall) fits_in in
      settled_as st st' w sp next i s event e e' k less low fits allowed g chosen w sp 0 n nothing (thing plain) c.there c.semaphores
      (hall_still st st' next i s e e' k.linked less c.there c.semaphores c.futures still (queue_of st.futures next s e.core.queue)
      (queue_still st st' next i s e e' k.linked less c.there c.semaphores c.futures still)
      ∙ (λ j. record { semaphores = insert h.semaphores s (taking (sym seen j) n); futures = h.futures; permits = permits j }))
      (linked_still st st' next i s e e' k.linked less c.there c.semaphores c.futures still)
      (weighs_besides h g s s 0 n nothing (thing plain) (taking (semaphore_at h s) n)
      (weighs_new_permit (with_semaphore h s (taking (semaphore_at h s) n)) i x (no_permit st w sp next i k less)))
      (record {
        account = old.account;
        held = omega (arith, held);
        plain = omega arith;
        things = omega arith;
        few = (at_most plain, omega arith);
        quiet = old.quiet;
        released = omega arith;
        forgotten = omega arith;
      })
      refl k.room (let f = k.few in omega (arith, f))
    where
      at_most : (t : Bool) → one t ≤ 1
      at_most true = omega arith
      at_most false = omega arith

  -- ---- a permit is lost
  abbrev lost_entry : Permit → SemaphoreEntry
  lost_entry x = record e { core = record e.core { live = e.core.live - x.size }; forgotten = e.forgotten + x.size; plain = e.plain - one x.plain; things = e.things - 1 }

  pub plays_lose : (x : Permit) → x.semaphore ≡ s → x.size < 2 ^ 64 → get st.permits n ≡ Some x → cause_of (hall_of st next) (events.Lose n) ≡ None
      → Puts st st' s e (lost_entry x) → st'.permits ≡ remove st.permits n
      → cores.held_of (record e.core { live = e.core.live - x.size }) + x.size ≡ cores.held_of e.core
      → Plays st st' next i (events.Lose n) w sp
  plays_lose x mine small there allowed c permits held =
      let e' : SemaphoreEntry = lost_entry x in
      let still : IsStill e e' = still_queue e e' refl refl refl refl in
      let old = k.each s e c.there in
      let h : Hall = hall_of st next in
      let seen : semaphore_at h s ≡ semaphore_of st.futures next s e = seen_at st next s e k.linked c.there in
      let counts = permit_counts st w sp next n x e k there (ap (get st.semaphores) mine ∙ c.there) in
      let r : Semaphore = record (semaphore_at h s) { forgotten = (semaphore_at h s).forgotten + x.size } in
      let g : Hall = with_semaphore (without_permit h n) s r in
      let chosen : (step h i (events.Lose n)).hall ≡ g = ap (λ o. (lose_of h n o).hall) there
      ∙ ap (λ q. with_semaphore (without_permit h n) q (record (semaphore_at h q) { forgotten = (semaphore_at h q).forgotten + x.size })) mine in
      let lost : Weighs h g x.semaphore x.size 0 (thing x.plain) nothing =
      (let l = weighs_lost_permit h n x there in record { held = λ q. l.held q; things = λ chosen q. l.things chosen q }) in
      settled_as st st' w sp next i s (events.Lose n) e e' k less low tt allowed g chosen w sp x.size 0 (thing x.plain) nothing c.there c.semaphores
      (hall_still st st' next i s e e' k.linked less c.there c.semaphores c.futures still (queue_of st.futures next s e.core.queue)
      (queue_still st st' next i s e e' k.linked less c.there c.semaphores c.futures still)
      ∙ (λ j. record {
        semaphores = insert h.semaphores s (record (sym seen j) { forgotten = (sym seen j).forgotten + x.size });
        futures = h.futures;
        permits = permits j;
      }))
      (linked_still st st' next i s e e' k.linked less c.there c.semaphores c.futures still)
      (subst (λ q. Weighs h g q x.size 0 (thing x.plain) nothing) mine lost)
      (record {
        account = (let o = old.account in let f = counts.0 in omega (arith, o, f));
        held = omega (arith, held);
        plain = (let f = counts.1 in omega (arith, f));
        things = (let f = counts.2 in omega (arith, f));
        few = (omega arith, omega arith);
        quiet = old.quiet;
        released = omega arith;
        forgotten = omega arith;
      })
      refl k.room (let f = k.few in omega (arith, f))

  -- ---- a permit is added to another
  abbrev fewer_entry : Bool → SemaphoreEntry
  fewer_entry plain = record e { plain = e.plain - one plain; things = e.things - 1 }

  pub plays_merge : (p : ℕ) (x y : Permit) → x.semaphore ≡ s → y.semaphore ≡ s → y.plain ≡ x.plain → (p ≡ n → ⊥) → get st.permits p ≡ Some x
      → get st.permits n ≡ Some y → cause_of (hall_of st next) (events.Merge p n) ≡ None
      → Puts st st' s e (fewer_entry x.plain) → st'.permits ≡ insert (remove st.permits n) p (record x { size = x.size + y.size })
      → Plays st st' next i (events.Merge p n) w sp
  plays_merge p x y mine yours form apart there there_too allowed c permits =
      let e' : SemaphoreEntry = fewer_entry x.plain in
      let still : IsStill e e' = still_queue e e' refl refl refl refl in
      let old = k.each s e c.there in
      let h : Hall = hall_of st next in
      let seen : semaphore_at h s ≡ semaphore_of st.futures next s e = seen_at st next s e k.linked c.there in
      let counts = permit_counts st w sp next p x e k there (ap (get st.semaphores) mine ∙ c.there) in
      let z : Permit = record x { size = x.size + y.size } in
      let g : Hall = with_permit (without_permit h n) p z in
      let chosen : (step h i (events.Merge p n)).hall ≡ g = (λ j. merge_of h p n (there j) (there_too j)) in
      let left : get (without_permit h n).permits p ≡ Some x = get_removed h.permits n p ∙ at_apart n p None (get h.permits p) (λ t. apart (sym t)) ∙ there in
      let first : Weighs h (without_permit h n) s y.size 0 (thing x.plain) nothing =
      subst (λ b. Weighs h (without_permit h n) s y.size 0 (thing b) nothing) form
      (subst (λ q. Weighs h (without_permit h n) q y.size 0 (thing y.plain) nothing) yours (weighs_lost_permit h n y there_too)) in
      let second : Weighs (without_permit h n) g s x.size z.size nothing nothing =
      subst (λ q. Weighs (without_permit h n) g q x.size z.size nothing nothing) mine (weighs_permit (without_permit h n) p z x left refl refl) in
      let both = weighs_after h (without_permit h n) g s y.size 0 (thing x.plain) nothing x.size z.size nothing nothing first second in
      let same : record { semaphores = insert h.semaphores s (semaphore_of st.futures next s e); futures = h.futures; permits = st'.permits } ≡ g =
      as_it_was h s (semaphore_of st.futures next s e) (get_semaphore c.there) st'.permits
      ∙ (λ j. record { semaphores = h.semaphores; futures = h.futures; permits = permits j }) in
      settled_as st st' w sp next i s (events.Merge p n) e e' k less low tt allowed g chosen w sp 0 0 (thing x.plain) nothing c.there c.semaphores
      (hall_still st st' next i s e e' k.linked less c.there c.semaphores c.futures still (queue_of st.futures next s e.core.queue)
      (queue_still st st' next i s e e' k.linked less c.there c.semaphores c.futures still) ∙ same)
      (linked_still st st' next i s e e' k.linked less c.there c.semaphores c.futures still)
      (weighs_as h g s (y.size + x.size) (0 + z.size) _ _ 0 0 (thing x.plain) nothing both (omega arith) (λ chosen. omega arith))
      (record {
        account = old.account;
        held = refl;
        plain = (let f = counts.1 in omega (arith, f));
        things = (let f = counts.2 in omega (arith, f));
        few = (omega arith, omega arith);
        quiet = old.quiet;
        released = omega arith;
        forgotten = omega arith;
      })
      refl k.room (let f = k.few in omega (arith, f))
    where
      get_semaphore : get st.semaphores s ≡ Some e → get (hall_of st next).semaphores s ≡ Some (semaphore_of st.futures next s e)
      get_semaphore is = get-seen (semaphore_of st.futures next) st.semaphores s ∙ ap (option_map (semaphore_of st.futures next s)) is

  -- ---- n of a permit become permit i
  abbrev more_entry : Bool → SemaphoreEntry
  more_entry plain = record e { plain = e.plain + one plain; things = e.things + 1 }

  pub plays_split : (p : ℕ) (x : Permit) → x.semaphore ≡ s → n ≤ x.size → get st.permits p ≡ Some x → cause_of (hall_of st next) (events.Split p n) ≡ None
      → Puts st st' s e (more_entry x.plain) → st'.permits ≡ insert (insert st.permits p (record x { size = x.size - n })) i (record x { size = n })
      → Plays st st' next i (events.Split p n) w sp
  plays_split p x mine enough there allowed c permits =
      let e' : SemaphoreEntry = more_entry x.plain in
      let still : IsStill e e' = still_queue e e' refl refl refl refl in
      let old = k.each s e c.there in
      let h : Hall = hall_of st next in
      let y : Permit = record x { size = x.size - n } in
      let z : Permit = record x { size = n } in
      let g : Hall = with_permit (with_permit h p y) i z in
      let chosen : (step h i (events.Split p n)).hall ≡ g = ap (λ o. (split_of h i p n o).hall) there
      ∙ ap (λ b. (if b then quietly g answers.Held else quietly h answers.Lacking).hall) (le-leb n x.size enough) in
      let first : Weighs h (with_permit h p y) s x.size y.size nothing nothing =
      subst (λ q. Weighs h (with_permit h p y) q x.size y.size nothing nothing) mine (weighs_permit h p y x there refl refl) in
      let absent : get (with_permit h p y).permits i ≡ None =
      get_inserted h.permits p i y ∙ at_apart p i (Some y) (get h.permits i)
      (λ same. (let small : p < next = k.below.permits p (ap is_some there) in absurd (omega arith))) ∙ no_permit st w sp next i k less in
      let second : Weighs (with_permit h p y) g s 0 n nothing (thing x.plain) =
      subst (λ q. Weighs (with_permit h p y) g q 0 n nothing (thing x.plain)) mine (weighs_new_permit (with_permit h p y) i z absent) in
      let both = weighs_after h (with_permit h p y) g s x.size y.size nothing nothing 0 n nothing (thing x.plain) first second in
      let same : record { semaphores = insert h.semaphores s (semaphore_of st.futures next s e); futures = h.futures; permits = st'.permits } ≡ g =
      as_it_was h s (semaphore_of st.futures next s e)
      (get-seen (semaphore_of st.futures next) st.semaphores s ∙ ap (option_map (semaphore_of st.futures next s)) c.there) st'.permits
      ∙ (λ j. record { semaphores = h.semaphores; futures = h.futures; permits = permits j }) in
      settled_as st st' w sp next i s (events.Split p n) e e' k less low tt allowed g chosen w sp 0 0 nothing (thing x.plain) c.there c.semaphores
      (hall_still st st' next i s e e' k.linked less c.there c.semaphores c.futures still (queue_of st.futures next s e.core.queue)
      (queue_still st st' next i s e e' k.linked less c.there c.semaphores c.futures still) ∙ same)
      (linked_still st st' next i s e e' k.linked less c.there c.semaphores c.futures still)
      (weighs_as h g s (x.size + 0) (y.size + n) _ _ 0 0 nothing (thing x.plain) both (omega arith) (λ chosen. omega arith))
      (record {
        account = old.account;
        held = refl;
        plain = omega arith;
        things = omega arith;
        few = (at_most x.plain, omega arith);
        quiet = old.quiet;
        released = omega arith;
        forgotten = omega arith;
      })
      refl k.room (let f = k.few in omega (arith, f))
    where
      at_most : (t : Bool) → one t ≤ 1
      at_most true = omega arith
      at_most false = omega arith
