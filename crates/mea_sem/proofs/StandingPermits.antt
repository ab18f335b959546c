-- what the events of permits leave of a `SemFamily`
use Rattle.std.proofs.Common.{◌≡◌, ◌⊎◌, inl, inr, ℕ, ◌+◌, ◌-◌, ◌^◌, ◌<◌, ◌≤◌, ◌==◌, ◌&&◌, ◌++◌, not, Bool, true, false, cond, if◌then◌else◌, List, [], length, refl, ap, sym, subst, ◌∙◌, arith, Option, Some, None, is_some}
use Rattle.std.specs.Option.{option_map}
use Rattle.std.specs.Ordering.{nat_cmp}
use Rattle.std.specs.FinMap.{FinMap, get, insert, remove}
use Rattle.std.proofs.lemmas.Bool.{eq-eqb, eqb-true, ne_eqb, and_parts, le-leb, lt-leb}
use Rattle.mea_family.specs.declared.answer.Answer.{Answer}
use Rattle.mea_family.specs.declared.answer.Answer.TheVariants as answers
use Rattle.mea_base.specs.Named.{named, at, ChangesAt}
use Rattle.mea_base.specs.Queue.{granted_in}
use Rattle.mea_family.specs.Causes.{unknown_unless}
use Rattle.mea_base.proofs.NamedMaps.{get-named, named_put, named_remove, same_named, get-seen, kept-at, found, changes_twice, changed_at}
use Rattle.mea_base.proofs.Totals.{get_inserted, get_removed}
use Rattle.mea_base.proofs.Maps.{inside}
use Rattle.mea_family.specs.declared.stop.Stop.TheVariants as stops
use Rattle.mea_events.specs.declared.sem_event.SemEvent.{SemEvent}
use Rattle.mea_events.specs.declared.sem_event.SemEvent.TheVariants as events
use Rattle.mea_sem_model.specs.Hall.{Hall, Permit, semaphore_at, with_semaphore}
use Rattle.mea_sem_model.specs.Cause.{cause_of, can_merge, are_of_one_kind}
use Rattle.mea_sem_model.specs.Valid.{Fits}
use Rattle.mea_sem_model.specs.Step.{Outcome, step, quietly, taking, with_permit, try_of, lose_of, split_of, size_of, end_of, end_permit}
use Rattle.mea_sem_core.specs.Core as cores
use Rattle.mea_sem.specs.declared.entries.SemaphoreEntry.{SemaphoreEntry}
use Rattle.mea_sem.specs.declared.entries.PermitEntry.{PermitEntry}
use Rattle.mea_sem.specs.Store.{Store, permit_of, store_of, semaphore_of}
use Rattle.mea_sem.specs.Play.{Play}
use Rattle.mea_sem.proofs.Inside.{Inside}
use Rattle.mea_sem.proofs.Refusals.{permit-at, permit_known}
use Rattle.mea_sem.proofs.Weighs.{one}
use Rattle.mea_sem.proofs.PlaysSemaphores.{plays_nothing}
use Rattle.mea_sem.proofs.PlaysPermits.{plays_try, plays_lose, plays_merge, plays_split, permit_counts, permits_count}
use Rattle.mea_sem.proofs.PlaysEnds.{plays_end_permit}
use Rattle.mea_sem.proofs.Endings.{missing, not_permit}
use Rattle.mea_sem.proofs.Meets.{registered_in, semaphores_in, futures_in, permits_in, store_in, hall_in, IsKeptIn, Meets, MeetsSemaphore, MeetsPermit, Done, permits_semaphore, later, to_kept, done, done_quietly}
use Rattle.mea_sem.proofs.Standing.{Semaphores, Permits, puts_of, semaphores_of, kept_same}
use Rattle.mea_sem.proofs.StandingSemaphores.{small_forgotten, wakers_few, offered, not_offered, as_it_was}

-- ---- permits among entries
abbrev seen_permits : Permits → FinMap nat_cmp Permit
seen_permits ps = named (λ p x. permit_of x) ps

permit_at : (ps : Permits) (p : ℕ) (x : PermitEntry) → at ps p ≡ Some x → get (seen_permits ps) p ≡ Some (permit_of x)
permit_at ps p x is = get-named (λ p x. permit_of x) ps p ∙ ap (option_map permit_of) is

-- a permit's semaphore is kept
pub home_found : (a : Inside) (p : ℕ) {x : PermitEntry} → IsKeptIn a → at (permits_in a) p ≡ Some x → at (semaphores_in a) x.semaphore ≡ None → ⊥
home_found a p {x} k is none =
    let some : is_some (get (hall_in a).semaphores x.semaphore) ≡ true = k.valid.permits_of p (permit_of x) (permit_at (permits_in a) p x is) in
    let gone : get (hall_in a).semaphores x.semaphore ≡ None =
    get-seen (semaphore_of (store_in a).futures a.kept.next) (store_in a).semaphores x.semaphore
    ∙ ap (option_map (semaphore_of (store_in a).futures a.kept.next x.semaphore)) (kept-at (semaphores_in a) x.semaphore ∙ none) in
    absurd (cc)

pub home_living : (a : Inside) (p : ℕ) {x : PermitEntry} → IsKeptIn a → at (permits_in a) p ≡ Some x → at a.kept.semaphores.entries x.semaphore ≡ None → ⊥
home_living a p {x} k is none = elim (missing a x.semaphore none) [
  | inl gone ↦ home_found a p k is gone
  | inr e ↦ absurd (
      let other = not_permit a k x.semaphore e.0 e.1 e.3 p (permit_of x) (permit_at (permits_in a) p x is) in
      let same = eq-eqb x.semaphore x.semaphore refl in
      cc)
]

-- a permit that is written back as it stood
pub written_back : (a : Inside) (p : ℕ) (x : PermitEntry) (ps' : Permits) → at (permits_in a) p ≡ Some x → ChangesAt (permits_in a) ps' p (Some x)
    → store_of (semaphores_in a) (futures_in a) ps' ≡ store_in a
written_back a p x ps' is written =
    let same = kept_same (λ p x. permit_of x) (permits_in a) ps' p x x is refl written in
    λ j. record { semaphores = (store_in a).semaphores; futures = (store_in a).futures; permits = same j }

-- ---- events that change nothing
module _ {a : Inside} {v : Play} {i : ℕ} (m : Meets a v i) where
  pub unchanged : (event : SemEvent) (reply : Answer) → (step (hall_in a) i event).hall ≡ hall_in a → (step (hall_in a) i event).wakes ≡ []
      → reply ≡ (step (hall_in a) i event).reply
      → Done v i (step v.hall i event) reply (store_in a) (registered_in a) a.list.registered a.list.wakers
  unchanged event reply is quiet replied = done_quietly m event reply
      (plays_nothing (store_in a) (registered_in a) a.list.registered a.kept.next i event m.kept (later m) m.low is) quiet replied

  pub sized : (p : ℕ) (x : PermitEntry) → at (permits_in a) p ≡ Some x
      → Done v i (step v.hall i (events.Size p)) (answers.Permits x.size) (store_in a) (registered_in a) a.list.registered a.list.wakers
  sized p x is = unchanged (events.Size p) (answers.Permits x.size) refl refl (ap (λ o. answers.Permits (size_of o)) (sym (permit_at (permits_in a) p x is)))

  -- the outcome of a split of a permit that is there
  abbrev split_in : ℕ → ℕ → Permit → Bool → Outcome
  split_in p n y b = if b then quietly (with_permit (with_permit (hall_in a) p (record y { size = y.size - n })) i (record y { size = n }))
      answers.Held else quietly (hall_in a) answers.Lacking

  pub too_small : (p n : ℕ) (x : PermitEntry) (ps' : Permits) → at (permits_in a) p ≡ Some x → ChangesAt (permits_in a) ps' p (Some x) → x.size < n
      → Done v i (step v.hall i (events.Split p n)) answers.Lacking (store_of (semaphores_in a) (futures_in a) ps')
      (registered_in a) a.list.registered a.list.wakers
  too_small p n x ps' is written lack =
      let outcome : step (hall_in a) i (events.Split p n) ≡ quietly (hall_in a) answers.Lacking =
      ap (split_of (hall_in a) i p n) (permit_at (permits_in a) p x is) ∙ ap (split_in p n (permit_of x)) (lt-leb n x.size lack) in
      subst (λ (st : Store). Done v i (step v.hall i (events.Split p n)) answers.Lacking st (registered_in a) a.list.registered a.list.wakers)
      (sym (written_back a p x ps' is written))
      (unchanged (events.Split p n) answers.Lacking (ap (λ o. o.hall) outcome) (ap (λ o. o.wakes) outcome) (ap (λ o. o.reply) (sym outcome)))

-- ---- tries
abbrev by_form : Bool → ℕ → ℕ → SemEvent
by_form plain s n = cond plain (events.Try s n) (events.Tryo s n)

fits_by_form : (plain : Bool) (s n : ℕ) → Fits (by_form plain s n)
fits_by_form true s n = tt
fits_by_form false s n = tt

step_by_form : (plain : Bool) (h : Hall) (i s n : ℕ) → step h i (by_form plain s n) ≡ try_of h i s n plain
step_by_form true h i s n = refl
step_by_form false h i s n = refl

allowed_by_form : (plain : Bool) (h : Hall) (s n : ℕ) → cause_of h (events.Try s n) ≡ None → cause_of h (by_form plain s n) ≡ None
allowed_by_form true h s n allowed = allowed
allowed_by_form false h s n allowed = allowed

module _ {a : Inside} {v : Play} {i s : ℕ} {e : SemaphoreEntry} (m : MeetsSemaphore a v i s e) (n : ℕ) (plain : Bool) where
  abbrev chosen : Bool → Outcome
  chosen b = if b then quietly (with_permit (with_semaphore (hall_in a) s (taking (semaphore_at (hall_in a) s) n)) i
      (record { semaphore = s; size = n; plain = plain })) answers.Held else quietly (hall_in a) answers.Lacking

  as_tried : {st' : Store} {reply : Answer} → Done v i (step v.hall i (by_form plain s n)) reply st' (registered_in a) a.list.registered a.list.wakers
      → Done v i (try_of v.hall i s n plain) reply st' (registered_in a) a.list.registered a.list.wakers
  as_tried {st'} {reply} done = subst (λ o. Done v i o reply st' (registered_in a) a.list.registered a.list.wakers) (step_by_form plain v.hall i s n) done

  tried_in_vain : (e.core.closed ≡ true) ⊎ (e.core.free < n) → Done v i (try_of v.hall i s n plain) answers.Lacking (store_in a) (registered_in a) a.list.registered a.list.wakers
  tried_in_vain lack =
      let outcome : step (hall_in a) i (by_form plain s n) ≡ quietly (hall_in a) answers.Lacking =
      step_by_form plain (hall_in a) i s n ∙ ap chosen (not_offered m n lack) in
      as_tried (unchanged m.meets (by_form plain s n) answers.Lacking (ap (λ o. o.hall) outcome) (ap (λ o. o.wakes) outcome) (ap (λ o. o.reply) (sym outcome)))

  -- the same where the semaphore was written back as it was
  pub tried_for_nothing : (ss' : Semaphores) (y : SemaphoreEntry) → ChangesAt (semaphores_in a) ss' s (Some y) → y ≡ e
      → (e.core.closed ≡ true) ⊎ (e.core.free < n)
      → Done v i (try_of v.hall i s n plain) answers.Lacking (store_of ss' (futures_in a) (permits_in a)) (registered_in a) a.list.registered a.list.wakers
  tried_for_nothing ss' y changes is lack = subst
      (λ (st : Store). Done v i (try_of v.hall i s n plain) answers.Lacking st (registered_in a) a.list.registered a.list.wakers)
      (sym (as_it_was m ss' y changes is)) (tried_in_vain lack)

  pub tried : (ss' : Semaphores) (ps' : Permits) (d e' : SemaphoreEntry) → cause_of v.hall (events.Try s n) ≡ None
      → at (semaphores_in a) s ≡ Some d → d.core.closed ≡ false → n ≤ d.core.free
      → e' ≡ record e { core = record e.core { free = e.core.free - n }; plain = e.plain + one plain; things = e.things + 1 } → cores.held_of e'.core ≡ cores.held_of e.core + n
      → ChangesAt (semaphores_in a) ss' s (Some e') → ChangesAt (permits_in a) ps' i (Some (record { semaphore = s; size = n; plain = plain }))
      → Done v i (try_of v.hall i s n plain) answers.Held (store_of ss' (futures_in a) ps') (registered_in a) a.list.registered a.list.wakers
  tried ss' ps' d e' allowed tested is_open fits new held changes given =
      let there = m.there in
      let one_entry : d ≡ e = cc in
      let enough : n ≤ e.core.free = subst (λ (x : SemaphoreEntry). n ≤ x.core.free) one_entry fits in
      let open_still : e.core.closed ≡ false = subst (λ (x : SemaphoreEntry). x.core.closed ≡ false) one_entry is_open in
      let outcome : step (hall_in a) i (by_form plain s n) ≡ chosen true =
      step_by_form plain (hall_in a) i s n ∙ ap chosen (offered m n open_still enough) in
      let plays = plays_try (store_in a) (store_of ss' (futures_in a) ps') (registered_in a) a.list.registered a.kept.next i s n e m.meets.kept (later m.meets)
      m.meets.low (by_form plain s n) plain (fits_by_form plain s n)
      (to_kept m.meets (λ h. cause_of h (by_form plain s n) ≡ None) (allowed_by_form plain v.hall s n allowed))
      (ap (λ o. o.hall) (step_by_form plain (hall_in a) i s n)) open_still enough
      (puts_of (semaphores_in a) ss' (futures_in a) (permits_in a) ps' s e e' _ m.there changes new)
      (named_put (λ p x. permit_of x) (permits_in a) ps' i (record { semaphore = s; size = n; plain = plain }) given)
      (subst (λ (y : SemaphoreEntry). cores.held_of y.core ≡ cores.held_of e.core + n) new held) in
      as_tried (done_quietly m.meets (by_form plain s n) answers.Held plays (ap (λ o. o.wakes) outcome) (ap (λ o. o.reply) (sym outcome)))

-- ---- events on a permit
module _ {a : Inside} {v : Play} {i p : ℕ} {x : PermitEntry} {e : SemaphoreEntry} (m : MeetsPermit a v i p x e) where
  permit_there : get (store_in a).permits p ≡ Some (permit_of x)
  permit_there = permit_at (permits_in a) p x m.is

  home_there : get (store_in a).semaphores x.semaphore ≡ Some e
  home_there = found (semaphores_in a) x.semaphore e m.there

  pub permit_held : x.size ≤ cores.held_of e.core
  permit_held = (permit_counts (store_in a) (registered_in a) a.list.registered a.kept.next p (permit_of x) e m.meets.kept permit_there home_there).0

  pub permit_counted : one x.plain ≤ e.plain
  permit_counted = (permit_counts (store_in a) (registered_in a) a.list.registered a.kept.next p (permit_of x) e m.meets.kept permit_there home_there).1

  pub permit_thing : 1 ≤ e.things
  permit_thing = (permit_counts (store_in a) (registered_in a) a.list.registered a.kept.next p (permit_of x) e m.meets.kept permit_there home_there).2

  pub permit_small : x.size < 2 ^ 64
  permit_small =
      let most = permit_held in
      let same = (m.meets.kept.each x.semaphore e home_there).held in
      let small = m.meets.kept.valid.fits x.semaphore in
      omega (arith, most, same, small)

  -- the tally of its semaphore has room for it
  pub tally_fits : e.forgotten + x.size < 2 ^ 128
  tally_fits = small_forgotten (permits_semaphore m) x.size permit_small

  pub lost : (ss' : Semaphores) (ps' : Permits) (e' : SemaphoreEntry) → cause_of v.hall (events.Lose p) ≡ None
      → e' ≡ record e { core = record e.core { live = e.core.live - x.size }; forgotten = e.forgotten + x.size; plain = e.plain - one x.plain; things = e.things - 1 }
      → cores.held_of e'.core + x.size ≡ cores.held_of e.core
      → ChangesAt (semaphores_in a) ss' x.semaphore (Some e') → ChangesAt (permits_in a) ps' p None
      → Done v i (step v.hall i (events.Lose p)) (answers.Forgot x.size) (store_of ss' (futures_in a) ps') (registered_in a) a.list.registered a.list.wakers
  lost ss' ps' e' allowed new held changes gone =
      let plays = plays_lose (store_in a) (store_of ss' (futures_in a) ps') (registered_in a) a.list.registered a.kept.next i x.semaphore p e m.meets.kept
      (later m.meets) m.meets.low (permit_of x) refl permit_small permit_there
      (to_kept m.meets (λ h. cause_of h (events.Lose p) ≡ None) allowed)
      (puts_of (semaphores_in a) ss' (futures_in a) (permits_in a) ps' x.semaphore e e' _ m.there changes new)
      (named_remove (λ p x. permit_of x) (permits_in a) ps' p gone)
      (subst (λ (y : SemaphoreEntry). cores.held_of y.core + x.size ≡ cores.held_of e.core) new held) in
      done_quietly m.meets (events.Lose p) (answers.Forgot x.size) plays (ap (λ o. (lose_of (hall_in a) p o).wakes) permit_there)
      (ap (λ o. (lose_of (hall_in a) p o).reply) (sym permit_there))

  pub ended : (ss' : Semaphores) (ps' : Permits) (left sp' : ℕ) (e' : SemaphoreEntry) (wakes' : List ℕ) → cause_of v.hall (events.End p) ≡ None
      → get v.hall.futures p ≡ None
      → e' ≡ record e {
        core = record (cores.poured (record e.core { live = e.core.live - x.size }) x.size) { wakes = [] };
        plain = e.plain - one x.plain;
        things = e.things - 1;
      } → cores.held_of e'.core + x.size ≡ cores.held_of e.core
      → ChangesAt (semaphores_in a) ss' x.semaphore (Some e') → ChangesAt (permits_in a) ps' p None
      → left ≡ length (cores.wakers_of (granted_in e.core.queue x.size))
      → wakes' ≡ a.list.wakers ++ cores.wakers_of (granted_in e.core.queue x.size) → sp' + left ≡ a.list.registered
      → Done v i (step v.hall i (events.End p)) answers.Done (store_of ss' (futures_in a) ps') ((registered_in a) - left) sp' wakes'
  ended ss' ps' left sp' e' wakes' allowed no_future new held changes gone count moved spare =
      let alone : get (hall_in a).futures p ≡ None = to_kept m.meets (λ h. get h.futures p ≡ None) no_future in
      let few = wakers_few (permits_semaphore m) x.size in
      let room = m.meets.kept.room in
      let whole = plays_end_permit (store_in a) (store_of ss' (futures_in a) ps') (registered_in a) ((registered_in a) - left)
      sp' a.list.registered a.kept.next i x.semaphore x.size e m.meets.kept (later m.meets) m.meets.low home_there p (permit_of x) refl permit_there alone
      (to_kept m.meets (λ h. cause_of h (events.End p) ≡ None) allowed) (semaphores_of (semaphores_in a) ss' x.semaphore e' _ changes new) refl
      (named_remove (λ p x. permit_of x) (permits_in a) ps' p gone)
      (subst (λ (y : SemaphoreEntry). cores.held_of y.core + x.size ≡ cores.held_of e.core) new held) (omega (arith, count, few))
      (omega (arith, count, few, spare, room)) in
      let outcome : (step (hall_in a) i (events.End p)).reply ≡ answers.Done =
      ap (λ o. (end_of (hall_in a) p o).reply) alone ∙ ap (λ o. (end_permit (hall_in a) p o).reply) permit_there in
      done m.meets wakes' (events.End p) answers.Done whole.plays (moved ∙ ap (λ ws. a.list.wakers ++ ws) (sym whole.wakes)) (sym outcome)

-- ---- merges
same_form : (a b : Bool) → (if a then b else not b) ≡ true → b ≡ a
same_form true b h = h
same_form false true h = absurd (cc)
same_form false false h = refl

of_one_kind : (x y : Permit) → are_of_one_kind (Some x) (Some y) ≡ true → (x.semaphore ≡ y.semaphore) × (y.plain ≡ x.plain)
of_one_kind x y h =
    let parts = and_parts (x.semaphore == y.semaphore) (if x.plain then y.plain else not y.plain) h in
    (eqb-true x.semaphore y.semaphore parts.0, same_form x.plain y.plain parts.1)

-- ---- why a merge is refused
pub unmergeable : (v : Play) (p q : ℕ) (a b : Option Permit) → get v.hall.permits p ≡ a → get v.hall.permits q ≡ b → are_of_one_kind a b ≡ false
    → unknown_unless (can_merge v.hall p q) ≡ Some stops.Unknown
unmergeable v p q a b isa isb other =
    ap (λ t. unknown_unless (not (p == q) && t)) ((λ j. are_of_one_kind (isa j) (isb j)) ∙ other) ∙ by_test (not (p == q))
  where
    by_test : (t : Bool) → unknown_unless (t && false) ≡ Some stops.Unknown
    by_test true = refl
    by_test false = refl

pub of_none : (o : Option Permit) → are_of_one_kind o None ≡ false
of_none None = refl
of_none (Some x) = refl

-- q goes, and p has been written before
apart_names : (m : FinMap nat_cmp Permit) (p q : ℕ) (x : Permit) → (p ≡ q → ⊥) → remove (insert m p x) q ≡ insert (remove m q) p x
apart_names m p q x apart = same_named _ _ (λ k.
    get_removed (insert m p x) q k ∙ ap (cond (q == k) None) (get_inserted m p k x) ∙ at_each k (p == k) (q == k) refl refl
    ∙ ap (cond (p == k) (Some x)) (sym (get_removed m q k)) ∙ sym (get_inserted (remove m q) p k x))
  where
    at_each : (k : ℕ) (t u : Bool) → (p == k) ≡ t → (q == k) ≡ u → cond u None (cond t (Some x) (get m k)) ≡ cond t (Some x) (cond u None (get m k))
    at_each k true true pk qk = absurd (apart (eqb-true p k pk ∙ sym (eqb-true q k qk)))
    at_each k true false pk qk = refl
    at_each k false true pk qk = refl
    at_each k false false pk qk = refl

module _ {a : Inside} {v : Play} {i : ℕ} (m : Meets a v i) (p q : ℕ) (apart : p ≡ q → ⊥) (x y : PermitEntry) (isx : at (permits_in a) p ≡ Some x)
    (isy : at (permits_in a) q ≡ Some y) (same : are_of_one_kind (Some (permit_of x)) (Some (permit_of y)) ≡ true) where
  alike : (x.semaphore ≡ y.semaphore) × (y.plain ≡ x.plain)
  alike = of_one_kind (permit_of x) (permit_of y) same

  pub may_merge : cause_of v.hall (events.Merge p q) ≡ None
  may_merge = ap (λ t. unknown_unless (not t && are_of_one_kind (get v.hall.permits p) (get v.hall.permits q))) (ne_eqb p q apart)
      ∙ ap unknown_unless ((λ j. are_of_one_kind (seen_at p x isx j) (seen_at q y isy j)) ∙ same)
    where
      seen_at : (k : ℕ) (z : PermitEntry) → at (permits_in a) k ≡ Some z → get v.hall.permits k ≡ Some (permit_of z)
      seen_at k z is = permit-at a m.seen k ∙ ap (option_map permit_of) is

  pub sizes_fit : x.size + y.size < 2 ^ 64
  sizes_fit = by_entry (at (semaphores_in a) x.semaphore) refl
    where
      by_entry : (o : Option SemaphoreEntry) → at (semaphores_in a) x.semaphore ≡ o → x.size + y.size < 2 ^ 64
      by_entry None none = absurd (home_found a p m.kept isx none)
      by_entry (Some e) there =
          let most = permits_count (store_in a) (registered_in a) a.list.registered a.kept.next p q (permit_of x) (permit_of y) e m.kept apart
          (permit_at (permits_in a) p x isx) (permit_at (permits_in a) q y isy) alike.0 (found (semaphores_in a) x.semaphore e there) in
          let kept_as = (m.kept.each x.semaphore e (found (semaphores_in a) x.semaphore e there)).held in
          let small = m.kept.valid.fits x.semaphore in
          omega (arith, most, kept_as, small)

  pub merged : (ss' : Semaphores) (ps1 ps' : Permits) (e e' : SemaphoreEntry) → at (semaphores_in a) y.semaphore ≡ Some e
      → e' ≡ record e { plain = e.plain - one y.plain; things = e.things - 1 } → ChangesAt (semaphores_in a) ss' y.semaphore (Some e')
      → ChangesAt (permits_in a) ps1 p (Some (record x { size = x.size + y.size })) → ChangesAt ps1 ps' q None
      → Done v i (step v.hall i (events.Merge p q)) answers.Done (store_of ss' (futures_in a) ps') (registered_in a) a.list.registered a.list.wakers
  merged ss' ps1 ps' e e' there new changes grown gone =
      let st' : Store = store_of ss' (futures_in a) ps' in
      let permits : st'.permits ≡ insert (remove (store_in a).permits q) p (record (permit_of x) { size = x.size + y.size }) =
      named_remove (λ p x. permit_of x) ps1 ps' q gone
      ∙ ap (λ m. remove m q) (named_put (λ p x. permit_of x) (permits_in a) ps1 p (record x { size = x.size + y.size }) grown)
      ∙ apart_names (store_in a).permits p q (record (permit_of x) { size = x.size + y.size }) apart in
      let plays = plays_merge (store_in a) st' (registered_in a) a.list.registered a.kept.next i y.semaphore q e m.kept (later m) m.low p (permit_of x)
      (permit_of y) alike.0 refl alike.1 apart
      (permit_at (permits_in a) p x isx) (permit_at (permits_in a) q y isy) (to_kept m (λ h. cause_of h (events.Merge p q) ≡ None) may_merge)
      (puts_of (semaphores_in a) ss' (futures_in a) (permits_in a) ps' y.semaphore e e' _ there changes
      (new ∙ ap (λ b. record e { plain = e.plain - one b; things = e.things - 1 }) alike.1)) permits in
      done_quietly m (events.Merge p q) answers.Done plays refl refl

-- ---- splits
pub halved : {a : Inside} {v : Play} {i p : ℕ} {x : PermitEntry} {e : SemaphoreEntry} → MeetsPermit a v i p x e
    → (ss' : Semaphores) (ps1 ps' : Permits) (n : ℕ) (e' : SemaphoreEntry) → n ≤ x.size → e' ≡ record e { plain = e.plain + one x.plain; things = e.things + 1 }
    → ChangesAt (semaphores_in a) ss' x.semaphore (Some e') → ChangesAt (permits_in a) ps1 p (Some (record x { size = x.size - n }))
    → ChangesAt ps1 ps' i (Some (record x { size = n }))
    → Done v i (step v.hall i (events.Split p n)) answers.Held (store_of ss' (futures_in a) ps') (registered_in a) a.list.registered a.list.wakers
halved {a} {v} {i} {p} {x} {e} m ss' ps1 ps' n e' enough new changes less_now given =
    let h : Hall = hall_in a in
    let ps : Permits = (permits_in a) in
    let here = permit_there m in
    let st' : Store = store_of ss' (futures_in a) ps' in
    let permits : st'.permits ≡ insert (insert (store_in a).permits p (record (permit_of x) { size = x.size - n })) i (record (permit_of x) { size = n }) =
    named_put (λ p x. permit_of x) ps1 ps' i (record x { size = n }) given
    ∙ ap (λ m. insert m i (record (permit_of x) { size = n })) (named_put (λ p x. permit_of x) ps ps1 p (record x { size = x.size - n }) less_now) in
    let outcome : step h i (events.Split p n) ≡ split_in m.meets p n (permit_of x) true =
    ap (split_of h i p n) here ∙ ap (split_in m.meets p n (permit_of x)) (le-leb n x.size enough) in
    let plays = plays_split (store_in a) st' (registered_in a) a.list.registered a.kept.next i x.semaphore n e m.meets.kept (later m.meets) m.meets.low p (permit_of x)
    refl enough here (to_kept m.meets (λ g. cause_of g (events.Split p n) ≡ None) (permit_known a m.meets.seen p x m.is))
    (puts_of (semaphores_in a) ss' (futures_in a) ps ps' x.semaphore e e' _ m.there changes new) permits in
    done_quietly m.meets (events.Split p n) answers.Held plays (ap (λ o. o.wakes) outcome) (ap (λ o. o.reply) (sym outcome))

-- where the part found no room, the permit has its size back
pub undone : (a : Inside) (p n : ℕ) (x y : PermitEntry) (ps1 ps2 ps' : Permits) → at (permits_in a) p ≡ Some x → n ≤ x.size
    → ChangesAt (permits_in a) ps1 p (Some (record x { size = x.size - n })) → ps2 ≡ ps1 → at ps2 p ≡ Some y
    → ChangesAt ps2 ps' p (Some (record y { size = y.size + n })) → store_of (semaphores_in a) (futures_in a) ps' ≡ store_in a
undone a p n x y ps1 ps2 ps' is enough less_now same isy back =
    let smaller : y ≡ record x { size = x.size - n } = inside (sym isy ∙ ap (λ ps. at ps p) same ∙ changed_at (permits_in a) ps1 p _ less_now) in
    let whole : record y { size = y.size + n } ≡ x = (λ j. record (smaller j) { size = (smaller j).size + n }) ∙ sizes_back in
    let back1 = subst (λ (ps : Permits). ChangesAt ps ps' p (Some (record y { size = y.size + n }))) same back in
    written_back a p x ps' is
    (subst (λ (z : PermitEntry). ChangesAt (permits_in a) ps' p (Some z)) whole (changes_twice (permits_in a) ps1 ps' p _ _ less_now back1))
  where
    sizes_back : record x { size = x.size - n + n } ≡ x
    sizes_back = ap (λ t. record x { size = t }) (let is_so : x.size - n + n ≡ x.size = omega arith in is_so)
