-- what each change of a list of notes does to those that wait and those that were notified
use Rattle.std.proofs.Common.{◌≡◌, ◌≢◌, ℕ, List, [], ◌∷◌, ◌++◌, Bool, false, Option, Some, None, IsSome, IsTrue, ◌↔◌, Ok, Result, map, refl, sym, ap, ap₂, ◌∙◌, inl, inr, append_assoc}
use Rattle.std.proofs.lemmas.Bool.{cases_eq}
use Rattle.std.proofs.lemmas.List.{append-nil}
use Rattle.std.specs.FinMap as fin
use Rattle.mea_base.specs.declared.no_memory.NoMemory.{NoMemory}
use Rattle.mea_base.specs.declared.turn.Turn.{Turn}
use Rattle.mea_base.specs.declared.turn.Turn.TheVariants.{Pending}
use Rattle.mea_base.specs.Outbox.{Wakes}
use Rattle.mea_base.specs.WaitList.{Waits, get, with_value, without, IsInUse, IsAbsent, Updates}
use Rattle.mea_base.proofs.Waits.{without_absent, absent_from_unlinked}
use Rattle.mea_lock_core.specs.Condvar.{Condvar, IsSound, Knows, Lists, waker_under, with_waker, without_wait, first_notified, notifying, notified_all, passed_on}
use Rattle.mea_lock_core.specs.CondWaits.{AsksLock, PollsListed, EndsListed}
use Rattle.mea_lock_core.specs.Lock.{Lock}
use Rattle.mea_lock_core.specs.Notes.{waker_in, notified_in, is_waiting, is_by_one, with_wait, waits_in, notified_of, condvar_of, AreNoted}
use Rattle.mea_lock_core.specs.declared.cond_wait.CondWait.{CondWait}
use Rattle.mea_lock_core.specs.declared.cond_wait.CondWait.TheVariants.{Listed}
use Rattle.mea_lock_core.specs.declared.note.Note.{Note}
use Rattle.mea_lock_core.specs.declared.note.Note.TheVariants.{Waiting, Notified}
use Rattle.mea_lock_core.proofs.Kept.{written, unlinked_notified, unlinked_vacant, linked_waiting}
use Rattle.mea_lock_core.proofs.Lines.{waits_in-updated, waits_in-end, waits_in-rewoken, waits_in-without, waker_under-none, waker_under-linked, AreApart-waits_in}
use Rattle.mea_lock_core.proofs.Pairs.{get-notified, notified_same, notified_inserted, notified_removed}

module _ {W : Type 0} where
  -- ---- what a number has
  notified_at : (w : Waits (Note W)) (n : ℕ) (x : Option (Note W)) → get w n ≡ x → fin.get (notified_of w.slots) n ≡ notified_in x
  notified_at w n x found = get-notified w.slots n ∙ ap notified_in found

  idle_at : (w : Waits (Note W)) (n : ℕ) (x : Option (Note W)) → get w n ≡ x → waker_in x ≡ None → waker_under (waits_in w.slots w.order) n ≡ None
  idle_at w n x found none = waker_under-none w.slots n w.order (ap waker_in found ∙ none)

  waits_at : (w : Waits (Note W)) (n : ℕ) (v : W) → get w n ≡ Some (Waiting v) → AreNoted w → waker_under (waits_in w.slots w.order) n ≡ Some v
  waits_at w n v found noted = waker_under-linked w.slots n v w.order (ap waker_in found) (linked_waiting w n v found noted)

  not_some : (x : Option W) → x ≡ None → IsSome x → ⊥
  not_some x none some = let no = rw none at some in cc

  -- one that was notified does not wait
  pub notified_waits_not : (w : Waits (Note W)) (o : Wakes W) (n : ℕ) (note : Note W) (b : Bool) → get w n ≡ Some note → notified_in (Some note) ≡ Some b
      → IsSome (waker_under (condvar_of w o).waiting n) → ⊥
  notified_waits_not w o n (Waiting v) b found told waits = absurd (cc)
  notified_waits_not w o n (Notified c) b found told waits = not_some _ (idle_at w n (Some (Notified c)) found refl) waits

  pub knows : (w : Waits (Note W)) (o : Wakes W) (n : ℕ) → AreNoted w → IsInUse w n → Knows (condvar_of w o) n
  knows w o n noted used = by_note (get w n) refl
    where
      by_note : (x : Option (Note W)) → get w n ≡ x → Knows (condvar_of w o) n
      by_note None found = absurd (let no = rw found at used in cc)
      by_note (Some (Waiting v)) found = inl (rw (waits_at w n v found noted) refl)
      by_note (Some (Notified b)) found = inr (rw (notified_at w n (Some (Notified b)) found) refl)

  pub in_use : (w : Waits (Note W)) (o : Wakes W) (n : ℕ) → Knows (condvar_of w o) n → IsInUse w n
  in_use w o n known = by_note (get w n) refl known
    where
      by_note : (x : Option (Note W)) → get w n ≡ x → Knows (condvar_of w o) n → IsInUse w n
      by_note None found (inl waits) = absurd (not_some _ (idle_at w n None found refl) waits)
      by_note None found (inr told) = absurd (let no = rw (notified_at w n None found) at told in cc)
      by_note (Some note) found known = rw found refl

  pub sound_of : (w : Waits (Note W)) (o : Wakes W) → AreNoted w → IsSound (condvar_of w o)
  sound_of w o noted = record {
    apart = AreApart-waits_in w.slots w.order noted.distinct;
    notified_apart = λ n waits. by_note n (get w n) refl waits;
  }
    where
      by_note : (n : ℕ) (x : Option (Note W)) → get w n ≡ x → waker_under (waits_in w.slots w.order) n ≢ None → fin.get (notified_of w.slots) n ≡ None
      by_note n None found waits = notified_at w n None found
      by_note n (Some (Waiting v)) found waits = notified_at w n (Some (Waiting v)) found
      by_note n (Some (Notified b)) found waits = absurd (waits (idle_at w n (Some (Notified b)) found refl))

  -- ---- changes

  -- reserved places change nothing
  pub same_condvar : (w v : Waits (Note W)) (o p : Wakes W) → v ≡ record w { spare = v.spare } → p ≡ record o { spare = p.spare }
      → condvar_of v p ≡ condvar_of w o
  same_condvar w v o p ws os = rw (ws, os) refl

  -- the first is notified
  first_is : (u : Waits (Note W)) (o p : Wakes W) (n : ℕ) (waker : W) (b : Bool) → get u n ≡ Some (Waiting waker) → p.wakers ≡ o.wakers ++ waker ∷ []
      → IsAbsent n u.order
      → condvar_of (with_value u n (Notified b)) p ≡ first_notified b (waits_in u.slots (n ∷ u.order)) (condvar_of (record u { order = n ∷ u.order }) o)
  first_is u o p n waker b found sent absent =
      let updates = written u n (Waiting waker) (Notified b) found in
      let line = waits_in-updated u.slots (with_value u n (Notified b)).slots n u.order updates.others absent in
      let pairs = notified_inserted u.slots (with_value u n (Notified b)).slots n b updates.others (ap notified_in updates.changed) in
      let direct : condvar_of (with_value u n (Notified b))
      p ≡ record { waiting = waits_in u.slots u.order; notified = fin.insert (notified_of u.slots) n b; wakes = o.wakers ++ waker ∷ [] } =
      λ i. record { waiting = line i; notified = pairs i; wakes = sent i } in
      direct ∙ ap (λ (x : Option (Note W)). first_notified b (with_wait n (waker_in x) (waits_in u.slots u.order))
      (record { waiting = with_wait n (waker_in x) (waits_in u.slots u.order); notified = notified_of u.slots; wakes = o.wakers })) (sym found)

  pub first_notified_is : (w u : Waits (Note W)) (o p : Wakes W) (n : ℕ) (waker : W) (b : Bool) (now : Note W) → w ≡ record u { order = n ∷ u.order }
      → get u n ≡ Some (Waiting waker) → now ≡ Notified b → p.wakers ≡ o.wakers ++ waker ∷ [] → AreNoted w
      → condvar_of (with_value u n now) p ≡ first_notified b (condvar_of w o).waiting (condvar_of w o)
  first_notified_is w u o p n waker b now is found same sent noted =
      let apart = noted.distinct in
      let distinct = rw is at apart in
      rw (is, same) (first_is u o p n waker b found sent distinct.0)

  -- a new one waits
  pub lists : (w v : Waits (Note W)) (o p : Wakes W) (n : ℕ) (waker : W) → get w n ≡ None → Updates w v n (Some (Waiting waker))
      → v.order ≡ w.order ++ n ∷ [] → p.wakers ≡ o.wakers → AreNoted w → Lists (condvar_of w o) (condvar_of v p) n waker
  lists w v o p n waker vacant updates order sent noted =
      let line : waits_in v.slots v.order ≡ waits_in w.slots w.order ++ (n, waker) ∷ [] =
      rw order (waits_in-end v.slots n w.order ∙ ap₂ (λ q (x : Option (Note W)). q ++ with_wait n (waker_in x) [])
      (waits_in-updated w.slots v.slots n w.order updates.others (absent_from_unlinked n w.order (unlinked_vacant w n vacant noted))) updates.changed) in
      let pairs : notified_of v.slots ≡ notified_of w.slots = notified_same w.slots v.slots (λ q. elim (cases_eq q n) [
        | inl same ↦ rw (same, updates.changed, vacant) refl
        | inr differs ↦ ap notified_in (updates.others q differs)
      ]) in
      record {
        is = λ i. record { waiting = line i; notified = pairs i; wakes = sent i };
        not_waiting = idle_at w n None vacant refl;
        not_notified = notified_at w n None vacant;
      }

  -- one that was notified leaves
  left_notified : (w v : Waits (Note W)) (o p : Wakes W) (n : ℕ) (b : Bool) → get w n ≡ Some (Notified b) → Updates w v n None
      → v.order ≡ without n w.order → p.wakers ≡ o.wakers → AreNoted w
      → condvar_of v p ≡ record (condvar_of w o) { notified = fin.remove (notified_of w.slots) n }
  left_notified w v o p n b found updates order sent noted =
      let absent = absent_from_unlinked n w.order (unlinked_notified w n b found noted) in
      let line : waits_in v.slots v.order ≡ waits_in w.slots w.order =
      rw (order, without_absent n w.order absent) (waits_in-updated w.slots v.slots n w.order updates.others absent) in
      let pairs = notified_removed w.slots v.slots n updates.others (ap notified_in updates.changed) in
      λ i. record { waiting = line i; notified = pairs i; wakes = sent i }

  -- one that waits leaves
  left_waiting : (w v : Waits (Note W)) (o p : Wakes W) (n : ℕ) (x : W) → get w n ≡ Some (Waiting x) → Updates w v n None
      → v.order ≡ without n w.order → p.wakers ≡ o.wakers
      → condvar_of v p ≡ record (condvar_of w o) { waiting = without_wait (waits_in w.slots w.order) n }
  left_waiting w v o p n x found updates order sent =
      let line : waits_in v.slots v.order ≡ without_wait (waits_in w.slots w.order) n = rw order (waits_in-without w.slots v.slots n w.order updates.others) in
      let pairs : notified_of v.slots ≡ notified_of w.slots = notified_same w.slots v.slots (λ q. elim (cases_eq q n) [
        | inl same ↦ rw (same, updates.changed, found) refl
        | inr differs ↦ ap notified_in (updates.others q differs)
      ]) in
      λ i. record { waiting = line i; notified = pairs i; wakes = sent i }

  -- one that waits has another waker
  rewoken : (w : Waits (Note W)) (o : Wakes W) (n : ℕ) (was waker : W) → get w n ≡ Some (Waiting was)
      → condvar_of (with_value w n (Waiting waker)) o ≡ record (condvar_of w o) { waiting = with_waker (waits_in w.slots w.order) n waker }
  rewoken w o n was waker found =
      let updates = written w n (Waiting was) (Waiting waker) found in
      let line = waits_in-rewoken w.slots (with_value w n (Waiting waker)).slots n was waker w.order updates.others (ap waker_in found)
      (ap waker_in updates.changed) in
      let pairs : notified_of (with_value w n (Waiting waker)).slots ≡ notified_of w.slots =
      notified_same w.slots (with_value w n (Waiting waker)).slots (λ q. elim (cases_eq q n) [
        | inl same ↦ rw (same, updates.changed, found) refl
        | inr differs ↦ ap notified_in (updates.others q differs)
      ]) in
      λ i. record { waiting = line i; notified = pairs i; wakes = o.wakers }

  -- ---- notifying each

  pub notified_all_step : (s s' : Condvar W) → s' ≡ first_notified false s.waiting s → notified_all s' ≡ notified_all s
  notified_all_step s s' is = ap notified_all is ∙ by_waiting s.waiting refl
    where
      by_waiting : (q : List (ℕ × W)) → s.waiting ≡ q → notified_all (first_notified false q s) ≡ notified_all s
      by_waiting [] waits = refl
      by_waiting (e ∷ q) waits =
          (λ i. record {
            waiting = [];
            notified = notifying (fin.insert s.notified e.0 false) q;
            wakes = append_assoc s.wakes (e.1 ∷ []) (map {A = ℕ × W} (λ p. p.1) q) i;
          })
          ∙ ap (λ (r : List (ℕ × W)). record { waiting = []; notified = notifying s.notified r; wakes = s.wakes ++ map {A = ℕ × W} (λ p. p.1) r }) (sym waits)

  pub notified_all_end : (w : Waits (Note W)) (o : Wakes W) → w.order ≡ [] → notified_all (condvar_of w o) ≡ condvar_of w o
  notified_all_end w o none =
      let line : waits_in w.slots w.order ≡ [] = ap (waits_in w.slots) none in
      ap (λ (r : List (ℕ × W)). record { waiting = []; notified = notifying (notified_of w.slots) r; wakes = o.wakers ++ map {A = ℕ × W} (λ p. p.1) r }) line
      ∙ (λ i. record { waiting = sym line i; notified = notified_of w.slots; wakes = append-nil o.wakers i })

  -- ---- ending
  pub ends_listed : (w v : Waits (Note W)) (o p : Wakes W) (n : ℕ) (note : Note W) (by_one : Bool) (s' : Condvar W) → get w n ≡ Some note
      → Updates w v n None → v.order ≡ without n w.order → p.wakers ≡ o.wakers → AreNoted w
      → by_one ≡ is_by_one note → s' ≡ passed_on by_one (condvar_of v p) → EndsListed (condvar_of w o) n s'
  ends_listed w v o p n (Waiting x) by_one s' found updates order sent noted is after = (
    λ _. after ∙ ap (λ b. passed_on b (condvar_of v p)) is ∙ left_waiting w v o p n x found updates order sent,
    λ b told. absurd (let none = notified_at w n (Some (Waiting x)) found in cc),
  )
  ends_listed w v o p n (Notified alone) by_one s' found updates order sent noted is after = (
    λ some. absurd (not_some _ (idle_at w n (Some (Notified alone)) found refl) some),
    λ b told.
        let some = notified_at w n (Some (Notified alone)) found in
        let same : by_one ≡ b = cc in
        after ∙ ap₂ passed_on same (left_notified w v o p n alone found updates order sent noted),
  )

  -- what is left where one that was notified has left, for its poll
  pub left_after : (w m v : Waits (Note W)) (o p : Wakes W) (n : ℕ) (by_one : Bool) (note : Note W) → m ≡ record w { spare = m.spare }
      → p ≡ record o { spare = p.spare } → get w n ≡ Some note → Some by_one ≡ notified_in (Some note)
      → Updates m v n None → v.order ≡ without n m.order → AreNoted w
      → condvar_of v p ≡ record (condvar_of w o) { notified = fin.remove (notified_of w.slots) n }
  left_after w m v o p n by_one (Waiting x) ws os found told updates order noted = absurd (cc)
  left_after w m v o p n by_one (Notified b) ws os found told updates order noted =
      left_notified w v o p n b found
      (record { changed = updates.changed; others = λ k d. updates.others k d ∙ ap (λ (x : Waits (Note W)). get x k) ws })
      (order ∙ ap (λ (x : Waits (Note W)). without n x.order) ws)
      (ap (λ (x : Wakes W). x.wakers) os)
      noted

  -- ---- one wait that is listed, without its mutex
  pub waits_as : (w : Waits (Note W)) (o : Wakes W) (n : ℕ) (note : Note W) → get w n ≡ Some note → AreNoted w → IsTrue (is_waiting note) ↔ IsSome (waker_under (condvar_of w o).waiting n)
  waits_as w o n (Waiting v) found noted = (λ _. rw (waits_at w n v found noted) refl, λ _. refl)
  waits_as w o n (Notified b) found noted = (λ yes. absurd (cc), λ waits. absurd (not_some _ (idle_at w n (Some (Notified b)) found refl) waits))

  pub waits_note : (w : Waits (Note W)) (o : Wakes W) (n : ℕ) (note : Note W) → get w n ≡ Some note → IsSome (waker_under (condvar_of w o).waiting n) → notified_in (Some note) ≡ None
  waits_note w o n (Waiting v) found waits = refl
  waits_note w o n (Notified b) found waits = absurd (not_some _ (idle_at w n (Some (Notified b)) found refl) waits)

  pub rewoken_note : (w : Waits (Note W)) (o : Wakes W) (n : ℕ) (waker : W) (note : Note W) → get w n ≡ Some note → notified_in (Some note) ≡ None
      → condvar_of (with_value w n (Waiting waker)) o ≡ record (condvar_of w o) { waiting = with_waker (condvar_of w o).waiting n waker }
  rewoken_note w o n waker (Waiting x) found waits = rewoken w o n x waker found
  rewoken_note w o n waker (Notified b) found waits = absurd (cc)

  pub unlisted_waited : (w v : Waits (Note W)) (o : Wakes W) (n : ℕ) (note : Note W) → get w n ≡ Some note → Updates w v n None → v.order ≡ without n w.order
      → IsSome (waker_under (condvar_of w o).waiting n) → (is_by_one note ≡ false) × (condvar_of v o ≡ record (condvar_of w o) { waiting = without_wait (condvar_of w o).waiting n })
  unlisted_waited w v o n (Waiting x) found updates order some = (refl, left_waiting w v o o n x found updates order refl)
  unlisted_waited w v o n (Notified b) found updates order some = absurd (not_some _ (idle_at w n (Some (Notified b)) found refl) some)

  pub unlisted_notified : (w v : Waits (Note W)) (o : Wakes W) (n : ℕ) (note : Note W) → get w n ≡ Some note → Updates w v n None → v.order ≡ without n w.order → AreNoted w
      → (b : Bool) → fin.get (condvar_of w o).notified n ≡ Some b → (is_by_one note ≡ b) × (condvar_of v o ≡ record (condvar_of w o) { notified = fin.remove (condvar_of w o).notified n })
  unlisted_notified w v o n (Waiting x) found updates order noted b told = absurd (let none = notified_at w n (Some (Waiting x)) found in cc)
  unlisted_notified w v o n (Notified c) found updates order noted b told = (let some = notified_at w n (Some (Notified c)) found in cc, left_notified w v o o n c found updates order refl noted)

module _ {V W : Type 0} where
  -- ---- polling
  pub polls_waiting : (w : Waits (Note W)) (o : Wakes W) (l : Lock V W) (n : ℕ) (waker : W) (note : Note W) → get w n ≡ Some note
      → notified_in (Some note) ≡ None → AreNoted w
      → PollsListed (condvar_of w o) l n waker (Ok Pending) (condvar_of (with_value w n (Waiting waker)) o) l (Listed n)
  polls_waiting w o l n waker (Waiting x) found waits noted = (
    λ _. (refl, rewoken w o n x waker found, refl, refl),
    λ b told. absurd (let none = notified_at w n (Some (Waiting x)) found in cc),
  )
  polls_waiting w o l n waker (Notified b) found waits noted = absurd (cc)

  pub polls_asking : (w : Waits (Note W)) (o : Wakes W) (s : Condvar W) (l : Lock V W) (n : ℕ) (by_one : Bool) (waker : W) (note : Note W)
      (r : Result (Turn W) (W × NoMemory)) (s' : Condvar W) (l' : Lock V W) (c' : CondWait)
      → condvar_of w o ≡ s → get w n ≡ Some note → Some by_one ≡ notified_in (Some note) → AsksLock s l n by_one waker r s' l' c'
      → PollsListed s l n waker r s' l' c'
  polls_asking w o s l n by_one waker (Waiting x) r s' l' c' seen found told asks = absurd (cc)
  polls_asking w o s l n by_one waker (Notified b) r s' l' c' seen found told asks = (
    λ some.
        let line : waits_in w.slots w.order ≡ s.waiting = ap (λ (x : Condvar W). x.waiting) seen in
        absurd (not_some _ (sym (ap (λ q. waker_under q n) line) ∙ idle_at w n (Some (Notified b)) found refl) some),
    λ b' is.
        let some = notified_at w n (Some (Notified b)) found in
        let pairs : notified_of w.slots ≡ s.notified = ap (λ (x : Condvar W). x.notified) seen in
        let same : by_one ≡ b' = cc in
        rw same at asks,
  )
