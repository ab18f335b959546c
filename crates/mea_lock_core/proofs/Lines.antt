-- how a change of one note changes those that wait
use Rattle.std.proofs.Common.{◌≡◌, ◌≢◌, ℕ, suc, true, cond, not, eqb, length, List, [], ◌∷◌, ◌++◌, get_or, Option, Some, None, refl, sym, ap, ap₂, ◌∙◌, inl, inr}
use Rattle.std.proofs.lemmas.Bool.{cases_eq}
use Rattle.std.specs.List.{list_any}
use Rattle.mea_base.specs.WaitList.{without, IsAbsent, IsDistinct}
use Rattle.mea_base.proofs.Tests.{test_same, test_differs}
use Rattle.mea_lock_core.specs.Condvar.{waker_under, with_waker, without_wait, AreApart}
use Rattle.mea_lock_core.specs.Notes.{waker_in, with_wait, waits_in, IsWaiting}
use Rattle.mea_lock_core.specs.declared.note.Note.{Note}
use Rattle.mea_lock_core.specs.declared.note.Note.TheVariants.{Waiting, Notified}
use Rattle.mea_lock_core.proofs.Numbers.{any_here, any_behind}

module _ {W : Type 0} where
  -- changes at an absent number alone
  pub waits_in-updated : (old new : List (Option (Note W))) (n : ℕ) (ns : List ℕ)
      → ((other : ℕ) → other ≢ n → get_or new other None ≡ get_or old other None) → IsAbsent n ns → waits_in new ns ≡ waits_in old ns
  waits_in-updated old new n [] others absent = refl
  waits_in-updated old new n (m ∷ ms) others absent =
      ap₂ (λ slot q. with_wait m (waker_in slot) q) (others m absent.0) (waits_in-updated old new n ms others absent.1)

  append-with_wait : (m : ℕ) (x : Option W) (q r : List (ℕ × W)) → with_wait m x (q ++ r) ≡ with_wait m x q ++ r
  append-with_wait m None q r = refl
  append-with_wait m (Some w) q r = refl

  pub waits_in-end : (slots : List (Option (Note W))) (n : ℕ) (ns : List ℕ)
      → waits_in slots (ns ++ n ∷ []) ≡ waits_in slots ns ++ with_wait n (waker_in (get_or slots n None)) []
  waits_in-end slots n [] = refl
  waits_in-end slots n (m ∷ ms) =
      ap (with_wait m (waker_in (get_or slots m None))) (waits_in-end slots n ms)
      ∙ append-with_wait m (waker_in (get_or slots m None)) (waits_in slots ms) (with_wait n (waker_in (get_or slots n None)) [])

  -- where each number of the order waits, there are as many waits as numbers
  pub length-waits_in : (slots : List (Option (Note W))) (ns : List ℕ) → ((n : ℕ) → list_any (λ k. eqb k n) ns ≡ true → IsWaiting (get_or slots n None))
      → length (waits_in slots ns) ≡ length ns
  length-waits_in slots [] waits = refl
  length-waits_in slots (n ∷ ns) waits =
      by_note (get_or slots n None) (waits n (any_here n ns)) (length-waits_in slots ns (λ m linked. waits m (any_behind m n ns linked)))
    where
      by_note : (x : Option (Note W)) → IsWaiting x → length (waits_in slots ns) ≡ length ns → length (with_wait n (waker_in x) (waits_in slots ns)) ≡ suc (length ns)
      by_note None waiting same = absurd waiting
      by_note (Some (Waiting w)) waiting same = ap suc same
      by_note (Some (Notified b)) waiting same = absurd waiting

  -- another wait stands before
  waker_under-behind : (m n : ℕ) (x : Option W) (q : List (ℕ × W)) → m ≢ n → waker_under (with_wait m x q) n ≡ waker_under q n
  waker_under-behind m n None q differs = refl
  waker_under-behind m n (Some w) q differs = ap (λ b. cond b (Some w) (waker_under q n)) (test_differs m n differs)

  -- a number whose note has no waker waits nowhere
  pub waker_under-none : (slots : List (Option (Note W))) (n : ℕ) (ns : List ℕ) → waker_in (get_or slots n None) ≡ None
      → waker_under (waits_in slots ns) n ≡ None
  waker_under-none slots n [] none = refl
  waker_under-none slots n (m ∷ ms) none =
      let rest = waker_under-none slots n ms none in
      elim (cases_eq m n) [
        | inl same ↦ rw (same, none) rest
        | inr differs ↦ waker_under-behind m n (waker_in (get_or slots m None)) (waits_in slots ms) differs ∙ rest
      ]

  -- an absent number waits nowhere
  pub waker_under-absent : (slots : List (Option (Note W))) (n : ℕ) (ns : List ℕ) → IsAbsent n ns → waker_under (waits_in slots ns) n ≡ None
  waker_under-absent slots n [] absent = refl
  waker_under-absent slots n (m ∷ ms) absent =
      waker_under-behind m n (waker_in (get_or slots m None)) (waits_in slots ms) absent.0 ∙ waker_under-absent slots n ms absent.1

  -- a number of the order waits with the waker of its note
  pub waker_under-linked : (slots : List (Option (Note W))) (n : ℕ) (w : W) (ns : List ℕ) → waker_in (get_or slots n None) ≡ Some w
      → list_any (λ k. eqb k n) ns ≡ true → waker_under (waits_in slots ns) n ≡ Some w
  waker_under-linked slots n w [] here linked = absurd (cc)
  waker_under-linked slots n w (m ∷ ms) here linked =
      elim (cases_eq m n) [
        | inl same ↦ rw (same, here) (ap (λ b. cond b (Some w) (waker_under (waits_in slots ms) n)) (test_same n n refl))
        | inr differs ↦
            waker_under-behind m n (waker_in (get_or slots m None)) (waits_in slots ms) differs
            ∙ waker_under-linked slots n w ms here (rw (test_differs m n differs) at linked)
      ]

  -- one that waits has another waker
  with_waker-with_wait : (m n : ℕ) (x : Option W) (q : List (ℕ × W)) (w : W) → m ≢ n → with_waker (with_wait m x q) n w ≡ with_wait m x (with_waker q n w)
  with_waker-with_wait m n None q w differs = refl
  with_waker-with_wait m n (Some v) q w differs = ap (λ b. (m, cond b w v) ∷ with_waker q n w) (test_differs m n differs)

  pub waits_in-rewoken : (old new : List (Option (Note W))) (n : ℕ) (v w : W) (ns : List ℕ)
      → ((other : ℕ) → other ≢ n → get_or new other None ≡ get_or old other None) → waker_in (get_or old n None) ≡ Some v
      → waker_in (get_or new n None) ≡ Some w → waits_in new ns ≡ with_waker (waits_in old ns) n w
  waits_in-rewoken old new n v w [] others was is = refl
  waits_in-rewoken old new n v w (m ∷ ms) others was is =
      let rest = waits_in-rewoken old new n v w ms others was is in
      elim (cases_eq m n) [
        | inl same ↦ rw (same, was, is) (ap₂ (λ b q. (n, cond b w v) ∷ q) (sym (test_same n n refl)) rest)
        | inr differs ↦
            ap₂ (λ slot q. with_wait m (waker_in slot) q) (others m differs) rest
            ∙ sym (with_waker-with_wait m n (waker_in (get_or old m None)) (waits_in old ms) w differs)
      ]

  -- one has left
  without_wait-with_wait : (m n : ℕ) (x : Option W) (q : List (ℕ × W)) → m ≢ n → without_wait (with_wait m x q) n ≡ with_wait m x (without_wait q n)
  without_wait-with_wait m n None q differs = refl
  without_wait-with_wait m n (Some v) q differs = ap (λ b. cond b (without_wait q n) ((m, v) ∷ without_wait q n)) (test_differs m n differs)

  without_wait-here : (n : ℕ) (x : Option W) (q : List (ℕ × W)) → without_wait (with_wait n x q) n ≡ without_wait q n
  without_wait-here n None q = refl
  without_wait-here n (Some v) q = ap (λ b. cond b (without_wait q n) ((n, v) ∷ without_wait q n)) (test_same n n refl)

  pub waits_in-without : (old new : List (Option (Note W))) (n : ℕ) (ns : List ℕ)
      → ((other : ℕ) → other ≢ n → get_or new other None ≡ get_or old other None) → waits_in new (without n ns) ≡ without_wait (waits_in old ns) n
  waits_in-without old new n [] others = refl
  waits_in-without old new n (m ∷ ms) others =
      let rest = waits_in-without old new n ms others in
      elim (cases_eq m n) [
        | inl same ↦
            rw (ap not (test_same m n same))
            (rest ∙ sym (without_wait-here n (waker_in (get_or old m None)) (waits_in old ms))
            ∙ ap (λ k. without_wait (with_wait k (waker_in (get_or old m None)) (waits_in old ms)) n) (sym same))
        | inr differs ↦
            rw (ap not (test_differs m n differs)) (
            ap₂ (λ slot q. with_wait m (waker_in slot) q) (others m differs) rest
            ∙ sym (without_wait-with_wait m n (waker_in (get_or old m None)) (waits_in old ms) differs))
      ]

  -- the numbers of the waits differ where those of the order do
  AreApart-with_wait : (n : ℕ) (x : Option W) (q : List (ℕ × W)) → waker_under q n ≡ None → AreApart q → AreApart (with_wait n x q)
  AreApart-with_wait n None q none apart = apart
  AreApart-with_wait n (Some w) q none apart = (none, apart)

  pub AreApart-waits_in : (slots : List (Option (Note W))) (ns : List ℕ) → IsDistinct ns → AreApart (waits_in slots ns)
  AreApart-waits_in slots [] distinct = tt
  AreApart-waits_in slots (n ∷ ns) distinct =
      AreApart-with_wait n (waker_in (get_or slots n None)) (waits_in slots ns) (waker_under-absent slots n ns distinct.0)
      (AreApart-waits_in slots ns distinct.1)
