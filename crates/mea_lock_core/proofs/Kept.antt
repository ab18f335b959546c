-- a number of the order waits and the others were notified, after each change of one of them
use Rattle.std.proofs.Common.{◌≡◌, ◌≢◌, ◌<◌, ℕ, List, [], ◌∷◌, ◌++◌, Bool, true, false, eqb, Option, Some, None, IsSome, get_or, length, refl, sym, ap, ◌∙◌, inl, inr, arith}
use Rattle.std.proofs.lemmas.Bool.{cases_eq}
use Rattle.std.proofs.lemmas.List.{get_or-set_same, get_or-set_other, get_or_past}
use Rattle.std.specs.List.{list_any}
use Rattle.mea_base.specs.WaitList.{Waits, get, is_linked, with_value, Updates, without, IsDistinct}
use Rattle.mea_base.proofs.Waits.{in_use_within, IsDistinct-push, IsDistinct-without, absent_from_unlinked}
use Rattle.mea_lock_core.specs.Notes.{AreNoted, IsWaiting, IsIdle, notified_in}
use Rattle.mea_lock_core.specs.declared.note.Note.{Note}
use Rattle.mea_lock_core.specs.declared.note.Note.TheVariants.{Waiting, Notified}
use Rattle.mea_lock_core.proofs.Numbers.{any_cons, any_end, any_end_here, any_without}
use Rattle.mea_sem_core.proofs.Leaves.{unlinked_after}
use Rattle.mea_base.proofs.Chains.{unlinked_from_absent}

module _ {W : Type 0} where
  -- one number changes, and the others keep their places
  noted_by : (w v : Waits (Note W)) (n : ℕ) → IsDistinct v.order → ((m : ℕ) → m ≢ n → get v m ≡ get w m) → ((m : ℕ) → m ≢ n → is_linked v m ≡ is_linked w m)
      → (is_linked v n ≡ true → IsWaiting (get v n)) → (is_linked v n ≡ false → IsIdle (get v n)) → AreNoted w → AreNoted v
  noted_by w v n distinct notes places waits idle noted = record {
    distinct = distinct;
    waiting = λ m linked. elim (cases_eq m n)
        [ inl same ↦ rw same (waits (rw same at linked)) | inr differs ↦ rw (notes m differs) (noted.waiting m (sym (places m differs) ∙ linked)) ];
    idle = λ m unlinked. elim (cases_eq m n)
        [ inl same ↦ rw same (idle (rw same at unlinked)) | inr differs ↦ rw (notes m differs) (noted.idle m (sym (places m differs) ∙ unlinked)) ];
  }

  -- a note is written through `get_mut`
  pub written : (w : Waits (Note W)) (n : ℕ) (old new : Note W) → get w n ≡ Some old → Updates w (with_value w n new) n (Some new)
  written w n old new found =
      let used : IsSome (get w n) = rw found refl in
      record {
        changed = get_or-set_same w.slots n (Some new) None (in_use_within w.slots n used);
        others = λ other differs. get_or-set_other w.slots n other (Some new) None differs;
      }

  -- the first was notified
  pub noted_first : (w v : Waits (Note W)) (n : ℕ) (ns : List ℕ) (note : Note W) → w.order ≡ n ∷ ns → v.order ≡ ns → Updates w v n (Some note)
      → IsIdle (Some note) → AreNoted w → AreNoted v
  noted_first w v n ns note before after updates idle noted =
      let apart = noted.distinct in
      let distinct : IsDistinct (n ∷ ns) = rw before at apart in
      noted_by w v n (rw after distinct.1) updates.others
      (λ m differs. ap (λ o. list_any (λ k. eqb k m) o) after ∙ sym (any_cons m n ns (λ e. differs (sym e))) ∙ sym (ap (λ o. list_any (λ k. eqb k m) o) before))
      (λ linked. absurd (let gone = ap (λ o. list_any (λ k. eqb k n) o) after ∙ unlinked_from_absent n ns distinct.0 in cc))
      (λ _. rw updates.changed idle)
      noted

  pub first_noted : (w u : Waits (Note W)) (n : ℕ) (was now : Note W) (b : Bool) → w ≡ record u { order = n ∷ u.order } → get u n ≡ Some was
      → now ≡ Notified b → AreNoted w → AreNoted (with_value u n now)
  first_noted w u n was now b is found same noted =
      let updates = written u n was (Notified b) found in
      rw same (noted_first (record u { order = n ∷ u.order }) (with_value u n (Notified b)) n u.order (Notified b) refl refl
      (record { changed = updates.changed; others = updates.others }) tt (rw is at noted))

  -- a number with no note is not in the order
  pub unlinked_vacant : (w : Waits (Note W)) (n : ℕ) → get w n ≡ None → AreNoted w → is_linked w n ≡ false
  unlinked_vacant w n vacant noted = by_link (is_linked w n) refl
    where
      by_link : (b : Bool) → is_linked w n ≡ b → b ≡ false
      by_link true linked = absurd (let waits = noted.waiting n linked in rw vacant at waits)
      by_link false unlinked = refl

  -- a notified number is not in the order
  pub unlinked_notified : (w : Waits (Note W)) (n : ℕ) (by_one : Bool) → get w n ≡ Some (Notified by_one) → AreNoted w → is_linked w n ≡ false
  unlinked_notified w n by_one found noted = by_link (is_linked w n) refl
    where
      by_link : (b : Bool) → is_linked w n ≡ b → b ≡ false
      by_link true linked = absurd (let waits = noted.waiting n linked in rw found at waits)
      by_link false unlinked = refl

  -- a number with a waker is in the order
  pub linked_waiting : (w : Waits (Note W)) (n : ℕ) (v : W) → get w n ≡ Some (Waiting v) → AreNoted w → is_linked w n ≡ true
  linked_waiting w n v found noted = by_link (is_linked w n) refl
    where
      by_link : (b : Bool) → is_linked w n ≡ b → b ≡ true
      by_link true linked = refl
      by_link false unlinked = absurd (let idle = noted.idle n unlinked in rw found at idle)

  -- a new one waits
  pub noted_listed : (w v : Waits (Note W)) (n : ℕ) (waker : W) → get w n ≡ None → v.order ≡ w.order ++ n ∷ [] → Updates w v n (Some (Waiting waker))
      → AreNoted w → AreNoted v
  noted_listed w v n waker vacant order updates noted =
      noted_by w v n (rw order (IsDistinct-push n w.order (absent_from_unlinked n w.order (unlinked_vacant w n vacant noted)) noted.distinct)) updates.others
      (λ m differs. ap (λ o. list_any (λ k. eqb k m) o) order ∙ any_end m n w.order (λ e. differs (sym e)))
      (λ _. rw updates.changed tt)
      (λ unlinked. absurd (let here = ap (λ o. list_any (λ k. eqb k n) o) order ∙ any_end_here n w.order in cc))
      noted

  -- one has left
  pub noted_left : (w v : Waits (Note W)) (n : ℕ) → v.order ≡ without n w.order → Updates w v n None → AreNoted w → AreNoted v
  noted_left w v n order updates noted =
      noted_by w v n (rw order (IsDistinct-without n w.order noted.distinct)) updates.others
      (λ m differs. ap (λ o. list_any (λ k. eqb k m) o) order ∙ any_without m n w.order differs)
      (λ linked. absurd (let none = ap (λ o. list_any (λ k. eqb k n) o) order ∙ unlinked_after n w.order in cc))
      (λ _. rw updates.changed tt)
      noted

  -- one that waits has another waker
  pub noted_rewoken : (w v : Waits (Note W)) (n : ℕ) (was waker : W) → get w n ≡ Some (Waiting was) → v.order ≡ w.order
      → Updates w v n (Some (Waiting waker)) → AreNoted w → AreNoted v
  noted_rewoken w v n was waker found order updates noted =
      noted_by w v n (rw order noted.distinct) updates.others
      (λ m differs. ap (λ o. list_any (λ k. eqb k m) o) order)
      (λ _. rw updates.changed tt)
      (λ unlinked. absurd (let linked = linked_waiting w n was found noted in let same = ap (λ o. list_any (λ k. eqb k n) o) order in cc))
      noted

  pub noted_rewoken_by : (w : Waits (Note W)) (n : ℕ) (note : Note W) (waker : W) → get w n ≡ Some note → notified_in (Some note) ≡ None → AreNoted w
      → AreNoted (with_value w n (Waiting waker))
  noted_rewoken_by w n (Waiting was) waker found waits noted =
      noted_rewoken w (with_value w n (Waiting waker)) n was waker found refl (written w n (Waiting was) (Waiting waker) found) noted
  noted_rewoken_by w n (Notified b) waker found waits noted = absurd (cc)

  -- reserved places change nothing
  pub noted_same : (w v : Waits (Note W)) → v ≡ record w { spare = v.spare } → AreNoted w → AreNoted v
  noted_same w v same noted = rw same record { distinct = noted.distinct; waiting = noted.waiting; idle = noted.idle }
