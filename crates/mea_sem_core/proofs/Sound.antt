-- what holds of the places of a core holds of what is seen of it
use Rattle.std.proofs.Common.{◌≡◌, ◌≢◌, ℕ, ◌+◌, ◌<◌, ◌≤◌, ◌^◌, Bool, List, [], ◌∷◌, get_or, Option, Some, None, refl, ap, ◌∙◌, arith}
use Rattle.std.specs.FinMap as fin
use Rattle.mea_base.specs.WaitList.{Waits, get, IsDistinct}
use Rattle.mea_sem_core.specs.declared.wait_record.WaitRecord.{WaitRecord}
use Rattle.mea_sem_core.specs.declared.wait_record.WaitRecord.TheVariants.{Acquire, Debt, Granted, Cut}
use Rattle.mea_sem_core.specs.Core.{waiting, AreApart, LacksWithin, AllLackWithin, CutsWhereClosed, IsSound}
use Rattle.mea_sem_core.specs.Places.{entry, entries, queue_of, granted_of, cut_of, grant_of, cut_demand, IsWaiting, AllWaiting, IsQueue, paid_in}
use Rattle.mea_sem_core.proofs.Places.{get-demands}
use Rattle.mea_sem_core.proofs.Enqueues.{waiting_absent}
use Rattle.mea_sem_core.proofs.Leaves.{granted_apart, cut_absent}
use Rattle.mea_sem_core.proofs.Held.{paid-view, count-view}

module _ {W : Type 0} where
  apart_entries : (slots : List (Option (WaitRecord W))) (ns : List ℕ) → IsDistinct ns → AreApart (entries slots ns)
  apart_entries slots [] distinct = tt
  apart_entries slots (m ∷ ms) distinct = by_slot (get_or slots m None) (apart_entries slots ms distinct.1) (waiting_absent slots m ms distinct.0)
    where
      by_slot : (x : Option (WaitRecord W)) → AreApart (entries slots ms) → waiting (entries slots ms) m ≡ None → AreApart (entry m x ∷ entries slots ms)
      by_slot None rest none = rest
      by_slot (Some (Acquire demand lack waker)) rest none = (none, rest)
      by_slot (Some (Debt lack)) rest none = rest
      by_slot (Some (Granted demand)) rest none = rest
      by_slot (Some (Cut demand)) rest none = rest

  within_entry : (n : ℕ) (x : Option (WaitRecord W)) → IsWaiting x → LacksWithin (entry n x).0 (entry n x).1
  within_entry n None waits = absurd waits
  within_entry n (Some (Acquire demand lack waker)) waits = waits
  within_entry n (Some (Debt lack)) waits = waits
  within_entry n (Some (Granted demand)) waits = absurd waits
  within_entry n (Some (Cut demand)) waits = absurd waits

  within_entries : (slots : List (Option (WaitRecord W))) (ns : List ℕ) → AllWaiting slots ns → AllLackWithin (entries slots ns)
  within_entries slots [] all = tt
  within_entries slots (n ∷ ns) all = (within_entry n (get_or slots n None) all.0, within_entries slots ns all.1)

  not_granted_waiting : (w : Waits (WaitRecord W)) (n : ℕ) → IsQueue w → waiting (queue_of w) n ≢ None → fin.get (granted_of w) n ≡ None
  not_granted_waiting w n kept waits = by_slot (get w n) refl
    where
      by_slot : (x : Option (WaitRecord W)) → get w n ≡ x → fin.get (granted_of w) n ≡ None
      by_slot None is = get-demands grant_of refl w.slots n ∙ ap grant_of is
      by_slot (Some (Acquire demand lack waker)) is = get-demands grant_of refl w.slots n ∙ ap grant_of is
      by_slot (Some (Debt lack)) is = get-demands grant_of refl w.slots n ∙ ap grant_of is
      by_slot (Some (Granted demand)) is = absurd (waits (granted_apart w demand n kept is))
      by_slot (Some (Cut demand)) is = get-demands grant_of refl w.slots n ∙ ap grant_of is

  cut_elsewhere : (w : Waits (WaitRecord W)) (n : ℕ) → IsQueue w → fin.get (cut_of w) n ≢ None
      → (waiting (queue_of w) n ≡ None) × (fin.get (granted_of w) n ≡ None)
  cut_elsewhere w n kept cut = by_slot (get w n) refl
    where
      uncut : (x : Option (WaitRecord W)) → get w n ≡ x → cut_demand x ≡ None → ⊥
      uncut x is none = cut (get-demands cut_demand refl w.slots n ∙ ap cut_demand is ∙ none)

      by_slot : (x : Option (WaitRecord W)) → get w n ≡ x → (waiting (queue_of w) n ≡ None) × (fin.get (granted_of w) n ≡ None)
      by_slot None is = absurd (uncut None is refl)
      by_slot (Some (Acquire demand lack waker)) is = absurd (uncut (Some (Acquire demand lack waker)) is refl)
      by_slot (Some (Debt lack)) is = absurd (uncut (Some (Debt lack)) is refl)
      by_slot (Some (Granted demand)) is = absurd (uncut (Some (Granted demand)) is refl)
      by_slot (Some (Cut demand)) is = (
        waiting_absent w.slots n w.order (cut_absent w.slots n demand w.order is kept.waiting),
        get-demands grant_of refl w.slots n ∙ ap grant_of is,
      )

  pub sound : (w : Waits (WaitRecord W)) (free live paid : ℕ) (closed : Bool) (wakes : List W) → IsQueue w → paid ≡ paid_in w → free + paid ≤ live
      → (0 < free → w.order ≡ []) → live < 2 ^ 64 → CutsWhereClosed closed (queue_of w) (cut_of w)
      → IsSound (record { free = free; live = live; queue = queue_of w; granted = granted_of w; cut = cut_of w; closed = closed; wakes = wakes })
  sound w free live paid closed wakes kept paid_is total idle fits closing =
      let seen = paid-view w kept in
      let counted = count-view w kept in
      record {
        apart = apart_entries w.slots w.order kept.distinct;
        granted_apart = λ n waits. not_granted_waiting w n kept waits;
        cut_apart = λ n cut. cut_elsewhere w n kept cut;
        closing = closing;
        few = omega (arith, counted, kept.few);
        lacking = within_entries w.slots w.order kept.waiting;
        debts_first = kept.debts_first;
        idle = λ some. ap (entries w.slots) (idle some);
        total = omega (arith, seen, paid_is, total);
        fits = fits;
      }
