-- where a mismatch of a crew comes from
use Rattle.std.proofs.Common.{◌≡◌, ◌⊎◌, inl, inr, ℕ, List, [], Any, All, subst, arith}
use Rattle.mea_events.specs.declared.sem_event.SemEvent.TheVariants.{New}
use Rattle.mea_recorded.specs.History.{History, IsHistory}
use Rattle.mea_recorded.specs.Closing.{Explains, BeginsOtherwise}
use Rattle.mea_recorded.specs.declared.mismatch.Mismatch.{Mismatch}
use Rattle.mea_recorded.specs.declared.mismatch.Mismatch.TheVariants as mismatches
use Rattle.mea_recorded.specs.declared.pass.Noted.{Noted}
use Rattle.mea_crew_run.specs.Rounds.{AreRounds}
use Rattle.mea_crew_run.specs.Crew.{IsMismatch}

-- where there is no receipt, none differs
none_differs : (h : History) (m : Mismatch) → Explains h m [] → ⊥
none_differs h m (inl any) = omega (arith, any.2)
none_differs h (mismatches.Entry number asked played told kept) (inr order) = order
none_differs h (mismatches.Beyond number entries) (inr order) = order
none_differs h (mismatches.Order before after) (inr order) = absurd (let first = order.0.at_first in cc)

module _ {X : Type 0} (noted : X → List Noted) (rounds : ℕ) where
  -- what a close tells of passes without a receipt, or with those of so many rounds
  pub of_close : (h : History) (m : Mismatch) (xs : List X) → IsHistory h → All (λ x. (noted x ≡ []) ⊎ AreRounds rounds (noted x)) xs → Any (λ x. Explains h m (noted x)) xs ⊎ BeginsOtherwise h (New 2) m → IsMismatch rounds m
  of_close h m xs is each (inr begins) = (h, is, inr begins)
  of_close h m xs is each (inl any) = (h, is, inl (of_one any.1 (subst (λ x. (noted x ≡ []) ⊎ AreRounds rounds (noted x)) any.3 (each any.0 any.1 any.2)) any.4))
    where
      of_one : (x : X) → (noted x ≡ []) ⊎ AreRounds rounds (noted x) → Explains h m (noted x) → (ns : List Noted) × AreRounds rounds ns × Explains h m ns
      of_one x (inr played) explains = (noted x, played, explains)
      of_one x (inl none) explains = absurd (none_differs h m (subst (Explains h m) none explains))
