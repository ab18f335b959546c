-- a count that has ended stays as it is
use Rattle.std.proofs.Common.{◌≡◌, ℕ, ◌-◌, Bool, false, if◌then◌else◌, arith, refl, ap, ◌∙◌}
use Rattle.std.proofs.lemmas.Bool.Decides.{nat_tests}
use Rattle.std.proofs.lemmas.Grind.{common_steps}
use Rattle.mea_sets.specs.WaitSet.{drained}
use Rattle.mea_sets.specs.Countdown.{Count, ends, decreased}
use Rattle.mea_meet_core.specs.CountRuns.{CountRuns, Starts, Fell, Polled}

module _ {W : Type 0} where
  ended_before : (c : Count W) (n : ℕ) → c.number ≡ 0 → ends c n ≡ false
  ended_before c n none = grind (arith, nat_tests, common_steps)

  falls_no_more : (c : Count W) (n : ℕ) → c.number ≡ 0 → decreased c n ≡ c
  falls_no_more c n none =
      let number : c.number - n ≡ c.number = omega arith in
      let waiting = ap (λ (b : Bool). if b then drained c.waiting else c.waiting) (ended_before c n none) in
      λ i. record { number = number i; waiting = waiting i }

  pub stays : (c d : Count W) → CountRuns c d → c.number ≡ 0 → d ≡ c
  stays _ _ (Starts c) none = refl
  stays _ _ (Fell c d n run) none =
      let same = stays c d run none in
      falls_no_more d n (ap (λ (x : Count W). x.number) same ∙ none) ∙ same
  stays _ _ (Polled c d e slot slot' w result run polls) none =
      let same = stays c d run none in
      (polls.ready (ap (λ (x : Count W). x.number) same ∙ none)).1 ∙ same
