-- what holds of what is done by a holder of a point
use Rattle.std.proofs.Common.{◌≡◌, ℕ, Some}
use Rattle.std.specs.FinMap.{get}
use Rattle.mea_family.specs.declared.answer.Answer.TheVariants as answers
use Rattle.mea_family.specs.Family.{Outcome, quietly}
use Rattle.mea_family.specs.Play.{found}
use Rattle.mea_by_name.proofs.Cases.{by_found}
use Rattle.mea_meet_model.specs.Counts.{Counts, Point, Holder}

-- it holds where nothing is done, and at each holder with its point
pub by_holder : (P : Outcome Counts → Type 0) (h : Counts) → P (quietly h answers.Done) → (k : ℕ) (act : Holder → Point → Outcome Counts)
    → ((x : Holder) (r : Point) → get h.holders k ≡ Some x → get h.points x.point ≡ Some r → P (act x r)) → P (found (get h.holders k) h (λ x. found (get h.points x.point) h (act x)))
by_holder P h none k act each = by_found P (get h.holders k) h _ none (λ x holder. by_found P (get h.points x.point) h _ none (λ r there. each x r holder there))
