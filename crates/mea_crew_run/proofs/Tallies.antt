-- answers that are counted, and one more
use Rattle.std.proofs.Common.{◌≡◌, ℕ, ◌+◌, Bool, true, false, List, Option, Some, None, take, refl, ap, ◌≤◌, ◌∙◌, arith, length}
use Rattle.std.specs.Option.{option_map}
use Rattle.std.specs.List.{slice_get}
use Rattle.std.specs.Int.{from_bool}
use Rattle.std.proofs.lemmas.List.{take_all}
use Rattle.std.proofs.lemmas.List.Sums.{count_by_more_no, count_by_more_yes}
use Rattle.std.proofs.lemmas.Option.{slice_get_within, get_or_from_slice_get}
use Rattle.mea_base.proofs.Maps.{inside}
use Rattle.mea_family.specs.declared.answer.Answer.{Answer}
use Rattle.mea_crew_run.specs.Crew.{answers}

module _ (is : Answer → Bool) (rs : List (Answer × List ℕ)) where
  pub one_more : (k : ℕ) (a : Answer) → option_map {T = Answer × List ℕ} (λ r. r.0) (slice_get rs k) ≡ Some a → answers is (take (k + 1) rs) ≡ answers is (take k rs) + from_bool (is a)
  one_more k a there = at (slice_get rs k) refl there
    where
      test : Answer × List ℕ → Bool
      test r = is r.0

      counted : (r : Answer × List ℕ) (b : Bool) → slice_get rs k ≡ Some r → is r.0 ≡ b → answers is (take (k + 1) rs) ≡ answers is (take k rs) + from_bool b
      counted r true at_k says = count_by_more_yes test rs k r (slice_get_within rs k r at_k) (ap test (get_or_from_slice_get rs k r r at_k) ∙ says)
      counted r false at_k says = count_by_more_no test rs k r (slice_get_within rs k r at_k) (ap test (get_or_from_slice_get rs k r r at_k) ∙ says) ∙ omega arith

      at : (o : Option (Answer × List ℕ)) → slice_get rs k ≡ o → option_map {T = Answer × List ℕ} (λ r. r.0) o ≡ Some a → answers is (take (k + 1) rs) ≡ answers is (take k rs) + from_bool (is a)
      at None at_k e = absurd (cc)
      at (Some r) at_k e = counted r (is a) at_k (ap is (inside e))

  pub all_counted : (k n : ℕ) → n ≡ answers is (take k rs) → length rs ≤ k → n ≡ answers is rs
  all_counted k n so_far whole = so_far ∙ ap (answers is) (take_all k rs whole)

pub at_most_one : (b : Bool) → from_bool b ≤ 1
at_most_one true = omega arith
at_most_one false = omega arith
