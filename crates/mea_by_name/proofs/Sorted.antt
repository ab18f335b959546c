-- what holds of all that is there, along the entries of a map
use Rattle.std.proofs.Common.{◌≡◌, ℕ, ◌&&◌, Bool, true, false, cond, T, List, [], ◌∷◌, Some, None, refl, ap, sym, subst, ◌∙◌}
use Rattle.std.specs.Ordering.{nat_cmp, is_lt, is_eq, eq_by_cmp}
use Rattle.std.specs.declared.cmp.Ordering.{Ordering}
use Rattle.std.specs.declared.cmp.Ordering.TheVariants.{Less, Equal, Greater}
use Rattle.std.specs.FinMap.{FinMap, find, is_sorted, get, entries, entries_sorted, get-entries}
use Rattle.std.specs.FinMap.Entries.{below_all}
use Rattle.std.proofs.lemmas.Bool.{eq-eqb, ne_eqb}
use Rattle.mea_base.proofs.Tests.{same_test}

pub both_first : (a b : Bool) → T (a && b) → T a
both_first true b p = tt
both_first false b p = absurd p

pub both_second : (a b : Bool) → T (a && b) → T b
both_second true b p = p
both_second false b p = absurd p

no_tie : (o : Ordering) → T (is_lt o) → is_eq o ≡ false
no_tie Less p = refl
no_tie Equal p = absurd p
no_tie Greater p = absurd p

module _ {X : Type 0} where
  pub below_none : (k : ℕ) (es : List (ℕ × X)) → T (below_all nat_cmp k es) → find nat_cmp k es ≡ None
  below_none k [] below = refl
  below_none k (e ∷ es) below =
      ap (λ b. cond b (Some e.1) (find nat_cmp k es)) (no_tie (nat_cmp k e.0) (both_first (is_lt (nat_cmp k e.0)) (below_all nat_cmp k es) below))
      ∙ below_none k es (both_second (is_lt (nat_cmp k e.0)) (below_all nat_cmp k es) below)

  abbrev pub AllIn : (ℕ → X → Type 0) → List (ℕ × X) → Type 0
  AllIn P [] = Unit {0}
  AllIn P (e ∷ es) = P e.0 e.1 × AllIn P es

  all_sorted : (P : ℕ → X → Type 0) (es : List (ℕ × X)) → T (is_sorted nat_cmp es) → ((k : ℕ) (x : X) → find nat_cmp k es ≡ Some x → P k x) → AllIn P es
  all_sorted P [] sorted holds = tt
  all_sorted P (e ∷ es) sorted holds = (
    holds e.0 e.1 (ap (λ b. cond b (Some e.1) (find nat_cmp e.0 es)) (same_test e.0 e.0 ∙ eq-eqb e.0 e.0 refl)),
    all_sorted P es (both_second (below_all nat_cmp e.0 es) (is_sorted nat_cmp es) sorted)
        (λ k x is. holds k x (ap (λ b. cond b (Some e.1) (find nat_cmp k es)) (later k x is) ∙ is)),
  )
    where
      later : (k : ℕ) (x : X) → find nat_cmp k es ≡ Some x → eq_by_cmp nat_cmp k e.0 ≡ false
      later k x is = same_test k e.0 ∙ ne_eqb e.0 k (λ same.
          let none = below_none e.0 es (both_first (below_all nat_cmp e.0 es) (is_sorted nat_cmp es) sorted) in
          let there : find nat_cmp e.0 es ≡ Some x = subst (λ j. find nat_cmp j es ≡ Some x) (sym same) is in
          absurd (cc))

  pub all_there : (m : FinMap nat_cmp X) → AllIn (λ k x. get m k ≡ Some x) (entries m)
  all_there m = all_sorted (λ k x. get m k ≡ Some x) (entries m) (entries_sorted m) (λ k x is. get-entries m k ∙ is)
