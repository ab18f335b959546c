-- the number of the command line
use Rattle.std.proofs.Common.{◌≡◌, ℕ, ◌≤◌, ◌↔◌, List, Option, Some, None, IfSome, codes, ap, sym, subst, ◌∙◌, arith}
use Rattle.mea_base.proofs.Maps.{inside}
use Rattle.mea_text.specs.declared.numbers.Numbers.{Numbers}
use Rattle.mea_text.specs.declared.numbers.Numbers.TheVariants.{One}
use Rattle.mea_text.specs.Command.{IsSpelled}
use Rattle.mea_pool_run.specs.Script.{IsSize, IsPool}

abbrev size_in : Numbers → ℕ
size_in (One size) = size
size_in _ = 0

module _ (words : List (List ℕ)) (o : Option Numbers) (tells : (numbers : Numbers) → (o ≡ Some numbers) ↔ IsSpelled (codes "pool") words numbers) where
  told_pool : (size : ℕ) → IsPool words size → o ≡ Some (One size)
  told_pool size pool = (tells (One size)).1 (pool.0, ((let few : size ≤ 1000000 = pool.2 in omega arith), tt))

  -- it is no number
  pub no_pool : ((n : ℕ) → o ≡ Some (One n) → ⊥) → (size : ℕ) → (◌≡◌ {A = Option ℕ} None (Some size)) ↔ IsPool words size
  no_pool not size = (λ is. absurd (cc), λ pool. absurd (not size (told_pool size pool)))

  -- what it is is no one number
  pub not_one : (n : Numbers) → o ≡ Some n → ((m : ℕ) → n ≡ One m → ⊥) → (size : ℕ) → (◌≡◌ {A = Option ℕ} None (Some size)) ↔ IsPool words size
  not_one n is not = no_pool (λ m one. not m (inside (sym is ∙ one)))

  -- it is one, which was looked at
  pub one_of : (n : ℕ) → o ≡ Some (One n) → (x : Option ℕ) → IfSome x (λ m. (m ≡ n) × IsSize n) → (IsSize n → x ≡ Some n) → (size : ℕ) → (x ≡ Some size) ↔ IsPool words size
  one_of n is x some all size = (only, back)
    where
      only : x ≡ Some size → IsPool words size
      only told =
          let had = subst (λ (o : Option ℕ). IfSome o (λ m. (m ≡ n) × IsSize n)) told some in
          subst (λ (k : ℕ). IsPool words k) (sym had.0) (((tells (One n)).0 is).0, had.1.0, had.1.1)

      back : IsPool words size → x ≡ Some size
      back pool =
          let same : n ≡ size = ap size_in (inside (sym is ∙ told_pool size pool)) in
          all (subst IsSize (sym same) (pool.1, pool.2)) ∙ ap (λ k. Some k) same
