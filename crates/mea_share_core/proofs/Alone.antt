-- maps of numbers in which one stands alone
use Rattle.std.proofs.Common.{◌≡◌, ◌≤◌, ℕ, Bool, true, false, cond, [], ◌∷◌, nat_eq, Some, None, IsSome, is_some, refl, ap, sym, subst, ◌∙◌, arith}
use Rattle.std.specs.FinMap.{get, insert, remove}
use Rattle.std.proofs.lemmas.Bool.{eqb-true, eq-eqb}
use Rattle.std.proofs.lemmas.Bool.Decides.{nat_tests}
use Rattle.mea_base.proofs.NamedMaps.{kept-at, named_put, named_remove}
use Rattle.mea_share_core.specs.Share.{kept}

turned : (m n : ℕ) → nat_eq m n ≡ nat_eq n m
turned m n = grind (arith, nat_tests)

module _ {X : Type 0} where
  -- one is put where nothing stands
  pub put_alone : (n : ℕ) (x : X) → kept ((n, x) ∷ []) ≡ insert (kept []) n x
  put_alone n x = named_put (λ k y. y) [] ((n, x) ∷ []) n x (λ q. ap (λ b. cond b (Some x) None) (turned q n))

  -- whether a number is the one
  pub has_alone : (f n : ℕ) (x : X) → nat_eq n f ≡ is_some (get (kept ((f, x) ∷ [])) n)
  has_alone f n x = by_test (nat_eq n f) ∙ ap is_some (sym (kept-at ((f, x) ∷ []) n))
    where
      by_test : (b : Bool) → b ≡ is_some (cond b (Some x) None)
      by_test true = refl
      by_test false = refl

  module _ (f n : ℕ) (x : X) (there : IsSome (get (kept ((f, x) ∷ [])) n)) where
    -- who is there is the one
    pub is_alone : n ≡ f
    is_alone = eqb-true n f (has_alone f n x ∙ there)

    pub get-alone : get (kept ((f, x) ∷ [])) n ≡ Some x
    get-alone = kept-at ((f, x) ∷ []) n ∙ ap (λ b. cond b (Some x) None) (eq-eqb n f is_alone)

    -- something else is put in its place
    pub put_in_place : (y : X) → kept ((f, y) ∷ []) ≡ insert (kept ((f, x) ∷ [])) n y
    put_in_place y =
        named_put (λ k z. z) ((f, x) ∷ []) ((f, y) ∷ []) f y (λ q. by_test (nat_eq q f) ∙ ap (λ b. cond b (Some y) (cond (nat_eq q f) (Some x) None)) (turned q f))
        ∙ ap (λ k. insert (kept ((f, x) ∷ [])) k y) (sym is_alone)
      where
        by_test : (b : Bool) → cond b (Some y) None ≡ cond b (Some y) (cond b (Some x) None)
        by_test true = refl
        by_test false = refl

    -- nothing is left where it goes
    pub none_left : kept [] ≡ remove (kept ((f, x) ∷ [])) n
    none_left = subst (λ k. kept [] ≡ remove (kept ((f, x) ∷ [])) k) (sym is_alone)
        (named_remove (λ k z. z) ((f, x) ∷ []) [] f (λ q. by_test (nat_eq q f) ∙ ap (λ b. cond b None (cond (nat_eq q f) (Some x) None)) (turned q f)))
      where
        by_test : (b : Bool) → None ≡ cond b None (cond b (Some x) None)
        by_test true = refl
        by_test false = refl

  pub alone_there : (f : ℕ) (x : X) → IsSome (get (kept ((f, x) ∷ [])) f)
  alone_there f x = sym (has_alone f f x) ∙ eq-eqb f f refl

  -- the one is the least
  pub alone_least : (f n : ℕ) (x : X) → IsSome (get (kept ((f, x) ∷ [])) n) → f ≤ n
  alone_least f n x there = let same = is_alone f n x there in omega (arith, same)
