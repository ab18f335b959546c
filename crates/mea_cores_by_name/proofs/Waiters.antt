-- what stands under each number of a queue, after each change of it
use Rattle.std.proofs.Common.{◌≡◌, ℕ, ◌==◌, ◌++◌, true, false, cond, List, [], ◌∷◌, Some, None, refl, ap, length, arith}
use Rattle.std.proofs.lemmas.Bool.{eq-eqb}
use Rattle.mea_sem_core.specs.Core.{Waiter, Acquires, Owes, waiting}
use Rattle.mea_sem_core.specs.Calls.{with_waker}
use Rattle.mea_by_name.specs.declared.named_waker.NamedWaker.{NamedWaker}
use Rattle.mea_cores_by_name.specs.Linked.{names_in}

module _ {W : Type 0} where
  pub waiting-with : (q : List (Waiter W × ℕ)) (n : ℕ) (w : W) (m : ℕ) → waiting (with_waker q n w) m ≡ waiting q m
  waiting-with [] n w m = refl
  waiting-with ((Acquires k d v, l) ∷ q) n w m = ap (cond (k == m) (Some (d, l))) (waiting-with q n w m)
  waiting-with ((Owes, l) ∷ q) n w m = waiting-with q n w m

  -- who waits, waits still after one more came
  pub waiting-push : (q : List (Waiter W × ℕ)) (e : Waiter W × ℕ) (m : ℕ) (p : ℕ × ℕ) → waiting q m ≡ Some p → waiting (q ++ e ∷ []) m ≡ Some p
  waiting-push [] e m p = λ is. absurd (cc)
  waiting-push ((Acquires k d v, l) ∷ q) e m p = elim (k == m) as (λ b. cond b (Some (d, l)) (waiting q m) ≡ Some p → cond b (Some (d, l)) (waiting (q ++ e ∷ []) m) ≡ Some p) [
    | true ↦ λ is. is
    | false ↦ λ is. waiting-push q e m p is
  ]
  waiting-push ((Owes, l) ∷ q) e m p = λ is. waiting-push q e m p is

  pub waiting-pushed : (q : List (Waiter W × ℕ)) (n d l : ℕ) (w : W) → waiting q n ≡ None → waiting (q ++ (Acquires n d w, l) ∷ []) n ≡ Some (d, l)
  waiting-pushed [] n d l w = λ none. ap (λ b. cond b (Some (d, l)) None) (eq-eqb n n refl)
  waiting-pushed ((Acquires k e v, j) ∷ q) n d l w = elim (k == n) as (λ b. cond b (Some (e, j)) (waiting q n) ≡ None → cond b (Some (e, j)) (waiting (q ++ (Acquires n d w, l) ∷ []) n) ≡ Some (d, l)) [
    | true ↦ λ none. absurd (cc)
    | false ↦ λ none. waiting-pushed q n d l w none
  ]
  waiting-pushed ((Owes, j) ∷ q) n d l w = λ none. waiting-pushed q n d l w none

-- as many names as wait
pub length-names : (q : List (Waiter NamedWaker × ℕ)) → length (names_in q) ≡ length q
length-names [] = refl
length-names (e ∷ q) = omega (arith, length-names q)
