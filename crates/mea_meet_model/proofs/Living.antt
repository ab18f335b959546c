-- what lives at a point that counts
use Rattle.std.proofs.Common.{◌≡◌, ℕ, ◌<◌, Bool, true, false, cond, nat_lt, Option, Some, None, IsSome, is_some, refl, ap, sym, subst, ◌∙◌, arith}
use Rattle.std.specs.Ordering.{nat_cmp}
use Rattle.std.specs.FinMap.{get, len, len-empty}
use Rattle.std.proofs.lemmas.Bool.{lt-ltb}
use Rattle.mea_base.proofs.Totals.{total-zero}
use Rattle.mea_base.proofs.Maps.{is_there, value_in}
use Rattle.mea_by_name.specs.ByName.{Names, own, AreHome}
use Rattle.mea_by_name.proofs.Own.{own-empty, own-at, own-had}
use Rattle.mea_meet_model.specs.Counts.{Counts, Holder, Wait, borrows, borrowers_of, is_live, things_of, of_itself, of_holder, of_wait}
use Rattle.mea_meet_model.specs.Valid.{HasCounts}

none_of : {R X : Type 0} (owner : X → ℕ) (rs : Names R) (xs : Names X) (n o : ℕ) → AreHome owner rs xs n → get rs o ≡ None → len (own owner o xs) ≡ 0
none_of {X = X} owner rs xs n o home absent =
    ap len (own-empty owner o xs (λ k x is mine. absurd (let some = subst (λ o. IsSome (get rs o)) (sym mine) (home.at k x is).1 in let none = ap is_some absent in let no = sym none ∙ some in cc))) ∙ len-empty nat_cmp X

module _ (h : Counts) (n : ℕ) (v : HasCounts h n) where
  -- a point is there exactly while it lives
  pub lives_there : (o : ℕ) → is_some (get h.points o) ≡ is_live h o
  lives_there o = at (get h.points o) refl
    where
      at : (p : Option _) → get h.points o ≡ p → is_some (get h.points o) ≡ is_live h o
      at (Some r) is = is_there (get h.points o) r is ∙ sym (lt-ltb 0 (things_of h o) (v.live o (is_there (get h.points o) r is)))
      at None is =
          let senders = none_of of_itself h.points h.senders n o v.senders is in
          let holders = none_of of_holder h.points h.holders n o v.holders is in
          let waits = none_of of_wait h.points h.waits n o v.waits is in
          let nothing : things_of h o ≡ 0 = omega (arith, senders, holders, waits) in
          ap is_some is ∙ sym (ap (λ m. nat_lt 0 m) nothing)

  -- what a future borrows is there
  pub lender_there : (k : ℕ) → 0 < borrowers_of h k → IsSome (get h.holders k)
  lender_there k some = at (get h.holders k) refl
    where
      lent : (f : ℕ) (x : Wait) → get h.waits f ≡ Some x → (b : Bool) → borrows x.awaits k ≡ b → get h.holders k ≡ None → ◌≡◌ {A = ℕ} (cond b 1 0) 0
      lent f x is false mine none = refl
      lent f x is true mine none = absurd (
          let point = value_in (get h.points x.point) (v.waits.at f x is).1 in
          let some = (v.each x.point point.0 point.1).borrowed f k x (own-at of_wait x.point h.waits f x is refl) mine in
          let it = value_in (get (own of_holder x.point h.holders) k) some in
          let had = (own-had of_holder x.point h.holders k it.0 it.1).0 in
          let no = sym none ∙ had in
          cc)

      at : (p : Option Holder) → get h.holders k ≡ p → IsSome (get h.holders k)
      at (Some x) is = is_there (get h.holders k) x is
      at None is = absurd (
          let nobody : borrowers_of h k ≡ 0 = total-zero (λ f (x : Wait). cond (borrows x.awaits k) 1 0) h.waits (λ f x there. lent f x there (borrows x.awaits k) refl is) in
          omega (arith, nobody, some))
