-- How the two ends come to be.
use Rattle.std.proofs.Common.{◌≡◌, ℕ, zero, suc, [], ◌∷◌, ◌++◌, None, refl, sym, ap, ◌∙◌, inl, inr}
use Rattle.std.specs.List.{slice_set}
use mathlib.Core.Option as maybe
use mathlib.Core.Option.{some-injective, some-ne-none}
use lib.ListN.{get_elem?}
use Rattle.atomic_table.specs.Table.{State, Splits}
use Rattle.mea_shot.specs.Rule.{Slot, Holds, IsWhole}
use Rattle.mea_shot.specs.declared.view.View.{View}
use Rattle.mea_shot.specs.declared.view.View.TheVariants.{Whole, Sends, Receives}
use Rattle.mea_shot.specs.declared.view.SendStage.{SendStage}
use Rattle.mea_shot.specs.declared.view.SendStage.TheVariants.{Ready}
use Rattle.mea_shot.specs.declared.view.RecvStage.{RecvStage}
use Rattle.mea_shot.specs.declared.view.RecvStage.TheVariants.{Waiting}

first_whole : {W : Type 0} (id : ℕ) → ◌≡◌ {A = maybe.Option (View W)} (get_elem? (Whole ∷ []) id) (maybe.some Whole) → id ≡ 0
first_whole zero e = refl
first_whole (suc k) e = absurd (some-ne-none Whole (sym e))

sends_no_whole : {W : Type 0} (a : SendStage) → ◌≡◌ {A = View W} (Sends a) Whole → ⊥
sends_no_whole a e = cc

receives_no_whole : {W : Type 0} (b : RecvStage W) → Receives b ≡ Whole → ⊥
receives_no_whole b e = cc

no_whole : {W : Type 0} (id : ℕ) (a : SendStage) (b : RecvStage W) → get_elem? (Sends a ∷ Receives b ∷ []) id ≡ maybe.some Whole → ⊥
no_whole zero a b e = sends_no_whole a (some-injective (Sends a) Whole e)
no_whole (suc zero) a b e = receives_no_whole b (some-injective (Receives b) Whole e)
no_whole (suc (suc k)) a b e = some-ne-none Whole (sym e)

module _ {T W : Type 0} (fits : T → Type 0) where
  opened_parts : (id : ℕ) (s : State (Slot T W) (View W)) → IsWhole fits s → get_elem? s.views id ≡ maybe.some Whole
      → Holds fits (record { words = s.words; homes = s.homes; views = slice_set s.views id (Sends Ready) ++ Receives Waiting ∷ [] })
  opened_parts id s o e =
      let i : id ≡ 0 = first_whole id (ap (λ vs. get_elem? vs id) (sym o.2) ∙ e) in
      inr (Ready, Waiting, 3, maybe.some None, maybe.some None, o.0, o.1, rw (o.2, i) refl, (refl, refl, refl))

  pub splits : (id : ℕ) → Splits (Holds {T = T} {W = W} fits) id Whole (Sends Ready) (Receives Waiting)
  splits id s holds e =
      elim holds [
        | inl o ↦ opened_parts id s o e
        | inr p ↦ absurd (no_whole id p.0 p.1 (ap (λ vs. get_elem? vs id) (sym p.7) ∙ e))
      ]
