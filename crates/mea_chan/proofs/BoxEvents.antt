-- why an action on boxes is refused
use Rattle.std.proofs.Common.{◌≡◌, ℕ, Option, Some, None, is_some, refl, ap, subst, ◌∙◌}
use Rattle.std.specs.FinMap.{get}
use Rattle.mea_family.specs.Causes.{unknown_unless}
use Rattle.mea_chan_model.specs.declared.box_action.BoxAction.{BoxAction}
use Rattle.mea_chan_model.specs.Boxes.{Boxes, box_cause}
use Rattle.mea_chan.specs.Actions.{IsFreeContent}

-- a value takes memory
pub costs : (content : Option ℕ) → (content ≡ None → ⊥) → IsFreeContent content → ⊥
costs None some free = some refl
costs (Some v) some free = free

-- by what stands at the name of the box, as they are kept and as they are seen
pub cause_is : {old : Boxes} (es : Boxes) → es ≡ old → (b : ℕ) (a : BoxAction) → ((h : Boxes) → box_cause h a ≡ unknown_unless (is_some (get h b))) → (p : Option (Option ℕ)) → get es b ≡ p → box_cause old a ≡ unknown_unless (is_some p)
cause_is es view b a knows p is = subst (λ h. box_cause h a ≡ unknown_unless (is_some p)) view (knows es ∙ ap (λ p. unknown_unless (is_some p)) is)
