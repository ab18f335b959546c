-- boxes by name, each with a value or empty: why what is done to them is refused, and what it does
use Rattle.std.specs.Prelude.{ℕ, Bool, Option, None, is_some}
use Rattle.std.specs.Coded.{Coded, coded_ℕ, coded_option}
use Rattle.std.specs.FinMap.{get, insert, remove}
use Rattle.mea_family.specs.declared.answer.Answer.TheVariants as answers
use Rattle.mea_family.specs.declared.stop.Stop.{Stop}
use Rattle.mea_family.specs.Causes.{unknown_unless}
use Rattle.mea_family.specs.Family.{Outcome, quietly}
use Rattle.mea_by_name.specs.ByName.{Names, names_code}
use Rattle.mea_family.specs.Play.{found, content}
pub use Rattle.mea_chan_model.specs.declared.box_action.BoxAction.{BoxAction}
pub use Rattle.mea_chan_model.specs.declared.box_action.BoxAction.TheVariants.{MakeBox, Swap, Store, Tell, TakeOut, DropBox}

-- what each box contains, if it does
abbrev pub Boxes : Type 0
Boxes = Names (Option ℕ)

-- whether b is a box
abbrev pub is_box : Boxes → ℕ → Bool
is_box h b = is_some (get h b)

-- why an action is refused; none where it is not
abbrev pub box_cause : Boxes → BoxAction → Option Stop
box_cause h (MakeBox c) = None
box_cause h (Swap b c) = unknown_unless (is_box h b)
box_cause h (Store b c) = unknown_unless (is_box h b)
box_cause h (Tell b) = unknown_unless (is_box h b)
box_cause h (TakeOut b) = unknown_unless (is_box h b)
box_cause h (DropBox b) = unknown_unless (is_box h b)

-- what is done under number i
abbrev pub box_act : Boxes → ℕ → BoxAction → Outcome Boxes
box_act h i (MakeBox c) = quietly (insert h i c) answers.Made
box_act h i (Swap b c) = found (get h b) h (λ before. quietly (insert h b c) (content before))
box_act h i (Store b c) = found (get h b) h (λ before. quietly (insert h b c) answers.Done)
box_act h i (Tell b) = found (get h b) h (λ before. quietly h (content before))
box_act h i (TakeOut b) = found (get h b) h (λ before. quietly (remove h b) (content before))
box_act h i (DropBox b) = found (get h b) h (λ before. quietly (remove h b) answers.Done)

-- by which a proof tells two values apart
abbrev pub boxes_code : Coded Boxes
boxes_code = names_code (coded_option coded_ℕ)
