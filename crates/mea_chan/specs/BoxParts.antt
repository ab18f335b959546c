-- what an event does to the boxes of one kind
use Rattle.std.specs.Prelude.{ℕ, ◌≡◌}
use Rattle.mea_family.specs.declared.answer.Answer.{Answer}
use Rattle.mea_chan_model.specs.declared.box_action.BoxAction.{BoxAction}
use Rattle.mea_chan_model.specs.Boxes.{Boxes, box_act}

-- event number i did this, and this was replied
pub record BoxYields (old : Boxes) (i : ℕ) (a : BoxAction) (answer : Answer) (new : Boxes) : Type 0 where
  pub replied : answer ≡ (box_act old i a).reply
  pub moved : new ≡ (box_act old i a).hall
