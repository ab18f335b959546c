-- what the words of the code for what a line does stand for in the model
use Rattle.mea_family.specs.Forms.{is_plain}
use Rattle.mea_share_model.specs.Actions as model
use Rattle.mea_share_model.specs.Actions.{Action}
use Rattle.mea_share.specs.declared.actions.ShareAction.{ShareAction}
use Rattle.mea_share.specs.declared.actions.ShareAction.TheVariants.{Make, Free, Waiters, Weight, Weigh, Try, Begin, Poll, Key, End, Drop}

-- what is done, in the words of the model
abbrev pub meant : ShareAction → Action
meant (Make n) = model.Make n
meant (Free o) = model.Free o
meant (Waiters o) = model.Waiters o
meant (Weight o k) = model.Weight o k
meant (Weigh o k n) = model.Weigh o k n
meant (Try o k form) = model.Try o k (is_plain form)
meant (Begin o k form) = model.Begin o k (is_plain form)
meant (Poll f w) = model.Poll f w
meant (Key p) = model.Key p
meant (End x) = model.End x
meant (Drop o) = model.Drop o
