use Rattle.mea_share_model.proofs.Orders.{in_order}
use Rattle.mea_share_model.proofs.laws.grants_are_in_order.Goals as goal

pub returns : goal.returns
returns c = λ h i e. in_order h i e
