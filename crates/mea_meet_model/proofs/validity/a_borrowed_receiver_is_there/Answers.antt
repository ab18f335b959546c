use Rattle.mea_meet_model.proofs.Living.{lender_there}
use Rattle.mea_meet_model.proofs.validity.a_borrowed_receiver_is_there.Goals as goal

pub returns : goal.returns
returns c = λ h n v. lender_there h.shutdowns n v.shutdowns
