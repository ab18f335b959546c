use Rattle.mea_meet_model.proofs.EachEvent.{valid_empty, valid_later, valid_event}
use Rattle.mea_meet_model.proofs.validity.validity_is_kept.Goals as goal

pub returns-clause-empty : goal.returns-clause-empty
returns-clause-empty c = valid_empty

pub returns-clause-later : goal.returns-clause-later
returns-clause-later c = valid_later

pub returns-clause-event : goal.returns-clause-event
returns-clause-event c = λ h n i e v later allowed. valid_event h n i v later e allowed
