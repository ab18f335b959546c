use Rattle.mea_share.proofs.LookUps.{valid_of, settled_of}
use Rattle.mea_share.proofs.part.SharePart.is_valid.Goals as goal

pub returns-clause-valid : goal.returns-clause-valid
returns-clause-valid c = valid_of c.self.inside.admissions c.self.inside.futures c.self.inside.permits.things c.self.inside.next c.self.view_is c.self.invariant

pub returns-clause-settled : goal.returns-clause-settled
returns-clause-settled c = settled_of c.self.inside.admissions c.self.inside.futures c.self.inside.permits.things c.self.inside.next c.self.view_is c.self.invariant
