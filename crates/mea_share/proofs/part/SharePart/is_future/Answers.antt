use Rattle.std.proofs.Common.{◌∙◌}
use Rattle.mea_share.proofs.LookUps.{future_of}
use Rattle.mea_share.proofs.part.SharePart.is_future.Goals as goal

pub returns : goal.returns
returns c = c.has.ensures ∙ future_of c.self.inside.admissions c.self.inside.futures c.self.inside.permits.things c.self.inside.next c.self.view_is c.args.f
