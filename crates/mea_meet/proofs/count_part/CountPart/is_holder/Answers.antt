use Rattle.std.proofs.Common.{◌∙◌}
use Rattle.mea_meet.proofs.CountSites.{is_holder_is}
use Rattle.mea_meet.proofs.count_part.CountPart.is_holder.Goals as goal

pub returns : goal.returns
returns g c = c.has.ensures ∙ is_holder_is c.self.inside.points c.self.inside.senders c.self.inside.holders c.self.inside.waits c.self.inside.next c.self.view_is c.args.k
