use Rattle.std.proofs.Common.{None, Some, ap, sym, ◌∙◌}
use Rattle.std.specs.Option.{option_copied}
use Rattle.mea_meet_model.specs.CountActions.{is_counted}
use Rattle.mea_meet.proofs.CountSites.{holder_is}
use Rattle.mea_meet.proofs.count_part.CountPart.is_counted.Goals as goal

pub returns-in-Some : goal.returns-in-Some
returns-in-Some g c = ap is_counted (holder_is c.self.inside.points c.self.inside.senders c.self.inside.holders c.self.inside.waits c.self.inside.next c.self.view_is c.args.k (Some c.in-Some.holder.now) (sym c.get.ensures ∙ ap option_copied c.in-Some.is))

pub returns-in-None : goal.returns-in-None
returns-in-None g c = ap is_counted (holder_is c.self.inside.points c.self.inside.senders c.self.inside.holders c.self.inside.waits c.self.inside.next c.self.view_is c.args.k None (sym c.get.ensures ∙ ap option_copied c.in-None.is))
