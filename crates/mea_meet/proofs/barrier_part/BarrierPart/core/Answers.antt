use Rattle.std.proofs.Common.{None, Some, is_some, ap, sym, ◌∙◌}
use Rattle.std.specs.Option.{option_copied}
use Rattle.mea_meet.proofs.BarrierSites.{barrier_is}
use Rattle.mea_meet.proofs.barrier_part.BarrierPart.core.Goals as goal

pub returns-in_err-entry-clause-there : goal.returns-in_err-entry-clause-there
returns-in_err-entry-clause-there c = ap is_some c.from_residual.ensures ∙ ap is_some (barrier_is c.self.inside.barriers c.self.inside.waits c.self.inside.next c.self.view_is c.args.b None (sym c.get.ensures ∙ ap option_copied c.in_err-entry.was))

pub returns-clause-there : goal.returns-clause-there
returns-clause-there c = ap is_some (barrier_is c.self.inside.barriers c.self.inside.waits c.self.inside.next c.self.view_is c.args.b (Some c.in_ok-entry.entry.now) (sym c.get.ensures ∙ ap option_copied c.in_ok-entry.was))

pub returns-clause-stands : goal.returns-clause-stands
returns-clause-stands c = sym (barrier_is c.self.inside.barriers c.self.inside.waits c.self.inside.next c.self.view_is c.args.b (Some c.in_ok-entry.entry.now) (sym c.get.ensures ∙ ap option_copied c.in_ok-entry.was))
