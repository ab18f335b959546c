use Rattle.std.proofs.Common.{None, Some, is_some, ap, sym, ◌∙◌}
use Rattle.std.specs.Option.{option_copied}
use Rattle.mea_meet.specs.CountParts.{core_seen}
use Rattle.mea_meet.proofs.CountSites.{point_is}
use Rattle.mea_meet.proofs.count_part.CountPart.core.Goals as goal

pub returns-in_err-entry-clause-there : goal.returns-in_err-entry-clause-there
returns-in_err-entry-clause-there g c = ap is_some c.from_residual.ensures ∙ ap is_some (point_is c.self.inside.points c.self.inside.senders c.self.inside.holders c.self.inside.waits c.self.inside.next c.self.view_is c.args.o None (sym c.get.ensures ∙ ap option_copied c.in_err-entry.was))

pub returns-clause-there : goal.returns-clause-there
returns-clause-there g c = ap is_some (point_is c.self.inside.points c.self.inside.senders c.self.inside.holders c.self.inside.waits c.self.inside.next c.self.view_is c.args.o (Some c.in_ok-entry.entry.now) (sym c.get.ensures ∙ ap option_copied c.in_ok-entry.was))

pub returns-clause-stands : goal.returns-clause-stands
returns-clause-stands g c = sym (point_is c.self.inside.points c.self.inside.senders c.self.inside.holders c.self.inside.waits c.self.inside.next c.self.view_is c.args.o (Some c.in_ok-entry.entry.now) (sym c.get.ensures ∙ ap option_copied c.in_ok-entry.was)) ∙ ap (λ p. Some (core_seen p)) (sym c.core.ensures)
