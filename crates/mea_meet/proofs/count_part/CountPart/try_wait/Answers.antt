use Rattle.std.proofs.Common.{None, refl, sym, ap, ◌∙◌}
use Rattle.std.specs.Option.{option_copied}
use Rattle.mea_meet.specs.CountCores.{NamedPoint}
use Rattle.mea_meet.proofs.CountSites.{site, holders_point}
use Rattle.mea_meet.proofs.CountCalls.{holder_told, tried}
use Rattle.mea_family.proofs.Refusals.{unknown}
use Rattle.mea_meet.proofs.count_part.CountPart.try_wait.Goals as goal

pub returns-in_default : goal.returns-in_default
returns-in_default g c = (unknown _ _ (holder_told (site c.self.inside.points c.self.inside.senders c.self.inside.holders c.self.inside.waits c.self.inside.next c.self.view_is c.self.invariant c.requires) c.args.k None (sym c.get.ensures ∙ ap option_copied c.in_default.is)), refl)

pub at-requires : goal.at-requires
at-requires g c = holders_point (site c.self.inside.points c.self.inside.senders c.self.inside.holders c.self.inside.waits c.self.inside.next c.self.view_is c.self.invariant c.requires) c.args.k c.in-Some.holder.now (sym c.get.ensures ∙ ap option_copied c.in-Some.is)

pub invariant_of-self : goal.invariant_of-self
invariant_of-self g c = (tried (site c.self.inside.points c.self.inside.senders c.self.inside.holders c.self.inside.waits c.self.inside.next c.self.view_is c.self.invariant c.requires) c.args.k c.in-Some.holder.now c.at.result.now (sym c.get.ensures ∙ ap option_copied c.in-Some.is) c.at.ensures c.number-count.result (c.number-count.ensures ∙ ap (λ (p : NamedPoint). p.signal.number) c.core.ensures) c.accepted_at.result c.accepted_at.ensures).0

pub returns : goal.returns
returns g c = (tried (site c.self.inside.points c.self.inside.senders c.self.inside.holders c.self.inside.waits c.self.inside.next c.self.view_is c.self.invariant c.requires) c.args.k c.in-Some.holder.now c.at.result.now (sym c.get.ensures ∙ ap option_copied c.in-Some.is) c.at.ensures c.number-count.result (c.number-count.ensures ∙ ap (λ (p : NamedPoint). p.signal.number) c.core.ensures) c.accepted_at.result c.accepted_at.ensures).1
