use Rattle.std.proofs.Common.{Some, None, sym, ap, ◌∙◌, if◌then◌else◌}
use Rattle.std.specs.Option.{option_copied}
use Rattle.mea_family.specs.declared.stop.Stop.TheVariants as stops
use Rattle.mea_meet.proofs.CountSites.{look, holders_point}
use Rattle.mea_meet.proofs.CountCalls.{no_join, join_refused}
use Rattle.mea_meet.proofs.count_part.CountPart.cause_of_join.Goals as goal

pub at-requires : goal.at-requires
at-requires g c = holders_point (look c.self.inside.points c.self.inside.senders c.self.inside.holders c.self.inside.waits c.self.inside.next c.self.view_is c.self.invariant) c.args.k c.in-Some.holder.now (sym c.get.ensures ∙ ap option_copied c.in-Some.is)

pub returns-in-Some : goal.returns-in-Some
returns-in-Some g c = c.overflow_if.ensures ∙ ap (λ b. if b then Some stops.Overflow else None) c.is_full.ensures ∙ join_refused (look c.self.inside.points c.self.inside.senders c.self.inside.holders c.self.inside.waits c.self.inside.next c.self.view_is c.self.invariant) c.args.k c.in-Some.holder.now (sym c.get.ensures ∙ ap option_copied c.in-Some.is) c.at.result.now c.at.ensures

pub returns-in-None : goal.returns-in-None
returns-in-None g c = sym (no_join (look c.self.inside.points c.self.inside.senders c.self.inside.holders c.self.inside.waits c.self.inside.next c.self.view_is c.self.invariant) c.args.k (sym c.get.ensures ∙ ap option_copied c.in-None.is))
