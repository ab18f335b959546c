use Rattle.std.proofs.Common.{refl, sym, ap, ◌∙◌}
use Rattle.std.specs.Option.{option_copied}
use Rattle.mea_meet.proofs.CountSites.{site}
use Rattle.mea_meet.proofs.CountCalls.{no_join, join_point, join_lives, joined_by}
use Rattle.mea_family.proofs.Refusals.{unknown}
use Rattle.mea_meet.proofs.count_part.CountPart.join.Goals as goal

pub returns-in_default : goal.returns-in_default
returns-in_default g c = (unknown _ _ (no_join (site c.self.inside.points c.self.inside.senders c.self.inside.holders c.self.inside.waits c.self.inside.next c.self.view_is c.self.invariant c.requires) c.args.k (sym c.get.ensures ∙ ap option_copied c.in_default.is)), refl)

pub add-requires-clause-there : goal.add-requires-clause-there
add-requires-clause-there g c = join_point (site c.self.inside.points c.self.inside.senders c.self.inside.holders c.self.inside.waits c.self.inside.next c.self.view_is c.self.invariant c.requires) c.args.k c.in-Some.holder.now (sym c.get.ensures ∙ ap option_copied c.in-Some.is)

pub add-requires-clause-lives : goal.add-requires-clause-lives
add-requires-clause-lives g c = join_lives (site c.self.inside.points c.self.inside.senders c.self.inside.holders c.self.inside.waits c.self.inside.next c.self.view_is c.self.invariant c.requires) c.args.k c.in-Some.holder.now (sym c.get.ensures ∙ ap option_copied c.in-Some.is)

pub returns : goal.returns
returns g c = joined_by (site c.self.inside.points c.self.inside.senders c.self.inside.holders c.self.inside.waits c.self.inside.next c.self.view_is c.self.invariant c.requires) c.args.k c.in-Some.holder.now (sym c.get.ensures ∙ ap option_copied c.in-Some.is) c.add.result c.add.new.self c.add.ensures
