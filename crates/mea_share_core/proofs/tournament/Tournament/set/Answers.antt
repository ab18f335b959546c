use Rattle.std.proofs.Common.{◌∙◌, List, Option, ap, set}
use Rattle.mea_share_core.specs.declared.rank.Rank.{Rank}
use Rattle.mea_share_core.proofs.Tops.{set_leaf}
use Rattle.mea_share_core.proofs.tournament.Tournament.set.Goals as goal

pub returns : goal.returns
returns c =
    set_leaf c.self.inside.groups c.args.group c.self.inside.nodes.items c.play.new.nodes.items c.args.rank c.self.invariant.size c.play.ensures.size c.play.ensures.leaves
    ∙ ap (λ (xs : List (Option Rank)). set xs c.args.group c.args.rank) c.self.view_is
