use Rattle.std.proofs.Common.{sym, ◌∙◌}
use Rattle.std.proofs.lemmas.Bool.{eqb-true}
use Rattle.mea_share_core.proofs.Kept.{idle_share}
use Rattle.mea_share_core.proofs.share_group.ShareGroup.is_idle.Goals as goal

pub returns : goal.returns
returns g c = λ nobody.
    sym c.self.view_is
    ∙ idle_share _ c.if-self-ne1.false (sym c.self.invariant.held ∙ c.if-self-ne0.false) (sym c.self.invariant.waiting ∙ eqb-true c.self.inside.waiting 0 nobody)
