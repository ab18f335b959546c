use Rattle.std.proofs.Common.{◌≡◌, false, is_some, subst}
use Rattle.std.specs.FinMap.{get}
use Rattle.mea_share_core.specs.Fair.{share_of}
use Rattle.mea_share_core.proofs.Swaps.{absent_get}
use Rattle.mea_share_core.proofs.Numbered.{waiting_false}
use Rattle.mea_share_core.proofs.fair_core.FairCore.waits.Goals as goal

pub returns-in-None-clause-is : goal.returns-in-None-clause-is
returns-in-None-clause-is g c =
    subst (λ f. false ≡ is_some (get (share_of g.K.PartialEq.eq f c.args.key.now).waiting c.args.number)) c.self.view_is
    (waiting_false _ (absent_get g.K.PartialEq.eq g.met.K.Eq.laws c.self.inside.groups c.args.key.now c.args.number c.in-None.ensures.none))
