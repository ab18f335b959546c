use Rattle.mea_share_core.proofs.Swaps.{seen_at}
use Rattle.mea_share_core.proofs.groups.Groups.at.Goals as goal

pub returns : goal.returns
returns g c = λ k stands.
    seen_at g.K.PartialEq.eq g.met.K.Eq.laws c.self.inside.map.entries c.args.self.now c.args.place k c.in-Some.field-0-0.now c.in-Some.group.now c.self.view_is
    c.in-Some.ensures.entry c.in-Some.ensures.value stands
