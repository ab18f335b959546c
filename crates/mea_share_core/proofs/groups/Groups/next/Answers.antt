use Rattle.mea_share_core.proofs.Nexts.{led, led_none}
use Rattle.mea_share_core.proofs.groups.Groups.next.Goals as goal

pub returns-clause-some : goal.returns-clause-some
returns-clause-some g c =
    led g.K.PartialEq.eq g.met.K.Eq.laws c.self.inside.map.entries c.args.self.now c.self.inside.tournament c.next.result c.self.view_is c.self.invariant.ranked c.next.ensures c.len.ensures.unique

pub returns-clause-none : goal.returns-clause-none
returns-clause-none g c = led_none c.self.inside.map.entries c.args.self.now c.self.inside.tournament c.next.result c.self.view_is c.self.invariant.ranked c.next.ensures
