use Rattle.std.proofs.Common.{refl}
use Rattle.mea_once.proofs.PartEvents.{site, made}
use Rattle.mea_once.proofs.cell_part.CellPart.make.Goals as goal

pub invariant_of-self-2 : goal.invariant_of-self-2
invariant_of-self-2 g c = rw (c.in-Ok.ensures.ok, c.new.ensures) (made g.C.TurnCore.is_once (site g.C.TurnCore.is_once c.self.inside.cells c.self.inside.futures c.self.inside.next c.self.view_is c.self.invariant c.requires.next c.ranges.number.fits) (g.C.TurnCore.seen_as c.args.core) c.requires.new).0

pub returns : goal.returns
returns g c = (refl, rw (c.in-Ok.ensures.ok, c.new.ensures) (made g.C.TurnCore.is_once (site g.C.TurnCore.is_once c.self.inside.cells c.self.inside.futures c.self.inside.next c.self.view_is c.self.invariant c.requires.next c.ranges.number.fits) (g.C.TurnCore.seen_as c.args.core) c.requires.new).1)
