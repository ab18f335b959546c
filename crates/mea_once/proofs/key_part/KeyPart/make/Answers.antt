use Rattle.std.proofs.Common.{refl}
use Rattle.mea_once.proofs.TableEvents.{site, made}
use Rattle.mea_once.proofs.key_part.KeyPart.make.Goals as goal

pub invariant_of-self-2 : goal.invariant_of-self-2
invariant_of-self-2 g c = rw (c.in-Ok.ensures.ok, c.new-entry.ensures) (made g.C.TableCore.is_once (site g.C.TableCore.is_once c.self.inside.tables c.self.inside.futures c.self.inside.next c.self.view_is c.self.invariant c.requires.next c.ranges.number.fits) (g.C.TableCore.seen_as c.args.core) c.requires.new).0

pub returns : goal.returns
returns g c = (refl, rw (c.in-Ok.ensures.ok, c.new-entry.ensures) (made g.C.TableCore.is_once (site g.C.TableCore.is_once c.self.inside.tables c.self.inside.futures c.self.inside.next c.self.view_is c.self.invariant c.requires.next c.ranges.number.fits) (g.C.TableCore.seen_as c.args.core) c.requires.new).1)
