use Rattle.mea_lock.proofs.PartEvents.{guards_fit}
use Rattle.mea_lock.proofs.part.LockPart.guards_fit.Goals as goal

pub returns : goal.returns
returns g c = guards_fit c.self.inside.locks c.self.inside.futures c.self.inside.guards.things c.self.inside.next c.self.view_is c.self.invariant
