use Rattle.mea_pool_core.proofs.PlaceCalls.{told_fits}
use Rattle.mea_pool_core.proofs.places.Places.fits.Goals as goal

pub returns : goal.returns
returns g c = told_fits c.self.inside.permits c.args.self.now c.args.wait.now c.acquire.result c.poll_allowed.result c.self.view_is c.acquire.ensures c.self.invariant c.poll_allowed.ensures
