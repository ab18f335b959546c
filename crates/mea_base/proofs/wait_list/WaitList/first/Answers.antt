use Rattle.std.proofs.Common.{arith}
use Rattle.mea_base.proofs.WaitLinks.{sound_view}
use Rattle.mea_base.proofs.wait_list.WaitList.first.Goals as goal

pub returns-else-first-eq-SENTINEL-clause-sound : goal.returns-else-first-eq-SENTINEL-clause-sound
returns-else-first-eq-SENTINEL-clause-sound g c = rw (← c.self.view_is) (sound_view c.self.inside.nodes.slots _ c.self.inside.spare c.self.invariant.ring (omega (arith, c.self.invariant.fits)))

pub returns-in_err-first-clause-sound : goal.returns-in_err-first-clause-sound
returns-in_err-first-clause-sound g c =
    rw (← c.self.view_is) (sound_view c.self.inside.nodes.slots _ c.self.inside.spare c.self.invariant.ring (omega (arith, c.self.invariant.fits)))

pub returns-then-first-eq-SENTINEL-clause-sound : goal.returns-then-first-eq-SENTINEL-clause-sound
returns-then-first-eq-SENTINEL-clause-sound g c =
    rw (← c.self.view_is) (sound_view c.self.inside.nodes.slots _ c.self.inside.spare c.self.invariant.ring (omega (arith, c.self.invariant.fits)))
