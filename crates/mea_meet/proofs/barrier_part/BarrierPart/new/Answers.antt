use Rattle.mea_meet.proofs.BarrierSites.{new_kept, new_view}
use Rattle.mea_meet.proofs.barrier_part.BarrierPart.new.Goals as goal

pub invariant_of-result : goal.invariant_of-result
invariant_of-result c = rw (c.new.ensures, c.new-2.ensures) new_kept

pub returns : goal.returns
returns c = rw (c.new.ensures, c.new-2.ensures) new_view
