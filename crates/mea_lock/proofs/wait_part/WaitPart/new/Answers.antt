use Rattle.mea_lock.proofs.WaitEvents.{new_kept, new_view}
use Rattle.mea_lock.proofs.wait_part.WaitPart.new.Goals as goal

pub invariant_of-result : goal.invariant_of-result
invariant_of-result c = rw (c.new.ensures, c.new-2.ensures) new_kept

pub returns : goal.returns
returns c = rw (c.new.ensures, c.new-2.ensures) new_view
