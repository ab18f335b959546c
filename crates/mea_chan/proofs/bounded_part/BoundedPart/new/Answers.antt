use Rattle.mea_chan.proofs.BoundedEvents.{none_kept, none_view}
use Rattle.mea_chan.proofs.bounded_part.BoundedPart.new.Goals as goal

pub invariant_of-result : goal.invariant_of-result
invariant_of-result c = rw (c.new.ensures, c.new-2.ensures, c.new-3.ensures, c.new-4.ensures) none_kept

pub returns : goal.returns
returns c = rw (c.new.ensures, c.new-2.ensures, c.new-3.ensures, c.new-4.ensures) none_view
