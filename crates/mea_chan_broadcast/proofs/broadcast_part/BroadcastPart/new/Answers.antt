use Rattle.mea_chan_broadcast.proofs.Events.{new_kept, new_view}
use Rattle.mea_chan_broadcast.proofs.broadcast_part.BroadcastPart.new.Goals as goal

pub invariant_of-result : goal.invariant_of-result
invariant_of-result c = rw (c.new.ensures, c.new-2.ensures, c.new-3.ensures, c.new-4.ensures) new_kept

pub returns : goal.returns
returns c = rw (c.new.ensures, c.new-2.ensures, c.new-3.ensures, c.new-4.ensures) new_view
