use Rattle.mea_meet.proofs.CountSites.{new_kept, new_view}
use Rattle.mea_meet.proofs.count_part.CountPart.new.Goals as goal

pub invariant_of-result : goal.invariant_of-result
invariant_of-result g c = rw (c.new.ensures, c.new-2.ensures, c.new-3.ensures, c.new-4.ensures) new_kept

pub returns : goal.returns
returns g c = rw (c.new.ensures, c.new-2.ensures, c.new-3.ensures, c.new-4.ensures) new_view
