use Rattle.mea_once.proofs.TableEvents.{table_form, new_kept, new_view}
use Rattle.mea_once.proofs.key_part.KeyPart.new.Goals as goal

pub invariant_of-result : goal.invariant_of-result
invariant_of-result g c = rw (c.new.ensures, c.new-2.ensures) (new_kept (table_form g.C.TableCore.is_once))

pub returns : goal.returns
returns g c = rw (c.new.ensures, c.new-2.ensures) (new_view (table_form g.C.TableCore.is_once))
