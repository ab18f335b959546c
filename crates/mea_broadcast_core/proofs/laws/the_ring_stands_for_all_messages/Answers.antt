use Rattle.mea_broadcast_core.proofs.Stands.{begins, sends, oldest_is, finds}
use Rattle.mea_broadcast_core.proofs.laws.the_ring_stands_for_all_messages.Goals as goal

pub returns : goal.returns
returns g c = record { begins = begins; sends = sends; oldest = oldest_is; finds = finds }
