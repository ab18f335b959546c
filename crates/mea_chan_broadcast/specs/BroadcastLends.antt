-- the broadcast channel that a hall lends
use Rattle.std.specs.Prelude.{ℕ, ◌≡◌, Some}
use Rattle.std.specs.FinMap.{get}
use Rattle.mea_chan_model.specs.Broadcasts.{Broadcasts}
use Rattle.mea_chan_broadcast.specs.BroadcastCores.{NamedBroadcast}
use Rattle.mea_chan_broadcast.specs.BroadcastParts.{core_seen}

-- the same messages, as many senders, and the same who wait, with the same wakers in the same order
pub record StandsForBroadcast (h : Broadcasts) (o : ℕ) (b : NamedBroadcast) : Type 0 where
  pub receivers : ℕ
  pub channel : get h.channels o ≡ Some (core_seen b receivers)
