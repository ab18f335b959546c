-- how a shelf, the places of its leases and a gate stand for a pool
use Rattle.std.specs.Prelude.{◌≡◌, ◌++◌, false, [], length}
use Rattle.mea_pool_core.specs.Shelf.{Shelf, lent_count}
use Rattle.mea_pool_core.specs.Places.{Places, are_drained}
use Rattle.mea_pool_core.specs.Gate.{Gate}
use Rattle.mea_pool_core.specs.Pool.{Pool}

module _ {R W : Type 0} where
  -- the wakers of those who wait for the end come last, since no lease is granted any more then
  abbrev pub pool_of : Shelf R → Places W → Gate W → Pool R W
  pool_of x s g = record {
    shelf = x.idle;
    lent = x.lent;
    waiting = s.waiting;
    granted = s.granted;
    cut = s.cut;
    draining = s.closed;
    drains = g.waiting;
    told = g.told;
    wakes = s.wakes ++ g.wakes;
  }

  -- there is a place for each slot, and leases hold those of the slots that are lent; the gate is open once all are free and
  -- closed, and before it wakes nobody
  pub record ArePool (x : Shelf R) (s : Places W) (g : Gate W) : Type 0 where
    pub size : s.size ≡ length x.lent
    pub held : s.held ≡ lent_count x.lent
    pub gate : g.opened ≡ are_drained s
    pub early : g.opened ≡ false → g.wakes ≡ []
