-- what a `WaitList` ends as, where a `&mut` to one of its values is returned, and its nodes, where one to a node is
use Rattle.std.specs.Prelude.{ℕ}
use Rattle.std.specs.Borrow.{Lends, Fml, RattleType, MutBor}
use Rattle.std.specs.declared.alloc.Allocator.{Ghosts}
use Rattle.slab.specs.Slab.{Slab}
use Rattle.slab.specs.Lends.{lends_value as slab_lends}
use Rattle.mea_base.specs.WaitList.{Waits, with_value}
use Rattle.mea_base.specs.contracts.wait_list.WaitList.{the_row}
use Rattle.mea_base.specs.contracts.links.Node.{the_row as node_row}
use Rattle.mea_base.specs.declared.links.Node.{Node}

-- once the borrow r ends, the number has the last value written through r
abbrev pub lends_value : (T : RattleType) → MutBor (Waits T.Denot) → ℕ → MutBor T.Denot → Fml
lends_value T s number r = Lends (the_row T) T s r (with_value s.now number)

-- once the borrow r ends, the key has the last node written through r
abbrev pub lends_node : (T A : RattleType) (alloc : Ghosts A.Denot) → MutBor (Slab (Node T.Denot)) → ℕ → MutBor (Node T.Denot) → Fml
lends_node T A alloc nodes key r = slab_lends (node_row T) A alloc nodes key r
