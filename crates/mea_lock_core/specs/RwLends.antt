-- what a reader-writer lock ends as, where a `&mut` to its value is returned
use Rattle.std.specs.Borrow.{Lends, Fml, RattleType, MutBor}
use Rattle.mea_lock_core.specs.RwLock.{RwLock}
use Rattle.mea_lock_core.specs.contracts.rw_core.RwCore.{the_row}

-- once the borrow r ends, the lock has the last value written through r
abbrev pub lends_value : (V W : RattleType) → MutBor (RwLock V.Denot W.Denot) → MutBor V.Denot → Fml
lends_value V W s r = Lends (the_row V W) V s r (λ v. record s.now { value = v })
