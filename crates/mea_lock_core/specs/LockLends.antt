-- what a mutex ends as, where a `&mut` to its value is returned
use Rattle.std.specs.Borrow.{Lends, Fml, RattleType, MutBor}
use Rattle.mea_lock_core.specs.Lock.{Lock}
use Rattle.mea_lock_core.specs.contracts.mutex_core.MutexCore.{the_row}

-- once the borrow r ends, the lock has the last value written through r
abbrev pub lends_value : (V W : RattleType) → MutBor (Lock V.Denot W.Denot) → MutBor V.Denot → Fml
lends_value V W s r = Lends (the_row V W) V s r (λ v. record s.now { value = v })
