-- what a lease ends as, where a `&mut` to its resource is returned
use Rattle.std.specs.Prelude.{ℕ}
use Rattle.std.specs.Borrow.{Lends, Fml, RattleType, MutBor}
use Rattle.mea_pool_core.specs.contracts.lease.Lease.{the_row}

-- once the borrow r ends, the lease has the last value written through r
abbrev pub lends_resource : (R : RattleType) → MutBor (ℕ × R.Denot) → MutBor R.Denot → Fml
lends_resource R l r = Lends (the_row R) R l r (λ v. (l.now.0, v))
