-- what a guard may do with the value of its lock
use Rattle.std.specs.Prelude.{Bool, true, false}
use Rattle.mea_lock.specs.declared.access.Access.{Access}
use Rattle.mea_lock.specs.declared.access.Access.TheVariants as accesses

-- whether it writes
abbrev pub writes : Access → Bool
writes accesses.Read = false
writes accesses.Write = true
