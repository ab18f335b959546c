use Rattle.mea_lock.proofs.KindCalls.{writes_rw, reads_rw}
use Rattle.mea_lock.proofs.rw_locks.RwCoreU64NamedWakerLockCore.try_lock.Goals as goal

pub returns-then-write-clause-taken : goal.returns-then-write-clause-taken
returns-then-write-clause-taken c = λ some.
    let taken = c.try_write.ensures.taken (rw c.if-write.true at some) in
    (taken.0, writes_rw c.args.self.now c.try_write.new.self c.args.write c.if-write.true taken.1 (c.try_write.ensures.alone taken.0) (c.try_write.ensures.holds taken.0) c.try_write.ensures.sound)

pub returns-else-write-clause-taken : goal.returns-else-write-clause-taken
returns-else-write-clause-taken c = λ some.
    let taken = c.try_read.ensures.taken (rw c.if-write.false at some) in
    (taken.0, reads_rw c.args.self.now c.try_read.new.self c.args.write c.if-write.false taken.1 (c.try_read.ensures.alone taken.0) (c.try_read.ensures.holds taken.0) c.try_read.ensures.sound)
