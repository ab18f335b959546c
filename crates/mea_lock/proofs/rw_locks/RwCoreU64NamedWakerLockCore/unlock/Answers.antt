use Rattle.mea_lock.proofs.KindCalls.{unlocks_write}
use Rattle.mea_lock.proofs.rw_locks.RwCoreU64NamedWakerLockCore.unlock.Goals as goal

pub returns-then-write : goal.returns-then-write
returns-then-write c = unlocks_write c.args.self.now c.unlock_write.new.self c.args.write c.if-write.true c.unlock_write.ensures.is c.unlock_write.ensures.free c.unlock_write.ensures.all c.unlock_write.ensures.sound
