use Rattle.mea_lock.proofs.KindCalls.{unlocks_mutex}
use Rattle.mea_lock.proofs.mutexes.MutexCoreU64NamedWakerLockCore.unlock.Goals as goal

pub returns : goal.returns
returns c = unlocks_mutex c.args.self.now c.unlock.new.self c.args._write c.unlock.ensures.is c.unlock.ensures.free c.unlock.ensures.one c.unlock.ensures.sound
