use Rattle.mea_lock.proofs.KindCalls.{mutex_keeps_out}
use Rattle.mea_lock.proofs.mutexes.MutexCoreU64NamedWakerLockCore.keeps_out.Goals as goal

pub returns : goal.returns
returns c = mutex_keeps_out c.args.self.now c.args._write c.is_held.result c.is_held.ensures.is
