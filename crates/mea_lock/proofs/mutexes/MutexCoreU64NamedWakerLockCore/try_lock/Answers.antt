use Rattle.std.proofs.Common.{refl}
use Rattle.mea_lock.proofs.KindCalls.{share_one, takes_mutex}
use Rattle.mea_lock.proofs.mutexes.MutexCoreU64NamedWakerLockCore.try_lock.Goals as goal

pub returns-clause-taken : goal.returns-clause-taken
returns-clause-taken c = λ some.
    let taken = c.try_lock.ensures.taken (rw share_one at some) in
    let takes = c.try_lock.ensures.takes taken.0 in
    (taken.0, takes_mutex c.args.self.now c.try_lock.new.self c.args._write (c.requires refl) taken.1 takes.0 takes.1 c.try_lock.ensures.sound)
