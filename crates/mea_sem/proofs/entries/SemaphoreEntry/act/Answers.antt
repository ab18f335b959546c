use Rattle.std.proofs.Common.{arith}
use Rattle.mea_sem.proofs.PlaysPours.{wakers_poured}
use Rattle.mea_sem.proofs.entries.SemaphoreEntry.act.Goals as goal

pub release-requires-clause-room : goal.release-requires-clause-room
release-requires-clause-room c = omega (arith, c.requires.room, wakers_poured c.args.self.now.core.queue c.in-Release.n)
