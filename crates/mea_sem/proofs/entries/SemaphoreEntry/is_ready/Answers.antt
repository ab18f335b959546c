use Rattle.mea_sem.proofs.Turns.{ready_if, waits_if, refused_if}
use Rattle.mea_sem.proofs.entries.SemaphoreEntry.is_ready.Goals as goal

pub returns-in_default : goal.returns-in_default
returns-in_default c = record {
  ready = ready_if c.args.self.now.core c.is_closed-closed.ensures.sound c.args.acquire.now c.is_granted.result c.in_default.not-New
      (c.is_granted.ensures.granted).0;
  waits = waits_if c.args.self.now.core c.is_closed-closed.ensures.sound c.args.acquire.now c.is_granted.result c.in_default.not-New c.requires.is_open
      (c.is_granted.ensures.stands c.requires.belongs);
  refused = refused_if c.args.self.now.core c.is_closed-closed.ensures.sound c.args.acquire.now c.is_granted.result c.in_default.not-New c.requires.is_open
      (c.is_granted.ensures.stands c.requires.belongs);
}
