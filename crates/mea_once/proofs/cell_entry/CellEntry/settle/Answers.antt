use Rattle.mea_once.proofs.Others.{settles}
use Rattle.mea_once.proofs.cell_entry.CellEntry.settle.Goals as goal

pub returns : goal.returns
returns g c = λ s. rw (c.wake_kept.ensures.entry, c.wake_kept.ensures.ready, c.settled-future.ensures) (settles g.C.TurnCore.is_once c.args.self.now c.args.f c.args.future.now s c.args.outcome c.requires.fits c.args.ready.now c.requires.room)
