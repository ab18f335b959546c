use Rattle.std.proofs.Common.{◌≡◌, ◌+◌, ◌≤◌, length, None, subst}
use Rattle.mea_family.specs.declared.answer.Answer.TheVariants.{Done}
use Rattle.mea_once_model.specs.Cells.{end}
use Rattle.mea_once.specs.Entries.{KeptCell, keeps}
use Rattle.mea_once.specs.Parts.{Stands, Stepped, cell_seen, future_seen}
use Rattle.mea_once.proofs.OneCell.{may_end, some_futures, some_alone}
use Rattle.mea_once.proofs.Steps.{end_fits, end_steps}
use Rattle.mea_once.proofs.cell_entry.CellEntry.end.Goals as goal

pub leave-requires-clause-may : goal.leave-requires-clause-may
leave-requires-clause-may g c = let s = c.requires.stands in rw (← c.self.view_is) at (may_end g.C.TurnCore.is_once c.args.self.now s.fs s.kept.tied c.args.f c.args.future s.there)

pub finish-requires-clause-futures : goal.finish-requires-clause-futures
finish-requires-clause-futures g c = let s = c.requires.stands in rw (← c.self.view_is) at (some_futures g.C.TurnCore.is_once c.args.self.now s.fs s.kept.tied c.args.f c.args.future s.there)

pub finish-requires-clause-alone : goal.finish-requires-clause-alone
finish-requires-clause-alone g c = let s = c.requires.stands in rw (← c.self.view_is) at (some_alone g.C.TurnCore.is_once c.args.self.now s.fs s.kept.tied c.args.f c.args.future s.there)

pub hand_on-requires-clause-fits : goal.hand_on-requires-clause-fits
hand_on-requires-clause-fits g c =
    subst (λ (old : KeptCell). c.keeps-more.result ≡ keeps old → Stands g.C.TurnCore.is_once old c.args.f c.args.future → keeps c.finish.new.self + length c.finish.new.self.cell.permit.wakes ≤ c.keeps-more.result) c.self.view_is
    (λ more s. end_fits g.C.TurnCore.is_once _ c.finish.new.self c.args.f c.args.future _ c.keeps-more.result s c.leave.ensures c.finish.ensures more) c.keeps-more.ensures c.requires.stands

pub returns : goal.returns
returns g c =
    subst (λ (old : KeptCell). c.keeps-more.result ≡ keeps old → (s : Stands g.C.TurnCore.is_once old c.args.f c.args.future)
    → Stepped g.C.TurnCore.is_once old s.fs s.n c.args.f c.args.future.cell None (end c.args.f (future_seen c.args.future) (cell_seen old)) Done c.hand_on.new.self c.args.ready.now c.hand_on.new.ready) c.self.view_is
    (λ more s. end_steps g.C.TurnCore.is_once _ c.finish.new.self c.hand_on.new.self c.args.f c.args.future _ c.keeps-more.result c.args.ready.now c.hand_on.new.ready s c.leave.ensures c.finish.ensures more c.hand_on.ensures) c.keeps-more.ensures
