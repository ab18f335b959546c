use Rattle.std.proofs.Common.{◌≡◌, ◌+◌, Some, subst, sym, ◌∙◌, arith}
use Rattle.mea_family.specs.declared.answer.Answer.TheVariants.{Pending}
use Rattle.mea_once_model.specs.Cells.{poll}
use Rattle.mea_once.specs.Entries.{KeptCell, runs}
use Rattle.mea_once.specs.Parts.{Stands, Stepped, cell_seen, future_seen}
use Rattle.mea_once.proofs.OneCell.{some_futures, some_alone}
use Rattle.mea_once.proofs.Others.{rewakes, alone_is_free, alone_fits, alone_steps}
use Rattle.mea_once.proofs.cell_entry.CellEntry.poll_alone.Goals as goal

pub returns-then-runs : goal.returns-then-runs
returns-then-runs g c = subst (λ (old : KeptCell). runs old.running c.args.f ≡ c.runs.result → (s : Stands g.C.TurnCore.is_once old c.args.f c.args.future.now)
    → Stepped g.C.TurnCore.is_once old s.fs s.n c.args.f c.args.future.now.cell (Some c.args.future.now) (poll c.args.f c.args.waker (future_seen c.args.future.now) (cell_seen old)) Pending (record { cell = g.C.TurnCore.seen_as c.self.inside.core; running = Some (record { name = c.args.f; waker = c.args.waker }); futures = c.self.inside.futures; alone = c.self.inside.alone }) c.args.ready.now c.args.ready.now) c.self.view_is
    (λ run s. rewakes g.C.TurnCore.is_once _ c.args.f c.args.future.now s c.args.waker c.args.ready.now (run ∙ c.if-runs.true)) (sym c.runs.ensures)

pub run_alone-told-requires-clause-free : goal.run_alone-told-requires-clause-free
run_alone-told-requires-clause-free g c =
    alone_is_free g.C.TurnCore.is_once c.args.self.now c.args.f c.args.waker c.args.future.now c.requires.stands c.requires.alone (sym c.runs.ensures ∙ c.if-runs.false)

pub run_alone-told-requires-clause-futures : goal.run_alone-told-requires-clause-futures
run_alone-told-requires-clause-futures g c = let s = c.requires.stands in some_futures g.C.TurnCore.is_once c.args.self.now s.fs s.kept.tied c.args.f c.args.future.now s.there

pub run_alone-told-requires-clause-alone : goal.run_alone-told-requires-clause-alone
run_alone-told-requires-clause-alone g c = let s = c.requires.stands in some_alone g.C.TurnCore.is_once c.args.self.now s.fs s.kept.tied c.args.f c.args.future.now s.there

pub hand_on-requires-clause-fits : goal.hand_on-requires-clause-fits
hand_on-requires-clause-fits g c =
    alone_fits g.C.TurnCore.is_once c.args.self.now c.args.f c.args.waker c.args.future.now c.run_alone-told.result c.run_alone-told.new.self (c.keeps-more.result + 1) c.requires.stands c.requires.alone (sym c.runs.ensures ∙ c.if-runs.false) c.run_alone-told.ensures.nobody c.run_alone-told.ensures.ran c.run_alone-told.ensures.sound (omega (arith, c.keeps-more.ensures))

pub returns : goal.returns
returns g c = λ s.
    alone_steps g.C.TurnCore.is_once c.args.self.now c.args.f c.args.waker c.args.future.now c.run_alone-told.result c.run_alone-told.new.self c.hand_on.new.self (c.keeps-more.result + 1) c.args.ready.now c.register.new.self c.hand_on.new.ready s c.requires.alone (sym c.runs.ensures ∙ c.if-runs.false)
    c.run_alone-told.ensures.nobody c.run_alone-told.ensures.ran c.run_alone-told.ensures.sound (omega (arith, c.keeps-more.ensures)) c.in-Ok.ensures.ok c.hand_on.ensures
