use Rattle.std.proofs.Common.{◌≡◌, ◌+◌, ◌≤◌, length, cond, subst, sym, ◌∙◌, arith}
use Rattle.mea_family.specs.declared.answer.Answer.TheVariants.{Ready, Pending}
use Rattle.mea_once_model.specs.Cells.{poll}
use Rattle.mea_once.specs.Entries.{KeptCell, keeps, left_by}
use Rattle.mea_once.specs.Parts.{Stands, Stepped, cell_seen, future_seen}
use Rattle.mea_once.proofs.OneCell.{some_futures, some_alone}
use Rattle.mea_once.proofs.Others.{wait_fits, wait_steps}
use Rattle.mea_once.proofs.cell_entry.CellEntry.poll_wait.Goals as goal

pub poll_wait-requires : goal.poll_wait-requires
poll_wait-requires g c = let s = c.requires.stands in record { given = rw (← c.self.view_is) at ((s.kept.tied.each c.args.f c.args.future.now s.there).slot.given) }

pub finish_if-requires-clause-futures : goal.finish_if-requires-clause-futures
finish_if-requires-clause-futures g c = let s = c.requires.stands in rw (← c.self.view_is) at (some_futures g.C.TurnCore.is_once c.args.self.now s.fs s.kept.tied c.args.f c.args.future.now s.there)

pub finish_if-requires-clause-alone : goal.finish_if-requires-clause-alone
finish_if-requires-clause-alone g c = let s = c.requires.stands in rw (← c.self.view_is) at (some_alone g.C.TurnCore.is_once c.args.self.now s.fs s.kept.tied c.args.f c.args.future.now s.there)

pub hand_on-requires-clause-fits : goal.hand_on-requires-clause-fits
hand_on-requires-clause-fits g c =
    subst (λ (old : KeptCell). c.keeps-more.result ≡ keeps old → Stands g.C.TurnCore.is_once old c.args.f c.args.future.now → keeps c.finish_if.new.self + length c.finish_if.new.self.cell.permit.wakes ≤ c.keeps-more.result + 1) c.self.view_is
    (λ all s. wait_fits g.C.TurnCore.is_once _ c.args.f c.args.waker c.args.future.now c.in-Ok-poll_wait.over _ _ c.finish_if.new.self (c.keeps-more.result + 1) s c.requires.wait (λ full. sym c.registered-waits.ensures.count ∙ c.registered-waits.ensures.over full) c.in-Ok-poll_wait.ensures.polls c.in-Ok-poll_wait.ensures.sound c.finish_if.ensures (omega (arith, all)))
    c.keeps-more.ensures c.requires.stands

pub returns : goal.returns
returns g c =
    rw c.wait_told.ensures
    (subst (λ (old : KeptCell). c.keeps-more.result ≡ keeps old → (s : Stands g.C.TurnCore.is_once old c.args.f c.args.future.now)
    → Stepped g.C.TurnCore.is_once old s.fs s.n c.args.f c.args.future.now.cell (left_by c.in-Ok-poll_wait.over (record c.args.future.now { wait = c.poll_wait.new.wait })) (poll c.args.f c.args.waker (future_seen c.args.future.now) (cell_seen old)) (cond c.in-Ok-poll_wait.over Ready Pending) c.hand_on.new.self c.args.ready.now c.hand_on.new.ready) c.self.view_is
    (λ all s. wait_steps g.C.TurnCore.is_once _ c.args.f c.args.waker c.args.future.now c.in-Ok-poll_wait.over _ c.poll_wait.new.wait c.finish_if.new.self c.hand_on.new.self (c.keeps-more.result + 1) c.args.ready.now c.register.new.self c.hand_on.new.ready s c.requires.wait
    (λ full. sym c.registered-waits.ensures.count ∙ c.registered-waits.ensures.over full) c.in-Ok-poll_wait.ensures.polls c.in-Ok-poll_wait.ensures.sound c.finish_if.ensures (omega (arith, all)) c.in-Ok.ensures.ok c.hand_on.ensures)
    c.keeps-more.ensures)
