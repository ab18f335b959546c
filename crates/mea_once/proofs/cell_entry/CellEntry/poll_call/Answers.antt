use Rattle.std.proofs.Common.{◌≡◌, ◌+◌, ◌≤◌, length, Some, subst, sym, ◌∙◌, arith}
use Rattle.mea_family.specs.declared.answer.Answer.TheVariants.{Pending}
use Rattle.mea_once_model.specs.Cells.{poll}
use Rattle.mea_once.specs.Entries.{KeptCell, keeps, runs, left_by}
use Rattle.mea_once.specs.Parts.{Stands, Stepped, cell_seen, future_seen}
use Rattle.mea_once.proofs.OneCell.{may_poll, some_futures, some_alone}
use Rattle.mea_once.proofs.Steps.{turn_fits, polled_fits, polled_steps}
use Rattle.mea_once.proofs.Others.{rewakes}
use Rattle.mea_once.proofs.cell_entry.CellEntry.poll_call.Goals as goal

pub returns-then-runs : goal.returns-then-runs
returns-then-runs g c = subst (λ (old : KeptCell). runs old.running c.args.f ≡ c.runs.result → (s : Stands g.C.TurnCore.is_once old c.args.f c.args.future.now)
    → Stepped g.C.TurnCore.is_once old s.fs s.n c.args.f c.args.future.now.cell (Some c.args.future.now) (poll c.args.f c.args.waker (future_seen c.args.future.now) (cell_seen old)) Pending (record { cell = g.C.TurnCore.seen_as c.self.inside.core; running = Some (record { name = c.args.f; waker = c.args.waker }); futures = c.self.inside.futures; alone = c.self.inside.alone }) c.args.ready.now c.args.ready.now) c.self.view_is
    (λ run s. rewakes g.C.TurnCore.is_once _ c.args.f c.args.future.now s c.args.waker c.args.ready.now (run ∙ c.if-runs.true)) (sym c.runs.ensures)

pub poll_turn-requires-clause-may : goal.poll_turn-requires-clause-may
poll_turn-requires-clause-may g c = let s = c.requires.stands in rw (← c.self.view_is) at (may_poll g.C.TurnCore.is_once c.args.self.now s.fs s.kept.tied c.args.f c.args.future.now s.there)

pub follow-told-requires-clause-turn : goal.follow-told-requires-clause-turn
follow-told-requires-clause-turn g c = (turn_fits g.C.TurnCore.is_once _ c.args.f c.args.future.now (rw (← c.self.view_is) at c.requires.stands) c.in-Ok-poll_turn.turn _ _ _ c.in-Ok-poll_turn.ensures.turns).0

pub follow-told-requires-clause-quiet : goal.follow-told-requires-clause-quiet
follow-told-requires-clause-quiet g c = (turn_fits g.C.TurnCore.is_once _ c.args.f c.args.future.now (rw (← c.self.view_is) at c.requires.stands) c.in-Ok-poll_turn.turn _ _ _ c.in-Ok-poll_turn.ensures.turns).1

pub follow-told-requires-clause-fits : goal.follow-told-requires-clause-fits
follow-told-requires-clause-fits g c = let s = c.requires.stands in (s.kept.tied.each c.args.f c.args.future.now s.there).fits

pub follow-told-requires-clause-futures : goal.follow-told-requires-clause-futures
follow-told-requires-clause-futures g c = let s = c.requires.stands in rw (← c.self.view_is) at (some_futures g.C.TurnCore.is_once c.args.self.now s.fs s.kept.tied c.args.f c.args.future.now s.there)

pub follow-told-requires-clause-alone : goal.follow-told-requires-clause-alone
follow-told-requires-clause-alone g c = let s = c.requires.stands in rw (← c.self.view_is) at (some_alone g.C.TurnCore.is_once c.args.self.now s.fs s.kept.tied c.args.f c.args.future.now s.there)

pub hand_on-requires-clause-fits : goal.hand_on-requires-clause-fits
hand_on-requires-clause-fits g c =
    subst (λ (old : KeptCell). c.keeps-more.result ≡ keeps old → runs old.running c.args.f ≡ c.runs.result → Stands g.C.TurnCore.is_once old c.args.f c.args.future.now → keeps c.follow-told.new.self + length c.follow-told.new.self.cell.permit.wakes ≤ c.keeps-more.result + 1) c.self.view_is
    (λ all run s. polled_fits g.C.TurnCore.is_once _ c.follow-told.new.self c.args.f c.args.waker c.args.future.now c.in-Ok-poll_turn.turn _ _ c.follow-told.result (c.keeps-more.result + 1) s c.requires.caller (run ∙ c.if-runs.false) c.in-Ok-poll_turn.ensures.turns c.follow-told.ensures.follows (omega (arith, all)))
    c.keeps-more.ensures (sym c.runs.ensures) c.requires.stands

pub returns : goal.returns
returns g c =
    subst (λ (old : KeptCell). c.keeps-more.result ≡ keeps old → runs old.running c.args.f ≡ c.runs.result → (s : Stands g.C.TurnCore.is_once old c.args.f c.args.future.now)
    → Stepped g.C.TurnCore.is_once old s.fs s.n c.args.f c.args.future.now.cell (left_by c.follow-told.result.over c.follow-told.new.future) (poll c.args.f c.args.waker (future_seen c.args.future.now) (cell_seen old)) c.follow-told.result.answer c.hand_on.new.self c.args.ready.now c.hand_on.new.ready) c.self.view_is
    (λ all run s. polled_steps g.C.TurnCore.is_once _ c.follow-told.new.self c.hand_on.new.self c.args.f c.args.waker c.args.future.now c.follow-told.new.future c.in-Ok-poll_turn.turn _ _ c.follow-told.result (c.keeps-more.result + 1) c.args.ready.now c.register.new.self c.hand_on.new.ready s
    c.requires.caller (run ∙ c.if-runs.false) c.in-Ok-poll_turn.ensures.turns c.follow-told.ensures.follows c.follow-told.ensures.stays (omega (arith, all)) c.in-Ok.ensures.ok c.hand_on.ensures)
    c.keeps-more.ensures (sym c.runs.ensures)
