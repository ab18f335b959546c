use Rattle.std.proofs.Common.{sym, ◌∙◌, true}
use Rattle.mea_once.proofs.OneCell.{asks_turn}
use Rattle.mea_once.proofs.polled_core.OnceCoreNamedWakerPolledCore.poll_at.Goals as goal

pub poll_call-requires-clause-caller : goal.poll_call-requires-clause-caller
poll_call-requires-clause-caller c =
    let s = c.requires.stands in
    asks_turn true c.args.future.now.errand ((s.kept.tied.each c.args.f c.args.future.now s.there).fits) (sym c.is_wait.ensures ∙ c.if-is_wait.false)
