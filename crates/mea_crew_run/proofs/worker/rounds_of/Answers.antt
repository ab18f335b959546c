use Rattle.std.proofs.Common.{refl, ◌∙◌}
use Rattle.mea_crew_run.proofs.Rounds.{no_rounds, one_more}
use Rattle.mea_crew_run.proofs.worker.rounds_of.Goals as goal

pub loop-round-init : goal.loop-round-init
loop-round-init g c = (refl, no_rounds c.args.pass.now.noted.items)

pub loop-round-preserved : goal.loop-round-preserved
loop-round-preserved g c = (c.one_round.ensures.parts ∙ c.loop-round.invariant.0, one_more c.loop-round.round _ _ _ c.loop-round.invariant.1 c.in_ok-one_round.ensures.done)
