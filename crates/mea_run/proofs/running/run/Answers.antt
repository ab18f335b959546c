use Rattle.std.proofs.Common.{inr}
use Rattle.mea_run.specs.Script.{events_of}
use Rattle.mea_run.proofs.Endings.{no_usage}
use Rattle.mea_run.proofs.running.run.Goals as goal

pub returns-then-is_play-clause-woken : goal.returns-then-is_play-clause-woken
returns-then-is_play-clause-woken g c = λ script play told. c.no_wake_is_lost.ensures (events_of script)

pub returns-in-Some-clause-woken : goal.returns-in-Some-clause-woken
returns-in-Some-clause-woken g c = λ script play told. c.no_wake_is_lost.ensures (events_of script)

pub returns-in-None-clause-woken : goal.returns-in-None-clause-woken
returns-in-None-clause-woken g c = λ script play told. c.no_wake_is_lost.ensures (events_of script)

pub returns-then-is_play-clause-order : goal.returns-then-is_play-clause-order
returns-then-is_play-clause-order g c = λ script play told. c.grants_follow_first_polls.ensures (events_of script)

pub returns-in-Some-clause-order : goal.returns-in-Some-clause-order
returns-in-Some-clause-order g c = λ script play told. c.grants_follow_first_polls.ensures (events_of script)

pub returns-in-None-clause-order : goal.returns-in-None-clause-order
returns-in-None-clause-order g c = λ script play told. c.grants_follow_first_polls.ensures (events_of script)

pub make-requires : goal.make-requires
make-requires g c = ((c.seed_and_rounds.ensures c.in-Some.seed c.in-Some.rounds).0 c.in-Some.is).2

pub returns-in-Some-clause-usage : goal.returns-in-Some-clause-usage
returns-in-Some-clause-usage g c = (
  λ usage none. no_usage _ c.make.ensures.made usage,
  λ none. absurd (none (inr (c.in-Some.seed, c.in-Some.rounds, (c.seed_and_rounds.ensures c.in-Some.seed c.in-Some.rounds).0 c.in-Some.is))),
)
