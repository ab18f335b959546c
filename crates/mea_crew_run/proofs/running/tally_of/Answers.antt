use Rattle.std.proofs.Common.{ap, ◌∙◌, arith}
use Rattle.std.specs.Int.{from_bool}
use Rattle.mea_recorded.proofs.Histories.{length-history}
use Rattle.mea_crew_run.specs.Rounds.{is_held, is_lacking}
use Rattle.mea_crew_run.proofs.Tallies.{one_more, all_counted, at_most_one}
use Rattle.mea_crew_run.proofs.running.tally_of.Goals as goal

pub loop-number-preserved : goal.loop-number-preserved
loop-number-preserved c =
    let before = c.loop-number.invariant in
    let rs = c.args.recorded.now.replies in
    let held = c.from.ensures ∙ ap from_bool c.is_held.ensures in
    let lacking = c.from-in-loop-number.ensures ∙ ap from_bool c.is_lacking.ensures in
    record {
      some = omega (arith, before.some, held, one_more is_held rs c.loop-number.number c.entry_at-answer.result.1 c.entry_at-answer.ensures.answer);
      none = omega (arith, before.none, lacking, one_more is_lacking rs c.loop-number.number c.entry_at-answer.result.1 c.entry_at-answer.ensures.answer);
      few_some = omega (arith, before.few_some, held, at_most_one (is_held c.entry_at-answer.result.1));
      few_none = omega (arith, before.few_none, lacking, at_most_one (is_lacking c.entry_at-answer.result.1));
    }

pub returns-clause-some : goal.returns-clause-some
returns-clause-some c = all_counted is_held c.args.recorded.now.replies c.loop-number.number c.loop-number.tally.some c.loop-number.invariant.some
    (omega (arith, c.loop-number-test.false, c.entries-number-end.ensures.count, length-history c.args.recorded.now c.entries-number-end.ensures.history))

pub returns-clause-none : goal.returns-clause-none
returns-clause-none c = all_counted is_lacking c.args.recorded.now.replies c.loop-number.number c.loop-number.tally.none c.loop-number.invariant.none
    (omega (arith, c.loop-number-test.false, c.entries-number-end.ensures.count, length-history c.args.recorded.now c.entries-number-end.ensures.history))
