use Rattle.std.proofs.Common.{◌+◌, ◌-◌, ◌++◌, ap, ◌∙◌}
use Rattle.mea_run.specs.Generated.{round_of, rounds_from}
use Rattle.mea_run.proofs.RoundsLeft.{made_on}
use Rattle.mea_run.proofs.generator.make_script.Goals as goal

pub loop-number-preserved : goal.loop-number-preserved
loop-number-preserved c =
    let on = made_on c.loop-number.state c.loop-number.number c.args.rounds c.loop-number.script.items c.append-in-loop-number.new.script.items _
    c.loop-number-test.true c.loop-number.invariant.made
    (c.in_ok-append-2.ensures
    ∙ ap (λ es. c.loop-number.script.items ++ es) (c.round_of-next.ensures.events ∙ ap (round_of c.loop-number.state) c.from.ensures)) in
    record {
      made = ap (λ s. c.append-in-loop-number.new.script.items ++ rounds_from s (c.loop-number.number + 1) (c.args.rounds - (c.loop-number.number + 1)))
          c.round_of-next.ensures.state ∙ on;
      small = c.round_of-next.ensures.small;
    }
