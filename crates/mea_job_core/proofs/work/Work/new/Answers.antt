use Rattle.std.proofs.Common.{ap, sym, ◌∙◌, arith}
use Rattle.std.specs.Ordering.{nat_cmp}
use Rattle.std.specs.FinMap.{len, len-empty}
use Rattle.mea_job_core.specs.Waiting.{Waiting}
use Rattle.mea_job_core.proofs.Fairs.{fair_none}
use Rattle.mea_job_core.proofs.Views.{new_seen}
use Rattle.mea_job_core.proofs.work.Work.new.Goals as goal

pub invariant_of-result : goal.invariant_of-result
invariant_of-result c =
    let queued = ap len c.new-queued.ensures ∙ len-empty nat_cmp Waiting in
    let running = ap len c.new-running.ensures ∙ len-empty nat_cmp _ in
    let free = ap (λ (f : _). f.free) c.new-fair.ensures in record {
      some = c.requires;
      counted = sym running;
      few = omega arith;
      room = λ _. omega (arith, queued);
      free = λ _. omega (arith, free);
      fair = λ _. fair_none c.new-fair.result c.new-queued.result c.new-running.result.things c.args.permits c.new-fair.ensures c.new-queued.ensures c.new-running.ensures;
    }

pub returns-clause-is : goal.returns-clause-is
returns-clause-is c = new_seen c.args.permits c.new-queued.result c.new-running.result.things c.new-queued.ensures c.new-running.ensures
