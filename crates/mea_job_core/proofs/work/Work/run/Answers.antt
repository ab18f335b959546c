use Rattle.std.proofs.Common.{is_some, Ok, ap, sym, subst, ◌∙◌, arith}
use Rattle.std.specs.FinMap.{get, insert, len}
use Rattle.mea_by_name.proofs.Own.{len-new}
use Rattle.mea_job_core.specs.Work.{Work}
use Rattle.mea_job_core.specs.Tied.{IsFair}
use Rattle.mea_job_core.proofs.Fairs.{runs}
use Rattle.mea_job_core.proofs.Views.{is_seen, going, is_queued, not_there}
use Rattle.mea_job_core.proofs.work.Work.run.Goals as goal

pub invariant_of-self-2 : goal.invariant_of-self-2
invariant_of-self-2 c =
    let s = c.self.inside in
    let old = c.args.self.now.seen in
    let still = going s.permits s.queued s.running.things s.stopped old (is_seen c.self.view_is) c.requires.still in
    let fair = c.self.invariant.fair still in
    let becomes = c.in_ok-try_acquire.ensures.taken (ap (λ b. Ok b) c.if-not-branch.false) in
    let none = not_there s.queued c.args.number (λ a some. c.requires.above.queued a (sym (is_queued s.permits s.queued s.running.things s.stopped old a (is_seen c.self.view_is) still) ∙ some)) in
    let new = not_there s.running.things c.args.number (λ a some. c.requires.above.running a (ap (λ (w : Work). is_some (get w.running a)) (sym (is_seen c.self.view_is)) ∙ some)) in
    let put = c.insert.ensures.things ∙ ap (λ r. insert r c.args.number c.args.key) c.reserve.ensures.things in
    let longer = ap len put ∙ len-new s.running.things c.args.number c.args.key new in
    let running = ap (λ (w : Work). len w.running) (is_seen c.self.view_is) in
    let permits = ap (λ (w : Work). w.permits) (is_seen c.self.view_is) in
    let free = c.requires.free in
    record {
      some = c.self.invariant.some;
      counted = omega (arith, longer, c.self.invariant.counted);
      few = omega (arith, free, running, permits, c.self.invariant.counted);
      room = λ g. omega (arith, c.num_waiters.ensures.is, fair.tied.as_many, c.in-Some.ensures, c.in_ok-reserve.ensures.room, c.insert.ensures.spare);
      free = λ g. omega (arith, becomes.permits, c.self.invariant.free g, c.self.invariant.counted, free, running, permits);
      fair = λ g. subst (λ r. IsFair c.try_acquire.new.self s.queued r) (sym put) (runs s.fair s.queued s.running.things fair c.try_acquire.new.self c.args.number c.args.key none new becomes c.in_ok-try_acquire.ensures.settled);
    }
