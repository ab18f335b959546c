use Rattle.std.proofs.Common.{ℕ, IsSome, is_some, ap, sym, subst, ◌∙◌, arith}
use Rattle.std.specs.FinMap.{get, insert, len}
use Rattle.mea_by_name.proofs.Own.{len-new}
use Rattle.mea_job_core.specs.Waiting.{Waiting}
use Rattle.mea_job_core.specs.Work.{Work, Kept}
use Rattle.mea_job_core.specs.Tied.{IsFair, Asks, work_seen}
use Rattle.mea_job_core.proofs.Fairs.{rests, queues, asked_belongs, gives_up}
use Rattle.mea_job_core.proofs.Views.{is_seen, going, is_queued, not_there, seen_queued}
use Rattle.mea_job_core.proofs.work.Work.queue.Goals as goal

pub invariant_of-self-in_err-acquire : goal.invariant_of-self-in_err-acquire
invariant_of-self-in_err-acquire c =
    let s = c.self.inside in
    let still = going s.permits s.queued s.running.things s.stopped c.args.self.now.seen (is_seen c.self.view_is) c.requires.still in
    let same = c.in_err-acquire.ensures.err in
    let things = c.reserve.ensures.things in
    record {
      some = c.self.invariant.some;
      counted = c.self.invariant.counted ∙ sym (ap len things);
      few = c.self.invariant.few;
      room = λ g. omega (arith, c.self.invariant.room g, c.reserve.ensures.grows);
      free = λ g. omega (arith, same.free, c.self.invariant.free g);
      fair = λ g. subst (λ n. IsFair c.ask.new.fair s.queued n) (sym things) (rests s.fair s.queued s.running.things (c.self.invariant.fair g) c.ask.new.fair same c.ask.ensures.settled);
    }

pub invariant_of-self-in-Ok : goal.invariant_of-self-in-Ok
invariant_of-self-in-Ok c =
    let s = c.self.inside in
    let old = c.args.self.now.seen in
    let still = going s.permits s.queued s.running.things s.stopped old (is_seen c.self.view_is) c.requires.still in
    let fair = c.self.invariant.fair still in
    let asks = c.in_ok-acquire.ensures.ok in
    let things = c.reserve.ensures.things in
    let put = c.in-Ok.ensures.ok in
    let above = λ (a : ℕ) (some : IsSome (get s.queued a)). c.requires.above.queued a (sym (is_queued s.permits s.queued s.running.things s.stopped old a (is_seen c.self.view_is) still) ∙ some) in
    let none = not_there s.queued c.args.number above in
    let new = not_there s.running.things c.args.number (λ a some. c.requires.above.running a (ap (λ (w : Work). is_some (get w.running a)) (sym (is_seen c.self.view_is)) ∙ some)) in
    let longer = ap len put ∙ len-new s.queued c.args.number _ none in
    let full = c.requires.none in
    let running = ap (λ (w : Work). len w.running) (is_seen c.self.view_is) in
    let permits = ap (λ (w : Work). w.permits) (is_seen c.self.view_is) in
    record {
      some = c.self.invariant.some;
      counted = c.self.invariant.counted ∙ sym (ap len things);
      few = c.self.invariant.few;
      room = λ g. omega (arith, longer, c.num_waiters.ensures.is, fair.tied.as_many, c.in-Some.ensures, c.in_ok-reserve.ensures.room);
      free = λ g. omega (arith, asks.becomes.permits, c.self.invariant.free g, c.self.invariant.counted, full, running, permits);
      fair = λ g. subst (λ n. IsFair c.ask.new.fair c.insert.new.self n) (sym things) (subst (λ q. IsFair c.ask.new.fair q s.running.things) (sym put)
          (queues s.fair s.queued s.running.things fair c.ask.new.fair c.args.number c.args.key c.in_ok-acquire.acquire.key c.in_ok-acquire.acquire.stage asks c.args.value above new c.ask.ensures.settled));
    }

pub cancel-requires : goal.cancel-requires
cancel-requires c =
    let s = c.self.inside in
    let still = going s.permits s.queued s.running.things s.stopped c.args.self.now.seen (is_seen c.self.view_is) c.requires.still in
    let asks = c.in_ok-acquire.ensures.ok in
    let same = c.job.view_is ∙ c.in-Err.ensures.back in
    let theirs : Asks s.fair c.args.key c.args.number c.ask.new.fair c.job.inside.acquire.key c.job.inside.acquire.stage =
    record { key = ap (λ (x : Waiting). x.key) same ∙ asks.key; stage = ap (λ (x : Waiting). x.stage) same ∙ asks.stage; becomes = asks.becomes } in
    asked_belongs s.fair s.queued s.running.things (c.self.invariant.fair still) c.ask.new.fair c.args.number c.args.key c.job.inside.acquire.key c.job.inside.acquire.stage theirs

pub invariant_of-self-in-Err : goal.invariant_of-self-in-Err
invariant_of-self-in-Err c =
    let s = c.self.inside in
    let still = going s.permits s.queued s.running.things s.stopped c.args.self.now.seen (is_seen c.self.view_is) c.requires.still in
    let asks = c.in_ok-acquire.ensures.ok in
    let same = c.job.view_is ∙ c.in-Err.ensures.back in
    let theirs : Asks s.fair c.args.key c.args.number c.ask.new.fair c.job.inside.acquire.key c.job.inside.acquire.stage =
    record { key = ap (λ (x : Waiting). x.key) same ∙ asks.key; stage = ap (λ (x : Waiting). x.stage) same ∙ asks.stage; becomes = asks.becomes } in
    let gone = gives_up s.fair s.queued s.running.things (c.self.invariant.fair still) c.ask.new.fair c.args.number c.args.key c.job.inside.acquire.key c.job.inside.acquire.stage theirs
    c.cancel.new.self c.cancel.ensures.cancels c.cancel.ensures.settled in
    let things = c.reserve.ensures.things in
    let kept = c.in-Err.ensures.err in
    let full = c.requires.none in
    let running = ap (λ (w : Work). len w.running) (is_seen c.self.view_is) in
    let permits = ap (λ (w : Work). w.permits) (is_seen c.self.view_is) in
    record {
      some = c.self.invariant.some;
      counted = c.self.invariant.counted ∙ sym (ap len things);
      few = c.self.invariant.few;
      room = λ g. (let as_long = ap len kept in omega (arith, as_long, c.self.invariant.room g, c.reserve.ensures.grows));
      free = λ g. omega (arith, gone.1, asks.becomes.permits, c.self.invariant.free g, c.self.invariant.counted, full, running, permits);
      fair = λ g. subst (λ n. IsFair c.cancel.new.self c.insert.new.self n) (sym things) (subst (λ q. IsFair c.cancel.new.self q s.running.things) (sym kept) gone.0);
    }

pub returns-in-Ok-clause-ok : goal.returns-in-Ok-clause-ok
returns-in-Ok-clause-ok c =
    let s = c.self.inside in
    let old = c.args.self.now.seen in
    let still = going s.permits s.queued s.running.things s.stopped old (is_seen c.self.view_is) c.requires.still in
    let put = c.in-Ok.ensures.ok in
    let key = c.in_ok-acquire.ensures.ok.key in
    (λ i. work_seen s.permits (put i) (c.reserve.ensures.things i) s.stopped)
    ∙ seen_queued s.permits s.queued s.running.things s.stopped old c.args.number (record { key = c.in_ok-acquire.acquire.key; stage = c.in_ok-acquire.acquire.stage; value = c.args.value }) (is_seen c.self.view_is) still
    ∙ (λ i. record old { queued = insert old.queued c.args.number (record { key = key i; value = c.args.value }) })

pub returns-in-Err-clause-asked : goal.returns-in-Err-clause-asked
returns-in-Err-clause-asked c =
    let s = c.self.inside in
    let still = going s.permits s.queued s.running.things s.stopped c.args.self.now.seen (is_seen c.self.view_is) c.requires.still in
    let asks = c.in_ok-acquire.ensures.ok in
    let same = c.job.view_is ∙ c.in-Err.ensures.back in
    let theirs : Asks s.fair c.args.key c.args.number c.ask.new.fair c.job.inside.acquire.key c.job.inside.acquire.stage =
    record { key = ap (λ (x : Waiting). x.key) same ∙ asks.key; stage = ap (λ (x : Waiting). x.stage) same ∙ asks.stage; becomes = asks.becomes } in
    let gone = gives_up s.fair s.queued s.running.things (c.self.invariant.fair still) c.ask.new.fair c.args.number c.args.key c.job.inside.acquire.key c.job.inside.acquire.stage theirs
    c.cancel.new.self c.cancel.ensures.cancels c.cancel.ensures.settled in
    let asked = ap (λ (k : Kept). k.asked) c.self.view_is in
    omega (arith, gone.2, asked)
