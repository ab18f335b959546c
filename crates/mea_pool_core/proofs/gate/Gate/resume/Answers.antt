use Rattle.std.proofs.Common.{◌≡◌, true, false, Ok, refl, sym, subst, ◌∙◌}
use Rattle.mea_base.specs.declared.poll.Poll.TheVariants as poll
use Rattle.mea_base.specs.declared.turn.Turn.{Turn}
use Rattle.mea_lock_core.specs.CondWaits.{PollsListed}
use Rattle.mea_pool_core.specs.declared.drain_wait.DrainWait.TheVariants.{Listed, Done}
use Rattle.mea_pool_core.specs.Gate.{Gate, MayPollAt, PollsGate, gate_of}
use Rattle.mea_pool_core.proofs.Gates.{through, stays_open, gate_through}
use Rattle.mea_pool_core.proofs.gate.Gate.resume.Goals as goal

pub invariant_of-self-2 : goal.invariant_of-self-2
invariant_of-self-2 g c =
    let known = subst (λ (h : Gate g.row.W.Denot). MayPollAt h.waiting h.told (Listed c.args.number)) (sym c.self.view_is) c.requires.known in
    let polls = subst (λ (t : Turn g.row.W.Denot). PollsListed c.self.inside.waits c.self.inside.flag c.args.number c.args.waker (Ok t) c.poll_wait.new.self c.poll_wait.new.lock c.poll_wait.new.wait) c.in-Ready.is c.in_ok-turn.ensures.polls in
    stays_open c.self.inside.flag c.poll_wait.new.lock c.unlock.new.self c.self.inside.waits c.poll_wait.new.self c.args.number c.self.invariant
    (through c.self.inside.flag c.poll_wait.new.lock c.self.inside.waits c.poll_wait.new.self c.args.number c.args.waker c.in-Ready.field-0 c.poll_wait.new.wait c.self.invariant known polls) c.unlock.ensures.is

pub returns-clause-polls : goal.returns-clause-polls
returns-clause-polls g c =
    let known = subst (λ (h : Gate g.row.W.Denot). MayPollAt h.waiting h.told (Listed c.args.number)) (sym c.self.view_is) c.requires.known in
    let polls = subst (λ (t : Turn g.row.W.Denot). PollsListed c.self.inside.waits c.self.inside.flag c.args.number c.args.waker (Ok t) c.poll_wait.new.self c.poll_wait.new.lock c.poll_wait.new.wait) c.in-Ready.is c.in_ok-turn.ensures.polls in
    let thr = through c.self.inside.flag c.poll_wait.new.lock c.self.inside.waits c.poll_wait.new.self c.args.number c.args.waker c.in-Ready.field-0 c.poll_wait.new.wait c.self.invariant known polls in
    subst (λ (h : Gate g.row.W.Denot). PollsGate h (Listed c.args.number) c.args.waker (Ok (poll.Ready tt)) (gate_of c.unlock.new.self c.poll_wait.new.self) Done) c.self.view_is (
      (λ opens. (refl, gate_through c.self.inside.flag c.poll_wait.new.lock c.unlock.new.self c.self.inside.waits c.poll_wait.new.self c.args.number thr c.unlock.ensures.is, refl)),
      (λ shut. absurd (let both : true ≡ false = sym thr.opened ∙ shut in cc)),
    )
