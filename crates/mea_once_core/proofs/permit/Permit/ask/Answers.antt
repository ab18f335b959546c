use Rattle.std.proofs.Common.{◌≤◌, ◌+◌, length, sym, subst, rules}
use Rattle.mea_sem_core.specs.Core.{Core}
use Rattle.mea_once_core.specs.Permit.{asks_more, MayAsk}
use Rattle.mea_once_core.proofs.Permits.{stays_permit, asks_polled, few_polled}
use Rattle.mea_once_core.proofs.permit.Permit.ask.Goals as goal

pub invariant_of-self-2 : goal.invariant_of-self-2
invariant_of-self-2 g c =
    stays_permit c.self.inside.sem c.poll.new.self c.self.invariant (c.poll.ensures.sound c.self.invariant.sound) c.poll.ensures.steady
    (asks_polled c.args.stage.now c.self.inside.sem c.poll.new.self c.poll.new.acquire c.args.waker c.poll.result c.self.invariant.asks (subst (λ s. MayAsk s c.args.stage.now) (sym c.self.view_is) c.requires) (search rules))

pub returns-clause-sound : goal.returns-clause-sound
returns-clause-sound g c =
    stays_permit c.self.inside.sem c.poll.new.self c.self.invariant (c.poll.ensures.sound c.self.invariant.sound) c.poll.ensures.steady
    (asks_polled c.args.stage.now c.self.inside.sem c.poll.new.self c.poll.new.acquire c.args.waker c.poll.result c.self.invariant.asks (subst (λ s. MayAsk s c.args.stage.now) (sym c.self.view_is) c.requires) (search rules))

pub returns-clause-few : goal.returns-clause-few
returns-clause-few g c =
    subst (λ (s : Core g.row.W.Denot). length c.poll.new.self.queue + length c.poll.new.self.wakes ≤ length s.queue + length s.wakes + asks_more s c.args.stage.now) c.self.view_is
    (few_polled c.args.stage.now c.self.inside.sem c.poll.new.self c.poll.new.acquire c.args.waker c.poll.result (subst (λ s. MayAsk s c.args.stage.now) (sym c.self.view_is) c.requires) (search rules))
