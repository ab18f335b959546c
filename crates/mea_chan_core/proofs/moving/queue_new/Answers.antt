use Rattle.std.proofs.Common.{◌≡◌, ◌-◌, ◌<◌, ℕ, ap, sym, ◌∙◌, arith}
use Rattle.mea_chan_core.proofs.Senders.{undone}
use Rattle.mea_chan_core.proofs.moving.queue_new.Goals as goal

pub returns : goal.returns
returns g c =
    let taken = c.forget-lost.ensures in
    let none : c.forget-lost.new.self.free < 1 = omega (arith, taken.taken, ap (λ s. s.free) taken.is, taken.within, c.requires.few) in
    let polls = rw c.new-acquire.ensures at c.in-Err.ensures.polls in
    let failed = polls.1 none in
    let s = c.args.semaphore.now in
    let lost : c.poll.new.self ≡ record s { free = s.free - c.forget-lost.result; live = s.live - c.forget-lost.result } =
    failed.1 ∙ taken.is ∙ ap (λ (n : ℕ). record s { free = s.free - n; live = s.live - n }) (sym taken.taken) in (
      failed.0,
      undone s c.poll.new.self c.release.new.self c.forget-lost.result c.release.result c.requires (omega (arith, taken.taken)) taken.within taken.idle lost c.release.ensures.overflow c.release.ensures.ok,
    )
