use Rattle.std.proofs.Common.{arith, ap, sym, refl, ◌∙◌, ◌++◌, ℕ, map}
use Rattle.mea_by_name.specs.declared.named_waker.NamedWaker.{NamedWaker}
use Rattle.mea_base.specs.Ready.{Waking}
use Rattle.mea_chan.specs.BoundedCores.{kept_by}
use Rattle.mea_chan.proofs.BoundedSteps.{poll_fits}
use Rattle.mea_chan.proofs.bounded_entry.BoundedEntry.poll_send.Goals as goal

pub settle-requires-clause-fits : goal.settle-requires-clause-fits
settle-requires-clause-fits c = rw (c.kept_wakers-before.ensures.count, ← c.self.view_is) (poll_fits c.self.inside.core (rw (← c.self.view_is) at c.requires.quiet) (rw (← c.self.view_is) at c.kept_wakers-before.ensures.channel) _ _ _ _ _ c.in-Ok.turn c.poll_send.new.self
    (rw (← c.self.view_is, ← c.send.view_is) at c.requires.belongs) c.in-Ok.ensures)

pub returns-clause-polls : goal.returns-clause-polls
returns-clause-polls c =
    let one = c.in_ok-register.ensures.ok in
    let rise = ap (λ (r : Waking ℕ). r.registered) one in
    let before = c.kept_wakers-before.ensures.count ∙ ap kept_by (sym c.self.view_is) in
    rw (← c.self.view_is, ← c.send.view_is) (record {
      left = c.poll_send.new.self;
      polls = c.in-Ok.ensures;
      same = refl;
      one = c.poll_send.new.send.one;
      settles = record {
        entry = c.settle.ensures.entry;
        wakers = c.settle.ensures.wakers ∙ ap (λ (r : Waking ℕ). r.wakers ++ map (λ (k : NamedWaker). k.waker) c.poll_send.new.self.wakes) one;
        counted = omega (arith, c.settle.ensures.counted, before, rise);
      };
    })
