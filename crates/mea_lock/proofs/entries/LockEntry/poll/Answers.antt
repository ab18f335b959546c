use Rattle.std.proofs.Common.{◌≡◌, ◌+◌, ◌-◌, ℕ, inl, inr, ap, refl, ◌∙◌, arith}
use Rattle.mea_base.specs.Ready.{Waking}
use Rattle.mea_lock.proofs.Lengths.{lock_poll_leaves}
use Rattle.mea_lock.proofs.entries.LockEntry.poll.Goals as goal

pub overflow_sub-more : goal.overflow_sub-more
overflow_sub-more g c = elim ((lock_poll_leaves (g.C.LockCore.lock_of c.self.inside.core) (g.C.LockCore.lock_of c.poll.new.self) _ _ _ c.in-Ok.turn c.queue_len-before.ensures.sound c.in-Ok.ensures.polls
    (rw (← c.self.view_is, ← c.future.view_is) at c.requires.allowed)).0) [
      | inl same ↦ omega (arith, same, c.queue_len-before.ensures.is, c.queue_len.ensures.is)
      | inr more ↦ omega (arith, more, c.queue_len-before.ensures.is, c.queue_len.ensures.is)
    ]

pub overflow_sub-more-2 : goal.overflow_sub-more-2
overflow_sub-more-2 g c = elim ((lock_poll_leaves (g.C.LockCore.lock_of c.self.inside.core) (g.C.LockCore.lock_of c.poll.new.self) _ _ _ c.in-Ok.turn c.queue_len-before.ensures.sound c.in-Ok.ensures.polls
    (rw (← c.self.view_is, ← c.future.view_is) at c.requires.allowed)).0) [
      | inl same ↦ omega (arith, same, c.queue_len-before.ensures.is, c.queue_len.ensures.is)
      | inr more ↦ omega (arith, more, c.queue_len-before.ensures.is, c.queue_len.ensures.is)
    ]

pub returns-clause-polls : goal.returns-clause-polls
returns-clause-polls g c =
    let one = c.in_ok-register.ensures.ok in
    let rise = ap (λ (r : Waking ℕ). r.registered) one in
    let fall = ap (λ (r : Waking ℕ). r.registered) c.unregister-2.ensures in
    let counted : c.unregister-2.new.self.registered + c.queue_len-before.result ≡ c.args.ready.now.registered + c.queue_len.result =
    elim ((lock_poll_leaves (g.C.LockCore.lock_of c.self.inside.core) (g.C.LockCore.lock_of c.poll.new.self) _ _ _ c.in-Ok.turn c.queue_len-before.ensures.sound c.in-Ok.ensures.polls
    (rw (← c.self.view_is, ← c.future.view_is) at c.requires.allowed)).0) [
      | inl same ↦ omega (arith, same, rise, fall, c.queue_len-before.ensures.is, c.queue_len.ensures.is)
      | inr more ↦ omega (arith, more, rise, fall, c.queue_len-before.ensures.is, c.queue_len.ensures.is)
    ] in
    rw (← c.self.view_is, ← c.future.view_is) (record {
      left = g.C.LockCore.lock_of c.poll.new.self;
      polls = c.in-Ok.ensures.polls;
      entry = refl;
      future = refl;
      wakers = ap (λ (r : Waking ℕ). r.wakers) (c.unregister-2.ensures ∙ ap (λ (r : Waking ℕ). record r { registered = r.registered - (1 - (c.queue_len.result - c.queue_len-before.result)) }) one);
      counted = omega (arith, counted, c.queue_len-before.ensures.is, c.queue_len.ensures.is);
    })
