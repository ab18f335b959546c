use Rattle.std.proofs.Common.{◌≡◌, ℕ, ◌+◌, ◌-◌, ◌<◌, ◌≤◌, length, ap, ◌∙◌, rules}
use Rattle.mea_sem_core.specs.Calls.{Queues}
use Rattle.mea_sem_core.specs.declared.acquire.Acquire.TheVariants.{Queued}
use Rattle.mea_chan_core.specs.Bounded.{without_free}
use Rattle.mea_chan_core.proofs.Senders.{queues_anew, still_out}
use Rattle.mea_chan_core.proofs.Sends.{option_few}
use Rattle.mea_chan_core.proofs.bounded.BoundedCore.queue_anew.Goals as goal

pub lose_acquire-requires : goal.lose_acquire-requires
lose_acquire-requires g c =
    let queued : (number : ℕ) × Queues (without_free c.self.inside.waiting) c.queue_new.new.semaphore 1 c.args.waker number × (c.in-Ok.anew ≡ Queued 1 number) = c.in-Ok.ensures in
    let out = rw (← c.self.view_is) at c.requires.out in
    rw c.replace-old.ensures.value (still_out c.self.inside.waiting c.queue_new.new.semaphore c.args.acquire.now queued.0 c.args.waker out queued.1)

pub invariant_of-self-in-Ok : goal.invariant_of-self-in-Ok
invariant_of-self-in-Ok g c =
    let queued : (number : ℕ) × Queues (without_free c.self.inside.waiting) c.queue_new.new.semaphore 1 c.args.waker number × (c.in-Ok.anew ≡ Queued 1 number) = c.in-Ok.ensures in
    let loses = rw c.replace-old.ensures.value at c.lose_acquire.ensures.loses in
    let few : (c.self.inside.waiting.live - c.self.inside.waiting.free) + length c.self.inside.waiting.queue + 1 < 18446744073709551615 = search rules in
    let out = rw (← c.self.view_is) at c.requires.out in
    let anew = queues_anew c.self.inside.waiting c.queue_new.new.semaphore c.lose_acquire.new.self c.args.acquire.now queued.0 c.args.waker c.self.invariant.waiting few out queued.1 loses in
    let reserved : length c.self.inside.waiting.queue + 2 ≤ c.reserve.new.self.spare = search rules in
    let one = option_few c.self.inside.waker in
    search rules

pub returns-in-Ok-clause-queues : goal.returns-in-Ok-clause-queues
returns-in-Ok-clause-queues g c =
    let queued : (number : ℕ) × Queues (without_free c.self.inside.waiting) c.queue_new.new.semaphore 1 c.args.waker number × (c.in-Ok.anew ≡ Queued 1 number) = c.in-Ok.ensures in
    let loses = rw c.replace-old.ensures.value at c.lose_acquire.ensures.loses in
    let wakes = ap (λ o. o.wakers) c.reserve.ensures.rest_kept in
    rw (← c.self.view_is) (c.queue_new.new.semaphore, c.lose_acquire.new.self, queued.0, queued.1, loses, c.replace-old.ensures.after ∙ queued.2, λ i. record { queued = c.self.inside.messages.items; capacity = c.self.inside.capacity; senders = c.self.inside.senders; ended = c.self.inside.ended; waker = c.self.inside.waker; waiting = c.lose_acquire.new.self; wakes = wakes i })
