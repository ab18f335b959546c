use Rattle.std.proofs.Common.{sym, ◌∙◌}
use Rattle.mea_sem_core.proofs.Leaves.{place_of_one, in_use_at, belongs_from_slot, slot_from_belongs}
use Rattle.mea_sem_core.proofs.sem_core.SemCore.poll_allowed.Goals as goal

pub returns-then-is_in_use : goal.returns-then-is_in_use
returns-then-is_in_use g c =
    rw (c.in-Queued.is, ← c.self.view_is) (
      (λ yes. belongs_from_slot c.self.inside.waiters c.self.inside.closed c.in-Queued.demand c.in-Queued.number c.get.result.now c.self.invariant.kept c.self.invariant.closing c.get.ensures
          (sym c.is_acquire_of.ensures ∙ yes)),
      (λ belongs. c.is_acquire_of.ensures
          ∙ slot_from_belongs c.self.inside.waiters c.self.inside.closed c.in-Queued.demand c.in-Queued.number c.get.result.now c.get.ensures belongs),
    )

pub returns-else-is_in_use : goal.returns-else-is_in_use
returns-else-is_in_use g c =
    rw (c.in-Queued.is, ← c.self.view_is) (
      (λ yes. absurd (let no = c.if-is_in_use.false in cc)),
      (λ belongs. c.is_in_use.ensures.1
          (in_use_at c.self.inside.waiters c.in-Queued.demand c.in-Queued.number (place_of_one c.self.inside.waiters c.self.inside.closed c.in-Queued.demand c.in-Queued.number belongs))),
    )
