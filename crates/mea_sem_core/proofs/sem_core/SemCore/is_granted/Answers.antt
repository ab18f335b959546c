use Rattle.std.proofs.Common.{inl, sym, subst, ◌∙◌}
use Rattle.mea_sem_core.specs.Core.{Core}
use Rattle.mea_sem_core.specs.Calls.{StandsAs}
use Rattle.mea_sem_core.specs.declared.acquire.Acquire.TheVariants.{Queued}
use Rattle.mea_sem_core.proofs.Leaves.{place_of_one, in_use_at, granted_at, granted_from_slot, slot_from_granted, granted_apart, stands_at}
use Rattle.mea_sem_core.proofs.sem_core.SemCore.is_granted.Goals as goal

pub returns-then-is_in_use-clause-granted : goal.returns-then-is_in_use-clause-granted
returns-then-is_in_use-clause-granted g c =
    rw (c.in-Queued.is, ← c.self.view_is) (
      (λ yes. granted_from_slot c.self.inside.waiters c.in-Queued.demand c.in-Queued.number c.get.result.now c.get.ensures (sym c.is_grant_of.ensures ∙ yes)),
      (λ granted. c.is_grant_of.ensures ∙ slot_from_granted c.self.inside.waiters c.in-Queued.demand c.in-Queued.number c.get.result.now c.get.ensures granted),
    )

pub returns-then-is_in_use-clause-apart : goal.returns-then-is_in_use-clause-apart
returns-then-is_in_use-clause-apart g c = rw (c.in-Queued.is, ← c.self.view_is) (λ yes.
    granted_apart c.self.inside.waiters c.in-Queued.demand c.in-Queued.number c.self.invariant.kept
    (granted_at c.self.inside.waiters c.in-Queued.demand c.in-Queued.number c.get.result.now c.get.ensures (sym c.is_grant_of.ensures ∙ yes)))

pub returns-then-is_in_use-clause-stands : goal.returns-then-is_in_use-clause-stands
returns-then-is_in_use-clause-stands g c = rw c.in-Queued.is (λ belongs.
    let here = stands_at c.self.inside.waiters c.self.inside.free c.self.inside.live c.self.inside.closed c.self.inside.outbox.wakers c.in-Queued.demand c.in-Queued.number c.get.result.now c.is_grant_of.result c.get.ensures c.is_grant_of.ensures (rw (← c.self.view_is) at belongs) in
    subst (λ (s : Core g.row.W.Denot). StandsAs s (Queued c.in-Queued.demand c.in-Queued.number) c.is_grant_of.result) c.self.view_is here)

pub returns-else-is_in_use-clause-granted : goal.returns-else-is_in_use-clause-granted
returns-else-is_in_use-clause-granted g c =
    rw (c.in-Queued.is, ← c.self.view_is) (
      (λ yes. absurd (let no = c.if-is_in_use.false in cc)),
      (λ granted. c.is_in_use.ensures.1
          (in_use_at c.self.inside.waiters c.in-Queued.demand c.in-Queued.number
          (place_of_one c.self.inside.waiters c.self.inside.closed c.in-Queued.demand c.in-Queued.number (inl (inl granted))))),
    )

pub returns-else-is_in_use-clause-stands : goal.returns-else-is_in_use-clause-stands
returns-else-is_in_use-clause-stands g c = rw c.in-Queued.is (λ belongs.
    let used = c.is_in_use.ensures.1
    (in_use_at c.self.inside.waiters c.in-Queued.demand c.in-Queued.number
    (place_of_one c.self.inside.waiters c.self.inside.closed c.in-Queued.demand c.in-Queued.number (rw (← c.self.view_is) at belongs))) in
    absurd (let no = c.if-is_in_use.false in cc))
