use Rattle.std.proofs.Common.{◌≤◌, ◌+◌, length, sym, subst, rules}
use Rattle.mea_sem_core.specs.Core.{Core}
use Rattle.mea_once_core.specs.Permit.{MayEnd, Leaves}
use Rattle.mea_once_core.specs.declared.cell_stage.CellStage.TheVariants.{Queued}
use Rattle.mea_once_core.proofs.Permits.{cancelled, cancelled_permit, few_cancelled}
use Rattle.mea_once_core.proofs.permit.Permit.leave.Goals as goal

pub invariant_of-self : goal.invariant_of-self
invariant_of-self g c =
    cancelled_permit c.self.inside.sem c.cancel.new.self c.in-Queued.number c.self.invariant (c.cancel.ensures.sound c.self.invariant.sound) c.cancel.ensures.steady c.cancel.ensures.cancels
    (subst (λ s. MayEnd s (Queued c.in-Queued.number)) (sym c.self.view_is) (subst (λ stage. MayEnd c.args.self.now stage) c.in-Queued.is c.requires))

pub returns-in-New-clause-sound : goal.returns-in-New-clause-sound
returns-in-New-clause-sound g c = search rules

pub returns-in-Queued-clause-leaves : goal.returns-in-Queued-clause-leaves
returns-in-Queued-clause-leaves g c =
    subst (λ stage. Leaves c.args.self.now stage c.cancel.new.self) (sym c.in-Queued.is)
    (subst (λ s. Leaves s (Queued c.in-Queued.number) c.cancel.new.self) c.self.view_is
    (cancelled c.self.inside.sem c.cancel.new.self c.in-Queued.number c.self.invariant (c.cancel.ensures.sound c.self.invariant.sound) c.cancel.ensures.steady c.cancel.ensures.cancels))

pub returns-in-Queued-clause-sound : goal.returns-in-Queued-clause-sound
returns-in-Queued-clause-sound g c =
    cancelled_permit c.self.inside.sem c.cancel.new.self c.in-Queued.number c.self.invariant (c.cancel.ensures.sound c.self.invariant.sound) c.cancel.ensures.steady c.cancel.ensures.cancels
    (subst (λ s. MayEnd s (Queued c.in-Queued.number)) (sym c.self.view_is) (subst (λ stage. MayEnd c.args.self.now stage) c.in-Queued.is c.requires))

pub returns-in-Queued-clause-few : goal.returns-in-Queued-clause-few
returns-in-Queued-clause-few g c =
    subst (λ (s : Core g.row.W.Denot). length c.cancel.new.self.queue + length c.cancel.new.self.wakes ≤ length s.queue + length s.wakes) c.self.view_is
    (few_cancelled c.self.inside.sem c.cancel.new.self c.in-Queued.number
    (cancelled c.self.inside.sem c.cancel.new.self c.in-Queued.number c.self.invariant (c.cancel.ensures.sound c.self.invariant.sound) c.cancel.ensures.steady c.cancel.ensures.cancels)
    (subst (λ s. MayEnd s (Queued c.in-Queued.number)) (sym c.self.view_is) (subst (λ stage. MayEnd c.args.self.now stage) c.in-Queued.is c.requires)))
