use Rattle.std.proofs.Common.{None, refl, sym, ◌∙◌}
use Rattle.mea_meet.proofs.BarrierSites.{site, wait_told, untaken, waits_barrier, some_waits, ended}
use Rattle.mea_family.proofs.Refusals.{unknown}
use Rattle.mea_meet.proofs.barrier_part.BarrierPart.end.Goals as goal

pub invariant_of-self : goal.invariant_of-self
invariant_of-self c = (untaken (site c.self.inside.barriers c.self.inside.waits c.self.inside.next c.self.view_is c.self.invariant c.requires) c.args.f (sym c.take.ensures.value ∙ c.in_default.is) _ c.take.ensures.rest).0

pub returns-in_default : goal.returns-in_default
returns-in_default c = (unknown _ _ (wait_told (site c.self.inside.barriers c.self.inside.waits c.self.inside.next c.self.view_is c.self.invariant c.requires) c.args.f None (sym c.take.ensures.value ∙ c.in_default.is)), (untaken (site c.self.inside.barriers c.self.inside.waits c.self.inside.next c.self.view_is c.self.invariant c.requires) c.args.f (sym c.take.ensures.value ∙ c.in_default.is) _ c.take.ensures.rest).1)

pub at_mut-requires : goal.at_mut-requires
at_mut-requires c = waits_barrier (site c.self.inside.barriers c.self.inside.waits c.self.inside.next c.self.view_is c.self.invariant c.requires) c.args.f c.in-Some.future (sym c.take.ensures.value ∙ c.in-Some.is)

pub overflow_sub-at_mut : goal.overflow_sub-at_mut
overflow_sub-at_mut c = some_waits (site c.self.inside.barriers c.self.inside.waits c.self.inside.next c.self.view_is c.self.invariant c.requires) c.in-Some.future.barrier c.at_mut.result.now c.at_mut.ensures.value c.args.f c.in-Some.future (sym c.take.ensures.value ∙ c.in-Some.is) refl

pub invariant_of-self-2 : goal.invariant_of-self-2
invariant_of-self-2 c = (ended (site c.self.inside.barriers c.self.inside.waits c.self.inside.next c.self.view_is c.self.invariant c.requires) c.in-Some.future.barrier c.at_mut.result.now c.at_mut.ensures.value c.args.f c.in-Some.future (sym c.take.ensures.value ∙ c.in-Some.is) refl c.take.new.self c.take.ensures.rest).0

pub returns : goal.returns
returns c = (ended (site c.self.inside.barriers c.self.inside.waits c.self.inside.next c.self.view_is c.self.invariant c.requires) c.in-Some.future.barrier c.at_mut.result.now c.at_mut.ensures.value c.args.f c.in-Some.future (sym c.take.ensures.value ∙ c.in-Some.is) refl c.take.new.self c.take.ensures.rest).1
